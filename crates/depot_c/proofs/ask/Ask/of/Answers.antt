use Rattle.std.proofs.Common.{None, arith, sym}
use Rattle.std.proofs.lemmas.List.{get_or_past}
use Rattle.depot_c.specs.Asked.{asked_operations}
use Rattle.depot_c.proofs.ask.Ask.of.Goals as goal

pub returns-else-place-lt11 : goal.returns-else-place-lt11
returns-else-place-lt11 c = sym (get_or_past asked_operations c.args.op None (omega (arith, c.if-place-lt11.false)))
