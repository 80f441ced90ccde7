use Rattle.std.proofs.Common.{arith}
use Rattle.depot_sign.proofs.RosterParsing.{read_is_kept, parses_ok, stop_is_early, parses_stop}
use Rattle.depot_sign.proofs.roster.Roster.parse.Goals as goal

pub invariant_of-result : goal.invariant_of-result
invariant_of-result c = rw c.hash_of.ensures (read_is_kept c.args.text.now c.in-Ok.entries (λ i. omega (arith, c.type_inv.text i)) c.in-Ok.ensures)

pub error_of-requires : goal.error_of-requires
error_of-requires c = stop_is_early c.args.text.now c.in-Err.stop (λ i. omega (arith, c.type_inv.text i)) c.in-Err.ensures

pub returns-in-Ok : goal.returns-in-Ok
returns-in-Ok c = parses_ok c.args.text.now c.in-Ok.entries (λ i. omega (arith, c.type_inv.text i)) c.in-Ok.ensures

pub returns-in-Err : goal.returns-in-Err
returns-in-Err c = rw c.error_of.ensures (parses_stop c.args.text.now c.in-Err.stop (λ i. omega (arith, c.type_inv.text i)) c.in-Err.ensures)
