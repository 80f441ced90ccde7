use Rattle.std.proofs.Common.{List, sym, ap, ◌∙◌}
use Rattle.depot_base.specs.declared.update.Update.{Update}
use Rattle.depot_readings.specs.LeavesWith.{leaves_with}
use Rattle.depot_trim.proofs.ReaderReads.{accepted_is}
use Rattle.depot_trim.proofs.ReaderTakes.{leaves_are_few}
use Rattle.depot_trim.proofs.trimmed.Trimmed.leaves_with.Goals as goal

pub leaves_with-requires : goal.leaves_with-requires
leaves_with-requires g c = leaves_are_few g.S.Scheme.verifies c.requires.0 c.args.self.now c.requires.1

pub returns : goal.returns
returns g c R is =
    c.leaves_with.ensures ∙ ap (λ (us : List Update). leaves_with us c.args.self.now.counts.leaves c.args.growth.now) (c.graph.ensures ∙ sym (accepted_is g.S.Scheme.verifies R c.args.self.now is))
