use Rattle.std.proofs.Common.{◌∙◌, length, sym, ap}
use Rattle.depot_trim.proofs.ReaderReads.{accepted_is}
use Rattle.depot_trim.proofs.trimmed.Trimmed.accepted.Goals as goal

pub returns : goal.returns
returns g c = λ R r. c.count.ensures ∙ ap length (c.graph.ensures ∙ sym (accepted_is g.S.Scheme.verifies R c.args.self.now r))
