use Rattle.std.proofs.Common.{◌≡◌, ◌<◌, ◌∙◌, List, length, Some, sym, subst}
use Rattle.std.specs.Prelude.{slice_get}
use Rattle.std.proofs.lemmas.Option.{slice_get_within}
use Rattle.depot_base.specs.declared.update.Update.{Update}
use Rattle.depot_model.specs.journals.Journal.{accepted}
use Rattle.depot_trim.proofs.ReaderReads.{accepted_is}
use Rattle.depot_trim.proofs.trimmed.Trimmed.update.Goals as goal

pub update-requires : goal.update-requires
update-requires g c =
    let R = c.requires.0 in
    let at = c.requires.1.1.1.0 in
    let same = c.graph.ensures ∙ sym (accepted_is g.S.Scheme.verifies R c.args.self.now c.requires.1.0) in
    subst (λ (us : List Update). c.args.item < length us) (sym same) (slice_get_within (accepted R.journal) c.args.item c.requires.1.1.0 at)

pub returns : goal.returns
returns g c = λ R r.
    let same = c.graph.ensures ∙ sym (accepted_is g.S.Scheme.verifies R c.args.self.now r) in
    subst (λ (us : List Update). slice_get us c.args.item ≡ Some c.update.result.now) same c.update.ensures
