use Rattle.std.proofs.Common.{◌≡◌, ℕ, List, true, refl, subst}
use Rattle.std.specs.List.{AllByRecursion}
use Rattle.std.proofs.lemmas.List.{take_all}
use Rattle.depot_model.specs.journals.Journal.{accepted, is_foreign}
use Rattle.depot_decide.proofs.record_check.are_foreign.Goals as goal

pub returns : goal.returns
returns g c = (
  λ _. subst (AllByRecursion (λ (h : List ℕ). is_foreign c.args.readings.now.me (accepted c.args.readings.now.records) h ≡ true)) (take_all c.loop-id.id-index c.args.ids.now c.loop-id-test.false) c.loop-id.invariant,
  λ _. refl,
)
