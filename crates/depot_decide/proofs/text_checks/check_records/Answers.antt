use Rattle.std.proofs.Common.{ℕ, List, IfOk, subst}
use Rattle.depot_model.specs.checks.Checks.{Setting}
use Rattle.depot_readings.specs.ReadingsView.{standing}
use Rattle.depot_decide.specs.TextFaults.{AreCheckedAs}
use Rattle.depot_decide.proofs.text_checks.check_records.Goals as goal

pub returns : goal.returns
returns g c =
    subst (λ (s : Setting). IfOk c.take_texts-found.result (AreCheckedAs s c.args.texts.now)) c.in_ok-readings.ensures.stands
    (subst (λ (texts : List (List ℕ)). IfOk c.take_texts-found.result (AreCheckedAs (standing g.S.Scheme.verifies c.in_ok-readings.readings) texts)) c.as_slice.ensures c.take_texts-found.ensures)
