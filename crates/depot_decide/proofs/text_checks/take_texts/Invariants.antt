use Rattle.std.proofs.Common.{take}
use Rattle.depot_readings.specs.ReadingsView.{standing}
use Rattle.depot_decide.proofs.TakenTexts.{IsTaking}
use Rattle.depot_decide.proofs.text_checks.take_texts.Given as goal

abbrev pub invariant-loop-text : goal.invariant-loop-text
invariant-loop-text g l = IsTaking (standing g.S.Scheme.verifies l.fn.readings) g.S.Scheme.verifies (take l.text-index l.texts) l.readings
