use Rattle.std.proofs.Common.{[], ◌∷◌, Ok, Err, sym, ap, ◌∙◌}
use Rattle.sha2.specs.Sha256.{sha256}
use Rattle.depot_base.specs.declared.check.Check.TheVariants as check
use Rattle.depot_base.specs.declared.record.Record.TheVariants.{Held}
use Rattle.depot_model.specs.declared.taken.Taken.TheVariants.{New, Known}
use Rattle.depot_model.specs.checks.Checks.{given_value}
use Rattle.depot_readings.specs.ReadingsView.{standing}
use Rattle.depot_decide.proofs.Decided.{made_decision, made_growth}
use Rattle.depot_decide.proofs.ValueAnswers.{hash_is_held, hash_is_wanted, value_known, value_unwanted, value_new}
use Rattle.depot_decide.proofs.value.decide_short.Goals as goal

pub returns-then-is_some-clause-decided : goal.returns-then-is_some-clause-decided
returns-then-is_some-clause-decided g c =
    let here = standing g.S.Scheme.verifies c.args.readings.now in
    made_decision here c.args.readings.now.records (given_value c.args.bytes.now) (Ok Known) [] _ c.of.ensures
    (value_known here c.args.readings.now.records c.args.bytes.now
    (hash_is_held c.args.readings.now.records c.args.bytes.now c.hash_of-hash.result c.value.result _ _ c.hash_of-hash.ensures c.value.ensures c.is_some.ensures c.if-is_some.true))

pub returns-then-not-is_wanted-clause-decided : goal.returns-then-not-is_wanted-clause-decided
returns-then-not-is_wanted-clause-decided g c =
    let here = standing g.S.Scheme.verifies c.args.readings.now in
    made_decision here c.args.readings.now.records (given_value c.args.bytes.now) (Err (check.Unwanted c.hash_of-hash.result)) [] _ c.of-then-not-is_wanted.ensures
    (value_unwanted here c.args.readings.now.records c.args.bytes.now c.hash_of-hash.result c.hash_of-hash.ensures
    (hash_is_held c.args.readings.now.records c.args.bytes.now c.hash_of-hash.result c.value.result _ _ c.hash_of-hash.ensures c.value.ensures c.is_some.ensures c.if-is_some.false)
    (hash_is_wanted c.args.readings.now.records c.args.bytes.now c.hash_of-hash.result _ _ c.hash_of-hash.ensures c.is_wanted.ensures c.if-not-is_wanted.true))

pub held-requires : goal.held-requires
held-requires g c = record { hash = c.hash_of-hash.ensures ∙ ap sha256 (sym (c.from_bytes-value.ensures ∙ c.in_ok-from_slice.ensures)) }

pub returns-clause-decided : goal.returns-clause-decided
returns-clause-decided g c =
    let here = standing g.S.Scheme.verifies c.args.readings.now in
    made_growth here c.args.readings.now.records (given_value c.args.bytes.now) (Ok New) (Held c.from_bytes-value.result ∷ []) _ c.held.ensures
    (value_new here c.args.readings.now.records c.args.bytes.now c.from_bytes-value.result (c.from_bytes-value.ensures ∙ c.in_ok-from_slice.ensures)
    (hash_is_held c.args.readings.now.records c.args.bytes.now c.hash_of-hash.result c.value.result _ _ c.hash_of-hash.ensures c.value.ensures c.is_some.ensures c.if-is_some.false)
    (hash_is_wanted c.args.readings.now.records c.args.bytes.now c.hash_of-hash.result _ _ c.hash_of-hash.ensures c.is_wanted.ensures c.if-not-is_wanted.false))
