use Rattle.std.proofs.Common.{ℕ, List, ap, ◌∙◌, arith}
use Rattle.std.proofs.lemmas.Option.{slice_get_within}
use Rattle.std.proofs.lemmas.Result.{IfOk-weaker}
use Rattle.depot_cli.proofs.HandedTraces.{as_many}
use Rattle.depot_cli.specs.declared.trace_files.GatheredTraces.TheVariants.{Refused}
use Rattle.depot_cli.specs.Runs.{text_of_refusal}
use Rattle.depot_cli.proofs.AuditRuns.{one_at}
use Rattle.depot_cli.proofs.audit_command.audit_files.Goals as goal

pub audited-requires-clause-few : goal.audited-requires-clause-few
audited-requires-clause-few g c =
    let told = rw c.in-Traces.is at c.in_ok-traces.ensures in
    omega (arith, as_many _ _ c.args.names.now c.in-Traces.traces told.gathered.1.0, c.requires.few)

pub bounds-names-place : goal.bounds-names-place
bounds-names-place g c =
    let told = rw c.in-Refused.is at c.in_ok-traces.ensures in
    slice_get_within c.args.names.now c.in-Refused.place told.gathered.1.0.name told.gathered.1.0.at

pub returns-in-Refused-clause-answers : goal.returns-in-Refused-clause-answers
returns-in-Refused-clause-answers g c =
    let told = rw c.in-Refused.is at c.in_ok-traces.ensures in
    IfOk-weaker c.refused.result _ _ (λ o is. (
      Refused c.in-Refused.place c.in-Refused.why,
      (
        told.gathered,
        (
          ap (λ o. o.status) is,
          λ name at.
              ap (λ o. o.text) is ∙ ap (λ (shown : List ℕ). text_of_refusal shown c.in-Refused.why) (c.text.ensures.same ∙ one_at c.args.names.now c.in-Refused.place c.index-names-place.result name c.index-names-place.is at),
        ),
      ),
    )) c.refused.ensures
