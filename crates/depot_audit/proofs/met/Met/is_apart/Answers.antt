use Rattle.std.proofs.Common.{sym, ◌∙◌}
use Rattle.std.proofs.lemmas.Bool.{both_ways}
use Rattle.depot_audit.proofs.MetRecords.{apart_from, apart_to}
use Rattle.depot_audit.proofs.met.Met.is_apart.Goals as goal

pub returns-then-updates : goal.returns-then-updates
returns-then-updates c = λ W world m. (
  λ e. apart_from W world c.args.self.now m (sym c.is_apart-updates.ensures ∙ c.if-updates.true) (sym c.is_apart-values.ensures ∙ e),
  λ free. c.is_apart-values.ensures ∙ (apart_to W world c.args.self.now m free).1,
)

pub returns-else-updates : goal.returns-else-updates
returns-else-updates c = λ W world m. (
  λ e. absurd cc,
  λ free. absurd (both_ways c.is_apart-updates.result c.if-updates.false (c.is_apart-updates.ensures ∙ (apart_to W world c.args.self.now m free).0)),
)
