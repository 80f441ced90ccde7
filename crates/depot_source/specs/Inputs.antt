-- A source before and after a run.
use Rattle.std.specs.Prelude.{ℕ, List, Bool}
use Rattle.depot_source.specs.declared.source.Source as source_of

-- what it gave, what it is still to give where that is visible, whether its last call found its end, and its count of
-- faults
pub record Inputs : Type 0 where
  pub tells : Bool
  pub before : List ℕ
  pub after : List ℕ
  pub rest : List ℕ
  pub rest_after : List ℕ
  pub over : Bool
  pub faults_before : ℕ
  pub faults_after : ℕ

abbrev pub inputs : {I : Type 0} → source_of.Ghosts I → I → I → Inputs
inputs g old new = record {
  tells = g.tells old;
  before = g.given old;
  after = g.given new;
  rest = g.rest old;
  rest_after = g.rest new;
  over = g.over new;
  faults_before = g.faults old;
  faults_after = g.faults new;
}
