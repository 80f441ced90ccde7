-- What is found of one node's trace.
use Rattle.std.specs.Prelude.{ℕ, ◌≤◌, List, [], ◌∷◌, ◌++◌, length, take, drop, ◌⊎◌}
use Rattle.depot_base.specs.declared.key.RosterEntry.{RosterEntry}
use Rattle.depot_base.specs.declared.record.Record.{Record}
use Rattle.depot_model.specs.checks.RecordFaults.{HaveFaultAt}
use Rattle.depot_model.specs.texts.Roster.{Verifies}
use Rattle.depot_model.specs.worlds.Traces.{ReadTrace, Trace, IsRightRead, AreRightReads, HasRightReads, IsFirstBad, last_length, at_node}
use Rattle.depot_audit.specs.declared.one_node.NodeAnswer.{NodeAnswer}
use Rattle.depot_audit.specs.declared.one_node.NodeAnswer.TheVariants.{Unlawful, WrongRead, Right}

-- its records have this first fault; or they are lawful, and this is its first read that isn't what they showed, or all are
abbrev pub IsNodeAnswer : Verifies → List RosterEntry → Trace → NodeAnswer → Type 0
IsNodeAnswer verifies listed t (Unlawful p) = HaveFaultAt (at_node verifies listed t) t.texts p.place p.fault
IsNodeAnswer verifies listed t (WrongRead place) = IsFirstBad verifies listed t place
IsNodeAnswer verifies listed t Right = HasRightReads verifies listed t

-- ---- while the records are taken

-- whatever records come after these, the read isn't what they showed
abbrev pub NeverRight : List Record → ℕ → ReadTrace → Type 0
NeverRight J last r = (more : List Record) → IsRightRead (J ++ more) last r → ⊥

-- the first of these reads was made at this many records or more, or is never right
abbrev pub IsAhead : ℕ → List Record → ℕ → List ReadTrace → Type 0
IsAhead least J last [] = Unit {0}
IsAhead least J last (r ∷ rs) = (least ≤ r.length) ⊎ NeverRight J last r

-- This many reads are what the records showed. The next one, if there is one, was made at this many records or more, or
-- is never right.
pub record AreRightUpTo (least : ℕ) (J : List Record) (rs : List ReadTrace) (k : ℕ) : Type 0 where
  pub within : k ≤ length rs
  pub good : AreRightReads J 0 (take k rs)
  pub next : IsAhead least J (last_length 0 (take k rs)) (drop k rs)
