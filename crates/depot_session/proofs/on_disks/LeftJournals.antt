-- The crash images after a call on a node.
use Rattle.std.proofs.Common.{◌≡◌, ◌≤◌, ℕ, Bool, false, IsTrue, List, ◌++◌, map, refl, sym, ap, subst, ◌∙◌, inr}
use Rattle.std.proofs.lemmas.List.{append-nil}
use Rattle.depot_base.specs.File.{IsFileOf}
use Rattle.depot_base.specs.declared.record.Record.{Record}
use Rattle.depot_model.specs.texts.Records.{text_of_record}
use Rattle.depot_model.specs.journals.JournalCalls.{Lasts}
use Rattle.depot_model.specs.journals.Replicas.{journal_of}
use Rattle.depot_model.specs.journals.Stops.{HasAll, HasFront, HasRecords, LeavesAll}
use Rattle.depot_model.specs.declared.node_state.NodeState.{Ghosts}
use Rattle.depot_session.specs.Turns.{AppendsBrought, LeavesBrought}

-- all records of a node that runs
pub all_there : (J : List Record) (file : List ℕ) → HasAll J false file → HasRecords J file
all_there J file all = subst (λ (x : List (List ℕ)). IsFileOf file x) (ap (λ (x : List (List ℕ)). map text_of_record J ++ x) (all.none refl) ∙ append-nil (map text_of_record J)) all.has

-- they are a prefix of these and more
pub front_of_none : (J more : List Record) (file : List ℕ) → HasRecords J file → HasFront J more file
front_of_none J more file has = record { count = 0; has = subst (λ (K : List Record). HasRecords K file) (sym (append-nil J)) has }

-- every crash image of a call on a running node, or later, has a prefix of what the call appends
pub leaves_front : {N : Type 0} (g : Ghosts N) → ((v : N) (t : ℕ) (file : List ℕ) → t ≤ g.moment v → g.may_leave v file → g.left_since v t file) → (old new : N) (appends : List Record) → g.stopped old ≡ false → AppendsBrought g old new appends
    → LeavesBrought g old new appends
leaves_front g counts_now old new appends runs appended = record {
  after = λ t file left. let only = appended.lasts.any_moment t runs in only.each file (counts_now new (g.moment old) file only.later left);
  moments = inr appended;
}

-- it leaves all its records
pub leaves_after : {N : Type 0} (g : Ghosts N) (old new : N) (appends : List Record) → Lasts (journal_of g) old new appends → IsTrue (g.tells old) → LeavesAll (g.records new) (g.stopped new) (g.may_leave new)
leaves_after g old new appends lasts t = lasts.stable (subst (λ (b : Bool). IsTrue b) (sym lasts.told) t)
