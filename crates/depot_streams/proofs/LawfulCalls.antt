-- What several calls on a node, one after another, append.
use Rattle.std.proofs.Common.{◌≡◌, ◌↔◌, ℕ, true, false, List, [], ◌++◌, refl, ◌∙◌}
use Rattle.depot_base.specs.Calls.{Made}
use Rattle.depot_base.specs.declared.record.Record.{Record}
use Rattle.depot_model.specs.journals.JournalCalls.{IsStable}
use Rattle.depot_model.specs.journals.Lawful.{IsLawful}
use Rattle.depot_model.specs.journals.Replicas.{journal_of}
use Rattle.depot_model.specs.declared.node_state.NodeState.{Ghosts}
use Rattle.depot_model.proofs.of_journals.JournalCallLaws.{idle_call, joined_call, renamed_call, runs_on}
use Rattle.depot_streams.specs.Lasting.{IsLawfulCall}
use Rattle.depot_streams.proofs.LastingStreams.{joined_in, lasts_so, nothing_in}

module _ {N : Type 0} (g : Ghosts N) where
  -- whatever it might have appended, a call that doesn't touch the node
  pub idle_on : {stopped failed : Type 0} → ((n : N) (file : List ℕ) → g.left_since n (g.moment n) file → g.may_leave n file) → ((n : N) → g.after n [] n)
      → (n : N) (appends : List Record) → IsLawful (g.stands n) (g.records n) → IsStable (journal_of g) n → (stopped ↔ (g.stopped n ≡ true)) → (failed → ⊥) → IsLawfulCall g n n appends stopped failed
  idle_on {failed = failed} only_now none n appends lawful stable answered well = record {
    node = record { same = record { stands = refl; key = refl; signs = refl }; journal = idle_call (journal_of g) only_now none n appends stable answered well };
    lasts = nothing_in g only_now failed n lawful stable;
  }

  -- the same call, whose answers are named otherwise
  pub renamed_on : (old new : N) (appends : List Record) {stopped failed was_stopped was_failed : Type 0}
      → (was_stopped ↔ stopped) → (was_failed ↔ failed) → IsLawfulCall g old new appends was_stopped was_failed → IsLawfulCall g old new appends stopped failed
  renamed_on old new appends {failed = failed} {was_failed = was_failed} stopped_so failed_so c = record {
    node = record { same = c.node.same; journal = renamed_call stopped_so failed_so (λ never. never) c.node.journal };
    lasts = lasts_so g was_failed failed old new failed_so.0 c.lasts;
  }

  -- A call on a running node that appended all of the first ones, and on whose disk none failed. Then another one, which was to append the second
  -- ones. Both together were to append these, and may be said to have been to append more.
  pub joined_on : {stopped failed was_stopped was_failed : Type 0} → ((x y z : N) (calls more : List Made) → g.after x calls y → g.after y more z → g.after x (calls ++ more) z)
      → (old mid new : N) (a b more : List Record) → g.stopped old ≡ false → (was_failed → ⊥) → g.records mid ≡ g.records old ++ a
      → IsLawfulCall g old mid a was_stopped was_failed → IsLawfulCall g mid new b stopped failed → IsLawfulCall g old new ((a ++ b) ++ more) stopped failed
  joined_on {failed = failed} {was_failed = was_failed} join old mid new a b more ran well grown one two = record {
    node = record {
      same = record { stands = two.node.same.stands ∙ one.node.same.stands; key = two.node.same.key ∙ one.node.same.key; signs = two.node.same.signs ∙ one.node.same.signs };
      journal = joined_call (journal_of g) join old mid new a b _ more well ran grown two.lasts.is.front one.node.journal two.node.journal;
    };
    lasts = joined_in g was_failed failed old mid new well one.node.same.stands ran (runs_on (g.stopped old) ran one.node.journal.stops well) one.lasts two.lasts;
  }
