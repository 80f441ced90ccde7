-- How a group ended in memory, and what becomes of it then.
use Rattle.std.proofs.Common.{◌≡◌, ◌≤◌, ◌⊎◌, ℕ, true, false, IsTrue, List, [], ◌∷◌, length, length-append, take, drop, Result, Ok, Err, refl, sym, ap, subst, ◌∙◌, arith, inl, inr}
use Rattle.std.proofs.lemmas.List.{take_all}
use Rattle.depot_base.specs.Faults.{HasCause}
use Rattle.depot_base.specs.declared.record.Record.{Record}
use Rattle.depot_model.specs.declared.node_state.NodeState.{Ghosts}
use Rattle.depot_model.specs.journals.JournalCalls.{Lasts}
use Rattle.depot_model.specs.journals.Lawful.{IsLawful}
use Rattle.depot_model.specs.journals.Replicas.{IsSameNode, journal_of}
use Rattle.depot_outside.specs.Told.{Sinks, Wrote}
use Rattle.depot_outside.specs.declared.disk.Disk as disk_of
use Rattle.depot_service.specs.Answering.{IsServing}
use Rattle.depot_source.specs.Inputs.{Inputs}
use Rattle.depot_source.specs.Messages.{Message}
use Rattle.depot_session.specs.Answering.{ServesBody}
use Rattle.depot_session.specs.Hearing.{NoRequestCame}
use Rattle.depot_session.specs.Keeping.{IsAllKept, IsFileKept, IsInFile, NeverFails, TellsReplies, kept_state, lacks_memory}
use Rattle.depot_session.specs.Serving.{AreAnswered, HasAnswered, ServesShort, ServesWaiting, faults_risen, place_from}
use Rattle.depot_session.specs.declared.kept_node.KeptNode.{KeptNode}
use Rattle.depot_session.specs.declared.server_ending.ServeEnding.{ServeEnding}
use Rattle.depot_session.specs.declared.server_ending.ServeEnding.TheVariants as ending
use Rattle.depot_session.proofs.RunTurns.{answered_all, short_all, short_done}
use Rattle.depot_session.proofs.of_serving.Folding.{place_behind}
use Rattle.depot_session.proofs.of_serving.GroupTurns.{IsInMemory, all_in_memory, in_memory_of, input_in_memory, one_answered}
use Rattle.depot_session.proofs.of_serving.KeptGroups.{cut_group, failed_group, half_told_group, records_beside, records_kept, told_group, unkept_group, untold_group}

-- what came after its requests: nothing, or what is no request
abbrev pub EndsGroup : Inputs → ℕ → List Message → List ℕ → Result ℕ ServeEnding → Type 0
EndsGroup input place done behind (Ok at) = (at ≡ place_from place done) × (behind ≡ [])
EndsGroup input place done behind (Err (ending.Input at within)) = (at ≡ place_from place done) × NoRequestCame input.over behind within
EndsGroup input place done behind (Err other) = ⊥

-- a group of some requests, the first of which begins at an offset, was answered in memory
pub record IsGroup {N : Type 0} (g : Ghosts N) (f : ServesBody) (old new : N) (input : Inputs) (text : List ℕ) (place : ℕ) (outcome : Result ℕ ServeEnding) : Type 0 where
  pub done : List Message
  pub behind : List ℕ
  pub some : 1 ≤ length done
  pub memory : IsInMemory f (g.stands old) (g.records old) (g.records new) input text done behind
  pub same : IsSameNode g old new
  pub running : IsServing g new
  pub ends : EndsGroup input place done behind outcome

-- ---- the first request, and those that waited behind it

module _ {N : Type 0} (g : Ghosts N) (only_now : (n : N) (file : List ℕ) → g.left_since n (g.moment n) file → g.may_leave n file) (lawful : (n : N) → IsLawful (g.stands n) (g.records n)) (f : ServesBody) (old mid new : N) (input_first input_rest input : Inputs) (first rest replies : Sinks)
    (running : IsServing g old) (t : HasAnswered g f old mid input_first first)
    (given_first : input.before ≡ input_first.before) (given_mid : input_rest.before ≡ input_first.after) (given_new : input.after ≡ input_rest.after)
    (wrote_first : replies.before ≡ first.before) (wrote_mid : rest.before ≡ first.after) (wrote_new : replies.after ≡ rest.after) (told : replies.tells ≡ first.tells) (told_rest : rest.tells ≡ first.tells)
    (fails : faults_risen (g.faults mid) (g.faults new) input_rest rest ≡ faults_risen (g.faults old) (g.faults new) input replies) (over : input.over ≡ input_rest.over)
    (place behind : ℕ) (at_place : behind ≡ place_from place (t.message ∷ [])) where
  one : AreAnswered g f old mid input_first first (t.message ∷ [])
  one = one_answered g only_now lawful f old mid input_first first running t

  -- all of them
  both : (more : List Message) → AreAnswered g f mid new input_rest rest more → AreAnswered g f old new input replies (t.message ∷ more)
  both more a = answered_all g only_now f old mid new input_first input_rest input first rest replies (t.message ∷ []) one running.runs given_first given_mid given_new wrote_first wrote_mid wrote_new told told_rest more a

  -- what cut them short
  abbrev broken : (e : ServeEnding) → ServesShort g f mid new input_rest rest behind e → ServesShort g f old new input replies place e
  broken e s = short_all g only_now f old mid new input_first input_rest input first rest replies (t.message ∷ []) one running.runs given_first given_mid given_new wrote_first wrote_mid wrote_new told told_rest place behind e at_place fails over s

  broken_done : (e : ServeEnding) (s : ServesShort g f mid new input_rest rest behind e) → (broken e s).done ≡ t.message ∷ s.done
  broken_done e s = short_done g only_now f old mid new input_first input_rest input first rest replies (t.message ∷ []) one running.runs given_first given_mid given_new wrote_first wrote_mid wrote_new told told_rest place behind e at_place fails over s

  -- no memory was found for one that waited
  pub memory_of : (outcome : Result ℕ ServeEnding) → lacks_memory outcome ≡ true → ServesWaiting g f mid new input_rest rest behind outcome → ServesShort g f old new input replies place ending.Memory
  memory_of (Ok at) lacks w = absurd cc
  memory_of (Err ending.Memory) lacks s = broken ending.Memory s
  memory_of (Err ending.Source) lacks s = absurd cc
  memory_of (Err ending.Disk) lacks s = absurd cc
  memory_of (Err ending.Sink) lacks s = absurd cc
  memory_of (Err (ending.Input at within)) lacks s = absurd cc

  module _ (tells : IsTrue replies.tells) (none : replies.before ≡ []) where
    -- they were all requests
    of_all : (at : ℕ) (more : List Message) → AreAnswered g f mid new input_rest rest more → at ≡ place_from behind more → IsGroup g f old new input replies.after place (Ok at)
    of_all at more a is =
        let b = both more a in
        record {
          done = t.message ∷ more;
          behind = [];
          some = omega arith;
          memory = all_in_memory g f old new input replies tells none (t.message ∷ more) b;
          same = b.same;
          running = b.running;
          ends = (is ∙ ap (λ (x : ℕ). place_from x more) at_place ∙ place_behind place (t.message ∷ []) more, refl);
        }

    -- what came after them is none
    of_some : (at within : ℕ) → ServesShort g f mid new input_rest rest behind (ending.Input at within) → IsGroup g f old new input replies.after place (Err (ending.Input at within))
    of_some at within s =
        let b : ServesShort g f old new input replies place (ending.Input at within) = broken (ending.Input at within) s in
        let cut = b.breaks.cut in
        record {
          done = b.done;
          behind = b.breaks.behind;
          some = omega (arith, ap length (broken_done (ending.Input at within) s));
          memory = input_in_memory g f old new input replies tells none place at within b;
          same = b.same;
          running = cut.stands.running;
          ends = (cut.at_place, cut.came);
        }

    pub group_of : (outcome : Result ℕ ServeEnding) → NeverFails g → lacks_memory outcome ≡ false → (outcome ≡ Err ending.Sink → ⊥) → (outcome ≡ Err ending.Source → ⊥) → ServesWaiting g f mid new input_rest rest behind outcome → IsGroup g f old new input replies.after place outcome
    group_of (Ok at) calm found no_sink no_source w = of_all at w.0 w.1.0 w.1.1
    group_of (Err ending.Memory) calm found no_sink no_source s = absurd cc
    group_of (Err ending.Source) calm found no_sink no_source s = absurd (no_source refl)
    group_of (Err ending.Disk) calm found no_sink no_source s = let rose = s.breaks.cut.1.1 in absurd (omega (arith, rose, calm mid, calm new))
    group_of (Err ending.Sink) calm found no_sink no_source s = absurd (no_sink refl)
    group_of (Err (ending.Input at within)) calm found no_sink no_source s = of_some at within s

-- ---- its append, and its replies

-- a call that failed in this way
abbrev ended_by : ServeEnding → Result (Unit {0}) ServeEnding
ended_by e = Err e

module _ {N D : Type 0} (g : Ghosts N) (d : disk_of.Ghosts D) (only_now : (x : D) (file : List ℕ) → d.left_since x (d.moment x) file → d.may_leave x file) (lawful : (n : N) → IsLawful (g.stands n) (g.records n)) (old : KeptNode N D) (all : IsAllKept g d old) (n : N)
    (f : ServesBody) (input : Inputs) (sink : Sinks) (place : ℕ) (text : List ℕ) (outcome : Result ℕ ServeEnding) (group : IsGroup g f old.node n input text place outcome) where
  abbrev done : List Message
  done = group.done

  abbrev behind : List ℕ
  behind = group.behind

  memory : IsInMemory f (g.stands old.node) ((kept_state g d).records old) (g.records n) input text done behind
  memory = in_memory_of f (g.stands old.node) (g.records old.node) ((kept_state g d).records old) (g.records n) input text done behind (records_kept g d only_now lawful old all) group.memory

  abbrev beside : KeptNode N D
  beside = record { node = n; disk = old.disk; gate = old.gate; kept = old.kept; stopped = old.stopped }

  -- before the append the file has the records from before
  pub file_beside : IsFileKept g d beside
  file_beside = record {
    runs = all.runs;
    inside = let is = all.all in omega (arith, is, ap length group.memory.is, length-append (g.records old.node) group.memory.grown);
    file = subst (λ (K : List Record). IsInFile d old.disk K old.gate) (sym (records_beside g d only_now lawful old all n group.memory.grown group.memory.is)) all.file;
  }

  module _ (new : KeptNode N D) (is_node : new.node ≡ n) (lasts : Lasts (journal_of (kept_state g d)) beside new (drop old.kept (g.records n))) where
    -- the append failed
    pub unkept_by : (e : ServeEnding) → new.kept ≡ old.kept → (ended_by e ≡ Err ending.Memory → Lasts (journal_of (kept_state g d)) beside new []) → HasCause (d.faults old.disk) (d.faults new.disk) (ended_by e ≡ Err ending.Disk)
        → (ended_by e ≡ Err ending.Memory) ⊎ (ended_by e ≡ Err ending.Disk) → Wrote sink [] → ServesShort (kept_state g d) f old new input sink place e
    unkept_by ending.Memory kept idle cause only wrote = unkept_group g d only_now lawful old all n f input sink place text done behind group.some group.same memory new is_node lasts kept (idle refl) wrote
    unkept_by ending.Disk kept idle cause only wrote = failed_group g d only_now lawful old all n f input sink place text done behind group.some group.same memory new is_node lasts kept (cause.rose refl) wrote
    unkept_by ending.Source kept idle cause only wrote = elim only [ inl wrong ↦ absurd cc | inr wrong ↦ absurd cc ]
    unkept_by ending.Sink kept idle cause only wrote = elim only [ inl wrong ↦ absurd cc | inr wrong ↦ absurd cc ]
    unkept_by (ending.Input at within) kept idle cause only wrote = elim only [ inl wrong ↦ absurd cc | inr wrong ↦ absurd cc ]

    -- all records of the node are in the file then
    pub all_kept : IsFileKept g d new → new.kept ≡ length (g.records new.node) → IsAllKept g d new
    all_kept file whole = record {
      runs = file.runs;
      all = whole;
      file = subst (λ (K : List Record). IsInFile d new.disk K new.gate) (take_all new.kept (g.records new.node) (omega (arith, whole))) file.file;
      node = subst (IsServing g) (sym is_node) group.running;
    }

    module _ (kept : IsAllKept g d new) where
      -- its replies weren't written in full
      pub untold_by : (e : ServeEnding) → TellsReplies sink text (Err e) → HasCause sink.faults_before sink.faults_after (ended_by e ≡ Err ending.Sink) → ServesShort (kept_state g d) f old new input sink place e
      untold_by ending.Memory tells cause = untold_group g d only_now lawful old all n f input sink place text done behind group.some group.same memory new is_node lasts kept tells
      untold_by ending.Sink tells cause = half_told_group g d only_now lawful old all n f input sink place text done behind group.some group.same memory new is_node lasts kept (cause.rose refl) tells
      untold_by ending.Source tells cause = absurd tells
      untold_by ending.Disk tells cause = absurd tells
      untold_by (ending.Input at within) tells cause = absurd tells

      module _ (wrote : Wrote sink text) where
        -- they were
        pub told_all : (at : ℕ) → outcome ≡ Ok at → (ms : List Message) × (AreAnswered (kept_state g d) f old new input sink ms × (at ≡ place_from place ms))
        told_all at is =
            let e : EndsGroup input place done behind (Ok at) = subst (EndsGroup input place done behind) is group.ends in
            (done, (told_group g d only_now lawful old all n f input sink place text done behind group.some group.same memory new is_node lasts kept e.1 wrote, e.0))

        -- and what came after the group is no request
        pub cut_by : (e : ServeEnding) → outcome ≡ Err e → ServesShort (kept_state g d) f old new input sink place e
        cut_by (ending.Input at within) is =
            let e : EndsGroup input place done behind (Err (ending.Input at within)) = subst (EndsGroup input place done behind) is group.ends in
            cut_group g d only_now lawful old all n f input sink place text done behind group.some group.same memory new is_node lasts kept at within e.0 e.1 wrote
        cut_by ending.Memory is = (let wrong : ⊥ = subst (EndsGroup input place done behind) is group.ends in absurd wrong)
        cut_by ending.Source is = (let wrong : ⊥ = subst (EndsGroup input place done behind) is group.ends in absurd wrong)
        cut_by ending.Disk is = (let wrong : ⊥ = subst (EndsGroup input place done behind) is group.ends in absurd wrong)
        cut_by ending.Sink is = (let wrong : ⊥ = subst (EndsGroup input place done behind) is group.ends in absurd wrong)
