-- A group of requests at a node that is kept: what the node makes of it in memory, and then what stands in the file.
use Rattle.std.proofs.Common.{◌≡◌, ◌≤◌, ◌<◌, ◌+◌, ◌-◌, ◌^◌, ℕ, Bool, true, false, IsTrue, List, [], ◌++◌, append-nil, append_assoc, length, map, take, drop, Option, Some, None, Ok, refl, sym, ap, subst, ◌∙◌, arith, inl, inr, ⊎_elim}
use Rattle.std.proofs.lemmas.List.{take_all, take_at, drop_at, take-append-drop}
use Rattle.std.specs.List.{flat_map}
use Rattle.depot_base.specs.Disk.{Only}
use Rattle.depot_base.specs.File.{blocks}
use Rattle.depot_base.specs.declared.record.Record.{Record}
use Rattle.depot_journal.specs.WriteSteps.{StandsTo}
use Rattle.depot_laws.proofs.lists.Splits.{lawful_front}
use Rattle.depot_model.specs.declared.node_state.NodeState.{Ghosts}
use Rattle.depot_model.specs.journals.JournalCalls.{Lasts}
use Rattle.depot_model.specs.journals.Lawful.{IsLawful}
use Rattle.depot_model.specs.journals.Replicas.{IsSameNode, journal_of}
use Rattle.depot_model.specs.journals.Stops.{HasAll, HasFront}
use Rattle.depot_model.specs.texts.Records.{text_of_record}
use Rattle.depot_outside.specs.Told.{Sinks, Wrote, WroteFront}
use Rattle.depot_outside.specs.declared.disk.Disk as disk_of
use Rattle.depot_service.specs.Answering.{IsServing}
use Rattle.depot_source.specs.Inputs.{Inputs}
use Rattle.depot_source.specs.Messages.{Message, text_of_message}
use Rattle.depot_streams.proofs.LastingStreams.{none_in}
use Rattle.depot_streams.specs.Lasting.{LastsIn}
use Rattle.depot_session.specs.Answering.{ServesBody, came_of}
use Rattle.depot_session.specs.Hearing.{NoRequestCame}
use Rattle.depot_session.specs.Keeping.{IsAllKept, IsInFile, NeverFails, kept_state}
use Rattle.depot_session.specs.Serving.{AreAnswered, IsCutOff, IsTurnShort, RunsWith, ServesShort, ServesWhole, TurnsRequest, bodies_of, faults_risen, place_from}
use Rattle.depot_session.specs.declared.kept_node.KeptNode.{KeptNode}
use Rattle.depot_session.specs.declared.server_ending.ServeEnding.{ServeEnding}
use Rattle.depot_session.specs.declared.server_ending.ServeEnding.TheVariants as ending
use Rattle.depot_session.proofs.of_serving.Folding.{each_all, journal_all, texts_all}
use Rattle.depot_session.proofs.of_serving.GroupTurns.{IsInMemory, begun_only, brought_all, brought_none, group_answered, group_cut, untouched_lasts}
use Rattle.depot_session.proofs.of_serving.KeptFiles.{only_them}
use Rattle.depot_session.proofs.of_serving.ServerTurns.{grows_by_nothing, lawful_by_nothing}
use Rattle.depot_session.proofs.RunTurns.{none_answered}

-- a node in memory, all of whose records are in the file
pub all_in_file : {N D : Type 0} (g : Ghosts N) (d : disk_of.Ghosts D) (n : N) (disk : D) (gate kept : ℕ) (J : List Record) → g.stopped n ≡ false → (IsTrue (g.tells n) → ⊥) → g.records n ≡ J → kept ≡ length (g.records n) → gate ≡ length (blocks (map text_of_record J))
    → (IsTrue (d.tells disk) → StandsTo (d.seen disk) (map text_of_record J) gate) → (IsTrue (d.tells disk) → Only (d.seen disk) (d.may_leave disk)) → IsAllKept g d (record { node = n; disk = disk; gate = gate; kept = kept; stopped = false })
all_in_file g d n disk gate kept J runs never records all gate_is stands stable = record {
  runs = refl;
  all = all;
  file = subst (λ (K : List Record). IsInFile d disk K gate) (sym records) (record { gate_is = gate_is; stands = stands; stable = stable });
  node = record { runs = runs; stable = λ told. absurd (never told) };
}

module _ {N D : Type 0} (g : Ghosts N) (d : disk_of.Ghosts D) (only_now : (x : D) (file : List ℕ) → d.left_since x (d.moment x) file → d.may_leave x file) (lawful : (n : N) → IsLawful (g.stands n) (g.records n)) where
  -- this moment is the only one since it
  pub only_now_kept : (k : KeptNode N D) (file : List ℕ) → (kept_state g d).left_since k ((kept_state g d).moment k) file → (kept_state g d).may_leave k file
  only_now_kept k file left = only_now k.disk file left

  -- its journal is lawful
  pub lawful_kept : (k : KeptNode N D) → IsLawful ((kept_state g d).stands k) ((kept_state g d).records k)
  lawful_kept k = lawful_front (g.stands k.node) (take k.kept (g.records k.node)) (drop k.kept (g.records k.node)) (subst (IsLawful (g.stands k.node)) (sym (take-append-drop k.kept (g.records k.node))) (lawful k.node))

  -- all records of the node are in the file
  pub records_kept : (k : KeptNode N D) → IsAllKept g d k → (kept_state g d).records k ≡ g.records k.node
  records_kept k all = take_all k.kept (g.records k.node) (let is = all.all in omega (arith, is))

  -- so it serves
  pub kept_serves : (k : KeptNode N D) → IsAllKept g d k → IsServing (kept_state g d) k
  kept_serves k all = record {
    runs = all.runs;
    stable = λ told file left. subst (λ (K : List Record). HasAll K false file) (sym (records_kept k all))
        (only_them (g.stands k.node) (g.records k.node) (d.seen k.disk) file k.gate (d.may_leave k.disk) (lawful k.node) (all.file.stands told) (all.file.stable told) left);
  }

  module _ (old : KeptNode N D) (all : IsAllKept g d old) (n : N) where
    -- the same file, beside what became of the node
    abbrev pub beside : KeptNode N D
    beside = record { node = n; disk = old.disk; gate = old.gate; kept = old.kept; stopped = old.stopped }

    -- which has no other records in it
    pub records_beside : (more : List Record) → g.records n ≡ g.records old.node ++ more → take old.kept (g.records n) ≡ g.records old.node
    records_beside more grown = ap (take old.kept) grown ∙ take_at (g.records old.node) more old.kept (let is = all.all in omega (arith, is))

    -- the others are those that it made
    pub unkept_beside : (more : List Record) → g.records n ≡ g.records old.node ++ more → drop old.kept (g.records n) ≡ more
    unkept_beside more grown = ap (drop old.kept) grown ∙ drop_at (g.records old.node) more old.kept (let is = all.all in omega (arith, is))

    -- what the file left, whatever was to be appended
    pub idle_beside : (more made : List Record) → g.records n ≡ g.records old.node ++ made → Lasts (journal_of (kept_state g d)) old beside more
    idle_beside more made grown =
        untouched_lasts (kept_state g d) only_now_kept old beside all.runs (kept_serves old all) (records_beside made grown ∙ sym (records_kept old all)) refl refl refl (λ t file left. left) (λ file left. left) more

    -- what the file leaves in a call after that, seen from before
    pub lasts_beside : (new : KeptNode N D) (made K : List Record) → g.records n ≡ g.records old.node ++ made → Lasts (journal_of (kept_state g d)) beside new K → Lasts (journal_of (kept_state g d)) old new K
    lasts_beside new made K grown lasts = record {
      told = lasts.told;
      any_moment = λ t runs. let only = lasts.any_moment t runs in record {
        later = only.later;
        each = λ file left. front_so K file (only.each file left);
        before = λ t' file le left. ⊎_elim (λ was. inl was) (λ p. inr (front_so K file p)) (only.before t' file le left);
      };
      stable = lasts.stable;
      untouched = λ is. (let was = lasts.untouched is in record { same_moment = was.same_moment; no_more = was.no_more });
    } where
      front_so : (K : List Record) (file : List ℕ) → HasFront (take old.kept (g.records n)) K file → HasFront (take old.kept (g.records old.node)) K file
      front_so K file front = subst (λ (J : List Record). HasFront J K file) (records_beside made grown ∙ sym (records_kept old all)) front

    -- it is who it was
    same_beside : IsSameNode g old.node n → IsSameNode (kept_state g d) old beside
    same_beside same = record { stands = same.stands; key = same.key; signs = same.signs }

    -- and runs with the records that it had
    runs_beside : (made : List Record) → g.records n ≡ g.records old.node ++ made → RunsWith (kept_state g d) beside ((kept_state g d).records old)
    runs_beside made grown = record {
      running = record {
        runs = all.runs;
        stable = λ told file left. subst (λ (K : List Record). HasAll K false file) (records_kept old all ∙ sym (records_beside made grown)) ((kept_serves old all).stable told file left);
      };
      journal = records_beside made grown ∙ sym (records_kept old all);
    }

    module _ (f : ServesBody) (input : Inputs) (sink : Sinks) (place : ℕ) where
      abbrev J : List Record
      J = (kept_state g d).records old

      -- the first turn of a group was cut short, and nothing was kept of it
      pub first_short : (e : ServeEnding) (replies : Sinks) → NeverFails g → (replies.faults_before < replies.faults_after → ⊥) → place ≤ 2 ^ 64 - 1 → sink.after ≡ sink.before → IsTurnShort g f old.node n input replies place e → ServesShort (kept_state g d) f old beside input sink place e
      first_short e replies never calm fits untold t =
          let made : List Record = take t.lawful.is.count t.lawful.appends in
          let grown : g.records n ≡ g.records old.node ++ made = t.lawful.is.front in
          let next = t.breaks.next in
          let comes : List Record → List Record = λ K. (came_of f K (bodies_of next)).journal in
          begun_only (kept_state g d) only_now_kept f old beside input sink all.runs (same_beside t.same) place e next t.breaks.behind t.breaks.next_is.1.0 [] t.brings.grown t.breaks.next_is.0 t.breaks.next_is.1.1 t.breaks.given
          (cut_so e made grown t never calm fits) (λ told. untold ∙ sym (append-nil sink.before)) (subst (λ (K : List Record). comes K ≡ K ++ t.brings.grown) (sym (records_kept old all)) t.brings.is)
          (idle_beside t.brings.grown made grown) (none_in (kept_state g d) _ old beside (lawful_kept old) (records_beside made grown ∙ sym (records_kept old all)) (idle_beside [] made grown))
        where
          cut_so : (e : ServeEnding) (made : List Record) → g.records n ≡ g.records old.node ++ made → (t : IsTurnShort g f old.node n input replies place e) → NeverFails g → (replies.faults_before < replies.faults_after → ⊥) → place ≤ 2 ^ 64 - 1
              → IsCutOff (RunsWith (kept_state g d) beside) J (came_of f J (bodies_of t.breaks.next)) t.breaks.next t.breaks.behind [] input.over (faults_risen (d.faults old.disk) (d.faults old.disk) input sink) (place_from place []) e
          cut_so ending.Memory made grown t never calm fits = refl
          cut_so ending.Source made grown t never calm fits = (t.breaks.cut.0, record { unbegun = t.breaks.cut.1.unbegun; untold = refl; stands = runs_beside made grown; part = t.breaks.cut.1.part })
          cut_so (ending.Input at within) made grown t never calm fits = record { at_place = t.breaks.cut.at_place ∙ omega (arith, fits); unbegun = t.breaks.cut.unbegun; untold = refl; stands = runs_beside made grown; came = t.breaks.cut.came }
          cut_so ending.Disk made grown t never calm fits = let rose = t.breaks.cut.1.1 in absurd (omega (arith, rose, never old.node, never n))
          cut_so ending.Sink made grown t never calm fits = absurd (calm t.breaks.cut.0)

      -- the input had ended before it
      pub idle_group : (replies : Sinks) (r : Option ℕ) → ((long : ℕ) → r ≡ Some long → ⊥) → sink.after ≡ sink.before → TurnsRequest g f old.node n input replies place true (Ok r) → ServesWhole (kept_state g d) f old beside input sink
      idle_group replies (Some long) never untold t = absurd (never long refl)
      idle_group replies None never untold t =
          subst (λ (x : N). ServesWhole (kept_state g d) f old (record { node = x; disk = old.disk; gate = old.gate; kept = old.kept; stopped = old.stopped }) input sink) (sym t.0) (record {
            done = [];
            answered = none_answered (kept_state g d) only_now_kept f old input sink (kept_serves old all) t.1.0 untold (grows_by_nothing (kept_state g d) only_now_kept lawful_kept old (kept_serves old all)) (lawful_by_nothing (kept_state g d) only_now_kept lawful_kept ⊥ old (kept_serves old all));
            over = t.1.1.0 refl;
          })

      -- no memory was found in a later one, and nothing was kept of the group
      pub memory_short : (replies : Sinks) → sink.after ≡ sink.before → ServesShort g f old.node n input replies place ending.Memory → ServesShort (kept_state g d) f old beside input sink place ending.Memory
      memory_short replies untold s =
          let made : List Record = take s.lawful.is.count s.lawful.appends in
          let grown : g.records n ≡ g.records old.node ++ made = s.lawful.is.front in
          let next : List Message = s.done ++ s.breaks.next in
          let behind : List ℕ = flat_map text_of_message s.done ++ s.breaks.behind in
          let more : List ℕ = s.breaks.next_is.1.0 in
          let texts : behind ≡ flat_map text_of_message next ++ more = ap (λ (x : List ℕ). flat_map text_of_message s.done ++ x) s.breaks.next_is.1.1 ∙ sym (append_assoc (flat_map text_of_message s.done) (flat_map text_of_message s.breaks.next) more) ∙ ap (λ (x : List ℕ). x ++ more) (sym (texts_all s.done s.breaks.next)) in
          let comes : (came_of f (g.records old.node) (bodies_of next)).journal ≡ g.records old.node ++ s.brings.grown = journal_all f (g.records old.node) _ s.done s.breaks.next refl ∙ s.brings.is in
          begun_only (kept_state g d) only_now_kept f old beside input sink all.runs (same_beside s.same) place ending.Memory next behind more [] s.brings.grown (each_all s.done s.breaks.next s.each s.breaks.next_is.0) texts (s.breaks.given ∙ append_assoc input.before (flat_map text_of_message s.done) s.breaks.behind)
          refl (λ told. untold ∙ sym (append-nil sink.before)) (subst (λ (K : List Record). (came_of f K (bodies_of next)).journal ≡ K ++ s.brings.grown) (sym (records_kept old all)) comes)
          (idle_beside s.brings.grown made grown) (none_in (kept_state g d) _ old beside (lawful_kept old) (records_beside made grown ∙ sym (records_kept old all)) (idle_beside [] made grown))

      -- ---- a group that was answered in memory

      module _ (text : List ℕ) (done : List Message) (behind : List ℕ) (some : 1 ≤ length done) (same : IsSameNode g old.node n) (m : IsInMemory f (g.stands old.node) J (g.records n) input text done behind) where
        grown_by : g.records n ≡ g.records old.node ++ m.grown
        grown_by = m.is ∙ ap (λ (K : List Record). K ++ m.grown) (records_kept old all)

        -- the append of its records, by which the kept node became another
        module _ (new : KeptNode N D) (is_node : new.node ≡ n) (lasts : Lasts (journal_of (kept_state g d)) beside new (drop old.kept (g.records n))) where
          same_new : IsSameNode (kept_state g d) old new
          same_new = subst (λ (x : N). IsSameNode g old.node x → IsSameNode (kept_state g d) old new) is_node (λ s. record { stands = s.stands; key = s.key; signs = s.signs }) same

          lasts_new : Lasts (journal_of (kept_state g d)) old new m.grown
          lasts_new = lasts_beside new m.grown m.grown grown_by (subst (Lasts (journal_of (kept_state g d)) beside new) (unkept_beside m.grown grown_by) lasts)

          unkept_records_are : new.kept ≡ old.kept → (kept_state g d).records new ≡ J
          unkept_records_are kept = ap (λ (k : ℕ). take k (g.records new.node)) kept ∙ ap (λ (x : N). take old.kept (g.records x)) is_node ∙ records_beside m.grown grown_by ∙ sym (records_kept old all)

          begun : (e : ServeEnding) (last : List ℕ) → IsCutOff (RunsWith (kept_state g d) new) J (came_of f J (bodies_of done)) done (flat_map text_of_message done ++ behind) last input.over (faults_risen (d.faults old.disk) (d.faults new.disk) input sink) (place_from place []) e → Wrote sink last
              → LastsIn (kept_state g d) (e ≡ ending.Disk) old new → ServesShort (kept_state g d) f old new input sink place e
          begun e last cut wrote lasts_in =
              begun_only (kept_state g d) only_now_kept f old new input sink all.runs same_new place e done (flat_map text_of_message done ++ behind) behind last m.grown m.each refl m.given cut wrote (sym m.journal ∙ m.is) lasts_new lasts_in

          -- no memory was found for it
          pub unkept_group : new.kept ≡ old.kept → Lasts (journal_of (kept_state g d)) beside new [] → Wrote sink [] → ServesShort (kept_state g d) f old new input sink place ending.Memory
          unkept_group kept idle wrote = begun ending.Memory [] refl wrote (none_in (kept_state g d) _ old new (lawful_kept old) (unkept_records_are kept) (lasts_beside new m.grown [] grown_by idle))

          -- the disk failed in it
          pub failed_group : new.kept ≡ old.kept → d.faults old.disk < d.faults new.disk → Wrote sink [] → ServesShort (kept_state g d) f old new input sink place ending.Disk
          failed_group kept rose wrote = begun ending.Disk [] (some, (refl, rose)) wrote (brought_none (kept_state g d) only_now_kept f old new input sink all.runs same_new _ m.grown refl m.lawful m.receipts (unkept_records_are kept) lasts_new)

          module _ (kept : IsAllKept g d new) where
            records_now : (kept_state g d).records new ≡ g.records n
            records_now = records_kept new kept ∙ ap (λ (x : N). g.records x) is_node

            brought : (failed : Type 0) → LastsIn (kept_state g d) failed old new
            brought failed = brought_all (kept_state g d) only_now_kept f old new input sink all.runs same_new failed m.grown m.lawful m.receipts (records_now ∙ m.is) lasts_new

            -- its records stand, and no memory was found for its replies
            pub untold_group : Wrote sink [] → ServesShort (kept_state g d) f old new input sink place ending.Memory
            untold_group wrote = begun ending.Memory [] refl wrote (brought _)

            -- and the sink failed in them
            told_in_part : (count : ℕ) → sink.faults_before < sink.faults_after → Wrote sink (take count text) → ServesShort (kept_state g d) f old new input sink place ending.Sink
            told_in_part count rose wrote = begun ending.Sink (take count text) (
              rose,
              record {
                begun = some;
                stands = record { running = kept_serves new kept; journal = records_now ∙ m.journal };
                count = count;
                front = ap (take count) m.replies;
              },
            ) wrote (brought _)

            pub half_told_group : sink.faults_before < sink.faults_after → WroteFront sink text → ServesShort (kept_state g d) f old new input sink place ending.Sink
            half_told_group rose front = by_telling sink.tells refl where
              by_telling : (b : Bool) → sink.tells ≡ b → ServesShort (kept_state g d) f old new input sink place ending.Sink
              by_telling true told = let w = front told in told_in_part w.0 rose (λ t. w.1)
              by_telling false told = told_in_part 0 rose (λ t. let wrong : false ≡ true = subst (λ (x : Bool). IsTrue x) told t in absurd cc)

            -- they were written
            pub told_group : behind ≡ [] → Wrote sink text → AreAnswered (kept_state g d) f old new input sink done
            told_group nothing wrote = group_answered (kept_state g d) only_now_kept f old new input sink all.runs same_new done text behind (g.records n) m records_now (kept_serves new kept) lasts_new nothing wrote

            -- and what came after them is no request
            pub cut_group : (at within : ℕ) → at ≡ place_from place done → NoRequestCame input.over behind within → Wrote sink text → ServesShort (kept_state g d) f old new input sink place (ending.Input at within)
            cut_group at within here came wrote = group_cut (kept_state g d) only_now_kept f old new input sink all.runs same_new done text behind (g.records n) m records_now (kept_serves new kept) lasts_new place (ending.Input at within)
                (record { at_place = here; unbegun = refl; untold = refl; stands = record { running = kept_serves new kept; journal = records_now ∙ m.journal }; came = came }) wrote
