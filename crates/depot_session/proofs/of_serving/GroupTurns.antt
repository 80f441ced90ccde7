-- A group of requests: answered in memory, then kept in the file, then replied.
use Rattle.std.proofs.Common.{◌≡◌, ◌≤◌, ◌<◌, ℕ, Bool, true, false, IsTrue, List, [], ◌∷◌, ◌++◌, append-nil, append_assoc, length, take, refl, sym, ap, subst, ◌∙◌, arith, inl}
use Rattle.std.proofs.lemmas.List.{take_all}
use Rattle.std.specs.List.{flat_map}
use Rattle.depot_base.specs.declared.record.Record.{Record}
use Rattle.depot_model.specs.checks.Checks.{Setting}
use Rattle.depot_model.specs.declared.node_state.NodeState.{Ghosts}
use Rattle.depot_model.specs.journals.JournalCalls.{Lasts}
use Rattle.depot_model.specs.journals.Lawful.{IsLawful}
use Rattle.depot_model.specs.journals.Replicas.{IsSameNode, journal_of}
use Rattle.depot_model.specs.journals.Stops.{HasAll, HasFront, HasRecords}
use Rattle.depot_model.specs.worlds.Receipts.{AreReceiptsTrue}
use Rattle.depot_outside.specs.Told.{Sinks, Wrote}
use Rattle.depot_service.specs.Answering.{IsServing}
use Rattle.depot_source.specs.Inputs.{Inputs}
use Rattle.depot_source.specs.Messages.{Message, text_of_message}
use Rattle.depot_streams.specs.Lasting.{LastsIn}
use Rattle.depot_session.specs.Answering.{ServesBody, came_of}
use Rattle.depot_session.specs.Serving.{AllStayKept, AreAnswered, AreAsking, GrowsToward, HasAnswered, IsCutOff, RunsWith, ServesShort, StaysKept, bodies_of, came_at, faults_risen, place_from}
use Rattle.depot_session.specs.declared.server_ending.ServeEnding.{ServeEnding}
use Rattle.depot_session.specs.declared.server_ending.ServeEnding.TheVariants as ending
use Rattle.depot_session.proofs.RunTurns.{answered_more, none_answered}
use Rattle.depot_session.proofs.of_serving.ServerTurns.{grows_by_nothing, lawful_by_nothing}
use Rattle.depot_session.proofs.on_disks.LeftJournals.{all_there}

-- ---- what was answered in memory

-- The journal that some first ones of the requests make is a prefix of the one that all of them make.
abbrev pub AllSplit : ServesBody → List Record → List Message → List Record → Type 0
AllSplit f J done then = (k : ℕ) → k ≤ length done → (more : List Record) × (then ≡ (came_of f J (bodies_of (take k done))).journal ++ more)

-- These requests came, and then these bytes; the replies are in memory, and the journal is what the requests make of it.
pub record IsInMemory (f : ServesBody) (here : Setting) (J then : List Record) (input : Inputs) (text : List ℕ) (done : List Message) (behind : List ℕ) : Type 0 where
  pub each : AreAsking done
  pub given : input.after ≡ input.before ++ (flat_map text_of_message done ++ behind)
  pub replies : text ≡ (came_of f J (bodies_of done)).text
  pub journal : then ≡ (came_of f J (bodies_of done)).journal
  pub grown : List Record
  pub is : then ≡ J ++ grown
  pub lawful : IsLawful here (J ++ grown)
  pub receipts : AreReceiptsTrue J → AreReceiptsTrue (J ++ grown)
  pub splits : AllSplit f J done then

module _ {N : Type 0} (g : Ghosts N) (f : ServesBody) (old new : N) (input : Inputs) (replies : Sinks) (told : IsTrue replies.tells) (none : replies.before ≡ []) where
  -- all of them, and nothing after them
  pub all_in_memory : (done : List Message) → AreAnswered g f old new input replies done → IsInMemory f (g.stands old) (g.records old) (g.records new) input replies.after done []
  all_in_memory done a = record {
    each = a.each;
    given = a.given ∙ ap (λ (x : List ℕ). input.before ++ x) (sym (append-nil (flat_map text_of_message done)));
    replies = a.wrote told ∙ ap (λ (x : List ℕ). x ++ (came_at g f old done).text) none;
    journal = a.journal;
    grown = a.lawful.appends;
    is = a.lawful.is.all (λ never. never);
    lawful = a.lawful.is.lawful;
    receipts = a.lawful.is.receipts;
    splits = λ k le. let kept = a.kept k le in (kept.more, a.journal ∙ kept.is);
  }

  -- those before something that ended the run, of which nothing was begun
  some_in_memory : (place : ℕ) (e : ServeEnding) (s : ServesShort g f old new input replies place e) → (e ≡ ending.Disk → ⊥) → s.breaks.next ≡ [] → s.breaks.last ≡ [] → g.records new ≡ (came_at g f old s.done).journal
      → IsInMemory f (g.stands old) (g.records old) (g.records new) input replies.after s.done s.breaks.behind
  some_in_memory place e s well unbegun untold journal =
      let then : List Record = (came_at g f old s.done).journal in
      let ends : (came_of f then (bodies_of s.breaks.next)).journal ≡ then = ap (λ (ms : List Message). (came_of f then (bodies_of ms)).journal) unbegun in
      record {
        each = s.each;
        given = s.breaks.given ∙ append_assoc input.before (flat_map text_of_message s.done) s.breaks.behind;
        replies = s.wrote told ∙ ap (λ (x : List ℕ). x ++ ((came_at g f old s.done).text ++ s.breaks.last)) none ∙ ap (λ (x : List ℕ). (came_at g f old s.done).text ++ x) untold ∙ append-nil (came_at g f old s.done).text;
        journal = journal;
        grown = s.lawful.appends;
        is = s.lawful.is.all well;
        lawful = s.lawful.is.lawful;
        receipts = s.lawful.is.receipts;
        splits = λ k le. let kept = s.kept k le in (kept.more, journal ∙ sym ends ∙ kept.is);
      }

  pub source_in_memory : (place : ℕ) (s : ServesShort g f old new input replies place ending.Source) → IsInMemory f (g.stands old) (g.records old) (g.records new) input replies.after s.done s.breaks.behind
  source_in_memory place s = let cut = s.breaks.cut.1 in some_in_memory place ending.Source s (λ wrong. cc) cut.unbegun cut.untold cut.stands.journal

  pub input_in_memory : (place at within : ℕ) (s : ServesShort g f old new input replies place (ending.Input at within)) → IsInMemory f (g.stands old) (g.records old) (g.records new) input replies.after s.done s.breaks.behind
  input_in_memory place at within s = let cut = s.breaks.cut in some_in_memory place (ending.Input at within) s (λ wrong. cc) cut.unbegun cut.untold cut.stands.journal

-- a turn that answered a request, as a group of one
pub one_answered : {N : Type 0} (g : Ghosts N) → ((n : N) (file : List ℕ) → g.left_since n (g.moment n) file → g.may_leave n file) → ((n : N) → IsLawful (g.stands n) (g.records n)) → (f : ServesBody) (old new : N) (input : Inputs) (sink : Sinks) → IsServing g old → (t : HasAnswered g f old new input sink) → AreAnswered g f old new input sink (t.message ∷ [])
one_answered g only_now lawful f old new input sink running t =
    let still_input : Inputs = record { tells = input.tells; before = input.before; after = input.before; rest = input.rest; rest_after = input.rest; over = input.over; faults_before = input.faults_before; faults_after = input.faults_before } in
    let still_sink : Sinks = record { tells = sink.tells; before = sink.before; after = sink.before; faults_before = sink.faults_before; faults_after = sink.faults_before } in
    answered_more g only_now f old old new still_input input input still_sink sink sink [] (none_answered g only_now f old still_input still_sink running refl refl (grows_by_nothing g only_now lawful old running) (lawful_by_nothing g only_now lawful ⊥ old running)) running.runs refl refl refl refl refl refl refl refl t

-- seen from a list that is equal
pub in_memory_of : (f : ServesBody) (here : Setting) (J J' then : List Record) (input : Inputs) (text : List ℕ) (done : List Message) (behind : List ℕ) → J' ≡ J → IsInMemory f here J then input text done behind → IsInMemory f here J' then input text done behind
in_memory_of f here J J' then input text done behind same m = subst (λ (x : List Record). IsInMemory f here x then input text done behind) (sym same) m

-- ---- what became of them

-- all records of a node that runs are a prefix of them, and what comes after it
front_of_split : (J more all : List Record) (file : List ℕ) → all ≡ J ++ more → HasAll all false file → HasFront J more file
front_of_split J more all file is has = record {
  count = length more;
  has = subst (λ (K : List Record). HasRecords K file) (is ∙ ap (λ (x : List Record). J ++ x) (sym (take_all (length more) more (omega arith)))) (all_there all file has);
}

module _ {M : Type 0} (g : Ghosts M) (only_now : (n : M) (file : List ℕ) → g.left_since n (g.moment n) file → g.may_leave n file) (f : ServesBody) (old new : M) (input : Inputs) (sink : Sinks)
    (ran : g.stopped old ≡ false) (same : IsSameNode g old new) where
  abbrev J : List Record
  J = g.records old

  -- from the start of the call on its journal has a prefix of what was brought
  kept_none : (then more : List Record) → then ≡ J ++ more → Lasts (journal_of g) old new more → AllStayKept g f old new [] then
  kept_none then more is lasts k le = subst (λ (ms : List Message). StaysKept g old new (came_at g f old ms).journal then) (sym (take_all k [] (omega arith))) (record {
    moment = g.moment old;
    more = more;
    is = is;
    left = λ told. let only = lasts.any_moment (subst (λ (b : Bool). IsTrue b) lasts.told told) ran in record { began = omega arith; past = only.later; left = only.each };
  })

  -- Requests were begun, and nothing is said of their journal but what was to be brought.
  pub begun_only : (place : ℕ) (e : ServeEnding) (next : List Message) (behind more last : List ℕ) (brought : List Record) → AreAsking next → behind ≡ flat_map text_of_message next ++ more → input.after ≡ input.before ++ behind
      → IsCutOff (RunsWith g new) J (came_of f J (bodies_of next)) next behind last input.over (faults_risen (g.faults old) (g.faults new) input sink) (place_from place []) e → Wrote sink last
      → (came_of f J (bodies_of next)).journal ≡ J ++ brought → Lasts (journal_of g) old new brought → LastsIn g (e ≡ ending.Disk) old new → ServesShort g f old new input sink place e
  begun_only place e next behind more last brought each is given cut wrote brings lasts lawful = record {
    done = [];
    each = tt;
    breaks = record { next = next; behind = behind; next_is = (each, (more, is)); given = given ∙ ap (λ (x : List ℕ). x ++ behind) (sym (append-nil input.before)); last = last; cut = cut };
    wrote = wrote;
    same = same;
    brings = record { grown = brought; is = brings; lasts = lasts };
    lawful = lawful;
    kept = kept_none (came_of f J (bodies_of next)).journal brought brings lasts;
  }

  -- a call that brought all of these
  pub brought_all : (failed : Type 0) (brought : List Record) → IsLawful (g.stands old) (J ++ brought) → (AreReceiptsTrue J → AreReceiptsTrue (J ++ brought)) → g.records new ≡ J ++ brought → Lasts (journal_of g) old new brought → LastsIn g failed old new
  brought_all failed brought lawful receipts is lasts = record {
    appends = brought;
    is = record { lawful = lawful; receipts = receipts; count = length brought; front = is ∙ ap (λ (x : List Record). J ++ x) (sym (take_all (length brought) brought (omega arith))); all = λ _. is };
    lasts = lasts;
  }

  -- one that failed and brought none of these
  pub brought_none : (failed : Type 0) (brought : List Record) → failed → IsLawful (g.stands old) (J ++ brought) → (AreReceiptsTrue J → AreReceiptsTrue (J ++ brought)) → g.records new ≡ J → Lasts (journal_of g) old new brought → LastsIn g failed old new
  brought_none failed brought is_failed lawful receipts is lasts = record {
    appends = brought;
    is = record { lawful = lawful; receipts = receipts; count = 0; front = is ∙ sym (append-nil J); all = λ well. absurd (well is_failed) };
    lasts = lasts;
  }

  module _ (done : List Message) (text behind : List ℕ) (then : List Record) (m : IsInMemory f (g.stands old) J then input text done behind) (journal : g.records new ≡ then) (running : IsServing g new) (lasts : Lasts (journal_of g) old new m.grown) where
    -- each of them stays kept from the end of the call on
    kept_each : AllStayKept g f old new done (came_at g f old done).journal
    kept_each k le = let split = m.splits k le in record {
      moment = g.moment new;
      more = split.0;
      is = sym m.journal ∙ split.1;
      left = λ told. record {
        began = (lasts.any_moment (subst (λ (b : Bool). IsTrue b) lasts.told told) ran).later;
        past = omega arith;
        left = λ image left. front_of_split _ split.0 (g.records new) image (journal ∙ split.1) (running.stable told image (only_now new image left));
      };
    }

    grows : GrowsToward g old new (came_at g f old done).journal
    grows = record { grown = m.grown; is = sym m.journal ∙ m.is; lasts = lasts }

    -- they were kept and replied
    pub group_answered : behind ≡ [] → Wrote sink text → AreAnswered g f old new input sink done
    group_answered nothing wrote = record {
      each = m.each;
      given = m.given ∙ ap (λ (x : List ℕ). input.before ++ (flat_map text_of_message done ++ x)) nothing ∙ ap (λ (x : List ℕ). input.before ++ x) (append-nil (flat_map text_of_message done));
      wrote = subst (Wrote sink) m.replies wrote;
      journal = journal ∙ m.journal;
      same = same;
      running = running;
      brings = grows;
      lawful = brought_all ⊥ m.grown m.lawful m.receipts (journal ∙ m.is) lasts;
      kept = kept_each;
    }

    -- and what came after them ended the run
    pub group_cut : (place : ℕ) (e : ServeEnding) → IsCutOff (RunsWith g new) (came_at g f old done).journal (came_of f (came_at g f old done).journal []) [] behind [] input.over (faults_risen (g.faults old) (g.faults new) input sink) (place_from place done) e → Wrote sink text
        → ServesShort g f old new input sink place e
    group_cut place e cut wrote = record {
      done = done;
      each = m.each;
      breaks = record { next = []; behind = behind; next_is = (tt, (behind, refl)); given = m.given ∙ sym (append_assoc input.before (flat_map text_of_message done) behind); last = []; cut = cut };
      wrote = subst (Wrote sink) (m.replies ∙ sym (append-nil (came_at g f old done).text)) wrote;
      same = same;
      brings = grows;
      lawful = brought_all _ m.grown m.lawful m.receipts (journal ∙ m.is) lasts;
      kept = kept_each;
    }

    -- the journal stands
    pub stands_now : RunsWith g new (came_at g f old done).journal
    stands_now = record { running = running; journal = journal ∙ m.journal }

-- ---- a node whose disk was left alone

module _ {M : Type 0} (g : Ghosts M) (only_now : (n : M) (file : List ℕ) → g.left_since n (g.moment n) file → g.may_leave n file) (old new : M) (ran : g.stopped old ≡ false) where
  front_none : (more : List Record) (file : List ℕ) → HasAll (g.records old) false file → HasFront (g.records old) more file
  front_none more file all = record { count = 0; has = subst (λ (K : List Record). HasRecords K file) (sym (append-nil (g.records old))) (all_there (g.records old) file all) }

  -- the disk wasn't touched, whatever might have been appended
  pub untouched_lasts : IsServing g old → g.records new ≡ g.records old → g.tells new ≡ g.tells old → g.stopped new ≡ g.stopped old → g.moment new ≡ g.moment old → ((t : ℕ) (file : List ℕ) → g.left_since new t file → g.left_since old t file) → ((file : List ℕ) → g.may_leave new file → g.may_leave old file)
      → (more : List Record) → Lasts (journal_of g) old new more
  untouched_lasts running records told stopped moment since leave more = record {
    told = told;
    any_moment = λ t runs. record {
      later = omega (arith, moment);
      each = λ file left. front_none more file (running.stable t file (only_now old file (since (g.moment old) file left)));
      before = λ t' file le left. inl (since t' file left);
    };
    stable = λ t file left. subst (λ (K : List Record). HasAll K (g.stopped new) file) (sym records)
        (subst (λ (b : Bool). HasAll (g.records old) b file) (sym (stopped ∙ ran)) (running.stable (subst (λ (b : Bool). IsTrue b) told t) file (leave file left)));
    untouched = λ is. record { same_moment = moment; no_more = since };
  }
