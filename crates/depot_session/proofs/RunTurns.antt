-- A run, turn by turn.
use Rattle.std.proofs.Common.{◌≡◌, ◌≤◌, ◌<◌, ◌⊎◌, ℕ, ◌+◌, ◌-◌, ◌^◌, Option, Bool, true, false, IsTrue, List, [], ◌∷◌, ◌++◌, append-nil, append_assoc, length, length-append, map, take, Result, Ok, Err, refl, sym, ap, subst, ◌∙◌, arith, inl, inr, ⊎_elim}
use Rattle.std.proofs.lemmas.List.{take_all, take-append-le}
use Rattle.std.proofs.Math.Seq.{take-append-add}
use Rattle.std.proofs.Math.Nat.{eq-or-lt_of_le}
use Rattle.std.specs.List.{flat_map}
use Rattle.std.specs.Prelude.{min}
use Rattle.depot_base.specs.Faults.{HasCause}
use Rattle.depot_base.specs.declared.record.Record.{Record}
use Rattle.depot_streams.specs.Lasting.{LastsIn}
use Rattle.depot_streams.proofs.LastingStreams.{joined_in, lasts_so}
use Rattle.depot_model.specs.journals.Replicas.{IsSameNode, journal_of}
use Rattle.depot_base.specs.File.{IsFileOf}
use Rattle.depot_model.specs.texts.Records.{text_of_record}
use Rattle.depot_model.specs.journals.Stops.{HasAll, HasFront, HasRecords}
use Rattle.depot_model.specs.declared.node_state.NodeState.{Ghosts}
use Rattle.depot_model.proofs.of_journals.StopLaws.{front_longer, lasts_joined, so_many_more}
use Rattle.depot_outside.specs.Told.{Sinks, Wrote}
use Rattle.depot_source.specs.Inputs.{Inputs}
use Rattle.depot_source.specs.Messages.{Message, text_of_message}
use Rattle.depot_service.specs.Answering.{IsServing}
use Rattle.depot_session.specs.Answering.{ServesBody, came_of}
use Rattle.depot_session.specs.Serving.{AllStayKept, AreAnswered, FaultsRisen, GrowsToward, HasAnswered, IsCutOff, IsTurnShort, RunsWith, ServesShort, ServesWhole, StaysKept, TurnsRequest, bodies_of, came_at, faults_risen, place_from}
use Rattle.depot_session.specs.declared.server_ending.ServeEnding.{ServeEnding}
use Rattle.depot_session.specs.declared.server_ending.ServeEnding.TheVariants as ending
use Rattle.depot_session.proofs.of_serving.SameNodes.{same_before, same_behind}
use Rattle.depot_session.proofs.of_serving.Folding.{bodies_more, each_all, each_more, journal_all, journal_more, place_behind, text_all, text_more, texts_all, texts_more}

-- ---- what is kept

-- a prefix of the second after all of the first is a prefix of all
front_of_second : (J K a b : List Record) (file : List ℕ) → K ≡ J ++ a → HasFront K b file → HasFront J (a ++ b) file
front_of_second J K a b file grown front = record {
  count = length a + front.count;
  has = subst (λ (x : List Record). HasRecords x file) (ap (λ (x : List Record). x ++ take front.count b) grown ∙ so_many_more J a b front.count) front.has;
}

-- two stretches of a run
pub brings_joined : {N : Type 0} (g : Ghosts N) (old mid new : N) (J K : List Record) → g.stopped old ≡ false → g.stopped mid ≡ false → g.records mid ≡ J → GrowsToward g old mid J → GrowsToward g mid new K → GrowsToward g old new K
brings_joined g old mid new J K ran runs at one two = record {
  grown = one.grown ++ two.grown;
  is = two.is ∙ ap (λ (x : List Record). x ++ two.grown) (at ∙ one.is) ∙ append_assoc (g.records old) one.grown two.grown;
  lasts = lasts_joined {v = journal_of g} old mid new one.grown two.grown ran runs (at ∙ one.is) one.lasts two.lasts;
}

-- what was kept is kept on
pub kept_on : {N : Type 0} (g : Ghosts N) (first mid new : N) (J K then : List Record) → g.stopped mid ≡ false → g.records mid ≡ K → StaysKept g first mid J K → GrowsToward g mid new then → StaysKept g first new J then
kept_on g first mid new J K then runs at kept brings =
    let grown : g.records mid ≡ J ++ kept.more = at ∙ kept.is in
    record {
      moment = kept.moment;
      more = kept.more ++ brings.grown;
      is = brings.is ∙ ap (λ (x : List Record). x ++ brings.grown) grown ∙ append_assoc J kept.more brings.grown;
      left = λ told.
          let told_mid = subst (λ (b : Bool). IsTrue b) brings.lasts.told told in
          let since = kept.left told_mid in
          let only = brings.lasts.any_moment told_mid runs in
          record {
            began = since.began;
            past = omega (arith, since.past, only.later);
            left = λ image left. ⊎_elim (λ was. front_longer J kept.more brings.grown image (since.left image was)) (λ now. front_of_second J (g.records mid) kept.more brings.grown image grown now) (only.before kept.moment image since.past left);
          };
    }

-- all records are a prefix with none after them
front_of_all : (J : List Record) (file : List ℕ) → HasAll J false file → HasFront J [] file
front_of_all J file all = record {
  count = 0;
  has = subst (λ (x : List (List ℕ)). IsFileOf file x) (ap (λ (x : List (List ℕ)). map text_of_record J ++ x) (all.none refl) ∙ append-nil (map text_of_record J) ∙ ap (map text_of_record) (sym (append-nil J))) all.has;
}

-- a node that runs is kept from now on
pub kept_now : {N : Type 0} (g : Ghosts N) → ((n : N) (file : List ℕ) → g.left_since n (g.moment n) file → g.may_leave n file) → (first new : N) (J : List Record) → g.stopped first ≡ false → IsServing g new → g.records new ≡ J → GrowsToward g first new J → StaysKept g first new J J
kept_now g only_now first new J ran running at brings = record {
  moment = g.moment new;
  more = [];
  is = sym (append-nil J);
  left = λ told. record { began = (brings.lasts.any_moment (subst (λ (b : Bool). IsTrue b) brings.lasts.told told) ran).later; past = omega arith; left = λ image left. subst (λ (x : List Record). HasFront x [] image) at (front_of_all (g.records new) image (running.stable told image (only_now new image left))) };
}

-- what is kept from some moment on, seen from an earlier one
pub kept_from : {N : Type 0} (g : Ghosts N) (first mid new : N) (J then : List Record) {K L : List Record} → g.stopped first ≡ false → GrowsToward g first mid K → GrowsToward g mid new L → StaysKept g mid new J then → StaysKept g first new J then
kept_from g first mid new J then ran one two kept = record {
  moment = kept.moment;
  more = kept.more;
  is = kept.is;
  left = λ told.
      let since = kept.left told in
      let told_mid = subst (λ (b : Bool). IsTrue b) two.lasts.told told in
      let later = (one.lasts.any_moment (subst (λ (b : Bool). IsTrue b) one.lasts.told told_mid) ran).later in
      record { began = omega (arith, later, since.began); past = since.past; left = since.left };
}

-- a number is at most another, or at least
split_at : (k n : ℕ) → (k ≤ n) ⊎ (n ≤ k)
split_at k n = grind arith

take_behind : (k : ℕ) (xs ys : List Message) → length xs ≤ k → take k (xs ++ ys) ≡ xs ++ take (k - length xs) ys
take_behind k xs ys le = subst (λ (n : ℕ). take n (xs ++ ys) ≡ xs ++ take (k - length xs) ys) (sym (omega (arith, le))) (take-append-add xs ys (k - length xs))

-- how a run was cut short, said of what is equal
pub cut_as : {N : Type 0} (g : Ghosts N) (f : ServesBody) (new : N) (J K : List Record) (next : List Message) (behind last : List ℕ) (over over' : Bool) (risen risen' : FaultsRisen) (place place' : ℕ) (e : ServeEnding) → J ≡ K → over ≡ over' → risen ≡ risen' → place ≡ place'
    → IsCutOff (RunsWith g new) K (came_of f K (bodies_of next)) next behind last over' risen' place' e → IsCutOff (RunsWith g new) J (came_of f J (bodies_of next)) next behind last over risen place e
cut_as g f new J K next behind last over over' risen risen' place place' e journal ends fails at cut =
    subst (λ (x : List Record). IsCutOff (RunsWith g new) x (came_of f x (bodies_of next)) next behind last over risen place e) (sym journal)
    (subst (λ (o : Bool). IsCutOff (RunsWith g new) K (came_of f K (bodies_of next)) next behind last o risen place e) (sym ends)
    (subst (λ (x : FaultsRisen). IsCutOff (RunsWith g new) K (came_of f K (bodies_of next)) next behind last over' x place e) (sym fails)
    (subst (λ (x : ℕ). IsCutOff (RunsWith g new) K (came_of f K (bodies_of next)) next behind last over' risen' x e) (sym at) cut)))

-- ---- texts after one another

pub wrote_behind : (first mid new : List ℕ) (told now : Bool) (a b : List ℕ) → now ≡ told → (IsTrue told → mid ≡ first ++ a) → (IsTrue now → new ≡ mid ++ b) → IsTrue told → new ≡ first ++ (a ++ b)
wrote_behind first mid new told now a b same one two t = two (subst (λ (x : Bool). IsTrue x) (sym same) t) ∙ ap (λ (x : List ℕ). x ++ b) (one t) ∙ append_assoc first a b

pub given_behind : (first mid new a b : List ℕ) → mid ≡ first ++ a → new ≡ mid ++ b → new ≡ first ++ (a ++ b)
given_behind first mid new a b one two = two ∙ ap (λ (x : List ℕ). x ++ b) one ∙ append_assoc first a b

module _ {N : Type 0} (g : Ghosts N) (only_now : (n : N) (file : List ℕ) → g.left_since n (g.moment n) file → g.may_leave n file) (f : ServesBody) where
  -- before the first turn
  pub none_answered : (n : N) (input : Inputs) (sink : Sinks) → IsServing g n → input.after ≡ input.before → sink.after ≡ sink.before → GrowsToward g n n (g.records n) → LastsIn g ⊥ n n → AreAnswered g f n n input sink []
  none_answered n input sink running given wrote brings lawful = record {
    each = tt;
    given = given ∙ sym (append-nil input.before);
    wrote = λ told. wrote ∙ sym (append-nil sink.before);
    journal = refl;
    same = same_before g n;
    running = running;
    brings = brings;
    lawful = lawful;
    kept = λ k le. subst (λ (ms : List Message). StaysKept g n n (came_at g f n ms).journal (g.records n)) (sym (take_all k [] (omega arith))) (kept_now g only_now n n (g.records n) running.runs running refl brings);
  }

  module _ (first mid new : N) (input_mid input_turn input : Inputs) (sink_mid sink_turn sink : Sinks) (done : List Message) (so_far : AreAnswered g f first mid input_mid sink_mid done) (ran : g.stopped first ≡ false)
      (given_first : input.before ≡ input_mid.before) (given_mid : input_turn.before ≡ input_mid.after) (given_new : input.after ≡ input_turn.after)
      (sink_first : sink.before ≡ sink_mid.before) (sink_between : sink_turn.before ≡ sink_mid.after) (sink_new : sink.after ≡ sink_turn.after) (told : sink.tells ≡ sink_mid.tells) (told_turn : sink_turn.tells ≡ sink_mid.tells) where
    abbrev texts : List ℕ
    texts = (came_at g f first done).text

    wrote_more : (b : List ℕ) → Wrote sink_turn b → Wrote sink (texts ++ b)
    wrote_more b wrote t = sink_new ∙ wrote_behind sink_mid.before sink_mid.after sink_turn.after sink_mid.tells sink_turn.tells texts b told_turn so_far.wrote (λ x. wrote x ∙ ap (λ (s : List ℕ). s ++ b) sink_between) (subst (λ (x : Bool). IsTrue x) told t) ∙ ap (λ (s : List ℕ). s ++ (texts ++ b)) (sym sink_first)

    given_more : (b : List ℕ) → input_turn.after ≡ input_turn.before ++ b → input.after ≡ input.before ++ (flat_map text_of_message done ++ b)
    given_more b given = given_new ∙ given_behind input_mid.before input_mid.after input_turn.after (flat_map text_of_message done) b so_far.given (given ∙ ap (λ (s : List ℕ). s ++ b) given_mid) ∙ ap (λ (s : List ℕ). s ++ (flat_map text_of_message done ++ b)) (sym given_first)

    -- one turn more
    pub answered_more : (t : HasAnswered g f mid new input_turn sink_turn) → AreAnswered g f first new input sink (done ++ t.message ∷ [])
    answered_more t =
        let bs = bodies_of done in
        let b = t.message.body in
        let J = g.records first in
        let bodies_are : bodies_of (done ++ t.message ∷ []) ≡ bs ++ b ∷ [] = bodies_more done t.message in
        let journal_is : (came_at g f first (done ++ t.message ∷ [])).journal ≡ (f (g.records mid) b).journal = ap (λ (x : List (List ℕ)). (came_of f J x).journal) bodies_are ∙ journal_more f J bs b ∙ ap (λ (x : List Record). (f x b).journal) (sym so_far.journal) in
        let text_is : (came_at g f first (done ++ t.message ∷ [])).text ≡ texts ++ (f (g.records mid) b).text = ap (λ (x : List (List ℕ)). (came_of f J x).text) bodies_are ∙ text_more f J bs b ∙ ap (λ (x : List Record). texts ++ (f x b).text) (sym so_far.journal) in
        let grown : GrowsToward g first new (came_at g f first (done ++ t.message ∷ [])).journal = subst (GrowsToward g first new) (sym journal_is) (brings_joined g first mid new _ _ ran so_far.running.runs so_far.journal so_far.brings t.brings) in
        record {
          each = each_more done t.message so_far.each t.asks;
          given = given_more (text_of_message t.message) t.given ∙ ap (λ (x : List ℕ). input.before ++ x) (sym (texts_more done t.message));
          wrote = subst (Wrote sink) (sym text_is) (wrote_more _ t.wrote);
          journal = t.journal ∙ sym journal_is;
          same = same_behind g first mid new so_far.same t.same;
          running = t.running;
          lawful = joined_in g ⊥ ⊥ first mid new (λ never. never) so_far.same.stands ran so_far.running.runs so_far.lawful t.lawful;
          brings = grown;
          kept = λ k le. elim (eq-or-lt_of_le le) [
            | inl all ↦ subst (λ (ms : List Message). StaysKept g first new (came_at g f first ms).journal (came_at g f first (done ++ t.message ∷ [])).journal) (sym (take_all k (done ++ t.message ∷ []) (omega (arith, all)))) (kept_now g only_now first new _ ran t.running (t.journal ∙ sym journal_is) grown)
            | inr less ↦
                let within : k ≤ length done = omega (arith, less, length-append done (t.message ∷ [])) in
                subst (λ (ms : List Message). StaysKept g first new (came_at g f first ms).journal (came_at g f first (done ++ t.message ∷ [])).journal) (sym (take-append-le k done (t.message ∷ []) within))
                (kept_on g first mid new _ _ _ so_far.running.runs so_far.journal (so_far.kept k within) (subst (GrowsToward g mid new) (sym journal_is) t.brings))
          ];
        }

    -- what was kept by then, and what is kept of those after it
    kept_all : (more : List Message) (then then' : List Record) → then' ≡ then → GrowsToward g mid new then → AllStayKept g f mid new more then → AllStayKept g f first new (done ++ more) then'
    kept_all more then then' is brings kept k le = elim (split_at k (length done)) [
      | inl within ↦
          subst (λ (ms : List Message). StaysKept g first new (came_at g f first ms).journal then') (sym (take-append-le k done more within))
          (subst (StaysKept g first new (came_at g f first (take k done)).journal) (sym is) (kept_on g first mid new _ _ _ so_far.running.runs so_far.journal (so_far.kept k within) brings))
      | inr behind ↦
          let rest : k - length done ≤ length more = omega (arith, behind, le, length-append done more) in
          let front : take k (done ++ more) ≡ done ++ take (k - length done) more = take_behind k done more behind in
          let journal_is : (came_at g f first (done ++ take (k - length done) more)).journal ≡ (came_at g f mid (take (k - length done) more)).journal = journal_all f (g.records first) (g.records mid) done (take (k - length done) more) so_far.journal in
          subst (λ (ms : List Message). StaysKept g first new (came_at g f first ms).journal then') (sym front)
          (subst (λ (J : List Record). StaysKept g first new J then') (sym journal_is)
          (subst (StaysKept g first new (came_at g f mid (take (k - length done) more)).journal) (sym is) (kept_from g first mid new _ then ran so_far.brings brings (kept (k - length done) rest))))
    ]

    -- several turns more
    pub answered_all : (more : List Message) (t : AreAnswered g f mid new input_turn sink_turn more) → AreAnswered g f first new input sink (done ++ more)
    answered_all more t =
        let J = g.records first in
        let journal_is : (came_at g f first (done ++ more)).journal ≡ (came_at g f mid more).journal = journal_all f J (g.records mid) done more so_far.journal in
        let text_is : (came_at g f first (done ++ more)).text ≡ texts ++ (came_at g f mid more).text = text_all f J (g.records mid) done more so_far.journal in
        record {
          each = each_all done more so_far.each t.each;
          given = given_more (flat_map text_of_message more) t.given ∙ ap (λ (x : List ℕ). input.before ++ x) (sym (texts_all done more));
          wrote = subst (Wrote sink) (sym text_is) (wrote_more _ t.wrote);
          journal = t.journal ∙ sym journal_is;
          same = same_behind g first mid new so_far.same t.same;
          running = t.running;
          lawful = joined_in g ⊥ ⊥ first mid new (λ never. never) so_far.same.stands ran so_far.running.runs so_far.lawful t.lawful;
          brings = subst (GrowsToward g first new) (sym journal_is) (brings_joined g first mid new _ _ ran so_far.running.runs so_far.journal so_far.brings t.brings);
          kept = kept_all more (came_at g f mid more).journal (came_at g f first (done ++ more)).journal journal_is t.brings t.kept;
        }

    -- the end after them
    pub whole_all : input.over ≡ input_turn.over → ServesWhole g f mid new input_turn sink_turn → ServesWhole g f first new input sink
    whole_all over w = record { done = done ++ w.done; answered = answered_all w.done w.answered; over = over ∙ w.over }

    -- a run that was cut short after them
    pub short_all : (begins place : ℕ) (e : ServeEnding) → place ≡ place_from begins done → faults_risen (g.faults mid) (g.faults new) input_turn sink_turn ≡ faults_risen (g.faults first) (g.faults new) input sink → input.over ≡ input_turn.over
        → ServesShort g f mid new input_turn sink_turn place e → ServesShort g f first new input sink begins e
    short_all begins place e at_place fails over t =
        let J = g.records first in
        let K = (came_at g f mid t.done).journal in
        let is : (came_at g f first (done ++ t.done)).journal ≡ K = journal_all f J (g.records mid) done t.done so_far.journal in
        let text_is : (came_at g f first (done ++ t.done)).text ≡ texts ++ (came_at g f mid t.done).text = text_all f J (g.records mid) done t.done so_far.journal in
        let then : List Record → List Record = λ x. (came_of f x (bodies_of t.breaks.next)).journal in
        let next = t.breaks.next in
        let behind = t.breaks.behind in
        let last = t.breaks.last in
        let place_is : place_from place t.done ≡ place_from begins (done ++ t.done) = ap (λ (x : ℕ). place_from x t.done) at_place ∙ place_behind begins done t.done in
        record {
          done = done ++ t.done;
          each = each_all done t.done so_far.each t.each;
          breaks = record {
            next = next;
            behind = behind;
            next_is = t.breaks.next_is;
            given = given_more (flat_map text_of_message t.done ++ behind) (t.breaks.given ∙ append_assoc input_turn.before (flat_map text_of_message t.done) behind) ∙ ap (λ (x : List ℕ). input.before ++ x) (sym (append_assoc (flat_map text_of_message done) (flat_map text_of_message t.done) behind))
                ∙ sym (append_assoc input.before (flat_map text_of_message done ++ flat_map text_of_message t.done) behind) ∙ ap (λ (x : List ℕ). (input.before ++ x) ++ behind) (sym (texts_all done t.done));
            last = last;
            cut = cut_as g f new (came_at g f first (done ++ t.done)).journal K next behind last input.over input_turn.over (faults_risen (g.faults first) (g.faults new) input sink) (faults_risen (g.faults mid) (g.faults new) input_turn sink_turn) (place_from begins (done ++ t.done)) (place_from place t.done) e is over (sym fails) (sym place_is) t.breaks.cut;
          };
          wrote = subst (λ (x : List ℕ). Wrote sink (x ++ last)) (sym text_is) (subst (Wrote sink) (sym (append_assoc texts (came_at g f mid t.done).text last)) (wrote_more ((came_at g f mid t.done).text ++ last) t.wrote));
          same = same_behind g first mid new so_far.same t.same;
          lawful = joined_in g ⊥ (e ≡ ending.Disk) first mid new (λ never. never) so_far.same.stands ran so_far.running.runs so_far.lawful t.lawful;
          brings = subst (λ (x : List Record). GrowsToward g first new (then x)) (sym is) (brings_joined g first mid new _ _ ran so_far.running.runs so_far.journal so_far.brings t.brings);
          kept = kept_all t.done (then K) (then (came_at g f first (done ++ t.done)).journal) (ap then is) t.brings t.kept;
        }

    -- they were answered after these
    pub short_done : (begins place : ℕ) (e : ServeEnding) (at_place : place ≡ place_from begins done) (fails : faults_risen (g.faults mid) (g.faults new) input_turn sink_turn ≡ faults_risen (g.faults first) (g.faults new) input sink) (over : input.over ≡ input_turn.over) (t : ServesShort g f mid new input_turn sink_turn place e)
        → (short_all begins place e at_place fails over t).done ≡ done ++ t.done
    unfolding short_all
    short_done begins place e at_place fails over t = refl

    -- nothing more came
    pub still_answered : new ≡ mid → input_turn.after ≡ input_turn.before → Wrote sink_turn [] → AreAnswered g f first new input sink done
    still_answered same given wrote = record {
      each = so_far.each;
      given = given_new ∙ given ∙ given_mid ∙ so_far.given ∙ ap (λ (s : List ℕ). s ++ flat_map text_of_message done) (sym given_first);
      wrote = subst (Wrote sink) (append-nil texts) (wrote_more [] wrote);
      journal = subst (λ (n : N). g.records n ≡ (came_at g f first done).journal) (sym same) so_far.journal;
      same = subst (λ (n : N). IsSameNode g first n) (sym same) so_far.same;
      running = subst (IsServing g) (sym same) so_far.running;
      lawful = subst (λ (n : N). LastsIn g ⊥ first n) (sym same) so_far.lawful;
      brings = subst (λ (n : N). GrowsToward g first n (came_at g f first done).journal) (sym same) so_far.brings;
      kept = subst (λ (n : N). AllStayKept g f first n done (came_at g f first done).journal) (sym same) so_far.kept;
    }

    -- a turn that was cut short
    pub cut_short : (begins place : ℕ) (e : ServeEnding) → place ≡ place_from begins done → faults_risen (g.faults mid) (g.faults new) input_turn sink_turn ≡ faults_risen (g.faults first) (g.faults new) input sink → input.over ≡ input_turn.over → IsTurnShort g f mid new input_turn sink_turn place e → ServesShort g f first new input sink begins e
    cut_short begins place e at_place fails over t =
        let K = (came_at g f first done).journal in
        let at : g.records mid ≡ K = so_far.journal in
        let before_is : input_turn.before ≡ input.before ++ flat_map text_of_message done = given_mid ∙ so_far.given ∙ ap (λ (s : List ℕ). s ++ flat_map text_of_message done) (sym given_first) in
        let brings : GrowsToward g mid new (came_of f K (bodies_of t.breaks.next)).journal = subst (λ (J : List Record). GrowsToward g mid new (came_of f J (bodies_of t.breaks.next)).journal) at t.brings in
        record {
          done = done;
          each = so_far.each;
          breaks = record {
            next = t.breaks.next;
            behind = t.breaks.behind;
            next_is = t.breaks.next_is;
            given = given_new ∙ t.breaks.given ∙ ap (λ (s : List ℕ). s ++ t.breaks.behind) before_is;
            last = t.breaks.last;
            cut = subst (λ (o : Bool). IsCutOff (RunsWith g new) K (came_of f K (bodies_of t.breaks.next)) t.breaks.next t.breaks.behind t.breaks.last o (faults_risen (g.faults first) (g.faults new) input sink) (place_from begins done) e) (sym over)
                (subst (λ (x : FaultsRisen). IsCutOff (RunsWith g new) K (came_of f K (bodies_of t.breaks.next)) t.breaks.next t.breaks.behind t.breaks.last input_turn.over x (place_from begins done) e) fails
                (subst (λ (J : List Record). IsCutOff (RunsWith g new) J (came_of f J (bodies_of t.breaks.next)) t.breaks.next t.breaks.behind t.breaks.last input_turn.over (faults_risen (g.faults mid) (g.faults new) input_turn sink_turn) (place_from begins done) e) at
                (subst (λ (x : ℕ). IsCutOff (RunsWith g new) (g.records mid) (came_of f (g.records mid) (bodies_of t.breaks.next)) t.breaks.next t.breaks.behind t.breaks.last input_turn.over (faults_risen (g.faults mid) (g.faults new) input_turn sink_turn) x e) at_place t.breaks.cut)));
          };
          wrote = wrote_more t.breaks.last t.wrote;
          same = same_behind g first mid new so_far.same t.same;
          lawful = joined_in g ⊥ (e ≡ ending.Disk) first mid new (λ never. never) so_far.same.stands ran so_far.running.runs so_far.lawful t.lawful;
          brings = brings_joined g first mid new K _ ran so_far.running.runs at so_far.brings brings;
          kept = λ k le. kept_on g first mid new _ K _ so_far.running.runs at (so_far.kept k le) brings;
        }

-- what failed in a turn failed in the run, where nothing had failed before it
abbrev rising : ℕ → ℕ → ℕ → ℕ → ℕ → ℕ → FaultsRisen
rising d n i m s k = record { disk = d < n; source = i < m; sink = s < k }

pub same_failing : (d e n i j m s t k : ℕ) → d ≡ e → i ≡ j → s ≡ t → rising d n i m s k ≡ rising e n j m t k
same_failing d e n i j m s t k disk source sink = ap (λ (x : ℕ). rising x n i m s k) disk ∙ ap (λ (x : ℕ). rising e n x m s k) source ∙ ap (λ (x : ℕ). rising e n j m x k) sink

-- a turn that went well raised no count
pub quiet : (a b : ℕ) (v : Option ℕ) (e : ServeEnding) → HasCause a b (Ok v ≡ Err e) → b ≡ a
quiet a b v e cause = elim (eq-or-lt_of_le cause.never_falls) [
  | inl same ↦ sym same
  | inr rose ↦ (let wrong = cause.only rose in absurd (untrue v e wrong))
] where
  untrue : (v : Option ℕ) (e : ServeEnding) → Ok v ≡ Err e → ⊥
  untrue v e is = cc

-- the run was cut short before anything came
pub ended_by_count : {N : Type 0} (g : Ghosts N) (f : ServesBody) (first now : N) (input : Inputs) (sink : Sinks) (done : List Message) → AreAnswered g f first now input sink done → ServesShort g f first now input sink 0 ending.Memory
ended_by_count g f first now input sink done a = record {
  done = done;
  each = a.each;
  breaks = record { next = []; behind = []; next_is = (tt, ([], refl)); given = a.given ∙ sym (append-nil (input.before ++ flat_map text_of_message done)); last = []; cut = refl };
  wrote = subst (Wrote sink) (sym (append-nil (came_at g f first done).text)) a.wrote;
  same = a.same;
  lawful = lasts_so g ⊥ _ first now (λ never. absurd never) a.lawful;
  brings = a.brings;
  kept = a.kept;
}

-- a turn by what the node serves, which is what it served at first
pub of_first : {N : Type 0} (g : Ghosts N) (f h : ServesBody) (old new : N) (input : Inputs) (sink : Sinks) (place : ℕ) (first : Bool) (r : Result (Option ℕ) ServeEnding) → f ≡ h → TurnsRequest g f old new input sink place first r → TurnsRequest g h old new input sink place first r
of_first g f h old new input sink place first r serves turns = subst (λ (x : ServesBody). TurnsRequest g x old new input sink place first r) serves turns

-- a place after one message more
pub place_more : (begins : ℕ) (done : List Message) (m : Message) (at long : ℕ) → at ≡ place_from begins done → long ≡ length (text_of_message m) → min (at + long) (2 ^ 64 - 1) ≡ place_from begins (done ++ m ∷ [])
place_more begins done m at long is so = let all : length (flat_map text_of_message (done ++ m ∷ [])) ≡ length (flat_map text_of_message done) + length (text_of_message m) = ap length (texts_more done m) ∙ length-append (flat_map text_of_message done) (text_of_message m) in grind (arith, all, is, so)
