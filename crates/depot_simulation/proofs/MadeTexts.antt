-- What events that only make a label give that label.
use Rattle.std.proofs.Common.{◌≡◌, ℕ, ◌<◌, ◌≤◌, ◌^◌, Bool, true, false, not, ◌&&◌, ◌||◌, eqb, List, [], ◌∷◌, ◌++◌, length, Vec, map, Option, Some, None, option_and_then, option_map, cond, refl, sym, ap, subst, ◌∙◌, inl, inr, arith}
use Rattle.std.specs.Prelude.{IfSome, nat_le, if◌then◌else◌}
use Rattle.std.proofs.lemmas.Bool.Decides.{nat_tests}
use Rattle.std.specs.Str.{bytes_eq}
use Rattle.std.specs.declared.alloc.Global.{Global}
use Rattle.std.proofs.lemmas.List.{append-nil}
use Rattle.depot_base.specs.Writes.{one_change}
use Rattle.depot_base.specs.declared.proof.Kind.{Kind}
use Rattle.depot_base.specs.declared.proof.Kind.TheVariants.{NotUpdate}
use Rattle.depot_base.specs.declared.proof.Proof.TheVariants.{Hollow}
use Rattle.depot_base.specs.declared.write.Change.{Change}
use Rattle.depot_answers.specs.AnswerTexts.{spaced}
use Rattle.depot_base.specs.declared.statement.Signed.{Signed}
use Rattle.depot_base.specs.declared.statement.Statement.{Statement}
use Rattle.depot_base.specs.declared.statement.Statement.TheVariants as statement
use Rattle.depot_model.specs.journals.Journal.{update_in}
use Rattle.depot_model.specs.lists.Lists.{IsIn}
use Rattle.depot_model.specs.exchange.Bundle.{Signs}
use Rattle.depot_model.specs.texts.Texts.{IsSigned}
use Rattle.depot_model.specs.checks.Vouching.{rising}
use Rattle.depot_base.specs.declared.update.Update.{Update}
use Rattle.depot_schedule.specs.EventLines.{event_label}
use Rattle.depot_schedule.specs.EventWords.{is_declared, is_faulty}
use Rattle.depot_schedule.specs.declared.event.Event.{Event}
use Rattle.depot_schedule.specs.declared.event.Event.TheVariants as event
use Rattle.depot_schedule.specs.declared.event.HistoryWord.{HistoryWord}
use Rattle.depot_schedule.specs.declared.event.Ref.{Ref}
use Rattle.depot_schedule.specs.declared.member.Member.{Member}
use Rattle.depot_schedule.specs.declared.schedule.Schedule.{Schedule}
use Rattle.depot_model.specs.readers.Readers.{Reader}
use Rattle.depot_world.specs.Run.{Labelled, Run, bytes_of_label, id_referred, made_in, signed_of}
use Rattle.depot_world.specs.FaultySigning.{Text, all_of, hollow_text, no_reference, proof_of_halves, proof_text, proof_with, voucher_text, vouched_text}
use Rattle.depot_world.specs.Setups.{Setup}
use Rattle.depot_world.specs.Transcript.{done, done_by_text}
use Rattle.depot_simulation.specs.Acting.{AreHosted, ActorView}
use Rattle.depot_scenario.specs.Scenarios.{MayHappen}
use Rattle.depot_simulation.specs.Doing.{HasDone, is_text, text_by}
use Rattle.depot_simulation.specs.Drafts.{HasLeaf, MaySign}
use Rattle.depot_scenario.specs.Labels.{AreLabels}
use Rattle.depot_simulation.specs.Playing.{IsSimulationAt, IsRemembered, WereSeen, participant_by}
use Rattle.depot_scenario.specs.ScenarioTexts.{IsText}
use Rattle.depot_simulation.specs.declared.participant.Participant.{Participant}
use Rattle.depot_simulation.specs.declared.simulation.Simulation.{Simulation}
use Rattle.depot_simulation.specs.declared.readers.Readers.{Readers}
use Rattle.depot_simulation.specs.Readers.{AreReaders}
use Rattle.depot_scenario.specs.declared.known_updates.KnownUpdates.{KnownUpdates}
use Rattle.depot_scenario.specs.declared.texts.Text as made_text
use Rattle.depot_simulation.proofs.EventFields.{IsFaultySigner, update_signed, updates_signed, voucher_signer}
use Rattle.depot_simulation.proofs.RememberedRuns.{IsKept, label_remembers, none_is_kept}

-- ---- who signs

-- a faulty node is declared
faulty_is_declared : (members : List Member) (node : ℕ) → is_faulty members node ≡ true → is_declared members node ≡ true
faulty_is_declared [] node e = e
faulty_is_declared (m ∷ ms) node e = by_tests (eqb m.node node) m.correct (faulty_is_declared ms node) e where
  by_tests : (same correct : Bool) → (is_faulty ms node ≡ true → is_declared ms node ≡ true) → ((same && not correct) || is_faulty ms node) ≡ true → (same || is_declared ms node) ≡ true
  by_tests true correct rest e = refl
  by_tests false correct rest e = rest e

has_leaf : (height : ℕ) (members : List Member) (s : Schedule) (writer seq : ℕ) → s.height ≡ height → s.members ≡ members → IsFaultySigner s writer seq → HasLeaf height members writer seq
has_leaf height members s writer seq same_height same_members signer = record {
  declared = subst (λ (ms : List Member). is_declared ms writer ≡ true) same_members (faulty_is_declared s.members writer signer.faulty);
  leaf = subst (λ (h : ℕ). seq < 2 ^ h) same_height signer.leaf;
}

pub voucher_has_leaf : (height : ℕ) (members : List Member) (label : List ℕ) (writer seq : ℕ) (refs : List Ref) → MayHappen height members (event.Voucher label writer seq refs) → HasLeaf height members writer seq
voucher_has_leaf height members label writer seq refs may = has_leaf height members may.before writer seq may.height_is may.members_are (voucher_signer may.before label writer seq refs may.fits)

-- what some schedule says of an update that a faulty node signs there
pub record IsSignedThere (height : ℕ) (members : List Member) (writer seq clock : ℕ) (changes : List Change) (refs : List Ref) (history : HistoryWord) : Type 0 where
  pub leaf : HasLeaf height members writer seq
  pub may : MaySign writer seq clock changes refs history

pub update_there : (height : ℕ) (members : List Member) (label : List ℕ) (writer seq clock : ℕ) (prev : Option Ref) (key value : List ℕ) (refs : List Ref) (history : HistoryWord) → MayHappen height members (event.Update label writer seq clock prev key value refs history)
    → IsSignedThere height members writer seq clock (one_change key value) refs history
update_there height members label writer seq clock prev key value refs history may =
    let s = update_signed may.before label writer seq clock prev key value refs history may.fits in
    record { leaf = has_leaf height members may.before writer seq may.height_is may.members_are s.signer; may = s.may }

pub updates_there : (height : ℕ) (members : List Member) (label : List ℕ) (writer seq clock : ℕ) (prev : Option Ref) (changes : List Change) (refs : List Ref) (history : HistoryWord) → MayHappen height members (event.Updates label writer seq clock prev changes refs history)
    → IsSignedThere height members writer seq clock changes refs history
updates_there height members label writer seq clock prev changes refs history may =
    let s = updates_signed may.before label writer seq clock prev changes refs history may.fits in
    record { leaf = has_leaf height members may.before writer seq may.height_is may.members_are s.signer; may = s.may }

-- ---- vouchers

by_ids : Signs → ℕ → ℕ → Option (List (List ℕ)) → Text
by_ids sign node seq None = no_reference
by_ids sign node seq (Some ids) = voucher_text sign node seq ids

vouched_by : (sign : Signs) (run : Run) (node seq : ℕ) (refs : List Ref) → by_ids sign node seq (option_map rising (all_of (map (id_referred run) refs))) ≡ vouched_text sign run node seq refs
unfolding vouched_text by_ids
vouched_by sign run node seq refs = by_cases (all_of (map (id_referred run) refs)) where
  by_cases : (o : Option (List (List ℕ))) → by_ids sign node seq (option_map rising o) ≡ elim o as (λ x. Text) [ None ↦ no_reference | Some ids ↦ voucher_text sign node seq (rising ids) ]
  by_cases None = refl
  by_cases (Some ids) = refl

-- all references name something
pub vouched_is : (sign : Signs) (run : Run) (node seq : ℕ) (refs : List Ref) (ids : List (List ℕ)) → Some ids ≡ option_map rising (all_of (map (id_referred run) refs)) → voucher_text sign node seq ids ≡ vouched_text sign run node seq refs
unfolding by_ids
vouched_is sign run node seq refs ids is = ap (by_ids sign node seq) is ∙ vouched_by sign run node seq refs

-- one names nothing
pub unvouched_is : (sign : Signs) (run : Run) (node seq : ℕ) (refs : List Ref) → None ≡ option_map rising (all_of (map (id_referred run) refs)) → no_reference ≡ vouched_text sign run node seq refs
unfolding by_ids
unvouched_is sign run node seq refs is = ap (by_ids sign node seq) is ∙ vouched_by sign run node seq refs

-- ---- proofs

halves : Kind → Option Signed → Option Signed → Text
halves kind None other = no_reference
halves kind (Some s) None = no_reference
halves kind (Some s) (Some t) = proof_with kind (proof_of_halves kind s t)

proof_by_halves : (run : Run) (kind : Kind) (a b : List ℕ) → halves kind (signed_of run a) (signed_of run b) ≡ proof_text run kind a b
unfolding proof_text all_of halves
proof_by_halves run kind a b = by_cases (signed_of run a) (signed_of run b) where
  by_cases : (x y : Option Signed) → halves kind x y ≡ elim (all_of (x ∷ y ∷ [])) as (λ z. Text) [ Some (s ∷ t ∷ []) ↦ proof_with kind (proof_of_halves kind s t) | others ↦ no_reference ]
  by_cases None y = refl
  by_cases (Some s) None = refl
  by_cases (Some s) (Some t) = refl

pub proof_is : (run : Run) (kind : Kind) (a b : List ℕ) (s t : Signed) → Some s ≡ signed_of run a → Some t ≡ signed_of run b → proof_with kind (proof_of_halves kind s t) ≡ proof_text run kind a b
unfolding halves
proof_is run kind a b s t one two = ap (λ (x : Option Signed). halves kind x (Some t)) one ∙ ap (halves kind (signed_of run a)) two ∙ proof_by_halves run kind a b

pub no_first : (run : Run) (kind : Kind) (a b : List ℕ) → None ≡ signed_of run a → no_reference ≡ proof_text run kind a b
unfolding halves
no_first run kind a b none = ap (λ (x : Option Signed). halves kind x (signed_of run b)) none ∙ proof_by_halves run kind a b

pub no_second : (run : Run) (kind : Kind) (a b : List ℕ) (s : Signed) → Some s ≡ signed_of run a → None ≡ signed_of run b → no_reference ≡ proof_text run kind a b
unfolding halves
no_second run kind a b s one none = ap (λ (x : Option Signed). halves kind x None) one ∙ ap (halves kind (signed_of run a)) none ∙ proof_by_halves run kind a b

-- ---- hollow proofs

hollow_by : List ℕ → Option Signed → Text
hollow_by text None = no_reference
hollow_by text (Some s) = if nat_le (length text) 65536 then proof_with NotUpdate (Hollow s text) else no_reference

hollow_is_by : (run : Run) (voucher plain : List ℕ) → hollow_by (bytes_of_label run plain) (signed_of run voucher) ≡ hollow_text run voucher plain
unfolding hollow_text hollow_by
hollow_is_by run voucher plain = by_cases (signed_of run voucher) where
  by_cases : (o : Option Signed) → hollow_by (bytes_of_label run plain) o
      ≡ elim o as (λ x. Text) [ None ↦ no_reference | Some s ↦ if nat_le (length (bytes_of_label run plain)) 65536 then proof_with NotUpdate (Hollow s (bytes_of_label run plain)) else no_reference ]
  by_cases None = refl
  by_cases (Some s) = refl

-- the label of the voucher names none
pub no_voucher : (run : Run) (voucher plain : List ℕ) → None ≡ signed_of run voucher → no_reference ≡ hollow_text run voucher plain
unfolding hollow_by
no_voucher run voucher plain none = ap (hollow_by (bytes_of_label run plain)) none ∙ hollow_is_by run voucher plain

-- there are too many bytes
pub long_text : (run : Run) (voucher plain text : List ℕ) (s : Signed) → Some s ≡ signed_of run voucher → text ≡ bytes_of_label run plain → 65536 < length text → no_reference ≡ hollow_text run voucher plain
unfolding hollow_by
long_text run voucher plain text s is same long =
    let late : nat_le (length text) 65536 ≡ false = grind (arith, nat_tests, long) in
    ap (λ (b : Bool). if b then proof_with NotUpdate (Hollow s text) else no_reference) (sym late) ∙ ap (λ (t : List ℕ). hollow_by t (Some s)) same ∙ ap (hollow_by (bytes_of_label run plain)) is ∙ hollow_is_by run voucher plain

pub hollow_is : (run : Run) (voucher plain text : List ℕ) (s : Signed) → Some s ≡ signed_of run voucher → text ≡ bytes_of_label run plain → length text ≤ 65536 → proof_with NotUpdate (Hollow s text) ≡ hollow_text run voucher plain
unfolding hollow_by
hollow_is run voucher plain text s is same short =
    let early : nat_le (length text) 65536 ≡ true = grind (arith, nat_tests, short) in
    ap (λ (b : Bool). if b then proof_with NotUpdate (Hollow s text) else no_reference) (sym early) ∙ ap (λ (t : List ℕ). hollow_by t (Some s)) same ∙ ap (hollow_by (bytes_of_label run plain)) is ∙ hollow_is_by run voucher plain

-- ---- signed statements of labels

-- a signed statement was made under a label
record IsMade (ms : List Labelled) (s : Signed) : Type 0 where
  made : Labelled
  on : IsIn made ms
  is : made.signed ≡ Some s

is_made : (ms : List Labelled) (label : List ℕ) (s : Signed) → option_and_then (λ (m : Labelled). m.signed) (made_in ms label) ≡ Some s → IsMade ms s
unfolding made_in
is_made [] label s e = absurd cc
is_made (m ∷ ms) label s e = by_test (bytes_eq m.label label) (is_made ms label s) e where
  by_test : (b : Bool) → (option_and_then (λ (x : Labelled). x.signed) (made_in ms label) ≡ Some s → IsMade ms s) → option_and_then (λ (x : Labelled). x.signed) (cond b (Some m) (made_in ms label)) ≡ Some s → IsMade (m ∷ ms) s
  by_test true rest is = record { made = m; on = inl refl; is = is }
  by_test false rest is = let r = rest is in record { made = r.made; on = inr r.on; is = r.is }

-- the signed statement of a label has a text
pub signed_fits : (run : Run) (label : List ℕ) (s : Signed) → IsRemembered run → Some s ≡ signed_of run label → IsSigned s
signed_fits run label s r is = let m = is_made run.labels label s (sym is) in r.signed_are m.made s m.on m.is

-- ---- what a simulation keeps of them

-- what is signed has a text, and its update was seen
pub kept_by : (seen : List Update) (made : Option Signed) → IfSome made IsSigned → IfSome made (λ s. WereSeen seen (update_in s.statement)) → IsKept seen made
kept_by seen None fits were = none_is_kept seen
kept_by seen (Some s) fits were = record {
  fits = λ x is. let same : s ≡ x = cc in subst (λ (y : Signed). IsSigned y) same fits;
  were = λ x is. let same : s ≡ x = cc in subst (λ (y : Signed). WereSeen seen (update_in y.statement)) same were;
}

-- where there is none
pub no_update_seen : (seen : List Update) (made : Option Signed) → IfSome made (λ s. update_in s.statement ≡ []) → IfSome made (λ s. WereSeen seen (update_in s.statement))
no_update_seen seen None none = tt
no_update_seen seen (Some s) none = subst (λ (us : List Update). WereSeen seen us) (sym none) tt

-- where it is this one
pub update_seen : (seen : List Update) (u : Update) (made : Option Signed) → WereSeen seen (u ∷ []) → IfSome made (λ s. s.statement ≡ statement.Update u) → IfSome made (λ s. WereSeen seen (update_in s.statement))
update_seen seen u None were is = tt
update_seen seen u (Some s) were is = subst (λ (st : Statement). WereSeen seen (update_in st)) (sym is) were

-- a label was given a text
pub text_given : (A : Type 0) {R : Type 0} (view : A → ActorView) (reads : Reader → R → Type 0) (setup : Setup) (run : Run) (label : List ℕ) (t : Text) (old new : Simulation A R) (made : made_text.Text) (lines : List ℕ) → IsSimulationAt view reads setup run old → IsText made t → IsKept run.seen made.signed
    → lines ≡ spaced made.answer ++ 10 ∷ [] → new.participants ≡ old.participants → new.seen ≡ old.seen → new.readers ≡ old.readers
    → ((labels : List Labelled) → AreLabels old.labels.map.entries labels → AreLabels new.labels.map.entries (labels ++ record { label = label; bytes = made.bytes; signed = made.signed; plain = made.plain } ∷ []))
    → HasDone A view reads setup (done_by_text run label t) lines new
text_given A {R = R} view reads setup run label t old new made lines at is kept told participants seen readers labels = record {
  lines_are = told ∙ ap (λ (answer : List ℕ). spaced answer ++ 10 ∷ []) is.answer_is ∙ sym (append-nil (spaced t.answer ++ 10 ∷ []));
  at = record {
    hosted = subst (λ (v : Vec (Participant A) Global). AreHosted setup run.hosts (map (participant_by view) v.items)) (sym participants) at.hosted;
    labels_are = subst (λ (m : Labelled). AreLabels new.labels.map.entries (run.labels ++ m ∷ []))
        (ap (λ (b : List ℕ). record { label = label; bytes = b; signed = made.signed; plain = made.plain }) is.bytes_are
        ∙ ap (λ (o : Option Signed). record { label = label; bytes = t.bytes; signed = o; plain = made.plain }) is.signed_is
        ∙ ap (λ (p : Bool). record { label = label; bytes = t.bytes; signed = t.signed; plain = p }) is.plain_is)
        (labels run.labels at.labels_are);
    seen_are = ap (λ (x : KnownUpdates). x.listed.updates) seen ∙ at.seen_are;
    readers_are = subst (λ (rs : Readers R). AreReaders reads rs.map.entries run.readers) (sym readers) at.readers_are;
    remembered = label_remembers run (record { label = label; bytes = t.bytes; signed = t.signed; plain = t.plain }) at.remembered (subst (λ (o : Option Signed). IsKept run.seen o) is.signed_is kept);
  };
}

-- an event that only makes a label
pub made_is : (setup : Setup) (run : Run) (e : Event) → is_text e ≡ true → done_by_text run (event_label e) (text_by setup run e) ≡ done setup run e
unfolding done
made_is setup run (event.Voucher label writer seq refs) is = refl
made_is setup run (event.Proof label kind first second) is = refl
made_is setup run (event.Hollow label voucher plain) is = refl
made_is setup run (event.Raw label bytes) is = refl
made_is setup run (event.Cut label source start count) is = refl
made_is setup run (event.Flip label source place) is = refl
made_is setup run (event.Join label first second) is = refl
made_is setup run (event.Put node key value) is = absurd cc
made_is setup run (event.Puts node changes) is = absurd cc
made_is setup run (event.Get node key) is = absurd cc
made_is setup run (event.Hello node label) is = absurd cc
made_is setup run (event.Bundle node hello label) is = absurd cc
made_is setup run (event.Give node label size) is = absurd cc
made_is setup run (event.Restart node) is = absurd cc
made_is setup run (event.Update label writer seq clock prev key value deps history) is = absurd cc
made_is setup run (event.Updates label writer seq clock prev changes deps history) is = absurd cc
made_is setup run (event.Judge label) is = absurd cc
made_is setup run (event.Stop node call image) is = absurd cc
made_is setup run (event.Receipt node refs) is = absurd cc
made_is setup run (event.Settled node reference k) is = absurd cc
made_is setup run event.Audit is = absurd cc
made_is setup run (event.Checkpoint node label) is = absurd cc
made_is setup run (event.Sign node label) is = absurd cc
made_is setup run (event.Trim node label name) is = absurd cc
made_is setup run (event.Tgive name label) is = absurd cc
made_is setup run (event.Tget name key) is = absurd cc
