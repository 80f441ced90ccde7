-- What events make under labels is made of bytes.
use Rattle.std.proofs.Common.{◌≡◌, ℕ, not, zero, suc, ◌+◌, ◌-◌, ◌<◌, ◌%◌, Bool, true, false, eqb, cond, List, [], ◌∷◌, length, map, Option, Some, None, option_map, option_and_then, refl, sym, subst, inl, inr, arith}
use Rattle.std.specs.List.{AllByRecursion}
use Rattle.std.specs.Option.{option_map_or}
use Rattle.std.specs.Prelude.{nat_le}
use Rattle.sha2.specs.Sha256.{sha256}
use Rattle.std.specs.Str.{bytes_eq}
use Rattle.std.proofs.lemmas.Bool.Decides.{nat_tests}
use Rattle.depot_base.specs.Parts.{is_below}
use Rattle.depot_base.specs.declared.proof.Kind.{Kind}
use Rattle.depot_base.specs.declared.proof.Kind.TheVariants.{NotUpdate}
use Rattle.depot_base.specs.declared.proof.Proof.{Proof}
use Rattle.depot_base.specs.declared.proof.Proof.TheVariants.{Pair, Hollow}
use Rattle.depot_base.specs.declared.write.Change.{Change}
use Rattle.depot_base.specs.declared.write.Write.{Write}
use Rattle.depot_base.specs.declared.statement.Signed.{Signed}
use Rattle.depot_base.specs.declared.statement.Statement.TheVariants as statement
use Rattle.depot_base.specs.declared.update.Update.{Update}
use Rattle.depot_model.specs.exchange.Bundle.{Signs, signed_with, statement_frame, value_frame, proof_frame}
use Rattle.depot_model.specs.texts.Frames.{text_of_frame}
use Rattle.depot_model.specs.lists.Lists.{IsIn}
use Rattle.depot_model.specs.updates.Order.{past}
use Rattle.depot_model.specs.checks.Own.{write_of}
use Rattle.depot_model.specs.texts.Texts.{id_of_update, text_of_update, text_of_signed, text_of_proof}
use Rattle.depot_model.specs.checks.Vouching.{rising}
use Rattle.depot_model.proofs.lists.Members.{all_at, from_filter}
use Rattle.depot_laws.proofs.lists.Groups.{from_rising}
use Rattle.depot_schedule.specs.declared.event.HistoryWord.{HistoryWord}
use Rattle.depot_schedule.specs.declared.event.HistoryWord.TheVariants as history_word
use Rattle.depot_schedule.specs.declared.event.Ref.{Ref}
use Rattle.depot_schedule.specs.EventWords.{first_or}
use Rattle.depot_world.specs.Run.{Labelled, Run, made_in, bytes_of_label, signed_of, referred, plain_referred, id_referred}
use Rattle.depot_world.specs.FaultySigning.{Text, no_reference, counted_bytes, all_of, prev_of_ref, entries_of, history_by, with_history, drafted, each_once, text_of_values, update_text, updated, voucher_text, vouched_text, proof_of_halves, proof_with, proof_text, hollow_text, flipped, flip_at}
use Rattle.depot_world.proofs.of_bytes.OnlyBytes.{OnlyBytes, only_both, only_flat, only_sha256, only_zeros}
use Rattle.depot_world.proofs.of_bytes.ByteTexts.{only_id, only_update, update_statement, only_voucher, only_pair, only_hollow, only_frame, IsByteWrite}
use Rattle.depot_world.proofs.of_bytes.ByteOwn.{IsByteChange, only_change_writes, only_entries, only_history}
use Rattle.depot_world.proofs.of_bytes.ByteSignatures.{SignsBytes, only_signed_with}
use Rattle.depot_world.proofs.EventFacts.{IsByteHistory}

-- a signed statement, if there is one, is made of bytes
abbrev pub IsByteSigned : Option Signed → Type 0
IsByteSigned None = Unit {0}
IsByteSigned (Some s) = OnlyBytes (text_of_signed s)

-- what a label holds is made of bytes
pub record HoldsOnly (m : Labelled) : Type 0 where
  pub bytes : OnlyBytes m.bytes
  pub signed : IsByteSigned m.signed

-- what each label of a run holds
abbrev pub LabelsHold : Run → Type 0
LabelsHold run = (m : Labelled) → IsIn m run.labels → HoldsOnly m

-- a text that an event makes is made of bytes
pub record IsByteText (t : Text) : Type 0 where
  pub bytes : OnlyBytes t.bytes
  pub signed : IsByteSigned t.signed

-- ---- what labels hold

label_bytes : (ms : List Labelled) (label : List ℕ) → ((m : Labelled) → IsIn m ms → HoldsOnly m) → OnlyBytes (option_map_or (λ (m : Labelled). m.bytes) (made_in ms label) [])
unfolding made_in
label_bytes [] label hold = tt
label_bytes (m ∷ ms) label hold = choice (bytes_eq m.label label) (label_bytes ms label (λ x on. hold x (inr on))) where
  choice : (b : Bool) → OnlyBytes (option_map_or (λ (x : Labelled). x.bytes) (made_in ms label) []) → OnlyBytes (option_map_or (λ (x : Labelled). x.bytes) (cond b (Some m) (made_in ms label)) [])
  choice true rest = (hold m (inl refl)).bytes
  choice false rest = rest

-- the bytes of a label
pub bytes_hold : (run : Run) (label : List ℕ) → LabelsHold run → OnlyBytes (bytes_of_label run label)
bytes_hold run label hold = label_bytes run.labels label hold

label_signed : (ms : List Labelled) (label : List ℕ) → ((m : Labelled) → IsIn m ms → HoldsOnly m) → IsByteSigned (option_and_then (λ (m : Labelled). m.signed) (made_in ms label))
unfolding made_in
label_signed [] label hold = tt
label_signed (m ∷ ms) label hold = choice (bytes_eq m.label label) (label_signed ms label (λ x on. hold x (inr on))) where
  choice : (b : Bool) → IsByteSigned (option_and_then (λ (x : Labelled). x.signed) (made_in ms label)) → IsByteSigned (option_and_then (λ (x : Labelled). x.signed) (cond b (Some m) (made_in ms label)))
  choice true rest = (hold m (inl refl)).signed
  choice false rest = rest

-- ---- updates

-- an update that may not be there is made of bytes
abbrev pub IsByteUpdate : Option Update → Type 0
IsByteUpdate None = Unit {0}
IsByteUpdate (Some u) = OnlyBytes (text_of_update u)

abbrev IsByteId : Option (List ℕ) → Type 0
IsByteId None = Unit {0}
IsByteId (Some h) = OnlyBytes h

prev_holds : (run : Run) (prev : Option Ref) → IsByteId (prev_of_ref run prev)
prev_holds run None = only_zeros 32
prev_holds run (Some r) = of_named (referred run r) where
  of_named : (o : Option Update) → IsByteId (option_map id_of_update o)
  of_named None = tt
  of_named (Some u) = only_id u

history_holds : (seen : List Update) (h : HistoryWord) (u : Update) → IsByteHistory h → OnlyBytes (history_by seen h u)
history_holds seen history_word.Right u only = only_history (past u seen)
history_holds seen (history_word.Given h) u only = only

drafted_holds : (seen : List Update) (writer seq clock : ℕ) (p : List ℕ) (ws : List Write) (us : List Update) (h : HistoryWord) → OnlyBytes p → AllByRecursion IsByteWrite ws → IsByteHistory h
    → OnlyBytes (text_of_update (with_history (drafted writer seq clock p ws us) (history_by seen h (drafted writer seq clock p ws us))))
drafted_holds seen writer seq clock p ws us h p_holds written given =
    let u = drafted writer seq clock p ws us in
    only_update (with_history u (history_by seen h u)) (record { prev = p_holds; writes = written; ids = only_entries us; history = history_holds seen h u given })

-- an update that a faulty node signs
pub updated_holds : (sign : Signs) (run : Run) (writer seq clock : ℕ) (prev : Option Ref) (changes : List Change) (deps : List Ref) (h : HistoryWord) → AllByRecursion IsByteChange changes → IsByteHistory h → IsByteUpdate (updated sign run writer seq clock prev changes deps h)
unfolding updated
updated_holds sign run writer seq clock prev changes deps h brought given = by_parts (prev_of_ref run prev) (prev_holds run prev) (entries_of run writer deps) where
  by_parts : (o : Option (List ℕ)) → IsByteId o → (es : Option (List Update))
      → IsByteUpdate (option_and_then (λ p. option_map (λ us. with_history (drafted writer seq clock p (map write_of changes) us) (history_by run.seen h (drafted writer seq clock p (map write_of changes) us))) es) o)
  by_parts None only es = tt
  by_parts (Some p) only None = tt
  by_parts (Some p) only (Some us) = drafted_holds run.seen writer seq clock p (map write_of changes) us h only (only_change_writes changes brought) given

-- ---- texts

pub none_holds : IsByteText no_reference
none_holds = record { bytes = tt; signed = tt }

pub counted_holds : (bytes : List ℕ) → OnlyBytes bytes → IsByteText (counted_bytes bytes)
counted_holds bytes only = record { bytes = only; signed = tt }

-- what occurs once among values is one of them
once_holds : (vs : List (List ℕ)) → AllByRecursion OnlyBytes vs → (w : List ℕ) → IsIn w (each_once vs) → OnlyBytes w
unfolding each_once
once_holds [] only w never = absurd never
once_holds (v ∷ vs) only w (inl same) = subst OnlyBytes same only.0
once_holds (v ∷ vs) only w (inr on) = once_holds vs only.1 w (from_filter (λ (x : List ℕ). not (bytes_eq x v)) w (each_once vs) on).0

pub update_text_holds : (sign : Signs) (u : Update) (values : List (List ℕ)) → SignsBytes sign → OnlyBytes (text_of_update u) → AllByRecursion OnlyBytes values → IsByteText (update_text sign u values)
update_text_holds sign u values signs only values_only =
    let s = signed_with sign (statement.Update u) in
    let s_only = only_signed_with sign (statement.Update u) signs (subst OnlyBytes (sym (update_statement u)) only) in
    record {
      bytes = only_both (text_of_frame (statement_frame s)) (text_of_values values) (only_frame (statement_frame s) (omega arith) s_only)
          (only_flat (λ (v : List ℕ). text_of_frame (value_frame v)) (each_once values) (λ v on. only_frame (value_frame v) (omega arith) (once_holds values values_only v on)));
      signed = s_only;
    }

-- the id that a reference names is a digest
id_holds : (run : Run) (r : Ref) → IsByteId (id_referred run r)
unfolding id_referred
id_holds run r = by_parts (plain_referred run r) (referred run r) where
  by_parts : (o : Option (List ℕ)) (p : Option Update) → IsByteId (first_or (option_map sha256 o) (option_map id_of_update p))
  by_parts (Some bytes) p = only_sha256 bytes
  by_parts None None = tt
  by_parts None (Some u) = only_id u

-- so are all of them
abbrev AreByteIds : Option (List (List ℕ)) → Type 0
AreByteIds None = Unit {0}
AreByteIds (Some hs) = AllByRecursion OnlyBytes hs

ids_hold : (run : Run) (refs : List Ref) → AreByteIds (all_of (map (id_referred run) refs))
unfolding all_of
ids_hold run [] = tt
ids_hold run (r ∷ refs) = by_first (id_referred run r) (id_holds run r) (ids_hold run refs) where
  more : (h : List ℕ) (o : Option (List (List ℕ))) → OnlyBytes h → AreByteIds o → AreByteIds (option_map (λ hs. h ∷ hs) o)
  more h None first rest = tt
  more h (Some hs) first rest = (first, rest)

  by_first : (o : Option (List ℕ)) → IsByteId o → AreByteIds (all_of (map (id_referred run) refs)) → AreByteIds (all_of (o ∷ map (id_referred run) refs))
  by_first None first rest = tt
  by_first (Some h) first rest = more h (all_of (map (id_referred run) refs)) first rest

voucher_text_holds : (sign : Signs) (node seq : ℕ) (ids : List (List ℕ)) → SignsBytes sign → ((h : List ℕ) → IsIn h ids → OnlyBytes h) → IsByteText (voucher_text sign node seq ids)
voucher_text_holds sign node seq ids signs each =
    let v = statement.Voucher (record { node = node; seq = seq; ids = ids }) in
    let s_only = only_signed_with sign v signs (only_voucher (record { node = node; seq = seq; ids = ids }) each) in
    record { bytes = only_frame (statement_frame (signed_with sign v)) (omega arith) s_only; signed = s_only }

pub vouched_text_holds : (sign : Signs) (run : Run) (node seq : ℕ) (refs : List Ref) → SignsBytes sign → IsByteText (vouched_text sign run node seq refs)
unfolding vouched_text
vouched_text_holds sign run node seq refs signs = by_refs (all_of (map (id_referred run) refs)) (ids_hold run refs) where
  by_refs : (o : Option (List (List ℕ))) → AreByteIds o → IsByteText (elim o as (λ x. Text) [ None ↦ no_reference | Some ids ↦ voucher_text sign node seq (rising ids) ])
  by_refs None hold = none_holds
  by_refs (Some ids) hold = voucher_text_holds sign node seq (rising ids) signs (λ h on. all_at OnlyBytes ids h hold (from_rising h ids on))

-- ---- proofs

proof_by_holds : (kind : Kind) (a b : Signed) → OnlyBytes (text_of_signed a) → OnlyBytes (text_of_signed b) → OnlyBytes (text_of_proof (proof_of_halves kind a b))
proof_by_holds kind a b a_only b_only = by_order (is_below b.body a.body) where
  by_order : (x : Bool) → OnlyBytes (text_of_proof (cond x (Pair kind b a) (Pair kind a b)))
  by_order true = only_pair kind b a b_only a_only
  by_order false = only_pair kind a b a_only b_only

proof_with_holds : (kind : Kind) (p : Proof) → OnlyBytes (text_of_proof p) → IsByteText (proof_with kind p)
proof_with_holds kind p only = record { bytes = only_frame (proof_frame p) (omega arith) only; signed = tt }

pub proof_text_holds : (run : Run) (kind : Kind) (a b : List ℕ) → LabelsHold run → IsByteText (proof_text run kind a b)
unfolding proof_text all_of
proof_text_holds run kind a b hold = by_halves (signed_of run a) (signed_of run b) (label_signed run.labels a hold) (label_signed run.labels b hold) where
  by_halves : (x y : Option Signed) → IsByteSigned x → IsByteSigned y
      → IsByteText (elim (all_of (x ∷ y ∷ [])) as (λ z. Text) [ Some (s ∷ t ∷ []) ↦ proof_with kind (proof_of_halves kind s t) | others ↦ no_reference ])
  by_halves None y x_only y_only = none_holds
  by_halves (Some s) None x_only y_only = none_holds
  by_halves (Some s) (Some t) x_only y_only = proof_with_holds kind (proof_of_halves kind s t) (proof_by_holds kind s t x_only y_only)

pub hollow_text_holds : (run : Run) (voucher plain : List ℕ) → LabelsHold run → IsByteText (hollow_text run voucher plain)
unfolding hollow_text
hollow_text_holds run voucher plain hold = by_voucher (signed_of run voucher) (nat_le (length (bytes_of_label run plain)) 65536) (label_signed run.labels voucher hold) where
  by_voucher : (o : Option Signed) (short : Bool) → IsByteSigned o
      → IsByteText (elim o as (λ x. Text) [ None ↦ no_reference | Some s ↦ cond short (proof_with NotUpdate (Hollow s (bytes_of_label run plain))) no_reference ])
  by_voucher None short only = none_holds
  by_voucher (Some s) true only = proof_with_holds NotUpdate (Hollow s (bytes_of_label run plain)) (only_hollow s (bytes_of_label run plain) only (bytes_hold run plain hold))
  by_voucher (Some s) false only = none_holds

-- ---- a byte changed

flipped_is_byte : (b : ℕ) → b < 256 → flipped b < 256
flipped_is_byte b small = by_bit (eqb (b % 2) 0) refl where
  by_bit : (x : Bool) → eqb (b % 2) 0 ≡ x → cond x (b + 1) (b - 1) < 256
  by_bit true e = grind (arith, nat_tests, e, small)
  by_bit false e = omega (arith, small)

pub flip_holds : (n : ℕ) (bytes : List ℕ) → OnlyBytes bytes → OnlyBytes (flip_at n bytes)
unfolding flip_at
flip_holds n [] only = tt
flip_holds zero (b ∷ bytes) only = (flipped_is_byte b only.0, only.1)
flip_holds (suc n) (b ∷ bytes) only = (only.0, flip_holds n bytes only.1)
