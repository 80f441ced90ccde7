-- What faulty nodes sign, what is made of signed statements, and the judge.
use Rattle.std.specs.Prelude.{ℕ, ◌+◌, ◌-◌, ◌%◌, zero, suc, List, [], ◌∷◌, ◌++◌, length, map, filter, drop, Bool, true, false, not, ◌==◌, nat_le, Option, Some, None, option_map, option_and_then, Result, Ok, Err, codes, if◌then◌else◌}
use Rattle.std.specs.List.{list_any, flat_map}
use Rattle.std.specs.Fmt.{decimal}
use Rattle.std.specs.Str.{bytes_eq}
use Rattle.depot_base.specs.declared.limits.TheConstants.{MOST_VALUE}
use Rattle.depot_base.specs.Format.{whole}
use Rattle.depot_base.specs.Parts.{is_below}
use Rattle.depot_base.specs.Zeros.{zeros}
use Rattle.depot_base.specs.declared.proof.Kind.{Kind}
use Rattle.depot_base.specs.declared.proof.Kind.TheVariants.{NotUpdate}
use Rattle.depot_base.specs.declared.proof.Proof.{Proof}
use Rattle.depot_base.specs.declared.proof.Proof.TheVariants.{Pair, Hollow}
use Rattle.depot_base.specs.declared.statement.Signed.{Signed}
use Rattle.depot_base.specs.declared.statement.Statement.TheVariants as statement
use Rattle.depot_base.specs.declared.update.Update.{Update}
use Rattle.depot_base.specs.declared.write.Change.{Change}
use Rattle.depot_base.specs.declared.write.Write.{Write}
use Rattle.depot_model.specs.declared.judgement.JudgeError.{JudgeError}
use Rattle.depot_model.specs.declared.judgement.JudgeError.TheVariants as point
use Rattle.depot_model.specs.exchange.Bundle.{Signs, signed_with, statement_frame, value_frame, proof_frame}
use Rattle.depot_model.specs.texts.Frames.{text_of_frame}
use Rattle.depot_model.specs.updates.History.{by_id, history_hash}
use Rattle.depot_model.specs.updates.Judgement.{first_failed_point}
use Rattle.depot_model.specs.texts.Lines.{name_of_kind}
use Rattle.depot_model.specs.texts.Log.{firsts}
use Rattle.depot_model.specs.updates.Order.{past}
use Rattle.depot_model.specs.checks.Own.{entry_of, write_of}
use Rattle.depot_model.specs.texts.Texts.{proof, id_of_update}
use Rattle.depot_model.specs.checks.Vouching.{rising}
use Rattle.depot_schedule.specs.declared.event.HistoryWord.{HistoryWord}
use Rattle.depot_schedule.specs.declared.event.HistoryWord.TheVariants as history
use Rattle.depot_schedule.specs.declared.event.Ref.{Ref}
use Rattle.depot_answers.specs.AnswerTexts.{spaced, text_of_number}
use Rattle.depot_world.specs.Run.{Run, bytes_of_label, referred, id_referred, signed_of}
use Rattle.depot_world.specs.Setups.{Setup}

-- What an event without a node gives its label: bytes, the signed statement if it signs one, whether they are plain
-- bytes, and what is printed.
pub record Text : Type 0 where
  pub bytes : List ℕ
  pub signed : Option Signed
  pub plain : Bool
  pub answer : List ℕ

-- a reference names nothing: the label holds no bytes
abbrev pub no_reference : Text
no_reference = record { bytes = []; signed = None; plain = false; answer = codes "NoRef" }

-- plain bytes, and how many
abbrev pub counted_bytes : List ℕ → Text
counted_bytes bytes = record { bytes = bytes; signed = None; plain = true; answer = decimal (length bytes) ++ codes " bytes" }

-- ---- references

-- all of them, if each is there
unfoldable pub all_of : {X : Type 0} → List (Option X) → Option (List X)
all_of [] = Some []
all_of (None ∷ xs) = None
all_of (Some x ∷ xs) = option_map (λ ys. x ∷ ys) (all_of xs)

-- the updates that references name, if each names one
abbrev pub all_referred : Run → List Ref → Option (List Update)
all_referred run refs = all_of (map (referred run) refs)

-- the id that a prev names: zeros if there is none, and nothing if its reference names no update
abbrev pub prev_of_ref : Run → Option Ref → Option (List ℕ)
prev_of_ref run None = Some zeros
prev_of_ref run (Some r) = option_map id_of_update (referred run r)

-- the updates that are named as entries, if each is there and by another writer: in rising order of writer and id, each
-- once
abbrev pub entries_of : Run → ℕ → List Ref → Option (List Update)
entries_of run writer refs = option_and_then (λ us. if list_any (λ u. u.writer == writer) us then None else Some (by_id (firsts us))) (all_referred run refs)

-- ---- updates and vouchers

-- an update with this history hash
abbrev pub with_history : Update → List ℕ → Update
with_history u h = record u { history = h }

-- the given history hash, or that of the update's past among those that were seen
abbrev pub history_by : List Update → HistoryWord → Update → List ℕ
history_by seen history.Right u = history_hash (past u seen)
history_by seen (history.Given h) u = h

-- an update but for its history hash
abbrev pub drafted : ℕ → ℕ → ℕ → List ℕ → List Write → List Update → Update
drafted writer seq clock prev writes entries = record {
  writer = writer;
  seq = seq;
  clock = clock;
  prev = prev;
  writes = writes;
  deps = map entry_of entries;
  history = [];
}

-- each different value once, where it occurs first
unfoldable pub each_once : List (List ℕ) → List (List ℕ)
each_once [] = []
each_once (v ∷ vs) = v ∷ filter (λ w. not (bytes_eq w v)) (each_once vs)

-- the frames of values, one after another, each different value once
abbrev pub text_of_values : List (List ℕ) → List ℕ
text_of_values values = flat_map (λ v. text_of_frame (value_frame v)) (each_once values)

-- an update as its writer signs it: the frame of the statement, and those of the values of its writes, in their order
abbrev pub update_text : Signs → Update → List (List ℕ) → Text
update_text sign u values = record {
  bytes = text_of_frame (statement_frame (signed_with sign (statement.Update u))) ++ text_of_values values;
  signed = Some (signed_with sign (statement.Update u));
  plain = false;
  answer = decimal u.writer ++ codes "/" ++ decimal u.seq ++ codes "/" ++ decimal u.clock;
}

-- an update that a faulty node signs, if its references name updates: it writes what these changes say
unfoldable pub updated : Signs → Run → ℕ → ℕ → ℕ → Option Ref → List Change → List Ref → HistoryWord → Option Update
updated sign run writer seq clock prev changes deps history =
    option_and_then (λ p. option_map (λ us. let u = drafted writer seq clock p (map write_of changes) us in with_history u (history_by run.seen history u)) (entries_of run writer deps)) (prev_of_ref run prev)

-- a voucher that a faulty node signs: the ids in rising order, each once
abbrev pub voucher_text : Signs → ℕ → ℕ → List (List ℕ) → Text
voucher_text sign node seq ids =
    let s = signed_with sign (statement.Voucher (record { node = node; seq = seq; ids = ids })) in
    record { bytes = text_of_frame (statement_frame s); signed = Some s; plain = false; answer = decimal node ++ codes "/" ++ decimal seq ++ spaced (text_of_number (codes "ids") (length ids)) }

-- a voucher for what references name, if each names an update or plain bytes
unfoldable pub vouched_text : Signs → Run → ℕ → ℕ → List Ref → Text
vouched_text sign run node seq refs = elim (all_of (map (id_referred run) refs)) [
  | None ↦ no_reference
  | Some ids ↦ voucher_text sign node seq (rising ids)
]

-- ---- proofs

-- two signed statements as the halves of a proof: the smaller body first
abbrev pub proof_of_halves : Kind → Signed → Signed → Proof
proof_of_halves kind a b = if is_below b.body a.body then Pair kind b a else Pair kind a b

-- the frame of a proof of this kind
abbrev pub proof_with : Kind → Proof → Text
proof_with kind p = record { bytes = text_of_frame (proof_frame p); signed = None; plain = false; answer = name_of_kind kind }

unfoldable pub proof_text : Run → Kind → List ℕ → List ℕ → Text
proof_text run kind a b = elim (all_of (signed_of run a ∷ signed_of run b ∷ [])) [
  | Some (s ∷ t ∷ []) ↦ proof_with kind (proof_of_halves kind s t)
  | others ↦ no_reference
]

-- a voucher and the bytes of a plain label as a proof that the voucher is hollow, if they aren't too many; the judge
-- decides whether it is
unfoldable pub hollow_text : Run → List ℕ → List ℕ → Text
hollow_text run voucher plain = elim (signed_of run voucher) [
  | None ↦ no_reference
  | Some s ↦ if nat_le (length (bytes_of_label run plain)) MOST_VALUE then proof_with NotUpdate (Hollow s (bytes_of_label run plain)) else no_reference
]

-- the proof whose frame these bytes are, after a tag and a length that are skipped, or where it goes wrong
abbrev pub proof_in : List ℕ → Result Proof ℕ
proof_in bytes = whole proof (record { at = 0; rest = drop 5 bytes })

-- the first point in which what is in these bytes fails as a proof
abbrev pub point_by : Setup → Result Proof ℕ → Option JudgeError
point_by setup (Err at) = Some (point.IllFormed at)
point_by setup (Ok p) = first_failed_point setup.suite.verifies setup.listed p

-- ---- parts of bytes

-- the lowest bit of a byte changed
abbrev pub flipped : ℕ → ℕ
flipped b = if b % 2 == 0 then b + 1 else b - 1

-- the same of the byte at a place, if there is one
unfoldable pub flip_at : ℕ → List ℕ → List ℕ
flip_at n [] = []
flip_at zero (b ∷ bytes) = flipped b ∷ bytes
flip_at (suc n) (b ∷ bytes) = b ∷ flip_at n bytes
