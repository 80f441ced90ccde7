-- A bundle: what a node sends for a hello.
use Rattle.std.specs.Prelude.{ℕ, ◌+◌, ◌-◌, List, [], ◌∷◌, ◌++◌, length, map, filter, sum_by, Bool, not, ◌&&◌, ◌||◌, ◌==◌, nat_le, nat_lt, Option, Some, None, Result, Ok, Err, if◌then◌else◌}
use Rattle.std.specs.List.{flat_map, list_any}
use Rattle.std.specs.Str.{bytes_eq}
use Rattle.sha2.specs.Sha256.{sha256}
use Rattle.depot_base.specs.declared.limits.TheConstants.{MOST_BUNDLE, MOST_BUNDLE_FRAMES}
use Rattle.depot_base.specs.Format.{whole}
use Rattle.depot_base.specs.declared.update.Update.{Update}
use Rattle.depot_base.specs.declared.voucher.Voucher.{Voucher}
use Rattle.depot_base.specs.declared.statement.Statement.{Statement}
use Rattle.depot_base.specs.declared.statement.Statement.TheVariants as statement
use Rattle.depot_base.specs.declared.statement.Signed.{Signed}
use Rattle.depot_base.specs.declared.proof.Proof.{Proof}
use Rattle.depot_base.specs.declared.record.Record.{Record}
use Rattle.depot_base.specs.Statement.{seq_of}
use Rattle.depot_model.specs.declared.bundle.Counts.{Counts}
use Rattle.depot_model.specs.declared.hello.Hello.{Hello}
use Rattle.depot_model.specs.lists.Lists.{is_among}
use Rattle.depot_model.specs.texts.Texts.{id_of_update, text_of_statement, text_of_signed, text_of_proof, hash_of_roster}
use Rattle.depot_model.specs.updates.Order.{past}
use Rattle.depot_model.specs.texts.Roster.{has_node}
use Rattle.depot_model.specs.journals.Journal.{accepted, accepted_by, own_by, foreign_by, update_in, accused, proof_by, proofs, held, held_as, has_id, value_with}
use Rattle.depot_model.specs.checks.Checks.{Setting}
use Rattle.depot_model.specs.texts.Contents.{NamedValue, values_named}
use Rattle.depot_model.specs.checks.Limits.{Limit}
use Rattle.depot_model.specs.checks.Vouching.{own_voucher_by, own_vouchers, is_mine_vouched, new_vouchers, records_of, limit_of_vouchers}
use Rattle.depot_model.specs.exchange.Hello.{hello}
use Rattle.depot_model.specs.texts.Frames.{Frame, text_of_frame}

-- ---- signed statements

-- the signature that a signer gives for a seq and a body
abbrev pub Signs : Type 0
Signs = ℕ → List ℕ → List ℕ

-- an own statement with the signature that this signer gives for its seq and its body
unfoldable pub signed_with : Signs → Statement → Signed
signed_with sign s = record { statement = s; body = text_of_statement s; signature = sign (seq_of s) (text_of_statement s) }

-- the signed statement of a record: one of another as it came, an own one signed now
abbrev pub signed_by : Signs → Record → List Signed
signed_by sign r = map (signed_with sign) (own_by r) ++ foreign_by r

-- ---- candidates

-- an update is, or precedes, an accepted one with one of these ids
unfoldable pub is_covered : List Update → List (List ℕ) → Update → Bool
is_covered us ids u = list_any (λ l. is_among (id_of_update l) ids && (bytes_eq (id_of_update u) (id_of_update l) || has_id (past l us) (id_of_update u))) us

-- a candidate: an update that the reader seems to lack, another's and not covered by its leaves
abbrev pub is_candidate : List Update → List (List ℕ) → ℕ → Update → Bool
is_candidate us ids reader u = not (u.writer == reader) && not (is_covered us ids u)

-- the record is that of a candidate
abbrev pub has_candidate : List Record → List (List ℕ) → ℕ → Record → Bool
has_candidate J ids reader r = list_any (is_candidate (accepted J) ids reader) (accepted_by r)

-- the records of the candidates for a reader with these leaves, in journal order
unfoldable pub candidates : List Record → List (List ℕ) → ℕ → List Record
candidates J ids reader = filter (has_candidate J ids reader) J

-- the places, from n on, of the records that pass a test
unfoldable pub records_where : (Record → Bool) → ℕ → List Record → List ℕ
records_where test n [] = []
records_where test n (r ∷ rs) = if test r then n ∷ records_where test (n + 1) rs else records_where test (n + 1) rs

-- their places in the journal, from 0
abbrev pub candidate_places : List Record → List (List ℕ) → ℕ → List ℕ
candidate_places J ids reader = records_where (has_candidate J ids reader) 0 J

-- ---- what there is to send

-- A parcel, which is sent whole or not at all: a candidate's signed statement and the values after it, or one wanted
-- value.
pub record Parcel : Type 0 where
  pub told : List Signed
  pub values : List (List ℕ)

-- the values of these names that are held, and that have none of the hashes sent before, nor that of one before them
unfoldable pub values_behind : List Record → List (List ℕ) → List NamedValue → List (List ℕ)
values_behind J sent [] = []
values_behind J sent (n ∷ ns) = elim (if is_among n.hash sent then None else held_as J n) [
  | None ↦ values_behind J sent ns
  | Some v ↦ v ∷ values_behind J (n.hash ∷ sent) ns
]

-- a candidate: its statement, and then the held values that it names and that no parcel before it has
abbrev pub candidate_parcel : Signs → List Record → List (List ℕ) → Record → Parcel
candidate_parcel sign J sent r = record { told = signed_by sign r; values = values_behind J sent (flat_map values_named (accepted_by r)) }

-- the parcels of candidates; these hashes are those of the values before them
unfoldable pub candidate_parcels : Signs → List Record → List (List ℕ) → List Record → List Parcel
candidate_parcels sign J sent [] = []
candidate_parcels sign J sent (r ∷ rs) =
    let x = candidate_parcel sign J sent r in
    x ∷ candidate_parcels sign J (map sha256 x.values ++ sent) rs

-- a held value that is wanted, unless it was sent
abbrev pub wanted_parcel : List Record → List (List ℕ) → List ℕ → List Parcel
wanted_parcel J sent h = elim (if is_among h sent then None else value_with h (held J)) [
  | None ↦ []
  | Some v ↦ record { told = []; values = v ∷ [] } ∷ []
]

-- the hashes of the values of parcels
abbrev pub hashes_of : List Parcel → List (List ℕ)
hashes_of xs = flat_map (λ x. map sha256 x.values) xs

-- All that there is to send for a hello: the candidates in journal order, and then the wanted values that are held and that no
-- candidate's parcel has, in the hello's order.
unfoldable pub parcels : Signs → List Record → Hello → List Parcel
parcels sign J h =
    let front = candidate_parcels sign J [] (candidates J (map (λ l. l.id) h.leaves) h.node) in
    front ++ flat_map (wanted_parcel J (hashes_of front)) h.wanted

-- ---- what is sent of it

-- the frame of a signed statement
abbrev pub statement_frame : Signed → Frame
statement_frame s = record { tag = 2; payload = text_of_signed s }

-- the frame of an own voucher
abbrev pub voucher_frame : Signs → Voucher → Frame
voucher_frame sign v = statement_frame (signed_with sign (statement.Voucher v))

-- the frame of a value
abbrev pub value_frame : List ℕ → Frame
value_frame v = record { tag = 3; payload = v }

-- the frames of a parcel: its statement, and then its values
abbrev pub frames_of : Parcel → List Frame
frames_of x = map statement_frame x.told ++ map value_frame x.values

-- the bytes of frames
abbrev pub bytes_of_frames : List Frame → ℕ
bytes_of_frames fs = sum_by (λ f. length (text_of_frame f)) fs

-- the longest prefix of these parcels that takes at most this many bytes and this many frames
unfoldable pub fitting : ℕ → ℕ → List Parcel → List Parcel
fitting bytes frames [] = []
fitting bytes frames (x ∷ xs) =
    if nat_le (bytes_of_frames (frames_of x)) bytes && nat_le (length (frames_of x)) frames
    then x ∷ fitting (bytes - bytes_of_frames (frames_of x)) (frames - length (frames_of x)) xs
    else []

-- what a bundle sends of what there is
unfoldable pub sent_for : Signs → List Record → Hello → List Parcel
sent_for sign J h = fitting MOST_BUNDLE MOST_BUNDLE_FRAMES (parcels sign J h)

-- the ids of the sent updates that the node didn't write, in journal order
unfoldable pub sent_foreign : ℕ → List Parcel → List (List ℕ)
sent_foreign me xs = map id_of_update (filter (λ u. not (u.writer == me)) (flat_map (λ x. flat_map (λ s. update_in s.statement) x.told) xs))

-- ---- the bundle

-- a bundle: the vouchers that are appended for it, its frames and their counts, and whether there is more to send
pub record Bundle : Type 0 where
  pub vouchers : List Voucher
  pub frames : List Frame
  pub counts : Counts
  pub more : Bool

-- the stream: its frames one after another
abbrev pub bytes_of_bundle : Bundle → List ℕ
bytes_of_bundle b = flat_map text_of_frame b.frames

-- the ids for which a bundle makes vouchers: those of the sent updates of others that no own voucher names
unfoldable pub unvouched : ℕ → List Record → List Parcel → List (List ℕ)
unvouched me J xs = filter (λ h. not (is_mine_vouched J h)) (sent_foreign me xs)

-- the proofs against nodes that the hello doesn't list as convicted, in journal order
abbrev pub proofs_for : List Record → Hello → List Proof
proofs_for J h = filter (λ p. not (list_any (λ n. n == accused p) h.convicted)) (proofs J)

-- the own vouchers that name one of these ids, in journal order
abbrev pub vouchers_for : List Record → List (List ℕ) → List Voucher
vouchers_for J ids = filter (λ v. list_any (λ i. is_among i ids) v.ids) (own_vouchers J)

-- the record convicts a node that isn't one of these
abbrev pub convicts_other : List ℕ → Record → Bool
convicts_other listed r = list_any (λ p. not (list_any (λ n. n == accused p) listed)) (proof_by r)

-- the places, from 0, of the proofs against nodes that aren't these
abbrev pub proof_places : List Record → List ℕ → List ℕ
proof_places J listed = records_where (convicts_other listed) 0 J

-- the record is an own voucher that names one of these ids
abbrev pub vouches_for : List (List ℕ) → Record → Bool
vouches_for ids r = list_any (λ v. list_any (λ i. is_among i ids) v.ids) (own_voucher_by r)

-- the places, from 0, of the own vouchers that do
abbrev pub voucher_places : List Record → List (List ℕ) → List ℕ
voucher_places J ids = records_where (vouches_for ids) 0 J

-- the frame of a proof
abbrev pub proof_frame : Proof → Frame
proof_frame p = record { tag = 1; payload = text_of_proof p }

-- the End frame: whether there is more
abbrev pub end_frame : Bool → Frame
end_frame more = record { tag = 4; payload = (if more then 1 else 0) ∷ [] }

-- The frames in their order, once the new vouchers are in the journal: the proofs, the own vouchers that name a sent
-- update of another, what is sent, and End.
unfoldable pub bundle_frames : ℕ → Signs → List Record → Hello → List Parcel → Bool → List Frame
bundle_frames me sign J h xs more =
    map proof_frame (proofs_for J h) ++
    (map (voucher_frame sign) (vouchers_for J (sent_foreign me xs)) ++
    (flat_map frames_of xs ++ end_frame more ∷ []))

-- how many frames of each sort there are beside End, once the new vouchers are in the journal
abbrev pub counts_of : ℕ → List Record → Hello → List Parcel → Counts
counts_of me J h xs = record {
  proofs = length (proofs_for J h);
  vouchers = length (vouchers_for J (sent_foreign me xs));
  updates = sum_by (λ x. length x.told) xs;
  values = sum_by (λ x. length x.values) xs;
}

-- the journal with these new vouchers
abbrev pub with_vouchers : List Record → List Voucher → List Record
with_vouchers J vs = J ++ records_of vs

-- what a node with this journal sends for a hello, and what it appends before any byte is handed out
unfoldable pub bundle_of : ℕ → Signs → List Record → Hello → Bundle
bundle_of me sign J h =
    let xs = sent_for sign J h in
    let vs = new_vouchers me J (unvouched me J xs) in
    let more = nat_lt (length xs) (length (parcels sign J h)) in
    record { vouchers = vs; frames = bundle_frames me sign (with_vouchers J vs) h xs more; counts = counts_of me (with_vouchers J vs) h xs; more = more }

-- ---- the answer to a hello's text

-- what a node answers to a text that is given as a hello
pub data BundleAnswer : Type 0 where
  bundled : Bundle → BundleAnswer
  -- the text is no hello's, at this offset, or the roster lacks its node
  bad_hello : ℕ → BundleAnswer
  -- the hello's roster has this hash, and another one than the node's
  other_roster : List ℕ → BundleAnswer
  -- the vouchers meet this limit
  limited : Limit → BundleAnswer

-- the bundle, unless its vouchers meet a limit
abbrev pub bundled_within : Option Limit → Bundle → BundleAnswer
bundled_within None b = bundled b
bundled_within (Some l) b = limited l

-- the answer to what was read of a text
abbrev pub answer_to_hello : Setting → Signs → List Record → Result Hello ℕ → BundleAnswer
answer_to_hello here sign J (Err at) = bad_hello at
answer_to_hello here sign J (Ok h) =
    if not (bytes_eq h.roster (hash_of_roster here.listed)) then other_roster h.roster
    else (if not (has_node here.listed h.node) then bad_hello 2
    else bundled_within (limit_of_vouchers here J (unvouched here.me J (sent_for sign J h))) (bundle_of here.me sign J h))

-- The first that holds: the text goes wrong; its roster is another; its node isn't in the roster; the new vouchers meet a limit.
-- Else the bundle.
unfoldable pub bundle_answer : Setting → Signs → List Record → List ℕ → BundleAnswer
bundle_answer here sign J text = answer_to_hello here sign J (whole hello (record { at = 0; rest = text }))
