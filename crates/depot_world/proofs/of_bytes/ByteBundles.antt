-- The bytes of a bundle are bytes, and its vouchers keep a lawful journal lawful.
use Rattle.std.proofs.Common.{◌≡◌, ℕ, Bool, true, false, not, cond, eqb, List, [], ◌∷◌, ◌++◌, length, map, Option, Some, None, refl, sym, subst, inl, inr, arith}
use Rattle.std.specs.List.{AllByRecursion, flat_map}
use Rattle.std.specs.Prelude.{filter, nat_lt}
use Rattle.sha2.specs.Sha256.{sha256}
use Rattle.depot_base.specs.declared.update.Update.{Update}
use Rattle.depot_base.specs.declared.voucher.Voucher.{Voucher}
use Rattle.depot_base.specs.declared.proof.Proof.{Proof}
use Rattle.depot_base.specs.declared.record.Record.{Record}
use Rattle.depot_base.specs.declared.record.Record.TheVariants.{Birth, OwnPut, OwnVoucher, Foreign, Conviction, Held}
use Rattle.depot_base.specs.declared.statement.Statement.TheVariants as statement
use Rattle.depot_base.specs.declared.statement.Signed.{Signed}
use Rattle.depot_model.specs.declared.hello.Hello.{Hello}
use Rattle.depot_model.specs.exchange.Bundle.{Signs, signed_with, signed_by, candidates, has_candidate, Parcel, candidate_parcel, candidate_parcels, wanted_parcel, hashes_of, parcels, statement_frame, value_frame, frames_of, sent_for, sent_foreign, unvouched, bytes_of_bundle, proofs_for, vouchers_for, proof_frame, end_frame, bundle_frames, with_vouchers, bundle_of, voucher_frame}
use Rattle.depot_model.specs.texts.Contents.{values_named}
use Rattle.depot_model.specs.texts.Frames.{Frame, text_of_frame}
use Rattle.depot_model.specs.journals.Journal.{accepted_by, proofs, proof_by, value_by, value_with, held}
use Rattle.depot_model.specs.lists.Lists.{IsIn, is_among}
use Rattle.depot_model.specs.texts.Texts.{id_of_update, text_of_proof, text_of_statement, text_of_signed}
use Rattle.depot_model.specs.checks.Vouching.{own_vouchers, own_voucher_by, is_mine_vouched, new_vouchers, records_of}
use Rattle.depot_model.proofs.lists.Members.{all_at, in_left, in_parts, from_map, from_filter}
use Rattle.depot_laws.specs.Rejoin.{updates_of}
use Rattle.depot_laws.proofs.exchanges.Candidates.{behind_is}
use Rattle.depot_laws.proofs.records.HeldValues.{held_is_brought, value_with_is, held_as_is}
use Rattle.depot_laws.proofs.exchanges.Parcels.{candidates_for, sent_in_front}
use Rattle.depot_laws.proofs.lists.Splits.{given_by}
use Rattle.depot_base.proofs.GeneralLaws.{all_both}
use Rattle.depot_world.proofs.of_bytes.OnlyBytes.{OnlyBytes, only_flat}
use Rattle.depot_world.proofs.of_bytes.ByteTexts.{only_id, update_statement, only_frame}
use Rattle.depot_world.proofs.of_bytes.ByteSignatures.{SignsBytes, only_signed_with}
use Rattle.depot_world.proofs.of_bytes.ByteJournals.{HoldsBytes, AllHold, read_holds}
use Rattle.depot_world.proofs.of_bytes.ByteOwn.{only_new_vouchers}

-- ---- what is read of a journal

proof_is : (r : Record) → HoldsBytes r → AllByRecursion (λ (p : Proof). OnlyBytes (text_of_proof p)) (proof_by r)
proof_is (Conviction p) holds = (holds, tt)
proof_is r holds = tt

proof_holds : (J : List Record) (p : Proof) → AllHold J → IsIn p (proofs J) → OnlyBytes (text_of_proof p)
proof_holds J p hold on = read_holds proof_by (λ (q : Proof). OnlyBytes (text_of_proof q)) proof_is J p hold on

voucher_is : (r : Record) → HoldsBytes r → AllByRecursion (λ (v : Voucher). OnlyBytes (text_of_statement (statement.Voucher v))) (own_voucher_by r)
voucher_is (OwnVoucher v) holds = (holds, tt)
voucher_is r holds = tt

voucher_holds : (J : List Record) (v : Voucher) → AllHold J → IsIn v (own_vouchers J) → OnlyBytes (text_of_statement (statement.Voucher v))
voucher_holds J v hold on = read_holds own_voucher_by (λ (w : Voucher). OnlyBytes (text_of_statement (statement.Voucher w))) voucher_is J v hold on

value_is : (r : Record) → HoldsBytes r → AllByRecursion OnlyBytes (value_by r)
value_is (OwnPut u values) holds = holds.1
value_is (Held value) holds = (holds, tt)
value_is r holds = tt

value_holds : (J : List Record) (v : List ℕ) → AllHold J → IsIn v (flat_map value_by J) → OnlyBytes v
value_holds J v hold on = read_holds value_by OnlyBytes value_is J v hold on

-- ---- parcels

-- what a parcel sends is bytes
record SendsBytes (x : Parcel) : Type 0 where
  pub told : (s : Signed) → IsIn s x.told → OnlyBytes (text_of_signed s)
  pub values : (v : List ℕ) → IsIn v x.values → OnlyBytes v

one_signed : (s t : Signed) → OnlyBytes (text_of_signed t) → IsIn s (t ∷ []) → OnlyBytes (text_of_signed s)
one_signed s t only (inl same) = subst (λ (x : Signed). OnlyBytes (text_of_signed x)) same only
one_signed s t only (inr never) = absurd never

signed_by_holds : (sign : Signs) (r : Record) (s : Signed) → SignsBytes sign → HoldsBytes r → IsIn s (signed_by sign r) → OnlyBytes (text_of_signed s)
signed_by_holds sign (OwnPut u values) s signs holds on = one_signed s (signed_with sign (statement.Update u)) (only_signed_with sign (statement.Update u) signs (subst OnlyBytes (sym (update_statement u)) holds.0)) on
signed_by_holds sign (OwnVoucher v) s signs holds on = one_signed s (signed_with sign (statement.Voucher v)) (only_signed_with sign (statement.Voucher v) signs holds) on
signed_by_holds sign (Foreign t) s signs holds on = one_signed s t holds on
signed_by_holds sign (Birth node h) s signs holds never = absurd never
signed_by_holds sign (Conviction p) s signs holds never = absurd never
signed_by_holds sign (Held value) s signs holds never = absurd never

candidates_send : (sign : Signs) (J : List Record) (sent : List (List ℕ)) (rs : List Record) → SignsBytes sign → AllHold J → AllHold rs → (x : Parcel) → IsIn x (candidate_parcels sign J sent rs) → SendsBytes x
unfolding candidate_parcels
candidates_send sign J sent [] signs hold these x never = absurd never
candidates_send sign J sent (r ∷ rs) signs hold these x (inl here) = subst SendsBytes here (record {
  told = λ s on. signed_by_holds sign r s signs these.0 on;
  values = λ v on. let b = behind_is J sent (flat_map values_named (accepted_by r)) v on in value_holds J v hold (held_as_is J b.name v b.held).on;
})
candidates_send sign J sent (r ∷ rs) signs hold these x (inr there) = candidates_send sign J (map sha256 (candidate_parcel sign J sent r).values ++ sent) rs signs hold these.1 x there

wanted_sends : (J : List Record) (sent : List (List ℕ)) (h : List ℕ) → AllHold J → (x : Parcel) → IsIn x (wanted_parcel J sent h) → SendsBytes x
wanted_sends J sent h hold x on = one (is_among h sent) (value_with h (held J)) refl on where
  one : (b : Bool) (o : Option (List ℕ)) → value_with h (held J) ≡ o → IsIn x (elim (cond b None o) as (λ p. List Parcel) [ None ↦ [] | Some v ↦ record { told = []; values = v ∷ [] } ∷ [] ]) → SendsBytes x
  one true o is never = absurd never
  one false None is never = absurd never
  one false (Some v) is (inr never) = absurd never
  one false (Some v) is (inl here) =
      let only = value_holds J v hold (held_is_brought J v (value_with_is (held J) h v is).on) in
      subst SendsBytes here (record { told = λ s never. absurd never; values = λ w on. elim on [ inl same ↦ subst OnlyBytes same only | inr never ↦ absurd never ] })

all_filter : (test : Record → Bool) (J : List Record) → AllHold J → AllHold (filter test J)
all_filter test [] hold = tt
all_filter test (r ∷ J) hold = by_test (test r) (all_filter test J hold.1) where
  by_test : (b : Bool) → AllHold (filter test J) → AllHold (cond b (r ∷ filter test J) (filter test J))
  by_test true rest = (hold.0, rest)
  by_test false rest = rest

parcels_send : (sign : Signs) (J : List Record) (h : Hello) → SignsBytes sign → AllHold J → (x : Parcel) → IsIn x (parcels sign J h) → SendsBytes x
unfolding parcels candidates
parcels_send sign J h signs hold x on =
    let front = candidate_parcels sign J [] (candidates_for J h) in
    elim (in_parts x front (flat_map (wanted_parcel J (hashes_of front)) h.wanted) on) [
      | inl told ↦ candidates_send sign J [] (candidates_for J h) signs hold (all_filter (has_candidate J (map (λ l. l.id) h.leaves) h.node) J hold) x told
      | inr value ↦ (let g = given_by (wanted_parcel J (hashes_of front)) x h.wanted value in wanted_sends J (hashes_of front) g.by hold x g.given)
    ]

sent_sends : (sign : Signs) (J : List Record) (h : Hello) → SignsBytes sign → AllHold J → (x : Parcel) → IsIn x (sent_for sign J h) → SendsBytes x
sent_sends sign J h signs hold x on =
    let f = sent_in_front sign J h in
    parcels_send sign J h signs hold x (subst (λ (xs : List Parcel). IsIn x xs) (sym f.is) (in_left x (sent_for sign J h) f.left on))

-- ---- frames

abbrev IsByteFrame : Frame → Type 0
IsByteFrame f = OnlyBytes (text_of_frame f)

all_mapped : {X : Type 0} (frame : X → Frame) (xs : List X) → ((x : X) → IsIn x xs → IsByteFrame (frame x)) → AllByRecursion IsByteFrame (map frame xs)
all_mapped frame [] each = tt
all_mapped frame (x ∷ xs) each = (each x (inl refl), all_mapped frame xs (λ y on. each y (inr on)))

parcel_frames : (x : Parcel) → SendsBytes x → AllByRecursion IsByteFrame (frames_of x)
parcel_frames x sends = all_both IsByteFrame (map statement_frame x.told) (map value_frame x.values)
    (all_mapped statement_frame x.told (λ s on. only_frame (statement_frame s) (omega arith) (sends.told s on)))
    (all_mapped value_frame x.values (λ v on. only_frame (value_frame v) (omega arith) (sends.values v on)))

all_parcel_frames : (xs : List Parcel) → ((x : Parcel) → IsIn x xs → SendsBytes x) → AllByRecursion IsByteFrame (flat_map frames_of xs)
all_parcel_frames [] each = tt
all_parcel_frames (x ∷ xs) each = all_both IsByteFrame (frames_of x) (flat_map frames_of xs) (parcel_frames x (each x (inl refl))) (all_parcel_frames xs (λ y on. each y (inr on)))

end_holds : (more : Bool) → IsByteFrame (end_frame more)
end_holds true = only_frame (end_frame true) (omega arith) (omega arith, tt)
end_holds false = only_frame (end_frame false) (omega arith) (omega arith, tt)

frames_hold : (me : ℕ) (sign : Signs) (K : List Record) (h : Hello) (xs : List Parcel) (more : Bool) → SignsBytes sign → AllHold K → ((x : Parcel) → IsIn x xs → SendsBytes x) → AllByRecursion IsByteFrame (bundle_frames me sign K h xs more)
unfolding bundle_frames
frames_hold me sign K h xs more signs hold each =
    let vs = vouchers_for K (sent_foreign me xs) in
    all_both IsByteFrame (map proof_frame (proofs_for K h)) (map (voucher_frame sign) vs ++ (flat_map frames_of xs ++ end_frame more ∷ []))
    (all_mapped proof_frame (proofs_for K h) (λ p on. only_frame (proof_frame p) (omega arith) (proof_holds K p hold (from_filter (λ (q : Proof). _) p (proofs K) on).0)))
    (all_both IsByteFrame (map (voucher_frame sign) vs) (flat_map frames_of xs ++ end_frame more ∷ [])
    (all_mapped (voucher_frame sign) vs (λ v on. only_frame (voucher_frame sign v) (omega arith) (only_signed_with sign (statement.Voucher v) signs (voucher_holds K v hold (from_filter (λ (w : Voucher). _) v (own_vouchers K) on).0))))
    (all_both IsByteFrame (flat_map frames_of xs) (end_frame more ∷ []) (all_parcel_frames xs each) (end_holds more, tt)))

-- ---- vouchers

unvouched_only : (me : ℕ) (J : List Record) (xs : List Parcel) (h : List ℕ) → IsIn h (unvouched me J xs) → OnlyBytes h
unfolding unvouched sent_foreign
unvouched_only me J xs h on =
    let sent = (from_filter (λ (i : List ℕ). not (is_mine_vouched J i)) h (sent_foreign me xs) on).0 in
    let u = from_map id_of_update h (filter (λ (t : Update). not (eqb t.writer me)) (updates_of xs)) sent in
    subst OnlyBytes u.1.1 (only_id u.0)

-- ---- the bundle

pub bundle_vouchers_hold : (me : ℕ) (sign : Signs) (J : List Record) (h : Hello) → AllHold (records_of (bundle_of me sign J h).vouchers)
unfolding bundle_of
bundle_vouchers_hold me sign J h = only_new_vouchers me J (unvouched me J (sent_for sign J h)) (unvouched_only me J (sent_for sign J h))

all_flat : (fs : List Frame) → AllByRecursion IsByteFrame fs → OnlyBytes (flat_map text_of_frame fs)
all_flat fs each = only_flat text_of_frame fs (λ f on. all_at IsByteFrame fs f each on)

pub bundle_holds : (me : ℕ) (sign : Signs) (J : List Record) (h : Hello) → SignsBytes sign → AllHold J → OnlyBytes (bytes_of_bundle (bundle_of me sign J h))
unfolding bundle_of
bundle_holds me sign J h signs hold =
    let xs = sent_for sign J h in
    let vs = new_vouchers me J (unvouched me J xs) in
    let K = all_both HoldsBytes J (records_of vs) hold (bundle_vouchers_hold me sign J h) in
    let more = nat_lt (length xs) (length (parcels sign J h)) in
    all_flat (bundle_frames me sign (with_vouchers J vs) h xs more) (frames_hold me sign (with_vouchers J vs) h xs more signs K (sent_sends sign J h signs hold))
