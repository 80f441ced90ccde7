-- No bundle has more frames than a stream may have.
use Rattle.std.proofs.Common.{◌≡◌, ℕ, ◌+◌, ◌≤◌, ◌==◌, List, [], ◌∷◌, ◌++◌, map, length, Bool, true, false, not, cond, refl, sym, ap, ◌∙◌, arith, length-append}
use Rattle.std.specs.List.{filter, flat_map}
use Rattle.std.proofs.lemmas.Grind.{flat_map-append}
use Rattle.std.proofs.lemmas.List.{length-map}
use Rattle.depot_base.specs.declared.limits.TheConstants.{MOST_FRAMES}
use Rattle.depot_base.specs.declared.proof.Proof.{Proof}
use Rattle.depot_base.specs.declared.record.Record.{Record}
use Rattle.depot_base.specs.declared.record.Record.TheVariants.{Birth, OwnPut, OwnVoucher, Foreign, Conviction, Held}
use Rattle.depot_base.specs.declared.statement.Signed.{Signed}
use Rattle.depot_base.specs.declared.statement.Statement.{Statement}
use Rattle.depot_base.specs.declared.statement.Statement.TheVariants as statement
use Rattle.depot_base.specs.declared.update.Update.{Update}
use Rattle.depot_base.specs.declared.voucher.Voucher.{Voucher}
use Rattle.depot_model.specs.declared.hello.Hello.{Hello}
use Rattle.depot_model.specs.exchange.Bundle.{Signs, has_candidate, candidates, Parcel, frames_of, parcels, sent_for, sent_foreign, unvouched, proof_frame, end_frame, proofs_for, vouchers_for, with_vouchers, bundle_frames, bundle_of, voucher_frame}
use Rattle.depot_model.specs.checks.Checks.{Setting}
use Rattle.depot_model.specs.texts.Frames.{Frame}
use Rattle.depot_model.specs.journals.Journal.{accepted, accepted_by, proof_by, update_in}
use Rattle.depot_model.specs.journals.Lawful.{IsLawful}
use Rattle.depot_model.specs.texts.Texts.{id_of_update}
use Rattle.depot_model.specs.checks.Vouching.{own_voucher_by, own_vouchers, is_mine_vouched, new_vouchers}
use Rattle.depot_model.proofs.of_journals.BundleLaws.{count_of, fitting_is_longest, count_more}
use Rattle.depot_base.proofs.GeneralLaws.{filter_short}
use Rattle.depot_laws.specs.Rejoin.{updates_of}
use Rattle.depot_laws.proofs.lists.Groups.{vouchers_few}
use Rattle.depot_laws.proofs.own_updates.OwnTexts.{lawful_is_short}
use Rattle.depot_laws.proofs.exchanges.Parcels.{sent_in_front, candidates_for, told_of_parcels, same_with, own_with}

-- a record reports one of them at most
pub one_told : (r : Record) → length (proof_by r) + length (own_voucher_by r) + length (accepted_by r) ≤ 1
one_told (Birth node h) = omega arith
one_told (OwnPut u value) = omega arith
one_told (OwnVoucher v) = omega arith
one_told (Foreign s) = omega (arith, of_statement s.statement) where
  of_statement : (x : Statement) → length (update_in x) ≤ 1
  of_statement (statement.Update u) = omega arith
  of_statement (statement.Voucher v) = omega arith
one_told (Conviction p) = omega arith
one_told (Held value) = omega arith

-- a journal reports no more proofs, own vouchers and updates than it has records
pub few_told : (K : List Record) → length (flat_map proof_by K) + length (own_vouchers K) + length (accepted K) ≤ length K
few_told [] = omega arith
few_told (r ∷ K) =
    let one = one_told r in
    let more = few_told K in
    omega (arith, length-append (proof_by r) (flat_map proof_by K), length-append (own_voucher_by r) (own_vouchers K), length-append (accepted_by r) (accepted K))

-- the frames of parcels, counted
pub frames_count : (xs : List Parcel) → length (flat_map frames_of xs) ≡ count_of xs
frames_count [] = refl
frames_count (x ∷ xs) = omega (arith, length-append (frames_of x) (flat_map frames_of xs), frames_count xs, count_more x xs)

-- what is sent has at most 262,144 frames
pub sent_is_short : (sign : Signs) (J : List Record) (h : Hello) → length (flat_map frames_of (sent_for sign J h)) ≤ 262144
unfolding sent_for
sent_is_short sign J h = let l = fitting_is_longest 67108864 262144 (parcels sign J h) in omega (arith, frames_count (sent_for sign J h), l.fits.few)

-- ---- what is said of others

flat_filter_short : {X Y : Type 0} (f : X → List Y) (test : X → Bool) (xs : List X) → length (flat_map f (filter test xs)) ≤ length (flat_map f xs)
flat_filter_short f test [] = omega arith
flat_filter_short f test (x ∷ xs) = by_test (test x) (flat_filter_short f test xs) where
  by_test : (b : Bool) → length (flat_map f (filter test xs)) ≤ length (flat_map f xs) → length (flat_map f (cond b (x ∷ filter test xs) (filter test xs))) ≤ length (flat_map f (x ∷ xs))
  by_test true short = omega (arith, short, length-append (f x) (flat_map f (filter test xs)), length-append (f x) (flat_map f xs))
  by_test false short = omega (arith, short, length-append (f x) (flat_map f xs))

-- no more updates are sent than were accepted
sent_updates_short : (sign : Signs) (J : List Record) (h : Hello) → length (updates_of (sent_for sign J h)) ≤ length (accepted J)
unfolding candidates
sent_updates_short sign J h =
    let front = sent_in_front sign J h in
    let updates_in : Parcel → List Update = λ x. flat_map (λ (s : Signed). update_in s.statement) x.told in
    let parts : updates_of (sent_for sign J h) ++ updates_of front.left ≡ accepted (candidates_for J h) = sym (ap updates_of front.is ∙ flat_map-append updates_in (sent_for sign J h) front.left) ∙ told_of_parcels sign J h in
    let candidates_short : length (accepted (candidates_for J h)) ≤ length (accepted J) = flat_filter_short accepted_by (has_candidate J (map (λ l. l.id) h.leaves) h.node) J in
    omega (arith, ap length parts, length-append (updates_of (sent_for sign J h)) (updates_of front.left), candidates_short)

-- so no more vouchers are made for it
new_short : (me : ℕ) (sign : Signs) (J : List Record) (h : Hello) → length (new_vouchers me J (unvouched me J (sent_for sign J h))) ≤ length (accepted J)
unfolding unvouched sent_foreign
new_short me sign J h =
    let sent : List Update = updates_of (sent_for sign J h) in
    let others : List Update = filter (λ u. not (u.writer == me)) sent in
    let ids : List (List ℕ) = map id_of_update others in
    omega (arith, vouchers_few me J (filter (λ i. not (is_mine_vouched J i)) ids), filter_short (λ i. not (is_mine_vouched J i)) ids, length-map others id_of_update, filter_short (λ u. not (u.writer == me)) sent, sent_updates_short sign J h)

-- ---- the frames of a bundle

-- the new vouchers among them, no more proofs and own vouchers are sent than the journal has records
front_short : (me : ℕ) (J : List Record) (h : Hello) (vs : List Voucher) (ids : List (List ℕ)) → length vs ≤ length (accepted J) → length (proofs_for (with_vouchers J vs) h) + length (vouchers_for (with_vouchers J vs) ids) ≤ length J
front_short me J h vs ids few =
    let K : List Record = with_vouchers J vs in
    let proofs : length (proofs_for K h) ≤ length (flat_map proof_by K) = filter_short _ (flat_map proof_by K) in
    let vouchers : length (vouchers_for K ids) ≤ length (own_vouchers K) = filter_short _ (own_vouchers K) in
    omega (arith, proofs, vouchers, ap length (same_with proof_by J vs (λ v. refl)), ap length (own_with J vs), length-append (own_vouchers J) vs, few_told J, few)

frames_long : (ps : List Proof) (ws : List Voucher) (of_voucher : Voucher → Frame) (fs : List Frame) (end : Frame) → length (map proof_frame ps ++ (map of_voucher ws ++ (fs ++ end ∷ []))) ≡ length ps + length ws + length fs + 1
frames_long ps ws of_voucher fs end = omega (arith, length-append (map proof_frame ps) (map of_voucher ws ++ (fs ++ end ∷ [])), length-append (map of_voucher ws) (fs ++ end ∷ []), length-append fs (end ∷ []), length-map ps proof_frame, length-map ws of_voucher)

-- no bundle of a lawful journal has more frames than a stream may have, End among them
pub bundle_is_short : (here : Setting) (sign : Signs) (J : List Record) (h : Hello) → IsLawful here J → length (bundle_of here.me sign J h).frames ≤ MOST_FRAMES
unfolding bundle_of bundle_frames
bundle_is_short here sign J h l =
    let me : ℕ = here.me in
    let xs : List Parcel = sent_for sign J h in
    let vs : List Voucher = new_vouchers me J (unvouched me J xs) in
    let K : List Record = with_vouchers J vs in
    let fronts = front_short me J h vs (sent_foreign me xs) (new_short me sign J h) in
    let count = frames_long (proofs_for K h) (vouchers_for K (sent_foreign me xs)) (voucher_frame sign) (flat_map frames_of xs) (end_frame (bundle_of me sign J h).more) in
    omega (arith, count, fronts, lawful_is_short here J l, sent_is_short sign J h)
