-- What the reader has after all frames of a bundle that leaves nothing out.
use Rattle.std.proofs.Common.{◌≡◌, ℕ, ◌==◌, List, [], ◌++◌, map, true, not, Some, refl, sym, ap, subst, ◌∙◌, inl, inr}
use Rattle.std.specs.List.{AllByRecursion, flat_map, list_any}
use Rattle.std.proofs.lemmas.Grind.{flat_map-append}
use Rattle.std.proofs.lemmas.Bool.{cases_Bool}
use Rattle.sha2.specs.Sha256.{sha256}
use Rattle.depot_base.specs.declared.update.Update.{Update}
use Rattle.depot_base.specs.declared.voucher.Voucher.{Voucher}
use Rattle.depot_base.specs.declared.statement.Statement.{Statement}
use Rattle.depot_base.specs.declared.statement.Statement.TheVariants as statement
use Rattle.depot_base.specs.declared.proof.Proof.{Proof}
use Rattle.depot_base.specs.declared.record.Record.{Record}
use Rattle.depot_model.specs.lists.Lists.{IsIn, is_among}
use Rattle.depot_model.specs.texts.Texts.{id_of_update}
use Rattle.depot_model.specs.journals.Journal.{accepted, accepted_by, own, proof_by, value_by, accused, vouched, held_as}
use Rattle.depot_model.specs.checks.Checks.{given_statement, given_proof, given_value}
use Rattle.depot_model.specs.texts.Contents.{NamedValue, values_named}
use Rattle.depot_model.specs.checks.Vouching.{own_vouchers}
use Rattle.depot_model.specs.texts.Frames.{Frame}
use Rattle.depot_model.specs.exchange.Bundle.{Signs, signed_with, candidate_parcels, wanted_parcel, hashes_of, parcels, statement_frame, value_frame, proof_frame, frames_of, sent_foreign, proofs_for, vouchers_for, voucher_frame}
use Rattle.depot_model.specs.worlds.World.{Correct, World, setting_of}
use Rattle.depot_model.proofs.lists.Members.{in_left, in_right, in_map, any_from, among_from, from_filter, in_filter}
use Rattle.depot_base.proofs.GeneralLaws.{all_both}
use Rattle.depot_laws.specs.Rejoin.{hello_at, IsWellSigned}
use Rattle.depot_laws.proofs.lists.Splits.{flat_left}
use Rattle.depot_laws.proofs.records.WantedValues.{wanted_over, value_is_wanted, value_fits}
use Rattle.depot_laws.proofs.lists.Groups.{HasVoucher}
use Rattle.depot_laws.proofs.exchanges.Parcels.{candidates_for, is_candidate_for, in_candidates, told_of_parcels, id_is_sent}
use Rattle.depot_laws.proofs.exchanges.Meetings.{Meeting, sender_lawful, not_sent}
use Rattle.depot_laws.proofs.exchanges.Joining.{HasJoined, IsVoucherOf}
use Rattle.depot_laws.proofs.exchanges.Arrivals.{IsValueFor}
use Rattle.depot_laws.proofs.exchanges.PlainFrames.{IsPlainFrame, plain_proof, plain_statement, plain_value, all_mapped}
use Rattle.depot_laws.proofs.exchanges.Carrying.{taking, RoomFor, taking_append, room_front, room_behind, AreCarried, carry_append, carry_each}
use Rattle.depot_laws.proofs.exchanges.Sending.{read_behind, value_sort, IsReady, candidates_are_plain, send_candidates}
use Rattle.depot_laws.proofs.exchanges.Rejoining.{values_of, wanted_frames, wanted_value_on, joined_first, IsRecorded, recorded, proof_sort, own_voucher_is, voucher_of, voucher_sort}

-- The reader a made its hello when its journal was P. The sender v makes its bundle when its journal is J; these
-- records with the bundle's vouchers after them name each sent update of another. The sender's own statements among
-- these frames are well signed.
module _ (W : World) (a v : Correct) (P later : List Record) (hello_was : a.journal ≡ P ++ later) (J vouchers : List Record) (sent : Meeting W a v J) (m : Meeting W a v (J ++ vouchers))
    (sign : Signs) (all : List Frame) (signs : (s : Statement) → IsIn s (own (J ++ vouchers)) → IsIn (statement_frame (signed_with sign s)) all → IsWellSigned W (signed_with sign s))
    (vouches : (h : List ℕ) → IsIn h (sent_foreign v.node (parcels sign J (hello_at W a P))) → HasVoucher h (own_vouchers (J ++ vouchers))) where
  -- ---- the frames

  proofs : List Proof
  proofs = proofs_for (J ++ vouchers) (hello_at W a P)

  named_vouchers : List Voucher
  named_vouchers = vouchers_for (J ++ vouchers) (sent_foreign v.node (parcels sign J (hello_at W a P)))

  -- the values that candidates' parcels have, and then those that are wanted
  wanted_values : List (List ℕ)
  wanted_values = values_of (flat_map (wanted_parcel J (hashes_of (candidate_parcels sign J [] (candidates_for J (hello_at W a P))))) (hello_at W a P).wanted)

  candidate_frames : List Frame
  candidate_frames = flat_map frames_of (candidate_parcels sign J [] (candidates_for J (hello_at W a P)))

  -- the frames before End
  pub frames : List Frame
  frames = map proof_frame proofs ++ (map (voucher_frame sign) named_vouchers ++ (candidate_frames ++ map value_frame wanted_values))

  -- they are those of a bundle that leaves nothing out
  pub frames_are : map proof_frame (proofs_for (J ++ vouchers) (hello_at W a P)) ++ (map (voucher_frame sign) (vouchers_for (J ++ vouchers) (sent_foreign v.node (parcels sign J (hello_at W a P)))) ++ flat_map frames_of (parcels sign J (hello_at W a P))) ≡ frames
  unfolding frames proofs named_vouchers wanted_values candidate_frames parcels
  frames_are =
      let front = candidate_parcels sign J [] (candidates_for J (hello_at W a P)) in
      let wanted = flat_map (wanted_parcel J (hashes_of front)) (hello_at W a P).wanted in
      let split : flat_map frames_of (front ++ wanted) ≡ flat_map frames_of front ++ map value_frame (values_of wanted) =
      flat_map-append frames_of front wanted ∙ ap (λ (fs : List Frame). flat_map frames_of front ++ fs) (wanted_frames J (hashes_of front) (hello_at W a P).wanted) in
      ap (λ (fs : List Frame). map proof_frame (proofs_for (J ++ vouchers) (hello_at W a P)) ++ (map (voucher_frame sign) (vouchers_for (J ++ vouchers) (sent_foreign v.node (parcels sign J (hello_at W a P)))) ++ fs)) split

  -- ---- each is a plain frame

  proof_on : (p : Proof) → IsIn p proofs → IsIn p (flat_map proof_by (J ++ vouchers))
  unfolding proofs
  proof_on p on = (from_filter (λ (q : Proof). not (list_any (λ n. n == accused q) (hello_at W a P).convicted)) p _ on).0

  voucher_on : (w : Voucher) → IsIn w named_vouchers → IsIn w (own_vouchers (J ++ vouchers))
  unfolding named_vouchers
  voucher_on w on = (from_filter (λ (x : Voucher). list_any (λ i. is_among i (sent_foreign v.node (parcels sign J (hello_at W a P)))) x.ids) w (own_vouchers (J ++ vouchers)) on).0

  wanted_on : (x : List ℕ) → IsIn x wanted_values → IsIn x (flat_map value_by J)
  unfolding wanted_values
  wanted_on x on = wanted_value_on J (hashes_of (candidate_parcels sign J [] (candidates_for J (hello_at W a P)))) (hello_at W a P).wanted x on

  module _ (framed : (f : Frame) → IsIn f frames → IsIn f all) where
    voucher_is : (w : Voucher) → IsIn w named_vouchers → IsVoucherOf W a v (J ++ vouchers) m (signed_with sign (statement.Voucher w)) w
    unfolding frames
    voucher_is w on =
        let mine = voucher_on w on in
        voucher_of W a v (J ++ vouchers) m sign w mine (signs (statement.Voucher w) (own_voucher_is W a v (J ++ vouchers) m w mine)
        (framed (voucher_frame sign w) (in_right _ (map proof_frame proofs) _ (in_left _ (map (voucher_frame sign) named_vouchers) _ (in_map (voucher_frame sign) w named_vouchers on)))))

    candidate_framed : (f : Frame) → IsIn f candidate_frames → IsIn f all
    unfolding frames
    candidate_framed f on = framed f (in_right f (map proof_frame proofs) _ (in_right f (map (voucher_frame sign) named_vouchers) _ (in_left f candidate_frames (map value_frame wanted_values) on)))

    pub frames_are_plain : AllByRecursion IsPlainFrame frames
    unfolding frames candidate_frames
    frames_are_plain =
        all_both IsPlainFrame (map proof_frame proofs) _ (all_mapped proof_frame proofs (λ p on. plain_proof p (recorded W a v (J ++ vouchers) m p (proof_on p on)).fits))
        (all_both IsPlainFrame (map (voucher_frame sign) named_vouchers) _ (all_mapped (voucher_frame sign) named_vouchers (λ w on. plain_statement (signed_with sign (statement.Voucher w)) (voucher_is w on).fits))
        (all_both IsPlainFrame (flat_map frames_of (candidate_parcels sign J [] (candidates_for J (hello_at W a P)))) (map value_frame wanted_values)
        (candidates_are_plain W a v P later hello_was J vouchers sent m sign all signs [] [] (candidates_for J (hello_at W a P)) refl candidate_framed)
        (all_mapped value_frame wanted_values (λ x on. plain_value x (value_fits (setting_of W v) J x (sender_lawful W a v J sent) (wanted_on x on))))))

    -- ---- after them

    -- what the reader has after all frames
    pub record AreRejoined (C : List Record) : Type 0 where
      pub carried : AreCarried W a v (J ++ vouchers) m a.journal frames
      pub is : taking (setting_of W a) a.journal frames ≡ C
      pub reach : (u : Update) → IsIn u (accepted J) → IsIn u (accepted C)
      pub holds : (u : Update) (n : NamedValue) (x : List ℕ) → IsIn u (accepted (candidates_for J (hello_at W a P))) → IsIn n (values_named u) → held_as J n ≡ Some x → IsIn x (flat_map value_by C)

    -- after the vouchers each sent update of another is vouched
    sent_is_vouched : (C : List Record) → ((w : Voucher) → IsIn w named_vouchers → (h : List ℕ) → IsIn h w.ids → IsIn h (vouched C)) → (u : Update) → IsIn u (accepted (candidates_for J (hello_at W a P))) → (u.writer ≡ v.node → ⊥) → IsIn (id_of_update u) (vouched C)
    unfolding named_vouchers
    sent_is_vouched C each u on other =
        let xs = parcels sign J (hello_at W a P) in
        let id = id_is_sent v.node xs u (subst (λ (us : List Update). IsIn u us) (sym (told_of_parcels sign J (hello_at W a P))) on) other in
        let w = vouches (id_of_update u) id in
        let names : list_any (λ i. is_among i (sent_foreign v.node xs)) w.voucher.ids ≡ true = any_from (λ i. is_among i (sent_foreign v.node xs)) (id_of_update u) w.voucher.ids w.names (among_from (id_of_update u) (sent_foreign v.node xs) id) in
        each w.voucher (in_filter (λ (x : Voucher). list_any (λ i. is_among i (sent_foreign v.node xs)) x.ids) w.voucher (own_vouchers (J ++ vouchers)) w.on names) (id_of_update u) w.names

    -- an update of the sender is sent, or the reader had it
    reaches : (C : List Record) → HasJoined W a v (J ++ vouchers) m C → ((u : Update) → IsIn u (accepted (candidates_for J (hello_at W a P))) → IsIn u (accepted C)) → (u : Update) → IsIn u (accepted J) → IsIn u (accepted C)
    reaches C j accepts u on = elim (cases_Bool (is_candidate_for J (hello_at W a P) u)) [
      | inl goes ↦ accepts u (in_candidates J (hello_at W a P) u on goes)
      | inr stays ↦ j.kept u (not_sent W a v J sent P later hello_was u on stays)
    ]

    pub take_all : RoomFor (setting_of W a) a.journal frames → AreRejoined (taking (setting_of W a) a.journal frames)
    unfolding frames candidate_frames
    take_all room =
        let here = setting_of W a in
        let one = map proof_frame proofs in
        let two = map (voucher_frame sign) named_vouchers in
        let three = flat_map frames_of (candidate_parcels sign J [] (candidates_for J (hello_at W a P))) in
        let four = map value_frame wanted_values in
        let first = carry_each W a v (J ++ vouchers) m proof_frame (λ p. given_proof p) (λ C p. IsRecorded W a v (J ++ vouchers) m p) (λ C p. Unit {0}) (proof_sort W a v (J ++ vouchers) m) a.journal proofs (joined_first W a v (J ++ vouchers) m)
        (λ p on. recorded W a v (J ++ vouchers) m p (proof_on p on)) (room_front here a.journal one (two ++ (three ++ four)) room) in
        let C1 = taking here a.journal one in
        let room1 = room_behind here a.journal one (two ++ (three ++ four)) room in
        let second = carry_each W a v (J ++ vouchers) m (voucher_frame sign) (λ w. given_statement (signed_with sign (statement.Voucher w))) (λ C w. IsVoucherOf W a v (J ++ vouchers) m (signed_with sign (statement.Voucher w)) w) (λ C w. (h : List ℕ) → IsIn h w.ids → IsIn h (vouched C))
        (voucher_sort W a v (J ++ vouchers) m sign) C1 named_vouchers first.carried.joined voucher_is (room_front here C1 two (three ++ four) room1) in
        let C2 = taking here C1 two in
        let room2 = room_behind here C1 two (three ++ four) room1 in
        let ready : IsReady W a v P later hello_was J vouchers sent m sign all signs C2 [] [] = record {
          joined = second.carried.joined;
          vouches = sent_is_vouched C2 second.each;
          accepts = λ u never. absurd never;
          has = λ h never. absurd never;
        } in
        let third = send_candidates W a v P later hello_was J vouchers sent m sign all signs C2 [] [] (candidates_for J (hello_at W a P)) refl ready candidate_framed (room_front here C2 three four room2) in
        let C3 = taking here C2 three in
        let reach3 = reaches C3 third.carried.joined third.accepts in
        let fourth = carry_each W a v (J ++ vouchers) m value_frame (λ x. given_value x) (IsValueFor W a v (J ++ vouchers) m) (λ X x. IsIn x (flat_map value_by X)) (value_sort W a v (J ++ vouchers) m) C3 wanted_values third.carried.joined
        (λ x on. let mine = wanted_on x on in record {
          on = flat_left value_by x J vouchers mine;
          fits = value_fits (setting_of W v) J x (sender_lawful W a v J sent) mine;
          wanted = wanted_over (accepted J) (accepted C3) (sha256 x) _ reach3 (value_is_wanted (setting_of W v) J x (sender_lawful W a v J sent) mine);
        }) (room_behind here C2 three four room2) in
        let C4 = taking here C3 four in
        let far : taking here a.journal (one ++ (two ++ (three ++ four))) ≡ C4 = taking_append here a.journal one (two ++ (three ++ four)) ∙ taking_append here C1 two (three ++ four) ∙ taking_append here C2 three four in
        record {
          carried = carry_append W a v (J ++ vouchers) m a.journal one (two ++ (three ++ four)) first.carried (carry_append W a v (J ++ vouchers) m C1 two (three ++ four) second.carried (carry_append W a v (J ++ vouchers) m C2 three four third.carried fourth.carried));
          is = refl;
          reach = λ u on. subst (λ (C : List Record). IsIn u (accepted C)) (sym far) (read_behind accepted_by u here C3 four (reach3 u on));
          holds = λ u n x on named held. subst (λ (C : List Record). IsIn x (flat_map value_by C)) (sym far) (read_behind value_by x here C3 four (third.holds u n x on named held));
        }
