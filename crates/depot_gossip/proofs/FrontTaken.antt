-- What the asker has after all frames of a bounded bundle.
use Rattle.std.proofs.Common.{◌≡◌, ℕ, ◌==◌, List, [], ◌++◌, map, true, not, Some, refl, sym, ap, subst, ◌∙◌, inl, inr}
use Rattle.std.specs.List.{AllByRecursion, flat_map, list_any}
use Rattle.std.proofs.lemmas.Bool.{cases_Bool}
use Rattle.std.proofs.lemmas.List.{append-nil}
use Rattle.sha2.specs.Sha256.{sha256}
use Rattle.depot_base.specs.declared.proof.Proof.{Proof}
use Rattle.depot_base.specs.declared.record.Record.{Record}
use Rattle.depot_base.specs.declared.statement.Statement.{Statement}
use Rattle.depot_base.specs.declared.statement.Statement.TheVariants as statement
use Rattle.depot_base.specs.declared.update.Update.{Update}
use Rattle.depot_base.specs.declared.voucher.Voucher.{Voucher}
use Rattle.depot_base.proofs.GeneralLaws.{all_both}
use Rattle.depot_model.specs.declared.hello.Hello.{Hello}
use Rattle.depot_model.specs.checks.Checks.{given_proof, given_statement, given_value}
use Rattle.depot_model.specs.checks.Vouching.{own_vouchers}
use Rattle.depot_model.specs.exchange.Bundle.{Parcel, Signs, candidate_parcels, frames_of, proof_frame, proofs_for, sent_foreign, signed_with, statement_frame, value_frame, voucher_frame, vouchers_for}
use Rattle.depot_model.specs.journals.Journal.{accepted, accepted_by, accused, held_as, own, proof_by, value_by, vouched}
use Rattle.depot_model.specs.lists.Lists.{IsIn, is_among}
use Rattle.depot_model.specs.texts.Contents.{NamedValue, values_named}
use Rattle.depot_model.specs.texts.Frames.{Frame}
use Rattle.depot_model.specs.texts.Texts.{id_of_update}
use Rattle.depot_model.specs.worlds.World.{Correct, World, setting_of}
use Rattle.depot_model.proofs.lists.Members.{among_from, any_from, from_filter, in_filter, in_left, in_map, in_right}
use Rattle.depot_laws.specs.Rejoin.{IsWellSigned}
use Rattle.depot_laws.proofs.exchanges.Arrivals.{IsValueFor}
use Rattle.depot_laws.proofs.exchanges.Carrying.{AreCarried, RoomFor, carry_append, carry_each, room_behind, room_front, taking, taking_append}
use Rattle.depot_laws.proofs.exchanges.Joining.{IsVoucherOf}
use Rattle.depot_laws.proofs.exchanges.Meetings.{Meeting, sender_lawful}
use Rattle.depot_laws.proofs.exchanges.Parcels.{candidates_for, id_is_sent, in_candidates, is_candidate_for}
use Rattle.depot_laws.proofs.exchanges.PlainFrames.{IsPlainFrame, all_mapped, plain_proof, plain_statement, plain_value}
use Rattle.depot_laws.proofs.exchanges.Rejoining.{IsRecorded, joined_first, own_voucher_is, proof_sort, recorded, values_of, voucher_of, voucher_sort}
use Rattle.depot_laws.proofs.exchanges.Sending.{read_behind, value_sort}
use Rattle.depot_laws.proofs.lists.Groups.{HasVoucher}
use Rattle.depot_laws.proofs.lists.Splits.{flat_left}
use Rattle.depot_laws.proofs.records.WantedValues.{value_fits, value_is_wanted, wanted_over}
use Rattle.depot_gossip.specs.AskingAgain.{IsHelloOf}
use Rattle.depot_gossip.proofs.AskedCovers.{spared_is_had}
use Rattle.depot_gossip.proofs.ChosenTaken.{MayCome, chosen_are_plain, take_chosen}
use Rattle.depot_gossip.proofs.ParcelCuts.{IsCutParcels, cut_frames, cut_updates, cut_value_on}

-- The asker a made this hello. The asked one v makes its bundle when its journal is J, and sends these parcels; these
-- records with the bundle's vouchers after them name each sent update of another. The own statements of v among these
-- frames are well signed.
module _ (W : World) (a v : Correct) (h : Hello) (asks : IsHelloOf a h) (J vouchers : List Record) (sent : Meeting W a v J) (m : Meeting W a v (J ++ vouchers)) (sign : Signs) (xs : List Parcel) (c : IsCutParcels sign J h xs)
    (all : List Frame) (signs : (s : Statement) → IsIn s (own (J ++ vouchers)) → IsIn (statement_frame (signed_with sign s)) all → IsWellSigned W (signed_with sign s))
    (vouches : (id : List ℕ) → IsIn id (sent_foreign v.node xs) → HasVoucher id (own_vouchers (J ++ vouchers))) where
  -- ---- the frames

  proofs : List Proof
  proofs = proofs_for (J ++ vouchers) h

  named_vouchers : List Voucher
  named_vouchers = vouchers_for (J ++ vouchers) (sent_foreign v.node xs)

  chosen_frames : List Frame
  chosen_frames = flat_map frames_of (candidate_parcels sign J [] c.chosen)

  wanted_values : List (List ℕ)
  wanted_values = values_of c.wanted

  -- the frames before End
  pub front_frames : List Frame
  front_frames = map proof_frame proofs ++ (map (voucher_frame sign) named_vouchers ++ (chosen_frames ++ map value_frame wanted_values))

  -- they are those of the bundle
  pub front_frames_are : map proof_frame (proofs_for (J ++ vouchers) h) ++ (map (voucher_frame sign) (vouchers_for (J ++ vouchers) (sent_foreign v.node xs)) ++ flat_map frames_of xs) ≡ front_frames
  unfolding front_frames proofs named_vouchers chosen_frames wanted_values
  front_frames_are = ap (λ (fs : List Frame). map proof_frame (proofs_for (J ++ vouchers) h) ++ (map (voucher_frame sign) (vouchers_for (J ++ vouchers) (sent_foreign v.node xs)) ++ fs)) (cut_frames sign J h xs c)

  -- ---- each is a plain frame

  proof_on : (p : Proof) → IsIn p proofs → IsIn p (flat_map proof_by (J ++ vouchers))
  unfolding proofs
  proof_on p on = (from_filter (λ (q : Proof). not (list_any (λ n. n == accused q) h.convicted)) p _ on).0

  voucher_on : (w : Voucher) → IsIn w named_vouchers → IsIn w (own_vouchers (J ++ vouchers))
  unfolding named_vouchers
  voucher_on w on = (from_filter (λ (x : Voucher). list_any (λ i. is_among i (sent_foreign v.node xs)) x.ids) w (own_vouchers (J ++ vouchers)) on).0

  wanted_on : (x : List ℕ) → IsIn x wanted_values → IsIn x (flat_map value_by J)
  unfolding wanted_values
  wanted_on x on = cut_value_on sign J h xs c x on

  module _ (framed : (f : Frame) → IsIn f front_frames → IsIn f all) where
    voucher_is : (w : Voucher) → IsIn w named_vouchers → IsVoucherOf W a v (J ++ vouchers) m (signed_with sign (statement.Voucher w)) w
    unfolding front_frames
    voucher_is w on =
        let mine = voucher_on w on in
        voucher_of W a v (J ++ vouchers) m sign w mine (signs (statement.Voucher w) (own_voucher_is W a v (J ++ vouchers) m w mine)
        (framed (voucher_frame sign w) (in_right _ (map proof_frame proofs) _ (in_left _ (map (voucher_frame sign) named_vouchers) _ (in_map (voucher_frame sign) w named_vouchers on)))))

    chosen_framed : (f : Frame) → IsIn f chosen_frames → IsIn f all
    unfolding front_frames
    chosen_framed f on = framed f (in_right f (map proof_frame proofs) _ (in_right f (map (voucher_frame sign) named_vouchers) _ (in_left f chosen_frames (map value_frame wanted_values) on)))

    pub front_is_plain : AllByRecursion IsPlainFrame front_frames
    unfolding front_frames chosen_frames
    front_is_plain =
        all_both IsPlainFrame (map proof_frame proofs) _ (all_mapped proof_frame proofs (λ p on. plain_proof p (recorded W a v (J ++ vouchers) m p (proof_on p on)).fits))
        (all_both IsPlainFrame (map (voucher_frame sign) named_vouchers) _ (all_mapped (voucher_frame sign) named_vouchers (λ w on. plain_statement (signed_with sign (statement.Voucher w)) (voucher_is w on).fits))
        (all_both IsPlainFrame (flat_map frames_of (candidate_parcels sign J [] c.chosen)) (map value_frame wanted_values)
        (chosen_are_plain W a v h asks J vouchers sent m c.chosen c.left c.cut sign all signs [] [] c.chosen refl chosen_framed)
        (all_mapped value_frame wanted_values (λ x on. plain_value x (value_fits (setting_of W v) J x (sender_lawful W a v J sent) (wanted_on x on))))))

    -- ---- after them

    -- what the asker has after all frames
    pub record IsFrontTaken (C : List Record) : Type 0 where
      pub carried : AreCarried W a v (J ++ vouchers) m a.journal front_frames
      pub accepts : (u : Update) → IsIn u (accepted c.chosen) → IsIn u (accepted C)
      pub holds : (u : Update) (n : NamedValue) (x : List ℕ) → IsIn u (accepted c.chosen) → IsIn n (values_named u) → held_as J n ≡ Some x → IsIn x (flat_map value_by C)

    -- after the vouchers each sent update of another is vouched
    sent_is_vouched : (C : List Record) → ((w : Voucher) → IsIn w named_vouchers → (id : List ℕ) → IsIn id w.ids → IsIn id (vouched C)) → (u : Update) → IsIn u (accepted c.chosen) → (u.writer ≡ v.node → ⊥) → IsIn (id_of_update u) (vouched C)
    unfolding named_vouchers
    sent_is_vouched C each u on other =
        let id = id_is_sent v.node xs u (subst (λ (us : List Update). IsIn u us) (sym (cut_updates sign J h xs c)) on) other in
        let w = vouches (id_of_update u) id in
        let names : list_any (λ i. is_among i (sent_foreign v.node xs)) w.voucher.ids ≡ true = any_from (λ i. is_among i (sent_foreign v.node xs)) (id_of_update u) w.voucher.ids w.names (among_from (id_of_update u) (sent_foreign v.node xs) id) in
        each w.voucher (in_filter (λ (x : Voucher). list_any (λ i. is_among i (sent_foreign v.node xs)) x.ids) w.voucher (own_vouchers (J ++ vouchers)) w.on names) (id_of_update u) w.names

    -- where all candidates are chosen, the asker has all that the asked one had
    pub all_reached : (C : List Record) → c.left ≡ [] → ((u : Update) → IsIn u (accepted a.journal) → IsIn u (accepted C)) → ((u : Update) → IsIn u (accepted c.chosen) → IsIn u (accepted C)) → (u : Update) → IsIn u (accepted J) → IsIn u (accepted C)
    all_reached C none kept accepts u on =
        let whole : candidates_for J h ≡ c.chosen = c.cut ∙ ap (λ (rs : List Record). c.chosen ++ rs) none ∙ append-nil c.chosen in
        elim (cases_Bool (is_candidate_for J h u)) [
          | inl goes ↦ accepts u (subst (λ (rs : List Record). IsIn u (accepted rs)) whole (in_candidates J h u on goes))
          | inr stays ↦ kept u (spared_is_had W a v J sent h asks u on stays)
        ]

    -- where a wanted value is sent, all candidates are chosen
    none_left : (x : List ℕ) → IsIn x wanted_values → c.left ≡ []
    unfolding wanted_values
    none_left x on = elim c.all [
      | inl none ↦ absurd (subst (λ (ys : List Parcel). IsIn x (values_of ys)) none on)
      | inr none ↦ none
    ]

    pub take_front : RoomFor (setting_of W a) a.journal front_frames → IsFrontTaken (taking (setting_of W a) a.journal front_frames)
    unfolding front_frames chosen_frames
    take_front room =
        let here = setting_of W a in
        let one = map proof_frame proofs in
        let two = map (voucher_frame sign) named_vouchers in
        let three = flat_map frames_of (candidate_parcels sign J [] c.chosen) in
        let four = map value_frame wanted_values in
        let first = carry_each W a v (J ++ vouchers) m proof_frame (λ p. given_proof p) (λ C p. IsRecorded W a v (J ++ vouchers) m p) (λ C p. Unit {0}) (proof_sort W a v (J ++ vouchers) m) a.journal proofs (joined_first W a v (J ++ vouchers) m)
        (λ p on. recorded W a v (J ++ vouchers) m p (proof_on p on)) (room_front here a.journal one (two ++ (three ++ four)) room) in
        let C1 = taking here a.journal one in
        let room1 = room_behind here a.journal one (two ++ (three ++ four)) room in
        let second = carry_each W a v (J ++ vouchers) m (voucher_frame sign) (λ w. given_statement (signed_with sign (statement.Voucher w))) (λ C w. IsVoucherOf W a v (J ++ vouchers) m (signed_with sign (statement.Voucher w)) w) (λ C w. (id : List ℕ) → IsIn id w.ids → IsIn id (vouched C))
        (voucher_sort W a v (J ++ vouchers) m sign) C1 named_vouchers first.carried.joined voucher_is (room_front here C1 two (three ++ four) room1) in
        let C2 = taking here C1 two in
        let room2 = room_behind here C1 two (three ++ four) room1 in
        let may : MayCome W a v h asks J vouchers sent m c.chosen c.left c.cut sign all signs C2 [] [] = record {
          joined = second.carried.joined;
          vouches = sent_is_vouched C2 second.each;
          accepts = λ u never. absurd never;
          has = λ x never. absurd never;
        } in
        let third = take_chosen W a v h asks J vouchers sent m c.chosen c.left c.cut sign all signs C2 [] [] c.chosen refl may chosen_framed (room_front here C2 three four room2) in
        let C3 = taking here C2 three in
        let fourth = carry_each W a v (J ++ vouchers) m value_frame (λ x. given_value x) (IsValueFor W a v (J ++ vouchers) m) (λ X x. IsIn x (flat_map value_by X)) (value_sort W a v (J ++ vouchers) m) C3 wanted_values third.carried.joined
        (λ x on. let mine = wanted_on x on in record {
          on = flat_left value_by x J vouchers mine;
          fits = value_fits (setting_of W v) J x (sender_lawful W a v J sent) mine;
          wanted = wanted_over (accepted J) (accepted C3) (sha256 x) _ (all_reached C3 (none_left x on) third.carried.joined.kept third.accepts) (value_is_wanted (setting_of W v) J x (sender_lawful W a v J sent) mine);
        }) (room_behind here C2 three four room2) in
        let C4 = taking here C3 four in
        let far : taking here a.journal (one ++ (two ++ (three ++ four))) ≡ C4 = taking_append here a.journal one (two ++ (three ++ four)) ∙ taking_append here C1 two (three ++ four) ∙ taking_append here C2 three four in
        record {
          carried = carry_append W a v (J ++ vouchers) m a.journal one (two ++ (three ++ four)) first.carried (carry_append W a v (J ++ vouchers) m C1 two (three ++ four) second.carried (carry_append W a v (J ++ vouchers) m C2 three four third.carried fourth.carried));
          accepts = λ u on. subst (λ (C : List Record). IsIn u (accepted C)) (sym far) (read_behind accepted_by u here C3 four (third.accepts u on));
          holds = λ u n x on named held. subst (λ (C : List Record). IsIn x (flat_map value_by C)) (sym far) (read_behind value_by x here C3 four (third.holds u n x on named held));
        }
