-- What the asker has after a round.
use Rattle.std.proofs.Common.{◌≡◌, ℕ, ◌+◌, ◌<◌, ◌≤◌, List, [], ◌∷◌, ◌++◌, map, length, Bool, true, false, ◌&&◌, ◌||◌, cond, eqb, leb, is_some, Option, Some, None, refl, sym, ap, subst, ◌∙◌, inl, inr, ◌⊎◌, arith, append_assoc, length-append}
use Rattle.std.specs.List.{flat_map}
use Rattle.std.proofs.lemmas.Bool.{and_parts, cases_Bool, leb-true}
use Rattle.std.proofs.lemmas.List.{append-nil, length-map}
use Rattle.std.proofs.lemmas.Grind.{flat_map-append}
use Rattle.depot_base.specs.declared.record.Record.{Record}
use Rattle.depot_base.specs.declared.update.Update.{Update}
use Rattle.depot_base.proofs.GeneralLaws.{filter_short}
use Rattle.depot_model.specs.declared.bundle.Ending.{Ending}
use Rattle.depot_model.specs.declared.bundle.Ending.TheVariants as ending
use Rattle.depot_model.specs.declared.bundle.Refusal.{Refusal}
use Rattle.depot_model.specs.declared.hello.Hello.{Hello}
use Rattle.depot_model.specs.checks.Checks.{Setting}
use Rattle.depot_model.specs.checks.Vouching.{own_vouchers, records_of}
use Rattle.depot_model.specs.exchange.Bundle.{Parcel, Signs, bundle_frames, bytes_of_bundle, end_frame, frames_of, parcels, proof_frame, proofs_for, sent_foreign, voucher_frame, vouchers_for}
use Rattle.depot_model.specs.exchange.Feeding.{Closing, Feeding, ending_by, ending_of, fed, fed_frame, feeding_from, passed, report_of}
use Rattle.depot_model.specs.journals.Journal.{accepted, accepted_by, held_as, proof_by, value_by}
use Rattle.depot_model.specs.lists.Lists.{IsIn}
use Rattle.depot_model.specs.texts.Contents.{NamedValue, values_named}
use Rattle.depot_model.specs.texts.Frames.{Frame, IsFrame, text_of_frame}
use Rattle.depot_model.specs.worlds.World.{setting_of}
use Rattle.depot_model.proofs.lists.Members.{in_left}
use Rattle.depot_model.proofs.of_journals.FeedLaws.{fed_in_pieces, frame_is_taken}
use Rattle.depot_laws.specs.Rejoin.{updates_of}
use Rattle.depot_laws.specs.Streams.{fed_pieces}
use Rattle.depot_laws.proofs.exchanges.Arrivals.{one_value}
use Rattle.depot_laws.proofs.exchanges.BundleSizes.{few_told}
use Rattle.depot_laws.proofs.exchanges.Carrying.{taking}
use Rattle.depot_laws.proofs.exchanges.Feeds.{GoesOnWith, IsFedTo, IsFullAt, frames_are_fed, frames_find_room, not_over, pieces_are_one}
use Rattle.depot_laws.proofs.exchanges.Joining.{HasJoined}
use Rattle.depot_laws.proofs.exchanges.Meetings.{Meeting, sender_lawful}
use Rattle.depot_laws.proofs.exchanges.Parcels.{candidates_for, ids_are_vouched, in_candidates, is_candidate_for, same_with, told_of_parcels}
use Rattle.depot_laws.proofs.exchanges.RejoinLaw.{report_refused}
use Rattle.depot_laws.proofs.lists.Groups.{HasVoucher}
use Rattle.depot_laws.proofs.own_updates.OwnTexts.{lawful_is_short}
use Rattle.depot_laws.proofs.records.HeldValues.{held_as_from, held_as_is}
use Rattle.depot_gossip.specs.AskingAgain.{HasTaken, IsRound, Round, bundle_in, round_fed, sent_in}
use Rattle.depot_gossip.specs.Bounding.{bounded_sent, bytes_of_parcels, fit_a_bundle, has_few_vouchers, longest_front, may_follow, parcels_of}
use Rattle.depot_gossip.specs.declared.bounds.Bounds.{Bounds}
use Rattle.depot_gossip.proofs.AskedCovers.{spared_is_had}
use Rattle.depot_gossip.proofs.BoundLaws.{IsTested, longest_tested, sends_front, tests_last, tests_none}
use Rattle.depot_gossip.proofs.FrontTaken.{front_frames, front_frames_are, front_is_plain, take_front}
use Rattle.depot_gossip.proofs.ParcelCuts.{IsCutParcels, cut_parcels, cut_updates}

-- ---- how many frames there are

few_by : (here : Setting) (J : List Record) (b : Bounds) (xs : List Parcel) → IsTested (may_follow here J b) [] xs → length (flat_map frames_of xs) ≤ 262144
unfolding may_follow
few_by here J b xs (tests_none none) = omega (arith, ap (λ (ys : List Parcel). length (flat_map frames_of ys)) none)
few_by here J b xs (tests_last ys y is e) =
    let all = ys ++ y ∷ [] in
    let p = and_parts (fit_a_bundle all && (eqb (bytes_of_parcels ys) 0 || leb (bytes_of_parcels all) b.bytes)) (has_few_vouchers here J b.vouchers all) e in
    let q = and_parts (fit_a_bundle all) (eqb (bytes_of_parcels ys) 0 || leb (bytes_of_parcels all) b.bytes) p.0 in
    let few = leb-true _ _ (and_parts (leb (bytes_of_parcels all) 67108864) (leb (length (flat_map frames_of all)) 262144) q.0).1 in
    omega (arith, few, ap (λ (zs : List Parcel). length (flat_map frames_of zs)) is)

-- what is sent has at most 262,144 frames
sent_is_few : (here : Setting) (sign : Signs) (J : List Record) (h : Hello) (b : Bounds) → length (flat_map frames_of (bounded_sent here sign J h b)) ≤ 262144
unfolding bounded_sent
sent_is_few here sign J h b = few_by here J b (longest_front (may_follow here J b) [] (parcels_of here.me sign J h b.own)) (longest_tested (may_follow here J b) [] (parcels_of here.me sign J h b.own))

-- the frames of a bundle before End
before_end : (me : ℕ) (sign : Signs) (K : List Record) (h : Hello) (xs : List Parcel) → List Frame
before_end me sign K h xs = map proof_frame (proofs_for K h) ++ (map (voucher_frame sign) (vouchers_for K (sent_foreign me xs)) ++ flat_map frames_of xs)

frames_split : (me : ℕ) (sign : Signs) (K : List Record) (h : Hello) (xs : List Parcel) (more : Bool) → bundle_frames me sign K h xs more ≡ before_end me sign K h xs ++ end_frame more ∷ []
unfolding bundle_frames before_end
frames_split me sign K h xs more =
    let a = map proof_frame (proofs_for K h) in
    let b = map (voucher_frame sign) (vouchers_for K (sent_foreign me xs)) in
    let c = flat_map frames_of xs in
    ap (λ (fs : List Frame). a ++ fs) (sym (append_assoc b c (end_frame more ∷ []))) ∙ sym (append_assoc a (b ++ c) (end_frame more ∷ []))

-- there are fewer of them than a stream may have
few_before_end : (me : ℕ) (sign : Signs) (K : List Record) (h : Hello) (xs : List Parcel) → length K ≤ 131072 → length (flat_map frames_of xs) ≤ 262144 → length (before_end me sign K h xs) ≤ 524287
unfolding before_end
few_before_end me sign K h xs short few =
    let proofs : length (proofs_for K h) ≤ length (flat_map proof_by K) = filter_short _ (flat_map proof_by K) in
    let vouchers : length (vouchers_for K (sent_foreign me xs)) ≤ length (own_vouchers K) = filter_short _ (own_vouchers K) in
    let a = map proof_frame (proofs_for K h) in
    let b = map (voucher_frame sign) (vouchers_for K (sent_foreign me xs)) in
    omega (arith, short, few, proofs, vouchers, few_told K, length-append a (b ++ flat_map frames_of xs), length-append b (flat_map frames_of xs), length-map (proofs_for K h) proof_frame, length-map (vouchers_for K (sent_foreign me xs)) (voucher_frame sign))

-- ---- End

end_is_frame : (more : Bool) → IsFrame (end_frame more)
end_is_frame true = record { least = omega arith; most = omega arith; short = omega arith; end = λ e. inr refl }
end_is_frame false = record { least = omega arith; most = omega arith; short = omega arith; end = λ e. inl refl }

-- what a feed is after a whole stream
record HasEnded (s : Feeding) (J : List Record) (refused : List Refusal) (more : Bool) : Type 0 where
  pub journal : s.journal ≡ J
  pub refused_are : s.refused ≡ refused
  pub open_still : s.closed ≡ None
  pub ended : s.ended ≡ Some more

end_fed : (here : Setting) (n : ℕ) (more : Bool) (s : Feeding) → fed_frame here n (end_frame more) s ≡ passed n (record s { ended = Some more })
unfolding fed_frame
end_fed here n true s = refl
end_fed here n false s = refl

end_is_fed : (here : Setting) (s : Feeding) (n : ℕ) (J : List Record) (refused : List Refusal) (more : Bool) → IsFedTo s n J refused → n < 524288 → HasEnded (fed here s (text_of_frame (end_frame more))) J refused more
end_is_fed here s n J refused more f few =
    let g = f.goes_on in
    let is : fed here s (text_of_frame (end_frame more)) ≡ passed (length (text_of_frame (end_frame more))) (record s { ended = Some more }) =
    frame_is_taken here s (end_frame more) (end_is_frame more) g.none_begun (ap is_some g.open_still) (not_over s n g few) ∙ end_fed here (length (text_of_frame (end_frame more))) more s in
    subst (λ (t : Feeding). HasEnded t J refused more) (sym is) (record { journal = f.journal; refused_are = f.refused_are; open_still = g.open_still; ended = refl })

still_open : (closed : Option Closing) (o : Ending) → closed ≡ None → cond (is_some closed) ending.Closed o ≡ o
still_open None o e = refl
still_open (Some why) o e = absurd cc

said_more : (more : Bool) (begun : List ℕ) → ending_by (Some more) begun ≡ cond more ending.More ending.Whole
said_more true begun = refl
said_more false begun = refl

ends_as_said : (s : Feeding) (J : List Record) (refused : List Refusal) (more : Bool) → HasEnded s J refused more → (report_of s).ending ≡ cond more ending.More ending.Whole
unfolding report_of ending_of
ends_as_said s J refused more d = still_open s.closed (ending_by s.ended s.begun) d.open_still ∙ ap (λ (o : Option Bool). ending_by o s.begun) d.ended ∙ said_more more s.begun

starts_from : (J : List Record) → GoesOnWith (feeding_from J) 0
starts_from J = record { open_still = refl; none_ended = refl; none_begun = refl; taken = refl }

-- ---- a round

module _ (r : Round) (is : IsRound r) where
  abbrev new_records : List Record
  new_records = records_of (bundle_in r).vouchers

  pub before_new : Meeting r.world r.asker r.asked r.records
  before_new = record { world = is.world; authentic = is.authentic; free = is.free; reader = is.reader; sender = is.sender; distinct = is.distinct; since = new_records ++ is.since; grown = is.bundle_was ∙ append_assoc r.records new_records is.since }

  with_new : Meeting r.world r.asker r.asked (r.records ++ new_records)
  with_new = record { world = is.world; authentic = is.authentic; free = is.free; reader = is.reader; sender = is.sender; distinct = is.distinct; since = is.since; grown = is.bundle_was }

  in_front : (left : List Parcel) × (parcels r.sign r.records r.hello ≡ sent_in r ++ left)
  in_front =
      let f = (sends_front (setting_of r.world r.asked) r.sign r.records r.hello r.bounds).front in
      (f.left, sym (ap (parcels_of r.asked.node r.sign r.records r.hello) is.all) ∙ f.is)

  cut : IsCutParcels r.sign r.records r.hello (sent_in r)
  cut = cut_parcels r.sign r.records r.hello (sent_in r) in_front.0 in_front.1

  vouches : (id : List ℕ) → IsIn id (sent_foreign r.asked.node (sent_in r)) → HasVoucher id (own_vouchers (r.records ++ new_records))
  vouches id on = ids_are_vouched r.asked.node r.records (sent_in r) id on

  -- the frames before End
  fronts : List Frame
  fronts = front_frames r.world r.asker r.asked r.hello is.hello r.records new_records before_new with_new r.sign (sent_in r) cut (bundle_in r).frames is.signs vouches

  fronts_are : before_end r.asked.node r.sign (r.records ++ new_records) r.hello (sent_in r) ≡ fronts
  unfolding before_end fronts
  fronts_are = front_frames_are r.world r.asker r.asked r.hello is.hello r.records new_records before_new with_new r.sign (sent_in r) cut (bundle_in r).frames is.signs vouches

  frames_in_order : (bundle_in r).frames ≡ fronts ++ end_frame (bundle_in r).more ∷ []
  frames_in_order = frames_split r.asked.node r.sign (r.records ++ new_records) r.hello (sent_in r) (bundle_in r).more ∙ ap (λ (fs : List Frame). fs ++ end_frame (bundle_in r).more ∷ []) fronts_are

  framed : (f : Frame) → IsIn f fronts → IsIn f (bundle_in r).frames
  framed f on = subst (λ (fs : List Frame). IsIn f fs) (sym frames_in_order) (in_left f fronts (end_frame (bundle_in r).more ∷ []) on)

  few_frames : length fronts ≤ 524287
  few_frames = omega (arith, ap length fronts_are, few_before_end r.asked.node r.sign (r.records ++ new_records) r.hello (sent_in r) (lawful_is_short (setting_of r.world r.asked) (r.records ++ new_records) (sender_lawful r.world r.asker r.asked (r.records ++ new_records) with_new)) (sent_is_few (setting_of r.world r.asked) r.sign r.records r.hello r.bounds))

  -- the bytes of the stream: those of the frames before, and of End
  stream_is : bytes_of_bundle (bundle_in r) ≡ flat_map text_of_frame fronts ++ text_of_frame (end_frame (bundle_in r).more)
  stream_is = ap (flat_map text_of_frame) frames_in_order ∙ flat_map-append text_of_frame fronts (end_frame (bundle_in r).more ∷ []) ∙ ap (λ (bytes : List ℕ). flat_map text_of_frame fronts ++ bytes) (append-nil (text_of_frame (end_frame (bundle_in r).more)))

  -- ---- the feed

  -- what the asker has in the end
  record HasAll (s : Feeding) : Type 0 where
    pub joined : HasJoined r.world r.asker r.asked (r.records ++ new_records) with_new s.journal
    pub refused_are : s.refused ≡ []
    pub ends : (report_of s).ending ≡ cond (bundle_in r).more ending.More ending.Whole
    pub accepts : (u : Update) → IsIn u (accepted cut.chosen) → IsIn u (accepted s.journal)
    pub holds : (u : Update) (n : NamedValue) (x : List ℕ) → IsIn u (accepted cut.chosen) → IsIn n (values_named u) → held_as r.records n ≡ Some x → IsIn x (flat_map value_by s.journal)

  stream_fed : (IsFullAt (fed (setting_of r.world r.asker) (feeding_from r.asker.journal) (flat_map text_of_frame fronts ++ text_of_frame (end_frame (bundle_in r).more))) → ⊥) → HasAll (fed (setting_of r.world r.asker) (feeding_from r.asker.journal) (flat_map text_of_frame fronts ++ text_of_frame (end_frame (bundle_in r).more)))
  unfolding fronts
  stream_fed never_full =
      let here = setting_of r.world r.asker in
      let s = feeding_from r.asker.journal in
      let end = text_of_frame (end_frame (bundle_in r).more) in
      let few : 0 + length fronts ≤ 524288 = omega (arith, few_frames) in
      let plain = front_is_plain r.world r.asker r.asked r.hello is.hello r.records new_records before_new with_new r.sign (sent_in r) cut (bundle_in r).frames is.signs vouches framed in
      let room = frames_find_room here s 0 fronts end (starts_from r.asker.journal) plain few never_full in
      let all = take_front r.world r.asker r.asked r.hello is.hello r.records new_records before_new with_new r.sign (sent_in r) cut (bundle_in r).frames is.signs vouches framed room in
      let t = frames_are_fed here s 0 fronts (starts_from r.asker.journal) plain few room all.carried.taken in
      let d = end_is_fed here (fed here s (flat_map text_of_frame fronts)) (0 + length fronts) (taking here r.asker.journal fronts) [] (bundle_in r).more t (omega (arith, few_frames)) in
      let e = fed here (fed here s (flat_map text_of_frame fronts)) end in
      subst HasAll (sym (fed_in_pieces here s (flat_map text_of_frame fronts) end)) (record {
        joined = subst (λ (C : List Record). HasJoined r.world r.asker r.asked (r.records ++ new_records) with_new C) (sym d.journal) all.carried.joined;
        refused_are = d.refused_are;
        ends = ends_as_said e (taking here r.asker.journal fronts) [] (bundle_in r).more d;
        accepts = λ u on. subst (λ (C : List Record). IsIn u (accepted C)) (sym d.journal) (all.accepts u on);
        holds = λ u n x on named held. subst (λ (C : List Record). IsIn x (flat_map value_by C)) (sym d.journal) (all.holds u n x on named held);
      })

  -- ---- what it comes to

  -- a value is found again, since no other has its hash
  found_again : (s : Feeding) (n : NamedValue) (x : List ℕ) → HasJoined r.world r.asker r.asked (r.records ++ new_records) with_new s.journal → held_as r.records n ≡ Some x → IsIn x (flat_map value_by s.journal) → held_as s.journal n ≡ Some x
  found_again s n x j held on =
      let was = held_as_is r.records n x held in
      held_as_from s.journal n x (record { on = on; hash = was.hash; size = was.size })
      (λ w w_on e. one_value r.world r.asker r.asked r.records before_new w x (j.hashed w w_on) was.on (e ∙ sym was.hash))

  in_either : (s : Feeding) (u : Update) → HasJoined r.world r.asker r.asked (r.records ++ new_records) with_new s.journal → IsIn u (accepted s.journal) → IsIn u (accepted r.asker.journal) ⊎ IsIn u (accepted r.records)
  in_either s u j on = elim (j.from u on) [
    | inl mine ↦ inl mine
    | inr theirs ↦ inr (subst (λ (us : List Update). IsIn u us) (same_with accepted_by r.records (bundle_in r).vouchers (λ w. refl)) theirs)
  ]

  sent_updates : updates_of (sent_in r) ≡ accepted cut.chosen
  sent_updates = cut_updates r.sign r.records r.hello (sent_in r) cut

  -- a bundle that leaves nothing out sends all candidates
  all_sent : (bundle_in r).more ≡ false → accepted (candidates_for r.records r.hello) ≡ accepted cut.chosen
  all_sent none =
      let whole : sent_in r ≡ parcels r.sign r.records r.hello = (sends_front (setting_of r.world r.asked) r.sign r.records r.hello r.bounds).all none ∙ ap (parcels_of r.asked.node r.sign r.records r.hello) is.all in
      sym (told_of_parcels r.sign r.records r.hello) ∙ ap updates_of (sym whole) ∙ sent_updates

  reached : (s : Feeding) → HasAll s → (bundle_in r).more ≡ false → (u : Update) → IsIn u (accepted r.records) → IsIn u (accepted s.journal)
  reached s has none u on = elim (cases_Bool (is_candidate_for r.records r.hello u)) [
    | inl goes ↦ has.accepts u (subst (λ (us : List Update). IsIn u us) (all_sent none) (in_candidates r.records r.hello u on goes))
    | inr stays ↦ has.joined.kept u (spared_is_had r.world r.asker r.asked r.records before_new r.hello is.hello u on stays)
  ]

  pub taken_round : HasTaken r
  taken_round =
      let here = setting_of r.world r.asker in
      let s = feeding_from r.asker.journal in
      let stream = flat_map text_of_frame fronts ++ text_of_frame (end_frame (bundle_in r).more) in
      let same : fed_pieces here s r.pieces ≡ fed here s stream = pieces_are_one here s r.pieces ∙ ap (fed here s) (is.comes ∙ stream_is) in
      let t = round_fed r in
      let has : HasAll t = subst HasAll (sym same) (stream_fed (λ full. is.has_room full.0 (ap (λ (t : Feeding). t.closed) same ∙ full.1))) in
      record {
        none_refused = report_refused t ∙ has.refused_are;
        ends = has.ends;
        kept = has.joined.kept;
        sent = λ u on. has.accepts u (subst (λ (us : List Update). IsIn u us) sent_updates on);
        values = λ u n x on named held. found_again t n x has.joined held (has.holds u n x (subst (λ (us : List Update). IsIn u us) sent_updates on) named held);
        only = λ u on. in_either t u has.joined on;
        whole = reached t has;
      }
