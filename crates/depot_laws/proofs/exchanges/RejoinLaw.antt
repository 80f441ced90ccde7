-- The law of histories that rejoin.
use Rattle.std.proofs.Common.{◌≡◌, ℕ, ◌+◌, ◌<◌, ◌≤◌, List, [], ◌∷◌, ◌++◌, map, length, Bool, false, cond, is_some, Option, Some, None, refl, sym, ap, subst, ◌∙◌, inl, inr, ◌⊎◌, arith, append_assoc, length-append}
use Rattle.std.specs.List.{flat_map}
use Rattle.std.proofs.lemmas.List.{append-nil}
use Rattle.std.proofs.lemmas.Grind.{flat_map-append}
use Rattle.depot_base.specs.declared.update.Update.{Update}
use Rattle.depot_base.specs.declared.voucher.Voucher.{Voucher}
use Rattle.depot_base.specs.declared.record.Record.{Record}
use Rattle.depot_base.specs.declared.check.Full.{Full}
use Rattle.depot_model.specs.declared.hello.Hello.{Hello}
use Rattle.depot_model.specs.declared.bundle.Refusal.{Refusal}
use Rattle.depot_model.specs.declared.bundle.Ending.{Ending}
use Rattle.depot_model.specs.declared.bundle.Ending.TheVariants as ending
use Rattle.depot_model.specs.lists.Lists.{IsIn}
use Rattle.depot_model.specs.journals.Journal.{accepted, accepted_by, value_by, held_as}
use Rattle.depot_model.specs.checks.Checks.{Setting}
use Rattle.depot_model.specs.texts.Contents.{NamedValue, values_named}
use Rattle.depot_model.specs.checks.Vouching.{own_vouchers, new_vouchers, records_of}
use Rattle.depot_model.specs.texts.Frames.{Frame, text_of_frame, IsFrame}
use Rattle.depot_model.specs.exchange.Bundle.{Signs, Parcel, parcels, sent_for, proof_frame, frames_of, sent_foreign, unvouched, proofs_for, vouchers_for, end_frame, bundle_frames, with_vouchers, bundle_of, bytes_of_bundle, voucher_frame}
use Rattle.depot_model.specs.exchange.Feeding.{Closing, out_of_room, Feeding, feeding_from, passed, fed, fed_frame, ending_of, ending_by, report_of}
use Rattle.depot_model.specs.worlds.World.{Correct, World, setting_of, IsWorld, IsAuthentic, IsCollisionFree}
use Rattle.depot_model.proofs.lists.Members.{in_left}
use Rattle.depot_model.proofs.of_journals.FeedLaws.{fed_in_pieces, frame_is_taken}
use Rattle.depot_laws.specs.Streams.{fed_pieces}
use Rattle.depot_laws.specs.Rejoin.{updates_of, hello_at, bundle_at, Meet, HasRejoined}
use Rattle.depot_laws.proofs.convicting.ContraryConvict.{contrary_convict}
use Rattle.depot_laws.proofs.records.HeldValues.{held_as_is, held_as_from}
use Rattle.depot_laws.proofs.lists.Groups.{HasVoucher}
use Rattle.depot_laws.proofs.exchanges.Parcels.{sent_is_all, told_of_parcels, same_with, ids_are_vouched}
use Rattle.depot_laws.proofs.exchanges.Meetings.{Meeting, sender_lawful}
use Rattle.depot_laws.proofs.exchanges.Joining.{HasJoined}
use Rattle.depot_laws.proofs.exchanges.Arrivals.{one_value}
use Rattle.depot_laws.proofs.exchanges.Carrying.{taking}
use Rattle.depot_laws.proofs.exchanges.Feeds.{pieces_are_one, GoesOnWith, not_over, IsFullAt, IsFedTo, frames_find_room, frames_are_fed}
use Rattle.depot_laws.proofs.exchanges.BundleSizes.{bundle_is_short}
use Rattle.depot_laws.proofs.exchanges.WholeBundles.{frames, frames_are, frames_are_plain, take_all}

-- ---- the parts of a bundle

bundle_vouchers : (me : ℕ) (sign : Signs) (J : List Record) (h : Hello) → (bundle_of me sign J h).vouchers ≡ new_vouchers me J (unvouched me J (sent_for sign J h))
unfolding bundle_of
bundle_vouchers me sign J h = refl

-- without more, a bundle's frames are these and End
shape_of : (me : ℕ) (sign : Signs) (K : List Record) (h : Hello) (xs : List Parcel) → List Frame
shape_of me sign K h xs = map proof_frame (proofs_for K h) ++ (map (voucher_frame sign) (vouchers_for K (sent_foreign me xs)) ++ flat_map frames_of xs)

regroup : (a b c d : List Frame) → a ++ (b ++ (c ++ d)) ≡ (a ++ (b ++ c)) ++ d
regroup a b c d = ap (λ (fs : List Frame). a ++ fs) (sym (append_assoc b c d)) ∙ sym (append_assoc a (b ++ c) d)

bundle_told : (me : ℕ) (sign : Signs) (J : List Record) (h : Hello) → (bundle_of me sign J h).frames ≡ bundle_frames me sign (with_vouchers J (bundle_of me sign J h).vouchers) h (sent_for sign J h) (bundle_of me sign J h).more
unfolding bundle_of
bundle_told me sign J h = refl

bundle_is : (me : ℕ) (sign : Signs) (J : List Record) (h : Hello) → (bundle_of me sign J h).more ≡ false → (bundle_of me sign J h).frames ≡ shape_of me sign (with_vouchers J (bundle_of me sign J h).vouchers) h (parcels sign J h) ++ end_frame false ∷ []
unfolding shape_of bundle_frames
bundle_is me sign J h e =
    let K = with_vouchers J (bundle_of me sign J h).vouchers in
    let xs = sent_for sign J h in
    let a = map proof_frame (proofs_for K h) in
    let b : List Parcel → List Frame = λ ys. map (voucher_frame sign) (vouchers_for K (sent_foreign me ys)) in
    bundle_told me sign J h ∙ regroup a (b xs) (flat_map frames_of xs) (end_frame (bundle_of me sign J h).more ∷ [])
    ∙ ap (λ (ys : List Parcel). (a ++ (b ys ++ flat_map frames_of ys)) ++ end_frame (bundle_of me sign J h).more ∷ []) (sent_is_all me sign J h e)
    ∙ ap (λ (more : Bool). (a ++ (b (parcels sign J h) ++ flat_map frames_of (parcels sign J h))) ++ end_frame more ∷ []) e

-- ---- End

end_is_frame : IsFrame (end_frame false)
end_is_frame = record { least = omega arith; most = omega arith; short = omega arith; end = λ e. inl refl }

-- what a feed is after a whole stream
record IsDone (s : Feeding) (J : List Record) (refused : List Refusal) : Type 0 where
  pub journal : s.journal ≡ J
  pub refused_are : s.refused ≡ refused
  pub open_still : s.closed ≡ None
  pub ended : s.ended ≡ Some false
  pub none_begun : s.begun ≡ []

end_fed : (here : Setting) (n : ℕ) (s : Feeding) → fed_frame here n (end_frame false) s ≡ passed n (record s { ended = Some false })
unfolding fed_frame
end_fed here n s = refl

end_is_taken : (here : Setting) (s : Feeding) (n : ℕ) (J : List Record) (refused : List Refusal) → IsFedTo s n J refused → n < 524288 → IsDone (fed here s (text_of_frame (end_frame false))) J refused
end_is_taken here s n J refused f few =
    let g = f.goes_on in
    let is : fed here s (text_of_frame (end_frame false)) ≡ passed (length (text_of_frame (end_frame false))) (record s { ended = Some false }) =
    frame_is_taken here s (end_frame false) end_is_frame g.none_begun (ap is_some g.open_still) (not_over s n g few) ∙ end_fed here (length (text_of_frame (end_frame false))) s in
    subst (λ (t : Feeding). IsDone t J refused) (sym is) (record { journal = f.journal; refused_are = f.refused_are; open_still = g.open_still; ended = refl; none_begun = refl })

chosen_open : (closed : Option Closing) (o : Ending) → closed ≡ None → cond (is_some closed) ending.Closed o ≡ o
chosen_open None o e = refl
chosen_open (Some why) o e = absurd cc

done_ends : (s : Feeding) (J : List Record) (refused : List Refusal) → IsDone s J refused → (report_of s).ending ≡ ending.Whole
unfolding report_of ending_of
done_ends s J refused d = chosen_open s.closed (ending_by s.ended s.begun) d.open_still ∙ ap (λ (o : Option Bool). ending_by o s.begun) d.ended

pub report_refused : (s : Feeding) → (report_of s).refused ≡ s.refused
unfolding report_of
report_refused s = refl

goes_on_from : (J : List Record) → GoesOnWith (feeding_from J) 0
goes_on_from J = record { open_still = refl; none_ended = refl; none_begun = refl; taken = refl }

-- ---- the law

module _ (W : World) (world : IsWorld W) (authentic : IsAuthentic W) (free : IsCollisionFree W) (a v : Correct) (sign : Signs) (P J : List Record) (meet : Meet W a v sign P J) (whole : (bundle_at W a v sign P J).more ≡ false) where
  abbrev new_records : List Record
  new_records = records_of (bundle_at W a v sign P J).vouchers

  abbrev hello : Hello
  hello = hello_at W a P

  with_new : Meeting W a v (J ++ new_records)
  with_new = record { world = world; authentic = authentic; free = free; reader = meet.reader; sender = meet.sender; distinct = meet.distinct; since = meet.since; grown = meet.bundle_was }

  before_new : Meeting W a v J
  before_new = record { world = world; authentic = authentic; free = free; reader = meet.reader; sender = meet.sender; distinct = meet.distinct; since = new_records ++ meet.since; grown = meet.bundle_was ∙ append_assoc J new_records meet.since }

  vouches : (h : List ℕ) → IsIn h (sent_foreign v.node (parcels sign J hello)) → HasVoucher h (own_vouchers (J ++ new_records))
  vouches h on =
      let all = sent_is_all v.node sign J hello whole in
      let named = ids_are_vouched v.node J (sent_for sign J hello) h (subst (λ (xs : List Parcel). IsIn h (sent_foreign v.node xs)) (sym all) on) in
      subst (λ (vs : List Voucher). HasVoucher h (own_vouchers (with_vouchers J vs))) (sym (bundle_vouchers v.node sign J hello)) named

  -- the frames before End
  fronts : List Frame
  fronts = frames W a v P meet.later meet.hello_was J new_records before_new with_new sign (bundle_at W a v sign P J).frames meet.signs vouches

  shape_is : shape_of v.node sign (J ++ new_records) hello (parcels sign J hello) ≡ fronts
  unfolding shape_of fronts
  shape_is = frames_are W a v P meet.later meet.hello_was J new_records before_new with_new sign (bundle_at W a v sign P J).frames meet.signs vouches

  frames_in_order : (bundle_at W a v sign P J).frames ≡ fronts ++ end_frame false ∷ []
  frames_in_order = bundle_is v.node sign J hello whole ∙ ap (λ (fs : List Frame). fs ++ end_frame false ∷ []) shape_is

  framed : (f : Frame) → IsIn f fronts → IsIn f (bundle_at W a v sign P J).frames
  framed f on = subst (λ (fs : List Frame). IsIn f fs) (sym frames_in_order) (in_left f fronts (end_frame false ∷ []) on)

  few_frames : length fronts ≤ 524287
  few_frames = omega (arith, bundle_is_short (setting_of W v) sign J hello (sender_lawful W a v J before_new), ap length frames_in_order, length-append fronts (end_frame false ∷ []))

  -- ---- the feed

  -- the bytes of the stream: those of the frames before, and of End
  stream_is : bytes_of_bundle (bundle_at W a v sign P J) ≡ flat_map text_of_frame fronts ++ text_of_frame (end_frame false)
  stream_is = ap (flat_map text_of_frame) frames_in_order ∙ flat_map-append text_of_frame fronts (end_frame false ∷ []) ∙ ap (λ (bytes : List ℕ). flat_map text_of_frame fronts ++ bytes) (append-nil (text_of_frame (end_frame false)))

  -- what the reader has in the end
  record IsRejoined (s : Feeding) : Type 0 where
    pub joined : HasJoined W a v (J ++ new_records) with_new s.journal
    pub refused_are : s.refused ≡ []
    pub ends : (report_of s).ending ≡ ending.Whole
    pub reach : (u : Update) → IsIn u (accepted J) → IsIn u (accepted s.journal)
    pub holds : (u : Update) (n : NamedValue) (x : List ℕ) → IsIn u (updates_of (sent_for sign J hello)) → IsIn n (values_named u) → held_as J n ≡ Some x → IsIn x (flat_map value_by s.journal)

  feed_rejoins : (IsFullAt (fed (setting_of W a) (feeding_from a.journal) (flat_map text_of_frame fronts ++ text_of_frame (end_frame false))) → ⊥) → IsRejoined (fed (setting_of W a) (feeding_from a.journal) (flat_map text_of_frame fronts ++ text_of_frame (end_frame false)))
  unfolding fronts
  feed_rejoins never_full =
      let here = setting_of W a in
      let s = feeding_from a.journal in
      let few : 0 + length fronts ≤ 524288 = omega (arith, few_frames) in
      let plain = frames_are_plain W a v P meet.later meet.hello_was J new_records before_new with_new sign (bundle_at W a v sign P J).frames meet.signs vouches framed in
      let room = frames_find_room here s 0 fronts (text_of_frame (end_frame false)) (goes_on_from a.journal) plain few never_full in
      let all = take_all W a v P meet.later meet.hello_was J new_records before_new with_new sign (bundle_at W a v sign P J).frames meet.signs vouches framed room in
      let t = frames_are_fed here s 0 fronts (goes_on_from a.journal) plain few room all.carried.taken in
      let d = end_is_taken here (fed here s (flat_map text_of_frame fronts)) (0 + length fronts) (taking here a.journal fronts) [] t (omega (arith, few_frames)) in
      let e = fed here (fed here s (flat_map text_of_frame fronts)) (text_of_frame (end_frame false)) in
      let sent = sent_is_all v.node sign J hello whole in
      subst IsRejoined (sym (fed_in_pieces here s (flat_map text_of_frame fronts) (text_of_frame (end_frame false)))) (record {
        joined = subst (λ (C : List Record). HasJoined W a v (J ++ new_records) with_new C) (sym d.journal) all.carried.joined;
        refused_are = d.refused_are;
        ends = done_ends e (taking here a.journal fronts) [] d;
        reach = λ u on. subst (λ (C : List Record). IsIn u (accepted C)) (sym d.journal) (all.reach u on);
        holds = λ u n x on named held. subst (λ (C : List Record). IsIn x (flat_map value_by C)) (sym d.journal) (all.holds u n x (subst (λ (us : List Update). IsIn u us) (ap updates_of sent ∙ told_of_parcels sign J hello) on) named held);
      })

  -- a value is found again, since no other has its hash
  found_again : (s : Feeding) (n : NamedValue) (x : List ℕ) → HasJoined W a v (J ++ new_records) with_new s.journal → held_as J n ≡ Some x → IsIn x (flat_map value_by s.journal) → held_as s.journal n ≡ Some x
  found_again s n x j held on =
      let is = held_as_is J n x held in
      held_as_from s.journal n x (record { on = on; hash = is.hash; size = is.size })
      (λ w w_on e. one_value W a v J before_new w x (j.hashed w w_on) is.on (e ∙ sym is.hash))

  in_either : (s : Feeding) (u : Update) → HasJoined W a v (J ++ new_records) with_new s.journal → IsIn u (accepted s.journal) → IsIn u (accepted a.journal) ⊎ IsIn u (accepted J)
  in_either s u j on = elim (j.from u on) [
    | inl mine ↦ inl mine
    | inr theirs ↦ inr (subst (λ (us : List Update). IsIn u us) (same_with accepted_by J (bundle_at W a v sign P J).vouchers (λ w. refl)) theirs)
  ]

  has_rejoined : (s : Feeding) → IsRejoined s → HasRejoined W a v sign P J s
  has_rejoined s r = record {
    union = λ u. (in_either s u r.joined, λ on. elim on [ inl mine ↦ r.joined.kept u mine | inr theirs ↦ r.reach u theirs ]);
    none_refused = report_refused s ∙ r.refused_are;
    whole = r.ends;
    values = λ u n x on named held. found_again s n x r.joined held (r.holds u n x on named held);
    exposed = contrary_convict (setting_of W a) s.journal r.joined.lawful;
  }

  -- the reader takes the stream in any pieces
  pub rejoins : (pieces : List (List ℕ)) → flat_map (λ p. p) pieces ≡ bytes_of_bundle (bundle_at W a v sign P J) → ((what : Full) → (fed_pieces (setting_of W a) (feeding_from a.journal) pieces).closed ≡ Some (out_of_room what) → ⊥) → HasRejoined W a v sign P J (fed_pieces (setting_of W a) (feeding_from a.journal) pieces)
  rejoins pieces is never_full =
      let here = setting_of W a in
      let s = feeding_from a.journal in
      let same : fed_pieces here s pieces ≡ fed here s (flat_map text_of_frame fronts ++ text_of_frame (end_frame false)) = pieces_are_one here s pieces ∙ ap (fed here s) (is ∙ stream_is) in
      subst (λ (t : Feeding). HasRejoined W a v sign P J t) (sym same) (has_rejoined (fed here s (flat_map text_of_frame fronts ++ text_of_frame (end_frame false)))
      (feed_rejoins (λ full. never_full full.0 (ap (λ (t : Feeding). t.closed) same ∙ full.1))))
