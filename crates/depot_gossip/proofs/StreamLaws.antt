-- The stream of a bundle, and what is answered once its vouchers are journaled.
use Rattle.std.proofs.Common.{◌≡◌, ◌↔◌, ℕ, List, [], ◌∷◌, ◌++◌, length, map, Bool, true, Option, Some, None, Result, Ok, Err, refl, sym, ap, subst, ◌∙◌, inl, inr}
use Rattle.std.specs.Prelude.{IsErrOf}
use Rattle.std.specs.List.{flat_map}
use Rattle.std.proofs.lemmas.Grind.{flat_map-append}
use Rattle.depot_base.specs.declared.record.Record.{Record}
use Rattle.depot_model.specs.declared.hello.Hello.{Hello}
use Rattle.depot_model.specs.declared.bundle.VoucherError.{VoucherError}
use Rattle.depot_model.specs.declared.bundle.VoucherError.TheVariants as refused
use Rattle.depot_model.specs.checks.Checks.{Setting}
use Rattle.depot_model.specs.texts.Frames.{Frame, text_of_frame}
use Rattle.depot_model.specs.journals.Lawful.{IsLawful}
use Rattle.depot_laws.proofs.exchanges.Parcels.{sent_in_front}
use Rattle.depot_model.specs.checks.Limits.{Limit}
use Rattle.depot_model.proofs.of_journals.JournalCallLaws.{never_stopped}
use Rattle.depot_model.specs.checks.Vouching.{Vouches, new_vouchers, limit_of_vouchers}
use Rattle.depot_model.specs.exchange.Bundle.{Signs, Parcel, frames_of, proof_frame, end_frame, proofs_for, vouchers_for, sent_foreign, sent_for, unvouched, with_vouchers, Bundle, BundleAnswer, bundled_within, bundle_of, bundle_frames, bundle_answer, voucher_frame}
use Rattle.depot_base.proofs.GeneralLaws.{flat_push}
use Rattle.depot_streams.specs.declared.sending.Sending.{Sending}
use Rattle.depot_gossip.specs.declared.bundle_stream.Bundled.{Bundled}
use Rattle.depot_gossip.specs.declared.preparing.Prepared.{Prepared}
use Rattle.depot_gossip.specs.declared.bundle_error.BundleError.{BundleError}
use Rattle.depot_gossip.specs.declared.bundle_error.BundleError.TheVariants as error
use Rattle.depot_gossip.specs.Errors.{from_vouching}
use Rattle.depot_streams.specs.Sendings.{Holds}
use Rattle.depot_gossip.specs.BundleStreams.{IsStream}
use Rattle.depot_gossip.specs.Preparing.{IsPrepared, IsReady, Prepares, answer_with, bundle_with}
use Rattle.depot_gossip.specs.Bundling.{Bundles, BundlesBy}
use Rattle.depot_gossip.proofs.ApartLaws.{foreign_one, unvouched_apart}

-- ---- the stream

text_parts : (A B C : List Frame) (e : Frame) → flat_map text_of_frame (A ++ (B ++ (C ++ e ∷ []))) ≡ flat_map text_of_frame A ++ (flat_map text_of_frame B ++ (flat_map text_of_frame C ++ text_of_frame e))
text_parts A B C e =
    flat_map-append text_of_frame A (B ++ (C ++ e ∷ []))
    ∙ ap (λ (t : List ℕ). flat_map text_of_frame A ++ t) (flat_map-append text_of_frame B (C ++ e ∷ []) ∙ ap (λ (t : List ℕ). flat_map text_of_frame B ++ t) (flat_push text_of_frame C e))

-- the stream of what is sent is that of the bundle
bytes_are : (me : ℕ) (sign : Signs) (K : List Record) (h : Hello) (xs : List Parcel) (s : Sending) (b : Bundled) (more : Bool) → Holds me xs s → s.more ≡ more → IsStream sign K h s b → b.bytes ≡ flat_map text_of_frame (bundle_frames me sign K h xs more)
unfolding bundle_frames
bytes_are me sign K h xs s b more holds is stream =
    let ids = holds.ids in
    let P = flat_map text_of_frame (map proof_frame (proofs_for K h)) in
    stream.bytes
    ∙ ap (λ (hs : List (List ℕ)). P ++ (flat_map text_of_frame (map (voucher_frame sign) (vouchers_for K hs)) ++ (s.frames ++ text_of_frame (end_frame s.more)))) ids
    ∙ ap (λ (t : List ℕ). P ++ (flat_map text_of_frame (map (voucher_frame sign) (vouchers_for K (sent_foreign me xs))) ++ (t ++ text_of_frame (end_frame s.more)))) holds.frames
    ∙ ap (λ (m : Bool). P ++ (flat_map text_of_frame (map (voucher_frame sign) (vouchers_for K (sent_foreign me xs))) ++ (flat_map text_of_frame (flat_map frames_of xs) ++ text_of_frame (end_frame m)))) is
    ∙ sym (text_parts (map proof_frame (proofs_for K h)) (map (voucher_frame sign) (vouchers_for K (sent_foreign me xs))) (flat_map frames_of xs) (end_frame more))

module _ (here : Setting) (sign : Signs) (J : List Record) (stopped : Bool) (text : List ℕ) where
  -- ---- before any voucher is made

  -- what isn't prepared isn't bundled, and the journal is unchanged
  pub not_bundled : (e : BundleError) → Prepares here sign J stopped text (Err e) → Bundles here sign J stopped text (Err e) J
  not_bundled error.Memory p = inl refl
  not_bundled error.Disk p = absurd p
  not_bundled error.Stopped p = (p, refl)
  not_bundled (error.IllFormed at) p = (p.1, refl)
  not_bundled (error.OtherRoster given mine) p = (p.1.0, (p.1.1, refl))
  not_bundled (error.Spent n) p = absurd p
  not_bundled (error.Full what) p = absurd p

  -- it says that the node was stopped exactly where it was
  pub not_prepared_answers : (e : BundleError) → Prepares here sign J stopped text (Err e) → IsErrOf {T = Bundled} (Err e) error.Stopped ↔ (stopped ≡ true)
  not_prepared_answers error.Stopped p = (λ _. p, λ _. refl)
  not_prepared_answers error.Memory p = never_stopped stopped p (λ e. cc)
  not_prepared_answers error.Disk p = absurd p
  not_prepared_answers (error.IllFormed at) p = never_stopped stopped p.0 (λ e. cc)
  not_prepared_answers (error.OtherRoster given mine) p = never_stopped stopped p.0 (λ e. cc)
  not_prepared_answers (error.Spent n) p = absurd p
  not_prepared_answers (error.Full what) p = absurd p

  -- nor was it the disk that failed
  pub no_disk : (e : BundleError) → Prepares here sign J stopped text (Err e) → IsErrOf {T = Bundled} (Err e) error.Disk → ⊥
  no_disk error.Disk p is = p
  no_disk error.Memory p is = cc
  no_disk error.Stopped p is = cc
  no_disk (error.IllFormed at) p is = cc
  no_disk (error.OtherRoster given mine) p is = cc
  no_disk (error.Spent n) p is = p
  no_disk (error.Full what) p is = p

-- what is prepared for a hello is ready
pub prepared_is_ready : (here : Setting) (sign : Signs) (J : List Record) (stopped : Bool) (text : List ℕ) (p : Prepared) → IsLawful here J → IsPrepared here sign J stopped text p → IsReady here sign J (bundle_answer here sign J text) (sent_for sign J p.hello) p
unfolding bundle_of
prepared_is_ready here sign J stopped text p l is =
    let xs = sent_for sign J p.hello in
    record {
      is = is.heard ∙ ap (answer_with here sign J p.hello xs) (sym is.more);
      holds = is.holds;
      ids = is.ids;
      apart = unvouched_apart here sign J p.hello xs (sent_in_front sign J p.hello) l;
      foreign = foreign_one here sign J p.hello xs (sent_in_front sign J p.hello);
    }

-- ---- once the vouchers are made

module _ (here : Setting) (sign : Signs) (J : List Record) (stopped : Bool) (answer : BundleAnswer) (xs : List Parcel) (p : Prepared) (is : IsReady here sign J answer xs p) where
  -- the vouchers for the ids of what was prepared
  vouched_for : (r : Result (Unit {0}) VoucherError) (then : List Record) → Vouches here J p.unvouched r then → Vouches here J (unvouched here.me J xs) r then
  vouched_for r then v = subst (λ (ids : List (List ℕ)). Vouches here J ids r then) is.ids v

  abbrev ready : Bundle
  ready = bundle_with here.me sign J p.hello xs p.sending.more

  within : (o : Option Limit) → limit_of_vouchers here J (unvouched here.me J xs) ≡ o → answer ≡ bundled_within o ready
  within o e = is.is ∙ ap (λ (l : Option Limit). bundled_within l ready) e

  -- they aren't made
  pub not_vouched : (e : VoucherError) (then : List Record) → (e ≡ refused.Stopped → stopped ≡ true) → Vouches here J p.unvouched (Err e) then → BundlesBy here J stopped answer (Err (from_vouching e)) then
  not_vouched refused.Memory then stops v = inl v
  not_vouched refused.Stopped then stops v = (stops refl, v)
  not_vouched refused.Disk then stops v =
      let w = vouched_for (Err refused.Disk) then v in
      record { bundle = ready; is = within None w.0; cut = w.1 }
  not_vouched (refused.Spent n) then stops v = let w = vouched_for (Err (refused.Spent n)) then v in (within (Some _) w.0, w.1)
  not_vouched (refused.Full what) then stops v = let w = vouched_for (Err (refused.Full what)) then v in (within (Some _) w.0, w.1)

  -- they are made, and memory is wanting for the stream
  pub only_vouched : (then : List Record) → Vouches here J p.unvouched (Ok tt) then → BundlesBy here J stopped answer (Err error.Memory) then
  only_vouched then v =
      let w = vouched_for (Ok tt) then v in
      inr (record { bundle = ready; is = within None w.0; grown = w.1 })

  -- the bundle is made
  pub all_bundled : (b : Bundled) (then : List Record) → Vouches here J p.unvouched (Ok tt) then → IsStream sign then p.hello p.sending b → BundlesBy here J stopped answer (Ok b) then
  all_bundled b then v stream =
      let w = vouched_for (Ok tt) then v in
      let K = with_vouchers J (new_vouchers here.me J (unvouched here.me J xs)) in
      let st : IsStream sign K p.hello p.sending b = subst (λ (T : List Record). IsStream sign T p.hello p.sending b) w.1 stream in
      record {
        bundle = ready;
        is = within None w.0;
        bytes = bytes_are here.me sign K p.hello xs p.sending b p.sending.more is.holds refl st;
        counts = λ i. record {
          proofs = st.proofs i;
          vouchers = (st.vouchers ∙ ap (λ (hs : List (List ℕ)). length (vouchers_for K hs)) is.holds.ids) i;
          updates = (st.updates ∙ is.holds.updates) i;
          values = (st.values ∙ is.holds.values) i;
        };
        more = st.more;
        grown = w.1;
      }

-- ---- faults

-- a fault of the vouchers is reported as it is
pub same_fault : (e : VoucherError) → (IsErrOf {T = Unit {0}} (Err e) refused.Stopped ↔ IsErrOf {T = Bundled} (Err (from_vouching e)) error.Stopped) × (IsErrOf {T = Unit {0}} (Err e) refused.Disk ↔ IsErrOf {T = Bundled} (Err (from_vouching e)) error.Disk)
same_fault refused.Memory = ((λ e. absurd cc, λ e. absurd cc), (λ e. absurd cc, λ e. absurd cc))
same_fault refused.Disk = ((λ e. absurd cc, λ e. absurd cc), (λ e. refl, λ e. refl))
same_fault refused.Stopped = ((λ e. refl, λ e. refl), (λ e. absurd cc, λ e. absurd cc))
same_fault (refused.Full what) = ((λ e. absurd cc, λ e. absurd cc), (λ e. absurd cc, λ e. absurd cc))
same_fault (refused.Spent n) = ((λ e. absurd cc, λ e. absurd cc), (λ e. absurd cc, λ e. absurd cc))
