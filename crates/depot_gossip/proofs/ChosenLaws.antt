-- Candidates and wanted values, chosen one after the other.
use Rattle.std.proofs.Common.{◌≡◌, ℕ, suc, ◌+◌, List, [], ◌∷◌, ◌++◌, length, take, drop, sum_by, cond, Option, Some, None, refl, sym, ap, subst, ◌∙◌, arith, length-append, append_assoc}
use Rattle.std.specs.List.{flat_map}
use Rattle.std.proofs.lemmas.List.{append-nil, take-append-drop}
use Rattle.std.proofs.lemmas.Grind.{flat_map-append}
use Rattle.depot_base.specs.declared.record.Record.{Record}
use Rattle.depot_model.specs.journals.Journal.{held, value_with}
use Rattle.depot_model.specs.lists.Lists.{is_among}
use Rattle.depot_model.specs.exchange.Bundle.{Parcel, Signs, candidate_parcel, candidate_parcels, hashes_of, sent_foreign, unvouched, wanted_parcel}
use Rattle.depot_streams.specs.Sendings.{DoFit, Holds}
use Rattle.depot_streams.specs.declared.sending.Sending.{Sending}
use Rattle.depot_gossip.specs.Choosing.{AreAlike, IsCutAt, records_at}
use Rattle.depot_gossip.proofs.ChoiceLaws.{IsNext, parcels_front, place_parcels}
use Rattle.depot_gossip.specs.Choices.{IsChosenFrom, IsParcelWith, IsStoppedAt}
use Rattle.depot_gossip.specs.declared.choice.Choice.{Choice}
use Rattle.depot_gossip.specs.declared.choice.Space.{Space}
use Rattle.depot_gossip.proofs.BoundedChoices.{parcel_cut, stopped_on, unfit_is_over}

-- ---- one parcel that fits into no bundle

one_is : (x next : Parcel) (sent left : List Parcel) → x ∷ [] ≡ sent ++ next ∷ left → (sent ≡ []) × (next ≡ x)
one_is x next [] left is = (refl, cc)
one_is x next (y ∷ sent) left is = absurd (let long : 1 ≡ suc (length sent + suc (length left)) = ap length is ∙ ap suc (length-append sent (next ∷ left)) in omega (arith, long))

-- so it has no room after others
pub cut_alone : (me : ℕ) (J : List Record) (room : Space) (xs : List Parcel) (x : Parcel) (c : Choice) (s : Sending) → IsChosenFrom me J room xs c → IsCutAt me (x ∷ []) s → IsStoppedAt me J room (xs ++ x ∷ []) c
cut_alone me J room xs x c s k cut =
    let one = one_is x cut.next cut.sent cut.left cut.is in
    let unfit : DoFit (x ∷ []) → ⊥ = λ fit. cut.over (subst (λ (ys : List Parcel). DoFit (ys ++ cut.next ∷ [])) (sym one.0) (subst (λ (y : Parcel). DoFit (y ∷ [])) (sym one.1) fit)) in
    parcel_cut me J room xs x c k (unfit_is_over me J room xs x unfit)

-- ---- one candidate after another

-- where the candidate of a place has no room, the parcels of all places are cut
pub place_stopped : (me : ℕ) (sign : Signs) (J : List Record) (room : Space) (keys : List (List ℕ)) (places : List ℕ) (i : ℕ) (n : IsNext J places i) (c : Choice) → AreAlike keys (hashes_of (candidate_parcels sign J [] (records_at J (take i places))))
    → IsStoppedAt me J room (candidate_parcels sign J [] (records_at J (take i places)) ++ candidate_parcel sign J keys n.place.item ∷ []) c → IsStoppedAt me J room (candidate_parcels sign J [] (records_at J places)) c
place_stopped me sign J room keys places i n c alike k =
    let f = parcels_front sign J (records_at J (take (i + 1) places)) n.rest in
    let whole : candidate_parcels sign J [] (records_at J places) ≡ candidate_parcels sign J [] (records_at J (take (i + 1) places)) ++ f.0 = ap (candidate_parcels sign J []) n.all ∙ f.1 in
    let here : IsStoppedAt me J room (candidate_parcels sign J [] (records_at J (take (i + 1) places))) c = subst (λ (xs : List Parcel). IsStoppedAt me J room xs c) (sym (place_parcels sign J keys places i n alike)) k in
    subst (λ (xs : List Parcel). IsStoppedAt me J room xs c) (sym whole) (stopped_on me J room (candidate_parcels sign J [] (records_at J (take (i + 1) places))) f.0 c here)

-- ---- wanted values

-- the parcel of a value that is wanted: none, or one value
pub data IsWanted (w : List Parcel) : Type 0 where
  no_value : w ≡ [] → IsWanted w
  one_value : (v : List ℕ) → w ≡ record { told = []; values = v ∷ [] } ∷ [] → IsWanted w

pub wanted_is : (J : List Record) (keys : List (List ℕ)) (h : List ℕ) → IsWanted (wanted_parcel J keys h)
wanted_is J keys h = by_option (cond (is_among h keys) None (value_with h (held J))) where
  by_option : (o : Option (List ℕ)) → IsWanted (elim o as (λ p. List Parcel) [ None ↦ [] | Some v ↦ record { told = []; values = v ∷ [] } ∷ [] ])
  by_option None = no_value refl
  by_option (Some v) = one_value v refl

cut_none : (me : ℕ) (s : Sending) → IsCutAt me [] s → ⊥
cut_none me s cut = let long : 0 ≡ length cut.sent + suc (length cut.left) = ap length cut.is ∙ length-append cut.sent (cut.next ∷ cut.left) in omega (arith, long)

-- it fits into no bundle
pub wanted_alone : (me : ℕ) (J : List Record) (room : Space) (xs w : List Parcel) (c : Choice) (s : Sending) → IsWanted w → IsChosenFrom me J room xs c → IsCutAt me w s → IsStoppedAt me J room (xs ++ w) c
wanted_alone me J room xs w c s (no_value none) k cut = absurd (cut_none me s (subst (λ (ys : List Parcel). IsCutAt me ys s) none cut))
wanted_alone me J room xs w c s (one_value v one) k cut = subst (λ (ys : List Parcel). IsStoppedAt me J room (xs ++ ys) c) (sym one) (cut_alone me J room xs (record { told = []; values = v ∷ [] }) c s k (subst (λ (ys : List Parcel). IsCutAt me ys s) one cut))

-- it isn't held, or goes already
pub wanted_none : (me : ℕ) (J : List Record) (room : Space) (xs w : List Parcel) (c : Choice) (s : Sending) → IsWanted w → Holds me w s → s.values ≡ 0 → IsChosenFrom me J room xs c → IsChosenFrom me J room (xs ++ w) c
wanted_none me J room xs w c s (no_value none) holds zero k = subst (λ (ys : List Parcel). IsChosenFrom me J room ys c) (sym (ap (λ (ys : List Parcel). xs ++ ys) none ∙ append-nil xs)) k
wanted_none me J room xs w c s (one_value v one) holds zero k = absurd (let count : s.values ≡ 1 = holds.values ∙ ap (sum_by (λ (x : Parcel). length x.values)) one in omega (arith, count, zero))

-- it is a parcel, for which no voucher is made
pub data IsWantedParcel (me : ℕ) (J : List Record) (w : List Parcel) (s : Sending) (fresh : List (List ℕ)) : Type 0 where
  wanted_with : (x : Parcel) → w ≡ x ∷ [] → IsParcelWith me J x s fresh → IsWantedParcel me J w s fresh

pub wanted_one : (me : ℕ) (J : List Record) (w : List Parcel) (s : Sending) (fresh : List (List ℕ)) → IsWanted w → Holds me w s → (s.values ≡ 0 → ⊥) → fresh ≡ [] → IsWantedParcel me J w s fresh
unfolding unvouched sent_foreign
wanted_one me J w s fresh (no_value none) holds some empty = absurd (some (holds.values ∙ ap (sum_by (λ (x : Parcel). length x.values)) none))
wanted_one me J w s fresh (one_value v one) holds some empty = wanted_with (record { told = []; values = v ∷ [] }) one (record { holds = subst (λ (ys : List Parcel). Holds me ys s) one holds; ids = empty })

-- where the value of a hash has no room, the parcels of all hashes are cut
pub wanted_stopped : (me : ℕ) (J : List Record) (room : Space) (keys hs : List (List ℕ)) (i : ℕ) (xs : List Parcel) (c : Choice) → IsStoppedAt me J room (xs ++ flat_map (wanted_parcel J keys) (take (i + 1) hs)) c → IsStoppedAt me J room (xs ++ flat_map (wanted_parcel J keys) hs) c
wanted_stopped me J room keys hs i xs c k =
    let f = wanted_parcel J keys in
    let whole : xs ++ flat_map f hs ≡ (xs ++ flat_map f (take (i + 1) hs)) ++ flat_map f (drop (i + 1) hs) =
    ap (λ (ys : List Parcel). xs ++ ys) (ap (flat_map f) (sym (take-append-drop (i + 1) hs)) ∙ flat_map-append f (take (i + 1) hs) (drop (i + 1) hs)) ∙ sym (append_assoc xs (flat_map f (take (i + 1) hs)) (flat_map f (drop (i + 1) hs))) in
    subst (λ (ys : List Parcel). IsStoppedAt me J room ys c) (sym whole) (stopped_on me J room (xs ++ flat_map f (take (i + 1) hs)) (flat_map f (drop (i + 1) hs)) c k)
