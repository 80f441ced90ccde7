-- Parcel by parcel, what the bounds admit is chosen.
use Rattle.std.proofs.Common.{◌≡◌, ℕ, ◌+◌, List, [], ◌∷◌, ◌++◌, length, Bool, true, false, not, cond, ◌&&◌, ◌||◌, leb, eqb, refl, sym, ap, ◌∙◌, arith, length-append, append_assoc}
use Rattle.std.specs.List.{filter, flat_map}
use Rattle.std.proofs.lemmas.Bool.{and_parts, leb-true}
use Rattle.std.proofs.lemmas.List.{append-nil}
use Rattle.std.proofs.lemmas.List.Elements.{filter-append}
use Rattle.std.proofs.lemmas.List.Sums.{sum_by-append}
use Rattle.std.proofs.lemmas.Grind.{flat_map-append}
use Rattle.depot_base.specs.declared.record.Record.{Record}
use Rattle.depot_base.proofs.GeneralLaws.{flat_push}
use Rattle.depot_model.specs.texts.Frames.{text_of_frame}
use Rattle.depot_model.specs.exchange.Bundle.{Parcel, frames_of, sent_foreign, unvouched}
use Rattle.depot_model.specs.checks.Vouching.{is_mine_vouched}
use Rattle.depot_streams.specs.Sendings.{DoFit, Holds}
use Rattle.depot_streams.specs.declared.sending.Sending.{Sending}
use Rattle.depot_gossip.proofs.FitLaws.{bytes_push, count_push, counts_all, foreign_push, holds_short}
use Rattle.depot_gossip.specs.Bounding.{bytes_of_parcels, longest_front}
use Rattle.depot_gossip.specs.Choices.{IsChosenFrom, IsParcelWith, IsStoppedAt, has_ids, has_room_for}
use Rattle.depot_gossip.specs.declared.choice.Choice.{Choice}
use Rattle.depot_gossip.specs.declared.choice.Space.{Space}

-- ---- the longest prefix

-- with one more that may follow, it goes one further
pub front_more : {X : Type 0} (may : List X → X → Bool) (before xs : List X) (x : X) → longest_front may before xs ≡ xs → may (before ++ xs) x ≡ true → longest_front may before (xs ++ x ∷ []) ≡ xs ++ x ∷ []
unfolding longest_front
front_more may before [] x goes may_go = ap (λ (b : Bool). cond b (x ∷ []) []) (sym (ap (λ (ys : List _). may ys x) (append-nil before)) ∙ may_go)
front_more {X = X} may before (y ∷ ys) x goes may_go = by_test (may before y) goes (λ rest. front_more may (before ++ y ∷ []) ys x rest (ap (λ (zs : List X). may zs x) (append_assoc before (y ∷ []) ys) ∙ may_go)) where
  by_test : (b : Bool) → cond b (y ∷ longest_front may (before ++ y ∷ []) ys) [] ≡ y ∷ ys → (longest_front may (before ++ y ∷ []) ys ≡ ys → longest_front may (before ++ y ∷ []) (ys ++ x ∷ []) ≡ ys ++ x ∷ [])
      → cond b (y ∷ longest_front may (before ++ y ∷ []) (ys ++ x ∷ [])) [] ≡ y ∷ (ys ++ x ∷ [])
  by_test true is rest = ap (λ (zs : List X). y ∷ zs) (rest cc)
  by_test false is rest = absurd cc

-- where the next one may not follow, it ends
pub front_ends : {X : Type 0} (may : List X → X → Bool) (before xs : List X) (x : X) (left : List X) → longest_front may before xs ≡ xs → may (before ++ xs) x ≡ false → longest_front may before (xs ++ x ∷ left) ≡ xs
unfolding longest_front
front_ends may before [] x left goes over = ap (λ (b : Bool). cond b (x ∷ longest_front may (before ++ x ∷ []) left) []) (sym (ap (λ (ys : List _). may ys x) (append-nil before)) ∙ over)
front_ends {X = X} may before (y ∷ ys) x left goes over = by_test (may before y) goes (λ rest. front_ends may (before ++ y ∷ []) ys x left rest (ap (λ (zs : List X). may zs x) (append_assoc before (y ∷ []) ys) ∙ over)) where
  by_test : (b : Bool) → cond b (y ∷ longest_front may (before ++ y ∷ []) ys) [] ≡ y ∷ ys → (longest_front may (before ++ y ∷ []) ys ≡ ys → longest_front may (before ++ y ∷ []) (ys ++ x ∷ left) ≡ ys)
      → cond b (y ∷ longest_front may (before ++ y ∷ []) (ys ++ x ∷ left)) [] ≡ y ∷ ys
  by_test true is rest = ap (λ (zs : List X). y ∷ zs) (rest cc)
  by_test false is rest = absurd cc

-- it goes by the test alone
pub front_alike : {X : Type 0} (may might : List X → X → Bool) → ((ys : List X) (x : X) → may ys x ≡ might ys x) → (before xs : List X) → longest_front may before xs ≡ longest_front might before xs
unfolding longest_front
front_alike may might same before [] = refl
front_alike {X = X} may might same before (x ∷ xs) =
    ap (λ (b : Bool). cond b (x ∷ longest_front may (before ++ x ∷ []) xs) []) (same before x)
    ∙ ap (λ (ys : List X). cond (might before x) (x ∷ ys) []) (front_alike may might same (before ++ x ∷ []) xs)

-- ---- what a parcel adds

pub unvouched_push : (me : ℕ) (J : List Record) (xs : List Parcel) (x : Parcel) → unvouched me J (xs ++ x ∷ []) ≡ unvouched me J xs ++ unvouched me J (x ∷ [])
unfolding unvouched
unvouched_push me J xs x =
    let fresh = λ (i : List ℕ). not (is_mine_vouched J i) in
    ap (filter fresh) (foreign_push me xs x) ∙ filter-append fresh (sent_foreign me xs) (sent_foreign me (x ∷ []))

-- what is asked of the room
abbrev asks : Space → ℕ → ℕ → ℕ → ℕ → Bool
asks room before bytes frames ids = (leb bytes 67108864 && leb frames 262144) && (eqb before 0 || leb bytes room.bytes) && has_ids room.ids ids

pub room_told : (me : ℕ) (J : List Record) (room : Space) (xs : List Parcel) (x : Parcel) (c : Choice) (parcel : Sending) (fresh : List (List ℕ)) (before bytes frames ids : ℕ) (result : Bool) → IsChosenFrom me J room xs c → IsParcelWith me J x parcel fresh
    → before ≡ length c.sending.frames → bytes ≡ before + length parcel.frames → frames ≡ (c.sending.updates + c.sending.values) + (parcel.updates + parcel.values) → ids ≡ length c.unvouched + length fresh
    → result ≡ asks room before bytes frames ids → result ≡ has_room_for me J room xs x
room_told me J room xs x c parcel fresh before bytes frames ids result k p b y f i told =
    let here : before ≡ bytes_of_parcels xs = b ∙ holds_short me xs c.sending k.holds in
    let one : length parcel.frames ≡ bytes_of_parcels (x ∷ []) = holds_short me (x ∷ []) parcel p.holds in
    let all : bytes ≡ bytes_of_parcels (xs ++ x ∷ []) = omega (arith, y, here, one, bytes_both_push xs x) in
    let count : frames ≡ length (flat_map frames_of (xs ++ x ∷ [])) = omega (arith, f, counts_all xs, counts_all (x ∷ []), k.holds.updates, k.holds.values, p.holds.updates, p.holds.values, count_both_push xs x) in
    let named : ids ≡ length (unvouched me J (xs ++ x ∷ [])) =
    i ∙ (ap (λ (hs : List (List ℕ)). length hs + length fresh) k.ids ∙ ap (λ (hs : List (List ℕ)). length (unvouched me J xs) + length hs) p.ids
    ∙ sym (ap length (unvouched_push me J xs x) ∙ length-append (unvouched me J xs) (unvouched me J (x ∷ [])))) in
    told ∙ ap (λ (n : ℕ). asks room n bytes frames ids) here ∙ ap (λ (n : ℕ). asks room (bytes_of_parcels xs) n frames ids) all ∙ ap (λ (n : ℕ). asks room (bytes_of_parcels xs) (bytes_of_parcels (xs ++ x ∷ [])) n ids) count
    ∙ ap (asks room (bytes_of_parcels xs) (bytes_of_parcels (xs ++ x ∷ [])) (length (flat_map frames_of (xs ++ x ∷ [])))) named where
      bytes_both_push : (ys : List Parcel) (z : Parcel) → bytes_of_parcels (ys ++ z ∷ []) ≡ bytes_of_parcels ys + bytes_of_parcels (z ∷ [])
      bytes_both_push ys z = omega (arith, bytes_push ys z, bytes_push [] z)

      count_both_push : (ys : List Parcel) (z : Parcel) → length (flat_map frames_of (ys ++ z ∷ [])) ≡ length (flat_map frames_of ys) + length (flat_map frames_of (z ∷ []))
      count_both_push ys z = omega (arith, count_push ys z, count_push [] z)

parts : (a b c d : Bool) → ((a && b) && c) && d ≡ true → (a ≡ true) × (b ≡ true)
parts a b c d e = and_parts a b (and_parts (a && b) c (and_parts ((a && b) && c) d e).0).0

-- what has room fits into a bundle
room_fits : (me : ℕ) (J : List Record) (room : Space) (xs : List Parcel) (x : Parcel) → has_room_for me J room xs x ≡ true → DoFit (xs ++ x ∷ [])
room_fits me J room xs x e =
    let fits = parts (leb (bytes_of_parcels (xs ++ x ∷ [])) 67108864) (leb (length (flat_map frames_of (xs ++ x ∷ []))) 262144) (eqb (bytes_of_parcels xs) 0 || leb (bytes_of_parcels (xs ++ x ∷ [])) room.bytes) (has_ids room.ids (length (unvouched me J (xs ++ x ∷ [])))) e in
    record { within = leb-true _ _ fits.0; few = leb-true _ _ fits.1 }

-- the parcel is chosen
pub parcel_added : (me : ℕ) (J : List Record) (room : Space) (xs : List Parcel) (x : Parcel) (c d : Choice) (parcel : Sending) (fresh : List (List ℕ)) → IsChosenFrom me J room xs c → IsParcelWith me J x parcel fresh → has_room_for me J room xs x ≡ true
    → d.sending.frames ≡ c.sending.frames ++ parcel.frames → d.sending.ids ≡ c.sending.ids ++ parcel.ids → d.unvouched ≡ c.unvouched ++ fresh → d.sending.updates ≡ c.sending.updates + parcel.updates → d.sending.values ≡ c.sending.values + parcel.values
    → IsChosenFrom me J room (xs ++ x ∷ []) d
parcel_added me J room xs x c d parcel fresh k p may_go frames ids more updates values =
    record {
      holds = record {
        frames = frames ∙ ap (λ (t : List ℕ). t ++ parcel.frames) k.holds.frames ∙ ap (λ (t : List ℕ). flat_map text_of_frame (flat_map frames_of xs) ++ t) (p.holds.frames ∙ ap (flat_map text_of_frame) (append-nil (frames_of x)))
            ∙ sym (ap (flat_map text_of_frame) (flat_push frames_of xs x) ∙ flat_map-append text_of_frame (flat_map frames_of xs) (frames_of x));
        updates = omega (arith, updates, k.holds.updates, p.holds.updates, sum_by-append (λ (y : Parcel). length y.told) xs (x ∷ []));
        values = omega (arith, values, k.holds.values, p.holds.values, sum_by-append (λ (y : Parcel). length y.values) xs (x ∷ []));
        ids = ids ∙ ap (λ (is : List (List ℕ)). is ++ parcel.ids) k.holds.ids ∙ ap (λ (is : List (List ℕ)). sent_foreign me xs ++ is) p.holds.ids ∙ sym (foreign_push me xs x);
        fit = room_fits me J room xs x may_go;
      };
      ids = more ∙ ap (λ (is : List (List ℕ)). is ++ fresh) k.ids ∙ ap (λ (is : List (List ℕ)). unvouched me J xs ++ is) p.ids ∙ sym (unvouched_push me J xs x);
      front = front_more (has_room_for me J room) [] xs x k.front may_go;
    }

-- what fits into no bundle has no room
pub unfit_is_over : (me : ℕ) (J : List Record) (room : Space) (xs : List Parcel) (x : Parcel) → (DoFit (x ∷ []) → ⊥) → has_room_for me J room xs x ≡ false
unfit_is_over me J room xs x unfit = by_test (has_room_for me J room xs x) refl where
  by_test : (b : Bool) → has_room_for me J room xs x ≡ b → b ≡ false
  by_test false is = refl
  by_test true is =
      let fit = room_fits me J room xs x is in
      absurd (unfit (record { within = omega (arith, bytes_push xs x, bytes_push [] x, fit.within); few = omega (arith, count_push xs x, count_push [] x, fit.few) }))

-- or it is cut
pub parcel_cut : (me : ℕ) (J : List Record) (room : Space) (xs : List Parcel) (x : Parcel) (c : Choice) → IsChosenFrom me J room xs c → has_room_for me J room xs x ≡ false → IsStoppedAt me J room (xs ++ x ∷ []) c
parcel_cut me J room xs x c k over = record { sent = xs; next = x; left = []; is = refl; chosen = k; over = over }

-- what is cut stays cut
pub stopped_on : (me : ℕ) (J : List Record) (room : Space) (xs ys : List Parcel) (c : Choice) → IsStoppedAt me J room xs c → IsStoppedAt me J room (xs ++ ys) c
stopped_on me J room xs ys c k = record { sent = k.sent; next = k.next; left = k.left ++ ys; is = ap (λ (zs : List Parcel). zs ++ ys) k.is ∙ append_assoc k.sent (k.next ∷ k.left) ys; chosen = k.chosen; over = k.over }

-- nothing is chosen at first
pub none_chosen : (me : ℕ) (J : List Record) (room : Space) (s : Sending) (ids : List (List ℕ)) → Holds me [] s → ids ≡ [] → IsChosenFrom me J room [] (record { sending = s; unvouched = ids })
unfolding unvouched sent_foreign longest_front
none_chosen me J room s ids holds none = record { holds = holds; ids = none; front = refl }
