-- A bundle takes the longest prefix of all there is to send that fits.
use Rattle.std.proofs.Common.{◌≡◌, ℕ, suc, ◌+◌, ◌-◌, ◌≤◌, List, [], ◌∷◌, ◌++◌, length, map, sum_by, Bool, true, false, not, cond, ◌&&◌, leb, ltb, eqb, Result, Ok, Err, refl, sym, ap, subst, ◌∙◌, arith, length-append, append_assoc}
use Rattle.std.specs.List.{filter, flat_map}
use Rattle.std.proofs.lemmas.Bool.{cond-true, and_parts, and_from, leb-true, le-leb, le-ltb, lt-ltb}
use Rattle.std.proofs.lemmas.List.{length-map, map-append, append-nil}
use Rattle.std.proofs.lemmas.List.Elements.{filter-append}
use Rattle.std.proofs.lemmas.List.Sums.{sum_by-append}
use Rattle.std.proofs.lemmas.Grind.{flat_map-append}
use Rattle.depot_base.specs.declared.update.Update.{Update}
use Rattle.depot_base.specs.declared.statement.Signed.{Signed}
use Rattle.depot_base.specs.declared.record.Record.{Record}
use Rattle.depot_model.specs.declared.hello.Hello.{Hello}
use Rattle.depot_model.specs.texts.Texts.{id_of_update, text_of_signed}
use Rattle.depot_model.specs.journals.Journal.{update_in}
use Rattle.depot_model.specs.texts.Frames.{Frame, text_of_frame}
use Rattle.depot_model.specs.exchange.Bundle.{Signs, Parcel, frames_of, bytes_of_frames, statement_frame, value_frame, fitting, parcels, sent_for, sent_foreign}
use Rattle.depot_base.proofs.GeneralLaws.{flat_push}
use Rattle.depot_streams.specs.declared.sending.Sending.{Sending}
use Rattle.depot_streams.specs.Sendings.{Holds, frames_under, parcel_frames, IsShort, HasNoRoom, Adds}
use Rattle.depot_streams.proofs.FrameLengths.{frames_long, bytes_both}
use Rattle.depot_gossip.specs.Choosing.{IsCutAt, Carries, AddsTo, HasAddedFound, AddsFound}

-- ---- bytes and frames

abbrev bytes_in : List Parcel → ℕ
bytes_in xs = bytes_of_frames (flat_map frames_of xs)

abbrev count_in : List Parcel → ℕ
count_in xs = length (flat_map frames_of xs)

bytes_more : (x : Parcel) (xs : List Parcel) → bytes_in (x ∷ xs) ≡ bytes_of_frames (frames_of x) + bytes_in xs
bytes_more x xs = bytes_both (frames_of x) (flat_map frames_of xs)

count_more : (x : Parcel) (xs : List Parcel) → count_in (x ∷ xs) ≡ length (frames_of x) + count_in xs
count_more x xs = length-append (frames_of x) (flat_map frames_of xs)

-- ---- the longest prefix

abbrev has_room : ℕ → ℕ → Parcel → Bool
has_room b f x = leb (bytes_of_frames (frames_of x)) b && leb (length (frames_of x)) f

front_has_room : (b f : ℕ) (x : Parcel) (xs : List Parcel) → bytes_in (x ∷ xs) ≤ b → count_in (x ∷ xs) ≤ f → has_room b f x ≡ true
front_has_room b f x xs p q =
    let bytes : bytes_of_frames (frames_of x) ≤ b = omega (arith, bytes_more x xs, p) in
    let count : length (frames_of x) ≤ f = omega (arith, count_more x xs, q) in
    and_from _ _ (le-leb _ _ bytes) (le-leb _ _ count)

-- what fits is sent whole
whole_fits : (b f : ℕ) (xs : List Parcel) → bytes_in xs ≤ b → count_in xs ≤ f → fitting b f xs ≡ xs
unfolding fitting
whole_fits b f [] p q = refl
whole_fits b f (x ∷ xs) p q =
    cond-true (has_room b f x) _ _ (front_has_room b f x xs p q)
    ∙ ap (λ (ys : List Parcel). x ∷ ys) (whole_fits (b - bytes_of_frames (frames_of x)) (f - length (frames_of x)) xs (omega (arith, bytes_more x xs, p)) (omega (arith, count_more x xs, q)))

-- where it doesn't fit with the next one, the rest is left out
front_fits : (b f : ℕ) (xs : List Parcel) (y : Parcel) (left : List Parcel) → bytes_in xs ≤ b → count_in xs ≤ f → (bytes_in (xs ++ y ∷ []) ≤ b → count_in (xs ++ y ∷ []) ≤ f → ⊥) → fitting b f (xs ++ y ∷ left) ≡ xs
unfolding fitting
front_fits b f [] y left p q over = by_test (has_room b f y) refl where
  by_test : (t : Bool) → has_room b f y ≡ t → cond t (y ∷ fitting (b - bytes_of_frames (frames_of y)) (f - length (frames_of y)) left) [] ≡ []
  by_test false e = refl
  by_test true e =
      let t = and_parts _ _ e in
      let bytes : bytes_of_frames (frames_of y) ≤ b = leb-true _ _ t.0 in
      let count : length (frames_of y) ≤ f = leb-true _ _ t.1 in
      absurd (over (omega (arith, bytes_more y [], bytes)) (omega (arith, count_more y [], count)))
front_fits b f (x ∷ xs) y left p q over =
    cond-true (has_room b f x) _ _ (front_has_room b f x xs p q)
    ∙ ap (λ (ys : List Parcel). x ∷ ys) (front_fits (b - bytes_of_frames (frames_of x)) (f - length (frames_of x)) xs y left (omega (arith, bytes_more x xs, p)) (omega (arith, count_more x xs, q))
    (λ u v. over (omega (arith, bytes_more x xs, bytes_more x (xs ++ y ∷ []), p, u)) (omega (arith, count_more x xs, count_more x (xs ++ y ∷ []), q, v))))

-- What is chosen of all parcels is what a bundle sends, and the flag says whether there is more.
pub record IsChosen (me : ℕ) (sign : Signs) (J : List Record) (h : Hello) (s : Sending) (all : Bool) : Type 0 where
  pub holds : Holds me (sent_for sign J h) s
  pub more : not all ≡ ltb (length (sent_for sign J h)) (length (parcels sign J h))

pub is_chosen : (me : ℕ) (sign : Signs) (J : List Record) (h : Hello) (s : Sending) (all : Bool) → Carries me (parcels sign J h) s all → IsChosen me sign J h s all
unfolding sent_for
is_chosen me sign J h s true c =
    let whole : fitting 67108864 262144 (parcels sign J h) ≡ parcels sign J h = whole_fits 67108864 262144 (parcels sign J h) c.fit.within c.fit.few in
    record {
      holds = subst (λ (xs : List Parcel). Holds me xs s) (sym whole) c;
      more = sym (le-ltb _ _ (omega (arith, ap length whole)));
    }
is_chosen me sign J h s false c =
    let front : fitting 67108864 262144 (c.sent ++ c.next ∷ c.left) ≡ c.sent =
    front_fits 67108864 262144 c.sent c.next c.left c.holds.fit.within c.holds.fit.few (λ u v. c.over (record { within = u; few = v })) in
    let same : fitting 67108864 262144 (parcels sign J h) ≡ c.sent = ap (fitting 67108864 262144) c.is ∙ front in
    let long : length (parcels sign J h) ≡ length c.sent + suc (length c.left) = ap length c.is ∙ length-append c.sent (c.next ∷ c.left) in
    record {
      holds = subst (λ (xs : List Parcel). Holds me xs s) (sym same) c.holds;
      more = sym (lt-ltb _ _ (omega (arith, ap length same, long)));
    }

-- ---- what is cut stays cut

pub cut_on : (me : ℕ) (xs ys : List Parcel) (s : Sending) → IsCutAt me xs s → IsCutAt me (xs ++ ys) s
cut_on me xs ys s c = record { sent = c.sent; next = c.next; left = c.left ++ ys; is = ap (λ (zs : List Parcel). zs ++ ys) c.is ∙ append_assoc c.sent (c.next ∷ c.left) ys; holds = c.holds; over = c.over }

-- ---- one parcel more

told_frames : (ss : List Signed) → map statement_frame ss ≡ frames_under 2 (map text_of_signed ss)
told_frames [] = refl
told_frames (s ∷ ss) = ap (λ (fs : List Frame). statement_frame s ∷ fs) (told_frames ss)

-- the parcel's statements have these texts, and these are its values
pub record IsParcel (x : Parcel) (texts behind : List (List ℕ)) : Type 0 where
  pub told : map text_of_signed x.told ≡ texts
  pub values : x.values ≡ behind

parcel_is : (x : Parcel) (told values : List (List ℕ)) → IsParcel x told values → frames_of x ≡ parcel_frames told values
parcel_is x told values p = rw (told_frames x.told, p.told, p.values) refl

pub holds_short : (me : ℕ) (xs : List Parcel) (s : Sending) → Holds me xs s → length s.frames ≡ bytes_in xs
holds_short me xs s h = ap length h.frames ∙ frames_long (flat_map frames_of xs)

one_count : (x : Parcel) → length (frames_of x) ≡ length x.told + length x.values
one_count x = length-append (map statement_frame x.told) _ ∙ omega (arith, length-map x.told statement_frame, length-map x.values value_frame)

pub counts_all : (xs : List Parcel) → count_in xs ≡ sum_by (λ (x : Parcel). length x.told) xs + sum_by (λ (x : Parcel). length x.values) xs
counts_all [] = refl
counts_all (x ∷ xs) = omega (arith, count_more x xs, one_count x, counts_all xs, sum_by-append (λ (y : Parcel). length y.told) (x ∷ []) xs, sum_by-append (λ (y : Parcel). length y.values) (x ∷ []) xs)

-- what is chosen is short
pub is_short : (me : ℕ) (xs : List Parcel) (s : Sending) → Holds me xs s → IsShort s
is_short me xs s h = record { within = omega (arith, holds_short me xs s h, h.fit.within); few = omega (arith, counts_all xs, h.updates, h.values, h.fit.few) }

pub bytes_push : (xs : List Parcel) (x : Parcel) → bytes_in (xs ++ x ∷ []) ≡ bytes_in xs + bytes_of_frames (frames_of x)
bytes_push xs x = ap bytes_of_frames (flat_push frames_of xs x) ∙ bytes_both (flat_map frames_of xs) (frames_of x)

pub count_push : (xs : List Parcel) (x : Parcel) → count_in (xs ++ x ∷ []) ≡ count_in xs + length (frames_of x)
count_push xs x = ap length (flat_push frames_of xs x) ∙ length-append (flat_map frames_of xs) (frames_of x)

pub foreign_push : (me : ℕ) (xs : List Parcel) (x : Parcel) → sent_foreign me (xs ++ x ∷ []) ≡ sent_foreign me xs ++ sent_foreign me (x ∷ [])
unfolding sent_foreign
foreign_push me xs x =
    let told = λ (y : Parcel). flat_map (λ (s : Signed). update_in s.statement) y.told in
    let other = λ (u : Update). not (eqb u.writer me) in
    ap (λ (us : List Update). map id_of_update (filter other us)) (flat_map-append told xs (x ∷ []))
    ∙ ap (map id_of_update) (filter-append other (flat_map told xs) (flat_map told (x ∷ [])))
    ∙ map-append id_of_update (filter other (flat_map told xs)) (filter other (flat_map told (x ∷ [])))

-- a parcel was added, and the ids of its updates of others
pub added : (me : ℕ) (xs : List Parcel) (x : Parcel) (s t : Sending) (told values : List (List ℕ)) (ids : List (List ℕ)) → Holds me xs s → IsParcel x told values → ids ≡ sent_foreign me (x ∷ []) → HasAddedFound s t told values ids → Holds me (xs ++ x ∷ []) t
added me xs x s t told values ids h p foreign a =
    let parcel = parcel_is x told values p in
    let frames : t.frames ≡ flat_map text_of_frame (flat_map frames_of (xs ++ x ∷ [])) =
    a.frames ∙ ap (λ (bytes : List ℕ). bytes ++ flat_map text_of_frame (parcel_frames told values)) h.frames
    ∙ ap (λ (fs : List Frame). flat_map text_of_frame (flat_map frames_of xs) ++ flat_map text_of_frame fs) (sym parcel)
    ∙ sym (ap (flat_map text_of_frame) (flat_push frames_of xs x) ∙ flat_map-append text_of_frame (flat_map frames_of xs) (frames_of x)) in
    let updates : length x.told ≡ length told = sym (length-map x.told text_of_signed) ∙ ap length p.told in
    let count_values : length x.values ≡ length values = ap length p.values in
    let count : count_in (xs ++ x ∷ []) ≡ t.updates + t.values = omega (arith, count_push xs x, one_count x, updates, count_values, counts_all xs, h.updates, h.values, a.updates, a.values) in
    record {
      frames = frames;
      updates = omega (arith, a.updates, h.updates, updates, sum_by-append (λ (y : Parcel). length y.told) xs (x ∷ []));
      values = omega (arith, a.values, h.values, count_values, sum_by-append (λ (y : Parcel). length y.values) xs (x ∷ []));
      ids = a.ids ∙ ap (λ (is : List (List ℕ)). is ++ ids) h.ids ∙ ap (λ (is : List (List ℕ)). sent_foreign me xs ++ is) foreign ∙ sym (foreign_push me xs x);
      fit = record {
        within = omega (arith, ap length frames, frames_long (flat_map frames_of (xs ++ x ∷ [])), a.short.within);
        few = omega (arith, count, a.short.few);
      };
    }

-- or it doesn't fit
pub not_added : (me : ℕ) (xs : List Parcel) (x : Parcel) (s : Sending) (told values : List (List ℕ)) → Holds me xs s → IsParcel x told values → HasNoRoom s told values → IsCutAt me (xs ++ x ∷ []) s
not_added me xs x s told values h p n =
    let parcel = parcel_is x told values p in
    record {
      sent = xs;
      next = x;
      left = [];
      is = refl;
      holds = h;
      over = λ fit. n.over (omega (arith, holds_short me xs s h, bytes_push xs x, ap bytes_of_frames parcel, fit.within)) (omega (arith, counts_all xs, h.updates, h.values, count_push xs x, ap length parcel, fit.few));
    }

-- the answer to a candidate
pub found_adds : {E : Type 0} (me : ℕ) (xs : List Parcel) (x : Parcel) (s t : Sending) (told values : List (List ℕ)) (ids : List (List ℕ)) (r : Result Bool E) → Holds me xs s → IsParcel x told values → ids ≡ sent_foreign me (x ∷ []) → AddsFound s told values ids r t → AddsTo me (xs ++ x ∷ []) t r
found_adds me xs x s t told values ids (Ok true) h p foreign a = added me xs x s t told values ids h p foreign a
found_adds me xs x s t told values ids (Ok false) h p foreign a = subst (λ (q : Sending). IsCutAt me (xs ++ x ∷ []) q) (sym a.0) (not_added me xs x s told values h p a.1)
found_adds me xs x s t told values ids (Err e) h p foreign a = tt

-- the answer to a wanted value
pub value_adds : {E : Type 0} (me : ℕ) (xs : List Parcel) (v : List ℕ) (s t : Sending) (r : Result Bool E) → Holds me xs s → Adds s [] (v ∷ []) r t → AddsTo me (xs ++ record { told = []; values = v ∷ [] } ∷ []) t r
unfolding sent_foreign
value_adds me xs v s t (Ok true) h a = added me xs (record { told = []; values = v ∷ [] }) s t [] (v ∷ []) [] h (record { told = refl; values = refl }) refl (record { frames = a.frames; updates = a.updates; values = a.values; ids = a.ids ∙ sym (append-nil s.ids); short = a.short })
value_adds me xs v s t (Ok false) h a = subst (λ (q : Sending). IsCutAt me (xs ++ record { told = []; values = v ∷ [] } ∷ []) q) (sym a.0) (not_added me xs (record { told = []; values = v ∷ [] }) s [] (v ∷ []) h (record { told = refl; values = refl }) a.1)
value_adds me xs v s t (Err e) h a = tt

-- what is reported of the rest doesn't matter
pub with_more : (me : ℕ) (xs : List Parcel) (s : Sending) (more : Bool) → Holds me xs s → Holds me xs (record s { more = more })
with_more me xs s more h = record { frames = h.frames; updates = h.updates; values = h.values; ids = h.ids; fit = h.fit }
