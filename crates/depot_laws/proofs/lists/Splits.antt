-- Journals by splits: where a record of a list is, and lawful journals with one record more or less.
use Rattle.std.proofs.Common.{◌≡◌, List, [], ◌∷◌, ◌++◌, refl, sym, ap, subst, ◌∙◌, append_assoc, inl, inr, ◌⊎◌}
use Rattle.std.specs.List.{flat_map}
use Rattle.std.proofs.lemmas.Grind.{flat_map-append}
use Rattle.std.proofs.lemmas.List.{append-nil}
use Rattle.depot_base.specs.declared.record.Record.{Record}
use Rattle.depot_model.specs.lists.Lists.{IsIn}
use Rattle.depot_model.specs.texts.Records.{IsRecord}
use Rattle.depot_model.specs.journals.Journal.{accepted_by, accepted}
use Rattle.depot_model.specs.checks.Checks.{Setting}
use Rattle.depot_model.specs.journals.Lawful.{IsAllowed, IsLawful}
use Rattle.depot_model.proofs.lists.Members.{in_left, in_right, in_parts}
use Rattle.depot_base.proofs.GeneralLaws.{flat_push}

-- ---- what each gives

-- a reading that shows nothing of one more
pub silent : {R X : Type 0} (f : R → List X) (rs : List R) (r : R) → f r ≡ [] → flat_map f (rs ++ r ∷ []) ≡ flat_map f rs
silent f rs r none = flat_push f rs r ∙ ap (λ (xs : List _). flat_map f rs ++ xs) none ∙ append-nil (flat_map f rs)

-- what is given with one more was given before, or by that one
pub flat_cases : {R X : Type 0} (f : R → List X) (x : X) (rs : List R) (r : R) → IsIn x (flat_map f (rs ++ r ∷ [])) → IsIn x (flat_map f rs) ⊎ IsIn x (f r)
flat_cases f x rs r on = in_parts x (flat_map f rs) (f r) (subst (λ (ys : List _). IsIn x ys) (flat_push f rs r) on)

-- what is given is given with more after
pub flat_left : {R X : Type 0} (f : R → List X) (x : X) (rs ss : List R) → IsIn x (flat_map f rs) → IsIn x (flat_map f (rs ++ ss))
flat_left f x rs ss on = subst (λ (ys : List _). IsIn x ys) (sym (flat_map-append f rs ss)) (in_left x (flat_map f rs) (flat_map f ss) on)

-- what one of them gives is given
pub flat_gives : {R X : Type 0} (f : R → List X) (x : X) (r : R) (rs : List R) → IsIn r rs → IsIn x (f r) → IsIn x (flat_map f rs)
flat_gives f x r [] never given = absurd never
flat_gives f x r (s ∷ rs) (inl here) given = in_left x (f s) (flat_map f rs) (subst (λ (q : _). IsIn x (f q)) (sym here) given)
flat_gives f x r (s ∷ rs) (inr there) given = in_right x (f s) (flat_map f rs) (flat_gives f x r rs there given)

-- which of them gives it, and where that one is
pub record IsGiven {R X : Type 0} (f : R → List X) (x : X) (rs : List R) : Type 0 where
  pub before : List R
  pub by : R
  pub after : List R
  pub is : rs ≡ before ++ by ∷ after
  pub given : IsIn x (f by)

pub given_by : {R X : Type 0} (f : R → List X) (x : X) (rs : List R) → IsIn x (flat_map f rs) → IsGiven f x rs
given_by f x [] never = absurd never
given_by f x (r ∷ rs) on = elim (in_parts x (f r) (flat_map f rs) on) [
  | inl here ↦ record { before = []; by = r; after = rs; is = refl; given = here }
  | inr there ↦
      let g = given_by f x rs there in
      record { before = r ∷ g.before; by = g.by; after = g.after; is = ap (λ (ys : List _). r ∷ ys) g.is; given = g.given }
]

-- what the one that gives x gives by another reading is given too
pub given_too : {R X Y : Type 0} (f : R → List X) (k : R → List Y) (x : X) (y : Y) (rs : List R) (g : IsGiven f x rs) → IsIn y (k g.by) → IsIn y (flat_map k rs)
given_too f k x y rs g on = subst (λ (ss : List _). IsIn y (flat_map k ss)) (sym g.is) (flat_gives k y g.by (g.before ++ g.by ∷ g.after) (in_right g.by g.before (g.by ∷ g.after) (inl refl)) on)

-- ---- induction from the end

going : {R : Type 0} (P : List R → Type 0) → ((rs : List R) (r : R) → P rs → P (rs ++ r ∷ [])) → (before after : List R) → P before → P (before ++ after)
going P more before [] p = subst P (sym (append-nil before)) p
going P more before (r ∷ rs) p = subst P (append_assoc before (r ∷ []) rs) (going P more (before ++ r ∷ []) rs (more before r p))

-- what holds of none, and of one more wherever it holds of the others, holds of all
pub from_end : {R : Type 0} (P : List R → Type 0) → P [] → ((rs : List R) (r : R) → P rs → P (rs ++ r ∷ [])) → (rs : List R) → P rs
from_end P none more rs = going P more [] rs none

-- ---- places

-- the place is the last one
pub record IsLast {R : Type 0} (J before : List R) (x r : R) : Type 0 where
  pub front : J ≡ before
  pub last : x ≡ r

-- the place is one of those before the last
pub record IsInner {R : Type 0} (J before : List R) (r : R) : Type 0 where
  pub after : List R
  pub is : J ≡ before ++ r ∷ after

-- where one of a list with one more is
pub place_of : {R : Type 0} (J before after : List R) (x r : R) → J ++ x ∷ [] ≡ before ++ r ∷ after → IsLast J before x r ⊎ IsInner J before r
place_of [] [] after x r e = inl (record { front = refl; last = cc })
place_of [] (b ∷ []) after x r e = absurd cc
place_of [] (b ∷ c ∷ before) after x r e = absurd cc
place_of (j ∷ J) [] after x r e = inr (record { after = J; is = let same : j ≡ r = cc in ap (λ (y : _). y ∷ J) same })
place_of (j ∷ J) (b ∷ before) after x r e =
    let same : j ≡ b = cc in
    let rest : J ++ x ∷ [] ≡ before ++ r ∷ after = cc in
    elim (place_of J before after x r rest) [
      | inl l ↦ inl (record { front = ap (λ (y : _). y ∷ J) same ∙ ap (λ (ys : List _). b ∷ ys) l.front; last = l.last })
      | inr i ↦ inr (record { after = i.after; is = ap (λ (y : _). y ∷ J) same ∙ ap (λ (ys : List _). b ∷ ys) i.is })
    ]

-- no records have no place
pub none_splits : {R : Type 0} (before : List R) (r : R) (after : List R) → [] ≡ before ++ r ∷ after → ⊥
none_splits [] r after e = cc
none_splits (b ∷ before) r after e = cc

-- ---- lawful journals

-- no record at all is lawful
pub lawful_none : (here : Setting) → IsLawful here []
lawful_none here = record { each = λ before r after e. absurd (none_splits before r after e) }

-- a lawful journal with a record that is allowed after it
pub lawful_push : (here : Setting) (J : List Record) (x : Record) → IsLawful here J → IsAllowed here J x → IsLawful here (J ++ x ∷ [])
lawful_push here J x l allowed = record {
  each = λ before r after e. elim (place_of J before after x r e) [
    | inl p ↦ subst (λ (b : List Record). IsAllowed here b r) p.front (subst (λ (y : Record). IsAllowed here J y) p.last allowed)
    | inr i ↦ l.each before r i.after i.is
  ];
}

-- what is before a lawful journal's end is lawful
pub lawful_front : (here : Setting) (J more : List Record) → IsLawful here (J ++ more) → IsLawful here J
lawful_front here J more l = record { each = λ before r after e. l.each before r (after ++ more) (ap (λ (x : List Record). x ++ more) e ∙ append_assoc before (r ∷ after) more) }

-- the last record is allowed after the others
pub lawful_last : (here : Setting) (J : List Record) (r : Record) → IsLawful here (J ++ r ∷ []) → IsAllowed here J r
lawful_last here J r l = l.each J r [] refl

-- what comes before a record is lawful
pub lawful_before : (here : Setting) (J before : List Record) (r : Record) (after : List Record) → IsLawful here J → J ≡ before ++ r ∷ after → IsLawful here before
lawful_before here J before r after l e = lawful_front here before (r ∷ after) (subst (λ (x : List Record). IsLawful here x) e l)

-- induction over lawful journals, from the end
pub lawful_from_end : (here : Setting) (P : List Record → Type 0) → P [] → ((J : List Record) (r : Record) → IsLawful here J → IsAllowed here J r → P J → P (J ++ r ∷ [])) → (J : List Record) → IsLawful here J → P J
lawful_from_end here P none more J = from_end (λ (J : List Record). IsLawful here J → P J) (λ l. none) (λ J r before l.
    let front = lawful_front here J (r ∷ []) l in
    more J r front (lawful_last here J r l) (before front)) J

-- each record of a lawful journal has a text
pub lawful_texts : (here : Setting) (J : List Record) (r : Record) → IsLawful here J → IsIn r J → IsRecord r
lawful_texts here J r l on =
    let g = given_by (λ (q : Record). q ∷ []) r J (flat_gives (λ (q : Record). q ∷ []) r r J on (inl refl)) in
    elim g.given [ inl same ↦ subst IsRecord same (l.each g.before g.by g.after g.is).text | inr never ↦ absurd never ]

-- ---- the accepted updates

-- the accepted updates with one more record
pub accepted_push : (J : List Record) (r : Record) → accepted (J ++ r ∷ []) ≡ accepted J ++ accepted_by r
accepted_push J r = flat_push accepted_by J r
