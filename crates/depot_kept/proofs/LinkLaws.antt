-- The links between places under one mark.
use Rattle.std.proofs.Common.{◌≡◌, ℕ, zero, suc, ◌<◌, ◌≤◌, List, [], ◌∷◌, ◌++◌, length, get_or, Bool, true, false, cond, eqb, Option, Some, None, refl, sym, ap, subst, ◌∙◌, arith, inl, inr, ◌⊎◌, length-append, if◌then◌else◌}
use Rattle.std.specs.List.{slice_get}
use Rattle.std.specs.Str.{bytes_eq}
use Rattle.std.proofs.lemmas.Option.{slice_get_within, slice_get-get_or}
use Rattle.std.proofs.lemmas.Bool.{and_parts, eqb-true}
use Rattle.std.proofs.lemmas.Bool.Decides.{nat_tests}
use Rattle.std.proofs.lemmas.Slice.Eq.{bytes_eq-Decides}
use Rattle.depot_model.proofs.lists.Elements.{get_front}
use Rattle.depot_base.proofs.GeneralLaws.{get_last}
use Rattle.depot_kept.specs.declared.marks.StatementMark.{StatementMark}
use Rattle.depot_kept.specs.declared.marks.StatementMark.TheVariants as marks
use Rattle.depot_kept.specs.declared.table.Link.{Link}
use Rattle.depot_kept.specs.Links.{same_mark, LeadsBelow, LeadBack, AreLinked, IsLinkedFrom, is_link, link_places, places_from}

-- ---- marks

-- marks that are found equal are one
pub one_mark : (m k : StatementMark) → same_mark m k ≡ true → m ≡ k
one_mark (marks.Number w n) (marks.Number v l) e =
    let parts = and_parts (eqb w v) (eqb n l) e in
    let writers : w ≡ v = eqb-true w v parts.0 in
    let seqs : n ≡ l = eqb-true n l parts.1 in
    cc
one_mark (marks.Number w n) (marks.Prev v h) e = absurd cc
one_mark (marks.Number w n) (marks.Id h) e = absurd cc
one_mark (marks.Prev w g) (marks.Number v l) e = absurd cc
one_mark (marks.Prev w g) (marks.Prev v h) e =
    let parts = and_parts (eqb w v) (bytes_eq g h) e in
    let writers : w ≡ v = eqb-true w v parts.0 in
    let prevs : g ≡ h = (bytes_eq-Decides g h).0 parts.1 in
    cc
one_mark (marks.Prev w g) (marks.Id h) e = absurd cc
one_mark (marks.Id g) (marks.Number v l) e = absurd cc
one_mark (marks.Id g) (marks.Prev v h) e = absurd cc
one_mark (marks.Id g) (marks.Id h) e = let ids : g ≡ h = (bytes_eq-Decides g h).0 e in cc

-- ---- places from a link on

-- none from no link
pub from_none : (links : List Link) (n : ℕ) → places_from links n None ≡ []
unfolding places_from
from_none links zero = refl
from_none links (suc n) = from_none links n

-- a link above all that it leads to isn't one of them
not_this : (n m : ℕ) (link : Option ℕ) → LeadsBelow m link → m ≤ n → is_link n link ≡ false
not_this n m None low most = refl
not_this n m (Some i) low most = let less : i < m = low i refl in grind (arith, nat_tests)

-- below the last, or the last
most_or : (m n : ℕ) → m ≤ suc n → (m ≤ n) ⊎ (m ≡ suc n)
most_or m n most = grind arith

-- links above all that it leads to don't matter
pub from_lower : (links : List Link) (n m : ℕ) (link : Option ℕ) → LeadsBelow m link → m ≤ n → places_from links n link ≡ places_from links m link
unfolding places_from
from_lower links zero m link low most = let same : zero ≡ m = omega arith in subst (λ (k : ℕ). places_from links zero link ≡ places_from links k link) same refl
from_lower links (suc n) m link low most = by_cases (most_or m n most) (from_lower links n m link low)
  where
    by_cases : (m ≤ n) ⊎ (m ≡ suc n) → (m ≤ n → places_from links n link ≡ places_from links m link) → places_from links (suc n) link ≡ places_from links m link
    by_cases (inl less) below = rw (not_this n m link low less) (below less)
    by_cases (inr same) below = subst (λ (k : ℕ). places_from links (suc n) link ≡ places_from links k link) (sym same) refl

-- a number is itself
eqb_self : (n : ℕ) → eqb n n ≡ true
eqb_self n = grind (arith, nat_tests)

-- a link at the top of those that are looked at
at_link : (links : List Link) (i : ℕ) (l : Link) → slice_get links i ≡ Some l → places_from links (suc i) (Some i) ≡ l.place ∷ places_from links i l.before
unfolding places_from
at_link links i l at = rw (eqb_self i, at) refl

-- a link is below the next
itself_below : (i : ℕ) → LeadsBelow (suc i) (Some i)
itself_below i j e = let same : i ≡ j = cc in omega arith

-- the place of a link, and then those that it leads to
pub from_some : (links : List Link) (i : ℕ) (l : Link) → LeadBack links → i < length links → slice_get links i ≡ Some l → places_from links (length links) (Some i) ≡ l.place ∷ places_from links (length links) l.before
from_some links i l back low at =
    from_lower links (length links) (suc i) (Some i) (itself_below i) (omega arith)
    ∙ at_link links i l at
    ∙ ap (λ (ps : List ℕ). l.place ∷ ps) (sym (from_lower links (length links) i l.before (back i l at) (omega arith)))

-- the link that is read, and where it leads
pub next_place : (links : List Link) (next : Option ℕ) (i : ℕ) (d : Link) → IsLinkedFrom links next → next ≡ Some i → places_from links (length links) next ≡ (get_or links i d).place ∷ places_from links (length links) (get_or links i d).before
next_place links next i d linked is =
    let low : i < length links = linked.head i is in
    ap (places_from links (length links)) is ∙ from_some links i (get_or links i d) linked.back low (slice_get-get_or links i d low)

-- it leads on in order
pub next_linked : (links : List Link) (next : Option ℕ) (i : ℕ) (d : Link) → IsLinkedFrom links next → next ≡ Some i → IsLinkedFrom links (get_or links i d).before
next_linked links next i d linked is =
    let low : i < length links = linked.head i is in
    record {
      head = λ j e. let back : j < i = linked.back i (get_or links i d) (slice_get-get_or links i d low) j e in omega arith;
      back = linked.back;
    }

-- ---- one link more

-- below the end, or at it
below_or_last : (i n : ℕ) → i < suc n → (i < n) ⊎ (i ≡ n)
below_or_last i n low = grind arith

-- by what the links after give
with_same : (o : Option Link) (f g : Option ℕ → List ℕ) → ((x : Option ℕ) → f x ≡ g x) → link_places o f ≡ link_places o g
with_same None f g same = refl
with_same (Some l) f g same = ap (λ (ps : List ℕ). l.place ∷ ps) (same l.before)

-- places from below it on stay
from_pushed : (links : List Link) (l : Link) (n : ℕ) → n ≤ length links → (link : Option ℕ) → places_from (links ++ l ∷ []) n link ≡ places_from links n link
unfolding places_from
from_pushed links l zero low link = refl
from_pushed links l (suc n) low link = by_test (is_link n link) (from_pushed links l n (omega arith))
  where
    by_test : (b : Bool) → ((x : Option ℕ) → places_from (links ++ l ∷ []) n x ≡ places_from links n x) →
        cond b (link_places (slice_get (links ++ l ∷ []) n) (places_from (links ++ l ∷ []) n)) (places_from (links ++ l ∷ []) n link)
        ≡ cond b (link_places (slice_get links n) (places_from links n)) (places_from links n link)
    by_test true below =
        ap (λ (o : Option Link). link_places o (places_from (links ++ l ∷ []) n)) (get_front links (l ∷ []) n (omega arith))
        ∙ with_same (slice_get links n) (places_from (links ++ l ∷ []) n) (places_from links n) below
    by_test false below = below link

-- it leads to the places that the newest one led to
from_new : (links : List Link) (l : Link) → LeadsBelow (length links) l.before → places_from (links ++ l ∷ []) (suc (length links)) (Some (length links)) ≡ l.place ∷ places_from links (length links) l.before
from_new links l low = at_link (links ++ l ∷ []) (length links) l (get_last links l) ∙ ap (λ (ps : List ℕ). l.place ∷ ps) (from_pushed links l (length links) (omega arith) l.before)

-- the places from any other one on stay
from_old : (links : List Link) (l : Link) (link : Option ℕ) → LeadsBelow (length links) link → places_from (links ++ l ∷ []) (suc (length links)) link ≡ places_from links (length links) link
from_old links l link low = from_lower (links ++ l ∷ []) (suc (length links)) (length links) link low (omega arith) ∙ from_pushed links l (length links) (omega arith) link

-- one longer than before
one_longer : (links : List Link) (l : Link) → length (links ++ l ∷ []) ≡ suc (length links)
one_longer links l = simp length-append (omega arith)

-- a link becomes the newest of a mark, and the others stay
abbrev Puts : (StatementMark → Option ℕ) → (StatementMark → Option ℕ) → StatementMark → ℕ → Type 0
Puts newest new mark n = (other : StatementMark) → new other ≡ (if same_mark mark other then Some n else newest other)

-- what is listed after one more under a mark
pub listed_more : (newest new : StatementMark → Option ℕ) (links : List Link) (mark : StatementMark) (l : Link) → AreLinked newest links → l.before ≡ newest mark → Puts newest new mark (length links) → (other : StatementMark) →
    places_from (links ++ l ∷ []) (length (links ++ l ∷ [])) (new other)
    ≡ (if same_mark mark other then l.place ∷ places_from links (length links) (newest other) else places_from links (length links) (newest other))
listed_more newest new links mark l linked before updates other =
    ap (λ (n : ℕ). places_from (links ++ l ∷ []) n (new other)) (one_longer links l)
    ∙ ap (places_from (links ++ l ∷ []) (suc (length links))) (updates other)
    ∙ by_test (same_mark mark other) refl
  where
    by_test : (b : Bool) → same_mark mark other ≡ b →
        places_from (links ++ l ∷ []) (suc (length links)) (cond b (Some (length links)) (newest other))
        ≡ cond b (l.place ∷ places_from links (length links) (newest other)) (places_from links (length links) (newest other))
    by_test true e =
        let one : mark ≡ other = one_mark mark other e in
        let leads : l.before ≡ newest other = before ∙ ap newest one in
        from_new links l (subst (LeadsBelow (length links)) (sym before) (linked.heads mark)) ∙ ap (λ (o : Option ℕ). l.place ∷ places_from links (length links) o) leads
    by_test false e = from_old links l (newest other) (linked.heads other)

-- the links are in order after one more
pub linked_more : (newest new : StatementMark → Option ℕ) (links : List Link) (mark : StatementMark) (l : Link) → AreLinked newest links → l.before ≡ newest mark → Puts newest new mark (length links) → AreLinked new (links ++ l ∷ [])
linked_more newest new links mark l linked before updates = record { heads = heads; back = back }
  where
    by_test : (b : Bool) (old : Option ℕ) → LeadsBelow (length links) old → LeadsBelow (suc (length links)) (cond b (Some (length links)) old)
    by_test true old low = itself_below (length links)
    by_test false old low = λ i e. let less : i < length links = low i e in omega arith

    heads : (other : StatementMark) → LeadsBelow (length (links ++ l ∷ [])) (new other)
    heads = λ other.
        let P : ℕ → Type 0 = λ (n : ℕ). LeadsBelow n (new other) in
        subst P (sym (one_longer links l)) (subst (LeadsBelow (suc (length links))) (sym (updates other)) (by_test (same_mark mark other) (newest other) (linked.heads other)))

    by_place : (i : ℕ) (k : Link) → slice_get (links ++ l ∷ []) i ≡ Some k → (i < length links) ⊎ (i ≡ length links) → LeadsBelow i k.before
    by_place i k at (inl low) = linked.back i k (sym (get_front links (l ∷ []) i low) ∙ at)
    by_place i k at (inr same) =
        let here : slice_get (links ++ l ∷ []) (length links) ≡ Some k = subst (λ (j : ℕ). slice_get (links ++ l ∷ []) j ≡ Some k) same at in
        let one : l ≡ k = let last = get_last links l in cc in
        subst (λ (j : ℕ). LeadsBelow j k.before) (sym same) (subst (λ (x : Link). LeadsBelow (length links) x.before) one (subst (LeadsBelow (length links)) (sym before) (linked.heads mark)))

    back : LeadBack (links ++ l ∷ [])
    back = λ i k at. let within : i < length (links ++ l ∷ []) = slice_get_within (links ++ l ∷ []) i k at in let size = one_longer links l in by_place i k at (below_or_last i (length links) (omega arith))

-- the newest link of a mark is the one that was pushed
pub points_to : (newest new : StatementMark → Option ℕ) (mark : StatementMark) (place : ℕ) (links : List Link) → place ≡ length links → Puts newest new mark place → Puts newest new mark (length links)
points_to newest new mark place links same puts = subst (λ (n : ℕ). Puts newest new mark n) same puts

-- ---- the same entries and links

-- list the same places
pub listed_same : (newest new : StatementMark → Option ℕ) (links more : List Link) → ((mark : StatementMark) → new mark ≡ newest mark) → more ≡ links → (mark : StatementMark) → places_from more (length more) (new mark) ≡ places_from links (length links) (newest mark)
listed_same newest new links more same also mark = rw (same mark, also) refl

-- are in order
pub linked_same : (newest new : StatementMark → Option ℕ) (links more : List Link) → AreLinked newest links → ((mark : StatementMark) → new mark ≡ newest mark) → more ≡ links → AreLinked new more
linked_same newest new links more linked same also = rw also (record { heads = λ mark. rw (same mark) (linked.heads mark); back = linked.back })

-- none are listed where there is no link
pub none_listed : (newest : StatementMark → Option ℕ) (links : List Link) → ((mark : StatementMark) → newest mark ≡ None) → links ≡ [] → (mark : StatementMark) → places_from links (length links) (newest mark) ≡ []
unfolding places_from
none_listed newest links empty none mark = rw none refl

-- nothing is in order
pub none_linked : (newest : StatementMark → Option ℕ) (links : List Link) → ((mark : StatementMark) → newest mark ≡ None) → links ≡ [] → AreLinked newest links
none_linked newest links empty none = rw none (record { heads = λ mark. rw (empty mark) (λ i e. absurd cc); back = λ i l at. absurd cc })

pub ruleset link_laws = (listed_same, linked_same, none_listed, none_linked)
