-- Lists of items: which are in them, those that are kept, and one more that is put in.
use Rattle.std.proofs.Common.{◌≡◌, ℕ, zero, suc, ◌+◌, ◌<◌, ◌≤◌, ◌⊎◌, List, [], ◌∷◌, ◌++◌, length, take, drop, get_or, refl, sym, ap, subst, ◌∙◌, arith, inl, inr, All}
use Rattle.std.specs.List.{AllByRecursion}
use Rattle.std.proofs.Math.ListN.{set}
use Rattle.std.proofs.lemmas.List.{get_or_default, take_more, take_more_set}
use Rattle.depot_base.specs.Membership.{IsIn}
use Rattle.depot_base.specs.Pairs.{AllPairsByRecursion}
use Rattle.depot_base.proofs.MembershipLaws.{in_read, to_contains}
use Rattle.depot_order.specs.LatestItems.{AreKept}

-- ---- which items are in a list

pub has_of_all : (P : ℕ → Type 0) (xs : List ℕ) → All P xs → (x : ℕ) → IsIn x xs → P x
has_of_all P xs all x on = let at = to_contains x xs on in subst P at.2 (all at.0 x at.1)

-- ---- the items that are kept

pub kept_more : (P : ℕ → Type 0) (items kept : List ℕ) (a : ℕ) → AreKept P items kept → P a → AreKept P (items ++ a ∷ []) (kept ++ a ∷ [])
kept_more P [] kept a none holds = inl ([], (holds, (ap (λ (l : List ℕ). l ++ a ∷ []) none, refl)))
kept_more P (b ∷ items) kept a (inl (rest, (on, (is, k)))) holds = inl (rest ++ a ∷ [], (on, (ap (λ (l : List ℕ). l ++ a ∷ []) is, kept_more P items rest a k holds)))
kept_more P (b ∷ items) kept a (inr k) holds = inr (k.0, kept_more P items kept a k.1 holds)

pub kept_same : (P : ℕ → Type 0) (items kept : List ℕ) (a : ℕ) → AreKept P items kept → (P a → ⊥) → AreKept P (items ++ a ∷ []) kept
kept_same P [] kept a none fails = inr (fails, none)
kept_same P (b ∷ items) kept a (inl (rest, (on, (is, k)))) fails = inl (rest, (on, (is, kept_same P items rest a k fails)))
kept_same P (b ∷ items) kept a (inr k) fails = inr (k.0, kept_same P items kept a k.1 fails)

pub kept_in : (P : ℕ → Type 0) (items kept : List ℕ) (x : ℕ) → AreKept P items kept → IsIn x items → P x → IsIn x kept
kept_in P [] kept x k never holds = absurd never
kept_in P (b ∷ items) kept x (inl (rest, (on, (is, k)))) (inl here) holds = subst (IsIn x) (sym is) (inl here)
kept_in P (b ∷ items) kept x (inl (rest, (on, (is, k)))) (inr there) holds = subst (IsIn x) (sym is) (inr (kept_in P items rest x k there holds))
kept_in P (b ∷ items) kept x (inr k) (inl here) holds = absurd (k.0 (subst P (sym here) holds))
kept_in P (b ∷ items) kept x (inr k) (inr there) holds = kept_in P items kept x k.1 there holds

pub in_kept : (P : ℕ → Type 0) (items kept : List ℕ) (x : ℕ) → AreKept P items kept → IsIn x kept → IsIn x items × P x
in_kept P [] kept x none on = absurd (let never : IsIn x [] = subst (IsIn x) none on in never)
in_kept P (b ∷ items) kept x (inl (rest, (holds, (is, k)))) on = elim (subst (IsIn x) is on) [
  | inl here ↦ (inl here, subst P here holds)
  | inr there ↦ let r = in_kept P items rest x k there in (inr r.0, r.1)
]
in_kept P (b ∷ items) kept x (inr k) on = let r = in_kept P items kept x k.1 on in (inr r.0, r.1)

all_kept : (P Q : ℕ → Type 0) (items kept : List ℕ) → AreKept P items kept → AllByRecursion Q items → AllByRecursion Q kept
all_kept P Q [] kept none all = subst (AllByRecursion Q) (sym none) tt
all_kept P Q (b ∷ items) kept (inl (rest, (on, (is, k)))) all = subst (AllByRecursion Q) (sym is) (all.0, all_kept P Q items rest k all.1)
all_kept P Q (b ∷ items) kept (inr k) all = all_kept P Q items kept k.1 all.1

pub kept_rises : (P : ℕ → Type 0) (listed : ℕ → ℕ → Type 0) (items kept : List ℕ) → AreKept P items kept → AllPairsByRecursion listed items → AllPairsByRecursion listed kept
kept_rises P listed [] kept none rises = subst (AllPairsByRecursion listed) (sym none) tt
kept_rises P listed (b ∷ items) kept (inl (rest, (on, (is, k)))) rises = subst (AllPairsByRecursion listed) (sym is) (all_kept P (listed b) items rest k rises.0, kept_rises P listed items rest k rises.1)
kept_rises P listed (b ∷ items) kept (inr k) rises = kept_rises P listed items kept k.1 rises.1

-- ---- one more that is put in

pub in_put : (xs : List ℕ) (n item x : ℕ) → IsIn x xs → IsIn x (take n xs ++ item ∷ drop n xs)
in_put xs zero item x on = inr on
in_put [] (suc n) item x never = absurd never
in_put (y ∷ ys) (suc n) item x (inl here) = inl here
in_put (y ∷ ys) (suc n) item x (inr there) = inr (in_put ys n item x there)

pub item_put : (xs : List ℕ) (n item : ℕ) → IsIn item (take n xs ++ item ∷ drop n xs)
item_put xs zero item = inl refl
item_put [] (suc n) item = inl refl
item_put (y ∷ ys) (suc n) item = inr (item_put ys n item)

pub put_in : (xs : List ℕ) (n item x : ℕ) → IsIn x (take n xs ++ item ∷ drop n xs) → IsIn x xs ⊎ (item ≡ x)
put_in xs zero item x (inl here) = inr here
put_in xs zero item x (inr there) = inl there
put_in [] (suc n) item x (inl here) = inr here
put_in [] (suc n) item x (inr never) = absurd never
put_in (y ∷ ys) (suc n) item x (inl here) = inl (inl here)
put_in (y ∷ ys) (suc n) item x (inr there) = elim (put_in ys n item x there) [ inl h ↦ inl (inr h) | inr h ↦ inr h ]

all_put : (Q : ℕ → Type 0) (xs : List ℕ) (n item : ℕ) → AllByRecursion Q xs → Q item → AllByRecursion Q (take n xs ++ item ∷ drop n xs)
all_put Q xs zero item all holds = (holds, all)
all_put Q [] (suc n) item all holds = (holds, tt)
all_put Q (y ∷ ys) (suc n) item all holds = (all.0, all_put Q ys n item all.1 holds)

-- an item put after those that are listed before it
pub put_rises : (listed : ℕ → ℕ → Type 0) (xs : List ℕ) (n item : ℕ) → AllPairsByRecursion listed xs → n ≤ length xs → ((k : ℕ) → k < n → listed (get_or xs k 0) item) → AllByRecursion (listed item) (drop n xs) → AllPairsByRecursion listed (take n xs ++ item ∷ drop n xs)
put_rises listed xs zero item rises low before behind = (behind, rises)
put_rises listed [] (suc n) item rises low before behind = absurd (omega (arith, low))
put_rises listed (y ∷ ys) (suc n) item rises low before behind = (
  all_put (listed y) ys n item rises.0 (before 0 (omega arith)),
  put_rises listed ys n item rises.1 (omega (arith, low)) (λ k lt. before (suc k) (omega (arith, lt))) behind,
)

all_from : (listed : ℕ → ℕ → Type 0) (item y : ℕ) (rest : List ℕ) → ((z : ℕ) → IsIn z rest → listed y z → listed item z) → AllByRecursion (listed y) rest → AllByRecursion (listed item) rest
all_from listed item y [] on all = tt
all_from listed item y (z ∷ zs) on all = (on z (inl refl) all.0, all_from listed item y zs (λ w there. on w (inr there)) all.1)

-- an item that is listed before one of a rising list is listed before all after it
pub behind_rises : (listed : ℕ → ℕ → Type 0) (xs : List ℕ) (n item : ℕ) → AllPairsByRecursion listed xs → (n < length xs → listed item (get_or xs n 0)) → ((y z : ℕ) → IsIn y xs → IsIn z xs → listed item y → listed y z → listed item z) → AllByRecursion (listed item) (drop n xs)
behind_rises listed [] zero item rises first on = tt
behind_rises listed (y ∷ ys) zero item rises first on =
    let here : listed item y = first (omega arith) in
    (here, all_from listed item y ys (λ z there below. on y z (inl refl) (inr there) here below) rises.0)
behind_rises listed [] (suc n) item rises first on = tt
behind_rises listed (y ∷ ys) (suc n) item rises first on = behind_rises listed ys n item rises.1 (λ low. first (omega (arith, low))) (λ v w v_in w_in. on v w (inr v_in) (inr w_in))

-- ---- a list that is scanned

pub all_of_in : (P : ℕ → Type 0) (xs : List ℕ) → ((x : ℕ) → IsIn x xs → P x) → All P xs
all_of_in P xs each k d low = each (get_or xs k d) (in_read (get_or xs k d) xs k low (get_or_default xs k (get_or xs k d) d low))

-- one item more, which isn't kept
pub passed_over : (P : ℕ → Type 0) (old list : List ℕ) (i kept x : ℕ) → i < length old → x ≡ get_or old i 0 → AreKept P (take i old) (take kept list) → (P x → ⊥) → AreKept P (take (i + 1) old) (take kept list)
passed_over P old list i kept x low is k fails = subst (λ (l : List ℕ). AreKept P l (take kept list)) (ap (λ (y : ℕ). take i old ++ y ∷ []) is ∙ sym (take_more old i 0 low)) (kept_same P (take i old) (take kept list) x k fails)

-- one item more, which is kept
pub taken_over : (P : ℕ → Type 0) (old list : List ℕ) (i kept x : ℕ) → i < length old → kept < length list → x ≡ get_or old i 0 → AreKept P (take i old) (take kept list) → P x → AreKept P (take (i + 1) old) (take (kept + 1) (set list kept x))
taken_over P old list i kept x low inside is k holds =
    let more = kept_more P (take i old) (take kept list) x k holds in
    let written : take (kept + 1) (set list kept x) ≡ take kept list ++ x ∷ [] = take_more_set list kept x inside in
    subst (λ (l : List ℕ). AreKept P (take (i + 1) old) l) (sym written) (subst (λ (l : List ℕ). AreKept P l (take kept list ++ x ∷ [])) (ap (λ (y : ℕ). take i old ++ y ∷ []) is ∙ sym (take_more old i 0 low)) more)
