-- Names and values that are scanned one after another.
use Rattle.std.proofs.Common.{◌≡◌, ℕ, ◌+◌, ◌<◌, List, [], ◌∷◌, ◌++◌, length, map, take, get_or, refl, sym, ap, subst, ◌∙◌, arith, inl, inr, append_assoc, length-append}
use Rattle.sha2.specs.Sha256.{sha256}
use Rattle.depot_base.specs.declared.update.NamedValue.{NamedValue}
use Rattle.depot_base.proofs.GeneralLaws.{take_next}
use Rattle.depot_model.specs.lists.Lists.{IsIn}
use Rattle.depot_model.proofs.lists.Members.{in_pushed}
use Rattle.depot_kept.specs.declared.values.Values.{Values}
use Rattle.std.specs.Prelude.{Result, IsOk}
use Rattle.std.proofs.lemmas.List.{append-nil, length-map}
use Rattle.depot_model.specs.declared.taken.Taken.{Taken}
use Rattle.depot_readings.specs.AddedValues.{AddsAll}
use Rattle.depot_readings.proofs.HeldLaws.{Adds, adds_next, adds_none}

-- what holds of those before and of the next one holds of all up to there
pub each_next : {X : Type 0} (P : X → Type 0) (ns : List X) (i : ℕ) (n : X) → i < length ns → n ≡ get_or ns i n → ((m : X) → IsIn m (take i ns) → P m) → P n → (m : X) → IsIn m (take (i + 1) ns) → P m
each_next {X = X} P ns i n low is before own m on =
    elim (in_pushed m (take i ns) n (subst (λ (xs : List X). IsIn m xs) (take_next ns i n low is) on)) [ inl front ↦ before m front | inr here ↦ subst P here own ]

-- All values but those that are left are added.
pub record AreIn (all left : List (List ℕ)) (place : ℕ) (old new : Values) : Type 0 where
  pub done : List (List ℕ)
  pub split : done ++ left ≡ all
  pub count : place ≡ length done
  pub adds : AddsAll old new done

-- the name at that place has the hash of the next value
hash_at : (ns : List NamedValue) (done rest : List (List ℕ)) (value : List ℕ) (n : NamedValue) → map (λ m. m.hash) ns ≡ map sha256 (done ++ value ∷ rest) → n ≡ get_or ns (length done) n → n.hash ≡ sha256 value
hash_at [] [] rest value n hashed is = absurd cc
hash_at [] (v ∷ vs) rest value n hashed is = absurd cc
hash_at (m ∷ ms) [] rest value n hashed is = let first : m.hash ≡ sha256 value = cc in ap (λ (x : NamedValue). x.hash) is ∙ first
hash_at (m ∷ ms) (v ∷ vs) rest value n hashed is = let behind : map (λ (x : NamedValue). x.hash) ms ≡ map sha256 (vs ++ value ∷ rest) = cc in hash_at ms vs rest value n behind is

pub next_hash : (ns : List NamedValue) (all left rest : List (List ℕ)) (value : List ℕ) (place : ℕ) (n : NamedValue) (old new : Values) → map (λ m. m.hash) ns ≡ map sha256 all → left ≡ value ∷ rest → n ≡ get_or ns place n → AreIn all left place old new → n.hash ≡ sha256 value
next_hash ns all left rest value place n old new hashed next is a =
    let split : a.done ++ value ∷ rest ≡ all = ap (λ (vs : List (List ℕ)). a.done ++ vs) (sym next) ∙ a.split in
    hash_at ns a.done rest value n (hashed ∙ ap (map sha256) (sym split)) (subst (λ (k : ℕ). n ≡ get_or ns k n) a.count is)

-- there is a name at that place
pub place_low : (ns : List NamedValue) (all left rest : List (List ℕ)) (value : List ℕ) (place : ℕ) (old new : Values) → map (λ m. m.hash) ns ≡ map sha256 all → left ≡ value ∷ rest → AreIn all left place old new → place < length ns
place_low ns all left rest value place old new hashed next a =
    omega (arith, ap length hashed, length-map ns (λ (m : NamedValue). m.hash), length-map all sha256, ap length a.split, length-append a.done left, ap length next, a.count)

-- with the next value
pub in_next : {E : Type 0} (all left rest : List (List ℕ)) (value hash : List ℕ) (place : ℕ) (old mid new : Values) (result : Result Taken E) → left ≡ value ∷ rest → hash ≡ sha256 value → IsOk result → Adds mid new hash value result → AreIn all left place old mid → AreIn all rest (place + 1) old new
in_next all left rest value hash place old mid new result next hashed ok adds a = record {
  done = a.done ++ value ∷ [];
  split = append_assoc a.done (value ∷ []) rest ∙ ap (λ (vs : List (List ℕ)). a.done ++ vs) (sym next) ∙ a.split;
  count = omega (arith, a.count, length-append a.done (value ∷ []));
  adds = adds_next hash value a.done old mid new result hashed ok adds a.adds;
}

pub none_in : (all left : List (List ℕ)) (old : Values) → left ≡ all → AreIn all left 0 old old
none_in all left old same = record { done = []; split = same; count = refl; adds = adds_none old }

-- where none is left, all are added
pub all_in : (all left : List (List ℕ)) (place : ℕ) (old new : Values) → left ≡ [] → AreIn all left place old new → AddsAll old new all
all_in all left place old new none a = subst (AddsAll old new) (sym (append-nil a.done) ∙ ap (λ (vs : List (List ℕ)). a.done ++ vs) (sym none) ∙ a.split) a.adds
