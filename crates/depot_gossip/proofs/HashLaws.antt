-- Sets of digests with one more member.
use Rattle.std.proofs.Common.{◌≡◌, ℕ, List, [], ◌∷◌, ◌++◌, Bool, true, false, cond, ◌||◌, refl, sym, subst}
use Rattle.std.specs.List.{list_any}
use Rattle.std.specs.Str.{bytes_eq}
use Rattle.std.proofs.lemmas.Slice.Eq.{bytes_eq-Decides}
use Rattle.depot_model.specs.lists.Lists.{is_among, AreTogether}
use Rattle.depot_model.proofs.lists.Members.{among-append}
use Rattle.depot_base.proofs.GeneralLaws.{or_again}

-- a digest that is put in
pub inserted : (ks : List (List ℕ)) (h : List ℕ) → AreTogether ks (h ∷ []) (cond (list_any (bytes_eq h) ks) ks (ks ++ h ∷ []))
inserted ks h k = by_test (is_among h ks) refl where
  by_test : (b : Bool) → is_among h ks ≡ b → is_among k (cond b ks (ks ++ h ∷ [])) ≡ (is_among k ks || (bytes_eq k h || false))
  by_test true e = or_again (is_among k ks) (bytes_eq k h) (λ same. subst (λ (x : List ℕ). is_among x ks ≡ true) (sym ((bytes_eq-Decides k h).0 same)) e)
  by_test false e = among-append k ks (h ∷ [])
