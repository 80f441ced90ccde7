-- Ids in groups, and a voucher for each group, as a loop makes them.
use Rattle.std.proofs.Common.{◌≡◌, ℕ, zero, suc, ◌+◌, ◌-◌, ◌/◌, ◌%◌, ◌<◌, ◌≤◌, min, List, [], ◌∷◌, ◌++◌, length, refl, sym, ap, subst, ◌∙◌, arith, append_assoc, length-append}
use Rattle.std.proofs.lemmas.List.{append-nil}
use Rattle.depot_base.specs.declared.voucher.Voucher.{Voucher}
use Rattle.depot_model.specs.checks.Vouching.{rising, into_first, groups_behind, groups_of, numbered}

-- ---- groups

-- the group that was begun takes all that there is
all_behind : {X : Type 0} (size room : ℕ) (g : List X) → length g ≤ room → groups_behind size room g ≡ g ∷ []
unfolding groups_behind
all_behind size room [] few = refl
all_behind size zero (x ∷ g) few = absurd (omega (arith, few))
all_behind size (suc room) (x ∷ g) few = ap (into_first x) (all_behind size room g (omega (arith, few)))

-- or is filled up
full_behind : {X : Type 0} (size room : ℕ) (g rest : List X) → length g ≡ room → groups_behind size room (g ++ rest) ≡ g ∷ groups_of size rest
unfolding groups_behind groups_of
full_behind size zero [] [] full = refl
full_behind size zero [] (y ∷ ys) full = refl
full_behind size zero (x ∷ g) rest full = absurd (omega (arith, full))
full_behind size (suc room) [] rest full = absurd (omega (arith, full))
full_behind size (suc room) (x ∷ g) rest full = ap (into_first x) (full_behind size room g rest (omega (arith, full)))

first_by_parts : {X : Type 0} (g rest : List X) → length g ≡ min 256 (length (g ++ rest)) → 0 < length (g ++ rest) → groups_of 256 (g ++ rest) ≡ g ∷ groups_of 256 rest
unfolding groups_of
first_by_parts [] rest long some = absurd (omega (arith, long, some))
first_by_parts (x ∷ g) [] long some = ap (λ (xs : List _). into_first x (groups_behind 256 255 xs)) (append-nil g) ∙ ap (into_first x) (all_behind 256 255 g (omega (arith, long)))
first_by_parts (x ∷ g) (y ∷ ys) long some = ap (into_first x) (full_behind 256 255 g (y ∷ ys) (omega (arith, long, length-append g (y ∷ ys))))

-- the first group of a list, and the groups of the rest
pub first_group : {X : Type 0} (all g rest : List X) → all ≡ g ++ rest → length g ≡ min 256 (length all) → 0 < length all → groups_of 256 all ≡ g ∷ groups_of 256 rest
first_group all g rest is long some = ap (groups_of 256) is ∙ first_by_parts g rest (long ∙ ap (λ (xs : List _). min 256 (length xs)) is) (subst (λ (xs : List _). 0 < length xs) is some)

-- ---- how many groups

one_in_first : {X : Type 0} (x : X) (gs : List (List X)) → 1 ≤ length gs → length (into_first x gs) ≡ length gs
one_in_first x [] some = absurd (omega (arith, some))
one_in_first x (g ∷ gs) some = refl

count_behind : {X : Type 0} (room : ℕ) (xs : List X) → room ≤ 255 → length (groups_behind 256 room xs) ≡ 1 + (length xs - room + 255) / 256
unfolding groups_behind
count_behind room [] few = omega arith
count_behind zero (x ∷ xs) few = let rest = count_behind 255 xs (omega arith) in let more = one_in_first x (groups_behind 256 255 xs) (omega (arith, rest)) in omega (arith, rest, more)
count_behind (suc room) (x ∷ xs) few = let rest = count_behind room xs (omega arith) in let more = one_in_first x (groups_behind 256 room xs) (omega (arith, rest)) in omega (arith, rest, more)

-- as many as a division that rounds up says
pub group_count : {X : Type 0} (xs : List X) → length (groups_of 256 xs) ≡ length xs / 256 + min 1 (length xs % 256)
unfolding groups_of
group_count [] = omega arith
group_count (x ∷ xs) = let rest = count_behind 255 xs (omega arith) in let more = one_in_first x (groups_behind 256 255 xs) (omega (arith, rest)) in omega (arith, rest, more)

-- ---- the loop over the groups

-- the vouchers so far and those of what is left are those of all
pub record AreMade (me first : ℕ) (all : List (List ℕ)) (made : List Voucher) (seq : ℕ) (left : List (List ℕ)) : Type 0 where
  pub whole : made ++ numbered me seq (groups_of 256 left) ≡ numbered me first (groups_of 256 all)
  pub few : seq + length left ≤ first + length all

pub one_made : (me first seq : ℕ) (all left g rest : List (List ℕ)) (made new : List Voucher) (ids : List (List ℕ)) → AreMade me first all made seq left → left ≡ g ++ rest → length g ≡ min 256 (length left) → 0 < length left → ids ≡ rising g
    → new ≡ made ++ record { node = me; seq = seq; ids = ids } ∷ [] → AreMade me first all new (seq + 1) rest
one_made me first seq all left g rest made new ids a is long some sorted grows =
    let cut = first_group left g rest is long some in
    let step : suc seq ≡ seq + 1 = omega arith in
    let behind = numbered me (seq + 1) (groups_of 256 rest) in
    record {
      whole = ap (λ (vs : List Voucher). vs ++ behind) grows
          ∙ append_assoc made (record { node = me; seq = seq; ids = ids } ∷ []) behind
          ∙ ap (λ (hs : List (List ℕ)). made ++ record { node = me; seq = seq; ids = hs } ∷ behind) sorted
          ∙ ap (λ (n : ℕ). made ++ record { node = me; seq = seq; ids = rising g } ∷ numbered me n (groups_of 256 rest)) (sym step)
          ∙ ap (λ (gs : List (List (List ℕ))). made ++ numbered me seq gs) (sym cut)
          ∙ a.whole;
      few = omega (arith, a.few, ap length is, length-append g rest, long, some);
    }

no_groups : (me seq : ℕ) (left : List (List ℕ)) → length left ≡ 0 → numbered me seq (groups_of 256 left) ≡ []
unfolding groups_of
no_groups me seq [] none = refl
no_groups me seq (x ∷ xs) none = absurd (omega (arith, none))

pub all_made : (me first seq : ℕ) (all left : List (List ℕ)) (made : List Voucher) → AreMade me first all made seq left → length left ≡ 0 → made ≡ numbered me first (groups_of 256 all)
all_made me first seq all left made a none = sym (append-nil made) ∙ ap (λ (vs : List Voucher). made ++ vs) (sym (no_groups me seq left none)) ∙ a.whole
