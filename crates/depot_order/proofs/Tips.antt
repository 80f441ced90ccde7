-- What the fields of a forest keep, with one item more.
use Rattle.std.proofs.Common.{◌≡◌, ◌≢◌, ℕ, zero, suc, ◌+◌, ◌<◌, ◌≤◌, List, [], ◌∷◌, ◌++◌, length, Bool, true, false, cond, eqb, ◌||◌, Option, Some, None, IfSome, refl, sym, ap, subst, ◌∙◌, arith, inl, inr, ◌⊎◌, length-append}
use Rattle.std.proofs.Math.ListN.{set, length-set}
use Rattle.std.proofs.lemmas.Bool.Decides.{nat_tests}
use Rattle.std.proofs.lemmas.Bool.{or_cases}
use Rattle.std.proofs.lemmas.List.Sums.{count_by-le-length}
use Rattle.std.proofs.lemmas.List.Folds.{list_any-append}
use Rattle.std.proofs.lemmas.Option.{slice_get_within}
use Rattle.std.specs.List.{slice_get}
use Rattle.depot_base.proofs.GeneralLaws.{from_pushed, to_pushed, same_at}
use Rattle.depot_order.specs.declared.chains.Spot.{Spot}
use Rattle.depot_order.specs.Spots.{IsForest, is_item, has_child, chains_of, next_chain, place_behind, next_spot, spots, spots_behind, chain_count, IsTip}
use Rattle.depot_order.specs.Numbered.{AreSpotsNumbered}
use Rattle.depot_order.proofs.SpotPlaces.{at_pushed, at_set, beside_set}
use Rattle.depot_order.proofs.Placing.{spot_at, Placed, Continues, Starts, next_cases, chains_start, chains_continue, all_placed, spots_next}

-- ---- children

child_parts : (prevs : List (Option ℕ)) (prev : Option ℕ) (p : ℕ) → has_child (prevs ++ prev ∷ []) p ≡ (has_child prevs p || (is_item p prev || false))
child_parts prevs prev p = list_any-append (is_item p) prevs (prev ∷ [])

no_child : (a b : Bool) → a ≡ false → b ≡ false → (a || (b || false)) ≡ false
no_child true b e f = absurd cc
no_child false true e f = absurd cc
no_child false false e f = refl

neither : (a b : Bool) → (a || (b || false)) ≡ false → (a ≡ false) × (b ≡ false)
neither true b e = absurd cc
neither false true e = absurd cc
neither false false e = (refl, refl)

childless_more : (prevs : List (Option ℕ)) (prev : Option ℕ) (p : ℕ) → has_child prevs p ≡ false → is_item p prev ≡ false → has_child (prevs ++ prev ∷ []) p ≡ false
childless_more prevs prev p e f = child_parts prevs prev p ∙ no_child (has_child prevs p) (is_item p prev) e f

childless_less : (prevs : List (Option ℕ)) (prev : Option ℕ) (p : ℕ) → has_child (prevs ++ prev ∷ []) p ≡ false → (has_child prevs p ≡ false) × (is_item p prev ≡ false)
childless_less prevs prev p e = neither (has_child prevs p) (is_item p prev) (sym (child_parts prevs prev p) ∙ e)

other_item : (p : ℕ) (prev : Option ℕ) → (prev ≡ Some p → ⊥) → is_item p prev ≡ false
other_item p None other = refl
other_item p (Some q) other = let differs : q ≡ p → ⊥ = λ e. other (ap (λ (n : ℕ). Some n) e) in grind (arith, nat_tests, differs)

is_item_self : (p : ℕ) → is_item p (Some p) ≡ true
is_item_self p = grind (arith, nat_tests)

is_that_item : (p : ℕ) (prev : Option ℕ) → is_item p prev ≡ true → prev ≡ Some p
is_that_item p None e = absurd cc
is_that_item p (Some q) e = let same : q ≡ p = grind (arith, nat_tests) in ap (λ (n : ℕ). Some n) same

-- where an item's child is
child_place : (prevs : List (Option ℕ)) (p : ℕ) → has_child prevs p ≡ true → (item : ℕ) × (slice_get prevs item ≡ Some (Some p))
child_place [] p e = absurd cc
child_place (o ∷ os) p e = elim (or_cases (is_item p o) (has_child os p) e) [
  | inl h ↦ (0, ap (λ (x : Option ℕ). Some x) (is_that_item p o h))
  | inr h ↦ let r = child_place os p h in (suc r.0, r.1)
]

-- an item that isn't there yet has no child
never_child : (prevs : List (Option ℕ)) (p : ℕ) → IsForest prevs → length prevs ≤ p → (b : Bool) → has_child prevs p ≡ b → b ≡ false
never_child prevs p forest late true e =
    let r = child_place prevs p e in
    let low : p < r.0 = forest r.0 p r.1 in
    let inside : r.0 < length prevs = slice_get_within prevs r.0 (Some p) r.1 in
    absurd (omega arith)
never_child prevs p forest late false e = refl

childless_last : (prevs : List (Option ℕ)) (prev : Option ℕ) → IsForest prevs → ((p : ℕ) → prev ≡ Some p → p < length prevs) → has_child (prevs ++ prev ∷ []) (length prevs) ≡ false
childless_last prevs prev forest earlier =
    childless_more prevs prev (length prevs) (never_child prevs (length prevs) forest (omega arith) (has_child prevs (length prevs)) refl)
    (other_item (length prevs) prev (λ e. let low : length prevs < length prevs = earlier (length prevs) e in absurd (omega arith)))

forest_next : (prevs : List (Option ℕ)) (prev : Option ℕ) → IsForest prevs → ((p : ℕ) → prev ≡ Some p → p < length prevs) → IsForest (prevs ++ prev ∷ [])
forest_next prevs prev forest earlier item p e = elim (from_pushed prevs prev item (Some p) e) [
  | inl h ↦ forest item p h
  | inr h ↦ let low : p < length prevs = earlier p h.1 in omega arith
]

-- ---- sizes

pub numbered_placed : (prevs : List (Option ℕ)) (placed : List Spot) (tips : List ℕ) → AreSpotsNumbered prevs placed tips → Placed prevs placed
numbered_placed prevs placed tips n = subst (λ (l : List Spot). Placed prevs l) (sym n.same) (all_placed prevs)

-- no more chains than items
pub few_chains : (prevs : List (Option ℕ)) (placed : List Spot) (tips : List ℕ) → AreSpotsNumbered prevs placed tips → length tips ≤ length prevs
few_chains prevs placed tips n =
    let p = numbered_placed prevs placed tips n in
    let size : length placed ≡ length prevs = p.size in
    let few : chains_of placed ≤ length placed = count_by-le-length (λ (s : Spot). eqb s.place 0) placed in
    let chains : length tips ≡ chains_of placed = n.chains in
    omega arith

-- ---- a tip stays one, unless its chain continues

tip_stays : (placed : List Spot) (x : Spot) (chain item : ℕ) → IsTip placed chain item → (x.chain ≡ chain → ⊥) → IsTip (placed ++ x ∷ []) chain item
tip_stays placed x chain item t other = record {
  place = t.place;
  own = to_pushed placed x item (spot_at chain t.place) t.own;
  last = λ later s e after same. elim (from_pushed placed x later s e) [
    | inl h ↦ t.last later s h after same
    | inr h ↦ other (ap (λ (y : Spot). y.chain) h.1 ∙ same)
  ];
}

tip_new : (placed : List Spot) (chain place item : ℕ) → item ≡ length placed → IsTip (placed ++ spot_at chain place ∷ []) chain item
tip_new placed chain place item e = record {
  place = place;
  own = at_pushed placed (spot_at chain place) item e;
  last = λ later s at after same.
      let inside : later < length (placed ++ spot_at chain place ∷ []) = slice_get_within (placed ++ spot_at chain place ∷ []) later s at in
      let size : length (placed ++ spot_at chain place ∷ []) ≡ length placed + 1 = length-append placed (spot_at chain place ∷ []) in
      absurd (omega arith);
}

-- ---- one item more

is_or_not : (a b : ℕ) → (a ≡ b) ⊎ (a ≢ b)
is_or_not a b = grind arith

-- what was written at a place is what is there
written : (tips : List ℕ) (chain place item i : ℕ) → chain < length tips → place ≡ chain → slice_get (set tips chain item) place ≡ Some i → item ≡ i
written tips chain place item i low same e = let there : slice_get (set tips chain item) place ≡ Some item = at_set tips item chain place low same in cc

same_spot : (placed : List Spot) (i : ℕ) (s t : Spot) → slice_get placed i ≡ Some s → slice_get placed i ≡ Some t → s.chain ≡ t.chain
same_spot placed i s t at also = let same : s ≡ t = cc in ap (λ (y : Spot). y.chain) same

numbered_start : (prevs : List (Option ℕ)) (placed : List Spot) (tips : List ℕ) (prev : Option ℕ) → AreSpotsNumbered prevs placed tips → ((p : ℕ) → prev ≡ Some p → p < length prevs) → length prevs < 4294967295 →
    next_spot prevs placed prev ≡ next_chain placed → ((p : ℕ) → prev ≡ Some p → has_child prevs p ≡ true) → AreSpotsNumbered (prevs ++ prev ∷ []) (placed ++ next_chain placed ∷ []) (tips ++ length prevs ∷ [])
numbered_start prevs placed tips prev n earlier few next taken =
    let x : Spot = next_chain placed in
    let item : ℕ = length prevs in
    let p = numbered_placed prevs placed tips n in
    let size : length placed ≡ item = p.size in
    let chains : length tips ≡ chains_of placed = n.chains in
    let more : chains_of (placed ++ x ∷ []) ≡ chains_of placed + 1 = chains_start placed (chains_of placed) in
    record {
      same = ap (λ (y : Spot). placed ++ y ∷ []) (sym next) ∙ ap (λ (l : List Spot). l ++ next_spot prevs l prev ∷ []) n.same ∙ sym (spots_next prevs prev);
      chains = simp length-append (omega arith);
      last = λ chain i e. elim (from_pushed tips item chain i e) [
        | inl h ↦ tip_stays placed x chain i (n.last chain i h) (λ same. let low : chain < length tips = slice_get_within tips chain i h in absurd (omega arith))
        | inr h ↦ subst (λ (k : ℕ). IsTip (placed ++ x ∷ []) chain k) h.1 (subst (λ (c : ℕ). IsTip (placed ++ x ∷ []) c item) (omega arith) (tip_new placed (chains_of placed) 0 item (sym size)))
      ];
      tip = λ i s e free. elim (from_pushed placed x i s e) [
        | inl h ↦ to_pushed tips item s.chain i (n.tip i s h (childless_less prevs prev i free).0)
        | inr h ↦
            let chain_is : chains_of placed ≡ s.chain = ap (λ (y : Spot). y.chain) h.1 in
            let i_is : item ≡ i = omega arith in
            subst (λ (k : ℕ). slice_get (tips ++ item ∷ []) s.chain ≡ Some k) i_is (at_pushed tips item s.chain (omega arith))
      ];
      childless = λ i s e tip. elim (from_pushed placed x i s e) [
        | inl h ↦
            let low : s.chain < chains_of placed = p.chain i s h in
            let inside : i < length placed = slice_get_within placed i s h in
            elim (from_pushed tips item s.chain i tip) [
              | inl t ↦
                  let free : has_child prevs i ≡ false = n.childless i s h t in
                  childless_more prevs prev i free (other_item i prev (λ is. let child : has_child prevs i ≡ true = taken i is in cc))
              | inr t ↦ absurd (omega arith)
            ]
        | inr h ↦ subst (λ (k : ℕ). has_child (prevs ++ prev ∷ []) k ≡ false) (omega arith) (childless_last prevs prev n.forest earlier)
      ];
      forest = forest_next prevs prev n.forest earlier;
      few = simp length-append (omega arith);
    }

numbered_continue : (prevs : List (Option ℕ)) (placed : List Spot) (tips : List ℕ) (from : ℕ) (spot : Spot) → AreSpotsNumbered prevs placed tips → from < length prevs → length prevs < 4294967295 →
    next_spot prevs placed (Some from) ≡ spot_at spot.chain (suc spot.place) → slice_get placed from ≡ Some spot → has_child prevs from ≡ false →
    AreSpotsNumbered (prevs ++ Some from ∷ []) (placed ++ spot_at spot.chain (suc spot.place) ∷ []) (set tips spot.chain (length prevs))
numbered_continue prevs placed tips from spot n low few next at free =
    let x : Spot = spot_at spot.chain (suc spot.place) in
    let item : ℕ = length prevs in
    let prev : Option ℕ = Some from in
    let earlier : (p : ℕ) → prev ≡ Some p → p < length prevs = λ p e. let same : from ≡ p = cc in omega arith in
    let p = numbered_placed prevs placed tips n in
    let size : length placed ≡ item = p.size in
    let chains : length tips ≡ chains_of placed = n.chains in
    let same_chains : chains_of (placed ++ x ∷ []) ≡ chains_of placed = chains_continue placed spot.chain spot.place in
    let known : spot.chain < chains_of placed = p.chain from spot at in
    let was_tip : slice_get tips spot.chain ≡ Some from = n.tip from spot at free in
    record {
      same = ap (λ (y : Spot). placed ++ y ∷ []) (sym next) ∙ ap (λ (l : List Spot). l ++ next_spot prevs l prev ∷ []) n.same ∙ sym (spots_next prevs prev);
      chains = length-set tips spot.chain item ∙ chains ∙ sym same_chains;
      last = λ chain i e. elim (is_or_not chain spot.chain) [
        | inl same ↦
            let i_is : item ≡ i = written tips spot.chain chain item i (omega arith) same e in
            subst (λ (k : ℕ). IsTip (placed ++ x ∷ []) chain k) i_is (subst (λ (c : ℕ). IsTip (placed ++ x ∷ []) c item) (sym same) (tip_new placed spot.chain (suc spot.place) item (sym size)))
        | inr other ↦ tip_stays placed x chain i (n.last chain i (sym (beside_set tips item spot.chain chain other) ∙ e)) (λ same. other (sym same))
      ];
      tip = λ i s e no_child. elim (from_pushed placed x i s e) [
        | inl h ↦
            let parts = childless_less prevs prev i no_child in
            let t : slice_get tips s.chain ≡ Some i = n.tip i s h parts.0 in
            let other : s.chain ≢ spot.chain = λ same.
            let i_is : i ≡ from = same_at tips s.chain spot.chain i from same t was_tip in
            let hit : is_item i prev ≡ true = ap (λ (k : ℕ). is_item i (Some k)) (sym i_is) ∙ is_item_self i in
            let miss : is_item i prev ≡ false = parts.1 in
            cc in
            beside_set tips item spot.chain s.chain other ∙ t
        | inr h ↦
            let chain_is : spot.chain ≡ s.chain = ap (λ (y : Spot). y.chain) h.1 in
            let i_is : item ≡ i = omega arith in
            subst (λ (k : ℕ). slice_get (set tips spot.chain item) s.chain ≡ Some k) i_is (at_set tips item spot.chain s.chain (omega arith) (sym chain_is))
      ];
      childless = λ i s e tip. elim (from_pushed placed x i s e) [
        | inl h ↦
            let inside : i < length placed = slice_get_within placed i s h in
            elim (is_or_not s.chain spot.chain) [
              | inl same ↦ let i_is : item ≡ i = written tips spot.chain s.chain item i (omega arith) same tip in absurd (omega arith)
              | inr other ↦
                  let t : slice_get tips s.chain ≡ Some i = sym (beside_set tips item spot.chain s.chain other) ∙ tip in
                  childless_more prevs prev i (n.childless i s h t) (other_item i prev (λ is.
                  let from_is : from ≡ i = cc in
                  let there : slice_get placed i ≡ Some spot = subst (λ (k : ℕ). slice_get placed k ≡ Some spot) from_is at in
                  other (same_spot placed i s spot h there)))
            ]
        | inr h ↦ subst (λ (k : ℕ). has_child (prevs ++ prev ∷ []) k ≡ false) (omega arith) (childless_last prevs prev n.forest earlier)
      ];
      forest = forest_next prevs prev n.forest earlier;
      few = simp length-append (omega arith);
    }

there : (placed : List Spot) (p : ℕ) → p < length placed → slice_get placed p ≡ None → ⊥
there [] p low e = omega arith
there (s ∷ rest) zero low e = cc
there (s ∷ rest) (suc p) low e = there rest p (omega arith) e

seen_child : (prevs : List (Option ℕ)) (placed : List Spot) (tips : List ℕ) (prev : Option ℕ) → AreSpotsNumbered prevs placed tips → ((p : ℕ) → prev ≡ Some p → p < length prevs) → Starts prevs placed prev (next_spot prevs placed prev) → (p : ℕ) → prev ≡ Some p → has_child prevs p ≡ true
seen_child prevs placed tips prev n earlier s p is = elim (s.taken p is) [
  | inl child ↦ child
  | inr gone ↦
      let low : p < length prevs = earlier p is in
      let size : length placed ≡ length prevs = (numbered_placed prevs placed tips n).size in
      absurd (there placed p (omega arith) gone)
]

going_on : (prevs : List (Option ℕ)) (placed : List Spot) (tips : List ℕ) (prev : Option ℕ) → AreSpotsNumbered prevs placed tips → ((p : ℕ) → prev ≡ Some p → p < length prevs) → length prevs < 4294967295 →
    (c : Continues prevs placed prev (next_spot prevs placed prev)) → AreSpotsNumbered (prevs ++ prev ∷ []) (placed ++ spot_at c.spot.chain (suc c.spot.place) ∷ []) (cond (eqb (suc c.spot.place) 0) (tips ++ length prevs ∷ []) (set tips c.spot.chain (length prevs)))
going_on prevs placed tips prev n earlier few c =
    let later : eqb (suc c.spot.place) 0 ≡ false = grind (arith, nat_tests) in
    let next : next_spot prevs placed (Some c.item) ≡ spot_at c.spot.chain (suc c.spot.place) = ap (λ (o : Option ℕ). next_spot prevs placed o) (sym c.is) ∙ c.behind in
    let made = numbered_continue prevs placed tips c.item c.spot n (earlier c.item c.is) few next c.at c.free in
    rw (later, c.is) made

-- what the fields keep with one item more
pub numbered_next : (prevs : List (Option ℕ)) (placed : List Spot) (tips : List ℕ) (prev : Option ℕ) (x : Spot) → AreSpotsNumbered prevs placed tips → ((p : ℕ) → prev ≡ Some p → p < length prevs) → length prevs < 4294967295 →
    x ≡ next_spot prevs (spots prevs) prev → AreSpotsNumbered (prevs ++ prev ∷ []) (placed ++ x ∷ []) (cond (eqb x.place 0) (tips ++ length prevs ∷ []) (set tips x.chain (length prevs)))
numbered_next prevs placed tips prev x n earlier few is =
    let x_is : x ≡ next_spot prevs placed prev = is ∙ ap (λ (l : List Spot). next_spot prevs l prev) (sym n.same) in
    let Goal : Spot → Type 0 = λ (y : Spot). AreSpotsNumbered (prevs ++ prev ∷ []) (placed ++ y ∷ []) (cond (eqb y.place 0) (tips ++ length prevs ∷ []) (set tips y.chain (length prevs))) in
    elim (next_cases prevs placed prev) [
      | inl s ↦ subst Goal (sym (x_is ∙ s.first)) (numbered_start prevs placed tips prev n earlier few s.first (seen_child prevs placed tips prev n earlier s))
      | inr c ↦ subst Goal (sym (x_is ∙ c.behind)) (going_on prevs placed tips prev n earlier few c)
    ]

-- ---- the next item's place

by_free : (prevs : List (Option ℕ)) (placed : List Spot) (item : ℕ) (spot : Spot) (b : Bool) → b ≡ false → slice_get placed item ≡ Some spot → cond b (next_chain placed) (place_behind placed (slice_get placed item)) ≡ spot_at spot.chain (spot.place + 1)
by_free prevs placed item spot true free at = absurd cc
by_free prevs placed item spot false free at = ap (λ (o : Option Spot). place_behind placed o) at

-- the prev is its chain's tip: the chain continues
pub prev_free : (prevs : List (Option ℕ)) (placed : List Spot) (tips : List ℕ) (item : ℕ) (spot : Spot) → AreSpotsNumbered prevs placed tips → slice_get placed item ≡ Some spot → slice_get tips spot.chain ≡ Some item → next_spot prevs (spots prevs) (Some item) ≡ spot_at spot.chain (spot.place + 1)
prev_free prevs placed tips item spot n at tip =
    subst (λ (l : List Spot). next_spot prevs l (Some item) ≡ spot_at spot.chain (spot.place + 1)) n.same (by_free prevs placed item spot (has_child prevs item) (n.childless item spot at tip) at)

by_child : (prevs : List (Option ℕ)) (placed : List Spot) (tips : List ℕ) (item : ℕ) (spot : Spot) (other : ℕ) → AreSpotsNumbered prevs placed tips → slice_get placed item ≡ Some spot → slice_get tips spot.chain ≡ Some other → other ≢ item →
    (b : Bool) → has_child prevs item ≡ b → cond b (next_chain placed) (place_behind placed (slice_get placed item)) ≡ next_chain placed
by_child prevs placed tips item spot other n at tip differs true e = refl
by_child prevs placed tips item spot other n at tip differs false e = let t : slice_get tips spot.chain ≡ Some item = n.tip item spot at e in let same : other ≡ item = cc in absurd (differs same)

-- the prev isn't its chain's tip: a chain starts
pub prev_taken : (prevs : List (Option ℕ)) (placed : List Spot) (tips : List ℕ) (item : ℕ) (spot : Spot) (other : ℕ) → AreSpotsNumbered prevs placed tips → slice_get placed item ≡ Some spot → slice_get tips spot.chain ≡ Some other → other ≢ item → next_spot prevs (spots prevs) (Some item) ≡ spot_at (chain_count prevs) 0
prev_taken prevs placed tips item spot other n at tip differs =
    subst (λ (l : List Spot). next_spot prevs l (Some item) ≡ spot_at (chains_of l) 0) n.same (by_child prevs placed tips item spot other n at tip differs (has_child prevs item) refl)

-- nothing is kept of no items
pub none_numbered : AreSpotsNumbered [] [] []
unfolding spots spots_behind
none_numbered = record {
  same = refl;
  chains = refl;
  last = λ chain item e. absurd cc;
  tip = λ item s e free. absurd cc;
  childless = λ item s e tip. absurd cc;
  forest = λ item p e. absurd cc;
  few = omega arith;
}

-- ---- what the code asks

pub prev_low : (prev : Option ℕ) (n p : ℕ) → IfSome prev (λ item. item < n) → prev ≡ Some p → p < n
prev_low prev n p low e = let P : Option ℕ → Type 0 = λ o. IfSome o (λ item. item < n) in subst P e low

pub size_placed : (prevs : List (Option ℕ)) (placed : List Spot) (tips : List ℕ) → AreSpotsNumbered prevs placed tips → length placed ≡ length prevs
size_placed prevs placed tips n = (numbered_placed prevs placed tips n).size

-- the chain of an item is there
pub chain_there : (prevs : List (Option ℕ)) (placed : List Spot) (tips : List ℕ) (item : ℕ) (spot : Spot) → AreSpotsNumbered prevs placed tips → slice_get placed item ≡ Some spot → spot.chain < length tips
chain_there prevs placed tips item spot n at = let low : spot.chain < chains_of placed = (numbered_placed prevs placed tips n).chain item spot at in let chains : length tips ≡ chains_of placed = n.chains in omega arith

-- an item's place isn't above its number
pub place_low : (prevs : List (Option ℕ)) (placed : List Spot) (tips : List ℕ) (item : ℕ) (spot : Spot) → AreSpotsNumbered prevs placed tips → slice_get placed item ≡ Some spot → spot.place ≤ item
place_low prevs placed tips item spot n at = (numbered_placed prevs placed tips n).place item spot at

later_place : (prevs : List (Option ℕ)) (placed : List Spot) (tips : List ℕ) (prev : Option ℕ) (x : Spot) → AreSpotsNumbered prevs placed tips → x ≡ next_spot prevs placed prev → (x.place ≡ 0 → ⊥) → x.chain < length tips
later_place prevs placed tips prev x n is later = elim (next_cases prevs placed prev) [
  | inl s ↦ absurd (later (ap (λ (y : Spot). y.place) (is ∙ s.first)))
  | inr c ↦
      let low : c.spot.chain < length tips = chain_there prevs placed tips c.item c.spot n c.at in
      let same : x.chain ≡ c.spot.chain = ap (λ (y : Spot). y.chain) (is ∙ c.behind) in
      omega arith
]

-- after another item of its chain, the next item has a chain that is there
pub chain_of_later : (prevs : List (Option ℕ)) (placed : List Spot) (tips : List ℕ) (prev : Option ℕ) (x : Spot) → AreSpotsNumbered prevs placed tips → x ≡ next_spot prevs (spots prevs) prev → (x.place ≡ 0 → ⊥) → x.chain < length tips
chain_of_later prevs placed tips prev x n is later = later_place prevs placed tips prev x n (is ∙ ap (λ (l : List Spot). next_spot prevs l prev) (sym n.same)) later

-- the spot of the item that was added
pub spot_of_added : (prevs : List (Option ℕ)) (prev : Option ℕ) → slice_get (spots (prevs ++ prev ∷ [])) (length prevs) ≡ Some (next_spot prevs (spots prevs) prev)
spot_of_added prevs prev = ap (λ (l : List Spot). slice_get l (length prevs)) (spots_next prevs prev) ∙ at_pushed (spots prevs) (next_spot prevs (spots prevs) prev) (length prevs) (sym (all_placed prevs).size)
