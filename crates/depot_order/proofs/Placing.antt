-- How the spots of a forest lie: chains by their places.
use Rattle.std.proofs.Common.{◌≡◌, ℕ, zero, suc, ◌+◌, ◌-◌, nat_lt, ◌<◌, ◌≤◌, List, [], ◌∷◌, ◌++◌, length, Bool, true, false, cond, eqb, Option, Some, None, refl, sym, ap, subst, ◌∙◌, arith, inl, inr, ◌⊎◌, add-one, append_assoc, append-nil, length-append}
use Rattle.std.proofs.lemmas.Bool.{ltb-true, ltb-false}
use Rattle.std.proofs.lemmas.Bool.Decides.{nat_tests}
use Rattle.std.proofs.lemmas.List.Sums.{sum_by-append}
use Rattle.std.proofs.lemmas.Option.{slice_get_within}
use Rattle.std.proofs.lemmas.Map.Keys.{any_passes_from_place}
use Rattle.std.specs.List.{slice_get}
use Rattle.depot_base.proofs.GeneralLaws.{from_pushed, to_pushed}
use Rattle.depot_order.specs.declared.chains.Spot.{Spot}
use Rattle.depot_order.specs.Spots.{IsForest, IsTip, is_item, has_child, chains_of, next_chain, place_behind, next_spot, spots_behind, spots, LeadsBack}
use Rattle.depot_order.proofs.SpotPlaces.{at_pushed}

abbrev pub spot_at : ℕ → ℕ → Spot
spot_at chain place = record { chain = chain; place = place }

-- the item before one, by its prev: the place before it in the same chain
pub record Behind (prevs : List (Option ℕ)) (placed : List Spot) (item chain place : ℕ) : Type 0 where
  pub prev : ℕ
  pub is : slice_get prevs item ≡ Some (Some prev)
  pub spot : slice_get placed prev ≡ Some (spot_at chain place)

-- how the spots of some items lie
pub record Placed (prevs : List (Option ℕ)) (placed : List Spot) : Type 0 where
  pub size : length placed ≡ length prevs
  pub back : (item chain place : ℕ) → slice_get placed item ≡ Some (spot_at chain (suc place)) → Behind prevs placed item chain place
  pub once : (a b : ℕ) (s : Spot) → slice_get placed a ≡ Some s → slice_get placed b ≡ Some s → a ≡ b
  pub chain : (item : ℕ) (s : Spot) → slice_get placed item ≡ Some s → s.chain < chains_of placed
  pub place : (item : ℕ) (s : Spot) → slice_get placed item ≡ Some s → s.place ≤ item
  pub started : (c : ℕ) → c < chains_of placed → (item : ℕ) × (slice_get placed item ≡ Some (spot_at c 0))

-- the next item continues the chain of its prev, which has no child yet
pub record Continues (prevs : List (Option ℕ)) (placed : List Spot) (prev : Option ℕ) (next : Spot) : Type 0 where
  pub item : ℕ
  pub spot : Spot
  pub is : prev ≡ Some item
  pub at : slice_get placed item ≡ Some spot
  pub free : has_child prevs item ≡ false
  pub behind : next ≡ spot_at spot.chain (suc spot.place)

-- the next item starts a chain: it has no prev, or its prev has a child, or isn't there
pub record Starts (prevs : List (Option ℕ)) (placed : List Spot) (prev : Option ℕ) (next : Spot) : Type 0 where
  pub first : next ≡ next_chain placed
  pub taken : (item : ℕ) → prev ≡ Some item → (has_child prevs item ≡ true) ⊎ (slice_get placed item ≡ None)

continues_at : (prevs : List (Option ℕ)) (placed : List Spot) (p : ℕ) (o : Option Spot) → slice_get placed p ≡ o → has_child prevs p ≡ false → Starts prevs placed (Some p) (place_behind placed o) ⊎ Continues prevs placed (Some p) (place_behind placed o)
continues_at prevs placed p None at free = inl (record { first = refl; taken = λ item e. let same : p ≡ item = cc in inr (subst (λ (i : ℕ). slice_get placed i ≡ None) same at) })
continues_at prevs placed p (Some s) at free = inr (record { item = p; spot = s; is = refl; at = at; free = free; behind = rw add-one refl })

by_child : (prevs : List (Option ℕ)) (placed : List Spot) (p : ℕ) (b : Bool) → has_child prevs p ≡ b → Starts prevs placed (Some p) (cond b (next_chain placed) (place_behind placed (slice_get placed p))) ⊎ Continues prevs placed (Some p) (cond b (next_chain placed) (place_behind placed (slice_get placed p)))
by_child prevs placed p true e = inl (record { first = refl; taken = λ item same. let is : p ≡ item = cc in inl (subst (λ (i : ℕ). has_child prevs i ≡ true) is e) })
by_child prevs placed p false e = continues_at prevs placed p (slice_get placed p) refl e

-- the two ways to go on
pub next_cases : (prevs : List (Option ℕ)) (placed : List Spot) (prev : Option ℕ) → Starts prevs placed prev (next_spot prevs placed prev) ⊎ Continues prevs placed prev (next_spot prevs placed prev)
next_cases prevs placed None = inl (record { first = refl; taken = λ item e. absurd cc })
next_cases prevs placed (Some p) = by_child prevs placed p (has_child prevs p) refl

-- a child by its place in the list
pub child_there : (prevs : List (Option ℕ)) (item p : ℕ) → slice_get prevs item ≡ Some (Some p) → has_child prevs p ≡ true
child_there prevs item p e = any_passes_from_place (is_item p) prevs item (Some p) e (grind (arith, nat_tests))

-- ---- one more item

chains_more : (placed : List Spot) (x : Spot) → chains_of (placed ++ x ∷ []) ≡ chains_of placed + cond (eqb x.place 0) 1 0
chains_more placed x = sum_by-append (λ (s : Spot). cond (eqb s.place 0) 1 0) placed (x ∷ []) ∙ omega arith

pub chains_start : (placed : List Spot) (c : ℕ) → chains_of (placed ++ spot_at c 0 ∷ []) ≡ chains_of placed + 1
chains_start placed c = chains_more placed (spot_at c 0)

pub chains_continue : (placed : List Spot) (c k : ℕ) → chains_of (placed ++ spot_at c (suc k) ∷ []) ≡ chains_of placed
chains_continue placed c k = chains_more placed (spot_at c (suc k)) ∙ grind (arith, nat_tests)

behind_more : (prevs : List (Option ℕ)) (placed : List Spot) (prev : Option ℕ) (x : Spot) (item chain place : ℕ) → Behind prevs placed item chain place → Behind (prevs ++ prev ∷ []) (placed ++ x ∷ []) item chain place
behind_more prevs placed prev x item chain place b = record { prev = b.prev; is = to_pushed prevs prev item (Some b.prev) b.is; spot = to_pushed placed x b.prev (spot_at chain place) b.spot }

below_or_at : (c n : ℕ) → c < n + 1 → (c < n) ⊎ (c ≡ n)
below_or_at c n h = grind arith

placed_start : (prevs : List (Option ℕ)) (placed : List Spot) (prev : Option ℕ) → Placed prevs placed → Placed (prevs ++ prev ∷ []) (placed ++ next_chain placed ∷ [])
placed_start prevs placed prev p =
    let x : Spot = next_chain placed in
    let more : chains_of (placed ++ x ∷ []) ≡ chains_of placed + 1 = chains_start placed (chains_of placed) in
    let size : length placed ≡ length prevs = p.size in
    record {
      size = simp length-append (omega arith);
      back = λ item chain place e. elim (from_pushed placed x item _ e) [
        | inl h ↦ behind_more prevs placed prev x item chain place (p.back item chain place h)
        | inr h ↦ let never : 0 ≡ suc place = ap (λ (s : Spot). s.place) h.1 in absurd (omega arith)
      ];
      once = λ a b s at_a at_b. elim (from_pushed placed x a s at_a) [
        | inl h ↦ elim (from_pushed placed x b s at_b) [
          | inl k ↦ p.once a b s h k
          | inr k ↦ let low : s.chain < chains_of placed = p.chain a s h in let same : chains_of placed ≡ s.chain = ap (λ (t : Spot). t.chain) k.1 in absurd (omega arith)
        ]
        | inr h ↦ elim (from_pushed placed x b s at_b) [
          | inl k ↦ let low : s.chain < chains_of placed = p.chain b s k in let same : chains_of placed ≡ s.chain = ap (λ (t : Spot). t.chain) h.1 in absurd (omega arith)
          | inr k ↦ h.0 ∙ sym k.0
        ]
      ];
      chain = λ item s e. elim (from_pushed placed x item s e) [
        | inl h ↦ let low : s.chain < chains_of placed = p.chain item s h in omega arith
        | inr h ↦ let same : chains_of placed ≡ s.chain = ap (λ (t : Spot). t.chain) h.1 in omega arith
      ];
      place = λ item s e. elim (from_pushed placed x item s e) [
        | inl h ↦ p.place item s h
        | inr h ↦ let same : 0 ≡ s.place = ap (λ (t : Spot). t.place) h.1 in omega arith
      ];
      started = λ c low. elim (below_or_at c (chains_of placed) (omega arith)) [
        | inl h ↦ let r = p.started c h in (r.0, to_pushed placed x r.0 _ r.1)
        | inr h ↦ (length placed, subst (λ (n : ℕ). slice_get (placed ++ x ∷ []) (length placed) ≡ Some (spot_at n 0)) (sym h) (at_pushed placed x (length placed) refl))
      ];
    }

placed_continue : (prevs : List (Option ℕ)) (placed : List Spot) (item : ℕ) (spot : Spot) → slice_get placed item ≡ Some spot → has_child prevs item ≡ false → Placed prevs placed → Placed (prevs ++ Some item ∷ []) (placed ++ spot_at spot.chain (suc spot.place) ∷ [])
placed_continue prevs placed item spot at free p =
    let x : Spot = spot_at spot.chain (suc spot.place) in
    let same_chains : chains_of (placed ++ x ∷ []) ≡ chains_of placed = chains_continue placed spot.chain spot.place in
    let size : length placed ≡ length prevs = p.size in
    let here : spot.place ≤ item = p.place item spot at in
    let inside : item < length placed = slice_get_within placed item spot at in
    let known : spot.chain < chains_of placed = p.chain item spot at in
    let new : (a : ℕ) → slice_get placed a ≡ Some x → ⊥ =
    λ a e. let b = p.back a spot.chain spot.place e in
    let same : b.prev ≡ item = p.once b.prev item spot b.spot at in
    let child : has_child prevs item ≡ true = subst (λ (i : ℕ). has_child prevs i ≡ true) same (child_there prevs a b.prev b.is) in
    cc in
    record {
      size = simp length-append (omega arith);
      back = λ i chain place e. elim (from_pushed placed x i _ e) [
        | inl h ↦ behind_more prevs placed (Some item) x i chain place (p.back i chain place h)
        | inr h ↦
            let same_chain : spot.chain ≡ chain = ap (λ (s : Spot). s.chain) h.1 in
            let same_place : spot.place ≡ place = (let q : suc spot.place ≡ suc place = ap (λ (s : Spot). s.place) h.1 in omega arith) in
            let is : spot ≡ spot_at chain place = ap (λ (c : ℕ). spot_at c spot.place) same_chain ∙ ap (λ (k : ℕ). spot_at chain k) same_place in
            record { prev = item; is = at_pushed prevs (Some item) i (omega arith); spot = subst (λ (s : Spot). slice_get (placed ++ x ∷ []) item ≡ Some s) is (to_pushed placed x item spot at) }
      ];
      once = λ a b s at_a at_b. elim (from_pushed placed x a s at_a) [
        | inl h ↦ elim (from_pushed placed x b s at_b) [
          | inl k ↦ p.once a b s h k
          | inr k ↦ absurd (new a (subst (λ (t : Spot). slice_get placed a ≡ Some t) (sym k.1) h))
        ]
        | inr h ↦ elim (from_pushed placed x b s at_b) [
          | inl k ↦ absurd (new b (subst (λ (t : Spot). slice_get placed b ≡ Some t) (sym h.1) k))
          | inr k ↦ h.0 ∙ sym k.0
        ]
      ];
      chain = λ i s e. elim (from_pushed placed x i s e) [
        | inl h ↦ let low : s.chain < chains_of placed = p.chain i s h in omega arith
        | inr h ↦ let same : spot.chain ≡ s.chain = ap (λ (t : Spot). t.chain) h.1 in omega arith
      ];
      place = λ i s e. elim (from_pushed placed x i s e) [
        | inl h ↦ p.place i s h
        | inr h ↦ let same : suc spot.place ≡ s.place = ap (λ (t : Spot). t.place) h.1 in omega arith
      ];
      started = λ c low. let r = p.started c (omega arith) in (r.0, to_pushed placed x r.0 _ r.1);
    }

-- the spots lie so with one item more
pub placed_next : (prevs : List (Option ℕ)) (placed : List Spot) (prev : Option ℕ) → Placed prevs placed → Placed (prevs ++ prev ∷ []) (placed ++ next_spot prevs placed prev ∷ [])
placed_next prevs placed prev p = elim (next_cases prevs placed prev) [
  | inl s ↦ subst (λ (x : Spot). Placed (prevs ++ prev ∷ []) (placed ++ x ∷ [])) (sym s.first) (placed_start prevs placed prev p)
  | inr c ↦ subst (λ (x : Spot). Placed (prevs ++ prev ∷ []) (placed ++ x ∷ [])) (sym c.behind)
      (subst (λ (o : Option ℕ). Placed (prevs ++ o ∷ []) (placed ++ spot_at c.spot.chain (suc c.spot.place) ∷ [])) (sym c.is) (placed_continue prevs placed c.item c.spot c.at c.free p))
]

placed_behind : (before : List (Option ℕ)) (placed : List Spot) (rest : List (Option ℕ)) → Placed before placed → Placed (before ++ rest) (spots_behind before placed rest)
unfolding spots_behind
placed_behind before placed [] p = subst (λ (l : List (Option ℕ)). Placed l placed) (sym (append-nil before)) p
placed_behind before placed (prev ∷ rest) p =
    subst (λ (l : List (Option ℕ)). Placed l (spots_behind (before ++ prev ∷ []) (placed ++ next_spot before placed prev ∷ []) rest)) (append_assoc before (prev ∷ []) rest)
    (placed_behind (before ++ prev ∷ []) (placed ++ next_spot before placed prev ∷ []) rest (placed_next before placed prev p))

pub none_placed : Placed [] []
none_placed = record {
  size = refl;
  back = λ item chain place e. absurd cc;
  once = λ a b s e f. absurd cc;
  chain = λ item s e. absurd cc;
  place = λ item s e. absurd cc;
  started = λ c low. absurd (omega arith);
}

-- the spots of all items lie so
pub all_placed : (prevs : List (Option ℕ)) → Placed prevs (spots prevs)
unfolding spots
all_placed prevs = placed_behind [] [] prevs none_placed

spots_behind_next : (before : List (Option ℕ)) (placed : List Spot) (rest : List (Option ℕ)) (prev : Option ℕ) → spots_behind before placed (rest ++ prev ∷ []) ≡ spots_behind before placed rest ++ next_spot (before ++ rest) (spots_behind before placed rest) prev ∷ []
unfolding spots_behind
spots_behind_next before placed [] prev = ap (λ (l : List (Option ℕ)). placed ++ next_spot l placed prev ∷ []) (sym (append-nil before))
spots_behind_next before placed (q ∷ rest) prev =
    let first : Spot = next_spot before placed q in
    let all : List Spot = spots_behind (before ++ q ∷ []) (placed ++ first ∷ []) rest in
    spots_behind_next (before ++ q ∷ []) (placed ++ first ∷ []) rest prev ∙ ap (λ (l : List (Option ℕ)). all ++ next_spot l all prev ∷ []) (append_assoc before (q ∷ []) rest)

-- the spot of one item more
pub spots_next : (prevs : List (Option ℕ)) (prev : Option ℕ) → spots (prevs ++ prev ∷ []) ≡ spots prevs ++ next_spot prevs (spots prevs) prev ∷ []
unfolding spots
spots_next prevs prev = spots_behind_next [] [] prevs prev

-- ---- paths

-- this many places back in a chain
pub record Earlier (prevs : List (Option ℕ)) (placed : List Spot) (steps item chain place : ℕ) : Type 0 where
  pub from : ℕ
  pub spot : slice_get placed from ≡ Some (spot_at chain place)
  pub path : LeadsBack prevs steps item from

pub back_by : (prevs : List (Option ℕ)) (placed : List Spot) → Placed prevs placed → (steps item chain place : ℕ) → slice_get placed item ≡ Some (spot_at chain (steps + place)) → Earlier prevs placed steps item chain place
back_by prevs placed p zero item chain place e = record { from = item; spot = subst (λ (n : ℕ). slice_get placed item ≡ Some (spot_at chain n)) (omega arith) e; path = refl }
back_by prevs placed p (suc steps) item chain place e =
    let there : slice_get placed item ≡ Some (spot_at chain (suc (steps + place))) = subst (λ (n : ℕ). slice_get placed item ≡ Some (spot_at chain n)) (omega arith) e in
    let b = p.back item chain (steps + place) there in
    let r = back_by prevs placed p steps b.prev chain place b.spot in
    record { from = r.from; spot = r.spot; path = (b.prev, (b.is, r.path)) }

-- two items of a chain
pub path_between : (prevs : List (Option ℕ)) (placed : List Spot) → Placed prevs placed → (a b : ℕ) (s t : Spot) → slice_get placed a ≡ Some s → slice_get placed b ≡ Some t → s.chain ≡ t.chain → (steps : ℕ) → t.place ≡ steps + s.place → LeadsBack prevs steps b a
path_between prevs placed p a b s t at_a at_b same steps more =
    let there : t ≡ spot_at s.chain (steps + s.place) = ap (λ (c : ℕ). spot_at c t.place) (sym same) ∙ ap (λ (k : ℕ). spot_at s.chain k) more in
    let r = back_by prevs placed p steps b s.chain s.place (at_b ∙ ap (λ (x : Spot). Some x) there) in
    subst (λ (i : ℕ). LeadsBack prevs steps b i) (p.once r.from a s r.spot at_a) r.path

-- ---- tips

-- steps by prev lead to earlier items
leads_earlier : (prevs : List (Option ℕ)) → IsForest prevs → (steps from to : ℕ) → LeadsBack prevs steps from to → to + steps ≤ from
leads_earlier prevs forest zero from to same = omega (arith, same)
leads_earlier prevs forest (suc steps) from to b = omega (arith, forest from b.0 b.1.0, leads_earlier prevs forest steps b.0 to b.1.1)

-- no item of a chain follows its last one
pub tip_is_highest : (prevs : List (Option ℕ)) (chain tip : ℕ) → IsForest prevs → (t : IsTip (spots prevs) chain tip) → (item place : ℕ) → slice_get (spots prevs) item ≡ Some (spot_at chain place) → place ≤ t.place
tip_is_highest prevs chain tip forest t item place at = by_test (nat_lt t.place place) refl where
  by_test : (b : Bool) → nat_lt t.place place ≡ b → place ≤ t.place
  by_test false is = ltb-false t.place place is
  by_test true is =
      let higher = ltb-true t.place place is in
      let path = path_between prevs (spots prevs) (all_placed prevs) tip item (spot_at chain t.place) (spot_at chain place) t.own at refl (place - t.place) (omega (arith, higher)) in
      let later : tip < item = omega (arith, higher, leads_earlier prevs forest (place - t.place) item tip path) in
      absurd (t.last item (spot_at chain place) at later refl)
