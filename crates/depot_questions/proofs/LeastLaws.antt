-- The least of keys, put one after another.
use Rattle.std.proofs.Common.{◌≡◌, ℕ, zero, suc, ◌+◌, ◌-◌, ◌<◌, ◌≤◌, Bool, true, false, cond, List, [], ◌∷◌, ◌++◌, length, length-append, length-take, map, filter, take, drop, get_or, nat_lt, Option, None, Some, Bor, refl, sym, ap, ◌∙◌, arith}
use Rattle.std.proofs.lemmas.List.{drop_all, map-append, take_all, take-append-le, take-map, take-take}
use Rattle.std.specs.Prelude.{◌↔◌, IfSome, IsSome, min, slice_get}
use Rattle.std.proofs.lemmas.Bool.{ltb-true, ltb-false}
use Rattle.std.proofs.lemmas.Option.{slice_get-get_or}
use Rattle.std.specs.List.{flat_map}
use Rattle.std.specs.BTreeSet.{insert_key}
use Rattle.std.specs.Cmp.Lexicographic.{slice_cmp}
use Rattle.std.specs.Ordering.{nat_cmp, match_ordering}
use Rattle.std.specs.Str.{bytes_eq}
use Rattle.std.specs.declared.cmp.Ordering.{Ordering}
use Rattle.std.specs.declared.cmp.Ordering.TheVariants.{Less, Equal, Greater}
use Rattle.depot_base.specs.Parts.{is_below}
use Rattle.depot_model.specs.checks.Vouching.{put_rising, rising}
use Rattle.depot_base.specs.declared.update.Update.{Update}
use Rattle.depot_base.specs.declared.write.Write.{Write}
use Rattle.depot_model.specs.texts.Contents.{keys_written}
use Rattle.depot_model.proofs.lists.Elements.{from_place}
use Rattle.depot_model.proofs.lists.RisingIds.{insert_put}
use Rattle.depot_questions.specs.Answers.{is_key_above, key_page}
use Rattle.depot_questions.specs.LeastKeys.{least_of}
use Rattle.depot_questions.proofs.ToldUpdates.{same_below}

-- the bytes of keys that are lent
abbrev pub lent : List (Bor (List ℕ)) → List (List ℕ)
lent ks = map (λ k. k.now) ks

-- ---- one key

inserted : (cmp : Bor (List ℕ) → Bor (List ℕ) → Ordering) → ((a b : Bor (List ℕ)) → cmp a b ≡ slice_cmp nat_cmp a.now b.now) → (ks : List (Bor (List ℕ))) (k : Bor (List ℕ)) → lent (insert_key cmp ks k) ≡ insert_key (slice_cmp nat_cmp) (lent ks) k.now
inserted cmp is [] k = refl
inserted cmp is (x ∷ xs) k =
    by_order (cmp k x) (inserted cmp is xs k) ∙ ap (λ (o : Ordering). match_ordering o (k.now ∷ x.now ∷ lent xs) (x.now ∷ lent xs) (x.now ∷ insert_key (slice_cmp nat_cmp) (lent xs) k.now)) (is k x) where
      by_order : (o : Ordering) → lent (insert_key cmp xs k) ≡ insert_key (slice_cmp nat_cmp) (lent xs) k.now
          → lent (match_ordering o (k ∷ x ∷ xs) (x ∷ xs) (x ∷ insert_key cmp xs k)) ≡ match_ordering o (k.now ∷ x.now ∷ lent xs) (x.now ∷ lent xs) (x.now ∷ insert_key (slice_cmp nat_cmp) (lent xs) k.now)
      by_order Less rest = refl
      by_order Equal rest = refl
      by_order Greater rest = ap (λ (ys : List (List ℕ)). x.now ∷ ys) rest

pub put_in : (cmp : Bor (List ℕ) → Bor (List ℕ) → Ordering) → ((a b : Bor (List ℕ)) → cmp a b ≡ slice_cmp nat_cmp a.now b.now) → (old new : List (Bor (List ℕ))) (k : Bor (List ℕ)) → new ≡ insert_key cmp old k → lent new ≡ put_rising k.now (lent old)
put_in cmp is old new k more = ap lent more ∙ inserted cmp is old k ∙ insert_put k.now (lent old)

as_long : (ks : List (Bor (List ℕ))) → length (lent ks) ≡ length ks
as_long [] = refl
as_long (k ∷ ks) = ap (λ (n : ℕ). suc n) (as_long ks)

-- all of few
pub all_kept : (n : ℕ) (ks : List (Bor (List ℕ))) (keys : List (List ℕ)) → length ks ≤ n → lent ks ≡ keys → lent ks ≡ take n keys
all_kept n ks keys few is = sym (take_all n (lent ks) (omega (arith, few, as_long ks))) ∙ ap (take n) is

-- the last one is left out
pub last_left : (n : ℕ) (all rest : List (Bor (List ℕ))) (last : Bor (List ℕ)) (keys : List (List ℕ)) → all ≡ rest ++ last ∷ [] → length rest ≡ n → lent all ≡ keys → lent rest ≡ take n keys
last_left n all rest last keys parts long is =
    let whole : keys ≡ lent rest ++ last.now ∷ [] = sym is ∙ ap lent parts ∙ map-append (λ (k : Bor (List ℕ)). k.now) rest (last ∷ []) in
    sym (ap (take n) whole ∙ take-append-le n (lent rest) (last.now ∷ []) (omega (arith, long, as_long rest)) ∙ take_all n (lent rest) (omega (arith, long, as_long rest)))

pub one_at_most : (b : Bool) → cond b 1 0 ≤ 1
one_at_most true = omega arith
one_at_most false = omega arith

-- of one key too many the last is popped
pub last_popped : (n : ℕ) (all rest : List (Bor (List ℕ))) (popped : Option (Bor (List ℕ))) (keys : List (List ℕ)) → IfSome popped (λ k. all ≡ rest ++ k ∷ []) → (IsSome popped ↔ (0 < length all)) → n < length all → length all ≤ n + 1 → lent all ≡ keys → lent rest ≡ take n keys
last_popped n all rest (Some k) keys parts some past few is = let long : length all ≡ length rest + 1 = ap (λ (x : List (Bor (List ℕ))). length x) parts ∙ length-append rest (k ∷ []) in last_left n all rest k keys parts (omega (arith, long, past, few)) is
last_popped n all rest None keys parts some past few is = let wrong : IsSome {T = Bor (List ℕ)} None = some.1 (omega (arith, past)) in absurd cc

-- ---- a prefix of the rising keys is enough

take_again : {X : Type 0} (n : ℕ) (x : X) (xs : List X) → take n (x ∷ take n xs) ≡ take n (x ∷ xs)
take_again zero x xs = refl
take_again (suc n) x xs = ap (λ (ys : List _). x ∷ ys) (take-take n (suc n) xs (omega arith))

front_put : (h : List ℕ) (n : ℕ) (s : List (List ℕ)) → take n (put_rising h (take n s)) ≡ take n (put_rising h s)
unfolding put_rising
front_put h zero s = refl
front_put h (suc n) [] = refl
front_put h (suc n) (x ∷ xs) = by_tests (is_below h x) (bytes_eq h x) (front_put h n xs) where
  by_tests : (below same : Bool) → take n (put_rising h (take n xs)) ≡ take n (put_rising h xs)
      → take (suc n) (cond below (h ∷ x ∷ take n xs) (cond same (x ∷ take n xs) (x ∷ put_rising h (take n xs)))) ≡ take (suc n) (cond below (h ∷ x ∷ xs) (cond same (x ∷ xs) (x ∷ put_rising h xs)))
  by_tests true same rest = ap (λ (ys : List (List ℕ)). h ∷ ys) (take_again n x xs)
  by_tests false true rest = ap (λ (ys : List (List ℕ)). x ∷ ys) (take-take n n xs (omega arith))
  by_tests false false rest = ap (λ (ys : List (List ℕ)). x ∷ ys) rest

pub key_noted : (after : Option (List ℕ)) (key : List ℕ) (keys old new : List (List ℕ)) → is_key_above after key ≡ true → old ≡ least_of after keys → new ≡ take 1025 (put_rising key old) → new ≡ least_of after (key ∷ keys)
unfolding rising
key_noted after key keys old new above so_far more =
    let first : rising (filter (is_key_above after) (key ∷ keys)) ≡ put_rising key (rising (filter (is_key_above after) keys)) = rw above refl in
    more ∙ ap (λ (x : List (List ℕ)). take 1025 (put_rising key x)) so_far ∙ front_put key 1025 (rising (filter (is_key_above after) keys)) ∙ sym (ap (take 1025) first)

pub key_left : (after : Option (List ℕ)) (key : List ℕ) (keys old : List (List ℕ)) → is_key_above after key ≡ false → old ≡ least_of after keys → old ≡ least_of after (key ∷ keys)
key_left after key keys old above so_far = let same : filter (is_key_above after) (key ∷ keys) ≡ filter (is_key_above after) keys = rw above refl in so_far ∙ sym (ap (λ (x : List (List ℕ)). take 1025 (rising x)) same)

-- ---- keys after those that were noted

-- from the least of keys after them, with these keys first
pub record HasNoted (after : Option (List ℕ)) (first now : List (Bor (List ℕ))) (keys : List (List ℕ)) : Type 0 where
  pub few : length now ≤ 1025
  pub put : (behind : List (List ℕ)) → lent first ≡ least_of after behind → lent now ≡ least_of after (keys ++ behind)

abbrev pub keys_from : ℕ → List Write → List (List ℕ)
keys_from n ws = map (λ w. w.key) (drop n ws)

pub none_noted : (after : Option (List ℕ)) (ks : List (Bor (List ℕ))) (ws : List Write) (n : ℕ) → length ks ≤ 1025 → length ws ≤ n → HasNoted after ks ks (keys_from n ws)
none_noted after ks ws n few all = record { few = few; put = λ behind is. is ∙ ap (λ (x : List Write). least_of after (map (λ w. w.key) x ++ behind)) (sym (drop_all n ws all)) }

one_back : {X : Type 0} (xs : List X) (i : ℕ) (x : X) → 0 < i → i - 1 < length xs → x ≡ get_or xs (i - 1) x → drop (i - 1) xs ≡ x ∷ drop i xs
one_back xs i x pos low is =
    let next : i - 1 + 1 ≡ i = omega (arith, pos) in
    from_place xs (i - 1) x (slice_get-get_or xs (i - 1) x low ∙ ap (λ (y : _). Some y) (sym is)) ∙ ap (λ (n : ℕ). x ∷ drop n xs) next

pub one_noted : (after : Option (List ℕ)) (first old new : List (Bor (List ℕ))) (ws : List Write) (i : ℕ) (w : Write) (key : List ℕ) → 0 < i → i - 1 < length ws → w ≡ get_or ws (i - 1) w → key ≡ w.key → is_key_above after key ≡ true → length new ≤ 1025
    → lent new ≡ take 1025 (put_rising key (lent old)) → HasNoted after first old (keys_from i ws) → HasNoted after first new (keys_from (i - 1) ws)
one_noted after first old new ws i w key pos low is same above few more noted = record {
  few = few;
  put = λ behind start.
      let cut : key ∷ (keys_from i ws ++ behind) ≡ keys_from (i - 1) ws ++ behind = ap (λ (k : List ℕ). k ∷ (keys_from i ws ++ behind)) same ∙ sym (ap (λ (x : List Write). map (λ v. v.key) x ++ behind) (one_back ws i w pos low is)) in
      key_noted after key (keys_from i ws ++ behind) (lent old) (lent new) above (noted.put behind start) more ∙ ap (least_of after) cut;
}

pub one_passed : (after : Option (List ℕ)) (first old : List (Bor (List ℕ))) (ws : List Write) (i : ℕ) (w : Write) (key : List ℕ) → 0 < i → i - 1 < length ws → w ≡ get_or ws (i - 1) w → key ≡ w.key → is_key_above after key ≡ false
    → HasNoted after first old (keys_from i ws) → HasNoted after first old (keys_from (i - 1) ws)
one_passed after first old ws i w key pos low is same above noted = record {
  few = noted.few;
  put = λ behind start.
      let cut : key ∷ (keys_from i ws ++ behind) ≡ keys_from (i - 1) ws ++ behind = ap (λ (k : List ℕ). k ∷ (keys_from i ws ++ behind)) same ∙ sym (ap (λ (x : List Write). map (λ v. v.key) x ++ behind) (one_back ws i w pos low is)) in
      key_left after key (keys_from i ws ++ behind) (lent old) above (noted.put behind start) ∙ ap (least_of after) cut;
}

pub all_noted : (after : Option (List ℕ)) (first now : List (Bor (List ℕ))) (ws : List Write) (n : ℕ) → n ≤ 0 → HasNoted after first now (keys_from n ws) → (behind : List (List ℕ)) → lent first ≡ least_of after behind → lent now ≡ least_of after (map (λ w. w.key) ws ++ behind)
all_noted after first now ws n none noted behind start =
    let no : n ≡ 0 = omega (arith, none) in
    noted.put behind start ∙ ap (λ (k : ℕ). least_of after (keys_from k ws ++ behind)) no

-- ---- the keys of all updates

-- these are the least keys of the updates from a place on
pub record AreLeast (after : Option (List ℕ)) (us : List Update) (n : ℕ) (ks : List (Bor (List ℕ))) : Type 0 where
  pub few : length ks ≤ 1025
  pub are : lent ks ≡ least_of after (flat_map keys_written (drop n us))

pub none_least : (after : Option (List ℕ)) (us : List Update) (n : ℕ) (ks : List (Bor (List ℕ))) → ks ≡ [] → length us ≤ n → AreLeast after us n ks
unfolding rising
none_least after us n ks none all = record {
  few = omega (arith, ap (λ (x : List (Bor (List ℕ))). length x) none);
  are = ap lent none ∙ sym (ap (λ (x : List Update). least_of after (flat_map keys_written x)) (drop_all n us all));
}

pub more_least : (after : Option (List ℕ)) (us : List Update) (n : ℕ) (u : Update) (old new : List (Bor (List ℕ))) → 0 < n → slice_get us (n - 1) ≡ Some u → AreLeast after us n old → length new ≤ 1025
    → ((behind : List (List ℕ)) → lent old ≡ least_of after behind → lent new ≡ least_of after (keys_written u ++ behind)) → AreLeast after us (n - 1) new
more_least after us n u old new pos at least few put =
    let next : n - 1 + 1 ≡ n = omega (arith, pos) in
    record {
      few = few;
      are = put (flat_map keys_written (drop n us)) least.are ∙ sym (ap (λ (x : List Update). least_of after (flat_map keys_written x)) (from_place us (n - 1) u at ∙ ap (λ (k : ℕ). u ∷ drop k us) next));
    }

pub all_least : (after : Option (List ℕ)) (us : List Update) (n : ℕ) (ks : List (Bor (List ℕ))) → n ≤ 0 → AreLeast after us n ks → lent ks ≡ least_of after (flat_map keys_written us)
all_least after us n ks none least = let no : n ≡ 0 = omega (arith, none) in least.are ∙ ap (λ (k : ℕ). least_of after (flat_map keys_written (drop k us))) no

-- ---- a page

-- of so many keys
pub so_many : (ks front : List (Bor (List ℕ))) (count long : ℕ) (told : List (List ℕ)) → long ≡ length ks → front ≡ take count ks → count ≡ min long 1024 → told ≡ lent front → record { keys = told; more = nat_lt 1024 long } ≡ key_page (lent ks)
so_many ks front count long told is cut few copied =
    let R = lent ks in
    let page : told ≡ take 1024 R = copied ∙ ap lent cut ∙ sym (take-map (λ (k : Bor (List ℕ)). k.now) count ks) ∙ ap (λ (n : ℕ). take n R) few ∙ by_room (nat_lt 1024 long) refl in
    ap (λ (x : List (List ℕ)). record { keys = x; more = nat_lt 1024 long }) page ∙ ap (λ (n : ℕ). record { keys = take 1024 R; more = nat_lt 1024 n }) (is ∙ sym (as_long ks)) where
      by_room : (b : Bool) → nat_lt 1024 long ≡ b → take (min long 1024) (lent ks) ≡ take 1024 (lent ks)
      by_room true lt = let e : min long 1024 ≡ 1024 = omega (arith, ltb-true _ _ lt) in ap (λ (n : ℕ). take n (lent ks)) e
      by_room false ge = take_all (min long 1024) (lent ks) (omega (arith, is, as_long ks, ltb-false _ _ ge)) ∙ sym (take_all 1024 (lent ks) (omega (arith, is, as_long ks, ltb-false _ _ ge)))

-- one key more than a page has is enough to make it
pub enough : (R keys : List (List ℕ)) → keys ≡ take 1025 R → key_page keys ≡ key_page R
enough R keys are =
    let short : length keys ≡ min 1025 (length R) = ap (λ (x : List (List ℕ)). length x) are ∙ length-take 1025 R in
    let page : take 1024 keys ≡ take 1024 R = ap (take 1024) are ∙ take-take 1024 1025 R (omega arith) in
    let more : nat_lt 1024 (length keys) ≡ nat_lt 1024 (length R) = same_below 1024 (length keys) 1024 (length R) (λ lt. omega (arith, lt, short)) (λ lt. omega (arith, lt, short)) in
    ap (λ (x : List (List ℕ)). record { keys = x; more = nat_lt 1024 (length keys) }) page ∙ ap (λ (b : Bool). record { keys = take 1024 R; more = b }) more
