-- The hello of a lawful journal has a text.
use Rattle.std.proofs.Common.{◌≡◌, ℕ, zero, suc, ◌≤◌, ltb, List, [], ◌∷◌, ◌++◌, map, take, length, Bool, true, false, not, cond, Option, Some, refl, subst, arith}
use Rattle.std.specs.List.{AllByRecursion, filter, flat_map}
use Rattle.std.specs.Int.{w8, w16}
use Rattle.std.proofs.lemmas.List.{length-map}
use Rattle.std.proofs.lemmas.Bool.{ltb-true, lt-ltb}
use Rattle.depot_base.specs.Format.{Follows, number, list_of}
use Rattle.depot_base.specs.Parts.{node_number, node_rises, digest, is_below, roster_entry, roster_entry_rises}
use Rattle.depot_base.specs.declared.update.Update.{Update}
use Rattle.depot_base.specs.declared.key.RosterEntry.{RosterEntry}
use Rattle.depot_base.specs.declared.record.Record.{Record}
use Rattle.depot_base.proofs.Numbers.{number_within}
use Rattle.depot_model.specs.declared.hello.HelloLeaf.{HelloLeaf}
use Rattle.depot_model.specs.lists.Lists.{IsIn}
use Rattle.depot_model.specs.texts.Texts.{IsRoster, IsUpdate, hash_of_roster}
use Rattle.depot_model.specs.updates.History.{leaves_of, by_id, is_lower}
use Rattle.depot_model.specs.journals.Journal.{accepted, is_convicted, holds}
use Rattle.depot_model.specs.checks.Checks.{Setting}
use Rattle.depot_model.specs.texts.Contents.{NamedValue, values_named}
use Rattle.depot_model.specs.journals.Lawful.{IsLawful, is_empty}
use Rattle.depot_model.specs.exchange.Hello.{hello_leaf, hello_leaf_rises, hello, IsHello, named_leaf, convicted_nodes, lacking, hello_of}
use Rattle.depot_model.proofs.of_texts.FieldFacts.{roster_facts}
use Rattle.depot_model.proofs.lists.Members.{all_at, all_from, from_map, from_filter, from_take}
use Rattle.depot_model.proofs.lists.RisingLists.{RisesByTest}
use Rattle.depot_base.proofs.GeneralLaws.{filter_short}
use Rattle.depot_base.proofs.EntryLists.{last_pushed}
use Rattle.depot_laws.proofs.lists.Splits.{given_by}
use Rattle.depot_model.proofs.lists.RisingUpdates.{from_by_id, own_ids_from_causal, own_ids_filter, rises_by_id, by_id_length}
use Rattle.depot_laws.proofs.records.Rosters.{entries_fit}
use Rattle.depot_laws.proofs.records.Births.{roster_hash_is_digest, digest_from_length}
use Rattle.depot_laws.proofs.records.Causes.{leaf_is_on, lawful_is_causal}
use Rattle.depot_laws.proofs.lists.Sorted.{then_lower}
use Rattle.depot_laws.proofs.own_updates.OwnTexts.{me_fits, accepted_fit, writer_fits, id_is_digest}
use Rattle.depot_laws.proofs.lists.Groups.{from_rising}
use Rattle.depot_laws.proofs.lists.RisingBytes.{rising_rises, rising_follow, digests_follow}
use Rattle.depot_laws.proofs.records.FewLeaves.{few_leaves}
use Rattle.depot_laws.proofs.of_worlds.Worlds.{giver_in}
use Rattle.depot_laws.proofs.records.WantedValues.{name_facts}

-- ---- rising lists

-- what is left of a rising list rises
rises_filter : {X : Type 0} (before : X → X → Bool) (test : X → Bool) (xs : List X) → RisesByTest before xs → RisesByTest before (filter test xs)
rises_filter before test [] rise = tt
rises_filter before test (x ∷ xs) rise = by_test (test x) (rises_filter before test xs rise.1) where
  by_test : (b : Bool) → RisesByTest before (filter test xs) → RisesByTest before (cond b (x ∷ filter test xs) (filter test xs))
  by_test true rest = (all_from (λ y. before x y ≡ true) (filter test xs) (λ y on. all_at (λ z. before x z ≡ true) xs y rise.0 (from_filter test y xs on).0), rest)
  by_test false rest = rest

-- a beginning of a rising list rises
rises_take : {X : Type 0} (before : X → X → Bool) (n : ℕ) (xs : List X) → RisesByTest before xs → RisesByTest before (take n xs)
rises_take before zero xs rise = tt
rises_take before (suc n) [] rise = tt
rises_take before (suc n) (x ∷ xs) rise = (all_from (λ y. before x y ≡ true) (take n xs) (λ y on. all_at (λ z. before x z ≡ true) xs y rise.0 (from_take n y xs on)), rises_take before n xs rise.1)

-- ---- convicted nodes

-- entries of a roster rise by node
entries_rise : (front es : List RosterEntry) → Follows roster_entry roster_entry_rises front es → RisesByTest (λ e f. ltb e.node f.node) es
entries_rise front [] follows = tt
entries_rise front (e ∷ es) follows =
    let rest = entries_rise (front ++ e ∷ []) es follows.2 in
    (above front e es follows.2 rest, rest) where
      above : (front : List RosterEntry) (e : RosterEntry) (es : List RosterEntry) → Follows roster_entry roster_entry_rises (front ++ e ∷ []) es → RisesByTest (λ e f. ltb e.node f.node) es → AllByRecursion (λ f. ltb e.node f.node ≡ true) es
      above front e [] follows rise = tt
      above front e (f ∷ fs) follows rise =
          let next : ltb e.node f.node ≡ true = subst (λ (o : Option RosterEntry). roster_entry_rises o f ≡ true) (last_pushed front e) follows.1 in
          (next, all_from (λ (g : RosterEntry). ltb e.node g.node ≡ true) fs (λ g on. lt-ltb _ _ (omega (arith, ltb-true _ _ next, ltb-true _ _ (all_at (λ (h : RosterEntry). ltb f.node h.node ≡ true) fs g rise.0 on)))))

nodes_rise : (es : List RosterEntry) → RisesByTest (λ e f. ltb e.node f.node) es → RisesByTest ltb (map (λ e. e.node) es)
nodes_rise [] rise = tt
nodes_rise (e ∷ es) rise = (
  all_from (λ (n : ℕ). ltb e.node n ≡ true) (map (λ (f : RosterEntry). f.node) es) (λ n on. let f = from_map (λ (f : RosterEntry). f.node) n es on in subst (λ (k : ℕ). ltb e.node k ≡ true) f.1.1 (all_at (λ (g : RosterEntry). ltb e.node g.node ≡ true) es f.0 rise.0 f.1.0)),
  nodes_rise es rise.1,
)

-- the roster's entries are in their order, and are few
record IsListed (listed : List RosterEntry) : Type 0 where
  pub follows : Follows roster_entry roster_entry_rises [] listed
  pub few : length listed ≤ 256

roster_is : (listed : List RosterEntry) → IsRoster listed → IsListed listed
roster_is listed fits = let facts = roster_facts listed fits in record { follows = facts.follows; few = (number_within w16 1 256 (length listed) facts.count).1 }

node_in_range : (e : RosterEntry) → roster_entry.fits e → node_number.fits e.node
unfolding roster_entry
node_in_range e fits = fits.0

convicted_follow : (here : Setting) (J : List Record) → IsRoster here.listed → Follows node_number node_rises [] (convicted_nodes here J)
unfolding convicted_nodes
convicted_follow here J fits =
    let nodes = map (λ (e : RosterEntry). e.node) here.listed in
    rising_follow node_number node_rises ltb (λ x y e. e) [] (filter (is_convicted J) nodes) (rises_filter ltb (is_convicted J) nodes (nodes_rise here.listed (entries_rise [] here.listed (roster_is here.listed fits).follows))) (λ n on. refl)
    (λ n on. let e = from_map (λ (e : RosterEntry). e.node) n here.listed (from_filter (is_convicted J) n nodes on).0 in subst (λ (k : ℕ). node_number.fits k) e.1.1 (node_in_range e.0 (all_at roster_entry.fits here.listed e.0 (entries_fit here.listed fits) e.1.0)))

convicted_few : (here : Setting) (J : List Record) → IsRoster here.listed → length (convicted_nodes here J) ≤ 256
unfolding convicted_nodes
convicted_few here J fits =
    let short = filter_short (is_convicted J) (map (λ (e : RosterEntry). e.node) here.listed) in
    omega (arith, short, length-map here.listed (λ (e : RosterEntry). e.node), (roster_is here.listed fits).few)

-- ---- leaves

leaf_above : (t u : Update) → is_lower t u ≡ true → hello_leaf_rises (Some (named_leaf t)) (named_leaf u) ≡ true
leaf_above t u e = then_lower _ _ _ e

leaf_before : HelloLeaf → HelloLeaf → Bool
leaf_before l k = hello_leaf_rises (Some l) k

named_rise : (us : List Update) → RisesByTest is_lower us → RisesByTest leaf_before (map named_leaf us)
unfolding leaf_before
named_rise [] rise = tt
named_rise (t ∷ us) rise = (
  all_from (λ (l : HelloLeaf). leaf_before (named_leaf t) l ≡ true) (map named_leaf us) (λ l on. let u = from_map named_leaf l us on in subst (λ (k : HelloLeaf). leaf_before (named_leaf t) k ≡ true) u.1.1 (leaf_above t u.0 (all_at (λ (w : Update). is_lower t w ≡ true) us u.0 rise.0 u.1.0))),
  named_rise us rise.1,
)

leaf_fits : (u : Update) → IsUpdate u → hello_leaf.fits (named_leaf u)
unfolding hello_leaf
leaf_fits u fits = (writer_fits u fits, (id_is_digest u, refl))

leaves_follow : (here : Setting) (J : List Record) → IsLawful here J → Follows hello_leaf hello_leaf_rises [] (map named_leaf (by_id (leaves_of (accepted J))))
unfolding leaf_before leaves_of
leaves_follow here J l =
    let us = accepted J in
    let leaves = leaves_of us in
    rising_follow hello_leaf hello_leaf_rises leaf_before (λ x y e. e) [] (map named_leaf (by_id leaves)) (named_rise (by_id leaves) (rises_by_id leaves (own_ids_filter _ us (own_ids_from_causal [] us (lawful_is_causal here J l))))) (λ x on. refl)
    (λ x on. let t = from_map named_leaf x (by_id leaves) on in subst (λ (k : HelloLeaf). hello_leaf.fits k) t.1.1 (leaf_fits t.0 (accepted_fit here J t.0 l (leaf_is_on us t.0 (from_by_id t.0 leaves t.1.0)))))

-- ---- wanted values

lacking_fit : (here : Setting) (J : List Record) (h : List ℕ) → IsLawful here J → IsIn h (lacking J) → digest.fits h
unfolding lacking
lacking_fit here J h l on =
    let names = flat_map values_named (accepted J) in
    let test : NamedValue → Bool = λ n. not (holds J n.hash n.size) in
    let n = from_map (λ (n : NamedValue). n.hash) h (filter test names) (from_rising h _ on) in
    let g = given_by values_named n.0 (accepted J) (from_filter test n.0 names n.1.0).0 in
    subst (λ (k : List ℕ). digest.fits k) n.1.1 (name_facts g.by n.0 (accepted_fit here J g.by l (giver_in values_named n.0 (accepted J) g)) g.given).0

lacking_rises : (J : List Record) → RisesByTest is_below (lacking J)
unfolding lacking
lacking_rises J = rising_rises _

take_few : {X : Type 0} (n : ℕ) (xs : List X) → length (take n xs) ≤ n
take_few zero xs = omega arith
take_few (suc n) [] = omega arith
take_few (suc n) (x ∷ xs) = let rest = take_few n xs in omega (arith, rest)

-- ---- the hello

pub byte_fits : (n : ℕ) → n ≤ 255 → (number w8 n n).fits n
unfolding number
byte_fits n few = (omega arith, omega arith)

counted : (high n : ℕ) → n ≤ high → (number w16 0 high).fits n
unfolding number
counted high n few = (omega arith, few)

pub hello_fits : (here : Setting) (J : List Record) → IsRoster here.listed → IsLawful here J → is_empty J ≡ false → IsHello (hello_of here J)
unfolding hello hello_of list_of
hello_fits here J fits l some =
    let few : length (map named_leaf (by_id (leaves_of (accepted J)))) ≤ 4097 = omega (arith, length-map (by_id (leaves_of (accepted J))) named_leaf, by_id_length (leaves_of (accepted J)), few_leaves here J l) in
    let wanted_follow = digests_follow (take 1024 (lacking J)) (rises_take is_below 1024 (lacking J) (lacking_rises J)) (λ h on. lacking_fit here J h l (from_take 1024 h (lacking J) on)) in
    let version = byte_fits 1 (omega arith) in
    let kind_byte = byte_fits 3 (omega arith) in
    let roster = digest_from_length (hash_of_roster here.listed) (roster_hash_is_digest here.listed) in
    let nodes = counted 256 _ (convicted_few here J fits) in
    let leaves = counted 4097 _ few in
    let wanted = counted 1024 _ (take_few 1024 (lacking J)) in
    (version, (kind_byte, (me_fits here J l some, (roster, (nodes, ((convicted_follow here J fits, refl), (leaves, ((leaves_follow here J l, refl), (wanted, ((wanted_follow, refl), refl))))))))))
