-- A whole world: one node that reads, puts and reads again. It is a world, authentic and free of collisions, and it is
-- fork-join causal and convicts no correct node.
use Rattle.std.proofs.Common.{◌≡◌, ◌⊎◌, ◌↔◌, ℕ, zero, suc, ◌*◌, ◌<◌, List, [], ◌∷◌, ◌++◌, length, take, drop, Bool, true, false, cond, ◌==◌, Option, Some, None, slice_get, ◌∙◌, refl, sym, ap, subst, arith, rules, inl, inr}
use Rattle.sha2.specs.Sha256.{sha256, first_words, schedule, rounds, compress, hash_after, digest_bytes}
use Rattle.depot_base.specs.Writes.{one_change}
use Rattle.depot_base.specs.Cursor.{numeral}
use Rattle.depot_base.specs.Format.{number, bytes_of, inner, list_of}
use Rattle.depot_base.specs.Parts.{dep, roster_entry}
use Rattle.depot_base.specs.Zeros.{zeros}
use Rattle.depot_base.specs.declared.update.Update.{Update}
use Rattle.depot_base.specs.declared.key.RosterEntry.{RosterEntry}
use Rattle.depot_base.specs.declared.record.Record.{Record}
use Rattle.depot_base.specs.declared.record.Record.TheVariants.{Birth, OwnPut}
use Rattle.depot_model.specs.lists.Lists.{IsIn}
use Rattle.depot_model.specs.texts.Texts.{update_fields, update_body, roster, id_of_update, hash_of_roster}
use Rattle.depot_model.specs.texts.Records.{birth, own_put, tagged, record_text, IsRecord}
use Rattle.depot_model.specs.updates.Order.{IsPath, IsParent, Precedes, past, IsLatest, AreLatestIn, parents}
use Rattle.depot_model.specs.updates.History.{leaves_of, put_by_id, by_id, history_text, history_hash}
use Rattle.depot_model.specs.texts.Roster.{key_of}
use Rattle.depot_model.specs.updates.Chains.{IsChain}
use Rattle.depot_model.specs.journals.Journal.{accepted, has_id, prev_of, named, first_values, seen_under}
use Rattle.depot_model.specs.checks.Checks.{Setting}
use Rattle.depot_model.specs.checks.Own.{precedes_named, next_entries, next_own, leaf_count}
use Rattle.depot_model.specs.checks.Room.{foreign_leaves, full_with}
use Rattle.depot_model.specs.journals.Lawful.{IsAllowed, IsLawful}
use Rattle.depot_base.specs.declared.write.Wrote.{Wrote}
use Rattle.depot_base.specs.declared.write.Wrote.TheVariants.{Put, Gone}
use Rattle.depot_model.specs.texts.Contents.{Sighting, held_value, not_held, gone, Writes, IsValueOf, IfHeld, wrote_under, value_for}
use Rattle.depot_model.specs.worlds.World.{Shown, Read, Correct, World, IsRead, IsCorrect, IsWorld, IsAuthentic, IsCollisionFree, hashed_texts, writes_of}
use Rattle.depot_model.specs.worlds.Causality.{Operation, write, read_at, IsOperation, puts_of, Edge, ObservedBefore, IsOf, MadeBefore, IsStrictOrder, IsLine, ObservesAll, HasPut, IsExact, HasForests, IsForkJoinCausal, ConvictsNoCorrectNode}
use Rattle.std.proofs.lemmas.List.{length-append}
use Rattle.depot_model.proofs.of_updates.Orders.{leads_trans}

-- ---- the world

abbrev members : List RosterEntry
members = record { node = 1; key = record { root = zeros; height = 2 } } ∷ []

abbrev here : Setting
here = record { verifies = λ key seq body signature. true; me = 1; listed = members }

abbrev born : List Record
born = Birth 1 (hash_of_roster members) ∷ []

-- what the node puts first
one : Update
one = next_own 1 born (one_change (107 ∷ []) (97 ∷ []))

abbrev put : Record
put = OwnPut one ((97 ∷ []) ∷ [])

abbrev journal : List Record
journal = Birth 1 (hash_of_roster members) ∷ put ∷ []

abbrev before : Read
before = record { at = 1; key = 107 ∷ []; answer = [] }

abbrev after : Read
after = record { at = 2; key = 107 ∷ []; answer = record { update = one; seen = held_value (97 ∷ []) } ∷ [] }

abbrev node : Correct
node = record { node = 1; journal = journal; reads = before ∷ after ∷ [] }

abbrev world : World
world = record { verifies = λ key seq body signature. true; listed = members; nodes = node ∷ []; judged = [] }

-- ---- the journal is lawful

birth_text : IsRecord (Birth 1 (hash_of_roster members))
unfolding sha256 first_words schedule rounds compress hash_after digest_bytes id_of_update update_body update_fields numeral number bytes_of list_of dep record_text tagged birth own_put inner foreign_leaves leaves_of full_with roster hash_of_roster roster_entry
birth_text = search rules

put_text : IsRecord put
unfolding sha256 first_words schedule rounds compress hash_after digest_bytes id_of_update update_body update_fields numeral number bytes_of list_of dep record_text tagged birth own_put inner foreign_leaves leaves_of full_with roster hash_of_roster roster_entry next_own next_entries precedes_named prev_of named past by_id put_by_id history_hash history_text one
put_text = search rules

birth_allowed : IsAllowed here [] (Birth 1 (hash_of_roster members))
unfolding sha256 first_words schedule rounds compress hash_after digest_bytes id_of_update update_body update_fields numeral number bytes_of list_of dep record_text tagged birth own_put inner foreign_leaves leaves_of full_with roster hash_of_roster roster_entry
birth_allowed = record { first = refl; text = birth_text; may = (refl, refl); room = refl }

abbrev front_byte : List ℕ → ℕ
front_byte [] = 0
front_byte (b ∷ bytes) = b

put_allowed : IsAllowed here born put
unfolding sha256 first_words schedule rounds compress hash_after digest_bytes id_of_update update_body update_fields numeral number bytes_of list_of dep record_text tagged birth own_put inner foreign_leaves leaves_of full_with roster hash_of_roster roster_entry next_own next_entries precedes_named prev_of named past by_id put_by_id history_hash history_text one has_id leaf_count key_of
put_allowed = record {
  first = refl;
  text = put_text;
  may = record { next = refl; fresh = record { named = λ same. (let byte : 223 ≡ 0 = ap front_byte same in omega (arith, byte)); new = refl }; tips = omega arith; leaf = omega arith };
  room = refl;
}

-- ---- lists of one and of two, taken apart

split_one : {X : Type 0} (x y : X) (front behind : List X) → x ∷ [] ≡ front ++ y ∷ behind → (front ≡ []) × ((x ≡ y) × (behind ≡ []))
split_one x y [] [] e = (refl, (ap (first_or x) e, refl)) where
  first_or : {X : Type 0} → X → List X → X
  first_or d [] = d
  first_or d (z ∷ zs) = z
split_one x y [] (b ∷ behind) e = let one_is_more : 1 ≡ suc (suc (length behind)) = ap length e in absurd (omega (arith, one_is_more))
split_one x y (f ∷ front) behind e = let one_is_more : 1 ≡ suc (length (front ++ y ∷ behind)) = ap length e in absurd (omega (arith, one_is_more, length-append front (y ∷ behind)))

tail : {X : Type 0} → List X → List X
tail [] = []
tail (x ∷ xs) = xs

head_or : {X : Type 0} → X → List X → X
head_or d [] = d
head_or d (x ∷ xs) = x

split_two : {X : Type 0} (x z y : X) (front behind : List X) → x ∷ z ∷ [] ≡ front ++ y ∷ behind → ((front ≡ []) × (x ≡ y)) ⊎ ((front ≡ x ∷ []) × (z ≡ y))
unfolding tail head_or
split_two x z y [] behind e = inl (refl, ap (head_or x) e)
split_two x z y (f ∷ front) behind e =
    let same : x ≡ f = ap (head_or x) e in
    let more = split_one z y front behind (ap tail e) in
    inr (ap (λ (fs : List _). f ∷ fs) more.0 ∙ ap (λ g. g ∷ []) (sym same), more.1.0)

allowed : (front : List Record) (r : Record) (behind : List Record) → journal ≡ front ++ r ∷ behind → IsAllowed here front r
allowed front r behind e = elim (split_two (Birth 1 (hash_of_roster members)) put r front behind e) [
  | inl p ↦ subst (λ (x : Record). IsAllowed here front x) p.1 (subst (λ (fs : List Record). IsAllowed here fs (Birth 1 (hash_of_roster members))) (sym p.0) birth_allowed)
  | inr p ↦ subst (λ (x : Record). IsAllowed here front x) p.1 (subst (λ (fs : List Record). IsAllowed here fs put) (sym p.0) put_allowed)
]

journal_lawful : IsLawful here journal
journal_lawful = record { each = allowed }

-- ---- what is observed

-- a write is between the two reads
rank : Operation → ℕ
rank (write u) = 1
rank (read_at c place r) = 2 * place

none_of_one : parents one ≡ []
unfolding one leaves_of next_own next_entries precedes_named prev_of named past by_id put_by_id history_hash history_text sha256 first_words schedule rounds compress hash_after digest_bytes id_of_update update_body update_fields numeral number bytes_of list_of dep
none_of_one = refl

only_write : (u : Update) → IsIn u (writes_of world) → one ≡ u
only_write u (inl same) = same
only_write u (inr never) = absurd never

read_is : (c : Correct) (place : ℕ) (r : Read) → IsOperation world (read_at c place r) → (node ≡ c) × (((place ≡ 0) × (before ≡ r)) ⊎ ((place ≡ 1) × (after ≡ r)))
read_is c place r known = elim known.0 [
  | inl same ↦ (same, which place r (subst (λ (x : Correct). slice_get x.reads place ≡ Some r) (sym same) known.1))
  | inr never ↦ absurd never
] where
  got : Option Read → Read → Read
  got None d = d
  got (Some x) d = x

  which : (n : ℕ) (s : Read) → slice_get node.reads n ≡ Some s → ((n ≡ 0) × (before ≡ s)) ⊎ ((n ≡ 1) × (after ≡ s))
  which zero s e = inl (refl, ap (λ (o : Option Read). got o before) e)
  which (suc zero) s e = inr (refl, ap (λ (o : Option Read). got o after) e)
  which (suc (suc n)) s e = absurd cc

higher : (a b : Operation) → Edge world a b → rank a < rank b
unfolding rank
higher (write t) (write u) e = absurd (subst (λ (hs : List (List ℕ)). IsIn (id_of_update t) hs) none_of_one (subst (λ (x : Update). IsIn (id_of_update t) (parents x)) (sym (only_write u e.below)) e.step))
higher (write t) (read_at c place r) e = let k = read_is c place r e.below in elim k.1 [
  | inl p ↦ absurd (subst (λ (x : Correct). IsIn t (accepted (take before.at x.journal))) (sym k.0) (subst (λ (x : Read). IsIn t (accepted (take x.at c.journal))) (sym p.1) e.step))
  | inr p ↦ omega (arith, p.0)
]
higher (read_at c place r) (write u) e = let k = read_is c place r e.above in elim k.1 [
  | inl p ↦ omega (arith, p.0)
  | inr p ↦ absurd (subst (λ (x : Correct). IsIn u (puts_of (drop after.at x.journal))) (sym k.0) (subst (λ (x : Read). IsIn u (puts_of (drop x.at c.journal))) (sym p.1) e.step))
]
higher (read_at c i r) (read_at d j s) e = omega (arith, e.step.1)

climbs : (a b : Operation) → ObservedBefore world a b → rank a < rank b
climbs a b o = go a o.stops o.path where
  go : (x : Operation) (stops : List Operation) → IsPath (Edge world) x stops b → rank x < rank b
  go x [] path = higher x b path
  go x (y ∷ stops) path = let up = higher x y path.0 in let more = go y stops path.1 in omega (arith, up, more)

strict : IsStrictOrder world
strict = record { onward = λ a b c p q. leads_trans (Edge world) a b c p q; never = λ a o. (let up = climbs a a o in omega (arith, up)) }

-- ---- each part

own_is : (u : Update) → IsIn u (puts_of journal) → one ≡ u
own_is u (inl same) = same
own_is u (inr never) = absurd never

its_read : (c : Correct) (place : ℕ) (r : Read) → IsOf node (read_at c place r) → IsOperation world (read_at c place r)
its_read c place r of = (inl (sym of.0), subst (λ (x : Correct). slice_get x.reads place ≡ Some r) (sym of.0) of.1)

in_line : (a b : Operation) → IsOf node a → IsOf node b → (a ≡ b) ⊎ (MadeBefore node a b ⊎ MadeBefore node b a)
in_line (write t) (write u) p q = inl (ap (λ (x : Update). write x) (sym (own_is t p) ∙ own_is u q))
in_line (write t) (read_at c place r) p q = elim (read_is c place r (its_read c place r q)).1 [
  | inl k ↦ inr (inr (subst (λ (x : Read). IsIn t (puts_of (drop x.at journal))) k.1 p))
  | inr k ↦ inr (inl (subst (λ (x : Read). IsIn t (puts_of (take x.at journal))) k.1 p))
]
in_line (read_at c place r) (write u) p q = elim (read_is c place r (its_read c place r p)).1 [
  | inl k ↦ inr (inl (subst (λ (x : Read). IsIn u (puts_of (drop x.at journal))) k.1 q))
  | inr k ↦ inr (inr (subst (λ (x : Read). IsIn u (puts_of (take x.at journal))) k.1 q))
]
in_line (read_at c i r) (read_at d j s) p q = elim (read_is c i r (its_read c i r p)).1 [
  | inl k ↦ elim (read_is d j s (its_read d j s q)).1 [
    | inl m ↦ inl (same_read c d i j r s (p.0 ∙ sym q.0) (k.0 ∙ sym m.0) (sym k.1 ∙ m.1))
    | inr m ↦ inr (inl (omega (arith, k.0, m.0)))
  ]
  | inr k ↦ elim (read_is d j s (its_read d j s q)).1 [
    | inl m ↦ inr (inr (omega (arith, k.0, m.0)))
    | inr m ↦ inl (same_read c d i j r s (p.0 ∙ sym q.0) (k.0 ∙ sym m.0) (sym k.1 ∙ m.1))
  ]
] where
  same_read : (c d : Correct) (i j : ℕ) (r s : Read) → c ≡ d → i ≡ j → r ≡ s → read_at c i r ≡ read_at d j s
  same_read c d i j r s a b e = ap (λ (x : Correct). read_at x i r) a ∙ (ap (λ (n : ℕ). read_at d n r) b ∙ ap (λ (x : Read). read_at d j x) e)

written_op : (u : Update) → IsIn u (puts_of journal) → IsOperation world (write u)
written_op u (inl same) = inl same
written_op u (inr never) = absurd never

in_order : (a b : Operation) → IsOf node a → IsOf node b → MadeBefore node a b → ObservedBefore world a b
in_order (write t) (write u) p q m = absurd (none_first m.front (split_one one u m.front m.behind m.parts).0 m.earlier) where
  none_first : (front : List Update) → front ≡ [] → IsIn t front → ⊥
  none_first [] e on = on
  none_first (x ∷ xs) e on = let more_is_none : suc (length xs) ≡ 0 = ap length e in omega (arith, more_is_none)
in_order (write t) (read_at c place r) p q m = record { stops = []; path = record { above = written_op t p; below = its_read c place r q; step = subst (λ (x : Correct). IsIn t (accepted (take r.at x.journal))) (sym q.0) (accepted_put t r (read_is c place r (its_read c place r q)).1 m) } } where
  accepted_put : (t : Update) (r : Read) → ((place ≡ 0) × (before ≡ r)) ⊎ ((place ≡ 1) × (after ≡ r)) → IsIn t (puts_of (take r.at journal)) → IsIn t (accepted (take r.at journal))
  accepted_put t r (inl k) on = absurd (subst (λ (x : Read). IsIn t (puts_of (take x.at journal))) (sym k.1) on)
  accepted_put t r (inr k) on = subst (λ (x : Read). IsIn t (accepted (take x.at journal))) k.1 (subst (λ (x : Read). IsIn t (puts_of (take x.at journal))) (sym k.1) on)
in_order (read_at c place r) (write u) p q m = record { stops = []; path = record { above = its_read c place r p; below = written_op u q; step = subst (λ (x : Correct). IsIn u (puts_of (drop r.at x.journal))) (sym p.0) m } }
in_order (read_at c i r) (read_at d j s) p q m = record { stops = []; path = record { above = its_read c i r p; below = its_read d j s q; step = (p.0 ∙ sym q.0, m) } }

line : IsLine world node
line = record { total = in_line; order = in_order }

all_observed : ObservesAll world node
all_observed front r behind e t u on of = elim (split_two (Birth 1 (hash_of_roster members)) put r front behind e) [
  | inl p ↦ absurd (subst (λ (fs : List Record). IsIn t (accepted fs)) p.0 on)
  | inr p ↦ absurd (subst (λ (fs : List Record). IsIn t (accepted fs)) p.0 on)
]

-- the first read shows nothing, and nothing precedes it
first_exact : IsExact world node 0 before
unfolding rank
first_exact = record {
  latest = record { all = λ u l. absurd (let up = climbs (write u) (read_at node 0 before) l.known in omega (arith, up)); only = λ u never. absurd never; rising = tt };
  named = λ s never. absurd never;
  gone_shown = λ s never. absurd never;
  put = λ s d never on writer. absurd never;
}

read_one : ObservedBefore world (write one) (read_at node 1 after)
read_one = record { stops = []; path = record { above = inl refl; below = (inl refl, refl); step = inl refl } }

observed_write : (u : Update) (b : Operation) → ObservedBefore world (write u) b → one ≡ u
observed_write u b o = only_write u (first_above o.stops o.path) where
  first_above : (stops : List Operation) → IsPath (Edge world) (write u) stops b → IsOperation world (write u)
  first_above [] path = path.above
  first_above (y ∷ stops) path = path.0.above

one_names : IsValueOf (107 ∷ []) one (97 ∷ [])
unfolding one next_own next_entries precedes_named prev_of named past by_id put_by_id history_hash history_text sha256 first_words schedule rounds compress hash_after digest_bytes
one_names = refl

one_writes : Writes (107 ∷ []) one
unfolding one next_own
one_writes = inl refl

-- which is no deletion
abbrev is_gone : Option Wrote → ℕ
is_gone None = 0
is_gone (Some (Put hash size)) = 0
is_gone (Some Gone) = 1

one_puts : is_gone (wrote_under (107 ∷ []) one.writes) ≡ 0
unfolding one next_own
one_puts = refl

-- its record holds that value for it
put_holds : value_for (107 ∷ []) one.writes ((97 ∷ []) ∷ []) ≡ Some (97 ∷ [])
unfolding one next_own
put_holds = refl

one_stays : wrote_under (107 ∷ []) one.writes ≡ Some Gone → ⊥
one_stays same = let none_is_one : 0 ≡ 1 = sym one_puts ∙ ap is_gone same in omega (arith, none_is_one)

abbrev shows_gone : Sighting → ℕ
shows_gone (held_value v) = 0
shows_gone not_held = 0
shows_gone gone = 1

last_exact : IsExact world node 1 after
unfolding rank
last_exact = record {
  latest = record {
    all = λ u l. inl (observed_write u (read_at node 1 after) l.known);
    only = λ u on. elim on [
      | inl same ↦ subst (λ (x : Update). IsLatest (107 ∷ []) (λ w. ObservedBefore world (write w) (read_at node 1 after)) (λ v w. ObservedBefore world (write v) (write w)) x) same (record {
        known = read_one;
        writes = one_writes;
        last = λ v known same_key o. (let up = climbs (write one) (write v) o in omega (arith, up));
      })
      | inr never ↦ absurd never
    ];
    rising = (tt, tt);
  };
  named = λ s on. elim on [
    | inl same ↦ subst (λ (x : Shown). IfHeld x.seen (λ v. IsValueOf (107 ∷ []) x.update v)) same one_names
    | inr never ↦ absurd never
  ];
  gone_shown = λ s on. elim on [
    | inl same ↦ subst (λ (x : Shown). (x.seen ≡ gone) ↔ (wrote_under (107 ∷ []) x.update.writes ≡ Some Gone)) same ((λ is. absurd (let none_is_one : 0 ≡ 1 = ap shows_gone is in omega (arith, none_is_one))), (λ is. absurd (one_stays is)))
    | inr never ↦ absurd never
  ];
  put = λ s d on d_in writer. elim d_in [
    | inl same ↦ subst (λ (x : Correct). HasPut x (107 ∷ []) s) same (put_here s on)
    | inr never ↦ absurd never
  ];
} where
  put_here : (s : Shown) → IsIn s after.answer → HasPut node (107 ∷ []) s
  put_here s (inl same) = subst (λ (x : Shown). HasPut node (107 ∷ []) x) same (record { by = put; kept = inr (inl refl); put = (refl, put_holds) })
  put_here s (inr never) = absurd never

exact : (c : Correct) (place : ℕ) (r : Read) → IsIn c world.nodes → slice_get c.reads place ≡ Some r → IsExact world c place r
exact c place r on got =
    let k = read_is c place r (on, got) in
    subst (λ (x : Correct). IsExact world x place r) k.0 (elim k.1 [
      | inl p ↦ subst (λ (x : Read). IsExact world node place x) p.1 (subst (λ (n : ℕ). IsExact world node n before) (sym p.0) first_exact)
      | inr p ↦ subst (λ (x : Read). IsExact world node place x) p.1 (subst (λ (n : ℕ). IsExact world node n after) (sym p.0) last_exact)
    ])

no_prev : one.prev ≡ zeros
unfolding one next_own
no_prev = refl

forests : HasForests journal
forests = record {
  prev = λ front u behind e named. absurd (named (ap (λ (x : Update). x.prev) (sym (split_one one u front behind e).1.0) ∙ no_prev));
  chain = λ w free. chained (one.writer == w);
  exposed = λ a b never. absurd never;
} where
  chained : (b : Bool) → IsChain zeros (cond b (one ∷ []) [])
  chained true = (no_prev, tt)
  chained false = tt

only_node : (P : Correct → Type 0) → P node → (c : Correct) → IsIn c world.nodes → P c
only_node P here_p c (inl same) = subst P same here_p
only_node P here_p c (inr never) = absurd never

-- the world is fork-join causal
causal_world : IsForkJoinCausal world
causal_world = record { strict = strict; lines = only_node (IsLine world) line; causes = only_node (ObservesAll world) all_observed; reads = exact; forests = only_node (λ c. HasForests c.journal) forests }

-- ---- and it is one of those of which the property is promised

value_is : seen_under journal (107 ∷ []) one ≡ held_value (97 ∷ [])
unfolding one next_own sha256 first_words schedule rounds compress hash_after digest_bytes seen_under first_values
value_is = refl

none_before : (among : List Update) (t : Update) → Precedes among t one → ⊥
none_before among t p = go t p.stops p.path where
  named_by_one : (x : Update) → IsParent among x one → ⊥
  named_by_one x step = subst (λ (hs : List (List ℕ)). IsIn (id_of_update x) hs) none_of_one step.named

  go : (x : Update) (stops : List Update) → IsPath (IsParent among) x stops one → ⊥
  go x [] path = named_by_one x path
  go x (y ∷ stops) path = go y stops path.1

one_latest : AreLatestIn (107 ∷ []) (one ∷ []) (one ∷ [])
one_latest = record {
  all = λ u l. l.known;
  only = λ u on. elim on [
    | inl same ↦ subst (λ (w : Update). IsLatest (107 ∷ []) (λ x. IsIn x (one ∷ [])) (Precedes (one ∷ [])) w) same (record {
      known = inl refl;
      writes = one_writes;
      last = λ v v_in same_key p. elim v_in [
        | inl here ↦ none_before (one ∷ []) one (subst (λ (w : Update). Precedes (one ∷ []) one w) (sym here) p)
        | inr never ↦ never
      ];
    })
    | inr never ↦ absurd never
  ];
  rising = (tt, tt);
}

reads_right : (r : Read) → IsIn r node.reads → IsRead journal r
reads_right r (inl same) = subst (λ (x : Read). IsRead journal x) same (record { begun = omega arith; within = omega arith; latest = record { all = λ u l. absurd l.known; only = λ u never. absurd never; rising = tt }; values = λ s never. absurd never })
reads_right r (inr (inl same)) = subst (λ (x : Read). IsRead journal x) same (record { begun = omega arith; within = omega arith; latest = one_latest; values = λ s on. shown s on }) where
  shown : (s : Shown) → IsIn s after.answer → s.seen ≡ seen_under journal (107 ∷ []) s.update
  shown s (inl is) = subst (λ (x : Shown). x.seen ≡ seen_under journal (107 ∷ []) x.update) is (sym value_is)
  shown s (inr never) = absurd never
reads_right r (inr (inr never)) = absurd never

node_correct : IsCorrect world node
unfolding key_of
node_correct = record { member = refl; lawful = journal_lawful; begun = refl; reads = reads_right; in_order = ((omega arith, tt), (tt, tt)) }

is_world : IsWorld world
is_world = record { distinct = (tt, tt); correct = only_node (IsCorrect world) node_correct; formed = λ p never. absurd never; judged = λ p never. absurd never }

authentic : IsAuthentic world
authentic = record { made = λ s c never. absurd never }

-- the body and the value have two digests, and neither is zeros
body_hash : front_byte (id_of_update one) ≡ 223
unfolding one leaves_of next_own next_entries precedes_named prev_of named past by_id put_by_id history_hash history_text sha256 first_words schedule rounds compress hash_after digest_bytes id_of_update update_body update_fields numeral number bytes_of list_of dep
body_hash = refl

value_hash : front_byte (sha256 (97 ∷ [])) ≡ 202
unfolding sha256 first_words schedule rounds compress hash_after digest_bytes
value_hash = refl

collision_free : IsCollisionFree world
unfolding id_of_update
collision_free = record { one = λ a b p q same. alike a b p q same; named = λ u on zero_id. unnamed u on zero_id } where
  alike : (a b : List ℕ) → IsIn a (hashed_texts world) → IsIn b (hashed_texts world) → sha256 a ≡ sha256 b → a ≡ b
  alike a b (inl p) (inl q) same = sym p ∙ q
  alike a b (inl p) (inr (inl q)) same = absurd (let byte : 223 ≡ 202 = sym body_hash ∙ (ap (λ (t : List ℕ). front_byte (sha256 t)) p ∙ (ap front_byte same ∙ (ap (λ (t : List ℕ). front_byte (sha256 t)) (sym q) ∙ value_hash))) in omega (arith, byte))
  alike a b (inr (inl p)) (inl q) same = absurd (let byte : 202 ≡ 223 = sym value_hash ∙ (ap (λ (t : List ℕ). front_byte (sha256 t)) p ∙ (ap front_byte same ∙ (ap (λ (t : List ℕ). front_byte (sha256 t)) (sym q) ∙ body_hash))) in omega (arith, byte))
  alike a b (inr (inl p)) (inr (inl q)) same = sym p ∙ q
  alike a b (inr (inr never)) q same = absurd never
  alike a b p (inr (inr never)) same = absurd never

  unnamed : (u : Update) → IsIn u (writes_of world) → id_of_update u ≡ zeros → ⊥
  unnamed u (inl is) zero_id = let byte : 223 ≡ 0 = sym body_hash ∙ (ap (λ (x : Update). front_byte (id_of_update x)) is ∙ ap front_byte zero_id) in omega (arith, byte)
  unnamed u (inr never) zero_id = never

none_convicted : ConvictsNoCorrectNode world
none_convicted = record { never = λ c p on never. absurd never }
