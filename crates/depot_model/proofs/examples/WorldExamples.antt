-- Worked examples of worlds: reads, forged statements, colliding texts, observation, and proofs that name a correct node.
use Rattle.std.proofs.Common.{◌≡◌, ℕ, List, [], ◌∷◌, length, true, Option, Some, None, ◌∙◌, refl, sym, ap, subst, arith, inl, inr}
use Rattle.sha2.specs.Sha256.{sha256, first_words, schedule, rounds, compress, hash_after, digest_bytes}
use Rattle.depot_base.specs.Writes.{put_one}
use Rattle.depot_base.specs.Zeros.{zeros}
use Rattle.depot_base.specs.Statement.{writer_of}
use Rattle.depot_base.specs.declared.update.Update.{Update}
use Rattle.depot_base.specs.declared.statement.Statement.TheVariants as statements
use Rattle.depot_base.specs.declared.statement.Signed.{Signed}
use Rattle.depot_base.specs.declared.proof.Kind.TheVariants.{SamePrev}
use Rattle.depot_base.specs.declared.proof.Proof.{Proof}
use Rattle.depot_base.specs.declared.proof.Proof.TheVariants.{Pair}
use Rattle.depot_base.specs.declared.record.Record.{Record}
use Rattle.depot_base.specs.declared.record.Record.TheVariants.{Birth, OwnPut, Foreign, Conviction}
use Rattle.depot_model.specs.lists.Lists.{IsIn}
use Rattle.depot_model.specs.updates.Order.{IsPath, IsParent, Precedes, IsLatest, AreLatestIn}
use Rattle.depot_model.specs.journals.Journal.{own, first_values, seen_under}
use Rattle.depot_base.specs.declared.write.Wrote.{Wrote}
use Rattle.depot_base.specs.declared.write.Wrote.TheVariants.{Put, Gone}
use Rattle.depot_model.specs.texts.Contents.{Sighting, held_value, not_held, gone, IsValueOf, IsPutOf}
use Rattle.depot_model.specs.worlds.World.{Shown, Read, Correct, World, IsRead, NeverFall, IsAuthentic, IsCollisionFree}
use Rattle.depot_model.specs.worlds.Causality.{write, read_at, PrecedesDirectly, ObservedBefore, IsOf, MadeBefore, ConvictsNoCorrectNode}

-- numbers that tell such values apart
abbrev length_of : Sighting → ℕ
length_of not_held = 0
length_of gone = 0
length_of (held_value v) = length v

abbrev records_at : Option Read → ℕ
records_at None = 0
records_at (Some r) = r.at

abbrev size_of : Option Wrote → ℕ
size_of None = 0
size_of (Some (Put hash size)) = size
size_of (Some Gone) = 0

abbrev front : List ℕ → ℕ
front [] = 0
front (b ∷ bytes) = b

-- ---- a node that put once, and read before and after

abbrev one : Update
one = record { writer = 1; seq = 0; clock = 1; prev = zeros; writes = put_one (107 ∷ []) (sha256 (97 ∷ [])) 1; deps = []; history = zeros }

abbrev journal : List Record
journal = Birth 1 zeros ∷ OwnPut one ((97 ∷ []) ∷ []) ∷ []

-- nothing was there
abbrev before : Read
before = record { at = 1; key = 107 ∷ []; answer = [] }

-- the write with its value
abbrev after : Read
after = record { at = 2; key = 107 ∷ []; answer = record { update = one; seen = held_value (97 ∷ []) } ∷ [] }

abbrev first_node : Correct
first_node = record { node = 1; journal = journal; reads = before ∷ after ∷ [] }

abbrev world : World
world = record { verifies = λ key seq body signature. true; listed = []; nodes = first_node ∷ []; judged = [] }

-- ---- reads

nothing_latest : AreLatestIn (107 ∷ []) [] []
nothing_latest = record { all = λ u l. absurd l.known; only = λ u never. absurd never; rising = tt }

none_before_first : (among : List Update) (t : Update) → Precedes among t one → ⊥
none_before_first among t p = go t p.stops p.path where
  open_path : (v : Update) → IsParent among v one → ⊥
  open_path v step = step.named

  go : (v : Update) (stops : List Update) → IsPath (IsParent among) v stops one → ⊥
  go v [] path = open_path v path
  go v (w ∷ stops) path = go w stops path.1

one_latest : AreLatestIn (107 ∷ []) (one ∷ []) (one ∷ [])
one_latest = record {
  all = λ u l. l.known;
  only = λ u on. elim on [
    | inl same ↦ subst (λ (w : Update). IsLatest (107 ∷ []) (λ x. IsIn x (one ∷ [])) (Precedes (one ∷ [])) w) same (record {
      known = inl refl;
      writes = inl refl;
      last = λ v v_in same_key p. elim v_in [
        | inl here ↦ none_before_first (one ∷ []) one (subst (λ (w : Update). Precedes (one ∷ []) one w) (sym here) p)
        | inr never ↦ never
      ];
    })
    | inr never ↦ absurd never
  ];
  rising = (tt, tt);
}

-- the value that its record holds
value_is : seen_under journal (107 ∷ []) one ≡ held_value (97 ∷ [])
unfolding sha256 first_words schedule rounds compress hash_after digest_bytes seen_under first_values
value_is = refl

-- none under a key that it doesn't write
no_other_key : seen_under journal (108 ∷ []) one ≡ not_held
unfolding seen_under
no_other_key = refl

-- none before its record
no_value_yet : seen_under (Birth 1 zeros ∷ []) (107 ∷ []) one ≡ not_held
unfolding seen_under first_values
no_value_yet = refl

read_before : IsRead journal before
read_before = record { begun = omega arith; within = omega arith; latest = nothing_latest; values = λ s never. absurd never }

read_after : IsRead journal after
read_after = record {
  begun = omega arith;
  within = omega arith;
  latest = one_latest;
  values = λ s on. elim on [
    | inl same ↦ subst (λ (x : Shown). x.seen ≡ seen_under journal (107 ∷ []) x.update) same (sym value_is)
    | inr never ↦ absurd never
  ];
}

-- a read that shows no value where one is held
not_without_value : IsRead journal (record { at = 2; key = 107 ∷ []; answer = record { update = one; seen = not_held } ∷ [] }) → ⊥
not_without_value r = let none_is_some : 0 ≡ 1 = ap length_of (r.values (record { update = one; seen = not_held }) (inl refl) ∙ value_is) in omega (arith, none_is_some)

-- one that misses a write
not_empty : IsRead journal (record { at = 2; key = 107 ∷ []; answer = [] }) → ⊥
not_empty r = r.latest.all one (one_latest.only one (inl refl))

-- one at no record, or after the end
not_at_nothing : IsRead journal (record { at = 0; key = 107 ∷ []; answer = [] }) → ⊥
not_at_nothing r = omega (arith, r.begun)

not_behind : IsRead journal (record { at = 3; key = 107 ∷ []; answer = [] }) → ⊥
not_behind r = omega (arith, r.within)

-- reads at growing journals, and at a shrinking one
growing : NeverFall (before ∷ after ∷ after ∷ [])
growing = ((omega arith, (omega arith, tt)), ((omega arith, tt), (tt, tt)))

not_shrinking : NeverFall (after ∷ before ∷ []) → ⊥
not_shrinking n = omega (arith, n.0.0)

-- ---- observation

seen : ObservedBefore world (write one) (read_at first_node 1 after)
seen = record { stops = []; path = record { above = inl refl; below = (inl refl, refl); step = inl refl } }

-- the read before it precedes the put
first_read : ObservedBefore world (read_at first_node 0 before) (write one)
first_read = record { stops = []; path = record { above = (inl refl, refl); below = inl refl; step = inl refl } }

-- and through it the read after it
through : ObservedBefore world (read_at first_node 0 before) (read_at first_node 1 after)
unfolding first_read seen
through = record { stops = write one ∷ []; path = (first_read.path, seen.path) }

not_seen : PrecedesDirectly (write one) (read_at first_node 0 before) → ⊥
not_seen never = never

not_backward : PrecedesDirectly (read_at first_node 1 after) (write one) → ⊥
not_backward never = never

-- the read of place 0 isn't at place 1
not_there : IsOf first_node (read_at first_node 1 before) → ⊥
not_there there = let two_is_one : 2 ≡ 1 = ap records_at there.1 in omega (arith, two_is_one)

made_first : MadeBefore first_node (read_at first_node 0 before) (write one)
made_first = inl refl

-- ---- values that are shown

names_its_value : IsValueOf (107 ∷ []) one (97 ∷ [])
names_its_value = refl

other_length : IsValueOf (107 ∷ []) one (97 ∷ 97 ∷ []) → ⊥
other_length e = let one_is_two : 1 ≡ 2 = ap size_of e in omega (arith, one_is_two)

put_by_record : IsPutOf (107 ∷ []) one (held_value (97 ∷ [])) (OwnPut one ((97 ∷ []) ∷ []))
put_by_record = (refl, refl)

not_put_so : IsPutOf (107 ∷ []) one (held_value (98 ∷ [])) (OwnPut one ((97 ∷ []) ∷ [])) → ⊥
not_put_so p = let same : 97 ≡ 98 = ap front_of p.1 in omega (arith, same) where
  front_of : Option (List ℕ) → ℕ
  front_of None = 0
  front_of (Some v) = front v

-- ---- forged, or not

abbrev signed_one : Signed
signed_one = record { statement = statements.Update one; body = []; signature = [] }

abbrev second_node : Correct
second_node = record { node = 2; journal = Birth 2 zeros ∷ Foreign signed_one ∷ []; reads = [] }

-- node 2 keeps what node 1 wrote
authentic : IsAuthentic (record world { nodes = first_node ∷ second_node ∷ [] })
authentic = record { made = λ s c met on writer. only s c met on writer } where
  only : (s : Signed) (c : Correct) → IsIn s (signed_one ∷ []) → IsIn c (first_node ∷ second_node ∷ []) → writer_of s.statement ≡ c.node → IsIn s.statement (own c.journal)
  only s c (inl same) (inl first) writer = subst (λ (x : Correct). IsIn s.statement (own x.journal)) first (inl (ap (λ (x : Signed). x.statement) same))
  only s c (inl same) (inr (inl second)) writer =
      let one_is : writer_of s.statement ≡ 1 = ap (λ (x : Signed). writer_of x.statement) (sym same) in
      let two_is : c.node ≡ 2 = ap (λ (x : Correct). x.node) (sym second) in
      absurd (let both : 1 ≡ 2 = sym one_is ∙ writer ∙ two_is in omega (arith, both))
  only s c (inl same) (inr (inr never)) writer = absurd never
  only s c (inr never) on writer = absurd never

-- a journal that node 1 never had
abbrev silent_node : Correct
silent_node = record { node = 1; journal = Birth 1 zeros ∷ []; reads = [] }

forged : IsAuthentic (record world { nodes = silent_node ∷ second_node ∷ [] }) → ⊥
forged a = a.made signed_one silent_node (inl refl) (inl refl) refl

-- ---- collisions

no_collision : IsCollisionFree (record world { nodes = silent_node ∷ [] })
no_collision = record { one = λ a b never. absurd never; named = λ u never. absurd never }

-- with one text there is none to collide with, and its hash isn't zeros
one_text : sha256 (97 ∷ []) ≡ zeros → ⊥
unfolding sha256 first_words schedule rounds compress hash_after digest_bytes
one_text e = let first_byte : 202 ≡ 0 = ap front e in omega (arith, first_byte)

-- ---- proofs that name a correct node

abbrev against_one : Proof
against_one = Pair SamePrev signed_one signed_one

none_named : ConvictsNoCorrectNode world
none_named = record { never = λ c p on never. absurd never }

named_in_journal : ConvictsNoCorrectNode (record world { nodes = first_node ∷ record { node = 2; journal = Conviction against_one ∷ []; reads = [] } ∷ [] }) → ⊥
named_in_journal n = n.never first_node against_one (inl refl) (inl refl) refl

named_by_judge : ConvictsNoCorrectNode (record world { judged = against_one ∷ [] }) → ⊥
named_by_judge n = n.never first_node against_one (inl refl) (inl refl) refl
