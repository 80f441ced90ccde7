-- Worked examples of fork-join causal consistency, part by part: each where it holds, and where it doesn't.
use Rattle.std.proofs.Common.{◌≡◌, ℕ, zero, suc, List, [], ◌∷◌, ◌++◌, true, false, Option, Some, None, slice_get, refl, sym, ap, subst, arith, inl, inr}
use Rattle.sha2.specs.Sha256.{sha256, first_words, schedule, rounds, compress, hash_after, digest_bytes}
use Rattle.depot_base.specs.Writes.{put_one}
use Rattle.depot_base.specs.Cursor.{numeral}
use Rattle.depot_base.specs.Format.{number, bytes_of, list_of}
use Rattle.depot_base.specs.Zeros.{zeros}
use Rattle.depot_base.specs.declared.update.Update.{Update}
use Rattle.depot_base.specs.declared.statement.Statement.TheVariants as statements
use Rattle.depot_base.specs.declared.statement.Signed.{Signed}
use Rattle.depot_base.specs.declared.proof.Kind.TheVariants.{SameNumber}
use Rattle.depot_base.specs.declared.record.Record.{Record}
use Rattle.depot_base.specs.declared.record.Record.TheVariants.{Birth, OwnPut, Foreign}
use Rattle.depot_model.specs.lists.Lists.{IsIn}
use Rattle.depot_model.specs.texts.Texts.{statement, update_fields, voucher_fields, update_body, id_of_update}
use Rattle.depot_model.specs.updates.Order.{IsPath}
use Rattle.depot_model.specs.updates.Contradictions.{contradicts, is_of_kind}
use Rattle.depot_model.specs.journals.Journal.{is_convicted}
use Rattle.depot_base.specs.declared.write.Wrote.{Wrote}
use Rattle.depot_base.specs.declared.write.Wrote.TheVariants.{Put, Gone}
use Rattle.depot_model.specs.texts.Contents.{Sighting, held_value, not_held, gone, IsPutOf, wrote_under}
use Rattle.depot_model.specs.updates.Chains.{HasPrev}
use Rattle.depot_model.specs.worlds.World.{Read, Correct, World}
use Rattle.depot_model.specs.worlds.Causality.{Operation, write, read_at, Edge, ObservedBefore, IsStrictOrder, IsLine, ObservesAll, HasPut, IsExact, HasForests}

-- a first write of node 1 with this seq
abbrev first_write : ℕ → Update
first_write n = record { writer = 1; seq = n; clock = 1; prev = zeros; writes = put_one (107 ∷ []) (sha256 (97 ∷ [])) 1; deps = []; history = zeros }

abbrev one : Update
one = first_write 0

abbrev other : Update
other = first_write 1

abbrev put : Update → Record
put u = OwnPut u ((97 ∷ []) ∷ [])

abbrev node_with : List Record → List Read → Correct
node_with J reads = record { node = 1; journal = J; reads = reads }

abbrev world_of_one : Correct → World
world_of_one c = record { verifies = λ key seq body signature. true; listed = []; nodes = c ∷ []; judged = [] }

abbrev seq_of_write : Operation → ℕ
seq_of_write (write u) = u.seq
seq_of_write (read_at c place r) = 7

-- ---- a strict order

-- a put that comes before a read and again after it precedes itself
abbrev early : Read
early = record { at = 1; key = 107 ∷ []; answer = [] }

abbrev twice : Correct
twice = node_with (put one ∷ put one ∷ []) (early ∷ [])

not_strict : IsStrictOrder (world_of_one twice) → ⊥
not_strict s = s.never (write one) (record {
  stops = read_at twice 0 early ∷ [];
  path = (record { above = inl refl; below = (inl refl, refl); step = inl refl }, record { above = (inl refl, refl); below = inl refl; step = inl refl });
})

-- ---- a line

-- two puts of which the second doesn't name the first
abbrev loose : Correct
loose = node_with (put one ∷ put other ∷ []) []

-- nothing precedes a write that names nothing, in a world without reads
none_before : (a : Operation) (n : ℕ) → Edge (world_of_one loose) a (write (first_write n)) → ⊥
none_before (write t) n e = e.step
none_before (read_at c place r) n e = no_read c place r e.above where
  no_reads : (place : ℕ) (r : Read) → slice_get loose.reads place ≡ Some r → ⊥
  no_reads zero r got = absurd cc
  no_reads (suc place) r got = absurd cc

  no_read : (c : Correct) (place : ℕ) (r : Read) → IsIn c (loose ∷ []) × (slice_get c.reads place ≡ Some r) → ⊥
  no_read c place r known = elim known.0 [
    | inl same ↦ no_reads place r (subst (λ (x : Correct). slice_get x.reads place ≡ Some r) (sym same) known.1)
    | inr never ↦ never
  ]

not_observed : (a : Operation) (n : ℕ) → ObservedBefore (world_of_one loose) a (write (first_write n)) → ⊥
not_observed a n o = go a o.stops o.path where
  go : (x : Operation) (stops : List Operation) → IsPath (Edge (world_of_one loose)) x stops (write (first_write n)) → ⊥
  go x [] path = none_before x n path
  go x (y ∷ stops) path = go y stops path.1

-- so the two puts are no line
not_line : IsLine (world_of_one loose) loose → ⊥
not_line l = not_observed (write one) 1 (l.order (write one) (write other) (inl refl) (inr (inl refl)) (record { front = one ∷ []; behind = []; parts = refl; earlier = inl refl }))

-- ---- all that was accepted precedes what is then put

not_all : ObservesAll (world_of_one loose) loose → ⊥
not_all o = not_observed (write one) 1 (o (put one ∷ []) (put other) [] refl one other (inl refl) (inl refl))

-- ---- exact reads

abbrev showing : Sighting → Read
showing what = record { at = 1; key = 107 ∷ []; answer = record { update = one; seen = what } ∷ [] }

abbrev reading : Read → Correct
reading r = node_with (put one ∷ []) (r ∷ [])

abbrev size_of : Option Wrote → ℕ
size_of None = 0
size_of (Some (Put hash size)) = size
size_of (Some Gone) = 0

-- a value that the write doesn't name
not_named : IsExact (world_of_one (reading (showing (held_value [])))) (reading (showing (held_value []))) 0 (showing (held_value [])) → ⊥
not_named e = let one_is_none : 1 ≡ 0 = ap size_of (e.named (record { update = one; seen = held_value [] }) (inl refl)) in omega (arith, one_is_none)

-- a deletion where the write is none
not_gone : IsExact (world_of_one (reading (showing gone))) (reading (showing gone)) 0 (showing gone) → ⊥
not_gone e = no_deletion ((e.gone_shown (record { update = one; seen = gone }) (inl refl)).0 refl) where
  is_gone : Option Wrote → ℕ
  is_gone None = 0
  is_gone (Some (Put hash size)) = 0
  is_gone (Some Gone) = 1

  no_deletion : wrote_under (107 ∷ []) one.writes ≡ Some Gone → ⊥
  no_deletion same = let none_is_one : 0 ≡ 1 = ap is_gone same in omega (arith, none_is_one)

-- a write of the node that it never put
abbrev never_put : Correct
never_put = node_with (Birth 1 zeros ∷ []) (showing not_held ∷ [])

not_put : IsExact (world_of_one never_put) never_put 0 (showing not_held) → ⊥
not_put e = no_record (e.put (record { update = one; seen = not_held }) never_put (inl refl) (inl refl) refl) where
  no_record : HasPut never_put (107 ∷ []) (record { update = one; seen = not_held }) → ⊥
  no_record has = elim has.kept [
    | inl same ↦ subst (λ (x : Record). IsPutOf (107 ∷ []) one not_held x) (sym same) has.put
    | inr never ↦ never
  ]

-- ---- forests

abbrev no_updates : List Record
no_updates = Birth 1 zeros ∷ []

empty_forests : HasForests no_updates
empty_forests = record { prev = λ before u after parts named. no_parts before u after parts; chain = λ w free. tt; exposed = λ a b never. absurd never } where
  no_parts : (before : List Update) (u : Update) (after : List Update) → [] ≡ before ++ u ∷ after → HasPrev before u
  no_parts [] u after parts = absurd cc
  no_parts (t ∷ before) u after parts = absurd cc

abbrev front : List ℕ → ℕ
front [] = 0
front (b ∷ bytes) = b

-- two first writes of a writer who isn't convicted are no chain
not_chain : HasForests (put one ∷ put other ∷ []) → ⊥
unfolding sha256 first_words schedule rounds compress hash_after digest_bytes numeral number bytes_of list_of id_of_update update_body update_fields is_convicted
not_chain f = let same : 0 ≡ 178 = ap front (f.chain 1 refl).1.0 in omega (arith, same)

-- two statements of another that contradict each other, and nobody is convicted
abbrev signed_as : Update → Signed
signed_as u = record { statement = statements.Update u; body = []; signature = [] }

abbrev same_number : Update
same_number = record one { clock = 2 }

not_exposed : HasForests (Foreign (signed_as one) ∷ Foreign (signed_as same_number) ∷ []) → ⊥
unfolding sha256 first_words schedule rounds compress hash_after digest_bytes numeral number bytes_of list_of statement update_fields voucher_fields contradicts is_of_kind is_convicted
not_exposed f = let yes_no : false ≡ true = f.exposed (signed_as one) (signed_as same_number) (inl refl) (inr (inl refl)) SameNumber refl in absurd cc
