-- Worked examples of what fork-join causality asks for of updates that were taken: a journal that lacks one part of it, each.
use Rattle.std.proofs.Common.{◌≡◌, ℕ, zero, suc, List, [], ◌∷◌, ◌⊎◌, ◌∙◌, Some, slice_get, refl, sym, ap, subst, arith, inl, inr}
use Rattle.sha2.specs.Sha256.{sha256, first_words, schedule, rounds, compress, hash_after, digest_bytes}
use Rattle.depot_base.specs.Cursor.{numeral}
use Rattle.depot_base.specs.Format.{number, bytes_of, list_of}
use Rattle.depot_base.specs.Zeros.{zeros}
use Rattle.depot_base.specs.declared.update.Update.{Update}
use Rattle.depot_base.specs.declared.record.Record.{Record}
use Rattle.depot_base.specs.declared.record.Record.TheVariants.{OwnPut, Conviction}
use Rattle.depot_model.specs.texts.Texts.{update_fields, update_body, id_of_update}
use Rattle.depot_model.specs.updates.Order.{IsPath}
use Rattle.depot_model.specs.journals.Journal.{is_convicted}
use Rattle.depot_model.specs.updates.Chains.{HasPrev}
use Rattle.depot_model.specs.worlds.World.{Read, Correct, World}
use Rattle.depot_model.specs.worlds.Causality.{Operation, write, read_at, IsOf, Edge, ObservedBefore, IsLine, ObservesAll, HasForests}
use Rattle.depot_model.proofs.examples.Cast.{is_written, members, one, two, two_id, nine, nine_more, nine_other, against_nine, took}

-- ---- a node that took an update and puts one that doesn't name it

abbrev heedless : Correct
heedless = record { node = 1; journal = took two ∷ OwnPut one ((49 ∷ []) ∷ []) ∷ []; reads = [] }

abbrev its_world : World
its_world = record { verifies = is_written; listed = members; nodes = heedless ∷ []; judged = [] }

-- nothing precedes the first update of node 1, since no node reads
none_before : (a : Operation) → Edge its_world a (write one) → ⊥
none_before (write t) e = e.step
none_before (read_at c place r) e = elim e.above.0 [ inl same ↦ no_reads c same place r e.above.1 | inr never ↦ never ] where
  none : (place : ℕ) (r : Read) → slice_get heedless.reads place ≡ Some r → ⊥
  none zero r got = absurd cc
  none (suc place) r got = absurd cc

  no_reads : (c : Correct) → heedless ≡ c → (place : ℕ) (r : Read) → slice_get c.reads place ≡ Some r → ⊥
  no_reads c same place r got = none place r (subst (λ (x : Correct). slice_get x.reads place ≡ Some r) (sym same) got)

not_observed : (a : Operation) → ObservedBefore its_world a (write one) → ⊥
not_observed a o = go a o.stops o.path where
  go : (x : Operation) (stops : List Operation) → IsPath (Edge its_world) x stops (write one) → ⊥
  go x [] path = none_before x path
  go x (y ∷ stops) path = go y stops path.1

-- all that it accepted has to precede it, and not its own updates alone
not_heeded : ObservesAll its_world heedless → ⊥
not_heeded o = not_observed (write two) (o (took two ∷ []) (OwnPut one ((49 ∷ []) ∷ [])) [] refl two one (inl refl) (inl refl))

-- ---- a line

-- of two operations of a node that makes a line, one is observed before the other, unless they are one
is_ordered : (W : World) (c : Correct) (a b : Operation) → IsLine W c → IsOf c a → IsOf c b → (a ≡ b → ⊥) → ObservedBefore W a b ⊎ ObservedBefore W b a
is_ordered W c a b l a_of b_of differ = elim (l.total a b a_of b_of) [
  | inl same ↦ absurd (differ same)
  | inr before ↦ elim before [
    | inl first ↦ inl (l.order a b a_of b_of first)
    | inr second ↦ inr (l.order b a b_of a_of second)
  ]
]

-- ---- forests

abbrev front : List ℕ → ℕ
front [] = 0
front (b ∷ bytes) = b

-- the writer is convicted, and its second update was taken before its first
abbrev child_first : List Record
child_first = Conviction against_nine ∷ took nine_more ∷ took nine ∷ []

not_child_first : HasForests child_first → ⊥
not_child_first f = (f.prev [] nine_more (nine ∷ []) refl named).known where
  named : nine_more.prev ≡ zeros → ⊥
  named e = let first_byte : 161 ≡ 0 = ap front e in omega (arith, first_byte)

-- a prev is of the same writer
abbrev behind_two : Update
behind_two = record nine_more { prev = two_id }

not_behind_another : HasForests (Conviction against_nine ∷ took two ∷ took behind_two ∷ []) → ⊥
not_behind_another f = one_writer (f.prev (two ∷ []) behind_two [] refl named) where
  named : behind_two.prev ≡ zeros → ⊥
  named e = let first_byte : 65 ≡ 0 = ap front e in omega (arith, first_byte)

  one_writer : HasPrev (two ∷ []) behind_two → ⊥
  one_writer p = elim p.known [
    | inl same ↦ (let two_is_nine : 2 ≡ 9 = ap (λ (t : Update). t.writer) same ∙ p.writer in omega (arith, two_is_nine))
    | inr never ↦ never
  ]

-- both branches of a writer who isn't convicted are no chain
not_both_branches : HasForests (took nine ∷ took nine_other ∷ []) → ⊥
unfolding sha256 first_words schedule rounds compress hash_after digest_bytes numeral number bytes_of list_of id_of_update update_body update_fields is_convicted
not_both_branches f = let first_byte : 0 ≡ 161 = ap front (f.chain 9 refl).1.0 in omega (arith, first_byte)
