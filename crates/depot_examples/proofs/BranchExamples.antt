-- Worked examples of journals whose updates are no separate branches, each for one reason only.
use Rattle.std.proofs.Common.{◌≡◌, ◌∙◌, ℕ, List, [], ◌∷◌, ◌++◌, length, true, false, refl, sym, ap, subst, arith, inl, inr, length-append}
use Rattle.std.specs.Prelude.{filter, ◌==◌, Bool, if◌then◌else◌}
use Rattle.sha2.specs.Sha256.{sha256, first_words, schedule, rounds, compress, hash_after, digest_bytes}
use Rattle.depot_base.specs.Cursor.{numeral}
use Rattle.depot_base.specs.Format.{number, bytes_of, list_of}
use Rattle.depot_base.specs.Zeros.{zeros}
use Rattle.depot_base.specs.declared.update.Update.{Update}
use Rattle.depot_base.specs.declared.statement.Signed.{Signed}
use Rattle.depot_base.specs.declared.proof.Kind.{Kind}
use Rattle.depot_base.specs.declared.proof.Kind.TheVariants.{SameNumber, SamePrev, Backward, NotUpdate}
use Rattle.depot_base.specs.declared.record.Record.{Record}
use Rattle.depot_model.specs.lists.Lists.{IsIn}
use Rattle.depot_model.specs.updates.Chains.{IsChain, HasPrev}
use Rattle.depot_model.specs.updates.Contradictions.{contradicts, is_of_kind}
use Rattle.depot_model.specs.worlds.Causality.{HasForests}
use Rattle.depot_model.specs.journals.Journal.{accepted, foreign, is_convicted}
use Rattle.depot_model.specs.texts.Texts.{statement, update_fields, voucher_fields, update_body, id_of_update}
use Rattle.depot_model.proofs.examples.Cast.{took, took_voucher, signed_update, signed_voucher, nine, vouch}

abbrev first_byte : List ℕ → ℕ
first_byte [] = 0
first_byte (b ∷ bytes) = b

-- ---- no chain, and nothing else

-- an update that was taken twice
abbrev nine_twice : List Record
nine_twice = took nine ∷ took nine ∷ []

-- none of its updates names another
no_prev : (before : List Update) (u : Update) (after : List Update) → accepted nine_twice ≡ before ++ u ∷ after → (u.prev ≡ zeros → ⊥) → HasPrev before u
no_prev [] u after parts named = absurd (named (ap (λ (t : Update). t.prev) (sym (its_first parts)))) where
  its_first : nine ∷ nine ∷ [] ≡ u ∷ after → nine ≡ u
  its_first e = cc
no_prev (x ∷ []) u after parts named = absurd (named (ap (λ (t : Update). t.prev) (sym (its_second parts)))) where
  its_second : nine ∷ nine ∷ [] ≡ x ∷ u ∷ after → nine ≡ u
  its_second e = cc
no_prev (x ∷ y ∷ front) u after parts named = absurd (let lengths = ap length parts in omega (arith, lengths, length-append front (u ∷ after)))

-- no statement contradicts itself
agrees : (k : Kind) → contradicts k (signed_update nine).statement (signed_update nine).statement ≡ false
unfolding contradicts is_of_kind sha256 first_words schedule rounds compress hash_after digest_bytes numeral number bytes_of list_of statement update_fields voucher_fields update_body id_of_update
agrees SameNumber = refl
agrees SamePrev = refl
agrees Backward = refl
agrees NotUpdate = refl

its_own : (a : Signed) → IsIn a (foreign nine_twice) → signed_update nine ≡ a
its_own a (inl same) = same
its_own a (inr (inl same)) = same
its_own a (inr (inr never)) = absurd never

none_contrary : (a b : Signed) → IsIn a (foreign nine_twice) → IsIn b (foreign nine_twice) → (k : Kind) → contradicts k a.statement b.statement ≡ true → ⊥
none_contrary a b a_on b_on k contrary =
    both_ways (sym (agrees k) ∙ subst (λ (x : Signed). contradicts k (signed_update nine).statement x.statement ≡ true) (sym (its_own b b_on)) (subst (λ (x : Signed). contradicts k x.statement b.statement ≡ true) (sym (its_own a a_on)) contrary))
  where
    both_ways : false ≡ true → ⊥
    both_ways e = cc

-- so it lacks the chain alone: with it, its branches would be separate
all_but_chain : ((w : ℕ) → is_convicted nine_twice w ≡ false → IsChain zeros (filter (λ u. u.writer == w) (accepted nine_twice))) → HasForests nine_twice
all_but_chain chain = record { prev = no_prev; chain = chain; exposed = λ a b a_on b_on k contrary. absurd (none_contrary a b a_on b_on k contrary) }

not_a_chain : HasForests nine_twice → ⊥
unfolding sha256 first_words schedule rounds compress hash_after digest_bytes numeral number bytes_of list_of id_of_update update_body update_fields is_convicted
not_a_chain f = let met : 0 ≡ 161 = ap first_byte (f.chain 9 refl).1.0 in omega (arith, met)

-- ---- statements that contradict each other, and nothing else

-- an update and a voucher of one seq: the updates are a chain all the same
abbrev one_seq : List Record
one_seq = took nine ∷ took_voucher (vouch 9 0 []) ∷ []

its_chain : (w : ℕ) → IsChain zeros (filter (λ u. u.writer == w) (accepted one_seq))
its_chain w = of_test (9 == w) where
  of_test : (b : Bool) → IsChain zeros (if b then nine ∷ [] else [])
  of_test true = (refl, tt)
  of_test false = tt

not_exposed : HasForests one_seq → ⊥
unfolding contradicts is_of_kind sha256 first_words schedule rounds compress hash_after digest_bytes numeral number bytes_of list_of statement update_fields voucher_fields update_body is_convicted
not_exposed f = let wrong : false ≡ true = f.exposed (signed_update nine) (signed_voucher (vouch 9 0 [])) (inl refl) (inr (inl refl)) SameNumber refl in absurd cc
