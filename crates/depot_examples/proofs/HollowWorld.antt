-- A world with a hollow proof, computed: a faulty member vouched for a text that is no update's, a correct node keeps
-- the proof, and the proof was judged. It meets the conditions of the laws of worlds, so no proof in it names a correct
-- node.
use Rattle.std.proofs.Common.{◌≡◌, ℕ, List, [], ◌∷◌, ◌++◌, None, refl, sym, ap, subst, ◌∙◌, inl, inr, arith, rules}
use Rattle.sha2.specs.Sha256.{sha256, digest_bytes, hash_after, compress, rounds, schedule, first_words}
use Rattle.depot_base.specs.Closed.{rest_of}
use Rattle.depot_base.specs.Cursor.{numeral}
use Rattle.depot_base.specs.Format.{number, bytes_of, inner, list_of}
use Rattle.depot_base.specs.Parts.{dep, write, marked}
use Rattle.depot_base.specs.Statement.{writer_of}
use Rattle.depot_base.specs.declared.voucher.Voucher.{Voucher}
use Rattle.depot_base.specs.declared.statement.Signed.{Signed}
use Rattle.depot_base.specs.declared.statement.Statement.TheVariants as statements
use Rattle.depot_base.specs.declared.proof.Proof.{Proof}
use Rattle.depot_base.specs.declared.proof.Proof.TheVariants.{Hollow}
use Rattle.depot_base.specs.declared.record.Record.{Record}
use Rattle.depot_base.specs.declared.record.Record.TheVariants.{Conviction}
use Rattle.depot_model.specs.lists.Lists.{IsIn}
use Rattle.depot_model.specs.checks.Checks.{given_proof, proof_checks, first_failed_check, is_known, answer_to, due, added, growth}
use Rattle.depot_model.specs.updates.Contradictions.{is_of_kind, contradicts, is_update_text, is_hollow}
use Rattle.depot_model.specs.journals.Journal.{is_convicted}
use Rattle.depot_model.specs.updates.Judgement.{points, first_failed_point}
use Rattle.depot_model.specs.journals.Lawful.{IsLawful}
use Rattle.depot_model.specs.texts.Records.{birth, own_put, tagged, record_text}
use Rattle.depot_model.specs.checks.Room.{full_with, full_by, foreign_leaves}
use Rattle.depot_model.specs.texts.Roster.{key_of, is_signed}
use Rattle.depot_model.specs.updates.History.{leaves_of, put_by_id, by_id}
use Rattle.depot_model.specs.texts.Texts.{statement, signed, proof, roster, update_body, update_fields, voucher_body, voucher_fields, text_of_statement, hash_of_roster, IsProof}
use Rattle.depot_model.specs.worlds.World.{Correct, World, IsCorrect, IsWorld, IsAuthentic, IsCollisionFree, hashed_texts}
use Rattle.depot_model.specs.worlds.Causality.{IsForkJoinCausal, ConvictsNoCorrectNode}
use Rattle.depot_laws.proofs.of_worlds.ForkJoin.{fork_join_causal}
use Rattle.depot_laws.proofs.of_worlds.NoVerdicts.{convicts_none}
use Rattle.depot_laws.proofs.records.Growing.{grown_is_lawful}
use Rattle.depot_laws.proofs.of_worlds.TwoNodes.{all_verify, two_nodes, node, newborn, second_born}

-- ---- what node 1 signed

-- a text of one byte, for which it vouches
abbrev text : List ℕ
text = 0 ∷ []

abbrev for_nothing : Voucher
for_nothing = record { node = 1; seq = 0; ids = sha256 text ∷ [] }

abbrev voucher_signed : Signed
voucher_signed = record { statement = statements.Voucher for_nothing; body = text_of_statement (statements.Voucher for_nothing); signature = [] }

abbrev against_one : Proof
against_one = Hollow voucher_signed text

-- ---- node 2 was given the proof

abbrev journal : List Record
journal = newborn 2 ++ Conviction against_one ∷ []

proof_fits : IsProof against_one
unfolding sha256 first_words schedule rounds compress hash_after digest_bytes numeral bytes_of inner list_of number dep proof signed statement update_fields voucher_fields
proof_fits = search rules

record Taken : Type 0 where
  pub grows : growth (node 2) (newborn 2) (given_proof against_one) ≡ Conviction against_one ∷ []
  pub room : full_by 2 (newborn 2) (Conviction against_one ∷ []) ≡ None
  pub passes : first_failed_point all_verify two_nodes against_one ≡ None

taken : Taken
unfolding all_verify sha256 digest_bytes hash_after compress rounds schedule first_words rest_of numeral number bytes_of inner list_of dep write marked is_update_text is_hollow is_of_kind contradicts points key_of is_signed proof_checks first_failed_check is_known is_convicted answer_to due added growth statement signed proof update_body update_fields voucher_body voucher_fields full_with foreign_leaves leaves_of put_by_id by_id record_text tagged birth own_put hash_of_roster roster
taken = record { grows = refl; room = refl; passes = refl }

its_journal : IsLawful (node 2) journal
its_journal = subst (λ (new : List Record). IsLawful (node 2) (newborn 2 ++ new)) taken.grows
    (grown_is_lawful (node 2) (newborn 2) (given_proof against_one) second_born refl proof_fits (ap (full_by 2 (newborn 2)) taken.grows ∙ taken.room))

-- ---- the world

abbrev second_node : Correct
second_node = record { node = 2; journal = journal; reads = [] }

abbrev world : World
world = record { verifies = all_verify; listed = two_nodes; nodes = second_node ∷ []; judged = against_one ∷ [] }

nodes_are : (c : Correct) → IsIn c world.nodes → IsCorrect world c
unfolding key_of
nodes_are c (inl same) = subst (λ (x : Correct). IsCorrect world x) same (record { member = refl; lawful = its_journal; begun = refl; reads = λ r never. absurd never; in_order = tt })
nodes_are c (inr never) = absurd never

is_world : IsWorld world
is_world = record {
  distinct = (tt, tt);
  correct = nodes_are;
  formed = λ p on. elim on [ inl same ↦ subst (λ (q : Proof). IsProof q) same proof_fits | inr never ↦ absurd never ];
  judged = λ p on. elim on [ inl same ↦ subst (λ (q : Proof). first_failed_point all_verify two_nodes q ≡ None) same taken.passes | inr never ↦ absurd never ];
}

-- node 1, which signed the voucher, is no correct node
by_another : (s : Signed) (c : Correct) → voucher_signed ≡ s → IsIn c world.nodes → writer_of s.statement ≡ c.node → ⊥
by_another s c same (inl is) writer = let met : 1 ≡ 2 = ap (λ (x : Signed). writer_of x.statement) same ∙ writer ∙ ap (λ (x : Correct). x.node) (sym is) in omega (arith, met)
by_another s c same (inr never) writer = never

is_authentic : IsAuthentic world
is_authentic = record {
  made = λ s c met on writer. absurd (elim met [
    | inl recorded ↦ by_another s c recorded on writer
    | inr more ↦ elim more [ inl judged ↦ by_another s c judged on writer | inr never ↦ never ]
  ]);
}

-- the one hashed text is that which the voucher names
the_text : (a : List ℕ) → IsIn a (hashed_texts world) → text ≡ a
the_text a (inl recorded) = recorded
the_text a (inr (inl judged)) = judged
the_text a (inr (inr never)) = absurd never

is_collision_free : IsCollisionFree world
is_collision_free = record { one = λ a b a_on b_on same. sym (the_text a a_on) ∙ the_text b b_on; named = λ u never. absurd never }

is_causal : IsForkJoinCausal world
is_causal = fork_join_causal world is_world is_authentic is_collision_free

convicts_nobody : ConvictsNoCorrectNode world
convicts_nobody = convicts_none world is_world is_authentic is_collision_free
