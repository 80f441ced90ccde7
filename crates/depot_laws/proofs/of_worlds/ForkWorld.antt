-- A world with a fork, computed: each of two nodes took one branch of a faulty writer, the second vouched for its
-- branch, the first took that and convicted the writer, and a proof was judged. It meets the conditions of the law of
-- worlds, and is fork-join causal.
use Rattle.std.proofs.Common.{◌≡◌, ℕ, zero, suc, List, [], ◌∷◌, ◌++◌, length, Bool, true, false, ◌&&◌, nat_lt, None, refl, sym, ap, subst, ◌∙◌, inl, inr, arith}
use Rattle.std.specs.Str.{bytes_eq}
use Rattle.std.proofs.lemmas.Bool.{and_parts, ltb-true, iff_false}
use Rattle.std.proofs.lemmas.Slice.Eq.{bytes_eq-Decides}
use Rattle.sha2.proofs.Facts256.{length-sha256}
use Rattle.sha2.specs.Sha256.{sha256, first_words, schedule, rounds, compress, hash_after, digest_bytes}
use Rattle.depot_base.specs.Closed.{rest_of}
use Rattle.depot_base.specs.Cursor.{numeral}
use Rattle.depot_base.specs.Format.{number, bytes_of, inner, list_of}
use Rattle.depot_base.specs.Parts.{dep, roster_entry}
use Rattle.depot_base.specs.Zeros.{zeros}
use Rattle.depot_base.specs.Statement.{writer_of}
use Rattle.depot_base.specs.declared.update.Update.{Update}
use Rattle.depot_base.specs.declared.voucher.Voucher.{Voucher}
use Rattle.depot_base.specs.declared.statement.Signed.{Signed}
use Rattle.depot_base.specs.declared.statement.Statement.TheVariants as statements
use Rattle.depot_base.specs.declared.proof.Kind.TheVariants.{SamePrev}
use Rattle.depot_base.specs.declared.proof.Proof.{Proof}
use Rattle.depot_base.specs.declared.proof.Proof.TheVariants.{Pair}
use Rattle.depot_base.specs.declared.record.Record.{Record}
use Rattle.depot_base.specs.declared.record.Record.TheVariants.{OwnVoucher, Foreign, Conviction, Held}
use Rattle.depot_model.specs.lists.Lists.{IsIn}
use Rattle.depot_model.specs.exchange.Bundle.{signed_with, is_covered, candidates, values_behind, candidate_parcels, parcels, fitting, sent_for, sent_foreign, unvouched, bundle_frames, bundle_of, bundle_answer}
use Rattle.depot_model.specs.checks.Checks.{sight, content_checks, opponent, forked, refused_as_convicted, statement_checks, proof_checks, first_failed_check, is_known, answer_to, due, named_opponent, added, growth}
use Rattle.depot_model.specs.updates.Contradictions.{is_of_kind, contradicts, kind_of}
use Rattle.depot_model.specs.updates.Conviction.{proof_of}
use Rattle.depot_model.specs.updates.Judgement.{points, first_failed_point}
use Rattle.depot_model.specs.checks.Taking.{given_as}
use Rattle.depot_model.specs.exchange.Feeding.{given_by, take_frame, fed_frame, fed_byte, fed, feeding_from}
use Rattle.depot_model.specs.texts.Frames.{frame_at}
use Rattle.depot_model.specs.exchange.Hello.{hello_leaf, hello, convicted_nodes, lacking, hello_of}
use Rattle.depot_model.specs.updates.History.{leaves_of, put_by_id, by_id, history_text, history_hash}
use Rattle.depot_model.specs.journals.Journal.{accepted, own, first_values, has_id, named, prev_of, is_convicted, is_vouched, holds_hash, holds, is_wanted, is_foreign}
use Rattle.depot_model.specs.journals.Lawful.{IsLawful, is_empty}
use Rattle.depot_model.specs.checks.Limits.{spent_by}
use Rattle.depot_model.specs.updates.Order.{past}
use Rattle.depot_model.specs.checks.Own.{precedes_named, next_entries, leaf_count}
use Rattle.depot_model.specs.texts.Plain.{plain_root, plain_signature, plain_verifies}
use Rattle.depot_model.specs.texts.Records.{birth, own_put, tagged, record_text}
use Rattle.depot_model.specs.checks.Room.{foreign_leaves, full_with}
use Rattle.depot_model.specs.texts.Roster.{key_of, is_signed, has_node}
use Rattle.depot_model.specs.texts.Texts.{update_fields, voucher_fields, update_body, voucher_body, statement, signed, proof, roster, IsRoster, IsProof, id_of_update, id_of_statement, hash_of_roster}
use Rattle.depot_model.specs.checks.Vouching.{put_rising, rising, groups_behind, groups_of, records_of, new_vouchers, limit_of_new, limit_of_vouchers}
use Rattle.depot_model.specs.worlds.World.{Correct, World, signed_met, writes_of, IsCorrect, IsWorld, hashed_texts, IsAuthentic, IsCollisionFree}
use Rattle.depot_model.specs.worlds.Causality.{IsForkJoinCausal}
use Rattle.depot_laws.specs.Streams.{AreBytes}
use Rattle.depot_laws.proofs.records.Births.{born as birth_is_lawful}
use Rattle.depot_laws.proofs.exchanges.LawfulFeeds.{feed_keeps}
use Rattle.depot_laws.proofs.records.NewVouchers.{new_are_lawful}
use Rattle.depot_laws.proofs.lists.Splits.{lawful_texts}
use Rattle.depot_laws.proofs.of_worlds.ForkJoin.{fork_join_causal}
use Rattle.depot_laws.proofs.of_worlds.Apart.{are_apart, none_collide}
use Rattle.depot_model.proofs.examples.Exchanges.{seed, members, here, sign, born, faulty, one_branch, other_branch, of_other, bytes_in}

-- ---- the two branches, and what the nodes keep

abbrev branch : Update
branch = faulty 0 1 97

abbrev other : Update
other = faulty 1 2 98

abbrev branch_signed : Signed
branch_signed = signed_with (sign 9) (statements.Update branch)

abbrev other_signed : Signed
other_signed = signed_with (sign 9) (statements.Update other)

-- the second node vouches for its branch
abbrev its_voucher : Voucher
its_voucher = record { node = 2; seq = 0; ids = id_of_update other ∷ [] }

abbrev voucher_signed : Signed
voucher_signed = signed_with (sign 2) (statements.Voucher its_voucher)

abbrev against_nine : Proof
against_nine = Pair SamePrev branch_signed other_signed

abbrev took_one : List Record
took_one = born 1 ++ Foreign branch_signed ∷ Held (97 ∷ []) ∷ []

abbrev took_other : List Record
took_other = born 2 ++ Foreign other_signed ∷ Held (98 ∷ []) ∷ []

abbrev first_journal : List Record
first_journal = took_one ++ Foreign voucher_signed ∷ Conviction against_nine ∷ Foreign other_signed ∷ Held (98 ∷ []) ∷ []

abbrev second_journal : List Record
second_journal = took_other ++ OwnVoucher its_voucher ∷ []

-- ---- these are the journals of the exchange

-- bytes below 256
abbrev are_small : List ℕ → Bool
are_small [] = true
are_small (b ∷ bytes) = nat_lt b 256 && are_small bytes

are_bytes : (bytes : List ℕ) → are_small bytes ≡ true → AreBytes bytes
are_bytes [] small i = omega arith
are_bytes (b ∷ bytes) small zero = ltb-true b 256 (and_parts (nat_lt b 256) (are_small bytes) small).0
are_bytes (b ∷ bytes) small (suc i) = are_bytes bytes (and_parts (nat_lt b 256) (are_small bytes) small).1 i

record Exchanged : Type 0 where
  pub from_one : (fed (here 1) (feeding_from (born 1)) one_branch).journal ≡ took_one
  pub from_other : (fed (here 2) (feeding_from (born 2)) other_branch).journal ≡ took_other
  pub vouches : records_of (new_vouchers 2 took_other (id_of_update other ∷ [])) ≡ OwnVoucher its_voucher ∷ []
  pub room : limit_of_vouchers (here 2) took_other (id_of_update other ∷ []) ≡ None
  pub foreign : is_foreign 2 (accepted took_other) (id_of_update other) ≡ true
  pub one_small : are_small one_branch ≡ true
  pub other_small : are_small other_branch ≡ true

exchanged : Exchanged
unfolding rest_of given_as numeral number bytes_of inner list_of dep roster_entry signed_with is_covered candidates values_behind candidate_parcels parcels fitting sent_for sent_foreign unvouched bundle_frames bundle_of bundle_answer sight content_checks opponent forked refused_as_convicted statement_checks proof_checks points first_failed_check is_known answer_to due named_opponent added growth is_of_kind contradicts kind_of proof_of given_by take_frame fed_frame fed_byte fed frame_at hello_leaf hello convicted_nodes lacking hello_of leaves_of put_by_id by_id history_text history_hash first_values has_id named prev_of is_convicted is_vouched holds_hash holds is_wanted spent_by past precedes_named next_entries leaf_count plain_root plain_signature plain_verifies birth own_put tagged record_text foreign_leaves full_with key_of is_signed update_fields voucher_fields update_body voucher_body statement signed proof roster id_of_update id_of_statement hash_of_roster put_rising rising groups_behind groups_of new_vouchers limit_of_new limit_of_vouchers sha256 first_words schedule rounds compress hash_after digest_bytes
exchanged = record { from_one = refl; from_other = refl; vouches = refl; room = refl; foreign = refl; one_small = refl; other_small = refl }

record Rejoined : Type 0 where
  pub journal : (fed (here 1) (feeding_from took_one) (bytes_in of_other)).journal ≡ first_journal
  pub small : are_small (bytes_in of_other) ≡ true

rejoined : Rejoined
unfolding rest_of given_as numeral number bytes_of inner list_of dep roster_entry signed_with is_covered candidates values_behind candidate_parcels parcels fitting sent_for sent_foreign unvouched bundle_frames bundle_of bundle_answer sight content_checks opponent forked refused_as_convicted statement_checks proof_checks points first_failed_check is_known answer_to due named_opponent added growth is_of_kind contradicts kind_of proof_of given_by take_frame fed_frame fed_byte fed frame_at hello_leaf hello convicted_nodes lacking hello_of leaves_of put_by_id by_id history_text history_hash first_values has_id named prev_of is_convicted is_vouched holds_hash holds is_wanted spent_by past precedes_named next_entries leaf_count plain_root plain_signature plain_verifies birth own_put tagged record_text foreign_leaves full_with key_of is_signed update_fields voucher_fields update_body voucher_body statement signed proof roster id_of_update id_of_statement hash_of_roster put_rising rising groups_behind groups_of new_vouchers limit_of_new limit_of_vouchers sha256 first_words schedule rounds compress hash_after digest_bytes
rejoined = record { journal = refl; small = refl }

-- ---- they are lawful

root_is_digest : (n : ℕ) → length (plain_root (seed n)) ≡ 32
unfolding plain_root
root_is_digest n = length-sha256 _

roster_fits : IsRoster members
unfolding roster number list_of roster_entry bytes_of
roster_fits = (
  (omega arith, omega arith),
  (
    (omega arith, omega arith),
    (
      (omega arith, omega arith),
      ((
        (
          (((omega arith, omega arith), ((omega arith, omega arith), (root_is_digest 1, refl))), refl, (((omega arith, omega arith), ((omega arith, omega arith), (root_is_digest 2, refl))), refl, (((omega arith, omega arith), ((omega arith, omega arith), (root_is_digest 3, refl))), refl, (((omega arith, omega arith), ((omega arith, omega arith), (root_is_digest 9, refl))), refl, tt)))),
          refl,
        ),
        refl,
      )
          ),
    ),
  ),
)

lawful_birth : (n : ℕ) → has_node members n ≡ true → IsLawful (here n) (born n)
lawful_birth n known = birth_is_lawful (here n) roster_fits known

-- what a node has taken of bytes is lawful
lawful_fed : (n : ℕ) (J : List Record) (bytes : List ℕ) → IsLawful (here n) J → is_empty J ≡ false → are_small bytes ≡ true → IsLawful (here n) (fed (here n) (feeding_from J) bytes).journal
lawful_fed n J bytes l some small = (feed_keeps (here n) (feeding_from J) bytes (are_bytes bytes small) (record { lawful = l; some = some; bytes = λ i. omega arith })).lawful

took_one_lawful : IsLawful (here 1) took_one
unfolding key_of
took_one_lawful = subst (λ (J : List Record). IsLawful (here 1) J) exchanged.from_one (lawful_fed 1 (born 1) one_branch (lawful_birth 1 refl) refl exchanged.one_small)

first_lawful : IsLawful (here 1) first_journal
first_lawful = subst (λ (J : List Record). IsLawful (here 1) J) rejoined.journal (lawful_fed 1 took_one (bytes_in of_other) took_one_lawful refl rejoined.small)

took_other_lawful : IsLawful (here 2) took_other
unfolding key_of
took_other_lawful = subst (λ (J : List Record). IsLawful (here 2) J) exchanged.from_other (lawful_fed 2 (born 2) other_branch (lawful_birth 2 refl) refl exchanged.other_small)

foreign_ids : (h : List ℕ) → IsIn h (id_of_update other ∷ []) → is_foreign 2 (accepted took_other) h ≡ true
foreign_ids h (inl same) = subst (λ (i : List ℕ). is_foreign 2 (accepted took_other) i ≡ true) same exchanged.foreign
foreign_ids h (inr never) = absurd never

second_lawful : IsLawful (here 2) second_journal
second_lawful = subst (λ (new : List Record). IsLawful (here 2) (took_other ++ new)) exchanged.vouches (new_are_lawful (here 2) took_other (id_of_update other ∷ []) took_other_lawful refl foreign_ids exchanged.room)

-- ---- the world, and a proof that was judged

abbrev first_node : Correct
first_node = record { node = 1; journal = first_journal; reads = [] }

abbrev second_node : Correct
second_node = record { node = 2; journal = second_journal; reads = [] }

abbrev world : World
world = record { verifies = plain_verifies; listed = members; nodes = first_node ∷ second_node ∷ []; judged = against_nine ∷ [] }

nodes_are : (c : Correct) → IsIn c world.nodes → IsCorrect world c
unfolding key_of
nodes_are c (inl first) = subst (λ (x : Correct). IsCorrect world x) first (record { member = refl; lawful = first_lawful; begun = refl; reads = λ r never. absurd never; in_order = tt })
nodes_are c (inr (inl second)) = subst (λ (x : Correct). IsCorrect world x) second (record { member = refl; lawful = second_lawful; begun = refl; reads = λ r never. absurd never; in_order = tt })
nodes_are c (inr (inr never)) = absurd never

-- each record of a lawful journal has a text, so the proof has one
proof_fits : IsProof against_nine
unfolding record_text tagged rest_of number
proof_fits = (lawful_texts (here 1) first_journal (Conviction against_nine) first_lawful (inr (inr (inr (inr (inl refl)))))).1

passes : first_failed_point plain_verifies members against_nine ≡ None
unfolding rest_of given_as numeral number bytes_of inner list_of dep roster_entry signed_with is_covered candidates values_behind candidate_parcels parcels fitting sent_for sent_foreign unvouched bundle_frames bundle_of bundle_answer sight content_checks opponent forked refused_as_convicted statement_checks proof_checks points first_failed_check is_known answer_to due named_opponent added growth is_of_kind contradicts kind_of proof_of given_by take_frame fed_frame fed_byte fed frame_at hello_leaf hello convicted_nodes lacking hello_of leaves_of put_by_id by_id history_text history_hash first_values has_id named prev_of is_convicted is_vouched holds_hash holds is_wanted spent_by past precedes_named next_entries leaf_count plain_root plain_signature plain_verifies birth own_put tagged record_text foreign_leaves full_with key_of is_signed update_fields voucher_fields update_body voucher_body statement signed proof roster id_of_update id_of_statement hash_of_roster put_rising rising groups_behind groups_of new_vouchers limit_of_new limit_of_vouchers sha256 first_words schedule rounds compress hash_after digest_bytes
passes = refl

is_world : IsWorld world
is_world = record {
  distinct = (((λ e. omega arith), tt), (tt, tt));
  correct = nodes_are;
  formed = λ p on. elim on [ inl same ↦ subst (λ (q : Proof). IsProof q) same proof_fits | inr never ↦ absurd never ];
  judged = λ p on. elim on [ inl same ↦ subst (λ (q : Proof). first_failed_point plain_verifies members q ≡ None) same passes | inr never ↦ absurd never ];
}

-- ---- no signature of a correct node is forged

-- what node 9 signed
of_nine : (s t : Signed) (c : Correct) → t ≡ s → writer_of t.statement ≡ 9 → IsIn c world.nodes → writer_of s.statement ≡ c.node → IsIn s.statement (own c.journal)
of_nine s t c same nine (inl first) writer = absurd (let n : 1 ≡ 9 = ap (λ (x : Correct). x.node) first ∙ sym writer ∙ ap (λ (x : Signed). writer_of x.statement) (sym same) ∙ nine in omega (arith, n))
of_nine s t c same nine (inr (inl second)) writer = absurd (let n : 2 ≡ 9 = ap (λ (x : Correct). x.node) second ∙ sym writer ∙ ap (λ (x : Signed). writer_of x.statement) (sym same) ∙ nine in omega (arith, n))
of_nine s t c same nine (inr (inr never)) writer = absurd never

-- the voucher of the second node is in its journal
of_second : (s : Signed) (c : Correct) → voucher_signed ≡ s → IsIn c world.nodes → writer_of s.statement ≡ c.node → IsIn s.statement (own c.journal)
unfolding signed_with
of_second s c same (inl first) writer = absurd (let n : 1 ≡ 2 = ap (λ (x : Correct). x.node) first ∙ sym writer ∙ ap (λ (x : Signed). writer_of x.statement) (sym same) in omega (arith, n))
of_second s c same (inr (inl second)) writer = subst (λ (x : Correct). IsIn s.statement (own x.journal)) second (inl (ap (λ (x : Signed). x.statement) same))
of_second s c same (inr (inr never)) writer = absurd never

met_is_own : (s : Signed) (c : Correct) → IsIn s (signed_met world) → IsIn c world.nodes → writer_of s.statement ≡ c.node → IsIn s.statement (own c.journal)
unfolding signed_with
met_is_own s c (inl a) on writer = of_nine s branch_signed c a refl on writer
met_is_own s c (inr (inl a)) on writer = of_second s c a on writer
met_is_own s c (inr (inr (inl a))) on writer = of_nine s branch_signed c a refl on writer
met_is_own s c (inr (inr (inr (inl a)))) on writer = of_nine s other_signed c a refl on writer
met_is_own s c (inr (inr (inr (inr (inl a))))) on writer = of_nine s other_signed c a refl on writer
met_is_own s c (inr (inr (inr (inr (inr (inl a)))))) on writer = of_nine s other_signed c a refl on writer
met_is_own s c (inr (inr (inr (inr (inr (inr (inl a))))))) on writer = of_nine s branch_signed c a refl on writer
met_is_own s c (inr (inr (inr (inr (inr (inr (inr (inl a)))))))) on writer = of_nine s other_signed c a refl on writer
met_is_own s c (inr (inr (inr (inr (inr (inr (inr (inr never)))))))) on writer = absurd never

is_authentic : IsAuthentic world
is_authentic = record { made = met_is_own }

-- ---- no two texts collide

-- two bodies, of which one was accepted twice, and two values
apart : are_apart (hashed_texts world) ≡ true
unfolding sha256 first_words schedule rounds compress hash_after digest_bytes numeral number bytes_of list_of dep signed_with update_body update_fields
apart = refl

ids_apart : (bytes_eq (id_of_update branch) zeros ≡ false) × (bytes_eq (id_of_update other) zeros ≡ false)
unfolding sha256 first_words schedule rounds compress hash_after digest_bytes numeral number bytes_of list_of dep id_of_update update_body update_fields
ids_apart = (refl, refl)

named_by : (t u : Update) → t ≡ u → bytes_eq (id_of_update t) zeros ≡ false → id_of_update u ≡ zeros → ⊥
named_by t u same apart_from e = iff_false (bytes_eq-Decides (id_of_update t) zeros) apart_from (ap id_of_update same ∙ e)

none_zeros : (u : Update) → IsIn u (writes_of world) → id_of_update u ≡ zeros → ⊥
unfolding signed_with
none_zeros u (inl a) e = named_by branch u a ids_apart.0 e
none_zeros u (inr (inl a)) e = named_by other u a ids_apart.1 e
none_zeros u (inr (inr (inl a))) e = named_by other u a ids_apart.1 e
none_zeros u (inr (inr (inr never))) e = absurd never

is_collision_free : IsCollisionFree world
is_collision_free = record { one = none_collide (hashed_texts world) apart; named = none_zeros }

-- so it is fork-join causal
is_fork_join_causal : IsForkJoinCausal world
is_fork_join_causal = fork_join_causal world is_world is_authentic is_collision_free
