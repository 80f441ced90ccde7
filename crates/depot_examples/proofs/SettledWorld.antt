-- A settled put, computed: in a roster of two, one node is correct. It put an update, gave a receipt for it, and took
-- one of the other. So it has receipts of more nodes than aren't correct, and the conditions of `settled_law` are met.
use Rattle.std.proofs.Common.{◌≡◌, ℕ, List, [], ◌∷◌, ◌++◌, length, false, None, refl, sym, ap, subst, ◌∙◌, inl, inr, arith, rules}
use Rattle.std.specs.Str.{bytes_eq}
use Rattle.std.proofs.lemmas.Slice.Eq.{bytes_eq-Decides}
use Rattle.std.proofs.lemmas.Bool.{iff_false}
use Rattle.sha2.specs.Sha256.{sha256, digest_bytes, hash_after, compress, rounds, schedule, first_words}
use Rattle.sha2.proofs.Facts256.{length-sha256}
use Rattle.depot_base.specs.Zeros.{zeros}
use Rattle.depot_base.specs.Cursor.{numeral}
use Rattle.depot_base.specs.Format.{number, bytes_of, inner, list_of}
use Rattle.depot_base.specs.Parts.{dep, write, marked}
use Rattle.depot_base.specs.Statement.{writer_of}
use Rattle.depot_base.specs.Writes.{put_one}
use Rattle.depot_base.specs.declared.update.Update.{Update}
use Rattle.depot_base.specs.declared.statement.Statement.TheVariants as statement
use Rattle.depot_base.specs.declared.statement.Signed.{Signed}
use Rattle.depot_base.specs.declared.record.Record.{Record}
use Rattle.depot_base.specs.declared.record.Record.TheVariants.{OwnPut, Foreign}
use Rattle.depot_base.specs.declared.write.Change.{Change}
use Rattle.depot_model.specs.lists.Lists.{IsIn}
use Rattle.depot_model.specs.texts.Texts.{update_fields, update_body, signed, roster, IsSigned, id_of_update, text_of_update, hash_of_roster}
use Rattle.depot_model.specs.texts.Texts.{statement as statement_text}
use Rattle.depot_model.specs.texts.Records.{birth, own_put, tagged, record_text}
use Rattle.depot_model.specs.updates.Order.{past}
use Rattle.depot_model.specs.updates.History.{leaves_of, put_by_id, by_id, history_text, history_hash}
use Rattle.depot_model.specs.texts.Roster.{key_of, is_signed}
use Rattle.depot_model.specs.journals.Journal.{has_id, named, prev_of, holds, is_convicted, is_vouched, first_values}
use Rattle.depot_model.specs.checks.Own.{precedes_named, next_entries, next_own, leaf_count}
use Rattle.depot_model.specs.checks.Checks.{given_statement, sight, content_checks, opponent, forked, refused_as_convicted, statement_checks, first_failed_check, is_known, answer_to, added, growth}
use Rattle.depot_model.specs.checks.Room.{full_with, full_by, foreign_leaves}
use Rattle.depot_model.specs.journals.Lawful.{IsLawful}
use Rattle.depot_model.specs.updates.Changes.{AreChanges}
use Rattle.depot_model.specs.worlds.Receipts.{receipt_key, receipt_of, receipt_changes, put_number, numbers_rising, receipts, no_receipt, HoldsAllOf, AreReceiptsTrue}
use Rattle.depot_model.specs.worlds.World.{Correct, World, IsCorrect, IsWorld, IsAuthentic}
use Rattle.depot_examples.specs.Met.{HasSettledPut}
use Rattle.depot_laws.specs.ReceiptFacts.{HaveTrueReceipts, count_incorrect}
use Rattle.depot_laws.proofs.records.Growing.{grown_is_lawful}
use Rattle.depot_laws.proofs.own_updates.OwnTexts.{own_put_is_lawful}
use Rattle.depot_laws.proofs.of_audits.Settled.{settled}
use Rattle.depot_laws.proofs.of_audits.TrueReceipts.{no_receipts_yet, silent_is_true, plain_put_is_true, receipt_put_is_true}
use Rattle.depot_laws.proofs.of_worlds.TwoNodes.{all_verify, two_nodes, node, newborn, u, first_journal, first_lawful}

-- ---- the first node put an update, and gives a receipt for it

abbrev id : List ℕ
id = id_of_update u

abbrev changes : List Change
changes = receipt_changes (id ∷ [])

good_changes : AreChanges changes
unfolding receipt_key id_of_update
good_changes = let long = length-sha256 (text_of_update u) in record { some = omega arith; few = omega arith; each = (((omega (arith, long), omega (arith, long)), (omega arith, tt)), tt); rising = (tt, tt) }

unfoldable own_receipt : Update
own_receipt = next_own 1 first_journal changes

record MayBeGiven : Type 0 where
  pub not_zeros : bytes_eq (id_of_update own_receipt) zeros ≡ false
  pub new : has_id (u ∷ []) (id_of_update own_receipt) ≡ false
  pub few : length own_receipt.deps ≡ 0
  pub room : full_by 1 first_journal (OwnPut own_receipt ([] ∷ []) ∷ []) ≡ None
  pub due : no_receipt first_journal (id ∷ []) ≡ None

may_be_given : MayBeGiven
unfolding own_receipt u receipt_key sha256 digest_bytes hash_after compress rounds schedule first_words id_of_update update_body update_fields write marked number bytes_of list_of dep next_own next_entries precedes_named prev_of past named history_hash history_text leaves_of by_id put_by_id numeral full_with foreign_leaves record_text tagged birth own_put inner hash_of_roster roster has_id no_receipt holds first_values
may_be_given = record { not_zeros = refl; new = refl; few = refl; room = refl; due = refl }

abbrev gave : List Record
gave = first_journal ++ OwnPut own_receipt ([] ∷ []) ∷ []

gave_lawful : IsLawful (node 1) gave
unfolding own_receipt leaf_count key_of
gave_lawful = own_put_is_lawful (node 1) first_journal own_receipt changes first_lawful refl good_changes refl
    (record { named = iff_false (bytes_eq-Decides (id_of_update own_receipt) zeros) may_be_given.not_zeros; new = may_be_given.new }) (omega (arith, may_be_given.few)) (omega arith) may_be_given.room

-- ---- it takes one of the other node, which isn't said to be correct

abbrev other_receipt : Update
other_receipt = record { writer = 2; seq = 0; clock = 1; prev = zeros; writes = put_one (receipt_key id) (sha256 []) 0; deps = []; history = sha256 [] }

abbrev sent : Signed
sent = record { statement = statement.Update other_receipt; body = text_of_update other_receipt; signature = [] }

sent_fits : IsSigned sent
unfolding u receipt_key sha256 digest_bytes hash_after compress rounds schedule first_words id_of_update statement_text update_body update_fields write marked number bytes_of list_of dep next_own next_entries history_hash history_text leaves_of by_id put_by_id numeral signed inner
sent_fits = search rules

record IsTaken : Type 0 where
  pub grows : growth (node 1) gave (given_statement sent) ≡ Foreign sent ∷ []
  pub room : full_by 1 gave (Foreign sent ∷ []) ≡ None

is_taken : IsTaken
unfolding own_receipt u all_verify receipt_key sha256 digest_bytes hash_after compress rounds schedule first_words id_of_update statement_text update_body update_fields write marked number bytes_of list_of dep next_own next_entries precedes_named prev_of history_hash history_text leaves_of by_id put_by_id numeral growth answer_to is_known first_failed_check statement_checks key_of is_signed content_checks sight past named has_id forked refused_as_convicted is_convicted is_vouched opponent added full_with foreign_leaves record_text tagged birth own_put inner hash_of_roster roster signed
is_taken = record { grows = refl; room = refl }

abbrev journal : List Record
journal = gave ++ Foreign sent ∷ []

lawful : IsLawful (node 1) journal
lawful = subst (λ (new : List Record). IsLawful (node 1) (gave ++ new)) is_taken.grows
    (grown_is_lawful (node 1) gave (given_statement sent) gave_lawful refl sent_fits (ap (full_by 1 gave) is_taken.grows ∙ is_taken.room))

-- ---- the world

abbrev one_node : Correct
one_node = record { node = 1; journal = journal; reads = [] }

abbrev world : World
world = record { verifies = all_verify; listed = two_nodes; nodes = one_node ∷ []; judged = [] }

nodes_are : (c : Correct) → IsIn c world.nodes → IsCorrect world c
unfolding key_of
nodes_are c (inl same) = subst (λ (x : Correct). IsCorrect world x) same (record { member = refl; lawful = lawful; begun = refl; reads = λ r never. absurd never; in_order = tt })
nodes_are c (inr never) = absurd never

is_world : IsWorld world
is_world = record { distinct = (tt, tt); correct = nodes_are; formed = λ p never. absurd never; judged = λ p never. absurd never }

by_another : (s : Signed) (c : Correct) → sent ≡ s → IsIn c world.nodes → writer_of s.statement ≡ c.node → ⊥
by_another s c same (inl is) writer = let met : 2 ≡ 1 = ap (λ (x : Signed). writer_of x.statement) same ∙ writer ∙ ap (λ (x : Correct). x.node) (sym is) in omega (arith, met)
by_another s c same (inr never) writer = never

is_authentic : IsAuthentic world
is_authentic = record { made = λ s c met on writer. absurd (elim met [ inl same ↦ by_another s c same on writer | inr never ↦ never ]) }

-- ---- its receipts are true, and more than there are nodes that aren't correct

writes_no_receipt : (key : List ℕ) → IsIn key ((107 ∷ []) ∷ []) → receipt_of key ≡ None
unfolding receipt_of
writes_no_receipt key (inl same) = subst (λ (x : List ℕ). receipt_of x ≡ None) same refl
writes_no_receipt key (inr never) = absurd never

true_receipts : AreReceiptsTrue journal
unfolding own_receipt u next_own
true_receipts = silent_is_true gave (Foreign sent ∷ []) refl
    (receipt_put_is_true first_journal own_receipt ([] ∷ []) (id ∷ []) may_be_given.due (λ key on. elim on [ inl same ↦ (id, (inl refl, sym same)) | inr never ↦ absurd never ])
    (plain_put_is_true (newborn 1) u ((5 ∷ []) ∷ []) writes_no_receipt (silent_is_true [] (newborn 1) refl no_receipts_yet)))

are_true : HaveTrueReceipts world
are_true d (inl same) = subst (λ (x : Correct). AreReceiptsTrue x.journal) same true_receipts
are_true d (inr never) = absurd never

one_incorrect : count_incorrect world ≡ 1
one_incorrect = refl

both_gave : receipts journal id ≡ 1 ∷ 2 ∷ []
unfolding own_receipt u receipt_key sha256 digest_bytes hash_after compress rounds schedule first_words id_of_update update_body update_fields write marked number bytes_of list_of dep next_own next_entries precedes_named prev_of past named history_hash history_text leaves_of by_id put_by_id numeral numbers_rising put_number
both_gave = refl

-- so some correct node accepted it and holds all its values
is_settled : (d : Correct) × (IsIn d world.nodes × HoldsAllOf d.journal id)
unfolding id_of_update
is_settled = settled world is_world one_node id 2 is_authentic are_true (omega (arith, one_incorrect)) (inl refl) (length-sha256 _) (omega (arith, ap length both_gave))

-- all that the law asks for
pub meets : (W : World) × ((k : ℕ) × HasSettledPut W k)
unfolding id_of_update
meets = (
  world,
  (
    2,
    record {
      world = is_world;
      authentic = is_authentic;
      genuine = are_true;
      few = omega (arith, one_incorrect);
      node = one_node;
      on = inl refl;
      id = id;
      long = length-sha256 _;
      many = omega (arith, ap length both_gave);
    },
  ),
)
