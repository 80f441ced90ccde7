-- Worked examples of what is named first if several things are wrong: of two ids without their value, of two unknown
-- leaves, and of what an audit finds.
use Rattle.std.proofs.Common.{◌≡◌, ℕ, List, [], ◌∷◌, Some, true, refl}
use Rattle.sha2.specs.Sha256.{sha256, first_words, schedule, rounds, compress, hash_after, digest_bytes}
use Rattle.depot_base.specs.Cursor.{numeral}
use Rattle.depot_base.specs.Format.{number, bytes_of, list_of}
use Rattle.depot_base.specs.Parts.{dep}
use Rattle.depot_base.specs.Zeros.{zeros}
use Rattle.depot_base.specs.Writes.{put_one}
use Rattle.depot_base.specs.declared.update.Update.{Update}
use Rattle.depot_base.specs.declared.statement.Statement.TheVariants as statements
use Rattle.depot_base.specs.declared.proof.Kind.TheVariants.{SamePrev}
use Rattle.depot_base.specs.declared.proof.Proof.TheVariants.{Pair}
use Rattle.depot_base.specs.declared.record.Record.{Record}
use Rattle.depot_base.specs.declared.record.Record.TheVariants.{Birth, OwnPut, Foreign, Conviction}
use Rattle.depot_model.specs.texts.Contents.{held_value}
use Rattle.depot_model.specs.updates.Contradictions.{kind_of, contradicts, is_of_kind}
use Rattle.depot_model.specs.journals.Journal.{first_values, has_id, holds, named}
use Rattle.depot_model.specs.readers.Opening.{unknown_leaf}
use Rattle.depot_model.specs.worlds.Receipts.{no_receipt, lacks_value}
use Rattle.depot_model.specs.texts.Texts.{update_fields, voucher_fields, update_body, statement, id_of_update}
use Rattle.depot_model.specs.worlds.World.{Read, Correct, World}
use Rattle.depot_model.specs.worlds.Audit.{wrong_found, named_found, new_bodies, writes_once, operations, closed, observed, pair_of, circle, unordered, unseen, observed_writes, last_writes, is_exact, wrong, breaks_off, first_break, split_finding, named_node, finding_in}
use Rattle.depot_model.proofs.examples.Cast.{mark}

-- ---- ids without their value

-- the first write of a node: the value of this byte under the key "k"
abbrev first_write : ℕ → ℕ → Update
first_write n byte = record { writer = n; seq = 0; clock = 1; prev = zeros; writes = put_one (107 ∷ []) (sha256 (byte ∷ [])) 1; deps = []; history = zeros }

abbrev told : Update → Record
told u = Foreign (record { statement = statements.Update u; body = []; signature = [] })

-- node 3 took a write of node 1 and one of node 2, and no value
abbrev without : List Record
without = Birth 3 zeros ∷ told (first_write 1 97) ∷ told (first_write 2 98) ∷ []

-- the first of two ids is named, in whatever order they are asked for
record FirstId : Type 0 where
  pub one_way : no_receipt without (id_of_update (first_write 1 97) ∷ id_of_update (first_write 2 98) ∷ []) ≡ Some (lacks_value (id_of_update (first_write 1 97)))
  pub other_way : no_receipt without (id_of_update (first_write 2 98) ∷ id_of_update (first_write 1 97) ∷ []) ≡ Some (lacks_value (id_of_update (first_write 2 98)))

first_id : FirstId
unfolding sha256 first_words schedule rounds compress hash_after digest_bytes numeral number bytes_of list_of dep update_fields update_body id_of_update no_receipt has_id holds first_values
first_id = record { one_way = refl; other_way = refl }

-- ---- unknown leaves

-- of two leaves that nothing accepted is, the first
first_leaf : unknown_leaf [] (record { writer = 1; id = mark 1 } ∷ record { writer = 2; id = mark 2 } ∷ []) ≡ Some (mark 1)
unfolding unknown_leaf named
first_leaf = refl

-- ---- what an audit finds

-- node 1 writes "a", and another first write of it has "c"
abbrev one : Update
one = first_write 1 97

abbrev apart : Update
apart = record { writer = 1; seq = 1; clock = 2; prev = zeros; writes = put_one (107 ∷ []) (sha256 (99 ∷ [])) 1; deps = []; history = zeros }

-- a read of the key after so many records, which shows the first write with this value
abbrev seen : ℕ → List ℕ → Read
seen n value = record { at = n; key = 107 ∷ []; answer = record { update = one; seen = held_value value } ∷ [] }

abbrev node : ℕ → List Record → List Read → Correct
node n J reads = record { node = n; journal = J; reads = reads }

abbrev of_nodes : List Correct → World
of_nodes cs = record { verifies = λ key seq body signature. true; listed = []; nodes = cs; judged = [] }

abbrev convicts_one : Record
convicts_one = Conviction (Pair SamePrev (record { statement = statements.Update one; body = []; signature = [] }) (record { statement = statements.Update apart; body = []; signature = [] }))

-- a wrong read is found, even where a conviction names a node
wrong_before_named : finding_in (of_nodes (node 1 (Birth 1 zeros ∷ []) [] ∷ node 2 (Birth 2 zeros ∷ told one ∷ convicts_one ∷ []) (seen 2 (97 ∷ []) ∷ []) ∷ [])) ≡ wrong_found 2 0
unfolding sha256 first_words schedule rounds compress hash_after digest_bytes numeral number bytes_of list_of dep update_fields voucher_fields update_body statement id_of_update kind_of contradicts is_of_kind new_bodies writes_once operations closed observed pair_of circle unordered unseen observed_writes last_writes is_exact wrong breaks_off first_break split_finding named_node finding_in
wrong_before_named = refl

-- of wrong reads of two nodes that of the first node is found, and of two of one node the first
first_wrong_read : finding_in (of_nodes (node 2 (Birth 2 zeros ∷ told one ∷ []) (seen 2 (97 ∷ []) ∷ seen 2 (98 ∷ []) ∷ seen 2 (99 ∷ []) ∷ []) ∷ node 3 (Birth 3 zeros ∷ told one ∷ []) (seen 2 (98 ∷ []) ∷ []) ∷ [])) ≡ wrong_found 2 1
unfolding sha256 first_words schedule rounds compress hash_after digest_bytes numeral number bytes_of list_of dep update_fields voucher_fields update_body statement id_of_update kind_of contradicts is_of_kind new_bodies writes_once operations closed observed pair_of circle unordered unseen observed_writes last_writes is_exact wrong breaks_off first_break split_finding named_node finding_in
first_wrong_read = refl

-- of convictions that two nodes keep that of the first node, and of two of one node the first
first_conviction : finding_in (of_nodes (node 1 (Birth 1 zeros ∷ OwnPut one ((97 ∷ []) ∷ []) ∷ []) [] ∷ node 2 (Birth 2 zeros ∷ told one ∷ convicts_one ∷ convicts_one ∷ []) [] ∷ node 3 (Birth 3 zeros ∷ convicts_one ∷ []) [] ∷ [])) ≡ named_found 2 2
unfolding sha256 first_words schedule rounds compress hash_after digest_bytes numeral number bytes_of list_of dep update_fields voucher_fields update_body statement id_of_update kind_of contradicts is_of_kind new_bodies writes_once operations closed observed pair_of circle unordered unseen observed_writes last_writes is_exact wrong breaks_off first_break split_finding named_node finding_in
first_conviction = refl
