-- Worked audits: a put and its read, the same without the writer's put, a fork that rejoins, and a conviction that names a node.
use Rattle.std.proofs.Common.{◌≡◌, ℕ, List, [], ◌∷◌, refl, Bool, true, false, ◌+◌, nat_eq}
use Rattle.sha2.specs.Sha256.{sha256, first_words, schedule, rounds, compress, hash_after, digest_bytes}
use Rattle.depot_base.specs.Cursor.{numeral}
use Rattle.depot_base.specs.Format.{number, bytes_of, list_of}
use Rattle.depot_base.specs.Parts.{dep}
use Rattle.depot_base.specs.Zeros.{zeros}
use Rattle.depot_base.specs.Writes.{put_one}
use Rattle.depot_base.specs.declared.proof.Proof.TheVariants.{Pair}
use Rattle.depot_model.specs.texts.Contents.{held_value}
use Rattle.depot_base.specs.declared.update.Update.{Update}
use Rattle.depot_base.specs.declared.statement.Statement.TheVariants as statements
use Rattle.depot_base.specs.declared.proof.Kind.TheVariants.{SamePrev}
use Rattle.depot_base.specs.declared.record.Record.{Record}
use Rattle.depot_base.specs.declared.record.Record.TheVariants.{Birth, OwnPut, Foreign, Conviction}
use Rattle.depot_model.specs.updates.Contradictions.{kind_of, contradicts, is_of_kind}
use Rattle.depot_model.specs.texts.Texts.{update_fields, voucher_fields, update_body, statement, id_of_update}
use Rattle.depot_model.specs.worlds.World.{Read, Correct, World}
use Rattle.depot_model.specs.worlds.Audit.{the_write, yes_found, unordered_found, unseen_found, wrong_found, split_found, named_found, new_bodies, writes_once, operations, closed, observed, pair_of, circle, unordered, unseen, observed_writes, last_writes, is_exact, wrong, breaks_off, first_break, split_finding, named_node, finding_in}

-- node 1 writes the value "a" under the key "k"
abbrev one : Update
one = record { writer = 1; seq = 0; clock = 1; prev = zeros; writes = put_one (107 ∷ []) (sha256 (97 ∷ [])) 1; deps = []; history = zeros }

-- and then "b" after it
abbrev two : Update
two = record { writer = 1; seq = 1; clock = 2; prev = id_of_update one; writes = put_one (107 ∷ []) (sha256 (98 ∷ [])) 1; deps = []; history = zeros }

-- or "c", as if nothing came before
abbrev apart : Update
apart = record { writer = 1; seq = 1; clock = 2; prev = zeros; writes = put_one (107 ∷ []) (sha256 (99 ∷ [])) 1; deps = []; history = zeros }

abbrev told : Update → Record
told u = Foreign (record { statement = statements.Update u; body = []; signature = [] })

-- a read of the key after this many records, which shows one write with its value
abbrev seen : ℕ → Update → List ℕ → Read
seen n u value = record { at = n; key = 107 ∷ []; answer = record { update = u; seen = held_value value } ∷ [] }

abbrev node : ℕ → List Record → List Read → Correct
node n J reads = record { node = n; journal = J; reads = reads }

abbrev of_nodes : List Correct → World
of_nodes cs = record { verifies = λ key seq body signature. true; listed = []; nodes = cs; judged = [] }

-- ---- what is found

-- a put, its read, a put after it, and another node that took both and read the last
put_and_read : finding_in (of_nodes (node 1 (Birth 1 zeros ∷ OwnPut one ((97 ∷ []) ∷ []) ∷ OwnPut two ((98 ∷ []) ∷ []) ∷ []) (seen 2 one (97 ∷ []) ∷ []) ∷ node 2 (Birth 2 zeros ∷ told one ∷ told two ∷ []) (seen 3 two (98 ∷ []) ∷ []) ∷ [])) ≡ yes_found
unfolding sha256 first_words schedule rounds compress hash_after digest_bytes numeral number bytes_of list_of dep update_fields voucher_fields update_body statement id_of_update kind_of contradicts is_of_kind new_bodies writes_once operations closed observed pair_of circle unordered unseen observed_writes last_writes is_exact wrong breaks_off first_break split_finding named_node finding_in
put_and_read = refl

-- the writer is here, and didn't put it
not_put : finding_in (of_nodes (node 1 (Birth 1 zeros ∷ []) [] ∷ node 2 (Birth 2 zeros ∷ told one ∷ []) (seen 2 one (97 ∷ []) ∷ []) ∷ [])) ≡ wrong_found 2 0
unfolding sha256 first_words schedule rounds compress hash_after digest_bytes numeral number bytes_of list_of dep update_fields voucher_fields update_body statement id_of_update kind_of contradicts is_of_kind new_bodies writes_once operations closed observed pair_of circle unordered unseen observed_writes last_writes is_exact wrong breaks_off first_break split_finding named_node finding_in
not_put = refl

-- the same where the writer isn't handed in
writer_absent : finding_in (of_nodes (node 2 (Birth 2 zeros ∷ told one ∷ []) (seen 2 one (97 ∷ []) ∷ []) ∷ [])) ≡ yes_found
unfolding sha256 first_words schedule rounds compress hash_after digest_bytes numeral number bytes_of list_of dep update_fields voucher_fields update_body statement id_of_update kind_of contradicts is_of_kind new_bodies writes_once operations closed observed pair_of circle unordered unseen observed_writes last_writes is_exact wrong breaks_off first_break split_finding named_node finding_in
writer_absent = refl

-- a value that the write doesn't name
other_value : finding_in (of_nodes (node 2 (Birth 2 zeros ∷ told one ∷ []) (seen 2 one (98 ∷ []) ∷ []) ∷ [])) ≡ wrong_found 2 0
unfolding sha256 first_words schedule rounds compress hash_after digest_bytes numeral number bytes_of list_of dep update_fields voucher_fields update_body statement id_of_update kind_of contradicts is_of_kind new_bodies writes_once operations closed observed pair_of circle unordered unseen observed_writes last_writes is_exact wrong breaks_off first_break split_finding named_node finding_in
other_value = refl

-- a read that shows the older of two
old_read : finding_in (of_nodes (node 2 (Birth 2 zeros ∷ told one ∷ told two ∷ []) (seen 3 one (97 ∷ []) ∷ []) ∷ [])) ≡ wrong_found 2 0
unfolding sha256 first_words schedule rounds compress hash_after digest_bytes numeral number bytes_of list_of dep update_fields voucher_fields update_body statement id_of_update kind_of contradicts is_of_kind new_bodies writes_once operations closed observed pair_of circle unordered unseen observed_writes last_writes is_exact wrong breaks_off first_break split_finding named_node finding_in
old_read = refl

-- ---- what lawful records never give

-- two puts of a node of which the second names nothing: a fork that nobody is convicted of, and puts out of order
out_of_order : finding_in (of_nodes (node 1 (Birth 1 zeros ∷ OwnPut one ((97 ∷ []) ∷ []) ∷ OwnPut apart ((99 ∷ []) ∷ []) ∷ []) [] ∷ [])) ≡ unordered_found (the_write 1 1) (the_write 1 2)
unfolding sha256 first_words schedule rounds compress hash_after digest_bytes numeral number bytes_of list_of dep update_fields voucher_fields update_body statement id_of_update kind_of contradicts is_of_kind new_bodies writes_once operations closed observed pair_of circle unordered unseen observed_writes last_writes is_exact wrong breaks_off first_break split_finding named_node finding_in
out_of_order = refl

-- a put after a taken update that it doesn't name
not_seen : finding_in (of_nodes (node 2 (Birth 2 zeros ∷ told one ∷ OwnPut (record { writer = 2; seq = 0; clock = 2; prev = zeros; writes = put_one (107 ∷ []) (sha256 (98 ∷ [])) 1; deps = []; history = zeros }) ((98 ∷ []) ∷ []) ∷ []) [] ∷ [])) ≡ unseen_found (the_write 2 1) (the_write 2 2)
unfolding sha256 first_words schedule rounds compress hash_after digest_bytes numeral number bytes_of list_of dep update_fields voucher_fields update_body statement id_of_update kind_of contradicts is_of_kind new_bodies writes_once operations closed observed pair_of circle unordered unseen observed_writes last_writes is_exact wrong breaks_off first_break split_finding named_node finding_in
not_seen = refl

-- a taken fork whose writer isn't convicted
forked_off : finding_in (of_nodes (node 2 (Birth 2 zeros ∷ told one ∷ told apart ∷ []) [] ∷ [])) ≡ split_found 2 2
unfolding sha256 first_words schedule rounds compress hash_after digest_bytes numeral number bytes_of list_of dep update_fields voucher_fields update_body statement id_of_update kind_of contradicts is_of_kind new_bodies writes_once operations closed observed pair_of circle unordered unseen observed_writes last_writes is_exact wrong breaks_off first_break split_finding named_node finding_in
forked_off = refl

-- the same, after which the writer is convicted: a fork of separate branches
abbrev proof_of_fork : Record
proof_of_fork = Conviction (Pair SamePrev (record { statement = statements.Update one; body = []; signature = [] }) (record { statement = statements.Update apart; body = []; signature = [] }))

convicted_fork : finding_in (of_nodes (node 2 (Birth 2 zeros ∷ told one ∷ told apart ∷ proof_of_fork ∷ []) [] ∷ [])) ≡ yes_found
unfolding sha256 first_words schedule rounds compress hash_after digest_bytes numeral number bytes_of list_of dep update_fields voucher_fields update_body statement id_of_update kind_of contradicts is_of_kind new_bodies writes_once operations closed observed pair_of circle unordered unseen observed_writes last_writes is_exact wrong breaks_off first_break split_finding named_node finding_in
convicted_fork = refl

-- and the convicted writer is handed in
names_a_node : finding_in (of_nodes (node 1 (Birth 1 zeros ∷ OwnPut one ((97 ∷ []) ∷ []) ∷ []) [] ∷ node 2 (Birth 2 zeros ∷ told one ∷ told apart ∷ proof_of_fork ∷ []) [] ∷ [])) ≡ named_found 2 3
unfolding sha256 first_words schedule rounds compress hash_after digest_bytes numeral number bytes_of list_of dep update_fields voucher_fields update_body statement id_of_update kind_of contradicts is_of_kind new_bodies writes_once operations closed observed pair_of circle unordered unseen observed_writes last_writes is_exact wrong breaks_off first_break split_finding named_node finding_in
names_a_node = refl

-- ---- closures

abbrev eq_next : ℕ → ℕ → Bool
eq_next a b = nat_eq (a + 1) b

-- a path of two edges, by the one stop between them; none without it
by_a_stop : closed (λ (a b : ℕ). eq_next a b) (2 ∷ []) 1 3 ≡ true
unfolding closed
by_a_stop = refl

no_stop : closed (λ (a b : ℕ). eq_next a b) (5 ∷ []) 1 3 ≡ false
unfolding closed
no_stop = refl
