-- Worked exchanges between nodes, computed with the plain scheme: what the definitions say of them, digests and signatures included.
use Rattle.std.proofs.Common.{◌≡◌, ℕ, List, [], ◌∷◌, ◌++◌, length, map, take, drop, replicate, Bool, false, Option, Some, None, refl}
use Rattle.depot_base.specs.Writes.{put_one, one_change}
use Rattle.depot_base.specs.declared.statement.Statement.TheVariants as statements
use Rattle.depot_base.specs.declared.check.Check.TheVariants as check
use Rattle.depot_model.specs.declared.bundle.Ending.TheVariants as ending
use Rattle.depot_base.specs.Closed.{rest_of}
use Rattle.depot_base.specs.Cursor.{numeral}
use Rattle.depot_base.specs.Format.{number, bytes_of, inner, list_of}
use Rattle.depot_base.specs.Parts.{dep, roster_entry, write, marked}
use Rattle.depot_model.specs.exchange.Bundle.{signed_with, is_covered, candidates, values_behind, candidate_parcels, parcels, fitting, sent_for, sent_foreign, unvouched, bundle_frames, bundle_of, bundle_answer, Signs, BundleAnswer, bundled, bad_hello, other_roster, limited, bytes_of_bundle, statement_frame, value_frame, with_vouchers}
use Rattle.depot_model.specs.checks.Checks.{sight, content_checks, opponent, forked, refused_as_convicted, statement_checks, proof_checks, first_failed_check, is_known, answer_to, due, named_opponent, added, growth, Setting}
use Rattle.depot_model.specs.updates.Contradictions.{is_of_kind, contradicts, kind_of}
use Rattle.depot_model.specs.updates.Conviction.{proof_of}
use Rattle.depot_model.specs.updates.Judgement.{points}
use Rattle.depot_model.specs.checks.Taking.{given_as}
use Rattle.depot_model.specs.exchange.Feeding.{given_by, take_frame, fed_frame, fed_byte, fed, ending_of, report_of, Feeding, ill_formed, feed_of}
use Rattle.depot_model.specs.texts.Frames.{frame_at, text_of_frame}
use Rattle.depot_model.specs.exchange.Hello.{hello_leaf, hello, convicted_nodes, lacking, hello_of, text_of_hello}
use Rattle.depot_model.specs.updates.History.{leaves_of, put_by_id, by_id, history_text, history_hash}
use Rattle.depot_model.specs.journals.Journal.{first_values, has_id, named, prev_of, is_convicted, is_vouched, holds_hash, holds, seen_under, is_wanted, accepted, convicted}
use Rattle.depot_model.specs.texts.Contents.{held_value, gone}
use Rattle.depot_base.specs.declared.write.Change.{Change}
use Rattle.depot_model.specs.checks.Limits.{spent_by, tips_of, collides_by, limit_of_own, limit_of_put, spent}
use Rattle.depot_model.specs.updates.Order.{past}
use Rattle.depot_model.specs.checks.Own.{precedes_named, next_entries, next_own, leaf_count, values_of}
use Rattle.depot_model.specs.texts.Plain.{plain_root, plain_signature, plain_verifies}
use Rattle.depot_model.specs.texts.Records.{birth, own_put, tagged, record_text}
use Rattle.depot_model.specs.checks.Room.{foreign_leaves, full_with}
use Rattle.depot_model.specs.texts.Roster.{key_of, is_signed}
use Rattle.depot_model.specs.texts.Texts.{update_fields, voucher_fields, update_body, voucher_body, statement, signed, proof, roster, id_of_update, id_of_statement, hash_of_roster}
use Rattle.depot_model.specs.checks.Vouching.{put_rising, rising, groups_behind, groups_of, new_vouchers, limit_of_new, limit_of_vouchers}
use Rattle.sha2.specs.Sha256.{sha256, first_words, schedule, rounds, compress, hash_after, digest_bytes}
use Rattle.depot_base.specs.Zeros.{zeros}
use Rattle.depot_base.specs.declared.update.Update.{Update}
use Rattle.depot_base.specs.declared.voucher.Voucher.{Voucher}
use Rattle.depot_base.specs.declared.key.RosterEntry.{RosterEntry}
use Rattle.depot_base.specs.declared.proof.Kind.TheVariants.{SamePrev}
use Rattle.depot_base.specs.declared.record.Record.{Record}
use Rattle.depot_base.specs.declared.record.Record.TheVariants.{Birth, OwnPut, OwnVoucher, Foreign, Held}
use Rattle.depot_base.specs.declared.statement.Signed.{Signed}
use Rattle.depot_model.specs.declared.bundle.Counts.{Counts}
use Rattle.depot_model.specs.declared.bundle.Report.{Report}
use Rattle.depot_model.specs.declared.bundle.Ending.{Ending}

-- ---- the nodes

-- the seed of a node: 30 zero bytes and its number
abbrev pub seed : ℕ → List ℕ
seed n = replicate 30 0 ++ 0 ∷ n ∷ []

abbrev pub entry : ℕ → RosterEntry
entry n = record { node = n; key = record { root = plain_root (seed n); height = 4 } }

abbrev pub members : List RosterEntry
members = entry 1 ∷ entry 2 ∷ entry 3 ∷ entry 9 ∷ []

abbrev pub here : ℕ → Setting
here n = record { verifies = plain_verifies; me = n; listed = members }

abbrev pub sign : ℕ → Signs
sign n = plain_signature (plain_root (seed n))

abbrev pub born : ℕ → List Record
born n = Birth n (hash_of_roster members) ∷ []

-- ---- what they do

-- a node puts a value of one byte under the key "k"
abbrev pub put : ℕ → ℕ → List Record → List Record
put n value J = J ++ OwnPut (next_own n J (one_change (107 ∷ []) (value ∷ []))) ((value ∷ []) ∷ []) ∷ []

abbrev pub hello_text : ℕ → List Record → List ℕ
hello_text n J = text_of_hello (hello_of (here n) J)

-- node n bundles for the hello of node m
abbrev pub bundle : ℕ → List Record → ℕ → List Record → BundleAnswer
bundle n J m K = bundle_answer (here n) (sign n) J (hello_text m K)

abbrev pub bytes_in : BundleAnswer → List ℕ
bytes_in (bundled b) = bytes_of_bundle b
bytes_in other = []

-- the counts, and whether there is more
abbrev pub told : BundleAnswer → Option (Counts × Bool)
told (bundled b) = Some (b.counts, b.more)
told other = None

-- the journal with the vouchers of a bundle
abbrev pub vouched_in : List Record → BundleAnswer → List Record
vouched_in J (bundled b) = with_vouchers J b.vouchers
vouched_in J other = J

-- node n takes these bytes
abbrev pub give : ℕ → List Record → List ℕ → Feeding
give n J bytes = feed_of (here n) J bytes

abbrev pub sums : ℕ → ℕ → ℕ → ℕ → Counts
sums p v u x = record { proofs = p; vouchers = v; updates = u; values = x }

-- a report in which nothing is refused
abbrev pub taken : ℕ → ℕ → Ending → Report
taken a k e = record { accepted = a; known = k; refused = []; ending = e }

-- what a faulty writer signs: an update of the key "k" without entries, and with an empty past
abbrev pub faulty : ℕ → ℕ → ℕ → Update
faulty seq clock value = record { writer = 9; seq = seq; clock = clock; prev = zeros; writes = put_one (107 ∷ []) (sha256 (value ∷ [])) 1; deps = []; history = sha256 [] }

-- its frames: the statement's and the value's
abbrev pub stream : ℕ → ℕ → ℕ → List ℕ
stream seq clock value = text_of_frame (statement_frame (signed_with (sign 9) (statements.Update (faulty seq clock value)))) ++ text_of_frame (value_frame (value ∷ []))

-- ---- concurrent writes of one key meet

abbrev first_put : List Record
first_put = put 1 97 (born 1)

abbrev second_put : List Record
second_put = put 2 98 (born 2)

abbrev from_first : BundleAnswer
from_first = bundle 1 first_put 2 second_put

abbrev to_second : Feeding
to_second = give 2 second_put (bytes_in from_first)

abbrev to_first : Feeding
to_first = give 1 first_put (bytes_in (bundle 2 second_put 1 first_put))

record ConcurrentWritesMeet : Type 0 where
  -- nothing hinders the put
  pub no_limit : limit_of_put (here 1) (born 1) (one_change (107 ∷ []) (97 ∷ [])) ≡ None
  -- the hello has one leaf, and wants nothing
  pub leaves : length (hello_of (here 1) first_put).leaves ≡ 1
  pub wanted : (hello_of (here 1) first_put).wanted ≡ []
  -- the bundle has the update and its value
  pub sent : told from_first ≡ Some (sums 0 0 1 1, false)
  -- both are taken, and both nodes have both
  pub second : report_of to_second ≡ taken 2 0 ending.Whole
  pub first : report_of to_first ≡ taken 2 0 ending.Whole
  pub at_second : length (accepted to_second.journal) ≡ 2
  pub at_first : length (accepted to_first.journal) ≡ 2
  -- what comes twice is known
  pub again : report_of (give 2 to_second.journal (bytes_in from_first)) ≡ taken 0 2 ending.Whole

concurrent_writes_meet : ConcurrentWritesMeet
unfolding rest_of numeral number bytes_of inner list_of dep roster_entry signed_with is_covered candidates values_behind candidate_parcels parcels fitting sent_for sent_foreign unvouched bundle_frames bundle_of bundle_answer sight content_checks opponent forked refused_as_convicted statement_checks proof_checks points first_failed_check is_known answer_to due named_opponent added growth is_of_kind contradicts kind_of proof_of given_by given_as take_frame fed_frame fed_byte fed ending_of report_of frame_at hello_leaf hello convicted_nodes lacking hello_of leaves_of put_by_id by_id history_text history_hash first_values has_id named prev_of is_convicted is_vouched holds_hash holds seen_under is_wanted spent_by tips_of collides_by limit_of_own limit_of_put past precedes_named next_entries next_own leaf_count plain_root plain_signature plain_verifies birth own_put tagged record_text foreign_leaves full_with key_of is_signed update_fields voucher_fields update_body voucher_body statement signed proof roster id_of_update id_of_statement hash_of_roster put_rising rising groups_behind groups_of new_vouchers limit_of_new limit_of_vouchers sha256 first_words schedule rounds compress hash_after digest_bytes
concurrent_writes_meet = record { no_limit = refl; leaves = refl; wanted = refl; sent = refl; second = refl; first = refl; at_second = refl; at_first = refl; again = refl }

-- ---- the same nodes, with the digests written out

abbrev pub of_one : Update
of_one = record { writer = 1; seq = 0; clock = 1; prev = (0 ∷ 0 ∷ 0 ∷ 0 ∷ 0 ∷ 0 ∷ 0 ∷ 0 ∷ 0 ∷ 0 ∷ 0 ∷ 0 ∷ 0 ∷ 0 ∷ 0 ∷ 0 ∷ 0 ∷ 0 ∷ 0 ∷ 0 ∷ 0 ∷ 0 ∷ 0 ∷ 0 ∷ 0 ∷ 0 ∷ 0 ∷ 0 ∷ 0 ∷ 0 ∷ 0 ∷ 0 ∷ []); writes = put_one (107 ∷ []) (202 ∷ 151 ∷ 129 ∷ 18 ∷ 202 ∷ 27 ∷ 189 ∷ 202 ∷ 250 ∷ 194 ∷ 49 ∷ 179 ∷ 154 ∷ 35 ∷ 220 ∷ 77 ∷ 167 ∷ 134 ∷ 239 ∷ 248 ∷ 20 ∷ 124 ∷ 78 ∷ 114 ∷ 185 ∷ 128 ∷ 119 ∷ 133 ∷ 175 ∷ 238 ∷ 72 ∷ 187 ∷ []) 1; deps = []; history = (227 ∷ 176 ∷ 196 ∷ 66 ∷ 152 ∷ 252 ∷ 28 ∷ 20 ∷ 154 ∷ 251 ∷ 244 ∷ 200 ∷ 153 ∷ 111 ∷ 185 ∷ 36 ∷ 39 ∷ 174 ∷ 65 ∷ 228 ∷ 100 ∷ 155 ∷ 147 ∷ 76 ∷ 164 ∷ 149 ∷ 153 ∷ 27 ∷ 120 ∷ 82 ∷ 184 ∷ 85 ∷ []) }

abbrev pub of_two : Update
of_two = record { writer = 2; seq = 0; clock = 1; prev = (0 ∷ 0 ∷ 0 ∷ 0 ∷ 0 ∷ 0 ∷ 0 ∷ 0 ∷ 0 ∷ 0 ∷ 0 ∷ 0 ∷ 0 ∷ 0 ∷ 0 ∷ 0 ∷ 0 ∷ 0 ∷ 0 ∷ 0 ∷ 0 ∷ 0 ∷ 0 ∷ 0 ∷ 0 ∷ 0 ∷ 0 ∷ 0 ∷ 0 ∷ 0 ∷ 0 ∷ 0 ∷ []); writes = put_one (107 ∷ []) (62 ∷ 35 ∷ 232 ∷ 22 ∷ 0 ∷ 57 ∷ 89 ∷ 74 ∷ 51 ∷ 137 ∷ 79 ∷ 101 ∷ 100 ∷ 225 ∷ 177 ∷ 52 ∷ 139 ∷ 189 ∷ 122 ∷ 0 ∷ 136 ∷ 212 ∷ 44 ∷ 74 ∷ 203 ∷ 115 ∷ 238 ∷ 174 ∷ 213 ∷ 156 ∷ 0 ∷ 157 ∷ []) 1; deps = []; history = (227 ∷ 176 ∷ 196 ∷ 66 ∷ 152 ∷ 252 ∷ 28 ∷ 20 ∷ 154 ∷ 251 ∷ 244 ∷ 200 ∷ 153 ∷ 111 ∷ 185 ∷ 36 ∷ 39 ∷ 174 ∷ 65 ∷ 228 ∷ 100 ∷ 155 ∷ 147 ∷ 76 ∷ 164 ∷ 149 ∷ 153 ∷ 27 ∷ 120 ∷ 82 ∷ 184 ∷ 85 ∷ []) }

-- node 1 has taken that of node 2, and joins the two
abbrev pub join : Update
join = record { writer = 1; seq = 1; clock = 2; prev = (223 ∷ 75 ∷ 229 ∷ 11 ∷ 123 ∷ 209 ∷ 220 ∷ 7 ∷ 252 ∷ 103 ∷ 178 ∷ 209 ∷ 232 ∷ 150 ∷ 123 ∷ 231 ∷ 224 ∷ 34 ∷ 228 ∷ 116 ∷ 248 ∷ 28 ∷ 181 ∷ 16 ∷ 32 ∷ 57 ∷ 193 ∷ 166 ∷ 236 ∷ 192 ∷ 102 ∷ 107 ∷ []); writes = put_one (107 ∷ []) (46 ∷ 125 ∷ 44 ∷ 3 ∷ 169 ∷ 80 ∷ 122 ∷ 226 ∷ 101 ∷ 236 ∷ 245 ∷ 181 ∷ 53 ∷ 104 ∷ 133 ∷ 165 ∷ 51 ∷ 147 ∷ 162 ∷ 2 ∷ 157 ∷ 36 ∷ 19 ∷ 148 ∷ 153 ∷ 114 ∷ 101 ∷ 161 ∷ 162 ∷ 90 ∷ 239 ∷ 198 ∷ []) 1; deps = record { writer = 2; clock = 1; id = (132 ∷ 226 ∷ 87 ∷ 104 ∷ 70 ∷ 44 ∷ 64 ∷ 165 ∷ 225 ∷ 110 ∷ 19 ∷ 181 ∷ 202 ∷ 45 ∷ 216 ∷ 184 ∷ 122 ∷ 49 ∷ 101 ∷ 29 ∷ 197 ∷ 119 ∷ 38 ∷ 230 ∷ 241 ∷ 25 ∷ 227 ∷ 142 ∷ 193 ∷ 246 ∷ 158 ∷ 100 ∷ []) } ∷ []; history = (161 ∷ 60 ∷ 108 ∷ 129 ∷ 67 ∷ 202 ∷ 111 ∷ 177 ∷ 198 ∷ 141 ∷ 245 ∷ 170 ∷ 133 ∷ 7 ∷ 201 ∷ 25 ∷ 22 ∷ 98 ∷ 59 ∷ 90 ∷ 54 ∷ 204 ∷ 82 ∷ 114 ∷ 116 ∷ 208 ∷ 240 ∷ 224 ∷ 133 ∷ 249 ∷ 118 ∷ 196 ∷ []) }

abbrev pub of_two_signed : Signed
of_two_signed = record { statement = statements.Update of_two; body = (1 ∷ 1 ∷ 0 ∷ 2 ∷ 0 ∷ 0 ∷ 0 ∷ 0 ∷ 0 ∷ 0 ∷ 0 ∷ 0 ∷ 0 ∷ 0 ∷ 0 ∷ 1 ∷ 0 ∷ 0 ∷ 0 ∷ 0 ∷ 0 ∷ 0 ∷ 0 ∷ 0 ∷ 0 ∷ 0 ∷ 0 ∷ 0 ∷ 0 ∷ 0 ∷ 0 ∷ 0 ∷ 0 ∷ 0 ∷ 0 ∷ 0 ∷ 0 ∷ 0 ∷ 0 ∷ 0 ∷ 0 ∷ 0 ∷ 0 ∷ 0 ∷ 0 ∷ 0 ∷ 0 ∷ 0 ∷ 1 ∷ 107 ∷ 62 ∷ 35 ∷ 232 ∷ 22 ∷ 0 ∷ 57 ∷ 89 ∷ 74 ∷ 51 ∷ 137 ∷ 79 ∷ 101 ∷ 100 ∷ 225 ∷ 177 ∷ 52 ∷ 139 ∷ 189 ∷ 122 ∷ 0 ∷ 136 ∷ 212 ∷ 44 ∷ 74 ∷ 203 ∷ 115 ∷ 238 ∷ 174 ∷ 213 ∷ 156 ∷ 0 ∷ 157 ∷ 0 ∷ 0 ∷ 0 ∷ 1 ∷ 0 ∷ 0 ∷ 227 ∷ 176 ∷ 196 ∷ 66 ∷ 152 ∷ 252 ∷ 28 ∷ 20 ∷ 154 ∷ 251 ∷ 244 ∷ 200 ∷ 153 ∷ 111 ∷ 185 ∷ 36 ∷ 39 ∷ 174 ∷ 65 ∷ 228 ∷ 100 ∷ 155 ∷ 147 ∷ 76 ∷ 164 ∷ 149 ∷ 153 ∷ 27 ∷ 120 ∷ 82 ∷ 184 ∷ 85 ∷ []); signature = (161 ∷ 241 ∷ 40 ∷ 110 ∷ 124 ∷ 109 ∷ 130 ∷ 110 ∷ 254 ∷ 196 ∷ 105 ∷ 183 ∷ 95 ∷ 17 ∷ 168 ∷ 82 ∷ 127 ∷ 255 ∷ 254 ∷ 73 ∷ 253 ∷ 28 ∷ 246 ∷ 221 ∷ 214 ∷ 95 ∷ 222 ∷ 215 ∷ 17 ∷ 138 ∷ 119 ∷ 222 ∷ []) }

abbrev pub join_signed : Signed
join_signed = record { statement = statements.Update join; body = (1 ∷ 1 ∷ 0 ∷ 1 ∷ 0 ∷ 0 ∷ 0 ∷ 1 ∷ 0 ∷ 0 ∷ 0 ∷ 0 ∷ 0 ∷ 0 ∷ 0 ∷ 2 ∷ 223 ∷ 75 ∷ 229 ∷ 11 ∷ 123 ∷ 209 ∷ 220 ∷ 7 ∷ 252 ∷ 103 ∷ 178 ∷ 209 ∷ 232 ∷ 150 ∷ 123 ∷ 231 ∷ 224 ∷ 34 ∷ 228 ∷ 116 ∷ 248 ∷ 28 ∷ 181 ∷ 16 ∷ 32 ∷ 57 ∷ 193 ∷ 166 ∷ 236 ∷ 192 ∷ 102 ∷ 107 ∷ 1 ∷ 107 ∷ 46 ∷ 125 ∷ 44 ∷ 3 ∷ 169 ∷ 80 ∷ 122 ∷ 226 ∷ 101 ∷ 236 ∷ 245 ∷ 181 ∷ 53 ∷ 104 ∷ 133 ∷ 165 ∷ 51 ∷ 147 ∷ 162 ∷ 2 ∷ 157 ∷ 36 ∷ 19 ∷ 148 ∷ 153 ∷ 114 ∷ 101 ∷ 161 ∷ 162 ∷ 90 ∷ 239 ∷ 198 ∷ 0 ∷ 0 ∷ 0 ∷ 1 ∷ 0 ∷ 1 ∷ 0 ∷ 2 ∷ 0 ∷ 0 ∷ 0 ∷ 0 ∷ 0 ∷ 0 ∷ 0 ∷ 1 ∷ 132 ∷ 226 ∷ 87 ∷ 104 ∷ 70 ∷ 44 ∷ 64 ∷ 165 ∷ 225 ∷ 110 ∷ 19 ∷ 181 ∷ 202 ∷ 45 ∷ 216 ∷ 184 ∷ 122 ∷ 49 ∷ 101 ∷ 29 ∷ 197 ∷ 119 ∷ 38 ∷ 230 ∷ 241 ∷ 25 ∷ 227 ∷ 142 ∷ 193 ∷ 246 ∷ 158 ∷ 100 ∷ 161 ∷ 60 ∷ 108 ∷ 129 ∷ 67 ∷ 202 ∷ 111 ∷ 177 ∷ 198 ∷ 141 ∷ 245 ∷ 170 ∷ 133 ∷ 7 ∷ 201 ∷ 25 ∷ 22 ∷ 98 ∷ 59 ∷ 90 ∷ 54 ∷ 204 ∷ 82 ∷ 114 ∷ 116 ∷ 208 ∷ 240 ∷ 224 ∷ 133 ∷ 249 ∷ 118 ∷ 196 ∷ []); signature = (61 ∷ 147 ∷ 139 ∷ 184 ∷ 159 ∷ 48 ∷ 176 ∷ 153 ∷ 18 ∷ 38 ∷ 106 ∷ 83 ∷ 219 ∷ 115 ∷ 134 ∷ 101 ∷ 170 ∷ 168 ∷ 151 ∷ 197 ∷ 153 ∷ 147 ∷ 2 ∷ 83 ∷ 114 ∷ 31 ∷ 105 ∷ 0 ∷ 156 ∷ 83 ∷ 122 ∷ 121 ∷ []) }

abbrev pub of_one_signed : Signed
of_one_signed = record { statement = statements.Update of_one; body = (1 ∷ 1 ∷ 0 ∷ 1 ∷ 0 ∷ 0 ∷ 0 ∷ 0 ∷ 0 ∷ 0 ∷ 0 ∷ 0 ∷ 0 ∷ 0 ∷ 0 ∷ 1 ∷ 0 ∷ 0 ∷ 0 ∷ 0 ∷ 0 ∷ 0 ∷ 0 ∷ 0 ∷ 0 ∷ 0 ∷ 0 ∷ 0 ∷ 0 ∷ 0 ∷ 0 ∷ 0 ∷ 0 ∷ 0 ∷ 0 ∷ 0 ∷ 0 ∷ 0 ∷ 0 ∷ 0 ∷ 0 ∷ 0 ∷ 0 ∷ 0 ∷ 0 ∷ 0 ∷ 0 ∷ 0 ∷ 1 ∷ 107 ∷ 202 ∷ 151 ∷ 129 ∷ 18 ∷ 202 ∷ 27 ∷ 189 ∷ 202 ∷ 250 ∷ 194 ∷ 49 ∷ 179 ∷ 154 ∷ 35 ∷ 220 ∷ 77 ∷ 167 ∷ 134 ∷ 239 ∷ 248 ∷ 20 ∷ 124 ∷ 78 ∷ 114 ∷ 185 ∷ 128 ∷ 119 ∷ 133 ∷ 175 ∷ 238 ∷ 72 ∷ 187 ∷ 0 ∷ 0 ∷ 0 ∷ 1 ∷ 0 ∷ 0 ∷ 227 ∷ 176 ∷ 196 ∷ 66 ∷ 152 ∷ 252 ∷ 28 ∷ 20 ∷ 154 ∷ 251 ∷ 244 ∷ 200 ∷ 153 ∷ 111 ∷ 185 ∷ 36 ∷ 39 ∷ 174 ∷ 65 ∷ 228 ∷ 100 ∷ 155 ∷ 147 ∷ 76 ∷ 164 ∷ 149 ∷ 153 ∷ 27 ∷ 120 ∷ 82 ∷ 184 ∷ 85 ∷ []); signature = (77 ∷ 223 ∷ 60 ∷ 85 ∷ 62 ∷ 8 ∷ 42 ∷ 164 ∷ 160 ∷ 95 ∷ 114 ∷ 201 ∷ 96 ∷ 13 ∷ 99 ∷ 6 ∷ 109 ∷ 169 ∷ 176 ∷ 200 ∷ 180 ∷ 60 ∷ 115 ∷ 30 ∷ 110 ∷ 78 ∷ 169 ∷ 136 ∷ 69 ∷ 189 ∷ 44 ∷ 170 ∷ []) }

abbrev pub met_at_one : List Record
met_at_one = Birth 1 (hash_of_roster members) ∷ OwnPut of_one ((97 ∷ []) ∷ []) ∷ Foreign of_two_signed ∷ Held (98 ∷ []) ∷ []

abbrev met_at_two : List Record
met_at_two = Birth 2 (hash_of_roster members) ∷ OwnPut of_two ((98 ∷ []) ∷ []) ∷ Foreign of_one_signed ∷ Held (97 ∷ []) ∷ []

abbrev joined : List Record
joined = met_at_one ++ OwnPut join ((99 ∷ []) ∷ []) ∷ []

-- ---- what was written out is what the definitions give

record WrittenOut : Type 0 where
  pub one : to_first.journal ≡ met_at_one
  pub two : to_second.journal ≡ met_at_two
  -- the join names the own put before it and the leaf of the other
  pub the_join : next_own 1 met_at_one (one_change (107 ∷ []) (99 ∷ [])) ≡ join
  pub allowed : limit_of_put (here 1) met_at_one (one_change (107 ∷ []) (99 ∷ [])) ≡ None

written_out : WrittenOut
unfolding rest_of numeral number bytes_of inner list_of dep roster_entry signed_with is_covered candidates values_behind candidate_parcels parcels fitting sent_for sent_foreign unvouched bundle_frames bundle_of bundle_answer sight content_checks opponent forked refused_as_convicted statement_checks proof_checks points first_failed_check is_known answer_to due named_opponent added growth is_of_kind contradicts kind_of proof_of given_by given_as take_frame fed_frame fed_byte fed ending_of report_of frame_at hello_leaf hello convicted_nodes lacking hello_of leaves_of put_by_id by_id history_text history_hash first_values has_id named prev_of is_convicted is_vouched holds_hash holds seen_under is_wanted spent_by tips_of collides_by limit_of_own limit_of_put past precedes_named next_entries next_own leaf_count plain_root plain_signature plain_verifies birth own_put tagged record_text foreign_leaves full_with key_of is_signed update_fields voucher_fields update_body voucher_body statement signed proof roster id_of_update id_of_statement hash_of_roster put_rising rising groups_behind groups_of new_vouchers limit_of_new limit_of_vouchers sha256 first_words schedule rounds compress hash_after digest_bytes
written_out = record { one = refl; two = refl; the_join = refl; allowed = refl }

-- ---- a join supersedes both, and is sent alone

record AJoinIsSent : Type 0 where
  pub leaves : length (hello_of (here 2) met_at_two).leaves ≡ 2
  pub sent : told (bundle 1 joined 2 met_at_two) ≡ Some (sums 0 0 1 1, false)
  pub second : report_of (give 2 met_at_two (bytes_in (bundle 1 joined 2 met_at_two))) ≡ taken 2 0 ending.Whole

a_join_is_sent : AJoinIsSent
unfolding rest_of numeral number bytes_of inner list_of dep roster_entry signed_with is_covered candidates values_behind candidate_parcels parcels fitting sent_for sent_foreign unvouched bundle_frames bundle_of bundle_answer sight content_checks opponent forked refused_as_convicted statement_checks proof_checks points first_failed_check is_known answer_to due named_opponent added growth is_of_kind contradicts kind_of proof_of given_by given_as take_frame fed_frame fed_byte fed ending_of report_of frame_at hello_leaf hello convicted_nodes lacking hello_of leaves_of put_by_id by_id history_text history_hash first_values has_id named prev_of is_convicted is_vouched holds_hash holds seen_under is_wanted spent_by tips_of collides_by limit_of_own limit_of_put past precedes_named next_entries next_own leaf_count plain_root plain_signature plain_verifies birth own_put tagged record_text foreign_leaves full_with key_of is_signed update_fields voucher_fields update_body voucher_body statement signed proof roster id_of_update id_of_statement hash_of_roster put_rising rising groups_behind groups_of new_vouchers limit_of_new limit_of_vouchers sha256 first_words schedule rounds compress hash_after digest_bytes
a_join_is_sent = record { leaves = refl; sent = refl; second = refl }

-- the voucher of node 1 for the update of node 2
abbrev voucher_for_two : Voucher
voucher_for_two = record { node = 1; seq = 2; ids = (132 ∷ 226 ∷ 87 ∷ 104 ∷ 70 ∷ 44 ∷ 64 ∷ 165 ∷ 225 ∷ 110 ∷ 19 ∷ 181 ∷ 202 ∷ 45 ∷ 216 ∷ 184 ∷ 122 ∷ 49 ∷ 101 ∷ 29 ∷ 197 ∷ 119 ∷ 38 ∷ 230 ∷ 241 ∷ 25 ∷ 227 ∷ 142 ∷ 193 ∷ 246 ∷ 158 ∷ 100 ∷ []) ∷ [] }

abbrev vouching : List Record
vouching = joined ++ OwnVoucher voucher_for_two ∷ []

abbrev at_third : List Record
at_third = Birth 3 (hash_of_roster members) ∷ Foreign (record { statement = statements.Voucher voucher_for_two; body = (1 ∷ 2 ∷ 0 ∷ 1 ∷ 0 ∷ 0 ∷ 0 ∷ 2 ∷ 0 ∷ 1 ∷ 132 ∷ 226 ∷ 87 ∷ 104 ∷ 70 ∷ 44 ∷ 64 ∷ 165 ∷ 225 ∷ 110 ∷ 19 ∷ 181 ∷ 202 ∷ 45 ∷ 216 ∷ 184 ∷ 122 ∷ 49 ∷ 101 ∷ 29 ∷ 197 ∷ 119 ∷ 38 ∷ 230 ∷ 241 ∷ 25 ∷ 227 ∷ 142 ∷ 193 ∷ 246 ∷ 158 ∷ 100 ∷ []); signature = (184 ∷ 142 ∷ 81 ∷ 239 ∷ 154 ∷ 153 ∷ 89 ∷ 114 ∷ 220 ∷ 65 ∷ 70 ∷ 231 ∷ 9 ∷ 224 ∷ 33 ∷ 34 ∷ 117 ∷ 73 ∷ 16 ∷ 206 ∷ 187 ∷ 23 ∷ 138 ∷ 96 ∷ 158 ∷ 79 ∷ 63 ∷ 169 ∷ 59 ∷ 185 ∷ 238 ∷ 137 ∷ []) }) ∷
    Foreign of_one_signed ∷ Held (97 ∷ []) ∷ Foreign of_two_signed ∷ Held (98 ∷ []) ∷ Foreign join_signed ∷ Held (99 ∷ []) ∷ []

-- ---- a third node gets all through node 1, which vouches for the update of node 2

record AThirdGetsAll : Type 0 where
  -- a voucher, three updates, three values
  pub sent : told (bundle 1 joined 3 (born 3)) ≡ Some (sums 0 1 3 3, false)
  pub journaled : vouched_in joined (bundle 1 joined 3 (born 3)) ≡ vouching
  -- the voucher took a seq
  pub next : (next_own 1 vouching (one_change (107 ∷ []) (100 ∷ []))).seq ≡ 3

a_third_gets_all : AThirdGetsAll
unfolding rest_of numeral number bytes_of inner list_of dep roster_entry signed_with is_covered candidates values_behind candidate_parcels parcels fitting sent_for sent_foreign unvouched bundle_frames bundle_of bundle_answer sight content_checks opponent forked refused_as_convicted statement_checks proof_checks points first_failed_check is_known answer_to due named_opponent added growth is_of_kind contradicts kind_of proof_of given_by given_as take_frame fed_frame fed_byte fed ending_of report_of frame_at hello_leaf hello convicted_nodes lacking hello_of leaves_of put_by_id by_id history_text history_hash first_values has_id named prev_of is_convicted is_vouched holds_hash holds seen_under is_wanted spent_by tips_of collides_by limit_of_own limit_of_put past precedes_named next_entries next_own leaf_count plain_root plain_signature plain_verifies birth own_put tagged record_text foreign_leaves full_with key_of is_signed update_fields voucher_fields update_body voucher_body statement signed proof roster id_of_update id_of_statement hash_of_roster put_rising rising groups_behind groups_of new_vouchers limit_of_new limit_of_vouchers sha256 first_words schedule rounds compress hash_after digest_bytes
a_third_gets_all = record { sent = refl; journaled = refl; next = refl }

record TheThirdTakesAll : Type 0 where
  pub third : report_of (give 3 (born 3) (bytes_in (bundle 1 joined 3 (born 3)))) ≡ taken 7 0 ending.Whole

the_third_takes_all : TheThirdTakesAll
unfolding rest_of numeral number bytes_of inner list_of dep roster_entry signed_with is_covered candidates values_behind candidate_parcels parcels fitting sent_for sent_foreign unvouched bundle_frames bundle_of bundle_answer sight content_checks opponent forked refused_as_convicted statement_checks proof_checks points first_failed_check is_known answer_to due named_opponent added growth is_of_kind contradicts kind_of proof_of given_by given_as take_frame fed_frame fed_byte fed ending_of report_of frame_at hello_leaf hello convicted_nodes lacking hello_of leaves_of put_by_id by_id history_text history_hash first_values has_id named prev_of is_convicted is_vouched holds_hash holds seen_under is_wanted spent_by tips_of collides_by limit_of_own limit_of_put past precedes_named next_entries next_own leaf_count plain_root plain_signature plain_verifies birth own_put tagged record_text foreign_leaves full_with key_of is_signed update_fields voucher_fields update_body voucher_body statement signed proof roster id_of_update id_of_statement hash_of_roster put_rising rising groups_behind groups_of new_vouchers limit_of_new limit_of_vouchers sha256 first_words schedule rounds compress hash_after digest_bytes
the_third_takes_all = record { third = refl }

record TheThirdHasAll : Type 0 where
  pub journal : (give 3 (born 3) (bytes_in (bundle 1 joined 3 (born 3)))).journal ≡ at_third

the_third_has_all : TheThirdHasAll
unfolding rest_of numeral number bytes_of inner list_of dep roster_entry signed_with is_covered candidates values_behind candidate_parcels parcels fitting sent_for sent_foreign unvouched bundle_frames bundle_of bundle_answer sight content_checks opponent forked refused_as_convicted statement_checks proof_checks points first_failed_check is_known answer_to due named_opponent added growth is_of_kind contradicts kind_of proof_of given_by given_as take_frame fed_frame fed_byte fed ending_of report_of frame_at hello_leaf hello convicted_nodes lacking hello_of leaves_of put_by_id by_id history_text history_hash first_values has_id named prev_of is_convicted is_vouched holds_hash holds seen_under is_wanted spent_by tips_of collides_by limit_of_own limit_of_put past precedes_named next_entries next_own leaf_count plain_root plain_signature plain_verifies birth own_put tagged record_text foreign_leaves full_with key_of is_signed update_fields voucher_fields update_body voucher_body statement signed proof roster id_of_update id_of_statement hash_of_roster put_rising rising groups_behind groups_of new_vouchers limit_of_new limit_of_vouchers sha256 first_words schedule rounds compress hash_after digest_bytes
the_third_has_all = record { journal = refl }

-- ---- what comes twice is known, and nothing is vouched for twice

record NothingTwice : Type 0 where
  pub again : report_of (give 3 at_third (bytes_in (bundle 1 joined 3 (born 3)))) ≡ taken 0 7 ending.Whole

nothing_twice : NothingTwice
unfolding rest_of numeral number bytes_of inner list_of dep roster_entry signed_with is_covered candidates values_behind candidate_parcels parcels fitting sent_for sent_foreign unvouched bundle_frames bundle_of bundle_answer sight content_checks opponent forked refused_as_convicted statement_checks proof_checks points first_failed_check is_known answer_to due named_opponent added growth is_of_kind contradicts kind_of proof_of given_by given_as take_frame fed_frame fed_byte fed ending_of report_of frame_at hello_leaf hello convicted_nodes lacking hello_of leaves_of put_by_id by_id history_text history_hash first_values has_id named prev_of is_convicted is_vouched holds_hash holds seen_under is_wanted spent_by tips_of collides_by limit_of_own limit_of_put past precedes_named next_entries next_own leaf_count plain_root plain_signature plain_verifies birth own_put tagged record_text foreign_leaves full_with key_of is_signed update_fields voucher_fields update_body voucher_body statement signed proof roster id_of_update id_of_statement hash_of_roster put_rising rising groups_behind groups_of new_vouchers limit_of_new limit_of_vouchers sha256 first_words schedule rounds compress hash_after digest_bytes
nothing_twice = record { again = refl }

-- ---- an own voucher goes with what it names, and with nothing else

record VouchersGoOn : Type 0 where
  pub once : told (bundle 1 vouching 3 (born 3)) ≡ Some (sums 0 1 3 3, false)
  pub no_new : vouched_in vouching (bundle 1 vouching 3 (born 3)) ≡ vouching
  pub nothing : told (bundle 1 vouching 3 at_third) ≡ Some (sums 0 0 0 0, false)

vouchers_go_on : VouchersGoOn
unfolding rest_of numeral number bytes_of inner list_of dep roster_entry signed_with is_covered candidates values_behind candidate_parcels parcels fitting sent_for sent_foreign unvouched bundle_frames bundle_of bundle_answer sight content_checks opponent forked refused_as_convicted statement_checks proof_checks points first_failed_check is_known answer_to due named_opponent added growth is_of_kind contradicts kind_of proof_of given_by given_as take_frame fed_frame fed_byte fed ending_of report_of frame_at hello_leaf hello convicted_nodes lacking hello_of leaves_of put_by_id by_id history_text history_hash first_values has_id named prev_of is_convicted is_vouched holds_hash holds seen_under is_wanted spent_by tips_of collides_by limit_of_own limit_of_put past precedes_named next_entries next_own leaf_count plain_root plain_signature plain_verifies birth own_put tagged record_text foreign_leaves full_with key_of is_signed update_fields voucher_fields update_body voucher_body statement signed proof roster id_of_update id_of_statement hash_of_roster put_rising rising groups_behind groups_of new_vouchers limit_of_new limit_of_vouchers sha256 first_words schedule rounds compress hash_after digest_bytes
vouchers_go_on = record { once = refl; no_new = refl; nothing = refl }

-- ---- a fork rejoins: each node took one branch

abbrev pub one_branch : List ℕ
one_branch = stream 0 1 97

abbrev pub other_branch : List ℕ
other_branch = stream 1 2 98

abbrev pub at_one : Feeding
at_one = give 1 (born 1) one_branch

abbrev pub at_other : Feeding
at_other = give 2 (born 2) other_branch

abbrev pub of_other : BundleAnswer
of_other = bundle 2 at_other.journal 1 at_one.journal

abbrev rejoined : Feeding
rejoined = give 1 at_one.journal (bytes_in of_other)

record AForkRejoins : Type 0 where
  pub one : report_of at_one ≡ taken 2 0 ending.Bare
  pub other : report_of at_other ≡ taken 2 0 ending.Bare
  pub sent : told of_other ≡ Some (sums 0 1 1 1, false)
  pub taken_all : report_of rejoined ≡ taken 3 0 ending.Whole
  -- both branches are accepted, and their writer is convicted
  pub both : length (accepted rejoined.journal) ≡ 2
  pub convicts : convicted rejoined.journal ≡ 9 ∷ []
  -- so its hello says
  pub tells : (hello_of (here 1) rejoined.journal).convicted ≡ 9 ∷ []
  pub leaves : length (hello_of (here 1) rejoined.journal).leaves ≡ 2
  pub records : length rejoined.journal ≡ 7
  -- the proof goes to one who does not know of the conviction, before all else
  pub proof_is_sent : told (bundle 1 rejoined.journal 3 (born 3)) ≡ Some (sums 1 1 2 2, false)
  -- and there it convicts before the branches come, which the voucher lets in
  pub third : report_of (give 3 (born 3) (bytes_in (bundle 1 rejoined.journal 3 (born 3)))) ≡ taken 6 0 ending.Whole
  -- not to one who does
  pub proof_once : told (bundle 1 rejoined.journal 3 (give 3 (born 3) (bytes_in (bundle 1 rejoined.journal 3 (born 3)))).journal) ≡ Some (sums 0 0 0 0, false)
  -- without a voucher the other branch is refused, and its writer convicted
  pub refused : report_of (give 1 at_one.journal other_branch) ≡ record { accepted = 0; known = 0; refused = record { frame = 0; check = check.Forked (id_of_update (faulty 0 1 97)) (id_of_update (faulty 1 2 98)) SamePrev } ∷ record { frame = 1; check = check.Unwanted (sha256 (98 ∷ [])) } ∷ []; ending = ending.Bare }
  pub kept : length (give 1 at_one.journal other_branch).journal ≡ 4

a_fork_rejoins : AForkRejoins
unfolding rest_of numeral number bytes_of inner list_of dep roster_entry signed_with is_covered candidates values_behind candidate_parcels parcels fitting sent_for sent_foreign unvouched bundle_frames bundle_of bundle_answer sight content_checks opponent forked refused_as_convicted statement_checks proof_checks points first_failed_check is_known answer_to due named_opponent added growth is_of_kind contradicts kind_of proof_of given_by given_as take_frame fed_frame fed_byte fed ending_of report_of frame_at hello_leaf hello convicted_nodes lacking hello_of leaves_of put_by_id by_id history_text history_hash first_values has_id named prev_of is_convicted is_vouched holds_hash holds seen_under is_wanted spent_by tips_of collides_by limit_of_own limit_of_put past precedes_named next_entries next_own leaf_count plain_root plain_signature plain_verifies birth own_put tagged record_text foreign_leaves full_with key_of is_signed update_fields voucher_fields update_body voucher_body statement signed proof roster id_of_update id_of_statement hash_of_roster put_rising rising groups_behind groups_of new_vouchers limit_of_new limit_of_vouchers sha256 first_words schedule rounds compress hash_after digest_bytes
a_fork_rejoins = record { one = refl; other = refl; sent = refl; taken_all = refl; both = refl; convicts = refl; tells = refl; leaves = refl; records = refl; proof_is_sent = refl; third = refl; proof_once = refl; refused = refl; kept = refl }

-- ---- a stream cut at each sort of place, of one update and its value

abbrev two_frames : List ℕ
two_frames = stream 0 1 97

abbrev end_of_stream : List ℕ
end_of_stream = 4 ∷ 0 ∷ 0 ∷ 0 ∷ 1 ∷ 0 ∷ []

abbrev fresh : List ℕ → Report
fresh bytes = report_of (give 1 (born 1) bytes)

record StreamsAreCut : Type 0 where
  pub long : length two_frames ≡ 171
  pub first : fresh (take 1 two_frames) ≡ taken 0 0 (ending.Cut 1)
  pub early : fresh (take 164 two_frames) ≡ taken 0 0 (ending.Cut 164)
  pub statement : fresh (take 165 two_frames) ≡ taken 1 0 ending.Bare
  pub behind : fresh (take 166 two_frames) ≡ taken 1 0 (ending.Cut 1)
  pub late : fresh (take 170 two_frames) ≡ taken 1 0 (ending.Cut 5)
  pub all : fresh two_frames ≡ taken 2 0 ending.Bare
  pub whole : fresh (two_frames ++ end_of_stream) ≡ taken 2 0 ending.Whole
  -- a second End has no place
  pub twice : fresh (two_frames ++ (end_of_stream ++ end_of_stream)) ≡ taken 2 0 ending.Closed
  pub place : (give 1 (born 1) (two_frames ++ (end_of_stream ++ end_of_stream))).closed ≡ Some (ill_formed 177)
  -- a value before what names it is refused
  pub value_first : fresh (drop 165 two_frames) ≡ record { accepted = 0; known = 0; refused = record { frame = 0; check = check.Unwanted (sha256 (97 ∷ [])) } ∷ []; ending = ending.Bare }

streams_are_cut : StreamsAreCut
unfolding rest_of numeral number bytes_of inner list_of dep roster_entry signed_with is_covered candidates values_behind candidate_parcels parcels fitting sent_for sent_foreign unvouched bundle_frames bundle_of bundle_answer sight content_checks opponent forked refused_as_convicted statement_checks proof_checks points first_failed_check is_known answer_to due named_opponent added growth is_of_kind contradicts kind_of proof_of given_by given_as take_frame fed_frame fed_byte fed ending_of report_of frame_at hello_leaf hello convicted_nodes lacking hello_of leaves_of put_by_id by_id history_text history_hash first_values has_id named prev_of is_convicted is_vouched holds_hash holds seen_under is_wanted spent_by tips_of collides_by limit_of_own limit_of_put past precedes_named next_entries next_own leaf_count plain_root plain_signature plain_verifies birth own_put tagged record_text foreign_leaves full_with key_of is_signed update_fields voucher_fields update_body voucher_body statement signed proof roster id_of_update id_of_statement hash_of_roster put_rising rising groups_behind groups_of new_vouchers limit_of_new limit_of_vouchers sha256 first_words schedule rounds compress hash_after digest_bytes
streams_are_cut = record { long = refl; first = refl; early = refl; statement = refl; behind = refl; late = refl; all = refl; whole = refl; twice = refl; place = refl; value_first = refl }

-- ---- what is no hello, or not of this roster

abbrev with_roster : List ℕ → ℕ → List ℕ
with_roster hash n = 1 ∷ 3 ∷ 0 ∷ n ∷ (hash ++ replicate 6 0)

abbrev asked : List ℕ → BundleAnswer
asked text = bundle_answer (here 1) (sign 1) (born 1) text

record HellosAreRefused : Type 0 where
  pub empty : asked [] ≡ bad_hello 0
  pub version : asked (0 ∷ []) ≡ bad_hello 0
  pub kind : asked (1 ∷ 2 ∷ []) ≡ bad_hello 1
  -- node 0
  pub nobody : asked (1 ∷ 3 ∷ 0 ∷ 0 ∷ []) ≡ bad_hello 2
  pub roster : asked (with_roster zeros 1) ≡ other_roster zeros
  -- a node that the roster lacks, found after the roster
  pub stranger : asked (with_roster (hash_of_roster members) 7) ≡ bad_hello 2
  pub stranger_elsewhere : asked (with_roster zeros 7) ≡ other_roster zeros
  -- nothing forbids the hello of the node itself
  pub own : told (asked (with_roster (hash_of_roster members) 1)) ≡ Some (sums 0 0 0 0, false)
  pub trailing : asked (with_roster (hash_of_roster members) 1 ++ 0 ∷ []) ≡ bad_hello 42

hellos_are_refused : HellosAreRefused
unfolding rest_of numeral number bytes_of inner list_of dep roster_entry signed_with is_covered candidates values_behind candidate_parcels parcels fitting sent_for sent_foreign unvouched bundle_frames bundle_of bundle_answer sight content_checks opponent forked refused_as_convicted statement_checks proof_checks points first_failed_check is_known answer_to due named_opponent added growth is_of_kind contradicts kind_of proof_of given_by given_as take_frame fed_frame fed_byte fed ending_of report_of frame_at hello_leaf hello convicted_nodes lacking hello_of leaves_of put_by_id by_id history_text history_hash first_values has_id named prev_of is_convicted is_vouched holds_hash holds seen_under is_wanted spent_by tips_of collides_by limit_of_own limit_of_put past precedes_named next_entries next_own leaf_count plain_root plain_signature plain_verifies birth own_put tagged record_text foreign_leaves full_with key_of is_signed update_fields voucher_fields update_body voucher_body statement signed proof roster id_of_update id_of_statement hash_of_roster put_rising rising groups_behind groups_of new_vouchers limit_of_new limit_of_vouchers sha256 first_words schedule rounds compress hash_after digest_bytes
hellos_are_refused = record { empty = refl; version = refl; kind = refl; nobody = refl; roster = refl; stranger = refl; stranger_elsewhere = refl; own = refl; trailing = refl }

-- ---- a value that came without its turn is asked for, and sent alone

-- node 1 took the statement alone; node 2 has the value too
abbrev without_value : List Record
without_value = born 1 ++ Foreign of_two_signed ∷ []

abbrev with_value : List Record
with_value = born 3 ++ Foreign of_two_signed ∷ Held (98 ∷ []) ∷ []

-- an update that names that value with a wrong length
abbrev misnamed : Update
misnamed = record of_two { writes = put_one (107 ∷ []) (sha256 (98 ∷ [])) 2 }

record AValueIsWanted : Type 0 where
  pub wants : (hello_of (here 1) without_value).wanted ≡ sha256 (98 ∷ []) ∷ []
  pub wants_nothing : (hello_of (here 3) with_value).wanted ≡ []
  -- no update goes with it
  pub sent : told (bundle 3 with_value 1 without_value) ≡ Some (sums 0 0 0 1, false)
  pub taken_alone : report_of (give 1 without_value (bytes_in (bundle 3 with_value 1 without_value))) ≡ taken 1 0 ending.Whole
  -- one who lacks it too sends nothing
  pub not_held : told (bundle 3 (born 3 ++ Foreign of_two_signed ∷ []) 1 without_value) ≡ Some (sums 0 0 0 0, false)
  -- a hash that an update names with a wrong length stays wanted, though a value of it is held
  pub wrong_length : lacking (OwnPut misnamed ((98 ∷ []) ∷ []) ∷ []) ≡ sha256 (98 ∷ []) ∷ []
  -- hashes that several name occur once
  pub set : lacking (Foreign of_two_signed ∷ Foreign of_two_signed ∷ []) ≡ sha256 (98 ∷ []) ∷ []

a_value_is_wanted : AValueIsWanted
unfolding rest_of numeral number bytes_of inner list_of dep roster_entry signed_with is_covered candidates values_behind candidate_parcels parcels fitting sent_for sent_foreign unvouched bundle_frames bundle_of bundle_answer sight content_checks opponent forked refused_as_convicted statement_checks proof_checks points first_failed_check is_known answer_to due named_opponent added growth is_of_kind contradicts kind_of proof_of given_by given_as take_frame fed_frame fed_byte fed ending_of report_of frame_at hello_leaf hello convicted_nodes lacking hello_of leaves_of put_by_id by_id history_text history_hash first_values has_id named prev_of is_convicted is_vouched holds_hash holds seen_under is_wanted spent_by tips_of collides_by limit_of_own limit_of_put past precedes_named next_entries next_own leaf_count plain_root plain_signature plain_verifies birth own_put tagged record_text foreign_leaves full_with key_of is_signed update_fields voucher_fields update_body voucher_body statement signed proof roster id_of_update id_of_statement hash_of_roster put_rising rising groups_behind groups_of new_vouchers limit_of_new limit_of_vouchers sha256 first_words schedule rounds compress hash_after digest_bytes
a_value_is_wanted = record { wants = refl; wants_nothing = refl; sent = refl; taken_alone = refl; not_held = refl; wrong_length = refl; set = refl }

-- ---- a value that two updates name is sent with the first

abbrev twice : List Record
twice = put 1 97 (put 1 97 (born 1))

record AValueIsSentOnce : Type 0 where
  pub sent : told (bundle 1 twice 3 (born 3)) ≡ Some (sums 0 0 2 1, false)

a_value_is_sent_once : AValueIsSentOnce
unfolding rest_of numeral number bytes_of inner list_of dep roster_entry signed_with is_covered candidates values_behind candidate_parcels parcels fitting sent_for sent_foreign unvouched bundle_frames bundle_of bundle_answer sight content_checks opponent forked refused_as_convicted statement_checks proof_checks points first_failed_check is_known answer_to due named_opponent added growth is_of_kind contradicts kind_of proof_of given_by given_as take_frame fed_frame fed_byte fed ending_of report_of frame_at hello_leaf hello convicted_nodes lacking hello_of leaves_of put_by_id by_id history_text history_hash first_values has_id named prev_of is_convicted is_vouched holds_hash holds seen_under is_wanted spent_by tips_of collides_by limit_of_own limit_of_put past precedes_named next_entries next_own leaf_count plain_root plain_signature plain_verifies birth own_put tagged record_text foreign_leaves full_with key_of is_signed update_fields voucher_fields update_body voucher_body statement signed proof roster id_of_update id_of_statement hash_of_roster put_rising rising groups_behind groups_of new_vouchers limit_of_new limit_of_vouchers sha256 first_words schedule rounds compress hash_after digest_bytes
a_value_is_sent_once = record { sent = refl }

-- ---- a bundle that needs a voucher, and no leaf is left to sign it

-- a node with four leaves, all used
abbrev low : Setting
low = record { verifies = plain_verifies; me = 1; listed = record { node = 1; key = record { root = zeros; height = 2 } } ∷ [] }

abbrev voucher_for : List ℕ → ℕ → Record
voucher_for h n = OwnVoucher (record { node = 1; seq = n; ids = h ∷ [] })

abbrev used : List Record
used = Birth 1 zeros ∷ voucher_for zeros 0 ∷ voucher_for zeros 1 ∷ voucher_for zeros 2 ∷ voucher_for zeros 3 ∷ Foreign of_two_signed ∷ []

abbrev asked_of : List Record → BundleAnswer
asked_of J = bundle_answer low (sign 1) J (text_of_hello (record { node = 1; roster = hash_of_roster low.listed; convicted = []; leaves = []; wanted = [] }))

record NoLeafIsLeft : Type 0 where
  pub spent_now : asked_of used ≡ limited (spent 4)
  -- where an own voucher names it already, none is needed
  pub vouched : told (asked_of (Birth 1 zeros ∷ voucher_for (id_of_update of_two) 0 ∷ voucher_for zeros 1 ∷ voucher_for zeros 2 ∷ voucher_for zeros 3 ∷ Foreign of_two_signed ∷ [])) ≡ Some (sums 0 1 1 0, false)
  -- nor where nothing is sent
  pub covered : told (bundle_answer low (sign 1) used (text_of_hello (record { node = 1; roster = hash_of_roster low.listed; convicted = []; leaves = record { writer = 7; id = id_of_update of_two } ∷ []; wanted = [] }))) ≡ Some (sums 0 0 0 0, false)

no_leaf_is_left : NoLeafIsLeft
unfolding rest_of numeral number bytes_of inner list_of dep roster_entry signed_with is_covered candidates values_behind candidate_parcels parcels fitting sent_for sent_foreign unvouched bundle_frames bundle_of bundle_answer sight content_checks opponent forked refused_as_convicted statement_checks proof_checks points first_failed_check is_known answer_to due named_opponent added growth is_of_kind contradicts kind_of proof_of given_by given_as take_frame fed_frame fed_byte fed ending_of report_of frame_at hello_leaf hello convicted_nodes lacking hello_of leaves_of put_by_id by_id history_text history_hash first_values has_id named prev_of is_convicted is_vouched holds_hash holds seen_under is_wanted spent_by tips_of collides_by limit_of_own limit_of_put past precedes_named next_entries next_own leaf_count plain_root plain_signature plain_verifies birth own_put tagged record_text foreign_leaves full_with key_of is_signed update_fields voucher_fields update_body voucher_body statement signed proof roster id_of_update id_of_statement hash_of_roster put_rising rising groups_behind groups_of new_vouchers limit_of_new limit_of_vouchers sha256 first_words schedule rounds compress hash_after digest_bytes
no_leaf_is_left = record { spent_now = refl; vouched = refl; covered = refl }

-- ---- several keys at once, and a deletion

abbrev put_all : ℕ → List Change → List Record → List Record
put_all n changes J = J ++ OwnPut (next_own n J changes) (values_of changes) ∷ []

-- node 1 gives "k" and "l" a value each, and then deletes "k"
abbrev both_keys : List Record
both_keys = put_all 1 (record { key = 107 ∷ []; value = Some (97 ∷ []) } ∷ record { key = 108 ∷ []; value = Some (98 ∷ []) } ∷ []) (born 1)

abbrev one_deleted : List Record
one_deleted = put_all 1 (record { key = 107 ∷ []; value = None } ∷ []) both_keys

abbrev both_updates : BundleAnswer
both_updates = bundle 1 one_deleted 2 (born 2)

abbrev after_both : Feeding
after_both = give 2 (born 2) (bytes_in both_updates)

-- two keys with one value
abbrev one_value : List Record
one_value = put_all 1 (record { key = 107 ∷ []; value = Some (97 ∷ []) } ∷ record { key = 108 ∷ []; value = Some (97 ∷ []) } ∷ []) (born 1)

record SeveralKeys : Type 0 where
  -- both updates go, with the two values
  pub sent : told both_updates ≡ Some (sums 0 0 2 2, false)
  pub taken_all : report_of after_both ≡ taken 4 0 ending.Whole
  -- the latest write of each key, as the reader shows it
  pub deleted : map (seen_under after_both.journal (107 ∷ [])) (drop 1 (accepted after_both.journal)) ≡ gone ∷ []
  pub kept : map (seen_under after_both.journal (108 ∷ [])) (take 1 (accepted after_both.journal)) ≡ held_value (98 ∷ []) ∷ []
  -- what the reader then puts is above both
  pub then_seq : (next_own 2 after_both.journal (one_change (107 ∷ []) (99 ∷ []))).seq ≡ 0
  pub then_clock : (next_own 2 after_both.journal (one_change (107 ∷ []) (99 ∷ []))).clock ≡ 3
  -- a value that two writes name goes once
  pub once : told (bundle 1 one_value 2 (born 2)) ≡ Some (sums 0 0 1 1, false)

several_keys : SeveralKeys
unfolding rest_of numeral number bytes_of inner list_of dep write marked roster_entry signed_with is_covered candidates values_behind candidate_parcels parcels fitting sent_for sent_foreign unvouched bundle_frames bundle_of bundle_answer sight content_checks opponent forked refused_as_convicted statement_checks proof_checks points first_failed_check is_known answer_to due named_opponent added growth is_of_kind contradicts kind_of proof_of given_by given_as take_frame fed_frame fed_byte fed ending_of report_of frame_at hello_leaf hello convicted_nodes lacking hello_of leaves_of put_by_id by_id history_text history_hash first_values has_id named prev_of is_convicted is_vouched holds_hash holds seen_under is_wanted spent_by tips_of collides_by limit_of_own limit_of_put past precedes_named next_entries next_own leaf_count plain_root plain_signature plain_verifies birth own_put tagged record_text foreign_leaves full_with key_of is_signed update_fields voucher_fields update_body voucher_body statement signed proof roster id_of_update id_of_statement hash_of_roster put_rising rising groups_behind groups_of new_vouchers limit_of_new limit_of_vouchers sha256 first_words schedule rounds compress hash_after digest_bytes
several_keys = record { sent = refl; taken_all = refl; deleted = refl; kept = refl; then_seq = refl; then_clock = refl; once = refl }
