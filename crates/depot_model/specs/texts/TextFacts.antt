-- That a value has a text, for each kind of text, is a fact with one proof at most.
use Rattle.std.specs.Prelude.{ℕ, List, length, ◌==◌}
use Rattle.std.specs.Coded.{coded_ℕ, coded_list, coded×}
use Rattle.std.specs.Int.{w8, w16, w32, w64}
use Rattle.depot_base.specs.declared.limits.TheConstants.{MOST_KEY, MOST_VALUE, MOST_WRITES, MOST_ENTRIES, MOST_IDS, MOST_BODY, MOST_SIGNATURE, MOST_NODES, LEAST_HEIGHT, GREATEST_HEIGHT}
use Rattle.depot_base.specs.Format.{number, constant, bytes_of, inner, with_own_text, list_of, pieces}
use Rattle.depot_base.specs.Closed.{closing, rest_of}
use Rattle.depot_base.specs.Facts.{IsFact, number_fact, bytes_fact, made_fact, field_fact, inner_fact, pieces_fact, kept_fact, variant_fact, choose_fact, list_fact, IsClosedFact, closing_fact, rest_fact, before_fact, closed_variant_fact, closed_choose_fact}
use Rattle.depot_base.specs.Parts.{node_number, digest, digests, digest_rises, dep, dep_rises, deps_of, roster_entry, roster_entry_rises, write, write_rises, marked, hash_in, size_in}
use Rattle.depot_base.specs.Writes.{sizes_of}
use Rattle.depot_base.specs.Shown.{shown_first, shown_second, text_shown}
use Rattle.depot_base.specs.declared.write.Wrote.TheVariants.{Put}
use Rattle.depot_base.specs.declared.update.Update.{Update}
use Rattle.depot_base.specs.declared.statement.Signed.{Signed}
use Rattle.depot_base.specs.declared.statement.Statement.TheVariants as statements
use Rattle.depot_base.specs.declared.proof.Proof.TheVariants.{Pair, Hollow}
use Rattle.depot_base.specs.declared.key.RosterEntry.{RosterEntry}
use Rattle.depot_base.specs.declared.record.Record.{Record}
use Rattle.depot_base.specs.declared.record.Record.TheVariants.{Birth, OwnPut, OwnVoucher, Foreign, Conviction, Held}
use Rattle.depot_model.specs.texts.Texts.{single, lone, several, writes_text, update_fields, most_kind, kind_of_number, shown, voucher_fields, update_body, voucher_body, statement, signed, proof, roster, as_update, as_voucher, IsUpdate, IsSigned, IsRoster, text_of_update}
use Rattle.depot_model.specs.texts.Records.{birth, own_put, tagged, record_text, tag_of, as_birth, as_own_put, as_own_voucher, as_foreign, as_conviction, as_held, IsRecord}
use Rattle.depot_model.specs.lists.Codes.{coded_bytes, coded_dep, coded_write, coded_update, coded_voucher, coded_signed, coded_proof, coded_roster_entry}

-- ---- updates and vouchers

dep_fact : IsFact dep
unfolding dep
dep_fact =
    field_fact node_number _ _ (number_fact w16 1 65535) λ writer.
    field_fact (number w64 0 18446744073709551615) _ _ (number_fact w64 0 18446744073709551615) λ clock.
    field_fact digest _ _ (bytes_fact 32) λ id.
    made_fact coded_dep _

marked_fact : (key : List ℕ) (mark : ℕ) → IsFact (marked key mark)
unfolding marked
marked_fact key mark =
    choose_fact (mark == 0) _ _ (made_fact coded_write _)
    (field_fact digest (λ w. hash_in w.what) _ (bytes_fact 32) λ hash.
    field_fact (number w32 0 MOST_VALUE) (λ w. size_in w.what) _ (number_fact w32 0 MOST_VALUE) λ size.
    made_fact coded_write (record { key = key; what = Put hash size }))

write_fact : IsFact write
unfolding write
write_fact =
    field_fact (number w8 1 MOST_KEY) _ _ (number_fact w8 1 MOST_KEY) λ key_length.
    field_fact (bytes_of key_length) _ _ (bytes_fact key_length) λ key.
    field_fact (number w8 0 1) _ _ (number_fact w8 0 1) λ mark.
    marked_fact key mark

single_fact : IsFact single
single_fact =
    field_fact (number w8 1 MOST_KEY) _ _ (number_fact w8 1 MOST_KEY) λ key_length.
    field_fact (bytes_of key_length) _ _ (bytes_fact key_length) λ key.
    field_fact digest _ _ (bytes_fact 32) λ hash.
    field_fact (number w32 0 MOST_VALUE) _ _ (number_fact w32 0 MOST_VALUE) λ size.
    made_fact (coded_list coded_write) _

lone_fact : IsFact lone
lone_fact =
    field_fact (number w8 1 MOST_KEY) _ _ (number_fact w8 1 MOST_KEY) λ key_length.
    field_fact (bytes_of key_length) _ _ (bytes_fact key_length) λ key.
    field_fact (constant 0) _ _ (number_fact w8 0 0) λ mark.
    made_fact (coded_list coded_write) _

several_fact : IsFact several
several_fact =
    field_fact (number w8 1 MOST_WRITES) _ _ (number_fact w8 1 MOST_WRITES) λ count.
    choose_fact (count == 1) lone (list_of count write write_rises) lone_fact (list_fact count write write_rises write_fact)

writes_fact : (version : ℕ) → IsFact (writes_text version)
writes_fact version = choose_fact (version == 1) single several single_fact several_fact

update_fact : (version : ℕ) → IsFact (update_fields version)
unfolding update_fields
update_fact version =
    field_fact node_number _ _ (number_fact w16 1 65535) λ writer.
    field_fact (number w32 0 4294967295) _ _ (number_fact w32 0 4294967295) λ seq.
    field_fact (number w64 1 18446744073709551615) _ _ (number_fact w64 1 18446744073709551615) λ clock.
    field_fact digest _ _ (bytes_fact 32) λ prev.
    field_fact (writes_text version) _ _ (writes_fact version) λ writes.
    field_fact (number w16 0 MOST_ENTRIES) _ _ (number_fact w16 0 MOST_ENTRIES) λ count.
    field_fact (deps_of writer count) _ _ (list_fact count dep (dep_rises writer) dep_fact) λ deps.
    field_fact digest _ _ (bytes_fact 32) λ history.
    made_fact coded_update _

voucher_fact : IsFact voucher_fields
unfolding voucher_fields
voucher_fact =
    field_fact node_number _ _ (number_fact w16 1 65535) λ node.
    field_fact (number w32 0 4294967295) _ _ (number_fact w32 0 4294967295) λ seq.
    field_fact (number w16 1 MOST_IDS) _ _ (number_fact w16 1 MOST_IDS) λ count.
    field_fact (digests count) _ _ (list_fact count digest digest_rises (bytes_fact 32)) λ ids.
    made_fact coded_voucher _

voucher_body_fact : IsFact voucher_body
unfolding voucher_body
voucher_body_fact = field_fact (constant 1) _ _ (number_fact w8 1 1) λ version. field_fact (constant 2) _ _ (number_fact w8 2 2) λ kind. voucher_fact

update_body_fact : IsFact update_body
unfolding update_body
update_body_fact = field_fact (number w8 1 2) _ _ (number_fact w8 1 2) λ version. field_fact (constant 1) _ _ (number_fact w8 1 1) λ kind. update_fact version

statement_fact : IsFact statement
unfolding statement
statement_fact =
    field_fact (number w8 1 2) _ _ (number_fact w8 1 2) λ version.
    field_fact (number w8 1 (most_kind version)) _ _ (number_fact w8 1 (most_kind version)) λ kind_byte.
    choose_fact (kind_byte == 1) _ _ (variant_fact (λ u. statements.Update u) as_update (update_fields version) (update_fact version))
    (variant_fact (λ v. statements.Voucher v) as_voucher voucher_fields voucher_fact)

signed_fact : IsFact signed
unfolding signed
signed_fact =
    field_fact (number w32 0 MOST_BODY) _ _ (number_fact w32 0 MOST_BODY) λ body_length.
    field_fact (with_own_text body_length statement) _ _ (kept_fact body_length statement statement_fact) λ body.
    field_fact (number w32 0 MOST_SIGNATURE) _ _ (number_fact w32 0 MOST_SIGNATURE) λ signature_length.
    field_fact (bytes_of signature_length) _ _ (bytes_fact signature_length) λ signature.
    made_fact coded_signed _

shown_fact : (kind_byte : ℕ) (first : Signed) → IsFact (shown kind_byte first)
shown_fact kind_byte first =
    choose_fact (kind_byte == 4) _ _
    (field_fact (number w32 0 MOST_VALUE) (λ p. length (text_shown p)) _ (number_fact w32 0 MOST_VALUE) λ text_length.
    field_fact (bytes_of text_length) text_shown _ (bytes_fact text_length) λ text.
    made_fact coded_proof (Hollow first text))
    (field_fact signed shown_second _ signed_fact λ second.
    made_fact coded_proof (Pair (kind_of_number kind_byte) first second))

proof_fact : IsFact proof
unfolding proof
proof_fact =
    field_fact (constant 1) _ _ (number_fact w8 1 1) λ version.
    field_fact (number w8 1 4) _ _ (number_fact w8 1 4) λ kind_byte.
    field_fact signed shown_first (λ first. shown kind_byte first) signed_fact λ first.
    shown_fact kind_byte first

-- ---- records

birth_fact : IsClosedFact birth
unfolding birth
birth_fact =
    closing_fact _ (field_fact node_number _ _ (number_fact w16 1 65535) λ node.
    field_fact digest _ _ (bytes_fact 32) λ roster.
    made_fact (coded× coded_ℕ coded_bytes) _)

own_put_fact : IsClosedFact own_put
unfolding own_put
own_put_fact =
    before_fact (number w32 0 4294967295) (λ p. length (text_of_update p.0)) _ (number_fact w32 0 4294967295) λ body_length.
    before_fact (inner body_length update_body) (λ p. p.0) _ (inner_fact body_length update_body update_body_fact) λ update.
    closing_fact _ (field_fact (pieces (sizes_of update.writes)) _ _ (pieces_fact (sizes_of update.writes)) λ values. made_fact (coded× coded_update (coded_list coded_bytes)) _)

tagged_fact : (tag : ℕ) → IsClosedFact (tagged tag)
unfolding tagged
tagged_fact tag =
    closed_choose_fact (tag == 1) _ _ (closed_variant_fact (λ b. Birth b.0 b.1) as_birth birth birth_fact)
    (closed_choose_fact (tag == 2) _ _ (closed_variant_fact (λ p. OwnPut p.0 p.1) as_own_put own_put own_put_fact)
    (closed_choose_fact (tag == 3) _ _ (closed_variant_fact (λ v. OwnVoucher v) as_own_voucher (closing voucher_body) (closing_fact voucher_body voucher_body_fact))
    (closed_choose_fact (tag == 4) _ _ (closed_variant_fact (λ s. Foreign s) as_foreign (closing signed) (closing_fact signed signed_fact))
    (closed_choose_fact (tag == 5) _ _ (closed_variant_fact (λ p. Conviction p) as_conviction (closing proof) (closing_fact proof proof_fact))
    (closed_variant_fact (λ value. Held value) as_held (rest_of MOST_VALUE) (rest_fact MOST_VALUE))))))

record_fact : IsClosedFact record_text
unfolding record_text
record_fact = before_fact (number w8 1 6) tag_of tagged (number_fact w8 1 6) tagged_fact

roster_entry_fact : IsFact roster_entry
unfolding roster_entry
roster_entry_fact =
    field_fact node_number _ _ (number_fact w16 1 65535) λ node.
    field_fact (number w8 LEAST_HEIGHT GREATEST_HEIGHT) _ _ (number_fact w8 LEAST_HEIGHT GREATEST_HEIGHT) λ height.
    field_fact digest _ _ (bytes_fact 32) λ root.
    made_fact coded_roster_entry _

roster_fact : IsFact roster
unfolding roster
roster_fact =
    field_fact (constant 1) _ _ (number_fact w8 1 1) λ version.
    field_fact (constant 4) _ _ (number_fact w8 4 4) λ kind_byte.
    field_fact (number w16 1 MOST_NODES) _ _ (number_fact w16 1 MOST_NODES) λ count.
    field_fact (list_of count roster_entry roster_entry_rises) _ _ (list_fact count roster_entry roster_entry_rises roster_entry_fact) λ listed.
    made_fact (coded_list coded_roster_entry) _

-- that a value has a text has one proof at most
pub IsUpdate-prop : (u : Update) → IsProp (IsUpdate u)
IsUpdate-prop u = update_body_fact.once u

pub IsSigned-prop : (s : Signed) → IsProp (IsSigned s)
IsSigned-prop s = signed_fact.once s

pub IsRoster-prop : (r : List RosterEntry) → IsProp (IsRoster r)
IsRoster-prop r = roster_fact.once r

pub IsRecord-prop : (r : Record) → IsProp (IsRecord r)
IsRecord-prop r = record_fact.once r
