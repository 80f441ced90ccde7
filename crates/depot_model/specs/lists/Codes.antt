-- How values are made of numbers and lists, so that two of them are equal in one way at most.
use Rattle.std.specs.Prelude.{◌≡◌, ℕ, List, ◌⊎◌, Option, Some, None}
use Rattle.std.specs.Coded.{Coded, code_by, coded×, coded⊎, coded_ℕ, coded_list, coded_option}
use Rattle.std.proofs.Common.{refl, inl, inr}
use Rattle.depot_base.specs.declared.update.Dep.{Dep}
use Rattle.depot_base.specs.declared.update.Update.{Update}
use Rattle.depot_base.specs.declared.write.Wrote.{Wrote}
use Rattle.depot_base.specs.declared.write.Wrote.TheVariants.{Put, Gone}
use Rattle.depot_base.specs.declared.write.Write.{Write}
use Rattle.depot_base.specs.declared.voucher.Voucher.{Voucher}
use Rattle.depot_base.specs.declared.statement.Statement.{Statement}
use Rattle.depot_base.specs.declared.statement.Statement.TheVariants as statements
use Rattle.depot_base.specs.declared.statement.Signed.{Signed}
use Rattle.depot_base.specs.declared.proof.Kind.{Kind}
use Rattle.depot_base.specs.declared.proof.Kind.TheVariants.{SameNumber, SamePrev, Backward, NotUpdate}
use Rattle.depot_base.specs.declared.proof.Proof.{Proof}
use Rattle.depot_base.specs.declared.proof.Proof.TheVariants.{Pair, Hollow}
use Rattle.depot_base.specs.declared.key.PublicKey.{PublicKey}
use Rattle.depot_base.specs.declared.key.RosterEntry.{RosterEntry}
use Rattle.depot_base.specs.declared.record.Record.{Record}
use Rattle.depot_base.specs.declared.record.Record.TheVariants.{Birth, OwnPut, OwnVoucher, Foreign, Conviction, Held}
use Rattle.depot_model.specs.texts.Texts.{number_of_kind, kind_of_number}

pub coded_bytes : Coded (List ℕ)
coded_bytes = coded_list coded_ℕ

-- ---- updates and vouchers

pub coded_dep : Coded Dep
coded_dep = code_by (ℕ × (ℕ × List ℕ)) (coded× coded_ℕ (coded× coded_ℕ coded_bytes)) (λ d. (d.writer, (d.clock, d.id))) (λ p. record { writer = p.0; clock = p.1.0; id = p.1.1 }) (λ d. refl)

abbrev wrote_part : Wrote → Option (List ℕ × ℕ)
wrote_part (Put hash size) = Some (hash, size)
wrote_part Gone = None

abbrev wrote_of : Option (List ℕ × ℕ) → Wrote
wrote_of (Some p) = Put p.0 p.1
wrote_of None = Gone

wrote_back : (w : Wrote) → wrote_of (wrote_part w) ≡ w
wrote_back (Put hash size) = refl
wrote_back Gone = refl

pub coded_wrote : Coded Wrote
coded_wrote = code_by (Option (List ℕ × ℕ)) (coded_option (coded× coded_bytes coded_ℕ)) wrote_part wrote_of wrote_back

pub coded_write : Coded Write
coded_write = code_by (List ℕ × Wrote) (coded× coded_bytes coded_wrote) (λ w. (w.key, w.what)) (λ p. record { key = p.0; what = p.1 }) (λ w. refl)

abbrev UpdateParts : Type 0
UpdateParts = ℕ × (ℕ × (ℕ × (List ℕ × (List Write × (List Dep × List ℕ)))))

abbrev update_of : UpdateParts → Update
update_of (writer, (seq, (clock, (prev, (writes, (deps, history)))))) =
    record { writer = writer; seq = seq; clock = clock; prev = prev; writes = writes; deps = deps; history = history }

pub coded_update : Coded Update
coded_update =
    code_by UpdateParts
    (coded× coded_ℕ (coded× coded_ℕ (coded× coded_ℕ (coded× coded_bytes (coded× (coded_list coded_write) (coded× (coded_list coded_dep) coded_bytes))))))
    (λ u. (u.writer, (u.seq, (u.clock, (u.prev, (u.writes, (u.deps, u.history)))))))
    update_of (λ u. refl)

pub coded_voucher : Coded Voucher
coded_voucher = code_by (ℕ × (ℕ × List (List ℕ))) (coded× coded_ℕ (coded× coded_ℕ (coded_list coded_bytes)))
    (λ v. (v.node, (v.seq, v.ids))) (λ p. record { node = p.0; seq = p.1.0; ids = p.1.1 }) (λ v. refl)

-- ---- statements

abbrev statement_part : Statement → Update ⊎ Voucher
statement_part (statements.Update u) = inl u
statement_part (statements.Voucher v) = inr v

abbrev statement_of : Update ⊎ Voucher → Statement
statement_of (inl u) = statements.Update u
statement_of (inr v) = statements.Voucher v

statement_back : (s : Statement) → statement_of (statement_part s) ≡ s
statement_back (statements.Update u) = refl
statement_back (statements.Voucher v) = refl

pub coded_statement : Coded Statement
coded_statement = code_by (Update ⊎ Voucher) (coded⊎ coded_update coded_voucher) statement_part statement_of statement_back

pub coded_signed : Coded Signed
coded_signed = code_by (Statement × (List ℕ × List ℕ)) (coded× coded_statement (coded× coded_bytes coded_bytes))
    (λ s. (s.statement, (s.body, s.signature))) (λ p. record { statement = p.0; body = p.1.0; signature = p.1.1 }) (λ s. refl)

-- ---- proofs

kind_back : (k : Kind) → kind_of_number (number_of_kind k) ≡ k
kind_back SameNumber = refl
kind_back SamePrev = refl
kind_back Backward = refl
kind_back NotUpdate = refl

pub coded_kind : Coded Kind
coded_kind = code_by ℕ coded_ℕ number_of_kind kind_of_number kind_back

abbrev ProofPart : Type 0
ProofPart = (Kind × (Signed × Signed)) ⊎ (Signed × List ℕ)

abbrev proof_part : Proof → ProofPart
proof_part (Pair kind first second) = inl (kind, (first, second))
proof_part (Hollow voucher text) = inr (voucher, text)

abbrev proof_from : ProofPart → Proof
proof_from (inl p) = Pair p.0 p.1.0 p.1.1
proof_from (inr p) = Hollow p.0 p.1

proof_back : (p : Proof) → proof_from (proof_part p) ≡ p
proof_back (Pair kind first second) = refl
proof_back (Hollow voucher text) = refl

pub coded_proof : Coded Proof
coded_proof = code_by ProofPart (coded⊎ (coded× coded_kind (coded× coded_signed coded_signed)) (coded× coded_signed coded_bytes)) proof_part proof_from proof_back

-- ---- rosters

pub coded_public_key : Coded PublicKey
coded_public_key = code_by (List ℕ × ℕ) (coded× coded_bytes coded_ℕ) (λ k. (k.root, k.height)) (λ p. record { root = p.0; height = p.1 }) (λ k. refl)

pub coded_roster_entry : Coded RosterEntry
coded_roster_entry = code_by (ℕ × PublicKey) (coded× coded_ℕ coded_public_key) (λ e. (e.node, e.key)) (λ p. record { node = p.0; key = p.1 }) (λ e. refl)

-- ---- records

abbrev RecordPart : Type 0
RecordPart = (ℕ × List ℕ) ⊎ ((Update × List (List ℕ)) ⊎ (Voucher ⊎ (Signed ⊎ (Proof ⊎ List ℕ))))

abbrev record_part : Record → RecordPart
record_part (Birth node roster) = inl (node, roster)
record_part (OwnPut u values) = inr (inl (u, values))
record_part (OwnVoucher v) = inr (inr (inl v))
record_part (Foreign s) = inr (inr (inr (inl s)))
record_part (Conviction p) = inr (inr (inr (inr (inl p))))
record_part (Held value) = inr (inr (inr (inr (inr value))))

abbrev record_of_part : RecordPart → Record
record_of_part (inl b) = Birth b.0 b.1
record_of_part (inr (inl p)) = OwnPut p.0 p.1
record_of_part (inr (inr (inl v))) = OwnVoucher v
record_of_part (inr (inr (inr (inl s)))) = Foreign s
record_of_part (inr (inr (inr (inr (inl p))))) = Conviction p
record_of_part (inr (inr (inr (inr (inr value))))) = Held value

record_back : (r : Record) → record_of_part (record_part r) ≡ r
record_back (Birth node roster) = refl
record_back (OwnPut u values) = refl
record_back (OwnVoucher v) = refl
record_back (Foreign s) = refl
record_back (Conviction p) = refl
record_back (Held value) = refl

pub coded_record : Coded Record
coded_record =
    code_by RecordPart (coded⊎ (coded× coded_ℕ coded_bytes) (coded⊎ (coded× coded_update (coded_list coded_bytes)) (coded⊎ coded_voucher (coded⊎ coded_signed (coded⊎ coded_proof coded_bytes)))))
    record_part record_of_part record_back
