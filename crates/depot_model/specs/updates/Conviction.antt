-- Proofs that are made of two statements, and what a verdict shows.
use Rattle.std.specs.Prelude.{◌≡◌, ℕ, List, true, Some, None, if◌then◌else◌}
use Rattle.depot_base.specs.Parts.{is_below}
use Rattle.depot_base.specs.Statement.{writer_of, seq_of}
use Rattle.depot_base.specs.declared.statement.Signed.{Signed}
use Rattle.depot_base.specs.declared.proof.Kind.{Kind}
use Rattle.depot_base.specs.declared.proof.Kind.TheVariants.{NotUpdate}
use Rattle.depot_base.specs.declared.proof.Proof.{Proof}
use Rattle.depot_base.specs.declared.proof.Proof.TheVariants.{Pair, Hollow}
use Rattle.depot_base.specs.declared.key.PublicKey.{PublicKey}
use Rattle.depot_base.specs.declared.key.RosterEntry.{RosterEntry}
use Rattle.depot_model.specs.declared.judgement.Verdict.{Verdict}
use Rattle.depot_model.specs.texts.Contents.{shown_first, shown_second}
use Rattle.depot_model.specs.updates.Contradictions.{contradicts, is_hollow}
use Rattle.depot_model.specs.texts.Roster.{Verifies, key_of, is_signed}
use Rattle.depot_model.specs.updates.Judgement.{first_failed_point, IsTextOfProof}

-- the proof of two signed statements in a kind: the half with the smaller body comes first
unfoldable pub proof_of : Kind → Signed → Signed → Proof
proof_of k a b = if is_below a.body b.body then Pair k a b else Pair k b a

-- Wherever the signatures of what it shows verify, no point of the proof fails.
abbrev pub IsGood : Proof → Type 0
IsGood p = (verifies : Verifies) (r : List RosterEntry) → is_signed verifies r (shown_first p) ≡ true → is_signed verifies r (shown_second p) ≡ true → first_failed_point verifies r p ≡ None

-- the statement is the node's, and its signature verifies under the key
pub record IsSignedBy (verifies : Verifies) (key : PublicKey) (node : ℕ) (s : Signed) : Type 0 where
  pub writer : writer_of s.statement ≡ node
  pub verified : verifies key (seq_of s.statement) s.body s.signature ≡ true

-- What the verdict on a proof shows: two statements that the node signed under its key, and that contradict each other in the
-- verdict's kind; or a voucher that it signed under its key, and a text that the voucher names and that is no update's.
abbrev pub Shows : Verifies → PublicKey → Verdict → Proof → Type 0
Shows verifies key verdict (Pair kind first second) =
    (kind ≡ verdict.kind) × (IsSignedBy verifies key verdict.node first × (IsSignedBy verifies key verdict.node second × (contradicts kind first.statement second.statement ≡ true)))
Shows verifies key verdict (Hollow voucher text) =
    (NotUpdate ≡ verdict.kind) × (IsSignedBy verifies key verdict.node voucher × (is_hollow voucher.statement text ≡ true))

-- The text is that of a proof which shows this of the node, under its key of the roster.
pub record Convicts (verifies : Verifies) (r : List RosterEntry) (text : List ℕ) (verdict : Verdict) : Type 0 where
  pub proof : Proof
  pub key : PublicKey
  pub shown : IsTextOfProof text proof
  pub of_roster : key_of r verdict.node ≡ Some key
  pub shows : Shows verifies key verdict proof
