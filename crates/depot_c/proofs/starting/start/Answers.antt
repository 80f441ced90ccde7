use Rattle.std.proofs.Common.{◌≡◌, ℕ, List, Some, false, refl, ap, sym, subst, ◌∙◌, arith}
use Rattle.depot_base.specs.declared.key.PublicKey.{PublicKey}
use Rattle.depot_base.specs.declared.key.RosterEntry.{RosterEntry}
use Rattle.depot_model.specs.checks.Checks.{Setting}
use Rattle.depot_model.specs.texts.Roster.{key_of}
use Rattle.depot_model.specs.texts.Winternitz.{winternitz_signature, winternitz_verifies}
use Rattle.depot_node.specs.Starting.{IsNotStarted, IsStartedFrom}
use Rattle.depot_node.specs.declared.start_error.StartError.{StartError}
use Rattle.depot_node.specs.declared.start_error.StartError.TheVariants as start_error
use Rattle.depot_outside.specs.Stopping.{State}
use Rattle.depot_winter.specs.Signer.{height_of, signing_seed}
use Rattle.depot_winter.specs.TreeSigning.{key_of_seed}
use Rattle.depot_winter.specs.declared.signer.WinterSigner.{WinterSigner}
use Rattle.depot_c.specs.NodeViews.{for_disk}
use Rattle.depot_c.specs.declared.refused.Refused.TheVariants as refused
use Rattle.depot_c.proofs.starting.start.Goals as goal

abbrev standing : ℕ → List RosterEntry → Setting
standing me listed = record { verifies = winternitz_verifies; me = me; listed = listed }

abbrev key_by : WinterSigner → PublicKey
key_by w = key_of_seed (signing_seed w) (height_of w)

pub returns-in-Ok-start-clause-started : goal.returns-in-Ok-start-clause-started
returns-in-Ok-start-clause-started c =
    let did = c.in-Ok-start.ensures in
    let me = c.args.me in
    let records = c.in-Ok-start.node.store.records in
    let same : c.in-Ok-Ok.roster ≡ c.args.roster.now = c.in-Ok-Ok.ensures' in
    let file : c.new-disk.result.file.bytes.items ≡ c.args.file.now = ap (λ (s : State). s.file) c.new-disk.ensures.state ∙ c.in-Ok-Ok.ensures in
    let calm = did.disk.faultless (c.new-disk.ensures.faultless c.new.ensures) in
    record {
      stands = did.node.stands ∙ ap (standing me) same;
      keyed = ap (λ (l : List RosterEntry). key_of l me) (sym same) ∙ did.node.keyed ∙ ap (λ (w : WinterSigner). Some (key_by w)) c.in-Ok.ensures;
      signs = did.node.signs ∙ ap (λ (w : WinterSigner). winternitz_signature (signing_seed w) (height_of w)) c.in-Ok.ensures;
      runs = record { running = did.node.runs; none = calm.0.0; never = calm.0.1 };
      records = subst (λ (l : List RosterEntry). IsStartedFrom (standing me l) c.args.file.now records) same (subst (λ (f : List ℕ). IsStartedFrom (standing me c.in-Ok-Ok.roster) f records) file (did.started.from c.new-disk.ensures.tells));
    }

-- no refusal but that for the disk is one for the disk
only_disk : (e : StartError) → (e ≡ start_error.Disk → ⊥) → for_disk (refused.Start e) ≡ false
only_disk start_error.Disk well = absurd (well refl)
only_disk start_error.Memory well = refl
only_disk (start_error.Damaged at) well = refl
only_disk (start_error.NotLawful place fault) well = refl
only_disk (start_error.OtherNode node) well = refl
only_disk (start_error.OtherRoster kept given) well = refl
only_disk start_error.UnknownMe well = refl
only_disk (start_error.OtherKey roster signer) well = refl

-- what a refusal says of a disk whose bytes are visible
told_of : {told : Type 0} → told → (here : Setting) (key : PublicKey) (file : List ℕ) (e : StartError) → IsNotStarted here key told file e → IsNotStarted here key (Unit {0}) file e
told_of tells here key file start_error.Memory is = is
told_of tells here key file start_error.Disk is = is
told_of tells here key file start_error.UnknownMe is = is
told_of tells here key file (start_error.OtherKey roster signer) is = is
told_of tells here key file (start_error.Damaged at) is = (is.0, λ told. is.1 tells)
told_of tells here key file (start_error.NotLawful place fault) is = (is.0, λ told. is.1 tells)
told_of tells here key file (start_error.OtherNode node) is = (is.0, (is.1.0, λ told. is.1.1 tells))
told_of tells here key file (start_error.OtherRoster kept given) is = (is.0, (is.1.0, (is.1.1.0, λ told. is.1.1.1 tells)))

pub returns-in-Err-clause-refused : goal.returns-in-Err-clause-refused
returns-in-Err-clause-refused c =
    let did = c.in-Err.ensures in
    let me = c.args.me in
    let key = key_by c.args.signer.now.0.value in
    let e = c.in-Err.back.error in
    let same : c.in-Ok-Ok.roster ≡ c.args.roster.now = c.in-Ok-Ok.ensures' in
    let file : c.new-disk.result.file.bytes.items ≡ c.args.file.now = ap (λ (s : State). s.file) c.new-disk.ensures.state ∙ c.in-Ok-Ok.ensures in
    let calm = did.disk.faultless (c.new-disk.ensures.faultless c.new.ensures) in
    let told = told_of c.new-disk.ensures.tells (standing me c.in-Ok-Ok.roster) (key_by c.in-Ok.signer.0.value) c.new-disk.result.file.bytes.items e did.refused in
    let at = subst (λ (w : WinterSigner). IsNotStarted (standing me c.in-Ok-Ok.roster) (key_by w) (Unit {0}) c.new-disk.result.file.bytes.items e) c.in-Ok.ensures told in
    let known = subst (λ (l : List RosterEntry). IsNotStarted (standing me l) key (Unit {0}) c.new-disk.result.file.bytes.items e) same at in
    (subst (λ (f : List ℕ). IsNotStarted (standing me c.args.roster.now) key (Unit {0}) f e) file known, only_disk e (λ failed. omega (arith, did.back.cause.rose failed, calm.1)))
