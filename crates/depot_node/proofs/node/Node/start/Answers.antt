use Rattle.std.proofs.Common.{◌≡◌, List, Some, is_some, refl, sym, ap, subst, ◌∙◌}
use Rattle.depot_accept.specs.StateView.{View, setting}
use Rattle.depot_base.specs.declared.key.RosterEntry.{RosterEntry}
use Rattle.depot_base.specs.declared.record.Record.{Record}
use Rattle.depot_model.specs.checks.Checks.{Setting}
use Rattle.depot_model.specs.journals.Lawful.{IsLawful, is_empty}
use Rattle.depot_model.specs.texts.Roster.{key_of}
use Rattle.depot_model.specs.texts.Texts.{IsRoster}
use Rattle.depot_node.specs.Holdings.{node_setting}
use Rattle.depot_node.specs.Starting.{IsDiskThen, IsHandedBack, IsStartedOn, started}
use Rattle.depot_node.specs.declared.start_error.StartError.TheVariants as refused
use Rattle.depot_decide.proofs.TakenTexts.{none_accepted}
use Rattle.depot_node.proofs.Fills.{key_is_no_disk, untouched_back, untouched_disk}
use Rattle.depot_node.proofs.Started.{started_is_lawful, started_has_one}
use Rattle.depot_node.proofs.node.Node.start.Given.{Over}
use Rattle.depot_node.proofs.node.Node.start.Goals as goal
use Rattle.depot_node.proofs.node.Node.start.Goals.{In-Ok-open}

-- the setting of the node
abbrev here : (g : Over) (c : In-Ok-open g) → Setting
here g c = record { verifies = g.S.Scheme.verifies; me = c.args.me; listed = c.args.roster }

stands : (g : Over) (c : In-Ok-open g) → node_setting g.S.Scheme.verifies c.in-Ok-open.store ≡ here g c
stands g c = c.in-Ok-open.ensures.stands ∙ ap (λ (v : View g.row.S.Denot). setting g.S.Scheme.verifies v) c.in-Ok.ensures

pub open-requires-clause-empty : goal.open-requires-clause-empty
open-requires-clause-empty g c = none_accepted c.in-Ok.state c.args.me c.args.roster c.args.scheme c.in-Ok.ensures

pub invariant_of-result : goal.invariant_of-result
invariant_of-result g c =
    let s = stands g c in
    let own = c.key_fault.ensures.none c.in_default.is in
    let roster = subst (λ (r : List RosterEntry). IsRoster r) c.roster.view_is c.roster.invariant.is_roster in
    let J = subst (λ (v : View g.row.S.Denot). (K : List Record) × (IsLawful (setting g.S.Scheme.verifies v) K × (c.in-Ok-open.store.records ≡ started (setting g.S.Scheme.verifies v) K))) c.in-Ok.ensures c.in-Ok-open.ensures.lawful in
    let lawful = started_is_lawful (here g c) J.0 roster (ap is_some own) J.1.0 in
    record {
      kept = record {
        read = c.in-Ok-open.ensures.whole.read;
        lawful = subst (λ (t : Setting). IsLawful t c.in-Ok-open.store.records) (sym s) (subst (λ (K : List Record). IsLawful (here g c) K) (sym J.1.1) lawful);
        some = ap is_empty J.1.1 ∙ started_has_one (here g c) J.0;
      };
      formed = subst (λ (t : Setting). IsRoster t.listed) (sym s) roster;
      keyed = subst (λ (t : Setting). key_of t.listed t.me ≡ Some (g.G.Signer.key_of c.args.signer)) (sym s) own;
    }

pub returns-in-Ok-open-clause-node : goal.returns-in-Ok-open-clause-node
returns-in-Ok-open-clause-node g c = record { stands = stands g (goal.at.returns-in-Ok-open-clause-node g c).In-Ok-open; keyed = c.key_fault.ensures.none c.in_default.is; signs = refl; runs = c.in-Ok-open.ensures.whole.runs }

pub returns-in-Ok-open-clause-started : goal.returns-in-Ok-open-clause-started
returns-in-Ok-open-clause-started g c = subst (λ (v : View g.row.S.Denot). IsStartedOn g.D.Disk (setting g.S.Scheme.verifies v) c.args.disk c.in-Ok-open.store.disk c.in-Ok-open.store.records) c.in-Ok.ensures c.in-Ok-open.ensures.started

pub returns-in-Ok-open-clause-disk : goal.returns-in-Ok-open-clause-disk
returns-in-Ok-open-clause-disk g c = subst (λ (v : View g.row.S.Denot). IsDiskThen g.D.Disk (setting g.S.Scheme.verifies v) c.args.disk c.in-Ok-open.store.disk) c.in-Ok.ensures c.in-Ok-open.ensures.disk

-- ---- nothing is started

pub returns-in-Some-clause-back : goal.returns-in-Some-clause-back
returns-in-Some-clause-back g c = untouched_back g.D.Disk g.met.D.Disk.only_now _ c.args.disk c.in-Some.error (key_is_no_disk c.args.roster c.args.me (g.G.Signer.key_of c.args.signer) c.in-Some.error c.in-Some.ensures.some)

pub returns-in-Some-clause-disk : goal.returns-in-Some-clause-disk
returns-in-Some-clause-disk g c = untouched_disk g.D.Disk g.met.D.Disk.only_now _ c.args.disk

pub returns-in_default-new-clause-back : goal.returns-in_default-new-clause-back
returns-in_default-new-clause-back g c = untouched_back g.D.Disk g.met.D.Disk.only_now _ c.args.disk refused.Memory (λ e. cc)

pub returns-in_default-new-clause-disk : goal.returns-in_default-new-clause-disk
returns-in_default-new-clause-disk g c = untouched_disk g.D.Disk g.met.D.Disk.only_now _ c.args.disk

pub returns-in-Err-clause-back : goal.returns-in-Err-clause-back
returns-in-Err-clause-back g c = subst (λ (v : View g.row.S.Denot). IsHandedBack g.D.Disk (setting g.S.Scheme.verifies v) c.args.disk c.in-Err.back) c.in-Ok.ensures c.in-Err.ensures.back

pub returns-in-Err-clause-disk : goal.returns-in-Err-clause-disk
returns-in-Err-clause-disk g c = subst (λ (v : View g.row.S.Denot). IsDiskThen g.D.Disk (setting g.S.Scheme.verifies v) c.args.disk c.in-Err.back.disk) c.in-Ok.ensures c.in-Err.ensures.disk
