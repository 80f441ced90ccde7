use Rattle.std.proofs.Common.{◌≡◌, ℕ, List, true, Option, Some, None, ap, sym, subst, refl}
use Rattle.std.specs.Prelude.{is_none, option_map}
use Rattle.depot_base.specs.declared.key.RosterEntry.{RosterEntry}
use Rattle.depot_model.specs.checks.Checks.{Setting}
use Rattle.depot_model.specs.texts.Winternitz.{winternitz_verifies}
use Rattle.depot_c.specs.Handles.{KeptSigner}
use Rattle.depot_c.specs.NodeViews.{NodeView}
use Rattle.depot_c.specs.Starts.{IsViewStarted}
use Rattle.depot_c.specs.contracts.node_view.NodeMemDiskWinterSchemeSharedSignerHasNodeView.TheImpl as node_views
use Rattle.depot_c.specs.contracts.shared_signer.SharedSignerSigner.TheImpl as signers
use Rattle.depot_c.specs.declared.shared_signer.SharedSigner.{SharedSigner}
use Rattle.depot_c.proofs.handle.Handle.start.Goals as goal

abbrev standing : ℕ → List RosterEntry → Setting
standing me listed = record { verifies = winternitz_verifies; me = me; listed = listed }

abbrev kept_by : SharedSigner → KeptSigner
kept_by s = record { key = signers.ghosts.key_of s; sign = signers.ghosts.signature_of s }

none_is : (o : Option NodeView) → is_none o ≡ true → o ≡ None
none_is None e = refl
none_is (Some s) e = absurd cc

pub returns-clause-starts : goal.returns-clause-starts
returns-clause-starts c =
    let kept = kept_by c.in-Some-Some.signer in
    let node_view = node_views.ghosts.node_view c.in_ok-node.node in (
      c.new.ensures,
      record {
        listed = c.in-Some-Some.roster;
        roster = c.in-Some-Some.is-0;
        kept = kept;
        signer = ap (option_map kept_by) c.in-Some-Some.is-1;
        free = none_is _ (sym c.if-not-is_free.ensures);
        node_view = node_view;
        started = subst (λ (n : ℕ). IsViewStarted (standing n c.in-Some-Some.roster) kept.key kept.sign c.args.file.now node_view) c.in_ok-me.ensures.1 c.in_ok-node.ensures.started;
        is = c.keep_node.ensures.keeps;
      },
    )
