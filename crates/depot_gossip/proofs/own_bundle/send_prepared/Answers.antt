use Rattle.std.proofs.Common.{◌≡◌, ℕ, List, Err, true, false, sym, ap, subst}
use Rattle.std.specs.List.{AllByRecursion}
use Rattle.std.proofs.lemmas.Result.{err_from_is_err_and}
use Rattle.depot_model.specs.exchange.Bundle.{Signs, unvouched}
use Rattle.depot_model.specs.journals.Journal.{accepted, is_foreign}
use Rattle.depot_model.specs.lists.Lists.{AreApart}
use Rattle.depot_model.specs.checks.Vouching.{is_mine_vouched}
use Rattle.depot_model.proofs.of_journals.JournalCallLaws.{runs_on}
use Rattle.depot_model.proofs.lists.Members.{all_from}
use Rattle.depot_gossip.specs.BundleStreams.{IsStream}
use Rattle.depot_gossip.proofs.ApartLaws.{unvouched_fresh}
use Rattle.depot_gossip.proofs.StreamLaws.{all_bundled, not_vouched, only_vouched}
use Rattle.depot_gossip.proofs.VoucherGrowth.{not_vouched_call, vouched_call}
use Rattle.depot_gossip.proofs.own_bundle.send_prepared.Goals as goal

pub own_vouchers-requires : goal.own_vouchers-requires
own_vouchers-requires g c =
    let here = g.R.NodeState.stands c.args.node.now in
    let J = g.R.NodeState.records c.args.node.now in
    let xs = c.requires.ready.1.0 in
    let is = c.requires.ready.1.1 in
    record {
      apart = subst (λ (hs : List (List ℕ)). AreApart hs) {x = unvouched here.me J xs} (sym is.ids) is.apart;
      foreign = subst (λ (hs : List (List ℕ)). AllByRecursion (λ i. is_foreign here.me (accepted J) i ≡ true) hs) {x = unvouched here.me J xs} (sym is.ids) (all_from (λ i. is_foreign here.me (accepted J) i ≡ true) (unvouched here.me J xs) is.foreign);
      fresh = subst (λ (hs : List (List ℕ)). AllByRecursion (λ i. is_mine_vouched J i ≡ false) hs) {x = unvouched here.me J xs} (sym is.ids) (unvouched_fresh here.me J xs);
    }

pub returns-in_err-own_vouchers : goal.returns-in_err-own_vouchers
returns-in_err-own_vouchers g c = λ answer xs is.
    let p = err_from_is_err_and c.from_residual.result c.from_residual.ensures.1 in
    rw (p.1, p.2) (record {
      bundles = not_vouched (g.R.NodeState.stands c.args.node.now) (g.R.NodeState.signature_of c.args.node.now) (g.R.NodeState.records c.args.node.now) (g.R.NodeState.stopped c.args.node.now) answer xs c.args.chosen is c.in_err-own_vouchers.field-0.0 (g.R.NodeState.records c.own_vouchers.new.self)
          (λ stopped. c.in_err-own_vouchers.ensures.call.journal.stops.answered.0 (ap (λ x. Err x) stopped)) c.in_err-own_vouchers.ensures.vouches;
      call = not_vouched_call g.R.NodeState c.args.chosen c.args.node.now c.own_vouchers.new.self (g.met.R.Replica.lawful c.args.node.now) (g.met.R.Replica.some c.args.node.now) c.requires.runs answer xs is c.in_err-own_vouchers.field-0.0 c.in_err-own_vouchers.ensures.vouches c.in_err-own_vouchers.ensures.call;
    })

pub bundle_for-requires : goal.bundle_for-requires
bundle_for-requires g c = runs_on (g.R.NodeState.stopped c.args.node.now) c.requires.runs c.in_ok-own_vouchers.ensures.call.journal.stops (λ e. cc)

pub returns-in_err-bundle_for : goal.returns-in_err-bundle_for
returns-in_err-bundle_for g c = λ answer xs is.
    let p = err_from_is_err_and c.from_residual-in_err-bundle_for.result c.from_residual-in_err-bundle_for.ensures.1 in
    rw (p.1, p.2) (record {
      bundles = only_vouched (g.R.NodeState.stands c.args.node.now) (g.R.NodeState.signature_of c.args.node.now) (g.R.NodeState.records c.args.node.now) (g.R.NodeState.stopped c.args.node.now) answer xs c.args.chosen is (g.R.NodeState.records c.own_vouchers.new.self) c.in_ok-own_vouchers.ensures.vouches;
      call = vouched_call g.R.NodeState c.args.chosen c.args.node.now c.own_vouchers.new.self (g.met.R.Replica.lawful c.args.node.now) (g.met.R.Replica.some c.args.node.now) c.requires.runs answer xs is _ (λ e. cc) (λ e. cc) c.in_ok-own_vouchers.ensures.vouches c.in_ok-own_vouchers.ensures.call;
    })

pub returns : goal.returns
returns g c = λ answer xs is.
    let then = g.R.NodeState.records c.own_vouchers.new.self in
    record {
      bundles = all_bundled (g.R.NodeState.stands c.args.node.now) (g.R.NodeState.signature_of c.args.node.now) (g.R.NodeState.records c.args.node.now) (g.R.NodeState.stopped c.args.node.now) answer xs c.args.chosen is c.in_ok-bundle_for.field-0 then c.in_ok-own_vouchers.ensures.vouches
          (subst (λ (sign : Signs). IsStream sign then c.args.chosen.hello c.args.chosen.sending c.in_ok-bundle_for.field-0) c.own_vouchers.ensures.call.same.signs c.in_ok-bundle_for.ensures);
      call = vouched_call g.R.NodeState c.args.chosen c.args.node.now c.own_vouchers.new.self (g.met.R.Replica.lawful c.args.node.now) (g.met.R.Replica.some c.args.node.now) c.requires.runs answer xs is _ (λ e. cc) (λ e. cc) c.in_ok-own_vouchers.ensures.vouches c.in_ok-own_vouchers.ensures.call;
    }
