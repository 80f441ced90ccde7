use Rattle.std.proofs.Common.{[], ◌∷◌, ◌++◌, ap, ◌∙◌}
use Rattle.depot_accept.specs.StateView.{View}
use Rattle.depot_accept.proofs.StateLaws.{grown, own_update_grows}
use Rattle.depot_accept.proofs.state.State.add_accepted.Goals as goal

pub returns-clause-ok : goal.returns-clause-ok
returns-clause-ok g c =
    let v = c.args.self.now in
    (λ J r by s.
    let added = c.in_ok-add_uncounted.ensures.added in
    grown J v _ r s (
    own_update_grows v _ r c.args.update by (added ∙ ap (λ (w : View _). w.accepted ++ c.args.update ∷ []) c.self.view_is) (ap (λ (w : View _). w.foreign) c.self.view_is) (record {
      own_vouchers = ap (λ (w : View _). w.own_vouchers) c.self.view_is;
      vouched = ap (λ (w : View _). w.vouched) c.self.view_is;
      convicted = ap (λ (w : View _). w.convicted) c.self.view_is;
    })))
