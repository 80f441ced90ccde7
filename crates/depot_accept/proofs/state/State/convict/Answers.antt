use Rattle.std.proofs.Common.{◌≡◌, List, sym, subst, ap, true, ◌∙◌}
use Rattle.depot_base.specs.declared.key.RosterEntry.{RosterEntry}
use Rattle.depot_base.specs.declared.record.Record.TheVariants.{Conviction}
use Rattle.depot_model.specs.texts.Roster.{has_node}
use Rattle.depot_kept.specs.VouchedView.{with_node}
use Rattle.depot_accept.specs.StateView.{View}
use Rattle.depot_accept.proofs.Convicting.{has_place, convicts_more}
use Rattle.depot_accept.proofs.StateLaws.{grown, convict_grows}
use Rattle.depot_accept.proofs.state.State.convict.Goals as goal

pub convict-requires : goal.convict-requires
convict-requires g c =
    let roster : c.args.self.now.listed ≡ c.self.inside.roster = ap (λ (v : View _). v.listed) (sym c.self.view_is) in
    has_place c.self.inside.roster c.self.inside.vouched.convicted c.self.inside.vouched.nodes c.args.node c.self.invariant.0 (subst (λ (r : List RosterEntry). has_node r c.args.node ≡ true) roster c.requires)

pub invariant_of-self : goal.invariant_of-self
invariant_of-self g c =
    let roster : c.args.self.now.listed ≡ c.self.inside.roster = ap (λ (v : View _). v.listed) (sym c.self.view_is) in
    let more = convicts_more c.self.inside.roster c.self.inside.vouched.convicted c.self.inside.vouched.nodes c.args.node c.self.invariant.0 (subst (λ (r : List RosterEntry). has_node r c.args.node ≡ true) roster c.requires) in
    (rw (c.convict.ensures.convicted, c.convict.ensures.nodes) more, c.self.invariant.1)

pub returns-clause-convicted : goal.returns-clause-convicted
returns-clause-convicted g c = λ J p named s.
    let v = c.args.self.now in
    grown J v _ (Conviction p) s (
    convict_grows v _ p c.args.node named (ap (λ (w : View _). w.accepted) c.self.view_is) (ap (λ (w : View _). w.foreign) c.self.view_is) (ap (λ (w : View _). w.own_vouchers) c.self.view_is)
    (c.convict.ensures.ids ∙ ap (λ (w : View _). w.vouched) c.self.view_is)
    (c.convict.ensures.convicted ∙ ap (λ (w : View _). with_node w.convicted c.args.node) c.self.view_is))
