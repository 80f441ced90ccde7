use Rattle.std.proofs.Common.{◌≡◌, ◌≤◌, List, ℕ, [], ◌∷◌, ◌++◌, map, ap, sym, ◌∙◌, length, subst, arith}
use Rattle.std.specs.Prelude.{OnOk}
use Rattle.depot_base.specs.declared.statement.Statement.TheVariants as statement
use Rattle.depot_base.specs.declared.record.Record.TheVariants.{OwnVoucher}
use Rattle.depot_model.specs.exchange.Bundle.{signed_by, signed_with}
use Rattle.depot_model.specs.texts.Texts.{text_of_signed}
use Rattle.depot_model.proofs.lists.Elements.{in_at}
use Rattle.depot_gossip.specs.Fronts.{AreFrames}
use Rattle.depot_gossip.proofs.ChoiceLaws.{told_is_short}
use Rattle.depot_gossip.proofs.front.FrontFrames.put_voucher.Goals as goal

pub put-requires-clause-short : goal.put-requires-clause-short
put-requires-clause-short g c =
    let J = g.R.NodeState.records c.args.node.now in
    let v = c.requires.at in
    let short : length c.in_ok-text.text ≤ 55979 =
    told_is_short (g.R.NodeState.stands c.args.node.now) (g.R.NodeState.signature_of c.args.node.now) J (OwnVoucher v.0) c.in_ok-text.text (g.met.R.Replica.lawful c.args.node.now) (g.met.R.Replica.short c.args.node.now) (in_at J c.args.place (OwnVoucher v.0) v.1) (c.in_ok-text.ensures (OwnVoucher v.0) v.1) in
    omega (arith, short, ap length c.as_slice.ensures)

pub returns-clause-added : goal.returns-clause-added
returns-clause-added g c = λ v at fs are.
    let sign = g.R.NodeState.signature_of c.args.node.now in
    let told : map text_of_signed (signed_by sign (OwnVoucher v)) ≡ c.in_ok-text.text ∷ [] = c.in_ok-text.ensures (OwnVoucher v) at in
    let text : text_of_signed (signed_with sign (statement.Voucher v)) ≡ c.in_ok-text.text = cc in
    subst (λ (bytes : List ℕ). OnOk c.put.result (AreFrames (fs ++ (record { tag = 2; payload = bytes }) ∷ []) c.put.new.self)) (c.as_slice.ensures ∙ sym text) (c.put.ensures.added fs are)
