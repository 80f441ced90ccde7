use Rattle.std.proofs.Common.{◌∙◌, ◌<◌, List, length, get_or, ap, subst}
use Rattle.depot_kept.specs.declared.heads.Fresh.{Fresh}
use Rattle.depot_kept.specs.Settled.{settled}
use Rattle.depot_kept.proofs.HeadLaws.{newest_more}
use Rattle.depot_kept.proofs.heads.Heads.get.Goals as goal

pub loop-fresh-preserved : goal.loop-fresh-preserved
loop-fresh-preserved c =
    let all = c.as_slice-fresh-items.ensures.value in
    let i = c.loop-fresh.fresh-index in
    let f = c.fresh-item.result in
    newest_more (settled c.args.self.now.settled c.args.mark.now) c.args.self.now.fresh.items i f c.args.mark.now c.loop-fresh.newest _
    (subst (λ (fs : List Fresh). i < length fs) all c.loop-fresh-test.true) (c.fresh-item.is ∙ ap (λ (fs : List Fresh). get_or fs i f) all) c.loop-fresh.invariant c.newest_with-newest.ensures
