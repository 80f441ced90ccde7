use Rattle.std.proofs.Common.{◌≡◌, false, true, List, sym, ap, ◌∙◌, arith}
use Rattle.std.proofs.lemmas.List.{take_all}
use Rattle.depot_base.specs.declared.update.Update.{Update}
use Rattle.depot_model.specs.journals.Journal.{accepted}
use Rattle.depot_world.specs.Run.{first_update}
use Rattle.depot_replay.specs.MemHostFacts.{lawful_there}
use Rattle.depot_replay.proofs.OwnUpdates.{found, not_yet, of_seq, own_by_seq}
use Rattle.depot_replay.proofs.mem_host.MemHostActor.own_update.Goals as goal

pub returns-then-is_by : goal.returns-then-is_by
returns-then-is_by g c =
    let a = c.args.self.now in
    let is = c.is_by.ensures.0 c.if-is_by.true in
    let l = lawful_there g.S.Scheme.verifies a.node.store.me a.start_config.me a.node.store.listed a.start_config.roster a.node.store.records a.is_me a.is_listed a.node.kept.lawful in
    sym (own_by_seq _ a.node.store.records c.args.seq l ∙ found a.start_config.me c.args.seq (accepted a.node.store.records) c.loop-item.item c.update-update.result.now c.update-update.ensures c.loop-item.invariant is.0 is.1)

pub loop-item-preserved : goal.loop-item-preserved
loop-item-preserved g c =
    let a = c.args.self.now in
    not_yet a.start_config.me c.args.seq (accepted a.node.store.records) c.loop-item.item c.update-update.result.now c.update-update.ensures c.loop-item.invariant (λ writer number. let never : false ≡ true = sym c.if-is_by.false ∙ c.is_by.ensures.1 (writer, number) in cc)

pub returns : goal.returns
returns g c =
    let a = c.args.self.now in
    let l = lawful_there g.S.Scheme.verifies a.node.store.me a.start_config.me a.node.store.listed a.start_config.roster a.node.store.records a.is_me a.is_listed a.node.kept.lawful in
    let all = take_all c.loop-item.item (accepted a.node.store.records) (omega (arith, c.update_count-item-end.ensures, c.loop-item-test.false)) in
    sym (own_by_seq _ a.node.store.records c.args.seq l ∙ ap (λ (us : List Update). first_update us) (sym (ap (of_seq a.start_config.me c.args.seq) all) ∙ c.loop-item.invariant))
