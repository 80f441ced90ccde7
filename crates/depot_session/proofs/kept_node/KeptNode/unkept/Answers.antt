use Rattle.std.proofs.Common.{◌≡◌, ◌++◌, ◌∷◌, List, ℕ, map, take, drop, sym, ap, ◌∙◌, arith}
use Rattle.std.proofs.lemmas.List.{length-map, take_all}
use Rattle.depot_base.specs.File.{blocks, framed}
use Rattle.depot_journal.proofs.RecordBlocks.{blocks_push}
use Rattle.depot_model.specs.texts.Records.{text_of_record}
use Rattle.depot_session.proofs.of_serving.KeptFiles.{drop_texts, none_between, one_more_block, short_text}
use Rattle.depot_session.proofs.kept_node.KeptNode.unkept.Goals as goal

pub loop-place-init : goal.loop-place-init
loop-place-init g c = record {
  from = omega arith;
  bytes = c.new-bytes.ensures ∙ sym (ap blocks (none_between (map text_of_record (g.N.NodeState.records c.args.self.now.node)) c.args.self.now.kept));
}

pub put_in_group-requires : goal.put_in_group-requires
put_in_group-requires g c =
    let node = c.args.self.now.node in
    let short = short_text (g.N.NodeState.stands node) (g.N.NodeState.records node) c.loop-place.place c.record_text.result.now (g.met.N.Replica.lawful node) c.record_text.ensures in
    omega (arith, short)

pub loop-place-preserved : goal.loop-place-preserved
loop-place-preserved g c =
    let texts = map text_of_record (g.N.NodeState.records c.args.self.now.node) in
    let inv = c.loop-place.invariant in
    let next = one_more_block texts c.args.self.now.kept c.loop-place.place c.record_text.result.now inv.from c.record_text.ensures in
    record {
      from = omega (arith, inv.from);
      bytes = c.in_ok-put_in_group.ensures.put ∙ ap (λ (b : List ℕ). b ++ (1 ∷ framed c.record_text.result.now)) inv.bytes ∙ sym (blocks_push (drop c.args.self.now.kept (take c.loop-place.place texts)) c.record_text.result.now) ∙ ap blocks (sym next);
    }

pub returns : goal.returns
returns g c =
    let J = g.N.NodeState.records c.args.self.now.node in
    let texts = map text_of_record J in
    let all : take c.loop-place.place texts ≡ texts = take_all c.loop-place.place texts (omega (arith, c.loop-place-test.false, c.record_count-place-end.ensures, length-map J text_of_record)) in
    c.loop-place.invariant.bytes ∙ ap (λ (x : List (List ℕ)). blocks (drop c.args.self.now.kept x)) all ∙ ap blocks (drop_texts J c.args.self.now.kept)
