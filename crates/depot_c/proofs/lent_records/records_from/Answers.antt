use Rattle.std.proofs.Common.{◌++◌, ◌+◌, ◌∙◌, ℕ, List, ap, drop, map}
use Rattle.depot_base.specs.File.{blocks}
use Rattle.depot_model.specs.texts.Records.{text_of_record}
use Rattle.depot_c.proofs.RecordRuns.{has_length, one_more}
use Rattle.depot_c.proofs.lent_records.records_from.Goals as goal

pub add_record-requires : goal.add_record-requires
add_record-requires c = has_length _ c.args.node.now.store.records c.loop-at.at c.record_text.result.now c.args.node.now.kept.lawful c.record_text.ensures

pub loop-at-preserved : goal.loop-at-preserved
loop-at-preserved c =
    let texts = map text_of_record c.args.node.now.store.records in
    ap (λ (l : List ℕ). l ++ blocks (drop (c.loop-at.at + 1) texts)) c.in_ok-add_record.ensures ∙ one_more c.loop-at.run texts c.loop-at.at c.record_text.result.now c.record_text.ensures ∙ c.loop-at.invariant
