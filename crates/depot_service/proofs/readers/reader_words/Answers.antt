use Rattle.std.proofs.Common.{ℕ, List, refl, ap, ◌∙◌, arith}
use Rattle.std.proofs.lemmas.List.{take_all}
use Rattle.depot_model.specs.lists.Items.{updates_at}
use Rattle.depot_model.specs.journals.Journal.{accepted}
use Rattle.depot_service.specs.Printing.{shown_text}
use Rattle.depot_service.proofs.FedReaders.{printed_more_by, shown_are_by, shown_as_by}
use Rattle.depot_service.proofs.ShownWrites.{is_one_of_them}
use Rattle.depot_service.proofs.readers.reader_words.Goals as goal

pub value_of-requires-clause-writes : goal.value_of-requires-clause-writes
value_of-requires-clause-writes g c = λ R u is at.
    let items = c.latest-item-items.result.now in
    ((c.latest-item-items.ensures.latest R is).only u (is_one_of_them (accepted R.journal) items c.loop-item.item-index _ u c.loop-item-test.true refl at)).writes

pub loop-item-preserved : goal.loop-item-preserved
loop-item-preserved g c = λ R is.
    let items = c.latest-item-items.result.now in
    let u = c.update-update.result.now in
    let at = c.update-update.ensures R is in
    let shown = c.seen_by_reader-shown.ensures R (c.value_of.ensures R u is at) in
    printed_more_by R (accepted R.journal) c.args.key.now items c.loop-item.item-index _ u c.loop-item.words c.add_write.new.line _ c.loop-item-test.true refl at shown (c.loop-item.invariant R is) c.in_ok-add_write.ensures

pub returns : goal.returns
returns g c = λ R is.
    let items = c.latest-item-items.result.now in
    let all = take_all c.loop-item.item-index items (omega (arith, c.loop-item-test.false)) in
    c.loop-item.invariant R is ∙ ap (λ (x : List ℕ). shown_text (shown_as_by R c.args.key.now (updates_at (accepted R.journal) x))) all ∙ ap shown_text (shown_are_by R c.args.key.now items is.lawful (c.latest-item-items.ensures.latest R is))
