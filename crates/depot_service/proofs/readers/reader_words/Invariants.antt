use Rattle.std.proofs.Common.{◌≡◌, take}
use Rattle.depot_model.specs.lists.Items.{updates_at}
use Rattle.depot_model.specs.journals.Journal.{accepted}
use Rattle.depot_model.specs.readers.Readers.{Reader}
use Rattle.depot_trim.specs.ReaderView.{IsReaderOf}
use Rattle.depot_service.specs.Printing.{shown_text}
use Rattle.depot_service.proofs.FedReaders.{shown_as_by}
use Rattle.depot_service.proofs.readers.reader_words.Given as goal

abbrev pub invariant-loop-item : goal.invariant-loop-item
invariant-loop-item g l = (R : Reader) → IsReaderOf g.S.Scheme.verifies R l.reader → l.words ≡ shown_text (shown_as_by R l.key (updates_at (accepted R.journal) (take l.item-index l.item-items)))
