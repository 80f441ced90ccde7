-- What an update says of receipts, and what enough true receipts show.
use Rattle.std.specs.Prelude.{◌≡◌, ◌≤◌, ℕ, List, length, filter, not, true, None}
use Rattle.depot_base.specs.declared.update.Update.{Update}
use Rattle.depot_base.specs.declared.record.Record.{Record}
use Rattle.depot_model.specs.lists.Lists.{IsIn}
use Rattle.depot_model.specs.texts.Contents.{keys_written}
use Rattle.depot_model.specs.worlds.World.{Correct, World}
use Rattle.depot_model.specs.worlds.Receipts.{receipt_key, receipt_of, gives_receipt, receipts, HoldsAllOf, AreReceiptsTrue, is_node}

-- each receipt that the update gives is for what the journal holds
abbrev pub GivesTrueReceipts : List Record → Update → Type 0
GivesTrueReceipts J u = (h : List ℕ) → length h ≡ 32 → gives_receipt h u ≡ true → HoldsAllOf J h

-- no key that the update writes is that of a receipt
abbrev pub WritesNoReceipt : Update → Type 0
WritesNoReceipt u = (key : List ℕ) → IsIn key (keys_written u) → receipt_of key ≡ None

-- each key that the update writes is that of a receipt for one of these ids
abbrev pub WritesReceipts : Update → List (List ℕ) → Type 0
WritesReceipts u ids = (key : List ℕ) → IsIn key (keys_written u) → (h : List ℕ) × (IsIn h ids × (key ≡ receipt_key h))

-- each correct node's receipts are true
abbrev pub HaveTrueReceipts : World → Type 0
HaveTrueReceipts W = (d : Correct) → IsIn d W.nodes → AreReceiptsTrue d.journal

-- how many nodes of the roster aren't correct
abbrev pub count_incorrect : World → ℕ
count_incorrect W = length (filter (λ e. not (is_node W e.node)) W.listed)

-- Where a correct node has receipts of this many nodes, some correct node has accepted the update and holds all its
-- values.
abbrev pub ReceiptsSettle : World → ℕ → Type 0
ReceiptsSettle W k = (c : Correct) (h : List ℕ) → IsIn c W.nodes → length h ≡ 32 → k ≤ length (receipts c.journal h)
    → (d : Correct) × (IsIn d W.nodes × HoldsAllOf d.journal h)
