-- What a node may be asked to write by a put.
use Rattle.std.specs.Prelude.{◌≡◌, List, None}
use Rattle.std.specs.List.{AllByRecursion}
use Rattle.depot_base.specs.declared.write.Change.{Change}
use Rattle.depot_model.specs.worlds.Receipts.{receipt_of}

-- no change is of a key in the form of a receipt's
abbrev pub WriteNoReceipts : List Change → Type 0
WriteNoReceipts cs = AllByRecursion (λ c. receipt_of c.key ≡ None) cs
