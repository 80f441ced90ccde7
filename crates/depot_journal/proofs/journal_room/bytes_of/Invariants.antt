-- The bytes of the rest, and of the records that were counted.
use Rattle.std.proofs.Common.{◌≡◌, ◌+◌, ◌-◌, ◌^◌, length, min, take}
use Rattle.depot_base.specs.File.{blocks}
use Rattle.depot_journal.proofs.journal_room.bytes_of.Given as goal

abbrev pub invariant-loop-text : goal.invariant-loop-text
invariant-loop-text l = l.bytes ≡ min (length l.fn.rest + length (blocks (take l.text-index l.fn.texts))) (2 ^ 64 - 1)
