-- How much a journal takes.
use Rattle.std.specs.Prelude.{◌≡◌, ℕ, List, [], ◌∷◌, ◌++◌, length, filter, Bool, not, ◌==◌, nat_lt, Option, Some, None}
use Rattle.std.specs.List.{flat_map}
use Rattle.depot_base.specs.declared.limits.TheConstants.{MOST_RECORDS, MOST_JOURNAL, MOST_FOREIGN_LEAVES}
use Rattle.depot_base.specs.declared.update.Update.{Update}
use Rattle.depot_base.specs.declared.record.Record.{Record}
use Rattle.depot_base.specs.declared.record.Record.TheVariants.{Foreign}
use Rattle.depot_base.specs.declared.check.Full.{Full}
use Rattle.depot_base.specs.declared.check.FullOf.TheVariants as full_of
use Rattle.depot_model.specs.lists.Lists.{when, first}
use Rattle.depot_model.specs.updates.History.{leaves_of}
use Rattle.depot_model.specs.journals.Journal.{accepted, update_in}
use Rattle.depot_model.specs.texts.Records.{journal_bytes}

-- the leaves of other writers
unfoldable pub foreign_leaves : ℕ → List Record → List Update
foreign_leaves me J = filter (λ t. not (t.writer == me)) (leaves_of (accepted J))

abbrev pub takes_update : Record → List Update
takes_update (Foreign s) = update_in s.statement
takes_update r = []

-- one of the records takes an update of another
abbrev pub take_an_update : List Record → Bool
take_an_update new = nat_lt 0 (length (flat_map takes_update new))

-- how many leaves of other writers count with these records after a journal: all that there are then, where one of the
-- records takes an update of another, and else none
abbrev pub leaves_counted : ℕ → List Record → List Record → Option ℕ
leaves_counted me J new = when (take_an_update new) (length (foreign_leaves me (J ++ new)))

-- the limit of leaves, where this many count then, with the number now
abbrev pub leaves_passed : ℕ → Option ℕ → Option Full
leaves_passed leaves None = None
leaves_passed leaves (Some leaves_then) = when (nat_lt MOST_FOREIGN_LEAVES leaves_then) (record { what = full_of.Writers; number = leaves })

-- The first limit that is passed, of records, bytes and leaves of other writers, where a journal has these numbers of
-- them now and will have those; with the number now. None where all are kept.
abbrev pub limit_passed : ℕ → ℕ → ℕ → ℕ → ℕ → Option ℕ → Option Full
limit_passed records bytes leaves records_then bytes_then leaves_then = first (
    when (nat_lt MOST_RECORDS records_then) (record { what = full_of.Records; number = records }) ∷
    when (nat_lt MOST_JOURNAL bytes_then) (record { what = full_of.Bytes; number = bytes }) ∷
    leaves_passed leaves leaves_then ∷ [])

-- the limit that a journal would pass with these records after it; none where there is room
unfoldable pub full_with : ℕ → List Record → List Record → Option Full
full_with me J new = limit_passed (length J) (journal_bytes J) (length (foreign_leaves me J)) (length (J ++ new)) (journal_bytes (J ++ new)) (leaves_counted me J new)

-- the same for what a call appends: where that is nothing, no limit is passed
abbrev pub full_by : ℕ → List Record → List Record → Option Full
full_by me J [] = None
full_by me J (r ∷ rs) = full_with me J (r ∷ rs)

-- there is room for these records
abbrev pub HasRoom : ℕ → List Record → List Record → Type 0
HasRoom me J new = full_with me J new ≡ None
