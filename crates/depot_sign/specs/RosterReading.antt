-- What the reader of a roster answers, field by field: a roster, or why it stops.
use Rattle.std.specs.Prelude.{◌≡◌, ℕ, zero, suc, ◌^◌, ◌<◌, List, [], ◌∷◌, ◌++◌, length, Option, Some, None, Result, Ok, Err, nat_lt, ◌==◌, if◌then◌else◌}
use Rattle.std.specs.Int.{w16}
use Rattle.depot_base.specs.declared.limits.TheConstants.{MOST_NODES}
use Rattle.depot_base.specs.Cursor.{Cursor}
use Rattle.depot_base.specs.Format.{number, constant, last_of}
use Rattle.depot_base.specs.Parts.{roster_entry}
use Rattle.depot_base.specs.declared.fault.Fault.{Fault}
use Rattle.depot_base.specs.declared.fault.Fault.TheVariants as fault
use Rattle.depot_base.specs.declared.key.RosterEntry.{RosterEntry}
use Rattle.depot_model.specs.declared.roster_format.RosterError.{RosterError}
use Rattle.depot_model.specs.declared.roster_format.RosterError.TheVariants as error
use Rattle.depot_sign.specs.declared.text.RosterStop.{RosterStop}
use Rattle.depot_sign.specs.declared.text.RosterStop.TheVariants as stop

-- a field's fault stops the reader
abbrev pub stop_of : Fault → RosterStop
stop_of fault.Memory = stop.Memory
stop_of (fault.At at) = stop.At at

-- what the caller gets of a stop
abbrev pub error_of : RosterStop → RosterError
error_of stop.Memory = error.Memory
error_of (stop.At at) = error.IllFormed at
error_of (stop.TooMany count) = error.TooMany count
error_of (stop.Twice node) = error.TwiceNode node

-- the offset of a stop is early enough to be reported as a u32
abbrev pub IsEarlyStop : RosterStop → Type 0
IsEarlyStop stop.Memory = Unit {0}
IsEarlyStop (stop.At at) = at < 2 ^ 32
IsEarlyStop (stop.TooMany count) = Unit {0}
IsEarlyStop (stop.Twice node) = Unit {0}

-- what follows a field that was read
abbrev pub after_field : {A B : Type 0} → Result A ℕ → (A → Result B RosterStop) → Result B RosterStop
after_field (Ok x) f = f x
after_field (Err at) f = Err (stop.At at)

-- what follows a part that was read
abbrev pub after_part : {A B : Type 0} → Result A RosterStop → (A → Result B RosterStop) → Result B RosterStop
after_part (Ok x) f = f x
after_part (Err s) f = Err s

-- a count from 1 to 256; a greater one is reported
abbrev pub checked_count : ℕ → (ℕ × Cursor) → Result (ℕ × Cursor) RosterStop
checked_count at x = if nat_lt MOST_NODES x.0 then Err (stop.TooMany x.0) else if x.0 == 0 then Err (stop.At at) else Ok x

unfoldable pub count_or_stop : Cursor → Result (ℕ × Cursor) RosterStop
count_or_stop c = after_field ((number w16 0 65535).read c) λ x. checked_count c.at x

-- an entry rises above the one before it; one that names its node is reported
abbrev pub entry_placed : {B : Type 0} → Option RosterEntry → RosterEntry → ℕ → Result B RosterStop → Result B RosterStop
entry_placed None e at next = next
entry_placed (Some before) e at next = if before.node == e.node then Err (stop.Twice e.node) else if nat_lt before.node e.node then next else Err (stop.At at)

-- what follows where nothing stops the reader
abbrev pub unless_stopped : {B : Type 0} → Option RosterStop → Result B RosterStop → Result B RosterStop
unless_stopped None next = next
unless_stopped (Some s) next = Err s

-- n more entries after front
abbrev pub entries_or_stop : ℕ → List RosterEntry → Cursor → Result (List RosterEntry × Cursor) RosterStop
entries_or_stop zero front c = Ok (front, c)
entries_or_stop (suc n) front c = after_field (roster_entry.read c) λ x. entry_placed (last_of front) x.0 c.at (entries_or_stop n (front ++ x.0 ∷ []) x.1)

-- a roster
unfoldable pub roster_or_stop : Cursor → Result (List RosterEntry × Cursor) RosterStop
roster_or_stop c =
    after_field ((constant 1).read c) λ version.
    after_field ((constant 4).read version.1) λ kind.
    after_part (count_or_stop kind.1) λ count.
    entries_or_stop count.0 [] count.1

-- a roster, of all the bytes
abbrev pub whole_or_stop : Cursor → Result (List RosterEntry) RosterStop
whole_or_stop c = after_part (roster_or_stop c) λ x. if length x.1.rest == 0 then Ok x.0 else Err (stop.At x.1.at)

-- what a function returned is what reading gives, unless memory ran out
abbrev pub ReadsOrStops : {V : Type 0} → Result V RosterStop → Cursor → Result (V × Cursor) RosterStop → Type 0
ReadsOrStops (Ok v) after read = read ≡ Ok (v, after)
ReadsOrStops (Err stop.Memory) after read = Unit {0}
ReadsOrStops (Err (stop.At at)) after read = read ≡ Err (stop.At at)
ReadsOrStops (Err (stop.TooMany count)) after read = read ≡ Err (stop.TooMany count)
ReadsOrStops (Err (stop.Twice node)) after read = read ≡ Err (stop.Twice node)

-- the same for all the bytes
abbrev pub GivesOrStops : {V : Type 0} → Result V RosterStop → Result V RosterStop → Type 0
GivesOrStops (Ok v) read = read ≡ Ok v
GivesOrStops (Err stop.Memory) read = Unit {0}
GivesOrStops (Err (stop.At at)) read = read ≡ Err (stop.At at)
GivesOrStops (Err (stop.TooMany count)) read = read ≡ Err (stop.TooMany count)
GivesOrStops (Err (stop.Twice node)) read = read ≡ Err (stop.Twice node)
