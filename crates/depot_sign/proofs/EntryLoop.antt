-- Reading the entries of a roster one after another, as a loop does.
use Rattle.std.proofs.Common.{◌≡◌, ℕ, suc, ◌-◌, ◌+◌, ◌<◌, List, [], ◌∷◌, ◌++◌, Option, Some, None, Result, Ok, Err, refl, sym, ◌∙◌, arith}
use Rattle.depot_base.specs.Cursor.{Cursor}
use Rattle.depot_base.specs.Reading.{Reads}
use Rattle.depot_base.specs.declared.fault.Fault.{Fault}
use Rattle.depot_base.specs.declared.fault.Fault.TheVariants as fault
use Rattle.depot_base.specs.declared.key.RosterEntry.{RosterEntry}
use Rattle.depot_base.specs.Format.{last_of}
use Rattle.depot_base.specs.Parts.{roster_entry}
use Rattle.depot_base.proofs.Loop.{failing}
use Rattle.depot_sign.specs.declared.text.RosterStop.{RosterStop}
use Rattle.depot_sign.specs.declared.text.RosterStop.TheVariants as stop
use Rattle.depot_sign.specs.RosterReading.{stop_of, entry_placed, unless_stopped, entries_or_stop, ReadsOrStops}
use Rattle.depot_sign.proofs.ReaderStops.{after_good}

abbrev Read : Type 0
Read = Result (List RosterEntry × Cursor) RosterStop

abbrev stopping : RosterStop → Result (List RosterEntry) RosterStop
stopping s = Err s

-- an entry may be there, or why it may not
abbrev pub IsPlaced : List RosterEntry → RosterEntry → ℕ → Option RosterStop → Type 0
IsPlaced front e at o = (next : Read) → entry_placed (last_of front) e at next ≡ unless_stopped o next

-- one entry more
entry_read : (count i : ℕ) (front : List RosterEntry) (c : Cursor) (e : RosterEntry) (d : Cursor) (o : Option RosterStop) → i < count → roster_entry.read c ≡ Ok (e, d) → IsPlaced front e c.at o
    → entries_or_stop (count - i) front c ≡ unless_stopped o (entries_or_stop (count - (i + 1)) (front ++ e ∷ []) d)
entry_read count i front c e d o lt read place =
    let k : count - i ≡ suc (count - (i + 1)) = omega arith in
    rw k (after_good _ _ _ read ∙ place (entries_or_stop (count - (i + 1)) (front ++ e ∷ []) d))

pub goes_on : (count i : ℕ) (front : List RosterEntry) (c : Cursor) (e : RosterEntry) (d : Cursor) (total : Read) → i < count → roster_entry.read c ≡ Ok (e, d) → IsPlaced front e c.at None
    → entries_or_stop (count - i) front c ≡ total → entries_or_stop (count - (i + 1)) (front ++ e ∷ []) d ≡ total
goes_on count i front c e d total lt read place so_far = sym (entry_read count i front c e d None lt read place) ∙ so_far

stop_told : (s : RosterStop) (total : Read) (after : Cursor) → total ≡ Err s → ReadsOrStops (stopping s) after total
stop_told stop.Memory total after is = tt
stop_told (stop.At at) total after is = is
stop_told (stop.TooMany count) total after is = is
stop_told (stop.Twice node) total after is = is

pub refused : (count i : ℕ) (front : List RosterEntry) (c : Cursor) (e : RosterEntry) (d : Cursor) (s : RosterStop) (total : Read) (after : Cursor) → i < count → roster_entry.read c ≡ Ok (e, d) → IsPlaced front e c.at (Some s)
    → entries_or_stop (count - i) front c ≡ total → ReadsOrStops (stopping s) after total
refused count i front c e d s total after lt read place so_far = stop_told s total after (sym so_far ∙ entry_read count i front c e d (Some s) lt read place)

pub failed : (count i : ℕ) (front : List RosterEntry) (c : Cursor) (f : Fault) (total : Read) (after : Cursor) → i < count → Reads (failing {V = RosterEntry} f) after (roster_entry.read c)
    → entries_or_stop (count - i) front c ≡ total → ReadsOrStops (stopping (stop_of f)) after total
failed count i front c fault.Memory total after lt read so_far = tt
failed count i front c (fault.At at) total after lt read so_far =
    let k : count - i ≡ suc (count - (i + 1)) = omega arith in
    let one : entries_or_stop (count - i) front c ≡ Err (stop.At at) = rw (k, read) refl in
    sym so_far ∙ one
