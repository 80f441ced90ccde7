-- The events of a load fit after those before them.
use Rattle.std.proofs.Common.{◌≡◌, ℕ, zero, suc, ◌^◌, ◌<◌, ◌≤◌, true, List, [], ◌∷◌, ◌++◌, Option, Some, None, refl, arith, append_assoc}
use Rattle.std.specs.Int.{w16, w32}
use Rattle.std.proofs.lemmas.Bool.{lt-ltb}
use Rattle.std.proofs.lemmas.List.{append-nil}
use Rattle.depot_base.specs.Cursor.{numeral}
use Rattle.depot_model.specs.readers.Checkpoints.{is_checkpoint_key}
use Rattle.depot_model.specs.worlds.Receipts.{receipt_of}
use Rattle.depot_schedule.specs.declared.event.Event.{Event}
use Rattle.depot_schedule.specs.declared.event.Event.TheVariants.{Put, Get, Hello, Bundle, Give, Restart, Update}
use Rattle.depot_schedule.specs.declared.event.HistoryWord.TheVariants.{Right}
use Rattle.depot_schedule.specs.EventLines.{put_line, get_line, hello_line, bundle_line, give_line, restart_line, update_line}
use Rattle.depot_lines.specs.Spelling.{is_letter}
use Rattle.depot_schedule.specs.EventWords.{correct, new_label, made_label, is_correct, named_by}
use Rattle.depot_lines.specs.Vocabulary.{key, put_key, value}
use Rattle.depot_schedule.specs.Schedules.{FitsEvent, FitEvents}
use Rattle.depot_world.proofs.of_bytes.OnlyBytes.{by_places, only_numeral}
use Rattle.depot_world.specs.Loads.{load_key, value_of, label_of, members, faulty_node, schedule_with, round_update}
use Rattle.depot_world.proofs.of_loads.Fresh.{NamesBytes}
use Rattle.depot_world.proofs.of_loads.WordLaws.{is_label_of}

-- ---- one event more

pub fits-more : (front es : List Event) (e : Event) → FitEvents (schedule_with front) es → FitsEvent (schedule_with (front ++ es)) e → FitEvents (schedule_with front) (es ++ e ∷ [])
fits-more front [] e fits one = (rw append-nil at one, tt)
fits-more front (x ∷ es) e fits one =
    let further : FitsEvent (schedule_with ((front ++ x ∷ []) ++ es)) e = rw append_assoc one in
    (fits.0, fits-more (front ++ x ∷ []) es e fits.1 further)

-- ---- words

-- the nodes 1 to 5 are declared
is_declared : (v : ℕ) → 1 ≤ v → v ≤ 5 → is_correct members v ≡ true
is_declared zero low high = absurd (omega arith)
is_declared (suc zero) low high = refl
is_declared (suc (suc zero)) low high = refl
is_declared (suc (suc (suc zero))) low high = refl
is_declared (suc (suc (suc (suc zero)))) low high = refl
is_declared (suc (suc (suc (suc (suc zero))))) low high = refl
is_declared (suc (suc (suc (suc (suc (suc v)))))) low high = absurd (omega arith)

abbrev pub IsCorrect : ℕ → Type 0
IsCorrect v = (1 ≤ v) × (v ≤ 5)

node-fits : (es : List Event) (v : ℕ) → IsCorrect v → correct.fits (schedule_with es) v
node-fits es v is = ((is.0, omega (arith, is.1)), is_declared v is.0 is.1)

key-fits : (es : List Event) (n : ℕ) → key.fits (schedule_with es) (load_key n)
unfolding numeral
key-fits es n = (refl, by_places (numeral w16 n) (only_numeral w16 n))

-- it has neither a receipt's form nor a checkpoint's
put-key-fits : (es : List Event) (n : ℕ) → put_key.fits (schedule_with es) (load_key n)
unfolding numeral receipt_of is_checkpoint_key
put-key-fits es n = (key-fits es n, refl)

value-fits : (es : List Event) (t : ℕ) → value.fits (schedule_with es) (value_of t)
unfolding numeral
value-fits es t = (refl, by_places (numeral w32 t) (only_numeral w32 t))

new-fits : (es : List Event) (c n : ℕ) → is_letter c ≡ true → n < 2 ^ 32 → named_by es (label_of c n) ≡ None → new_label.fits (schedule_with es) (label_of c n)
new-fits es c n letter small none = (is_label_of c n letter small, rw none refl)

made-fits : (es : List Event) (c n : ℕ) → is_letter c ≡ true → n < 2 ^ 32 → NamesBytes es (label_of c n) → made_label.fits (schedule_with es) (label_of c n)
made-fits es c n letter small names = (is_label_of c n letter small, names)

-- ---- events

pub put-fits : (es : List Event) (v n t : ℕ) → IsCorrect v → FitsEvent (schedule_with es) (Put v (load_key n) (value_of t))
unfolding put_line
put-fits es v n t node = (node-fits es v node, (put-key-fits es n, (value-fits es t, refl)))

pub get-fits : (es : List Event) (v n : ℕ) → IsCorrect v → FitsEvent (schedule_with es) (Get v (load_key n))
unfolding get_line
get-fits es v n node = (node-fits es v node, (key-fits es n, refl))

pub restart-fits : (es : List Event) (v : ℕ) → IsCorrect v → FitsEvent (schedule_with es) (Restart v)
unfolding restart_line
restart-fits es v node = (node-fits es v node, refl)

pub hello-fits : (es : List Event) (v c n : ℕ) → is_letter c ≡ true → n < 2 ^ 32 → IsCorrect v → named_by es (label_of c n) ≡ None → FitsEvent (schedule_with es) (Hello v (label_of c n))
unfolding hello_line
hello-fits es v c n letter small node none = (node-fits es v node, (new-fits es c n letter small none, refl))

pub bundle-fits : (es : List Event) (v c d n : ℕ) → is_letter c ≡ true → is_letter d ≡ true → n < 2 ^ 32 → IsCorrect v
    → NamesBytes es (label_of c n) → named_by es (label_of d n) ≡ None → FitsEvent (schedule_with es) (Bundle v (label_of c n) (label_of d n))
unfolding bundle_line
bundle-fits es v c d n one two small node names none = (node-fits es v node, (made-fits es c n one small names, (new-fits es d n two small none, refl)))

-- whole, or in pieces of some bytes
abbrev pub IsSize : Option ℕ → Type 0
IsSize None = Unit {0}
IsSize (Some size) = (1 ≤ size) × (size ≤ 1000000)

pub give-fits : (es : List Event) (v c n : ℕ) (size : Option ℕ) → is_letter c ≡ true → n < 2 ^ 32 → IsCorrect v → IsSize size → NamesBytes es (label_of c n) → FitsEvent (schedule_with es) (Give v (label_of c n) size)
unfolding give_line
give-fits es v c n None letter small node fits names = (node-fits es v node, (made-fits es c n letter small names, (tt, refl)))
give-fits es v c n (Some size) letter small node fits names = (node-fits es v node, (made-fits es c n letter small names, (fits, refl)))

pub update-fits : (es : List Event) (t q n : ℕ) → t < 2 ^ 32 → q < 4096 → named_by es (round_update t) ≡ None
    → FitsEvent (schedule_with es) (Update (round_update t) faulty_node q 1 None (load_key n) (value_of t) [] Right)
unfolding update_line
update-fits es t q n small few none =
    (new-fits es 102 t refl small none, (((omega arith, omega arith), refl), (((omega arith, omega arith), lt-ltb q 4096 few), ((omega arith, omega arith), (tt, (key-fits es n, (value-fits es t, (tt, (tt, refl)))))))))
