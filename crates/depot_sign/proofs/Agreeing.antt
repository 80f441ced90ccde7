-- The reader of a roster agrees with the roster's format: it stops exactly where the format goes wrong.
use Rattle.std.proofs.Common.{◌≡◌, ℕ, zero, suc, ◌+◌, ◌<◌, Bool, true, false, cond, eqb, leb, ltb, List, [], ◌∷◌, ◌++◌, length, take, Option, Some, None, Result, Ok, Err, refl, arith, inl, inr}
use Rattle.std.specs.Int.{w16, from_be_bytes, is_in_range}
use Rattle.std.proofs.lemmas.Bool.{eq-eqb, ne_eqb, lt-leb, lt-ltb, le-ltb, cases_lt, and_right}
use Rattle.depot_base.specs.Cursor.{Cursor, advanced}
use Rattle.depot_base.specs.Format.{◌>>=◌, number, constant, list_of, last_of, read_entries, whole}
use Rattle.depot_base.specs.Parts.{roster_entry, roster_entry_rises}
use Rattle.depot_base.specs.declared.key.RosterEntry.{RosterEntry}
use Rattle.depot_model.specs.texts.Texts.{roster}
use Rattle.depot_base.proofs.Numbers.{is_in}
use Rattle.depot_sign.specs.declared.text.RosterStop.{RosterStop}
use Rattle.depot_sign.specs.declared.text.RosterStop.TheVariants as stop
use Rattle.depot_sign.specs.RosterReading.{after_field, after_part, checked_count, count_or_stop, entry_placed, entries_or_stop, roster_or_stop, whole_or_stop}

-- what the reader answers, beside what the format's reading gives
abbrev pub Agrees : {V : Type 0} → Result V RosterStop → Result V ℕ → Type 0
Agrees (Ok v) read = read ≡ Ok v
Agrees (Err stop.Memory) read = ⊥
Agrees (Err (stop.At at)) read = read ≡ Err at
Agrees (Err (stop.TooMany count)) read = (at : ℕ) × (read ≡ Err at)
Agrees (Err (stop.Twice node)) read = (at : ℕ) × (read ≡ Err at)

agree_field : {A B : Type 0} (r : Result A ℕ) (f : A → Result B RosterStop) (g : A → Result B ℕ) → ((x : A) → Agrees (f x) (g x)) → Agrees (after_field r f) (r >>= g)
agree_field (Ok x) f g h = h x
agree_field (Err at) f g h = refl

agree_part : {A B : Type 0} (r : Result A RosterStop) (q : Result A ℕ) (f : A → Result B RosterStop) (g : A → Result B ℕ) → Agrees r q → ((x : A) → Agrees (f x) (g x)) → Agrees (after_part r f) (q >>= g)
agree_part (Ok x) q f g a h = rw a (h x)
agree_part (Err stop.Memory) q f g a h = absurd a
agree_part (Err (stop.At at)) q f g a h = rw a refl
agree_part (Err (stop.TooMany count)) q f g a h = (a.0, rw a.1 refl)
agree_part (Err (stop.Twice node)) q f g a h = (a.0, rw a.1 refl)

-- ---- the count

over : (low high n : ℕ) → high < n → is_in_range low high n ≡ false
over low high n great = and_right (leb low n) (leb n high) (lt-leb n high great)

count_agrees : (short : Bool) (n at : ℕ) (d : Cursor)
    → Agrees (after_field (cond short (Err at) (cond (is_in_range 0 65535 n) (Ok (n, d)) (Err at))) (λ x. checked_count at x)) (cond short (Err at) (cond (is_in_range 1 256 n) (Ok (n, d)) (Err at)))
count_agrees true n at d = refl
count_agrees false n at d =
    elim (cases_lt 256 n) [
      | inl great ↦ elim (cases_lt 65535 n) [
        | inl beyond ↦ rw (over 0 65535 n beyond, over 1 256 n great) refl
        | inr within ↦ rw (is_in 0 65535 n (omega arith) within, over 1 256 n great, lt-ltb 256 n great) (at, refl)
      ]
      | inr small ↦ elim (cases_lt 0 n) [
        | inl some ↦ rw (is_in 0 65535 n (omega arith) (omega arith), is_in 1 256 n (omega arith) small, le-ltb 256 n small, ne_eqb n 0 (λ e. omega arith)) refl
        | inr none ↦ let zero : n ≡ 0 = omega arith in rw zero refl
      ]
    ]

agree_count : (c : Cursor) → Agrees (count_or_stop c) ((number w16 1 256).read c)
unfolding number count_or_stop
agree_count c = count_agrees (ltb (length c.rest) 2) (from_be_bytes w16 (take 2 c.rest)) c.at (advanced 2 c)

-- ---- the entries

agree_placed : {B : Type 0} (before : Option RosterEntry) (e : RosterEntry) (at : ℕ) (next : Result B RosterStop) (more : Result B ℕ) → Agrees next more → Agrees (entry_placed before e at next) (cond (roster_entry_rises before e) more (Err at))
agree_placed None e at next more a = a
agree_placed (Some before) e at next more a =
    elim (cases_lt before.node e.node) [
      | inl below ↦ rw (ne_eqb before.node e.node (λ same. omega arith), lt-ltb before.node e.node below) a
      | inr le ↦ elim (cases_lt e.node before.node) [
        | inl above ↦ rw (ne_eqb before.node e.node (λ same. omega arith), le-ltb before.node e.node le) refl
        | inr ge ↦ let same : before.node ≡ e.node = omega arith in rw (eq-eqb before.node e.node same, le-ltb before.node e.node le) (at, refl)
      ]
    ]

agree_entries : (n : ℕ) (front : List RosterEntry) (c : Cursor) → Agrees (entries_or_stop n front c) (read_entries roster_entry.read roster_entry_rises n front c)
agree_entries zero front c = refl
agree_entries (suc n) front c = agree_field (roster_entry.read c) _ _ (λ x. agree_placed (last_of front) x.0 c.at _ _ (agree_entries n (front ++ x.0 ∷ []) x.1))

-- ---- the whole

agree_made : {V : Type 0} (r : Result (V × Cursor) RosterStop) (q : Result (V × Cursor) ℕ) → Agrees r q → Agrees r (q >>= λ x. Ok (x.0, x.1))
agree_made (Ok x) q a = rw a refl
agree_made (Err stop.Memory) q a = absurd a
agree_made (Err (stop.At at)) q a = rw a refl
agree_made (Err (stop.TooMany count)) q a = (a.0, rw a.1 refl)
agree_made (Err (stop.Twice node)) q a = (a.0, rw a.1 refl)

agree_roster : (c : Cursor) → Agrees (roster_or_stop c) (roster.read c)
unfolding roster roster_or_stop list_of
agree_roster c =
    agree_field ((constant 1).read c) _ _ λ version.
    agree_field ((constant 4).read version.1) _ _ λ kind.
    agree_part (count_or_stop kind.1) ((number w16 1 256).read kind.1) _ _ (agree_count kind.1) λ count.
    agree_made (entries_or_stop count.0 [] count.1) (read_entries roster_entry.read roster_entry_rises count.0 [] count.1) (agree_entries count.0 [] count.1)

agree_end : {V : Type 0} (b : Bool) (v : V) (at : ℕ) → Agrees (cond b (Ok v) (Err (stop.At at))) (cond b (Ok v) (Err at))
agree_end true v at = refl
agree_end false v at = refl

pub agree : (c : Cursor) → Agrees (whole_or_stop c) (whole roster c)
agree c = agree_part (roster_or_stop c) (roster.read c) _ _ (agree_roster c) λ x. agree_end (eqb (length x.1.rest) 0) x.0 x.1.at
