-- The reader stops for a cause exactly where it is in the text, and no two causes are in one text.
use Rattle.std.proofs.Common.{◌≡◌, ℕ, ◌+◌, ◌<◌, ◌≤◌, List, [], ◌∷◌, ◌++◌, length, Option, Some, Result, Ok, Err, refl, sym, ap, subst, ◌∙◌, arith, inl, inr}
use Rattle.std.specs.Int.{w16}
use Rattle.std.specs.List.{flat_map}
use Rattle.std.proofs.lemmas.Bool.{lt-ltb, le-ltb, ne_eqb}
use Rattle.depot_base.specs.Cursor.{numeral}
use Rattle.depot_base.specs.Format.{number, whole, last_of, Follows, FirstFault}
use Rattle.depot_base.specs.Parts.{roster_entry, roster_entry_rises}
use Rattle.depot_base.specs.declared.key.RosterEntry.{RosterEntry}
use Rattle.depot_base.proofs.FormatLaws.{IsBytes, cursor, not_err}
use Rattle.depot_base.proofs.PartLaws.{u16_lawful}
use Rattle.depot_base.proofs.Combined.{whole_again, whole_faults, whole_stops}
use Rattle.depot_base.proofs.Decoding.{in_one_way}
use Rattle.depot_base.proofs.EntryLists.{last_pushed}
use Rattle.depot_model.specs.declared.roster_format.RosterError.{RosterError}
use Rattle.depot_model.specs.declared.roster_format.RosterError.TheVariants as error
use Rattle.depot_model.specs.texts.Texts.{IsRoster, text_of_roster, roster}
use Rattle.depot_model.specs.texts.RosterText.{HasGreatCount, RepeatsNode, GoesWrongAt, IsRefusedFor, AreReadInOneWay}
use Rattle.depot_model.proofs.of_texts.TextLaws.{roster_lawful}
use Rattle.depot_sign.specs.declared.text.RosterStop.{RosterStop}
use Rattle.depot_sign.specs.declared.text.RosterStop.TheVariants as stop
use Rattle.depot_sign.specs.RosterReading.{checked_count, count_or_stop, entries_or_stop, whole_or_stop}
use Rattle.depot_sign.proofs.RosterEntries.{ends}
use Rattle.depot_sign.proofs.Agreeing.{Agrees, agree}
use Rattle.depot_sign.proofs.ReaderStops.{IsNoField, after_good, part_is, headed, stops_behind, great_is, count_is, Repeats, repeats, stops_at_repeated}

-- ---- a cause stops the reader

count_fits : (low n : ℕ) → low < n + 1 → n < 65536 → (number w16 low 65535).fits n
unfolding number
count_fits low n above below = (omega arith, omega arith)

-- the count is read
read_count : (at n : ℕ) (rest : List ℕ) → n < 65536 → (number w16 0 65535).read (cursor at (numeral w16 n ++ rest)) ≡ Ok (n, cursor (at + 2) rest)
unfolding number numeral
read_count at n rest below = (u16_lawful 0 65535 (omega arith)).again at n rest (count_fits 0 n (omega arith) below)

great_stops : (text : List ℕ) (count : ℕ) → HasGreatCount text count → whole_or_stop (cursor 0 text) ≡ Err (stop.TooMany count)
unfolding count_or_stop
great_stops text count h =
    let bytes = numeral w16 count ++ h.rest in
    let told : count_or_stop (cursor 2 bytes) ≡ Err (stop.TooMany count) = after_good _ (λ x. checked_count 2 x) _ (read_count 2 count h.rest h.fits) ∙ rw (lt-ltb 256 count h.great) refl in
    rw h.parts (stops_behind bytes (stop.TooMany count) (rw told refl))

good_count : (at n : ℕ) (rest : List ℕ) → 0 < n → n < 257 → count_or_stop (cursor at (numeral w16 n ++ rest)) ≡ Ok (n, cursor (at + 2) rest)
unfolding count_or_stop
good_count at n rest some small =
    after_good _ (λ x. checked_count at x) _ (read_count at n rest (omega arith)) ∙ rw (le-ltb 256 n (omega arith), ne_eqb n 0 (λ e. omega arith)) refl

repeated_stops : (text : List ℕ) (node : ℕ) → RepeatsNode text node → whole_or_stop (cursor 0 text) ≡ Err (stop.Twice node)
repeated_stops text node h =
    let good = h.front ++ h.before ∷ [] in
    let behind = flat_map roster_entry.text good ++ (roster_entry.text h.again ++ h.rest) in
    let bytes = numeral w16 h.count ++ behind in
    let counted = good_count 2 h.count behind (omega (arith, h.fewer)) (omega (arith, h.limit)) in
    let twice : entries_or_stop h.count [] (cursor 4 behind) ≡ Err (stop.Twice h.again.node) =
    stops_at_repeated good [] h.count 4 h.rest h.before h.again h.fewer h.follow (last_pushed h.front h.before) (h.first ∙ sym h.second) h.fits in
    let named : entries_or_stop h.count [] (cursor 4 behind) ≡ Err (stop.Twice node) = twice ∙ ap (λ (n : ℕ). Err (stop.Twice n)) h.second in
    rw h.parts (stops_behind bytes (stop.Twice node) (rw counted named))

-- ---- the reader stops for a cause

-- what a stop other than at a field means
abbrev pub IsCause : List ℕ → RosterStop → Type 0
IsCause text stop.Memory = ⊥
IsCause text (stop.At at) = ⊥
IsCause text (stop.TooMany count) = HasGreatCount text count
IsCause text (stop.Twice node) = RepeatsNode text node

some_last : (es : List RosterEntry) (e : RosterEntry) → last_of es ≡ Some e → 1 ≤ length es
some_last [] e is = absurd cc
some_last (d ∷ es) e is = omega arith

abbrev some : RosterEntry → Option RosterEntry
some e = Some e

some_is : (d e : RosterEntry) → some d ≡ some e → d ≡ e
some_is d e is = cc

-- good entries, and then one that names the node of the last of them
node_stands : (text : List ℕ) (count : ℕ) (bytes : List ℕ) (s : RosterStop) → text ≡ 1 ∷ 4 ∷ (numeral w16 count ++ bytes) → count ≤ 256 → Repeats count [] bytes s → IsCause text s
node_stands text count bytes s parts limit r =
    let d = ends r.more (some_last r.more r.before r.last) in
    let last : d.last ≡ r.before = some_is d.last r.before (sym (last_pushed d.front d.last) ∙ sym (ap (λ (es : List RosterEntry). last_of es) d.is) ∙ r.last) in
    let P : List RosterEntry → Type 0 =
    λ es. (text ≡ 1 ∷ 4 ∷ (numeral w16 count ++ (flat_map roster_entry.text es ++ (roster_entry.text r.again ++ r.rest)))) × (length es < count) × Follows roster_entry roster_entry_rises [] es in
    let good : P r.more = (parts ∙ ap (λ (l : List ℕ). 1 ∷ 4 ∷ (numeral w16 count ++ l)) r.parts, r.fewer, r.follow) in
    let split : P (d.front ++ d.last ∷ []) = subst P d.is good in
    let stands : RepeatsNode text r.again.node = record {
      count = count;
      front = d.front;
      before = d.last;
      again = r.again;
      rest = r.rest;
      parts = split.0;
      limit = limit;
      fewer = split.1;
      follow = split.2;
      fits = r.fits;
      first = ap (λ (e : RosterEntry). e.node) last ∙ r.same;
      second = refl;
    } in
    subst (λ (t : RosterStop). IsCause text t) (sym r.is) stands

-- a stop other than at a field has its cause
pub cause_of_stop : (text : List ℕ) (s : RosterStop) → IsBytes text → IsNoField s → whole_or_stop (cursor 0 text) ≡ Err s → IsCause text s
cause_of_stop text s bytes other e =
    let h = headed text s bytes other e in
    elim (part_is (count_or_stop h.c) (λ count. entries_or_stop count.0 [] count.1) s h.stopped) [
      | inl p ↦
          let g = great_is h.c s h.fits other p in
          let stands : HasGreatCount text g.count = record { rest = g.rest; parts = h.parts ∙ ap (λ (l : List ℕ). 1 ∷ 4 ∷ l) g.parts; fits = g.fits; great = g.great } in
          subst (λ (t : RosterStop). IsCause text t) (sym g.is) stands
      | inr q ↦
          let k = count_is h.c q.0.0 q.0.1 h.fits q.1 in
          let r = repeats q.0.0 [] q.0.1 s k.fits other q.2 in
          node_stands text q.0.0 q.0.1.rest s (h.parts ∙ ap (λ (l : List ℕ). 1 ∷ 4 ∷ l) k.parts) k.limit r
    ]

abbrev pub stopped : RosterStop → Result (List RosterEntry) RosterStop
stopped s = Err s

pub same_stop : (s t : RosterStop) → stopped s ≡ stopped t → s ≡ t
same_stop s t e = cc

-- where it stops at a field, the text goes wrong there
pub wrong_at : (text : List ℕ) (at : ℕ) → IsBytes text → whole_or_stop (cursor 0 text) ≡ Err (stop.At at) → GoesWrongAt text at
wrong_at text at bytes e =
    let read : whole roster (cursor 0 text) ≡ Err at = subst (λ (x : Result (List RosterEntry) RosterStop). Agrees x (whole roster (cursor 0 text))) e (agree (cursor 0 text)) in
    let w = whole_faults roster 8964 roster_lawful (cursor 0 text) at bytes read in
    record {
      fault = subst (λ (n : ℕ). FirstFault roster text n) (omega (arith, w.place)) w.fault;
      no_count = λ count h. let p = same_stop (stop.TooMany count) (stop.At at) (sym (great_stops text count h) ∙ e) in absurd cc;
      no_node = λ node h. let p = same_stop (stop.Twice node) (stop.At at) (sym (repeated_stops text node h) ∙ e) in absurd cc;
    }

-- ---- the law

-- a text that is refused is read as none
pub refused_is_unread : (text : List ℕ) (e : RosterError) → IsRefusedFor text e → (at : ℕ) × (whole roster (cursor 0 text) ≡ Err at)
refused_is_unread text error.Memory c = absurd c
refused_is_unread text (error.IllFormed at) c = (0 + at, whole_stops roster 8964 roster_lawful 0 text at c.fault)
refused_is_unread text (error.TwiceNode node) c = subst (λ (x : Result (List RosterEntry) RosterStop). Agrees x (whole roster (cursor 0 text))) (repeated_stops text node c) (agree (cursor 0 text))
refused_is_unread text (error.TooMany count) c = subst (λ (x : Result (List RosterEntry) RosterStop). Agrees x (whole roster (cursor 0 text))) (great_stops text count c) (agree (cursor 0 text))

-- so it is no roster's
pub refused_is_none : (text : List ℕ) (r : List RosterEntry) (e : RosterError) → IsRoster r → text ≡ text_of_roster r → IsRefusedFor text e → ⊥
refused_is_none text r e fits is c =
    let u = refused_is_unread text e c in
    let again : whole roster (cursor 0 text) ≡ Ok r = rw is (whole_again roster 8964 roster_lawful 0 r fits) in
    not_err r u.0 (sym again ∙ u.1)

pub one_cause : (text : List ℕ) (e f : RosterError) → IsRefusedFor text e → IsRefusedFor text f → e ≡ f
one_cause text error.Memory f c d = absurd c
one_cause text e error.Memory c d = absurd d
one_cause text (error.IllFormed a) (error.IllFormed b) c d = ap (λ (n : ℕ). error.IllFormed n) ((in_one_way roster 8964 roster_lawful).place text a b c.fault d.fault)
one_cause text (error.IllFormed a) (error.TwiceNode node) c d = absurd (c.no_node node d)
one_cause text (error.IllFormed a) (error.TooMany count) c d = absurd (c.no_count count d)
one_cause text (error.TwiceNode node) (error.IllFormed b) c d = absurd (d.no_node node c)
one_cause text (error.TwiceNode m) (error.TwiceNode n) c d = let p = same_stop (stop.Twice m) (stop.Twice n) (sym (repeated_stops text m c) ∙ repeated_stops text n d) in let q : m ≡ n = cc in ap (λ (k : ℕ). error.TwiceNode k) q
one_cause text (error.TwiceNode m) (error.TooMany n) c d = let p = same_stop (stop.Twice m) (stop.TooMany n) (sym (repeated_stops text m c) ∙ great_stops text n d) in absurd cc
one_cause text (error.TooMany count) (error.IllFormed b) c d = absurd (d.no_count count c)
one_cause text (error.TooMany m) (error.TwiceNode n) c d = let p = same_stop (stop.TooMany m) (stop.Twice n) (sym (great_stops text m c) ∙ repeated_stops text n d) in absurd cc
one_cause text (error.TooMany m) (error.TooMany n) c d = let p = same_stop (stop.TooMany m) (stop.TooMany n) (sym (great_stops text m c) ∙ great_stops text n d) in let q : m ≡ n = cc in ap (λ (k : ℕ). error.TooMany k) q

pub read_in_one_way : AreReadInOneWay
read_in_one_way = record {
  value = (in_one_way roster 8964 roster_lawful).value;
  good = λ r e fits c. refused_is_none (text_of_roster r) r e fits refl c;
  cause = one_cause;
}
