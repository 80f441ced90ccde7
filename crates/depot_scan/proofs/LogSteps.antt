-- Steps of reading a log.
use Rattle.std.proofs.Common.{◌≡◌, ℕ, ◌+◌, ◌<◌, ◌≤◌, List, [], ◌∷◌, ◌++◌, length, take, drop, Some, None, Result, Ok, Err, refl, sym, ap, subst, ◌∙◌, append_assoc, arith, inl, inr}
use Rattle.std.specs.Borrow.{Bor}
use Rattle.std.specs.List.{AllByRecursion}
use Rattle.std.specs.Int.{w32, from_be_bytes}
use Rattle.std.proofs.lemmas.List.{take-append-drop, length-take, length-append, length-drop, append-nil}
use Rattle.depot_base.specs.Cursor.{Cursor, numeral}
use Rattle.depot_base.specs.Format.{FirstFault}
use Rattle.depot_base.specs.Reading.{TakesNumber, TakesBytes, Decodes}
use Rattle.depot_base.specs.declared.fault.DecodeError.{DecodeError}
use Rattle.depot_base.specs.declared.fault.DecodeError.TheVariants as errors
use Rattle.depot_base.specs.declared.fault.Fault.{Fault}
use Rattle.depot_base.specs.declared.fault.Fault.TheVariants.{Memory, At}
use Rattle.depot_base.specs.declared.update.Update.{Update}
use Rattle.depot_base.proofs.FormatLaws.{IsBytes, IsBytes-take, cursor}
use Rattle.depot_base.proofs.Numbers.{wide32}
use Rattle.depot_model.specs.texts.Texts.{IsUpdate, text_of_update, update_body}
use Rattle.depot_model.specs.texts.Log.{text_of_log, IsLog, GoesWrong, IsLogFault}
use Rattle.depot_model.proofs.of_texts.LogLaws.{told, front, log-push, one_log, log_has_no_fault, one_log_fault}
use Rattle.depot_model.proofs.lists.Members.{all_push}
use Rattle.depot_scan.specs.ScannedLog.{fault_of, ReadsFront, ReadsLog}
use Rattle.depot_scan.specs.declared.body.Body.{Body}

-- ---- the leading body

abbrev pub failing : Fault → Result (Body × Bor (List ℕ)) Fault
failing f = Err f

abbrev refused : DecodeError → Result Update DecodeError
refused e = Err e

abbrev given : Update → Result Update DecodeError
given u = Ok u

-- the leading length, reported again
told_again : (bytes : List ℕ) → IsBytes bytes → 4 ≤ length bytes → numeral w32 (told bytes) ≡ take 4 bytes
unfolding numeral
told_again bytes fits long = wide32.back (take 4 bytes) (omega (arith, length-take 4 bytes)) (IsBytes-take 4 bytes fits)

-- the leading length is cut short
pub front_cut : (bytes : List ℕ) (at : ℕ) (c d : Cursor) → c ≡ cursor 0 bytes → 0 < length bytes → TakesNumber w32 c None d → ReadsFront bytes at (failing (At at))
front_cut bytes at c d start some t = (0, (omega arith, inl (refl, inl (some, omega (arith, t.0, ap (λ (x : Cursor). length x.rest) start)))))

-- the leading length was taken, and what is left
record Told (bytes : List ℕ) (n : ℕ) (d : Cursor) : Type 0 where
  pub long : 4 ≤ length bytes
  pub is : n ≡ told bytes
  pub rest : d.rest ≡ drop 4 bytes

taken : (bytes : List ℕ) (c d : Cursor) (n : ℕ) → c ≡ cursor 0 bytes → TakesNumber w32 c (Some n) d → Told bytes n d
taken bytes c d n start t =
    let all : c.rest ≡ bytes = ap (λ (x : Cursor). x.rest) start in
    record {
      long = omega (arith, t.0, ap length all);
      is = t.1 ∙ ap (λ (r : List ℕ). from_be_bytes w32 (take 4 r)) all;
      rest = ap (λ (x : Cursor). x.rest) t.2 ∙ ap (drop 4) all;
    }

-- the leading length runs past the end
pub front_past : (bytes : List ℕ) (at : ℕ) (c d e : Cursor) (n : ℕ) → c ≡ cursor 0 bytes → TakesNumber w32 c (Some n) d → TakesBytes n d None e → ReadsFront bytes at (failing (At at))
front_past bytes at c d e n start t b =
    let l = taken bytes c d n start t in
    (0, (omega arith, inl (refl, inr (l.long, omega (arith, b.0, ap length l.rest, l.is)))))

-- the error of the body after the leading length
pub front_failed : (bytes text : List ℕ) (at : ℕ) (c d e : Cursor) (n : ℕ) (error : DecodeError) → c ≡ cursor 0 bytes → TakesNumber w32 c (Some n) d → TakesBytes n d (Some text) e → Decodes update_body text (refused error) → ReadsFront bytes at (failing (fault_of (at + 4) error))
front_failed bytes text at c d e n errors.Memory start t b read = tt
front_failed bytes text at c d e n (errors.IllFormed k) start t b read =
    let l = taken bytes c d n start t in
    let is : text ≡ take (told bytes) (drop 4 bytes) = b.1 ∙ (ap (take n) l.rest ∙ ap (λ (m : ℕ). take m (drop 4 bytes)) l.is) in
    let there : told bytes ≤ length (drop 4 bytes) = omega (arith, b.0, ap length l.rest, l.is) in
    (4 + k, (omega arith, inr (k, (refl, record { long = l.long; there = there; fault = subst (λ (x : List ℕ). FirstFault update_body x k) is (read.ill_formed k refl) }))))

-- the body after the leading length, and what is left
pub front_found : (bytes text : List ℕ) (at : ℕ) (c d e : Cursor) (n : ℕ) (u : Update) (rest : List ℕ) → IsBytes bytes → c ≡ cursor 0 bytes → TakesNumber w32 c (Some n) d → TakesBytes n d (Some text) e → Decodes update_body text (given u) → rest ≡ e.rest
    → bytes ≡ numeral w32 (length (text_of_update u)) ++ (text_of_update u ++ rest)
front_found bytes text at c d e n u rest fits start t b read is_rest =
    let l = taken bytes c d n start t in
    let front : take n (drop 4 bytes) ≡ text_of_update u = sym (b.1 ∙ ap (take n) l.rest) ∙ (read.found u refl).1 in
    let left : rest ≡ drop n (drop 4 bytes) = is_rest ∙ (ap (λ (x : Cursor). x.rest) b.2 ∙ ap (drop n) l.rest) in
    let count : length (text_of_update u) ≡ told bytes = omega (arith, ap length front, length-take n (drop 4 bytes), b.0, ap length l.rest, l.is) in
    let number : numeral w32 (length (text_of_update u)) ≡ take 4 bytes = ap (numeral w32) count ∙ told_again bytes fits l.long in
    let behind : text_of_update u ++ rest ≡ drop 4 bytes = ap (λ (x : List ℕ). x ++ rest) (sym front) ∙ (ap (λ (r : List ℕ). take n (drop 4 bytes) ++ r) left ∙ take-append-drop n (drop 4 bytes)) in
    sym (ap (λ (x : List ℕ). x ++ (text_of_update u ++ rest)) number ∙ (ap (λ (r : List ℕ). take 4 bytes ++ r) behind ∙ take-append-drop 4 bytes))

-- ---- the whole log

-- these bodies were read, and this is left
pub record IsRead (log : List ℕ) (us : List Update) (rest : List ℕ) : Type 0 where
  pub fit : AllByRecursion IsUpdate us
  pub parts : log ≡ text_of_log us ++ rest

-- at the start none was read
pub none_read : (log : List ℕ) → IsRead log [] log
unfolding text_of_log
none_read log = record { fit = tt; parts = refl }

-- one more body was read
pub one_read : (log : List ℕ) (us : List Update) (rest : List ℕ) (u : Update) (after : List ℕ) → IsRead log us rest → IsUpdate u → rest ≡ numeral w32 (length (text_of_update u)) ++ (text_of_update u ++ after) → IsRead log (us ++ u ∷ []) after
one_read log us rest u after r fits is = record {
  fit = all_push IsUpdate us u r.fit fits;
  parts = r.parts ∙ (ap (λ (x : List ℕ). text_of_log us ++ x) is ∙ sym (rw (log-push us u) (simp append_assoc)));
}

-- where nothing is left, the bytes are the log of what was read
read_log : (log : List ℕ) (us : List Update) (rest : List ℕ) → IsRead log us rest → rest ≡ [] → IsLog log us
read_log log us rest r none = record { fit = r.fit; is = r.parts ∙ (ap (λ (x : List ℕ). text_of_log us ++ x) none ∙ append-nil (text_of_log us)) }

abbrev all_read : List Update → Result (List Update) Fault
all_read us = Ok us

abbrev pub none_given : Fault → Result (List Update) Fault
none_given f = Err f

-- the answer at the end
pub reads_log : (log : List ℕ) (us : List Update) (rest : List ℕ) → IsRead log us rest → rest ≡ [] → ReadsLog log (all_read us)
reads_log log us rest r none =
    let l = read_log log us rest r none in
    record {
      found = λ vs e. let same : us ≡ vs = cc in subst (λ (ws : List Update). IsLog log ws) same l;
      only = λ vs m. inr (ap (λ (ws : List Update). all_read ws) (one_log log us vs l m));
      faulty = λ at e. absurd cc;
      first = λ at f. absurd (log_has_no_fault log us at l f);
    }

-- the fault of what is left is that of the log
read_fault : (log : List ℕ) (us : List Update) (rest : List ℕ) (offset at later : ℕ) → IsRead log us rest → at + length rest ≡ length log → offset ≡ at + later → GoesWrong rest later → IsLogFault log offset
read_fault log us rest offset at later r place is bad = record {
  good = us;
  rest = rest;
  later = later;
  fit = r.fit;
  parts = r.parts;
  bad = bad;
  place = omega (arith, place, is, ap length r.parts, length-append (text_of_log us) rest);
}

-- the answer where what is left doesn't begin with a body
pub reads_fault : (log : List ℕ) (us : List Update) (rest : List ℕ) (at : ℕ) (f : Fault) → IsRead log us rest → at + length rest ≡ length log → ReadsFront rest at (failing f) → ReadsLog log (none_given f)
reads_fault log us rest at Memory r place bad = record { found = λ vs e. absurd cc; only = λ vs l. inl refl; faulty = λ k e. absurd cc; first = λ k f. inl refl }
reads_fault log us rest at (At offset) r place bad =
    let fault = read_fault log us rest offset at bad.0 r place bad.1.0 bad.1.1 in
    record {
      found = λ vs e. absurd cc;
      only = λ vs l. absurd (log_has_no_fault log vs offset l fault);
      faulty = λ k e. let same : offset ≡ k = cc in subst (λ (o : ℕ). IsLogFault log o) same fault;
      first = λ k f. inr (ap (λ (o : ℕ). none_given (At o)) (one_log_fault log offset k fault f));
    }

-- what is left after a body is shorter
pub front_shorter : (bytes : List ℕ) (u : Update) (rest : List ℕ) → IsUpdate u → bytes ≡ numeral w32 (length (text_of_update u)) ++ (text_of_update u ++ rest) → length rest < length bytes
front_shorter bytes u rest fits is =
    let f = front bytes u rest (record { fits = fits; is = is }) in
    omega (arith, f.long, ap length f.behind, length-append (text_of_update u) rest, length-drop 4 bytes)

-- what is left is within the log
pub left_within : (log : List ℕ) (us : List Update) (rest : List ℕ) → IsRead log us rest → length rest ≤ length log
left_within log us rest r = omega (arith, ap length r.parts, length-append (text_of_log us) rest)
