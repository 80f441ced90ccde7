-- What the parser of a roster answers, from what the reader gives.
use Rattle.std.proofs.Common.{◌≡◌, ℕ, ◌≤◌, List, length, Result, Ok, Err, refl, sym, ap, subst, ◌∙◌, arith, inl, inr}
use Rattle.depot_base.specs.Format.{number, whole, FirstFault}
use Rattle.depot_base.specs.declared.key.RosterEntry.{RosterEntry}
use Rattle.depot_base.proofs.FormatLaws.{IsBytes, cursor, ok_is, not_err}
use Rattle.depot_base.proofs.Combined.{whole_takes, whole_again, whole_early}
use Rattle.depot_model.specs.declared.roster_format.RosterError.{RosterError}
use Rattle.depot_model.specs.declared.roster_format.RosterError.TheVariants as error
use Rattle.depot_model.specs.texts.Texts.{IsRoster, text_of_roster, hash_of_roster, roster}
use Rattle.depot_model.specs.texts.RosterText.{IsRefusedFor, ParsesRoster}
use Rattle.depot_model.proofs.of_texts.TextLaws.{roster_lawful}
use Rattle.depot_sign.specs.KeptEntries.{IsKeptRoster}
use Rattle.depot_sign.specs.declared.text.RosterStop.{RosterStop}
use Rattle.depot_sign.specs.declared.text.RosterStop.TheVariants as stop
use Rattle.depot_sign.specs.RosterReading.{whole_or_stop, GivesOrStops, IsEarlyStop, error_of}
use Rattle.depot_sign.proofs.Agreeing.{Agrees, agree}
use Rattle.depot_sign.proofs.RosterCauses.{cause_of_stop, wrong_at, refused_is_unread, refused_is_none, one_cause}
use Rattle.sha2.specs.Sha256.{sha256}

-- what the reader gives is what the format gives
read_whole : (text : List ℕ) (r : List RosterEntry) → whole_or_stop (cursor 0 text) ≡ Ok r → whole roster (cursor 0 text) ≡ Ok r
read_whole text r e = subst (λ (x : Result (List RosterEntry) RosterStop). Agrees x (whole roster (cursor 0 text))) e (agree (cursor 0 text))

-- a first fault is within the longest text
pub fault_early : (text : List ℕ) (at : ℕ) → FirstFault roster text at → at ≤ 8964
fault_early text at fault = whole_early roster 8964 roster_lawful text at fault

-- a roster has 1 to 256 entries
pub roster_count : (r : List RosterEntry) → IsRoster r → (1 ≤ length r) × (length r ≤ 256)
unfolding roster number
roster_count r fits = fits.1.1.0

-- what is read makes a roster, and the text's hash is its hash
pub read_is_kept : (text : List ℕ) (r : List RosterEntry) → IsBytes text → whole_or_stop (cursor 0 text) ≡ Ok r → IsKeptRoster r (sha256 text)
unfolding hash_of_roster
read_is_kept text r bytes e =
    let t = whole_takes roster 8964 roster_lawful (cursor 0 text) r bytes (read_whole text r e) in
    record { is_roster = t.0; is_hash = ap (λ (x : List ℕ). sha256 x) t.1 }

-- the hash of a roster's text is its hash
pub text_is_kept : (r : List RosterEntry) → IsRoster r → IsKeptRoster r (sha256 (text_of_roster r))
unfolding hash_of_roster
text_is_kept r fits = record { is_roster = fits; is_hash = refl }

abbrev given : List RosterEntry → Result (List RosterEntry) RosterError
given r = Ok r

abbrev refused : RosterError → Result (List RosterEntry) RosterError
refused e = Err e

-- what the parser answers where a roster was read
pub parses_ok : (text : List ℕ) (r : List RosterEntry) → IsBytes text → whole_or_stop (cursor 0 text) ≡ Ok r → ParsesRoster text (given r)
parses_ok text r bytes e =
    let read = read_whole text r e in
    record {
      found = λ w h. let p : r ≡ w = cc in subst (λ (x : List RosterEntry). IsRoster x × (text ≡ text_of_roster x)) p (whole_takes roster 8964 roster_lawful (cursor 0 text) r bytes read);
      only = λ w fits h.
          let again : whole roster (cursor 0 text) ≡ Ok w = rw h (whole_again roster 8964 roster_lawful 0 w fits) in
          inr (ap given (ok_is r w (sym read ∙ again)));
      refused = λ f h. absurd cc;
      told = λ f c. let u = refused_is_unread text f c in absurd (not_err r u.0 (sym read ∙ u.1));
    }

-- where it is refused for a cause
pub parses_error : (text : List ℕ) (e : RosterError) → IsRefusedFor text e → ParsesRoster text (refused e)
parses_error text e cause = record {
  found = λ w h. absurd cc;
  only = λ w fits h. absurd (refused_is_none text w e fits h cause);
  refused = λ f h. let p : e ≡ f = cc in inr (subst (λ (x : RosterError). IsRefusedFor text x) p cause);
  told = λ f c. inr (ap refused (one_cause text e f cause c));
}

-- and where memory ran out
pub parses_memory : (text : List ℕ) → ParsesRoster text (refused error.Memory)
parses_memory text = record {
  found = λ w h. absurd cc;
  only = λ w fits h. inl refl;
  refused = λ f h. let p : error.Memory ≡ f = cc in inl (sym p);
  told = λ f c. inl refl;
}

-- ---- from what the reader answers

abbrev stopping : RosterStop → Result (List RosterEntry) RosterStop
stopping s = Err s

-- a stop is early
pub stop_is_early : (text : List ℕ) (s : RosterStop) → IsBytes text → GivesOrStops (stopping s) (whole_or_stop (cursor 0 text)) → IsEarlyStop s
stop_is_early text stop.Memory bytes h = tt
stop_is_early text (stop.At at) bytes h = let early = fault_early text at (wrong_at text at bytes h).fault in omega (arith, early)
stop_is_early text (stop.TooMany count) bytes h = tt
stop_is_early text (stop.Twice node) bytes h = tt

-- and the parser reports it
pub parses_stop : (text : List ℕ) (s : RosterStop) → IsBytes text → GivesOrStops (stopping s) (whole_or_stop (cursor 0 text)) → ParsesRoster text (refused (error_of s))
parses_stop text stop.Memory bytes h = parses_memory text
parses_stop text (stop.At at) bytes h = parses_error text (error.IllFormed at) (wrong_at text at bytes h)
parses_stop text (stop.TooMany count) bytes h = parses_error text (error.TooMany count) (cause_of_stop text (stop.TooMany count) bytes (λ at e. cc) h)
parses_stop text (stop.Twice node) bytes h = parses_error text (error.TwiceNode node) (cause_of_stop text (stop.Twice node) bytes (λ at e. cc) h)
