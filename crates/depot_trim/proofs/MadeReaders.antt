-- A reader is made, or why it isn't.
use Rattle.std.proofs.Common.{◌≡◌, ◌∙◌, ℕ, false, List, [], map, Option, Some, None, Err, refl, sym, ap}
use Rattle.std.specs.List.{filter}
use Rattle.std.proofs.lemmas.List.{append-nil}
use Rattle.depot_base.specs.declared.key.RosterEntry.{RosterEntry}
use Rattle.depot_base.specs.declared.record.Record.{Record}
use Rattle.depot_base.specs.declared.update.Update.{Update}
use Rattle.depot_model.specs.checks.Checks.{Setting}
use Rattle.depot_model.specs.journals.Journal.{accepted, held, value_with}
use Rattle.depot_model.specs.journals.Lawful.{IsLawful, is_empty}
use Rattle.depot_model.specs.readers.Opening.{Opened, opened, opened_text}
use Rattle.depot_model.specs.readers.Pruning.{pruned}
use Rattle.depot_model.specs.readers.Readers.{unsigned, reading, reader_of, left_of, is_named_by, kept, unsigned_node, trimmed_unless, trimmed_as, trim_of}
use Rattle.depot_model.specs.texts.Roster.{Verifies}
use Rattle.depot_model.specs.readers.Trimming.{is_signed_by, trimmed}
use Rattle.depot_accept.specs.StateView.{IsStateOf, setting}
use Rattle.depot_readings.specs.Counts.{AreCountsOf}
use Rattle.depot_readings.specs.Named.{AreNamed}
use Rattle.depot_kept.specs.Values as values
use Rattle.depot_trim.specs.Opens.{Opens}
use Rattle.depot_trim.specs.ReaderAnswers.{Trims}
use Rattle.depot_trim.specs.ReaderView.{mark_of, IsReaderOf}
use Rattle.depot_trim.specs.Trimmings.{first_unsigned, as_untrimmed}
use Rattle.depot_trim.specs.declared.opening.OpenError.{OpenError}
use Rattle.depot_trim.specs.declared.opening.OpenError.TheVariants as open_error
use Rattle.depot_trim.specs.declared.trimmed.Trimmed.{Trimmed}

-- ---- why it isn't

trim_from : (here : Setting) (J : List Record) (text : List ℕ) (o : Opened) → opened_text here J text ≡ o → trim_of here J text ≡ trimmed_as here J text o
unfolding trim_of
trim_from here J text o is = ap (trimmed_as here J text) is

-- the text isn't opened
pub untrimmed : (S : Type 0) (verifies : Verifies) (here : Setting) (J : List Record) (text : List ℕ) (e : OpenError) → Opens here J text (Err e) → Trims {S = S} verifies here J text (Err (as_untrimmed e))
untrimmed S verifies here J text open_error.Memory o = o
untrimmed S verifies here J text (open_error.IllFormed at) o = trim_from here J text _ o
untrimmed S verifies here J text (open_error.OtherRoster given mine) o = (trim_from here J text _ o.0, o.1)
untrimmed S verifies here J text (open_error.Unknown id) o = trim_from here J text _ o

-- the first that didn't sign, by the updates
pub unsigned_is : (here : Setting) (J : List Record) (text : List ℕ) (ids : List (List ℕ)) (us : List Update) (nodes : List RosterEntry) (o : Option ℕ) → accepted J ≡ us → here.listed ≡ nodes
    → o ≡ first_unsigned us text ids nodes → unsigned_node here J text ids ≡ o
unfolding unsigned_node is_signed_by
unsigned_is here J text ids us nodes o is listed found =
    ap (λ (es : List RosterEntry). first_unsigned (accepted J) text ids es) listed ∙ ap (λ (xs : List Update). first_unsigned xs text ids nodes) is ∙ sym found

-- a node didn't sign it
pub is_unsigned : (here : Setting) (J : List Record) (text : List ℕ) (ids : List (List ℕ)) (node : ℕ) → opened_text here J text ≡ opened ids → unsigned_node here J text ids ≡ Some node → trim_of here J text ≡ unsigned node
is_unsigned here J text ids node is found = trim_from here J text (opened ids) is ∙ ap (trimmed_unless here J ids) found

-- all did
pub is_reading : (here : Setting) (J : List Record) (text : List ℕ) (ids : List (List ℕ)) → opened_text here J text ≡ opened ids → unsigned_node here J text ids ≡ None → trim_of here J text ≡ reading (reader_of here J ids)
is_reading here J text ids is found = trim_from here J text (opened ids) is ∙ ap (trimmed_unless here J ids) found

-- ---- what it is

pub made : {S : Type 0} (verifies : Verifies) (here : Setting) (J : List Record) (ids : List (List ℕ)) (t : Trimmed S) → IsLawful here J → is_empty J ≡ false
    → IsStateOf (pruned (trimmed J ids) J) t.state → setting verifies t.state ≡ here
    → ((hash : List ℕ) → values.held_in t.values hash ≡ value_with hash (filter (is_named_by (left_of (trimmed J ids) (accepted J))) (held J)))
    → AreNamed (left_of (trimmed J ids) (accepted J)) t.named → AreCountsOf here.me J t.counts → t.marks.list.items ≡ map mark_of (trimmed J ids) → IsReaderOf verifies (reader_of here J ids) t
unfolding reader_of kept
made verifies here J ids t lawful some state stands values named counts marks = record {
  lawful = lawful;
  some = some;
  below = record { front = J; more = []; ids = ids; journal = sym (append-nil J); trimmed = refl };
  state = state;
  stands = stands;
  values = values;
  named = named;
  counts = counts;
  marks = marks;
}
