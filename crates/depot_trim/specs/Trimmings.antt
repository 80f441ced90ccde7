-- What is found on the way to a reader.
use Rattle.std.specs.Prelude.{◌≡◌, ℕ, List, [], ◌∷◌, ◌++◌, length, map, find, Option, Some, option_and_then, option_map, slice_get, Bool, not, ◌&&◌, ◌==◌}
use Rattle.std.specs.List.{list_all, list_any}
use Rattle.depot_base.specs.declared.key.RosterEntry.{RosterEntry}
use Rattle.depot_base.specs.declared.record.Record.{Record}
use Rattle.depot_base.specs.declared.update.NamedValue.{NamedValue}
use Rattle.depot_base.specs.declared.update.Update.{Update}
use Rattle.depot_model.specs.declared.hello.HelloLeaf.{HelloLeaf}
use Rattle.depot_model.specs.readers.Checkpoints.{checkpoint_key}
use Rattle.depot_model.specs.checks.Checks.{Setting}
use Rattle.depot_model.specs.journals.Journal.{accepted, has_id, value_with}
use Rattle.depot_model.specs.updates.LatestList.{latest_in}
use Rattle.depot_model.specs.journals.Lawful.{IsLawful}
use Rattle.depot_model.specs.lists.Lists.{when}
use Rattle.depot_model.specs.updates.Order.{past}
use Rattle.depot_model.specs.readers.Pruning.{pruned}
use Rattle.depot_model.specs.worlds.ReadTests.{is_value_of}
use Rattle.depot_model.specs.texts.Roster.{Verifies}
use Rattle.depot_model.specs.texts.Texts.{id_of_update}
use Rattle.depot_model.specs.readers.Trimming.{is_latest_below, trimmed}
use Rattle.depot_accept.specs.StateView.{View, IsStateOf, setting}
use Rattle.depot_trim.specs.declared.opening.OpenError.{OpenError}
use Rattle.depot_trim.specs.declared.opening.OpenError.TheVariants as open_error
use Rattle.depot_trim.specs.declared.trim_error.TrimError.{TrimError}
use Rattle.depot_trim.specs.declared.trim_error.TrimError.TheVariants as refused

-- the ids that leaves list
abbrev pub ids_in : List HelloLeaf → List (List ℕ)
ids_in leaves = map (λ l. l.id) leaves

-- the answer is what a test says of the update at this place
abbrev pub IsAnswerAt : List Update → ℕ → (Update → Bool) → Bool → Type 0
IsAnswerAt us place test answer = (u : Update) → slice_get us place ≡ Some u → answer ≡ test u

-- each of these ids is in the past of an update
abbrev pub has_all_in_past : List Update → List (List ℕ) → Update → Bool
has_all_in_past us ids u = list_all (λ h. has_id (past u us) h) ids

-- an update by which a node signs a checkpoint: it puts the text under its key, and each listed id is in its past
abbrev pub signs_as : List Update → List ℕ → List (List ℕ) → ℕ → Update → Bool
signs_as us text ids n u = (u.writer == n) && (is_value_of (checkpoint_key text) u text && has_all_in_past us ids u)

-- a node signed it by one of these updates
abbrev pub has_signed : List Update → List ℕ → List (List ℕ) → ℕ → Bool
has_signed us text ids n = list_any (signs_as us text ids n) us

-- the first of these nodes that didn't
abbrev pub first_unsigned : List Update → List ℕ → List (List ℕ) → List RosterEntry → Option ℕ
first_unsigned us text ids nodes = option_map (λ e. e.node) (find (λ e. not (has_signed us text ids e.node)) nodes)

-- an update is among these a latest write of one of these keys
abbrev pub is_latest_of : List Update → List (List ℕ) → Update → Bool
is_latest_of us keys u = list_any (λ key. has_id (latest_in key us) (id_of_update u)) keys

-- an update with this id is among these, and is a latest write of none of its keys there
abbrev pub is_given_up_below : List Update → Update → Bool
is_given_up_below us u = has_id us (id_of_update u) && not (is_latest_below us u)

-- the value of a name among these
abbrev pub held_of : List (List ℕ) → NamedValue → Option (List ℕ)
held_of held n = option_and_then (λ v. when (length v == n.size) v) (value_with n.hash held)

-- the value of a hash among these, where it is wanted with its length
abbrev pub kept_of : List (List ℕ) → (List ℕ → ℕ → Bool) → List ℕ → Option (List ℕ)
kept_of held wants h = option_and_then (λ v. when (wants h (length v)) v) (value_with h held)

-- why a text isn't opened, as why no reader is made
abbrev pub as_untrimmed : OpenError → TrimError
as_untrimmed open_error.Memory = refused.Memory
as_untrimmed (open_error.IllFormed at) = refused.IllFormed at
as_untrimmed (open_error.OtherRoster given mine) = refused.OtherRoster given mine
as_untrimmed (open_error.Unknown id) = refused.Unknown id

-- for each of these updates, whether its id is that of one that is given up
abbrev pub given_up : List Update → List Update → List Bool
given_up ts us = map (λ u. has_id ts (id_of_update u)) us

-- for each of these updates, whether it is trimmed below these ids, in every lawful journal whose accepted updates
-- these are
abbrev pub TellTrimmed : List Update → List (List ℕ) → List Bool → Type 0
TellTrimmed us ids flags = (here : Setting) (J : List Record) → IsLawful here J → accepted J ≡ us → flags ≡ given_up (trimmed J ids) (accepted J)

-- The state is that of a journal without the signed statements of the updates that these flags mark as given up. The
-- record may follow the journal, whose accepted updates are a prefix of these.
pub record IsFilling {S : Type 0} (verifies : Verifies) (us : List Update) (flags : List Bool) (ts : List Update) (J : List Record) (r : Record) (v : View S) : Type 0 where
  pub flagged : flags ≡ given_up ts us
  pub state : IsStateOf (pruned ts J) v
  pub lawful : IsLawful (setting verifies v) (J ++ r ∷ [])
  pub more : List Update
  pub front : us ≡ accepted (J ++ r ∷ []) ++ more

-- the state is that of some such journal
abbrev pub MayFill : {S : Type 0} → Verifies → List Update → List Bool → View S → Record → Type 0
MayFill verifies us flags v r = (ts : List Update) × ((J : List Record) × IsFilling verifies us flags ts J r v)

-- from a state of some such journal it becomes the state of that journal with the record appended
abbrev pub Fills : {S : Type 0} → Verifies → List Update → List Bool → View S → Record → View S → Type 0
Fills verifies us flags v r w = (ts : List Update) (J : List Record) → IsFilling verifies us flags ts J r v → IsStateOf (pruned ts (J ++ r ∷ [])) w
