-- Why a text is no roster's, and what the parser of a roster answers.
use Rattle.std.specs.Prelude.{◌≡◌, ℕ, ◌^◌, ◌<◌, ◌≤◌, ◌⊎◌, List, [], ◌∷◌, ◌++◌, length, Result, Ok, Err}
use Rattle.std.specs.Int.{w16}
use Rattle.std.specs.List.{flat_map}
use Rattle.depot_base.specs.Cursor.{numeral}
use Rattle.depot_base.specs.Format.{Follows, FirstFault}
use Rattle.depot_base.specs.Parts.{roster_entry, roster_entry_rises}
use Rattle.depot_base.specs.declared.limits.TheConstants.{MOST_NODES}
use Rattle.depot_base.specs.declared.key.RosterEntry.{RosterEntry}
use Rattle.depot_model.specs.declared.roster_format.RosterError.{RosterError}
use Rattle.depot_model.specs.declared.roster_format.RosterError.TheVariants as error
use Rattle.depot_model.specs.texts.Texts.{IsRoster, text_of_roster, roster}

-- the version and the kind are a roster's, and a count over 256 follows them
pub record HasGreatCount (text : List ℕ) (count : ℕ) : Type 0 where
  pub rest : List ℕ
  pub parts : text ≡ 1 ∷ 4 ∷ (numeral w16 count ++ rest)
  pub fits : count < 2 ^ 16
  pub great : MOST_NODES < count

-- Good entries come first, fewer than are counted, and after them a whole entry with good fields, which names the node
-- of the last of them.
pub record RepeatsNode (text : List ℕ) (node : ℕ) : Type 0 where
  pub count : ℕ
  pub front : List RosterEntry
  pub before : RosterEntry
  pub again : RosterEntry
  pub rest : List ℕ
  pub parts : text ≡ 1 ∷ 4 ∷ (numeral w16 count ++ (flat_map roster_entry.text (front ++ before ∷ []) ++ (roster_entry.text again ++ rest)))
  pub limit : count ≤ MOST_NODES
  pub fewer : length (front ++ before ∷ []) < count
  pub follow : Follows roster_entry roster_entry_rises [] (front ++ before ∷ [])
  pub fits : roster_entry.fits again
  pub first : before.node ≡ node
  pub second : again.node ≡ node

-- The text goes wrong at this offset, and not by a count over 256 or by a node that is in it twice.
pub record GoesWrongAt (text : List ℕ) (at : ℕ) : Type 0 where
  pub fault : FirstFault roster text at
  pub no_count : (count : ℕ) → HasGreatCount text count → ⊥
  pub no_node : (node : ℕ) → RepeatsNode text node → ⊥

-- why a text is no roster's
abbrev pub IsRefusedFor : List ℕ → RosterError → Type 0
IsRefusedFor text error.Memory = ⊥
IsRefusedFor text (error.IllFormed at) = GoesWrongAt text at
IsRefusedFor text (error.TwiceNode node) = RepeatsNode text node
IsRefusedFor text (error.TooMany count) = HasGreatCount text count

-- What parsing a roster answers. Memory may run out in place of each answer.
pub record ParsesRoster (text : List ℕ) (result : Result (List RosterEntry) RosterError) : Type 0 where
  -- what is given is the roster with this text, and a roster with this text is given
  pub found : (r : List RosterEntry) → result ≡ Ok r → IsRoster r × (text ≡ text_of_roster r)
  pub only : (r : List RosterEntry) → IsRoster r → text ≡ text_of_roster r → (result ≡ Err error.Memory) ⊎ (result ≡ Ok r)
  -- an error is why the text is no roster's, and where it is none the error is reported
  pub refused : (e : RosterError) → result ≡ Err e → (e ≡ error.Memory) ⊎ IsRefusedFor text e
  pub told : (e : RosterError) → IsRefusedFor text e → (result ≡ Err error.Memory) ⊎ (result ≡ Err e)

-- A text is that of one roster, or it is refused for one cause.
pub record AreReadInOneWay : Type 0 where
  pub value : (r s : List RosterEntry) → IsRoster r → IsRoster s → text_of_roster r ≡ text_of_roster s → r ≡ s
  pub good : (r : List RosterEntry) (e : RosterError) → IsRoster r → IsRefusedFor (text_of_roster r) e → ⊥
  pub cause : (text : List ℕ) (e f : RosterError) → IsRefusedFor text e → IsRefusedFor text f → e ≡ f
