-- The records that texts encode, and the writes that they accept.
use Rattle.std.specs.Prelude.{◌≡◌, ℕ, List, [], ◌∷◌, ◌++◌, Bool, if◌then◌else◌}
use Rattle.std.specs.List.{list_any}
use Rattle.depot_base.specs.declared.record.Record.{Record}
use Rattle.depot_base.specs.declared.update.Update.{Update}
use Rattle.depot_model.specs.worlds.Audit.{is_body_in}
use Rattle.depot_model.specs.journals.Journal.{accepted, accepted_by}
use Rattle.depot_model.specs.texts.Records.{IsRecord, text_of_record}
use Rattle.depot_search.specs.declared.journal.TracedJournal.{TracedJournal}

-- a record has this text
pub record IsRecordText (text : List ℕ) : Type 0 where
  pub told : Record
  pub fits : IsRecord told
  pub is : text ≡ text_of_record told

-- updates put after others, each unless one before it has its body
abbrev pub with_bodies : List Update → List Update → List Update
with_bodies known [] = known
with_bodies known (u ∷ us) = with_bodies (if is_body_in u known then known else known ++ u ∷ []) us

-- what the records of journals accept put after others so
abbrev pub with_journals : List Update → List TracedJournal → List Update
with_journals known [] = known
with_journals known (j ∷ js) = with_journals (with_bodies known (accepted j.entries)) js

-- records accept an update with this body
abbrev pub is_accepted_in : List Record → Update → Bool
is_accepted_in J u = list_any (λ r. is_body_in u (accepted_by r)) J
