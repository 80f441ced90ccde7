-- What an update says of a key that it writes.
use Rattle.std.proofs.Common.{◌≡◌, ◌∙◌, ℕ, List, None, Some}
use Rattle.std.specs.Prelude.{slice_get}
use Rattle.depot_base.specs.Writes.{wrote_under}
use Rattle.depot_base.specs.declared.record.Record.{Record}
use Rattle.depot_base.specs.declared.update.Update.{Update}
use Rattle.depot_model.specs.texts.Contents.{Writes}
use Rattle.depot_model.specs.journals.Journal.{accepted}
use Rattle.depot_model.proofs.of_texts.ContentLaws.{wrote_there}

-- an update that writes the key says something of it
pub says_nothing : (J : List Record) (key : List ℕ) (t : Update) (item : ℕ) → slice_get (accepted J) item ≡ Some t → ((u : Update) → slice_get (accepted J) item ≡ Some u → Writes key u) → None ≡ wrote_under key t.writes → ⊥
says_nothing J key t item at writes none = let w = wrote_there key t.writes (writes t at) in let both : None ≡ Some w.0 = none ∙ w.1 in cc
