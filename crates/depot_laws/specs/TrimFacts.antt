-- Checkpoints that every node signed, what is below them, and what is trimmed there.
use Rattle.std.specs.Prelude.{◌≡◌, ◌⊎◌, ℕ, List, ◌++◌, take, true, false, None}
use Rattle.depot_base.specs.declared.key.RosterEntry.{RosterEntry}
use Rattle.depot_base.specs.declared.update.Update.{Update}
use Rattle.depot_base.specs.declared.statement.Statement.{Statement}
use Rattle.depot_base.specs.declared.statement.Signed.{Signed}
use Rattle.depot_base.specs.declared.record.Record.{Record}
use Rattle.depot_model.specs.lists.Lists.{IsIn}
use Rattle.depot_model.specs.updates.Order.{Precedes, IsLatest}
use Rattle.depot_model.specs.texts.Contents.{keys_written}
use Rattle.depot_model.specs.journals.Journal.{accepted, own}
use Rattle.depot_model.specs.checks.Checks.{Setting, given_statement, is_kept}
use Rattle.depot_model.specs.worlds.World.{Correct, World, setting_of}
use Rattle.depot_model.specs.readers.Pruning.{pruned, below_of, AnswersAlike}
use Rattle.depot_model.specs.readers.Trimming.{below, is_signed_by, trimmed, names}

-- in the journal every node of the roster has signed a checkpoint, of this text and these ids
abbrev pub AllSigned : World → List Record → List ℕ → List (List ℕ) → Type 0
AllSigned W J text ids = (e : RosterEntry) → IsIn e W.listed → is_signed_by J text ids e.node ≡ true

-- Where every node signed a checkpoint in what a node's journal was, no own statement of a node that this journal lacked names an
-- update below.
abbrev pub NoneNamesBelow : World → Type 0
NoneNamesBelow W = (c d : Correct) (n : ℕ) (text : List ℕ) (ids : List (List ℕ)) (s : Statement) (t : Update)
    → IsIn c W.nodes → IsIn d W.nodes → AllSigned W (take n c.journal) text ids
    → IsIn s (own d.journal) → is_kept (take n c.journal) s ≡ false → IsIn t (below (take n c.journal) ids) → names s t ≡ true → ⊥

-- So a reader that was trimmed then, whatever it has taken since, never answers that an own statement of a node is
-- below.
abbrev pub NoneStandsBelow : World → Type 0
NoneStandsBelow W = (c d : Correct) (n : ℕ) (text : List ℕ) (ids : List (List ℕ)) (more : List Record) (s : Signed)
    → IsIn c W.nodes → IsIn d W.nodes → AllSigned W (take n c.journal) text ids
    → IsIn s.statement (own d.journal) → below_of (setting_of W c) (take n c.journal ++ more) (trimmed (take n c.journal) ids) s ≡ None

-- what precedes an update below is below, and precedes it there
abbrev pub IsClosedBelow : List Record → List (List ℕ) → Type 0
IsClosedBelow J ids = (t u : Update) → Precedes (accepted J) t u → IsIn u (below J ids) → IsIn t (below J ids) × Precedes (below J ids) t u

-- the update is below, and a latest write of none of its keys there
abbrev pub IsSuperseded : List Record → List (List ℕ) → Update → Type 0
IsSuperseded J ids u = IsIn u (below J ids)
    × ((key : List ℕ) → IsIn key (keys_written u) → IsLatest key (λ t. IsIn t (below J ids)) (Precedes (accepted J)) u → ⊥)

-- the update is a latest write of the key in the list
abbrev pub IsLatestIn : List ℕ → List Update → Update → Type 0
IsLatestIn key us u = IsLatest key (λ t. IsIn t us) (Precedes us) u

-- the statement names the update, or the journal keeps it itself
abbrev pub NamesOrIsKept : List Record → Statement → Update → Type 0
NamesOrIsKept J s t = (names s t ≡ true) ⊎ (is_kept J s ≡ true)

-- each of these was accepted
abbrev pub AreAccepted : List Record → List Update → Type 0
AreAccepted J ts = (t : Update) → IsIn t ts → IsIn t (accepted J)

-- a statement that isn't below gets the same answer without the signed statements of these updates as with them
abbrev pub AboveAnswersAlike : Setting → List Record → List Update → Type 0
AboveAnswersAlike here J ts = (s : Signed) → below_of here J ts s ≡ None → AnswersAlike here J (pruned ts J) (given_statement s)
