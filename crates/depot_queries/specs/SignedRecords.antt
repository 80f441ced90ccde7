-- A record whose statement a signer can sign, or has the signature of another.
use Rattle.std.specs.Prelude.{◌≡◌, ℕ, ◌<◌, ◌^◌, List, [], ◌∷◌, length, map}
use Rattle.depot_base.specs.Statement.{seq_of}
use Rattle.depot_base.specs.declared.key.PublicKey.{PublicKey}
use Rattle.depot_base.specs.declared.record.Record.{Record}
use Rattle.depot_base.specs.declared.statement.Statement.{Statement}
use Rattle.depot_model.specs.exchange.Bundle.{Signs, signed_by}
use Rattle.depot_model.specs.lists.Lists.{IsIn}
use Rattle.depot_model.specs.journals.Journal.{own_by}
use Rattle.depot_model.specs.texts.Texts.{IsStatement, text_of_statement, text_of_signed}
use Rattle.depot_model.specs.texts.Records.{IsTextOf}

-- The text is the body of this statement, and one of the key's leaves signs it.
pub record IsLeafText (key : PublicKey) (s : Statement) (text : List ℕ) : Type 0 where
  pub fits : IsStatement s
  pub is : text ≡ text_of_statement s
  pub leaf : seq_of s < 2 ^ key.height

-- The record has this text and holds a statement. Where that is an own one, one of the key's leaves signs it.
pub record IsSignable (key : PublicKey) (sign : Signs) (r : Record) (text : List ℕ) : Type 0 where
  pub fits : IsTextOf r text
  pub one : length (signed_by sign r) ≡ 1
  pub own : (s : Statement) → IsIn s (own_by r) → IsLeafText key s (text_of_statement s)

-- the text is that of the signed statement which such a record holds
abbrev pub IsSignedTextOf : PublicKey → Signs → List ℕ → List ℕ → Type 0
IsSignedTextOf key sign text made = (r : Record) → IsSignable key sign r text → map text_of_signed (signed_by sign r) ≡ made ∷ []
