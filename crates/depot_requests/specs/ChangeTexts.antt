-- The texts of changes and of ids that are in requests.
use Rattle.std.specs.Prelude.{ℕ, List, [], length, Bool, not, ◌&&◌, ◌==◌, Option, Some, None, is_some}
use Rattle.std.specs.Int.{w8, w32}
use Rattle.depot_base.specs.declared.limits.TheConstants.{MOST_KEY, MOST_VALUE, MOST_WRITES}
use Rattle.depot_base.specs.declared.write.Change.{Change}
use Rattle.depot_base.specs.Format.{Format, number, bytes_of, field, made_of_fields, choose, list_of}
use Rattle.depot_base.specs.Parts.{digests, is_below}
use Rattle.depot_model.specs.readers.Checkpoints.{is_checkpoint_key}
use Rattle.depot_model.specs.worlds.Receipts.{receipt_of}

-- a key, preceded by its length
unfoldable pub key_text : Format (List ℕ)
key_text =
    field (number w8 1 MOST_KEY) (λ key. length key) λ key_length.
    field (bytes_of key_length) (λ key. key) λ key.
    made_of_fields key

-- the mark of a change: 0 of a deletion, 1 of a value
abbrev pub change_mark : Option (List ℕ) → ℕ
change_mark None = 0
change_mark (Some value) = 1

-- the value that a change gives; of a deletion none
abbrev pub given_value : Option (List ℕ) → List ℕ
given_value None = []
given_value (Some value) = value

-- what follows the mark of a change of this key: nothing after 0, and after 1 the value preceded by its length
unfoldable pub change_behind : List ℕ → ℕ → Format Change
change_behind key mark =
    choose (mark == 0) (made_of_fields (record { key = key; value = None }))
    (field (number w32 0 MOST_VALUE) (λ c. length (given_value c.value)) λ size.
    field (bytes_of size) (λ c. given_value c.value) λ value.
    made_of_fields (record { key = key; value = Some value }))

-- a change: its key preceded by the key's length, a mark, and what the mark calls for
unfoldable pub change_text : Format Change
change_text =
    field (number w8 1 MOST_KEY) (λ c. length c.key) λ key_length.
    field (bytes_of key_length) (λ c. c.key) λ key.
    field (number w8 0 1) (λ c. change_mark c.value) λ mark.
    change_behind key mark

-- a key that a put may write: not in the form of a receipt's or a checkpoint's, which other requests write
abbrev pub may_be_put : List ℕ → Bool
may_be_put key = not (is_some (receipt_of key)) && not (is_checkpoint_key key)

-- A change may follow another, or be first: a put may write its key, which is above the other's.
abbrev pub change_follows : Option Change → Change → Bool
change_follows None c = may_be_put c.key
change_follows (Some before) c = may_be_put c.key && is_below before.key c.key

-- 1 to 16 changes, rising strictly by key, preceded by their count
unfoldable pub changes_text : Format (List Change)
changes_text =
    field (number w8 1 MOST_WRITES) (λ cs. length cs) λ count.
    field (list_of count change_text change_follows) (λ cs. cs) λ changes.
    made_of_fields changes

-- 1 to 16 ids, rising strictly, preceded by their count
unfoldable pub ids_text : Format (List (List ℕ))
ids_text =
    field (number w8 1 MOST_WRITES) (λ ids. length ids) λ count.
    field (digests count) (λ ids. ids) λ ids.
    made_of_fields ids
