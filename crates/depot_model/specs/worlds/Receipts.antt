-- Receipts: what a node says by signature that it holds, and whether that is true.
use Rattle.std.specs.Prelude.{◌≡◌, ℕ, List, [], ◌∷◌, ◌++◌, length, take, drop, map, filter, find, Bool, true, not, ◌&&◌, ◌==◌, nat_lt, Option, Some, is_some, option_map, codes, if◌then◌else◌}
use Rattle.std.specs.List.{list_any, list_all}
use Rattle.std.specs.Str.{bytes_eq}
use Rattle.depot_base.specs.declared.update.Update.{Update}
use Rattle.depot_base.specs.declared.write.Change.{Change}
use Rattle.depot_base.specs.declared.record.Record.{Record}
use Rattle.depot_model.specs.lists.Lists.{IsIn, when, first}
use Rattle.depot_model.specs.texts.Texts.{id_of_update}
use Rattle.depot_model.specs.texts.Contents.{NamedValue, values_named}
use Rattle.depot_model.specs.journals.Journal.{accepted, has_id, holds}
use Rattle.depot_model.specs.worlds.Causality.{puts_of}
use Rattle.depot_model.specs.worlds.World.{World}
use Rattle.depot_model.specs.worlds.ReadTests.{value_written}

-- ---- keys

-- the key of a receipt for an id: 8 bytes and the id, 40 bytes
unfoldable pub receipt_key : List ℕ → List ℕ
receipt_key h = codes "receipt:" ++ h

-- the id that a key is a receipt for; none where the key has another form
unfoldable pub receipt_of : List ℕ → Option (List ℕ)
receipt_of key = when ((length key == 40) && bytes_eq (take 8 key) (codes "receipt:")) (drop 8 key)

-- the changes that give receipts for these ids: the empty value under the key of each
abbrev pub receipt_changes : List (List ℕ) → List Change
receipt_changes ids = map (λ h. record { key = receipt_key h; value = Some [] }) ids

-- ---- who gave receipts

-- the update writes a receipt for an id, and doesn't delete it
abbrev pub gives_receipt : List ℕ → Update → Bool
gives_receipt h u = is_some (value_written (receipt_key h) u)

-- a number put into its place among others that rise; one that is there is not put twice
unfoldable pub put_number : ℕ → List ℕ → List ℕ
put_number n [] = n ∷ []
put_number n (m ∷ ms) = if nat_lt n m then n ∷ m ∷ ms else (if n == m then m ∷ ms else m ∷ put_number n ms)

-- numbers in rising order, each once
unfoldable pub numbers_rising : List ℕ → List ℕ
numbers_rising [] = []
numbers_rising (n ∷ ns) = put_number n (numbers_rising ns)

-- the writers of receipts for an id, each once, rising
abbrev pub holders_in : List Update → List ℕ → List ℕ
holders_in us h = numbers_rising (map (λ u. u.writer) (filter (gives_receipt h) us))

-- of all that a journal accepted, also what isn't latest any more
abbrev pub receipts : List Record → List ℕ → List ℕ
receipts J h = holders_in (accepted J) h

-- ---- true receipts

-- an accepted update has this id, and all values that it names are held
pub record HoldsAllOf (J : List Record) (h : List ℕ) : Type 0 where
  pub update : Update
  pub known : IsIn update (accepted J)
  pub id : id_of_update update ≡ h
  pub held : (n : NamedValue) → IsIn n (values_named update) → holds J n.hash n.size ≡ true

-- each receipt that the node gave is for an update that it had accepted, all of whose values it held
pub record AreReceiptsTrue (J : List Record) : Type 0 where
  pub each : (before : List Record) (r : Record) (after : List Record) (u : Update) (h : List ℕ) → J ≡ before ++ r ∷ after → IsIn u (puts_of (r ∷ []))
      → length h ≡ 32 → gives_receipt h u ≡ true → HoldsAllOf before h

-- ---- why no receipt is given

-- no accepted update has the id, or one of the values of the update isn't held
pub data NoReceipt : Type 0 where
  unknown : List ℕ → NoReceipt
  lacks_value : List ℕ → NoReceipt

-- an accepted update with this id names a value that isn't held
abbrev pub lacks_one : List Record → List ℕ → Bool
lacks_one J h = list_any (λ u. bytes_eq (id_of_update u) h && not (list_all (λ n. holds J n.hash n.size) (values_named u))) (accepted J)

-- the first id that no accepted update has, else the first whose update has a value that isn't held
unfoldable pub no_receipt : List Record → List (List ℕ) → Option NoReceipt
no_receipt J ids = first (option_map unknown (find (λ h. not (has_id (accepted J) h)) ids) ∷ option_map lacks_value (find (lacks_one J) ids) ∷ [])

-- ---- nodes of the roster that aren't correct nodes of a world

-- a correct node of the world has this number
abbrev pub is_node : World → ℕ → Bool
is_node W n = list_any (λ c. c.node == n) W.nodes
