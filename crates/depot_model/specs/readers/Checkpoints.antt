-- A checkpoint: leaves that, with their pasts, every node of the roster has accepted, and the key that its text is put
-- under.
use Rattle.std.specs.Prelude.{ℕ, List, ◌++◌, length, take, Bool, ◌&&◌, ◌==◌, codes}
use Rattle.std.specs.Int.{w16}
use Rattle.std.specs.Str.{bytes_eq}
use Rattle.sha2.specs.Sha256.{sha256}
use Rattle.depot_base.specs.Format.{Format, number, constant, field, made_of_fields, list_of}
use Rattle.depot_base.specs.Parts.{digest}
use Rattle.depot_model.specs.declared.hello.HelloLeaf.{HelloLeaf}
use Rattle.depot_model.specs.exchange.Hello.{hello_leaf, hello_leaf_rises}

-- the hash of its roster, and its leaves, at most 1,024, rising strictly by (writer, id)
pub record Checkpoint : Type 0 where
  pub roster : List ℕ
  pub leaves : List HelloLeaf

-- version 1, kind 6, the roster's hash, and then the leaves after their count
unfoldable pub checkpoint : Format Checkpoint
checkpoint =
    field (constant 1) (λ c. 1) λ version.
    field (constant 6) (λ c. 6) λ kind_byte.
    field digest (λ c. c.roster) λ roster.
    field (number w16 1 1024) (λ c. length c.leaves) λ count.
    field (list_of count hello_leaf hello_leaf_rises) (λ c. c.leaves) λ leaves.
    made_of_fields (record { roster = roster; leaves = leaves })

-- which checkpoints have a text, and that text
abbrev pub IsCheckpoint : Checkpoint → Type 0
IsCheckpoint c = checkpoint.fits c

abbrev pub text_of_checkpoint : Checkpoint → List ℕ
text_of_checkpoint c = checkpoint.text c

-- the key that a checkpoint's text is put under: 11 bytes and the text's SHA-256, 43 bytes
unfoldable pub checkpoint_key : List ℕ → List ℕ
checkpoint_key text = codes "checkpoint:" ++ sha256 text

-- a key of this form
unfoldable pub is_checkpoint_key : List ℕ → Bool
is_checkpoint_key key = (length key == 43) && bytes_eq (take 11 key) (codes "checkpoint:")
