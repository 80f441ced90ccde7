-- The change that signs a checkpoint is made of bytes.
use Rattle.std.proofs.Common.{◌≡◌, ℕ, Bool, true, false, cond, ltb, List, length, map, subst, arith}
use Rattle.std.specs.Prelude.{codes, ◌==◌}
use Rattle.std.specs.List.{AllByRecursion}
use Rattle.sha2.specs.Sha256.{sha256}
use Rattle.depot_base.specs.declared.record.Record.{Record}
use Rattle.depot_base.specs.declared.update.Update.{Update}
use Rattle.depot_model.specs.declared.hello.HelloLeaf.{HelloLeaf}
use Rattle.depot_model.specs.readers.Checkpoints.{checkpoint_key, text_of_checkpoint}
use Rattle.depot_model.specs.checks.Checks.{Setting}
use Rattle.depot_model.specs.exchange.Hello.{named_leaf}
use Rattle.depot_model.specs.updates.History.{leaves_of, by_id}
use Rattle.depot_model.specs.journals.Journal.{accepted}
use Rattle.depot_model.specs.lists.Lists.{IsIn}
use Rattle.depot_model.specs.readers.Opening.{no_leaves, many_leaves, made_text, make_of, checkpoint_of}
use Rattle.depot_model.specs.texts.Texts.{hash_of_roster, text_of_roster}
use Rattle.depot_model.proofs.lists.Members.{from_map}
use Rattle.depot_requests.specs.Effects.{checkpoint_changes}
use Rattle.depot_world.proofs.of_bytes.ByteOwn.{IsByteChange}
use Rattle.depot_world.proofs.of_bytes.ByteTexts.{only_checkpoint, only_id}
use Rattle.depot_world.proofs.of_bytes.OnlyBytes.{OnlyBytes, only_both, only_sha256}

only_key : (text : List ℕ) → OnlyBytes (checkpoint_key text)
unfolding checkpoint_key
only_key text = only_both (codes "checkpoint:") (sha256 text)
    (omega arith, (omega arith, (omega arith, (omega arith, (omega arith, (omega arith, (omega arith, (omega arith, (omega arith, (omega arith, (omega arith, tt))))))))))) (only_sha256 text)

pub checkpoint_is_bytes : (text : List ℕ) → OnlyBytes text → AllByRecursion IsByteChange (checkpoint_changes text)
checkpoint_is_bytes text only = ((only_key text, (only, tt)), tt)

-- ---- the text that a node makes

only_roster_hash : (here : Setting) → OnlyBytes (hash_of_roster here.listed)
unfolding hash_of_roster
only_roster_hash here = only_sha256 (text_of_roster here.listed)

-- the leaves of some updates
only_leaf : (us : List Update) (l : HelloLeaf) → IsIn l (map named_leaf us) → OnlyBytes l.id
only_leaf us l on = let t = from_map named_leaf l us on in subst (λ (k : HelloLeaf). OnlyBytes k.id) t.1.1 (only_id t.0)

own_text : (here : Setting) (J : List Record) → OnlyBytes (text_of_checkpoint (checkpoint_of here J))
unfolding checkpoint_of
own_text here J = only_checkpoint (checkpoint_of here J) (only_roster_hash here) (only_leaf (by_id (leaves_of (accepted J))))

pub made_is_bytes : (here : Setting) (J : List Record) (text : List ℕ) → make_of here J ≡ made_text text → OnlyBytes text
unfolding make_of
made_is_bytes here J text e = by_empty (length (accepted J) == 0) e where
  n : ℕ
  n = length (leaves_of (accepted J))

  by_many : (b : Bool) → cond b (many_leaves n) (made_text (text_of_checkpoint (checkpoint_of here J))) ≡ made_text text → OnlyBytes text
  by_many true e = absurd cc
  by_many false e = let same : text_of_checkpoint (checkpoint_of here J) ≡ text = cc in subst OnlyBytes same (own_text here J)

  by_empty : (b : Bool) → cond b no_leaves (cond (ltb 1024 n) (many_leaves n) (made_text (text_of_checkpoint (checkpoint_of here J)))) ≡ made_text text → OnlyBytes text
  by_empty true e = absurd cc
  by_empty false e = by_many (ltb 1024 n) e
