-- What a text is opened to: it is read, then its roster is checked, then its leaves.
use Rattle.std.proofs.Common.{◌≡◌, ℕ, List, length, Bool, true, false, cond, Option, Ok, Err, sym, ap, ◌∙◌, arith}
use Rattle.std.specs.Str.{bytes_eq}
use Rattle.depot_base.specs.Format.{whole, FirstFault}
use Rattle.depot_base.specs.Sized.{IsValue}
use Rattle.depot_base.specs.declared.record.Record.{Record}
use Rattle.depot_base.specs.declared.update.Update.{Update}
use Rattle.depot_base.proofs.Combined.{whole_again, whole_stops}
use Rattle.depot_model.specs.declared.hello.HelloLeaf.{HelloLeaf}
use Rattle.depot_model.specs.readers.Checkpoints.{Checkpoint, checkpoint, IsCheckpoint, text_of_checkpoint}
use Rattle.depot_model.specs.checks.Checks.{Setting}
use Rattle.depot_model.specs.journals.Journal.{accepted}
use Rattle.depot_model.specs.readers.Opening.{unknown_leaf, ids_of, Opened, ill_at, of_roster, opened_unless, opened_as, opened_text}
use Rattle.depot_model.specs.checks.Taking.{at_start}
use Rattle.depot_model.specs.texts.Texts.{hash_of_roster}
use Rattle.depot_model.proofs.of_texts.CheckpointLaws.{checkpoint_lawful}
use Rattle.depot_trim.specs.Opens.{Opens, IsOfOther, IsCheckpointRead}
use Rattle.depot_trim.specs.declared.opening.OpenError.{OpenError}
use Rattle.depot_trim.specs.declared.opening.OpenError.TheVariants as failed

-- ---- the text

-- a checkpoint's text is short enough to be a value
pub text_is_value : (text : List ℕ) (c : Checkpoint) → IsCheckpoint c → text ≡ text_of_checkpoint c → IsValue text
text_is_value text c fits is = omega (arith, checkpoint_lawful.short c fits, ap length is)

-- a checkpoint's text reads as it
pub reads_as : (text : List ℕ) (c : Checkpoint) → IsCheckpoint c → text ≡ text_of_checkpoint c → whole checkpoint (at_start text) ≡ Ok c
reads_as text c fits is = ap (λ (t : List ℕ). whole checkpoint (at_start t)) is ∙ whole_again checkpoint 34852 checkpoint_lawful 0 c fits

-- and another text goes wrong at its first fault
pub goes_wrong : (text : List ℕ) (at : ℕ) → FirstFault checkpoint text at → whole checkpoint (at_start text) ≡ Err at
goes_wrong text at fault = whole_stops checkpoint 34852 checkpoint_lawful 0 text at fault ∙ ap (λ (n : ℕ). Err n) (omega arith)

-- ---- what it is opened to

module _ (here : Setting) (J : List Record) (text : List ℕ) where
  -- the outcome of a checkpoint, by whether its roster is the node's
  abbrev comes_to : Checkpoint → Bool → Opened
  comes_to c same = cond same (opened_unless (ids_of c) (unknown_leaf (accepted J) c.leaves)) (of_roster c.roster)

  pub ill_is : (at : ℕ) → FirstFault checkpoint text at → opened_text here J text ≡ ill_at at
  unfolding opened_text
  ill_is at fault = ap (opened_as here J) (goes_wrong text at fault)

  read_is : (c : Checkpoint) (same : Bool) → IsCheckpoint c → text ≡ text_of_checkpoint c → bytes_eq c.roster (hash_of_roster here.listed) ≡ same → opened_text here J text ≡ comes_to c same
  unfolding opened_text
  read_is c same fits is test = ap (opened_as here J) (reads_as text c fits is) ∙ ap (comes_to c) test

  -- its roster is given as this, and the node's as that
  read_by : (c : Checkpoint) (given mine : List ℕ) (same : Bool) → IsCheckpoint c → text ≡ text_of_checkpoint c → given ≡ c.roster → mine ≡ hash_of_roster here.listed → bytes_eq given mine ≡ same → opened_text here J text ≡ comes_to c same
  read_by c given mine same fits is own kept test = read_is c same fits is (rw (sym own, sym kept) test)

  -- they differ
  pub other_is : (c : Checkpoint) (given mine : List ℕ) → IsCheckpoint c → text ≡ text_of_checkpoint c → given ≡ c.roster → mine ≡ hash_of_roster here.listed → bytes_eq given mine ≡ false → IsOfOther here J text given mine
  other_is c given mine fits is own kept differs = (read_by c given mine false fits is own kept differs ∙ ap (λ (h : List ℕ). of_roster h) (sym own), kept)

  -- they are one, and this is what its leaves say
  pub leaves_say : (c : Checkpoint) (given mine : List ℕ) (us : List Update) (leaves : List HelloLeaf) (o : Option (List ℕ)) → IsCheckpoint c → text ≡ text_of_checkpoint c → given ≡ c.roster → mine ≡ hash_of_roster here.listed → bytes_eq given mine ≡ true
      → us ≡ accepted J → leaves ≡ c.leaves → o ≡ unknown_leaf us leaves → opened_text here J text ≡ opened_unless (ids_of c) o
  leaves_say c given mine us leaves o fits is own kept same all listed found =
      read_by c given mine true fits is own kept same ∙ ap (opened_unless (ids_of c)) (sym (found ∙ ap (λ (x : List Update). unknown_leaf x leaves) all ∙ ap (unknown_leaf (accepted J)) listed))

  -- what isn't read isn't opened
  pub not_read : (e : OpenError) → IsCheckpointRead text (Err e) → Opens here J text (Err e)
  not_read failed.Memory r = tt
  not_read (failed.IllFormed at) r = ill_is at r
  not_read (failed.OtherRoster given mine) r = absurd r
  not_read (failed.Unknown id) r = absurd r
