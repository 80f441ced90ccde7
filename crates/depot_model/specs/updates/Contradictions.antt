-- How two statements of one writer contradict each other (equivocation, or a step back), and what a voucher may not
-- name.
use Rattle.std.specs.Prelude.{◌≡◌, ℕ, List, Bool, false, not, is_ok, ◌&&◌, ◌||◌, ◌==◌, nat_le, Option, [], ◌∷◌}
use Rattle.std.specs.Str.{bytes_eq}
use Rattle.sha2.specs.Sha256.{sha256}
use Rattle.depot_base.specs.Format.{whole}
use Rattle.depot_base.specs.Statement.{writer_of, seq_of}
use Rattle.depot_base.specs.declared.update.Update.{Update}
use Rattle.depot_base.specs.declared.statement.Statement.{Statement}
use Rattle.depot_base.specs.declared.statement.Statement.TheVariants as statement
use Rattle.depot_base.specs.declared.proof.Kind.{Kind}
use Rattle.depot_base.specs.declared.proof.Kind.TheVariants.{SameNumber, SamePrev, Backward, NotUpdate}
use Rattle.depot_base.specs.declared.voucher.Voucher.{Voucher}
use Rattle.depot_model.specs.lists.Lists.{IsIn, is_among, when, first}
use Rattle.depot_model.specs.texts.Texts.{IsUpdate, update_body, text_of_statement, text_of_update, id_of_update}
use Rattle.depot_model.specs.updates.Order.{prevs}

-- the second names the first as its prev, and its seq or its clock isn't greater
abbrev pub goes_back : Update → Update → Bool
goes_back t u = is_among (id_of_update t) (prevs u) && (nat_le u.seq t.seq || nat_le u.clock t.clock)

-- both are updates, of which the test holds
abbrev pub are_updates : (Update → Update → Bool) → Statement → Statement → Bool
are_updates test (statement.Update t) (statement.Update u) = test t u
are_updates test (statement.Update t) (statement.Voucher v) = false
are_updates test (statement.Voucher v) b = false

-- what each kind says of the two
unfoldable pub is_of_kind : Kind → Statement → Statement → Bool
is_of_kind SameNumber a b = seq_of a == seq_of b
is_of_kind SamePrev a b = are_updates (λ t u. bytes_eq t.prev u.prev) a b
is_of_kind Backward a b = are_updates (λ t u. goes_back t u || goes_back u t) a b
is_of_kind NotUpdate a b = false

-- two statements of one writer with different bodies, as the kind says
unfoldable pub contradicts : Kind → Statement → Statement → Bool
contradicts k a b = (writer_of a == writer_of b) && not (bytes_eq (text_of_statement a) (text_of_statement b)) && is_of_kind k a b

-- the first kind in which the two contradict each other
unfoldable pub kind_of : Statement → Statement → Option Kind
kind_of a b = first (when (contradicts SameNumber a b) SameNumber ∷ when (contradicts SamePrev a b) SamePrev ∷ when (contradicts Backward a b) Backward ∷ [])

-- these bytes are the text of an update
unfoldable pub is_update_text : List ℕ → Bool
is_update_text text = is_ok (whole update_body (record { at = 0; rest = text }))

-- a voucher names SHA-256 of a text that is no update's
unfoldable pub is_hollow : Statement → List ℕ → Bool
is_hollow (statement.Update u) text = false
is_hollow (statement.Voucher v) text = is_among (sha256 text) v.ids && not (is_update_text text)

-- the same without a reader: the statement is a voucher that names SHA-256 of the text, and no update has this text
pub record IsHollow (s : Statement) (text : List ℕ) : Type 0 where
  pub voucher : Voucher
  pub is : s ≡ statement.Voucher voucher
  pub named : IsIn (sha256 text) voucher.ids
  pub none : (u : Update) → IsUpdate u → text ≡ text_of_update u → ⊥
