-- Which journals a correct node may have.
use Rattle.std.specs.Prelude.{◌≡◌, ℕ, ◌<◌, ◌≤◌, List, [], ◌∷◌, ◌++◌, length, Bool, true, false, Ok}
use Rattle.depot_base.specs.declared.limits.TheConstants.{MOST_ENTRIES}
use Rattle.depot_base.specs.declared.update.Update.{Update}
use Rattle.depot_base.specs.declared.voucher.Voucher.{Voucher}
use Rattle.depot_base.specs.declared.record.Record.{Record}
use Rattle.depot_base.specs.declared.record.Record.TheVariants.{Birth, OwnPut, OwnVoucher, Foreign, Conviction, Held}
use Rattle.depot_model.specs.declared.taken.Taken.TheVariants.{New}
use Rattle.depot_model.specs.lists.Lists.{IsIn}
use Rattle.depot_model.specs.texts.Texts.{id_of_update, hash_of_roster}
use Rattle.depot_model.specs.texts.Records.{IsRecord}
use Rattle.depot_model.specs.journals.Journal.{accepted, own, is_foreign}
use Rattle.depot_model.specs.checks.Checks.{Setting, given_statement, given_proof, given_value, answer_to, growth}
use Rattle.depot_model.specs.checks.Own.{next_own, changes_of, IsFresh, leaf_count}
use Rattle.depot_model.specs.checks.Room.{HasRoom}

-- an own put: the next own update of the changes that its writes and these values make, of a fresh id, with room for its entries, signed by a leaf that is left
pub record MayPut (here : Setting) (J : List Record) (u : Update) (values : List (List ℕ)) : Type 0 where
  pub next : u ≡ next_own here.me J (changes_of u.writes values)
  pub fresh : IsFresh J (id_of_update u)
  pub tips : length u.deps ≤ MOST_ENTRIES
  pub leaf : length (own J) < leaf_count here.listed here.me

-- an own voucher: the node's next statement, for accepted updates of others, signed by a leaf that is left
pub record MayVouch (here : Setting) (J : List Record) (v : Voucher) : Type 0 where
  pub node : v.node ≡ here.me
  pub seq : v.seq ≡ length (own J)
  pub leaf : length (own J) < leaf_count here.listed here.me
  pub ids : (h : List ℕ) → IsIn h v.ids → is_foreign here.me (accepted J) h ≡ true

-- what is asked of a record of each kind after these
abbrev pub MayFollow : Setting → List Record → Record → Type 0
MayFollow here J (Birth node roster) = (node ≡ here.me) × (roster ≡ hash_of_roster here.listed)
MayFollow here J (OwnPut u values) = MayPut here J u values
MayFollow here J (OwnVoucher v) = MayVouch here J v
MayFollow here J (Foreign s) = (answer_to here J (given_statement s) ≡ Ok New) × (growth here J (given_statement s) ≡ Foreign s ∷ [])
MayFollow here J (Conviction p) = answer_to here J (given_proof p) ≡ Ok New
MayFollow here J (Held value) = answer_to here J (given_value value) ≡ Ok New

abbrev pub is_birth : Record → Bool
is_birth (Birth node roster) = true
is_birth r = false

abbrev pub is_empty : List Record → Bool
is_empty [] = true
is_empty (r ∷ rs) = false

-- a record is allowed after these: a birth comes first and nowhere else
pub record IsAllowed (here : Setting) (J : List Record) (r : Record) : Type 0 where
  pub first : is_birth r ≡ is_empty J
  pub text : IsRecord r
  pub may : MayFollow here J r
  pub room : HasRoom here.me J (r ∷ [])

-- each record is allowed after those before it
pub record IsLawful (here : Setting) (J : List Record) : Type 0 where
  pub each : (before : List Record) (r : Record) (after : List Record) → J ≡ before ++ r ∷ after → IsAllowed here before r
