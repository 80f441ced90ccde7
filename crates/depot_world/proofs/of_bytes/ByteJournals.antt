-- Journals whose records are made of bytes, and what they grow by.
use Rattle.std.proofs.Common.{◌≡◌, ℕ, Bool, true, false, cond, List, [], ◌∷◌, ◌++◌, Option, Some, None, Result, Ok, Err, refl, subst}
use Rattle.std.specs.List.{AllByRecursion, flat_map}
use Rattle.depot_base.specs.Parts.{is_below}
use Rattle.depot_base.specs.Statement.{writer_of}
use Rattle.depot_base.specs.declared.check.Check.{Check}
use Rattle.depot_base.specs.declared.check.Check.TheVariants as check
use Rattle.depot_base.specs.declared.update.Update.{Update}
use Rattle.depot_base.specs.declared.proof.Kind.{Kind}
use Rattle.depot_base.specs.declared.proof.Proof.TheVariants.{Pair}
use Rattle.depot_base.specs.declared.record.Record.{Record}
use Rattle.depot_base.specs.declared.record.Record.TheVariants.{Birth, OwnPut, OwnVoucher, Foreign, Conviction, Held}
use Rattle.depot_base.specs.declared.statement.Statement.{Statement}
use Rattle.depot_base.specs.declared.statement.Statement.TheVariants as statement
use Rattle.depot_base.specs.declared.statement.Signed.{Signed}
use Rattle.depot_model.specs.declared.taken.Taken.{Taken}
use Rattle.depot_model.specs.declared.taken.Taken.TheVariants.{New, Known}
use Rattle.depot_model.specs.checks.Checks.{Setting, Given, given_statement, given_proof, given_value, opponent, named_opponent, due, added, exposed, growth_by, growth, answer_to}
use Rattle.depot_model.specs.updates.Conviction.{proof_of}
use Rattle.depot_model.specs.journals.Journal.{accepted, accepted_by, foreign, foreign_by, is_convicted, is_vouched, update_in}
use Rattle.depot_model.specs.lists.Lists.{IsIn}
use Rattle.depot_model.specs.texts.Texts.{text_of_update, text_of_statement, text_of_signed, text_of_proof}
use Rattle.depot_model.proofs.lists.Members.{all_at}
use Rattle.depot_laws.proofs.convicting.Contrary.{opponent_is, named_opponent_is}
use Rattle.depot_laws.proofs.lists.Splits.{given_by}
use Rattle.depot_laws.proofs.of_worlds.Worlds.{giver_in}
use Rattle.depot_base.proofs.GeneralLaws.{all_both}
use Rattle.depot_world.proofs.of_bytes.OnlyBytes.{OnlyBytes}
use Rattle.depot_world.proofs.of_bytes.ByteTexts.{only_pair, statement_in_signed, update_statement}

-- the texts in a record are bytes
abbrev pub HoldsBytes : Record → Type 0
HoldsBytes (Birth node roster) = Unit {0}
HoldsBytes (OwnPut u values) = OnlyBytes (text_of_update u) × AllByRecursion OnlyBytes values
HoldsBytes (OwnVoucher v) = OnlyBytes (text_of_statement (statement.Voucher v))
HoldsBytes (Foreign s) = OnlyBytes (text_of_signed s)
HoldsBytes (Conviction p) = OnlyBytes (text_of_proof p)
HoldsBytes (Held value) = OnlyBytes value

abbrev pub AllHold : List Record → Type 0
AllHold J = AllByRecursion HoldsBytes J

-- ---- what is read of them

-- what a decoded list of records says holds of the journal
pub read_holds : {X : Type 0} (f : Record → List X) (P : X → Type 0) → ((r : Record) → HoldsBytes r → AllByRecursion P (f r)) → (J : List Record) (x : X) → AllHold J → IsIn x (flat_map f J) → P x
read_holds f P told J x hold on = let g = given_by f x J on in all_at P (f g.by) x (told g.by (all_at HoldsBytes J g.by hold (giver_in f x J g))) g.given

abbrev IsByteUpdate : Update → Type 0
IsByteUpdate u = OnlyBytes (text_of_update u)

foreign_is : (r : Record) → HoldsBytes r → AllByRecursion (λ (s : Signed). OnlyBytes (text_of_signed s)) (foreign_by r)
foreign_is (Foreign s) holds = (holds, tt)
foreign_is r holds = tt

-- a statement of another that is kept
pub foreign_holds : (J : List Record) (s : Signed) → AllHold J → IsIn s (foreign J) → OnlyBytes (text_of_signed s)
foreign_holds J s hold on = read_holds foreign_by (λ (t : Signed). OnlyBytes (text_of_signed t)) foreign_is J s hold on

update_is : (s : Statement) → OnlyBytes (text_of_statement s) → AllByRecursion IsByteUpdate (update_in s)
update_is (statement.Update u) only = (subst OnlyBytes (update_statement u) only, tt)
update_is (statement.Voucher v) only = tt

accepted_is : (r : Record) → HoldsBytes r → AllByRecursion IsByteUpdate (accepted_by r)
accepted_is (OwnPut u values) holds = (holds.0, tt)
accepted_is (Foreign s) holds = update_is s.statement (statement_in_signed s holds)
accepted_is r holds = tt

-- an accepted update
pub accepted_holds : (J : List Record) (u : Update) → AllHold J → IsIn u (accepted J) → OnlyBytes (text_of_update u)
accepted_holds J u hold on = read_holds accepted_by IsByteUpdate accepted_is J u hold on

-- ---- what they grow by

-- what is given is bytes
abbrev pub GivesBytes : Given → Type 0
GivesBytes (given_statement s) = OnlyBytes (text_of_signed s)
GivesBytes (given_proof p) = OnlyBytes (text_of_proof p)
GivesBytes (given_value v) = OnlyBytes v

proof_holds : (k : Kind) (a b : Signed) → OnlyBytes (text_of_signed a) → OnlyBytes (text_of_signed b) → OnlyBytes (text_of_proof (proof_of k a b))
unfolding proof_of
proof_holds k a b a_holds b_holds = by_order (is_below a.body b.body) where
  by_order : (x : Bool) → OnlyBytes (text_of_proof (cond x (Pair k a b) (Pair k b a)))
  by_order true = only_pair k a b a_holds b_holds
  by_order false = only_pair k b a b_holds a_holds

due_holds : (J : List Record) (s : Signed) (o : Option (Signed × Kind)) → AllHold J → OnlyBytes (text_of_signed s) → ((by : Signed × Kind) → o ≡ Some by → IsIn by.0 (foreign J)) → AllHold (due J s o)
unfolding due
due_holds J s None hold only on = tt
due_holds J s (Some by) hold only on = by_writer (is_convicted J (writer_of s.statement)) (proof_holds by.1 by.0 s (foreign_holds J by.0 hold (on by refl)) only) where
  by_writer : (b : Bool) → OnlyBytes (text_of_proof (proof_of by.1 by.0 s)) → AllHold (cond b [] (Conviction (proof_of by.1 by.0 s) ∷ []))
  by_writer true holds = tt
  by_writer false holds = (holds, tt)

fork_holds : (J : List Record) (s : Signed) → AllHold J → OnlyBytes (text_of_signed s) → AllHold (due J s (opponent (foreign J) s.statement))
fork_holds J s hold only = due_holds J s (opponent (foreign J) s.statement) hold only (λ by is. (opponent_is (foreign J) s.statement by is).on)

step_holds : (J : List Record) (h : List ℕ) (s : Signed) → AllHold J → OnlyBytes (text_of_signed s) → AllHold (due J s (named_opponent (foreign J) h s.statement))
step_holds J h s hold only = due_holds J s (named_opponent (foreign J) h s.statement) hold only (λ by is. (named_opponent_is (foreign J) h s.statement by is).on)

added_holds : (J : List Record) (x : Given) → AllHold J → GivesBytes x → AllHold (added J x)
unfolding added
added_holds J (given_statement s) hold only = by_voucher (is_vouched J s.statement) (fork_holds J s hold only) where
  by_voucher : (b : Bool) → AllHold (due J s (opponent (foreign J) s.statement)) → AllHold (cond b (due J s (opponent (foreign J) s.statement)) [] ++ Foreign s ∷ [])
  by_voucher true holds = all_both HoldsBytes (due J s (opponent (foreign J) s.statement)) (Foreign s ∷ []) holds (only, tt)
  by_voucher false holds = (only, tt)
added_holds J (given_proof p) hold only = (only, tt)
added_holds J (given_value v) hold only = (only, tt)

exposed_holds : (J : List Record) (x : Given) (c : Check) → AllHold J → GivesBytes x → AllHold (exposed J x c)
exposed_holds J (given_statement s) (check.Forked kept came kind) hold only = fork_holds J s hold only
exposed_holds J (given_statement s) (check.Backward h) hold only = step_holds J h s hold only
exposed_holds J x c hold only = tt

grows_by : (J : List Record) (x : Given) (a : Result Taken Check) → AllHold J → GivesBytes x → AllHold (growth_by J x a)
grows_by J x (Ok Known) hold only = tt
grows_by J x (Ok New) hold only = added_holds J x hold only
grows_by J x (Err c) hold only = exposed_holds J x c hold only

pub growth_holds : (here : Setting) (J : List Record) (x : Given) → AllHold J → GivesBytes x → AllHold (growth here J x)
unfolding growth
growth_holds here J x hold only = grows_by J x (answer_to here J x) hold only
