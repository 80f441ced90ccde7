-- What a node answers to a put, and the journal after it.
use Rattle.std.specs.Prelude.{◌≡◌, ◌≢◌, List, [], ◌∷◌, ◌++◌, Some, None, Result, Ok, Err, IsErrAnd, IsErrOf}
use Rattle.std.specs.List.{AllByRecursion}
use Rattle.depot_base.specs.Sized.{IsKey, IsValue}
use Rattle.depot_base.specs.Writes.{value_in_change}
use Rattle.depot_base.specs.declared.update.Update.{Update}
use Rattle.depot_base.specs.declared.write.Change.{Change}
use Rattle.depot_base.specs.declared.record.Record.{Record}
use Rattle.depot_base.specs.declared.record.Record.TheVariants.{OwnPut}
use Rattle.depot_model.specs.checks.Checks.{Setting}
use Rattle.depot_model.specs.checks.Limits.{Limit, spent, tips, collides, full, limit_of_put, IsCutShort}
use Rattle.depot_model.specs.checks.Own.{next_own, values_of}
use Rattle.depot_model.specs.journals.Replicas.{IsNodeCall}
use Rattle.depot_model.specs.texts.Texts.{id_of_update}
use Rattle.depot_model.specs.declared.node_state.NodeState.{Ghosts}
use Rattle.depot_model.specs.declared.put_answers.PutDone.{PutDone}
use Rattle.depot_model.specs.declared.put_answers.PutError.{PutError}
use Rattle.depot_model.specs.declared.put_answers.PutError.TheVariants as refused

-- the key of a change is a key, and its value, where it has one, a value
abbrev pub HasSizes : Change → Type 0
HasSizes c = IsKey c.key × AllByRecursion IsValue (value_in_change c)

-- what is said of an update that was put
abbrev pub put_done_of : Update → PutDone
put_done_of u = record { id = id_of_update u; seq = u.seq; clock = u.clock }

-- the records that a put appends: the next own update, with its values
abbrev pub put_records : Setting → List Record → List Change → List Record
put_records here J changes = OwnPut (next_own here.me J changes) (values_of changes) ∷ []

-- the put meets this limit, and nothing is appended
abbrev pub IsLimited : Setting → List Record → List Change → Limit → List Record → Type 0
IsLimited here J changes limit then = (limit_of_put here J changes ≡ Some limit) × (then ≡ J)

-- What a node answers to a put of changes, and the journal after it. Memory may come in place of each answer, and then
-- nothing is appended; nor is it by a stopped node.
abbrev pub Puts : Setting → List Record → List Change → Result PutDone PutError → List Record → Type 0
Puts here J changes (Ok done) then = (limit_of_put here J changes ≡ None) × ((done ≡ put_done_of (next_own here.me J changes)) × (then ≡ J ++ put_records here J changes))
Puts here J changes (Err refused.Memory) then = then ≡ J
Puts here J changes (Err refused.Disk) then = (limit_of_put here J changes ≡ None) × IsCutShort J (put_records here J changes) then
Puts here J changes (Err refused.Stopped) then = then ≡ J
Puts here J changes (Err (refused.Spent n)) then = IsLimited here J changes (spent n) then
Puts here J changes (Err (refused.Tips n)) then = IsLimited here J changes (tips n) then
Puts here J changes (Err (refused.Collides h)) then = IsLimited here J changes (collides h) then
Puts here J changes (Err (refused.Full what)) then = IsLimited here J changes (full what) then

-- the call was asked to put these changes, and answered so; after each error but Disk nothing is appended
abbrev pub IsPutCall : {N : Type 0} → Ghosts N → N → N → List Change → Result PutDone PutError → Type 0
IsPutCall g old new changes result =
    IsNodeCall g old new (put_records (g.stands old) (g.records old) changes)
    (IsErrOf result refused.Stopped) (IsErrOf result refused.Disk) (IsErrAnd result (λ e. e ≢ refused.Disk))
