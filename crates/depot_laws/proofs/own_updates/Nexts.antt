-- The own updates of a lawful journal: each is the next one but for what it writes.
use Rattle.std.proofs.Common.{◌≡◌, ℕ, List, map, ap}
use Rattle.depot_base.specs.declared.update.Update.{Update}
use Rattle.depot_base.specs.declared.write.Change.{Change}
use Rattle.depot_base.specs.declared.record.Record.{Record}
use Rattle.depot_model.specs.checks.Checks.{Setting}
use Rattle.depot_model.specs.checks.Own.{write_of, changes_of, next_with, next_own}
use Rattle.depot_model.specs.journals.Lawful.{MayPut}
use Rattle.depot_model.proofs.of_texts.ContentLaws.{own_with}

pub next_of : {here : Setting} {J : List Record} {u : Update} {values : List (List ℕ)} → MayPut here J u values → u ≡ next_with here.me J u.writes
next_of {here = here} {J = J} {u = u} {values = values} may = own_with here.me J (changes_of u.writes values) u may.next

-- the next own update of some changes has their writes
pub own_writes : (me : ℕ) (J : List Record) (cs : List Change) (u : Update) → u ≡ next_own me J cs → u.writes ≡ map write_of cs
unfolding next_own
own_writes me J cs u next = ap (λ (x : Update). x.writes) next
