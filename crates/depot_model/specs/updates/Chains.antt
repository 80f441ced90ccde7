-- Chains of updates by prev.
use Rattle.std.specs.Prelude.{◌≡◌, ℕ, ◌<◌, List, [], ◌∷◌}
use Rattle.depot_base.specs.Pairs.{AllPairsByRecursion}
use Rattle.depot_base.specs.declared.update.Update.{Update}
use Rattle.depot_model.specs.lists.Lists.{IsIn}
use Rattle.depot_model.specs.texts.Texts.{id_of_update}

-- each has the id of the one just before it as its prev, and the first has h
abbrev pub IsChain : List ℕ → List Update → Type 0
IsChain h [] = Unit {0}
IsChain h (u ∷ us) = (u.prev ≡ h) × IsChain (id_of_update u) us

-- both seq and clock are lower
pub record IsEarlierStep (t u : Update) : Type 0 where
  pub seq : t.seq < u.seq
  pub clock : t.clock < u.clock

-- each is an earlier step than all that come after it
abbrev pub RisesInSteps : List Update → Type 0
RisesInSteps = AllPairsByRecursion IsEarlierStep

-- one of these updates has the prev of u as its id, is of the same writer, and is an earlier step
pub record HasPrev (us : List Update) (u : Update) : Type 0 where
  pub prev : Update
  pub known : IsIn prev us
  pub id : id_of_update prev ≡ u.prev
  pub writer : prev.writer ≡ u.writer
  pub earlier : IsEarlierStep prev u
