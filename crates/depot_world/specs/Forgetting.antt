-- Labels that events name, and runs that agree except for labels that no later event names.
use Rattle.std.specs.Prelude.{◌≡◌, ℕ, List, [], ◌∷◌, ◌++◌, filter, not, Option, Some, None}
use Rattle.std.specs.List.{flat_map}
use Rattle.std.specs.Str.{bytes_eq}
use Rattle.depot_model.specs.lists.Lists.{IsIn}
use Rattle.depot_schedule.specs.declared.event.Event.{Event}
use Rattle.depot_schedule.specs.declared.event.Event.TheVariants as event
use Rattle.depot_schedule.specs.declared.event.Ref.{Ref}
use Rattle.depot_schedule.specs.declared.event.Ref.TheVariants as ref
use Rattle.depot_world.specs.Run.{Labelled, Run, made_in}
use Rattle.depot_world.specs.Setups.{Setup}
use Rattle.depot_world.specs.Transcript.{done, lines_of}

-- ---- what events name

-- the label that a reference is, if it is one
abbrev pub labels_of_ref : Ref → List (List ℕ)
labels_of_ref (ref.Label label) = label ∷ []
labels_of_ref (ref.Own node seq) = []

-- the same of a reference that may be absent, and of several
abbrev pub labels_of_prev : Option Ref → List (List ℕ)
labels_of_prev None = []
labels_of_prev (Some r) = labels_of_ref r

abbrev pub labels_of_refs : List Ref → List (List ℕ)
labels_of_refs refs = flat_map labels_of_ref refs

-- the labels that an event names, the one that it makes too; the name of a reader is no label
abbrev pub labels_in : Event → List (List ℕ)
labels_in (event.Hello node label) = label ∷ []
labels_in (event.Bundle node hello label) = hello ∷ label ∷ []
labels_in (event.Give node label size) = label ∷ []
labels_in (event.Update label writer seq clock prev key value deps history) = label ∷ (labels_of_prev prev ++ labels_of_refs deps)
labels_in (event.Updates label writer seq clock prev changes deps history) = label ∷ (labels_of_prev prev ++ labels_of_refs deps)
labels_in (event.Voucher label writer seq refs) = label ∷ labels_of_refs refs
labels_in (event.Proof label kind first second) = label ∷ first ∷ second ∷ []
labels_in (event.Hollow label voucher plain) = label ∷ voucher ∷ plain ∷ []
labels_in (event.Judge label) = label ∷ []
labels_in (event.Raw label bytes) = label ∷ []
labels_in (event.Cut label source start count) = label ∷ source ∷ []
labels_in (event.Flip label source place) = label ∷ source ∷ []
labels_in (event.Join label first second) = label ∷ first ∷ second ∷ []
labels_in (event.Receipt node refs) = labels_of_refs refs
labels_in (event.Settled node reference k) = labels_of_ref reference
labels_in (event.Checkpoint node label) = label ∷ []
labels_in (event.Sign node label) = label ∷ []
labels_in (event.Trim node label name) = label ∷ []
labels_in (event.Tgive name label) = label ∷ []
labels_in e = []

-- none of these events names this label
abbrev pub NoneNames : List Event → List ℕ → Type 0
NoneNames es label = (e : Event) → IsIn e es → IsIn label (labels_in e) → ⊥

-- ---- runs

-- each of these names names the same in both
abbrev pub NameTheSame : List (List ℕ) → List Labelled → List Labelled → Type 0
NameTheSame names whole few = (label : List ℕ) → IsIn label names → made_in whole label ≡ made_in few label

-- so do those that these events name
abbrev pub NameTheSameIn : List Event → List Labelled → List Labelled → Type 0
NameTheSameIn es whole few = (e : Event) → IsIn e es → NameTheSame (labels_in e) whole few

-- a run with other labels
abbrev pub with_labels : Run → List Labelled → Run
with_labels run labels = record run { labels = labels }

-- what was made under other labels
abbrev pub labels_without : List ℕ → List Labelled → List Labelled
labels_without label labels = filter (λ m. not (bytes_eq m.label label)) labels

-- a run is another one, but for labels that none of these events names
pub record IsAlikeFor (es : List Event) (whole few : Run) : Type 0 where
  pub others : few ≡ with_labels whole few.labels
  pub named : NameTheSameIn es whole.labels few.labels

-- An event prints the same lines of two runs, which then agree for these events.
pub record GoesAlike (setup : Setup) (es : List Event) (e : Event) (whole few : Run) : Type 0 where
  pub lines : lines_of e (done setup few e) ≡ lines_of e (done setup whole e)
  pub run : IsAlikeFor es (done setup whole e).run (done setup few e).run
