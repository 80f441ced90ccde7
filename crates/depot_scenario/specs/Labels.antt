-- What labels name, in a map that keeps them in order.
use Rattle.std.specs.Prelude.{◌≡◌, ℕ, List, [], ◌∷◌, ◌++◌, Bool, true, false, Option, Some, None, Vec, option_map, option_and_then}
use Rattle.std.specs.Cmp.Lexicographic.{slice_cmp}
use Rattle.std.specs.Map.{lookup}
use Rattle.std.specs.Option.{option_map_or}
use Rattle.std.specs.Ordering.{nat_cmp, is_eq}
use Rattle.std.specs.declared.alloc.Global.{Global}
use Rattle.depot_base.specs.declared.statement.Signed.{Signed}
use Rattle.depot_model.specs.lists.Lists.{when}
use Rattle.depot_schedule.specs.declared.event.Event.{Event}
use Rattle.depot_schedule.specs.declared.event.Event.TheVariants as event
use Rattle.depot_world.specs.Run.{Labelled, made_in}
use Rattle.depot_scenario.specs.declared.label_table.Given.{Given}

-- what a label names among these
abbrev pub named_in : {V : Type 0} → List ℕ → List (Vec ℕ Global × V) → Option V
named_in label entries = lookup (λ k. is_eq (slice_cmp nat_cmp label k.items)) entries

-- what was made under a label, as it is kept
abbrev pub given_of_label : Labelled → Given
given_of_label m = record { bytes = m.bytes; signed = m.signed; plain = m.plain }

-- each label names what it names in a run
abbrev pub AreLabels : List (Vec ℕ Global × Given) → List Labelled → Type 0
AreLabels entries labels = (label : List ℕ) → named_in label entries ≡ option_map given_of_label (made_in labels label)

-- Each label names what it named in a run before this was made.
abbrev pub TakesIn : List (Vec ℕ Global × Given) → Labelled → List (Vec ℕ Global × Given) → Type 0
TakesIn old m new = (labels : List Labelled) → AreLabels old labels → AreLabels new (labels ++ m ∷ [])

-- the bytes of a label of a run with these labels
abbrev pub bytes_in : List Labelled → List ℕ → List ℕ
bytes_in labels label = option_map_or (λ m. m.bytes) (made_in labels label) []

-- the signed statement of a label of a run with these labels
abbrev pub signed_of_label : List Labelled → List ℕ → Option Signed
signed_of_label labels label = option_and_then (λ m. m.signed) (made_in labels label)

-- the bytes of a plain label of a run with these labels
abbrev pub plain_in : List Labelled → List ℕ → Option (List ℕ)
plain_in labels label = option_and_then (λ m. when m.plain m.bytes) (made_in labels label)

-- ---- labels of nodes' events

-- labels, and the one that a node's bytes are given, if any
abbrev pub labels_with : List Labelled → Option (List ℕ) → List ℕ → List Labelled
labels_with labels None bytes = labels
labels_with labels (Some label) bytes = labels ++ record { label = label; bytes = bytes; signed = None; plain = false } ∷ []

-- ---- references

-- an event names labels by references
abbrev pub has_references : Event → Bool
has_references (event.Update label writer seq clock prev key value deps history) = true
has_references (event.Updates label writer seq clock prev changes deps history) = true
has_references (event.Voucher label writer seq refs) = true
has_references (event.Receipt node refs) = true
has_references (event.Settled node reference k) = true
has_references e = false
