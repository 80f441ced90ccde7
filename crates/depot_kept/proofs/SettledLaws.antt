-- The maps of the newest links, with one more.
use Rattle.std.proofs.Common.{◌≡◌, ℕ, List, [], Bool, cond, eqb, ◌&&◌, Some, None, refl, ap, ◌∙◌, if◌then◌else◌}
use Rattle.std.specs.BTreeMap.{BTreeMap, Updates, get}
use Rattle.std.specs.Ordering.{nat_cmp, is_eq}
use Rattle.std.specs.Cmp.Lexicographic.{slice_cmp}
use Rattle.std.proofs.lemmas.Map.Text.{is_eq-slice_cmp}
use Rattle.depot_base.proofs.GeneralLaws.{is_eq-nat_cmp, is_eq-then}
use Rattle.depot_kept.specs.declared.marks.StatementMark.{StatementMark}
use Rattle.depot_kept.specs.declared.marks.StatementMark.TheVariants as marks
use Rattle.depot_kept.specs.declared.settled.Prev.{Prev}
use Rattle.depot_kept.specs.declared.settled.Settled.{Settled}
use Rattle.depot_kept.specs.Links.{same_mark}
use Rattle.depot_kept.specs.Settled.{id_cmp, prev_cmp, settled}

-- nothing is in empty maps
pub none_settled : (s : Settled) → s.numbers.entries ≡ [] → s.prevs.entries ≡ [] → s.ids.entries ≡ [] → (mark : StatementMark) → settled s mark ≡ None
none_settled s numbers prevs ids (marks.Number w n) = rw numbers refl
none_settled s numbers prevs ids (marks.Prev w h) = rw prevs refl
none_settled s numbers prevs ids (marks.Id h) = rw ids refl

-- ---- keys that compare as equal are those of one mark

prev_is_same : (w : ℕ) (g : List ℕ) (v : ℕ) (h : List ℕ) → is_eq (prev_cmp (record { writer = w; prev = g }) (record { writer = v; prev = h })) ≡ same_mark (marks.Prev w g) (marks.Prev v h)
prev_is_same w g v h = is_eq-then (nat_cmp w v) (slice_cmp nat_cmp g h) ∙ ap (λ (b : Bool). b && is_eq (slice_cmp nat_cmp g h)) (is_eq-nat_cmp w v) ∙ ap (λ (b : Bool). eqb w v && b) (is_eq-slice_cmp g h)

-- ---- one more

-- a link becomes the newest of a mark
abbrev pub IsInserted : Settled → Settled → StatementMark → ℕ → Type 0
IsInserted old new mark link = (other : StatementMark) → settled new other ≡ (if same_mark mark other then Some link else settled old other)

pub prev_inserted : (old : Settled) (prevs : BTreeMap Prev ℕ) (w : ℕ) (g : List ℕ) (link : ℕ) → Updates prev_cmp old.prevs prevs (record { writer = w; prev = g }) (Some link) → IsInserted old (record old { prevs = prevs }) (marks.Prev w g) link
prev_inserted old prevs w g link updates (marks.Number v l) = refl
prev_inserted old prevs w g link updates (marks.Prev v h) =
    updates.0 (record { writer = v; prev = h }) ∙ ap (λ (b : Bool). cond b (Some link) (get prev_cmp old.prevs (record { writer = v; prev = h }))) (prev_is_same w g v h)
prev_inserted old prevs w g link updates (marks.Id h) = refl

pub id_inserted : (old : Settled) (ids : BTreeMap (List ℕ) ℕ) (g : List ℕ) (link : ℕ) → Updates id_cmp old.ids ids g (Some link) → IsInserted old (record old { ids = ids }) (marks.Id g) link
id_inserted old ids g link updates (marks.Number v l) = refl
id_inserted old ids g link updates (marks.Prev v h) = refl
id_inserted old ids g link updates (marks.Id h) = updates.0 h ∙ ap (λ (b : Bool). cond b (Some link) (get id_cmp old.ids h)) (is_eq-slice_cmp g h)
