-- The value that a reader shows of an update under a key.
use Rattle.std.proofs.Common.{◌≡◌, ℕ, length, Bool, eqb, List, [], ◌∷◌, Option, Some, None, refl, sym, ap, ◌∙◌}
use Rattle.std.proofs.lemmas.Bool.{eq-eqb, ne_eqb}
use Rattle.std.specs.Prelude.{slice_get, option_and_then}
use Rattle.std.specs.Option.{option_map_or}
use Rattle.depot_base.specs.Writes.{value_in, wrote_under}
use Rattle.depot_base.specs.declared.update.NamedValue.{NamedValue}
use Rattle.depot_base.specs.declared.update.Update.{Update}
use Rattle.depot_base.specs.declared.write.Wrote.{Wrote}
use Rattle.depot_base.specs.declared.write.Wrote.TheVariants.{Put, Gone}
use Rattle.depot_base.proofs.GeneralLaws.{same_at}
use Rattle.depot_model.specs.texts.Contents.{held_value, not_held}
use Rattle.depot_model.specs.journals.Journal.{accepted, value_with}
use Rattle.depot_model.specs.lists.Lists.{when}
use Rattle.depot_model.specs.readers.Readers.{Reader, seen_among, seen_by_reader}
use Rattle.depot_trim.specs.Trimmings.{held_of}
use Rattle.depot_queries.specs.ShownValues.{value_seen}

-- a value of the hash and of the length is that of the name
pub held_is : (held : List (List ℕ)) (n : NamedValue) (v : List ℕ) → Some v ≡ value_with n.hash held → length v ≡ n.size → Some v ≡ held_of held n
held_is held n v found long = sym (ap (option_and_then (λ w. when (eqb (length w) n.size) w)) (sym found) ∙ ap (λ (b : Bool). when b v) (eq-eqb _ _ long))

-- one of another length isn't
pub held_is_other : (held : List (List ℕ)) (n : NamedValue) (v : List ℕ) → Some v ≡ value_with n.hash held → (length v ≡ n.size → ⊥) → None ≡ held_of held n
held_is_other held n v found long = sym (ap (option_and_then (λ w. when (eqb (length w) n.size) w)) (sym found) ∙ ap (λ (b : Bool). when b v) (ne_eqb _ _ long))

-- and where there is none of the hash, there is none
pub held_is_none : (held : List (List ℕ)) (n : NamedValue) → None ≡ value_with n.hash held → None ≡ held_of held n
held_is_none held n found = sym (ap (option_and_then (λ w. when (eqb (length w) n.size) w)) (sym found))

of_write : (R : Reader) (key : List ℕ) (t u : Update) (item : ℕ) (what : Wrote) → slice_get (accepted R.journal) item ≡ Some t → slice_get (accepted R.journal) item ≡ Some u → Some what ≡ wrote_under key t.writes → seen_by_reader R key u ≡ seen_among R.held what
unfolding seen_by_reader
of_write R key t u item what one two says =
    ap (λ (x : Update). option_map_or (seen_among R.held) (wrote_under key x.writes) not_held) (sym (same_at (accepted R.journal) item item t u refl one two)) ∙ ap (λ (o : Option Wrote). option_map_or (seen_among R.held) o not_held) (sym says)

seen_deletion : (held : List (List ℕ)) (what : Wrote) → [] ≡ value_in what → None ≡ value_seen (seen_among held what)
seen_deletion held (Put hash size) none = absurd cc
seen_deletion held Gone none = refl

value_of_held : (o : Option (List ℕ)) → o ≡ value_seen (option_map_or held_value o not_held)
value_of_held None = refl
value_of_held (Some v) = refl

seen_name : (held : List (List ℕ)) (what : Wrote) (n : NamedValue) → n ∷ [] ≡ value_in what → held_of held n ≡ value_seen (seen_among held what)
seen_name held (Put hash size) n named = let same : n ≡ record { hash = hash; size = size } = cc in ap (held_of held) same ∙ value_of_held (held_of held (record { hash = hash; size = size }))
seen_name held Gone n named = absurd cc

-- of a deletion no value is shown
pub no_value_of : (R : Reader) (key : List ℕ) (t u : Update) (item : ℕ) (what : Wrote) → slice_get (accepted R.journal) item ≡ Some t → slice_get (accepted R.journal) item ≡ Some u → Some what ≡ wrote_under key t.writes → [] ≡ value_in what → None ≡ value_seen (seen_by_reader R key u)
no_value_of R key t u item what one two says none = seen_deletion R.held what none ∙ ap value_seen (sym (of_write R key t u item what one two says))

-- of another write the held value of its name
pub value_of : (R : Reader) (key : List ℕ) (t u : Update) (item : ℕ) (what : Wrote) (n : NamedValue) → slice_get (accepted R.journal) item ≡ Some t → slice_get (accepted R.journal) item ≡ Some u → Some what ≡ wrote_under key t.writes → n ∷ [] ≡ value_in what
    → held_of R.held n ≡ value_seen (seen_by_reader R key u)
value_of R key t u item what n one two says named = seen_name R.held what n named ∙ ap value_seen (sym (of_write R key t u item what one two says))
