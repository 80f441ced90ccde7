-- Looking labels up in an ordered map, and inserting one.
use Rattle.std.proofs.Common.{◌≡◌, ℕ, Bool, true, false, cond, List, [], ◌∷◌, Option, Some, None, Vec, refl, sym, ap, ◌∙◌}
use Rattle.std.specs.declared.alloc.Global.{Global}
use Rattle.std.specs.declared.cmp.Ordering.{Ordering}
use Rattle.std.specs.declared.cmp.Ordering.TheVariants.{Less, Equal, Greater}
use Rattle.std.specs.Ordering.{nat_cmp, is_eq, match_ordering}
use Rattle.std.specs.Cmp.Lexicographic.{slice_cmp}
use Rattle.std.specs.Str.{bytes_eq}
use Rattle.std.specs.Map.{lookup}
use Rattle.std.specs.BTreeMap.{insert_entry}
use Rattle.std.proofs.lemmas.Map.Text.{is_eq-slice_cmp}
use Rattle.std.proofs.lemmas.Map.Lookups.{exact_bytes}
use Rattle.std.proofs.lemmas.Slice.Eq.{bytes_eq-Decides}
use Rattle.depot_base.proofs.GeneralLaws.{vec_cmp}
use Rattle.depot_schedule.specs.declared.verb.Made.{Made}
use Rattle.depot_schedule.specs.EventWords.{if_named, first_or}
use Rattle.depot_schedule_parser.specs.LabelTable.{named_in_table}

abbrev Entries : Type 0
Entries = List (Vec ℕ Global × Made)

-- what a look-up finds
abbrev found_in : List ℕ → Entries → Option Made
found_in label es = lookup (λ (k : Vec ℕ Global). is_eq (slice_cmp nat_cmp label k.items)) es

chosen : (b c : Bool) → b ≡ c → (v : Made) (x y : Option Made) → x ≡ y → cond b (Some v) x ≡ cond c (Some v) y
chosen b c e v x y h = rw (e, h) refl

-- what a label names is what a look-up finds
pub named_in-lookup : (label : List ℕ) (es : Entries) → named_in_table label es ≡ found_in label es
named_in-lookup label [] = refl
named_in-lookup label (e ∷ es) = chosen (bytes_eq label e.0.items) _ (sym (is_eq-slice_cmp label e.0.items)) e.1 (named_in_table label es) (found_in label es) (named_in-lookup label es)

-- ---- one label more

turn : (t u : Bool) (v w : Made) (o : Option Made) → (t ≡ true → u ≡ true → ⊥) → cond t (Some w) (first_or (cond u (Some v) None) o) ≡ first_or (cond u (Some v) None) (cond t (Some w) o)
turn true true v w o apart = absurd (apart refl refl)
turn true false v w o apart = refl
turn false u v w o apart = refl

kept : (u t : Bool) (v w : Made) (o : Option Made) → u ≡ t → cond t (Some v) o ≡ first_or (cond u (Some v) None) (cond t (Some w) o)
kept true true v w o e = refl
kept true false v w o e = absurd cc
kept false true v w o e = absurd cc
kept false false v w o e = refl

in_front : (u : Bool) (v : Made) (o : Option Made) → cond u (Some v) o ≡ first_or (cond u (Some v) None) o
in_front true v o = refl
in_front false v o = refl

other_label : (k e : Vec ℕ Global) → vec_cmp k e ≡ Greater → bytes_eq k.items e.items ≡ false
other_label k e h = sym (is_eq-slice_cmp k.items e.items) ∙ ap is_eq h

-- a label that is put in names what it was put in with, and nothing else changes
pub named_in-insert_entry : (label : List ℕ) (es : Entries) (k : Vec ℕ Global) (v : Made) → named_in_table label (insert_entry vec_cmp es k v) ≡ first_or (if_named label (Some (k.items, v))) (named_in_table label es)
named_in-insert_entry label [] k v = in_front (bytes_eq label k.items) v None
named_in-insert_entry label (e ∷ es) k v = by (vec_cmp k e.0) refl (named_in-insert_entry label es k v) where
  by : (o : Ordering) → vec_cmp k e.0 ≡ o → named_in_table label (insert_entry vec_cmp es k v) ≡ first_or (if_named label (Some (k.items, v))) (named_in_table label es)
      → named_in_table label (match_ordering o ((k, v) ∷ e ∷ es) ((e.0, v) ∷ es) (e ∷ insert_entry vec_cmp es k v)) ≡ first_or (if_named label (Some (k.items, v))) (named_in_table label (e ∷ es))
  by Less is rest = in_front (bytes_eq label k.items) v (named_in_table label (e ∷ es))
  by Equal is rest = kept (bytes_eq label k.items) (bytes_eq label e.0.items) v e.1 (named_in_table label es) (ap (bytes_eq label) (exact_bytes k.items e.0.items is))
  by Greater is rest =
      ap (λ (o : Option Made). cond (bytes_eq label e.0.items) (Some e.1) o) rest
      ∙ turn (bytes_eq label e.0.items) (bytes_eq label k.items) v e.1 (named_in_table label es) (λ a b.
      let p : label ≡ e.0.items = (bytes_eq-Decides label e.0.items).0 a in
      let r : label ≡ k.items = (bytes_eq-Decides label k.items).0 b in
      let both : bytes_eq k.items e.0.items ≡ true = (bytes_eq-Decides k.items e.0.items).1 (sym r ∙ p) in
      let apart = other_label k e.0 is in
      cc)
