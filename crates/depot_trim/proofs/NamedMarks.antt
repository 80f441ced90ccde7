-- A mark is named as its update is, and the first one named is that of the first such update.
use Rattle.std.proofs.Common.{◌≡◌, ℕ, Bool, true, false, cond, ◌||◌, List, [], ◌∷◌, map, Option, Some, refl, sym, ap, ◌∙◌}
use Rattle.std.specs.Prelude.{find, option_map}
use Rattle.std.specs.Str.{bytes_eq}
use Rattle.std.proofs.lemmas.List.Folds.{list_any-append}
use Rattle.depot_base.specs.declared.update.Update.{Update}
use Rattle.depot_base.specs.declared.statement.Statement.{Statement}
use Rattle.depot_base.specs.declared.statement.Statement.TheVariants as statement
use Rattle.depot_model.specs.texts.Texts.{id_of_update}
use Rattle.depot_model.specs.lists.Lists.{is_among}
use Rattle.depot_model.specs.updates.Order.{prevs, parents}
use Rattle.depot_model.specs.readers.Trimming.{names}
use Rattle.depot_trim.specs.declared.marks.UpdateMark.{UpdateMark}
use Rattle.depot_trim.specs.ReaderView.{mark_of}
use Rattle.depot_trim.specs.Naming.{names_mark}

pub mark_is_named : (s : Statement) (t : Update) → names_mark s (mark_of t) ≡ names s t
unfolding names names_mark
mark_is_named (statement.Update u) t = refl
mark_is_named (statement.Voucher v) t = refl

-- the id of the first one that is named
abbrev first_mark : Statement → List UpdateMark → Option (List ℕ)
first_mark s ms = option_map (λ m. m.id) (find (names_mark s) ms)

pub first_is : (s : Statement) (ts : List Update) → option_map (λ m. m.id) (find (names_mark s) (map mark_of ts)) ≡ option_map id_of_update (find (names s) ts)
first_is s [] = refl
first_is s (t ∷ ts) =
    ap (λ (b : Bool). option_map (λ m. m.id) (cond b (Some (mark_of t)) (find (names_mark s) (map mark_of ts)))) (mark_is_named s t) ∙ by_test (names s t) (first_is s ts) where
      by_test : (b : Bool) → first_mark s (map mark_of ts) ≡ option_map id_of_update (find (names s) ts) → option_map (λ m. m.id) (cond b (Some (mark_of t)) (find (names_mark s) (map mark_of ts))) ≡ option_map id_of_update (cond b (Some t) (find (names s) ts))
      by_test true e = refl
      by_test false e = e

-- ---- parents

-- the prev's id, or an entry's
pub parent_is : (h : List ℕ) (u : Update) → (is_among h (prevs u) || is_among h (map (λ d. d.id) u.deps)) ≡ is_among h (parents u)
parent_is h u = sym (list_any-append (bytes_eq h) (prevs u) (map (λ d. d.id) u.deps))
