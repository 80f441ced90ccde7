-- Steps of a table of ids.
use Rattle.std.proofs.Common.{◌≡◌, ℕ, List, [], ◌∷◌, ◌++◌, map, Bool, true, false, ◌||◌, ◌&&◌, cond, Option, Some, is_some, unwrap_or, refl, sym, ap, ◌∙◌}
use Rattle.std.specs.List.{list_all}
use Rattle.std.specs.Str.{bytes_eq}
use Rattle.std.specs.HashMap.{get}
use Rattle.depot_base.specs.declared.update.Update.{Update}
use Rattle.depot_base.specs.declared.update.Dep.{Dep}
use Rattle.depot_model.specs.lists.Lists.{is_among}
use Rattle.depot_model.specs.updates.Order.{prevs, parents}
use Rattle.depot_base.proofs.GeneralLaws.{bytes_eq_comm, or_swap}
use Rattle.depot_model.proofs.lists.Members.{all-append, all-map, among-append}
use Rattle.depot_scan.specs.Ids.{IdMarks, PutsIdMark, is_id_marked, IsUncovered, HasMore}
use Rattle.depot_scan.specs.declared.log_ids.LogIds.{LogIds}

known_by : (b mark : Bool) (o : Option Bool) → is_some (cond b (Some mark) o) ≡ ((b || false) || is_some o)
known_by true mark o = refl
known_by false mark o = refl

uncovered_by : (b : Bool) (o : Option Bool) → unwrap_or o false ≡ false → unwrap_or (cond b (Some false) o) false ≡ false
uncovered_by true o none = refl
uncovered_by false o none = none

put_at : (old new : IdMarks) (id : List ℕ) (mark : Bool) → PutsIdMark old new id mark → (h : List ℕ) → get bytes_eq new h ≡ cond (bytes_eq h id) (Some mark) (get bytes_eq old h)
put_at old new id mark p h = p.marks h ∙ ap (λ (b : Bool). cond b (Some mark) (get bytes_eq old h)) (bytes_eq_comm id h)

-- an id that was marked is known
pub known_more : (old new : IdMarks) (id : List ℕ) (mark : Bool) → PutsIdMark old new id mark → HasMore (id ∷ []) (is_id_marked old) (is_id_marked new)
known_more old new id mark p h = ap is_some (put_at old new id mark p h) ∙ known_by (bytes_eq h id) mark (get bytes_eq old h)

-- none is covered where it was marked as not covered
pub uncovered_stay : (old new : LogIds) (id : List ℕ) → PutsIdMark old.marks new.marks id false → IsUncovered old → IsUncovered new
uncovered_stay old new id p none = record { none = λ h. ap (λ (o : Option Bool). unwrap_or o false) (put_at old.marks new.marks id false p h) ∙ uncovered_by (bytes_eq h id) (get bytes_eq old.marks h) (none.none h) }

-- ---- parents

-- the parents are the prev and the entries
pub all_parents : (test : List ℕ → Bool) (u : Update) → list_all test (parents u) ≡ (list_all test (prevs u) && list_all (λ d. test d.id) u.deps)
all_parents test u = all-append test (prevs u) (map (λ d. d.id) u.deps) ∙ ap (λ (b : Bool). list_all test (prevs u) && b) (all-map test (λ (d : Dep). d.id) u.deps)

-- some ids were added, and then others
pub more_trans : (xs ys : List (List ℕ)) (old mid new : List ℕ → Bool) → HasMore xs old mid → HasMore ys mid new → HasMore (xs ++ ys) old new
more_trans xs ys old mid new a b h = b h ∙ (ap (λ (t : Bool). is_among h ys || t) (a h) ∙ (or_swap (is_among h xs) (is_among h ys) (old h) ∙ sym (ap (λ (t : Bool). t || old h) (among-append h xs ys))))
