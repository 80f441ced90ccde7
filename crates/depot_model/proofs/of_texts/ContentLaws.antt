-- The words for what an update writes.
use Rattle.std.specs.Prelude.{Decides, ℕ}
use Rattle.std.proofs.Common.{◌≡◌, List, [], ◌∷◌, map, Bool, true, false, cond, Option, Some, None, length, refl, sym, ap, ◌∙◌, inl, inr}
use Rattle.std.specs.Str.{bytes_eq}
use Rattle.std.proofs.lemmas.Slice.Eq.{bytes_eq-Decides}
use Rattle.depot_base.specs.Writes.{wrote_under, sizes_of}
use Rattle.depot_base.specs.declared.write.Wrote.{Wrote}
use Rattle.depot_base.specs.declared.write.Write.{Write}
use Rattle.depot_base.specs.declared.write.Change.{Change}
use Rattle.depot_base.specs.declared.update.Update.{Update}
use Rattle.depot_base.specs.declared.record.Record.{Record}
use Rattle.depot_model.specs.lists.Lists.{IsIn}
use Rattle.depot_model.specs.texts.Contents.{Writes, writes, keys_written}
use Rattle.depot_model.specs.checks.Own.{write_of, values_of, changes_of, next_with, next_own}
use Rattle.depot_model.proofs.lists.Members.{among_from, among_to}

-- the test whether an update writes a key decides the fact
pub writes-Decides : (key : List ℕ) (u : Update) → Decides (writes key u) (Writes key u)
writes-Decides key u = (among_to key (keys_written u), among_from key (keys_written u))

under : (b : Bool) (key : List ℕ) (w : Write) (ws : List Write) → bytes_eq w.key key ≡ b → (IsIn key (map (λ x. x.key) ws) → (what : Wrote) × (wrote_under key ws ≡ Some what)) → IsIn key (map (λ x. x.key) (w ∷ ws))
    → (what : Wrote) × (cond b (Some w.what) (wrote_under key ws) ≡ Some what)
under true key w ws is there on = (w.what, refl)
under false key w ws is there (inl here) = absurd (let yes : bytes_eq w.key key ≡ true = (bytes_eq-Decides w.key key).1 here in cc)
under false key w ws is there (inr on) = there on

-- of a key that is written, there is what is said of it
pub wrote_there : (key : List ℕ) (ws : List Write) → IsIn key (map (λ w. w.key) ws) → (what : Wrote) × (wrote_under key ws ≡ Some what)
wrote_there key [] on = absurd on
wrote_there key (w ∷ ws) on = under (bytes_eq w.key key) key w ws refl (wrote_there key ws) on

found : (b : Bool) (key : List ℕ) (w : Write) (ws : List Write) (what : Wrote) → bytes_eq w.key key ≡ b → (wrote_under key ws ≡ Some what → IsIn key (map (λ x. x.key) ws)) → cond b (Some w.what) (wrote_under key ws) ≡ Some what → IsIn key (map (λ x. x.key) (w ∷ ws))
found true key w ws what is behind e = inl ((bytes_eq-Decides w.key key).0 is)
found false key w ws what is behind e = inr (behind e)

-- and where there is something said of a key, it is written
pub written_from : (key : List ℕ) (ws : List Write) (what : Wrote) → wrote_under key ws ≡ Some what → IsIn key (map (λ w. w.key) ws)
written_from key [] what e = absurd cc
written_from key (w ∷ ws) what e = found (bytes_eq w.key key) key w ws what refl (written_from key ws what) e

-- ---- changes

change_back : (key : List ℕ) (value : Option (List ℕ)) (cs : List Change) → changes_of (map write_of cs) (values_of cs) ≡ cs
    → changes_of (map write_of (record { key = key; value = value } ∷ cs)) (values_of (record { key = key; value = value } ∷ cs)) ≡ record { key = key; value = value } ∷ cs
change_back key None cs back = ap (λ (x : List Change). record { key = key; value = None } ∷ x) back
change_back key (Some v) cs back = ap (λ (x : List Change). record { key = key; value = Some v } ∷ x) back

-- the writes of changes, and their values, make these changes
pub changes_back : (cs : List Change) → changes_of (map write_of cs) (values_of cs) ≡ cs
changes_back [] = refl
changes_back (c ∷ cs) = change_back c.key c.value cs (changes_back cs)

change_sizes : (key : List ℕ) (value : Option (List ℕ)) (cs : List Change) → map (λ v. length v) (values_of cs) ≡ sizes_of (map write_of cs)
    → map (λ v. length v) (values_of (record { key = key; value = value } ∷ cs)) ≡ sizes_of (map write_of (record { key = key; value = value } ∷ cs))
change_sizes key None cs same = same
change_sizes key (Some v) cs same = ap (λ (ns : List ℕ). length v ∷ ns) same

-- their values have the lengths that the writes name
pub changes_sizes : (cs : List Change) → map (λ v. length v) (values_of cs) ≡ sizes_of (map write_of cs)
changes_sizes [] = refl
changes_sizes (c ∷ cs) = change_sizes c.key c.value cs (changes_sizes cs)

-- an own update of changes is the next one with its writes
pub own_with : (me : ℕ) (J : List Record) (cs : List Change) (u : Update) → u ≡ next_own me J cs → u ≡ next_with me J u.writes
unfolding next_own
own_with me J cs u is = is ∙ ap (λ (ws : List Write). next_with me J ws) (sym (ap (λ (x : Update). x.writes) is))
