-- Looking a node up in a roster.
use Rattle.std.proofs.Common.{◌≡◌, ℕ, ◌+◌, ◌<◌, ◌≤◌, true, false, eqb, List, length, get_or, drop, Some, None, refl, add-one}
use Rattle.std.proofs.Math.Seq.{drop-cons}
use Rattle.std.proofs.lemmas.List.{drop_all}
use Rattle.depot_base.specs.declared.key.RosterEntry.{RosterEntry}
use Rattle.depot_model.specs.texts.Roster.{key_of}

-- the first of the entries that are left names the node
pub found_here : (es : List RosterEntry) (i n : ℕ) (e : RosterEntry) → i < length es → e ≡ get_or es i e → eqb e.node n ≡ true → key_of (drop i es) n ≡ Some e.key
unfolding key_of
found_here es i n e lt is same = rw (drop-cons es i e lt, ← is, same) refl

-- the first of them names another
pub not_here : (es : List RosterEntry) (i n : ℕ) (e : RosterEntry) → i < length es → e ≡ get_or es i e → eqb e.node n ≡ false → key_of (drop i es) n ≡ key_of (drop (i + 1) es) n
unfolding key_of
not_here es i n e lt is other = rw (add-one, drop-cons es i e lt, ← is, other) refl

-- none is left
pub nowhere : (es : List RosterEntry) (i n : ℕ) → length es ≤ i → key_of (drop i es) n ≡ None
unfolding key_of
nowhere es i n past = rw (drop_all i es past) refl
