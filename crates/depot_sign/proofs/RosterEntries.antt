-- The last of some entries of a roster.
use Rattle.std.proofs.Common.{◌≡◌, ◌+◌, ◌≤◌, List, [], ◌∷◌, ◌++◌, length, refl, ap, arith}
use Rattle.depot_base.specs.declared.key.RosterEntry.{RosterEntry}

-- Some entries, of which one is the last.
pub record Ends (es : List RosterEntry) : Type 0 where
  pub front : List RosterEntry
  pub last : RosterEntry
  pub is : es ≡ front ++ last ∷ []

-- one entry or more have a last one
pub ends : (es : List RosterEntry) → 1 ≤ length es → Ends es
ends [] some = absurd (omega arith)
ends (e ∷ []) some = record { front = []; last = e; is = refl }
ends (e ∷ d ∷ es) some =
    let more = ends (d ∷ es) (omega arith) in
    record { front = e ∷ more.front; last = more.last; is = ap (λ (l : List RosterEntry). e ∷ l) more.is }
