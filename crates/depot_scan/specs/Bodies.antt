-- Bodies are seen as their updates.
use Rattle.std.specs.Prelude.{List, map, Result, Ok, Err}
use Rattle.depot_base.specs.declared.update.Update.{Update}
use Rattle.depot_scan.specs.declared.body.Body.{Body}

-- the updates of bodies
abbrev pub updates : List Body → List Update
updates bodies = map (λ b. b.update) bodies

-- the answer, with what is given as f sees it
abbrev pub seen_by : {X V E : Type 0} → (X → V) → Result X E → Result V E
seen_by f (Ok x) = Ok (f x)
seen_by f (Err e) = Err e
