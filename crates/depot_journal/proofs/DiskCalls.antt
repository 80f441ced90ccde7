-- Which calls were made on a disk, by the answer of the call that made them.
use Rattle.std.proofs.Common.{◌≡◌, List, [], ◌∷◌, ◌++◌, false, refl}
use Rattle.std.specs.Prelude.{Result, Ok, Err, IsErr, IsErrAnd, IsOk, is_err}
use Rattle.depot_base.specs.Calls.{Call, FailsAmong, Made, made}
use Rattle.depot_base.proofs.CallLaws.{fails_first, fails_later, made_later}
use Rattle.depot_journal.specs.DiskCalls.{MakesOnDisk}
use Rattle.depot_outside.specs.declared.disk.Disk.{Ghosts}

-- one call, which was made or failed
pub one_call : {D X E : Type 0} (g : Ghosts D) (old new : D) (call : Call) (r : Result X E) → g.after old (record { call = call; failed = is_err r } ∷ []) new → MakesOnDisk g old new (call ∷ []) (IsOk r) (IsErr r)
one_call g old new call (Ok x) after = record { all = λ _. after; failing = λ failed. absurd cc }
one_call g old new call (Err e) after = record { all = λ done. absurd cc; failing = λ _. fails_first g.after old new call [] after }

-- what was returned isn't an error
pub ok_of : {X E : Type 0} (r : Result X E) → is_err r ≡ false → IsOk r
ok_of (Ok x) is = refl
ok_of (Err e) is = absurd cc

-- what `?` returns is an error
pub no_ok : {X E : Type 0} (r : Result X E) (Q : E → Type 0) → IsErrAnd r Q → IsOk r → ⊥
no_ok (Ok x) Q is done = is
no_ok (Err e) Q is done = absurd cc

-- one of the calls failed
pub one_failed : {D X E : Type 0} (g : Ghosts D) (old new : D) (calls : List Call) (r : Result X E) (Q : E → Type 0) → IsErrAnd r Q → FailsAmong g.after old new calls → MakesOnDisk g old new calls (IsOk r) (IsErr r)
one_failed g old new calls (Ok x) Q is fails = absurd is
one_failed g old new calls (Err e) Q is fails = record { all = λ done. absurd cc; failing = λ _. fails }

-- calls after others that were made
pub calls_later : {D : Type 0} (g : Ghosts D) (more : (a b c : D) (xs ys : List Made) → g.after a xs b → g.after b ys c → g.after a (xs ++ ys) c)
    (old between new : D) (xs ys : List Call) (done failed : Type 0) → g.after old (made xs) between → MakesOnDisk g between new ys done failed → MakesOnDisk g old new (xs ++ ys) done failed
calls_later g more old between new xs ys done failed first then = record {
  all = λ is. made_later g.after more old between new xs ys first (then.all is);
  failing = λ is. fails_later g.after more old between new xs ys first (then.failing is);
}
