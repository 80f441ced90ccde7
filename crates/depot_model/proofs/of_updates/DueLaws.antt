-- When a fork is reported, and when a conviction is due.
use Rattle.std.proofs.Common.{◌≡◌, Bool, true, false, cond, ◌||◌, List, [], Some, None, refl, ap}
use Rattle.std.specs.Prelude.{Option}
use Rattle.depot_base.specs.Statement.{writer_of}
use Rattle.depot_base.specs.declared.check.Check.{Check}
use Rattle.depot_base.specs.declared.proof.Kind.{Kind}
use Rattle.depot_base.specs.declared.record.Record.{Record}
use Rattle.depot_base.specs.declared.statement.Signed.{Signed}
use Rattle.depot_base.specs.declared.statement.Statement.{Statement}
use Rattle.depot_model.specs.journals.Journal.{foreign, is_convicted, is_vouched}
use Rattle.depot_model.specs.checks.Checks.{opponent, forked_by, forked, due}

-- nothing is due of a writer who is convicted
pub none_due : (J : List Record) (s : Signed) (o : Option (Signed × Kind)) → is_convicted J (writer_of s.statement) ≡ true → due J s o ≡ []
unfolding due
none_due J s None e = refl
none_due J s (Some o) e = rw e refl

-- a vouched statement is no fork
pub no_fork_vouched : (J : List Record) (s : Statement) → is_vouched J s ≡ true → forked J s ≡ None
unfolding forked
no_fork_vouched J s e = rw e (by_test (is_convicted J (writer_of s)) (forked_by s (opponent (foreign J) s))) where
  by_test : (b : Bool) (o : Option Check) → cond (b || true) None o ≡ None
  by_test true o = refl
  by_test false o = refl

-- nor is one that contradicts no other
pub no_fork_alone : (J : List Record) (s : Statement) → opponent (foreign J) s ≡ None → forked J s ≡ None
unfolding forked
no_fork_alone J s e = by_test (is_convicted J (writer_of s) || is_vouched J s) (forked_by s (opponent (foreign J) s)) (ap (forked_by s) e) where
  by_test : (b : Bool) (o : Option Check) → o ≡ None → cond b None o ≡ None
  by_test true o is = refl
  by_test false o is = is
