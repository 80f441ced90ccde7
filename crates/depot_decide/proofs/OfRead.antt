-- No check of what was read reports that it is ill-formed.
use Rattle.std.proofs.Common.{◌≡◌, Bool, true, false, ◌||◌, cond, List, Option, Some, None, option_map, Err, subst}
use Rattle.std.specs.List.{AllByRecursion}
use Rattle.depot_base.specs.declared.check.Check.{Check}
use Rattle.depot_base.specs.declared.check.Check.TheVariants as check
use Rattle.depot_base.specs.declared.proof.Kind.{Kind}
use Rattle.depot_base.specs.declared.proof.Proof.{Proof}
use Rattle.depot_base.specs.declared.record.Record.{Record}
use Rattle.depot_base.specs.declared.statement.Signed.{Signed}
use Rattle.depot_base.specs.declared.statement.Statement.{Statement}
use Rattle.depot_base.specs.declared.statement.Statement.TheVariants as statements
use Rattle.depot_base.specs.Statement.{writer_of}
use Rattle.depot_model.specs.declared.judgement.JudgeError.{JudgeError}
use Rattle.depot_model.specs.declared.judgement.JudgeError.TheVariants as point
use Rattle.depot_model.specs.updates.Judgement.{first_failed_point}
use Rattle.depot_model.specs.lists.Lists.{when}
use Rattle.depot_model.specs.texts.Texts.{id_of_statement}
use Rattle.depot_model.specs.journals.Journal.{foreign, is_convicted, is_vouched}
use Rattle.depot_model.specs.checks.Checks.{Setting, Given, given_statement, given_proof, given_value, content_of, opponent, forked_by, forked, refused_as_convicted, statement_checks, check_of_point, proof_checks, first_failed_check, is_known, answer_by, answer_to}
use Rattle.depot_accept.proofs.ContentShows.{HoldsOfContent, shows_content}
use Rattle.depot_model.proofs.lists.FirstLaws.{Shows, shows_first, shows_append, shows_when}

-- it is another check than that of the text
abbrev pub IsOfRead : Check → Type 0
IsOfRead (check.IllFormed at) = ⊥
IsOfRead c = Unit {0}

abbrev ShowsRead : Option Check → Type 0
ShowsRead = Shows IsOfRead

read_when : (b : Bool) (c : Check) → IsOfRead c → ShowsRead (when b c)
read_when = shows_when IsOfRead

content_of_read : HoldsOfContent IsOfRead
content_of_read = record { missing = λ h. tt; wrong_dep = λ place. tt; backward = λ h. tt; clock_low = λ h. tt; clock_far = λ greatest. tt; history = λ given right. tt }

read_content : (J : List Record) (s : Statement) → AllByRecursion ShowsRead (content_of J s)
read_content J (statements.Update u) = shows_content IsOfRead content_of_read u _
read_content J (statements.Voucher v) = tt

-- ---- forks and convictions

read_forked_by : (s : Statement) (o : Option (Signed × Kind)) → ShowsRead (forked_by s o)
read_forked_by s None = λ c e. absurd cc
read_forked_by s (Some o) = λ c e. let same : check.Forked (id_of_statement o.0.statement) (id_of_statement s) o.1 ≡ c = cc in subst IsOfRead same tt

read_forked : (J : List Record) (s : Statement) → ShowsRead (forked J s)
unfolding forked
read_forked J s = choice (is_convicted J (writer_of s) || is_vouched J s) where
  choice : (b : Bool) → ShowsRead (cond b None (forked_by s (opponent (foreign J) s)))
  choice true = λ c e. absurd cc
  choice false = read_forked_by s (opponent (foreign J) s)

read_convicted : (J : List Record) (s : Statement) → ShowsRead (refused_as_convicted J s)
unfolding refused_as_convicted
read_convicted J (statements.Update u) = read_when _ _ tt
read_convicted J (statements.Voucher v) = read_when _ _ tt

-- ---- all that is given

read_statement : (here : Setting) (J : List Record) (s : Signed) → AllByRecursion ShowsRead (statement_checks here J s)
unfolding statement_checks
read_statement here J s = (read_when _ _ tt, (read_when _ _ tt, (read_when _ _ tt, shows_append IsOfRead (content_of J s.statement) _ (read_content J s.statement) (read_forked J s.statement, (read_convicted J s.statement, tt)))))

read_point : (p : Proof) (at : JudgeError) → IsOfRead (check_of_point p at)
read_point p point.Memory = tt
read_point p (point.IllFormed at) = tt
read_point p (point.UnknownWriter n) = tt
read_point p (point.BadSignature half) = tt
read_point p (point.TwoWriters a b) = tt
read_point p point.Same = tt
read_point p point.WrongOrder = tt
read_point p (point.NotContradictory kind) = tt

read_points : (p : Proof) (o : Option JudgeError) → ShowsRead (option_map (check_of_point p) o)
read_points p None = λ c e. absurd cc
read_points p (Some at) = λ c e. let same : check_of_point p at ≡ c = cc in subst IsOfRead same (read_point p at)

read_proof : (here : Setting) (p : Proof) → AllByRecursion ShowsRead (proof_checks here p)
unfolding proof_checks
read_proof here p = (read_points p (first_failed_point here.verifies here.listed p), (read_when _ _ tt, tt))

failed_of_read : (here : Setting) (J : List Record) (x : Given) → ShowsRead (first_failed_check here J x)
unfolding first_failed_check
failed_of_read here J (given_statement s) = shows_first IsOfRead _ (read_statement here J s)
failed_of_read here J (given_proof p) = shows_first IsOfRead _ (read_proof here p)
failed_of_read here J (given_value v) = read_when _ _ tt

answered_of_read : (known : Bool) (failed : Option Check) (c : Check) → ShowsRead failed → answer_by known failed ≡ Err c → IsOfRead c
answered_of_read true failed c shows e = absurd cc
answered_of_read false None c shows e = absurd cc
answered_of_read false (Some d) c shows e = let same : Some d ≡ Some c = cc in shows c same

-- a check by which something is refused isn't that of its text
pub refused_of_read : (here : Setting) (J : List Record) (x : Given) (c : Check) → answer_to here J x ≡ Err c → IsOfRead c
unfolding answer_to
refused_of_read here J x c e = answered_of_read (is_known here J x) (first_failed_check here J x) c (failed_of_read here J x) e
