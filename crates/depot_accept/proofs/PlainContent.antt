-- What the checks of an update's content report.
use Rattle.std.proofs.Common.{◌≡◌, ◌≤◌, length, Some, subst}
use Rattle.std.specs.Int.{w16}
use Rattle.depot_base.proofs.Numbers.{number_within}
use Rattle.depot_base.specs.declared.check.Check.{Check}
use Rattle.depot_base.specs.declared.statement.Signed.{Signed}
use Rattle.depot_base.specs.declared.statement.Statement.{Statement}
use Rattle.depot_base.specs.declared.statement.Statement.TheVariants as statements
use Rattle.depot_base.specs.declared.update.Update.{Update}
use Rattle.depot_model.specs.lists.Lists.{first}
use Rattle.depot_model.specs.texts.Texts.{update_body, update_fields, IsUpdate, IsStatement, IsSigned}
use Rattle.depot_model.specs.checks.Checks.{Sight, content_checks}
use Rattle.depot_model.proofs.of_texts.BodyLaws.{IsUpdate-from_statement, IsStatement-from_signed}
use Rattle.depot_accept.specs.Content.{TellsNoFork}
use Rattle.depot_accept.proofs.ContentShows.{HoldsOfContent, shows_content}
use Rattle.depot_model.proofs.lists.FirstLaws.{shows_first}

-- an update that was signed has at most 1,024 entries
pub few_deps : (s : Signed) (u : Update) → IsSigned s → s.statement ≡ statements.Update u → length u.deps ≤ 1024
unfolding update_body update_fields
few_deps s u fits is =
    let one : IsUpdate u = IsUpdate-from_statement u (subst (λ (x : Statement). IsStatement x) is (IsStatement-from_signed s fits)) in
    let r = number_within w16 0 1024 (length u.deps) (assumption one) in
    r.1

-- ---- no check of the content reports a fork

no_fork : HoldsOfContent TellsNoFork
no_fork = record { missing = λ h. tt; wrong_dep = λ place. tt; backward = λ h. tt; clock_low = λ h. tt; clock_far = λ greatest. tt; history = λ given right. tt }

-- the first of them that fails reports none
pub content_tells_no_fork : (u : Update) (seen : Sight) (c : Check) → first (content_checks u seen) ≡ Some c → TellsNoFork c
content_tells_no_fork u seen c e = shows_first TellsNoFork (content_checks u seen) (shows_content TellsNoFork no_fork u seen) c e
