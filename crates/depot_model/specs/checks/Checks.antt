-- The checks of what a node is given, in their order, the answer, and what the journal grows by.
use Rattle.std.specs.Prelude.{ℕ, suc, ◌+◌, List, [], ◌∷◌, ◌++◌, length, map, Bool, true, false, not, ◌&&◌, ◌||◌, ◌==◌, nat_le, nat_lt, max, is_none, Option, Some, None, Result, Ok, Err, option_map, if◌then◌else◌}
use Rattle.std.specs.List.{flat_map, list_any}
use Rattle.std.specs.Str.{bytes_eq}
use Rattle.sha2.specs.Sha256.{sha256}
use Rattle.depot_base.specs.declared.limits.TheConstants.{MOST_AHEAD}
use Rattle.depot_base.specs.Statement.{writer_of}
use Rattle.depot_base.specs.declared.update.Update.{Update}
use Rattle.depot_base.specs.declared.update.Dep.{Dep}
use Rattle.depot_base.specs.declared.statement.Statement.{Statement}
use Rattle.depot_base.specs.declared.statement.Statement.TheVariants as statement
use Rattle.depot_base.specs.declared.statement.Signed.{Signed}
use Rattle.depot_base.specs.declared.proof.Kind.{Kind}
use Rattle.depot_base.specs.declared.proof.Proof.{Proof}
use Rattle.depot_base.specs.declared.key.RosterEntry.{RosterEntry}
use Rattle.depot_base.specs.declared.record.Record.{Record}
use Rattle.depot_base.specs.declared.record.Record.TheVariants.{Foreign, Conviction, Held}
use Rattle.depot_base.specs.declared.check.Check.{Check}
use Rattle.depot_base.specs.declared.check.Check.TheVariants as check
use Rattle.depot_model.specs.declared.taken.Taken.{Taken}
use Rattle.depot_model.specs.declared.taken.Taken.TheVariants.{New, Known}
use Rattle.depot_model.specs.lists.Lists.{when, first}
use Rattle.depot_model.specs.texts.Texts.{text_of_statement, id_of_update, id_of_statement}
use Rattle.depot_model.specs.updates.Order.{prevs, past}
use Rattle.depot_model.specs.updates.History.{history_hash}
use Rattle.depot_model.specs.declared.judgement.JudgeError.{JudgeError}
use Rattle.depot_model.specs.declared.judgement.JudgeError.TheVariants as point
use Rattle.depot_model.specs.updates.Contradictions.{kind_of}
use Rattle.depot_model.specs.updates.Judgement.{half_of, first_failed_point}
use Rattle.depot_model.specs.updates.Conviction.{proof_of}
use Rattle.depot_model.specs.texts.Roster.{Verifies, has_node, is_signed}
use Rattle.depot_model.specs.journals.Journal.{accepted, foreign, accused, update_in, voucher_by, has_id, named, is_convicted, is_vouched, holds_hash, is_wanted}

-- a node's setting: its scheme, its own number, its roster
pub record Setting : Type 0 where
  pub verifies : Verifies
  pub me : ℕ
  pub listed : List RosterEntry

-- what a node is given, once its text is read
pub data Given : Type 0 where
  given_statement : Signed → Given
  given_proof : Proof → Given
  given_value : List ℕ → Given

-- ---- the checks of an update's content

-- What a node sees of what an update names: the accepted update of the prev (nothing where the prev is zeros), that of
-- each entry, and the right history hash. The checks of its content look at the update and at this alone.
pub record Sight : Type 0 where
  pub before : List (Option Update)
  pub entries : List (Dep × Option Update)
  pub history : List ℕ

-- what is seen from some accepted updates
unfoldable pub sight : List Update → Update → Sight
sight us u = record {
  before = map (named us) (prevs u);
  entries = map (λ d. (d, named us d.id)) u.deps;
  history = history_hash (past u us);
}

abbrev pub lost : List ℕ → Option Update → Option Check
lost h None = Some (check.Missing h)
lost h (Some t) = None

-- a parent isn't accepted: the first, the prev before the entries
abbrev pub missing : Update → Sight → Option Check
missing u seen = first (map (lost u.prev) seen.before ++ map (λ e. lost e.0.id e.1) seen.entries)

abbrev pub wrong_prev : Update → Option Update → Option Check
wrong_prev u None = None
wrong_prev u (Some t) = when (not (t.writer == u.writer)) (check.WrongDep 0)

abbrev pub wrong_entry : ℕ → Dep → Option Update → Option Check
wrong_entry place d None = None
wrong_entry place d (Some t) = when (not ((t.writer == d.writer) && (t.clock == d.clock))) (check.WrongDep place)

abbrev pub wrong_entries : ℕ → List (Dep × Option Update) → List (Option Check)
wrong_entries place [] = []
wrong_entries place (e ∷ es) = wrong_entry place e.0 e.1 ∷ wrong_entries (suc place) es

-- the prev is another writer's, or an entry has another writer or clock than the update that it names
abbrev pub wrong_dep : Update → Sight → Option Check
wrong_dep u seen = first (map (wrong_prev u) seen.before ++ wrong_entries 1 seen.entries)

abbrev pub behind : Update → Option Update → Option Check
behind u None = None
behind u (Some t) = when (nat_le u.seq t.seq || nat_le u.clock t.clock) (check.Backward u.prev)

-- seq or clock isn't greater than the prev's
abbrev pub backward : Update → Sight → Option Check
backward u seen = first (map (behind u) seen.before)

abbrev pub not_above : Update → List ℕ → Option Update → Option Check
not_above u h None = None
not_above u h (Some t) = when (nat_le u.clock t.clock) (check.ClockLow h)

-- the clock isn't above a parent's
abbrev pub clock_low : Update → Sight → Option Check
clock_low u seen = first (map (not_above u u.prev) seen.before ++ map (λ e. not_above u e.0.id e.1) seen.entries)

abbrev pub clock_of : Option Update → ℕ
clock_of None = 0
clock_of (Some t) = t.clock

abbrev pub greatest_of : List (Option Update) → ℕ
greatest_of [] = 0
greatest_of (o ∷ os) = max (clock_of o) (greatest_of os)

-- the clock is more than 65,536 above the greatest of the parents
abbrev pub clock_far : Update → Sight → Option Check
clock_far u seen =
    let greatest = greatest_of (seen.before ++ map (λ e. e.1) seen.entries) in
    when (nat_lt (greatest + MOST_AHEAD) u.clock) (check.ClockFar greatest)

-- the history hash isn't the right one
abbrev pub bad_history : Update → Sight → Option Check
bad_history u seen = when (not (bytes_eq u.history seen.history)) (check.BadHistory u.history seen.history)

unfoldable pub content_checks : Update → Sight → List (Option Check)
content_checks u seen = missing u seen ∷ wrong_dep u seen ∷ backward u seen ∷ clock_low u seen ∷ clock_far u seen ∷ bad_history u seen ∷ []

-- ---- forks and convictions

-- the first of some signed statements that a statement contradicts, and how
unfoldable pub opponent : List Signed → Statement → Option (Signed × Kind)
opponent [] s = None
opponent (f ∷ fs) s = elim (kind_of f.statement s) [
  | None ↦ opponent fs s
  | Some k ↦ Some (f, k)
]

abbrev pub forked_by : Statement → Option (Signed × Kind) → Option Check
forked_by s None = None
forked_by s (Some o) = Some (check.Forked (id_of_statement o.0.statement) (id_of_statement s) o.1)

-- it contradicts a statement that is kept, its writer isn't convicted, and nobody vouched for it
unfoldable pub forked : List Record → Statement → Option Check
forked J s = if is_convicted J (writer_of s) || is_vouched J s then None else forked_by s (opponent (foreign J) s)

-- an update of a convicted writer that nobody vouched for, or a voucher of a convicted node
unfoldable pub refused_as_convicted : List Record → Statement → Option Check
refused_as_convicted J (statement.Update u) = when (is_convicted J u.writer && not (is_vouched J (statement.Update u))) (check.Convicted u.writer)
refused_as_convicted J (statement.Voucher v) = when (is_convicted J v.node) (check.VoucherConvicted v.node)

-- ---- the checks in their order, after that of the text

abbrev pub content_of : List Record → Statement → List (Option Check)
content_of J (statement.Update u) = content_checks u (sight (accepted J) u)
content_of J (statement.Voucher v) = []

unfoldable pub statement_checks : Setting → List Record → Signed → List (Option Check)
statement_checks here J s =
    when (not (has_node here.listed (writer_of s.statement))) (check.UnknownWriter (writer_of s.statement)) ∷
    when (writer_of s.statement == here.me) (check.NotMine (id_of_statement s.statement)) ∷
    when (not (is_signed here.verifies here.listed s)) (check.BadSignature (writer_of s.statement)) ∷
    (content_of J s.statement ++ (forked J s.statement ∷ refused_as_convicted J s.statement ∷ []))

-- the check that a proof fails where it fails a point of the judge
abbrev pub check_of_point : Proof → JudgeError → Check
check_of_point p (point.UnknownWriter n) = check.UnknownWriter n
check_of_point p (point.BadSignature half) = check.BadSignature (writer_of (half_of half p).statement)
check_of_point p other = check.NotContradictory

-- what a judge asks of it, and then that it isn't against the node itself
unfoldable pub proof_checks : Setting → Proof → List (Option Check)
proof_checks here p =
    option_map (check_of_point p) (first_failed_point here.verifies here.listed p) ∷
    when (accused p == here.me) check.AgainstMe ∷ []

-- the first check that fails, or none
unfoldable pub first_failed_check : Setting → List Record → Given → Option Check
first_failed_check here J (given_statement s) = first (statement_checks here J s)
first_failed_check here J (given_proof p) = first (proof_checks here p)
first_failed_check here J (given_value v) = when (not (is_wanted (accepted J) (sha256 v) (length v))) (check.Unwanted (sha256 v))

-- ---- the answer

-- the statement is known: an update of its id is accepted, or a voucher of its body is kept
abbrev pub is_kept : List Record → Statement → Bool
is_kept J (statement.Update u) = has_id (accepted J) (id_of_update u)
is_kept J (statement.Voucher v) = list_any (λ w. bytes_eq (text_of_statement (statement.Voucher w)) (text_of_statement (statement.Voucher v))) (flat_map voucher_by J)

-- A statement is Known before its own writer and its signature are looked at; a proof after all its checks.
unfoldable pub is_known : Setting → List Record → Given → Bool
is_known here J (given_statement s) = has_node here.listed (writer_of s.statement) && is_kept J s.statement
is_known here J (given_proof p) = is_none (first_failed_check here J (given_proof p)) && is_convicted J (accused p)
is_known here J (given_value v) = holds_hash J (sha256 v)

abbrev pub answer_by : Bool → Option Check → Result Taken Check
answer_by true failed = Ok Known
answer_by false None = Ok New
answer_by false (Some c) = Err c

-- the answer to what a node is given, but for the limits
unfoldable pub answer_to : Setting → List Record → Given → Result Taken Check
answer_to here J x = answer_by (is_known here J x) (first_failed_check here J x)

-- ---- the growth

-- a conviction that is due: the writer isn't convicted, and there is an opponent
unfoldable pub due : List Record → Signed → Option (Signed × Kind) → List Record
due J s None = []
due J s (Some o) = if is_convicted J (writer_of s.statement) then [] else Conviction (proof_of o.1 o.0 s) ∷ []

-- an update with this id
abbrev pub is_update_with : List ℕ → Statement → Bool
is_update_with h s = list_any (λ u. bytes_eq (id_of_update u) h) (update_in s)

-- the first kept update with this id, as the one that a statement contradicts
unfoldable pub named_opponent : List Signed → List ℕ → Statement → Option (Signed × Kind)
named_opponent [] h s = None
named_opponent (f ∷ fs) h s = if is_update_with h f.statement then option_map (λ k. (f, k)) (kind_of f.statement s) else named_opponent fs h s

-- what is appended for something new
unfoldable pub added : List Record → Given → List Record
added J (given_statement s) = (if is_vouched J s.statement then due J s (opponent (foreign J) s.statement) else []) ++ Foreign s ∷ []
added J (given_proof p) = Conviction p ∷ []
added J (given_value v) = Held v ∷ []

-- what a refusal leaves behind: a fork, or a step back, convicts its writer
abbrev pub exposed : List Record → Given → Check → List Record
exposed J (given_statement s) (check.Forked kept came kind) = due J s (opponent (foreign J) s.statement)
exposed J (given_statement s) (check.Backward h) = due J s (named_opponent (foreign J) h s.statement)
exposed J x c = []

abbrev pub growth_by : List Record → Given → Result Taken Check → List Record
growth_by J x (Ok Known) = []
growth_by J x (Ok New) = added J x
growth_by J x (Err c) = exposed J x c

-- the records that are appended for what a node is given, where there is room for them
unfoldable pub growth : Setting → List Record → Given → List Record
growth here J x = growth_by J x (answer_to here J x)
