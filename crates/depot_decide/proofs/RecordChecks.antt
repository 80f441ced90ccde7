-- What is checked of a record that is read, by its kind.
use Rattle.std.proofs.Common.{◌≡◌, ◌↔◌, ℕ, ◌<◌, ◌≤◌, eqb, ltb, Bool, true, false, IsTrue, cond, List, [], ◌∷◌, ◌++◌, length, map, Some, None, Result, Ok, Err, refl, sym, ap, subst, ◌∙◌, arith, length-append}
use Rattle.std.specs.List.{AllByRecursion}
use Rattle.std.proofs.lemmas.Bool.{both_ways, ltb-true, eqb-true}
use Rattle.depot_base.specs.declared.limits.TheConstants.{MOST_ENTRIES}
use Rattle.depot_base.specs.declared.check.Check.{Check}
use Rattle.depot_base.specs.declared.proof.Proof.{Proof}
use Rattle.depot_base.specs.declared.record.Record.{Record}
use Rattle.depot_base.specs.declared.record.Record.TheVariants.{OwnPut, Foreign, Conviction, Held}
use Rattle.depot_base.specs.declared.statement.Signed.{Signed}
use Rattle.depot_base.specs.declared.update.Update.{Update}
use Rattle.depot_base.specs.declared.voucher.Voucher.{Voucher}
use Rattle.depot_base.specs.declared.write.Write.{Write}
use Rattle.depot_model.specs.declared.record_fault.RecordFault.{RecordFault}
use Rattle.depot_model.specs.declared.record_fault.RecordFault.TheVariants as fault
use Rattle.depot_model.specs.declared.taken.Taken.{Taken}
use Rattle.depot_model.specs.declared.taken.Taken.TheVariants.{New, Known}
use Rattle.depot_model.specs.checks.Checks.{Setting, Given, given_statement, given_proof, given_value, opponent, due, added, growth_by, growth}
use Rattle.depot_model.specs.journals.Journal.{accepted, foreign, is_foreign, is_vouched, own}
use Rattle.depot_model.specs.journals.Lawful.{MayFollow, MayPut, MayVouch}
use Rattle.depot_model.proofs.lists.Members.{all_at, all_from}
use Rattle.depot_model.specs.checks.Own.{next_own, next_with, write_of, changes_of, IsFresh, leaf_count}
use Rattle.depot_model.specs.checks.RecordFaults.{taken_by_record, IsAtPlace}
use Rattle.depot_model.specs.texts.Texts.{id_of_update}
use Rattle.depot_laws.proofs.own_updates.Nexts.{next_of, own_writes}
use Rattle.depot_decide.specs.Deciding.{IsDecided}
use Rattle.depot_decide.specs.ReadRecords.{IsGoodRecord, IsRecordChecked, TakesNew, HasManyEntries, record_fault_of}
use Rattle.depot_decide.specs.declared.record_check.Fit.{Fit}
use Rattle.depot_decide.specs.declared.record_check.ReadError.{ReadError}
use Rattle.depot_decide.specs.declared.record_check.ReadError.TheVariants as refused

-- ---- what was taken of others

-- what a journal grows by for something new
grows_new : (here : Setting) (J : List Record) (x : Given) (answer : Result Taken Check) (new : List Record) → IsDecided here J x answer new → answer ≡ Ok New → new ≡ added J x
unfolding growth
grows_new here J x answer new d is = sym d.grows ∙ ap (growth_by J x) (d.is ∙ is)

-- a value that is new may follow
good_value : (here : Setting) (J : List Record) (value : List ℕ) (answer : Result Taken Check) (decided new : List Record) → IsDecided here J (given_value value) answer decided → (answer ≡ Ok New) × (new ≡ decided) → IsGoodRecord here J (Held value) new
unfolding added
good_value here J value answer decided new d taken = record { alone = taken.1 ∙ grows_new here J (given_value value) answer decided d taken.0; may = d.is ∙ taken.0 }

-- and so may the conviction by a proof that is new
good_proof : (here : Setting) (J : List Record) (p : Proof) (answer : Result Taken Check) (decided new : List Record) → IsDecided here J (given_proof p) answer decided → (answer ≡ Ok New) × (new ≡ decided) → IsGoodRecord here J (Conviction p) new
unfolding added
good_proof here J p answer decided new d taken = record { alone = taken.1 ∙ grows_new here J (given_proof p) answer decided d taken.0; may = d.is ∙ taken.0 }

-- nothing is wrong with what is new
pub takes_new : (answer : Result Taken Check) (decided : List Record) (fit : Fit) → record_fault_of answer ≡ None → fit.growth ≡ decided → TakesNew answer decided (Ok fit)
takes_new (Ok New) decided fit none same = (refl, same)
takes_new (Ok Known) decided fit none same = absurd cc
takes_new (Err c) decided fit none same = absurd cc

-- and something with all else
pub takes_none : (answer : Result Taken Check) (decided : List Record) (f : RecordFault) → record_fault_of answer ≡ Some f → TakesNew answer decided (Err (refused.Fault f))
takes_none (Ok New) decided f some = absurd cc
takes_none (Ok Known) decided f some = let is : fault.Idle ≡ f = cc in subst (λ (x : RecordFault). TakesNew (Ok Known) decided (Err (refused.Fault x))) is refl
takes_none (Err c) decided f some = let is : fault.Refused c ≡ f = cc in subst (λ (x : RecordFault). TakesNew (Err c) decided (Err (refused.Fault x))) is refl

-- what wasn't new is refused, or was known
pub not_new : (here : Setting) (J : List Record) (r : Record) (x : Given) (answer : Result Taken Check) (new : List Record) (e : ReadError) → IsAtPlace J r → taken_by_record r ≡ Some x → IsDecided here J x answer new → TakesNew answer new (Err e) → IsRecordChecked here J r (Err e)
not_new here J r x answer new refused.Memory place took d n = tt
not_new here J r x answer new (refused.Fault fault.Idle) place took d n = (place, (x, (took, d.is ∙ n)))
not_new here J r x answer new (refused.Fault (fault.Refused c)) place took d n = (place, (x, (took, d.is ∙ n)))
not_new here J r x answer new e place took d n = absurd n

-- a value of others
pub checked_value : (here : Setting) (J : List Record) (value bytes : List ℕ) (answer : Result Taken Check) (decided : List Record) (result : Result Fit ReadError) → IsAtPlace J (Held value) → bytes ≡ value → IsDecided here J (given_value bytes) answer decided → TakesNew answer decided result
    → IsRecordChecked here J (Held value) result
checked_value here J value bytes answer decided result place same d taken = by_result result (subst (λ (v : List ℕ). IsDecided here J (given_value v) answer decided) same d) taken where
  by_result : (result : Result Fit ReadError) → IsDecided here J (given_value value) answer decided → TakesNew answer decided result → IsRecordChecked here J (Held value) result
  by_result (Ok fit) d taken = good_value here J value answer decided fit.growth d taken
  by_result (Err e) d taken = not_new here J (Held value) (given_value value) answer decided e place refl d taken

-- a conviction
pub checked_proof : (here : Setting) (J : List Record) (p : Proof) (answer : Result Taken Check) (decided : List Record) (result : Result Fit ReadError) → IsAtPlace J (Conviction p) → IsDecided here J (given_proof p) answer decided → TakesNew answer decided result
    → IsRecordChecked here J (Conviction p) result
checked_proof here J p answer decided (Ok fit) place d taken = good_proof here J p answer decided fit.growth d taken
checked_proof here J p answer decided (Err e) place d taken = not_new here J (Conviction p) (given_proof p) answer decided e place refl d taken

-- a list with one after it that has one at most is that one
only_last : (front : List Record) (r : Record) → length (front ++ r ∷ []) ≤ 1 → front ++ r ∷ [] ≡ r ∷ []
only_last [] r short = refl
only_last (x ∷ front) r short = absurd (omega (arith, length-append front (r ∷ []), short))

alone_added : (J : List Record) (s : Signed) → length (added J (given_statement s)) ≤ 1 → added J (given_statement s) ≡ Foreign s ∷ []
unfolding added
alone_added J s short = only_last (cond (is_vouched J s.statement) (due J s (opponent (foreign J) s.statement)) []) (Foreign s) short

-- a statement that is new may follow, where the journal grows by one record
pub good_statement : (here : Setting) (J : List Record) (s : Signed) (answer : Result Taken Check) (decided new : List Record) → IsDecided here J (given_statement s) answer decided → (answer ≡ Ok New) × (new ≡ decided) → length new ≤ 1 → IsGoodRecord here J (Foreign s) new
good_statement here J s answer decided new d taken short =
    let grown : new ≡ added J (given_statement s) = taken.1 ∙ grows_new here J (given_statement s) answer decided d taken.0 in
    let one : new ≡ Foreign s ∷ [] = grown ∙ alone_added J s (subst (λ (rs : List Record). length rs ≤ 1) grown short) in
    record { alone = one; may = (d.is ∙ taken.0, d.grows ∙ sym taken.1 ∙ one) }

-- ---- own updates

-- it may be put
pub may_put : (here : Setting) (J : List Record) (u next : Update) (ws : List Write) (values : List (List ℕ)) (id : List ℕ) → u ≡ next → next ≡ next_with here.me J ws → ws ≡ u.writes → u.writes ≡ map write_of (changes_of u.writes values)
    → length (own J) < leaf_count here.listed here.me → length (next_with here.me J ws).deps ≤ MOST_ENTRIES → id ≡ id_of_update u → IsFresh J id → MayFollow here J (OwnPut u values)
unfolding next_own
may_put here J u next ws values id same is copied made leaf narrow named fresh = record {
  next = same ∙ is ∙ ap (next_with here.me J) (copied ∙ made);
  fresh = subst (λ (h : List ℕ). IsFresh J h) named fresh;
  tips = subst (λ (x : Update). length x.deps ≤ MOST_ENTRIES) (sym (same ∙ is)) narrow;
  leaf = leaf;
}

-- what is said of slices is said of the lists
pub told_of : (ws xs : List Write) (vs ys : List (List ℕ)) (told : Bool) → ws ≡ xs → vs ≡ ys → IsTrue told ↔ (ws ≡ map write_of (changes_of ws vs)) → IsTrue told ↔ (xs ≡ map write_of (changes_of xs ys))
told_of ws xs vs ys told one two is =
    subst (λ (l : List Write). IsTrue told ↔ (l ≡ map write_of (changes_of l ys))) one (subst (λ (l : List (List ℕ)). IsTrue told ↔ (ws ≡ map write_of (changes_of ws l))) two is)

-- what may be put has the values of its writes
pub made_of : {here : Setting} {J : List Record} {u : Update} {values : List (List ℕ)} → MayPut here J u values → u.writes ≡ map write_of (changes_of u.writes values)
made_of {here = here} {J = J} {u = u} {values = values} may = own_writes here.me J (changes_of u.writes values) u may.next

-- it may not where the values aren't those of its writes
pub other_values : (here : Setting) (J : List Record) (u : Update) (values : List (List ℕ)) (told : Bool) → IsAtPlace J (OwnPut u values) → IsTrue told ↔ (u.writes ≡ map write_of (changes_of u.writes values)) → told ≡ false
    → IsRecordChecked here J (OwnPut u values) (Err (refused.Fault fault.NotNext))
other_values here J u values told place is none = (place, λ may. both_ways told none (is.1 (made_of may)))

-- nor where another update with its writes comes next
pub other_next : (here : Setting) (J : List Record) (u next : Update) (ws : List Write) (values : List (List ℕ)) (told : Bool) → IsAtPlace J (OwnPut u values) → IsTrue told ↔ (u ≡ next) → told ≡ false → next ≡ next_with here.me J ws → ws ≡ u.writes
    → IsRecordChecked here J (OwnPut u values) (Err (refused.Fault fault.NotNext))
other_next here J u next ws values told place same none is copied =
    (place, λ may. both_ways told none (same.1 (next_of may ∙ ap (next_with here.me J) (sym copied) ∙ sym is)))

-- nor where its id isn't fresh
pub stale_id : (here : Setting) (J : List Record) (u : Update) (values : List (List ℕ)) (id : List ℕ) (told : Bool) → IsAtPlace J (OwnPut u values) → id ≡ id_of_update u → IsTrue told ↔ IsFresh J id → told ≡ false → IsRecordChecked here J (OwnPut u values) (Err (refused.Fault fault.NotNext))
stale_id here J u values id told place named is none = (place, λ may. both_ways told none (is.1 (subst (λ (h : List ℕ). IsFresh J h) (sym named) may.fresh)))

-- nor where it would have too many entries
pub wide_put : (here : Setting) (J : List Record) (u : Update) (ws : List Write) (values : List (List ℕ)) (e : ReadError) → IsAtPlace J (OwnPut u values) → ws ≡ u.writes → HasManyEntries (next_with here.me J ws) e → IsRecordChecked here J (OwnPut u values) (Err e)
wide_put here J u ws values refused.Memory place copied wide = tt
wide_put here J u ws values (refused.Fault fault.NotNext) place copied wide =
    (place, λ may. (let deps = ap (λ (x : Update). length x.deps) (next_of may) in omega (arith, may.tips, wide, deps)))
wide_put here J u ws values (refused.Fault f) place copied wide = absurd wide

-- ---- own vouchers

-- the node may make a voucher where the tests of its node, its seq, the leaf and its ids say so
pub asked_of_voucher : (here : Setting) (J : List Record) (v : Voucher) (me n : ℕ) (all : Bool) → me ≡ here.me → n ≡ length (own J) → true ≡ eqb v.node me → eqb v.seq n ≡ true → ltb n (leaf_count here.listed here.me) ≡ true
    → (IsTrue all ↔ AllByRecursion (λ (h : List ℕ). is_foreign here.me (accepted J) h ≡ true) v.ids) → IsTrue all ↔ MayVouch here J v
asked_of_voucher here J v me n all mine counted node seq leaf each = (
  λ yes. record {
    node = eqb-true v.node me (sym node) ∙ mine;
    seq = eqb-true v.seq n seq ∙ counted;
    leaf = subst (λ (x : ℕ). x < leaf_count here.listed here.me) counted (ltb-true n (leaf_count here.listed here.me) leaf);
    ids = λ h on. all_at (λ (x : List ℕ). is_foreign here.me (accepted J) x ≡ true) v.ids h (each.0 yes) on;
  },
  λ may. each.1 (all_from (λ (x : List ℕ). is_foreign here.me (accepted J) x ≡ true) v.ids may.ids),
)
