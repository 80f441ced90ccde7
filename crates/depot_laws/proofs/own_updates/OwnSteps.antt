-- A node's own statements: the node is their writer, they are numbered in turn, and each own update is an earlier step than
-- the next one.
use Rattle.std.proofs.Common.{◌≡◌, ◌+◌, ◌<◌, List, length, refl, sym, ap, ◌∙◌, inl, inr, arith, length-append}
use Rattle.depot_base.specs.Statement.{writer_of, seq_of}
use Rattle.depot_base.specs.declared.update.Update.{Update}
use Rattle.depot_base.specs.declared.statement.Statement.{Statement}
use Rattle.depot_base.specs.declared.statement.Statement.TheVariants as statement
use Rattle.depot_base.specs.declared.record.Record.{Record}
use Rattle.depot_base.specs.declared.record.Record.TheVariants.{Birth, OwnPut, OwnVoucher, Foreign, Conviction, Held}
use Rattle.depot_model.specs.lists.Lists.{IsIn}
use Rattle.depot_model.specs.updates.History.{greatest_clock}
use Rattle.depot_model.specs.journals.Journal.{accepted, own, own_by}
use Rattle.depot_model.specs.checks.Checks.{Setting}
use Rattle.depot_model.specs.checks.Own.{next_with}
use Rattle.depot_model.specs.journals.Lawful.{MayFollow, IsLawful}
use Rattle.depot_model.specs.updates.Chains.{IsEarlierStep}
use Rattle.depot_base.proofs.GeneralLaws.{flat_push}
use Rattle.depot_laws.proofs.lists.Splits.{given_by, flat_cases, lawful_from_end}
use Rattle.depot_laws.proofs.records.Causes.{own_in_accepted}
use Rattle.depot_laws.proofs.orders.Clocks.{clock_below}
use Rattle.depot_laws.proofs.own_updates.Nexts.{next_of}

-- what an own statement has: the node as its writer, and the next number
pub record IsNextOwn (here : Setting) (J : List Record) (r : Record) (s : Statement) : Type 0 where
  pub writer : writer_of s ≡ here.me
  pub seq : seq_of s ≡ length (own J)
  pub one : length (own_by r) ≡ 1

pub next_own_is : (here : Setting) (J : List Record) (r : Record) (s : Statement) → MayFollow here J r → IsIn s (own_by r) → IsNextOwn here J r s
next_own_is here J (Birth node roster) s may never = absurd never
next_own_is here J (OwnPut u values) s may (inl e) = record { writer = ap writer_of (sym e) ∙ ap (λ (x : Update). x.writer) (next_of may); seq = ap seq_of (sym e) ∙ ap (λ (x : Update). x.seq) (next_of may); one = refl }
next_own_is here J (OwnPut u values) s may (inr never) = absurd never
next_own_is here J (OwnVoucher v) s may (inl e) = record { writer = ap writer_of (sym e) ∙ may.node; seq = ap seq_of (sym e) ∙ may.seq; one = refl }
next_own_is here J (OwnVoucher v) s may (inr never) = absurd never
next_own_is here J (Foreign t) s may never = absurd never
next_own_is here J (Conviction p) s may never = absurd never
next_own_is here J (Held value) s may never = absurd never

-- own statements are the node's
pub own_writer : (here : Setting) (J : List Record) → IsLawful here J → (s : Statement) → IsIn s (own J) → writer_of s ≡ here.me
own_writer here J l s on = let g = given_by own_by s J on in (next_own_is here g.before g.by s (l.each g.before g.by g.after g.is).may g.given).writer

-- their numbers are below the number of own statements
pub own_seq : (here : Setting) (J : List Record) → IsLawful here J → (s : Statement) → IsIn s (own J) → seq_of s < length (own J)
own_seq here J l = lawful_from_end here (λ (J : List Record). (s : Statement) → IsIn s (own J) → seq_of s < length (own J)) (λ s never. absurd never)
    (λ J r l allowed before s on.
    let long = ap length (flat_push own_by J r) ∙ length-append (own J) (own_by r) in
    elim (flat_cases own_by s J r on) [
      | inl old ↦ omega (arith, before s old, long)
      | inr now ↦ let n = next_own_is here J r s allowed.may now in omega (arith, n.seq, n.one, long)
    ]) J l

-- an own update is an earlier step than the next one
pub below_next : (here : Setting) (J : List Record) (t u : Update) → IsLawful here J → u ≡ next_with here.me J u.writes → IsIn (statement.Update t) (own J) → IsEarlierStep t u
below_next here J t u l next on =
    let seq : u.seq ≡ length (own J) = ap (λ (x : Update). x.seq) next in
    let clock : u.clock ≡ greatest_clock (accepted J) + 1 = ap (λ (x : Update). x.clock) next in
    record { seq = omega (arith, seq, own_seq here J l (statement.Update t) on); clock = omega (arith, clock, clock_below t (accepted J) (own_in_accepted t J on)) }
