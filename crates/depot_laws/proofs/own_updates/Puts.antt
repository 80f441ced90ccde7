-- A node's own updates, and the records that put them.
use Rattle.std.proofs.Common.{◌≡◌, ℕ, List, [], ◌∷◌, ◌++◌, ap, ◌∙◌, inl, inr}
use Rattle.std.specs.List.{flat_map}
use Rattle.depot_base.specs.Statement.{writer_of}
use Rattle.depot_base.specs.declared.update.Update.{Update}
use Rattle.depot_base.specs.declared.statement.Statement.TheVariants as statement
use Rattle.depot_base.specs.declared.record.Record.{Record}
use Rattle.depot_base.specs.declared.record.Record.TheVariants.{Birth, OwnPut, OwnVoucher, Foreign, Conviction, Held}
use Rattle.depot_model.specs.lists.Lists.{IsIn}
use Rattle.depot_model.specs.journals.Journal.{accepted, accepted_by, own, own_by, update_in}
use Rattle.depot_model.specs.checks.Checks.{Setting}
use Rattle.depot_model.specs.journals.Lawful.{MayPut, IsLawful}
use Rattle.depot_model.specs.worlds.Causality.{puts_of}
use Rattle.depot_laws.proofs.lists.Splits.{given_by, given_too}
use Rattle.depot_laws.proofs.orders.ChainLaws.{brought, foreign_writer}
use Rattle.depot_laws.proofs.own_updates.Nexts.{next_of}

-- the own update that a record puts
abbrev pub put_by : Record → List Update
put_by r = flat_map update_in (own_by r)

-- the record that puts an own update, and where it is
pub record PutAt (u : Update) (J : List Record) : Type 0 where
  pub before : List Record
  pub values : List (List ℕ)
  pub after : List Record
  pub is : J ≡ before ++ OwnPut u values ∷ after

pub record PutsIt (u : Update) (r : Record) : Type 0 where
  pub values : List (List ℕ)
  pub is : r ≡ OwnPut u values

put_is : (u : Update) (r : Record) → IsIn u (put_by r) → PutsIt u r
put_is u (OwnPut w values) (inl same) = record { values = values; is = ap (λ (x : Update). OwnPut x values) same }
put_is u (OwnPut w values) (inr never) = absurd never
put_is u (Birth node h) never = absurd never
put_is u (OwnVoucher v) never = absurd never
put_is u (Foreign s) never = absurd never
put_is u (Conviction p) never = absurd never
put_is u (Held value) never = absurd never

-- a record by itself
pub one_put : (u : Update) (r : Record) → IsIn u (puts_of (r ∷ [])) → PutsIt u r
one_put u (OwnPut w values) (inl same) = record { values = values; is = ap (λ (x : Update). OwnPut x values) same }
one_put u (OwnPut w values) (inr never) = absurd never
one_put u (Birth node h) never = absurd never
one_put u (OwnVoucher v) never = absurd never
one_put u (Foreign s) never = absurd never
one_put u (Conviction p) never = absurd never
one_put u (Held value) never = absurd never

pub put_at : (u : Update) (J : List Record) → IsIn u (puts_of J) → PutAt u J
put_at u J on =
    let g = given_by put_by u J on in
    let p = put_is u g.by g.given in
    record { before = g.before; values = p.values; after = g.after; is = g.is ∙ ap (λ (r : Record). g.before ++ r ∷ g.after) p.is }

-- what the rules ask of it was so
pub put_allowed : (here : Setting) (J : List Record) (u : Update) → IsLawful here J → (p : PutAt u J) → MayPut here p.before u p.values
put_allowed here J u l p = (l.each p.before (OwnPut u p.values) p.after p.is).may

-- an own update is accepted
pub put_is_accepted : (u : Update) (J : List Record) → IsIn u (puts_of J) → IsIn u (accepted J)
put_is_accepted u J on = let g = given_by put_by u J on in given_too put_by accepted_by u u J g (told g.by g.given) where
  told : (r : Record) → IsIn u (put_by r) → IsIn u (accepted_by r)
  told (OwnPut w values) here = here
  told (Birth node h) never = absurd never
  told (OwnVoucher v) never = absurd never
  told (Foreign s) never = absurd never
  told (Conviction p) never = absurd never
  told (Held value) never = absurd never

-- an own statement that is an update is an own update
pub put_from_own : (u : Update) (J : List Record) → IsIn (statement.Update u) (own J) → IsIn u (puts_of J)
put_from_own u J on = let g = given_by own_by (statement.Update u) J on in given_too own_by put_by (statement.Update u) u J g (told g.by g.given) where
  told : (r : Record) → IsIn (statement.Update u) (own_by r) → IsIn u (put_by r)
  told (OwnPut w values) (inl same) = let p : w ≡ u = cc in inl p
  told (OwnPut w values) (inr never) = absurd never
  told (OwnVoucher v) (inl same) = absurd cc
  told (OwnVoucher v) (inr never) = absurd never
  told (Birth node h) never = absurd never
  told (Foreign s) never = absurd never
  told (Conviction p) never = absurd never
  told (Held value) never = absurd never

-- its writer is the node
pub put_writer : (here : Setting) (J : List Record) (u : Update) → IsLawful here J → IsIn u (puts_of J) → u.writer ≡ here.me
put_writer here J u l on = ap (λ (x : Update). x.writer) (next_of (put_allowed here J u l (put_at u J on)))

-- an accepted update of the node is an own one
pub put_from_writer : (here : Setting) (J : List Record) (u : Update) → IsLawful here J → IsIn u (accepted J) → u.writer ≡ here.me → IsIn u (puts_of J)
put_from_writer here J u l on writer = elim (brought J u on) [
  | inl mine ↦ put_from_own u J mine
  | inr s ↦ absurd (foreign_writer here J s.0 l s.1.0 (ap writer_of s.1.1 ∙ writer))
]
