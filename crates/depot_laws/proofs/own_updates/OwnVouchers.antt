-- What a node's own vouchers name.
use Rattle.std.proofs.Common.{◌≡◌, ℕ, ◌&&◌, ◌==◌, not, true, List, ◌∷◌, sym, subst, inl, inr}
use Rattle.std.specs.Str.{bytes_eq}
use Rattle.depot_base.specs.declared.update.Update.{Update}
use Rattle.depot_base.specs.declared.voucher.Voucher.{Voucher}
use Rattle.depot_base.specs.declared.statement.Statement.TheVariants as statement
use Rattle.depot_base.specs.declared.record.Record.{Record}
use Rattle.depot_base.specs.declared.record.Record.TheVariants.{Birth, OwnPut, OwnVoucher, Foreign, Conviction, Held}
use Rattle.depot_model.specs.lists.Lists.{IsIn}
use Rattle.depot_model.specs.texts.Texts.{id_of_update}
use Rattle.depot_model.specs.journals.Journal.{accepted, accepted_by, own, own_by, is_foreign}
use Rattle.depot_model.specs.checks.Checks.{Setting}
use Rattle.depot_model.specs.journals.Lawful.{MayFollow, IsLawful}
use Rattle.depot_model.proofs.lists.Members.{any_from, any_to}
use Rattle.depot_laws.proofs.lists.Splits.{given_by, flat_left}

vouched_by : (here : Setting) (J : List Record) (r : Record) (v : Voucher) (h : List ℕ) → MayFollow here J r → IsIn (statement.Voucher v) (own_by r) → IsIn h v.ids → is_foreign here.me (accepted J) h ≡ true
vouched_by here J (OwnVoucher w) v h may (inl same) named = let is : w ≡ v = cc in may.ids h (subst (λ (x : Voucher). IsIn h x.ids) (sym is) named)
vouched_by here J (OwnVoucher w) v h may (inr never) named = absurd never
vouched_by here J (OwnPut u values) v h may (inl same) named = absurd cc
vouched_by here J (OwnPut u values) v h may (inr never) named = absurd never
vouched_by here J (Birth node roster) v h may never named = absurd never
vouched_by here J (Foreign s) v h may never named = absurd never
vouched_by here J (Conviction p) v h may never named = absurd never
vouched_by here J (Held value) v h may never named = absurd never

-- each id of an own voucher is that of an accepted update of another writer
pub own_vouched : (here : Setting) (J : List Record) (v : Voucher) (h : List ℕ) → IsLawful here J → IsIn (statement.Voucher v) (own J) → IsIn h v.ids → is_foreign here.me (accepted J) h ≡ true
own_vouched here J v h l on named =
    let g = given_by own_by (statement.Voucher v) J on in
    let test : Update → _ = λ (t : Update). bytes_eq (id_of_update t) h && not (t.writer == here.me) in
    let u = any_to test (accepted g.before) (vouched_by here g.before g.by v h (l.each g.before g.by g.after g.is).may g.given named) in
    any_from test u.0 (accepted J) (subst (λ (K : List Record). IsIn u.0 (accepted K)) (sym g.is) (flat_left accepted_by u.0 g.before (g.by ∷ g.after) u.1.0)) u.1.1
