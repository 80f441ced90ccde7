-- What a take adds to a journal, in a state.
use Rattle.std.proofs.Common.{◌≡◌, List, [], ◌∷◌, ◌++◌, refl, sym, ap, subst, ◌∙◌, append_assoc}
use Rattle.std.specs.List.{AllByRecursion}
use Rattle.std.proofs.lemmas.List.{append-nil}
use Rattle.depot_base.specs.declared.key.RosterEntry.{RosterEntry}
use Rattle.depot_base.specs.declared.proof.Proof.{Proof}
use Rattle.depot_base.specs.declared.record.Record.{Record}
use Rattle.depot_base.specs.declared.record.Record.TheVariants.{Foreign, Conviction}
use Rattle.depot_base.specs.declared.statement.Signed.{Signed}
use Rattle.depot_model.specs.checks.Vouching.{records_of}
use Rattle.depot_accept.specs.StateView.{View, IsStateOf}
use Rattle.depot_accept.proofs.StateLaws.{turned_state}
use Rattle.depot_readings.specs.NewRecords.{records_in, vouchers_of}
use Rattle.depot_readings.specs.Taken.{IsTaken}
use Rattle.depot_readings.specs.declared.news.NewVoucher.{NewVoucher}
use Rattle.depot_readings.specs.declared.news.News.{News}
use Rattle.depot_readings.specs.declared.news.News.TheVariants as news

-- no records leave the state as it is
pub none_taken : {S : Type 0} (J new : List Record) (v : View S) → new ≡ [] → IsStateOf J v → IsStateOf (J ++ new) v
none_taken J new v none is = subst (λ (K : List Record). IsStateOf K v) (sym (ap (λ (rs : List Record). J ++ rs) none ∙ append-nil J)) is

-- own vouchers are none of what a take adds
pub no_vouchers : (listed : List RosterEntry) (n : News) (xs : List NewVoucher) → n ≡ news.Vouchers xs → AllByRecursion (IsTaken listed) (records_in n) → records_in n ≡ []
no_vouchers listed n xs is all = subst (λ (m : News). AllByRecursion (IsTaken listed) (records_in m) → records_in m ≡ []) (sym is) (by_list xs) all where
  by_list : (ys : List NewVoucher) → AllByRecursion (IsTaken listed) (records_of (vouchers_of ys)) → records_of (vouchers_of ys) ≡ []
  by_list [] all = refl
  by_list (y ∷ ys) all = absurd all.0

-- a conviction before a statement, which the state took first
pub both_taken : {S : Type 0} (J : List Record) (p : Proof) (s : Signed) (v : View S) → IsStateOf ((J ++ Foreign s ∷ []) ++ Conviction p ∷ []) v → IsStateOf (J ++ Conviction p ∷ Foreign s ∷ []) v
both_taken J p s v is = subst (λ (K : List Record). IsStateOf K v) (append_assoc J (Conviction p ∷ []) (Foreign s ∷ [])) (turned_state J s p v is)
