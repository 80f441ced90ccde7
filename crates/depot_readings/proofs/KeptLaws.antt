-- What is kept, with one record more.
use Rattle.std.proofs.Common.{◌≡◌, ℕ, ◌+◌, List, [], ◌∷◌, ◌++◌, length, max, refl, sym, ap, subst, ◌∙◌, append_assoc}
use Rattle.std.specs.Prelude.{Result, IsOk}
use Rattle.sha2.specs.Sha256.{sha256}
use Rattle.depot_base.specs.declared.proof.Proof.{Proof}
use Rattle.depot_base.specs.declared.record.Record.{Record}
use Rattle.depot_base.specs.declared.record.Record.TheVariants.{Birth, OwnPut, OwnVoucher, Foreign, Conviction, Held}
use Rattle.depot_base.specs.declared.statement.Signed.{Signed}
use Rattle.depot_base.specs.declared.statement.Statement.{Statement}
use Rattle.depot_base.specs.declared.update.Update.{Update}
use Rattle.depot_base.specs.declared.voucher.Voucher.{Voucher}
use Rattle.depot_model.specs.declared.taken.Taken.{Taken}
use Rattle.depot_model.specs.checks.Checks.{Setting}
use Rattle.depot_model.specs.journals.Journal.{accepted}
use Rattle.depot_model.specs.journals.Lawful.{IsLawful}
use Rattle.depot_model.specs.checks.Room.{foreign_leaves}
use Rattle.depot_model.specs.texts.Roster.{Verifies}
use Rattle.depot_model.specs.texts.Texts.{id_of_update}
use Rattle.depot_kept.specs.Values as values
use Rattle.depot_kept.specs.declared.values.Values.{Values}
use Rattle.depot_accept.specs.StateView.{View, IsAsBefore, IsStateOf, setting}
use Rattle.depot_readings.specs.ReadingsParts.{IsKeptOf, KeepsRecords, MayKeep, StillKeeps}
use Rattle.depot_readings.specs.LeavesWith.{leaves_then}
use Rattle.depot_readings.specs.Totals.{AreTotals, AreTaken}
use Rattle.depot_readings.specs.declared.totals.Totals.{Totals}
use Rattle.depot_readings.specs.AddedValues.{AddsAll}
use Rattle.depot_readings.proofs.HeldLaws.{Adds, one_added, held_grows, held_stays}
use Rattle.depot_readings.proofs.StateGrowth.{lawful_both, silent_state}
use Rattle.depot_readings.proofs.TotalLaws.{put_totals, silent_totals, taken_behind, taken_totals, voucher_totals}

-- where the node is the same
here_still : {S : Type 0} (verifies : Verifies) (J : List Record) (v w : View S) (t : Totals) → setting verifies w ≡ setting verifies v → AreTotals v.me J t → AreTotals w.me J t
here_still verifies J v w t stays a = subst (λ (here : Setting). AreTotals here.me J t) (sym stays) a

-- what is records_of of the same journal still
same_kept : {S : Type 0} (verifies : Verifies) (J : List Record) (v w : View S) (old new : Values) (t : Totals) → setting verifies w ≡ setting verifies v → IsStateOf J w → ((h : List ℕ) → values.held_in new h ≡ values.held_in old h) → IsKeptOf J v old t → IsKeptOf J w new t
same_kept verifies J v w old new t stays state same k = record { state = state; values = λ h. same h ∙ k.values h; totals = here_still verifies J v w t stays k.totals }

pub still_keeps : {S : Type 0} (verifies : Verifies) (v w : View S) (old new : Values) (t : Totals) → setting verifies w ≡ setting verifies v → ((J : List Record) → IsStateOf J v → IsStateOf J w) → ((h : List ℕ) → values.held_in new h ≡ values.held_in old h) → StillKeeps v old t w new t
still_keeps verifies v w old new t stays state same = λ J k. same_kept verifies J v w old new t stays (state J k.state) same k

-- a state that is unchanged is that of the same journals
pub same_state : {S : Type 0} (v w : View S) → w ≡ v → (J : List Record) → IsStateOf J v → IsStateOf J w
same_state {S} v w same J is = subst (λ (x : View S). IsStateOf J x) (sym same) is

-- ---- room for own vouchers

-- where only the room is another, all is kept of the same journals
pub kept_still : {S : Type 0} (J : List Record) (v w : View S) (kept : Values) (t : Totals) → IsAsBefore v w → IsKeptOf J v kept t → IsKeptOf J w kept t
kept_still {S} J v w kept t same k = subst (λ (x : View S). IsKeptOf J x kept t) (sym same) (record {
  state = record { accepted = k.state.accepted; foreign = k.state.foreign; own_vouchers = k.state.own_vouchers; vouched = k.state.vouched; convicted = k.state.convicted };
  values = k.values;
  totals = k.totals;
})

pub same_setting : {S : Type 0} (verifies : Verifies) (v w : View S) → IsAsBefore v w → setting verifies w ≡ setting verifies v
same_setting {S} verifies v w same = ap (λ (x : View S). setting verifies x) same

pub may_still : {S : Type 0} (verifies : Verifies) (v w : View S) (kept : Values) (t : Totals) (new : List Record) → IsAsBefore v w → MayKeep verifies v kept t new → MayKeep verifies w kept t new
may_still verifies v w kept t new same may = (may.0, (kept_still may.0 v w kept t same may.1.0, subst (λ (here : Setting). IsLawful here (may.0 ++ new)) (sym (same_setting verifies v w same)) may.1.1))

pub keeps_still : {S : Type 0} (verifies : Verifies) (v w z : View S) (kept kept_then : Values) (t u : Totals) (new : List Record) → IsAsBefore v w → KeepsRecords verifies w kept t new z kept_then u → KeepsRecords verifies v kept t new z kept_then u
keeps_still verifies v w z kept kept_then t u new same keeps = λ J k l. keeps J (kept_still J v w kept t same k) (subst (λ (here : Setting). IsLawful here (J ++ new)) (sym (same_setting verifies v w same)) l)

-- ---- answers

-- a birth
pub birth_kept : {S : Type 0} (J : List Record) (node : ℕ) (roster : List ℕ) (v : View S) (kept : Values) (t : Totals) → IsKeptOf J v kept t → IsKeptOf (J ++ Birth node roster ∷ []) v kept t
birth_kept J node roster v kept t k = record {
  state = silent_state J (Birth node roster) v refl refl refl refl k.state;
  values = held_stays J (Birth node roster) kept refl k.values;
  totals = silent_totals v.me J (Birth node roster) t refl refl k.totals;
}

-- a value of others
pub held_kept : {S E : Type 0} (J : List Record) (value hash : List ℕ) (v : View S) (old mid new : Values) (result : Result Taken E) (t : Totals) → hash ≡ sha256 value → ((h : List ℕ) → values.held_in mid h ≡ values.held_in old h) → IsOk result
    → Adds mid new hash value result → IsKeptOf J v old t → IsKeptOf (J ++ Held value ∷ []) v new t
held_kept J value hash v old mid new result t hashed same ok adds k = record {
  state = silent_state J (Held value) v refl refl refl refl k.state;
  values = held_grows J (Held value) mid new (one_added hash value mid new result hashed ok adds) (λ h. same h ∙ k.values h);
  totals = silent_totals v.me J (Held value) t refl refl k.totals;
}

-- a conviction
pub conviction_kept : {S : Type 0} (verifies : Verifies) (J : List Record) (p : Proof) (v w : View S) (kept : Values) (t : Totals) → setting verifies w ≡ setting verifies v → IsStateOf (J ++ Conviction p ∷ []) w → IsKeptOf J v kept t → IsKeptOf (J ++ Conviction p ∷ []) w kept t
conviction_kept verifies J p v w kept t stays state k = record {
  state = state;
  values = held_stays J (Conviction p) kept refl k.values;
  totals = here_still verifies (J ++ Conviction p ∷ []) v w t stays (silent_totals v.me J (Conviction p) t refl refl k.totals);
}

-- an own voucher
pub voucher_kept : {S : Type 0} (verifies : Verifies) (J : List Record) (x : Voucher) (v w : View S) (kept : Values) (t : Totals) → setting verifies w ≡ setting verifies v → IsStateOf (J ++ OwnVoucher x ∷ []) w → IsKeptOf J v kept t
    → IsKeptOf (J ++ OwnVoucher x ∷ []) w kept (record { own = t.own + 1; leaves = t.leaves; clock = t.clock; last = t.last })
voucher_kept verifies J x v w kept t stays state k = record {
  state = state;
  values = held_stays J (OwnVoucher x) kept refl k.values;
  totals = here_still verifies (J ++ OwnVoucher x ∷ []) v w _ stays (voucher_totals v.me J x t k.totals);
}

-- an own update
pub put_kept : {S : Type 0} (verifies : Verifies) (J : List Record) (u : Update) (vs : List (List ℕ)) (id : List ℕ) (clock : ℕ) (v w : View S) (old mid new : Values) (t : Totals) → IsLawful (setting verifies v) (J ++ OwnPut u vs ∷ []) → id ≡ id_of_update u
    → clock ≡ max u.clock t.clock → setting verifies w ≡ setting verifies v → IsStateOf (J ++ OwnPut u vs ∷ []) w → ((h : List ℕ) → values.held_in mid h ≡ values.held_in old h) → AddsAll mid new vs → IsKeptOf J v old t
    → IsKeptOf (J ++ OwnPut u vs ∷ []) w new (record { own = t.own + 1; leaves = t.leaves; clock = clock; last = id })
put_kept verifies J u vs id clock v w old mid new t l named greatest stays state same adds k = record {
  state = state;
  values = held_grows J (OwnPut u vs) mid new adds (λ h. same h ∙ k.values h);
  totals = here_still verifies (J ++ OwnPut u vs ∷ []) v w _ stays (put_totals (setting verifies v) J u vs t id clock l named greatest k.totals);
}

-- a statement of another
pub taken_kept : {S : Type 0} (verifies : Verifies) (J : List Record) (s : Signed) (v w : View S) (kept : Values) (before t : Totals) → IsLawful (setting verifies v) (J ++ Foreign s ∷ []) → AreTaken v.me J s.statement t
    → setting verifies w ≡ setting verifies v → IsStateOf (J ++ Foreign s ∷ []) w → IsKeptOf J v kept before → IsKeptOf (J ++ Foreign s ∷ []) w kept t
taken_kept verifies J s v w kept before t l taken stays state k = record {
  state = state;
  values = held_stays J (Foreign s) kept refl k.values;
  totals = here_still verifies (J ++ Foreign s ∷ []) v w t stays (taken_totals (setting verifies v) J s t l taken);
}

-- and one after the conviction of its writer
pub both_kept : {S : Type 0} (verifies : Verifies) (J : List Record) (p : Proof) (s : Signed) (v w : View S) (kept : Values) (before t : Totals) → IsLawful (setting verifies v) (J ++ Conviction p ∷ Foreign s ∷ []) → AreTaken v.me J s.statement t
    → setting verifies w ≡ setting verifies v → IsStateOf (J ++ Conviction p ∷ Foreign s ∷ []) w → IsKeptOf J v kept before → IsKeptOf (J ++ Conviction p ∷ Foreign s ∷ []) w kept t
both_kept verifies J p s v w kept before t l taken stays state k =
    let behind : List Record = J ++ Conviction p ∷ [] in
    let totals = taken_totals (setting verifies v) behind s t (lawful_both (setting verifies v) J p s l) (taken_behind v.me J p s.statement t taken) in
    subst (λ (K : List Record). IsKeptOf K w kept t) (append_assoc J (Conviction p ∷ []) (Foreign s ∷ [])) (record {
      state = subst (λ (K : List Record). IsStateOf K w) (sym (append_assoc J (Conviction p ∷ []) (Foreign s ∷ []))) state;
      values = held_stays behind (Foreign s) kept refl (held_stays J (Conviction p) kept refl k.values);
      totals = here_still verifies (behind ++ Foreign s ∷ []) v w t stays totals;
    })

-- ---- leaves

-- the leaves that are counted are those of the journal
pub counted_then : {S : Type 0} (J : List Record) (v : View S) (kept : Values) (t : Totals) (s : Statement) → IsKeptOf J v kept t → leaves_then v.accepted t.leaves s ≡ leaves_then (accepted J) (length (foreign_leaves v.me J)) s
counted_then J v kept t s k = rw (k.state.accepted, k.totals.leaves) refl
