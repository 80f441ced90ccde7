-- The latest writes of a key are one list.
use Rattle.std.proofs.Common.{◌≡◌, ℕ, List, ◌∷◌, true, false, sym, ap}
use Rattle.std.specs.Ordering.{is_lt}
use Rattle.std.proofs.lemmas.Bool.{false_from_ne_true}
use Rattle.std.proofs.lemmas.Cmp.{nat_list_cmp_total}
use Rattle.std.proofs.lemmas.Slice.Eq.{bytes_eq-Decides}
use Rattle.depot_base.proofs.GeneralLaws.{less_is}
use Rattle.depot_base.specs.declared.update.Update.{Update}
use Rattle.depot_model.specs.texts.Texts.{id_of_update}
use Rattle.depot_model.specs.updates.Order.{listed, AreLatest}
use Rattle.depot_model.proofs.of_updates.ContradictionLaws.{below_or_above}
use Rattle.depot_model.proofs.lists.RisingLists.{less_one_way, one_rising}

-- what updates are listed by
abbrev pub rank : Update → List ℕ
rank u = u.clock ∷ u.writer ∷ u.seq ∷ id_of_update u

-- no two updates are each listed before the other
pub listed_one_way : (t u : Update) → is_lt (listed t u) ≡ true → is_lt (listed u t) ≡ true → ⊥
listed_one_way t u one two = less_one_way (listed u t) (listed t u) (nat_list_cmp_total.antisymm (rank u) (rank t)) one two

-- of three the first is listed before the third
pub listed_trans : (t u v : Update) → is_lt (listed t u) ≡ true → is_lt (listed u v) ≡ true → is_lt (listed t v) ≡ true
listed_trans t u v one two = ap is_lt (nat_list_cmp_total.trans (rank t) (rank u) (rank v) (less_is _ one) (less_is _ two))

-- updates of one rank have one id
pub one_rank : (t u : Update) → rank t ≡ rank u → id_of_update t ≡ id_of_update u
one_rank t u same = cc

-- of two with two ids one is listed before the other
pub listed_back : (t u : Update) → is_lt (listed t u) ≡ false → (id_of_update u ≡ id_of_update t → ⊥) → is_lt (listed u t) ≡ true
listed_back t u not_before apart = below_or_above (rank t) (rank u) not_before (false_from_ne_true _ (λ e. apart (sym (one_rank t u ((bytes_eq-Decides (rank t) (rank u)).0 e)))))

-- the latest writes of a key in a set are one list
pub one_latest_list : (wanted : List ℕ) (among : Update → Type 0) (order : Update → Update → Type 0) (us vs : List Update) → AreLatest wanted among order us → AreLatest wanted among order vs → us ≡ vs
one_latest_list wanted among order us vs a b = one_rising (λ t u. is_lt (listed t u)) us vs listed_one_way a.rising b.rising
    (record { to = λ u on. b.all u (a.only u on); back = λ u on. a.all u (b.only u on) })
