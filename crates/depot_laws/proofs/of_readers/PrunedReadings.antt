-- What a pruned journal says: all that the whole one does, but for the signed statements that are given up.
use Rattle.std.proofs.Common.{◌≡◌, ℕ, Bool, true, false, not, cond, List, [], ◌∷◌, ◌++◌, map, refl, sym, ap, ◌∙◌}
use Rattle.std.specs.List.{filter, flat_map, list_any}
use Rattle.depot_base.specs.declared.update.Update.{Update}
use Rattle.depot_base.specs.declared.voucher.Voucher.{Voucher}
use Rattle.depot_base.specs.declared.statement.Statement.{Statement}
use Rattle.depot_base.specs.declared.statement.Statement.TheVariants as statement
use Rattle.depot_base.specs.declared.statement.Signed.{Signed}
use Rattle.depot_base.specs.declared.record.Record.{Record}
use Rattle.depot_base.specs.declared.record.Record.TheVariants.{Birth, OwnPut, OwnVoucher, Foreign, Conviction, Held}
use Rattle.std.specs.Str.{bytes_eq}
use Rattle.depot_model.specs.lists.Lists.{is_among, is_one_of}
use Rattle.depot_model.specs.texts.Texts.{text_of_statement, id_of_update}
use Rattle.depot_model.specs.journals.Journal.{accepted, accepted_by, foreign, foreign_by, proof_by, convicted, voucher_by, voucher_in, vouched, accused, update_in, has_id, is_convicted, is_vouched}
use Rattle.depot_model.specs.checks.Checks.{is_kept}
use Rattle.depot_model.specs.readers.Pruning.{is_given_up, pruned_statement, pruned_by, pruned}

-- ---- lists

over_map : {R X : Type 0} (f : R → List X) (g : R → R) (rs : List R) → ((r : R) → f (g r) ≡ f r) → flat_map f (map g rs) ≡ flat_map f rs
over_map f g [] each = refl
over_map f g (r ∷ rs) each = ap (λ (xs : List _). xs ++ flat_map f (map g rs)) (each r) ∙ ap (λ (xs : List _). f r ++ xs) (over_map f g rs each)

pub filter_both : {X : Type 0} (test : X → Bool) (xs ys : List X) → filter test (xs ++ ys) ≡ filter test xs ++ filter test ys
filter_both test [] ys = refl
filter_both test (x ∷ xs) ys = step (test x) (filter_both test xs ys) where
  step : (b : Bool) → filter test (xs ++ ys) ≡ filter test xs ++ filter test ys → cond b (x ∷ filter test (xs ++ ys)) (filter test (xs ++ ys)) ≡ cond b (x ∷ filter test xs) (filter test xs) ++ filter test ys
  step true e = ap (λ (zs : List _). x ∷ zs) e
  step false e = e

filtered_map : {R X : Type 0} (f : R → List X) (g : R → R) (test : X → Bool) (rs : List R) → ((r : R) → f (g r) ≡ filter test (f r)) → flat_map f (map g rs) ≡ filter test (flat_map f rs)
filtered_map f g test [] each = refl
filtered_map f g test (r ∷ rs) each =
    ap (λ (xs : List _). xs ++ flat_map f (map g rs)) (each r) ∙ ap (λ (xs : List _). filter test (f r) ++ xs) (filtered_map f g test rs each) ∙ sym (filter_both test (f r) (flat_map f rs))

-- what is left out gives nothing
silent_filter : {X Y : Type 0} (f : X → List Y) (test : X → Bool) (xs : List X) → ((x : X) → test x ≡ false → f x ≡ []) → flat_map f (filter test xs) ≡ flat_map f xs
silent_filter f test [] each = refl
silent_filter f test (x ∷ xs) each = step (test x) refl (silent_filter f test xs each) where
  step : (b : Bool) → test x ≡ b → flat_map f (filter test xs) ≡ flat_map f xs → flat_map f (cond b (x ∷ filter test xs) (filter test xs)) ≡ f x ++ flat_map f xs
  step true is e = ap (λ (ys : List _). f x ++ ys) e
  step false is e = e ∙ ap (λ (ys : List _). ys ++ flat_map f xs) (sym (each x is))

-- ---- one record

module _ (T : List Update) where
  accepted_told : (s : Signed) (st : Statement) → s.statement ≡ st → accepted_by (pruned_statement T s st) ≡ update_in st
  accepted_told s (statement.Update u) is = by_test (has_id T (id_of_update u)) where
    by_test : (b : Bool) → accepted_by (cond b (OwnPut u []) (Foreign s)) ≡ u ∷ []
    by_test true = refl
    by_test false = ap update_in is
  accepted_told s (statement.Voucher v) is = ap update_in is

  accepted_one : (r : Record) → accepted_by (pruned_by T r) ≡ accepted_by r
  accepted_one (Foreign s) = accepted_told s s.statement refl
  accepted_one (Birth node h) = refl
  accepted_one (OwnPut u value) = refl
  accepted_one (OwnVoucher v) = refl
  accepted_one (Conviction p) = refl
  accepted_one (Held value) = refl

  voucher_told : (s : Signed) (st : Statement) → s.statement ≡ st → voucher_by (pruned_statement T s st) ≡ voucher_in st
  voucher_told s (statement.Update u) is = by_test (has_id T (id_of_update u)) where
    by_test : (b : Bool) → voucher_by (cond b (OwnPut u []) (Foreign s)) ≡ []
    by_test true = refl
    by_test false = ap voucher_in is
  voucher_told s (statement.Voucher v) is = ap voucher_in is

  voucher_one : (r : Record) → voucher_by (pruned_by T r) ≡ voucher_by r
  voucher_one (Foreign s) = voucher_told s s.statement refl
  voucher_one (Birth node h) = refl
  voucher_one (OwnPut u value) = refl
  voucher_one (OwnVoucher v) = refl
  voucher_one (Conviction p) = refl
  voucher_one (Held value) = refl

  proof_told : (s : Signed) (st : Statement) → proof_by (pruned_statement T s st) ≡ []
  proof_told s (statement.Update u) = by_test (has_id T (id_of_update u)) where
    by_test : (b : Bool) → proof_by (cond b (OwnPut u []) (Foreign s)) ≡ []
    by_test true = refl
    by_test false = refl
  proof_told s (statement.Voucher v) = refl

  proof_one : (r : Record) → proof_by (pruned_by T r) ≡ proof_by r
  proof_one (Foreign s) = proof_told s s.statement
  proof_one (Birth node h) = refl
  proof_one (OwnPut u value) = refl
  proof_one (OwnVoucher v) = refl
  proof_one (Conviction p) = refl
  proof_one (Held value) = refl

  -- the signed statement isn't given up
  abbrev pub is_left : Signed → Bool
  is_left f = not (is_given_up T f.statement)

  foreign_told : (s : Signed) (st : Statement) → s.statement ≡ st → foreign_by (pruned_statement T s st) ≡ filter is_left (s ∷ [])
  foreign_told s (statement.Update u) is = by_test (has_id T (id_of_update u)) refl where
    by_test : (b : Bool) → has_id T (id_of_update u) ≡ b → foreign_by (cond b (OwnPut u []) (Foreign s)) ≡ filter is_left (s ∷ [])
    by_test true e = rw (is, e) refl
    by_test false e = rw (is, e) refl
  foreign_told s (statement.Voucher v) is = rw is refl

  foreign_one : (r : Record) → foreign_by (pruned_by T r) ≡ filter is_left (foreign_by r)
  foreign_one (Foreign s) = foreign_told s s.statement refl
  foreign_one (Birth node h) = refl
  foreign_one (OwnPut u value) = refl
  foreign_one (OwnVoucher v) = refl
  foreign_one (Conviction p) = refl
  foreign_one (Held value) = refl

  -- ---- the readings

  pub accepted_same : (J : List Record) → accepted (pruned T J) ≡ accepted J
  unfolding pruned
  accepted_same J = over_map accepted_by (pruned_by T) J accepted_one

  pub vouchers_same : (J : List Record) → flat_map voucher_by (pruned T J) ≡ flat_map voucher_by J
  unfolding pruned
  vouchers_same J = over_map voucher_by (pruned_by T) J voucher_one

  pub convicted_same : (J : List Record) → convicted (pruned T J) ≡ convicted J
  unfolding pruned
  convicted_same J = ap (map accused) (over_map proof_by (pruned_by T) J proof_one)

  pub foreign_left : (J : List Record) → foreign (pruned T J) ≡ filter is_left (foreign J)
  unfolding pruned
  foreign_left J = filtered_map foreign_by (pruned_by T) is_left J foreign_one

  no_vouchers : (st : Statement) → not (is_given_up T st) ≡ false → flat_map (λ (v : Voucher). v.ids) (voucher_in st) ≡ []
  no_vouchers (statement.Update u) e = refl
  no_vouchers (statement.Voucher v) e = absurd cc

  pub vouched_same : (J : List Record) → vouched (pruned T J) ≡ vouched J
  vouched_same J = ap (λ (fs : List Signed). flat_map (λ (s : Signed). flat_map (λ (v : Voucher). v.ids) (voucher_in s.statement)) fs) (foreign_left J)
      ∙ silent_filter (λ (s : Signed). flat_map (λ (v : Voucher). v.ids) (voucher_in s.statement)) is_left (foreign J) (λ s e. no_vouchers s.statement e)

  -- ---- what is asked of them

  pub kept_same : (J : List Record) (s : Statement) → is_kept (pruned T J) s ≡ is_kept J s
  kept_same J (statement.Update u) = ap (λ (us : List Update). has_id us (id_of_update u)) (accepted_same J)
  kept_same J (statement.Voucher v) = ap (λ (vs : List Voucher). list_any (λ w. bytes_eq (text_of_statement (statement.Voucher w)) (text_of_statement (statement.Voucher v))) vs) (vouchers_same J)

  pub is_convicted_same : (J : List Record) (n : ℕ) → is_convicted (pruned T J) n ≡ is_convicted J n
  unfolding is_convicted
  is_convicted_same J n = ap (is_one_of n) (convicted_same J)

  pub is_vouched_same : (J : List Record) (s : Statement) → is_vouched (pruned T J) s ≡ is_vouched J s
  unfolding is_vouched
  is_vouched_same J s = ap (λ (ids : List (List ℕ)). list_any (λ u. is_among (id_of_update u) ids) (update_in s)) (vouched_same J)
