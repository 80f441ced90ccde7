-- The receipts of a journal stay true in each prefix of it, and with each growth except an own put of a receipt that
-- isn't due.
use Rattle.std.proofs.Common.{◌≡◌, ℕ, ◌==◌, ◌&&◌, Bool, true, false, not, cond, List, [], ◌∷◌, ◌++◌, length, take, drop, Option, Some, None, refl, sym, ap, subst, ◌∙◌, inl, inr, append_assoc, arith, eq-eqb, eqb-true, ◌⊎◌}
use Rattle.std.specs.Prelude.{codes, find, option_map}
use Rattle.std.specs.List.{list_all, AllByRecursion}
use Rattle.std.specs.Str.{bytes_eq}
use Rattle.std.proofs.lemmas.Grind.{flat_map-append}
use Rattle.std.proofs.lemmas.List.{append-nil, take-append-drop}
use Rattle.std.proofs.lemmas.Slice.Eq.{bytes_eq-Decides}
use Rattle.std.proofs.lemmas.Bool.{and_parts, and_from, and_left, and_right, both_ways, true_from_ne_false}
use Rattle.depot_base.specs.Pairs.{AllPairsByRecursion}
use Rattle.depot_base.specs.Parts.{is_below}
use Rattle.depot_base.specs.declared.update.Update.{Update}
use Rattle.depot_base.specs.declared.voucher.Voucher.{Voucher}
use Rattle.depot_base.specs.declared.record.Record.{Record}
use Rattle.depot_base.specs.declared.record.Record.TheVariants.{OwnPut, Foreign, Conviction}
use Rattle.depot_base.specs.declared.check.Check.{Check}
use Rattle.depot_base.specs.declared.check.Check.TheVariants as check
use Rattle.depot_base.specs.declared.statement.Signed.{Signed}
use Rattle.depot_base.specs.declared.proof.Kind.{Kind}
use Rattle.depot_model.specs.declared.taken.Taken.{Taken}
use Rattle.depot_model.specs.declared.taken.Taken.TheVariants.{New, Known}
use Rattle.std.specs.Prelude.{Result, Ok, Err}
use Rattle.depot_model.specs.lists.Lists.{IsIn, first, when}
use Rattle.depot_model.specs.texts.Texts.{id_of_update}
use Rattle.depot_model.specs.texts.Contents.{NamedValue, values_named}
use Rattle.depot_base.specs.Statement.{writer_of}
use Rattle.depot_model.specs.updates.Conviction.{proof_of}
use Rattle.depot_model.specs.journals.Journal.{accepted, accepted_by, foreign, has_id, holds, is_convicted, is_vouched}
use Rattle.depot_model.specs.checks.Checks.{Setting, Given, given_statement, given_proof, given_value, answer_to, opponent, named_opponent, due, added, exposed, growth_by, growth}
use Rattle.depot_model.specs.checks.Vouching.{records_of}
use Rattle.depot_model.specs.worlds.Causality.{puts_of}
use Rattle.depot_model.proofs.lists.Members.{any_from}
use Rattle.depot_model.proofs.of_updates.NamedIds.{has_id_to}
use Rattle.depot_laws.proofs.lists.Splits.{flat_left, place_of, none_splits, from_end}
use Rattle.depot_laws.proofs.own_updates.Puts.{put_by, put_at}
use Rattle.depot_model.specs.worlds.Receipts.{receipt_key, receipt_of, receipt_changes, gives_receipt, HoldsAllOf, AreReceiptsTrue, unknown, lacks_value, lacks_one, no_receipt}
use Rattle.depot_model.specs.texts.Contents.{keys_written}
use Rattle.depot_laws.proofs.of_audits.ReadTestLaws.{written_key}
use Rattle.depot_laws.proofs.records.HeldStays.{holds_stays}

-- ---- keys

-- an id of 32 bytes is read from its key
pub key_read : (h : List ℕ) → length h ≡ 32 → receipt_of (receipt_key h) ≡ Some h
unfolding receipt_of receipt_key
key_read h long =
    let size : (length (codes "receipt:" ++ h) == 40) ≡ true = eq-eqb _ 40 (omega (arith, long)) in
    rw size refl

-- the keys of receipts rise as the ids do
key_below : (g h : List ℕ) → is_below g h ≡ true → is_below (receipt_key g) (receipt_key h) ≡ true
unfolding receipt_key
key_below g h e = e

keys_above : (g : List ℕ) (ids : List (List ℕ)) → AllByRecursion (λ h. is_below g h ≡ true) ids → AllByRecursion (λ c. is_below (receipt_key g) c.key ≡ true) (receipt_changes ids)
keys_above g [] all = tt
keys_above g (h ∷ ids) all = (key_below g h all.0, keys_above g ids all.1)

pub keys_rise : (ids : List (List ℕ)) → AllPairsByRecursion (λ g h. is_below g h ≡ true) ids → AllPairsByRecursion (λ c d. is_below c.key d.key ≡ true) (receipt_changes ids)
keys_rise [] rises = tt
keys_rise (h ∷ ids) rises = (keys_above h ids rises.0, keys_rise ids rises.1)

chosen : (b : Bool) (h k : List ℕ) → when b h ≡ Some k → (b ≡ true) × (h ≡ k)
chosen true h k e = (refl, cc)
chosen false h k e = absurd cc

-- and from no other
pub key_is : (key h : List ℕ) → receipt_of key ≡ Some h → (key ≡ receipt_key h) × (length h ≡ 32)
unfolding receipt_of receipt_key
key_is key h e =
    let c = chosen ((length key == 40) && bytes_eq (take 8 key) (codes "receipt:")) (drop 8 key) h e in
    let p = and_parts (length key == 40) (bytes_eq (take 8 key) (codes "receipt:")) c.0 in
    let front : take 8 key ≡ codes "receipt:" = (bytes_eq-Decides (take 8 key) (codes "receipt:")).0 p.1 in
    let whole : key ≡ codes "receipt:" ++ h = sym (take-append-drop 8 key) ∙ ap (λ (x : List ℕ). x ++ drop 8 key) front ∙ ap (λ (x : List ℕ). codes "receipt:" ++ x) c.1 in
    (whole, sized key h whole (eqb-true _ _ p.0)) where
      sized : (key h : List ℕ) → key ≡ codes "receipt:" ++ h → length key ≡ 40 → length h ≡ 32
      sized key h is long = let more : length (codes "receipt:" ++ h) ≡ 40 = sym (ap length is) ∙ long in omega (arith, more)

-- ---- what is held stays so

-- what a journal held of an update it holds with more after
pub stays_held : (J more : List Record) (h : List ℕ) → HoldsAllOf J h → HoldsAllOf (J ++ more) h
stays_held J more h a = record {
  update = a.update;
  known = flat_left accepted_by a.update J more a.known;
  id = a.id;
  held = λ n on. holds_stays J more n.hash n.size (a.held n on);
}

-- ---- fronts and growths

-- a journal without records gave none
pub no_receipts_yet : AreReceiptsTrue []
no_receipts_yet = record { each = λ before r after u h e on long gives. absurd (none_splits before r after e) }

-- each prefix of a journal has true receipts
pub front_is_true : (J more : List Record) → AreReceiptsTrue (J ++ more) → AreReceiptsTrue J
front_is_true J more a = record { each = λ before r after u h e on long gives. a.each before r (after ++ more) u h (ap (λ (x : List Record). x ++ more) e ∙ append_assoc before (r ∷ after) more) on long gives }

-- one more record, each of whose receipts is for what was held
pub true_more : (J : List Record) (x : Record) → ((u : Update) (h : List ℕ) → IsIn u (puts_of (x ∷ [])) → length h ≡ 32 → gives_receipt h u ≡ true → HoldsAllOf J h) → AreReceiptsTrue J → AreReceiptsTrue (J ++ x ∷ [])
true_more J x each a = record {
  each = λ before r after u h e on long gives. elim (place_of J before after x r e) [
    | inl l ↦ subst (λ (K : List Record). HoldsAllOf K h) l.front (each u h (subst (λ (y : Record). IsIn u (puts_of (y ∷ []))) (sym l.last) on) long gives)
    | inr i ↦ a.each before r i.after u h i.is on long gives
  ];
}

-- records that put nothing
pub silent_is_true : (J new : List Record) → puts_of new ≡ [] → AreReceiptsTrue J → AreReceiptsTrue (J ++ new)
silent_is_true J new none a = over new none where
  P : List Record → Type 0
  P new = puts_of new ≡ [] → AreReceiptsTrue (J ++ new)

  front_none : (us vs : List Update) → us ++ vs ≡ [] → us ≡ []
  front_none [] vs e = refl
  front_none (u ∷ us) vs e = absurd cc

  back_none : (us vs : List Update) → us ++ vs ≡ [] → vs ≡ []
  back_none [] vs e = e
  back_none (u ∷ us) vs e = absurd cc

  more : (rs : List Record) (r : Record) → P rs → P (rs ++ r ∷ [])
  more rs r before none =
      let parts : puts_of rs ++ puts_of (r ∷ []) ≡ [] = sym (flat_map-append put_by rs (r ∷ [])) ∙ none in
      let last : puts_of (r ∷ []) ≡ [] = back_none (puts_of rs) (puts_of (r ∷ [])) parts in
      subst (λ (K : List Record). AreReceiptsTrue K) (append_assoc J rs (r ∷ []))
      (true_more (J ++ rs) r (λ u h on long gives. absurd (subst (λ (us : List Update). IsIn u us) last on)) (before (front_none (puts_of rs) (puts_of (r ∷ [])) parts)))

  over : (new : List Record) → P new
  over new = from_end P (λ e. subst (λ (K : List Record). AreReceiptsTrue K) (sym (append-nil J)) a) more new

-- an own put that gives no receipt, or receipts for what is held
pub put_is_true : (J : List Record) (u : Update) (values : List (List ℕ)) → ((h : List ℕ) → length h ≡ 32 → gives_receipt h u ≡ true → HoldsAllOf J h) → AreReceiptsTrue J → AreReceiptsTrue (J ++ OwnPut u values ∷ [])
put_is_true J u values each a = true_more J (OwnPut u values) (λ w h on long gives. elim on [
  | inl same ↦ each h long (subst (λ (x : Update). gives_receipt h x ≡ true) (sym same) gives)
  | inr never ↦ absurd never
]) a

-- ---- what a node takes puts nothing

either_none : (b : Bool) (xs ys : List Record) → puts_of xs ≡ [] → puts_of ys ≡ [] → puts_of (cond b xs ys) ≡ []
either_none true xs ys x_none y_none = x_none
either_none false xs ys x_none y_none = y_none

both_none : (xs ys : List Record) → puts_of xs ≡ [] → puts_of ys ≡ [] → puts_of (xs ++ ys) ≡ []
both_none xs ys x_none y_none = flat_map-append put_by xs ys ∙ ap (λ (us : List Update). us ++ puts_of ys) x_none ∙ y_none

due_puts_none : (K : List Record) (s : Signed) (o : Option (Signed × Kind)) → puts_of (due K s o) ≡ []
unfolding due
due_puts_none K s None = refl
due_puts_none K s (Some o) = either_none (is_convicted K (writer_of s.statement)) [] (Conviction (proof_of o.1 o.0 s) ∷ []) refl refl

added_puts_none : (K : List Record) (x : Given) → puts_of (added K x) ≡ []
unfolding added
added_puts_none K (given_statement s) =
    let forks = due K s (opponent (foreign K) s.statement) in
    both_none (cond (is_vouched K s.statement) forks []) (Foreign s ∷ []) (either_none (is_vouched K s.statement) forks [] (due_puts_none K s (opponent (foreign K) s.statement)) refl) refl
added_puts_none K (given_proof p) = refl
added_puts_none K (given_value v) = refl

exposed_puts_none : (K : List Record) (x : Given) (c : Check) → puts_of (exposed K x c) ≡ []
exposed_puts_none K (given_statement s) (check.Forked kept came kind) = due_puts_none K s (opponent (foreign K) s.statement)
exposed_puts_none K (given_statement s) (check.Backward h) = due_puts_none K s (named_opponent (foreign K) h s.statement)
exposed_puts_none K x c = refl

-- nothing that a node is given makes it put
pub growth_puts_none : (here : Setting) (K : List Record) (x : Given) → puts_of (growth here K x) ≡ []
unfolding growth
growth_puts_none here K x = by_answer (answer_to here K x) where
  by_answer : (a : Result Taken Check) → puts_of (growth_by K x a) ≡ []
  by_answer (Ok Known) = refl
  by_answer (Ok New) = added_puts_none K x
  by_answer (Err c) = exposed_puts_none K x c

-- nor do its vouchers
pub vouchers_put_none : (vs : List Voucher) → puts_of (records_of vs) ≡ []
vouchers_put_none [] = refl
vouchers_put_none (v ∷ vs) = vouchers_put_none vs

-- ---- what a receipt says

-- each update that a receipt of the node is for is accepted, and all its values are held
pub receipt_speaks : (J : List Record) (u : Update) (h : List ℕ) → AreReceiptsTrue J → IsIn u (puts_of J) → length h ≡ 32 → gives_receipt h u ≡ true → HoldsAllOf J h
receipt_speaks J u h a on long gives =
    let p = put_at u J on in
    subst (λ (K : List Record). HoldsAllOf K h) (sym p.is) (stays_held p.before (OwnPut u p.values ∷ p.after) h (a.each p.before (OwnPut u p.values) p.after u h p.is (inl refl) long gives))

-- ---- where a receipt may be given

none_found : {X : Type 0} (test : X → Bool) (xs : List X) → find test xs ≡ None → (x : X) → IsIn x xs → test x ≡ false
none_found test [] e x never = absurd never
none_found test (y ∷ ys) e x on = by_test (test y) refl e on (none_found test ys) where
  by_test : (b : Bool) → test y ≡ b → cond b (Some y) (find test ys) ≡ None → (y ≡ x) ⊎ IsIn x ys → (find test ys ≡ None → (z : _) → IsIn z ys → test z ≡ false) → test x ≡ false
  by_test true is e on later = absurd cc
  by_test false is e (inl here) later = sym (ap test here) ∙ is
  by_test false is e (inr there) later = later e x there

one_each : (o p : Option (List ℕ)) → first (option_map unknown o ∷ option_map lacks_value p ∷ []) ≡ None → (o ≡ None) × (p ≡ None)
one_each None None e = (refl, refl)
one_each None (Some h) e = absurd cc
one_each (Some h) p e = absurd cc

-- where nothing speaks against a receipt for an id, all of its update is held
pub due_receipts : (J : List Record) (ids : List (List ℕ)) (h : List ℕ) → no_receipt J ids ≡ None → IsIn h ids → HoldsAllOf J h
unfolding no_receipt
due_receipts J ids h e on =
    let both = one_each (find (λ h. not (has_id (accepted J) h)) ids) (find (lacks_one J) ids) e in
    let known = holds_from_false (has_id (accepted J) h) (none_found (λ h. not (has_id (accepted J) h)) ids both.0 h on) in
    let t = has_id_to (accepted J) h known in
    let lacks = none_found (lacks_one J) ids both.1 h on in
    record {
      update = t.0;
      known = t.1.0;
      id = t.1.1;
      held = λ n n_on. true_from_ne_false (holds J n.hash n.size) (λ none. both_ways (lacks_one J h) lacks
          (any_from (λ (u : Update). bytes_eq (id_of_update u) h && not (list_all (λ (m : NamedValue). holds J m.hash m.size) (values_named u))) t.0 (accepted J) t.1.0
          (and_from _ _ ((bytes_eq-Decides (id_of_update t.0) h).1 t.1.1) (ap not (not_all (λ (m : NamedValue). holds J m.hash m.size) n (values_named t.0) n_on none)))));
    } where
      holds_from_false : (b : Bool) → not b ≡ false → b ≡ true
      holds_from_false true e = refl
      holds_from_false false e = absurd cc

      not_all : (test : NamedValue → Bool) (n : NamedValue) (ns : List NamedValue) → IsIn n ns → test n ≡ false → list_all test ns ≡ false
      not_all test n [] never e = absurd never
      not_all test n (m ∷ ms) (inl here) e = and_left (test m) (list_all test ms) (ap test here ∙ e)
      not_all test n (m ∷ ms) (inr there) e = and_right (test m) (list_all test ms) (not_all test n ms there e)

-- ---- puts by their keys

-- two keys of receipts are for one id
one_id : (h k : List ℕ) → receipt_key h ≡ receipt_key k → length h ≡ 32 → h ≡ k
unfolding receipt_key
one_id h k e long = ap (drop 8) e

-- an own put of other keys
pub plain_put_is_true : (J : List Record) (u : Update) (values : List (List ℕ)) → ((key : List ℕ) → IsIn key (keys_written u) → receipt_of key ≡ None) → AreReceiptsTrue J → AreReceiptsTrue (J ++ OwnPut u values ∷ [])
plain_put_is_true J u values plain a = put_is_true J u values (λ h long gives. absurd (none_is (receipt_of (receipt_key h)) h (plain (receipt_key h) (written_key (receipt_key h) u gives)) (key_read h long))) a where
  none_is : (o : Option (List ℕ)) (h : List ℕ) → o ≡ None → o ≡ Some h → ⊥
  none_is None h e f = cc
  none_is (Some k) h e f = cc

-- an own put of receipts that are due, and of nothing else
pub receipt_put_is_true : (J : List Record) (u : Update) (values : List (List ℕ)) (ids : List (List ℕ)) → no_receipt J ids ≡ None → ((key : List ℕ) → IsIn key (keys_written u) → (h : List ℕ) × (IsIn h ids × (key ≡ receipt_key h))) → AreReceiptsTrue J → AreReceiptsTrue (J ++ OwnPut u values ∷ [])
receipt_put_is_true J u values ids due keys a = put_is_true J u values (λ h long gives.
    let k = keys (receipt_key h) (written_key (receipt_key h) u gives) in
    subst (λ (x : List ℕ). HoldsAllOf J x) (sym (one_id h k.0 k.1.1 long)) (due_receipts J ids k.0 due k.1.0)) a
