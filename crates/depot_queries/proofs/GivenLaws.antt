-- The ids for which an update gives receipts, as they are listed and as it is tested.
use Rattle.std.proofs.Common.{◌≡◌, ◌∙◌, ℕ, Bool, true, false, List, length, Option, Some, None, is_some, refl, sym, ap, subst, inl, inr}
use Rattle.std.specs.Prelude.{option_and_then}
use Rattle.std.specs.Option.{option_to_list}
use Rattle.depot_base.specs.declared.update.Update.{Update}
use Rattle.depot_base.specs.declared.write.Write.{Write}
use Rattle.depot_base.proofs.GeneralLaws.{same_test}
use Rattle.depot_model.specs.lists.Lists.{IsIn, is_among, when}
use Rattle.depot_model.specs.worlds.ReadTests.{value_written}
use Rattle.depot_model.specs.worlds.Receipts.{receipt_key, receipt_of, gives_receipt}
use Rattle.depot_model.proofs.lists.Members.{among_from, among_to, from_map}
use Rattle.depot_laws.proofs.of_audits.ReadTestLaws.{written_key}
use Rattle.depot_laws.proofs.lists.Splits.{flat_gives, given_by}
use Rattle.depot_laws.proofs.of_audits.TrueReceipts.{key_read, key_is}
use Rattle.depot_queries.specs.GivenReceipts.{id_given, ids_given}

one_listed : (o : Option (List ℕ)) (h : List ℕ) → IsIn h (option_to_list o) → o ≡ Some h
one_listed None h never = absurd never
one_listed (Some k) h (inl same) = ap (λ (x : List ℕ). Some x) same
one_listed (Some k) h (inr never) = absurd never

when_is : (b : Bool) (h k : List ℕ) → when b h ≡ Some k → (b ≡ true) × (h ≡ k)
when_is true h k e = (refl, cc)
when_is false h k e = absurd cc

-- what an update gives under a key is a receipt for the id of this key
given_to : (u : Update) (key h : List ℕ) → id_given u key ≡ Some h → gives_receipt h u ≡ true
given_to u key h e = by_key (receipt_of key) refl e where
  by_key : (o : Option (List ℕ)) → receipt_of key ≡ o → option_and_then (λ k. when (is_some (value_written key u)) k) o ≡ Some h → gives_receipt h u ≡ true
  by_key None is e = absurd cc
  by_key (Some k) is e =
      let w = when_is (is_some (value_written key u)) k h e in
      let own = key_is key k is in
      subst (λ (x : List ℕ). is_some (value_written x u) ≡ true) (own.0 ∙ ap receipt_key w.1) w.0

given_from : (u : Update) (h : List ℕ) → length h ≡ 32 → gives_receipt h u ≡ true → id_given u (receipt_key h) ≡ Some h
given_from u h long gives = rw (key_read h long, gives) refl

-- An id is listed exactly when the update gives a receipt for it.
pub listed_is_given : (u : Update) (h : List ℕ) → length h ≡ 32 → gives_receipt h u ≡ is_among h (ids_given u)
listed_is_given u h long = same_test (gives_receipt h u) (is_among h (ids_given u))
    (λ gives.
    let w = from_map (λ (w : Write). w.key) (receipt_key h) u.writes (written_key (receipt_key h) u gives) in
    let is : id_given u w.0.key ≡ Some h = subst (λ (key : List ℕ). id_given u key ≡ Some h) (sym w.1.1) (given_from u h long gives) in
    among_from h (ids_given u) (flat_gives (λ (w : Write). option_to_list (id_given u w.key)) h w.0 u.writes w.1.0 (subst (λ (o : Option (List ℕ)). IsIn h (option_to_list o)) (sym is) (inl refl))))
    (λ among.
    let g = given_by (λ (w : Write). option_to_list (id_given u w.key)) h u.writes (among_to h (ids_given u) among) in
    given_to u g.by.key h (one_listed (id_given u g.by.key) h g.given))
