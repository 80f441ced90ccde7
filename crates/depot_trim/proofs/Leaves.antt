-- The leaves of a lawful journal: they make a checkpoint if they are few enough, and there are some if anything was
-- accepted.
use Rattle.std.proofs.Common.{◌≡◌, ℕ, ◌≤◌, ◌<◌, List, [], ◌∷◌, ◌++◌, length, Bool, true, false, cond, eqb, ltb, refl, sym, ap, subst, ◌∙◌, arith, inl, inr}
use Rattle.std.specs.Int.{w16}
use Rattle.std.proofs.lemmas.Bool.{lt-ltb, le-ltb}
use Rattle.std.proofs.lemmas.Bool.Decides.{nat_tests}
use Rattle.std.proofs.lemmas.List.{length-map}
use Rattle.depot_base.specs.Format.{number, Follows, list_of}
use Rattle.depot_base.specs.declared.record.Record.{Record}
use Rattle.depot_base.specs.declared.update.Update.{Update}
use Rattle.depot_model.specs.declared.hello.Hello.{Hello}
use Rattle.depot_model.specs.declared.hello.HelloLeaf.{HelloLeaf}
use Rattle.depot_model.specs.readers.Checkpoints.{Checkpoint, checkpoint, IsCheckpoint, text_of_checkpoint}
use Rattle.depot_model.specs.checks.Checks.{Setting}
use Rattle.depot_model.specs.exchange.Hello.{hello, hello_leaf, hello_leaf_rises, IsHello, named_leaf, leaves_named, hello_of}
use Rattle.depot_model.specs.updates.History.{leaves_of, by_id}
use Rattle.depot_model.specs.journals.Journal.{accepted}
use Rattle.depot_model.specs.journals.Lawful.{IsLawful, IsAllowed, is_empty}
use Rattle.depot_model.specs.readers.Opening.{checkpoint_of, MadeCheckpoint, no_leaves, many_leaves, made_text, make_of}
use Rattle.depot_model.specs.texts.Texts.{IsRoster, hash_of_roster}
use Rattle.depot_model.proofs.lists.RisingUpdates.{by_id_length}
use Rattle.depot_laws.proofs.records.Births.{roster_hash_is_digest, digest_from_length}
use Rattle.depot_laws.proofs.records.Causes.{accepts, record_joins, lawful_is_causal}
use Rattle.depot_laws.proofs.records.FewLeaves.{few_leaves}
use Rattle.depot_laws.proofs.exchanges.HelloTexts.{byte_fits, hello_fits}
use Rattle.depot_laws.proofs.records.LeafCounts.{leaves_push}
use Rattle.depot_laws.proofs.lists.Splits.{lawful_from_end}
use Rattle.depot_readings.proofs.VoucherRecords.{none_left}

-- ---- there are some

never_none : {X : Type 0} (xs : List X) (x : X) → xs ++ x ∷ [] ≡ [] → ⊥
never_none [] x e = absurd cc
never_none (y ∷ ys) x e = absurd cc

one_more : (here : Setting) (J : List Record) (r : Record) → IsLawful here J → IsAllowed here J r → (leaves_of (accepted J) ≡ [] → accepted J ≡ []) → leaves_of (accepted (J ++ r ∷ [])) ≡ [] → accepted (J ++ r ∷ []) ≡ []
one_more here J r l allowed before e = elim (accepts J r) [
  | inl none ↦ none ∙ before (sym (ap leaves_of none) ∙ e)
  | inr one ↦ absurd (never_none _ one.update (sym (leaves_push (accepted J) one.update (lawful_is_causal here J l) (record_joins here J r one.update allowed.may one.on)) ∙ sym (ap leaves_of one.is) ∙ e))
]

none_yet : leaves_of (accepted []) ≡ [] → accepted [] ≡ []
none_yet e = refl

-- where there is no leaf, nothing is accepted
some_leaf : (here : Setting) (J : List Record) → IsLawful here J → leaves_of (accepted J) ≡ [] → accepted J ≡ []
some_leaf here J l = lawful_from_end here (λ (x : List Record). leaves_of (accepted x) ≡ [] → accepted x ≡ []) none_yet (one_more here) J l

-- ---- their checkpoint

leaves_of_hello : (h : Hello) → IsHello h → Follows hello_leaf hello_leaf_rises [] h.leaves
unfolding hello list_of
leaves_of_hello h (version, (kind_byte, (node, (roster, (nodes, (convicted, (leaves, (follow, rest)))))))) = follow.0

follow_in_hello : (here : Setting) (J : List Record) → IsHello (hello_of here J) → Follows hello_leaf hello_leaf_rises [] (leaves_named J)
unfolding hello_of
follow_in_hello here J fits = leaves_of_hello _ fits

counted : (n : ℕ) → 1 ≤ n → n ≤ 1024 → (number w16 1 1024).fits n
unfolding number
counted n some few = (some, few)

-- 1 to 1,024 leaves make one
leaves_fit : (here : Setting) (J : List Record) → IsRoster here.listed → IsLawful here J → is_empty J ≡ false → 1 ≤ length (leaves_named J) → length (leaves_named J) ≤ 1024 → IsCheckpoint (checkpoint_of here J)
unfolding checkpoint checkpoint_of list_of
leaves_fit here J fits l some low few =
    let follow = follow_in_hello here J (hello_fits here J fits l some) in
    (byte_fits 1 (omega arith), (byte_fits 6 (omega arith), (digest_from_length (hash_of_roster here.listed) (roster_hash_is_digest here.listed), (counted _ low few, ((follow, refl), refl)))))

-- the roster's hash and these leaves make it up
checkpoint_is : (here : Setting) (J : List Record) (roster : List ℕ) (leaves : List HelloLeaf) → roster ≡ hash_of_roster here.listed → leaves ≡ leaves_named J → record { roster = roster; leaves = leaves } ≡ checkpoint_of here J
unfolding checkpoint_of
checkpoint_is here J roster leaves own told = cc

-- ---- what is counted

named_long : (J : List Record) (leaves : List HelloLeaf) → leaves ≡ leaves_named J → length leaves ≡ length (leaves_of (accepted J))
named_long J leaves told = ap length told ∙ length-map (by_id (leaves_of (accepted J))) named_leaf ∙ by_id_length (leaves_of (accepted J))

pub named_few : (here : Setting) (J : List Record) (leaves : List HelloLeaf) → IsLawful here J → leaves ≡ leaves_named J → length leaves ≤ 4097
named_few here J leaves l told = omega (arith, named_long J leaves told, few_leaves here J l)

none_named : (here : Setting) (J : List Record) (leaves : List HelloLeaf) → IsLawful here J → leaves ≡ leaves_named J → length leaves ≡ 0 → accepted J ≡ []
none_named here J leaves l told none = some_leaf here J l (none_left _ (sym (named_long J leaves told) ∙ none))

-- where there is a leaf, something was accepted
some_accepted : (us : List Update) → 1 ≤ length (leaves_of us) → eqb (length us) 0 ≡ false
unfolding leaves_of
some_accepted [] some = absurd (omega (arith, some))
some_accepted (u ∷ us) some = grind (arith, nat_tests)

-- ---- what is made

module _ (here : Setting) (J : List Record) (leaves : List HelloLeaf) (l : IsLawful here J) (told : leaves ≡ leaves_named J) where
  -- by whether nothing was accepted, and whether there are too many leaves
  abbrev made_by : Bool → Bool → MadeCheckpoint
  made_by none many = cond none no_leaves (cond many (many_leaves (length (leaves_of (accepted J)))) (made_text (text_of_checkpoint (checkpoint_of here J))))

  tests_say : (none many : Bool) → eqb (length (accepted J)) 0 ≡ none → ltb 1024 (length (leaves_of (accepted J))) ≡ many → make_of here J ≡ made_by none many
  unfolding make_of
  tests_say none many n m = ap (λ (b : Bool). made_by b (ltb 1024 (length (leaves_of (accepted J))))) n ∙ ap (made_by none) m

  some_are : 1 ≤ length leaves → eqb (length (accepted J)) 0 ≡ false
  some_are low = some_accepted (accepted J) (omega (arith, low, named_long J leaves told))

  pub none_is : length leaves ≡ 0 → make_of here J ≡ no_leaves
  none_is none = tests_say true _ (ap (λ (us : List Update). eqb (length us) 0) (none_named here J leaves l told none)) refl

  pub many_is : 1024 < length leaves → make_of here J ≡ many_leaves (length leaves)
  many_is high =
      let long = named_long J leaves told in
      tests_say false true (some_are (omega (arith, high))) (lt-ltb 1024 _ (omega (arith, high, long))) ∙ ap (λ (n : ℕ). many_leaves n) (sym long)

  pub few_is : (roster : List ℕ) → roster ≡ hash_of_roster here.listed → 1 ≤ length leaves → length leaves ≤ 1024 → make_of here J ≡ made_text (text_of_checkpoint (record { roster = roster; leaves = leaves }))
  few_is roster own low few =
      tests_say false false (some_are low) (le-ltb 1024 _ (omega (arith, few, named_long J leaves told)))
      ∙ ap (λ (c : Checkpoint). made_text (text_of_checkpoint c)) (sym (checkpoint_is here J roster leaves own told))

  pub few_fit : (roster : List ℕ) → IsRoster here.listed → is_empty J ≡ false → roster ≡ hash_of_roster here.listed → 1 ≤ length leaves → length leaves ≤ 1024 → IsCheckpoint (record { roster = roster; leaves = leaves })
  few_fit roster fits some own low few =
      subst (λ (c : Checkpoint). IsCheckpoint c) (sym (checkpoint_is here J roster leaves own told))
      (leaves_fit here J fits l some (subst (λ (ls : List HelloLeaf). 1 ≤ length ls) told low) (subst (λ (ls : List HelloLeaf). length ls ≤ 1024) told few))
