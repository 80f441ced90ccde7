-- The values that are kept: those held and wanted, by their hash and length.
use Rattle.std.proofs.Common.{◌≡◌, ◌∙◌, ℕ, Bool, true, false, cond, eqb, ◌||◌, List, [], ◌∷◌, ◌++◌, length, Option, Some, None, Result, Ok, Err, arith, refl, sym, ap, subst, inl, inr}
use Rattle.std.specs.Prelude.{◌≢◌, IsSome, OnOk, option_and_then}
use Rattle.std.specs.List.{filter, flat_map, list_any}
use Rattle.std.specs.Str.{bytes_eq}
use Rattle.std.proofs.lemmas.Bool.{and_parts, and_from, both_ways, or_left, or_right, eq-eqb, false_from_ne_true}
use Rattle.std.proofs.lemmas.Bool.Decides.{nat_tests}
use Rattle.std.proofs.lemmas.List.Folds.{list_any-append}
use Rattle.std.proofs.lemmas.Slice.Eq.{bytes_eq-Decides}
use Rattle.sha2.specs.Sha256.{sha256}
use Rattle.depot_base.specs.declared.record.Record.{Record}
use Rattle.depot_base.specs.declared.update.NamedValue.{NamedValue}
use Rattle.depot_base.specs.declared.update.Update.{Update}
use Rattle.depot_base.proofs.GeneralLaws.{or_none, same_bytes}
use Rattle.depot_base.specs.Sized.{IsValue}
use Rattle.depot_model.specs.checks.Checks.{Setting}
use Rattle.depot_model.specs.texts.Contents.{names_value}
use Rattle.depot_model.specs.journals.Lawful.{IsLawful}
use Rattle.depot_model.specs.declared.taken.Taken.{Taken}
use Rattle.depot_model.specs.declared.taken.Taken.TheVariants as taken
use Rattle.depot_model.specs.journals.Journal.{first_values, held, is_wanted, value_by, value_with}
use Rattle.depot_model.specs.lists.Lists.{IsIn, is_among, when}
use Rattle.depot_model.specs.readers.Readers.{is_named_by}
use Rattle.depot_model.proofs.lists.Members.{among-append}
use Rattle.depot_laws.proofs.records.WantedValues.{value_fits}
use Rattle.depot_readings.specs.Named.{is_value_named}
use Rattle.depot_trim.specs.Trimmings.{held_of, kept_of}

-- ---- one name more

module _ (held : List (List ℕ)) (n : NamedValue) (wants : List ℕ → ℕ → Bool) where
  abbrev more : List ℕ → ℕ → Bool
  more h size = wants h size || is_value_named n h size

  -- what isn't of the name is kept as before
  same_where : (h : List ℕ) → ((v : List ℕ) → value_with h held ≡ Some v → is_value_named n h (length v) ≡ false) → kept_of held more h ≡ kept_of held wants h
  same_where h never = by_value (value_with h held) never where
    by_value : (o : Option (List ℕ)) → ((v : List ℕ) → o ≡ Some v → is_value_named n h (length v) ≡ false) → option_and_then (λ v. when (wants h (length v) || is_value_named n h (length v)) v) o ≡ option_and_then (λ v. when (wants h (length v)) v) o
    by_value None apart = refl
    by_value (Some v) apart = ap (λ (b : Bool). when (wants h (length v) || b) v) (apart v refl) ∙ ap (λ (b : Bool). when b v) (sym (or_none (wants h (length v))))

  named_is : (h v : List ℕ) → value_with h held ≡ Some v → is_value_named n h (length v) ≡ true → held_of held n ≡ Some v
  named_is h v found e =
      let p = and_parts (bytes_eq n.hash h) (eqb n.size (length v)) e in
      let hash : n.hash ≡ h = (bytes_eq-Decides n.hash h).0 p.0 in
      let size : length v ≡ n.size = let test : eqb n.size (length v) ≡ true = p.1 in grind (arith, nat_tests) in
      ap (λ (k : List ℕ). option_and_then (λ w. when (eqb (length w) n.size) w) (value_with k held)) hash ∙ ap (option_and_then (λ w. when (eqb (length w) n.size) w)) found ∙ ap (λ (b : Bool). when b v) (eq-eqb (length v) n.size size)

  -- where no value of the name is held, nothing more is kept
  pub none_more : held_of held n ≡ None → (h : List ℕ) → kept_of held more h ≡ kept_of held wants h
  none_more none h = same_where h (λ v found. false_from_ne_true (is_value_named n h (length v)) (λ e. let hit = sym (named_is h v found e) ∙ none in absurd cc))

  -- what is held of the name has its hash and its length
  pub held_is_of : (v : List ℕ) → held_of held n ≡ Some v → (value_with n.hash held ≡ Some v) × (length v ≡ n.size)
  held_is_of v e = by_value (value_with n.hash held) e where
    by_test : (b : Bool) (w : List ℕ) → eqb (length w) n.size ≡ b → when b w ≡ Some v → (Some w ≡ Some v) × (length v ≡ n.size)
    by_test true w is e2 =
        let same : w ≡ v = cc in
        let test : eqb (length v) n.size ≡ true = subst (λ (x : List ℕ). eqb (length x) n.size ≡ true) same is in
        (ap (λ (x : List ℕ). Some x) same, grind (arith, nat_tests))
    by_test false w is e2 = absurd cc

    by_value : (o : Option (List ℕ)) → option_and_then (λ w. when (eqb (length w) n.size) w) o ≡ Some v → (o ≡ Some v) × (length v ≡ n.size)
    by_value None e2 = absurd cc
    by_value (Some w) e2 = by_test (eqb (length w) n.size) w refl e2

  -- the value of the name is kept then
  pub one_more : (v : List ℕ) → held_of held n ≡ Some v → kept_of held more n.hash ≡ Some v
  one_more v e =
      let is = held_is_of v e in
      let named : is_value_named n n.hash (length v) ≡ true = and_from (bytes_eq n.hash n.hash) (eqb n.size (length v)) (same_bytes n.hash) (eq-eqb n.size (length v) (sym is.1)) in
      ap (option_and_then (λ w. when (wants n.hash (length w) || is_value_named n n.hash (length w)) w)) is.0 ∙ ap (λ (b : Bool). when b v) (or_right (wants n.hash (length v)) (is_value_named n n.hash (length v)) named)

  -- of this hash nothing else was kept
  pub was_kept : (v w : List ℕ) → held_of held n ≡ Some v → kept_of held wants n.hash ≡ Some w → w ≡ v
  was_kept v w e kept = by_test (wants n.hash (length v)) (sym (ap (option_and_then (λ x. when (wants n.hash (length x)) x)) (held_is_of v e).0) ∙ kept) where
    by_test : (b : Bool) → when b v ≡ Some w → w ≡ v
    by_test true is = cc
    by_test false is = absurd cc

  -- and of other hashes what was
  pub others_same : (h : List ℕ) → (h ≡ n.hash → ⊥) → kept_of held more h ≡ kept_of held wants h
  others_same h other = same_where h (λ v found. false_from_ne_true (is_value_named n h (length v)) (λ e. other (sym ((bytes_eq-Decides n.hash h).0 (and_parts (bytes_eq n.hash h) (eqb n.size (length v)) e).0))))

-- once the value of a name is added, whether it was new or known, what is kept is wanted by one name more
pub one_added : {E : Type 0} (held : List (List ℕ)) (n : NamedValue) (wants : List ℕ → ℕ → Bool) (v : List ℕ) (old new : List ℕ → Option (List ℕ)) (r : Result Taken E) → held_of held n ≡ Some v
    → (r ≡ Ok taken.Known → IsSome (old n.hash)) → (r ≡ Ok taken.New → new n.hash ≡ Some v) → (r ≢ Ok taken.New → (h : List ℕ) → new h ≡ old h) → ((h : List ℕ) → h ≢ n.hash → new h ≡ old h)
    → ((h : List ℕ) → old h ≡ kept_of held wants h) → OnOk r ((h : List ℕ) → new h ≡ kept_of held (more held n wants) h)
one_added held n wants v old new (Err e) is known fresh stays others kept = tt
one_added held n wants v old new (Ok taken.New) is known fresh stays others kept = λ h. by_hash h (bytes_eq h n.hash) refl where
  by_hash : (h : List ℕ) (b : Bool) → bytes_eq h n.hash ≡ b → new h ≡ kept_of held (more held n wants) h
  by_hash h true e = let same = (bytes_eq-Decides h n.hash).0 e in subst (λ (k : List ℕ). new k ≡ kept_of held (more held n wants) k) (sym same) (fresh refl ∙ sym (one_more held n wants v is))
  by_hash h false e =
      let other : h ≢ n.hash = λ same. both_ways (bytes_eq h n.hash) e ((bytes_eq-Decides h n.hash).1 same) in
      others h other ∙ kept h ∙ sym (others_same held n wants h other)
one_added held n wants v old new (Ok taken.Known) is known fresh stays others kept = λ h. stays (λ never. absurd cc) h ∙ by_hash h (bytes_eq h n.hash) refl where
  there : (o : Option (List ℕ)) → IsSome o → o ≡ kept_of held wants n.hash → o ≡ Some v
  there None some e = absurd cc
  there (Some w) some e = ap (λ (x : List ℕ). Some x) (was_kept held n wants v w is (sym e))

  by_hash : (h : List ℕ) (b : Bool) → bytes_eq h n.hash ≡ b → old h ≡ kept_of held (more held n wants) h
  by_hash h true e = let same = (bytes_eq-Decides h n.hash).0 e in subst (λ (k : List ℕ). old k ≡ kept_of held (more held n wants) k) (sym same) (there (old n.hash) (known refl) (kept n.hash) ∙ sym (one_more held n wants v is))
  by_hash h false e =
      let other : h ≢ n.hash = λ same. both_ways (bytes_eq h n.hash) e ((bytes_eq-Decides h n.hash).1 same) in
      kept h ∙ sym (others_same held n wants h other)

-- wants that agree keep the same
pub kept_alike : (held : List (List ℕ)) (f g : List ℕ → ℕ → Bool) (h : List ℕ) → ((size : ℕ) → f h size ≡ g h size) → kept_of held f h ≡ kept_of held g h
kept_alike held f g h same = by_value (value_with h held) where
  by_value : (o : Option (List ℕ)) → option_and_then (λ v. when (f h (length v)) v) o ≡ option_and_then (λ v. when (g h (length v)) v) o
  by_value None = refl
  by_value (Some v) = ap (λ (b : Bool). when b v) (same (length v))

-- the value of a hash has it, and is one of these
hashed_by : (h v x : List ℕ) (xs : List (List ℕ)) (b : Bool) → bytes_eq (sha256 x) h ≡ b → cond b (Some x) (value_with h xs) ≡ Some v → (value_with h xs ≡ Some v → (h ≡ sha256 v) × IsIn v xs) → (h ≡ sha256 v) × IsIn v (x ∷ xs)
hashed_by h v x xs true is e later = let same : x ≡ v = cc in (sym ((bytes_eq-Decides (sha256 x) h).0 is) ∙ ap sha256 same, inl same)
hashed_by h v x xs false is e later = let r = later e in (r.0, inr r.1)

pub hashed : (h v : List ℕ) (xs : List (List ℕ)) → value_with h xs ≡ Some v → (h ≡ sha256 v) × IsIn v xs
hashed h v [] e = absurd cc
hashed h v (x ∷ xs) e = hashed_by h v x xs (bytes_eq (sha256 x) h) refl e (λ later. hashed h v xs later)

first_by : (x v : List ℕ) (hashes vs : List (List ℕ)) (b : Bool) → IsIn x (cond b (first_values hashes vs) (v ∷ first_values (hashes ++ sha256 v ∷ []) vs)) → (IsIn x (first_values hashes vs) → IsIn x vs) → (IsIn x (first_values (hashes ++ sha256 v ∷ []) vs) → IsIn x vs) → IsIn x (v ∷ vs)
first_by x v hashes vs true on same more = inr (same on)
first_by x v hashes vs false (inl here) same more = inl here
first_by x v hashes vs false (inr there) same more = inr (more there)

first_from : (x : List ℕ) (hashes vs : List (List ℕ)) → IsIn x (first_values hashes vs) → IsIn x vs
unfolding first_values
first_from x hashes [] on = on
first_from x hashes (v ∷ vs) on = first_by x v hashes vs (is_among (sha256 v) hashes) on (first_from x hashes vs) (first_from x (hashes ++ sha256 v ∷ []) vs)

-- what is held in a lawful journal is a value
pub held_fits : (here : Setting) (J : List Record) (n : NamedValue) (v : List ℕ) → IsLawful here J → held_of (held J) n ≡ Some v → IsValue v
held_fits here J n v lawful e =
    let found = (held_is_of (held J) n (λ h size. false) v e).0 in
    value_fits here J v lawful (first_from v [] (flat_map value_by J) (hashed n.hash v (held J) found).1)

-- ---- all that is wanted

-- an earlier value that has another hash, left or not, isn't what is found
skip : (h v : List ℕ) (t : Bool) (rest : List (List ℕ)) (o : Option (List ℕ)) → bytes_eq (sha256 v) h ≡ false → value_with h rest ≡ o → value_with h (cond t (v ∷ rest) rest) ≡ o
skip h v true rest o other is = rw other is
skip h v false rest o other is = is

-- after a hash that was there comes no value of it, whatever is left out
none_left : (test : List ℕ → Bool) (h : List ℕ) (hashes vs : List (List ℕ)) → is_among h hashes ≡ true → value_with h (filter test (first_values hashes vs)) ≡ None
unfolding first_values
none_left test h hashes [] there = refl
none_left test h hashes (v ∷ vs) there =
    step (is_among (sha256 v) hashes) refl (bytes_eq (sha256 v) h) refl (none_left test h hashes vs there)
    (none_left test h (hashes ++ sha256 v ∷ []) vs (among-append h hashes (sha256 v ∷ []) ∙ or_left (is_among h hashes) (is_among h (sha256 v ∷ [])) there)) where
      step : (a : Bool) → is_among (sha256 v) hashes ≡ a → (b : Bool) → bytes_eq (sha256 v) h ≡ b → value_with h (filter test (first_values hashes vs)) ≡ None → value_with h (filter test (first_values (hashes ++ sha256 v ∷ []) vs)) ≡ None
          → value_with h (filter test (cond a (first_values hashes vs) (v ∷ first_values (hashes ++ sha256 v ∷ []) vs))) ≡ None
      step true is b e same more = same
      step false is true e same more = absurd (both_ways (is_among (sha256 v) hashes) is (subst (λ (x : List ℕ). is_among x hashes ≡ true) (sym ((bytes_eq-Decides (sha256 v) h).0 e)) there))
      step false is false e same more = skip h v (test v) (filter test (first_values (hashes ++ sha256 v ∷ []) vs)) None e more

-- an earlier value that has the hash is left where it is wanted
front_left : (h v : List ℕ) (t wanted : Bool) (rest : List (List ℕ)) → bytes_eq (sha256 v) h ≡ true → t ≡ wanted → value_with h rest ≡ None → value_with h (cond t (v ∷ rest) rest) ≡ when wanted v
front_left h v true true rest e same none = rw e refl
front_left h v false false rest e same none = none
front_left h v true false rest e same none = absurd cc
front_left h v false true rest e same none = absurd cc

left_are : (us : List Update) (h : List ℕ) (hashes vs : List (List ℕ)) → value_with h (filter (is_named_by us) (first_values hashes vs)) ≡ option_and_then (λ v. when (is_wanted us h (length v)) v) (value_with h (first_values hashes vs))
unfolding first_values
left_are us h hashes [] = refl
left_are us h hashes (v ∷ vs) = step (is_among (sha256 v) hashes) (bytes_eq (sha256 v) h) refl (left_are us h hashes vs) (left_are us h (hashes ++ sha256 v ∷ []) vs) where
  among : bytes_eq (sha256 v) h ≡ true → is_among h (hashes ++ sha256 v ∷ []) ≡ true
  among e = subst (λ (x : List ℕ). is_among x (hashes ++ sha256 v ∷ []) ≡ true) ((bytes_eq-Decides (sha256 v) h).0 e)
      (among-append (sha256 v) hashes (sha256 v ∷ []) ∙ or_right (is_among (sha256 v) hashes) (is_among (sha256 v) (sha256 v ∷ [])) (or_left (bytes_eq (sha256 v) (sha256 v)) false (same_bytes (sha256 v))))

  wanted : bytes_eq (sha256 v) h ≡ true → is_named_by us v ≡ is_wanted us h (length v)
  wanted e = ap (λ (x : List ℕ). is_wanted us x (length v)) ((bytes_eq-Decides (sha256 v) h).0 e)

  step : (a b : Bool) → bytes_eq (sha256 v) h ≡ b
      → value_with h (filter (is_named_by us) (first_values hashes vs)) ≡ option_and_then (λ w. when (is_wanted us h (length w)) w) (value_with h (first_values hashes vs))
      → value_with h (filter (is_named_by us) (first_values (hashes ++ sha256 v ∷ []) vs)) ≡ option_and_then (λ w. when (is_wanted us h (length w)) w) (value_with h (first_values (hashes ++ sha256 v ∷ []) vs))
      → value_with h (filter (is_named_by us) (cond a (first_values hashes vs) (v ∷ first_values (hashes ++ sha256 v ∷ []) vs)))
      ≡ option_and_then (λ w. when (is_wanted us h (length w)) w) (value_with h (cond a (first_values hashes vs) (v ∷ first_values (hashes ++ sha256 v ∷ []) vs)))
  step true b e same more = same
  step false true e same more =
      front_left h v (is_named_by us v) (is_wanted us h (length v)) (filter (is_named_by us) (first_values (hashes ++ sha256 v ∷ []) vs)) e (wanted e) (none_left (is_named_by us) h (hashes ++ sha256 v ∷ []) vs (among e))
      ∙ ap (option_and_then (λ w. when (is_wanted us h (length w)) w)) (ap (λ (b : Bool). cond b (Some v) (value_with h (first_values (hashes ++ sha256 v ∷ []) vs))) (sym e))
  step false false e same more =
      skip h v (is_named_by us v) (filter (is_named_by us) (first_values (hashes ++ sha256 v ∷ []) vs)) _ e more
      ∙ ap (option_and_then (λ w. when (is_wanted us h (length w)) w)) (ap (λ (b : Bool). cond b (Some v) (value_with h (first_values (hashes ++ sha256 v ∷ []) vs))) (sym e))

-- what is kept by what updates want is what is left of the held values
pub kept_are_left : (J : List Record) (us : List Update) (h : List ℕ) → kept_of (held J) (is_wanted us) h ≡ value_with h (filter (is_named_by us) (held J))
kept_are_left J us h = sym (left_are us h [] _)

-- nothing is wanted by no updates
pub none_wanted : (held : List (List ℕ)) (h : List ℕ) → None ≡ kept_of held (is_wanted []) h
unfolding is_wanted
none_wanted held h = by_value (value_with h held) where
  by_value : (o : Option (List ℕ)) → None ≡ option_and_then (λ v. when false v) o
  by_value None = refl
  by_value (Some v) = refl

-- ---- the wants of one update more

pub wants_more : (us : List Update) (u : Update) (h : List ℕ) (size : ℕ) → is_wanted (us ++ u ∷ []) h size ≡ (is_wanted us h size || names_value u h size)
unfolding is_wanted
wants_more us u h size = list_any-append (λ x. names_value x h size) us (u ∷ []) ∙ ap (λ (b : Bool). list_any (λ x. names_value x h size) us || b) (sym (or_none (names_value u h size)))
