-- A reader shows what the journal showed from which it was made: a latest write isn't trimmed, so its value is kept.
use Rattle.std.proofs.Common.{◌≡◌, ℕ, ◌==◌, ◌&&◌, ◌||◌, Bool, true, false, not, cond, List, [], ◌∷◌, ◌++◌, length, Option, Some, None, refl, sym, ap, subst, ◌∙◌}
use Rattle.std.specs.List.{filter, flat_map, list_any}
use Rattle.std.specs.Option.{option_and_then, option_map_or}
use Rattle.std.specs.Str.{bytes_eq}
use Rattle.std.proofs.lemmas.Bool.{both_ways, false_from_ne_true, and_from, eqb-true, eq-eqb}
use Rattle.std.proofs.lemmas.List.{append-nil}
use Rattle.std.proofs.lemmas.Slice.Eq.{bytes_eq-Decides}
use Rattle.sha2.specs.Sha256.{sha256}
use Rattle.depot_base.specs.declared.record.Record.{Record}
use Rattle.depot_base.specs.declared.update.Update.{Update}
use Rattle.depot_base.specs.declared.write.Write.{Write}
use Rattle.depot_base.specs.declared.write.Wrote.{Wrote}
use Rattle.depot_base.specs.declared.write.Wrote.TheVariants.{Put, Gone}
use Rattle.depot_base.specs.Writes.{value_in, values_in}
use Rattle.depot_base.proofs.GeneralLaws.{bytes_eq_comm}
use Rattle.depot_model.specs.checks.Checks.{Setting}
use Rattle.depot_model.specs.texts.Contents.{Sighting, held_value, not_held, names_value, wrote_under}
use Rattle.depot_model.specs.journals.Journal.{accepted, first_values, has_id, held, is_wanted, seen_as, seen_under, value_by, value_with}
use Rattle.depot_model.specs.updates.LatestList.{latest_in}
use Rattle.depot_model.specs.journals.Lawful.{IsLawful}
use Rattle.depot_model.specs.lists.Lists.{IsIn, is_among, when}
use Rattle.depot_model.specs.readers.Readers.{reader_of, left_of, is_named_by, seen_among, seen_by_reader, shown_by_reader}
use Rattle.depot_model.specs.updates.Order.{IsLatest, Precedes}
use Rattle.depot_model.specs.journals.ShownWrites.{shown_of}
use Rattle.depot_model.specs.texts.Texts.{id_of_update}
use Rattle.depot_model.specs.readers.Trimming.{is_trimmed, trimmed}
use Rattle.depot_model.proofs.of_updates.LatestWrites.{latest_are_listed}
use Rattle.depot_model.proofs.lists.Members.{among-append, any_from, from_filter, in_filter, map_same}
use Rattle.depot_model.proofs.of_updates.NamedIds.{has_id_to}
use Rattle.depot_model.proofs.of_updates.Orders.{one_of_id}
use Rattle.depot_laws.proofs.records.Causes.{lawful_is_causal}
use Rattle.depot_laws.proofs.records.HeldValues.{other_hash, value_with_is}
use Rattle.depot_laws.proofs.of_readers.NeverLatest.{never_latest}

-- ---- values that pass a test

chosen_of_another : (b : Bool) (h v : List ℕ) (vs : List (List ℕ)) → bytes_eq (sha256 v) h ≡ false → value_with h (cond b (v ∷ vs) vs) ≡ value_with h vs
chosen_of_another true h v vs other = rw other refl
chosen_of_another false h v vs other = refl

-- none of the first values has a hash that came before them, whatever test they pass
none_again : (p : List ℕ → Bool) (h : List ℕ) (hashes vs : List (List ℕ)) → is_among h hashes ≡ true → value_with h (filter p (first_values hashes vs)) ≡ None
unfolding first_values
none_again p h hashes [] there = refl
none_again p h hashes (v ∷ vs) there = step (is_among (sha256 v) hashes) refl (none_again p h hashes vs there) (none_again p h (hashes ++ sha256 v ∷ []) vs behind) where
  behind : is_among h (hashes ++ sha256 v ∷ []) ≡ true
  behind = among-append h hashes (sha256 v ∷ []) ∙ rw there refl

  step : (a : Bool) → is_among (sha256 v) hashes ≡ a → value_with h (filter p (first_values hashes vs)) ≡ None → value_with h (filter p (first_values (hashes ++ sha256 v ∷ []) vs)) ≡ None
      → value_with h (filter p (cond a (first_values hashes vs) (v ∷ first_values (hashes ++ sha256 v ∷ []) vs))) ≡ None
  step true is without more = without
  step false is without more = chosen_of_another (p v) h v (filter p (first_values (hashes ++ sha256 v ∷ []) vs)) (bytes_eq_comm (sha256 v) h ∙ other_hash (sha256 v) h hashes is there) ∙ more

-- the value of a hash among those that pass is the first of all, where it passes
value_that_passes : (p : List ℕ → Bool) (h : List ℕ) (hashes vs : List (List ℕ)) → value_with h (filter p (first_values hashes vs)) ≡ option_and_then (λ v. when (p v) v) (value_with h (first_values hashes vs))
unfolding first_values
value_that_passes p h hashes [] = refl
value_that_passes p h hashes (v ∷ vs) = step (is_among (sha256 v) hashes) (value_that_passes p h hashes vs) (its_own (p v) (bytes_eq (sha256 v) h) refl refl (value_that_passes p h (hashes ++ sha256 v ∷ []) vs)) where
  its_own : (b c : Bool) → p v ≡ b → bytes_eq (sha256 v) h ≡ c → value_with h (filter p (first_values (hashes ++ sha256 v ∷ []) vs)) ≡ option_and_then (λ w. when (p w) w) (value_with h (first_values (hashes ++ sha256 v ∷ []) vs))
      → value_with h (cond b (v ∷ filter p (first_values (hashes ++ sha256 v ∷ []) vs)) (filter p (first_values (hashes ++ sha256 v ∷ []) vs))) ≡ option_and_then (λ w. when (p w) w) (cond c (Some v) (value_with h (first_values (hashes ++ sha256 v ∷ []) vs)))
  its_own b false p_is c_is more = chosen_of_another b h v (filter p (first_values (hashes ++ sha256 v ∷ []) vs)) c_is ∙ more
  its_own true true p_is c_is more = rw (c_is, p_is) refl
  its_own false true p_is c_is more = rw p_is (none_again p h (hashes ++ sha256 v ∷ []) vs there) where
    in_second : (b : Bool) → bytes_eq h (sha256 v) ≡ true → (b || (bytes_eq h (sha256 v) || false)) ≡ true
    in_second true e = refl
    in_second false e = rw e refl

    there : is_among h (hashes ++ sha256 v ∷ []) ≡ true
    there = among-append h hashes (sha256 v ∷ []) ∙ in_second (is_among h hashes) (bytes_eq_comm h (sha256 v) ∙ c_is)

  step : (a : Bool) → value_with h (filter p (first_values hashes vs)) ≡ option_and_then (λ w. when (p w) w) (value_with h (first_values hashes vs))
      → value_with h (filter p (v ∷ first_values (hashes ++ sha256 v ∷ []) vs)) ≡ option_and_then (λ w. when (p w) w) (value_with h (v ∷ first_values (hashes ++ sha256 v ∷ []) vs))
      → value_with h (filter p (cond a (first_values hashes vs) (v ∷ first_values (hashes ++ sha256 v ∷ []) vs))) ≡ option_and_then (λ w. when (p w) w) (value_with h (cond a (first_values hashes vs) (v ∷ first_values (hashes ++ sha256 v ∷ []) vs)))
  step true without more = without
  step false without more = more

-- ---- what a write names

or_left : (a b : Bool) → a ≡ true → (a || b) ≡ true
or_left a b e = rw e refl

or_right : (a b : Bool) → b ≡ true → (a || b) ≡ true
or_right true b e = refl
or_right false b e = e

-- an update names the value of its write of a key
names_it : (key hash : List ℕ) (size : ℕ) (ws : List Write) → wrote_under key ws ≡ Some (Put hash size) → list_any (λ n. bytes_eq n.hash hash && (n.size == size)) (values_in ws) ≡ true
names_it key hash size [] e = absurd cc
names_it key hash size (w ∷ ws) e = step (bytes_eq w.key key) e (λ later. names_it key hash size ws later) where
  of_this : (what : Wrote) → Some what ≡ Some (Put hash size) → list_any (λ n. bytes_eq n.hash hash && (n.size == size)) (value_in what ++ values_in ws) ≡ true
  of_this (Put other n) same = let hash_is : other ≡ hash = cc in let size_is : n ≡ size = cc in or_left _ _ (and_from _ _ ((bytes_eq-Decides other hash).1 hash_is) (eq-eqb n size size_is))
  of_this Gone same = absurd cc

  behind : (what : Wrote) → list_any (λ n. bytes_eq n.hash hash && (n.size == size)) (values_in ws) ≡ true → list_any (λ n. bytes_eq n.hash hash && (n.size == size)) (value_in what ++ values_in ws) ≡ true
  behind (Put other n) later = or_right (bytes_eq other hash && (n == size)) _ later
  behind Gone later = later

  step : (b : Bool) → cond b (Some w.what) (wrote_under key ws) ≡ Some (Put hash size)
      → (wrote_under key ws ≡ Some (Put hash size) → list_any (λ n. bytes_eq n.hash hash && (n.size == size)) (values_in ws) ≡ true) → list_any (λ n. bytes_eq n.hash hash && (n.size == size)) (value_in w.what ++ values_in ws) ≡ true
  step true same rest = of_this w.what same
  step false same rest = behind w.what (rest same)

-- ---- a latest write

module _ (here : Setting) (J : List Record) (ids : List (List ℕ)) (key : List ℕ) (lawful : IsLawful here J) where
  -- is kept
  is_kept : (u : Update) → IsIn u (latest_in key (accepted J)) → IsIn u (left_of (trimmed J ids) (accepted J))
  is_kept u on =
      let causal = lawful_is_causal here J lawful in
      let latest = (latest_are_listed key (accepted J) causal).only u on in
      in_filter (λ t. not (has_id (trimmed J ids) (id_of_update t))) u (accepted J) latest.known (ap not (false_from_ne_true (has_id (trimmed J ids) (id_of_update u)) (λ e.
      let x = has_id_to (trimmed J ids) (id_of_update u) e in
      let x_on = (from_filter (is_trimmed J ids) x.0 (accepted J) x.1.0).0 in
      let same = one_of_id [] (accepted J) x.0 u causal x_on latest.known x.1.1 in
      never_latest here J [] ids u key (subst (λ (K : List Record). IsLawful here K) (sym (append-nil J)) lawful) (subst (λ (t : Update). IsIn t (trimmed J ids)) same x.1.0)
      (subst (λ (K : List Record). IsLatest key (λ t. IsIn t (accepted K)) (Precedes (accepted K)) u) (sym (append-nil J)) latest))))

  -- so each value that it names is kept, and is shown
  shows_it : (u : Update) → IsIn u (latest_in key (accepted J)) → seen_by_reader (reader_of here J ids) key u ≡ seen_under J key u
  unfolding seen_by_reader seen_under reader_of is_wanted
  shows_it u on = by_write (wrote_under key u.writes) refl where
    by_value : (hash : List ℕ) (size : ℕ) → wrote_under key u.writes ≡ Some (Put hash size) → (o : Option (List ℕ)) → value_with hash (held J) ≡ o
        → option_map_or held_value (option_and_then (λ v. when (length v == size) v) (option_and_then (λ v. when (is_named_by (left_of (trimmed J ids) (accepted J)) v) v) o)) not_held ≡ option_map_or held_value (option_and_then (λ v. when (length v == size) v) o) not_held
    by_value hash size wrote None is = refl
    by_value hash size wrote (Some v) is = by_size (length v == size) refl (is_named_by (left_of (trimmed J ids) (accepted J)) v) refl where
      named : length v ≡ size → is_named_by (left_of (trimmed J ids) (accepted J)) v ≡ true
      named long = any_from (λ t. names_value t (sha256 v) (length v)) u (left_of (trimmed J ids) (accepted J)) (is_kept u on)
          (subst (λ (h : List ℕ). names_value u h (length v) ≡ true) (sym (value_with_is (held J) hash v is).hash) (subst (λ (n : ℕ). names_value u hash n ≡ true) (sym long) (names_it key hash size u.writes wrote)))

      by_size : (long : Bool) → (length v == size) ≡ long → (kept : Bool) → is_named_by (left_of (trimmed J ids) (accepted J)) v ≡ kept
          → option_map_or held_value (option_and_then (λ w. when (length w == size) w) (when kept v)) not_held ≡ option_map_or held_value (when long v) not_held
      by_size long long_is true kept_is = rw long_is refl
      by_size false long_is false kept_is = refl
      by_size true long_is false kept_is = absurd (both_ways _ kept_is (named (eqb-true (length v) size long_is)))

    by_write : (o : Option Wrote) → wrote_under key u.writes ≡ o → option_map_or (seen_among (filter (is_named_by (left_of (trimmed J ids) (accepted J))) (held J))) o not_held ≡ option_map_or (seen_as J) o not_held
    by_write None is = refl
    by_write (Some Gone) is = refl
    by_write (Some (Put hash size)) is = rw (value_that_passes (is_named_by (left_of (trimmed J ids) (accepted J))) hash [] (flat_map value_by J)) (by_value hash size is (value_with hash (held J)) refl)

  pub shows_as_before : shown_by_reader (reader_of here J ids) key ≡ shown_of J key
  unfolding reader_of
  shows_as_before = map_same (λ (u : Update). record { update = u; seen = seen_by_reader (reader_of here J ids) key u }) (λ u. record { update = u; seen = seen_under J key u }) (latest_in key (accepted J))
      (λ u on. ap (λ (s : Sighting). record { update = u; seen = s }) (shows_it u on))
