-- Worked examples of the order of updates and of logs: what holds, and what doesn't.
--
-- Writers 1 and 2 each write a key, neither having seen the other; then writer 1, having seen both, writes it again.
-- Ids are opaque, so the examples ask that these three differ and that the first isn't 32 zero bytes.
use Rattle.std.proofs.Common.{◌≡◌, ℕ, ◌≤◌, List, [], ◌∷◌, ◌++◌, length, true, false, Some, None, refl, sym, ap, subst, arith, rules, inl, inr}
use Rattle.std.specs.Int.{w32}
use Rattle.std.specs.Str.{bytes_eq}
use Rattle.std.specs.List.{AllByRecursion}
use Rattle.std.specs.Ordering.{is_lt}
use Rattle.std.proofs.lemmas.Bool.{false_from_ne_true, or_left}
use Rattle.std.proofs.lemmas.List.{append-nil}
use Rattle.std.proofs.lemmas.Slice.Eq.{bytes_eq-Decides}
use Rattle.depot_base.specs.Writes.{put_one}
use Rattle.depot_base.specs.Cursor.{numeral}
use Rattle.depot_base.specs.Format.{number, bytes_of, list_of}
use Rattle.depot_base.specs.Zeros.{zeros}
use Rattle.depot_base.specs.declared.update.Update.{Update}
use Rattle.depot_base.proofs.GeneralLaws.{same_bytes as same}
use Rattle.depot_model.specs.lists.Lists.{IsIn, is_among}
use Rattle.depot_model.specs.texts.Texts.{IsUpdate, update_fields, update_body, text_of_update, id_of_update}
use Rattle.depot_model.specs.updates.Order.{IsPath, IsParent, Precedes, parents, is_named, past, IsCausal, listed, IsLatest, AreLatestIn}
use Rattle.depot_model.specs.texts.Log.{text_of_log, IsLog, IsLogFault, firsts, firsts_behind, first_orphan, orphan_behind}
use Rattle.depot_model.proofs.lists.Members.{among_from, all_at}
use Rattle.depot_model.proofs.of_updates.Orders.{parent_precedes, precedes_irreflexive}
use Rattle.depot_model.proofs.of_texts.LogLaws.{log_has_no_fault, one_log_fault}

-- the first write of a writer, at a clock
abbrev first_write : ℕ → ℕ → Update
first_write n k = record { writer = n; seq = 0; clock = k; prev = zeros; writes = put_one (107 ∷ []) zeros 0; deps = []; history = zeros }

abbrev one : Update
one = first_write 1 1

abbrev two : Update
two = first_write 2 3

-- the write of one who has seen both
abbrev both : Update
both = record { writer = 1; seq = 1; clock = 4; prev = id_of_update one; writes = put_one (107 ∷ []) zeros 0; deps = record { writer = 2; clock = 3; id = id_of_update two } ∷ []; history = zeros }

abbrev all_three : List Update
all_three = one ∷ two ∷ both ∷ []

record Differ : Type 0 where
  pub first_two : id_of_update one ≡ id_of_update two → ⊥
  pub one_last : id_of_update one ≡ id_of_update both → ⊥
  pub two_last : id_of_update two ≡ id_of_update both → ⊥
  pub no_zeros : id_of_update one ≡ zeros → ⊥

apart : (a b : List ℕ) → (a ≡ b → ⊥) → bytes_eq a b ≡ false
apart a b ne = false_from_ne_true (bytes_eq a b) (λ e. ne ((bytes_eq-Decides a b).0 e))

-- ---- parents

-- a zero prev names nothing
first_has_none : parents one ≡ []
first_has_none = refl

-- the prev and each entry
last_has_both : Differ → parents both ≡ id_of_update one ∷ id_of_update two ∷ []
last_has_both d = rw (apart (id_of_update one) zeros d.no_zeros) refl

names_one : Differ → IsIn (id_of_update one) (parents both)
names_one d = subst (λ (hs : List (List ℕ)). IsIn (id_of_update one) hs) (sym (last_has_both d)) (inl refl)

names_two : Differ → IsIn (id_of_update two) (parents both)
names_two d = subst (λ (hs : List (List ℕ)). IsIn (id_of_update two) hs) (sym (last_has_both d)) (inr (inl refl))

-- ---- precedence

one_precedes : Differ → Precedes all_three one both
one_precedes d = parent_precedes all_three one both (inl refl) (inr (inr (inl refl))) (names_one d)

two_precedes : Differ → Precedes all_three two both
two_precedes d = parent_precedes all_three two both (inr (inl refl)) (inr (inr (inl refl))) (names_two d)

-- nothing precedes a first write
none_precedes : (among : List Update) (t : Update) (n k : ℕ) → Precedes among t (first_write n k) → ⊥
none_precedes among t n k p = go t p.stops p.path where
  go : (w : Update) (stops : List Update) → IsPath (IsParent among) w stops (first_write n k) → ⊥
  go w [] path = path.named
  go w (v ∷ stops) path = go v stops path.1

-- ---- the past

-- the past of a write that has seen both
past_of_last : Differ → past both (one ∷ two ∷ []) ≡ one ∷ two ∷ []
unfolding past
past_of_last d =
    let two_named : is_named two (both ∷ []) ≡ true = or_left (is_among (id_of_update two) (parents both)) false (among_from (id_of_update two) (parents both) (names_two d)) in
    let tail : past both (two ∷ []) ≡ two ∷ [] = rw two_named refl in
    let one_named : is_named one (both ∷ two ∷ []) ≡ true = or_left (is_among (id_of_update one) (parents both)) false (among_from (id_of_update one) (parents both) (names_one d)) in
    rw (tail, one_named) refl

-- a first write has none, whatever comes before it
past_of_first : past two (one ∷ []) ≡ []
unfolding past
past_of_first = refl

-- ---- parents before their children

causal : Differ → IsCausal [] all_three
unfolding IsCausal
causal d =
    let last : AllByRecursion (λ h. IsIn h (id_of_update two ∷ id_of_update one ∷ [])) (parents both) = subst (λ (hs : List (List ℕ)). AllByRecursion (λ h. IsIn h (id_of_update two ∷ id_of_update one ∷ [])) hs) (sym (last_has_both d)) (inr (inl refl), (inl refl, tt)) in
    let new_two : IsIn (id_of_update two) (id_of_update one ∷ []) → ⊥ = λ on. elim on [ inl here ↦ d.first_two here | inr never ↦ never ] in
    let new_last : IsIn (id_of_update both) (id_of_update two ∷ id_of_update one ∷ []) → ⊥ = λ on. elim on [ inl here ↦ d.two_last here | inr more ↦ elim more [ inl here ↦ d.one_last here | inr never ↦ never ] ] in
    (tt, ((λ never. never), (tt, (new_two, (last, (new_last, tt))))))

-- a child before its parent
not_causal : Differ → IsCausal [] (both ∷ one ∷ two ∷ []) → ⊥
unfolding IsCausal
not_causal d c = all_at (λ h. IsIn h []) (parents both) (id_of_update one) c.0 (names_one d)

-- an update twice
not_twice : IsCausal [] (one ∷ one ∷ []) → ⊥
unfolding IsCausal
not_twice (parents_one, (new_one, (parents_again, (new_again, rest)))) = new_again (inl refl)

-- ---- latest writes

-- two writes of which neither has seen the other are both latest, though their clocks differ
two_latest : AreLatestIn (107 ∷ []) (one ∷ two ∷ []) (one ∷ two ∷ [])
two_latest = record {
  all = λ u l. l.known;
  only = λ u on. elim on [
    | inl here ↦ subst (λ (w : Update). IsLatest (107 ∷ []) (λ x. IsIn x (one ∷ two ∷ [])) (Precedes (one ∷ two ∷ [])) w) here (latest_first 1 1 (inl refl))
    | inr more ↦ elim more [
      | inl here ↦ subst (λ (w : Update). IsLatest (107 ∷ []) (λ x. IsIn x (one ∷ two ∷ [])) (Precedes (one ∷ two ∷ [])) w) here (latest_first 2 3 (inr (inl refl)))
      | inr never ↦ absurd never
    ]
  ];
  rising = ((refl, tt), (tt, tt));
} where
  latest_first : (n k : ℕ) → IsIn (first_write n k) (one ∷ two ∷ []) → IsLatest (107 ∷ []) (λ x. IsIn x (one ∷ two ∷ [])) (Precedes (one ∷ two ∷ [])) (first_write n k)
  latest_first n k on = record {
    known = on;
    writes = inl refl;
    last = λ v v_in same p. elim v_in [
      | inl here ↦ none_precedes (one ∷ two ∷ []) (first_write n k) 1 1 (subst (λ (w : Update). Precedes (one ∷ two ∷ []) (first_write n k) w) (sym here) p)
      | inr more ↦ elim more [
        | inl here ↦ none_precedes (one ∷ two ∷ []) (first_write n k) 2 3 (subst (λ (w : Update). Precedes (one ∷ two ∷ []) (first_write n k) w) (sym here) p)
        | inr never ↦ never
      ]
    ];
  }

-- a later write that has seen both supersedes both
one_latest : Differ → AreLatestIn (107 ∷ []) all_three (both ∷ [])
one_latest d = record {
  all = λ u l. elim l.known [
    | inl here ↦ absurd (l.last both (inr (inr (inl refl))) (inl refl) (subst (λ (w : Update). Precedes all_three w both) here (one_precedes d)))
    | inr more ↦ elim more [
      | inl here ↦ absurd (l.last both (inr (inr (inl refl))) (inl refl) (subst (λ (w : Update). Precedes all_three w both) here (two_precedes d)))
      | inr last ↦ last
    ]
  ];
  only = λ u on. elim on [
    | inl here ↦ subst (λ (w : Update). IsLatest (107 ∷ []) (λ x. IsIn x all_three) (Precedes all_three) w) here (record {
      known = inr (inr (inl refl));
      writes = inl refl;
      last = λ v v_in same p. elim v_in [
        | inl first ↦ none_precedes all_three both 1 1 (subst (λ (w : Update). Precedes all_three both w) (sym first) p)
        | inr more ↦ elim more [
          | inl second ↦ none_precedes all_three both 2 3 (subst (λ (w : Update). Precedes all_three both w) (sym second) p)
          | inr others ↦ elim others [
            | inl last ↦ precedes_irreflexive [] all_three both (causal d) (subst (λ (w : Update). Precedes all_three both w) (sym last) p)
            | inr never ↦ never
          ]
        ]
      ];
    })
    | inr never ↦ absurd never
  ];
  rising = (tt, tt);
}

-- so the first isn't latest any more
not_latest : Differ → AreLatestIn (107 ∷ []) all_three (one ∷ both ∷ []) → ⊥
not_latest d l = (l.only one (inl refl)).last both (inr (inr (inl refl))) (inl refl) (one_precedes d)

-- nor do two writes are in the other order
not_listed : AreLatestIn (107 ∷ []) (one ∷ two ∷ []) (two ∷ one ∷ []) → ⊥
not_listed l = let above : is_lt (listed two one) ≡ true = l.rising.0.0 in cc

-- ---- logs

empty_log : IsLog [] []
unfolding text_of_log
empty_log = record { fit = tt; is = refl }

first_is_update : (n : ℕ) → 1 ≤ n → n ≤ 65535 → IsUpdate (first_write n 1)
unfolding update_body update_fields number bytes_of list_of
first_is_update n low high = search rules

-- a body after its length
log_of_one : IsLog (numeral w32 (length (text_of_update one)) ++ text_of_update one) (one ∷ [])
unfolding text_of_log
log_of_one = record { fit = (first_is_update 1 (omega arith) (omega arith), tt); is = ap (λ (t : List ℕ). numeral w32 (length (text_of_update one)) ++ t) (sym (append-nil (text_of_update one))) }

-- a length that is cut short is reported where it starts
cut_short : IsLogFault (0 ∷ 0 ∷ 0 ∷ []) 0
unfolding text_of_log
cut_short = record { good = []; rest = 0 ∷ 0 ∷ 0 ∷ []; later = 0; fit = tt; parts = refl; bad = inl (refl, inl (omega arith, omega arith)); place = refl }

-- and so is one that runs past the end
runs_past : IsLogFault (0 ∷ 0 ∷ 0 ∷ 1 ∷ []) 0
unfolding text_of_log
runs_past = record { good = []; rest = 0 ∷ 0 ∷ 0 ∷ 1 ∷ []; later = 0; fit = tt; parts = refl; bad = inl (refl, inr (omega arith, omega arith)); place = refl }

-- and nowhere else
not_behind : IsLogFault (0 ∷ 0 ∷ 0 ∷ []) 3 → ⊥
not_behind f = let zero_is_three : 0 ≡ 3 = one_log_fault (0 ∷ 0 ∷ 0 ∷ []) 0 3 cut_short f in omega (arith, zero_is_three)

-- bytes with a fault are no log
no_log : (us : List Update) → IsLog (0 ∷ 0 ∷ 0 ∷ []) us → ⊥
no_log us l = log_has_no_fault (0 ∷ 0 ∷ 0 ∷ []) us 0 l cut_short

-- an update whose id occurs earlier is left out
first_of_twice : firsts (one ∷ one ∷ []) ≡ one ∷ []
unfolding firsts_behind
first_of_twice = rw (same (id_of_update one)) refl

-- others stay
first_of_each : Differ → firsts all_three ≡ all_three
unfolding firsts_behind
first_of_each d = rw (apart (id_of_update two) (id_of_update one) (λ e. d.first_two (sym e)), apart (id_of_update both) (id_of_update one) (λ e. d.one_last (sym e)), apart (id_of_update both) (id_of_update two) (λ e. d.two_last (sym e))) refl

-- the first body without its parents
orphan_first : Differ → first_orphan (one ∷ both ∷ two ∷ []) ≡ Some 1
unfolding orphan_behind
orphan_first d = rw (last_has_both d, same (id_of_update one), apart (id_of_update two) (id_of_update one) (λ e. d.first_two (sym e))) refl

no_orphan : Differ → first_orphan all_three ≡ None
unfolding orphan_behind
no_orphan d = rw (last_has_both d, same (id_of_update one), same (id_of_update two), apart (id_of_update two) (id_of_update one) (λ e. d.first_two (sym e))) refl
