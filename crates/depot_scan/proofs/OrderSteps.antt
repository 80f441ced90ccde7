-- Steps of checking the order of a log.
use Rattle.std.proofs.Common.{◌≡◌, ℕ, ◌+◌, List, [], ◌∷◌, ◌++◌, Bool, true, false, ◌||◌, map, length, Some, None, refl, sym, ap, subst, ◌∙◌, append_assoc, arith}
use Rattle.std.specs.List.{list_all}
use Rattle.std.specs.Str.{bytes_eq}
use Rattle.std.proofs.lemmas.List.{map_push, append-nil}
use Rattle.std.proofs.lemmas.Slice.Eq.{bytes_eq-Decides}
use Rattle.depot_base.specs.declared.update.Update.{Update}
use Rattle.depot_model.specs.lists.Lists.{is_among}
use Rattle.depot_model.specs.texts.Texts.{id_of_update}
use Rattle.depot_model.specs.updates.Order.{parents, IsCausal}
use Rattle.depot_model.specs.texts.Log.{firsts_behind, firsts, orphan_behind, first_orphan}
use Rattle.depot_model.proofs.lists.Members.{among-append}
use Rattle.depot_model.proofs.of_texts.LogLaws.{firsts_are_causal}
use Rattle.depot_scan.specs.Bodies.{updates}
use Rattle.depot_scan.specs.Ids.{HasMore}
use Rattle.depot_scan.specs.Ordering.{AreFirstUpdates}
use Rattle.depot_scan.specs.declared.body.Body.{Body}

-- the ids of bodies
abbrev pub ids_of : List Body → List (List ℕ)
ids_of bodies = map (λ b. b.id) bodies

-- the table has the ids of the list
pub record HaveSame (a : List ℕ → Bool) (b : List (List ℕ)) : Type 0 where
  pub test : (h : List ℕ) → a h ≡ is_among h b

-- one more id in the table, and at the end of the list
pub same_more : (known : List ℕ → Bool) (ids : List (List ℕ)) (new : List ℕ → Bool) (id : List ℕ) → HaveSame known ids → HasMore (id ∷ []) known new → HaveSame new (ids ++ id ∷ [])
same_more known ids new id same more = record { test = λ h. more h ∙ (ap (λ (b : Bool). (bytes_eq h id || false) || b) (same.test h) ∙ (turn (bytes_eq h id) (is_among h ids) ∙ sym (among-append h ids (id ∷ [])))) } where
  turn : (a b : Bool) → ((a || false) || b) ≡ (b || (a || false))
  turn true true = refl
  turn true false = refl
  turn false true = refl
  turn false false = refl

-- an id that is there already
pub same_again : (known : List ℕ → Bool) (ids : List (List ℕ)) (new : List ℕ → Bool) (id : List ℕ) → HaveSame known ids → HasMore (id ∷ []) known new → known id ≡ true → HaveSame new ids
same_again known ids new id same more there = record { test = λ h. more h ∙ (ap (λ (b : Bool). (bytes_eq h id || false) || b) (same.test h) ∙ either h (bytes_eq h id) refl) } where
  either : (h : List ℕ) (b : Bool) → bytes_eq h id ≡ b → ((b || false) || is_among h ids) ≡ is_among h ids
  either h true e = sym (ap (λ (k : List ℕ). is_among k ids) ((bytes_eq-Decides h id).0 e) ∙ (sym (same.test id) ∙ there))
  either h false e = refl

-- one of the kept bodies, or not
pub record Kept (bodies left kept : List Body) (known : List ℕ → Bool) : Type 0 where
  pub all : updates kept ++ firsts_behind (ids_of kept) (updates left) ≡ firsts (updates bodies)
  pub same : HaveSame known (ids_of kept)

-- a body whose id occurs earlier is left out
pub kept_again : (bodies left kept : List Body) (b : Body) (known new : List ℕ → Bool) → Kept bodies (b ∷ left) kept known → known b.id ≡ true → HasMore (b.id ∷ []) known new → Kept bodies left kept new
unfolding firsts_behind
kept_again bodies left kept b known new k there more =
    let among : is_among (id_of_update b.update) (ids_of kept) ≡ true = ap (λ (h : List ℕ). is_among h (ids_of kept)) (sym b.is_id) ∙ (sym (k.same.test b.id) ∙ there) in
    let step : firsts_behind (ids_of kept) (updates (b ∷ left)) ≡ firsts_behind (ids_of kept) (updates left) = rw among refl in
    record {
      all = ap (λ (us : List Update). updates kept ++ us) (sym step) ∙ k.all;
      same = same_again known (ids_of kept) new b.id k.same more there;
    }

-- another one is kept
pub kept_more : (bodies left kept after : List Body) (b : Body) (known new : List ℕ → Bool) → Kept bodies (b ∷ left) kept known → known b.id ≡ false → HasMore (b.id ∷ []) known new → after ≡ kept ++ b ∷ [] → Kept bodies left after new
unfolding firsts_behind
kept_more bodies left kept after b known new k absent more is =
    let among : is_among (id_of_update b.update) (ids_of kept) ≡ false = ap (λ (h : List ℕ). is_among h (ids_of kept)) (sym b.is_id) ∙ (sym (k.same.test b.id) ∙ absent) in
    let step : firsts_behind (ids_of kept) (updates (b ∷ left)) ≡ b.update ∷ firsts_behind (ids_of kept ++ id_of_update b.update ∷ []) (updates left) = rw among refl in
    let us : updates after ≡ updates kept ++ b.update ∷ [] = ap updates is ∙ map_push (λ (x : Body). x.update) kept b in
    let ids : ids_of after ≡ ids_of kept ++ b.id ∷ [] = ap ids_of is ∙ map_push (λ (x : Body). x.id) kept b in
    let named : ids_of after ≡ ids_of kept ++ id_of_update b.update ∷ [] = ids ∙ ap (λ (h : List ℕ). ids_of kept ++ h ∷ []) b.is_id in
    record {
      all = rw (us, named) (append_assoc (updates kept) (b.update ∷ []) (firsts_behind (ids_of kept ++ id_of_update b.update ∷ []) (updates left)) ∙ (ap (λ (vs : List Update). updates kept ++ vs) (sym step) ∙ k.all));
      same = subst (λ (hs : List (List ℕ)). HaveSame new hs) (sym ids) (same_more known (ids_of kept) new b.id k.same more);
    }

-- no body is left
pub kept_all : (bodies left kept : List Body) (known : List ℕ → Bool) → Kept bodies left kept known → left ≡ [] → updates kept ≡ firsts (updates bodies)
unfolding firsts_behind
kept_all bodies left kept known k none =
    let end : firsts_behind (ids_of kept) (updates left) ≡ [] = rw none refl in
    sym (ap (λ (us : List Update). updates kept ++ us) end ∙ append-nil (updates kept)) ∙ k.all

-- and where no body is an orphan, those that were kept are causal
pub kept_causal : (bodies left kept : List Body) (known : List ℕ → Bool) → Kept bodies left kept known → left ≡ [] → first_orphan (updates bodies) ≡ None → IsCausal [] (updates kept)
kept_causal bodies left kept known k none e = subst (λ (us : List Update). IsCausal [] us) (sym (kept_all bodies left kept known k none)) (firsts_are_causal (updates bodies) e)

all_same : (known : List ℕ → Bool) (ids hs : List (List ℕ)) → HaveSame known ids → list_all known hs ≡ list_all (λ h. is_among h ids) hs
all_same known ids [] same = refl
all_same known ids (h ∷ hs) same = rw (same.test h, all_same known ids hs same) refl

-- The bodies that were looked at have their parents before them, and those without repeats were kept.
pub record Ordering (bodies left kept : List Body) (known : List ℕ → Bool) (place : ℕ) : Type 0 where
  pub firsts_kept : Kept bodies left kept known
  pub before : List (List ℕ)
  pub same : HaveSame known before
  pub orphan : orphan_behind before place (updates left) ≡ first_orphan (updates bodies)
  pub at : place + length left ≡ length bodies

pub ordering_none : (bodies : List Body) (known : List ℕ → Bool) → ((h : List ℕ) → known h ≡ false) → Ordering bodies bodies [] known 0
ordering_none bodies known none = record {
  firsts_kept = record { all = refl; same = record { test = none } };
  before = [];
  same = record { test = none };
  orphan = refl;
  at = omega arith;
}

-- a body whose parents precede it
orphan_more : (b : Body) (left : List Body) (known : List ℕ → Bool) (before : List (List ℕ)) (place : ℕ) → HaveSame known before → list_all known (parents b.update) ≡ true
    → orphan_behind before place (updates (b ∷ left)) ≡ orphan_behind (before ++ b.id ∷ []) (place + 1) (updates left)
unfolding orphan_behind
orphan_more b left known before place same all =
    let named : list_all (λ h. is_among h before) (parents b.update) ≡ true = sym (all_same known before (parents b.update) same) ∙ all in
    rw named (ap (λ (h : List ℕ). orphan_behind (before ++ h ∷ []) (place + 1) (updates left)) (sym b.is_id))

-- it is kept
pub ordering_more : (bodies left kept after : List Body) (b : Body) (known new : List ℕ → Bool) (place : ℕ) → Ordering bodies (b ∷ left) kept known place → list_all known (parents b.update) ≡ true
    → known b.id ≡ false → HasMore (b.id ∷ []) known new → after ≡ kept ++ b ∷ [] → Ordering bodies left after new (place + 1)
ordering_more bodies left kept after b known new place o all absent more is = record {
  firsts_kept = kept_more bodies left kept after b known new o.firsts_kept absent more is;
  before = o.before ++ b.id ∷ [];
  same = same_more known o.before new b.id o.same more;
  orphan = sym (orphan_more b left known o.before place o.same all) ∙ o.orphan;
  at = omega (arith, o.at);
}

-- its id occurs earlier
pub ordering_again : (bodies left kept : List Body) (b : Body) (known new : List ℕ → Bool) (place : ℕ) → Ordering bodies (b ∷ left) kept known place → list_all known (parents b.update) ≡ true
    → known b.id ≡ true → HasMore (b.id ∷ []) known new → Ordering bodies left kept new (place + 1)
ordering_again bodies left kept b known new place o all there more = record {
  firsts_kept = kept_again bodies left kept b known new o.firsts_kept there more;
  before = o.before ++ b.id ∷ [];
  same = same_more known o.before new b.id o.same more;
  orphan = sym (orphan_more b left known o.before place o.same all) ∙ o.orphan;
  at = omega (arith, o.at);
}

-- a body with a parent that doesn't precede it
pub ordering_here : (bodies left kept : List Body) (b : Body) (known : List ℕ → Bool) (place : ℕ) → Ordering bodies (b ∷ left) kept known place → list_all known (parents b.update) ≡ false → first_orphan (updates bodies) ≡ Some place
unfolding orphan_behind
ordering_here bodies left kept b known place o not_all =
    let named : list_all (λ h. is_among h o.before) (parents b.update) ≡ false = sym (all_same known o.before (parents b.update) o.same) ∙ not_all in
    let step : orphan_behind o.before place (updates (b ∷ left)) ≡ Some place = rw named refl in
    sym o.orphan ∙ step

-- no body is left
pub ordering_all : (bodies left kept : List Body) (known : List ℕ → Bool) (place : ℕ) → Ordering bodies left kept known place → left ≡ [] → AreFirstUpdates (updates bodies) (updates kept)
unfolding orphan_behind
ordering_all bodies left kept known place o none =
    let end : orphan_behind o.before place (updates left) ≡ None = rw none refl in
    let whole : first_orphan (updates bodies) ≡ None = sym o.orphan ∙ end in
    record { whole = whole; are = kept_all bodies left kept known o.firsts_kept none; causal = kept_causal bodies left kept known o.firsts_kept none whole }
