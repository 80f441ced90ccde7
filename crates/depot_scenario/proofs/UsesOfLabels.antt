-- How the uses of labels are noted, and how one ends.
use Rattle.std.proofs.Common.{◌≡◌, ℕ, ◌-◌, ◌<◌, ◌≤◌, Bool, true, false, ◌||◌, leb, cond, List, [], ◌∷◌, ◌++◌, ◌+◌, length, get_or, map, take, Option, Some, None, Vec, refl, sym, ap, subst, ◌∙◌, arith}
use Rattle.std.specs.BTreeMap.{BTreeMap, UpdatesBy}
use Rattle.std.specs.Cmp.Lexicographic.{slice_cmp}
use Rattle.std.specs.List.{slice_get}
use Rattle.std.specs.Ordering.{nat_cmp}
use Rattle.std.specs.Str.{bytes_eq}
use Rattle.std.specs.declared.alloc.Global.{Global}
use Rattle.std.proofs.lemmas.Bool.{leb-true}
use Rattle.std.proofs.lemmas.Bool.Decides.{nat_tests}
use Rattle.std.proofs.lemmas.Option.{same_Some, slice_get_within, slice_get-get_or}
use Rattle.std.proofs.lemmas.Slice.Eq.{bytes_eq-Decides}
use Rattle.std.proofs.lemmas.List.{map-append}
use Rattle.depot_base.proofs.GeneralLaws.{bytes_eq_comm, take_next, vec_cmp}
use Rattle.depot_base.proofs.MembershipLaws.{to_contains}
use Rattle.depot_model.specs.lists.Lists.{IsIn, is_among}
use Rattle.depot_model.proofs.lists.Elements.{in_at}
use Rattle.depot_model.proofs.lists.Members.{among-append, among_from}
use Rattle.depot_schedule.specs.declared.event.Event.{Event}
use Rattle.depot_world.specs.Forgetting.{NoneNames, labels_in}
use Rattle.depot_scenario.specs.Labels.{named_in}
use Rattle.depot_scenario.specs.LabelUses.{AreNoted, AreUses, AreUsesFrom, EndsUse, HasAtMost, has_below}
use Rattle.depot_scenario.proofs.LabelTables.{named_once_changed, named_once_put}

-- ---- the labels of one event

pub none_noted : (place : ℕ) (entries : List (Vec ℕ Global × ℕ)) → AreNoted [] place entries entries
none_noted place entries label = refl

pub one_noted : (old : List (Vec ℕ Global × ℕ)) (before after : BTreeMap (Vec ℕ Global) ℕ) (front : List (List ℕ)) (name : List ℕ) (place : ℕ) → UpdatesBy vec_cmp (λ k. slice_cmp nat_cmp name k.items) before after (Some place) → AreNoted front place old before.entries
    → AreNoted (front ++ name ∷ []) place old after.entries
one_noted old before after front name place u noted label =
    named_once_put before after name place u label ∙ (ap (λ (o : Option ℕ). cond (bytes_eq name label) (Some place) o) (noted label)
    ∙ (by_tests (bytes_eq name label) (is_among label front) ∙ ap (λ (b : Bool). cond b (Some place) (named_in label old)) (sym (among-append label front (name ∷ []) ∙ ap (λ (b : Bool). is_among label front || (b || false)) (bytes_eq_comm label name))))) where
      by_tests : (a b : Bool) → cond a (Some place) (cond b (Some place) (named_in label old)) ≡ cond (b || (a || false)) (Some place) (named_in label old)
      by_tests true true = refl
      by_tests true false = refl
      by_tests false true = refl
      by_tests false false = refl

-- ---- events, from the last on

pub none_used : (entries : List (Vec ℕ Global × ℕ)) (es : List Event) (end : ℕ) → length es ≡ end → AreUsesFrom end entries es
none_used entries es end long place e label low at named = absurd (let within = slice_get_within es place e at in omega (arith, within, long, low))

upto_from : (place : ℕ) (o p : Option ℕ) → o ≡ p → HasAtMost place p → HasAtMost place o
upto_from place o p e up = subst (HasAtMost place) (sym e) up

pub one_used : (old new : List (Vec ℕ Global × ℕ)) (es : List Event) (i : ℕ) (e : Event) → 0 < i → i - 1 < length es → e ≡ get_or es (i - 1) e → AreNoted (labels_in e) (i - 1) old new → AreUsesFrom i old es → AreUsesFrom (i - 1) new es
one_used old new es i e pos within is noted uses place x label low at named = by_test (is_among label (labels_in e)) refl where
  here : slice_get es (i - 1) ≡ Some e
  here = slice_get-get_or es (i - 1) e within ∙ ap (λ (y : Event). Some y) (sym is)

  behind : is_among label (labels_in e) ≡ false → (b : Bool) → leb i place ≡ b → i ≤ place
  behind other true le = leb-true i place le
  behind other false gt =
      let same_place : place ≡ i - 1 = grind (arith, nat_tests, gt, low) in
      let same : x ≡ e = same_Some x e (sym at ∙ (ap (slice_get es) same_place ∙ here)) in
      let among : is_among label (labels_in e) ≡ true = among_from label (labels_in e) (subst (λ (y : Event). IsIn label (labels_in y)) same named) in
      absurd cc

  by_test : (b : Bool) → is_among label (labels_in e) ≡ b → HasAtMost place (named_in label new)
  by_test true among = upto_from place (named_in label new) (Some (i - 1)) (noted label ∙ ap (λ (b : Bool). cond b (Some (i - 1)) (named_in label old)) among) low
  by_test false other = upto_from place (named_in label new) (named_in label old) (noted label ∙ ap (λ (b : Bool). cond b (Some (i - 1)) (named_in label old)) other) (uses place x label (behind other (leb i place) refl) at named)

-- ---- how a use ends

pub use_stays : (entries : List (Vec ℕ Global × ℕ)) (label : List ℕ) (many : ℕ) → EndsUse entries label many false entries
use_stays entries label many es long uses = (uses, λ never. absurd cc)

none_left : (many place : ℕ) (o : Option ℕ) → place < many → has_below many o ≡ false → HasAtMost place o → ⊥
none_left many place None low none never = never
none_left many place (Some n) low none up = let far : many ≤ n = grind (arith, nat_tests, none) in omega (arith, far, low, up)

names_not : (entries : List (Vec ℕ Global × ℕ)) (es : List Event) (gone : List ℕ) → has_below (length es) (named_in gone entries) ≡ false → AreUses entries es → NoneNames es gone
names_not entries es gone none uses e on named =
    let p = to_contains e es on in
    none_left (length es) p.0 (named_in gone entries) p.1 none (uses p.0 e gone (omega arith) (slice_get-get_or es p.0 e p.1 ∙ ap (λ (y : Event). Some y) p.2) named)

pub use_ends : (old new : BTreeMap (Vec ℕ Global) ℕ) (gone : List ℕ) (many : ℕ) → UpdatesBy vec_cmp (λ k. slice_cmp nat_cmp gone k.items) old new None → has_below many (named_in gone old.entries) ≡ false → EndsUse old.entries gone many true new.entries
use_ends old new gone many u none es long uses = (kept, λ ended. not_named) where
  not_named : NoneNames es gone
  not_named = names_not old.entries es gone (subst (λ (n : ℕ). has_below n (named_in gone old.entries) ≡ false) (sym long) none) uses

  kept : AreUses new.entries es
  kept place e label low at named = by_label (bytes_eq gone label) refl where
    by_label : (b : Bool) → bytes_eq gone label ≡ b → HasAtMost place (named_in label new.entries)
    by_label true same = absurd (not_named e (in_at es place e at) (subst (λ (l : List ℕ). IsIn l (labels_in e)) (sym ((bytes_eq-Decides gone label).0 same)) named))
    by_label false other = upto_from place (named_in label new.entries) (named_in label old.entries) (named_once_changed old new gone None u label ∙ ap (λ (b : Bool). cond b None (named_in label old.entries)) other) (uses place e label low at named)

-- ---- one label of a list more

pub names_more : {X : Type 0} (name : X → List ℕ) (xs : List X) (i : ℕ) (x : X) → i < length xs → x ≡ get_or xs i x → map name (take (i + 1) xs) ≡ map name (take i xs) ++ name x ∷ []
names_more name xs i x within is = ap (map name) (take_next xs i x within is) ∙ map-append name (take i xs) (x ∷ [])
