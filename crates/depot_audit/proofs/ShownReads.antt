-- A read's answer is compared with the writes that the records show, one after another.
use Rattle.std.proofs.Common.{◌≡◌, ◌↔◌, ℕ, ◌+◌, ◌<◌, ◌≤◌, eqb, ltb, Bool, true, false, IsTrue, List, [], ◌∷◌, ◌++◌, length, map, drop, get_or, Some, None, refl, sym, ap, subst, ◌∙◌, arith}
use Rattle.std.specs.List.{All}
use Rattle.std.specs.Prelude.{slice_get}
use Rattle.std.specs.Option.{option_map_or, option_to_list}
use Rattle.std.proofs.lemmas.Bool.{eqb-true, eq-eqb, ltb-true, ltb-false}
use Rattle.std.proofs.lemmas.List.{drop_all}
use Rattle.std.proofs.lemmas.Option.{slice_get_within, slice_get-get_or, slice_get_read}
use Rattle.std.proofs.lemmas.Simd.{map-map}
use Rattle.depot_base.proofs.GeneralLaws.{at_place}
use Rattle.depot_base.specs.declared.record.Record.{Record}
use Rattle.depot_base.specs.declared.update.NamedValue.{NamedValue}
use Rattle.depot_base.specs.declared.update.Update.{Update}
use Rattle.depot_base.specs.declared.write.Wrote.{Wrote}
use Rattle.depot_base.specs.declared.write.Wrote.TheVariants.{Put, Gone}
use Rattle.depot_base.specs.Writes.{value_in, wrote_under}
use Rattle.depot_model.specs.checks.Checks.{Setting}
use Rattle.depot_model.specs.texts.Contents.{Sighting, gone, held_value, not_held}
use Rattle.depot_model.specs.lists.Items.{updates_at}
use Rattle.depot_model.specs.journals.Journal.{accepted, held_as, seen_as, seen_under}
use Rattle.depot_model.specs.updates.LatestList.{latest_in}
use Rattle.depot_model.specs.journals.Lawful.{IsLawful}
use Rattle.depot_model.specs.lists.Lists.{IsIn}
use Rattle.depot_model.specs.updates.Order.{AreLatestIn, Precedes}
use Rattle.depot_model.specs.journals.ShownWrites.{shown_of}
use Rattle.depot_model.specs.worlds.Traces as traces
use Rattle.depot_model.specs.worlds.Traces.{answered}
use Rattle.depot_model.proofs.lists.Elements.{from_place}
use Rattle.depot_model.proofs.of_updates.LatestLaws.{one_latest_list}
use Rattle.depot_model.proofs.of_updates.LatestWrites.{latest_are_listed}
use Rattle.depot_laws.proofs.records.Causes.{lawful_is_causal}
use Rattle.depot_traces.specs.SeenTraces.{answered_of}
use Rattle.depot_traces.specs.declared.trace.Answered.{Answered}
use Rattle.depot_audit.specs.Shows.{expected_answer}

-- ---- one write

-- of a write that says this
seen_of : (J : List Record) (key : List ℕ) (u : Update) (what : Wrote) → Some what ≡ wrote_under key u.writes → seen_under J key u ≡ seen_as J what
unfolding seen_under
seen_of J key u what is = ap (λ o. option_map_or (seen_as J) o not_held) (sym is)

as_deletion : (J : List Record) (what : Wrote) → [] ≡ value_in what → seen_as J what ≡ gone
as_deletion J (Put hash size) none = absurd cc
as_deletion J Gone none = refl

as_value : (J : List Record) (what : Wrote) (n : NamedValue) → n ∷ [] ≡ value_in what → seen_as J what ≡ option_map_or held_value (held_as J n) not_held
as_value J (Put hash size) n named = let same : record { hash = hash; size = size } ≡ n = cc in ap (λ (x : NamedValue). option_map_or held_value (held_as J x) not_held) same
as_value J Gone n named = absurd cc

-- of a deletion
pub seen_deletion : (J : List Record) (key : List ℕ) (u : Update) (what : Wrote) → Some what ≡ wrote_under key u.writes → [] ≡ value_in what → seen_under J key u ≡ gone
seen_deletion J key u what is none = seen_of J key u what is ∙ as_deletion J what none

-- of a write that names a value
pub seen_value : (J : List Record) (key : List ℕ) (u : Update) (what : Wrote) (n : NamedValue) → Some what ≡ wrote_under key u.writes → n ∷ [] ≡ value_in what → seen_under J key u ≡ option_map_or held_value (held_as J n) not_held
seen_value J key u what n is named = seen_of J key u what is ∙ as_value J what n named

-- of none
pub seen_none : (J : List Record) (key : List ℕ) (u : Update) → None ≡ wrote_under key u.writes → seen_under J key u ≡ not_held
unfolding seen_under
seen_none J key u is = ap (λ o. option_map_or (seen_as J) o not_held) (sym is)

-- a test of one sighting tests an equal one
pub tests_too : (told : Bool) (shown a b : Sighting) → a ≡ b → IsTrue told ↔ (shown ≡ b) → IsTrue told ↔ (shown ≡ a)
tests_too told shown a b same is = (λ yes. is.0 yes ∙ sym same, λ e. is.1 (e ∙ same))

-- ---- the list

-- what an answer says of the updates at these places
abbrev pub told_at : List Record → List ℕ → List ℕ → List traces.Answered
told_at J key items = map (expected_answer J key) (updates_at (accepted J) items)

-- the latest writes are those of a read
pub told_are : (here : Setting) (J : List Record) (key items : List ℕ) → IsLawful here J → AreLatestIn key (accepted J) (updates_at (accepted J) items) → told_at J key items ≡ map answered (shown_of J key)
told_are here J key items l latest =
    let us = accepted J in
    ap (map (expected_answer J key)) (one_latest_list key (λ u. IsIn u us) (Precedes us) (updates_at us items) (latest_in key us) latest (latest_are_listed key us (lawful_is_causal here J l))) ∙ sym (map-map _ _ (latest_in key us))

told_cons : (J : List Record) (key : List ℕ) (item : ℕ) (items : List ℕ) (u : Update) → slice_get (accepted J) item ≡ Some u → told_at J key (item ∷ items) ≡ expected_answer J key u ∷ told_at J key items
told_cons J key item items u at_item = ap (λ o. map (expected_answer J key) (option_to_list o ++ updates_at (accepted J) items)) at_item

heads : {X : Type 0} (a b : X) (xs ys : List X) → a ∷ xs ≡ b ∷ ys → a ≡ b
heads a b xs ys e = cc

tails : {X : Type 0} (a b : X) (xs ys : List X) → a ∷ xs ≡ b ∷ ys → xs ≡ ys
tails a b xs ys e = cc

-- Some of an answer's writes were compared with as many items: all are as shown exactly where the rest are.
pub record AreToldUpTo (J : List Record) (key : List ℕ) (answer : List Answered) (items : List ℕ) (k : ℕ) : Type 0 where
  pub within : k ≤ length items
  pub rest : map answered_of answer ≡ told_at J key items → map answered_of (drop k answer) ≡ told_at J key (drop k items)
  pub all : map answered_of (drop k answer) ≡ told_at J key (drop k items) → map answered_of answer ≡ told_at J key items

-- an answer and an item are at a place
pub record IsPairAt (us : List Update) (answer : List Answered) (items : List ℕ) (k item : ℕ) (a : Answered) (u : Update) : Type 0 where
  pub answered : drop k answer ≡ a ∷ drop (k + 1) answer
  pub listed : slice_get items k ≡ Some item
  pub update : slice_get us item ≡ Some u

pub pair_at : (us : List Update) (answer : List Answered) (items : List ℕ) (k item : ℕ) (a : Answered) → k < length answer → a ≡ get_or answer k a → k < length items → item ≡ get_or items k item → All (λ (i : ℕ). i < length us) items
    → (u : Update) × IsPairAt us answer items k item a u
pair_at us answer items k item a within is inside at all =
    let u = at_place us item (subst (λ (i : ℕ). i < length us) (sym at) (all k item inside)) in (
      u.0,
      record {
        answered = from_place answer k a (slice_get_read answer (length answer) k a refl within is);
        listed = slice_get_read items (length items) k item refl inside at;
        update = u.1;
      },
    )

-- the rest begins with them
rest_tells : (J : List Record) (key : List ℕ) (items : List ℕ) (k item : ℕ) (u : Update) → slice_get items k ≡ Some item → slice_get (accepted J) item ≡ Some u → told_at J key (drop k items) ≡ expected_answer J key u ∷ told_at J key (drop (k + 1) items)
rest_tells J key items k item u listed at_item = ap (told_at J key) (from_place items k item listed) ∙ told_cons J key item (drop (k + 1) items) u at_item

pub told_goes_on : (J : List Record) (key : List ℕ) (answer : List Answered) (items : List ℕ) (k item : ℕ) (a : Answered) (u : Update) → IsPairAt (accepted J) answer items k item a u → answered_of a ≡ expected_answer J key u → AreToldUpTo J key answer items k → AreToldUpTo J key answer items (k + 1)
told_goes_on J key answer items k item a u p same h =
    let left : map answered_of (drop k answer) ≡ answered_of a ∷ map answered_of (drop (k + 1) answer) = ap (map answered_of) p.answered in
    let right = rest_tells J key items k item u p.listed p.update in
    record {
      within = omega (arith, slice_get_within items k item p.listed);
      rest = λ e. tails _ _ _ _ (sym left ∙ h.rest e ∙ right);
      all = λ e. h.all (left ∙ ap (λ (xs : List traces.Answered). answered_of a ∷ xs) e ∙ ap (λ (x : traces.Answered). x ∷ told_at J key (drop (k + 1) items)) same ∙ sym right);
    }

pub told_stops : (J : List Record) (key : List ℕ) (answer : List Answered) (items : List ℕ) (k item : ℕ) (a : Answered) (u : Update) → IsPairAt (accepted J) answer items k item a u → (answered_of a ≡ expected_answer J key u → ⊥) → AreToldUpTo J key answer items k → map answered_of answer ≡ told_at J key items → ⊥
told_stops J key answer items k item a u p other h e =
    let left : map answered_of (drop k answer) ≡ answered_of a ∷ map answered_of (drop (k + 1) answer) = ap (map answered_of) p.answered in
    other (heads _ _ _ _ (sym left ∙ h.rest e ∙ rest_tells J key items k item u p.listed p.update))

-- more are answered than there are
more_than_none : (J : List Record) (key : List ℕ) (answer : List Answered) (items : List ℕ) (k : ℕ) (a : Answered) → drop k answer ≡ a ∷ drop (k + 1) answer → drop k items ≡ [] → AreToldUpTo J key answer items k → map answered_of answer ≡ told_at J key items → ⊥
more_than_none J key answer items k a answered none h e =
    let never : answered_of a ∷ map answered_of (drop (k + 1) answer) ≡ [] = sym (ap (map answered_of) answered) ∙ h.rest e ∙ ap (told_at J key) none in
    cc

pub more_answered : (J : List Record) (key : List ℕ) (answer : List Answered) (items : List ℕ) (k : ℕ) → k < length answer → length items ≤ k → AreToldUpTo J key answer items k → map answered_of answer ≡ told_at J key items → ⊥
more_answered J key answer items k more all h e = let a = at_place answer k more in more_than_none J key answer items k a.0 (from_place answer k a.0 a.1) (drop_all k items all) h e

-- fewer are
fewer_than_some : (J : List Record) (key : List ℕ) (answer : List Answered) (items : List ℕ) (k item : ℕ) (u : Update) → drop k answer ≡ [] → slice_get items k ≡ Some item → slice_get (accepted J) item ≡ Some u → AreToldUpTo J key answer items k → map answered_of answer ≡ told_at J key items → ⊥
fewer_than_some J key answer items k item u none listed at_item h e =
    let never : [] ≡ expected_answer J key u ∷ told_at J key (drop (k + 1) items) = sym (ap (map answered_of) none) ∙ h.rest e ∙ rest_tells J key items k item u listed at_item in
    cc

fewer_answered : (J : List Record) (key : List ℕ) (answer : List Answered) (items : List ℕ) (k : ℕ) → length answer ≤ k → k < length items → All (λ (item : ℕ). item < length (accepted J)) items → AreToldUpTo J key answer items k → map answered_of answer ≡ told_at J key items → ⊥
fewer_answered J key answer items k all more within h e =
    let item = get_or items k 0 in
    let u = at_place (accepted J) (get_or items k 0) (within k 0 more) in
    fewer_than_some J key answer items k item u.0 (drop_all k answer all) (slice_get-get_or items k 0 more) u.1 h e

-- all were reported
all_told : (J : List Record) (key : List ℕ) (answer : List Answered) (items : List ℕ) (k : ℕ) → drop k answer ≡ [] → drop k items ≡ [] → AreToldUpTo J key answer items k → map answered_of answer ≡ told_at J key items
all_told J key answer items k none no_item h = h.all (ap (map answered_of) none ∙ sym (ap (told_at J key) no_item))

-- after the last answer all are as shown exactly where there are no more items
pub told_ends : (J : List Record) (key : List ℕ) (answer : List Answered) (items : List ℕ) (k : ℕ) → length answer ≡ k → All (λ (item : ℕ). item < length (accepted J)) items → AreToldUpTo J key answer items k
    → IsTrue (eqb (length answer) (length items)) ↔ (map answered_of answer ≡ told_at J key items)
told_ends J key answer items k end within h = (
  λ yes. all_told J key answer items k (drop_all k answer (omega arith)) (drop_all k items (omega (arith, eqb-true (length answer) (length items) yes, end))) h,
  λ e. by_test (ltb k (length items)) refl e,
)
  where
    by_test : (b : Bool) → ltb k (length items) ≡ b → map answered_of answer ≡ told_at J key items → IsTrue (eqb (length answer) (length items))
    by_test true is e = absurd (fewer_answered J key answer items k (omega arith) (ltb-true k (length items) is) within h e)
    by_test false is e = eq-eqb (length answer) (length items) (omega (arith, ltb-false k (length items) is, h.within, end))

-- an answer is what a read lists exactly where it is what is said of its items
pub is_listed : (here : Setting) (J : List Record) (us : List Update) (key items : List ℕ) (answer given : List Answered) → IsLawful here J → accepted J ≡ us → AreLatestIn key us (updates_at us items) → answer ≡ given
    → (map answered_of answer ≡ told_at J key items) ↔ (map answered_of given ≡ map answered (shown_of J key))
is_listed here J us key items answer given l accepts latest same =
    let are = told_are here J key items l (subst (λ (x : List Update). AreLatestIn key x (updates_at x items)) (sym accepts) latest) in
    (λ e. sym (ap (map answered_of) same) ∙ e ∙ are, λ e. ap (map answered_of) same ∙ e ∙ sym are)

-- what isn't so isn't answered
pub refused : (P : Type 0) → (P → ⊥) → IsTrue false ↔ P
refused P never = (λ e. absurd cc, λ p. absurd (never p))
