-- The next own update by its parts, and the items of its entries.
use Rattle.std.proofs.Common.{◌≡◌, ℕ, ◌+◌, ◌<◌, ◌≤◌, Bool, List, [], ◌∷◌, length, map, Option, refl, sym, ap, subst, ◌∙◌, arith, length-append}
use Rattle.std.specs.List.{AllByRecursion, filter, slice_get}
use Rattle.std.specs.Option.{option_to_list}
use Rattle.std.proofs.lemmas.List.{length-map}
use Rattle.std.proofs.lemmas.List.Sums.{length-filter, count_by-le-length}
use Rattle.depot_base.specs.declared.record.Record.{Record}
use Rattle.depot_base.specs.declared.update.Dep.{Dep}
use Rattle.depot_base.specs.declared.update.Update.{Update}
use Rattle.depot_base.specs.declared.write.Write.{Write}
use Rattle.depot_model.specs.checks.Checks.{Setting}
use Rattle.depot_model.specs.updates.History.{by_id, leaves_of, history_hash}
use Rattle.depot_model.specs.lists.Items.{place_of_prev, updates_at}
use Rattle.depot_model.specs.journals.Journal.{accepted, last_own}
use Rattle.depot_model.specs.journals.Lawful.{IsLawful}
use Rattle.depot_model.specs.checks.Own.{entry_of, next_entries, next_with}
use Rattle.depot_model.specs.texts.Roster.{Verifies}
use Rattle.depot_laws.proofs.own_updates.OwnTexts.{lawful_is_short}
use Rattle.depot_accept.specs.StateView.{View, IsStateOf, setting}
use Rattle.depot_readings.specs.Totals.{AreTotals}
use Rattle.depot_readings.specs.ReadingsView.{Known, standing}
use Rattle.depot_readings.specs.declared.totals.Totals.{Totals}
use Rattle.depot_readings.proofs.LeafLaws.{few_accepted}
use Rattle.depot_base.proofs.GeneralLaws.{at_place}
use Rattle.depot_model.proofs.lists.RisingUpdates.{by_id_length}

-- ---- the items of its entries

-- These items are those of the entries of the next own update, among the accepted updates.
pub record AreEntryItems (me : ℕ) (J : List Record) (us : List Update) (items : List ℕ) : Type 0 where
  pub accepted : accepted J ≡ us
  pub inside : AllByRecursion (λ item. item < length us) items
  pub entries : updates_at us items ≡ next_entries me us (last_own J)

-- the items that are found by what is read are those
pub entry_items : {S : Type 0} (verifies : Verifies) (h : Known) (v : View S) (t : Totals) (us : List Update) (me : ℕ) (last : Option ℕ) (found items : List ℕ) → IsStateOf h.records v → setting verifies v ≡ standing verifies h → AreTotals h.me h.records t
    → us ≡ v.accepted → me ≡ v.me → last ≡ place_of_prev t.last us → ((id : List ℕ) → place_of_prev id us ≡ last → updates_at us found ≡ next_entries me us id) → AllByRecursion (λ item. item < length us) found → items ≡ found
    → AreEntryItems h.me h.records us items
entry_items verifies h v t us me last found items state stands totals all mine place entries inside same = record {
  accepted = state.accepted ∙ sym all;
  inside = subst (λ (ns : List ℕ). AllByRecursion (λ item. item < length us) ns) (sym same) inside;
  entries = ap (updates_at us) same
      ∙ entries t.last (sym place)
      ∙ ap (λ (n : ℕ). next_entries n us t.last) (mine ∙ ap (λ (s : Setting). s.me) stands)
      ∙ ap (next_entries h.me us) totals.last;
}

-- ---- how many there are

-- as many as updates are at them
as_many_at : (us : List Update) (items : List ℕ) → AllByRecursion (λ item. item < length us) items → length (updates_at us items) ≡ length items
as_many_at us [] all = refl
as_many_at us (n ∷ ns) all =
    let one : length (option_to_list (slice_get us n)) ≡ 1 = ap (λ (o : Option Update). length (option_to_list o)) (at_place us n all.0).1 in
    omega (arith, length-append (option_to_list (slice_get us n)) (updates_at us ns), one, as_many_at us ns all.1)

few_sorted : (test leaf : Update → Bool) (us : List Update) → length (by_id (filter test (filter leaf us))) ≤ length us
few_sorted test leaf us =
    let leaves = filter leaf us in
    omega (arith, by_id_length (filter test leaves), length-filter test leaves, count_by-le-length test leaves, length-filter leaf us, count_by-le-length leaf us)

-- no more entries than updates
few_entries : (me : ℕ) (us : List Update) (prev : List ℕ) → length (next_entries me us prev) ≤ length us
unfolding next_entries leaves_of
few_entries me us prev = few_sorted _ _ us

-- no more than a journal may have records
pub few_entry_items : (here : Setting) (J : List Record) (us : List Update) (items : List ℕ) → IsLawful here J → AreEntryItems here.me J us items → length items ≤ 131072
few_entry_items here J us items l are =
    omega (arith, as_many_at us items are.inside, ap length are.entries, few_entries here.me us (last_own J), ap length are.accepted, few_accepted J, lawful_is_short here J l)

-- ---- the update

-- its entries name what is at the items
next_deps : (me : ℕ) (J : List Record) (ws : List Write) (us : List Update) (items : List ℕ) → AreEntryItems me J us items → (next_with me J ws).deps ≡ map entry_of (updates_at us items)
next_deps me J ws us items are = ap (λ (ts : List Update). map entry_of (next_entries me ts (last_own J))) are.accepted ∙ ap (map entry_of) (sym are.entries)

-- as many as the items
pub as_many_deps : (us : List Update) (found items : List ℕ) (deps : List Dep) → AllByRecursion (λ item. item < length us) found → items ≡ found → deps ≡ map entry_of (updates_at us items) → length deps ≡ length items
as_many_deps us found items deps inside same entries =
    ap length entries ∙ length-map (updates_at us items) entry_of ∙ ap (λ (ns : List ℕ). length (updates_at us ns)) same ∙ as_many_at us found inside ∙ sym (ap length same)

pub as_many_entries : (me : ℕ) (J : List Record) (ws : List Write) (us : List Update) (items : List ℕ) → AreEntryItems me J us items → length items ≡ length (next_with me J ws).deps
as_many_entries me J ws us items are = sym (as_many_deps us items items (next_with me J ws).deps are.inside refl (next_deps me J ws us items are))

-- an update of these parts is the next own one with its writes
pub next_own_is : (me : ℕ) (J : List Record) (ws : List Write) (us : List Update) (items : List ℕ) (t : Totals) (writer : ℕ) (deps : List Dep) (history : List ℕ) → AreTotals me J t → AreEntryItems me J us items → writer ≡ me
    → deps ≡ map entry_of (updates_at us items) → history ≡ history_hash us
    → record { writer = writer; seq = t.own; clock = t.clock + 1; prev = t.last; writes = ws; deps = deps; history = history } ≡ next_with me J ws
next_own_is me J ws us items t writer deps history totals are mine entries past =
    let named = entries ∙ sym (next_deps me J ws us items are) in
    let whole = past ∙ ap history_hash (sym are.accepted) in
    λ i. record { writer = mine i; seq = totals.own i; clock = totals.clock i + 1; prev = totals.last i; writes = ws; deps = named i; history = whole i }
