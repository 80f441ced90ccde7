-- All that a lawful journal accepted is in the past of its next own update.
use Rattle.std.proofs.Common.{◌≡◌, ℕ, ◌==◌, List, [], ◌∷◌, ◌++◌, map, Bool, true, false, not, ◌&&◌, cond, Option, Some, None, refl, sym, ap, subst, ◌∙◌, inl, inr, ◌⊎◌, append_assoc}
use Rattle.std.specs.Option.{option_map_or}
use Rattle.std.specs.Str.{bytes_eq}
use Rattle.std.proofs.lemmas.Slice.Eq.{bytes_eq-Decides}
use Rattle.std.proofs.lemmas.Bool.{and_from, or_from, both_ways, cases_Bool, eqb-true, false_from_ne_true, iff_false}
use Rattle.depot_base.specs.Zeros.{zeros}
use Rattle.depot_base.specs.declared.update.Update.{Update}
use Rattle.depot_base.specs.declared.update.Dep.{Dep}
use Rattle.depot_base.specs.declared.record.Record.{Record}
use Rattle.depot_base.specs.declared.record.Record.TheVariants.{Birth, OwnPut, OwnVoucher, Foreign, Conviction, Held}
use Rattle.depot_model.specs.lists.Lists.{IsIn, is_among}
use Rattle.depot_model.specs.texts.Texts.{id_of_update}
use Rattle.depot_model.specs.updates.Order.{IsParent, Precedes, prevs, parents, is_named, past, IsCausal}
use Rattle.depot_model.specs.updates.History.{is_prev_in, leaves_of}
use Rattle.depot_model.specs.journals.Journal.{accepted, accepted_by, own_by, has_id, named, prev_of, last_own, last_own_behind}
use Rattle.depot_model.specs.checks.Checks.{Setting}
use Rattle.depot_model.specs.checks.Own.{entry_of, precedes_named, next_entries, next_with}
use Rattle.depot_model.specs.journals.Lawful.{MayFollow, IsLawful}
use Rattle.depot_model.proofs.lists.Members.{in_left, in_right, in_last, in_map, any_from, any_to, among_from, among_to, chosen_cases, in_filter}
use Rattle.depot_model.proofs.of_updates.Orders.{leads_one, leads_more, leads_trans, precedes_child, precedes_wider, parent_precedes, fresh, one_of_id, first_names_none, causal_behind, child_is_behind}
use Rattle.depot_model.proofs.of_updates.Pasts.{past_in, past_of_listed, past_of_next}
use Rattle.depot_model.specs.worlds.Causality.{puts_of}
use Rattle.depot_laws.proofs.lists.Splits.{flat_left, flat_gives, flat_cases, lawful_before, lawful_from_end, accepted_push}
use Rattle.depot_model.proofs.lists.RisingUpdates.{in_by_id}
use Rattle.depot_model.proofs.of_updates.NamedIds.{named_is, has_id_to}
use Rattle.depot_laws.proofs.records.Causes.{lawful_is_causal}
use Rattle.depot_laws.proofs.own_updates.OwnAgree.{last_own-pushed}
use Rattle.depot_laws.proofs.own_updates.Puts.{put_by, PutAt, put_at, put_allowed, put_is_accepted, put_from_writer}
use Rattle.depot_laws.proofs.own_updates.Nexts.{next_of}

-- ---- parents

-- what is named as prev is a parent
pub prev_is_parent : (u : Update) (h : List ℕ) → IsIn h (prevs u) → IsIn h (parents u)
prev_is_parent u h on = in_left h (prevs u) (map (λ (d : Dep). d.id) u.deps) on

-- and so is what an entry names
pub entry_is_parent : (u : Update) (d : Dep) → IsIn d u.deps → IsIn d.id (parents u)
entry_is_parent u d on = in_right d.id (prevs u) (map (λ (d : Dep). d.id) u.deps) (in_map (λ (d : Dep). d.id) d u.deps on)

-- the prev is named, where it isn't 32 zero bytes
pub in_prevs : (u : Update) (h : List ℕ) → u.prev ≡ h → (h ≡ zeros → ⊥) → IsIn h (prevs u)
in_prevs u h is some = named_by (bytes_eq u.prev zeros) refl where
  named_by : (b : Bool) → bytes_eq u.prev zeros ≡ b → IsIn h (cond b [] (u.prev ∷ []))
  named_by true e = absurd (some (sym is ∙ (bytes_eq-Decides u.prev zeros).0 e))
  named_by false e = inl is

-- ---- leaves

-- the leaf that an update is, or precedes
record HasLeaf (us : List Update) (t : Update) : Type 0 where
  pub leaf : Update
  pub on : IsIn leaf us
  pub last : is_prev_in us (id_of_update leaf) ≡ false
  pub above : (t ≡ leaf) ⊎ Precedes us t leaf

-- an update of the prefix names none of those after it
leaf_behind : (ids : List (List ℕ)) (x : Update) (xs : List Update) (t : Update) → IsCausal ids (x ∷ xs) → HasLeaf xs t → HasLeaf (x ∷ xs) t
leaf_behind ids x xs t c l = record {
  leaf = l.leaf;
  on = inr l.on;
  last = or_from _ _ (false_from_ne_true _ (λ e. first_names_none ids x xs l.leaf c (inr l.on) (prev_is_parent x (id_of_update l.leaf) (among_to (id_of_update l.leaf) (prevs x) e)))) l.last;
  above = elim l.above [
    | inl same ↦ inl same
    | inr before ↦ inr (precedes_wider xs (x ∷ xs) (λ w on. inr on) t l.leaf before)
  ];
}

-- each update is a leaf or precedes one
leaf_of : (ids : List (List ℕ)) (us : List Update) (t : Update) → IsCausal ids us → IsIn t us → HasLeaf us t
leaf_of ids [] t c never = absurd never
leaf_of ids (x ∷ xs) t c (inr there) = leaf_behind ids x xs t c (leaf_of (id_of_update x ∷ ids) xs t (causal_behind ids x xs c) there)
leaf_of ids (x ∷ xs) t c (inl here) = elim (cases_Bool (is_prev_in (x ∷ xs) (id_of_update t))) [
  | inr last ↦ record { leaf = t; on = inl here; last = last; above = inl refl }
  | inl named ↦
      let child = any_to (λ (w : Update). is_among (id_of_update t) (prevs w)) (x ∷ xs) named in
      let step : IsParent (x ∷ xs) t child.0 = record { above = inl here; below = child.1.0; named = prev_is_parent child.0 (id_of_update t) (among_to (id_of_update t) (prevs child.0) child.1.1) } in
      let there = child_is_behind ids x xs t child.0 c step in
      let l = leaf_behind ids x xs child.0 c (leaf_of (id_of_update x ∷ ids) xs child.0 (causal_behind ids x xs c) there) in
      record {
        leaf = l.leaf;
        on = l.on;
        last = l.last;
        above = inr (elim l.above [
          | inl same ↦ subst (λ (w : Update). Precedes (x ∷ xs) t w) same (leads_one (IsParent (x ∷ xs)) t child.0 step)
          | inr before ↦ leads_more (IsParent (x ∷ xs)) t child.0 l.leaf step before
        ]);
      }
]

-- ---- own updates

-- another own update names it as its prev
pub record HasNext (J : List Record) (t : Update) : Type 0 where
  pub next : Update
  pub on : IsIn next (puts_of J)
  pub prev : next.prev ≡ id_of_update t

-- each own update is the last one, or the prev of another
abbrev pub IsInLine : List Record → Type 0
IsInLine J = (t : Update) → IsIn t (puts_of J) → (id_of_update t ≡ last_own J) ⊎ HasNext J t

next_stays : (J : List Record) (r : Record) (t : Update) → HasNext J t → HasNext (J ++ r ∷ []) t
next_stays J r t n = record { next = n.next; on = flat_left put_by n.next J (r ∷ []) n.on; prev = n.prev }

put_in_line : (me : ℕ) (J : List Record) (u : Update) (values : List (List ℕ)) → u ≡ next_with me J u.writes → IsInLine J → IsInLine (J ++ OwnPut u values ∷ [])
put_in_line me J u values next before t on = elim (flat_cases put_by t J (OwnPut u values) on) [
  | inl old ↦ inr (elim (before t old) [
    | inl last ↦ record { next = u; on = flat_gives put_by u (OwnPut u values) (J ++ OwnPut u values ∷ []) (in_last J (OwnPut u values)) (inl refl); prev = ap (λ (x : Update). x.prev) next ∙ sym last }
    | inr n ↦ next_stays J (OwnPut u values) t n
  ])
  | inr now ↦ elim now [
    | inl same ↦ inl (ap id_of_update (sym same) ∙ sym (last_own-pushed J (OwnPut u values)))
    | inr never ↦ absurd never
  ]
]

other_in_line : (J : List Record) (r : Record) → ((t : Update) → IsIn t (put_by r) → ⊥) → last_own_behind (last_own J) (own_by r) ≡ last_own J → IsInLine J → IsInLine (J ++ r ∷ [])
other_in_line J r none same before t on = elim (flat_cases put_by t J r on) [
  | inl old ↦ elim (before t old) [
    | inl last ↦ inl (last ∙ sym same ∙ sym (last_own-pushed J r))
    | inr n ↦ inr (next_stays J r t n)
  ]
  | inr now ↦ absurd (none t now)
]

line_more : (here : Setting) (J : List Record) (r : Record) → MayFollow here J r → IsInLine J → IsInLine (J ++ r ∷ [])
line_more here J (OwnPut u values) may before = put_in_line here.me J u values (next_of may) before
line_more here J (OwnVoucher v) may before = other_in_line J (OwnVoucher v) (λ t never. never) refl before
line_more here J (Birth node h) may before = other_in_line J (Birth node h) (λ t never. never) refl before
line_more here J (Foreign s) may before = other_in_line J (Foreign s) (λ t never. never) refl before
line_more here J (Conviction p) may before = other_in_line J (Conviction p) (λ t never. never) refl before
line_more here J (Held value) may before = other_in_line J (Held value) (λ t never. never) refl before

pub in_line : (here : Setting) (J : List Record) → IsLawful here J → IsInLine J
in_line here J l = lawful_from_end here IsInLine (λ t never. absurd never) (λ J r l allowed before. line_more here J r allowed.may before) J l

-- ---- what the next own update names

-- t precedes the update that an id names
record IsBehindPrev (us : List Update) (h : List ℕ) (t : Update) : Type 0 where
  pub prev : Update
  pub id : id_of_update prev ≡ h
  pub some : h ≡ zeros → ⊥
  pub before : Precedes us t prev

before_named : (us : List Update) (h : List ℕ) (t : Update) (b : Bool) (o : Option Update) → bytes_eq h zeros ≡ b → named us h ≡ o → IsCausal [] us → IsIn t us → option_map_or (λ p. has_id (past p us) (id_of_update t)) (cond b None o) false ≡ true → IsBehindPrev us h t
before_named us h t true o zero is c t_on e = absurd cc
before_named us h t false None some is c t_on e = absurd cc
before_named us h t false (Some p) some is c t_on e =
    let found = named_is us h p is in
    let w = has_id_to (past p us) (id_of_update t) e in
    let same : w.0 ≡ t = one_of_id [] us w.0 t c (past_in p us w.0 w.1.0) t_on w.1.1 in
    record {
      prev = p;
      id = found.1;
      some = iff_false (bytes_eq-Decides h zeros) some;
      before = (past_of_listed us p t c found.0).0 (subst (λ (x : Update). IsIn x (past p us)) same w.1.0);
    }

behind_prev : (us : List Update) (h : List ℕ) (t : Update) → IsCausal [] us → IsIn t us → precedes_named us h t ≡ true → IsBehindPrev us h t
unfolding precedes_named prev_of
behind_prev us h t c t_on e = before_named us h t (bytes_eq h zeros) (named us h) refl refl c t_on e

pub next_prev : (me : ℕ) (J : List Record) (u : Update) → u ≡ next_with me J u.writes → u.prev ≡ last_own J
next_prev me J u next = ap (λ (x : Update). x.prev) next

-- a leaf of another writer that doesn't precede the prev is an entry
leaf_is_entry : (me : ℕ) (J : List Record) (u t : Update) → u ≡ next_with me J u.writes → IsIn t (accepted J) → is_prev_in (accepted J) (id_of_update t) ≡ false → (t.writer == me) ≡ false → precedes_named (accepted J) (last_own J) t ≡ false → IsIn (id_of_update t) (parents u)
unfolding next_entries leaves_of
leaf_is_entry me J u t next on last other behind =
    let us = accepted J in
    let leaf = in_filter (λ (x : Update). not (is_prev_in us (id_of_update x))) t us on (ap not last) in
    let wanted = in_filter (λ (x : Update). not (x.writer == me) && not (precedes_named us (last_own J) x)) t (leaves_of us) leaf (and_from _ _ (ap not other) (ap not behind)) in
    let entry = in_map entry_of t (next_entries me us (last_own J)) (in_by_id t _ wanted) in
    entry_is_parent u (entry_of t) (subst (λ (ds : List Dep). IsIn (entry_of t) ds) (sym (ap (λ (x : Update). x.deps) next)) entry)

-- a leaf is a parent of the next own update, or precedes its prev
leaf_follows : (here : Setting) (J : List Record) (u t : Update) → IsLawful here J → u ≡ next_with here.me J u.writes → IsIn t (accepted J) → is_prev_in (accepted J) (id_of_update t) ≡ false → Precedes (accepted J ++ u ∷ []) t u
leaf_follows here J u t l next on last =
    let us = accepted J in
    let above = in_left t us (u ∷ []) on in
    let below = in_last us u in
    elim (cases_Bool (t.writer == here.me)) [
      | inl mine ↦
          let put = put_from_writer here J t l on (eqb-true _ _ mine) in
          let some : id_of_update t ≡ zeros → ⊥ = (put_allowed here J t l (put_at t J put)).fresh.named in
          elim (in_line here J l t put) [
            | inl end ↦ parent_precedes (us ++ u ∷ []) t u above below (prev_is_parent u (id_of_update t) (in_prevs u (id_of_update t) (next_prev here.me J u next ∙ sym end) some))
            | inr n ↦ absurd (both_ways _ last (any_from (λ (w : Update). is_among (id_of_update t) (prevs w)) n.next us (put_is_accepted n.next J n.on) (among_from (id_of_update t) (prevs n.next) (in_prevs n.next (id_of_update t) n.prev some))))
          ]
      | inr other ↦ elim (cases_Bool (precedes_named us (last_own J) t)) [
        | inl before ↦
            let p = behind_prev us (last_own J) t (lawful_is_causal here J l) on before in
            let named : IsIn (id_of_update p.prev) (prevs u) = in_prevs u (id_of_update p.prev) (next_prev here.me J u next ∙ sym p.id) (λ e. p.some (sym p.id ∙ e)) in
            precedes_child (us ++ u ∷ []) t p.prev u (precedes_wider us (us ++ u ∷ []) (λ w w_on. in_left w us (u ∷ []) w_on) t p.prev p.before) below (prev_is_parent u (id_of_update p.prev) named)
        | inr behind ↦ parent_precedes (us ++ u ∷ []) t u above below (leaf_is_entry here.me J u t next on last other behind)
      ]
    ]

-- ---- all that is accepted

-- each accepted update precedes the next own one
pub next_follows : (here : Setting) (J : List Record) (u t : Update) → IsLawful here J → u ≡ next_with here.me J u.writes → IsIn t (accepted J) → Precedes (accepted J ++ u ∷ []) t u
next_follows here J u t l next on =
    let us = accepted J in
    let leaf = leaf_of [] us t (lawful_is_causal here J l) on in
    let up = leaf_follows here J u leaf.leaf l next leaf.on leaf.last in
    elim leaf.above [
      | inl same ↦ subst (λ (x : Update). Precedes (us ++ u ∷ []) x u) (sym same) up
      | inr before ↦ follows_on us u t leaf.leaf before up
    ] where
      follows_on : (us : List Update) (u t w : Update) → Precedes us t w → Precedes (us ++ u ∷ []) w u → Precedes (us ++ u ∷ []) t u
      follows_on us u t w before up = leads_trans (IsParent (us ++ u ∷ [])) t w u (precedes_wider us (us ++ u ∷ []) (λ x x_on. in_left x us (u ∷ []) x_on) t w before) up

-- so it does in each lawful journal that puts it
pub put_follows : (here : Setting) (J : List Record) (u t : Update) → IsLawful here J → (p : PutAt u J) → IsIn t (accepted p.before) → Precedes (accepted J) t u
put_follows here J u t l p on =
    let front = p.before ++ OwnPut u p.values ∷ [] in
    let whole : J ≡ front ++ p.after = p.is ∙ sym (append_assoc p.before (OwnPut u p.values ∷ []) p.after) in
    precedes_wider (accepted p.before ++ u ∷ []) (accepted J)
    (λ x x_on. subst (λ (K : List Record). IsIn x (accepted K)) (sym whole) (flat_left accepted_by x front p.after (subst (λ (us : List Update). IsIn x us) (sym (accepted_push p.before (OwnPut u p.values))) x_on))) t u
    (next_follows here p.before u t (lawful_before here J p.before (OwnPut u p.values) p.after l p.is) (next_of (put_allowed here J u l p)) on)

-- a past that has each update of the list is the list
past_is_whole : (ids : List (List ℕ)) (u : Update) (us : List Update) → IsCausal ids us → ((t : Update) → IsIn t us → IsIn t (past u us)) → past u us ≡ us
unfolding past
past_is_whole ids u [] c all = refl
past_is_whole ids u (x ∷ xs) c all =
    let behind = causal_behind ids x xs c in
    let other : (t : Update) → IsIn t xs → x ≡ t → ⊥ = λ t on same. fresh (id_of_update x ∷ ids) xs t behind on (inl (ap id_of_update same)) in
    let rest = past_is_whole (id_of_update x ∷ ids) u xs behind (λ t on. elim (chosen_cases (is_named x (u ∷ past u xs)) t x (past u xs) (all t (inr on))) [
      | inl here ↦ absurd (other t on here.1)
      | inr there ↦ there
    ]) in
    elim (chosen_cases (is_named x (u ∷ past u xs)) x x (past u xs) (all x (inl refl))) [
      | inl here ↦ chosen (is_named x (u ∷ past u xs)) here.0 ∙ ap (λ (ys : List Update). x ∷ ys) rest
      | inr there ↦ absurd (other x (past_in u xs x there) refl)
    ] where
      chosen : (b : Bool) → b ≡ true → cond b (x ∷ past u xs) (past u xs) ≡ x ∷ past u xs
      chosen true e = refl
      chosen false e = absurd cc

-- the past of the next own update is all that is accepted
pub past_of_own : (here : Setting) (J : List Record) (u : Update) → IsLawful here J → u ≡ next_with here.me J u.writes → past u (accepted J) ≡ accepted J
past_of_own here J u l next =
    let c = lawful_is_causal here J l in
    past_is_whole [] u (accepted J) c (λ t on. (past_of_next (accepted J) u t c).1 (on, next_follows here J u t l next on))
