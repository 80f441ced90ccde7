-- No later statement of a correct node names an update below a checkpoint that it signed.
use Rattle.std.proofs.Common.{◌≡◌, ℕ, ◌==◌, ◌&&◌, ◌||◌, Bool, true, false, not, cond, List, [], ◌∷◌, take, map, Option, Some, None, refl, sym, ap, subst, ◌∙◌, inl, inr, ◌⊎◌}
use Rattle.std.specs.Option.{option_map_or}
use Rattle.std.specs.Str.{bytes_eq}
use Rattle.std.proofs.lemmas.Bool.{and_parts, or_cases, both_ways, eqb-true, false_from_ne_true}
use Rattle.std.proofs.lemmas.Slice.Eq.{bytes_eq-Decides}
use Rattle.depot_base.specs.Zeros.{zeros}
use Rattle.depot_base.specs.Statement.{writer_of, seq_of}
use Rattle.depot_base.specs.declared.key.RosterEntry.{RosterEntry}
use Rattle.depot_base.specs.declared.update.Update.{Update}
use Rattle.depot_base.specs.declared.update.Dep.{Dep}
use Rattle.depot_base.specs.declared.statement.Statement.{Statement}
use Rattle.depot_base.specs.declared.statement.Statement.TheVariants as statement
use Rattle.depot_base.specs.declared.proof.Kind.TheVariants.{SamePrev}
use Rattle.depot_base.specs.declared.record.Record.{Record}
use Rattle.depot_base.specs.declared.record.Record.TheVariants.{OwnPut}
use Rattle.depot_model.specs.lists.Lists.{IsIn, is_among}
use Rattle.depot_model.specs.texts.Texts.{id_of_update}
use Rattle.depot_model.specs.updates.Order.{Precedes, IsParent, prevs, parents, past}
use Rattle.depot_model.specs.updates.History.{leaves_of}
use Rattle.depot_model.specs.journals.Journal.{accepted, accepted_by, own, has_id, named, prev_of, last_own}
use Rattle.depot_model.specs.checks.Checks.{Setting, is_kept}
use Rattle.depot_model.specs.exchange.Bundle.{is_covered}
use Rattle.depot_model.specs.checks.Own.{entry_of, precedes_named, is_unseen, next_entries, next_with}
use Rattle.depot_laws.proofs.own_updates.Nexts.{next_of}
use Rattle.depot_model.specs.journals.Lawful.{IsLawful}
use Rattle.depot_model.specs.worlds.World.{Correct, World, setting_of, IsWorld, IsAuthentic, writes_of}
use Rattle.depot_model.specs.worlds.Causality.{write, puts_of}
use Rattle.depot_model.proofs.lists.Members.{in_parts, from_map, from_filter, any_to, among_to}
use Rattle.depot_model.proofs.of_updates.Orders.{leads_trans}
use Rattle.depot_model.proofs.of_updates.Pasts.{past_in, past_of_listed}
use Rattle.depot_model.proofs.of_updates.NamedIds.{named_some, has_id_from, has_id_to}
use Rattle.depot_model.proofs.lists.RisingUpdates.{from_by_id}
use Rattle.depot_laws.specs.OneText.{HaveOneText}
use Rattle.depot_laws.proofs.lists.Splits.{flat_left, lawful_before}
use Rattle.depot_laws.proofs.lists.Tests.{fails_from_not}
use Rattle.depot_laws.proofs.records.Causes.{lawful_is_causal, prevs_is, leaf_is_on}
use Rattle.depot_laws.proofs.own_updates.OwnSteps.{own_writer}
use Rattle.depot_laws.proofs.own_updates.OwnAgree.{own_agree}
use Rattle.depot_laws.proofs.orders.ChainLaws.{same_prev}
use Rattle.depot_laws.proofs.own_updates.Puts.{put_at, put_allowed, put_is_accepted, put_from_own}
use Rattle.depot_laws.proofs.orders.Follows.{next_prev, put_follows}
use Rattle.depot_laws.proofs.of_worlds.Worlds.{taken_in, one_write, write_from, journal_lawful, taken_lawful}
use Rattle.depot_laws.proofs.of_worlds.Observed.{strict}
use Rattle.depot_laws.proofs.of_worlds.Traces.{path_is_observed, path_up}
use Rattle.depot_laws.proofs.of_worlds.TraceLines.{PutAfter, stand, put_after}
use Rattle.depot_laws.proofs.of_worlds.Exact.{put_by_writer}
use Rattle.depot_model.specs.readers.Trimming.{below, is_signed_by, names_parent, has_prev, names}
use Rattle.depot_laws.proofs.own_updates.OwnOrder.{one_seq, own_from_put, last_put, last_follows}
use Rattle.depot_laws.proofs.of_audits.Settled.{in_roster}
use Rattle.depot_laws.proofs.lists.EachPasses.{each_to}

-- ---- what the definitions say

-- an update that is below: one of the accepted, with a listed one that it is or precedes
record IsBelow (us : List Update) (ids : List (List ℕ)) (t : Update) : Type 0 where
  pub on : IsIn t us
  pub listed : Update
  pub listed_on : IsIn listed us
  pub of_list : IsIn (id_of_update listed) ids
  pub under : (id_of_update t ≡ id_of_update listed) ⊎ (has_id (past listed us) (id_of_update t) ≡ true)

below_is : (J : List Record) (ids : List (List ℕ)) (t : Update) → IsIn t (below J ids) → IsBelow (accepted J) ids t
unfolding is_covered
below_is J ids t on =
    let us = accepted J in
    let f = from_filter (is_covered us ids) t us on in
    let l = any_to (λ (l : Update). is_among (id_of_update l) ids && (bytes_eq (id_of_update t) (id_of_update l) || has_id (past l us) (id_of_update t))) us f.1 in
    let p = and_parts _ _ l.1.1 in
    record {
      on = f.0;
      listed = l.0;
      listed_on = l.1.0;
      of_list = among_to (id_of_update l.0) ids p.0;
      under = elim (or_cases _ _ p.1) [ inl same ↦ inl ((bytes_eq-Decides (id_of_update t) (id_of_update l.0)).0 same) | inr before ↦ inr before ];
    }

-- the update by which a node signed
record HasSigned (us : List Update) (ids : List (List ℕ)) (n : ℕ) : Type 0 where
  pub update : Update
  pub on : IsIn update us
  pub writer : update.writer ≡ n
  pub all : (h : List ℕ) → IsIn h ids → has_id (past update us) h ≡ true

signed_is : (J : List Record) (text : List ℕ) (ids : List (List ℕ)) (n : ℕ) → is_signed_by J text ids n ≡ true → HasSigned (accepted J) ids n
unfolding is_signed_by
signed_is J text ids n e =
    let us = accepted J in
    let w = any_to _ us e in
    let p = and_parts _ _ w.1.1 in
    record {
      update = w.0;
      on = w.1.0;
      writer = eqb-true _ _ p.0;
      all = λ h on. each_to (λ h. has_id (past w.0 us) h) h ids on (and_parts _ _ p.1).1;
    }

-- how a statement names an update
abbrev Names : Statement → Update → Type 0
Names s t = (names_parent s t ≡ true) ⊎ ((writer_of s ≡ t.writer) × ((seq_of s ≡ t.seq) ⊎ (has_prev s t.prev ≡ true)))

names_is : (s : Statement) (t : Update) → names s t ≡ true → Names s t
unfolding names
names_is s t e = elim (or_cases _ _ e) [
  | inl parent ↦ inl parent
  | inr both ↦
      let p = and_parts _ _ both in
      inr (eqb-true _ _ p.0, elim (or_cases _ _ p.1) [ inl seq ↦ inl (eqb-true _ _ seq) | inr prev ↦ inr prev ])
]

-- ---- under the signing update

id_precedes : (here : Setting) (J : List Record) (l w : Update) → IsLawful here J → IsIn l (accepted J) → IsIn w (accepted J) → has_id (past w (accepted J)) (id_of_update l) ≡ true → ((t u : Update) → IsIn t (accepted J) → IsIn u (accepted J) → id_of_update t ≡ id_of_update u → t ≡ u) → Precedes (accepted J) l w
id_precedes here J l w lawful l_on w_on e one =
    let us = accepted J in
    let c = lawful_is_causal here J lawful in
    let p = has_id_to (past w us) (id_of_update l) e in
    (past_of_listed us w l c w_on).0 (subst (λ (x : Update). IsIn x (past w us)) (one p.0 l (past_in w us p.0 p.1.0) l_on p.1.1) p.1.0)

-- what is below precedes what has all listed ones in its past
under_signing : (here : Setting) (J : List Record) (ids : List (List ℕ)) (n : ℕ) (t : Update) → IsLawful here J → ((t u : Update) → IsIn t (accepted J) → IsIn u (accepted J) → id_of_update t ≡ id_of_update u → t ≡ u)
    → IsBelow (accepted J) ids t → (w : HasSigned (accepted J) ids n) → Precedes (accepted J) t w.update
under_signing here J ids n t lawful one b w =
    let us = accepted J in
    let up = id_precedes here J b.listed w.update lawful b.listed_on w.on (w.all (id_of_update b.listed) b.of_list) one in
    elim b.under [
      | inl same ↦ subst (λ (x : Update). Precedes us x w.update) (sym (one t b.listed b.on b.listed_on same)) up
      | inr before ↦ leads_trans (IsParent us) t b.listed w.update (id_precedes here J t b.listed lawful b.on b.listed_on before one) up
    ]

-- ---- entries of the next own update

-- what an entry names doesn't precede the last own update
record IsEntry (me : ℕ) (B : List Record) (h : List ℕ) : Type 0 where
  pub update : Update
  pub on : IsIn update (accepted B)
  pub id : id_of_update update ≡ h
  pub unseen : precedes_named (accepted B) (last_own B) update ≡ false

deps_are : (me : ℕ) (B : List Record) (u : Update) → u ≡ next_with me B u.writes → u.deps ≡ map entry_of (next_entries me (accepted B) (last_own B))
deps_are me B u next = ap (λ (x : Update). x.deps) next

entry_is : (me : ℕ) (B : List Record) (u : Update) (h : List ℕ) → u ≡ next_with me B u.writes → IsIn h (map (λ (d : Dep). d.id) u.deps) → IsEntry me B h
unfolding next_entries
entry_is me B u h next on =
    let us = accepted B in
    let d = from_map (λ (d : Dep). d.id) h u.deps on in
    let t = from_map entry_of d.0 (next_entries me us (last_own B)) (subst (λ (ds : List Dep). IsIn d.0 ds) (deps_are me B u next) d.1.0) in
    let f = from_filter (is_unseen me us (last_own B)) t.0 (leaves_of us) (from_by_id t.0 _ t.1.0) in
    record {
      update = t.0;
      on = leaf_is_on us t.0 f.0;
      id = ap (λ (d : Dep). d.id) t.1.1 ∙ d.1.1;
      unseen = fails_from_not _ (and_parts (not (t.0.writer == me)) (not (precedes_named us (last_own B) t.0)) f.1).1;
    }

-- what precedes an update is in the past that its id names
precedes_by_id : (us : List Update) (h : List ℕ) (t x : Update) (b : Bool) (o : Option Update) → bytes_eq h zeros ≡ b → named us h ≡ o → b ≡ false → o ≡ Some x → has_id (past x us) (id_of_update t) ≡ true → option_map_or (λ p. has_id (past p us) (id_of_update t)) (cond b None o) false ≡ true
precedes_by_id us h t x true o is named_is b_is o_is e = absurd cc
precedes_by_id us h t x false None is named_is b_is o_is e = absurd cc
precedes_by_id us h t x false (Some p) is named_is b_is o_is e = let same : p ≡ x = cc in subst (λ (y : Update). has_id (past y us) (id_of_update t) ≡ true) (sym same) e

precedes_last : (here : Setting) (B : List Record) (t x : Update) → IsLawful here B → IsIn x (puts_of B) → id_of_update x ≡ last_own B → Precedes (accepted B) t x → IsIn t (accepted B) → precedes_named (accepted B) (last_own B) t ≡ true
unfolding precedes_named prev_of
precedes_last here B t x l x_on last before t_on =
    let us = accepted B in
    let c = lawful_is_causal here B l in
    let x_in = put_is_accepted x B x_on in
    let some : last_own B ≡ zeros → ⊥ = λ e. (put_allowed here B x l (put_at x B x_on)).fresh.named (last ∙ e) in
    precedes_by_id us (last_own B) t x (bytes_eq (last_own B) zeros) (named us (last_own B)) refl refl (false_from_ne_true _ (λ e. some ((bytes_eq-Decides (last_own B) zeros).0 e))) (named_some [] us (last_own B) x c x_in last)
    (has_id_from (past x us) (id_of_update t) t ((past_of_listed us x t c x_in).1 before) refl)

module _ (W : World) (world : IsWorld W) (authentic : IsAuthentic W) (free : HaveOneText W) where
  writes_in : (c : Correct) → IsIn c W.nodes → (x : Update) → IsIn x (accepted c.journal) → IsIn x (writes_of W)
  writes_in c c_on x on = write_from W c x c_on on

  -- no write of a journal precedes itself there
  no_circle : (among : List Update) → ((x : Update) → IsIn x among → IsIn x (writes_of W)) → (t : Update) → Precedes among t t → ⊥
  no_circle among each t before = (strict W world free).never (write t) (path_is_observed W world among each t t before)

  -- a path of one journal is in each that has its end
  path_there : (here : Setting) (K : List Record) (among : List Update) → IsLawful here K → ((x : Update) → IsIn x (accepted K) → IsIn x (writes_of W)) → ((x : Update) → IsIn x among → IsIn x (writes_of W)) → (t w : Update) → Precedes among t w → IsIn w (accepted K) → IsIn t (accepted K) × Precedes (accepted K) t w
  path_there here K among lawful each known t w before w_on =
      let up = path_up W world free here K lawful each among known t w before w_on in
      (up.on, elim up.before [ inl same ↦ absurd (no_circle among known t (subst (λ (x : Update). Precedes among t x) (sym same) before)) | inr there ↦ there ])

  module _ (d : Correct) (d_on : IsIn d W.nodes) (J : List Record) (here : Setting) (lawful : IsLawful here J) (each : (x : Update) → IsIn x (accepted J) → IsIn x (writes_of W)) where
    here_d : Setting
    here_d = setting_of W d

    -- an own update that J lacks, put after one that J has, names nothing that precedes that one
    later_names_none : (t w u : Update) → Precedes (accepted J) t w → IsIn w (accepted J) → IsIn u (puts_of d.journal) → IsIn w (puts_of d.journal) → has_id (accepted J) (id_of_update u) ≡ false → IsIn (id_of_update t) (parents u) → ⊥
    later_names_none t w u under w_in u_on w_on absent named = elim (stand u w (puts_of d.journal) u_on w_on) [
      | inl same ↦ both_ways _ absent (has_id_from (accepted J) (id_of_update u) w w_in (ap id_of_update (sym same)))
      | inr other ↦ elim other [
        | inl first ↦
            let p = put_after u w d.journal first in
            let follows = put_follows (setting_of W d) d.journal w u (journal_lawful W world d d_on) p.put (put_is_accepted u p.put.before p.earlier) in
            let there = path_there here J (accepted d.journal) lawful each (writes_in d d_on) u w follows w_in in
            both_ways _ absent (has_id_from (accepted J) (id_of_update u) u there.0 refl)
        | inr second ↦ behind (put_after w u d.journal second)
      ]
    ] where
      behind : PutAfter w u d.journal → ⊥
      behind p =
          let l = journal_lawful W world d d_on in
          let B = p.put.before in
          let lB = lawful_before (setting_of W d) d.journal B (OwnPut u p.put.values) p.put.after l p.put.is in
          let eachB : (x : Update) → IsIn x (accepted B) → IsIn x (writes_of W) = λ x on. writes_in d d_on x (subst (λ (K : List Record). IsIn x (accepted K)) (sym p.put.is) (flat_left accepted_by x B (OwnPut u p.put.values ∷ p.put.after) on)) in
          let next = next_of (put_allowed (setting_of W d) d.journal u l p.put) in
          let there = path_there (setting_of W d) B (accepted J) lB eachB each t w under (put_is_accepted w B p.earlier) in
          let last = last_put B w p.earlier in
          let above = last_follows (setting_of W d) B last.update w lB last.on last.id p.earlier in
          let before : Precedes (accepted B) t last.update = elim above [
            | inl same ↦ subst (λ (x : Update). Precedes (accepted B) t x) same there.1
            | inr more ↦ leads_trans (IsParent (accepted B)) t w last.update there.1 more
          ] in
          elim (in_parts (id_of_update t) (prevs u) (map (λ (e : Dep). e.id) u.deps) named) [
            | inl prev ↦
                let id : id_of_update last.update ≡ id_of_update t = last.id ∙ sym (next_prev d.node B u next) ∙ (prevs_is u (id_of_update t) prev).0 in
                let same = one_write W world free last.update t (eachB last.update (put_is_accepted last.update B last.on)) (eachB t there.0) id in
                no_circle (accepted B) eachB t (subst (λ (x : Update). Precedes (accepted B) t x) same before)
            | inr entry ↦
                let e = entry_is d.node B u (id_of_update t) next entry in
                let same = one_write W world free e.update t (eachB e.update e.on) (eachB t there.0) e.id in
                both_ways _ (subst (λ (x : Update). precedes_named (accepted B) (last_own B) x ≡ false) same e.unseen) (precedes_last (setting_of W d) B t last.update lB last.on last.id before there.0)
          ]

    -- a statement that J lacks isn't an own update that J has
    no_own_of_one_seq : (s : Statement) (t : Update) → IsIn s (own d.journal) → IsIn t (puts_of d.journal) → IsIn t (accepted J) → is_kept J s ≡ false → seq_of s ≡ t.seq → ⊥
    no_own_of_one_seq s t s_on t_on t_in absent e =
        let same = one_seq (setting_of W d) d.journal (journal_lawful W world d d_on) s (statement.Update t) s_on (own_from_put t d.journal t_on) e in
        both_ways _ (subst (λ (x : Statement). is_kept J x ≡ false) same absent) (has_id_from (accepted J) (id_of_update t) t t_in refl)

    -- nor has an own update that J lacks the prev of one that J has
    no_own_of_one_prev : (u t : Update) → IsIn u (puts_of d.journal) → IsIn t (puts_of d.journal) → IsIn t (accepted J) → has_id (accepted J) (id_of_update u) ≡ false → u.writer ≡ t.writer → u.prev ≡ t.prev → ⊥
    no_own_of_one_prev u t u_on t_on t_in absent writer prev =
        own_agree (setting_of W d) d.journal (journal_lawful W world d d_on) (statement.Update t) (statement.Update u) (own_from_put t d.journal t_on) (own_from_put u d.journal u_on) SamePrev
        (same_prev t u (sym writer) (sym prev) (λ same. both_ways _ absent (has_id_from (accepted J) (id_of_update u) t t_in same)))

    -- so an own statement that J lacks names nothing that precedes an own update that J has
    names_nothing : (s : Statement) (t w : Update) → (t.writer ≡ d.node → IsIn t (puts_of d.journal)) → IsIn s (own d.journal) → is_kept J s ≡ false → IsIn t (accepted J) → Precedes (accepted J) t w → IsIn w (accepted J) → IsIn w (puts_of d.journal) → Names s t → ⊥
    names_nothing (statement.Voucher v) t w brought s_on absent t_in under w_in w_on (inl parent) = absurd cc
    names_nothing (statement.Voucher v) t w brought s_on absent t_in under w_in w_on (inr (writer, (inl seq))) =
        no_own_of_one_seq (statement.Voucher v) t s_on (brought (sym writer ∙ own_writer (setting_of W d) d.journal (journal_lawful W world d d_on) (statement.Voucher v) s_on)) t_in absent seq
    names_nothing (statement.Voucher v) t w brought s_on absent t_in under w_in w_on (inr (writer, (inr prev))) = absurd cc
    names_nothing (statement.Update u) t w brought s_on absent t_in under w_in w_on (inl parent) =
        later_names_none t w u under w_in (put_from_own u d.journal s_on) w_on absent (among_to (id_of_update t) (parents u) parent)
    names_nothing (statement.Update u) t w brought s_on absent t_in under w_in w_on (inr (writer, (inl seq))) =
        no_own_of_one_seq (statement.Update u) t s_on (brought (sym writer ∙ own_writer (setting_of W d) d.journal (journal_lawful W world d d_on) (statement.Update u) s_on)) t_in absent seq
    names_nothing (statement.Update u) t w brought s_on absent t_in under w_in w_on (inr (writer, (inr prev))) =
        no_own_of_one_prev u t (put_from_own u d.journal s_on) (brought (sym writer ∙ own_writer (setting_of W d) d.journal (journal_lawful W world d d_on) (statement.Update u) s_on)) t_in absent writer ((bytes_eq-Decides u.prev t.prev).0 prev)

  -- no own statement of a correct node that the journal lacks names an update below a checkpoint that every node signed
  pub trim : (c d : Correct) (n : ℕ) (text : List ℕ) (ids : List (List ℕ)) (s : Statement) (t : Update) → IsIn c W.nodes → IsIn d W.nodes → ((e : RosterEntry) → IsIn e W.listed → is_signed_by (take n c.journal) text ids e.node ≡ true)
      → IsIn s (own d.journal) → is_kept (take n c.journal) s ≡ false → IsIn t (below (take n c.journal) ids) → names s t ≡ true → ⊥
  trim c d n text ids s t c_on d_on signed s_on absent t_below e =
      let J = take n c.journal in
      let l = taken_lawful W world c n c_on in
      let back : (x : Update) → IsIn x (accepted J) → IsIn x (accepted c.journal) = λ x on. taken_in accepted_by x n c.journal on in
      let each : (x : Update) → IsIn x (accepted J) → IsIn x (writes_of W) = λ x on. writes_in c c_on x (back x on) in
      let one : (x y : Update) → IsIn x (accepted J) → IsIn y (accepted J) → id_of_update x ≡ id_of_update y → x ≡ y = λ x y x_on y_on same. one_write W world free x y (each x x_on) (each y y_on) same in
      let entry = from_map (λ (e : RosterEntry). e.node) d.node W.listed (in_roster W.listed d.node (world.correct d d_on).member) in
      let w = signed_is J text ids d.node (subst (λ (m : ℕ). is_signed_by J text ids m ≡ true) entry.1.1 (signed entry.0 entry.1.0)) in
      let b = below_is J ids t t_below in
      names_nothing d d_on J (setting_of W c) l each s t w.update
      (λ writer. put_by_writer W world authentic c d t c_on d_on (back t b.on) writer) s_on absent b.on
      (under_signing (setting_of W c) J ids d.node t l one b w) w.on (put_by_writer W world authentic c d w.update c_on d_on (back w.update w.on) w.writer) (names_is s t e)
