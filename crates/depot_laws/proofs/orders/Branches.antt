-- A journal whose updates are separate branches breaks off nowhere.
use Rattle.std.proofs.Common.{◌≡◌, ℕ, ◌+◌, ◌==◌, ◌&&◌, ltb, Bool, true, false, not, cond, List, [], ◌∷◌, ◌++◌, filter, Some, None, is_some, refl, sym, ap, subst, ◌∙◌, inl, inr, ◌⊎◌, append_assoc, lt-ltb, eq-eqb}
use Rattle.std.specs.Prelude.{option_map}
use Rattle.std.specs.List.{list_any}
use Rattle.std.specs.Str.{bytes_eq}
use Rattle.std.proofs.lemmas.Bool.{and_parts, and_from, or_from, both_ways, false_from_ne_true}
use Rattle.std.proofs.lemmas.Grind.{flat_map-append}
use Rattle.std.proofs.lemmas.Slice.Eq.{bytes_eq-Decides}
use Rattle.depot_base.specs.Zeros.{zeros}
use Rattle.depot_base.specs.Statement.{writer_of}
use Rattle.depot_base.specs.declared.update.Update.{Update}
use Rattle.depot_base.specs.declared.statement.Statement.{Statement}
use Rattle.depot_base.specs.declared.statement.Signed.{Signed}
use Rattle.depot_base.specs.declared.proof.Kind.{Kind}
use Rattle.depot_base.specs.declared.proof.Kind.TheVariants.{SameNumber, SamePrev, Backward}
use Rattle.depot_base.specs.declared.record.Record.{Record}
use Rattle.depot_model.specs.lists.Lists.{IsIn, is_one_of, first, when}
use Rattle.depot_model.specs.texts.Texts.{id_of_update}
use Rattle.depot_model.specs.updates.Chains.{IsChain, HasPrev}
use Rattle.depot_model.specs.updates.Contradictions.{contradicts, kind_of}
use Rattle.depot_model.specs.journals.Journal.{accepted, accepted_by, foreign, foreign_by, convicted, is_convicted}
use Rattle.depot_model.specs.worlds.World.{Correct, World, IsWorld}
use Rattle.depot_model.specs.worlds.Causality.{HasForests}
use Rattle.depot_model.proofs.lists.Members.{any_from, any_to, in_right}
use Rattle.depot_laws.proofs.lists.Tests.{fails_from_not}
use Rattle.depot_laws.proofs.lists.Splits.{flat_gives, flat_left}
use Rattle.depot_laws.proofs.of_worlds.ForkJoin.{has_forests}
use Rattle.depot_laws.proofs.records.Causes.{none_or_one}
use Rattle.depot_model.specs.worlds.Audit.{has_its_prev, end_of_chain, breaks_chain, breaks_off, first_break, split_finding, split_found}
use Rattle.depot_laws.proofs.lists.FirstOfRow.{row_none, map_none}

-- ---- chains

-- what is in a chain after others has the last of them as its prev
chain_next : (h : List ℕ) (us : List Update) (u : Update) (vs : List Update) → IsChain h (us ++ u ∷ vs) → u.prev ≡ end_of_chain h us
chain_next h [] u vs chain = chain.0
chain_next h (t ∷ us) u vs chain = chain_next (id_of_update t) us u vs chain.1

filter_append : (test : Update → Bool) (us vs : List Update) → filter test (us ++ vs) ≡ filter test us ++ filter test vs
filter_append test [] vs = refl
filter_append test (u ∷ us) vs = step (test u) (filter_append test us vs) where
  step : (b : Bool) → filter test (us ++ vs) ≡ filter test us ++ filter test vs → cond b (u ∷ filter test (us ++ vs)) (filter test (us ++ vs)) ≡ cond b (u ∷ filter test us) (filter test us) ++ filter test vs
  step true e = ap (λ (xs : List Update). u ∷ xs) e
  step false e = e

filter_first : (test : Update → Bool) (u : Update) (vs : List Update) → test u ≡ true → filter test (u ∷ vs) ≡ u ∷ filter test vs
filter_first test u vs e = rw e refl

-- the test of a prev passes
prev_from : (us : List Update) (u : Update) → HasPrev us u → has_its_prev us u ≡ true
prev_from us u p = any_from (λ (t : Update). bytes_eq (id_of_update t) u.prev && ((t.writer == u.writer) && (ltb t.seq u.seq && ltb t.clock u.clock))) p.prev us p.known
    (and_from _ _ ((bytes_eq-Decides (id_of_update p.prev) u.prev).1 p.id) (and_from _ _ (eq-eqb _ _ p.writer) (and_from _ _ (lt-ltb _ _ p.earlier.seq) (lt-ltb _ _ p.earlier.clock))))

-- ---- kinds

found_kind : (a b c : Bool) → is_some (first (when a SameNumber ∷ when b SamePrev ∷ when c Backward ∷ [])) ≡ true → (a ≡ true) ⊎ ((b ≡ true) ⊎ (c ≡ true))
found_kind true b c e = inl refl
found_kind false true c e = inr (inl refl)
found_kind false false true e = inr (inr refl)
found_kind false false false e = absurd cc

-- two statements of some kind contradict each other
kind_is : (s t : Statement) → is_some (kind_of s t) ≡ true → (k : Kind) × (contradicts k s t ≡ true)
unfolding kind_of
kind_is s t e = elim (found_kind (contradicts SameNumber s t) (contradicts SamePrev s t) (contradicts Backward s t) e) [
  | inl one ↦ (SameNumber, one)
  | inr rest ↦ elim rest [ inl two ↦ (SamePrev, two) | inr three ↦ (Backward, three) ]
]

-- ---- one record more

module _ (J : List Record) (f : HasForests J) where
  chain_holds : (us : List Update) (u : Update) (vs : List Update) → accepted J ≡ us ++ u ∷ vs → breaks_chain (convicted J) us u ≡ false
  unfolding is_convicted
  chain_holds us u vs is = or_from _ _
      (false_from_ne_true _ (λ e.
      let p = and_parts (not (bytes_eq u.prev zeros)) (not (has_its_prev us u)) e in
      both_ways (has_its_prev us u) (fails_from_not _ p.1) (prev_from us u (f.prev us u vs is (λ zero. both_ways (bytes_eq u.prev zeros) (fails_from_not _ p.0) ((bytes_eq-Decides u.prev zeros).1 zero))))))
      (false_from_ne_true _ (λ e.
      let p = and_parts (not (is_one_of u.writer (convicted J))) (not (bytes_eq u.prev (end_of_chain zeros (filter (λ (t : Update). t.writer == u.writer) us)))) e in
      let mine : Update → Bool = λ t. t.writer == u.writer in
      let whole : filter mine (accepted J) ≡ filter mine us ++ u ∷ filter mine vs = ap (filter mine) is ∙ filter_append mine us (u ∷ vs) ∙ ap (λ (xs : List Update). filter mine us ++ xs) (filter_first mine u vs (eq-eqb u.writer u.writer refl)) in
      let chain : IsChain zeros (filter mine us ++ u ∷ filter mine vs) = subst (λ (xs : List Update). IsChain zeros xs) whole (f.chain u.writer (fails_from_not _ p.0)) in
      both_ways (bytes_eq u.prev (end_of_chain zeros (filter mine us))) (fails_from_not _ p.1) ((bytes_eq-Decides u.prev (end_of_chain zeros (filter mine us))).1 (chain_next zeros (filter mine us) u (filter mine vs) chain))))

  contrary_convicted : (a b : Signed) → IsIn a (foreign J) → IsIn b (foreign J) → is_some (kind_of a.statement b.statement) ≡ true → is_one_of (writer_of a.statement) (convicted J) ≡ true
  unfolding is_convicted
  contrary_convicted a b a_on b_on e = let k = kind_is a.statement b.statement e in f.exposed a b a_on b_on k.0 k.1

  holds_here : (before : List Record) (r : Record) (after : List Record) → J ≡ before ++ r ∷ after → breaks_off (convicted J) before r ≡ false
  unfolding breaks_off
  holds_here before r after is = or_from _ _
      (false_from_ne_true _ (λ e.
      let u = any_to (breaks_chain (convicted J) (accepted before)) (accepted_by r) e in
      both_ways _ (chain_holds (accepted before) u.0 (accepted after) (parts u.0 u.1.0)) u.1.1))
      (false_from_ne_true _ (λ e.
      let s = any_to (λ (s : Signed). list_any (λ (g : Signed). not (is_one_of (writer_of g.statement) (convicted J)) && is_some (kind_of g.statement s.statement)) (foreign before)) (foreign_by r) e in
      let g = any_to (λ (g : Signed). not (is_one_of (writer_of g.statement) (convicted J)) && is_some (kind_of g.statement s.0.statement)) (foreign before) s.1.1 in
      let p = and_parts _ _ g.1.1 in
      both_ways _ (fails_from_not _ p.0) (contrary_convicted g.0 s.0
      (subst (λ (K : List Record). IsIn g.0 (foreign K)) (sym is) (flat_left foreign_by g.0 before (r ∷ after) g.1.0))
      (subst (λ (K : List Record). IsIn s.0 (foreign K)) (sym is) (flat_gives foreign_by s.0 r (before ++ r ∷ after) (in_right r before (r ∷ after) (inl refl)) s.1.0)) p.1)))
    where
      parts : (u : Update) → IsIn u (accepted_by r) → accepted J ≡ accepted before ++ u ∷ accepted after
      parts u on = ap accepted is ∙ flat_map-append accepted_by before (r ∷ after) ∙ ap (λ (us : List Update). accepted before ++ us) (one_there u on) where
        one_there : (u : Update) → IsIn u (accepted_by r) → accepted_by r ++ accepted after ≡ u ∷ accepted after
        one_there u on = elim (none_or_one r) [
          | inl none ↦ absurd (subst (λ (us : List Update). IsIn u us) none on)
          | inr one ↦ elim (subst (λ (us : List Update). IsIn u us) one.1 on) [
            | inl same ↦ ap (λ (us : List Update). us ++ accepted after) (one.1 ∙ ap (λ (x : Update). x ∷ []) same)
            | inr never ↦ absurd never
          ]
        ]

  -- it breaks off nowhere
  pub unbroken : (before : List Record) (n : ℕ) (after : List Record) → J ≡ before ++ after → first_break (convicted J) before n after ≡ None
  unfolding first_break
  unbroken before n [] is = refl
  unbroken before n (r ∷ after) is = skipped (breaks_off (convicted J) before r) (holds_here before r after is) (unbroken (before ++ r ∷ []) (n + 1) after (is ∙ sym (append_assoc before (r ∷ []) after))) where
    skipped : (b : Bool) → b ≡ false → first_break (convicted J) (before ++ r ∷ []) (n + 1) after ≡ None → cond b (Some n) (first_break (convicted J) (before ++ r ∷ []) (n + 1) after) ≡ None
    skipped true e rest = absurd cc
    skipped false e rest = rest

-- so in a world no journal does
pub none_split : (W : World) → IsWorld W → split_finding W ≡ None
unfolding split_finding
none_split W world = row_none (λ (c : Correct). option_map (λ place. split_found c.node place) (first_break (convicted c.journal) [] 0 c.journal)) W.nodes
    (λ c c_on. map_none (λ place. split_found c.node place) (first_break (convicted c.journal) [] 0 c.journal) (unbroken c.journal (has_forests W world c c_on) [] 0 c.journal refl))
