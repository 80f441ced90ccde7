-- Two nodes of a world meet: what the one's journal says to the other.
use Rattle.std.proofs.Common.{◌≡◌, ℕ, ◌==◌, List, [], ◌∷◌, ◌++◌, map, Bool, true, false, not, ◌&&◌, ◌||◌, cond, refl, sym, ap, subst, ◌∙◌, inl, inr, ◌⊎◌}
use Rattle.std.specs.List.{filter, flat_map}
use Rattle.std.specs.Str.{bytes_eq}
use Rattle.std.proofs.lemmas.Slice.Eq.{bytes_eq-Decides}
use Rattle.std.proofs.lemmas.Bool.{eqb-true, false_from_ne_true, cases_Bool, and_parts, or_cases}
use Rattle.depot_base.specs.Statement.{writer_of}
use Rattle.depot_base.specs.declared.update.Update.{Update}
use Rattle.depot_base.specs.declared.statement.Statement.{Statement}
use Rattle.depot_base.specs.declared.statement.Statement.TheVariants as statement
use Rattle.depot_base.specs.declared.statement.Signed.{Signed}
use Rattle.depot_base.specs.declared.proof.Proof.{Proof}
use Rattle.depot_base.specs.declared.record.Record.{Record}
use Rattle.depot_model.specs.declared.hello.HelloLeaf.{HelloLeaf}
use Rattle.depot_model.specs.lists.Lists.{IsIn, is_among}
use Rattle.depot_model.specs.texts.Texts.{id_of_update}
use Rattle.depot_model.specs.updates.Order.{parents, past}
use Rattle.depot_model.specs.updates.History.{leaves_of, by_id}
use Rattle.depot_model.specs.journals.Journal.{accepted, accepted_by, own, foreign, foreign_by, proof_by, accused, has_id, is_convicted}
use Rattle.depot_model.specs.journals.Lawful.{IsLawful}
use Rattle.depot_model.specs.exchange.Hello.{named_leaf, hello_of}
use Rattle.depot_model.specs.exchange.Bundle.{is_covered, has_candidate, candidates}
use Rattle.depot_model.specs.worlds.World.{Correct, World, setting_of, IsWorld, IsAuthentic, IsCollisionFree, writes_of}
use Rattle.depot_model.proofs.lists.Members.{in_left, from_map, any_from, any_to, among_to, in_filter}
use Rattle.depot_model.proofs.of_updates.Pasts.{past_in}
use Rattle.depot_laws.specs.Rejoin.{hello_at}
use Rattle.depot_laws.proofs.lists.Splits.{given_by, flat_left, flat_gives, none_splits, lawful_front}
use Rattle.depot_model.proofs.lists.RisingUpdates.{from_by_id}
use Rattle.depot_model.proofs.of_updates.NamedIds.{has_id_to}
use Rattle.depot_laws.proofs.records.Causes.{own_in_accepted, leaf_is_on, record_joins, lawful_is_causal}
use Rattle.depot_laws.proofs.convicting.Convictions.{convicted_by}
use Rattle.depot_laws.proofs.own_updates.OwnSteps.{own_writer}
use Rattle.depot_laws.proofs.orders.ChainLaws.{brought}
use Rattle.depot_laws.proofs.orders.SamePasts.{past_over, own_parent}
use Rattle.depot_laws.proofs.of_worlds.Worlds.{one_text, giver_in, write_from, journal_lawful, one_write}
use Rattle.depot_laws.proofs.of_worlds.NoVerdicts.{convicts_none}
use Rattle.depot_laws.proofs.exchanges.Parcels.{is_candidate_for, candidates_for}
use Rattle.depot_laws.proofs.of_worlds.Exact.{kept_in_world}

-- The reader a and the sender v of an authentic world without collisions. The sender's journal began with these records.
pub record Meeting (W : World) (a v : Correct) (K : List Record) : Type 0 where
  pub world : IsWorld W
  pub authentic : IsAuthentic W
  pub free : IsCollisionFree W
  pub reader : IsIn a W.nodes
  pub sender : IsIn v W.nodes
  pub distinct : a.node ≡ v.node → ⊥
  pub since : List Record
  pub grown : v.journal ≡ K ++ since

-- ---- lists

-- where one of what is left of a list is in the list
pub record IsLeftAt {X : Type 0} (test : X → Bool) (xs done : List X) (x : X) : Type 0 where
  pub before : List X
  pub after : List X
  pub is : xs ≡ before ++ x ∷ after
  pub front : done ≡ filter test before

one_in_front : {X : Type 0} (test : X → Bool) (y x : X) (before : List X) → test y ≡ true → filter test (y ∷ before) ≡ y ∷ filter test before
one_in_front test y x before e = rw e refl

none_in_front : {X : Type 0} (test : X → Bool) (y : X) (before : List X) → test y ≡ false → filter test (y ∷ before) ≡ filter test before
none_in_front test y before e = rw e refl

pub left_at : {X : Type 0} (test : X → Bool) (xs done : List X) (x : X) (more : List X) → filter test xs ≡ done ++ x ∷ more → IsLeftAt test xs done x
left_at {X} test [] done x more e = absurd (none_splits done x more e)
left_at {X} test (y ∷ ys) done x more e = by_test (test y) refl e (left_at test ys) where
  by_test : (b : Bool) → test y ≡ b → cond b (y ∷ filter test ys) (filter test ys) ≡ done ++ x ∷ more → ((done : List X) (x : X) (more : List X) → filter test ys ≡ done ++ x ∷ more → IsLeftAt test ys done x) → IsLeftAt test (y ∷ ys) done x
  by_test true is e later = in_turn done e later where
    in_turn : (done : List X) → y ∷ filter test ys ≡ done ++ x ∷ more → ((done : List X) (x : X) (more : List X) → filter test ys ≡ done ++ x ∷ more → IsLeftAt test ys done x) → IsLeftAt test (y ∷ ys) done x
    in_turn [] e later = let same : y ≡ x = cc in record { before = []; after = ys; is = ap (λ (z : X). z ∷ ys) same; front = refl }
    in_turn (d ∷ done) e later =
        let same : y ≡ d = cc in
        let rest : filter test ys ≡ done ++ x ∷ more = cc in
        let l = later done x more rest in
        record { before = y ∷ l.before; after = l.after; is = ap (λ (zs : List X). y ∷ zs) l.is; front = ap (λ (z : X). z ∷ done) (sym same) ∙ ap (λ (zs : List X). y ∷ zs) l.front ∙ sym (one_in_front test y x l.before is) }
  by_test false is e later =
      let l = later done x more e in
      record { before = y ∷ l.before; after = l.after; is = ap (λ (zs : List X). y ∷ zs) l.is; front = l.front ∙ sym (none_in_front test y l.before is) }

-- ---- the two journals

module _ (W : World) (a v : Correct) (K : List Record) (m : Meeting W a v K) where
  -- the sender's journal was lawful
  pub sender_lawful : IsLawful (setting_of W v) K
  sender_lawful = lawful_front (setting_of W v) K m.since (subst (λ (J : List Record). IsLawful (setting_of W v) J) m.grown (journal_lawful W m.world v m.sender))

  pub reader_lawful : IsLawful (setting_of W a) a.journal
  reader_lawful = journal_lawful W m.world a m.reader

  -- what its records said they still say
  pub still_told : {X : Type 0} (f : Record → List X) (x : X) → IsIn x (flat_map f K) → IsIn x (flat_map f v.journal)
  still_told f x on = subst (λ (J : List Record). IsIn x (flat_map f J)) (sym m.grown) (flat_left f x K m.since on)

  -- what either accepted is a write of the world, and an id is that of one write
  pub sender_write : (u : Update) → IsIn u (accepted K) → IsIn u (writes_of W)
  sender_write u on = write_from W v u m.sender (still_told accepted_by u on)

  pub reader_write : (u : Update) → IsIn u (accepted a.journal) → IsIn u (writes_of W)
  reader_write u on = write_from W a u m.reader on

  pub one_of_writes : (t u : Update) → IsIn t (writes_of W) → IsIn u (writes_of W) → id_of_update t ≡ id_of_update u → t ≡ u
  one_of_writes t u t_on u_on e = one_write W m.world (one_text W m.free) t u t_on u_on e

  -- no proof of either names a correct node
  pub sender_spares : (p : Proof) (c : Correct) → IsIn p (flat_map proof_by K) → IsIn c W.nodes → accused p ≡ c.node → ⊥
  sender_spares p c on c_on named = (convicts_none W m.world m.authentic m.free).never c p c_on (in_left p _ W.judged (flat_gives (λ (d : Correct). flat_map proof_by d.journal) p v W.nodes m.sender (still_told proof_by p on))) named

  pub reader_spares : is_convicted a.journal v.node ≡ false
  reader_spares = false_from_ne_true (is_convicted a.journal v.node) (λ e.
      let p = convicted_by a.journal v.node e in
      (convicts_none W m.world m.authentic m.free).never v p.0 m.sender (in_left p.0 _ W.judged (flat_gives (λ (d : Correct). flat_map proof_by d.journal) p.0 a W.nodes m.reader p.1.0)) p.1.1)

  -- what the one has of the other is the other's own
  pub reader_authentic : (s : Signed) → IsIn s (foreign a.journal) → writer_of s.statement ≡ v.node → IsIn s.statement (own v.journal)
  reader_authentic s on writer = m.authentic.made s v (kept_in_world W a s m.reader on) m.sender writer

  pub sender_authentic : (s : Signed) → IsIn s (foreign K) → writer_of s.statement ≡ a.node → IsIn s.statement (own a.journal)
  sender_authentic s on writer = m.authentic.made s a (kept_in_world W v s m.sender (still_told foreign_by s on)) m.reader writer

  -- ---- what isn't sent

  -- what the sender has of the reader the reader has
  mine : (u : Update) → IsIn u (accepted K) → u.writer ≡ a.node → IsIn u (accepted a.journal)
  mine u on writer = elim (brought K u on) [
    | inl theirs ↦ absurd (m.distinct (sym writer ∙ own_writer (setting_of W v) K sender_lawful (statement.Update u) theirs))
    | inr s ↦ own_in_accepted u a.journal (subst (λ (x : Statement). IsIn x (own a.journal)) s.1.1 (sender_authentic s.0 s.1.0 (ap writer_of s.1.1 ∙ writer)))
  ]

  module _ (P later : List Record) (hello_was : a.journal ≡ P ++ later) where
    -- a leaf of the hello is an update of the reader
    leaf_is_had : (l : Update) → IsIn l (accepted K) → is_among (id_of_update l) (map (λ (x : HelloLeaf). x.id) (hello_at W a P).leaves) ≡ true → IsIn l (accepted a.journal)
    unfolding hello_of
    leaf_is_had l on e =
        let leaves = by_id (leaves_of (accepted P)) in
        let x = from_map (λ (x : HelloLeaf). x.id) (id_of_update l) (map named_leaf leaves) (among_to (id_of_update l) _ e) in
        let k = from_map named_leaf x.0 leaves x.1.0 in
        let k_had : IsIn k.0 (accepted a.journal) = subst (λ (J : List Record). IsIn k.0 (accepted J)) (sym hello_was) (flat_left accepted_by k.0 P later (leaf_is_on (accepted P) k.0 (from_by_id k.0 (leaves_of (accepted P)) k.1.0))) in
        let same : k.0 ≡ l = one_of_writes k.0 l (reader_write k.0 k_had) (sender_write l on) (ap (λ (y : HelloLeaf). y.id) k.1.1 ∙ x.1.1) in
        subst (λ (y : Update). IsIn y (accepted a.journal)) same k_had

    covered : (u : Update) → IsIn u (accepted K) → is_covered (accepted K) (map (λ (x : HelloLeaf). x.id) (hello_at W a P).leaves) u ≡ true → IsIn u (accepted a.journal)
    unfolding is_covered
    covered u on e =
        let us = accepted K in
        let vs = accepted a.journal in
        let l = any_to (λ (l : Update). is_among (id_of_update l) (map (λ (x : HelloLeaf). x.id) (hello_at W a P).leaves) && (bytes_eq (id_of_update u) (id_of_update l) || has_id (past l us) (id_of_update u))) us e in
        let both = and_parts (is_among (id_of_update l.0) (map (λ (x : HelloLeaf). x.id) (hello_at W a P).leaves)) _ l.1.1 in
        let l_had = leaf_is_had l.0 l.1.0 both.0 in
        elim (or_cases (bytes_eq (id_of_update u) (id_of_update l.0)) (has_id (past l.0 us) (id_of_update u)) both.1) [
          | inl here ↦ subst (λ (y : Update). IsIn y vs) (sym (one_of_writes u l.0 (sender_write u on) (sender_write l.0 l.1.0) ((bytes_eq-Decides (id_of_update u) (id_of_update l.0)).0 here))) l_had
          | inr there ↦
              let t = has_id_to (past l.0 us) (id_of_update u) there in
              let t_on = past_in l.0 us t.0 t.1.0 in
              let same : t.0 ≡ u = one_of_writes t.0 u (sender_write t.0 t_on) (sender_write u on) t.1.1 in
              let causal = lawful_is_causal (setting_of W a) a.journal reader_lawful in
              let over = past_over us vs l.0 (λ x y x_on y_on id. one_of_writes x y (sender_write x x_on) (reader_write y y_on) id) causal (λ h parent. own_parent vs l.0 h causal l_had parent) us (λ x x_on. x_on) t.0 t.1.0 in
              subst (λ (y : Update). IsIn y vs) same (past_in l.0 vs t.0 over)
        ]

    neither : (x y : Bool) → (not x && not y) ≡ false → (x ≡ true) ⊎ (y ≡ true)
    neither true y e = inl refl
    neither false true e = inr refl
    neither false false e = absurd cc

    -- an update of the sender that isn't a candidate the reader has
    pub not_sent : (u : Update) → IsIn u (accepted K) → is_candidate_for K (hello_at W a P) u ≡ false → IsIn u (accepted a.journal)
    unfolding hello_of
    not_sent u on e = elim (neither (u.writer == a.node) (is_covered (accepted K) (map (λ (x : HelloLeaf). x.id) (hello_at W a P).leaves) u) e) [
      | inl own ↦ mine u on (eqb-true _ _ own)
      | inr there ↦ covered u on there
    ]

    -- ---- parents of what is sent

    -- the update with this id is one that the reader has, or an earlier candidate
    pub record HasBefore (done : List Record) (h : List ℕ) : Type 0 where
      pub update : Update
      pub id : id_of_update update ≡ h
      pub on : IsIn update (accepted a.journal) ⊎ IsIn update (accepted done)

    -- each parent of a candidate the reader has, or a candidate before it brings it
    pub parents_first : (done : List Record) (r : Record) (rs : List Record) (u : Update) → candidates_for K (hello_at W a P) ≡ done ++ r ∷ rs → IsIn u (accepted_by r) → (h : List ℕ) → IsIn h (parents u) → HasBefore done h
    unfolding candidates
    parents_first done r rs u split given h parent =
        let hello = hello_at W a P in
        let l = left_at (has_candidate K (map (λ (x : HelloLeaf). x.id) hello.leaves) hello.node) K done r rs split in
        let may = (sender_lawful.each l.before r l.after l.is).may in
        let t = (record_joins (setting_of W v) l.before r u may given).there h parent in
        let t_on : IsIn t.update (accepted K) = subst (λ (J : List Record). IsIn t.update (accepted J)) (sym l.is) (flat_left accepted_by t.update l.before (r ∷ l.after) t.on) in
        record {
          update = t.update;
          id = t.id;
          on = elim (cases_Bool (is_candidate_for K hello t.update)) [
            | inr stays ↦ inl (not_sent t.update t_on stays)
            | inl goes ↦ inr (sent_before l.before t.update t.on goes done l.front)
          ];
        } where
          sent_before : (before : List Record) (t : Update) → IsIn t (accepted before) → is_candidate_for K (hello_at W a P) t ≡ true → (done : List Record) → done ≡ filter (has_candidate K (map (λ (x : HelloLeaf). x.id) (hello_at W a P).leaves) (hello_at W a P).node) before → IsIn t (accepted done)
          sent_before before t on goes done is =
              let test : Record → Bool = has_candidate K (map (λ (x : HelloLeaf). x.id) (hello_at W a P).leaves) (hello_at W a P).node in
              let g = given_by accepted_by t before on in
              subst (λ (J : List Record). IsIn t (accepted J)) (sym is)
              (flat_gives accepted_by t g.by (filter test before) (in_filter test g.by before (giver_in accepted_by t before g) (any_from (is_candidate_for K (hello_at W a P)) t (accepted_by g.by) g.given goes)) g.given)
