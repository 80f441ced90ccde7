-- What a node that asks has, by its hello: what isn't sent it has, and it has the parents of what is sent, or they come
-- before.
use Rattle.std.proofs.Common.{◌≡◌, ℕ, ◌==◌, List, ◌∷◌, ◌++◌, map, Bool, true, false, not, ◌&&◌, ◌||◌, refl, sym, ap, subst, ◌∙◌, inl, inr, ◌⊎◌}
use Rattle.std.specs.List.{filter}
use Rattle.std.specs.Str.{bytes_eq}
use Rattle.std.proofs.lemmas.Slice.Eq.{bytes_eq-Decides}
use Rattle.std.proofs.lemmas.Bool.{eqb-true, cases_Bool, and_parts, or_cases}
use Rattle.depot_base.specs.Statement.{writer_of}
use Rattle.depot_base.specs.declared.record.Record.{Record}
use Rattle.depot_base.specs.declared.statement.Statement.{Statement}
use Rattle.depot_base.specs.declared.statement.Statement.TheVariants as statement
use Rattle.depot_base.specs.declared.update.Update.{Update}
use Rattle.depot_model.specs.declared.hello.Hello.{Hello}
use Rattle.depot_model.specs.declared.hello.HelloLeaf.{HelloLeaf}
use Rattle.depot_model.specs.exchange.Bundle.{candidates, has_candidate, is_covered}
use Rattle.depot_model.specs.journals.Journal.{accepted, accepted_by, has_id, own}
use Rattle.depot_model.specs.lists.Lists.{IsIn, is_among}
use Rattle.depot_model.specs.texts.Texts.{id_of_update}
use Rattle.depot_model.specs.updates.Order.{parents, past}
use Rattle.depot_model.specs.worlds.World.{Correct, World, setting_of}
use Rattle.depot_model.proofs.lists.Members.{among_to, any_from, any_to, from_map, in_filter}
use Rattle.depot_model.proofs.of_updates.NamedIds.{has_id_to}
use Rattle.depot_model.proofs.of_updates.Pasts.{past_in}
use Rattle.depot_laws.proofs.exchanges.Meetings.{Meeting, left_at, one_of_writes, reader_lawful, reader_write, sender_authentic, sender_lawful, sender_write}
use Rattle.depot_laws.proofs.exchanges.Parcels.{candidates_for, is_candidate_for}
use Rattle.depot_laws.proofs.lists.Splits.{flat_gives, flat_left, given_by}
use Rattle.depot_laws.proofs.of_worlds.Worlds.{giver_in}
use Rattle.depot_laws.proofs.orders.ChainLaws.{brought}
use Rattle.depot_laws.proofs.orders.SamePasts.{own_parent, past_over}
use Rattle.depot_laws.proofs.own_updates.OwnSteps.{own_writer}
use Rattle.depot_laws.proofs.records.Causes.{lawful_is_causal, own_in_accepted, record_joins}
use Rattle.depot_gossip.specs.AskingAgain.{IsHelloOf}

-- the ids that a hello names
abbrev pub ids_in : Hello → List (List ℕ)
ids_in h = map (λ (l : HelloLeaf). l.id) h.leaves

module _ (W : World) (a v : Correct) (K : List Record) (m : Meeting W a v K) (h : Hello) (asks : IsHelloOf a h) where
  -- ---- what isn't sent

  -- what the asked one has of the asker the asker has
  mine : (u : Update) → IsIn u (accepted K) → u.writer ≡ a.node → IsIn u (accepted a.journal)
  mine u on writer = elim (brought K u on) [
    | inl theirs ↦ absurd (m.distinct (sym writer ∙ own_writer (setting_of W v) K (sender_lawful W a v K m) (statement.Update u) theirs))
    | inr s ↦ own_in_accepted u a.journal (subst (λ (x : Statement). IsIn x (own a.journal)) s.1.1 (sender_authentic W a v K m s.0 s.1.0 (ap writer_of s.1.1 ∙ writer)))
  ]

  -- what the hello names the asker has
  named_is_had : (l : Update) → IsIn l (accepted K) → is_among (id_of_update l) (ids_in h) ≡ true → IsIn l (accepted a.journal)
  named_is_had l on e =
      let x = from_map (λ (x : HelloLeaf). x.id) (id_of_update l) h.leaves (among_to (id_of_update l) (ids_in h) e) in
      let k = asks.names x.0 x.1.0 in
      let same : k.0 ≡ l = one_of_writes W a v K m k.0 l (reader_write W a v K m k.0 k.1.0) (sender_write W a v K m l on) (ap (λ (y : HelloLeaf). y.id) k.1.1 ∙ x.1.1) in
      subst (λ (y : Update). IsIn y (accepted a.journal)) same k.1.0

  covered : (u : Update) → IsIn u (accepted K) → is_covered (accepted K) (ids_in h) u ≡ true → IsIn u (accepted a.journal)
  unfolding is_covered
  covered u on e =
      let us = accepted K in
      let vs = accepted a.journal in
      let l = any_to (λ (l : Update). is_among (id_of_update l) (ids_in h) && (bytes_eq (id_of_update u) (id_of_update l) || has_id (past l us) (id_of_update u))) us e in
      let both = and_parts (is_among (id_of_update l.0) (ids_in h)) _ l.1.1 in
      let l_had = named_is_had l.0 l.1.0 both.0 in
      elim (or_cases (bytes_eq (id_of_update u) (id_of_update l.0)) (has_id (past l.0 us) (id_of_update u)) both.1) [
        | inl here ↦ subst (λ (y : Update). IsIn y vs) (sym (one_of_writes W a v K m u l.0 (sender_write W a v K m u on) (sender_write W a v K m l.0 l.1.0) ((bytes_eq-Decides (id_of_update u) (id_of_update l.0)).0 here))) l_had
        | inr there ↦
            let t = has_id_to (past l.0 us) (id_of_update u) there in
            let t_on = past_in l.0 us t.0 t.1.0 in
            let same : t.0 ≡ u = one_of_writes W a v K m t.0 u (sender_write W a v K m t.0 t_on) (sender_write W a v K m u on) t.1.1 in
            let causal = lawful_is_causal (setting_of W a) a.journal (reader_lawful W a v K m) in
            let over = past_over us vs l.0 (λ x y x_on y_on id. one_of_writes W a v K m x y (sender_write W a v K m x x_on) (reader_write W a v K m y y_on) id) causal (λ p parent. own_parent vs l.0 p causal l_had parent) us (λ x x_on. x_on) t.0 t.1.0 in
            subst (λ (y : Update). IsIn y vs) same (past_in l.0 vs t.0 over)
      ]

  neither : (x y : Bool) → (not x && not y) ≡ false → (x ≡ true) ⊎ (y ≡ true)
  neither true y e = inl refl
  neither false true e = inr refl
  neither false false e = absurd cc

  -- an update of the asked one that isn't a candidate the asker has
  pub spared_is_had : (u : Update) → IsIn u (accepted K) → is_candidate_for K h u ≡ false → IsIn u (accepted a.journal)
  spared_is_had u on e = elim (neither (u.writer == h.node) (is_covered (accepted K) (ids_in h) u) e) [
    | inl own ↦ mine u on (eqb-true _ _ own ∙ asks.node)
    | inr there ↦ covered u on there
  ]

  -- ---- parents of what is sent

  -- the update with this id is one that the asker has, or an earlier candidate
  pub record HasEarlier (done : List Record) (id : List ℕ) : Type 0 where
    pub update : Update
    pub is : id_of_update update ≡ id
    pub on : IsIn update (accepted a.journal) ⊎ IsIn update (accepted done)

  -- each parent of a candidate the asker has, or a candidate before it brings it
  pub parents_earlier : (done : List Record) (r : Record) (rs : List Record) (u : Update) → candidates_for K h ≡ done ++ r ∷ rs → IsIn u (accepted_by r) → (id : List ℕ) → IsIn id (parents u) → HasEarlier done id
  unfolding candidates
  parents_earlier done r rs u split given id parent =
      let l = left_at (has_candidate K (ids_in h) h.node) K done r rs split in
      let may = ((sender_lawful W a v K m).each l.before r l.after l.is).may in
      let t = (record_joins (setting_of W v) l.before r u may given).there id parent in
      let t_on : IsIn t.update (accepted K) = subst (λ (J : List Record). IsIn t.update (accepted J)) (sym l.is) (flat_left accepted_by t.update l.before (r ∷ l.after) t.on) in
      record {
        update = t.update;
        is = t.id;
        on = elim (cases_Bool (is_candidate_for K h t.update)) [
          | inr stays ↦ inl (spared_is_had t.update t_on stays)
          | inl goes ↦ inr (sent_before l.before t.update t.on goes done l.front)
        ];
      } where
        sent_before : (before : List Record) (t : Update) → IsIn t (accepted before) → is_candidate_for K h t ≡ true → (done : List Record) → done ≡ filter (has_candidate K (ids_in h) h.node) before → IsIn t (accepted done)
        sent_before before t on goes done is =
            let test : Record → Bool = has_candidate K (ids_in h) h.node in
            let g = given_by accepted_by t before on in
            subst (λ (J : List Record). IsIn t (accepted J)) (sym is)
            (flat_gives accepted_by t g.by (filter test before) (in_filter test g.by before (giver_in accepted_by t before g) (any_from (is_candidate_for K h) t (accepted_by g.by) g.given goes)) g.given)
