-- The past of an update, and what is seen of it, are the same in all lists that have its parents.
use Rattle.std.proofs.Common.{◌≡◌, ℕ, List, [], ◌∷◌, ◌++◌, map, length, take, Bool, true, false, cond, Option, Some, None, sym, ap, subst, ◌∙◌, inl, inr}
use Rattle.std.proofs.Math.Seq.{take-append_seam}
use Rattle.depot_base.specs.declared.update.Update.{Update}
use Rattle.depot_base.specs.declared.update.Dep.{Dep}
use Rattle.depot_base.specs.declared.statement.Statement.TheVariants as statement
use Rattle.depot_base.specs.declared.record.Record.{Record}
use Rattle.depot_base.specs.declared.record.Record.TheVariants.{OwnPut}
use Rattle.depot_model.specs.lists.Lists.{IsIn, is_among, first}
use Rattle.depot_model.specs.texts.Texts.{id_of_update}
use Rattle.depot_model.specs.updates.Order.{prevs, parents, is_named, past, IsCausal}
use Rattle.depot_model.specs.updates.History.{history_hash}
use Rattle.depot_model.specs.journals.Journal.{accepted, accepted_by, has_id, named}
use Rattle.depot_model.specs.checks.Checks.{Sight, sight, content_checks, content_of}
use Rattle.depot_model.specs.journals.Lawful.{MayPut}
use Rattle.depot_model.proofs.lists.Members.{all_at, all_from, map_same, any_to, among_to, chosen_cases}
use Rattle.depot_model.proofs.of_updates.Orders.{parent_is_there}
use Rattle.depot_model.proofs.of_updates.Pasts.{past_in, past_takes}
use Rattle.depot_model.specs.worlds.World.{Correct, World, setting_of, IsWorld, IsCollisionFree}
use Rattle.depot_laws.specs.Parents.{HasParents}
use Rattle.depot_laws.proofs.lists.Splits.{lawful_before}
use Rattle.depot_model.proofs.of_updates.NamedIds.{has_id_from, has_id_to, named_some}
use Rattle.depot_laws.proofs.records.Taken.{HasId}
use Rattle.depot_laws.proofs.records.Causes.{own_joins, lawful_is_causal}
use Rattle.depot_model.proofs.lists.RisingUpdates.{HaveOwnIds, own_ids_from_causal}
use Rattle.depot_laws.proofs.orders.Follows.{prev_is_parent, entry_is_parent}
use Rattle.depot_laws.proofs.own_updates.OwnContent.{own_passes}
use Rattle.depot_model.proofs.lists.RisingLists.{HaveSame}
use Rattle.depot_laws.proofs.orders.Histories.{same_history}
use Rattle.depot_laws.proofs.of_worlds.Worlds.{one_text, taken_in, write_from, journal_lawful, taken_lawful, one_write}
use Rattle.depot_laws.proofs.own_updates.Nexts.{next_of}

-- ---- two lists

-- an id that both have is that of one update
abbrev pub AgreeOnIds : List Update → List Update → Type 0
AgreeOnIds us vs = (t u : Update) → IsIn t us → IsIn u vs → id_of_update t ≡ id_of_update u → t ≡ u

-- each parent of u is one of these
abbrev pub AreThere : List Update → Update → Type 0
AreThere us u = (h : List ℕ) → IsIn h (parents u) → HasId us h

-- a parent of an update whose past both have is in that past
parent_over : (us vs : List Update) (u t w : Update) → AgreeOnIds us vs → IsCausal [] vs → IsIn t us → HasId vs (id_of_update t) → IsIn w (u ∷ past u vs) → IsIn (id_of_update t) (parents w) → IsIn t (past u vs)
parent_over us vs u t w agree c on there w_on parent = past_takes [] u vs t w c (subst (λ (x : Update). IsIn x vs) (sym (agree t there.update on there.on (sym there.id))) there.on) w_on parent

-- the parent that a list has of one of its own
pub own_parent : (vs : List Update) (w : Update) (h : List ℕ) → IsCausal [] vs → IsIn w vs → IsIn h (parents w) → HasId vs h
own_parent vs w h c on parent = elim (parent_is_there [] vs w h c on parent) [
  | inl never ↦ absurd never
  | inr t ↦ record { update = t.0; on = t.1.0; id = t.1.1 }
]

-- what is in the past in one list is in the past in the other
pub past_over : (us vs : List Update) (u : Update) → AgreeOnIds us vs → IsCausal [] vs → AreThere vs u → (xs : List Update) → ((t : Update) → IsIn t xs → IsIn t us) → (t : Update) → IsIn t (past u xs) → IsIn t (past u vs)
unfolding past
past_over us vs u agree c there [] known t never = absurd never
past_over us vs u agree c there (x ∷ xs) known t on =
    let rest : (w : Update) → IsIn w (past u xs) → IsIn w (past u vs) = past_over us vs u agree c there xs (λ w w_on. known w (inr w_on)) in
    elim (chosen_cases (is_named x (u ∷ past u xs)) t x (past u xs) on) [
      | inr later ↦ rest t later
      | inl here ↦
          let child = any_to (λ (w : Update). is_among (id_of_update x) (parents w)) (u ∷ past u xs) here.0 in
          let named : IsIn (id_of_update t) (parents child.0) = subst (λ (y : Update). IsIn (id_of_update y) (parents child.0)) here.1 (among_to (id_of_update x) (parents child.0) child.1.1) in
          let t_on = known t (inl here.1) in
          elim child.1.0 [
            | inl same ↦ parent_over us vs u t child.0 agree c t_on (there (id_of_update t) (subst (λ (y : Update). IsIn (id_of_update t) (parents y)) (sym same) named)) (inl same) named
            | inr behind ↦ let w_on = rest child.0 behind in parent_over us vs u t child.0 agree c t_on (own_parent vs child.0 (id_of_update t) c (past_in u vs child.0 w_on) named) (inr w_on) named
          ]
    ]

-- the past is the same
pub same_past : (us vs : List Update) (u : Update) → AgreeOnIds us vs → IsCausal [] us → IsCausal [] vs → AreThere us u → AreThere vs u → HaveSame (past u us) (past u vs)
same_past us vs u agree c_u c_v there_u there_v = record {
  to = past_over us vs u agree c_v there_v us (λ t on. on);
  back = past_over vs us u (λ t w t_on w_on e. sym (agree w t w_on t_on (sym e))) c_u there_u vs (λ t on. on);
}

past_apart : (u : Update) (us : List Update) → HaveOwnIds us → HaveOwnIds (past u us)
unfolding past
past_apart u [] apart = tt
past_apart u (x ∷ xs) apart = choice (is_named x (u ∷ past u xs)) (past_apart u xs apart.1) where
  choice : (b : Bool) → HaveOwnIds (past u xs) → HaveOwnIds (cond b (x ∷ past u xs) (past u xs))
  choice true rest = (all_from (λ (t : Update). id_of_update t ≡ id_of_update x → ⊥) (past u xs) (λ t on. all_at (λ (t : Update). id_of_update t ≡ id_of_update x → ⊥) xs t apart.0 (past_in u xs t on)), rest)
  choice false rest = rest

-- a parent's id names one update
same_named : (us vs : List Update) (u : Update) (h : List ℕ) → AgreeOnIds us vs → IsCausal [] us → IsCausal [] vs → AreThere us u → AreThere vs u → IsIn h (parents u) → named us h ≡ named vs h
same_named us vs u h agree c_u c_v there_u there_v on =
    let a = there_u h on in
    let b = there_v h on in
    let same = agree a.update b.update a.on b.on (a.id ∙ sym b.id) in
    named_some [] us h a.update c_u a.on a.id ∙ ap Some same ∙ sym (named_some [] vs h b.update c_v b.on b.id)

-- what is seen is the same
pub same_sight : (us vs : List Update) (u : Update) → AgreeOnIds us vs → IsCausal [] us → IsCausal [] vs → AreThere us u → AreThere vs u → sight us u ≡ sight vs u
unfolding sight
same_sight us vs u agree c_u c_v there_u there_v =
    let one : (h : List ℕ) → IsIn h (parents u) → named us h ≡ named vs h = λ h on. same_named us vs u h agree c_u c_v there_u there_v on in
    let before : map (named us) (prevs u) ≡ map (named vs) (prevs u) = map_same (named us) (named vs) (prevs u) (λ h on. one h (prev_is_parent u h on)) in
    let entries : map (λ (d : Dep). (d, named us d.id)) u.deps ≡ map (λ (d : Dep). (d, named vs d.id)) u.deps = map_same (λ (d : Dep). (d, named us d.id)) (λ (d : Dep). (d, named vs d.id)) u.deps (λ d on. ap (λ (o : Option Update). (d, o)) (one d.id (entry_is_parent u d on))) in
    let history : history_hash (past u us) ≡ history_hash (past u vs) = same_history (past u us) (past u vs) (past_apart u us (own_ids_from_causal [] us c_u)) (past_apart u vs (own_ids_from_causal [] vs c_v)) (same_past us vs u agree c_u c_v there_u there_v) in
    same_parts _ _ _ _ _ _ before entries history where
      made : List (Option Update) → List (Dep × Option Update) → List ℕ → Sight
      made b e h = record { before = b; entries = e; history = h }

      same_parts : (b c : List (Option Update)) (d e : List (Dep × Option Update)) (h k : List ℕ) → b ≡ c → d ≡ e → h ≡ k → made b d h ≡ made c e k
      same_parts b c d e h k one two three = cc

-- ---- two nodes of a world

pub are_there : (J : List Record) (u : Update) → HasParents J u → AreThere (accepted J) u
are_there J u all h on =
    let t = has_id_to (accepted J) h (all_at (λ (k : List ℕ). has_id (accepted J) k ≡ true) (parents u) h all on) in
    record { update = t.0; on = t.1.0; id = t.1.1 }

module _ (W : World) (world : IsWorld W) (free : IsCollisionFree W) (c d : Correct) (c_on : IsIn c W.nodes) (d_on : IsIn d W.nodes) (m n : ℕ) where
  agree_on_ids : AgreeOnIds (accepted (take m c.journal)) (accepted (take n d.journal))
  agree_on_ids t u t_on u_on e = one_write W world (one_text W free) t u (write_from W c t c_on (taken_in accepted_by t m c.journal t_on)) (write_from W d u d_on (taken_in accepted_by u n d.journal u_on)) e

  module _ (u : Update) (there_c : HasParents (take m c.journal) u) (there_d : HasParents (take n d.journal) u) where
    pub pasts_agree : HaveSame (past u (accepted (take m c.journal))) (past u (accepted (take n d.journal)))
    pasts_agree = same_past (accepted (take m c.journal)) (accepted (take n d.journal)) u agree_on_ids
        (lawful_is_causal (setting_of W c) (take m c.journal) (taken_lawful W world c m c_on)) (lawful_is_causal (setting_of W d) (take n d.journal) (taken_lawful W world d n d_on))
        (are_there (take m c.journal) u there_c) (are_there (take n d.journal) u there_d)

    pub sights_agree : sight (accepted (take m c.journal)) u ≡ sight (accepted (take n d.journal)) u
    sights_agree = same_sight (accepted (take m c.journal)) (accepted (take n d.journal)) u agree_on_ids
        (lawful_is_causal (setting_of W c) (take m c.journal) (taken_lawful W world c m c_on)) (lawful_is_causal (setting_of W d) (take n d.journal) (taken_lawful W world d n d_on))
        (are_there (take m c.journal) u there_c) (are_there (take n d.journal) u there_d)

    pub contents_agree : content_of (take m c.journal) (statement.Update u) ≡ content_of (take n d.journal) (statement.Update u)
    contents_agree = ap (content_checks u) sights_agree

-- ---- an own update at another node

has_parents : (J : List Record) (u : Update) → AreThere (accepted J) u → HasParents J u
has_parents J u there = all_from (λ (h : List ℕ). has_id (accepted J) h ≡ true) (parents u) (λ h on. let t = there h on in has_id_from (accepted J) h t.update t.on t.id)

-- what a correct node put passes the checks of its content wherever its parents are accepted
pub own_passes_there : (W : World) (c d : Correct) (before : List Record) (u : Update) (values : List (List ℕ)) (after : List Record) (n : ℕ) → IsWorld W → IsCollisionFree W → IsIn c W.nodes → IsIn d W.nodes → c.journal ≡ before ++ OwnPut u values ∷ after → HasParents (take n d.journal) u
    → first (content_of (take n d.journal) (statement.Update u)) ≡ None
own_passes_there W c d before u values after n world free c_on d_on is there =
    let here = setting_of W c in
    let may : MayPut here before u values = ((journal_lawful W world c c_on).each before (OwnPut u values) after is).may in
    let lawful = lawful_before here c.journal before (OwnPut u values) after (journal_lawful W world c c_on) is in
    let front : take (length before) c.journal ≡ before = ap (take (length before)) is ∙ take-append_seam before (OwnPut u values ∷ after) in
    let mine = has_parents before u (own_joins c.node before u (next_of may) may.fresh).there in
    let same = contents_agree W world free c d c_on d_on (length before) n u (subst (λ (J : List Record). HasParents J u) (sym front) mine) there in
    ap first (sym same ∙ ap (λ (J : List Record). content_of J (statement.Update u)) front) ∙ own_passes here before u lawful (next_of may) may.fresh
