-- Where more nodes gave receipts for an update than are not correct, a correct node holds all of it.
use Rattle.std.proofs.Common.{◌≡◌, ℕ, ◌<◌, ◌≤◌, eqb, ◌==◌, true, false, not, List, [], ◌∷◌, length, map, Some, sym, ap, subst, ◌∙◌, inl, inr, arith}
use Rattle.std.specs.List.{filter, list_any}
use Rattle.std.proofs.lemmas.List.{length-map}
use Rattle.std.proofs.lemmas.Bool.{cases_Bool, eqb-true, both_ways, false_from_ne_true}
use Rattle.depot_base.specs.Statement.{writer_of}
use Rattle.depot_base.specs.declared.key.PublicKey.{PublicKey}
use Rattle.depot_base.specs.declared.key.RosterEntry.{RosterEntry}
use Rattle.depot_base.specs.declared.update.Update.{Update}
use Rattle.depot_model.specs.lists.Lists.{IsIn}
use Rattle.depot_model.specs.texts.Roster.{key_of, has_node}
use Rattle.depot_model.specs.journals.Journal.{accepted}
use Rattle.depot_model.specs.worlds.World.{Correct, World, setting_of, IsWorld, IsAuthentic}
use Rattle.depot_model.specs.worlds.Causality.{puts_of}
use Rattle.depot_model.proofs.lists.Members.{in_map, from_map, from_filter, in_filter, any_from, any_to}
use Rattle.depot_model.proofs.of_updates.NamedIds.{named_cases}
use Rattle.depot_laws.proofs.convicting.Contrary.{kept_is_genuine}
use Rattle.depot_laws.proofs.orders.ChainLaws.{brought}
use Rattle.depot_laws.proofs.own_updates.OwnSteps.{own_writer}
use Rattle.depot_base.specs.declared.statement.Statement.TheVariants as statement
use Rattle.depot_laws.proofs.records.Rosters.{key_from_has_node}
use Rattle.depot_laws.proofs.of_worlds.Worlds.{journal_lawful}
use Rattle.depot_laws.proofs.of_worlds.Exact.{put_by_writer}
use Rattle.depot_model.specs.worlds.Receipts.{gives_receipt, holders_in, receipts, HoldsAllOf, AreReceiptsTrue, is_node}
use Rattle.depot_laws.proofs.lists.RisingNumbers.{from_numbers, numbers_rise, rising_apart, no_more}
use Rattle.depot_laws.proofs.of_audits.TrueReceipts.{receipt_speaks}

-- ---- the roster

entry_with : (es : List RosterEntry) (n : ℕ) (key : PublicKey) → key_of es n ≡ Some key → IsIn n (map (λ e. e.node) es)
unfolding key_of
entry_with [] n key e = absurd cc
entry_with (x ∷ xs) n key e = elim (named_cases (eqb x.node n) x.key key (key_of xs n) e) [
  | inl here ↦ inl (eqb-true x.node n here.0)
  | inr there ↦ inr (entry_with xs n key there)
]

-- a node of the roster is in it
pub in_roster : (listed : List RosterEntry) (n : ℕ) → has_node listed n ≡ true → IsIn n (map (λ e. e.node) listed)
in_roster listed n e = let k = key_from_has_node listed n e in entry_with listed n k.0 k.1

-- ---- who gave receipts

-- a node that gave a receipt, and its update
pub record GaveOne (us : List Update) (h : List ℕ) (n : ℕ) : Type 0 where
  pub update : Update
  pub on : IsIn update us
  pub gives : gives_receipt h update ≡ true
  pub writer : update.writer ≡ n

pub holder_gave : (us : List Update) (h : List ℕ) (n : ℕ) → IsIn n (holders_in us h) → GaveOne us h n
holder_gave us h n on =
    let w = from_map (λ (u : Update). u.writer) n (filter (gives_receipt h) us) (from_numbers n (map (λ (u : Update). u.writer) (filter (gives_receipt h) us)) on) in
    let f = from_filter (gives_receipt h) w.0 us w.1.0 in
    record { update = w.0; on = f.0; gives = f.1; writer = w.1.1 }

module _ (W : World) (world : IsWorld W) where
  -- whoever wrote an accepted update is a node of the roster
  pub writer_listed : (c : Correct) (u : Update) → IsIn c W.nodes → IsIn u (accepted c.journal) → has_node W.listed u.writer ≡ true
  writer_listed c u c_on on = elim (brought c.journal u on) [
    | inl mine ↦ subst (λ (n : ℕ). has_node W.listed n ≡ true) (sym (own_writer (setting_of W c) c.journal (journal_lawful W world c c_on) (statement.Update u) mine)) (world.correct c c_on).member
    | inr s ↦ subst (λ (n : ℕ). has_node W.listed n ≡ true) (ap writer_of s.1.1) (kept_is_genuine (setting_of W c) c.journal s.0 (journal_lawful W world c c_on) s.1.0).known
  ]

  -- ---- one of them is correct

  -- the entries of the roster that are no correct nodes
  others : List RosterEntry
  others = filter (λ e. not (is_node W e.node)) W.listed

  -- a node of the roster that isn't correct is one of these
  in_others : (n : ℕ) → IsIn n (map (λ e. e.node) W.listed) → is_node W n ≡ false → IsIn n (map (λ e. e.node) others)
  unfolding others
  in_others n on other =
      let e = from_map (λ (e : RosterEntry). e.node) n W.listed on in
      let left = in_filter (λ (e : RosterEntry). not (is_node W e.node)) e.0 W.listed e.1.0 (ap not (ap (is_node W) e.1.1 ∙ other)) in
      subst (λ (m : ℕ). IsIn m (map (λ (e : RosterEntry). e.node) (filter (λ (e : RosterEntry). not (is_node W e.node)) W.listed))) e.1.1 (in_map (λ (e : RosterEntry). e.node) e.0 _ left)

  -- of more holders than there are nodes of the roster that aren't correct, one is
  correct_holder : (c : Correct) (h : List ℕ) (k : ℕ) → IsIn c W.nodes → length (filter (λ e. not (is_node W e.node)) W.listed) < k → k ≤ length (receipts c.journal h) → list_any (is_node W) (receipts c.journal h) ≡ true
  unfolding others
  correct_holder c h k c_on few many = elim (cases_Bool (list_any (is_node W) (receipts c.journal h))) [
    | inl one ↦ one
    | inr none ↦
        let ns = receipts c.journal h in
        let ys = map (λ (e : RosterEntry). e.node) (filter (λ (e : RosterEntry). not (is_node W e.node)) W.listed) in
        let short : length ns ≤ length ys = no_more ns ys (rising_apart ns (numbers_rise (map (λ (u : Update). u.writer) (filter (gives_receipt h) (accepted c.journal))))) (λ n n_on.
        let g = holder_gave (accepted c.journal) h n n_on in
        in_others n (in_roster W.listed n (subst (λ (m : ℕ). has_node W.listed m ≡ true) g.writer (writer_listed c g.update c_on g.on)))
        (false_from_ne_true (is_node W n) (λ is. both_ways (list_any (is_node W) ns) none (any_from (is_node W) n ns n_on is)))) in
        absurd (omega (arith, few, many, short, length-map (filter (λ (e : RosterEntry). not (is_node W e.node)) W.listed) (λ (e : RosterEntry). e.node)))
  ]

  -- so a correct node holds all of the update
  pub settled : (c : Correct) (h : List ℕ) (k : ℕ) → IsAuthentic W → ((d : Correct) → IsIn d W.nodes → AreReceiptsTrue d.journal) → length (filter (λ e. not (is_node W e.node)) W.listed) < k → IsIn c W.nodes → length h ≡ 32
      → k ≤ length (receipts c.journal h) → (d : Correct) × (IsIn d W.nodes × HoldsAllOf d.journal h)
  settled c h k authentic genuine few c_on long many =
      let r = any_to (is_node W) (receipts c.journal h) (correct_holder c h k c_on few many) in
      let g = holder_gave (accepted c.journal) h r.0 r.1.0 in
      let d = any_to (λ (d : Correct). d.node == r.0) W.nodes r.1.1 in
      let mine : IsIn g.update (puts_of d.0.journal) = put_by_writer W world authentic c d.0 g.update c_on d.1.0 g.on (g.writer ∙ sym (eqb-true d.0.node r.0 d.1.1)) in
      (d.0, (d.1.0, receipt_speaks d.0.journal g.update h (genuine d.0 d.1.0) mine long g.gives))
