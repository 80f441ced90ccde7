-- Rounds one after another end with all that the asked one had at first.
use Rattle.std.proofs.Common.{◌≡◌, ℕ, suc, zero, ◌-◌, ◌<◌, ◌≤◌, List, [], ◌∷◌, ◌++◌, length, true, false, not, sym, ap, subst, ◌∙◌, inl, inr, arith, append_assoc}
use Rattle.std.specs.List.{AllByRecursion}
use Rattle.std.proofs.lemmas.Bool.{cases_Bool, false_from_ne_true}
use Rattle.std.proofs.lemmas.List.{append-nil}
use Rattle.depot_base.specs.declared.record.Record.{Record}
use Rattle.depot_base.specs.declared.update.Update.{Update}
use Rattle.depot_model.specs.journals.Journal.{accepted, accepted_by, has_id}
use Rattle.depot_model.specs.lists.Lists.{IsIn, is_among}
use Rattle.depot_model.specs.texts.Texts.{id_of_update}
use Rattle.depot_model.specs.updates.History.{is_prev_in, leaves_of}
use Rattle.depot_model.specs.updates.Order.{prevs}
use Rattle.depot_model.specs.worlds.World.{writes_of}
use Rattle.depot_model.proofs.lists.Members.{any_from, any_to, from_filter, in_filter}
use Rattle.depot_model.proofs.of_updates.NamedIds.{has_id_to}
use Rattle.depot_laws.proofs.exchanges.Meetings.{one_of_writes, reader_write, sender_write}
use Rattle.depot_laws.proofs.lists.Splits.{flat_left}
use Rattle.depot_laws.proofs.lists.Tests.{fails_from_not}
use Rattle.depot_laws.proofs.records.Causes.{leaf_is_on}
use Rattle.depot_gossip.specs.AskingAgain.{AreGoodRounds, AreRounds, CatchUp, CatchUpFromBehind, HearsNoOther, IsBehind, IsNextRound, IsRound, MakesProgress, Round, last_round, missing_of, round_fed}
use Rattle.depot_gossip.proofs.AskingProgress.{behind_covers, is_leaf, lacks, missing_less, progress}
use Rattle.depot_gossip.proofs.RoundTaken.{before_new, taken_round}

-- ---- rounds

first_is_round : (r : Round) (rs : List Round) → AreRounds r rs → IsRound r
first_is_round r [] are = are
first_is_round r (s ∷ rs) are = are.0

last_is_round : (r : Round) (rs : List Round) → AreRounds r rs → IsRound (last_round r rs)
last_is_round r [] are = are
last_is_round r (s ∷ rs) are = last_is_round s rs are.1.1

-- what the asked one had it still has
had_at_last : (r : Round) (rs : List Round) → AreRounds r rs → (u : Update) → IsIn u (accepted r.records) → IsIn u (accepted (last_round r rs).records)
had_at_last r [] are u on = on
had_at_last r (s ∷ rs) are u on = had_at_last s rs are.1.1 u (subst (λ (J : List Record). IsIn u (accepted J)) (sym are.1.0.asked) (flat_left accepted_by u r.records are.1.0.since on))

-- ---- fewer and fewer

one_less : (before after : ℕ) → after ≤ before → (0 < before → after < before) → after ≤ before - 1
one_less zero after less fewer = omega (arith, less)
one_less (suc n) after less fewer = omega (arith, fewer (omega arith))

round_less : (us : List Update) (r : Round) → IsRound r → MakesProgress us r → length (missing_of us (round_fed r).journal) ≤ length (missing_of us r.asker.journal) - 1
round_less us r is makes = one_less (length (missing_of us r.asker.journal)) (length (missing_of us (round_fed r).journal)) (missing_less us r.asker.journal (round_fed r).journal (taken_round r is).kept) makes

-- after so many rounds so many fewer are missing
rounds_less : (us : List Update) (r : Round) (rs : List Round) → AreRounds r rs → AllByRecursion (MakesProgress us) (r ∷ rs) → length (missing_of us (round_fed (last_round r rs)).journal) ≤ length (missing_of us r.asker.journal) - length (r ∷ rs)
rounds_less us r [] are makes = omega (arith, round_less us r are makes.0)
rounds_less us r (s ∷ rs) are makes =
    let now = round_less us r are.0 makes.0 in
    let next = missing_less us (round_fed r).journal s.asker.journal (λ u on. subst (λ (J : List Record). IsIn u (accepted J)) (sym are.1.0.asker) (flat_left accepted_by u (round_fed r).journal are.1.0.later on)) in
    let rest = rounds_less us s rs are.1.1 makes.1 in
    omega (arith, now, next, rest)

none_missing : (us : List Update) (J : List Record) (u : Update) → length (missing_of us J) ≤ 0 → IsIn u us → has_id (accepted J) (id_of_update u) ≡ true
none_missing us J u none on = elim (cases_Bool (has_id (accepted J) (id_of_update u))) [
  | inl has ↦ has
  | inr lacking ↦ absurd (not_empty (missing_of us J) (in_filter (lacks J) u us on (ap not lacking)) none)
] where
  not_empty : (xs : List Update) → IsIn u xs → length xs ≤ 0 → ⊥
  not_empty [] never short = never
  not_empty (x ∷ xs) there short = omega (arith, short)

-- an update of the asked one whose id the asker has at last is the one that it has
had_by_id : (r : Round) → IsRound r → (u : Update) → IsIn u (accepted r.records) → has_id (accepted (round_fed r).journal) (id_of_update u) ≡ true → IsIn u (accepted (round_fed r).journal)
had_by_id r is u on has =
    let m = before_new r is in
    let t = has_id_to (accepted (round_fed r).journal) (id_of_update u) has in
    let write : IsIn t.0 (writes_of r.world) = elim ((taken_round r is).only t.0 t.1.0) [
      | inl mine ↦ reader_write r.world r.asker r.asked r.records m t.0 mine
      | inr theirs ↦ sender_write r.world r.asker r.asked r.records m t.0 theirs
    ] in
    subst (λ (x : Update). IsIn x (accepted (round_fed r).journal)) (one_of_writes r.world r.asker r.asked r.records m t.0 u write (sender_write r.world r.asker r.asked r.records m u on) t.1.1) t.1.0

pub catch_up : (r : Round) (rs : List Round) → AreRounds r rs → CatchUp r rs
catch_up r rs are makes enough u on =
    let us = accepted r.records in
    let last = last_round r rs in
    let none : length (missing_of us (round_fed last).journal) ≤ 0 = omega (arith, rounds_less us r rs are makes, enough) in
    had_by_id last (last_is_round r rs are) u (had_at_last r rs are u on) (none_missing us (round_fed last).journal u none on)

-- ---- an asker that stays behind

not_prev : (us vs : List Update) (t : Update) → ((u : Update) → IsIn u us → IsIn u vs) → is_prev_in vs (id_of_update t) ≡ false → is_prev_in us (id_of_update t) ≡ false
not_prev us vs t within last = false_from_ne_true _ (λ e.
    let w = any_to (λ (x : Update). is_among (id_of_update t) (prevs x)) us e in
    let clash : true ≡ false = sym (any_from (λ (x : Update). is_among (id_of_update t) (prevs x)) w.0 vs (within w.0 w.1.0) w.1.1) ∙ last in
    cc)

leaf_is_last : (us : List Update) (t : Update) → IsIn t (leaves_of us) → is_prev_in us (id_of_update t) ≡ false
unfolding leaves_of
leaf_is_last us t on = fails_from_not _ (from_filter (λ (x : Update). not (is_prev_in us (id_of_update x))) t us on).1

pub stays_behind : (r s : Round) → IsRound r → IsBehind r → IsNextRound r s → HearsNoOther r s → IsBehind s
stays_behind r s is behind next alone t leaf other =
    let now = accepted s.asker.journal in
    let last = leaf_is_last now t leaf in
    let taken = taken_round r is in
    let grown : (u : Update) → IsIn u (accepted (round_fed r).journal) → IsIn u now = λ u on. subst (λ (J : List Record). IsIn u (accepted J)) (sym next.asker) (flat_left accepted_by u (round_fed r).journal next.later on) in
    let still : IsIn t (accepted r.records) → IsIn t (accepted s.records) = λ on. subst (λ (J : List Record). IsIn t (accepted J)) (sym next.asked) (flat_left accepted_by t r.records next.since on) in
    elim (alone t (leaf_is_on now t leaf)) [
      | inr mine ↦ absurd (other mine)
      | inl came ↦ elim (taken.only t came) [
        | inr theirs ↦ still theirs
        | inl had ↦ still (behind t (is_leaf (accepted r.asker.journal) t had (not_prev (accepted r.asker.journal) now t (λ u on. grown u (taken.kept u on)) last)) (λ e. other (e ∙ sym next.node)))
      ]
    ]

-- rounds of an asker that is behind at first make progress
all_progress : (front : List Record) (r : Round) (rs : List Round) → (since : List Record) → r.records ≡ front ++ since → AreRounds r rs → IsBehind r → AreGoodRounds r rs → AllByRecursion (MakesProgress (accepted front)) (r ∷ rs)
all_progress front r [] since parts are behind good = (progress r are (behind_covers r are good.names behind) good.admits front since parts, tt)
all_progress front r (s ∷ rs) since parts are behind good =
    let rest : s.records ≡ front ++ (since ++ are.1.0.since) = are.1.0.asked ∙ ap (λ (J : List Record). J ++ are.1.0.since) parts ∙ append_assoc front since are.1.0.since in (
      progress r are.0 (behind_covers r are.0 good.0.names behind) good.0.admits front since parts,
      all_progress front s rs (since ++ are.1.0.since) rest are.1.1 (stays_behind r s are.0 behind are.1.0 good.1.0) good.1.1,
    )

pub catch_up_from_behind : (r : Round) (rs : List Round) → AreRounds r rs → CatchUpFromBehind r rs
catch_up_from_behind r rs are behind good enough u on = catch_up r rs are (all_progress r.records r rs [] (sym (append-nil r.records)) are behind good) enough u on
