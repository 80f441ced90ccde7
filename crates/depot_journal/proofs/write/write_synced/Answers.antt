use Rattle.std.proofs.Common.{◌≡◌, ◌⊎◌, inl, inr, List, [], ◌∷◌, ℕ, length, subst}
use Rattle.depot_base.specs.Disk.{IsTorn}
use Rattle.depot_base.specs.Calls.{syncs, writes_at}
use Rattle.depot_base.proofs.CallLaws.{fails_first}
use Rattle.depot_journal.proofs.DiskCalls.{calls_later, one_call, one_failed}
use Rattle.depot_journal.proofs.Moments.{started, goes_on}
use Rattle.depot_journal.proofs.write.write_synced.Goals as goal

pub returns-in_err-write_at-clause-any_moment : goal.returns-in_err-write_at-clause-any_moment
returns-in_err-write_at-clause-any_moment g c = λ base only.
    let P : List ℕ → Type 0 = λ f. (f ≡ base) ⊎ IsTorn c.args.at (length c.args.bytes.now) base f in
    let at_start = started g.D.Disk.moment g.D.Disk.left_since c.args.disk.now P (λ f left. inl (only f (g.met.D.Disk.only_now c.args.disk.now f left))) in
    goes_on g.D.Disk.moment g.D.Disk.left_since c.args.disk.now c.args.disk.now c.write_at.new.self P _ at_start c.write_at.ensures.time
    (λ f now. let from = c.write_at.ensures.images f now in inr (subst (λ (d : List ℕ). IsTorn c.args.at (length c.args.bytes.now) d f) (only from.0 from.1) from.2))

pub returns-clause-any_moment : goal.returns-clause-any_moment
returns-clause-any_moment g c = λ base only.
    let P : List ℕ → Type 0 = λ f. (f ≡ base) ⊎ IsTorn c.args.at (length c.args.bytes.now) base f in
    let at_start = started g.D.Disk.moment g.D.Disk.left_since c.args.disk.now P (λ f left. inl (only f (g.met.D.Disk.only_now c.args.disk.now f left))) in
    let torn : (f : List ℕ) → g.D.Disk.may_leave c.write_at.new.self f → P f = λ f now. let from = c.write_at.ensures.images f now in inr (subst (λ (d : List ℕ). IsTorn c.args.at (length c.args.bytes.now) d f) (only from.0 from.1) from.2) in
    let written = goes_on g.D.Disk.moment g.D.Disk.left_since c.args.disk.now c.args.disk.now c.write_at.new.self P _ at_start c.write_at.ensures.time torn in
    goes_on g.D.Disk.moment g.D.Disk.left_since c.args.disk.now c.write_at.new.self c.sync.new.self P _ written c.sync.ensures.time (λ f now. torn f (c.sync.ensures.images f now))

pub returns-in_err-write_at-clause-made : goal.returns-in_err-write_at-clause-made
returns-in_err-write_at-clause-made g c =
    one_failed g.D.Disk c.args.disk.now c.write_at.new.self (writes_at c.args.at c.args.bytes.now ∷ syncs ∷ []) c.from_residual.result _ c.from_residual.ensures.1
    (fails_first g.D.Disk.after c.args.disk.now c.write_at.new.self (writes_at c.args.at c.args.bytes.now) (syncs ∷ []) c.in_err-write_at.ensures.made)

pub returns-clause-made : goal.returns-clause-made
returns-clause-made g c =
    calls_later g.D.Disk g.met.D.Disk.after_more c.args.disk.now c.write_at.new.self c.sync.new.self (writes_at c.args.at c.args.bytes.now ∷ []) (syncs ∷ []) _ _ c.in_ok-write_at.ensures.made
    (one_call g.D.Disk c.write_at.new.self c.sync.new.self syncs c.sync.result c.sync.ensures.made)
