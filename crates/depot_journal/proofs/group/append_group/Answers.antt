use Rattle.std.proofs.Common.{◌≡◌, ◌≤◌, ◌+◌, ◌-◌, ◌++◌, ◌∷◌, [], IsTrue, List, ℕ, length, take, drop, refl, sym, ap, subst, ◌∙◌, inl}
use Rattle.std.specs.Int.{w8}
use Rattle.depot_base.proofs.CallLaws.{fails_later, made_later}
use Rattle.depot_base.specs.Calls.{FailsAmong, made}
use Rattle.depot_base.specs.Cursor.{numeral}
use Rattle.depot_base.specs.Disk.{LeavesOnly, Only}
use Rattle.depot_base.specs.File.{StandsFor, blocks}
use Rattle.depot_journal.specs.Groups.{calls_to_append_group, calls_to_open, group_block}
use Rattle.depot_journal.specs.WriteSteps.{IsBeforeOrAfter, LeavesGroupOrNot, StandsTo}
use Rattle.depot_journal.proofs.Mirrors.{behind_group, behind_first}
use Rattle.depot_journal.proofs.Moments.{goes_on, joined, started}
use Rattle.depot_journal.proofs.RecordBlocks.{group_long, if_not_err}
use Rattle.depot_journal.proofs.group.append_group.Given.{Over}
use Rattle.depot_journal.proofs.group.append_group.Goals as goal
use Rattle.depot_journal.proofs.group.append_group.Goals.{After-append_on}

-- the closed gate at the end
closed : numeral w8 0 ≡ 0 ∷ []
unfolding numeral
closed = refl

-- what is written is the group's block
block_is : (g : Over) (c : After-append_on g) (group : List (List ℕ)) → 1 ≤ length group → c.args.group ≡ blocks group → take (length c.as_slice.result.now - 1) (drop 1 c.as_slice.result.now) ≡ group_block group
block_is g c group some is =
    let pushed : c.as_slice.result.now ≡ blocks group ++ 0 ∷ [] = c.as_slice.ensures ∙ if_not_err c.push_u8.result _ (sym c.is_err.ensures.value ∙ c.if-is_err.false) c.push_u8.ensures.ok ∙ ap (λ (b : List ℕ). b ++ numeral w8 0) is ∙ ap (λ (z : List ℕ). blocks group ++ z) closed in
    behind_group [] c.as_slice.result.now group 0 pushed refl some

-- the records stand there when the disk is asked for its memory
stands_so : (g : Over) (c : After-append_on g) (bodies : List (List ℕ)) → StandsTo (g.D.Disk.seen c.args.disk.now) bodies c.args.gate → StandsTo (g.D.Disk.seen c.make_room.new.self) bodies c.args.gate
stands_so g c bodies stands = subst (λ (f : List ℕ). StandsTo f bodies c.args.gate) (sym c.make_room.ensures.seen) stands

moments : (g : Over) (c : After-append_on g) → LeavesGroupOrNot g.D.Disk c.args.disk.now c.append_on.new.disk c.args.gate c.args.group
moments g c = λ bodies group told some is stands only.
    let P : List ℕ → Type 0 = IsBeforeOrAfter bodies group in
    let here : (f : List ℕ) → g.D.Disk.may_leave c.args.disk.now f → P f = λ f left. inl (subst (λ (x : List ℕ). StandsFor x bodies) (sym (only f left)) (stands.0, stands.1, stands.2, stands.3)) in
    let idle : LeavesOnly g.D.Disk.moment g.D.Disk.left_since c.args.disk.now c.make_room.new.self P = goes_on g.D.Disk.moment g.D.Disk.left_since c.args.disk.now c.args.disk.now c.make_room.new.self P (g.D.Disk.may_leave c.make_room.new.self)
    (started g.D.Disk.moment g.D.Disk.left_since c.args.disk.now P (λ f left. here f (g.met.D.Disk.only_now c.args.disk.now f left))) c.make_room.ensures.time (λ f left. here f (c.make_room.ensures.images f left)) in
    let only_mid : Only (g.D.Disk.seen c.make_room.new.self) (g.D.Disk.may_leave c.make_room.new.self) = λ f left. only f (c.make_room.ensures.images f left) ∙ sym c.make_room.ensures.seen in
    joined g.D.Disk.moment g.D.Disk.left_since c.args.disk.now c.make_room.new.self c.append_on.new.disk P idle
    (c.append_on.ensures.any_moment bodies group (subst IsTrue (sym c.make_room.ensures.tells) told) some (block_is g c group some is) (stands_so g c bodies stands) only_mid)

pub returns-in-Ok-clause-ok : goal.returns-in-Ok-clause-ok
returns-in-Ok-clause-ok g c = λ bodies group told some is stands.
    let at = (goal.at.returns-in-Ok-clause-ok g c).After-append_on in
    let block = block_is g at group some is in
    let done = c.in-Ok.ensures.ok bodies group (subst IsTrue (sym c.make_room.ensures.tells) told) some block (stands_so g at bodies stands) in
    subst (λ (n : ℕ). StandsTo (g.D.Disk.seen c.append_on.new.disk) (bodies ++ group) (c.args.gate + n)) (ap length block ∙ group_long group ∙ sym (ap length is)) done

pub returns-in-Ok-clause-any_moment : goal.returns-in-Ok-clause-any_moment
returns-in-Ok-clause-any_moment g c = moments g (goal.at.returns-in-Ok-clause-any_moment g c).After-append_on

pub returns-clause-any_moment : goal.returns-clause-any_moment
returns-clause-any_moment g c = moments g (goal.at.returns-clause-any_moment g c).After-append_on

-- what is written is what the bytes say
written : (g : Over) (c : After-append_on g) → take (length c.as_slice.result.now - 1) (drop 1 c.as_slice.result.now) ≡ drop 1 c.args.group ++ 0 ∷ []
written g c = behind_first c.as_slice.result.now c.args.group (c.as_slice.ensures ∙ if_not_err c.push_u8.result _ (sym c.is_err.ensures.value ∙ c.if-is_err.false) c.push_u8.ensures.ok ∙ ap (λ (z : List ℕ). c.args.group ++ z) closed) c.requires.some

pub returns-in-Ok-clause-made : goal.returns-in-Ok-clause-made
returns-in-Ok-clause-made g c =
    let at = (goal.at.returns-in-Ok-clause-made g c).After-append_on in
    record {
      all = λ _. made_later g.D.Disk.after g.met.D.Disk.after_more c.args.disk.now c.make_room.new.self c.append_on.new.disk [] (calls_to_append_group c.args.gate c.args.group) c.make_room.ensures.made
          (subst (λ (block : List ℕ). g.D.Disk.after c.make_room.new.self (made (calls_to_open c.args.gate block)) c.append_on.new.disk) (written g at) (c.in-Ok.ensures.made.all refl));
      failing = λ failed. absurd cc;
    }

pub returns-clause-made : goal.returns-clause-made
returns-clause-made g c =
    let at = (goal.at.returns-clause-made g c).After-append_on in
    record {
      all = λ done. absurd cc;
      failing = λ _. fails_later g.D.Disk.after g.met.D.Disk.after_more c.args.disk.now c.make_room.new.self c.append_on.new.disk [] (calls_to_append_group c.args.gate c.args.group) c.make_room.ensures.made
          (subst (λ (block : List ℕ). FailsAmong g.D.Disk.after c.make_room.new.self c.append_on.new.disk (calls_to_open c.args.gate block)) (written g at) (c.in-Err.ensures.made.failing refl));
    }
