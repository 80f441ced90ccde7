use Rattle.std.proofs.Common.{◌≡◌, ◌∷◌, ℕ, List, refl, sym, ap, subst, arith}
use Rattle.std.proofs.lemmas.Result.{err_from_is_err_and}
use Rattle.depot_node.specs.Holdings.{node_setting}
use Rattle.depot_node.specs.Starting.{AreOwn}
use Rattle.depot_node.proofs.Fills.{birth_fills, birth_leaves, birth_not_filled, left_alone, other_not_filled, read_fills, wrong_not_filled}
use Rattle.depot_node.proofs.Starts.{other_is_no_fault}
use Rattle.depot_node.proofs.start_reading.fill.Given.{Over}
use Rattle.depot_node.proofs.start_reading.fill.Goals as goal
use Rattle.depot_node.proofs.start_reading.fill.Goals.{In-Some}

-- the text is the first of all
first : (g : Over) (c : In-Some g) → (rest : List (List ℕ)) × (c.args.store.now.unread ≡ c.in-Some.text.now ∷ rest)
first g c = c.in-Some.ensures.some c.in-Some.text.now refl

-- ---- a birth

pub returns-in_default-clause-filled : goal.returns-in_default-clause-filled
returns-in_default-clause-filled g c =
    birth_fills g.D.Disk (node_setting g.S.Scheme.verifies c.args.store.now) c.args.store.now c.add_birth.new.store c.add_birth.result c.requires.none (c.unread.ensures.none c.in_default.is) c.add_birth.ensures.records c.add_birth.ensures.whole c.add_birth.ensures.call

pub returns-in_default-clause-refused : goal.returns-in_default-clause-refused
returns-in_default-clause-refused g c =
    birth_not_filled g.D.Disk (node_setting g.S.Scheme.verifies c.args.store.now) c.args.store.now c.add_birth.new.store c.add_birth.result c.requires.runs c.requires.none (c.unread.ensures.none c.in_default.is) c.add_birth.ensures.refused c.add_birth.ensures.call

pub returns-in_default-clause-left : goal.returns-in_default-clause-left
returns-in_default-clause-left g c = record { told = c.add_birth.ensures.call.lasts.told; any_moment = birth_leaves g.D.Disk (node_setting g.S.Scheme.verifies c.args.store.now) c.args.store.now c.add_birth.new.store c.requires.runs c.requires.none (c.unread.ensures.none c.in_default.is) c.add_birth.ensures.call }

-- ---- the birth of another

pub returns-in_err-check_origin-clause-refused : goal.returns-in_err-check_origin-clause-refused
returns-in_err-check_origin-clause-refused g c =
    let f = first g (goal.at.returns-in_err-check_origin-clause-refused g c).In-Some in
    let e = c.in_err-check_origin.field-0.0 in
    let p = err_from_is_err_and c.from_residual.result c.from_residual.ensures.1 in
    rw (p.1, p.2) (other_not_filled g.D.Disk g.met.D.Disk.only_now (node_setting g.S.Scheme.verifies c.args.store.now) c.args.store.now c.in-Some.text.now f.0 e f.1 (c.in_err-check_origin.ensures.other f.0))

pub returns-in_err-check_origin-clause-disk : goal.returns-in_err-check_origin-clause-disk
returns-in_err-check_origin-clause-disk g c =
    let here = node_setting g.S.Scheme.verifies c.args.store.now in
    let f = first g (goal.at.returns-in_err-check_origin-clause-disk g c).In-Some in
    let e = c.in_err-check_origin.field-0.0 in
    let p = err_from_is_err_and c.from_residual.result c.from_residual.ensures.1 in
    rw (p.1, p.2) (record {
      same = refl;
      cause = record { never_falls = omega arith; rose = λ failed. absurd (other_is_no_fault here (c.in-Some.text.now ∷ f.0) e (c.in_err-check_origin.ensures.other f.0) cc); only = λ rose. absurd (omega (arith, rose)) };
      calm = λ faultless. (faultless, refl);
    })

pub returns-in_err-check_origin-clause-left : goal.returns-in_err-check_origin-clause-left
returns-in_err-check_origin-clause-left g c = record { told = refl; any_moment = λ told. left_alone g.D.Disk g.met.D.Disk.only_now c.args.store.now.disk c.args.store.now.disk _ _ refl }

-- ---- records

pub returns-clause-filled : goal.returns-clause-filled
returns-clause-filled g c =
    let f = first g (goal.at.returns-clause-filled g c).In-Some in
    read_fills g.D.Disk g.met.D.Disk.after_none (node_setting g.S.Scheme.verifies c.args.store.now) c.args.store.now c.read_all.new.store c.in-Some.text.now f.0 c.read_all.result f.1 c.read_all.ensures.disk c.read_all.ensures.read c.read_all.ensures.whole c.read_all.ensures.stable

pub returns-clause-refused : goal.returns-clause-refused
returns-clause-refused g c =
    let here = node_setting g.S.Scheme.verifies c.args.store.now in
    let f = first g (goal.at.returns-clause-refused g c).In-Some in
    wrong_not_filled g.D.Disk g.met.D.Disk.only_now here c.args.store.now c.read_all.new.store c.read_all.result (subst (λ (texts : List (List ℕ)). AreOwn here texts) (sym f.1) (c.in_ok-check_origin.ensures.own f.0)) c.read_all.ensures.disk c.read_all.ensures.wrong

pub returns-clause-left : goal.returns-clause-left
returns-clause-left g c = record { told = ap g.D.Disk.tells c.read_all.ensures.disk; any_moment = λ told. left_alone g.D.Disk g.met.D.Disk.only_now c.args.store.now.disk c.read_all.new.store.disk _ _ c.read_all.ensures.disk }
