use Rattle.std.proofs.Common.{rules, inr, ◌≡◌, ◌++◌, ◌+◌, ◌-◌, ◌*◌, ◌≤◌, [], List, ℕ, IsTrue, length, length-append, sym, ap, ◌∙◌, subst, arith, vec_len, false}
use Rattle.depot_base.specs.Calls.{FailsAmong, calls_to_append_all, made}
use Rattle.depot_base.specs.Disk.{LeavesOnly}
use Rattle.depot_base.specs.File.{AreWithinLimits, HasBodyFront, FitsFile, AreBodiesCutShort, PassesLimit, blocks}
use Rattle.depot_base.proofs.CallLaws.{fails_later, made_later}
use Rattle.depot_journal.specs.Mirrored.{bodies_at}
use Rattle.depot_journal.specs.JournalView.{JournalContents}
use Rattle.depot_journal.proofs.Appends.{all_within, blocks_many, counted, cut_short, found, front_within, limit_counted, reserved_less, room_counted, then_appended, unmoved, with_none}
use Rattle.depot_journal.proofs.AtRest.{one_more_at_most, rests}
use Rattle.depot_journal.proofs.DiskCalls.{ok_of}
use Rattle.depot_journal.proofs.Walk.{stands_of}
use Rattle.depot_journal.proofs.RecordBlocks.{if_err, if_not_err, ok_no_err}
use Rattle.depot_journal.proofs.Mirrors.{bodies_many}
use Rattle.depot_base.specs.WithRest.{with_rest}
use Rattle.depot_base.proofs.WithRestLaws.{rest_count}
use Rattle.depot_journal.proofs.journal.Journal.append_all.Goals as goal

pub overflow_sub-bytes : goal.overflow_sub-bytes
overflow_sub-bytes g c =
    let held = bodies_at c.self.inside.mirror.bytes.items c.self.inside.mirror.spans.items in
    let many : c.count.result ≡ length held = search rules in
    let whole : vec_len c.self.inside.mirror.bytes ≡ length (blocks held) = c.self.inside.mirror.bytes.ok.0 ∙ ap length c.self.invariant.0.parts in
    let many_new : length c.args.texts.now ≡ length (with_rest c.args.texts.now c.args.rest.now) = sym (rest_count c.args.texts.now c.args.rest.now) in
    let room = c.in_default.ensures.room held many (c.len.ensures ∙ whole) in
    omega (arith, blocks_many (with_rest c.args.texts.now c.args.rest.now), counted held (with_rest c.args.texts.now c.args.rest.now) _ _ room c.bytes_of-long.ensures)

pub returns-then-is_err-clause-any_moment : goal.returns-then-is_err-clause-any_moment
returns-then-is_err-clause-any_moment g c = λ told running.
    let held = bodies_at c.self.inside.mirror.bytes.items c.self.inside.mirror.spans.items in
    let d = c.self.inside.mirror.disk in
    let was = c.self.invariant.3 (search rules) (search rules) in
    let found_only = found g.D.Disk.moment g.D.Disk.left_since d c.find_room.new.mirror.disk (g.D.Disk.may_leave d) (g.D.Disk.may_leave c.find_room.new.mirror.disk) (g.D.Disk.seen d) held (vec_len c.self.inside.mirror.bytes) was.0 c.self.invariant.1 was.1 (g.met.D.Disk.only_now d) c.find_room.ensures.disk.time c.find_room.ensures.disk.images in
    subst (λ (v : JournalContents g.row.D.Denot). LeavesOnly g.D.Disk.moment g.D.Disk.left_since v.disk c.find_room.new.mirror.disk (HasBodyFront v.records (with_rest c.args.texts.now c.args.rest.now))) c.self.view_is
    (with_none g.D.Disk.moment g.D.Disk.left_since d c.find_room.new.mirror.disk held (with_rest c.args.texts.now c.args.rest.now) found_only)

pub returns-in-Err-clause-any_moment : goal.returns-in-Err-clause-any_moment
returns-in-Err-clause-any_moment g c = λ told running.
    let held = bodies_at c.self.inside.mirror.bytes.items c.self.inside.mirror.spans.items in
    let d = c.self.inside.mirror.disk in
    let was = c.self.invariant.3 (search rules) (search rules) in
    let same = unmoved g.D.Disk.moment g.D.Disk.left_since d (g.D.Disk.may_leave d) (g.D.Disk.seen d) held (vec_len c.self.inside.mirror.bytes) was.0 c.self.invariant.1 was.1 (g.met.D.Disk.only_now d) in
    subst (λ (v : JournalContents g.row.D.Denot). LeavesOnly g.D.Disk.moment g.D.Disk.left_since v.disk v.disk (HasBodyFront v.records (with_rest c.args.texts.now c.args.rest.now))) c.self.view_is
    (with_none g.D.Disk.moment g.D.Disk.left_since d d held (with_rest c.args.texts.now c.args.rest.now) same)

pub returns-then-is_err-2-clause-disk : goal.returns-then-is_err-2-clause-disk
returns-then-is_err-2-clause-disk g c = λ failed.
    let held = bodies_at c.self.inside.mirror.bytes.items c.self.inside.mirror.spans.items in
    let many : c.count.result ≡ length held = search rules in
    let whole : vec_len c.self.inside.mirror.bytes ≡ length (blocks held) = c.self.inside.mirror.bytes.ok.0 ∙ ap length c.self.invariant.0.parts in
    let many_new : length c.args.texts.now ≡ length (with_rest c.args.texts.now c.args.rest.now) = sym (rest_count c.args.texts.now c.args.rest.now) in
    let room = c.in_default.ensures.room held many (c.len.ensures ∙ whole) in
    let exact : c.bytes_of-long.result ≡ length (blocks (with_rest c.args.texts.now c.args.rest.now)) = counted held (with_rest c.args.texts.now c.args.rest.now) _ _ room c.bytes_of-long.ensures in
    let at = bodies_at c.find_room.new.mirror.bytes.items c.find_room.new.mirror.spans.items in
    let same : at ≡ held = ap (λ (l : List ℕ). bodies_at l c.find_room.new.mirror.spans.items) c.find_room.ensures.bytes_same ∙ ap (bodies_at c.self.inside.mirror.bytes.items) c.find_room.ensures.spans_same in
    let fails = if_err c.append_each.result _ (sym c.is_err-2.ensures.value ∙ c.if-is_err-2.true) c.append_each.ensures.fails in
    subst (λ (v : JournalContents g.row.D.Denot). AreBodiesCutShort v.records (with_rest c.args.texts.now c.args.rest.now) (bodies_at c.append_each.new.mirror.bytes.items c.append_each.new.mirror.spans.items) (IsTrue (g.D.Disk.tells v.disk)) (g.D.Disk.may_leave c.append_each.new.mirror.disk)) c.self.view_is
    (cut_short held at (with_rest c.args.texts.now c.args.rest.now) (bodies_at c.append_each.new.mirror.bytes.items c.append_each.new.mirror.spans.items) (IsTrue (g.D.Disk.tells c.find_room.new.mirror.disk)) (IsTrue (g.D.Disk.tells c.self.inside.mirror.disk))
    (λ told. subst IsTrue (sym c.find_room.ensures.disk.tells) told) (g.D.Disk.may_leave c.append_each.new.mirror.disk) _ _ room many_new exact same fails)

pub returns-then-is_err-2-clause-any_moment : goal.returns-then-is_err-2-clause-any_moment
returns-then-is_err-2-clause-any_moment g c = λ told running.
    let held = bodies_at c.self.inside.mirror.bytes.items c.self.inside.mirror.spans.items in
    let many : c.count.result ≡ length held = search rules in
    let whole : vec_len c.self.inside.mirror.bytes ≡ length (blocks held) = c.self.inside.mirror.bytes.ok.0 ∙ ap length c.self.invariant.0.parts in
    let many_new : length c.args.texts.now ≡ length (with_rest c.args.texts.now c.args.rest.now) = sym (rest_count c.args.texts.now c.args.rest.now) in
    let room = c.in_default.ensures.room held many (c.len.ensures ∙ whole) in
    let exact : c.bytes_of-long.result ≡ length (blocks (with_rest c.args.texts.now c.args.rest.now)) = counted held (with_rest c.args.texts.now c.args.rest.now) _ _ room c.bytes_of-long.ensures in
    let at = bodies_at c.find_room.new.mirror.bytes.items c.find_room.new.mirror.spans.items in
    let same : at ≡ held = ap (λ (l : List ℕ). bodies_at l c.find_room.new.mirror.spans.items) c.find_room.ensures.bytes_same ∙ ap (bodies_at c.self.inside.mirror.bytes.items) c.find_room.ensures.spans_same in
    let d = c.self.inside.mirror.disk in
    let was = c.self.invariant.3 (search rules) (search rules) in
    let found_only = found g.D.Disk.moment g.D.Disk.left_since d c.find_room.new.mirror.disk (g.D.Disk.may_leave d) (g.D.Disk.may_leave c.find_room.new.mirror.disk) (g.D.Disk.seen d) held (vec_len c.self.inside.mirror.bytes) was.0 c.self.invariant.1 was.1 (g.met.D.Disk.only_now d) c.find_room.ensures.disk.time c.find_room.ensures.disk.images in
    let appended = then_appended g.D.Disk.moment g.D.Disk.left_since d c.find_room.new.mirror.disk c.append_each.new.mirror.disk held at (with_rest c.args.texts.now c.args.rest.now) _ _ room many_new exact same found_only (c.append_each.ensures.any_moment (search rules)) in
    subst (λ (v : JournalContents g.row.D.Denot). LeavesOnly g.D.Disk.moment g.D.Disk.left_since v.disk c.append_each.new.mirror.disk (HasBodyFront v.records (with_rest c.args.texts.now c.args.rest.now))) c.self.view_is
    appended

pub returns-clause-any_moment : goal.returns-clause-any_moment
returns-clause-any_moment g c = λ told running.
    let held = bodies_at c.self.inside.mirror.bytes.items c.self.inside.mirror.spans.items in
    let many : c.count.result ≡ length held = search rules in
    let whole : vec_len c.self.inside.mirror.bytes ≡ length (blocks held) = c.self.inside.mirror.bytes.ok.0 ∙ ap length c.self.invariant.0.parts in
    let many_new : length c.args.texts.now ≡ length (with_rest c.args.texts.now c.args.rest.now) = sym (rest_count c.args.texts.now c.args.rest.now) in
    let room = c.in_default.ensures.room held many (c.len.ensures ∙ whole) in
    let exact : c.bytes_of-long.result ≡ length (blocks (with_rest c.args.texts.now c.args.rest.now)) = counted held (with_rest c.args.texts.now c.args.rest.now) _ _ room c.bytes_of-long.ensures in
    let at = bodies_at c.find_room.new.mirror.bytes.items c.find_room.new.mirror.spans.items in
    let same : at ≡ held = ap (λ (l : List ℕ). bodies_at l c.find_room.new.mirror.spans.items) c.find_room.ensures.bytes_same ∙ ap (bodies_at c.self.inside.mirror.bytes.items) c.find_room.ensures.spans_same in
    let d = c.self.inside.mirror.disk in
    let was = c.self.invariant.3 (search rules) (search rules) in
    let found_only = found g.D.Disk.moment g.D.Disk.left_since d c.find_room.new.mirror.disk (g.D.Disk.may_leave d) (g.D.Disk.may_leave c.find_room.new.mirror.disk) (g.D.Disk.seen d) held (vec_len c.self.inside.mirror.bytes) was.0 c.self.invariant.1 was.1 (g.met.D.Disk.only_now d) c.find_room.ensures.disk.time c.find_room.ensures.disk.images in
    let appended = then_appended g.D.Disk.moment g.D.Disk.left_since d c.find_room.new.mirror.disk c.append_each.new.mirror.disk held at (with_rest c.args.texts.now c.args.rest.now) _ _ room many_new exact same found_only (c.append_each.ensures.any_moment (search rules)) in
    subst (λ (v : JournalContents g.row.D.Denot). LeavesOnly g.D.Disk.moment g.D.Disk.left_since v.disk c.append_each.new.mirror.disk (HasBodyFront v.records (with_rest c.args.texts.now c.args.rest.now))) c.self.view_is
    appended

pub invariant_of-self-2 : goal.invariant_of-self-2
invariant_of-self-2 g c =
    let held = bodies_at c.self.inside.mirror.bytes.items c.self.inside.mirror.spans.items in
    let many : c.count.result ≡ length held = search rules in
    let whole : vec_len c.self.inside.mirror.bytes ≡ length (blocks held) = c.self.inside.mirror.bytes.ok.0 ∙ ap length c.self.invariant.0.parts in
    let many_new : length c.args.texts.now ≡ length (with_rest c.args.texts.now c.args.rest.now) = sym (rest_count c.args.texts.now c.args.rest.now) in
    let room = c.in_default.ensures.room held many (c.len.ensures ∙ whole) in
    let exact : c.bytes_of-long.result ≡ length (blocks (with_rest c.args.texts.now c.args.rest.now)) = counted held (with_rest c.args.texts.now c.args.rest.now) _ _ room c.bytes_of-long.ensures in
    let at = bodies_at c.find_room.new.mirror.bytes.items c.find_room.new.mirror.spans.items in
    let same : at ≡ held = ap (λ (l : List ℕ). bodies_at l c.find_room.new.mirror.spans.items) c.find_room.ensures.bytes_same ∙ ap (bodies_at c.self.inside.mirror.bytes.items) c.find_room.ensures.spans_same in
    let all : bodies_at c.append_each.new.mirror.bytes.items c.append_each.new.mirror.spans.items ≡ at ++ (with_rest c.args.texts.now c.args.rest.now) = search rules in
    let is : bodies_at c.append_each.new.mirror.bytes.items c.append_each.new.mirror.spans.items ≡ held ++ (with_rest c.args.texts.now c.args.rest.now) = all ∙ ap (λ (l : List (List ℕ)). l ++ (with_rest c.args.texts.now c.args.rest.now)) same in
    let new = c.append_each.new.mirror in
    let mid = c.find_room.new.mirror in
    let now_many : vec_len new.spans ≡ vec_len mid.spans + length c.args.texts.now =
    omega (arith, new.spans.ok.0, mid.spans.ok.0, bodies_many new.bytes.items new.spans.items, bodies_many mid.bytes.items mid.spans.items, ap length all, length-append at (with_rest c.args.texts.now c.args.rest.now), many_new) in
    let fits : vec_len mid.spans + length c.args.texts.now ≤ 131072 = omega (arith, mid.spans.ok.0, bodies_many mid.bytes.items mid.spans.items, ap length same, room.records_fit, many_new) in
    let few : length c.args.texts.now ≤ c.find_room.new.room.records = if_not_err c.find_room.result _ (sym c.is_err.ensures.value ∙ c.if-is_err.false) c.find_room.ensures.records in
    let small : c.bytes_of-long.result - 5 * length c.args.texts.now ≤ c.find_room.new.room.bytes = if_not_err c.find_room.result _ (sym c.is_err.ensures.value ∙ c.if-is_err.false) c.find_room.ensures.bytes in
    let did = c.append_each.ensures in
    let least = blocks_many (with_rest c.args.texts.now c.args.rest.now) in (
      did.mirror,
      all_within held (with_rest c.args.texts.now c.args.rest.now) _ _ _ room many_new exact is,
      reserved_less _ _ _ _ _ _ _ _ (length c.args.texts.now) _ _ _ _ _ _ _ c.find_room.ensures.reserved few small fits now_many (omega (arith, did.space.long, exact, least, many_new)) did.space.spans_left did.space.bytes_left (omega (arith, did.space.disk.bytes_left, exact, least, many_new)) (omega (arith, did.space.disk.calls_left, many_new)),
      λ running told. search rules,
      λ told. rests (g.D.Disk.seen new.disk) (bodies_at new.bytes.items new.spans.items) (vec_len new.bytes) false (g.D.Disk.may_leave new.disk) (search rules) (all_within held (with_rest c.args.texts.now c.args.rest.now) _ _ _ room many_new exact is) (search rules),
    )

pub invariant_of-self-then-is_err-2 : goal.invariant_of-self-then-is_err-2
invariant_of-self-then-is_err-2 g c =
    let held = bodies_at c.self.inside.mirror.bytes.items c.self.inside.mirror.spans.items in
    let many : c.count.result ≡ length held = search rules in
    let whole : vec_len c.self.inside.mirror.bytes ≡ length (blocks held) = c.self.inside.mirror.bytes.ok.0 ∙ ap length c.self.invariant.0.parts in
    let many_new : length c.args.texts.now ≡ length (with_rest c.args.texts.now c.args.rest.now) = sym (rest_count c.args.texts.now c.args.rest.now) in
    let room = c.in_default.ensures.room held many (c.len.ensures ∙ whole) in
    let exact : c.bytes_of-long.result ≡ length (blocks (with_rest c.args.texts.now c.args.rest.now)) = counted held (with_rest c.args.texts.now c.args.rest.now) _ _ room c.bytes_of-long.ensures in
    let at = bodies_at c.find_room.new.mirror.bytes.items c.find_room.new.mirror.spans.items in
    let same : at ≡ held = ap (λ (l : List ℕ). bodies_at l c.find_room.new.mirror.spans.items) c.find_room.ensures.bytes_same ∙ ap (bodies_at c.self.inside.mirror.bytes.items) c.find_room.ensures.spans_same in
    let new = c.append_each.new.mirror in
    let fails = if_err c.append_each.result _ (sym c.is_err-2.ensures.value ∙ c.if-is_err-2.true) c.append_each.ensures.fails in
    let cut = cut_short held at (with_rest c.args.texts.now c.args.rest.now) (bodies_at new.bytes.items new.spans.items) (IsTrue (g.D.Disk.tells c.find_room.new.mirror.disk)) (IsTrue (g.D.Disk.tells new.disk))
    (λ told. subst IsTrue c.append_each.ensures.disk.tells told) (g.D.Disk.may_leave new.disk) _ _ room many_new exact same fails in (
      search rules,
      subst AreWithinLimits (sym cut.front) (front_within held (with_rest c.args.texts.now c.args.rest.now) cut.count _ _ room many_new exact),
      search rules,
      λ running told. search rules,
      λ told. one_more_at_most held (with_rest c.args.texts.now c.args.rest.now) (bodies_at new.bytes.items new.spans.items) _ (g.D.Disk.may_leave new.disk) cut told,
    )

pub returns-then-is_err-2-clause-stands : goal.returns-then-is_err-2-clause-stands
returns-then-is_err-2-clause-stands g c = λ told.
    let held = bodies_at c.self.inside.mirror.bytes.items c.self.inside.mirror.spans.items in
    let many : c.count.result ≡ length held = search rules in
    let whole : vec_len c.self.inside.mirror.bytes ≡ length (blocks held) = c.self.inside.mirror.bytes.ok.0 ∙ ap length c.self.invariant.0.parts in
    let many_new : length c.args.texts.now ≡ length (with_rest c.args.texts.now c.args.rest.now) = sym (rest_count c.args.texts.now c.args.rest.now) in
    let room = c.in_default.ensures.room held many (c.len.ensures ∙ whole) in
    let exact : c.bytes_of-long.result ≡ length (blocks (with_rest c.args.texts.now c.args.rest.now)) = counted held (with_rest c.args.texts.now c.args.rest.now) _ _ room c.bytes_of-long.ensures in
    let at = bodies_at c.find_room.new.mirror.bytes.items c.find_room.new.mirror.spans.items in
    let same : at ≡ held = ap (λ (l : List ℕ). bodies_at l c.find_room.new.mirror.spans.items) c.find_room.ensures.bytes_same ∙ ap (bodies_at c.self.inside.mirror.bytes.items) c.find_room.ensures.spans_same in
    let new = c.append_each.new.mirror in
    let fails = if_err c.append_each.result _ (sym c.is_err-2.ensures.value ∙ c.if-is_err-2.true) c.append_each.ensures.fails in
    let cut = cut_short held at (with_rest c.args.texts.now c.args.rest.now) (bodies_at new.bytes.items new.spans.items) (IsTrue (g.D.Disk.tells c.find_room.new.mirror.disk)) (IsTrue (g.D.Disk.tells c.self.inside.mirror.disk))
    (λ told. subst IsTrue (sym c.find_room.ensures.disk.tells) told) (g.D.Disk.may_leave new.disk) _ _ room many_new exact same fails in
    one_more_at_most held (with_rest c.args.texts.now c.args.rest.now) (bodies_at new.bytes.items new.spans.items) _ (g.D.Disk.may_leave new.disk) cut (subst (λ (v : JournalContents g.row.D.Denot). IsTrue (g.D.Disk.tells v.disk)) (sym c.self.view_is) told)

pub returns-clause-file : goal.returns-clause-file
returns-clause-file g c = λ told running.
    let held = bodies_at c.self.inside.mirror.bytes.items c.self.inside.mirror.spans.items in
    let many : c.count.result ≡ length held = search rules in
    let whole : vec_len c.self.inside.mirror.bytes ≡ length (blocks held) = c.self.inside.mirror.bytes.ok.0 ∙ ap length c.self.invariant.0.parts in
    let many_new : length c.args.texts.now ≡ length (with_rest c.args.texts.now c.args.rest.now) = sym (rest_count c.args.texts.now c.args.rest.now) in
    let room = c.in_default.ensures.room held many (c.len.ensures ∙ whole) in
    let exact : c.bytes_of-long.result ≡ length (blocks (with_rest c.args.texts.now c.args.rest.now)) = counted held (with_rest c.args.texts.now c.args.rest.now) _ _ room c.bytes_of-long.ensures in
    let at = bodies_at c.find_room.new.mirror.bytes.items c.find_room.new.mirror.spans.items in
    let same : at ≡ held = ap (λ (l : List ℕ). bodies_at l c.find_room.new.mirror.spans.items) c.find_room.ensures.bytes_same ∙ ap (bodies_at c.self.inside.mirror.bytes.items) c.find_room.ensures.spans_same in
    let new = c.append_each.new.mirror in
    let all : bodies_at new.bytes.items new.spans.items ≡ at ++ (with_rest c.args.texts.now c.args.rest.now) = search rules in
    let is : bodies_at new.bytes.items new.spans.items ≡ held ++ (with_rest c.args.texts.now c.args.rest.now) = all ∙ ap (λ (l : List (List ℕ)). l ++ (with_rest c.args.texts.now c.args.rest.now)) same in
    inr (stands_of (g.D.Disk.seen new.disk) (bodies_at new.bytes.items new.spans.items) (vec_len new.bytes) (search rules), all_within held (with_rest c.args.texts.now c.args.rest.now) _ _ _ room many_new exact is)

pub returns-clause-stands : goal.returns-clause-stands
returns-clause-stands g c = λ told.
    let held = bodies_at c.self.inside.mirror.bytes.items c.self.inside.mirror.spans.items in
    let many : c.count.result ≡ length held = search rules in
    let whole : vec_len c.self.inside.mirror.bytes ≡ length (blocks held) = c.self.inside.mirror.bytes.ok.0 ∙ ap length c.self.invariant.0.parts in
    let many_new : length c.args.texts.now ≡ length (with_rest c.args.texts.now c.args.rest.now) = sym (rest_count c.args.texts.now c.args.rest.now) in
    let room = c.in_default.ensures.room held many (c.len.ensures ∙ whole) in
    let exact : c.bytes_of-long.result ≡ length (blocks (with_rest c.args.texts.now c.args.rest.now)) = counted held (with_rest c.args.texts.now c.args.rest.now) _ _ room c.bytes_of-long.ensures in
    let at = bodies_at c.find_room.new.mirror.bytes.items c.find_room.new.mirror.spans.items in
    let same : at ≡ held = ap (λ (l : List ℕ). bodies_at l c.find_room.new.mirror.spans.items) c.find_room.ensures.bytes_same ∙ ap (bodies_at c.self.inside.mirror.bytes.items) c.find_room.ensures.spans_same in
    let new = c.append_each.new.mirror in
    let all : bodies_at new.bytes.items new.spans.items ≡ at ++ (with_rest c.args.texts.now c.args.rest.now) = search rules in
    let is : bodies_at new.bytes.items new.spans.items ≡ held ++ (with_rest c.args.texts.now c.args.rest.now) = all ∙ ap (λ (l : List (List ℕ)). l ++ (with_rest c.args.texts.now c.args.rest.now)) same in
    rests (g.D.Disk.seen new.disk) (bodies_at new.bytes.items new.spans.items) (vec_len new.bytes) false (g.D.Disk.may_leave new.disk) (search rules) (all_within held (with_rest c.args.texts.now c.args.rest.now) _ _ _ room many_new exact is) (search rules)

pub returns-then-is_err-2-clause-calls : goal.returns-then-is_err-2-clause-calls
returns-then-is_err-2-clause-calls g c =
    let mid = c.find_room.new.mirror in
    let held = bodies_at c.self.inside.mirror.bytes.items c.self.inside.mirror.spans.items in
    let gate : vec_len mid.bytes ≡ length (blocks held) = mid.bytes.ok.0 ∙ ap length (c.find_room.ensures.bytes_same ∙ c.self.invariant.0.parts) in
    let failing = c.append_each.ensures.made.failing (sym c.is_err-2.ensures.value ∙ c.if-is_err-2.true) in
    record {
      disk = search rules;
      all = tt;
      failing = λ failed. subst (λ (v : JournalContents g.row.D.Denot). FailsAmong g.D.Disk.after v.disk c.append_each.new.mirror.disk (calls_to_append_all (length (blocks v.records)) (with_rest c.args.texts.now c.args.rest.now))) c.self.view_is
          (subst (λ (n : ℕ). FailsAmong g.D.Disk.after c.self.inside.mirror.disk c.append_each.new.mirror.disk (calls_to_append_all n (with_rest c.args.texts.now c.args.rest.now))) gate
          (fails_later g.D.Disk.after g.met.D.Disk.after_more c.self.inside.mirror.disk mid.disk c.append_each.new.mirror.disk [] (calls_to_append_all (vec_len mid.bytes) (with_rest c.args.texts.now c.args.rest.now)) c.find_room.ensures.disk.made failing));
      none = tt;
    }

pub returns-clause-calls : goal.returns-clause-calls
returns-clause-calls g c =
    let mid = c.find_room.new.mirror in
    let held = bodies_at c.self.inside.mirror.bytes.items c.self.inside.mirror.spans.items in
    let gate : vec_len mid.bytes ≡ length (blocks held) = mid.bytes.ok.0 ∙ ap length (c.find_room.ensures.bytes_same ∙ c.self.invariant.0.parts) in
    let appended = c.append_each.ensures.made.all (ok_of c.append_each.result (sym c.is_err-2.ensures.value ∙ c.if-is_err-2.false)) in
    record {
      disk = search rules;
      all = subst (λ (v : JournalContents g.row.D.Denot). g.D.Disk.after v.disk (made (calls_to_append_all (length (blocks v.records)) (with_rest c.args.texts.now c.args.rest.now))) c.append_each.new.mirror.disk) c.self.view_is
          (subst (λ (n : ℕ). g.D.Disk.after c.self.inside.mirror.disk (made (calls_to_append_all n (with_rest c.args.texts.now c.args.rest.now))) c.append_each.new.mirror.disk) gate
          (made_later g.D.Disk.after g.met.D.Disk.after_more c.self.inside.mirror.disk mid.disk c.append_each.new.mirror.disk [] (calls_to_append_all (vec_len mid.bytes) (with_rest c.args.texts.now c.args.rest.now)) c.find_room.ensures.disk.made appended));
      failing = search rules;
      none = tt;
    }

pub returns-clause-room : goal.returns-clause-room
returns-clause-room g c =
    let held = bodies_at c.self.inside.mirror.bytes.items c.self.inside.mirror.spans.items in
    let many : c.count.result ≡ length held = search rules in
    let whole : vec_len c.self.inside.mirror.bytes ≡ length (blocks held) = c.self.inside.mirror.bytes.ok.0 ∙ ap length c.self.invariant.0.parts in
    let many_new : length c.args.texts.now ≡ length (with_rest c.args.texts.now c.args.rest.now) = sym (rest_count c.args.texts.now c.args.rest.now) in
    let room = c.in_default.ensures.room held many (c.len.ensures ∙ whole) in
    let exact : c.bytes_of-long.result ≡ length (blocks (with_rest c.args.texts.now c.args.rest.now)) = counted held (with_rest c.args.texts.now c.args.rest.now) _ _ room c.bytes_of-long.ensures in
    let before : c.self.inside.room.bytes ≡ c.args.self.now.room_bytes = search rules in
    let before_records : c.self.inside.room.records ≡ c.args.self.now.room_records = search rules in
    record {
      records = omega (arith, before_records, c.find_room.ensures.records_kept, rest_count c.args.texts.now c.args.rest.now);
      bytes = omega (arith, exact, before, blocks_many (with_rest c.args.texts.now c.args.rest.now), c.find_room.ensures.bytes_kept, rest_count c.args.texts.now c.args.rest.now);
    }

pub append_each-requires-clause-space : goal.append_each-requires-clause-space
append_each-requires-clause-space g c =
    let held = bodies_at c.self.inside.mirror.bytes.items c.self.inside.mirror.spans.items in
    let many : c.count.result ≡ length held = search rules in
    let whole : vec_len c.self.inside.mirror.bytes ≡ length (blocks held) = c.self.inside.mirror.bytes.ok.0 ∙ ap length c.self.invariant.0.parts in
    let many_new : length c.args.texts.now ≡ length (with_rest c.args.texts.now c.args.rest.now) = sym (rest_count c.args.texts.now c.args.rest.now) in
    let room = c.in_default.ensures.room held many (c.len.ensures ∙ whole) in
    let exact : c.bytes_of-long.result ≡ length (blocks (with_rest c.args.texts.now c.args.rest.now)) = counted held (with_rest c.args.texts.now c.args.rest.now) _ _ room c.bytes_of-long.ensures in
    let mid = c.find_room.new.mirror in
    let same : bodies_at mid.bytes.items mid.spans.items ≡ held = ap (λ (l : List ℕ). bodies_at l mid.spans.items) c.find_room.ensures.bytes_same ∙ ap (bodies_at c.self.inside.mirror.bytes.items) c.find_room.ensures.spans_same in
    let fits : vec_len mid.spans + length c.args.texts.now ≤ 131072 = omega (arith, mid.spans.ok.0, bodies_many mid.bytes.items mid.spans.items, ap length same, room.records_fit) in
    let few : length c.args.texts.now ≤ c.find_room.new.room.records = if_not_err c.find_room.result _ (sym c.is_err.ensures.value ∙ c.if-is_err.false) c.find_room.ensures.records in
    let small : c.bytes_of-long.result - 5 * length c.args.texts.now ≤ c.find_room.new.room.bytes = if_not_err c.find_room.result _ (sym c.is_err.ensures.value ∙ c.if-is_err.false) c.find_room.ensures.bytes in
    let space = c.find_room.ensures.reserved in
    record {
      spans_fit = omega (arith, space.spans_fit, few, fits, many_new);
      blocks_fit = omega (arith, space.blocks_fit, few, fits, small, exact, many_new);
      written_fit = omega (arith, space.written_fit, few, fits, small, exact, many_new);
      calls_fit = omega (arith, space.calls_fit, few, fits, many_new);
    }

pub returns-in-Err-clause-limits : goal.returns-in-Err-clause-limits
returns-in-Err-clause-limits g c =
    let held = bodies_at c.self.inside.mirror.bytes.items c.self.inside.mirror.spans.items in
    let many : c.count.result ≡ length held = search rules in
    let whole : vec_len c.self.inside.mirror.bytes ≡ length (blocks held) = c.self.inside.mirror.bytes.ok.0 ∙ ap length c.self.invariant.0.parts in
    let passes = c.in-Err.ensures.full held many (c.len.ensures ∙ whole) in
    subst (λ (v : JournalContents g.row.D.Denot). PassesLimit v.records (length (with_rest c.args.texts.now c.args.rest.now)) (length (blocks (with_rest c.args.texts.now c.args.rest.now))) c.in-Err.full.what c.in-Err.full.number) c.self.view_is
    (limit_counted held (with_rest c.args.texts.now c.args.rest.now) _ _ c.in-Err.full.what c.in-Err.full.number (sym (rest_count c.args.texts.now c.args.rest.now)) c.bytes_of-long.ensures passes)

pub returns-then-is_err-clause-limits : goal.returns-then-is_err-clause-limits
returns-then-is_err-clause-limits g c =
    let held = bodies_at c.self.inside.mirror.bytes.items c.self.inside.mirror.spans.items in
    let many : c.count.result ≡ length held = search rules in
    let whole : vec_len c.self.inside.mirror.bytes ≡ length (blocks held) = c.self.inside.mirror.bytes.ok.0 ∙ ap length c.self.invariant.0.parts in
    let many_new : length c.args.texts.now ≡ length (with_rest c.args.texts.now c.args.rest.now) = sym (rest_count c.args.texts.now c.args.rest.now) in
    let room = c.in_default.ensures.room held many (c.len.ensures ∙ whole) in
    let exact : c.bytes_of-long.result ≡ length (blocks (with_rest c.args.texts.now c.args.rest.now)) = counted held (with_rest c.args.texts.now c.args.rest.now) _ _ room c.bytes_of-long.ensures in
    subst (λ (v : JournalContents g.row.D.Denot). FitsFile v.records (length (with_rest c.args.texts.now c.args.rest.now)) (length (blocks (with_rest c.args.texts.now c.args.rest.now)))) c.self.view_is (room_counted held (with_rest c.args.texts.now c.args.rest.now) _ _ room many_new exact)

pub returns-then-is_err-2-clause-limits : goal.returns-then-is_err-2-clause-limits
returns-then-is_err-2-clause-limits g c =
    let held = bodies_at c.self.inside.mirror.bytes.items c.self.inside.mirror.spans.items in
    let many : c.count.result ≡ length held = search rules in
    let whole : vec_len c.self.inside.mirror.bytes ≡ length (blocks held) = c.self.inside.mirror.bytes.ok.0 ∙ ap length c.self.invariant.0.parts in
    let many_new : length c.args.texts.now ≡ length (with_rest c.args.texts.now c.args.rest.now) = sym (rest_count c.args.texts.now c.args.rest.now) in
    let room = c.in_default.ensures.room held many (c.len.ensures ∙ whole) in
    let exact : c.bytes_of-long.result ≡ length (blocks (with_rest c.args.texts.now c.args.rest.now)) = counted held (with_rest c.args.texts.now c.args.rest.now) _ _ room c.bytes_of-long.ensures in
    subst (λ (v : JournalContents g.row.D.Denot). FitsFile v.records (length (with_rest c.args.texts.now c.args.rest.now)) (length (blocks (with_rest c.args.texts.now c.args.rest.now)))) c.self.view_is (room_counted held (with_rest c.args.texts.now c.args.rest.now) _ _ room many_new exact)

pub returns-clause-limits : goal.returns-clause-limits
returns-clause-limits g c =
    let held = bodies_at c.self.inside.mirror.bytes.items c.self.inside.mirror.spans.items in
    let many : c.count.result ≡ length held = search rules in
    let whole : vec_len c.self.inside.mirror.bytes ≡ length (blocks held) = c.self.inside.mirror.bytes.ok.0 ∙ ap length c.self.invariant.0.parts in
    let many_new : length c.args.texts.now ≡ length (with_rest c.args.texts.now c.args.rest.now) = sym (rest_count c.args.texts.now c.args.rest.now) in
    let room = c.in_default.ensures.room held many (c.len.ensures ∙ whole) in
    let exact : c.bytes_of-long.result ≡ length (blocks (with_rest c.args.texts.now c.args.rest.now)) = counted held (with_rest c.args.texts.now c.args.rest.now) _ _ room c.bytes_of-long.ensures in
    subst (λ (v : JournalContents g.row.D.Denot). FitsFile v.records (length (with_rest c.args.texts.now c.args.rest.now)) (length (blocks (with_rest c.args.texts.now c.args.rest.now)))) c.self.view_is (room_counted held (with_rest c.args.texts.now c.args.rest.now) _ _ room many_new exact)

pub returns-then-is_err-clause-memory : goal.returns-then-is_err-clause-memory
returns-then-is_err-clause-memory g c = λ covered _.
    let held = bodies_at c.self.inside.mirror.bytes.items c.self.inside.mirror.spans.items in
    let many : c.count.result ≡ length held = search rules in
    let whole : vec_len c.self.inside.mirror.bytes ≡ length (blocks held) = c.self.inside.mirror.bytes.ok.0 ∙ ap length c.self.invariant.0.parts in
    let many_new : length c.args.texts.now ≡ length (with_rest c.args.texts.now c.args.rest.now) = sym (rest_count c.args.texts.now c.args.rest.now) in
    let room = c.in_default.ensures.room held many (c.len.ensures ∙ whole) in
    let exact : c.bytes_of-long.result ≡ length (blocks (with_rest c.args.texts.now c.args.rest.now)) = counted held (with_rest c.args.texts.now c.args.rest.now) _ _ room c.bytes_of-long.ensures in
    let before_records : c.self.inside.room.records ≡ c.args.self.now.room_records = search rules in
    let before_bytes : c.self.inside.room.bytes ≡ c.args.self.now.room_bytes = search rules in
    let ok = c.find_room.ensures.found (omega (arith, covered.0, many_new, before_records)) (omega (arith, covered.1, exact, many_new, before_bytes)) in
    ok_no_err c.find_room.result ok (sym c.is_err.ensures.value ∙ c.if-is_err.true)
