use Rattle.std.proofs.Common.{rules, ◌≡◌, ◌++◌, ◌+◌, ◌-◌, ◌∷◌, [], IsTrue, List, ℕ, length, take, drop, subst, sym, ap, ◌∙◌, arith, vec_len}
use Rattle.depot_base.specs.Calls.{FailsAmong, calls_to_append, made}
use Rattle.depot_base.specs.File.{closed_block, framed}
use Rattle.depot_journal.specs.Groups.{calls_to_open}
use Rattle.depot_journal.specs.Mirrored.{bodies_at}
use Rattle.depot_journal.specs.WriteSteps.{StandsTo}
use Rattle.depot_journal.specs.declared.span.Span.{Span}
use Rattle.depot_journal.proofs.DiskCalls.{ok_of}
use Rattle.depot_journal.proofs.RecordBlocks.{if_not_err}
use Rattle.depot_journal.proofs.Mirrors.{behind_gate, open_block, put_long, closed_long, bodies_more, mirror_more}
use Rattle.depot_journal.proofs.mirror.append_one.Goals as goal

pub append_on-outcome-requires-clause-room : goal.append_on-outcome-requires-clause-room
append_on-outcome-requires-clause-room g c =
    let gate : c.len-gate.result ≡ length c.args.mirror.now.bytes.items = omega (arith, c.len-gate.ensures, c.args.mirror.now.bytes.ok.0) in
    let block : take (length c.deref.result.now - (c.len-gate.result + 1)) (drop (c.len-gate.result + 1) c.deref.result.now) ≡ closed_block (c.args.head.now ++ c.args.rest.now) = behind_gate _ _ c.deref.result.now (c.args.head.now ++ c.args.rest.now) c.len-gate.result c.deref.ensures.value c.put_block.ensures.block gate in
    omega (arith, ap length block, closed_long (c.args.head.now ++ c.args.rest.now), c.requires.space.written_fit)

pub overflow_cast-end : goal.overflow_cast-end
overflow_cast-end g c =
    let long : length c.put_block.new.bytes.items ≡ length c.args.mirror.now.bytes.items + (6 + length (c.args.head.now ++ c.args.rest.now)) = put_long _ _ _ c.put_block.ensures.block in
    let end : c.len-end.result ≡ length c.put_block.new.bytes.items = omega (arith, c.len-end.ensures, c.put_block.new.bytes.ok.0) in
    omega (arith, end, long, c.requires.short, c.args.mirror.now.bytes.ok.0)

pub returns-then-is_err-clause-space : goal.returns-then-is_err-clause-space
returns-then-is_err-clause-space g c =
    let gate : c.len-gate.result ≡ length c.args.mirror.now.bytes.items = omega (arith, c.len-gate.ensures, c.args.mirror.now.bytes.ok.0) in
    let block : take (length c.deref.result.now - (c.len-gate.result + 1)) (drop (c.len-gate.result + 1) c.deref.result.now) ≡ closed_block (c.args.head.now ++ c.args.rest.now) = behind_gate _ _ c.deref.result.now (c.args.head.now ++ c.args.rest.now) c.len-gate.result c.deref.ensures.value c.put_block.ensures.block gate in
    let long : length c.put_block.new.bytes.items ≡ length c.args.mirror.now.bytes.items + (6 + length (c.args.head.now ++ c.args.rest.now)) = put_long _ _ _ c.put_block.ensures.block in
    record {
      count = omega arith;
      long = omega (arith, gate, long, c.put_block.new.bytes.ok.0, c.args.mirror.now.bytes.ok.0, c.truncate.ensures.len);
      spans_left = omega arith;
      bytes_left = search rules;
      disk = record { bytes_left = omega (arith, ap length block, closed_long (c.args.head.now ++ c.args.rest.now), c.append_on-outcome.ensures.room.bytes_left); calls_left = omega (arith, c.append_on-outcome.ensures.room.calls_left) };
    }

pub returns-then-is_err-clause-made : goal.returns-then-is_err-clause-made
returns-then-is_err-clause-made g c =
    let gate : c.len-gate.result ≡ length c.args.mirror.now.bytes.items = omega (arith, c.len-gate.ensures, c.args.mirror.now.bytes.ok.0) in
    let block : take (length c.deref.result.now - (c.len-gate.result + 1)) (drop (c.len-gate.result + 1) c.deref.result.now) ≡ closed_block (c.args.head.now ++ c.args.rest.now) = behind_gate _ _ c.deref.result.now (c.args.head.now ++ c.args.rest.now) c.len-gate.result c.deref.ensures.value c.put_block.ensures.block gate in
    let fails = c.append_on-outcome.ensures.made.failing (sym c.is_err.ensures.value ∙ c.if-is_err.true) in
    record {
      all = λ done. absurd cc;
      failing = λ _. subst (λ (n : ℕ). FailsAmong g.D.Disk.after c.args.mirror.now.disk c.append_on-outcome.new.disk (calls_to_append n (c.args.head.now ++ c.args.rest.now))) c.len-gate.ensures
          (subst (λ (b : List ℕ). FailsAmong g.D.Disk.after c.args.mirror.now.disk c.append_on-outcome.new.disk (calls_to_open c.len-gate.result b)) block fails);
    }

pub returns-then-is_err-clause-any_moment : goal.returns-then-is_err-clause-any_moment
returns-then-is_err-clause-any_moment g c = λ told.
    let gate : c.len-gate.result ≡ length c.args.mirror.now.bytes.items = omega (arith, c.len-gate.ensures, c.args.mirror.now.bytes.ok.0) in
    let block : take (length c.deref.result.now - (c.len-gate.result + 1)) (drop (c.len-gate.result + 1) c.deref.result.now) ≡ closed_block (c.args.head.now ++ c.args.rest.now) = behind_gate _ _ c.deref.result.now (c.args.head.now ++ c.args.rest.now) c.len-gate.result c.deref.ensures.value c.put_block.ensures.block gate in
    let stands = subst (StandsTo (g.D.Disk.seen c.args.mirror.now.disk) (bodies_at c.args.mirror.now.bytes.items c.args.mirror.now.spans.items)) (sym c.len-gate.ensures) (c.requires.rests.stands told) in
    c.append_on-outcome.ensures.any_moment (bodies_at c.args.mirror.now.bytes.items c.args.mirror.now.spans.items) ((c.args.head.now ++ c.args.rest.now) ∷ []) told (omega arith) block stands (c.requires.rests.stable told)

pub returns-clause-space : goal.returns-clause-space
returns-clause-space g c =
    let gate : c.len-gate.result ≡ length c.args.mirror.now.bytes.items = omega (arith, c.len-gate.ensures, c.args.mirror.now.bytes.ok.0) in
    let block : take (length c.deref.result.now - (c.len-gate.result + 1)) (drop (c.len-gate.result + 1) c.deref.result.now) ≡ closed_block (c.args.head.now ++ c.args.rest.now) = behind_gate _ _ c.deref.result.now (c.args.head.now ++ c.args.rest.now) c.len-gate.result c.deref.ensures.value c.put_block.ensures.block gate in
    let long : length c.put_block.new.bytes.items ≡ length c.args.mirror.now.bytes.items + (6 + length (c.args.head.now ++ c.args.rest.now)) = put_long _ _ _ c.put_block.ensures.block in
    record {
      count = search rules;
      long = omega (arith, long, c.len-end.ensures, c.put_block.new.bytes.ok.0, c.args.mirror.now.bytes.ok.0, c.truncate-2.ensures.len);
      spans_left = search rules;
      bytes_left = search rules;
      disk = record { bytes_left = omega (arith, ap length block, closed_long (c.args.head.now ++ c.args.rest.now), c.append_on-outcome.ensures.room.bytes_left); calls_left = omega (arith, c.append_on-outcome.ensures.room.calls_left) };
    }

pub returns-clause-made : goal.returns-clause-made
returns-clause-made g c =
    let gate : c.len-gate.result ≡ length c.args.mirror.now.bytes.items = omega (arith, c.len-gate.ensures, c.args.mirror.now.bytes.ok.0) in
    let block : take (length c.deref.result.now - (c.len-gate.result + 1)) (drop (c.len-gate.result + 1) c.deref.result.now) ≡ closed_block (c.args.head.now ++ c.args.rest.now) = behind_gate _ _ c.deref.result.now (c.args.head.now ++ c.args.rest.now) c.len-gate.result c.deref.ensures.value c.put_block.ensures.block gate in
    let done = c.append_on-outcome.ensures.made.all (ok_of c.append_on-outcome.result (sym c.is_err.ensures.value ∙ c.if-is_err.false)) in
    record {
      all = λ _. subst (λ (n : ℕ). g.D.Disk.after c.args.mirror.now.disk (made (calls_to_append n (c.args.head.now ++ c.args.rest.now))) c.append_on-outcome.new.disk) c.len-gate.ensures
          (subst (λ (b : List ℕ). g.D.Disk.after c.args.mirror.now.disk (made (calls_to_open c.len-gate.result b)) c.append_on-outcome.new.disk) block done);
      failing = λ failed. absurd cc;
    }

pub returns-clause-any_moment : goal.returns-clause-any_moment
returns-clause-any_moment g c = λ told.
    let gate : c.len-gate.result ≡ length c.args.mirror.now.bytes.items = omega (arith, c.len-gate.ensures, c.args.mirror.now.bytes.ok.0) in
    let block : take (length c.deref.result.now - (c.len-gate.result + 1)) (drop (c.len-gate.result + 1) c.deref.result.now) ≡ closed_block (c.args.head.now ++ c.args.rest.now) = behind_gate _ _ c.deref.result.now (c.args.head.now ++ c.args.rest.now) c.len-gate.result c.deref.ensures.value c.put_block.ensures.block gate in
    let stands = subst (StandsTo (g.D.Disk.seen c.args.mirror.now.disk) (bodies_at c.args.mirror.now.bytes.items c.args.mirror.now.spans.items)) (sym c.len-gate.ensures) (c.requires.rests.stands told) in
    c.append_on-outcome.ensures.any_moment (bodies_at c.args.mirror.now.bytes.items c.args.mirror.now.spans.items) ((c.args.head.now ++ c.args.rest.now) ∷ []) told (omega arith) block stands (c.requires.rests.stable told)

pub returns-clause-mirror : goal.returns-clause-mirror
returns-clause-mirror g c =
    let gate : c.len-gate.result ≡ length c.args.mirror.now.bytes.items = omega (arith, c.len-gate.ensures, c.args.mirror.now.bytes.ok.0) in
    let long : length c.put_block.new.bytes.items ≡ length c.args.mirror.now.bytes.items + (6 + length (c.args.head.now ++ c.args.rest.now)) = put_long _ _ _ c.put_block.ensures.block in
    let end : c.len-end.result ≡ length c.put_block.new.bytes.items = omega (arith, c.len-end.ensures, c.put_block.new.bytes.ok.0) in
    let opened : c.truncate-2.new.self.items ≡ c.args.mirror.now.bytes.items ++ (1 ∷ framed (c.args.head.now ++ c.args.rest.now)) = c.truncate-2.ensures.items ∙ open_block _ _ (c.args.head.now ++ c.args.rest.now) (c.len-end.result - 1) c.put_block.ensures.block (omega (arith, end, long)) in
    let span : Span = record { start = c.len-gate.result + 5; end = c.len-end.result - 1 } in
    let pushed : c.push.new.self.items ≡ c.args.mirror.now.spans.items ++ span ∷ [] = search rules in
    mirror_more _ _ (c.args.head.now ++ c.args.rest.now) _ _ span c.requires.mirror opened pushed (omega (arith, gate)) (omega (arith, end, long))

pub returns-clause-bodies : goal.returns-clause-bodies
returns-clause-bodies g c =
    let gate : c.len-gate.result ≡ length c.args.mirror.now.bytes.items = omega (arith, c.len-gate.ensures, c.args.mirror.now.bytes.ok.0) in
    let long : length c.put_block.new.bytes.items ≡ length c.args.mirror.now.bytes.items + (6 + length (c.args.head.now ++ c.args.rest.now)) = put_long _ _ _ c.put_block.ensures.block in
    let end : c.len-end.result ≡ length c.put_block.new.bytes.items = omega (arith, c.len-end.ensures, c.put_block.new.bytes.ok.0) in
    let opened : c.truncate-2.new.self.items ≡ c.args.mirror.now.bytes.items ++ (1 ∷ framed (c.args.head.now ++ c.args.rest.now)) = c.truncate-2.ensures.items ∙ open_block _ _ (c.args.head.now ++ c.args.rest.now) (c.len-end.result - 1) c.put_block.ensures.block (omega (arith, end, long)) in
    let span : Span = record { start = c.len-gate.result + 5; end = c.len-end.result - 1 } in
    let pushed : c.push.new.self.items ≡ c.args.mirror.now.spans.items ++ span ∷ [] = search rules in
    bodies_more _ _ (c.args.head.now ++ c.args.rest.now) _ _ span c.requires.mirror opened pushed (omega (arith, gate)) (omega (arith, end, long))

pub returns-clause-rests : goal.returns-clause-rests
returns-clause-rests g c =
    let gate : c.len-gate.result ≡ length c.args.mirror.now.bytes.items = omega (arith, c.len-gate.ensures, c.args.mirror.now.bytes.ok.0) in
    let block : take (length c.deref.result.now - (c.len-gate.result + 1)) (drop (c.len-gate.result + 1) c.deref.result.now) ≡ closed_block (c.args.head.now ++ c.args.rest.now) = behind_gate _ _ c.deref.result.now (c.args.head.now ++ c.args.rest.now) c.len-gate.result c.deref.ensures.value c.put_block.ensures.block gate in
    let long : length c.put_block.new.bytes.items ≡ length c.args.mirror.now.bytes.items + (6 + length (c.args.head.now ++ c.args.rest.now)) = put_long _ _ _ c.put_block.ensures.block in
    let end : c.len-end.result ≡ length c.put_block.new.bytes.items = omega (arith, c.len-end.ensures, c.put_block.new.bytes.ok.0) in
    let opened : c.truncate-2.new.self.items ≡ c.args.mirror.now.bytes.items ++ (1 ∷ framed (c.args.head.now ++ c.args.rest.now)) = c.truncate-2.ensures.items ∙ open_block _ _ (c.args.head.now ++ c.args.rest.now) (c.len-end.result - 1) c.put_block.ensures.block (omega (arith, end, long)) in
    let span : Span = record { start = c.len-gate.result + 5; end = c.len-end.result - 1 } in
    let pushed : c.push.new.self.items ≡ c.args.mirror.now.spans.items ++ span ∷ [] = search rules in
    let bodies = bodies_more _ _ (c.args.head.now ++ c.args.rest.now) _ _ span c.requires.mirror opened pushed (omega (arith, gate)) (omega (arith, end, long)) in
    let written : List ℕ = take (length c.deref.result.now - (c.len-gate.result + 1)) (drop (c.len-gate.result + 1) c.deref.result.now) in
    let whole : vec_len c.truncate-2.new.self ≡ c.len-gate.result + length written = omega (arith, gate, end, long, c.truncate-2.ensures.len, c.put_block.new.bytes.ok.0, ap length block, closed_long (c.args.head.now ++ c.args.rest.now)) in
    let ok = if_not_err c.append_on-outcome.result _ (sym c.is_err.ensures.value ∙ c.if-is_err.false) c.append_on-outcome.ensures.ok in
    let before : IsTrue (g.D.Disk.tells c.append_on-outcome.new.disk) → IsTrue (g.D.Disk.tells c.args.mirror.now.disk) = λ told. subst IsTrue c.append_on-outcome.ensures.disk.tells told in
    record {
      stands = λ told.
          let stands = subst (StandsTo (g.D.Disk.seen c.args.mirror.now.disk) (bodies_at c.args.mirror.now.bytes.items c.args.mirror.now.spans.items)) (sym c.len-gate.ensures) (c.requires.rests.stands (before told)) in
          let done = ok (bodies_at c.args.mirror.now.bytes.items c.args.mirror.now.spans.items) ((c.args.head.now ++ c.args.rest.now) ∷ []) (before told) (omega arith) block stands in
          subst (λ (n : ℕ). StandsTo (g.D.Disk.seen c.append_on-outcome.new.disk) (bodies_at c.truncate-2.new.self.items c.push.new.self.items) n) (sym whole)
          (subst (λ (l : List (List ℕ)). StandsTo (g.D.Disk.seen c.append_on-outcome.new.disk) l (c.len-gate.result + length written)) (sym bodies) done);
      stable = λ told. if_not_err c.append_on-outcome.result _ (sym c.is_err.ensures.value ∙ c.if-is_err.false) c.append_on-outcome.ensures.stable (before told);
    }
