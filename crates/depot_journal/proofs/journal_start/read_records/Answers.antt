use Rattle.std.proofs.Common.{rules, ◌≡◌, ◌-◌, ◌∷◌, [], min, List, ℕ, length, take, vec_len, sym, ap, ◌∙◌, subst, arith}
use Rattle.depot_base.specs.Calls.{FailsAmong, made, reads_at}
use Rattle.depot_base.specs.File.{AreWithinLimits}
use Rattle.depot_base.specs.declared.limits.TheConstants.{MOST_JOURNAL}
use Rattle.depot_base.proofs.CallLaws.{fails_first}
use Rattle.depot_journal.specs.Mirrored.{EndWithin, IsMirror, bodies_at}
use Rattle.depot_journal.specs.WriteSteps.{StandsTo}
use Rattle.depot_journal.proofs.DiskCalls.{no_ok}
use Rattle.depot_journal.proofs.FileParsing.{cut_bodies, cut_long, cut_mirror, damage_of, stands_in}
use Rattle.depot_journal.proofs.journal_start.read_records.Goals as goal

pub returns-clause-mirror : goal.returns-clause-mirror
returns-clause-mirror g c =
    let whole : c.deref.result.now ≡ c.read_front.new.bytes.items = search rules in
    let stands : StandsTo c.deref.result.now (bodies_at c.deref.result.now c.in-Ok.parsed.spans.items) c.in-Ok.parsed.end = search rules in
    subst (λ (l : List ℕ). IsMirror l c.in-Ok.parsed.spans.items) (ap (take c.in-Ok.parsed.end) whole ∙ sym c.truncate.ensures.items) (cut_mirror c.deref.result.now c.in-Ok.parsed.spans.items c.in-Ok.parsed.end stands (search rules))

pub returns-clause-within : goal.returns-clause-within
returns-clause-within g c =
    let whole : c.deref.result.now ≡ c.read_front.new.bytes.items = search rules in
    let stands : StandsTo c.deref.result.now (bodies_at c.deref.result.now c.in-Ok.parsed.spans.items) c.in-Ok.parsed.end = search rules in
    let limits : AreWithinLimits (bodies_at c.deref.result.now c.in-Ok.parsed.spans.items) = search rules in
    let within : EndWithin c.in-Ok.parsed.end c.in-Ok.parsed.spans.items = search rules in
    subst (λ (l : List ℕ). AreWithinLimits (bodies_at l c.in-Ok.parsed.spans.items)) (ap (take c.in-Ok.parsed.end) whole ∙ sym c.truncate.ensures.items)
    (subst AreWithinLimits (sym (cut_bodies c.deref.result.now c.in-Ok.parsed.spans.items c.in-Ok.parsed.end stands within)) limits)

pub returns-clause-stands : goal.returns-clause-stands
returns-clause-stands g c = λ told.
    let whole : c.deref.result.now ≡ c.read_front.new.bytes.items = search rules in
    let stands : StandsTo c.deref.result.now (bodies_at c.deref.result.now c.in-Ok.parsed.spans.items) c.in-Ok.parsed.end = search rules in
    let within : EndWithin c.in-Ok.parsed.end c.in-Ok.parsed.spans.items = search rules in
    let read : c.read_front.new.bytes.items ≡ take (vec_len c.in_ok-bytes.bytes - 0) (g.D.Disk.seen c.args.disk.now) = search rules in
    let items : take c.in-Ok.parsed.end c.deref.result.now ≡ c.truncate.new.self.items = ap (take c.in-Ok.parsed.end) whole ∙ sym c.truncate.ensures.items in
    let bodies : bodies_at c.deref.result.now c.in-Ok.parsed.spans.items ≡ bodies_at c.truncate.new.self.items c.in-Ok.parsed.spans.items =
    sym (cut_bodies c.deref.result.now c.in-Ok.parsed.spans.items c.in-Ok.parsed.end stands within) ∙ ap (λ (l : List ℕ). bodies_at l c.in-Ok.parsed.spans.items) items in
    let end : c.in-Ok.parsed.end ≡ vec_len c.truncate.new.self = omega (arith, ap length items, cut_long c.deref.result.now _ c.in-Ok.parsed.end stands, c.truncate.new.self.ok.0) in
    let all = stands_in (g.D.Disk.seen c.args.disk.now) c.deref.result.now (vec_len c.in_ok-bytes.bytes - 0) _ _ (whole ∙ read) stands in
    subst (λ (n : ℕ). StandsTo (g.D.Disk.seen c.args.disk.now) (bodies_at c.truncate.new.self.items c.in-Ok.parsed.spans.items) n) end
    (subst (λ (l : List (List ℕ)). StandsTo (g.D.Disk.seen c.args.disk.now) l c.in-Ok.parsed.end) bodies all)

pub returns-in-Err-clause-damaged : goal.returns-in-Err-clause-damaged
returns-in-Err-clause-damaged g c = λ told.
    let whole : c.deref.result.now ≡ c.read_front.new.bytes.items = search rules in
    let read : c.read_front.new.bytes.items ≡ take (vec_len c.in_ok-bytes.bytes - 0) (g.D.Disk.seen c.args.disk.now) = search rules in
    let size = c.requires.file told in
    let least : vec_len c.in_ok-bytes.bytes ≡ c.min.result = search rules in
    damage_of (g.D.Disk.seen c.args.disk.now) c.deref.result.now (vec_len c.in_ok-bytes.bytes - 0) c.args.size (whole ∙ read) (omega (arith, least, c.min.ensures)) size c.in-Err.error c.in-Err.ensures.damaged

pub returns-in_err-read_front-clause-made : goal.returns-in_err-read_front-clause-made
returns-in_err-read_front-clause-made g c =
    let count : vec_len c.in_ok-bytes.bytes ≡ min c.args.size MOST_JOURNAL = search rules in
    record {
      all = λ done. absurd (no_ok c.from_residual-in_err-read_front.result _ c.from_residual-in_err-read_front.ensures.1 done);
      failing = λ _. subst (λ (n : ℕ). FailsAmong g.D.Disk.after c.args.disk.now c.read_front.new.disk (reads_at 0 n ∷ [])) count
          (fails_first g.D.Disk.after c.args.disk.now c.read_front.new.disk (reads_at 0 (vec_len c.in_ok-bytes.bytes)) [] c.in_err-read_front.ensures.made);
    }

pub returns-clause-made : goal.returns-clause-made
returns-clause-made g c =
    let count : vec_len c.in_ok-bytes.bytes ≡ min c.args.size MOST_JOURNAL = search rules in
    record {
      all = λ _. subst (λ (n : ℕ). g.D.Disk.after c.args.disk.now (made (reads_at 0 n ∷ [])) c.read_front.new.disk) count c.in_ok-read_front.ensures.made;
      failing = λ failed. absurd cc;
    }
