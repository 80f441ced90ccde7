use Rattle.std.proofs.Common.{rules, ◌≡◌, ◌<◌, ◌⊎◌, ◌++◌, ◌+◌, ◌∷◌, [], List, ℕ, IsTrue, length, take, subst, sym, ap, refl, ◌∙◌, arith, append-nil, vec_len}
use Rattle.std.proofs.lemmas.List.{take_all}
use Rattle.depot_base.specs.Calls.{calls_to_append_all, made}
use Rattle.depot_base.specs.File.{StandsFor, blocks}
use Rattle.depot_base.proofs.CallLaws.{fails_next, made_next}
use Rattle.depot_base.proofs.Writing.{on_err_from}
use Rattle.depot_journal.proofs.DiskCalls.{one_failed}
use Rattle.depot_journal.specs.Mirrored.{bodies_at}
use Rattle.depot_base.specs.WithRest.{with_rest}
use Rattle.depot_journal.specs.WriteSteps.{IsBeforeOrAfter, StandsBetween}
use Rattle.depot_journal.proofs.Moments.{started, weaker, joined}
use Rattle.depot_journal.proofs.Walk.{between, between_first, blocks_front, bodies_next, gate_behind, next_long, next_stands}
use Rattle.depot_base.proofs.WithRestLaws.{rest_count, rest_next}
use Rattle.depot_journal.proofs.mirror.append_each.Goals as goal

pub loop-place-init : goal.loop-place-init
loop-place-init g c =
    let old = c.args.mirror.now in
    record {
      mirror = c.requires.mirror;
      bodies = sym (append-nil (bodies_at old.bytes.items old.spans.items));
      space = record { count = omega arith; long = omega arith; spans_left = omega arith; bytes_left = omega arith; disk = record { bytes_left = omega arith; calls_left = omega arith } };
      handle = refl;
      tells = refl;
      rests = c.requires.rests;
      images = λ told. started g.D.Disk.moment g.D.Disk.left_since old.disk (StandsBetween (bodies_at old.bytes.items old.spans.items) (with_rest c.args.texts.now c.args.rest.now))
          (λ f left. between_first (g.D.Disk.seen old.disk) f (bodies_at old.bytes.items old.spans.items) (with_rest c.args.texts.now c.args.rest.now) (vec_len old.bytes) (c.requires.rests.stands told) (c.requires.rests.stable told f (g.met.D.Disk.only_now old.disk f left)));
      calls = g.met.D.Disk.after_none old.disk;
      faults = refl;
      faultless = λ f. f;
    }

pub append_one-requires-clause-space : goal.append_one-requires-clause-space
append_one-requires-clause-space g c =
    let i = c.loop-place.place in
    let was = c.loop-place.invariant.space in
    let text = c.as_slice.result.now ++ c.rest_behind-behind.result.now in
    let all = with_rest c.args.texts.now c.args.rest.now in
    let next : take (i + 1) all ≡ take i all ++ text ∷ [] = rest_next c.args.texts.now c.args.rest.now i c.index-texts-place.result c.as_slice.result.now c.rest_behind-behind.result.now c.loop-place-test.true c.index-texts-place.is c.as_slice.ensures c.rest_behind-behind.ensures.last c.rest_behind-behind.ensures.other in
    let long : length (blocks (take (i + 1) all)) ≡ length (blocks (take i all)) + (5 + length text) = next_long all i text next in
    let few : i < length all = omega (arith, c.loop-place-test.true, rest_count c.args.texts.now c.args.rest.now) in
    record {
      spans_fit = omega (arith, was.count, was.spans_left, c.requires.space.spans_fit, few);
      blocks_fit = omega (arith, was.long, was.bytes_left, c.requires.space.blocks_fit, few, long, blocks_front all (i + 1));
      written_fit = omega (arith, was.disk.bytes_left, c.requires.space.written_fit, few, long, blocks_front all (i + 1));
      calls_fit = omega (arith, was.disk.calls_left, c.requires.space.calls_fit, few);
    }

pub append_one-requires-clause-short : goal.append_one-requires-clause-short
append_one-requires-clause-short g c =
    let i = c.loop-place.place in
    let was = c.loop-place.invariant in
    let text = c.as_slice.result.now ++ c.rest_behind-behind.result.now in
    let all = with_rest c.args.texts.now c.args.rest.now in
    let next : take (i + 1) all ≡ take i all ++ text ∷ [] = rest_next c.args.texts.now c.args.rest.now i c.index-texts-place.result c.as_slice.result.now c.rest_behind-behind.result.now c.loop-place-test.true c.index-texts-place.is c.as_slice.ensures c.rest_behind-behind.ensures.last c.rest_behind-behind.ensures.other in
    omega (arith, was.space.long, c.requires.short, next_long all i text next, blocks_front all (i + 1))

pub loop-place-preserved : goal.loop-place-preserved
loop-place-preserved g c =
    let i = c.loop-place.place in
    let was = c.loop-place.invariant in
    let did = c.in_ok-append_one.ensures in
    let text = c.as_slice.result.now ++ c.rest_behind-behind.result.now in
    let all = with_rest c.args.texts.now c.args.rest.now in
    let next : take (i + 1) all ≡ take i all ++ text ∷ [] = rest_next c.args.texts.now c.args.rest.now i c.index-texts-place.result c.as_slice.result.now c.rest_behind-behind.result.now c.loop-place-test.true c.index-texts-place.is c.as_slice.ensures c.rest_behind-behind.ensures.last c.rest_behind-behind.ensures.other in
    let long : length (blocks (take (i + 1) all)) ≡ length (blocks (take i all)) + (5 + length text) = next_long all i text next in
    let before = bodies_at c.args.mirror.now.bytes.items c.args.mirror.now.spans.items in
    let at = bodies_at c.loop-place.mirror.bytes.items c.loop-place.mirror.spans.items in
    let gate : vec_len c.loop-place.mirror.bytes ≡ vec_len c.args.mirror.now.bytes + length (blocks (take i all)) =
    omega (arith, gate_behind c.args.mirror.now.bytes.items c.loop-place.mirror.bytes.items before at (take i all) c.requires.mirror.parts was.mirror.parts was.bodies, c.args.mirror.now.bytes.ok.0, c.loop-place.mirror.bytes.ok.0) in
    record {
      mirror = did.mirror;
      bodies = bodies_next before at (bodies_at c.append_one.new.mirror.bytes.items c.append_one.new.mirror.spans.items) all text i was.bodies next did.bodies;
      space = record {
        count = omega (arith, was.space.count, did.space.count);
        long = omega (arith, was.space.long, did.space.long, long);
        spans_left = omega (arith, was.space.spans_left, did.space.spans_left);
        bytes_left = omega (arith, was.space.bytes_left, did.space.bytes_left);
        disk = record {
          bytes_left = omega (arith, was.space.disk.bytes_left, did.space.disk.bytes_left, long);
          calls_left = omega (arith, was.space.disk.calls_left, did.space.disk.calls_left);
        };
      };
      handle = did.disk.handle ∙ was.handle;
      tells = did.disk.tells ∙ was.tells;
      rests = did.rests;
      images = λ told. joined g.D.Disk.moment g.D.Disk.left_since c.args.mirror.now.disk c.loop-place.mirror.disk c.append_one.new.mirror.disk (StandsBetween before all) (was.images told)
          (weaker g.D.Disk.moment g.D.Disk.left_since c.loop-place.mirror.disk c.append_one.new.mirror.disk (IsBeforeOrAfter at (text ∷ [])) _ (did.any_moment (subst IsTrue (sym was.tells) told))
          (λ f p. between f before all at text i was.bodies next p));
      calls = made_next g.D.Disk.after g.met.D.Disk.after_more c.args.mirror.now.disk c.loop-place.mirror.disk c.append_one.new.mirror.disk (vec_len c.args.mirror.now.bytes) (vec_len c.loop-place.mirror.bytes) all i text next gate was.calls (did.made.all refl);
      faults = search rules;
      faultless = λ f. (did.disk.faultless (was.faultless f)).0;
    }

pub returns-in_err-append_one-clause-fails : goal.returns-in_err-append_one-clause-fails
returns-in_err-append_one-clause-fails g c =
    let i = c.loop-place.place in
    let was = c.loop-place.invariant in
    let did = c.append_one.ensures in
    let text = c.as_slice.result.now ++ c.rest_behind-behind.result.now in
    let all = with_rest c.args.texts.now c.args.rest.now in
    let next : take (i + 1) all ≡ take i all ++ text ∷ [] = rest_next c.args.texts.now c.args.rest.now i c.index-texts-place.result c.as_slice.result.now c.rest_behind-behind.result.now c.loop-place-test.true c.index-texts-place.is c.as_slice.ensures c.rest_behind-behind.ensures.last c.rest_behind-behind.ensures.other in
    let before = bodies_at c.args.mirror.now.bytes.items c.args.mirror.now.spans.items in
    let at = bodies_at c.loop-place.mirror.bytes.items c.loop-place.mirror.spans.items in
    let kept : bodies_at c.append_one.new.mirror.bytes.items c.append_one.new.mirror.spans.items ≡ at = c.in_err-append_one.ensures.kept in
    on_err_from c.from_residual.result (record {
      count = i;
      fewer = omega (arith, c.loop-place-test.true, rest_count c.args.texts.now c.args.rest.now);
      front = kept ∙ was.bodies;
      stable = λ told image left.
          let moments = did.any_moment (subst IsTrue (sym was.tells) told) in
          let either : IsBeforeOrAfter at (text ∷ []) image = moments.each image (g.met.D.Disk.counts_now c.append_one.new.mirror.disk (g.D.Disk.moment c.loop-place.mirror.disk) image moments.later left) in
          subst (λ (l : List (List ℕ)). StandsFor image l ⊎ StandsFor image (before ++ take (i + 1) all)) (sym kept) (next_stands image before all at text i was.bodies next either);
    })

pub returns-in_err-append_one-clause-any_moment : goal.returns-in_err-append_one-clause-any_moment
returns-in_err-append_one-clause-any_moment g c = λ told.
    let i = c.loop-place.place in
    let was = c.loop-place.invariant in
    let text = c.as_slice.result.now ++ c.rest_behind-behind.result.now in
    let all = with_rest c.args.texts.now c.args.rest.now in
    let next : take (i + 1) all ≡ take i all ++ text ∷ [] = rest_next c.args.texts.now c.args.rest.now i c.index-texts-place.result c.as_slice.result.now c.rest_behind-behind.result.now c.loop-place-test.true c.index-texts-place.is c.as_slice.ensures c.rest_behind-behind.ensures.last c.rest_behind-behind.ensures.other in
    let before = bodies_at c.args.mirror.now.bytes.items c.args.mirror.now.spans.items in
    let at = bodies_at c.loop-place.mirror.bytes.items c.loop-place.mirror.spans.items in
    joined g.D.Disk.moment g.D.Disk.left_since c.args.mirror.now.disk c.loop-place.mirror.disk c.append_one.new.mirror.disk (StandsBetween before all) (was.images told)
    (weaker g.D.Disk.moment g.D.Disk.left_since c.loop-place.mirror.disk c.append_one.new.mirror.disk (IsBeforeOrAfter at (text ∷ [])) _ (c.append_one.ensures.any_moment (subst IsTrue (sym was.tells) told))
    (λ f p. between f before all at text i was.bodies next p))

pub returns-in_err-append_one-clause-space : goal.returns-in_err-append_one-clause-space
returns-in_err-append_one-clause-space g c =
    let i = c.loop-place.place in
    let was = c.loop-place.invariant.space in
    let did = c.append_one.ensures.space in
    let text = c.as_slice.result.now ++ c.rest_behind-behind.result.now in
    let all = with_rest c.args.texts.now c.args.rest.now in
    let next : take (i + 1) all ≡ take i all ++ text ∷ [] = rest_next c.args.texts.now c.args.rest.now i c.index-texts-place.result c.as_slice.result.now c.rest_behind-behind.result.now c.loop-place-test.true c.index-texts-place.is c.as_slice.ensures c.rest_behind-behind.ensures.last c.rest_behind-behind.ensures.other in
    let long : length (blocks (take (i + 1) all)) ≡ length (blocks (take i all)) + (5 + length text) = next_long all i text next in
    let few : i < length all = omega (arith, c.loop-place-test.true, rest_count c.args.texts.now c.args.rest.now) in
    record {
      count = omega (arith, was.count, did.count, few);
      long = omega (arith, was.long, did.long, long, blocks_front all (i + 1));
      spans_left = omega (arith, was.spans_left, did.spans_left);
      bytes_left = omega (arith, was.bytes_left, did.bytes_left);
      disk = record {
        bytes_left = omega (arith, was.disk.bytes_left, did.disk.bytes_left, few, long, blocks_front all (i + 1));
        calls_left = omega (arith, was.disk.calls_left, did.disk.calls_left, few);
      };
    }

pub returns-in_err-append_one-clause-made : goal.returns-in_err-append_one-clause-made
returns-in_err-append_one-clause-made g c =
    let i = c.loop-place.place in
    let was = c.loop-place.invariant in
    let text = c.as_slice.result.now ++ c.rest_behind-behind.result.now in
    let all = with_rest c.args.texts.now c.args.rest.now in
    let next : take (i + 1) all ≡ take i all ++ text ∷ [] = rest_next c.args.texts.now c.args.rest.now i c.index-texts-place.result c.as_slice.result.now c.rest_behind-behind.result.now c.loop-place-test.true c.index-texts-place.is c.as_slice.ensures c.rest_behind-behind.ensures.last c.rest_behind-behind.ensures.other in
    let before = bodies_at c.args.mirror.now.bytes.items c.args.mirror.now.spans.items in
    let at = bodies_at c.loop-place.mirror.bytes.items c.loop-place.mirror.spans.items in
    let gate : vec_len c.loop-place.mirror.bytes ≡ vec_len c.args.mirror.now.bytes + length (blocks (take i all)) =
    omega (arith, gate_behind c.args.mirror.now.bytes.items c.loop-place.mirror.bytes.items before at (take i all) c.requires.mirror.parts was.mirror.parts was.bodies, c.args.mirror.now.bytes.ok.0, c.loop-place.mirror.bytes.ok.0) in
    one_failed g.D.Disk c.args.mirror.now.disk c.append_one.new.mirror.disk (calls_to_append_all (vec_len c.args.mirror.now.bytes) all) c.from_residual.result _ c.from_residual.ensures.1
    (fails_next g.D.Disk.after g.met.D.Disk.after_more c.args.mirror.now.disk c.loop-place.mirror.disk c.append_one.new.mirror.disk (vec_len c.args.mirror.now.bytes) (vec_len c.loop-place.mirror.bytes) all i text next gate was.calls (c.in_err-append_one.ensures.made.failing refl))

pub returns-clause-made : goal.returns-clause-made
returns-clause-made g c =
    let old = c.args.mirror.now in
    record {
      all = λ _. subst (λ (l : List (List ℕ)). g.D.Disk.after old.disk (made (calls_to_append_all (vec_len old.bytes) l)) c.loop-place.mirror.disk) (take_all c.loop-place.place (with_rest c.args.texts.now c.args.rest.now) (omega (arith, c.loop-place-test.false, rest_count c.args.texts.now c.args.rest.now))) c.loop-place.invariant.calls;
      failing = λ failed. absurd cc;
    }

pub returns-clause-bodies : goal.returns-clause-bodies
returns-clause-bodies g c =
    let old = c.args.mirror.now in
    c.loop-place.invariant.bodies ∙ ap (λ (l : List (List ℕ)). bodies_at old.bytes.items old.spans.items ++ l) (take_all c.loop-place.place (with_rest c.args.texts.now c.args.rest.now) (omega (arith, c.loop-place-test.false, rest_count c.args.texts.now c.args.rest.now)))

pub returns-clause-space : goal.returns-clause-space
returns-clause-space g c =
    let was = c.loop-place.invariant.space in
    let all = with_rest c.args.texts.now c.args.rest.now in
    let front = blocks_front all c.loop-place.place in
    let end = c.loop-place.auto.place-end in
    let many = rest_count c.args.texts.now c.args.rest.now in
    record {
      count = omega (arith, was.count, end, many);
      long = omega (arith, was.long, front);
      spans_left = was.spans_left;
      bytes_left = was.bytes_left;
      disk = record { bytes_left = omega (arith, was.disk.bytes_left, front, end, many); calls_left = omega (arith, was.disk.calls_left, end, many) };
    }
