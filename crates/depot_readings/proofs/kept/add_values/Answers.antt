use Rattle.std.proofs.Common.{length, sym, ap, ◌∙◌, arith}
use Rattle.std.proofs.lemmas.List.{nil_from_length}
use Rattle.depot_base.proofs.MembershipLaws.{in_read}
use Rattle.depot_readings.proofs.AddingLaws.{none_in, next_hash, place_low, in_next, all_in}
use Rattle.depot_readings.proofs.kept.add_values.Goals as goal

pub loop-value-init : goal.loop-value-init
loop-value-init c =
    let made = c.into_iter-value-iterator.ensures.into_iter_gives in
    record {
      count = omega (arith, ap length made.0, made.1, c.args.values.ok.0);
      added = none_in _ _ _ made.0;
      room = c.requires.room;
    }

pub add_hashed-requires : goal.add_hashed-requires
add_hashed-requires c =
    next_hash c.args.names.now c.args.values.items _ _ c.in-Some.value c.loop-value.place c.in-Some-get.name.now c.args.kept.now c.loop-value.kept c.requires.hashed c.in-Some.ensures.steps.0 c.in-Some-get.ensures.lookup.1 c.loop-value.invariant.added

pub loop-value-preserved : goal.loop-value-preserved
loop-value-preserved c =
    let next = c.in-Some.ensures.steps.0 in
    record {
      count = omega (arith, ap length next, c.in-Some.ensures.steps.1, c.loop-value.invariant.count);
      added = in_next _ _ _ c.in-Some.value c.in-Some-get.name.now.hash c.loop-value.place _ _ _ c.add_hashed.result next
          (next_hash c.args.names.now c.args.values.items _ _ c.in-Some.value c.loop-value.place c.in-Some-get.name.now c.args.kept.now c.loop-value.kept c.requires.hashed next c.in-Some-get.ensures.lookup.1 c.loop-value.invariant.added)
          (c.add_hashed.ensures.succeeds (c.loop-value.invariant.room c.in-Some-get.name.now (in_read c.in-Some-get.name.now c.args.names.now c.loop-value.place
          (place_low c.args.names.now c.args.values.items _ _ c.in-Some.value c.loop-value.place c.args.kept.now c.loop-value.kept c.requires.hashed next c.loop-value.invariant.added) (sym c.in-Some-get.ensures.lookup.1))))
          (record { known = c.add_hashed.ensures.known; new = c.add_hashed.ensures.new; else_stays = c.add_hashed.ensures.else_stays; others_stay = c.add_hashed.ensures.others_stay }) c.loop-value.invariant.added;
      room = λ n on. c.add_hashed.ensures.room_stays n.hash (c.loop-value.invariant.room n on);
    }

pub returns : goal.returns
returns c = all_in _ _ _ _ _ (nil_from_length _ (sym c.loop-value.invariant.count ∙ c.in-None.ensures.steps.0)) c.loop-value.invariant.added
