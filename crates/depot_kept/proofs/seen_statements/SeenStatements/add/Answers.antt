use Rattle.std.proofs.Common.{◌≡◌, length, sym, ap, ◌∙◌, arith}
use Rattle.std.proofs.lemmas.List.{length-map}
use Rattle.depot_kept.specs.Entries.{kept_signed}
use Rattle.depot_kept.specs.Opponents.{KeptSigned}
use Rattle.depot_kept.proofs.KeepLaws.{kept_more, seen_more}
use Rattle.depot_kept.proofs.seen_statements.SeenStatements.add.Goals as goal

pub list_marks-requires-clause-few : goal.list_marks-requires-clause-few
list_marks-requires-clause-few c =
    let few = c.self.invariant.few in
    let kept : length c.self.inside.entries.items ≡ length c.args.self.now.kept = sym (length-map c.self.inside.entries.items kept_signed) ∙ ap (λ (k : KeptSigned). length k.kept) c.self.view_is in
    omega (arith, few, kept, c.requires.few, c.in_ok-reserve-2.ensures.count)

pub invariant_of-self-2 : goal.invariant_of-self-2
invariant_of-self-2 c =
    rw (c.push_reserved.ensures.items, c.in_ok-reserve.ensures.items)
    (kept_more _ c.self.inside.table c.reserve-2.new.self c.list_marks.new.table c.args.signed c.args.id c.len-place.result c.self.invariant c.requires.text c.requires.id (omega arith) c.in_ok-reserve-2.ensures.same (omega (arith, c.in_ok-reserve-2.ensures.count, c.list_marks.ensures.count)) c.list_marks.ensures.listed)

pub returns-clause-ok : goal.returns-clause-ok
returns-clause-ok c =
    rw (c.push_reserved.ensures.items, c.in_ok-reserve.ensures.items)
    (seen_more _ _ c.args.signed c.args.id c.requires.text (ap (λ (k : KeptSigned). k.kept) c.self.view_is))
