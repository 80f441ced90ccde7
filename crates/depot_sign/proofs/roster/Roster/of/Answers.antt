use Rattle.depot_sign.proofs.RosterParsing.{text_is_kept}
use Rattle.depot_sign.proofs.roster.Roster.of.Goals as goal

pub invariant_of-result : goal.invariant_of-result
invariant_of-result c = rw (c.from_vec.ensures, c.in_ok-from_slice.ensures.items, c.hash_of.ensures, c.as_slice.ensures, c.in_ok-text.ensures) (text_is_kept c.args.entries.now c.requires)
