-- What was read, and what is left.
use Rattle.std.proofs.Common.{◌≡◌, ◌≤◌, ◌++◌, length, vec_len}
use Rattle.depot_base.specs.declared.limits.TheConstants.{MOST_RECORDS}
use Rattle.depot_base.specs.File.{blocks}
use Rattle.depot_journal.specs.Mirrored.{EndWithin, bodies_at}
use Rattle.depot_journal.proofs.file_parse.parse.Given as goal

abbrev pub invariant-loop-text : goal.invariant-loop-text
invariant-loop-text l = record {
  read : l.file ≡ blocks (bodies_at l.file l.spans.items) ++ l.rest;
  at : l.end ≡ length (blocks (bodies_at l.file l.spans.items));
  within : EndWithin l.end l.spans.items;
  few : vec_len l.spans ≤ MOST_RECORDS;
  left : 1 ≤ length l.rest;
}

abbrev pub decreases-loop-text : goal.decreases-loop-text
decreases-loop-text l = length l.rest
