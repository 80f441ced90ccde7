-- A row of the history text, written in three parts.
use Rattle.std.proofs.Common.{append_assoc}
use Rattle.std.proofs.lemmas.List.{append-nil}

pub ruleset row_laws = (append_assoc, append-nil)
