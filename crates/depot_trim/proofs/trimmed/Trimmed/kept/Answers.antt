use Rattle.std.proofs.Common.{length, arith, ap}
use Rattle.std.proofs.lemmas.List.{length-map}
use Rattle.depot_trim.specs.ReaderView.{mark_of}
use Rattle.depot_trim.proofs.ReaderReads.{kept_count}
use Rattle.depot_trim.proofs.trimmed.Trimmed.kept.Goals as goal

pub returns : goal.returns
returns g c = λ R r.
    let count = kept_count R r.lawful r.below in
    omega (arith, c.saturating_sub.ensures, c.accepted.ensures R r, c.len.ensures, ap length r.marks, length-map R.trimmed mark_of, count)
