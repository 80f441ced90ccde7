use Rattle.std.proofs.Common.{subst}
use Rattle.depot_trim.specs.ReaderAnswers.{Trims}
use Rattle.depot_service.proofs.ServedReaders.{none_made, one_made}
use Rattle.depot_service.proofs.reader_serving.made_reader.Goals as goal

pub returns-in-Ok : goal.returns-in-Ok
returns-in-Ok g c = λ here J text trims.
    one_made g.S.Scheme.verifies here J text c.in-Ok.reader c.kept.result c.accepted.result (subst (λ m. Trims g.S.Scheme.verifies here J text m) c.in-Ok.is trims) c.kept.ensures c.accepted.ensures

pub returns-in_ok-reply-in-Err : goal.returns-in_ok-reply-in-Err
returns-in_ok-reply-in-Err g c = λ here J text trims.
    none_made g.S.Scheme.verifies here J text c.in-Err.error c.in_ok-reply-in-Err.reply (subst (λ m. Trims g.S.Scheme.verifies here J text m) c.in-Err.is trims) c.in_ok-reply-in-Err.ensures
