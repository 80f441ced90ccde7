use Rattle.std.proofs.lemmas.Result.{err_from_is_err_and}
use Rattle.depot_service.proofs.ServedReaders.{stream_used}
use Rattle.depot_service.proofs.reader_serving.give_reader.Goals as goal

pub returns : goal.returns
returns g c = λ R is. stream_used g.S.Scheme.verifies R c.args.stream.now c.in_ok-told.told c.feed_reader.new.reader (c.in_ok-told.ensures R is)

pub returns-in_err-told : goal.returns-in_err-told
returns-in_err-told g c = λ R is.
    let p = err_from_is_err_and c.from_residual.result c.from_residual.ensures.1 in
    rw p.1 (c.in_err-told.ensures R is)
