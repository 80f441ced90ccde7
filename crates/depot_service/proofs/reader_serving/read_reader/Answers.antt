use Rattle.std.proofs.Common.{ap}
use Rattle.std.proofs.lemmas.Result.{err_from_is_err_and}
use Rattle.depot_requests.specs.declared.reader_reply.ReaderReply.TheVariants as told
use Rattle.depot_service.proofs.reader_serving.read_reader.Goals as goal

pub returns : goal.returns
returns g c = λ R is. (ap (λ words. told.Read words) (c.in_ok-words.ensures R is), is)

pub returns-in_err-words : goal.returns-in_err-words
returns-in_err-words g c = λ R is.
    let p = err_from_is_err_and c.from_residual.result c.from_residual.ensures.1 in
    rw p.1 is
