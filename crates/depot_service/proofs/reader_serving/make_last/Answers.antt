use Rattle.std.proofs.Common.{◌≡◌, Some, subst}
use Rattle.depot_model.specs.readers.Readers.{trim_of}
use Rattle.depot_service.specs.ReaderCalls.{IsReaderServed}
use Rattle.depot_requests.specs.ReaderRequests.{made_served, reader_served}
use Rattle.depot_requests.specs.declared.reader_request.ReaderRequest.TheVariants as asks
use Rattle.depot_service.proofs.ServedReaders.{made_serves}
use Rattle.depot_service.proofs.reader_serving.make_last.Goals as goal

pub returns-in-Some-clause-serves : goal.returns-in-Some-clause-serves
returns-in-Some-clause-serves g c = λ last keeps.
    let here = g.N.NodeState.stands c.args.node.now in
    let J = g.N.NodeState.records c.args.node.now in
    let reply = c.in_ok-reply.field-0.reply in
    let is : c.in_ok-reply.field-0.reader ≡ Some c.in-Some.reader = cc in
    let served = subst (λ o. IsReaderServed g.S.Scheme.verifies (made_served (trim_of here J c.as_slice.result.now)) reply o) is c.in_ok-reply.ensures in
    subst (λ text. IsReaderServed g.S.Scheme.verifies (reader_served here J last (asks.Trim text)) reply (Some c.in-Some.reader)) c.as_slice.ensures
    (made_serves g.S.Scheme.verifies (made_served (trim_of here J c.as_slice.result.now)) reply c.in-Some.reader last served)
