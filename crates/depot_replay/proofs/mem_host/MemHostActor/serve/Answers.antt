use Rattle.std.proofs.Common.{refl, ◌∙◌}
use Rattle.depot_model.proofs.of_journals.JournalCallLaws.{never_answered, runs_on}
use Rattle.depot_outside.specs.Stopping.{state_of}
use Rattle.depot_replay.proofs.MemHostCalls.{done_on}
use Rattle.depot_replay.proofs.MemHostEvents.{begun_there, if_printed, of_printed, same_signs}
use Rattle.std.proofs.lemmas.Result.{IfOk-at_ok}
use Rattle.depot_replay.proofs.MemHostRequests.{request_hosted, request_turn}
use Rattle.depot_replay.proofs.MemHostEvents.{same_setting}
use Rattle.depot_replay.proofs.mem_host.MemHostActor.serve.Goals as goal

pub reply_printed-printed-requires : goal.reply_printed-printed-requires
reply_printed-printed-requires g c = never_answered _ c.args.self.runs c.serve-replied.ensures.call.node.journal.stops

pub hosted-requires-clause-stands : goal.hosted-requires-clause-stands
hosted-requires-clause-stands g c =
    let a = c.args.self in
    c.serve-replied.ensures.call.node.same.stands ∙ same_setting g.S.Scheme.verifies a.node.store.me a.start_config.me a.node.store.listed a.start_config.roster a.is_me a.is_listed

pub hosted-requires-clause-signs : goal.hosted-requires-clause-signs
hosted-requires-clause-signs g c = c.serve-replied.ensures.call.node.same.signs ∙ same_signs _ _ c.args.self.signs

pub hosted-requires-clause-runs : goal.hosted-requires-clause-runs
hosted-requires-clause-runs g c = of_printed c.reply_printed-printed.result _ (λ printed is some. runs_on _ c.args.self.runs c.serve-replied.ensures.call.node.journal.stops (λ failed. some ((IfOk-at_ok _ is c.reply_printed-printed.ensures.stopped).1 failed)))

pub hosted-requires-clause-called : goal.hosted-requires-clause-called
hosted-requires-clause-called g c =
    let a = c.args.self in
    let n = a.node in
    let m = c.serve-replied.new.node in
    let served = c.serve-replied.ensures in
    let there = same_setting g.S.Scheme.verifies n.store.me a.start_config.me n.store.listed a.start_config.roster a.is_me a.is_listed in
    let begun = begun_there g.S.Scheme.verifies n.store.me a.start_config.me n.store.listed a.start_config.roster (state_of n.store.disk) n.store.records a.is_me a.is_listed n.kept.lawful n.kept.some a.kept in
    let done = done_on n m (state_of n.store.disk) (state_of m.store.disk) _ served.call.node.journal.calls (λ calls led. led) in
    of_printed c.reply_printed-printed.result _ (λ printed is.
    let called = request_hosted _ _ there _ _ (same_signs _ _ a.signs) (state_of n.store.disk) (state_of m.store.disk) n.store.records m.store.records begun c.args.request c.serve-replied.result printed c.requires c.carries_bytes.ensures served.serves
    (IfOk-at_ok _ is c.reply_printed-printed.ensures.settled) (never_answered _ a.runs served.call.node.journal.stops) served.call.appends served.call.brings done (IfOk-at_ok _ is c.reply_printed-printed.ensures.stopped) in
    record { view = _; before = _; longer = _; here_is = refl; called = called })

pub returns : goal.returns
returns g c =
    let a = c.args.self in
    let n = a.node in
    let m = c.serve-replied.new.node in
    let served = c.serve-replied.ensures in
    let there = same_setting g.S.Scheme.verifies n.store.me a.start_config.me n.store.listed a.start_config.roster a.is_me a.is_listed in
    let begun = begun_there g.S.Scheme.verifies n.store.me a.start_config.me n.store.listed a.start_config.roster (state_of n.store.disk) n.store.records a.is_me a.is_listed n.kept.lawful n.kept.some a.kept in
    let done = done_on n m (state_of n.store.disk) (state_of m.store.disk) _ served.call.node.journal.calls (λ calls led. led) in
    if_printed c.hosted.result c.reply_printed-printed.result _ _ (λ printed told is ends.
    let called = request_hosted _ _ there _ _ (same_signs _ _ a.signs) (state_of n.store.disk) (state_of m.store.disk) n.store.records m.store.records begun c.args.request c.serve-replied.result printed c.requires c.carries_bytes.ensures served.serves
    (IfOk-at_ok _ is c.reply_printed-printed.ensures.settled) (never_answered _ a.runs served.call.node.journal.stops) served.call.appends served.call.brings done (IfOk-at_ok _ is c.reply_printed-printed.ensures.stopped) in
    request_turn _ _ there _ _ (same_signs _ _ a.signs) (state_of n.store.disk) (state_of m.store.disk) n.store.records m.store.records begun c.args.request c.serve-replied.result printed _ _ _ served.serves (IfOk-at_ok _ is c.reply_printed-printed.ensures.printed)
    (ends _ _ _ refl refl called)) c.hosted.ensures.printed c.hosted.ensures.ends
