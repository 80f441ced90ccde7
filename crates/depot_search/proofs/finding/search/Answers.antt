use Rattle.std.proofs.Common.{Bool, List, map, ap, sym, subst, ◌∙◌, [], arith, Vec, Global}
use Rattle.std.specs.Prelude.{option_map}
use Rattle.std.specs.List.{AllByRecursion}
use Rattle.std.proofs.lemmas.Result.{IfOk-weaker}
use Rattle.depot_base.specs.declared.update.Update.{Update}
use Rattle.depot_model.specs.worlds.Audit.{is_parent}
use Rattle.depot_search.proofs.Findings.{is_made, found_is}
use Rattle.depot_search.proofs.Journals.{all_told, all_of, all_few, few_reads}
use Rattle.depot_search.proofs.Tables.{table_of}
use Rattle.depot_search.specs.Search.{HasFewRecords, HasFewReads, found_among}
use Rattle.depot_search.specs.Writes.{with_journals}
use Rattle.depot_search.specs.declared.journal.TracedJournal.{TracedJournal}
use Rattle.depot_traces.specs.SeenTraces.{finding_of}
use Rattle.depot_search.proofs.finding.search.Goals as goal

pub journals_of-requires : goal.journals_of-requires
journals_of-requires c =
    let W = c.requires.world.0 in
    let of = c.requires.world.1 in
    all_told (λ t. t.now) W.verifies W.listed c.args.traces.now W.nodes of.nodes

pub first_found-requires-clause-records : goal.first_found-requires-clause-records
first_found-requires-clause-records c =
    let W = c.requires.world.0 in
    let of = c.requires.world.1 in
    let j = c.in_ok-journals.ensures in
    subst (λ (js : List TracedJournal). AllByRecursion HasFewRecords js) (sym c.deref-3.ensures.value)
    (all_few (λ t. t.now) W.verifies W.listed c.args.traces.now W.nodes c.in_ok-journals.journals.items of.nodes (all_of (λ t. t.now) W.verifies W.listed c.args.traces.now W.nodes c.in_ok-journals.journals.items of.nodes j.fit j.nodes j.texts j.reads))

pub first_found-requires-clause-reads : goal.first_found-requires-clause-reads
first_found-requires-clause-reads c =
    subst (λ (js : List TracedJournal). AllByRecursion HasFewReads js) (sym c.deref-3.ensures.value)
    (few_reads (λ t. t.now) 1000000 c.args.traces.now c.in_ok-journals.journals.items (omega arith) c.requires.few c.in_ok-journals.ensures.reads)

pub returns : goal.returns
returns c = IfOk-weaker c.first_found.result _ _ (λ found e W of.
    let j = c.in_ok-journals.ensures in
    let js = c.in_ok-journals.journals.items in
    let vs = c.in_ok-writes.writes.items in
    let rows = map (λ r. r.items) c.in_ok-table.table.items in
    ap (option_map finding_of) (e
    ∙ ap (λ (ks : List TracedJournal). found_among ks c.deref-4.result.now (map (λ r. r.items) c.deref-5.result.now)) c.deref-3.ensures.value
    ∙ ap (λ (us : List Update). found_among js us (map (λ r. r.items) c.deref-5.result.now)) c.deref-4.ensures.value
    ∙ ap (λ (table : List (Vec Bool Global)). found_among js vs (map (λ r. r.items) table)) c.deref-5.ensures.value)
    ∙ found_is W of.is_world js (all_of (λ t. t.now) W.verifies W.listed c.args.traces.now W.nodes js of.nodes j.fit j.nodes j.texts j.reads) vs rows
    (is_made (λ r. r.items) js vs c.in_ok-parents.parents.items rows
    (c.in_ok-writes.ensures ∙ ap (λ (ks : List TracedJournal). with_journals [] ks) c.deref.ensures.value)
    (c.in_ok-parents.ensures ∙ ap (λ (us : List Update). table_of is_parent us) c.deref-2.ensures.value)
    c.in_ok-table.ensures)) c.first_found.ensures
