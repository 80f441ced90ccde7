use Rattle.std.proofs.Common.{ℕ, List, Some, sym, ap, subst, ◌∙◌}
use Rattle.std.specs.BTreeMap.{BTreeMap, UpdatesBy}
use Rattle.std.specs.Cmp.Lexicographic.{slice_cmp}
use Rattle.std.specs.Ordering.{nat_cmp}
use Rattle.std.proofs.lemmas.Result.{IfOk-weaker, on_ok_weaker}
use Rattle.depot_base.proofs.GeneralLaws.{vec_cmp}
use Rattle.depot_requests.specs.ReaderRequests.{use_served}
use Rattle.depot_world.specs.Run.{reader_in, readers_with}
use Rattle.depot_scenario.specs.Labels.{named_in}
use Rattle.depot_simulation.specs.Readers.{AreReaders}
use Rattle.depot_simulation.proofs.ReaderTables.{is_there, made_there, none_replied, readers_go_on, readers_of_none}
use Rattle.depot_simulation.proofs.readers.Readers.serve.Goals as goal

pub serve_kept-requires : goal.serve_kept-requires
serve_kept-requires g c =
    let name = c.args.name.now in
    let entries = c.args.self.now.map.entries in
    let readers = c.requires.0 in
    (reader_in readers name, made_there g.R.Reading.reads entries readers name c.in-Some.kept.now c.requires.1 (c.in-Some.ensures.value ∙ ap (λ (n : List ℕ). named_in n entries) c.bytes.ensures.same))

pub returns-in-Some-clause-reply : goal.returns-in-Some-clause-reply
returns-in-Some-clause-reply g c = IfOk-weaker c.serve_kept.result _ _ (λ reply told readers are.
    let name = c.args.name.now in
    let entries = c.args.self.now.map.entries in
    told (reader_in readers name) (made_there g.R.Reading.reads entries readers name c.in-Some.kept.now are (c.in-Some.ensures.value ∙ ap (λ (n : List ℕ). named_in n entries) c.bytes.ensures.same))) c.serve_kept.ensures.reply

pub returns-in-Some-clause-readers : goal.returns-in-Some-clause-readers
returns-in-Some-clause-readers g c = on_ok_weaker c.serve_kept.result (λ goes readers are.
    let old = c.args.self.now.map in
    let k = c.serve_kept.new.kept in
    let new = c.get_mut.follows.lender k in
    let was = c.in-Some.ensures.value in
    let updates = subst (λ (n : List ℕ). UpdatesBy vec_cmp (λ x. slice_cmp nat_cmp n x.items) old new (Some k)) c.bytes.ensures.same ((c.get_mut.follows.holds k).3 (is_there _ _ was)) in
    readers_go_on g.R.Reading.reads old new readers c.args.name.now c.args.asked.now c.in-Some.kept.now k are (was ∙ ap (λ (n : List ℕ). named_in n old.entries) c.bytes.ensures.same) updates goes) c.serve_kept.ensures.goes_on

pub returns-in-None-clause-reply : goal.returns-in-None-clause-reply
returns-in-None-clause-reply g c = λ readers are.
    let entries = c.args.self.now.map.entries in
    none_replied g.R.Reading.reads entries readers c.args.name.now c.args.asked.now are (c.in-None.ensures.value ∙ ap (λ (n : List ℕ). named_in n entries) c.bytes.ensures.same)

pub returns-in-None-clause-readers : goal.returns-in-None-clause-readers
returns-in-None-clause-readers g c = λ readers are.
    let entries = c.args.self.now.map.entries in
    let reads = g.R.Reading.reads in
    subst (λ (m : BTreeMap _ _). AreReaders reads m.entries (readers_with c.args.name.now (use_served (reader_in readers c.args.name.now) c.args.asked.now).reader readers)) (sym c.get_mut.follows.holds-at-none)
    (readers_of_none reads entries readers c.args.name.now c.args.asked.now are (c.in-None.ensures.value ∙ ap (λ (n : List ℕ). named_in n entries) c.bytes.ensures.same))
