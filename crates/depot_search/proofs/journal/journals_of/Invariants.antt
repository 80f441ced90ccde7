use Rattle.std.proofs.Common.{◌≡◌, map, take}
use Rattle.std.specs.List.{AllByRecursion}
use Rattle.depot_model.specs.texts.Records.{IsRecord, text_of_record}
use Rattle.depot_search.proofs.journal.journals_of.Given as goal

abbrev pub invariant-loop-trace : goal.invariant-loop-trace
invariant-loop-trace l =
    record {
      fit : AllByRecursion (λ j. AllByRecursion IsRecord j.entries) l.journals.items;
      nodes : map (λ j. j.node) l.journals.items ≡ map (λ t. t.now.node) (take l.trace-index l.traces);
      texts : map (λ j. map text_of_record j.entries) l.journals.items ≡ map (λ t. t.now.texts) (take l.trace-index l.traces);
      reads : map (λ j. j.reads.now) l.journals.items ≡ map (λ t. t.now.reads) (take l.trace-index l.traces);
    }
