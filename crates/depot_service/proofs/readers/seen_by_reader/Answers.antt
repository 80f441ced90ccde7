use Rattle.std.proofs.Common.{Some, sym, ap, ◌∙◌}
use Rattle.depot_base.specs.Writes.{wrote_under}
use Rattle.depot_service.proofs.FedReaders.{put_is_shown_by, deletion_is_shown_by, nothing_is_shown_by}
use Rattle.depot_service.proofs.readers.seen_by_reader.Goals as goal

pub returns-in-Some-Put : goal.returns-in-Some-Put
returns-in-Some-Put c = λ R same. c.held.ensures ∙ put_is_shown_by R c.args.key.now c.args.update.now _ _ _ (ap (λ k. wrote_under k c.args.update.now.writes) (sym c.bytes.ensures.same) ∙ sym c.wrote.ensures ∙ c.in-Some-Put.is ∙ ap Some c.in-Some-Put.field-0-is) same

pub returns-in-Some-Gone : goal.returns-in-Some-Gone
returns-in-Some-Gone c = λ R same. deletion_is_shown_by R c.args.key.now c.args.update.now (ap (λ k. wrote_under k c.args.update.now.writes) (sym c.bytes.ensures.same) ∙ sym c.wrote.ensures ∙ c.in-Some-Gone.is ∙ ap Some c.in-Some-Gone.field-0-is)

pub returns-in-None : goal.returns-in-None
returns-in-None c = λ R same. nothing_is_shown_by R c.args.key.now c.args.update.now (ap (λ k. wrote_under k c.args.update.now.writes) (sym c.bytes.ensures.same) ∙ sym c.wrote.ensures ∙ c.in-None.is)
