use Rattle.std.proofs.Common.{Some, sym, ap, ◌∙◌}
use Rattle.depot_base.specs.Writes.{wrote_under}
use Rattle.depot_service.proofs.ShownWrites.{put_is_shown, deletion_is_shown, nothing_is_shown}
use Rattle.depot_service.proofs.reads.seen.Goals as goal

pub returns-in-Some-Put : goal.returns-in-Some-Put
returns-in-Some-Put c = λ J same. c.held.ensures ∙ put_is_shown J c.args.key.now c.args.update.now _ _ _ (ap (λ k. wrote_under k c.args.update.now.writes) (sym c.bytes.ensures.same) ∙ sym c.wrote.ensures ∙ c.in-Some-Put.is ∙ ap Some c.in-Some-Put.field-0-is) same

pub returns-in-Some-Gone : goal.returns-in-Some-Gone
returns-in-Some-Gone c = λ J same. deletion_is_shown J c.args.key.now c.args.update.now (ap (λ k. wrote_under k c.args.update.now.writes) (sym c.bytes.ensures.same) ∙ sym c.wrote.ensures ∙ c.in-Some-Gone.is ∙ ap Some c.in-Some-Gone.field-0-is)

pub returns-in-None : goal.returns-in-None
returns-in-None c = λ J same. nothing_is_shown J c.args.key.now c.args.update.now (ap (λ k. wrote_under k c.args.update.now.writes) (sym c.bytes.ensures.same) ∙ sym c.wrote.ensures ∙ c.in-None.is)
