use Rattle.depot_trim.proofs.Openings.{text_is_value}
use Rattle.depot_trim.proofs.signing.put_due.Goals as goal

pub put_of-requires : goal.put_of-requires
put_of-requires g c = text_is_value c.args.text.now c.in-Ok.field-0 c.in-Ok.ensures.0 c.in-Ok.ensures.1.0
