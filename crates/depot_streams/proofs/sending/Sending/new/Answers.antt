use Rattle.std.proofs.Common.{refl, arith}
use Rattle.depot_model.specs.exchange.Bundle.{sent_foreign}
use Rattle.depot_streams.proofs.sending.Sending.new.Goals as goal

pub returns : goal.returns
unfolding sent_foreign
returns c = λ me. record { frames = c.new.ensures; updates = refl; values = refl; ids = c.new-2.ensures; fit = record { within = omega arith; few = omega arith } }
