use Rattle.depot_base.proofs.Combined.{prefix_free}
use Rattle.depot_model.specs.exchange.Hello.{hello}
use Rattle.depot_model.proofs.of_texts.HelloLaws.{hello_lawful}
use Rattle.depot_streams.proofs.hello_laws.hellos_are_prefix_free.Goals as goal

pub returns : goal.returns
returns c = λ v w x y fits_v fits_w e. prefix_free hello _ hello_lawful v w x y fits_v fits_w e
