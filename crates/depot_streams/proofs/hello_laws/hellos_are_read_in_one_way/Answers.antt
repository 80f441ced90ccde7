use Rattle.depot_base.proofs.Decoding.{in_one_way}
use Rattle.depot_model.specs.exchange.Hello.{hello}
use Rattle.depot_model.proofs.of_texts.HelloLaws.{hello_lawful}
use Rattle.depot_streams.proofs.hello_laws.hellos_are_read_in_one_way.Goals as goal

pub returns : goal.returns
returns c = in_one_way hello _ hello_lawful
