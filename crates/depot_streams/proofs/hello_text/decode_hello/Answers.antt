use Rattle.std.proofs.Common.{arith}
use Rattle.depot_base.proofs.Decoding.{is_early, decodes}
use Rattle.depot_model.specs.exchange.Hello.{hello}
use Rattle.depot_model.proofs.of_texts.HelloLaws.{hello_lawful}
use Rattle.depot_streams.proofs.hello_text.decode_hello.Goals as goal

pub answer-requires : goal.answer-requires
answer-requires c = is_early hello 172620 hello_lawful (omega arith) c.args.text.now (λ i. omega (arith, c.type_inv.text i)) c.whole_hello.result (rw c.new.ensures at c.whole_hello.ensures)

pub returns : goal.returns
returns c = rw c.answer.ensures (decodes hello 172620 hello_lawful c.args.text.now (λ i. omega (arith, c.type_inv.text i)) c.whole_hello.result (rw c.new.ensures at c.whole_hello.ensures))
