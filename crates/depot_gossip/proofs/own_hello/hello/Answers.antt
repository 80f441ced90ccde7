use Rattle.std.proofs.Common.{◌≡◌, subst}
use Rattle.std.specs.Prelude.{IfOk}
use Rattle.depot_model.specs.declared.hello.Hello.{Hello}
use Rattle.depot_model.specs.exchange.Hello.{text_of_hello}
use Rattle.depot_gossip.proofs.own_hello.hello.Goals as goal

pub returns : goal.returns
returns g c = subst (λ (h : Hello). IfOk c.encode_hello.result (λ text. text ≡ text_of_hello h)) c.in_ok-hello.ensures.told c.encode_hello.ensures
