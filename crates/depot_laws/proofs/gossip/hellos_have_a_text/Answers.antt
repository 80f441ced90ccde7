use Rattle.depot_laws.proofs.exchanges.HelloTexts.{hello_fits}
use Rattle.depot_laws.proofs.gossip.hellos_have_a_text.Goals as goal

pub returns : goal.returns
returns c here J fits l some = hello_fits here J fits l some
