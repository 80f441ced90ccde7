use Rattle.depot_laws.proofs.convicting.ContraryConvict.{contrary_convict}
use Rattle.depot_laws.proofs.journals.contrary_statements_convict.Goals as goal

pub returns : goal.returns
returns c here J l a b a_on b_on k e = contrary_convict here J l a b a_on b_on k e
