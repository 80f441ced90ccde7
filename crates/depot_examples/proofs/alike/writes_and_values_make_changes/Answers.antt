use Rattle.depot_model.proofs.of_texts.ContentLaws.{changes_back}
use Rattle.depot_examples.proofs.ChangeLists.{have_keys, have_values}
use Rattle.depot_examples.proofs.alike.writes_and_values_make_changes.Goals as goal

pub returns-clause-keys : goal.returns-clause-keys
returns-clause-keys c = have_keys

pub returns-clause-values : goal.returns-clause-values
returns-clause-values c = have_values

pub returns-clause-back : goal.returns-clause-back
returns-clause-back c = changes_back
