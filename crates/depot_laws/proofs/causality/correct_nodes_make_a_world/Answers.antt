use Rattle.depot_laws.proofs.causality.correct_nodes_make_a_world.Goals as goal

pub returns : goal.returns
returns c W distinct correct judged = record {
  distinct = distinct;
  correct = λ d on. (let k = correct d on in record { member = k.member; lawful = k.lawful; begun = k.begun; reads = k.reads; in_order = k.in_order });
  formed = λ p on. (judged p on).0;
  judged = λ p on. (judged p on).1;
}
