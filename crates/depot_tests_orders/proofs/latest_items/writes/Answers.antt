use Rattle.depot_tests_orders.proofs.latest_items.writes.Goals as goal

pub add-requires-clause-items : goal.add-requires-clause-items
add-requires-clause-items g c = λ i d inside. tt
