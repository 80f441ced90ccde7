use Rattle.depot_session.proofs.session_laws.runs_leave_true_receipts.Goals as goal

pub returns-clause-moments : goal.returns-clause-moments
returns-clause-moments g c = λ here file image run. run.receipts

pub returns-clause-settled : goal.returns-clause-settled
returns-clause-settled g c = λ here old new run. run.receipts
