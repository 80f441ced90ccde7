use Rattle.depot_laws.proofs.of_audits.TrueReceipts.{key_read, key_is}
use Rattle.depot_laws.proofs.receipts.receipt_keys.Goals as goal
use Rattle.std.proofs.Common.{subst, sym}
use Rattle.std.specs.Prelude.{◌≡◌, ℕ, List, Some}
use Rattle.depot_model.specs.worlds.Receipts.{receipt_of}

pub returns : goal.returns
returns c key h = (λ e. key_is key h e, λ p. subst (λ (k : List ℕ). receipt_of k ≡ Some h) (sym p.0) (key_read h p.1))
