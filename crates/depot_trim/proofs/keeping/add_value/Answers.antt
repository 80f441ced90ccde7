use Rattle.std.proofs.Common.{◌∙◌, ℕ, List, false, Some, Ok, sym, ap, subst}
use Rattle.sha2.specs.Sha256.{sha256}
use Rattle.depot_base.specs.Sized.{IsValue}
use Rattle.depot_kept.specs.Values as values
use Rattle.depot_trim.proofs.KeptValues.{hashed, held_is_of, one_added}
use Rattle.depot_trim.proofs.keeping.add_value.Goals as goal

pub from_bytes-value-requires : goal.from_bytes-value-requires
from_bytes-value-requires c = subst (λ (v : List ℕ). IsValue v) (sym c.in_ok-from_slice.ensures) c.requires.sized

pub add_hashed-requires : goal.add_hashed-requires
add_hashed-requires c =
    let found = (held_is_of c.requires.held.0 c.args.name.now (λ h size. false) c.args.value.now c.requires.held.1).0 in
    (hashed c.args.name.now.hash c.args.value.now c.requires.held.0 found).0 ∙ ap sha256 (sym (c.from_bytes-value.ensures ∙ c.in_ok-from_slice.ensures))

pub returns : goal.returns
returns c = λ held is wants kept.
    one_added held c.args.name.now wants c.args.value.now (values.held_in c.args.values.now) (values.held_in c.add_hashed.new.self) (Ok c.in_ok-add_hashed.field-0) is c.in_ok-add_hashed.ensures.known.0
    (λ e. c.in_ok-add_hashed.ensures.new e ∙ ap (λ (v : List ℕ). Some v) (c.from_bytes-value.ensures ∙ c.in_ok-from_slice.ensures)) c.in_ok-add_hashed.ensures.else_stays c.in_ok-add_hashed.ensures.others_stay kept
