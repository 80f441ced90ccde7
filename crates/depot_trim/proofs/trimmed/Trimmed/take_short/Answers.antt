use Rattle.std.proofs.Common.{◌∷◌, [], ◌++◌, List, ℕ, IsOk, Result, Err, refl, sym, ap, subst, ◌∙◌}
use Rattle.sha2.specs.Sha256.{sha256}
use Rattle.depot_base.specs.Sized.{IsValue}
use Rattle.depot_base.specs.declared.check.Check.TheVariants as check
use Rattle.depot_base.specs.declared.memory.Memory.{Memory}
use Rattle.depot_model.specs.declared.taken.Taken.{Taken}
use Rattle.depot_model.specs.readers.Readers.{told, kept}
use Rattle.depot_trim.proofs.ReaderTold.{told_held, told_unwanted, told_new}
use Rattle.depot_trim.proofs.ReaderTakes.{hash_is_held, hash_is_wanted, holding_reader}
use Rattle.depot_trim.proofs.trimmed.Trimmed.take_short.Goals as goal

pub returns-then-is_some : goal.returns-then-is_some
returns-then-is_some g c R is =
    let v = c.args.bytes.now in
    (R, (told_held R v (hash_is_held g.S.Scheme.verifies R c.args.self.now is v c.hash_of-hash.result c.get.result _ _ c.hash_of-hash.ensures c.get.ensures.value c.is_some.ensures c.if-is_some.true), is))

pub returns-then-not-names : goal.returns-then-not-names
returns-then-not-names g c R is =
    let v = c.args.bytes.now in
    let held = hash_is_held g.S.Scheme.verifies R c.args.self.now is v c.hash_of-hash.result c.get.result _ _ c.hash_of-hash.ensures c.get.ensures.value c.is_some.ensures c.if-is_some.false in
    let wanted = hash_is_wanted g.S.Scheme.verifies R c.args.self.now is v c.hash_of-hash.result _ _ c.hash_of-hash.ensures (c.names.ensures.wanted (kept R) is.named) c.if-not-names.true in
    (R, (told_unwanted R v held wanted ∙ ap (λ (h : List ℕ). told (Err (check.Unwanted h)) R) (sym c.hash_of-hash.ensures), is))

pub from_bytes-value-requires : goal.from_bytes-value-requires
from_bytes-value-requires g c = subst (λ (v : List ℕ). IsValue v) (sym c.in_ok-from_slice.ensures) c.requires

pub add_hashed-requires : goal.add_hashed-requires
add_hashed-requires g c = c.hash_of-hash.ensures ∙ ap sha256 (sym (c.from_bytes-value.ensures ∙ c.in_ok-from_slice.ensures))

pub returns : goal.returns
returns g c R is =
    let v = c.args.bytes.now in
    let held = hash_is_held g.S.Scheme.verifies R c.args.self.now is v c.hash_of-hash.result c.get.result _ _ c.hash_of-hash.ensures c.get.ensures.value c.is_some.ensures c.if-is_some.false in
    let wanted = hash_is_wanted g.S.Scheme.verifies R c.args.self.now is v c.hash_of-hash.result _ _ c.hash_of-hash.ensures (c.names.ensures.wanted (kept R) is.named) c.if-not-names.false in
    let ok : IsOk c.add_hashed.result = subst (λ (r : Result Taken Memory). IsOk r) (sym c.in_ok-add_hashed.was) refl in (
      record R { held = R.held ++ v ∷ [] },
      (
        told_new R v held wanted,
        holding_reader g.S.Scheme.verifies R c.args.self.now is c.hash_of-hash.result v c.from_bytes-value.result _ c.add_hashed.result c.hash_of-hash.ensures (c.from_bytes-value.ensures ∙ c.in_ok-from_slice.ensures) ok
            (record { known = c.add_hashed.ensures.known; new = c.add_hashed.ensures.new; else_stays = c.add_hashed.ensures.else_stays; others_stay = c.add_hashed.ensures.others_stay }),
      ),
    )
