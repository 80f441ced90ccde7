use Rattle.std.proofs.Common.{refl}
use Rattle.depot_outside.specs.Told.{shelves, sinks}
use Rattle.depot_session.proofs.AskedShelves.{not_stored, unstored}
use Rattle.depot_session.proofs.AskedTurns.{ends_nothing, handed_told, handed_without_memory, only_told, stored_if_handed, unstored_if_not}
use Rattle.depot_session.proofs.asking.tell_reply.Goals as goal

pub returns-in_err-printed-clause-tells : goal.returns-in_err-printed-clause-tells
returns-in_err-printed-clause-tells g c = handed_without_memory (shelves g.F.Shelf c.args.shelf.now c.args.shelf.now) (sinks g.K.Sink c.args.out.now c.args.out.now) _ _ _ _ c.from_residual.result (λ name. refl) c.from_residual.ensures.1 refl

pub returns-in_err-printed-clause-stores : goal.returns-in_err-printed-clause-stores
returns-in_err-printed-clause-stores g c = not_stored _ _ _ c.from_residual.result c.from_residual.ensures.1 refl

pub returns-in_err-printed-clause-unstored : goal.returns-in_err-printed-clause-unstored
returns-in_err-printed-clause-unstored g c = unstored _ _ _ refl

pub returns-in-Some-clause-tells : goal.returns-in-Some-clause-tells
returns-in-Some-clause-tells g c =
    let named = rw c.in-Some.is at c.name_for-file.ensures.some in
    rw (← c.in_ok-printed.ensures.lines) (handed_told (shelves g.F.Shelf c.args.shelf.now c.store_and_tell.new.shelf) (sinks g.K.Sink c.args.out.now c.store_and_tell.new.out) _ _ _ _ _ _ c.store_and_tell.result named.1 named.0 (rw c.in_ok-printed.ensures.bytes at c.store_and_tell.ensures.stores))

pub returns-in-Some-clause-stores : goal.returns-in-Some-clause-stores
returns-in-Some-clause-stores g c = let named = rw c.in-Some.is at c.name_for-file.ensures.some in stored_if_handed _ _ _ _ _ _ c.store_and_tell.result named.1 named.0 c.store_and_tell.ensures.once

pub returns-in-Some-clause-unstored : goal.returns-in-Some-clause-unstored
returns-in-Some-clause-unstored g c = let named = rw c.in-Some.is at c.name_for-file.ensures.some in ends_nothing c.args.reply _ _ named.1

pub returns-clause-tells : goal.returns-clause-tells
returns-clause-tells g c =
    only_told (shelves g.F.Shelf c.args.shelf.now c.args.shelf.now) (sinks g.K.Sink c.args.out.now c.tell.new.out) _ _ _ _ c.tell.result (c.name_for-file.ensures.none c.in-None.is) (λ name. refl) (rw (← c.in_ok-printed.ensures.lines, ← c.ending_of_reply-ends.ensures) c.tell.ensures.tells)

pub returns-clause-stores : goal.returns-clause-stores
returns-clause-stores g c = unstored_if_not _ _ _ _ c.tell.result (c.name_for-file.ensures.none c.in-None.is) refl

pub returns-clause-unstored : goal.returns-clause-unstored
returns-clause-unstored g c = unstored _ _ _ refl
