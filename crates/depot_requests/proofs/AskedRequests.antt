-- A node may be asked for each request that has a text.
use Rattle.std.proofs.Common.{◌≡◌, ℕ, suc, ◌+◌, ◌≤◌, ◌++◌, Bool, true, false, eqb, List, [], ◌∷◌, length, map, Option, None, Some, refl, sym, ap, subst, ◌∙◌, arith}
use Rattle.std.specs.Prelude.{not, is_some, ◌&&◌, codes}
use Rattle.std.specs.List.{AllByRecursion}
use Rattle.std.proofs.lemmas.List.{length-append}
use Rattle.std.specs.Int.{w8, w32}
use Rattle.depot_base.specs.Format.{Follows, HasPart, number, bytes_of, list_of}
use Rattle.depot_base.specs.Pairs.{AllPairsByRecursion}
use Rattle.depot_base.specs.Parts.{digest, digest_rises, is_below}
use Rattle.depot_base.specs.Sized.{IsKey, IsValue}
use Rattle.depot_base.specs.Writes.{value_in_change}
use Rattle.depot_base.specs.declared.write.Change.{Change}
use Rattle.depot_base.proofs.Combined.{bytes_count}
use Rattle.depot_laws.proofs.of_audits.TrueReceipts.{keys_rise}
use Rattle.depot_lines.specs.PutKeys.{WriteNoReceipts}
use Rattle.std.proofs.lemmas.Bool.{eqb-true}
use Rattle.depot_model.specs.lists.Lists.{when}
use Rattle.depot_model.specs.readers.Checkpoints.{is_checkpoint_key}
use Rattle.depot_model.specs.worlds.Receipts.{receipt_changes, receipt_key, receipt_of}
use Rattle.depot_requests.specs.Requests.{AreIds, IsRequest, ArePlainChanges}
use Rattle.depot_requests.specs.declared.request.Request.{Request}
use Rattle.depot_requests.specs.declared.request.Request.TheVariants as request
use Rattle.depot_requests.specs.ChangeTexts.{change_behind, change_follows, change_mark, change_text, changes_text, given_value, ids_text, may_be_put}
use Rattle.depot_requests.specs.RequestTexts.{asked_behind, request_text}
use Rattle.depot_requests.specs.declared.request_reader.TheConstants.{STREAM_PIECE}
use Rattle.depot_requests.proofs.ChangeTextLaws.{all_rise}

-- ---- changes

none_of : {X : Type 0} (o : Option X) → not (is_some o) ≡ true → o ≡ None
none_of None is = refl
none_of (Some x) is = absurd cc

front_of : (a b : Bool) → (a && b) ≡ true → (a ≡ true) × (b ≡ true)
front_of true b is = (refl, is)
front_of false b is = absurd cc

free_is_plain : (key : List ℕ) → may_be_put key ≡ true → receipt_of key ≡ None
free_is_plain key is = none_of (receipt_of key) (front_of (not (is_some (receipt_of key))) (not (is_checkpoint_key key)) is).0

plain : (before : Option Change) (c : Change) → change_follows before c ≡ true → receipt_of c.key ≡ None
plain None c is = free_is_plain c.key is
plain (Some d) c is = free_is_plain c.key (front_of (may_be_put c.key) (is_below d.key c.key) is).0

rises : (d c : Change) → change_follows (Some d) c ≡ true → is_below d.key c.key ≡ true
rises d c is = (front_of (may_be_put c.key) (is_below d.key c.key) is).1

no_receipts : (front cs : List Change) → Follows change_text change_follows front cs → WriteNoReceipts cs
no_receipts front [] follows = tt
no_receipts front (c ∷ cs) follows = (plain _ c follows.1, no_receipts (front ++ c ∷ []) cs follows.2)

value_is : (key : List ℕ) (value : Option (List ℕ)) → (change_behind key (change_mark value)).fits (record { key = key; value = value }) → AllByRecursion IsValue (value_in_change (record { key = key; value = value }))
unfolding change_behind number bytes_of
value_is key None fits = tt
value_is key (Some value) fits = (fits.0.1, tt)

change_is : (c : Change) → change_text.fits c → IsKey c.key × AllByRecursion IsValue (value_in_change c)
unfolding change_text number bytes_of
change_is c fits = ((fits.0.0, fits.0.1), value_is c.key c.value fits.1.1.1)

each_is : (front cs : List Change) → Follows change_text change_follows front cs → AllByRecursion (λ c. IsKey c.key × AllByRecursion IsValue (value_in_change c)) cs
each_is front [] follows = tt
each_is front (c ∷ cs) follows = (change_is c follows.0, each_is (front ++ c ∷ []) cs follows.2)

changes_are : (cs : List Change) → changes_text.fits cs → ArePlainChanges cs
unfolding changes_text list_of number
changes_are cs fits =
    let follows = fits.1.0.0 in
    record {
      are = record { some = fits.0.0; few = fits.0.1; each = each_is [] cs follows; rising = all_rise change_text change_follows (λ c. c.key) rises [] cs follows };
      plain = no_receipts [] cs follows;
    }

-- ---- ids

key_is_long : (id : List ℕ) → length id ≡ 32 → length (receipt_key id) ≡ 40
unfolding receipt_key
key_is_long id long = length-append (codes "receipt:") id ∙ ap (λ (n : ℕ). 8 + n) long

receipts_are : (front ids : List (List ℕ)) → Follows digest digest_rises front ids → AllByRecursion (λ c. IsKey c.key × AllByRecursion IsValue (value_in_change c)) (receipt_changes ids)
unfolding bytes_of
receipts_are front [] follows = tt
receipts_are front (id ∷ ids) follows =
    let long = key_is_long id follows.0 in
    (((omega (arith, long), omega (arith, long)), (omega arith, tt)), receipts_are (front ++ id ∷ []) ids follows.2)

as_many : (ids : List (List ℕ)) → length (receipt_changes ids) ≡ length ids
as_many [] = refl
as_many (id ∷ ids) = ap (λ (n : ℕ). suc n) (as_many ids)

ids_are : (ids : List (List ℕ)) → ids_text.fits ids → AreIds ids
unfolding ids_text list_of number
ids_are ids fits =
    let follows = fits.1.0.0 in
    let rise = all_rise digest digest_rises (λ id. id) (λ g h is. is) [] ids follows in
    record {
      some = fits.0.0;
      few = fits.0.1;
      rising = rise;
      changes = record { some = omega (arith, as_many ids, fits.0.0); few = omega (arith, as_many ids, fits.0.1); each = receipts_are [] ids follows; rising = keys_rise ids rise };
    }

-- ---- requests

take_is : (stream : List ℕ) (piece : ℕ) (fits : List ℕ → Type 0) (b : Bool) → eqb piece STREAM_PIECE ≡ b → HasPart fits (when b stream) → 1 ≤ piece
take_is stream piece fits true is has = rw (eqb-true _ _ is) (omega arith)
take_is stream piece fits false is has = absurd has

pub may_be_asked : (r : Request) → request_text.fits r → IsRequest r
unfolding request_text asked_behind
may_be_asked (request.Put changes) fits = changes_are changes fits.1
may_be_asked (request.Get key) fits = tt
may_be_asked request.Hello fits = tt
may_be_asked (request.Bundle hello) fits = tt
may_be_asked (request.Take stream piece) fits = take_is stream piece _ (eqb piece STREAM_PIECE) refl fits.1
may_be_asked (request.Receipt ids) fits = ids_are ids fits.1
may_be_asked (request.Settled id k) fits = tt
may_be_asked request.Checkpoint fits = tt
may_be_asked (request.Sign text) fits = tt
