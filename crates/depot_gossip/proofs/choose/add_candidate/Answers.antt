use Rattle.std.proofs.Common.{◌≡◌, ◌≤◌, ℕ, List, [], ◌∷◌, length, map, sym, ap, subst, ◌∙◌, arith}
use Rattle.std.specs.Borrow.{Bor}
use Rattle.std.specs.Prelude.{option_to_list}
use Rattle.std.proofs.lemmas.List.{length-map}
use Rattle.sha2.specs.Sha256.{sha256}
use Rattle.depot_model.specs.exchange.Bundle.{candidate_parcel, signed_by}
use Rattle.depot_model.specs.texts.Contents.{values_named}
use Rattle.depot_model.specs.lists.Lists.{AreTogether}
use Rattle.depot_model.specs.texts.Texts.{id_of_update, text_of_signed}
use Rattle.depot_model.proofs.of_texts.TextLaws.{signed_is_short}
use Rattle.depot_streams.specs.Sendings.{ArePayloads, payloads_of}
use Rattle.depot_gossip.specs.Choosing.{foreign_ids}
use Rattle.depot_gossip.proofs.FitLaws.{found_adds}
use Rattle.depot_gossip.proofs.ValueLaws.{few_found, found_are_short}
use Rattle.depot_gossip.proofs.ChoiceLaws.{told_by, told_at, told_update, is_item, foreign_are, parcel_values, hashes_added}
use Rattle.depot_gossip.proofs.choose.add_candidate.Goals as goal

pub signed_text-requires : goal.signed_text-requires
signed_text-requires g c =
    let t = c.requires.tells in
    (t.item, (t.at, ap length (told_by (g.R.NodeState.signature_of c.args.node.now) t.item t.update t.accepts).tells))

pub foreign_id-foreign-requires : goal.foreign_id-foreign-requires
foreign_id-foreign-requires g c =
    let both : c.in-Some-id_at.id.now ∷ [] ≡ id_of_update c.in-Some.update.now ∷ [] = c.in-Some-id_at.ensures ∙ ap (map id_of_update) (sym c.in-Some.ensures) in
    cc

pub add_found-requires : goal.add_found-requires
add_found-requires g c =
    let here = g.R.NodeState.stands c.args.node.now in
    let J = g.R.NodeState.records c.args.node.now in
    let lawful = g.met.R.Replica.lawful c.args.node.now in
    let t = told_at here (g.R.NodeState.signature_of c.args.node.now) J c.args.place c.in_ok-statement.statement lawful (g.met.R.Replica.short c.args.node.now) c.requires.tells c.in_ok-statement.ensures in
    let found = payloads_of c.in_ok-found.found.items in
    let new = c.values_behind.new.hashes.keys in
    let is = told_update J c.args.place c.requires.tells t c.in-Some.update.now c.in-Some.ensures in
    let finds = rw c.as_slice.ensures at c.in_ok-found.ensures in
    let few = few_found J c.args.hashes.now.keys t.told c.in-Some.update.now found new t.fits is finds in
    let short : length (text_of_signed t.told) ≤ 55979 = signed_is_short t.told t.fits in
    record {
      short = c.requires.short;
      few = omega (arith, few, length-map c.in_ok-found.found.items (λ (v : Bor (List ℕ)). v.now), ap length c.as_slice-3.ensures.value);
      told = omega (arith, short, ap length (c.as_slice-2.ensures ∙ t.is));
      found = subst (λ (vs : List (Bor (List ℕ))). ArePayloads (payloads_of vs)) (sym c.as_slice-3.ensures.value) (found_are_short here J c.args.hashes.now.keys (values_named c.in-Some.update.now) found new lawful finds);
    }

pub returns-clause-adds : goal.returns-clause-adds
returns-clause-adds g c = λ r at xs holds.
    let here = g.R.NodeState.stands c.args.node.now in
    let sign = g.R.NodeState.signature_of c.args.node.now in
    let J = g.R.NodeState.records c.args.node.now in
    let keys = c.args.hashes.now.keys in
    let t = told_at here sign J c.args.place c.in_ok-statement.statement (g.met.R.Replica.lawful c.args.node.now) (g.met.R.Replica.short c.args.node.now) c.requires.tells c.in_ok-statement.ensures in
    let u = c.in-Some.update.now in
    let finds = rw c.as_slice.ensures at c.in_ok-found.ensures in
    let lent = ap (λ (vs : List (Bor (List ℕ))). payloads_of vs) c.as_slice-3.ensures.value in
    let values = parcel_values sign J c.args.place keys r u (payloads_of c.in_ok-found.found.items) c.values_behind.new.hashes.keys at (sym c.in-Some.ensures) finds ∙ sym lent in
    let told = c.in_ok-statement.ensures r at ∙ ap (λ (text : List ℕ). text ∷ []) (sym c.as_slice-2.ensures) in
    let x = candidate_parcel sign J keys r in
    let tells : x.told ≡ t.told ∷ [] = ap (signed_by sign) (sym (is_item sign J c.args.place c.in_ok-statement.statement t r at)) ∙ t.tells in
    let is = told_update J c.args.place c.requires.tells t u c.in-Some.ensures in
    let foreign = ap (λ (me : ℕ). foreign_ids me (u ∷ [])) c.me.ensures ∙ ap (foreign_ids here.me) (sym is) ∙ foreign_are here.me x t.told tells in
    found_adds here.me xs x c.args.sending.now c.add_found.new.sending (c.as_slice-2.result.now ∷ []) (payloads_of c.as_slice-3.result.now) (option_to_list c.foreign_id-foreign.result) c.add_found.result holds (record { told = told; values = values })
    (c.foreign_id-foreign.ensures ∙ foreign) c.add_found.ensures

pub returns-clause-hashes : goal.returns-clause-hashes
returns-clause-hashes g c = λ r at.
    let sign = g.R.NodeState.signature_of c.args.node.now in
    let J = g.R.NodeState.records c.args.node.now in
    let keys = c.args.hashes.now.keys in
    let found = payloads_of c.in_ok-found.found.items in
    let finds = rw c.as_slice.ensures at c.in_ok-found.ensures in
    let values = parcel_values sign J c.args.place keys r c.in-Some.update.now found c.values_behind.new.hashes.keys at (sym c.in-Some.ensures) finds in
    hashes_added keys (map sha256 (candidate_parcel sign J keys r).values) c.values_behind.new.hashes.keys c.add_found.result
    (subst (λ (vs : List (List ℕ)). AreTogether keys (map sha256 vs) c.values_behind.new.hashes.keys) (sym values) finds.hashes)
