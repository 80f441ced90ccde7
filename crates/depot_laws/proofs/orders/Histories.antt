-- A history hash depends on the members alone, and not on their order.
use Rattle.std.proofs.Common.{◌≡◌, ℕ, List, true, not, sym, ap, ◌∙◌}
use Rattle.std.specs.List.{flat_map}
use Rattle.sha2.specs.Sha256.{sha256}
use Rattle.depot_base.specs.declared.update.Update.{Update}
use Rattle.depot_model.specs.lists.Lists.{IsIn, is_among}
use Rattle.depot_model.specs.texts.Texts.{id_of_update}
use Rattle.depot_model.specs.updates.Order.{prevs}
use Rattle.depot_model.specs.updates.History.{is_prev_in, leaves_of, by_id, leaf_text, history_text, history_hash}
use Rattle.depot_model.proofs.lists.Members.{any_from, any_to, from_filter, in_filter}
use Rattle.depot_model.proofs.lists.RisingLists.{HaveSame}
use Rattle.depot_model.proofs.lists.RisingUpdates.{HaveOwnIds, own_ids_filter, same_by_id}
use Rattle.depot_base.proofs.GeneralLaws.{same_test}

turned : (us vs : List Update) → HaveSame us vs → HaveSame vs us
turned us vs same = record { to = same.back; back = same.to }

-- ---- leaves

-- being a prev in a list goes by its members
prev_in_more : (us vs : List Update) (h : List ℕ) → ((t : Update) → IsIn t us → IsIn t vs) → is_prev_in us h ≡ true → is_prev_in vs h ≡ true
prev_in_more us vs h to e = let w = any_to (λ (u : Update). is_among h (prevs u)) us e in any_from (λ (u : Update). is_among h (prevs u)) w.0 vs (to w.0 w.1.0) w.1.1

leaf_in : (us vs : List Update) → HaveSame us vs → (t : Update) → IsIn t (leaves_of us) → IsIn t (leaves_of vs)
unfolding leaves_of
leaf_in us vs same t on =
    let leaf = from_filter (λ (u : Update). not (is_prev_in us (id_of_update u))) t us on in
    let test : is_prev_in us (id_of_update t) ≡ is_prev_in vs (id_of_update t) = same_test _ _ (prev_in_more us vs (id_of_update t) same.to) (prev_in_more vs us (id_of_update t) same.back) in
    in_filter (λ (u : Update). not (is_prev_in vs (id_of_update u))) t vs (same.to t leaf.0) (sym (ap not test) ∙ leaf.1)

-- two lists with the same members have one history, where no id occurs twice in either
pub same_history : (us vs : List Update) → HaveOwnIds us → HaveOwnIds vs → HaveSame us vs → history_hash us ≡ history_hash vs
unfolding history_hash history_text leaves_of
same_history us vs apart_u apart_v same =
    let leaves : by_id (leaves_of us) ≡ by_id (leaves_of vs) = same_by_id (leaves_of us) (leaves_of vs) (own_ids_filter _ us apart_u) (own_ids_filter _ vs apart_v) (record { to = leaf_in us vs same; back = leaf_in vs us (turned us vs same) }) in
    ap (λ (ts : List Update). sha256 (flat_map leaf_text ts)) leaves
