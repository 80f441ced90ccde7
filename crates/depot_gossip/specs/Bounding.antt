-- A bundle with bounds: what it sends of all there is to send, and the answer to the text of a hello.
use Rattle.std.specs.Prelude.{ℕ, ◌-◌, min, List, [], ◌∷◌, ◌++◌, length, map, filter, Bool, true, ◌&&◌, ◌||◌, ◌==◌, nat_le, nat_lt, Option, Some, None, if◌then◌else◌}
use Rattle.std.specs.List.{flat_map, list_any}
use Rattle.depot_base.specs.declared.limits.TheConstants.{MOST_BUNDLE, MOST_BUNDLE_FRAMES}
use Rattle.depot_base.specs.declared.record.Record.{Record}
use Rattle.depot_model.specs.declared.hello.Hello.{Hello}
use Rattle.depot_model.specs.exchange.Bundle.{Bundle, BundleAnswer, Parcel, Signs, bytes_of_frames, candidate_parcels, candidates, frames_of, parcels, unvouched}
use Rattle.depot_model.specs.checks.Checks.{Setting}
use Rattle.depot_model.specs.journals.Journal.{accepted_by, own}
use Rattle.depot_model.specs.checks.Own.{leaf_count}
use Rattle.depot_model.specs.checks.Vouching.{new_vouchers}
use Rattle.depot_gossip.specs.Preparing.{answer_to_bytes, answer_with, bundle_with}
use Rattle.depot_gossip.specs.declared.bounds.Bounds.{Bounds}

-- ---- what there is to send

-- the record is that of an update which this node wrote
abbrev pub is_own_record : ℕ → Record → Bool
is_own_record me r = list_any (λ u. u.writer == me) (accepted_by r)

-- the node's own candidates for a hello, each with the held values that it names and that no earlier parcel has
unfoldable pub own_parcels : ℕ → Signs → List Record → Hello → List Parcel
own_parcels me sign J h = candidate_parcels sign J [] (filter (is_own_record me) (candidates J (map (λ l. l.id) h.leaves) h.node))

-- what there is to send for a hello: all of it, or the node's own updates alone
abbrev pub parcels_of : ℕ → Signs → List Record → Hello → Bool → List Parcel
parcels_of me sign J h own = if own then own_parcels me sign J h else parcels sign J h

-- ---- what bounds admit

-- how many leaves of its tree a node has left
abbrev pub leaves_left : Setting → List Record → ℕ
leaves_left here J = leaf_count here.listed here.me - length (own J)

-- At most so many vouchers are made for these parcels, and at most as many as there are unused leaves. Without a number
-- any amount may be made.
abbrev pub has_few_vouchers : Setting → List Record → Option ℕ → List Parcel → Bool
has_few_vouchers here J None xs = true
has_few_vouchers here J (Some most) xs = nat_le (length (new_vouchers here.me J (unvouched here.me J xs))) (min most (leaves_left here J))

-- the bytes of the frames of parcels
abbrev pub bytes_of_parcels : List Parcel → ℕ
bytes_of_parcels xs = bytes_of_frames (flat_map frames_of xs)

-- parcels fit into a bundle
abbrev pub fit_a_bundle : List Parcel → Bool
fit_a_bundle xs = nat_le (bytes_of_parcels xs) MOST_BUNDLE && nat_le (length (flat_map frames_of xs)) MOST_BUNDLE_FRAMES

-- The next parcel may follow these: with it they fit into a bundle, take at most so many bytes, and need few enough
-- vouchers. A parcel with nothing before it may take more bytes. So something is sent whenever something may be, and
-- asking again and again terminates.
unfoldable pub may_follow : Setting → List Record → Bounds → List Parcel → Parcel → Bool
may_follow here J b before x =
    let xs = before ++ x ∷ [] in
    fit_a_bundle xs && (bytes_of_parcels before == 0 || nat_le (bytes_of_parcels xs) b.bytes) && has_few_vouchers here J b.vouchers xs

-- the longest prefix of these, which follow others, such that each may follow those before it
unfoldable pub longest_front : {X : Type 0} → (List X → X → Bool) → List X → List X → List X
longest_front may before [] = []
longest_front may before (x ∷ xs) = if may before x then x ∷ longest_front may (before ++ x ∷ []) xs else []

-- what a bounded bundle sends of what there is
unfoldable pub bounded_sent : Setting → Signs → List Record → Hello → Bounds → List Parcel
bounded_sent here sign J h b = longest_front (may_follow here J b) [] (parcels_of here.me sign J h b.own)

-- something of it is left out
abbrev pub leaves_some : Setting → Signs → List Record → Hello → Bounds → Bool
leaves_some here sign J h b = nat_lt (length (bounded_sent here sign J h b)) (length (parcels_of here.me sign J h b.own))

-- ---- the bundle

-- what a node with this journal sends for a hello within bounds, and what it journals before any byte is handed out
abbrev pub bounded_bundle : Setting → Signs → List Record → Hello → Bounds → Bundle
bounded_bundle here sign J h b = bundle_with here.me sign J h (bounded_sent here sign J h b) (leaves_some here sign J h b)

-- The answer to the text of a hello: the first refusal that holds, as without bounds, or else the bounded bundle.
unfoldable pub bounded_answer : Setting → Signs → List Record → List ℕ → Bounds → BundleAnswer
bounded_answer here sign J text b = answer_to_bytes here (λ h. answer_with here sign J h (bounded_sent here sign J h b) (leaves_some here sign J h b)) text
