-- What holds of bounded bundles and of far hellos.
use Rattle.std.specs.Prelude.{length, Some, ◌≤◌, ◌⊎◌, min, [], ◌∷◌, ◌≡◌, ℕ, List, ◌++◌, map, false, None, true}
use Rattle.depot_base.specs.declared.limits.TheConstants.{MOST_BUNDLE}
use Rattle.depot_base.specs.declared.record.Record.{Record}
use Rattle.depot_base.specs.declared.update.Update.{Update}
use Rattle.depot_model.specs.declared.hello.Hello.{Hello}
use Rattle.depot_model.specs.declared.hello.HelloLeaf.{HelloLeaf}
use Rattle.depot_model.specs.exchange.Bundle.{Parcel, Signs, unvouched}
use Rattle.depot_model.specs.checks.Checks.{Setting}
use Rattle.depot_model.specs.exchange.Hello.{leaves_named, named_leaf}
use Rattle.depot_model.specs.journals.Journal.{accepted, has_id}
use Rattle.depot_model.specs.lists.Lists.{IsIn}
use Rattle.depot_model.specs.updates.Order.{past}
use Rattle.depot_model.specs.texts.Texts.{id_of_update}
use Rattle.depot_model.specs.checks.Vouching.{new_vouchers}
use Rattle.depot_gossip.specs.Bounding.{bounded_sent, bytes_of_parcels, fit_a_bundle, has_few_vouchers, leaves_left, leaves_some, parcels_of}
use Rattle.depot_gossip.specs.FarHellos.{far_hello}
use Rattle.depot_gossip.specs.declared.bounds.Bounds.{Bounds}

-- no bounds
abbrev pub unbounded : Bounds
unbounded = record { bytes = MOST_BUNDLE; vouchers = None; own = false }

-- these parcels are a prefix of those
pub record StandInFront (all sent : List Parcel) : Type 0 where
  pub left : List Parcel
  pub is : all ≡ sent ++ left

-- What is sent within bounds is a prefix of what there is to send, and all of it if the answer says that there is no
-- more.
pub record SendsFront (here : Setting) (sign : Signs) (J : List Record) (h : Hello) (b : Bounds) : Type 0 where
  pub front : StandInFront (parcels_of here.me sign J h b.own) (bounded_sent here sign J h b)
  pub all : leaves_some here sign J h b ≡ false → bounded_sent here sign J h b ≡ parcels_of here.me sign J h b.own

-- The bounds are kept: only a single parcel, with nothing before it that takes bytes, may take more bytes than allowed;
-- and there are at most as many vouchers as allowed, and as unused leaves.
pub record KeepsBounds (here : Setting) (J : List Record) (b : Bounds) (xs : List Parcel) : Type 0 where
  pub bytes : (bytes_of_parcels xs ≤ b.bytes) ⊎ ((front : List Parcel) × ((x : Parcel) × ((xs ≡ front ++ x ∷ []) × (bytes_of_parcels front ≡ 0))))
  pub vouchers : (most : ℕ) → b.vouchers ≡ Some most → length (new_vouchers here.me J (unvouched here.me J xs)) ≤ min most (leaves_left here J)

-- a hello names this id
abbrev pub IsNamedIn : Hello → List ℕ → Type 0
IsNamedIn h id = IsIn id (map (λ l. l.id) h.leaves)

-- A hello neither names an update nor names an update, accepted here, that follows it.
pub record IsSpared (K : List Record) (h : Hello) (u : Update) : Type 0 where
  pub named : IsIn u (accepted K) → IsNamedIn h (id_of_update u) → ⊥
  pub past : (l : Update) → IsIn l (accepted K) → IsNamedIn h (id_of_update l) → has_id (past l (accepted K)) (id_of_update u) ≡ false

-- The far hello names what its maker has accepted alone.
abbrev pub NamesAccepted : Setting → List Record → Type 0
NamesAccepted here J = (l : HelloLeaf) → IsIn l (far_hello here J).leaves → (u : Update) × (IsIn u (accepted J) × (named_leaf u ≡ l))

-- and it names each leaf
abbrev pub KeepsLeaves : Setting → List Record → Type 0
KeepsLeaves here J = (l : HelloLeaf) → IsIn l (leaves_named J) → IsIn l (far_hello here J).leaves

-- a first parcel that fits into a bundle and needs few enough vouchers is sent
abbrev pub SendsFirst : Setting → Signs → List Record → Hello → Bounds → Type 0
SendsFirst here sign J h b = (x : Parcel) (rest : List Parcel) → parcels_of here.me sign J h b.own ≡ x ∷ rest → fit_a_bundle (x ∷ []) ≡ true → has_few_vouchers here J b.vouchers (x ∷ []) ≡ true
    → IsIn x (bounded_sent here sign J h b)
