-- Who signs: the keys of members, and the signatures that are made under them.
use Rattle.std.specs.Prelude.{◌≡◌, ℕ, List, map}
use Rattle.depot_base.specs.declared.key.PublicKey.{PublicKey}
use Rattle.depot_model.specs.exchange.Bundle.{Signs}
use Rattle.depot_schedule.specs.declared.member.Member.{Member}
use Rattle.depot_world.specs.Setups.{SignatureSuite, seed_of}

-- a key, and the signatures that are made under it
pub record MemberSigner : Type 0 where
  pub key : PublicKey
  pub sign : Signs

-- that of a node
abbrev pub member_signer_of : SignatureSuite → ℕ → ℕ → MemberSigner
member_signer_of suite height node = record { key = record { root = suite.root (seed_of node) height; height = height }; sign = suite.sign (seed_of node) height }

-- that of a signer
abbrev pub signer_by : {G : Type 0} → (G → PublicKey) → (G → Signs) → G → MemberSigner
signer_by key sign g = record { key = key g; sign = sign g }

-- those of signers
abbrev pub member_signers_of : {G : Type 0} → (G → PublicKey) → (G → Signs) → List G → List MemberSigner
member_signers_of key sign signers = map (signer_by key sign) signers

-- they are those of the members, in their order
abbrev pub AreSigners : SignatureSuite → ℕ → List Member → List MemberSigner → Type 0
AreSigners suite height members member_signers = member_signers ≡ map (λ m. member_signer_of suite height m.node) members

-- this holds of each suite and height whose signers these are
abbrev pub WhereAreSigners : {G : Type 0} → (G → PublicKey) → (G → Signs) → List Member → List G → (SignatureSuite → ℕ → Type 0) → Type 0
WhereAreSigners key sign members signers P =
    (suite : SignatureSuite) (height : ℕ) → AreSigners suite height members (member_signers_of key sign signers) → P suite height
