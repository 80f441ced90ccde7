-- Worked examples of rosters, signatures, and the pieces of the Winternitz scheme.
use Rattle.std.proofs.Common.{◌≡◌, ℕ, List, [], ◌∷◌, ◌++◌, length, replicate, true, false, Some, None, refl, drop}
use Rattle.sha2.specs.Sha256.{sha256, first_words, schedule, rounds, compress, hash_after, digest_bytes}
use Rattle.depot_base.specs.Cursor.{numeral}
use Rattle.depot_base.specs.Format.{number, bytes_of, list_of}
use Rattle.depot_base.specs.Parts.{dep}
use Rattle.depot_base.specs.declared.key.PublicKey.{PublicKey}
use Rattle.depot_base.specs.declared.statement.Statement.TheVariants as statement
use Rattle.depot_model.specs.declared.layer.Layer.TheVariants.{Bottom, Top}
use Rattle.depot_model.specs.texts.Plain.{plain_root, plain_signature, plain_verifies}
use Rattle.depot_model.specs.texts.Roster.{key_of, is_signed}
use Rattle.depot_model.specs.texts.Texts.{update_fields, voucher_fields, statement}
use Rattle.depot_model.specs.texts.Winternitz.{nibbles, checksum, three_digits, digits_of, secret, step, walk, value_at, values_from, ends_from, leaf, full_digits, leaf_of, inner_node, node, sibling, climb, digest_of, root_of, signature_length, computed_root, winternitz_verifies}
use Rattle.depot_model.proofs.examples.Cast.{mark, members, is_written, sign_as, signed_update, first_of, two}

-- ---- rosters

record Keys : Type 0 where
  pub found : key_of members 3 ≡ Some (record { root = mark 3; height = 2 })
  pub not_found : key_of members 7 ≡ None
  -- where a node occurs twice its first key is meant
  pub first_key : key_of (record { node = 2; key = record { root = mark 5; height = 1 } } ∷ members) 2 ≡ Some (record { root = mark 5; height = 1 })

keys : Keys
unfolding sha256 first_words schedule rounds compress hash_after digest_bytes numeral plain_root key_of full_digits inner_node leaf leaf_of node secret step values_from walk
keys = record { found = refl; not_found = refl; first_key = refl }

record SignedByTheRoster : Type 0 where
  pub signed_by_2 : is_signed is_written members (signed_update two) ≡ true
  -- by another node, or without a key in the roster
  pub by_another : is_signed is_written members (sign_as 3 0 (statement.Update two)) ≡ false
  pub by_nobody : is_signed is_written members (signed_update (first_of 7 55)) ≡ false

signed_by_the_roster : SignedByTheRoster
unfolding sha256 first_words schedule rounds compress hash_after digest_bytes numeral bytes_of list_of number dep plain_root is_signed key_of statement update_fields voucher_fields full_digits inner_node leaf leaf_of node secret step values_from walk
signed_by_the_roster = record { signed_by_2 = refl; by_another = refl; by_nobody = refl }

-- ---- the plain scheme

abbrev seed : List ℕ
seed = mark 5

-- the key of a tree of four leaves that is made of the seed
abbrev key : PublicKey
key = record { root = plain_root seed; height = 2 }

abbrev body : List ℕ
body = 1 ∷ 2 ∷ 3 ∷ []

record PlainSignatures : Type 0 where
  -- the root is SHA-256 of the seed; a signature that of 6, the root, the leaf in 4 bytes and the body
  pub root : plain_root seed ≡ sha256 seed
  pub signature : plain_signature seed 258 body ≡ sha256 (6 ∷ seed ++ 0 ∷ 0 ∷ 1 ∷ 2 ∷ 1 ∷ 2 ∷ 3 ∷ [])
  pub verifies : plain_verifies key 3 body (plain_signature key.root 3 body) ≡ true
  -- a leaf after the last, another leaf, another body, another root, no signature
  pub no_leaf : plain_verifies key 4 body (plain_signature key.root 4 body) ≡ false
  pub other_leaf : plain_verifies key 3 body (plain_signature key.root 2 body) ≡ false
  pub other_body : plain_verifies key 3 (1 ∷ 2 ∷ []) (plain_signature key.root 3 body) ≡ false
  pub other_root : plain_verifies key 3 body (plain_signature seed 3 body) ≡ false
  pub no_signature : plain_verifies key 3 body [] ≡ false

plain_signatures : PlainSignatures
unfolding sha256 first_words schedule rounds compress hash_after digest_bytes numeral plain_root plain_signature plain_verifies
plain_signatures = record { root = refl; signature = refl; verifies = refl; no_leaf = refl; other_leaf = refl; other_body = refl; other_root = refl; no_signature = refl }

-- ---- the Winternitz scheme

-- a body signed by leaf 1 of a tree of one level: too long to compute whole, so its pieces are shown
record WinternitzPieces : Type 0 where
  -- the digits of a byte, the high one first
  pub digits : nibbles 167 ≡ 10 ∷ 7 ∷ []
  -- what falls short of 15, and its three digits
  pub falls_short : checksum (15 ∷ 0 ∷ 7 ∷ []) ≡ 23
  pub three : three_digits 960 ≡ 3 ∷ 12 ∷ 0 ∷ []
  -- 64 digits of 15 have the checksum 0, 64 of 0 have 960
  pub highest : drop 64 (digits_of (replicate 32 255)) ≡ 0 ∷ 0 ∷ 0 ∷ []
  pub lowest : drop 64 (digits_of (replicate 32 0)) ≡ 3 ∷ 12 ∷ 0 ∷ []
  pub count : length (digits_of (mark 1)) ≡ 67
  -- a secret, and one step on its chain: leaf in 4 bytes, chain in 2, position in 1
  pub a_secret : secret Bottom seed 258 3 ≡ sha256 (1 ∷ seed ++ 0 ∷ 0 ∷ 1 ∷ 2 ∷ 0 ∷ 3 ∷ [])
  pub a_step : step Bottom 258 3 4 seed ≡ sha256 (2 ∷ 0 ∷ 0 ∷ 1 ∷ 2 ∷ 0 ∷ 3 ∷ 4 ∷ seed)
  -- positions go up along a walk, from where it starts
  pub a_walk : walk Bottom 1 2 13 2 seed ≡ step Bottom 1 2 14 (step Bottom 1 2 13 seed)
  -- a signature's value at digit 13 ends where the secret does
  pub an_end : ends_from Bottom 1 2 (13 ∷ []) (value_at Bottom seed 1 2 13) ≡ value_at Bottom seed 1 2 15
  -- a leaf, an inner node, what is signed
  pub a_leaf : leaf Bottom 258 body ≡ sha256 (3 ∷ 0 ∷ 0 ∷ 1 ∷ 2 ∷ 1 ∷ 2 ∷ 3 ∷ [])
  pub an_inner_node : inner_node seed body ≡ sha256 (4 ∷ seed ++ body)
  pub what_is_signed : digest_of Bottom seed 258 body ≡ sha256 (5 ∷ seed ++ 0 ∷ 0 ∷ 1 ∷ 2 ∷ 1 ∷ 2 ∷ 3 ∷ [])
  -- the top layer hashes the same after other bytes
  pub top_secret : secret Top seed 258 3 ≡ sha256 (7 ∷ seed ++ 0 ∷ 0 ∷ 1 ∷ 2 ∷ 0 ∷ 3 ∷ [])
  pub top_step : step Top 258 3 4 seed ≡ sha256 (8 ∷ 0 ∷ 0 ∷ 1 ∷ 2 ∷ 0 ∷ 3 ∷ 4 ∷ seed)
  pub top_leaf : leaf Top 258 body ≡ sha256 (9 ∷ 0 ∷ 0 ∷ 1 ∷ 2 ∷ 1 ∷ 2 ∷ 3 ∷ [])
  pub top_signs : digest_of Top seed 258 body ≡ sha256 (10 ∷ seed ++ 0 ∷ 0 ∷ 1 ∷ 2 ∷ 1 ∷ 2 ∷ 3 ∷ [])

winternitz_pieces : WinternitzPieces
unfolding sha256 first_words schedule rounds compress hash_after digest_bytes numeral bytes_of list_of number dep plain_root statement update_fields voucher_fields digest_of digits_of ends_from full_digits inner_node leaf leaf_of node secret step values_from walk
winternitz_pieces = record { digits = refl; falls_short = refl; three = refl; highest = refl; lowest = refl; count = refl; a_secret = refl; a_step = refl; a_walk = refl; an_end = refl; a_leaf = refl; an_inner_node = refl; what_is_signed = refl; top_secret = refl; top_step = refl; top_leaf = refl; top_signs = refl }

record WinternitzPaths : Type 0 where
  -- the sibling of a left child is to the right of it
  pub of_left : sibling 4 ≡ 5
  pub of_right : sibling 5 ≡ 4
  -- the way up from leaf 2 of four: first from the left, then from the right
  pub way_up : climb 2 (mark 1) 2 (mark 2 ++ mark 3) ≡ inner_node (mark 3) (inner_node (mark 1) (mark 2))
  -- a signature of another length is none, nor is one by another leaf, nor one by a leaf that isn't there
  pub too_short : winternitz_verifies key 0 body [] ≡ false
  pub other_leaf : winternitz_verifies key 1 body (replicate 2212 0) ≡ false
  pub no_leaf : winternitz_verifies (record { root = seed; height = 0 }) 1 body (0 ∷ 0 ∷ 0 ∷ 1 ∷ replicate 2144 0) ≡ false
  -- nothing verifies under a key of a greater height than keys have
  pub too_high : winternitz_verifies (record { root = seed; height = 18 }) 0 body (replicate 4868 0) ≡ false

winternitz_paths : WinternitzPaths
unfolding sha256 first_words schedule rounds compress hash_after digest_bytes numeral bytes_of list_of number dep plain_root statement update_fields voucher_fields climb computed_root digest_of digits_of ends_from full_digits inner_node leaf leaf_of node secret step values_from walk winternitz_verifies
winternitz_paths = record { of_left = refl; of_right = refl; way_up = refl; too_short = refl; other_leaf = refl; no_leaf = refl; too_high = refl }

-- ---- one layer and two

record WinternitzLayers : Type 0 where
  -- a signature has one layer's length up to height 12, and two layers' from height 13 on
  pub longest_of_one : signature_length 12 ≡ 2532
  pub shortest_of_two : signature_length 13 ≡ 4708
  pub longest_of_two : signature_length 17 ≡ 4836
  -- the key's root is the top of its one tree, and from height 13 on that of its top tree
  pub one_tree : root_of seed 12 ≡ node Bottom seed 12 0
  pub top_tree : root_of seed 13 ≡ node Top seed 5 0

winternitz_layers : WinternitzLayers
winternitz_layers = record { longest_of_one = refl; shortest_of_two = refl; longest_of_two = refl; one_tree = refl; top_tree = refl }
