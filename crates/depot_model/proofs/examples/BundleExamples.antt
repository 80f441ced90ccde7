-- Worked examples of what is sent for a hello, and in which order: candidates, wanted values, proofs, vouchers and End.
use Rattle.std.proofs.Common.{◌≡◌, ℕ, List, [], ◌∷◌, ◌++◌, length, map, take, true, false, refl}
use Rattle.sha2.specs.Sha256.{sha256, first_words, schedule, rounds, compress, hash_after, digest_bytes}
use Rattle.depot_base.specs.Cursor.{numeral}
use Rattle.depot_base.specs.Format.{number, bytes_of, list_of}
use Rattle.depot_base.specs.Parts.{dep}
use Rattle.depot_base.specs.declared.voucher.Voucher.{Voucher}
use Rattle.depot_base.specs.declared.proof.Kind.TheVariants.{SameNumber}
use Rattle.depot_base.specs.declared.proof.Proof.{Proof}
use Rattle.depot_base.specs.declared.proof.Proof.TheVariants.{Pair}
use Rattle.depot_base.specs.declared.record.Record.{Record}
use Rattle.depot_base.specs.declared.record.Record.TheVariants.{OwnPut, OwnVoucher, Foreign, Conviction, Held}
use Rattle.depot_model.specs.declared.hello.Hello.{Hello}
use Rattle.depot_model.specs.texts.Texts.{update_fields, update_body, id_of_update}
use Rattle.depot_model.specs.journals.Journal.{first_values}
use Rattle.depot_model.specs.exchange.Bundle.{signed_with, is_covered, candidates, values_behind, candidate_parcels, parcels, Parcel, sent_foreign, unvouched, bundle_frames}
use Rattle.depot_model.proofs.examples.Exchanges.{sign, born, of_one, of_two, of_one_signed, of_two_signed, met_at_one}

-- what a node without updates asks for
abbrev asks : ℕ → List (List ℕ) → Hello
asks node wanted = record { node = node; roster = []; convicted = []; leaves = []; wanted = wanted }

-- how many statements each parcel has, and its values
abbrev in_parcels : List Parcel → List (ℕ × List (List ℕ))
in_parcels xs = map (λ x. (length x.told, x.values)) xs

-- ---- candidates

record Candidates : Type 0 where
  -- to the writer of an update it isn't sent
  pub not_its_own : candidates met_at_one [] 2 ≡ OwnPut of_one ((97 ∷ []) ∷ []) ∷ []
  pub nor_that_of_the_first : candidates met_at_one [] 1 ≡ Foreign of_two_signed ∷ []
  pub all_to_others : candidates met_at_one [] 3 ≡ OwnPut of_one ((97 ∷ []) ∷ []) ∷ Foreign of_two_signed ∷ []

candidates_are : Candidates
unfolding candidates is_covered
candidates_are = record { not_its_own = refl; nor_that_of_the_first = refl; all_to_others = refl }

-- ---- wanted values

-- two values that nobody's update names
abbrev values_alone : List Record
values_alone = born 1 ++ Held (98 ∷ []) ∷ Held (97 ∷ []) ∷ []

record WantedValues : Type 0 where
  -- a wanted value that goes with its update isn't sent again
  pub once : in_parcels (parcels (sign 1) met_at_one (asks 3 (sha256 (98 ∷ []) ∷ []))) ≡ (1, (97 ∷ []) ∷ []) ∷ (1, (98 ∷ []) ∷ []) ∷ []
  -- where its update isn't sent it follows the candidates
  pub behind : in_parcels (parcels (sign 1) met_at_one (asks 2 (sha256 (98 ∷ []) ∷ []))) ≡ (1, (97 ∷ []) ∷ []) ∷ (0, (98 ∷ []) ∷ []) ∷ []
  -- several are in the hello's order
  pub in_order : in_parcels (parcels (sign 1) values_alone (asks 3 (sha256 (98 ∷ []) ∷ sha256 (97 ∷ []) ∷ []))) ≡ (0, (98 ∷ []) ∷ []) ∷ (0, (97 ∷ []) ∷ []) ∷ []
  pub in_the_other : in_parcels (parcels (sign 1) values_alone (asks 3 (sha256 (97 ∷ []) ∷ sha256 (98 ∷ []) ∷ []))) ≡ (0, (97 ∷ []) ∷ []) ∷ (0, (98 ∷ []) ∷ []) ∷ []

wanted_values : WantedValues
unfolding sha256 first_words schedule rounds compress hash_after digest_bytes signed_with is_covered candidates values_behind candidate_parcels parcels first_values
wanted_values = record { once = refl; behind = refl; in_order = refl; in_the_other = refl }

-- ---- the order of the frames

-- node 1 convicted and vouched for node 2
abbrev contrary : Proof
contrary = Pair SameNumber of_two_signed of_two_signed

abbrev its_voucher : Voucher
its_voucher = record { node = 1; seq = 1; ids = id_of_update of_two ∷ [] }

abbrev convicting : List Record
convicting = met_at_one ++ OwnVoucher its_voucher ∷ Conviction contrary ∷ []

abbrev both_updates : List Parcel
both_updates = parcels (sign 1) convicting (asks 3 [])

record FramesInOrder : Type 0 where
  -- the proof, the voucher, two statements with their values, and End
  pub all : map (λ f. f.tag) (bundle_frames 1 (sign 1) convicting (asks 3 []) both_updates false) ≡ 1 ∷ 2 ∷ 2 ∷ 3 ∷ 2 ∷ 3 ∷ 4 ∷ []
  -- what is left out takes its voucher with it
  pub not_all : map (λ f. f.tag) (bundle_frames 1 (sign 1) convicting (asks 3 []) (take 1 both_updates) true) ≡ 1 ∷ 2 ∷ 3 ∷ 4 ∷ []
  -- End says whether there is more
  pub nothing_left : bundle_frames 1 (sign 1) (born 1) (asks 3 []) [] false ≡ record { tag = 4; payload = 0 ∷ [] } ∷ []
  pub more : bundle_frames 1 (sign 1) (born 1) (asks 3 []) [] true ≡ record { tag = 4; payload = 1 ∷ [] } ∷ []

frames_in_order : FramesInOrder
unfolding sha256 first_words schedule rounds compress hash_after digest_bytes numeral number bytes_of list_of dep id_of_update update_body update_fields signed_with is_covered candidates values_behind candidate_parcels parcels sent_foreign bundle_frames first_values
frames_in_order = record { all = refl; not_all = refl; nothing_left = refl; more = refl }

-- ---- the ids that need a voucher

record IdsInOrder : Type 0 where
  -- of_one has the greater id; they are in the order in which they were sent
  pub falling : unvouched 3 (born 3) (record { told = of_one_signed ∷ of_two_signed ∷ []; values = [] } ∷ []) ≡ id_of_update of_one ∷ id_of_update of_two ∷ []
  pub rising : unvouched 3 (born 3) (record { told = of_two_signed ∷ of_one_signed ∷ []; values = [] } ∷ []) ≡ id_of_update of_two ∷ id_of_update of_one ∷ []
  pub sent : sent_foreign 3 (record { told = of_one_signed ∷ of_two_signed ∷ []; values = [] } ∷ []) ≡ id_of_update of_one ∷ id_of_update of_two ∷ []

ids_in_order : IdsInOrder
unfolding sent_foreign unvouched
ids_in_order = record { falling = refl; rising = refl; sent = refl }
