-- Worked examples of updates by their places.
use Rattle.std.proofs.Common.{◌≡◌, [], ◌∷◌, Some, None, refl, ◌==◌}
use Rattle.sha2.specs.Sha256.{sha256, first_words, schedule, rounds, compress, hash_after, digest_bytes}
use Rattle.depot_base.specs.Cursor.{numeral}
use Rattle.depot_base.specs.Format.{number, bytes_of, list_of}
use Rattle.depot_base.specs.Parts.{dep}
use Rattle.depot_base.specs.Zeros.{zeros}
use Rattle.depot_model.specs.lists.Items.{place_of_id, place_of_prev, places_where, children_of}
use Rattle.depot_model.specs.texts.Texts.{update_fields, voucher_fields, update_body, statement, id_of_update}
use Rattle.depot_model.proofs.examples.Cast.{one, two, two_id, two_more, three, nine, nine_more}

record Places : Type 0 where
  -- the first with this id
  pub of_id : place_of_id two_id (one ∷ two ∷ two ∷ []) ≡ Some 1
  pub of_no_id : place_of_id two_id (one ∷ []) ≡ None
  -- 32 zero bytes name nothing as a prev
  pub of_prev : place_of_prev (id_of_update one) (one ∷ two ∷ []) ≡ Some 0
  pub of_zeros : place_of_prev zeros (one ∷ two ∷ []) ≡ None
  -- what passes a test, from a place on
  pub where_it_holds : places_where (λ u. u.writer == 9) 4 (nine ∷ two ∷ nine_more ∷ []) ≡ 4 ∷ 6 ∷ []
  -- the updates whose prev is at a place, not those that name it by an entry
  pub children : children_of (two ∷ two_more ∷ three ∷ record two_more { seq = 2 } ∷ []) 0 ≡ 1 ∷ 3 ∷ []
  pub no_children : children_of (two ∷ three ∷ []) 0 ≡ []
  pub no_place : children_of (two ∷ []) 5 ≡ []

places : Places
unfolding sha256 first_words schedule rounds compress hash_after digest_bytes numeral bytes_of list_of number dep places_where id_of_update statement update_body update_fields voucher_fields
places = record { of_id = refl; of_no_id = refl; of_prev = refl; of_zeros = refl; where_it_holds = refl; children = refl; no_children = refl; no_place = refl }
