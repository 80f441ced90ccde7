-- Worked examples of requests: what is read, and the offset of the first fault.
use Rattle.std.proofs.Common.{◌≡◌, ℕ, List, [], ◌∷◌, ◌++◌, replicate, Option, Some, None, Ok, Err, Result, refl}
use Rattle.std.specs.Prelude.{codes}
use Rattle.depot_base.specs.Closed.{rest_of}
use Rattle.depot_base.specs.Format.{number, bytes_of, list_of}
use Rattle.depot_base.specs.declared.write.Change.{Change}
use Rattle.depot_model.specs.readers.Checkpoints.{is_checkpoint_key}
use Rattle.depot_model.specs.worlds.Receipts.{receipt_of}
use Rattle.depot_requests.specs.declared.request.Request.{Request}
use Rattle.depot_requests.specs.declared.request.Request.TheVariants as request
use Rattle.depot_requests.specs.ChangeTexts.{change_behind, change_text, changes_text, ids_text, key_text}
use Rattle.depot_requests.specs.RequestTexts.{asked_behind, request_of_body, request_text, settled_text}

abbrev reads : List ℕ → Result Request ℕ
reads body = request_text.read (record { at = 0; rest = body })

abbrev id : List ℕ
id = replicate 32 5

abbrev writes : ℕ → ℕ → Change
writes key value = record { key = key ∷ []; value = Some (value ∷ []) }

abbrev deletes : ℕ → Change
deletes key = record { key = key ∷ []; value = None }

record RequestsRead : Type 0 where
  pub put : request_of_body (1 ∷ 2 ∷ 1 ∷ 107 ∷ 1 ∷ 0 ∷ 0 ∷ 0 ∷ 1 ∷ 118 ∷ 1 ∷ 108 ∷ 0 ∷ []) ≡ Some (request.Put (writes 107 118 ∷ deletes 108 ∷ []))
  pub get : request_of_body (2 ∷ 1 ∷ 107 ∷ []) ≡ Some (request.Get (107 ∷ []))
  pub hello : request_of_body (3 ∷ []) ≡ Some request.Hello
  pub bundle : request_of_body (4 ∷ 9 ∷ []) ≡ Some (request.Bundle (9 ∷ []))
  pub take : request_of_body (5 ∷ 9 ∷ []) ≡ Some (request.Take (9 ∷ []) 65536)
  pub receipt : request_of_body (6 ∷ 1 ∷ id) ≡ Some (request.Receipt (id ∷ []))
  pub settled : request_of_body (7 ∷ id ++ (0 ∷ 0 ∷ 0 ∷ 2 ∷ [])) ≡ Some (request.Settled id 2)
  pub checkpoint : request_of_body (8 ∷ []) ≡ Some request.Checkpoint
  pub sign : request_of_body (9 ∷ 9 ∷ []) ≡ Some (request.Sign (9 ∷ []))

the_requests : RequestsRead
unfolding number bytes_of list_of rest_of receipt_of is_checkpoint_key key_text change_behind change_text changes_text ids_text settled_text asked_behind request_text
the_requests = record { put = refl; get = refl; hello = refl; bundle = refl; take = refl; receipt = refl; settled = refl; checkpoint = refl; sign = refl }

record WhereTheyGoWrong : Type 0 where
  -- no bytes, and an unknown kind
  pub nothing : reads [] ≡ Err 0
  pub unknown : reads (10 ∷ []) ≡ Err 0
  -- no changes; keys that fall; the key of a receipt; a value that is cut short
  pub none : reads (1 ∷ 0 ∷ []) ≡ Err 1
  pub falls : reads (1 ∷ 2 ∷ 1 ∷ 108 ∷ 0 ∷ 1 ∷ 107 ∷ 0 ∷ []) ≡ Err 5
  pub of_receipt : reads (1 ∷ 1 ∷ 40 ∷ codes "receipt:" ++ id ++ (0 ∷ [])) ≡ Err 2
  pub cut : reads (1 ∷ 1 ∷ 1 ∷ 107 ∷ 1 ∷ 0 ∷ 0 ∷ 0 ∷ 2 ∷ 118 ∷ []) ≡ Err 9
  -- a key of no bytes; bytes after a hello and a checkpoint
  pub no_key : reads (2 ∷ 0 ∷ []) ≡ Err 1
  pub behind_hello : reads (3 ∷ 3 ∷ []) ≡ Err 1
  pub behind_checkpoint : reads (8 ∷ 8 ∷ []) ≡ Err 1
  -- an id twice; an id that is cut short
  pub twice : reads (6 ∷ 2 ∷ id ++ id) ≡ Err 34
  pub short : reads (7 ∷ replicate 31 5) ≡ Err 1

where_they_go_wrong : WhereTheyGoWrong
unfolding number bytes_of list_of rest_of receipt_of is_checkpoint_key key_text change_behind change_text changes_text ids_text settled_text asked_behind request_text
where_they_go_wrong = record {
  nothing = refl;
  unknown = refl;
  none = refl;
  falls = refl;
  of_receipt = refl;
  cut = refl;
  no_key = refl;
  behind_hello = refl;
  behind_checkpoint = refl;
  twice = refl;
  short = refl;
}
