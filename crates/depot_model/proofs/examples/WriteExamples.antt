-- Worked examples of what an update writes: its text in both versions, where bytes go wrong, and the text of an own put.
use Rattle.std.proofs.Common.{◌≡◌, ℕ, List, [], ◌∷◌, ◌++◌, length, replicate, Ok, Err, Result, refl}
use Rattle.std.specs.Int.{w32}
use Rattle.depot_base.specs.Cursor.{numeral}
use Rattle.depot_base.specs.Format.{number, bytes_of, inner, list_of, whole}
use Rattle.depot_base.specs.Parts.{dep, write, marked}
use Rattle.depot_base.specs.Zeros.{zeros}
use Rattle.depot_base.specs.declared.update.Update.{Update}
use Rattle.depot_base.specs.declared.write.Wrote.TheVariants.{Put, Gone}
use Rattle.depot_base.specs.declared.write.Write.{Write}
use Rattle.depot_base.specs.declared.statement.Statement.{Statement}
use Rattle.depot_base.specs.declared.record.Record.{Record}
use Rattle.depot_base.specs.declared.record.Record.TheVariants.{OwnPut}
use Rattle.depot_model.specs.texts.Texts.{update_fields, voucher_fields, update_body, statement, text_of_update}
use Rattle.depot_model.specs.texts.Records.{birth, own_put, tagged, record_text, text_of_record}
use Rattle.depot_model.proofs.examples.Cast.{mark, one}

-- the first 48 bytes of an update of node 1 with seq 0, clock 1 and no prev, of this version and kind
abbrev head_of : ℕ → ℕ → List ℕ
head_of version kind = version ∷ kind ∷ 0 ∷ 1 ∷ replicate 4 0 ++ (replicate 7 0 ++ 1 ∷ zeros)

-- no entries, and a history of 32 zero bytes
abbrev tail : List ℕ
tail = 0 ∷ 0 ∷ zeros

-- the update that writes these
abbrev writing : List Write → Update
writing ws = record one { writes = ws; history = zeros }

abbrev gone : ℕ → Write
gone key = record { key = key ∷ []; what = Gone }

abbrev puts : ℕ → ℕ → ℕ → Write
puts key value size = record { key = key ∷ []; what = Put (mark value) size }

-- ---- texts

record TheTexts : Type 0 where
  -- one write that is no deletion has the text of version 1
  pub put : text_of_update (writing (puts 107 97 1 ∷ [])) ≡ head_of 1 1 ++ (1 ∷ 107 ∷ mark 97 ++ (0 ∷ 0 ∷ 0 ∷ 1 ∷ tail))
  -- one deletion has that of version 2, of 86 bytes
  pub deletion : text_of_update (writing (gone 107 ∷ [])) ≡ head_of 2 1 ++ (1 ∷ 1 ∷ 107 ∷ 0 ∷ tail)
  pub short : length (text_of_update (writing (gone 107 ∷ []))) ≡ 86
  -- and so have several
  pub two : text_of_update (writing (puts 107 97 1 ∷ gone 108 ∷ [])) ≡ head_of 2 1 ++ (2 ∷ 1 ∷ 107 ∷ 1 ∷ mark 97 ++ (0 ∷ 0 ∷ 0 ∷ 1 ∷ 1 ∷ 108 ∷ 0 ∷ tail))

the_texts : TheTexts
unfolding number bytes_of list_of numeral dep write marked update_fields update_body
the_texts = record { put = refl; deletion = refl; short = refl; two = refl }

-- ---- what is read

abbrev reads : List ℕ → Result Update ℕ
reads bytes = whole update_body (record { at = 0; rest = bytes })

abbrev reads_statement : List ℕ → Result Statement ℕ
reads_statement bytes = whole statement (record { at = 0; rest = bytes })

record WhatIsRead : Type 0 where
  pub put : reads (text_of_update (writing (puts 107 97 1 ∷ []))) ≡ Ok (writing (puts 107 97 1 ∷ []))
  pub deletion : reads (text_of_update (writing (gone 107 ∷ []))) ≡ Ok (writing (gone 107 ∷ []))
  pub two : reads (text_of_update (writing (puts 107 97 1 ∷ gone 108 ∷ []))) ≡ Ok (writing (puts 107 97 1 ∷ gone 108 ∷ []))
  -- a version that there isn't
  pub version : reads (head_of 3 1 ++ (1 ∷ 1 ∷ 107 ∷ 0 ∷ tail)) ≡ Err 0
  -- a voucher's kind in version 2, at the kind
  pub kind : reads_statement (head_of 2 2) ≡ Err 1
  pub update_kind : reads (head_of 1 2) ≡ Err 1
  -- no write, and 17
  pub none : reads (head_of 2 1 ++ (0 ∷ tail)) ≡ Err 48
  pub many : reads (head_of 2 1 ++ (17 ∷ tail)) ≡ Err 48
  -- one write that is no deletion, and a mark that there isn't, at the mark
  pub one_put : reads (head_of 2 1 ++ (1 ∷ 1 ∷ 107 ∷ 1 ∷ mark 97 ++ (0 ∷ 0 ∷ 0 ∷ 1 ∷ tail))) ≡ Err 51
  pub one_marked : reads (head_of 2 1 ++ (1 ∷ 1 ∷ 107 ∷ 2 ∷ tail)) ≡ Err 51
  pub marked : reads (head_of 2 1 ++ (2 ∷ 1 ∷ 107 ∷ 2 ∷ tail)) ≡ Err 51
  -- an empty key
  pub no_key : reads (head_of 2 1 ++ (2 ∷ 0 ∷ 0 ∷ 1 ∷ 107 ∷ 0 ∷ tail)) ≡ Err 49
  -- a value of more than 65,536 bytes, at its length
  pub long_value : reads (head_of 2 1 ++ (2 ∷ 1 ∷ 107 ∷ 1 ∷ mark 97 ++ (0 ∷ 1 ∷ 0 ∷ 1 ∷ 1 ∷ 108 ∷ 0 ∷ tail))) ≡ Err 84
  -- the second key isn't above the first, at its write
  pub below : reads (head_of 2 1 ++ (2 ∷ 1 ∷ 108 ∷ 0 ∷ 1 ∷ 107 ∷ 0 ∷ tail)) ≡ Err 52
  pub twice : reads (head_of 2 1 ++ (2 ∷ 1 ∷ 107 ∷ 0 ∷ 1 ∷ 107 ∷ 0 ∷ tail)) ≡ Err 52
  -- but a faulty field of that write comes first
  pub below_and_marked : reads (head_of 2 1 ++ (2 ∷ 1 ∷ 108 ∷ 0 ∷ 1 ∷ 107 ∷ 2 ∷ tail)) ≡ Err 54
  -- a text of version 1 under version 2: its key's length is a count, and the key a length that is cut short
  pub renamed : reads (head_of 2 1 ++ (1 ∷ 107 ∷ mark 97 ++ (0 ∷ 0 ∷ 0 ∷ 1 ∷ tail))) ≡ Err 50

what_is_read : WhatIsRead
unfolding number bytes_of list_of numeral dep write marked update_fields voucher_fields update_body statement
what_is_read = record {
  put = refl;
  deletion = refl;
  two = refl;
  version = refl;
  kind = refl;
  update_kind = refl;
  none = refl;
  many = refl;
  one_put = refl;
  one_marked = refl;
  marked = refl;
  no_key = refl;
  long_value = refl;
  below = refl;
  twice = refl;
  below_and_marked = refl;
  renamed = refl;
}

-- ---- own puts

-- two values after each other, of one byte and of two, and a deletion between them
abbrev three : Update
three = writing (puts 107 97 1 ∷ gone 108 ∷ puts 109 98 2 ∷ [])

abbrev own_text : List ℕ → List ℕ
own_text behind = 2 ∷ numeral w32 (length (text_of_update three)) ++ (text_of_update three ++ behind)

abbrev reads_record : List ℕ → Result Record ℕ
reads_record bytes = record_text.read (record { at = 0; rest = bytes })

record OwnPuts : Type 0 where
  pub long : length (text_of_update three) ≡ 164
  pub text : text_of_record (OwnPut three ((97 ∷ []) ∷ (98 ∷ 99 ∷ []) ∷ [])) ≡ own_text (97 ∷ 98 ∷ 99 ∷ [])
  pub read : reads_record (own_text (97 ∷ 98 ∷ 99 ∷ [])) ≡ Ok (OwnPut three ((97 ∷ []) ∷ (98 ∷ 99 ∷ []) ∷ []))
  -- a value that is cut short, at its start
  pub no_values : reads_record (own_text []) ≡ Err 169
  pub second_cut : reads_record (own_text (97 ∷ 98 ∷ [])) ≡ Err 170
  -- more bytes, at the first of them
  pub more : reads_record (own_text (97 ∷ 98 ∷ 99 ∷ 100 ∷ [])) ≡ Err 172

own_puts : OwnPuts
unfolding number bytes_of list_of numeral dep inner write marked update_fields update_body record_text tagged birth own_put
own_puts = record { long = refl; text = refl; read = refl; no_values = refl; second_cut = refl; more = refl }
