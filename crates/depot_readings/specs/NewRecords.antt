-- What a journal grows by in one call.
use Rattle.std.specs.Prelude.{◌≡◌, ℕ, ◌+◌, ◌≤◌, List, [], ◌∷◌, ◌++◌, length, map, Option, None, Ok, IfSome}
use Rattle.std.specs.List.{AllByRecursion, sum_by}
use Rattle.std.specs.Global.{Vec}
use Rattle.sha2.specs.Sha256.{sha256}
use Rattle.depot_base.specs.WithRest.{with_rest}
use Rattle.depot_base.specs.declared.limits.TheConstants.{MOST_RECORDS}
use Rattle.depot_base.specs.declared.record.Record.{Record}
use Rattle.depot_base.specs.declared.record.Record.TheVariants.{Birth, OwnPut, Foreign, Conviction, Held}
use Rattle.depot_base.specs.declared.statement.Signed.{Signed}
use Rattle.depot_base.specs.declared.statement.Statement.TheVariants as statements
use Rattle.depot_base.specs.declared.voucher.Voucher.{Voucher}
use Rattle.depot_model.specs.declared.taken.Taken.TheVariants.{New}
use Rattle.depot_model.specs.checks.Checks.{Setting, given_statement, answer_to}
use Rattle.depot_model.specs.journals.Lawful.{IsLawful}
use Rattle.depot_model.specs.lists.Lists.{IsIn}
use Rattle.depot_model.specs.texts.Records.{IsRecord, text_of_record}
use Rattle.depot_model.specs.checks.Room.{full_by}
use Rattle.depot_model.specs.texts.Texts.{id_of_update, id_of_statement}
use Rattle.depot_model.specs.checks.Vouching.{records_of}
use Rattle.depot_readings.specs.RecordTexts.{given_of}
use Rattle.depot_readings.specs.declared.news.NewVoucher.{NewVoucher}
use Rattle.depot_readings.specs.declared.news.News.{News}
use Rattle.depot_readings.specs.declared.news.News.TheVariants as news

-- the vouchers of these, without their ids
abbrev pub vouchers_of : List NewVoucher → List Voucher
vouchers_of xs = map (λ x. x.voucher) xs

-- the records of a growth
abbrev pub records_in : News → List Record
records_in news.Nothing = []
records_in (news.Birth node roster) = Birth node roster ∷ []
records_in (news.Put u values id parents) = OwnPut u values ∷ []
records_in (news.Foreign s id parents) = Foreign s ∷ []
records_in (news.Convicting p s id parents) = Conviction p ∷ Foreign s ∷ []
records_in (news.Conviction p) = Conviction p ∷ []
records_in (news.Held value hash) = Held value ∷ []
records_in (news.Vouchers xs) = records_of (vouchers_of xs)

-- the id of a new voucher is its own
abbrev pub HasOwnId : NewVoucher → Type 0
HasOwnId x = x.id ≡ id_of_statement (statements.Voucher x.voucher)

-- each record has its hash: the id of a statement, SHA-256 of a value of others
abbrev pub AreHashed : News → Type 0
AreHashed (news.Put u values id parents) = id ≡ id_of_update u
AreHashed (news.Foreign s id parents) = id ≡ id_of_statement s.statement
AreHashed (news.Convicting p s id parents) = id ≡ id_of_statement s.statement
AreHashed (news.Held value hash) = hash ≡ sha256 value
AreHashed (news.Vouchers xs) = AllByRecursion HasOwnId xs
AreHashed other = Unit {0}

-- the bytes that records take in a journal
abbrev pub bytes_of_records : List Record → ℕ
bytes_of_records new = sum_by (λ r. 5 + length (text_of_record r)) new

-- these are the texts of these records, but of a statement of another, which comes last, the tag alone
abbrev pub AreWritten : List Record → Vec (List ℕ) → Type 0
AreWritten new texts = with_rest texts.items (given_of new) ≡ map text_of_record new

-- The bytes are those of the records, no more than a journal may have, and each record has its hash; and so are the texts, where there are.
pub record IsGrowth (news : News) (bytes : ℕ) (texts : Option (Vec (List ℕ))) : Type 0 where
  pub fit : AllByRecursion IsRecord (records_in news)
  pub sum : bytes ≡ bytes_of_records (records_in news)
  pub hashed : AreHashed news
  pub few : length (records_in news) ≤ MOST_RECORDS
  pub written : IfSome texts (AreWritten (records_in news))

-- each statement of others among these is new to the journal
abbrev pub AreNew : Setting → List Record → List Record → Type 0
AreNew here J new = (s : Signed) → IsIn (Foreign s) new → answer_to here J (given_statement s) ≡ Ok New

-- A journal may grow by these: their statements are new to it, and where there is room for them it stays lawful.
pub record MayGrow (here : Setting) (J new : List Record) : Type 0 where
  pub statements : AreNew here J new
  pub lawful : full_by here.me J new ≡ None → IsLawful here (J ++ new)
