-- Worked examples of how much a hello names: each count at its limit, and one more.
use Rattle.std.proofs.Common.{◌≡◌, ℕ, zero, suc, ◌/◌, ◌%◌, List, [], ◌∷◌, ◌++◌, length, refl}
use Rattle.depot_base.specs.Writes.{put_one}
use Rattle.depot_base.specs.Zeros.{zeros}
use Rattle.depot_base.specs.Format.{number, bytes_of, list_of}
use Rattle.depot_base.specs.declared.write.Write.{Write}
use Rattle.depot_base.specs.declared.statement.Statement.TheVariants as statements
use Rattle.depot_base.specs.declared.record.Record.{Record}
use Rattle.depot_base.specs.declared.record.Record.TheVariants.{Foreign}
use Rattle.depot_model.specs.journals.Journal.{first_values, holds}
use Rattle.depot_model.specs.checks.Vouching.{put_rising, rising}
use Rattle.depot_model.specs.exchange.Hello.{hello, hello_leaf, lacking, wanted_of}
use Rattle.depot_model.specs.exchange.Bundle.{BundleAnswer, bundle_answer, bad_hello}
use Rattle.depot_model.proofs.examples.Exchanges.{here, sign, born, of_two}

-- ---- wanted hashes

-- writes of this many values, whose hashes rise from that of a number on
abbrev writes : ℕ → ℕ → List Write
writes zero k = []
writes (suc n) k = put_one (107 ∷ []) (k / 256 ∷ k % 256 ∷ []) 1 ++ writes n (suc k)

-- a journal that lacks this many values
abbrev lacks : ℕ → List Record
lacks n = Foreign (record { statement = statements.Update (record of_two { writes = writes n 0 }); body = []; signature = [] }) ∷ []

record AtMost1024 : Type 0 where
  pub lacks_more : length (lacking (lacks 1025)) ≡ 1025
  pub all : length (wanted_of (lacks 1024)) ≡ 1024
  pub one_more : length (wanted_of (lacks 1025)) ≡ 1024

at_most_1024 : AtMost1024
unfolding lacking rising put_rising holds first_values
at_most_1024 = record { lacks_more = refl; all = refl; one_more = refl }

-- ---- counts in a text

-- what node 1 answers to a text that ends after these bytes of its counts
abbrev counts : List ℕ → BundleAnswer
counts bytes = bundle_answer (here 1) (sign 1) (born 1) (1 ∷ 3 ∷ 0 ∷ 1 ∷ (zeros ++ bytes))

record CountsAreBounded : Type 0 where
  -- 256 convicted nodes, of which the first is cut, and 257
  pub convicted : counts (1 ∷ 0 ∷ []) ≡ bad_hello 38
  pub convicted_more : counts (1 ∷ 1 ∷ []) ≡ bad_hello 36
  -- 4,097 leaves, and 4,098
  pub leaves : counts (0 ∷ 0 ∷ 16 ∷ 1 ∷ []) ≡ bad_hello 40
  pub leaves_more : counts (0 ∷ 0 ∷ 16 ∷ 2 ∷ []) ≡ bad_hello 38
  -- 1,024 wanted hashes, and 1,025
  pub wanted : counts (0 ∷ 0 ∷ 0 ∷ 0 ∷ 4 ∷ 0 ∷ []) ≡ bad_hello 42
  pub wanted_more : counts (0 ∷ 0 ∷ 0 ∷ 0 ∷ 4 ∷ 1 ∷ []) ≡ bad_hello 40

counts_are_bounded : CountsAreBounded
unfolding bundle_answer hello hello_leaf number bytes_of list_of
counts_are_bounded = record { convicted = refl; convicted_more = refl; leaves = refl; leaves_more = refl; wanted = refl; wanted_more = refl }
