-- The parts of a node's hello.
use Rattle.std.proofs.Common.{◌≡◌, ℕ, List}
use Rattle.depot_model.specs.declared.hello.HelloLeaf.{HelloLeaf}
use Rattle.depot_model.specs.texts.Texts.{hash_of_roster}
use Rattle.depot_model.specs.checks.Checks.{Setting}
use Rattle.depot_base.specs.declared.record.Record.{Record}
use Rattle.depot_model.specs.exchange.Hello.{leaves_named, convicted_nodes, wanted_of, hello_of}

-- its parts make it up
pub hello_is : (here : Setting) (J : List Record) (node : ℕ) (roster : List ℕ) (convicted : List ℕ) (leaves : List HelloLeaf) (wanted : List (List ℕ))
    → node ≡ here.me → roster ≡ hash_of_roster here.listed → convicted ≡ convicted_nodes here J → leaves ≡ leaves_named J → wanted ≡ wanted_of J
    → record { node = node; roster = roster; convicted = convicted; leaves = leaves; wanted = wanted } ≡ hello_of here J
unfolding hello_of
hello_is here J node roster convicted leaves wanted a b c d e = cc
