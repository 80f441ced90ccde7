-- What a command asks for.
use Rattle.std.proofs.Common.{◌≡◌, ℕ, Bool, List, [], ◌∷◌, Option, Some, None, refl, ap, ◌∙◌, inl}
use Rattle.depot_model.specs.exchange.Bundle.{Signs}
use Rattle.depot_model.specs.checks.Checks.{Setting}
use Rattle.depot_requests.specs.declared.request.Request.TheVariants as request
use Rattle.depot_script.specs.declared.command.Command.{Command}
use Rattle.depot_script.specs.declared.command.Command.TheVariants as command
use Rattle.depot_session.specs.Sessions.{Asking, AsksTheNode, Names, Session, absent, asked_in, asks_for, file_asked, lacks, loads_of, step_by, step_of, with_file}
use Rattle.depot_session.specs.declared.requesting.TheConstants.{TAKEN_PIECE}

-- ---- files

-- what holds of it whether its file is there or not
pub of_file : (P : Asking → Type 0) (asks : List ℕ → Asking) (name : List ℕ) (o : Option (List ℕ)) → P (lacks name) → ((bytes : List ℕ) → P (asks bytes)) → P (with_file asks name o)
of_file P asks name None absent there = absent
of_file P asks name (Some bytes) absent there = there bytes

module _ (asks : List ℕ → Asking) (s : Session) (file name : List ℕ) (is : Some file ≡ Some name) where
  named_so : file ≡ name
  named_so = cc

  pub with_none : s.files name ≡ None → with_file asks file (s.files file) ≡ lacks name
  with_none none = ap (λ (n : List ℕ). with_file asks n (s.files n)) named_so ∙ ap (with_file asks name) none

  pub with_some : (bytes : List ℕ) → s.files name ≡ Some bytes → with_file asks file (s.files file) ≡ asks bytes
  with_some bytes some = ap (λ (n : List ℕ). with_file asks n (s.files n)) named_so ∙ ap (with_file asks name) some

-- its file isn't there
pub lacks_file : (s : Session) (c : Command) (name : List ℕ) → file_asked c ≡ Some name → s.files name ≡ None → asked_in s c ≡ lacks name
lacks_file s (command.Bundle hello file) name is none = with_none (λ bytes. asks_for (request.Bundle bytes)) s hello name is none
lacks_file s (command.Take file) name is none = with_none (λ bytes. asks_for (request.Take bytes TAKEN_PIECE)) s file name is none
lacks_file s (command.Sign file) name is none = with_none (λ bytes. asks_for (request.Sign bytes)) s file name is none
lacks_file s other name is none = absurd cc

-- it names it
pub names_file : (c : Command) (name : List ℕ) → file_asked c ≡ Some name → Names c name
names_file (command.Bundle hello file) name is = inl cc
names_file (command.Take file) name is = cc
names_file (command.Sign file) name is = cc
names_file other name is = absurd cc

-- and loads it
pub loads_file : (made : Bool) (c : Command) (name : List ℕ) → file_asked c ≡ Some name → loads_of made c ≡ name ∷ []
loads_file made (command.Bundle hello file) name is = let same : hello ≡ name = cc in ap (λ (n : List ℕ). n ∷ []) same
loads_file made (command.Take file) name is = let same : file ≡ name = cc in ap (λ (n : List ℕ). n ∷ []) same
loads_file made (command.Sign file) name is = let same : file ≡ name = cc in ap (λ (n : List ℕ). n ∷ []) same
loads_file made other name is = absurd cc

-- one that asks a node with none loads none
pub loads_none : (made : Bool) (c : Command) → AsksTheNode c → file_asked c ≡ None → loads_of made c ≡ []
loads_none made (command.Bundle hello file) asks none = absurd cc
loads_none made (command.Take file) asks none = absurd cc
loads_none made (command.Sign file) asks none = absurd cc
loads_none made (command.Trim file) asks none = absurd asks
loads_none made (command.Tgive file) asks none = absurd asks
loads_none made other asks none = refl

-- what it asks for with its bytes
pub asks_bundle : (s : Session) (hello file name bytes : List ℕ) → file_asked (command.Bundle hello file) ≡ Some name → s.files name ≡ Some bytes → asked_in s (command.Bundle hello file) ≡ asks_for (request.Bundle bytes)
asks_bundle s hello file name bytes is = with_some (λ b. asks_for (request.Bundle b)) s hello name is bytes

pub asks_take : (s : Session) (file name bytes : List ℕ) → file_asked (command.Take file) ≡ Some name → s.files name ≡ Some bytes → asked_in s (command.Take file) ≡ asks_for (request.Take bytes TAKEN_PIECE)
asks_take s file name bytes is = with_some (λ b. asks_for (request.Take b TAKEN_PIECE)) s file name is bytes

pub asks_sign : (s : Session) (file name bytes : List ℕ) → file_asked (command.Sign file) ≡ Some name → s.files name ≡ Some bytes → asked_in s (command.Sign file) ≡ asks_for (request.Sign bytes)
asks_sign s file name bytes is = with_some (λ b. asks_for (request.Sign b)) s file name is bytes

-- ---- the node

-- a command that is none of the others asks the node
pub asks_unless : (c : Command) → ((file : List ℕ) → c ≡ command.Export file → ⊥) → ((file : List ℕ) → c ≡ command.Trim file → ⊥) → ((file : List ℕ) → c ≡ command.Tgive file → ⊥) → ((key : List ℕ) → c ≡ command.Tget key → ⊥) → AsksTheNode c
asks_unless (command.Export file) e t g k = e file refl
asks_unless (command.Trim file) e t g k = t file refl
asks_unless (command.Tgive file) e t g k = g file refl
asks_unless (command.Tget key) e t g k = k key refl
asks_unless other e t g k = tt

-- ---- the step of one whose file isn't there

pub step_absent : (here : Setting) (sign : Signs) (s : Session) (c : Command) (name : List ℕ) → file_asked c ≡ Some name → s.files name ≡ None → step_of here sign s c ≡ absent s name
unfolding step_of
step_absent here sign s c name is none = ap (step_by here sign s c) (lacks_file s c name is none)
