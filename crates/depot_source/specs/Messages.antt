-- Messages, and what is heard of those that a source gives.
use Rattle.std.specs.Prelude.{◌≡◌, ◌<◌, ◌≤◌, ◌⊎◌, ℕ, List, [], ◌∷◌, ◌++◌, length, Bool, true, Option, Some, None, Result, Ok, Err}
use Rattle.std.specs.Int.{w32, from_be_bytes}
use Rattle.depot_source.specs.Pieces.{GivesMore}
use Rattle.depot_source.specs.declared.hearing.HearError.{HearError}
use Rattle.depot_source.specs.declared.hearing.HearError.TheVariants as unheard
use Rattle.depot_source.specs.declared.hearing.TheConstants.{MOST_MESSAGE}

-- four bytes, and those after them
pub record Message : Type 0 where
  pub head : List ℕ
  pub body : List ℕ

abbrev pub text_of_message : Message → List ℕ
text_of_message m = m.head ++ m.body

-- a length that a message's body may have
abbrev pub IsBodyLength : ℕ → Type 0
IsBodyLength n = (1 ≤ n) × (n ≤ MOST_MESSAGE)

-- a message: its four bytes say the length of its body, highest first
pub record IsMessage (m : Message) : Type 0 where
  pub head : length m.head ≡ 4
  pub says : from_be_bytes w32 m.head ≡ length m.body
  pub fits : IsBodyLength (length m.body)

-- each of these is a message
abbrev pub AreMessages : List Message → Type 0
AreMessages [] = Unit {0}
AreMessages (m ∷ messages) = IsMessage m × AreMessages messages

-- The bytes are less than a whole message: a part of its head, or its head and fewer bytes than it gives.
abbrev pub IsPartOfMessage : List ℕ → Type 0
IsPartOfMessage text = (length text < 4) ⊎ ((head : List ℕ) × (part : List ℕ) × ((text ≡ head ++ part) × ((length head ≡ 4) × (length part < from_be_bytes w32 head))))

-- The bytes are no message: their head gives a length that none has, or they end within one.
abbrev pub IsNoMessage : Bool → List ℕ → Type 0
IsNoMessage over text = ((length text ≡ 4) × (IsBodyLength (from_be_bytes w32 text) → ⊥)) ⊎ ((over ≡ true) × ((1 ≤ length text) × IsPartOfMessage text))

-- less than this many bytes were given
abbrev pub GivesFewer : List ℕ → List ℕ → ℕ → Type 0
GivesFewer before after count = (part : List ℕ) × ((after ≡ before ++ part) × (length part < count))

-- a message with this body came
pub record HasHeard (before after body : List ℕ) : Type 0 where
  pub message : Message
  pub is : IsMessage message
  pub same : message.body ≡ body
  pub given : after ≡ before ++ text_of_message message

-- What is read next: a message; the end; or bytes that are no message. Where the source failed less than a message was
-- given, and where memory ran out anything.
abbrev pub HearsMessage : List ℕ → List ℕ → Bool → Result (Option (List ℕ)) HearError → Type 0
HearsMessage before after over (Ok (Some body)) = HasHeard before after body
HearsMessage before after over (Ok None) = (after ≡ before) × (over ≡ true)
HearsMessage before after over (Err unheard.Bad) = (text : List ℕ) × ((after ≡ before ++ text) × IsNoMessage over text)
HearsMessage before after over (Err unheard.Failed) = (text : List ℕ) × ((after ≡ before ++ text) × IsPartOfMessage text)
HearsMessage before after over (Err unheard.Memory) = GivesMore before after
