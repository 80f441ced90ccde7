-- The least of keys.
use Rattle.std.specs.Prelude.{◌≡◌, ℕ, ◌+◌, ◌++◌, List, filter, take, Option}
use Rattle.depot_model.specs.checks.Vouching.{rising}
use Rattle.depot_questions.specs.Answers.{is_key_above}
use Rattle.depot_questions.specs.declared.limits.TheConstants.{MOST_KEYS_TOLD}

-- the least of these keys that are above one, in rising order, each once: one more than fits on a page
abbrev pub least_of : Option (List ℕ) → List (List ℕ) → List (List ℕ)
least_of after keys = take (MOST_KEYS_TOLD + 1) (rising (filter (is_key_above after) keys))

-- if the old ones are the least of some keys, the new ones are the least of those and these
abbrev pub PutsKeys : Option (List ℕ) → List (List ℕ) → List (List ℕ) → List (List ℕ) → Type 0
PutsKeys after keys old new = (behind : List (List ℕ)) → old ≡ least_of after behind → new ≡ least_of after (keys ++ behind)
