-- Steps, one after the other.
use Rattle.std.proofs.Common.{◌≡◌, ℕ, zero, suc, ◌+◌, ◌<◌, refl, arith, add-one}
use Rattle.depot_world.specs.Loads.{steps}

pub steps-none : {A : Type 0} (step : ℕ → A → A) (a : A) → steps step 0 a ≡ a
unfolding steps
steps-none step a = refl

-- one step more
pub steps-more : {A : Type 0} (step : ℕ → A → A) (n : ℕ) (a : A) → steps step (n + 1) a ≡ step n (steps step n a)
unfolding steps
steps-more step n a = rw add-one refl

-- what each step keeps holds after all of them
pub steps-keep : {A : Type 0} (P : ℕ → A → Type 0) (step : ℕ → A → A) (n : ℕ) (a : A) → P 0 a → ((i : ℕ) (b : A) → i < n → P i b → P (i + 1) (step i b)) → P n (steps step n a)
unfolding steps
steps-keep P step zero a start keeps = start
steps-keep P step (suc n) a start keeps =
    let last : P (n + 1) (step n (steps step n a)) = keeps n (steps step n a) (omega arith) (steps-keep P step n a start (λ i b lt. keeps i b (omega arith))) in
    rw add-one at last

pub ruleset counting = (steps-none, steps-more)
