-- What a judgement says to a caller that has texts alone.
use Rattle.std.specs.Prelude.{◌≡◌, ◌≢◌, ℕ, List, [], ◌∷◌, Err}
use Rattle.depot_base.specs.Membership.{IsIn}
use Rattle.depot_base.specs.declared.proof.Kind.{Kind}
use Rattle.depot_base.specs.declared.key.RosterEntry.{RosterEntry}
use Rattle.depot_model.specs.declared.roster_format.RosterError.{RosterError}
use Rattle.depot_model.specs.declared.roster_format.RosterError.TheVariants as roster_error
use Rattle.depot_model.specs.declared.judgement.JudgeError.{JudgeError}
use Rattle.depot_model.specs.declared.judgement.JudgeError.TheVariants as point
use Rattle.depot_model.specs.updates.Conviction.{Convicts}
use Rattle.depot_model.specs.updates.Judgement.{IsJudgementOf}
use Rattle.depot_model.specs.texts.RosterText.{ParsesRoster}
use Rattle.depot_model.specs.texts.Texts.{IsRoster, number_of_kind, text_of_roster}
use Rattle.depot_model.specs.texts.Winternitz.{winternitz_verifies}

-- The texts are those of a roster and of a proof that convicts its node of this number in the kind of this number.
pub record IsConvicted (roster proof : List ℕ) (node kind : ℕ) : Type 0 where
  pub listed : List RosterEntry
  pub formed : IsRoster listed
  pub text : roster ≡ text_of_roster listed
  pub named : Kind
  pub numbered : kind ≡ number_of_kind named
  pub convicts : Convicts winternitz_verifies listed proof (record { node = node; kind = named })

-- The first text is no roster's, for this.
pub record IsRosterRefused (roster : List ℕ) : Type 0 where
  pub cause : RosterError
  pub told : cause ≢ roster_error.Memory
  pub refused : ParsesRoster roster (Err cause)

-- The first text is that of a roster, and a point of the second fails under it.
pub record IsNotConvicted (roster proof : List ℕ) : Type 0 where
  pub listed : List RosterEntry
  pub formed : IsRoster listed
  pub text : roster ≡ text_of_roster listed
  pub failed : JudgeError
  pub told : failed ≢ point.Memory
  pub judged : IsJudgementOf winternitz_verifies listed proof (Err failed)

-- the statuses of judgements
abbrev pub IsStatus : ℕ → Type 0
IsStatus status = IsIn status (0 ∷ 2 ∷ 6 ∷ 7 ∷ [])
