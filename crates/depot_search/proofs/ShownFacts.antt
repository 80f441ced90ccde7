-- What a read of a lawful journal shows is right even where hashes collide: only which writes it lists, and who put
-- them, is in question.
use Rattle.std.proofs.Common.{◌≡◌, ℕ, ◌==◌, Bool, true, false, cond, not, List, length, Option, Some, None, refl, sym, ap, ◌∙◌}
use Rattle.std.specs.Option.{option_map_or}
use Rattle.std.specs.Str.{bytes_eq}
use Rattle.std.proofs.lemmas.Bool.{and_from, eq-eqb}
use Rattle.std.proofs.lemmas.Slice.Eq.{bytes_eq-Decides}
use Rattle.sha2.specs.Sha256.{sha256}
use Rattle.depot_base.specs.Writes.{wrote_under}
use Rattle.depot_base.specs.declared.record.Record.{Record}
use Rattle.depot_base.specs.declared.write.Wrote.{Wrote}
use Rattle.depot_base.specs.declared.write.Wrote.TheVariants.{Put, Gone}
use Rattle.depot_model.specs.worlds.Audit.{shows_named, shows_gone}
use Rattle.depot_model.specs.texts.Contents.{Sighting, held_value, not_held}
use Rattle.depot_model.specs.journals.Journal.{held_as, seen_as, seen_under}
use Rattle.depot_model.specs.worlds.ReadTests.{if_held, is_gone, is_deletion, is_value_in}
use Rattle.depot_model.specs.worlds.World.{Shown}
use Rattle.depot_laws.proofs.records.HeldValues.{held_as_is}

-- a value that is shown is the one that the write names
value_passes : (J : List Record) (hash : List ℕ) (size : ℕ) (o : Option (List ℕ)) → held_as J (record { hash = hash; size = size }) ≡ o
    → if_held (option_map_or held_value o not_held) (λ v. is_value_in v (Put hash size)) ≡ true
value_passes J hash size None is = refl
value_passes J hash size (Some v) is =
    let h = held_as_is J (record { hash = hash; size = size }) v is in
    and_from (bytes_eq hash (sha256 v)) (size == length v) ((bytes_eq-Decides hash (sha256 v)).1 (sym h.hash)) (eq-eqb size (length v) (sym h.size))

named_passes : (J : List Record) (o : Option Wrote) → if_held (option_map_or (seen_as J) o not_held) (λ v. option_map_or (is_value_in v) o false) ≡ true
named_passes J None = refl
named_passes J (Some Gone) = refl
named_passes J (Some (Put hash size)) = value_passes J hash size (held_as J (record { hash = hash; size = size })) refl

-- a deletion is shown where the write is one, and nowhere else
never_gone : (o : Option (List ℕ)) → is_gone (option_map_or held_value o not_held) ≡ false
never_gone None = refl
never_gone (Some v) = refl

gone_passes : (J : List Record) (o : Option Wrote) → (if_gone : Bool) → is_gone (option_map_or (seen_as J) o not_held) ≡ if_gone → cond if_gone (is_deletion o) (not (is_deletion o)) ≡ true
gone_passes J None true e = absurd cc
gone_passes J None false e = refl
gone_passes J (Some Gone) true e = refl
gone_passes J (Some Gone) false e = absurd cc
gone_passes J (Some (Put hash size)) true e = absurd (never_both (sym e ∙ never_gone (held_as J (record { hash = hash; size = size })))) where
  never_both : true ≡ false → ⊥
  never_both e = cc
gone_passes J (Some (Put hash size)) false e = refl

-- so both tests pass of what records show of an update
pub shown_named : (J : List Record) (key : List ℕ) (s : Shown) → s.seen ≡ seen_under J key s.update → shows_named key s ≡ true
unfolding seen_under
shown_named J key s is =
    ap (λ (seen : Sighting). if_held seen (λ v. option_map_or (is_value_in v) (wrote_under key s.update.writes) false)) is ∙ named_passes J (wrote_under key s.update.writes)

pub shown_gone : (J : List Record) (key : List ℕ) (s : Shown) → s.seen ≡ seen_under J key s.update → shows_gone key s ≡ true
unfolding seen_under
shown_gone J key s is =
    ap (λ (seen : Sighting). cond (is_gone seen) (is_deletion (wrote_under key s.update.writes)) (not (is_deletion (wrote_under key s.update.writes)))) is
    ∙ gone_passes J (wrote_under key s.update.writes) (is_gone (option_map_or (seen_as J) (wrote_under key s.update.writes) not_held)) refl
