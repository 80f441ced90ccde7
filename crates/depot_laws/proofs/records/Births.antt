-- A journal with a birth record alone.
use Rattle.std.proofs.Common.{◌≡◌, ℕ, true, List, [], ◌∷◌, length, refl, arith}
use Rattle.std.proofs.lemmas.List.{length-append}
use Rattle.sha2.proofs.Facts256.{length-sha256}
use Rattle.depot_base.specs.Cursor.{numeral}
use Rattle.depot_base.specs.Format.{number, bytes_of}
use Rattle.depot_base.specs.Parts.{node_number, digest}
use Rattle.depot_base.specs.declared.key.RosterEntry.{RosterEntry}
use Rattle.depot_base.specs.declared.record.Record.TheVariants.{Birth}
use Rattle.depot_model.specs.texts.Texts.{IsRoster, text_of_roster, hash_of_roster}
use Rattle.depot_model.specs.texts.Records.{birth, tagged, record_text, IsRecord, text_of_record}
use Rattle.depot_model.specs.texts.Roster.{has_node}
use Rattle.depot_model.specs.checks.Checks.{Setting}
use Rattle.depot_model.specs.journals.Lawful.{IsAllowed, IsLawful}
use Rattle.depot_laws.proofs.records.Rosters.{node_fits}
use Rattle.depot_laws.proofs.records.JournalLimits.{room_from_within}
use Rattle.depot_laws.proofs.lists.Splits.{lawful_none, lawful_push}

-- a birth has a text
pub IsRecord-Birth : (node : ℕ) (h : List ℕ) → node_number.fits node → digest.fits h → IsRecord (Birth node h)
unfolding record_text tagged birth number
IsRecord-Birth node h node_in long = ((omega arith, omega arith), (node_in, (long, refl)))

pub short_birth : (node : ℕ) (h : List ℕ) → length h ≡ 32 → length (text_of_record (Birth node h)) ≡ 35
unfolding record_text tagged birth number bytes_of numeral
short_birth node h long = omega (arith, long, length-append h [])

pub roster_hash_is_digest : (listed : List RosterEntry) → length (hash_of_roster listed) ≡ 32
unfolding hash_of_roster
roster_hash_is_digest listed = length-sha256 (text_of_roster listed)

pub digest_from_length : (h : List ℕ) → length h ≡ 32 → digest.fits h
unfolding bytes_of
digest_from_length h long = long

-- the journal of a node that has a birth record and nothing else
pub born : (here : Setting) → IsRoster here.listed → has_node here.listed here.me ≡ true → IsLawful here (Birth here.me (hash_of_roster here.listed) ∷ [])
born here fits known =
    let text : IsRecord (Birth here.me (hash_of_roster here.listed)) = IsRecord-Birth here.me (hash_of_roster here.listed) (node_fits here.listed here.me fits known) (digest_from_length (hash_of_roster here.listed) (roster_hash_is_digest here.listed)) in
    let allowed : IsAllowed here [] (Birth here.me (hash_of_roster here.listed)) = record {
      first = refl;
      text = text;
      may = (refl, refl);
      room = room_from_within here.me [] (Birth here.me (hash_of_roster here.listed) ∷ []) (record { records = omega arith; bytes = omega (arith, short_birth here.me (hash_of_roster here.listed) (roster_hash_is_digest here.listed)); writers = λ takes. absurd cc });
    } in
    lawful_push here [] (Birth here.me (hash_of_roster here.listed)) (lawful_none here) allowed
