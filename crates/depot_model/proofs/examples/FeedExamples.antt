-- Worked examples of feeds: streams of no frames, cut streams, refused frames, and what closes a feed.
use Rattle.std.proofs.Common.{◌≡◌, ℕ, List, [], ◌∷◌, ◌++◌, length, true, Some, None, Ok, refl}
use Rattle.std.proofs.lemmas.List.{length-append}
use Rattle.sha2.specs.Sha256.{sha256}
use Rattle.depot_base.specs.Format.{number}
use Rattle.depot_base.specs.Closed.{rest_of}
use Rattle.depot_base.specs.Zeros.{zeros}
use Rattle.depot_base.specs.declared.record.Record.{Record}
use Rattle.depot_base.specs.declared.record.Record.TheVariants.{Birth, Held}
use Rattle.depot_base.specs.declared.check.Check.TheVariants as check
use Rattle.depot_base.specs.declared.check.FullOf.TheVariants as full_of
use Rattle.depot_model.specs.declared.taken.Taken.TheVariants.{New}
use Rattle.depot_model.specs.declared.bundle.Report.{Report}
use Rattle.depot_model.specs.declared.bundle.Ending.TheVariants as ending
use Rattle.depot_model.specs.texts.Texts.{signed, proof}
use Rattle.depot_model.specs.checks.Checks.{Setting, given_value, is_known, first_failed_check, answer_to, growth}
use Rattle.depot_model.specs.journals.Journal.{holds_hash, is_wanted, first_values}
use Rattle.depot_model.specs.texts.Frames.{Frame, frame_at}
use Rattle.depot_model.specs.checks.Room.{full_by, full_with}
use Rattle.depot_model.specs.checks.Taking.{given_as}
use Rattle.depot_model.specs.exchange.Feeding.{Feeding, ill_formed, out_of_room, fed, fed_byte, fed_frame, take_frame, given_by, feed_of, report_of, ending_of}

-- node 1, with a scheme that takes every signature
abbrev here : Setting
here = record { verifies = λ key seq body signature. true; me = 1; listed = record { node = 1; key = record { root = zeros; height = 4 } } ∷ [] }

-- its journal at birth
abbrev born : List Record
born = Birth 1 zeros ∷ []

-- what became of the frames of a stream
abbrev report : List ℕ → Report
report stream = report_of (feed_of here born stream)

-- nothing came
nothing : report [] ≡ record { accepted = 0; known = 0; refused = []; ending = ending.Bare }
unfolding frame_at fed fed_byte fed_frame take_frame given_by given_as report_of ending_of signed proof
nothing = refl

-- one byte of a frame
cut_at_one : report (2 ∷ []) ≡ record { accepted = 0; known = 0; refused = []; ending = ending.Cut 1 }
unfolding frame_at fed fed_byte fed_frame take_frame given_by given_as report_of ending_of signed proof
cut_at_one = refl

-- a tag that is none
no_tag : (feed_of here born (9 ∷ [])).closed ≡ Some (ill_formed 0)
unfolding frame_at fed fed_byte fed_frame take_frame given_by given_as report_of ending_of signed proof
no_tag = refl

no_tag_report : report (9 ∷ []) ≡ record { accepted = 0; known = 0; refused = []; ending = ending.Closed }
unfolding frame_at fed fed_byte fed_frame take_frame given_by given_as report_of ending_of signed proof
no_tag_report = refl

-- a frame whose payload is no signed statement is refused, and the stream continues
ill_statement : report (2 ∷ 0 ∷ 0 ∷ 0 ∷ 1 ∷ 0 ∷ []) ≡ record { accepted = 0; known = 0; refused = record { frame = 0; check = check.IllFormed 0 } ∷ []; ending = ending.Bare }
unfolding frame_at fed fed_byte fed_frame take_frame given_by given_as report_of ending_of signed proof number answer_to
ill_statement = refl

-- nothing was left
ended : report (4 ∷ 0 ∷ 0 ∷ 0 ∷ 1 ∷ 0 ∷ []) ≡ record { accepted = 0; known = 0; refused = []; ending = ending.Whole }
unfolding frame_at fed fed_byte fed_frame take_frame given_by given_as report_of ending_of signed proof
ended = refl

-- there is more
ended_early : report (4 ∷ 0 ∷ 0 ∷ 0 ∷ 1 ∷ 1 ∷ []) ≡ record { accepted = 0; known = 0; refused = []; ending = ending.More }
unfolding frame_at fed fed_byte fed_frame take_frame given_by given_as report_of ending_of signed proof
ended_early = refl

-- a byte after End, whatever it is
behind_end : (feed_of here born (4 ∷ 0 ∷ 0 ∷ 0 ∷ 1 ∷ 0 ∷ 4 ∷ [])).closed ≡ Some (ill_formed 6)
unfolding frame_at fed fed_byte fed_frame take_frame given_by given_as report_of ending_of signed proof
behind_end = refl

-- a value that no accepted update names is refused with its hash
unwanted : report (3 ∷ 0 ∷ 0 ∷ 0 ∷ 1 ∷ 97 ∷ []) ≡ record { accepted = 0; known = 0; refused = record { frame = 0; check = check.Unwanted (sha256 (97 ∷ [])) } ∷ []; ending = ending.Bare }
unfolding frame_at fed fed_byte fed_frame take_frame given_by given_as report_of ending_of signed proof rest_of is_known first_failed_check answer_to growth holds_hash is_wanted first_values
unwanted = refl

-- after 524,288 frames no byte may come; before them one may
abbrev so_many : ℕ → Feeding
so_many n = record { journal = born; frames = n; begun = []; start = 2621440; ended = None; accepted = 0; known = 0; refused = []; closed = None }

too_many : (fed_byte here (so_many 524288) 3).closed ≡ Some (ill_formed 2621440)
unfolding fed_byte
too_many = refl

one_more : (fed_byte here (so_many 524287) 3).closed ≡ None
unfolding fed_byte frame_at
one_more = refl

-- a closed feed takes nothing
closed_takes_nothing : fed here (fed_byte here (so_many 524288) 3) (4 ∷ 0 ∷ []) ≡ fed_byte here (so_many 524288) 3
unfolding fed fed_byte
closed_takes_nothing = refl

-- ---- room

-- the frame of a value of one byte, and a feed that has taken three frames
abbrev a_value : Frame
a_value = record { tag = 3; payload = 97 ∷ [] }

abbrev feeding : List Record → Feeding
feeding J = record { journal = J; frames = 3; begun = 3 ∷ []; start = 18; ended = None; accepted = 2; known = 1; refused = []; closed = None }

-- where there is no room for what a frame adds it isn't taken: the feed is closed, and its journal and its counts stay
no_room_closes : (J : List Record) → length J ≡ 131072 → growth here J (given_value (97 ∷ [])) ≡ Held (97 ∷ []) ∷ [] → fed_frame here 6 a_value (feeding J) ≡ record (feeding J) { begun = []; closed = Some (out_of_room (record { what = full_of.Records; number = 131072 })) }
unfolding fed_frame take_frame given_by given_as rest_of full_with
no_room_closes J e grows = rw (grows, length-append J (Held (97 ∷ []) ∷ []), e) refl

-- and where there is room it is counted, and the journal grows
room_is_used : (J : List Record) → full_by 1 J (Held (97 ∷ []) ∷ []) ≡ None → answer_to here J (given_value (97 ∷ [])) ≡ Ok New → growth here J (given_value (97 ∷ [])) ≡ Held (97 ∷ []) ∷ [] → fed_frame here 6 a_value (feeding J) ≡ record (feeding J) { journal = J ++ Held (97 ∷ []) ∷ []; frames = 4; begun = []; start = 24; accepted = 3 }
unfolding fed_frame take_frame given_by given_as rest_of
room_is_used J room is_new grows = rw (grows, room, is_new) refl

-- it reports that it closed
closed_is_told : (J : List Record) → (report_of (record (feeding J) { closed = Some (out_of_room (record { what = full_of.Bytes; number = 7 })) })).ending ≡ ending.Closed
unfolding report_of ending_of
closed_is_told J = refl
