-- The answer to the text of a hello, before any voucher is made.
use Rattle.std.proofs.Common.{◌≡◌, ℕ, List, Bool, true, false, not, cond, Result, Ok, Err, refl, ap, ◌∙◌, arith}
use Rattle.std.specs.List.{filter}
use Rattle.std.specs.Str.{bytes_eq}
use Rattle.depot_base.specs.Format.{whole}
use Rattle.depot_base.specs.Reading.{Decodes}
use Rattle.depot_base.specs.declared.fault.DecodeError.{DecodeError}
use Rattle.depot_base.specs.declared.fault.DecodeError.TheVariants as decode
use Rattle.depot_base.specs.declared.record.Record.{Record}
use Rattle.depot_base.proofs.Combined.{whole_again, whole_stops}
use Rattle.depot_model.specs.declared.hello.Hello.{Hello}
use Rattle.depot_model.specs.texts.Texts.{hash_of_roster}
use Rattle.depot_model.specs.texts.Roster.{has_node}
use Rattle.depot_model.specs.checks.Checks.{Setting}
use Rattle.depot_model.specs.exchange.Hello.{hello}
use Rattle.depot_model.specs.checks.Vouching.{limit_of_vouchers, is_mine_vouched}
use Rattle.depot_model.specs.exchange.Bundle.{Signs, BundleAnswer, bad_hello, other_roster, bundled_within, bundle_of, Parcel, sent_for, sent_foreign, unvouched, answer_to_hello, bundle_answer}
use Rattle.depot_model.proofs.of_texts.HelloLaws.{hello_lawful}
use Rattle.depot_gossip.specs.declared.bundle_error.BundleError.{BundleError}
use Rattle.depot_gossip.specs.declared.bundle_error.BundleError.TheVariants as error
use Rattle.depot_gossip.specs.Errors.{from_decoding}
use Rattle.depot_gossip.specs.Preparing.{ReadsHello, Prepares, answer_as_read, answer_to_bytes}

-- the text of a hello reads as it
read_whole : (text : List ℕ) (h : Hello) → Decodes hello text (Ok h) → whole hello (record { at = 0; rest = text }) ≡ Ok h
read_whole text h d = let f = d.found h refl in ap (λ (t : List ℕ). whole hello (record { at = 0; rest = t })) f.1 ∙ whole_again hello 172620 hello_lawful 0 h f.0

module _ (here : Setting) (answer : Hello → BundleAnswer) (text : List ℕ) where
  -- the answer where the text is a hello's
  abbrev answer_so : Hello → Bool → Bool → BundleAnswer
  answer_so h same known = cond (not same) (other_roster h.roster) (cond (not known) (bad_hello 2) (answer h))

  answer_is : (h : Hello) → Decodes hello text (Ok h) → answer_to_bytes here answer text ≡ answer_so h (bytes_eq h.roster (hash_of_roster here.listed)) (has_node here.listed h.node)
  answer_is h d = ap (answer_as_read here answer) (read_whole text h d)

  -- a text that is none
  pub not_decoded : (e : DecodeError) → Decodes hello text (Err e) → ReadsHello here answer text (Err (from_decoding e))
  not_decoded decode.Memory d = tt
  not_decoded (decode.IllFormed at) d = ap (answer_as_read here answer) (whole_stops hello 172620 hello_lawful 0 text at (d.ill_formed at refl)) ∙ ap (λ (n : ℕ). bad_hello n) (omega arith)

  -- one that goes by another roster
  pub other_is : (h : Hello) → Decodes hello text (Ok h) → bytes_eq h.roster (hash_of_roster here.listed) ≡ false → answer_to_bytes here answer text ≡ other_roster h.roster
  other_is h d differs =
      answer_is h d ∙ ap (λ (b : Bool). answer_so h b (has_node here.listed h.node)) differs

  -- one of a node that the roster lacks
  pub unknown_is : (h : Hello) → Decodes hello text (Ok h) → bytes_eq h.roster (hash_of_roster here.listed) ≡ true → has_node here.listed h.node ≡ false → answer_to_bytes here answer text ≡ bad_hello 2
  unknown_is h d one none =
      answer_is h d ∙ ap (λ (b : Bool). answer_so h b (has_node here.listed h.node)) one ∙ ap (answer_so h true) none

  -- and one that is heard
  pub heard_is : (h : Hello) → Decodes hello text (Ok h) → bytes_eq h.roster (hash_of_roster here.listed) ≡ true → has_node here.listed h.node ≡ true → answer_to_bytes here answer text ≡ answer h
  heard_is h d one known =
      answer_is h d ∙ ap (λ (b : Bool). answer_so h b (has_node here.listed h.node)) one ∙ ap (answer_so h true) known

module _ (here : Setting) (sign : Signs) (J : List Record) (text : List ℕ) where
  -- a bundle's answer to a hello
  abbrev pub answer_for : Hello → BundleAnswer
  answer_for h = bundled_within (limit_of_vouchers here J (unvouched here.me J (sent_for sign J h))) (bundle_of here.me sign J h)

  -- a bundle's answer to a text goes by its answers to hellos
  pub answered_by : bundle_answer here sign J text ≡ answer_to_bytes here answer_for text
  unfolding bundle_answer
  answered_by = by_read (whole hello (record { at = 0; rest = text })) where
    by_read : (r : Result Hello ℕ) → answer_to_hello here sign J r ≡ answer_as_read here answer_for r
    by_read (Ok h) = refl
    by_read (Err at) = refl

  -- what isn't heard isn't prepared
  pub not_prepared : (stopped : Bool) (e : BundleError) → stopped ≡ false → ReadsHello here answer_for text (Err e) → Prepares here sign J stopped text (Err e)
  not_prepared stopped error.Memory runs h = runs
  not_prepared stopped error.Disk runs h = h
  not_prepared stopped error.Stopped runs h = absurd h
  not_prepared stopped (error.IllFormed at) runs h = (runs, answered_by ∙ h)
  not_prepared stopped (error.OtherRoster given mine) runs h = (runs, (answered_by ∙ h.0, h.1))
  not_prepared stopped (error.Spent n) runs h = h
  not_prepared stopped (error.Full what) runs h = h

-- the ids of what is sent, without those that own vouchers name
pub left_is_unvouched : (me : ℕ) (J : List Record) (xs : List Parcel) (ids left : List (List ℕ)) → ids ≡ sent_foreign me xs → left ≡ filter (λ i. not (is_mine_vouched J i)) ids → left ≡ unvouched me J xs
unfolding unvouched
left_is_unvouched me J xs ids left sent is = is ∙ ap (filter (λ (i : List ℕ). not (is_mine_vouched J i))) sent
