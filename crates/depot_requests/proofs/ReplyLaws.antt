-- The text of a reply is lawful.
use Rattle.std.proofs.Common.{◌≡◌, ℕ, zero, suc, ◌+◌, ◌*◌, ◌≤◌, Bool, true, false, eqb, List, Option, Some, None, Result, Ok, Err, refl, sym, ap, subst, ◌∙◌, arith, inl, inr}
use Rattle.std.specs.Int.{w8, w32}
use Rattle.depot_answers.specs.declared.exchange_answers.Closing.{Closing}
use Rattle.depot_base.specs.Closed.{Closed, closing, rest_of}
use Rattle.depot_base.specs.Format.{Format, HasPart, number, whole}
use Rattle.depot_base.specs.Reading.{IsClosedReadInOneWay}
use Rattle.depot_base.proofs.ClosedLaws.{ClosedFaulty, LawfulClosed, before_lawful, closed_choose_lawful, closed_variant_lawful, closing_lawful, rest_lawful, weaken_closed}
use Rattle.depot_base.proofs.Combined.{field_lawful, made_lawful, whole_takes, whole_again, whole_faults, whole_stops, whole_early}
use Rattle.depot_base.proofs.Decoding.{closed_in_one_way}
use Rattle.depot_base.proofs.FormatLaws.{IsBytes, Lawful, bind_err, bind_ok, cursor, not_err, ok, ok_is}
use Rattle.depot_base.proofs.Numbers.{number_within}
use Rattle.depot_base.proofs.PartLaws.{u8_lawful}
use Rattle.depot_model.proofs.of_texts.HelloLaws.{hello_lawful}
use Rattle.depot_model.specs.exchange.Hello.{hello}
use Rattle.depot_model.specs.declared.bundle.Counts.{Counts}
use Rattle.depot_model.specs.declared.bundle.Report.{Report}
use Rattle.depot_model.specs.declared.hello.Hello.{Hello}
use Rattle.depot_model.specs.declared.put_answers.PutDone.{PutDone}
use Rattle.depot_requests.specs.declared.reply.Reason.{Reason}
use Rattle.depot_requests.specs.declared.reply.Reply.{Reply}
use Rattle.depot_requests.specs.declared.reply.Reply.TheVariants as reply
use Rattle.depot_requests.specs.ClosedParts.{last_field, own_text}
use Rattle.depot_requests.specs.ReplyTexts.{as_checkpoint, as_done, as_enough, as_handed, as_hello, as_refused, as_stream, as_words, checkpoint_text, handed_text, most_handed, reply_kind, reply_text, stream_text, told_behind}
use Rattle.depot_requests.specs.TellingTexts.{closing_text, counts_text, done_text, flag_text, reason_text, stream_report}
use Rattle.depot_requests.proofs.TellingLaws.{closing_text_lawful, counts_text_lawful, done_text_lawful, flag_text_lawful, reason_text_lawful, stream_report_lawful}

-- ---- the last field

pub last_field_lawful : {A V : Type 0} (make : A → V) (part : V → A) (f : Closed A) (m : ℕ) → ((a : A) → part (make a) ≡ a) → LawfulClosed f m → LawfulClosed (last_field make part f) m
last_field_lawful {A = A} {V = V} make part f m there l = record {
  takes = λ c v fits e.
      let b = bind_ok (f.read c) (λ x. Ok (make x)) v e in
      let t = l.takes c b.0 fits b.1 in
      let made : (last_field make part f).fits (make b.0) × (c.rest ≡ (last_field make part f).text (make b.0)) =
      subst (λ (a : A). (f.fits a × (make b.0 ≡ make a)) × (c.rest ≡ f.text a)) (sym (there b.0)) ((t.0, refl), t.1) in
      subst (λ (x : V). (last_field make part f).fits x × (c.rest ≡ (last_field make part f).text x)) (ok_is (make b.0) v b.2) made;
  again = λ at v fits.
      let one : f.read (cursor at (f.text (part v))) ≡ Ok (part v) = l.again at (part v) fits.0 in
      rw one (ap (λ (x : V). ok x) (sym fits.1));
  faults = λ c o fits e.
      elim (bind_err (f.read c) (λ x. Ok (make x)) o e) [
        | inl p ↦ let g = l.faults c o fits p in record { after = g.after; place = g.place; fault = g.fault }
        | inr b ↦ absurd (not_err (make b.0) o b.2)
      ];
  stops = λ at bytes k fault. rw (l.stops at bytes k fault) refl;
  early = l.early;
}

pub own_text_lawful : {V : Type 0} (f : Format V) (m : ℕ) → Lawful f m → LawfulClosed (own_text f) m
own_text_lawful {V = V} f m l = record {
  takes = λ c p fits e.
      let b = bind_ok (whole f c) (λ v. Ok (c.rest, v)) p e in
      let t = whole_takes f m l c b.0 fits b.1 in
      subst (λ (x : List ℕ × V). (own_text f).fits x × (c.rest ≡ (own_text f).text x)) (ok_is (c.rest, b.0) p b.2) ((t.0, t.1), refl);
  again = λ at p fits.
      let one : whole f (cursor at (f.text p.1)) ≡ Ok p.1 = whole_again f m l at p.1 fits.0 in
      let here : whole f (cursor at p.0) ≡ Ok p.1 = subst (λ (t : List ℕ). whole f (cursor at t) ≡ Ok p.1) (sym fits.1) one in
      rw here refl;
  faults = λ c o fits e.
      elim (bind_err (whole f c) (λ v. Ok (c.rest, v)) o e) [
        | inl p ↦ let g = whole_faults f m l c o fits p in record { after = g.after; place = g.place; fault = g.fault }
        | inr b ↦ absurd (not_err (c.rest, b.0) o b.2)
      ];
  stops = λ at bytes k fault. rw (whole_stops f m l at bytes k fault) refl;
  early = λ bytes k fault. whole_early f m l bytes k fault;
}

-- ---- what follows a kind

handed_text_lawful : LawfulClosed handed_text (17 + most_handed)
unfolding handed_text
handed_text_lawful =
    before_lawful _ _ _ 16 (1 + most_handed) counts_text_lawful (λ a b f h. ap (λ (x : Counts × (Bool × List ℕ)). x.0) h.1.1) λ counts _.
    before_lawful _ _ _ 1 most_handed flag_text_lawful (λ a b f h. ap (λ (x : Counts × (Bool × List ℕ)). x.1.0) h.1) λ more _.
    last_field_lawful _ _ _ most_handed (λ a. refl) (rest_lawful most_handed)

stream_text_lawful : Lawful stream_text 36700186
unfolding stream_text
stream_text_lawful =
    field_lawful _ _ _ 36700177 9 stream_report_lawful (λ a s f h. ap (λ (x : Report × Option Closing). x.0) h.1) λ report _.
    field_lawful _ _ _ 9 0 closing_text_lawful (λ a s f h. ap (λ (x : Report × Option Closing). x.1) h) λ why _.
    made_lawful _

checkpoint_text_lawful : LawfulClosed checkpoint_text (44 + most_handed)
unfolding checkpoint_text
checkpoint_text_lawful =
    before_lawful _ _ _ 44 most_handed done_text_lawful (λ a c f h. ap (λ (x : PutDone × List ℕ). x.0) h.1) λ done _.
    last_field_lawful _ _ _ most_handed (λ a. refl) (rest_lawful most_handed)

-- ---- a reply of a kind is made of its part

is_done : (r : Reply) (d : PutDone) → as_done r ≡ Some d → r ≡ reply.Put d
is_done (reply.Put e) d is = let p : e ≡ d = cc in ap (λ (x : PutDone). reply.Put x) p
is_done r d is = absurd cc

is_words : (r : Reply) (w : List ℕ) → as_words r ≡ Some w → r ≡ reply.Read w
is_words (reply.Read v) w is = let p : v ≡ w = cc in ap (λ (x : List ℕ). reply.Read x) p
is_words r w is = absurd cc

is_hello : (r : Reply) (h : List ℕ × Hello) → as_hello r ≡ Some h → r ≡ reply.Hello h.1 h.0
is_hello (reply.Hello said text) h is = let p : (text, said) ≡ h = cc in ap (λ (x : List ℕ × Hello). reply.Hello x.1 x.0) p
is_hello r h is = absurd cc

is_handed : (r : Reply) (b : Counts × (Bool × List ℕ)) → as_handed r ≡ Some b → r ≡ reply.Bundle b.1.1 b.0 b.1.0
is_handed (reply.Bundle bytes counts more) b is = let p : (counts, (more, bytes)) ≡ b = cc in ap (λ (x : Counts × (Bool × List ℕ)). reply.Bundle x.1.1 x.0 x.1.0) p
is_handed r b is = absurd cc

is_stream : (r : Reply) (s : Report × Option Closing) → as_stream r ≡ Some s → r ≡ reply.Stream s.0 s.1
is_stream (reply.Stream report why) s is = let p : (report, why) ≡ s = cc in ap (λ (x : Report × Option Closing). reply.Stream x.0 x.1) p
is_stream r s is = absurd cc

is_enough : (r : Reply) (b : Bool) → as_enough r ≡ Some b → r ≡ reply.Settled b
is_enough (reply.Settled a) b is = let p : a ≡ b = cc in ap (λ (x : Bool). reply.Settled x) p
is_enough r b is = absurd cc

is_checkpoint : (r : Reply) (c : PutDone × List ℕ) → as_checkpoint r ≡ Some c → r ≡ reply.Checkpoint c.0 c.1
is_checkpoint (reply.Checkpoint done text) c is = let p : (done, text) ≡ c = cc in ap (λ (x : PutDone × List ℕ). reply.Checkpoint x.0 x.1) p
is_checkpoint r c is = absurd cc

is_refused : (r : Reply) (why : Reason) → as_refused r ≡ Some why → r ≡ reply.Refused why
is_refused (reply.Refused w) why is = let p : w ≡ why = cc in ap (λ (x : Reason). reply.Refused x) p
is_refused r why is = absurd cc

-- ---- and determines the kind

done_kind : (fits : PutDone → Type 0) (r : Reply) → HasPart fits (as_done r) → reply_kind r ≡ 1
done_kind fits (reply.Put done) h = refl
done_kind fits r h = absurd h

words_kind : (fits : List ℕ → Type 0) (r : Reply) → HasPart fits (as_words r) → reply_kind r ≡ 2
words_kind fits (reply.Read words) h = refl
words_kind fits r h = absurd h

hello_kind : (fits : (List ℕ × Hello) → Type 0) (r : Reply) → HasPart fits (as_hello r) → reply_kind r ≡ 3
hello_kind fits (reply.Hello said text) h = refl
hello_kind fits r h = absurd h

handed_kind : (fits : (Counts × (Bool × List ℕ)) → Type 0) (r : Reply) → HasPart fits (as_handed r) → reply_kind r ≡ 4
handed_kind fits (reply.Bundle bytes counts more) h = refl
handed_kind fits r h = absurd h

stream_kind : (fits : (Report × Option Closing) → Type 0) (r : Reply) → HasPart fits (as_stream r) → reply_kind r ≡ 5
stream_kind fits (reply.Stream report why) h = refl
stream_kind fits r h = absurd h

enough_kind : (fits : Bool → Type 0) (r : Reply) → HasPart fits (as_enough r) → reply_kind r ≡ 6
enough_kind fits (reply.Settled enough) h = refl
enough_kind fits r h = absurd h

checkpoint_kind : (fits : (PutDone × List ℕ) → Type 0) (r : Reply) → HasPart fits (as_checkpoint r) → reply_kind r ≡ 7
checkpoint_kind fits (reply.Checkpoint done text) h = refl
checkpoint_kind fits r h = absurd h

refused_kind : (fits : Reason → Type 0) (r : Reply) → HasPart fits (as_refused r) → reply_kind r ≡ 8
refused_kind fits (reply.Refused why) h = refl
refused_kind fits r h = absurd h

kind_is : (a : ℕ) (r : Reply) → 1 ≤ a → a ≤ 8 → (told_behind a).fits r → reply_kind r ≡ a
unfolding told_behind
kind_is zero r low high h = absurd (omega arith)
kind_is (suc zero) r low high h = done_kind _ r h
kind_is (suc (suc zero)) r low high h = words_kind _ r h
kind_is (suc (suc (suc zero))) r low high h = hello_kind _ r h
kind_is (suc (suc (suc (suc zero)))) r low high h = handed_kind _ r h
kind_is (suc (suc (suc (suc (suc zero))))) r low high h = stream_kind _ r h
kind_is (suc (suc (suc (suc (suc (suc zero)))))) r low high h = enough_kind _ r h
kind_is (suc (suc (suc (suc (suc (suc (suc zero))))))) r low high h = checkpoint_kind _ r h
kind_is (suc (suc (suc (suc (suc (suc (suc (suc zero)))))))) r low high h = refused_kind _ r h
kind_is (suc (suc (suc (suc (suc (suc (suc (suc (suc n))))))))) r low high h = absurd (omega arith)

-- ---- all kinds

abbrev most : ℕ
most = 44 + most_handed

told_lawful : (kind : ℕ) → LawfulClosed (told_behind kind) most
unfolding told_behind
told_lawful kind =
    closed_choose_lawful (eqb kind 1) _ _ most (closed_variant_lawful (λ d. reply.Put d) as_done (closing done_text) most (λ d. refl) is_done (weaken_closed _ 44 most (omega arith) (closing_lawful _ 44 done_text_lawful)))
    (closed_choose_lawful (eqb kind 2) _ _ most (closed_variant_lawful (λ w. reply.Read w) as_words (rest_of most_handed) most (λ w. refl) is_words (weaken_closed _ most_handed most (omega arith) (rest_lawful most_handed)))
    (closed_choose_lawful (eqb kind 3) _ _ most (closed_variant_lawful (λ h. reply.Hello h.1 h.0) as_hello (own_text hello) most (λ h. refl) is_hello (weaken_closed _ 172620 most (omega arith) (own_text_lawful hello 172620 hello_lawful)))
    (closed_choose_lawful (eqb kind 4) _ _ most (closed_variant_lawful (λ b. reply.Bundle b.1.1 b.0 b.1.0) as_handed handed_text most (λ b. refl) is_handed (weaken_closed _ (17 + most_handed) most (omega arith) handed_text_lawful))
    (closed_choose_lawful (eqb kind 5) _ _ most (closed_variant_lawful (λ s. reply.Stream s.0 s.1) as_stream (closing stream_text) most (λ s. refl) is_stream (weaken_closed _ 36700186 most (omega arith) (closing_lawful _ 36700186 stream_text_lawful)))
    (closed_choose_lawful (eqb kind 6) _ _ most (closed_variant_lawful (λ b. reply.Settled b) as_enough (closing flag_text) most (λ b. refl) is_enough (weaken_closed _ 1 most (omega arith) (closing_lawful _ 1 flag_text_lawful)))
    (closed_choose_lawful (eqb kind 7) _ _ most (closed_variant_lawful (λ c. reply.Checkpoint c.0 c.1) as_checkpoint checkpoint_text most (λ c. refl) is_checkpoint checkpoint_text_lawful)
    (closed_variant_lawful (λ why. reply.Refused why) as_refused (closing reason_text) most (λ why. refl) is_refused (weaken_closed _ 34 most (omega arith) (closing_lawful _ 34 reason_text_lawful)))))))))

pub reply_text_lawful : LawfulClosed reply_text (45 + most_handed)
unfolding reply_text
reply_text_lawful =
    before_lawful (number w8 1 8) reply_kind told_behind 1 most (u8_lawful 1 8 (omega arith)) (λ a r f h. let w = number_within w8 1 8 a f in kind_is a r w.0 w.1 h) λ kind _. told_lawful kind

pub one_way : IsClosedReadInOneWay reply_text
one_way = closed_in_one_way reply_text (45 + most_handed) reply_text_lawful
