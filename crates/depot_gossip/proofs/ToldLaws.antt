-- The signed statements in a bundle: the node's own, signed now, and those of others that it keeps.
use Rattle.std.proofs.Common.{◌≡◌, ℕ, List, [], ◌∷◌, ◌++◌, map, Bool, true, false, not, cond, Option, Some, None, Result, Ok, Err, refl, sym, ap, subst, inl, inr, ◌⊎◌, arith}
use Rattle.std.specs.List.{flat_map, list_any}
use Rattle.std.specs.Str.{bytes_eq}
use Rattle.sha2.specs.Sha256.{sha256}
use Rattle.depot_base.specs.Format.{whole}
use Rattle.depot_base.specs.Statement.{writer_of}
use Rattle.depot_base.specs.declared.voucher.Voucher.{Voucher}
use Rattle.depot_base.specs.declared.statement.Statement.{Statement}
use Rattle.depot_base.specs.declared.statement.Statement.TheVariants as statement
use Rattle.depot_base.specs.declared.statement.Signed.{Signed}
use Rattle.depot_base.specs.declared.record.Record.{Record}
use Rattle.depot_base.proofs.Combined.{prefix_free}
use Rattle.depot_model.specs.declared.hello.Hello.{Hello}
use Rattle.depot_model.specs.lists.Lists.{IsIn, is_among}
use Rattle.depot_model.specs.texts.Texts.{signed, IsSigned, hash_of_roster}
use Rattle.depot_model.specs.texts.Roster.{has_node}
use Rattle.depot_model.specs.journals.Journal.{own, own_by, foreign, foreign_by, held, value_with}
use Rattle.depot_model.specs.checks.Checks.{Setting}
use Rattle.depot_model.specs.journals.Lawful.{IsLawful, is_empty}
use Rattle.depot_model.specs.checks.Limits.{Limit}
use Rattle.depot_model.specs.exchange.Hello.{hello}
use Rattle.depot_model.specs.texts.Frames.{Frame}
use Rattle.depot_model.specs.checks.Vouching.{own_voucher_by, records_of, limit_of_vouchers}
use Rattle.depot_model.specs.exchange.Bundle.{Signs, signed_with, signed_by, has_candidate, candidates, Parcel, candidate_parcel, candidate_parcels, wanted_parcel, hashes_of, parcels, statement_frame, value_frame, proof_frame, end_frame, frames_of, sent_for, sent_foreign, unvouched, proofs_for, vouchers_for, Bundle, bundle_frames, bundle_of, with_vouchers, bundled, bad_hello, other_roster, bundled_within, answer_to_hello, bundle_answer, voucher_frame}
use Rattle.depot_model.proofs.lists.Members.{in_left, in_parts, from_map, from_filter}
use Rattle.depot_model.proofs.of_texts.TextLaws.{signed_lawful}
use Rattle.depot_laws.proofs.lists.Splits.{given_by, flat_gives, flat_left}
use Rattle.depot_laws.proofs.of_worlds.Worlds.{giver_in}
use Rattle.depot_laws.proofs.own_updates.OwnTexts.{own_statement_fits}
use Rattle.depot_laws.proofs.exchanges.Candidates.{signed_fits}
use Rattle.depot_laws.proofs.orders.ChainLaws.{foreign_writer}
use Rattle.depot_laws.proofs.convicting.Contrary.{kept_is_signed}
use Rattle.depot_laws.proofs.records.NewVouchers.{new_are_lawful}
use Rattle.depot_laws.proofs.exchanges.Parcels.{sent_in_front}
use Rattle.depot_laws.proofs.exchanges.Rejoining.{voucher_is_own}
use Rattle.depot_gossip.specs.OwnStatements.{SignsShort, IsSignedOwn}
use Rattle.depot_gossip.proofs.ApartLaws.{foreign_one}

-- ---- where a signed statement comes from

-- an own statement of the journal, signed now, or one of others that it keeps
abbrev IsTold : Signs → List Record → Signed → Type 0
IsTold sign J s = ((t : Statement) × (IsIn t (own J) × (s ≡ signed_with sign t))) ⊎ IsIn s (foreign J)

told_by : (sign : Signs) (J : List Record) (r : Record) (s : Signed) → IsIn r J → IsIn s (signed_by sign r) → IsTold sign J s
told_by sign J r s on told = elim (in_parts s (map (signed_with sign) (own_by r)) (foreign_by r) told) [
  | inl mine ↦ (let m = from_map (signed_with sign) s (own_by r) mine in inl (m.0, (flat_gives own_by m.0 r J on m.1.0, sym m.1.1)))
  | inr other ↦ inr (flat_gives foreign_by s r J on other)
]

told_more : (sign : Signs) (J new : List Record) (s : Signed) → IsTold sign J s → IsTold sign (J ++ new) s
told_more sign J new s (inl mine) = inl (mine.0, (flat_left own_by mine.0 J new mine.1.0, mine.1.1))
told_more sign J new s (inr other) = inr (flat_left foreign_by s J new other)

-- ---- the statements of parcels

-- each parcel of candidates has what one of their records gives
in_candidate_parcels : (sign : Signs) (J : List Record) (sent : List (List ℕ)) (rs : List Record) (x : Parcel) → IsIn x (candidate_parcels sign J sent rs) → (r : Record) × (IsIn r rs × (x.told ≡ signed_by sign r))
unfolding candidate_parcels
in_candidate_parcels sign J sent [] x never = absurd never
in_candidate_parcels sign J sent (r ∷ rs) x (inl same) = (r, (inl refl, sym (ap (λ (y : Parcel). y.told) same)))
in_candidate_parcels sign J sent (r ∷ rs) x (inr there) = let m = in_candidate_parcels sign J (map sha256 (candidate_parcel sign J sent r).values ++ sent) rs x there in (m.0, (inr m.1.0, m.1.1))

-- a wanted value is reported by no statement
wanted_tells_none : (J : List Record) (sent : List (List ℕ)) (h : List ℕ) (x : Parcel) → IsIn x (wanted_parcel J sent h) → x.told ≡ []
wanted_tells_none J sent h x on = by_value (cond (is_among h sent) None (value_with h (held J))) on where
  by_value : (o : Option (List ℕ)) → IsIn x (elim o as (λ p. List Parcel) [ None ↦ [] | Some v ↦ record { told = []; values = v ∷ [] } ∷ [] ]) → x.told ≡ []
  by_value None never = absurd never
  by_value (Some v) (inl same) = sym (ap (λ (y : Parcel). y.told) same)
  by_value (Some v) (inr never) = absurd never

told_in_parcels : (sign : Signs) (J : List Record) (h : Hello) (x : Parcel) (s : Signed) → IsIn x (parcels sign J h) → IsIn s x.told → IsTold sign J s
unfolding parcels candidates
told_in_parcels sign J h x s on told = elim (in_parts x front (flat_map (wanted_parcel J (hashes_of front)) h.wanted) on) [
  | inl candidate ↦
      (let m = in_candidate_parcels sign J [] (candidates J (map (λ l. l.id) h.leaves) h.node) x candidate in
      told_by sign J m.0 s (from_filter (has_candidate J (map (λ l. l.id) h.leaves) h.node) m.0 J m.1.0).0 (subst (λ (ss : List Signed). IsIn s ss) m.1.1 told))
  | inr wanted ↦
      (let g = given_by (wanted_parcel J (hashes_of front)) x h.wanted wanted in
      absurd (subst (λ (ss : List Signed). IsIn s ss) (wanted_tells_none J (hashes_of front) g.by x g.given) told))
] where
  front : List Parcel
  front = candidate_parcels sign J [] (candidates J (map (λ l. l.id) h.leaves) h.node)

-- ---- the frames of statements

-- the frame carries a signed statement that the journal has
abbrev Carries : Signs → List Record → Frame → Type 0
Carries sign J f = (s : Signed) × ((f ≡ statement_frame s) × IsTold sign J s)

sent_carries : (sign : Signs) (J new : List Record) (h : Hello) (f : Frame) → IsIn f (flat_map frames_of (sent_for sign J h)) → f.tag ≡ 2 → Carries sign (J ++ new) f
sent_carries sign J new h f on two =
    let g = given_by frames_of f (sent_for sign J h) on in
    let front = sent_in_front sign J h in
    let x : IsIn g.by (parcels sign J h) = subst (λ (xs : List Parcel). IsIn g.by xs) (sym front.is) (in_left g.by (sent_for sign J h) front.left (giver_in frames_of f (sent_for sign J h) g)) in
    elim (in_parts f (map statement_frame g.by.told) (map value_frame g.by.values) g.given) [
      | inl told ↦ (let m = from_map statement_frame f g.by.told told in (m.0, (sym m.1.1, told_more sign J new m.0 (told_in_parcels sign J h g.by m.0 x m.1.0))))
      | inr value ↦ (let m = from_map value_frame f g.by.values value in absurd (omega (arith, two, ap (λ (k : Frame). k.tag) m.1.1)))
    ]

voucher_carries : (sign : Signs) (K : List Record) (ids : List (List ℕ)) (f : Frame) → IsIn f (map (voucher_frame sign) (vouchers_for K ids)) → Carries sign K f
voucher_carries sign K ids f on =
    let m = from_map (voucher_frame sign) f (vouchers_for K ids) on in
    let g = given_by own_voucher_by m.0 K (from_filter (λ (v : Voucher). list_any (λ i. is_among i ids) v.ids) m.0 (flat_map own_voucher_by K) m.1.0).0 in
    (signed_with sign (statement.Voucher m.0), (sym m.1.1, inl (statement.Voucher m.0, (flat_gives own_by (statement.Voucher m.0) g.by K (giver_in own_voucher_by m.0 K g) (voucher_is_own g.by m.0 g.given), refl))))

bundle_carries : (me : ℕ) (sign : Signs) (J : List Record) (h : Hello) (f : Frame) → IsIn f (bundle_of me sign J h).frames → f.tag ≡ 2 → Carries sign (with_vouchers J (bundle_of me sign J h).vouchers) f
unfolding bundle_of bundle_frames
bundle_carries me sign J h f on two = elim (in_parts f (map proof_frame (proofs_for K h)) _ on) [
  | inl proof ↦ (let m = from_map proof_frame f (proofs_for K h) proof in absurd (omega (arith, two, ap (λ (k : Frame). k.tag) m.1.1)))
  | inr behind ↦ elim (in_parts f (map (voucher_frame sign) (vouchers_for K (sent_foreign me xs))) _ behind) [
    | inl voucher ↦ voucher_carries sign K (sent_foreign me xs) f voucher
    | inr sent ↦ elim (in_parts f (flat_map frames_of xs) _ sent) [
      | inl this ↦ sent_carries sign J (records_of (bundle_of me sign J h).vouchers) h f this two
      | inr end ↦ at_end (bundle_of me sign J h).more end
    ]
  ]
] where
  xs : List Parcel
  xs = sent_for sign J h

  K : List Record
  K = with_vouchers J (bundle_of me sign J h).vouchers

  at_end : (more : Bool) → IsIn f (end_frame more ∷ []) → Carries sign K f
  at_end more (inl same) = absurd (omega (arith, two, ap (λ (k : Frame). k.tag) same))
  at_end more (inr never) = absurd never

-- ---- the texts

told_fits : (here : Setting) (sign : Signs) (K : List Record) (s : Signed) → IsLawful here K → SignsShort sign → IsTold sign K s → IsSigned s
unfolding signed_with
told_fits here sign K s l short (inl mine) = subst (λ (x : Signed). IsSigned x) (sym mine.1.1) (signed_fits sign mine.0 (own_statement_fits here K mine.0 l mine.1.0) (short _ _))
told_fits here sign K s l short (inr other) = kept_is_signed here K s l other

-- two signed statements with one frame are one
one_frame : (s t : Signed) → IsSigned s → IsSigned t → statement_frame s ≡ statement_frame t → s ≡ t
one_frame s t fs ft same = (prefix_free signed 55979 signed_lawful s t [] [] fs ft (ap (λ (f : Frame). f.payload ++ []) same)).0

own_is_signed : (here : Setting) (sign : Signs) (K : List Record) (s : Signed) → IsLawful here K → writer_of s.statement ≡ here.me → IsTold sign K s → IsSignedOwn sign K s
unfolding signed_with
own_is_signed here sign K s l me (inl mine) = subst (λ (x : Signed). IsSignedOwn sign K x) (sym mine.1.1) (record { on = mine.1.0; signature = refl })
own_is_signed here sign K s l me (inr other) = absurd (foreign_writer here K s l other me)

told_own : (here : Setting) (sign : Signs) (K : List Record) (s : Signed) → IsLawful here K → SignsShort sign → IsSigned s → writer_of s.statement ≡ here.me → Carries sign K (statement_frame s) → IsSignedOwn sign K s
told_own here sign K s l short fits me c =
    own_is_signed here sign K s l me (subst (λ (x : Signed). IsTold sign K x) (sym (one_frame s c.0 fits (told_fits here sign K c.0 l short c.1.1) c.1.0)) c.1.1)

-- ---- an answer that is a bundle

-- it is the bundle for a hello, and its vouchers meet no limit
record IsAnswered (here : Setting) (sign : Signs) (J : List Record) (b : Bundle) : Type 0 where
  pub hello : Hello
  pub none : limit_of_vouchers here J (unvouched here.me J (sent_for sign J hello)) ≡ None
  pub is : bundle_of here.me sign J hello ≡ b

answered_by : (here : Setting) (sign : Signs) (J : List Record) (b : Bundle) (h : Hello) (same known : Bool) (o : Option Limit) → limit_of_vouchers here J (unvouched here.me J (sent_for sign J h)) ≡ o
    → cond (not same) (other_roster h.roster) (cond (not known) (bad_hello 2) (bundled_within o (bundle_of here.me sign J h))) ≡ bundled b → IsAnswered here sign J b
answered_by here sign J b h false known o limit is = absurd cc
answered_by here sign J b h true false o limit is = absurd cc
answered_by here sign J b h true true (Some l) limit is = absurd cc
answered_by here sign J b h true true None limit is = record { hello = h; none = limit; is = cc }

answered : (here : Setting) (sign : Signs) (J : List Record) (b : Bundle) (r : Result Hello ℕ) → answer_to_hello here sign J r ≡ bundled b → IsAnswered here sign J b
answered here sign J b (Err at) is = absurd cc
answered here sign J b (Ok h) is = answered_by here sign J b h (bytes_eq h.roster (hash_of_roster here.listed)) (has_node here.listed h.node) (limit_of_vouchers here J (unvouched here.me J (sent_for sign J h))) refl is

is_answered : (here : Setting) (sign : Signs) (J : List Record) (text : List ℕ) (b : Bundle) → bundle_answer here sign J text ≡ bundled b → IsAnswered here sign J b
unfolding bundle_answer
is_answered here sign J text b is = answered here sign J b (whole hello (record { at = 0; rest = text })) is

-- with the vouchers of a bundle the journal is lawful
pub bundle_is_lawful : (here : Setting) (sign : Signs) (J : List Record) (h : Hello) → IsLawful here J → is_empty J ≡ false → limit_of_vouchers here J (unvouched here.me J (sent_for sign J h)) ≡ None → IsLawful here (with_vouchers J (bundle_of here.me sign J h).vouchers)
unfolding bundle_of
bundle_is_lawful here sign J h l some none = new_are_lawful here J (unvouched here.me J (sent_for sign J h)) l some (foreign_one here sign J h (sent_for sign J h) (sent_in_front sign J h)) none

-- each own statement in a bundle is in the journal with the bundle's vouchers, signed by the signer
pub bundle_tells_own : (here : Setting) (sign : Signs) (J : List Record) (text : List ℕ) (b : Bundle) (s : Signed) → IsLawful here J → is_empty J ≡ false → SignsShort sign → bundle_answer here sign J text ≡ bundled b → IsSigned s → IsIn (statement_frame s) b.frames → writer_of s.statement ≡ here.me
    → IsSignedOwn sign (with_vouchers J b.vouchers) s
bundle_tells_own here sign J text b s l some short is fits on me =
    let a = is_answered here sign J text b is in
    subst (λ (x : Bundle). IsSignedOwn sign (with_vouchers J x.vouchers) s) a.is
    (of_hello a.hello a.none (subst (λ (x : Bundle). IsIn (statement_frame s) x.frames) (sym a.is) on)) where
      of_hello : (h : Hello) → limit_of_vouchers here J (unvouched here.me J (sent_for sign J h)) ≡ None → IsIn (statement_frame s) (bundle_of here.me sign J h).frames → IsSignedOwn sign (with_vouchers J (bundle_of here.me sign J h).vouchers) s
      of_hello h none told = told_own here sign _ s (bundle_is_lawful here sign J h l some none) short fits me (bundle_carries here.me sign J h (statement_frame s) told refl)
