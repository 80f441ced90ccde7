-- A log is read in one way: it is of one list of updates, or it has one first fault, and never both.
use Rattle.std.proofs.Common.{◌≡◌, ℕ, ◌+◌, ◌^◌, ◌<◌, ◌≤◌, List, [], ◌∷◌, ◌++◌, length, take, drop, Ok, Option, Some, None, Bool, true, false, cond, refl, sym, ap, subst, ◌∙◌, append_assoc, arith, inl, inr}
use Rattle.std.specs.List.{AllByRecursion, list_all}
use Rattle.std.specs.Int.{w32, from_be_bytes}
use Rattle.std.proofs.lemmas.List.{take_at, drop_at, length-append, append-nil}
use Rattle.depot_base.specs.Cursor.{numeral}
use Rattle.depot_base.specs.Format.{whole}
use Rattle.depot_base.specs.declared.update.Update.{Update}
use Rattle.depot_base.proofs.FormatLaws.{cursor, not_err, err_is}
use Rattle.depot_base.proofs.Combined.{whole_again, whole_stops, prefix_free}
use Rattle.depot_base.proofs.Numbers.{wide32}
use Rattle.depot_base.proofs.CallLaws.{numeral_long}
use Rattle.depot_model.specs.lists.Lists.{IsIn, is_among}
use Rattle.depot_model.specs.texts.Texts.{IsUpdate, text_of_update, id_of_update, update_body}
use Rattle.depot_model.specs.updates.Order.{parents, IsCausal}
use Rattle.depot_model.specs.texts.Log.{text_of_log, IsLog, GoesWrong, IsLogFault, firsts_behind, firsts, orphan_behind, first_orphan}
use Rattle.depot_model.proofs.of_texts.TextLaws.{update_body_lawful}
use Rattle.depot_model.proofs.lists.Members.{in_left, in_last, in_pushed, among_from, among_to, all_among_to}

-- ---- the start of a log

-- the bytes have this update at their start, after its length, and then the rest
pub record AddsFrontOf (bytes : List ℕ) (u : Update) (rest : List ℕ) : Type 0 where
  pub fits : IsUpdate u
  pub is : bytes ≡ numeral w32 (length (text_of_update u)) ++ (text_of_update u ++ rest)

-- the length that comes first
abbrev pub told : List ℕ → ℕ
told bytes = from_be_bytes w32 (take 4 bytes)

pub told-numeral : (n : ℕ) → n < 2 ^ 32 → from_be_bytes w32 (numeral w32 n) ≡ n
unfolding numeral
told-numeral n lt = wide32.again n lt

pub text_is_short : (u : Update) → IsUpdate u → length (text_of_update u) ≤ 47779
text_is_short u fits = update_body_lawful.short u fits

-- what the bytes are, read from the front
pub record Front (bytes : List ℕ) (u : Update) (rest : List ℕ) : Type 0 where
  pub long : 4 ≤ length bytes
  pub count : told bytes ≡ length (text_of_update u)
  pub behind : drop 4 bytes ≡ text_of_update u ++ rest
  pub there : told bytes ≤ length (drop 4 bytes)
  pub body : take (told bytes) (drop 4 bytes) ≡ text_of_update u

pub front : (bytes : List ℕ) (u : Update) (rest : List ℕ) → AddsFrontOf bytes u rest → Front bytes u rest
front bytes u rest b =
    let n : ℕ = length (text_of_update u) in
    let four = numeral_long n in
    let short = text_is_short u b.fits in
    let count : told bytes ≡ n = ap (λ (x : List ℕ). from_be_bytes w32 (take 4 x)) b.is ∙ ap (from_be_bytes w32) (take_at (numeral w32 n) (text_of_update u ++ rest) 4 four) ∙ told-numeral n (omega arith) in
    let behind : drop 4 bytes ≡ text_of_update u ++ rest = ap (drop 4) b.is ∙ drop_at (numeral w32 n) (text_of_update u ++ rest) 4 four in
    let sum = length-append (numeral w32 n) (text_of_update u ++ rest) in
    let rest_sum = length-append (text_of_update u) rest in
    record {
      long = omega (arith, ap length b.is, sum, four);
      count = count;
      behind = behind;
      there = omega (arith, ap length behind, rest_sum, count);
      body = ap (λ (k : ℕ). take k (drop 4 bytes)) count ∙ ap (take n) behind ∙ take_at (text_of_update u) rest n refl;
    }

-- a body at the front isn't bad
pub not_bad : (bytes : List ℕ) (u : Update) (rest : List ℕ) (later : ℕ) → AddsFrontOf bytes u rest → GoesWrong bytes later → ⊥
not_bad bytes u rest later b (inl bad) =
    let f = front bytes u rest b in
    elim bad.1 [ inl cut ↦ omega (arith, f.long, cut.1) | inr past ↦ omega (arith, f.there, past.1) ]
not_bad bytes u rest later b (inr bad) =
    let f = front bytes u rest b in
    let good : whole update_body (cursor 0 (take (told bytes) (drop 4 bytes))) ≡ Ok u = ap (λ (x : List ℕ). whole update_body (cursor 0 x)) f.body ∙ whole_again update_body 47779 update_body_lawful 0 u b.fits in
    not_err u (0 + bad.0) (sym good ∙ whole_stops update_body 47779 update_body_lawful 0 (take (told bytes) (drop 4 bytes)) bad.0 bad.1.1.fault)

-- nothing is no body
pub nothing_begins : (u : Update) (rest : List ℕ) → AddsFrontOf [] u rest → ⊥
nothing_begins u rest b = let f = front [] u rest b in omega (arith, f.long)

-- nothing isn't bad
pub nothing_is_bad : (later : ℕ) → GoesWrong [] later → ⊥
nothing_is_bad later (inl bad) = elim bad.1 [ inl cut ↦ omega (arith, cut.0) | inr past ↦ omega (arith, past.0) ]
nothing_is_bad later (inr bad) = omega (arith, bad.1.1.long)

-- what is bad goes wrong at one place
pub one_bad : (bytes : List ℕ) (i j : ℕ) → GoesWrong bytes i → GoesWrong bytes j → i ≡ j
one_bad bytes i j (inl a) (inl b) = omega (arith, a.0, b.0)
one_bad bytes i j (inl a) (inr b) = elim a.1 [ inl cut ↦ absurd (omega (arith, cut.1, b.1.1.long)) | inr past ↦ absurd (omega (arith, past.1, b.1.1.there)) ]
one_bad bytes i j (inr a) (inl b) = elim b.1 [ inl cut ↦ absurd (omega (arith, cut.1, a.1.1.long)) | inr past ↦ absurd (omega (arith, past.1, a.1.1.there)) ]
one_bad bytes i j (inr a) (inr b) =
    let text : List ℕ = take (told bytes) (drop 4 bytes) in
    let one = whole_stops update_body 47779 update_body_lawful 0 text a.0 a.1.1.fault in
    let two = whole_stops update_body 47779 update_body_lawful 0 text b.0 b.1.1.fault in
    let same : 0 + a.0 ≡ 0 + b.0 = err_is {A = Update} (0 + a.0) (0 + b.0) (sym one ∙ two) in
    omega (arith, a.1.0, b.1.0, same)

-- one body comes first
pub one_begins : (bytes : List ℕ) (u v : Update) (x y : List ℕ) → AddsFrontOf bytes u x → AddsFrontOf bytes v y → (u ≡ v) × (x ≡ y)
one_begins bytes u v x y a b =
    prefix_free update_body 47779 update_body_lawful u v x y a.fits b.fits (sym (front bytes u x a).behind ∙ (front bytes v y b).behind)

-- ---- whole logs

-- the text of a log and what follows it, its first body taken apart
pub log-cons : (u : Update) (us : List Update) (rest : List ℕ) → text_of_log (u ∷ us) ++ rest ≡ numeral w32 (length (text_of_update u)) ++ (text_of_update u ++ (text_of_log us ++ rest))
unfolding text_of_log
log-cons u us rest = simp append_assoc

-- one more body at the end
pub log-push : (us : List Update) (u : Update) → text_of_log (us ++ u ∷ []) ≡ text_of_log us ++ (numeral w32 (length (text_of_update u)) ++ text_of_update u)
unfolding text_of_log
log-push [] u = ap (λ (t : List ℕ). numeral w32 (length (text_of_update u)) ++ t) (append-nil (text_of_update u))
log-push (x ∷ us) u = rw (log-push us u) (simp append_assoc)

-- no body comes first
abbrev pub Stops : List ℕ → Type 0
Stops bytes = (u : Update) (rest : List ℕ) → AddsFrontOf bytes u rest → ⊥

-- good bodies, as far as they go
pub one_way : (xs ys : List Update) (r s : List ℕ) → AllByRecursion IsUpdate xs → AllByRecursion IsUpdate ys → Stops r → Stops s → text_of_log xs ++ r ≡ text_of_log ys ++ s → (xs ≡ ys) × (r ≡ s)
unfolding text_of_log
one_way [] [] r s fx fy stop_r stop_s e = (refl, e)
one_way [] (y ∷ ys) r s fx fy stop_r stop_s e = absurd (stop_r y (text_of_log ys ++ s) (record { fits = fy.0; is = e ∙ log-cons y ys s }))
one_way (x ∷ xs) [] r s fx fy stop_r stop_s e = absurd (stop_s x (text_of_log xs ++ r) (record { fits = fx.0; is = sym e ∙ log-cons x xs r }))
one_way (x ∷ xs) (y ∷ ys) r s fx fy stop_r stop_s e =
    let a : AddsFrontOf (text_of_log (x ∷ xs) ++ r) x (text_of_log xs ++ r) = record { fits = fx.0; is = log-cons x xs r } in
    let b : AddsFrontOf (text_of_log (x ∷ xs) ++ r) y (text_of_log ys ++ s) = record { fits = fy.0; is = e ∙ log-cons y ys s } in
    let heads = one_begins (text_of_log (x ∷ xs) ++ r) x y (text_of_log xs ++ r) (text_of_log ys ++ s) a b in
    let tails = one_way xs ys r s fx.1 fy.1 stop_r stop_s heads.1 in
    (cc, tails.1)

whole_log : (bytes : List ℕ) (us : List Update) → IsLog bytes us → bytes ≡ text_of_log us ++ []
whole_log bytes us l = l.is ∙ sym (append-nil (text_of_log us))

-- a log is of one list of updates
pub one_log : (bytes : List ℕ) (us vs : List Update) → IsLog bytes us → IsLog bytes vs → us ≡ vs
one_log bytes us vs a b = (one_way us vs [] [] a.fit b.fit nothing_begins nothing_begins (sym (whole_log bytes us a) ∙ whole_log bytes vs b)).0

-- a log has no fault
pub log_has_no_fault : (bytes : List ℕ) (us : List Update) (at : ℕ) → IsLog bytes us → IsLogFault bytes at → ⊥
log_has_no_fault bytes us at l f =
    let stops : Stops f.rest = λ u rest b. not_bad f.rest u rest f.later b f.bad in
    let same = one_way us f.good [] f.rest l.fit f.fit nothing_begins stops (sym (whole_log bytes us l) ∙ f.parts) in
    nothing_is_bad f.later (subst (λ (r : List ℕ). GoesWrong r f.later) (sym same.1) f.bad)

-- the first fault is at one offset
pub one_log_fault : (bytes : List ℕ) (i j : ℕ) → IsLogFault bytes i → IsLogFault bytes j → i ≡ j
one_log_fault bytes i j a b =
    let same = one_way a.good b.good a.rest b.rest a.fit b.fit (λ u rest h. not_bad a.rest u rest a.later h a.bad) (λ u rest h. not_bad b.rest u rest b.later h b.bad) (sym a.parts ∙ b.parts) in
    let later : a.later ≡ b.later = one_bad b.rest a.later b.later (subst (λ (r : List ℕ). GoesWrong r a.later) same.1 a.bad) b.bad in
    omega (arith, a.place, b.place, later, ap (λ (us : List Update). length (text_of_log us)) same.0)

-- ---- a log without what is in it twice

-- the two lists have the same ids
record SameIds (a b : List (List ℕ)) : Type 0 where
  pub to : (h : List ℕ) → IsIn h a → IsIn h b
  pub back : (h : List ℕ) → IsIn h b → IsIn h a

-- one more id at the end of one list, and before the other
both_more : (a b : List (List ℕ)) (x : List ℕ) → SameIds a b → SameIds (a ++ x ∷ []) (x ∷ b)
both_more a b x same = record {
  to = λ h on. elim (in_pushed h a x on) [ inl old ↦ inr (same.to h old) | inr new ↦ inl new ];
  back = λ h on. elim on [ inl here ↦ subst (λ (k : List ℕ). IsIn k (a ++ x ∷ [])) here (in_last a x) | inr old ↦ in_left h a (x ∷ []) (same.back h old) ];
}

-- an id that is there already
one_more : (a b : List (List ℕ)) (x : List ℕ) → SameIds a b → IsIn x b → SameIds (a ++ x ∷ []) b
one_more a b x same known = record {
  to = λ h on. elim (in_pushed h a x on) [ inl old ↦ same.to h old | inr new ↦ subst (λ (k : List ℕ). IsIn k b) new known ];
  back = λ h on. in_left h a (x ∷ []) (same.back h on);
}

all_known : (hs ids seen : List (List ℕ)) → SameIds ids seen → AllByRecursion (λ h. IsIn h ids) hs → AllByRecursion (λ h. IsIn h seen) hs
all_known [] ids seen same all = tt
all_known (h ∷ hs) ids seen same all = (same.to h all.0, all_known hs ids seen same all.1)

goes_on : (b : Bool) (o : Option ℕ) (n : ℕ) → cond b o (Some n) ≡ None → (b ≡ true) × (o ≡ None)
goes_on true o n e = (refl, e)
goes_on false o n e = absurd cc

choice : (b : Bool) (kept seen : List (List ℕ)) (u : Update) (us : List Update) → is_among (id_of_update u) kept ≡ b → SameIds kept seen → AllByRecursion (λ h. IsIn h seen) (parents u)
    → (IsIn (id_of_update u) kept → IsCausal seen (firsts_behind kept us)) → IsCausal (id_of_update u ∷ seen) (firsts_behind (kept ++ id_of_update u ∷ []) us)
    → IsCausal seen (cond b (firsts_behind kept us) (u ∷ firsts_behind (kept ++ id_of_update u ∷ []) us))
unfolding IsCausal
choice true kept seen u us is same all left taken = left (among_to (id_of_update u) kept is)
choice false kept seen u us is same all left taken =
    (all, ((λ was. let on : is_among (id_of_update u) kept ≡ true = among_from (id_of_update u) kept (same.back (id_of_update u) was) in absurd cc), taken))

causal_behind_ids : (ids kept seen : List (List ℕ)) (place : ℕ) (us : List Update) → SameIds ids seen → SameIds kept seen → orphan_behind ids place us ≡ None → IsCausal seen (firsts_behind kept us)
unfolding IsCausal firsts_behind orphan_behind
causal_behind_ids ids kept seen place [] same also e = tt
causal_behind_ids ids kept seen place (u ∷ us) same also e =
    let h = id_of_update u in
    let g = goes_on (list_all (λ h. is_among h ids) (parents u)) (orphan_behind (ids ++ id_of_update u ∷ []) (place + 1) us) place e in
    choice (is_among h kept) kept seen u us refl also (all_known (parents u) ids seen same (all_among_to (parents u) ids g.0))
    (λ on. causal_behind_ids (ids ++ id_of_update u ∷ []) kept seen (place + 1) us (one_more ids seen (id_of_update u) same (also.to (id_of_update u) on)) also g.1)
    (causal_behind_ids (ids ++ id_of_update u ∷ []) (kept ++ id_of_update u ∷ []) (id_of_update u ∷ seen) (place + 1) us (both_more ids seen (id_of_update u) same) (both_more kept seen (id_of_update u) also) g.1)

-- Where no body has a parent that isn't before it, each parent of those that are left comes before its children, and no
-- id occurs twice.
pub firsts_are_causal : (us : List Update) → first_orphan us ≡ None → IsCausal [] (firsts us)
firsts_are_causal us e = causal_behind_ids [] [] [] 0 us (record { to = λ h x. x; back = λ h x. x }) (record { to = λ h x. x; back = λ h x. x }) e
