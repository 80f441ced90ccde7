-- The laws of a kind of word and of a kind of line; each way to describe one keeps them.
use Rattle.std.proofs.Common.{◌≡◌, ℕ, suc, ◌≤◌, ◌⊎◌, Bool, true, false, cond, eqb, List, [], ◌∷◌, length, Option, Some, None, Result, Ok, Err, refl, sym, ap, subst, ◌∙◌, arith, inl, inr}
use Rattle.std.specs.List.{list_all}
use Rattle.std.specs.Str.{bytes_eq}
use Rattle.std.proofs.lemmas.Bool.{le-leb, eqb-true, and_from, false_from_ne_true}
use Rattle.std.proofs.lemmas.List.{nil_from_length}
use Rattle.std.proofs.lemmas.Slice.Eq.{bytes_eq-Decides}
pub use Rattle.depot_base.proofs.FormatLaws.{bind_ok, need_ok, ok_is}
use Rattle.depot_lines.specs.declared.line_fault.LineFault.{LineFault}
use Rattle.depot_lines.specs.declared.line_fault.LineFault.TheVariants as is
use Rattle.depot_lines.specs.Spelling.{is_word, is_within}
use Rattle.depot_base.specs.Format.{◌>>=◌}
use Rattle.depot_lines.specs.Language.{or_fault, Word, Words, such_that, dash, or_none, or_empty, FitsOption, FitsIfAny, next, word, line_made, optional, last, counted_words, texts_of}
use Rattle.depot_lines.proofs.GatherSteps.{ok}

-- Each word is read as its value and as nothing else, and it is a word of a line.
pub record LawfulWord {C A : Type 0} (w : Word C A) : Type 0 where
  pub takes : (c : C) (t : List ℕ) (a : A) → w.read c t ≡ Ok a → w.fits c a × (t ≡ w.text a)
  pub again : (c : C) (a : A) → w.fits c a → w.read c (w.text a) ≡ Ok a
  pub plain : (c : C) (a : A) → w.fits c a → is_word (w.text a) ≡ true

-- The same of each line.
pub record Lawful {C E : Type 0} (f : Words C E) : Type 0 where
  pub takes : (c : C) (ws : List (List ℕ)) (e : E) → f.read c ws ≡ Ok e → f.fits c e × (ws ≡ f.text e)
  pub again : (c : C) (e : E) → f.fits c e → f.read c (f.text e) ≡ Ok e
  pub plain : (c : C) (e : E) → f.fits c e → list_all is_word (f.text e) ≡ true

-- The same, where each line has from low to high words.
pub record LawfulWithin {C E : Type 0} (f : Words C E) (low high : ℕ) : Type 0 where
  pub lawful : Lawful f
  pub few : (c : C) (e : E) → f.fits c e → (low ≤ length (f.text e)) × (length (f.text e) ≤ high)

-- The same, where a value that has such a line is the one that its parts make.
pub record LawfulLine {C E : Type 0} (f : Words C E) (low high : ℕ) (remade : E → E) : Type 0 where
  pub within : LawfulWithin f low high
  pub made : (c : C) (e : E) → f.fits c e → e ≡ remade e

-- ---- steps

pub or_fault_ok : {A F : Type 0} (o : Option A) (f : F) (a : A) → or_fault o f ≡ Ok a → o ≡ Some a
or_fault_ok None f a e = absurd cc
or_fault_ok (Some b) f a e = cc

pub not_ok : {A : Type 0} (f : LineFault) (y : A) → Err f ≡ ok y → ⊥
not_ok f y e = cc

-- a test that gives a value on true, and goes on on false
pub if_some : {A : Type 0} (b : Bool) (a : A) (o : Option A) (k : A) → cond b (Some a) o ≡ Some k → ((b ≡ true) × (a ≡ k)) ⊎ ((b ≡ false) × (o ≡ Some k))
if_some true a o k e = inl (refl, cc)
if_some false a o k e = inr (refl, e)

pub never : false ≡ true → ⊥
never e = cc

pub is_same : (a b : List ℕ) → bytes_eq a b ≡ true → a ≡ b
is_same a b e = (bytes_eq-Decides a b).0 e

-- ---- words

pub such_that_lawful : {C A : Type 0} (first : Word C A) (test : C → A → Bool) (fault : LineFault) → LawfulWord first → LawfulWord (such_that first test fault)
such_that_lawful {A = A} first test fault l = record {
  takes = λ c t a e.
      let b = bind_ok (first.read c t) (λ x. cond (test c x) (Ok x) (Err fault)) a e in
      let n = need_ok (test c b.0) (Ok b.0) fault a b.2 in
      let is : b.0 ≡ a = ok_is b.0 a n.1 in
      let r = l.takes c t b.0 b.1 in
      subst (λ (x : A). (first.fits c x × (test c x ≡ true)) × (t ≡ first.text x)) is ((r.0, n.0), r.1);
  again = λ c a fits. rw (l.again c a fits.0, fits.1) refl;
  plain = λ c a fits. l.plain c a fits.0;
}

-- a word that never reads `-` never writes it
pub not_dash : {C A : Type 0} (first : Word C A) → LawfulWord first → (c : C) (f : LineFault) → first.read c dash ≡ Err f → (a : A) → first.fits c a → bytes_eq (first.text a) dash ≡ false
not_dash first l c f refused a fits = false_from_ne_true (bytes_eq (first.text a) dash) (λ e.
    let d : first.text a ≡ dash = is_same (first.text a) dash e in
    let r : first.read c dash ≡ Ok a = subst (λ (t : List ℕ). first.read c t ≡ Ok a) d (l.again c a fits) in
    not_ok f a (sym refused ∙ r))

-- `-` is refused
abbrev pub Refuses : {C A : Type 0} → Word C A → Type 0
Refuses {C} first = (c : C) → (f : LineFault) × (first.read c dash ≡ Err f)

none_takes : {C A : Type 0} (first : Word C A) → LawfulWord first → (c : C) (t : List ℕ) (o : Option A) (b : Bool) → bytes_eq t dash ≡ b → cond b (Ok None) (first.read c t >>= λ a. Ok (Some a)) ≡ Ok o → FitsOption (first.fits c) o × (t ≡ (or_none first).text o)
none_takes {A = A} first l c t o true test e = subst (λ (x : Option A). FitsOption (first.fits c) x × (t ≡ (or_none first).text x)) (ok_is None o e) (tt, is_same t dash test)
none_takes {A = A} first l c t o false test e =
    let b = bind_ok (first.read c t) (λ a. Ok (Some a)) o e in
    subst (λ (x : Option A). FitsOption (first.fits c) x × (t ≡ (or_none first).text x)) (ok_is (Some b.0) o b.2) (l.takes c t b.0 b.1)

none_again : {C A : Type 0} (first : Word C A) → LawfulWord first → Refuses first → (c : C) (o : Option A) → FitsOption (first.fits c) o → (or_none first).read c ((or_none first).text o) ≡ Ok o
none_again first l refuses c None fits = refl
none_again first l refuses c (Some a) fits = let r = refuses c in rw (not_dash first l c r.0 r.1 a fits, l.again c a fits) refl

none_plain : {C A : Type 0} (first : Word C A) → LawfulWord first → (c : C) (o : Option A) → FitsOption (first.fits c) o → is_word ((or_none first).text o) ≡ true
none_plain first l c None fits = refl
none_plain first l c (Some a) fits = l.plain c a fits

pub or_none_lawful : {C A : Type 0} (first : Word C A) → LawfulWord first → Refuses first → LawfulWord (or_none first)
or_none_lawful first l refuses = record {
  takes = λ c t o e. none_takes first l c t o (bytes_eq t dash) refl e;
  again = none_again first l refuses;
  plain = none_plain first l;
}

empty_takes : {C X : Type 0} (first : Word C (List X)) → LawfulWord first → ((c : C) → first.fits c [] → ⊥) → (c : C) (t : List ℕ) (o : List X) (b : Bool) → bytes_eq t dash ≡ b → cond b (Ok []) (first.read c t) ≡ Ok o → FitsIfAny (first.fits c) o × (t ≡ (or_empty first).text o)
empty_takes {X = X} first l some c t o true test e = subst (λ (x : List X). FitsIfAny (first.fits c) x × (t ≡ (or_empty first).text x)) (ok_is [] o e) (tt, is_same t dash test)
empty_takes first l some c t [] false test e = absurd (some c (l.takes c t [] e).0)
empty_takes first l some c t (x ∷ xs) false test e = l.takes c t (x ∷ xs) e

empty_again : {C X : Type 0} (first : Word C (List X)) → LawfulWord first → Refuses first → (c : C) (o : List X) → FitsIfAny (first.fits c) o → (or_empty first).read c ((or_empty first).text o) ≡ Ok o
empty_again first l refuses c [] fits = refl
empty_again first l refuses c (x ∷ xs) fits = let r = refuses c in rw (not_dash first l c r.0 r.1 (x ∷ xs) fits, l.again c (x ∷ xs) fits) refl

empty_plain : {C X : Type 0} (first : Word C (List X)) → LawfulWord first → (c : C) (o : List X) → FitsIfAny (first.fits c) o → is_word ((or_empty first).text o) ≡ true
empty_plain first l c [] fits = refl
empty_plain first l c (x ∷ xs) fits = l.plain c (x ∷ xs) fits

pub or_empty_lawful : {C X : Type 0} (first : Word C (List X)) → LawfulWord first → ((c : C) → first.fits c [] → ⊥) → Refuses first → LawfulWord (or_empty first)
or_empty_lawful first l some refuses = record {
  takes = λ c t o e. empty_takes first l some c t o (bytes_eq t dash) refl e;
  again = empty_again first l refuses;
  plain = empty_plain first l;
}

-- ---- lines

pub next_ok : {A : Type 0} (read : List ℕ → Result A LineFault) (ws : List (List ℕ)) (a : A) (rest : List (List ℕ)) → next read ws ≡ Ok (a, rest) → (w : List ℕ) × (ws ≡ w ∷ rest) × (read w ≡ Ok a)
next_ok read [] a rest e = absurd cc
next_ok {A = A} read (w ∷ ws) a rest e =
    let b = bind_ok (read w) (λ x. Ok (x, ws)) (a, rest) e in
    let p : (b.0, ws) ≡ (a, rest) = ok_is (b.0, ws) (a, rest) b.2 in
    subst (λ (p : A × List (List ℕ)). (v : List ℕ) × (w ∷ ws ≡ v ∷ p.1) × (read v ≡ Ok p.0)) p (w, refl, b.1)

-- The word is the part of the value that it was read as.
abbrev pub Heads : {C A E : Type 0} → (E → A) → (A → Words C E) → Type 0
Heads {C = C} {A = A} {E = E} part more = (c : C) (a : A) (e : E) → (more a).fits c e → part e ≡ a

pub word_lawful : {C A E : Type 0} (first : Word C A) (part : E → A) (more : A → Words C E) (low high : ℕ) → LawfulWord first → Heads part more → ((a : A) → LawfulWithin (more a) low high) → LawfulWithin (word first part more) (suc low) (suc high)
word_lawful {A = A} first part more low high fl heads ml = record {
  lawful = record {
    takes = λ c ws e r.
        let b = bind_ok (next (first.read c) ws) (λ x. (more x.0).read c x.1) e r in
        let n = next_ok (first.read c) ws b.0.0 b.0.1 b.1 in
        let t = fl.takes c n.0 b.0.0 n.2 in
        let u = (ml b.0.0).lawful.takes c b.0.1 e b.2 in
        let words : ws ≡ first.text b.0.0 ∷ (more b.0.0).text e = n.1 ∙ ap (λ (w : List ℕ). w ∷ b.0.1) t.1 ∙ ap (λ (rest : List (List ℕ)). first.text b.0.0 ∷ rest) u.1 in
        let both : (first.fits c b.0.0 × (more b.0.0).fits c e) × (ws ≡ first.text b.0.0 ∷ (more b.0.0).text e) = ((t.0, u.0), words) in
        subst (λ (x : A). (first.fits c x × (more x).fits c e) × (ws ≡ first.text x ∷ (more x).text e)) (sym (heads c b.0.0 e u.0)) both;
    again = λ c e fits. rw (fl.again c (part e) fits.0) ((ml (part e)).lawful.again c e fits.1);
    plain = λ c e fits. and_from _ _ (fl.plain c (part e) fits.0) ((ml (part e)).lawful.plain c e fits.1);
  };
  few = λ c e fits. let f = (ml (part e)).few c e fits.1 in (omega arith, omega arith);
}

pub made_lawful : {C E : Type 0} (e : E) → LawfulWithin (line_made {C = C} e) 0 0
made_lawful {C = C} {E = E} e = record {
  lawful = record {
    takes = λ c ws d r.
        let n = need_ok (eqb (length ws) 0) (Ok e) is.Fields d r in
        (sym (ok_is e d n.1), nil_from_length ws (eqb-true _ _ n.0));
    again = λ c d fits. ap (λ (x : E). ok x) (sym fits);
    plain = λ c d fits. refl;
  };
  few = λ c d fits. (omega arith, omega arith);
}

last_takes : {C A : Type 0} (first : Word C A) → LawfulWord first → (c : C) (ws : List (List ℕ)) (o : Option A) → last (first.read c) ws ≡ Ok o → FitsOption (first.fits c) o × (ws ≡ texts_of first.text o)
last_takes {A = A} first l c [] o e = subst (λ (x : Option A). FitsOption (first.fits c) x × ([] ≡ texts_of first.text x)) (ok_is None o e) (tt, refl)
last_takes {A = A} first l c (w ∷ ws) o e =
    let b = bind_ok (first.read c w) (λ a. cond (eqb (length ws) 0) (Ok (Some a)) (Err is.Fields)) o e in
    let n = need_ok (eqb (length ws) 0) (Ok (Some b.0)) is.Fields o b.2 in
    let t = l.takes c w b.0 b.1 in
    let none : ws ≡ [] = nil_from_length ws (eqb-true _ _ n.0) in
    let words : w ∷ ws ≡ first.text b.0 ∷ [] = ap (λ (x : List ℕ). x ∷ ws) t.1 ∙ ap (λ (x : List (List ℕ)). first.text b.0 ∷ x) none in
    subst (λ (x : Option A). FitsOption (first.fits c) x × (w ∷ ws ≡ texts_of first.text x)) (ok_is (Some b.0) o n.1) (t.0, words)

last_again : {C A : Type 0} (first : Word C A) → LawfulWord first → (c : C) (o : Option A) → FitsOption (first.fits c) o → last (first.read c) (texts_of first.text o) ≡ Ok o
last_again first l c None fits = refl
last_again first l c (Some a) fits = rw (l.again c a fits) refl

last_plain : {C A : Type 0} (first : Word C A) → LawfulWord first → (c : C) (o : Option A) → FitsOption (first.fits c) o → (list_all is_word (texts_of first.text o) ≡ true) × (length (texts_of first.text o) ≤ 1)
last_plain first l c None fits = (refl, omega arith)
last_plain first l c (Some a) fits = (and_from _ _ (l.plain c a fits) refl, omega arith)

pub optional_lawful : {C A E : Type 0} (first : Word C A) (part : E → Option A) (make : Option A → E) → LawfulWord first → ((o : Option A) → part (make o) ≡ o) → LawfulWithin (optional first part make) 0 1
optional_lawful {A = A} {E = E} first part make l is_part = record {
  lawful = record {
    takes = λ c ws e r.
        let b = bind_ok (last (first.read c) ws) (λ a. Ok (make a)) e r in
        let t = last_takes first l c ws b.0 b.1 in
        let back : part (make b.0) ≡ b.0 = is_part b.0 in
        let fits : FitsOption (first.fits c) (part (make b.0)) = subst (λ (o : Option A). FitsOption (first.fits c) o) (sym back) t.0 in
        let words : ws ≡ texts_of first.text (part (make b.0)) = t.1 ∙ ap (λ (o : Option A). texts_of first.text o) (sym back) in
        let made_of : make b.0 ≡ make (part (make b.0)) = ap make (sym back) in
        subst (λ (x : E). (FitsOption (first.fits c) (part x) × (x ≡ make (part x))) × (ws ≡ texts_of first.text (part x))) (ok_is (make b.0) e b.2) ((fits, made_of), words);
    again = λ c e fits. rw (last_again first l c (part e) fits.0) (ap (λ (x : E). ok x) (sym fits.1));
    plain = λ c e fits. (last_plain first l c (part e) fits.0).0;
  };
  few = λ c e fits. (omega arith, (last_plain first l c (part e) fits.0).1);
}

pub counted_lawful : {C E : Type 0} (low high : ℕ) (f : Words C E) → LawfulWithin f low high → Lawful (counted_words low high f)
counted_lawful low high f l = record {
  takes = λ c ws e r. l.lawful.takes c ws e (need_ok (is_within low high (length ws)) (f.read c ws) is.Fields e r).1;
  again = λ c e fits.
      let few = l.few c e fits in
      rw (le-leb _ _ few.0, le-leb _ _ few.1) (l.lawful.again c e fits);
  plain = l.lawful.plain;
}

-- ---- lines whose values are what their parts make

-- a word is a part of what is made of it, and of the words after it
pub word_line : {C A E : Type 0} (first : Word C A) (part : E → A) (more : A → Words C E) (remade : A → E → E) (low high : ℕ) → LawfulWord first → ((a : A) (e : E) → part (remade a e) ≡ a) → ((a : A) → LawfulLine (more a) low high (remade a))
    → LawfulLine (word first part more) (suc low) (suc high) (λ e. remade (part e) e)
word_line first part more remade low high fl is_part rest = record {
  within = word_lawful first part more low high fl (λ c a e fits. ap part ((rest a).made c e fits) ∙ is_part a e) (λ a. (rest a).within);
  made = λ c e fits. (rest (part e)).made c e fits.1;
}

pub made_line : {C E : Type 0} (e : E) → LawfulLine (line_made {C = C} e) 0 0 (λ d. e)
made_line e = record { within = made_lawful e; made = λ c d fits. fits }

pub optional_line : {C A E : Type 0} (first : Word C A) (part : E → Option A) (make : Option A → E) → LawfulWord first → ((o : Option A) → part (make o) ≡ o) → LawfulLine (optional first part make) 0 1 (λ e. make (part e))
optional_line first part make l is_part = record { within = optional_lawful first part make l is_part; made = λ c e fits. fits.1 }

pub counted_line : {C E : Type 0} (low high : ℕ) (f : Words C E) (remade : E → E) → LawfulLine f low high remade → LawfulLine (counted_words low high f) low high remade
counted_line low high f remade l = record { within = record { lawful = counted_lawful low high f l.within; few = l.within.few }; made = l.made }
