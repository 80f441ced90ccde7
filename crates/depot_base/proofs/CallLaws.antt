-- Calls that are made one after another.
use Rattle.std.proofs.Common.{◌≡◌, ◌≤◌, ◌<◌, ℕ, ◌+◌, min, List, [], ◌∷◌, ◌++◌, length, take, drop, take-append-drop, true, false, refl, sym, ap, subst, ◌∙◌, append_assoc, arith}
use Rattle.std.proofs.lemmas.Bool.Decides.{nat_tests}
use Rattle.std.proofs.lemmas.List.{length-append}
use Rattle.std.specs.Prelude.{nat_le, Result, Ok, Err, OnOk, OnErr, is_err}
use Rattle.depot_base.specs.Cursor.{numeral}
use Rattle.depot_base.specs.Calls.{Call, Made, asks_length, reads_at, syncs, writes_at, made, made_but_last, FailsAmong, calls_to_append, calls_to_append_all, calls_to_start}
use Rattle.depot_base.specs.File.{blocks, framed}
use Rattle.depot_base.specs.declared.limits.TheConstants.{MOST_JOURNAL}
use Rattle.depot_base.proofs.Numbers.{wide32}
use Rattle.std.specs.Int.{w32}

-- calls that were made, and then more of them
pub made_append : (xs ys : List Call) → made (xs ++ ys) ≡ made xs ++ made ys
made_append [] ys = refl
made_append (x ∷ xs) ys = ap (λ (l : List Made). record { call = x; failed = false } ∷ l) (made_append xs ys)

-- the first of some calls failed
pub fails_first : {D : Type 0} (after : D → List Made → D → Type 0) (old new : D) (call : Call) (rest : List Call)
    → after old (record { call = call; failed = true } ∷ []) new → FailsAmong after old new (call ∷ rest)
fails_first after old new call rest fails = record { before = []; failing = call; rest = rest; parts = refl; fails = fails }

-- of more calls one failed, too
pub fails_wider : {D : Type 0} (after : D → List Made → D → Type 0) (old new : D) (xs ys : List Call)
    → FailsAmong after old new xs → FailsAmong after old new (xs ++ ys)
fails_wider after old new xs ys f =
    record { before = f.before; failing = f.failing; rest = f.rest ++ ys; parts = ap (λ (l : List Call). l ++ ys) f.parts ∙ append_assoc f.before (f.failing ∷ f.rest) ys; fails = f.fails }

-- after calls that were made, one failed
pub fails_later : {D : Type 0} (after : D → List Made → D → Type 0) (more : (a b c : D) (xs ys : List Made) → after a xs b → after b ys c → after a (xs ++ ys) c)
    (old between new : D) (xs ys : List Call) → after old (made xs) between → FailsAmong after between new ys → FailsAmong after old new (xs ++ ys)
fails_later after more old between new xs ys done f =
    let last : List Made = record { call = f.failing; failed = true } ∷ [] in
    let all : made xs ++ made_but_last f.before f.failing ≡ made_but_last (xs ++ f.before) f.failing =
    sym (append_assoc (made xs) (made f.before) last) ∙ ap (λ (l : List Made). l ++ last) (sym (made_append xs f.before)) in
    record {
      before = xs ++ f.before;
      failing = f.failing;
      rest = f.rest;
      parts = ap (λ (l : List Call). xs ++ l) f.parts ∙ sym (append_assoc xs f.before (f.failing ∷ f.rest));
      fails = subst (λ (l : List Made). after old l new) all (more old between new (made xs) (made_but_last f.before f.failing) done f.fails);
    }

-- calls that were made after others
pub made_later : {D : Type 0} (after : D → List Made → D → Type 0) (more : (a b c : D) (xs ys : List Made) → after a xs b → after b ys c → after a (xs ++ ys) c)
    (old between new : D) (xs ys : List Call) → after old (made xs) between → after between (made ys) new → after old (made (xs ++ ys)) new
made_later after more old between new xs ys first then = subst (λ (l : List Made). after old l new) (sym (made_append xs ys)) (more old between new (made xs) (made ys) first then)

-- a call after calls that were made: it was made too, or it failed
pub last_made : {D X E : Type 0} (after : D → List Made → D → Type 0) (more : (a b c : D) (xs ys : List Made) → after a xs b → after b ys c → after a (xs ++ ys) c)
    (old between new : D) (xs : List Call) (call : Call) (r : Result X E) → after old (made xs) between → after between (record { call = call; failed = is_err r } ∷ []) new → OnOk r (after old (made (xs ++ call ∷ [])) new)
last_made after more old between new xs call (Ok x) first last = made_later after more old between new xs (call ∷ []) first last
last_made after more old between new xs call (Err e) first last = tt

pub last_fails : {D X E : Type 0} (after : D → List Made → D → Type 0) (more : (a b c : D) (xs ys : List Made) → after a xs b → after b ys c → after a (xs ++ ys) c)
    (old between new : D) (xs : List Call) (call : Call) (r : Result X E) → after old (made xs) between → after between (record { call = call; failed = is_err r } ∷ []) new → OnErr r (FailsAmong after old new (xs ++ call ∷ []))
last_fails after more old between new xs call (Ok x) first last = tt
last_fails after more old between new xs call (Err e) first last = fails_later after more old between new xs (call ∷ []) first (fails_first after between new call [] last)

pub numeral_long : (n : ℕ) → length (numeral w32 n) ≡ 4
unfolding numeral
numeral_long n = wide32.len n

pub framed_long : (body : List ℕ) → length (framed body) ≡ 4 + length body
unfolding framed
framed_long body = omega (arith, length-append (numeral w32 (length body)) body, numeral_long (length body))

-- records that are appended after others
pub appends_append : (gate : ℕ) (xs ys : List (List ℕ)) → calls_to_append_all gate (xs ++ ys) ≡ calls_to_append_all gate xs ++ calls_to_append_all (gate + length (blocks xs)) ys
appends_append gate [] ys = let e : gate + 0 ≡ gate = omega arith in rw e refl
appends_append gate (x ∷ xs) ys =
    let e : gate + (5 + length x) + length (blocks xs) ≡ gate + length (blocks (x ∷ xs)) = omega (arith, length-append (framed x) (blocks xs), framed_long x) in
    ap (λ (l : List Call). calls_to_append gate x ++ l) (appends_append (gate + (5 + length x)) xs ys ∙ ap (λ (n : ℕ). calls_to_append_all (gate + (5 + length x)) xs ++ calls_to_append_all n ys) e)
    ∙ sym (append_assoc (calls_to_append gate x) (calls_to_append_all (gate + (5 + length x)) xs) (calls_to_append_all (gate + length (blocks (x ∷ xs))) ys))

-- the next record is appended, at the gate after those before it
appends_next : (gate end : ℕ) (texts : List (List ℕ)) (i : ℕ) (text : List ℕ) → take (i + 1) texts ≡ take i texts ++ text ∷ [] → end ≡ gate + length (blocks (take i texts))
    → calls_to_append_all gate (take i texts) ++ calls_to_append end text ≡ calls_to_append_all gate (take (i + 1) texts)
appends_next gate end texts i text next at =
    ap (λ (n : ℕ). calls_to_append_all gate (take i texts) ++ calls_to_append n text) at ∙ sym (ap (calls_to_append_all gate) next ∙ appends_append gate (take i texts) (text ∷ []))

pub made_next : {D : Type 0} (after : D → List Made → D → Type 0) (more : (a b c : D) (xs ys : List Made) → after a xs b → after b ys c → after a (xs ++ ys) c)
    (old between new : D) (gate end : ℕ) (texts : List (List ℕ)) (i : ℕ) (text : List ℕ) → take (i + 1) texts ≡ take i texts ++ text ∷ [] → end ≡ gate + length (blocks (take i texts))
    → after old (made (calls_to_append_all gate (take i texts))) between → after between (made (calls_to_append end text)) new → after old (made (calls_to_append_all gate (take (i + 1) texts))) new
made_next after more old between new gate end texts i text next at before one =
    subst (λ (calls : List Call). after old (made calls) new) (appends_next gate end texts i text next at) (made_later after more old between new (calls_to_append_all gate (take i texts)) (calls_to_append end text) before one)

pub fails_next : {D : Type 0} (after : D → List Made → D → Type 0) (more : (a b c : D) (xs ys : List Made) → after a xs b → after b ys c → after a (xs ++ ys) c)
    (old between new : D) (gate end : ℕ) (texts : List (List ℕ)) (i : ℕ) (text : List ℕ) → take (i + 1) texts ≡ take i texts ++ text ∷ [] → end ≡ gate + length (blocks (take i texts))
    → after old (made (calls_to_append_all gate (take i texts))) between → FailsAmong after between new (calls_to_append end text) → FailsAmong after old new (calls_to_append_all gate texts)
fails_next after more old between new gate end texts i text next at before one =
    let rest : List Call = calls_to_append_all (gate + length (blocks (take (i + 1) texts))) (drop (i + 1) texts) in
    let all : calls_to_append_all gate (take (i + 1) texts) ++ rest ≡ calls_to_append_all gate texts =
    sym (appends_append gate (take (i + 1) texts) (drop (i + 1) texts)) ∙ ap (calls_to_append_all gate) (take-append-drop (i + 1) texts) in
    subst (λ (calls : List Call). FailsAmong after old new calls) (ap (λ (calls : List Call). calls ++ rest) (appends_next gate end texts i text next at) ∙ all)
    (fails_wider after old new (calls_to_append_all gate (take i texts) ++ calls_to_append end text) rest
    (fails_later after more old between new (calls_to_append_all gate (take i texts)) (calls_to_append end text) before one))

-- ---- a start, of a file of this size

pub start_reads : (file : List ℕ) (size : ℕ) → size ≡ length file → 1 < size → syncs ∷ asks_length ∷ reads_at 0 (min size MOST_JOURNAL) ∷ [] ≡ calls_to_start file
start_reads file size is long =
    let test : nat_le (length file) 1 ≡ false = grind (arith, nat_tests) in
    rw test (ap (λ (n : ℕ). syncs ∷ asks_length ∷ reads_at 0 (min n MOST_JOURNAL) ∷ []) is)

pub start_writes : (file : List ℕ) (size : ℕ) → size ≡ length file → size ≤ 1 → syncs ∷ asks_length ∷ writes_at 0 (0 ∷ []) ∷ syncs ∷ [] ≡ calls_to_start file
start_writes file size is short =
    let test : nat_le (length file) 1 ≡ true = grind (arith, nat_tests) in
    rw test refl
