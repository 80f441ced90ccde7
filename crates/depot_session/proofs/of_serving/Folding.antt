-- Messages one after another, and one more, or several.
use Rattle.std.proofs.Common.{◌≡◌, ℕ, ◌+◌, List, [], ◌∷◌, ◌++◌, append_assoc, append-nil, length, length-append, refl, sym, ap, ◌∙◌, arith}
use Rattle.std.specs.List.{flat_map}
use Rattle.depot_base.specs.declared.record.Record.{Record}
use Rattle.depot_source.specs.Messages.{Message, text_of_message}
use Rattle.depot_session.specs.Answering.{ServesBody, came_of}
use Rattle.depot_session.specs.Serving.{AreAsking, IsAsking, bodies_of, place_from}

pub journal_more : (f : ServesBody) (J : List Record) (bs : List (List ℕ)) (b : List ℕ) → (came_of f J (bs ++ b ∷ [])).journal ≡ (f (came_of f J bs).journal b).journal
journal_more f J [] b = refl
journal_more f J (x ∷ bs) b = journal_more f (f J x).journal bs b

pub text_more : (f : ServesBody) (J : List Record) (bs : List (List ℕ)) (b : List ℕ) → (came_of f J (bs ++ b ∷ [])).text ≡ (came_of f J bs).text ++ (f (came_of f J bs).journal b).text
text_more f J [] b = append-nil (f J b).text
text_more f J (x ∷ bs) b = ap (λ (t : List ℕ). (f J x).text ++ t) (text_more f (f J x).journal bs b) ∙ sym (append_assoc (f J x).text (came_of f (f J x).journal bs).text (f (came_of f (f J x).journal bs).journal b).text)

pub bodies_more : (ms : List Message) (m : Message) → bodies_of (ms ++ m ∷ []) ≡ bodies_of ms ++ m.body ∷ []
bodies_more [] m = refl
bodies_more (x ∷ ms) m = ap (λ (t : List (List ℕ)). x.body ∷ t) (bodies_more ms m)

pub texts_more : (ms : List Message) (m : Message) → flat_map text_of_message (ms ++ m ∷ []) ≡ flat_map text_of_message ms ++ text_of_message m
texts_more [] m = append-nil (text_of_message m)
texts_more (x ∷ ms) m = ap (λ (t : List ℕ). text_of_message x ++ t) (texts_more ms m) ∙ sym (append_assoc (text_of_message x) (flat_map text_of_message ms) (text_of_message m))

pub each_more : (ms : List Message) (m : Message) → AreAsking ms → IsAsking m → AreAsking (ms ++ m ∷ [])
each_more [] m all asks = (asks, tt)
each_more (x ∷ ms) m all asks = (all.0, each_more ms m all.1 asks)

-- ---- several more

pub bodies_all : (ms ns : List Message) → bodies_of (ms ++ ns) ≡ bodies_of ms ++ bodies_of ns
bodies_all [] ns = refl
bodies_all (x ∷ ms) ns = ap (λ (t : List (List ℕ)). x.body ∷ t) (bodies_all ms ns)

pub texts_all : (ms ns : List Message) → flat_map text_of_message (ms ++ ns) ≡ flat_map text_of_message ms ++ flat_map text_of_message ns
texts_all [] ns = refl
texts_all (x ∷ ms) ns = ap (λ (t : List ℕ). text_of_message x ++ t) (texts_all ms ns) ∙ sym (append_assoc (text_of_message x) (flat_map text_of_message ms) (flat_map text_of_message ns))

pub each_all : (ms ns : List Message) → AreAsking ms → AreAsking ns → AreAsking (ms ++ ns)
each_all [] ns all more = more
each_all (x ∷ ms) ns all more = (all.0, each_all ms ns all.1 more)

journal_behind : (f : ServesBody) (J : List Record) (bs cs : List (List ℕ)) → (came_of f J (bs ++ cs)).journal ≡ (came_of f (came_of f J bs).journal cs).journal
journal_behind f J [] cs = refl
journal_behind f J (x ∷ bs) cs = journal_behind f (f J x).journal bs cs

text_behind : (f : ServesBody) (J : List Record) (bs cs : List (List ℕ)) → (came_of f J (bs ++ cs)).text ≡ (came_of f J bs).text ++ (came_of f (came_of f J bs).journal cs).text
text_behind f J [] cs = refl
text_behind f J (x ∷ bs) cs = ap (λ (t : List ℕ). (f J x).text ++ t) (text_behind f (f J x).journal bs cs) ∙ sym (append_assoc (f J x).text (came_of f (f J x).journal bs).text (came_of f (came_of f (f J x).journal bs).journal cs).text)

-- the journal of some messages, and of others after them
pub journal_all : (f : ServesBody) (J K : List Record) (ms ns : List Message) → K ≡ (came_of f J (bodies_of ms)).journal → (came_of f J (bodies_of (ms ++ ns))).journal ≡ (came_of f K (bodies_of ns)).journal
journal_all f J K ms ns is = ap (λ (x : List (List ℕ)). (came_of f J x).journal) (bodies_all ms ns) ∙ journal_behind f J (bodies_of ms) (bodies_of ns) ∙ ap (λ (x : List Record). (came_of f x (bodies_of ns)).journal) (sym is)

-- and their replies
pub text_all : (f : ServesBody) (J K : List Record) (ms ns : List Message) → K ≡ (came_of f J (bodies_of ms)).journal → (came_of f J (bodies_of (ms ++ ns))).text ≡ (came_of f J (bodies_of ms)).text ++ (came_of f K (bodies_of ns)).text
text_all f J K ms ns is = ap (λ (x : List (List ℕ)). (came_of f J x).text) (bodies_all ms ns) ∙ text_behind f J (bodies_of ms) (bodies_of ns) ∙ ap (λ (x : List Record). (came_of f J (bodies_of ms)).text ++ (came_of f x (bodies_of ns)).text) (sym is)

-- the offset after some messages, and after others behind them
pub place_behind : (at : ℕ) (ms ns : List Message) → place_from (place_from at ms) ns ≡ place_from at (ms ++ ns)
place_behind at ms ns = let all : length (flat_map text_of_message (ms ++ ns)) ≡ length (flat_map text_of_message ms) + length (flat_map text_of_message ns) = ap length (texts_all ms ns) ∙ length-append (flat_map text_of_message ms) (flat_map text_of_message ns) in grind (arith, all)
