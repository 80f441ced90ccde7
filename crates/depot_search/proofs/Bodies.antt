-- Each body once, collected one after another, as the definition does.
use Rattle.std.proofs.Common.{◌≡◌, ◌+◌, ◌||◌, Bool, true, false, cond, List, [], ◌∷◌, ◌++◌, refl, sym, ap, ◌∙◌, append_assoc, append-nil}
use Rattle.std.specs.List.{flat_map, list_any}
use Rattle.depot_base.specs.declared.update.Update.{Update}
use Rattle.depot_model.specs.worlds.Audit.{same_body, is_body_in, new_bodies, bodies_once}
use Rattle.depot_model.specs.journals.Journal.{accepted}
use Rattle.depot_search.specs.Writes.{with_bodies, with_journals}
use Rattle.depot_search.specs.declared.journal.TracedJournal.{TracedJournal}

-- ---- one more is known

or_swap : (a b c : Bool) → (a || (b || c)) ≡ (b || (a || c))
or_swap true true c = refl
or_swap true false c = refl
or_swap false true c = refl
or_swap false false c = refl

-- one more at the end is found as at the front
any_pushed : {X : Type 0} (test : X → Bool) (xs : List X) (x : X) → list_any test (xs ++ x ∷ []) ≡ (test x || list_any test xs)
any_pushed test [] x = refl
any_pushed test (y ∷ ys) x = ap (λ (b : Bool). test y || b) (any_pushed test ys x) ∙ or_swap (test y) (test x) (list_any test ys)

same_choice : (b c : Bool) (us vs xs ys : List Update) → b ≡ c → us ≡ xs → vs ≡ ys → cond b us vs ≡ cond c xs ys
same_choice b c us vs xs ys e f g = ap (λ (d : Bool). cond d us vs) e ∙ ap (λ (l : List Update). cond c l vs) f ∙ ap (λ (l : List Update). cond c xs l) g

-- what is new depends on what is known, and not on its order
same_known : (known others us : List Update) → ((u : Update) → is_body_in u known ≡ is_body_in u others) → new_bodies known us ≡ new_bodies others us
unfolding new_bodies
same_known known others [] same = refl
same_known known others (u ∷ us) same = same_choice (is_body_in u known) (is_body_in u others) (new_bodies known us) (u ∷ new_bodies (u ∷ known) us) (new_bodies others us) (u ∷ new_bodies (u ∷ others) us)
    (same u)
    (same_known known others us same)
    (ap (λ (l : List Update). u ∷ l) (same_known (u ∷ known) (u ∷ others) us (λ x. ap (λ (b : Bool). same_body u x || b) (same x))))

-- ---- all of a list

pub bodies_put : (known us : List Update) → with_bodies known us ≡ known ++ new_bodies known us
unfolding new_bodies
bodies_put known [] = sym (append-nil known)
bodies_put known (u ∷ us) = by_test (is_body_in u known) (bodies_put known us) (bodies_put (known ++ u ∷ []) us) where
  by_test : (b : Bool) → with_bodies known us ≡ known ++ new_bodies known us → with_bodies (known ++ u ∷ []) us ≡ (known ++ u ∷ []) ++ new_bodies (known ++ u ∷ []) us
      → with_bodies (cond b known (known ++ u ∷ [])) us ≡ known ++ cond b (new_bodies known us) (u ∷ new_bodies (u ∷ known) us)
  by_test true same more = same
  by_test false same more =
      more
      ∙ append_assoc known (u ∷ []) (new_bodies (known ++ u ∷ []) us)
      ∙ ap (λ (l : List Update). known ++ u ∷ l) (same_known (known ++ u ∷ []) (u ∷ known) us (λ x. any_pushed (λ (t : Update). same_body t x) known u))

-- of two lists one after another
pub bodies_behind : (known us vs : List Update) → with_bodies known (us ++ vs) ≡ with_bodies (with_bodies known us) vs
bodies_behind known [] vs = refl
bodies_behind known (u ∷ us) vs = bodies_behind (cond (is_body_in u known) known (known ++ u ∷ [])) us vs

journals_put : (known : List Update) (js : List TracedJournal) → with_journals known js ≡ with_bodies known (flat_map (λ (j : TracedJournal). accepted j.entries) js)
journals_put known [] = refl
journals_put known (j ∷ js) = journals_put (with_bodies known (accepted j.entries)) js ∙ sym (bodies_behind known (accepted j.entries) (flat_map (λ (k : TracedJournal). accepted k.entries) js))

-- of journals they are the bodies of all that they accepted
pub journals_once : (js : List TracedJournal) → with_journals [] js ≡ bodies_once (flat_map (λ (j : TracedJournal). accepted j.entries) js)
journals_once js = journals_put [] js ∙ bodies_put [] (flat_map (λ (j : TracedJournal). accepted j.entries) js)
