-- Updates that have a text are one where their bodies are, and a list has each body once.
use Rattle.std.proofs.Common.{◌≡◌, Bool, true, false, cond, List, [], ◌∷◌, refl, ap, subst, inl, inr, ◌⊎◌}
use Rattle.std.proofs.lemmas.Slice.Eq.{bytes_eq-Decides}
use Rattle.depot_base.specs.declared.update.Update.{Update}
use Rattle.depot_base.proofs.Decoding.{in_one_way}
use Rattle.depot_model.specs.lists.Lists.{IsIn}
use Rattle.depot_model.specs.texts.Texts.{update_body, IsUpdate, text_of_update}
use Rattle.depot_model.proofs.lists.Members.{any_from, any_to}
use Rattle.depot_model.proofs.of_texts.TextLaws.{update_body_lawful}
use Rattle.depot_model.specs.worlds.Audit.{same_body, is_body_in, new_bodies}

-- each of these has a text
abbrev pub AllFit : List Update → Type 0
AllFit us = (u : Update) → IsIn u us → IsUpdate u

-- one body is one update
pub body_is : (t u : Update) → IsUpdate t → IsUpdate u → same_body t u ≡ true → t ≡ u
body_is t u t_fits u_fits e = (in_one_way update_body 47779 update_body_lawful).value t u t_fits u_fits ((bytes_eq-Decides (text_of_update t) (text_of_update u)).0 e)

pub body_from : (t u : Update) → t ≡ u → same_body t u ≡ true
body_from t u same = (bytes_eq-Decides (text_of_update t) (text_of_update u)).1 (ap (λ (x : Update). text_of_update x) same)

-- the test of membership passes for each member
pub body_in_from : (u : Update) (us : List Update) → IsIn u us → is_body_in u us ≡ true
body_in_from u us on = any_from (λ (t : Update). same_body t u) u us on (body_from u u refl)

-- and for no other update that has a text
pub body_in_to : (u : Update) (us : List Update) → IsUpdate u → AllFit us → is_body_in u us ≡ true → IsIn u us
body_in_to u us fits all e =
    let r = any_to (λ (t : Update). same_body t u) us e in
    subst (λ (x : Update). IsIn x us) (body_is r.0 u (all r.0 r.1.0) fits r.1.1) r.1.0

-- ---- each body once

-- they are some of the list
pub from_bodies : (known us : List Update) (u : Update) → IsIn u (new_bodies known us) → IsIn u us
unfolding new_bodies
from_bodies known [] u never = never
from_bodies known (x ∷ us) u on = chosen (is_body_in x known) on (λ there. from_bodies known us u there) (λ there. from_bodies (x ∷ known) us u there) where
  chosen : (b : Bool) → IsIn u (cond b (new_bodies known us) (x ∷ new_bodies (x ∷ known) us)) → (IsIn u (new_bodies known us) → IsIn u us) → (IsIn u (new_bodies (x ∷ known) us) → IsIn u us) → (x ≡ u) ⊎ IsIn u us
  chosen true on same more = inr (same on)
  chosen false (inl here) same more = inl here
  chosen false (inr there) same more = inr (more there)

-- and each of the list is one of them, or was known
pub into_bodies : (known us : List Update) (u : Update) → AllFit known → AllFit us → IsIn u us → IsIn u known ⊎ IsIn u (new_bodies known us)
unfolding new_bodies
into_bodies known [] u known_fit fit never = absurd never
into_bodies known (x ∷ us) u known_fit fit on =
    chosen (is_body_in x known) refl on (λ there. into_bodies known us u known_fit (λ y y_on. fit y (inr y_on)) there) (λ there. into_bodies (x ∷ known) us u more (λ y y_on. fit y (inr y_on)) there) where
      more : AllFit (x ∷ known)
      more y (inl here) = fit y (inl here)
      more y (inr there) = known_fit y there

      chosen : (b : Bool) → is_body_in x known ≡ b → (x ≡ u) ⊎ IsIn u us → (IsIn u us → IsIn u known ⊎ IsIn u (new_bodies known us)) → (IsIn u us → ((x ≡ u) ⊎ IsIn u known) ⊎ IsIn u (new_bodies (x ∷ known) us))
          → IsIn u known ⊎ IsIn u (cond b (new_bodies known us) (x ∷ new_bodies (x ∷ known) us))
      chosen true is (inl here) same later = inl (subst (λ (y : Update). IsIn y known) here (body_in_to x known (fit x (inl refl)) known_fit is))
      chosen true is (inr there) same later = same there
      chosen false is (inl here) same later = inr (inl here)
      chosen false is (inr there) same later = elim (later there) [
        | inl old ↦ elim old [ inl here ↦ inr (inl here) | inr known_on ↦ inl known_on ]
        | inr new ↦ inr (inr new)
      ]
