-- A reader's state, filled with one more record.
use Rattle.std.proofs.Common.{◌≡◌, ◌∙◌, ℕ, ◌+◌, ◌<◌, ◌≤◌, Bool, cond, List, [], ◌∷◌, ◌++◌, length, map, take, drop, Some, refl, sym, ap, subst, arith, inl}
use Rattle.std.specs.Prelude.{slice_get}
use Rattle.std.proofs.lemmas.Grind.{flat_map-append}
use Rattle.std.proofs.lemmas.List.{length-map, map-append}
use Rattle.std.proofs.lemmas.Option.{slice_get_within}
use Rattle.depot_base.specs.declared.key.RosterEntry.{RosterEntry}
use Rattle.depot_base.specs.declared.record.Record.{Record}
use Rattle.depot_base.specs.declared.record.Record.TheVariants.{OwnPut, Foreign}
use Rattle.depot_base.specs.declared.statement.Signed.{Signed}
use Rattle.depot_base.specs.declared.statement.Statement.TheVariants as statements
use Rattle.depot_base.specs.declared.update.Update.{Update}
use Rattle.depot_base.specs.declared.voucher.Voucher.{Voucher}
use Rattle.depot_base.proofs.GeneralLaws.{at_place, filter_short}
use Rattle.depot_model.specs.checks.Checks.{Setting}
use Rattle.depot_model.specs.journals.Journal.{accepted, accepted_by, foreign, has_id, is_convicted}
use Rattle.depot_model.specs.journals.Lawful.{IsLawful}
use Rattle.depot_model.specs.lists.Lists.{IsIn}
use Rattle.depot_model.specs.updates.Order.{IsCausal}
use Rattle.depot_model.specs.readers.Pruning.{pruned_statement, pruned_by, pruned}
use Rattle.depot_model.specs.texts.Records.{text_of_record}
use Rattle.depot_model.specs.texts.Roster.{Verifies}
use Rattle.depot_model.specs.texts.Texts.{IsUpdate, id_of_update}
use Rattle.depot_base.proofs.MembershipLaws.{in_right}
use Rattle.depot_laws.proofs.own_updates.OwnTexts.{accepted_fit}
use Rattle.depot_laws.proofs.of_readers.PrunedReadings.{accepted_same, foreign_left, is_left}
use Rattle.depot_laws.proofs.lists.Splits.{accepted_push, lawful_front}
use Rattle.depot_accept.specs.StateView.{View, IsStateOf, setting}
use Rattle.depot_readings.proofs.BoundLaws.{few_updates, few_statements}
use Rattle.depot_readings.proofs.StateGrowth.{fits_behind}
use Rattle.depot_trim.specs.Trimmings.{given_up, IsFilling}
use Rattle.depot_trim.proofs.SoFar.{halves, map_at, take_next}

pub pruned_push : (ts : List Update) (J : List Record) (r : Record) → pruned ts (J ++ r ∷ []) ≡ pruned ts J ++ pruned_by ts r ∷ []
unfolding pruned
pruned_push ts J r = map-append (pruned_by ts) J (r ∷ [])

-- a record that says the same without its signature
pub fill : {S : Type 0} (ts : List Update) (J : List Record) (r q : Record) (w : View S) → pruned_by ts r ≡ q → IsStateOf (pruned ts J ++ q ∷ []) w → IsStateOf (pruned ts (J ++ r ∷ [])) w
fill ts J r q w is s = subst (λ (K : List Record). IsStateOf K w) (sym (pruned_push ts J r ∙ ap (λ (x : Record). pruned ts J ++ x ∷ []) is)) s

-- an update that is given up is read as a put, any other as it is
pub told_of_update : (ts : List Update) (s : Signed) (u : Update) (b : Bool) → s.statement ≡ statements.Update u → has_id ts (id_of_update u) ≡ b → pruned_by ts (Foreign s) ≡ cond b (OwnPut u []) (Foreign s)
told_of_update ts s u b is gone = ap (pruned_statement ts s) is ∙ ap (λ (x : Bool). cond x (OwnPut u []) (Foreign s)) gone

pub told_of_voucher : (ts : List Update) (s : Signed) (v : Voucher) → s.statement ≡ statements.Voucher v → pruned_by ts (Foreign s) ≡ Foreign s
told_of_voucher ts s v is = ap (pruned_statement ts s) is

module _ {S : Type 0} (verifies : Verifies) (us : List Update) (flags : List Bool) (ts : List Update) (J : List Record) (r : Record) (v : View S) (f : IsFilling verifies us flags ts J r v) where
  known : accepted J ≡ v.accepted
  known = sym (accepted_same ts J) ∙ f.state.accepted

  pub fits : (more : List Update) → accepted_by r ≡ more → IsCausal [] (v.accepted ++ more)
  fits more brings = fits_behind (setting verifies v) J r more v.accepted f.lawful brings known

  pub few : length v.accepted < 4294967295
  few = few_updates (setting verifies v) J r v.accepted f.lawful known

  pub few_foreign : length v.foreign ≤ 131072
  few_foreign =
      let all = few_statements (setting verifies v) J r (foreign J) f.lawful refl in
      let left = ap length (sym f.state.foreign ∙ foreign_left ts J) in
      omega (arith, all, left, filter_short (is_left ts) (foreign J))

  at_end : (xs more : List Update) (u : Update) → slice_get ((xs ++ u ∷ []) ++ more) (length xs) ≡ Some u
  at_end [] more u = refl
  at_end (x ∷ xs) more u = at_end xs more u

  -- the update that it brings is the next of these
  pub next : (u : Update) → accepted_by r ≡ u ∷ [] → slice_get us (length v.accepted) ≡ Some u
  next u brings =
      let all = f.front ∙ ap (λ (xs : List Update). xs ++ f.more) (flat_map-append accepted_by J (r ∷ []) ∙ ap (λ (xs : List Update). accepted J ++ (xs ++ [])) brings) in
      subst (λ (xs : List Update). slice_get xs (length v.accepted) ≡ Some u) (sym (all ∙ ap (λ (xs : List Update). (xs ++ u ∷ []) ++ f.more) known)) (at_end v.accepted f.more u)

  -- there is one, and a flag for it
  pub inside : (u : Update) → accepted_by r ≡ u ∷ [] → length v.accepted < length us
  inside u brings = slice_get_within us (length v.accepted) u (next u brings)

  pub flag_inside : (u : Update) → accepted_by r ≡ u ∷ [] → length v.accepted < length flags
  flag_inside u brings = omega (arith, inside u brings, ap length f.flagged, length-map us (λ (x : Update). has_id ts (id_of_update x)))

  -- which states it
  pub flag : (u : Update) (b : Bool) → accepted_by r ≡ u ∷ [] → slice_get flags (length v.accepted) ≡ Some b → has_id ts (id_of_update u) ≡ b
  flag u b brings told =
      let there = ap (λ (bs : List Bool). slice_get bs (length v.accepted)) f.flagged ∙ map_at (λ x. has_id ts (id_of_update x)) us (length v.accepted) u (next u brings) in
      let both : Some (has_id ts (id_of_update u)) ≡ Some b = sym there ∙ told in
      cc

  -- it is in its ranges
  pub is_update : (u : Update) → accepted_by r ≡ u ∷ [] → IsUpdate u
  is_update u brings = accepted_fit (setting verifies v) (J ++ r ∷ []) u f.lawful (subst (λ (xs : List Update). IsIn u xs) (sym (accepted_push J r ∙ ap (λ (xs : List Update). accepted J ++ xs) brings)) (in_right u (accepted J) (u ∷ []) (inl refl)))

-- ---- the records one by one

-- the state of no records
pub none_filled : {S : Type 0} (ts : List Update) (v : View S) (me : ℕ) (listed : List RosterEntry) (scheme : S) → v ≡ record { me = me; listed = listed; scheme = scheme; accepted = []; foreign = []; own_vouchers = []; vouched = []; convicted = []; voucher_room = 0 } → IsStateOf (pruned ts []) v
unfolding pruned is_convicted
none_filled ts v me listed scheme is = subst (λ (w : View _). IsStateOf [] w) (sym is) (record { accepted = refl; foreign = refl; own_vouchers = refl; vouched = λ h. refl; convicted = λ n. refl })

-- the record of a text
pub text_is : (J : List Record) (i : ℕ) (text : List ℕ) → i < length J → slice_get (map text_of_record J) i ≡ Some text → (r : Record) × ((slice_get J i ≡ Some r) × (text ≡ text_of_record r))
text_is J i text low at =
    let r = at_place J i low in
    let both : Some text ≡ Some (text_of_record r.0) = sym at ∙ map_at text_of_record J i r.0 r.1 in
    (r.0, (r.1, cc))

-- a node's setting, by its parts
pub stands_so : (here : Setting) (verifies : Verifies) (me : ℕ) (listed : List RosterEntry) → here.verifies ≡ verifies → me ≡ here.me → listed ≡ here.listed → record { verifies = verifies; me = me; listed = listed } ≡ here
stands_so here verifies me listed v m l =
    let made : Verifies → ℕ → List RosterEntry → Setting = λ a b d. record { verifies = a; me = b; listed = d } in
    ap (λ (x : Verifies). made x me listed) (sym v) ∙ ap (λ (x : ℕ). made here.verifies x listed) m ∙ ap (λ (x : List RosterEntry). made here.verifies here.me x) l

-- the record of a place may be the next
pub filling : {S : Type 0} (verifies : Verifies) (here : Setting) (J : List Record) (us : List Update) (flags : List Bool) (ts : List Update) (i : ℕ) (r : Record) (v : View S) → IsLawful here J → accepted J ≡ us → setting verifies v ≡ here → slice_get J i ≡ Some r → flags ≡ given_up ts us
    → IsStateOf (pruned ts (take i J)) v → IsFilling verifies us flags ts (take i J) r v
filling verifies here J us flags ts i r v lawful is stands at flagged s =
    let next = take_next J i r at in
    let parts : accepted J ≡ accepted (take i J ++ r ∷ []) ++ accepted (drop (i + 1) J) = ap (λ (K : List Record). accepted K) (sym (halves (i + 1) J)) ∙ flat_map-append accepted_by (take (i + 1) J) (drop (i + 1) J) ∙ ap (λ (K : List Record). accepted K ++ accepted (drop (i + 1) J)) next in
    record {
      flagged = flagged;
      state = s;
      lawful = subst (λ (h : Setting). IsLawful h (take i J ++ r ∷ [])) (sym stands) (subst (IsLawful here) next (lawful_front here (take (i + 1) J) (drop (i + 1) J) (subst (IsLawful here) (sym (halves (i + 1) J)) lawful)));
      more = accepted (drop (i + 1) J);
      front = sym is ∙ parts;
    }

-- the state of a journal is that of one that is the same
pub filled_next : {S : Type 0} (v : View S) (ts : List Update) (J K : List Record) → J ≡ K → IsStateOf (pruned ts J) v → IsStateOf (pruned ts K) v
filled_next v ts J K same is = subst (λ (L : List Record). IsStateOf (pruned ts L) v) same is
