-- A run that makes a world still does with one more host or label.
use Rattle.std.proofs.Common.{◌≡◌, ℕ, Bool, true, false, eqb, cond, List, [], ◌∷◌, map, Option, Some, None, refl, sym, ap, subst, ◌∙◌, inl, inr, ◌⊎◌}
use Rattle.std.proofs.lemmas.Bool.{eqb-true}
use Rattle.depot_base.specs.declared.proof.Proof.{Proof}
use Rattle.depot_base.specs.declared.update.Update.{Update}
use Rattle.depot_model.specs.lists.Items.{AreDistinct}
use Rattle.depot_model.specs.updates.Judgement.{first_failed_point}
use Rattle.depot_model.specs.lists.Lists.{IsIn}
use Rattle.depot_model.specs.texts.Texts.{IsProof}
use Rattle.depot_model.proofs.lists.Members.{in_pushed}
use Rattle.depot_world.specs.Run.{Host, Labelled, NamedReader, Run, host_in, put_host, with_label, with_host}
use Rattle.depot_world.specs.FaultySigning.{Text}
use Rattle.depot_requests.specs.Effects.{Effect}
use Rattle.depot_world.specs.ScheduleStops.{EventResult, event_result}
use Rattle.depot_world.specs.Setups.{Setup}
use Rattle.depot_world.specs.Transcript.{Done, done_by_node, done_at_node, done_by_text}
use Rattle.depot_world.proofs.of_bytes.OnlyBytes.{OnlyBytes}
use Rattle.depot_world.proofs.of_bytes.ByteLabels.{HoldsOnly, IsByteSigned, IsByteText}
use Rattle.depot_world.proofs.of_worlds.GoodNodes.{IsGoodNode, IsGoodEffect, IsGoodResult, events_keep_nodes}

-- the numbers of the nodes
abbrev pub numbers_of : List Host → List ℕ
numbers_of ss = map (λ (s : Host). s.correct.node) ss

-- a judged proof has a text and a verdict
pub record IsJudged (setup : Setup) (p : Proof) : Type 0 where
  pub formed : IsProof p
  pub judged : first_failed_point setup.suite.verifies setup.listed p ≡ None

-- The nodes are distinct and as a world asks, what labels hold is made of bytes, and the judged proofs have verdicts.
pub record IsGoodRun (setup : Setup) (run : Run) : Type 0 where
  pub distinct : AreDistinct (numbers_of run.hosts)
  pub hosts : (s : Host) → IsIn s run.hosts → IsGoodNode setup s.correct
  pub labels : (m : Labelled) → IsIn m run.labels → HoldsOnly m
  pub judged : (p : Proof) → IsIn p run.judged → IsJudged setup p

-- ---- hosts

-- the first host of a node

pub record IsFound (ss : List Host) (node : ℕ) (s : Host) : Type 0 where
  pub on : IsIn s ss
  pub is : s.correct.node ≡ node

pub found_is : (ss : List Host) (node : ℕ) (s : Host) → host_in ss node ≡ Some s → IsFound ss node s
unfolding host_in
found_is [] node s e = absurd cc
found_is (t ∷ ss) node s e = choice (eqb t.correct.node node) refl (found_is ss node s) e where
  choice : (b : Bool) → eqb t.correct.node node ≡ b → (host_in ss node ≡ Some s → IsFound ss node s) → cond b (Some t) (host_in ss node) ≡ Some s → IsFound (t ∷ ss) node s
  choice true same rest is = let here : t ≡ s = cc in record { on = inl here; is = ap (λ (x : Host). x.correct.node) (sym here) ∙ eqb-true t.correct.node node same }
  choice false other rest is = let f = rest is in record { on = inr f.on; is = f.is }

-- a host of the changed list is the new one or an old one
pub from_put_host : (s x : Host) (ss : List Host) → IsIn x (put_host s ss) → (s ≡ x) ⊎ IsIn x ss
unfolding put_host
from_put_host s x [] never = absurd never
from_put_host s x (t ∷ ss) on = choice (eqb t.correct.node s.correct.node) (from_put_host s x ss) on where
  choice : (b : Bool) → (IsIn x (put_host s ss) → (s ≡ x) ⊎ IsIn x ss) → IsIn x (cond b (s ∷ ss) (t ∷ put_host s ss)) → (s ≡ x) ⊎ IsIn x (t ∷ ss)
  choice true rest (inl here) = inl here
  choice true rest (inr there) = inr (inr there)
  choice false rest (inl here) = inr (inl here)
  choice false rest (inr there) = elim (rest there) [ inl same ↦ inl same | inr old ↦ inr (inr old) ]

-- the changed list has the same nodes
pub same_numbers : (s : Host) (ss : List Host) → numbers_of (put_host s ss) ≡ numbers_of ss
unfolding put_host
same_numbers s [] = refl
same_numbers s (t ∷ ss) = choice (eqb t.correct.node s.correct.node) refl (same_numbers s ss) where
  choice : (b : Bool) → eqb t.correct.node s.correct.node ≡ b → numbers_of (put_host s ss) ≡ numbers_of ss → numbers_of (cond b (s ∷ ss) (t ∷ put_host s ss)) ≡ numbers_of (t ∷ ss)
  choice true same rest = ap (λ (n : ℕ). n ∷ numbers_of ss) (sym (eqb-true t.correct.node s.correct.node same))
  choice false other rest = ap (λ (ns : List ℕ). t.correct.node ∷ ns) rest

pub host_keeps : (setup : Setup) (run : Run) (s : Host) → IsGoodRun setup run → IsGoodNode setup s.correct → IsGoodRun setup (with_host run s)
unfolding with_host
host_keeps setup run s g good = record {
  distinct = subst AreDistinct (sym (same_numbers s run.hosts)) g.distinct;
  hosts = λ x on. elim (from_put_host s x run.hosts on) [
    | inl same ↦ subst (λ (y : Host). IsGoodNode setup y.correct) same good
    | inr old ↦ g.hosts x old
  ];
  labels = g.labels;
  judged = g.judged;
}

-- ---- labels

pub label_keeps : (setup : Setup) (run : Run) (new : Labelled) → IsGoodRun setup run → OnlyBytes new.bytes → IsByteSigned new.signed → IsGoodRun setup (with_label run new)
label_keeps setup run new g only signed_only = record {
  distinct = g.distinct;
  hosts = g.hosts;
  labels = λ m on. elim (in_pushed m run.labels new on) [
    | inl old ↦ g.labels m old
    | inr now ↦ subst HoldsOnly now (record { bytes = only; signed = signed_only })
  ];
  judged = g.judged;
}

-- an event that no node takes part in
pub text_keeps : (setup : Setup) (run : Run) (label : List ℕ) (t : Text) → IsGoodRun setup run → IsByteText t → IsGoodRun setup (done_by_text run label t).run
text_keeps setup run label t g only = label_keeps setup run (record { label = label; bytes = t.bytes; signed = t.signed; plain = t.plain }) g only.bytes only.signed

-- other updates that were seen
pub seen_keeps : (setup : Setup) (run : Run) (seen : List Update) → IsGoodRun setup run → IsGoodRun setup (record run { seen = seen })
seen_keeps setup run seen g = record { distinct = g.distinct; hosts = g.hosts; labels = g.labels; judged = g.judged }

-- other readers
pub readers_keep : (setup : Setup) (run : Run) (readers : List NamedReader) → IsGoodRun setup run → IsGoodRun setup (record run { readers = readers })
readers_keep setup run readers g = record { distinct = g.distinct; hosts = g.hosts; labels = g.labels; judged = g.judged }

-- ---- events of nodes

result_keeps : (setup : Setup) (run : Run) (label : Option (List ℕ)) (s : Host) (w : EventResult) → IsGoodRun setup run → IsGoodResult setup s w → IsGoodRun setup (done_by_node run label w).run
unfolding with_host
result_keeps setup run None s w g good = host_keeps setup run w.host g good.good
result_keeps setup run (Some label) s w g good = label_keeps setup (with_host run w.host) (record { label = label; bytes = w.bytes; signed = None; plain = false }) (host_keeps setup run w.host g good.good) good.bytes tt

-- an event of a node that does what is good for that node
pub node_keeps : (setup : Setup) (run : Run) (node : ℕ) (label : Option (List ℕ)) (effect : Host → Effect) → IsGoodRun setup run → ((s : Host) → s.correct.node ≡ node → IsGoodNode setup s.correct → IsGoodEffect setup s.correct (effect s)) → IsGoodRun setup (done_at_node run node label effect).run
unfolding done_at_node
node_keeps setup run node label effect g good = by_host (host_in run.hosts node) refl where
  by_host : (o : Option Host) → host_in run.hosts node ≡ o → IsGoodRun setup (elim o as (λ x. Done) [ None ↦ record { answer = []; behind = []; run = run } | Some s ↦ done_by_node run label (event_result s (effect s)) ]).run
  by_host None none = g
  by_host (Some s) is =
      let f = found_is run.hosts node s is in
      let node_good = g.hosts s f.on in
      result_keeps setup run label s (event_result s (effect s)) g (events_keep_nodes setup s (effect s) node_good (good s f.is node_good))
