-- After a command a correct node is still one.
use Rattle.std.proofs.Common.{◌≡◌, ℕ, List, [], ◌∷◌, ◌++◌, Option, Some, None, refl, sym, ap, subst, ◌∙◌, inl, inr}
use Rattle.depot_model.specs.exchange.Bundle.{Signs}
use Rattle.depot_model.specs.checks.Checks.{Setting}
use Rattle.depot_model.specs.journals.Lawful.{IsLawful}
use Rattle.depot_model.specs.lists.Lists.{IsIn}
use Rattle.depot_model.specs.readers.Readers.{Reader}
use Rattle.depot_model.specs.texts.Roster.{has_node}
use Rattle.depot_model.specs.worlds.World.{Correct, Read, IsCorrect, IsRead, NeverFall}
use Rattle.depot_model.proofs.of_journals.FeedGrowth.{IsGrown}
use Rattle.depot_model.proofs.lists.Members.{in_pushed}
use Rattle.depot_requests.proofs.ServedRequests.{served_grows}
use Rattle.depot_requests.specs.Effects.{read_at_end}
use Rattle.depot_requests.specs.Requests.{served}
use Rattle.depot_requests.specs.declared.request.Request.{Request}
use Rattle.depot_requests.specs.declared.request.Request.TheVariants as request
use Rattle.depot_script.specs.declared.command.Command.{Command}
use Rattle.depot_script.specs.declared.command.Command.TheVariants as command
use Rattle.depot_world.proofs.of_worlds.GoodEffects.{read_is, never_falls}
use Rattle.depot_world.proofs.of_worlds.GoodNodes.{begun_grows, read_grows}
use Rattle.depot_session.specs.SessionRuns.{world_at}
use Rattle.depot_session.specs.Sessions.{Asking, Session, asked_in, asked_step, asks_for, given_by_name, step_by, step_of}
use Rattle.depot_session.proofs.AskedCommands.{of_file}

-- ---- correct nodes

-- a node with a longer journal and the same reads
more_is_correct : (here : Setting) (c d : Correct) → IsCorrect (world_at here) c → d.node ≡ c.node → d.node ≡ here.me → IsGrown c.journal d.journal → d.reads ≡ c.reads → IsLawful here d.journal → IsCorrect (world_at here) d
more_is_correct here c d is same at grown reads lawful = record {
  member = ap (has_node here.listed) same ∙ is.member;
  lawful = subst (λ (n : ℕ). IsLawful (record { verifies = here.verifies; me = n; listed = here.listed }) d.journal) (sym at) lawful;
  begun = begun_grows c.journal d.journal grown is.begun;
  reads = λ r on. read_grows c.journal d.journal r grown (is.reads r (subst (λ (rs : List Read). IsIn r rs) reads on));
  in_order = subst NeverFall (sym reads) is.in_order;
}

-- a node that has read a key
read_is_correct : (here : Setting) (c : Correct) (key : List ℕ) → IsCorrect (world_at here) c → IsCorrect (world_at here) (record { node = c.node; journal = c.journal; reads = c.reads ++ read_at_end c.journal key ∷ [] })
read_is_correct here c key is = record {
  member = is.member;
  lawful = is.lawful;
  begun = is.begun;
  reads = λ r on. elim (in_pushed r c.reads (read_at_end c.journal key) on) [
    | inl old ↦ is.reads r old
    | inr now ↦ subst (λ (x : Read). IsRead c.journal x) now (read_is (record { verifies = here.verifies; me = c.node; listed = here.listed }) c.journal key is.lawful is.begun)
  ];
  in_order = never_falls c.reads (read_at_end c.journal key) is.in_order (λ s on. (is.reads s on).within);
}

-- ---- what is read

-- the command isn't a read
abbrev pub IsNoGet : Command → Type 0
IsNoGet (command.Get key) = ⊥
IsNoGet other = Unit {0}

-- nor is one asked for
abbrev AsksNoRead : Asking → Type 0
AsksNoRead (asks_for (request.Get key)) = ⊥
AsksNoRead other = Unit {0}

asks_no_read : (s : Session) (c : Command) → IsNoGet c → AsksNoRead (asked_in s c)
asks_no_read s (command.Get key) other = absurd other
asks_no_read s (command.Bundle hello file) other = of_file AsksNoRead _ hello (s.files hello) tt (λ bytes. tt)
asks_no_read s (command.Take file) other = of_file AsksNoRead _ file (s.files file) tt (λ bytes. tt)
asks_no_read s (command.Sign file) other = of_file AsksNoRead _ file (s.files file) tt (λ bytes. tt)
asks_no_read s (command.Trim file) other = of_file AsksNoRead _ file (s.files file) tt (λ bytes. tt)
asks_no_read s (command.Tgive file) other = by_reader s.reader where
  by_reader : (o : Option Reader) → AsksNoRead (given_by_name s file o)
  by_reader None = tt
  by_reader (Some R) = of_file AsksNoRead _ file (s.files file) tt (λ bytes. tt)
asks_no_read s c other = tt

reads_by : (here : Setting) (sign : Signs) (s : Session) (c : Command) (a : Asking) → AsksNoRead a → (step_by here sign s c a).session.correct.reads ≡ s.correct.reads
reads_by here sign s c (asks_for (request.Get key)) none = absurd none
reads_by here sign s c other none = refl

-- it leaves what the node has read
pub step_reads : (here : Setting) (sign : Signs) (s : Session) (c : Command) → IsNoGet c → (step_of here sign s c).session.correct.reads ≡ s.correct.reads
unfolding step_of
step_reads here sign s c other = reads_by here sign s c (asked_in s c) (asks_no_read s c other)

-- ---- a step

module _ (here : Setting) (sign : Signs) (s : Session) (correct : IsCorrect (world_at here) s.correct) (at : s.correct.node ≡ here.me) where
  by_request : (c : Command) (r : Request) → IsLawful here (served here sign s.correct.journal r).journal → IsCorrect (world_at here) (asked_step here sign s c r).session.correct
  unfolding served
  by_request c (request.Get key) lawful = read_is_correct here s.correct key correct
  by_request c other lawful = more_is_correct here s.correct (asked_step here sign s c other).session.correct correct refl at (served_grows here sign s.correct.journal other) refl lawful

  by_asking : (c : Command) (a : Asking) → IsLawful here (step_by here sign s c a).session.correct.journal → IsCorrect (world_at here) (step_by here sign s c a).session.correct
  by_asking c (asks_for r) lawful = by_request c r lawful
  by_asking c other lawful = correct

  -- a correct node is one after any command, if its journal is lawful
  pub step_is_correct : (c : Command) → IsLawful here (step_of here sign s c).session.correct.journal → IsCorrect (world_at here) (step_of here sign s c).session.correct
  unfolding step_of
  step_is_correct c lawful = by_asking c (asked_in s c) lawful
