-- Runs of LYNX processes that the setting wires are linked: those of programs, and those of nodes.
use Rattle.std.proofs.Common.{ℕ, ◌*◌, ◌^◌, ◌≤◌, List, ◌++◌, length, All, Option, arith}
use Rattle.std.proofs.lemmas.Nat.{mul-le}
use Rattle.charlotte_calls.specs.Setting.{IsValid}
use Rattle.charlotte_calls.specs.declared.names.Pid.{Pid}
use Rattle.charlotte_calls.specs.declared.program.Next.{Next}
use Rattle.charlotte_calls.specs.declared.setting.Setting.{Setting}
use Rattle.kernel_entries.specs.Order.{IsMerge}
use Rattle.kernel_entries.specs.Ranges.{IsPlacedInRange}
use Rattle.kernel_entries.specs.declared.entry.Entry.{Entry}
use Rattle.kernel_entries.specs.declared.entry.Placed.{Placed}
use Rattle.kernel_turns.specs.Nodes.{Meaning}
use Rattle.kernel_turns.specs.declared.node.Node.{Node}
use Rattle.plan_run.specs.Ends.{RanTogether, RunTogether}
use Rattle.kernel_turns.specs.Local.{LocalEvent}
use Rattle.plan_run.specs.Net.{AreNodes, AreUnspoiled, HaveMet, journals_of}
use Rattle.plan_run.specs.Homes.{programs_on}
use Rattle.plan_run.proofs.Counting.{few-merged}
use Rattle.plan_run.proofs.Journals.{merged-in_range}
use Rattle.plan_run.proofs.Programs.{replayed}
use Rattle.plan_run.specs.Run.{AreReplayed, IsRunOf}
use Rattle.plan_run.specs.declared.run.Ran.{Ran}
use Rattle.plan_run.specs.Record.{IsLawfulRecord}
use Rattle.lynx_load.specs.States.{State}
use Rattle.carried_ends.specs.Acting.{Program}
use Rattle.carried_ends.proofs.Given.{given-acted}
use Rattle.carried_ends.specs.Acted.{AreActed}
use Rattle.carried_ends.specs.Claimed.{AreWired, HasLinks}
use Rattle.carried_ends.proofs.Whole.{acts-linked}
use Rattle.run_links.specs.Linked.{AreLinkedNodes, BeginAs, meaning_by}

-- at most eight kernels make few entries
pub few-entries : (kernels turns count : ℕ) → kernels ≤ 8 → turns ≤ 100000 → count ≤ kernels * turns → count ≤ 2 ^ 28
few-entries kernels turns count eight bound few =
    let most : kernels * turns ≤ 8 * 100000 = mul-le kernels turns 8 100000 eight bound in
    omega (arith, most, few)

module _ {P : Type 0} (state : P → State) (last : P → Option Next) (version : P → ℕ) (s : Setting) (programs : ℕ → Program) (given : List P)
    (begin : BeginAs (meaning_by state last version) s programs given) (wired : AreWired s programs) where
  abbrev m : Meaning P State
  m = meaning_by state last version

  -- entries that the programs replay
  of-replayed : (merged : List Placed) (lawful : IsLawfulRecord s merged) → IsValid s → All IsPlacedInRange merged → length merged ≤ 2 ^ 28 → (are : AreReplayed m s given merged) → HasLinks s programs merged are.steps lawful
  of-replayed merged lawful valid in_range few are =
      let acted : AreActed s programs merged are.steps = given-acted s given state programs merged are.steps begin.count begin.states are.replays lawful.run lawful.recorded in
      record { acted = acted; linked = acts-linked s programs merged are.steps lawful valid in_range few wired acted }

  pub of-run : (turns : ℕ) (ran : Ran) → turns ≤ 100000 → (is : IsRunOf m s given turns ran) → HasLinks s programs is.merged is.replayed.steps is.lawful
  of-run turns ran bound is =
      let told = is.told.told in
      of-replayed is.merged is.lawful told.setting told.values.entries (few-entries s.kernels turns (length is.merged) told.setting.limits.kernels bound is.few) is.replayed

  pub of-nodes : {W : Type 0} (HasSeen : W → List Entry → Type 0) (made : ℕ → List LocalEvent) (old new : List (Node P W)) (merged : List Placed) → AreNodes m HasSeen s (programs_on s given) made old
      → RunTogether m HasSeen old new → HaveMet new × AreUnspoiled new → IsMerge (journals_of new) merged → AreLinkedNodes m s programs given merged
  of-nodes {W = W} HasSeen made old new merged nodes run met merge =
      let first : ℕ → List (Pid × P) = programs_on s given in
      let ran : RanTogether m HasSeen s first made new = run s first made nodes in
      let all : ℕ → List LocalEvent = λ k. made k ++ ran.more k in
      let replays : AreReplayed m s given merged = replayed m HasSeen s given all new ran.nodes met.1 begin.count merged merge in
      let few : length merged ≤ s.kernels * 100000 = few-merged m HasSeen s first all new ran.nodes merged merge 100000 (λ k n at. (ran.nodes.each k n at).most) in
      let enough : length merged ≤ 2 ^ 28 = few-entries s.kernels 100000 (length merged) nodes.valid.limits.kernels (omega arith) few in
      let lawful : IsLawfulRecord s merged = ran.lawful merged merge in
      record {
        replayed = replays;
        lawful = lawful;
        links = of-replayed merged lawful nodes.valid (merged-in_range m HasSeen s first all new ran.nodes merged merge) enough replays;
      }
