-- The laws of the service's steps, and that with them each of its steps keeps the invariant.
use Rattle.std.proofs.Common.{arith, ◌≡◌, ℕ, suc, List, subst}
use Rattle.charlotte_calls.specs.Ranges.{AreBytes}
use Rattle.charlotte_calls.specs.declared.calls.Call.{Call}
use Rattle.charlotte_calls.specs.declared.calls.Call.TheVariants as call
use Rattle.charlotte_calls.specs.declared.names.EndId.{EndId}
use Rattle.service_consistent.proofs.Laws.{consistent_after}
use Rattle.run_process_steps.proofs.Coming.{comes-so}
use Rattle.run_process_steps.proofs.Deaths.{deaths-true}
use Rattle.run_process_steps.proofs.Matching.{matched-after}
use Rattle.run_process_steps.proofs.Moving.{each-moves}
use Rattle.run_process_steps.proofs.Phases.{phases-next}
use Rattle.run_process_steps.proofs.Receiving.{receives-told}
use Rattle.run_process_steps.specs.Invariant.{Owners}
use Rattle.run_process_steps.specs.Steps.{HasBytes, HasRoom}
use Rattle.run_service_steps.proofs.CallSteps.{own_stands}
use Rattle.followed_links.proofs.Entries.{StepsKeep}
use Rattle.followed_links.proofs.Following.{ServiceMoves}
use Rattle.run_service_steps.proofs.Laws.{Laws}
use Rattle.run_service_steps.proofs.Printing.{print_stands}
use Rattle.run_service_steps.proofs.ServiceSteps.{AreFew, uncalled_stands}

pub laws : Laws
laws = record {
  matches_stay = matched-after;
  messages_come_in_order = comes-so;
  each_end_moves = each-moves;
  processes_go_on = phases-next;
  deaths_are_true = deaths-true;
  receives_are_told = receives-told;
}

pub moving : ServiceMoves
moving = record { moves = each-moves; consistent = consistent_after }

few-of : (count n : ℕ) (os : Owners) → HasRoom count n os → AreFew count (suc n) os
few-of count n os room i below = let r = room i below in omega (arith, r)

bytes-of : (c : Call) → HasBytes c → (e : EndId) (bytes : List ℕ) (xs : List EndId) → c ≡ call.Send e bytes xs → AreBytes bytes
bytes-of c has e bytes xs is = subst HasBytes is has

pub services : (version count : ℕ) → StepsKeep version count
services version count = record {
  uncalled = λ s made t n os deeds is room one un. uncalled_stands laws version count s made t one un (suc n) (suc n) os deeds is (few-of count n os room);
  first =
      λ s made t n i c os deeds below asks is room one first mine bytes.
      own_stands laws version count s made t one (suc n) (suc n) os deeds is (few-of count n os room) i below c asks (bytes-of c bytes) first;
  prints = λ s n i bytes os deeds below asks is room. print_stands version count s (suc n) (suc n) os deeds is (few-of count n os room) i below bytes asks;
}
