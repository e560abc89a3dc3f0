-- The ends that the requests and replies of a run carry are where they should be.
use Rattle.std.proofs.Common.{arith, ◌≡◌, ℕ, suc, ◌+◌, ◌^◌, ◌≤◌, List, [], ◌∷◌, length, take, All, sym, ap, subst, refl, ◌∙◌}
use Rattle.charlotte_calls.specs.Setting.{IsValid}
use Rattle.charlotte_calls.specs.declared.calls.ServiceStep.{ServiceStep}
use Rattle.charlotte_calls.specs.declared.setting.Setting.{Setting}
use Rattle.charlotte_calls.specs.declared.names.EndId.{EndId}
use Rattle.end_protocol.specs.Deeds.{Deed}
use Rattle.lost_ends.specs.Hearing.{owners}
use Rattle.kernel_entries.specs.Ranges.{IsPlacedInRange}
use Rattle.kernel_entries.specs.declared.entry.Placed.{Placed}
use Rattle.service_lawful.proofs.History.{state_after-append}
use Rattle.service_step.specs.Run.{start_state, state_after}
use Rattle.service_step.specs.State.{State as Service}
use Rattle.lost_ends.specs.Law.{joined}
use Rattle.lost_ends.specs.Record.{IsLawfulRecord}
use Rattle.lost_ends.proofs.Entries.{entries-have_steps}
use Rattle.lost_ends.specs.Acting.{Done, Program, at_start}
use Rattle.lost_ends.specs.Claims.{AreCarried, States}
use Rattle.lost_ends.specs.Acted.{AreActed, deeds_of}
use Rattle.lost_ends.specs.Claimed.{states_of}
use Rattle.lost_ends.specs.Stopped.{AreFollowedSo}
use Rattle.carried_ends.proofs.ArrivedAlong.{AreStates, Arrives, IsArriving, arrives}
use Rattle.lost_ends.proofs.Along.{start-so}
use Rattle.carried_ends.proofs.UnderWayIssuers.{Closed}
use Rattle.carried_ends.proofs.UnderWayRun.{under-way-at}
use Rattle.lost_ends.proofs.FollowedLinksEntries.{StepsKeep}
use Rattle.lost_ends.proofs.Following.{IsFollowing, ProcessesKeep, ServiceMoves}

-- the states after so many entries are those of the parts
states-are : (states : States) (n : ℕ) (s : Service) (parts : List (List (ServiceStep × Service))) → ((m : ℕ) → states (n + m) ≡ state_after s (joined (take m parts))) → AreStates states n s parts
states-are states n s [] each = ap states (let e : n ≡ n + 0 = omega arith in e) ∙ each 0
states-are states n s (part ∷ parts) each = (
  ap states (let e : n ≡ n + 0 = omega arith in e) ∙ each 0,
  states-are states (suc n) (state_after s part) parts
      (λ m. ap states (let e : suc n + m ≡ n + suc m = omega arith in e) ∙ each (suc m) ∙ state_after-append s part (joined (take m parts))),
)

module _ (g : Setting) (services : StepsKeep g.version (length g.homes)) (processes : ProcessesKeep g.version (length g.homes)) (moving : ServiceMoves) (programs : ℕ → Program) (merged : List Placed) (steps : ℕ → ℕ)
    (lawful : IsLawfulRecord g merged) (valid : IsValid g) (range : All IsPlacedInRange merged) (few : length merged ≤ 2 ^ 28)
    (begins : IsFollowing g.version (length g.homes) (start_state g) 0 (at_start g.version programs) []) (at_rest : begins.deeds ≡ (λ x. [])) (acted : AreActed g programs merged steps) where
  abbrev states : States
  states = states_of g merged lawful

  abbrev all : List Done
  all = deeds_of g programs merged steps acted

  start-arrives : IsArriving g.version (length g.homes) states (start_state g) 0 (at_start g.version programs) []
  start-arrives = record { following = begins; got = λ i. tt; issued = λ x. Closed (omega arith); so = starts; early = tt; arrived = tt }
    where
      starts : AreFollowedSo g.version (start_state g) (owners (at_start g.version programs)) begins.deeds
      starts = subst (λ (all : EndId → List Deed). AreFollowedSo g.version (start_state g) (owners (at_start g.version programs)) all) (sym at_rest) (start-so g programs)

  pub all-arrive : Arrives g.version (length g.homes) states 0 (length merged) all
  all-arrive =
      arrives g g.version (length g.homes) refl services processes moving states acted.acts (length merged) (omega arith) (start_state g) lawful.lawfully.served.parts []
      (entries-have_steps g merged valid lawful) (states-are states 0 (start_state g) lawful.lawfully.served.parts (λ m. ap states (let e : 0 + m ≡ m = omega arith in e))) range few
      (λ i above. acted.idle i above) start-arrives

  -- the claim on the ends that are carried
  pub carried : AreCarried states (length merged) all
  carried = record {
    arrived = all-arrive.arrived;
    under_way = λ before d behind n is few_entries under. under-way-at g.version (length g.homes) states all n (all-arrive.seen n (omega arith) few_entries) before d behind is under;
  }
