-- A parcel without ends meets the receive that it is for: the receive is over, and the message was taken, which a taken tells its sender.
use Rattle.std.specs.Prelude.{◌≡◌, ℕ, ◌≤◌, ◌⊎◌, false, true, List, [], ◌∷◌, None, Some, length}
use Rattle.charlotte_calls.specs.Names.{opposite}
use Rattle.charlotte_calls.specs.declared.names.EndId.{EndId}
use Rattle.charlotte_calls.specs.declared.names.Pid.{Pid}
use Rattle.charlotte_packets.specs.declared.picture.Picture.{Picture}
use Rattle.charlotte_packets.specs.declared.picture.PictureWhat.TheVariants as packet
use Rattle.end_table.specs.Place.{end_eq}
use Rattle.end_table.specs.declared.entry.Entry.TheVariants as entry
use Rattle.end_table.specs.declared.entry.HereView.{HereView}
use Rattle.end_table.specs.declared.entry.Inward.{Inward as KernelInward}
use Rattle.kernel_effects.specs.Effect.{stays}
use Rattle.service_step.specs.Ends.{is_made}
use Rattle.service_step.specs.State.{Process, State}
use Rattle.service_step.specs.declared.state.End.{End}
use Rattle.service_step.specs.declared.state.Inward.{Inward}
use Rattle.service_step.specs.declared.state.Outward.TheVariants as outward
use Rattle.service_step.specs.declared.state.Phase.TheVariants as phase
use Rattle.service_step.specs.declared.state.Place.TheVariants as place
use Rattle.theorem_take_want.specs.Change.{Change, Changes}
use Rattle.theorem_meaning.specs.Fields.{IsAskedAs}
use Rattle.theorem_meaning.specs.Invariant.{AreRight}
use Rattle.theorem_meaning.specs.Packets.{Links}
use Rattle.theorem_meaning.specs.StandsFor.{AreLinksOf, IsInwardOf, home_of}

-- the parcel with the message n, for the receive r of this end
abbrev pub bare_parcel : ℕ → EndId → ℕ → ℕ → ℕ → ℕ → List ℕ → Picture
bare_parcel stamp to n r at hops bytes = record { stamp = stamp; what = packet.Parcel to n r at hops bytes [] }

-- an event takes it where its end, whose view is o, is here and owned by p, and has started that receive; all is true of the links that is
-- true after i events
pub record IsReceiving (i : ℕ) {w v : Links} {c : Change} (b : Changes w c v) (from stamp : ℕ) (s : State) (to : EndId) (n r at hops : ℕ)
    (bytes : List ℕ) (p : Pid) (o : HereView) : Type 0 where
  pub taken : c.taken ≡ Some (from, bare_parcel stamp to n r at hops bytes)
  pub right : AreRight i w s
  pub links : AreLinksOf w s
  pub few : length s.made ≤ 8
  pub here : w.entry c.kernel to ≡ entry.Here o
  pub asked : IsAskedAs r o.inward
  pub owned : (s.ends to).place ≡ place.Owned p
  pub home : home_of s p ≡ c.kernel
  pub unnoticed : (s.ends to).noticed ≡ false
  pub both : is_made (s.ends (opposite to)).place ≡ true

-- the taken that is sent, as the part of the event that takes no packet
abbrev pub answering : Change → EndId → ℕ → ℕ → HereView → Change
answering c to n at o = record c { taken = None; entry = stays; packets = (at, packet.Taken (opposite to) n c.kernel o.value.hops) ∷ [] }

-- the ends and the processes of the service then: the receive is over at its kernel and in the service
pub record IsReceived (s : State) (to : EndId) (inn : KernelInward) (xi : Inward) (t : EndId → End) (g : ℕ → Process) : Type 0 where
  pub at : t to ≡ record (s.ends to) { inward = xi }
  pub sender : t (opposite to) ≡ record (s.ends (opposite to)) { outward = outward.Taken }
  pub others : (e : EndId) → end_eq to e ≡ false → end_eq (opposite to) e ≡ false → t e ≡ s.ends e
  pub over : (a : ℕ) → IsAskedAs a inn → ⊥
  pub agree : (x : Links) → IsInwardOf x to inn xi
  pub cancelled : (b : Pid) (e : EndId) → (s.process b.0).phase ≡ phase.Cancelling e → ((g b.0).phase ≡ phase.Cancelling e) ⊎ (e ≡ to)
  pub cancelling : (b : Pid) (e : EndId) → (g b.0).phase ≡ phase.Cancelling e → ((s.process b.0).phase ≡ phase.Cancelling e) × (e ≡ to → ⊥)
