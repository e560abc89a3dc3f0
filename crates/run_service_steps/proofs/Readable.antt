-- The packet that a process sends is read back.
use Rattle.std.proofs.Common.{◌≡◌, ℕ, zero, suc, Option, Some, None, Ok, List, [], ◌∷◌, ◌++◌, length, subst}
use Rattle.std.specs.List.{AllByRecursion}
use Rattle.charlotte_calls.specs.Ranges.{AreBytes}
use Rattle.charlotte_calls.specs.declared.names.EndId.{EndId}
use Rattle.lynx_packets.specs.declared.packet.RtPacket.{RtPacket}
use Rattle.lynx_packets.specs.declared.packet.RtPacket.TheVariants as packets
use Rattle.lynx_packets.specs.declared.value.RtValue.{RtValue}
use Rattle.lynx_packets.specs.declared.value.RtValue.TheVariants as values
use Rattle.lynx_packets.specs.Packets.{packet_of}
use Rattle.lynx_packets.specs.Spelling.{number_text, spelling, value_text, values_text}
use Rattle.lynx_packets.proofs.Decoding.{reads_spelling}
use Rattle.end_protocol.specs.declared.messages.Message.{Message}
use Rattle.run_invariant.specs.Ends.{place_at}
use Rattle.run_invariant.specs.States.{Keeps, Place, State}
use Rattle.run_invariant.specs.Asking.{IsSending}
use Rattle.run_invariant.specs.ProcessSoundEnds.{IsHolding}
use Rattle.run_invariant.specs.Packets.{AreOfBytes, IsOfBytes, MaySend}
use Rattle.run_invariant.specs.Processes.{IsRunning}
use Rattle.run_invariant.proofs.Every.{every_at}

-- ---- bytes

bytes-front : (xs ys : List ℕ) → AreBytes (xs ++ ys) → AreBytes xs
bytes-front [] ys all = tt
bytes-front (x ∷ xs) ys all = (all.0, bytes-front xs ys all.1)

bytes-behind : (xs ys : List ℕ) → AreBytes (xs ++ ys) → AreBytes ys
bytes-behind [] ys all = all
bytes-behind (x ∷ xs) ys all = bytes-behind xs ys all.1

value-bytes : (v : RtValue) → AreBytes (value_text v) → IsOfBytes v
unfolding value_text
value-bytes (values.Text bytes) all = all.1.1
value-bytes _ all = tt

values-bytes : (vs : List RtValue) → AreBytes (values_text vs) → AllByRecursion IsOfBytes vs
values-bytes [] all = tt
values-bytes (v ∷ vs) all = (value-bytes v (bytes-front (value_text v) (values_text vs) all), values-bytes vs (bytes-behind (value_text v) (values_text vs) all))

packet-bytes : (p : RtPacket) → AreBytes (spelling p) → AreOfBytes p
unfolding spelling
packet-bytes (packets.Request n signature vs) all = values-bytes vs (bytes-behind (number_text n ++ length signature ∷ signature) (values_text vs) all.1)
packet-bytes (packets.Reply n status vs) all = values-bytes vs (bytes-behind (number_text n) (status ∷ values_text vs) all.1).1
packet-bytes _ all = tt

-- ---- the first packet of a queue

module _ (state : State) (e : EndId) (bytes : List ℕ) (xs : List EndId) (a : IsSending state e bytes xs) (running : IsRunning state) where
  may-send : MaySend state.version a.message.packet
  may-send = by a.number a.held
    where
      no-place : (p : Place) → ◌≡◌ {A = Option Place} None (Some p) → ⊥
      no-place p e = cc

      first : (q : List Message) → q ≡ a.message ∷ a.rest → AllByRecursion (λ m. MaySend state.version m.packet) q → MaySend state.version a.message.packet
      first q is all = (subst (AllByRecursion (λ m. MaySend state.version m.packet)) is all).0

      by : (n : ℕ) → place_at n state.places ≡ Some (record { end = e; holding = Keeps a.kept }) → MaySend state.version a.message.packet
      by zero at = absurd (no-place (record { end = e; holding = Keeps a.kept }) at)
      by (suc i) at =
          first a.kept.queue a.first
          (every_at (λ p. IsHolding state.version state.code state.turns p.holding) state.places i (record { end = e; holding = Keeps a.kept }) at running.going.ends.each).0.queue

  pub reads-back : AreBytes bytes → packet_of state.version bytes ≡ Ok a.message.packet
  reads-back all =
      reads_spelling state.version a.message.packet bytes
      (record { has = may-send.has; obeys = may-send.obeys (packet-bytes a.message.packet (subst AreBytes a.spelled all)); spelled = a.spelled })
