-- What the parts of a turn answer, put together.
use Rattle.std.proofs.Common.{◌≡◌, ◌≢◌, Result, Ok, Err, IfOk, arith, ℕ, ◌+◌, ◌<◌, Bool, false, Option, List, length, ap, sym, subst, ◌∙◌}
use Rattle.charlotte_calls.specs.declared.calls.Answer.{Answer as AnAnswer}
use Rattle.charlotte_calls.specs.declared.calls.Call.{Call}
use Rattle.charlotte_calls.specs.declared.names.EndId.{EndId}
use Rattle.charlotte_calls.specs.declared.names.Pid.{Pid}
use Rattle.charlotte_calls.specs.declared.program.Next.{Next}
use Rattle.charlotte_calls.specs.declared.program.Next.TheVariants as next
use Rattle.charlotte_packets.specs.Packets.{packet_picture}
use Rattle.charlotte_packets.specs.declared.packet.Packet.{Packet}
use Rattle.end_table.specs.Table.{entries}
use Rattle.kernel_entries.specs.declared.entry.Entry.{Entry}
use Rattle.kernel_core.specs.State.{KernelView}
use Rattle.kernel_net.proofs.Ports.{found-got}
use Rattle.kernel_net.specs.Letters.{greatest_stamp}
use Rattle.kernel_net.specs.Ports.{GetsOne, place_of}
use Rattle.kernel_net.specs.declared.letter.Letter.{Letter}
use Rattle.kernel_net.specs.declared.letter.Letter.TheVariants as letter
use Rattle.kernel_step.specs.Calls.{IsCallWith}
use Rattle.program_runs.specs.Local.{MakesCall, TakesPacket}
use Rattle.program_round.specs.Doings.{IsNextToGo}
use Rattle.program_round.specs.declared.programs.Programs.{Programs}
use Rattle.program_runs.specs.Replay.{IsNoCall}
use Rattle.kernel_turns.proofs.Turned.{node-ready, works-both, works-in_time}
use Rattle.kernel_turns.specs.Amid.{IsAmidTurn, IsSomeNode}
use Rattle.kernel_turns.specs.Events.{Happens}
use Rattle.kernel_turns.specs.Nodes.{Meaning}
use Rattle.kernel_turns.specs.Turns.{Asks, BeginsOnce, Continues, BeginsInTime, FindsLetter, GetsLetter, GetsMarker, HasTurns, Hears, IsLent, IsTurn, KeepsWork, NoLetter, Pauses, PutsLetters, SpendsTurns, StepsAt, TakesIt, Works, with_marker}
use Rattle.kernel_turns.specs.declared.base.Base.{Base}
use Rattle.kernel_turns.specs.declared.node.Node.{Node}
use Rattle.kernel_turns.specs.declared.node.Turn.{Turn}
use Rattle.kernel_turns.specs.declared.node.Turn.TheVariants as turn

module _ {P S W : Type 0} (m : Meaning P S) where
  pub took-continues : (n new : Node P W) (before : Base) (from : ℕ) (p : Packet) (put : Bool) (who : List Pid) → HasTurns before → GetsLetter from (letter.Packet p) before n.base
      → Happens (TakesPacket from (packet_picture p)) n.base new.base who → Hears who n.programs new.programs → new ≡ record n { base = new.base; programs = new.programs; watch = new.watch }
      → Continues m put turn.Event (record n { base = before }) new
  took-continues n new before from p put who turns gets happens hears rest =
      subst (Continues m put turn.Event (record n { base = before })) (sym rest) (TakesIt (record n { base = before }) from p n.base new.base who new.programs new.watch turns gets happens hears)

  pub marked-continues : (n new : Node P W) (before : Base) (from : ℕ) (put : Bool) → HasTurns before → GetsLetter from letter.Marker before n.base → BeginsOnce (with_marker from n.base) new.base
      → new ≡ record n { base = new.base } → Continues m put turn.Marked (record n { base = before }) new
  marked-continues n new before from put turns gets once rest =
      subst (Continues m put turn.Marked (record n { base = before })) (sym rest) (GetsMarker (record n { base = before }) from n.base new.base turns gets once)

  pub asked-continues : (n new : Node P W) (put : Bool) (place : ℕ) (p : Pid) (given : Option AnAnswer) (c : Call) (mine : List EndId) (stepped : Programs P) (who : List Pid) → HasTurns n.base → NoLetter n.base
      → IsNextToGo (length n.programs.all.items) n.programs.next n.programs.doing place → IsLent n place p given → StepsAt m place p given (next.Ask c) n.programs stepped
      → IsCallWith p (entries n.base.kernel.table) mine c → Happens (MakesCall p c mine) n.base new.base who → Hears who stepped new.programs
      → new ≡ record n { base = new.base; programs = new.programs; watch = new.watch } → Continues m put turn.Event n new
  asked-continues n new put place p given c mine stepped who turns silent next lent steps call happens hears rest =
      subst (Continues m put turn.Event n) (sym rest) (Asks n place p given c mine stepped new.programs new.base who new.watch turns silent next lent steps call happens hears)

  pub paused-continues : (n new : Node P W) (put : Bool) (place : ℕ) (p : Pid) (given : Option AnAnswer) (does : Next) (stepped : Programs P) → HasTurns n.base → NoLetter n.base
      → IsNextToGo (length n.programs.all.items) n.programs.next n.programs.doing place → IsLent n place p given → IsNoCall does → StepsAt m place p given does n.programs stepped
      → new ≡ record n { base = record n.base { used = n.base.used + 1 }; programs = stepped } → Continues m put turn.Paused n new
  paused-continues n new put place p given does stepped turns silent next lent none steps rest =
      subst (Continues m put turn.Paused n) (sym rest) (Pauses n place p given does stepped turns silent next lent none steps)

-- the letter of the kernel that was found is got
pub finds-gets : (from : ℕ) (l : Letter) (before found new : Base) → FindsLetter from before found → GetsOne from l found.port new.port → place_of new.port ≡ place_of found.port → new ≡ record found { port = new.port }
    → GetsLetter from l before new
finds-gets from l before found new finds gets place rest =
    record {
      got = found-got from l before.port found.port new.port finds.found gets;
      place = place ∙ finds.place;
      rest = rest ∙ ap (λ (b : Base). record b { port = new.port }) finds.rest;
    }

-- a packet, or a marker, among letters
pub got-as : (from : ℕ) (l l' : Letter) (old new : Base) → l ≡ l' → GetsLetter from l old new → GetsLetter from l' old new
got-as from l l' old new same gets = subst (λ x. GetsLetter from x old new) same gets

if-ok : {X E : Type 0} (r : Result X E) (A B : X → Type 0) → ((t : X) → A t → B t) → IfOk r A → IfOk r B
if-ok (Ok t) A B f a = f t a
if-ok (Err e) A B f a = tt

-- ---- a turn, once its letters were put

module _ {P S W : Type 0} (m : Meaning P S) (HasSeen : W → List Entry → Type 0) (n new : Node P W) (begun ready : Base) (put : Bool) (one : IsSomeNode m HasSeen n) (whole : n.spoiled ≡ false)
    (early : n.base.kernel.stamp < greatest_stamp) (time : BeginsInTime n.base begun) (puts : PutsLetters put begun ready) where
  pub turn-spent : ready.used ≡ ready.orders.limit → IsTurn m turn.Spent n (record n { base = ready })
  turn-spent used = Works n begun ready put turn.Spent (record n { base = ready }) early time puts (SpendsTurns (record n { base = ready }) used)

  pub amid-ready : ready.used ≢ ready.orders.limit → IsAmidTurn m HasSeen (record n { base = ready })
  amid-ready left =
      let node = node-ready m one.setting one.kernel one.first HasSeen one.made n begun ready put time puts whole one.node in
      let kept : KeepsWork n.base ready = works-both n.base begun ready (works-in_time n.base begun time) puts.kept in
      record {
        some = record { setting = one.setting; kernel = one.kernel; first = one.first; made = one.made; valid = one.valid; node = node };
        unspoiled = whole;
        early = subst (λ (v : KernelView). v.stamp < greatest_stamp) (sym kept.kernel) early;
        turns = grind (arith, left, node.limit);
        unsent = puts.unsent;
      }

  pub amid-same : (base : Base) → base ≡ ready → ready.used ≢ ready.orders.limit → IsAmidTurn m HasSeen (record n { base = base })
  amid-same base same left = subst (λ b. IsAmidTurn m HasSeen (record n { base = b })) (sym same) (amid-ready left)

  pub turn-heard : {E : Type 0} (r : Result Turn E) (from : ℕ) (found : Base) → ready.used ≢ ready.orders.limit → FindsLetter from ready found
      → IfOk r (λ t. (before : Base) (put' : Bool) → IsAmidTurn m HasSeen (record n { base = before }) → FindsLetter from before found → Continues m put' t (record n { base = before }) new) → IfOk r (λ t. IsTurn m t n new)
  turn-heard r from found left finds heard =
      if-ok r (λ t. (before : Base) (put' : Bool) → IsAmidTurn m HasSeen (record n { base = before }) → FindsLetter from before found → Continues m put' t (record n { base = before }) new) (λ t. IsTurn m t n new)
      (λ t goes. Works n begun ready put t new early time puts (goes ready put (amid-ready left) finds)) heard

  pub turn-went : {E : Type 0} (r : Result Turn E) (base : Base) → base ≡ ready → IfOk r (λ t. Continues m put t (record n { base = base }) new) → IfOk r (λ t. IsTurn m t n new)
  turn-went r base same went =
      if-ok r (λ t. Continues m put t (record n { base = base }) new) (λ t. IsTurn m t n new)
      (λ t goes. Works n begun ready put t new early time puts (subst (λ b. Continues m put t (record n { base = b }) new) same goes)) went
