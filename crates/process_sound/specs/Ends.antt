-- What holds of what is kept for ends.
use Rattle.std.specs.Prelude.{◌≡◌, ℕ, ◌+◌, ◌≤◌, ◌⊎◌, List, [], ◌∷◌, ◌++◌, map, true, Option, None, Some, IfSome, slice_get, ⊤}
use Rattle.std.specs.List.{AllByRecursion}
use Rattle.charlotte_calls.specs.Ranges.{IsU32}
use Rattle.lynx_tree.specs.Trees.{OpTree}
use Rattle.lynx_packets.specs.Spelling.{IsRequestOf, IsValue}
use Rattle.lynx_meaning.specs.Needs.{Results, Arguments, types_of}
use Rattle.machine_sound.specs.Sound.{one_if, times}
use Rattle.machine_turns.specs.Turns.{Turns, is_ready_after}
use Rattle.end_protocol.specs.declared.kept.Accept.{Accept}
use Rattle.end_protocol.specs.declared.kept.Kept.{Kept}
use Rattle.end_protocol.specs.declared.kept.Response.{Response}
use Rattle.end_protocol.specs.declared.kept.Taker.{Taker}
use Rattle.end_protocol.specs.declared.kept.Taker.TheVariants as takers
use Rattle.end_protocol.specs.declared.kept.Wanted.{Wanted as Coming}
use Rattle.end_protocol.specs.declared.messages.Connect.{Connect}
use Rattle.end_protocol.specs.Falling.{outstanding_thread}
use Rattle.end_protocol.specs.Hearing.{have_types}
use Rattle.process_run.specs.States.{Holding, Keeps, Gone, Module, Place}
use Rattle.process_run.specs.Actions.{served}
use Rattle.process_sound.specs.Machine.{asks}
use Rattle.process_sound.specs.Packets.{MayAsk, MaySend}

-- ---- what is kept for an end, whatever its threads do

pub record IsConnect (c : Connect) : Type 0 where
  pub number : IsU32 c.number
  -- its request may be sent, and sent again
  pub sends : MayAsk c.signature c.values

-- the thread accepts requests of the signature
abbrev pub IsAmong : ℕ → List ℕ → List Accept → Type 0
IsAmong thread signature [] = ⊥
IsAmong thread signature (a ∷ as') = ((a.thread ≡ thread) × (a.signature ≡ signature)) ⊎ IsAmong thread signature as'

-- who takes a request serves its signature
abbrev pub IsTaker : Module → List Accept → List ℕ → Taker → Type 0
IsTaker m accepts signature (takers.Thread thread) = IsAmong thread signature accepts
IsTaker m accepts signature (takers.Entry entry) = served m entry ≡ Some signature

-- a request that is wanted, of which ends may be still to come
pub record IsComing (m : Module) (accepts : List Accept) (w : Coming) : Type 0 where
  pub number : IsU32 w.number
  pub each : AllByRecursion IsValue w.values
  pub op : OpTree
  pub request : IsRequestOf op w.signature w.values
  pub taker : IsTaker m accepts w.signature w.by

-- a reply to the request that is outstanding: one that is done has its results
abbrev pub IsReply : Response → Option Connect → Type 0
IsReply r None = ⊥
IsReply r (Some c) = AllByRecursion IsValue r.values × (r.status ≡ 0 → have_types r.values c.results ≡ true)

-- in this version, with this code
pub record IsKept (version : ℕ) (m : Module) (k : Kept) : Type 0 where
  pub queue : AllByRecursion (λ message. MaySend version message.packet) k.queue
  pub last : IsU32 k.last
  pub outstanding : IfSome k.outstanding IsConnect
  pub behind : AllByRecursion IsConnect k.behind
  pub owed : IfSome k.owed IsU32
  pub forbade : IfSome k.forbade (λ f. IsU32 f.number)
  pub request : IfSome k.request (IsComing m k.accepts)
  pub reply : IfSome k.reply (λ r. IsReply r k.outstanding)
  pub bindings : AllByRecursion (λ b. served m b.entry ≡ Some b.signature) k.bindings

-- ---- threads that wait at an end

-- the thread asks for the results of an operation, and these are their types
abbrev pub IsConnecting : Module → Turns → Connect → Type 0
IsConnecting m t c =
    (op : ℕ) × (asks c.thread t ≡ Some (Results op)) × (c.results ≡ types_of (λ o. o.results) (slice_get m.types.ops op))

-- the thread asks for the arguments of an operation, and this is its signature
abbrev pub IsAccepting : Module → Turns → Accept → Type 0
IsAccepting m t a = (op : ℕ) × (asks a.thread t ≡ Some (Arguments op)) × (slice_get m.signatures op ≡ Some a.signature)

pub record AreWaiting (m : Module) (t : Turns) (k : Kept) : Type 0 where
  pub outstanding : IfSome k.outstanding (IsConnecting m t)
  pub behind : AllByRecursion (IsConnecting m t) k.behind
  pub accepts : AllByRecursion (IsAccepting m t) k.accepts

-- these threads, which are those that fall with the end
abbrev pub waiting : Kept → List ℕ
waiting k = outstanding_thread k.outstanding ++ map (λ c. c.thread) k.behind ++ map (λ a. a.thread) k.accepts

-- ---- all ends

abbrev pub IsHolding : ℕ → Module → Turns → Holding → Type 0
IsHolding version m t (Keeps k) = IsKept version m k × AreWaiting m t k
IsHolding version m t (Gone own) = ⊤

abbrev pub waiting_in : Holding → List ℕ
waiting_in (Keeps k) = waiting k
waiting_in (Gone own) = []

-- how often a thread waits at an end
abbrev pub waits : ℕ → List Place → ℕ
waits n [] = 0
waits n (p ∷ ps) = times n (waiting_in p.holding) + waits n ps

-- The ends of a process, while these threads wait at none any more and are still to have their outcome: no thread waits twice, or waits
-- though it asks for nothing that it has to wait for.
pub record AreEnds (version : ℕ) (m : Module) (t : Turns) (owed : List ℕ) (ps : List Place) : Type 0 where
  pub each : AllByRecursion (λ p. IsHolding version m t p.holding) ps
  pub once : (n : ℕ) → waits n ps + times n owed ≤ one_if (is_ready_after (asks n t))
