-- An event of a kernel leaves a table that names only kernels that are there, and sends its packets to such.
use Rattle.std.proofs.Common.{◌≡◌, ℕ, ◌<◌, List, map, Result, Ok, Err, IfOk, OnErr, sym, subst}
use Rattle.std.proofs.lemmas.List.{get_or-map, length-map}
use Rattle.charlotte_calls.specs.declared.calls.Call.{Call}
use Rattle.charlotte_calls.specs.declared.names.EndId.{EndId}
use Rattle.charlotte_calls.specs.declared.names.Pid.{Pid}
use Rattle.charlotte_packets.specs.declared.packet.Packet.{Packet}
use Rattle.charlotte_packets.specs.declared.picture.Picture.{Picture}
use Rattle.charlotte_packets.specs.declared.work.Effect.{Effect}
use Rattle.end_table.specs.Table.{entries}
use Rattle.kernel_core.specs.State.{KernelView, state_of}
use Rattle.kernel_named.proofs.Steps.{GivesWithin, call_step-within, take_step-within}
use Rattle.kernel_named.specs.Named.{AreSentWithin, GoWithin, IsSentWithin, TableNamesBelow}
use Rattle.kernel_process.specs.Parts.{ended}
use Rattle.kernel_step.specs.Calls.{IsCallWith}
use Rattle.kernel_step.specs.Kernel.{Kernel, Outcome, call_step, take_step}
use Rattle.kernel_step.specs.Progress.{sent_picture}

-- packets as an effect has them
go-within : (n : ℕ) (sent : List (ℕ × Packet)) → AreSentWithin n (map sent_picture sent) → GoWithin n sent
go-within n sent are i d below =
    subst (λ (s : ℕ × Picture). IsSentWithin n s.0 s.1.what) (get_or-map sent_picture sent i d (sent_picture d) below)
    (are i (sent_picture d) (subst (λ m. i < m) (sym (length-map sent sent_picture)) below))

-- by the outcome of an event
outcome-names : (n k : ℕ) (after : KernelView) (effect : Effect) (o : Outcome) → ended (state_of after) effect ≡ o → GivesWithin n k o → TableNamesBelow n (entries after.table)
unfolding state_of ended
outcome-names n k after effect o is gives = subst (λ (x : Outcome). TableNamesBelow n x.kernel.table) (sym is) gives.table

outcome-goes : (n k : ℕ) (s : Kernel) (effect : Effect) (o : Outcome) → ended s effect ≡ o → GivesWithin n k o → GoWithin n effect.packets.items
unfolding ended
outcome-goes n k s effect o is gives = go-within n effect.packets.items (subst (λ (x : Outcome). AreSentWithin n x.packets) (sym is) gives.packets)

same-names : (n : ℕ) (s after : KernelView) → state_of after ≡ state_of s → TableNamesBelow n (entries s.table) → TableNamesBelow n (entries after.table)
unfolding state_of
same-names n s after same names = subst (λ (x : Kernel). TableNamesBelow n x.table) (sym same) names

-- of as many kernels
pub goes-still : {E : Type 0} (m n : ℕ) (r : Result Effect E) → m ≡ n → IfOk r (λ effect. GoWithin m effect.packets.items) → IfOk r (λ effect. GoWithin n effect.packets.items)
goes-still m n r same goes = subst (λ k. IfOk r (λ effect. GoWithin k effect.packets.items)) same goes

-- the number of a kernel is one of theirs, and its table names no other
abbrev pub IsThere : KernelView → Type 0
IsThere v = (v.table.kernel < v.kernels) × TableNamesBelow v.kernels (entries v.table)

-- v is the kernel before the event, which contracts see as s
module _ (v s after : KernelView) (is : v ≡ s) (there : IsThere v) where
  before : IsThere s
  before = subst IsThere is there

  to-names : TableNamesBelow s.kernels (entries after.table) → TableNamesBelow v.kernels (entries after.table)
  to-names = subst (λ (x : KernelView). TableNamesBelow x.kernels (entries after.table)) (sym is)

  to-goes : (sent : List (ℕ × Packet)) → GoWithin s.kernels sent → GoWithin v.kernels sent
  to-goes sent = subst (λ (x : KernelView). GoWithin x.kernels sent) (sym is)

  -- a call
  call-gives : (p : Pid) (mine : List EndId) (c : Call) → GivesWithin s.kernels s.table.kernel (call_step (state_of s) p mine c)
  unfolding state_of
  call-gives p mine c = call_step-within (state_of s) before.0 before.1 p mine c

  pub call-names : {E : Type 0} (r : Result Effect E) (p : Pid) (c : Call)
      → IfOk r (λ effect. (mine : List EndId) × IsCallWith p (entries s.table) mine c × (ended (state_of after) effect ≡ call_step (state_of s) p mine c)) → OnErr r (state_of after ≡ state_of s)
      → TableNamesBelow v.kernels (entries after.table)
  call-names (Ok effect) p c step same = to-names (outcome-names s.kernels s.table.kernel after effect (call_step (state_of s) p step.0 c) step.2 (call-gives p step.0 c))
  call-names (Err e) p c step same = to-names (same-names s.kernels s after same before.1)

  pub call-goes : {E : Type 0} (r : Result Effect E) (p : Pid) (c : Call)
      → IfOk r (λ effect. (mine : List EndId) × IsCallWith p (entries s.table) mine c × (ended (state_of after) effect ≡ call_step (state_of s) p mine c)) → IfOk r (λ effect. GoWithin v.kernels effect.packets.items)
  call-goes (Ok effect) p c step = to-goes effect.packets.items (outcome-goes s.kernels s.table.kernel (state_of after) effect (call_step (state_of s) p step.0 c) step.2 (call-gives p step.0 c))
  call-goes (Err e) p c step = tt

  -- a packet
  take-gives : (from : ℕ) (q : Picture) → from < s.kernels → GivesWithin s.kernels s.table.kernel (take_step (state_of s) from q)
  unfolding state_of
  take-gives from q sender = take_step-within (state_of s) from q before.0 sender before.1

  pub take-names : {E : Type 0} (r : Result Effect E) (from : ℕ) (q : Picture) → from < s.kernels → IfOk r (λ effect. ended (state_of after) effect ≡ take_step (state_of s) from q) → OnErr r (state_of after ≡ state_of s)
      → TableNamesBelow v.kernels (entries after.table)
  take-names (Ok effect) from q sender step same = to-names (outcome-names s.kernels s.table.kernel after effect (take_step (state_of s) from q) step (take-gives from q sender))
  take-names (Err e) from q sender step same = to-names (same-names s.kernels s after same before.1)

  pub take-goes : {E : Type 0} (r : Result Effect E) (from : ℕ) (q : Picture) → from < s.kernels → IfOk r (λ effect. ended (state_of after) effect ≡ take_step (state_of s) from q) → IfOk r (λ effect. GoWithin v.kernels effect.packets.items)
  take-goes (Ok effect) from q sender step = to-goes effect.packets.items (outcome-goes s.kernels s.table.kernel (state_of after) effect (take_step (state_of s) from q) step (take-gives from q sender))
  take-goes (Err e) from q sender step = tt
