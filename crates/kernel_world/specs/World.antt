-- Several kernels together.
use Rattle.std.specs.Prelude.{ℕ, Bool, false, nat_eq, ◌&&◌, List, [], ◌∷◌, ◌++◌, map, if◌then◌else◌}
use Rattle.std.specs.List.{fold, filter}
use Rattle.charlotte_calls.specs.declared.calls.Call.{Call}
use Rattle.charlotte_calls.specs.declared.names.EndId.{EndId}
use Rattle.charlotte_calls.specs.declared.names.Pid.{Pid}
use Rattle.charlotte_packets.specs.declared.picture.Picture.{Picture}
use Rattle.charlotte_packets.specs.declared.picture.PictureWhat.TheVariants.{GoneSeen}
use Rattle.charlotte_calls.specs.declared.setting.Setting.{Setting}
use Rattle.kernel_step.specs.Calls.{made_end}
use Rattle.kernel_step.specs.Kernel.{Kernel, Outcome, call_step, take_step, without_answer}
use Rattle.kernel_step.specs.Start.{start_kernel}
use Rattle.kernel_entries.specs.declared.entry.Happened.TheVariants.{Asked, Took}
use Rattle.kernel_entries.specs.declared.entry.Happened.{Happened}
use Rattle.kernel_entries.specs.declared.entry.Placed.{Placed}

-- a state of each kernel, and for each ordered pair of kernels the packets that the first sent and the second has not taken, oldest first
pub record World : Type 0 where
  pub kernel : ℕ → Kernel
  pub packets : ℕ → ℕ → List Picture

-- what may happen next
pub data Event : Type 0 where
  -- process p makes a call at kernel k; mine are the ends that it owns, in order
  Calls : (k : ℕ) → (p : Pid) → (c : Call) → (mine : List EndId) → Event
  -- kernel k takes the first packet that comes from a kernel
  Takes : (k from : ℕ) → Event

-- the kernel of an event
abbrev pub kernel_of : Event → ℕ
kernel_of (Calls k p c mine) = k
kernel_of (Takes k from) = k

-- what kernel s gives as it takes the first of these packets from a kernel
abbrev pub takes_first : Kernel → ℕ → List Picture → Outcome
takes_first s from [] = record { kernel = s; packets = []; answered = []; steps = [] }
takes_first s from (p ∷ ps) = take_step s from p

-- where no packet is; it stands in no entry of an allowed event
abbrev pub nothing_sent : Picture
nothing_sent = record { stamp = 0; what = GoneSeen (made_end 0 0) }

-- the first of these packets, of which there is one where the taking is allowed
abbrev pub first_or : Picture → List Picture → Picture
first_or p [] = p
first_or p (q ∷ qs) = q

-- what an event gives
abbrev pub outcome : World → Event → Outcome
outcome w (Calls k p c mine) = call_step (without_answer p (w.kernel k)) p mine c
outcome w (Takes k from) = takes_first (w.kernel k) from (w.packets from k)

-- the packets without the first of those from one kernel to another
abbrev pub rest : List Picture → List Picture
rest [] = []
rest (p ∷ ps) = ps

abbrev pub removes : Event → (ℕ → ℕ → List Picture) → (ℕ → ℕ → List Picture)
removes (Calls k p c mine) ps from to = ps from to
removes (Takes k j) ps from to = if nat_eq from j && nat_eq to k then rest (ps from to) else ps from to

-- a packet from kernel k goes to the end of its list
abbrev pub adds : ℕ → ℕ × Picture → (ℕ → ℕ → List Picture) → (ℕ → ℕ → List Picture)
adds k sent ps from to = if nat_eq from k && nat_eq to sent.0 then ps from to ++ sent.1 ∷ [] else ps from to

abbrev pub adds_all : ℕ → List (ℕ × Picture) → (ℕ → ℕ → List Picture) → (ℕ → ℕ → List Picture)
adds_all k sent ps = fold (λ so_far s. adds k s so_far) ps sent

-- the world after an event
abbrev pub happens : World → Event → World
happens w e =
    let o = outcome w e in
    record {
      kernel = λ q. if nat_eq q (kernel_of e) then o.kernel else w.kernel q;
      packets = adds_all (kernel_of e) o.packets (removes e w.packets);
    }

-- ---- the packets after an event, list by list

-- those of these packets that go to a kernel, in order
abbrev pub to_kernel : ℕ → List (ℕ × Picture) → List Picture
to_kernel to sent = map (λ s. s.1) (filter (λ s. nat_eq to s.0) sent)

-- whether an event takes a packet that goes from one kernel to another
abbrev pub takes_at : Event → ℕ → ℕ → Bool
takes_at (Calls k p c mine) from to = false
takes_at (Takes k j) from to = nat_eq from j && nat_eq to k

-- what it leaves there
abbrev pub left_at : World → Event → ℕ → ℕ → List Picture
left_at w e from to = if takes_at e from to then rest (w.packets from to) else w.packets from to

-- what it sends from one kernel to another
abbrev pub sends_at : World → Event → ℕ → ℕ → List Picture
sends_at w e from to = if nat_eq from (kernel_of e) then to_kernel to (outcome w e).packets else []

-- the list without its first where that was taken, and then what was sent there
abbrev pub packets_after : World → Event → ℕ → ℕ → List Picture
packets_after w e from to = left_at w e from to ++ sends_at w e from to

-- ---- what is noted

-- what an event is noted as: a packet is noted as it was sent
abbrev pub asked_or_took : World → Event → Happened
asked_or_took w (Calls k p c mine) = Asked p c
asked_or_took w (Takes k from) = Took from (first_or nothing_sent (w.packets from k))

-- the entry of an event
abbrev pub noted_as : World → Event → Placed
noted_as w e =
    let o = outcome w e in
    record { kernel = kernel_of e; entry = record { stamp = o.kernel.stamp; what = asked_or_took w e; steps = o.steps } }

-- the world after a list of events
abbrev pub after : World → List Event → World
after w [] = w
after w (e ∷ es) = after (happens w e) es

-- their entries, in order
abbrev pub noted : World → List Event → List Placed
noted w [] = []
noted w (e ∷ es) = noted_as w e ∷ noted (happens w e) es

-- the world with which a run of a setting starts
abbrev pub start : Setting → World
start s = record { kernel = start_kernel s; packets = λ _ _. [] }
