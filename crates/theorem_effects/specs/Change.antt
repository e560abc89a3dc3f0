-- What an event does in a world, as plain data, and that it did so.
use Rattle.std.specs.Prelude.{◌≡◌, ℕ, false, nat_eq, if◌then◌else◌, List, [], ◌∷◌, ◌++◌, map, Option, None, Some}
use Rattle.charlotte_calls.specs.declared.calls.ServiceStep.{ServiceStep}
use Rattle.charlotte_calls.specs.declared.names.EndId.{EndId}
use Rattle.charlotte_calls.specs.declared.names.Pid.{Pid}
use Rattle.charlotte_packets.specs.declared.picture.Picture.{Picture}
use Rattle.charlotte_packets.specs.declared.picture.PictureWhat.{PictureWhat}
use Rattle.end_table.specs.declared.entry.Entry.{Entry}
use Rattle.kernel_effects.specs.Effect.{stamped}
use Rattle.kernel_step.specs.Kernel.{Process}
use Rattle.kernel_world.specs.World.{World, Event, happens, outcome, to_kernel}
use Rattle.theorem_meaning.specs.Packets.{Links, links_of}

-- what an event does
pub record Change : Type 0 where
  -- the kernel at which it happens
  pub kernel : ℕ
  -- the packet that it takes, if it takes one, with the kernel that sent it
  pub taken : Option (ℕ × Picture)
  -- the entry of an end afterwards, by its entry before
  pub entry : EndId → Entry → Entry
  -- the packets sent, each with the kernel that it goes to
  pub packets : List (ℕ × PictureWhat)
  -- its stamp
  pub stamp : ℕ
  -- how many links the kernel has made afterwards
  pub made : ℕ
  -- the one process that it may change, and what the kernel keeps of it afterwards
  pub pid : Pid
  pub process : Process
  -- the processes for which an answer came to stand
  pub answered : List Pid
  -- what it means to the link service
  pub steps : List ServiceStep

-- the packets that it takes from a kernel
abbrev pub taken_from : Option (ℕ × Picture) → ℕ → List Picture
taken_from None from = []
taken_from (Some t) from = if nat_eq from t.0 then t.1 ∷ [] else []

-- those of the packets from one kernel to another that it takes
abbrev pub taken_at : Change → ℕ → ℕ → List Picture
taken_at c from to = if nat_eq to c.kernel then taken_from c.taken from else []

-- the packets that it sends from one kernel to another
abbrev pub sent_at : Change → ℕ → ℕ → List Picture
sent_at c from to = if nat_eq from c.kernel then to_kernel to (map (stamped c.stamp) c.packets) else []

-- by an event that does this links become others
pub record Changes (w : Links) (c : Change) (u : Links) : Type 0 where
  -- entries at its kernel, and at others, where all stay
  pub entry : (e : EndId) → u.entry c.kernel e ≡ c.entry e (w.entry c.kernel e)
  pub others : (j : ℕ) (e : EndId) → nat_eq j c.kernel ≡ false → u.entry j e ≡ w.entry j e
  -- what stays in each list: before it stands what is taken, and behind it comes what is sent
  pub left : ℕ → ℕ → List Picture
  pub before : (from to : ℕ) → w.packets from to ≡ taken_at c from to ++ left from to
  pub after : (from to : ℕ) → u.packets from to ≡ left from to ++ sent_at c from to

-- and a world becomes another
pub record Becomes (w : World) (c : Change) (u : World) : Type 0 where
  pub links : Changes (links_of w) c (links_of u)
  -- its kernel
  pub process : (q : ℕ) → (u.kernel c.kernel).process q ≡ (if nat_eq c.pid.0 q then c.process else (w.kernel c.kernel).process q)
  pub stamp : (u.kernel c.kernel).stamp ≡ c.stamp
  pub made : (u.kernel c.kernel).made ≡ c.made
  pub number : (u.kernel c.kernel).number ≡ (w.kernel c.kernel).number
  pub kernels : (u.kernel c.kernel).kernels ≡ (w.kernel c.kernel).kernels
  pub version : (u.kernel c.kernel).version ≡ (w.kernel c.kernel).version
  -- other kernels stay as they were
  pub others : (j : ℕ) → nat_eq j c.kernel ≡ false → u.kernel j ≡ w.kernel j

-- an event does this
pub record Happens (w : World) (e : Event) (c : Change) : Type 0 where
  pub becomes : Becomes w c (happens w e)
  pub steps : (outcome w e).steps ≡ c.steps
  pub answered : (outcome w e).answered ≡ c.answered
