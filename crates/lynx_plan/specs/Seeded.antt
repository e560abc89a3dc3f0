-- The script of a seed: calls that are drawn, on a ring of eight processes on four kernels.
use Rattle.std.specs.Prelude.{ℕ, zero, suc, ◌+◌, ◌/◌, ◌%◌, ◌==◌, nat_lt, if◌then◌else◌, List, [], ◌∷◌, ◌++◌}
use Rattle.charlotte_calls.specs.declared.names.Pid.{Pid}
use Rattle.charlotte_calls.specs.declared.names.EndId.{EndId}
use Rattle.charlotte_calls.specs.declared.names.Side.{Side}
use Rattle.charlotte_calls.specs.declared.names.Side.TheVariants.{A, B}
use Rattle.charlotte_calls.specs.declared.names.Way.TheVariants.{Inward, Outward}
use Rattle.charlotte_calls.specs.declared.calls.Call.{Call}
use Rattle.charlotte_calls.specs.declared.calls.Call.TheVariants.{Send, Receive, Cancel, Wait}
use Rattle.charlotte_calls.specs.declared.setting.Setting.{Setting}
use Rattle.lynx_plan.specs.declared.script.Script.{Script}
use Rattle.lynx_plan.specs.declared.script.ScriptLine.{ScriptLine}
use Rattle.lynx_plan.specs.declared.script.ScriptCall.{ScriptCall}
use Rattle.lynx_plan.specs.declared.script.ScriptCall.TheVariants.{Ask, Take, Settle}
use Rattle.lynx_plan.specs.Draws.{Drawn, ◌>>=◌, done, draw}

-- a wire from a process to another
abbrev pub wire : ℕ → ℕ → Pid × Pid
wire i j = (record { 0 = i }, record { 0 = j })

-- process i is on kernel i % 4, and wire i goes from process i to the next, and from the last to the first
abbrev pub ring : Setting
ring = record {
  version = 1;
  kernels = 4;
  homes = 0 ∷ 1 ∷ 2 ∷ 3 ∷ 0 ∷ 1 ∷ 2 ∷ 3 ∷ [];
  wires = wire 0 1 ∷ wire 1 2 ∷ wire 2 3 ∷ wire 3 4 ∷ wire 4 5 ∷ wire 5 6 ∷ wire 6 7 ∷ wire 7 0 ∷ [];
}

-- ---- ends of wires

-- the number of a wire, and a side of it
unfoldable pub drawn_end : Drawn (ℕ × Side)
drawn_end = do
  i ← draw 8
  side ← draw 2
  done (i, if side == 0 then A else B)

-- wire i is the link i / 4 of kernel i % 4, on which its first process is
abbrev pub wired_end : ℕ × Side → EndId
wired_end e = record { link = record { maker = e.0 % 4; count = e.0 / 4 }; side = e.1 }

abbrev pub owner_of : ℕ → Side → Pid
owner_of i A = record { 0 = i }
owner_of i B = record { 0 = (i + 1) % 8 }

-- ---- calls

-- the ends that a message encloses: in one of four an end of some wire
unfoldable pub drawn_ends : Drawn (List EndId)
drawn_ends = do
  chance ← draw 4
  if chance == 0 then (drawn_end >>= λ e. done (wired_end e ∷ [])) else done []

-- a call that is no send
abbrev pub other_call : ℕ → EndId → Call
other_call kind on = if nat_lt kind 10 then Receive on else if kind == 10 then Cancel on Outward else if kind == 11 then Cancel on Inward else Wait

-- the call of a kind. The message is the byte `m`
unfoldable pub drawn_call : ℕ → EndId → Drawn Call
drawn_call kind on = if nat_lt kind 5 then (drawn_ends >>= λ ends. done (Send on (109 ∷ []) ends)) else done (other_call kind on)

-- the call of the process that has the end
unfoldable pub drawn_ask : Drawn ScriptCall
drawn_ask = do
  e ← drawn_end
  kind ← draw 16
  call ← drawn_call kind (wired_end e)
  done (Ask (owner_of e.0 e.1) call)

unfoldable pub drawn_take : Drawn ScriptCall
drawn_take = do
  from ← draw 4
  to ← draw 4
  done (Take from to)

-- after each 50th call
abbrev pub settled : ℕ → List ScriptCall
settled n = if n % 50 == 0 then Settle ∷ [] else []

-- ---- lines

-- the lines of the n-th call
unfoldable pub round : ℕ → Drawn (List ScriptCall)
round n = do
  ask ← drawn_ask
  take ← drawn_take
  done (ask ∷ take ∷ settled n)

-- the lines of the first n calls
unfoldable pub rounds : ℕ → Drawn (List ScriptCall)
rounds zero = done []
rounds (suc n) = do
  before ← rounds n
  last ← round (n + 1)
  done (before ++ last)

-- lines with numbers, from this one on
abbrev pub lines_from : ℕ → List ScriptCall → List ScriptLine
lines_from n [] = []
lines_from n (what ∷ whats) = record { line = n; what = what } ∷ lines_from (n + 1) whats

-- the lines of the setting are the first 17
unfoldable pub script_of_seed : ℕ → Script
script_of_seed seed = record { setting = ring; lines = lines_from 18 (rounds 5000 seed).0 }
