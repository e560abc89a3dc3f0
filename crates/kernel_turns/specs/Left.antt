-- What a node has left to do: turns, markers and letters.
use Rattle.std.specs.Prelude.{ℕ, ◌+◌, ◌-◌, ◌*◌, ◌^◌, ◌≤◌, ◌<◌, List, [], ◌∷◌, Option, Some, None, length}
use Rattle.kernel_net.specs.Ports.{kernels_of, place_of}
use Rattle.kernel_outbox.specs.Letters.{outbox_to}
use Rattle.kernel_turns.specs.Nodes.{sum_of}
use Rattle.kernel_turns.specs.declared.base.Base.{Base}
use Rattle.kernel_turns.specs.declared.node.Turn.{Turn}
use Rattle.kernel_turns.specs.declared.node.Turn.TheVariants as turn

-- how many kernels' markers were not got
abbrev pub unmarked : List (Option ℕ) → ℕ
unmarked [] = 0
unmarked (None ∷ ms) = unmarked ms + 1
unmarked (Some n ∷ ms) = unmarked ms

-- one beginning, until it begins
abbrev pub beginnings : Option ℕ → ℕ
beginnings None = 1
beginnings (Some n) = 0

-- turns that it may use, markers that it did not get, and its beginning
abbrev pub steps_left : Base → ℕ
steps_left b = (b.orders.limit - b.used) + unmarked b.course.marked + beginnings b.course.begun

-- letters that it did not put
abbrev pub letters_left : Base → ℕ
letters_left b = sum_of (kernels_of (place_of b.port)) (λ to. length (outbox_to b.outbox to))

-- both as one number: a step may leave as many letters more as a list holds
unfoldable pub weight : Base → ℕ
weight b = steps_left b * 2 ^ 64 + letters_left b

-- less is left after a turn that did something, and no more after another
abbrev pub Lessens : Turn → ℕ → ℕ → Type 0
Lessens turn.Idle before after = after ≤ before
Lessens turn.Spent before after = after ≤ before
Lessens t before after = after < before
