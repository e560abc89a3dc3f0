-- Numbers that a linear congruential generator draws, one after the other.
use Rattle.std.specs.Prelude.{ℕ, ◌+◌, ◌*◌, ◌/◌, ◌%◌, ◌^◌}

-- what is drawn from a state, and the state then
abbrev pub Drawn : Type 0 → Type 0
Drawn A = ℕ → A × ℕ

infixl 10 ◌>>=◌
-- what is drawn next
abbrev pub ◌>>=◌ : {A B : Type 0} → Drawn A → (A → Drawn B) → Drawn B
(d >>= f) x = f (d x).0 (d x).1

-- nothing more is drawn
abbrev pub done : {A : Type 0} → A → Drawn A
done a x = (a, x)

abbrev pub next_state : ℕ → ℕ
next_state x = (x * 6364136223846793005 + 1442695040888963407) % 2 ^ 64

-- a number below n
unfoldable pub draw : ℕ → Drawn ℕ
draw n x = (next_state x / 2 ^ 33 % n, next_state x)
