-- What the code of an expression does.
use Rattle.std.specs.Prelude.{ℕ, List, ◌∷◌, length, Result, Ok, Err, ◌≡◌}
use mathlib.Core.List.{reverse_aux}
use Rattle.typing_rules.specs.Types.{Held}
use Rattle.typing_rules.specs.declared.exception.Exception.{Exception}
use Rattle.lynx_meaning.specs.Code.{Goes, Thread}
use Rattle.lynx_meaning.specs.Values.{Value, Given}
use Rattle.compiler_steps.specs.Steps.{Reaches, thrown}
use Rattle.compiler_expressions.specs.Kinds.{IsHeld}
use Rattle.compiler_expressions.specs.Setting.{Around, Setting, stands}

-- from this thread the value comes on the stack, and the thread to this address; or the exception is raised
abbrev pub Gives : Setting → Around → Thread → ℕ → List Value → Held → Given → Type 0
Gives c a t end stack held (Ok v) = IsHeld held v × Reaches c.program t (Goes (stands a end (v ∷ stack)))
Gives c a t end stack held (Err exception) = Reaches c.program t (thrown a.tries a.requests exception a.moment)

-- the same of values one after the other, which are so many
abbrev pub GivesAll : Setting → Around → Thread → ℕ → List Value → ℕ → Result (List Value) Exception → Type 0
GivesAll c a t end stack number (Ok vs) = (length vs ≡ number) × Reaches c.program t (Goes (stands a end (reverse_aux vs stack)))
GivesAll c a t end stack number (Err exception) = Reaches c.program t (thrown a.tries a.requests exception a.moment)
