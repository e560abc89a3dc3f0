-- An instruction behind the code of its operands.
use Rattle.std.proofs.Common.{◌≡◌, ℕ, ◌+◌, List, ◌∷◌, Some, Ok, Err, slice_get, ◌∙◌, subst}
use Rattle.lynx_code.specs.declared.instruction.Instruction.{Instruction}
use Rattle.typing_rules.specs.Types.{Held}
use Rattle.lynx_meaning.specs.Code.{Goes, Thread, gives, step}
use Rattle.lynx_meaning.specs.Expressions.{with_both, with_one}
use Rattle.lynx_meaning.specs.Values.{Value, Given}
use Rattle.compiler_steps.specs.Steps.{Reaches}
use Rattle.compiler_steps.proofs.Reaching.{reaches-on, reaches-step}
use Rattle.compiler_steps.proofs.Raising.{raises-thrown}
use Rattle.compiler_expressions.specs.Giving.{Gives}
use Rattle.compiler_expressions.specs.Kinds.{IsGiven, IsHeld}
use Rattle.compiler_expressions.specs.Setting.{Around, IsReady, Setting, stands}

module _ (c : Setting) (a : Around) where
  -- the same place under another name
  pub gives-to : (t : Thread) (end other : ℕ) (stack : List Value) (held : Held) (o : Given) → end ≡ other → Gives c a t end stack held o → Gives c a t other stack held o
  gives-to t end other stack held o same given = subst (λ (n : ℕ). Gives c a t n stack held o) same given

  -- the same value under another type
  pub gives-as : (t : Thread) (end : ℕ) (stack : List Value) (held other : Held) (o : Given) → ((v : Value) → IsHeld held v → IsHeld other v) → Gives c a t end stack held o → Gives c a t end stack other o
  gives-as t end stack held other (Ok v) of given = (of v given.0, given.1)
  gives-as t end stack held other (Err exception) of given = given

  pub gives-from : (t u : Thread) (end : ℕ) (stack : List Value) (held : Held) (o : Given) → Reaches c.program t (Goes u) → Gives c a u end stack held o → Gives c a t end stack held o
  gives-from t u end stack held (Ok v) first given = (given.0, reaches-on c.program t u _ first given.1)
  gives-from t u end stack held (Err exception) first given = reaches-on c.program t u _ first given

  -- the last instruction of an expression
  pub gives-last : IsReady c a → (t : Thread) (at : ℕ) (on stack : List Value) (i : Instruction) (held : Held) (o : Given) → Reaches c.program t (Goes (stands a at on)) → slice_get c.program.instructions at ≡ Some i
      → step c.program (stands a at on) i ≡ gives o stack (stands a at on) → IsGiven held o → Gives c a t (at + 1) stack held o
  gives-last ready t at on stack i held (Ok v) first here steps of = (of, reaches-on c.program t (stands a at on) _ first (reaches-step c.program (stands a at on) i _ here steps))
  gives-last ready t at on stack i held (Err exception) first here steps of =
      reaches-on c.program t (stands a at on) _ first
      (reaches-step c.program (stands a at on) i _ here (steps ∙ raises-thrown exception at on a.tries a.requests a.pending a.moment ready.nested))

  pub gives-one : IsReady c a → (t : Thread) (at : ℕ) (stack : List Value) (operand held : Held) (o : Given) (i : Instruction) (f : Value → Given) → slice_get c.program.instructions at ≡ Some i
      → ((v : Value) → IsHeld operand v → step c.program (stands a at (v ∷ stack)) i ≡ gives (f v) stack (stands a at (v ∷ stack))) → ((v : Value) → IsHeld operand v → IsGiven held (f v))
      → Gives c a t at stack operand o → Gives c a t (at + 1) stack held (with_one o f)
  gives-one ready t at stack operand held (Ok v) i f here steps of first = gives-last ready t at (v ∷ stack) stack i held (f v) first.1 here (steps v first.0) (of v first.0)
  gives-one ready t at stack operand held (Err exception) i f here steps of first = first

  pub gives-two : IsReady c a → (t : Thread) (middle at : ℕ) (stack : List Value) (left right held : Held) (o r : Given) (i : Instruction) (f : Value → Value → Given) → slice_get c.program.instructions at ≡ Some i
      → ((v w : Value) → IsHeld left v → IsHeld right w → step c.program (stands a at (w ∷ v ∷ stack)) i ≡ gives (f v w) stack (stands a at (w ∷ v ∷ stack)))
      → ((v w : Value) → IsHeld left v → IsHeld right w → IsGiven held (f v w))
      → Gives c a t middle stack left o → ((v : Value) → Gives c a (stands a middle (v ∷ stack)) at (v ∷ stack) right r) → Gives c a t (at + 1) stack held (with_both o r f)
  gives-two ready t middle at stack left right held (Err exception) r i f here steps of first second = first
  gives-two ready t middle at stack left right held (Ok v) (Err exception) i f here steps of first second = reaches-on c.program t (stands a middle (v ∷ stack)) _ first.1 (second v)
  gives-two ready t middle at stack left right held (Ok v) (Ok w) i f here steps of first second =
      let b = second v in
      gives-last ready t at (w ∷ v ∷ stack) stack i held (f v w) (reaches-on c.program t (stands a middle (v ∷ stack)) _ first.1 b.1) here (steps v w first.0 b.0) (of v w first.0 b.0)
