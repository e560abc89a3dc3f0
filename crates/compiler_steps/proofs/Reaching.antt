-- One stretch of a thread's way after another.
use Rattle.std.proofs.Common.{◌≡◌, ℕ, suc, Some, slice_get, refl, ap, ◌∙◌, subst, arith, le_refl, le_trans}
use Rattle.lynx_code.specs.declared.instruction.Instruction.{Instruction}
use Rattle.lynx_meaning.specs.Code.{Next, Goes, Program, Thread, exec, fetched, go_on, step}
use Rattle.compiler_steps.specs.Steps.{Reaches}

module _ (p : Program) where
  -- no step at all
  pub reaches-none : (t : Thread) → Reaches p t (Goes t)
  reaches-none t = record { by = λ k. (k, le_refl k, refl) }

  -- one instruction
  pub exec-step : (t : Thread) (i : Instruction) (next : Next) → slice_get p.instructions t.address ≡ Some i → step p t i ≡ next → (k : ℕ) → exec p (suc k) t ≡ go_on next (exec p k)
  exec-step t i next at is k = ap (λ found. go_on (fetched p t found) (exec p k)) at ∙ ap (λ n. go_on n (exec p k)) is

  pub reaches-step : (t : Thread) (i : Instruction) (next : Next) → slice_get p.instructions t.address ≡ Some i → step p t i ≡ next → Reaches p t next
  reaches-step t i next at is = record { by = λ k. (suc k, omega arith, exec-step t i next at is k) }

  pub reaches-on : (t u : Thread) (next : Next) → Reaches p t (Goes u) → Reaches p u next → Reaches p t next
  reaches-on t u next first second = record {
    by = λ k.
        let b = second.by k in
        let a = first.by b.0 in
        (a.0, le_trans b.1 a.1, a.2 ∙ b.2);
  }

  pub reaches-as : (t : Thread) (next other : Next) → next ≡ other → Reaches p t next → Reaches p t other
  reaches-as t next other same first = subst (Reaches p t) same first
