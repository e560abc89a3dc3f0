-- A thread that is over stays so with more instructions.
use Rattle.std.proofs.Common.{◌≡◌, ℕ, zero, suc, ◌≤◌, sym, subst, ◌∙◌, ⊎_elim, arith, le_of_suc-le-suc, not-suc-le-zero}
use Rattle.std.proofs.lemmas.Bool.{cases_lt}
use Rattle.lynx_meaning.specs.Code.{CodeBehaviour, Next, Goes, Over, Program, Thread, exec, go_on, next_of}
use Rattle.compiler_steps.specs.Steps.{IsFinal}

on : (f g : Thread → CodeBehaviour) → ((t : Thread) (o : CodeBehaviour) → IsFinal o → f t ≡ o → g t ≡ o) → (next : Next) (o : CodeBehaviour) → IsFinal o → go_on next f ≡ o → go_on next g ≡ o
on f g more (Goes t) o final is = more t o final is
on f g more (Over outcome) o final is = is

pub lasts : (p : Program) (m n : ℕ) → m ≤ n → (t : Thread) (o : CodeBehaviour) → IsFinal o → exec p m t ≡ o → exec p n t ≡ o
lasts p zero n le t o final is = absurd (subst IsFinal (sym is) final)
lasts p (suc m) zero le t o final is = absurd (not-suc-le-zero le)
lasts p (suc m) (suc n) le t o final is = on (exec p m) (exec p n) (lasts p m n (le_of_suc-le-suc le)) (next_of p t) o final is

-- so two ends of one thread are the same
pub one-end : (p : Program) (t : Thread) (m n : ℕ) (o q : CodeBehaviour) → IsFinal o → IsFinal q → exec p m t ≡ o → exec p n t ≡ q → o ≡ q
one-end p t m n o q final last is was =
    ⊎_elim
    (λ lt. sym (lasts p m n (omega arith) t o final is) ∙ was)
    (λ le. sym is ∙ lasts p n m le t q last was)
    (cases_lt m n)
