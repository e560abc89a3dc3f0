-- One stretch of a statement's code after another.
use Rattle.std.proofs.Common.{◌≡◌, ℕ, suc, ◌≤◌, List, [], ◌∷◌, Option, Some, Ok, Err, slice_get, ◌∙◌, subst, le_trans, arith}
use Rattle.lynx_code.specs.declared.instruction.Instruction.{Instruction}
use Rattle.typing_rules.specs.Types.{Held}
use Rattle.typing_rules.specs.declared.exception.Exception.{Exception}
use Rattle.lynx_meaning.specs.Agree.{Fit}
use Rattle.lynx_meaning.specs.Code.{Goes, Opened, Thread, step}
use Rattle.lynx_meaning.specs.Courses.{Course, Moment, Ended, Waits, Out, and_then, with_value}
use Rattle.lynx_meaning.specs.Courses as course
use Rattle.lynx_meaning.specs.Values.{Value, Given}
use Rattle.compiler_steps.specs.Steps.{Reaches, thread}
use Rattle.compiler_steps.proofs.Reaching.{exec-step, reaches-on, reaches-step}
use Rattle.compiler_expressions.specs.Giving.{Gives}
use Rattle.compiler_expressions.specs.Kinds.{IsHeld}
use Rattle.compiler_statements.specs.Running.{Body, IsSound, Runs, trace}

module _ (b : Body) (tries : List Opened) (requests : List ℕ) where
  -- what follows a stretch
  pub runs-from : (n : ℕ) (t u : Thread) (end : ℕ) (c : Course) → Reaches b.setting.program t (Goes u) → Runs b tries requests n u end c → Runs b tries requests n t end c
  runs-from n t u end (course.Proceeds m) first r = (r.0, r.1, reaches-on b.setting.program t u _ first r.2)
  runs-from n t u end (course.Raises exception m) first r = (r.0, reaches-on b.setting.program t u _ first r.1)
  runs-from n t u end (course.Over (Ended actions store)) first r = r
  runs-from n t u end (course.Over (Waits actions store)) first r = reaches-on b.setting.program t u _ first r
  runs-from n t u end (course.Over (Out actions)) first r = let j = first.by r.0 in (j.0, le_trans r.1 j.1, j.2 ∙ r.2)

  -- an instruction counts
  pub runs-step : (n : ℕ) (t u : Thread) (i : Instruction) (end : ℕ) (c : Course) → slice_get b.setting.program.instructions t.address ≡ Some i → step b.setting.program t i ≡ Goes u → Runs b tries requests n u end c → Runs b tries requests (suc n) t end c
  runs-step n t u i end (course.Proceeds m) here steps r = (r.0, r.1, reaches-on b.setting.program t u _ (reaches-step b.setting.program t i (Goes u) here steps) r.2)
  runs-step n t u i end (course.Raises exception m) here steps r = (r.0, reaches-on b.setting.program t u _ (reaches-step b.setting.program t i (Goes u) here steps) r.1)
  runs-step n t u i end (course.Over (Ended actions store)) here steps r = r
  runs-step n t u i end (course.Over (Waits actions store)) here steps r = reaches-on b.setting.program t u _ (reaches-step b.setting.program t i (Goes u) here steps) r
  runs-step n t u i end (course.Over (Out actions)) here steps r = (suc r.0, omega (arith, r.1), exec-step b.setting.program t i (Goes u) here steps r.0 ∙ r.2)

  -- a lower bound
  pub runs-fewer : (m n : ℕ) (t : Thread) (end : ℕ) (c : Course) → m ≤ n → Runs b tries requests n t end c → Runs b tries requests m t end c
  runs-fewer m n t end (course.Proceeds now) le r = r
  runs-fewer m n t end (course.Raises exception now) le r = r
  runs-fewer m n t end (course.Over (Ended actions store)) le r = r
  runs-fewer m n t end (course.Over (Waits actions store)) le r = r
  runs-fewer m n t end (course.Over (Out actions)) le r = (r.0, le_trans le r.1, r.2)

  -- the end under another name
  pub runs-to : (n : ℕ) (t : Thread) (end other : ℕ) (c : Course) → end ≡ other → Runs b tries requests n t end c → Runs b tries requests n t other c
  runs-to n t end other c same r = subst (λ (at : ℕ). Runs b tries requests n t at c) same r

  -- one after the other
  pub runs-then : (n : ℕ) (t : Thread) (middle end : ℕ) (c : Course) (next : Moment → Course) → Runs b tries requests n t middle c
      → ((pending : Option Exception) (m : Moment) → IsSound b m → Fit b.tree (trace (next m)) b.answers → Runs b tries requests n (thread middle [] tries requests pending m) end (next m))
      → Fit b.tree (trace (and_then c next)) b.answers → Runs b tries requests n t end (and_then c next)
  runs-then n t middle end (course.Proceeds m) next r on fit = runs-from n t (thread middle [] tries requests r.1 m) end (next m) r.2 (on r.1 m r.0 fit)
  runs-then n t middle end (course.Raises exception m) next r on fit = r
  runs-then n t middle end (course.Over (Ended actions store)) next r on fit = r
  runs-then n t middle end (course.Over (Waits actions store)) next r on fit = r
  runs-then n t middle end (course.Over (Out actions)) next r on fit = r

  -- a value, and what comes with it
  pub runs-value : (n : ℕ) (pending : Option Exception) (m : Moment) (t : Thread) (middle end : ℕ) (stack : List Value) (held : Held) (o : Given) (next : Value → Course) → IsSound b m
      → Gives b.setting (record { tries = tries; requests = requests; pending = pending; moment = m }) t middle stack held o
      → ((v : Value) → IsHeld held v → Fit b.tree (trace (next v)) b.answers → Runs b tries requests n (thread middle (v ∷ stack) tries requests pending m) end (next v))
      → Fit b.tree (trace (with_value o m next)) b.answers → Runs b tries requests n t end (with_value o m next)
  runs-value n pending m t middle end stack held (Ok v) next sound given on fit = runs-from n t (thread middle (v ∷ stack) tries requests pending m) end (next v) given.1 (on v given.0 fit)
  runs-value n pending m t middle end stack held (Err exception) next sound given on fit = (sound, given)
