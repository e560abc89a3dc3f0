-- Choices, loops and awaits.
use Rattle.std.proofs.Common.{◌≡◌, ℕ, zero, suc, ◌+◌, ◌≤◌, List, [], ◌∷◌, length, Bool, true, false, if◌then◌else◌, Option, Result, Some, Ok, Err, slice_get, suc-ne-zero, refl, sym, ap, ◌∙◌, subst, le_refl, arith}
use Rattle.lynx_tree.specs.declared.declaration.TypeName.TheVariants as types
use Rattle.typing_rules.specs.Types.{Held, fits}
use Rattle.typing_rules.specs.declared.exception.Exception.{Exception}
use Rattle.lynx_code.specs.declared.instruction.Instruction.TheVariants as code
use Rattle.lynx_meaning.specs.Agree.{Fit}
use Rattle.lynx_meaning.specs.Code.{Opened, Thread, goes, jumps, step, tries_again}
use Rattle.lynx_meaning.specs.Code as machine
use Rattle.lynx_meaning.specs.Courses.{Action, Answer, Await, Course, Moment, Out, after, and_then, does, with_value}
use Rattle.lynx_meaning.specs.Courses as course
use Rattle.lynx_meaning.specs.Source.{awaits, loops}
use Rattle.lynx_meaning.specs.Values.{Value, Given, truth_of}
use Rattle.compiler_steps.specs.Steps.{AreNested, thread}
use Rattle.compiler_steps.proofs.Raising.{raises-thrown}
use Rattle.compiler_steps.proofs.Reaching.{reaches-none, reaches-step}
use Rattle.compiler_expressions.specs.Giving.{Gives}
use Rattle.compiler_expressions.specs.Setting.{Around}
use Rattle.compiler_expressions.proofs.Clean.{held-fits}
use Rattle.compiler_expressions.proofs.Operators.{truth-on-top}
use Rattle.compiler_statements.specs.Running.{Body, IsFront, IsSound, Runs, trace}
use Rattle.compiler_statements.proofs.Acting.{runs-answered}
use Rattle.compiler_statements.proofs.Extending.{awaits-extends, loops-extends, then-front}
use Rattle.compiler_statements.proofs.Following.{runs-fewer, runs-from, runs-step, runs-then, runs-value}
use Rattle.compiler_statements.proofs.Fronts.{fit-front, front-same}

abbrev pub around : List Opened → List ℕ → Option Exception → Moment → Around
around tries requests pending m = record { tries = tries; requests = requests; pending = pending; moment = m }

nil-cons : (a : Answer) (rest : List Answer) → [] ≡ a ∷ rest → ⊥
nil-cons a rest is = suc-ne-zero (length rest) (sym (ap length is))

abbrev tail-of : List Answer → List Answer
tail-of [] = []
tail-of (a ∷ rest) = rest

-- what comes behind an action comes with its answer
then-given : (now : Moment) (g : Result (List Value) Exception) (next : Moment → Course) → and_then (with_value g now (λ vs. course.Proceeds now)) next ≡ with_value g now (λ vs. next now)
then-given now (Ok vs) next = refl
then-given now (Err exception) next = refl

then-answered : (m : Moment) (action : Action) (left : List Answer) (next : Moment → Course) → and_then (course.answered m action left (λ vs now. course.Proceeds now)) next ≡ course.answered m action left (λ vs now. next now)
then-answered m action [] next = refl
then-answered m action (a ∷ rest) next = then-given (after m action a rest) a.given next

pub then-acts : (m : Moment) (action : Action) (next : Moment → Course) → and_then (does m action) next ≡ course.acts m action (λ vs now. next now)
then-acts m action next = then-answered m action m.answers next

module _ (b : Body) (tries : List Opened) (requests : List ℕ) where
  -- by the truth that stands on the stack, at a jump
  by-jump : (n at address end : ℕ) (pending : Option Exception) (m : Moment) (v : Value) (truth : Bool) (yes_course no_course : Course) → slice_get b.setting.program.instructions at ≡ Some (code.JumpF address)
      → step b.setting.program (thread at (v ∷ []) tries requests pending m) (code.JumpF address) ≡ (if truth then goes [] (thread at (v ∷ []) tries requests pending m) else jumps address [] (thread at (v ∷ []) tries requests pending m))
      → (Fit b.tree (trace yes_course) b.answers → Runs b tries requests n (thread (at + 1) [] tries requests pending m) end yes_course)
      → (Fit b.tree (trace no_course) b.answers → Runs b tries requests n (thread address [] tries requests pending m) end no_course)
      → Fit b.tree (trace (if truth then yes_course else no_course)) b.answers → Runs b tries requests (suc n) (thread at (v ∷ []) tries requests pending m) end (if truth then yes_course else no_course)
  by-jump n at address end pending m v true yes_course no_course here steps first second fit = runs-step b tries requests n (thread at (v ∷ []) tries requests pending m) (thread (at + 1) [] tries requests pending m) (code.JumpF address) end yes_course here steps (first fit)
  by-jump n at address end pending m v false yes_course no_course here steps first second fit = runs-step b tries requests n (thread at (v ∷ []) tries requests pending m) (thread address [] tries requests pending m) (code.JumpF address) end no_course here steps (second fit)

  -- a condition, and the jump that it decides, which counts
  pub runs-condition : (n : ℕ) (t : Thread) (at address end : ℕ) (pending : Option Exception) (m : Moment) (held : Held) (o : Given) (yes_course no_course : Course) → IsSound b m
      → Gives b.setting (around tries requests pending m) t at [] held o → fits types.Bool held ≡ true → slice_get b.setting.program.instructions at ≡ Some (code.JumpF address)
      → (Fit b.tree (trace yes_course) b.answers → Runs b tries requests n (thread (at + 1) [] tries requests pending m) end yes_course)
      → (Fit b.tree (trace no_course) b.answers → Runs b tries requests n (thread address [] tries requests pending m) end no_course)
      → Fit b.tree (trace (with_value o m (λ v. if truth_of v then yes_course else no_course))) b.answers → Runs b tries requests (suc n) t end (with_value o m (λ v. if truth_of v then yes_course else no_course))
  runs-condition n t at address end pending m held o yes_course no_course sound given fit_bool here first second fit =
      runs-value b tries requests (suc n) pending m t at end [] held o (λ v. if truth_of v then yes_course else no_course) sound given
      (λ v of fit_v. by-jump n at address end pending m v (truth_of v) yes_course no_course here
      (truth-on-top (λ truth stack. if truth then goes stack (thread at (v ∷ []) tries requests pending m) else jumps address stack (thread at (v ∷ []) tries requests pending m)) v [] (held-fits types.Bool held v fit_bool of)) first second fit_v)
      fit

  -- ---- loops

  pub runs-loop : (n at middle behind : ℕ) (held : Held) (condition : Moment → Given) (body : Moment → Course) → fits types.Bool held ≡ true
      → slice_get b.setting.program.instructions middle ≡ Some (code.JumpF (behind + 1)) → slice_get b.setting.program.instructions behind ≡ Some (code.Jump at)
      → ((pending : Option Exception) (m : Moment) → IsSound b m → Gives b.setting (around tries requests pending m) (thread at [] tries requests pending m) middle [] held (condition m))
      → ((m : Moment) → IsFront m.actions (trace (body m)))
      → ((pending : Option Exception) (m : Moment) → IsSound b m → Fit b.tree (trace (body m)) b.answers → Runs b tries requests n (thread (middle + 1) [] tries requests pending m) behind (body m))
      → (k : ℕ) → k ≤ n → (pending : Option Exception) (m : Moment) → IsSound b m → Fit b.tree (trace (loops k condition body m)) b.answers → Runs b tries requests k (thread at [] tries requests pending m) (behind + 1) (loops k condition body m)
  runs-loop n at middle behind held condition body fit_bool here back tests extends turns zero le pending m sound fit =
      let t = thread at [] tries requests pending m in
      runs-fewer b tries requests 0 1 t (behind + 1) (loops 0 condition body m) (omega arith)
      (runs-condition 0 t middle (behind + 1) (behind + 1) pending m held (condition m) (course.Over (Out m.actions)) (course.Proceeds m) sound (tests pending m sound) fit_bool here
      (λ fit_yes. (0, le_refl 0, refl)) (λ fit_no. (sound, pending, reaches-none b.setting.program _)) fit)
  runs-loop n at middle behind held condition body fit_bool here back tests extends turns (suc k) le pending m sound fit =
      let t = thread at [] tries requests pending m in
      runs-condition k t middle (behind + 1) (behind + 1) pending m held (condition m) (and_then (body m) (loops k condition body)) (course.Proceeds m) sound (tests pending m sound) fit_bool here
      (λ fit_yes.
      let fit_body = fit-front b.tree (trace (body m)) (trace (and_then (body m) (loops k condition body))) b.answers (then-front (body m) (loops k condition body) (loops-extends k condition body extends)) fit_yes in
      runs-then b tries requests k (thread (middle + 1) [] tries requests pending m) behind (behind + 1) (body m) (loops k condition body)
      (runs-fewer b tries requests k n _ behind (body m) (omega arith) (turns pending m sound fit_body))
      (λ later now sound_now fit_now.
      runs-from b tries requests k (thread behind [] tries requests later now) (thread at [] tries requests later now) (behind + 1) (loops k condition body now)
      (reaches-step b.setting.program (thread behind [] tries requests later now) (code.Jump at) _ back refl)
      (runs-loop n at middle behind held condition body fit_bool here back tests extends turns k (omega arith) later now sound_now fit_now))
      fit_yes)
      (λ fit_no. (sound, pending, reaches-none b.setting.program _)) fit

  -- ---- awaits

  -- by the truth that stands on the stack, at an await
  by-await : AreNested (length requests) tries → (n at middle : ℕ) (pending : Option Exception) (m : Moment) (v : Value) (truth : Bool) (left : List Answer) (next : Moment → Course) → m.answers ≡ left → IsSound b m → slice_get b.setting.program.instructions middle ≡ Some (code.Await at)
      → step b.setting.program (thread middle (v ∷ []) tries requests pending m) (code.Await at)
      ≡ (if truth then goes [] (thread middle (v ∷ []) tries requests pending m) else machine.with_outcome m Await (λ given now. tries_again at given (thread middle [] tries requests pending now)))
      → ((m : Moment) → IsFront m.actions (trace (next m)))
      → ((a : Answer) (rest : List Answer) → left ≡ a ∷ rest → IsSound b (after m Await a rest) → Fit b.tree (trace (next (after m Await a rest))) b.answers → Runs b tries requests n (thread at [] tries requests pending (after m Await a rest)) (middle + 1) (next (after m Await a rest)))
      → Fit b.tree (trace (if truth then course.Proceeds m else course.acts m Await (λ vs now. next now))) b.answers
      → Runs b tries requests n (thread middle (v ∷ []) tries requests pending m) (middle + 1) (if truth then course.Proceeds m else course.acts m Await (λ vs now. next now))
  by-await nested n at middle pending m v true left next same sound here steps extends on fit =
      (sound, pending, reaches-step b.setting.program (thread middle (v ∷ []) tries requests pending m) (code.Await at) _ here steps)
  by-await nested n at middle pending m v false left next same sound here steps extends on fit =
      let t = thread middle (v ∷ []) tries requests pending m in
      runs-answered b tries requests n t (middle + 1) Await m m.answers (λ given now. tries_again at given (thread middle [] tries requests pending now)) (λ vs now. next now) tt sound (λ vs now. extends now)
      (λ a rest vs is sound_now kinds fit_now reached.
      runs-from b tries requests n t (thread at [] tries requests pending (after m Await a rest)) (middle + 1) (next (after m Await a rest)) reached (on a rest (sym same ∙ is) sound_now fit_now))
      (λ exception now. raises-thrown exception middle [] tries requests pending now nested)
      fit (reaches-step b.setting.program t (code.Await at) _ here steps)

  pub runs-await : AreNested (length requests) tries → (n at middle : ℕ) (held : Held) (condition : Moment → Given) → fits types.Bool held ≡ true → slice_get b.setting.program.instructions middle ≡ Some (code.Await at)
      → ((pending : Option Exception) (m : Moment) → IsSound b m → Gives b.setting (around tries requests pending m) (thread at [] tries requests pending m) middle [] held (condition m))
      → (left : List Answer) (pending : Option Exception) (m : Moment) → m.answers ≡ left → IsSound b m → Fit b.tree (trace (awaits condition left m)) b.answers → Runs b tries requests n (thread at [] tries requests pending m) (middle + 1) (awaits condition left m)
  runs-await nested n at middle held condition fit_bool here tests [] pending m same sound fit =
      runs-value b tries requests n pending m (thread at [] tries requests pending m) middle (middle + 1) [] held (condition m) (λ v. if truth_of v then course.Proceeds m else does m Await) sound (tests pending m sound)
      (λ v of fit_v. by-await nested n at middle pending m v (truth_of v) [] (λ now. course.Proceeds now) same sound here
      (truth-on-top (λ truth stack. if truth then goes stack (thread middle (v ∷ []) tries requests pending m) else machine.with_outcome m Await (λ given now. tries_again at given (thread middle stack tries requests pending now))) v [] (held-fits types.Bool held v fit_bool of))
      (λ now. front-same now.actions) (λ a rest is sound_now fit_now. absurd (nil-cons a rest is)) fit_v)
      fit
  runs-await nested n at middle held condition fit_bool here tests (a ∷ rest) pending m same sound fit =
      runs-value b tries requests n pending m (thread at [] tries requests pending m) middle (middle + 1) [] held (condition m) (λ v. if truth_of v then course.Proceeds m else and_then (does m Await) (awaits condition rest)) sound (tests pending m sound)
      (λ v of fit_v.
      let equal = ap (λ (c : Course). if truth_of v then course.Proceeds m else c) (then-acts m Await (awaits condition rest)) in
      subst (λ (c : Course). Runs b tries requests n (thread middle (v ∷ []) tries requests pending m) (middle + 1) c) (sym equal)
      (by-await nested n at middle pending m v (truth_of v) (a ∷ rest) (awaits condition rest) same sound here
      (truth-on-top (λ truth stack. if truth then goes stack (thread middle (v ∷ []) tries requests pending m) else machine.with_outcome m Await (λ given now. tries_again at given (thread middle stack tries requests pending now))) v [] (held-fits types.Bool held v fit_bool of))
      (awaits-extends condition rest)
      (λ a' rest' is sound_now fit_now.
      runs-await nested n at middle held condition fit_bool here tests rest pending (after m Await a' rest') (ap tail-of (sym is)) sound_now fit_now)
      (subst (λ (c : Course). Fit b.tree (trace c) b.answers) equal fit_v)))
      fit
