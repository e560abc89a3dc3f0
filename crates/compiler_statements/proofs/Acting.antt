-- Actions, and what comes with their answers.
use Rattle.std.proofs.Common.{◌≡◌, ℕ, ◌+◌, List, [], ◌∷◌, ◌++◌, reverse, Option, Some, Result, Ok, Err, IfOk, slice_get, refl, ap, subst, length}
use Rattle.lynx_tree.specs.declared.declaration.TypeName.{TypeName}
use Rattle.lynx_code.specs.declared.instruction.Instruction.{Instruction}
use Rattle.typing_rules.specs.declared.exception.Exception.{Exception}
use Rattle.lynx_meaning.specs.Agree.{Fit, Fits, needed}
use Rattle.lynx_meaning.specs.Code.{Goes, Next, Opened, Thread, takes_outcome, answered, asks, step}
use Rattle.lynx_meaning.specs.Code as machine
use Rattle.lynx_meaning.specs.Courses.{Action, Answer, Course, Moment, after, does, with_value}
use Rattle.lynx_meaning.specs.Courses as course
use Rattle.lynx_meaning.specs.Values.{Value, HaveTypes}
use Rattle.compiler_steps.specs.Steps.{AreNested, Reaches, thread, thrown}
use Rattle.compiler_steps.proofs.Raising.{raises-thrown}
use Rattle.compiler_steps.proofs.Reaching.{reaches-as, reaches-step}
use Rattle.compiler_expressions.specs.Kinds.{HaveKinds}
use Rattle.compiler_statements.specs.Running.{Body, IsAnswered, IsFront, IsSound, Runs, trace}
use Rattle.compiler_statements.proofs.Answers.{after-sound, types-kinds}
use Rattle.compiler_statements.proofs.Extending.{value-extends}
use Rattle.compiler_statements.proofs.Fronts.{fit-front, fit-next, front-same}

pub none-given : (vs : List Value) → HaveKinds [] vs → vs ≡ []
none-given [] h = refl
none-given (v ∷ vs) h = absurd h

module _ (b : Body) (tries : List Opened) (requests : List ℕ) where
  -- what comes with what an action is given
  with-given : (n : ℕ) (t : Thread) (end : ℕ) (action : Action) (now : Moment) (g : Result (List Value) Exception) (next : Result (List Value) Exception → Next) (follow : List Value → Course)
      → IsSound b now → IfOk g (HaveTypes (needed b.tree action))
      → ((vs : List Value) → HaveKinds (needed b.tree action) vs → Fit b.tree (trace (follow vs)) b.answers → Reaches b.setting.program t (next (Ok vs)) → Runs b tries requests n t end (follow vs))
      → ((exception : Exception) → next (Err exception) ≡ thrown tries requests exception now)
      → Fit b.tree (trace (with_value g now follow)) b.answers → Reaches b.setting.program t (next g) → Runs b tries requests n t end (with_value g now follow)
  with-given n t end action now (Ok vs) next follow sound fits on raised fit reached = on vs (types-kinds (needed b.tree action) vs fits) fit reached
  with-given n t end action now (Err exception) next follow sound fits on raised fit reached = (sound, reaches-as b.setting.program t _ _ (raised exception) reached)

  -- an action with these answers left
  pub runs-answered : (n : ℕ) (t : Thread) (end : ℕ) (action : Action) (m : Moment) (left : List Answer) (next : Result (List Value) Exception → Moment → Next) (follow : List Value → Moment → Course) → IsAnswered action → IsSound b (record m { answers = left })
      → ((vs : List Value) (now : Moment) → IsFront now.actions (trace (follow vs now)))
      → ((a : Answer) (rest : List Answer) (vs : List Value) → left ≡ a ∷ rest → IsSound b (after m action a rest) → HaveKinds (needed b.tree action) vs → Fit b.tree (trace (follow vs (after m action a rest))) b.answers
      → Reaches b.setting.program t (next (Ok vs) (after m action a rest)) → Runs b tries requests n t end (follow vs (after m action a rest)))
      → ((exception : Exception) (now : Moment) → next (Err exception) now ≡ thrown tries requests exception now)
      → Fit b.tree (trace (course.answered m action left follow)) b.answers → Reaches b.setting.program t (takes_outcome m action left next) → Runs b tries requests n t end (course.answered m action left follow)
  runs-answered n t end action m [] next follow is sound extends on raised fit reached = reached
  runs-answered n t end action m (a ∷ rest) next follow is sound extends on raised fit reached =
      let now = after m action a rest in
      let front = value-extends a.given now (λ vs. follow vs now) (λ vs. extends vs now) in
      let fits : Fits b.tree action a = fit-next b.tree m.actions action b.answers a rest is sound.used (fit-front b.tree now.actions (trace (with_value a.given now (λ vs. follow vs now))) b.answers front fit) in
      let after_it = after-sound b m action a rest is sound fits in
      with-given n t end action now a.given (λ g. next g now) (λ vs. follow vs now) after_it fits.given (λ vs kinds fit_too there. on a rest vs refl after_it kinds fit_too there) (λ exception. raised exception now) fit reached

  pub runs-acts : (n : ℕ) (t : Thread) (end : ℕ) (action : Action) (m : Moment) (next : Result (List Value) Exception → Moment → Next) (follow : List Value → Moment → Course) → IsAnswered action → IsSound b m
      → ((vs : List Value) (now : Moment) → IsFront now.actions (trace (follow vs now)))
      → ((vs : List Value) (now : Moment) → IsSound b now → HaveKinds (needed b.tree action) vs → Fit b.tree (trace (follow vs now)) b.answers → Reaches b.setting.program t (next (Ok vs) now) → Runs b tries requests n t end (follow vs now))
      → ((exception : Exception) (now : Moment) → next (Err exception) now ≡ thrown tries requests exception now)
      → Fit b.tree (trace (course.acts m action follow)) b.answers → Reaches b.setting.program t (machine.with_outcome m action next) → Runs b tries requests n t end (course.acts m action follow)
  runs-acts n t end action m next follow is sound extends on raised fit reached =
      runs-answered n t end action m m.answers next follow is sound extends (λ a rest vs same. on vs (after m action a rest)) raised fit reached

  -- an instruction that asks for an action which is given no values
  pub runs-does : AreNested (length requests) tries → (n at : ℕ) (stack : List Value) (pending : Option Exception) (m : Moment) (i : Instruction) (action : Action) → IsAnswered action → needed b.tree action ≡ [] → IsSound b m
      → slice_get b.setting.program.instructions at ≡ Some i → step b.setting.program (thread at stack tries requests pending m) i ≡ asks action [] (thread at stack tries requests pending m) (λ now. now)
      → Fit b.tree (trace (does m action)) b.answers → Runs b tries requests n (thread at stack tries requests pending m) (at + 1) (does m action)
  runs-does nested n at stack pending m i action is none sound here steps fit =
      let t = thread at stack tries requests pending m in
      runs-acts n t (at + 1) action m (λ given now. answered given (λ u. u) (thread at [] tries requests pending now)) (λ vs now. course.Proceeds now) is sound (λ vs now. front-same now.actions)
      (λ vs now sound_now kinds fit_now reached.
      let empty = none-given vs (subst (λ (ts : List TypeName). HaveKinds ts vs) none kinds) in
      (sound_now, pending, reaches-as b.setting.program t _ _ (ap (λ (us : List Value). Goes (thread (at + 1) (reverse us ++ []) tries requests pending now)) empty) reached))
      (λ exception now. raises-thrown exception at [] tries requests pending now nested)
      fit (reaches-step b.setting.program t i _ here steps)
