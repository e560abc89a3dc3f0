-- The end of a part, and what a thread of it comes to.
use Rattle.std.proofs.Common.{◌≡◌, ℕ, ◌≤◌, List, [], ◌∷◌, ◌++◌, Some, Result, Ok, Err, slice_get, refl, sym, ap, ◌∙◌, subst}
use Rattle.lynx_code.specs.declared.instruction.Instruction.TheVariants as code
use Rattle.typing_rules.specs.declared.exception.Exception.{Exception}
use Rattle.lynx_meaning.specs.Agree.{IsCodeOut, IsOut, IsOver, actions_of}
use Rattle.lynx_meaning.specs.Code.{CodeBehaviour, Comes, Over, Program, Stuck, Thread, takes_outcome, ends, exec}
use Rattle.lynx_meaning.specs.Courses.{Action, Answer, Close, Course, Moment, Behaviour, Store, Ended, Out, Waits, after, and_then, with_value}
use Rattle.lynx_meaning.specs.Courses as course
use Rattle.lynx_meaning.specs.Source.{closes, behaviour_of, whole_course}
use Rattle.lynx_meaning.specs.Values.{Value}
use Rattle.compiler_steps.specs.Steps.{IsFinal, Reaches, thread}
use Rattle.compiler_steps.proofs.Lasting.{lasts, one-end}
use Rattle.compiler_steps.proofs.Reaching.{reaches-on, reaches-step}
use Rattle.compiler_statements.specs.Running.{Body, IsFront, Runs, trace}
use Rattle.compiler_statements.proofs.Extending.{closes-front}
use Rattle.compiler_statements.proofs.Fronts.{front-on, front-same}

-- what the code comes to, where the source with loops of at most n turns comes to this
abbrev pub Follows : Program → Thread → ℕ → Behaviour → Type 0
Follows p t n (Ended actions store) = (k : ℕ) × (exec p k t ≡ Comes (Ended actions store))
Follows p t n (Waits actions store) = (k : ℕ) × (exec p k t ≡ Comes (Waits actions store))
Follows p t n (Out actions) = (k : ℕ) × (n ≤ k) × (exec p k t ≡ Comes (Out actions))

module _ (p : Program) (t : Thread) where
  over : (o : CodeBehaviour) → Reaches p t (Over o) → (k : ℕ) × (exec p k t ≡ o)
  over o reached = let j = reached.by 0 in (j.0, j.2)

  over-out : (requests : List ℕ) (n k : ℕ) (actions : List Action) → n ≤ k → exec p k t ≡ Comes (Out actions) → Follows p t n (behaviour_of (whole_course requests (course.Over (Out actions))))
  over-out [] n k actions le is = (k, le, is)
  over-out (op ∷ requests) n k actions le is = over-out requests n k actions le is

  over-waits : (requests : List ℕ) (n : ℕ) (actions : List Action) (store : Store) → Reaches p t (Over (Comes (Waits actions store))) → Follows p t n (behaviour_of (whole_course requests (course.Over (Waits actions store))))
  over-waits [] n actions store reached = over (Comes (Waits actions store)) reached
  over-waits (op ∷ requests) n actions store reached = over-waits requests n actions store reached

  -- with these requests open, what the code does at an end is what the source says, and so it is where an exception ends the thread
  abbrev EndFollows : List ℕ → ℕ → Type 0
  EndFollows requests n = (m : Moment) → Reaches p t (ends requests m)
      → Follows p t n (behaviour_of (whole_course requests (course.Proceeds m))) × ((exception : Exception) → Follows p t n (behaviour_of (whole_course requests (course.Raises exception m))))

  closed-given : (requests : List ℕ) (n : ℕ) (now : Moment) (g : Result (List Value) Exception) → EndFollows requests n → Reaches p t (ends requests now)
      → Follows p t n (behaviour_of (whole_course requests (with_value g now (λ vs. course.Proceeds now))))
  closed-given requests n now (Ok vs) on reached = (on now reached).0
  closed-given requests n now (Err exception) on reached = (on now reached).1 exception

  closed : (requests : List ℕ) (n : ℕ) (m : Moment) (left : List Answer) → EndFollows requests n → Reaches p t (takes_outcome m Close left (λ given now. ends requests now))
      → Follows p t n (behaviour_of (whole_course requests (course.answered m Close left (λ vs now. course.Proceeds now))))
  closed requests n m [] on reached = over-waits requests n (m.actions ++ Close ∷ []) m.store reached
  closed requests n m (a ∷ rest) on reached = closed-given requests n (after m Close a rest) a.given on reached

  raised-given : (requests : List ℕ) (n : ℕ) (now : Moment) (exception : Exception) (g : Result (List Value) Exception) → EndFollows requests n → Reaches p t (ends requests now)
      → Follows p t n (behaviour_of (whole_course requests (and_then (with_value g now (λ vs. course.Proceeds now)) (λ later. course.Raises exception later))))
  raised-given requests n now exception (Ok vs) on reached = (on now reached).1 exception
  raised-given requests n now exception (Err other) on reached = (on now reached).1 other

  raised : (requests : List ℕ) (n : ℕ) (m : Moment) (exception : Exception) (left : List Answer) → EndFollows requests n → Reaches p t (takes_outcome m Close left (λ given now. ends requests now))
      → Follows p t n (behaviour_of (whole_course requests (and_then (course.answered m Close left (λ vs now. course.Proceeds now)) (λ later. course.Raises exception later))))
  raised requests n m exception [] on reached = over-waits requests n (m.actions ++ Close ∷ []) m.store reached
  raised requests n m exception (a ∷ rest) on reached = raised-given requests n (after m Close a rest) exception a.given on reached

  -- what is open is closed at the end, and what the closes are given changes nothing
  end-follows : (requests : List ℕ) (n : ℕ) → EndFollows requests n
  end-follows [] n m reached = (over (Comes (Ended m.actions m.store)) reached, λ exception. over (Comes (Ended m.actions m.store)) reached)
  end-follows (op ∷ requests) n m reached = (closed requests n m m.answers (end-follows requests n) reached, λ exception. raised requests n m exception m.answers (end-follows requests n) reached)

-- a part whose body runs, with its end behind
pub part-follows : (b : Body) (requests : List ℕ) (n : ℕ) (t : Thread) (end : ℕ) (c : Course) → slice_get b.setting.program.instructions end ≡ Some code.End → Runs b [] requests n t end c → Follows b.setting.program t n (behaviour_of (whole_course requests c))
part-follows b requests n t end (course.Proceeds m) here r =
    let p = b.setting.program in
    let u = thread end [] [] requests r.1 m in
    (end-follows p t requests n m (reaches-on p t u _ r.2 (reaches-step p u code.End _ here refl))).0
part-follows b requests n t end (course.Raises exception m) here r = (end-follows b.setting.program t requests n m r.1).1 exception
part-follows b requests n t end (course.Over (Ended actions store)) here r = absurd r
part-follows b requests n t end (course.Over (Waits actions store)) here r = over-waits b.setting.program t requests n actions store r
part-follows b requests n t end (course.Over (Out actions)) here r = over-out b.setting.program t requests n r.0 actions r.1 r.2

outcome-trace : (c : Course) → actions_of (behaviour_of c) ≡ trace c
outcome-trace (course.Proceeds m) = refl
outcome-trace (course.Raises exception m) = refl
outcome-trace (course.Over outcome) = refl

-- the actions of a body are the first of its part
pub part-front : (requests : List ℕ) (c : Course) → IsFront (trace c) (actions_of (behaviour_of (whole_course requests c)))
part-front (op ∷ requests) c =
    front-on (trace c) (trace (closes c)) (actions_of (behaviour_of (whole_course requests (closes c)))) (closes-front c) (part-front requests (closes c))
part-front [] c = subst (IsFront (trace c)) (sym (outcome-trace c)) (front-same (trace c))

-- ---- what that says

abbrev outcome_in : CodeBehaviour → Behaviour
outcome_in (Comes outcome) = outcome
outcome_in Stuck = Out []

abbrev HasOutcome : CodeBehaviour → Type 0
HasOutcome (Comes outcome) = Unit {0}
HasOutcome Stuck = ⊥

over-final : (o : Behaviour) → IsOver o → IsFinal (Comes o)
over-final (Ended actions store) h = tt
over-final (Waits actions store) h = tt
over-final (Out actions) h = h

module _ (p : Program) (t : Thread) where
  pub follows-over : (n : ℕ) (o : Behaviour) → IsOver o → Follows p t n o → (k : ℕ) × (exec p k t ≡ Comes o)
  follows-over n (Ended actions store) is f = f
  follows-over n (Waits actions store) is f = f
  follows-over n (Out actions) is f = absurd is

  -- no thread that is over is out later
  not-out : (n k : ℕ) (actions : List Action) (o : CodeBehaviour) → IsFinal o → n ≤ k → exec p n t ≡ o → exec p k t ≡ Comes (Out actions) → ⊥
  not-out n k actions o final le is was = subst IsFinal (sym (lasts p n k le t o final is) ∙ was) final

  pub code-over : (n : ℕ) (o outcome : Behaviour) → IsOver outcome → Follows p t n o → exec p n t ≡ Comes outcome → o ≡ outcome
  code-over n (Ended actions store) outcome is f was = ap outcome_in (one-end p t f.0 n (Comes (Ended actions store)) (Comes outcome) tt (over-final outcome is) f.1 was)
  code-over n (Waits actions store) outcome is f was = ap outcome_in (one-end p t f.0 n (Comes (Waits actions store)) (Comes outcome) tt (over-final outcome is) f.1 was)
  code-over n (Out actions) outcome is f was = absurd (not-out n f.0 actions (Comes outcome) (over-final outcome is) f.1 was f.2)

  pub not-stuck : (n : ℕ) (o : Behaviour) → Follows p t n o → exec p n t ≡ Stuck → ⊥
  not-stuck n (Ended actions store) f was = subst HasOutcome (one-end p t f.0 n (Comes (Ended actions store)) Stuck tt tt f.1 was) tt
  not-stuck n (Waits actions store) f was = subst HasOutcome (one-end p t f.0 n (Comes (Waits actions store)) Stuck tt tt f.1 was) tt
  not-stuck n (Out actions) f was = not-out n f.0 actions Stuck tt f.1 was f.2

  out-at : (n : ℕ) (o : Behaviour) → IsOut o → Follows p t n o → (q : CodeBehaviour) → exec p n t ≡ q → IsCodeOut q
  out-at n (Ended actions store) is f q was = absurd is
  out-at n (Waits actions store) is f q was = absurd is
  out-at n (Out actions) is f (Comes (Ended others store)) was = absurd (not-out n f.0 actions (Comes (Ended others store)) tt f.1 was f.2)
  out-at n (Out actions) is f (Comes (Waits others store)) was = absurd (not-out n f.0 actions (Comes (Waits others store)) tt f.1 was f.2)
  out-at n (Out actions) is f (Comes (Out others)) was = tt
  out-at n (Out actions) is f Stuck was = absurd (not-out n f.0 actions Stuck tt f.1 was f.2)

  pub code-out : (n : ℕ) (o : Behaviour) → IsOut o → Follows p t n o → IsCodeOut (exec p n t)
  code-out n o is f = out-at n o is f (exec p n t) refl
