-- Tries and their handlers.
use Rattle.std.proofs.Common.{◌≡◌, ℕ, ◌+◌, List, [], ◌∷◌, length, Bool, true, false, cond, Some, is_some, if◌then◌else◌, find, bytes_eq, Decides, slice_get, refl, sym, ap, ◌∙◌, subst, length-append, arith}
use Rattle.std.proofs.lemmas.Option.{none-some, same_Some}
use Rattle.std.proofs.lemmas.Slice.Eq.{bytes_eq-Decides}
use Rattle.lynx_tree.specs.Trees.{HandlerTrees}
use Rattle.lynx_tree.specs.Trees as trees
use Rattle.typing_rules.specs.Exceptions.{all_exceptions, exception_of, exception_text}
use Rattle.typing_rules.specs.declared.exception.Exception.{Exception}
use Rattle.lynx_code.specs.Generation.{Names, exception_named, handlers_code, stmts_code}
use Rattle.lynx_code.specs.declared.instruction.Instruction.TheVariants as code
use Rattle.lynx_meaning.specs.Agree.{Fit}
use Rattle.lynx_meaning.specs.Code.{Opened, Thread, goes, jumps, step}
use Rattle.lynx_meaning.specs.Courses.{Course, Moment, Ended, Out, Waits}
use Rattle.lynx_meaning.specs.Courses as course
use Rattle.lynx_meaning.specs.Source.{catches}
use Rattle.compiler_steps.specs.Steps.{AreNested, thread}
use Rattle.compiler_steps.proofs.Raising.{raises-thrown, thrown-caught}
use Rattle.compiler_steps.proofs.Reaching.{reaches-as, reaches-on, reaches-step}
use Rattle.compiler_expressions.proofs.Variables.{some-of}
use Rattle.compiler_statements.specs.Running.{Body, IsSound, Runs, trace}
use Rattle.compiler_statements.proofs.Following.{runs-from}

-- ---- names of exceptions

first-passes : (test : Exception → Bool) (y x : Exception) (ys : List Exception) → (find test ys ≡ Some x → test x ≡ true) → (b : Bool) → test y ≡ b → cond b (Some y) (find test ys) ≡ Some x → test x ≡ true
first-passes test y x ys rest true passes at = subst (λ (z : Exception). test z ≡ true) (same_Some y x at) passes
first-passes test y x ys rest false passes at = rest at

found-passes : (test : Exception → Bool) (xs : List Exception) (x : Exception) → find test xs ≡ Some x → test x ≡ true
found-passes test [] x is = absurd (none-some x is)
found-passes test (y ∷ ys) x is = first-passes test y x ys (found-passes test ys x) (test y) refl is

-- the text of the exception that a name stands for is the name
pub named-text : (name : List ℕ) → is_some (exception_of name) ≡ true → exception_text (exception_named (exception_of name)) ≡ name
unfolding exception_of
named-text name known =
    let found = some-of (exception_of name) known in
    let passes = found-passes (λ x. bytes_eq name (exception_text x)) all_exceptions found.0 found.1 in
    let equal = bytes_eq-Decides name (exception_text found.0) in
    ap (λ o. exception_text (exception_named o)) found.1 ∙ sym (equal.0 passes)

-- ---- the code of handlers is as long wherever they go on

pub handlers-length : (names : Names) (hs : HandlerTrees) (behind other at : ℕ) → length (handlers_code names behind at hs) ≡ length (handlers_code names other at hs)
handlers-length names trees.no_handlers behind other at = refl
handlers-length names (trees.more_handlers name body others) behind other at =
    let b = stmts_code names (at + 1) body in
    let next = at + 1 + length b + 1 in
    let same = handlers-length names others behind other next in
    omega (arith, same, length-append (code.Case (exception_named (exception_of name)) next ∷ b) (code.Jump behind ∷ handlers_code names behind next others), length-append (code.Case (exception_named (exception_of name)) next ∷ b) (code.Jump other ∷ handlers_code names other next others))

-- two tests of one thing answer alike
one-answer : (P : Type 0) (r s : Bool) → Decides r P → Decides s P → r ≡ s
one-answer P true true h k = refl
one-answer P false false h k = refl
one-answer P true false h k = sym (k.1 (h.0 refl))
one-answer P false true h k = h.1 (k.0 refl)

-- the code and the source compare names alike
same-test : (name : List ℕ) (x pending : Exception) → exception_text x ≡ name → bytes_eq (exception_text pending) (exception_text x) ≡ bytes_eq name (exception_text pending)
same-test name x pending is =
    let turned = bytes_eq-Decides name (exception_text pending) in
    ap (λ (text : List ℕ). bytes_eq (exception_text pending) text) is
    ∙ one-answer (exception_text pending ≡ name) (bytes_eq (exception_text pending) name) (bytes_eq name (exception_text pending)) (bytes_eq-Decides (exception_text pending) name) ((λ e. sym (turned.0 e)), (λ q. turned.1 (sym q)))

module _ (b : Body) (tries : List Opened) (requests : List ℕ) (n : ℕ) where
  -- behind a stretch comes a jump
  pub runs-jump : (t : Thread) (at behind : ℕ) (c : Course) → slice_get b.setting.program.instructions at ≡ Some (code.Jump behind) → Runs b tries requests n t at c → Runs b tries requests n t behind c
  runs-jump t at behind (course.Proceeds m) here r =
      (r.0, r.1, reaches-on b.setting.program t (thread at [] tries requests r.1 m) _ r.2 (reaches-step b.setting.program (thread at [] tries requests r.1 m) (code.Jump behind) _ here refl))
  runs-jump t at behind (course.Raises exception m) here r = r
  runs-jump t at behind (course.Over (Ended actions store)) here r = r
  runs-jump t at behind (course.Over (Waits actions store)) here r = r
  runs-jump t at behind (course.Over (Out actions)) here r = r

  by-case : (at next behind : ℕ) (x pending : Exception) (m : Moment) (met : Bool) (yes_course no_course : Course) → slice_get b.setting.program.instructions at ≡ Some (code.Case x next)
      → step b.setting.program (thread at [] tries requests (Some pending) m) (code.Case x next) ≡ (if met then goes [] (thread at [] tries requests (Some pending) m) else jumps next [] (thread at [] tries requests (Some pending) m))
      → (Fit b.tree (trace yes_course) b.answers → Runs b tries requests n (thread (at + 1) [] tries requests (Some pending) m) behind yes_course)
      → (Fit b.tree (trace no_course) b.answers → Runs b tries requests n (thread next [] tries requests (Some pending) m) behind no_course)
      → Fit b.tree (trace (if met then yes_course else no_course)) b.answers → Runs b tries requests n (thread at [] tries requests (Some pending) m) behind (if met then yes_course else no_course)
  by-case at next behind x pending m true yes_course no_course here steps first second fit =
      runs-from b tries requests n (thread at [] tries requests (Some pending) m) (thread (at + 1) [] tries requests (Some pending) m) behind yes_course (reaches-step b.setting.program (thread at [] tries requests (Some pending) m) (code.Case x next) _ here steps) (first fit)
  by-case at next behind x pending m false yes_course no_course here steps first second fit =
      runs-from b tries requests n (thread at [] tries requests (Some pending) m) (thread next [] tries requests (Some pending) m) behind no_course (reaches-step b.setting.program (thread at [] tries requests (Some pending) m) (code.Case x next) _ here steps) (second fit)

  -- one handler
  pub runs-case : (at next behind : ℕ) (name : List ℕ) (x pending : Exception) (m : Moment) (yes_course no_course : Course) → slice_get b.setting.program.instructions at ≡ Some (code.Case x next) → exception_text x ≡ name
      → (Fit b.tree (trace yes_course) b.answers → Runs b tries requests n (thread (at + 1) [] tries requests (Some pending) m) behind yes_course)
      → (Fit b.tree (trace no_course) b.answers → Runs b tries requests n (thread next [] tries requests (Some pending) m) behind no_course)
      → Fit b.tree (trace (if bytes_eq name (exception_text pending) then yes_course else no_course)) b.answers
      → Runs b tries requests n (thread at [] tries requests (Some pending) m) behind (if bytes_eq name (exception_text pending) then yes_course else no_course)
  runs-case at next behind name x pending m yes_course no_course here is first second fit =
      by-case at next behind x pending m (bytes_eq name (exception_text pending)) yes_course no_course here
      (ap (λ (met : Bool). if met then goes [] (thread at [] tries requests (Some pending) m) else jumps next [] (thread at [] tries requests (Some pending) m)) (same-test name x pending is)) first second fit

  -- no handler is left
  pub runs-again : AreNested (length requests) tries → (at behind : ℕ) (pending : Exception) (m : Moment) → IsSound b m → slice_get b.setting.program.instructions at ≡ Some code.Again → Runs b tries requests n (thread at [] tries requests (Some pending) m) behind (course.Raises pending m)
  runs-again nested at behind pending m sound here =
      (sound, reaches-step b.setting.program (thread at [] tries requests (Some pending) m) code.Again _ here (raises-thrown pending at [] tries requests (Some pending) m nested))

  abbrev pub opened : ℕ → Opened
  opened first = record { handlers = first; height = 0; depth = length requests }

  -- the body of a try, and its handlers
  pub runs-caught : (t : Thread) (at first behind : ℕ) (c : Course) (handlers : Exception → Moment → Course) → slice_get b.setting.program.instructions at ≡ Some code.Untry → slice_get b.setting.program.instructions (at + 1) ≡ Some (code.Jump behind)
      → Runs b (opened first ∷ tries) requests n t at c
      → ((pending : Exception) (m : Moment) → IsSound b m → Fit b.tree (trace (handlers pending m)) b.answers → Runs b tries requests n (thread first [] tries requests (Some pending) m) behind (handlers pending m))
      → Fit b.tree (trace (catches c handlers)) b.answers → Runs b tries requests n t behind (catches c handlers)
  runs-caught t at first behind (course.Proceeds m) handlers here next r on fit =
      runs-jump t (at + 1) behind (course.Proceeds m) next
      (r.0, r.1, reaches-on b.setting.program t (thread at [] (opened first ∷ tries) requests r.1 m) _ r.2 (reaches-step b.setting.program (thread at [] (opened first ∷ tries) requests r.1 m) code.Untry _ here refl))
  runs-caught t at first behind (course.Raises exception m) handlers here next r on fit =
      runs-from b tries requests n t (thread first [] tries requests (Some exception) m) behind (handlers exception m)
      (reaches-as b.setting.program t _ _ (thrown-caught exception first tries requests m) r.1) (on exception m r.0 fit)
  runs-caught t at first behind (course.Over (Ended actions store)) handlers here next r on fit = r
  runs-caught t at first behind (course.Over (Waits actions store)) handlers here next r on fit = r
  runs-caught t at first behind (course.Over (Out actions)) handlers here next r on fit = r
