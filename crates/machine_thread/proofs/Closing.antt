-- Exceptions that close requests, and the end of a thread.
use Rattle.std.proofs.Common.{arith, ◌≡◌, ℕ, zero, suc, ◌-◌, ◌<◌, ◌≤◌, List, [], ◌∷◌, ◌++◌, length, take, drop, Bool, true, false, not, if◌then◌else◌, ◌&&◌, nat_eq, Option, None, Some, refl, ap, sym, subst, ◌∙◌, not-suc-le-zero, le_of_suc-le-suc, length-drop}
use Rattle.std.proofs.lemmas.Bool.Decides.{nat_tests}
use Rattle.typing_rules.specs.declared.exception.Exception.{Exception}
use Rattle.lynx_meaning.specs.Code.{Next, Over, Comes, Goes, Opened, closes, cut, ends, instead, raises, raises_in, Program}
use Rattle.lynx_meaning.specs.Courses.{Action, Close, Moment, Waits, Outcome, Ended}
use Rattle.lynx_meaning.specs.Needs.{Closing}
use Rattle.lynx_meaning.specs.Values.{Value}
use Rattle.machine_turns.specs.Threads.{Standing, Went, Acts, Ends, acted, answers, is_fresh, last_action, made}
use Rattle.machine_thread.specs.Closes.{lasting, raising, kept_depth}
use Rattle.lynx_code.specs.declared.instruction.Instruction.TheVariants as code
use Rattle.machine_steps.specs.Operands.{does}

-- a try again is over where there is one open try less
fewer : (n : ℕ) → nat_eq (suc n) n ≡ false
fewer n = grind (arith, nat_tests)

and_false : (b : Bool) → (b && false) ≡ false
and_false true = refl
and_false false = refl

is_over : (b : Bool) (n : ℕ) → (b && nat_eq (suc n) n) ≡ false
is_over b n = ap (λ c. b && c) (fewer n) ∙ and_false b

-- amid an instruction, with these outcomes that it has not heard
abbrev amid : List Value → List Value → List Outcome → List Action → Moment
amid globals locals os actions = record { store = record { globals = globals; locals = locals }; answers = answers globals os; actions = actions }

abbrev with_closes : ℕ → List Action → List Action
with_closes zero actions = actions
with_closes (suc k) actions = with_closes k (actions ++ Close ∷ [])

last_of : (actions : List Action) (a : Action) → last_action (actions ++ a ∷ []) ≡ Some a
last_of [] a = refl
last_of (b ∷ []) a = refl
last_of (b ∷ c ∷ rest) a = last_of (c ∷ rest) a

-- there is an outcome for each close
heard_all : (k : ℕ) (x : Exception) (globals locals : List Value) (os : List Outcome) (actions : List Action) (next : Exception → Moment → Next) → k ≤ length os →
    closes k x (amid globals locals os actions) next ≡ next (lasting x (take k os)) (amid globals locals (drop k os) (with_closes k actions))
heard_all zero x globals locals os actions next fits = refl
heard_all (suc k) x globals locals [] actions next fits = absurd (not-suc-le-zero fits)
heard_all (suc k) x globals locals (o ∷ os) actions next fits = heard_all k (instead o x) globals locals os (actions ++ Close ∷ []) next (le_of_suc-le-suc fits)

-- there is none for one of them
waits : (k : ℕ) (x : Exception) (globals locals : List Value) (os : List Outcome) (actions : List Action) (next : Exception → Moment → Next) → length os < k →
    closes k x (amid globals locals os actions) next ≡ Over (Comes (Waits (with_closes (length os) actions ++ Close ∷ []) (record { globals = globals; locals = locals })))
waits zero x globals locals os actions next fits = absurd (not-suc-le-zero fits)
waits (suc k) x globals locals [] actions next fits = refl
waits (suc k) x globals locals (o ∷ os) actions next fits = waits k (instead o x) globals locals os (actions ++ Close ∷ []) next (le_of_suc-le-suc fits)

-- a close is asked for
asks_close : (b : Bool) (s : Standing) (globals locals : List Value) (actions : List Action) →
    made b s (Over (Comes (Waits (actions ++ Close ∷ []) (record { globals = globals; locals = locals })))) ≡ Acts Close globals (record s { wanted = Some Closing })
asks_close b s globals locals actions = ap (λ (a : Option Action). acted a globals s) (last_of actions Close)

-- each open request is closed, and has an outcome of that
ended_all : (requests : List ℕ) (globals locals : List Value) (os : List Outcome) (actions : List Action) → length requests ≤ length os →
    ends requests (amid globals locals os actions) ≡ Over (Comes (Ended (with_closes (length requests) actions) (record { globals = globals; locals = locals })))
ended_all [] globals locals os actions fits = refl
ended_all (op ∷ requests) globals locals [] actions fits = absurd (not-suc-le-zero fits)
ended_all (op ∷ requests) globals locals (o ∷ os) actions fits = ended_all requests globals locals os (actions ++ Close ∷ []) (le_of_suc-le-suc fits)

-- one has none
end_waits : (requests : List ℕ) (globals locals : List Value) (os : List Outcome) (actions : List Action) → length os < length requests →
    ends requests (amid globals locals os actions) ≡ Over (Comes (Waits (with_closes (length os) actions ++ Close ∷ []) (record { globals = globals; locals = locals })))
end_waits [] globals locals os actions fits = absurd (not-suc-le-zero fits)
end_waits (op ∷ requests) globals locals [] actions fits = refl
end_waits (op ∷ requests) globals locals (o ∷ os) actions fits = end_waits requests globals locals os (actions ++ Close ∷ []) (le_of_suc-le-suc fits)

-- ---- exceptions

-- at the handlers of a try
abbrev handled : ℕ → ℕ → Opened → List Opened → Standing → Exception → Moment → Next
handled taken closed o tries s other now =
    Goes (record { address = o.handlers; stack = cut o.height (drop taken s.stack); tries = tries; requests = cut o.depth (drop closed s.requests); pending = Some other; moment = now })

module _ (b : Bool) (globals : List Value) (actions : List Action) (x : Exception) (taken heard closed : ℕ) where
  asks_in : (s : Standing) (tries : List Opened) → length (drop heard s.given) < length (drop closed s.requests) - kept_depth tries →
      made b s (raises_in x (raising globals actions taken heard closed s) tries) ≡ Acts Close globals (record s { wanted = Some Closing })
  asks_in s [] fewer =
      ap (made b s) (end_waits (drop closed s.requests) globals s.locals (drop heard s.given) actions (omega arith))
      ∙ asks_close b s globals s.locals (with_closes (length (drop heard s.given)) actions)
  asks_in s (o ∷ tries) fewer =
      ap (made b s) (waits (length (drop closed s.requests) - o.depth) x globals s.locals (drop heard s.given) actions (handled taken closed o tries s) fewer)
      ∙ asks_close b s globals s.locals (with_closes (length (drop heard s.given)) actions)

  -- it asks for a close
  pub raise_asks : (s : Standing) → length s.given - heard < length s.requests - closed - kept_depth s.tries →
      made b s (raises x (raising globals actions taken heard closed s)) ≡ Acts Close globals (record s { wanted = Some Closing })
  raise_asks s fewer = asks_in s s.tries (omega (arith, fewer, length-drop heard s.given, length-drop closed s.requests))

  -- it goes to the handlers of the innermost open try
  raise_lands : (s : Standing) (o : Opened) → length (drop closed s.requests) - o.depth ≤ length (drop heard s.given) →
      made b (record s { tries = o ∷ s.tries }) (raises x (raising globals actions taken heard closed (record s { tries = o ∷ s.tries }))) ≡
      Went globals (record s { address = o.handlers; stack = cut o.height (drop taken s.stack); requests = cut o.depth (drop closed s.requests); pending = Some (lasting x (take (length (drop closed s.requests) - o.depth) (drop heard s.given))); given = []; wanted = None; again = false })
  raise_lands s o fits =
      ap (made b (record s { tries = o ∷ s.tries })) (heard_all (length (drop closed s.requests) - o.depth) x globals s.locals (drop heard s.given) actions (handled taken closed o s.tries s) fits)
      ∙ ap
      (λ (again : Bool). Went globals
      (record s { address = o.handlers; stack = cut o.height (drop taken s.stack); requests = cut o.depth (drop closed s.requests); pending = Some (lasting x (take (length (drop closed s.requests) - o.depth) (drop heard s.given))); given = []; wanted = None; again = again }))
      (is_over (if b then not (is_fresh s) else s.again) (length s.tries))

  -- it ends the thread
  ends_in : (s : Standing) (tries : List Opened) → tries ≡ [] → length (drop closed s.requests) ≤ length (drop heard s.given) →
      made b s (raises_in x (raising globals actions taken heard closed s) tries) ≡ Ends globals
  ends_in s [] none fits = ap (made b s) (ended_all (drop closed s.requests) globals s.locals (drop heard s.given) actions fits)
  ends_in s (o ∷ tries) none fits = cc

-- ---- the end

pub end_asks : (p : Program) (globals : List Value) (s : Standing) → length s.given < length s.requests → does p code.End globals s ≡ Acts Close globals (record s { wanted = Some Closing })
end_asks p globals s fewer =
    ap (made false s) (end_waits s.requests globals s.locals s.given [] fewer) ∙ asks_close false s globals s.locals (with_closes (length s.given) [])

pub end_closed : (p : Program) (globals : List Value) (s : Standing) → length s.requests ≤ length s.given → does p code.End globals s ≡ Ends globals
end_closed p globals s all = ap (made false s) (ended_all s.requests globals s.locals s.given [] all)

-- ---- as the code comes to it

module _ (b : Bool) (globals : List Value) (actions : List Action) (x : Exception) (taken heard closed closes_made : ℕ) where
  -- a try was open
  pub landed : (s now : Standing) (o : Opened) (y : Exception) → s ≡ record now { tries = o ∷ now.tries } → closes_made ≡ length s.requests - closed - kept_depth s.tries → closes_made ≤ length s.given - heard →
      y ≡ lasting x (take closes_made (drop heard s.given)) →
      Went globals (record now { address = o.handlers; stack = cut o.height (drop taken now.stack); requests = cut o.depth (drop closed now.requests); pending = Some y; given = []; wanted = None; again = false }) ≡
      made b s (raises x (raising globals actions taken heard closed s))
  landed s now o y is size fits same =
      subst
      (λ (u : Standing). closes_made ≡ length u.requests - closed - kept_depth u.tries → closes_made ≤ length u.given - heard → y ≡ lasting x (take closes_made (drop heard u.given)) →
      Went globals (record now { address = o.handlers; stack = cut o.height (drop taken now.stack); requests = cut o.depth (drop closed now.requests); pending = Some y; given = []; wanted = None; again = false }) ≡
      made b u (raises x (raising globals actions taken heard closed u)))
      (sym is)
      (λ size fits same. there size fits same)
      size
      fits
      same
    where
      there : closes_made ≡ length now.requests - closed - o.depth → closes_made ≤ length now.given - heard → y ≡ lasting x (take closes_made (drop heard now.given)) →
          Went globals (record now { address = o.handlers; stack = cut o.height (drop taken now.stack); requests = cut o.depth (drop closed now.requests); pending = Some y; given = []; wanted = None; again = false }) ≡
          made b (record now { tries = o ∷ now.tries }) (raises x (raising globals actions taken heard closed (record now { tries = o ∷ now.tries })))
      there size fits same =
          let many : closes_made ≡ length (drop closed now.requests) - o.depth = omega (arith, size, length-drop closed now.requests) in
          ap
          (λ (z : Exception). Went globals (record now { address = o.handlers; stack = cut o.height (drop taken now.stack); requests = cut o.depth (drop closed now.requests); pending = Some z; given = []; wanted = None; again = false }))
          (same ∙ ap (λ (k : ℕ). lasting x (take k (drop heard now.given))) many)
          ∙ sym (raise_lands b globals actions x taken heard closed now o (omega (arith, many, fits, length-drop heard now.given)))

  -- none was
  pub ended : (s : Standing) → s.tries ≡ [] → closes_made ≡ length s.requests - closed - kept_depth s.tries → closes_made ≤ length s.given - heard → Ends globals ≡ made b s (raises x (raising globals actions taken heard closed s))
  ended s none size fits =
      let kept : kept_depth s.tries ≡ 0 = ap kept_depth none in
      sym (ends_in b globals actions x taken heard closed s s.tries none (omega (arith, size, kept, fits, length-drop heard s.given, length-drop closed s.requests)))
