-- What a thread was given its instruction hears, and a thread that is blocked waits whatever the variables of the module are.
use Rattle.std.proofs.Common.{◌≡◌, ℕ, List, [], ◌∷◌, ◌++◌, Bool, true, false, nat_le, if◌then◌else◌, Option, Some, None, Ok, length, take, drop, reverse, slice_get, refl, sym, ap, subst, ◌∙◌}
use Rattle.std.proofs.lemmas.List.{map-append}
use Rattle.lynx_code.specs.declared.instruction.Instruction.{Instruction}
use Rattle.lynx_code.specs.declared.instruction.Instruction.TheVariants as code
use Rattle.lynx_meaning.specs.Code.{Next, Thread, Program, Goes, Over, Comes, Stuck, with_outcome, asks, by_link, by_truth, by_values, connects, fetched, goes, stuck, tries_again}
use Rattle.lynx_meaning.specs.Courses.{Action, Answer, Outcome, Connect, Accept, Await, Ended, Waits, Out}
use Rattle.lynx_meaning.specs.Needs.{Wanted, Closing, wanted_by}
use Rattle.lynx_meaning.specs.Values.{Value, Truth, Link}
use Rattle.code_shapes.specs.Shapes.{ModuleTypes, Shapes, AreShapes, PartTypes, program}
use Rattle.machine_turns.specs.Threads.{Standing, Made, Went, Acts, Awaits, Ends, Broken, acted, answers, comes_of, goes_on, in_turn, is_await, last_action, made, stands_at}
use Rattle.machine_turns.specs.Threads as threads
use Rattle.machine_turns.specs.Turns.{is_ready_after}
use Rattle.machine_never_stuck.specs.Sound.{EndInAction, IsSound, needs}
use Rattle.machine_sound.specs.Sound.{IsSoundThread}
use Rattle.machine_sound.proofs.Keeping.{last_of, some_wanted}
use Rattle.machine_sound.proofs.Trying.{waits_with}
use Rattle.machine_requests.specs.Open.{later_wanted}
use Rattle.machine_requests.specs.Heard.{Asks, HearsAll, IsHeard}
use Rattle.machine_requests.proofs.Steps.{AreInOrder, Blocks, IsFirst, IsLater, Tells, Told, WaitsHere, before, fetching}
use Rattle.machine_requests.proofs.Amid.{asked_next, next_wanted, of_acted, sound, told}

-- ---- waiting

-- it waits for this action
abbrev pub WaitsFor : Action → Next → Type 0
WaitsFor a (Over (Comes (Waits actions store))) = last_action actions ≡ Some a
WaitsFor a _ = ⊥

waits_here : (a : Action) (next : Next) → WaitsFor a next → WaitsHere next
waits_here a (Over (Comes (Waits actions store))) is = tt
waits_here a _ is = absurd is

waits_hear : (a : Action) (next : Next) → WaitsFor a next → HearsAll next
waits_hear a (Over (Comes (Waits actions store))) is = tt
waits_hear a _ is = absurd is

waits_ask : (a : Action) (next : Next) → WaitsFor a next → (a ≡ Await → ⊥) → Asks (wanted_by a) next
waits_ask a (Over (Comes (Waits actions store))) is other = (a, is, refl, other)
waits_ask a _ is other = absurd is

pub asks_waits : (w : Wanted) (next : Next) → Asks w next → WaitsHere next
asks_waits w (Over (Comes (Waits actions store))) is = tt
asks_waits w _ is = absurd is

-- ---- whatever the variables of the module are

module _ (a : Action) where
  by_choice : (b : Bool) (one other : Next) → (WaitsFor a one → WaitsFor a other) → WaitsFor a (if b then one else stuck) → WaitsFor a (if b then other else stuck)
  by_choice true one other onward is = onward is
  by_choice false one other onward is = absurd is

  with_link : (one other : Value → List Value → Next) (stack : List Value) → ((l : Value) (rest : List Value) → WaitsFor a (one l rest) → WaitsFor a (other l rest)) → WaitsFor a (by_link one stack) → WaitsFor a (by_link other stack)
  with_link one other (Link n ∷ stack) onward is = onward (Link n) stack is
  with_link one other _ onward is = absurd is

  with_values : (k : ℕ) (one other : List Value → List Value → Next) (stack : List Value) → ((vs rest : List Value) → WaitsFor a (one vs rest) → WaitsFor a (other vs rest)) → WaitsFor a (by_values k one stack) → WaitsFor a (by_values k other stack)
  with_values k one other stack onward is =
      by_choice (nat_le k (length stack)) (one (reverse (take k stack)) (drop k stack)) (other (reverse (take k stack)) (drop k stack)) (onward (reverse (take k stack)) (drop k stack)) is

  with_truth : (one other : Bool → List Value → Next) (stack : List Value) → ((b : Bool) (rest : List Value) → WaitsFor a (one b rest) → WaitsFor a (other b rest)) → WaitsFor a (by_truth one stack) → WaitsFor a (by_truth other stack)
  with_truth one other (Truth b ∷ stack) onward is = onward b stack is
  with_truth one other _ onward is = absurd is

  module _ (p : Program) (s : Standing) (globals now : List Value) where
    -- the thread before its instruction, with these variables
    abbrev fresh : List Value → Thread
    fresh them = before (in_turn them s) []

    connecting : (op : ℕ) (o : Option ℕ) → WaitsFor a (connects op o (fresh globals)) → WaitsFor a (connects op o (fresh now))
    connecting op None is = absurd is
    connecting op (Some arguments) is =
        with_link (λ link below. by_values arguments (λ vs stack. asks (Connect link op vs) stack (fresh globals) (λ it. it)) below)
        (λ link below. by_values arguments (λ vs stack. asks (Connect link op vs) stack (fresh now) (λ it. it)) below) s.stack
        (λ link below same.
        with_values arguments (λ vs stack. asks (Connect link op vs) stack (fresh globals) (λ it. it)) (λ vs stack. asks (Connect link op vs) stack (fresh now) (λ it. it)) below (λ vs rest e. e) same)
        is

    awaiting : (address : ℕ) (b : Bool) (rest : List Value) →
        WaitsFor a (if b then goes rest (fresh globals) else with_outcome (fresh globals).moment Await (λ given then_now. tries_again address given (record (fresh globals) { moment = then_now; stack = rest }))) →
        WaitsFor a (if b then goes rest (fresh now) else with_outcome (fresh now).moment Await (λ given then_now. tries_again address given (record (fresh now) { moment = then_now; stack = rest })))
    awaiting address true rest is = absurd is
    awaiting address false rest is = is

    waits_anyhow : (o : Option Instruction) → Blocks o → WaitsFor a (fetched p (fresh globals) o) → WaitsFor a (fetched p (fresh now) o)
    waits_anyhow (Some (code.Connect op)) blocks is = connecting op (slice_get p.arguments op) is
    waits_anyhow (Some (code.Accept op)) blocks is =
        with_link (λ link stack. asks (Accept link op) stack (fresh globals) (λ it. record it { requests = op ∷ it.requests }))
        (λ link stack. asks (Accept link op) stack (fresh now) (λ it. record it { requests = op ∷ it.requests })) s.stack (λ link rest e. e) is
    waits_anyhow (Some (code.Await address)) blocks is =
        with_truth (λ b stack. if b then goes stack (fresh globals) else with_outcome (fresh globals).moment Await (λ given then_now. tries_again address given (record (fresh globals) { moment = then_now; stack = stack })))
        (λ b stack. if b then goes stack (fresh now) else with_outcome (fresh now).moment Await (λ given then_now. tries_again address given (record (fresh now) { moment = then_now; stack = stack }))) s.stack
        (λ b rest e. awaiting address b rest e) is
    waits_anyhow _ blocks is = absurd blocks

-- ---- one thread

-- a connect, an accept or an await
abbrev IsBlocking : Action → Type 0
IsBlocking (Connect link op values) = Unit {0}
IsBlocking (Accept link op) = Unit {0}
IsBlocking Await = Unit {0}
IsBlocking _ = ⊥

tells_blocks : (i : Option Instruction) (a : Action) → IsBlocking a → Tells i a → Blocks i
tells_blocks i (Connect link op values) is tells = tells
tells_blocks i (Accept link op) is tells = tells
tells_blocks i Await is tells = tells
tells_blocks i _ is tells = absurd is

later_closes : (i : Option Instruction) → Blocks i → later_wanted i ≡ Closing
later_closes (Some (code.Connect op)) blocks = refl
later_closes (Some (code.Accept op)) blocks = refl
later_closes (Some (code.Await address)) blocks = refl
later_closes _ blocks = absurd blocks

no_close : (a : Action) → IsBlocking a → wanted_by a ≡ Closing → ⊥
no_close (Connect link op values) is e = cc
no_close (Accept link op) is e = cc
no_close Await is e = cc
no_close _ is e = absurd is

-- a blocking action is the first one
none_given : (i : Option Instruction) (a : Action) (given : List Outcome) → IsBlocking a → Blocks i → wanted_by a ≡ next_wanted i (length given) → given ≡ []
none_given i a [] is blocks e = refl
none_given i a (o ∷ os) is blocks e = absurd (no_close a is (e ∙ later_closes i blocks))

-- a thread that was given nothing, and wants nothing
pub fresh_heard : (p : Program) (globals : List Value) (s : Standing) → IsHeard p globals (record s { given = []; wanted = None })
fresh_heard p globals s = record {
  hears = (fetching p (in_turn globals s) (slice_get p.instructions s.address)).none;
  asks = λ w e. absurd (some_wanted w e);
}

-- a thread that waits hears one outcome more
pub given_heard : (p : Program) (globals : List Value) (s : Standing) (o : Outcome) → WaitsHere (goes_on p globals s) → IsHeard p globals (record s { given = s.given ++ o ∷ []; wanted = None })
given_heard p globals s o waits = record {
  hears = subst (λ (L : List Answer). HearsAll (fetched p (before (in_turn globals s) L) (slice_get p.instructions s.address)))
      (sym (map-append (λ (g : Outcome). record { given = g; globals = globals }) s.given (o ∷ [])))
      ((fetching p (in_turn globals s) (slice_get p.instructions s.address)).more (answers globals s.given) (record { given = o; globals = globals }) waits);
  asks = λ w e. absurd (some_wanted w e);
}

-- ---- what comes of an instruction

module _ (m : ModuleTypes) (instructions : List Instruction) (globals : List Value) (s : Standing) where
  abbrev p : Program
  p = program m instructions

  abbrev i : Option Instruction
  i = slice_get instructions s.address

  -- the thread is heard whatever the variables of the module are, or where it keeps its turn with those as they stand
  abbrev pub HeardMade : Made → Type 0
  HeardMade (Went now u) = (them : List Value) → IsHeard p them u
  HeardMade (Acts a now u) = (now ≡ globals) × ((them : List Value) → (is_ready_after (Some (wanted_by a)) ≡ false → them ≡ globals) → IsHeard p them u)
  HeardMade (Awaits now u) = (them : List Value) → IsHeard p them u
  HeardMade (Ends now) = Unit {0}
  HeardMade Broken = ⊥

  -- what its action tells
  abbrev ComesNext : Action → Type 0
  ComesNext a = (wanted_by a ≡ next_wanted i (length s.given)) × Tells i a

  anyhow : (a : Action) → IsBlocking a → ComesNext a → WaitsFor a (goes_on p globals s) → (them : List Value) → WaitsFor a (goes_on p them s)
  anyhow a blocking next waits them =
      let blocks = tells_blocks i a blocking next.1 in
      let none = none_given i a s.given blocking blocks next.0 in
      subst (λ (os : List Outcome). WaitsFor a (fetched p (before (in_turn them s) (answers them os)) i)) (sym none)
      (waits_anyhow a p s globals them i blocks (subst (λ (os : List Outcome). WaitsFor a (fetched p (before (in_turn globals s) (answers globals os)) i)) none waits))

  acts_anyhow : (a : Action) → ComesNext a → WaitsFor a (goes_on p globals s) → (them : List Value) → (is_ready_after (Some (wanted_by a)) ≡ false → them ≡ globals) → WaitsFor a (goes_on p them s)
  acts_anyhow (Connect link op values) next waits them same = anyhow (Connect link op values) tt next waits them
  acts_anyhow (Accept link op) next waits them same = anyhow (Accept link op) tt next waits them
  acts_anyhow a next waits them same = subst (λ (vs : List Value). WaitsFor a (goes_on p vs s)) (sym (same refl)) waits

  acts_heard : (a : Action) → (a ≡ Await → ⊥) → ComesNext a → WaitsFor a (goes_on p globals s) → (them : List Value) → (is_ready_after (Some (wanted_by a)) ≡ false → them ≡ globals) →
      IsHeard p them (record s { wanted = Some (wanted_by a) })
  acts_heard a other next waits them same =
      let anyhow_waits = acts_anyhow a next waits them same in
      record {
        hears = waits_hear a (goes_on p them s) anyhow_waits;
        asks = λ w e.
            let wants : wanted_by a ≡ w = cc in
            subst (λ (v : Wanted). Asks v (goes_on p them s)) wants (waits_ask a (goes_on p them s) anyhow_waits other);
      }

  no_await : (w : Wanted) (next : Next) → WaitsFor Await next → Asks w next → ⊥
  no_await w (Over (Comes (Waits actions store))) is asks =
      let same : Some asks.0 ≡ Some Await = sym asks.1 ∙ is in
      asks.3 cc
  no_await w _ is asks = absurd is

  awaits_heard : ComesNext Await → WaitsFor Await (goes_on p globals s) → IsHeard p globals s → (them : List Value) → IsHeard p them (record s { given = s.given ++ Ok [] ∷ [] })
  awaits_heard next waits heard them = record {
    hears = (given_heard p them s (Ok []) (waits_here Await (goes_on p them s) (anyhow Await tt next waits them))).hears;
    asks = λ w e. absurd (no_await w (goes_on p globals s) waits (heard.asks w e));
  }

  waits_heard : (actions : List Action) (now : List Value) → now ≡ globals → ((a : Action) → last_action actions ≡ Some a → WaitsFor a (goes_on p globals s)) → EndInAction m (needs m i) (in_turn globals s) actions → AreInOrder (IsFirst i) (IsLater i) actions → IsHeard p globals s →
      HeardMade (acted (last_action actions) now s)
  waits_heard actions now same waiting end order heard =
      let last : last_action actions ≡ Some end.action = ap last_action end.last ∙ last_of end.before end.action in
      let waits : WaitsFor end.action (goes_on p globals s) = waiting end.action last in
      let next = asked_next m instructions globals s actions order end in
      subst (λ (o : Option Action). HeardMade (acted o now s)) (sym last)
      (of_acted HeardMade end.action now s
      (λ e. awaits_heard (subst ComesNext e next) (subst (λ (a : Action). WaitsFor a (goes_on p globals s)) e waits) heard)
      (λ other. (same, acts_heard end.action other next waits)))

  of_next : (shapes : Shapes) (b : Bool) (next : Next) → goes_on p globals s ≡ next → IsSound m shapes (needs m i) (in_turn globals s) next → Told (IsFirst i) (IsLater i) next → IsHeard p globals s → HeardMade (made b s next)
  of_next shapes b (Goes now) e sound order heard = λ them. fresh_heard p them (stands_at now (threads.tries_again b s now) s)
  of_next shapes b (Over (Comes (Waits actions store))) e sound order heard =
      waits_heard actions store.globals (waits_with p globals s actions store e) (λ a last. subst (WaitsFor a) (sym e) last) sound.0 order heard
  of_next shapes b (Over (Comes (Ended actions store))) e sound order heard = tt
  of_next shapes b (Over (Comes (Out actions))) e sound order heard = absurd sound
  of_next shapes b (Over Stuck) e sound order heard = absurd sound

  pub made_heard : (parts : List PartTypes) (shapes : Shapes) → AreShapes m parts instructions shapes → IsSoundThread m instructions shapes globals s → IsHeard p globals s → HeardMade (comes_of p globals s)
  made_heard parts shapes are is heard =
      of_next shapes (is_await i) (goes_on p globals s) refl (sound m instructions globals s parts shapes are is) (told m instructions globals s parts shapes are is) heard
