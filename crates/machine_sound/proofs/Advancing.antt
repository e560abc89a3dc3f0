-- What a turn comes to: it takes fuel, comes behind an instruction that was given something, or asks for an action.
use Rattle.std.proofs.Common.{arith, ◌≡◌, ℕ, zero, suc, ◌+◌, ◌*◌, ◌-◌, ◌<◌, ◌≤◌, List, [], ◌∷◌, Bool, true, false, if◌then◌else◌, Option, Some, None, slice_get, slice_set, refl, sym, ap, subst, ◌∙◌}
use Rattle.lynx_meaning.specs.Code.{Next, Goes, Over, Comes, Stuck, Program}
use Rattle.lynx_meaning.specs.Courses.{Action, New, Destroy, Bind, Unbind, Connect, Accept, Close, Reply, Write, Await, Stop, Ended, Waits, Out}
use Rattle.lynx_meaning.specs.Values.{Value}
use Rattle.machine_turns.specs.Threads.{Standing, Made, Went, Acts, Awaits, Ends, Broken, acted, if_went, comes_of, course, fuel_after, goes_on, is_await, is_fresh, last_action, made}
use Rattle.lynx_meaning.specs.Needs.{wanted_by}
use Rattle.machine_turns.specs.Turns.{Turns, comes}
use Rattle.machine_turns.specs.Turns as turns
use Rattle.machine_sound.specs.Weights.{amid, amid_there, count_amid, one_unless, weight}
use Rattle.machine_sound.proofs.Trying.{IsNoTry, given_is_no_try}

-- ---- how many threads stand amid an instruction

count_set : (ts : List (Option Standing)) (n : ℕ) (s : Standing) (o : Option Standing) → slice_get ts n ≡ Some (Some s) → count_amid (slice_set ts n o) + amid s ≡ count_amid ts + amid_there o
count_set [] n s o here = cc
count_set (t ∷ ts) zero s o here =
    let same : t ≡ Some s = cc in
    let size = ap amid_there same in
    omega arith
count_set (t ∷ ts) (suc n) s o here = let rest = count_set ts n s o here in omega arith

-- ---- one instruction

-- the thread stands before an instruction that has not begun, or wants what its action needs
abbrev IsBehind : Made → Type 0
IsBehind (Went globals s) = is_fresh s ≡ true
IsBehind (Acts a globals s) = s.wanted ≡ Some (wanted_by a)
IsBehind (Awaits globals s) = Unit {0}
IsBehind (Ends globals) = Unit {0}
IsBehind Broken = Unit {0}

acted_behind : (o : Option Action) (globals : List Value) (s : Standing) → IsBehind (acted o globals s)
acted_behind None globals s = tt
acted_behind (Some New) globals s = refl
acted_behind (Some (Destroy link)) globals s = refl
acted_behind (Some (Bind link entry)) globals s = refl
acted_behind (Some (Unbind link entry)) globals s = refl
acted_behind (Some (Connect link op values)) globals s = refl
acted_behind (Some (Accept link op)) globals s = refl
acted_behind (Some Close) globals s = refl
acted_behind (Some (Reply values)) globals s = refl
acted_behind (Some (Write text)) globals s = refl
acted_behind (Some Await) globals s = tt
acted_behind (Some Stop) globals s = refl

made_behind : (awaits : Bool) (s : Standing) (next : Next) → IsBehind (made awaits s next)
made_behind awaits s (Goes now) = refl
made_behind awaits s (Over (Comes (Waits actions store))) = acted_behind (last_action actions) store.globals s
made_behind awaits s (Over (Comes (Ended actions store))) = tt
made_behind awaits s (Over (Comes (Out actions))) = tt
made_behind awaits s (Over Stuck) = tt

comes_behind : (p : Program) (globals : List Value) (s : Standing) → IsBehind (comes_of p globals s)
comes_behind p globals s = made_behind (is_await (slice_get p.instructions s.address)) s (goes_on p globals s)

-- with so much fuel left, less can be done than before, or the thread wants what its action needs
abbrev pub Advances : ℕ → ℕ → ℕ → Made → Type 0
Advances fuel here left (Went globals s) = 2 * left + amid s < 2 * fuel + here
Advances fuel here left (Acts a globals s) = s.wanted ≡ Some (wanted_by a)
Advances fuel here left (Awaits globals s) = 2 * left + amid s < 2 * fuel + here
Advances fuel here left (Ends globals) = 2 * left < 2 * fuel + here
Advances fuel here left Broken = Unit {0}

pub at_most_one : (b : Bool) → one_unless b ≤ 1
at_most_one true = omega arith
at_most_one false = omega arith

advances_by : (fuel : ℕ) (fresh : Bool) (last : Made) → IsBehind last → (fresh ≡ false → IsNoTry last) → Advances (suc fuel) (one_unless fresh) (if fresh then suc fuel - 1 else suc fuel) last
advances_by fuel true (Went globals s) behind try = let most = at_most_one (is_fresh s) in omega arith
advances_by fuel true (Acts a globals s) behind try = behind
advances_by fuel true (Awaits globals s) behind try = let most = at_most_one (is_fresh s) in omega arith
advances_by fuel true (Ends globals) behind try = omega arith
advances_by fuel true Broken behind try = tt
advances_by fuel false (Went globals s) behind try = let none = ap one_unless behind in omega arith
advances_by fuel false (Acts a globals s) behind try = behind
advances_by fuel false (Awaits globals s) behind try = absurd (try refl)
advances_by fuel false (Ends globals) behind try = omega arith
advances_by fuel false Broken behind try = tt

pub first_advances : (p : Program) (fuel : ℕ) (globals : List Value) (s : Standing) → Advances (suc fuel) (amid s) (fuel_after (suc fuel) s) (comes_of p globals s)
first_advances p fuel globals s = advances_by fuel (is_fresh s) (comes_of p globals s) (comes_behind p globals s) (λ some. given_is_no_try p globals s some)

-- ---- a turn

wider : (fuel more here there left : ℕ) (last : Made) → 2 * fuel + here < 2 * more + there → Advances fuel here left last → Advances more there left last
wider fuel more here there left (Went globals s) less advances = omega arith
wider fuel more here there left (Acts a globals s) less advances = advances
wider fuel more here there left (Awaits globals s) less advances = omega arith
wider fuel more here there left (Ends globals) less advances = omega arith
wider fuel more here there left Broken less advances = tt

module _ (p : Program) where
  same_advances : (fuel here now left : ℕ) (first last : Made) → Advances fuel here now first → ◌≡◌ {A = ℕ × Made} (now, first) (left, last) → Advances fuel here left last
  same_advances fuel here now left first last advances e = subst (λ (q : ℕ × Made). Advances fuel here q.0 q.1) e advances

  -- what is said of turns of so many instructions at most
  abbrev Turn : ℕ → Type 0
  Turn k = (fuel left : ℕ) (globals : List Value) (s : Standing) (last : Made) → ◌≡◌ {A = ℕ × Made} (course p (suc k) (suc fuel) globals s) (left, last) → Advances (suc fuel) (amid s) left last

  -- it went on, and makes so many instructions more at most
  more_advances : (k fuel here now left : ℕ) (globals : List Value) (s : Standing) (last : Made) → ((j : ℕ) → k ≡ suc j → Turn j) → 2 * now + amid s < 2 * fuel + here → ◌≡◌ {A = ℕ × Made} (course p k now globals s) (left, last) → Advances fuel here left last
  more_advances zero fuel here now left globals s last turn advances e = same_advances fuel here now left (Went globals s) last advances e
  more_advances (suc k) fuel here zero left globals s last turn advances e = same_advances fuel here zero left (Went globals s) last advances e
  more_advances (suc k) fuel here (suc now) left globals s last turn advances e = wider (suc now) fuel (amid s) here left last advances (turn k refl now left globals s last e)

  after_first : (k fuel here now left : ℕ) (first last : Made) → ((j : ℕ) → k ≡ suc j → Turn j) → Advances fuel here now first → ◌≡◌ {A = ℕ × Made} (if_went first (λ globals s. course p k now globals s) (λ over. (now, over))) (left, last) → Advances fuel here left last
  after_first k fuel here now left (Went globals s) last turn advances e = more_advances k fuel here now left globals s last turn advances e
  after_first k fuel here now left (Acts a globals s) last turn advances e = same_advances fuel here now left (Acts a globals s) last advances e
  after_first k fuel here now left (Awaits globals s) last turn advances e = same_advances fuel here now left (Awaits globals s) last advances e
  after_first k fuel here now left (Ends globals) last turn advances e = same_advances fuel here now left (Ends globals) last advances e
  after_first k fuel here now left Broken last turn advances e = same_advances fuel here now left Broken last advances e

  none_before : (j : ℕ) → zero ≡ suc j → Turn j
  none_before j e = absurd (omega (arith, e))

  one_before : (k j : ℕ) → suc k ≡ suc j → Turn k → Turn j
  one_before k j e turn = let same : k ≡ j = omega (arith, e) in subst (λ (i : ℕ). Turn i) same turn

  pub turn_advances : (k : ℕ) → Turn k
  turn_advances zero fuel left globals s last e =
      after_first zero (suc fuel) (amid s) (fuel_after (suc fuel) s) left (comes_of p globals s) last none_before (first_advances p fuel globals s) e
  turn_advances (suc k) fuel left globals s last e =
      after_first (suc k) (suc fuel) (amid s) (fuel_after (suc fuel) s) left (comes_of p globals s) last (λ j same. one_before k j same (turn_advances k)) (first_advances p fuel globals s) e

-- ---- all threads

threads_goes : (fuel left : ℕ) (t u : Turns) → turns.RunsOn fuel t ≡ turns.RunsOn left u → (fuel ≡ left) × (t ≡ u)
threads_goes fuel left t u e = (cc, cc)

weighs : (fuel here left n : ℕ) (before t : Turns) (s : Standing) (o : Option Standing) (left_now : ℕ) (u : Turns) → slice_get before.threads n ≡ Some (Some s) → t.threads ≡ slice_set before.threads n o → 2 * left + amid_there o < 2 * fuel + amid s →
    turns.RunsOn left t ≡ turns.RunsOn left_now u → weight left_now u < weight fuel before
weighs fuel here left n before t s o left_now u there changed advances e =
    let same = threads_goes left left_now t u e in
    let threads : count_amid u.threads ≡ count_amid (slice_set before.threads n o) = ap (λ (v : Turns). count_amid v.threads) (sym same.1) ∙ ap count_amid changed in
    let size = count_set before.threads n s o there in
    let left_same = same.0 in
    omega arith

pub turn_weighs : (fuel left n : ℕ) (t : Turns) (s : Standing) (last : Made) (left_now : ℕ) (u : Turns) → slice_get t.threads n ≡ Some (Some s) → Advances fuel (amid s) left last → comes left n t last ≡ turns.RunsOn left_now u →
    weight left_now u < weight fuel t
turn_weighs fuel left n t s (Went globals v) left_now u there advances e =
    weighs fuel (amid s) left n t (turns.with_thread n (Some v) (record t { globals = globals; running = Some n })) s (Some v) left_now u there refl advances e
turn_weighs fuel left n t s (Acts a globals v) left_now u there advances e = cc
turn_weighs fuel left n t s (Awaits globals v) left_now u there advances e = by_again v.again e
  where
    by_again : (again : Bool) → turns.RunsOn left (turns.with_thread n (Some v) (turns.awaits n again (record t { globals = globals }))) ≡ turns.RunsOn left_now u → weight left_now u < weight fuel t
    by_again true e = weighs fuel (amid s) left n t (turns.with_thread n (Some v) (turns.awaits n true (record t { globals = globals }))) s (Some v) left_now u there refl advances e
    by_again false e = weighs fuel (amid s) left n t (turns.with_thread n (Some v) (turns.awaits n false (record t { globals = globals }))) s (Some v) left_now u there refl advances e
turn_weighs fuel left n t s (Ends globals) left_now u there advances e =
    let none : 2 * left + 0 < 2 * fuel + amid s = omega arith in
    weighs fuel (amid s) left n t (turns.with_thread n None (turns.wakes (record t { globals = globals }))) s None left_now u there refl none e
turn_weighs fuel left n t s Broken left_now u there advances e = cc
