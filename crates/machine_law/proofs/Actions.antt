-- How many actions: what moves ask for is paid by their fuel, and by requests.
use Rattle.std.proofs.Common.{arith, ◌≡◌, ℕ, ◌+◌, ◌-◌, ◌≤◌, ◌<◌, List, [], ◌∷◌, ◌++◌, length, replicate, Bool, true, false, if◌then◌else◌, IfSome, Option, Some, None, Ok, Err, slice_get, slice_set, refl, sym, ap, subst, ◌∙◌, ◌⊎◌, inl, inr, ⊎_elim, append-nil}
use Rattle.std.proofs.lemmas.Option.{slice_get_within}
use Rattle.std.proofs.lemmas.List.Elements.{All-cons, All-replicate}
use Rattle.std.proofs.lemmas.List.Sums.{sum_by-le-sum_by}
use Rattle.lynx_code.specs.declared.instruction.Instruction.{Instruction}
use Rattle.lynx_meaning.specs.Code.{Program}
use Rattle.lynx_meaning.specs.Courses.{Action, Close, Outcome}
use Rattle.lynx_meaning.specs.Needs.{Wanted, NoValue, Closing, TwoLinks, Results, Arguments}
use Rattle.lynx_meaning.specs.Values.{Value, HaveTypes}
use Rattle.code_shapes.specs.Shapes.{ModuleTypes, Shapes, AreShapes, PartTypes, opened_by, program}
use Rattle.compiler_runnable.specs.Runnable.{AreParts}
use Rattle.machine_turns.specs.Threads.{Standing, begun}
use Rattle.machine_turns.specs.Turns.{Beat, RunsOn, Stops, Act, IsFree, Turns, at_start, beats, given_to, gives_to, is_ready_after, spawned, with_thread}
use Rattle.machine_turns.specs.Turns as turns
use Rattle.machine_never_stuck.specs.Sound.{IsAction, IsOpen}
use Rattle.machine_sound.specs.Sound.{AreSound, IsAsking}
use Rattle.machine_requests.specs.Open.{open_in, open_of, opens}
use Rattle.machine_requests.specs.Heard.{AreHeard}
use Rattle.machine_requests.proofs.Beats.{beats_come, open_there}
use Rattle.machine_requests.proofs.Outside.{given_heard_there, given_open, spawned_heard, start_heard}
use Rattle.machine_law.specs.Histories.{AllGiven, IsHistory, IsStop, MayMove, Move, Beats, Gives, Spawns, behind, moved, turns_of}
use Rattle.machine_law.specs.Actions.{ActionsAreBounded, ActionsBeginOrClose, AllActionsAreBounded, AreBounded, HandOn, IsAtFirst, asked, asked_by, closing, in_all, left_by, left_in, open_count, open_requests, opened, opened_with, unasked_count, unasked_requests, used, wanted_of}
use Rattle.machine_law.proofs.Rounds.{free_of}
use Rattle.machine_law.proofs.Whole.{history_kept}
use Rattle.machine_law.proofs.Paid.{Each, IsSettled, Leaves, Pays, Unstopped, beats_pay, counted, each_changed, each_of, sum_changed}

module _ (m : ModuleTypes) (parts : List PartTypes) (instructions : List Instruction) where
  abbrev p : Program
  p = program m instructions

  abbrev count : Option Standing → ℕ
  count o = unasked_count instructions o

  abbrev unasked : Turns → ℕ
  unasked t = unasked_requests instructions t

  -- ---- a move

  -- what threads were given is heard, and no stop was given anything
  record Steady (t : Turns) : Type 0 where
    heard : AreHeard p t
    unstopped : Each (Unstopped instructions) t

  -- what a move takes
  abbrev Costs : Move → Turns → Type 0
  Costs (Beats k fuel) t = asked_by (beats p k (RunsOn fuel t)) + left_by (beats p k (RunsOn fuel t)) + unasked (moved p (Beats k fuel) t) ≤ fuel + unasked t
  Costs (Gives n outcome) t = unasked (given_to n outcome t) ≤ opened p (Gives n outcome) t + unasked t
  Costs (Spawns n part values) t = unasked (moved p (Spawns n part values) t) ≤ length (opened_by part.op) + unasked t

  behind_beats : (fuel most : ℕ) (t : Turns) (b : Beat) → Leaves m parts instructions b → Pays m parts instructions fuel most b → Steady (turns_of b t) × (asked_by b + left_by b + unasked (turns_of b t) ≤ most)
  behind_beats fuel most t (RunsOn left u) kept pays = let few = pays.3 in (record { heard = kept.1; unstopped = pays.1 }, omega arith)
  behind_beats fuel most t (Stops stop left u) kept pays = (record { heard = kept.1; unstopped = pays.0 }, pays.2)
  behind_beats fuel most t turns.Broken kept pays = absurd kept

  beats_come_to : (k fuel : ℕ) (t : Turns) → AreSound m parts instructions t → Steady t → AllGiven t →
      Leaves m parts instructions (beats p k (RunsOn fuel t)) × Pays m parts instructions fuel (fuel + unasked t) (beats p k (RunsOn fuel t))
  beats_come_to k fuel t are steady given =
      beats_pay m parts instructions fuel (fuel + unasked t) k (RunsOn fuel t) (are, steady.heard)
      (each_of IsSettled t (λ n s here. free_of s.wanted (λ w wants. given n s w here wants)), steady.unstopped, omega arith, omega arith)

  beats_move : (k fuel : ℕ) (t : Turns) → AreSound m parts instructions t → Steady t → AllGiven t → Steady (moved p (Beats k fuel) t) × Costs (Beats k fuel) t
  beats_move k fuel t are steady given =
      let came = beats_come_to k fuel t are steady given in
      behind_beats fuel (fuel + unasked t) t (beats p k (RunsOn fuel t)) came.0 came.1

  -- what an outcome leaves open, but for what it opened
  opens_few : (w : Wanted) (o : Outcome) (requests : List ℕ) → length (opens w o requests) ≤ opened_with (Some w) o + (length requests - closing (Some w))
  opens_few (Arguments op) (Ok vs) requests = omega arith
  opens_few (Arguments op) (Err x) requests = omega arith
  opens_few Closing o [] = omega arith
  opens_few Closing o (op ∷ requests) = omega arith
  opens_few NoValue o requests = omega arith
  opens_few TwoLinks o requests = omega arith
  opens_few (Results op) o requests = omega arith

  module _ (t : Turns) (n : ℕ) (o : Outcome) (w : Wanted) (are : AreSound m parts instructions t) (steady : Steady t) (asking : IsAsking n w t) (no_stop : (s : Standing) → slice_get t.threads n ≡ Some (Some s) → IsStop instructions s → ⊥) where
    abbrev s : Standing
    s = asking.0

    abbrev now : Standing
    now = record s { given = s.given ++ o ∷ []; wanted = None }

    abbrev Gave : Turns → Type 0
    Gave u = Each (Unstopped instructions) u × (unasked u + count (Some s) ≡ unasked t + count (Some now)) × (open_of instructions n u ≡ open_in instructions (Some (Some now)))

    gave : (u : Turns) → u.threads ≡ slice_set t.threads n (Some now) → Gave u
    gave u changed = (
      each_changed (Unstopped instructions) t u n (Some now) changed (λ stop. absurd (no_stop s asking.1 stop)) steady.unstopped,
      sum_changed count t u n (Some s) (Some now) asking.1 changed,
      open_there instructions t u n (Some now) (slice_get_within t.threads n (Some s) asking.1) changed,
    )

    by_blocked : (b : Bool) → Gave (with_thread n (Some now) (if b then record t { ready = t.ready ++ n ∷ [] } else t))
    by_blocked true = gave (with_thread n (Some now) (record t { ready = t.ready ++ n ∷ [] })) refl
    by_blocked false = gave (with_thread n (Some now) t) refl

    gives_move : Steady (given_to n o t) × Costs (Gives n o) t
    gives_move =
        let is : Gave (given_to n o t) = subst (λ (q : Option (Option Standing)). Gave (gives_to n o q t)) (sym asking.1) (by_blocked (is_ready_after s.wanted)) in
        let mine = open_in instructions (Some (Some s)) in
        let opens_so = sym is.2 ∙ given_open m parts instructions t n o w are steady.heard asking ∙ ap (λ (q : Option (Option Standing)). opens w o (open_in instructions q)) asking.1 in
        let after = counted m parts instructions now (opens w o mine) None opens_so refl in
        let before = counted m parts instructions s mine (Some w) refl asking.2 in
        let opening = ap (λ (q : Option (Option Standing)). opened_with (wanted_of q) o) asking.1 ∙ ap (λ (v : Option Wanted). opened_with v o) asking.2 in (
          record { heard = given_heard_there p t n o w steady.heard asking; unstopped = is.0 },
          omega (arith, is.1, after, before, opening, opens_few w o mine),
        )

  spawns_move : (t : Turns) (n : ℕ) (requests : List ℕ) (start : ℕ) (locals : List Value) → Steady t → IsFree n t → Steady (spawned n requests start locals t) × (unasked (spawned n requests start locals t) ≤ length requests + unasked t)
  spawns_move t n requests start locals steady free =
      let u = spawned n requests start locals t in
      let s = begun requests start locals in
      let size : count (Some s) ≡ length requests - closing None = refl in (
        record { heard = spawned_heard p t n requests start locals free steady.heard; unstopped = each_changed (Unstopped instructions) t u n (Some s) refl (λ stop. refl) steady.unstopped },
        omega (arith, size, sum_changed count t u n None (Some s) free refl),
      )

  move_costs : (move : Move) (t : Turns) → AreSound m parts instructions t → Steady t → MayMove m parts instructions move t → Steady (moved p move t) × Costs move t
  move_costs (Beats k fuel) t are steady may = beats_move k fuel t are steady may
  move_costs (Gives n outcome) t are steady may = gives_move t n outcome may.0.0 are steady may.0.1 may.1
  move_costs (Spawns n part values) t are steady may = spawns_move t n (opened_by part.op) part.start _ steady may.0

  -- what it asks for is paid by the fuel that it uses, and by requests
  paid : (move : Move) (t : Turns) → Costs move t → asked p move t + unasked (moved p move t) ≤ used p move t + opened p move t + unasked t
  paid (Beats k fuel) t costs = omega (arith, costs)
  paid (Gives n outcome) t costs = omega (arith, costs)
  paid (Spawns n part values) t costs = omega (arith, costs)

  -- ---- histories

  start_steady : (globals : List Value) → Steady (at_start globals)
  start_steady globals = record {
    heard = start_heard p globals;
    unstopped = All-cons (λ (o : Option Standing). IfSome o (Unstopped instructions)) (Some (begun [] 0 [])) (replicate 31 None) (λ stop. refl) (All-replicate (λ (o : Option Standing). IfSome o (Unstopped instructions)) 31 None tt);
  }

  less_asked : (t : Turns) → unasked t ≤ open_requests instructions t
  less_asked t = sum_by-le-sum_by count (open_count instructions) t.threads by_thread
    where
      by_thread : (o : Option Standing) → count o ≤ open_count instructions o
      by_thread None = omega arith
      by_thread (Some s) = omega arith

  module _ (globals : List Value) (shapes : Shapes) (are : AreShapes m parts instructions shapes) (typed : HaveTypes m.globals globals) (are_parts : AreParts m parts) where
    abbrev IsSo : List Move → Type 0
    IsSo moves = IsHistory m parts instructions globals moves

    abbrev at_moment : List Move → Turns
    at_moment moves = behind p globals moves

    sound_then : (moves : List Move) → IsSo moves → AreSound m parts instructions (at_moment moves)
    sound_then moves is = (history_kept m parts instructions globals shapes are typed are_parts 0 moves is).0

    steady_then : (moves : List Move) → IsSo moves → Steady (at_moment moves)
    steady_then [] is = start_steady globals
    steady_then (move ∷ earlier) is = (move_costs move (at_moment earlier) (sound_then earlier is.1) (steady_then earlier is.1) is.0).0

    costs_then : (move : Move) (earlier : List Move) → IsSo (move ∷ earlier) → Costs move (at_moment earlier)
    costs_then move earlier is = (move_costs move (at_moment earlier) (sound_then earlier is.1) (steady_then earlier is.1) is.0).1

    by_use : (earlier later : List Move) → IsSo (later ++ earlier) → in_all asked p globals earlier later + unasked (at_moment (later ++ earlier)) ≤ in_all used p globals earlier later + in_all opened p globals earlier later + unasked (at_moment earlier)
    by_use earlier [] is = omega arith
    by_use earlier (move ∷ later) is = omega (arith, by_use earlier later is.1, paid move (at_moment (later ++ earlier)) (costs_then move (later ++ earlier) is))

    -- where runs hand on their fuel
    handed_on : (earlier : List Move) (fuel : ℕ) (later : List Move) → IsSo (later ++ earlier) → HandOn p globals earlier fuel later →
        in_all asked p globals earlier later + left_in p globals earlier fuel later + unasked (at_moment (later ++ earlier)) ≤ fuel + in_all opened p globals earlier later + unasked (at_moment earlier)
    handed_on earlier fuel [] is hands = omega arith
    handed_on earlier fuel (Beats k has ∷ later) is hands = omega (arith, handed_on earlier fuel later is.1 hands.1, costs_then (Beats k has) (later ++ earlier) is, hands.0)
    handed_on earlier fuel (Gives n outcome ∷ later) is hands = omega (arith, handed_on earlier fuel later is.1 hands, costs_then (Gives n outcome) (later ++ earlier) is)
    handed_on earlier fuel (Spawns n part values ∷ later) is hands = omega (arith, handed_on earlier fuel later is.1 hands, costs_then (Spawns n part values) (later ++ earlier) is)

    -- what a run stops for
    first_or_close : (moves : List Move) (k fuel left n : ℕ) (a : Action) (u : Turns) → IsSo (Beats k fuel ∷ moves) → beats p k (RunsOn fuel (at_moment moves)) ≡ Stops (Act n a) left u →
        (IsAtFirst n u × (left < fuel)) ⊎ ((a ≡ Close) × IsOpen (open_of instructions n u))
    first_or_close moves k fuel left n a u is stops =
        let are = sound_then moves is.1 in
        let steady = steady_then moves is.1 in
        let pays = subst (Pays m parts instructions fuel (fuel + unasked (at_moment moves))) stops (beats_come_to k fuel (at_moment moves) are steady is.0).1 in
        let asks = (beats_come m parts instructions k fuel (at_moment moves) (Stops (Act n a) left u) are steady.heard stops).1 in
        ⊎_elim inl (λ (closes : a ≡ Close). inr (closes, subst (λ (b : Action). IsAction m (open_of instructions n u) b) closes asks)) pays.1

    bounded : (earlier later : List Move) → IsSo (later ++ earlier) → AreBounded p globals earlier later
    bounded earlier later is = record { by_use = by_use earlier later is; by_fuel = λ fuel hands. omega (arith, handed_on earlier fuel later is hands, less_asked (at_moment earlier)) }

    from_start : (moves : List Move) → IsSo moves → in_all asked p globals [] moves ≤ in_all used p globals [] moves + in_all opened p globals [] moves
    from_start moves is =
        let none : unasked (at_start globals) ≡ 0 = refl in
        omega (arith, none, by_use [] moves (subst IsSo (sym (append-nil moves)) is))

-- ---- the laws

pub law : ActionsAreBounded
law m parts instructions globals earlier later shaped are_parts typed is = bounded m parts instructions globals shaped.0 shaped.1 typed are_parts earlier later is

pub law_from_start : AllActionsAreBounded
law_from_start m parts instructions globals moves shaped are_parts typed is = from_start m parts instructions globals shaped.0 shaped.1 typed are_parts moves is

pub asked_law : ActionsBeginOrClose
asked_law m parts instructions globals moves k fuel left n a u shaped are_parts typed is stops = first_or_close m parts instructions globals shaped.0 shaped.1 typed are_parts moves k fuel left n a u is stops
