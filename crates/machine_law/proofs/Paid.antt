-- Beats pay for what they ask for: with the fuel of an instruction that begins, or with a request that was not asked to be closed.
use Rattle.std.proofs.Common.{arith, ◌≡◌, ℕ, zero, suc, ◌+◌, ◌-◌, ◌≤◌, ◌<◌, List, [], ◌∷◌, length, All, sum_by, Bool, true, false, if◌then◌else◌, IfSome, Option, Some, None, get_or, slice_get, slice_set, refl, sym, ap, subst, ◌∙◌, ◌⊎◌, inl, inr, ⊎_elim, true≢false}
use Rattle.std.proofs.lemmas.Option.{get_or_from_slice_get, slice_get-get_or, slice_get_within}
use Rattle.std.proofs.lemmas.List.Elements.{All-set}
use Rattle.std.proofs.lemmas.List.Sums.{sum_by-set}
use Rattle.lynx_code.specs.declared.instruction.Instruction.{Instruction}
use Rattle.lynx_code.specs.declared.instruction.Instruction.TheVariants as code
use Rattle.lynx_meaning.specs.Code.{Next, Goes, Over, Comes, Stuck, Program}
use Rattle.lynx_meaning.specs.Courses.{Action, Outcome, Close, Ended, Waits, Out}
use Rattle.lynx_meaning.specs.Needs.{Wanted, Closing, wanted_by}
use Rattle.lynx_meaning.specs.Values.{Value}
use Rattle.code_shapes.specs.Shapes.{ModuleTypes, Shapes, AreShapes, PartTypes, program}
use Rattle.machine_turns.specs.Threads.{Standing, Made, Went, Acts, Awaits, Ends, Broken, acted, comes_of, fuel_after, goes_on, in_turn, is_await, is_empty, last_action, made}
use Rattle.machine_turns.specs.Turns.{Beat, RunsOn, Stops, Act, Turns, asks_for, awaits, beat, beats, comes, is_ready_after, next_turn, stands, turn_of, wakes, with_thread}
use Rattle.machine_turns.specs.Turns as turns
use Rattle.machine_never_stuck.specs.Sound.{EndInAction, IsAction, IsOpen, IsSound, needs}
use Rattle.machine_sound.specs.Sound.{AreSound, IsSoundThread}
use Rattle.machine_sound.specs.Taken.{takes_by}
use Rattle.machine_sound.proofs.Keeping.{SoundMade, last_of, made_sound}
use Rattle.machine_sound.proofs.Outside.{taken_sound}
use Rattle.machine_sound.proofs.Placing.{get_set, running_there}
use Rattle.machine_sound.proofs.Rounds.{acts_threads}
use Rattle.machine_requests.specs.Open.{later_wanted, open_in, open_of}
use Rattle.machine_requests.specs.Heard.{AreHeard, IsHeard}
use Rattle.machine_requests.proofs.Steps.{AreInOrder, Blocks, IsFirst, IsLater, Tells, Told}
use Rattle.machine_requests.proofs.Amid.{OpenMade, asked_next, made_open, next_wanted, of_acted, sound, told}
use Rattle.machine_requests.proofs.Beats.{KeepsBeat, beats_come}
use Rattle.machine_law.specs.Histories.{IsStop}
use Rattle.machine_law.specs.Actions.{IsAtFirst, asked_by, closing, unasked_count, unasked_requests}

-- ---- threads at their numbers

-- each thread that stands is so
abbrev pub Each : (Standing → Type 0) → Turns → Type 0
Each P t = All (λ (o : Option Standing). IfSome o P) t.threads

pub each_of : (P : Standing → Type 0) (t : Turns) → ((n : ℕ) (s : Standing) → slice_get t.threads n ≡ Some (Some s) → P s) → Each P t
each_of P t is k d there = by_slot (get_or t.threads k d) (slice_get-get_or t.threads k d there)
  where
    by_slot : (o : Option Standing) → slice_get t.threads k ≡ Some o → IfSome o P
    by_slot None e = tt
    by_slot (Some s) e = is k s e

at_number : (P : Standing → Type 0) (t : Turns) (n : ℕ) (s : Standing) → slice_get t.threads n ≡ Some (Some s) → Each P t → P s
at_number P t n s here each =
    subst (λ (o : Option Standing). IfSome o P) (get_or_from_slice_get t.threads n (Some s) None here) (each n None (slice_get_within t.threads n (Some s) here))

-- one of them changes
pub each_changed : (P : Standing → Type 0) (t u : Turns) (n : ℕ) (o : Option Standing) → u.threads ≡ slice_set t.threads n o → IfSome o P → Each P t → Each P u
each_changed P t u n o changed is each = subst (All (λ (q : Option Standing). IfSome q P)) (sym changed) (All-set (λ (q : Option Standing). IfSome q P) t.threads n o is each)

pub sum_changed : (f : Option Standing → ℕ) (t u : Turns) (n : ℕ) (old o : Option Standing) → slice_get t.threads n ≡ Some old → u.threads ≡ slice_set t.threads n o → sum_by f u.threads + f old ≡ sum_by f t.threads + f o
sum_changed f t u n old o here changed =
    ap (λ (ts : List (Option Standing)). sum_by f ts + f old) changed
    ∙ ap (λ (q : Option Standing). sum_by f (slice_set t.threads n o) + f q) (sym (get_or_from_slice_get t.threads n old None here))
    ∙ sum_by-set f t.threads n o None (slice_get_within t.threads n old here)

-- ---- what comes of one instruction

-- it wants nothing, or is blocked
abbrev pub IsSettled : Standing → Type 0
IsSettled s = is_ready_after s.wanted ≡ false → s.wanted ≡ None

-- a stop was given nothing
abbrev pub Unstopped : List Instruction → Standing → Type 0
Unstopped instructions s = IsStop instructions s → s.given ≡ []

later_closes : (i : Option Instruction) → (i ≡ Some code.Stop → ⊥) → later_wanted i ≡ Closing
later_closes (Some code.Stop) other = absurd (other refl)
later_closes _ other = refl

is_close : (a : Action) → wanted_by a ≡ Closing → a ≡ Close
is_close Close wants = refl
is_close _ wants = cc

first_or_close : (i : Option Instruction) (a : Action) (given : List Outcome) → (i ≡ Some code.Stop → given ≡ []) → wanted_by a ≡ next_wanted i (length given) → (given ≡ []) ⊎ (a ≡ Close)
first_or_close i a [] unstopped next = inl refl
first_or_close i a (o ∷ os) unstopped next = inr (is_close a (next ∙ later_closes i (λ stop. let never = unstopped stop in cc)))

module _ (m : ModuleTypes) (instructions : List Instruction) (globals : List Value) (s : Standing) (unstopped : Unstopped instructions s) where
  abbrev i : Option Instruction
  i = slice_get instructions s.address

  -- no stop is given anything, and an action is the first of its instruction or a close
  abbrev pub OfStops : Made → Type 0
  OfStops (Went now v) = Unstopped instructions v
  OfStops (Acts a now v) = Unstopped instructions v × (v.given ≡ s.given) × ((s.given ≡ []) ⊎ (a ≡ Close))
  OfStops (Awaits now v) = Unstopped instructions v
  OfStops _ = Unit {0}

  waits_of : (actions : List Action) (now : List Value) → EndInAction m (needs m i) (in_turn globals s) actions → AreInOrder (IsFirst i) (IsLater i) actions → OfStops (acted (last_action actions) now s)
  waits_of actions now end order =
      let next = asked_next m instructions globals s actions order end in
      subst (λ (o : Option Action). OfStops (acted o now s)) (sym (ap last_action end.last ∙ last_of end.before end.action))
      (of_acted OfStops end.action now s
      (λ e stop. absurd (subst Blocks stop (subst (Tells i) e next.1)))
      (λ other. (unstopped, refl, first_or_close i end.action s.given unstopped next.0)))

  next_of_stops : (shapes : Shapes) (b : Bool) (next : Next) → IsSound m shapes (needs m i) (in_turn globals s) next → Told (IsFirst i) (IsLater i) next → OfStops (made b s next)
  next_of_stops shapes b (Goes now) is order = λ stop. refl
  next_of_stops shapes b (Over (Comes (Waits actions store))) is order = waits_of actions store.globals is.0 order
  next_of_stops shapes b (Over (Comes (Ended actions store))) is order = tt
  next_of_stops shapes b (Over (Comes (Out actions))) is order = tt
  next_of_stops shapes b (Over Stuck) is order = tt

  made_of_stops : (parts : List PartTypes) (shapes : Shapes) → AreShapes m parts instructions shapes → IsSoundThread m instructions shapes globals s → OfStops (comes_of (program m instructions) globals s)
  made_of_stops parts shapes are is =
      next_of_stops shapes (is_await i) (goes_on (program m instructions) globals s) (sound m instructions globals s parts shapes are is) (told m instructions globals s parts shapes are is)

-- ---- what a thread takes

some_open : (requests : List ℕ) → IsOpen requests → 1 ≤ length requests
some_open [] is = absurd is
some_open (op ∷ requests) is = omega arith

-- an instruction that begins takes one unit
takes_one : (fuel : ℕ) (s : Standing) → s.given ≡ [] → fuel_after (suc fuel) s ≡ fuel
takes_one fuel s none = ap (λ (os : List Outcome). if is_empty os then suc fuel - 1 else suc fuel) none ∙ omega arith

takes_some : (fuel : ℕ) (s : Standing) → fuel_after (suc fuel) s ≤ suc fuel
takes_some fuel s = by_fresh (is_empty s.given)
  where
    by_fresh : (b : Bool) → (if b then suc fuel - 1 else suc fuel) ≤ suc fuel
    by_fresh true = omega arith
    by_fresh false = omega arith

module _ (m : ModuleTypes) (parts : List PartTypes) (instructions : List Instruction) where
  abbrev p : Program
  p = program m instructions

  abbrev pub count : Option Standing → ℕ
  count o = unasked_count instructions o

  abbrev pub unasked : Turns → ℕ
  unasked t = unasked_requests instructions t

  -- an action that is asked for is the first of its instruction, and some of the fuel was taken, or a close
  abbrev pub AsksSo : ℕ → ℕ → turns.Stop → Turns → Type 0
  AsksSo fuel left (Act n a) u = (IsAtFirst n u × (left < fuel)) ⊎ (a ≡ Close)
  AsksSo fuel left _ u = Unit {0}

  -- Behind beats with so much fuel: a stop for an action, the fuel that is left, and the open requests that were not asked to be closed are no more than so many.
  abbrev pub Pays : ℕ → ℕ → Beat → Type 0
  Pays fuel most (RunsOn left u) = Each IsSettled u × Each (Unstopped instructions) u × (left ≤ fuel) × (left + unasked u ≤ most)
  Pays fuel most (Stops stop left u) = Each (Unstopped instructions) u × AsksSo fuel left stop u × (asked_by (Stops stop left u) + left + unasked u ≤ most)
  Pays fuel most turns.Broken = Unit {0}

  asks_more : (fuel more left : ℕ) (stop : turns.Stop) (u : Turns) → fuel ≤ more → AsksSo fuel left stop u → AsksSo more left stop u
  asks_more fuel more left (Act n a) u le asks = ⊎_elim (λ (first : IsAtFirst n u × (left < fuel)). let less = first.1 in inl (first.0, omega arith)) inr asks
  asks_more fuel more left _ u le asks = tt

  wider : (fuel more most all : ℕ) (b : Beat) → fuel ≤ more → most ≤ all → Pays fuel most b → Pays more all b
  wider fuel more most all (RunsOn left u) le few pays = (pays.0, pays.1, omega (arith, pays.2), omega (arith, pays.3))
  wider fuel more most all (Stops stop left u) le few pays = (pays.0, asks_more fuel more left stop u le pays.1, omega (arith, pays.2))
  wider fuel more most all turns.Broken le few pays = tt

  -- a thread with such requests
  pub counted : (v : Standing) (requests : List ℕ) (w : Option Wanted) → open_in instructions (Some (Some v)) ≡ requests → v.wanted ≡ w → count (Some v) ≡ length requests - closing w
  counted v requests w same wants = ap (λ (rs : List ℕ). length rs - closing v.wanted) same ∙ ap (λ (q : Option Wanted). length requests - closing q) wants

  -- ---- the thread that has the turn

  module _ (t : Turns) (n fuel : ℕ) (s : Standing) (here : slice_get t.threads n ≡ Some (Some s)) (free : s.wanted ≡ None) (all_settled : Each IsSettled t) (unstopped : Each (Unstopped instructions) t) where
    abbrev rest : ℕ
    rest = fuel_after (suc fuel) s

    abbrev mine : List ℕ
    mine = open_in instructions (Some (Some s))

    before : count (Some s) ≡ length mine - closing None
    before = counted s mine None refl free

    some_rest : rest ≤ suc fuel
    some_rest = takes_some fuel s

    fewer : (u : Turns) (o : Option Standing) → u.threads ≡ slice_set t.threads n o → count o ≤ count (Some s) → rest + unasked u ≤ suc fuel + unasked t
    fewer u o changed less = omega (arith, sum_changed count t u n (Some s) o here changed, some_rest)

    runs_on : (u : Turns) (v : Standing) → u.threads ≡ slice_set t.threads n (Some v) → v.wanted ≡ None → open_in instructions (Some (Some v)) ≡ mine → Unstopped instructions v → Pays (suc fuel) (suc fuel + unasked t) (RunsOn rest u)
    runs_on u v changed wants same of_stop = (
      each_changed IsSettled t u n (Some v) changed (λ e. wants) all_settled,
      each_changed (Unstopped instructions) t u n (Some v) changed of_stop unstopped,
      some_rest,
      fewer u (Some v) changed (let now = counted v mine None same wants in omega (arith, now, before)),
    )

    awaits_pay : (again : Bool) (now : List Value) (v : Standing) → v.wanted ≡ None → open_in instructions (Some (Some v)) ≡ mine → Unstopped instructions v →
        Pays (suc fuel) (suc fuel + unasked t) (RunsOn rest (with_thread n (Some v) (awaits n again (record t { globals = now }))))
    awaits_pay true now v wants same of_stop = runs_on (with_thread n (Some v) (awaits n true (record t { globals = now }))) v refl wants same of_stop
    awaits_pay false now v wants same of_stop = runs_on (with_thread n (Some v) (awaits n false (record t { globals = now }))) v refl wants same of_stop

    acts_pay : (u : Turns) (v : Standing) (a : Action) → u.threads ≡ slice_set t.threads n (Some v) → v.wanted ≡ Some (wanted_by a) → open_in instructions (Some (Some v)) ≡ mine → IsAction m mine a →
        (s.given ≡ []) ⊎ (a ≡ Close) → 1 + rest + unasked u ≤ suc fuel + unasked t
    acts_pay u v a changed wants same action =
        let change = sum_changed count t u n (Some s) (Some v) here changed in
        let now = counted v mine (Some (wanted_by a)) same wants in
        ⊎_elim
        (λ (first : s.given ≡ []). let one = takes_one fuel s first in omega (arith, change, now, before, one))
        (λ (closes : a ≡ Close).
        let asks : closing (Some (wanted_by a)) ≡ 1 = ap (λ (b : Action). closing (Some (wanted_by b))) closes in
        let some = some_open mine (subst (λ (b : Action). IsAction m mine b) closes action) in
        omega (arith, change, now, before, asks, some, some_rest))

    first_there : (u : Turns) (v : Standing) (a : Action) → u.threads ≡ slice_set t.threads n (Some v) → v.given ≡ s.given → (s.given ≡ []) ⊎ (a ≡ Close) → AsksSo (suc fuel) rest (Act n a) u
    first_there u v a changed given own =
        ⊎_elim
        (λ (first : s.given ≡ []).
        let one = takes_one fuel s first in
        inl ((v, ap (λ (ts : List (Option Standing)). slice_get ts n) changed ∙ get_set t.threads n (Some v) (slice_get_within t.threads n (Some s) here), given ∙ first), omega (arith, one)))
        inr own

    comes_pays : (shapes : Shapes) (last : Made) → SoundMade m instructions shapes s last → OpenMade m instructions t.globals s last → OfStops m instructions t.globals s (at_number (Unstopped instructions) t n s here unstopped) last → Pays (suc fuel) (suc fuel + unasked t) (comes rest n t last)
    comes_pays shapes (Went now v) is same of_stop = runs_on (with_thread n (Some v) (record t { globals = now; running = Some n })) v refl is.2 same of_stop
    comes_pays shapes (Acts a now v) is same of_stop =
        let mid : Turns = record t { globals = now } in
        let u : Turns = with_thread n (Some v) (asks_for n a mid) in
        let changed : u.threads ≡ slice_set t.threads n (Some v) = ap (λ (ts : List (Option Standing)). slice_set ts n (Some v)) (acts_threads n a mid) in
        (each_changed (Unstopped instructions) t u n (Some v) changed of_stop.0 unstopped, first_there u v a changed of_stop.1 of_stop.2, acts_pay u v a changed is.2 same.0 same.1 of_stop.2)
    comes_pays shapes (Awaits now v) is same of_stop = awaits_pay v.again now v (is.2 ∙ free) same of_stop
    comes_pays shapes (Ends now) is same of_stop =
        let u : Turns = with_thread n None (wakes (record t { globals = now })) in
        (each_changed IsSettled t u n None refl tt all_settled, each_changed (Unstopped instructions) t u n None refl tt unstopped, some_rest, fewer u None refl (omega arith))
    comes_pays shapes Broken is same of_stop = tt

  -- ---- beats

  turn_pays : (t : Turns) (n fuel : ℕ) → t.running ≡ Some n → AreSound m parts instructions t → ((s : Standing) → slice_get t.threads n ≡ Some (Some s) → IsHeard p t.globals s) → Each IsSettled t → Each (Unstopped instructions) t →
      Pays (suc fuel) (suc fuel + unasked t) (turn_of p (suc fuel) n (slice_get t.threads n) t)
  turn_pays t n fuel runs are heard all_settled unstopped =
      let placed = running_there t n are.placed runs in
      let s = placed.0 in
      let here : slice_get t.threads n ≡ Some (Some s) = placed.1 in
      let is = are.threads n s here in
      subst (λ (o : Option (Option Standing)). Pays (suc fuel) (suc fuel + unasked t) (turn_of p (suc fuel) n o t)) (sym here)
      (comes_pays t n fuel s here (at_number IsSettled t n s here all_settled placed.2) all_settled unstopped are.shapes (comes_of p t.globals s)
      (made_sound m instructions are.shapes t.globals s is parts are.are)
      (made_open m instructions t.globals s parts are.shapes are.are is (heard s here).hears)
      (made_of_stops m instructions t.globals s (at_number (Unstopped instructions) t n s here unstopped) parts are.shapes are.are is))

  next_pays : (t : Turns) (fuel : ℕ) (running : Option ℕ) (ready : List ℕ) → t.running ≡ running → AreSound m parts instructions t → AreSound m parts instructions (takes_by t running ready) → AreHeard p t → Each IsSettled t → Each (Unstopped instructions) t →
      Pays fuel (fuel + unasked t) (next_turn p fuel t running ready)
  next_pays t fuel None [] runs are taken heard all_settled unstopped = (unstopped, tt, omega arith)
  next_pays t zero (Some n) ready runs are taken heard all_settled unstopped = (unstopped, tt, omega arith)
  next_pays t (suc fuel) (Some n) ready runs are taken heard all_settled unstopped = turn_pays t n fuel runs are (λ s here. heard n s t.globals here (λ e. refl)) all_settled unstopped
  next_pays t zero None (n ∷ ready) runs are taken heard all_settled unstopped = (unstopped, tt, omega arith)
  next_pays t (suc fuel) None (n ∷ ready) runs are taken heard all_settled unstopped =
      turn_pays (record t { running = Some n; ready = ready }) n fuel refl taken (λ s here. heard n s t.globals here (λ e. refl)) all_settled unstopped

  by_stands : (t : Turns) (fuel : ℕ) (b : Bool) → AreSound m parts instructions t → AreHeard p t → Each IsSettled t → Each (Unstopped instructions) t → Pays fuel (fuel + unasked t) (if b then next_turn p fuel t t.running t.ready else Stops turns.Finished fuel t)
  by_stands t fuel true are heard all_settled unstopped = next_pays t fuel t.running t.ready refl are (taken_sound m parts instructions t are) heard all_settled unstopped
  by_stands t fuel false are heard all_settled unstopped = (unstopped, tt, omega arith)

  -- beats leave this
  abbrev pub Leaves : Beat → Type 0
  Leaves (RunsOn left u) = AreSound m parts instructions u × AreHeard p u
  Leaves (Stops stop left u) = AreSound m parts instructions u × AreHeard p u
  Leaves turns.Broken = ⊥

  leaves : (were : ℕ → List ℕ) (b : Beat) → KeepsBeat m parts instructions were b → Leaves b
  leaves were (RunsOn left u) kept = (kept.sound, kept.heard)
  leaves were (Stops stop left u) kept = (kept.0.sound, kept.0.heard)
  leaves were turns.Broken kept = kept

  pub beats_pay : (fuel most k : ℕ) (b : Beat) → Leaves b → Pays fuel most b → Leaves (beats p k b) × Pays fuel most (beats p k b)
  beats_pay fuel most zero b left pays = (left, pays)
  beats_pay fuel most (suc k) (RunsOn now t) left pays =
      beats_pay fuel most k (beat p now t) (leaves (λ n. open_of instructions n t) (beat p now t) (beats_come m parts instructions 1 now t (beat p now t) left.0 left.1 refl))
      (wider now fuel (now + unasked t) most (beat p now t) pays.2 pays.3 (by_stands t now (stands t) left.0 left.1 pays.0 pays.1))
  beats_pay fuel most (suc k) (Stops stop left u) kept pays = (kept, pays)
  beats_pay fuel most (suc k) turns.Broken kept pays = absurd kept
