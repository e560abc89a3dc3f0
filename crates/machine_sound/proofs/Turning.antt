-- Turns of sound threads.
use Rattle.std.proofs.Common.{◌≡◌, ℕ, zero, suc, ◌<◌, List, [], ◌∷◌, ◌++◌, length, Bool, true, false, if◌then◌else◌, Option, Some, None, is_some, slice_get, slice_set, refl, sym, ap, subst, ◌∙◌, ⊎_elim, length-set}
use Rattle.std.specs.List.{list_any}
use Rattle.std.proofs.lemmas.Option.{slice_get_within}
use Rattle.lynx_code.specs.declared.instruction.Instruction.{Instruction}
use Rattle.lynx_meaning.specs.Code.{Program}
use Rattle.lynx_meaning.specs.Courses.{Action, New, Destroy, Bind, Unbind, Connect, Accept, Close, Reply, Write, Await, Stop}
use Rattle.lynx_meaning.specs.Values.{Value, HaveTypes}
use Rattle.code_shapes.specs.Shapes.{ModuleTypes, Shapes, AreShapes, program, PartTypes}
use Rattle.machine_turns.specs.Threads.{Standing, Made, Went, Acts, Awaits, Ends, Broken, if_went, comes_of, course, fuel_after}
use Rattle.lynx_meaning.specs.Needs.{Wanted, wanted_by, Results, Arguments}
use Rattle.machine_turns.specs.Turns.{Beat, Turns, RunsOn, Stops, Act, asks_for, awaits, beat, beats, comes, is_ready_after, next_turn, stands, turn_of, wakes, with_thread}
use Rattle.machine_turns.specs.Turns as turns
use Rattle.machine_steps.specs.Operands.{FindsInstruction, IsReady, StaysReady, after}
use Rattle.machine_never_stuck.proofs.Whole.{instruction_at}
use Rattle.machine_sound.specs.Sound.{AreSound, IsSoundThread, places_for}
use Rattle.machine_sound.specs.Taken.{takes_by, takes_turn}
use Rattle.machine_sound.proofs.Finding.{finds}
use Rattle.machine_sound.proofs.Keeping.{SoundMade, made_sound, thread_with_globals}
use Rattle.machine_sound.proofs.Placing.{ArePlaced, awaits_again, awaits_first, decided, get_other, get_set, keeps_turn, running_there, set_same, set_set, wakes_all}

-- ---- the threads after one has changed

changed_threads : (ts : List (Option Standing)) (n : ℕ) (o : Option Standing) (P : Standing → Type 0) → n < length ts → ((s : Standing) → o ≡ Some s → P s) →
    ((k : ℕ) (s : Standing) → slice_get ts k ≡ Some (Some s) → P s) → (k : ℕ) (s : Standing) → slice_get (slice_set ts n o) k ≡ Some (Some s) → P s
changed_threads ts n o P there changed others k s is =
    ⊎_elim
    (λ (e : k ≡ n). let at_n : Some o ≡ Some (Some s) = sym (get_set ts n o there) ∙ ap (λ i. slice_get (slice_set ts n o) i) (sym e) ∙ is in changed s cc)
    (λ (e : k ≡ n → ⊥). others k s (sym (get_other ts n k o e) ∙ is))
    (decided k n)

one_place : (s : Standing) (w : Option Wanted) → s.wanted ≡ w → is_ready_after w ≡ false → places_for (Some (Some s)) ≡ 1
one_place s w is free = ap (λ (v : Option Wanted). if is_ready_after v then 0 else 1) is ∙ ap (λ b. if b then 0 else 1) free

blocked_place : (s : Standing) (w : Wanted) → s.wanted ≡ Some w → is_ready_after (Some w) ≡ true → places_for (Some (Some s)) ≡ 0
blocked_place s w is blocked = ap (λ (v : Option Wanted). if is_ready_after v then 0 else 1) is ∙ ap (λ b. if b then 0 else 1) blocked

module _ (m : ModuleTypes) (parts : List PartTypes) (instructions : List Instruction) where
  abbrev pub SoundBeat : Beat → Type 0
  SoundBeat (RunsOn fuel t) = AreSound m parts instructions t
  SoundBeat (Stops stop fuel t) = AreSound m parts instructions t
  SoundBeat turns.Broken = ⊥

  abbrev pub p : Program
  p = program m instructions

  -- ---- one instruction

  -- turns in which one thread has changed
  pub with_changed : (t u : Turns) (n : ℕ) (o : Option Standing) (is : AreSound m parts instructions t) → n < length t.threads → u.threads ≡ slice_set t.threads n o → HaveTypes m.globals u.globals →
      ((s : Standing) → o ≡ Some s → IsSoundThread m instructions is.shapes u.globals s) → ArePlaced u → AreSound m parts instructions u
  with_changed t u n o is there changed typed thread placed = record {
    shapes = is.shapes;
    are = is.are;
    globals = typed;
    threads = λ k s e.
        changed_threads t.threads n o (λ (r : Standing). IsSoundThread m instructions is.shapes u.globals r) there thread
        (λ k s e. thread_with_globals m instructions is.shapes t.globals u.globals s typed (is.threads k s e)) k s (ap (λ (ts : List (Option Standing)). slice_get ts k) (sym changed) ∙ e);
    placed = placed;
    many = ap length changed ∙ length-set t.threads n o ∙ is.many;
  }

  module _ (t : Turns) (n : ℕ) (s : Standing) (is : AreSound m parts instructions t) (runs : t.running ≡ Some n) (here : slice_get t.threads n ≡ Some (Some s)) (fuel : ℕ) where
    abbrev there : n < length t.threads
    there = slice_get_within t.threads n (Some s) here

    abbrev now : List Value → Turns
    now globals = record t { globals = globals }

    blocks : (globals : List Value) (u : Standing) → IsSoundThread m instructions is.shapes globals u → HaveTypes m.globals globals → places_for (Some (Some u)) ≡ 0 → AreSound m parts instructions (with_thread n (Some u) (wakes (now globals)))
    blocks globals u sound typed no_place =
        with_changed t (with_thread n (Some u) (wakes (now globals))) n (Some u) is there refl typed (λ r e. let same : u ≡ r = cc in subst (λ (q : Standing). IsSoundThread m instructions is.shapes globals q) same sound)
        (wakes_all t (with_thread n (Some u) (wakes (now globals))) n (Some u) there refl runs is.placed refl refl refl no_place)

    keeps : (globals : List Value) (u : Standing) → IsSoundThread m instructions is.shapes globals u → HaveTypes m.globals globals → places_for (Some (Some u)) ≡ 1 →
        AreSound m parts instructions (with_thread n (Some u) (record t { globals = globals; running = Some n }))
    keeps globals u sound typed one =
        with_changed t (with_thread n (Some u) (record t { globals = globals; running = Some n })) n (Some u) is there refl typed
        (λ r e. let same : u ≡ r = cc in subst (λ (q : Standing). IsSoundThread m instructions is.shapes globals q) same sound)
        (keeps_turn t (with_thread n (Some u) (record t { globals = globals; running = Some n })) n (Some u) there refl runs is.placed refl refl refl one)

    asks : (a : Action) (globals : List Value) (u : Standing) → IsSoundThread m instructions is.shapes globals u → HaveTypes m.globals globals → u.wanted ≡ Some (wanted_by a) →
        AreSound m parts instructions (with_thread n (Some u) (asks_for n a (now globals)))
    asks (Connect link op values) globals u sound typed wants = blocks globals u sound typed (blocked_place u (Results op) wants refl)
    asks (Accept link op) globals u sound typed wants = blocks globals u sound typed (blocked_place u (Arguments op) wants refl)
    asks New globals u sound typed wants = keeps globals u sound typed (one_place u (Some (wanted_by New)) wants refl)
    asks (Destroy link) globals u sound typed wants = keeps globals u sound typed (one_place u (Some (wanted_by (Destroy link))) wants refl)
    asks (Bind link entry) globals u sound typed wants = keeps globals u sound typed (one_place u (Some (wanted_by (Bind link entry))) wants refl)
    asks (Unbind link entry) globals u sound typed wants = keeps globals u sound typed (one_place u (Some (wanted_by (Unbind link entry))) wants refl)
    asks Close globals u sound typed wants = keeps globals u sound typed (one_place u (Some (wanted_by Close)) wants refl)
    asks (Reply values) globals u sound typed wants = keeps globals u sound typed (one_place u (Some (wanted_by (Reply values))) wants refl)
    asks (Write text) globals u sound typed wants = keeps globals u sound typed (one_place u (Some (wanted_by (Write text))) wants refl)
    asks Await globals u sound typed wants = keeps globals u sound typed (one_place u (Some (wanted_by Await)) wants refl)
    asks Stop globals u sound typed wants = keeps globals u sound typed (one_place u (Some (wanted_by Stop)) wants refl)

    waits : (again : Bool) (globals : List Value) (u : Standing) → IsSoundThread m instructions is.shapes globals u → HaveTypes m.globals globals → places_for (Some (Some u)) ≡ 1 →
        AreSound m parts instructions (with_thread n (Some u) (awaits n again (now globals)))
    waits true globals u sound typed one =
        with_changed t (with_thread n (Some u) (awaits n true (now globals))) n (Some u) is there refl typed (λ r e. let same : u ≡ r = cc in subst (λ (q : Standing). IsSoundThread m instructions is.shapes globals q) same sound)
        (awaits_again t (with_thread n (Some u) (awaits n true (now globals))) n (Some u) there refl runs is.placed refl refl refl one)
    waits false globals u sound typed one =
        with_changed t (with_thread n (Some u) (awaits n false (now globals))) n (Some u) is there refl typed (λ r e. let same : u ≡ r = cc in subst (λ (q : Standing). IsSoundThread m instructions is.shapes globals q) same sound)
        (awaits_first t (with_thread n (Some u) (awaits n false (now globals))) n (Some u) there refl runs is.placed refl refl refl one)

    ends : (globals : List Value) → HaveTypes m.globals globals → AreSound m parts instructions (with_thread n None (wakes (now globals)))
    ends globals typed =
        with_changed t (with_thread n None (wakes (now globals))) n None is there refl typed (λ r e. cc) (wakes_all t (with_thread n None (wakes (now globals))) n None there refl runs is.placed refl refl refl refl)

    comes_sound : (last : Made) → is_ready_after s.wanted ≡ false → SoundMade m instructions is.shapes s last → SoundBeat (comes fuel n t last)
    comes_sound (Went globals u) free sound = keeps globals u sound.0 sound.1 (one_place u None sound.2 refl)
    comes_sound (Acts a globals u) free sound = asks a globals u sound.0 sound.1 sound.2
    comes_sound (Awaits globals u) free sound = waits u.again globals u sound.0 sound.1 (one_place u s.wanted sound.2 free)
    comes_sound (Ends globals) free sound = ends globals sound
    comes_sound Broken free sound = absurd sound

  -- ---- a turn

  stands_there : (ts : List (Option Standing)) (n : ℕ) (s : Standing) → slice_get ts n ≡ Some (Some s) → list_any is_some ts ≡ true
  stands_there [] n s here = cc
  stands_there (Some r ∷ ts) n s here = refl
  stands_there (None ∷ ts) zero s here = cc
  stands_there (None ∷ ts) (suc n) s here = stands_there ts n s here

  -- the thread that has the turn makes an instruction
  pub goes_on_beat : (t : Turns) (n : ℕ) (s : Standing) (fuel : ℕ) → t.running ≡ Some n → slice_get t.threads n ≡ Some (Some s) → beat p (suc fuel) t ≡ comes (fuel_after (suc fuel) s) n t (comes_of p t.globals s)
  goes_on_beat t n s fuel runs here =
      ap (λ (b : Bool). if b then next_turn p (suc fuel) t t.running t.ready else Stops turns.Finished (suc fuel) t) (stands_there t.threads n s here)
      ∙ ap (λ (r : Option ℕ). next_turn p (suc fuel) t r t.ready) runs
      ∙ ap (λ (o : Option (Option Standing)). turn_of p (suc fuel) n o t) here

  -- what comes after that thread has changed before is the same
  keeps_again : (stop : turns.Stop) (fuel n : ℕ) (t : Turns) (globals now : List Value) (s u : Standing) →
      Stops stop fuel (with_thread n (Some u) (record t { globals = now; threads = slice_set t.threads n (Some s); running = Some n })) ≡ Stops stop fuel (with_thread n (Some u) (record t { globals = now; running = Some n }))
  keeps_again stop fuel n t globals now s u = ap (λ (ts : List (Option Standing)). Stops stop fuel (record t { globals = now; threads = ts; running = Some n })) (set_set t.threads n (Some s) (Some u))

  blocks_again : (stop : turns.Stop) (fuel n : ℕ) (t : Turns) (globals now : List Value) (s u : Standing) →
      Stops stop fuel (with_thread n (Some u) (wakes (record t { globals = now; threads = slice_set t.threads n (Some s); running = Some n }))) ≡ Stops stop fuel (with_thread n (Some u) (wakes (record t { globals = now })))
  blocks_again stop fuel n t globals now s u =
      ap (λ (ts : List (Option Standing)). Stops stop fuel (record t { globals = now; threads = ts; running = None; ready = t.ready ++ t.awaiting; awaiting = [] })) (set_set t.threads n (Some s) (Some u))

  acts_again : (fuel n : ℕ) (t : Turns) (globals now : List Value) (s u : Standing) (a : Action) → comes fuel n (with_thread n (Some s) (record t { globals = globals; running = Some n })) (Acts a now u) ≡ comes fuel n t (Acts a now u)
  acts_again fuel n t globals now s u New = keeps_again (Act n New) fuel n t globals now s u
  acts_again fuel n t globals now s u (Destroy link) = keeps_again (Act n (Destroy link)) fuel n t globals now s u
  acts_again fuel n t globals now s u (Bind link entry) = keeps_again (Act n (Bind link entry)) fuel n t globals now s u
  acts_again fuel n t globals now s u (Unbind link entry) = keeps_again (Act n (Unbind link entry)) fuel n t globals now s u
  acts_again fuel n t globals now s u Close = keeps_again (Act n Close) fuel n t globals now s u
  acts_again fuel n t globals now s u (Reply values) = keeps_again (Act n (Reply values)) fuel n t globals now s u
  acts_again fuel n t globals now s u (Write text) = keeps_again (Act n (Write text)) fuel n t globals now s u
  acts_again fuel n t globals now s u Await = keeps_again (Act n Await) fuel n t globals now s u
  acts_again fuel n t globals now s u Stop = keeps_again (Act n Stop) fuel n t globals now s u
  acts_again fuel n t globals now s u (Connect link op values) = blocks_again (Act n (Connect link op values)) fuel n t globals now s u
  acts_again fuel n t globals now s u (Accept link op) = blocks_again (Act n (Accept link op)) fuel n t globals now s u

  awaits_again_there : (fuel n : ℕ) (t : Turns) (globals now : List Value) (s u : Standing) (again : Bool) →
      RunsOn fuel (with_thread n (Some u) (awaits n again (record t { globals = now; threads = slice_set t.threads n (Some s); running = Some n }))) ≡ RunsOn fuel (with_thread n (Some u) (awaits n again (record t { globals = now })))
  awaits_again_there fuel n t globals now s u true =
      ap (λ (ts : List (Option Standing)). RunsOn fuel (record t { globals = now; threads = ts; running = None; awaiting = t.awaiting ++ n ∷ [] })) (set_set t.threads n (Some s) (Some u))
  awaits_again_there fuel n t globals now s u false =
      ap (λ (ts : List (Option Standing)). RunsOn fuel (record t { globals = now; threads = ts; running = None; ready = t.ready ++ t.awaiting; awaiting = [] ++ n ∷ [] })) (set_set t.threads n (Some s) (Some u))

  pub comes_again : (fuel n : ℕ) (t : Turns) (globals : List Value) (s : Standing) (last : Made) → comes fuel n (with_thread n (Some s) (record t { globals = globals; running = Some n })) last ≡ comes fuel n t last
  comes_again fuel n t globals s (Went now u) = ap (λ (ts : List (Option Standing)). RunsOn fuel (record t { globals = now; threads = ts; running = Some n })) (set_set t.threads n (Some s) (Some u))
  comes_again fuel n t globals s (Acts a now u) = acts_again fuel n t globals now s u a
  comes_again fuel n t globals s (Awaits now u) = awaits_again_there fuel n t globals now s u u.again
  comes_again fuel n t globals s (Ends now) =
      ap (λ (ts : List (Option Standing)). RunsOn fuel (record t { globals = now; threads = ts; running = None; ready = t.ready ++ t.awaiting; awaiting = [] })) (set_set t.threads n (Some s) None)
  comes_again fuel n t globals s Broken = refl

  -- the thread that has the turn has not changed
  pub no_change : (t : Turns) (n : ℕ) (s : Standing) → t.running ≡ Some n → slice_get t.threads n ≡ Some (Some s) → with_thread n (Some s) (record t { running = Some n }) ≡ t
  no_change t n s runs here =
      ap (λ (ts : List (Option Standing)). record t { threads = ts; running = Some n }) (set_same t.threads n (Some s) here) ∙ ap (λ (r : Option ℕ). record t { running = r }) (sym runs)

  -- a turn comes by some beats to this, and all threads stay sound
  abbrev pub MakesTurn : ℕ → Turns → ℕ → Made → Beat → Type 0
  MakesTurn n t left last first = (j : ℕ) × (beats p j first ≡ comes left n t last) × SoundBeat (comes left n t last)

  -- no instruction has begun
  not_begun : (fuel left : ℕ) (t : Turns) (n : ℕ) (s : Standing) (last : Made) → AreSound m parts instructions t → t.running ≡ Some n → slice_get t.threads n ≡ Some (Some s) → ◌≡◌ {A = ℕ × Made} (fuel, Went t.globals s) (left, last) →
      MakesTurn n t left last (RunsOn fuel t)
  not_begun fuel left t n s last is runs here e =
      let size : fuel ≡ left = ap (λ (q : ℕ × Made). q.0) e in
      let same : Went t.globals s ≡ last = ap (λ (q : ℕ × Made). q.1) e in
      let stays : RunsOn fuel t ≡ comes left n t last =
      ap (λ (u : Turns). RunsOn fuel u) (sym (no_change t n s runs here)) ∙ ap (λ (l : ℕ). comes l n t (Went t.globals s)) size ∙ ap (λ (l : Made). comes left n t l) same in
      (zero, stays, subst (λ (b : Beat). SoundBeat b) stays is)

  -- the last one is made
  over : (fuel left : ℕ) (t : Turns) (n : ℕ) (first last : Made) → SoundBeat (comes fuel n t first) → (b : Beat) → b ≡ comes fuel n t first → ◌≡◌ {A = ℕ × Made} (fuel, first) (left, last) → MakesTurn n t left last b
  over fuel left t n first last sound b is e =
      let same : comes fuel n t first ≡ comes left n t last = ap (λ (q : ℕ × Made). comes q.0 n t q.1) e in
      (zero, is ∙ same, subst (λ (c : Beat). SoundBeat c) same sound)

  abbrev ComesTo : ℕ → Type 0
  ComesTo k = (fuel left : ℕ) (t : Turns) (n : ℕ) (s : Standing) (last : Made) → AreSound m parts instructions t → t.running ≡ Some n → slice_get t.threads n ≡ Some (Some s) → course p k fuel t.globals s ≡ (left, last) →
      MakesTurn n t left last (RunsOn fuel t)

  after_first : (k fuel left : ℕ) (t : Turns) (n : ℕ) (s : Standing) (last : Made) → ComesTo k → slice_get t.threads n ≡ Some (Some s) → (first : Made) → SoundBeat (comes fuel n t first) → (b : Beat) →
      b ≡ comes fuel n t first → if_went first (λ now u. course p k fuel now u) (λ over. (fuel, over)) ≡ (left, last) → MakesTurn n t left last b
  after_first k fuel left t n s last on here (Went now u) sound b first e =
      let next = on fuel left (with_thread n (Some u) (record t { globals = now; running = Some n })) n u last sound refl (get_set t.threads n (Some u) (slice_get_within t.threads n (Some s) here)) e in
      let again = comes_again left n t now u last in
      (next.0, ap (beats p next.0) first ∙ next.1 ∙ again, subst (λ (c : Beat). SoundBeat c) again next.2)
  after_first k fuel left t n s last on here (Acts a now u) sound b first e = over fuel left t n (Acts a now u) last sound b first e
  after_first k fuel left t n s last on here (Awaits now u) sound b first e = over fuel left t n (Awaits now u) last sound b first e
  after_first k fuel left t n s last on here (Ends now) sound b first e = over fuel left t n (Ends now) last sound b first e
  after_first k fuel left t n s last on here Broken sound b first e = absurd sound

  -- one is made, where there is fuel
  with_first : (k fuel left : ℕ) (t : Turns) (n : ℕ) (s : Standing) (last : Made) → ComesTo k → AreSound m parts instructions t → t.running ≡ Some n → slice_get t.threads n ≡ Some (Some s) →
      course p (suc k) (suc fuel) t.globals s ≡ (left, last) → MakesTurn n t left last (beat p (suc fuel) t)
  with_first k fuel left t n s last on is runs here e =
      let placed = running_there t n is.placed runs in
      let same_slot : Some (Some placed.0) ≡ Some (Some s) = sym placed.1 ∙ here in
      let same : placed.0 ≡ s = cc in
      let free : is_ready_after s.wanted ≡ false = subst (λ (r : Standing). is_ready_after r.wanted ≡ false) same placed.2 in
      let sound = made_sound m instructions is.shapes t.globals s (is.threads n s here) parts is.are in
      after_first k (fuel_after (suc fuel) s) left t n s last on here (comes_of p t.globals s) (comes_sound t n s is runs here (fuel_after (suc fuel) s) (comes_of p t.globals s) free sound) (beat p (suc fuel) t)
      (goes_on_beat t n s fuel runs here) e

  comes_to : (k : ℕ) → ComesTo k
  comes_to zero fuel left t n s last is runs here e = not_begun fuel left t n s last is runs here e
  comes_to (suc k) zero left t n s last is runs here e = not_begun zero left t n s last is runs here e
  comes_to (suc k) (suc fuel) left t n s last is runs here e =
      let turn = with_first k fuel left t n s last (comes_to k) is runs here e in
      (suc turn.0, turn.1, turn.2)

  pub turn_made : (k fuel left : ℕ) (t : Turns) (n : ℕ) (s : Standing) (last : Made) → AreSound m parts instructions t → t.running ≡ Some n → slice_get t.threads n ≡ Some (Some s) →
      course p (suc k) (suc fuel) t.globals s ≡ (left, last) → MakesTurn n t left last (beat p (suc fuel) t)
  turn_made k fuel left t n s last is runs here e = with_first k fuel left t n s last (comes_to k) is runs here e

  -- ---- each instruction finds its operands

  ready_there : (shapes : Shapes) (globals : List Value) (s : Standing) → AreShapes m parts instructions shapes → IsSoundThread m instructions shapes globals s → IsReady p globals s
  ready_there shapes globals s are is =
      let th = is.thread in
      let found = instruction_at m parts instructions shapes s.address th.shape are th.there in
      subst (λ (o : Option Instruction). FindsInstruction p o globals s) (sym found.1)
      (finds m instructions shapes globals th.shape s th.globals th.has.locals th.has.stack th.has.tries th.has.requests th.has.pending found.0 found.2)

  abbrev Later : Shapes → ℕ → Type 0
  Later shapes k = (globals now : List Value) (s t : Standing) → AreShapes m parts instructions shapes → IsSoundThread m instructions shapes globals s → after p k globals s ≡ Went now t → IsReady p now t

  after_one : (shapes : Shapes) (k : ℕ) (s : Standing) (now : List Value) (t : Standing) → Later shapes k → AreShapes m parts instructions shapes → (first : Made) → SoundMade m instructions shapes s first →
      if_went first (λ g u. after p k g u) (λ over. Broken) ≡ Went now t → IsReady p now t
  after_one shapes k s now t on are (Went g u) sound e = on g now u t are sound.0 e
  after_one shapes k s now t on are (Acts a g u) sound e = cc
  after_one shapes k s now t on are (Awaits g u) sound e = cc
  after_one shapes k s now t on are (Ends g) sound e = cc
  after_one shapes k s now t on are Broken sound e = absurd sound

  later : (shapes : Shapes) (k : ℕ) → Later shapes k
  later shapes zero globals now s t are is e =
      let same_globals : globals ≡ now = cc in
      let same_thread : s ≡ t = cc in
      subst (λ (g : List Value). IsReady p g t) same_globals (subst (λ (u : Standing). IsReady p globals u) same_thread (ready_there shapes globals s are is))
  later shapes (suc k) globals now s t are is e = after_one shapes k s now t (later shapes k) are (comes_of p globals s) (made_sound m instructions shapes globals s is parts are) e

  pub stays_ready : (t : Turns) (n : ℕ) (s : Standing) → AreSound m parts instructions t → slice_get t.threads n ≡ Some (Some s) → StaysReady p t.globals s
  stays_ready t n s is here k now u e = later is.shapes k t.globals now s u is.are (is.threads n s here) e

  -- a turn that is taken changes nothing else
  taken_by : (t : Turns) (fuel : ℕ) (running : Option ℕ) (ready : List ℕ) → t.running ≡ running → t.ready ≡ ready → stands t ≡ true → beat p (suc fuel) t ≡ beat p (suc fuel) (takes_by t running ready)
  taken_by t fuel (Some n) ready runs waits stand = refl
  taken_by t fuel None [] runs waits stand = refl
  taken_by t fuel None (n ∷ ready) runs waits stand =
      ap (λ (b : Bool). if b then next_turn p (suc fuel) t t.running t.ready else Stops turns.Finished (suc fuel) t) stand
      ∙ ap (λ (r : Option ℕ). next_turn p (suc fuel) t r t.ready) runs
      ∙ ap (λ (xs : List ℕ). next_turn p (suc fuel) t None xs) waits
      ∙ sym (ap (λ (b : Bool). if b then turn_of p (suc fuel) n (slice_get t.threads n) (record t { running = Some n; ready = ready }) else Stops turns.Finished (suc fuel) (record t { running = Some n; ready = ready })) stand)

  pub taken_beat : (t : Turns) (fuel : ℕ) → stands t ≡ true → beat p (suc fuel) t ≡ beat p (suc fuel) (takes_turn t)
  taken_beat t fuel stand = taken_by t fuel t.running t.ready refl refl stand
