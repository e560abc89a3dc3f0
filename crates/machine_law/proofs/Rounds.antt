-- Beats: whichever thread makes one, each thread under a number has the life that the history says.
use Rattle.std.proofs.Common.{◌≡◌, ℕ, zero, suc, ◌<◌, List, [], ◌∷◌, ◌++◌, nat_eq, Bool, true, false, if◌then◌else◌, Option, Some, None, Ok, length, slice_get, slice_set, refl, sym, ap, subst, ◌∙◌, inl, inr, true≢false}
use Rattle.std.proofs.lemmas.Bool.{eqb-true, eqb-false}
use Rattle.std.proofs.lemmas.Option.{slice_get_within}
use Rattle.lynx_code.specs.declared.instruction.Instruction.{Instruction}
use Rattle.lynx_meaning.specs.Code.{Next, Goes, Over, Comes, Stuck, Program}
use Rattle.lynx_meaning.specs.Courses.{Action, New, Destroy, Bind, Unbind, Connect, Accept, Close, Reply, Write, Await, Stop, Ended, Waits, Out}
use Rattle.lynx_meaning.specs.Needs.{Wanted, wanted_by}
use Rattle.lynx_meaning.specs.Values.{Value, HaveTypes}
use Rattle.code_shapes.specs.Shapes.{ModuleTypes, PartTypes, program}
use Rattle.machine_turns.specs.Threads.{Standing, Made, Went, Acts, Awaits, Ends, Broken, acted, comes_of, fuel_after, goes_on, is_await, last_action, made}
use Rattle.machine_turns.specs.Turns.{Beat, RunsOn, Stops, Turns, asks_for, awaits, beat, beats, comes, is_ready_after, next_turn, stands, turn_of, wakes, with_fuel, with_thread}
use Rattle.machine_turns.specs.Turns as turns
use Rattle.machine_sound.specs.Sound.{AreSound}
use Rattle.machine_sound.specs.Taken.{next_number, takes_by}
use Rattle.machine_sound.proofs.Outside.{taken_sound}
use Rattle.machine_sound.proofs.Placing.{get_other, get_set, running_there}
use Rattle.machine_sound.proofs.Rounds.{acts_threads}
use Rattle.machine_sound.proofs.Turning.{SoundBeat, turn_made}
use Rattle.machine_requests.proofs.Beats.{one_course}
use Rattle.machine_law.specs.Lives.{Life, behind_beat, behind_beats, is_number, lived, lives_on, mover}
use Rattle.machine_law.specs.Histories.{AllGiven, turns_of}
use Rattle.machine_law.proofs.Living.{Holds, IsTurn, Lives, Amid, Between, Fresh, Stopped, StaysWith, holds_stays, some_wanted, turn_amid, turn_between, turn_new}
use Rattle.machine_law.proofs.Beating.{HoldsBehind, IsWhole, lives_behind}

-- ---- facts of one beat

-- what is left of a thread wants nothing that it asks for not
abbrev pub WantsNone : Made → Type 0
WantsNone (Went globals v) = v.wanted ≡ None
WantsNone (Awaits globals v) = v.wanted ≡ None
WantsNone _ = Unit {0}

acted_wants : (o : Option Action) (globals : List Value) (s : Standing) → s.wanted ≡ None → WantsNone (acted o globals s)
acted_wants (Some Await) globals s free = free
acted_wants None globals s free = tt
acted_wants (Some New) globals s free = tt
acted_wants (Some (Destroy link)) globals s free = tt
acted_wants (Some (Bind link entry)) globals s free = tt
acted_wants (Some (Unbind link entry)) globals s free = tt
acted_wants (Some (Connect link op values)) globals s free = tt
acted_wants (Some (Accept link op)) globals s free = tt
acted_wants (Some Close) globals s free = tt
acted_wants (Some (Reply values)) globals s free = tt
acted_wants (Some (Write text)) globals s free = tt
acted_wants (Some Stop) globals s free = tt

made_wants : (b : Bool) (s : Standing) (next : Next) → s.wanted ≡ None → WantsNone (made b s next)
made_wants b s (Goes now) free = refl
made_wants b s (Over (Comes (Waits actions store))) free = acted_wants (last_action actions) store.globals s free
made_wants b s (Over (Comes (Ended actions store))) free = tt
made_wants b s (Over (Comes (Out actions))) free = tt
made_wants b s (Over Stuck) free = tt

pub free_of : (w : Option Wanted) → ((v : Wanted) → w ≡ Some v → is_ready_after (Some v) ≡ true) → is_ready_after w ≡ false → w ≡ None
free_of None all free = refl
free_of (Some v) all free = absurd (true≢false (sym (all v refl) ∙ free))

-- ---- the other threads

module _ (m : ModuleTypes) (p : Program) (t : Turns) (k left : ℕ) (n : ℕ) (life : Option Life) (other : n ≡ k → ⊥) (turn : t.running ≡ Some n → ⊥) (holds : Holds m p n t (slice_get t.threads n) life) where
  stays_there : (u : Turns) (v : Option Standing) → u.threads ≡ slice_set t.threads k v → Holds m p n u (slice_get u.threads n) life
  stays_there u v changed =
      subst (λ (o : Option (Option Standing)). Holds m p n u o life) (sym (ap (λ (ts : List (Option Standing)). slice_get ts n) changed ∙ get_other t.threads k n v other))
      (holds_stays m p n t u (slice_get t.threads n) life (inl turn) holds)

  awaits_stays : (again : Bool) (globals : List Value) (v : Standing) → HoldsBehind m p n life (RunsOn left (with_thread k (Some v) (awaits k again (record t { globals = globals }))))
  awaits_stays true globals v = stays_there (with_thread k (Some v) (awaits k true (record t { globals = globals }))) (Some v) refl
  awaits_stays false globals v = stays_there (with_thread k (Some v) (awaits k false (record t { globals = globals }))) (Some v) refl

  others_stay : (last : Made) → IsWhole (comes left k t last) → HoldsBehind m p n life (comes left k t last)
  others_stay (Went globals v) whole = stays_there (with_thread k (Some v) (record t { globals = globals; running = Some k })) (Some v) refl
  others_stay (Acts a globals v) whole =
      let mid : Turns = record t { globals = globals } in
      stays_there (with_thread k (Some v) (asks_for k a mid)) (Some v) (ap (λ (ts : List (Option Standing)). slice_set ts k (Some v)) (acts_threads k a mid))
  others_stay (Awaits globals v) whole = awaits_stays v.again globals v
  others_stay (Ends globals) whole = stays_there (with_thread k None (wakes (record t { globals = globals }))) None refl
  others_stay Broken whole = absurd whole

-- ---- what has been given

module _ (t : Turns) (k left : ℕ) (there : k < length t.threads) (given : AllGiven t) where
  abbrev pub GivenBehind : Beat → Type 0
  GivenBehind (RunsOn left u) = AllGiven u
  GivenBehind _ = Unit {0}

  given_there : (u : Turns) (v : Option Standing) → u.threads ≡ slice_set t.threads k v → ((s : Standing) → v ≡ Some s → s.wanted ≡ None) → AllGiven u
  given_there u v changed none n s w here wants = by_number (nat_eq n k) refl
    where
      there_so : slice_get (slice_set t.threads k v) n ≡ Some (Some s)
      there_so = sym (ap (λ (ts : List (Option Standing)). slice_get ts n) changed) ∙ here

      by_number : (b : Bool) → nat_eq n k ≡ b → is_ready_after (Some w) ≡ true
      by_number true e =
          let it : Some v ≡ Some (Some s) = sym (get_set t.threads k v there) ∙ ap (λ (j : ℕ). slice_get (slice_set t.threads k v) j) (sym (eqb-true n k e)) ∙ there_so in
          let never : None ≡ Some w = sym (none s cc) ∙ wants in
          cc
      by_number false e = given n s w (sym (get_other t.threads k n v (eqb-false n k e)) ∙ there_so) wants

  awaits_given : (again : Bool) (globals : List Value) (v : Standing) → v.wanted ≡ None → AllGiven (with_thread k (Some v) (awaits k again (record t { globals = globals })))
  awaits_given true globals v free = given_there (with_thread k (Some v) (awaits k true (record t { globals = globals }))) (Some v) refl (λ s e. let same : v ≡ s = cc in subst (λ (r : Standing). r.wanted ≡ None) same free)
  awaits_given false globals v free = given_there (with_thread k (Some v) (awaits k false (record t { globals = globals }))) (Some v) refl (λ s e. let same : v ≡ s = cc in subst (λ (r : Standing). r.wanted ≡ None) same free)

  given_behind : (last : Made) → WantsNone last → GivenBehind (comes left k t last)
  given_behind (Went globals v) free =
      given_there (with_thread k (Some v) (record t { globals = globals; running = Some k })) (Some v) refl (λ s e. let same : v ≡ s = cc in subst (λ (r : Standing). r.wanted ≡ None) same free)
  given_behind (Acts a globals v) free = tt
  given_behind (Awaits globals v) free = awaits_given v.again globals v free
  given_behind (Ends globals) free = given_there (with_thread k None (wakes (record t { globals = globals }))) None refl (λ s e. cc)
  given_behind Broken free = tt

-- ---- a beat

module _ (m : ModuleTypes) (parts : List PartTypes) (instructions : List Instruction) where
  abbrev p : Program
  p = program m instructions

  -- what is so behind beats: where the run goes on, each action was given its outcome
  abbrev pub Kept : ℕ → Option Life → Beat → Type 0
  Kept n life (RunsOn left u) = AreSound m parts instructions u × AllGiven u × Holds m p n u (slice_get u.threads n) life
  Kept n life (Stops stop left u) = AreSound m parts instructions u × Holds m p n u (slice_get u.threads n) life
  Kept n life turns.Broken = ⊥

  kept_of : (n : ℕ) (life : Option Life) (t : Turns) (k left : ℕ) (there : k < length t.threads) (given : AllGiven t) (b : Beat) → SoundBeat m parts instructions b → GivenBehind t k left there given b → HoldsBehind m p n life b → Kept n life b
  kept_of n life t k left there given (RunsOn rest u) sound all holds = (sound, all, holds)
  kept_of n life t k left there given (Stops stop rest u) sound all holds = (sound, holds)
  kept_of n life t k left there given turns.Broken sound all holds = holds

  whole_of : (b : Beat) → SoundBeat m parts instructions b → IsWhole b
  whole_of (RunsOn left u) sound = tt
  whole_of (Stops stop left u) sound = tt
  whole_of turns.Broken sound = sound

  -- the thread that has the turn
  turn_of_life : (n : ℕ) (t : Turns) (s : Standing) (life : Life) → HaveTypes m.globals t.globals → s.wanted ≡ None → Lives m p n t s life → IsTurn m p t s life
  turn_of_life n t s life known free (Fresh is) = turn_new m p t s life known is
  turn_of_life n t s life known free (Between is) = turn_between m p t s life n is
  turn_of_life n t s life known free (Amid is) = turn_amid m p t s life n free known is
  turn_of_life n t s life known free (Stopped is) = absurd (some_wanted s.wanted (wanted_by Stop) free is.wanted)

  module _ (n : ℕ) (t : Turns) (k fuel : ℕ) (sound : AreSound m parts instructions t) (runs : t.running ≡ Some k) (given : AllGiven t) where
    abbrev s : Standing
    s = (running_there t k sound.placed runs).0

    here : slice_get t.threads k ≡ Some (Some s)
    here = (running_there t k sound.placed runs).1

    there : k < length t.threads
    there = slice_get_within t.threads k (Some s) here

    free : s.wanted ≡ None
    free = free_of s.wanted (λ v e. given k s v here e) (running_there t k sound.placed runs).2

    abbrev left : ℕ
    left = fuel_after (suc fuel) s

    last_sound : SoundBeat m parts instructions (comes left k t (comes_of p t.globals s))
    last_sound = (turn_made m parts instructions zero fuel left t k s (comes_of p t.globals s) sound runs here (one_course left (comes_of p t.globals s))).2

    own_behind : (life : Option Life) → Holds m p k t (Some (Some s)) life → HoldsBehind m p k (lives_on p t (Some (Some s)) life) (comes left k t (comes_of p t.globals s))
    own_behind None holds = absurd holds
    own_behind (Some life) holds =
        lives_behind m p t k s life there free (turn_of_life k t s life sound.globals free holds) left (is_await (slice_get instructions s.address))
        (whole_of (comes left k t (comes_of p t.globals s)) last_sound)

    other_number : (n ≡ k → ⊥) → t.running ≡ Some n → ⊥
    other_number other e = let same : Some n ≡ Some k = sym e ∙ runs in other cc

    by_number : (life : Option Life) (b : Bool) → nat_eq n k ≡ b → Holds m p n t (slice_get t.threads n) life → HoldsBehind m p n (if b then lives_on p t (slice_get t.threads n) life else life) (comes left k t (comes_of p t.globals s))
    by_number life true e holds =
        let same = eqb-true n k e in
        subst (λ (j : ℕ). HoldsBehind m p j (lives_on p t (slice_get t.threads j) life) (comes left k t (comes_of p t.globals s))) (sym same)
        (subst (λ (o : Option (Option Standing)). HoldsBehind m p k (lives_on p t o life) (comes left k t (comes_of p t.globals s))) (sym here)
        (own_behind life (subst (λ (o : Option (Option Standing)). Holds m p k t o life) here (subst (λ (j : ℕ). Holds m p j t (slice_get t.threads j) life) same holds))))
    by_number life false e holds =
        others_stay m p t k left n life (eqb-false n k e) (other_number (eqb-false n k e)) holds (comes_of p t.globals s) (whole_of (comes left k t (comes_of p t.globals s)) last_sound)

    pub turn_kept : (life : Option Life) → Holds m p n t (slice_get t.threads n) life → Kept n (if nat_eq n k then lives_on p t (slice_get t.threads n) life else life) (turn_of p (suc fuel) k (slice_get t.threads k) t)
    turn_kept life holds =
        subst (λ (o : Option (Option Standing)). Kept n (if nat_eq n k then lives_on p t (slice_get t.threads n) life else life) (turn_of p (suc fuel) k o t)) (sym here)
        (kept_of n (if nat_eq n k then lives_on p t (slice_get t.threads n) life else life) t k left there given (comes left k t (comes_of p t.globals s)) last_sound
        (given_behind t k left there given (comes_of p t.globals s) (made_wants (is_await (slice_get instructions s.address)) s (goes_on p t.globals s) free))
        (by_number life (nat_eq n k) refl holds))

  -- the thread that takes its turn had not got it
  takes_kept : (n fuel : ℕ) (t : Turns) (k : ℕ) (ready : List ℕ) (life : Option Life) → t.running ≡ None → AreSound m parts instructions (record t { running = Some k; ready = ready }) → AllGiven t → Holds m p n t (slice_get t.threads n) life →
      Kept n (if nat_eq n k then lives_on p t (slice_get t.threads n) life else life) (turn_of p (suc fuel) k (slice_get t.threads k) (record t { running = Some k; ready = ready }))
  takes_kept n fuel t k ready life none sound given holds =
      turn_kept n (record t { running = Some k; ready = ready }) k fuel sound refl given life
      (holds_stays m p n t (record t { running = Some k; ready = ready }) (slice_get t.threads n) life (inl (λ e. let never : None ≡ Some n = sym none ∙ e in cc)) holds)

  next_kept : (n fuel : ℕ) (t : Turns) (running : Option ℕ) (ready : List ℕ) (life : Option Life) → t.running ≡ running → AreSound m parts instructions t → AreSound m parts instructions (takes_by t running ready) → AllGiven t → Holds m p n t (slice_get t.threads n) life →
      Kept n (if is_number n (next_number running ready) then lives_on p t (slice_get t.threads n) life else life) (next_turn p (suc fuel) t running ready)
  next_kept n fuel t (Some k) ready life runs sound taken given holds = turn_kept n t k fuel sound runs given life holds
  next_kept n fuel t None [] life runs sound taken given holds = (sound, holds)
  next_kept n fuel t None (k ∷ ready) life runs sound taken given holds = takes_kept n fuel t k ready life runs taken given holds

  stands_kept : (n fuel : ℕ) (t : Turns) (b : Bool) (life : Option Life) → AreSound m parts instructions t → AllGiven t → Holds m p n t (slice_get t.threads n) life →
      Kept n (if is_number n (if b then next_number t.running t.ready else None) then lives_on p t (slice_get t.threads n) life else life) (if b then next_turn p (suc fuel) t t.running t.ready else Stops turns.Finished (suc fuel) t)
  stands_kept n fuel t true life sound given holds = next_kept n fuel t t.running t.ready life refl sound (taken_sound m parts instructions t sound) given holds
  stands_kept n fuel t false life sound given holds = (sound, holds)

  -- without fuel none goes on
  spent_next : (n : ℕ) (t : Turns) (running : Option ℕ) (ready : List ℕ) (life : Option Life) → AreSound m parts instructions t → Holds m p n t (slice_get t.threads n) life → Kept n life (next_turn p zero t running ready)
  spent_next n t (Some k) ready life sound holds = (sound, holds)
  spent_next n t None [] life sound holds = (sound, holds)
  spent_next n t None (k ∷ ready) life sound holds = (sound, holds)

  spent_kept : (n : ℕ) (t : Turns) (b : Bool) (life : Option Life) → AreSound m parts instructions t → Holds m p n t (slice_get t.threads n) life → Kept n life (if b then next_turn p zero t t.running t.ready else Stops turns.Finished zero t)
  spent_kept n t true life sound holds = spent_next n t t.running t.ready life sound holds
  spent_kept n t false life sound holds = (sound, holds)

  beat_kept : (n fuel : ℕ) (t : Turns) (life : Option Life) → AreSound m parts instructions t → AllGiven t → Holds m p n t (slice_get t.threads n) life → Kept n (behind_beat p n fuel t life) (beat p fuel t)
  beat_kept n zero t life sound given holds = spent_kept n t (stands t) life sound holds
  beat_kept n (suc fuel) t life sound given holds = stands_kept n fuel t (stands t) life sound given holds

  beats_kept : (n k : ℕ) (b : Beat) (life : Option Life) → Kept n life b → Kept n (behind_beats p n k b life) (beats p k b)
  beats_kept n zero b life kept = kept
  beats_kept n (suc k) (RunsOn fuel t) life kept = beats_kept n k (beat p fuel t) (behind_beat p n fuel t life) (beat_kept n fuel t life kept.0 kept.1 kept.2)
  beats_kept n (suc k) (Stops stop rest u) life kept = kept
  beats_kept n (suc k) turns.Broken life kept = absurd kept

  -- the turns behind beats
  turns_kept : (n : ℕ) (life : Option Life) (t : Turns) (b : Beat) → Kept n life b → AreSound m parts instructions (turns_of b t) × Holds m p n (turns_of b t) (slice_get (turns_of b t).threads n) life
  turns_kept n life t (RunsOn rest u) kept = (kept.0, kept.2)
  turns_kept n life t (Stops stop rest u) kept = (kept.0, kept.1)
  turns_kept n life t turns.Broken kept = absurd kept

  pub run_kept : (n k fuel : ℕ) (t : Turns) (life : Option Life) → AreSound m parts instructions t → AllGiven t → Holds m p n t (slice_get t.threads n) life →
      AreSound m parts instructions (turns_of (beats p k (RunsOn fuel t)) t) × Holds m p n (turns_of (beats p k (RunsOn fuel t)) t) (slice_get (turns_of (beats p k (RunsOn fuel t)) t).threads n) (behind_beats p n k (RunsOn fuel t) life)
  run_kept n k fuel t life sound given holds =
      turns_kept n (behind_beats p n k (RunsOn fuel t) life) t (beats p k (RunsOn fuel t)) (beats_kept n k (RunsOn fuel t) life (sound, given, holds))
