-- A round of a run: a thread takes its turn, goes on, and what came of it changes those that wait.
use Rattle.std.proofs.Common.{arith, ◌≡◌, ℕ, zero, suc, ◌+◌, ◌<◌, List, ◌∷◌, [], Bool, true, false, Option, Some, None, length, slice_get, slice_set, refl, sym, ap, subst, ◌∙◌, ⊎_elim, not-suc-le-zero, true≢false}
use Rattle.std.proofs.lemmas.Option.{slice_get_within}
use Rattle.lynx_code.specs.declared.instruction.Instruction.{Instruction}
use Rattle.lynx_meaning.specs.Courses.{Action, New, Destroy, Bind, Unbind, Connect, Accept, Close, Reply, Write, Await, Stop}
use Rattle.lynx_meaning.specs.Code.{Program}
use Rattle.lynx_meaning.specs.Values.{Value}
use Rattle.code_shapes.specs.Shapes.{ModuleTypes, program, PartTypes}
use Rattle.machine_turns.specs.Threads.{Standing, Made, Went, Acts, Awaits, Ends, Broken, course}
use Rattle.lynx_meaning.specs.Needs.{wanted_by}
use Rattle.machine_turns.specs.Turns.{Act, Beat, Turns, RunsOn, Stops, asks_for, awaits, beat, beats, comes, is_ready_after, stands, wakes, with_thread}
use Rattle.machine_turns.specs.Turns as turns
use Rattle.machine_steps.specs.Operands.{StaysReady}
use Rattle.machine_sound.specs.Sound.{AreSound, IsAsking, StayBlocked}
use Rattle.machine_sound.specs.Taken.{takes_by, takes_turn}
use Rattle.machine_sound.specs.Weights.{amid, weight}
use Rattle.machine_sound.proofs.Advancing.{Advances, turn_advances, turn_weighs}
use Rattle.machine_sound.proofs.Outside.{taken_sound}
use Rattle.machine_sound.proofs.Placing.{decided, get_other, get_set, running_there}
use Rattle.machine_sound.proofs.Turning.{SoundBeat, comes_again, stays_ready, taken_beat, turn_made}

-- ---- what a thread asks for

pub acts_threads : (n : ℕ) (a : Action) (t : Turns) → (asks_for n a t).threads ≡ t.threads
acts_threads n New t = refl
acts_threads n (Destroy link) t = refl
acts_threads n (Bind link entry) t = refl
acts_threads n (Unbind link entry) t = refl
acts_threads n (Connect link op values) t = refl
acts_threads n (Accept link op) t = refl
acts_threads n Close t = refl
acts_threads n (Reply values) t = refl
acts_threads n (Write text) t = refl
acts_threads n Await t = refl
acts_threads n Stop t = refl

-- it wants what its action needs
asks_there : (n : ℕ) (a : Action) (t : Turns) (s : Standing) → n < length t.threads → s.wanted ≡ Some (wanted_by a) → IsAsking n (wanted_by a) (with_thread n (Some s) (asks_for n a t))
asks_there n a t s there wants =
    let within : n < length (asks_for n a t).threads = subst (λ (ts : List (Option Standing)). n < length ts) (sym (acts_threads n a t)) there in
    (s, get_set (asks_for n a t).threads n (Some s) within, wants)

stops_of : (n k left l : ℕ) (a b : Action) (t u : Turns) → Stops (Act n a) left t ≡ Stops (Act k b) l u → (n ≡ k) × (a ≡ b) × (t ≡ u)
stops_of n k left l a b t u e = (cc, cc, cc)

asks : (fuel left n : ℕ) (t : Turns) (s : Standing) (last : Made) (k l : ℕ) (a : Action) (u : Turns) → slice_get t.threads n ≡ Some (Some s) → Advances fuel (amid s) left last → comes left n t last ≡ Stops (Act k a) l u → IsAsking k (wanted_by a) u
asks fuel left n t s (Went globals v) k l a u here advances e = cc
asks fuel left n t s (Acts b globals v) k l a u here advances e =
    let now : Turns = record t { globals = globals } in
    let same = stops_of n k left l b a (with_thread n (Some v) (asks_for n b now)) u e in
    subst (λ (i : ℕ). IsAsking i (wanted_by a) u) same.0
    (subst (λ (c : Action). IsAsking n (wanted_by c) u) same.1
    (subst (λ (w : Turns). IsAsking n (wanted_by b) w) same.2 (asks_there n b now v (slice_get_within t.threads n (Some s) here) advances)))
asks fuel left n t s (Awaits globals v) k l a u here advances e = cc
asks fuel left n t s (Ends globals) k l a u here advances e = cc
asks fuel left n t s Broken k l a u here advances e = cc

-- ---- threads that are blocked

-- one thread that was not blocked has changed
kept : (t u : Turns) (n : ℕ) (s : Standing) (o : Option Standing) → slice_get t.threads n ≡ Some (Some s) → is_ready_after s.wanted ≡ false → u.threads ≡ slice_set t.threads n o → StayBlocked t u
kept t u n s o here free changed k r there blocked =
    ⊎_elim
    (λ (e : k ≡ n).
    let same_slot : Some (Some s) ≡ Some (Some r) = sym here ∙ ap (λ (i : ℕ). slice_get t.threads i) (sym e) ∙ there in
    let same : s ≡ r = cc in
    absurd (true≢false (sym blocked ∙ ap (λ (q : Standing). is_ready_after q.wanted) (sym same) ∙ free)))
    (λ (e : k ≡ n → ⊥). ap (λ (ts : List (Option Standing)). slice_get ts k) changed ∙ get_other t.threads n k o e ∙ there)
    (decided k n)

-- the turns of a beat
abbrev pub KeepsBlocked : Turns → Beat → Type 0
KeepsBlocked t (RunsOn fuel u) = StayBlocked t u
KeepsBlocked t (Stops stop fuel u) = StayBlocked t u
KeepsBlocked t turns.Broken = Unit {0}

comes_blocked : (left n : ℕ) (t : Turns) (s : Standing) (last : Made) → slice_get t.threads n ≡ Some (Some s) → is_ready_after s.wanted ≡ false → KeepsBlocked t (comes left n t last)
comes_blocked left n t s (Went globals v) here free = kept t (with_thread n (Some v) (record t { globals = globals; running = Some n })) n s (Some v) here free refl
comes_blocked left n t s (Acts a globals v) here free =
    let now : Turns = record t { globals = globals } in
    kept t (with_thread n (Some v) (asks_for n a now)) n s (Some v) here free (ap (λ (ts : List (Option Standing)). slice_set ts n (Some v)) (acts_threads n a now))
comes_blocked left n t s (Awaits globals v) here free = by_again v.again
  where
    by_again : (again : Bool) → StayBlocked t (with_thread n (Some v) (awaits n again (record t { globals = globals })))
    by_again true = kept t (with_thread n (Some v) (awaits n true (record t { globals = globals }))) n s (Some v) here free refl
    by_again false = kept t (with_thread n (Some v) (awaits n false (record t { globals = globals }))) n s (Some v) here free refl
comes_blocked left n t s (Ends globals) here free = kept t (with_thread n None (wakes (record t { globals = globals }))) n s None here free refl
comes_blocked left n t s Broken here free = tt

taken_threads : (t : Turns) (running : Option ℕ) (ready : List ℕ) → (takes_by t running ready).threads ≡ t.threads
taken_threads t (Some n) ready = refl
taken_threads t None [] = refl
taken_threads t None (n ∷ ready) = refl

-- the turn was taken by a thread that was not blocked
taken_blocked : (t u : Turns) → u.threads ≡ t.threads → (b : Beat) → KeepsBlocked u b → KeepsBlocked t b
taken_blocked t u same (RunsOn fuel v) stay = λ k r there blocked. stay k r (ap (λ (ts : List (Option Standing)). slice_get ts k) same ∙ there) blocked
taken_blocked t u same (Stops stop fuel v) stay = λ k r there blocked. stay k r (ap (λ (ts : List (Option Standing)). slice_get ts k) same ∙ there) blocked
taken_blocked t u same turns.Broken stay = tt

-- ---- a turn that is taken

taken_weight : (fuel : ℕ) (t : Turns) (running : Option ℕ) (ready : List ℕ) → weight fuel (takes_by t running ready) ≡ weight fuel t
taken_weight fuel t (Some n) ready = refl
taken_weight fuel t None [] = refl
taken_weight fuel t None (n ∷ ready) = refl

-- beats after beats
pub beats_on : (p : Program) (k j : ℕ) (b c : Beat) (fuel : ℕ) (t : Turns) → beats p k b ≡ RunsOn fuel t → beats p j (RunsOn fuel t) ≡ c → beats p (k + j) b ≡ c
beats_on p zero j b c fuel t is onward =
    let size : zero + j ≡ j = omega arith in
    ap (λ n. beats p n b) size ∙ ap (beats p j) is ∙ onward
beats_on p (suc k) j (RunsOn left u) c fuel t is onward =
    let size : suc k + j ≡ suc (k + j) = omega arith in
    ap (λ n. beats p n (RunsOn left u)) size ∙ beats_on p k j (beat p left u) c fuel t is onward
beats_on p (suc k) j (Stops stop left u) c fuel t is onward = cc
beats_on p (suc k) j turns.Broken c fuel t is onward = cc

module _ (m : ModuleTypes) (parts : List PartTypes) (instructions : List Instruction) where
  -- the thread that has the turn stands, and finds its operands
  pub can_go_on : (t : Turns) (n : ℕ) → AreSound m parts instructions t → t.running ≡ Some n → (s : Standing) × (slice_get t.threads n ≡ Some (Some s)) × StaysReady (program m instructions) t.globals s
  can_go_on t n is runs =
      let here = running_there t n is.placed runs in
      (here.0, here.1, stays_ready m parts instructions t n here.0 is here.1)

  -- what comes of a thread is the same where it has gone on
  pub comes_there : (fuel n : ℕ) (t : Turns) (globals : List Value) (s : Standing) (last : Made) → t.running ≡ Some n → comes fuel n (with_thread n (Some s) (record t { globals = globals })) last ≡ comes fuel n t last
  comes_there fuel n t globals s last runs =
      ap (λ (r : Option ℕ). comes fuel n (with_thread n (Some s) (record t { globals = globals; running = r })) last) runs ∙ comes_again m parts instructions fuel n t globals s last

  -- Some beats lead to this, and all threads are sound. Where the run goes on, less is left to do; where a thread asks for an action, it
  -- wants what that needs.
  pub record IsRound (fuel : ℕ) (t : Turns) (b : Beat) : Type 0 where
    pub come : (k : ℕ) × (beats (program m instructions) k (RunsOn fuel t) ≡ b)
    pub sound : SoundBeat m parts instructions b
    pub less : (now : ℕ) (u : Turns) → b ≡ RunsOn now u → weight now u < weight fuel t
    pub blocked : KeepsBlocked t b
    pub asked : (k now : ℕ) (a : Action) (u : Turns) → b ≡ Stops (Act k a) now u → IsAsking k (wanted_by a) u

  pub round : (fuel left : ℕ) (t : Turns) (n j : ℕ) (s : Standing) (last : Made) (b : Beat) → AreSound m parts instructions t → stands t ≡ true → 0 < fuel → (takes_turn t).running ≡ Some n →
      slice_get (takes_turn t).threads n ≡ Some (Some s) → course (program m instructions) (suc j) fuel (takes_turn t).globals s ≡ (left, last) → b ≡ comes left n (takes_turn t) last → IsRound fuel t b
  round zero left t n j s last b is stand some runs here gone made = absurd (not-suc-le-zero some)
  round (suc fuel) left t n j s last b is stand some runs here gone made =
      let turn = turn_made m parts instructions j fuel left (takes_turn t) n s last (taken_sound m parts instructions t is) runs here gone in
      let placed = running_there (takes_turn t) n (taken_sound m parts instructions t is).placed runs in
      let same_slot : Some (Some placed.0) ≡ Some (Some s) = sym placed.1 ∙ here in
      let same_thread : placed.0 ≡ s = cc in
      let free : is_ready_after s.wanted ≡ false = subst (λ (r : Standing). is_ready_after r.wanted ≡ false) same_thread placed.2 in
      let advances = turn_advances (program m instructions) j fuel left (takes_turn t).globals s last gone in
      record {
        come = (suc turn.0, ap (beats (program m instructions) turn.0) (taken_beat m parts instructions t fuel stand) ∙ turn.1 ∙ sym made);
        sound = subst (λ (c : Beat). SoundBeat m parts instructions c) (sym made) turn.2;
        less = λ now u e.
            let falls = turn_weighs (suc fuel) left n (takes_turn t) s last now u here advances (sym made ∙ e) in
            let same = taken_weight (suc fuel) t t.running t.ready in
            omega arith;
        blocked = subst (λ (c : Beat). KeepsBlocked t c) (sym made)
            (taken_blocked t (takes_turn t) (taken_threads t t.running t.ready) (comes left n (takes_turn t) last) (comes_blocked left n (takes_turn t) s last here free));
        asked = λ k now a u e. asks (suc fuel) left n (takes_turn t) s last k now a u here advances (sym made ∙ e);
      }
