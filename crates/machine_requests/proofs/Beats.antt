-- A beat leaves all that was heard, and the open requests as they were.
use Rattle.std.proofs.Common.{◌≡◌, ℕ, zero, suc, ◌<◌, List, [], ◌∷◌, Bool, true, false, if◌then◌else◌, Option, Some, None, length, slice_get, slice_set, refl, sym, ap, subst, ◌∙◌, ⊎_elim, true≢false}
use Rattle.std.proofs.lemmas.Option.{slice_get_within}
use Rattle.lynx_code.specs.declared.instruction.Instruction.{Instruction}
use Rattle.lynx_meaning.specs.Code.{Program}
use Rattle.lynx_meaning.specs.Courses.{Action, Connect, Accept}
use Rattle.lynx_meaning.specs.Needs.{wanted_by}
use Rattle.lynx_meaning.specs.Values.{Value}
use Rattle.code_shapes.specs.Shapes.{ModuleTypes, PartTypes, program}
use Rattle.machine_turns.specs.Threads.{Standing, Made, Went, Acts, Awaits, Ends, Broken, comes_of, fuel_after, if_went}
use Rattle.machine_turns.specs.Turns.{Act, Beat, Turns, RunsOn, Stops, asks_for, awaits, beat, beats, comes, is_ready_after, next_turn, stands, turn_of, wakes, with_thread}
use Rattle.machine_turns.specs.Turns as turns
use Rattle.machine_never_stuck.specs.Sound.{IsAction}
use Rattle.machine_sound.specs.Sound.{AreSound}
use Rattle.machine_sound.specs.Taken.{takes_by}
use Rattle.machine_sound.proofs.Outside.{taken_sound}
use Rattle.machine_sound.proofs.Placing.{decided, get_other, get_set, running_there}
use Rattle.machine_sound.proofs.Rounds.{acts_threads}
use Rattle.machine_sound.proofs.Turning.{SoundBeat, turn_made}
use Rattle.machine_requests.specs.Open.{open_in, open_of}
use Rattle.machine_requests.specs.Heard.{AreHeard, IsHeard, Leaves}
use Rattle.machine_requests.proofs.Amid.{OpenMade, made_open}
use Rattle.machine_requests.proofs.Hearing.{HeardMade, made_heard}

-- ---- one thread changes

pub heard_changed : (p : Program) (t u : Turns) (n : ℕ) (o : Option Standing) → AreHeard p t → n < length t.threads → u.threads ≡ slice_set t.threads n o →
    ((k : ℕ) (them : List Value) → (k ≡ n → ⊥) → (u.running ≡ Some k → them ≡ u.globals) → t.running ≡ Some k → them ≡ t.globals) →
    ((s : Standing) (them : List Value) → o ≡ Some s → (u.running ≡ Some n → them ≡ u.globals) → IsHeard p them s) → AreHeard p u
heard_changed p t u n o heard there changed others here k s them e turn =
    ⊎_elim
    (λ (same : k ≡ n).
    let at_n : Some o ≡ Some (Some s) = sym (get_set t.threads n o there) ∙ ap (λ (ts : List (Option Standing)). slice_get ts n) (sym changed) ∙ ap (λ (i : ℕ). slice_get u.threads i) (sym same) ∙ e in
    let one : o ≡ Some s = cc in
    here s them one (subst (λ (i : ℕ). u.running ≡ Some i → them ≡ u.globals) same turn))
    (λ (other : k ≡ n → ⊥). heard k s them (sym (get_other t.threads n k o other) ∙ ap (λ (ts : List (Option Standing)). slice_get ts k) (sym changed) ∙ e) (others k them other turn))
    (decided k n)

pub open_there : (instructions : List Instruction) (t u : Turns) (n : ℕ) (o : Option Standing) → n < length t.threads → u.threads ≡ slice_set t.threads n o → open_of instructions n u ≡ open_in instructions (Some o)
open_there instructions t u n o there changed = ap (λ (ts : List (Option Standing)). open_in instructions (slice_get ts n)) changed ∙ ap (open_in instructions) (get_set t.threads n o there)

pub open_other : (instructions : List Instruction) (t u : Turns) (n k : ℕ) (o : Option Standing) → u.threads ≡ slice_set t.threads n o → (k ≡ n → ⊥) → open_of instructions k u ≡ open_of instructions k t
open_other instructions t u n k o changed other = ap (λ (ts : List (Option Standing)). open_in instructions (slice_get ts k)) changed ∙ ap (open_in instructions) (get_other t.threads n k o other)

pub open_changed : (instructions : List Instruction) (t u : Turns) (n : ℕ) (o : Option Standing) → n < length t.threads → u.threads ≡ slice_set t.threads n o → open_in instructions (Some o) ≡ open_of instructions n t →
    (k : ℕ) → open_of instructions k u ≡ open_of instructions k t
open_changed instructions t u n o there changed same k =
    ⊎_elim
    (λ (e : k ≡ n). subst (λ (i : ℕ). open_of instructions i u ≡ open_of instructions i t) (sym e) (open_there instructions t u n o there changed ∙ same))
    (λ (other : k ≡ n → ⊥). open_other instructions t u n k o changed other)
    (decided k n)

-- ---- the thread that has the turn

asks_running : (n : ℕ) (a : Action) (t : Turns) → is_ready_after (Some (wanted_by a)) ≡ false → (asks_for n a t).running ≡ Some n
asks_running n (Connect link op values) t e = absurd (true≢false e)
asks_running n (Accept link op) t e = absurd (true≢false e)
asks_running n _ t e = refl

pub asks_globals : (n : ℕ) (a : Action) (t : Turns) → (asks_for n a t).globals ≡ t.globals
asks_globals n (Connect link op values) t = refl
asks_globals n (Accept link op) t = refl
asks_globals n _ t = refl

-- one instruction is a course of one
pub one_course : (left : ℕ) (last : Made) → ◌≡◌ {A = ℕ × Made} (if_went last (λ now u. (left, Went now u)) (λ over. (left, over))) (left, last)
one_course left (Went now u) = refl
one_course left (Acts a now u) = refl
one_course left (Awaits now u) = refl
one_course left (Ends now) = refl
one_course left Broken = refl

module _ (m : ModuleTypes) (parts : List PartTypes) (instructions : List Instruction) where
  abbrev p : Program
  p = program m instructions

  -- the open requests of each thread
  abbrev pub opened : Turns → ℕ → List ℕ
  opened t k = open_of instructions k t

  -- turns in which these are open
  pub record Keeps (were : ℕ → List ℕ) (u : Turns) : Type 0 where
    pub sound : AreSound m parts instructions u
    pub heard : AreHeard p u
    pub same : (k : ℕ) → opened u k ≡ were k

  -- an action that is asked for is one of the module, where the open requests are those of its thread
  abbrev pub IsAsked : turns.Stop → Turns → Type 0
  IsAsked (Act n a) u = IsAction m (opened u n) a
  IsAsked _ u = Unit {0}

  abbrev pub KeepsBeat : (ℕ → List ℕ) → Beat → Type 0
  KeepsBeat were (RunsOn left u) = Keeps were u
  KeepsBeat were (Stops stop left u) = Keeps were u × IsAsked stop u
  KeepsBeat were turns.Broken = ⊥

  module _ (t : Turns) (n : ℕ) (s : Standing) (heard : AreHeard p t) (runs : t.running ≡ Some n) (here : slice_get t.threads n ≡ Some (Some s)) (left : ℕ) where
    abbrev there : n < length t.threads
    there = slice_get_within t.threads n (Some s) here

    open_here : opened t n ≡ open_in instructions (Some (Some s))
    open_here = ap (open_in instructions) here

    -- no other thread has the turn
    no_other : (u : Turns) (k : ℕ) (them : List Value) → (k ≡ n → ⊥) → (u.running ≡ Some k → them ≡ u.globals) → t.running ≡ Some k → them ≡ t.globals
    no_other u k them other turn e = let same : Some n ≡ Some k = sym runs ∙ e in absurd (other cc)

    keeps : (u : Turns) (v : Standing) → AreSound m parts instructions u → u.threads ≡ slice_set t.threads n (Some v) → open_in instructions (Some (Some v)) ≡ open_in instructions (Some (Some s)) →
        ((them : List Value) → (u.running ≡ Some n → them ≡ u.globals) → IsHeard p them v) → Keeps (opened t) u
    keeps u v sound changed same hears = record {
      sound = sound;
      heard = heard_changed p t u n (Some v) heard there changed (no_other u) (λ r them e turn. let it : v ≡ r = cc in subst (IsHeard p them) it (hears them turn));
      same = open_changed instructions t u n (Some v) there changed (same ∙ sym open_here);
    }

    keeps_awaits : (again : Bool) (now : List Value) (v : Standing) → AreSound m parts instructions (with_thread n (Some v) (awaits n again (record t { globals = now }))) → open_in instructions (Some (Some v)) ≡ open_in instructions (Some (Some s)) →
        ((them : List Value) → IsHeard p them v) → Keeps (opened t) (with_thread n (Some v) (awaits n again (record t { globals = now })))
    keeps_awaits true now v sound same hears = keeps (with_thread n (Some v) (awaits n true (record t { globals = now }))) v sound refl same (λ them turn. hears them)
    keeps_awaits false now v sound same hears = keeps (with_thread n (Some v) (awaits n false (record t { globals = now }))) v sound refl same (λ them turn. hears them)

    comes_keeps : (last : Made) → SoundBeat m parts instructions (comes left n t last) → OpenMade m instructions t.globals s last → HeardMade m instructions t.globals s last → KeepsBeat (opened t) (comes left n t last)
    comes_keeps (Went now v) sound same hears = keeps (with_thread n (Some v) (record t { globals = now; running = Some n })) v sound refl same (λ them turn. hears them)
    comes_keeps (Acts a now v) sound same hears =
        let mid : Turns = record t { globals = now } in
        let u : Turns = with_thread n (Some v) (asks_for n a mid) in
        let changed : u.threads ≡ slice_set t.threads n (Some v) = ap (λ (ts : List (Option Standing)). slice_set ts n (Some v)) (acts_threads n a mid) in
        let hears_so : (them : List Value) → (u.running ≡ Some n → them ≡ u.globals) → IsHeard p them v = λ them turn. hears.1 them (λ free. turn (asks_running n a mid free) ∙ asks_globals n a mid ∙ hears.0) in
        let open_now : opened u n ≡ open_in instructions (Some (Some s)) = open_there instructions t u n (Some v) there changed ∙ same.0 in
        (keeps u v sound changed same.0 hears_so, subst (λ (rs : List ℕ). IsAction m rs a) (sym open_now) same.1)
    comes_keeps (Awaits now v) sound same hears = keeps_awaits v.again now v sound same hears
    comes_keeps (Ends now) sound none hears =
        let u : Turns = with_thread n None (wakes (record t { globals = now })) in
        record {
          sound = sound;
          heard = heard_changed p t u n None heard there refl (no_other u) (λ r them e turn. cc);
          same = open_changed instructions t u n None there refl (sym (open_here ∙ none));
        }
    comes_keeps Broken sound same hears = absurd same

  -- ---- a beat

  turn_sound : (t : Turns) (n fuel : ℕ) (s : Standing) → AreSound m parts instructions t → t.running ≡ Some n → slice_get t.threads n ≡ Some (Some s) → SoundBeat m parts instructions (comes (fuel_after (suc fuel) s) n t (comes_of p t.globals s))
  turn_sound t n fuel s sound runs here =
      let left = fuel_after (suc fuel) s in
      (turn_made m parts instructions zero fuel left t n s (comes_of p t.globals s) sound runs here (one_course left (comes_of p t.globals s))).2

  turn_keeps : (t : Turns) (n fuel : ℕ) → t.running ≡ Some n → AreSound m parts instructions t → AreHeard p t → KeepsBeat (opened t) (turn_of p (suc fuel) n (slice_get t.threads n) t)
  turn_keeps t n fuel runs sound heard =
      let placed = running_there t n sound.placed runs in
      let s = placed.0 in
      let here : slice_get t.threads n ≡ Some (Some s) = placed.1 in
      let it = heard n s t.globals here (λ e. refl) in
      let is = sound.threads n s here in
      subst (λ (o : Option (Option Standing)). KeepsBeat (opened t) (turn_of p (suc fuel) n o t)) (sym here)
      (comes_keeps t n s heard runs here (fuel_after (suc fuel) s) (comes_of p t.globals s) (turn_sound t n fuel s sound runs here)
      (made_open m instructions t.globals s parts sound.shapes sound.are is it.hears)
      (made_heard m instructions t.globals s parts sound.shapes sound.are is it))

  unchanged : (t : Turns) → AreSound m parts instructions t → AreHeard p t → Keeps (opened t) t
  unchanged t sound heard = record { sound = sound; heard = heard; same = λ k. refl }

  -- the thread that goes on next has the turn
  taken_heard : (t : Turns) (n : ℕ) (ready : List ℕ) → t.running ≡ None → AreHeard p t → AreHeard p (record t { running = Some n; ready = ready })
  taken_heard t n ready none heard k s them e turn = heard k s them e (λ f. let never : None ≡ Some k = sym none ∙ f in cc)

  next_keeps : (t : Turns) (fuel : ℕ) (running : Option ℕ) (ready : List ℕ) → t.running ≡ running → AreSound m parts instructions t → AreSound m parts instructions (takes_by t running ready) → AreHeard p t →
      KeepsBeat (opened t) (next_turn p fuel t running ready)
  next_keeps t fuel None [] runs sound taken heard = (unchanged t sound heard, tt)
  next_keeps t zero (Some n) ready runs sound taken heard = (unchanged t sound heard, tt)
  next_keeps t (suc fuel) (Some n) ready runs sound taken heard = turn_keeps t n fuel runs sound heard
  next_keeps t zero None (n ∷ ready) runs sound taken heard = (unchanged t sound heard, tt)
  next_keeps t (suc fuel) None (n ∷ ready) runs sound taken heard = turn_keeps (record t { running = Some n; ready = ready }) n fuel refl taken (taken_heard t n ready runs heard)

  by_stands : (t : Turns) (fuel : ℕ) (b : Bool) → AreSound m parts instructions t → AreHeard p t → KeepsBeat (opened t) (if b then next_turn p fuel t t.running t.ready else Stops turns.Finished fuel t)
  by_stands t fuel true sound heard = next_keeps t fuel t.running t.ready refl sound (taken_sound m parts instructions t sound) heard
  by_stands t fuel false sound heard = (unchanged t sound heard, tt)

  -- ---- beats

  onward : (were now : ℕ → List ℕ) → ((k : ℕ) → now k ≡ were k) → (b : Beat) → KeepsBeat now b → KeepsBeat were b
  onward were now same (RunsOn left u) kept = record { sound = kept.sound; heard = kept.heard; same = λ k. kept.same k ∙ same k }
  onward were now same (Stops stop left u) kept = (record { sound = kept.0.sound; heard = kept.0.heard; same = λ k. kept.0.same k ∙ same k }, kept.1)
  onward were now same turns.Broken kept = absurd kept

  beats_from : (were : ℕ → List ℕ) (k : ℕ) (b : Beat) → KeepsBeat were b → KeepsBeat were (beats p k b)
  beats_from were zero b kept = kept
  beats_from were (suc k) (RunsOn fuel t) kept =
      beats_from were k (beat p fuel t) (onward were (opened t) kept.same (beat p fuel t) (by_stands t fuel (stands t) kept.sound kept.heard))
  beats_from were (suc k) (Stops stop left u) kept = kept
  beats_from were (suc k) turns.Broken kept = absurd kept

  -- what they come to
  pub beats_come : (k fuel : ℕ) (t : Turns) (b : Beat) → AreSound m parts instructions t → AreHeard p t → beats p k (RunsOn fuel t) ≡ b → KeepsBeat (opened t) b
  beats_come k fuel t b sound heard e = subst (KeepsBeat (opened t)) e (beats_from (opened t) k (RunsOn fuel t) (unchanged t sound heard))

  leaves : (were : ℕ → List ℕ) (b : Beat) → KeepsBeat were b → Leaves (λ u. AreHeard p u × ((n : ℕ) → opened u n ≡ were n)) b
  leaves were (RunsOn left u) kept = (kept.heard, kept.same)
  leaves were (Stops stop left u) kept = (kept.0.heard, kept.0.same)
  leaves were turns.Broken kept = kept

  pub beats_leave : (k fuel : ℕ) (t : Turns) → AreSound m parts instructions t → AreHeard p t → Leaves (λ u. AreHeard p u × ((n : ℕ) → opened u n ≡ opened t n)) (beats p k (RunsOn fuel t))
  beats_leave k fuel t sound heard = leaves (opened t) (beats p k (RunsOn fuel t)) (beats_come k fuel t (beats p k (RunsOn fuel t)) sound heard refl)
