-- Each thread of a history did what its code means.
use Rattle.std.proofs.Common.{◌≡◌, ℕ, zero, suc, List, [], ◌∷◌, ◌++◌, nat_eq, replicate, Bool, true, false, if◌then◌else◌, Option, Some, None, slice_get, refl, sym, ap, subst, ◌∙◌, inl, inr, ⊎_elim, IfOk}
use Rattle.std.proofs.lemmas.Bool.{eqb-true, eqb-false}
use Rattle.std.proofs.lemmas.Option.{slice_get_within}
use Rattle.lynx_code.specs.declared.instruction.Instruction.{Instruction}
use Rattle.lynx_meaning.specs.Code.{Program}
use Rattle.lynx_meaning.specs.Courses.{Behaviour, Outcome, Stop}
use Rattle.lynx_meaning.specs.Needs.{Wanted, wanted_by, wanted_types}
use Rattle.lynx_meaning.specs.Values.{Value, HaveTypes}
use Rattle.code_shapes.specs.Shapes.{ModuleTypes, PartTypes, Shapes, AreShapes, opened_by, program}
use Rattle.machine_turns.specs.Threads.{Standing, begun}
use Rattle.compiler_runnable.specs.Runnable.{AreParts, parameters, start_locals}
use Rattle.compiler_runnable.proofs.Typed.{entry_typed}
use Rattle.machine_turns.specs.Turns.{Beat, RunsOn, Stops, Turns, at_start, beat, given_to, gives_to, is_ready_after, spawned, with_thread}
use Rattle.machine_turns.specs.Turns as turns
use Rattle.machine_sound.specs.Sound.{AreSound, IsAsking}
use Rattle.machine_sound.proofs.Outside.{given_sound, given_stay, spawned_sound, spawned_stay, start_sound}
use Rattle.machine_sound.proofs.Placing.{decided, get_set}
use Rattle.machine_requests.proofs.Outside.{given_threads, heard_one}
use Rattle.machine_law.specs.Law.{IsWhere, ThreadsMeanTheirCode}
use Rattle.machine_law.specs.Lives.{Life, behind_beat, behind_beats, born, is_number, lives_on, mover}
use Rattle.machine_law.specs.Histories.{DidByCode, IsHistory, IsStop, MayMove, Move, Beats, Gives, Spawns, behind, behind_move, body_part, life_of, moved}
use Rattle.machine_law.proofs.Living.{FitsOutcome, Holds, Lives, Fresh, Between, Amid, Stopped, did_by_code, fits_of, some_wanted, given_lives, holds_stays}
use Rattle.machine_law.proofs.Rounds.{run_kept}

-- ---- an outcome

given_by : (n : ℕ) (outcome : Outcome) (o : Option (Option Standing)) (t : Turns) → ((gives_to n outcome o t).running ≡ t.running) × ((gives_to n outcome o t).globals ≡ t.globals)
given_by n outcome None t = (refl, refl)
given_by n outcome (Some None) t = (refl, refl)
given_by n outcome (Some (Some s)) t = by_blocked (is_ready_after s.wanted)
  where
    by_blocked : (b : Bool) → ((with_thread n (Some (heard_one s outcome)) (if b then record t { ready = t.ready ++ n ∷ [] } else t)).running ≡ t.running)
        × ((with_thread n (Some (heard_one s outcome)) (if b then record t { ready = t.ready ++ n ∷ [] } else t)).globals ≡ t.globals)
    by_blocked true = (refl, refl)
    by_blocked false = (refl, refl)

module _ (m : ModuleTypes) (p : Program) (t : Turns) (k : ℕ) (o : Outcome) (w : Wanted) (fits : IfOk o (HaveTypes (wanted_types m.ops w))) (asking : IsAsking k w t) (no_stop : (s : Standing) → slice_get t.threads k ≡ Some (Some s) → IsStop p.instructions s → ⊥) where
  abbrev s : Standing
  s = asking.0

  abbrev u : Turns
  u = given_to k o t

  own_there : slice_get u.threads k ≡ Some (Some (heard_one s o))
  own_there =
      ap (λ (q : Option (Option Standing)). slice_get (gives_to k o q t).threads k) asking.1
      ∙ ap (λ (ts : List (Option Standing)). slice_get ts k) (given_threads k o s t)
      ∙ get_set t.threads k (Some (heard_one s o)) (slice_get_within t.threads k (Some s) asking.1)

  own_given : (life : Option Life) → Holds m p k t (Some (Some s)) life → Holds m p k u (Some (Some (heard_one s o))) life
  own_given None holds = absurd holds
  own_given (Some life) holds = given_lives m p k t u s life o w (given_by k o (slice_get t.threads k) t).0 (given_by k o (slice_get t.threads k) t).1 asking.2 fits (no_stop s asking.1) holds

  given_kept : (n : ℕ) (life : Option Life) → Holds m p n t (slice_get t.threads n) life → Holds m p n u (slice_get u.threads n) life
  given_kept n life holds =
      ⊎_elim
      (λ (e : n ≡ k).
      subst (λ (j : ℕ). Holds m p j u (slice_get u.threads j) life) (sym e)
      (subst (λ (q : Option (Option Standing)). Holds m p k u q life) (sym own_there)
      (own_given life (subst (λ (q : Option (Option Standing)). Holds m p k t q life) asking.1 (subst (λ (j : ℕ). Holds m p j t (slice_get t.threads j) life) e holds)))))
      (λ (other : n ≡ k → ⊥).
      subst (λ (q : Option (Option Standing)). Holds m p n u q life) (sym ((given_stay t k o).threads n other))
      (holds_stays m p n t u (slice_get t.threads n) life (inr (given_by k o (slice_get t.threads k) t)) holds))
      (decided n k)

-- ---- a new thread

spawned_kept : (m : ModuleTypes) (p : Program) (t : Turns) (k : ℕ) (part : PartTypes) (arguments : List Value) (n : ℕ) (life : Option Life) → slice_get t.threads k ≡ Some None → (b : Bool) → nat_eq n k ≡ b → Holds m p n t (slice_get t.threads n) life →
    Holds m p n (spawned k (opened_by part.op) part.start (start_locals part.locals arguments) t) (slice_get (spawned k (opened_by part.op) part.start (start_locals part.locals arguments) t).threads n) (if b then Some (born part arguments) else life)
spawned_kept m p t k part arguments n life free true e holds =
    let u = spawned k (opened_by part.op) part.start (start_locals part.locals arguments) t in
    let s = begun (opened_by part.op) part.start (start_locals part.locals arguments) in
    subst (λ (j : ℕ). Holds m p j u (slice_get u.threads j) (Some (born part arguments))) (sym (eqb-true n k e))
    (subst (λ (q : Option (Option Standing)). Holds m p k u q (Some (born part arguments))) (sym (get_set t.threads k (Some s) (slice_get_within t.threads k None free)))
    (Fresh (record { stands = refl; born_so = refl })))
spawned_kept m p t k part arguments n life free false e holds =
    let u = spawned k (opened_by part.op) part.start (start_locals part.locals arguments) t in
    subst (λ (q : Option (Option Standing)). Holds m p n u q life) (sym ((spawned_stay t k (opened_by part.op) part.start (start_locals part.locals arguments)).threads n (eqb-false n k e)))
    (holds_stays m p n t u (slice_get t.threads n) life (inr (refl, refl)) holds)

-- ---- the start

none_holds : (m : ModuleTypes) (p : Program) (n : ℕ) (t : Turns) (r k : ℕ) → Holds m p n t (slice_get (replicate r None) k) None
none_holds m p n t zero k = tt
none_holds m p n t (suc r) zero = tt
none_holds m p n t (suc r) (suc k) = none_holds m p n t r k

first_of : (m : ModuleTypes) (p : Program) (globals : List Value) (n : ℕ) (b : Bool) → nat_eq n 0 ≡ b → Holds m p n (at_start globals) (slice_get (at_start globals).threads n) (if b then Some (born body_part []) else None)
first_of m p globals n true e =
    subst (λ (j : ℕ). Holds m p j (at_start globals) (slice_get (at_start globals).threads j) (Some (born body_part []))) (sym (eqb-true n 0 e)) (Fresh (record { stands = refl; born_so = refl }))
first_of m p globals zero false e = absurd (eqb-false 0 0 e refl)
first_of m p globals (suc n) false e = none_holds m p (suc n) (at_start globals) 31 n

-- ---- histories

module _ (m : ModuleTypes) (parts : List PartTypes) (instructions : List Instruction) where
  abbrev p : Program
  p = program m instructions

  abbrev pub KeptAt : ℕ → Turns → Option Life → Type 0
  KeptAt n t life = AreSound m parts instructions t × Holds m p n t (slice_get t.threads n) life

  -- the part of a life is there, and its parameters have their types
  abbrev pub HasPart : Option Life → Type 0
  HasPart None = Unit {0}
  HasPart (Some life) = ((i : ℕ) × (slice_get parts i ≡ Some life.part)) × HaveTypes (parameters m life.part) life.arguments

  on_part : (t : Turns) (o : Option (Option Standing)) (life : Option Life) → HasPart life → HasPart (lives_on p t o life)
  on_part t (Some (Some s)) (Some life) has = has
  on_part t (Some (Some s)) None has = has
  on_part t (Some None) life has = has
  on_part t None life has = has

  beat_part : (n fuel : ℕ) (t : Turns) (life : Option Life) → HasPart life → HasPart (behind_beat p n fuel t life)
  beat_part n fuel t life has = by_mover (is_number n (mover fuel t))
    where
      by_mover : (b : Bool) → HasPart (if b then lives_on p t (slice_get t.threads n) life else life)
      by_mover true = on_part t (slice_get t.threads n) life has
      by_mover false = has

  beats_part : (n k : ℕ) (b : Beat) (life : Option Life) → HasPart life → HasPart (behind_beats p n k b life)
  beats_part n zero b life has = has
  beats_part n (suc k) (RunsOn fuel t) life has = beats_part n k (beat p fuel t) (behind_beat p n fuel t life) (beat_part n fuel t life has)
  beats_part n (suc k) (Stops stop left u) life has = has
  beats_part n (suc k) turns.Broken life has = has

  spawned_part : (i : ℕ) (part : PartTypes) (values : List Value) (life : Option Life) → slice_get parts (suc i) ≡ Some part → HaveTypes (parameters m part) values → (b : Bool) → HasPart life → HasPart (if b then Some (born part values) else life)
  spawned_part i part values life there typed true has = ((suc i, there), typed)
  spawned_part i part values life there typed false has = has

  move_part : (n : ℕ) (move : Move) (t : Turns) (life : Option Life) → MayMove m parts instructions move t → HasPart life → HasPart (behind_move p n move t life)
  move_part n (Beats k fuel) t life given has = beats_part n k (RunsOn fuel t) life has
  move_part n (Gives k outcome) t life may has = has
  move_part n (Spawns k part values) t life may has = spawned_part may.1.0 part values life may.1.1 may.2 (nat_eq n k) has

  first_part : slice_get parts 0 ≡ Some body_part → (b : Bool) → HasPart (if b then Some (born body_part []) else None)
  first_part body true = ((0, body), tt)
  first_part body false = tt

  pub history_part : slice_get parts 0 ≡ Some body_part → (globals : List Value) (n : ℕ) (moves : List Move) → IsHistory m parts instructions globals moves → HasPart (life_of p globals n moves)
  history_part body globals n [] is = first_part body (nat_eq n 0)
  history_part body globals n (move ∷ earlier) is = move_part n move (behind p globals earlier) (life_of p globals n earlier) is.0 (history_part body globals n earlier is.1)

  move_kept : (n : ℕ) (move : Move) (t : Turns) (life : Option Life) → AreParts m parts → MayMove m parts instructions move t → KeptAt n t life → KeptAt n (moved p move t) (behind_move p n move t life)
  move_kept n (Beats k fuel) t life are_parts given kept = run_kept m parts instructions n k fuel t life kept.0 given kept.1
  move_kept n (Gives k outcome) t life are_parts may kept = (given_sound m parts instructions t k outcome kept.0 may.0, given_kept m p t k outcome may.0.0 may.0.2 may.0.1 may.1 n life kept.1)
  move_kept n (Spawns k part values) t life are_parts may kept = (
    spawned_sound m parts instructions t k (suc may.1.0) part (start_locals part.locals values) kept.0 may.0 may.1.1 (entry_typed m parts are_parts may.1.0 part values may.1.1 may.2),
    spawned_kept m p t k part values n life may.0 (nat_eq n k) refl kept.1,
  )

  module _ (globals : List Value) (shapes : Shapes) (are : AreShapes m parts instructions shapes) (typed : HaveTypes m.globals globals) (are_parts : AreParts m parts) where
    pub history_kept : (n : ℕ) (moves : List Move) → IsHistory m parts instructions globals moves → KeptAt n (behind p globals moves) (life_of p globals n moves)
    history_kept n [] is = (start_sound m parts instructions shapes globals are typed are_parts.body, first_of m p globals n (nat_eq n 0) refl)
    history_kept n (move ∷ earlier) is = move_kept n move (behind p globals earlier) (life_of p globals n earlier) are_parts is.0 (history_kept n earlier is.1)

-- ---- the law

some_given : (os : List Outcome) (o : Outcome) → os ++ o ∷ [] ≡ [] → ⊥
some_given [] o e = cc
some_given (q ∷ os) o e = cc

-- where it stands
where_lives : (m : ModuleTypes) (p : Program) (n : ℕ) (t : Turns) (s : Standing) (life : Life) → Lives m p n t s life → IsWhere (Some (Some s)) life.did
where_lives m p n t s life (Fresh is) =
    subst (λ (d : Behaviour). IsWhere (Some (Some s)) d) (sym (ap (λ (l : Life). l.did) is.born_so)) (ap (λ (r : Standing). r.given) is.stands, ap (λ (r : Standing). r.wanted) is.stands)
where_lives m p n t s life (Between is) = subst (λ (d : Behaviour). IsWhere (Some (Some s)) d) (sym is.did) (is.given, is.wanted)
where_lives m p n t s life (Amid is) =
    subst (λ (d : Behaviour). IsWhere (Some (Some s)) d) (sym is.did)
    (λ none.
    ⊎_elim
    (λ (asked : (s.given ≡ is.heard) × (s.wanted ≡ Some (wanted_by is.action))). some_wanted s.wanted (wanted_by is.action) none.1 asked.1)
    (λ (given : (o : Outcome) × (s.given ≡ is.heard ++ o ∷ []) × (s.wanted ≡ None) × FitsOutcome m is.action o). some_given is.heard given.0 (sym given.1 ∙ none.0))
    is.hears)
where_lives m p n t s life (Stopped is) = subst (λ (d : Behaviour). IsWhere (Some (Some s)) d) (sym is.did) (λ none. some_wanted s.wanted (wanted_by Stop) none.1 is.wanted)

where_holds : (m : ModuleTypes) (p : Program) (n : ℕ) (t : Turns) (o : Option (Option Standing)) (life : Life) → Holds m p n t o (Some life) → IsWhere o life.did
where_holds m p n t (Some (Some s)) life is = where_lives m p n t s life is
where_holds m p n t (Some None) life is = subst (λ (d : Behaviour). IsWhere (Some None) d) (sym is.did) tt
where_holds m p n t None life is = subst (λ (d : Behaviour). IsWhere None d) (sym is.did) tt

pub law : ThreadsMeanTheirCode
law m parts instructions globals moves n life shaped are_parts typed is lived =
    let p = program m instructions in
    let t = behind p globals moves in
    let kept = history_kept m parts instructions globals shaped.0 shaped.1 typed are_parts n moves is in
    let holds = subst (λ (l : Option Life). Holds m p n t (slice_get t.threads n) l) lived kept.1 in
    let part = subst (HasPart m parts instructions) lived (history_part m parts instructions are_parts.body globals n moves is) in
    let fits = fits_of m p n t (slice_get t.threads n) life t.globals kept.0.globals holds in
    record {
      place = where_holds m p n t (slice_get t.threads n) life holds;
      part = part.0;
      globals = fits.0;
      arguments = part.1;
      answers = fits.1;
      code = did_by_code m p t.globals n t (slice_get t.threads n) life holds;
    }
