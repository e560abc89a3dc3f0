-- What comes of a turn changes those that wait.
use Rattle.std.proofs.Common.{◌≡◌, ℕ, List, Bool, true, false, Option, Some, None, slice_get, refl, sym, ap, ◌∙◌}
use Rattle.lynx_meaning.specs.Values.{Value}
use Rattle.machine_turns.specs.Threads.{Acts, Made, Standing}
use Rattle.machine_turns.specs.Turns.{Act, Turns, RunsOn, Stops, asks_for, awaits, comes, with_thread}
use Rattle.machine_thread.specs.Told.{action_of, told}
use Rattle.machine_thread.specs.declared.action.Action.{Action}
use Rattle.machine_thread.specs.declared.action.Move.{Move}
use Rattle.machine_thread.specs.declared.action.Move.TheVariants as move
use Rattle.machine_sound.proofs.Placing.{set_same}
use Rattle.machine_sound.proofs.Rounds.{acts_threads}
use Rattle.lynx_interp.specs.Machines.{State}
use Rattle.lynx_interp.specs.Runs.{Settles}

-- a thread that is put where it stands
same_there : (n : ℕ) (t u : Turns) (s : Standing) → u.threads ≡ t.threads → slice_get t.threads n ≡ Some (Some s) → with_thread n (Some s) u ≡ u
same_there n t u s threads here =
    ap (λ (ts : List (Option Standing)). record u { threads = ts }) (set_same u.threads n (Some s) (ap (λ (ts : List (Option Standing)). slice_get ts n) threads ∙ here))

-- a machine with the turns that it has
with_its_turns : (old new : State) (t : Turns) → new ≡ record old { turns = t } → new ≡ record old { turns = new.turns }
with_its_turns old new t e = e ∙ ap (λ (u : Turns). record old { turns = u }) (sym (ap (λ (s : State). s.turns) e))

-- the thread has gone on
pub went_on : (n : ℕ) (old : State) → old.turns.running ≡ Some n → Settles n move.GoesOn None old old
went_on n old runs = (
  refl,
  λ fuel s here.
      ap (λ (u : Turns). RunsOn fuel u)
      (sym (same_there n old.turns (record old.turns { running = Some n }) s refl here ∙ ap (λ (r : Option ℕ). record old.turns { running = r }) (sym runs))),
)

awaits_threads : (n : ℕ) (again : Bool) (t : Turns) → (awaits n again t).threads ≡ t.threads
awaits_threads n true t = refl
awaits_threads n false t = refl

-- an await found false
pub awaited : (n : ℕ) (old new : State) → (s : Standing) × (slice_get old.turns.threads n ≡ Some (Some s)) →
    ((s : Standing) → slice_get old.turns.threads n ≡ Some (Some s) → new ≡ record old { turns = awaits n s.again old.turns }) → Settles n move.Awaits None old new
awaited n old new stands changed = (
  with_its_turns old new (awaits n stands.0.again old.turns) (changed stands.0 stands.1),
  λ fuel s here.
      ap (λ (m : State). RunsOn fuel m.turns) (changed s here)
      ∙ ap (λ (u : Turns). RunsOn fuel u) (sym (same_there n old.turns (awaits n s.again old.turns) s (awaits_threads n s.again old.turns) here)),
)

-- it asked for an action
pub asked_for : (n : ℕ) (made : Move) (action : Action) (old new : State) → ((globals : List Value) (s : Standing) → told made globals s ≡ Acts (action_of action) globals s) → old.turns.running ≡ Some n →
    ((k : ℕ) → old.turns.running ≡ Some k → new ≡ record old { turns = asks_for k (action_of action) old.turns }) → Settles n made (Some action) old new
asked_for n made action old new tells runs changed = (
  with_its_turns old new (asks_for n (action_of action) old.turns) (changed n runs),
  λ fuel s here.
      let asked = action_of action in
      ap (λ (m : State). Stops (Act n asked) fuel m.turns) (changed n runs)
      ∙ ap (λ (u : Turns). Stops (Act n asked) fuel u) (sym (same_there n old.turns (asks_for n asked old.turns) s (acts_threads n asked old.turns) here))
      ∙ ap (λ (last : Made). comes fuel n old.turns last) (sym (tells old.turns.globals s)),
)
