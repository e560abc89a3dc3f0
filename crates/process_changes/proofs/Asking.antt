-- What a process keeps after a step fits the call that it asks.
use Rattle.std.proofs.Common.{arith, ◌≡◌, ℕ, zero, suc, ◌+◌, Bool, true, false, List, [], ◌∷◌, Option, Some, None, slice_get, refl, sym, ap, subst, ◌∙◌}
use Rattle.std.specs.List.{list_any}
use Rattle.charlotte_calls.specs.declared.calls.Answer.{Answer}
use Rattle.charlotte_calls.specs.declared.calls.Call.TheVariants as call
use Rattle.charlotte_calls.specs.declared.names.EndId.{EndId}
use Rattle.charlotte_calls.specs.declared.names.Way.TheVariants.{Inward}
use Rattle.lynx_packets.specs.Spelling.{spelling}
use Rattle.lynx_meaning.specs.Courses.{Action}
use Rattle.lynx_meaning.specs.Courses as actions
use Rattle.machine_turns.specs.Turns.{Act, AllBlocked, Beat, Finished, RunsOn, Spent, Stops, Turns}
use Rattle.machine_turns.specs.Turns as turns
use Rattle.end_protocol.specs.declared.going.Due.{Due}
use Rattle.end_protocol.specs.declared.going.Due.TheVariants as due
use Rattle.end_protocol.specs.declared.kept.Kept.{Kept}
use Rattle.end_protocol.specs.declared.messages.Message.{Message}
use Rattle.end_protocol.specs.Going.{due_call, enclosed}
use Rattle.end_protocol.specs.Lists.{head, tail}
use Rattle.process_run.specs.States.{Asked, Done, Gone, Holding, Keeps, Place, State}
use Rattle.process_run.specs.States as process
use Rattle.process_run.specs.Actions.{acts}
use Rattle.process_run.specs.Ends.{room}
use Rattle.process_run.specs.Reports.{answered}
use Rattle.process_run.specs.Runs.{Asking, Did, asks_first, calls, did, due_among, due_on, due_so, finishes, first_due, goes_on, is_in_use, machine_run, most_actions, most_instructions, or_asking, pauses, proceeds, sending, settles, stopped, unless_over, waits, with_deeds}
use Rattle.process_changes.specs.Asking.{IsAsking, IsCallOf}
use Rattle.process_changes.specs.Changes.{IsHeld}
use Rattle.process_changes.proofs.Places.{same_some}

-- ---- a call that is due

-- where a call is due, the process holds the end
pub record IsDue (t : State) (a : Asking) : Type 0 where
  pub so : IsCallOf (record t { asked = a.asked; doomed = tail t.doomed }) a.call

none_some : (a : Asking) → ◌≡◌ {A = Option Asking} None (Some a) → ⊥
none_some a e = cc

module _ (t : State) (n : ℕ) (x : EndId) (k : Kept) (there : IsHeld n x k t.places) where
  is_sending : (o : Option Message) → head k.queue ≡ o → (a : Asking) → sending t.version n x o ≡ Some a → IsDue t a
  is_sending None e a is = absurd (none_some a is)
  is_sending (Some m) e a is = by_queue k.queue refl e
    where
      none_here : (m : Message) → ◌≡◌ {A = Option Message} None (Some m) → ⊥
      none_here m e = cc

      same : (l : Message) (ms : List Message) → head (l ∷ ms) ≡ Some m → l ≡ m
      same l ms e = same_some l m e

      by_queue : (ms : List Message) → k.queue ≡ ms → head ms ≡ Some m → IsDue t a
      by_queue [] q e = absurd (none_here m e)
      by_queue (l ∷ ms) q e =
          subst (λ (b : Asking). IsDue t b) (same_some (record { asked = process.Send n; call = call.Send x (spelling m.packet) (enclosed t.version m) }) a is)
          (record {
            so =
                record {
                  number = n;
                  kept = k;
                  message = m;
                  rest = ms;
                  asked = refl;
                  held = there;
                  first = q ∙ ap (λ (i : Message). i ∷ ms) (same l ms e);
                  spelled = refl;
                  encloses = refl;
                };
          })

  is_due : (d : Due) (a : Asking) → due_so t.version n x k d ≡ Some a → IsDue t a
  is_due due.Nothing a is = absurd (none_some a is)
  is_due due.Send a is = is_sending (head k.queue) refl a is
  is_due due.Receive a is =
      subst (λ (b : Asking). IsDue t b) (same_some (record { asked = process.Receive n; call = call.Receive x }) a is)
      (record { so = record { number = n; kept = k; asked = refl; held = there } })
  is_due due.Cancel a is =
      subst (λ (b : Asking). IsDue t b) (same_some (record { asked = process.Cancel n; call = call.Cancel x Inward }) a is)
      (record { so = (record { number = n; kept = k; asked = refl; held = there }, refl) })

-- of one place, under its number
due_there : (t : State) (free : Bool) (n : ℕ) (p : Place) (g : Holding) → p.holding ≡ g → slice_get t.places n ≡ Some p → (a : Asking) → due_on t.version free (suc n) p.end g ≡ Some a → IsDue t a
due_there t free n p (Gone own) e at a is = absurd (none_some a is)
due_there t free n p (Keeps k) e at a is =
    is_due t (suc n) p.end k (at ∙ ap (λ (h : Holding). Some (record p { holding = h })) e) (due_call free k) a is

-- the places from this one on
abbrev AreFrom : State → ℕ → List Place → Type 0
AreFrom t n ps = (i : ℕ) (p : Place) → slice_get ps i ≡ Some p → slice_get t.places (n + i) ≡ Some p

module _ (t : State) (free : Bool) where
  after_first : (m : ℕ) (p : Place) (ps : List Place) → AreFrom t m (p ∷ ps) → (a : Asking)
      → (AreFrom t (suc m) ps → due_among t.version free (suc (suc m)) ps ≡ Some a → IsDue t a) → (o : Option Asking) → due_on t.version free (suc m) p.end p.holding ≡ o
      → or_asking o (due_among t.version free (suc m + 1) ps) ≡ Some a → IsDue t a
  after_first m p ps from a rest (Some b) e one = due_there t free m p p.holding refl (subst (λ (j : ℕ). slice_get t.places j ≡ Some p) (here m) (from 0 p refl)) a (e ∙ one)
    where
      here : (m : ℕ) → m + 0 ≡ m
      here m = omega arith
  after_first m p ps from a rest None e one = rest others (sym (ap (λ (j : ℕ). due_among t.version free j ps) (next m)) ∙ one)
    where
      next : (m : ℕ) → suc m + 1 ≡ suc (suc m)
      next m = omega arith

      further : (m i : ℕ) → m + suc i ≡ suc m + i
      further m i = omega arith

      others : AreFrom t (suc m) ps
      others i q at = subst (λ (j : ℕ). slice_get t.places j ≡ Some q) (further m i) (from (suc i) q at)

  due_in : (m : ℕ) (ps : List Place) → AreFrom t m ps → (a : Asking) → due_among t.version free (suc m) ps ≡ Some a → IsDue t a
  due_in m [] from a is = absurd (none_some a is)
  due_in m (p ∷ ps) from a is =
      after_first m p ps from a (λ others one. due_in (suc m) ps others a one) (due_on t.version free (suc m) p.end p.holding) refl is

pub due_first : (t : State) (xs : List EndId) (a : Asking) → first_due xs t ≡ Some a → IsDue t a
due_first t [] a is = due_in t (room t) 0 t.places (λ i p at. subst (λ (j : ℕ). slice_get t.places j ≡ Some p) (itself i) at) a is
  where
    itself : (i : ℕ) → i ≡ 0 + i
    itself i = omega arith
due_first t (x ∷ xs) a is =
    subst (λ (b : Asking). IsDue t b) (same_some (record { asked = process.Destroy; call = call.Destroy x }) a is) (record { so = refl })

-- ---- a slice

abbrev Fits : Did → Type 0
Fits d = IsAsking d.state d.next

calls_fit : (s : State) (next : State → Did) → ((t : State) → Fits (next t)) → Fits (calls s next)
calls_fit s next each = by_due (settles s) (first_due (settles s).doomed (settles s)) refl
  where
    by_due : (t : State) (o : Option Asking) → first_due t.doomed t ≡ o → Fits (asks_first o t next)
    by_due t None e = each t
    by_due t (Some a) e = (due_first t t.doomed a e).so

finish_fits : (b : Bool) (s : State) → Fits (finishes b s)
finish_fits true s = refl
finish_fits false s = refl

module _ (s : State) (next : ℕ → Done → Did) (each : (left : ℕ) (d : Done) → Fits (next left d)) where
  stopped_fits : (b : Beat) → Fits (stopped b s next)
  stopped_fits (Stops (Act n actions.New) left t) = (n, refl)
  stopped_fits (Stops (Act n (actions.Write bytes)) left t) = (n, refl)
  stopped_fits (Stops (Act n (actions.Destroy link)) left t) = each left (acts n (actions.Destroy link) (record s { turns = t }))
  stopped_fits (Stops (Act n (actions.Bind link entry)) left t) = each left (acts n (actions.Bind link entry) (record s { turns = t }))
  stopped_fits (Stops (Act n (actions.Unbind link entry)) left t) = each left (acts n (actions.Unbind link entry) (record s { turns = t }))
  stopped_fits (Stops (Act n (actions.Connect link op vs)) left t) = each left (acts n (actions.Connect link op vs) (record s { turns = t }))
  stopped_fits (Stops (Act n (actions.Accept link op)) left t) = each left (acts n (actions.Accept link op) (record s { turns = t }))
  stopped_fits (Stops (Act n actions.Close) left t) = each left (acts n actions.Close (record s { turns = t }))
  stopped_fits (Stops (Act n (actions.Reply vs)) left t) = each left (acts n (actions.Reply vs) (record s { turns = t }))
  stopped_fits (Stops (Act n actions.Await) left t) = each left (acts n actions.Await (record s { turns = t }))
  stopped_fits (Stops (Act n actions.Stop) left t) = each left (acts n actions.Stop (record s { turns = t }))
  stopped_fits (Stops AllBlocked left t) = calls_fit (record s { turns = t }) waits (λ u. refl)
  stopped_fits (Stops Finished left t) =
      calls_fit (record s { turns = t }) (λ now. finishes (list_any (λ p. is_in_use p.holding) now.places) now) (λ u. finish_fits (list_any (λ p. is_in_use p.holding) u.places) u)
  stopped_fits (Stops Spent left t) = refl
  stopped_fits (RunsOn left t) = refl
  stopped_fits turns.Broken = refl

over_fits : (b : Bool) (t : State) (next : State → Did) → Fits (next t) → Fits (unless_over b t next)
over_fits true t next fits = refl
over_fits false t next fits = fits

going_fits : (k fuel : ℕ) (s : State) → Fits (goes_on k fuel s)
going_fits zero fuel s = calls_fit s _ (λ t. over_fits t.over t pauses refl)
going_fits (suc k) fuel s =
    calls_fit s _
    (λ t. over_fits t.over t (λ u. stopped (machine_run fuel u) u (λ left d. with_deeds d.deeds (goes_on k left d.state)))
    (stopped_fits t (λ left d. with_deeds d.deeds (goes_on k left d.state)) (λ left d. going_fits k left d.state) (machine_run fuel t)))

-- ---- a step

proceeds_fits : (asked : Asked) (d : Done) → Fits (proceeds asked d)
proceeds_fits process.Exit d = tt
proceeds_fits process.Nothing d = going_fits (most_actions d.state) most_instructions d.state
proceeds_fits (process.Make n) d = going_fits (most_actions d.state) most_instructions d.state
proceeds_fits (process.Print n) d = going_fits (most_actions d.state) most_instructions d.state
proceeds_fits process.Destroy d = going_fits (most_actions d.state) most_instructions d.state
proceeds_fits (process.Send n) d = going_fits (most_actions d.state) most_instructions d.state
proceeds_fits (process.Receive n) d = going_fits (most_actions d.state) most_instructions d.state
proceeds_fits (process.Cancel n) d = going_fits (most_actions d.state) most_instructions d.state
proceeds_fits process.Wait d = going_fits (most_actions d.state) most_instructions d.state

-- what a process keeps after a step fits what it asks
pub step_fits : (s : State) (given : Option Answer) → Fits (did s given)
step_fits s given = proceeds_fits s.asked (answered s.asked given s)
