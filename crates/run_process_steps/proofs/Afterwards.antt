-- What a process has of its ends after a step, and how it goes on.
use Rattle.std.proofs.Common.{arith, ◌≡◌, ⊎_elim, ℕ, zero, suc, ◌+◌, ◌≤◌, Bool, true, false, if◌then◌else◌, List, [], ◌∷◌, Option, Some, None, refl, sym, ap, subst, ◌∙◌}
use Rattle.std.specs.List.{list_any}
use Rattle.charlotte_calls.specs.EndEq.{end_eq}
use Rattle.charlotte_calls.specs.declared.calls.Answer.{Answer}
use Rattle.charlotte_calls.specs.declared.calls.Answer.TheVariants as answer
use Rattle.charlotte_calls.specs.declared.calls.Call.{Call}
use Rattle.charlotte_calls.specs.declared.calls.Call.TheVariants as call
use Rattle.charlotte_calls.specs.declared.names.EndId.{EndId}
use Rattle.charlotte_calls.specs.declared.program.Next.{Next}
use Rattle.charlotte_calls.specs.declared.program.Next.TheVariants as next
use Rattle.lynx_meaning.specs.Courses as actions
use Rattle.machine_turns.specs.Turns.{Act, AllBlocked, Beat, Finished, RunsOn, Spent, Stops}
use Rattle.machine_turns.specs.Turns as turns
use Rattle.end_protocol.specs.declared.kept.Kept.{Kept}
use Rattle.end_protocol.specs.Going.{receives}
use Rattle.end_protocol.specs.Happenings.{CancelLate, Happening, ReceiveOver, Receives, SendOver, after}
use Rattle.end_protocol.specs.Happenings as happenings
use Rattle.process_run.specs.States.{Asked, DeedOn, Done, Gone, Holding, Keeps, Place, State}
use Rattle.process_run.specs.States as process
use Rattle.process_run.specs.Actions.{acts}
use Rattle.process_run.specs.Ends.{held_of, number_of, place_at, with_holding}
use Rattle.process_run.specs.Runs.{Asking, Did, asks_first, calls, finishes, first_due, goes_on, is_in_use, machine_run, most_actions, most_instructions, pauses, settles, slice, stopped, unless_over, waits, with_deeds}
use Rattle.run_invariant.specs.AtEnd.{Seen, held_count, holding_at, known_from, known_holding, seen, total}
use Rattle.run_invariant.specs.Changes.{AreLeft, IsHeld}
use Rattle.run_invariant.specs.Ledgers.{Ledger, carried_at, how_often, ledger}
use Rattle.run_invariant.specs.Telling.{ChangesByStep, IsAnswer, IsSilent, IsTold, IsUnheld, Telling, Turn}
use Rattle.run_invariant.specs.Telling as tells
use Rattle.run_invariant.proofs.Held.{here_so}
use Rattle.run_invariant.proofs.Numbers.{same_place}
use Rattle.run_invariant.specs.Owners.{destroying, seen_of}
use Rattle.run_invariant.specs.Steps.{after_step, owner_after}
use Rattle.run_process_steps.proofs.Heeding.{held_number}

-- ---- a receive that is answered is started

other_asked : (a b c : Asked) → a ≡ b → a ≡ c → b ≡ c
other_asked a b c one two = sym one ∙ two

module _ (version : ℕ) (t : Turn) (x : EndId) (ps : List Place) (k : Kept) (at : holding_at x ps ≡ Keeps k) where
  abbrev n : ℕ
  n = number_of x ps

  module _ (is : IsTold t (process.Receive n) answer.Ok) where
    not_send : (m : ℕ) → t.asked ≡ process.Send m → ⊥
    not_send m e = let no : process.Send m ≡ process.Receive n = sym e ∙ is.0 in cc

    not_cancel : (m : ℕ) → t.asked ≡ process.Cancel m → ⊥
    not_cancel m e = let no : process.Cancel m ≡ process.Receive n = sym e ∙ is.0 in cc

    not_wait : t.asked ≡ process.Wait → ⊥
    not_wait e = let no : process.Wait ≡ process.Receive n = sym e ∙ is.0 in cc

    not_refused : (c : _) → t.given ≡ Some (answer.Refused c) → ⊥
    not_refused c e = let no : ◌≡◌ {A = Option Answer} (Some (answer.Refused c)) (Some answer.Ok) = sym e ∙ is.1 in cc

    here : IsHeld n x k ps
    here = held_number x ps k at

    is_held : IsUnheld n ps → ⊥
    is_held none = let no : ◌≡◌ {A = Option process.Held} (Some (record { number = n; end = x; kept = k })) None = sym (ap (λ (o : Option Place). held_of n o) here) ∙ none in cc

    same_number : (m : ℕ) → t.asked ≡ process.Receive m → m ≡ n
    same_number m e = let both : process.Receive m ≡ process.Receive n = sym e ∙ is.0 in cc

    same_kept : (l j : Kept) → Keeps l ≡ Keeps j → l ≡ j
    same_kept l j e = cc

    received_so : (m : ℕ) (y : EndId) (l : Kept) → IsHeld m y l ps → m ≡ n → holding_at x (with_holding m (Keeps (receives l)) ps) ≡ Keeps (receives k)
    received_so m y l there e =
        let at_n : place_at n ps ≡ Some (record { end = y; holding = Keeps l }) = ap (λ (j : ℕ). place_at j ps) (sym e) ∙ there in
        let same : record { end = y; holding = Keeps l } ≡ record { end = x; holding = Keeps k } = same_place (record { end = y; holding = Keeps l }) (record { end = x; holding = Keeps k }) (sym at_n ∙ here) in
        let both : Keeps l ≡ Keeps k = ap (λ (p : Place). p.holding) same in
        let kept : l ≡ k = same_kept l k both in
        ap (λ (j : ℕ). holding_at x (with_holding j (Keeps (receives l)) ps)) e ∙ ap (λ (j : Kept). holding_at x (with_holding n (Keeps (receives j)) ps)) kept
        ∙ here_so n (record { end = x; holding = Keeps k }) ps here refl (Keeps (receives k))

    by_answer : (m : ℕ) (y : EndId) (l : Kept) (h : Happening) → IsHeld m y l ps → IsAnswer t m y h → holding_at x (with_holding m (Keeps (after version h l)) ps) ≡ Keeps (receives k)
    by_answer m y l Receives there so = received_so m y l there (same_number m so.0)
    by_answer m y l happenings.Sends there so = absurd (not_send m so.0)
    by_answer m y l SendOver there so = absurd (not_wait so.told.0.0)
    by_answer m y l ReceiveOver there so = absurd (not_cancel m so.0)
    by_answer m y l CancelLate there so = absurd (not_cancel m so.0)
    by_answer m y l (happenings.Connects c) there so = absurd so
    by_answer m y l (happenings.Accepts a) there so = absurd so
    by_answer m y l (happenings.Binds b) there so = absurd so
    by_answer m y l (happenings.Unbinds entry) there so = absurd so
    by_answer m y l (happenings.Replies r) there so = absurd so
    by_answer m y l (happenings.Hears room packet xs) there so = absurd so
    by_answer m y l (happenings.Settles room) there so = absurd so
    by_answer m y l happenings.Dies there so = absurd so

    pub received : (b : Ledger) (ds : List DeedOn) (c : Ledger) → Telling version t b ds c → b.places ≡ ps → holding_at x c.places ≡ Keeps (receives k)
    received b ds c (tells.Silent f silent) e =
        absurd (is_held (subst (λ (l : List Place). IsUnheld n l) e (subst (λ (g : Option Answer). IsSilent (process.Receive n) g b.places) is.1 (subst (λ (a : Asked). IsSilent a t.given b.places) is.0 silent))))
    received b ds c (tells.Answers m y l h f there so) e =
        ap (λ (qs : List Place). holding_at x (with_holding m (Keeps (after version h l)) qs)) e ∙ by_answer m y l h (subst (λ (qs : List Place). IsHeld m y l qs) e there) so
    received b ds c (tells.Hears m y l room bytes packet xs f there so reads hand readable) e = absurd (not_wait so.told.0.0)
    received b ds c (tells.Ignores m y l bytes over xs f there so reads) e = absurd (not_wait so.told.0.0)
    received b ds c (tells.Breaks m y l bytes xs f there so) e = absurd (not_wait so.told.0.0)
    received b ds c (tells.Dies m y l f there so) e =
        absurd (⊎_elim (λ (d : IsTold t (process.Send m) _). not_send m d.0) (λ (d : IsTold t (process.Receive m) _). not_refused _ d.1) so)
    received b ds c (tells.DiesWith m y l h f there so) e =
        absurd (⊎_elim (λ (d : IsTold t (process.Cancel m) _ × (h ≡ CancelLate)). not_cancel m d.0.0) (λ (d : tells.Kills t y h). not_wait d.told.0.0) so)

-- ---- a slice does not end its process

abbrev Goes : Did → Type 0
Goes d = d.next ≡ next.Ended → ⊥

ask_goes : (c : Call) → next.Ask c ≡ next.Ended → ⊥
ask_goes c e = cc

pause_goes : next.Pause ≡ next.Ended → ⊥
pause_goes e = cc

calls_go : (s : State) (next : State → Did) → ((t : State) → Goes (next t)) → Goes (calls s next)
calls_go s next each = by_due (settles s) (first_due (settles s).doomed (settles s))
  where
    by_due : (t : State) (o : Option Asking) → Goes (asks_first o t next)
    by_due t None = each t
    by_due t (Some a) = ask_goes a.call

finish_goes : (b : Bool) (s : State) → Goes (finishes b s)
finish_goes true s = ask_goes call.Wait
finish_goes false s = ask_goes call.Exit

module _ (s : State) (next : ℕ → Done → Did) (each : (left : ℕ) (d : Done) → Goes (next left d)) where
  stopped_goes : (b : Beat) → Goes (stopped b s next)
  stopped_goes (Stops (Act n actions.New) left t) = ask_goes call.Make
  stopped_goes (Stops (Act n (actions.Write bytes)) left t) = ask_goes (call.Print bytes)
  stopped_goes (Stops (Act n (actions.Destroy link)) left t) = each left (acts n (actions.Destroy link) (record s { turns = t }))
  stopped_goes (Stops (Act n (actions.Bind link entry)) left t) = each left (acts n (actions.Bind link entry) (record s { turns = t }))
  stopped_goes (Stops (Act n (actions.Unbind link entry)) left t) = each left (acts n (actions.Unbind link entry) (record s { turns = t }))
  stopped_goes (Stops (Act n (actions.Connect link op vs)) left t) = each left (acts n (actions.Connect link op vs) (record s { turns = t }))
  stopped_goes (Stops (Act n (actions.Accept link op)) left t) = each left (acts n (actions.Accept link op) (record s { turns = t }))
  stopped_goes (Stops (Act n actions.Close) left t) = each left (acts n actions.Close (record s { turns = t }))
  stopped_goes (Stops (Act n (actions.Reply vs)) left t) = each left (acts n (actions.Reply vs) (record s { turns = t }))
  stopped_goes (Stops (Act n actions.Await) left t) = each left (acts n actions.Await (record s { turns = t }))
  stopped_goes (Stops (Act n actions.Stop) left t) = each left (acts n actions.Stop (record s { turns = t }))
  stopped_goes (Stops AllBlocked left t) = calls_go (record s { turns = t }) waits (λ u. ask_goes call.Wait)
  stopped_goes (Stops Finished left t) =
      calls_go (record s { turns = t }) (λ now. finishes (list_any (λ p. is_in_use p.holding) now.places) now) (λ u. finish_goes (list_any (λ p. is_in_use p.holding) u.places) u)
  stopped_goes (Stops Spent left t) = pause_goes
  stopped_goes (RunsOn left t) = pause_goes
  stopped_goes turns.Broken = pause_goes

over_goes : (b : Bool) (t : State) (next : State → Did) → Goes (next t) → Goes (unless_over b t next)
over_goes true t next goes = ask_goes call.Exit
over_goes false t next goes = goes

going : (k fuel : ℕ) (s : State) → Goes (goes_on k fuel s)
going zero fuel s = calls_go s _ (λ t. over_goes t.over t pauses pause_goes)
going (suc k) fuel s =
    calls_go s _
    (λ t. over_goes t.over t (λ u. stopped (machine_run fuel u) u (λ left d. with_deeds d.deeds (goes_on k left d.state)))
    (stopped_goes t (λ left d. with_deeds d.deeds (goes_on k left d.state)) (λ left d. going k left d.state) (machine_run fuel t)))

pub slice_goes : (s : State) → (slice s).next ≡ next.Ended → ⊥
slice_goes s = going (most_actions s) most_instructions s

-- ---- what a process has of an end afterwards

-- no Send was answered
known_so : (a : Asked) (n : ℕ) (g : Holding) → known_holding (record { asked = a; given = None }) n g ≡ g
known_so a n (Gone own) = refl
known_so process.Nothing n (Keeps k) = refl
known_so (process.Make m) n (Keeps k) = refl
known_so (process.Print m) n (Keeps k) = refl
known_so process.Destroy n (Keeps k) = refl
known_so (process.Send m) n (Keeps k) = refl
known_so (process.Receive m) n (Keeps k) = refl
known_so (process.Cancel m) n (Keeps k) = refl
known_so process.Wait n (Keeps k) = refl
known_so process.Exit n (Keeps k) = refl

known_none : (a : Asked) (n : ℕ) (ps : List Place) → known_from (record { asked = a; given = None }) n ps ≡ ps
known_none a n [] = refl
known_none a n (p ∷ ps) =
    ap (λ (g : Holding). record p { holding = g } ∷ known_from (record { asked = a; given = None }) (n + 1) ps) (known_so a n p.holding)
    ∙ ap (λ (l : List Place). p ∷ l) (known_none a (n + 1) ps)

seen_then : (x : EndId) (t : State) (f : Next) → seen_of (record { state = t; status = after_step f }) x ≡ seen x (ledger t [])
seen_then x t (next.Ask c) = ap (λ (l : List Place). seen x (record { places = l; doomed = t.doomed; hand = [] })) (known_none t.asked 1 t.places)
seen_then x t next.Pause = ap (λ (l : List Place). seen x (record { places = l; doomed = t.doomed; hand = [] })) (known_none t.asked 1 t.places)
seen_then x t next.Ended = ap (λ (l : List Place). seen x (record { places = l; doomed = t.doomed; hand = [] })) (known_none t.asked 1 t.places)

same_doomed : (x : EndId) (l m : List EndId) → l ≡ m → how_often x m + 0 ≤ how_often x l
same_doomed x l m e = let same : how_often x l ≡ how_often x m = ap (λ (k : List EndId). how_often x k) e in omega (arith, same)

left_less : (x : EndId) (f : Next) (l m : List EndId) → AreLeft f l m → how_often x m + destroying x (after_step f) ≤ how_often x l
left_less x next.Pause l m e = same_doomed x l m e
left_less x next.Ended l m e = same_doomed x l m e
left_less x (next.Ask (call.Destroy y)) l m e =
    let same : how_often x l ≡ (if end_eq y x then 1 else 0) + how_often x m = ap (λ (k : List EndId). how_often x k) e in omega (arith, same)
left_less x (next.Ask call.Make) l m e = same_doomed x l m e
left_less x (next.Ask (call.Send y bytes xs)) l m e = same_doomed x l m e
left_less x (next.Ask (call.Receive y)) l m e = same_doomed x l m e
left_less x (next.Ask (call.Cancel y w)) l m e = same_doomed x l m e
left_less x (next.Ask call.Wait) l m e = same_doomed x l m e
left_less x (next.Ask (call.Print bytes)) l m e = same_doomed x l m e
left_less x (next.Ask call.Exit) l m e = same_doomed x l m e

-- no more than at the end of the changes, with what is in its call
pub record IsLast (x : EndId) (called : ℕ) (b : Ledger) (c : Seen) : Type 0 where
  pub holding : c.holding ≡ (seen x b).holding
  pub out : c.out ≤ (seen x b).out
  pub all : total c + called ≤ total (seen x b)

last_seen : (x : EndId) (called : ℕ) (b : Ledger) (t : State) → b.places ≡ t.places → how_often x t.doomed + called ≤ how_often x b.doomed → IsLast x called b (seen x (ledger t []))
last_seen x called b t same less =
    let held : holding_at x t.places ≡ holding_at x b.places = ap (λ (ps : List Place). holding_at x ps) (sym same) in
    let count : held_count (holding_at x t.places) ≡ held_count (holding_at x b.places) = ap held_count held in
    let load : how_often x (carried_at t.places) ≡ how_often x (carried_at b.places) = ap (λ (ps : List Place). how_often x (carried_at ps)) (sym same) in
    record { holding = held; out = omega (arith, load); all = omega (arith, load, count, less) }

pub step_last : (x : EndId) (s : State) (given : Option Answer) (d : Did) → (is : ChangesByStep s given d) → IsLast x (destroying x (after_step d.next)) is.last (seen_of (owner_after d) x)
step_last x s given d is =
    subst (λ (c : Seen). IsLast x (destroying x (after_step d.next)) is.last c) (sym (seen_then x d.state d.next))
    (last_seen x (destroying x (after_step d.next)) is.last d.state is.places (left_less x d.next is.last.doomed d.state.doomed is.left))
