-- What a process may do, where this holds of it.
use Rattle.std.proofs.Common.{◌≡◌, ℕ, zero, suc, false, List, [], length, Option, Some, None, Ok, refl, subst}
use Rattle.std.specs.Prelude.{IfSome}
use Rattle.charlotte_calls.specs.Ranges.{AreBytes}
use Rattle.charlotte_calls.specs.declared.calls.Answer.{Answer}
use Rattle.charlotte_calls.specs.declared.calls.Answer.TheVariants as answer
use Rattle.charlotte_calls.specs.declared.calls.Report.{Report}
use Rattle.charlotte_calls.specs.declared.names.Outcome.{Outcome}
use Rattle.charlotte_calls.specs.declared.names.Outcome.TheVariants as outcomes
use Rattle.charlotte_calls.specs.declared.names.Way.{Way}
use Rattle.charlotte_calls.specs.declared.names.Way.TheVariants.{Inward, Outward}
use Rattle.typing_rules.specs.declared.exception.Exception.TheVariants as exceptions
use Rattle.lynx_meaning.specs.Courses.{Action}
use Rattle.lynx_meaning.specs.Courses as actions
use Rattle.lynx_meaning.specs.Needs.{Arguments, NoValue, Results, TwoLinks}
use Rattle.lynx_packets.specs.declared.packet.RtPacket.{RtPacket}
use Rattle.lynx_packets.specs.Packets.{packet_of}
use Rattle.machine_turns.specs.Turns.{Act, Beat, RunsOn, Stops}
use Rattle.machine_turns.specs.Turns as turns
use Rattle.end_protocol.specs.declared.hearing.Heard.{Heard}
use Rattle.end_protocol.specs.declared.hearing.Heard.TheVariants as heard
use Rattle.end_protocol.specs.declared.kept.Kept.{Kept}
use Rattle.end_protocol.specs.declared.kept.Response.{Response}
use Rattle.end_protocol.specs.declared.kept.Taker.{Taker}
use Rattle.end_protocol.specs.declared.kept.Taker.TheVariants as takers
use Rattle.end_protocol.specs.declared.kept.Wanted.{Wanted}
use Rattle.end_protocol.specs.declared.messages.Message.{Message}
use Rattle.end_protocol.specs.Going.{receive_over}
use Rattle.process_run.specs.States.{Asked, Gone, Held, Holding, Keeps, Place, State}
use Rattle.process_run.specs.States as process
use Rattle.process_run.specs.Actions.{acts}
use Rattle.process_run.specs.Deaths.{destroys}
use Rattle.process_run.specs.Ends.{held_at, link_of, number_of, place_at, puts, room}
use Rattle.process_run.specs.Reports.{answered, listens, on_end}
use Rattle.process_run.specs.Runs.{machine_run, most_actions, most_instructions, settles}
use Rattle.process_sound.specs.Acting.{IsActing}
use Rattle.process_sound.specs.Ends.{IsKept}
use Rattle.process_sound.specs.Hearing.{IsHeardFor, IsTakenFor, owed_by}
use Rattle.process_sound.specs.Machine.{Fits, MayRaise, asks}
use Rattle.process_sound.specs.May.{AnyState, AreSendable, IsSendable, MayAnswer, MayCall, MayComeOf, MayDestroy, MayDie, MayGoOn, MayProceed, MayReport, MayReportIn, MayReportOn, MayReturn, MayStep, MayStop, MayTake, raised_so}
use Rattle.process_ends.specs.Ends.{kept_at, kept_by, kept_in}
use Rattle.process_sound.specs.Packets.{MaySend}
use Rattle.process_sound.specs.Processes.{IsFor, IsGoing, IsRunning}
use Rattle.process_sound.specs.Told.{IsTold}
use Rattle.process_sound.proofs.Actions.{acts_going, destroy_asks}
use Rattle.process_sound.proofs.Answers.{answered_going, two_fit}
use Rattle.process_sound.proofs.Calls.{settles_going}
use Rattle.process_sound.proofs.Deaths.{IsHeldAs, death_raises}
use Rattle.process_sound.proofs.Every.{every_head, some_is}
use Rattle.process_sound.proofs.Held.{held_as, held_holding}
use Rattle.process_sound.proofs.Reports.{heard_owed, listens_so, over_held}
use Rattle.process_sound.proofs.Runs.{IsStoppedSo, run_stops, with_turns}
use Rattle.process_sound.proofs.Threads.{asking_of}

-- ---- ends by number

-- what is true of an end that is held, or is not, is true of it
module _ (owed : List ℕ) (s : State) (is : IsGoing owed s) (n : ℕ) (P : Option Kept → Type 0) (none : P None)
    (each : (k : Kept) (p : Place) → IsHeldAs (record { number = n; end = p.end; kept = k }) s → P (Some k)) where
  by_holding : (p : Place) (g : Holding) → place_at n s.places ≡ Some p → p.holding ≡ g → P (kept_by g)
  by_holding p (Gone own) there holds = none
  by_holding p (Keeps k) there holds = each k p (held_holding owed s is n p (Keeps k) (record { number = n; end = p.end; kept = k }) holds there refl)

  by_place : (o : Option Place) → place_at n s.places ≡ o → P (kept_in o)
  by_place None there = none
  by_place (Some p) there = by_holding p p.holding there refl

  pub by_kept : P (kept_at n s.places)
  by_kept = by_place (place_at n s.places) refl

-- DEADLINK may be raised in all threads that wait at an end
pub may_die : (n : ℕ) (s : State) → IsGoing [] s → MayDie n s
may_die n s is = by_kept [] s is n (λ o. MayRaise (raised_so o) exceptions.DeadLink s) tt (λ k p held. death_raises (record { number = n; end = p.end; kept = k }) s held is)

can_send : (version : ℕ) (p : RtPacket) → MaySend version p → IsSendable p
can_send version p may = record { obeys = may.obeys; size = may.fits }

-- the first packet of each queue can be sent
pub may_send : (owed : List ℕ) (s : State) → IsGoing owed s → AreSendable s
may_send owed s is n k m kept first =
    by_kept owed s is n (λ o. o ≡ Some k → IsSendable m.packet) (λ e. let no : None ≡ Some k = e in absurd cc)
    (λ j p held e.
    let is_kept : IsKept s.version s.code k = subst (λ (x : Kept). IsKept s.version s.code x) (some_is j k e) held.kept in
    let may : MaySend s.version m.packet = subst (λ (o : Option Message). IfSome o (λ x. MaySend s.version x.packet)) first (every_head (λ (x : Message). MaySend s.version x.packet) k.queue is_kept.queue) in
    can_send s.version m.packet may)
    kept

-- ---- what is heard

may_take : (t : Taker) (w : Wanted) (s : State) → IsTakenFor s.code s.turns t w.values → MayTake t w s
may_take (takers.Thread n) w s fits = (Arguments fits.0, asking_of n (Arguments fits.0) s.turns fits.1, fits.2 (length s.places))
may_take (takers.Entry e) w s fits = (fits.0, fits.1, fits.2 (length s.places))

may_return : (n status : ℕ) (r : Response) (s : State) → IsHeardFor s.code s.turns (heard.Returned n (record r { status = status })) → MayReturn n status r s
may_return n zero r s fits = (Results fits.0, asking_of n (Results fits.0) s.turns fits.1, fits.2 refl (length s.places))
may_return n (suc status) r s fits = (Results fits.0, asking_of n (Results fits.0) s.turns fits.1, tt)

pub may_come : (n : ℕ) (x : Heard) (s : State) → IsHeardFor s.code s.turns x → IsGoing (owed_by x) s → MayComeOf n x s
may_come n heard.Nothing s fits is = tt
may_come n (heard.Accepted w) s fits is = may_take w.by w s fits
may_come n (heard.Returned thread r) s fits is = may_return thread r.status r s fits
may_come n (heard.TooLate xs) s fits is = tt
may_come n (heard.Unreadable xs) s fits is = may_die n s is

may_report_on : (n : ℕ) (k : Kept) (p : Place) (way : Way) (outcome : Outcome) (r : Report) (s : State) → AreBytes r.bytes → IsHeldAs (record { number = n; end = p.end; kept = k }) s → IsGoing [] s → MayReportOn n k way outcome r s
may_report_on n k p Inward outcomes.Destroyed r s are held is = may_die n s is
may_report_on n k p Outward outcomes.Destroyed r s are held is = may_die n s is
may_report_on n k p Outward outcomes.Done r s are held is = tt
may_report_on n k p Inward outcomes.Done r s are held is =
    let h : Held = record { number = n; end = p.end; kept = k } in
    let x = listens s.version (room s) (packet_of s.version r.bytes) r.enclosed (receive_over k) in
    let so = listens_so r k s are held.kept held.waits is in
    may_come n x.1 (puts n (Keeps x.0) s) so.fits (heard_owed (record h { kept = receive_over k }) x s (over_held h s held is) so is)

pub may_report : (r : Report) (s : State) → AreBytes r.bytes → IsGoing [] s → MayReport r s
may_report r s are is =
    let n = number_of r.on s.places in
    by_kept [] s is n (λ o. MayReportIn n o r s) tt (λ k p held. may_report_on n k p r.way r.outcome r s are held is)

-- ---- answers

made_may : (n : ℕ) (given : Option Answer) (s : State) → asks n s.turns ≡ Some TwoLinks → MayAnswer (process.Make n) given s
made_may n (Some (answer.Made a b)) s wants = two_fit n s wants
made_may n None s wants = (TwoLinks, asking_of n TwoLinks s.turns wants, tt)
made_may n (Some answer.Ok) s wants = (TwoLinks, asking_of n TwoLinks s.turns wants, tt)
made_may n (Some (answer.Refused c)) s wants = (TwoLinks, asking_of n TwoLinks s.turns wants, tt)
made_may n (Some (answer.Reported r)) s wants = (TwoLinks, asking_of n TwoLinks s.turns wants, tt)

waited_may : (given : Option Answer) (s : State) → IsTold given → IsGoing [] s → MayAnswer process.Wait given s
waited_may (Some (answer.Reported r)) s told is = may_report r s told is
waited_may None s told is = tt
waited_may (Some answer.Ok) s told is = tt
waited_may (Some (answer.Refused c)) s told is = tt
waited_may (Some (answer.Made a b)) s told is = tt

pub may_answer : (a : Asked) (given : Option Answer) (s : State) → IsFor a s.turns → IsTold given → IsGoing [] s → MayAnswer a given s
may_answer (process.Make n) given s for told is = made_may n given s for
may_answer (process.Print n) given s for told is = (NoValue, asking_of n NoValue s.turns for, tt)
may_answer (process.Send n) given s for told is = may_die n s is
may_answer (process.Receive n) given s for told is = may_die n s is
may_answer (process.Cancel n) given s for told is = may_die n s is
may_answer process.Wait given s for told is = waited_may given s told is
may_answer process.Nothing given s for told is = tt
may_answer process.Destroy given s for told is = tt
may_answer process.Exit given s for told is = tt

-- ---- a slice

may_call : (Next : State → Type 0) (s : State) → IsGoing [] s → (IsGoing [] (settles s) → Next (settles s)) → MayCall Next s
may_call Next s is each = let settled = settles_going [] s is in record { sendable = may_send [] (settles s) settled; next = λ none. each settled }

goes_on_behind : (n : ℕ) (o : Option Held) (s : State) → ((h : Held) → o ≡ Some h → IsHeldAs h s) → asks n s.turns ≡ Some NoValue → IsGoing [] s → Fits n (Ok []) (on_end o destroys s).state
goes_on_behind n None s held wants is = (NoValue, asking_of n NoValue s.turns wants, tt)
goes_on_behind n (Some h) s held wants is = (NoValue, asking_of n NoValue (destroys h s).turns (destroy_asks n h s wants (held h refl) is), tt)

pub may_destroy : (n m : ℕ) (s : State) → asks n s.turns ≡ Some NoValue → IsGoing [] s → MayDestroy n m s
may_destroy n m s wants is = record { falls = may_die m s is; goes_on = goes_on_behind n (held_at m s) s (λ h at. held_as [] s is m h at) wants is }

module _ (s : State) (Next : ℕ → State → Type 0) (each : (left : ℕ) (t : State) → IsGoing [] t → Next left t) where
  may_act : (n left : ℕ) (a : Action) (t : turns.Turns) → IsActing n a (with_turns t s) → MayStop (Stops (Act n a) left t) s Next
  may_act n left actions.New t is = tt
  may_act n left (actions.Write bytes) t is = tt
  may_act n left (actions.Destroy link) t is =
      (may_destroy n (link_of link) (with_turns t s) is.asking is.going, each left (acts n (actions.Destroy link) (with_turns t s)).state (acts_going n (actions.Destroy link) (with_turns t s) (λ e. cc) is))
  may_act n left (actions.Bind link entry) t is = (tt, each left (acts n (actions.Bind link entry) (with_turns t s)).state (acts_going n (actions.Bind link entry) (with_turns t s) (λ e. cc) is))
  may_act n left (actions.Unbind link entry) t is = (tt, each left (acts n (actions.Unbind link entry) (with_turns t s)).state (acts_going n (actions.Unbind link entry) (with_turns t s) (λ e. cc) is))
  may_act n left (actions.Connect link op vs) t is = (tt, each left (acts n (actions.Connect link op vs) (with_turns t s)).state (acts_going n (actions.Connect link op vs) (with_turns t s) (λ e. cc) is))
  may_act n left (actions.Accept link op) t is = (tt, each left (acts n (actions.Accept link op) (with_turns t s)).state (acts_going n (actions.Accept link op) (with_turns t s) (λ e. cc) is))
  may_act n left actions.Close t is = (tt, each left (acts n actions.Close (with_turns t s)).state (acts_going n actions.Close (with_turns t s) (λ e. cc) is))
  may_act n left (actions.Reply vs) t is = (tt, each left (acts n (actions.Reply vs) (with_turns t s)).state (acts_going n (actions.Reply vs) (with_turns t s) (λ e. cc) is))
  may_act n left actions.Await t is = (tt, each left (acts n actions.Await (with_turns t s)).state (acts_going n actions.Await (with_turns t s) (λ e. cc) is))
  may_act n left actions.Stop t is = (tt, each left (acts n actions.Stop (with_turns t s)).state (acts_going n actions.Stop (with_turns t s) (λ e. cc) is))

  may_stop : (b : Beat) → IsStoppedSo s b → MayStop b s Next
  may_stop (RunsOn left t) so = tt
  may_stop (Stops turns.Spent left t) so = tt
  may_stop (Stops (Act n a) left t) so = may_act n left a t so
  may_stop (Stops turns.AllBlocked left t) so = may_call AnyState (with_turns t s) so (λ now. tt)
  may_stop (Stops turns.Finished left t) so = may_call AnyState (with_turns t s) so (λ now. tt)
  may_stop turns.Broken so = tt

pub may_go_on : (k fuel : ℕ) (s : State) → IsGoing [] s → MayGoOn k fuel s
may_go_on zero fuel s is = may_call AnyState s is (λ now. tt)
may_go_on (suc k) fuel s is =
    may_call (λ t. t.over ≡ false → MayStop (machine_run fuel t) t (MayGoOn k)) s is
    (λ now on. may_stop (settles s) (MayGoOn k) (λ left t going. may_go_on k left t going) (machine_run fuel (settles s)) (run_stops (settles s) now fuel))

-- ---- steps

may_proceed : (a : Asked) (s : State) → IsGoing [] s → MayProceed a s
may_proceed process.Exit s is = tt
may_proceed process.Nothing s is = may_go_on (most_actions s) most_instructions s is
may_proceed process.Destroy s is = may_go_on (most_actions s) most_instructions s is
may_proceed (process.Make n) s is = may_go_on (most_actions s) most_instructions s is
may_proceed (process.Print n) s is = may_go_on (most_actions s) most_instructions s is
may_proceed (process.Send n) s is = may_go_on (most_actions s) most_instructions s is
may_proceed (process.Receive n) s is = may_go_on (most_actions s) most_instructions s is
may_proceed (process.Cancel n) s is = may_go_on (most_actions s) most_instructions s is
may_proceed process.Wait s is = may_go_on (most_actions s) most_instructions s is

-- A process may make its next step, whatever the kernel answers.
pub may_step : (s : State) (given : Option Answer) → IsTold given → IsRunning s → MayStep s given
may_step s given told is = record {
  answer = may_answer s.asked given s is.asked told is.going;
  next = may_proceed s.asked (answered s.asked given s).state (answered_going s is.going s.asked given is.asked told);
}
