-- A process that is to destroy ends does nothing else: until it did, each of its calls is a Destroy.
use Rattle.std.proofs.Common.{◌≡◌, ◌⊎◌, inl, inr, ⊎_elim, ℕ, zero, suc, Bool, true, false, List, [], ◌∷◌, Option, Some, None, refl, sym, ap, subst, ◌∙◌}
use Rattle.std.specs.List.{list_any}
use Rattle.charlotte_calls.specs.declared.calls.Answer.{Answer}
use Rattle.charlotte_calls.specs.declared.calls.Call.{Call}
use Rattle.charlotte_calls.specs.declared.calls.Call.TheVariants as call
use Rattle.charlotte_calls.specs.declared.calls.ServiceStep.{ServiceStep}
use Rattle.charlotte_calls.specs.declared.names.EndId.{EndId}
use Rattle.followed_links.specs.Told.{later_told}
use Rattle.lynx_meaning.specs.Courses as actions
use Rattle.machine_turns.specs.Turns.{Act, AllBlocked, Beat, Finished, RunsOn, Spent, Stops}
use Rattle.machine_turns.specs.Turns as turns
use Rattle.end_protocol.specs.Lists.{tail}
use Rattle.process_run.specs.States.{Asked, Done, State}
use Rattle.process_run.specs.States as process
use Rattle.process_run.specs.Actions.{acts}
use Rattle.process_run.specs.Reports.{answered}
use Rattle.process_run.specs.Runs.{Asking, Did, asks_first, calls, did, finishes, first_due, goes_on, is_in_use, machine_run, most_actions, most_instructions, pauses, proceeds, settles, stopped, unless_over, waits, with_deeds}
use Rattle.followed_links.specs.Asking.{IsCallOf}
use Rattle.followed_links.specs.Acted.{process as pid}
use Rattle.followed_links.specs.Hearing.{hears_step, told_of}
use Rattle.followed_links.specs.Owners.{Asks, IsAskedFor, Over, Owner, Pends, Runs, Status, Told, given_of}
use Rattle.followed_links.specs.Steps.{after_step, owner_after}
use Rattle.lost_ends.specs.Stopped.{IsDestroy, IsDestroying, IsHasty}

-- ---- a step

abbrev IsSo : Did → Type 0
IsSo d = (d.state.doomed ≡ []) ⊎ IsDestroying (after_step d.next)

calls-so : (s : State) (next : State → Did) → ((t : State) → t.doomed ≡ [] → IsSo (next t)) → IsSo (calls s next)
calls-so s next each = by (settles s) (settles s).doomed refl
  where
    by : (t : State) (l : List EndId) → t.doomed ≡ l → IsSo (asks_first (first_due t.doomed t) t next)
    by t [] e = by_due (first_due t.doomed t)
      where
        by_due : (o : Option Asking) → IsSo (asks_first o t next)
        by_due None = each t e
        by_due (Some a) = inl (ap tail e)
    by t (x ∷ xs) e = subst (λ (m : List EndId). IsSo (asks_first (first_due m t) t next)) (sym e) (inr tt)

finish-so : (b : Bool) (s : State) → s.doomed ≡ [] → IsSo (finishes b s)
finish-so true s e = inl e
finish-so false s e = inl e

module _ (s : State) (none : s.doomed ≡ []) (next : ℕ → Done → Did) (each : (left : ℕ) (d : Done) → IsSo (next left d)) where
  stopped-so : (b : Beat) → IsSo (stopped b s next)
  stopped-so (Stops (Act n actions.New) left t) = inl none
  stopped-so (Stops (Act n (actions.Write bytes)) left t) = inl none
  stopped-so (Stops (Act n (actions.Destroy link)) left t) = each left (acts n (actions.Destroy link) (record s { turns = t }))
  stopped-so (Stops (Act n (actions.Bind link entry)) left t) = each left (acts n (actions.Bind link entry) (record s { turns = t }))
  stopped-so (Stops (Act n (actions.Unbind link entry)) left t) = each left (acts n (actions.Unbind link entry) (record s { turns = t }))
  stopped-so (Stops (Act n (actions.Connect link op vs)) left t) = each left (acts n (actions.Connect link op vs) (record s { turns = t }))
  stopped-so (Stops (Act n (actions.Accept link op)) left t) = each left (acts n (actions.Accept link op) (record s { turns = t }))
  stopped-so (Stops (Act n actions.Close) left t) = each left (acts n actions.Close (record s { turns = t }))
  stopped-so (Stops (Act n (actions.Reply vs)) left t) = each left (acts n (actions.Reply vs) (record s { turns = t }))
  stopped-so (Stops (Act n actions.Await) left t) = each left (acts n actions.Await (record s { turns = t }))
  stopped-so (Stops (Act n actions.Stop) left t) = each left (acts n actions.Stop (record s { turns = t }))
  stopped-so (Stops AllBlocked left t) = calls-so (record s { turns = t }) waits (λ u e. inl e)
  stopped-so (Stops Finished left t) =
      calls-so (record s { turns = t }) (λ now. finishes (list_any (λ p. is_in_use p.holding) now.places) now) (λ u e. finish-so (list_any (λ p. is_in_use p.holding) u.places) u e)
  stopped-so (Stops Spent left t) = inl none
  stopped-so (RunsOn left t) = inl none
  stopped-so turns.Broken = inl none

over-so : (b : Bool) (t : State) (next : State → Did) → t.doomed ≡ [] → IsSo (next t) → IsSo (unless_over b t next)
over-so true t next none so = inl none
over-so false t next none so = so

going-so : (k fuel : ℕ) (s : State) → IsSo (goes_on k fuel s)
going-so zero fuel s = calls-so s _ (λ t none. over-so t.over t pauses none (inl none))
going-so (suc k) fuel s =
    calls-so s _
    (λ t none. over-so t.over t (λ u. stopped (machine_run fuel u) u (λ left d. with_deeds d.deeds (goes_on k left d.state))) none
    (stopped-so t none (λ left d. with_deeds d.deeds (goes_on k left d.state)) (λ left d. going-so k left d.state) (machine_run fuel t)))

call-asked : (st : State) (c : Call) → IsDestroy c → IsCallOf st c → st.asked ≡ process.Destroy
call-asked st (call.Destroy y) is asked = asked
call-asked st call.Make is asked = absurd is
call-asked st (call.Send on bytes xs) is asked = absurd is
call-asked st (call.Receive on) is asked = absurd is
call-asked st (call.Cancel on w) is asked = absurd is
call-asked st call.Wait is asked = absurd is
call-asked st (call.Print bytes) is asked = absurd is
call-asked st call.Exit is asked = absurd is

destroying-asked : (st : State) (status : Status) → IsDestroying status → IsAskedFor st status → st.asked ≡ process.Destroy
destroying-asked st (Asks c) is asked = call-asked st c is asked
destroying-asked st (Pends c) is asked = call-asked st c is asked
destroying-asked st (Told c a) is asked = call-asked st c is asked
destroying-asked st Runs is asked = absurd is
destroying-asked st Over is asked = absurd is

pub step-hasty : (o : Owner) → IsHasty o → IsAskedFor o.state o.status → IsHasty (owner_after (did o.state (given_of o.status)))
step-hasty o hasty asked = by o.state.asked refl
  where
    not_exit : process.Destroy ≡ process.Exit → ⊥
    not_exit e = cc

    none : o.state.asked ≡ process.Exit → o.state.doomed ≡ []
    none exits = ⊎_elim (λ (is : o.state.doomed ≡ []). is) (λ (destroys : IsDestroying o.status). absurd (not_exit (sym (destroying-asked o.state o.status destroys asked) ∙ exits))) hasty

    given : Option Answer
    given = given_of o.status

    by : (a : Asked) → o.state.asked ≡ a → IsSo (proceeds a (answered o.state.asked given o.state))
    by process.Exit e = inl (ap (λ (b : Asked). (answered b given o.state).state.doomed) e ∙ none e)
    by process.Nothing e = going-so (most_actions (answered o.state.asked given o.state).state) most_instructions (answered o.state.asked given o.state).state
    by (process.Make n) e = going-so (most_actions (answered o.state.asked given o.state).state) most_instructions (answered o.state.asked given o.state).state
    by (process.Print n) e = going-so (most_actions (answered o.state.asked given o.state).state) most_instructions (answered o.state.asked given o.state).state
    by process.Destroy e = going-so (most_actions (answered o.state.asked given o.state).state) most_instructions (answered o.state.asked given o.state).state
    by (process.Send n) e = going-so (most_actions (answered o.state.asked given o.state).state) most_instructions (answered o.state.asked given o.state).state
    by (process.Receive n) e = going-so (most_actions (answered o.state.asked given o.state).state) most_instructions (answered o.state.asked given o.state).state
    by (process.Cancel n) e = going-so (most_actions (answered o.state.asked given o.state).state) most_instructions (answered o.state.asked given o.state).state
    by process.Wait e = going-so (most_actions (answered o.state.asked given o.state).state) most_instructions (answered o.state.asked given o.state).state

-- ---- what it hears does not change its call

told-destroying : (c : Call) (o : Option Answer) → IsDestroy c → IsDestroying (told_of c o)
told-destroying c None is = is
told-destroying c (Some a) is = is

pub hears-destroying : (i : ℕ) (made : ServiceStep) (status : Status) → IsDestroying status → IsDestroying (hears_step i made status)
hears-destroying i made (Asks c) is = is
hears-destroying i made (Pends c) is = told-destroying c (later_told (pid i) c (made ∷ [])) is
hears-destroying i made (Told c a) is = is
hears-destroying i made Runs is = is
hears-destroying i made Over is = is

pub own-destroying : (c : Call) (told : Option Answer) → IsDestroying (Asks c) → IsDestroying (told_of c told)
own-destroying c told is = told-destroying c told is
