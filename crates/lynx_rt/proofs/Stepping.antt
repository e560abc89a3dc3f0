-- Calls that are due, stops of the machine, and rounds of a slice.
use Rattle.std.proofs.Common.{arith, ◌≡◌, ◌<◌, ◌≤◌, ℕ, zero, suc, ◌+◌, ◌-◌, true, false, true≢false, Bool, ◌||◌, List, [], ◌∷◌, length, map, cond, Option, Some, None, option_map, slice_get, get_or, if◌then◌else◌, refl, sym, ap, ap₂, subst, ◌∙◌}
use Rattle.std.specs.Bool.{⊤}
use Rattle.std.specs.Prelude.{IsSome, is_some, sum_by, nat_lt, Ok, Err}
use Rattle.std.specs.List.{list_any}
use Rattle.lynx_code.specs.Modules.{ArePairs}
use Rattle.std.proofs.lemmas.List.Sums.{sum_by-cons}
use Rattle.std.proofs.lemmas.Option.{slice_get-get_or, slice_get_within}
use Rattle.charlotte_calls.specs.declared.calls.Answer.{Answer}
use Rattle.charlotte_calls.specs.declared.calls.Call.TheVariants as call
use Rattle.charlotte_calls.specs.declared.names.EndId.{EndId}
use Rattle.charlotte_calls.specs.declared.program.Next.{Next}
use Rattle.charlotte_calls.specs.declared.program.Next.TheVariants as next
use Rattle.lynx_meaning.specs.Courses.{Action}
use Rattle.lynx_meaning.specs.Courses as actions
use Rattle.lynx_meaning.specs.Needs.{OpTypes, Wanted, wanted_by, wanted_types}
use Rattle.lynx_meaning.specs.Needs as needs
use Rattle.lynx_meaning.specs.Values.{HasType}
use Rattle.machine_thread.specs.Told.{action_of}
use Rattle.machine_thread.specs.declared.action.Action as machine
use Rattle.machine_thread.specs.declared.action.Action.TheVariants as kinds
use Rattle.machine_requests.specs.Open.{open_of}
use Rattle.machine_never_stuck.specs.Sound.{IsAction}
use Rattle.machine_sound.specs.Sound.{IsAsking}
use Rattle.machine_turns.specs.Turns.{Turns, Beat, Stop, Stops, Spent, Act, AllBlocked, Finished, most_threads}
use Rattle.end_protocol.specs.declared.going.Due.{Due}
use Rattle.end_protocol.specs.declared.going.Due.TheVariants as due
use Rattle.end_protocol.specs.declared.kept.Forbade.{Forbade}
use Rattle.end_protocol.specs.declared.kept.Kept.{Kept}
use Rattle.end_protocol.specs.declared.messages.Message.{Message}
use Rattle.end_protocol.specs.Going.{allows, is_allow_due, settled, settled_with}
use Rattle.end_protocol.specs.Lists.{head, tail}
use Rattle.end_protocol.specs.Wanting.{counts}
use Rattle.lynx_interp.specs.Machines.{how_many}
use Rattle.process_run.specs.States.{Holding, Keeps, Gone, Place, Held, State, Done}
use Rattle.process_run.specs.States as states
use Rattle.process_run.specs.Actions.{acts}
use Rattle.process_run.specs.Ends.{coming_to, held_at, held_in, held_of, link_of, place_at, room}
use Rattle.process_run.specs.Runs.{Asking, Did, asks_first, calls, finishes, first_due, goes_on, machine_run, most_actions, most_instructions, pauses, proceeds, sending, settled_at, settled_in, settles, slice, step, stopped, unless_over, with_deeds}
use Rattle.process_run.specs.Reports.{answered}
use Rattle.process_ends.specs.Ends.{asking_on, kept_at, kept_by, kept_in}
use Rattle.process_ends.specs.Found.{IsFirst}
use Rattle.process_ends.proofs.Lists.{some_is}
use Rattle.process_sound.specs.Machine.{Fits}
use Rattle.process_sound.specs.May.{AreSendable, MayCall, MayGoOn, MayProceed, MayStep, MayStop, MayStopFor}
use Rattle.lynx_rt.specs.Kept.{IsProcess}
use Rattle.lynx_rt.specs.May.{IsStoppedFor, MayAct, MayAskFor, MayBlock, MayComeTo}
use Rattle.lynx_rt.specs.Steps.{ActsOn, Asks, DestroysOf, GoesOn, IsDue, IsFirstCall, IsNoCall, IsRound, Leads, StopsSo, due_by, first_at, first_in, is_exit}

-- ---- room

request_by : (b : Bool) (n : ℕ) (k : Kept) → (if b then allows n k else k).request ≡ k.request
unfolding allows
request_by true n k = refl
request_by false n k = refl

request_with : (o : Option Forbade) (free : Bool) (k : Kept) → (settled_with o free k).request ≡ k.request
request_with None free k = refl
request_with (Some f) free k = request_by (is_allow_due free f k) f.number k

coming_same : (free : Bool) (h : Holding) → coming_to (settled_in free h) ≡ coming_to h
coming_same free (Keeps k) = ap (λ o. cond (counts o) 1 0) (request_with k.forbade free k)
coming_same free (Gone own) = refl

abbrev coming : Place → ℕ
coming p = coming_to p.holding

sum_same : (free : Bool) (ps : List Place) → sum_by coming (map (settled_at free) ps) ≡ sum_by coming ps
sum_same free [] = refl
sum_same free (p ∷ ps) =
    sum_by-cons coming (settled_at free p) (map (settled_at free) ps) ∙ ap₂ (λ (a b : ℕ). a + b) (coming_same free p.holding) (sum_same free ps) ∙ sym (sum_by-cons coming p ps)

-- to queue an allow changes no room
room_settled : (s : State) → room (settles s) ≡ room s
unfolding settles
room_settled s = ap (λ (n : ℕ). nat_lt (how_many s.turns.threads + n) most_threads) (sum_same (room s) s.places)

pub first_settled : (s t : State) (o : Option (ℕ × Due)) → t ≡ settles s → IsFirst (room s) t.places o → IsFirst (room t) t.places o
first_settled s t o is first = subst (λ (b : Bool). IsFirst b t.places o) (sym (ap room is ∙ room_settled s)) first

-- ---- the call that is due on an end

no_some : {X : Type 0} (x : X) → None ≡ Some x → ⊥
no_some x is = let no : None ≡ Some x = is in absurd cc

asked_by : (version n : ℕ) (x : EndId) (h : Holding) (e : EndId) (d : Due) → Some e ≡ option_map (λ g. g.end) (held_in n x h)
    → due_by version n e (first_in (kept_by h)) d ≡ asking_on version n d (held_in n x h)
asked_by version n x (Gone own) e d at = let no : Some e ≡ None = at in absurd cc
asked_by version n x (Keeps k) e due.Nothing at = refl
asked_by version n x (Keeps k) e due.Send at = ap (λ (y : EndId). sending version n y (head k.queue)) (some_is e x at)
asked_by version n x (Keeps k) e due.Receive at = ap (λ (y : EndId). due_by version n y (head k.queue) due.Receive) (some_is e x at)
asked_by version n x (Keeps k) e due.Cancel at = ap (λ (y : EndId). due_by version n y (head k.queue) due.Cancel) (some_is e x at)

asked_in : (version n : ℕ) (o : Option Place) (e : EndId) (d : Due) → Some e ≡ option_map (λ g. g.end) (held_of n o)
    → due_by version n e (first_in (kept_in o)) d ≡ asking_on version n d (held_of n o)
asked_in version n None e d at = let no : Some e ≡ None = at in absurd cc
asked_in version n (Some p) e d at = asked_by version n p.end p.holding e d at

pub asks_held : (n : ℕ) (e : EndId) (d : Due) (s : State) (c : Option Next) (t : State) → Some e ≡ option_map (λ g. g.end) (held_at n s)
    → Asks (due_by s.version n e (first_at n s) d) s c t → Asks (asking_on s.version n d (held_at n s)) s c t
asks_held n e d s c t at asks = subst (λ (o : Option Asking). Asks o s c t) (asked_in s.version n (place_at n s.places) e d at) asks

none_asked : (o : Option Held) (version n : ℕ) (d : Due) (s : State) → None ≡ option_map (λ g. g.end) o → Asks (asking_on version n d o) s None s
none_asked None version n d s at = (refl, refl)
none_asked (Some h) version n d s at = let no : None ≡ Some h.end = at in absurd cc

pub asks_none : (n : ℕ) (d : Due) (s : State) → None ≡ option_map (λ g. g.end) (held_at n s) → Asks (asking_on s.version n d (held_at n s)) s None s
asks_none n d s at = none_asked (held_at n s) s.version n d s at

none_sent : (o : Option Message) (version n : ℕ) (x : EndId) (s : State) → None ≡ option_map (λ a. next.Ask a.call) (sending version n x o) → Asks (sending version n x o) s None s
none_sent None version n x s is = (refl, refl)
none_sent (Some m) version n x s is = absurd (no_some _ is)

pub sends_none : (n : ℕ) (x : EndId) (s : State) → None ≡ option_map (λ a. next.Ask a.call) (sending s.version n x (first_at n s)) → Asks (sending s.version n x (first_at n s)) s None s
sends_none n x s is = none_sent (first_at n s) s.version n x s is

one_sent : (o : Option Message) (version n : ℕ) (x : EndId) (c : Next) (s t : State) → Some c ≡ option_map (λ a. next.Ask a.call) (sending version n x o)
    → t ≡ record s { asked = states.Send n } → Asks (sending version n x o) s (Some c) t
one_sent None version n x c s t is now = absurd (no_some c (sym is))
one_sent (Some m) version n x c s t is now = (is, now)

pub sends_one : (n : ℕ) (x : EndId) (c : Next) (s t : State) → Some c ≡ option_map (λ a. next.Ask a.call) (sending s.version n x (first_at n s))
    → t ≡ record s { asked = states.Send n } → Asks (sending s.version n x (first_at n s)) s (Some c) t
sends_one n x c s t is now = one_sent (first_at n s) s.version n x c s t is now

-- ---- the first call that is due

destroyed_due : (xs : List EndId) (s t u : State) (c : Next) → s.doomed ≡ xs → DestroysOf xs s (Some c) t → IsDue (first_due xs s) s (Some c) t
destroyed_due [] s t u c is first = let no : Some c ≡ None = first.0 in absurd cc
destroyed_due (x ∷ xs) s t u c is first =
    (first.0, first.1 ∙ ap (λ (ys : List EndId). record s { asked = states.Destroy; doomed = tail ys }) (sym is))

pub due_destroy : (s u t : State) (c : Next) → u ≡ settles s → DestroysOf u.doomed u (Some c) t → IsFirstCall s (Some c) t
due_destroy s u t c is first = subst (λ (z : State). IsDue (first_due z.doomed z) z (Some c) t) is (destroyed_due u.doomed u t u c refl first)

none_doomed : (xs : List EndId) (s t : State) → DestroysOf xs s None t → (xs ≡ []) × (t ≡ s)
none_doomed [] s t first = (refl, first.1)
none_doomed (x ∷ xs) s t first = let no : None ≡ Some (next.Ask (call.Destroy x)) = first.0 in absurd cc

due_as : (o : Option Asking) (s t : State) (c : Option Next) → s.doomed ≡ [] → Asks o s c t → IsDue o s c t
due_as None s t c none asks = asks
due_as (Some a) s t c none asks =
    (asks.0, asks.1 ∙ ap (λ (xs : List EndId). record s { asked = a.asked; doomed = xs }) (none ∙ sym (ap tail none)))

due_found : (s u v t : State) (o : Option Asking) (c : Option Next) → u ≡ settles s → DestroysOf u.doomed u None v
    → first_due [] u ≡ o → Asks o v c t → IsFirstCall s c t
due_found s u v t o c is first found asks =
    let none = none_doomed u.doomed u v first in
    let now : Asks o u c t = subst (λ (z : State). Asks o z c t) none.1 asks in
    subst (λ (z : State). IsDue (first_due z.doomed z) z c t) is
    (subst (λ (xs : List EndId). IsDue (first_due xs u) u c t) (sym none.0)
    (subst (λ (x : Option Asking). IsDue x u c t) (sym found) (due_as o u t c none.0 now)))

pub due_end : (s u v t : State) (n : ℕ) (d : Due) (c : Option Next) → u ≡ settles s → IsFirst (room u) u.places (Some (n, d)) → DestroysOf u.doomed u None v
    → Asks (asking_on v.version n d (held_at n v)) v c t → IsFirstCall s c t
due_end s u v t n d c is found first asks =
    let none = none_doomed u.doomed u v first in
    due_found s u v t (asking_on u.version n d (held_at n u)) c is first (found u.version)
    (subst (λ (z : State). Asks (asking_on z.version n d (held_at n z)) v c t) none.1 asks)

pub due_none : (s u v : State) → u ≡ settles s → IsFirst (room u) u.places None → DestroysOf u.doomed u None v → IsFirstCall s None v
due_none s u v is found first = due_found s u v v None None is first (found u.version) (refl, refl)

pub sendable_now : (s u v : State) → u ≡ settles s → DestroysOf u.doomed u None v → AreSendable (settles s) → AreSendable v
sendable_now s u v is first may = subst AreSendable (sym ((none_doomed u.doomed u v first).1 ∙ is)) may

-- ---- where a call is due it is asked, and else the process goes on

asked_first : (o : Option Asking) (u t : State) (more : State → Did) (c : Next) → IsDue o u (Some c) t → Leads (asks_first o u more) c t
asked_first None u t more c is = let no : Some c ≡ None = is.0 in absurd cc
asked_first (Some a) u t more c is = record { next = sym (some_is c (next.Ask a.call) is.0); state = sym is.1 }

pub called : (s t : State) (more : State → Did) (c : Next) → IsFirstCall s (Some c) t → Leads (calls s more) c t
called s t more c is = asked_first (first_due (settles s).doomed (settles s)) (settles s) t more c is

none_first : (o : Option Asking) (u t : State) → IsDue o u None t → (o ≡ None) × (t ≡ u)
none_first None u t is = (refl, is.1)
none_first (Some a) u t is = let no : None ≡ Some (next.Ask a.call) = is.0 in absurd cc

none_due : (s t : State) → IsFirstCall s None t → (first_due (settles s).doomed (settles s) ≡ None) × (t ≡ settles s)
none_due s t is = none_first (first_due (settles s).doomed (settles s)) (settles s) t is

not_called : (s t : State) (more : State → Did) → IsFirstCall s None t → calls s more ≡ more t
not_called s t more is =
    let none = none_due s t is in
    ap (λ (o : Option Asking). asks_first o (settles s) more) none.0 ∙ ap more (sym none.1)

pub leads_on : (s t u : State) (more : State → Did) (n : Next) → IsFirstCall s None t → Leads (more t) n u → Leads (calls s more) n u
leads_on s t u more n is leads = subst (λ (d : Did). Leads d n u) (sym (not_called s t more is)) leads

pub may_then : (Then : State → Type 0) (s t : State) → IsFirstCall s None t → MayCall Then s → Then t
may_then Then s t is may = let none = none_due s t is in subst Then (sym none.1) (may.next none.0)

-- ---- no thread goes on

pub waits_on : (b : Bool) (s t : State) (n : Next) → b ≡ true → n ≡ next.Ask call.Wait → t ≡ record s { asked = states.Wait } → Leads (finishes b s) n t
waits_on b s t n is asked now = subst (λ (x : Bool). Leads (finishes x s) n t) (sym is) (record { next = sym asked; state = sym now })

pub exits_on : (b : Bool) (s t : State) (n : Next) → b ≡ false → n ≡ next.Ask call.Exit → t ≡ record s { asked = states.Exit; over = true } → Leads (finishes b s) n t
exits_on b s t n is asked now = subst (λ (x : Bool). Leads (finishes x s) n t) (sym is) (record { next = sym asked; state = sym now })

-- ---- stops of the machine

abbrev NotNew : machine.Action → Type 0
NotNew a = a ≡ kinds.New → ⊥

abbrev NotWrite : machine.Action → Type 0
NotWrite a = (text : List ℕ) → a ≡ kinds.Write text → ⊥

pub no_call : (a : machine.Action) → NotNew a → NotWrite a → IsNoCall (action_of a)
no_call kinds.New new write = new refl
no_call (kinds.Destroy link) new write = tt
no_call (kinds.Bind link entry) new write = tt
no_call (kinds.Unbind link entry) new write = tt
no_call (kinds.Connect link op values) new write = tt
no_call (kinds.Accept link op) new write = tt
no_call kinds.Close new write = tt
no_call (kinds.Reply values) new write = tt
no_call (kinds.Write text) new write = write text refl
no_call kinds.StopAll new write = tt

pub may_act : (a : Action) (thread : ℕ) (s : State) → IsNoCall a → MayAskFor thread a s → MayAct thread a s
may_act actions.New thread s none may = absurd none
may_act (actions.Destroy link) thread s none may = may
may_act (actions.Bind link entry) thread s none may = may
may_act (actions.Unbind link entry) thread s none may = may
may_act (actions.Connect link op vs) thread s none may = may
may_act (actions.Accept link op) thread s none may = may
may_act actions.Close thread s none may = may
may_act (actions.Reply vs) thread s none may = may
may_act (actions.Write bytes) thread s none may = absurd none
may_act actions.Await thread s none may = may
may_act actions.Stop thread s none may = may

there_as : {X Y : Type 0} (xs : List X) (ys : List Y) (i : ℕ) (y : Y) (d : X) → length xs ≡ length ys → slice_get ys i ≡ Some y → IsSome (slice_get xs i)
there_as xs ys i y d same at =
    let less : i < length ys = slice_get_within ys i y at in
    ap is_some (slice_get-get_or xs i d (omega arith))

blocks : (thread op : ℕ) (w : Wanted) (o : OpTypes) (s : State) → IsProcess s → IsAsking thread w s.turns → slice_get s.code.types.ops op ≡ Some o → MayBlock thread op s
blocks thread op w o s process asking there =
    record { fails = (w, asking, tt); there = there_as s.code.signatures s.code.types.ops op o [] process.ops there }

does_so : (thread : ℕ) (w : Wanted) (s : State) → IsAsking thread w s.turns → wanted_types s.code.types.ops w ≡ [] → Fits thread (Ok []) s
does_so thread w s asking none = (w, asking, subst (λ ts. ArePairs HasType ts []) (sym none) tt)

may_ask : (a : Action) (thread : ℕ) (s : State) → IsProcess s → IsStoppedFor (Act thread a) s → MayStopFor thread a s → MayAskFor thread a s
may_ask actions.New thread s process why may = tt
may_ask (actions.Destroy link) thread s process why may = record { fails = (needs.NoValue, why.0, tt); destroys = may }
may_ask (actions.Bind link entry) thread s process why may = does_so thread needs.NoValue s why.0 refl
may_ask (actions.Unbind link entry) thread s process why may = does_so thread needs.NoValue s why.0 refl
may_ask (actions.Connect link op vs) thread s process why may = blocks thread op (needs.Results op) why.1.0 s process why.0 why.1.1
may_ask (actions.Accept link op) thread s process why may = blocks thread op (needs.Arguments op) why.1.0 s process why.0 why.1.1
may_ask actions.Close thread s process why may = does_so thread needs.Closing s why.0 refl
may_ask (actions.Reply vs) thread s process why may = does_so thread needs.NoValue s why.0 refl
may_ask (actions.Write bytes) thread s process why may = tt
may_ask actions.Await thread s process why may = does_so thread needs.NoValue s why.0 refl
may_ask actions.Stop thread s process why may = tt

stops_for : (a : Action) (thread left : ℕ) (t : Turns) (s : State) (Then : ℕ → State → Type 0) → MayStop (Stops (Act thread a) left t) s Then → MayStopFor thread a (record s { turns = t })
stops_for actions.New thread left t s Then may = tt
stops_for (actions.Destroy link) thread left t s Then may = may.0
stops_for (actions.Bind link entry) thread left t s Then may = may.0
stops_for (actions.Unbind link entry) thread left t s Then may = may.0
stops_for (actions.Connect link op vs) thread left t s Then may = may.0
stops_for (actions.Accept link op) thread left t s Then may = may.0
stops_for actions.Close thread left t s Then may = may.0
stops_for (actions.Reply vs) thread left t s Then may = may.0
stops_for (actions.Write bytes) thread left t s Then may = tt
stops_for actions.Await thread left t s Then may = may.0
stops_for actions.Stop thread left t s Then may = may.0

comes_to : (stop : Stop) (left : ℕ) (t : Turns) (s : State) (Then : ℕ → State → Type 0) → IsProcess (record s { turns = t }) → IsStoppedFor stop (record s { turns = t })
    → MayStop (Stops stop left t) s Then → MayComeTo stop (record s { turns = t })
comes_to Spent left t s Then process why may = tt
comes_to (Act thread a) left t s Then process why may = may_ask a thread (record s { turns = t }) process why (stops_for a thread left t s Then may)
comes_to AllBlocked left t s Then process why may = may
comes_to Finished left t s Then process why may = may

pub may_come_to : (stop : Stop) (left : ℕ) (s u : State) (b : Beat) (Then : ℕ → State → Type 0) → u ≡ record s { turns = u.turns } → b ≡ Stops stop left u.turns
    → IsProcess u → IsStoppedFor stop u → MayStop b s Then → MayComeTo stop u
may_come_to stop left s u b Then same ran process why may =
    subst (MayComeTo stop) (sym same)
    (comes_to stop left u.turns s Then (subst IsProcess same process) (subst (IsStoppedFor stop) same why) (subst (λ (x : Beat). MayStop x s Then) ran may))

goes_so : (a : Action) (thread left : ℕ) (t : Turns) (s : State) (Then : ℕ → State → Type 0) → IsNoCall a → MayStop (Stops (Act thread a) left t) s Then
    → Then left (acts thread a (record s { turns = t })).state
goes_so actions.New thread left t s Then none may = absurd none
goes_so (actions.Destroy link) thread left t s Then none may = may.1
goes_so (actions.Bind link entry) thread left t s Then none may = may.1
goes_so (actions.Unbind link entry) thread left t s Then none may = may.1
goes_so (actions.Connect link op vs) thread left t s Then none may = may.1
goes_so (actions.Accept link op) thread left t s Then none may = may.1
goes_so actions.Close thread left t s Then none may = may.1
goes_so (actions.Reply vs) thread left t s Then none may = may.1
goes_so (actions.Write bytes) thread left t s Then none may = absurd none
goes_so actions.Await thread left t s Then none may = may.1
goes_so actions.Stop thread left t s Then none may = may.1

acted_so : (a : Action) (thread left : ℕ) (t : Turns) (s : State) (more : ℕ → Done → Did) → IsNoCall a
    → stopped (Stops (Act thread a) left t) s more ≡ more left (acts thread a (record s { turns = t }))
acted_so actions.New thread left t s more none = absurd none
acted_so (actions.Destroy link) thread left t s more none = refl
acted_so (actions.Bind link entry) thread left t s more none = refl
acted_so (actions.Unbind link entry) thread left t s more none = refl
acted_so (actions.Connect link op vs) thread left t s more none = refl
acted_so (actions.Accept link op) thread left t s more none = refl
acted_so actions.Close thread left t s more none = refl
acted_so (actions.Reply vs) thread left t s more none = refl
acted_so (actions.Write bytes) thread left t s more none = absurd none
acted_so actions.Await thread left t s more none = refl
acted_so actions.Stop thread left t s more none = refl

-- the turns of a state do not matter where the machine stopped with others
turns_as : (stop : Stop) (left : ℕ) (t : Turns) (s : State) (more : ℕ → Done → Did) → stopped (Stops stop left t) s more ≡ stopped (Stops stop left t) (record s { turns = t }) more
turns_as Spent left t s more = refl
turns_as AllBlocked left t s more = refl
turns_as Finished left t s more = refl
turns_as (Act thread actions.New) left t s more = refl
turns_as (Act thread (actions.Write bytes)) left t s more = refl
turns_as (Act thread (actions.Destroy link)) left t s more = refl
turns_as (Act thread (actions.Bind link entry)) left t s more = refl
turns_as (Act thread (actions.Unbind link entry)) left t s more = refl
turns_as (Act thread (actions.Connect link op vs)) left t s more = refl
turns_as (Act thread (actions.Accept link op)) left t s more = refl
turns_as (Act thread actions.Close) left t s more = refl
turns_as (Act thread (actions.Reply vs)) left t s more = refl
turns_as (Act thread actions.Await) left t s more = refl
turns_as (Act thread actions.Stop) left t s more = refl

stopped_as : (stop : Stop) (left : ℕ) (s u : State) (b : Beat) (more : ℕ → Done → Did) → u ≡ record s { turns = u.turns } → b ≡ Stops stop left u.turns
    → stopped b s more ≡ stopped (Stops stop left u.turns) u more
stopped_as stop left s u b more same ran =
    ap (λ (x : Beat). stopped x s more) ran ∙ turns_as stop left u.turns s more ∙ ap (λ (z : State). stopped (Stops stop left u.turns) z more) (sym same)

-- ---- rounds

pub round_called : (k fuel : ℕ) (s t : State) (c : Next) → IsFirstCall s (Some c) t → Leads (goes_on k fuel s) c t
round_called zero fuel s t c is = called s t (λ z. unless_over z.over z pauses) c is
round_called (suc k) fuel s t c is =
    called s t (λ z. unless_over z.over z (λ u. stopped (machine_run fuel u) u (λ left d. with_deeds d.deeds (goes_on k left d.state)))) c is

over_leads : (b : Bool) (s t : State) (more : State → Did) (n : Next) → b ≡ true → n ≡ next.Ask call.Exit → t ≡ record s { asked = states.Exit; over = true }
    → Leads (unless_over b s more) n t
over_leads b s t more n is asked now = subst (λ (x : Bool). Leads (unless_over x s more) n t) (sym is) (record { next = sym asked; state = sym now })

pub round_over : (k fuel : ℕ) (s u t : State) (n : Next) → IsFirstCall s None u → u.over ≡ true → n ≡ next.Ask call.Exit → t ≡ record u { asked = states.Exit; over = true }
    → Leads (goes_on k fuel s) n t
round_over zero fuel s u t n is over asked now = leads_on s u t (λ z. unless_over z.over z pauses) n is (over_leads u.over u t pauses n over asked now)
round_over (suc k) fuel s u t n is over asked now =
    leads_on s u t (λ z. unless_over z.over z (λ u. stopped (machine_run fuel u) u (λ left d. with_deeds d.deeds (goes_on k left d.state)))) n is
    (over_leads u.over u t (λ u. stopped (machine_run fuel u) u (λ left d. with_deeds d.deeds (goes_on k left d.state))) n over asked now)

not_over : (b : Bool) (s : State) (more : State → Did) → b ≡ false → unless_over b s more ≡ more s
not_over b s more is = ap (λ (x : Bool). unless_over x s more) is

pub round_pauses : (k fuel : ℕ) (s u t : State) (n : Next) → k ≡ 0 → IsFirstCall s None u → u.over ≡ false → n ≡ next.Pause → t ≡ record u { asked = states.Nothing }
    → Leads (goes_on k fuel s) n t
round_pauses k fuel s u t n none is over paused now =
    subst (λ (m : ℕ). Leads (goes_on m fuel s) n t) (sym none)
    (leads_on s u t (λ z. unless_over z.over z pauses) n is
    (subst (λ (d : Did). Leads d n t) (sym (not_over u.over u pauses over)) (record { next = sym paused; state = sym now })))

may_stop_so : (k fuel : ℕ) (s u : State) → IsFirstCall s None u → u.over ≡ false → MayGoOn (suc k) fuel s → MayStop (machine_run fuel u) u (MayGoOn k)
may_stop_so k fuel s u is over may = may_then (λ t. t.over ≡ false → MayStop (machine_run fuel t) t (MayGoOn k)) s u is may over

-- one action less
record IsMore (k : ℕ) : Type 0 where
  fewer : ℕ
  is : k ≡ suc fewer

more_of : (k : ℕ) → (k ≡ 0 → ⊥) → IsMore k
more_of zero some = absurd (some refl)
more_of (suc k) some = record { fewer = k; is = refl }

pub may_stop : (k fuel : ℕ) (s u v : State) (stop : Stop) (left : ℕ) → (k ≡ 0 → ⊥) → IsFirstCall s None u → u.over ≡ false → v ≡ record u { turns = v.turns }
    → machine_run fuel u ≡ Stops stop left v.turns → IsProcess v → IsStoppedFor stop v → MayGoOn k fuel s → MayComeTo stop v
may_stop k fuel s u v stop left some is over same ran process why may =
    let m = more_of k some in
    may_come_to stop left u v (machine_run fuel u) (MayGoOn m.fewer) same ran process why
    (may_stop_so m.fewer fuel s u is over (subst (λ (n : ℕ). MayGoOn n fuel s) m.is may))

ran_on : (k fuel left : ℕ) (s u v : State) (stop : Stop) → IsFirstCall s None u → u.over ≡ false → v ≡ record u { turns = v.turns }
    → machine_run fuel u ≡ Stops stop left v.turns
    → goes_on (suc k) fuel s ≡ stopped (Stops stop left v.turns) v (λ left d. with_deeds d.deeds (goes_on k left d.state))
ran_on k fuel left s u v stop is over same ran =
    not_called s u (λ z. unless_over z.over z (λ u. stopped (machine_run fuel u) u (λ left d. with_deeds d.deeds (goes_on k left d.state)))) is
    ∙ not_over u.over u (λ u. stopped (machine_run fuel u) u (λ left d. with_deeds d.deeds (goes_on k left d.state))) over
    ∙ stopped_as stop left u v (machine_run fuel u) (λ left d. with_deeds d.deeds (goes_on k left d.state)) same ran

acts_as : (stop : Stop) (left k : ℕ) (v w : State) (a : ActsOn stop v w)
    → stopped (Stops stop left v.turns) v (λ left d. with_deeds d.deeds (goes_on k left d.state))
    ≡ with_deeds (acts a.thread a.action v).deeds (goes_on k left (acts a.thread a.action v).state)
acts_as stop left k v w a =
    ap (λ (x : Stop). stopped (Stops x left v.turns) v (λ left d. with_deeds d.deeds (goes_on k left d.state))) a.is
    ∙ acted_so a.action a.thread left v.turns v (λ left d. with_deeds d.deeds (goes_on k left d.state)) a.no_call

leads_so : (k left : ℕ) (d : Did) (x : Done) (w u : State) (n : Next) → d ≡ with_deeds x.deeds (goes_on k left x.state) → w ≡ x.state → Leads (goes_on k left w) n u → Leads d n u
leads_so k left d x w u n is now leads =
    let here : Leads (goes_on k left x.state) n u = subst (λ (z : State). Leads (goes_on k left z) n u) now leads in
    record { next = ap (λ (e : Did). e.next) is ∙ here.next; state = ap (λ (e : Did). e.state) is ∙ here.state }

may_on : (stop : Stop) (left k : ℕ) (u v w : State) (b : Beat) (a : ActsOn stop v w) → v ≡ record u { turns = v.turns } → b ≡ Stops stop left v.turns
    → MayStop b u (MayGoOn k) → MayGoOn k left w
may_on stop left k u v w b a same ran may =
    let here : MayStop (Stops (Act a.thread a.action) left v.turns) u (MayGoOn k) =
    subst (λ (x : Beat). MayStop x u (MayGoOn k)) (ran ∙ ap (λ (x : Stop). Stops x left v.turns) a.is) may in
    subst (MayGoOn k left) (sym (a.acted ∙ ap (λ (z : State). (acts a.thread a.action z).state) same))
    (goes_so a.action a.thread left v.turns u (MayGoOn k) a.no_call here)

round_some : (k fuel left : ℕ) (s u v w : State) (stop : Stop) (o : Option Next) → IsMore k → IsFirstCall s None u → u.over ≡ false → v ≡ record u { turns = v.turns }
    → machine_run fuel u ≡ Stops stop left v.turns → MayGoOn k fuel s → StopsSo stop v o w → IsRound k fuel s o left w
round_some k fuel left s u v w stop (Some n) m is over same ran may so =
    subst (λ (i : ℕ). Leads (goes_on i fuel s) n w) (sym m.is)
    (subst (λ (d : Did). Leads d n w) (sym (ran_on m.fewer fuel left s u v stop is over same ran)) (so left (λ left d. with_deeds d.deeds (goes_on m.fewer left d.state))))
round_some k fuel left s u v w stop None m is over same ran may so =
    record {
      fewer = m.fewer;
      one_less = m.is;
      may = may_on stop left m.fewer u v w (machine_run fuel u) so same ran (may_stop_so m.fewer fuel s u is over (subst (λ (n : ℕ). MayGoOn n fuel s) m.is may));
      leads = λ n z leads. subst (λ (i : ℕ). Leads (goes_on i fuel s) n z) (sym m.is)
          (leads_so m.fewer left (goes_on (suc m.fewer) fuel s) (acts so.thread so.action v) w z n
          (ran_on m.fewer fuel left s u v stop is over same ran ∙ acts_as stop left m.fewer v w so) so.acted leads);
    }

pub round_stopped : (k fuel left : ℕ) (s u v w : State) (stop : Stop) (o : Option Next) → (k ≡ 0 → ⊥) → IsFirstCall s None u → u.over ≡ false → v ≡ record u { turns = v.turns }
    → machine_run fuel u ≡ Stops stop left v.turns → MayGoOn k fuel s → StopsSo stop v o w → IsRound k fuel s o left w
round_stopped k fuel left s u v w stop o some is over same ran may so = round_some k fuel left s u v w stop o (more_of k some) is over same ran may so

pub sendable_of : (k fuel : ℕ) (s : State) → MayGoOn k fuel s → AreSendable (settles s)
sendable_of zero fuel s may = may.sendable
sendable_of (suc k) fuel s may = may.sendable

-- ---- a slice

-- where the process goes on from here, the slice of this state leads
pub record IsSoFar (start : State) (k fuel : ℕ) (s : State) : Type 0 where
  pub process : IsProcess s
  pub may : MayGoOn k fuel s
  pub leads : (n : Next) (t : State) → Leads (goes_on k fuel s) n t → Leads (slice start) n t

pub starts : (k : ℕ) (s : State) → k ≡ most_actions s → IsProcess s → MayGoOn (most_actions s) most_instructions s → IsSoFar s k most_instructions s
starts k s is process may =
    record {
      process = process;
      may = subst (λ (n : ℕ). MayGoOn n most_instructions s) (sym is) may;
      leads = λ n t leads. subst (λ (m : ℕ). Leads (goes_on m most_instructions s) n t) is leads;
    }

pub goes_far : (start : State) (k fuel left : ℕ) (s t : State) → IsSoFar start k fuel s → IsRound k fuel s None left t → IsProcess t → IsSoFar start (k - 1) left t
goes_far start k fuel left s t far round process =
    let less : k - 1 ≡ round.fewer = let one : k ≡ suc round.fewer = round.one_less in omega (arith, one) in
    record {
      process = process;
      may = subst (λ (n : ℕ). MayGoOn n left t) (sym less) round.may;
      leads = λ n u leads. far.leads n u (round.leads n u (subst (λ (m : ℕ). Leads (goes_on m left t) n u) less leads));
    }

pub goes_over : (start : State) (k fuel left : ℕ) (s t : State) (n : Next) → IsSoFar start k fuel s → IsRound k fuel s (Some n) left t → Leads (slice start) n t
goes_over start k fuel left s t n far round = far.leads n t round

pub is_more : (k fuel left : ℕ) (s t : State) → IsRound k fuel s None left t → 1 ≤ k
is_more k fuel left s t round = let one : k ≡ suc round.fewer = round.one_less in omega (arith, one)

-- ---- a step

pub exit_so : (a : states.Asked) → is_exit a ≡ true → a ≡ states.Exit
exit_so states.Exit is = refl
exit_so states.Nothing is = absurd (true≢false (sym is))
exit_so (states.Make n) is = absurd (true≢false (sym is))
exit_so (states.Print n) is = absurd (true≢false (sym is))
exit_so states.Destroy is = absurd (true≢false (sym is))
exit_so (states.Send n) is = absurd (true≢false (sym is))
exit_so (states.Receive n) is = absurd (true≢false (sym is))
exit_so (states.Cancel n) is = absurd (true≢false (sym is))
exit_so states.Wait is = absurd (true≢false (sym is))

abbrev told : Did → Next × State
told d = (d.next, d.state)

ended_by : (a : states.Asked) (given : Option Answer) (s : State) → a ≡ states.Exit → ◌≡◌ {A = Next × State} (next.Ended, s) (told (proceeds a (answered a given s)))
ended_by a given s is = ap (λ (b : states.Asked). told (proceeds b (answered b given s))) (sym is)

pub step_ended : (given : Option Answer) (s : State) → is_exit s.asked ≡ true → ◌≡◌ {A = Next × State} (next.Ended, s) (step s given)
step_ended given s is = ended_by s.asked given s (exit_so s.asked is)

abbrev pair : Next → State → Next × State
pair n t = (n, t)

pair_as : {d : Did} {n : Next} {t : State} → Leads d n t → ◌≡◌ {A = Next × State} (n, t) (d.next, d.state)
pair_as {d} {n} {t} leads = ap₂ pair (sym leads.next) (sym leads.state)

proceed_by : (a : states.Asked) (d : Done) (n : Next) (t : State) → is_exit a ≡ false → Leads (slice d.state) n t
    → ◌≡◌ {A = Next × State} (n, t) (told (proceeds a d))
proceed_by states.Exit d n t is leads = absurd (true≢false is)
proceed_by states.Nothing d n t is leads = pair_as leads
proceed_by (states.Make i) d n t is leads = pair_as leads
proceed_by (states.Print i) d n t is leads = pair_as leads
proceed_by states.Destroy d n t is leads = pair_as leads
proceed_by (states.Send i) d n t is leads = pair_as leads
proceed_by (states.Receive i) d n t is leads = pair_as leads
proceed_by (states.Cancel i) d n t is leads = pair_as leads
proceed_by states.Wait d n t is leads = pair_as leads

pub step_goes_on : (given : Option Answer) (s t u : State) (n : Next) → is_exit s.asked ≡ false → t ≡ (answered s.asked given s).state → Leads (slice t) n u → ◌≡◌ {A = Next × State} (n, u) (step s given)
step_goes_on given s t u n is heard leads =
    proceed_by s.asked (answered s.asked given s) n u is (subst (λ (z : State). Leads (slice z) n u) heard leads)

may_by : (a : states.Asked) (s : State) → is_exit a ≡ false → MayProceed a s → MayGoOn (most_actions s) most_instructions s
may_by states.Exit s is may = absurd (true≢false is)
may_by states.Nothing s is may = may
may_by (states.Make i) s is may = may
may_by (states.Print i) s is may = may
may_by states.Destroy s is may = may
may_by (states.Send i) s is may = may
may_by (states.Receive i) s is may = may
may_by (states.Cancel i) s is may = may
may_by states.Wait s is may = may

pub may_slice : (given : Option Answer) (s t : State) → is_exit s.asked ≡ false → t ≡ (answered s.asked given s).state → MayStep s given → MayGoOn (most_actions t) most_instructions t
may_slice given s t is heard may =
    subst (λ (z : State). MayGoOn (most_actions z) most_instructions z) (sym heard) (may_by s.asked (answered s.asked given s).state is may.next)
