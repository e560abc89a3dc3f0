-- A step of a process gets eight ends at most, and none without an answer.
use Rattle.std.proofs.Common.{arith, ◌≡◌, ◌≤◌, ℕ, zero, suc, ◌+◌, eqb-true, Bool, true, false, if◌then◌else◌, List, [], ◌∷◌, ◌++◌, length, take, Option, Some, None, Result, Ok, Err, slice_get, refl, ap, ◌∙◌}
use Rattle.std.specs.Prelude.{◌==◌, ◌-◌, min}
use Rattle.std.specs.List.{list_any}
use Rattle.std.proofs.lemmas.List.{length-append, length-take}
use Rattle.charlotte_calls.specs.Ranges.{AreBytes}
use Rattle.charlotte_calls.specs.declared.calls.Answer.{Answer}
use Rattle.charlotte_calls.specs.declared.calls.Answer.TheVariants as answer
use Rattle.charlotte_calls.specs.declared.calls.Cause.TheVariants as causes
use Rattle.charlotte_calls.specs.declared.calls.Report.{Report}
use Rattle.charlotte_calls.specs.declared.names.EndId.{EndId}
use Rattle.charlotte_calls.specs.declared.names.Outcome.{Outcome}
use Rattle.charlotte_calls.specs.declared.names.Outcome.TheVariants as outcomes
use Rattle.charlotte_calls.specs.declared.names.Way.{Way}
use Rattle.charlotte_calls.specs.declared.names.Way.TheVariants.{Inward, Outward}
use Rattle.typing_rules.specs.declared.exception.Exception.{Exception}
use Rattle.typing_rules.specs.declared.exception.Exception.TheVariants as exceptions
use Rattle.code_shapes.specs.Shapes.{PartTypes}
use Rattle.compiler_runnable.specs.Runnable.{arguments_of}
use Rattle.lynx_meaning.specs.Courses.{Action}
use Rattle.lynx_meaning.specs.Courses as actions
use Rattle.lynx_meaning.specs.Needs.{OpTypes, types_of}
use Rattle.lynx_meaning.specs.Values.{Value}
use Rattle.lynx_packets.specs.declared.packet.RtPacket.{RtPacket}
use Rattle.lynx_packets.specs.declared.packet.RtPacket.TheVariants as packets
use Rattle.lynx_packets.specs.declared.value.RtValue.{RtValue}
use Rattle.lynx_packets.specs.declared.value.RtValue.TheVariants as packed
use Rattle.typing_rules.specs.Signatures.{links_among}
use Rattle.lynx_packets.specs.Packets.{packet_of}
use Rattle.lynx_packets.specs.Spelling.{links_of}
use Rattle.machine_turns.specs.Turns.{Act, AllBlocked, Beat, Finished, RunsOn, Spent, Stops}
use Rattle.machine_turns.specs.Turns as turns
use Rattle.end_protocol.specs.declared.falling.Fallen.{Fallen}
use Rattle.end_protocol.specs.declared.hearing.Heard.{Heard}
use Rattle.end_protocol.specs.declared.hearing.Heard.TheVariants as heard
use Rattle.end_protocol.specs.declared.kept.Kept.{Kept}
use Rattle.end_protocol.specs.declared.kept.Response.{Response}
use Rattle.end_protocol.specs.declared.kept.Taker.{Taker}
use Rattle.end_protocol.specs.declared.kept.Taker.TheVariants as takers
use Rattle.end_protocol.specs.declared.kept.Wanted.{Wanted}
use Rattle.end_protocol.specs.declared.messages.Connect.{Connect}
use Rattle.end_protocol.specs.Asking.{later}
use Rattle.end_protocol.specs.Falling.{dies, fallen, held_again, raised}
use Rattle.end_protocol.specs.Going.{cancel_late, receive_over, receives, returns, send_over, sent}
use Rattle.end_protocol.specs.Hearing.{accepted, gone_on, hears, is_readable, is_whole, late_request, let_come, read, reply_further, reply_to, request_further, request_for, sent_back, silently}
use Rattle.end_protocol.specs.Kept.{fresh}
use Rattle.end_protocol.specs.Wanting.{taker}
use Rattle.process_run.specs.States.{Asked, Done, Gone, Held, Holding, Keeps, Module, Open, Place, State}
use Rattle.process_run.specs.States as process
use Rattle.process_run.specs.Actions.{acts, answers_on, closes, fails, on_held, on_live, opened_in, replies, replies_on, served, unless, with_signature}
use Rattle.process_run.specs.Actions as acting
use Rattle.process_run.specs.Deaths.{destroys, dies_at, falls, raises, raises_in}
use Rattle.process_run.specs.Ends.{get_all, gets_one, held_at, hold_all, keeps, let_go, link_of, links_in, number_of, place_at, room, unpacked, values_of, with_holding}
use Rattle.process_run.specs.Reports.{answered, cancelled_so, comes_of, free_from, held_if, holding_of, listens, on_end, receives_so, reported, reported_in, reported_off, reported_on, returns_to, sent_so, spawns, takes}
use Rattle.process_run.specs.Runs.{Asking, Did, asks_first, calls, did, finishes, first_due, goes_on, is_in_use, machine_run, most_actions, most_instructions, pauses, proceeds, settles, slice, stopped, unless_over, waits, with_deeds}
use Rattle.process_sound.specs.Hearing.{IsHeardFor, IsTakenFor}
use Rattle.process_sound.specs.Modules.{IsModule}
use Rattle.process_sound.specs.Packets.{Unpack}
use Rattle.process_sound.specs.Processes.{IsGoing, IsRunning}
use Rattle.process_sound.specs.Told.{IsTold}
use Rattle.process_sound.proofs.Held.{held_holding}
use Rattle.process_sound.proofs.Ops.{op_typed}
use Rattle.process_sound.proofs.Reports.{listens_so}
use Rattle.process_sound.proofs.Values.{all_go}
use Rattle.process_changes.proofs.Held.{many_settled, many_with}

-- ---- places that are not got

many_again : (xs : List EndId) (ps : List Place) → length (hold_all xs ps) ≡ length ps
many_again [] ps = refl
many_again (x ∷ xs) ps = many_again xs (with_holding (number_of x ps) (Keeps fresh) ps) ∙ many_with (number_of x ps) (Keeps fresh) ps

many_let : (ns : List ℕ) (ps : List Place) → length (let_go ns ps) ≡ length ps
many_let [] ps = refl
many_let (n ∷ ns) ps = many_let ns (with_holding n (Gone false) ps) ∙ many_with n (Gone false) ps

many_raised : (ns : List ℕ) (x : Exception) (s : State) → length (raises_in ns x s).places ≡ length s.places
many_raised [] x s = refl
many_raised (n ∷ ns) x s = many_raised ns x (raises n x s)

many_falls : (f : Fallen) (s : State) → length (falls f s).places ≡ length s.places
many_falls f s = many_raised (raised f) exceptions.DeadLink _ ∙ many_again (held_again f) s.places

many_dies : (h : Held) (s : State) → length (dies_at h s).places ≡ length s.places
unfolding dies_at
many_dies h s = many_falls (fallen h.kept) _ ∙ many_with h.number (Keeps (dies h.kept)) s.places

many_destroys : (h : Held) (s : State) → length (destroys h s).places ≡ length s.places
unfolding destroys
many_destroys h s = many_falls (fallen h.kept) _ ∙ many_with h.number (Gone (returns h.kept.sending)) s.places

-- ---- actions

abbrev Many : State → Done → Type 0
Many s d = length d.state.places ≡ length s.places

held_many : (thread : ℕ) (o : Option Held) (s : State) (next : Held → Done) → ((h : Held) → Many s (next h)) → Many s (on_held thread o s next)
held_many thread None s next each = refl
held_many thread (Some h) s next each = each h

live_many : (b : Bool) (thread : ℕ) (s : State) (d : Done) → Many s d → Many s (on_live b thread s d)
live_many true thread s d many = refl
live_many false thread s d many = many

unless_many : (thread : ℕ) (o : Option Exception) (s : State) (d : Done) → Many s d → Many s (unless thread o s d)
unless_many thread None s d many = many
unless_many thread (Some x) s d many = refl

signed_many : (thread : ℕ) (o : Option (List ℕ)) (s : State) (next : List ℕ → Done) → ((signature : List ℕ) → Many s (next signature)) → Many s (with_signature thread o s next)
signed_many thread None s next each = refl
signed_many thread (Some signature) s next each = each signature

if_many : (b : Bool) (s : State) (d e : Done) → Many s d → Many s e → Many s (if b then d else e)
if_many true s d e one two = one
if_many false s d e one two = two

reply_many : (thread : ℕ) (vs : List Value) (os : List Open) (s : State) → Many s (replies thread vs os s)
reply_many thread vs [] s = refl
reply_many thread vs (o ∷ os) s = if_many o.answered s _ _ refl (by (held_at o.on s))
  where
    by : (l : Option Held) → Many s (replies_on thread vs o os l s)
    by None = refl
    by (Some h) =
        live_many h.kept.dead thread s _
        (unless_many thread (acting.fault_among h [] (links_in vs) s) s _ (many_with h.number _ (let_go (links_in vs) s.places) ∙ many_let (links_in vs) s.places))

close_many : (thread : ℕ) (os : List Open) (s : State) → Many s (closes thread os s)
close_many thread [] s = refl
close_many thread (o ∷ os) s = by (held_at o.on s)
  where
    by : (l : Option Held) → Many s (fails o l s)
    by None = refl
    by (Some h) = if_many o.answered s _ _ refl (many_with h.number _ s.places)

acts_many : (n : ℕ) (a : Action) (s : State) → Many s (acts n a s)
acts_many n actions.New s = refl
acts_many n (actions.Write bytes) s = refl
acts_many n (actions.Destroy link) s = held_many n (held_at (link_of link) s) s _ (λ h. many_destroys h s)
acts_many n (actions.Bind link entry) s =
    signed_many n (served s.code entry) s _ (λ signature. held_many n (held_at (link_of link) s) s _ (λ h. live_many h.kept.dead n s _ (many_with h.number _ s.places)))
acts_many n (actions.Unbind link entry) s =
    signed_many n (served s.code entry) s _ (λ signature. held_many n (held_at (link_of link) s) s _ (λ h. many_with h.number _ s.places))
acts_many n (actions.Connect link op vs) s =
    signed_many n (slice_get s.code.signatures op) s _
    (λ signature. held_many n (held_at (link_of link) s) s _
    (λ h. live_many h.kept.dead n s _
    (unless_many n (acting.fault_among h [] (links_in vs) s) s _ (many_with h.number _ (let_go (links_in vs) s.places) ∙ many_let (links_in vs) s.places))))
acts_many n (actions.Accept link op) s =
    signed_many n (slice_get s.code.signatures op) s _ (λ signature. held_many n (held_at (link_of link) s) s _ (λ h. live_many h.kept.dead n s _ (many_with h.number _ s.places)))
acts_many n actions.Close s = close_many n (opened_in n s) s
acts_many n (actions.Reply vs) s = reply_many n vs (opened_in n s) s
acts_many n actions.Await s = refl
acts_many n actions.Stop s = refl

-- ---- a slice

abbrev Stays : State → Did → Type 0
Stays s d = length d.state.places ≡ length s.places

settle_many : (s : State) → length (settles s).places ≡ length s.places
unfolding settles
settle_many s = many_settled (room s) s.places

calls_many : (s : State) (next : State → Did) → ((t : State) → Stays t (next t)) → Stays s (calls s next)
calls_many s next each = by (settles s) (first_due (settles s).doomed (settles s)) ∙ settle_many s
  where
    by : (t : State) (o : Option Asking) → Stays t (asks_first o t next)
    by t None = each t
    by t (Some a) = refl

finish_many : (b : Bool) (s : State) → Stays s (finishes b s)
finish_many true s = refl
finish_many false s = refl

module _ (s : State) (next : ℕ → Done → Did) (each : (left : ℕ) (d : Done) → Many s d → Stays s (next left d)) where
  stopped_many : (b : Beat) → Stays s (stopped b s next)
  stopped_many (Stops (Act n actions.New) left t) = refl
  stopped_many (Stops (Act n (actions.Write bytes)) left t) = refl
  stopped_many (Stops (Act n (actions.Destroy link)) left t) = each left _ (acts_many n (actions.Destroy link) (record s { turns = t }))
  stopped_many (Stops (Act n (actions.Bind link entry)) left t) = each left _ (acts_many n (actions.Bind link entry) (record s { turns = t }))
  stopped_many (Stops (Act n (actions.Unbind link entry)) left t) = each left _ (acts_many n (actions.Unbind link entry) (record s { turns = t }))
  stopped_many (Stops (Act n (actions.Connect link op vs)) left t) = each left _ (acts_many n (actions.Connect link op vs) (record s { turns = t }))
  stopped_many (Stops (Act n (actions.Accept link op)) left t) = each left _ (acts_many n (actions.Accept link op) (record s { turns = t }))
  stopped_many (Stops (Act n actions.Close) left t) = each left _ (acts_many n actions.Close (record s { turns = t }))
  stopped_many (Stops (Act n (actions.Reply vs)) left t) = each left _ (acts_many n (actions.Reply vs) (record s { turns = t }))
  stopped_many (Stops (Act n actions.Await) left t) = each left _ (acts_many n actions.Await (record s { turns = t }))
  stopped_many (Stops (Act n actions.Stop) left t) = each left _ (acts_many n actions.Stop (record s { turns = t }))
  stopped_many (Stops AllBlocked left t) = calls_many (record s { turns = t }) waits (λ u. refl)
  stopped_many (Stops Finished left t) =
      calls_many (record s { turns = t }) (λ now. finishes (list_any (λ p. is_in_use p.holding) now.places) now) (λ u. finish_many (list_any (λ p. is_in_use p.holding) u.places) u)
  stopped_many (Stops Spent left t) = refl
  stopped_many (RunsOn left t) = refl
  stopped_many turns.Broken = refl

over_many : (b : Bool) (t : State) (next : State → Did) → Stays t (next t) → Stays t (unless_over b t next)
over_many true t next stays = refl
over_many false t next stays = stays

going_many : (k fuel : ℕ) (s : State) → Stays s (goes_on k fuel s)
going_many zero fuel s = calls_many s _ (λ t. over_many t.over t pauses refl)
going_many (suc k) fuel s =
    calls_many s _
    (λ t. over_many t.over t (λ u. stopped (machine_run fuel u) u (λ left d. with_deeds d.deeds (goes_on k left d.state)))
    (stopped_many t (λ left d. with_deeds d.deeds (goes_on k left d.state)) (λ left d many. going_many k left d.state ∙ many) (machine_run fuel t)))

slice_many : (s : State) → Stays s (slice s)
slice_many s = going_many (most_actions s) most_instructions s

-- ---- ends that are got

one_got : (x : EndId) (ps : List Place) → length (gets_one x ps) ≤ length ps + 1
one_got x ps =
    let got : Place = record { end = x; holding = Keeps fresh } in
    let front : List Place = take (later (length ps) - 1) ps in
    let all : length (gets_one x ps) ≡ length front + 1 = length-append front (got ∷ []) in
    let some : length front ≡ min (min (length ps + 1) 4294967295 - 1) (length ps) = length-take (later (length ps) - 1) ps in
    omega (arith, all, some)

all_got : (xs : List EndId) (ps : List Place) → length (get_all xs ps) ≤ length ps + length xs
all_got [] ps = omega arith
all_got (x ∷ xs) ps =
    let rest : length (get_all xs (gets_one x ps)) ≤ length (gets_one x ps) + length xs = all_got xs (gets_one x ps) in
    let one : length (gets_one x ps) ≤ length ps + 1 = one_got x ps in
    omega (arith, rest, one)

-- ---- how many ends come with a request or reply

values_back : (n : ℕ) (vs : List RtValue) → values_of (unpacked n vs) ≡ vs
values_back n [] = refl
values_back n (packed.Int i ∷ vs) = ap (λ (l : List RtValue). packed.Int i ∷ l) (values_back n vs)
values_back n (packed.Bool b ∷ vs) = ap (λ (l : List RtValue). packed.Bool b ∷ l) (values_back n vs)
values_back n (packed.Text bytes ∷ vs) = ap (λ (l : List RtValue). packed.Text bytes ∷ l) (values_back n vs)
values_back n (packed.Row ns ∷ vs) = ap (λ (l : List RtValue). packed.Row ns ∷ l) (values_back n vs)
values_back n (packed.Link ∷ vs) = ap (λ (l : List RtValue). packed.Link ∷ l) (values_back (later n) vs)

module _ (m : Module) (is : IsModule m) where
  few_arguments : (op : ℕ) (vs : List RtValue) → Unpack (types_of (λ o. o.arguments) (slice_get m.types.ops op)) vs → links_of vs ≤ 8
  few_arguments op vs typed = by (slice_get m.types.ops op) refl typed
    where
      by : (o : Option OpTypes) → slice_get m.types.ops op ≡ o → Unpack (types_of (λ o. o.arguments) o) vs → links_of vs ≤ 8
      by None e typed =
          let links = (all_go [] (unpacked 0 vs) (typed 0)).links in
          let same : links_of (values_of (unpacked 0 vs)) ≡ links_of vs = ap links_of (values_back 0 vs) in
          omega (arith, links, same)
      by (Some o) e typed =
          let found = op_typed m is op o e in
          let links = (all_go o.arguments (unpacked 0 vs) (typed 0)).links in
          let same : links_of (values_of (unpacked 0 vs)) ≡ links_of vs = ap links_of (values_back 0 vs) in
          let few = found.1.facts.few_arguments in
          let counted = ap (λ (x : OpTypes). links_among x.arguments) found.2 in
          omega (arith, links, same, few, counted)

  few_results : (op : ℕ) (vs : List RtValue) → Unpack (types_of (λ o. o.results) (slice_get m.types.ops op)) vs → links_of vs ≤ 8
  few_results op vs typed = by (slice_get m.types.ops op) refl typed
    where
      by : (o : Option OpTypes) → slice_get m.types.ops op ≡ o → Unpack (types_of (λ o. o.results) o) vs → links_of vs ≤ 8
      by None e typed =
          let links = (all_go [] (unpacked 0 vs) (typed 0)).links in
          let same : links_of (values_of (unpacked 0 vs)) ≡ links_of vs = ap links_of (values_back 0 vs) in
          omega (arith, links, same)
      by (Some o) e typed =
          let found = op_typed m is op o e in
          let links = (all_go o.results (unpacked 0 vs) (typed 0)).links in
          let same : links_of (values_of (unpacked 0 vs)) ≡ links_of vs = ap links_of (values_back 0 vs) in
          let few = found.1.facts.few_results in
          let counted = ap (λ (x : OpTypes). links_among x.results) found.2 in
          omega (arith, links, same, few, counted)

-- a request that is accepted, or a reply with which a connect goes on, has an end for each link among its values
abbrev Whole : Heard → Type 0
Whole (heard.Accepted w) = is_whole w.values w.ends ≡ true
Whole (heard.Returned thread r) = is_whole r.values r.ends ≡ true
Whole _ = Unit {0}

accepted_whole : (w : Wanted) (k l : Kept) (b : Bool) → is_whole w.values w.ends ≡ b → Whole (if b then (l, heard.Accepted w) else silently k).1
accepted_whole w k l true e = e
accepted_whole w k l false e = tt

reply_whole : (o : Option Connect) (version : ℕ) (r : Response) (k : Kept) → Whole (reply_to o version r k).1
reply_whole None version r k = tt
reply_whole (Some c) version r k = by (is_whole r.values r.ends) refl
  where
    by : (b : Bool) → is_whole r.values r.ends ≡ b → Whole (if b then (gone_on version k, heard.Returned c.thread r) else silently (record k { reply = Some r })).1
    by true e = e
    by false e = tt

request_whole : (o : Option Taker) (room : Bool) (number : ℕ) (signature : List ℕ) (vs : List RtValue) (xs : List EndId) (k : Kept) → Whole (request_for o room number signature vs xs k).1
request_whole None room number signature vs xs k = tt
request_whole (Some t) room number signature vs xs k =
    let w : Wanted = record { by = t; number = number; signature = signature; values = vs; ends = xs } in
    accepted_whole w (let_come w k) (accepted w k) (is_whole vs xs) refl

more_whole : (o : Option Wanted) (xs : List EndId) (k : Kept) → Whole (request_further o xs k).1
more_whole None xs k = tt
more_whole (Some v) xs k =
    let w : Wanted = record v { ends = v.ends ++ xs } in
    accepted_whole w (record k { request = Some w }) (accepted w k) (is_whole w.values w.ends) refl

rest_whole : (o : Option Response) (version : ℕ) (xs : List EndId) (k : Kept) → Whole (reply_further o version xs k).1
rest_whole None version xs k = tt
rest_whole (Some r) version xs k = reply_whole k.outstanding version (record r { ends = r.ends ++ xs }) (record k { reply = None })

if_whole : (b : Bool) (x y : Kept × Heard) → Whole x.1 → Whole y.1 → Whole (if b then x else y).1
if_whole true x y one two = one
if_whole false x y one two = two

read_whole : (version : ℕ) (free : Bool) (packet : RtPacket) (xs : List EndId) (k : Kept) → Whole (read version free packet xs k).1
read_whole version free (packets.Request number signature vs) xs k = request_whole (taker free signature k) free number signature vs xs k
read_whole version free (packets.Reply number status vs) xs k = reply_whole k.outstanding version (record { number = number; status = status; values = vs; ends = xs }) k
read_whole version free (packets.Retry number) xs k = tt
read_whole version free (packets.Forbid number) xs k = tt
read_whole version free (packets.Allow number) xs k = tt
read_whole version free (packets.GoAhead number) xs k = tt
read_whole version free (packets.Enc kind number index) xs k =
    if_whole (kind == 1) (request_further k.request xs k) (reply_further k.reply version xs k) (more_whole k.request xs k) (rest_whole k.reply version xs k)

back_whole : (o : Option ℕ) (xs : List EndId) (k : Kept) → Whole (sent_back o xs k).1
back_whole None xs k = tt
back_whole (Some number) xs k = tt

hears_whole : (version : ℕ) (free : Bool) (packet : RtPacket) (xs : List EndId) (k : Kept) → Whole (hears version free packet xs k).1
hears_whole version free packet xs k =
    if_whole k.dead _ _ (back_whole (late_request version packet xs) xs k) (if_whole (is_readable version packet xs k) (read version free packet xs k) (k, heard.Unreadable xs) (read_whole version free packet xs k) tt)

listens_whole : (version : ℕ) (free : Bool) (o : Result RtPacket ℕ) (xs : List EndId) (k : Kept) → Whole (listens version free o xs k).1
listens_whole version free (Ok packet) xs k = hears_whole version free packet xs k
listens_whole version free (Err left) xs k = by k.dead
  where
    by : (b : Bool) → Whole (if b then heard.TooLate xs else heard.Unreadable xs)
    by true = tt
    by false = tt

-- ---- what is got

abbrev Grows : State → State → Type 0
Grows s t = length t.places ≤ length s.places + 8

same_grows : (s t : State) → length t.places ≡ length s.places → Grows s t
same_grows s t same = omega (arith, same)

got_grows : (vs : List RtValue) (xs : List EndId) (ps : List Place) → is_whole vs xs ≡ true → links_of vs ≤ 8 → length (get_all xs ps) ≤ length ps + 8
got_grows vs xs ps whole few =
    let many : length xs ≡ links_of vs = eqb-true (length xs) (links_of vs) whole in
    let all : length (get_all xs ps) ≤ length ps + length xs = all_got xs ps in
    omega (arith, many, all, few)

module _ (s : State) (is : IsModule s.code) where
  few_parameters : (o : Option ℕ) (vs : List RtValue) → Unpack (arguments_of s.code.types o) vs → links_of vs ≤ 8
  few_parameters None vs typed =
      let links = (all_go [] (unpacked 0 vs) (typed 0)).links in
      let same : links_of (values_of (unpacked 0 vs)) ≡ links_of vs = ap links_of (values_back 0 vs) in
      omega (arith, links, same)
  few_parameters (Some op) vs typed = few_arguments s.code is op vs typed

  spawns_grow : (o : Option ℕ) (part : Option PartTypes) (on : ℕ) (w : Wanted) → is_whole w.values w.ends ≡ true → links_of w.values ≤ 8 → Grows s (spawns o part on w s)
  spawns_grow (Some n) (Some p) on w whole few = got_grows w.values w.ends s.places whole few
  spawns_grow (Some n) None on w whole few = same_grows s s refl
  spawns_grow None part on w whole few = same_grows s s refl

  takes_grow : (t : Taker) (on : ℕ) (w : Wanted) → is_whole w.values w.ends ≡ true → IsTakenFor s.code s.turns t w.values → Grows s (takes t on w s)
  takes_grow (takers.Thread n) on w whole fits = got_grows w.values w.ends s.places whole (few_arguments s.code is fits.0 w.values fits.2)
  takes_grow (takers.Entry e) on w whole fits = spawns_grow (free_from 0 s.turns.threads) (slice_get s.code.parts (suc e)) on w whole (few_parameters fits.0.op w.values fits.2)

  returns_grow : (n : ℕ) (r : Response) → is_whole r.values r.ends ≡ true → IsHeardFor s.code s.turns (heard.Returned n r) → Grows s (returns_to n r.status r s)
  returns_grow n r whole fits = by r.status refl
    where
      by : (status : ℕ) → r.status ≡ status → Grows s (returns_to n status r s)
      by zero e = got_grows r.values r.ends s.places whole (few_results s.code is fits.0 r.values (fits.2 e))
      by (suc status) e = same_grows s s refl

  comes_grow : (h : Held) (x : Heard) → Whole x → IsHeardFor s.code s.turns x → Grows s (comes_of h x s)
  comes_grow h heard.Nothing whole fits = same_grows s s refl
  comes_grow h (heard.Accepted w) whole fits = takes_grow w.by h.number w whole fits
  comes_grow h (heard.Returned n r) whole fits = returns_grow n r whole fits
  comes_grow h (heard.TooLate xs) whole fits = same_grows s s refl
  comes_grow h (heard.Unreadable xs) whole fits = same_grows s (destroys h s) (many_destroys h s)

-- ---- reports

off_many : (own : Bool) (way : Way) (r : Report) (s : State) → length (reported_off own way r s).places ≡ length s.places
off_many own Inward r s = refl
off_many true Outward r s = many_again r.enclosed s.places
off_many false Outward r s = refl

again_many : (own : Bool) (xs : List EndId) (s t : State) → length t.places ≡ length s.places → length (held_if own xs t).places ≡ length s.places
again_many true xs s t same = many_again xs t.places ∙ same
again_many false xs s t same = same

module _ (r : Report) (s : State) (are : AreBytes r.bytes) (is : IsGoing [] s) where
  report_grows : (n : ℕ) (p : Place) (k : Kept) → p.holding ≡ Keeps k → place_at n s.places ≡ Some p → (way : Way) (outcome : Outcome) →
      Grows s (reported_on (record { number = n; end = r.on; kept = k }) way outcome r s).state
  report_grows n p k holds there Inward outcomes.Done =
      let h : Held = record { number = n; end = p.end; kept = k } in
      let held = held_holding [] s is n p (Keeps k) h holds there refl in
      let x : Kept × Heard = listens s.version (room s) (packet_of s.version r.bytes) r.enclosed (receive_over k) in
      let so = listens_so r k s are held.kept held.waits is in
      let t : State = keeps (record { number = n; end = r.on; kept = receive_over k }) x.0 s in
      let grows : Grows t (comes_of (record { number = n; end = r.on; kept = x.0 }) x.1 t) =
      comes_grow t is.code (record { number = n; end = r.on; kept = x.0 }) x.1 (listens_whole s.version (room s) (packet_of s.version r.bytes) r.enclosed (receive_over k)) so.fits in
      let same : length t.places ≡ length s.places = many_with n (Keeps x.0) s.places in
      omega (arith, grows, same)
  report_grows n p k holds there Inward outcomes.Destroyed =
      same_grows s (dies_at (record { number = n; end = r.on; kept = receive_over k }) s) (many_dies (record { number = n; end = r.on; kept = receive_over k }) s)
  report_grows n p k holds there Outward outcomes.Done =
      same_grows s (keeps (record { number = n; end = r.on; kept = k }) (send_over k) s) (many_with n (Keeps (send_over k)) s.places)
  report_grows n p k holds there Outward outcomes.Destroyed =
      let h : Held = record { number = n; end = r.on; kept = send_over k } in
      same_grows s (held_if (returns k.sending) r.enclosed (dies_at h s)) (again_many (returns k.sending) r.enclosed s (dies_at h s) (many_dies h s))

  reported_grows : Grows s (reported r s).state
  reported_grows = by_place (place_at (number_of r.on s.places) s.places) refl
    where
      by_place : (o : Option Place) → place_at (number_of r.on s.places) s.places ≡ o → Grows s (reported_in (number_of r.on s.places) (holding_of o) r s).state
      by_place None there = same_grows s (reported_off false r.way r s) (off_many false r.way r s)
      by_place (Some p) there = by_holding p.holding refl
        where
          by_holding : (g : Holding) → p.holding ≡ g → Grows s (reported_in (number_of r.on s.places) g r s).state
          by_holding (Gone own) holds = same_grows s (reported_off own r.way r s) (off_many own r.way r s)
          by_holding (Keeps k) holds = report_grows (number_of r.on s.places) p k holds there r.way r.outcome

-- ---- answers

module _ (h : Held) (s : State) where
  send_many : (given : Option Answer) → length (sent_so given h s).places ≡ length s.places
  send_many None = refl
  send_many (Some answer.Ok) = many_with h.number (Keeps (sent h.kept)) s.places
  send_many (Some (answer.Made a b)) = refl
  send_many (Some (answer.Reported r)) = refl
  send_many (Some (answer.Refused causes.Dead)) = many_dies h s
  send_many (Some (answer.Refused causes.NoEnd)) = refl
  send_many (Some (answer.Refused causes.Busy)) = refl
  send_many (Some (answer.Refused causes.EncloseNoEnd)) = refl
  send_many (Some (answer.Refused causes.EncloseBusy)) = refl
  send_many (Some (answer.Refused causes.EncloseSame)) = refl
  send_many (Some (answer.Refused causes.Late)) = refl
  send_many (Some (answer.Refused causes.NoActivity)) = refl
  send_many (Some (answer.Refused causes.LinksFull)) = refl
  send_many (Some (answer.Refused causes.EncloseTwice)) = refl

  receive_many : (given : Option Answer) → length (receives_so given h s).places ≡ length s.places
  receive_many None = refl
  receive_many (Some answer.Ok) = many_with h.number (Keeps (receives h.kept)) s.places
  receive_many (Some (answer.Made a b)) = refl
  receive_many (Some (answer.Reported r)) = refl
  receive_many (Some (answer.Refused causes.Dead)) = many_dies h s
  receive_many (Some (answer.Refused causes.NoEnd)) = refl
  receive_many (Some (answer.Refused causes.Busy)) = refl
  receive_many (Some (answer.Refused causes.EncloseNoEnd)) = refl
  receive_many (Some (answer.Refused causes.EncloseBusy)) = refl
  receive_many (Some (answer.Refused causes.EncloseSame)) = refl
  receive_many (Some (answer.Refused causes.Late)) = refl
  receive_many (Some (answer.Refused causes.NoActivity)) = refl
  receive_many (Some (answer.Refused causes.LinksFull)) = refl
  receive_many (Some (answer.Refused causes.EncloseTwice)) = refl

  cancel_many : (given : Option Answer) → length (cancelled_so given h s).places ≡ length s.places
  cancel_many None = refl
  cancel_many (Some answer.Ok) = many_with h.number (Keeps (receive_over h.kept)) s.places
  cancel_many (Some (answer.Made a b)) = refl
  cancel_many (Some (answer.Reported r)) = refl
  cancel_many (Some (answer.Refused causes.Dead)) = many_dies (record h { kept = cancel_late h.kept }) s
  cancel_many (Some (answer.Refused causes.Late)) = many_with h.number (Keeps (cancel_late h.kept)) s.places
  cancel_many (Some (answer.Refused causes.NoEnd)) = refl
  cancel_many (Some (answer.Refused causes.Busy)) = refl
  cancel_many (Some (answer.Refused causes.EncloseNoEnd)) = refl
  cancel_many (Some (answer.Refused causes.EncloseBusy)) = refl
  cancel_many (Some (answer.Refused causes.EncloseSame)) = refl
  cancel_many (Some (answer.Refused causes.NoActivity)) = refl
  cancel_many (Some (answer.Refused causes.LinksFull)) = refl
  cancel_many (Some (answer.Refused causes.EncloseTwice)) = refl

-- by eight at most, and not at all without an answer
abbrev Answers : Option Answer → State → State → Type 0
Answers given s t = (length t.places ≤ length s.places + 8) × (given ≡ None → length t.places ≤ length s.places)

same_answers : (given : Option Answer) (s t : State) → length t.places ≡ length s.places → Answers given s t
same_answers given s t same = (omega (arith, same), λ e. omega (arith, same))

some_not_none : (a : Answer) → ◌≡◌ {A = Option Answer} (Some a) None → ⊥
some_not_none a e = cc

module _ (s : State) (is : IsGoing [] s) where
  on_end_answers : (given : Option Answer) (o : Option Held) (next : Held → State → State) → ((h : Held) → length (next h s).places ≡ length s.places) → Answers given s (on_end o next s).state
  on_end_answers given None next each = same_answers given s s refl
  on_end_answers given (Some h) next each = same_answers given s (next h s) (each h)

  make_answers : (n : ℕ) (given : Option Answer) → Answers given s (answered (process.Make n) given s).state
  make_answers n (Some (answer.Made a b)) =
      let all : length (get_all (a ∷ b ∷ []) s.places) ≤ length s.places + 2 = all_got (a ∷ b ∷ []) s.places in
      (omega (arith, all), λ e. absurd (some_not_none (answer.Made a b) e))
  make_answers n None = same_answers None s s refl
  make_answers n (Some answer.Ok) = same_answers (Some answer.Ok) s s refl
  make_answers n (Some (answer.Reported r)) = same_answers (Some (answer.Reported r)) s s refl
  make_answers n (Some (answer.Refused c)) = same_answers (Some (answer.Refused c)) s s refl

  wait_answers : (given : Option Answer) → IsTold given → Answers given s (answered process.Wait given s).state
  wait_answers (Some (answer.Reported r)) told = (reported_grows r s told is, λ e. absurd (some_not_none (answer.Reported r) e))
  wait_answers None told = same_answers None s s refl
  wait_answers (Some answer.Ok) told = same_answers (Some answer.Ok) s s refl
  wait_answers (Some (answer.Made a b)) told = same_answers (Some (answer.Made a b)) s s refl
  wait_answers (Some (answer.Refused c)) told = same_answers (Some (answer.Refused c)) s s refl

  answered_grows : (asked : Asked) (given : Option Answer) → IsTold given → Answers given s (answered asked given s).state
  answered_grows process.Nothing given told = same_answers given s s refl
  answered_grows (process.Make n) given told = make_answers n given
  answered_grows (process.Print n) given told = same_answers given s s refl
  answered_grows process.Destroy given told = same_answers given s s refl
  answered_grows (process.Send n) given told = on_end_answers given (held_at n s) (sent_so given) (λ h. send_many h s given)
  answered_grows (process.Receive n) given told = on_end_answers given (held_at n s) (receives_so given) (λ h. receive_many h s given)
  answered_grows (process.Cancel n) given told = on_end_answers given (held_at n s) (cancelled_so given) (λ h. cancel_many h s given)
  answered_grows process.Wait given told = wait_answers given told
  answered_grows process.Exit given told = same_answers given s s refl

-- ---- a step

then_slice : (given : Option Answer) (s t : State) → Answers given s t → Answers given s (slice t).state
then_slice given s t grows =
    let same : length (slice t).state.places ≡ length t.places = slice_many t in
    let most : length t.places ≤ length s.places + 8 = grows.0 in
    (omega (arith, same, most), λ e. let none : length t.places ≤ length s.places = grows.1 e in omega (arith, same, none))

pub places_grow : (s : State) (given : Option Answer) → IsTold given → IsRunning s
    → (length (did s given).state.places ≤ length s.places + 8) × (given ≡ None → length (did s given).state.places ≤ length s.places)
places_grow s given told is = by s.asked (answered_grows s is.going s.asked given told)
  where
    by : (asked : Asked) → Answers given s (answered s.asked given s).state → Answers given s (proceeds asked (answered s.asked given s)).state
    by process.Exit grows = grows
    by process.Nothing grows = then_slice given s (answered s.asked given s).state grows
    by (process.Make n) grows = then_slice given s (answered s.asked given s).state grows
    by (process.Print n) grows = then_slice given s (answered s.asked given s).state grows
    by process.Destroy grows = then_slice given s (answered s.asked given s).state grows
    by (process.Send n) grows = then_slice given s (answered s.asked given s).state grows
    by (process.Receive n) grows = then_slice given s (answered s.asked given s).state grows
    by (process.Cancel n) grows = then_slice given s (answered s.asked given s).state grows
    by process.Wait grows = then_slice given s (answered s.asked given s).state grows
