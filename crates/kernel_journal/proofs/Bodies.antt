-- A body takes one line more.
use Rattle.std.proofs.Common.{◌≡◌, ◌↔◌, inl, inr, Result, Ok, Err, OnOk, IfErr, not, ℕ, ◌+◌, ◌<◌, Bool, true, false, IsTrue, List, [], ◌∷◌, length, Option, Some, arith, ap, sym, subst, ◌∙◌, refl}
use Rattle.std.proofs.lemmas.Bool.Decides.{eqb_tells}
use Rattle.std.proofs.lemmas.List.Elements.{All-get_or}
use Rattle.charlotte_calls.specs.Setting.{IsValid}
use Rattle.charlotte_calls.specs.declared.calls.Call.{Call}
use Rattle.charlotte_calls.specs.declared.calls.ServiceStep.{ServiceStep}
use Rattle.charlotte_calls.specs.declared.names.EndId.{EndId}
use Rattle.charlotte_calls.specs.declared.names.Pid.{Pid}
use Rattle.charlotte_packets.specs.declared.picture.Picture.{Picture}
use Rattle.charlotte_calls.specs.declared.setting.Setting.{Setting}
use Rattle.kernel_nodes.specs.Nodes.{AreNodes, Happens, IsFirst, TakesTold, world_of}
use Rattle.kernel_nodes.specs.declared.nodes.Noted.{Noted}
use Rattle.kernel_nodes.specs.declared.nodes.Nodes.{Nodes}
use Rattle.kernel_step.specs.Calls.{IsCallWith}
use Rattle.kernel_step.specs.Start.{home}
use Rattle.kernel_world.specs.Run.{AllTaken, IsAllowed}
use Rattle.kernel_entries.specs.declared.entry.Happened.{Happened}
use Rattle.kernel_entries.specs.declared.entry.Happened.TheVariants.{Asked, Took}
use Rattle.kernel_world.specs.World.{World, Event, Calls, Takes, first_or, happens, kernel_of, nothing_sent, outcome}
use Rattle.transcript_reading.specs.Kinds.{happened_kind, shown_step, without_stamp}
use Rattle.transcript_reading.specs.declared.line.LineKind.TheVariants as line
use Rattle.transcript_replay.specs.Course.{Leads, Refutes, comes_after, goes_on}
use Rattle.transcript_replay.proofs.Rest.{event_kind, leads-entry, refutes-call, refutes-due, refutes-entry, refutes-many, refutes-taking, stamp_of}
use Rattle.transcript_lines.specs.declared.last.Last.{Last}
use Rattle.transcript_lines.specs.declared.last.Last.TheVariants.{Quiet, Unsettled}
use Rattle.transcript_replay.specs.Replay.{IsTrueLast}
use Rattle.kernel_journal.specs.Body.{CanCall, Fails, Goes, IsNoted, IsReady, StopsAt, course_of}
use Rattle.kernel_journal.specs.declared.fault.Stop.{Stop}
use Rattle.kernel_journal.specs.declared.fault.Stop.TheVariants as stop
use Rattle.kernel_journal.specs.declared.body.Body.{Body}

-- ---- an event

-- the nodes of a body made an event, and all else is as before
pub record IsAfterEvent (old mid : Body) (e : Event) (noted : Noted) : Type 0 where
  pub happens_is : Happens old.setting e noted old.nodes.nodes.items mid.nodes.nodes.items
  pub setting : mid.setting ≡ old.setting
  pub events : mid.events ≡ old.events
  pub latest : mid.latest ≡ old.latest

abbrev pub world_in : Body → World
world_in b = world_of b.setting b.nodes.nodes.items

event-course : (old mid new : Body) (e : Event) (stamp : ℕ) (noted : Noted) → IsAfterEvent old mid e noted → IsNoted stamp (kernel_of e) noted mid new → course_of new ≡ goes_on (course_of old) e
event-course old mid new e stamp noted did is = λ i. record { setting = setting i; world = world i; events = events i; latest = latest i; due = due i }
  where
    setting : new.setting ≡ old.setting
    setting = is.setting ∙ did.setting

    world : world_in new ≡ happens (world_in old) e
    world = ap (λ s. world_of s new.nodes.nodes.items) setting ∙ (is.nodes old.setting did.happens_is.nodes).1 ∙ did.happens_is.world

    events : new.events ≡ old.events + 1
    events = is.events ∙ ap (λ n. n + 1) did.events

    latest : new.latest ≡ Some (stamp_of (world_in old) e, kernel_of e)
    latest = is.latest ∙ ap (λ n. Some (n, kernel_of e)) (sym is.same_stamp ∙ did.happens_is.noted.stamp)

    due : new.due ≡ (outcome (world_in old) e).steps
    due = is.due ∙ did.happens_is.noted.steps

pub event-goes : (old mid new : Body) (e : Event) (stamp : ℕ) (noted : Noted) → IsReady old → old.due ≡ [] → old.events < 2147483648 → IsAllowed old.setting (world_in old) e → kernel_of e < old.setting.kernels → IsAfterEvent old mid e noted → IsNoted stamp (kernel_of e) noted mid new
    → Leads (course_of old) (event_kind (world_in old) stamp e) (course_of new)
event-goes old mid new e stamp noted ready none few allowed within did is =
    subst (λ c. Leads (course_of old) (event_kind (world_in old) stamp e) c) (sym (event-course old mid new e stamp noted did is))
    (leads-entry (course_of old) e stamp none allowed within (omega (arith, few)) (sym did.happens_is.noted.stamp ∙ is.same_stamp) (subst (λ l. IsTrue (comes_after l stamp (kernel_of e))) did.latest is.order))

pub event-ready : (old mid new : Body) (e : Event) (stamp : ℕ) (noted : Noted) → IsReady old → old.events < 2147483648 → IsAfterEvent old mid e noted → IsNoted stamp (kernel_of e) noted mid new → IsReady new
event-ready old mid new e stamp noted ready few did is =
    let events : new.events ≡ old.events + 1 = is.events ∙ ap (λ n. n + 1) did.events in
    record {
      valid = subst IsValid (sym (is.setting ∙ did.setting)) ready.valid;
      nodes = subst (λ s. AreNodes s new.nodes.nodes.items) (sym (is.setting ∙ did.setting)) ((is.nodes old.setting did.happens_is.nodes).0);
      few = omega (arith, events, few);
    }

pub event-stops : (old mid : Body) (e : Event) (stamp : ℕ) (noted : Noted) → old.due ≡ [] → IsAllowed old.setting (world_in old) e → IsAfterEvent old mid e noted → (noted.stamp ≡ stamp → IsTrue (comes_after mid.latest stamp (kernel_of e)) → ⊥)
    → Refutes (course_of old) (event_kind (world_in old) stamp e)
event-stops old mid e stamp noted none allowed did not =
    refutes-entry (course_of old) e stamp none allowed (λ stamp_is order. not (did.happens_is.noted.stamp ∙ stamp_is) (subst (λ l. IsTrue (comes_after l stamp (kernel_of e))) (sym did.latest) order))

-- ---- what may not go on

-- a step is due, or there were too many events
pub late-stops : (b : Body) (stamp k : ℕ) (x : Happened) → ((b.due ≡ []) × (b.events < 2147483648) → ⊥) → Refutes (course_of b) (happened_kind stamp k x)
late-stops b stamp k x not = by b.due refl
  where
    by : (ss : List ServiceStep) → b.due ≡ ss → Refutes (course_of b) (happened_kind stamp k x)
    by [] none = refutes-many (course_of b) stamp k x none (λ few. not (none, omega (arith, few)))
    by (s ∷ ss) due = refutes-due (course_of b) s ss (happened_kind stamp k x) due (λ h. no_service x h)
      where
        no_service : (y : Happened) → line.Service (shown_step s) ≡ happened_kind stamp k y → ⊥
        no_service (Asked p c) h = absurd (cc)
        no_service (Took from q) h = absurd (cc)

-- ---- calls

pub call-allowed : (b : Body) (k : ℕ) (p : Pid) (c : Call) (mine : List EndId) → CanCall b.setting (world_in b) k p c → IsCallWith p ((world_in b).kernel k).table mine c → IsAllowed b.setting (world_in b) (Calls k p c mine)
call-allowed b k p c mine can with = (can.0, can.1, can.2, can.3, with)

-- the kernel of a process is there
pub home-within : (s : Setting) (k : ℕ) (p : Pid) → IsValid s → p.0 < length s.homes → home s p ≡ k → k < s.kernels
home-within s k p valid below at = subst (λ i. i < s.kernels) at (All-get_or (λ h. h < s.kernels) s.homes p.0 0 below valid.homes)

pub call-stops : (b : Body) (stamp k : ℕ) (p : Pid) (c : Call) → b.due ≡ [] → (CanCall b.setting (world_in b) k p c → ⊥) → Refutes (course_of b) (line.CallEntry stamp k p c)
call-stops b stamp k p c none not = refutes-call (course_of b) stamp k p c none (λ mine allowed. not (allowed.0, allowed.1, allowed.2, allowed.3))

-- ---- takings

first-shown : (what : Picture) (qs : List Picture) → what.stamp ≡ 0 → IsFirst what.what qs → what ≡ without_stamp (first_or nothing_sent qs)
first-shown what [] zero first = absurd first
first-shown what (q ∷ qs) zero first = λ i. record { stamp = zero i; what = sym first i }

first-there : (what : Picture) (qs : List Picture) → IsFirst what.what qs → qs ≡ [] → ⊥
first-there what [] first e = first
first-there what (q ∷ qs) first e = absurd (cc)

-- the line of a taking is that of the packet
pub taking-kind : (b : Body) (stamp k from : ℕ) (picture : Picture) → picture.stamp ≡ 0 → IsFirst picture.what ((world_in b).packets from k) → event_kind (world_in b) stamp (Takes k from) ≡ line.PacketEntry stamp k from picture
taking-kind b stamp k from picture zero first = ap (λ q. line.PacketEntry stamp k from q) (sym (first-shown picture ((world_in b).packets from k) zero first))

pub taking-allowed : (b : Body) (k from : ℕ) (picture : Picture) → IsFirst picture.what ((world_in b).packets from k) → IsAllowed b.setting (world_in b) (Takes k from)
taking-allowed b k from picture first = first-there picture ((world_in b).packets from k) first

first-of : (what : Picture) (q : Picture) (qs others : List Picture) → qs ≡ q ∷ others → what ≡ without_stamp q → IsFirst what.what qs
first-of what q qs others at shown = subst (IsFirst what.what) (sym at) (sym (ap (λ (x : Picture). x.what) shown))

pub taking-stops : (b : Body) (stamp k from : ℕ) (picture : Picture) → b.due ≡ [] → (k < b.setting.kernels → IsFirst picture.what ((world_in b).packets from k) → ⊥) → Refutes (course_of b) (line.PacketEntry stamp k from picture)
taking-stops b stamp k from picture none not = refutes-taking (course_of b) stamp k from picture none (λ below q qs at shown. not below (first-of picture q ((world_in b).packets from k) qs at shown))

-- no line shows a stamp
pub stamped-stops : (b : Body) (stamp k from : ℕ) (picture : Picture) → b.due ≡ [] → (picture.stamp ≡ 0 → ⊥) → Refutes (course_of b) (line.PacketEntry stamp k from picture)
stamped-stops b stamp k from picture none not = refutes-taking (course_of b) stamp k from picture none (λ below q qs at shown. not (ap (λ (x : Picture). x.stamp) shown))

-- ---- what the calls of a body need

pub on_ok : {T E : Type 0} {P R : Type 0} (r : Result T E) → (P → R) → OnOk r P → OnOk r R
on_ok (Ok x) f p = f p
on_ok (Err e) f p = tt

pub if_err : {T E : Type 0} {P R : E → Type 0} (r : Result T E) → ((e : E) → P e → R e) → IfErr r P → IfErr r R
if_err (Ok x) f p = tt
if_err (Err e) f p = f e p

pub not-so : {A : Type 0} → false ≡ true → A
not-so e = absurd (cc)

pub not-tells : (r : Bool) (P : Type 0) → (IsTrue r ↔ P) → IsTrue (not r) ↔ (P → ⊥)
not-tells true P tells = ((λ h. not-so h), (λ none. absurd (none (tells.0 refl))))
not-tells false P tells = ((λ h x. not-so (tells.1 x)), (λ none. refl))

-- a body with other nodes
abbrev pub with_nodes : Body → Nodes → Body
with_nodes b n = record { setting = b.setting; nodes = n; events = b.events; latest = b.latest; due = b.due }

abbrev pub MayGoOn : Body → Type 0
MayGoOn b = (b.due ≡ []) × (b.events < 2147483648)

abbrev pub HasCalled : Body → ℕ → Pid → Noted → Nodes → Call → Type 0
HasCalled old k p noted n c = (mine : List EndId) × IsCallWith p ((world_in old).kernel k).table mine c × Happens old.setting (Calls k p c mine) noted old.nodes.nodes.items n.nodes.items

after-call : (old : Body) (n : Nodes) (k : ℕ) (p : Pid) (c : Call) (noted : Noted) (called : HasCalled old k p noted n c) → IsAfterEvent old (with_nodes old n) (Calls k p c called.0) noted
after-call old n k p c noted called = record { happens_is = called.2; setting = refl; events = refl; latest = refl }

pub ask-ready : (old new : Body) (n : Nodes) (stamp k : ℕ) (p : Pid) (c : Call) (noted : Noted) → IsReady old → MayGoOn old → HasCalled old k p noted n c → IsNoted stamp k noted (with_nodes old n) new → IsReady new
ask-ready old new n stamp k p c noted ready go called is = event-ready old (with_nodes old n) new (Calls k p c called.0) stamp noted ready go.1 (after-call old n k p c noted called) is

pub ask-goes : (old new : Body) (n : Nodes) (stamp k : ℕ) (p : Pid) (c : Call) (noted : Noted) → IsReady old → MayGoOn old → CanCall old.setting (world_in old) k p c → HasCalled old k p noted n c → IsNoted stamp k noted (with_nodes old n) new → Goes old (line.CallEntry stamp k p c) new
ask-goes old new n stamp k p c noted ready go can called is =
    event-goes old (with_nodes old n) new (Calls k p c called.0) stamp noted ready go.0 go.1 (call-allowed old k p c called.0 can called.1) (home-within old.setting k p ready.valid can.0 can.1) (after-call old n k p c noted called) is

pub ask-stops : (old : Body) (n : Nodes) (stamp k : ℕ) (p : Pid) (c : Call) (noted : Noted) (s : Stop) → MayGoOn old → CanCall old.setting (world_in old) k p c → HasCalled old k p noted n c
    → (s ≡ stop.Differs) × (noted.stamp ≡ stamp → IsTrue (comes_after old.latest stamp k) → ⊥) → StopsAt old (line.CallEntry stamp k p c) s
ask-stops old n stamp k p c noted s go can called d =
    subst (StopsAt old (line.CallEntry stamp k p c)) (sym d.0) (event-stops old (with_nodes old n) (Calls k p c called.0) stamp noted go.0 (call-allowed old k p c called.0 can called.1) (after-call old n k p c noted called) d.1)

abbrev pub HasTaken : Body → ℕ → ℕ → Picture → Option Noted → Nodes → Type 0
HasTaken old k from q made n = TakesTold old.setting from k q.what made old.nodes.nodes.items n.nodes.items

after-take : (old : Body) (n : Nodes) (k from : ℕ) (q : Picture) (noted : Noted) → HasTaken old k from q (Some noted) n → IsAfterEvent old (with_nodes old n) (Takes k from) noted
after-take old n k from q noted took = record { happens_is = took.2; setting = refl; events = refl; latest = refl }

pub take-ready : (old new : Body) (n : Nodes) (stamp k from : ℕ) (q : Picture) (noted : Noted) → IsReady old → MayGoOn old → HasTaken old k from q (Some noted) n → IsNoted stamp k noted (with_nodes old n) new → IsReady new
take-ready old new n stamp k from q noted ready go took is = event-ready old (with_nodes old n) new (Takes k from) stamp noted ready go.1 (after-take old n k from q noted took) is

pub take-goes : (old new : Body) (n : Nodes) (stamp k from : ℕ) (q : Picture) (noted : Noted) → IsReady old → MayGoOn old → q.stamp ≡ 0 → HasTaken old k from q (Some noted) n → IsNoted stamp k noted (with_nodes old n) new → Goes old (line.PacketEntry stamp k from q) new
take-goes old new n stamp k from q noted ready go zero took is =
    subst (λ x. Goes old x new) (taking-kind old stamp k from q zero took.1)
    (event-goes old (with_nodes old n) new (Takes k from) stamp noted ready go.0 go.1 (taking-allowed old k from q took.1) took.0 (after-take old n k from q noted took) is)

pub take-stops : (old : Body) (n : Nodes) (stamp k from : ℕ) (q : Picture) (noted : Noted) (s : Stop) → MayGoOn old → q.stamp ≡ 0 → HasTaken old k from q (Some noted) n
    → (s ≡ stop.Differs) × (noted.stamp ≡ stamp → IsTrue (comes_after old.latest stamp k) → ⊥) → StopsAt old (line.PacketEntry stamp k from q) s
take-stops old n stamp k from q noted s go zero took d =
    subst (StopsAt old (line.PacketEntry stamp k from q)) (sym d.0)
    (subst (λ x. Refutes (course_of old) x) (taking-kind old stamp k from q zero took.1) (event-stops old (with_nodes old n) (Takes k from) stamp noted go.0 (taking-allowed old k from q took.1) (after-take old n k from q noted took) d.1))

pub fails-call : (old : Body) (i k : ℕ) (p : Pid) (c : Call) (s : Stop) → StopsAt old (line.CallEntry i k p c) s → Fails old (line.CallEntry i k p c) s
fails-call old i k p c stop.Differs d = d
fails-call old i k p c stop.NoMemory d = tt

pub fails-packet : (old : Body) (i k from : ℕ) (q : Picture) (s : Stop) → StopsAt old (line.PacketEntry i k from q) s → Fails old (line.PacketEntry i k from q) s
fails-packet old i k from q stop.Differs d = d
fails-packet old i k from q stop.NoMemory d = tt

-- a last line, by its kind
pub ends-quiet : (b : Body) (r : Bool) (last : Last) → last ≡ Quiet → (IsTrue r ↔ AllTaken (world_in b)) → IsTrue r ↔ IsTrueLast b.setting (world_in b) last
ends-quiet b r last is tells = subst (λ l. IsTrue r ↔ IsTrueLast b.setting (world_in b) l) (sym is) tells

pub ends-open : (b : Body) (r : Bool) (last : Last) → last ≡ Unsettled → (IsTrue r ↔ AllTaken (world_in b)) → IsTrue (not r) ↔ IsTrueLast b.setting (world_in b) last
ends-open b r last is tells = subst (λ l. IsTrue (not r) ↔ IsTrueLast b.setting (world_in b) l) (sym is) (not-tells r (AllTaken (world_in b)) tells)

-- the same of the line of a packet, whatever stamp it has
pub late-packet : (b : Body) (stamp k from : ℕ) (q : Picture) → (MayGoOn b → ⊥) → Refutes (course_of b) (line.PacketEntry stamp k from q)
late-packet b stamp k from q none_more = by b.due refl
  where
    unstamped : q.stamp ≡ 0 → without_stamp q ≡ q
    unstamped zero = λ i. record { stamp = sym zero i; what = q.what }

    no_service : (s : ServiceStep) → line.Service (shown_step s) ≡ line.PacketEntry stamp k from q → ⊥
    no_service s h = absurd (cc)

    by : (ss : List ServiceStep) → b.due ≡ ss → Refutes (course_of b) (line.PacketEntry stamp k from q)
    by [] none = elim (eqb_tells q.stamp 0) [
      | inl z ↦ subst (λ x. Refutes (course_of b) (line.PacketEntry stamp k from x)) (unstamped z.1) (refutes-many (course_of b) stamp k (Took from q) none (λ few. none_more (none, omega (arith, few))))
      | inr z ↦ stamped-stops b stamp k from q none z.1
    ]
    by (s ∷ ss) due = refutes-due (course_of b) s ss (line.PacketEntry stamp k from q) due (no_service s)

pub on_ok_both : {T E : Type 0} {P Q R : Type 0} (r : Result T E) → (P → Q → R) → OnOk r P → OnOk r Q → OnOk r R
on_ok_both (Ok x) f p q = f p q
on_ok_both (Err e) f p q = tt
