-- The call that is due first, found by the sets of ends.
use Rattle.std.proofs.Common.{arith, ◌≡◌, ℕ, zero, suc, ◌+◌, ◌<◌, Bool, true, false, not, ◌&&◌, ◌||◌, if◌then◌else◌, List, [], ◌∷◌, Option, Some, None, is_some, is_none, slice_get, refl, sym, ap, ap₂, ◌∙◌}
use Rattle.charlotte_calls.specs.declared.names.EndId.{EndId}
use Rattle.end_protocol.specs.declared.going.Due.{Due}
use Rattle.end_protocol.specs.declared.going.Due.TheVariants as due
use Rattle.end_protocol.specs.declared.kept.Binding.{Binding}
use Rattle.end_protocol.specs.declared.kept.Forbade.{Forbade}
use Rattle.end_protocol.specs.declared.kept.Kept.{Kept}
use Rattle.end_protocol.specs.declared.kept.Taker.{Taker}
use Rattle.end_protocol.specs.declared.messages.Message.{Message}
use Rattle.end_protocol.specs.Going.{due_call, settled_with, is_allow_due, allows}
use Rattle.end_protocol.specs.Lists.{head, is_nil}
use Rattle.end_protocol.specs.Wanting.{is_needed, is_in_part, is_silent, is_deaf, may_cancel, taker, accepting, bound, or_else}
use Rattle.process_run.specs.States.{Holding, Keeps, Gone, Place}
use Rattle.process_run.specs.Ends.{place_at, held_of}
use Rattle.process_run.specs.Runs.{Asking, sending, due_so, due_on, due_among, settled_in}
use Rattle.process_run.proofs.Agenda.{first_is_due, none_is_due}
use Rattle.process_ends.specs.Ends.{asking_on}
use Rattle.process_ends.specs.Noted.{IsUnbound, IsCalm, IsIdle, due_by, due_in, is_due}

-- ---- without a binding the room does not count

needed_same : (b c : Bool) (k : Kept) → k.bindings ≡ [] → is_needed b k ≡ is_needed c k
unfolding is_needed
needed_same b c k e =
    ap (λ (bs : List Binding). not k.dead && (is_some k.outstanding || is_in_part k || ((is_none k.owed && not (is_nil k.accepts)) || (not (is_nil bs) && b)))) e
    ∙ ap (λ (bs : List Binding). not k.dead && (is_some k.outstanding || is_in_part k || ((is_none k.owed && not (is_nil k.accepts)) || (not (is_nil bs) && c)))) (sym e)

taker_so : (b : Bool) (signature : List ℕ) (k : Kept) → k.bindings ≡ [] → taker b signature k ≡ or_else (accepting signature k.accepts) None
unfolding taker
taker_so true signature k e = ap (λ (bs : List Binding). or_else (accepting signature k.accepts) (bound signature bs)) e
taker_so false signature k e = refl

due_same : (b c : Bool) (k : Kept) → k.bindings ≡ [] → due_call b k ≡ due_call c k
unfolding due_call
due_same b c k e =
    ap (λ (n : Bool). if is_silent k.sending && not (is_nil k.queue) then due.Send else if is_deaf k.receiving && n then due.Receive else if may_cancel k.receiving && not n then due.Cancel else due.Nothing)
    (needed_same b c k e)

settled_same_so : (o : Option Forbade) (b c : Bool) (k : Kept) → k.bindings ≡ [] → settled_with o b k ≡ settled_with o c k
settled_same_so None b c k e = refl
settled_same_so (Some f) b c k e =
    ap₂ (λ (t : Option Taker) (n : Bool). if is_some t || not n then allows f.number k else k)
    (taker_so b f.signature k e ∙ sym (taker_so c f.signature k e)) (needed_same b c k e)

-- on an end to which no entry is bound the same is due, whether there is room or not
pub calm_same : (b c : Bool) (h : Holding) → IsUnbound h → IsCalm b h → IsCalm c h
calm_same b c (Keeps k) unbound calm = ap (λ (x : Kept). Keeps x) (settled_same_so k.forbade c b k unbound) ∙ calm
calm_same b c (Gone own) unbound calm = refl

pub idle_same : (b c : Bool) (h : Holding) → IsUnbound h → IsIdle b h → IsIdle c h
idle_same b c (Keeps k) unbound idle = due_same c b k unbound ∙ idle
idle_same b c (Gone own) unbound idle = refl

-- ---- an allow

bindings_so : (o : Option Forbade) (room : Bool) (k : Kept) → (settled_with o room k).bindings ≡ k.bindings
unfolding allows
bindings_so None room k = refl
bindings_so (Some f) room k = elim (is_allow_due room f k) as (λ b. (if b then allows f.number k else k).bindings ≡ k.bindings) [ true ↦ refl | false ↦ refl ]

pub unbound_settled : (room : Bool) (h : Holding) → IsUnbound h → IsUnbound (settled_in room h)
unbound_settled room (Keeps k) unbound = bindings_so k.forbade room k ∙ unbound
unbound_settled room (Gone own) unbound = unbound

-- ---- the first call that is due

not_nil : (a b c d : Bool) → (if a && not b then due.Send else if c then due.Receive else if d then due.Cancel else due.Nothing) ≡ due.Send → b ≡ false
not_nil a false c d e = refl
not_nil true true true d e = absurd cc
not_nil true true false true e = absurd cc
not_nil true true false false e = absurd cc
not_nil false true true d e = absurd cc
not_nil false true false true e = absurd cc
not_nil false true false false e = absurd cc

sends_some : (room : Bool) (k : Kept) → due_call room k ≡ due.Send → is_nil k.queue ≡ false
unfolding due_call
sends_some room k e = not_nil (is_silent k.sending) (is_nil k.queue) (is_deaf k.receiving && is_needed room k) (may_cancel k.receiving && not (is_needed room k)) e

first_of : (ms : List Message) → is_nil ms ≡ false → (m : Message) × (head ms ≡ Some m)
first_of [] e = let no : true ≡ false = e in absurd cc
first_of (m ∷ ms) e = (m, refl)

some_of : (o : Option Asking) → is_some o ≡ true → (a : Asking) × (o ≡ Some a)
some_of None e = let no : false ≡ true = e in absurd cc
some_of (Some a) e = (a, refl)

-- a call that is due is asked
asked_so : (version n : ℕ) (x : EndId) (room : Bool) (k : Kept) (d : Due) → due_call room k ≡ d → is_due d ≡ true → is_some (due_so version n x k d) ≡ true
asked_so version n x room k due.Nothing e is = let no : false ≡ true = is in absurd cc
asked_so version n x room k due.Send e is = let m = first_of k.queue (sends_some room k e) in ap (λ (o : Option Message). is_some (sending version n x o)) m.1
asked_so version n x room k due.Receive e is = refl
asked_so version n x room k due.Cancel e is = refl

idle_on : (version n : ℕ) (x : EndId) (room : Bool) (h : Holding) → IsIdle room h → due_on version room n x h ≡ None
idle_on version n x room (Keeps k) idle = ap (λ (d : Due). due_so version n x k d) idle
idle_on version n x room (Gone own) idle = refl

idle_below : (version : ℕ) (room : Bool) (j : ℕ) (q : Place) → IsIdle room q.holding → due_on version room (1 + j) q.end q.holding ≡ None
idle_below version room j q idle = idle_on version (1 + j) q.end room q.holding idle

abbrev Before : (Bool → ℕ → List Place → Type 0)
Before room i ps = (j : ℕ) (q : Place) → j < i → slice_get ps j ≡ Some q → IsIdle room q.holding

first_so : (version : ℕ) (room : Bool) (ps : List Place) (i : ℕ) (d : Due) (p : Place) (h : Holding) → slice_get ps i ≡ Some p → p.holding ≡ h
    → Before room i ps → due_by room h ≡ d → is_due d ≡ true
    → due_among version room 1 ps ≡ asking_on version (suc i) d (held_of (suc i) (Some (record p { holding = h })))
first_so version room ps i d p (Gone own) at holds before is due = let no : false ≡ true = ap is_due is ∙ due in absurd cc
first_so version room ps i d p (Keeps k) at holds before is due =
    let asked = some_of (due_so version (suc i) p.end k d) (asked_so version (suc i) p.end room k d is due) in
    let number : 1 + i ≡ suc i = omega arith in
    let on : due_on version room (1 + i) p.end p.holding ≡ Some asked.0 =
    ap₂ (λ (n : ℕ) (g : Holding). due_on version room n p.end g) number holds ∙ ap (λ (e : Due). due_so version (suc i) p.end k e) is ∙ asked.1 in
    first_is_due version room 1 i ps p asked.0 at (λ j q below there. idle_below version room j q (before j q below there)) on ∙ sym asked.1

first_at : (version : ℕ) (room : Bool) (ps : List Place) (i : ℕ) (d : Due) (o : Option Place) → slice_get ps i ≡ o
    → Before room i ps → due_in room o ≡ d → is_due d ≡ true
    → due_among version room 1 ps ≡ asking_on version (suc i) d (held_of (suc i) o)
first_at version room ps i d None at before is due = let no : false ≡ true = ap is_due is ∙ due in absurd cc
first_at version room ps i d (Some p) at before is due = first_so version room ps i d p p.holding at refl before is due

-- the end of this number is the first on which a call is due
pub first_found : (version : ℕ) (room : Bool) (ps : List Place) (n : ℕ) (d : Due)
    → ((j : ℕ) (q : Place) → suc j < n → slice_get ps j ≡ Some q → IsIdle room q.holding)
    → due_in room (place_at n ps) ≡ d → is_due d ≡ true
    → due_among version room 1 ps ≡ asking_on version n d (held_of n (place_at n ps))
first_found version room ps zero d before is due = let no : false ≡ true = ap is_due is ∙ due in absurd cc
first_found version room ps (suc i) d before is due =
    first_at version room ps i d (slice_get ps i) refl (λ j q below there. before j q (omega (arith, below)) there) is due

-- no call is due
pub none_found : (version : ℕ) (room : Bool) (ps : List Place) → ((j : ℕ) (q : Place) → slice_get ps j ≡ Some q → IsIdle room q.holding) → due_among version room 1 ps ≡ None
none_found version room ps idle = none_is_due version room 1 ps (λ j q there. idle_below version room j q (idle j q there))
