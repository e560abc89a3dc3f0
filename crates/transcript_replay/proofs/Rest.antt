-- Which line may follow within the entries of a transcript, and what may follow it.
use Rattle.std.proofs.Common.{◌≡◌, ◌⊎◌, ◌↔◌, inl, inr, ℕ, ◌+◌, ◌<◌, ◌≤◌, ◌^◌, suc, nat_eq, cond, IsTrue, List, [], ◌∷◌, ◌++◌, length, map, Option, Some, None, arith, ap, sym, subst, ◌∙◌, refl, append_assoc}
use Rattle.std.specs.List.{flat_map}
use Rattle.charlotte_calls.specs.declared.calls.Call.{Call}
use Rattle.charlotte_calls.specs.declared.calls.Call.TheVariants as call
use Rattle.charlotte_calls.specs.declared.calls.ServiceStep.{ServiceStep}
use Rattle.charlotte_calls.specs.declared.names.EndId.{EndId}
use Rattle.charlotte_calls.specs.declared.names.Pid.{Pid}
use Rattle.charlotte_packets.specs.declared.picture.Picture.{Picture}
use Rattle.charlotte_calls.specs.declared.setting.Setting.{Setting}
use Rattle.end_table.proofs.Owned.{AreEndsOf-unique}
use Rattle.transcript_lines.specs.declared.last.Last.{Last}
use Rattle.transcript_lines.specs.declared.last.ScriptNote.{ScriptNote}
use Rattle.kernel_step.specs.Calls.{IsCallWith}
use Rattle.kernel_step.specs.Kernel.{Kernel, Outcome, call_step, performs, without_answer}
use Rattle.kernel_world.specs.Run.{AreAllowed, IsAllowed}
use Rattle.kernel_world.specs.World.{World, Event, Calls, Takes, adds_all, after, asked_or_took, first_or, happens, kernel_of, noted, nothing_sent, outcome}
use Rattle.kernel_entries.specs.declared.entry.Happened.{Happened}
use Rattle.kernel_entries.specs.declared.entry.Happened.TheVariants.{Asked, Took}
use Rattle.transcript_reading.specs.Kinds.{entry_kinds, happened_kind, shown_step, without_stamp}
use Rattle.transcript_reading.specs.declared.line.LineKind.{LineKind}
use Rattle.transcript_reading.specs.declared.line.LineKind.TheVariants as line
use Rattle.transcript_reading.specs.declared.line.ServiceLine.{ServiceLine}
use Rattle.transcript_replay.specs.Course.{Course, AreAfter, IsOver, IsRest, IsRestOfNotes, Leads, Refutes, comes_after, end_kinds, goes_on, step_kinds}
use Rattle.transcript_replay.specs.Replay.{AreWithin, IsTrueLast}

pub cons-head : {X : Type 0} (x y : X) (xs ys : List X) → x ∷ xs ≡ y ∷ ys → x ≡ y
cons-head x y xs ys e = cc

pub cons-tail : {X : Type 0} (x y : X) (xs ys : List X) → x ∷ xs ≡ y ∷ ys → xs ≡ ys
cons-tail x y xs ys e = cc

-- ---- events that a line shows alike

-- the line of an event, with a stamp
abbrev pub event_kind : World → ℕ → Event → LineKind
event_kind w stamp e = happened_kind stamp (kernel_of e) (asked_or_took w e)

abbrev pub stamp_of : World → Event → ℕ
stamp_of w e = (outcome w e).kernel.stamp

-- which ends a process is said to own is settled where it matters
calls-alike : (s : Kernel) (p : Pid) (c : Call) (m n : List EndId) → IsCallWith p s.table m c → IsCallWith p s.table n c → call_step (without_answer p s) p m c ≡ call_step (without_answer p s) p n c
unfolding call_step performs
calls-alike s p call.Make m n a b = refl
calls-alike s p (call.Destroy on) m n a b = refl
calls-alike s p (call.Send on bytes xs) m n a b = refl
calls-alike s p (call.Receive on) m n a b = refl
calls-alike s p (call.Cancel on way) m n a b = refl
calls-alike s p call.Wait m n a b = ap (λ l. call_step (without_answer p s) p l call.Wait) (AreEndsOf-unique p s.table m n a b)
calls-alike s p (call.Print bytes) m n a b = refl
calls-alike s p call.Exit m n a b = ap (λ l. call_step (without_answer p s) p l call.Exit) (AreEndsOf-unique p s.table m n a b)

-- two events do the same
pub record IsSame (w : World) (e f : Event) : Type 0 where
  pub outcome_is : outcome w e ≡ outcome w f
  pub world_is : happens w e ≡ happens w f
  pub kernel_is : kernel_of e ≡ kernel_of f

pub calls-same : (w : World) (k j : ℕ) (p q : Pid) (c d : Call) (m n : List EndId) → k ≡ j → p ≡ q → c ≡ d → IsCallWith p (w.kernel k).table m c → IsCallWith q (w.kernel j).table n d → IsSame w (Calls k p c m) (Calls j q d n)
calls-same w k j p q c d m n k_is p_is c_is a b =
    record {
      outcome_is = (λ i. outcome w (Calls (k_is i) (p_is i) (c_is i) m)) ∙ one;
      world_is = (λ i. happens w (Calls (k_is i) (p_is i) (c_is i) m)) ∙ (λ i. record { kernel = λ r. cond (nat_eq r j) (one i).kernel (w.kernel r); packets = adds_all j (one i).packets (λ from to. w.packets from to) });
      kernel_is = k_is;
    }
  where
    moved : IsCallWith q (w.kernel j).table m d
    moved = subst (λ i. IsCallWith q (w.kernel i).table m d) k_is (subst (λ i. IsCallWith i (w.kernel k).table m d) p_is (subst (λ i. IsCallWith p (w.kernel k).table m i) c_is a))

    one : outcome w (Calls j q d m) ≡ outcome w (Calls j q d n)
    one = calls-alike (w.kernel j) q d m n moved b

event-same : (s : Setting) (w : World) (i j : ℕ) (e f : Event) → IsAllowed s w e → IsAllowed s w f → event_kind w i e ≡ event_kind w j f → IsSame w e f
event-same s w i j (Calls k p c m) (Calls l q d n) a b h =
    let k_is : k ≡ l = cc in
    let p_is : p ≡ q = cc in
    let c_is : c ≡ d = cc in
    calls-same w k l p q c d m n k_is p_is c_is a.4 b.4
event-same s w i j (Calls k p c m) (Takes l from) a b h = absurd (cc)
event-same s w i j (Takes k from) (Calls l q d n) a b h = absurd (cc)
event-same s w i j (Takes k from) (Takes l to) a b h =
    let k_is : k ≡ l = cc in
    let from_is : from ≡ to = cc in
    record { outcome_is = λ t. outcome w (Takes (k_is t) (from_is t)); world_is = λ t. happens w (Takes (k_is t) (from_is t)); kernel_is = k_is }

-- ---- lines of different forms

kind-stamp : (i j k l : ℕ) (x y : Happened) → happened_kind i k x ≡ happened_kind j l y → i ≡ j
kind-stamp i j k l (Asked p c) (Asked q d) h = cc
kind-stamp i j k l (Asked p c) (Took from picture) h = absurd (cc)
kind-stamp i j k l (Took from picture) (Asked q d) h = absurd (cc)
kind-stamp i j k l (Took from picture) (Took other shown) h = cc

happened-note : (i k : ℕ) (x : Happened) (n : ScriptNote) → happened_kind i k x ≡ line.Note n → ⊥
happened-note i k (Asked p c) n h = absurd (cc)
happened-note i k (Took from picture) n h = absurd (cc)

happened-end : (i k : ℕ) (x : Happened) (l : Last) → happened_kind i k x ≡ line.End l → ⊥
happened-end i k (Asked p c) l h = absurd (cc)
happened-end i k (Took from picture) l h = absurd (cc)

happened-service : (i k : ℕ) (x : Happened) (s : ServiceLine) → line.Service s ≡ happened_kind i k x → ⊥
happened-service i k (Asked p c) s h = absurd (cc)
happened-service i k (Took from picture) s h = absurd (cc)

-- ---- what may follow where no step is due

abbrev tail_kinds : Course → List Event → List ScriptNote → Last → List LineKind
tail_kinds c es notes last = flat_map entry_kinds (noted c.world es) ++ end_kinds notes last

-- an event, its steps, and what follows them
event-first : (c : Course) (e : Event) (es : List Event) (notes : List ScriptNote) (last : Last) → tail_kinds c (e ∷ es) notes last ≡ event_kind c.world (stamp_of c.world e) e ∷ (step_kinds (goes_on c e).due ++ tail_kinds (goes_on c e) es notes last)
event-first c e es notes last = ap (λ ks. event_kind c.world (stamp_of c.world e) e ∷ ks) (append_assoc (step_kinds (goes_on c e).due) (flat_map entry_kinds (noted (happens c.world e) es)) (end_kinds notes last))

undue : (c : Course) (ks xs : List LineKind) → c.due ≡ [] → ks ≡ step_kinds c.due ++ xs → ks ≡ xs
undue c ks xs none shown = shown ∙ ap (λ ss. step_kinds ss ++ xs) none

redue : (c : Course) (ks xs : List LineKind) → c.due ≡ [] → ks ≡ xs → ks ≡ step_kinds c.due ++ xs
redue c ks xs none shown = shown ∙ ap (λ ss. step_kinds ss ++ xs) (sym none)

-- an event that a line shows
pub record IsEventLine (c : Course) (kind : LineKind) (more : List LineKind) (last : Last) : Type 0 where
  pub event : Event
  pub allowed : IsAllowed c.setting c.world event
  pub within : kernel_of event < c.setting.kernels
  pub few : c.events + 1 ≤ 2 ^ 31
  pub order : IsTrue (comes_after c.latest (stamp_of c.world event) (kernel_of event))
  pub shows : kind ≡ event_kind c.world (stamp_of c.world event) event
  pub rest : IsRest (goes_on c event) more last

-- a note, which stands behind all entries
pub record IsNoteLine (c : Course) (kind : LineKind) (more : List LineKind) (last : Last) : Type 0 where
  pub note : ScriptNote
  pub shows : kind ≡ line.Note note
  pub rest : IsRestOfNotes c more last

pub record IsEndLine (c : Course) (kind : LineKind) (more : List LineKind) (last : Last) : Type 0 where
  pub shows : kind ≡ line.End last
  pub nothing : more ≡ []
  pub true_last : IsTrueLast c.setting c.world last

-- the next line where no step is due: an entry, a note or the end
pub first-line : (c : Course) (kind : LineKind) (more : List LineKind) (last : Last) → c.due ≡ [] → IsRest c (kind ∷ more) last → IsEventLine c kind more last ⊎ (IsNoteLine c kind more last ⊎ IsEndLine c kind more last)
first-line c kind more last none rest = by rest.events rest.notes rest.allowed rest.within rest.few rest.order rest.shown rest.true_last
  where
    by : (es : List Event) (notes : List ScriptNote) → AreAllowed c.setting c.world es → AreWithin c.setting es → c.events + length es ≤ 2 ^ 31 → AreAfter c.latest (noted c.world es) → kind ∷ more ≡ step_kinds c.due ++ tail_kinds c es notes last → IsTrueLast c.setting (after c.world es) last
        → IsEventLine c kind more last ⊎ (IsNoteLine c kind more last ⊎ IsEndLine c kind more last)
    by [] [] allowed within few order shown is_true =
        let here : kind ∷ more ≡ line.End last ∷ [] = undue c (kind ∷ more) (tail_kinds c [] [] last) none shown in
        inr (inr (record { shows = cons-head kind (line.End last) more [] here; nothing = cons-tail kind (line.End last) more [] here; true_last = is_true }))
    by [] (n ∷ notes) allowed within few order shown is_true =
        let here : kind ∷ more ≡ line.Note n ∷ end_kinds notes last = undue c (kind ∷ more) (tail_kinds c [] (n ∷ notes) last) none shown in
        inr (inl (record {
          note = n;
          shows = cons-head kind (line.Note n) more (end_kinds notes last) here;
          rest = record { notes = notes; shown = cons-tail kind (line.Note n) more (end_kinds notes last) here; true_last = is_true };
        }))
    by (e ∷ es) notes allowed within few order shown is_true =
        let k : LineKind = event_kind c.world (stamp_of c.world e) e in
        let ks : List LineKind = step_kinds (goes_on c e).due ++ tail_kinds (goes_on c e) es notes last in
        let here : kind ∷ more ≡ k ∷ ks = undue c (kind ∷ more) (tail_kinds c (e ∷ es) notes last) none shown ∙ event-first c e es notes last in
        inl (record {
          event = e;
          allowed = allowed.0;
          within = within.0;
          few = omega (arith, few);
          order = order.0;
          shows = cons-head kind k more ks here;
          rest = record { events = es; allowed = allowed.1; within = within.1; few = omega (arith, few); order = order.1; notes = notes; shown = cons-tail kind k more ks here; true_last = is_true };
        })

-- ---- an entry

goes-same : (c : Course) (e f : Event) → IsSame c.world e f → goes_on c f ≡ goes_on c e
goes-same c e f same = sym (λ i. record { setting = c.setting; world = same.world_is i; events = c.events + 1; latest = Some ((same.outcome_is i).kernel.stamp, same.kernel_is i); due = (same.outcome_is i).steps })

pub leads-entry : (c : Course) (e : Event) (stamp : ℕ) → c.due ≡ [] → IsAllowed c.setting c.world e → kernel_of e < c.setting.kernels → c.events + 1 ≤ 2 ^ 31 → stamp_of c.world e ≡ stamp → IsTrue (comes_after c.latest stamp (kernel_of e)) → Leads c (event_kind c.world stamp e) (goes_on c e)
leads-entry c e stamp none allowed within few stamp_is order more last = (to, from)
  where
    k : LineKind
    k = event_kind c.world stamp e

    to : IsRest c (k ∷ more) last → IsRest (goes_on c e) more last
    to rest = elim (first-line c k more last none rest) [
      | inl x ↦ subst (λ d. IsRest d more last) (goes-same c e x.event (event-same c.setting c.world stamp (stamp_of c.world x.event) e x.event allowed x.allowed x.shows)) x.rest
      | inr y ↦ elim y [
        | inl x ↦ absurd (happened-note stamp (kernel_of e) (asked_or_took c.world e) x.note x.shows)
        | inr x ↦ absurd (happened-end stamp (kernel_of e) (asked_or_took c.world e) last x.shows)
      ]
    ]

    from : IsRest (goes_on c e) more last → IsRest c (k ∷ more) last
    from rest = record {
      events = e ∷ rest.events;
      allowed = (allowed, rest.allowed);
      within = (within, rest.within);
      few = omega (arith, rest.few);
      order = (subst (λ i. IsTrue (comes_after c.latest i (kernel_of e))) (sym stamp_is) order, rest.order);
      notes = rest.notes;
      shown = redue c (k ∷ more) (tail_kinds c (e ∷ rest.events) rest.notes last) none
          (ap (λ ks. k ∷ ks) rest.shown ∙ ap (λ i. event_kind c.world i e ∷ (step_kinds (goes_on c e).due ++ tail_kinds (goes_on c e) rest.events rest.notes last)) (sym stamp_is) ∙ sym (event-first c e rest.events rest.notes last));
      true_last = rest.true_last;
    }

-- the stamp of an event is another, or its entry may not stand there
pub refutes-entry : (c : Course) (e : Event) (stamp : ℕ) → c.due ≡ [] → IsAllowed c.setting c.world e → (stamp_of c.world e ≡ stamp → IsTrue (comes_after c.latest stamp (kernel_of e)) → ⊥) → Refutes c (event_kind c.world stamp e)
refutes-entry c e stamp none allowed not more last rest = elim (first-line c (event_kind c.world stamp e) more last none rest) [
  | inl x ↦
      let same : IsSame c.world e x.event = event-same c.setting c.world stamp (stamp_of c.world x.event) e x.event allowed x.allowed x.shows in
      let stamp_is : stamp ≡ stamp_of c.world x.event = kind-stamp stamp (stamp_of c.world x.event) (kernel_of e) (kernel_of x.event) (asked_or_took c.world e) (asked_or_took c.world x.event) x.shows in
      not (ap (λ (o : Outcome). o.kernel.stamp) same.outcome_is ∙ sym stamp_is)
      (subst (λ i. IsTrue (comes_after c.latest stamp i)) (sym same.kernel_is) (subst (λ i. IsTrue (comes_after c.latest i (kernel_of x.event))) (sym stamp_is) x.order))
  | inr y ↦ elim y [
    | inl x ↦ happened-note stamp (kernel_of e) (asked_or_took c.world e) x.note x.shows
    | inr x ↦ happened-end stamp (kernel_of e) (asked_or_took c.world e) last x.shows
  ]
]

-- no further event may happen
pub refutes-many : (c : Course) (stamp k : ℕ) (x : Happened) → c.due ≡ [] → (c.events + 1 ≤ 2 ^ 31 → ⊥) → Refutes c (happened_kind stamp k x)
refutes-many c stamp k x none many more last rest = elim (first-line c (happened_kind stamp k x) more last none rest) [
  | inl y ↦ many y.few
  | inr y ↦ elim y [ inl z ↦ happened-note stamp k x z.note z.shows | inr z ↦ happened-end stamp k x last z.shows ]
]

-- the call that an entry shows is allowed
pub refutes-call : (c : Course) (stamp k : ℕ) (p : Pid) (called : Call) → c.due ≡ [] → ((mine : List EndId) → IsAllowed c.setting c.world (Calls k p called mine) → ⊥) → Refutes c (line.CallEntry stamp k p called)
refutes-call c stamp k p called none not more last rest = elim (first-line c (line.CallEntry stamp k p called) more last none rest) [
  | inl x ↦ by x.event x.allowed x.shows
  | inr y ↦ elim y [ inl z ↦ happened-note stamp k (Asked p called) z.note z.shows | inr z ↦ happened-end stamp k (Asked p called) last z.shows ]
]
  where
    by : (e : Event) → IsAllowed c.setting c.world e → line.CallEntry stamp k p called ≡ event_kind c.world (stamp_of c.world e) e → ⊥
    by (Calls j q d m) allowed h =
        let k_is : j ≡ k = cc in
        let p_is : q ≡ p = cc in
        let c_is : d ≡ called = cc in
        not m (subst (λ i. IsAllowed c.setting c.world (Calls i p called m)) k_is (subst (λ i. IsAllowed c.setting c.world (Calls j i called m)) p_is (subst (λ i. IsAllowed c.setting c.world (Calls j q i m)) c_is allowed)))
    by (Takes j from) allowed h = absurd (cc)

-- the packet that an entry shows is the first of its list
pub refutes-taking : (c : Course) (stamp k from : ℕ) (picture : Picture) → c.due ≡ [] → (k < c.setting.kernels → (q : Picture) (qs : List Picture) → c.world.packets from k ≡ q ∷ qs → picture ≡ without_stamp q → ⊥) → Refutes c (line.PacketEntry stamp k from picture)
refutes-taking c stamp k from picture none not more last rest = elim (first-line c (line.PacketEntry stamp k from picture) more last none rest) [
  | inl x ↦ by x.event x.allowed x.within x.shows
  | inr y ↦ elim y [ inl z ↦ absurd (other_note z.note z.shows) | inr z ↦ absurd (other_end last z.shows) ]
]
  where
    other_note : (n : ScriptNote) → line.PacketEntry stamp k from picture ≡ line.Note n → ⊥
    other_note n h = absurd (cc)

    other_end : (l : Last) → line.PacketEntry stamp k from picture ≡ line.End l → ⊥
    other_end l h = absurd (cc)

    there : (qs : List Picture) → k < c.setting.kernels → c.world.packets from k ≡ qs → (qs ≡ [] → ⊥) → picture ≡ without_stamp (first_or nothing_sent qs) → ⊥
    there [] below at some h = some refl
    there (q ∷ qs) below at some h = not below q qs at h

    by : (e : Event) → IsAllowed c.setting c.world e → kernel_of e < c.setting.kernels → line.PacketEntry stamp k from picture ≡ event_kind c.world (stamp_of c.world e) e → ⊥
    by (Calls j q d m) allowed within h = absurd (cc)
    by (Takes j other) allowed within h =
        let k_is : j ≡ k = cc in
        let from_is : other ≡ from = cc in
        let shown : picture ≡ without_stamp (first_or nothing_sent (c.world.packets other j)) = cc in
        there (c.world.packets from k) (subst (λ i. i < c.setting.kernels) k_is within) refl (subst (λ i. c.world.packets from i ≡ [] → ⊥) k_is (subst (λ i. c.world.packets i j ≡ [] → ⊥) from_is allowed))
        (subst (λ i. picture ≡ without_stamp (first_or nothing_sent (c.world.packets from i))) k_is (subst (λ i. picture ≡ without_stamp (first_or nothing_sent (c.world.packets i j))) from_is shown))

-- ---- a step

pub leads-step : (c : Course) (s : ServiceStep) (ss : List ServiceStep) → c.due ≡ s ∷ ss → Leads c (line.Service (shown_step s)) (record { setting = c.setting; world = c.world; events = c.events; latest = c.latest; due = ss })
leads-step c s ss due more last = (
  λ rest. record {
    events = rest.events;
    allowed = rest.allowed;
    within = rest.within;
    few = rest.few;
    order = rest.order;
    notes = rest.notes;
    shown = cons-tail k k more (step_kinds ss ++ tail_kinds c rest.events rest.notes last) (rest.shown ∙ ap (λ xs. step_kinds xs ++ tail_kinds c rest.events rest.notes last) due);
    true_last = rest.true_last;
  },
  λ rest. record {
    events = rest.events;
    allowed = rest.allowed;
    within = rest.within;
    few = rest.few;
    order = rest.order;
    notes = rest.notes;
    shown = ap (λ ks. k ∷ ks) rest.shown ∙ ap (λ xs. step_kinds xs ++ tail_kinds c rest.events rest.notes last) (sym due);
    true_last = rest.true_last;
  },
)
  where
    k : LineKind
    k = line.Service (shown_step s)

-- another line than that of the step that is due
pub refutes-due : (c : Course) (s : ServiceStep) (ss : List ServiceStep) (kind : LineKind) → c.due ≡ s ∷ ss → (line.Service (shown_step s) ≡ kind → ⊥) → Refutes c kind
refutes-due c s ss kind due not more last rest =
    not (sym (cons-head kind (line.Service (shown_step s)) more (step_kinds ss ++ tail_kinds c rest.events rest.notes last) (rest.shown ∙ ap (λ xs. step_kinds xs ++ tail_kinds c rest.events rest.notes last) due)))

-- the line of a step where none is due
pub refutes-service : (c : Course) (s : ServiceLine) → c.due ≡ [] → Refutes c (line.Service s)
refutes-service c s none more last rest = elim (first-line c (line.Service s) more last none rest) [
  | inl x ↦ happened-service (stamp_of c.world x.event) (kernel_of x.event) (asked_or_took c.world x.event) s x.shows
  | inr y ↦ elim y [ inl z ↦ other_note z.note z.shows | inr z ↦ other_end last z.shows ]
]
  where
    other_note : (n : ScriptNote) → line.Service s ≡ line.Note n → ⊥
    other_note n h = absurd (cc)

    other_end : (l : Last) → line.Service s ≡ line.End l → ⊥
    other_end l h = absurd (cc)

-- ---- notes and the end

pub leads-note : (c : Course) (n : ScriptNote) (more : List LineKind) (last : Last) → c.due ≡ [] → c.events ≤ 2 ^ 31 → IsRest c (line.Note n ∷ more) last ↔ IsRestOfNotes c more last
leads-note c n more last none few = (
  λ rest. elim (first-line c (line.Note n) more last none rest) [
    | inl x ↦ absurd (happened-note (stamp_of c.world x.event) (kernel_of x.event) (asked_or_took c.world x.event) n (sym x.shows))
    | inr y ↦ elim y [ inl x ↦ x.rest | inr x ↦ absurd (other last x.shows) ]
  ],
  λ rest. record {
    events = [];
    allowed = tt;
    within = tt;
    few = omega (arith, few);
    order = tt;
    notes = n ∷ rest.notes;
    shown = redue c (line.Note n ∷ more) (tail_kinds c [] (n ∷ rest.notes) last) none (ap (λ ks. line.Note n ∷ ks) rest.shown);
    true_last = rest.true_last;
  },
)
  where
    other : (l : Last) → line.Note n ≡ line.End l → ⊥
    other l h = absurd (cc)

pub leads-notes : (c : Course) (n : ScriptNote) (more : List LineKind) (last : Last) → IsRestOfNotes c (line.Note n ∷ more) last ↔ IsRestOfNotes c more last
leads-notes c n more last = (λ rest. to rest.notes rest.shown rest.true_last, λ rest. record { notes = n ∷ rest.notes; shown = ap (λ ks. line.Note n ∷ ks) rest.shown; true_last = rest.true_last })
  where
    to : (notes : List ScriptNote) → line.Note n ∷ more ≡ end_kinds notes last → IsTrueLast c.setting c.world last → IsRestOfNotes c more last
    to [] shown is_true = absurd (other (cons-head (line.Note n) (line.End last) more [] shown))
      where
        other : line.Note n ≡ line.End last → ⊥
        other h = absurd (cc)
    to (m ∷ notes) shown is_true = record { notes = notes; shown = cons-tail (line.Note n) (line.Note m) more (end_kinds notes last) shown; true_last = is_true }

end-same : (l m : Last) → line.End l ≡ line.End m → m ≡ l
end-same l m h = cc

pub leads-end : (c : Course) (l : Last) (more : List LineKind) (last : Last) → c.due ≡ [] → c.events ≤ 2 ^ 31 → IsTrueLast c.setting c.world l → IsRest c (line.End l ∷ more) last ↔ IsOver l more last
leads-end c l more last none few is_true = (
  λ rest. elim (first-line c (line.End l) more last none rest) [
    | inl x ↦ absurd (happened-end (stamp_of c.world x.event) (kernel_of x.event) (asked_or_took c.world x.event) l (sym x.shows))
    | inr y ↦ elim y [ inl x ↦ absurd (other x.note x.shows) | inr x ↦ (x.nothing, end-same l last x.shows) ]
  ],
  λ over. record {
    events = [];
    allowed = tt;
    within = tt;
    few = omega (arith, few);
    order = tt;
    notes = [];
    shown = redue c (line.End l ∷ more) (line.End last ∷ []) none (λ i. line.End (sym over.1 i) ∷ over.0 i);
    true_last = subst (λ x. IsTrueLast c.setting c.world x) (sym over.1) is_true;
  },
)
  where
    other : (n : ScriptNote) → line.End l ≡ line.Note n → ⊥
    other n h = absurd (cc)

-- a last line that is not true
pub refutes-end : (c : Course) (l : Last) → c.due ≡ [] → (IsTrueLast c.setting c.world l → ⊥) → Refutes c (line.End l)
refutes-end c l none not more last rest = elim (first-line c (line.End l) more last none rest) [
  | inl x ↦ happened-end (stamp_of c.world x.event) (kernel_of x.event) (asked_or_took c.world x.event) l (sym x.shows)
  | inr y ↦ elim y [ inl x ↦ other x.note x.shows | inr x ↦ not (subst (λ m. IsTrueLast c.setting c.world m) (end-same l last x.shows) x.true_last) ]
]
  where
    other : (n : ScriptNote) → line.End l ≡ line.Note n → ⊥
    other n h = absurd (cc)

notes-end : (c : Course) (l : Last) (more : List LineKind) (last : Last) → IsRestOfNotes c (line.End l ∷ more) last → IsOver l more last × IsTrueLast c.setting c.world l
notes-end c l more last rest = by rest.notes rest.shown rest.true_last
  where
    by : (notes : List ScriptNote) → line.End l ∷ more ≡ end_kinds notes last → IsTrueLast c.setting c.world last → IsOver l more last × IsTrueLast c.setting c.world l
    by [] shown is_true =
        let same : last ≡ l = end-same l last (cons-head (line.End l) (line.End last) more [] shown) in ((cons-tail (line.End l) (line.End last) more [] shown, same), subst (λ m. IsTrueLast c.setting c.world m) same is_true)
    by (n ∷ notes) shown is_true = absurd (other (cons-head (line.End l) (line.Note n) more (end_kinds notes last) shown))
      where
        other : line.End l ≡ line.Note n → ⊥
        other h = absurd (cc)

pub leads-notes-end : (c : Course) (l : Last) (more : List LineKind) (last : Last) → IsTrueLast c.setting c.world l → IsRestOfNotes c (line.End l ∷ more) last ↔ IsOver l more last
leads-notes-end c l more last is_true = (
  λ rest. (notes-end c l more last rest).0,
  λ over. record { notes = []; shown = λ i. line.End (sym over.1 i) ∷ over.0 i; true_last = subst (λ m. IsTrueLast c.setting c.world m) (sym over.1) is_true },
)

pub refutes-notes-end : (c : Course) (l : Last) (more : List LineKind) (last : Last) → (IsTrueLast c.setting c.world l → ⊥) → IsRestOfNotes c (line.End l ∷ more) last → ⊥
refutes-notes-end c l more last not rest = not (notes-end c l more last rest).1
