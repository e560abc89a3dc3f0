-- Kernels with their journals: one event, and one after the other.
use Rattle.std.proofs.Common.{◌≡◌, ◌≢◌, inl, inr, ℕ, ◌+◌, ◌-◌, ◌^◌, ◌<◌, Bool, true, false, nat_eq, List, [], ◌∷◌, ◌++◌, length, map, set, get_or, slice_get, All, Bor, Option, None, Some, cond, not, is_some, arith, ap, sym, subst, ◌∙◌, refl, append_assoc, append-nil, length-set}
use Rattle.std.specs.List.{filter}
use Rattle.std.specs.Option.{option_copied, option_map}
use Rattle.std.proofs.lemmas.List.{map-append}
use Rattle.std.proofs.lemmas.List.Elements.{filter-append}
use Rattle.std.proofs.lemmas.Bool.Decides.{eqb_tells}
use Rattle.charlotte_packets.specs.Packets.{packet_picture}
use Rattle.charlotte_calls.specs.declared.calls.Call.{Call}
use Rattle.charlotte_calls.specs.declared.names.EndId.{EndId}
use Rattle.charlotte_calls.specs.declared.names.Pid.{Pid}
use Rattle.charlotte_packets.specs.declared.packet.Packet.{Packet}
use Rattle.kernel_step.specs.Calls.{IsCallWith}
use Rattle.charlotte_calls.specs.declared.calls.ServiceStep.{ServiceStep}
use Rattle.charlotte_packets.specs.declared.picture.Picture.{Picture}
use Rattle.charlotte_calls.specs.declared.setting.Setting.{Setting}
use Rattle.journal_text.specs.Journal.{IsAfterLast}
use Rattle.kernel_nodes.specs.Nodes.{AreNodes, Happens, IsNotedOf, world_of}
use Rattle.kernel_nodes.specs.declared.node.Node.{Node}
use Rattle.kernel_nodes.specs.declared.nodes.Noted.{Noted}
use Rattle.kernel_step.specs.Kernel.{Outcome}
use Rattle.kernel_entries.specs.Ranges.{IsEntryInRange}
use Rattle.kernel_entries.specs.Order.{of_kernel}
use Rattle.kernel_world.specs.Run.{IsAllowed, AreAllowed}
use Rattle.kernel_world.specs.World.{World, Event, Calls, kernel_of, outcome, happens, asked_or_took, noted_as, nothing_sent, first_or, after, noted}
use Rattle.kernel_entries.specs.declared.entry.Entry.{Entry}
use Rattle.kernel_entries.specs.declared.entry.Placed.{Placed}
use Rattle.script_run.specs.Recorded.{AreRecorded, AreReady, Goes, IsCaller, noted_at, world_at}
use Rattle.script_run.specs.declared.recorded.Recorded.{Recorded}
use Rattle.kernel_nodes.proofs.Lists.{map-set_same, map-set_other, map-read}
use Rattle.script_run.proofs.Stamps.{IsUpTo, after_last, up_to-push}
use Rattle.transcript_record.proofs.Runs.{after-append, noted-append}
use Rattle.transcript_record.proofs.Worlds.{IsEvent, is_event, told-after}
use Rattle.transcript_record.specs.Told.{IsToldWorld}
use Rattle.written_journal.specs.Kept.{Happenings}

-- ---- journals

abbrev pub entries_of : Happenings → List Entry
entries_of j = j.entries

-- what was noted, of journals by their numbers
abbrev pub noted_in : List Happenings → ℕ → List Entry
noted_in js k = get_or (map entries_of js) k []

noted-set : (js : List Happenings) (k : ℕ) (j : Happenings) (q : ℕ) → k < length js → noted_in (set js k j) q ≡ cond (nat_eq q k) j.entries (noted_in js q)
noted-set js k j q below = elim (eqb_tells q k) [
  | inl e ↦ ap (noted_in (set js k j)) e.1 ∙ map-set_same entries_of js k j [] below ∙ sym (ap (λ b. cond b j.entries (noted_in js q)) e.0)
  | inr e ↦ map-set_other entries_of js k q j [] e.1 ∙ sym (ap (λ b. cond b j.entries (noted_in js q)) e.0)
]

one_of_kernel : (q : ℕ) (p : Placed) (es : List Entry) → cond (nat_eq q p.kernel) (es ++ p.entry ∷ []) es ≡ es ++ of_kernel q (p ∷ [])
one_of_kernel q p es = elim (eqb_tells q p.kernel) as (λ _. cond (nat_eq q p.kernel) (es ++ p.entry ∷ []) es ≡ es ++ of_kernel q (p ∷ [])) [
  | inl e ↦ ap (λ b. cond b (es ++ p.entry ∷ []) es) e.0 ∙ ap (λ b. es ++ map (λ (x : Placed). x.entry) (cond b (p ∷ []) [])) (sym (swap true e.0))
  | inr e ↦ ap (λ b. cond b (es ++ p.entry ∷ []) es) e.0 ∙ sym (append-nil es) ∙ ap (λ b. es ++ map (λ (x : Placed). x.entry) (cond b (p ∷ []) [])) (sym (swap false e.0))
]
  where
    swap : (b : Bool) → nat_eq q p.kernel ≡ b → nat_eq p.kernel q ≡ b
    swap b e = elim (eqb_tells q p.kernel) [
      | inl x ↦ elim (eqb_tells p.kernel q) [ inl y ↦ y.0 ∙ sym x.0 ∙ e | inr y ↦ absurd (y.1 (sym x.1)) ]
      | inr x ↦ elim (eqb_tells p.kernel q) [ inl y ↦ absurd (x.1 (sym y.1)) | inr y ↦ y.0 ∙ sym x.0 ∙ e ]
    ]

-- ---- one event

-- a kernel's event that is allowed is noted in its journal, which is j0 before
pub record IsNoting (s : Setting) (n : ℕ) (run : Recorded) (e : Event) (i : ℕ) (j0 : Happenings) : Type 0 where
  pub early : n < 2 ^ 32
  pub ready : AreReady s n run
  pub allowed : IsAllowed s (world_at s run) e
  pub at : kernel_of e ≡ i
  pub below : i < length run.journals.items
  pub journal : j0 ≡ get_or run.journals.items i j0

pub noting : (s : Setting) (n : ℕ) (run : Recorded) (e : Event) (k i : ℕ) (j0 : Happenings) → n < 2 ^ 32 → AreReady s n run → IsAllowed s (world_at s run) e → kernel_of e ≡ k → k < s.kernels → i ≡ k → j0 ≡ get_or run.journals.items i j0 → IsNoting s n run e i j0
noting s n run e k i j0 early ready allowed at below is journal =
    let count : length run.journals.items ≡ s.kernels = ready.recorded.journals in
    record { early = early; ready = ready; allowed = allowed; at = at ∙ sym is; below = omega (arith, count, below, is); journal = journal }

-- a call is allowed that a process may make
pub caller-allowed : (s : Setting) (w : World) (k : ℕ) (p : Pid) (c : Call) (mine : List EndId) → IsCaller s w k p c → IsCallWith p (w.kernel k).table mine c → IsAllowed s w (Calls k p c mine)
caller-allowed s w k p c mine is with = (is.process, is.at_home, is.runs, is.fits, with)

-- it has a stamp that is later than those noted there
pub noting-later : (s : Setting) (n : ℕ) (run : Recorded) (e : Event) (i : ℕ) (j0 : Happenings) (entry : Noted) (before : List Entry) → IsNoting s n run e i j0 → IsNotedOf (outcome (world_at s run) e) entry → before ≡ j0.entries → IsAfterLast before entry.stamp
noting-later s n run e i j0 entry before is what same =
    subst (λ es. IsAfterLast es entry.stamp) (sym same) (subst (IsAfterLast j0.entries) (sym what.stamp)
    (after_last j0.entries (w.kernel k).stamp (outcome w e).kernel.stamp (subst (All (IsUpTo (w.kernel k).stamp)) held (is.ready.recorded.stamped k)) event.later))
  where
    w : World
    w = world_at s run

    k : ℕ
    k = kernel_of e

    event : IsEvent s n w e
    event = let early = is.early in is_event s n w e (omega arith) is.allowed is.ready.told

    held : noted_at run k ≡ j0.entries
    held = ap (noted_at run) is.at ∙ map-read entries_of run.journals.items i j0 [] is.below is.journal

-- the entry of an event, as a journal has it
abbrev pub entry_of : World → Event → Noted → Entry
entry_of w e entry = record { stamp = entry.stamp; what = asked_or_took w e; steps = entry.steps.items }

-- the event happened, and was noted
pub event-goes : (s : Setting) (n : ℕ) (run new : Recorded) (e : Event) (i : ℕ) (j0 j1 : Happenings) (entry : Noted) (ms : List Node) → IsNoting s n run e i j0 → Happens s e entry run.nodes.nodes.items ms
    → AreNodes s new.nodes.nodes.items × (world_of s new.nodes.nodes.items ≡ world_of s ms) → new.journals.items ≡ set run.journals.items i j1 → j1.entries ≡ j0.entries ++ entry_of (world_at s run) e entry ∷ []
    → All IsEntryInRange j1.entries → Goes s run new (e ∷ [])
event-goes s n run new e i j0 j1 entry ms is did nodes journals entries in_range =
    record {
      allowed = (is.allowed, tt);
      world = world;
      entries = λ q. there q ∙ whole q;
      recorded = record {
        nodes = nodes.0;
        journals = ap length journals ∙ length-set run.journals.items i j1 ∙ is.ready.recorded.journals;
        stamped = λ q. subst (All (IsUpTo ((world_at s new).kernel q).stamp)) (sym (there q)) (subst (λ (x : World). All (IsUpTo (x.kernel q).stamp) (after_it q)) (sym world) (stamped q));
        in_range = λ q. subst (All IsEntryInRange) (sym (there q)) (elim (nat_eq q i) as (λ b. All IsEntryInRange (cond b j1.entries (noted_at run q))) [ true ↦ in_range | false ↦ is.ready.recorded.in_range q ]);
      };
    }
  where
    w : World
    w = world_at s run

    k : ℕ
    k = kernel_of e

    o : Outcome
    o = outcome w e

    event : IsEvent s n w e
    event = let early = is.early in is_event s n w e (omega arith) is.allowed is.ready.told

    world : world_at s new ≡ happens w e
    world = nodes.1 ∙ did.world

    after_it : ℕ → List Entry
    after_it q = cond (nat_eq q i) j1.entries (noted_at run q)

    there : (q : ℕ) → noted_at new q ≡ after_it q
    there q = ap (λ js. noted_in js q) journals ∙ noted-set run.journals.items i j1 q is.below

    held : (q : ℕ) → q ≡ i → noted_at run q ≡ j0.entries
    held q at = ap (noted_at run) at ∙ map-read entries_of run.journals.items i j0 [] is.below is.journal

    here : entry_of w e entry ≡ (noted_as w e).entry
    here = ap (λ (m : ℕ). record { stamp = m; what = asked_or_took w e; steps = entry.steps.items }) did.noted.stamp ∙ ap (λ (ss : List ServiceStep). record { stamp = o.kernel.stamp; what = asked_or_took w e; steps = ss }) did.noted.steps

    all : j1.entries ≡ j0.entries ++ (noted_as w e).entry ∷ []
    all = entries ∙ ap (λ (x : Entry). j0.entries ++ x ∷ []) here

    whole : (q : ℕ) → after_it q ≡ noted_at run q ++ of_kernel q (noted_as w e ∷ [])
    whole q = elim (eqb_tells q i) as (λ _. cond (nat_eq q i) j1.entries (noted_at run q) ≡ cond (nat_eq q i) (noted_at run q ++ (noted_as w e).entry ∷ []) (noted_at run q)) [
      | inl x ↦ ap (λ b. cond b j1.entries (noted_at run q)) x.0 ∙ all ∙ ap (λ es. es ++ (noted_as w e).entry ∷ []) (sym (held q x.1)) ∙ sym (ap (λ b. cond b (noted_at run q ++ (noted_as w e).entry ∷ []) (noted_at run q)) x.0)
      | inr x ↦ ap (λ b. cond b j1.entries (noted_at run q)) x.0 ∙ sym (ap (λ b. cond b (noted_at run q ++ (noted_as w e).entry ∷ []) (noted_at run q)) x.0)
    ] ∙ ap (λ m. cond (nat_eq q m) (noted_at run q ++ (noted_as w e).entry ∷ []) (noted_at run q)) (sym is.at) ∙ one_of_kernel q (noted_as w e) (noted_at run q)

    stamped : (q : ℕ) → All (IsUpTo ((happens w e).kernel q).stamp) (after_it q)
    stamped q = subst (λ m. All (IsUpTo (cond (nat_eq q m) o.kernel (w.kernel q)).stamp) (after_it q)) (sym is.at) (elim (eqb_tells q i) as (λ _. All (IsUpTo (cond (nat_eq q i) o.kernel (w.kernel q)).stamp) (cond (nat_eq q i) j1.entries (noted_at run q))) [
      | inl x ↦ subst (λ b. All (IsUpTo (cond b o.kernel (w.kernel q)).stamp) (cond b j1.entries (noted_at run q))) (sym x.0) (subst (All (IsUpTo o.kernel.stamp)) (sym all)
          (up_to-push j0.entries (noted_as w e).entry (w.kernel k).stamp o.kernel.stamp (subst (All (IsUpTo (w.kernel k).stamp)) (held k is.at) (is.ready.recorded.stamped k)) (let up = event.later in omega arith) (omega arith)))
      | inr x ↦ subst (λ b. All (IsUpTo (cond b o.kernel (w.kernel q)).stamp) (cond b j1.entries (noted_at run q))) (sym x.0) (is.ready.recorded.stamped q)
    ])

-- ---- the first packet, which is lent

pub some-first : (qs : List Picture) (q : Picture) → Some q ≡ slice_get qs 0 → qs ≢ []
some-first [] q first e = let no : Some q ≡ None = first in cc
some-first (x ∷ xs) q first e = cc

pub first-is : (qs : List Picture) (q : Picture) → Some q ≡ slice_get qs 0 → q ≡ first_or nothing_sent qs
first-is [] q first = let no : Some q ≡ None = first in absurd (cc)
first-is (x ∷ xs) q first = let same : Some q ≡ Some x = first in cc

pub some-sent : (first : Option (Bor Packet)) (qs : List Picture) → option_map packet_picture (option_copied first) ≡ slice_get qs 0 → is_some first ≡ not (nat_eq (length qs) 0)
some-sent None [] e = refl
some-sent None (q ∷ qs) e = let no : None ≡ Some q = e in absurd (cc)
some-sent (Some b) [] e = let no : Some (packet_picture b.now) ≡ None = e in absurd (cc)
some-sent (Some b) (q ∷ qs) e = elim (eqb_tells (length (q ∷ qs)) 0) as (λ _. true ≡ not (nat_eq (length (q ∷ qs)) 0)) [
  | inl x ↦ let no : length (q ∷ qs) ≡ 0 = x.1 in absurd (omega (arith, no))
  | inr x ↦ ap not (sym x.0)
]

pub none-first : (qs : List Picture) → None ≡ slice_get qs 0 → qs ≡ []
none-first [] first = refl
none-first (x ∷ xs) first = let no : None ≡ Some x = first in absurd (cc)

-- ---- one after the other

pub AreAllowed-append : (s : Setting) (w : World) (es fs : List Event) → AreAllowed s w es → AreAllowed s (after w es) fs → AreAllowed s w (es ++ fs)
AreAllowed-append s w [] fs a b = b
AreAllowed-append s w (e ∷ es) fs a b = (a.0, AreAllowed-append s (happens w e) es fs a.1 b)

pub of_kernel-append : (k : ℕ) (ps qs : List Placed) → of_kernel k (ps ++ qs) ≡ of_kernel k ps ++ of_kernel k qs
of_kernel-append k ps qs =
    ap (map (λ (p : Placed). p.entry)) (filter-append (λ (p : Placed). nat_eq p.kernel k) ps qs) ∙ map-append (λ (p : Placed). p.entry) (filter (λ (p : Placed). nat_eq p.kernel k) ps) (filter (λ (p : Placed). nat_eq p.kernel k) qs)

pub Goes-then : (s : Setting) (a b c : Recorded) (es fs : List Event) → Goes s a b es → Goes s b c fs → Goes s a c (es ++ fs)
Goes-then s a b c es fs first second =
    record {
      allowed = AreAllowed-append s (world_at s a) es fs first.allowed (subst (λ (w : World). AreAllowed s w fs) first.world second.allowed);
      world = second.world ∙ ap (λ (w : World). after w fs) first.world ∙ sym (after-append (world_at s a) es fs);
      entries = λ k. second.entries k
          ∙ ap (λ xs. xs ++ of_kernel k (noted (world_at s b) fs)) (first.entries k)
          ∙ append_assoc (noted_at a k) (of_kernel k (noted (world_at s a) es)) (of_kernel k (noted (world_at s b) fs))
          ∙ ap (λ xs. noted_at a k ++ xs)
          (ap (λ (w : World). of_kernel k (noted (world_at s a) es) ++ of_kernel k (noted w fs)) first.world
          ∙ sym (of_kernel-append k (noted (world_at s a) es) (noted (after (world_at s a) es) fs))
          ∙ ap (of_kernel k) (sym (noted-append (world_at s a) es fs)));
      recorded = second.recorded;
    }

pub Goes-start : (s : Setting) (a : Recorded) → AreRecorded s a → Goes s a a []
Goes-start s a all = record { allowed = tt; world = refl; entries = λ k. sym (append-nil (noted_at a k)); recorded = all }

pub ready-after : (s : Setting) (n : ℕ) (a b : Recorded) (es : List Event) → n + length es < 2 ^ 64 - 1 → Goes s a b es → AreReady s n a → AreReady s (n + length es) b
ready-after s n a b es early goes ready =
    record {
      recorded = goes.recorded;
      told = subst (λ (w : World). IsToldWorld s (n + length es) w) (sym goes.world) (told-after s n (world_at s a) es early goes.allowed ready.told);
    }
