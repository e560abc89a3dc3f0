-- A replay takes one line more.
use Rattle.std.proofs.Common.{◌≡◌, ◌↔◌, inl, inr, ℕ, ◌≤◌, ◌^◌, true, false, List, [], ◌∷◌, ◌++◌, Option, None, Some, Ok, arith, ap, sym, subst, ◌∙◌, refl, append_assoc}
use Rattle.charlotte_calls.specs.declared.calls.ServiceStep.{ServiceStep}
use Rattle.transcript_lines.specs.declared.last.Last.{Last}
use Rattle.transcript_lines.specs.declared.last.Last.TheVariants.{Quiet, Unsettled}
use Rattle.kernel_nodes.proofs.Started.{quiet-or-not}
use Rattle.kernel_nodes.specs.Nodes.{world_of}
use Rattle.transcript_reading.specs.Order.{Place, Start, Version, Processes, Wires, Entry, Noted, Over, next}
use Rattle.transcript_reading.specs.declared.line.LineKind.{LineKind}
use Rattle.transcript_reading.specs.declared.line.LineKind.TheVariants as line
use Rattle.transcript_replay.specs.Course.{Course, IsOver, IsRest, IsRestOfNotes, Refutes, course_start, step_kinds}
use Rattle.transcript_replay.specs.Header.{IsHeader, IsToldAt, is_body, tells}
use Rattle.transcript_replay.specs.Replay.{IsDifference, IsReplay, IsTrueLast}
use Rattle.transcript_replay.proofs.Header.{start-begins, start-left}
use Rattle.transcript_replay.proofs.Places.{IsBehind, IsNoteOrEnd, behind-entry, behind-is, behind-note, behind-over, behind-start, behind-version, told-more}
use Rattle.transcript_replay.proofs.Rest.{leads-end, leads-note, leads-notes, leads-notes-end, refutes-due, refutes-end, refutes-notes-end}
use Rattle.kernel_journal.specs.At.{AreLeft, HasMet, IsAmongEntries, IsAt, MayFollow, Meets, Passed}
use Rattle.kernel_journal.specs.Body.{Differs, Fails, IsReady, Passes, course_of}
use Rattle.kernel_journal.specs.Faults.{IsStopAt}
use Rattle.kernel_journal.specs.declared.body.Body.{Body}
use Rattle.kernel_journal.specs.declared.fault.Stop.{Stop}
use Rattle.kernel_journal.specs.declared.fault.Stop.TheVariants as stop
use Rattle.kernel_journal.specs.declared.lines.Replay.{Replay}

pub left-more : (taken : List LineKind) (k : LineKind) (Old New : List LineKind → Last → Type 0) → ((more : List LineKind) (last : Last) → IsReplay (taken ++ k ∷ more) last ↔ Old (k ∷ more) last)
    → ((more : List LineKind) (last : Last) → Old (k ∷ more) last ↔ New more last) → AreLeft (taken ++ k ∷ []) New
left-more taken k Old New left leads more last = (
  λ r. (leads more last).0 ((left more last).0 (subst (λ l. IsReplay l last) (append_assoc taken (k ∷ []) more) r)),
  λ f. subst (λ l. IsReplay l last) (sym (append_assoc taken (k ∷ []) more)) ((left more last).1 ((leads more last).1 f)),
)

pub kept-same : (a : Option Body) (b c : Body) → a ≡ Some b → a ≡ Some c → b ≡ c
kept-same a b c x y = let e : Some b ≡ Some c = sym x ∙ y in cc

pub not-kept : {A : Type 0} (a : Option Body) (b : Body) → a ≡ None → a ≡ Some b → A
not-kept a b x y = let e : None ≡ Some b = sym x ∙ y in absurd (cc)

-- ---- the kernels start where the header ends

pub begins-header : (taken : List LineKind) (place behind : Place) (k : LineKind) (r : Replay) → IsAt taken place r → next place k ≡ Ok behind → is_body k ≡ true → r.body ≡ None → IsHeader r.draft taken
begins-header taken Start behind k r at e is none = behind-start behind k is e
begins-header taken Version behind k r at e is none = behind-version behind k is e
begins-header taken (Processes m n) behind k r at e is none = at.0.0
begins-header taken (Wires m n) behind k r at e is none = at.0.0
begins-header taken Entry behind k r at e is none = not-kept r.body at.body none at.kept
begins-header taken (Noted m) behind k r at e is none = not-kept r.body at.body none at.kept
begins-header taken Over behind k r at e is none = behind-over behind k e

pub meets-first : (taken : List LineKind) (place behind : Place) (k : LineKind) (r : Replay) (b : Body) → IsAt taken place r → next place k ≡ Ok behind → is_body k ≡ true → r.body ≡ None → IsReady b → course_of b ≡ course_start r.draft → Meets taken place k b
meets-first taken place behind k r b at e is none ready start = by place at e
  where
    from_header : IsHeader r.draft taken → (more : List LineKind) (last : Last) → IsReplay (taken ++ k ∷ more) last ↔ IsRest (course_of b) (k ∷ more) last
    from_header header more last = subst (λ c. IsReplay (taken ++ k ∷ more) last ↔ IsRest c (k ∷ more) last) (sym start) (start-left r.draft taken k more last header is)

    by : (place : Place) → IsAt taken place r → next place k ≡ Ok behind → Meets taken place k b
    by Start at e = behind-start behind k is e
    by Version at e = behind-version behind k is e
    by (Processes m n) at e = record { ready = ready; none = tt; left = from_header at.0.0 }
    by (Wires m n) at e = record { ready = ready; none = tt; left = from_header at.0.0 }
    by Entry at e = not-kept r.body at.body none at.kept
    by (Noted m) at e = not-kept r.body at.body none at.kept
    by Over at e = behind-over behind k e

pub meets-next : (taken : List LineKind) (place behind : Place) (k : LineKind) (r : Replay) (b : Body) → IsAt taken place r → next place k ≡ Ok behind → is_body k ≡ true → r.body ≡ Some b → Meets taken place k b
meets-next taken Start behind k r b at e is kept = behind-start behind k is e
meets-next taken Version behind k r b at e is kept = behind-version behind k is e
meets-next taken (Processes m n) behind k r b at e is kept = not-kept r.body b at.1 kept
meets-next taken (Wires m n) behind k r b at e is kept = not-kept r.body b at.1 kept
meets-next taken Entry behind k r b at e is kept =
    subst (Meets taken Entry k) (kept-same r.body at.body b at.kept kept) (record { ready = at.ready; none = tt; left = λ more last. at.left (k ∷ more) last })
meets-next taken (Noted m) behind k r b at e is kept =
    subst (Meets taken (Noted m) k) (kept-same r.body at.body b at.kept kept) (record { ready = at.ready; none = at.none; left = λ more last. at.left (k ∷ more) last })
meets-next taken Over behind k r b at e is kept = behind-over behind k e

-- ---- a line that is passed

-- the last line is kept
abbrev pub IsLastKept : LineKind → Replay → Type 0
IsLastKept (line.End last) r = r.last ≡ Some last
IsLastKept _ r = Unit {0}

-- whether a body may also meet entries
abbrev IsOpen : Place → Type 0
IsOpen (Noted m) = ⊥
IsOpen _ = Unit {0}

open-left : (place : Place) → IsOpen place → (c : Course) (more : List LineKind) (last : Last) → MayFollow place c more last ≡ IsRest c more last
open-left Start is c more last = refl
open-left Version is c more last = refl
open-left (Processes m n) is c more last = refl
open-left (Wires m n) is c more last = refl
open-left Entry is c more last = refl
open-left (Noted m) is c more last = absurd is
open-left Over is c more last = refl

abbrev AreRests : List LineKind → LineKind → Body → Type 0
AreRests taken k b = (more : List LineKind) (last : Last) → IsReplay (taken ++ k ∷ more) last ↔ IsRest (course_of b) (k ∷ more) last

meets-open : (taken : List LineKind) (place : Place) (k : LineKind) (b : Body) → IsOpen place → Meets taken place k b → AreRests taken k b
meets-open taken place k b is m more last = subst (λ (T : Type 0). IsReplay (taken ++ k ∷ more) last ↔ T) (open-left place is (course_of b) (k ∷ more) last) (m.left more last)

-- among entries
entries-go : (taken : List LineKind) (k : LineKind) (r : Replay) (old new : Body) → r.body ≡ Some new → IsReady new → AreRests taken k old → ((more : List LineKind) (last : Last) → IsRest (course_of old) (k ∷ more) last ↔ IsRest (course_of new) more last) → IsAmongEntries (taken ++ k ∷ []) r
entries-go taken k r old new kept ready left leads = record { body = new; kept = kept; ready = ready; left = left-more taken k (IsRest (course_of old)) (IsRest (course_of new)) left leads }

same-body : (old new : Body) → new ≡ old → (P : Body → Type 0) → P old → P new
same-body old new e P h = subst P (sym e) h

open-passed : (taken : List LineKind) (behind : Place) (k : LineKind) (r : Replay) (old new : Body) → is_body k ≡ true → IsBehind k behind → IsReady old → AreRests taken k old → IsReady new → Passes old k new → r.body ≡ Some new → IsLastKept k r → IsAt (taken ++ k ∷ []) behind r
open-passed taken behind (line.First v) r old new is at was left ready passes kept last = absurd (cc)
open-passed taken behind (line.Kernels n) r old new is at was left ready passes kept last = absurd (cc)
open-passed taken behind (line.Process p n) r old new is at was left ready passes kept last = absurd (cc)
open-passed taken behind (line.Wire a b) r old new is at was left ready passes kept last = absurd (cc)
open-passed taken behind (line.CallEntry i j p c) r old new is at was left ready passes kept last =
    subst (λ b. IsAt (taken ++ line.CallEntry i j p c ∷ []) b r) (sym at) (entries-go taken (line.CallEntry i j p c) r old new kept ready left passes)
open-passed taken behind (line.PacketEntry i j from q) r old new is at was left ready passes kept last =
    subst (λ b. IsAt (taken ++ line.PacketEntry i j from q ∷ []) b r) (sym at) (entries-go taken (line.PacketEntry i j from q) r old new kept ready left passes)
open-passed taken behind (line.Service s) r old new is at was left ready passes kept last =
    subst (λ b. IsAt (taken ++ line.Service s ∷ []) b r) (sym at) (entries-go taken (line.Service s) r old new kept ready left passes)
open-passed taken behind (line.Note n) r old new is at was left ready passes kept last =
    subst (λ b. IsAt (taken ++ line.Note n ∷ []) b r) (sym at) (record {
      body = old;
      kept = kept ∙ ap (λ b. Some b) passes.0;
      ready = was;
      none = passes.1;
      left = left-more taken (line.Note n) (IsRest (course_of old)) (IsRestOfNotes (course_of old)) left (λ more last. leads-note (course_of old) n more last passes.1 was.few);
    })
open-passed taken behind (line.End l) r old new is at was left ready passes kept last =
    subst (λ b. IsAt (taken ++ line.End l ∷ []) b r) (sym at) (record {
      last = l;
      kept = last;
      left = left-more taken (line.End l) (IsRest (course_of old)) (IsOver l) left (λ more ending. leads-end (course_of old) l more ending passes.1 was.few passes.2);
    })

noted-passed : (taken : List LineKind) (behind : Place) (m : ℕ) (k : LineKind) (r : Replay) (old new : Body) → IsNoteOrEnd k → IsBehind k behind → Meets taken (Noted m) k old → Passes old k new → r.body ≡ Some new → IsLastKept k r → IsAt (taken ++ k ∷ []) behind r
noted-passed taken behind m (line.First v) r old new is at meets passes kept last = absurd is
noted-passed taken behind m (line.Kernels n) r old new is at meets passes kept last = absurd is
noted-passed taken behind m (line.Process p n) r old new is at meets passes kept last = absurd is
noted-passed taken behind m (line.Wire a b) r old new is at meets passes kept last = absurd is
noted-passed taken behind m (line.CallEntry i j p c) r old new is at meets passes kept last = absurd is
noted-passed taken behind m (line.PacketEntry i j from q) r old new is at meets passes kept last = absurd is
noted-passed taken behind m (line.Service s) r old new is at meets passes kept last = absurd is
noted-passed taken behind m (line.Note n) r old new is at meets passes kept last =
    subst (λ b. IsAt (taken ++ line.Note n ∷ []) b r) (sym at) (record {
      body = old;
      kept = kept ∙ ap (λ b. Some b) passes.0;
      ready = meets.ready;
      none = passes.1;
      left = left-more taken (line.Note n) (IsRestOfNotes (course_of old)) (IsRestOfNotes (course_of old)) meets.left (λ more last. leads-notes (course_of old) n more last);
    })
noted-passed taken behind m (line.End l) r old new is at meets passes kept last =
    subst (λ b. IsAt (taken ++ line.End l ∷ []) b r) (sym at) (record {
      last = l;
      kept = last;
      left = left-more taken (line.End l) (IsRestOfNotes (course_of old)) (IsOver l) meets.left (λ more ending. leads-notes-end (course_of old) l more ending passes.2);
    })

pub at-passed : (taken : List LineKind) (place behind : Place) (k : LineKind) (r : Replay) → is_body k ≡ true → next place k ≡ Ok behind → Passed taken place k r → IsLastKept k r → IsAt (taken ++ k ∷ []) behind r
at-passed taken Start behind k r is e p last = behind-start behind k is e
at-passed taken Version behind k r is e p last = behind-version behind k is e
at-passed taken (Processes m n) behind k r is e p last = open-passed taken behind k r p.old_body p.body is (behind-is (Processes m n) behind k e) p.meets.ready (meets-open taken (Processes m n) k p.old_body tt p.meets) p.ready p.passes p.kept last
at-passed taken (Wires m n) behind k r is e p last = open-passed taken behind k r p.old_body p.body is (behind-is (Wires m n) behind k e) p.meets.ready (meets-open taken (Wires m n) k p.old_body tt p.meets) p.ready p.passes p.kept last
at-passed taken Entry behind k r is e p last = open-passed taken behind k r p.old_body p.body is (behind-is Entry behind k e) p.meets.ready (meets-open taken Entry k p.old_body tt p.meets) p.ready p.passes p.kept last
at-passed taken (Noted m) behind k r is e p last = noted-passed taken behind m k r p.old_body p.body (behind-note m behind k e) (behind-is (Noted m) behind k e) p.meets p.passes p.kept last
at-passed taken Over behind k r is e p last = behind-over behind k e

-- ---- a line that differs

-- a last line that is true
record HasLast (b : Body) : Type 0 where
  last : Last
  is_true : IsTrueLast b.setting (world_of b.setting b.nodes.nodes.items) last

has-last : (b : Body) → HasLast b
has-last b = elim (quiet-or-not b.setting b.nodes.nodes.items) [
  | inl all ↦ record { last = Quiet; is_true = all }
  | inr other ↦ record { last = Unsettled; is_true = other }
]

record Begins (taken : List LineKind) : Type 0 where
  more : List LineKind
  last : Last
  is : IsReplay (taken ++ more) last

-- lines up to an entry, or a step below it
entries-begin : (taken : List LineKind) (r : Replay) → IsAmongEntries taken r → Begins taken
entries-begin taken r at =
    let ends : HasLast at.body = has-last at.body in
    let few : at.body.events ≤ 2 ^ 31 = at.ready.few in
    record {
      more = step_kinds at.body.due ++ line.End ends.last ∷ [];
      last = ends.last;
      is = (at.left (step_kinds at.body.due ++ line.End ends.last ∷ []) ends.last).1 (record { events = []; allowed = tt; within = tt; few = omega (arith, few); order = tt; notes = []; shown = refl; true_last = ends.is_true });
    }

-- the lines taken begin a transcript
begins : (taken : List LineKind) (place behind : Place) (k : LineKind) (r : Replay) → IsAt taken place r → next place k ≡ Ok behind → is_body k ≡ true → Begins taken
begins taken Start behind k r at e is = behind-start behind k is e
begins taken Version behind k r at e is = behind-version behind k is e
begins taken (Processes m n) behind k r at e is = record { more = line.End Quiet ∷ []; last = Quiet; is = start-begins r.draft taken at.0.0 }
begins taken (Wires m n) behind k r at e is = record { more = line.End Quiet ∷ []; last = Quiet; is = start-begins r.draft taken at.0.0 }
begins taken Entry behind k r at e is = entries-begin taken r at
begins taken (Noted m) behind k r at e is =
    let ends : HasLast at.body = has-last at.body in
    record { more = line.End ends.last ∷ []; last = ends.last; is = (at.left (line.End ends.last ∷ []) ends.last).1 (record { notes = []; shown = refl; true_last = ends.is_true }) }
begins taken Over behind k r at e is = behind-over behind k e

-- what differs by its body may not follow
open-differs : (k : LineKind) (b : Body) → is_body k ≡ true → Differs b k → Refutes (course_of b) k
open-differs (line.First v) b is d = absurd (cc)
open-differs (line.Kernels n) b is d = absurd (cc)
open-differs (line.Process p n) b is d = absurd (cc)
open-differs (line.Wire x y) b is d = absurd (cc)
open-differs (line.CallEntry i j p c) b is d = d
open-differs (line.PacketEntry i j from q) b is d = d
open-differs (line.Service s) b is d = d
open-differs (line.Note n) b is d = by b.due refl
  where
    by : (ss : List ServiceStep) → b.due ≡ ss → Refutes (course_of b) (line.Note n)
    by [] none = absurd (d none)
    by (s ∷ ss) due = refutes-due (course_of b) s ss (line.Note n) due (λ h. absurd (cc))
open-differs (line.End l) b is d = by b.due refl
  where
    by : (ss : List ServiceStep) → b.due ≡ ss → Refutes (course_of b) (line.End l)
    by [] none = refutes-end (course_of b) l none (d none)
    by (s ∷ ss) due = refutes-due (course_of b) s ss (line.End l) due (λ h. absurd (cc))

noted-differs : (m : ℕ) (k : LineKind) (b : Body) → IsNoteOrEnd k → b.due ≡ [] → Differs b k → (more : List LineKind) (last : Last) → IsRestOfNotes (course_of b) (k ∷ more) last → ⊥
noted-differs m (line.First v) b is none d more last rest = is
noted-differs m (line.Kernels n) b is none d more last rest = is
noted-differs m (line.Process p n) b is none d more last rest = is
noted-differs m (line.Wire x y) b is none d more last rest = is
noted-differs m (line.CallEntry i j p c) b is none d more last rest = is
noted-differs m (line.PacketEntry i j from q) b is none d more last rest = is
noted-differs m (line.Service s) b is none d more last rest = is
noted-differs m (line.Note n) b is none d more last rest = d none
noted-differs m (line.End l) b is none d more last rest = refutes-notes-end (course_of b) l more last (d none) rest

may-not-follow : (taken : List LineKind) (place behind : Place) (k : LineKind) (b : Body) → is_body k ≡ true → next place k ≡ Ok behind → Meets taken place k b → Differs b k → (more : List LineKind) (last : Last) → IsReplay (taken ++ k ∷ more) last → ⊥
may-not-follow taken Start behind k b is e meets d more last r = behind-start behind k is e
may-not-follow taken Version behind k b is e meets d more last r = behind-version behind k is e
may-not-follow taken (Processes m n) behind k b is e meets d more last r = open-differs k b is d more last ((meets.left more last).0 r)
may-not-follow taken (Wires m n) behind k b is e meets d more last r = open-differs k b is d more last ((meets.left more last).0 r)
may-not-follow taken Entry behind k b is e meets d more last r = open-differs k b is d more last ((meets.left more last).0 r)
may-not-follow taken (Noted m) behind k b is e meets d more last r = noted-differs m k b (behind-note m behind k e) meets.none d more last ((meets.left more last).0 r)
may-not-follow taken Over behind k b is e meets d more last r = behind-over behind k e

pub at-difference : (taken : List LineKind) (place behind : Place) (k : LineKind) (r : Replay) (b : Body) → is_body k ≡ true → IsAt taken place r → next place k ≡ Ok behind → Meets taken place k b → Differs b k → IsDifference taken k
at-difference taken place behind k r b is at e meets d =
    let before : Begins taken = begins taken place behind k r at e is in
    record { more = before.more; last = before.last; begins = before.is; differs = may-not-follow taken place behind k b is e meets d }

-- what may not follow an entry or a step
pub among-difference : (taken : List LineKind) (k : LineKind) (r : Replay) (at : IsAmongEntries taken r) → Refutes (course_of at.body) k → IsDifference taken k
among-difference taken k r at refutes =
    let before : Begins taken = entries-begin taken r at in
    record { more = before.more; last = before.last; begins = before.is; differs = λ more last replay. refutes more last ((at.left (k ∷ more) last).0 replay) }

-- ---- a line of the header

header-at : (place : Place) (taken : List LineKind) (r : Replay) → IsToldAt place r.draft taken → r.body ≡ None → IsAt taken place r
header-at Start taken r told none = (told, none)
header-at Version taken r told none = (told, none)
header-at (Processes m n) taken r told none = (told, none)
header-at (Wires m n) taken r told none = (told, none)
header-at Entry taken r told none = absurd told
header-at (Noted m) taken r told none = absurd told
header-at Over taken r told none = absurd told

no-header : {A : Type 0} (k : LineKind) → is_body k ≡ false → IsNoteOrEnd k → A
no-header (line.First v) is n = absurd n
no-header (line.Kernels v) is n = absurd n
no-header (line.Process p v) is n = absurd n
no-header (line.Wire a b) is n = absurd n
no-header (line.CallEntry i j p c) is n = absurd n
no-header (line.PacketEntry i j from q) is n = absurd n
no-header (line.Service s) is n = absurd n
no-header (line.Note note) is n = absurd (cc)
no-header (line.End l) is n = absurd (cc)

pub told-at : (taken : List LineKind) (place behind : Place) (k : LineKind) (old new : Replay) → is_body k ≡ false → IsAt taken place old → next place k ≡ Ok behind → new.draft ≡ tells k old.draft → new.body ≡ old.body → IsAt (taken ++ k ∷ []) behind new
told-at taken place behind k old new is at e told same = by place at e
  where
    more : (p : Place) → IsToldAt p old.draft taken → old.body ≡ None → next p k ≡ Ok behind → IsAt (taken ++ k ∷ []) behind new
    more p was none step = header-at behind (taken ++ k ∷ []) new (subst (λ s. IsToldAt behind s (taken ++ k ∷ [])) (sym told) (told-more p behind k old.draft taken is step was)) (same ∙ none)

    by : (p : Place) → IsAt taken p old → next p k ≡ Ok behind → IsAt (taken ++ k ∷ []) behind new
    by Start at step = more Start at.0 at.1 step
    by Version at step = more Version at.0 at.1 step
    by (Processes m n) at step = more (Processes m n) at.0 at.1 step
    by (Wires m n) at step = more (Wires m n) at.0 at.1 step
    by Entry at step = behind-entry behind k is step
    by (Noted m) at step = no-header k is (behind-note m behind k step)
    by Over at step = behind-over behind k step

-- ---- what the calls of a replay need

pub met-same : (taken : List LineKind) (place : Place) (k : LineKind) (r : Replay) (b : Body) → HasMet taken place k r → r.body ≡ Some b → Meets taken place k b
met-same taken place k r b met kept = subst (Meets taken place k) (kept-same r.body met.body b met.kept kept) met.meets

pub not-met : {A : Type 0} (taken : List LineKind) (place : Place) (k : LineKind) (r : Replay) → HasMet taken place k r → r.body ≡ None → A
not-met taken place k r met none = not-kept r.body met.body none met.kept

pub stop-at : (taken : List LineKind) (place behind : Place) (k : LineKind) (r : Replay) (b : Body) (s : Stop) → is_body k ≡ true → IsAt taken place r → next place k ≡ Ok behind → Meets taken place k b → Fails b k s → IsStopAt taken k s
stop-at taken place behind k r b stop.Differs is at e meets f = at-difference taken place behind k r b is at e meets f
stop-at taken place behind k r b stop.NoMemory is at e meets f = tt

-- a body that stands already
pub met-again : (taken : List LineKind) (place behind : Place) (k : LineKind) (r : Replay) → IsAt taken place r → next place k ≡ Ok behind → is_body k ≡ true → (r.body ≡ None → ⊥) → HasMet taken place k r
met-again taken place behind k r at e is some = by r.body refl
  where
    by : (o : Option Body) → r.body ≡ o → HasMet taken place k r
    by None none = absurd (some none)
    by (Some b) kept = record { body = b; kept = kept; meets = meets-next taken place behind k r b at e is kept }
