-- What is known of a process, and of what its threads ask for, where something else of it changes.
use Rattle.std.proofs.Common.{arith, ◌≡◌, ◌<◌, ℕ, true, false, Bool, List, length, Option, Some, None, slice_get, slice_set, if◌then◌else◌, refl, sym, ap, subst, ◌∙◌, length-set}
use Rattle.std.specs.Prelude.{Ok, Err}
use Rattle.std.proofs.lemmas.Option.{slice_get_within}
use Rattle.typing_rules.specs.declared.exception.Exception.{Exception}
use Rattle.lynx_meaning.specs.Courses.{Outcome}
use Rattle.lynx_meaning.specs.Values.{Value}
use Rattle.machine_turns.specs.Turns.{most_threads}
use Rattle.end_protocol.specs.declared.kept.Kept.{Kept}
use Rattle.process_run.specs.States.{Held, Open, State, Done, quietly}
use Rattle.process_run.specs.Actions.{answers_on, failed, fails}
use Rattle.process_run.specs.Ends.{held_at, keeps, lets_go}
use Rattle.process_run.specs.Reports.{on_end}
use Rattle.process_sound.specs.Machine.{Fits}
use Rattle.lynx_rt.specs.Changes.{changes}
use Rattle.lynx_rt.specs.Kept.{IsProcess}

-- in a thread that is given values an exception may be raised
pub fails_too : (thread : ℕ) (vs : List Value) (x : Exception) (s : State) → Fits thread (Ok vs) s → Fits thread (Err x) s
fails_too thread vs x s fits = (fits.0, fits.1, tt)

-- a thread that asks for something has a list of open requests
pub asking_below : (thread : ℕ) (out : Outcome) (s : State) → IsProcess s → Fits thread out s → thread < length s.opened
asking_below thread out s process fits =
    let asking = fits.1 in
    let less : thread < length s.turns.threads = slice_get_within s.turns.threads thread (Some asking.0) asking.1 in
    omega (arith, less, process.sound.many, process.lists)

process_in : (o : Option Held) (f : Kept → Kept) (s : State) → IsProcess s → IsProcess (on_end o (λ h t. keeps h (f h.kept) t) s).state
process_in None f s process = process
process_in (Some h) f s process = process

fits_in : (o : Option Held) (f : Kept → Kept) (thread : ℕ) (out : Outcome) (s : State) → Fits thread out s → Fits thread out (on_end o (λ h t. keeps h (f h.kept) t) s).state
fits_in None f thread out s fits = fits
fits_in (Some h) f thread out s fits = fits

-- what is kept for an end changes
pub changed_process : (n : ℕ) (f : Kept → Kept) (s t : State) → t ≡ changes n f s → IsProcess s → IsProcess t
changed_process n f s t is process = subst IsProcess (sym is) (process_in (held_at n s) f s process)

pub changed_fits : (n : ℕ) (f : Kept → Kept) (thread : ℕ) (out : Outcome) (s t : State) → t ≡ changes n f s → Fits thread out s → Fits thread out t
changed_fits n f thread out s t is fits = subst (Fits thread out) (sym is) (fits_in (held_at n s) f thread out s fits)

-- ends are held no longer
pub gone_process : (ns : List ℕ) (s t : State) → t ≡ lets_go ns s → IsProcess s → IsProcess t
gone_process ns s t is process = subst IsProcess (sym is) process

pub gone_fits : (ns : List ℕ) (thread : ℕ) (out : Outcome) (s t : State) → t ≡ lets_go ns s → Fits thread out s → Fits thread out t
gone_fits ns thread out s t is fits = subst (Fits thread out) (sym is) fits

lists_in : (o : Option Held) (f : Kept → Kept) (s : State) → (on_end o (λ h t. keeps h (f h.kept) t) s).state.opened ≡ s.opened
lists_in None f s = refl
lists_in (Some h) f s = refl

pub changed_below : (n : ℕ) (f : Kept → Kept) (thread : ℕ) (s t : State) → t ≡ changes n f s → thread < length s.opened → thread < length t.opened
changed_below n f thread s t is less = subst (λ (os : List (List Open)). thread < length os) (sym (ap (λ (z : State). z.opened) is ∙ lists_in (held_at n s) f s)) less

pub gone_below : (ns : List ℕ) (thread : ℕ) (s t : State) → t ≡ lets_go ns s → thread < length s.opened → thread < length t.opened
gone_below ns thread s t is less = subst (λ (z : State). thread < length z.opened) (sym is) less

-- the open requests of a thread are others
opened_so : (n : ℕ) (os : List Open) (s : State) → IsProcess s → IsProcess (record s { opened = slice_set s.opened n os })
opened_so n os s process =
    record {
      version_is = process.version_is;
      sound = process.sound;
      parts = process.parts;
      heard = process.heard;
      ops = process.ops;
      lists = length-set s.opened n os ∙ process.lists;
    }

pub opened_process : (n : ℕ) (os : List Open) (s t : State) → t ≡ record s { opened = slice_set s.opened n os } → IsProcess s → IsProcess t
opened_process n os s t is process = subst IsProcess (sym is) (opened_so n os s process)

pub opened_fits : (n : ℕ) (os : List Open) (thread : ℕ) (out : Outcome) (s t : State) → t ≡ record s { opened = slice_set s.opened n os } → Fits thread out s → Fits thread out t
opened_fits n os thread out s t is fits = subst (Fits thread out) (sym is) fits

-- a request has failed, or was answered
choice_process : (b : Bool) (c d : Done) → IsProcess c.state → IsProcess d.state → IsProcess (if b then c else d).state
choice_process true c d first second = first
choice_process false c d first second = second

choice_fits : (b : Bool) (c d : Done) (thread : ℕ) (out : Outcome) → Fits thread out c.state → Fits thread out d.state → Fits thread out (if b then c else d).state
choice_fits true c d thread out first second = first
choice_fits false c d thread out first second = second

failed_so : (o : Open) (held : Option Held) (s : State) → IsProcess s → IsProcess (fails o held s).state
failed_so o None s process = process
failed_so o (Some h) s process = choice_process o.answered (quietly s) (answers_on h (failed o) s) process process

failing_so : (o : Open) (held : Option Held) (thread : ℕ) (out : Outcome) (s : State) → Fits thread out s → Fits thread out (fails o held s).state
failing_so o None thread out s fits = fits
failing_so o (Some h) thread out s fits = choice_fits o.answered (quietly s) (answers_on h (failed o) s) thread out fits fits

pub failed_process : (o : Open) (s t : State) → t ≡ (fails o (held_at o.on s) s).state → IsProcess s → IsProcess t
failed_process o s t is process = subst IsProcess (sym is) (failed_so o (held_at o.on s) s process)

pub failed_fits : (o : Open) (thread : ℕ) (out : Outcome) (s t : State) → t ≡ (fails o (held_at o.on s) s).state → Fits thread out s → Fits thread out t
failed_fits o thread out s t is fits = subst (Fits thread out) (sym is) (failing_so o (held_at o.on s) thread out s fits)

choice_opened : (b : Bool) (c d : Done) (os : List (List Open)) → c.state.opened ≡ os → d.state.opened ≡ os → (if b then c else d).state.opened ≡ os
choice_opened true c d os first second = first
choice_opened false c d os first second = second

fails_opened : (o : Open) (held : Option Held) (s : State) → (fails o held s).state.opened ≡ s.opened
fails_opened o None s = refl
fails_opened o (Some h) s = choice_opened o.answered (quietly s) (answers_on h (failed o) s) s.opened refl refl

-- so there are as many lists of requests as there were
pub failed_below : (o : Open) (thread : ℕ) (s t : State) → t ≡ (fails o (held_at o.on s) s).state → thread < length s.opened → thread < length t.opened
failed_below o thread s t is less = subst (λ (os : List (List Open)). thread < length os) (sym (ap (λ (z : State). z.opened) is ∙ fails_opened o (held_at o.on s) s)) less
