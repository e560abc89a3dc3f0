-- Calls that are due keep what holds of a process.
use Rattle.std.proofs.Common.{arith, ◌≡◌, ℕ, ◌+◌, Bool, List, [], ◌∷◌, map, Option, Some, None, refl, ap, subst}
use Rattle.std.specs.List.{AllByRecursion}
use Rattle.charlotte_calls.specs.declared.names.EndId.{EndId}
use Rattle.machine_sound.specs.Sound.{times}
use Rattle.machine_turns.specs.Turns.{Turns}
use Rattle.end_protocol.specs.declared.going.Due.{Due}
use Rattle.end_protocol.specs.declared.going.Due.TheVariants as due
use Rattle.end_protocol.specs.declared.kept.Kept.{Kept}
use Rattle.end_protocol.specs.declared.messages.Message.{Message}
use Rattle.end_protocol.specs.Going.{due_call}
use Rattle.end_protocol.specs.Lists.{head}
use Rattle.process_run.specs.States.{Gone, Holding, Keeps, Module, Place, State}
use Rattle.process_run.specs.Ends.{room}
use Rattle.process_run.specs.Runs.{Asking, Did, asks_first, calls, due_among, due_on, due_so, first_due, or_asking, sending, settled_at, settled_in, settles}
use Rattle.process_sound.specs.Ends.{AreEnds, IsHolding, waiting_in, waits}
use Rattle.process_sound.specs.Processes.{IsFor, IsGoing, IsRunning}
use Rattle.process_sound.proofs.Going.{settled_keeps}

-- ---- allows that are due are queued

module _ (version : ℕ) (m : Module) (t : Turns) (free : Bool) where
  settled_holding : (h : Holding) → IsHolding version m t h → IsHolding version m t (settled_in free h)
  settled_holding (Keeps k) is = let keeps = settled_keeps version m t free k in (keeps.kept is.0, keeps.waits is.1)
  settled_holding (Gone own) is = tt

  settled_waiting : (h : Holding) → waiting_in (settled_in free h) ≡ waiting_in h
  settled_waiting (Keeps k) = let keeps = settled_keeps version m t free k in keeps.same
  settled_waiting (Gone own) = refl

  settled_each : (ps : List Place) → AllByRecursion (λ p. IsHolding version m t p.holding) ps → AllByRecursion (λ p. IsHolding version m t p.holding) (map (settled_at free) ps)
  settled_each [] all = tt
  settled_each (p ∷ ps) all = (settled_holding p.holding all.0, settled_each ps all.1)

  settled_waits : (n : ℕ) (ps : List Place) → waits n (map (settled_at free) ps) ≡ waits n ps
  settled_waits n [] = refl
  settled_waits n (p ∷ ps) =
      let first : times n (waiting_in (settled_in free p.holding)) ≡ times n (waiting_in p.holding) = ap (times n) (settled_waiting p.holding) in
      let rest = settled_waits n ps in
      omega arith

  settled_ends : (owed : List ℕ) (ps : List Place) → AreEnds version m t owed ps → AreEnds version m t owed (map (settled_at free) ps)
  settled_ends owed ps are = record { each = settled_each ps are.each; once = λ n. let same = settled_waits n ps in let once = are.once n in omega arith }

pub settles_going : (owed : List ℕ) (s : State) → IsGoing owed s → IsGoing owed (settles s)
unfolding settles
settles_going owed s is = record {
  version = is.version;
  code = is.code;
  process = is.process;
  ends = settled_ends s.version s.code s.turns (room s) owed s.places is.ends;
}

-- ---- what is asked

-- a call that is due is for no thread
abbrev IsDue : Option Asking → Type 0
IsDue o = (a : Asking) → o ≡ Some a → (t : Turns) → IsFor a.asked t

some_asking : (a b : Asking) → Some a ≡ Some b → a ≡ b
some_asking a b e = ap (λ (o : Option Asking). elim o [ None ↦ a | Some x ↦ x ]) e

is_due : (b : Asking) → ((t : Turns) → IsFor b.asked t) → IsDue (Some b)
is_due b for a same t = subst (λ (x : Asking). IsFor x.asked t) (some_asking b a same) (for t)

never_due : IsDue None
never_due a e t = let no : None ≡ Some a = e in absurd cc

send_due : (version n : ℕ) (x : EndId) (o : Option Message) → IsDue (sending version n x o)
send_due version n x None a same t = never_due a same t
send_due version n x (Some message) a same t = subst (λ (b : Asking). IsFor b.asked t) (some_asking _ a same) tt

so_due : (version n : ℕ) (x : EndId) (k : Kept) (d : Due) → IsDue (due_so version n x k d)
so_due version n x k due.Nothing = never_due
so_due version n x k due.Send = send_due version n x (head k.queue)
so_due version n x k due.Receive = is_due _ (λ t. tt)
so_due version n x k due.Cancel = is_due _ (λ t. tt)

on_due : (version : ℕ) (free : Bool) (n : ℕ) (x : EndId) (h : Holding) → IsDue (due_on version free n x h)
on_due version free n x (Keeps k) = so_due version n x k (due_call free k)
on_due version free n x (Gone own) = never_due

either_due : (o p : Option Asking) → IsDue o → IsDue p → IsDue (or_asking o p)
either_due None p first second = second
either_due (Some a) p first second = first

among_due : (version : ℕ) (free : Bool) (n : ℕ) (ps : List Place) → IsDue (due_among version free n ps)
among_due version free n [] = never_due
among_due version free n (p ∷ ps) =
    either_due (due_on version free n p.end p.holding) (due_among version free (n + 1) ps) (on_due version free n p.end p.holding) (among_due version free (n + 1) ps)

first_is_due : (xs : List EndId) (s : State) → IsDue (first_due xs s)
first_is_due [] s = among_due s.version (room s) 1 s.places
first_is_due (x ∷ xs) s = is_due _ (λ t. tt)

asked_running : (o : Option Asking) (s : State) (next : State → Did) → IsDue o → IsGoing [] s → (o ≡ None → IsRunning (next s).state) → IsRunning (asks_first o s next).state
asked_running None s next for is each = each refl
asked_running (Some a) s next for is each = record {
  going = record { version = is.version; code = is.code; process = is.process; ends = is.ends };
  asked = for a refl s.turns;
}

-- a call that is due, or what comes where none is
pub calls_running : (s : State) (next : State → Did) → IsGoing [] s → (IsGoing [] (settles s) → first_due (settles s).doomed (settles s) ≡ None → IsRunning (next (settles s)).state) → IsRunning (calls s next).state
calls_running s next is each =
    let t = settles s in
    let settled = settles_going [] s is in
    asked_running (first_due t.doomed t) t next (first_is_due t.doomed t) settled (each settled)
