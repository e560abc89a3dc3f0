-- Who makes the call of an entry.
use Rattle.std.proofs.Common.{◌≡◌, ℕ, nat_eq, Bool, true, false, if◌then◌else◌, Some, None, refl, sym, ap, ◌∙◌}
use Rattle.std.proofs.lemmas.Bool.{eq-eqb, eqb-true}
use Rattle.charlotte_calls.specs.declared.calls.Call.{Call}
use Rattle.charlotte_calls.specs.declared.names.Pid.{Pid}
use Rattle.kernel_entries.specs.declared.entry.Happened.{Happened}
use Rattle.kernel_entries.specs.declared.entry.Happened.TheVariants.{Asked, Took}
use Rattle.language_links.specs.Told.{call_of}
use Rattle.language_links.proofs.Run.{apart-sym}
use Rattle.request_acts.specs.Acted.{process}

pub own-call : (p : Pid) (c : Call) → call_of p (Asked p c) ≡ Some c
own-call p c = rw (eq-eqb p.0 p.0 refl) refl

-- in a call of another process it makes none
pub none-of : (i : ℕ) (p : Pid) (c : Call) → nat_eq p.0 i ≡ false → call_of (process i) (Asked p c) ≡ None
none-of i p c other = rw (apart-sym p.0 i other) refl

-- a process that makes the call is the one that is named
pub is-named : (p q : Pid) (b c : Call) → call_of p (Asked q b) ≡ Some c → p ≡ q
is-named p q b c call = by (nat_eq p.0 q.0) refl
  where
    by : (t : Bool) → nat_eq p.0 q.0 ≡ t → p ≡ q
    by true same = ap process (eqb-true p.0 q.0 same)
    by false other = let no : None ≡ Some c = sym (ap (λ (t : Bool). if t then Some b else None) other) ∙ call in absurd cc

-- where one makes a call, no other does
pub none-else : (p : Pid) (i : ℕ) (c : Call) (w : Happened) → call_of p w ≡ Some c → nat_eq p.0 i ≡ false → call_of (process i) w ≡ None
none-else p i c (Took from picture) call other = refl
none-else p i c (Asked q b) call other = none-of i q b (ap (λ (z : Pid). nat_eq z.0 i) (sym (is-named p q b c call)) ∙ other)

-- two that make it are one
pub one-caller : (p q : Pid) (b c : Call) (w : Happened) → call_of p w ≡ Some b → call_of q w ≡ Some c → p ≡ q
one-caller p q b c (Took from picture) first second = let no : None ≡ Some b = first in absurd cc
one-caller p q b c (Asked r d) first second = is-named p r d b first ∙ sym (is-named q r d c second)
