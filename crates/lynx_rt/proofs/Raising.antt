-- What may be raised where an end falls.
use Rattle.std.proofs.Common.{◌≡◌, ℕ, ◌++◌, false, map, Option, Some, sym, ap, subst, ◌∙◌}
use Rattle.std.specs.List.{flat_map}
use Rattle.typing_rules.specs.declared.exception.Exception.TheVariants.{DeadLink}
use Rattle.end_protocol.specs.declared.falling.Fallen.{Fallen}
use Rattle.end_protocol.specs.declared.kept.Kept.{Kept}
use Rattle.end_protocol.specs.Falling.{destroyed, fallen, outstanding_ends, outstanding_thread, own_ends, raised}
use Rattle.process_run.specs.States.{Keeps, Gone, State}
use Rattle.process_run.specs.Ends.{dooms, holds_again, puts}
use Rattle.process_run.specs.Deaths.{raises_in}
use Rattle.process_ends.specs.Ends.{kept_at}
use Rattle.process_sound.specs.Machine.{MayRaise}
use Rattle.process_sound.specs.May.{raised_at, raised_so}
use Rattle.lynx_rt.specs.Changes.{taken_so}
use Rattle.lynx_rt.proofs.Changing.{taken_out}
use Rattle.lynx_rt.proofs.Falling.{holds_raised, may_first, may_rest, may_so, raises_both}

-- what moves with an end has nothing to do with what may be raised
pub may_then : (f : Fallen) (s t : State) → t ≡ dooms (destroyed f) (holds_again (flat_map own_ends f.queue ++ outstanding_ends f.outstanding) s)
    → MayRaise (raised f) DeadLink s → MayRaise (raised f) DeadLink t
may_then f s t moved may =
    may_so (raised f) DeadLink (dooms (destroyed f) (holds_again (flat_map own_ends f.queue ++ outstanding_ends f.outstanding) s)) t moved may

pub may_behind : (f : Fallen) (s t : State) → t ≡ raises_in (outstanding_thread f.outstanding) DeadLink s → MayRaise (raised f) DeadLink s
    → MayRaise (map (λ c. c.thread) f.behind) DeadLink t
may_behind f s t is may =
    let to = outstanding_thread f.outstanding in
    let tb = map (λ c. c.thread) f.behind in
    let ta = map (λ a. a.thread) f.accepts in
    may_so tb DeadLink (raises_in to DeadLink s) t is (may_rest to tb DeadLink s (may_first (to ++ tb) ta DeadLink s may))

pub may_accepts : (f : Fallen) (s t u : State) → t ≡ raises_in (outstanding_thread f.outstanding) DeadLink s
    → u ≡ raises_in (map (λ c. c.thread) f.behind) DeadLink (holds_again (flat_map (λ c. c.ends) f.behind) t)
    → MayRaise (raised f) DeadLink s → MayRaise (map (λ a. a.thread) f.accepts) DeadLink u
may_accepts f s t u is behind may =
    let to = outstanding_thread f.outstanding in
    let tb = map (λ c. c.thread) f.behind in
    let ta = map (λ a. a.thread) f.accepts in
    let bs = flat_map (λ c. c.ends) f.behind in
    may_so ta DeadLink (holds_again bs (raises_in (to ++ tb) DeadLink s)) u
    (behind ∙ sym (holds_raised tb DeadLink bs t) ∙ ap (λ (x : State). holds_again bs (raises_in tb DeadLink x)) is ∙ ap (holds_again bs) (sym (raises_both to tb DeadLink s)))
    (may_rest (to ++ tb) ta DeadLink s may)

-- ---- of an end that dies

pub may_die : (n : ℕ) (k j : Kept) (f : Fallen) (s t u : State) → Some k ≡ kept_at n s.places → t ≡ taken_so (kept_at n s.places) n s
    → f ≡ fallen k → u ≡ puts n (Keeps j) t → MayRaise (raised_at n s) DeadLink s → MayRaise (raised f) DeadLink u
may_die n k j f s t u at taken fell put may =
    subst (λ (x : Fallen). MayRaise (raised x) DeadLink u) (sym fell)
    (subst (λ (o : Option Kept). MayRaise (raised_so o) DeadLink u) (sym at)
    (may_so (raised_at n s) DeadLink (puts n (Keeps j) (puts n (Gone false) s)) u (put ∙ ap (puts n (Keeps j)) (taken_out n k s t at taken)) may))
