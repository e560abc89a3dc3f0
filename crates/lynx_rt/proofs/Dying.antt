-- An end of a number dies, or is destroyed.
use Rattle.std.proofs.Common.{◌≡◌, ℕ, false, [], ◌∷◌, Option, Some, None, option_map, refl, sym, ap, ◌∙◌}
use Rattle.charlotte_calls.specs.declared.names.EndId.{EndId}
use Rattle.end_protocol.specs.declared.kept.Kept.{Kept}
use Rattle.end_protocol.specs.declared.falling.Fallen.{Fallen}
use Rattle.end_protocol.specs.Falling.{dies, fallen}
use Rattle.end_protocol.specs.Going.{returns}
use Rattle.process_run.specs.States.{Holding, Keeps, Gone, Place, Held, State}
use Rattle.process_run.specs.Deaths.{destroys, dies_at, falls}
use Rattle.process_run.specs.Ends.{dooms, held_of, place_at, puts}
use Rattle.process_run.specs.Reports.{on_end}
use Rattle.process_ends.specs.Ends.{kept_at, kept_by, kept_in}
use Rattle.process_ends.proofs.Lists.{some_is}
use Rattle.process_sound.specs.May.{at_end}
use Rattle.lynx_rt.specs.Changes.{taken_so}
use Rattle.lynx_rt.proofs.Changing.{puts_twice, taken_out}

held_by : (n : ℕ) (p : Place) (h : Holding) (k : Kept) → p.holding ≡ h → kept_by h ≡ Some k
    → held_of n (Some p) ≡ Some (record { number = n; end = p.end; kept = k })
held_by n p (Keeps j) k is at =
    ap (λ (h : Holding). held_of n (Some (record p { holding = h }))) is
    ∙ ap (λ (x : Kept). Some (record { number = n; end = p.end; kept = x })) (some_is j k at)
held_by n p (Gone own) k is at = let no : None ≡ Some k = at in absurd cc

death_by : (n : ℕ) (p : Place) (h : Holding) (k : Kept) (s : State) → p.holding ≡ h → kept_by h ≡ Some k
    → (on_end (held_of n (Some p)) dies_at s).state ≡ falls (fallen k) (puts n (Keeps (dies k)) s)
unfolding dies_at
death_by n p h k s is at = ap (λ (o : Option Held). (on_end o dies_at s).state) (held_by n p h k is at)

death_in : (n : ℕ) (o : Option Place) (k : Kept) (s : State) → kept_in o ≡ Some k
    → (on_end (held_of n o) dies_at s).state ≡ falls (fallen k) (puts n (Keeps (dies k)) s)
death_in n None k s at = let no : None ≡ Some k = at in absurd cc
death_in n (Some p) k s at = death_by n p p.holding k s refl at

pub death_at : (n : ℕ) (k : Kept) (s : State) → kept_at n s.places ≡ Some k → at_end n dies_at s ≡ falls (fallen k) (puts n (Keeps (dies k)) s)
death_at n k s at = death_in n (place_at n s.places) k s at

pub dead_at : (n : ℕ) (k j : Kept) (f : Fallen) (s t u v : State) → Some k ≡ kept_at n s.places → t ≡ taken_so (kept_at n s.places) n s
    → j ≡ dies k → f ≡ fallen k → u ≡ puts n (Keeps j) t → v ≡ falls f u → v ≡ at_end n dies_at s
dead_at n k j f s t u v at taken died fell_is put fell =
    fell ∙ ap (λ (x : Fallen). falls x u) fell_is
    ∙ ap (falls (fallen k)) (put ∙ ap (λ (x : Kept). puts n (Keeps x) t) died ∙ ap (puts n (Keeps (dies k))) (taken_out n k s t at taken) ∙ puts_twice n (Gone false) (Keeps (dies k)) s)
    ∙ sym (death_in n (place_at n s.places) k s (sym at))

pub end_of_destroyed : (n : ℕ) (k : Kept) (e : EndId) (s : State) → (destroys (record { number = n; end = e; kept = k }) s)
    ≡ falls (fallen k) (dooms (e ∷ []) (puts n (Gone (returns k.sending)) s))
unfolding destroys
end_of_destroyed n k e s = refl
