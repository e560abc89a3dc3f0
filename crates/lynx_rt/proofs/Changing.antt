-- What is kept for an end of a number is changed.
use Rattle.std.proofs.Common.{◌≡◌, ℕ, false, Option, Some, None, refl, sym, ap, ◌∙◌}
use Rattle.end_protocol.specs.declared.kept.Kept.{Kept}
use Rattle.process_run.specs.States.{Holding, Keeps, Gone, Place, Held, State}
use Rattle.process_run.specs.Ends.{place_at, held_of, puts, keeps}
use Rattle.process_run.specs.Reports.{on_end}
use Rattle.process_ends.specs.Ends.{kept_at, kept_by, kept_in}
use Rattle.process_ends.proofs.Lists.{held_twice, some_is}
use Rattle.process_sound.specs.May.{at_end}
use Rattle.lynx_rt.specs.Changes.{changes, taken_so}

-- on an end that is not held nothing is done
none_by : (n : ℕ) (p : Place) (h : Holding) (f : Held → State → State) (s : State) → p.holding ≡ h → kept_by h ≡ None
    → (on_end (held_of n (Some p)) f s).state ≡ s
none_by n p (Keeps k) f s is at = let no : Some k ≡ None = at in absurd cc
none_by n p (Gone own) f s is at = ap (λ (h : Holding). (on_end (held_of n (Some (record p { holding = h }))) f s).state) is

none_in : (n : ℕ) (o : Option Place) (f : Held → State → State) (s : State) → kept_in o ≡ None → (on_end (held_of n o) f s).state ≡ s
none_in n None f s at = refl
none_in n (Some p) f s at = none_by n p p.holding f s refl at

pub none_at : (n : ℕ) (f : Held → State → State) (s : State) → kept_at n s.places ≡ None → at_end n f s ≡ s
none_at n f s at = none_in n (place_at n s.places) f s at

-- on one that is held what is kept becomes this
change_by : (n : ℕ) (p : Place) (h : Holding) (g : Kept → Kept) (k : Kept) (s : State) → p.holding ≡ h → kept_by h ≡ Some k
    → (on_end (held_of n (Some p)) (λ x t. keeps x (g x.kept) t) s).state ≡ puts n (Keeps (g k)) s
change_by n p (Keeps j) g k s is at =
    ap (λ (h : Holding). (on_end (held_of n (Some (record p { holding = h }))) (λ x t. keeps x (g x.kept) t) s).state) is
    ∙ ap (λ (x : Kept). puts n (Keeps (g x)) s) (some_is j k at)
change_by n p (Gone own) g k s is at = let no : None ≡ Some k = at in absurd cc

change_in : (n : ℕ) (o : Option Place) (g : Kept → Kept) (k : Kept) (s : State) → kept_in o ≡ Some k
    → (on_end (held_of n o) (λ x t. keeps x (g x.kept) t) s).state ≡ puts n (Keeps (g k)) s
change_in n None g k s at = let no : None ≡ Some k = at in absurd cc
change_in n (Some p) g k s at = change_by n p p.holding g k s refl at

pub change_at : (n : ℕ) (g : Kept → Kept) (k : Kept) (s : State) → kept_at n s.places ≡ Some k → changes n g s ≡ puts n (Keeps (g k)) s
change_at n g k s at = change_in n (place_at n s.places) g k s at

-- an end that is held in two ways, one after the other, is held in the second way
pub puts_twice : (n : ℕ) (g h : Holding) (s : State) → puts n h (puts n g s) ≡ puts n h s
puts_twice n g h s = ap (λ ps. record s { places = ps }) (held_twice n g h s.places)

taken_is : (o : Option Kept) (n : ℕ) (k : Kept) (s : State) → Some k ≡ o → taken_so o n s ≡ puts n (Gone false) s
taken_is None n k s is = let no : Some k ≡ None = is in absurd cc
taken_is (Some j) n k s is = refl

-- what was taken out, and changed, is put back
pub put_back : (n : ℕ) (g : Kept → Kept) (k j : Kept) (s t u : State) → Some k ≡ kept_at n s.places → t ≡ taken_so (kept_at n s.places) n s
    → j ≡ g k → u ≡ puts n (Keeps j) t → u ≡ changes n g s
put_back n g k j s t u at taken changed put =
    put ∙ ap (λ (x : Kept). puts n (Keeps x) t) changed ∙ ap (puts n (Keeps (g k))) (taken ∙ taken_is (kept_at n s.places) n k s at)
    ∙ puts_twice n (Gone false) (Keeps (g k)) s ∙ sym (change_at n g k s (sym at))

pub taken_out : (n : ℕ) (k : Kept) (s t : State) → Some k ≡ kept_at n s.places → t ≡ taken_so (kept_at n s.places) n s → t ≡ puts n (Gone false) s
taken_out n k s t at taken = taken ∙ taken_is (kept_at n s.places) n k s at
