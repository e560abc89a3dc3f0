-- An end of a number, among ends of which others change.
use Rattle.std.proofs.Common.{◌≡◌, ◌==◌, ℕ, zero, suc, true, false, true≢false, Bool, ◌||◌, ◌&&◌, List, [], ◌∷◌, Option, Some, None, option_map, slice_get, if◌then◌else◌, refl, sym, ap, ap₂, ◌∙◌}
use Rattle.std.specs.Bool.{⊤}
use Rattle.std.proofs.lemmas.Bool.{eq-eqb}
use Rattle.std.proofs.lemmas.Option.{slice_get_within}
use Rattle.std.specs.List.{list_any}
use Rattle.charlotte_calls.specs.declared.names.EndId.{EndId}
use Rattle.charlotte_calls.specs.EndEq.{same_link}
use Rattle.typing_rules.specs.declared.exception.Exception.{Exception}
use Rattle.typing_rules.specs.declared.exception.Exception.TheVariants.{BusyLink}
use Rattle.end_protocol.specs.declared.kept.Kept.{Kept}
use Rattle.end_protocol.specs.Wanting.{is_busy}
use Rattle.machine_sound.proofs.Placing.{get_other, get_set}
use Rattle.process_run.specs.States.{Holding, Keeps, Gone, Place, Held, State}
use Rattle.process_run.specs.Actions.{fault_among, is_kept_back, link_fault, or_fault}
use Rattle.process_run.specs.Ends.{held_at, held_of, let_go, lets_go, place_at, puts, set_holding, with_holding}
use Rattle.process_run.specs.Reports.{on_end}
use Rattle.process_sound.specs.May.{at_end}

-- ---- nothing is done with it

idle_in : (o : Option Held) (f : Held → State → State) (s : State) → ((h : Held) → f h s ≡ s) → (on_end o f s).state ≡ s
idle_in None f s idle = refl
idle_in (Some h) f s idle = idle h

pub idle_at : (n : ℕ) (f : Held → State → State) (s : State) → ((h : Held) → f h s ≡ s) → s ≡ at_end n f s
idle_at n f s idle = sym (idle_in (held_at n s) f s idle)

-- ---- by number

-- the end is held so
abbrev pub held_as : Holding → Place → Place
held_as h p = record p { holding = h }

placed_so : (i : ℕ) (h : Holding) (ps : List Place) (o : Option Place) → slice_get ps i ≡ o
    → slice_get (set_holding i h o ps) i ≡ option_map (held_as h) o
placed_so i h ps None at = at
placed_so i h ps (Some p) at = get_set ps i (record p { holding = h }) (slice_get_within ps i p at)

pub placed : (n : ℕ) (h : Holding) (ps : List Place) → place_at n (with_holding n h ps) ≡ option_map (held_as h) (place_at n ps)
placed zero h ps = refl
placed (suc i) h ps = placed_so i h ps (slice_get ps i) refl

other_so : (i j : ℕ) (h : Holding) (ps : List Place) (o : Option Place) → (j ≡ i → ⊥) → slice_get (set_holding i h o ps) j ≡ slice_get ps j
other_so i j h ps None apart = refl
other_so i j h ps (Some p) apart = get_other ps i j (record p { holding = h }) apart

pub other_place : (m n : ℕ) (h : Holding) (ps : List Place) → (n ≡ m → ⊥) → place_at m (with_holding n h ps) ≡ place_at m ps
other_place m zero h ps apart = refl
other_place zero (suc i) h ps apart = refl
other_place (suc j) (suc i) h ps apart = other_so i j h ps (slice_get ps i) (λ e. apart (ap suc (sym e)))

-- the number is none of these
abbrev pub AllBut : ℕ → List ℕ → Type 0
AllBut m [] = ⊤
AllBut m (n ∷ ns) = (n ≡ m → ⊥) × AllBut m ns

others_gone : (m : ℕ) (ns : List ℕ) (ps : List Place) → AllBut m ns → place_at m (let_go ns ps) ≡ place_at m ps
others_gone m [] ps apart = refl
others_gone m (n ∷ ns) ps apart = others_gone m ns (with_holding n (Gone false) ps) apart.1 ∙ other_place m n (Gone false) ps apart.0

-- ---- an end on which a message may go is not among those that go in it

or_none : (a b : Option Exception) → or_fault a b ≡ None → a ≡ None
or_none None b none = refl
or_none (Some x) b none = none

or_others : (a b : Option Exception) → or_fault a b ≡ None → b ≡ None
or_others None b none = none
or_others (Some x) b none = let no : Some x ≡ None = none in absurd cc

or_true : (a b c : Bool) → b ≡ true → (a || b || c) ≡ true
or_true true b c is = refl
or_true false true c is = refl
or_true false false c is = absurd (true≢false (sym is))

same_self : (x : EndId) → same_link x x ≡ true
same_self x = ap₂ (λ (a b : Bool). a && b) (eq-eqb x.link.maker x.link.maker refl) (eq-eqb x.link.count x.link.count refl)

busy_by : (b : Bool) → b ≡ true → (if b then Some BusyLink else None) ≡ None → ⊥
busy_by true is none = let no : Some BusyLink ≡ None = none in absurd cc
busy_by false is none = true≢false (sym is)

busy_itself : (h : Held) (before : List ℕ) (o : Option Held) → o ≡ Some h → link_fault h before o ≡ None → ⊥
busy_itself h before None is none = let no : None ≡ Some h = is in absurd cc
busy_itself h before (Some g) is none =
    let same : g ≡ h = ap (λ (o : Option Held). elim o [ None ↦ h | Some x ↦ x ]) is in
    busy_by (is_kept_back h before g)
    (or_true (list_any (λ n. n == g.number) before) (same_link g.end h.end) (is_busy g.kept) (ap (λ (x : Held). same_link x.end h.end) same ∙ same_self h.end)) none

pub all_apart : (m : ℕ) (h : Held) (before ns : List ℕ) (s : State) → held_at m s ≡ Some h → fault_among h before ns s ≡ None → AllBut m ns
all_apart m h before [] s at none = tt
all_apart m h before (n ∷ ns) s at none = (
  λ same. busy_itself h before (held_at n s) (ap (λ (k : ℕ). held_at k s) same ∙ at) (or_none (link_fault h before (held_at n s)) (fault_among h (n ∷ before) ns s) none),
  all_apart m h (n ∷ before) ns s at (or_others (link_fault h before (held_at n s)) (fault_among h (n ∷ before) ns s) none),
)

pub still_held : (m : ℕ) (h : Held) (ns : List ℕ) (s : State) → held_at m s ≡ Some h → fault_among h [] ns s ≡ None → held_at m (lets_go ns s) ≡ Some h
still_held m h ns s at none = ap (held_of m) (others_gone m ns s.places (all_apart m h [] ns s at none)) ∙ at
