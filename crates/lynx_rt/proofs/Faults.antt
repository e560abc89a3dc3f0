-- What is raised for the links in a message.
use Rattle.std.proofs.Common.{◌≡◌, ◌==◌, ◌<◌, ℕ, suc, true, false, Bool, ◌||◌, ◌+◌, ◌++◌, List, [], ◌∷◌, length, take, drop, get_or, Option, Some, None, option_map, if◌then◌else◌, refl, sym, ap, ap₂, subst, ◌∙◌, add-one}
use Rattle.std.proofs.Math.Seq.{drop-cons, drop-length, take-suc}
use Rattle.std.proofs.lemmas.List.Folds.{list_any-append}
use Rattle.std.specs.List.{list_any}
use Rattle.charlotte_calls.specs.declared.names.EndId.{EndId}
use Rattle.charlotte_calls.specs.EndEq.{same_link}
use Rattle.typing_rules.specs.declared.exception.Exception.{Exception}
use Rattle.typing_rules.specs.declared.exception.Exception.TheVariants.{BusyLink, NoLink}
use Rattle.end_protocol.specs.declared.kept.Kept.{Kept}
use Rattle.end_protocol.specs.Wanting.{is_busy}
use Rattle.process_run.specs.States.{Holding, Keeps, Gone, Place, Held, State}
use Rattle.process_run.specs.Actions.{fault_among, is_kept_back, link_fault, or_fault}
use Rattle.process_run.specs.Ends.{held_at, held_of, place_at}
use Rattle.process_ends.proofs.Lists.{some_is}
use Rattle.lynx_rt.specs.Changes.{busy_so, fault_on, named}

-- ---- of one link

back_by : (n : ℕ) (x : EndId) (h : Holding) (on e : EndId) (before : List ℕ) (b : Bool) → Some e ≡ option_map (λ g. g.end) (held_of n (Some (record { end = x; holding = h })))
    → b ≡ (list_any (λ m. m == n) before || same_link e on || busy_so (held_of n (Some (record { end = x; holding = h }))))
    → link_fault (named on) before (held_of n (Some (record { end = x; holding = h }))) ≡ (if b then Some BusyLink else None)
back_by n x (Gone own) on e before b at is = let no : Some e ≡ None = at in absurd cc
back_by n x (Keeps k) on e before b at is =
    ap (λ (c : Bool). if c then Some BusyLink else None)
    (ap (λ (y : EndId). list_any (λ m. m == n) before || same_link y on || is_busy k) (sym (some_is e x at)) ∙ sym is)

back_in : (n : ℕ) (o : Option Place) (on e : EndId) (before : List ℕ) (b : Bool) → Some e ≡ option_map (λ h. h.end) (held_of n o)
    → b ≡ (list_any (λ m. m == n) before || same_link e on || busy_so (held_of n o))
    → link_fault (named on) before (held_of n o) ≡ (if b then Some BusyLink else None)
back_in n None on e before b at is = let no : Some e ≡ None = at in absurd cc
back_in n (Some p) on e before b at is = back_by n p.end p.holding on e before b at is

-- the end of this number is held, and may not go on the other one, or it may
pub back_at : (n : ℕ) (s : State) (on e : EndId) (before : List ℕ) (b : Bool) → Some e ≡ option_map (λ h. h.end) (held_at n s)
    → b ≡ (list_any (λ m. m == n) before || same_link e on || busy_so (held_at n s))
    → link_fault (named on) before (held_at n s) ≡ (if b then Some BusyLink else None)
back_at n s on e before b at is = back_in n (place_at n s.places) on e before b at is

none_held : (o : Option Held) (on : EndId) (before : List ℕ) → None ≡ option_map (λ h. h.end) o → Some NoLink ≡ link_fault (named on) before o
none_held None on before at = refl
none_held (Some h) on before at = let no : None ≡ Some h.end = at in absurd cc

pub none_at : (n : ℕ) (s : State) (on : EndId) (before : List ℕ) → None ≡ option_map (λ h. h.end) (held_at n s) → Some NoLink ≡ link_fault (named on) before (held_at n s)
none_at n s on before at = none_held (held_at n s) on before at

-- ---- of all links

named_fault : (h : Held) (before : List ℕ) (o : Option Held) → link_fault h before o ≡ link_fault (named h.end) before o
named_fault h before None = refl
named_fault h before (Some g) = refl

named_among : (h : Held) (before ns : List ℕ) (s : State) → fault_among h before ns s ≡ fault_among (named h.end) before ns s
named_among h before [] s = refl
named_among h before (n ∷ ns) s = ap₂ or_fault (named_fault h before (held_at n s)) (named_among h (n ∷ before) ns s)

pub fault_at : (o : Option Held) (e : EndId) (links : List ℕ) (s : State) → Some e ≡ option_map (λ h. h.end) o → fault_on o links s ≡ fault_among (named e) [] links s
fault_at None e links s at = let no : Some e ≡ None = at in absurd cc
fault_at (Some h) e links s at = named_among h [] links s ∙ ap (λ (x : EndId). fault_among (named x) [] links s) (sym (some_is e h.end at))

pub no_fault : (o : Option Held) (links : List ℕ) (s : State) → None ≡ option_map (λ h. h.end) o → None ≡ fault_on o links s
no_fault None links s at = refl
no_fault (Some h) links s at = let no : None ≡ Some h.end = at in absurd cc

-- these name the same numbers
abbrev Same : List ℕ → List ℕ → Type 0
Same bs cs = (n : ℕ) → list_any (λ m. m == n) bs ≡ list_any (λ m. m == n) cs

same_fault : (h : Held) (bs cs : List ℕ) (o : Option Held) → Same bs cs → link_fault h bs o ≡ link_fault h cs o
same_fault h bs cs None same = refl
same_fault h bs cs (Some g) same = ap (λ (b : Bool). if b || same_link g.end h.end || is_busy g.kept then Some BusyLink else None) (same g.number)

same_among : (h : Held) (bs cs ns : List ℕ) (s : State) → Same bs cs → fault_among h bs ns s ≡ fault_among h cs ns s
same_among h bs cs [] s same = refl
same_among h bs cs (n ∷ ns) s same =
    ap₂ or_fault (same_fault h bs cs (held_at n s) same)
    (same_among h (n ∷ bs) (n ∷ cs) ns s (λ m. ap (λ (b : Bool). (n == m) || b) (same m)))

or_turn : (a b : Bool) → (a || b) ≡ (b || (a || false))
or_turn true true = refl
or_turn true false = refl
or_turn false true = refl
or_turn false false = refl

same_turn : (bs : List ℕ) (n : ℕ) → Same (n ∷ bs) (bs ++ n ∷ [])
same_turn bs n m = or_turn (n == m) (list_any (λ k. k == m) bs) ∙ sym (list_any-append (λ k. k == m) bs (n ∷ []))

-- the links from this one on, behind those before it
abbrev pub faults_from : EndId → List ℕ → ℕ → State → Option Exception
faults_from x links i s = fault_among (named x) (take i links) (drop i links) s

faults_there : (x : EndId) (links : List ℕ) (i : ℕ) (s : State) → i < length links
    → faults_from x links i s ≡ or_fault (link_fault (named x) (take i links) (held_at (get_or links i 0) s)) (fault_among (named x) (get_or links i 0 ∷ take i links) (drop (suc i) links) s)
faults_there x links i s less = ap (λ (ns : List ℕ). fault_among (named x) (take i links) ns s) (drop-cons links i 0 less)

pub fault_step : (x : EndId) (links : List ℕ) (i : ℕ) (s : State) → i < length links → None ≡ link_fault (named x) (take i links) (held_at (get_or links i 0) s)
    → faults_from x links (i + 1) s ≡ faults_from x links i s
fault_step x links i s less none =
    ap (λ (k : ℕ). faults_from x links k s) (add-one i)
    ∙ ap (λ (bs : List ℕ). fault_among (named x) bs (drop (suc i) links) s) (take-suc links i 0 less)
    ∙ sym (same_among (named x) (get_or links i 0 ∷ take i links) (take i links ++ get_or links i 0 ∷ []) (drop (suc i) links) s (same_turn (take i links) (get_or links i 0)))
    ∙ ap (λ (o : Option Exception). or_fault o (fault_among (named x) (get_or links i 0 ∷ take i links) (drop (suc i) links) s)) none
    ∙ sym (faults_there x links i s less)

pub fault_here : (x : EndId) (links : List ℕ) (i : ℕ) (s : State) (e : Exception) → i < length links → Some e ≡ link_fault (named x) (take i links) (held_at (get_or links i 0) s)
    → Some e ≡ faults_from x links i s
fault_here x links i s e less found =
    ap (λ (o : Option Exception). or_fault o (fault_among (named x) (get_or links i 0 ∷ take i links) (drop (suc i) links) s)) found ∙ sym (faults_there x links i s less)

pub fault_none : (x : EndId) (links : List ℕ) (s : State) → None ≡ faults_from x links (length links) s
fault_none x links s = ap (λ (ns : List ℕ). fault_among (named x) (take (length links) links) ns s) (sym (drop-length links))
