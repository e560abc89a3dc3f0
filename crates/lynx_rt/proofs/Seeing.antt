-- A process whose parts change is the state in which they changed.
use Rattle.std.proofs.Common.{◌≡◌, ℕ, Bool, List, sym, ap, subst, ◌∙◌}
use Rattle.charlotte_calls.specs.declared.names.EndId.{EndId}
use Rattle.lynx_meaning.specs.Courses.{Outcome}
use Rattle.lynx_interp.specs.Machines.{IsMachine}
use Rattle.lynx_interp.specs.Machines as machines
use Rattle.machine_sound.specs.Sound.{FitsAction}
use Rattle.machine_turns.specs.Turns.{given_to}
use Rattle.process_run.specs.States.{Open, Place, State}
use Rattle.process_run.specs.Deaths.{gives}
use Rattle.lynx_rt.specs.declared.asked.Asked.{Asked}
use Rattle.process_sound.specs.Machine.{Fits}
use Rattle.lynx_rt.specs.Kept.{IsProcess}
use Rattle.lynx_rt.specs.Seen.{state_with}

pub places_as : (f : List Place → List Place) (v : ℕ) (m : machines.State) (ps qs : List Place) (o : List (List Open)) (d : List EndId) (a : Asked) (over : Bool) (s : State)
    → state_with v m ps o d a over ≡ s → qs ≡ f ps → state_with v m qs o d a over ≡ record s { places = f s.places }
places_as f v m ps qs o d a over s seen is =
    ap (λ x. state_with v m x o d a over) is ∙ ap (λ (t : State). record t { places = f t.places }) seen

pub opened_as : (f : List (List Open) → List (List Open)) (v : ℕ) (m : machines.State) (ps : List Place) (o q : List (List Open)) (d : List EndId) (a : Asked) (over : Bool) (s : State)
    → state_with v m ps o d a over ≡ s → q ≡ f o → state_with v m ps q d a over ≡ record s { opened = f s.opened }
opened_as f v m ps o q d a over s seen is =
    ap (λ x. state_with v m ps x d a over) is ∙ ap (λ (t : State). record t { opened = f t.opened }) seen

pub doomed_as : (f : List EndId → List EndId) (v : ℕ) (m : machines.State) (ps : List Place) (o : List (List Open)) (d e : List EndId) (a : Asked) (over : Bool) (s : State)
    → state_with v m ps o d a over ≡ s → e ≡ f d → state_with v m ps o e a over ≡ record s { doomed = f s.doomed }
doomed_as f v m ps o d e a over s seen is =
    ap (λ x. state_with v m ps o x a over) is ∙ ap (λ (t : State). record t { doomed = f t.doomed }) seen

-- ---- its machine

pub machine_of : (v : ℕ) (m : machines.State) (ps : List Place) (o : List (List Open)) (d : List EndId) (a : Asked) (over : Bool) (s : State)
    → state_with v m ps o d a over ≡ s → IsProcess s → IsMachine m
machine_of v m ps o d a over s seen is =
    let here : IsProcess (state_with v m ps o d a over) = subst IsProcess (sym seen) is in
    record { sound = here.sound; parts = here.parts; heard = here.heard }

pub fits_of : (v : ℕ) (m : machines.State) (ps : List Place) (o : List (List Open)) (d : List EndId) (a : Asked) (over : Bool) (s : State) (thread : ℕ) (out : Outcome)
    → state_with v m ps o d a over ≡ s → Fits thread out s → FitsAction m.types thread out m.turns
fits_of v m ps o d a over s thread out seen fits = subst (Fits thread out) (sym seen) fits

pub given_as : (v : ℕ) (m n : machines.State) (ps : List Place) (o : List (List Open)) (d : List EndId) (a : Asked) (over : Bool) (s : State) (thread : ℕ) (out : Outcome)
    → state_with v m ps o d a over ≡ s → n ≡ record m { turns = given_to thread out m.turns } → state_with v n ps o d a over ≡ gives thread out s
given_as v m n ps o d a over s thread out seen is =
    ap (λ (x : machines.State). state_with v x ps o d a over) is ∙ ap (gives thread out) seen
