-- A process before its first step.
use Rattle.std.proofs.Common.{arith, ◌≡◌, ◌⊎◌, ◌<◌, ◌^◌, ℕ, zero, suc, ◌+◌, List, [], ◌∷◌, ◌++◌, false, length, map, replicate, drop, get_or, refl, sym, ap, subst, ◌∙◌, append_assoc, add-one}
use Rattle.std.proofs.Math.Seq.{drop-cons, drop-length}
use Rattle.std.proofs.lemmas.List.{append-nil}
use Rattle.charlotte_calls.specs.declared.names.EndId.{EndId}
use Rattle.lynx_code.specs.declared.code.Code.{Code}
use Rattle.lynx_interp.specs.Machines.{IsMachine, start_globals, state_of}
use Rattle.lynx_interp.specs.Machines as machines
use Rattle.machine_values.specs.declared.value.LinkRef.{LinkRef}
use Rattle.machine_turns.specs.Turns.{at_start, most_threads}
use Rattle.end_protocol.specs.Kept.{fresh}
use Rattle.process_run.specs.States.{Keeps, Open, Place, links_from, start}
use Rattle.process_run.specs.Ends.{get_all, gets_one}
use Rattle.process_ends.proofs.Numbering.{got_as}
use Rattle.lynx_rt.specs.declared.asked.Asked.TheVariants.{Nothing}
use Rattle.lynx_rt.specs.Seen.{state_with}

abbrev place_of : EndId → Place
place_of x = record { end = x; holding = Keeps fresh }

longer : (qs : List Place) (q : Place) → length (qs ++ q ∷ []) ≡ suc (length qs)
longer [] q = refl
longer (p ∷ qs) q = ap suc (longer qs q)

got_all : (xs : List EndId) (ps : List Place) → length ps + length xs < 4294967296 → get_all xs ps ≡ ps ++ map place_of xs
got_all [] ps fits = sym (append-nil ps)
got_all (x ∷ xs) ps fits =
    let less : length ps + suc (length xs) < 4294967296 = fits in
    let one : length (ps ++ place_of x ∷ []) ≡ suc (length ps) = longer ps (place_of x) in
    ap (get_all xs) (sym (got_as x ps (length ps) refl (omega (arith, less))))
    ∙ got_all xs (ps ++ place_of x ∷ []) (omega (arith, less, one)) ∙ append_assoc ps (place_of x ∷ []) (map place_of xs)

-- it gets its first ends
pub got_first : (xs : List EndId) (ps qs : List Place) → ps ≡ [] → length xs < 2 ^ 32 → qs ≡ get_all xs ps → qs ≡ map (λ x. record { end = x; holding = Keeps fresh }) xs
got_first xs ps qs none fits is = is ∙ ap (get_all xs) none ∙ got_all xs [] (omega (arith, fits))

-- ---- links

pub links_length : (n : ℕ) (xs : List EndId) → length (links_from n xs) ≡ length xs
links_length n [] = refl
links_length n (x ∷ xs) = ap suc (links_length (n + 1) xs)

links_next : (i : ℕ) (xs : List EndId) (x : EndId) → i < length xs → links_from (i + 1) (drop i xs) ≡ record { 0 = i + 1 } ∷ links_from (i + 1 + 1) (drop (i + 1) xs)
links_next i xs x less =
    ap (links_from (i + 1)) (drop-cons xs i x less) ∙ ap (λ (k : ℕ). record { 0 = i + 1 } ∷ links_from (i + 1 + 1) (drop k xs)) (sym (add-one i))

pub links_step : (i : ℕ) (xs : List EndId) (x : EndId) (ls : List LinkRef) → i < length xs
    → (ls ++ record { 0 = i + 1 } ∷ []) ++ links_from (i + 1 + 1) (drop (i + 1) xs) ≡ ls ++ links_from (i + 1) (drop i xs)
links_step i xs x ls less =
    append_assoc ls (record { 0 = i + 1 } ∷ []) (links_from (i + 1 + 1) (drop (i + 1) xs)) ∙ ap (λ (ms : List LinkRef). ls ++ ms) (sym (links_next i xs x less))

pub links_all : (xs : List EndId) (ls : List LinkRef) → ls ++ links_from (length xs + 1) (drop (length xs) xs) ≡ ls
links_all xs ls = ap (λ (ys : List EndId). ls ++ links_from (length xs + 1) ys) (drop-length xs) ∙ append-nil ls

-- ---- its parts

pub started_as : (v : ℕ) (code : Code) (ls : List LinkRef) (xs : List EndId) (m : machines.State) (ps : List Place) (o : List (List Open)) (d : List EndId)
    → m ≡ state_of code (at_start (start_globals code.globals.items ls)) → ls ≡ links_from 1 xs → ps ≡ map (λ x. record { end = x; holding = Keeps fresh }) xs
    → o ≡ replicate most_threads [] → d ≡ [] → state_with v m ps o d Nothing false ≡ start v code xs
started_as v code ls xs m ps o d machine links places opened doomed =
    ap (λ (x : machines.State). state_with v x ps o d Nothing false) (machine ∙ ap (λ (x : List LinkRef). state_of code (at_start (start_globals code.globals.items x))) links)
    ∙ ap (λ (x : List Place). state_with v (state_of code (at_start (start_globals code.globals.items (links_from 1 xs)))) x o d Nothing false) places
    ∙ ap (λ (x : List (List Open)). state_with v (state_of code (at_start (start_globals code.globals.items (links_from 1 xs)))) (map (λ y. record { end = y; holding = Keeps fresh }) xs) x d Nothing false) opened
    ∙ ap (λ (x : List EndId). state_with v (state_of code (at_start (start_globals code.globals.items (links_from 1 xs)))) (map (λ y. record { end = y; holding = Keeps fresh }) xs) (replicate most_threads []) x Nothing false) doomed
