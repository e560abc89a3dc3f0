-- Machines at the start, with an outcome more, and with a thread more.
use Rattle.std.proofs.Common.{arith, ◌≡◌, ℕ, zero, suc, ◌+◌, List, [], ◌∷◌, ◌++◌, length, map, replicate, take, drop, Some, slice_get, sym, ap, subst, ◌∙◌, ◌≤◌, length-append}
use Rattle.std.proofs.lemmas.List.{length-replicate}
use Rattle.std.specs.Prelude.{slice_index_or}
use Rattle.lynx_tree.specs.declared.declaration.TypeName.{TypeName}
use Rattle.lynx_tree.specs.declared.declaration.TypeName.TheVariants as types
use Rattle.lynx_code.specs.declared.code.Code.{Code}
use Rattle.lynx_code.specs.declared.code.Part as kept
use Rattle.lynx_meaning.specs.Values.{Value, HaveTypes}
use Rattle.code_shapes.specs.Shapes.{code_types, kept_part, PartTypes, code_parts, opened_by, program}
use Rattle.lynx_meaning.specs.Courses.{Outcome}
use Rattle.machine_turns.specs.Turns.{IsFree, at_start, given_to, spawned}
use Rattle.machine_values.specs.declared.value.LinkRef.{LinkRef}
use Rattle.machine_never_stuck.proofs.Pairs.{same_length}
use Rattle.compiler_runnable.specs.Runnable.{HaveStarts, IsRunnable, parameters, start_locals}
use Rattle.compiler_runnable.proofs.Typed.{entry_typed, others_start, parameters_of, starts_typed}
use Rattle.machine_sound.specs.Sound.{FitsAction}
use Rattle.machine_sound.proofs.Outside.{given_sound, spawned_sound, start_sound}
use Rattle.machine_requests.proofs.Outside.{given_heard_there, given_open, given_others, spawned_heard, spawned_open, spawned_others, start_heard}
use Rattle.lynx_interp.specs.Machines.{GivesRequests, HasEntry, IsEntryFor, IsMachine, SpawnsRequests, State, start_globals, state_of}

-- ---- variables at the start

-- the links of the params come before the other variables
params_typed : (links : List LinkRef) (others : List TypeName) → HaveStarts others → HaveTypes (replicate (length links) types.Link ++ others) (start_globals (replicate (length links) types.Link ++ others) links)
params_typed [] others have = starts_typed others have
params_typed (l ∷ links) others have = (tt, params_typed links others have)

globals_typed : (kinds others : List TypeName) (n : ℕ) (links : List LinkRef) → kinds ≡ replicate n types.Link ++ others → length links ≡ n → HaveStarts kinds → HaveTypes kinds (start_globals kinds links)
globals_typed kinds others n links is many have =
    let known : kinds ≡ replicate (length links) types.Link ++ others = is ∙ ap (λ k. replicate k types.Link ++ others) (sym many) in
    subst (λ (ts : List TypeName). HaveTypes ts (start_globals ts links)) (sym known)
    (params_typed links others (others_start (replicate (length links) types.Link) others (subst (λ (ts : List TypeName). HaveStarts ts) known have)))

-- ---- the start

-- there is a variable for each param
pub params_fit : (kinds others : List TypeName) (n k : ℕ) → kinds ≡ replicate n types.Link ++ others → k ≡ n → k ≤ length kinds
params_fit kinds others n k is many =
    let size = ap length is in
    let both = length-append (replicate n types.Link) others in
    let first = length-replicate n types.Link in
    omega arith

pub start_machine : (code : Code) (links : List LinkRef) → IsRunnable code → length links ≡ code.params → IsMachine (state_of code (at_start (start_globals code.globals.items links)))
start_machine code links is many =
    record {
      sound = start_sound (code_types code) (code_parts code) code.instructions.items is.shaped.0 (start_globals code.globals.items links) is.shaped.1
          (globals_typed code.globals.items is.params.0 code.params links is.params.1 many is.globals) is.parts.body;
      parts = is.parts;
      heard = start_heard (program (code_types code) code.instructions.items) (start_globals code.globals.items links);
    }

-- ---- what the process does

-- there is a variable for each value of a parameter
pub has_entry : (s : State) (entry : ℕ) (values : List Value) → IsMachine s → IsEntryFor entry values s → HasEntry entry values s
has_entry s entry values is for =
    let p = for.0 in
    let size : entry + 1 ≡ suc entry = omega arith in
    let of_entry = is.parts.entries entry p (ap (slice_get s.parts) (sym size) ∙ for.1) in
    let long = ap length of_entry.locals ∙ length-append of_entry.of_op.arguments of_entry.others in
    let parameters_long = ap length (parameters_of s.types p of_entry) in
    let same = same_length (parameters s.types p) values for.2 in
    (p, for.1, omega arith, is.parts.starts (entry + 1) p for.1)

pub rest_start : (ts : List TypeName) (k n : ℕ) → HaveStarts ts → HaveStarts (take n (drop k ts))
rest_start [] k n have = none_start k n
  where
    none_start : (k n : ℕ) → HaveStarts (take n (drop k []))
    none_start zero zero = tt
    none_start zero (suc n) = tt
    none_start (suc k) zero = tt
    none_start (suc k) (suc n) = tt
rest_start (t ∷ ts) (suc k) n have = rest_start ts k n have.1
rest_start (t ∷ ts) zero zero have = tt
rest_start (t ∷ ts) zero (suc n) have = (have.0, rest_start ts zero n have.1)

-- a part at its place
part_at : (ps : List kept.Part) (n : ℕ) (d : kept.Part) (p : PartTypes) → slice_get (map kept_part ps) n ≡ Some p → kept_part (slice_index_or ps n d) ≡ p
part_at [] n d p here = cc
part_at (q ∷ ps) zero d p here = cc
part_at (q ∷ ps) (suc n) d p here = part_at ps n d p here

pub part_there : (ps : List kept.Part) (n i : ℕ) (d : kept.Part) (p : PartTypes) → i ≡ n → d ≡ slice_index_or ps i d → slice_get (map kept_part ps) n ≡ Some p → kept_part d ≡ p
part_there ps n i d p same found here = ap kept_part (found ∙ ap (λ (k : ℕ). slice_index_or ps k d) same) ∙ part_at ps n d p here

pub given_machine : (s : State) (n : ℕ) (outcome : Outcome) → IsMachine s → FitsAction s.types n outcome s.turns → IsMachine (record s { turns = given_to n outcome s.turns })
given_machine s n outcome is fits =
    record {
      sound = given_sound s.types s.parts s.instructions s.turns n outcome is.sound fits;
      parts = is.parts;
      heard = given_heard_there (program s.types s.instructions) s.turns n outcome fits.0 is.heard fits.1;
    }

pub gives_requests : (s : State) (n : ℕ) (outcome : Outcome) → IsMachine s → GivesRequests n outcome s (record s { turns = given_to n outcome s.turns })
gives_requests s n outcome is =
    record {
      there = λ wanted asking. given_open s.types s.parts s.instructions s.turns n outcome wanted is.sound is.heard asking;
      others = λ k other. given_others s.instructions s.turns n k outcome other;
    }

pub spawned_machine : (s : State) (n entry : ℕ) (values : List Value) (p : PartTypes) → IsMachine s → IsFree n s.turns → slice_get s.parts (entry + 1) ≡ Some p → HaveTypes (parameters s.types p) values →
    IsMachine (record s { turns = spawned n (opened_by p.op) p.start (start_locals p.locals values) s.turns })
spawned_machine s n entry values p is free here typed =
    let size : entry + 1 ≡ suc entry = omega arith in
    record {
      sound = spawned_sound s.types s.parts s.instructions s.turns n (entry + 1) p (start_locals p.locals values) is.sound free here
          (entry_typed s.types s.parts is.parts entry p values (ap (slice_get s.parts) (sym size) ∙ here) typed);
      parts = is.parts;
      heard = spawned_heard (program s.types s.instructions) s.turns n (opened_by p.op) p.start (start_locals p.locals values) free is.heard;
    }

pub spawns_requests : (s : State) (n entry : ℕ) (values : List Value) (p : PartTypes) → IsFree n s.turns → slice_get s.parts (entry + 1) ≡ Some p →
    SpawnsRequests n entry s (record s { turns = spawned n (opened_by p.op) p.start (start_locals p.locals values) s.turns })
spawns_requests s n entry values p free here =
    record {
      there = λ q there.
          let one : Some p ≡ Some q = sym here ∙ there in
          let same : p ≡ q = cc in
          spawned_open s.instructions s.turns n (opened_by p.op) p.start (start_locals p.locals values) free ∙ ap (λ (r : PartTypes). opened_by r.op) same;
      others = λ k other. spawned_others s.instructions s.turns n k (opened_by p.op) p.start (start_locals p.locals values) other;
    }
