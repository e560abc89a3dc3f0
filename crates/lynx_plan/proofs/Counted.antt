-- Scripts that are spelled: their lines rise, and each takes seven bytes and more.
use Rattle.std.proofs.Common.{◌≡◌, ℕ, ◌+◌, ◌*◌, ◌≤◌, Bool, true, false, cond, eqb, List, [], ◌∷◌, ◌++◌, length, map, refl, arith, Result, Ok, Err, IfOk}
use Rattle.std.specs.List.{onto_first}
use Rattle.charlotte_calls.specs.declared.calls.Call.{Call}
use Rattle.charlotte_calls.specs.declared.calls.Call.TheVariants as call
use Rattle.charlotte_text.specs.Reading.{parts}
use Rattle.charlotte_text.specs.Spelling.{call_text}
use Rattle.lynx_plan.specs.Reading.{is_skipped}
use Rattle.lynx_plan.specs.ScriptText.{standing, what_text, numbered, AreRisingLines, IsScriptText}
use Rattle.lynx_plan.specs.declared.fault.PlanFault.{PlanFault}
use Rattle.lynx_plan.specs.declared.script.Script.{Script}
use Rattle.lynx_plan.specs.declared.script.ScriptLine.{ScriptLine}
use Rattle.lynx_plan.specs.declared.script.ScriptCall.{ScriptCall}
use Rattle.lynx_plan.specs.declared.script.ScriptCall.TheVariants.{Ask, Take, Settle}
use Rattle.std.proofs.lemmas.List.{length-append}

-- ---- the numbers of lines rise

-- the numbers rise, and the first is at least this one
Rising : ℕ → List (ℕ × List ℕ) → Type 0
Rising n [] = Unit {0}
Rising n (x ∷ xs) = (n ≤ x.0) × Rising (x.0 + 1) xs

rising_lower : (m n : ℕ) (xs : List (ℕ × List ℕ)) → m ≤ n → Rising n xs → Rising m xs
unfolding Rising
rising_lower m n [] h r = tt
rising_lower m n (x ∷ xs) h r = (omega (arith, r.0), r.1)

standing_more : (n : ℕ) (text : List ℕ) (xs : List (ℕ × List ℕ)) (b : Bool) → Rising (n + 1) xs → Rising n (cond b xs ((n, text) ∷ xs))
unfolding Rising
standing_more n text xs true r = rising_lower n (n + 1) xs (omega arith) r
standing_more n text xs false r = (omega arith, r)

standing_rising : (n : ℕ) (texts : List (List ℕ)) → Rising n (standing n texts)
unfolding Rising
standing_rising n [] = tt
standing_rising n (text ∷ texts) = standing_more n text (standing (n + 1) texts) (is_skipped text) (standing_rising (n + 1) texts)

rising_behind : (n : ℕ) (xs ys : List (ℕ × List ℕ)) → Rising n (xs ++ ys) → Rising 0 ys
unfolding Rising
rising_behind n [] ys r = rising_lower 0 n ys (omega arith) r
rising_behind n (x ∷ xs) ys r = rising_behind (x.0 + 1) xs ys r.1

rising_lines : (n : ℕ) (ls : List ScriptLine) → Rising n (map numbered ls) → AreRisingLines ls
unfolding Rising
rising_lines n [] r = tt
rising_lines n (l ∷ []) r = tt
rising_lines n (l ∷ m ∷ ls) r = (omega (arith, r.1.0), rising_lines (l.line + 1) (m ∷ ls) r.1)

pub script_rising : (bytes : List ℕ) (s : Script) → IsScriptText bytes s → AreRisingLines s.lines
script_rising bytes s h =
    rising_lines 0 s.lines (rising_behind 1 h.header (map numbered s.lines) (rw h.lines at (standing_rising 1 (parts 10 bytes))))

-- ---- there are few lines

-- the bytes of texts, each with its line feed
weight : List (List ℕ) → ℕ
weight [] = 0
weight (t ∷ ts) = (length t + 1) + weight ts

weight_of : List (ℕ × List ℕ) → ℕ
weight_of [] = 0
weight_of (x ∷ xs) = (length x.1 + 1) + weight_of xs

weight_of-append : (xs ys : List (ℕ × List ℕ)) → weight_of (xs ++ ys) ≡ weight_of xs + weight_of ys
unfolding weight_of
weight_of-append [] ys = omega arith
weight_of-append (x ∷ xs) ys = omega (arith, weight_of-append xs ys)

standing_weight : (n : ℕ) (texts : List (List ℕ)) → weight_of (standing n texts) ≤ weight texts
unfolding weight weight_of
standing_weight n [] = omega arith
standing_weight n (text ∷ texts) =
    elim (is_skipped text) as (λ b. weight_of (cond b (standing (n + 1) texts) ((n, text) ∷ standing (n + 1) texts)) ≤ (length text + 1) + weight texts)
    [ true ↦ omega (arith, standing_weight (n + 1) texts) | false ↦ omega (arith, standing_weight (n + 1) texts) ]

onto_weight : (x : ℕ) (ps : List (List ℕ)) → 1 ≤ weight ps → weight (onto_first x ps) ≡ weight ps + 1
unfolding weight
onto_weight x [] h = absurd (omega arith)
onto_weight x (p ∷ ps) h = omega arith

parts_weight : (bytes : List ℕ) → weight (parts 10 bytes) ≡ length bytes + 1
unfolding weight
parts_weight [] = refl
parts_weight (b ∷ bs) =
    let others = parts_weight bs in
    elim (eqb b 10) as (λ t. weight (cond t ([] ∷ parts 10 bs) (onto_first b (parts 10 bs))) ≡ length (b ∷ bs) + 1)
    [ true ↦ omega (arith, others) | false ↦ omega (arith, others, onto_weight b (parts 10 bs) (omega (arith, others))) ]

call_length : (c : Call) → 4 ≤ length (call_text c)
call_length call.Make = omega arith
call_length (call.Destroy on) = simp length-append (omega arith)
call_length (call.Send on bytes enclose) = simp length-append (omega arith)
call_length (call.Receive on) = simp length-append (omega arith)
call_length (call.Cancel on way) = simp length-append (omega arith)
call_length call.Wait = omega arith
call_length (call.Print bytes) = simp length-append (omega arith)
call_length call.Exit = omega arith

what_length : (w : ScriptCall) → 6 ≤ length (what_text w)
what_length (Ask p c) = simp length-append (omega (arith, call_length c))
what_length (Take from to) = simp length-append (omega arith)
what_length Settle = omega arith

lines_weight : (ls : List ScriptLine) → 7 * length ls ≤ weight_of (map numbered ls)
unfolding weight_of
lines_weight [] = omega arith
lines_weight (l ∷ ls) = omega (arith, what_length l.what, lines_weight ls)

pub script_few : (bytes : List ℕ) (s : Script) → IsScriptText bytes s → 7 * length s.lines ≤ length bytes + 1
script_few bytes s h =
    let all = rw h.lines at (standing_weight 1 (parts 10 bytes)) in
    omega (arith, all, parts_weight bytes, weight_of-append h.header (map numbered s.lines), lines_weight s.lines)

-- ---- of what a reader gives

on_ok : {T E : Type 0} {P Q : T → Type 0} (r : Result T E) → IfOk r P → ((x : T) → P x → Q x) → IfOk r Q
on_ok (Ok x) h f = f x h
on_ok (Err e) h f = tt

pub read_rising : (bytes : List ℕ) (r : Result Script PlanFault) → IfOk r (IsScriptText bytes) → IfOk r (λ s. AreRisingLines s.lines)
read_rising bytes r h = on_ok r h (script_rising bytes)

pub read_few : (bytes : List ℕ) (r : Result Script PlanFault) → IfOk r (IsScriptText bytes) → IfOk r (λ s. 7 * length s.lines ≤ length bytes + 1)
read_few bytes r h = on_ok r h (script_few bytes)
