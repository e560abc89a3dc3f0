-- The script of a seed can be performed as one that was read.
use Rattle.std.proofs.Common.{◌≡◌, ℕ, zero, suc, ◌+◌, ◌*◌, ◌/◌, ◌%◌, ◌<◌, ◌≤◌, ◌^◌, Bool, true, false, cond, eqb, ltb, List, [], ◌∷◌, ◌++◌, length, refl, sym, ap, subst, ◌∙◌, inl, arith, Result, IfOk}
use Rattle.std.specs.List.{All, AllByRecursion}
use Rattle.std.proofs.Math.Nat.{mod-lt}
use Rattle.std.proofs.lemmas.Bool.{eqb-true, eqb-false}
use Rattle.std.proofs.lemmas.Result.{IfOk-weaker}
use Rattle.std.proofs.lemmas.List.{length-append}
use Rattle.std.proofs.lemmas.List.Elements.{All-nil, All-cons, All-append, All-from_recursion, recursion_from_All}
use Rattle.charlotte_calls.specs.Setting.{IsValid}
use Rattle.charlotte_calls.specs.declared.memory.NoMemory.{NoMemory}
use Rattle.charlotte_calls.specs.declared.names.EndId.{EndId}
use Rattle.charlotte_calls.specs.declared.names.Side.{Side}
use Rattle.charlotte_calls.specs.declared.names.Side.TheVariants.{A, B}
use Rattle.charlotte_calls.specs.declared.names.Way.TheVariants.{Inward, Outward}
use Rattle.charlotte_calls.specs.declared.calls.Call.{Call}
use Rattle.charlotte_calls.specs.declared.calls.Call.TheVariants.{Send, Receive, Cancel, Wait}
use Rattle.charlotte_text.specs.Spelling.{IsEnd, IsCall}
use Rattle.lynx_plan.specs.declared.script.Script.{Script}
use Rattle.lynx_plan.specs.declared.script.ScriptLine.{ScriptLine}
use Rattle.lynx_plan.specs.declared.script.ScriptCall.{ScriptCall}
use Rattle.lynx_plan.specs.declared.script.ScriptCall.TheVariants.{Settle}
use Rattle.lynx_plan.specs.ScriptText.{AreRisingLines, FitsWhat}
use Rattle.lynx_plan.specs.Draws.{◌>>=◌, done, next_state, draw}
use Rattle.lynx_plan.specs.Seeded.{ring, drawn_end, wired_end, owner_of, drawn_ends, other_call, drawn_call, drawn_ask, drawn_take, settled, round, rounds, lines_from, script_of_seed}

-- ---- what is drawn names what is there

draw_small : (n x : ℕ) → 0 < n → (draw n x).0 < n
unfolding draw
draw_small n x some = mod-lt (next_state x / 2 ^ 33) some

end_there : (x : ℕ) → (drawn_end x).0.0 < 8
unfolding drawn_end
end_there x = draw_small 8 x (omega arith)

wired_is_end : (e : ℕ × Side) → e.0 < 8 → IsEnd (wired_end e)
wired_is_end e there = record { maker = omega (arith, there); count = omega (arith, there) }

owner_there : (i : ℕ) (side : Side) → i < 8 → (owner_of i side).0 < 8
owner_there i A there = there
owner_there i B there = mod-lt (i + 1) (omega arith)

abbrev AreFew : List EndId → Type 0
AreFew ends = AllByRecursion IsEnd ends × (length ends ≤ 1)

ends_fit : (x : ℕ) → AreFew (drawn_ends x).0
unfolding drawn_ends
ends_fit x =
    elim (eqb (draw 4 x).0 0) as (λ b. AreFew (cond b (drawn_end >>= λ e. done (wired_end e ∷ [])) (done []) (draw 4 x).1).0)
    [ true ↦ ((wired_is_end (drawn_end (draw 4 x).1).0 (end_there (draw 4 x).1), tt), omega arith) | false ↦ (tt, omega arith) ]

other_fits : (kind : ℕ) (on : EndId) → IsEnd on → IsCall 1 (other_call kind on)
other_fits kind on is =
    elim (ltb kind 10) as (λ a. IsCall 1 (cond a (Receive on) (cond (eqb kind 10) (Cancel on Outward) (cond (eqb kind 11) (Cancel on Inward) Wait)))) [
      | true ↦ is
      | false ↦ elim (eqb kind 10) as (λ a. IsCall 1 (cond a (Cancel on Outward) (cond (eqb kind 11) (Cancel on Inward) Wait))) [
        | true ↦ is
        | false ↦ elim (eqb kind 11) as (λ a. IsCall 1 (cond a (Cancel on Inward) Wait)) [ true ↦ is | false ↦ tt ]
      ]
    ]

call_fits : (kind : ℕ) (on : EndId) (x : ℕ) → IsEnd on → IsCall 1 (drawn_call kind on x).0
unfolding drawn_call
call_fits kind on x is =
    elim (ltb kind 5) as (λ b. IsCall 1 (cond b (drawn_ends >>= λ ends. done (Send on (109 ∷ []) ends)) (done (other_call kind on)) x).0)
    [ true ↦ (is, (omega arith, tt), omega arith, (ends_fit x).0, (ends_fit x).1) | false ↦ other_fits kind on is ]

ask_fits : (x : ℕ) → FitsWhat ring (drawn_ask x).0
unfolding drawn_ask
ask_fits x =
    let on = drawn_end x in
    let kind = draw 16 on.1 in
    (owner_there on.0.0 on.0.1 (end_there x), call_fits kind.0 (wired_end on.0) kind.1 (wired_is_end on.0 (end_there x)))

take_fits : (x : ℕ) → FitsWhat ring (drawn_take x).0
unfolding drawn_take
take_fits x = (draw_small 4 x (omega arith), draw_small 4 (draw 4 x).1 (omega arith))

-- ---- all lines do

abbrev Fit : List ScriptCall → Type 0
Fit whats = All (FitsWhat ring) whats

settled_fits : (n : ℕ) → Fit (settled n)
settled_fits n =
    elim (eqb (n % 50) 0) as (λ b. Fit (cond b (Settle ∷ []) [])) [ true ↦ All-cons (FitsWhat ring) Settle [] tt (All-nil (FitsWhat ring)) | false ↦ All-nil (FitsWhat ring) ]

round_fits : (n x : ℕ) → Fit (round n x).0
unfolding round
round_fits n x =
    let ask = drawn_ask x in
    let take = drawn_take ask.1 in
    All-cons (FitsWhat ring) ask.0 (take.0 ∷ settled n) (ask_fits x) (All-cons (FitsWhat ring) take.0 (settled n) (take_fits ask.1) (settled_fits n))

rounds_fit : (n x : ℕ) → Fit (rounds n x).0
unfolding rounds
rounds_fit zero x = All-nil (FitsWhat ring)
rounds_fit (suc n) x = All-append (FitsWhat ring) (rounds n x).0 (round (n + 1) (rounds n x).1).0 (rounds_fit n x) (round_fits (n + 1) (rounds n x).1)

lines_fit : (n : ℕ) (whats : List ScriptCall) → AllByRecursion (FitsWhat ring) whats → AllByRecursion (λ l. FitsWhat ring l.what) (lines_from n whats)
lines_fit n [] fit = tt
lines_fit n (w ∷ ws) fit = (fit.0, lines_fit (n + 1) ws fit.1)

pub script_fits : (seed : ℕ) → All (λ l. FitsWhat (script_of_seed seed).setting l.what) (script_of_seed seed).lines
unfolding script_of_seed
script_fits seed =
    let whats = (rounds 5000 seed).0 in
    All-from_recursion (λ l. FitsWhat ring l.what) (lines_from 18 whats) (lines_fit 18 whats (recursion_from_All (FitsWhat ring) whats (rounds_fit 5000 seed)))

-- ---- the numbers of lines

lines_rise : (n : ℕ) (whats : List ScriptCall) → AreRisingLines (lines_from n whats)
lines_rise n [] = tt
lines_rise n (w ∷ []) = tt
lines_rise n (w ∷ v ∷ ws) = (omega arith, lines_rise (n + 1) (v ∷ ws))

pub script_rises : (seed : ℕ) → AreRisingLines (script_of_seed seed).lines
unfolding script_of_seed
script_rises seed = lines_rise 18 (rounds 5000 seed).0

pub lines_append : (n : ℕ) (xs ys : List ScriptCall) → lines_from n (xs ++ ys) ≡ lines_from n xs ++ lines_from (n + length xs) ys
lines_append n [] ys = ap (λ (m : ℕ). lines_from m ys) (omega arith)
lines_append n (x ∷ xs) ys =
    let m : (n + 1) + length xs ≡ n + length (x ∷ xs) = omega arith in
    let first : ScriptLine = record { line = n; what = x } in
    ap (λ (ls : List ScriptLine). first ∷ ls) (lines_append (n + 1) xs ys ∙ ap (λ (k : ℕ). lines_from (n + 1) xs ++ lines_from k ys) m)

-- ---- how many lines there are

lines_count : (n : ℕ) (whats : List ScriptCall) → length (lines_from n whats) ≡ length whats
lines_count n [] = refl
lines_count n (w ∷ ws) = omega (arith, lines_count (n + 1) ws)

settled_count : (n : ℕ) → n / 50 + length (settled (n + 1)) ≡ (n + 1) / 50
settled_count n =
    elim (eqb ((n + 1) % 50) 0) as (λ b. eqb ((n + 1) % 50) 0 ≡ b → n / 50 + length (cond b (Settle ∷ []) []) ≡ (n + 1) / 50)
    [ true ↦ λ e. omega (arith, eqb-true _ _ e) | false ↦ λ e. omega (arith, eqb-false _ _ e) ] refl

round_count : (n x : ℕ) → length (round n x).0 ≡ 2 + length (settled n)
unfolding round
round_count n x = omega arith

pub rounds_count : (n x : ℕ) → length (rounds n x).0 ≡ 2 * n + n / 50
unfolding rounds
rounds_count zero x = refl
rounds_count (suc n) x =
    let last = (round (n + 1) (rounds n x).1).0 in
    omega (arith, length-append (rounds n x).0 last, round_count (n + 1) (rounds n x).1, settled_count n, rounds_count n x)

pub script_count : (seed : ℕ) → length (script_of_seed seed).lines ≡ 10100
unfolding script_of_seed
script_count seed = lines_count 18 (rounds 5000 seed).0 ∙ rounds_count 5000 seed

-- ---- as a loop draws them

-- these are the lines of the first n calls, and this is the state then
pub record AreDrawn (seed n : ℕ) (ls : List ScriptLine) (x : ℕ) : Type 0 where
  pub lines : ls ≡ lines_from 18 (rounds n seed).0
  pub state : x ≡ (rounds n seed).1
  pub count : length ls ≡ 2 * n + n / 50

pub drawn_none : (seed : ℕ) → AreDrawn seed 0 [] seed
unfolding rounds
drawn_none seed = record { lines = refl; state = refl; count = refl }

drawn_suc : (seed n : ℕ) (ls ms : List ScriptLine) (x y : ℕ) → AreDrawn seed n ls x → ms ≡ ls ++ lines_from (18 + length ls) (round (n + 1) x).0 → y ≡ (round (n + 1) x).1 → AreDrawn seed (suc n) ms y
unfolding rounds
drawn_suc seed n ls ms x y before e f =
    let whats = (rounds n seed).0 in
    let last = (round (n + 1) (rounds n seed).1).0 in
    let same : round (n + 1) x ≡ round (n + 1) (rounds n seed).1 = ap (round (n + 1)) before.state in
    let m : 18 + length ls ≡ 18 + length whats = omega (arith, ap length before.lines, lines_count 18 whats) in
    let all : ms ≡ lines_from 18 (rounds (suc n) seed).0 =
    e ∙ ap (λ (r : List ScriptCall × ℕ). ls ++ lines_from (18 + length ls) r.0) same ∙ ap (λ (k : ℕ). ls ++ lines_from k last) m ∙ ap (λ (z : List ScriptLine). z ++ lines_from (18 + length whats) last) before.lines
    ∙ sym (lines_append 18 whats last) in
    record { lines = all; state = f ∙ ap (λ (r : List ScriptCall × ℕ). r.1) same; count = ap length all ∙ lines_count 18 (rounds (suc n) seed).0 ∙ rounds_count (suc n) seed }

pub drawn_next : (seed n : ℕ) (ls ms : List ScriptLine) (x y : ℕ) → AreDrawn seed n ls x → ms ≡ ls ++ lines_from (18 + length ls) (round (n + 1) x).0 → y ≡ (round (n + 1) x).1 → AreDrawn seed (n + 1) ms y
drawn_next seed n ls ms x y before e f =
    let k : suc n ≡ n + 1 = omega arith in
    subst (λ (m : ℕ). AreDrawn seed m ms y) k (drawn_suc seed n ls ms x y before e f)

-- ---- the setting

ring_valid : IsValid ring
ring_valid =
    record {
      limits = record { version = inl refl; some_kernel = omega arith; kernels = omega arith; processes = omega arith; wires = omega arith };
      homes = All-from_recursion (λ home. home < 4) ring.homes (omega arith, (omega arith, (omega arith, (omega arith, (omega arith, (omega arith, (omega arith, (omega arith, tt))))))));
      wires =
          All-from_recursion (λ w. (w.0.0 < 8) × (w.1.0 < 8)) ring.wires
          ((omega arith, omega arith), ((omega arith, omega arith), ((omega arith, omega arith), ((omega arith, omega arith), ((omega arith, omega arith), ((omega arith, omega arith), ((omega arith, omega arith), ((omega arith, omega arith), tt))))))));
    }

pub script_valid : (seed : ℕ) → IsValid (script_of_seed seed).setting
unfolding script_of_seed
script_valid seed = ring_valid

-- ---- of what the maker gives

pub of_seed : (P : Script → Type 0) (seed : ℕ) (r : Result Script NoMemory) → P (script_of_seed seed) → IfOk r (λ s. s ≡ script_of_seed seed) → IfOk r P
of_seed P seed r p h = IfOk-weaker r (λ s. s ≡ script_of_seed seed) P (λ s e. subst P (sym e) p) h
