-- The jumps of handlers, which are written when the address behind their `try` is known.
use Rattle.std.proofs.Common.{◌≡◌, ℕ, ◌+◌, List, [], ◌∷◌, ◌++◌, length, get_or, Some, refl, sym, ap, ◌∙◌, arith, append_assoc, length-append}
use Rattle.std.specs.Prelude.{slice_set}
use Rattle.std.specs.List.{slice_get}
use Rattle.std.proofs.Math.Seq.{set-append_seam, get_or-append_seam}
use Rattle.std.proofs.lemmas.Option.{slice_get-get_or}
use Rattle.lynx_tree.specs.Trees.{HandlerTrees, no_handlers, more_handlers}
use Rattle.typing_rules.specs.Exceptions.{exception_of}
use Rattle.typing_rules.specs.declared.exception.Exception.{Exception}
use Rattle.lynx_code.specs.Generation.{Names, stmts_code, handlers_code, exception_named}
use Rattle.lynx_code.specs.declared.instruction.Instruction.{Instruction}
use Rattle.lynx_code.specs.declared.instruction.Instruction.TheVariants as code
use Rattle.compiler_emission.specs.Jumps.{handlers_count}

-- ---- one handler

module _ (before body rest : List Instruction) (x : Exception) (next : ℕ) (kept : Instruction) (at : ℕ) (old : List Instruction) (place : at ≡ length before) (end : next ≡ at + 1 + length body + 1)
    (is : old ≡ before ++ code.Case x next ∷ (body ++ kept ∷ rest)) where
  -- what stands before the jump
  abbrev head : List Instruction
  head = before ++ code.Case x next ∷ body

  split : (k : Instruction) → head ++ k ∷ rest ≡ before ++ code.Case x next ∷ (body ++ k ∷ rest)
  split k = append_assoc before (code.Case x next ∷ body) (k ∷ rest)

  pub all_of_it : length old ≡ length before + (1 + (length body + (1 + length rest)))
  all_of_it = omega (arith, ap length is, length-append before (code.Case x next ∷ (body ++ kept ∷ rest)), length-append body (kept ∷ rest))

  pub stands_there : slice_get old at ≡ Some (code.Case x next)
  stands_there =
      slice_get-get_or old at (code.Case x next) (omega (arith, all_of_it, place))
      ∙ ap Some (ap (λ (is : List Instruction). get_or is at (code.Case x next)) is ∙ ap (λ k. get_or (before ++ code.Case x next ∷ (body ++ kept ∷ rest)) k (code.Case x next)) place ∙ get_or-append_seam before (code.Case x next) (body ++ kept ∷ rest) (code.Case x next))

  pub patched : (j : Instruction) (k : ℕ) → k + 1 ≡ next → slice_set old k j ≡ before ++ code.Case x next ∷ (body ++ j ∷ rest)
  patched j k before_next =
      let size : k ≡ length head = omega (arith, length-append before (code.Case x next ∷ body), place, end, before_next) in
      ap (λ (is : List Instruction). slice_set is k j) (is ∙ sym (split kept)) ∙ ap (λ n. slice_set (head ++ kept ∷ rest) n j) size ∙ set-append_seam head kept rest j ∙ split j

-- ---- handlers

-- the handlers that are left begin at this address, and once they are closed all is as wanted
pub record Closing (names : Names) (end : ℕ) (code : List Instruction) (at left : ℕ) (wanted : List Instruction) : Type 0 where
  pub before : List Instruction
  pub rest : List Instruction
  pub handlers : HandlerTrees
  pub place : at ≡ length before
  pub count : left ≡ handlers_count handlers
  pub is : code ≡ before ++ (handlers_code names 0 at handlers ++ rest)
  pub goal : before ++ (handlers_code names end at handlers ++ rest) ≡ wanted

-- what closing a handler does
abbrev pub Closes : ℕ → List Instruction → List Instruction → ℕ → ℕ → Type 0
Closes end old new at result = (before body rest : List Instruction) (x : Exception) (next : ℕ) (kept : Instruction) → at ≡ length before → next ≡ at + 1 + length body + 1
    → old ≡ before ++ code.Case x next ∷ (body ++ kept ∷ rest) → (result ≡ next) × (new ≡ before ++ code.Case x next ∷ (body ++ code.Jump end ∷ rest))

one_closed : (names : Names) (end : ℕ) (old new : List Instruction) (at left result : ℕ) (wanted before rest : List Instruction) (handlers : HandlerTrees) → at ≡ length before → left + 1 ≡ handlers_count handlers
    → old ≡ before ++ (handlers_code names 0 at handlers ++ rest) → before ++ (handlers_code names end at handlers ++ rest) ≡ wanted → Closes end old new at result → Closing names end new result left wanted
one_closed names end old new at left result wanted before rest no_handlers place count is goal closes = absurd (let h : left + 1 ≡ 0 = count in omega arith)
one_closed names end old new at left result wanted before rest (more_handlers name body others) place count is goal closes =
    let b : List Instruction = stmts_code names (at + 1) body in
    let next : ℕ = at + 1 + length b + 1 in
    let here_case : Instruction = code.Case (exception_named (exception_of name)) next in
    let around : (e : ℕ) (os : List Instruction) → before ++ (((here_case ∷ b) ++ code.Jump e ∷ os) ++ rest) ≡ before ++ here_case ∷ (b ++ code.Jump e ∷ (os ++ rest)) =
    λ e os. ap (λ (y : List Instruction). before ++ here_case ∷ y) (append_assoc b (code.Jump e ∷ os) rest) in
    let closed = closes before b (handlers_code names 0 next others ++ rest) (exception_named (exception_of name)) next (code.Jump 0) place refl (is ∙ around 0 (handlers_code names 0 next others)) in
    let here : List Instruction = before ++ here_case ∷ (b ++ code.Jump end ∷ []) in
    let size : length here ≡ next = length-append before (here_case ∷ (b ++ code.Jump end ∷ [])) ∙ omega (arith, length-append b (code.Jump end ∷ []), place) in
    let apart : (os : List Instruction) → before ++ here_case ∷ (b ++ code.Jump end ∷ (os ++ rest)) ≡ here ++ (os ++ rest) =
    λ os. ap (λ (y : List Instruction). before ++ here_case ∷ y) (sym (append_assoc b (code.Jump end ∷ []) (os ++ rest))) ∙ sym (append_assoc before (here_case ∷ (b ++ code.Jump end ∷ [])) (os ++ rest)) in
    record {
      before = here;
      rest = rest;
      handlers = others;
      place = closed.0 ∙ sym size;
      count = omega (arith, count);
      is = closed.1 ∙ apart (handlers_code names 0 next others) ∙ ap (λ k. here ++ (handlers_code names 0 k others ++ rest)) (sym closed.0);
      goal = ap (λ k. here ++ (handlers_code names end k others ++ rest)) closed.0 ∙ sym (apart (handlers_code names end next others)) ∙ sym (around end (handlers_code names end next others)) ∙ goal;
    }

pub next_closed : (names : Names) (end : ℕ) (old new : List Instruction) (at left result : ℕ) (wanted : List Instruction) → Closing names end old at (left + 1) wanted → Closes end old new at result → Closing names end new result left wanted
next_closed names end old new at left result wanted h closes = one_closed names end old new at left result wanted h.before h.rest h.handlers h.place h.count h.is h.goal closes

none_left : (names : Names) (end at : ℕ) (before rest wanted code : List Instruction) (handlers : HandlerTrees) → 0 ≡ handlers_count handlers → code ≡ before ++ (handlers_code names 0 at handlers ++ rest)
    → before ++ (handlers_code names end at handlers ++ rest) ≡ wanted → code ≡ wanted
none_left names end at before rest wanted code no_handlers count is goal = is ∙ goal
none_left names end at before rest wanted code (more_handlers name body others) count is goal = absurd (let h : 0 ≡ handlers_count others + 1 = count in omega arith)

pub all_closed : (names : Names) (end : ℕ) (code : List Instruction) (at left : ℕ) (wanted : List Instruction) → left ≡ 0 → Closing names end code at left wanted → code ≡ wanted
all_closed names end code at left wanted none h = none_left names end at h.before h.rest wanted code h.handlers (sym none ∙ h.count) h.is h.goal
