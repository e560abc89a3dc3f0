-- The parts of a module's code, as they are kept.
use Rattle.std.proofs.Common.{◌≡◌, ℕ, ◌+◌, ◌-◌, List, [], ◌∷◌, ◌++◌, length, take, drop, refl, sym, ap, subst, ◌∙◌, arith, append_assoc, length-append}
use Rattle.std.proofs.lemmas.List.{append-nil}
use Rattle.std.proofs.Math.Seq.{take-append_seam, drop-append_seam}
use Rattle.lynx_tree.specs.Trees.{EntryTree, ModuleTree}
use Rattle.lynx_code.specs.declared.code.Code.{Code}
use Rattle.lynx_code.specs.declared.code.Part.{Part}
use Rattle.lynx_code.specs.declared.instruction.Instruction.{Instruction}
use Rattle.lynx_code.specs.Modules.{PartCode, IsPartOf, ArePairs, IsCodeOf, instructions_of, entry_part, entry_parts, main_part, parts_of, module_code}
use Rattle.lynx_code.specs.Listing.{part_end, parts_in, listing_text, module_listing, code_listing}

-- each part starts where the one before it ends
abbrev pub Follow : ℕ → List PartCode → Type 0
Follow at [] = Unit {0}
Follow at (p ∷ ps) = (p.start ≡ at) × Follow (at + length p.instructions) ps

entries_follow : (m : ModuleTree) (at : ℕ) (es : List EntryTree) → Follow at (entry_parts m at es)
entries_follow m at [] = tt
entries_follow m at (e ∷ es) = (refl, entries_follow m (at + length (entry_part m at e).instructions) es)

-- the instructions of a part stand between those before it and those behind it
cut : (before here behind : List Instruction) (n : ℕ) → n ≡ length before + length here → take (n - length before) (drop (length before) (before ++ (here ++ behind))) ≡ here
cut before here behind n e =
    let count : n - length before ≡ length here = omega arith in
    ap (λ k. take k (drop (length before) (before ++ (here ++ behind)))) count ∙ ap (take (length here)) (drop-append_seam before (here ++ behind)) ∙ take-append_seam here behind

same_part : (p : PartCode) (q : Part) (is : List Instruction) → IsPartOf p q → is ≡ p.instructions → record { name = q.name; op = q.op; start = q.start; locals = q.locals.items; instructions = is } ≡ p
same_part p q is h e = λ i. record { name = h.0 i; op = h.1 i; start = h.2 i; locals = h.3 i; instructions = e i }

-- where a part ends that stands before these
ends : (ps : List PartCode) (qs : List Part) (before here : List Instruction) → Follow (length before + length here) ps → ArePairs IsPartOf ps qs
    → part_end qs (length (before ++ (here ++ instructions_of ps))) ≡ length before + length here
ends [] [] before here follow pairs = simp (length-append, append-nil) (omega arith)
ends [] (q ∷ qs) before here follow pairs = absurd pairs
ends (p ∷ ps) [] before here follow pairs = absurd pairs
ends (p ∷ ps) (q ∷ qs) before here follow pairs = pairs.0.2 ∙ follow.0

parts_kept : (ps : List PartCode) (qs : List Part) (before : List Instruction) → Follow (length before) ps → ArePairs IsPartOf ps qs → parts_in (before ++ instructions_of ps) qs ≡ ps
parts_kept [] [] before follow pairs = refl
parts_kept [] (q ∷ qs) before follow pairs = absurd pairs
parts_kept (p ∷ ps) [] before follow pairs = absurd pairs
parts_kept (p ∷ ps) (q ∷ qs) before follow pairs =
    let start : q.start ≡ length before = pairs.0.2 ∙ follow.0 in
    let end = ends ps qs before p.instructions follow.1 pairs.1 in
    let all : List Instruction = before ++ (p.instructions ++ instructions_of ps) in
    let here : take (part_end qs (length all) - q.start) (drop q.start all) ≡ p.instructions =
    ap (λ k. take (part_end qs (length all) - k) (drop k all)) start ∙ cut before p.instructions (instructions_of ps) (part_end qs (length all)) end in
    let next : Follow (length (before ++ p.instructions)) ps = rw (length-append before p.instructions) follow.1 in
    let others : parts_in all qs ≡ ps = ap (λ (is : List Instruction). parts_in is qs) (sym (append_assoc before p.instructions (instructions_of ps))) ∙ parts_kept ps qs (before ++ p.instructions) next pairs.1 in
    λ i. same_part p q (take (part_end qs (length all) - q.start) (drop q.start all)) pairs.0 here i ∷ others i

-- the listing of the code of a module
pub listed : (m : ModuleTree) (made : Code) → IsCodeOf m made → code_listing made ≡ module_listing m
listed m made h =
    let main : List Instruction = (main_part m).instructions in
    let follow : Follow 0 (parts_of m) = (refl, subst (λ (k : ℕ). Follow k (entry_parts m (length main) m.entries)) (omega arith) (entries_follow m (length main) m.entries)) in
    let kept : parts_in (module_code m) made.parts.items ≡ parts_of m = parts_kept (parts_of m) made.parts.items [] follow h.parts in
    let parts : parts_in made.instructions.items made.parts.items ≡ parts_of m = ap (λ (is : List Instruction). parts_in is made.parts.items) h.instructions ∙ kept in
    λ i. listing_text (h.name i) (parts i)
