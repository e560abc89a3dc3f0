-- Reading lines one after the other, as a loop does, and what is kept where each line keeps it.
use Rattle.std.proofs.Common.{◌≡◌, ℕ, ◌+◌, ◌≤◌, Bool, true, false, cond, eqb, List, [], ◌∷◌, ◌++◌, length, Result, Ok, Err, refl, sym, ap, subst, ◌∙◌, append_assoc, arith}
use Rattle.std.proofs.lemmas.List.{append-nil}
use Rattle.std.proofs.lemmas.List.Sums.{count_by-le-length}
use Rattle.std.proofs.lemmas.List.Splits.{length-slice_split}
use Rattle.charlotte_text.specs.Reading.{parts}
use Rattle.lynx_plan.specs.declared.fault.PlanFault.{PlanFault}
use Rattle.lynx_plan.specs.declared.fault.PlanFault.TheVariants.{BadPlan, NoMemory}
use Rattle.lynx_plan.specs.Reading.{Fails, Reader, is_skipped, has_kernels, finished, line_read, then_lines, lines_read, text_read}
use Rattle.lynx_plan.specs.ScriptText.{standing}

pub few_parts : (bytes : List ℕ) → length (parts 10 bytes) ≤ length bytes + 1
few_parts bytes = omega (arith, length-slice_split (λ b. eqb b 10) bytes, count_by-le-length (λ b. eqb b 10) bytes)

pub line_goes_on : {G X : Type 0} (r : Reader G X) (line : ℕ) (g h : G) (ps : List (List ℕ)) (t : List ℕ) (ts : List (List ℕ)) (total : Result G PlanFault)
    → ps ≡ t ∷ ts → line_read r (line + 1) g t ≡ Ok h → lines_read r (line + 1) g ps ≡ total → lines_read r ((line + 1) + 1) h ts ≡ total
unfolding lines_read
line_goes_on r line g h ps t ts total p e so_far =
    let one : lines_read r (line + 1) g ps ≡ lines_read r ((line + 1) + 1) h ts = rw (p, e) refl in
    sym one ∙ so_far

failing : {G X : Type 0} (r : Reader G X) (line : ℕ) (rule : ℕ) (at : ℕ) (g : G) (ps : List (List ℕ)) (t : List ℕ) (ts : List (List ℕ)) (total : Result G PlanFault)
    → ps ≡ t ∷ ts → line_read r at g t ≡ Err (BadPlan line rule) → lines_read r at g ps ≡ total → total ≡ Err (BadPlan line rule)
unfolding lines_read
failing r line rule at g ps t ts total p e so_far =
    let one : lines_read r at g ps ≡ Err (BadPlan line rule) = rw (p, e) refl in
    sym so_far ∙ one

pub line_fails : {G X : Type 0} (r : Reader G X) (e : PlanFault) (at : ℕ) (g : G) (ps : List (List ℕ)) (t : List ℕ) (ts : List (List ℕ)) (bytes : List ℕ)
    → ps ≡ t ∷ ts → Fails e (line_read r at g t) → lines_read r at g ps ≡ lines_read r 1 r.start (parts 10 bytes) → Fails e (text_read r bytes)
unfolding text_read
line_fails r NoMemory at g ps t ts bytes p f so_far = tt
line_fails r (BadPlan line rule) at g ps t ts bytes p f so_far = ap (finished r (length (parts 10 bytes))) (failing r line rule at g ps t ts (lines_read r 1 r.start (parts 10 bytes)) p f so_far)

pub lines_end : {G X : Type 0} (r : Reader G X) (line : ℕ) (g : G) (ps : List (List ℕ)) (bytes : List ℕ) → ps ≡ [] → line + length ps ≡ length (parts 10 bytes)
    → lines_read r (line + 1) g ps ≡ lines_read r 1 r.start (parts 10 bytes) → finished r line (Ok g) ≡ text_read r bytes
unfolding lines_read text_read
lines_end r line g ps bytes none count so_far =
    let n : line ≡ length (parts 10 bytes) = omega (arith, ap length none) in
    ap (λ (k : ℕ). finished r k (Ok g)) n ∙ ap (finished r (length (parts 10 bytes))) (rw none at so_far)

-- ---- the lines that are not skipped

abbrev pub Line : Type 0
Line = ℕ × List ℕ

-- these alone are read
abbrev pub stands_read : {G X : Type 0} → Reader G X → G → List Line → Result G PlanFault
stands_read r g [] = Ok g
stands_read r g (l ∷ ls) = then_lines (λ h. stands_read r h ls) (r.with_line l.0 g l.1)

then_same : {G : Type 0} (f k : G → Result G PlanFault) (r : Result G PlanFault) → ((g : G) → f g ≡ k g) → then_lines f r ≡ then_lines k r
then_same f k (Ok g) e = e g
then_same f k (Err x) e = refl

pub stands_lines : {G X : Type 0} (r : Reader G X) (n : ℕ) (g : G) (ps : List (List ℕ)) → lines_read r n g ps ≡ stands_read r g (standing n ps)
unfolding lines_read line_read
stands_lines r n g [] = refl
stands_lines r n g (t ∷ ts) =
    elim (is_skipped t) as (λ b. then_lines (λ h. lines_read r (n + 1) h ts) (cond b (Ok g) (r.with_line n g t)) ≡ stands_read r g (cond b (standing (n + 1) ts) ((n, t) ∷ standing (n + 1) ts))) [
      | true ↦ stands_lines r (n + 1) g ts
      | false ↦ then_same (λ h. lines_read r (n + 1) h ts) (λ h. stands_read r h (standing (n + 1) ts)) (r.with_line n g t) (λ h. stands_lines r (n + 1) h ts)
    ]

then_stands : {G X : Type 0} (r : Reader G X) (x : Result G PlanFault) (xs ys : List Line) → ((g : G) → stands_read r g (xs ++ ys) ≡ then_lines (λ h. stands_read r h ys) (stands_read r g xs))
    → then_lines (λ h. stands_read r h (xs ++ ys)) x ≡ then_lines (λ h. stands_read r h ys) (then_lines (λ h. stands_read r h xs) x)
then_stands r (Ok g) xs ys e = e g
then_stands r (Err f) xs ys e = refl

pub stands_append : {G X : Type 0} (r : Reader G X) (xs ys : List Line) (g : G) → stands_read r g (xs ++ ys) ≡ then_lines (λ h. stands_read r h ys) (stands_read r g xs)
stands_append r [] ys g = refl
stands_append r (x ∷ xs) ys g = then_stands r (r.with_line x.0 g x.1) xs ys (stands_append r xs ys)

-- ---- what a reading keeps

abbrev as_ok : {G : Type 0} → G → Result G PlanFault
as_ok g = Ok g

pub ok_is : {G : Type 0} (g h : G) → as_ok g ≡ as_ok h → g ≡ h
ok_is g h e = cc

-- what is known of what was said and of the lines that said it, and kept by each line
abbrev pub Keeps : {G X : Type 0} → Reader G X → (G → List Line → Type 0) → Type 0
Keeps {G} r P = (n : ℕ) (g h : G) (text : List ℕ) (all : List Line) → r.with_line n g text ≡ Ok h → P g all → P h (all ++ (n, text) ∷ [])

-- the line, if it is not skipped
abbrev one_standing : ℕ → List ℕ → List Line
one_standing n text = cond (is_skipped text) [] ((n, text) ∷ [])

pub line_kept : {G X : Type 0} (r : Reader G X) (P : G → List Line → Type 0) → Keeps r P → (n : ℕ) (g h : G) (text : List ℕ) (all : List Line) → line_read r n g text ≡ Ok h → P g all → P h (all ++ one_standing n text)
unfolding line_read
line_kept r P keeps n g h text all e p =
    elim (is_skipped text) as (λ b. cond b (Ok g) (r.with_line n g text) ≡ Ok h → P h (all ++ cond b [] ((n, text) ∷ []))) [
      | true ↦ λ k. subst (λ x. P x (all ++ [])) (ok_is g h k) (subst (P g) (sym (append-nil all)) p)
      | false ↦ λ k. keeps n g h text all k p
    ] e

then_ok : {G : Type 0} (f : G → Result G PlanFault) (x : Result G PlanFault) (h : G) → then_lines f x ≡ Ok h → (g : G) × (x ≡ Ok g) × (f g ≡ Ok h)
then_ok f (Ok g) h e = (g, refl, e)
then_ok f (Err x) h e = absurd cc

stands_kept : {G X : Type 0} (r : Reader G X) (P : G → List Line → Type 0) → Keeps r P → (ls all : List Line) (g h : G) → stands_read r g ls ≡ Ok h → P g all → P h (all ++ ls)
stands_kept r P keeps [] all g h e p = subst (λ x. P x (all ++ [])) (ok_is g h e) (subst (P g) (sym (append-nil all)) p)
stands_kept r P keeps (l ∷ ls) all g h e p =
    let one = then_ok (λ x. stands_read r x ls) (r.with_line l.0 g l.1) h e in
    subst (P h) (append_assoc all (l ∷ []) ls) (stands_kept r P keeps ls (all ++ l ∷ []) one.0 h one.2 (keeps l.0 g one.0 l.1 all one.1 p))

-- ---- whole texts

pub record Whole {G X : Type 0} (r : Reader G X) (bytes : List ℕ) (x : X) : Type 0 where
  pub said : G
  pub read : stands_read r r.start (standing 1 (parts 10 bytes)) ≡ Ok said
  pub ended : has_kernels (r.stage said) ≡ true
  pub whole : r.whole said ≡ x

finished_from : {G X : Type 0} (r : Reader G X) (n : ℕ) (bytes : List ℕ) (x : X) (y : Result G PlanFault) → stands_read r r.start (standing 1 (parts 10 bytes)) ≡ y → finished r n y ≡ Ok x → Whole r bytes x
finished_from r n bytes x (Ok g) e f =
    elim (has_kernels (r.stage g)) as (λ b. has_kernels (r.stage g) ≡ b → cond b (Ok (r.whole g)) (Err (BadPlan n 1)) ≡ Ok x → Whole r bytes x)
    [ true ↦ λ k w. record { said = g; read = e; ended = k; whole = ok_is (r.whole g) x w } | false ↦ λ k w. absurd cc ] refl f
finished_from r n bytes x (Err y) e f = absurd cc

pub whole_from : {G X : Type 0} (r : Reader G X) (bytes : List ℕ) (x : X) → text_read r bytes ≡ Ok x → Whole r bytes x
unfolding text_read
whole_from r bytes x e = finished_from r (length (parts 10 bytes)) bytes x (lines_read r 1 r.start (parts 10 bytes)) (sym (stands_lines r 1 r.start (parts 10 bytes))) e

pub whole_kept : {G X : Type 0} (r : Reader G X) (P : G → List Line → Type 0) → Keeps r P → P r.start [] → (bytes : List ℕ) (x : X) (w : Whole r bytes x) → P w.said (standing 1 (parts 10 bytes))
whole_kept r P keeps start bytes x w = stands_kept r P keeps (standing 1 (parts 10 bytes)) [] r.start w.said w.read start

pub whole_again : {G X : Type 0} (r : Reader G X) (bytes : List ℕ) (g : G) → stands_read r r.start (standing 1 (parts 10 bytes)) ≡ Ok g → has_kernels (r.stage g) ≡ true → text_read r bytes ≡ Ok (r.whole g)
unfolding text_read
whole_again r bytes g e k = ap (finished r (length (parts 10 bytes))) (stands_lines r 1 r.start (parts 10 bytes) ∙ e) ∙ rw k refl
