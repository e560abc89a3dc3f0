-- The words of a line that has a form, and its text where it fails no rule.
use Rattle.std.proofs.Common.{◌≡◌, ℕ, true, false, cond, List, [], ◌∷◌, ◌++◌, length, Result, Ok, Err, refl, sym, ap, subst, ◌∙◌, append_assoc, ◌⊎◌, inl, inr}
use Rattle.std.specs.Prelude.{codes}
use Rattle.std.specs.List.{join_with_byte}
use Rattle.std.specs.Str.{bytes_eq}
use Rattle.std.proofs.lemmas.List.Splits.{join_with_byte-slice_split}
use Rattle.std.proofs.lemmas.Slice.Eq.{bytes_eq-Decides}
use Rattle.charlotte_calls.specs.declared.calls.Call.{Call}
use Rattle.charlotte_text.specs.declared.fault.Fault.{Fault}
use Rattle.charlotte_text.specs.declared.fault.Fault.TheVariants as fault
use Rattle.charlotte_text.specs.declared.number.Number.{Number}
use Rattle.charlotte_text.specs.declared.number.Number.TheVariants.{Is}
use Rattle.charlotte_text.specs.Spelling.{number_text, process_text, call_text, IsCall}
use Rattle.charlotte_text.specs.Reading.{◌>>=◌, words, part_at, ended, number_of, process_of, call_of}
use Rattle.charlotte_text.proofs.Steps.{bind_ok, ok_is, not_ok, held, part_ok, ended_ok}
use Rattle.charlotte_text.proofs.Numbers.{number_takes}
use Rattle.charlotte_text.proofs.Names.{process_takes}
use Rattle.charlotte_text.proofs.Calls.{call_words, call_takes, join_call}
use Rattle.lynx_plan.specs.declared.form.Lead.{Lead}
use Rattle.lynx_plan.specs.declared.form.Lead.TheVariants as lead
use Rattle.lynx_plan.specs.declared.form.Form.{Form}
use Rattle.lynx_plan.specs.declared.form.Form.TheVariants.{Version, Kernels, Process, Wire, Ask, LongAsk, Take, Settle}
use Rattle.lynx_plan.specs.Given.{Given}
use Rattle.lynx_plan.specs.Forms.{lead_of, one_number, two_numbers, placed, placed_at, ask_form, asked, led, form_of}
use Rattle.lynx_plan.specs.Rules.{value}
use Rattle.lynx_plan.specs.ScriptText.{version_text, kernels_text, home_text, wire_text}
use Rattle.lynx_plan.proofs.Lawful.{Lawful}

-- ---- first words

abbrev pub LeadIs : List ℕ → Lead → Type 0
LeadIs w lead.Version = w ≡ codes "version"
LeadIs w lead.Kernels = w ≡ codes "kernels"
LeadIs w lead.Process = w ≡ codes "process"
LeadIs w lead.Wire = w ≡ codes "wire"
LeadIs w lead.Take = w ≡ codes "take"
LeadIs w lead.Settle = w ≡ codes "settle"
LeadIs w lead.Other = Unit {0}

lead_step : (w t : List ℕ) (k r : Lead) → (w ≡ t → LeadIs w k) → LeadIs w r → LeadIs w (cond (bytes_eq w t) k r)
lead_step w t k r here there =
    elim (bytes_eq w t) as (λ b. bytes_eq w t ≡ b → LeadIs w (cond b k r)) [ true ↦ λ e. here ((bytes_eq-Decides w t).0 e) | false ↦ λ e. there ] refl

pub lead_is : (w : List ℕ) → LeadIs w (lead_of w)
unfolding lead_of
lead_is w =
    lead_step w (codes "version") lead.Version
    (cond (bytes_eq w (codes "kernels")) lead.Kernels
    (cond (bytes_eq w (codes "process")) lead.Process (cond (bytes_eq w (codes "wire")) lead.Wire (cond (bytes_eq w (codes "take")) lead.Take (cond (bytes_eq w (codes "settle")) lead.Settle lead.Other)))))
    (λ e. e)
    (lead_step w (codes "kernels") lead.Kernels (cond (bytes_eq w (codes "process")) lead.Process (cond (bytes_eq w (codes "wire")) lead.Wire (cond (bytes_eq w (codes "take")) lead.Take (cond (bytes_eq w (codes "settle")) lead.Settle lead.Other)))) (λ e. e)
    (lead_step w (codes "process") lead.Process (cond (bytes_eq w (codes "wire")) lead.Wire (cond (bytes_eq w (codes "take")) lead.Take (cond (bytes_eq w (codes "settle")) lead.Settle lead.Other))) (λ e. e)
    (lead_step w (codes "wire") lead.Wire (cond (bytes_eq w (codes "take")) lead.Take (cond (bytes_eq w (codes "settle")) lead.Settle lead.Other)) (λ e. e)
    (lead_step w (codes "take") lead.Take (cond (bytes_eq w (codes "settle")) lead.Settle lead.Other) (λ e. e)
    (lead_step w (codes "settle") lead.Settle lead.Other (λ e. e) tt)))))

-- ---- numbers

pub number_word : (w : List ℕ) (x : Number) (n : ℕ) → number_of w ≡ Ok x → x ≡ Is n → w ≡ number_text n
number_word w x n e is = (number_takes w n (e ∙ ap Ok is)).0

record OneNumber (ws : List (List ℕ)) (x : Number) : Type 0 where
  word : List ℕ
  words : ws ≡ word ∷ []
  number : number_of word ≡ Ok x

one_takes : (ws : List (List ℕ)) (x : Number) → one_number ws ≡ Ok x → OneNumber ws x
unfolding one_number
one_takes ws x e =
    let a = bind_ok (part_at ws) (λ first. number_of first.0 >>= λ n. ended first.1 >>= λ last. Ok n) x e in
    let n = bind_ok (number_of a.0.0) (λ n. ended a.0.1 >>= λ last. Ok n) x a.2 in
    let l = bind_ok (ended a.0.1) (λ last. Ok n.0) x n.2 in
    record { word = a.0.0; words = part_ok ws a.0 a.1 ∙ ap (λ (ps : List (List ℕ)). a.0.0 ∷ ps) (ended_ok a.0.1 l.0 l.1); number = n.1 ∙ l.2 }

record TwoNumbers (between : List (List ℕ)) (ws : List (List ℕ)) (x : Number × Number) : Type 0 where
  first : List ℕ
  second : List ℕ
  words : ws ≡ first ∷ (between ++ second ∷ [])
  one : number_of first ≡ Ok x.0
  two : number_of second ≡ Ok x.1

two_take : (ws : List (List ℕ)) (x : Number × Number) → two_numbers ws ≡ Ok x → TwoNumbers [] ws x
unfolding two_numbers
two_take ws x e =
    let a = bind_ok (part_at ws) (λ first. number_of first.0 >>= λ i. one_number first.1 >>= λ j. Ok (i, j)) x e in
    let i = bind_ok (number_of a.0.0) (λ i. one_number a.0.1 >>= λ j. Ok (i, j)) x a.2 in
    let j = bind_ok (one_number a.0.1) (λ j. Ok (i.0, j)) x i.2 in
    let o = one_takes a.0.1 j.0 j.1 in
    subst (λ (y : Number × Number). TwoNumbers [] ws y) (ok_is (i.0, j.0) x j.2) (record {
      first = a.0.0;
      second = o.word;
      words = part_ok ws a.0 a.1 ∙ ap (λ (ps : List (List ℕ)). a.0.0 ∷ ps) o.words;
      one = i.1;
      two = o.number;
    })

-- `I on K` stands first
pub record Placed (ws : List (List ℕ)) (x : Number × Number) (rest : List (List ℕ)) : Type 0 where
  pub first : List ℕ
  pub second : List ℕ
  pub words : ws ≡ first ∷ codes "on" ∷ second ∷ rest
  pub one : number_of first ≡ Ok x.0
  pub two : number_of second ≡ Ok x.1

pub placed_at_take : (ws : List (List ℕ)) (x : (Number × Number) × List (List ℕ)) → placed_at ws ≡ Ok x → Placed ws x.0 x.1
unfolding placed_at
placed_at_take ws x e =
    let a = bind_ok (part_at ws) (λ first. number_of first.0 >>= λ i. part_at first.1 >>= λ second. cond (bytes_eq second.0 (codes "on")) (part_at second.1) (Err fault.Form) >>= λ third. number_of third.0 >>= λ k. Ok ((i, k), third.1)) x e in
    let i = bind_ok (number_of a.0.0) (λ i. part_at a.0.1 >>= λ second. cond (bytes_eq second.0 (codes "on")) (part_at second.1) (Err fault.Form) >>= λ third. number_of third.0 >>= λ k. Ok ((i, k), third.1)) x a.2 in
    let s = bind_ok (part_at a.0.1) (λ second. cond (bytes_eq second.0 (codes "on")) (part_at second.1) (Err fault.Form) >>= λ third. number_of third.0 >>= λ k. Ok ((i.0, k), third.1)) x i.2 in
    let t = bind_ok (cond (bytes_eq s.0.0 (codes "on")) (part_at s.0.1) (Err fault.Form)) (λ third. number_of third.0 >>= λ k. Ok ((i.0, k), third.1)) x s.2 in
    let k = bind_ok (number_of t.0.0) (λ k. Ok ((i.0, k), t.0.1)) x t.2 in
    let h = held (bytes_eq s.0.0 (codes "on")) (part_at s.0.1) fault.Form t.0 t.1 in
    let on : s.0.0 ≡ codes "on" = (bytes_eq-Decides s.0.0 (codes "on")).0 h.0 in
    let tail : a.0.1 ≡ codes "on" ∷ t.0.0 ∷ t.0.1 = part_ok a.0.1 s.0 s.1 ∙ ap (λ (w : List ℕ). w ∷ s.0.1) on ∙ ap (λ (ps : List (List ℕ)). codes "on" ∷ ps) (part_ok s.0.1 t.0 h.1) in
    subst (λ (y : (Number × Number) × List (List ℕ)). Placed ws y.0 y.1) (ok_is ((i.0, k.0), t.0.1) x k.2) (record {
      first = a.0.0;
      second = t.0.0;
      words = part_ok ws a.0 a.1 ∙ ap (λ (ps : List (List ℕ)). a.0.0 ∷ ps) tail;
      one = i.1;
      two = k.1;
    })

placed_take : (ws : List (List ℕ)) (x : Number × Number) → placed ws ≡ Ok x → TwoNumbers (codes "on" ∷ []) ws x
unfolding placed
placed_take ws x e =
    let p = bind_ok (placed_at ws) (λ at. ended at.1 >>= λ last. Ok at.0) x e in
    let l = bind_ok (ended p.0.1) (λ last. Ok p.0.0) x p.2 in
    let t = placed_at_take ws p.0 p.1 in
    subst (λ (y : Number × Number). TwoNumbers (codes "on" ∷ []) ws y) (ok_is p.0.0 x l.2) (record {
      first = t.first;
      second = t.second;
      words = t.words ∙ ap (λ (ps : List (List ℕ)). t.first ∷ codes "on" ∷ t.second ∷ ps) (ended_ok p.0.1 l.0 l.1);
      one = t.one;
      two = t.two;
    })

-- ---- forms

-- the words of a line of a form
abbrev pub Has : ℕ → List (List ℕ) → Form → Type 0
Has v ws (Version n) = (w : List ℕ) × (ws ≡ codes "version" ∷ w ∷ []) × (number_of w ≡ Ok n)
Has v ws (Kernels n) = (w : List ℕ) × (ws ≡ codes "kernels" ∷ w ∷ []) × (number_of w ≡ Ok n)
Has v ws (Process i k) = (x : List ℕ) × (y : List ℕ) × (ws ≡ codes "process" ∷ x ∷ codes "on" ∷ y ∷ []) × (number_of x ≡ Ok i) × (number_of y ≡ Ok k)
Has v ws (Wire i j) = (x : List ℕ) × (y : List ℕ) × (ws ≡ codes "wire" ∷ x ∷ y ∷ []) × (number_of x ≡ Ok i) × (number_of y ≡ Ok j)
Has v ws (Ask p call) = (w : List ℕ) × (ws ≡ w ∷ call_words call) × (process_of w ≡ Ok p) × IsCall v call
Has v ws (LongAsk p) = Unit {0}
Has v ws (Take j k) = (x : List ℕ) × (y : List ℕ) × (ws ≡ codes "take" ∷ x ∷ y ∷ []) × (number_of x ≡ Ok j) × (number_of y ≡ Ok k)
Has v ws Settle = ws ≡ codes "settle" ∷ []

asks : (v : ℕ) (w : List ℕ) (ws : List (List ℕ)) (p : Number) (r : Result Call Fault) (f : Form) → process_of w ≡ Ok p → call_of v ws ≡ r → ask_form p r ≡ Ok f → Has v (w ∷ ws) f
asks v w ws p (Ok call) f pe ce e =
    let t = call_takes v ws call ce in
    subst (λ (x : Form). Has v (w ∷ ws) x) (ok_is (Ask p call) f e) (w, ap (λ (ps : List (List ℕ)). w ∷ ps) t.0, pe, t.1)
asks v w ws p (Err fault.Long) f pe ce e = subst (λ (x : Form). Has v (w ∷ ws) x) (ok_is (LongAsk p) f e) tt
asks v w ws p (Err fault.Form) f pe ce e = absurd (not_ok f fault.Form e)

pub begins : (k w : List ℕ) (ws tail : List (List ℕ)) → w ≡ k → ws ≡ tail → w ∷ ws ≡ k ∷ tail
begins k w ws tail a b = ap (λ (x : List ℕ). x ∷ ws) a ∙ ap (λ (ps : List (List ℕ)). k ∷ ps) b

pub led_has : (v : ℕ) (k : Lead) (w : List ℕ) (ws : List (List ℕ)) (f : Form) → LeadIs w k → led v k w ws ≡ Ok f → Has v (w ∷ ws) f
unfolding led asked
led_has v lead.Version w ws f is e =
    let n = bind_ok (one_number ws) (λ n. Ok (Version n)) f e in
    let o = one_takes ws n.0 n.1 in
    subst (λ (x : Form). Has v (w ∷ ws) x) (ok_is (Version n.0) f n.2) (o.word, begins (codes "version") w ws (o.word ∷ []) is o.words, o.number)
led_has v lead.Kernels w ws f is e =
    let n = bind_ok (one_number ws) (λ n. Ok (Kernels n)) f e in
    let o = one_takes ws n.0 n.1 in
    subst (λ (x : Form). Has v (w ∷ ws) x) (ok_is (Kernels n.0) f n.2) (o.word, begins (codes "kernels") w ws (o.word ∷ []) is o.words, o.number)
led_has v lead.Process w ws f is e =
    let n = bind_ok (placed ws) (λ n. Ok (Process n.0 n.1)) f e in
    let o = placed_take ws n.0 n.1 in
    subst (λ (x : Form). Has v (w ∷ ws) x) (ok_is (Process n.0.0 n.0.1) f n.2) (o.first, o.second, begins (codes "process") w ws (o.first ∷ codes "on" ∷ o.second ∷ []) is o.words, o.one, o.two)
led_has v lead.Wire w ws f is e =
    let n = bind_ok (two_numbers ws) (λ n. Ok (Wire n.0 n.1)) f e in
    let o = two_take ws n.0 n.1 in
    subst (λ (x : Form). Has v (w ∷ ws) x) (ok_is (Wire n.0.0 n.0.1) f n.2) (o.first, o.second, begins (codes "wire") w ws (o.first ∷ o.second ∷ []) is o.words, o.one, o.two)
led_has v lead.Take w ws f is e =
    let n = bind_ok (two_numbers ws) (λ n. Ok (Take n.0 n.1)) f e in
    let o = two_take ws n.0 n.1 in
    subst (λ (x : Form). Has v (w ∷ ws) x) (ok_is (Take n.0.0 n.0.1) f n.2) (o.first, o.second, begins (codes "take") w ws (o.first ∷ o.second ∷ []) is o.words, o.one, o.two)
led_has v lead.Settle w ws f is e =
    let u = bind_ok (ended ws) (λ u. Ok Settle) f e in
    subst (λ (x : Form). Has v (w ∷ ws) x) (ok_is Settle f u.2) (begins (codes "settle") w ws [] is (ended_ok ws u.0 u.1))
led_has v lead.Other w ws f is e =
    let p = bind_ok (process_of w) (λ p. ask_form p (call_of v ws)) f e in
    asks v w ws p.0 (call_of v ws) f p.1 refl p.2

pub form_has : (v : ℕ) (ws : List (List ℕ)) (f : Form) → form_of v ws ≡ Ok f → Has v ws f
unfolding form_of
form_has v ws f e =
    let a = bind_ok (part_at ws) (λ first. led v (lead_of first.0) first.0 first.1) f e in
    subst (λ (x : List (List ℕ)). Has v x f) (sym (part_ok ws a.0 a.1)) (led_has v (lead_of a.0.0) a.0.0 a.0.1 f (lead_is a.0.0) a.2)

-- ---- texts

-- the text of a line that fails no rule
abbrev pub form_text : Given → Form → List ℕ
form_text g (Version n) = version_text (value n)
form_text g (Kernels n) = kernels_text (value n)
form_text g (Process i k) = home_text (length g.homes) (value k)
form_text g (Wire i j) = wire_text (record { 0 = value i }, record { 0 = value j })
form_text g (Ask p call) = process_text (record { 0 = value p }) ++ codes " " ++ call_text call
form_text g (LongAsk p) = []
form_text g (Take j k) = codes "take " ++ number_text (value j) ++ codes " " ++ number_text (value k)
form_text g Settle = codes "settle"

pub line_is : (text : List ℕ) (ws : List (List ℕ)) → words text ≡ ws → text ≡ join_with_byte 32 ws
line_is text ws e = sym (join_with_byte-slice_split 32 text) ∙ ap (join_with_byte 32) e

pub two_shape : (k x y : List ℕ) → k ++ 32 ∷ (x ++ 32 ∷ y) ≡ ((k ++ codes " ") ++ x ++ codes " ") ++ y
two_shape k x y = simp append_assoc

pub home_shape : (x y : List ℕ) → codes "process" ++ 32 ∷ (x ++ 32 ∷ (codes "on" ++ 32 ∷ y)) ≡ ((codes "process " ++ x) ++ codes " on ") ++ y
home_shape x y = simp append_assoc

pub ask_shape : (w : List ℕ) (c : List ℕ) → w ++ 32 ∷ c ≡ (w ++ codes " ") ++ c
ask_shape w c = simp append_assoc

one_number_is : (n : Number) → (n ≡ Is 1) ⊎ (n ≡ Is 2) → n ≡ Is (value n)
one_number_is n (inl e) = e ∙ ap Is (sym (ap value e))
one_number_is n (inr e) = e ∙ ap Is (sym (ap value e))

process_word : (w : List ℕ) (p : Number) (n : ℕ) → process_of w ≡ Ok p → p ≡ Is n → w ≡ process_text (record { 0 = n })
process_word w p n e is = (process_takes w n (e ∙ ap Ok is)).0

pub text_has : (g : Given) (v : ℕ) (text : List ℕ) (f : Form) → Has v (words text) f → Lawful g f → text ≡ form_text g f
text_has g v text (Version n) h l = line_is text (codes "version" ∷ h.0 ∷ []) h.1 ∙ ap (λ (x : List ℕ). codes "version " ++ x) (number_word h.0 n (value n) h.2 (one_number_is n l))
text_has g v text (Kernels n) h l = line_is text (codes "kernels" ∷ h.0 ∷ []) h.1 ∙ ap (λ (x : List ℕ). codes "kernels " ++ x) (number_word h.0 n (value n) h.2 l.0.is)
text_has g v text (Process i k) h l =
    line_is text (codes "process" ∷ h.0 ∷ codes "on" ∷ h.1 ∷ []) h.2 ∙ home_shape h.0 h.1 ∙ rw (number_word h.0 i (length g.homes) h.3 l.0, number_word h.1 k (value k) h.4 l.2.is) refl
text_has g v text (Wire i j) h l =
    line_is text (codes "wire" ∷ h.0 ∷ h.1 ∷ []) h.2 ∙ two_shape (codes "wire") h.0 h.1 ∙ rw (number_word h.0 i (value i) h.3 l.0.is, number_word h.1 j (value j) h.4 l.1.is) refl
text_has g v text (Ask p call) h l =
    line_is text (h.0 ∷ call_words call) h.1 ∙ join_call h.0 call ∙ ask_shape h.0 (call_text call) ∙ rw (process_word h.0 p (value p) h.2 l.is) refl
text_has g v text (LongAsk p) h l = absurd l
text_has g v text (Take j k) h l =
    line_is text (codes "take" ∷ h.0 ∷ h.1 ∷ []) h.2 ∙ two_shape (codes "take") h.0 h.1 ∙ rw (number_word h.0 j (value j) h.3 l.0.is, number_word h.1 k (value k) h.4 l.1.is) refl
text_has g v text Settle h l = line_is text (codes "settle" ∷ []) h

-- the call of a line is one of the version
abbrev pub FitsForm : ℕ → Form → Type 0
FitsForm v (Ask p call) = IsCall v call
FitsForm v f = Unit {0}

pub fits_has : (v : ℕ) (ws : List (List ℕ)) (f : Form) → Has v ws f → FitsForm v f
fits_has v ws (Version n) h = tt
fits_has v ws (Kernels n) h = tt
fits_has v ws (Process i k) h = tt
fits_has v ws (Wire i j) h = tt
fits_has v ws (Ask p call) h = h.3
fits_has v ws (LongAsk p) h = tt
fits_has v ws (Take j k) h = tt
fits_has v ws Settle h = tt
