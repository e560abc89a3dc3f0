-- What is spelled as a script is read as that script.
use Rattle.std.proofs.Common.{◌≡◌, ℕ, ◌+◌, ◌<◌, ◌≤◌, ◌^◌, ◌⊎◌, Bool, true, false, cond, eqb, List, [], ◌∷◌, ◌++◌, length, map, None, Result, Ok, Err, refl, sym, ap, subst, ◌∙◌, append_assoc, inl, inr, arith}
use Rattle.std.specs.Prelude.{codes}
use Rattle.std.specs.List.{All, AllByRecursion}
use Rattle.std.specs.Str.{bytes_eq}
use Rattle.std.proofs.lemmas.Bool.{lt-ltb, le-ltb, lt-leb, eq-eqb}
use Rattle.std.proofs.lemmas.List.{append-nil, length-append}
use Rattle.std.proofs.lemmas.List.Elements.{All-head, All-cons, recursion_from_All}
use Rattle.std.proofs.lemmas.Slice.Eq.{bytes_eq-Decides}
use Rattle.charlotte_calls.specs.declared.names.Pid.{Pid}
use Rattle.charlotte_calls.specs.declared.calls.Call.{Call}
use Rattle.charlotte_calls.specs.declared.setting.Setting.{Setting}
use Rattle.charlotte_calls.specs.Setting.{IsValid}
use Rattle.charlotte_text.specs.declared.number.Number.TheVariants.{Is}
use Rattle.charlotte_text.specs.Spelling.{number_text, process_text, call_text, IsCall}
use Rattle.charlotte_text.specs.Reading.{words, parts}
use Rattle.charlotte_text.proofs.Numbers.{number_again, no_digit}
use Rattle.charlotte_text.proofs.Names.{process_again}
use Rattle.charlotte_text.proofs.Texts.{IsWord}
use Rattle.charlotte_text.proofs.Calls.{call_words, call_again, call_free, words_joined, free_codes, join_call}
use Rattle.lynx_plan.specs.declared.stage.Stage.{Stage}
use Rattle.lynx_plan.specs.declared.stage.Stage.TheVariants as stage
use Rattle.lynx_plan.specs.declared.form.Lead.{Lead}
use Rattle.lynx_plan.specs.declared.form.Lead.TheVariants as lead
use Rattle.lynx_plan.specs.declared.form.Form.{Form}
use Rattle.lynx_plan.specs.declared.form.Form.TheVariants.{Version, Kernels, Process, Wire, Ask, Take, Settle}
use Rattle.lynx_plan.specs.declared.script.Script.{Script}
use Rattle.lynx_plan.specs.declared.script.ScriptLine.{ScriptLine}
use Rattle.lynx_plan.specs.declared.script.ScriptCall.{ScriptCall}
use Rattle.lynx_plan.specs.declared.script.ScriptCall.TheVariants as script
use Rattle.lynx_plan.specs.declared.fault.PlanFault.{PlanFault}
use Rattle.lynx_plan.specs.Given.{Given, nothing}
use Rattle.lynx_plan.specs.Forms.{lead_of, one_number, two_numbers, placed, placed_at, asked, led, form_of}
use Rattle.lynx_plan.specs.Rules.{allows, broken, meaning_of, judged, with_meaning}
use Rattle.lynx_plan.specs.Reading.{Gives, has_kernels, meaning_at, noted, then_lines, script_given, script_of, script_reader}
use Rattle.lynx_plan.specs.ScriptText.{standing, version_text, kernels_text, home_text, home_texts, wire_text, what_text, header_texts, IsHeader, FitsWhat, numbered, IsScriptText}
use Rattle.lynx_plan.proofs.Words.{two_shape, home_shape, ask_shape}
use Rattle.lynx_plan.proofs.Sound.{Joins}
use Rattle.lynx_plan.proofs.Lines.{Line, stands_read, stands_append, whole_again}
use Rattle.lynx_plan.proofs.Spelled.{texts_of}

-- ---- forms

pub number_free : (n : ℕ) → n < 2 ^ 64 → IsWord (number_text n)
number_free n lt = no_digit 32 n lt (inl (omega arith))

pub version_words : (n : ℕ) → n < 2 ^ 64 → words (version_text n) ≡ codes "version" ∷ number_text n ∷ []
version_words n lt = words_joined (codes "version") (number_text n ∷ []) (free_codes (codes "version") refl) (number_free n lt, tt)

version_form : (v n : ℕ) → n < 2 ^ 64 → form_of v (words (version_text n)) ≡ Ok (Version (Is n))
unfolding form_of lead_of led one_number
version_form v n lt = ap (form_of v) (version_words n lt) ∙ rw (number_again n lt) refl

pub kernels_words : (n : ℕ) → n < 2 ^ 64 → words (kernels_text n) ≡ codes "kernels" ∷ number_text n ∷ []
kernels_words n lt = words_joined (codes "kernels") (number_text n ∷ []) (free_codes (codes "kernels") refl) (number_free n lt, tt)

kernels_form : (v n : ℕ) → n < 2 ^ 64 → form_of v (words (kernels_text n)) ≡ Ok (Kernels (Is n))
unfolding form_of lead_of led one_number
kernels_form v n lt = ap (form_of v) (kernels_words n lt) ∙ rw (number_again n lt) refl

home_words : (i k : ℕ) → i < 2 ^ 64 → k < 2 ^ 64 → words (home_text i k) ≡ codes "process" ∷ number_text i ∷ codes "on" ∷ number_text k ∷ []
home_words i k li lk = ap words (sym (home_shape (number_text i) (number_text k))) ∙ words_joined (codes "process") (number_text i ∷ codes "on" ∷ number_text k ∷ []) (free_codes (codes "process") refl) (number_free i li, (free_codes (codes "on") refl, (number_free k lk, tt)))

home_form : (v i k : ℕ) → i < 2 ^ 64 → k < 2 ^ 64 → form_of v (words (home_text i k)) ≡ Ok (Process (Is i) (Is k))
unfolding form_of lead_of led placed placed_at
home_form v i k li lk = ap (form_of v) (home_words i k li lk) ∙ rw (number_again i li, number_again k lk) refl

pub wire_words : (w : Pid × Pid) → w.0.0 < 2 ^ 64 → w.1.0 < 2 ^ 64 → words (wire_text w) ≡ codes "wire" ∷ number_text w.0.0 ∷ number_text w.1.0 ∷ []
wire_words w li lj = ap words (sym (two_shape (codes "wire") (number_text w.0.0) (number_text w.1.0))) ∙ words_joined (codes "wire") (number_text w.0.0 ∷ number_text w.1.0 ∷ []) (free_codes (codes "wire") refl) (number_free w.0.0 li, (number_free w.1.0 lj, tt))

wire_form : (v : ℕ) (w : Pid × Pid) → w.0.0 < 2 ^ 64 → w.1.0 < 2 ^ 64 → form_of v (words (wire_text w)) ≡ Ok (Wire (Is w.0.0) (Is w.1.0))
unfolding form_of lead_of led two_numbers one_number
wire_form v w li lj = ap (form_of v) (wire_words w li lj) ∙ rw (number_again w.0.0 li, number_again w.1.0 lj) refl

-- the form of a line that is a call
abbrev what_form : ScriptCall → Form
what_form (script.Ask p call) = Ask (Is p.0) call
what_form (script.Take from to) = Take (Is from) (Is to)
what_form script.Settle = Settle

take_words : (j k : ℕ) → j < 2 ^ 64 → k < 2 ^ 64 → words (what_text (script.Take j k)) ≡ codes "take" ∷ number_text j ∷ number_text k ∷ []
take_words j k lj lk = ap words (sym (two_shape (codes "take") (number_text j) (number_text k))) ∙ words_joined (codes "take") (number_text j ∷ number_text k ∷ []) (free_codes (codes "take") refl) (number_free j lj, (number_free k lk, tt))

process_free : (p : Pid) → p.0 < 2 ^ 64 → IsWord (process_text p)
process_free p lt = All-cons (λ b. eqb b 32 ≡ false) 112 (number_text p.0) refl (number_free p.0 lt)

ask_words : (v : ℕ) (p : Pid) (call : Call) → p.0 < 2 ^ 64 → IsCall v call → words (what_text (script.Ask p call)) ≡ process_text p ∷ call_words call
ask_words v p call lt fits = ap words (sym (join_call (process_text p) call ∙ ask_shape (process_text p) (call_text call))) ∙ words_joined (process_text p) (call_words call) (process_free p lt) (call_free v call fits)

-- no number begins with the letter that goes on in `process`
not_process : (n : ℕ) → n < 2 ^ 64 → number_text n ≡ codes "rocess" → ⊥
not_process n lt e =
    let free : All (λ b. eqb b 114 ≡ false) (codes "rocess") = subst (λ (x : List ℕ). All (λ b. eqb b 114 ≡ false) x) e (no_digit 114 n lt (inr (omega arith))) in
    let first : eqb 114 114 ≡ false = All-head (λ b. eqb b 114 ≡ false) 114 (codes "ocess") free in
    cc

apart : (w t : List ℕ) → (w ≡ t → ⊥) → bytes_eq w t ≡ false
apart w t h = elim (bytes_eq w t) as (λ b. bytes_eq w t ≡ b → b ≡ false) [ true ↦ λ e. absurd (h ((bytes_eq-Decides w t).0 e)) | false ↦ λ e. refl ] refl

lead_process : (n : ℕ) → n < 2 ^ 64 → lead_of (112 ∷ number_text n) ≡ lead.Other
unfolding lead_of
lead_process n lt = rw (apart (number_text n) (codes "rocess") (not_process n lt)) refl

ask_on : (v : ℕ) (p : Pid) (call : Call) → p.0 < 2 ^ 64 → IsCall v call → form_of v (process_text p ∷ call_words call) ≡ Ok (Ask (Is p.0) call)
unfolding form_of led asked
ask_on v p call lt fits = ap (λ (k : Lead). led v k (process_text p) (call_words call)) (lead_process p.0 lt) ∙ rw (process_again p.0 lt, call_again v call fits) refl

take_on : (v j k : ℕ) → j < 2 ^ 64 → k < 2 ^ 64 → form_of v (codes "take" ∷ number_text j ∷ number_text k ∷ []) ≡ Ok (Take (Is j) (Is k))
unfolding form_of lead_of led two_numbers one_number
take_on v j k lj lk = rw (number_again j lj, number_again k lk) refl

settle_on : (v : ℕ) → form_of v (codes "settle" ∷ []) ≡ Ok Settle
unfolding form_of lead_of led
settle_on v = refl

what_forms : (v : ℕ) (s : Setting) (what : ScriptCall) → s.version ≡ v → s.kernels < 2 ^ 64 → length s.homes < 2 ^ 64 → FitsWhat s what → form_of v (words (what_text what)) ≡ Ok (what_form what)
what_forms v s (script.Ask p call) e lk lh fits =
    let lt : p.0 < 2 ^ 64 = omega (arith, fits.0) in
    let one : IsCall v call = subst (λ (x : ℕ). IsCall x call) e fits.1 in
    ap (form_of v) (ask_words v p call lt one) ∙ ask_on v p call lt one
what_forms v s (script.Take j k) e lk lh fits =
    let lj : j < 2 ^ 64 = omega (arith, fits.0) in
    let lt : k < 2 ^ 64 = omega (arith, fits.1) in
    ap (form_of v) (take_words j k lj lt) ∙ take_on v j k lj lt
what_forms v s script.Settle e lk lh fits = ap (form_of v) (words_joined (codes "settle") [] (free_codes (codes "settle") refl) tt) ∙ settle_on v

-- ---- one line

pub judged_ok : (g : Given) (f : Form) → allows f g.stage ≡ true → broken g f ≡ None → judged g f ≡ Ok (meaning_of f)
unfolding judged
judged_ok g f a b = rw (a, b) refl

one_ok : (line : ℕ) (g : Given) (text : List ℕ) (f : Form) → form_of g.version (words text) ≡ Ok f → allows f g.stage ≡ true → broken g f ≡ None → noted line g (meaning_at g text) ≡ Ok (with_meaning line g (meaning_of f))
unfolding meaning_at
one_ok line g text f e a b = rw (e, judged_ok g f a b) refl

pub version_ok : (g : Given) (v : ℕ) → (v ≡ 1) ⊎ (v ≡ 2) → broken g (Version (Is v)) ≡ None
version_ok g v (inl e) = rw e refl
version_ok g v (inr e) = rw e refl

pub kernels_ok : (g : Given) (k : ℕ) → 1 ≤ k → k ≤ 8 → broken g (Kernels (Is k)) ≡ None
kernels_ok g k low high = rw (le-ltb k 1 low, lt-ltb k 9 (omega arith)) refl

pub home_ok : (g : Given) (k : ℕ) → length g.homes < 64 → k < g.kernels → broken g (Process (Is (length g.homes)) (Is k)) ≡ None
home_ok g k few there = rw (eq-eqb (length g.homes) (length g.homes) refl, lt-ltb (length g.homes) 64 few, lt-ltb k g.kernels there) refl

pub wire_ok : (g : Given) (i j : ℕ) → i < length g.homes → j < length g.homes → length g.wires < 4096 → broken g (Wire (Is i) (Is j)) ≡ None
wire_ok g i j hi hj few = rw (lt-ltb i (length g.homes) hi, lt-ltb j (length g.homes) hj, lt-leb 4096 (length g.wires) few) refl

what_ok : (g : Given) (what : ScriptCall) → FitsWhat (script_given g).setting what → broken g (what_form what) ≡ None
what_ok g (script.Ask p call) fits = rw (lt-ltb p.0 (length g.homes) fits.0) refl
what_ok g (script.Take j k) fits = rw (lt-ltb j g.kernels fits.0, lt-ltb k g.kernels fits.1) refl
what_ok g script.Settle fits = refl

-- ---- the calls

what_allowed : (what : ScriptCall) (s : Stage) → has_kernels s ≡ true → allows (what_form what) s ≡ true
what_allowed (script.Ask p call) stage.Start e = absurd cc
what_allowed (script.Ask p call) stage.Named e = absurd cc
what_allowed (script.Ask p call) stage.Processes e = refl
what_allowed (script.Ask p call) stage.Wires e = refl
what_allowed (script.Ask p call) stage.Calls e = refl
what_allowed (script.Take j k) stage.Start e = absurd cc
what_allowed (script.Take j k) stage.Named e = absurd cc
what_allowed (script.Take j k) stage.Processes e = refl
what_allowed (script.Take j k) stage.Wires e = refl
what_allowed (script.Take j k) stage.Calls e = refl
what_allowed script.Settle stage.Start e = absurd cc
what_allowed script.Settle stage.Named e = absurd cc
what_allowed script.Settle stage.Processes e = refl
what_allowed script.Settle stage.Wires e = refl
what_allowed script.Settle stage.Calls e = refl

abbrev calls_stage : Stage → List ScriptLine → Stage
calls_stage s [] = s
calls_stage s (l ∷ ls) = stage.Calls

abbrev with_calls : Given → List ScriptLine → Given
with_calls g ls = record g { lines = g.lines ++ ls; stage = calls_stage g.stage ls }

what_adds : (line : ℕ) (g : Given) (what : ScriptCall) → with_meaning line g (meaning_of (what_form what)) ≡ record g { lines = g.lines ++ record { line = line; what = what } ∷ []; stage = stage.Calls }
unfolding with_meaning
what_adds line g (script.Ask p call) = refl
what_adds line g (script.Take j k) = refl
what_adds line g script.Settle = refl

calls_stage_again : (ls : List ScriptLine) → calls_stage stage.Calls ls ≡ stage.Calls
calls_stage_again [] = refl
calls_stage_again (l ∷ ls) = refl

calls_read : (ls : List ScriptLine) (g : Given) → has_kernels g.stage ≡ true → g.kernels < 2 ^ 64 → length g.homes < 2 ^ 64 → AllByRecursion (λ l. FitsWhat (script_given g).setting l.what) ls → stands_read script_reader g (map numbered ls) ≡ Ok (with_calls g ls)
calls_read [] g k lk lh fits = ap (λ (x : List ScriptLine). Ok (record g { lines = x; stage = g.stage })) (sym (append-nil g.lines))
calls_read (l ∷ ls) g k lk lh fits =
    let h : Given = record g { lines = g.lines ++ l ∷ []; stage = stage.Calls } in
    let one : noted l.line g (meaning_at g (what_text l.what)) ≡ Ok h =
    one_ok l.line g (what_text l.what) (what_form l.what) (what_forms g.version (script_given g).setting l.what refl lk lh fits.0) (what_allowed l.what g.stage k) (what_ok g l.what fits.0) ∙ ap Ok (what_adds l.line g l.what) in
    ap (then_lines (λ x. stands_read script_reader x (map numbered ls))) one ∙ calls_read ls h refl lk lh fits.1
    ∙ ap (λ (x : List ScriptLine). Ok (record h { lines = x; stage = calls_stage stage.Calls ls })) (append_assoc g.lines (l ∷ []) ls)
    ∙ ap (λ (s : Stage). Ok (record h { lines = g.lines ++ l ∷ ls; stage = s })) (calls_stage_again ls)

-- ---- the wires

first_text : (t u : List ℕ) (ts us : List (List ℕ)) → t ∷ ts ≡ u ∷ us → t ≡ u
first_text t u ts us e = cc

other_texts : (t u : List ℕ) (ts us : List (List ℕ)) → t ∷ ts ≡ u ∷ us → ts ≡ us
other_texts t u ts us e = cc

abbrev pub wires_stage : Stage → List (Pid × Pid) → Stage
wires_stage s [] = s
wires_stage s (w ∷ ws) = stage.Wires

-- wires may follow
abbrev pub wires_follow : Stage → Bool
wires_follow s = allows (Wire (Is 0) (Is 0)) s

pub wire_allowed : (i j : ℕ) (s : Stage) → wires_follow s ≡ true → allows (Wire (Is i) (Is j)) s ≡ true
wire_allowed i j stage.Start e = absurd cc
wire_allowed i j stage.Named e = absurd cc
wire_allowed i j stage.Processes e = refl
wire_allowed i j stage.Wires e = refl
wire_allowed i j stage.Calls e = absurd cc

abbrev pub with_wires : Given → List (Pid × Pid) → Given
with_wires g ws = record g { wires = g.wires ++ ws; stage = wires_stage g.stage ws }

pub wire_adds : (line : ℕ) (g : Given) (w : Pid × Pid) → with_meaning line g (meaning_of (Wire (Is w.0.0) (Is w.1.0))) ≡ record g { wires = g.wires ++ w ∷ []; stage = stage.Wires }
unfolding with_meaning
wire_adds line g w = refl

pub wires_stage_again : (ws : List (Pid × Pid)) → wires_stage stage.Wires ws ≡ stage.Wires
wires_stage_again [] = refl
wires_stage_again (w ∷ ws) = refl

wires_read : (ws : List (Pid × Pid)) (ls : List Line) (g : Given) → texts_of ls ≡ map wire_text ws → wires_follow g.stage ≡ true → length g.homes ≤ 64 → length g.wires + length ws ≤ 4096 → AllByRecursion (Joins (length g.homes)) ws → stands_read script_reader g ls ≡ Ok (with_wires g ws)
wires_read [] [] g e s few room fits = ap (λ (x : List (Pid × Pid)). Ok (record g { wires = x; stage = g.stage })) (sym (append-nil g.wires))
wires_read [] (l ∷ ls) g e s few room fits = absurd cc
wires_read (w ∷ ws) [] g e s few room fits = absurd cc
wires_read (w ∷ ws) (l ∷ ls) g e s few room fits =
    let h : Given = record g { wires = g.wires ++ w ∷ []; stage = stage.Wires } in
    let small : w.0.0 < 2 ^ 64 = omega (arith, fits.0.0) in
    let small2 : w.1.0 < 2 ^ 64 = omega (arith, fits.0.1) in
    let one : noted l.0 g (meaning_at g l.1) ≡ Ok h =
    ap (λ (t : List ℕ). noted l.0 g (meaning_at g t)) (first_text l.1 (wire_text w) (texts_of ls) (map wire_text ws) e)
    ∙ one_ok l.0 g (wire_text w) (Wire (Is w.0.0) (Is w.1.0)) (wire_form g.version w small small2) (wire_allowed w.0.0 w.1.0 g.stage s) (wire_ok g w.0.0 w.1.0 fits.0.0 fits.0.1 (omega arith)) ∙ ap Ok (wire_adds l.0 g w) in
    ap (then_lines (λ x. stands_read script_reader x ls)) one ∙ wires_read ws ls h (other_texts l.1 (wire_text w) (texts_of ls) (map wire_text ws) e) refl few (omega (arith, length-append g.wires (w ∷ []))) fits.1
    ∙ ap (λ (x : List (Pid × Pid)). Ok (record h { wires = x; stage = wires_stage stage.Wires ws })) (append_assoc g.wires (w ∷ []) ws)
    ∙ ap (λ (x : Stage). Ok (record h { wires = g.wires ++ w ∷ ws; stage = x })) (wires_stage_again ws)

-- ---- the processes, and then the wires

home_adds : (line : ℕ) (g : Given) (i k : ℕ) → with_meaning line g (meaning_of (Process (Is i) (Is k))) ≡ record g { homes = g.homes ++ k ∷ [] }
unfolding with_meaning
home_adds line g i k = refl

homes_read : (ks : List ℕ) (ls : List Line) (g : Given) (ws : List (Pid × Pid)) → texts_of ls ≡ home_texts (length g.homes) ks ++ map wire_text ws → g.stage ≡ stage.Processes → g.kernels ≤ 8 → length g.homes + length ks ≤ 64 → AllByRecursion (λ k. k < g.kernels) ks
    → length g.wires + length ws ≤ 4096 → AllByRecursion (Joins (length g.homes + length ks)) ws → stands_read script_reader g ls ≡ Ok (with_wires (record g { homes = g.homes ++ ks }) ws)
homes_read [] ls g ws e s k8 few there room fits =
    let n : length g.homes + 0 ≡ length g.homes = omega arith in
    wires_read ws ls g e (ap wires_follow s) (omega arith) room (subst (λ (m : ℕ). AllByRecursion (Joins m) ws) n fits) ∙ ap (λ (x : List ℕ). Ok (with_wires (record g { homes = x }) ws)) (sym (append-nil g.homes))
homes_read (k ∷ ks) [] g ws e s k8 few there room fits = absurd cc
homes_read (k ∷ ks) (l ∷ ls) g ws e s k8 few there room fits =
    let h : Given = record g { homes = g.homes ++ k ∷ [] } in
    let len : length (g.homes ++ k ∷ []) ≡ length g.homes + 1 = length-append g.homes (k ∷ []) in
    let small : length g.homes < 2 ^ 64 = omega arith in
    let one : noted l.0 g (meaning_at g l.1) ≡ Ok h =
    ap (λ (t : List ℕ). noted l.0 g (meaning_at g t)) (first_text l.1 (home_text (length g.homes) k) (texts_of ls) (home_texts (length g.homes + 1) ks ++ map wire_text ws) e)
    ∙ one_ok l.0 g (home_text (length g.homes) k) (Process (Is (length g.homes)) (Is k)) (home_form g.version (length g.homes) k small (omega (arith, there.0))) (ap (allows (Process (Is (length g.homes)) (Is k))) s) (home_ok g k (omega arith) there.0) ∙ ap Ok (home_adds l.0 g (length g.homes) k) in
    let rest : texts_of ls ≡ home_texts (length h.homes) ks ++ map wire_text ws = other_texts l.1 (home_text (length g.homes) k) (texts_of ls) (home_texts (length g.homes + 1) ks ++ map wire_text ws) e ∙ ap (λ (m : ℕ). home_texts m ks ++ map wire_text ws) (sym len) in
    let n : length g.homes + length (k ∷ ks) ≡ length h.homes + length ks = omega (arith, len) in
    ap (then_lines (λ x. stands_read script_reader x ls)) one ∙ homes_read ks ls h ws rest s k8 (omega (arith, len)) there.1 room (subst (λ (m : ℕ). AllByRecursion (Joins m) ws) n fits)
    ∙ ap (λ (x : List ℕ). Ok (with_wires (record g { homes = x }) ws)) (append_assoc g.homes (k ∷ []) ks)

-- ---- the header

abbrev pub begun : ℕ → Stage → Given
begun v s = record { version = v; kernels = 0; homes = []; wires = []; lines = []; stage = s }

-- what a whole header says
abbrev header_given : Setting → Given
header_given t = record { version = t.version; kernels = t.kernels; homes = t.homes; wires = t.wires; lines = []; stage = wires_stage stage.Processes t.wires }

pub kernels_adds : (line v k : ℕ) (s : Stage) → with_meaning line (begun v s) (meaning_of (Kernels (Is k))) ≡ record { version = v; kernels = k; homes = []; wires = []; lines = []; stage = stage.Processes }
unfolding with_meaning
kernels_adds line v k s = refl

kernels_read : (t : Setting) (s : Stage) (ls : List Line) → allows (Kernels (Is t.kernels)) s ≡ true → texts_of ls ≡ header_texts t → IsValid t → stands_read script_reader (begun t.version s) ls ≡ Ok (header_given t)
kernels_read t s [] a e valid = absurd cc
kernels_read t s (l ∷ ls) a e valid =
    let h : Given = record { version = t.version; kernels = t.kernels; homes = []; wires = []; lines = []; stage = stage.Processes } in
    let one : noted l.0 (begun t.version s) (meaning_at (begun t.version s) l.1) ≡ Ok h =
    ap (λ (x : List ℕ). noted l.0 (begun t.version s) (meaning_at (begun t.version s) x)) (first_text l.1 (kernels_text t.kernels) (texts_of ls) (home_texts 0 t.homes ++ map wire_text t.wires) e)
    ∙ one_ok l.0 (begun t.version s) (kernels_text t.kernels) (Kernels (Is t.kernels)) (kernels_form t.version t.kernels (omega (arith, valid.limits.kernels))) a
    (kernels_ok (begun t.version s) t.kernels valid.limits.some_kernel valid.limits.kernels)
    ∙ ap Ok (kernels_adds l.0 t.version t.kernels s) in
    let n : length t.homes ≡ 0 + length t.homes = omega arith in
    ap (then_lines (λ x. stands_read script_reader x ls)) one
    ∙ homes_read t.homes ls h t.wires (other_texts l.1 (kernels_text t.kernels) (texts_of ls) (home_texts 0 t.homes ++ map wire_text t.wires) e) refl valid.limits.kernels (omega (arith, valid.limits.processes))
    (recursion_from_All (λ k. k < t.kernels) t.homes valid.homes) (omega (arith, valid.limits.wires))
    (subst (λ (m : ℕ). AllByRecursion (Joins m) t.wires) n (recursion_from_All (Joins (length t.homes)) t.wires valid.wires))

pub version_adds : (line v : ℕ) → with_meaning line nothing (meaning_of (Version (Is v))) ≡ begun v stage.Named
unfolding with_meaning
version_adds line v = refl

pub small_version : (v : ℕ) → (v ≡ 1) ⊎ (v ≡ 2) → v < 2 ^ 64
small_version v (inl e) = omega arith
small_version v (inr e) = omega arith

header_read : (t : Setting) (ls : List Line) → IsHeader (texts_of ls) t → IsValid t → stands_read script_reader nothing ls ≡ Ok (header_given t)
header_read t ls (inr h) valid = ap (λ (v : ℕ). stands_read script_reader (begun v stage.Start) ls) (sym h.0) ∙ kernels_read t stage.Start ls refl h.1 valid
header_read t [] (inl e) valid = absurd cc
header_read t (l ∷ ls) (inl e) valid =
    let one : noted l.0 nothing (meaning_at nothing l.1) ≡ Ok (begun t.version stage.Named) =
    ap (λ (x : List ℕ). noted l.0 nothing (meaning_at nothing x)) (first_text l.1 (version_text t.version) (texts_of ls) (header_texts t) e)
    ∙ one_ok l.0 nothing (version_text t.version) (Version (Is t.version)) (version_form 1 t.version (small_version t.version valid.limits.version)) refl (version_ok nothing t.version valid.limits.version) ∙ ap Ok (version_adds l.0 t.version) in
    ap (then_lines (λ x. stands_read script_reader x ls)) one ∙ kernels_read t stage.Named ls refl (other_texts l.1 (version_text t.version) (texts_of ls) (header_texts t) e) valid

-- ---- the whole script

pub wires_kernels : (ws : List (Pid × Pid)) → has_kernels (wires_stage stage.Processes ws) ≡ true
wires_kernels [] = refl
wires_kernels (w ∷ ws) = refl

calls_kernels : (s : Stage) (ls : List ScriptLine) → has_kernels s ≡ true → has_kernels (calls_stage s ls) ≡ true
calls_kernels s [] e = e
calls_kernels s (l ∷ ls) e = refl

pub script_again : (bytes : List ℕ) (s : Script) → IsScriptText bytes s → script_of bytes ≡ Ok s
script_again bytes s is =
    let t : Setting = s.setting in
    let g : Given = header_given t in
    let k = wires_kernels t.wires in
    let calls : stands_read script_reader g (map numbered s.lines) ≡ Ok (with_calls g s.lines) = calls_read s.lines g k (omega (arith, is.valid.limits.kernels)) (omega (arith, is.valid.limits.processes)) (recursion_from_All (λ l. FitsWhat t l.what) s.lines is.calls) in
    let all : stands_read script_reader nothing (standing 1 (parts 10 bytes)) ≡ Ok (with_calls g s.lines) =
    ap (stands_read script_reader nothing) is.lines ∙ stands_append script_reader is.header (map numbered s.lines) nothing ∙ ap (then_lines (λ h. stands_read script_reader h (map numbered s.lines))) (header_read t is.header is.spelled is.valid) ∙ calls in
    whole_again script_reader bytes (with_calls g s.lines) all (calls_kernels g.stage s.lines k)

abbrev read : Script → Result Script PlanFault
read s = Ok s

same_read : (a b : Script) → read a ≡ read b → a ≡ b
same_read a b e = cc

pub one_script : (bytes : List ℕ) (a b : Script) → IsScriptText bytes a → IsScriptText bytes b → a ≡ b
one_script bytes a b ia ib = same_read a b (sym (script_again bytes a ia) ∙ script_again bytes b ib)

pub script_only : (bytes : List ℕ) (r : Result Script PlanFault) (s : Script) → Gives r (script_of bytes) → IsScriptText bytes s → Gives r (Ok s)
script_only bytes r s given is = subst (λ (x : Result Script PlanFault). Gives r x) (script_again bytes s is) given
