-- The lines that were read spell what was read.
use Rattle.std.proofs.Common.{◌≡◌, ℕ, ◌+◌, ◌⊎◌, true, false, cond, List, [], ◌∷◌, ◌++◌, length, map, Result, Ok, Err, refl, sym, ap, subst, ◌∙◌, append_assoc, inl, inr, arith}
use Rattle.std.specs.Prelude.{IfOk}
use Rattle.std.specs.List.{All}
use Rattle.std.proofs.lemmas.List.{append-nil, map_push}
use Rattle.std.proofs.lemmas.List.Elements.{All-nil, All-push, All-same}
use Rattle.charlotte_calls.specs.declared.names.Pid.{Pid}
use Rattle.charlotte_calls.specs.declared.setting.Setting.{Setting}
use Rattle.charlotte_calls.specs.Setting.{IsValid}
use Rattle.charlotte_text.specs.declared.fault.Fault.{Fault}
use Rattle.charlotte_text.specs.declared.number.Number.{Number}
use Rattle.charlotte_text.specs.Reading.{parts, words}
use Rattle.lynx_plan.specs.declared.rule.Rule.{Rule}
use Rattle.lynx_plan.specs.declared.stage.Stage.{Stage}
use Rattle.lynx_plan.specs.declared.stage.Stage.TheVariants as stage
use Rattle.lynx_plan.specs.declared.form.Form.{Form}
use Rattle.lynx_plan.specs.declared.form.Form.TheVariants.{Version, Kernels, Process, Wire, Ask, LongAsk, Take, Settle}
use Rattle.lynx_plan.specs.declared.meaning.Meaning.{Meaning}
use Rattle.lynx_plan.specs.declared.script.Script.{Script}
use Rattle.lynx_plan.specs.declared.script.ScriptLine.{ScriptLine}
use Rattle.lynx_plan.specs.declared.script.ScriptCall.{ScriptCall}
use Rattle.lynx_plan.specs.declared.script.ScriptCall.TheVariants as script
use Rattle.lynx_plan.specs.declared.fault.PlanFault.{PlanFault}
use Rattle.lynx_plan.specs.declared.fault.PlanFault.TheVariants.{BadPlan}
use Rattle.lynx_plan.specs.Given.{Given, nothing}
use Rattle.lynx_plan.specs.Forms.{form_of}
use Rattle.lynx_plan.specs.Rules.{allows, value, meaning_of, with_meaning}
use Rattle.lynx_plan.specs.Reading.{Gives, has_kernels, judged_form, meaning_at, noted, script_given, script_of, script_reader}
use Rattle.lynx_plan.specs.ScriptText.{standing, version_text, kernels_text, home_text, home_texts, wire_text, what_text, header_texts, IsHeader, FitsWhat, numbered, IsScriptText}
use Rattle.lynx_plan.proofs.Lawful.{Lawful, passes_from}
use Rattle.lynx_plan.proofs.Lines.{Line, ok_is, Keeps, Whole, whole_from, whole_kept}
use Rattle.lynx_plan.proofs.Sound.{Sound, sound_nothing, sound_line, valid_given, process_stage, wire_after, settle_after}
use Rattle.lynx_plan.proofs.Words.{form_text, form_has, text_has, FitsForm, fits_has}

abbrev setting_of : Given → Setting
setting_of g = (script_given g).setting

abbrev pub texts_of : List (ℕ × List ℕ) → List (List ℕ)
texts_of ls = map (λ l. l.1) ls

-- the texts of a header that may go on
abbrev Opens : Given → Stage → List (List ℕ) → Type 0
Opens g stage.Start texts = (texts ≡ []) × (g.version ≡ 1)
Opens g stage.Named texts = texts ≡ version_text g.version ∷ []
Opens g stage.Processes texts = IsHeader texts (setting_of g)
Opens g stage.Wires texts = IsHeader texts (setting_of g)
Opens g stage.Calls texts = IsHeader texts (setting_of g)

-- what was not read yet is empty
abbrev Empty : Given → Stage → Type 0
Empty g stage.Start = (g.homes ≡ []) × (g.wires ≡ []) × (g.lines ≡ [])
Empty g stage.Named = (g.homes ≡ []) × (g.wires ≡ []) × (g.lines ≡ [])
Empty g stage.Processes = (g.wires ≡ []) × (g.lines ≡ [])
Empty g stage.Wires = g.lines ≡ []
Empty g stage.Calls = Unit {0}

pub record Reads (g : Given) (all : List Line) : Type 0 where
  pub header : List Line
  pub lines : all ≡ header ++ map numbered g.lines
  pub opens : Opens g g.stage (texts_of header)
  pub empty : Empty g g.stage
  pub calls : All (λ l. FitsWhat (setting_of g) l.what) g.lines

pub reads_nothing : Reads nothing []
reads_nothing = record { header = []; lines = refl; opens = (refl, refl); empty = (refl, refl, refl); calls = All-nil (λ l. FitsWhat (setting_of nothing) l.what) }

-- one more line of the header, where no call stood
with_header : (g : Given) (all : List Line) (header : List Line) (line : Line) → all ≡ header ++ map numbered g.lines → g.lines ≡ [] → all ++ line ∷ [] ≡ (header ++ line ∷ []) ++ map numbered g.lines
with_header g all header line e none =
    let same : all ≡ header = e ∙ ap (λ (ls : List ScriptLine). header ++ map numbered ls) none ∙ append-nil header in
    ap (λ (x : List Line). x ++ line ∷ []) same ∙ sym (append-nil (header ++ line ∷ [])) ∙ ap (λ (ls : List ScriptLine). (header ++ line ∷ []) ++ map numbered ls) (sym none)

-- one more line that is a call
with_call : (g : Given) (all header : List Line) (n : ℕ) (text : List ℕ) (what : ScriptCall) → all ≡ header ++ map numbered g.lines → text ≡ what_text what
    → all ++ (n, text) ∷ [] ≡ header ++ map numbered (g.lines ++ record { line = n; what = what } ∷ [])
with_call g all header n text what e t =
    ap (λ (x : List Line). x ++ (n, text) ∷ []) e ∙ append_assoc header (map numbered g.lines) ((n, text) ∷ []) ∙ ap (λ (x : List Line). header ++ x) (ap (λ (x : List ℕ). map numbered g.lines ++ (n, x) ∷ []) t ∙ sym (map_push numbered g.lines (record { line = n; what = what })))

home_texts_push : (i : ℕ) (ks : List ℕ) (k : ℕ) → home_texts i (ks ++ k ∷ []) ≡ home_texts i ks ++ home_text (i + length ks) k ∷ []
home_texts_push i [] k = ap (λ (n : ℕ). home_text n k ∷ []) (omega arith)
home_texts_push i (x ∷ ks) k =
    let n : (i + 1) + length ks ≡ i + length (x ∷ ks) = omega arith in
    ap (λ (ts : List (List ℕ)). home_text i x ∷ ts) (home_texts_push (i + 1) ks k ∙ ap (λ (m : ℕ). home_texts (i + 1) ks ++ home_text m k ∷ []) n)

-- a header with one more text
header_push : (texts : List (List ℕ)) (s t : Setting) (text : List ℕ) → s.version ≡ t.version → header_texts s ++ text ∷ [] ≡ header_texts t → IsHeader texts s → IsHeader (texts ++ text ∷ []) t
header_push texts s t text v e (inl h) = inl (ap (λ (x : List (List ℕ)). x ++ text ∷ []) h ∙ ap (λ (x : List (List ℕ)). version_text s.version ∷ x) e ∙ ap (λ (n : ℕ). version_text n ∷ header_texts t) v)
header_push texts s t text v e (inr h) = inr (sym v ∙ h.0, ap (λ (x : List (List ℕ)). x ++ text ∷ []) h.1 ∙ e)

home_header : (g : Given) (k : ℕ) → g.wires ≡ [] → header_texts (setting_of g) ++ home_text (length g.homes) k ∷ [] ≡ kernels_text g.kernels ∷ (home_texts 0 (g.homes ++ k ∷ []) ++ map wire_text g.wires)
home_header g k none =
    let n : 0 + length g.homes ≡ length g.homes = omega arith in
    let before : home_texts 0 g.homes ++ map wire_text g.wires ≡ home_texts 0 g.homes = ap (λ (ws : List (Pid × Pid)). home_texts 0 g.homes ++ map wire_text ws) none ∙ append-nil (home_texts 0 g.homes) in
    let after : home_texts 0 (g.homes ++ k ∷ []) ++ map wire_text g.wires ≡ home_texts 0 (g.homes ++ k ∷ []) = ap (λ (ws : List (Pid × Pid)). home_texts 0 (g.homes ++ k ∷ []) ++ map wire_text ws) none ∙ append-nil (home_texts 0 (g.homes ++ k ∷ [])) in
    ap (λ (ts : List (List ℕ)). kernels_text g.kernels ∷ (ts ++ home_text (length g.homes) k ∷ [])) before
    ∙ ap (λ (ts : List (List ℕ)). kernels_text g.kernels ∷ ts) (ap (λ (m : ℕ). home_texts 0 g.homes ++ home_text m k ∷ []) (sym n) ∙ sym (home_texts_push 0 g.homes k) ∙ sym after)

wire_header : (g : Given) (w : Pid × Pid) → header_texts (setting_of g) ++ wire_text w ∷ [] ≡ kernels_text g.kernels ∷ (home_texts 0 g.homes ++ map wire_text (g.wires ++ w ∷ []))
wire_header g w =
    ap (λ (ts : List (List ℕ)). kernels_text g.kernels ∷ ts) (append_assoc (home_texts 0 g.homes) (map wire_text g.wires) (wire_text w ∷ []) ∙ ap (λ (ts : List (List ℕ)). home_texts 0 g.homes ++ ts) (sym (map_push wire_text g.wires w)))

bare_header : (g : Given) (k : ℕ) → g.homes ≡ [] → g.wires ≡ [] → kernels_text k ∷ (home_texts 0 g.homes ++ map wire_text g.wires) ≡ kernels_text k ∷ []
bare_header g k hs ws = ap (λ (x : List ℕ). kernels_text k ∷ (home_texts 0 x ++ map wire_text g.wires)) hs ∙ ap (λ (x : List (Pid × Pid)). kernels_text k ∷ map wire_text x) ws

-- ---- stages

pub version_stage : (n : Number) (s : Stage) → allows (Version n) s ≡ true → s ≡ stage.Start
version_stage n stage.Start e = refl
version_stage n stage.Named e = absurd cc
version_stage n stage.Processes e = absurd cc
version_stage n stage.Wires e = absurd cc
version_stage n stage.Calls e = absurd cc

pub kernels_stage : (n : Number) (s : Stage) → allows (Kernels n) s ≡ true → (s ≡ stage.Start) ⊎ (s ≡ stage.Named)
kernels_stage n stage.Start e = inl refl
kernels_stage n stage.Named e = inr refl
kernels_stage n stage.Processes e = absurd cc
kernels_stage n stage.Wires e = absurd cc
kernels_stage n stage.Calls e = absurd cc

-- the header is whole once the `kernels` line stood
pub whole_header : (g : Given) (s : Stage) (texts : List (List ℕ)) → has_kernels s ≡ true → Opens g s texts → IsHeader texts (setting_of g)
whole_header g stage.Start texts e o = absurd cc
whole_header g stage.Named texts e o = absurd cc
whole_header g stage.Processes texts e o = o
whole_header g stage.Wires texts e o = o
whole_header g stage.Calls texts e o = o

wire_lines : (g : Given) (i j : Number) (s : Stage) → allows (Wire i j) s ≡ true → Empty g s → g.lines ≡ []
wire_lines g i j stage.Start a e = absurd cc
wire_lines g i j stage.Named a e = absurd cc
wire_lines g i j stage.Processes a e = e.1
wire_lines g i j stage.Wires a e = e
wire_lines g i j stage.Calls a e = absurd cc

-- ---- one line

abbrev Fit : Given → ScriptLine → Type 0
Fit g l = FitsWhat (setting_of g) l.what

no_calls : (g h : Given) → g.lines ≡ [] → All (Fit h) g.lines
no_calls g h e = All-same (Fit h) g.lines [] e (All-nil (Fit h))

reads_version : (line : ℕ) (g : Given) (n : Number) (text : List ℕ) (all : List Line) → g.stage ≡ stage.Start → text ≡ version_text (value n) → Reads g all → Reads (record g { version = value n; stage = stage.Named }) (all ++ (line, text) ∷ [])
reads_version line g n text all s t r =
    let o : Opens g stage.Start (texts_of r.header) = subst (λ (x : Stage). Opens g x (texts_of r.header)) s r.opens in
    let e : Empty g stage.Start = subst (Empty g) s r.empty in
    record {
      header = r.header ++ (line, text) ∷ [];
      lines = with_header g all r.header (line, text) r.lines e.2;
      opens = map_push (λ (l : Line). l.1) r.header (line, text) ∙ ap (λ (x : List (List ℕ)). x ++ text ∷ []) o.0 ∙ ap (λ (x : List ℕ). x ∷ []) t;
      empty = e;
      calls = no_calls g (record g { version = value n; stage = stage.Named }) e.2;
    }

reads_kernels : (line : ℕ) (g : Given) (k : ℕ) (text : List ℕ) (all : List Line) → (g.stage ≡ stage.Start) ⊎ (g.stage ≡ stage.Named) → text ≡ kernels_text k → Reads g all → Reads (record g { kernels = k; stage = stage.Processes }) (all ++ (line, text) ∷ [])
reads_kernels line g k text all (inl s) t r =
    let o : Opens g stage.Start (texts_of r.header) = subst (λ (x : Stage). Opens g x (texts_of r.header)) s r.opens in
    let e : Empty g stage.Start = subst (Empty g) s r.empty in
    record {
      header = r.header ++ (line, text) ∷ [];
      lines = with_header g all r.header (line, text) r.lines e.2;
      opens = inr (o.1, map_push (λ (l : Line). l.1) r.header (line, text) ∙ ap (λ (x : List (List ℕ)). x ++ text ∷ []) o.0 ∙ ap (λ (x : List ℕ). x ∷ []) t ∙ sym (bare_header g k e.0 e.1));
      empty = (e.1, e.2);
      calls = no_calls g (record g { kernels = k; stage = stage.Processes }) e.2;
    }
reads_kernels line g k text all (inr s) t r =
    let o : Opens g stage.Named (texts_of r.header) = subst (λ (x : Stage). Opens g x (texts_of r.header)) s r.opens in
    let e : Empty g stage.Named = subst (Empty g) s r.empty in
    record {
      header = r.header ++ (line, text) ∷ [];
      lines = with_header g all r.header (line, text) r.lines e.2;
      opens = inl (map_push (λ (l : Line). l.1) r.header (line, text) ∙ ap (λ (x : List (List ℕ)). x ++ text ∷ []) o ∙ ap (λ (x : List ℕ). version_text g.version ∷ x ∷ []) t ∙ ap (λ (x : List (List ℕ)). version_text g.version ∷ x) (sym (bare_header g k e.0 e.1)));
      empty = (e.1, e.2);
      calls = no_calls g (record g { kernels = k; stage = stage.Processes }) e.2;
    }

reads_process : (line : ℕ) (g : Given) (k : ℕ) (text : List ℕ) (all : List Line) → g.stage ≡ stage.Processes → text ≡ home_text (length g.homes) k → Reads g all → Reads (record g { homes = g.homes ++ k ∷ [] }) (all ++ (line, text) ∷ [])
reads_process line g k text all s t r =
    let h : Given = record g { homes = g.homes ++ k ∷ [] } in
    let o : IsHeader (texts_of r.header) (setting_of g) = subst (λ (x : Stage). Opens g x (texts_of r.header)) s r.opens in
    let e : Empty g stage.Processes = subst (Empty g) s r.empty in
    let pushed : IsHeader (texts_of r.header ++ text ∷ []) (setting_of h) = header_push (texts_of r.header) (setting_of g) (setting_of h) text refl (ap (λ (x : List ℕ). header_texts (setting_of g) ++ x ∷ []) t ∙ home_header g k e.0) o in
    let header : IsHeader (texts_of (r.header ++ (line, text) ∷ [])) (setting_of h) = subst (λ (x : List (List ℕ)). IsHeader x (setting_of h)) (sym (map_push (λ (l : Line). l.1) r.header (line, text))) pushed in
    let emptied : Empty h stage.Processes = e in
    record {
      header = r.header ++ (line, text) ∷ [];
      lines = with_header g all r.header (line, text) r.lines e.1;
      opens = subst (λ (x : Stage). Opens h x (texts_of (r.header ++ (line, text) ∷ []))) (sym s) header;
      empty = subst (Empty h) (sym s) emptied;
      calls = no_calls g h e.1;
    }

reads_wire : (line : ℕ) (g : Given) (w : Pid × Pid) (text : List ℕ) (all : List Line) → has_kernels g.stage ≡ true → g.lines ≡ [] → text ≡ wire_text w → Reads g all → Reads (record g { wires = g.wires ++ w ∷ []; stage = stage.Wires }) (all ++ (line, text) ∷ [])
reads_wire line g w text all s none t r =
    let h : Given = record g { wires = g.wires ++ w ∷ []; stage = stage.Wires } in
    let o = whole_header g g.stage (texts_of r.header) s r.opens in
    let pushed : IsHeader (texts_of r.header ++ text ∷ []) (setting_of h) = header_push (texts_of r.header) (setting_of g) (setting_of h) text refl (ap (λ (x : List ℕ). header_texts (setting_of g) ++ x ∷ []) t ∙ wire_header g w) o in
    record {
      header = r.header ++ (line, text) ∷ [];
      lines = with_header g all r.header (line, text) r.lines none;
      opens = subst (λ (x : List (List ℕ)). IsHeader x (setting_of h)) (sym (map_push (λ (l : Line). l.1) r.header (line, text))) pushed;
      empty = none;
      calls = no_calls g h none;
    }

reads_call : (line : ℕ) (g : Given) (what : ScriptCall) (text : List ℕ) (all : List Line) → has_kernels g.stage ≡ true → text ≡ what_text what → FitsWhat (setting_of g) what → Reads g all
    → Reads (record g { lines = g.lines ++ record { line = line; what = what } ∷ []; stage = stage.Calls }) (all ++ (line, text) ∷ [])
reads_call line g what text all s t fits r = record {
  header = r.header;
  lines = with_call g all r.header line text what r.lines t;
  opens = whole_header g g.stage (texts_of r.header) s r.opens;
  empty = tt;
  calls = All-push (Fit g) g.lines (record { line = line; what = what }) r.calls fits;
}

reads_form : (line : ℕ) (g : Given) (f : Form) (text : List ℕ) (all : List Line) → allows f g.stage ≡ true → Lawful g f → FitsForm g.version f → text ≡ form_text g f → Reads g all → Reads (with_meaning line g (meaning_of f)) (all ++ (line, text) ∷ [])
unfolding with_meaning
reads_form line g (Version n) text all a l fits t r = reads_version line g n text all (version_stage n g.stage a) t r
reads_form line g (Kernels n) text all a l fits t r = reads_kernels line g (value n) text all (kernels_stage n g.stage a) t r
reads_form line g (Process i k) text all a l fits t r = reads_process line g (value k) text all (process_stage i k g.stage a) t r
reads_form line g (Wire i j) text all a l fits t r = reads_wire line g (record { 0 = value i }, record { 0 = value j }) text all (wire_after i j g.stage a) (wire_lines g i j g.stage a r.empty) t r
reads_form line g (Ask p call) text all a l fits t r = reads_call line g (script.Ask (record { 0 = value p }) call) text all (settle_after g.stage a) t (l.small, fits) r
reads_form line g (LongAsk p) text all a l fits t r = absurd l
reads_form line g (Take j k) text all a l fits t r = reads_call line g (script.Take (value j) (value k)) text all (settle_after g.stage a) t (l.0.small, l.1.small) r
reads_form line g Settle text all a l fits t r = reads_call line g script.Settle text all (settle_after g.stage a) t tt r

reads_judged : (line : ℕ) (g : Given) (text : List ℕ) (read : Result Form Fault) (e : Meaning) (all : List Line) → form_of g.version (words text) ≡ read → judged_form g read ≡ Ok e → Reads g all → Reads (with_meaning line g e) (all ++ (line, text) ∷ [])
reads_judged line g text (Ok f) e all is h r =
    let p = passes_from g f e h in
    let has = form_has g.version (words text) f is in
    subst (λ (x : Meaning). Reads (with_meaning line g x) (all ++ (line, text) ∷ [])) p.says
    (reads_form line g f text all p.stands p.lawful (fits_has g.version (words text) f has) (text_has g g.version text f has p.lawful) r)
reads_judged line g text (Err f) e all is h r = absurd cc

reads_noted : (line : ℕ) (g h : Given) (read : Result Meaning Rule) (all : List Line) → noted line g read ≡ Ok h → ((e : Meaning) → read ≡ Ok e → Reads (with_meaning line g e) all) → Reads h all
reads_noted line g h (Ok e) all n s = subst (λ (x : Given). Reads x all) (ok_is (with_meaning line g e) h n) (s e refl)
reads_noted line g h (Err rule) all n s = absurd cc

reads_line : (line : ℕ) (g h : Given) (text : List ℕ) (all : List Line) → noted line g (meaning_at g text) ≡ Ok h → Reads g all → Reads h (all ++ (line, text) ∷ [])
unfolding meaning_at
reads_line line g h text all n r = reads_noted line g h (meaning_at g text) (all ++ (line, text) ∷ []) n (λ x at. reads_judged line g text (form_of g.version (words text)) x all refl at r)

-- what a reading keeps
abbrev Kept : Given → List Line → Type 0
Kept g all = Reads g all × Sound g

kept_line : Keeps script_reader Kept
kept_line n g h text all e k = (reads_line n g h text all e k.0, sound_line n g h text e k.1)

spelled_whole : (bytes : List ℕ) (s : Script) → Whole script_reader bytes s → IsScriptText bytes s
spelled_whole bytes s w =
    let g : Given = w.said in
    let both = whole_kept script_reader Kept kept_line (reads_nothing, sound_nothing) bytes s w in
    subst (IsScriptText bytes) w.whole (record {
      header = both.0.header;
      lines = both.0.lines;
      spelled = whole_header g g.stage (texts_of both.0.header) w.ended both.0.opens;
      valid = valid_given g both.1 w.ended;
      calls = both.0.calls;
    })

pub script_spelled : (bytes : List ℕ) (s : Script) → script_of bytes ≡ Ok s → IsScriptText bytes s
script_spelled bytes s e = spelled_whole bytes s (whole_from script_reader bytes s e)

pub script_found : (bytes : List ℕ) (r : Result Script PlanFault) → Gives r (script_of bytes) → IfOk r (IsScriptText bytes)
script_found bytes (Ok s) g = script_spelled bytes s g
script_found bytes (Err e) g = tt

pub script_valid : (bytes : List ℕ) (r : Result Script PlanFault) → Gives r (script_of bytes) → IfOk r (λ s. IsValid s.setting)
script_valid bytes (Ok s) g = (script_spelled bytes s g).valid
script_valid bytes (Err e) g = tt
