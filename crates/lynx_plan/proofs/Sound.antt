-- What the lines said keeps within the limits.
use Rattle.std.proofs.Common.{◌≡◌, ℕ, ◌+◌, ◌<◌, ◌≤◌, ◌⊎◌, Bool, true, false, cond, List, [], ◌∷◌, ◌++◌, length, Result, Ok, Err, refl, ap, subst, inl, inr, arith}
use Rattle.std.specs.List.{All}
use Rattle.std.proofs.lemmas.List.{length-append}
use Rattle.std.proofs.lemmas.List.Elements.{All-nil, All-push, All-weaker, All-same}
use Rattle.charlotte_calls.specs.declared.names.Pid.{Pid}
use Rattle.charlotte_calls.specs.Setting.{IsValid}
use Rattle.charlotte_text.specs.declared.fault.Fault.{Fault}
use Rattle.charlotte_text.specs.declared.number.Number.{Number}
use Rattle.charlotte_text.specs.declared.number.Number.TheVariants.{Is}
use Rattle.charlotte_text.specs.Reading.{words}
use Rattle.lynx_plan.specs.declared.rule.Rule.{Rule}
use Rattle.lynx_plan.specs.declared.stage.Stage.{Stage}
use Rattle.lynx_plan.specs.declared.stage.Stage.TheVariants as stage
use Rattle.lynx_plan.specs.declared.form.Form.{Form}
use Rattle.lynx_plan.specs.declared.form.Form.TheVariants.{Version, Kernels, Process, Wire, Ask, LongAsk, Take, Settle}
use Rattle.lynx_plan.specs.declared.meaning.Meaning.{Meaning}
use Rattle.lynx_plan.specs.declared.fault.PlanFault.{PlanFault}
use Rattle.lynx_plan.specs.Given.{Given, nothing}
use Rattle.lynx_plan.specs.Forms.{form_of}
use Rattle.lynx_plan.specs.Rules.{allows, value, meaning_of, with_meaning}
use Rattle.lynx_plan.specs.Reading.{has_kernels, judged_form, meaning_at, noted, line_read, script_given, script_reader}
use Rattle.lynx_plan.proofs.Lawful.{Lawful, passes_from}
use Rattle.lynx_plan.proofs.Lines.{ok_is, line_kept}

-- each wire joins processes that are declared
abbrev pub Joins : ℕ → Pid × Pid → Type 0
Joins processes wire = (wire.0.0 < processes) × (wire.1.0 < processes)

pub record Sound (g : Given) : Type 0 where
  pub version : (g.version ≡ 1) ⊎ (g.version ≡ 2)
  pub kernels : g.kernels ≤ 8
  pub some : has_kernels g.stage ≡ true → 1 ≤ g.kernels
  pub none : has_kernels g.stage ≡ false → g.homes ≡ []
  pub processes : length g.homes ≤ 64
  pub count : length g.wires ≤ 4096
  pub homes : All (λ home. home < g.kernels) g.homes
  pub wires : All (Joins (length g.homes)) g.wires

pub sound_nothing : Sound nothing
sound_nothing = record {
  version = inl refl;
  kernels = omega arith;
  some = λ e. absurd cc;
  none = λ e. refl;
  processes = omega arith;
  count = omega arith;
  homes = All-nil (λ home. home < 0);
  wires = All-nil (Joins 0);
}

version_value : (n : Number) → (n ≡ Is 1) ⊎ (n ≡ Is 2) → (value n ≡ 1) ⊎ (value n ≡ 2)
version_value n (inl e) = inl (ap value e)
version_value n (inr e) = inr (ap value e)

-- the `kernels` line stands only where it had not stood
before_kernels : (n : Number) (s : Stage) → allows (Kernels n) s ≡ true → has_kernels s ≡ false
before_kernels n stage.Start e = refl
before_kernels n stage.Named e = refl
before_kernels n stage.Processes e = absurd cc
before_kernels n stage.Wires e = absurd cc
before_kernels n stage.Calls e = absurd cc

before_version : (n : Number) (s : Stage) → allows (Version n) s ≡ true → has_kernels s ≡ false
before_version n stage.Start e = refl
before_version n stage.Named e = absurd cc
before_version n stage.Processes e = absurd cc
before_version n stage.Wires e = absurd cc
before_version n stage.Calls e = absurd cc

pub process_stage : (i k : Number) (s : Stage) → allows (Process i k) s ≡ true → s ≡ stage.Processes
process_stage i k stage.Start e = absurd cc
process_stage i k stage.Named e = absurd cc
process_stage i k stage.Processes e = refl
process_stage i k stage.Wires e = absurd cc
process_stage i k stage.Calls e = absurd cc

-- after any other line that stands, the `kernels` line stood
pub wire_after : (i j : Number) (s : Stage) → allows (Wire i j) s ≡ true → has_kernels s ≡ true
wire_after i j stage.Start e = absurd cc
wire_after i j stage.Named e = absurd cc
wire_after i j stage.Processes e = refl
wire_after i j stage.Wires e = refl
wire_after i j stage.Calls e = absurd cc

pub settle_after : (s : Stage) → allows Settle s ≡ true → has_kernels s ≡ true
settle_after stage.Start e = absurd cc
settle_after stage.Named e = absurd cc
settle_after stage.Processes e = refl
settle_after stage.Wires e = refl
settle_after stage.Calls e = refl

sound_form : (line : ℕ) (g : Given) (f : Form) → allows f g.stage ≡ true → Lawful g f → Sound g → Sound (with_meaning line g (meaning_of f))
unfolding with_meaning
sound_form line g (Version n) a l s = record {
  version = version_value n l;
  kernels = s.kernels;
  some = λ x. absurd cc;
  none = λ x. s.none (before_version n g.stage a);
  processes = s.processes;
  count = s.count;
  homes = s.homes;
  wires = s.wires;
}
sound_form line g (Kernels n) a l s =
    let empty : g.homes ≡ [] = s.none (before_kernels n g.stage a) in
    record {
      version = s.version;
      kernels = omega (arith, l.0.small);
      some = λ x. l.1;
      none = λ x. absurd cc;
      processes = s.processes;
      count = s.count;
      homes = All-same (λ home. home < value n) g.homes [] empty (All-nil (λ home. home < value n));
      wires = s.wires;
    }
sound_form line g (Process i k) a l s =
    let len : length (g.homes ++ value k ∷ []) ≡ length g.homes + 1 = length-append g.homes (value k ∷ []) in
    let there : has_kernels g.stage ≡ true = ap has_kernels (process_stage i k g.stage a) in
    record {
      version = s.version;
      kernels = s.kernels;
      some = λ x. s.some there;
      none = λ x. absurd (let e = there in cc);
      processes = omega (arith, l.1);
      count = s.count;
      homes = All-push (λ home. home < g.kernels) g.homes (value k) s.homes l.2.small;
      wires = All-weaker (Joins (length g.homes)) (Joins (length (g.homes ++ value k ∷ []))) (λ w h. (omega (arith, h.0), omega (arith, h.1))) g.wires s.wires;
    }
sound_form line g (Wire i j) a l s =
    let there = wire_after i j g.stage a in
    record {
      version = s.version;
      kernels = s.kernels;
      some = λ x. s.some there;
      none = λ x. absurd cc;
      processes = s.processes;
      count = omega (arith, l.2, length-append g.wires ((record { 0 = value i }, record { 0 = value j }) ∷ []));
      homes = s.homes;
      wires = All-push (Joins (length g.homes)) g.wires (record { 0 = value i }, record { 0 = value j }) s.wires (l.0.small, l.1.small);
    }
sound_form line g (Ask p call) a l s = let there = settle_after g.stage a in record { version = s.version; kernels = s.kernels; some = λ x. s.some there; none = λ x. absurd cc; processes = s.processes; count = s.count; homes = s.homes; wires = s.wires }
sound_form line g (LongAsk p) a l s = absurd l
sound_form line g (Take j k) a l s = let there = settle_after g.stage a in record { version = s.version; kernels = s.kernels; some = λ x. s.some there; none = λ x. absurd cc; processes = s.processes; count = s.count; homes = s.homes; wires = s.wires }
sound_form line g Settle a l s = let there = settle_after g.stage a in record { version = s.version; kernels = s.kernels; some = λ x. s.some there; none = λ x. absurd cc; processes = s.processes; count = s.count; homes = s.homes; wires = s.wires }

pub sound_judged : (line : ℕ) (g : Given) (r : Result Form Fault) (e : Meaning) → judged_form g r ≡ Ok e → Sound g → Sound (with_meaning line g e)
sound_judged line g (Ok f) e h s =
    let p = passes_from g f e h in
    subst (λ (x : Meaning). Sound (with_meaning line g x)) p.says (sound_form line g f p.stands p.lawful s)
sound_judged line g (Err f) e h s = absurd cc

sound_noted : (line : ℕ) (g h : Given) (r : Result Meaning Rule) → noted line g r ≡ Ok h → ((e : Meaning) → r ≡ Ok e → Sound (with_meaning line g e)) → Sound h
sound_noted line g h (Ok e) n s = subst Sound (ok_is (with_meaning line g e) h n) (s e refl)
sound_noted line g h (Err rule) n s = absurd cc

pub sound_line : (line : ℕ) (g h : Given) (text : List ℕ) → noted line g (meaning_at g text) ≡ Ok h → Sound g → Sound h
unfolding meaning_at
sound_line line g h text n s = sound_noted line g h (meaning_at g text) n (λ x at. sound_judged line g (form_of g.version (words text)) x at s)

pub sound_kept : (line : ℕ) (g h : Given) (text : List ℕ) → line_read script_reader line g text ≡ Ok h → Sound g → Sound h
sound_kept line g h text e s = line_kept script_reader (λ x all. Sound x) (λ n x y t all. sound_line n x y t) line g h text [] e s

pub valid_given : (g : Given) → Sound g → has_kernels g.stage ≡ true → IsValid (script_given g).setting
valid_given g s k = record {
  limits = record { version = s.version; some_kernel = s.some k; kernels = s.kernels; processes = s.processes; wires = s.count };
  homes = s.homes;
  wires = s.wires;
}
