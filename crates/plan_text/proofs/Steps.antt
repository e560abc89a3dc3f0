-- What a line of a plan says: what a line of a script's header says, and a place.
use Rattle.std.proofs.Common.{◌≡◌, ℕ, List, [], Option, Some, None, Result, Ok, Err, refl, sym, subst, ap, ◌∙◌}
use Rattle.charlotte_calls.specs.declared.names.Pid.{Pid}
use Rattle.charlotte_text.specs.declared.fault.Fault.{Fault}
use Rattle.charlotte_text.specs.Reading.{words}
use Rattle.lynx_plan.specs.declared.meaning.Meaning.{Meaning}
use Rattle.lynx_plan.specs.declared.rule.Rule.{Rule}
use Rattle.lynx_plan.specs.declared.fault.PlanFault.{PlanFault}
use Rattle.lynx_plan.specs.Given.{Given}
use Rattle.lynx_plan.specs.Rules.{judged, with_meaning}
use Rattle.lynx_plan.specs.Reading.{line_read}
use Rattle.lynx_plan.proofs.Lines.{Line, ok_is, line_kept}
use Rattle.lynx_plan.proofs.Sound.{Sound, sound_judged}
use Rattle.plan_text.specs.declared.form.Role.{Role}
use Rattle.plan_text.specs.declared.form.Role.TheVariants.{Plain, Runs, Hosts}
use Rattle.plan_text.specs.declared.form.PlanForm.{PlanForm}
use Rattle.plan_text.specs.declared.rules.Place.{Place}
use Rattle.plan_text.specs.declared.rules.Place.TheVariants as place
use Rattle.plan_text.specs.Given.{PlanGiven}
use Rattle.plan_text.specs.Forms.{plan_form_of}
use Rattle.plan_text.specs.Rules.{◌>>=◌, hosted, plain_rule, plain, checked, plan_judged, with_place, with_header, with_line}
use Rattle.plan_text.specs.Reading.{plan_judged_form, plan_meaning_at, plan_noted, plan_reader}

-- ---- what is said where no rule fails

abbrev as_said : {A : Type 0} → A → Result A Rule
as_said x = Ok x

pub said_is : {A : Type 0} (x y : A) → as_said x ≡ as_said y → x ≡ y
said_is x y e = cc

pub said_ok : {A B : Type 0} (r : Result A Rule) (f : A → Result B Rule) (y : B) → (r >>= f) ≡ Ok y → (x : A) × (r ≡ Ok x) × (f x ≡ Ok y)
said_ok (Ok x) f y e = (x, refl, e)
said_ok (Err rule) f y e = absurd cc

plain_ok : (o : Option Rule) (m : Meaning) (said : Meaning × Place) → plain o m ≡ Ok said → (o ≡ None) × ((m, place.Plain) ≡ said)
plain_ok None m said e = (refl, said_is (m, place.Plain) said e)
plain_ok (Some rule) m said e = absurd cc

-- the place of a line of this role, after what was said
abbrev pub IsPlace : PlanGiven → Meaning → Role → Place → Type 0
IsPlace g m Plain p = (plain_rule g m ≡ None) × (p ≡ place.Plain)
IsPlace g m (Runs name) p = p ≡ place.Runs name
IsPlace g m (Hosts x n) p = (moved : Pid) × (hosted g x ≡ Ok moved) × (p ≡ place.Hosts moved n)

checked_from : (g : PlanGiven) (m : Meaning) (role : Role) (said : Meaning × Place) → checked g m role ≡ Ok said → (said.0 ≡ m) × IsPlace g m role said.1
checked_from g m Plain said e =
    let p = plain_ok (plain_rule g m) m said e in
    (ap (λ (x : Meaning × Place). x.0) (sym p.1), (p.0, ap (λ (x : Meaning × Place). x.1) (sym p.1)))
checked_from g m (Runs name) said e =
    let p : (m, place.Runs name) ≡ said = said_is (m, place.Runs name) said e in
    (ap (λ (x : Meaning × Place). x.0) (sym p), ap (λ (x : Meaning × Place). x.1) (sym p))
checked_from g m (Hosts x n) said e =
    let h = said_ok (hosted g x) (λ moved. Ok (m, place.Hosts moved n)) said e in
    let p : (m, place.Hosts h.0 n) ≡ said = said_is (m, place.Hosts h.0 n) said h.2 in
    (ap (λ (x : Meaning × Place). x.0) (sym p), (h.0, h.1, ap (λ (x : Meaning × Place). x.1) (sym p)))

-- a line that fails no rule
pub record Says (line : ℕ) (g h : PlanGiven) (text : List ℕ) : Type 0 where
  pub form : PlanForm
  pub said : Meaning
  pub gets : Place
  pub read : plan_form_of (words text) ≡ Ok form
  pub stands : judged g.header form.form ≡ Ok said
  pub fits : IsPlace g said form.role gets
  pub adds : with_line line g (said, gets) ≡ h

noted_from : (line : ℕ) (g h : PlanGiven) (r : Result (Meaning × Place) Rule) → plan_noted line g r ≡ Ok h → (said : Meaning × Place) × (r ≡ Ok said) × (with_line line g said ≡ h)
noted_from line g h (Ok said) e = (said, refl, ok_is (with_line line g said) h e)
noted_from line g h (Err rule) e = absurd cc

form_from : (g : PlanGiven) (r : Result PlanForm Fault) (said : Meaning × Place) → plan_judged_form g r ≡ Ok said → (f : PlanForm) × (r ≡ Ok f) × (plan_judged g f ≡ Ok said)
form_from g (Ok f) said e = (f, refl, e)
form_from g (Err fault) said e = absurd cc

pub says_from : (line : ℕ) (g h : PlanGiven) (text : List ℕ) → plan_noted line g (plan_meaning_at g text) ≡ Ok h → Says line g h text
unfolding plan_meaning_at plan_judged
says_from line g h text e =
    let n = noted_from line g h (plan_judged_form g (plan_form_of (words text))) e in
    let f = form_from g (plan_form_of (words text)) n.0 n.1 in
    let j = said_ok (judged g.header f.0.form) (λ m. checked g m f.0.role) n.0 f.2 in
    let c = checked_from g j.0 f.0.role n.0 j.2 in
    record {
      form = f.0;
      said = j.0;
      gets = n.0.1;
      read = f.1;
      stands = j.1;
      fits = c.1;
      adds = ap (λ (m : Meaning). with_line line g (m, n.0.1)) (sym c.0) ∙ n.2;
    }

-- ---- what was said keeps within the limits

pub place_header : (line : ℕ) (g : PlanGiven) (p : Place) → (with_place line g p).header ≡ g.header
unfolding with_place
place_header line g place.Plain = refl
place_header line g (place.Runs name) = refl
place_header line g (place.Hosts p n) = refl

pub line_header : (line : ℕ) (g : PlanGiven) (m : Meaning) (p : Place) → (with_line line g (m, p)).header ≡ with_meaning line g.header m
unfolding with_header
line_header line g m p = ap (λ (x : Given). with_meaning line x m) (place_header line g p)

pub sound_said : (line : ℕ) (g h : PlanGiven) (text : List ℕ) → Says line g h text → Sound g.header → Sound h.header
sound_said line g h text says s =
    let header : with_meaning line g.header says.said ≡ h.header = sym (line_header line g says.said says.gets) ∙ ap (λ (x : PlanGiven). x.header) says.adds in
    subst Sound header (sound_judged line g.header (Ok says.form.form) says.said says.stands s)

pub sound_planned : (line : ℕ) (g h : PlanGiven) (text : List ℕ) → line_read plan_reader line g text ≡ Ok h → Sound g.header → Sound h.header
sound_planned line g h text e s = line_kept plan_reader (λ x all. Sound x.header) (λ n x y t all f. sound_said n x y t (says_from n x y t f)) line g h text [] e s
