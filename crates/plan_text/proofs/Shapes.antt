-- The words of a line of a plan, and its text where it fails no rule.
use Rattle.std.proofs.Common.{◌≡◌, ℕ, ◌+◌, ◌<◌, ◌^◌, Bool, true, false, not, cond, ltb, List, [], ◌∷◌, ◌++◌, length, Option, Some, None, Result, Ok, Err, refl, sym, ap, subst, ◌∙◌, append_assoc, inl, inr, arith}
use Rattle.std.specs.Prelude.{codes}
use Rattle.std.specs.List.{list_any, join_with_byte}
use Rattle.std.specs.Str.{bytes_eq}
use Rattle.std.proofs.lemmas.Bool.{ltb-true}
use Rattle.std.proofs.lemmas.Slice.Eq.{bytes_eq-Decides}
use Rattle.charlotte_calls.specs.declared.names.Pid.{Pid}
use Rattle.charlotte_text.specs.declared.fault.Fault.{Fault}
use Rattle.charlotte_text.specs.declared.fault.Fault.TheVariants as fault
use Rattle.charlotte_text.specs.declared.number.Number.{Number}
use Rattle.charlotte_text.specs.declared.number.Number.TheVariants.{Is, Large}
use Rattle.charlotte_text.specs.Spelling.{number_text}
use Rattle.charlotte_text.specs.Reading.{◌>>=◌, words, part_at, ended, number_of, number_below}
use Rattle.charlotte_text.proofs.Steps.{bind_ok, ok_is, not_ok, held, chosen, part_ok, ended_ok}
use Rattle.charlotte_text.proofs.Numbers.{below_takes}
use Rattle.lynx_plan.specs.declared.rule.Rule.{Rule}
use Rattle.lynx_plan.specs.declared.rule.Rule.TheVariants.{ProcessIsNotThere, ProcessIsNotFree}
use Rattle.lynx_plan.specs.declared.meaning.Meaning.{Meaning}
use Rattle.lynx_plan.specs.declared.form.Lead.{Lead}
use Rattle.lynx_plan.specs.declared.form.Lead.TheVariants as lead
use Rattle.lynx_plan.specs.declared.form.Form.{Form}
use Rattle.lynx_plan.specs.declared.form.Form.TheVariants.{Version, Kernels, Process, Wire}
use Rattle.lynx_plan.specs.Given.{Given}
use Rattle.lynx_plan.specs.Forms.{lead_of, one_number, two_numbers, placed_at, led}
use Rattle.lynx_plan.specs.Rules.{value, is_below, known_process}
use Rattle.lynx_plan.proofs.Lawful.{Lawful}
use Rattle.lynx_plan.proofs.Words.{LeadIs, lead_is, Has, led_has, begins, placed_at_take, line_is, number_word}
use Rattle.plan_text.specs.declared.plan.Hosting.{Hosting}
use Rattle.plan_text.specs.declared.form.Role.{Role}
use Rattle.plan_text.specs.declared.form.Role.TheVariants.{Plain, Runs, Hosts}
use Rattle.plan_text.specs.declared.form.PlanForm.{PlanForm}
use Rattle.plan_text.specs.declared.rules.Place.{Place}
use Rattle.plan_text.specs.declared.rules.Place.TheVariants as place
use Rattle.plan_text.specs.Given.{PlanGiven}
use Rattle.plan_text.specs.Forms.{is_name, file_role, host_role, role_of, with_role, without_role, plan_led, plan_form_of}
use Rattle.plan_text.specs.Rules.{is_of, free_process, hosted}
use Rattle.plan_text.specs.PlanText.{post_text}
use Rattle.plan_text.proofs.Steps.{IsPlace, said_is}

-- ---- roles

-- the words of a role
abbrev pub HasRole : List (List ℕ) → Role → Type 0
HasRole ws Plain = ⊥
HasRole ws (Runs name) = (ws ≡ codes "runs" ∷ name ∷ []) × (is_name name ≡ true)
HasRole ws (Hosts p n) = (x : List ℕ) × (y : List ℕ) × (ws ≡ codes "hosts" ∷ x ∷ codes "after" ∷ y ∷ []) × (number_of x ≡ Ok p) × (number_below (2 ^ 32) y ≡ Ok n)

file_takes : (ws : List (List ℕ)) (r : Role) → file_role ws ≡ Ok r → HasRole (codes "runs" ∷ ws) r
unfolding file_role
file_takes ws r e =
    let a = bind_ok (part_at ws) (λ file. ended file.1 >>= λ last. cond (is_name file.0) (Ok (Runs file.0)) (Err fault.Form)) r e in
    let l = bind_ok (ended a.0.1) (λ last. cond (is_name a.0.0) (Ok (Runs a.0.0)) (Err fault.Form)) r a.2 in
    let h = held (is_name a.0.0) (Ok (Runs a.0.0)) fault.Form r l.2 in
    subst (λ (x : Role). HasRole (codes "runs" ∷ ws) x) (ok_is (Runs a.0.0) r h.1) (ap (λ (ps : List (List ℕ)). codes "runs" ∷ ps) (part_ok ws a.0 a.1 ∙ ap (λ (ps : List (List ℕ)). a.0.0 ∷ ps) (ended_ok a.0.1 l.0 l.1)), h.0)

host_takes : (ws : List (List ℕ)) (r : Role) → host_role ws ≡ Ok r → HasRole (codes "hosts" ∷ ws) r
unfolding host_role
host_takes ws r e =
    let a = bind_ok (part_at ws) (λ first. number_of first.0 >>= λ p. part_at first.1 >>= λ second. cond (bytes_eq second.0 (codes "after")) (part_at second.1) (Err fault.Form) >>= λ third. number_below (2 ^ 32) third.0 >>= λ n. ended third.1 >>= λ last. Ok (Hosts p n)) r e in
    let p = bind_ok (number_of a.0.0) (λ p. part_at a.0.1 >>= λ second. cond (bytes_eq second.0 (codes "after")) (part_at second.1) (Err fault.Form) >>= λ third. number_below (2 ^ 32) third.0 >>= λ n. ended third.1 >>= λ last. Ok (Hosts p n)) r a.2 in
    let s = bind_ok (part_at a.0.1) (λ second. cond (bytes_eq second.0 (codes "after")) (part_at second.1) (Err fault.Form) >>= λ third. number_below (2 ^ 32) third.0 >>= λ n. ended third.1 >>= λ last. Ok (Hosts p.0 n)) r p.2 in
    let t = bind_ok (cond (bytes_eq s.0.0 (codes "after")) (part_at s.0.1) (Err fault.Form)) (λ third. number_below (2 ^ 32) third.0 >>= λ n. ended third.1 >>= λ last. Ok (Hosts p.0 n)) r s.2 in
    let n = bind_ok (number_below (2 ^ 32) t.0.0) (λ n. ended t.0.1 >>= λ last. Ok (Hosts p.0 n)) r t.2 in
    let l = bind_ok (ended t.0.1) (λ last. Ok (Hosts p.0 n.0)) r n.2 in
    let h = held (bytes_eq s.0.0 (codes "after")) (part_at s.0.1) fault.Form t.0 t.1 in
    let after : s.0.0 ≡ codes "after" = (bytes_eq-Decides s.0.0 (codes "after")).0 h.0 in
    let tail : s.0.1 ≡ t.0.0 ∷ [] = part_ok s.0.1 t.0 h.1 ∙ ap (λ (ps : List (List ℕ)). t.0.0 ∷ ps) (ended_ok t.0.1 l.0 l.1) in
    let all : ws ≡ a.0.0 ∷ codes "after" ∷ t.0.0 ∷ [] = part_ok ws a.0 a.1 ∙ ap (λ (ps : List (List ℕ)). a.0.0 ∷ ps) (part_ok a.0.1 s.0 s.1 ∙ begins (codes "after") s.0.0 s.0.1 (t.0.0 ∷ []) after tail) in
    subst (λ (x : Role). HasRole (codes "hosts" ∷ ws) x) (ok_is (Hosts p.0 n.0) r l.2) (a.0.0, t.0.0, ap (λ (ps : List (List ℕ)). codes "hosts" ∷ ps) all, p.1, n.1)

role_takes : (ws : List (List ℕ)) (r : Role) → role_of ws ≡ Ok r → HasRole ws r
unfolding role_of
role_takes ws r e =
    let a = bind_ok (part_at ws) (λ verb. cond (bytes_eq verb.0 (codes "runs")) (file_role verb.1) (cond (bytes_eq verb.0 (codes "hosts")) (host_role verb.1) (Err fault.Form))) r e in
    let begun : (t : List ℕ) → bytes_eq a.0.0 t ≡ true → t ∷ a.0.1 ≡ ws = λ t b. sym (part_ok ws a.0 a.1 ∙ ap (λ (w : List ℕ). w ∷ a.0.1) ((bytes_eq-Decides a.0.0 t).0 b)) in
    elim (chosen (bytes_eq a.0.0 (codes "runs")) (file_role a.0.1) (cond (bytes_eq a.0.0 (codes "hosts")) (host_role a.0.1) (Err fault.Form)) (Ok r) a.2) [
      | inl h ↦ subst (λ (x : List (List ℕ)). HasRole x r) (begun (codes "runs") h.0) (file_takes a.0.1 r h.1)
      | inr h ↦ let k = held (bytes_eq a.0.0 (codes "hosts")) (host_role a.0.1) fault.Form r h.1 in subst (λ (x : List (List ℕ)). HasRole x r) (begun (codes "hosts") k.0) (host_takes a.0.1 r k.1)
    ]

-- ---- lines

abbrev pub plan_form : Form → Role → PlanForm
plan_form f r = record { form = f; role = r }

-- the words of a process line
pub record PostWords (ws : List (List ℕ)) (i k : Number) (r : Role) : Type 0 where
  pub first : List ℕ
  pub second : List ℕ
  pub rest : List (List ℕ)
  pub words : ws ≡ codes "process" ∷ first ∷ codes "on" ∷ second ∷ rest
  pub one : number_of first ≡ Ok i
  pub two : number_of second ≡ Ok k
  pub role : HasRole rest r

-- the words of a line of a plan
abbrev pub PlanHas : List (List ℕ) → Form → Role → Type 0
PlanHas ws (Process i k) r = PostWords ws i k r
PlanHas ws (Version n) r = (r ≡ Plain) × Has 1 ws (Version n)
PlanHas ws (Kernels n) r = (r ≡ Plain) × Has 1 ws (Kernels n)
PlanHas ws (Wire i j) r = (r ≡ Plain) × Has 1 ws (Wire i j)
PlanHas ws f r = ⊥

with_takes : (w : List ℕ) (ws : List (List ℕ)) (f : PlanForm) → w ≡ codes "process" → with_role ws ≡ Ok f → PlanHas (w ∷ ws) f.form f.role
unfolding with_role
with_takes w ws f is e =
    let at = bind_ok (placed_at ws) (λ at. role_of at.1 >>= λ role. Ok (plan_form (Process at.0.0 at.0.1) role)) f e in
    let r = bind_ok (role_of at.0.1) (λ role. Ok (plan_form (Process at.0.0.0 at.0.0.1) role)) f at.2 in
    let p = placed_at_take ws at.0 at.1 in
    subst (λ (y : PlanForm). PlanHas (w ∷ ws) y.form y.role) (ok_is (plan_form (Process at.0.0.0 at.0.0.1) r.0) f r.2)
    (record {
      first = p.first;
      second = p.second;
      rest = at.0.1;
      words = begins (codes "process") w ws (p.first ∷ codes "on" ∷ p.second ∷ at.0.1) is p.words;
      one = p.one;
      two = p.two;
      role = role_takes at.0.1 r.0 r.1;
    })

without_takes : (k : Lead) (w : List ℕ) (ws : List (List ℕ)) (f : PlanForm) → ((x : Form) → led 1 k [] ws ≡ Ok x → PlanHas (w ∷ ws) x Plain) → without_role k ws ≡ Ok f → PlanHas (w ∷ ws) f.form f.role
unfolding without_role
without_takes k w ws f has e =
    let x = bind_ok (led 1 k [] ws) (λ x. Ok (plan_form x Plain)) f e in
    subst (λ (y : PlanForm). PlanHas (w ∷ ws) y.form y.role) (ok_is (plan_form x.0 Plain) f x.2) (has x.0 x.1)

version_takes : (w : List ℕ) (ws : List (List ℕ)) (x : Form) → w ≡ codes "version" → led 1 lead.Version [] ws ≡ Ok x → PlanHas (w ∷ ws) x Plain
unfolding led
version_takes w ws x is e =
    let n = bind_ok (one_number ws) (λ n. Ok (Version n)) x e in
    subst (λ (y : Form). PlanHas (w ∷ ws) y Plain) (ok_is (Version n.0) x n.2) (refl, led_has 1 lead.Version w ws (Version n.0) is (e ∙ sym n.2))

kernels_takes : (w : List ℕ) (ws : List (List ℕ)) (x : Form) → w ≡ codes "kernels" → led 1 lead.Kernels [] ws ≡ Ok x → PlanHas (w ∷ ws) x Plain
unfolding led
kernels_takes w ws x is e =
    let n = bind_ok (one_number ws) (λ n. Ok (Kernels n)) x e in
    subst (λ (y : Form). PlanHas (w ∷ ws) y Plain) (ok_is (Kernels n.0) x n.2) (refl, led_has 1 lead.Kernels w ws (Kernels n.0) is (e ∙ sym n.2))

wire_takes : (w : List ℕ) (ws : List (List ℕ)) (x : Form) → w ≡ codes "wire" → led 1 lead.Wire [] ws ≡ Ok x → PlanHas (w ∷ ws) x Plain
unfolding led
wire_takes w ws x is e =
    let n = bind_ok (two_numbers ws) (λ n. Ok (Wire n.0 n.1)) x e in
    subst (λ (y : Form). PlanHas (w ∷ ws) y Plain) (ok_is (Wire n.0.0 n.0.1) x n.2) (refl, led_has 1 lead.Wire w ws (Wire n.0.0 n.0.1) is (e ∙ sym n.2))

plan_led_has : (k : Lead) (w : List ℕ) (ws : List (List ℕ)) (f : PlanForm) → LeadIs w k → plan_led k ws ≡ Ok f → PlanHas (w ∷ ws) f.form f.role
plan_led_has lead.Version w ws f is e = without_takes lead.Version w ws f (λ x h. version_takes w ws x is h) e
plan_led_has lead.Kernels w ws f is e = without_takes lead.Kernels w ws f (λ x h. kernels_takes w ws x is h) e
plan_led_has lead.Process w ws f is e = with_takes w ws f is e
plan_led_has lead.Wire w ws f is e = without_takes lead.Wire w ws f (λ x h. wire_takes w ws x is h) e
plan_led_has lead.Take w ws f is e = absurd (not_ok f fault.Form e)
plan_led_has lead.Settle w ws f is e = absurd (not_ok f fault.Form e)
plan_led_has lead.Other w ws f is e = absurd (not_ok f fault.Form e)

pub plan_form_has : (ws : List (List ℕ)) (f : PlanForm) → plan_form_of ws ≡ Ok f → PlanHas ws f.form f.role
unfolding plan_form_of
plan_form_has ws f e =
    let a = bind_ok (part_at ws) (λ first. plan_led (lead_of first.0) first.1) f e in
    subst (λ (x : List (List ℕ)). PlanHas x f.form f.role) (sym (part_ok ws a.0 a.1)) (plan_led_has (lead_of a.0.0) a.0.0 a.0.1 f (lead_is a.0.0) a.2)

-- ---- who moves

free_ok : (hosts : List Hosting) (o : Option Pid) (moved : Pid) → free_process hosts o ≡ Ok moved → (o ≡ Some moved) × (list_any (is_of moved) hosts ≡ false)
free_ok hosts None moved e = absurd cc
free_ok hosts (Some p) moved e =
    elim (list_any (is_of p) hosts) as (λ b. list_any (is_of p) hosts ≡ b → cond b (Err ProcessIsNotFree) (Ok p) ≡ Ok moved → (Some p ≡ Some moved) × (list_any (is_of moved) hosts ≡ false)) [
      | true ↦ λ t x. absurd cc
      | false ↦ λ t x. let s = said_is p moved x in (ap Some s, subst (λ (q : Pid). list_any (is_of q) hosts ≡ false) s t)
    ] refl e

abbrev pid : ℕ → Pid
pid n = record { 0 = n }

abbrev as_some : Pid → Option Pid
as_some p = Some p

some_is : (p q : Pid) → as_some p ≡ as_some q → p ≡ q
some_is p q e = cc

known_ok : (g : Given) (x : Number) (moved : Pid) → known_process g x ≡ Some moved → (x ≡ Is moved.0) × (moved.0 < length g.homes)
known_ok g (Is n) moved e =
    elim (ltb n (length g.homes)) as (λ b. ltb n (length g.homes) ≡ b → cond b (as_some (pid n)) None ≡ as_some moved → (Is n ≡ Is moved.0) × (moved.0 < length g.homes)) [
      | true ↦ λ t x. let p : pid n ≡ moved = some_is (pid n) moved x in let same : n ≡ moved.0 = ap (λ (q : Pid). q.0) p in (ap Is same, omega (arith, same, ltb-true _ _ t))
      | false ↦ λ t x. absurd cc
    ] refl e
known_ok g Large moved e = absurd cc

-- the process that moves, where no rule fails
pub record IsFree (g : PlanGiven) (x : Number) (moved : Pid) : Type 0 where
  pub is : x ≡ Is moved.0
  pub before : moved.0 < length g.header.homes
  pub free : list_any (is_of moved) g.hosts ≡ false

pub hosted_ok : (g : PlanGiven) (x : Number) (moved : Pid) → hosted g x ≡ Ok moved → IsFree g x moved
unfolding hosted
hosted_ok g x moved e =
    elim (is_below x (length g.header.homes + 1)) as (λ b. cond (not b) (Err ProcessIsNotThere) (free_process g.hosts (known_process g.header x)) ≡ Ok moved → IsFree g x moved) [
      | true ↦ λ h. let f = free_ok g.hosts (known_process g.header x) moved h in let k = known_ok g.header x moved f.0 in record { is = k.0; before = k.1; free = f.1 }
      | false ↦ λ h. absurd cc
    ] e

-- ---- the text of a process line

pub runs_shape : (x y name : List ℕ) → codes "process" ++ 32 ∷ (x ++ 32 ∷ (codes "on" ++ 32 ∷ (y ++ 32 ∷ (codes "runs" ++ 32 ∷ name)))) ≡ (((codes "process " ++ x) ++ codes " on ") ++ y) ++ (codes " runs " ++ name)
runs_shape x y name = simp append_assoc

home_shape : (x y rest : List ℕ) → codes "process" ++ 32 ∷ (x ++ 32 ∷ (codes "on" ++ 32 ∷ (y ++ rest))) ≡ (((codes "process " ++ x) ++ codes " on ") ++ y) ++ rest
home_shape x y rest = simp append_assoc

host_shape : (p n : List ℕ) → 32 ∷ (codes "hosts" ++ 32 ∷ (p ++ 32 ∷ (codes "after" ++ 32 ∷ n))) ≡ ((codes " hosts " ++ p) ++ codes " after ") ++ n
host_shape p n = simp append_assoc

pub hosts_shape : (x y p n : List ℕ) → codes "process" ++ 32 ∷ (x ++ 32 ∷ (codes "on" ++ 32 ∷ (y ++ 32 ∷ (codes "hosts" ++ 32 ∷ (p ++ 32 ∷ (codes "after" ++ 32 ∷ n)))))) ≡ (((codes "process " ++ x) ++ codes " on ") ++ y) ++ (((codes " hosts " ++ p) ++ codes " after ") ++ n)
hosts_shape x y p n = home_shape x y (32 ∷ (codes "hosts" ++ 32 ∷ (p ++ 32 ∷ (codes "after" ++ 32 ∷ n)))) ∙ ap (λ (r : List ℕ). (((codes "process " ++ x) ++ codes " on ") ++ y) ++ r) (host_shape p n)

pub post_is : (g : PlanGiven) (m : Meaning) (text : List ℕ) (i k : Number) (r : Role) (p : Place) → PlanHas (words text) (Process i k) r → Lawful g.header (Process i k) → IsPlace g m r p → text ≡ post_text (length g.header.homes) (value k, p)
post_is g m text i k Plain p h l is = absurd h.role
post_is g m text i k (Runs name) p h l is =
    let ws = h.words ∙ ap (λ (ps : List (List ℕ)). codes "process" ∷ h.first ∷ codes "on" ∷ h.second ∷ ps) h.role.0 in
    let spelled : text ≡ post_text (length g.header.homes) (value k, place.Runs name) =
    line_is text (codes "process" ∷ h.first ∷ codes "on" ∷ h.second ∷ codes "runs" ∷ name ∷ []) ws ∙ runs_shape h.first h.second name ∙ rw (number_word h.first i (length g.header.homes) h.one l.0, number_word h.second k (value k) h.two l.2.is) refl in
    spelled ∙ ap (λ (q : Place). post_text (length g.header.homes) (value k, q)) (sym is)
post_is g m text i k (Hosts x n) p h l is =
    let r = h.role in
    let free = hosted_ok g x is.0 is.1 in
    let ws = h.words ∙ ap (λ (ps : List (List ℕ)). codes "process" ∷ h.first ∷ codes "on" ∷ h.second ∷ ps) r.2 in
    let spelled : text ≡ post_text (length g.header.homes) (value k, place.Hosts is.0 n) =
    line_is text (codes "process" ∷ h.first ∷ codes "on" ∷ h.second ∷ codes "hosts" ∷ r.0 ∷ codes "after" ∷ r.1 ∷ []) ws ∙ hosts_shape h.first h.second r.0 r.1
    ∙ rw (number_word h.first i (length g.header.homes) h.one l.0, number_word h.second k (value k) h.two l.2.is, number_word r.0 x is.0.0 r.3 free.is, (below_takes (2 ^ 32) r.1 n r.4).0) refl in
    spelled ∙ ap (λ (q : Place). post_text (length g.header.homes) (value k, q)) (sym is.2)
