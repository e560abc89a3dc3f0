-- The lines that were read spell what was read.
use Rattle.std.proofs.Common.{◌≡◌, ◌⊎◌, ℕ, ◌+◌, ◌<◌, ◌≤◌, ◌^◌, Bool, true, false, cond, leb, ◌||◌, List, [], ◌∷◌, ◌++◌, length, map, Option, Some, None, Result, Ok, Err, IfOk, refl, sym, ap, subst, ◌∙◌, append_assoc, inl, inr, arith}
use Rattle.std.specs.List.{All}
use Rattle.std.proofs.lemmas.Bool.{leb-false, or_parts}
use Rattle.std.proofs.lemmas.List.{append-nil, length-append, map_push, length-map}
use Rattle.std.proofs.lemmas.List.Elements.{All-nil, All-push, All-same, All-append, All-from_recursion}
use Rattle.charlotte_calls.specs.declared.names.Pid.{Pid}
use Rattle.charlotte_calls.specs.declared.setting.Setting.{Setting}
use Rattle.charlotte_calls.specs.Setting.{IsValid}
use Rattle.charlotte_text.specs.declared.number.Number.{Number}
use Rattle.charlotte_text.specs.Reading.{parts, words}
use Rattle.charlotte_text.proofs.Numbers.{below_takes}
use Rattle.lynx_plan.specs.declared.stage.Stage.{Stage}
use Rattle.lynx_plan.specs.declared.stage.Stage.TheVariants as stage
use Rattle.lynx_plan.specs.declared.form.Form.{Form}
use Rattle.lynx_plan.specs.declared.form.Form.TheVariants.{Version, Kernels, Process, Wire, Ask, LongAsk, Take, Settle}
use Rattle.lynx_plan.specs.declared.meaning.Meaning.{Meaning}
use Rattle.lynx_plan.specs.declared.meaning.Meaning.TheVariants as meaning
use Rattle.lynx_plan.specs.declared.rule.Rule.{Rule}
use Rattle.lynx_plan.specs.declared.rule.Rule.TheVariants.{WiresAreTooMany, ProcessIsNotFree}
use Rattle.lynx_plan.specs.declared.fault.PlanFault.{PlanFault}
use Rattle.lynx_plan.specs.Given.{Given}
use Rattle.lynx_plan.specs.Rules.{allows, value, meaning_of, with_meaning}
use Rattle.lynx_plan.specs.Reading.{Gives, has_kernels, script_given}
use Rattle.lynx_plan.specs.ScriptText.{standing, version_text, kernels_text, wire_text}
use Rattle.lynx_plan.proofs.Lawful.{Lawful, passed, passes_from}
use Rattle.lynx_plan.proofs.Lines.{Line, Keeps, Whole, whole_from, whole_kept}
use Rattle.lynx_plan.proofs.Sound.{Sound, sound_nothing, valid_given, process_stage, wire_after}
use Rattle.lynx_plan.proofs.Spelled.{version_stage, kernels_stage}
use Rattle.lynx_plan.proofs.Words.{text_has}
use Rattle.plan_text.specs.declared.plan.Plan.{Plan}
use Rattle.plan_text.specs.declared.plan.Hosting.{Hosting}
use Rattle.plan_text.specs.declared.form.Role.{Role}
use Rattle.plan_text.specs.declared.form.Role.TheVariants.{Plain, Runs, Hosts}
use Rattle.plan_text.specs.declared.rules.Place.{Place}
use Rattle.plan_text.specs.declared.rules.Place.TheVariants as place
use Rattle.plan_text.specs.Given.{PlanGiven, nothing_planned}
use Rattle.plan_text.specs.Rules.{is_host, wire_rule, plain_rule, with_place, with_header, with_line}
use Rattle.plan_text.specs.Reading.{carrier, plan_given, plan_reader, plan_of}
use Rattle.plan_text.specs.PlanText.{Post, post_text, post_texts, file_of, files_of, hosts_of, host_of, FitsPlace, FitPosts, NamesNoHost, IsBegun, IsPlanText, texts_of}
use Rattle.plan_text.proofs.Posts.{post_texts_push, files_push, hosts_push, fit_push, hosts_few, Joined, hosts_join, with_post, post_adds}
use Rattle.plan_text.proofs.Shapes.{HasRole, PlanHas, plan_form_has, hosted_ok, post_is}
use Rattle.plan_text.proofs.Steps.{IsPlace, Says, says_from, sound_said}

abbrev setting_of : Given → Setting
setting_of h = (script_given h).setting

-- the first lines, of a plan that may go on
abbrev Begins : Given → Stage → List (List ℕ) → Type 0
Begins h stage.Start texts = (texts ≡ []) × (h.version ≡ 1)
Begins h stage.Named texts = texts ≡ version_text h.version ∷ []
Begins h s texts = IsBegun texts (setting_of h)

-- what was not read yet is empty; there are no calls
abbrev Empty : Given → List Line → List Post → List Line → Stage → Type 0
Empty h posted posts wired stage.Start = (posted ≡ []) × (posts ≡ []) × (wired ≡ []) × (h.wires ≡ [])
Empty h posted posts wired stage.Named = (posted ≡ []) × (posts ≡ []) × (wired ≡ []) × (h.wires ≡ [])
Empty h posted posts wired stage.Processes = (wired ≡ []) × (h.wires ≡ [])
Empty h posted posts wired stage.Wires = Unit {0}
Empty h posted posts wired stage.Calls = Unit {0}

record Reads (g : PlanGiven) (all : List Line) : Type 0 where
  first : List Line
  posted : List Line
  wired : List Line
  lines : all ≡ first ++ (posted ++ wired)
  begins : Begins g.header g.header.stage (texts_of first)
  posts : List Post
  post_lines : texts_of posted ≡ post_texts 0 posts
  numbers : g.lines ≡ map (λ l. l.0) posted
  homes : g.header.homes ≡ map (λ x. x.0) posts
  files : g.files ≡ files_of posts
  hosts : g.hosts ≡ hosts_of 0 posts
  fit : FitPosts [] 0 posts
  wire_lines : texts_of wired ≡ map wire_text g.header.wires
  unhosted : All (NamesNoHost g.hosts) g.header.wires
  count : length g.header.wires + length g.hosts ≤ 4096
  empty : Empty g.header posted posts wired g.header.stage

reads_nothing : Reads nothing_planned []
reads_nothing = record {
  first = [];
  posted = [];
  wired = [];
  lines = refl;
  begins = (refl, refl);
  posts = [];
  post_lines = refl;
  numbers = refl;
  homes = refl;
  files = refl;
  hosts = refl;
  fit = tt;
  wire_lines = refl;
  unhosted = All-nil (NamesNoHost []);
  count = omega arith;
  empty = (refl, refl, refl, refl);
}

-- ---- one more line, in its part

first_push : (all first posted wired : List Line) (l : Line) → all ≡ first ++ (posted ++ wired) → posted ≡ [] → wired ≡ [] → all ++ l ∷ [] ≡ (first ++ l ∷ []) ++ (posted ++ wired)
first_push all first posted wired l e p w =
    let none : posted ++ wired ≡ [] = ap (λ (x : List Line). x ++ wired) p ∙ w in
    let same : all ≡ first = e ∙ ap (λ (x : List Line). first ++ x) none ∙ append-nil first in
    ap (λ (x : List Line). x ++ l ∷ []) same ∙ sym (append-nil (first ++ l ∷ [])) ∙ ap (λ (x : List Line). (first ++ l ∷ []) ++ x) (sym none)

posted_push : (all first posted wired : List Line) (l : Line) → all ≡ first ++ (posted ++ wired) → wired ≡ [] → all ++ l ∷ [] ≡ first ++ ((posted ++ l ∷ []) ++ wired)
posted_push all first posted wired l e w =
    let same : all ≡ first ++ posted = e ∙ ap (λ (x : List Line). first ++ (posted ++ x)) w ∙ ap (λ (x : List Line). first ++ x) (append-nil posted) in
    ap (λ (x : List Line). x ++ l ∷ []) same ∙ append_assoc first posted (l ∷ []) ∙ ap (λ (x : List Line). first ++ x) (sym (append-nil (posted ++ l ∷ []))) ∙ ap (λ (x : List Line). first ++ ((posted ++ l ∷ []) ++ x)) (sym w)

wired_push : (all first posted wired : List Line) (l : Line) → all ≡ first ++ (posted ++ wired) → all ++ l ∷ [] ≡ first ++ (posted ++ (wired ++ l ∷ []))
wired_push all first posted wired l e = ap (λ (x : List Line). x ++ l ∷ []) e ∙ append_assoc first (posted ++ wired) (l ∷ []) ∙ ap (λ (x : List Line). first ++ x) (append_assoc posted wired (l ∷ []))

no_wires : (hosts : List Hosting) (ws : List (Pid × Pid)) → ws ≡ [] → All (NamesNoHost hosts) ws
no_wires hosts ws e = All-same (NamesNoHost hosts) ws [] e (All-nil (NamesNoHost hosts))

reads_version : (line : ℕ) (g : PlanGiven) (v : ℕ) (text : List ℕ) (all : List Line) → g.header.stage ≡ stage.Start → text ≡ version_text v → Reads g all → Reads (record g { header = record g.header { version = v; stage = stage.Named } }) (all ++ (line, text) ∷ [])
reads_version line g v text all s t r =
    let o : Begins g.header stage.Start (texts_of r.first) = subst (λ (x : Stage). Begins g.header x (texts_of r.first)) s r.begins in
    let e : Empty g.header r.posted r.posts r.wired stage.Start = subst (Empty g.header r.posted r.posts r.wired) s r.empty in
    record {
      first = r.first ++ (line, text) ∷ [];
      posted = r.posted;
      wired = r.wired;
      lines = first_push all r.first r.posted r.wired (line, text) r.lines e.0 e.2;
      begins = map_push (λ (l : Line). l.1) r.first (line, text) ∙ ap (λ (x : List (List ℕ)). x ++ text ∷ []) o.0 ∙ ap (λ (x : List ℕ). x ∷ []) t;
      posts = r.posts;
      post_lines = r.post_lines;
      numbers = r.numbers;
      homes = r.homes;
      files = r.files;
      hosts = r.hosts;
      fit = r.fit;
      wire_lines = r.wire_lines;
      unhosted = r.unhosted;
      count = r.count;
      empty = e;
    }

kernels_begun : (g : PlanGiven) (line k : ℕ) (text : List ℕ) (first : List Line) → (g.header.stage ≡ stage.Start) ⊎ (g.header.stage ≡ stage.Named) → text ≡ kernels_text k → Begins g.header g.header.stage (texts_of first)
    → IsBegun (texts_of (first ++ (line, text) ∷ [])) (setting_of (record g.header { kernels = k; stage = stage.Processes }))
kernels_begun g line k text first (inl s) t b =
    let o : Begins g.header stage.Start (texts_of first) = subst (λ (x : Stage). Begins g.header x (texts_of first)) s b in
    inr (o.1, map_push (λ (l : Line). l.1) first (line, text) ∙ ap (λ (x : List (List ℕ)). x ++ text ∷ []) o.0 ∙ ap (λ (x : List ℕ). x ∷ []) t)
kernels_begun g line k text first (inr s) t b =
    let o : Begins g.header stage.Named (texts_of first) = subst (λ (x : Stage). Begins g.header x (texts_of first)) s b in
    inl (map_push (λ (l : Line). l.1) first (line, text) ∙ ap (λ (x : List (List ℕ)). x ++ text ∷ []) o ∙ ap (λ (x : List ℕ). version_text g.header.version ∷ x ∷ []) t)

all_empty : (h : Given) (posted : List Line) (posts : List Post) (wired : List Line) (s : Stage) → (s ≡ stage.Start) ⊎ (s ≡ stage.Named) → Empty h posted posts wired s → (posted ≡ []) × (posts ≡ []) × (wired ≡ []) × (h.wires ≡ [])
all_empty h posted posts wired s (inl e) x = subst (Empty h posted posts wired) e x
all_empty h posted posts wired s (inr e) x = subst (Empty h posted posts wired) e x

reads_kernels : (line : ℕ) (g : PlanGiven) (k : ℕ) (text : List ℕ) (all : List Line) → (g.header.stage ≡ stage.Start) ⊎ (g.header.stage ≡ stage.Named) → text ≡ kernels_text k → Reads g all
    → Reads (record g { header = record g.header { kernels = k; stage = stage.Processes } }) (all ++ (line, text) ∷ [])
reads_kernels line g k text all s t r =
    let e = all_empty g.header r.posted r.posts r.wired g.header.stage s r.empty in
    record {
      first = r.first ++ (line, text) ∷ [];
      posted = r.posted;
      wired = r.wired;
      lines = first_push all r.first r.posted r.wired (line, text) r.lines e.0 e.2;
      begins = kernels_begun g line k text r.first s t r.begins;
      posts = r.posts;
      post_lines = r.post_lines;
      numbers = r.numbers;
      homes = r.homes;
      files = r.files;
      hosts = r.hosts;
      fit = r.fit;
      wire_lines = r.wire_lines;
      unhosted = r.unhosted;
      count = r.count;
      empty = (e.2, e.3);
    }

reads_post : (line : ℕ) (g : PlanGiven) (k : ℕ) (p : Place) (text : List ℕ) (all : List Line) → g.header.stage ≡ stage.Processes → length g.header.homes < 64 → text ≡ post_text (length g.header.homes) (k, p)
    → FitsPlace g.hosts (length g.header.homes) p → Reads g all → Reads (with_post line g k p) (all ++ (line, text) ∷ [])
reads_post line g k p text all s few t fits r =
    let h : Given = record g.header { homes = g.header.homes ++ k ∷ [] } in
    let o : IsBegun (texts_of r.first) (setting_of g.header) = subst (λ (x : Stage). Begins g.header x (texts_of r.first)) s r.begins in
    let e : Empty g.header r.posted r.posts r.wired stage.Processes = subst (Empty g.header r.posted r.posts r.wired) s r.empty in
    let n : length g.header.homes ≡ 0 + length r.posts = omega (arith, ap length r.homes, length-map r.posts (λ (x : Post). x.0)) in
    let posts : List Post = r.posts ++ (k, p) ∷ [] in
    let hosts : g.hosts ++ host_of (length g.header.homes) p ≡ hosts_of 0 posts =
    ap (λ (x : List Hosting). x ++ host_of (length g.header.homes) p) r.hosts ∙ ap (λ (m : ℕ). hosts_of 0 r.posts ++ host_of m p) n ∙ sym (hosts_push 0 r.posts (k, p)) in
    let here : FitsPlace (hosts_of 0 r.posts) (0 + length r.posts) p = subst (λ (m : ℕ). FitsPlace (hosts_of 0 r.posts) m p) n (subst (λ (x : List Hosting). FitsPlace x (length g.header.homes) p) r.hosts fits) in
    let begun : Begins h stage.Processes (texts_of r.first) = o in
    let emptied : Empty h (r.posted ++ (line, text) ∷ []) posts r.wired stage.Processes = e in
    record {
      first = r.first;
      posted = r.posted ++ (line, text) ∷ [];
      wired = r.wired;
      lines = posted_push all r.first r.posted r.wired (line, text) r.lines e.0;
      begins = subst (λ (x : Stage). Begins h x (texts_of r.first)) (sym s) begun;
      posts = posts;
      post_lines =
          map_push (λ (l : Line). l.1) r.posted (line, text) ∙ ap (λ (x : List (List ℕ)). x ++ text ∷ []) r.post_lines ∙ ap (λ (x : List ℕ). post_texts 0 r.posts ++ x ∷ []) (t ∙ ap (λ (m : ℕ). post_text m (k, p)) n)
          ∙ sym (post_texts_push 0 r.posts (k, p));
      numbers = ap (λ (x : List ℕ). x ++ line ∷ []) r.numbers ∙ sym (map_push (λ (l : Line). l.0) r.posted (line, text));
      homes = ap (λ (x : List ℕ). x ++ k ∷ []) r.homes ∙ sym (map_push (λ (x : Post). x.0) r.posts (k, p));
      files = ap (λ (x : List (List ℕ)). x ++ file_of p) r.files ∙ sym (files_push r.posts (k, p));
      hosts = hosts;
      fit = fit_push [] 0 r.posts (k, p) r.fit here;
      wire_lines = r.wire_lines;
      unhosted = no_wires (g.hosts ++ host_of (length g.header.homes) p) g.header.wires e.1;
      count = omega (arith, ap length e.1, ap length hosts, hosts_few 0 posts, length-append r.posts ((k, p) ∷ []), n);
      empty = subst (Empty h (r.posted ++ (line, text) ∷ []) posts r.wired) (sym s) emptied;
    }

whole_begun : (h : Given) (s : Stage) (texts : List (List ℕ)) → has_kernels s ≡ true → Begins h s texts → IsBegun texts (setting_of h)
whole_begun h stage.Start texts e b = absurd cc
whole_begun h stage.Named texts e b = absurd cc
whole_begun h stage.Processes texts e b = b
whole_begun h stage.Wires texts e b = b
whole_begun h stage.Calls texts e b = b

reads_wire : (line : ℕ) (g : PlanGiven) (w : Pid × Pid) (text : List ℕ) (all : List Line) → has_kernels g.header.stage ≡ true → length g.header.wires + length g.hosts < 4096 → NamesNoHost g.hosts w → text ≡ wire_text w → Reads g all
    → Reads (record g { header = record g.header { wires = g.header.wires ++ w ∷ []; stage = stage.Wires } }) (all ++ (line, text) ∷ [])
reads_wire line g w text all s few apart t r = record {
  first = r.first;
  posted = r.posted;
  wired = r.wired ++ (line, text) ∷ [];
  lines = wired_push all r.first r.posted r.wired (line, text) r.lines;
  begins = whole_begun g.header g.header.stage (texts_of r.first) s r.begins;
  posts = r.posts;
  post_lines = r.post_lines;
  numbers = r.numbers;
  homes = r.homes;
  files = r.files;
  hosts = r.hosts;
  fit = r.fit;
  wire_lines =
      map_push (λ (l : Line). l.1) r.wired (line, text) ∙ ap (λ (x : List (List ℕ)). x ++ text ∷ []) r.wire_lines ∙ ap (λ (x : List ℕ). map wire_text g.header.wires ++ x ∷ []) t ∙ sym (map_push wire_text g.header.wires w);
  unhosted = All-push (NamesNoHost g.hosts) g.header.wires w r.unhosted apart;
  count = omega (arith, length-append g.header.wires (w ∷ []));
  empty = tt;
}

-- ---- one line that fails no rule

wire_none : (g : PlanGiven) (p q : Pid) → wire_rule g p q ≡ None → (length g.header.wires + length g.hosts < 4096) × NamesNoHost g.hosts (p, q)
unfolding wire_rule
wire_none g p q e =
    let a = passed (leb 4096 (length g.header.wires + length g.hosts)) WiresAreTooMany (cond (is_host g.hosts p || is_host g.hosts q) (Some ProcessIsNotFree) None) e in
    let b = passed (is_host g.hosts p || is_host g.hosts q) ProcessIsNotFree None a.1 in
    (leb-false _ _ a.0, or_parts (is_host g.hosts p) (is_host g.hosts q) b.0)

place_fits : (g : PlanGiven) (m : Meaning) (ws : List (List ℕ)) (r : Role) (p : Place) → HasRole ws r → IsPlace g m r p → FitsPlace g.hosts (length g.header.homes) p
place_fits g m ws Plain p has is = absurd has
place_fits g m ws (Runs name) p has is = subst (FitsPlace g.hosts (length g.header.homes)) (sym is) has.1
place_fits g m ws (Hosts x n) p has is =
    let f = hosted_ok g x is.0 is.1 in
    subst (FitsPlace g.hosts (length g.header.homes)) (sym is.2) (f.before, f.free, (below_takes (2 ^ 32) has.1 n has.4).1)

-- a line that is no process line
plainly : (g : PlanGiven) (m : Meaning) (r : Role) (p : Place) → r ≡ Plain → IsPlace g m r p → (plain_rule g m ≡ None) × (p ≡ place.Plain)
plainly g m r p e is = subst (λ (x : Role). IsPlace g m x p) e is

reads_form : (line : ℕ) (g : PlanGiven) (f : Form) (r : Role) (p : Place) (text : List ℕ) (all : List Line) → allows f g.header.stage ≡ true → Lawful g.header f → PlanHas (words text) f r → IsPlace g (meaning_of f) r p → Reads g all
    → Reads (with_line line g (meaning_of f, p)) (all ++ (line, text) ∷ [])
unfolding with_place with_header with_meaning
reads_form line g (Version n) r p text all a l has is k =
    subst (λ (x : Place). Reads (with_line line g (meaning.Version (value n), x)) (all ++ (line, text) ∷ [])) (sym (plainly g (meaning.Version (value n)) r p has.0 is).1)
    (reads_version line g (value n) text all (version_stage n g.header.stage a) (text_has g.header 1 text (Version n) has.1 l) k)
reads_form line g (Kernels n) r p text all a l has is k =
    subst (λ (x : Place). Reads (with_line line g (meaning.Kernels (value n), x)) (all ++ (line, text) ∷ [])) (sym (plainly g (meaning.Kernels (value n)) r p has.0 is).1)
    (reads_kernels line g (value n) text all (kernels_stage n g.header.stage a) (text_has g.header 1 text (Kernels n) has.1 l) k)
reads_form line g (Process i j) r p text all a l has is k =
    let m : Meaning = meaning.Process (value j) in
    let fits = place_fits g m has.rest r p has.role is in
    subst (λ (x : PlanGiven). Reads x (all ++ (line, text) ∷ [])) (sym (post_adds line g g.hosts (length g.header.homes) (value j) p fits))
    (reads_post line g (value j) p text all (process_stage i j g.header.stage a) l.1 (post_is g m text i j r p has l is) fits k)
reads_form line g (Wire i j) r p text all a l has is k =
    let w : Pid × Pid = (record { 0 = value i }, record { 0 = value j }) in
    let q = plainly g (meaning.Wire w.0 w.1) r p has.0 is in
    let n = wire_none g w.0 w.1 q.0 in
    subst (λ (x : Place). Reads (with_line line g (meaning.Wire w.0 w.1, x)) (all ++ (line, text) ∷ [])) (sym q.1)
    (reads_wire line g w text all (wire_after i j g.header.stage a) n.0 n.1 (text_has g.header 1 text (Wire i j) has.1 l) k)
reads_form line g (Ask i call) r p text all a l has is k = absurd has
reads_form line g (LongAsk i) r p text all a l has is k = absurd has
reads_form line g (Take i j) r p text all a l has is k = absurd has
reads_form line g Settle r p text all a l has is k = absurd has

reads_said : (line : ℕ) (g h : PlanGiven) (text : List ℕ) (all : List Line) → Says line g h text → Reads g all → Reads h (all ++ (line, text) ∷ [])
reads_said line g h text all says r =
    let f = says.form in
    let p = passes_from g.header f.form says.said says.stands in
    let is : IsPlace g (meaning_of f.form) f.role says.gets = subst (λ (x : Meaning). IsPlace g x f.role says.gets) (sym p.says) says.fits in
    subst (λ (x : PlanGiven). Reads x (all ++ (line, text) ∷ [])) (ap (λ (m : Meaning). with_line line g (m, says.gets)) p.says ∙ says.adds)
    (reads_form line g f.form f.role says.gets text all p.stands p.lawful (plan_form_has (words text) f says.read) is r)

-- ---- whole texts

abbrev Kept : PlanGiven → List Line → Type 0
Kept g all = Reads g all × Sound g.header

kept_line : Keeps plan_reader Kept
kept_line n g h text all e k = let says = says_from n g h text e in (reads_said n g h text all says k.0, sound_said n g h text says k.1)

plan_valid_given : (g : PlanGiven) (all : List Line) → Reads g all → Sound g.header → has_kernels g.header.stage ≡ true → IsValid (plan_given g).setting
plan_valid_given g all r s k =
    let v = valid_given g.header s k in
    let n : 0 + length r.posts ≤ length g.header.homes = omega (arith, ap length r.homes, length-map r.posts (λ (x : Post). x.0)) in
    record {
      limits = record { version = v.limits.version; some_kernel = v.limits.some_kernel; kernels = v.limits.kernels; processes = v.limits.processes; wires = omega (arith, r.count, length-append g.header.wires (map carrier g.hosts), length-map g.hosts carrier) };
      homes = v.homes;
      wires =
          All-append (λ w. (w.0.0 < length g.header.homes) × (w.1.0 < length g.header.homes)) g.header.wires (map carrier g.hosts) v.wires
          (All-from_recursion (λ w. (w.0.0 < length g.header.homes) × (w.1.0 < length g.header.homes)) (map carrier g.hosts) (subst (Joined (length g.header.homes)) (sym r.hosts) (hosts_join [] 0 r.posts (length g.header.homes) r.fit n)));
    }

spelled_whole : (bytes : List ℕ) (p : Plan) → Whole plan_reader bytes p → IsPlanText bytes p
spelled_whole bytes p w =
    let g : PlanGiven = w.said in
    let both = whole_kept plan_reader Kept kept_line (reads_nothing, sound_nothing) bytes p w in
    let r : Reads g (standing 1 (parts 10 bytes)) = both.0 in
    subst (IsPlanText bytes) w.whole (record {
      first = r.first;
      posted = r.posted;
      wired = r.wired;
      lines = r.lines;
      begun = whole_begun g.header g.header.stage (texts_of r.first) w.ended r.begins;
      posts = r.posts;
      post_lines = r.post_lines;
      numbers = r.numbers;
      homes = r.homes;
      files = r.files;
      hosts = r.hosts;
      fit = r.fit;
      wires = g.header.wires;
      wire_lines = r.wire_lines;
      carried = refl;
      unhosted = r.unhosted;
      valid = plan_valid_given g (standing 1 (parts 10 bytes)) r both.1 w.ended;
    })

pub plan_spelled : (bytes : List ℕ) (p : Plan) → plan_of bytes ≡ Ok p → IsPlanText bytes p
plan_spelled bytes p e = spelled_whole bytes p (whole_from plan_reader bytes p e)

pub plan_found : (bytes : List ℕ) (r : Result Plan PlanFault) → Gives r (plan_of bytes) → IfOk r (IsPlanText bytes)
plan_found bytes (Ok p) g = plan_spelled bytes p g
plan_found bytes (Err e) g = tt

pub plan_valid : (bytes : List ℕ) (r : Result Plan PlanFault) → Gives r (plan_of bytes) → IfOk r (λ p. IsValid p.setting)
plan_valid bytes (Ok p) g = (plan_spelled bytes p g).valid
plan_valid bytes (Err e) g = tt
