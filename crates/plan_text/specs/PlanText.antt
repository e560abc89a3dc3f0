-- Plans as texts: the lines of a text, and the plan that they spell.
use Rattle.std.specs.Prelude.{◌≡◌, ◌⊎◌, ◌<◌, ℕ, ◌+◌, ◌^◌, List, [], ◌∷◌, ◌++◌, true, false, All, map, codes}
use Rattle.std.specs.List.{list_any}
use Rattle.charlotte_calls.specs.declared.names.Pid.{Pid}
use Rattle.charlotte_calls.specs.declared.setting.Setting.{Setting}
use Rattle.charlotte_calls.specs.Setting.{IsValid}
use Rattle.charlotte_text.specs.Spelling.{number_text, line_feed}
use Rattle.charlotte_text.specs.Reading.{parts}
use Rattle.lynx_plan.specs.ScriptText.{standing, version_text, kernels_text, home_text, wire_text}
use Rattle.plan_text.specs.declared.plan.Plan.{Plan}
use Rattle.plan_text.specs.declared.plan.Hosting.{Hosting}
use Rattle.plan_text.specs.declared.rules.Place.{Place}
use Rattle.plan_text.specs.declared.rules.Place.TheVariants.{Plain, Runs, Hosts}
use Rattle.plan_text.specs.Forms.{is_name}
use Rattle.plan_text.specs.Rules.{is_of, is_host}
use Rattle.plan_text.specs.Reading.{carrier}

-- a process: its kernel, and what it is
abbrev pub Post : Type 0
Post = ℕ × Place

-- what a process line says behind the kernel
abbrev pub place_text : Place → List ℕ
place_text Plain = []
place_text (Runs name) = codes " runs " ++ name
place_text (Hosts p n) = codes " hosts " ++ number_text p.0 ++ codes " after " ++ number_text n

abbrev pub post_text : ℕ → Post → List ℕ
post_text i x = home_text i x.0 ++ place_text x.1

-- the process lines, from process i on
abbrev pub post_texts : ℕ → List Post → List (List ℕ)
post_texts i [] = []
post_texts i (x ∷ xs) = post_text i x ∷ post_texts (i + 1) xs

-- the files of those that run one
abbrev pub file_of : Place → List (List ℕ)
file_of (Runs name) = name ∷ []
file_of p = []

abbrev pub files_of : List Post → List (List ℕ)
files_of [] = []
files_of (x ∷ xs) = file_of x.1 ++ files_of xs

-- the hosts, from process i on
abbrev pub host_of : ℕ → Place → List Hosting
host_of i (Hosts p n) = record { host = record { 0 = i }; moved = p; after = n } ∷ []
host_of i p = []

abbrev pub hosts_of : ℕ → List Post → List Hosting
hosts_of i [] = []
hosts_of i (x ∷ xs) = host_of i x.1 ++ hosts_of (i + 1) xs

-- a place that process i can have behind these hosts: it runs a file of some name, or is host of an earlier process that is no host and has none
abbrev pub FitsPlace : List Hosting → ℕ → Place → Type 0
FitsPlace before i Plain = ⊥
FitsPlace before i (Runs name) = is_name name ≡ true
FitsPlace before i (Hosts p n) = (p.0 < i) × (list_any (is_of p) before ≡ false) × (n < 2 ^ 32)

abbrev pub FitPosts : List Hosting → ℕ → List Post → Type 0
FitPosts before i [] = Unit {0}
FitPosts before i (x ∷ xs) = FitsPlace before i x.1 × FitPosts (before ++ host_of i x.1) (i + 1) xs

-- a wire that names no host
abbrev pub NamesNoHost : List Hosting → Pid × Pid → Type 0
NamesNoHost hosts w = (is_host hosts w.0 ≡ false) × (is_host hosts w.1 ≡ false)

-- a plan may begin with its version; without that line the version is 1
abbrev pub IsBegun : List (List ℕ) → Setting → Type 0
IsBegun texts s = (texts ≡ version_text s.version ∷ kernels_text s.kernels ∷ []) ⊎ ((s.version ≡ 1) × (texts ≡ kernels_text s.kernels ∷ []))

abbrev pub texts_of : List (ℕ × List ℕ) → List (List ℕ)
texts_of ls = map (λ l. l.1) ls

-- the text spells the plan: its lines are those of the version and the kernels, of the processes, and of the wires
pub record IsPlanText (bytes : List ℕ) (p : Plan) : Type 0 where
  pub first : List (ℕ × List ℕ)
  pub posted : List (ℕ × List ℕ)
  pub wired : List (ℕ × List ℕ)
  pub lines : standing 1 (parts line_feed bytes) ≡ first ++ (posted ++ wired)
  pub begun : IsBegun (texts_of first) p.setting
  -- the processes
  pub posts : List Post
  pub post_lines : texts_of posted ≡ post_texts 0 posts
  pub numbers : p.lines ≡ map (λ l. l.0) posted
  pub homes : p.setting.homes ≡ map (λ x. x.0) posts
  pub files : p.files ≡ files_of posts
  pub hosts : p.hosts ≡ hosts_of 0 posts
  pub fit : FitPosts [] 0 posts
  -- the wires, and behind them one for each host
  pub wires : List (Pid × Pid)
  pub wire_lines : texts_of wired ≡ map wire_text wires
  pub carried : p.setting.wires ≡ wires ++ map carrier p.hosts
  pub unhosted : All (NamesNoHost p.hosts) wires
  pub valid : IsValid p.setting
