-- Lists of processes, as their lines add them.
use Rattle.std.proofs.Common.{◌≡◌, ℕ, ◌+◌, ◌<◌, ◌≤◌, ◌^◌, true, false, List, [], ◌∷◌, ◌++◌, length, map, refl, sym, ap, subst, ◌∙◌, append_assoc, arith}
use Rattle.std.specs.List.{list_any, AllByRecursion}
use Rattle.std.proofs.lemmas.List.{append-nil, length-append}
use Rattle.charlotte_calls.specs.declared.names.Pid.{Pid}
use Rattle.lynx_plan.specs.declared.meaning.Meaning.TheVariants as meaning
use Rattle.lynx_plan.specs.Rules.{with_meaning}
use Rattle.plan_text.specs.declared.plan.Hosting.{Hosting}
use Rattle.plan_text.specs.declared.rules.Place.{Place}
use Rattle.plan_text.specs.declared.rules.Place.TheVariants.{Plain, Runs, Hosts}
use Rattle.plan_text.specs.Given.{PlanGiven}
use Rattle.plan_text.specs.Rules.{is_of, with_place, with_header, with_line}
use Rattle.plan_text.specs.Reading.{carrier}
use Rattle.plan_text.specs.PlanText.{Post, post_text, post_texts, file_of, files_of, host_of, hosts_of, FitsPlace, FitPosts}

pub post_texts_push : (i : ℕ) (xs : List Post) (x : Post) → post_texts i (xs ++ x ∷ []) ≡ post_texts i xs ++ post_text (i + length xs) x ∷ []
post_texts_push i [] x = ap (λ (n : ℕ). post_text n x ∷ []) (omega arith)
post_texts_push i (y ∷ xs) x =
    let n : (i + 1) + length xs ≡ i + length (y ∷ xs) = omega arith in
    ap (λ (ts : List (List ℕ)). post_text i y ∷ ts) (post_texts_push (i + 1) xs x ∙ ap (λ (m : ℕ). post_texts (i + 1) xs ++ post_text m x ∷ []) n)

pub files_push : (xs : List Post) (x : Post) → files_of (xs ++ x ∷ []) ≡ files_of xs ++ file_of x.1
files_push [] x = append-nil (file_of x.1)
files_push (y ∷ xs) x = ap (λ (fs : List (List ℕ)). file_of y.1 ++ fs) (files_push xs x) ∙ sym (append_assoc (file_of y.1) (files_of xs) (file_of x.1))

pub hosts_push : (i : ℕ) (xs : List Post) (x : Post) → hosts_of i (xs ++ x ∷ []) ≡ hosts_of i xs ++ host_of (i + length xs) x.1
hosts_push i [] x = append-nil (host_of i x.1) ∙ ap (λ (n : ℕ). host_of n x.1) (omega arith)
hosts_push i (y ∷ xs) x =
    let n : (i + 1) + length xs ≡ i + length (y ∷ xs) = omega arith in
    ap (λ (hs : List Hosting). host_of i y.1 ++ hs) (hosts_push (i + 1) xs x ∙ ap (λ (m : ℕ). hosts_of (i + 1) xs ++ host_of m x.1) n)
    ∙ sym (append_assoc (host_of i y.1) (hosts_of (i + 1) xs) (host_of (i + length (y ∷ xs)) x.1))

pub fit_push : (before : List Hosting) (i : ℕ) (xs : List Post) (x : Post) → FitPosts before i xs → FitsPlace (before ++ hosts_of i xs) (i + length xs) x.1 → FitPosts before i (xs ++ x ∷ [])
fit_push before i [] x fit last =
    let n : i + 0 ≡ i = omega arith in
    (subst (λ (m : ℕ). FitsPlace before m x.1) n (subst (λ (hs : List Hosting). FitsPlace hs (i + 0) x.1) (append-nil before) last), tt)
fit_push before i (y ∷ xs) x fit last =
    let n : i + length (y ∷ xs) ≡ (i + 1) + length xs = omega arith in (
      fit.0,
      fit_push (before ++ host_of i y.1) (i + 1) xs x fit.1
          (subst (λ (hs : List Hosting). FitsPlace hs ((i + 1) + length xs) x.1) (sym (append_assoc before (host_of i y.1) (hosts_of (i + 1) xs))) (subst (λ (m : ℕ). FitsPlace (before ++ hosts_of i (y ∷ xs)) m x.1) n last)),
    )

host_few : (i : ℕ) (p : Place) → length (host_of i p) ≤ 1
host_few i Plain = omega arith
host_few i (Runs name) = omega arith
host_few i (Hosts p n) = omega arith

pub hosts_few : (i : ℕ) (xs : List Post) → length (hosts_of i xs) ≤ length xs
hosts_few i [] = omega arith
hosts_few i (x ∷ xs) = omega (arith, host_few i x.1, hosts_few (i + 1) xs, length-append (host_of i x.1) (hosts_of (i + 1) xs))

-- ---- the wires of the hosts join what is there

abbrev pub Joined : ℕ → List Hosting → Type 0
Joined n hosts = AllByRecursion (λ (w : Pid × Pid). (w.0.0 < n) × (w.1.0 < n)) (map carrier hosts)

host_joins : (before : List Hosting) (i n : ℕ) (p : Place) (rest : List Hosting) → FitsPlace before i p → i < n → Joined n rest → Joined n (host_of i p ++ rest)
host_joins before i n Plain rest fit lt others = absurd fit
host_joins before i n (Runs name) rest fit lt others = others
host_joins before i n (Hosts p m) rest fit lt others = ((omega (arith, fit.0, lt), lt), others)

pub hosts_join : (before : List Hosting) (i : ℕ) (xs : List Post) (n : ℕ) → FitPosts before i xs → i + length xs ≤ n → Joined n (hosts_of i xs)
hosts_join before i [] n fit le = tt
hosts_join before i (x ∷ xs) n fit le = host_joins before i n x.1 (hosts_of (i + 1) xs) fit.0 (omega arith) (hosts_join (before ++ host_of i x.1) (i + 1) xs n fit.1 (omega arith))

-- ---- what a process line adds

abbrev pub with_post : ℕ → PlanGiven → ℕ → Place → PlanGiven
with_post line g k p = record g {
  header = record g.header { homes = g.header.homes ++ k ∷ [] };
  files = g.files ++ file_of p;
  lines = g.lines ++ line ∷ [];
  hosts = g.hosts ++ host_of (length g.header.homes) p;
}

pub post_adds : (line : ℕ) (g : PlanGiven) (before : List Hosting) (i k : ℕ) (p : Place) → FitsPlace before i p → with_line line g (meaning.Process k, p) ≡ with_post line g k p
unfolding with_place with_header with_meaning
post_adds line g before i k Plain fit = absurd fit
post_adds line g before i k (Runs name) fit = ap (λ (hs : List Hosting). record g { header = record g.header { homes = g.header.homes ++ k ∷ [] }; files = g.files ++ name ∷ []; lines = g.lines ++ line ∷ []; hosts = hs }) (sym (append-nil g.hosts))
post_adds line g before i k (Hosts p n) fit =
    ap (λ (fs : List (List ℕ)). record g { header = record g.header { homes = g.header.homes ++ k ∷ [] }; files = fs; lines = g.lines ++ line ∷ []; hosts = g.hosts ++ record { host = record { 0 = length g.header.homes }; moved = p; after = n } ∷ [] }) (sym (append-nil g.files))
