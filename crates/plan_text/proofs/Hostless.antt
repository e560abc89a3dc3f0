-- A plan without hosts has a file and a line for each process.
use Rattle.std.proofs.Common.{◌≡◌, ℕ, ◌+◌, suc, List, [], ◌∷◌, ◌++◌, length, refl, sym, ap, ◌∙◌}
use Rattle.std.proofs.lemmas.List.{length-map}
use Rattle.plan_text.specs.PlanText.{FitPosts, IsPlanText, Post, files_of, hosts_of, post_texts}
use Rattle.plan_text.specs.declared.plan.Hosting.{Hosting}
use Rattle.plan_text.specs.declared.plan.Plan.{Plan}
use Rattle.plan_text.specs.declared.rules.Place.TheVariants.{Plain, Runs, Hosts}

files_many : (before : List Hosting) (i : ℕ) (posts : List Post) → FitPosts before i posts → hosts_of i posts ≡ [] → length (files_of posts) ≡ length posts
files_many before i [] fit none = refl
files_many before i ((k, Plain) ∷ xs) fit none = absurd fit.0
files_many before i ((k, Runs name) ∷ xs) fit none = ap (λ n. suc n) (files_many (before ++ []) (i + 1) xs fit.1 none)
files_many before i ((k, Hosts p n) ∷ xs) fit none = absurd cc

texts_many : (i : ℕ) (posts : List Post) → length (post_texts i posts) ≡ length posts
texts_many i [] = refl
texts_many i (x ∷ xs) = ap (λ n. suc n) (texts_many (i + 1) xs)

pub files_and_lines : (bytes : List ℕ) (plan : Plan) → IsPlanText bytes plan → plan.hosts ≡ [] → (length plan.files ≡ length plan.setting.homes) × (length plan.lines ≡ length plan.setting.homes)
files_and_lines bytes plan is none =
    let homes : length plan.setting.homes ≡ length is.posts = ap length is.homes ∙ length-map is.posts (λ x. x.0) in
    let files : length plan.files ≡ length is.posts = ap length is.files ∙ files_many [] 0 is.posts is.fit (sym is.hosts ∙ none) in
    let lines : length plan.lines ≡ length is.posts =
    ap length is.numbers ∙ length-map is.posted (λ l. l.0) ∙ sym (length-map is.posted (λ l. l.1)) ∙ ap length is.post_lines ∙ texts_many 0 is.posts in
    (files ∙ sym homes, lines ∙ sym homes)
