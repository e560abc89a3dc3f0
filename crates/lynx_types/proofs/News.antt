-- Names that are new where others stand: told name by name, they are those of the definition.
use Rattle.std.proofs.Common.{◌≡◌, ℕ, ◌+◌, List, [], ◌∷◌, ◌++◌, Bool, true, false, not, ◌||◌, Option, Some, None, is_some, cond, length, refl, sym, ap, ◌∙◌, append_assoc, arith}
use Rattle.std.proofs.lemmas.Slice.Eq.{bytes_eq-Decides}
use Rattle.std.specs.List.{list_any}
use Rattle.std.specs.Str.{bytes_eq}
use Rattle.typing_rules.specs.Modules.{names_are_new}
use Rattle.typing_rules.specs.Names.{Meaning, Declared, Scope, or_outside, meaning_in}
use Rattle.typing_rules.specs.Rules.{Fault, demand}
use Rattle.typing_rules.specs.Progress.{first_with}
use Rattle.typing_rules.proofs.Order.{swap}
use Rattle.typing_rules.proofs.Progress.{first_with-append}
use Rattle.lynx_types.specs.News.{then_declared, news_faults, are_new, told_faults}

-- ---- scopes

or_assoc : (a b c : Option Meaning) → or_outside (or_outside a b) c ≡ or_outside a (or_outside b c)
or_assoc None b c = refl
or_assoc (Some x) b c = refl

pub or_none : (a : Option Meaning) → or_outside a None ≡ a
or_none None = refl
or_none (Some x) = refl

choice : (b : Bool) (m : Meaning) (x y : Option Meaning) → cond b (Some m) (or_outside x y) ≡ or_outside (cond b (Some m) x) y
choice true m x y = refl
choice false m x y = refl

pub meaning-append : (xs ys : List Declared) (q : List ℕ) → meaning_in (xs ++ ys) q ≡ or_outside (meaning_in xs q) (meaning_in ys q)
meaning-append [] ys q = refl
meaning-append (x ∷ xs) ys q = ap (cond (bytes_eq x.name q) (Some x.meaning)) (meaning-append xs ys q) ∙ choice (bytes_eq x.name q) x.meaning (meaning_in xs q) (meaning_in ys q)

pub declared-append : (s : Scope) (xs ys : List Declared) → then_declared s (xs ++ ys) ≡ then_declared (then_declared s xs) ys
declared-append s xs ys = λ i q. (ap (or_outside (s q)) (meaning-append xs ys q) ∙ sym (or_assoc (s q) (meaning_in xs q) (meaning_in ys q))) i

-- two scopes in which each name means the same are one
pub same_scope : (s t : Scope) → ((q : List ℕ) → s q ≡ t q) → s ≡ t
same_scope s t h = λ i q. h q i

-- ---- names that are new

pub news-append : (rule : ℕ) (s : Scope) (xs ys : List Declared) → news_faults rule s (xs ++ ys) ≡ news_faults rule s xs ++ news_faults rule (then_declared s xs) ys
news-append rule s [] ys = ap (λ t. news_faults rule t ys) (same_scope s (then_declared s []) (λ q. sym (or_none (s q))))
news-append rule s (x ∷ xs) ys =
    ap (λ fs. demand rule x.place (not (is_some (s x.name))) ++ fs) (news-append rule (then_declared s (x ∷ [])) xs ys
    ∙ ap (λ t. news_faults rule (then_declared s (x ∷ [])) xs ++ news_faults rule t ys) (sym (declared-append s (x ∷ []) xs)))
    ∙ sym (append_assoc (demand rule x.place (not (is_some (s x.name)))) (news_faults rule (then_declared s (x ∷ [])) xs) (news_faults rule (then_declared s (x ∷ xs)) ys))

same_way : (a b : Bool) → (a ≡ true → b ≡ true) → (b ≡ true → a ≡ true) → a ≡ b
same_way true b f g = sym (f refl)
same_way false true f g = g refl
same_way false false f g = refl

either_way : (xs ys : List ℕ) → bytes_eq xs ys ≡ bytes_eq ys xs
either_way xs ys = same_way (bytes_eq xs ys) (bytes_eq ys xs) (λ h. (bytes_eq-Decides ys xs).1 (sym ((bytes_eq-Decides xs ys).0 h))) (λ h. (bytes_eq-Decides xs ys).1 (sym ((bytes_eq-Decides ys xs).0 h)))

stands : (b : Bool) (m : Meaning) (o : Option Meaning) → is_some (or_outside o (cond b (Some m) None)) ≡ (b || is_some o)
stands true m None = refl
stands true m (Some x) = refl
stands false m None = refl
stands false m (Some x) = refl

-- a rule that is told the names before finds what one finds that looks at the scope
module _ (rule : ℕ) where
  abbrev told : List (List ℕ) → ℕ → List ℕ → List Fault
  told before at name = demand rule at (not (list_any (bytes_eq name) before))

  pub news_are_new : (before : List (List ℕ)) (s : Scope) (ds : List Declared) → ((q : List ℕ) → list_any (bytes_eq q) before ≡ is_some (s q)) → names_are_new told before ds ≡ news_faults rule s ds
  news_are_new before s [] h = refl
  news_are_new before s (d ∷ ds) h =
      ap (λ b. demand rule d.place (not b) ++ names_are_new told (d.name ∷ before) ds) (h d.name)
      ∙ ap (λ fs. demand rule d.place (not (is_some (s d.name))) ++ fs)
      (news_are_new (d.name ∷ before) (then_declared s (d ∷ [])) ds (λ q. (λ i. either_way q d.name i || h q i) ∙ sym (stands (bytes_eq d.name q) d.meaning (s q))))

-- ---- names of which it is told whether they are new

pub told-new : (rule : ℕ) (s : Scope) (ds : List Declared) → told_faults rule (are_new s ds) ds ≡ news_faults rule s ds
told-new rule s [] = refl
told-new rule s (d ∷ ds) = ap (λ fs. demand rule d.place (not (is_some (s d.name))) ++ fs) (told-new rule (then_declared s (d ∷ [])) ds)

pub length-are_new : (s : Scope) (ds : List Declared) → length (are_new s ds) ≡ length ds
length-are_new s [] = refl
length-are_new s (d ∷ ds) = omega (arith, length-are_new (then_declared s (d ∷ [])) ds)

-- ---- names and their declarations, in the order of the text

-- what is found in one declaration and then in those behind it, the names first
pub in_order : (o : Option Fault) (n f ns fs : List Fault) → first_with (first_with o (n ++ f)) (ns ++ fs) ≡ first_with o ((n ++ ns) ++ (f ++ fs))
in_order o n f ns fs =
    ap (λ x. first_with x (ns ++ fs)) (first_with-append o n f) ∙ first_with-append (first_with (first_with o n) f) ns fs
    ∙ ap (λ x. first_with x fs) (swap (first_with o n) f ns ∙ ap (λ x. first_with x f) (sym (first_with-append o n ns)))
    ∙ sym (first_with-append (first_with o (n ++ ns)) f fs) ∙ sym (first_with-append o (n ++ ns) (f ++ fs))
