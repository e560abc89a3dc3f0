-- The programs of codes and ends, one after the other.
use Rattle.std.proofs.Common.{◌≡◌, ◌<◌, ◌==◌, ℕ, ◌+◌, suc, List, [], ◌∷◌, ◌++◌, Bool, true, false, if◌then◌else◌, length, map, Option, Some, None, All, refl, sym, ap, subst, ◌∙◌, append_assoc, arith}
use Rattle.std.proofs.lemmas.Bool.{eqb-true}
use Rattle.std.proofs.lemmas.List.{append-nil}
use Rattle.std.proofs.lemmas.List.Elements.{All-cons, All-nil}
use Rattle.charlotte_calls.specs.Setting.{IsValid}
use Rattle.charlotte_calls.specs.declared.names.EndId.{EndId}
use Rattle.charlotte_calls.specs.declared.setting.Setting.{Setting}
use Rattle.lynx_code.specs.declared.code.Code.{Code}
use Rattle.lynx_code.specs.Checked.{IsCheckedCode}
use Rattle.lynx_load.specs.Ends.{ends_from, ends_of_each}
use Rattle.lynx_load.specs.Loading.{unfit_line}
use Rattle.lynx_load.specs.Roles.{IsAtStart, last_of, version_of}
use Rattle.lynx_load.specs.Started.{AreFit, AreStarted, IsReady, StartsOne, StartsOnto}
use Rattle.lynx_load.specs.declared.loaded.Loaded.{Loaded}
use Rattle.lynx_load.specs.declared.role.Role.{Role}
use Rattle.lynx_load.specs.declared.role.Role.TheVariants.{Plain}

-- ---- as many ends as params

fits_first : (b : Bool) (rest : Option ℕ) (line : ℕ) → (if b then rest else Some line) ≡ None → (b ≡ true) × (rest ≡ None)
fits_first true rest line none = (refl, none)
fits_first false rest line none = absurd cc

-- where no line is unfit, each has as many
pub all_fit : (codes : List Code) (each : List (List EndId)) (lines : List ℕ) → length codes ≡ length each → length lines ≡ length each → unfit_line codes each lines ≡ None → AreFit codes each
all_fit [] [] lines many numbered none = tt
all_fit [] (e ∷ es) lines many numbered none = absurd (omega arith)
all_fit (c ∷ cs) [] lines many numbered none = absurd (omega arith)
all_fit (c ∷ cs) (e ∷ es) [] many numbered none = absurd (omega arith)
all_fit (c ∷ cs) (e ∷ es) (l ∷ ls) many numbered none =
    let first = fits_first (length e == c.params) (unfit_line cs es ls) l none in
    (eqb-true (length e) c.params first.0, all_fit cs es ls (omega arith) (omega arith) first.1)

-- the first, and the others
pub fit_parts : (codes : List Code) (each : List (List EndId)) (c : Code) (cs : List Code) (e : List EndId) (es : List (List EndId)) → codes ≡ c ∷ cs → each ≡ e ∷ es → AreFit codes each → AreFit (c ∷ cs) (e ∷ es)
fit_parts codes each c cs e es is_codes is_each fit = subst (AreFit (c ∷ cs)) is_each (subst (λ (xs : List Code). AreFit xs each) is_codes fit)

-- where codes are left, ends are
pub ends_left : (codes : List Code) (each : List (List EndId)) → AreFit codes each → 0 < length codes → 0 < length each
ends_left [] each fit some = absurd (omega arith)
ends_left (c ∷ cs) [] fit some = absurd fit
ends_left (c ∷ cs) (e ∷ es) fit some = omega arith

-- ---- programs

none_started : (version : ℕ) (codes : List Code) (each : List (List EndId)) → AreFit codes each → length codes ≡ 0 → AreStarted version codes each []
none_started version [] [] fit none = tt
none_started version [] (e ∷ es) fit none = absurd fit
none_started version (c ∷ cs) each fit none = absurd (omega arith)

pub none_onto : (version : ℕ) (codes : List Code) (each : List (List EndId)) (old : List Role) → AreFit codes each → length codes ≡ 0 → StartsOnto version codes each old old
none_onto version codes each old fit none = ([], sym (append-nil old), none_started version codes each fit none)

-- one program more
pub one_onto : (version : ℕ) (codes : List Code) (each : List (List EndId)) (cs : List Code) (es : List (List EndId)) (old between new : List Role)
    → StartsOne version codes each cs es old between → StartsOnto version cs es between new → StartsOnto version codes each old new
one_onto version codes each cs es old between new first rest =
    let roles = first.2 ∷ rest.0 in (
      roles,
      rest.1 ∙ ap (λ rs. rs ++ rest.0) first.6 ∙ append_assoc old (first.2 ∷ []) rest.0,
      subst (λ (xs : List Code). AreStarted version xs each roles) (sym first.3) (subst (λ (xs : List (List EndId)). AreStarted version (first.0 ∷ cs) xs roles) (sym first.4) (first.5, rest.2)),
    )

-- codes of checked modules: the first, and the others
pub first_checked : (codes : List Code) (c : Code) (cs : List Code) → codes ≡ c ∷ cs → All IsCheckedCode codes → IsCheckedCode c
first_checked codes c cs is all = (subst (All IsCheckedCode) is all) 0 c (omega arith)

pub others_checked : (codes : List Code) (c : Code) (cs : List Code) → codes ≡ c ∷ cs → All IsCheckedCode codes → All IsCheckedCode cs
others_checked codes c cs is all = λ k d lt. (subst (All IsCheckedCode) is all) (suc k) d (omega arith)

-- ---- what is known of programs that were started

pub ends_many : (s : Setting) (p : ℕ) (homes : List ℕ) → length (ends_from s p homes) ≡ length homes
ends_many s p [] = refl
ends_many s p (home ∷ homes) = ap (λ n. suc n) (ends_many s (p + 1) homes)

pub programs_many : (version : ℕ) (codes : List Code) (each : List (List EndId)) (roles : List Role) → AreStarted version codes each roles → length roles ≡ length each
programs_many version [] [] [] h = refl
programs_many version (c ∷ cs) (e ∷ es) (r ∷ rs) h = ap (λ n. suc n) (programs_many version cs es rs h.1)
programs_many version [] [] (r ∷ rs) h = absurd h
programs_many version [] (e ∷ es) roles h = absurd h
programs_many version (c ∷ cs) [] roles h = absurd h
programs_many version (c ∷ cs) (e ∷ es) [] h = absurd h

one_fresh : (version : ℕ) (made : Code) (ends : List EndId) (role : Role) → IsAtStart version made ends role → (last_of role ≡ None) × (version_of role ≡ version)
one_fresh version made ends (Plain p) at = (at.last, ap (λ s. s.version) at.state)

pub programs_fresh : (version : ℕ) (codes : List Code) (each : List (List EndId)) (roles : List Role) → AreStarted version codes each roles → All (λ role. (last_of role ≡ None) × (version_of role ≡ version)) roles
programs_fresh version [] [] [] h = All-nil _
programs_fresh version (c ∷ cs) (e ∷ es) (r ∷ rs) h = All-cons (λ x. (last_of x ≡ None) × (version_of x ≡ version)) r rs (one_fresh version c e r h.0) (programs_fresh version cs es rs h.1)
programs_fresh version [] [] (r ∷ rs) h = absurd h
programs_fresh version [] (e ∷ es) roles h = absurd h
programs_fresh version (c ∷ cs) [] roles h = absurd h
programs_fresh version (c ∷ cs) (e ∷ es) [] h = absurd h

-- nodes can start with programs that were started
pub are_ready : (loaded : Loaded) (codes : List Code) → IsValid loaded.setting → AreStarted loaded.setting.version codes (ends_of_each loaded.setting) loaded.programs.items → IsReady loaded
are_ready loaded codes valid started = record {
  valid = valid;
  programs = programs_many loaded.setting.version codes (ends_of_each loaded.setting) loaded.programs.items started ∙ ends_many loaded.setting 0 loaded.setting.homes;
  fresh = programs_fresh loaded.setting.version codes (ends_of_each loaded.setting) loaded.programs.items started;
}
