use Rattle.std.proofs.Common.{◌≡◌, ℕ, Bool, true, false, Option, None, Some, cond, refl, sym, ap, ◌∙◌}
use Rattle.std.specs.HashMap.{get_by}
use Rattle.std.specs.Str.{bytes_eq}
use Rattle.std.proofs.lemmas.Slice.Eq.{bytes_eq-Decides}
use Rattle.typing_rules.specs.declared.key.Key.{Key}
use Rattle.compiler_emission.specs.Places.{found, first_of}
use Rattle.compiler_emission.proofs.places.Places.keep.Goals as goal

-- a name that stood nowhere has its place, and the others have theirs
placed : (here : Bool) (old : Option ℕ) (place : ℕ) → (here ≡ true → old ≡ None) → cond here (Some place) old ≡ first_of old (cond here (Some place) None)
placed true None place absent = refl
placed true (Some first) place absent = let h : Some first ≡ None = absent refl in cc
placed false None place absent = refl
placed false (Some first) place absent = refl

-- a name that stood keeps its place where that is put back, and the others have theirs
kept : (here : Bool) (old : Option ℕ) (first place : ℕ) → (here ≡ true → old ≡ Some first) → cond here (Some first) (cond here (Some place) old) ≡ first_of old (cond here (Some place) None)
kept true old first place stood = ap (λ o. first_of o (Some place)) (sym (stood refl))
kept false None first place stood = refl
kept false (Some other) first place stood = refl

pub returns-in_default-clause-found : goal.returns-in_default-clause-found
returns-in_default-clause-found c q =
    let name = c.as_slice-bytes.result.now in
    let old = c.args.self.now.places in
    let place = c.args.self.now.count in
    c.in_ok-first.ensures.updates.0 (record { bytes = record c.as_slice-bytes.result { now = q } })
    ∙ placed (bytes_eq name q) (get_by (λ k. bytes_eq q k.bytes.now) old) place
    (λ here. ap (λ x. get_by (λ k. bytes_eq x k.bytes.now) old) (sym ((bytes_eq-Decides name q).0 here)) ∙ sym c.in_ok-first.ensures.old ∙ c.in_default.is)
    ∙ ap (λ x. first_of (found c.args.self.now q) (cond (bytes_eq x q) (Some place) None)) c.as_slice-bytes.ensures.value

pub returns-in_ok-insert-clause-found : goal.returns-in_ok-insert-clause-found
returns-in_ok-insert-clause-found c q =
    let name = c.as_slice-bytes.result.now in
    let old = c.args.self.now.places in
    let place = c.args.self.now.count in
    let key : Key = record { bytes = record c.as_slice-bytes.result { now = q } } in
    let first = c.in-Some.first in
    c.in_ok-insert.ensures.updates.0 key ∙ ap (cond (bytes_eq name q) (Some first)) (c.in_ok-first.ensures.updates.0 key)
    ∙ kept (bytes_eq name q) (get_by (λ k. bytes_eq q k.bytes.now) old) first place
    (λ here. ap (λ x. get_by (λ k. bytes_eq x k.bytes.now) old) (sym ((bytes_eq-Decides name q).0 here)) ∙ sym c.in_ok-first.ensures.old ∙ c.in-Some.is)
    ∙ ap (λ x. first_of (found c.args.self.now q) (cond (bytes_eq x q) (Some place) None)) c.as_slice-bytes.ensures.value
