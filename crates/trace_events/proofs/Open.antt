-- Which ends are open: those that live and do not know of the death of their link.
use Rattle.std.proofs.Common.{◌≡◌, Bool, true, false, true≢false, ◌&&◌, if◌then◌else◌, refl, sym, ap, subst, ◌∙◌}
use Rattle.charlotte_calls.specs.Names.{opposite}
use Rattle.charlotte_calls.specs.declared.names.EndId.{EndId}
use Rattle.service_lawful.specs.Consistent.{is_open}
use Rattle.service_step.specs.Ends.{is_living}
use Rattle.service_step.specs.declared.state.End.{End}
use Rattle.service_step.specs.declared.state.Place.TheVariants as place
use Rattle.theorem_effects.proofs.TheoremMeaningEnds.{opposite-twice}

pub open-so : (x : End) → is_living x.place ≡ true → x.noticed ≡ false → is_open x ≡ true
open-so x lives free = λ i. lives i && (if free i then false else true)

pub open-free : (x : End) → is_open x ≡ true → x.noticed ≡ false
open-free x open_is = by x.noticed refl (is_living x.place) open_is
  where
    by : (a : Bool) → x.noticed ≡ a → (c : Bool) → c && (if a then false else true) ≡ true → a ≡ false
    by false is c same = refl
    by true is true same = absurd (true≢false (sym same))
    by true is false same = absurd (true≢false (sym same))

pub open-lives : (x : End) → is_open x ≡ true → is_living x.place ≡ true
open-lives x open_is = by (is_living x.place) (if x.noticed then false else true) open_is
  where
    by : (a c : Bool) → a && c ≡ true → a ≡ true
    by true c is = refl
    by false c is = absurd (true≢false (sym is))

pub noticed-closed : (x : End) → x.noticed ≡ true → is_open x ≡ true → ⊥
noticed-closed x knows open_is = true≢false (sym knows ∙ open-free x open_is)

pub destroyed-closed : (x : End) → x.place ≡ place.Destroyed → is_open x ≡ true → ⊥
destroyed-closed x dead open_is = true≢false (sym open_is ∙ ap (λ p. is_living p && (if x.noticed then false else true)) dead)

-- the opposite of a living end does not know of a death
pub opposite-free : (t : EndId → End) → ((e : EndId) → (t e).noticed ≡ true → (t (opposite e)).place ≡ place.Destroyed) → (e : EndId) → is_living (t e).place ≡ true → (t (opposite e)).noticed ≡ false
opposite-free t deaths e lives = by (t (opposite e)).noticed refl
  where
    by : (a : Bool) → (t (opposite e)).noticed ≡ a → (t (opposite e)).noticed ≡ false
    by false is = is
    by true is = absurd (true≢false (sym lives ∙ ap is_living (subst (λ z. (t z).place ≡ place.Destroyed) (opposite-twice e) (deaths (opposite e) is))))
