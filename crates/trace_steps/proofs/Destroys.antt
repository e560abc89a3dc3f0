-- Ends that are destroyed: a destroy is one of a list, and whatever is destroyed, which ends were made and know of a death stays.
use Rattle.std.proofs.Common.{◌≡◌, ◌⊎◌, inl, inr, Bool, true, false, if◌then◌else◌, List, [], ◌∷◌, refl, sym, ap, subst, ◌∙◌, eq-eqb}
use Rattle.charlotte_calls.specs.declared.names.EndId.{EndId}
use Rattle.charlotte_calls.specs.declared.names.Pid.{Pid}
use Rattle.service_change.proofs.EndEq.{end_eq-same, puts-at, puts-other}
use Rattle.service_step.specs.Ends.{carried_by, destroys, destroys_each, destroys_owned, dropped, end_eq, is_made, is_owned_by, places, put, puts, waiting_message}
use Rattle.service_step.specs.declared.state.End.{End}
use Rattle.service_step.specs.declared.state.Place.{Place}
use Rattle.service_step.specs.declared.state.Place.TheVariants as place

-- the same ends were made, and know of the death of their link
pub record AreKept (t u : EndId → End) : Type 0 where
  pub noticed : (q : EndId) → (u q).noticed ≡ (t q).noticed
  pub made : (q : EndId) → is_made (u q).place ≡ is_made (t q).place

kept-same : (t : EndId → End) → AreKept t t
kept-same t = record { noticed = λ q. refl; made = λ q. refl }

kept-on : {t u v : EndId → End} → AreKept t u → AreKept u v → AreKept t v
kept-on one other = record { noticed = λ q. other.noticed q ∙ one.noticed q; made = λ q. other.made q ∙ one.made q }

unput : (e : EndId) (x : End) (t : EndId → End) → is_made (t e).place ≡ false → puts e x t ≡ t
unfolding puts
unput e x t none = ap (λ b. if b then put t e x else t) none

puts-kept : (e : EndId) (x : End) (t : EndId → End) → x.noticed ≡ (t e).noticed → is_made x.place ≡ true → AreKept t (puts e x t)
puts-kept e x t noticed made = by (is_made (t e).place) refl
  where
    by : (b : Bool) → is_made (t e).place ≡ b → AreKept t (puts e x t)
    by false none = subst (AreKept t) (sym (unput e x t none)) (kept-same t)
    by true was = record { noticed = λ q. each (λ y z. y.noticed ≡ z.noticed) noticed (λ z. refl) q; made = λ q. each (λ y z. is_made y.place ≡ is_made z.place) (made ∙ sym was) (λ z. refl) q }
      where
        each : (P : End → End → Type 0) → P x (t e) → ((z : EndId) → P (t z) (t z)) → (q : EndId) → P (puts e x t q) (t q)
        each P its others q = at_end (end_eq e q) refl
          where
            at_end : (b : Bool) → end_eq e q ≡ b → P (puts e x t q) (t q)
            at_end true same = subst (λ z. P (puts e x t z) (t z)) (end_eq-same e q same) (subst (λ y. P y (t e)) (sym (puts-at e x t was)) its)
            at_end false apart = subst (λ y. P y (t q)) (sym (puts-other e x t q apart)) (others q)

places-kept : (at : Place) (xs : List EndId) (t : EndId → End) → is_made at ≡ true → AreKept t (places at xs t)
unfolding places
places-kept at [] t made = kept-same t
places-kept at (x ∷ xs) t made = kept-on (puts-kept x (record (t x) { place = at }) t refl made) (places-kept at xs (puts x (record (t x) { place = at }) t) made)

destroys-kept : (e : EndId) (t : EndId → End) → AreKept t (destroys e t)
unfolding destroys
destroys-kept e t =
    kept-on (puts-kept e (record (t e) { place = place.Destroyed; outward = dropped (t e).outward }) t refl refl)
    (places-kept place.Destroyed (carried_by (waiting_message (t e).outward)) (puts e (record (t e) { place = place.Destroyed; outward = dropped (t e).outward }) t) refl)

pub destroys_each-kept : (p : Pid) (mine : List EndId) (t : EndId → End) → AreKept t (destroys_each p mine t)
unfolding destroys_each destroys_owned
destroys_each-kept p [] t = kept-same t
destroys_each-kept p (e ∷ mine) t = kept-on (by (is_owned_by p (t e).place)) (destroys_each-kept p mine (destroys_owned p e t))
  where
    by : (b : Bool) → AreKept t (if b then destroys e t else t)
    by true = destroys-kept e t
    by false = kept-same t

-- one that its process owns
pub destroys-one : (p : Pid) (e : EndId) (t : EndId → End) → (t e).place ≡ place.Owned p → destroys_each p (e ∷ []) t ≡ destroys e t
unfolding destroys_each destroys_owned
destroys-one p e t owned = ap (λ b. if b then destroys e t else t) (ap (is_owned_by p) owned ∙ eq-eqb p.0 p.0 refl)
