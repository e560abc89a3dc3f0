-- Ends and their opposites.
use Rattle.std.proofs.Common.{◌≡◌, Bool, true, false, ℕ, refl, ap}
use Rattle.charlotte_calls.specs.Names.{opposite, other_side}
use Rattle.charlotte_calls.specs.declared.names.EndId.{EndId}
use Rattle.charlotte_calls.specs.declared.names.Side.{Side}
use Rattle.charlotte_calls.specs.declared.names.Side.TheVariants.{A, B}
use Rattle.end_table.proofs.EndEq.{end_eq-same}
use Rattle.end_table.specs.Place.{end_eq}
use Rattle.service_step.specs.Ends.{end_eq as service_eq}

-- the service compares ends as kernels do
pub eq-same : (a b : EndId) → service_eq a b ≡ end_eq a b
eq-same a b = refl

twice : (s : Side) → other_side (other_side s) ≡ s
twice A = refl
twice B = refl

pub opposite-twice : (e : EndId) → opposite (opposite e) ≡ e
opposite-twice e = λ i. record { link = e.link; side = twice e.side i }

differ : (s : Side) → s ≡ other_side s → ⊥
differ A is = cc
differ B is = cc

-- an end is not its opposite
pub opposite-apart : (e : EndId) → end_eq e (opposite e) ≡ false
opposite-apart e = by (end_eq e (opposite e)) refl
  where
    by : (b : Bool) → end_eq e (opposite e) ≡ b → b ≡ false
    by true is = absurd (differ e.side (ap (λ (x : EndId). x.side) (end_eq-same e (opposite e) is)))
    by false is = refl

-- an end by its three parts
pub end-is : (e : EndId) (maker count : ℕ) (side : Side) → e.link.maker ≡ maker → e.link.count ≡ count → e.side ≡ side → e ≡ record { link = record { maker = maker; count = count }; side = side }
end-is e maker count side m c s = λ i. record { link = record { maker = m i; count = c i }; side = s i }

-- different ends are told apart
pub apart-false : (a b : EndId) → (a ≡ b → ⊥) → end_eq a b ≡ false
apart-false a b apart = by (end_eq a b) refl
  where
    by : (x : Bool) → end_eq a b ≡ x → x ≡ false
    by true is = absurd (apart (end_eq-same a b is))
    by false is = refl
