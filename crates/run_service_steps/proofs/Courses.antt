-- The events of a step at a link.
use Rattle.std.proofs.Common.{◌≡◌, ◌⊎◌, inl, inr, ℕ, List, sym, ap, subst, ◌∙◌}
use mathlib.Core.List.{IsPrefix}
use Rattle.charlotte_calls.specs.Names.{opposite}
use Rattle.charlotte_calls.specs.declared.names.EndId.{EndId}
use Rattle.service_change.proofs.EndEq.{opposite-opposite}
use Rattle.service_step.specs.State.{State as Service}
use Rattle.run_invariant.specs.Deaths.{IsGone}
use Rattle.end_protocol.specs.declared.messages.Message.{Message}
use Rattle.end_protocol.specs.Deeds.{Deed}
use Rattle.run_invariant.specs.Sides.{Courses, Destroyed, Pair, Side, Standing, comes, flipped, new_pair, stands}
use Rattle.run_invariant.specs.Sides as events
use Rattle.run_invariant.specs.Invariant.{IsFollowedTo, IsSide, IsSideAt, Owners}

-- where it is destroyed, an end stands so, and only the first of what was coming comes, where the opposite is
pub record Turned (version : ℕ) (t : Service) (os : Owners) (x : EndId) (base : Side) : Type 0 where
  pub standing : Standing
  pub coming : List Message
  pub is : IsSide version t os x (record { standing = standing; coming = coming })
  pub stands : (standing ≡ base.standing) ⊎ (standing ≡ Destroyed)
  pub comes : (coming ≡ base.coming) ⊎ (IsGone t (opposite x) × IsPrefix coming base.coming)

module _ (version : ℕ) where
  turns-flipped : (p q : Pair) → Courses version p q → Courses version (flipped p) (flipped q)
  turns-flipped p q (events.Rests _) = events.Rests (flipped p)
  turns-flipped p q (events.Goes _ r _ before next) = events.Goes (flipped p) (flipped r) (flipped q) (turns-flipped p r before) (events.Flipped (flipped r) (flipped q) next)

  stands-so : (p q : Pair) (to : Standing) → (to ≡ q.near.standing) ⊎ (to ≡ Destroyed) → Courses version p q → Courses version p (stands to q)
  stands-so p q to (inl same) before = subst (λ (z : Standing). Courses version p (stands z q)) (sym same) before
  stands-so p q to (inr gone) before = subst (λ (z : Standing). Courses version p (stands z q)) (sym gone) (events.Goes p q (stands Destroyed q) before (events.Destroys q))

  comes-so : (p q : Pair) (to : List Message) → (to ≡ q.near.coming) ⊎ ((q.far.standing ≡ Destroyed) × IsPrefix to q.near.coming) → Courses version p q → Courses version p (comes to q)
  comes-so p q to (inl same) before = subst (λ (z : List Message). Courses version p (comes z q)) (sym same) before
  comes-so p q to (inr both) before = events.Goes p q (comes to q) before (events.Drops to q both.0 both.1)

  at-far : (p q : Pair) (f : Pair → Pair) → (Courses version (flipped p) (flipped q) → Courses version (flipped p) (f (flipped q))) → Courses version p q → Courses version p (flipped (f (flipped q)))
  at-far p q f next before = turns-flipped (flipped p) (f (flipped q)) (next (turns-flipped p q before))

module _ (version : ℕ) (t : Service) (os : Owners) (x : EndId) where
  -- an end that is destroyed stands so
  gone-stands : (y : EndId) (side : Side) → IsSide version t os y side → IsGone t y → side.standing ≡ Destroyed
  gone-stands y side is gone = subst (IsSideAt version t os y side) gone is

  pub follows-on : (deeds : EndId → List Deed) (p : Pair) → Courses version new_pair p → p.near_deeds ≡ deeds x → p.far_deeds ≡ deeds (opposite x)
      → Turned version t os x p.near → Turned version t os (opposite x) p.far → IsFollowedTo version t os deeds x
  follows-on deeds p course near_deeds far_deeds near far =
      record {
        pair = record p { near = record { standing = near.standing; coming = near.coming }; far = record { standing = far.standing; coming = far.coming } };
        course = fourth;
        near = near.is;
        far = far.is;
        near_deeds = near_deeds;
        far_deeds = far_deeds;
      }
    where
      gone-far : IsGone t (opposite x) → far.standing ≡ Destroyed
      gone-far = gone-stands (opposite x) (record { standing = far.standing; coming = far.coming }) far.is

      gone-near : IsGone t (opposite (opposite x)) → near.standing ≡ Destroyed
      gone-near gone = gone-stands x (record { standing = near.standing; coming = near.coming }) near.is (subst (IsGone t) (opposite-opposite x) gone)

      first : Courses version new_pair (stands near.standing p)
      first = stands-so version new_pair p near.standing near.stands course

      second : Courses version new_pair (flipped (stands far.standing (flipped (stands near.standing p))))
      second =
          at-far version new_pair (stands near.standing p) (stands far.standing) (stands-so version (flipped new_pair) (flipped (stands near.standing p)) far.standing far.stands) first

      third : Courses version new_pair (comes near.coming (flipped (stands far.standing (flipped (stands near.standing p)))))
      third =
          comes-so version new_pair (flipped (stands far.standing (flipped (stands near.standing p)))) near.coming
          (elim near.comes as (λ c. (near.coming ≡ p.near.coming) ⊎ ((far.standing ≡ Destroyed) × IsPrefix near.coming p.near.coming)) [ inl same ↦ inl same | inr both ↦ inr (gone-far both.0, both.1) ]) second

      fourth : Courses version new_pair (flipped (comes far.coming (flipped (comes near.coming (flipped (stands far.standing (flipped (stands near.standing p))))))))
      fourth =
          at-far version new_pair (comes near.coming (flipped (stands far.standing (flipped (stands near.standing p))))) (comes far.coming)
          (comes-so version (flipped new_pair) (flipped (comes near.coming (flipped (stands far.standing (flipped (stands near.standing p)))))) far.coming
          (elim far.comes as (λ c. (far.coming ≡ p.far.coming) ⊎ ((near.standing ≡ Destroyed) × IsPrefix far.coming p.far.coming)) [ inl same ↦ inl same | inr both ↦ inr (gone-near both.0, both.1) ]))
          third

-- seen from the other end
pub follows-back : (version : ℕ) (t : Service) (os : Owners) (x : EndId) (deeds : EndId → List Deed) → IsFollowedTo version t os deeds x → IsFollowedTo version t os deeds (opposite x)
follows-back version t os x deeds l =
    record {
      pair = flipped l.pair;
      course = turns-flipped version new_pair l.pair l.course;
      near = l.far;
      far = subst (λ (y : EndId). IsSide version t os y l.pair.near) (sym (opposite-opposite x)) l.near;
      near_deeds = l.far_deeds;
      far_deeds = l.near_deeds ∙ ap deeds (sym (opposite-opposite x));
    }
