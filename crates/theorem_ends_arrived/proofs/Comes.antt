-- The values of each packet that carries a message come to the kernel that takes it: none is of an end that is here, or of a link that this
-- kernel has not made.
use Rattle.std.proofs.Common.{◌≡◌, ℕ, ◌<◌, ◌≤◌, true, nat_lt, List, ◌∷◌, slice_index, Contains, refl, sym, ap, subst, ◌∙◌, arith, ltb-true}
use Rattle.charlotte_calls.specs.declared.names.EndId.{EndId}
use Rattle.charlotte_calls.specs.declared.names.Pid.{Pid}
use Rattle.charlotte_packets.specs.declared.picture.MovingPicture.{MovingPicture}
use Rattle.charlotte_packets.specs.declared.picture.Picture.{Picture}
use Rattle.end_table.specs.Table.{IsHere}
use Rattle.kernel_sound.proofs.Values.{AreComing}
use Rattle.kernel_step.proofs.Folds.{AreDifferent}
use Rattle.kernel_step.specs.Rows.{ends_in}
use Rattle.kernel_world.specs.World.{World}
use Rattle.service_step.specs.Ends.{is_made}
use Rattle.service_step.specs.State.{State}
use Rattle.theorem_take_gone.proofs.Allowed.{brings-different, same-values}
use Rattle.theorem_take_gone.proofs.Happens.{only-changes}
use Rattle.theorem_meaning.specs.Invariant.{Invariant, is_message_of}
use Rattle.theorem_meaning.specs.Packets.{values_of}
use Rattle.theorem_take_gone.proofs.Meets.{stands-first}
use Rattle.theorem_take_gone.proofs.Values.{all-coming}
use Rattle.theorem_ends_arrived.specs.Arrived.{IsAmong, IsLaden}
use Rattle.theorem_ends_arrived.proofs.Coming.{inside, never-here}

module _ {i : ℕ} {w : World} {s : State} (is : Invariant i w s) (k from : ℕ) (q : Picture) (others : List Picture) (there : w.packets from k ≡ q ∷ others) (f : EndId) (carries : is_message_of f q.what ≡ true) (p : Pid) where
  -- whatever the taking does, the packet is taken
  laden : IsLaden i (only-changes w k from q others there p) from q s f
  laden = record { taken = refl; right = is.links; links = is.stands.links; kept = is.service; few = is.setting.few; carries = carries }

  comes : (m : MovingPicture) → Contains (values_of q.what) m → (IsHere ((w.kernel k).table m.end) → ⊥) × (m.end.link.maker ≡ k → (w.kernel k).made ≤ m.end.link.count → ⊥)
  comes m has = (never-here laden p m.end among k (λ z. Unit {0}), unmade)
    where
      among : IsAmong (values_of q.what) m.end
      among = record { value = m; there = has; of = refl }

      unmade : m.end.link.maker ≡ k → (w.kernel k).made ≤ m.end.link.count → ⊥
      unmade maker count =
          let is_so : nat_lt m.end.link.count (w.kernel k).made ≡ true
          = sym (ap (nat_lt m.end.link.count) (ap (λ z. slice_index s.made z) maker ∙ is.setting.made k)) ∙ sym (is.service.kept.made m.end) ∙ ap (λ z. is_made z) (inside laden p m.end among) in
          let below : m.end.link.count < (w.kernel k).made = ltb-true m.end.link.count (w.kernel k).made is_so in
          omega (arith, below, count)

  pub values-differ : AreDifferent (ends_in (values_of q.what))
  values-differ = subst (λ ms. AreDifferent (ends_in ms)) (same-values q.what) (brings-different is from k q (stands-first is k from q others there))

  pub values-come : AreComing k (w.kernel k).made (w.kernel k).table (values_of q.what)
  values-come = all-coming k (w.kernel k).made (w.kernel k).table (values_of q.what) values-differ comes
