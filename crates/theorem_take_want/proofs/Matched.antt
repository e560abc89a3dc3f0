-- The ends of the service after a match.
use Rattle.std.proofs.Common.{◌≡◌, ℕ, true, false, sym, ap, subst, ◌∙◌}
use Rattle.charlotte_calls.specs.Names.{opposite}
use Rattle.charlotte_calls.specs.declared.names.EndId.{EndId}
use Rattle.service_change.proofs.EndEq.{end_eq-sym, opposite-apart, puts-at, puts-other}
use Rattle.service_step.specs.Ends.{end_eq, is_made, matched_outward, matches, turns_inward, turns_outward}
use Rattle.service_step.specs.declared.state.End.{End}
use Rattle.service_step.specs.declared.state.Inward.TheVariants as inward

module _ (t : EndId → End) (e : EndId) (n : ℕ) where
  abbrev sends : End
  sends = record (t e) { outward = matched_outward (t e).outward }

  abbrev half : EndId → End
  half = turns_outward (matched_outward (t e).outward) e t

  half-other : half (opposite e) ≡ t (opposite e)
  unfolding turns_outward
  half-other = puts-other e sends t (opposite e) (end_eq-sym e (opposite e) ∙ opposite-apart e)

  pub matched-own : is_made (t e).place ≡ true → matches e n t e ≡ record (t e) { outward = matched_outward (t e).outward }
  unfolding matches turns_inward turns_outward
  matched-own made = puts-other (opposite e) (record (half (opposite e)) { inward = inward.Matched n }) half e (opposite-apart e) ∙ puts-at e sends t made

  pub matched-other : is_made (t (opposite e)).place ≡ true → matches e n t (opposite e) ≡ record (t (opposite e)) { inward = inward.Matched n }
  unfolding matches turns_inward
  matched-other made =
      puts-at (opposite e) (record (half (opposite e)) { inward = inward.Matched n }) half (subst (λ (x : End). is_made x.place ≡ true) (sym half-other) made)
      ∙ ap (λ (x : End). record x { inward = inward.Matched n }) half-other

  -- every other end stays
  pub matched-away : (q : EndId) → end_eq e q ≡ false → end_eq (opposite e) q ≡ false → matches e n t q ≡ t q
  unfolding matches turns_inward turns_outward
  matched-away q apart far = puts-other (opposite e) (record (half (opposite e)) { inward = inward.Matched n }) half q far ∙ puts-other e sends t q apart
