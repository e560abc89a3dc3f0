-- How many ends are of a kind.
use Rattle.std.specs.Prelude.{◌≡◌, ℕ, ◌<◌, ◌^◌, List, length, sum_by}
use Rattle.process_run.specs.States.{Place}
use Rattle.process_run.specs.Ends.{coming_to}
use Rattle.process_ends.specs.Ends.{used_by}

-- these are counted, and their numbers fit
pub record IsCounted (ps : List Place) (coming used : ℕ) : Type 0 where
  pub coming_is : coming ≡ sum_by (λ p. coming_to p.holding) ps
  pub used_is : used ≡ sum_by (λ p. used_by p.holding) ps
  pub fits : length ps < 2 ^ 32
