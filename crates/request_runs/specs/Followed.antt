-- Runs of which each link is followed by events.
use Rattle.std.specs.Prelude.{◌≡◌, ℕ, List}
use Rattle.charlotte_calls.specs.Names.{opposite}
use Rattle.charlotte_calls.specs.declared.names.EndId.{EndId}
use Rattle.language_links.specs.Acting.{Done}
use Rattle.language_links.specs.Claims.{deeds_on}
use Rattle.request_runs.specs.Sides.{Courses, Pair, new_pair}

-- the deeds on an end and on its opposite are those of events at a link
pub record IsFollowed (version : ℕ) (x : EndId) (ds : List Done) : Type 0 where
  pub pair : Pair
  pub course : Courses version new_pair pair
  pub near : pair.near_deeds ≡ deeds_on x ds
  pub far : pair.far_deeds ≡ deeds_on (opposite x) ds
