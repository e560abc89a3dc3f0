-- What is known of a link after any events.
use Rattle.request_meaning.specs.Links.{Link}
use Rattle.request_meaning.specs.Requests.{AreExchanged}
use Rattle.request_law.specs.Law.{AreAllThere}
use Rattle.request_runs.specs.Sides.{IsAs, Pair}

-- the claims on requests and replies, seen from either end
pub record AreExchangedBoth (p : Pair) : Type 0 where
  pub near : AreExchanged p.near_deeds p.far_deeds
  pub far : AreExchanged p.far_deeds p.near_deeds

-- there is a link that stands so, of which each end of a request or reply that is under way is in one place
pub record HasAllEnds (p : Pair) : Type 0 where
  pub link : Link
  pub is : IsAs p link
  pub ends : AreAllThere link
