-- A run of which each link is followed by events has its requests in order.
use Rattle.std.proofs.Common.{ℕ, List, subst}
use Rattle.charlotte_calls.specs.Names.{opposite}
use Rattle.charlotte_calls.specs.declared.names.EndId.{EndId}
use Rattle.end_protocol.specs.Deeds.{Deed}
use Rattle.language_links.specs.Acting.{Done}
use Rattle.language_links.specs.Claims.{AreInOrder, deeds_on}
use Rattle.request_meaning.specs.Requests.{AreExchanged}
use Rattle.request_runs.specs.Followed.{IsFollowed}
use Rattle.request_runs.proofs.Events.{goes_in_order}

pub followed_in_order : (version : ℕ) (ds : List Done) → ((x : EndId) → IsFollowed version x ds) → AreInOrder ds
followed_in_order version ds all x =
    let f : IsFollowed version x ds = all x in
    subst (λ (es : List Deed). AreExchanged es (deeds_on (opposite x) ds)) f.near
    (subst (λ (es : List Deed). AreExchanged f.pair.near_deeds es) f.far (goes_in_order version f.pair f.course).near)
