-- What was done at the two ends of a link, and what is claimed of it.
use Rattle.std.specs.Prelude.{ℕ, List, [], ◌∷◌, map}
use Rattle.std.specs.List.{flat_map}
use mathlib.Core.List.{IsPrefix}
use Rattle.charlotte_calls.specs.declared.names.EndId.{EndId}
use Rattle.lynx_packets.specs.declared.value.RtValue.{RtValue}
use Rattle.end_protocol.specs.declared.kept.Response.{Response}
use Rattle.end_protocol.specs.Deeds.{Deed, Issued, Accepted, Replied, Returned}

-- a request. The ends of its link values stand beside the values, in their order. A reply is a Response, of the same form
pub record Request : Type 0 where
  pub number : ℕ
  pub signature : List ℕ
  pub values : List RtValue
  pub ends : List EndId

-- ---- what a deed is, as a list of one

abbrev pub issued_by : Deed → List Request
issued_by (Issued n s vs xs) = record { number = n; signature = s; values = vs; ends = xs } ∷ []
issued_by _ = []

abbrev pub accepted_by : Deed → List Request
accepted_by (Accepted n s vs xs) = record { number = n; signature = s; values = vs; ends = xs } ∷ []
accepted_by _ = []

abbrev pub replied_by : Deed → List Response
replied_by (Replied n status vs xs) = record { number = n; status = status; values = vs; ends = xs } ∷ []
replied_by _ = []

abbrev pub returned_by : Deed → List Response
returned_by (Returned n status vs xs) = record { number = n; status = status; values = vs; ends = xs } ∷ []
returned_by _ = []

-- ---- among all deeds on an end, in their order, whoever owned it

abbrev pub issued : List Deed → List Request
issued ds = flat_map issued_by ds

abbrev pub accepted : List Deed → List Request
accepted ds = flat_map accepted_by ds

abbrev pub replied : List Deed → List Response
replied ds = flat_map replied_by ds

abbrev pub returned : List Deed → List Response
returned ds = flat_map returned_by ds

-- ---- the claims, of the deeds on an end and of those on its opposite

abbrev pub request_numbers : List Request → List ℕ
request_numbers rs = map (λ r. r.number) rs

abbrev pub reply_numbers : List Response → List ℕ
reply_numbers rs = map (λ r. r.number) rs

pub record AreExchanged (near far : List Deed) : Type 0 where
  -- what was accepted at the opposite is what was issued first, in order and each once, with equal numbers, signatures, values and ends
  pub requests : IsPrefix (accepted far) (issued near)
  -- the opposite replied in the order in which it accepted, to each request once
  pub answers : IsPrefix (reply_numbers (replied far)) (request_numbers (accepted far))
  -- what was returned is what the opposite replied first, with equal numbers, statuses, values and ends
  pub replies : IsPrefix (returned near) (replied far)
