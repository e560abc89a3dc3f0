-- What is claimed of the deeds in a run: of each link, and of the ends that its requests and replies carry.
use Rattle.std.specs.Prelude.{◌≡◌, ◌≢◌, ℕ, ◌≤◌, ◌⊎◌, true, nat_le, List, [], ◌∷◌, ◌++◌, length, map, filter, ⊤}
use Rattle.std.specs.List.{AllByRecursion}
use Rattle.charlotte_calls.specs.EndEq.{end_eq}
use Rattle.charlotte_calls.specs.Names.{opposite}
use Rattle.charlotte_calls.specs.declared.names.EndId.{EndId}
use Rattle.charlotte_calls.specs.declared.names.Pid.{Pid}
use Rattle.service_step.specs.Ends.{is_living}
use Rattle.service_step.specs.State.{State}
use Rattle.service_step.specs.declared.state.Phase.TheVariants.{Ended}
use Rattle.service_step.specs.declared.state.Place.{Place}
use Rattle.service_step.specs.declared.state.Place.TheVariants as place
use Rattle.end_protocol.specs.Deeds.{Deed, Issued, Accepted, Returned}
use Rattle.request_meaning.specs.Requests.{AreExchanged, accepted, issued}
use Rattle.language_links.specs.Acting.{Done}

-- the deeds on an end, in order, whoever owned it
abbrev pub on_end : EndId → List Done → List Done
on_end x ds = filter (λ d. end_eq d.on x) ds

abbrev pub deeds_on : EndId → List Done → List Deed
deeds_on x ds = map (λ d. d.deed) (on_end x ds)

-- requests and replies (1 and 2), of each end and its opposite
abbrev pub AreInOrder : List Done → Type 0
AreInOrder ds = (x : EndId) → AreExchanged (deeds_on x ds) (deeds_on (opposite x) ds)

-- ---- carried ends (3)

-- the service after so many entries
abbrev pub States : Type 0
States = ℕ → State

-- if it lives, the end is with the process
abbrev pub IsWith : State → Pid → EndId → Type 0
IsWith s p x = is_living (s.ends x).place ≡ true → (s.ends x).place ≡ place.Owned p

-- the ends that a thread gets with a deed
abbrev pub gets : Deed → List EndId
gets (Accepted n signature vs xs) = xs
gets (Returned n status vs xs) = xs
gets _ = []

abbrev pub AreWith : States → Done → Type 0
AreWith states d = AllByRecursion (λ x. IsWith (states d.after) d.by x) (gets d.deed)

-- the end is with the process that connects, or with the owner of the opposite end, or in a message on either end
abbrev pub IsBetween : State → Pid → EndId → Place → Type 0
IsBetween s p e (place.Owned q) = (q ≡ p) ⊎ ((s.ends (opposite e)).place ≡ place.Owned q)
IsBetween s p e (place.InMessage f n) = (f ≡ e) ⊎ (f ≡ opposite e)
IsBetween s p e at = ⊤

-- how many requests were accepted at an end, by deeds with at most so many entries before them
abbrev pub accepted_by : ℕ → EndId → List Done → ℕ
accepted_by n e ds = length (accepted (deeds_on e (filter (λ d. nat_le d.after n) ds)))

-- between its issue and its acceptance, while both ends of the link live and the process has not ended
pub record IsUnderWay (states : States) (before : List Done) (d : Done) (ds : List Done) (n : ℕ) : Type 0 where
  pub issued_before : d.after ≤ n
  pub unaccepted : accepted_by n (opposite d.on) ds ≤ length (issued (deeds_on d.on before))
  pub lives : is_living ((states n).ends d.on).place ≡ true
  pub opposite_lives : is_living ((states n).ends (opposite d.on)).place ≡ true
  pub runs : ((states n).process d.by.0).phase ≢ Ended

-- the ends that a connect sends with its request
abbrev pub sends : Deed → List EndId
sends (Issued n signature vs xs) = xs
sends _ = []

-- so many entries are in the run
pub record AreCarried (states : States) (entries : ℕ) (ds : List Done) : Type 0 where
  pub arrived : AllByRecursion (AreWith states) ds
  pub under_way : (before : List Done) (d : Done) (behind : List Done) (n : ℕ) → ds ≡ before ++ d ∷ behind → n ≤ entries → IsUnderWay states before d ds n
      → AllByRecursion (λ x. IsBetween (states n) d.by d.on ((states n).ends x).place) (sends d.deed)
