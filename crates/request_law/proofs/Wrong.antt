-- Wrong rules, by which the claims would be false: for each a run, computed, and the claim that it breaks.
use Rattle.std.specs.Prelude.{◌≡◌, ℕ, List, [], ◌∷◌, ◌++◌, refl}
use Rattle.std.proofs.Common.{arith, subst, ap}
use mathlib.Core.List.{IsPrefix}
use Rattle.end_protocol.specs.declared.messages.Connect.{Connect}
use Rattle.end_protocol.specs.Asking.{asked, later, lined_up}
use Rattle.end_protocol.specs.Deeds.{Deed, Accepted, Issued}
use Rattle.end_protocol.specs.Going.{sent}
use Rattle.end_protocol.specs.Happenings.{Binds, Connects, Unbinds}
use Rattle.end_protocol.specs.Hearing.{accepted, forbade, is_readable, let_come}
use Rattle.end_protocol.specs.Kept.{queued}
use Rattle.end_protocol.specs.Wanting.{is_needed, taker}
use Rattle.request_meaning.specs.Requests.{AreExchanged, Request}
use Rattle.request_meaning.specs.Requests as requests
use Rattle.request_meaning.specs.Links.{Link, start}
use Rattle.request_law.proofs.Lists.{front_head}
use Rattle.request_meaning.proofs.Steps.{Act, Does, Far, HearsOne, SendsOne, acts_all}

abbrev give : List ℕ
give = 103 ∷ []

abbrev tell : List ℕ
tell = 116 ∷ []

-- a connect for an operation without arguments and results; its request has this number
abbrev connect : ℕ → List ℕ → Connect
connect n signature = record { thread = 0; number = n; signature = signature; values = []; results = []; ends = [] }

abbrev bound : List ℕ → Act
bound signature = Far (Does (Binds (record { entry = 0; signature = signature })))

abbrev request : ℕ → List ℕ → Request
request n signature = record { number = n; signature = signature; values = []; ends = [] }

-- these requests were issued, and these accepted: they are no front
no_front : (near far : List Deed) (is as' : List Request) → requests.issued near ≡ is → requests.accepted far ≡ as' → (IsPrefix as' is → ⊥) → AreExchanged near far → ⊥
no_front near far is as' issued accepted not are =
    not (subst (λ (l : List Request). IsPrefix l is) accepted (subst (λ (l : List Request). IsPrefix (requests.accepted far) l) issued are.requests))

-- ---- a request is numbered anew after a retry

-- the retry comes to who asks, and the request is queued again with the next number
abbrev renumbers : Link → Link
renumbers l = record l { near = asked 1 (connect (later l.near.last) give) (record l.near { last = later l.near.last }); here = [] }

abbrev renumbered : Link
renumbered =
    acts_all 1 (bound give ∷ SendsOne ∷ Far HearsOne ∷ [])
    (renumbers
    (acts_all 1 (bound give ∷ Does (Connects (connect 0 give)) ∷ SendsOne ∷ Far (Does (Unbinds 0)) ∷ Far HearsOne ∷ Far SendsOne ∷ []) start))

renumbered_issued : requests.issued renumbered.near_deeds ≡ request 1 give ∷ []
unfolding asked lined_up sent is_readable accepted let_come forbade queued is_needed taker
renumbered_issued = refl

renumbered_accepted : requests.accepted renumbered.far_deeds ≡ request 2 give ∷ []
unfolding asked lined_up sent is_readable accepted let_come forbade queued is_needed taker
renumbered_accepted = refl

two_is_not_one : IsPrefix (request 2 give ∷ []) (request 1 give ∷ []) → ⊥
two_is_not_one h = let n : ◌≡◌ {A = ℕ} 2 1 = ap (λ (r : Request). r.number) (front_head (request 2 give) (request 1 give) [] [] h) in absurd (omega arith)

pub renumbering_is_wrong : AreExchanged renumbered.near_deeds renumbered.far_deeds → ⊥
renumbering_is_wrong = no_front renumbered.near_deeds renumbered.far_deeds (request 1 give ∷ []) (request 2 give ∷ []) renumbered_issued renumbered_accepted two_is_not_one

-- ---- a request that goes back with a retry starts an entry as well

-- it goes back, and it is accepted
abbrev starts_too : Link → Link
starts_too l =
    let m : Link = acts_all 1 (Far HearsOne ∷ []) l in
    record m { far_deeds = m.far_deeds ++ Accepted 1 give [] [] ∷ [] }

abbrev started_twice : Link
started_twice =
    acts_all 1 (Far SendsOne ∷ HearsOne ∷ bound give ∷ SendsOne ∷ Far HearsOne ∷ [])
    (starts_too (acts_all 1 (bound give ∷ Does (Connects (connect 0 give)) ∷ SendsOne ∷ Far (Does (Unbinds 0)) ∷ []) start))

twice_issued : requests.issued started_twice.near_deeds ≡ request 1 give ∷ []
unfolding asked lined_up sent is_readable accepted let_come forbade queued is_needed taker
twice_issued = refl

twice_accepted : requests.accepted started_twice.far_deeds ≡ request 1 give ∷ request 1 give ∷ []
unfolding asked lined_up sent is_readable accepted let_come forbade queued is_needed taker
twice_accepted = refl

two_are_not_one : IsPrefix (request 1 give ∷ request 1 give ∷ []) (request 1 give ∷ []) → ⊥
two_are_not_one h = let e : request 1 give ∷ request 1 give ∷ h.0 ≡ request 1 give ∷ [] = h.1 in absurd cc

pub starting_too_is_wrong : AreExchanged started_twice.near_deeds started_twice.far_deeds → ⊥
starting_too_is_wrong = no_front started_twice.near_deeds started_twice.far_deeds (request 1 give ∷ []) (request 1 give ∷ request 1 give ∷ []) twice_issued twice_accepted two_are_not_one

-- ---- a second request is sent while one is outstanding

-- a connect does not wait behind the other one
abbrev asks_at_once : Link → Link
asks_at_once l =
    record l {
      near = asked 1 (connect (later l.near.last) tell) (record l.near { last = later l.near.last });
      near_deeds = l.near_deeds ++ Issued (later l.near.last) tell [] [] ∷ [];
    }

abbrev overtaken : Link
overtaken =
    acts_all 1 (SendsOne ∷ SendsOne ∷ bound tell ∷ Far HearsOne ∷ Far HearsOne ∷ []) (asks_at_once (acts_all 1 (Does (Connects (connect 0 give)) ∷ []) start))

overtaken_issued : requests.issued overtaken.near_deeds ≡ request 1 give ∷ request 2 tell ∷ []
unfolding asked lined_up sent is_readable accepted let_come forbade queued is_needed taker
overtaken_issued = refl

overtaken_accepted : requests.accepted overtaken.far_deeds ≡ request 2 tell ∷ []
unfolding asked lined_up sent is_readable accepted let_come forbade queued is_needed taker
overtaken_accepted = refl

second_is_not_first : IsPrefix (request 2 tell ∷ []) (request 1 give ∷ request 2 tell ∷ []) → ⊥
second_is_not_first h = let n : ◌≡◌ {A = ℕ} 2 1 = ap (λ (r : Request). r.number) (front_head (request 2 tell) (request 1 give) [] (request 2 tell ∷ []) h) in absurd (omega arith)

pub asking_at_once_is_wrong : AreExchanged overtaken.near_deeds overtaken.far_deeds → ⊥
asking_at_once_is_wrong =
    no_front overtaken.near_deeds overtaken.far_deeds (request 1 give ∷ request 2 tell ∷ []) (request 2 tell ∷ []) overtaken_issued overtaken_accepted second_is_not_first
