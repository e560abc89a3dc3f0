-- What one step does to the send of an end, and which reports it tells of.
use Rattle.std.proofs.Common.{◌≡◌, ◌≢◌, ℕ, ◌+◌, Bool, true, false, true≢false, nat_eq, not, ◌⊎◌, inl, inr, if◌then◌else◌, Option, Some, None, List, [], ◌∷◌, refl, sym, ap, subst, ◌∙◌}
use Rattle.charlotte_calls.specs.Names.{opposite}
use Rattle.charlotte_calls.specs.declared.names.EndId.{EndId}
use Rattle.charlotte_calls.specs.declared.names.Pid.{Pid}
use Rattle.std.proofs.lemmas.Bool.Decides.{eqb_tells}
use Rattle.charlotte_calls.specs.declared.calls.Cause.TheVariants as cause
use Rattle.charlotte_calls.specs.declared.calls.ServiceStep.{ServiceStep}
use Rattle.charlotte_calls.specs.declared.calls.ServiceStep.TheVariants as step
use Rattle.service_change.proofs.Counts.{and-true}
use Rattle.service_change.proofs.EndEq.{end_eq-apart, end_eq-refl, end_eq-same, put-at, put-other, puts-other}
use Rattle.service_change.proofs.Facts.{made-owned, none-first, not-false, owner-Owned}
use Rattle.service_step.specs.Ends.{end_eq, fresh, unmade, carried_by, destroys, destroys_each, destroys_owned, dropped, is_idle_outward, is_made, is_owned_by, makes, noticed_outward, owner, places, put, puts, turns_inward, waiting_message}
use Rattle.service_step.specs.Lawful.{complete_number, match_number, number_on, send_number, take_number}
use Rattle.service_step.specs.State.{State}
use Rattle.service_step.specs.Steps.{may_send, may_send_as}
use Rattle.service_step.specs.declared.state.End.{End}
use Rattle.service_step.specs.declared.state.Inward.{Inward}
use Rattle.service_step.specs.declared.state.Inward.TheVariants as inward
use Rattle.service_step.specs.declared.state.Message.{Message}
use Rattle.service_step.specs.declared.state.Outward.{Outward}
use Rattle.service_step.specs.declared.state.Outward.TheVariants as outward
use Rattle.service_step.specs.declared.state.Place.{Place}
use Rattle.service_step.specs.declared.state.Place.TheVariants as place

-- what the end sends: all of it but its place and what it receives
abbrev pub sends_of : End → End
sends_of x = record x { place = place.Unmade; inward = inward.Idle }

-- the table with a place or an inward activity changed sends the same

puts-sends : (e : EndId) (x : End) (t : EndId → End) (q : EndId) → sends_of x ≡ sends_of (t e) → sends_of (puts e x t q) ≡ sends_of (t q)
unfolding puts
puts-sends e x t q same = by (is_made (t e).place) (end_eq e q) refl
  where
    by : (b c : Bool) → end_eq e q ≡ c → sends_of ((if b then put t e x else t) q) ≡ sends_of (t q)
    by true true its = subst (λ z. sends_of (put t e x z) ≡ sends_of (t z)) (end_eq-same e q its) (ap sends_of (put-at t e x) ∙ same)
    by true false apart = ap sends_of (put-other t e x q apart)
    by false c is = refl

-- an end that is put, or stays where no link was made
pub puts-either : (e : EndId) (x : End) (t : EndId → End) → (puts e x t e ≡ x) ⊎ (puts e x t e ≡ t e)
unfolding puts
puts-either e x t = by (is_made (t e).place)
  where
    by : (b : Bool) → ((if b then put t e x else t) e ≡ x) ⊎ ((if b then put t e x else t) e ≡ t e)
    by true = inl (put-at t e x)
    by false = inr refl

pub places-sends : (at : Place) (xs : List EndId) (t : EndId → End) (q : EndId) → sends_of (places at xs t q) ≡ sends_of (t q)
unfolding places
places-sends at [] t q = refl
places-sends at (x ∷ xs) t q = places-sends at xs (puts x (record (t x) { place = at }) t) q ∙ puts-sends x (record (t x) { place = at }) t q refl

pub turns_inward-sends : (i : Inward) (e : EndId) (t : EndId → End) (q : EndId) → sends_of (turns_inward i e t q) ≡ sends_of (t q)
unfolding turns_inward
turns_inward-sends i e t q = puts-sends e (record (t e) { inward = i }) t q refl

-- the numbers of a step on f
pub record HasNumbers (f : EndId) (made : ServiceStep × State) (a b c d : List ℕ) : Type 0 where
  pub sends : send_number f made ≡ a
  pub matches : match_number f made ≡ b
  pub takes : take_number f made ≡ c
  pub completes : complete_number f made ≡ d

-- what a step does to the send of f
pub data Move (s : State) (x : ServiceStep) (t : State) (f : EndId) : Type 0 where
  still : (t.ends f).outward ≡ (s.ends f).outward → (t.ends f).sent ≡ (s.ends f).sent → ((t.ends f).noticed ≡ false → (s.ends f).noticed ≡ false) → HasNumbers f (x, t) [] [] [] [] → Move s x t f
  sent : (m : Message) → (s.ends f).outward ≡ outward.Idle → (t.ends f).outward ≡ outward.Waiting m → (t.ends f).sent ≡ (s.ends f).sent + 1 → HasNumbers f (x, t) (((s.ends f).sent + 1) ∷ []) [] [] [] → Move s x t f
  matched : (m : Message) → (s.ends f).outward ≡ outward.Waiting m → (t.ends f).outward ≡ outward.Matched m → (t.ends f).sent ≡ (s.ends f).sent → x ≡ step.Match f (s.ends f).sent → HasNumbers f (x, t) [] ((s.ends f).sent ∷ []) [] [] → Move s x t f
  taken : (m : Message) (p : Pid) (late : Bool) → (s.ends f).outward ≡ outward.Matched m → (t.ends f).outward ≡ outward.Taken → (t.ends f).sent ≡ (s.ends f).sent → x ≡ step.Take f (s.ends f).sent p late
      → (s.ends (opposite f)).place ≡ place.Owned p → HasNumbers f (x, t) [] [] ((s.ends f).sent ∷ []) [] → Move s x t f
  completed : (s.ends f).outward ≡ outward.Taken → (t.ends f).outward ≡ outward.Unreported → (t.ends f).sent ≡ (s.ends f).sent → HasNumbers f (x, t) [] [] [] ((s.ends f).sent ∷ []) → Move s x t f
  over : ((t.ends f).outward ≡ outward.Idle) ⊎ (((t.ends f).outward ≡ outward.Unreported) × ((t.ends f).noticed ≡ true)) → (t.ends f).sent ≡ (s.ends f).sent → HasNumbers f (x, t) [] [] [] [] → Move s x t f

pub still-as : (s : State) (x : ServiceStep) (t : State) (f : EndId) → sends_of (t.ends f) ≡ sends_of (s.ends f) → HasNumbers f (x, t) [] [] [] [] → Move s x t f
still-as s x t f same numbers = still (ap (λ z. z.outward) same) (ap (λ z. z.sent) same) (λ open_yet. sym (ap (λ z. z.noticed) same) ∙ open_yet) numbers

pub number-its : (f e : EndId) (n : ℕ) → f ≡ e → number_on f e n ≡ n ∷ []
number-its f e n same = ap (λ b. if b then n ∷ [] else []) (subst (λ z. end_eq f z ≡ true) same (end_eq-refl f))

pub number-other : (f e : EndId) (n : ℕ) → end_eq f e ≡ false → number_on f e n ≡ []
number-other f e n apart = ap (λ b. if b then n ∷ [] else []) apart

pub same-number : (m n : ℕ) → nat_eq m n ≡ true → m ≡ n
same-number m n is = by (eqb_tells m n)
  where
    by : ((nat_eq m n ≡ true) × (m ≡ n)) ⊎ ((nat_eq m n ≡ false) × (m ≢ n)) → m ≡ n
    by (inl same) = same.1
    by (inr apart) = absurd (true≢false (sym is ∙ apart.0))

-- an end is f or not
module _ (s : State) (x : ServiceStep) (t : State) (f : EndId) (e : EndId) where
  pub move-by : (f ≡ e → Move s x t f) → (end_eq f e ≡ false → Move s x t f) → Move s x t f
  move-by its others = by (end_eq f e) refl
    where
      by : (b : Bool) → end_eq f e ≡ b → Move s x t f
      by true same = its (end_eq-same f e same)
      by false apart = others apart

-- other ends than the one that is put send the same
pub puts-apart : (e f : EndId) (x : End) (t : EndId → End) → end_eq f e ≡ false → puts e x t f ≡ t f
puts-apart e f x t apart = puts-other e x t f (by (end_eq e f) refl)
  where
    by : (b : Bool) → end_eq e f ≡ b → b ≡ false
    by true same = absurd (end_eq-apart f e apart (sym (end_eq-same e f same)))
    by false is = refl

-- a table where the send of e is over, or the same
module _ (s : State) (x : ServiceStep) (t : State) (f e : EndId) (y : End) (at : Place) (xs : List EndId) (numbers : HasNumbers f (x, t) [] [] [] []) (ends : t.ends ≡ places at xs (puts e y s.ends)) where
  whole : sends_of (t.ends f) ≡ sends_of (puts e y s.ends f)
  whole = ap (λ g. sends_of (g f)) ends ∙ places-sends at xs (puts e y s.ends) f

  pub move-over : ((y.outward ≡ outward.Idle) ⊎ ((y.outward ≡ outward.Unreported) × (y.noticed ≡ true))) ⊎ ((y.outward ≡ (s.ends e).outward) × ((y.noticed ≡ false) → (s.ends e).noticed ≡ false)) → y.sent ≡ (s.ends e).sent → Move s x t f
  move-over over_or number = move-by s x t f e its (λ apart. still-as s x t f (whole ∙ ap sends_of (puts-apart e f y s.ends apart)) numbers)
    where
      stays : f ≡ e → puts e y s.ends f ≡ y → ((y.outward ≡ outward.Idle) ⊎ ((y.outward ≡ outward.Unreported) × (y.noticed ≡ true))) ⊎ ((y.outward ≡ (s.ends e).outward) × ((y.noticed ≡ false) → (s.ends e).noticed ≡ false)) → Move s x t f
      stays same put (inl (inl idle)) = over (inl (ap (λ z. z.outward) (whole ∙ ap sends_of put) ∙ idle)) (ap (λ z. z.sent) (whole ∙ ap sends_of put) ∙ number ∙ sym (ap (λ z. (s.ends z).sent) same)) numbers
      stays same put (inl (inr both)) =
          over (inr (ap (λ z. z.outward) (whole ∙ ap sends_of put) ∙ both.0, ap (λ z. z.noticed) (whole ∙ ap sends_of put) ∙ both.1)) (ap (λ z. z.sent) (whole ∙ ap sends_of put) ∙ number ∙ sym (ap (λ z. (s.ends z).sent) same)) numbers
      stays same put (inr both) =
          still (ap (λ z. z.outward) (whole ∙ ap sends_of put) ∙ both.0 ∙ sym (ap (λ z. (s.ends z).outward) same)) (ap (λ z. z.sent) (whole ∙ ap sends_of put) ∙ number ∙ sym (ap (λ z. (s.ends z).sent) same))
          (λ open_yet. ap (λ z. (s.ends z).noticed) same ∙ both.1 (sym (ap (λ z. z.noticed) (whole ∙ ap sends_of put)) ∙ open_yet)) numbers

      its : f ≡ e → Move s x t f
      its same = by (puts-either e y s.ends)
        where
          by : (puts e y s.ends e ≡ y) ⊎ (puts e y s.ends e ≡ s.ends e) → Move s x t f
          by (inl put) = stays same (subst (λ z. puts e y s.ends z ≡ y) (sym same) put) over_or
          by (inr not) = still-as s x t f (whole ∙ ap sends_of (subst (λ z. puts e y s.ends z ≡ s.ends z) (sym same) not)) numbers

pub none : (f : EndId) (x : ServiceStep) (t : State) → send_number f (x, t) ≡ [] → match_number f (x, t) ≡ [] → take_number f (x, t) ≡ [] → complete_number f (x, t) ≡ [] → HasNumbers f (x, t) [] [] [] []
none f x t a b c d = record { sends = a; matches = b; takes = c; completes = d }

-- a send of an end that is destroyed is as it was, or dropped
dropped-or : (out : Outward) → (dropped out ≡ outward.Idle) ⊎ (dropped out ≡ out)
dropped-or outward.Idle = inr refl
dropped-or (outward.Waiting m) = inl refl
dropped-or (outward.Matched m) = inr refl
dropped-or outward.Taken = inr refl
dropped-or outward.Unreported = inr refl

abbrev IsEnded : End → End → Type 0
IsEnded x y = (sends_of y ≡ sends_of x) ⊎ ((y.outward ≡ outward.Idle) × (y.sent ≡ x.sent))

ended-ended : (x y z : End) → IsEnded x y → IsEnded y z → IsEnded x z
ended-ended x y z (inl a) (inl b) = inl (b ∙ a)
ended-ended x y z (inl a) (inr b) = inr (b.0, b.1 ∙ ap (λ w. w.sent) a)
ended-ended x y z (inr a) (inl b) = inr (ap (λ w. w.outward) b ∙ a.0, ap (λ w. w.sent) b ∙ a.1)
ended-ended x y z (inr a) (inr b) = inr (b.0, b.1 ∙ a.1)

pub destroys-ended : (e : EndId) (t : EndId → End) (q : EndId) → IsEnded (t q) (destroys e t q)
unfolding destroys
destroys-ended e t q = by (end_eq q e) refl
  where
    whole : sends_of (places place.Destroyed (carried_by (waiting_message (t e).outward)) (puts e (record (t e) { place = place.Destroyed; outward = dropped (t e).outward }) t) q) ≡ sends_of (puts e (record (t e) { place = place.Destroyed; outward = dropped (t e).outward }) t q)
    whole = places-sends place.Destroyed (carried_by (waiting_message (t e).outward)) (puts e (record (t e) { place = place.Destroyed; outward = dropped (t e).outward }) t) q

    at_e : (puts e (record (t e) { place = place.Destroyed; outward = dropped (t e).outward }) t e ≡ record (t e) { place = place.Destroyed; outward = dropped (t e).outward }) ⊎ (puts e (record (t e) { place = place.Destroyed; outward = dropped (t e).outward }) t e ≡ t e)
        → (dropped (t e).outward ≡ outward.Idle) ⊎ (dropped (t e).outward ≡ (t e).outward) → IsEnded (t e) (puts e (record (t e) { place = place.Destroyed; outward = dropped (t e).outward }) t e)
    at_e (inr same) either = inl (ap sends_of same)
    at_e (inl put) (inl idle) = inr (ap (λ z. z.outward) put ∙ idle, ap (λ z. z.sent) put)
    at_e (inl put) (inr same) = inl (ap sends_of put ∙ ap (λ o. record { place = place.Unmade; outward = o; inward = inward.Idle; sent = (t e).sent; noticed = (t e).noticed }) same)

    by : (b : Bool) → end_eq q e ≡ b → IsEnded (t q) (places place.Destroyed (carried_by (waiting_message (t e).outward)) (puts e (record (t e) { place = place.Destroyed; outward = dropped (t e).outward }) t) q)
    by true same =
        ended-ended (t q) (puts e (record (t e) { place = place.Destroyed; outward = dropped (t e).outward }) t q)
        (places place.Destroyed (carried_by (waiting_message (t e).outward)) (puts e (record (t e) { place = place.Destroyed; outward = dropped (t e).outward }) t) q)
        (subst (λ z. IsEnded (t z) (puts e (record (t e) { place = place.Destroyed; outward = dropped (t e).outward }) t z)) (sym (end_eq-same q e same)) (at_e (puts-either e (record (t e) { place = place.Destroyed; outward = dropped (t e).outward }) t) (dropped-or (t e).outward))) (inl whole)
    by false apart = inl (whole ∙ ap sends_of (puts-apart e q (record (t e) { place = place.Destroyed; outward = dropped (t e).outward }) t apart))

pub destroys_each-ended : (p : Pid) (mine : List EndId) (t : EndId → End) (q : EndId) → IsEnded (t q) (destroys_each p mine t q)
unfolding destroys_each destroys_owned
destroys_each-ended p [] t q = inl refl
destroys_each-ended p (e ∷ mine) t q = ended-ended (t q) (destroys_owned p e t q) (destroys_each p mine (destroys_owned p e t) q) (by (is_owned_by p (t e).place)) (destroys_each-ended p mine (destroys_owned p e t) q)
  where
    by : (b : Bool) → IsEnded (t q) ((if b then destroys e t else t) q)
    by true = destroys-ended e t q
    by false = inl refl

pub move-ended : (s : State) (x : ServiceStep) (t : State) (f : EndId) → HasNumbers f (x, t) [] [] [] [] → IsEnded (s.ends f) (t.ends f) → Move s x t f
move-ended s x t f numbers (inl same) = still-as s x t f same numbers
move-ended s x t f numbers (inr idle) = over (inl idle.0) idle.1 numbers

-- make: a new end is idle, as it was before it was made
pub makes-sends : (p : Pid) (a b : EndId) (t : EndId → End) (q : EndId) → sends_of (t a) ≡ sends_of unmade → sends_of (t b) ≡ sends_of unmade → sends_of (makes p a b t q) ≡ sends_of (t q)
unfolding makes
makes-sends p a b t q at_a at_b = by (end_eq b q) refl (end_eq a q) refl
  where
    by : (x : Bool) → end_eq b q ≡ x → (y : Bool) → end_eq a q ≡ y → sends_of (put (put t a (fresh (place.Owned p))) b (fresh (place.Owned p)) q) ≡ sends_of (t q)
    by true same y is =
        subst (λ z. sends_of (put (put t a (fresh (place.Owned p))) b (fresh (place.Owned p)) z) ≡ sends_of (t z)) (end_eq-same b q same) (ap sends_of (put-at (put t a (fresh (place.Owned p))) b (fresh (place.Owned p))) ∙ sym at_b)
    by false apart true same =
        ap sends_of (put-other (put t a (fresh (place.Owned p))) b (fresh (place.Owned p)) q apart)
        ∙ subst (λ z. sends_of (put t a (fresh (place.Owned p)) z) ≡ sends_of (t z)) (end_eq-same a q same) (ap sends_of (put-at t a (fresh (place.Owned p))) ∙ sym at_a)
    by false apart false neither = ap sends_of (put-other (put t a (fresh (place.Owned p))) b (fresh (place.Owned p)) q apart ∙ put-other t a (fresh (place.Owned p)) q neither)

idle-out : (out : Outward) → is_idle_outward out ≡ true → out ≡ outward.Idle
idle-out outward.Idle is = refl
idle-out (outward.Waiting m) is = absurd (true≢false (sym is))
idle-out (outward.Matched m) is = absurd (true≢false (sym is))
idle-out outward.Taken is = absurd (true≢false (sym is))
idle-out outward.Unreported is = absurd (true≢false (sym is))

-- what may be sent
pub may-sent : (s : State) (e : EndId) (n : ℕ) (xs : List EndId) → may_send s e n xs ≡ true → (is_made (s.ends e).place ≡ true) × ((s.ends e).outward ≡ outward.Idle) × (n ≡ (s.ends e).sent + 1)
may-sent s e n xs may = by (owner (s.ends e).place) refl may
  where
    by : (o : Option Pid) → owner (s.ends e).place ≡ o → may_send_as s o e n xs ≡ true → (is_made (s.ends e).place ≡ true) × ((s.ends e).outward ≡ outward.Idle) × (n ≡ (s.ends e).sent + 1)
    by None is may = absurd (true≢false (sym may))
    by (Some p) is may =
        let three = and-true _ _ (and-true _ _ may).0 in
        let both = and-true _ _ three.0 in
        (made-owned (s.ends e).place p (owner-Owned (s.ends e).place p is), idle-out (s.ends e).outward (not-false _ (none-first _ cause.Busy _ (none-first _ cause.NoEnd _ both.1).1).0), same-number n ((s.ends e).sent + 1) three.1)

-- a send of an end whose death is noticed is as it was, or over
pub noticed-or : (out : Outward) → (noticed_outward out ≡ outward.Unreported) ⊎ (noticed_outward out ≡ out)
noticed-or outward.Idle = inr refl
noticed-or (outward.Waiting m) = inl refl
noticed-or (outward.Matched m) = inr refl
noticed-or outward.Taken = inr refl
noticed-or outward.Unreported = inr refl
