-- What a step leaves of places: a destroyed end stays destroyed. And why a message is outstanding no more.
use Rattle.std.proofs.Common.{◌≡◌, ℕ, Bool, true, false, true≢false, ◌||◌, not, ◌⊎◌, inl, inr, if◌then◌else◌, Option, Some, None, List, [], ◌∷◌, Contains, slice_get, refl, sym, ap, subst, ◌∙◌, arith}
use Rattle.std.specs.List.{list_any}
use Rattle.charlotte_calls.proofs.Causes.{AllFail, none-fails}
use Rattle.charlotte_calls.specs.Causes.{send_causes}
use Rattle.charlotte_calls.specs.Names.{opposite}
use Rattle.charlotte_calls.specs.declared.calls.Report.{Report}
use Rattle.charlotte_calls.specs.declared.calls.ServiceStep.{ServiceStep}
use Rattle.charlotte_calls.specs.declared.calls.ServiceStep.TheVariants as step
use Rattle.charlotte_calls.specs.declared.names.EndId.{EndId}
use Rattle.charlotte_calls.specs.declared.names.LinkId.{LinkId}
use Rattle.charlotte_calls.specs.declared.names.Pid.{Pid}
use Rattle.charlotte_calls.specs.declared.names.Way.{Way}
use Rattle.charlotte_calls.specs.declared.names.Way.TheVariants as way
use Rattle.service_change.proofs.Change.{none-some}
use Rattle.service_change.proofs.Counts.{and-true}
use Rattle.service_change.proofs.EndEq.{among, among-Contains, end_eq-same, opposite-opposite, places-other, put-other}
use Rattle.service_change.proofs.Facts.{busy-inward, busy-made, busy-outward, not-true, put_process-at, taken-Taken}
use Rattle.service_lawful.specs.Consistent.{IsConsistent, is_over}
use Rattle.service_runs.proofs.Moves.{may-sent, places-sends, puts-apart, puts-either, sends_of, turns_inward-sends}
use Rattle.service_step.specs.Causes.{sees}
use Rattle.service_step.specs.Ends.{end_eq, carried_by, destroys, destroys_each, destroys_owned, dropped, fresh, idles, is_destroyed, is_living, is_made, is_owned_by, is_unreported_inward, is_unreported_outward, makes, matched_message, matched_outward, matches, noticed_end, notices, owner, places, put, puts, returned_end, returns, starts_send, takes, to_owner, turns_inward, turns_outward, waiting_message, withdraws_send}
use Rattle.service_step.specs.Lawful.{IsHeldAt, message_of}
use Rattle.service_step.specs.State.{State, ends_process, next_link, no_process}
use Rattle.service_step.specs.Steps.{IsServiceStep, after_cancel, is_new_pair, may_send, may_send_as}
use Rattle.service_step.specs.declared.state.End.{End}
use Rattle.service_step.specs.declared.state.Inward.{Inward}
use Rattle.service_step.specs.declared.state.Inward.TheVariants as inward
use Rattle.service_step.specs.declared.state.Message.{Message}
use Rattle.service_step.specs.declared.state.Outward.{Outward}
use Rattle.service_step.specs.declared.state.Outward.TheVariants as outward
use Rattle.service_step.specs.declared.state.Phase.TheVariants as phase
use Rattle.service_step.specs.declared.state.Place.{Place}
use Rattle.service_step.specs.declared.state.Place.TheVariants as place

abbrev pub IsGone : (EndId → End) → EndId → Type 0
IsGone t q = (t q).place ≡ place.Destroyed

-- tables in which a destroyed end stays so

puts-gone : (e : EndId) (y : End) (t : EndId → End) (q : EndId) → (y.place ≡ (t e).place) ⊎ (y.place ≡ place.Destroyed) → IsGone t q → IsGone (puts e y t) q
puts-gone e y t q either gone = by (end_eq q e) refl
  where
    its : IsGone t e → (puts e y t e ≡ y) ⊎ (puts e y t e ≡ t e) → (y.place ≡ (t e).place) ⊎ (y.place ≡ place.Destroyed) → IsGone (puts e y t) e
    its g (inl put) (inl same) = ap (λ z. z.place) put ∙ same ∙ g
    its g (inl put) (inr dead) = ap (λ z. z.place) put ∙ dead
    its g (inr not) either = ap (λ z. z.place) not ∙ g

    by : (b : Bool) → end_eq q e ≡ b → IsGone (puts e y t) q
    by true same = let is = end_eq-same q e same in subst (IsGone (puts e y t)) (sym is) (its (subst (IsGone t) is gone) (puts-either e y t) either)
    by false apart = ap (λ z. z.place) (puts-apart e q y t apart) ∙ gone

places-gone : (xs : List EndId) (t : EndId → End) (q : EndId) → IsGone t q → IsGone (places place.Destroyed xs t) q
unfolding places
places-gone [] t q gone = gone
places-gone (x ∷ xs) t q gone = places-gone xs (puts x (record (t x) { place = place.Destroyed }) t) q (puts-gone x (record (t x) { place = place.Destroyed }) t q (inr refl) gone)

places-aside : (at : Place) (xs : List EndId) (t : EndId → End) (q : EndId) → among q xs ≡ false → IsGone t q → IsGone (places at xs t) q
places-aside at xs t q none gone = ap (λ z. z.place) (places-other at xs t q none) ∙ gone

owner-gone : (o : Option Pid) (xs : List EndId) (t : EndId → End) (q : EndId) → among q xs ≡ false → IsGone t q → IsGone (to_owner o xs t) q
owner-gone None xs t q none gone = gone
owner-gone (Some p) xs t q none gone = places-aside (place.Owned p) xs t q none gone

turns_inward-gone : (i : Inward) (e : EndId) (t : EndId → End) (q : EndId) → IsGone t q → IsGone (turns_inward i e t) q
unfolding turns_inward
turns_inward-gone i e t q gone = puts-gone e (record (t e) { inward = i }) t q (inl refl) gone

turns_outward-gone : (o : Outward) (e : EndId) (t : EndId → End) (q : EndId) → IsGone t q → IsGone (turns_outward o e t) q
unfolding turns_outward
turns_outward-gone o e t q gone = puts-gone e (record (t e) { outward = o }) t q (inl refl) gone

idles-gone : (w : Way) (e : EndId) (t : EndId → End) (q : EndId) → IsGone t q → IsGone (idles w e t) q
unfolding idles
idles-gone way.Outward e t q gone = turns_outward-gone outward.Idle e t q gone
idles-gone way.Inward e t q gone = turns_inward-gone inward.Idle e t q gone

destroys-gone : (e : EndId) (t : EndId → End) (q : EndId) → IsGone t q → IsGone (destroys e t) q
unfolding destroys
destroys-gone e t q gone = places-gone (carried_by (waiting_message (t e).outward)) _ q (puts-gone e (record (t e) { place = place.Destroyed; outward = dropped (t e).outward }) t q (inr refl) gone)

destroys_owned-gone : (p : Pid) (e : EndId) (t : EndId → End) (q : EndId) → IsGone t q → IsGone (destroys_owned p e t) q
unfolding destroys_owned
destroys_owned-gone p e t q gone = by (is_owned_by p (t e).place)
  where
    by : (b : Bool) → IsGone (if b then destroys e t else t) q
    by true = destroys-gone e t q gone
    by false = gone

destroys_each-gone : (p : Pid) (mine : List EndId) (t : EndId → End) (q : EndId) → IsGone t q → IsGone (destroys_each p mine t) q
unfolding destroys_each
destroys_each-gone p [] t q gone = gone
destroys_each-gone p (e ∷ mine) t q gone = destroys_each-gone p mine (destroys_owned p e t) q (destroys_owned-gone p e t q gone)

-- both ends of a new link are not made, and every other end stays as it was
new-unmade : (t : EndId → End) (o : Option LinkId) (a b : EndId) → is_new_pair t o a b ≡ true → (is_made (t a).place ≡ false) × (is_made (t b).place ≡ false)
new-unmade t None a b may = absurd (true≢false (sym may))
new-unmade t (Some link) a b may = let five = and-true _ _ may in (not-true _ (and-true _ _ five.0).1, not-true _ five.1)

makes-other : (p : Pid) (a b : EndId) (t : EndId → End) (q : EndId) → is_made (t a).place ≡ false → is_made (t b).place ≡ false → is_made (t q).place ≡ true → makes p a b t q ≡ t q
unfolding makes
makes-other p a b t q at_a at_b made = put-other (put t a (fresh (place.Owned p))) b (fresh (place.Owned p)) q (apart b at_b) ∙ put-other t a (fresh (place.Owned p)) q (apart a at_a)
  where
    apart : (e : EndId) → is_made (t e).place ≡ false → end_eq e q ≡ false
    apart e not = by (end_eq e q) refl
      where
        by : (c : Bool) → end_eq e q ≡ c → c ≡ false
        by true same = absurd (true≢false (sym made ∙ subst (λ z. is_made (t z).place ≡ false) (end_eq-same e q same) not))
        by false is = refl

-- an end that a message carries is not destroyed
module _ (s : State) (k : IsConsistent s) (f q : EndId) (gone : IsGone s.ends q) where
  carried-lives : (m : Message) → message_of (s.ends f).outward ≡ Some m → among q m.carried ≡ false
  carried-lives m there = by (among q m.carried) refl
    where
      differ : (s.ends q).place ≡ place.InMessage f (s.ends f).sent → ⊥
      differ inside = cc

      by : (b : Bool) → among q m.carried ≡ b → b ≡ false
      by true is = absurd (differ (k.kept.held.carried f q (s.ends f).sent (record { message = m; there = there; number = refl; carries = among-Contains q m.carried is })))
      by false none = refl

  waiting-lives : among q (carried_by (waiting_message (s.ends f).outward)) ≡ false
  waiting-lives = by (s.ends f).outward refl
    where
      by : (o : Outward) → (s.ends f).outward ≡ o → among q (carried_by (waiting_message o)) ≡ false
      by (outward.Waiting m) is = carried-lives m (ap message_of is)
      by outward.Idle is = refl
      by (outward.Matched m) is = refl
      by outward.Taken is = refl
      by outward.Unreported is = refl

  matched-lives : among q (carried_by (matched_message (s.ends f).outward)) ≡ false
  matched-lives = by (s.ends f).outward refl
    where
      by : (o : Outward) → (s.ends f).outward ≡ o → among q (carried_by (matched_message o)) ≡ false
      by (outward.Matched m) is = carried-lives m (ap message_of is)
      by outward.Idle is = refl
      by (outward.Waiting m) is = refl
      by outward.Taken is = refl
      by outward.Unreported is = refl

-- nor is one that is sent
among-any : (test : EndId → Bool) (xs : List EndId) (q : EndId) → list_any test xs ≡ false → test q ≡ true → among q xs ≡ false
among-any test [] q none is = refl
among-any test (x ∷ xs) q none is = by (end_eq q x) refl (test x) refl none (among-any test xs q)
  where
    first : (a : Bool) → a || list_any test xs ≡ false → a ≡ false
    first true none_is = absurd (true≢false none_is)
    first false none_is = refl

    by : (b : Bool) → end_eq q x ≡ b → (c : Bool) → test x ≡ c → c || list_any test xs ≡ false → (list_any test xs ≡ false → test q ≡ true → among q xs ≡ false) → b || among q xs ≡ false
    by true same c its none_is rest = absurd (true≢false (sym is ∙ ap test (end_eq-same q x same) ∙ first (test x) none))
    by false apart true its none_is rest = absurd (true≢false none_is)
    by false apart false its none_is rest = rest none_is is

owned-lives : (s : State) (e : EndId) (xs : List EndId) (q : EndId) (p : Pid) → IsGone s.ends q → AllFail (send_causes (sees p s.ends) e xs) → among q xs ≡ false
owned-lives s e xs q p gone fails = among-any (λ z. not (is_owned_by p (s.ends z).place)) xs q fails.1.1.1.0 (ap (λ at. not (is_owned_by p at)) gone)

send-lives : (s : State) (e : EndId) (n : ℕ) (xs : List EndId) (q : EndId) → may_send s e n xs ≡ true → IsGone s.ends q → among q xs ≡ false
send-lives s e n xs q may gone = by (owner (s.ends e).place) may
  where
    by : (o : Option Pid) → may_send_as s o e n xs ≡ true → among q xs ≡ false
    by None may = absurd (true≢false (sym may))
    by (Some p) may = owned-lives s e xs q p gone (none-fails (send_causes (sees p s.ends) e xs) (and-true _ _ (and-true _ _ (and-true _ _ may).0).0).1)

-- a destroyed end stays so
pub gone-stays : (s : State) (x : ServiceStep) (t : State) (q : EndId) → IsConsistent s → IsServiceStep s x t → IsGone s.ends q → IsGone t.ends q
unfolding starts_send withdraws_send matches takes notices returns
gone-stays s (step.Make p a b) t q k is gone =
    let both = new-unmade s.ends (next_link s p) a b (and-true _ _ is.allowed).1 in
    subst (λ z. IsGone z.ends q) (sym is.after) (ap (λ z. z.place) (makes-other p a b s.ends q both.0 both.1 (ap is_made gone)) ∙ gone)
gone-stays s (step.Refuse p call cause) t q k is gone = subst (λ z. IsGone z.ends q) (sym is.after) gone
gone-stays s (step.Destroy e) t q k is gone = subst (λ z. IsGone z.ends q) (sym is.after) (destroys-gone e s.ends q gone)
gone-stays s (step.Send e n bytes xs) t q k is gone =
    subst (λ z. IsGone z.ends q) (sym is.after) (places-aside (place.InMessage e n) xs _ q (send-lives s e n xs q is.allowed gone) (puts-gone e _ s.ends q (inl refl) gone))
gone-stays s (step.Receive e) t q k is gone = subst (λ z. IsGone z.ends q) (sym is.after) (turns_inward-gone inward.Posted e s.ends q gone)
gone-stays s (step.Cancel e w) t q k is gone = subst (λ z. IsGone z.ends q) (sym is.after) (by (owner (s.ends e).place) w)
  where
    by : (o : Option Pid) (w : Way) → IsGone (after_cancel o e w s).ends q
    by None w = gone
    by (Some p) way.Outward = places-aside (place.Owned p) _ _ q (waiting-lives s k e q gone) (turns_outward-gone outward.Idle e s.ends q gone)
    by (Some p) way.Inward = gone
gone-stays s (step.Wait p) t q k is gone = subst (λ z. IsGone z.ends q) (sym is.after) gone
gone-stays s (step.Report p r) t q k is gone = subst (λ z. IsGone z.ends q) (sym is.after) (idles-gone r.way r.on s.ends q gone)
gone-stays s (step.Exit p) t q k is gone = subst (λ z. IsGone z.ends q) (sym is.after.after) (destroys_each-gone p is.after.mine s.ends q gone)
gone-stays s (step.Match e n) t q k is gone = subst (λ z. IsGone z.ends q) (sym is.after) (turns_inward-gone (inward.Matched n) (opposite e) _ q (turns_outward-gone (matched_outward (s.ends e).outward) e s.ends q gone))
gone-stays s (step.Take e n p late) t q k is gone =
    subst (λ z. IsGone z.ends q) (sym is.after) (places-aside (place.Owned p) _ _ q (matched-lives s k e q gone) (turns_inward-gone inward.Unreported (opposite e) _ q (turns_outward-gone outward.Taken e s.ends q gone)))
gone-stays s (step.Complete e n) t q k is gone = subst (λ z. IsGone z.ends q) (sym is.after) (turns_outward-gone outward.Unreported e s.ends q gone)
gone-stays s (step.Withdraw e) t q k is gone = subst (λ z. IsGone z.ends q) (sym is.after) (turns_inward-gone inward.Withdrawn e s.ends q gone)
gone-stays s (step.Free e) t q k is gone = subst (λ z. IsGone z.ends q) (sym is.after) (turns_inward-gone inward.Idle e s.ends q gone)
gone-stays s (step.Notice e dead) t q k is gone = subst (λ z. IsGone z.ends q) (sym is.after) (owner-gone (owner (s.ends e).place) _ _ q (waiting-lives s k e q gone) (puts-gone e (noticed_end (s.ends e)) s.ends q (inl refl) gone))
gone-stays s (step.Back e n dead) t q k is gone = subst (λ z. IsGone z.ends q) (sym is.after) (by (is_destroyed (s.ends e).place) (s.ends e).noticed)
  where
    xs : List EndId
    xs = carried_by (matched_message (s.ends e).outward)

    by : (b c : Bool) → IsGone (if b then places place.Destroyed xs (turns_outward outward.Idle e s.ends) else to_owner (owner (s.ends e).place) xs (puts e (if c then record (s.ends e) { outward = outward.Unreported } else noticed_end (record (s.ends e) { outward = outward.Unreported })) s.ends)) q
    by true c = places-gone xs _ q (turns_outward-gone outward.Idle e s.ends q gone)
    by false true = owner-gone (owner (s.ends e).place) xs _ q (matched-lives s k e q gone) (puts-gone e _ s.ends q (inl refl) gone)
    by false false = owner-gone (owner (s.ends e).place) xs _ q (matched-lives s k e q gone) (puts-gone e _ s.ends q (inl refl) gone)

-- where ends are destroyed each end stays as it was, or is destroyed

abbrev IsSameOrGone : (EndId → End) → (EndId → End) → EndId → Type 0
IsSameOrGone t u q = (u q ≡ t q) ⊎ IsGone u q

puts-fate : (e : EndId) (y : End) (t : EndId → End) (q : EndId) → y.place ≡ place.Destroyed → IsSameOrGone t (puts e y t) q
puts-fate e y t q dead = by (end_eq q e) refl
  where
    its : (puts e y t e ≡ y) ⊎ (puts e y t e ≡ t e) → IsSameOrGone t (puts e y t) e
    its (inl put) = inr (ap (λ z. z.place) put ∙ dead)
    its (inr not) = inl not

    by : (b : Bool) → end_eq q e ≡ b → IsSameOrGone t (puts e y t) q
    by true same = subst (IsSameOrGone t (puts e y t)) (sym (end_eq-same q e same)) (its (puts-either e y t))
    by false apart = inl (puts-apart e q y t apart)

then-fate : (t u v : EndId → End) (q : EndId) → IsSameOrGone t u q → IsSameOrGone u v q → (IsGone u q → IsGone v q) → IsSameOrGone t v q
then-fate t u v q (inl a) (inl b) stays = inl (b ∙ a)
then-fate t u v q (inr gone) later stays = inr (stays gone)
then-fate t u v q (inl a) (inr gone) stays = inr gone

places-fate : (xs : List EndId) (t : EndId → End) (q : EndId) → IsSameOrGone t (places place.Destroyed xs t) q
unfolding places
places-fate [] t q = inl refl
places-fate (x ∷ xs) t q =
    let u = puts x (record (t x) { place = place.Destroyed }) t in
    then-fate t u (places place.Destroyed xs u) q (puts-fate x (record (t x) { place = place.Destroyed }) t q refl) (places-fate xs u q) (places-gone xs u q)

destroys-fate : (e : EndId) (t : EndId → End) (q : EndId) → IsSameOrGone t (destroys e t) q
unfolding destroys
destroys-fate e t q =
    let u = puts e (record (t e) { place = place.Destroyed; outward = dropped (t e).outward }) t in
    let xs = carried_by (waiting_message (t e).outward) in
    then-fate t u (places place.Destroyed xs u) q (puts-fate e (record (t e) { place = place.Destroyed; outward = dropped (t e).outward }) t q refl) (places-fate xs u q) (places-gone xs u q)

destroys_owned-fate : (p : Pid) (e : EndId) (t : EndId → End) (q : EndId) → IsSameOrGone t (destroys_owned p e t) q
unfolding destroys_owned
destroys_owned-fate p e t q = by (is_owned_by p (t e).place)
  where
    by : (b : Bool) → IsSameOrGone t (if b then destroys e t else t) q
    by true = destroys-fate e t q
    by false = inl refl

destroys_each-fate : (p : Pid) (mine : List EndId) (t : EndId → End) (q : EndId) → IsSameOrGone t (destroys_each p mine t) q
unfolding destroys_each
destroys_each-fate p [] t q = inl refl
destroys_each-fate p (e ∷ mine) t q =
    let u = destroys_owned p e t in then-fate t u (destroys_each p mine u) q (destroys_owned-fate p e t q) (destroys_each-fate p mine u q) (destroys_each-gone p mine u q)

-- how a message of f comes to be outstanding no more
pub data Loss (x : ServiceStep) (t : State) (f : EndId) : Type 0 where
  withdrawn : x ≡ step.Cancel f way.Outward → Loss x t f
  took : (n : ℕ) (p : Pid) (late : Bool) → x ≡ step.Take f n p late → Loss x t f
  died : IsGone t.ends f → Loss x t f
  unmet : IsGone t.ends (opposite f) → Loss x t f

module _ (s : State) (x : ServiceStep) (t : State) (f : EndId) (m : Message) (there : message_of (s.ends f).outward ≡ Some m) (none : message_of (t.ends f).outward ≡ None) where
  -- the message does not stay, nor the send as it was

  not-message : message_of (t.ends f).outward ≡ message_of (s.ends f).outward → Loss x t f
  not-message same = absurd (none-some (message_of (t.ends f).outward) m none (same ∙ there))

  not-same : sends_of (t.ends f) ≡ sends_of (s.ends f) → Loss x t f
  not-same same = not-message (ap (λ z. message_of z.outward) same)

  -- so it is the end that changes
  loss-by : (e : EndId) → (f ≡ e → Loss x t f) → (end_eq f e ≡ false → sends_of (t.ends f) ≡ sends_of (s.ends f)) → Loss x t f
  loss-by e its others = by (end_eq f e) refl
    where
      by : (b : Bool) → end_eq f e ≡ b → Loss x t f
      by true same = its (end_eq-same f e same)
      by false apart = not-same (others apart)

  -- and not one whose message is none
  loss-none : (e : EndId) → message_of (s.ends e).outward ≡ None → (end_eq f e ≡ false → sends_of (t.ends f) ≡ sends_of (s.ends f)) → Loss x t f
  loss-none e before others = loss-by e (λ same. absurd (none-some (message_of (s.ends e).outward) m before (subst (λ z. message_of (s.ends z).outward ≡ Some m) same there))) others

  loss-fate : IsSameOrGone s.ends t.ends f → Loss x t f
  loss-fate (inl same) = not-same (ap sends_of same)
  loss-fate (inr gone) = died gone

-- where an end changes, and the ends of its message move, others send what they sent
others-send : (at : Place) (xs : List EndId) (e : EndId) (y : End) (t : EndId → End) (f : EndId) → end_eq f e ≡ false → sends_of (places at xs (puts e y t) f) ≡ sends_of (t f)
others-send at xs e y t f apart = places-sends at xs (puts e y t) f ∙ ap sends_of (puts-apart e f y t apart)

owner-sends : (o : Option Pid) (xs : List EndId) (e : EndId) (y : End) (t : EndId → End) (f : EndId) → end_eq f e ≡ false → sends_of (to_owner o xs (puts e y t) f) ≡ sends_of (t f)
owner-sends None xs e y t f apart = ap sends_of (puts-apart e f y t apart)
owner-sends (Some p) xs e y t f apart = others-send (place.Owned p) xs e y t f apart

turns_outward-sends : (o : Outward) (e : EndId) (t : EndId → End) (f : EndId) → end_eq f e ≡ false → sends_of (turns_outward o e t f) ≡ sends_of (t f)
unfolding turns_outward
turns_outward-sends o e t f apart = ap sends_of (puts-apart e f (record (t e) { outward = o }) t apart)

unreported-none : (o : Outward) → is_unreported_outward o ≡ true → message_of o ≡ None
unreported-none outward.Unreported is = refl
unreported-none outward.Idle is = refl
unreported-none (outward.Waiting m) is = absurd (true≢false (sym is))
unreported-none (outward.Matched m) is = absurd (true≢false (sym is))
unreported-none outward.Taken is = refl

destroyed-is : (at : Place) → is_destroyed at ≡ true → at ≡ place.Destroyed
destroyed-is place.Destroyed is = refl
destroyed-is (place.Owned p) is = absurd (true≢false (sym is))
destroyed-is (place.InMessage f n) is = absurd (true≢false (sym is))
destroyed-is place.Unmade is = absurd (true≢false (sym is))

matched-message : (o : Outward) → message_of (matched_outward o) ≡ message_of o
matched-message outward.Idle = refl
matched-message (outward.Waiting m) = refl
matched-message (outward.Matched m) = refl
matched-message outward.Taken = refl
matched-message outward.Unreported = refl

-- after a notice the opposite is destroyed, and after a back an end is
notice-loss : (s : State) (e : EndId) (dead : Bool) (t : State) → IsConsistent s → IsServiceStep s (step.Notice e dead) t → Loss (step.Notice e dead) t e
notice-loss s e dead t k is =
    unmet (gone-stays s (step.Notice e dead) t (opposite e) k is (destroyed-is (s.ends (opposite e)).place (and-true _ _ (and-true _ _ (and-true _ _ is.allowed).0).0).0))

back-loss : (s : State) (e : EndId) (n : ℕ) (dead : Bool) (t : State) → IsConsistent s → IsServiceStep s (step.Back e n dead) t → Loss (step.Back e n dead) t e
back-loss s e n dead t k is = by (is_destroyed (s.ends (opposite e)).place) refl (and-true _ _ (and-true _ _ (and-true _ _ is.allowed).0).0).1
  where
    by : (b : Bool) → is_destroyed (s.ends (opposite e)).place ≡ b → b || (s.ends (opposite e)).noticed ≡ true → Loss (step.Back e n dead) t e
    by true gone either = unmet (gone-stays s (step.Back e n dead) t (opposite e) k is (destroyed-is (s.ends (opposite e)).place gone))
    by false not noticed = died (gone-stays s (step.Back e n dead) t e k is (subst (IsGone s.ends) (opposite-opposite e) (k.noticed.opposite (opposite e) noticed)))

-- a match leaves each message
match-message : (e : EndId) (n : ℕ) (t : EndId → End) (q : EndId) → message_of (matches e n t q).outward ≡ message_of (t q).outward
unfolding matches turns_outward
match-message e n t q = ap (λ z. message_of z.outward) (turns_inward-sends (inward.Matched n) (opposite e) (puts e y t) q) ∙ by (end_eq q e) refl
  where
    y : End
    y = record (t e) { outward = matched_outward (t e).outward }

    its : (puts e y t e ≡ y) ⊎ (puts e y t e ≡ t e) → message_of (puts e y t e).outward ≡ message_of (t e).outward
    its (inl put) = ap (λ z. message_of z.outward) put ∙ matched-message (t e).outward
    its (inr not) = ap (λ z. message_of z.outward) not

    by : (b : Bool) → end_eq q e ≡ b → message_of (puts e y t q).outward ≡ message_of (t q).outward
    by true same = subst (λ z. message_of (puts e y t z).outward ≡ message_of (t z).outward) (sym (end_eq-same q e same)) (its (puts-either e y t))
    by false apart = ap (λ z. message_of z.outward) (puts-apart e q y t apart)

pub oldest-first : (rs : List Report) (r : Report) → slice_get rs 0 ≡ Some r → (later : List Report) × (rs ≡ r ∷ later)
oldest-first [] r is = absurd (none-some None r refl is)
oldest-first (x ∷ rs) r is = (rs, cc)

pub oldest-there : (rs : List Report) (r : Report) → slice_get rs 0 ≡ Some r → Contains rs r
oldest-there rs r is = let found = oldest-first rs r is in subst (λ l. Contains l r) (sym found.1) (0, (omega arith), refl)

-- each step
pub loss : (s : State) (x : ServiceStep) (t : State) (f : EndId) (m : Message) → IsConsistent s → IsServiceStep s x t → message_of (s.ends f).outward ≡ Some m → message_of (t.ends f).outward ≡ None → Loss x t f
unfolding idles starts_send withdraws_send matches takes notices returns
loss s (step.Make p a b) t f m k is there none =
    let both = new-unmade s.ends (next_link s p) a b (and-true _ _ is.allowed).1 in
    not-same s _ t f m there none (ap (λ z. sends_of (z.ends f)) is.after ∙ ap sends_of (makes-other p a b s.ends f both.0 both.1 (busy-made s f k (busy-outward (s.ends f) (λ idle. none-some (message_of (s.ends f).outward) m (ap message_of idle) there)))))
loss s (step.Refuse p call cause) t f m k is there none = not-same s _ t f m there none (ap (λ z. sends_of (z.ends f)) is.after)
loss s (step.Destroy e) t f m k is there none = loss-fate s _ t f m there none (subst (λ z. IsSameOrGone s.ends z.ends f) (sym is.after) (destroys-fate e s.ends f))
loss s (step.Send e n bytes xs) t f m k is there none =
    loss-none s _ t f m there none e (ap message_of (may-sent s e n xs is.allowed).1) (λ apart. ap (λ z. sends_of (z.ends f)) is.after ∙ others-send (place.InMessage e n) xs e _ s.ends f apart)
loss s (step.Receive e) t f m k is there none = not-same s _ t f m there none (ap (λ z. sends_of (z.ends f)) is.after ∙ turns_inward-sends inward.Posted e s.ends f)
loss s (step.Cancel e way.Outward) t f m k is there none = by (owner (s.ends e).place) is.after
  where
    by : (o : Option Pid) → t ≡ after_cancel o e way.Outward s → Loss (step.Cancel e way.Outward) t f
    by None after = not-same s _ t f m there none (ap (λ z. sends_of (z.ends f)) after)
    by (Some p) after =
        loss-by s _ t f m there none e (λ same. withdrawn (ap (λ z. step.Cancel z way.Outward) (sym same)))
        (λ apart. ap (λ z. sends_of (z.ends f)) after ∙ places-sends (place.Owned p) _ _ f ∙ turns_outward-sends outward.Idle e s.ends f apart)
loss s (step.Cancel e way.Inward) t f m k is there none = by (owner (s.ends e).place) is.after
  where
    by : (o : Option Pid) → t ≡ after_cancel o e way.Inward s → Loss (step.Cancel e way.Inward) t f
    by None after = not-same s _ t f m there none (ap (λ z. sends_of (z.ends f)) after)
    by (Some p) after = not-same s _ t f m there none (ap (λ z. sends_of (z.ends f)) after)
loss s (step.Wait p) t f m k is there none = not-same s _ t f m there none (ap (λ z. sends_of (z.ends f)) is.after)
loss s (step.Report p r) t f m k is there none = by r.way refl (ap (λ z. z.ends) is.after)
  where
    by : (w : Way) → r.way ≡ w → t.ends ≡ idles w r.on s.ends → Loss (step.Report p r) t f
    by way.Outward sent after =
        loss-none s _ t f m there none r.on
        (unreported-none (s.ends r.on).outward (subst (λ w. is_over w (s.ends r.on) ≡ true) sent (k.reported.over p r (oldest-there (s.process p.0).reports r is.allowed.1))))
        (λ apart. ap (λ g. sends_of (g f)) after ∙ turns_outward-sends outward.Idle r.on s.ends f apart)
    by way.Inward received after = not-same s _ t f m there none (ap (λ g. sends_of (g f)) after ∙ turns_inward-sends inward.Idle r.on s.ends f)
loss s (step.Exit p) t f m k is there none = loss-fate s _ t f m there none (subst (λ z. IsSameOrGone s.ends z.ends f) (sym is.after.after) (destroys_each-fate p is.after.mine s.ends f))
loss s (step.Match e n) t f m k is there none = not-message s _ t f m there none (ap (λ z. message_of (z.ends f).outward) is.after ∙ match-message e n s.ends f)
loss s (step.Take e n p late) t f m k is there none =
    loss-by s _ t f m there none e (λ same. took n p late (ap (λ z. step.Take z n p late) (sym same)))
    (λ apart. ap (λ z. sends_of (z.ends f)) is.after ∙ places-sends (place.Owned p) _ _ f ∙ turns_inward-sends inward.Unreported (opposite e) _ f ∙ turns_outward-sends outward.Taken e s.ends f apart)
loss s (step.Complete e n) t f m k is there none =
    loss-none s _ t f m there none e (ap message_of (taken-Taken (s.ends e).outward (and-true _ _ (and-true _ _ is.allowed).0).0)) (λ apart. ap (λ z. sends_of (z.ends f)) is.after ∙ turns_outward-sends outward.Unreported e s.ends f apart)
loss s (step.Withdraw e) t f m k is there none = not-same s _ t f m there none (ap (λ z. sends_of (z.ends f)) is.after ∙ turns_inward-sends inward.Withdrawn e s.ends f)
loss s (step.Free e) t f m k is there none = not-same s _ t f m there none (ap (λ z. sends_of (z.ends f)) is.after ∙ turns_inward-sends inward.Idle e s.ends f)
loss s (step.Notice e dead) t f m k is there none =
    loss-by s _ t f m there none e (λ same. subst (Loss (step.Notice e dead) t) (sym same) (notice-loss s e dead t k is))
    (λ apart. ap (λ z. sends_of (z.ends f)) is.after ∙ owner-sends (owner (s.ends e).place) _ e (noticed_end (s.ends e)) s.ends f apart)
loss s (step.Back e n dead) t f m k is there none =
    loss-by s _ t f m there none e (λ same. subst (Loss (step.Back e n dead) t) (sym same) (back-loss s e n dead t k is)) (λ apart. ap (λ z. sends_of (z.ends f)) is.after ∙ others apart (is_destroyed (s.ends e).place))
  where
    xs : List EndId
    xs = carried_by (matched_message (s.ends e).outward)

    others : end_eq f e ≡ false → (b : Bool) → sends_of ((if b then places place.Destroyed xs (turns_outward outward.Idle e s.ends) else to_owner (owner (s.ends e).place) xs (puts e (returned_end (s.ends e)) s.ends)) f) ≡ sends_of (s.ends f)
    others apart true = places-sends place.Destroyed xs _ f ∙ turns_outward-sends outward.Idle e s.ends f apart
    others apart false = owner-sends (owner (s.ends e).place) xs e (returned_end (s.ends e)) s.ends f apart

-- an end whose owner ends is destroyed
pub exit-gone : (s : State) (p : Pid) (t : State) (q : EndId) → IsConsistent s → IsConsistent t → IsServiceStep s (step.Exit p) t → is_unreported_inward (s.ends q).inward ≡ true → (is_living (s.ends q).place ≡ true → (s.ends q).place ≡ place.Owned p) → IsGone t.ends q
unfolding ends_process
exit-gone s p t q k after is over own = by (s.ends q).place refl
  where
    busy : (s.ends q).inward ≡ inward.Idle → ⊥
    busy idle = true≢false (sym over ∙ ap is_unreported_inward idle)

    ended : (t.process p.0).phase ≡ phase.Ended
    ended = ap (λ z. (z.process p.0).phase) is.after.after ∙ ap (λ z. z.phase) (put_process-at p no_process s.process)

    not-owned : (t.ends q).place ≡ place.Owned p → ⊥
    not-owned owned = subst (IsHeldAt t q) owned (after.kept.held.held q) ended

    of-owned : (s.ends q).place ≡ place.Owned p → IsSameOrGone s.ends t.ends q → IsGone t.ends q
    of-owned owned (inl same) = absurd (not-owned (ap (λ z. z.place) same ∙ owned))
    of-owned owned (inr gone) = gone

    fate : IsSameOrGone s.ends t.ends q
    fate = subst (λ z. IsSameOrGone s.ends z.ends q) (sym is.after.after) (destroys_each-fate p is.after.mine s.ends q)

    by : (at : Place) → (s.ends q).place ≡ at → IsGone t.ends q
    by place.Destroyed is_gone = gone-stays s (step.Exit p) t q k is is_gone
    by place.Unmade not = absurd (true≢false (sym (busy-made s q k (busy-inward (s.ends q) busy)) ∙ ap is_made not))
    by (place.Owned r) its = of-owned (own (ap is_living its)) fate
    by (place.InMessage f n) its = of-owned (own (ap is_living its)) fate
