-- What the words of the service leave of which ends live, know of the death of their link, and are destroyed.
use Rattle.std.proofs.Common.{◌≡◌, ◌⊎◌, inl, inr, ℕ, Bool, true, false, true≢false, if◌then◌else◌, List, [], ◌∷◌, Contains, Option, None, Some, refl, sym, ap, subst, ◌∙◌}
use Rattle.charlotte_calls.specs.Names.{opposite}
use Rattle.charlotte_calls.specs.declared.names.EndId.{EndId}
use Rattle.charlotte_calls.specs.declared.names.Pid.{Pid}
use Rattle.charlotte_calls.specs.declared.names.Way.{Way}
use Rattle.charlotte_calls.specs.declared.names.Way.TheVariants as way
use Rattle.service_change.proofs.Change.{living-made}
use Rattle.service_change.proofs.EndEq.{among, among-Contains, end_eq-refl, end_eq-same, places-among, places-other, puts-at, puts-other}
use Rattle.service_lawful.specs.Consistent.{IsConsistent}
use Rattle.service_runs.proofs.Moves.{puts-either}
use Rattle.service_step.specs.Ends.{carried_by, end_eq, idles, is_destroyed, is_living, is_made, matched_message, matched_outward, matches, noticed_end, notices, owner, places, puts, returned_end, returns, starts_send, takes, to_owner, turns_inward, turns_outward, waiting_message, withdraws_send}
use Rattle.service_step.specs.Lawful.{message_of}
use Rattle.service_step.specs.State.{State}
use Rattle.service_step.specs.declared.state.End.{End}
use Rattle.service_step.specs.declared.state.Inward.{Inward}
use Rattle.service_step.specs.declared.state.Inward.TheVariants as inward
use Rattle.service_step.specs.declared.state.Message.{Message}
use Rattle.service_step.specs.declared.state.Outward.{Outward}
use Rattle.service_step.specs.declared.state.Outward.TheVariants as outward
use Rattle.service_step.specs.declared.state.Place.{Place}
use Rattle.service_step.specs.declared.state.Place.TheVariants as place
use Rattle.theorem_effects.proofs.Lists.{none-there}
use Rattle.theorem_meaning.proofs.Ends.{apart-false}
use Rattle.trace_link.specs.Calm.{AreAsOpen}
use Rattle.trace_link.specs.Closing.{IsDying, aware}

pub as-open-same : (t : EndId → End) → AreAsOpen t t
as-open-same t = record { living = λ e. refl; noticed = λ e. refl; destroyed = λ e dead. dead }

pub as-open-on : {t u v : EndId → End} → AreAsOpen t u → AreAsOpen u v → AreAsOpen t v
as-open-on one other = record { living = λ e. other.living e ∙ one.living e; noticed = λ e. other.noticed e ∙ one.noticed e; destroyed = λ e dead. other.destroyed e (one.destroyed e dead) }

-- an end that is put, or one that stays
puts-case : (e : EndId) (x : End) (t : EndId → End) (q : EndId) → ((e ≡ q) × (puts e x t q ≡ x)) ⊎ (puts e x t q ≡ t q)
puts-case e x t q = by (end_eq e q) refl
  where
    at_e : (puts e x t e ≡ x) ⊎ (puts e x t e ≡ t e) → ((e ≡ e) × (puts e x t e ≡ x)) ⊎ (puts e x t e ≡ t e)
    at_e (inl put) = inl (refl, put)
    at_e (inr same) = inr same

    by : (b : Bool) → end_eq e q ≡ b → ((e ≡ q) × (puts e x t q ≡ x)) ⊎ (puts e x t q ≡ t q)
    by true same = subst (λ z. ((e ≡ z) × (puts e x t z ≡ x)) ⊎ (puts e x t z ≡ t z)) (end_eq-same e q same) (at_e (puts-either e x t))
    by false apart = inr (puts-other e x t q apart)

pub puts-open : (e : EndId) (x : End) (t : EndId → End) → x.place ≡ (t e).place → x.noticed ≡ (t e).noticed → AreAsOpen t (puts e x t)
puts-open e x t place_same noticed_same =
    record { living = λ q. ap (λ z. is_living z) (its_place q (puts-case e x t q)); noticed = λ q. its_noticed q (puts-case e x t q); destroyed = λ q dead. its_place q (puts-case e x t q) ∙ dead }
  where
    its_place : (q : EndId) → ((e ≡ q) × (puts e x t q ≡ x)) ⊎ (puts e x t q ≡ t q) → (puts e x t q).place ≡ (t q).place
    its_place q (inl its) = ap (λ (z : End). z.place) its.1 ∙ place_same ∙ ap (λ z. (t z).place) its.0
    its_place q (inr same) = ap (λ (z : End). z.place) same

    its_noticed : (q : EndId) → ((e ≡ q) × (puts e x t q ≡ x)) ⊎ (puts e x t q ≡ t q) → (puts e x t q).noticed ≡ (t q).noticed
    its_noticed q (inl its) = ap (λ (z : End). z.noticed) its.1 ∙ noticed_same ∙ ap (λ z. (t z).noticed) its.0
    its_noticed q (inr same) = ap (λ (z : End). z.noticed) same

-- ends that live come to another place
pub places-open : (at : Place) (xs : List EndId) (t : EndId → End) → is_living at ≡ true → ((q : EndId) → Contains xs q → is_living (t q).place ≡ true) → AreAsOpen t (places at xs t)
places-open at xs t lives each = record { living = λ q. living q (case q); noticed = λ q. noticed q (case q); destroyed = λ q dead. destroyed q dead (case q) }
  where
    case : (q : EndId) → ((is_living (t q).place ≡ true) × (places at xs t q ≡ record (t q) { place = at })) ⊎ (places at xs t q ≡ t q)
    case q = by (among q xs) refl
      where
        by : (b : Bool) → among q xs ≡ b → ((is_living (t q).place ≡ true) × (places at xs t q ≡ record (t q) { place = at })) ⊎ (places at xs t q ≡ t q)
        by true is = let alive = each q (among-Contains q xs is) in inl (alive, places-among at xs t q (living-made at lives) is (living-made (t q).place alive))
        by false none = inr (places-other at xs t q none)

    living : (q : EndId) → ((is_living (t q).place ≡ true) × (places at xs t q ≡ record (t q) { place = at })) ⊎ (places at xs t q ≡ t q) → is_living (places at xs t q).place ≡ is_living (t q).place
    living q (inl its) = ap (λ (z : End). is_living z.place) its.1 ∙ lives ∙ sym its.0
    living q (inr same) = ap (λ (z : End). is_living z.place) same

    noticed : (q : EndId) → ((is_living (t q).place ≡ true) × (places at xs t q ≡ record (t q) { place = at })) ⊎ (places at xs t q ≡ t q) → (places at xs t q).noticed ≡ (t q).noticed
    noticed q (inl its) = ap (λ (z : End). z.noticed) its.1
    noticed q (inr same) = ap (λ (z : End). z.noticed) same

    destroyed : (q : EndId) → (t q).place ≡ place.Destroyed → ((is_living (t q).place ≡ true) × (places at xs t q ≡ record (t q) { place = at })) ⊎ (places at xs t q ≡ t q) → (places at xs t q).place ≡ place.Destroyed
    destroyed q dead (inl its) = absurd (true≢false (sym its.0 ∙ ap (λ z. is_living z) dead))
    destroyed q dead (inr same) = ap (λ (z : End). z.place) same ∙ dead

pub to_owner-open : (o : Option Pid) (xs : List EndId) (t : EndId → End) → ((q : EndId) → Contains xs q → is_living (t q).place ≡ true) → AreAsOpen t (to_owner o xs t)
to_owner-open None xs t each = as-open-same t
to_owner-open (Some p) xs t each = places-open (place.Owned p) xs t refl each

-- ---- an end comes to know of the death of its link

pub puts-aware : (e : EndId) (x : End) (t : EndId → End) → is_made (t e).place ≡ true → x.place ≡ (t e).place → x.noticed ≡ true → AreAsOpen (aware e t) (puts e x t)
puts-aware e x t made place_same knows = record { living = λ q. ap (λ z. is_living z) (its_place q); noticed = its_noticed; destroyed = λ q dead. its_place q ∙ dead }
  where
    each : (P : EndId → End → End → Type 0) → P e x (record (t e) { noticed = true }) → ((q : EndId) → P q (t q) (t q)) → (q : EndId) → P q (puts e x t q) (aware e t q)
    each P its others q = by (end_eq e q) refl
      where
        by : (b : Bool) → end_eq e q ≡ b → P q (puts e x t q) (if b then record (t q) { noticed = true } else t q)
        by true same = subst (λ z. P z (puts e x t z) (record (t z) { noticed = true })) (end_eq-same e q same) (subst (λ y. P e y (record (t e) { noticed = true })) (sym (puts-at e x t made)) its)
        by false apart = subst (λ y. P q y (t q)) (sym (puts-other e x t q apart)) (others q)

    its_place : (q : EndId) → (puts e x t q).place ≡ (aware e t q).place
    its_place = each (λ q y z. y.place ≡ z.place) place_same (λ q. refl)

    its_noticed : (q : EndId) → (puts e x t q).noticed ≡ (aware e t q).noticed
    its_noticed = each (λ q y z. y.noticed ≡ z.noticed) knows (λ q. refl)

-- so all others are as they were
pub aware-dying : (x : EndId) (t now : EndId → End) → AreAsOpen (aware x t) now → IsDying t now x
aware-dying x t now same =
    record {
      living = λ e. same.living e ∙ ap (λ z. is_living z) (place_same e);
      destroyed = λ e dead. same.destroyed e (place_same e ∙ dead);
      noticed = same.noticed x ∙ ap (λ b. (if b then record (t x) { noticed = true } else t x).noticed) (end_eq-refl x);
      others = λ e apart. same.noticed e ∙ ap (λ b. (if b then record (t e) { noticed = true } else t e).noticed) (apart-false x e apart);
    }
  where
    place_same : (e : EndId) → (aware x t e).place ≡ (t e).place
    place_same e = by (end_eq x e)
      where
        by : (b : Bool) → (if b then record (t e) { noticed = true } else t e).place ≡ (t e).place
        by true = refl
        by false = refl

-- ---- the words

pub turns_inward-open : (to : Inward) (e : EndId) (t : EndId → End) → AreAsOpen t (turns_inward to e t)
unfolding turns_inward
turns_inward-open to e t = puts-open e (record (t e) { inward = to }) t refl refl

pub turns_outward-open : (to : Outward) (e : EndId) (t : EndId → End) → AreAsOpen t (turns_outward to e t)
unfolding turns_outward
turns_outward-open to e t = puts-open e (record (t e) { outward = to }) t refl refl

pub idles-open : (x : Way) (e : EndId) (t : EndId → End) → AreAsOpen t (idles x e t)
unfolding idles
idles-open way.Outward e t = turns_outward-open outward.Idle e t
idles-open way.Inward e t = turns_inward-open inward.Idle e t

pub matches-open : (e : EndId) (n : ℕ) (t : EndId → End) → AreAsOpen t (matches e n t)
unfolding matches
matches-open e n t = as-open-on (turns_outward-open (matched_outward (t e).outward) e t) (turns_inward-open (inward.Matched n) (opposite e) (turns_outward (matched_outward (t e).outward) e t))

pub sends-open : (e : EndId) (n : ℕ) (m : Message) (t : EndId → End) → ((q : EndId) → Contains m.carried q → is_living (t q).place ≡ true) → AreAsOpen t (starts_send e n m t)
unfolding starts_send
sends-open e n m t each = as-open-on first (places-open (place.InMessage e n) m.carried (puts e (record (t e) { outward = outward.Waiting m; sent = n }) t) refl (λ q has. first.living q ∙ each q has))
  where
    first : AreAsOpen t (puts e (record (t e) { outward = outward.Waiting m; sent = n }) t)
    first = puts-open e (record (t e) { outward = outward.Waiting m; sent = n }) t refl refl

-- ---- what messages carry lives

carried-one : (s : State) → IsConsistent s → (e : EndId) (m : Message) → message_of (s.ends e).outward ≡ Some m → (q : EndId) → Contains m.carried q → is_living (s.ends q).place ≡ true
carried-one s is e m holds q has = ap (λ z. is_living z) (is.kept.held.carried e q (s.ends e).sent (record { message = m; there = holds; number = refl; carries = has }))

pub waiting-lives : (s : State) → IsConsistent s → (e q : EndId) → Contains (carried_by (waiting_message (s.ends e).outward)) q → is_living (s.ends q).place ≡ true
waiting-lives s is e q has = by (s.ends e).outward refl has
  where
    by : (o : Outward) → (s.ends e).outward ≡ o → Contains (carried_by (waiting_message o)) q → is_living (s.ends q).place ≡ true
    by (outward.Waiting m) at has = carried-one s is e m (ap message_of at) q has
    by outward.Idle at has = absurd (none-there q has)
    by (outward.Matched m) at has = absurd (none-there q has)
    by outward.Taken at has = absurd (none-there q has)
    by outward.Unreported at has = absurd (none-there q has)

pub matched-lives : (s : State) → IsConsistent s → (e q : EndId) → Contains (carried_by (matched_message (s.ends e).outward)) q → is_living (s.ends q).place ≡ true
matched-lives s is e q has = by (s.ends e).outward refl has
  where
    by : (o : Outward) → (s.ends e).outward ≡ o → Contains (carried_by (matched_message o)) q → is_living (s.ends q).place ≡ true
    by (outward.Matched m) at has = carried-one s is e m (ap message_of at) q has
    by outward.Idle at has = absurd (none-there q has)
    by (outward.Waiting m) at has = absurd (none-there q has)
    by outward.Taken at has = absurd (none-there q has)
    by outward.Unreported at has = absurd (none-there q has)

module _ (s : State) (is : IsConsistent s) where
  pub withdraws-open : (p : Pid) (e : EndId) → AreAsOpen s.ends (withdraws_send p e s.ends)
  unfolding withdraws_send
  withdraws-open p e =
      let first = turns_outward-open outward.Idle e s.ends in
      as-open-on first (places-open (place.Owned p) (carried_by (waiting_message (s.ends e).outward)) (turns_outward outward.Idle e s.ends) refl (λ q has. first.living q ∙ waiting-lives s is e q has))

  pub takes-open : (e : EndId) (p : Pid) → AreAsOpen s.ends (takes e p s.ends)
  unfolding takes
  takes-open e p = as-open-on both (places-open (place.Owned p) (carried_by (matched_message (s.ends e).outward)) (turns_inward inward.Unreported (opposite e) (turns_outward outward.Taken e s.ends)) refl (λ q has. both.living q ∙ matched-lives s is e q has))
    where
      both : AreAsOpen s.ends (turns_inward inward.Unreported (opposite e) (turns_outward outward.Taken e s.ends))
      both = as-open-on (turns_outward-open outward.Taken e s.ends) (turns_inward-open inward.Unreported (opposite e) (turns_outward outward.Taken e s.ends))

  pub notices-aware : (e : EndId) → is_living (s.ends e).place ≡ true → AreAsOpen (aware e s.ends) (notices e s.ends)
  unfolding notices
  notices-aware e lives =
      as-open-on first
      (to_owner-open (owner (s.ends e).place) (carried_by (waiting_message (s.ends e).outward)) (puts e (noticed_end (s.ends e)) s.ends) (λ q has. first.living q ∙ aware-living q ∙ waiting-lives s is e q has))
    where
      first : AreAsOpen (aware e s.ends) (puts e (noticed_end (s.ends e)) s.ends)
      first = puts-aware e (noticed_end (s.ends e)) s.ends (living-made (s.ends e).place lives) refl refl

      aware-living : (q : EndId) → is_living (aware e s.ends q).place ≡ is_living (s.ends q).place
      aware-living q = by (end_eq e q)
        where
          by : (b : Bool) → is_living (if b then record (s.ends q) { noticed = true } else s.ends q).place ≡ is_living (s.ends q).place
          by true = refl
          by false = refl

  -- a back at an end that lives, and knows of the death or comes to know it
  module _ (e : EndId) (lives : is_living (s.ends e).place ≡ true) where
    returns-is : returns e s.ends ≡ to_owner (owner (s.ends e).place) (carried_by (matched_message (s.ends e).outward)) (puts e (returned_end (s.ends e)) s.ends)
    unfolding returns
    returns-is = by (s.ends e).place lives
      where
        by : (y : Place) → is_living y ≡ true
            → (if is_destroyed y then places place.Destroyed (carried_by (matched_message (s.ends e).outward)) (turns_outward outward.Idle e s.ends) else to_owner (owner y) (carried_by (matched_message (s.ends e).outward)) (puts e (returned_end (s.ends e)) s.ends))
            ≡ to_owner (owner y) (carried_by (matched_message (s.ends e).outward)) (puts e (returned_end (s.ends e)) s.ends)
        by (place.Owned p) living = refl
        by (place.InMessage f n) living = refl
        by place.Destroyed living = absurd (true≢false (sym living))
        by place.Unmade living = absurd (true≢false (sym living))

    pub returns-open : (s.ends e).noticed ≡ true → AreAsOpen s.ends (returns e s.ends)
    returns-open knows = subst (AreAsOpen s.ends) (sym returns-is) (as-open-on first (to_owner-open (owner (s.ends e).place) (carried_by (matched_message (s.ends e).outward)) (puts e (returned_end (s.ends e)) s.ends) (λ q has. first.living q ∙ matched-lives s is e q has)))
      where
        kept : (b : Bool) → ((if b then record (s.ends e) { outward = outward.Unreported } else noticed_end (record (s.ends e) { outward = outward.Unreported })).place ≡ (s.ends e).place)
        kept true = refl
        kept false = refl

        first : AreAsOpen s.ends (puts e (returned_end (s.ends e)) s.ends)
        first =
            puts-open e (returned_end (s.ends e)) s.ends (kept (s.ends e).noticed)
            (ap (λ b. (if b then record (s.ends e) { outward = outward.Unreported } else noticed_end (record (s.ends e) { outward = outward.Unreported })).noticed) knows)

    pub returns-aware : (s.ends e).noticed ≡ false → AreAsOpen (aware e s.ends) (returns e s.ends)
    returns-aware free =
        subst (AreAsOpen (aware e s.ends)) (sym returns-is)
        (as-open-on first (to_owner-open (owner (s.ends e).place) (carried_by (matched_message (s.ends e).outward)) (puts e (returned_end (s.ends e)) s.ends) (λ q has. first.living q ∙ aware-living q ∙ matched-lives s is e q has)))
      where
        at_free : (P : End → Type 0) → P (noticed_end (record (s.ends e) { outward = outward.Unreported })) → P (returned_end (s.ends e))
        at_free P its = subst (λ b. P (if b then record (s.ends e) { outward = outward.Unreported } else noticed_end (record (s.ends e) { outward = outward.Unreported }))) (sym free) its

        first : AreAsOpen (aware e s.ends) (puts e (returned_end (s.ends e)) s.ends)
        first = puts-aware e (returned_end (s.ends e)) s.ends (living-made (s.ends e).place lives) (at_free (λ y. y.place ≡ (s.ends e).place) refl) (at_free (λ y. y.noticed ≡ true) refl)

        aware-living : (q : EndId) → is_living (aware e s.ends q).place ≡ is_living (s.ends q).place
        aware-living q = by (end_eq e q)
          where
            by : (b : Bool) → is_living (if b then record (s.ends q) { noticed = true } else s.ends q).place ≡ is_living (s.ends q).place
            by true = refl
            by false = refl
