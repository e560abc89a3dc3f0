-- The ends that processes own stay known over what the steps do with the ends.
use Rattle.std.proofs.Common.{◌≡◌, ◌≢◌, ◌⊎◌, inl, inr, ℕ, suc, ◌<◌, Bool, true, false, true≢false, cond, nat_eq, ◌&&◌, ◌||◌, not, All, List, [], ◌∷◌, length, get_or, Option, None, Some, is_some, refl, sym, ap, subst, ◌∙◌, if◌then◌else◌, arith}
use Rattle.std.proofs.lemmas.Bool.Decides.{eqb_tells}
use Rattle.charlotte_calls.specs.Names.{opposite}
use Rattle.charlotte_calls.specs.declared.names.EndId.{EndId}
use Rattle.charlotte_calls.specs.declared.names.Pid.{Pid}
use Rattle.charlotte_calls.specs.declared.names.Way.{Way}
use Rattle.charlotte_calls.specs.declared.names.Way.TheVariants as way
use Rattle.link_service.specs.Service.{ServiceView, MayBe, AreKnown, OwnerKnows, IsWellKept}
use Rattle.service_links.specs.Links.{ends_of}
use Rattle.service_links.proofs.Changed.{end_eq-same}
use Rattle.service_processes.specs.Known.{Known, known_of, without, IsKnown, Forgets}
use Rattle.service_processes.proofs.Blocks.{there}
use Rattle.service_step.specs.Steps.{may_match}
use Rattle.service_step.specs.Ends.{end_eq, fresh, owner, put, puts, places, is_made, is_destroyed, is_owned_by, is_active, is_started_outward, is_started_inward, is_posted}
use Rattle.service_step.specs.Ends.{waiting_message, matched_message, carried_by, destroys, destroys_owned, destroys_each, starts_send, turns_inward, turns_outward, idles}
use Rattle.service_step.specs.Ends.{withdraws_send, matches, matched_outward, takes, notices, noticed_end, noticed_outward, noticed_inward, to_owner, returned_end, returns}
use Rattle.service_step.specs.declared.state.End.{End}
use Rattle.service_step.specs.declared.state.Inward.{Inward}
use Rattle.service_step.specs.declared.state.Inward.TheVariants as inward
use Rattle.service_step.specs.declared.state.Message.{Message}
use Rattle.service_step.specs.declared.state.Outward.{Outward}
use Rattle.service_step.specs.declared.state.Outward.TheVariants as outward
use Rattle.service_step.specs.declared.state.Place.{Place}
use Rattle.service_step.specs.declared.state.Place.TheVariants as place

-- processes of one number are one
pub same_pid : (p q : Pid) → nat_eq p.0 q.0 ≡ true → p ≡ q
same_pid p q is = by (eqb_tells p.0 q.0)
  where
    by : ((nat_eq p.0 q.0 ≡ true) × (p.0 ≡ q.0)) ⊎ ((nat_eq p.0 q.0 ≡ false) × (p.0 ≢ q.0)) → p ≡ q
    by (inl t) = λ j. record { 0 = t.1 j }
    by (inr t) = absurd (true≢false (sym is ∙ t.0))

pub owned-owner : (p : Pid) (at : Place) → owner at ≡ Some p → is_owned_by p at ≡ true
owned-owner p (place.Owned q) is = by (eqb_tells p.0 q.0) is
  where
    by : ((nat_eq p.0 q.0 ≡ true) × (p.0 ≡ q.0)) ⊎ ((nat_eq p.0 q.0 ≡ false) × (p.0 ≢ q.0)) → Some q ≡ Some p → nat_eq p.0 q.0 ≡ true
    by (inl t) same = t.0
    by (inr t) same = let one : q ≡ p = cc in absurd (t.1 (ap (λ (r : Pid). r.0) (sym one)))
owned-owner p (place.InMessage f n) is = absurd (cc)
owned-owner p place.Destroyed is = absurd (cc)
owned-owner p place.Unmade is = absurd (cc)

-- the owner of an end in a message, destroyed or unmade is nobody
or_less : (a b c d : Bool) → (a ≡ true → c ≡ true) → (b ≡ true → d ≡ true) → (a || b) ≡ true → (c || d) ≡ true
or_less true b c d first second h = ap (λ z. z || d) (first refl)
or_less false b true d first second h = refl
or_less false b false d first second h = second h

module _ (k : Known) where
  -- the owner is known to have the end, also with an activity
  pub MayBe-known : (e : EndId) (x : End) → ((p : Pid) → is_owned_by p x.place ≡ true → IsKnown k p e) → MayBe k e x
  MayBe-known e x h p own = ((h p own).held, λ started. (h p own).active)

  module _ (t : EndId → End) (known : AreKnown k t) where
    -- an end at the place of another, with no activity that is not started there
    pub MayBe-less : (e : EndId) (x : End) → x.place ≡ (t e).place → (is_active x ≡ true → is_active (t e) ≡ true) → MayBe k e x
    MayBe-less e x same less p own =
        let was = known.all e p (ap (is_owned_by p) (sym same) ∙ own) in (was.0, λ started. was.1 (less started))

    pub AreKnown-put : (e : EndId) (x : End) → MayBe k e x → AreKnown k (put t e x)
    AreKnown-put e x may = record { all = λ q. by q (end_eq e q) refl }
      where
        by : (q : EndId) (b : Bool) → end_eq e q ≡ b → MayBe k q (put t e x q)
        by q true same = subst (λ b. MayBe k q (cond b x (t q))) (sym same) (subst (λ z. MayBe k z x) (end_eq-same e q same) may)
        by q false apart = subst (λ b. MayBe k q (cond b x (t q))) (sym apart) (known.all q)

    pub AreKnown-puts : (e : EndId) (x : End) → MayBe k e x → AreKnown k (puts e x t)
    unfolding puts
    AreKnown-puts e x may = by (is_made (t e).place)
      where
        by : (b : Bool) → AreKnown k (if b then put t e x else t)
        by true = AreKnown-put e x may
        by false = known

    pub AreKnown-turns_inward : (to : Inward) (e : EndId) → (is_started_inward to ≡ true → is_active (t e) ≡ true) → AreKnown k (turns_inward to e t)
    unfolding turns_inward
    AreKnown-turns_inward to e started =
        AreKnown-puts e (record (t e) { inward = to })
        (MayBe-less e (record (t e) { inward = to }) refl (or_to (is_started_outward (t e).outward) (is_started_inward to) (is_active (t e)) (λ o. ap (λ b. b || is_started_inward (t e).inward) o) started))
      where
        or_to : (a b c : Bool) → (a ≡ true → c ≡ true) → (b ≡ true → c ≡ true) → (a || b) ≡ true → c ≡ true
        or_to true b c first second h = first refl
        or_to false b c first second h = second h

    pub AreKnown-turns_outward : (to : Outward) (e : EndId) → (is_started_outward to ≡ true → is_started_outward (t e).outward ≡ true) → AreKnown k (turns_outward to e t)
    unfolding turns_outward
    AreKnown-turns_outward to e started =
        AreKnown-puts e (record (t e) { outward = to })
        (MayBe-less e (record (t e) { outward = to }) refl (or_less (is_started_outward to) (is_started_inward (t e).inward) (is_started_outward (t e).outward) (is_started_inward (t e).inward) started (λ i. i)))

-- an end may come to this place: the process that owns it then is known to have it
abbrev pub MayGo : Known → Place → EndId → Type 0
MayGo k at e = (p : Pid) → is_owned_by p at ≡ true → IsKnown k p e

pub All-to_owned : (k : Known) (q : Pid) (xs : List EndId) → All (IsKnown k q) xs → All (MayGo k (place.Owned q)) xs
All-to_owned k q xs h = λ i d below p own. subst (λ r. IsKnown k r (get_or xs i d)) (sym (same_pid p q own)) (h i d below)

pub All-to_unowned : (k : Known) (at : Place) (xs : List EndId) → ((p : Pid) → is_owned_by p at ≡ false) → All (MayGo k at) xs
All-to_unowned k at xs none = λ i d below p own. absurd (true≢false (sym own ∙ none p))

pub AreKnown-places : (k : Known) (at : Place) (xs : List EndId) (t : EndId → End) → AreKnown k t → All (MayGo k at) xs → AreKnown k (places at xs t)
unfolding places
AreKnown-places k at [] t known go = known
AreKnown-places k at (x ∷ xs) t known go =
    AreKnown-places k at xs (puts x (record (t x) { place = at }) t)
    (AreKnown-puts k t known x (record (t x) { place = at }) (MayBe-known k x (record (t x) { place = at }) (go 0 x (omega arith))))
    (λ i d below. go (suc i) d (omega arith))

pub AreKnown-destroys : (k : Known) (e : EndId) (t : EndId → End) → AreKnown k t → AreKnown k (destroys e t)
unfolding destroys
AreKnown-destroys k e t known =
    AreKnown-places k place.Destroyed _ _
    (AreKnown-puts k t known e _ (λ p own. absurd (true≢false (sym own))))
    (All-to_unowned k place.Destroyed _ (λ p. refl))

pub AreKnown-destroys_owned : (k : Known) (p : Pid) (e : EndId) (t : EndId → End) → AreKnown k t → AreKnown k (destroys_owned p e t)
unfolding destroys_owned
AreKnown-destroys_owned k p e t known = by (is_owned_by p (t e).place)
  where
    by : (b : Bool) → AreKnown k (if b then destroys e t else t)
    by true = AreKnown-destroys k e t known
    by false = known

pub AreKnown-destroys_each : (k : Known) (p : Pid) (mine : List EndId) (t : EndId → End) → AreKnown k t → AreKnown k (destroys_each p mine t)
unfolding destroys_each
AreKnown-destroys_each k p [] t known = known
AreKnown-destroys_each k p (e ∷ es) t known = AreKnown-destroys_each k p es (destroys_owned p e t) (AreKnown-destroys_owned k p e t known)

pub AreKnown-starts_send : (k : Known) (e : EndId) (n : ℕ) (m : Message) (t : EndId → End) → AreKnown k t → ((p : Pid) → is_owned_by p (t e).place ≡ true → IsKnown k p e) → AreKnown k (starts_send e n m t)
unfolding starts_send
AreKnown-starts_send k e n m t known own =
    let x : End = record (t e) { outward = outward.Waiting m; sent = n } in
    AreKnown-places k (place.InMessage e n) m.carried (puts e x t) (AreKnown-puts k t known e x (MayBe-known k e x own)) (All-to_unowned k (place.InMessage e n) m.carried (λ p. refl))

-- a receive is started
pub AreKnown-posts : (k : Known) (e : EndId) (t : EndId → End) → AreKnown k t → ((p : Pid) → is_owned_by p (t e).place ≡ true → IsKnown k p e) → AreKnown k (turns_inward inward.Posted e t)
unfolding turns_inward
AreKnown-posts k e t known own =
    let x : End = record (t e) { inward = inward.Posted } in AreKnown-puts k t known e x (MayBe-known k e x own)

pub AreKnown-idles : (k : Known) (w : Way) (e : EndId) (t : EndId → End) → AreKnown k t → AreKnown k (idles w e t)
unfolding idles
AreKnown-idles k way.Outward e t known = AreKnown-turns_outward k t known outward.Idle e (λ f. absurd (true≢false (sym f)))
AreKnown-idles k way.Inward e t known = AreKnown-turns_inward k t known inward.Idle e (λ f. absurd (true≢false (sym f)))

pub AreKnown-withdraws_send : (k : Known) (p : Pid) (e : EndId) (t : EndId → End) → AreKnown k t → All (IsKnown k p) (carried_by (waiting_message (t e).outward)) → AreKnown k (withdraws_send p e t)
unfolding withdraws_send
AreKnown-withdraws_send k p e t known own =
    AreKnown-places k (place.Owned p) _ _ (AreKnown-turns_outward k t known outward.Idle e (λ f. absurd (true≢false (sym f)))) (All-to_owned k p _ own)

-- a started receive goes on
posted-started : (i : Inward) → is_posted i ≡ true → is_started_inward i ≡ true
posted-started inward.Posted h = refl
posted-started inward.Idle h = absurd (true≢false (sym h))
posted-started inward.Withdrawn h = refl
posted-started (inward.Matched n) h = refl
posted-started inward.Unreported h = absurd (true≢false (sym h))

or_right : (a b : Bool) → b ≡ true → (a || b) ≡ true
or_right true b h = refl
or_right false b h = h

pub AreKnown-goes_on : (k : Known) (to : Inward) (e : EndId) (t : EndId → End) → AreKnown k t → is_posted (t e).inward ≡ true → AreKnown k (turns_inward to e t)
AreKnown-goes_on k to e t known posted =
    AreKnown-turns_inward k t known to e (λ f. or_right (is_started_outward (t e).outward) (is_started_inward (t e).inward) (posted-started (t e).inward posted))

-- what a match and a notice make of a send is not more
matched-less : (o : Outward) → is_started_outward (matched_outward o) ≡ true → is_started_outward o ≡ true
matched-less outward.Idle h = h
matched-less (outward.Waiting m) h = refl
matched-less (outward.Matched m) h = h
matched-less outward.Taken h = h
matched-less outward.Unreported h = h

noticed_outward-less : (o : Outward) → is_started_outward (noticed_outward o) ≡ true → is_started_outward o ≡ true
noticed_outward-less outward.Idle h = h
noticed_outward-less (outward.Waiting m) h = refl
noticed_outward-less (outward.Matched m) h = h
noticed_outward-less outward.Taken h = h
noticed_outward-less outward.Unreported h = h

noticed_inward-less : (i : Inward) → is_started_inward (noticed_inward i) ≡ true → is_started_inward i ≡ true
noticed_inward-less inward.Idle h = h
noticed_inward-less inward.Posted h = refl
noticed_inward-less inward.Withdrawn h = refl
noticed_inward-less (inward.Matched n) h = refl
noticed_inward-less inward.Unreported h = h

-- the receive of the opposite stays as it is where the send of an end changes, as far as it is posted
turns_outward-posted : (o : Outward) (e q : EndId) (t : EndId → End) → is_posted (t q).inward ≡ true → is_posted ((turns_outward o e t) q).inward ≡ true
unfolding turns_outward puts
turns_outward-posted o e q t posted = by (is_made (t e).place)
  where
    at : (b : Bool) → end_eq e q ≡ b → is_posted (cond b (record (t e) { outward = o }) (t q)).inward ≡ true
    at true same = ap (λ z. is_posted (t z).inward) (end_eq-same e q same) ∙ posted
    at false apart = posted

    by : (b : Bool) → is_posted ((if b then put t e (record (t e) { outward = o }) else t) q).inward ≡ true
    by true = at (end_eq e q) refl
    by false = posted

pub AreKnown-matches : (k : Known) (e : EndId) (n : ℕ) (t : EndId → End) → AreKnown k t → is_posted (t (opposite e)).inward ≡ true → AreKnown k (matches e n t)
unfolding matches
AreKnown-matches k e n t known posted =
    AreKnown-goes_on k (inward.Matched n) (opposite e) (turns_outward (matched_outward (t e).outward) e t)
    (AreKnown-turns_outward k t known (matched_outward (t e).outward) e (matched-less (t e).outward))
    (turns_outward-posted (matched_outward (t e).outward) e (opposite e) t posted)

pub AreKnown-takes : (k : Known) (e : EndId) (p : Pid) (t : EndId → End) → AreKnown k t → is_started_outward (t e).outward ≡ true → All (IsKnown k p) (carried_by (matched_message (t e).outward)) → AreKnown k (takes e p t)
unfolding takes
AreKnown-takes k e p t known started own =
    AreKnown-places k (place.Owned p) _ _
    (AreKnown-turns_inward k (turns_outward outward.Taken e t) (AreKnown-turns_outward k t known outward.Taken e (λ f. started)) inward.Unreported (opposite e) (λ f. absurd (true≢false (sym f))))
    (All-to_owned k p _ own)

AreKnown-to_owner : (k : Known) (to : Option Pid) (xs : List EndId) (t : EndId → End) → AreKnown k t → ((p : Pid) → to ≡ Some p → All (IsKnown k p) xs) → AreKnown k (to_owner to xs t)
AreKnown-to_owner k None xs t known own = known
AreKnown-to_owner k (Some p) xs t known own = AreKnown-places k (place.Owned p) xs t known (All-to_owned k p xs (own p refl))

pub AreKnown-notices : (k : Known) (e : EndId) (t : EndId → End) → AreKnown k t → ((p : Pid) → is_owned_by p (t e).place ≡ true → All (IsKnown k p) (carried_by (waiting_message (t e).outward))) → AreKnown k (notices e t)
unfolding notices
AreKnown-notices k e t known own =
    AreKnown-to_owner k (owner (t e).place) _ _
    (AreKnown-puts k t known e (noticed_end (t e))
    (MayBe-less k t known e (noticed_end (t e)) refl (or_less _ _ _ _ (noticed_outward-less (t e).outward) (noticed_inward-less (t e).inward))))
    (λ p is. own p (owned-owner p (t e).place is))

pub AreKnown-returns : (k : Known) (e : EndId) (t : EndId → End) → AreKnown k t → ((p : Pid) → is_owned_by p (t e).place ≡ true → All (IsKnown k p) (carried_by (matched_message (t e).outward))) → AreKnown k (returns e t)
unfolding returns
AreKnown-returns k e t known own = by (is_destroyed (t e).place)
  where
    xs : List EndId
    xs = carried_by (matched_message (t e).outward)

    over : (b : Bool) → MayBe k e (if b then record (t e) { outward = outward.Unreported } else noticed_end (record (t e) { outward = outward.Unreported }))
    over true = MayBe-less k t known e (record (t e) { outward = outward.Unreported }) refl (or_right (is_started_outward (t e).outward) (is_started_inward (t e).inward))
    over false = MayBe-less k t known e (noticed_end (record (t e) { outward = outward.Unreported })) refl
        (λ h. or_right (is_started_outward (t e).outward) (is_started_inward (t e).inward) (noticed_inward-less (t e).inward h))

    by : (b : Bool) → AreKnown k (if b then places place.Destroyed xs (turns_outward outward.Idle e t) else to_owner (owner (t e).place) xs (puts e (returned_end (t e)) t))
    by true = AreKnown-places k place.Destroyed xs _ (AreKnown-turns_outward k t known outward.Idle e (λ f. absurd (true≢false (sym f)))) (All-to_unowned k place.Destroyed xs (λ p. refl))
    by false = AreKnown-to_owner k (owner (t e).place) xs _ (AreKnown-puts k t known e (returned_end (t e)) (over (t e).noticed)) (λ p is. own p (owned-owner p (t e).place is))

-- what an owner is known to have, of one end
pub owner-first : (v : ServiceView) (e : EndId) → OwnerKnows v e (e ∷ []) → (p : Pid) → is_owned_by p (ends_of v.links e).place ≡ true → IsKnown (known_of v.processes) p e
owner-first v e knows p own = knows.all p own 0 e (omega arith)

-- the last of four tests that hold
last_of_four : (a b c d : Bool) → (a && b && c && d) ≡ true → d ≡ true
last_of_four true true true d h = h
last_of_four true true false d h = absurd (true≢false (sym h))
last_of_four true false c d h = absurd (true≢false (sym h))
last_of_four false b c d h = absurd (true≢false (sym h))

pub match-posted : (t : EndId → End) (e : EndId) (n : ℕ) → may_match t e n ≡ true → is_posted (t (opposite e)).inward ≡ true
match-posted t e n may = last_of_four (is_some (waiting_message (t e).outward)) (nat_eq (t e).sent n) (not (t e).noticed) (is_posted (t (opposite e)).inward) may

-- a process that owns an end is there
pub owner-there : (v : ServiceView) (e : EndId) (p : Pid) → IsWellKept v → Some p ≡ owner (ends_of v.links e).place → p.0 < length v.processes
owner-there v e p well is = there v.processes p.0 e (well.all e p (owned-owner p (ends_of v.links e).place (sym is))).0

pub owned-there : (v : ServiceView) (e : EndId) (p : Pid) → IsWellKept v → is_owned_by p (ends_of v.links e).place ≡ true → p.0 < length v.processes
owned-there v e p well own = there v.processes p.0 e (well.all e p own).0

-- an end that a process does not own is forgotten
pub AreKnown-forgets : (p : Pid) (e : EndId) (old new : Known) (t : EndId → End) → Forgets p e old new → is_owned_by p (t e).place ≡ false → AreKnown old t → AreKnown new t
AreKnown-forgets p e old new t forgets lost known =
    record {
      all = λ g q own. (
        ap (λ f. f q.0 g) forgets.held ∙ stays g q own old.held (known.all g q own).0,
        λ started. ap (λ f. f q.0 g) forgets.active ∙ stays g q own old.active ((known.all g q own).1 started),
      );
    }
  where
    -- what is known of another end or another process
    stays : (g : EndId) (q : Pid) → is_owned_by q (t g).place ≡ true → (f : ℕ → EndId → Bool) → f q.0 g ≡ true → without p e f q.0 g ≡ true
    stays g q own f is = by (nat_eq p.0 q.0) refl (end_eq e g) refl
      where
        by : (a : Bool) → nat_eq p.0 q.0 ≡ a → (b : Bool) → end_eq e g ≡ b → cond (nat_eq p.0 q.0 && end_eq e g) false (f q.0 g) ≡ true
        by true same true one =
            absurd (true≢false (sym ((λ i. is_owned_by (same_pid p q same i) (t (end_eq-same e g one i)).place) ∙ own) ∙ lost))
        by true same false apart = (λ i. cond (same i && apart i) false (f q.0 g)) ∙ is
        by false other b one = (λ i. cond (other i && end_eq e g) false (f q.0 g)) ∙ is

-- both ends of a new link are owned by processes that are known to have them
pub AreKnown-adds : (k : Known) (a b : EndId) (p q : Pid) (t : EndId → End) → AreKnown k t → k.held p.0 a ≡ true → k.held q.0 b ≡ true → AreKnown k (put (put t a (fresh (place.Owned p))) b (fresh (place.Owned q)))
AreKnown-adds k a b p q t known first second =
    AreKnown-put k (put t a (fresh (place.Owned p))) (AreKnown-put k t known a (fresh (place.Owned p)) (MayBe-new a p first)) b (fresh (place.Owned q)) (MayBe-new b q second)
  where
    MayBe-new : (e : EndId) (r : Pid) → k.held r.0 e ≡ true → MayBe k e (fresh (place.Owned r))
    MayBe-new e r is = λ o own. (subst (λ (x : Pid). k.held x.0 e ≡ true) (sym (same_pid o r own)) is, λ started. absurd (true≢false (sym started)))
