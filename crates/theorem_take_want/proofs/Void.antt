-- A receive that was asked of an open end is taken back there: the service withdraws it, and all clauses on links stay.
use Rattle.std.proofs.Common.{◌≡◌, inl, inr, ℕ, ◌+◌, ◌<◌, ◌≤◌, Bool, true, false, ◌&&◌, [], ◌∷◌, length, None, refl, sym, ap, subst, ◌∙◌, arith, true≢false}
use Rattle.charlotte_calls.specs.Names.{opposite}
use Rattle.charlotte_calls.specs.declared.names.EndId.{EndId}
use Rattle.charlotte_calls.specs.declared.names.Pid.{Pid}
use Rattle.charlotte_packets.specs.declared.picture.MovingPicture.{MovingPicture}
use Rattle.charlotte_packets.specs.declared.picture.PictureWhat.{PictureWhat}
use Rattle.charlotte_packets.specs.declared.picture.PictureWhat.TheVariants as packet
use Rattle.end_table.proofs.EndEq.{end_eq-refl, end_eq-same}
use Rattle.end_table.specs.Place.{end_eq}
use Rattle.end_table.specs.Table.{IfHere, IsHereAnd}
use Rattle.end_table.specs.declared.entry.Entry.TheVariants as entry
use Rattle.end_table.specs.declared.entry.HereView.{HereView}
use Rattle.end_table.specs.declared.entry.Inward.TheVariants as kernel_inward
use Rattle.kernel_effects.specs.Effect.{puts, stays}
use Rattle.kernel_sound.specs.Sound.{IsHeldWell}
use Rattle.service_change.proofs.Change.{living-made}
use Rattle.service_change.proofs.EndEq.{puts-at, puts-other, end_eq-refl as service_refl}
use Rattle.service_lawful.specs.Consistent.{IsConsistent, is_open}
use Rattle.service_step.specs.Ends.{is_made, is_posted, owner, turns_inward}
use Rattle.service_step.specs.State.{State, is_cancelling, owner_cancels}
use Rattle.service_step.specs.Steps.{may_withdraw}
use Rattle.service_step.specs.declared.state.End.{End}
use Rattle.service_step.specs.declared.state.Inward.TheVariants as inward
use Rattle.service_step.specs.declared.state.Place.TheVariants as place
use Rattle.theorem_take_silent.proofs.Ends.{inward-same}
use Rattle.theorem_take_silent.proofs.Lists.{first, only-there}
use Rattle.theorem_take_silent.proofs.Packets.{each-after, under_way-sent}
use Rattle.theorem_take_silent.proofs.Sums.{sum_over-after}
use Rattle.theorem_take_silent.specs.Change.{Change, Changes}
use Rattle.theorem_meaning.proofs.Ends.{eq-same, opposite-twice}
use Rattle.theorem_meaning.specs.Fields.{Stand, At, HasFields, IsAskedAs, IsAsking, IsUnserved, IsUnwantOf}
use Rattle.theorem_meaning.specs.Invariant.{AreRight, AreWanted, IsPacketRight, IsServed, IsUnwantedOnce, is_unwanted_to}
use Rattle.theorem_meaning.specs.Packets.{Each, IsParcelFor, IsUnderWay, IsUnwantedOf, Links, how_many, one_if}
use Rattle.theorem_meaning.specs.StandsFor.{AreLinksOf, IsInwardOf, entry_at, home_of}
use Rattle.theorem_take_silent.proofs.Places.{here-kernel}
use Rattle.theorem_take_want.specs.Anew.{IsAnew, IsVoidOf}
use Rattle.theorem_take_want.proofs.Anew.{anew-other, anew-own, asked-anew, counted-anew, few-anew, honest-anew, is-still, links-anew, living-was, marked-anew, named-anew}
use Rattle.theorem_take_want.proofs.Anew.{noticed-same, number-same, once-anew, open-same, right-anew, seen, under-same, under-was, view_or, void-parcel_for, withdrawing-still}
use Rattle.theorem_take_want.proofs.Asked.{cancels, had, last-of, none-void, only, opened, other-lives, own-fields, owned, pid, posted, there, view, withdrawing}

pub void-asks : (k : ℕ) (v : HereView) (e : EndId) (q j h : ℕ) (what : PictureWhat) → IsVoidOf k v what → IsAsking e q j h what → ⊥
void-asks k v e q j h (packet.Unwanted to w at hops) is has = has
void-asks k v e q j h _ is has = absurd is

pub void-unwants : (k : ℕ) (v : HereView) (e : EndId) (q : ℕ) (what : PictureWhat) → IsVoidOf k v what → IsUnwantOf e q what → ⊥
void-unwants k v e q (packet.Unwanted to w at hops) is has = has
void-unwants k v e q _ is has = absurd is

void-other : (k : ℕ) (v : HereView) (e : EndId) (what : PictureWhat) → end_eq (opposite v.value.end) e ≡ false → IsVoidOf k v what → is_unwanted_to e what ≡ false
void-other k v e (packet.Unwanted to w at hops) apart is = by (end_eq e to) refl
  where
    by : (b : Bool) → end_eq e to ≡ b → b ≡ false
    by false same = refl
    by true same = absurd (true≢false (sym (end_eq-refl (opposite v.value.end)) ∙ subst (λ z. end_eq (opposite v.value.end) z ≡ false) (end_eq-same e to same ∙ is.0) apart))
void-other k v e _ apart is = absurd is

void-unwanted : (k : ℕ) (v : HereView) (e : EndId) (r : ℕ) (what : PictureWhat) → end_eq (opposite v.value.end) e ≡ false → IsVoidOf k v what → IsUnwantedOf e r what → ⊥
void-unwanted k v e r (packet.Unwanted to w at hops) apart is has = true≢false (sym (end_eq-refl (opposite v.value.end)) ∙ subst (λ z. end_eq (opposite v.value.end) z ≡ false) (sym has.0 ∙ is.0) apart)
void-unwanted k v e r _ apart is has = absurd is

-- a view where the receive r was taken back
abbrev pub voided : ℕ → HereView → MovingPicture
voided r v = record v.value { served = r; want = 0 }

-- that, as the part of an event: it takes no packet, and an unwanted goes back
abbrev pub voiding : Change → HereView → ℕ → ℕ → Change
voiding c v r at =
    record c {
      taken = None;
      entry = puts v.value.end (entry.Here (record v { value = voided r v })) stays;
      packets = (at, packet.Unwanted (opposite v.value.end) r c.kernel v.value.hops) ∷ [];
    }

-- the state of the service afterwards
abbrev pub withdrawn : HereView → State → State
withdrawn v s = record s { ends = turns_inward inward.Withdrawn (opposite v.value.end) s.ends }

module _ (i : ℕ) (w u : Links) (s : State) (right : AreRight i w s) (links : AreLinksOf w s) (kept : IsConsistent s) (few : length s.made ≤ 8) (c : Change) (v : HereView) (here : entry_at w c.kernel v.value.end ≡ entry.Here v) (alive : v.value.dead ≡ false)
    (r at hops : ℕ) (low : v.value.served < r) (asking : IsUnderWay w (IsAsking v.value.end r at hops))
    (held : (j : ℕ) (e : EndId) → IfHere (entry_at w j e) (λ x. IsHeldWell (length s.homes) x x.holder)) (unwants : IsUnderWay w (IsUnwantOf v.value.end r))
    (kernel : c.kernel < length s.made) (below : at < length s.made) (b : Changes w (voiding c v r at) u) where
  abbrev k : ℕ
  k = c.kernel

  abbrev mine : EndId
  mine = v.value.end

  abbrev other : EndId
  other = opposite v.value.end

  abbrev t : EndId → End
  t = turns_inward inward.Withdrawn other s.ends

  abbrev new : HereView
  new = record v { value = voided r v }

  abbrev seen-view : HereView
  seen-view = view i w s right links kept few k v here alive r at hops low asking held unwants

  made : is_made (s.ends other).place ≡ true
  made = living-made (s.ends other).place (other-lives i w s right links kept few k v here alive r at hops low asking held unwants)

  is-posted : (s.ends other).inward ≡ inward.Posted
  is-posted = posted i w s right links kept few k v here alive r at hops low asking

  is-open : is_open (s.ends mine) ≡ true
  is-open = opened i w s right links kept few k v here alive

  is-owned : (s.ends other).place ≡ place.Owned (pid i w s right links kept few k v here alive r at hops low asking held unwants)
  is-owned = owned i w s right links kept few k v here alive r at hops low asking held unwants

  is-there : entry_at w at other ≡ entry.Here seen-view
  is-there = there i w s right links kept few k v here alive r at hops low asking held unwants

  is-withdrawing : seen-view.inward ≡ kernel_inward.Withdrawing r
  is-withdrawing = withdrawing i w s right links kept few k v here alive r at hops low asking held unwants

  -- the service may take it back
  pub may-withdraw : may_withdraw s other ≡ true
  may-withdraw =
      ap (λ z. is_posted z && owner_cancels (owner (s.ends other).place) other s.process) is-posted
      ∙ ap (λ z. owner_cancels (owner z) other s.process) is-owned
      ∙ ap (is_cancelling other) (cancels i w s right links kept few k v here alive r at hops low asking held unwants)
      ∙ service_refl other

  -- ---- the ends of the service

  turned : t other ≡ record (s.ends other) { inward = inward.Withdrawn }
  unfolding turns_inward
  turned = puts-at other (record (s.ends other) { inward = inward.Withdrawn }) s.ends made

  stayed : (q : EndId) → end_eq other q ≡ false → t q ≡ s.ends q
  unfolding turns_inward
  stayed q apart = puts-other other (record (s.ends other) { inward = inward.Withdrawn }) s.ends q (eq-same other q ∙ apart)

  ends : (q : EndId) → t q ≡ record (s.ends q) { inward = (t q).inward }
  ends q = by (end_eq other q) refl
    where
      by : (x : Bool) → end_eq other q ≡ x → t q ≡ record (s.ends q) { inward = (t q).inward }
      by true same = subst (λ z. t z ≡ record (s.ends z) { inward = (t z).inward }) (end_eq-same other q same) (subst (λ (z : End). z ≡ record (s.ends other) { inward = z.inward }) (sym turned) refl)
      by false apart = subst (λ (z : End). z ≡ record (s.ends q) { inward = z.inward }) (sym (stayed q apart)) refl

  pub anew : IsAnew (length s.made) w s (voiding c v r at) t v (voided r v)
  anew = record { kernel = kernel; taken = refl; sent = ((below, (refl, refl, refl)), tt); put = λ e. refl; here = here; like = refl; opened = is-open; ends = ends }

  apart-opposite : (e : EndId) → end_eq mine e ≡ false → end_eq other (opposite e) ≡ false
  apart-opposite e apart = by (end_eq other (opposite e)) refl
    where
      by : (x : Bool) → end_eq other (opposite e) ≡ x → x ≡ false
      by false same = refl
      by true same =
          let is : mine ≡ e = sym (opposite-twice mine) ∙ ap opposite (end_eq-same other (opposite e) same) ∙ opposite-twice e in
          absurd (true≢false (sym (end_eq-refl mine) ∙ subst (λ z. end_eq mine z ≡ false) (sym is) apart))

  apart-back : (e : EndId) → end_eq other e ≡ false → end_eq mine (opposite e) ≡ false
  apart-back e apart = by (end_eq mine (opposite e)) refl
    where
      by : (x : Bool) → end_eq mine (opposite e) ≡ x → x ≡ false
      by false same = refl
      by true same =
          let is : other ≡ e = ap opposite (end_eq-same mine (opposite e) same) ∙ opposite-twice e in
          absurd (true≢false (sym (end_eq-refl other) ∙ subst (λ z. end_eq other z ≡ false) (sym is) apart))

  -- the fields of the end afterwards
  now-own : (st : Stand) (m : MovingPicture) → HasFields u mine st m → m ≡ voided r v
  now-own = anew-own b anew (own-fields i w s right links kept few k v here)

  -- those of each other end
  now-other : (e : EndId) (st : Stand) (m : MovingPicture) → end_eq mine e ≡ false → HasFields u e st m → HasFields w e st m
  now-other = anew-other b anew

  -- ---- the clauses on what is asked

  served-void : (e : EndId) → IsServed u t e
  served-void e j x q st m stands asked unposted living has = let y = seen b anew j e x stands in by (end_eq other e) refl y.0 y.1 (subst (IsAskedAs q) (ap (λ (z : HereView). z.inward) y.2) asked)
    where
      by : (z : Bool) → end_eq other e ≡ z → (y : HereView) → entry_at w j e ≡ entry.Here y → IsAskedAs q y.inward → q ≤ m.served
      by true same y was asks =
          let is : other ≡ e = end_eq-same other e same in
          let end : opposite e ≡ mine = sym (ap opposite is) ∙ opposite-twice mine in
          let number : q ≡ r = last-of i w s right links kept few k v here alive r at hops low asking held unwants j q y (subst (λ z. entry_at w j z ≡ entry.Here y) (sym is) was) asks in
          let now : m.served ≡ r = ap (λ (z : MovingPicture). z.served) (now-own st m (subst (λ z. HasFields u z st m) end has)) in
          omega (arith, number, now)
      by false apart y was asks =
          let far : end_eq mine (opposite e) ≡ false = apart-back e apart in
          right.served e j y q st m was asks (subst (λ (z : End). is_posted z.inward ≡ false) (stayed e apart) unposted) (living-was b anew (opposite e) living) (now-other (opposite e) st m far has)

  -- nothing is asked of the end any more
  nothing-asked : (q j h : ℕ) → IsUnserved u mine (voided r v) q j h → ⊥
  nothing-asked q j h (inl asks) = let none : 0 ≡ q = asks.0 in let some = asks.1 in omega (arith, none, some)
  nothing-asked q j h (inr asks) =
      let more : r < q = asks.0 in
      let same : q ≡ r = only i w s right links kept few k v here alive r at hops low asking q j h (inr (omega (arith, low, more), under-was b anew (IsAsking mine q j h) (void-asks k v mine q j h) asks.1)) in
      omega (arith, more, same)

  asked-before : (e : EndId) (m : MovingPicture) (q j h : ℕ) → IsUnserved u e m q j h → IsUnserved w e m q j h
  asked-before e m q j h (inl asks) = inl asks
  asked-before e m q j h (inr asks) = inr (asks.0, under-was b anew (IsAsking e q j h) (void-asks k v e q j h) asks.1)

  wanted-void : (e : EndId) → AreWanted u t e
  wanted-void e = by (end_eq mine e) refl
    where
      own : AreWanted u t mine
      own =
          record {
            kept = λ st m open_is has. inl (ap (λ (z : MovingPicture). z.want) (now-own st m has));
            same = λ st m q j h o g f open_is has one two. absurd (nothing-asked q j h (subst (λ z. IsUnserved u mine z q j h) (now-own st m has) one));
            posted = λ st m q j h open_is has one. absurd (nothing-asked q j h (subst (λ z. IsUnserved u mine z q j h) (now-own st m has) one));
            site = λ st m q j h open_is has one living. absurd (nothing-asked q j h (subst (λ z. IsUnserved u mine z q j h) (now-own st m has) one));
            unwanted = λ st m q open_is has more one.
                let above : r < q = subst (λ (z : MovingPicture). z.served < q) (now-own st m has) more in
                let j = (right.wanted mine).unwanted (At k) v.value q is-open (had i w s right links kept few k v here) (omega (arith, low, above)) (under-was b anew (IsUnwantOf mine q) (void-unwants k v mine q) one) in
                (j.0, withdrawing-still b anew j.0 other j.1);
          }

      by : (x : Bool) → end_eq mine e ≡ x → AreWanted u t e
      by true same = subst (AreWanted u t) (end_eq-same mine e same) own
      by false apart =
          record {
            kept = λ st m open_is has. (right.wanted e).kept st m (opens open_is) (now-other e st m apart has);
            same = λ st m q j h o g f open_is has one two. (right.wanted e).same st m q j h o g f (opens open_is) (now-other e st m apart has) (asked-before e m q j h one) (asked-before e m o g f two);
            posted = λ st m q j h open_is has one.
                subst (λ (z : End). is_posted z.inward ≡ true) (sym (stayed (opposite e) (apart-opposite e apart))) ((right.wanted e).posted st m q j h (opens open_is) (now-other e st m apart has) (asked-before e m q j h one));
            site = λ st m q j h open_is has one living.
                is-still b anew j (opposite e) (λ x. (x.value.hops ≡ h) × (x.value.asked ≡ q)) (λ a. a)
                ((right.wanted e).site st m q j h (opens open_is) (now-other e st m apart has) (asked-before e m q j h one) (living-was b anew (opposite e) living));
            unwanted = λ st m q open_is has more one.
                let j = (right.wanted e).unwanted st m q (opens open_is) (now-other e st m apart has) more (under-was b anew (IsUnwantOf e q) (void-unwants k v e q) one) in
                (j.0, withdrawing-still b anew j.0 (opposite e) j.1);
          }
        where
          opens : is_open (t e) ≡ true → is_open (s.ends e) ≡ true
          opens is = sym (open-same b anew e) ∙ is

  once-void : (e : EndId) → IsUnwantedOnce u t e
  once-void e noticed = by (end_eq other e) refl
    where
      own : how_many (is_unwanted_to other) u ≤ 1
      own =
          let low_kernel : k < 8 = omega (arith, kernel, few) in
          let low_at : at < 8 = omega (arith, below, few) in
          let count : how_many (is_unwanted_to other) u + 0 ≡ how_many (is_unwanted_to other) w + (one_if (end_eq other other) + 0)
          = sum_over-after (λ q. one_if (is_unwanted_to other q)) b (record { kernel = low_kernel; taken = tt; sent = (low_at, tt) }) in
          let one : one_if (end_eq other other) ≡ 1 = ap one_if (end_eq-refl other) in
          let none : how_many (is_unwanted_to other) w ≡ 0 = none-void i w s right links kept few k v here alive r at hops low asking held unwants in
          omega (arith, count, one, none)

      by : (x : Bool) → end_eq other e ≡ x → how_many (is_unwanted_to e) u ≤ 1
      by true same = subst (λ z. how_many (is_unwanted_to z) u ≤ 1) (end_eq-same other e same) own
      by false apart = subst (λ z. z ≤ 1) (sym (number-same b anew (is_unwanted_to e) (λ q void. void-other k v e q apart void))) (right.unwanted e (sym (noticed-same b anew e) ∙ noticed))

  packets-void : Each u (λ from to q. IsPacketRight u t from to q)
  packets-void =
      each-after b (λ from to q. IsPacketRight w s.ends from to q) (λ from to q. IsPacketRight u t from to q) right.packets (λ from to q has a. right-anew b anew from to q.what a)
      (λ to what has.
      subst (λ (z : ℕ × PictureWhat). IsPacketRight u t k z.0 z.1) (only-there (at, packet.Unwanted other r k v.value.hops) (to, what) has)
      (λ noticed. is-still b anew at other (λ x. x.inward ≡ kernel_inward.Withdrawing r) (λ a. a) (subst (λ z. IsHereAnd z (λ x. x.inward ≡ kernel_inward.Withdrawing r)) (sym is-there) is-withdrawing)))

  -- all clauses on links
  pub right-void : AreRight i u (withdrawn v s)
  right-void =
      record {
        named = named-anew b anew right.named made;
        few = few-anew b anew i right.few;
        marked = λ e. marked-anew b anew e (right.marked e);
        counted = λ e. counted-anew b anew e (right.counted e);
        honest = honest-anew b anew right.honest (own-fields i w s right links kept few k v here);
        asked = λ e. asked-anew b anew e (right.asked e);
        cancelling = λ p e cancelling. withdrawing-still b anew (home_of s p) e (right.cancelling p e cancelling);
        served = served-void;
        wanted = wanted-void;
        unwanted = once-void;
        once = λ f. once-anew b anew f (right.once f);
        packets = packets-void;
      }

  pub links-void : AreLinksOf u (withdrawn v s)
  links-void = links-anew b anew links inward
    where
      inward : (e : EndId) (p : Pid) (x : HereView) → (s.ends e).place ≡ place.Owned p → entry_at w (home_of s p) e ≡ entry.Here x → IsInwardOf w e x.inward (s.ends e).inward → IsInwardOf u e x.inward (t e).inward
      inward e p x owns stands old = by (end_eq other e) refl
        where
          -- no parcel for it is under way, since it was posted
          unparcelled : IsInwardOf w other (kernel_inward.Withdrawing r) (s.ends other).inward → (n : ℕ) → IsUnderWay u (IsParcelFor other r n) → ⊥
          unparcelled asked n under =
              (subst (λ z. IsInwardOf w other (kernel_inward.Withdrawing r) z) is-posted asked).0 n (under-was b anew (IsParcelFor other r n) (λ what void. void-parcel_for k v other r n what void) under)

          own : entry_at w (home_of s p) other ≡ entry.Here x → IsInwardOf w other x.inward (s.ends other).inward → IsInwardOf u other x.inward (t other).inward
          own has was =
              let site : home_of s p ≡ at = here-kernel (length s.made) w s.ends few right.named right.marked links.once other (home_of s p) at x seen-view has is-there in
              let same : x ≡ seen-view = ap (view_or seen-view) (sym (subst (λ z. entry_at w z other ≡ entry.Here x) site has) ∙ is-there) in
              subst (λ (z : HereView). IsInwardOf u other z.inward (t other).inward) (sym same)
              (subst (λ z. IsInwardOf u other z (t other).inward) (sym is-withdrawing)
              (subst (λ (z : End). IsInwardOf u other (kernel_inward.Withdrawing r) z.inward) (sym turned) (
                unparcelled (subst (λ z. IsInwardOf w other z (s.ends other).inward) (ap (λ (z : HereView). z.inward) same ∙ is-withdrawing) was),
                under_way-sent b (IsUnwantedOf other r) (record { to = at; what = packet.Unwanted other r k v.value.hops; there = first (at, packet.Unwanted other r k v.value.hops) []; is = (refl, refl) }),
              )))

          by : (z : Bool) → end_eq other e ≡ z → IsInwardOf u e x.inward (t e).inward
          by true same =
              let is : other ≡ e = end_eq-same other e same in
              subst (λ z. IsInwardOf u z x.inward (t z).inward) is (own (subst (λ z. entry_at w (home_of s p) z ≡ entry.Here x) (sym is) stands) (subst (λ z. IsInwardOf w z x.inward (s.ends z).inward) (sym is) old))
          by false apart =
              subst (λ (z : End). IsInwardOf u e x.inward z.inward) (sym (stayed e apart))
              (inward-same w u e (λ q n. under-same b anew (IsParcelFor e q n) (λ what void. void-parcel_for k v e q n what void)) (λ q. under-same b anew (IsUnwantedOf e q) (λ what void. void-unwanted k v e q what apart void)) x.inward (s.ends e).inward old)
