-- A want is taken at an open end that is here, did not serve that receive yet, and has no send that waits: the want is kept, and the
-- service goes by no step.
use Rattle.std.proofs.Common.{◌≡◌, ◌⊎◌, inl, inr, ℕ, ◌+◌, ◌<◌, ◌≤◌, Bool, true, false, nat_lt, if◌then◌else◌, List, [], ◌∷◌, ◌++◌, length, Contains, refl, sym, ap, subst, ◌∙◌, arith, true≢false, lt-ltb, ltb-false, append-nil}
use Rattle.charlotte_calls.specs.Names.{opposite}
use Rattle.charlotte_calls.specs.declared.names.EndId.{EndId}
use Rattle.charlotte_calls.specs.declared.names.Pid.{Pid}
use Rattle.charlotte_packets.specs.declared.picture.MovingPicture.{MovingPicture}
use Rattle.charlotte_packets.specs.declared.picture.Picture.{Picture}
use Rattle.charlotte_packets.specs.declared.picture.PictureWhat.{PictureWhat}
use Rattle.charlotte_packets.specs.declared.picture.PictureWhat.TheVariants as packet
use Rattle.end_table.proofs.EndEq.{end_eq-refl}
use Rattle.end_table.specs.Entries.{is_news, learned}
use Rattle.end_table.specs.Place.{end_eq}
use Rattle.end_table.specs.Table.{IsHereAnd, IsOfEnd}
use Rattle.end_table.specs.declared.entry.Entry.{Entry}
use Rattle.end_table.specs.declared.entry.Entry.TheVariants as entry
use Rattle.end_table.specs.declared.entry.HereView.{HereView}
use Rattle.end_table.specs.declared.entry.Outward.{Outward}
use Rattle.end_table.specs.declared.entry.Outward.TheVariants as outward
use Rattle.kernel_effects.proofs.Uses.{live-each, news-each}
use Rattle.kernel_effects.specs.Actions.{learn_effect, match_waiting_effect}
use Rattle.kernel_effects.specs.Effect.{Effect, changed, nothing, puts, sent, stays}
use Rattle.kernel_effects.specs.Rows.{asked_view, row_effect, view_news, want_effect, wants_effect}
use Rattle.kernel_sound.proofs.Put.{IsViewAfter}
use Rattle.kernel_step.specs.Actions.{learned_view}
use Rattle.kernel_world.specs.World.{Takes, World, happens}
use Rattle.service_lawful.specs.Consistent.{is_open}
use Rattle.service_step.specs.Ends.{is_living, is_made, is_posted}
use Rattle.service_step.specs.State.{State}
use Rattle.theorem_take_silent.proofs.Aside.{sent-each}
use Rattle.theorem_take_silent.proofs.Lists.{first}
use Rattle.theorem_take_silent.proofs.Packets.{under_way-was}
use Rattle.theorem_take_silent.specs.Change.{Change, Changes, Happens}
use Rattle.theorem_take_silent.specs.Events.{taking}
use Rattle.theorem_take_silent.specs.Sums.{AllSent}
use Rattle.theorem_take_silent.specs.Under.{IsTaken}
use Rattle.theorem_meaning.proofs.Ends.{opposite-apart, opposite-twice}
use Rattle.theorem_meaning.proofs.Goes.{Goes}
use Rattle.theorem_meaning.specs.Fields.{At, HasFields, IsAsking, IsNews, value_of}
use Rattle.theorem_meaning.specs.Invariant.{AreRight, Invariant}
use Rattle.theorem_meaning.specs.Packets.{IsUnderWay, Links, links_of}
use Rattle.theorem_meaning.specs.StandsFor.{AreLinksOf, entry_at}
use Rattle.theorem_take_silent.proofs.Clauses.{links-still}
use Rattle.theorem_take_silent.proofs.Clauses.{is-still as quiet-still}
use Rattle.theorem_take_silent.proofs.Hearing.{IsHearing, hears, learns-so}
use Rattle.theorem_take_silent.proofs.Learning.{learning-right}
use Rattle.theorem_take_silent.proofs.Rows.{IsTable}
use Rattle.theorem_take_silent.proofs.Taking.{happens-so, table-is, taken-well}
use Rattle.theorem_take_silent.specs.Learning.{IsLearning}
use Rattle.theorem_take_silent.specs.Quiet.{IsQuiet}
use Rattle.theorem_take_silent.specs.Silent.{IsStill}
use Rattle.theorem_meaning.proofs.Plain.{there-here}
use Rattle.theorem_take_want.proofs.Asked.{only, opened, posted, unserved}
use Rattle.theorem_take_want.proofs.Kept.{keeping, keeps, links-kept, right-kept}
use Rattle.theorem_take_want.proofs.Parts.{halfway, taking-part, taking_first, untaken-part}
use Rattle.theorem_take_want.proofs.World.{invariant-anew, sound-view}

-- no send waits
abbrev pub IsNotWaiting : Outward → Type 0
IsNotWaiting outward.Idle = Unit {0}
IsNotWaiting (outward.Waiting n bytes xs) = ⊥
IsNotWaiting (outward.Matched n) = Unit {0}
IsNotWaiting outward.Unreported = Unit {0}

-- then the want is kept, and no more
not-matched : (k : ℕ) (t : EndId → Entry) (v : HereView) (o : Outward) → IsNotWaiting o → match_waiting_effect k t v o ≡ changed (puts v.value.end (entry.Here v) stays)
not-matched k t v outward.Idle idle = refl
not-matched k t v (outward.Waiting n bytes xs) idle = absurd idle
not-matched k t v (outward.Matched n) idle = refl
not-matched k t v outward.Unreported idle = refl

module _ (i : ℕ) (w : World) (s : State) (is : Invariant i w s) (k from stamp : ℕ) (to : EndId) (r at hops : ℕ) (others : List Picture)
    (there : w.packets from k ≡ record { stamp = stamp; what = packet.Want to r at hops } ∷ others) (v : HereView) (here : (w.kernel k).table to ≡ entry.Here v) (alive : v.value.dead ≡ false) (low : v.value.served < r)
    (idle : IsNotWaiting v.outward) where
  abbrev q : Picture
  q = record { stamp = stamp; what = packet.Want to r at hops }

  abbrev any : Pid
  any = record { 0 = 0 }

  abbrev mine : EndId
  mine = v.value.end

  abbrev other : EndId
  other = opposite v.value.end

  abbrev heard : HereView
  heard = learned_view v at hops

  abbrev now : HereView
  now = asked_view r at hops v

  heard-end : heard.value.end ≡ v.value.end
  heard-end = by (is_news v.value hops)
    where
      by : (b : Bool) → (if b then record v.value { hint = (at, hops) } else v.value).end ≡ v.value.end
      by true = refl
      by false = refl

  -- what the taking does
  abbrev keeps-it : Effect
  keeps-it = record (sent (view_news k at hops v v.inward)) { entry = puts v.value.end (entry.Here now) stays }

  does : row_effect k (w.kernel k).made from (w.kernel k).table q.what ≡ keeps-it
  does =
      ap (want_effect k (w.kernel k).table to r at hops) here
      ∙ ap (λ b. if b then nothing else if nat_lt v.value.served r then wants_effect k (w.kernel k).table r at hops v else learn_effect k at hops v) alive
      ∙ ap (λ b. if b then wants_effect k (w.kernel k).table r at hops v else learn_effect k at hops v) (lt-ltb v.value.served r low)
      ∙ ap (λ (f : Effect). record f { packets = f.packets ++ view_news k at hops v v.inward }) (not-matched k (w.kernel k).table now v.outward idle)
      ∙ ap (λ z. record (sent (view_news k at hops v v.inward)) { entry = puts z (entry.Here now) stays }) heard-end

  abbrev c : Change
  c = taking w k from q keeps-it any [] []

  happened : Happens w (Takes k from) c
  happened =
      subst (λ (f : Effect). Happens w (Takes k from) (taking w k from q f any [] [])) does
      (happens-so i w s is k from q others there refl (ap (λ (f : Effect). f.answers) does) (ap (λ (f : Effect). f.reports) does))

  table : IsTable (length s.made) s.ends k (w.kernel k).table
  table = table-is i w s is k from q others there

  end : v.value.end ≡ to
  end = subst (IsOfEnd to) here (table.own to)

  own-here : (w.kernel k).table v.value.end ≡ entry.Here v
  own-here = subst (λ z. (w.kernel k).table z ≡ entry.Here v) (sym end) here

  standing : Contains (w.packets from k) q
  standing = subst (λ l. Contains l q) (sym there) (first q others)

  asking : IsUnderWay (links_of w) (IsAsking v.value.end r at hops)
  asking = record { from = from; to = k; packet = q; there = standing; is = (sym end, refl, refl, refl) }

  is-opened : is_open (s.ends mine) ≡ true
  is-opened = opened i (links_of w) s is.links is.stands.links is.service is.setting.few k v own-here alive

  -- ---- in two parts: it learns, and keeps the want

  abbrev f : EndId → Entry → Entry
  f = puts v.value.end (entry.Here heard) stays

  abbrev g : EndId → Entry → Entry
  g = puts heard.value.end (entry.Here (record heard { value = keeps r heard })) stays

  abbrev ps : List (ℕ × PictureWhat)
  ps = view_news k at hops v v.inward

  heard-served : heard.value.served ≡ v.value.served
  heard-served = by (is_news v.value hops)
    where
      by : (b : Bool) → (if b then record v.value { hint = (at, hops) } else v.value).served ≡ v.value.served
      by true = refl
      by false = refl

  entries : (e : EndId) → c.entry e ((w.kernel k).table e) ≡ g e (f e ((w.kernel k).table e))
  entries e =
      by (end_eq v.value.end e)
      ∙ ap (λ z. if end_eq z e then entry.Here (record heard { value = keeps r heard }) else (if end_eq v.value.end e then entry.Here heard else (w.kernel k).table e)) (sym heard-end)
    where
      by : (b : Bool) → (if b then entry.Here now else (w.kernel k).table e) ≡ (if b then entry.Here (record heard { value = keeps r heard }) else (if b then entry.Here heard else (w.kernel k).table e))
      by true = refl
      by false = refl

  abbrev half : Links
  half = halfway happened.becomes.links f g ps [] entries (sym (append-nil ps))

  abbrev learning_part : Change
  learning_part = taking_first happened.becomes.links f g ps [] entries (sym (append-nil ps))

  first-half : Changes (links_of w) learning_part half
  first-half = taking-part happened.becomes.links f g ps [] entries (sym (append-nil ps))

  -- ---- it learns

  learns : IsStill (length s.made) s.ends (w.kernel k).table (hears v at hops ps) × IsHearing k (w.kernel k).table q.what (hears v at hops ps)
  learns =
      learns-so (length s.made) s.ends k (w.kernel k).table table q.what v.value.end at hops v (sym end, refl, refl) (taken-well i w s is k from q others there refl).addressed
      (subst (λ z. is_made (s.ends z).place ≡ true) (sym end) (taken-well i w s is k from q others there refl).made) own-here

  quiet : IsQuiet (length s.made) s.ends (links_of w) learning_part
  quiet = record { kernel = table.below; entry = learns.0.entry; names = learns.0.names; taken = refl; sent = learns.0.sent }

  learning : IsLearning (links_of w) learning_part
  learning = record { view = learns.1.view; here = learns.1.here; hints = λ e m l had has. by e m l (learns.1.hints e m l had has); sent = learns.1.sent }
    where
      by : (e : EndId) (m l : MovingPicture) → (l.hint ≡ m.hint) ⊎ (IsNews e l.hint.0 l.hint.1 q.what × (m.hint.1 < l.hint.1)) → (l.hint ≡ m.hint) ⊎ (IsTaken learning_part (IsNews e l.hint.0 l.hint.1) × (m.hint.1 < l.hint.1))
      by e m l (inl same) = inl same
      by e m l (inr told) = inr (record { from = from; packet = q; taken = refl; is = told.0 }, told.1)

  right : AreRight (i + 1) half s
  right = learning-right first-half s quiet learning i is.links is.stands.links is.setting.few

  links : AreLinksOf half s
  links = links-still first-half s quiet is.stands.links

  -- ---- its hint names where the opposite is

  hint-true : (b : Bool) → is_news v.value hops ≡ b → (v.value.hint.1 ≤ hops) → (v.value.hint.1 ≡ hops → v.value.hint.0 ≡ at) → (if b then record v.value { hint = (at, hops) } else v.value).hint ≡ (at, hops)
  hint-true true news most site = refl
  hint-true false old most site =
      let least : hops ≤ v.value.hint.1 = ltb-false v.value.hint.1 hops old in
      let same : v.value.hint.1 ≡ hops = omega (arith, most, least) in
      ap (λ j. (j, v.value.hint.1)) (site same) ∙ ap (λ h. (at, h)) same

  known : is_living (s.ends other).place ≡ true → IsHereAnd (entry_at (links_of w) at other) (λ x. (x.value.hops ≡ hops) × (x.value.asked ≡ r))
  known living =
      (is.links.wanted mine).site (At k) v.value r at hops is-opened (ap value_of own-here) (unserved i (links_of w) s is.links is.stands.links is.service is.setting.few k v own-here alive r at hops low asking) living

  hint-is : is_living (s.ends other).place ≡ true → heard.value.hint ≡ (at, hops)
  hint-is living =
      let x = there-here (entry_at (links_of w) at other) (λ x. (x.value.hops ≡ hops) × (x.value.asked ≡ r)) (known living) in
      let told : (v.value.hint.1 ≤ x.0.value.hops) × (v.value.hint.1 ≡ x.0.value.hops → v.value.hint.0 ≡ at)
      = is.links.honest other (At at) x.0.value v.value.hint.0 v.value.hint.1 (ap value_of x.1)
      (inl (record { stand = At k; fields = v.value; are = subst (λ z. HasFields (links_of w) z (At k) v.value) (sym (opposite-twice mine)) (ap value_of own-here); hint = refl })) in
      hint-true (is_news v.value hops) refl (subst (λ z. v.value.hint.1 ≤ z) x.2.0 told.0) (λ same. told.1 (same ∙ sym x.2.0))

  site : is_living (s.ends other).place ≡ true → IsHereAnd (entry_at half heard.value.hint.0 other) (λ x. (x.value.hops ≡ heard.value.hint.1) × (x.value.asked ≡ r))
  site living =
      subst (λ (z : ℕ × ℕ). IsHereAnd (entry_at half z.0 other) (λ x. (x.value.hops ≡ z.1) × (x.value.asked ≡ r))) (sym (hint-is living))
      (quiet-still first-half s quiet at other (λ x. (x.value.hops ≡ hops) × (x.value.asked ≡ r))
      (λ x y like a. (ap (λ (z : MovingPicture). z.hops) like.1 ∙ a.0, ap (λ (z : MovingPicture). z.asked) like.1 ∙ a.1)) (known living))

  -- the end that learns asks its opposite alone
  abbrev IsSilent : ℕ × PictureWhat → Type 0
  IsSilent x = (p j h : ℕ) → IsAsking mine p j h x.1 → ⊥

  away : opposite heard.value.end ≡ mine → ⊥
  away is = true≢false (sym (end_eq-refl mine) ∙ subst (λ z. end_eq mine z ≡ false) (sym (ap opposite heard-end) ∙ is) (opposite-apart mine))

  silent : AllSent (λ to what. IsSilent (to, what)) ps
  silent =
      news-each IsSilent k v.value hops (learned at hops v.value) v.inward
      (λ rise. live-each IsSilent k (learned at hops v.value) v.inward (λ x posted p j h asks. away asks.0) (λ x withdrawing p j h asks. away asks.0) (λ p j h asks. asks))

  one-receive : (p j h : ℕ) → v.value.served < p → IsUnderWay half (IsAsking mine p j h) → p ≡ r
  one-receive p j h more asks =
      only i (links_of w) s is.links is.stands.links is.service is.setting.few k v own-here alive r at hops low asking p j h
      (inr (more, under_way-was first-half (IsAsking mine p j h) (λ x. sent-each (λ to what. IsSilent (to, what)) ps x.to x.what silent x.there p j h x.is) asks))

  -- ---- and keeps the want

  last-half : Changes half (keeping c heard r) (links_of (happens w (Takes k from)))
  last-half = untaken-part happened.becomes.links f g ps [] entries (sym (append-nil ps))

  half-here : entry_at half k heard.value.end ≡ entry.Here heard
  half-here = subst (λ z. entry_at half k z ≡ entry.Here heard) (sym heard-end) (first-half.entry mine ∙ ap (λ b. if b then entry.Here heard else (w.kernel k).table mine) (end_eq-refl mine))

  open-heard : is_open (s.ends heard.value.end) ≡ true
  open-heard = subst (λ z. is_open (s.ends z) ≡ true) (sym heard-end) is-opened

  made-heard : is_made (s.ends (opposite heard.value.end)).place ≡ true
  made-heard = subst (λ z. is_made (s.ends (opposite z)).place ≡ true) (sym (heard-end ∙ end)) (table.both to (taken-well i w s is k from q others there refl).made)

  posted-heard : is_posted (s.ends (opposite heard.value.end)).inward ≡ true
  posted-heard =
      subst (λ z. is_posted (s.ends (opposite z)).inward ≡ true) (sym heard-end)
      (ap is_posted (posted i (links_of w) s is.links is.stands.links is.service is.setting.few k v own-here alive r at hops low asking))

  low-heard : heard.value.served < r
  low-heard = subst (λ z. z < r) (sym heard-served) low

  one-heard : (p j h : ℕ) → heard.value.served < p → IsUnderWay half (IsAsking heard.value.end p j h) → p ≡ r
  one-heard p j h more asks = one-receive p j h (subst (λ z. z < p) heard-served more) (subst (λ z. IsUnderWay half (IsAsking z p j h)) heard-end asks)

  site-heard : is_living (s.ends (opposite heard.value.end)).place ≡ true → IsHereAnd (entry_at half heard.value.hint.0 (opposite heard.value.end)) (λ x. (x.value.hops ≡ heard.value.hint.1) × (x.value.asked ≡ r))
  site-heard living =
      subst (λ z. IsHereAnd (entry_at half heard.value.hint.0 (opposite z)) (λ x. (x.value.hops ≡ heard.value.hint.1) × (x.value.asked ≡ r))) (sym heard-end)
      (site (subst (λ z. is_living (s.ends (opposite z)).place ≡ true) heard-end living))

  -- the service goes with it by no step
  pub want-kept-goes : Goes i w s (Takes k from)
  want-kept-goes =
      record {
        part = [];
        steps = sym happened.steps;
        run = tt;
        after =
            invariant-anew happened.becomes s (record { process = refl; made = refl }) i s.ends is
            (sound-view k (w.kernel k).made (length s.homes) (w.kernel k).table ((happens w (Takes k from)).kernel k).table v now own-here (after-view (is_news v.value hops)) happened.becomes.links.entry (is.setting.sound k))
            (links-kept (i + 1) half (links_of (happens w (Takes k from))) s right links is.setting.few c heard half-here open-heard r low-heard table.below made-heard posted-heard one-heard site-heard last-half) is.service
            (right-kept (i + 1) half (links_of (happens w (Takes k from))) s right links is.setting.few c heard half-here open-heard r low-heard table.below made-heard posted-heard one-heard site-heard last-half);
        homes = refl;
      }
    where
      after-view : (b : Bool) → IsViewAfter v (record v { value = record (if b then record v.value { hint = (at, hops) } else v.value) { want = r } })
      after-view true = record { end = refl; holder = refl; idle = λ idle. record { outward = idle.outward; inward = idle.inward }; message = inl refl }
      after-view false = record { end = refl; holder = refl; idle = λ idle. record { outward = idle.outward; inward = idle.inward }; message = inl refl }
