-- A want is taken at an open end that is here, did not serve that receive yet, and has a send that waits: the service goes by their match.
use Rattle.std.proofs.Common.{◌≡◌, ◌⊎◌, inl, inr, ℕ, ◌+◌, ◌^◌, ◌<◌, ◌≤◌, Bool, true, false, nat_lt, if◌then◌else◌, List, [], ◌∷◌, ◌++◌, length, Contains, refl, sym, ap, subst, ◌∙◌, arith, lt-ltb, ltb-false, ltb-true}
use Rattle.charlotte_calls.specs.Names.{opposite}
use Rattle.charlotte_calls.specs.declared.calls.ServiceStep.TheVariants as step
use Rattle.charlotte_calls.specs.declared.names.EndId.{EndId}
use Rattle.charlotte_calls.specs.declared.names.Pid.{Pid}
use Rattle.charlotte_packets.specs.declared.picture.MovingPicture.{MovingPicture}
use Rattle.charlotte_packets.specs.declared.picture.Picture.{Picture}
use Rattle.charlotte_packets.specs.declared.picture.PictureWhat.{PictureWhat}
use Rattle.charlotte_packets.specs.declared.picture.PictureWhat.TheVariants as packet
use Rattle.end_table.specs.Entries.{is_news, learned}
use Rattle.end_table.specs.Place.{end_eq}
use Rattle.end_table.specs.Table.{IfHere, IsOfEnd}
use Rattle.end_table.specs.declared.entry.Entry.{Entry}
use Rattle.end_table.specs.declared.entry.Entry.TheVariants as entry
use Rattle.end_table.specs.declared.entry.HereView.{HereView}
use Rattle.end_table.specs.declared.entry.Outward.TheVariants as outward
use Rattle.kernel_effects.specs.Actions.{learn_effect, left_of, match_effect, match_waiting_effect}
use Rattle.kernel_effects.specs.Effect.{Effect, nothing, puts, sent, stays, turns}
use Rattle.kernel_effects.specs.Rows.{row_effect, view_news, want_effect, wants_effect}
use Rattle.kernel_sound.specs.Sound.{AreHeldBy, IsHeldWell}
use Rattle.kernel_step.specs.Actions.{enclosed_of, learned_view, values_leaving}
use Rattle.kernel_world.specs.World.{Takes, World, happens}
use Rattle.service_consistent.proofs.Laws.{consistent_after}
use Rattle.service_lawful.specs.Consistent.{IsConsistent}
use Rattle.service_step.specs.Ends.{is_living, is_made, matches}
use Rattle.service_step.specs.State.{State}
use Rattle.service_step.specs.Steps.{IsServiceStep}
use Rattle.theorem_call_send.proofs.Lists.{first}
use Rattle.theorem_call_send.proofs.NamedParts.{hint-below, learned-named}
use Rattle.theorem_call_send.specs.Change.{Change, Changes, Happens}
use Rattle.theorem_call_send.specs.Events.{taking}
use Rattle.theorem_call_send.specs.Under.{IsTaken}
use Rattle.theorem_meaning.proofs.Ends.{opposite-twice}
use Rattle.theorem_meaning.proofs.Goes.{Goes}
use Rattle.theorem_meaning.specs.Fields.{Stand, At, HasFields, IsNews, IsUnserved, value_of}
use Rattle.theorem_meaning.specs.Invariant.{AreRight, Invariant, IsFew, NamesBelow}
use Rattle.theorem_meaning.specs.Packets.{Links, links_of}
use Rattle.theorem_meaning.specs.StandsFor.{AreLinksOf, entry_at}
use Rattle.theorem_take_want.proofs.Clauses.{fields-was, links-still}
use Rattle.theorem_take_want.proofs.Hearing.{IsHearing, hears, learns-so}
use Rattle.theorem_take_want.proofs.Learning.{learning-right}
use Rattle.theorem_take_want.proofs.Rows.{IsTable}
use Rattle.theorem_take_want.proofs.Sound.{takes-sound}
use Rattle.theorem_take_want.proofs.Taking.{happens-so, table-is, taken-well}
use Rattle.theorem_take_want.specs.Learning.{IsLearning}
use Rattle.theorem_take_want.specs.Quiet.{IsQuiet}
use Rattle.theorem_take_want.specs.Silent.{IsStill}
use Rattle.theorem_take_want.proofs.Asked.{opened, unserved}
use Rattle.theorem_take_want.proofs.Parts.{between, first-part, last-part, taking_last}
use Rattle.theorem_take_want.proofs.Unwanting.{news-voided}
use Rattle.theorem_take_want.proofs.World.{invariant-anew}
use Rattle.theorem_meaning.proofs.Plain.{right-few, there-here}
use Rattle.theorem_match.specs.Matching.{IsMatching, matching, served_view}
use Rattle.theorem_match.proofs.Match.{links-matched, now-of, now-own, right-matched, step-matched}

-- where an end learns in a part of an event, no count grows
learned-right : {w u : Links} {c : Change} (b : Changes w c u) (s : State) (quiet : IsQuiet (length s.made) s.ends w c) → IsLearning w c → (i : ℕ) → AreRight i w s → AreLinksOf w s → length s.made ≤ 8 → AreRight i u s
learned-right {w} {u} {c} b s quiet learning i right links few = right-few (learning-right b s quiet learning i right links few) i counts
  where
    counts : (e : EndId) (at : Stand) (m : MovingPicture) → HasFields u e at m → IsFew i m
    counts e at m has =
        let o = fields-was b s quiet e at m has in
        let old = right.few e at o.0 o.1 in
        record {
          hops = subst (λ z. z ≤ i) (sym (ap (λ (z : MovingPicture). z.hops) o.2)) old.hops;
          sent = subst (λ z. z ≤ i) (sym (ap (λ (z : MovingPicture). z.sent) o.2)) old.sent;
          asked = subst (λ z. z ≤ i) (sym (ap (λ (z : MovingPicture). z.asked) o.2)) old.asked;
        }

-- an end that hears of a receive which it did not serve knows where its opposite is, if that lives
pub hint-known : (i : ℕ) (w : Links) (s : State) (right : AreRight i w s) (links : AreLinksOf w s) (kept : IsConsistent s) (few : length s.made ≤ 8) (k : ℕ) (v : HereView) → entry_at w k v.value.end ≡ entry.Here v → v.value.dead ≡ false
    → (r at hops : ℕ) → IsUnserved w v.value.end v.value r at hops → is_living (s.ends (opposite v.value.end)).place ≡ true → (learned at hops v.value).hint ≡ (at, hops)
hint-known i w s right links kept few k v here alive r at hops asked living =
    let x = there-here (entry_at w at (opposite v.value.end)) (λ x. (x.value.hops ≡ hops) × (x.value.asked ≡ r)) ((right.wanted v.value.end).site (At k) v.value r at hops (opened i w s right links kept few k v here alive) (ap value_of here) asked living) in
    let told : (v.value.hint.1 ≤ x.0.value.hops) × (v.value.hint.1 ≡ x.0.value.hops → v.value.hint.0 ≡ at)
    = right.honest (opposite v.value.end) (At at) x.0.value v.value.hint.0 v.value.hint.1 (ap value_of x.1)
    (inl (record { stand = At k; fields = v.value; are = subst (λ z. HasFields w z (At k) v.value) (sym (opposite-twice v.value.end)) (ap value_of here); hint = refl })) in
    hint-is (is_news v.value hops) refl (subst (λ z. v.value.hint.1 ≤ z) x.2.0 told.0) (λ same. told.1 (same ∙ sym x.2.0))
  where
    hint-is : (b : Bool) → is_news v.value hops ≡ b → (v.value.hint.1 ≤ hops) → (v.value.hint.1 ≡ hops → v.value.hint.0 ≡ at) → (if b then record v.value { hint = (at, hops) } else v.value).hint ≡ (at, hops)
    hint-is true news most site = refl
    hint-is false old most site =
        let least : hops ≤ v.value.hint.1 = ltb-false v.value.hint.1 hops old in
        let same : v.value.hint.1 ≡ hops = omega (arith, most, least) in
        ap (λ j. (j, v.value.hint.1)) (site same) ∙ ap (λ h. (at, h)) same

module _ (i : ℕ) (w : World) (s : State) (is : Invariant i w s) (room : i < 2 ^ 31) (k from stamp : ℕ) (to : EndId) (r at hops : ℕ) (others : List Picture)
    (there : w.packets from k ≡ record { stamp = stamp; what = packet.Want to r at hops } ∷ others) (v : HereView) (here : (w.kernel k).table to ≡ entry.Here v) (alive : v.value.dead ≡ false)
    (low : v.value.served < r) (n : ℕ) (bytes : List ℕ) (xs : List EndId) (waits : v.outward ≡ outward.Waiting n bytes xs) where
  abbrev q : Picture
  q = record { stamp = stamp; what = packet.Want to r at hops }

  abbrev any : Pid
  any = record { 0 = 0 }

  abbrev mine : EndId
  mine = v.value.end

  abbrev other : EndId
  other = opposite v.value.end

  abbrev table : EndId → Entry
  table = (w.kernel k).table

  abbrev made : ℕ
  made = (w.kernel k).made

  abbrev ms : List MovingPicture
  ms = values_leaving k table xs

  abbrev news : List (ℕ × PictureWhat)
  news = view_news k at hops v v.inward

  -- what the taking does: the end has this view afterwards, and the message goes to a kernel
  abbrev matches_it : HereView → ℕ → Effect
  matches_it x goes =
      record (sent ((goes, packet.Parcel other n r k v.value.hops bytes ms) ∷ news)) { entry = puts mine (entry.Here x) (turns xs (left_of goes) stays); steps = step.Match mine n ∷ [] }

  abbrev goes : ℕ
  goes = (learned at hops v.value).hint.0

  abbrev new : HereView
  new = learned_view (served_view v r n) at hops

  abbrev effect : Effect
  effect = matches_it new goes

  does : row_effect k made from table q.what ≡ effect
  does =
      ap (want_effect k table to r at hops) here
      ∙ ap (λ b. if b then nothing else if nat_lt v.value.served r then wants_effect k table r at hops v else learn_effect k at hops v) alive
      ∙ ap (λ b. if b then wants_effect k table r at hops v else learn_effect k at hops v) (lt-ltb v.value.served r low)
      ∙ ap (λ o. let asked = match_waiting_effect k table (record v { value = record (learned at hops v.value) { want = r } }) o in record asked { packets = asked.packets ++ news }) waits
      ∙ by (is_news v.value hops)
    where
      by : (b : Bool)
          → (let x = record v { value = record (if b then record v.value { hint = (at, hops) } else v.value) { want = r } } in let asked = match_effect k table x n bytes xs in record asked { packets = asked.packets ++ news })
          ≡ matches_it (record v { value = if b then record v.value { served = r; want = 0; hint = (at, hops) } else record v.value { served = r; want = 0 }; outward = outward.Matched n }) (if b then record v.value { hint = (at, hops) } else v.value).hint.0
      by true = refl
      by false = refl

  abbrev c : Change
  c = taking w k from q effect any [] []

  happened : Happens w (Takes k from) c
  happened =
      subst (λ (f : Effect). Happens w (Takes k from) (taking w k from q f any [] [])) does
      (happens-so i w s is k from q others there refl (ap (λ (f : Effect). f.answers) does) (ap (λ (f : Effect). f.reports) does))

  tables : IsTable (length s.made) s.ends k table
  tables = table-is i w s is k from q others there

  end : v.value.end ≡ to
  end = subst (IsOfEnd to) here (tables.own to)

  own-here : table mine ≡ entry.Here v
  own-here = subst (λ z. table z ≡ entry.Here v) (sym end) here

  asked : IsUnserved (links_of w) mine v.value r at hops
  asked =
      unserved i (links_of w) s is.links is.stands.links is.service is.setting.few k v own-here alive r at hops low
      (record { from = from; to = k; packet = q; there = subst (λ l. Contains l q) (sym there) (first q others); is = (sym end, refl, refl, refl) })

  held : (j : ℕ) (e : EndId) → IfHere ((w.kernel j).table e) (λ x. IsHeldWell (length s.homes) x x.holder)
  held j e = (is.setting.sound j).held e

  matchable : IsMatching (links_of w) s k v r at hops n bytes xs goes
  matchable =
      record {
        kernel = tables.below;
        goes = hint-below (length s.made) (learned at hops v.value) (learned-named (length s.made) at hops v.value at-below (subst (NamesBelow (length s.made)) own-here (tables.names mine)));
        site = λ living. ap (λ (z : ℕ × ℕ). z.0) (hint-known i (links_of w) s is.links is.stands.links is.service is.setting.few k v own-here alive r at hops asked living);
        here = own-here;
        alive = alive;
        asked = asked;
        waits = waits;
        own = tables.own;
        enclosed = subst (λ o. AreHeldBy mine table (enclosed_of o)) waits (subst (λ z. IfHere z (λ x. AreHeldBy mine table (enclosed_of x.outward))) own-here ((is.setting.sound k).enclosed mine));
      }
    where
      at-below : at < length s.made
      at-below = ltb-true at (length s.made) (taken-well i w s is k from q others there refl).addressed

  -- ---- in two parts: it is matched, and learns

  abbrev f : EndId → Entry → Entry
  f = puts mine (entry.Here (served_view v r n)) (turns xs (left_of goes) stays)

  abbrev g : EndId → Entry → Entry
  g = puts mine (entry.Here new) stays

  abbrev ps : List (ℕ × PictureWhat)
  ps = (goes, packet.Parcel other n r k v.value.hops bytes ms) ∷ []

  abbrev rs : List (ℕ × PictureWhat)
  rs = view_news k at hops (served_view v r n) v.inward

  entries : (e : EndId) → c.entry e (table e) ≡ g e (f e (table e))
  entries e = by (end_eq mine e)
    where
      by : (b : Bool) → (if b then entry.Here new else turns xs (left_of goes) stays e (table e)) ≡ (if b then entry.Here new else (if b then entry.Here (served_view v r n) else turns xs (left_of goes) stays e (table e)))
      by true = refl
      by false = refl

  packets : c.packets ≡ ps ++ rs
  packets = ap (λ l. (goes, packet.Parcel other n r k v.value.hops bytes ms) ∷ l) (news-voided k r at hops v v.inward)

  abbrev half : Links
  half = between happened.becomes.links f g ps rs entries packets

  first-half : Changes (links_of w) (matching c table v r n bytes xs goes) half
  first-half = first-part happened.becomes.links f g ps rs entries packets

  abbrev last : Change
  last = taking_last happened.becomes.links f g ps rs entries packets

  last-half : Changes half last (links_of (happens w (Takes k from)))
  last-half = last-part happened.becomes.links f g ps rs entries packets

  abbrev after : State
  after = record s { ends = matches mine n s.ends }

  stepped : IsServiceStep s (step.Match mine n) after
  stepped = step-matched i (links_of w) s is.links is.stands.links is.service is.setting.few held c v r at hops n bytes xs goes matchable

  service : IsConsistent after
  service = consistent_after s (step.Match mine n) after is.service stepped

  right : AreRight (i + 1) half after
  right = right-matched i (links_of w) s is.links is.stands.links is.service is.setting.few held c v r at hops n bytes xs goes matchable half first-half (omega (arith, room))

  links : AreLinksOf half after
  links = links-matched i (links_of w) s is.links is.stands.links is.service is.setting.few held c v r at hops n bytes xs goes matchable half first-half

  -- ---- and the end learns

  half-table : IsTable (length s.made) after.ends k (half.entry k)
  half-table =
      record {
        below = tables.below;
        own = now-of i (links_of w) s is.links is.stands.links is.service is.setting.few held c v r at hops n bytes xs goes matchable half first-half;
        names = right.named.entries k;
        marks = λ e m stands. (right.marked e).destroyed k m stands;
        both = λ e living. service.kept.made (opposite e) ∙ sym (service.kept.made e) ∙ living;
      }

  half-here : half.entry k mine ≡ entry.Here (served_view v r n)
  half-here = now-own i (links_of w) s is.links is.stands.links is.service is.setting.few held c v r at hops n bytes xs goes matchable half first-half

  learns : IsStill (length s.made) after.ends (half.entry k) (hears (served_view v r n) at hops rs) × IsHearing k (half.entry k) q.what (hears (served_view v r n) at hops rs)
  learns =
      learns-so (length s.made) after.ends k (half.entry k) half-table q.what mine at hops (served_view v r n) (sym end, refl, refl) (taken-well i w s is k from q others there refl).addressed
      (service.kept.made mine ∙ sym (is.service.kept.made mine) ∙ subst (λ z. is_made (s.ends z).place ≡ true) (sym end) (taken-well i w s is k from q others there refl).made) half-here

  quiet : IsQuiet (length s.made) after.ends half last
  quiet = record { kernel = tables.below; entry = learns.0.entry; names = learns.0.names; taken = refl; sent = learns.0.sent }

  learning : IsLearning half last
  learning = record { view = learns.1.view; here = learns.1.here; hints = λ e m l had has. by e m l (learns.1.hints e m l had has); sent = learns.1.sent }
    where
      by : (e : EndId) (m l : MovingPicture) → (l.hint ≡ m.hint) ⊎ (IsNews e l.hint.0 l.hint.1 q.what × (m.hint.1 < l.hint.1)) → (l.hint ≡ m.hint) ⊎ (IsTaken last (IsNews e l.hint.0 l.hint.1) × (m.hint.1 < l.hint.1))
      by e m l (inl same) = inl same
      by e m l (inr told) = inr (record { from = from; packet = q; taken = refl; is = told.0 }, told.1)

  -- the service goes with it by the match
  pub want-matched-goes : Goes i w s (Takes k from)
  want-matched-goes =
      record {
        part = (step.Match mine n, after) ∷ [];
        steps = sym happened.steps;
        run = (stepped, tt);
        after =
            invariant-anew happened.becomes s (record { process = refl; made = refl }) i after.ends is
            (takes-sound k made (length s.homes) table (is.setting.sound k) from q.what tt ((happens w (Takes k from)).kernel k).table
            (λ e. happened.becomes.links.entry e ∙ sym (ap (λ (f : Effect). f.entry e (table e)) does))) (links-still last-half after quiet links) service (learned-right last-half after quiet learning (i + 1) right links is.setting.few);
        homes = refl;
      }
