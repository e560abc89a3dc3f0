-- The service goes with a Send that is not refused: where a receive of its opposite is asked for, its message is matched at once.
use Rattle.std.proofs.Common.{◌≡◌, ◌≢◌, ◌⊎◌, inl, inr, ℕ, ◌+◌, ◌^◌, ◌<◌, ◌≤◌, Bool, true, false, nat_eq, if◌then◌else◌, List, [], ◌∷◌, ◌++◌, length, Contains, Some, None, slice_index, refl, sym, ap, subst, ◌∙◌, arith, ne_eqb}
use Rattle.std.proofs.lemmas.Bool.Decides.{eqb_tells}
use Rattle.std.specs.List.{list_any}
use Rattle.charlotte_calls.proofs.Causes.{first_of-none}
use Rattle.charlotte_calls.specs.Causes.{first_of, send_causes}
use Rattle.charlotte_calls.specs.Names.{opposite}
use Rattle.charlotte_calls.specs.declared.calls.Answer.TheVariants as answer
use Rattle.charlotte_calls.specs.declared.calls.Call.TheVariants as call
use Rattle.charlotte_calls.specs.declared.calls.ServiceStep.TheVariants as step
use Rattle.charlotte_calls.specs.declared.names.EndId.{EndId}
use Rattle.charlotte_calls.specs.declared.names.Pid.{Pid}
use Rattle.charlotte_packets.specs.declared.picture.MovingPicture.{MovingPicture}
use Rattle.charlotte_packets.specs.declared.picture.PictureWhat.{PictureWhat}
use Rattle.charlotte_packets.specs.declared.picture.PictureWhat.TheVariants as packet
use Rattle.charlotte_calls.specs.declared.setting.Setting.{Setting}
use Rattle.end_table.proofs.EndEq.{end_eq-same}
use Rattle.end_table.specs.Entries.{gains_one}
use Rattle.end_table.specs.Owned.{owned}
use Rattle.end_table.specs.Place.{end_eq}
use Rattle.end_table.specs.Table.{IfHere, IsHereAnd, IsIdle, IsOfEnd}
use Rattle.end_table.specs.declared.entry.Entry.{Entry}
use Rattle.end_table.specs.declared.entry.Entry.TheVariants as entry
use Rattle.end_table.specs.declared.entry.HereView.{HereView}
use Rattle.end_table.specs.declared.entry.Holder.{Holder}
use Rattle.end_table.specs.declared.entry.Holder.TheVariants as holder
use Rattle.kernel_effects.specs.Actions.{held_entry, left_of, match_effect}
use Rattle.kernel_effects.specs.Calls.{act_effect, effect_on, send_effect, sending_view}
use Rattle.kernel_effects.specs.Effect.{Effect, puts, stays, turns}
use Rattle.kernel_sound.proofs.Needs.{AreFree, send-free}
use Rattle.kernel_sound.specs.Sound.{AreHeldBy, IsHeldWell}
use Rattle.kernel_step.specs.Actions.{here, value_leaving, values_leaving}
use Rattle.kernel_step.specs.Calls.{refusal, sees}
use Rattle.kernel_step.specs.Kernel.{has_report, process_of}
use Rattle.kernel_step.specs.declared.phase.Phase.TheVariants as kernel_phase
use Rattle.kernel_world.specs.Run.{IsAllowed}
use Rattle.kernel_world.specs.World.{World, Calls, Event, happens}
use Rattle.service_consistent.proofs.Laws.{consistent_after}
use Rattle.service_lawful.specs.Consistent.{IsConsistent}
use Rattle.service_step.specs.Ends.{matches}
use Rattle.service_step.specs.State.{State}
use Rattle.service_step.specs.Steps.{IsServiceStep}
use Rattle.theorem_call_send.proofs.Allowed.{performs-allowed}
use Rattle.theorem_call_send.proofs.Aside.{not_among}
use Rattle.theorem_call_send.proofs.Lists.{first, later}
use Rattle.theorem_call_send.proofs.NamedParts.{hint-below}
use Rattle.theorem_call_send.specs.Change.{Change, Changes, Happens}
use Rattle.theorem_call_send.specs.Events.{calling}
use Rattle.theorem_meaning.proofs.Goes.{Goes}
use Rattle.theorem_meaning.specs.Fields.{Stand, HasFields}
use Rattle.theorem_meaning.specs.Invariant.{AreRight, Invariant, IsFew, NamesBelow}
use Rattle.theorem_meaning.specs.Packets.{Links, links_of}
use Rattle.theorem_meaning.specs.StandsFor.{AreLinksOf, entry_at, home_of}
use Rattle.theorem_take_want.proofs.Parts.{between, first-part, last-part}
use Rattle.theorem_call_send.proofs.Answered.{IsGranted, granted-on, processes-after, setting-called}
use Rattle.theorem_call_send.proofs.Receives.{home-near}
use Rattle.theorem_call_send.specs.Begun.{IsBeginning, begun}
use Rattle.theorem_call_send.specs.Regrouped.{is_among}
use Rattle.theorem_call_send.proofs.Begun.{begun-few, begun-links, begun-right, beginning}
use Rattle.theorem_call_send.proofs.Granted.{IsFreeToSend}
use Rattle.theorem_call_send.proofs.Regrouped.{now-own, now-within, other-than}
use Rattle.theorem_call_send.proofs.SamePackets.{no-packets}
use Rattle.theorem_call_send.proofs.Sends.{begins, free, owned-is, send-step, send-waits-goes, waits_effect}
use Rattle.theorem_meaning.proofs.Plain.{right-few}
use Rattle.theorem_match.specs.Matching.{IsMatching, matching, served_view}
use Rattle.theorem_match.proofs.Match.{fields-matched, links-matched, right-matched, step-matched}
use Rattle.theorem_match.proofs.Values.{any-there}

-- ---- ends that come to be held

-- their values as they leave are the same
values-held : (k : ℕ) (t y : EndId → Entry) (h : Holder) (xs : List EndId) → ((x : EndId) → Contains xs x → y x ≡ held_entry h (t x)) → values_leaving k y xs ≡ values_leaving k t xs
unfolding values_leaving
values-held k t y h [] same = refl
values-held k t y h (x ∷ xs) same =
    ap (λ z. value_leaving k (here z) ++ values_leaving k y xs) (same x (first x xs))
    ∙ ap (λ l. l ++ values_leaving k y xs) (by (t x))
    ∙ ap (λ l. value_leaving k (here (t x)) ++ l) (values-held k t y h xs (λ z has. same z (later x xs z has)))
  where
    by : (z : Entry) → value_leaving k (here (held_entry h z)) ≡ value_leaving k (here z)
    by entry.Nothing = refl
    by (entry.Here v) = refl
    by (entry.Left to hops) = refl
    by (entry.Destroyed m) = refl

-- and they are held
held-now : (p : Pid) (e : EndId) (t y : EndId → Entry) (xs : List EndId) → AreFree p t xs → ((x : EndId) → Contains xs x → y x ≡ held_entry (holder.EnclosedIn e) (t x)) → AreHeldBy e y xs
held-now p e t y [] are same = tt
held-now p e t y (x ∷ xs) are same = (
  subst (λ z. IsHereAnd z (λ u. IsIdle u × (u.holder ≡ holder.EnclosedIn e))) (sym (same x (first x xs))) (by (t x) are.0),
  are.1,
  held-now p e t y xs are.2 (λ z has. same z (later x xs z has)),
)
  where
    by : (z : Entry) → IsHereAnd z (λ u. IsIdle u × (u.holder ≡ holder.Owner p)) → IsHereAnd (held_entry (holder.EnclosedIn e) z) (λ u. IsIdle u × (u.holder ≡ holder.EnclosedIn e))
    by (entry.Here u) is = (record { outward = is.0.outward; inward = is.0.inward }, refl)
    by _ is = absurd is

there-any : (x : EndId) (xs : List EndId) → Contains xs x → is_among xs x ≡ true
there-any x xs has = by (is_among xs x) refl
  where
    by : (b : Bool) → is_among xs x ≡ b → b ≡ true
    by true is = refl
    by false none = absurd (not_among x xs none has)

of-held : (e : EndId) (h : Holder) (x : Entry) → IsOfEnd e x → IsOfEnd e (held_entry h x)
of-held e h entry.Nothing is = tt
of-held e h (entry.Here v) is = is
of-held e h (entry.Left to hops) is = tt
of-held e h (entry.Destroyed m) is = is

module _ (i : ℕ) (w : World) (s : State) (k : ℕ) (p : Pid) (mine : List EndId) (is : Invariant i w s) (below : p.0 < length s.homes) (at : home_of s p ≡ k) (running : ((w.kernel k).process p.0).phase ≡ kernel_phase.Running)
    (v : HereView) (bytes : List ℕ) (xs : List EndId) (here : (w.kernel k).table v.value.end ≡ entry.Here v) (owner_is : v.holder ≡ holder.Owner p) (few : i < 2 ^ 31) (fits : length xs ≤ (if nat_eq s.version 1 then 1 else 8))
    (granted : first_of (send_causes (sees p (w.kernel k).table) v.value.end xs) ≡ None) (wanted : 0 < v.value.want) where
  abbrev e : EndId
  e = v.value.end

  abbrev n : ℕ
  n = gains_one v.value.sent

  abbrev r : ℕ
  r = v.value.want

  abbrev goes : ℕ
  goes = v.value.hint.0

  abbrev table : EndId → Entry
  table = (w.kernel k).table

  abbrev event : Event
  event = Calls k p (call.Send v.value.end bytes xs) mine

  -- what the call does
  abbrev matches_it : Effect
  matches_it = record (match_effect k table (sending_view v bytes xs) n bytes xs) { steps = step.Send e n bytes xs ∷ step.Match e n ∷ [] }

  owns : owned p (table e) ≡ Some v
  owns = owned-is i w s k p mine is below at running v bytes xs here owner_is few fits granted

  effect : act_effect p k (w.kernel k).made mine table (call.Send e bytes xs) ≡ matches_it
  effect =
      ap (λ o. effect_on o (send_effect k table bytes xs)) owns
      ∙ ap (λ b. if b then waits_effect v bytes xs else matches_it) (ne_eqb v.value.want 0 (λ none. omega (arith, none, wanted)))

  abbrev c : Change
  c = calling w k p (call.Send e bytes xs) matches_it

  happened : Happens w event c
  happened = performs-allowed is k p (call.Send e bytes xs) mine matches_it granted tt effect

  -- ---- in two parts: the send begins, and is matched

  abbrev starting : HereView
  starting = sending_view v bytes xs

  abbrev f : EndId → Entry → Entry
  f = puts e (entry.Here starting) (turns xs (held_entry (holder.EnclosedIn e)) stays)

  abbrev g : EndId → Entry → Entry
  g = puts e (entry.Here (served_view starting r n)) (turns xs (left_of goes) stays)

  abbrev qs : List (ℕ × PictureWhat)
  qs = (goes, packet.Parcel (opposite e) n r k v.value.hops bytes (values_leaving k table xs)) ∷ []

  entries : (q : EndId) → c.entry q (table q) ≡ g q (f q (table q))
  entries q = by (end_eq e q) (list_any (end_eq q) xs)
    where
      left-held : (y : Entry) → left_of goes y ≡ left_of goes (held_entry (holder.EnclosedIn e) y)
      left-held entry.Nothing = refl
      left-held (entry.Here u) = refl
      left-held (entry.Left to hops) = refl
      left-held (entry.Destroyed m) = refl

      by : (a b : Bool) → (if a then entry.Here (served_view starting r n) else (if b then left_of goes (table q) else table q))
          ≡ (if a then entry.Here (served_view starting r n)
          else (if b then left_of goes (if a then entry.Here starting else (if b then held_entry (holder.EnclosedIn e) (table q) else table q))
          else (if a then entry.Here starting else (if b then held_entry (holder.EnclosedIn e) (table q) else table q))))
      by true b = refl
      by false true = left-held (table q)
      by false false = refl

  abbrev half : Links
  half = between happened.becomes.links f g [] qs entries refl

  first-half : Changes (links_of w) (record c { taken = None; entry = f; packets = [] }) half
  first-half = first-part happened.becomes.links f g [] qs entries refl

  is-free : IsFreeToSend p table e xs v
  is-free = free i w s k p mine is below at running v bytes xs here owner_is few fits granted

  begin : IsBeginning (links_of w) half s k p v bytes xs
  begin = begins i w s k p mine is below at running v bytes xs here owner_is few fits granted half first-half.entry first-half.others (no-packets first-half refl refl)

  -- ---- it begins

  abbrev waiting : State
  waiting = begun s v bytes xs

  sent-step : IsServiceStep s (step.Send e n bytes xs) waiting
  sent-step = send-step i w s k p mine is below at running v bytes xs here owner_is few fits granted

  waits-well : IsConsistent waiting
  waits-well = consistent_after s (step.Send e n bytes xs) waiting is.service sent-step

  right-half : AreRight (i + 1) half waiting
  right-half = begun-right is.setting.few is.stands.links is.links begin

  links-half : AreLinksOf half waiting
  links-half = begun-links is.setting.few is.stands.links is.links begin

  within : (x : EndId) → Contains xs x → entry_at half k x ≡ held_entry (holder.EnclosedIn e) (table x)
  within x has =
      let regrouped = beginning is.setting.few is.stands.links is.links begin in
      now-within regrouped x (other-than regrouped x (there-any x xs has)) (there-any x xs has)

  own-half : entry_at half k e ≡ entry.Here starting
  own-half = now-own (beginning is.setting.few is.stands.links is.links begin)

  -- the entry of an end in between
  half-or : (x : EndId) → ((e ≡ x) × (entry_at half k x ≡ entry.Here starting)) ⊎ (Contains xs x × (entry_at half k x ≡ held_entry (holder.EnclosedIn e) (table x))) ⊎ (entry_at half k x ≡ table x)
  half-or x = by (end_eq e x) refl (list_any (end_eq x) xs) refl
    where
      by : (a : Bool) → end_eq e x ≡ a → (b : Bool) → list_any (end_eq x) xs ≡ b
          → ((e ≡ x) × (entry_at half k x ≡ entry.Here starting)) ⊎ (Contains xs x × (entry_at half k x ≡ held_entry (holder.EnclosedIn e) (table x))) ⊎ (entry_at half k x ≡ table x)
      by true same b is = let own = end_eq-same e x same in inl (own, ap (entry_at half k) (sym own) ∙ own-half)
      by false apart true some = let has = any-there x xs some in inr (inl (has, within x has))
      by false apart false none =
          inr (inr (first-half.entry x ∙ ap (λ a. if a then entry.Here starting else turns xs (held_entry (holder.EnclosedIn e)) stays x (table x)) apart ∙ ap (λ a. if a then held_entry (holder.EnclosedIn e) (table x) else table x) none))

  free-ends : AreFree p table xs
  free-ends = send-free p table e xs granted

  of-half : (x : EndId) → IsOfEnd x (entry_at half k x)
  of-half x = by (half-or x)
    where
      by : ((e ≡ x) × (entry_at half k x ≡ entry.Here starting)) ⊎ (Contains xs x × (entry_at half k x ≡ held_entry (holder.EnclosedIn e) (table x))) ⊎ (entry_at half k x ≡ table x) → IsOfEnd x (entry_at half k x)
      by (inl own) = subst (IsOfEnd x) (sym own.1) own.0
      by (inr (inl among)) = subst (IsOfEnd x) (sym among.1) (of-held x (holder.EnclosedIn e) (table x) ((is.setting.sound k).own x))
      by (inr (inr same)) = subst (IsOfEnd x) (sym same) ((is.setting.sound k).own x)

  held-half : (j : ℕ) (x : EndId) → IfHere (entry_at half j x) (λ y. IsHeldWell (length s.homes) y y.holder)
  held-half j x = by (eqb_tells j k)
    where
      own-held : (h : Holder) → v.holder ≡ h → h ≡ holder.Owner p → IsHeldWell (length s.homes) starting h
      own-held h same owner = subst (IsHeldWell (length s.homes) starting) (sym owner) below

      among-held : (y : Entry) → IsHereAnd y IsIdle → IfHere (held_entry (holder.EnclosedIn e) y) (λ y. IsHeldWell (length s.homes) y y.holder)
      among-held (entry.Here y) idle = record { outward = idle.outward; inward = idle.inward }
      among-held _ idle = absurd idle

      idle : (y : Entry) → IsHereAnd y (λ u. IsIdle u × (u.holder ≡ holder.Owner p)) → IsHereAnd y IsIdle
      idle (entry.Here y) both = both.0
      idle _ both = absurd both

      at-own : ((e ≡ x) × (entry_at half k x ≡ entry.Here starting)) ⊎ (Contains xs x × (entry_at half k x ≡ held_entry (holder.EnclosedIn e) (table x))) ⊎ (entry_at half k x ≡ table x) → IfHere (entry_at half k x) (λ y. IsHeldWell (length s.homes) y y.holder)
      at-own (inl own) = subst (λ z. IfHere z (λ y. IsHeldWell (length s.homes) y y.holder)) (sym own.1) (own-held v.holder refl owner_is)
      at-own (inr (inl among)) = subst (λ z. IfHere z (λ y. IsHeldWell (length s.homes) y y.holder)) (sym among.1) (among-held (table x) (idle (table x) (is-free.free x (there-any x xs among.0))))
      at-own (inr (inr same)) = subst (λ z. IfHere z (λ y. IsHeldWell (length s.homes) y y.holder)) (sym same) ((is.setting.sound k).held x)

      by : ((nat_eq j k ≡ true) × (j ≡ k)) ⊎ ((nat_eq j k ≡ false) × (j ≢ k)) → IfHere (entry_at half j x) (λ y. IsHeldWell (length s.homes) y y.holder)
      by (inl same) = subst (λ z. IfHere (entry_at half z x) (λ y. IsHeldWell (length s.homes) y y.holder)) (sym same.1) (at-own (half-or x))
      by (inr far) = subst (λ z. IfHere z (λ y. IsHeldWell (length s.homes) y y.holder)) (sym (first-half.others j x far.0)) ((is.setting.sound j).held x)

  matchable : IsMatching half waiting k starting r goes v.value.hint.1 n bytes xs goes
  matchable =
      record {
        kernel = home-near i w s k p mine is below at running;
        goes = hint-below (length s.made) v.value (subst (NamesBelow (length s.made)) here (is.links.named.entries k e));
        site = λ living. refl;
        here = own-half;
        alive = is-free.alive;
        asked = inl (refl, wanted, refl);
        waits = refl;
        own = of-half;
        enclosed = held-now p e table (half.entry k) xs free-ends within;
      }

  -- ---- and is matched

  last-half : Changes half (matching c (half.entry k) starting r n bytes xs goes) (links_of (happens w event))
  last-half =
      subst (λ ms. Changes half (record c { taken = None; entry = g; packets = (goes, packet.Parcel (opposite e) n r k v.value.hops bytes ms) ∷ [] }) (links_of (happens w event))) (sym (values-held k table (half.entry k) (holder.EnclosedIn e) xs within))
      (last-part happened.becomes.links f g [] qs entries refl)

  abbrev after : State
  after = record waiting { ends = matches e n waiting.ends }

  stepped : IsServiceStep waiting (step.Match e n) after
  stepped = step-matched (i + 1) half waiting right-half links-half waits-well is.setting.few held-half c starting r goes v.value.hint.1 n bytes xs goes matchable

  -- no count is above the number of events
  counts : (q : EndId) (st : Stand) (m : MovingPicture) → HasFields (links_of (happens w event)) q st m → IsFew (i + 1) m
  counts q st m has =
      let o = fields-matched (i + 1) half waiting right-half links-half waits-well is.setting.few held-half c starting r goes v.value.hint.1 n bytes xs goes matchable (links_of (happens w event)) last-half q st m has in
      let old = begun-few is.setting.few is.stands.links is.links begin q o.1 o.0 o.2 in
      record { hops = omega (arith, o.3, old.0); sent = omega (arith, o.4, old.2); asked = omega (arith, o.5, old.1) }

  right : AreRight (i + 1) (links_of (happens w event)) after
  right =
      right-few (right-matched (i + 1) half waiting right-half links-half waits-well is.setting.few held-half c starting r goes v.value.hint.1 n bytes xs goes matchable (links_of (happens w event)) last-half (omega (arith, few))) (i + 1) counts

  links : AreLinksOf (links_of (happens w event)) after
  links = links-matched (i + 1) half waiting right-half links-half waits-well is.setting.few held-half c starting r goes v.value.hint.1 n bytes xs goes matchable (links_of (happens w event)) last-half

  -- the service goes with it by the send and its match
  pub matches-goes : Goes i w s event
  matches-goes =
      record {
        part = (step.Send e n bytes xs, waiting) ∷ (step.Match e n, after) ∷ [];
        steps = sym happened.steps;
        run = (sent-step, (stepped, tt));
        after =
            record {
              stands = record { processes = processes-after happened.becomes s answer.Ok refl running is.stands.processes; links = links };
              service = consistent_after waiting (step.Match e n) after waits-well stepped;
              setting = setting-called is k p mine (call.Send e bytes xs) effect happened.becomes refl refl below granted tt (λ q. refl) after refl refl refl;
              links = right;
              waiting = is.waiting;
            };
        homes = refl;
      }

-- the service goes with a Send that its kernel does not refuse
pub send-goes : (g : Setting) (i : ℕ) (w : World) (s : State) (k : ℕ) (p : Pid) (on : EndId) (bytes : List ℕ) (xs : List EndId) (mine : List EndId) → Invariant i w s → s.homes ≡ g.homes → s.version ≡ g.version → i < 2 ^ 31
    → IsAllowed g w (Calls k p (call.Send on bytes xs) mine) → refusal p (w.kernel k).table (w.kernel k).made mine (has_report (process_of p (w.kernel k))) (call.Send on bytes xs) ≡ None → Goes i w s (Calls k p (call.Send on bytes xs) mine)
send-goes g i w s k p on bytes xs mine is homes version few allowed granted = asked (eqb_tells o.view.value.want 0)
  where
    o : IsGranted p (w.kernel k).table on
    o = granted-on (is.setting.sound k) p on (first_of-none (send_causes (sees p (w.kernel k).table) on xs) granted).0

    asked : ((nat_eq o.view.value.want 0 ≡ true) × (o.view.value.want ≡ 0)) ⊎ ((nat_eq o.view.value.want 0 ≡ false) × (o.view.value.want ≢ 0)) → Goes i w s (Calls k p (call.Send on bytes xs) mine)
    asked (inl none) = send-waits-goes g i w s k p on bytes xs mine is homes version few allowed granted (subst (λ z. IfHere z (λ v. v.value.want ≡ 0)) (sym o.there) none.1)
    asked (inr some) =
        subst (λ z. Goes i w s (Calls k p (call.Send z bytes xs) mine)) o.end
        (matches-goes i w s k p mine is (subst (λ hs. p.0 < length hs) (sym homes) allowed.0) (ap (λ hs. slice_index hs p.0) homes ∙ allowed.1) allowed.2 o.view bytes xs o.here o.owner few
        (subst (λ n. length xs ≤ (if nat_eq n 1 then 1 else 8)) (sym version) allowed.3.0)
        (subst (λ z. first_of (send_causes (sees p (w.kernel k).table) z xs) ≡ None) (sym o.end) granted) (above o.view.value.want some.1))
      where
        above : (m : ℕ) → m ≢ 0 → 0 < m
        above m not = by (eqb_tells m 0)
          where
            by : ((nat_eq m 0 ≡ true) × (m ≡ 0)) ⊎ ((nat_eq m 0 ≡ false) × (m ≢ 0)) → 0 < m
            by (inl is) = absurd (not is.1)
            by (inr is) = omega (arith, is.1)
