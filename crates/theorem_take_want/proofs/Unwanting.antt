-- An unwant is taken at an open end that is here and did not serve that receive yet: the service goes by its withdrawal.
use Rattle.std.proofs.Common.{◌≡◌, ◌⊎◌, inl, inr, ℕ, ◌<◌, Bool, true, false, nat_lt, if◌then◌else◌, List, [], ◌∷◌, ◌++◌, length, Contains, refl, sym, ap, subst, ◌∙◌, lt-ltb, ltb-true}
use Rattle.charlotte_calls.specs.Names.{opposite}
use Rattle.charlotte_calls.specs.declared.calls.ServiceStep.TheVariants as step
use Rattle.charlotte_calls.specs.declared.names.EndId.{EndId}
use Rattle.charlotte_calls.specs.declared.names.Pid.{Pid}
use Rattle.charlotte_packets.specs.declared.picture.MovingPicture.{MovingPicture}
use Rattle.charlotte_packets.specs.declared.picture.Picture.{Picture}
use Rattle.charlotte_packets.specs.declared.picture.PictureWhat.{PictureWhat}
use Rattle.charlotte_packets.specs.declared.picture.PictureWhat.TheVariants as packet
use Rattle.end_table.specs.Entries.{is_news}
use Rattle.end_table.specs.Place.{end_eq}
use Rattle.end_table.specs.Table.{IfHere, IsOfEnd}
use Rattle.end_table.specs.declared.entry.Entry.{Entry}
use Rattle.end_table.specs.declared.entry.Entry.TheVariants as entry
use Rattle.end_table.specs.declared.entry.HereView.{HereView}
use Rattle.end_table.specs.declared.entry.Inward.{Inward}
use Rattle.end_table.specs.declared.entry.Inward.TheVariants as inward
use Rattle.kernel_effects.specs.Effect.{Effect, nothing, puts, stays}
use Rattle.kernel_effects.specs.Actions.{learn_effect, live_packets}
use Rattle.kernel_effects.specs.Rows.{row_effect, unwant_effect, view_news, voided_view, voids_effect}
use Rattle.kernel_sound.proofs.Put.{IsViewAfter}
use Rattle.kernel_sound.specs.Sound.{IsHeldWell}
use Rattle.kernel_step.specs.Actions.{learned_view}
use Rattle.kernel_world.specs.World.{Takes, World, happens}
use Rattle.service_consistent.proofs.Laws.{consistent_after}
use Rattle.service_lawful.specs.Consistent.{IsConsistent}
use Rattle.service_step.specs.Ends.{is_made}
use Rattle.service_step.specs.State.{State}
use Rattle.service_step.specs.Steps.{IsServiceStep}
use Rattle.theorem_take_silent.proofs.Lists.{first}
use Rattle.theorem_take_silent.specs.Change.{Change, Changes, Happens}
use Rattle.theorem_take_silent.specs.Events.{taking}
use Rattle.theorem_take_silent.specs.Under.{IsTaken}
use Rattle.theorem_meaning.proofs.Goes.{Goes}
use Rattle.theorem_meaning.specs.Fields.{IsAsking, IsNews, IsUnwantOf}
use Rattle.theorem_meaning.specs.Invariant.{AreRight, Invariant}
use Rattle.theorem_meaning.specs.Packets.{IsUnderWay, Links, links_of}
use Rattle.theorem_meaning.specs.StandsFor.{AreLinksOf}
use Rattle.theorem_take_silent.proofs.Clauses.{links-still}
use Rattle.theorem_take_silent.proofs.Hearing.{IsHearing, hears, learns-so}
use Rattle.theorem_take_silent.proofs.Learning.{learning-right}
use Rattle.theorem_take_silent.proofs.Rows.{IsTable}
use Rattle.theorem_take_silent.proofs.Taking.{happens-so, table-is, taken-well}
use Rattle.theorem_take_silent.specs.Learning.{IsLearning}
use Rattle.theorem_take_silent.specs.Quiet.{IsQuiet}
use Rattle.theorem_take_silent.specs.Silent.{IsStill}
use Rattle.theorem_take_want.proofs.Anew.{entry-now, entry-still}
use Rattle.theorem_take_want.proofs.Parts.{between, first-part, last-part, taking_last}
use Rattle.theorem_take_want.proofs.Void.{anew, links-void, may-withdraw, right-void, voided, voiding, withdrawn}
use Rattle.theorem_take_want.proofs.World.{invariant-anew, sound-view}

-- what is heard is the same whatever is kept of receives
learned-voided : (r at hops : ℕ) (v : HereView) → learned_view (record v { value = voided r v }) at hops ≡ voided_view r at hops v
learned-voided r at hops v = by (is_news v.value hops)
  where
    by : (b : Bool) → record v { value = if b then record (voided r v) { hint = (at, hops) } else voided r v } ≡ record v { value = record (if b then record v.value { hint = (at, hops) } else v.value) { served = r; want = 0 } }
    by true = refl
    by false = refl

pub news-voided : (k r at hops : ℕ) (v : HereView) (i : Inward) → view_news k at hops v i ≡ view_news k at hops (record v { value = voided r v }) i
news-voided k r at hops v i = by (is_news v.value hops) i
  where
    by : (b : Bool) (i : Inward) → (if b then live_packets k (if b then record v.value { hint = (at, hops) } else v.value) i else []) ≡ (if b then live_packets k (if b then record (voided r v) { hint = (at, hops) } else voided r v) i else [])
    by false i = refl
    by true inward.Idle = refl
    by true (inward.Posted x) = refl
    by true (inward.Withdrawing x) = refl
    by true inward.Unreported = refl

module _ (i : ℕ) (w : World) (s : State) (is : Invariant i w s) (k from stamp : ℕ) (to : EndId) (r at hops : ℕ) (others : List Picture)
    (there : w.packets from k ≡ record { stamp = stamp; what = packet.Unwant to r at hops } ∷ others) (v : HereView) (here : (w.kernel k).table to ≡ entry.Here v) (alive : v.value.dead ≡ false)
    (low : v.value.served < r) where
  abbrev q : Picture
  q = record { stamp = stamp; what = packet.Unwant to r at hops }

  abbrev any : Pid
  any = record { 0 = 0 }

  abbrev made : ℕ
  made = (w.kernel k).made

  abbrev other : EndId
  other = opposite v.value.end

  abbrev kept-view : HereView
  kept-view = record v { value = voided r v }

  -- what the taking does
  does : row_effect k made from (w.kernel k).table q.what ≡ voids_effect k r at hops v
  does =
      ap (unwant_effect k to r at hops) here
      ∙ ap (λ b. if b then nothing else if nat_lt v.value.served r then voids_effect k r at hops v else learn_effect k at hops v) alive
      ∙ ap (λ b. if b then voids_effect k r at hops v else learn_effect k at hops v) (lt-ltb v.value.served r low)

  abbrev c : Change
  c = taking w k from q (voids_effect k r at hops v) any [] []

  happened : Happens w (Takes k from) c
  happened =
      subst (λ (f : Effect). Happens w (Takes k from) (taking w k from q f any [] [])) does
      (happens-so i w s is k from q others there refl (ap (λ (f : Effect). f.answers) does) (ap (λ (f : Effect). f.reports) does))

  table : IsTable (length s.made) s.ends k (w.kernel k).table
  table = table-is i w s is k from q others there

  end : v.value.end ≡ to
  end = subst (IsOfEnd to) here (table.own to)

  own-here : (w.kernel k).table v.value.end ≡ entry.Here v
  own-here = subst (λ z. (w.kernel k).table z ≡ entry.Here v) (sym end) here

  -- ---- in two parts

  abbrev f : EndId → Entry → Entry
  f = puts v.value.end (entry.Here kept-view) stays

  abbrev g : EndId → Entry → Entry
  g = puts v.value.end (entry.Here (learned_view kept-view at hops)) stays

  abbrev ps : List (ℕ × PictureWhat)
  ps = (at, packet.Unwanted other r k v.value.hops) ∷ []

  abbrev rs : List (ℕ × PictureWhat)
  rs = view_news k at hops kept-view v.inward

  entries : (e : EndId) → c.entry e ((w.kernel k).table e) ≡ g e (f e ((w.kernel k).table e))
  entries e = by (end_eq v.value.end e)
    where
      by : (b : Bool) → (if b then entry.Here (voided_view r at hops v) else (w.kernel k).table e) ≡ (if b then entry.Here (learned_view kept-view at hops) else (if b then entry.Here kept-view else (w.kernel k).table e))
      by true = ap entry.Here (sym (learned-voided r at hops v))
      by false = refl

  packets : c.packets ≡ ps ++ rs
  packets = ap (λ l. (at, packet.Unwanted other r k v.value.hops) ∷ l) (news-voided k r at hops v v.inward)

  abbrev half : Links
  half = between happened.becomes.links f g ps rs entries packets

  first-half : Changes (links_of w) (voiding c v r at) half
  first-half = first-part happened.becomes.links f g ps rs entries packets

  abbrev last : Change
  last = taking_last happened.becomes.links f g ps rs entries packets

  last-half : Changes half last (links_of (happens w (Takes k from)))
  last-half = last-part happened.becomes.links f g ps rs entries packets

  -- ---- it is taken back

  standing : Contains (w.packets from k) q
  standing = subst (λ l. Contains l q) (sym there) (first q others)

  asking : IsUnderWay (links_of w) (IsAsking v.value.end r at hops)
  asking = record { from = from; to = k; packet = q; there = standing; is = (sym end, refl, refl, refl) }

  unwants : IsUnderWay (links_of w) (IsUnwantOf v.value.end r)
  unwants = record { from = from; to = k; packet = q; there = standing; is = (sym end, refl) }

  held : (j : ℕ) (e : EndId) → IfHere ((w.kernel j).table e) (λ x. IsHeldWell (length s.homes) x x.holder)
  held j e = (is.setting.sound j).held e

  at-below : at < length s.made
  at-below = ltb-true at (length s.made) (taken-well i w s is k from q others there refl).addressed

  abbrev after : State
  after = withdrawn v s

  right : AreRight i half after
  right = right-void i (links_of w) half s is.links is.stands.links is.service is.setting.few c v own-here alive r at hops low asking held unwants table.below at-below first-half

  links : AreLinksOf half after
  links = links-void i (links_of w) half s is.links is.stands.links is.service is.setting.few c v own-here alive r at hops low asking held unwants table.below at-below first-half

  stepped : IsServiceStep s (step.Withdraw other) after
  stepped = record { allowed = may-withdraw i (links_of w) half s is.links is.stands.links is.service is.setting.few c v own-here alive r at hops low asking held unwants table.below at-below first-half; after = refl }

  service : IsConsistent after
  service = consistent_after s (step.Withdraw other) after is.service stepped

  -- ---- and the end learns

  half-table : IsTable (length s.made) after.ends k (half.entry k)
  half-table =
      record {
        below = table.below;
        own = λ e. entry-still first-half (anew i (links_of w) half s is.links is.stands.links is.service is.setting.few c v own-here alive r at hops low asking held unwants table.below at-below first-half) (IsOfEnd e) (λ own. own) k e (table.own e);
        names = right.named.entries k;
        marks = λ e m stands. (right.marked e).destroyed k m stands;
        both = λ e living. service.kept.made (opposite e) ∙ sym (service.kept.made e) ∙ living;
      }

  half-here : half.entry k v.value.end ≡ entry.Here kept-view
  half-here = entry-now first-half (anew i (links_of w) half s is.links is.stands.links is.service is.setting.few c v own-here alive r at hops low asking held unwants table.below at-below first-half)

  learns : IsStill (length s.made) after.ends (half.entry k) (hears kept-view at hops rs) × IsHearing k (half.entry k) q.what (hears kept-view at hops rs)
  learns =
      learns-so (length s.made) after.ends k (half.entry k) half-table q.what v.value.end at hops kept-view (sym end, refl, refl) (taken-well i w s is k from q others there refl).addressed
      (service.kept.made v.value.end ∙ sym (is.service.kept.made v.value.end) ∙ subst (λ z. is_made (s.ends z).place ≡ true) (sym end) (taken-well i w s is k from q others there refl).made) half-here

  quiet : IsQuiet (length s.made) after.ends half last
  quiet = record { kernel = table.below; entry = learns.0.entry; names = learns.0.names; taken = refl; sent = learns.0.sent }

  learning : IsLearning half last
  learning = record { view = learns.1.view; here = learns.1.here; hints = λ e m l had has. by e m l (learns.1.hints e m l had has); sent = learns.1.sent }
    where
      by : (e : EndId) (m l : MovingPicture) → (l.hint ≡ m.hint) ⊎ (IsNews e l.hint.0 l.hint.1 q.what × (m.hint.1 < l.hint.1)) → (l.hint ≡ m.hint) ⊎ (IsTaken last (IsNews e l.hint.0 l.hint.1) × (m.hint.1 < l.hint.1))
      by e m l (inl same) = inl same
      by e m l (inr told) = inr (record { from = from; packet = q; taken = refl; is = told.0 }, told.1)

  -- the service goes with it by the withdrawal of the receive
  pub unwant-goes : Goes i w s (Takes k from)
  unwant-goes =
      record {
        part = (step.Withdraw other, after) ∷ [];
        steps = sym happened.steps;
        run = (stepped, tt);
        after =
            invariant-anew happened.becomes s (record { process = refl; made = refl }) i after.ends is
            (sound-view k made (length s.homes) (w.kernel k).table ((happens w (Takes k from)).kernel k).table v (voided_view r at hops v) own-here (after-view (is_news v.value hops)) happened.becomes.links.entry (is.setting.sound k))
            (links-still last-half after quiet links) service (learning-right last-half after quiet learning i right links is.setting.few);
        homes = refl;
      }
    where
      after-view : (b : Bool) → IsViewAfter v (record v { value = record (if b then record v.value { hint = (at, hops) } else v.value) { served = r; want = 0 } })
      after-view true = record { end = refl; holder = refl; idle = λ idle. record { outward = idle.outward; inward = idle.inward }; message = inl refl }
      after-view false = record { end = refl; holder = refl; idle = λ idle. record { outward = idle.outward; inward = idle.inward }; message = inl refl }
