-- What a process does at an end that it owns is events at its link, as long as it is not to destroy the end; from then on the link stays as it is.
use Rattle.std.proofs.Common.{arith, ◌≡◌, ◌⊎◌, inl, ⊎_elim, ℕ, suc, ◌+◌, ◌≤◌, ◌<◌, Bool, false, List, [], ◌++◌, refl, sym, ap, subst, ◌∙◌, append-nil, append_assoc}
use Rattle.charlotte_calls.specs.declared.names.EndId.{EndId}
use Rattle.service_step.specs.declared.state.Message.{Message as Told}
use Rattle.end_protocol.specs.declared.kept.Kept.{Kept}
use Rattle.end_protocol.specs.declared.kept.Receiving.{Receiving}
use Rattle.end_protocol.specs.declared.kept.Receiving.TheVariants as receiving
use Rattle.end_protocol.specs.Deeds.{Deed}
use Rattle.end_protocol.specs.Going.{returns, settled}
use Rattle.end_protocol.specs.Happenings.{after, deeds_of}
use Rattle.end_protocol.specs.Happenings as happenings
use Rattle.end_protocol.specs.Kept.{fresh}
use Rattle.end_protocol.specs.Wanting.{is_busy, is_deaf}
use Rattle.process_run.specs.States.{Gone, Holding, Keeps}
use Rattle.followed_links.specs.AtEnd.{ChangeAt, ChangesAt, Seen, held_count, total}
use Rattle.followed_links.specs.AtEnd as at_end
use Rattle.followed_links.specs.Changes.{IsWhole}
use Rattle.followed_links.specs.Ledgers.{carried, how_often}
use Rattle.followed_links.proofs.Away.{StaysAway, all_away}
use Rattle.request_law.specs.Law.{ends_in}
use Rattle.followed_links.proofs.Changing.{may_happen, onward, receiving_done, receiving_settled, rests_deaf}
use Rattle.followed_links.specs.Sides.{Courses, Destroyed, Does, Events, Free, Goes, Held, Holds, LetsGo, Lost, Pair, Rests, did, stands}
use Rattle.followed_links.specs.Invariant.{AreSpelled, IsStandingIn}
use Rattle.followed_links.proofs.Heeding.{IsHeard}
use Rattle.lost_ends.proofs.Counting.{some-or-none, spelled-ends}
use Rattle.lost_ends.specs.Stopped.{IsFound, ends_of}

-- An end of which its process has this, on a link that stands so. A receive is started on it where that is asked, and the messages that are coming spell
-- those; or the end is stopped, and where it carries an end, or one is coming, that is so
pub data StandsAt (version n : ℕ) (Busy : Type 0) (gs : List Told) (P : EndId → Type 0) (a : Seen) (q : Pair) : Type 0 where
  On : IsStandingIn n a a.holding q.near.standing → IsFound q.near → (Busy → IsHeard a.holding) → AreSpelled version q.near.coming gs → StandsAt version n Busy gs P a q
  Stops : (k : Kept) → q.near.standing ≡ Held k → 1 ≤ a.doomed → ((y : EndId) → 1 ≤ how_often y (carried k) + how_often y (ends_in q.near.coming) → P y) → StandsAt version n Busy gs P a q

-- events lead to where it stands so, with these deeds more
pub record LeadsSo (version n : ℕ) (Busy : Type 0) (gs : List Told) (P : EndId → Type 0) (p : Pair) (ds : List Deed) (b : Seen) : Type 0 where
  pub to : Pair
  pub course : Courses version p to
  pub stands : StandsAt version n Busy gs P b to
  pub far : to.far ≡ p.far
  pub near_deeds : to.near_deeds ≡ p.near_deeds ++ ds
  pub far_deeds : to.far_deeds ≡ p.far_deeds

-- and from there they go on
pub goes-on : (version n : ℕ) (Busy : Type 0) (gs : List Told) (P : EndId → Type 0) (p : Pair) (ds es : List Deed) (b c : Seen) (first : LeadsSo version n Busy gs P p ds b) → LeadsSo version n Busy gs P first.to es c
    → LeadsSo version n Busy gs P p (ds ++ es) c
goes-on version n Busy gs P p ds es b c first rest = record {
  to = rest.to;
  course = onward version p first.to rest.to first.course rest.course;
  stands = rest.stands;
  far = rest.far ∙ first.far;
  near_deeds = rest.near_deeds ∙ ap (λ (l : List Deed). l ++ es) first.near_deeds ∙ append_assoc p.near_deeds ds es;
  far_deeds = rest.far_deeds ∙ first.far_deeds;
}

-- where the end is held no longer, it is to be destroyed, or was at rest
abbrev pub LeavesSo : Seen → Seen → Type 0
LeavesSo a b = (k : Kept) (own : Bool) → a.holding ≡ Keeps k → b.holding ≡ Gone own → (1 ≤ b.doomed) ⊎ ((is_busy k ≡ false) × IsWhole k)

-- an end at rest has no receive started
at-rest : (k : Kept) → is_busy k ≡ false → (k.receiving ≡ receiving.Idle → ⊥) → ⊥
at-rest k rests hears = rests_deaf k rests (by k.receiving hears)
  where
    by : (r : Receiving) → (r ≡ receiving.Idle → ⊥) → is_deaf r ≡ false
    by receiving.Idle hears = absurd (hears refl)
    by receiving.Started hears = refl
    by receiving.Late hears = refl

found-held : (q : Pair) (k : Kept) → q.near.standing ≡ Held k → IsFound q.near
found-held q k held lost = let no : Held k ≡ Lost = sym held ∙ lost in cc

found-free : (q : Pair) → q.near.standing ≡ Free → IsFound q.near
found-free q free lost = let no : Free ≡ Lost = sym free ∙ lost in cc

module _ (version n : ℕ) (Busy : Type 0) (gs : List Told) (P : EndId → Type 0) (comes : (y : EndId) → 1 ≤ how_often y (ends_of gs) → P y) where
  abbrev At : Seen → Pair → Type 0
  At a q = StandsAt version n Busy gs P a q

  abbrev Leads : Pair → List Deed → Seen → Type 0
  Leads p ds b = LeadsSo version n Busy gs P p ds b

  -- what is coming is so
  coming-so : (q : Pair) → AreSpelled version q.near.coming gs → (y : EndId) → 1 ≤ how_often y (ends_in q.near.coming) → P y
  coming-so q spelled y there =
      let same : how_often y (ends_in q.near.coming) ≡ how_often y (ends_of gs) = ap (how_often y) (spelled-ends version q.near.coming gs spelled) in
      comes y (omega (arith, there, same))

  module _ (p : Pair) (uncut : p.far.standing ≡ Destroyed → ⊥) where
    pub stays : (b : Seen) → At b p → Leads p [] b
    stays b at = record { to = p; course = Rests p; stands = at; far = refl; near_deeds = sym (append-nil p.near_deeds); far_deeds = refl }

    -- it is held from then on
    held-then : (b : Seen) (l : Kept) (ds : List Deed) → b.holding ≡ Keeps l → Events version p (did ds (stands (Held l) p)) → (Busy → l.receiving ≡ receiving.Idle → ⊥) → AreSpelled version p.near.coming gs → Leads p ds b
    held-then b l ds is event hears spelled =
        let q : Pair = did ds (stands (Held l) p) in
        record {
          to = q;
          course = Goes p p q (Rests p) event;
          stands =
              On (subst (λ (g : Holding). IsStandingIn n b g (Held l)) (sym is) refl) (found-held q l refl) (λ busy. subst (λ (g : Holding). IsHeard g) (sym is) (hears busy)) spelled;
          far = refl;
          near_deeds = refl;
          far_deeds = refl;
        }

    module _ (a : Seen) (standing : IsStandingIn n a a.holding p.near.standing) (found : IsFound p.near) (hears : Busy → IsHeard a.holding) (spelled : AreSpelled version p.near.coming gs) (few : total a + n ≤ 1) where
      held-so : (k : Kept) → a.holding ≡ Keeps k → p.near.standing ≡ Held k
      held-so k was = subst (λ (g : Holding). IsStandingIn n a g p.near.standing) was standing

      heard-so : (k : Kept) → a.holding ≡ Keeps k → Busy → k.receiving ≡ receiving.Idle → ⊥
      heard-so k was busy = subst (λ (g : Holding). IsHeard g) was (hears busy)

      fewer : (g : Holding) (b : Seen) → b.out ≤ a.out → IsStandingIn n a g p.near.standing → IsStandingIn n b g p.near.standing
      fewer (Keeps k) b less so = so
      fewer (Gone own) b less so = (so.0, λ one. so.1 (omega (arith, one, less)))

      goes-away : (b : Seen) (k : Kept) (own : Bool) → a.holding ≡ Keeps k → b.holding ≡ Gone own → is_busy k ≡ false → IsWhole k → Leads p [] b
      goes-away b k own was is rests whole =
          record {
            to = stands Free p;
            course = Goes p p (stands Free p) (Rests p) (LetsGo k p (held-so k was) rests whole (λ cut. absurd (uncut cut)));
            stands =
                On (subst (λ (g : Holding). IsStandingIn n b g Free) (sym is) (inl refl, λ one. refl)) (found-free (stands Free p) refl) (λ busy. absurd (at-rest k rests (heard-so k was busy))) spelled;
            far = refl;
            near_deeds = sym (append-nil p.near_deeds);
            far_deeds = refl;
          }

      stops : (b : Seen) (k : Kept) → a.holding ≡ Keeps k → 1 ≤ b.doomed → ((y : EndId) → 1 ≤ how_often y (carried k) → P y) → Leads p [] b
      stops b k was doomed carries = stays b (Stops k (held-so k was) doomed both)
        where
          both : (y : EndId) → 1 ≤ how_often y (carried k) + how_often y (ends_in p.near.coming) → P y
          both y there =
              ⊎_elim (λ (some : 1 ≤ how_often y (carried k)). carries y some)
              (λ (none : how_often y (carried k) < 1). coming-so p spelled y (omega (arith, there, none)))
              (some-or-none (how_often y (carried k)))

      leaves : (b : Seen) (k : Kept) (own : Bool) → a.holding ≡ Keeps k → b.holding ≡ Gone own → LeavesSo a b → ((l : Kept) → a.holding ≡ Keeps l → (y : EndId) → 1 ≤ how_often y (carried l) → P y) → Leads p [] b
      leaves b k own was is leaving carries =
          ⊎_elim (λ (doomed : 1 ≤ b.doomed). stops b k was doomed (carries k was)) (λ (rests : (is_busy k ≡ false) × IsWhole k). goes-away b k own was is rests.0 rests.1) (leaving k own was is)

      holds : (b : Seen) (g : Holding) → a.holding ≡ g → b.holding ≡ Keeps fresh → suc b.out ≤ a.out → Leads p [] b
      holds b (Keeps k) was is out = let held : held_count a.holding ≡ 1 = ap held_count was in absurd (omega (arith, held, out, few))
      holds b (Gone own) was is out =
          let free : p.near.standing ≡ Free = (subst (λ (g : Holding). IsStandingIn n a g p.near.standing) was standing).1 (omega (arith, out)) in
          record {
            to = stands (Held fresh) p;
            course = Goes p p (stands (Held fresh) p) (Rests p) (Holds p free);
            stands =
                On (subst (λ (g : Holding). IsStandingIn n b g (Held fresh)) (sym is) refl) (found-held (stands (Held fresh) p) fresh refl)
                (λ busy. absurd (subst (λ (g : Holding). IsHeard g) was (hears busy))) spelled;
            far = refl;
            near_deeds = sym (append-nil p.near_deeds);
            far_deeds = refl;
          }

      on-leads : (ds : List Deed) (b : Seen) → ChangeAt version a ds b → LeavesSo a b → ((k : Kept) → a.holding ≡ Keeps k → (y : EndId) → 1 ≤ how_often y (carried k) → P y) → Leads p ds b
      on-leads ds b (at_end.Elsewhere f g same less) leaving carries =
          stays b (On (fewer b.holding b less.out (subst (λ (g : Holding). IsStandingIn n a g p.near.standing) (sym same) standing)) found (λ busy. subst (λ (g : Holding). IsHeard g) (sym same) (hears busy)) spelled)
      on-leads ds b (at_end.Does k h f g was is may less) leaving carries =
          held-then b (after version h k) (deeds_of version h k) is (Does h k p (held-so k was) (may_happen h k may)) (λ busy idle. heard-so k was busy (sym (receiving_done version h k may) ∙ idle)) spelled
      on-leads ds b (at_end.Settles room k f g was is less) leaving carries =
          held-then b (settled room k) [] is (Does (happenings.Settles room) k p (held-so k was) tt) (λ busy idle. heard-so k was busy (sym (receiving_settled room k) ∙ idle)) spelled
      on-leads ds b (at_end.LetsGo k f g was is rests whole all) leaving carries = leaves b k false was is leaving carries
      on-leads ds b (at_end.Destroys k f g was is out all) leaving carries = leaves b k (returns k.sending) was is leaving carries
      on-leads ds b (at_end.Holds f g is out all) leaving carries = holds b a.holding refl is out

    -- an end that is stopped stays so, and nothing is done there
    stopped-leads : (a : Seen) (ds : List Deed) (b : Seen) → ChangesAt version a ds b → total a ≤ 1 → a.doomed ≤ b.doomed → (k : Kept) → p.near.standing ≡ Held k → 1 ≤ a.doomed
        → ((y : EndId) → 1 ≤ how_often y (carried k) + how_often y (ends_in p.near.coming) → P y) → Leads p ds b
    stopped-leads a ds b changes few grows k held doomed there = by a.holding refl
      where
        by : (g : Holding) → a.holding ≡ g → Leads p ds b
        by (Keeps l) e = let one : held_count a.holding ≡ 1 = ap held_count e in absurd (omega (arith, one, few, doomed))
        by (Gone own) e =
            let away : StaysAway own a ds b = all_away version own a ds b changes (record { holding = e; out = omega (arith, few, doomed) }) in
            subst (λ (es : List Deed). Leads p es b) (sym away.deeds) (stays b (Stops k held (omega (arith, doomed, grows)) there))

    -- one change
    pub change-leads : (a : Seen) (ds : List Deed) (b : Seen) → ChangeAt version a ds b → total a + n ≤ 1 → a.doomed ≤ b.doomed → LeavesSo a b
        → ((k : Kept) → a.holding ≡ Keeps k → (y : EndId) → 1 ≤ how_often y (carried k) → P y) → At a p → Leads p ds b
    change-leads a ds b change few grows leaving carries (On standing found hears spelled) = on-leads a standing found hears spelled few ds b change leaving carries
    change-leads a ds b change few grows leaving carries (Stops k held doomed there) =
        subst (λ (es : List Deed). Leads p es b) (append-nil ds)
        (stopped-leads a (ds ++ []) b (at_end.Then a ds b [] b change (at_end.None b)) (omega (arith, few)) grows k held doomed there)
