-- The changes of a process at an end that it owns are events at the link of that end.
use Rattle.std.proofs.Common.{arith, ◌≡◌, ◌⊎◌, inl, inr, ⊎_elim, ◌≤◌, ℕ, suc, ◌+◌, Bool, false, List, [], ◌++◌, refl, sym, ap, subst, ◌∙◌, append-nil, append_assoc}
use Rattle.end_protocol.specs.declared.kept.Kept.{Kept}
use Rattle.end_protocol.specs.Deeds.{Deed}
use Rattle.end_protocol.specs.Going.{returns, settled}
use Rattle.end_protocol.specs.Happenings.{after, deeds_of}
use Rattle.end_protocol.specs.Happenings as happenings
use Rattle.end_protocol.specs.Kept.{fresh}
use Rattle.end_protocol.specs.Wanting.{is_busy, is_deaf}
use Rattle.process_run.specs.States.{Gone, Holding, Keeps}
use Rattle.run_invariant.specs.Changes.{IsWhole}
use Rattle.run_invariant.specs.AtEnd.{ChangeAt, ChangesAt, Seen, held_count, total}
use Rattle.run_invariant.specs.AtEnd as at_end
use Rattle.run_invariant.proofs.AtEnd.{change_less}
use Rattle.run_invariant.proofs.Changing.{free_not_lost, may_happen, not_destroyed, not_lost, onward, receiving_done, receiving_settled, rests_deaf}
use Rattle.run_invariant.specs.Sides.{Courses, Destroyed, Does, Events, Free, Goes, Held, Holds, LetsGo, Loses, Lost, Pair, Rests, Side, Standing, did, stands}
use Rattle.end_protocol.specs.declared.kept.Receiving.{Receiving}
use Rattle.end_protocol.specs.declared.kept.Receiving.TheVariants as receiving
use Rattle.run_invariant.specs.Invariant.{IsStandingIn}
use Rattle.run_process_steps.proofs.Heeding.{IsHeard}

-- an end at rest has no receive started
at_rest : (k : Kept) → is_busy k ≡ false → (k.receiving ≡ receiving.Idle → ⊥) → ⊥
at_rest k rests hears = rests_deaf k rests (by k.receiving hears)
  where
    by : (r : Receiving) → (r ≡ receiving.Idle → ⊥) → is_deaf r ≡ false
    by receiving.Idle hears = absurd (hears refl)
    by receiving.Started hears = refl
    by receiving.Late hears = refl

-- over a dead link nothing is coming to the end, unless it is to be reported, or nobody hears it
abbrev pub Hears : Seen → Pair → Type 0
Hears a p = (p.far.standing ≡ Destroyed → p.near.coming ≡ []) ⊎ (IsHeard a.holding ⊎ (p.near.standing ≡ Lost))

-- Events lead to a link on which the owner has this of the end, while so many reports bring it. A receive that is started stays so, unless the end is lost
pub record Leads (version : ℕ) (p : Pair) (n : ℕ) (a : Seen) (ds : List Deed) (b : Seen) : Type 0 where
  pub to : Pair
  pub course : Courses version p to
  pub standing : IsStandingIn n b b.holding to.near.standing
  pub receive : IsHeard a.holding → IsHeard b.holding ⊎ (to.near.standing ≡ Lost)
  pub lost : p.near.standing ≡ Lost → to.near.standing ≡ Lost
  pub coming : to.near.coming ≡ p.near.coming
  pub far : to.far ≡ p.far
  pub near_deeds : to.near_deeds ≡ p.near_deeds ++ ds
  pub far_deeds : to.far_deeds ≡ p.far_deeds

module _ (version : ℕ) (p : Pair) (n : ℕ) where
  by_event : (q : Pair) → Events version p q → Courses version p q
  by_event q event = Goes p p q (Rests p) event

  -- nothing is done
  quietly : p.near_deeds ≡ p.near_deeds ++ []
  quietly = sym (append-nil p.near_deeds)

  held_so : (a : Seen) (k : Kept) → a.holding ≡ Keeps k → IsStandingIn n a a.holding p.near.standing → p.near.standing ≡ Held k
  held_so a k was standing = subst (λ (g : Holding). IsStandingIn n a g p.near.standing) was standing

  heard_so : (a : Seen) (k : Kept) → a.holding ≡ Keeps k → IsHeard a.holding → k.receiving ≡ receiving.Idle → ⊥
  heard_so a k was hears = subst (λ (g : Holding). IsHeard g) was hears

  as_held : (b : Seen) (l : Kept) → b.holding ≡ Keeps l → (s : Standing) → s ≡ Held l → IsStandingIn n b b.holding s
  as_held b l is s e = subst (λ (g : Holding). IsStandingIn n b g s) (sym is) e

  as_gone : (b : Seen) (own : Bool) → b.holding ≡ Gone own → (s : Standing) → (s ≡ Free) ⊎ (s ≡ Lost) → (1 ≤ b.out + n → s ≡ Free) → IsStandingIn n b b.holding s
  as_gone b own is s either out = subst (λ (g : Holding). IsStandingIn n b g s) (sym is) (either, out)

  fewer : (g : Holding) (a b : Seen) (s : Standing) → b.out ≤ a.out → IsStandingIn n a g s → IsStandingIn n b g s
  fewer (Keeps k) a b s less stands = stands
  fewer (Gone own) a b s less stands = (stands.0, λ one. stands.1 (omega (arith, one, less)))

  -- an end that its owner holds, and holds from then on, with a receive started as before
  keeps_on : (a b : Seen) (k l : Kept) → a.holding ≡ Keeps k → b.holding ≡ Keeps l → l.receiving ≡ k.receiving → (ds : List Deed) → Events version p (did ds (stands (Held l) p)) →
      IsStandingIn n a a.holding p.near.standing → Leads version p n a ds b
  keeps_on a b k l was is same ds event standing =
      let q : Pair = did ds (stands (Held l) p) in
      record {
        to = q;
        course = by_event q event;
        standing = as_held b l is (Held l) refl;
        receive = λ hears. inl (subst (λ (g : Holding). IsHeard g) (sym is) (λ idle. heard_so a k was hears (sym same ∙ idle)));
        lost = λ lost. absurd (not_lost p.near.standing k (held_so a k was standing) lost);
        coming = refl;
        far = refl;
        near_deeds = refl;
        far_deeds = refl;
      }

  goes_away : (a b : Seen) (k : Kept) → a.holding ≡ Keeps k → b.holding ≡ Gone false → is_busy k ≡ false → IsWhole k → IsStandingIn n a a.holding p.near.standing → Hears a p → Leads version p n a [] b
  goes_away a b k was is rests whole standing hearing =
      record {
        to = stands Free p;
        course = by_event (stands Free p) (LetsGo k p held rests whole nothing);
        standing = as_gone b false is Free (inl refl) (λ one. refl);
        receive = λ hears. absurd (at_rest k rests (heard_so a k was hears));
        lost = λ lost. absurd (not_lost p.near.standing k held lost);
        coming = refl;
        far = refl;
        near_deeds = quietly;
        far_deeds = refl;
      }
    where
      held : p.near.standing ≡ Held k
      held = held_so a k was standing

      nothing : p.far.standing ≡ Destroyed → p.near.coming ≡ []
      nothing gone =
          ⊎_elim (λ (first : p.far.standing ≡ Destroyed → p.near.coming ≡ []). first gone)
          (λ (rest : IsHeard a.holding ⊎ (p.near.standing ≡ Lost)).
          ⊎_elim (λ (hears : IsHeard a.holding). absurd (at_rest k rests (heard_so a k was hears)))
          (λ (lost : p.near.standing ≡ Lost). absurd (not_lost p.near.standing k held lost)) rest)
          hearing

  is_lost : (a b : Seen) (k : Kept) → a.holding ≡ Keeps k → b.holding ≡ Gone (returns k.sending) → b.out ≤ a.out → total a + n ≤ 1 → IsStandingIn n a a.holding p.near.standing → Leads version p n a [] b
  is_lost a b k was is out few standing =
      let held : held_count a.holding ≡ 1 = ap held_count was in
      record {
        to = stands Lost p;
        course = by_event (stands Lost p) (Loses p (not_destroyed p.near.standing k (held_so a k was standing)));
        standing = as_gone b (returns k.sending) is Lost (inr refl) (λ one. absurd (omega (arith, held, out, few, one)));
        receive = λ hears. inr refl;
        lost = λ lost. refl;
        coming = refl;
        far = refl;
        near_deeds = quietly;
        far_deeds = refl;
      }

  is_held : (a b : Seen) (g : Holding) → a.holding ≡ g → b.holding ≡ Keeps fresh → suc b.out ≤ a.out → total a + n ≤ 1 → IsStandingIn n a a.holding p.near.standing → Leads version p n a [] b
  is_held a b (Keeps k) was is out few standing = let held : held_count a.holding ≡ 1 = ap held_count was in absurd (omega (arith, held, out, few))
  is_held a b (Gone own) was is out few standing =
      record {
        to = stands (Held fresh) p;
        course = by_event (stands (Held fresh) p) (Holds p free);
        standing = as_held b fresh is (Held fresh) refl;
        receive = λ hears. absurd (subst (λ (g : Holding). IsHeard g) was hears);
        lost = λ lost. absurd (free_not_lost p.near.standing free lost);
        coming = refl;
        far = refl;
        near_deeds = quietly;
        far_deeds = refl;
      }
    where
      free : p.near.standing ≡ Free
      free = (subst (λ (g : Holding). IsStandingIn n a g p.near.standing) was standing).1 (omega (arith, out))

  change_leads : (a : Seen) (ds : List Deed) (b : Seen) → ChangeAt version a ds b → total a + n ≤ 1 → IsStandingIn n a a.holding p.near.standing → Hears a p → Leads version p n a ds b
  change_leads a ds b (at_end.Elsewhere f g same less) few standing hearing =
      record {
        to = p;
        course = Rests p;
        standing = fewer b.holding a b p.near.standing less.out (subst (λ (g : Holding). IsStandingIn n a g p.near.standing) (sym same) standing);
        receive = λ hears. inl (subst (λ (g : Holding). IsHeard g) (sym same) hears);
        lost = λ lost. lost;
        coming = refl;
        far = refl;
        near_deeds = quietly;
        far_deeds = refl;
      }
  change_leads a ds b (at_end.Does k h f g was is may less) few standing hearing =
      keeps_on a b k (after version h k) was is (receiving_done version h k may) (deeds_of version h k) (Does h k p (held_so a k was standing) (may_happen h k may)) standing
  change_leads a ds b (at_end.Settles room k f g was is less) few standing hearing =
      keeps_on a b k (settled room k) was is (receiving_settled room k) [] (Does (happenings.Settles room) k p (held_so a k was standing) tt) standing
  change_leads a ds b (at_end.LetsGo k f g was is rests whole all) few standing hearing = goes_away a b k was is rests whole standing hearing
  change_leads a ds b (at_end.Destroys k f g was is out all) few standing hearing = is_lost a b k was is out few standing
  change_leads a ds b (at_end.Holds f g is out all) few standing hearing = is_held a b a.holding refl is out few standing

  -- what was so of hearing still is
  hears_on : (a b : Seen) (ds : List Deed) → (l : Leads version p n a ds b) → Hears a p → Hears b l.to
  hears_on a b ds l hearing =
      ⊎_elim
      (λ (first : p.far.standing ≡ Destroyed → p.near.coming ≡ []). inl (λ gone. l.coming ∙ first (sym (ap (λ (s : Side). s.standing) l.far) ∙ gone)))
      (λ (rest : IsHeard a.holding ⊎ (p.near.standing ≡ Lost)).
      ⊎_elim (λ (hears : IsHeard a.holding). inr (l.receive hears)) (λ (lost : p.near.standing ≡ Lost). inr (inr (l.lost lost))) rest) hearing

-- ---- all changes

module _ (version : ℕ) where
  pub changes_lead : (p : Pair) (n : ℕ) (a : Seen) (ds : List Deed) (b : Seen) → ChangesAt version a ds b → total a + n ≤ 1 → IsStandingIn n a a.holding p.near.standing → Hears a p → Leads version p n a ds b
  changes_lead p n a ds b (at_end.None f) few standing hearing =
      record { to = p; course = Rests p; standing = standing; receive = λ hears. inl hears; lost = λ lost. lost; coming = refl; far = refl; near_deeds = sym (append-nil p.near_deeds); far_deeds = refl }
  changes_lead p n a ds b (at_end.Then f as' m bs g one others) few standing hearing =
      let first : Leads version p n a as' m = change_leads version p n a as' m one few standing hearing in
      let less : total m ≤ total a = change_less version a as' m one in
      let rest : Leads version first.to n m bs b = changes_lead first.to n m bs b others (omega (arith, less, few)) first.standing (hears_on version p n a m as' first hearing) in
      record {
        to = rest.to;
        course = onward version p first.to rest.to first.course rest.course;
        standing = rest.standing;
        receive = λ hears. ⊎_elim rest.receive (λ (lost : first.to.near.standing ≡ Lost). inr (rest.lost lost)) (first.receive hears);
        lost = λ lost. rest.lost (first.lost lost);
        coming = rest.coming ∙ first.coming;
        far = rest.far ∙ first.far;
        near_deeds = rest.near_deeds ∙ ap (λ (l : List Deed). l ++ bs) first.near_deeds ∙ append_assoc p.near_deeds as' bs;
        far_deeds = rest.far_deeds ∙ first.far_deeds;
      }
