-- The changes of a process at one of its ends are events at the link of that end.
use Rattle.std.proofs.Common.{arith, ◌≡◌, ◌⊎◌, inl, inr, ⊎_elim, ◌≤◌, ℕ, suc, Bool, true, false, ◌||◌, if◌then◌else◌, List, [], ◌∷◌, ◌++◌, Option, Some, None, refl, sym, ap, subst, ◌∙◌, append-nil, append_assoc}
use Rattle.std.specs.Prelude.{is_some, not}
use Rattle.end_protocol.specs.declared.kept.Binding.{Binding}
use Rattle.end_protocol.specs.declared.kept.Forbade.{Forbade}
use Rattle.end_protocol.specs.declared.kept.Kept.{Kept}
use Rattle.end_protocol.specs.declared.kept.Response.{Response}
use Rattle.end_protocol.specs.declared.messages.Connect.{Connect}
use Rattle.end_protocol.specs.Asking.{asked, is_bound, is_owed, later, lined_up, replied, replies}
use Rattle.end_protocol.specs.Deeds.{Deed}
use Rattle.end_protocol.specs.Going.{allows, is_allow_due, returns, settled, settled_with}
use Rattle.end_protocol.specs.Happenings.{Accepts, Binds, CancelLate, Connects, Happening, ReceiveOver, Receives, Replies, SendOver, Unbinds, after, deeds_of}
use Rattle.end_protocol.specs.Happenings as happenings
use Rattle.end_protocol.specs.Kept.{fresh}
use Rattle.end_protocol.specs.Lists.{is_nil}
use Rattle.end_protocol.specs.Wanting.{is_busy, is_deaf}
use Rattle.request_meaning.specs.Links.{MayHappen}
use Rattle.process_changes.specs.States.{Gone, Holding, Keeps}
use Rattle.process_changes.specs.Changes.{IsWhole, MayDo}
use Rattle.process_changes.specs.AtEnd.{ChangeAt, ChangesAt, Seen, held_count, total}
use Rattle.process_changes.specs.AtEnd as at_end
use Rattle.process_changes.proofs.AtEnd.{change_less}
use Rattle.request_runs.specs.Changing.{Becomes, IsHearing, IsReceiving, IsStandingOf, StandsWith}
use Rattle.request_runs.specs.Sides.{Courses, Destroyed, Does, Events, Free, Goes, Held, Holds, LetsGo, Loses, Lost, Pair, Rests, Side, Standing, did, stands}

pub may_happen : (h : Happening) (k : Kept) → MayDo h k → MayHappen h k
may_happen (Connects c) k may = (may.0, record { each = may.1; few = may.2 })
may_happen (Replies r) k may = record { each = may.0; few = may.1 }
may_happen (Accepts a) k may = tt
may_happen (Binds b) k may = tt
may_happen (Unbinds entry) k may = tt
may_happen (happenings.Hears room packet xs) k may = absurd may
may_happen (happenings.Settles room) k may = absurd may
may_happen happenings.Sends k may = absurd may
may_happen SendOver k may = absurd may
may_happen Receives k may = absurd may
may_happen ReceiveOver k may = absurd may
may_happen CancelLate k may = absurd may
may_happen happenings.Dies k may = absurd may

-- ---- what a thread does leaves the receive as it is

receiving_asked : (version : ℕ) (c : Connect) (k : Kept) → (asked version c k).receiving ≡ k.receiving
unfolding asked
receiving_asked version c k = refl

receiving_lined : (version : ℕ) (c : Connect) (k : Kept) → (lined_up version c k).receiving ≡ k.receiving
unfolding lined_up
receiving_lined version c k = by_test (is_some k.outstanding)
  where
    by_test : (b : Bool) → (if b then record k { behind = k.behind ++ c ∷ [] } else asked version c k).receiving ≡ k.receiving
    by_test true = refl
    by_test false = receiving_asked version c k

receiving_replied : (version : ℕ) (r : Response) (k : Kept) → (replied version r k).receiving ≡ k.receiving
unfolding replied
receiving_replied version r k = by_test (not (is_owed r.number k.owed)) k.dead
  where
    by_test : (b d : Bool) → (if b then k else if d then record k { owed = None } else record k { owed = None; queue = k.queue ++ replies version r }).receiving ≡ k.receiving
    by_test true d = refl
    by_test false true = refl
    by_test false false = refl

receiving_bound : (b : Binding) (k : Kept) (c : Bool) → (if c then k else record k { bindings = k.bindings ++ b ∷ [] }).receiving ≡ k.receiving
receiving_bound b k true = refl
receiving_bound b k false = refl

pub receiving_done : (version : ℕ) (h : Happening) (k : Kept) → MayDo h k → (after version h k).receiving ≡ k.receiving
receiving_done version (Connects c) k may = receiving_lined version (record c { number = later k.last }) (record k { last = later k.last })
receiving_done version (Replies r) k may = receiving_replied version r k
receiving_done version (Accepts a) k may = refl
receiving_done version (Binds b) k may = receiving_bound b k (is_bound b.entry k)
receiving_done version (Unbinds entry) k may = refl
receiving_done version (happenings.Hears room packet xs) k may = absurd may
receiving_done version (happenings.Settles room) k may = absurd may
receiving_done version happenings.Sends k may = absurd may
receiving_done version SendOver k may = absurd may
receiving_done version Receives k may = absurd may
receiving_done version ReceiveOver k may = absurd may
receiving_done version CancelLate k may = absurd may
receiving_done version happenings.Dies k may = absurd may

pub receiving_settled : (room : Bool) (k : Kept) → (settled room k).receiving ≡ k.receiving
unfolding allows
receiving_settled room k = by_forbade k.forbade
  where
    by_test : (f : Forbade) (b : Bool) → (if b then allows f.number k else k).receiving ≡ k.receiving
    by_test f true = refl
    by_test f false = refl

    by_forbade : (o : Option Forbade) → (settled_with o room k).receiving ≡ k.receiving
    by_forbade None = refl
    by_forbade (Some f) = by_test f (is_allow_due room f k)

-- an end at rest has no receive started
neither : (a b : Bool) → a || b ≡ false → (a ≡ false) × (b ≡ false)
neither false b e = (refl, e)
neither true b e = let no : true ≡ false = e in absurd cc

pub rests_deaf : (k : Kept) → is_busy k ≡ false → is_deaf k.receiving ≡ false → ⊥
unfolding is_busy
rests_deaf k rests hears =
    let eight = neither _ (not (is_nil k.accepts)) rests in
    let seven = neither _ (not (is_nil k.bindings)) eight.0 in
    let six = neither _ (is_some k.forbade) seven.0 in
    let five = neither _ (is_some k.owed) six.0 in
    let four = neither _ (is_some k.outstanding) five.0 in
    let three = neither _ (not (is_deaf k.receiving)) four.0 in
    let no : true ≡ false = sym (ap not hears) ∙ three.1 in cc

-- ---- how an end stands

pub not_destroyed : (s : Standing) (k : Kept) → s ≡ Held k → s ≡ Destroyed → ⊥
not_destroyed s k held gone = let no : Held k ≡ Destroyed = sym held ∙ gone in cc

pub not_lost : (s : Standing) (k : Kept) → s ≡ Held k → s ≡ Lost → ⊥
not_lost s k held lost = let no : Held k ≡ Lost = sym held ∙ lost in cc

pub free_not_lost : (s : Standing) → s ≡ Free → s ≡ Lost → ⊥
free_not_lost s free lost = let no : Free ≡ Lost = sym free ∙ lost in cc

-- ---- one change

module _ (version : ℕ) (p : Pair) where
  by_event : (q : Pair) → Events version p q → Courses version p q
  by_event q event = Goes p p q (Rests p) event

  -- nothing is done
  quietly : p.near_deeds ≡ p.near_deeds ++ []
  quietly = sym (append-nil p.near_deeds)

  held_so : (a : Seen) (k : Kept) → a.holding ≡ Keeps k → IsStandingOf a p.near.standing → p.near.standing ≡ Held k
  held_so a k was standing = subst (λ (g : Holding). StandsWith g a.out p.near.standing) was standing

  receiving_so : (a : Seen) (k : Kept) → a.holding ≡ Keeps k → IsReceiving a.holding → is_deaf k.receiving ≡ false
  receiving_so a k was hears = subst (λ (g : Holding). IsReceiving g) was hears

  keeps_so : (b : Seen) (l : Kept) → b.holding ≡ Keeps l → (s : Standing) → s ≡ Held l → IsStandingOf b s
  keeps_so b l is s e = subst (λ (g : Holding). StandsWith g b.out s) (sym is) e

  gone_so : (b : Seen) (own : Bool) → b.holding ≡ Gone own → (s : Standing) → (s ≡ Free) ⊎ (s ≡ Lost) → (1 ≤ b.out → s ≡ Free) → IsStandingOf b s
  gone_so b own is s either out = subst (λ (g : Holding). StandsWith g b.out s) (sym is) (either, out)

  fewer : (g : Holding) (n m : ℕ) (s : Standing) → m ≤ n → StandsWith g n s → StandsWith g m s
  fewer (Keeps k) n m s less stands = stands
  fewer (Gone own) n m s less stands = (stands.0, λ one. stands.1 (omega (arith, one, less)))

  -- over a dead link nothing is coming still
  pub hears_on : (a b : Seen) (q : Pair) → q.far ≡ p.far → (p.near.coming ≡ [] → q.near.coming ≡ []) → (IsReceiving a.holding → IsHearing b q) → (p.near.standing ≡ Lost → IsHearing b q) → IsHearing a p → IsHearing b q
  hears_on a b q far coming one two hearing =
      ⊎_elim
      (λ (first : p.far.standing ≡ Destroyed → p.near.coming ≡ []).
      let so : IsHearing b q = inl (λ gone. coming (first (sym (ap (λ (s : Side). s.standing) far) ∙ gone))) in so)
      (λ (rest : IsReceiving a.holding ⊎ (p.near.standing ≡ Lost)). ⊎_elim one two rest) hearing

  -- an end that its owner holds, and holds from then on, with a receive started as before
  keeps_on : (a b : Seen) (k l : Kept) → a.holding ≡ Keeps k → b.holding ≡ Keeps l → l.receiving ≡ k.receiving → (ds : List Deed) → Events version p (did ds (stands (Held l) p)) →
      IsStandingOf a p.near.standing → IsHearing a p → Becomes version p ds b p.near.coming
  keeps_on a b k l was is same ds event standing hearing =
      record {
        to = q;
        course = by_event q event;
        standing = keeps_so b l is (Held l) refl;
        hearing = hears_on a b q refl (λ e. e)
            (λ hears. inr (inl (subst (λ (g : Holding). IsReceiving g) (sym is) (ap is_deaf same ∙ receiving_so a k was hears))))
            (λ lost. absurd (not_lost p.near.standing k (held_so a k was standing) lost)) hearing;
        coming = refl;
        far = refl;
        near_deeds = refl;
        far_deeds = refl;
      }
    where
      q : Pair
      q = did ds (stands (Held l) p)

  -- an end that is not held any more stands so
  leaves : (b : Seen) (s : Standing) → Events version p (stands s p) → IsStandingOf b s → IsHearing b (stands s p) → Becomes version p [] b p.near.coming
  leaves b s event standing hearing =
      record { to = stands s p; course = by_event (stands s p) event; standing = standing; hearing = hearing; coming = refl; far = refl; near_deeds = quietly; far_deeds = refl }

  goes_away : (a b : Seen) (k : Kept) → a.holding ≡ Keeps k → b.holding ≡ Gone false → is_busy k ≡ false → IsWhole k → IsStandingOf a p.near.standing → IsHearing a p → Becomes version p [] b p.near.coming
  goes_away a b k was is rests whole standing hearing =
      leaves b Free (LetsGo k p held rests whole nothing) (gone_so b false is Free (inl refl) (λ one. refl)) (inl nothing)
    where
      held : p.near.standing ≡ Held k
      held = held_so a k was standing

      nothing : p.far.standing ≡ Destroyed → p.near.coming ≡ []
      nothing gone =
          ⊎_elim (λ (first : p.far.standing ≡ Destroyed → p.near.coming ≡ []). first gone)
          (λ (rest : IsReceiving a.holding ⊎ (p.near.standing ≡ Lost)).
          ⊎_elim (λ (hears : IsReceiving a.holding). absurd (rests_deaf k rests (receiving_so a k was hears)))
          (λ (lost : p.near.standing ≡ Lost). absurd (not_lost p.near.standing k held lost)) rest)
          hearing

  is_lost : (a b : Seen) (k : Kept) → a.holding ≡ Keeps k → b.holding ≡ Gone (returns k.sending) → b.out ≤ a.out → total a ≤ 1 → IsStandingOf a p.near.standing → Becomes version p [] b p.near.coming
  is_lost a b k was is out few standing =
      let held : held_count a.holding ≡ 1 = ap held_count was in
      leaves b Lost (Loses p (not_destroyed p.near.standing k (held_so a k was standing))) (gone_so b (returns k.sending) is Lost (inr refl) (λ one. absurd (omega (arith, held, out, few, one)))) (inr (inr refl))

  is_held : (a b : Seen) (g : Holding) → a.holding ≡ g → b.holding ≡ Keeps fresh → suc b.out ≤ a.out → total a ≤ 1 → IsStandingOf a p.near.standing → IsHearing a p → Becomes version p [] b p.near.coming
  is_held a b (Keeps k) was is out few standing hearing = let held : held_count a.holding ≡ 1 = ap held_count was in absurd (omega (arith, held, out, few))
  is_held a b (Gone own) was is out few standing hearing =
      leaves b (Held fresh) (Holds p free) (keeps_so b fresh is (Held fresh) refl)
      (hears_on a b (stands (Held fresh) p) refl (λ e. e) (λ hears. absurd (subst (λ (g : Holding). IsReceiving g) was hears)) (λ lost. absurd (free_not_lost p.near.standing free lost)) hearing)
    where
      free : p.near.standing ≡ Free
      free = (subst (λ (g : Holding). StandsWith g a.out p.near.standing) was standing).1 (omega (arith, out))

  change_becomes : (a : Seen) (ds : List Deed) (b : Seen) → ChangeAt version a ds b → total a ≤ 1 → IsStandingOf a p.near.standing → IsHearing a p → Becomes version p ds b p.near.coming
  change_becomes a ds b (at_end.Elsewhere f g same less) few standing hearing =
      record {
        to = p;
        course = Rests p;
        standing = fewer b.holding a.out b.out p.near.standing less.out (subst (λ (g : Holding). StandsWith g a.out p.near.standing) (sym same) standing);
        hearing = hears_on a b p refl (λ e. e) (λ hears. inr (inl (subst (λ (g : Holding). IsReceiving g) (sym same) hears))) (λ lost. inr (inr lost)) hearing;
        coming = refl;
        far = refl;
        near_deeds = quietly;
        far_deeds = refl;
      }
  change_becomes a ds b (at_end.Does k h f g was is may less) few standing hearing =
      keeps_on a b k (after version h k) was is (receiving_done version h k may) (deeds_of version h k) (Does h k p (held_so a k was standing) (may_happen h k may)) standing hearing
  change_becomes a ds b (at_end.Settles room k f g was is less) few standing hearing =
      keeps_on a b k (settled room k) was is (receiving_settled room k) [] (Does (happenings.Settles room) k p (held_so a k was standing) tt) standing hearing
  change_becomes a ds b (at_end.LetsGo k f g was is rests whole all) few standing hearing = goes_away a b k was is rests whole standing hearing
  change_becomes a ds b (at_end.Destroys k f g was is out all) few standing hearing = is_lost a b k was is out few standing
  change_becomes a ds b (at_end.Holds f g is out all) few standing hearing = is_held a b a.holding refl is out few standing hearing

-- ---- all changes

module _ (version : ℕ) where
  pub onward : (p q r : Pair) → Courses version p q → Courses version q r → Courses version p r
  onward p q r first (Rests s) = first
  onward p q r first (Goes s m u others event) = Goes p m r (onward p q m first others) event

  pub changes_become : (p : Pair) (a : Seen) (ds : List Deed) (b : Seen) → ChangesAt version a ds b → total a ≤ 1 → IsStandingOf a p.near.standing → IsHearing a p → Becomes version p ds b p.near.coming
  changes_become p a ds b (at_end.None f) few standing hearing =
      record { to = p; course = Rests p; standing = standing; hearing = hearing; coming = refl; far = refl; near_deeds = sym (append-nil p.near_deeds); far_deeds = refl }
  changes_become p a ds b (at_end.Then f as' m bs g one others) few standing hearing =
      let first : Becomes version p as' m p.near.coming = change_becomes version p a as' m one few standing hearing in
      let less : total m ≤ total a = change_less version a as' m one in
      let rest : Becomes version first.to bs b first.to.near.coming = changes_become first.to m bs b others (omega (arith, less, few)) first.standing first.hearing in
      record {
        to = rest.to;
        course = onward p first.to rest.to first.course rest.course;
        standing = rest.standing;
        hearing = rest.hearing;
        coming = rest.coming ∙ first.coming;
        far = rest.far ∙ first.far;
        near_deeds = rest.near_deeds ∙ ap (λ (l : List Deed). l ++ bs) first.near_deeds ∙ append_assoc p.near_deeds as' bs;
        far_deeds = rest.far_deeds ∙ first.far_deeds;
      }
