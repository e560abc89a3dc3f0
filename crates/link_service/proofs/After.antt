-- What a step leaves, from what its parts leave one after another.
use Rattle.std.proofs.Common.{◌≡◌, ◌++◌, true, All, List, Option, Some, None, sym, ap, subst, ◌∙◌}
use Rattle.charlotte_calls.specs.declared.calls.Report.{Report}
use Rattle.charlotte_calls.specs.declared.names.EndId.{EndId}
use Rattle.charlotte_calls.specs.declared.names.Pid.{Pid}
use Rattle.charlotte_calls.specs.declared.names.Way.TheVariants as way
use Rattle.link_service.specs.Service.{ServiceView, OwnerKnows, state_of}
use Rattle.service_links.specs.Links.{ends_of}
use Rattle.service_processes.specs.Known.{known_of, IsKnown}
use Rattle.service_step.specs.Ends.{owner, is_owned_by, waiting_message, withdraws_send, notices, returns}
use Rattle.service_step.specs.State.{State, tells}
use Rattle.service_step.specs.Steps.{after_cancel, after_notice, after_return, returned_reports, dead_reports, tells_returned}
use Rattle.service_step.specs.declared.state.End.{End}

-- what an owner is known to have it has where neither the ends nor what is known change
pub OwnerKnows-kept : (a b : ServiceView) (e : EndId) (xs : List EndId) → b.links ≡ a.links → known_of b.processes ≡ known_of a.processes → OwnerKnows a e xs → OwnerKnows b e xs
OwnerKnows-kept a b e xs links known knows =
    record {
      all = λ p own. subst (λ k. All (IsKnown k p) xs) (sym known) (knows.all p (subst (λ l. is_owned_by p (ends_of l e).place ≡ true) links own));
    }

module _ (f : End → List EndId) (a b c : ServiceView) (e to : EndId) (x : End) (xs : List EndId)
    (is : x ≡ ends_of a.links e) (carried : xs ≡ f x) (same : b.links ≡ a.links) (knows : OwnerKnows b to xs)
    (links : c.links ≡ b.links) (known : known_of c.processes ≡ known_of b.processes) where
  -- the list is still what the end carries
  pub still-carried : xs ≡ f ((state_of c).ends e)
  unfolding state_of
  still-carried = carried ∙ ap f (is ∙ ap (λ l. ends_of l e) (sym (links ∙ same)))

  pub owner-needs : OwnerKnows c to (f ((state_of c).ends e))
  owner-needs = subst (λ ys. OwnerKnows c to ys) still-carried (OwnerKnows-kept b c to xs links known knows)

  pub process-needs : (p : Pid) → is_owned_by p ((state_of a).ends to).place ≡ true → All (IsKnown (known_of c.processes) p) (f ((state_of c).ends e))
  unfolding state_of
  process-needs p own = owner-needs.all p (subst (λ l. is_owned_by p (ends_of l to).place ≡ true) (sym (links ∙ same)) own)

module _ (s0 s1 s2 s3 : State) (e : EndId) (h1 : s1 ≡ s0) where
  pub after_cancel-by : (p : Pid) (x : End) → x ≡ s0.ends e → Some p ≡ owner x.place → s2 ≡ record s1 { ends = withdraws_send p e s1.ends }
      → s2 ≡ after_cancel (owner (s0.ends e).place) e way.Outward s0
  after_cancel-by p x is own h2 =
      h2 ∙ ap (λ (s : State). record s { ends = withdraws_send p e s.ends }) h1
      ∙ ap (λ (o : Option Pid). after_cancel o e way.Outward s0) (own ∙ ap (λ (z : End). owner z.place) is)

  pub after_cancel-none : (x : End) → x ≡ s0.ends e → None ≡ owner x.place → s1 ≡ after_cancel (owner (s0.ends e).place) e way.Outward s0
  after_cancel-none x is none =
      h1 ∙ ap (λ (o : Option Pid). after_cancel o e way.Outward s0) (none ∙ ap (λ (z : End). owner z.place) is)

  module _ (first second : List Report) where
    pub after_notice-by : (x : End) → x ≡ s0.ends e → first ≡ returned_reports e (waiting_message x.outward) → second ≡ dead_reports e x
        → s2 ≡ record s1 { process = tells (owner (s1.ends e).place) e (first ++ second) s1.process } → s3 ≡ record s2 { ends = notices e s2.ends }
        → s3 ≡ after_notice e s0
    after_notice-by x is sent dead h2 h3 =
        h3
        ∙ ap (λ (s : State). record s { ends = notices e s.ends })
        (h2 ∙ ap (λ (s : State). record s { process = tells (owner (s.ends e).place) e (first ++ second) s.process }) h1)
        ∙ ap (λ (rs : List Report). record s0 { ends = notices e s0.ends; process = tells (owner (s0.ends e).place) e rs s0.process })
        (λ i. (sent ∙ ap (λ (z : End). returned_reports e (waiting_message z.outward)) is) i ++ (dead ∙ ap (dead_reports e) is) i)

  pub after_return-by : (x : End) → x ≡ s0.ends e
      → s2 ≡ record s1 { process = tells_returned (owner (s1.ends e).place) e x s1.process } → s3 ≡ record s2 { ends = returns e s2.ends }
      → s3 ≡ after_return e s0
  after_return-by x is h2 h3 =
      h3
      ∙ ap (λ (s : State). record s { ends = returns e s.ends })
      (h2 ∙ ap (λ (s : State). record s { process = tells_returned (owner (s.ends e).place) e x s.process }) h1)
      ∙ ap (λ (z : End). record s0 { ends = returns e s0.ends; process = tells_returned (owner (s0.ends e).place) e z s0.process }) is
