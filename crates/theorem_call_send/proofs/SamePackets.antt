-- Links with the same packets: what is under way, how many there are, and what is true of each.
use Rattle.std.proofs.Common.{◌≡◌, ◌↔◌, ℕ, Bool, true, false, nat_eq, if◌then◌else◌, [], ◌++◌, Contains, None, refl, sym, ap, subst, ◌∙◌, append-nil}
use Rattle.std.proofs.lemmas.List.Elements.{All-contains}
use Rattle.charlotte_calls.specs.declared.names.EndId.{EndId}
use Rattle.charlotte_packets.specs.declared.picture.PictureWhat.{PictureWhat}
use Rattle.end_table.specs.declared.entry.HereView.{HereView}
use Rattle.service_step.specs.declared.state.End.{End}
use Rattle.theorem_call_wait.proofs.Ends.{inward-same, outward-same}
use Rattle.theorem_call_wait.proofs.Lists.{All-there, going}
use Rattle.theorem_call_wait.specs.Change.{Change, Changes, taken_from}
use Rattle.theorem_meaning.proofs.Sums.{over-same}
use Rattle.theorem_meaning.specs.Packets.{Each, IsParcelFor, IsTakenOf, IsUnderWay, IsUnwantedOf, Links, over_kernels, sum_in, sum_over}
use Rattle.theorem_meaning.specs.StandsFor.{IsEndOf}

-- an event that takes and sends none leaves the same
pub no-packets : {w u : Links} {c : Change} → Changes w c u → c.taken ≡ None → c.packets ≡ [] → (from to : ℕ) → u.packets from to ≡ w.packets from to
no-packets {w} {u} {c} b untaken unsent from to =
    b.after from to ∙ ap (λ l. b.left from to ++ l) (sends (nat_eq from c.kernel)) ∙ append-nil (b.left from to)
    ∙ sym (b.before from to ∙ ap (λ l. l ++ b.left from to) (takes (nat_eq to c.kernel)))
  where
    sends : (x : Bool) → (if x then going to c.stamp c.packets else []) ≡ []
    sends true = ap (going to c.stamp) unsent
    sends false = refl

    takes : (x : Bool) → (if x then taken_from c.taken from else []) ≡ []
    takes true = ap (λ t. taken_from t from) untaken
    takes false = refl

module _ (w u : Links) (same : (from to : ℕ) → u.packets from to ≡ w.packets from to) where
  pub packet-same : (P : PictureWhat → Type 0) → IsUnderWay u P ↔ IsUnderWay w P
  packet-same P = (
    λ is. record { from = is.from; to = is.to; packet = is.packet; there = subst (λ l. Contains l is.packet) (same is.from is.to) is.there; is = is.is },
    λ is. record { from = is.from; to = is.to; packet = is.packet; there = subst (λ l. Contains l is.packet) (sym (same is.from is.to)) is.there; is = is.is },
  )

  pub number-same : (f : PictureWhat → ℕ) → sum_over f u ≡ sum_over f w
  unfolding sum_over
  number-same f =
      over-same (λ from. over_kernels (λ to. sum_in f (w.packets from to))) (λ from. over_kernels (λ to. sum_in f (u.packets from to)))
      (λ from. over-same (λ to. sum_in f (w.packets from to)) (λ to. sum_in f (u.packets from to)) (λ to. ap (sum_in f) (same from to)))

  pub each-same : (P Q : ℕ → ℕ → PictureWhat → Type 0) → ((from to : ℕ) (q : PictureWhat) → P from to q → Q from to q) → Each w P → Each u Q
  each-same P Q gives each from to =
      All-there (λ q. Q from to q.what) (u.packets from to)
      (λ q has. gives from to q.what (All-contains (λ q. P from to q.what) (w.packets from to) q (each from to) (subst (λ l. Contains l q) (same from to) has)))

  -- so an end is as the service says
  pub end-same : (e : EndId) (v : HereView) (x : End) → IsEndOf w e v x → IsEndOf u e v x
  end-same e v x is =
      record {
        sent = is.sent;
        noticed = is.noticed;
        outward = outward-same w u e (λ m. packet-same (IsTakenOf e m)) x.sent v.outward x.outward is.outward;
        inward = inward-same w u e (λ r m. packet-same (IsParcelFor e r m)) (λ r. packet-same (IsUnwantedOf e r)) v.inward x.inward is.inward;
      }
