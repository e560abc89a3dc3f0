-- Of an end that an event passes by: how often it stands anywhere, how many packets are addressed to it, and what the service says
-- of its send and its receive.
use Rattle.std.proofs.Common.{◌≡◌, ◌↔◌, ℕ, ◌+◌, Bool, true, false, List, [], ◌∷◌, IfSome, Option, Some, None, refl, sym, ap, ◌∙◌, arith, true≢false}
use Rattle.std.specs.List.{list_any}
use Rattle.charlotte_calls.specs.declared.names.EndId.{EndId}
use Rattle.charlotte_packets.specs.declared.picture.MovingPicture.{MovingPicture}
use Rattle.charlotte_packets.specs.declared.picture.Picture.{Picture}
use Rattle.charlotte_packets.specs.declared.picture.PictureWhat.{PictureWhat}
use Rattle.end_table.specs.Place.{end_eq}
use Rattle.end_table.specs.declared.entry.HereView.{HereView}
use Rattle.end_table.specs.declared.entry.Inward.{Inward as KernelInward}
use Rattle.end_table.specs.declared.entry.Inward.TheVariants as kernel_inward
use Rattle.end_table.specs.declared.entry.Outward.{Outward as KernelOutward}
use Rattle.end_table.specs.declared.entry.Outward.TheVariants as kernel_outward
use Rattle.kernel_sound.specs.Sound.{addressee}
use Rattle.kernel_step.proofs.EnclosedEnds.{first_false, second_false}
use Rattle.kernel_step.specs.Rows.{ends_in, is_here}
use Rattle.service_step.specs.declared.state.End.{End}
use Rattle.service_step.specs.declared.state.Inward.{Inward}
use Rattle.service_step.specs.declared.state.Inward.TheVariants as inward
use Rattle.service_step.specs.declared.state.Outward.{Outward}
use Rattle.service_step.specs.declared.state.Outward.TheVariants as outward
use Rattle.theorem_meaning.proofs.Sums.{over-same}
use Rattle.theorem_meaning.specs.Packets.{Links, IsUnderWay, IsParcelFor, IsTakenOf, IsUnwantedOf, how_many, one_if, over_kernels, sum_over, values_for, values_of}
use Rattle.theorem_meaning.specs.StandsFor.{IsAskedOf, IsEndOf, IsInwardOf, IsOutwardOf, standing}
use Rattle.theorem_effects.specs.Aside.{IsKept, IsUnaddressed, IsUnbrought}
use Rattle.theorem_effects.specs.Change.{Change, Changes}
use Rattle.theorem_effects.specs.Sums.{AllSent}
use Rattle.theorem_effects.proofs.Addressees.{parcel_for-to, taken-to, unwanted-to}
use Rattle.theorem_effects.proofs.Aside.{addressed-same, entry-same}
use Rattle.theorem_effects.proofs.Sums.{sum_over-same}

-- ---- how many

-- what is true of the packets that are taken and sent and gives another thing gives that of them
pub all_sent-weaker : (P Q : ℕ → PictureWhat → Type 0) → ((to : ℕ) (what : PictureWhat) → P to what → Q to what) → (ps : List (ℕ × PictureWhat)) → AllSent P ps → AllSent Q ps
all_sent-weaker P Q gives [] all = tt
all_sent-weaker P Q gives (p ∷ ps) all = (gives p.0 p.1 all.0, all_sent-weaker P Q gives ps all.1)

pub taken-weaker : (P Q : PictureWhat → Type 0) → ((what : PictureWhat) → P what → Q what) → (t : Option (ℕ × Picture)) → IfSome t (λ t. P t.1.what) → IfSome t (λ t. Q t.1.what)
taken-weaker P Q gives None is = tt
taken-weaker P Q gives (Some t) is = gives t.1.what is

-- an end that is none of some values counts nothing there
values-none : (e : EndId) (ms : List MovingPicture) → list_any (end_eq e) (ends_in ms) ≡ false → values_for e ms ≡ 0
values-none e [] none = refl
values-none e (m ∷ ms) none = both (one_if (end_eq e m.end)) (values_for e ms) (ap one_if (first_false _ _ none)) (values-none e ms (second_false _ _ none))
  where
    both : (a b : ℕ) → a ≡ 0 → b ≡ 0 → a + b ≡ 0
    both a b first rest = omega arith

module _ {w u : Links} {c : Change} (b : Changes w c u) (e : EndId) where
  -- packets that pass a test of packets that are addressed to the end
  pub how_many-same : IsUnaddressed c e → (test : PictureWhat → Bool) → ((q : PictureWhat) → test q ≡ true → end_eq e (addressee q) ≡ true) → how_many test u ≡ how_many test w
  how_many-same a test to =
      sum_over-same (λ q. one_if (test q)) b (taken-weaker (λ what. end_eq e (addressee what) ≡ false) (λ what. one_if (test what) ≡ 0) none c.taken a.taken)
      (all_sent-weaker (λ to what. end_eq e (addressee what) ≡ false) (λ to what. one_if (test what) ≡ 0) (λ to what. none what) c.packets a.sent)
    where
      none : (what : PictureWhat) → end_eq e (addressee what) ≡ false → one_if (test what) ≡ 0
      none what apart = by (test what) refl
        where
          by : (b : Bool) → test what ≡ b → one_if b ≡ 0
          by true is = absurd (true≢false (sym (to what is) ∙ apart))
          by false is = refl

  pub standing-same : IsKept w c e → IsUnbrought c e → standing u e ≡ standing w e
  unfolding standing
  standing-same kept a =
      let here : over_kernels (λ k. one_if (is_here (u.entry k e))) ≡ over_kernels (λ k. one_if (is_here (w.entry k e)))
      = over-same (λ k. one_if (is_here (w.entry k e))) (λ k. one_if (is_here (u.entry k e))) (λ k. ap (λ x. one_if (is_here x)) (entry-same b e kept k)) in
      let values : sum_over (λ q. values_for e (values_of q)) u ≡ sum_over (λ q. values_for e (values_of q)) w
      = sum_over-same (λ q. values_for e (values_of q)) b
      (taken-weaker (λ what. list_any (end_eq e) (ends_in (values_of what)) ≡ false) (λ what. values_for e (values_of what) ≡ 0) (λ what. values-none e (values_of what)) c.taken a.taken)
      (all_sent-weaker (λ to what. list_any (end_eq e) (ends_in (values_of what)) ≡ false) (λ to what. values_for e (values_of what) ≡ 0) (λ to what. values-none e (values_of what)) c.packets a.sent) in
      omega (arith, here, values)

-- ---- what the service says of a send and a receive

module _ (w u : Links) (e : EndId) where
  -- where the same takens are under way
  pub outward-same : ((m : ℕ) → IsUnderWay u (IsTakenOf e m) ↔ IsUnderWay w (IsTakenOf e m)) → (n : ℕ) (at : KernelOutward) (o : Outward) → IsOutwardOf w e n at o → IsOutwardOf u e n at o
  outward-same taken n kernel_outward.Idle outward.Idle is = is
  outward-same taken n (kernel_outward.Waiting m bytes xs) (outward.Waiting message) is = is
  outward-same taken n (kernel_outward.Matched m) (outward.Matched message) is = (is.0, λ now. is.1 ((taken m).0 now))
  outward-same taken n (kernel_outward.Matched m) outward.Taken is = (is.0, (taken m).1 is.1)
  outward-same taken n kernel_outward.Unreported outward.Unreported is = is
  outward-same taken n _ _ is = absurd is

  -- where the same parcels and unwanteds are
  asked-same : ((v n : ℕ) → IsUnderWay u (IsParcelFor e v n) ↔ IsUnderWay w (IsParcelFor e v n)) → ((v : ℕ) → IsUnderWay u (IsUnwantedOf e v) ↔ IsUnderWay w (IsUnwantedOf e v))
      → (v : ℕ) (i : Inward) → IsAskedOf w e v i → IsAskedOf u e v i
  asked-same parcel unwanted v (inward.Matched n) is = ((parcel v n).1 is.0, λ now. is.1 ((unwanted v).0 now))
  asked-same parcel unwanted v inward.Withdrawn is = (λ n now. is.0 n ((parcel v n).0 now), (unwanted v).1 is.1)
  asked-same parcel unwanted v inward.Posted is = (λ n now. is.0 n ((parcel v n).0 now), λ now. is.1 ((unwanted v).0 now))
  asked-same parcel unwanted v _ is = absurd is

  pub inward-same : ((v n : ℕ) → IsUnderWay u (IsParcelFor e v n) ↔ IsUnderWay w (IsParcelFor e v n)) → ((v : ℕ) → IsUnderWay u (IsUnwantedOf e v) ↔ IsUnderWay w (IsUnwantedOf e v))
      → (at : KernelInward) (i : Inward) → IsInwardOf w e at i → IsInwardOf u e at i
  inward-same parcel unwanted kernel_inward.Idle inward.Idle is = is
  inward-same parcel unwanted (kernel_inward.Posted v) i is = asked-same parcel unwanted v i is
  inward-same parcel unwanted (kernel_inward.Withdrawing v) i is = asked-same parcel unwanted v i is
  inward-same parcel unwanted kernel_inward.Unreported inward.Unreported is = is
  inward-same parcel unwanted _ _ is = absurd is

-- no packet is addressed to the end that is taken or sent
pub end-same : {w u : Links} {c : Change} → Changes w c u → (e : EndId) → IsUnaddressed c e → (v : HereView) (x : End) → IsEndOf w e v x → IsEndOf u e v x
end-same {w} {u} {c} b e a v x is =
    record {
      sent = is.sent;
      noticed = is.noticed;
      outward = outward-same w u e (λ m. addressed-same b e a (IsTakenOf e m) (taken-to e m)) x.sent v.outward x.outward is.outward;
      inward = inward-same w u e (λ v n. addressed-same b e a (IsParcelFor e v n) (parcel_for-to e v n)) (λ v. addressed-same b e a (IsUnwantedOf e v) (unwanted-to e v)) v.inward x.inward is.inward;
    }
