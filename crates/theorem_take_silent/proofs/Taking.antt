-- Packets that mean nothing to the service are taken, in a world.
use Rattle.std.proofs.Common.{◌≡◌, ◌⊎◌, inl, inr, ℕ, ◌+◌, ◌<◌, Bool, true, false, max, nat_lt, List, [], ◌∷◌, length, Contains, refl, sym, subst, ◌∙◌, true≢false, ltb-true, ltb-false, append-nil}
use Rattle.std.proofs.lemmas.List.Elements.{All-contains}
use Rattle.charlotte_calls.specs.Names.{opposite}
use Rattle.charlotte_packets.specs.Packets.{is_addressed}
use Rattle.charlotte_calls.specs.declared.names.EndId.{EndId}
use Rattle.charlotte_calls.specs.declared.names.Pid.{Pid}
use Rattle.charlotte_packets.specs.declared.picture.MovingPicture.{MovingPicture}
use Rattle.charlotte_packets.specs.declared.picture.Picture.{Picture}
use Rattle.charlotte_packets.specs.declared.picture.PictureWhat.{PictureWhat}
use Rattle.charlotte_packets.specs.declared.picture.PictureWhat.TheVariants as packet
use Rattle.end_table.specs.declared.entry.Entry.{Entry}
use Rattle.theorem_effects.specs.Effect.{Effect}
use Rattle.theorem_effects.specs.Rows.{row_effect, values_in}
use Rattle.theorem_effects.proofs.Events.{take-gives}
use Rattle.theorem_effects.specs.Closing.{EffectGives}
use Rattle.kernel_sound.specs.Sound.{IsSound, addressee}
use Rattle.kernel_step.proofs.Folds.{AreDifferent}
use Rattle.kernel_step.specs.Kernel.{Kernel, next_stamp, take_step}
use Rattle.kernel_step.specs.Rows.{ends_in}
use Rattle.theorem_effects.specs.World.{World, Takes, happens}
use Rattle.service_lawful.specs.Consistent.{is_open}
use Rattle.service_step.specs.Ends.{is_made}
use Rattle.service_step.specs.State.{State}
use Rattle.theorem_effects.proofs.Ends.{all_sent-weaker}
use Rattle.theorem_effects.proofs.Happens.{takes-happens}
use Rattle.theorem_effects.proofs.Lists.{first, none-there}
use Rattle.theorem_effects.specs.Change.{Change, Happens}
use Rattle.theorem_effects.specs.Events.{taking}
use Rattle.theorem_effects.proofs.Goes.{Goes}
use Rattle.theorem_effects.specs.Fields.{IsNews}
use Rattle.theorem_effects.specs.Invariant.{AreRight, Invariant, IsPacketRight}
use Rattle.theorem_effects.specs.Packets.{links_of}
use Rattle.theorem_take_silent.specs.Quiet.{IsGoneWell, IsHintOf, IsPassed, IsPassing, IsQuiet, IsSentWell, is_telling, tells_place}
use Rattle.theorem_take_silent.specs.Silent.{IsRepeated, IsSilentAt, IsStill}
use Rattle.theorem_take_silent.proofs.Passing.{passing-right}
use Rattle.theorem_take_silent.proofs.Rows.{IsTable, row-silent}
use Rattle.theorem_take_silent.proofs.World.{silent-goes}

different-quiet : (q : PictureWhat) → is_telling q ≡ false → AreDifferent (ends_in (values_in q))
different-quiet (packet.Parcel to n w at hops bytes ms) quiet = absurd (true≢false quiet)
different-quiet (packet.Back to n ms) quiet = absurd (true≢false quiet)
different-quiet _ quiet = tt

silent-quiet : (q : PictureWhat) (x : Entry) → IsSilentAt q x → is_telling q ≡ false
silent-quiet (packet.Want to w at hops) x is = refl
silent-quiet (packet.Unwant to w at hops) x is = refl
silent-quiet (packet.Gone to at) x is = refl
silent-quiet (packet.Moved to at hops) x is = refl
silent-quiet (packet.Known to hops) x is = refl
silent-quiet (packet.Forget to hops) x is = refl
silent-quiet (packet.GoneSeen to) x is = refl
silent-quiet _ x is = absurd is

module _ (i : ℕ) (w : World) (s : State) (is : Invariant i w s) (k from : ℕ) (q : Picture) (others : List Picture) (there : w.packets from k ≡ q ∷ others) where
  abbrev n : ℕ
  n = length s.made

  abbrev own : Kernel
  own = w.kernel k

  -- what its taking does
  abbrev pub effect : Effect
  effect = row_effect k own.made from own.table q.what

  abbrev any : Pid
  any = record { 0 = 0 }

  abbrev pub change : Change
  change = taking w k from q effect any [] []

  here : Contains (w.packets from k) q
  here = subst (λ l. Contains l q) (sym there) (first q others)

  -- packets go to kernels that there are
  pub below : k < n
  below = by (nat_lt k n) refl
    where
      by : (b : Bool) → nat_lt k n ≡ b → k < n
      by true is_below = ltb-true k n is_below
      by false above = absurd (none-there q (subst (λ l. Contains l q) (is.links.named.lists from k (inr (ltb-false k n above))) here))

  addressed : is_addressed q.what n ≡ true
  addressed = All-contains (λ p. is_addressed p.what n ≡ true) (w.packets from k) q (is.links.named.addressed from k) here

  made : is_made (s.ends (addressee q.what)).place ≡ true
  made = All-contains (λ p. is_made (s.ends (addressee p.what)).place ≡ true) (w.packets from k) q (is.links.named.addressees from k) here

  gone-well : (what : PictureWhat) → IsPacketRight (links_of w) s.ends from k what → IsGoneWell s.ends what
  gone-well (packet.Gone to at) right = right
  gone-well _ right = tt

  pub taken-well : is_telling q.what ≡ false → IsSentWell n s.ends k q.what
  taken-well quiet =
      record {
        quiet = quiet;
        below = below;
        addressed = addressed;
        made = made;
        gone = gone-well q.what (All-contains (λ p. IsPacketRight (links_of w) s.ends from k p.what) (w.packets from k) q (is.links.packets from k) here);
      }

  pub table-is : IsTable n s.ends k own.table
  table-is =
      record {
        below = below;
        own = (is.setting.sound k).own;
        names = is.links.named.entries k;
        marks = λ e m at. (is.links.marked e).destroyed k m at;
        both = λ e living. is.service.kept.made (opposite e) ∙ sym (is.service.kept.made e) ∙ living;
      }

  -- an effect without answers and reports
  pub happens-so : is_telling q.what ≡ false → effect.answers ≡ [] → effect.reports ≡ [] → Happens w (Takes k from) change
  happens-so quiet answers reports =
      takes-happens w k from q others there effect any [] []
      (subst (λ z. EffectGives own any (next_stamp (max own.stamp q.stamp)) (row_effect z own.made from own.table q.what) [] [] (take_step own from q)) (is.setting.numbers k)
      (take-gives (length s.homes) own from q any [] [] (subst (λ z. IsSound z own.made (length s.homes) own.table) number (is.setting.sound k)) (different-quiet q.what quiet)
      (subst (λ z. is_addressed q.what z ≡ true) (sym (is.setting.kernels k)) addressed) tt tt
      (subst (λ z. (row_effect z own.made from own.table q.what).answers ≡ []) number answers) (subst (λ z. (row_effect z own.made from own.table q.what).reports ≡ []) number reports)))
    where
      number : k ≡ own.number
      number = sym (is.setting.numbers k)

  pub quiet-so : is_telling q.what ≡ false → IsStill n s.ends own.table effect → IsQuiet n s.ends (links_of w) change
  quiet-so quiet still = record { kernel = below; entry = still.entry; names = still.names; taken = quiet; sent = still.sent }

  passing-so : IsRepeated s.ends own.table q.what effect → IsPassing s.ends (links_of w) change
  passing-so repeated =
      record {
        hints = λ e m l had has. hint e m l (repeated.hints e m l had has);
        sent = all_sent-weaker (λ to what. (tells_place what ≡ false) ⊎ (q.what ≡ what)) (λ to what. IsPassed change what) (λ to what. passed what) effect.packets repeated.sent;
      }
    where
      hint : (e : EndId) (m l : MovingPicture) → (l.hint ≡ m.hint) ⊎ (IsNews e l.hint.0 l.hint.1 q.what × (is_open (s.ends e) ≡ false)) → IsHintOf s.ends change e m l
      hint e m l (inl same) = inl same
      hint e m l (inr told) = inr (record { from = from; packet = q; taken = refl; is = told.0 }, told.1)

      passed : (what : PictureWhat) → (tells_place what ≡ false) ⊎ (q.what ≡ what) → IsPassed change what
      passed what (inl silent) = inl silent
      passed what (inr same) = inr (record { from = from; packet = q; taken = refl; is = same })

  -- the service goes with the taking by no step, where that keeps the clauses on links
  pub still-goes : (quiet : is_telling q.what ≡ false) (still : IsStill n s.ends own.table effect) → ((happened : Happens w (Takes k from) change) → AreRight (i + 1) (links_of (happens w (Takes k from))) s) → Goes i w s (Takes k from)
  still-goes quiet still right =
      let happened = happens-so quiet still.answers still.reports in
      silent-goes i w s (Takes k from) change happened is (quiet-so quiet still) (record { process = refl; made = refl }) (right happened) (append-nil effect.steps ∙ still.steps)

  -- a packet that means nothing to the service and tells nothing new
  pub taking-goes : IsSilentAt q.what (own.table (addressee q.what)) → Goes i w s (Takes k from)
  taking-goes silent =
      let quiet = silent-quiet q.what (own.table (addressee q.what)) silent in
      let does = row-silent n s.ends k own.table table-is own.made from q.what (taken-well quiet) silent in
      still-goes quiet does.0 (λ happened. passing-right happened.becomes.links s (quiet-so quiet does.0) (passing-so does.1) i is.links)
