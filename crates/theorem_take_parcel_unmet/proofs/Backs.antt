-- A parcel is taken where its receive is not started: it goes back to where it came from, and the service goes by no step.
use Rattle.std.proofs.Common.{◌≡◌, ℕ, ◌^◌, ◌<◌, ◌≤◌, Bool, true, false, if◌then◌else◌, List, [], ◌∷◌, length, Contains, None, Some, slice_index, refl, sym, ap, subst, ◌∙◌, arith, eq-eqb, ltb-true}
use Rattle.std.proofs.lemmas.List.Elements.{All-contains}
use Rattle.charlotte_calls.specs.declared.names.EndId.{EndId}
use Rattle.charlotte_calls.specs.declared.names.Pid.{Pid}
use Rattle.charlotte_packets.specs.declared.picture.MovingPicture.{MovingPicture}
use Rattle.charlotte_packets.specs.declared.picture.Picture.{Picture}
use Rattle.charlotte_packets.specs.declared.picture.PictureWhat.TheVariants as packet
use Rattle.end_table.specs.Table.{IsHereAnd}
use Rattle.end_table.specs.declared.entry.Entry.{Entry}
use Rattle.end_table.specs.declared.entry.Entry.TheVariants as entry
use Rattle.end_table.specs.declared.entry.Inward.{Inward}
use Rattle.end_table.specs.declared.entry.Inward.TheVariants as inward
use Rattle.kernel_effects.specs.Effect.{Effect}
use Rattle.kernel_effects.specs.Rows.{parcel_effect, row_effect, sends_back_effect}
use Rattle.kernel_outcomes.proofs.Sound.{passing-all}
use Rattle.kernel_step.proofs.Folds.{AreDifferent}
use Rattle.kernel_step.specs.Rows.{asks, ends_in, is_asked, passing}
use Rattle.kernel_world.specs.World.{Takes, World, happens}
use Rattle.service_lawful.specs.Consistent.{is_open}
use Rattle.service_step.specs.Ends.{is_made}
use Rattle.service_step.specs.State.{State}
use Rattle.service_step.specs.declared.state.Place.TheVariants as place
use Rattle.theorem_match.proofs.Sound.{takes-sound}
use Rattle.theorem_effects.proofs.Allowed.{between, brings-different, takes-allowed}
use Rattle.theorem_effects.proofs.Aside.{ends_in-there}
use Rattle.theorem_effects.proofs.Lists.{first}
use Rattle.theorem_effects.specs.Change.{Change, Happens}
use Rattle.theorem_effects.specs.Events.{taking}
use Rattle.theorem_meaning.proofs.Goes.{Goes}
use Rattle.theorem_meaning.specs.Fields.{IsAskedAs}
use Rattle.theorem_meaning.specs.Invariant.{Invariant, IsPacketRight, IsParcelRight}
use Rattle.theorem_meaning.specs.Packets.{links_of}
use Rattle.theorem_match.proofs.World.{invariant-anew}
use Rattle.theorem_effects.proofs.Values.{all-coming}
use Rattle.theorem_take_parcel_unmet.specs.Returning.{IsReturning}
use Rattle.theorem_take_parcel_unmet.proofs.Returning.{carried, links-returned, not-here, right-returned}

-- a receive that is started is asked for
asked-so : (w : ℕ) (x : Inward) → IsAskedAs w x → is_asked w x ≡ true
asked-so w (inward.Posted n) is = eq-eqb n w is
asked-so w (inward.Withdrawing n) is = eq-eqb n w is
asked-so w _ is = absurd is

asks-met : (w : ℕ) (x : Entry) → IsHereAnd x (λ v. IsAskedAs w v.inward) → asks w x ≡ None → ⊥
asks-met w (entry.Here v) is none = some (sym (ap (λ b. if b then Some v else None) (asked-so w v.inward is)) ∙ none)
  where
    some : Some v ≡ None → ⊥
    some same = cc
asks-met w _ is none = is

module _ (i : ℕ) (w : World) (s : State) (is : Invariant i w s) (room : i < 2 ^ 31) (k from stamp : ℕ) (to : EndId) (n wanted at hops : ℕ) (bytes : List ℕ) (ms : List MovingPicture) (others : List Picture)
    (there : w.packets from k ≡ record { stamp = stamp; what = packet.Parcel to n wanted at hops bytes ms } ∷ others) (unmet : asks wanted ((w.kernel k).table to) ≡ None) where
  abbrev q : Picture
  q = record { stamp = stamp; what = packet.Parcel to n wanted at hops bytes ms }

  abbrev any : Pid
  any = record { 0 = 0 }

  abbrev table : EndId → Entry
  table = (w.kernel k).table

  abbrev made : ℕ
  made = (w.kernel k).made

  stands : Contains (w.packets from k) q
  stands = subst (λ l. Contains l q) (sym there) (first q others)

  was-right : IsParcelRight (links_of w) s.ends from k to n wanted at hops bytes (ends_in ms)
  was-right = All-contains (λ z. IsPacketRight (links_of w) s.ends from k z.what) (w.packets from k) q (is.links.packets from k) stands

  returns : IsReturning (links_of w) s k from q to
  returns = record { kernel = (between is from k q stands).1; sender = (between is from k q stands).0; there = stands; closed = by (is_open (s.ends to)) refl }
    where
      by : (b : Bool) → is_open (s.ends to) ≡ b → b ≡ false
      by true opens = absurd (asks-met wanted (table to) (was-right.meets opens) unmet)
      by false closed = refl

  different : AreDifferent (ends_in ms)
  different = brings-different is from k q stands

  abbrev c : Change
  c = taking w k from q (sends_back_effect k to n at ms) any [] []

  -- all its values are carried
  all-pass : passing k made table ms ≡ ms
  all-pass =
      passing-all k made table ms
      (all-coming k made table ms different (λ m has. (
        λ here. not-here i (links_of w) s is.links is.stands.links is.service is.setting.few c from stamp to n wanted at hops bytes ms returns k m.end (λ v. Unit {0}) (ends_in-there ms m has) here,
        λ own above. unmade m (carried i (links_of w) s is.links is.stands.links is.service is.setting.few c from stamp to n wanted at hops bytes ms returns m.end (ends_in-there ms m has)) own above,
      )))
    where
      unmade : (m : MovingPicture) → {f : EndId} → (s.ends m.end).place ≡ place.InMessage f n → m.end.link.maker ≡ k → made ≤ m.end.link.count → ⊥
      unmade m inside own above =
          let low : m.end.link.count < slice_index s.made m.end.link.maker = ltb-true m.end.link.count (slice_index s.made m.end.link.maker) (sym (is.service.kept.made m.end) ∙ ap is_made inside) in
          let same : slice_index s.made m.end.link.maker ≡ made = ap (slice_index s.made) own ∙ is.setting.made k in
          omega (arith, low, same, above)

  does : row_effect k made from table q.what ≡ sends_back_effect k to n at ms
  does = ap (parcel_effect k made table to n at hops bytes ms) unmet ∙ ap (sends_back_effect k to n at) all-pass

  happened : Happens w (Takes k from) c
  happened = takes-allowed is k from q others there (sends_back_effect k to n at ms) any [] [] does tt tt refl refl

  -- the service goes with it by no step
  pub parcel-back-goes : Goes i w s (Takes k from)
  parcel-back-goes =
      record {
        part = [];
        steps = sym happened.steps;
        run = tt;
        after =
            invariant-anew happened.becomes s (record { process = refl; made = refl }) i s.ends is
            (takes-sound k made (length s.homes) table (is.setting.sound k) from q.what different ((happens w (Takes k from)).kernel k).table (λ e. happened.becomes.links.entry e ∙ sym (ap (λ (f : Effect). f.entry e (table e)) does)))
            (links-returned i (links_of w) s is.links is.stands.links is.service is.setting.few c from stamp to n wanted at hops bytes ms returns (links_of (happens w (Takes k from))) happened.becomes.links) is.service
            (right-returned i (links_of w) s is.links is.stands.links is.service is.setting.few c from stamp to n wanted at hops bytes ms returns (links_of (happens w (Takes k from))) happened.becomes.links (omega (arith, room)));
        homes = refl;
      }
