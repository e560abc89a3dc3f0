-- An event by which ends land is one by which ends move.
use Rattle.std.proofs.Common.{◌≡◌, ◌≢◌, ◌⊎◌, inl, inr, ℕ, ◌≤◌, Bool, true, false, true≢false, nat_eq, List, Contains, IfSome, Some, None, refl, sym, ap, subst, ◌∙◌, arith}
use Rattle.std.proofs.lemmas.Bool.Decides.{eqb_tells}
use Rattle.std.specs.List.{list_any}
use Rattle.charlotte_calls.specs.Names.{opposite}
use Rattle.charlotte_calls.specs.declared.names.EndId.{EndId}
use Rattle.charlotte_packets.specs.declared.picture.MovingPicture.{MovingPicture}
use Rattle.charlotte_packets.specs.declared.picture.Picture.{Picture}
use Rattle.charlotte_packets.specs.declared.picture.PictureWhat.{PictureWhat}
use Rattle.charlotte_packets.specs.declared.picture.PictureWhat.TheVariants as packet
use Rattle.end_table.specs.Place.{end_eq}
use Rattle.end_table.specs.declared.entry.Entry.{Entry}
use Rattle.end_table.specs.declared.entry.Entry.TheVariants as entry
use Rattle.end_table.specs.declared.entry.HereView.{HereView}
use Rattle.kernel_step.specs.Rows.{ends_in}
use Rattle.service_step.specs.declared.state.End.{End}
use Rattle.theorem_effects.proofs.Aside.{sent-each}
use Rattle.theorem_effects.proofs.Ends.{all_sent-weaker}
use Rattle.theorem_effects.proofs.Lists.{none-there}
use Rattle.theorem_effects.proofs.Packets.{left-was, taken-before, under_way-after}
use Rattle.theorem_effects.specs.Change.{Change, Changes}
use Rattle.theorem_effects.specs.Under.{IsLeft, IsSent, IsTaken}
use Rattle.theorem_ends_arrived.proofs.Among.{among-told, told-among}
use Rattle.theorem_ends_arrived.specs.Arrived.{IsAmong}
use Rattle.theorem_meaning.specs.Fields.{At, Flying, HasFields, Stand, value_of}
use Rattle.theorem_meaning.specs.Packets.{Links, values_of}
use Rattle.theorem_meaning.specs.StandsFor.{entry_at}
use Rattle.theorem_take_want.proofs.Alike.{some-same}
use Rattle.trace_moving.proofs.One.{is-taken}
use Rattle.trace_landing.proofs.Said.{said-asks, said-back, said-bare, said-news, said-parcel, said-plain}
use Rattle.trace_landing.specs.Landing.{AreCarried, IsLanding, IsMessage, IsSaid}
use Rattle.trace_meaning.proofs.Chains.{chain-here}
use Rattle.trace_meaning.specs.Words.{IsMovedTo}
use Rattle.trace_moving.specs.Moving.{IsMovedEntry, IsMover, IsMoving, IsOnward, IsPlain}

message-plain : (q : PictureWhat) → IsMessage q → IsPlain q
message-plain (packet.Parcel to n w at hops bytes ms) is = tt
message-plain (packet.Back to n ms) is = tt
message-plain _ is = absurd is

message-moved : (q : PictureWhat) → IsMessage q → (e : EndId) (j h : ℕ) → IsMovedTo e j h q → ⊥
message-moved (packet.Moved to at hops) is e j h its = is
message-moved _ is e j h its = its

pub onward-same : (m : MovingPicture) → IsOnward m m
onward-same m = record { hint = refl; want = refl; served = refl; dead = refl; hops = omega arith; trail = λ j set. set }

module _ {w u : Links} {c : Change} (b : Changes w c u) (t : EndId → End) (from : ℕ) (q : Picture) (carried : AreCarried w t (values_of q.what)) (x : IsLanding w u c t from q) where
  abbrev ms : List MovingPicture
  ms = values_of q.what

  abbrev k : ℕ
  k = c.kernel

  abbrev moves : EndId → Bool
  moves e = list_any (end_eq e) (ends_in ms)

  not-sent : (m : MovingPicture) → IsSent c (λ z. Contains (values_of z) m) → ⊥
  not-sent m z = none-there m (subst (λ l. Contains l m) (said-bare u t k z.what (sent-each (λ to what. IsSaid u t k what) c.packets z.to z.what x.said z.there)) z.is)

  flies : (e : EndId) (a : IsAmong ms e) → HasFields w e Flying a.value
  flies e a = (record { from = from; to = k; packet = q; there = taken-before b from q x.taken; is = a.there }, a.of)

  lander : (e : EndId) (o : HereView) (a : IsAmong ms e) → entry_at u k e ≡ entry.Here o → o.value ≡ a.value → IsMover w u c t e
  lander e o a here same =
      record {
        stand = Flying;
        value = a.value;
        had = flies e a;
        alone = λ at m has. (carried.alone e a at m has).1;
        lives = carried.lives e a;
        knows = carried.knows e a;
        away = λ j v off was. absurd (let differ : At j ≡ Flying = (carried.alone e a (At j) v.value (ap value_of was)).0 in cc);
        site = At k;
        next = a.value;
        has = ap value_of here ∙ ap Some same;
        only = only;
        like = onward-same a.value;
        leads = λ free. chain-here u e k a.value.hops o here (let hops : o.value.hops ≡ a.value.hops = ap (λ (z : MovingPicture). z.hops) same in omega (arith, hops));
        entry = subst (IsMovedEntry c e a.value) (sym here) (λ free. subst (λ z. Contains c.packets (a.value.hint.0, packet.Moved (opposite z) k a.value.hops)) a.of (x.tells a.value a.there free));
      }
    where
      only : (at : Stand) (m : MovingPicture) → HasFields u e at m → m ≡ a.value
      only Flying m has = by (under_way-after b (λ z. Contains (values_of z) m) has.0)
        where
          by : IsLeft b (λ z. Contains (values_of z) m) ⊎ IsSent c (λ z. Contains (values_of z) m) → m ≡ a.value
          by (inl left) = (carried.alone e a Flying m (left-was b (λ z. Contains (values_of z) m) left, has.1)).1
          by (inr sent) = absurd (not-sent m sent)
      only (At j) m has = by (eqb_tells j k)
        where
          by : ((nat_eq j k ≡ true) × (j ≡ k)) ⊎ ((nat_eq j k ≡ false) × (j ≢ k)) → m ≡ a.value
          by (inl near) = some-same m a.value (sym has ∙ ap value_of (ap (λ z. entry_at u z e) near.1 ∙ here) ∙ ap Some same)
          by (inr far) = (carried.alone e a (At j) m (ap value_of (sym (b.others j e far.0)) ∙ has)).1

  pub landing-moving : IsMoving (λ e. list_any (end_eq e) (ends_in (values_of q.what))) w u c t
  landing-moving =
      record {
        movers = λ e on. let z = x.came e (told-among ms e on) in lander e z.0 z.1 z.2 z.3;
        others = λ e off. x.others e (λ a. true≢false (sym (among-told ms e a) ∙ off));
        taken = subst (λ z. IfSome z (λ o. IsPlain o.1.what)) (sym x.taken) (message-plain q.what x.message);
        sent = all_sent-weaker (λ to what. IsSaid u t k what) (λ to what. IsPlain what) (λ to what said. said-plain u t k what said) c.packets x.said;
        unmoved = λ e j h taken. message-moved q.what x.message e j h (is-taken from q x.taken (IsMovedTo e j h) taken);
        brought = λ m taken. among-told ms m.end (record { value = m; there = is-taken from q x.taken (λ z. Contains (values_of z) m) taken; of = refl });
        carried = λ m sent. absurd (not-sent m sent);
        news = λ e j h z. said-news u t k z.what (says z.to z.what z.there) e j h z.is;
        asks = λ e n j h z. said-asks u t k z.what (says z.to z.what z.there) e n j h z.is;
        parcel = λ e d m to what mark opens has its. absurd (said-parcel u t k what (says to what has) e its);
        back = λ e d m to what mark opens has its. absurd (said-back u t k what (says to what has) (opposite e) its);
      }
    where
      says : (to : ℕ) (what : PictureWhat) → Contains c.packets (to, what) → IsSaid u t k what
      says to what has = sent-each (λ to what. IsSaid u t k what) c.packets to what x.said has
