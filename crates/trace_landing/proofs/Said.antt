-- Packets that tell where an end is.
use Rattle.std.proofs.Common.{◌≡◌, ℕ, ◌≤◌, Bool, true, false, nat_eq, if◌then◌else◌, List, [], ◌∷◌, ◌++◌, Contains, refl, sym, ap, subst, ◌∙◌, arith}
use Rattle.std.specs.List.{AllByRecursion, flat_map}
use Rattle.charlotte_calls.specs.Names.{opposite}
use Rattle.charlotte_calls.specs.declared.names.EndId.{EndId}
use Rattle.charlotte_packets.specs.declared.picture.MovingPicture.{MovingPicture}
use Rattle.charlotte_packets.specs.declared.picture.PictureWhat.{PictureWhat}
use Rattle.charlotte_packets.specs.declared.picture.PictureWhat.TheVariants as packet
use Rattle.end_table.specs.Entries.{is_news, learned}
use Rattle.end_table.specs.Table.{IsHereAnd}
use Rattle.end_table.specs.declared.entry.HereView.{HereView}
use Rattle.end_table.specs.declared.entry.Inward.{Inward}
use Rattle.end_table.specs.declared.entry.Inward.TheVariants as inward
use Rattle.kernel_effects.proofs.Uses.{all-append, all-flat_map, arrival-each}
use Rattle.kernel_effects.specs.Actions.{arrival_packets, live_packets, moved_packets, receive_packets}
use Rattle.kernel_effects.specs.Rows.{view_news}
use Rattle.service_step.specs.Ends.{is_living}
use Rattle.service_step.specs.declared.state.End.{End}
use Rattle.theorem_effects.proofs.Lists.{first}
use Rattle.theorem_effects.specs.Sums.{AllSent}
use Rattle.theorem_ends_arrived.proofs.Values.{each-there}
use Rattle.theorem_meaning.proofs.Ends.{opposite-twice}
use Rattle.theorem_meaning.proofs.Plain.{there-here}
use Rattle.theorem_meaning.specs.Fields.{IsAsking, IsNews}
use Rattle.theorem_meaning.specs.Packets.{Links, values_of}
use Rattle.theorem_meaning.specs.StandsFor.{entry_at}
use Rattle.trace_link.proofs.Known.{contains-flat_map}
use Rattle.trace_moving.proofs.Marks.{learned-taught}
use Rattle.trace_landing.specs.Landing.{IsSaid, IsSaidOf}
use Rattle.trace_meaning.proofs.Chains.{chain-here}
use Rattle.trace_meaning.specs.Words.{HasChain, IsBackTo, IsParcelTo}
use Rattle.trace_moving.specs.Moving.{IsPlain}

module _ (u : Links) (t : EndId → End) (k : ℕ) where
  -- ---- what is said is plain, and true

  pub said-plain : (q : PictureWhat) → IsSaid u t k q → IsPlain q
  said-plain (packet.Want to n j h) said = tt
  said-plain (packet.Unwant to n j h) said = tt
  said-plain (packet.Taken to n j h) said = tt
  said-plain (packet.Moved to j h) said = tt
  said-plain _ said = absurd said

  pub said-bare : (q : PictureWhat) → IsSaid u t k q → values_of q ≡ []
  said-bare (packet.Parcel to n w at hops bytes ms) said = absurd said
  said-bare (packet.Back to n ms) said = absurd said
  said-bare _ said = refl

  pub said-parcel : (q : PictureWhat) → IsSaid u t k q → (e : EndId) → IsParcelTo e q → ⊥
  said-parcel (packet.Parcel to n w at hops bytes ms) said e its = said
  said-parcel _ said e its = its

  pub said-back : (q : PictureWhat) → IsSaid u t k q → (e : EndId) → IsBackTo e q → ⊥
  said-back (packet.Back to n ms) said e its = said
  said-back _ said e its = its

  said-chain : (e to : EndId) (j h at hops : ℕ) → IsSaidOf u t k to at hops → (to ≡ opposite e) × (at ≡ j) × (hops ≡ h) → HasChain u e j h
  said-chain e to j h at hops said its =
      let v = there-here (entry_at u k (opposite to)) (λ v. v.value.hops ≡ hops) said.1 in
      let same : v.0.value.hops ≡ hops = v.2 in
      let asked : hops ≡ h = its.2 in
      subst (λ z. HasChain u e z h) (sym said.0 ∙ its.1) (chain-here u e k h v.0 (ap (entry_at u k) (sym (ap opposite its.0 ∙ opposite-twice e)) ∙ v.1) (omega (arith, same, asked)))

  pub said-news : (q : PictureWhat) → IsSaid u t k q → (e : EndId) (j h : ℕ) → IsNews (opposite e) j h q → HasChain u e j h
  said-news (packet.Want to n at hops) said e j h its = said-chain e to j h at hops said its
  said-news (packet.Unwant to n at hops) said e j h its = said-chain e to j h at hops said its
  said-news (packet.Taken to n at hops) said e j h its = said-chain e to j h at hops said its
  said-news (packet.Moved to at hops) said e j h its = said-chain e to j h at hops said its
  said-news (packet.Unwanted to n at hops) said e j h its = absurd said
  said-news (packet.Parcel to n w at hops bytes ms) said e j h its = absurd said
  said-news _ said e j h its = absurd its

  said-lives : (e to : EndId) → to ≡ opposite e → is_living (t (opposite to)).place ≡ true → is_living (t e).place ≡ true
  said-lives e to same lives = subst (λ z. is_living (t z).place ≡ true) (ap opposite same ∙ opposite-twice e) lives

  pub said-asks : (q : PictureWhat) → IsSaid u t k q → (e : EndId) (n j h : ℕ) → IsAsking (opposite e) n j h q → is_living (t e).place ≡ true
  said-asks (packet.Want to w at hops) said e n j h its = said-lives e to its.0 said.2
  said-asks (packet.Unwant to w at hops) said e n j h its = said-lives e to its.0 said.2
  said-asks _ said e n j h its = absurd its

  -- ---- what an end says that is here

  of-end : (e : EndId) (h : ℕ) → IsHereAnd (entry_at u k e) (λ v. v.value.hops ≡ h) → is_living (t e).place ≡ true → IsSaidOf u t k (opposite e) k h
  of-end e h here lives = (
    refl,
    subst (λ z. IsHereAnd (entry_at u k z) (λ v. v.value.hops ≡ h)) (sym (opposite-twice e)) here,
    subst (λ z. is_living (t z).place ≡ true) (sym (opposite-twice e)) lives,
  )

  live-said : (m : MovingPicture) (i : Inward) → IsSaidOf u t k (opposite m.end) k m.hops → AllSent (λ to what. IsSaid u t k what) (live_packets k m i)
  live-said m i said = all-append (λ (x : ℕ × PictureWhat). IsSaid u t k x.1) (receive_packets k m i) (if nat_eq m.trail 0 then [] else moved_packets k m) (receive i) (trail (nat_eq m.trail 0))
    where
      receive : (i : Inward) → AllSent (λ to what. IsSaid u t k what) (receive_packets k m i)
      receive inward.Idle = tt
      receive (inward.Posted w) = (said, tt)
      receive (inward.Withdrawing w) = (said, tt)
      receive inward.Unreported = tt

      trail : (a : Bool) → AllSent (λ to what. IsSaid u t k what) (if a then [] else moved_packets k m)
      trail true = tt
      trail false = (said, tt)

  -- what is told of it
  pub end-said : (v : HereView) → IsHereAnd (entry_at u k v.value.end) (λ o. o.value.hops ≡ v.value.hops) → is_living (t v.value.end).place ≡ true → IsSaidOf u t k (opposite v.value.end) k v.value.hops
  end-said v = of-end v.value.end v.value.hops

  -- its packets that go again
  pub news-said : (at hops : ℕ) (v : HereView) (i : Inward) → IsHereAnd (entry_at u k v.value.end) (λ o. o.value.hops ≡ v.value.hops) → is_living (t v.value.end).place ≡ true → AllSent (λ to what. IsSaid u t k what) (view_news k at hops v i)
  news-said at hops v i here lives = by (is_news v.value hops)
    where
      said : IsSaidOf u t k (opposite (learned at hops v.value).end) k (learned at hops v.value).hops
      said =
          subst (λ (z : MovingPicture). IsSaidOf u t k (opposite z.end) k z.hops) (sym (learned-taught at hops v.value))
          (of-end v.value.end v.value.hops here lives)

      by : (a : Bool) → AllSent (λ to what. IsSaid u t k what) (if a then live_packets k (learned at hops v.value) i else [])
      by true = live-said (learned at hops v.value) i said
      by false = tt

  -- the moved of each end that came
  pub arrivals-said : (ms : List MovingPicture) → ((m : MovingPicture) → Contains ms m → IsHereAnd (entry_at u k m.end) (λ v. v.value.hops ≡ m.hops) × (is_living (t m.end).place ≡ true)) → AllSent (λ to what. IsSaid u t k what) (flat_map (arrival_packets k) ms)
  arrivals-said ms here =
      all-flat_map (λ (x : ℕ × PictureWhat). IsSaid u t k x.1) (arrival_packets k) ms
      (each-there (λ m. AllByRecursion (λ (x : ℕ × PictureWhat). IsSaid u t k x.1) (arrival_packets k m)) ms
      (λ m has. arrival-each (λ (x : ℕ × PictureWhat). IsSaid u t k x.1) k m (λ alive. let both = here m has in of-end m.end m.hops both.0 both.1)))

-- the moved of an end that came is among them
pub arrival-there : (k : ℕ) (ms : List MovingPicture) (m : MovingPicture) → Contains ms m → m.dead ≡ false → Contains {X = ℕ × PictureWhat} (flat_map (arrival_packets k) ms) (m.hint.0, packet.Moved (opposite m.end) k m.hops)
arrival-there k ms m has alive =
    contains-flat_map (arrival_packets k) ms m (m.hint.0, packet.Moved (opposite m.end) k m.hops) has
    (subst (λ a. Contains {X = ℕ × PictureWhat} (if a then [] else moved_packets k m) (m.hint.0, packet.Moved (opposite m.end) k m.hops)) (sym alive)
    (first {X = ℕ × PictureWhat} (m.hint.0, packet.Moved (opposite m.end) k m.hops) []))
