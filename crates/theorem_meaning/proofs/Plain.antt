-- Plain things that many proofs use: of entries, of owners, of lists, of numbers, and of what a packet is.
use Rattle.std.proofs.Common.{◌≡◌, ℕ, zero, suc, ◌<◌, ◌≤◌, Bool, true, false, List, [], ◌∷◌, length, Some, slice_get, slice_index, Contains, refl, sym, ap, subst, arith, true≢false}
use Rattle.charlotte_calls.specs.declared.names.EndId.{EndId}
use Rattle.charlotte_calls.specs.declared.names.Pid.{Pid}
use Rattle.charlotte_packets.specs.declared.picture.MovingPicture.{MovingPicture}
use Rattle.charlotte_packets.specs.declared.picture.PictureWhat.{PictureWhat}
use Rattle.charlotte_packets.specs.declared.picture.PictureWhat.TheVariants as packet
use Rattle.end_table.proofs.EndEq.{end_eq-refl}
use Rattle.end_table.specs.Place.{end_eq}
use Rattle.end_table.specs.Table.{IsHereAnd, IsIdle}
use Rattle.end_table.specs.declared.entry.Entry.{Entry}
use Rattle.end_table.specs.declared.entry.Entry.TheVariants as entry
use Rattle.end_table.specs.declared.entry.HereView.{HereView}
use Rattle.end_table.specs.declared.entry.Holder.TheVariants as holder
use Rattle.end_table.specs.declared.entry.Inward.{Inward as KernelInward}
use Rattle.end_table.specs.declared.entry.Inward.TheVariants as kernel_inward
use Rattle.end_table.specs.declared.entry.Outward.TheVariants as kernel_outward
use Rattle.kernel_step.specs.Actions.{is_withdrawing}
use Rattle.service_step.specs.Ends.{is_living, is_made, is_started_inward}
use Rattle.service_step.specs.State.{State}
use Rattle.service_step.specs.declared.state.Inward.{Inward}
use Rattle.service_step.specs.declared.state.Inward.TheVariants as inward
use Rattle.service_step.specs.declared.state.Outward.{Outward}
use Rattle.service_step.specs.declared.state.Outward.TheVariants as outward
use Rattle.service_step.specs.declared.state.Phase.TheVariants as phase
use Rattle.service_step.specs.declared.state.Place.{Place}
use Rattle.service_step.specs.declared.state.Place.TheVariants as place
use Rattle.theorem_meaning.specs.Fields.{Stand, HasFields, IsAskedAs, IsAsking, IsUnwantOf}
use Rattle.theorem_meaning.specs.Invariant.{AreRight, IsFew, is_taken_of}
use Rattle.theorem_meaning.specs.Packets.{IsTakenOf, Links, one_if}
use Rattle.theorem_meaning.specs.StandsFor.{IsInwardOf, IsOutwardOf}

-- ---- entries

-- the view of an end that is here
pub there-here : (x : Entry) (P : HereView → Type 0) → IsHereAnd x P → (v : HereView) × (x ≡ entry.Here v) × P v
there-here (entry.Here v) P has = (v, refl, has)
there-here _ P has = absurd has

pub view-same : (x y : HereView) → entry.Here x ≡ entry.Here y → x ≡ y
view-same x y is = cc

-- an end whose receive is started is not idle
pub asked-busy : (n : ℕ) (v : HereView) → IsIdle v → IsAskedAs n v.inward → ⊥
asked-busy n v idle asked = subst (IsAskedAs n) idle.inward asked

pub withdrawing-so : (x : KernelInward) → is_withdrawing x ≡ true → (r : ℕ) × (x ≡ kernel_inward.Withdrawing r)
withdrawing-so (kernel_inward.Withdrawing r) is = (r, refl)
withdrawing-so kernel_inward.Idle is = absurd (true≢false (sym is))
withdrawing-so (kernel_inward.Posted r) is = absurd (true≢false (sym is))
withdrawing-so kernel_inward.Unreported is = absurd (true≢false (sym is))

-- ---- owners and places

pub owner-same : (p q : Pid) → place.Owned p ≡ place.Owned q → p ≡ q
owner-same p q is = cc

pub holder-same : (p q : Pid) → holder.Owner p ≡ holder.Owner q → p ≡ q
holder-same p q is = cc

pub cancelling-same : (e f : EndId) → phase.Cancelling e ≡ phase.Cancelling f → e ≡ f
cancelling-same e f is = cc

-- an end of a made link that does not live is destroyed
pub destroyed-so : (x : Place) → is_made x ≡ true → is_living x ≡ false → x ≡ place.Destroyed
destroyed-so (place.Owned p) made dead = absurd (true≢false dead)
destroyed-so (place.InMessage f n) made dead = absurd (true≢false dead)
destroyed-so place.Destroyed made dead = refl
destroyed-so place.Unmade made dead = absurd (true≢false (sym made))

-- ---- sends and receives, at a kernel and in the service

-- a send that waits does so in the service
pub waiting-so : (w : Links) (e : EndId) (m n : ℕ) (bytes : List ℕ) (xs : List EndId) (o : Outward) → IsOutwardOf w e m (kernel_outward.Waiting n bytes xs) o → (n ≡ m) × (o ≡ outward.Waiting (record { bytes = bytes; carried = xs }))
waiting-so w e m n bytes xs (outward.Waiting message) is = (is.0, ap outward.Waiting is.1)
waiting-so w e m n bytes xs _ is = absurd is

-- of a receive that is not started, packets say nothing
pub unstarted-inward : (w x : Links) (e : EndId) (at : KernelInward) (i : Inward) → is_started_inward i ≡ false → IsInwardOf w e at i → IsInwardOf x e at i
unstarted-inward w x e at inward.Posted over is = absurd (true≢false over)
unstarted-inward w x e at inward.Withdrawn over is = absurd (true≢false over)
unstarted-inward w x e at (inward.Matched n) over is = absurd (true≢false over)
unstarted-inward w x e kernel_inward.Idle inward.Idle over is = is
unstarted-inward w x e (kernel_inward.Posted v) inward.Idle over is = absurd is
unstarted-inward w x e (kernel_inward.Withdrawing v) inward.Idle over is = absurd is
unstarted-inward w x e kernel_inward.Unreported inward.Idle over is = absurd is
unstarted-inward w x e kernel_inward.Idle inward.Unreported over is = absurd is
unstarted-inward w x e (kernel_inward.Posted v) inward.Unreported over is = absurd is
unstarted-inward w x e (kernel_inward.Withdrawing v) inward.Unreported over is = absurd is
unstarted-inward w x e kernel_inward.Unreported inward.Unreported over is = is

-- ---- packets

pub taken-passes : (f : EndId) (n : ℕ) (q : PictureWhat) → IsTakenOf f n q → is_taken_of f q ≡ true
taken-passes f n (packet.Taken to m at hops) is = subst (λ z. end_eq f z ≡ true) (sym is.0) (end_eq-refl f)
taken-passes f n _ is = absurd is

-- a packet that takes a receive back asks of it
pub unwant-asks : (t : EndId) (n : ℕ) (q : PictureWhat) → IsUnwantOf t n q → (j : ℕ) × (h : ℕ) × IsAsking t n j h q
unwant-asks t n (packet.Unwant to w at hops) is = (at, hops, (is.0, is.1, refl, refl))
unwant-asks t n _ is = absurd is

-- ---- lists and numbers

-- a list in which nothing stands
pub none-in : {X : Type 0} (xs : List X) → ((x : X) → Contains xs x → ⊥) → xs ≡ []
none-in [] none = refl
none-in (x ∷ xs) none = absurd (none x (0, omega arith, refl))

-- a number of a list
pub got : (xs : List ℕ) (k : ℕ) → k < length xs → slice_get xs k ≡ Some (slice_index xs k)
got [] k below = absurd (omega arith)
got (x ∷ xs) zero below = refl
got (x ∷ xs) (suc k) below = got xs k (omega arith)

pub at_most_one : (b : Bool) → one_if b ≤ 1
at_most_one true = omega arith
at_most_one false = omega arith

-- ---- all clauses

-- they hold with another bound where that bounds the numbers too
pub right-few : {i : ℕ} {w : Links} {s : State} → AreRight i w s → (j : ℕ) → ((e : EndId) (at : Stand) (m : MovingPicture) → HasFields w e at m → IsFew j m) → AreRight j w s
right-few r j few =
    record {
      named = r.named;
      few = few;
      marked = r.marked;
      counted = r.counted;
      honest = r.honest;
      asked = r.asked;
      cancelling = r.cancelling;
      served = r.served;
      wanted = r.wanted;
      unwanted = r.unwanted;
      once = r.once;
      packets = r.packets;
    }
