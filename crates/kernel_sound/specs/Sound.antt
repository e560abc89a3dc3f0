-- What is true of the table of every kernel: who holds each end, what a waiting message encloses, and which links are made.
use Rattle.std.specs.Prelude.{◌≡◌, ℕ, ◌<◌, ◌≤◌, false, List, [], ◌∷◌}
use Rattle.std.specs.List.{list_any}
use Rattle.charlotte_calls.specs.declared.names.EndId.{EndId}
use Rattle.charlotte_calls.specs.declared.names.Pid.{Pid}
use Rattle.charlotte_packets.specs.declared.picture.PictureWhat.{PictureWhat}
use Rattle.charlotte_packets.specs.declared.picture.PictureWhat.TheVariants as packet
use Rattle.end_table.specs.Place.{end_eq}
use Rattle.end_table.specs.Table.{IsHere, IsHereAnd, IfHere, IsIdle, IsOfEnd}
use Rattle.end_table.specs.declared.entry.Entry.{Entry}
use Rattle.end_table.specs.declared.entry.HereView.{HereView}
use Rattle.end_table.specs.declared.entry.Holder.{Holder}
use Rattle.end_table.specs.declared.entry.Holder.TheVariants as holder
use Rattle.kernel_step.specs.Actions.{enclosed_of}

-- each of these ends is here and idle, and held by the send of e; no two are the same
abbrev pub AreHeldBy : EndId → (EndId → Entry) → List EndId → Type 0
AreHeldBy e t [] = Unit {0}
AreHeldBy e t (x ∷ xs) =
    IsHereAnd (t x) (λ u. IsIdle u × (u.holder ≡ holder.EnclosedIn e)) × (list_any (end_eq x) xs ≡ false) × AreHeldBy e t xs

-- an owner is one of the first n processes, and an end that is enclosed is idle
abbrev pub IsHeldWell : ℕ → HereView → Holder → Type 0
IsHeldWell n v (holder.Owner p) = p.0 < n
IsHeldWell n v (holder.EnclosedIn on) = IsIdle v

-- what kernel k, which has made so many links, keeps of ends for n processes
pub record IsSound (k made n : ℕ) (t : EndId → Entry) : Type 0 where
  pub own : (e : EndId) → IsOfEnd e (t e)
  pub held : (e : EndId) → IfHere (t e) (λ v. IsHeldWell n v v.holder)
  pub enclosed : (e : EndId) → IfHere (t e) (λ v. AreHeldBy e t (enclosed_of v.outward))
  -- an end of a link that this kernel has not made yet is not here
  pub unmade : (e : EndId) → e.link.maker ≡ k → made ≤ e.link.count → IsHere (t e) → ⊥

-- each of these is for one of the first n processes
abbrev pub AreFor : {X : Type 0} → ℕ → List (Pid × X) → Type 0
AreFor n [] = Unit {0}
AreFor n (x ∷ xs) = (x.0.0 < n) × AreFor n xs

-- the end that a packet is addressed to
abbrev pub addressee : PictureWhat → EndId
addressee (packet.Want to w at hops) = to
addressee (packet.Unwant to w at hops) = to
addressee (packet.Unwanted to w at hops) = to
addressee (packet.Parcel to n w at hops bytes ms) = to
addressee (packet.Taken to n at hops) = to
addressee (packet.Back to n ms) = to
addressee (packet.Gone to at) = to
addressee (packet.Moved to at hops) = to
addressee (packet.Known to hops) = to
addressee (packet.Forget to hops) = to
addressee (packet.GoneSeen to) = to
