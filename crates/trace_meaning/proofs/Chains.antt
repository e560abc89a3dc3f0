-- Chains: longer ones, and those from fewer hops.
use Rattle.std.proofs.Common.{◌≡◌, ℕ, zero, suc, ◌<◌, ◌≤◌, inl, inr, sym, subst, arith}
use Rattle.charlotte_calls.specs.declared.names.EndId.{EndId}
use Rattle.charlotte_packets.specs.declared.picture.MovingPicture.{MovingPicture}
use Rattle.end_table.specs.declared.entry.Entry.{Entry}
use Rattle.end_table.specs.declared.entry.Entry.TheVariants as entry
use Rattle.end_table.specs.declared.entry.HereView.{HereView}
use Rattle.theorem_meaning.specs.Packets.{Links}
use Rattle.theorem_meaning.specs.StandsFor.{entry_at}
use Rattle.trace_meaning.specs.Words.{HasChain, IsChain, IsFlying, LeadsOn}

module _ (w : Links) (e : EndId) where
  -- the ends of a chain, and its links

  pub chain-here : (k h : ℕ) (v : HereView) → entry_at w k e ≡ entry.Here v → h ≤ v.value.hops → HasChain w e k h
  chain-here k h v is le = (1, subst (LeadsOn w e k (IsChain 0 w e) h) (sym is) le)

  pub chain-mark : (k h : ℕ) (m : MovingPicture) → entry_at w k e ≡ entry.Destroyed m → h ≤ m.hops → HasChain w e k h
  chain-mark k h m is le = (1, subst (LeadsOn w e k (IsChain 0 w e) h) (sym is) le)

  pub chain-flying : (k h to g : ℕ) → entry_at w k e ≡ entry.Left to g → h < g → IsFlying (w.packets k to) e (λ i. i ≡ g) → HasChain w e k h
  chain-flying k h to g is lt flies = (1, subst (LeadsOn w e k (IsChain 0 w e) h) (sym is) (lt, inl flies))

  pub chain-on : (k h to g : ℕ) → entry_at w k e ≡ entry.Left to g → h < g → HasChain w e to g → HasChain w e k h
  chain-on k h to g is lt on = (suc on.0, subst (LeadsOn w e k (IsChain on.0 w e) h) (sym is) (lt, inr on.1))

  -- from fewer hops

  fewer-at : (k h i : ℕ) (next : ℕ → ℕ → Type 0) (x : Entry) → i ≤ h → LeadsOn w e k next h x → LeadsOn w e k next i x
  fewer-at k h i next entry.Nothing le is = is
  fewer-at k h i next (entry.Here v) le is = let more : h ≤ v.value.hops = is in omega arith
  fewer-at k h i next (entry.Left to g) le is = (let more : h < g = is.0 in omega arith, is.1)
  fewer-at k h i next (entry.Destroyed m) le is = let more : h ≤ m.hops = is in omega arith

  pub chain-fewer : (k h i : ℕ) → i ≤ h → HasChain w e k h → HasChain w e k i
  chain-fewer k h i le (zero, is) = absurd is
  chain-fewer k h i le (suc most, is) = (suc most, fewer-at k h i (IsChain most w e) (entry_at w k e) le is)
