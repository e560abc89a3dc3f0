-- What an event takes and sends; and an event that puts one entry, and leaves the others.
use Rattle.std.proofs.Common.{◌≡◌, ◌≢◌, ◌⊎◌, inl, inr, ℕ, Bool, true, false, nat_eq, if◌then◌else◌, IfSome, Some, None, List, [], map, refl, sym, ap, subst, ◌∙◌}
use Rattle.std.proofs.lemmas.Bool.Decides.{eqb_tells}
use Rattle.std.specs.List.{list_any}
use Rattle.charlotte_calls.specs.declared.names.EndId.{EndId}
use Rattle.charlotte_packets.specs.declared.picture.Picture.{Picture}
use Rattle.charlotte_packets.specs.declared.picture.PictureWhat.{PictureWhat}
use Rattle.end_table.proofs.EndEq.{end_eq-refl, end_eq-same}
use Rattle.end_table.specs.Place.{end_eq}
use Rattle.end_table.specs.declared.entry.Entry.{Entry}
use Rattle.theorem_effects.specs.Effect.{stamped}
use Rattle.kernel_step.specs.Rows.{ends_in}
use Rattle.kernel_world.specs.World.{to_kernel}
use Rattle.theorem_effects.proofs.Ends.{all_sent-weaker, taken-weaker}
use Rattle.theorem_effects.specs.Aside.{IsKept, IsUnbrought}
use Rattle.theorem_effects.specs.Change.{Change, Changes, sent_at, taken_at, taken_from}
use Rattle.theorem_effects.specs.Sums.{AllSent}
use Rattle.theorem_effects.specs.Under.{IsTaken}
use Rattle.theorem_effects.specs.Packets.{Links, values_of}
use Rattle.theorem_effects.specs.StandsFor.{entry_at}

first-same : (a b : ℕ × Picture) → Some a ≡ Some b → a ≡ b
first-same a b same = cc

pub is-taken : {c : Change} (from : ℕ) (q : Picture) → c.taken ≡ Some (from, q) → (P : PictureWhat → Type 0) → IsTaken c P → P q.what
is-taken {c} from q took P x = subst (λ (z : Picture). P z.what) (sym same) x.is
  where
    same : q ≡ x.packet
    same = ap (λ (z : ℕ × Picture). z.1) (first-same (from, q) (x.from, x.packet) (sym took ∙ x.taken))

-- an event that takes no packet, and one that sends none
abbrev empty : List Picture
empty = []

either-empty : (a : Bool) → (if a then empty else empty) ≡ empty
either-empty true = refl
either-empty false = refl

pub taken-none : (c : Change) → c.taken ≡ None → (from to : ℕ) → taken_at c from to ≡ []
taken-none c none from to = ap (λ t. if nat_eq to c.kernel then taken_from t from else empty) none ∙ either-empty (nat_eq to c.kernel)

pub sent-none : (c : Change) → c.packets ≡ [] → (from to : ℕ) → sent_at c from to ≡ []
sent-none c none from to = ap (λ ps. if nat_eq from c.kernel then to_kernel to (map (stamped c.stamp) ps) else empty) none ∙ either-empty (nat_eq from c.kernel)

-- an event that takes and sends no value brings no end
pub bare-unbrought : (c : Change) → IfSome c.taken (λ q. values_of q.1.what ≡ []) → AllSent (λ to what. values_of what ≡ []) c.packets → (e : EndId) → IsUnbrought c e
bare-unbrought c bare sent_bare e =
    record {
      taken = taken-weaker (λ what. values_of what ≡ []) (λ what. list_any (end_eq e) (ends_in (values_of what)) ≡ false) (λ what none. ap (λ ms. list_any (end_eq e) (ends_in ms)) none) c.taken bare;
      sent = all_sent-weaker (λ to what. values_of what ≡ []) (λ to what. list_any (end_eq e) (ends_in (values_of what)) ≡ false) (λ to what none. ap (λ ms. list_any (end_eq e) (ends_in ms)) none) c.packets sent_bare;
    }

-- end x had entry o at the kernel of the event, and gets y; all other entries stay
module _ {w u : Links} {c : Change} (b : Changes w c u) (x : EndId) (o y : Entry) (stood : entry_at w c.kernel x ≡ o) (puts : (e : EndId) → c.entry e (entry_at w c.kernel e) ≡ (if end_eq x e then y else entry_at w c.kernel e)) where
  pub put-or : (j : ℕ) (e : EndId) → (entry_at u j e ≡ entry_at w j e) ⊎ ((j ≡ c.kernel) × (x ≡ e))
  put-or j e = by (eqb_tells j c.kernel) (end_eq x e) refl
    where
      by : ((nat_eq j c.kernel ≡ true) × (j ≡ c.kernel)) ⊎ ((nat_eq j c.kernel ≡ false) × (j ≢ c.kernel)) → (a : Bool) → end_eq x e ≡ a → (entry_at u j e ≡ entry_at w j e) ⊎ ((j ≡ c.kernel) × (x ≡ e))
      by (inr off) a same = inl (b.others j e off.0)
      by (inl at) true same = inr (at.1, end_eq-same x e same)
      by (inl at) false same =
          inl (subst (λ z. entry_at u z e ≡ entry_at w z e) (sym at.1) (b.entry e ∙ puts e ∙ ap (λ a. if a then y else entry_at w c.kernel e) same))

  pub put-had : (j : ℕ) (e : EndId) → (j ≡ c.kernel) × (x ≡ e) → entry_at w j e ≡ o
  put-had j e its = ap (λ z. entry_at w z e) its.0 ∙ ap (entry_at w c.kernel) (sym its.1) ∙ stood

  pub put-has : (j : ℕ) (e : EndId) → (j ≡ c.kernel) × (x ≡ e) → entry_at u j e ≡ y
  put-has j e its =
      ap (λ z. entry_at u z e) its.0 ∙ ap (entry_at u c.kernel) (sym its.1) ∙ b.entry x ∙ puts x ∙ ap (λ a. if a then y else entry_at w c.kernel x) (end_eq-refl x)

  -- an entry that is not the one that went stays, and one that is not the one that came was there
  pub put-stays : (j : ℕ) (e : EndId) (z : Entry) → entry_at w j e ≡ z → (z ≡ o → ⊥) → entry_at u j e ≡ z
  put-stays j e z was unlike = by (put-or j e)
    where
      by : (entry_at u j e ≡ entry_at w j e) ⊎ ((j ≡ c.kernel) × (x ≡ e)) → entry_at u j e ≡ z
      by (inl same) = same ∙ was
      by (inr its) = absurd (unlike (sym was ∙ put-had j e its))

  pub put-was : (j : ℕ) (e : EndId) (z : Entry) → entry_at u j e ≡ z → (z ≡ y → ⊥) → entry_at w j e ≡ z
  put-was j e z now unlike = by (put-or j e)
    where
      by : (entry_at u j e ≡ entry_at w j e) ⊎ ((j ≡ c.kernel) × (x ≡ e)) → entry_at w j e ≡ z
      by (inl same) = sym same ∙ now
      by (inr its) = absurd (unlike (sym now ∙ put-has j e its))

  -- another end keeps its entries
  pub put-kept : (e : EndId) → end_eq x e ≡ false → IsKept w c e
  put-kept e apart = puts e ∙ ap (λ a. if a then y else entry_at w c.kernel e) apart
