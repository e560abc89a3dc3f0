-- An event that replaces the view of one end at its kernel and sends one packet, which carries no values: which packets are under way then,
-- which entries there are, and where ends are.
use Rattle.std.proofs.Common.{◌≡◌, ◌≢◌, ◌⊎◌, ◌↔◌, inl, inr, ℕ, Bool, true, false, nat_eq, if◌then◌else◌, IfSome, None, [], ◌∷◌, Contains, refl, sym, ap, subst, ◌∙◌, arith}
use Rattle.std.proofs.lemmas.Bool.Decides.{eqb_tells}
use Rattle.charlotte_calls.specs.declared.names.EndId.{EndId}
use Rattle.charlotte_packets.specs.declared.picture.PictureWhat.{PictureWhat}
use Rattle.end_table.proofs.EndEq.{end_eq-refl, end_eq-same}
use Rattle.end_table.specs.Place.{end_eq}
use Rattle.end_table.specs.Table.{IsHereAnd}
use Rattle.end_table.specs.declared.entry.Entry.TheVariants as entry
use Rattle.end_table.specs.declared.entry.HereView.{HereView}
use Rattle.end_table.specs.declared.entry.Holder.{Holder}
use Rattle.end_table.specs.declared.entry.Holder.TheVariants as holder
use Rattle.kernel_step.specs.Rows.{ends_in, is_here}
use Rattle.theorem_take_silent.proofs.Aside.{none-taken}
use Rattle.theorem_take_silent.proofs.Lists.{only-there}
use Rattle.theorem_take_silent.proofs.Packets.{left-was, under_way-after, under_way-still}
use Rattle.theorem_take_silent.proofs.Sums.{sum_over-same}
use Rattle.theorem_take_silent.specs.Change.{Change, Changes}
use Rattle.theorem_take_silent.specs.Sums.{AllSent}
use Rattle.theorem_take_silent.specs.Under.{IsLeft, IsSent}
use Rattle.theorem_meaning.proofs.Sums.{over-same}
use Rattle.theorem_meaning.specs.Packets.{IsBackOf, IsParcelOf, IsUnderWay, Links, one_if, over_kernels, sum_over, values_for, values_of}
use Rattle.theorem_meaning.specs.StandsFor.{IsInMessage, IsWaitingWith, entry_at, standing}

-- the view v of an end becomes this one, with the same holder and the same send, and this packet is sent
pub record IsOneView (l : Links) (c : Change) (u : Links) (v new : HereView) (to : ℕ) (what : PictureWhat) : Type 0 where
  pub changes : Changes l c u
  pub here : l.entry c.kernel v.value.end ≡ entry.Here v
  pub entries : (f : EndId) → u.entry c.kernel f ≡ (if end_eq v.value.end f then entry.Here new else l.entry c.kernel f)
  pub holder : new.holder ≡ v.holder
  pub outward : new.outward ≡ v.outward
  pub untaken : c.taken ≡ None
  pub sent : c.packets ≡ (to, what) ∷ []
  pub bare : values_of what ≡ []
  pub other : (f : EndId) (m : ℕ) → (IsParcelOf f m what → ⊥) × (IsBackOf f m what → ⊥)

module _ {l u : Links} {c : Change} {v new : HereView} {to : ℕ} {what : PictureWhat} (x : IsOneView l c u v new to what) where
  abbrev k : ℕ
  k = c.kernel

  abbrev e : EndId
  e = v.value.end

  -- ---- packets

  -- a packet that is under way afterwards was so before, or is the one that is sent
  pub packet-or : (P : PictureWhat → Type 0) → IsUnderWay u P → IsUnderWay l P ⊎ P what
  packet-or P is = by (under_way-after x.changes P is)
    where
      by : IsLeft x.changes P ⊎ IsSent c P → IsUnderWay l P ⊎ P what
      by (inl left) = inl (left-was x.changes P left)
      by (inr sent) = inr (subst (λ (z : ℕ × PictureWhat). P z.1) (sym (only-there (to, what) (sent.to, sent.what) (subst (λ ps. Contains ps (sent.to, sent.what)) x.sent sent.there))) sent.is)

  pub packet-still : (P : PictureWhat → Type 0) → IsUnderWay l P → IsUnderWay u P
  packet-still P is = under_way-still x.changes P (none-taken c P (subst (λ o. IfSome o (λ t. P t.1.what → ⊥)) (sym x.untaken) tt)) is

  pub packet-same : (P : PictureWhat → Type 0) → (P what → ⊥) → IsUnderWay u P ↔ IsUnderWay l P
  packet-same P none = (λ is. by (packet-or P is), packet-still P)
    where
      by : IsUnderWay l P ⊎ P what → IsUnderWay l P
      by (inl was) = was
      by (inr is) = absurd (none is)

  -- ---- entries

  pub now-here : u.entry k e ≡ entry.Here new
  now-here = x.entries e ∙ ap (λ b. if b then entry.Here new else l.entry k e) (end_eq-refl e)

  pub other-entry : (j : ℕ) (f : EndId) → end_eq e f ≡ false → u.entry j f ≡ l.entry j f
  other-entry j f apart = by (eqb_tells j k)
    where
      by : ((nat_eq j k ≡ true) × (j ≡ k)) ⊎ ((nat_eq j k ≡ false) × (j ≢ k)) → u.entry j f ≡ l.entry j f
      by (inl at) = subst (λ z. u.entry z f ≡ l.entry z f) (sym at.1) (x.entries f ∙ ap (λ b. if b then entry.Here new else l.entry k f) apart)
      by (inr at) = x.changes.others j f at.0

  -- this is the entry of the end
  pub record IsIts (j : ℕ) (f : EndId) : Type 0 where
    pub at : j ≡ k
    pub end : e ≡ f
    pub was : l.entry j f ≡ entry.Here v
    pub now : u.entry j f ≡ entry.Here new

  pub entry-or : (j : ℕ) (f : EndId) → (u.entry j f ≡ l.entry j f) ⊎ IsIts j f
  entry-or j f = by (eqb_tells j k) (end_eq e f) refl
    where
      by : ((nat_eq j k ≡ true) × (j ≡ k)) ⊎ ((nat_eq j k ≡ false) × (j ≢ k)) → (b : Bool) → end_eq e f ≡ b → (u.entry j f ≡ l.entry j f) ⊎ IsIts j f
      by (inr at) b is = inl (x.changes.others j f at.0)
      by (inl at) false is = inl (other-entry j f is)
      by (inl at) true is =
          let same : e ≡ f = end_eq-same e f is in
          inr (record {
            at = at.1;
            end = same;
            was = ap (λ z. l.entry z f) at.1 ∙ ap (l.entry k) (sym same) ∙ x.here;
            now = ap (λ z. u.entry z f) at.1 ∙ ap (u.entry k) (sym same) ∙ now-here;
          })

  -- what is true of the view of an end that is here
  pub here-was : (j : ℕ) (f : EndId) (P : HereView → Type 0) → (P new → P v) → IsHereAnd (u.entry j f) P → IsHereAnd (l.entry j f) P
  here-was j f P back has = by (entry-or j f)
    where
      by : (u.entry j f ≡ l.entry j f) ⊎ IsIts j f → IsHereAnd (l.entry j f) P
      by (inl same) = subst (λ z. IsHereAnd z P) same has
      by (inr its) = subst (λ z. IsHereAnd z P) (sym its.was) (back (subst (λ z. IsHereAnd z P) its.now has))

  pub here-still : (j : ℕ) (f : EndId) (P : HereView → Type 0) → (P v → P new) → IsHereAnd (l.entry j f) P → IsHereAnd (u.entry j f) P
  here-still j f P on has = by (entry-or j f)
    where
      by : (u.entry j f ≡ l.entry j f) ⊎ IsIts j f → IsHereAnd (u.entry j f) P
      by (inl same) = subst (λ z. IsHereAnd z P) (sym same) has
      by (inr its) = subst (λ z. IsHereAnd z P) (sym its.now) (on (subst (λ z. IsHereAnd z P) its.was has))

  -- ---- where ends are

  is_here-same : (j : ℕ) (f : EndId) → is_here (u.entry j f) ≡ is_here (l.entry j f)
  is_here-same j f = by (entry-or j f)
    where
      by : (u.entry j f ≡ l.entry j f) ⊎ IsIts j f → is_here (u.entry j f) ≡ is_here (l.entry j f)
      by (inl same) = ap is_here same
      by (inr its) = ap is_here its.now ∙ sym (ap is_here its.was)

  pub standing-same : (f : EndId) → standing u f ≡ standing l f
  unfolding standing
  standing-same f =
      let here : over_kernels (λ j. one_if (is_here (u.entry j f))) ≡ over_kernels (λ j. one_if (is_here (l.entry j f)))
      = over-same (λ j. one_if (is_here (l.entry j f))) (λ j. one_if (is_here (u.entry j f))) (λ j. ap one_if (is_here-same j f)) in
      let values : sum_over (λ q. values_for f (values_of q)) u ≡ sum_over (λ q. values_for f (values_of q)) l
      = sum_over-same (λ q. values_for f (values_of q)) x.changes (subst (λ o. IfSome o (λ t. values_for f (values_of t.1.what) ≡ 0)) (sym x.untaken) tt)
      (subst (AllSent (λ to q. values_for f (values_of q) ≡ 0)) (sym x.sent) (ap (values_for f) x.bare, tt)) in
      omega (arith, here, values)

  pub held-same : (j : ℕ) (f : EndId) (h : Holder) → IsHereAnd (entry_at l j f) (λ v. v.holder ≡ h) ↔ IsHereAnd (entry_at u j f) (λ v. v.holder ≡ h)
  held-same j f h = (here-still j f (λ v. v.holder ≡ h) (λ is. x.holder ∙ is), here-was j f (λ v. v.holder ≡ h) (λ is. sym x.holder ∙ is))

  waiting-same : (j : ℕ) (f : EndId) (m : ℕ) → IsHereAnd (entry_at l j f) (λ v. IsWaitingWith m v.outward) ↔ IsHereAnd (entry_at u j f) (λ v. IsWaitingWith m v.outward)
  waiting-same j f m = (here-still j f (λ v. IsWaitingWith m v.outward) (subst (IsWaitingWith m) (sym x.outward)), here-was j f (λ v. IsWaitingWith m v.outward) (subst (IsWaitingWith m) x.outward))

  pub in_message-same : (f g : EndId) (m : ℕ) → IsInMessage l f g m ↔ IsInMessage u f g m
  in_message-same f g m = (still, was)
    where
      parcel : IsUnderWay u (λ q. IsParcelOf g m q × Contains (ends_in (values_of q)) f) ↔ IsUnderWay l (λ q. IsParcelOf g m q × Contains (ends_in (values_of q)) f)
      parcel = packet-same (λ q. IsParcelOf g m q × Contains (ends_in (values_of q)) f) (λ is. (x.other g m).0 is.0)

      back : IsUnderWay u (λ q. IsBackOf g m q × Contains (ends_in (values_of q)) f) ↔ IsUnderWay l (λ q. IsBackOf g m q × Contains (ends_in (values_of q)) f)
      back = packet-same (λ q. IsBackOf g m q × Contains (ends_in (values_of q)) f) (λ is. (x.other g m).1 is.0)

      still : IsInMessage l f g m → IsInMessage u f g m
      still (inl y) = inl (record { at = y.at; enclosed = (held-same y.at f (holder.EnclosedIn g)).0 y.enclosed; waiting = (waiting-same y.at g m).0 y.waiting })
      still (inr (inl y)) = inr (inl (parcel.1 y))
      still (inr (inr y)) = inr (inr (back.1 y))

      was : IsInMessage u f g m → IsInMessage l f g m
      was (inl y) = inl (record { at = y.at; enclosed = (held-same y.at f (holder.EnclosedIn g)).1 y.enclosed; waiting = (waiting-same y.at g m).1 y.waiting })
      was (inr (inl y)) = inr (inl (parcel.0 y))
      was (inr (inr y)) = inr (inr (back.0 y))
