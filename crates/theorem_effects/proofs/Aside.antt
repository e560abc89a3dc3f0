-- An event that passes an end by leaves what is true of it: packets, entries and fields, what was heard and asked of it.
use Rattle.std.proofs.Common.{◌≡◌, ◌≢◌, ◌⊎◌, ◌↔◌, inl, inr, ℕ, true, false, nat_eq, List, [], ◌∷◌, Contains, IfSome, sym, ap, subst, ◌∙◌, true≢false}
use Rattle.std.proofs.lemmas.Bool.Decides.{eqb_tells}
use Rattle.std.specs.List.{list_any}
use Rattle.charlotte_calls.specs.Names.{opposite}
use Rattle.charlotte_calls.specs.declared.names.EndId.{EndId}
use Rattle.charlotte_packets.specs.declared.picture.MovingPicture.{MovingPicture}
use Rattle.charlotte_packets.specs.declared.picture.PictureWhat.{PictureWhat}
use Rattle.end_table.proofs.EndEq.{end_eq-refl}
use Rattle.end_table.specs.Place.{end_eq}
use Rattle.end_table.specs.Table.{IsHereAnd}
use Rattle.end_table.specs.declared.entry.Holder.TheVariants as holder
use Rattle.kernel_sound.specs.Sound.{addressee}
use Rattle.kernel_step.proofs.EnclosedEnds.{first_false, second_false}
use Rattle.kernel_step.specs.Rows.{ends_in}
use Rattle.theorem_meaning.specs.Fields.{Stand, At, Flying, HasFields, IsHeard, IsNews, IsAsking, IsUnserved, value_of}
use Rattle.theorem_meaning.specs.Packets.{Links, IsUnderWay, IsParcelOf, IsBackOf, values_of}
use Rattle.theorem_meaning.specs.StandsFor.{IsInMessage, IsWaitingWith}
use Rattle.theorem_effects.specs.Aside.{IsAside, IsKept, IsUnaddressed, IsUnbrought}
use Rattle.theorem_effects.specs.Change.{Change, Changes}
use Rattle.theorem_effects.specs.Sums.{AllSent}
use Rattle.theorem_effects.specs.Under.{IsTaken, IsSent}
use Rattle.theorem_effects.proofs.Addressees.{asking-to, news-to}
use Rattle.theorem_effects.proofs.Lists.{none-there, first_or_later, later, first}
use Rattle.theorem_effects.proofs.Packets.{under_way-was, under_way-still}

-- ---- packets that are sent or taken, and ends among others

-- what is true of each packet that is sent is true of one that was
pub sent-each : (P : ℕ → PictureWhat → Type 0) (ps : List (ℕ × PictureWhat)) (to : ℕ) (what : PictureWhat) → AllSent P ps → Contains ps (to, what) → P to what
sent-each P [] to what all has = absurd (none-there (to, what) has)
sent-each P (p ∷ ps) to what all has = by (λ there. sent-each P ps to what all.1 there) (first_or_later p ps (to, what) has)
  where
    by : (Contains ps (to, what) → P to what) → (p ≡ (to, what)) ⊎ Contains ps (to, what) → P to what
    by rest (inl is) = subst (λ (s : ℕ × PictureWhat). P s.0 s.1) is all.0
    by rest (inr there) = rest there

-- so no packet of a kind was sent where none that was sent is one
pub none-sent : (c : Change) (P : PictureWhat → Type 0) → AllSent (λ to what. P what → ⊥) c.packets → IsSent c P → ⊥
none-sent c P none x = sent-each (λ to what. P what → ⊥) c.packets x.to x.what none x.there x.is

pub none-taken : (c : Change) (P : PictureWhat → Type 0) → IfSome c.taken (λ t. P t.1.what → ⊥) → IsTaken c P → ⊥
none-taken c P none x = subst (λ t. IfSome t (λ t. P t.1.what → ⊥)) x.taken none x.is

-- an end that is none of these
pub not_among : (e : EndId) (xs : List EndId) → list_any (end_eq e) xs ≡ false → Contains xs e → ⊥
not_among e [] none has = none-there e has
not_among e (x ∷ xs) none has = by (not_among e xs (second_false _ _ none)) (first_or_later x xs e has)
  where
    by : (Contains xs e → ⊥) → (x ≡ e) ⊎ Contains xs e → ⊥
    by rest (inl is) = true≢false (sym (end_eq-refl e) ∙ subst (λ z. end_eq e z ≡ false) is (first_false _ _ none))
    by rest (inr there) = rest there

-- the end of a value is one of the ends of the values
pub ends_in-there : (ms : List MovingPicture) (m : MovingPicture) → Contains ms m → Contains (ends_in ms) m.end
ends_in-there [] m has = absurd (none-there m has)
ends_in-there (x ∷ xs) m has = by (ends_in-there xs m) (first_or_later x xs m has)
  where
    by : (Contains xs m → Contains (ends_in xs) m.end) → (x ≡ m) ⊎ Contains xs m → Contains (x.end ∷ ends_in xs) m.end
    by rest (inl is) = subst (λ (z : MovingPicture). Contains (x.end ∷ ends_in xs) z.end) is (first x.end (ends_in xs))
    by rest (inr there) = later x.end (ends_in xs) m.end (rest there)

module _ {w u : Links} {c : Change} (b : Changes w c u) (e : EndId) where
  -- ---- packets

  -- a packet of a kind that is addressed to the end is under way as before
  pub addressed-same : IsUnaddressed c e → (P : PictureWhat → Type 0) → ((q : PictureWhat) → P q → addressee q ≡ e) → IsUnderWay u P ↔ IsUnderWay w P
  addressed-same a P to = (under_way-was b P not_sent, under_way-still b P not_taken)
    where
      other : (q : PictureWhat) → end_eq e (addressee q) ≡ false → P q → ⊥
      other q apart is = true≢false (sym (end_eq-refl e) ∙ subst (λ z. end_eq e z ≡ false) (to q is) apart)

      not_sent : IsSent c P → ⊥
      not_sent x = other x.what (sent-each (λ to what. end_eq e (addressee what) ≡ false) c.packets x.to x.what a.sent x.there) x.is

      not_taken : IsTaken c P → ⊥
      not_taken x = other x.packet.what (subst (λ t. IfSome t (λ t. end_eq e (addressee t.1.what) ≡ false)) x.taken a.taken) x.is

  -- so is one of a kind that brings the end
  pub brought-same : IsUnbrought c e → (P : PictureWhat → Type 0) → ((q : PictureWhat) → P q → Contains (ends_in (values_of q)) e) → IsUnderWay u P ↔ IsUnderWay w P
  brought-same a P brings = (under_way-was b P not_sent, under_way-still b P not_taken)
    where
      not_sent : IsSent c P → ⊥
      not_sent x =
          not_among e (ends_in (values_of x.what)) (sent-each (λ to what. list_any (end_eq e) (ends_in (values_of what)) ≡ false) c.packets x.to x.what a.sent x.there)
          (brings x.what x.is)

      not_taken : IsTaken c P → ⊥
      not_taken x =
          not_among e (ends_in (values_of x.packet.what)) (subst (λ t. IfSome t (λ t. list_any (end_eq e) (ends_in (values_of t.1.what)) ≡ false)) x.taken a.taken)
          (brings x.packet.what x.is)

  -- ---- entries and fields

  -- the entry of the end at each kernel
  pub entry-same : IsKept w c e → (j : ℕ) → u.entry j e ≡ w.entry j e
  entry-same kept j = by (eqb_tells j c.kernel)
    where
      by : ((nat_eq j c.kernel ≡ true) × (j ≡ c.kernel)) ⊎ ((nat_eq j c.kernel ≡ false) × (j ≢ c.kernel)) → u.entry j e ≡ w.entry j e
      by (inl is) = subst (λ k. u.entry k e ≡ w.entry k e) (sym is.1) (b.entry e ∙ kept)
      by (inr is) = b.others j e is.0

  pub fields-same : IsKept w c e → IsUnbrought c e → (at : Stand) (m : MovingPicture) → HasFields u e at m ↔ HasFields w e at m
  fields-same kept a (At k) m = (λ has. ap value_of (sym (entry-same kept k)) ∙ has, λ has. ap value_of (entry-same kept k) ∙ has)
  fields-same kept a Flying m = (λ has. ((flying has.1).0 has.0, has.1), λ has. ((flying has.1).1 has.0, has.1))
    where
      flying : m.end ≡ e → IsUnderWay u (λ q. Contains (values_of q) m) ↔ IsUnderWay w (λ q. Contains (values_of q) m)
      flying of = brought-same a (λ q. Contains (values_of q) m) (λ q has. subst (Contains (ends_in (values_of q))) of (ends_in-there (values_of q) m has))

  -- ---- what is asked of the end, and of which message it is

  pub unserved-same : IsUnaddressed c e → (m : MovingPicture) (n j h : ℕ) → IsUnserved u e m n j h ↔ IsUnserved w e m n j h
  unserved-same a m n j h = (was, still)
    where
      asked : IsUnderWay u (IsAsking e n j h) ↔ IsUnderWay w (IsAsking e n j h)
      asked = addressed-same a (IsAsking e n j h) (asking-to e n j h)

      was : IsUnserved u e m n j h → IsUnserved w e m n j h
      was (inl kept) = inl kept
      was (inr has) = inr (has.0, asked.0 has.1)

      still : IsUnserved w e m n j h → IsUnserved u e m n j h
      still (inl kept) = inl kept
      still (inr has) = inr (has.0, asked.1 has.1)

  -- where the entry of f stays too
  pub in_message-same : IsKept w c e → IsUnbrought c e → (f : EndId) (n : ℕ) → ((j : ℕ) → u.entry j f ≡ w.entry j f) → IsInMessage u e f n ↔ IsInMessage w e f n
  in_message-same kept a f n same = (was, still)
    where
      parcel : IsUnderWay u (λ q. IsParcelOf f n q × Contains (ends_in (values_of q)) e) ↔ IsUnderWay w (λ q. IsParcelOf f n q × Contains (ends_in (values_of q)) e)
      parcel = brought-same a (λ q. IsParcelOf f n q × Contains (ends_in (values_of q)) e) (λ q has. has.1)

      back : IsUnderWay u (λ q. IsBackOf f n q × Contains (ends_in (values_of q)) e) ↔ IsUnderWay w (λ q. IsBackOf f n q × Contains (ends_in (values_of q)) e)
      back = brought-same a (λ q. IsBackOf f n q × Contains (ends_in (values_of q)) e) (λ q has. has.1)

      was : IsInMessage u e f n → IsInMessage w e f n
      was (inl x) =
          inl (record {
            at = x.at;
            enclosed = subst (λ y. IsHereAnd y (λ v. v.holder ≡ holder.EnclosedIn f)) (entry-same kept x.at) x.enclosed;
            waiting = subst (λ y. IsHereAnd y (λ v. IsWaitingWith n v.outward)) (same x.at) x.waiting;
          })
      was (inr (inl x)) = inr (inl (parcel.0 x))
      was (inr (inr x)) = inr (inr (back.0 x))

      still : IsInMessage w e f n → IsInMessage u e f n
      still (inl x) =
          inl (record {
            at = x.at;
            enclosed = subst (λ y. IsHereAnd y (λ v. v.holder ≡ holder.EnclosedIn f)) (sym (entry-same kept x.at)) x.enclosed;
            waiting = subst (λ y. IsHereAnd y (λ v. IsWaitingWith n v.outward)) (sym (same x.at)) x.waiting;
          })
      still (inr (inl x)) = inr (inl (parcel.1 x))
      still (inr (inr x)) = inr (inr (back.1 x))

-- ---- what was heard of an end: its opposite is passed by

pub heard-same : {w u : Links} {c : Change} → Changes w c u → (e : EndId) → IsAside w c (opposite e) → (j h : ℕ) → IsHeard u e j h ↔ IsHeard w e j h
heard-same {w} {u} {c} b e a j h = (was, still)
  where
    news : IsUnderWay u (IsNews (opposite e) j h) ↔ IsUnderWay w (IsNews (opposite e) j h)
    news = addressed-same b (opposite e) a.addressed (IsNews (opposite e) j h) (news-to (opposite e) j h)

    was : IsHeard u e j h → IsHeard w e j h
    was (inl x) = inl (record { stand = x.stand; fields = x.fields; are = (fields-same b (opposite e) a.kept a.brought x.stand x.fields).0 x.are; hint = x.hint })
    was (inr x) = inr (news.0 x)

    still : IsHeard w e j h → IsHeard u e j h
    still (inl x) = inl (record { stand = x.stand; fields = x.fields; are = (fields-same b (opposite e) a.kept a.brought x.stand x.fields).1 x.are; hint = x.hint })
    still (inr x) = inr (news.1 x)
