-- Where ends are destroyed: packets, entries and fields before and afterwards, and the ends of the service.
use Rattle.std.proofs.Common.{◌≡◌, ◌≢◌, ◌⊎◌, ◌↔◌, inl, inr, ℕ, ◌+◌, ◌<◌, ◌≤◌, Bool, true, false, nat_eq, ◌&&◌, ◌||◌, if◌then◌else◌, List, [], ◌∷◌, Contains, IfSome, Some, refl, sym, ap, subst, ◌∙◌, arith, true≢false}
use Rattle.std.proofs.lemmas.Bool.Decides.{eqb_tells}
use Rattle.std.specs.List.{list_any}
use Rattle.charlotte_calls.specs.Names.{opposite}
use Rattle.charlotte_calls.specs.declared.names.EndId.{EndId}
use Rattle.charlotte_packets.specs.declared.picture.MovingPicture.{MovingPicture}
use Rattle.charlotte_packets.specs.declared.picture.PictureWhat.{PictureWhat}
use Rattle.charlotte_packets.specs.declared.picture.PictureWhat.TheVariants as packet
use Rattle.end_table.proofs.EndEq.{end_eq-refl}
use Rattle.end_table.specs.Entries.{ended_entry}
use Rattle.end_table.specs.Place.{end_eq}
use Rattle.end_table.specs.Table.{IsHereAnd}
use Rattle.end_table.specs.declared.entry.Entry.{Entry}
use Rattle.end_table.specs.declared.entry.Entry.TheVariants as entry
use Rattle.end_table.specs.declared.entry.HereView.{HereView}
use Rattle.kernel_step.specs.Rows.{ends_in, is_here}
use Rattle.service_change.proofs.EndEq.{among}
use Rattle.service_lawful.specs.Consistent.{is_open}
use Rattle.service_step.specs.Ends.{is_living, is_taken}
use Rattle.service_step.specs.State.{State, Process}
use Rattle.service_step.specs.declared.state.End.{End}
use Rattle.service_step.specs.declared.state.Place.{Place}
use Rattle.service_step.specs.declared.state.Place.TheVariants as place
use Rattle.theorem_take_silent.proofs.Alike.{some-same}
use Rattle.theorem_take_silent.proofs.Places.{fields-here, list-below}
use Rattle.theorem_take_silent.proofs.Allowed.{sum_over-least}
use Rattle.theorem_take_silent.proofs.Aside.{entry-same, fields-same, sent-each}
use Rattle.theorem_take_silent.proofs.Ends.{all_sent-weaker, taken-weaker}
use Rattle.theorem_take_silent.proofs.Lists.{first_or_later, none-there}
use Rattle.theorem_take_silent.proofs.Packets.{left-after, left-before, under_way-after, under_way-still, under_way-was}
use Rattle.theorem_take_silent.proofs.Sums.{standing-after}
use Rattle.theorem_take_silent.specs.Aside.{IsUnbrought}
use Rattle.theorem_take_silent.specs.Change.{Change, Changes}
use Rattle.theorem_take_silent.specs.Sums.{AllSent, IsWithin, sum_sent}
use Rattle.theorem_take_silent.specs.Under.{IsLeft, IsSent, IsTaken}
use Rattle.theorem_meaning.proofs.Ends.{eq-same}
use Rattle.theorem_meaning.specs.Fields.{Stand, At, Flying, HasFields, IsHeard, IsNews, IsNoMore, value_of}
use Rattle.theorem_meaning.specs.Invariant.{AreMarked, AreNamed}
use Rattle.theorem_meaning.specs.Packets.{IsUnderWay, Links, one_if, over_kernels, sum_over, values_for, values_of}
use Rattle.theorem_meaning.specs.StandsFor.{entry_at, standing}
use Rattle.theorem_ends_destroyed.specs.Ending.{Dropped, IsEnded, IsEnding, IsReturnOf, IsSendAfter, IsToldOf, Kept, Returned}

-- ---- tests

pub not-true : (b : Bool) → (b ≡ true → ⊥) → b ≡ false
not-true true never = absurd (never refl)
not-true false never = refl

pub true-or : (a b : Bool) → a ≡ true → (a || b) ≡ true
true-or true b is = refl
true-or false b is = absurd (true≢false (sym is))

pub or-true : (a b : Bool) → b ≡ true → (a || b) ≡ true
or-true true b is = refl
or-true false b is = is

-- kernels compare ends as the service does
pub among-same : (q : EndId) (xs : List EndId) → among q xs ≡ list_any (end_eq q) xs
among-same q xs = ap (λ f. list_any f xs) (λ i y. eq-same q y i)

-- ---- an entry after END

ended-away : (m : MovingPicture) → is_here (ended_entry m) ≡ false
ended-away m = by m.dead
  where
    by : (b : Bool) → is_here (if b then entry.Nothing else entry.Destroyed m) ≡ false
    by true = refl
    by false = refl

-- the mark that is left is the value of the end
ended-value : (m o : MovingPicture) → value_of (ended_entry m) ≡ Some o → m ≡ o
ended-value m o has = by m.dead has
  where
    by : (b : Bool) → value_of (if b then entry.Nothing else entry.Destroyed m) ≡ Some o → m ≡ o
    by true none = absurd cc
    by false is = some-same m o is

-- ---- sums and values

pub sent-nothing : (f : PictureWhat → ℕ) (ps : List (ℕ × PictureWhat)) → AllSent (λ to what. f what ≡ 0) ps → sum_sent f ps ≡ 0
sent-nothing f [] none = refl
sent-nothing f (p ∷ ps) none = let rest : sum_sent f ps ≡ 0 = sent-nothing f ps none.1 in omega (arith, none.0, rest)

-- an end of some values counts
pub values-counted : (e : EndId) (ms : List MovingPicture) → Contains (ends_in ms) e → 1 ≤ values_for e ms
values-counted e [] has = absurd (none-there e has)
values-counted e (m ∷ ms) has = by (first_or_later m.end (ends_in ms) e has) (values-counted e ms)
  where
    by : (m.end ≡ e) ⊎ Contains (ends_in ms) e → (Contains (ends_in ms) e → 1 ≤ values_for e ms) → 1 ≤ one_if (end_eq e m.end) + values_for e ms
    by (inl is) rest = let one : one_if (end_eq e m.end) ≡ 1 = ap one_if (ap (end_eq e) is ∙ end_eq-refl e) in omega (arith, one)
    by (inr later) rest = let least = rest later in omega (arith, least)

module _ {ended : EndId → Bool} {w u : Links} {c : Change} {s : State} {t : EndId → End} {g : ℕ → Process} (b : Changes w c u) (x : IsEnding ended w c s t g) where
  -- ---- packets

  not-sent : (P : PictureWhat → Type 0) → ((to : EndId) (at : ℕ) → P (packet.Gone to at) → ⊥) → IsSent c P → ⊥
  not-sent P none y = by y.what (sent-each (λ to what. IsToldOf ended what) c.packets y.to y.what x.sent y.there) y.is
    where
      by : (q : PictureWhat) → IsToldOf ended q → P q → ⊥
      by (packet.Gone to at) tells is = none to at is
      by _ tells is = absurd tells

  not-taken : (P : PictureWhat → Type 0) → ((f : EndId) (n : ℕ) (ms : List MovingPicture) → P (packet.Back f n ms) → ⊥) → IsTaken c P → ⊥
  not-taken P none y = by y.packet.what (subst (λ z. IfSome z (λ z. IsReturnOf ended z.1.what)) y.taken x.taken) y.is
    where
      by : (q : PictureWhat) → IsReturnOf ended q → P q → ⊥
      by (packet.Back f n ms) brings is = none f n ms is
      by _ brings is = absurd brings

  -- a packet that is under way, and no gone, was so before
  pub packet-was : (P : PictureWhat → Type 0) → ((to : EndId) (at : ℕ) → P (packet.Gone to at) → ⊥) → IsUnderWay u P → IsUnderWay w P
  packet-was P none = under_way-was b P (not-sent P none)

  -- and no back, is so still
  pub packet-still : (P : PictureWhat → Type 0) → ((f : EndId) (n : ℕ) (ms : List MovingPicture) → P (packet.Back f n ms) → ⊥) → IsUnderWay w P → IsUnderWay u P
  packet-still P none = under_way-still b P (not-taken P none)

  pub packet-same : (P : PictureWhat → Type 0) → ((to : EndId) (at : ℕ) → P (packet.Gone to at) → ⊥) → ((f : EndId) (n : ℕ) (ms : List MovingPicture) → P (packet.Back f n ms) → ⊥) → IsUnderWay u P ↔ IsUnderWay w P
  packet-same P sent taken = (packet-was P sent, packet-still P taken)

  -- what a test of packets counts for that passes no gone
  pub sent-none : (f : PictureWhat → ℕ) → ((to : EndId) (at : ℕ) → f (packet.Gone to at) ≡ 0) → AllSent (λ to what. f what ≡ 0) c.packets
  sent-none f none = all_sent-weaker (λ to what. IsToldOf ended what) (λ to what. f what ≡ 0) (λ to what. by what) c.packets x.sent
    where
      by : (q : PictureWhat) → IsToldOf ended q → f q ≡ 0
      by (packet.Gone to at) tells = none to at
      by _ tells = absurd tells

  pub taken-none : (f : PictureWhat → ℕ) → ((e : EndId) (n : ℕ) (ms : List MovingPicture) → f (packet.Back e n ms) ≡ 0) → IfSome c.taken (λ z. f z.1.what ≡ 0)
  taken-none f none = taken-weaker (IsReturnOf ended) (λ q. f q ≡ 0) by c.taken x.taken
    where
      by : (q : PictureWhat) → IsReturnOf ended q → f q ≡ 0
      by (packet.Back e n ms) brings = none e n ms
      by _ brings = absurd brings

  -- ---- an end that is not destroyed

  pub unbrought : (e : EndId) → ended e ≡ false → IsUnbrought c e
  unbrought e off =
      record {
        taken = taken-weaker (IsReturnOf ended) (λ q. list_any (end_eq e) (ends_in (values_of q)) ≡ false) brings c.taken x.taken;
        sent = all_sent-weaker (λ to what. IsToldOf ended what) (λ to what. list_any (end_eq e) (ends_in (values_of what)) ≡ false) (λ to what. tells what) c.packets x.sent;
      }
    where
      brings : (q : PictureWhat) → IsReturnOf ended q → list_any (end_eq e) (ends_in (values_of q)) ≡ false
      brings (packet.Back f n ms) is = is e off
      brings _ is = absurd is

      tells : (q : PictureWhat) → IsToldOf ended q → list_any (end_eq e) (ends_in (values_of q)) ≡ false
      tells (packet.Gone to at) is = refl
      tells _ is = absurd is

  pub other-entry : (j : ℕ) (e : EndId) → ended e ≡ false → u.entry j e ≡ w.entry j e
  other-entry j e off = entry-same b e (x.others e off) j

  pub other-fields : (e : EndId) (at : Stand) (m : MovingPicture) → ended e ≡ false → HasFields u e at m → HasFields w e at m
  other-fields e at m off has = (fields-same b e (x.others e off) (unbrought e off) at m).0 has

  pub here-still : (j : ℕ) (e : EndId) (P : HereView → Type 0) → ended e ≡ false → IsHereAnd (w.entry j e) P → IsHereAnd (u.entry j e) P
  here-still j e P off has = subst (λ z. IsHereAnd z P) (sym (other-entry j e off)) has

  -- ---- fields

  -- the fields of an end are those that it had, and what is true of where it was with them is true now
  pub fields-was : (e : EndId) (at : Stand) (m : MovingPicture) → HasFields u e at m → (o : Stand) × HasFields w e o m × ((j h : ℕ) → IsNoMore o m.hops j h → IsNoMore at m.hops j h)
  fields-was e at m has = by (ended e) refl
    where
      flying : HasFields u e Flying m → HasFields w e Flying m
      flying has = (packet-was (λ q. Contains (values_of q) m) (λ to at none. none-there m none) has.0, has.1)

      landed : (o : Stand) → (o ≡ At c.kernel) ⊎ (o ≡ Flying) → (j h : ℕ) → IsNoMore o m.hops j h → IsNoMore (At c.kernel) m.hops j h
      landed o (inl here) j h no_more = subst (λ z. IsNoMore z m.hops j h) here no_more
      landed o (inr flew) j h no_more =
          let low : h < m.hops = subst (λ z. IsNoMore z m.hops j h) flew no_more in
          (omega (arith, low), λ same. absurd (omega (arith, low, same)))

      marked : (j : ℕ) → HasFields u e (At j) m → ended e ≡ true → ((nat_eq j c.kernel ≡ true) × (j ≡ c.kernel)) ⊎ ((nat_eq j c.kernel ≡ false) × (j ≢ c.kernel))
          → (o : Stand) × HasFields w e o m × ((i h : ℕ) → IsNoMore o m.hops i h → IsNoMore (At j) m.hops i h)
      marked j has on (inr apart) = (At j, ap value_of (sym (b.others j e apart.0)) ∙ has, λ i h is. is)
      marked j has on (inl same) =
          let was : IsEnded w c e = x.are e on in
          let left : value_of (u.entry c.kernel e) ≡ Some m = subst (λ z. value_of (u.entry z e) ≡ Some m) same.1 has in
          let its : was.fields ≡ m = ended-value was.fields m (sym (ap value_of (b.entry e ∙ was.now)) ∙ left) in
          (was.stand, subst (HasFields w e was.stand) its was.had, λ i h is. subst (λ z. IsNoMore (At z) m.hops i h) (sym same.1) (landed was.stand was.at i h is))

      stands : (at : Stand) → HasFields u e at m → ended e ≡ true → (o : Stand) × HasFields w e o m × ((j h : ℕ) → IsNoMore o m.hops j h → IsNoMore at m.hops j h)
      stands Flying has on = (Flying, flying has, λ j h is. is)
      stands (At j) has on = marked j has on (eqb_tells j c.kernel)

      by : (d : Bool) → ended e ≡ d → (o : Stand) × HasFields w e o m × ((j h : ℕ) → IsNoMore o m.hops j h → IsNoMore at m.hops j h)
      by false off = (at, other-fields e at m off has, λ j h is. is)
      by true on = stands at has on

  -- what is heard of an end was heard of it before
  pub heard-was : (e : EndId) (j h : ℕ) → IsHeard u e j h → IsHeard w e j h
  heard-was e j h (inl is) =
      let was = fields-was (opposite e) is.stand is.fields is.are in
      inl (record { stand = was.0; fields = is.fields; are = was.1; hint = is.hint })
  heard-was e j h (inr is) = inr (packet-was (IsNews (opposite e) j h) (λ to at no. no) is)

  -- ---- ends of the service

  pub place-other : (e : EndId) → ended e ≡ false → (t e).place ≡ (s.ends e).place
  place-other e off = x.place e ∙ ap (λ d. if d then place.Destroyed else (s.ends e).place) off

  pub place-ended : (e : EndId) → ended e ≡ true → (t e).place ≡ place.Destroyed
  place-ended e on = x.place e ∙ ap (λ d. if d then place.Destroyed else (s.ends e).place) on

  pub sent-same : (e : EndId) → (t e).sent ≡ (s.ends e).sent
  sent-same e = ap (λ (y : End). y.sent) (x.rest e)

  pub noticed-same : (e : EndId) → (t e).noticed ≡ (s.ends e).noticed
  noticed-same e = ap (λ (y : End). y.noticed) (x.rest e)

  pub inward-same : (e : EndId) → (t e).inward ≡ (s.ends e).inward
  inward-same e = ap (λ (y : End). y.inward) (x.rest e)

  -- an end that lives afterwards lived
  pub unended : (e : EndId) → is_living (t e).place ≡ true → ended e ≡ false
  unended e living = not-true (ended e) (λ on. true≢false (sym living ∙ ap (λ (y : Place). is_living y) (place-ended e on)))

  pub living-was : (e : EndId) → is_living (t e).place ≡ true → is_living (s.ends e).place ≡ true
  living-was e living = sym (ap (λ (y : Place). is_living y) (place-other e (unended e living))) ∙ living

  -- its send stays
  pub outward-kept : (e : EndId) → is_living (t e).place ≡ true → (t e).outward ≡ (s.ends e).outward
  outward-kept e living = by (x.send e)
    where
      by : {n : ℕ} → IsSendAfter (s.ends e) (t e) n → (t e).outward ≡ (s.ends e).outward
      by (Kept same none) = same
      by (Dropped m was now dead none) = absurd (true≢false (sym living ∙ dead))
      by (Returned m was now dead one) = absurd (true≢false (sym living ∙ dead))

  pub taken-same : (e : EndId) → is_taken (t e).outward ≡ is_taken (s.ends e).outward
  taken-same e = by (x.send e)
    where
      by : {n : ℕ} → IsSendAfter (s.ends e) (t e) n → is_taken (t e).outward ≡ is_taken (s.ends e).outward
      by (Kept same none) = ap is_taken same
      by (Dropped m was now dead none) = ap is_taken now ∙ sym (ap is_taken was)
      by (Returned m was now dead one) = ap is_taken now ∙ sym (ap is_taken was)

  pub open-living : (e : EndId) → is_open (t e) ≡ true → is_living (t e).place ≡ true
  open-living e open' = by (is_living (t e).place) (if (t e).noticed then false else true) open'
    where
      by : (a d : Bool) → (a && d) ≡ true → a ≡ true
      by true d both = refl
      by false d both = absurd (true≢false (sym both))

  pub open-was : (e : EndId) → is_open (t e) ≡ true → is_open (s.ends e) ≡ true
  open-was e open' =
      sym (ap (λ z. is_open (record (t e) { place = z })) (place-other e (unended e (open-living e open'))) ∙ ap (λ n. is_open (record (t e) { place = (s.ends e).place; noticed = n })) (noticed-same e)) ∙ open'

  -- ---- an end that is destroyed

  module _ (n : ℕ) (few : n ≤ 8) (named : AreNamed n w s.ends) (marked : (e : EndId) → AreMarked w s.ends e) (once : (e : EndId) → standing w e ≡ one_if (is_living (s.ends e).place)) (within : IsWithin 8 c) where
    stood : (e : EndId) → ended e ≡ true → standing u e + 1 ≡ standing w e
    stood e on =
        let was : IsEnded w c e = x.are e on in
        let after = standing-after b within e in
        let away : one_if (is_here (c.entry e (w.entry c.kernel e))) ≡ 0 = ap (λ z. one_if (is_here z)) was.now ∙ ap one_if (ended-away was.fields) in
        let none : sum_sent (λ q. values_for e (values_of q)) c.packets ≡ 0 = sent-nothing (λ q. values_for e (values_of q)) c.packets (sent-none (λ q. values_for e (values_of q)) (λ to at. refl)) in
        omega (arith, after, away, none, was.stood)

    -- it lived, and is nowhere afterwards
    pub was-living : (e : EndId) → ended e ≡ true → is_living (s.ends e).place ≡ true
    was-living e on = by (is_living (s.ends e).place) refl
      where
        by : (d : Bool) → is_living (s.ends e).place ≡ d → is_living (s.ends e).place ≡ true
        by true is = is
        by false is = let none : one_if (is_living (s.ends e).place) ≡ 0 = ap one_if is in absurd (omega (arith, stood e on, once e, none))

    pub stands-nowhere : (e : EndId) → ended e ≡ true → standing u e ≡ 0
    stands-nowhere e on = let lived : one_if (is_living (s.ends e).place) ≡ 1 = ap one_if (was-living e on) in omega (arith, stood e on, once e, lived)

    -- it is here at no kernel
    pub not-here : (j : ℕ) (e : EndId) (P : HereView → Type 0) → ended e ≡ true → IsHereAnd (u.entry j e) P → ⊥
    not-here j e P on has = by (eqb_tells j c.kernel)
      where
        away : (y : Entry) → is_here y ≡ false → IsHereAnd y P → ⊥
        away (entry.Here v) none has = true≢false none
        away _ none has = has

        elsewhere : j ≢ c.kernel → (stand : Stand) → (stand ≡ At c.kernel) ⊎ (stand ≡ Flying) → stand ≡ At j → ⊥
        elsewhere apart stand (inl here) there = apart (let same : At j ≡ At c.kernel = sym there ∙ here in cc)
        elsewhere apart stand (inr flew) there = absurd (let same : At j ≡ Flying = sym there ∙ flew in cc)

        was-here : j ≢ c.kernel → (y : Entry) → w.entry j e ≡ y → IsHereAnd y P → ⊥
        was-here apart (entry.Here v) there has =
            let was : IsEnded w c e = x.are e on in
            elsewhere apart was.stand was.at (fields-here n w s.ends few named marked once e j v was.stand was.fields there was.had).0
        was-here apart _ there has = absurd has

        by : ((nat_eq j c.kernel ≡ true) × (j ≡ c.kernel)) ⊎ ((nat_eq j c.kernel ≡ false) × (j ≢ c.kernel)) → ⊥
        by (inl same) =
            let was : IsEnded w c e = x.are e on in
            away (ended_entry was.fields) (ended-away was.fields) (subst (λ z. IsHereAnd z P) (b.entry e ∙ was.now) (subst (λ z. IsHereAnd (u.entry z e) P) same.1 has))
        by (inr apart) = was-here apart.1 (w.entry j e) refl (subst (λ z. IsHereAnd z P) (b.others j e apart.0) has)

    -- an end that is here was so
    pub here-unended : (j : ℕ) (e : EndId) (P : HereView → Type 0) → IsHereAnd (u.entry j e) P → ended e ≡ false
    here-unended j e P has = not-true (ended e) (λ on. not-here j e P on has)

    pub here-was : (j : ℕ) (e : EndId) (P : HereView → Type 0) → IsHereAnd (u.entry j e) P → IsHereAnd (w.entry j e) P
    here-was j e P has = subst (λ z. IsHereAnd z P) (other-entry j e (here-unended j e P has)) has

    pub view-was : (j : ℕ) (e : EndId) (v : HereView) → u.entry j e ≡ entry.Here v → w.entry j e ≡ entry.Here v
    view-was j e v there = sym (other-entry j e (here-unended j e (λ z. Unit {0}) (subst (λ y. IsHereAnd y (λ z. Unit {0})) (sym there) tt))) ∙ there

    -- a mark of it stands at the kernel of the event
    pub mark-here : (j : ℕ) (e : EndId) (m : MovingPicture) → ended e ≡ true → u.entry j e ≡ entry.Destroyed m → j ≡ c.kernel
    mark-here j e m on at = by (eqb_tells j c.kernel)
      where
        by : ((nat_eq j c.kernel ≡ true) × (j ≡ c.kernel)) ⊎ ((nat_eq j c.kernel ≡ false) × (j ≢ c.kernel)) → j ≡ c.kernel
        by (inl same) = same.1
        by (inr apart) = absurd (true≢false (sym (was-living e on) ∙ ap (λ (y : Place). is_living y) ((marked e).destroyed j m (sym (b.others j e apart.0) ∙ at))))

    -- it is in no packet
    pub not-brought : (e : EndId) → ended e ≡ true → IsUnderWay u (λ q. Contains (ends_in (values_of q)) e) → ⊥
    unfolding standing
    not-brought e on is = by (under_way-after b (λ q. Contains (ends_in (values_of q)) e) is)
      where
        nowhere : over_kernels (λ k. one_if (is_here (entry_at u k e))) + sum_over (λ q. values_for e (values_of q)) u ≡ 0
        nowhere = stands-nowhere e on

        by : IsLeft b (λ q. Contains (ends_in (values_of q)) e) ⊎ IsSent c (λ q. Contains (ends_in (values_of q)) e) → ⊥
        by (inl y) =
            let below = list-below n w s.ends few named marked once y.from y.to y.packet (left-before b y.from y.to y.packet y.there) in
            let counts = values-counted e (values_of y.packet.what) y.is in
            let least = sum_over-least (λ q. values_for e (values_of q)) u y.from y.to y.packet below.0 below.1 (left-after b y.from y.to y.packet y.there) in
            omega (arith, nowhere, counts, least)
        by (inr y) = not-sent (λ q. Contains (ends_in (values_of q)) e) (λ to at none. none-there e none) y
