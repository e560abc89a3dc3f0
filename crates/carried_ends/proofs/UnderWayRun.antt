-- After so many entries of a run: where the ends are of a request that was issued and is not accepted.
use Rattle.std.proofs.Common.{arith, ◌≡◌, ◌⊎◌, inl, inr, ℕ, zero, suc, ◌+◌, ◌≤◌, ◌<◌, nat_le, leb, Bool, true, false, if◌then◌else◌, List, [], ◌∷◌, ◌++◌, length, length-append, drop, filter, map, refl, sym, ap, subst, ◌∙◌, append-nil, append_assoc}
use Rattle.std.proofs.lemmas.Bool.Decides.{leb_tells}
use Rattle.std.proofs.lemmas.Grind.{flat_map-append}
use Rattle.std.specs.List.{AllByRecursion}
use Rattle.charlotte_calls.specs.EndEq.{end_eq}
use Rattle.charlotte_calls.specs.Names.{opposite}
use Rattle.charlotte_calls.specs.declared.names.EndId.{EndId}
use Rattle.charlotte_calls.specs.declared.names.Pid.{Pid}
use Rattle.service_change.proofs.EndEq.{opposite-opposite}
use Rattle.service_step.specs.Ends.{is_living}
use Rattle.service_step.specs.State.{State as Service}
use Rattle.service_step.specs.declared.state.Place.{Place}
use Rattle.service_step.specs.declared.state.Place.TheVariants as place
use Rattle.lost_ends.specs.Deaths.{IsGone}
use Rattle.lynx_packets.specs.declared.value.RtValue.{RtValue}
use Rattle.end_protocol.specs.Deeds.{Accepted, Deed, Issued, Replied, Returned}
use Rattle.lost_ends.specs.States.{DeedOn}
use Rattle.lost_ends.proofs.Every.{every_weaker}
use Rattle.lost_ends.specs.AtEnd.{deeds_at}
use Rattle.lost_ends.proofs.Numbers.{end_eq_self}
use Rattle.lost_ends.specs.Acting.{Done}
use Rattle.lost_ends.specs.Claims.{IsBetween, IsUnderWay, States, deeds_on, gets, on_end, sends}
use Rattle.lost_ends.specs.Acted.{process}
use Rattle.request_meaning.specs.Requests.{Request, accepted, accepted_by, issued, issued_by}
use Rattle.carried_ends.proofs.Arrived.{AreGot, IsOwnOf}
use Rattle.carried_ends.proofs.ArrivedAlong.{IsSeenAt, IsSnap}
use Rattle.carried_ends.proofs.UnderWay.{Inside, IsAtEnd, With}
use Rattle.carried_ends.proofs.UnderWayIssuers.{Closed, Dead, IsIssued, Open, accepted_there, issuer_of, issued-count, issuers, issuers-both}
use Rattle.carried_ends.proofs.UnderWayLinks.{AreOnLink, HasOpen, IsHeldSo, IsOnLink, held-so, open-there}
use Rattle.lost_ends.proofs.Weaving.{on-both, same-owner}

-- ---- lists

module _ {X : Type 0} (P : X → Type 0) where
  -- what stands behind the first part of a list
  beyond : (c v a : List X) (r : X) (b : List X) → a ++ r ∷ b ≡ c ++ v → length c ≤ length a → AllByRecursion P v → P r
  beyond [] [] [] r b is few all = let no : r ∷ b ≡ [] = is in absurd cc
  beyond [] [] (x ∷ a) r b is few all = let no : x ∷ (a ++ r ∷ b) ≡ [] = is in absurd cc
  beyond [] (y ∷ v) [] r b is few all = let both : r ∷ b ≡ y ∷ v = is in let same : y ≡ r = cc in subst P same all.0
  beyond [] (y ∷ v) (x ∷ a) r b is few all = let both : x ∷ (a ++ r ∷ b) ≡ y ∷ v = is in let rest : a ++ r ∷ b ≡ v = cc in beyond [] v a r b rest (omega arith) all.1
  beyond (z ∷ c) v [] r b is few all = absurd (omega (arith, few))
  beyond (z ∷ c) v (x ∷ a) r b is few all =
      let both : x ∷ (a ++ r ∷ b) ≡ z ∷ (c ++ v) = is in let rest : a ++ r ∷ b ≡ c ++ v = cc in beyond c v a r b rest (omega (arith, few)) all

  -- in the second
  within : (c d v a : List X) (r : X) (b : List X) → a ++ r ∷ b ≡ (c ++ d) ++ v → length c ≤ length a → length a < length (c ++ d) → AllByRecursion P d → P r
  within [] [] v a r b is few less all = absurd (omega (arith, less))
  within [] (y ∷ d) v [] r b is few less all = let both : r ∷ b ≡ y ∷ (d ++ v) = is in let same : y ≡ r = cc in subst P same all.0
  within [] (y ∷ d) v (x ∷ a) r b is few less all =
      let both : x ∷ (a ++ r ∷ b) ≡ y ∷ (d ++ v) = is in let rest : a ++ r ∷ b ≡ d ++ v = cc in within [] d v a r b rest (omega arith) (omega (arith, less)) all.1
  within (z ∷ c) d v [] r b is few less all = absurd (omega (arith, few))
  within (z ∷ c) d v (x ∷ a) r b is few less all =
      let both : x ∷ (a ++ r ∷ b) ≡ z ∷ ((c ++ d) ++ v) = is in let rest : a ++ r ∷ b ≡ (c ++ d) ++ v = cc in within c d v a r b rest (omega (arith, few)) (omega (arith, less)) all

  -- of all but so many
  later-one : (l : List X) (x : X) (m : List X) (a : ℕ) → a ≤ length l → AllByRecursion P (drop a (l ++ x ∷ m)) → P x
  later-one [] x m zero few all = all.0
  later-one [] x m (suc a) few all = absurd (omega (arith, few))
  later-one (y ∷ l) x m zero few all = later-one l x m zero (omega arith) all.1
  later-one (y ∷ l) x m (suc a) few all = later-one l x m a (omega (arith, few)) all

-- ---- with so many entries before them

-- those that have no more
until : (n : ℕ) (past behind : List Done) → AllByRecursion (λ (d : Done). d.after ≤ n) past → AllByRecursion (λ (d : Done). n < d.after) behind → filter (λ (d : Done). nat_le d.after n) (past ++ behind) ≡ past
until n [] [] early late = refl
until n [] (d ∷ behind) early late = by (leb_tells d.after n) (until n [] behind early late.1)
  where
    by : ((leb d.after n ≡ true) × (d.after ≤ n)) ⊎ ((leb d.after n ≡ false) × (n < d.after)) → filter (λ (z : Done). nat_le z.after n) behind ≡ []
        → (if nat_le d.after n then d ∷ filter (λ (z : Done). nat_le z.after n) behind else filter (λ (z : Done). nat_le z.after n) behind) ≡ []
    by (inl early_too) rest = let few = early_too.1 in let more = late.0 in absurd (omega (arith, few, more))
    by (inr is) rest = ap (λ (b : Bool). if b then d ∷ filter (λ (z : Done). nat_le z.after n) behind else filter (λ (z : Done). nat_le z.after n) behind) is.0 ∙ rest
until n (d ∷ past) behind early late = by (leb_tells d.after n) (until n past behind early.1 late)
  where
    by : ((leb d.after n ≡ true) × (d.after ≤ n)) ⊎ ((leb d.after n ≡ false) × (n < d.after)) → filter (λ (z : Done). nat_le z.after n) (past ++ behind) ≡ past
        → (if nat_le d.after n then d ∷ filter (λ (z : Done). nat_le z.after n) (past ++ behind) else filter (λ (z : Done). nat_le z.after n) (past ++ behind)) ≡ d ∷ past
    by (inl is) rest = ap (λ (b : Bool). if b then d ∷ filter (λ (z : Done). nat_le z.after n) (past ++ behind) else filter (λ (z : Done). nat_le z.after n) (past ++ behind)) is.0 ∙ ap (λ (l : List Done). d ∷ l) rest
    by (inr late_too) rest = let few = early.0 in let more = late_too.1 in absurd (omega (arith, few, more))

-- a deed with no more entries before it is among these
is-past : (n : ℕ) (past behind before : List Done) (d : Done) (rest : List Done) → AllByRecursion (λ (z : Done). n < z.after) behind → d.after ≤ n → past ++ behind ≡ before ++ d ∷ rest
    → (more : List Done) × (past ≡ before ++ d ∷ more)
is-past n [] behind before d rest late few is =
    let more : n < d.after = beyond (λ (z : Done). n < z.after) [] behind before d rest (sym is) (omega arith) late in absurd (omega (arith, few, more))
is-past n (p ∷ past) behind [] d rest late few is =
    let both : p ∷ (past ++ behind) ≡ d ∷ rest = is in let same : p ≡ d = cc in (past, ap (λ (z : Done). z ∷ past) same)
is-past n (p ∷ past) behind (q ∷ before) d rest late few is =
    let both : p ∷ (past ++ behind) ≡ q ∷ (before ++ d ∷ rest) = is in
    let same : p ≡ q = cc in
    let tail : past ++ behind ≡ before ++ d ∷ rest = cc in
    let one = is-past n past behind before d rest late few tail in
    (one.0, ap (λ (z : Done). z ∷ past) same ∙ ap (λ (l : List Done). q ∷ l) one.1)

-- ---- what is accepted and not yet followed by a call

accepted-got : (s : Service) (i : ℕ) (e : EndId) (l : List DeedOn) → AreGot s i l → AllByRecursion (λ (r : Request). AllByRecursion (IsOwnOf s i) r.ends) (accepted (deeds_at e l))
accepted-got s i e [] got = tt
accepted-got s i e (d ∷ l) got = by (end_eq d.on e) d.deed got.0 (accepted-got s i e l got.1)
  where
    by : (b : Bool) (z : Deed) → AllByRecursion (IsOwnOf s i) (gets z) → AllByRecursion (λ (r : Request). AllByRecursion (IsOwnOf s i) r.ends) (accepted (deeds_at e l))
        → AllByRecursion (λ (r : Request). AllByRecursion (IsOwnOf s i) r.ends) (accepted (map (λ (w : DeedOn). w.deed) (if b then record d { deed = z } ∷ filter (λ (w : DeedOn). end_eq w.on e) l else filter (λ (w : DeedOn). end_eq w.on e) l)))
    by false z one rest = rest
    by true (Issued k signature vs xs) one rest = rest
    by true (Accepted k signature vs xs) one rest = (one, rest)
    by true (Replied k status vs xs) one rest = rest
    by true (Returned k status vs xs) one rest = rest

module _ (version count : ℕ) (s : Service) (n : ℕ) (past : List Done) (snap : IsSnap version count s n past) where
  -- the deeds on an end are those of the run so far, and others. What these accept the owner has
  pub record HasMore (e : EndId) : Type 0 where
    pub more : List Deed
    pub is : snap.deeds e ≡ deeds_on e past ++ more
    pub got : AllByRecursion (λ (r : Request). AllByRecursion (IsAtEnd s e) r.ends) (accepted more)

  has-more : (e : EndId) → HasMore e
  has-more e = by (s.ends e).place refl
    where
      nothing : ((i : ℕ) → (s.ends e).place ≡ place.Owned (process i) → ⊥) → HasMore e
      nothing unowned = record { more = []; is = snap.woven.rest e unowned ∙ sym (append-nil (deeds_on e past)); got = tt }

      by : (at : Place) → (s.ends e).place ≡ at → HasMore e
      by place.Unmade at = nothing (λ i own. let no : place.Unmade ≡ place.Owned (process i) = sym at ∙ own in cc)
      by place.Destroyed at = nothing (λ i own. let no : place.Destroyed ≡ place.Owned (process i) = sym at ∙ own in cc)
      by (place.InMessage f k) at = nothing (λ i own. let no : place.InMessage f k ≡ place.Owned (process i) = sym at ∙ own in cc)
      by (place.Owned p) at = record {
        more = deeds_at e (snap.since p.0);
        is = snap.woven.own e p.0 at;
        got =
            every_weaker (λ (r : Request). AllByRecursion (IsOwnOf s p.0) r.ends) (λ (r : Request). AllByRecursion (IsAtEnd s e) r.ends)
            (λ r all. every_weaker (IsOwnOf s p.0) (IsAtEnd s e) (λ y own. With p at own) r.ends all) (accepted (deeds_at e (snap.since p.0))) (accepted-got s p.0 e (snap.since p.0) (snap.got p.0));
      }

  -- ---- a request

  module _ (before : List Done) (d : Done) (rest : List Done) (past_is : past ≡ before ++ d ∷ rest) (k : ℕ) (signature : List ℕ) (vs : List RtValue) (xs : List EndId) (deed_is : d.deed ≡ Issued k signature vs xs)
      (unaccepted : length (accepted (deeds_on (opposite d.on) past)) ≤ length (issued (deeds_on d.on before)))
      (near_lives : is_living (s.ends d.on).place ≡ true) (far_lives : is_living (s.ends (opposite d.on)).place ≡ true) where
    abbrev x : EndId
    x = d.on

    abbrev r : Request
    r = record { number = k; signature = signature; values = vs; ends = xs }

    abbrev first : List Request
    first = issued (deeds_on x before)

    abbrev near : HasMore x
    near = has-more x

    abbrev far : HasMore (opposite x)
    far = has-more (opposite x)

    on-one : deeds_on x (d ∷ rest) ≡ Issued k signature vs xs ∷ deeds_on x rest
    on-one = ap (λ (b : Bool). map (λ (z : Done). z.deed) (if b then d ∷ on_end x rest else on_end x rest)) (end_eq_self x) ∙ ap (λ (z : Deed). z ∷ deeds_on x rest) deed_is

    past-issued : issued (deeds_on x past) ≡ first ++ r ∷ issued (deeds_on x rest)
    past-issued =
        ap (λ (l : List Done). issued (deeds_on x l)) past_is ∙ ap issued (on-both x before (d ∷ rest) ∙ ap (λ (l : List Deed). deeds_on x before ++ l) on-one)
        ∙ flat_map-append issued_by (deeds_on x before) (Issued k signature vs xs ∷ deeds_on x rest)

    all-issued : first ++ r ∷ (issued (deeds_on x rest) ++ issued near.more) ≡ issued (snap.deeds x)
    all-issued =
        sym (ap issued near.is ∙ flat_map-append issued_by (deeds_on x past) near.more ∙ ap (λ (l : List Request). l ++ issued near.more) past-issued
        ∙ append_assoc first (r ∷ issued (deeds_on x rest)) (issued near.more))

    all-accepted : accepted (snap.deeds (opposite x)) ≡ accepted (deeds_on (opposite x) past) ++ accepted far.more
    all-accepted = ap accepted far.is ∙ flat_map-append accepted_by (deeds_on (opposite x) past) far.more

    stays : (e : EndId) → is_living (s.ends e).place ≡ true → IsGone s e → ⊥
    stays e lives gone = let no : false ≡ true = sym (ap is_living gone) ∙ lives in cc

    abbrev held : IsHeldSo s snap.deeds x
    held = held-so version count s n snap.os snap.deeds snap.stands x near_lives far_lives (snap.so.links x (stays x near_lives) (stays (opposite x) far_lives))

    abbrev left : HasOpen version count s n snap.os snap.deeds snap.stands x near_lives far_lives held
    left = open-there version count s n snap.os snap.deeds snap.stands x near_lives far_lives held

    divided : first ++ r ∷ (issued (deeds_on x rest) ++ issued near.more) ≡ (accepted (deeds_on (opposite x) past) ++ accepted far.more) ++ left.requests
    divided = all-issued ∙ left.issued_is ∙ ap (λ (l : List Request). l ++ left.requests) all-accepted

    -- it is accepted, and no call followed yet
    taken : length first < length (accepted (deeds_on (opposite x) past) ++ accepted far.more) → AllByRecursion (IsAtEnd s (opposite x)) xs
    taken less =
        within (λ (q : Request). AllByRecursion (IsAtEnd s (opposite x)) q.ends) (accepted (deeds_on (opposite x) past)) (accepted far.more) left.requests first r (issued (deeds_on x rest) ++ issued near.more) divided unaccepted less far.got

    -- it is under way
    going : length (accepted (deeds_on (opposite x) past) ++ accepted far.more) ≤ length first → AllByRecursion (IsOnLink s x) xs
    going few =
        beyond (AreOnLink s x) (accepted (deeds_on (opposite x) past) ++ accepted far.more) left.requests first r (issued (deeds_on x rest) ++ issued near.more) divided few left.there

    -- then it was issued by the owner
    issuers-are : issuers x past ≡ issuers x before ++ d.by ∷ issuers x rest
    issuers-are =
        ap (issuers x) past_is ∙ issuers-both x before (d ∷ rest)
        ∙ ap (λ (b : Bool). issuers x before ++ ((if b then issuer_of d.deed d.by else []) ++ issuers x rest)) (end_eq_self x)
        ∙ ap (λ (z : Deed). issuers x before ++ (issuer_of z d.by ++ issuers x rest)) deed_is

    issuer : length (accepted (deeds_on (opposite x) past) ++ accepted far.more) ≤ length first → (i : ℕ) → (s.ends x).place ≡ place.Owned (process i) → d.by ≡ process i
    issuer few i own = by (snap.issued x)
      where
        there : accepted_there snap.deeds x ≡ length (accepted (deeds_on (opposite x) past) ++ accepted far.more)
        there = ap length all-accepted

        ahead : length (issuers x before) ≡ length first
        ahead = issued-count x before

        by : IsIssued s past snap.deeds x → d.by ≡ process i
        by (Closed less) =
            let all : length (issuers x past) ≡ length (issuers x before ++ d.by ∷ issuers x rest) = ap length issuers-are in
            let sum : length (issuers x before ++ d.by ∷ issuers x rest) ≡ length (issuers x before) + length (d.by ∷ issuers x rest) = length-append (issuers x before) (d.by ∷ issuers x rest) in
            absurd (omega (arith, few, there, ahead, less, all, sum))
        by (Dead (inl gone)) = let no : false ≡ true = sym (ap is_living gone) ∙ near_lives in absurd cc
        by (Dead (inr gone)) = let no : false ≡ true = sym (ap is_living gone) ∙ far_lives in absurd cc
        by (Open j at later) =
            later-one (λ (p : Pid). p ≡ process j) (issuers x before) d.by (issuers x rest) (accepted_there snap.deeds x) (omega (arith, few, there, ahead))
            (subst (λ (l : List Pid). AllByRecursion (λ (p : Pid). p ≡ process j) (drop (accepted_there snap.deeds x) l)) issuers-are later)
            ∙ ap process (same-owner j i (s.ends x).place at own)

    -- ---- where its ends are

    far-between : (y : EndId) → IsAtEnd s (opposite x) y → IsBetween s d.by x (s.ends y).place
    far-between y (With p its own) = subst (IsBetween s d.by x) (sym own) (inr its)
    far-between y (Inside m inside) = subst (IsBetween s d.by x) (sym inside) (inl (opposite-opposite x))

    near-between : ((i : ℕ) → (s.ends x).place ≡ place.Owned (process i) → d.by ≡ process i) → (y : EndId) → IsOnLink s x y → IsBetween s d.by x (s.ends y).place
    near-between by_owner y (inl (inl (With p its own))) = subst (IsBetween s d.by x) (sym own) (inl (sym (by_owner p.0 its)))
    near-between by_owner y (inl (inl (Inside m inside))) = subst (IsBetween s d.by x) (sym inside) (inr refl)
    near-between by_owner y (inl (inr far_at)) = far-between y far_at
    near-between by_owner y (inr gone) = subst (IsBetween s d.by x) (sym gone) tt

    pub request-between : AllByRecursion (λ (y : EndId). IsBetween s d.by x (s.ends y).place) xs
    request-between = by (leb_tells (length (accepted (deeds_on (opposite x) past) ++ accepted far.more)) (length first))
      where
        by : ((leb (length (accepted (deeds_on (opposite x) past) ++ accepted far.more)) (length first) ≡ true) × (length (accepted (deeds_on (opposite x) past) ++ accepted far.more) ≤ length first))
            ⊎ ((leb (length (accepted (deeds_on (opposite x) past) ++ accepted far.more)) (length first) ≡ false) × (length first < length (accepted (deeds_on (opposite x) past) ++ accepted far.more)))
            → AllByRecursion (λ (y : EndId). IsBetween s d.by x (s.ends y).place) xs
        by (inl few) = every_weaker (IsOnLink s x) (λ (y : EndId). IsBetween s d.by x (s.ends y).place) (near-between (issuer few.1)) xs (going few.1)
        by (inr less) = every_weaker (IsAtEnd s (opposite x)) (λ (y : EndId). IsBetween s d.by x (s.ends y).place) far-between xs (taken less.1)

-- ---- after so many entries of a run

pub under-way-at : (version count : ℕ) (states : States) (all : List Done) (n : ℕ) (seen : IsSeenAt version count states all n) (before : List Done) (d : Done) (behind : List Done) → all ≡ before ++ d ∷ behind
    → IsUnderWay states before d all n
    → AllByRecursion (λ x. IsBetween (states n) d.by d.on ((states n).ends x).place) (sends d.deed)
under-way-at version count states all n seen before d behind is under = by d.deed refl
  where
    split : (rest : List Done) × (seen.past ≡ before ++ d ∷ rest)
    split = is-past n seen.past seen.behind before d behind seen.late under.issued_before (sym seen.is ∙ is)

    same : filter (λ (z : Done). nat_le z.after n) all ≡ seen.past
    same = ap (λ (l : List Done). filter (λ (z : Done). nat_le z.after n) l) seen.is ∙ until n seen.past seen.behind seen.early seen.late

    by : (z : Deed) → d.deed ≡ z → AllByRecursion (λ x. IsBetween (states n) d.by d.on ((states n).ends x).place) (sends z)
    by (Issued k signature vs xs) deed_is =
        request-between version count (states n) n seen.past seen.snap before d split.0 split.1 k signature vs xs deed_is
        (subst (λ (l : List Done). length (accepted (deeds_on (opposite d.on) l)) ≤ length (issued (deeds_on d.on before))) same under.unaccepted) under.lives under.opposite_lives
    by (Accepted k signature vs xs) deed_is = tt
    by (Replied k status vs xs) deed_is = tt
    by (Returned k status vs xs) deed_is = tt
