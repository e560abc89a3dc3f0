-- The requests issued on an end that are not accepted were issued by who owns it: an end that goes to another process has none.
use Rattle.std.proofs.Common.{arith, ◌≡◌, ◌⊎◌, inl, inr, ℕ, zero, suc, ◌+◌, ◌≤◌, nat_eq, Bool, true, false, if◌then◌else◌, List, [], ◌∷◌, ◌++◌, length, length-append, map, drop, refl, sym, ap, subst, ◌∙◌, eq-eqb, eqb-true, append-nil}
use Rattle.std.proofs.lemmas.Grind.{flat_map-append}
use Rattle.std.specs.List.{AllByRecursion, flat_map}
use Rattle.charlotte_calls.specs.EndEq.{end_eq}
use Rattle.charlotte_calls.specs.Names.{opposite}
use Rattle.charlotte_calls.specs.declared.calls.ServiceStep.{ServiceStep}
use Rattle.charlotte_calls.specs.declared.calls.ServiceStep.TheVariants as step
use Rattle.charlotte_calls.specs.declared.names.EndId.{EndId}
use Rattle.charlotte_calls.specs.declared.names.Pid.{Pid}
use Rattle.service_lawful.specs.Consistent.{IsConsistent}
use Rattle.service_step.specs.Run.{IsRunFrom, state_after}
use Rattle.service_step.specs.State.{State as Service}
use Rattle.service_step.specs.Steps.{IsServiceStep}
use Rattle.service_step.specs.declared.state.Place.{Place}
use Rattle.service_step.specs.declared.state.Place.TheVariants as place
use Rattle.service_streams.specs.Streams.{cancels_send, steps_in}
use Rattle.lost_ends.specs.Deaths.{IsGone}
use Rattle.lost_ends.specs.Moves.{Ends, Lands, Leaves, Makes, Moves, Stays}
use Rattle.lost_ends.specs.Entries.{IsUncalled}
use Rattle.end_protocol.specs.Deeds.{Accepted, Deed, Issued, Replied, Returned}
use Rattle.lost_ends.specs.States.{DeedOn}
use Rattle.lost_ends.specs.AtEnd.{deeds_at}
use Rattle.lost_ends.specs.Acting.{Done, done_by}
use Rattle.lost_ends.specs.Claims.{deeds_on, on_end}
use Rattle.lost_ends.specs.Acted.{process}
use Rattle.request_meaning.specs.Requests.{accepted, accepted_by, issued, issued_by}
use Rattle.lost_ends.specs.Sides.{Free}
use Rattle.lost_ends.specs.Invariant.{IsSideAt, Owners, Stands}
use Rattle.lost_ends.proofs.Passing.{uncalled-cancels}
use Rattle.carried_ends.proofs.UnderWayLinks.{free-accepted}
use Rattle.lost_ends.proofs.Weaving.{AreWoven, at-both, on-done, same-owner}

-- ---- who issued the requests on an end

abbrev pub issuer_of : Deed → Pid → List Pid
issuer_of (Issued n signature vs xs) p = p ∷ []
issuer_of d p = []

abbrev pub issuers : EndId → List Done → List Pid
issuers x ds = flat_map (λ d. if end_eq d.on x then issuer_of d.deed d.by else []) ds

pub issued-count : (x : EndId) (ds : List Done) → length (issuers x ds) ≡ length (issued (deeds_on x ds))
issued-count x [] = refl
issued-count x (d ∷ ds) = by (end_eq d.on x) d.deed (issued-count x ds)
  where
    by : (b : Bool) (e : Deed) → length (issuers x ds) ≡ length (issued (deeds_on x ds))
        → length ((if b then issuer_of e d.by else []) ++ issuers x ds) ≡ length (issued (map (λ (z : Done). z.deed) (if b then record d { deed = e } ∷ on_end x ds else on_end x ds)))
    by false e rest = rest
    by true (Issued n signature vs xs) rest = ap suc rest
    by true (Accepted n signature vs xs) rest = rest
    by true (Replied n status vs xs) rest = rest
    by true (Returned n status vs xs) rest = rest

pub issuers-both : (x : EndId) (ds es : List Done) → issuers x (ds ++ es) ≡ issuers x ds ++ issuers x es
issuers-both x ds es = flat_map-append (λ (d : Done). if end_eq d.on x then issuer_of d.deed d.by else []) ds es

done-issuers : (x : EndId) (p : Pid) (n : ℕ) (l : List DeedOn) → AllByRecursion (λ (q : Pid). q ≡ p) (issuers x (done_by p n l))
done-issuers x p n [] = tt
done-issuers x p n (d ∷ l) = by (end_eq d.on x) d.deed (done-issuers x p n l)
  where
    by : (b : Bool) (e : Deed) → AllByRecursion (λ (q : Pid). q ≡ p) (issuers x (done_by p n l)) → AllByRecursion (λ (q : Pid). q ≡ p) ((if b then issuer_of e p else []) ++ issuers x (done_by p n l))
    by false e rest = rest
    by true (Issued k signature vs xs) rest = (refl, rest)
    by true (Accepted k signature vs xs) rest = rest
    by true (Replied k status vs xs) rest = rest
    by true (Returned k status vs xs) rest = rest

-- ---- all but the first

module _ (P : Pid → Type 0) where
  -- of all but so many
  abbrev AreLater : ℕ → List Pid → Type 0
  AreLater a l = AllByRecursion P (drop a l)

  drop-few : (a : ℕ) (l : List Pid) → length l ≤ a → AreLater a l
  drop-few zero [] few = tt
  drop-few (suc a) [] few = tt
  drop-few zero (p ∷ l) few = absurd (omega (arith, few))
  drop-few (suc a) (p ∷ l) few = drop-few a l (omega (arith, few))

  drop-one : (l : List Pid) (a : ℕ) → AreLater a l → AreLater (suc a) l
  drop-one [] zero all = tt
  drop-one [] (suc a) all = tt
  drop-one (p ∷ l) zero all = all.1
  drop-one (p ∷ l) (suc a) all = drop-one l a all

  drop-more : (l : List Pid) (a m : ℕ) → AreLater a l → AreLater (m + a) l
  drop-more l a zero all = subst (λ (k : ℕ). AreLater k l) (let e : a ≡ zero + a = omega arith in e) all
  drop-more l a (suc m) all = subst (λ (k : ℕ). AreLater k l) (let e : suc (m + a) ≡ suc m + a = omega arith in e) (drop-one l (m + a) (drop-more l a m all))

  drop-both : (a : ℕ) (l m : List Pid) → AreLater a l → AllByRecursion P m → AreLater a (l ++ m)
  drop-both zero [] m all more = more
  drop-both zero (p ∷ l) m all more = (all.0, drop-both zero l m all.1 more)
  drop-both (suc a) [] m all more = drop-any a m more
    where
      drop-any : (a : ℕ) (m : List Pid) → AllByRecursion P m → AreLater (suc a) m
      drop-any a [] more = tt
      drop-any zero (p ∷ m) more = more.1
      drop-any (suc a) (p ∷ m) more = drop-any a m more.1
  drop-both (suc a) (p ∷ l) m all more = drop-both a l m all more

-- ---- the invariant

abbrev pub accepted_there : (EndId → List Deed) → EndId → ℕ
accepted_there deeds x = length (accepted (deeds (opposite x)))

-- all are accepted; or the link is dead; or the others were issued by the owner
pub data IsIssued (s : Service) (past : List Done) (deeds : EndId → List Deed) (x : EndId) : Type 0 where
  Closed : length (issuers x past) ≤ accepted_there deeds x → IsIssued s past deeds x
  Dead : IsGone s x ⊎ IsGone s (opposite x) → IsIssued s past deeds x
  Open : (i : ℕ) → (s.ends x).place ≡ place.Owned (process i) → AllByRecursion (λ p. p ≡ process i) (drop (accepted_there deeds x) (issuers x past)) → IsIssued s past deeds x

abbrev pub AreIssued : Service → List Done → (EndId → List Deed) → Type 0
AreIssued s past deeds = (x : EndId) → IsIssued s past deeds x

-- ---- a process does more

module _ (s : Service) (past : List Done) (deeds : EndId → List Deed) (more : List DeedOn) where
  abbrev now : EndId → List Deed
  now x = deeds x ++ deeds_at x more

  accepted-more : (x : EndId) → accepted_there now x ≡ length (accepted (deeds_at (opposite x) more)) + accepted_there deeds x
  accepted-more x =
      let all : length (accepted (deeds (opposite x) ++ deeds_at (opposite x) more)) ≡ length (accepted (deeds (opposite x)) ++ accepted (deeds_at (opposite x) more)) =
      ap length (flat_map-append accepted_by (deeds (opposite x)) (deeds_at (opposite x) more)) in
      let sum : length (accepted (deeds (opposite x)) ++ accepted (deeds_at (opposite x) more)) ≡ length (accepted (deeds (opposite x))) + length (accepted (deeds_at (opposite x) more)) =
      length-append (accepted (deeds (opposite x))) (accepted (deeds_at (opposite x) more)) in
      omega (arith, all, sum)

  still-later : (x : EndId) (i : ℕ) → AllByRecursion (λ (p : Pid). p ≡ process i) (drop (accepted_there deeds x) (issuers x past)) → AllByRecursion (λ (p : Pid). p ≡ process i) (drop (accepted_there now x) (issuers x past))
  still-later x i all =
      subst (λ (k : ℕ). AllByRecursion (λ (p : Pid). p ≡ process i) (drop k (issuers x past))) (sym (accepted-more x))
      (drop-more (λ (p : Pid). p ≡ process i) (issuers x past) (accepted_there deeds x) (length (accepted (deeds_at (opposite x) more))) all)

  pub issued-on : AreIssued s past deeds → AreIssued s past now
  issued-on is x = by (is x)
    where
      by : IsIssued s past deeds x → IsIssued s past now x
      by (Closed few) = let grow = accepted-more x in Closed (omega (arith, few, grow))
      by (Dead gone) = Dead gone
      by (Open i own all) = Open i own (still-later x i all)

-- its deeds stand before a call
module _ (s : Service) (since : ℕ → List DeedOn) (past : List Done) (deeds : EndId → List Deed) (woven : AreWoven s since past deeds) (i : ℕ) (more : List DeedOn)
    (elsewhere : (x : EndId) → ((s.ends x).place ≡ place.Owned (process i) → ⊥) → deeds_at x more ≡ []) (n : ℕ) where
  abbrev its : List Done
  its = done_by (process i) n (since i ++ more)

  none-there : (x : EndId) → ((s.ends x).place ≡ place.Owned (process i) → ⊥) → issuers x its ≡ []
  none-there x away = by (issuers x its) refl
    where
      nothing : deeds_on x its ≡ []
      nothing = on-done x (process i) n (since i ++ more) ∙ at-both x (since i) more ∙ ap (λ (l : List Deed). l ++ deeds_at x more) (woven.none x i away) ∙ elsewhere x away

      by : (l : List Pid) → issuers x its ≡ l → issuers x its ≡ []
      by [] is = is
      by (p ∷ l) is =
          let none : length (issuers x its) ≡ 0 = issued-count x its ∙ ap (λ (ds : List Deed). length (issued ds)) nothing in
          let some : length (issuers x its) ≡ suc (length l) = ap length is in
          absurd (omega (arith, none, some))

  pub issued-before : AreIssued s past deeds → AreIssued s (past ++ its) (λ x. deeds x ++ deeds_at x more)
  issued-before all x = at_place (owned-or-not (s.ends x).place)
    where
      was : IsIssued s past (λ (y : EndId). deeds y ++ deeds_at y more) x
      was = issued-on s past deeds more all x

      owned-or-not : (at : Place) → (at ≡ place.Owned (process i)) ⊎ (at ≡ place.Owned (process i) → ⊥)
      owned-or-not place.Unmade = inr (λ e. let no : place.Unmade ≡ place.Owned (process i) = e in cc)
      owned-or-not place.Destroyed = inr (λ e. let no : place.Destroyed ≡ place.Owned (process i) = e in cc)
      owned-or-not (place.InMessage f m) = inr (λ e. let no : place.InMessage f m ≡ place.Owned (process i) = e in cc)
      owned-or-not (place.Owned p) = by (nat_eq p.0 i) refl
        where
          by : (b : Bool) → nat_eq p.0 i ≡ b → (place.Owned p ≡ place.Owned (process i)) ⊎ (place.Owned p ≡ place.Owned (process i) → ⊥)
          by true same = inl (ap (λ (k : ℕ). place.Owned (process k)) (eqb-true p.0 i same))
          by false other = inr (λ e. let same : p.0 ≡ i = same-owner p.0 i (place.Owned p) refl e in let no : true ≡ false = sym (eq-eqb p.0 i same) ∙ other in cc)

      at_place : ((s.ends x).place ≡ place.Owned (process i)) ⊎ ((s.ends x).place ≡ place.Owned (process i) → ⊥) → IsIssued s (past ++ its) (λ (y : EndId). deeds y ++ deeds_at y more) x
      at_place (inl own) = mine was
        where
          with-its : AllByRecursion (λ (p : Pid). p ≡ process i) (drop (accepted_there (λ (y : EndId). deeds y ++ deeds_at y more) x) (issuers x past))
              → IsIssued s (past ++ its) (λ (y : EndId). deeds y ++ deeds_at y more) x
          with-its later =
              Open i own
              (subst (λ (l : List Pid). AllByRecursion (λ (p : Pid). p ≡ process i) (drop (accepted_there (λ (y : EndId). deeds y ++ deeds_at y more) x) l)) (sym (issuers-both x past its))
              (drop-both (λ (p : Pid). p ≡ process i) (accepted_there (λ (y : EndId). deeds y ++ deeds_at y more) x) (issuers x past) (issuers x its) later (done-issuers x (process i) n (since i ++ more))))

          mine : IsIssued s past (λ (y : EndId). deeds y ++ deeds_at y more) x → IsIssued s (past ++ its) (λ (y : EndId). deeds y ++ deeds_at y more) x
          mine (Closed few) = with-its (drop-few (λ (p : Pid). p ≡ process i) (accepted_there (λ (y : EndId). deeds y ++ deeds_at y more) x) (issuers x past) few)
          mine (Dead gone) = Dead gone
          mine (Open j at later) =
              with-its (subst (λ (k : ℕ). AllByRecursion (λ (p : Pid). p ≡ process k) (drop (accepted_there (λ (y : EndId). deeds y ++ deeds_at y more) x) (issuers x past))) (same-owner j i (s.ends x).place at own) later)
      at_place (inr away) = yours was
        where
          same : issuers x (past ++ its) ≡ issuers x past
          same = issuers-both x past its ∙ ap (λ (l : List Pid). issuers x past ++ l) (none-there x away) ∙ append-nil (issuers x past)

          yours : IsIssued s past (λ (y : EndId). deeds y ++ deeds_at y more) x → IsIssued s (past ++ its) (λ (y : EndId). deeds y ++ deeds_at y more) x
          yours (Closed few) = let count : length (issuers x (past ++ its)) ≡ length (issuers x past) = ap length same in Closed (omega (arith, few, count))
          yours (Dead gone) = Dead gone
          yours (Open j at later) = Open j at (subst (λ (l : List Pid). AllByRecursion (λ (p : Pid). p ≡ process j) (drop (accepted_there (λ (y : EndId). deeds y ++ deeds_at y more) x) l)) (sym same) later)

-- ---- a step of the service

module _ (s t : Service) (made : ServiceStep) (past : List Done) (deeds : EndId → List Deed) (each : (x : EndId) → Moves s made t x)
    (leaves : (x e : EndId) (n : ℕ) (i : ℕ) → (s.ends x).place ≡ place.Owned (process i) → (t.ends x).place ≡ place.InMessage e n
    → (bytes : List ℕ) (xs : List EndId) → made ≡ step.Send e n bytes xs → IsIssued t past deeds x) where
  gone-stays : (x : EndId) → IsGone s x → IsGone t x
  gone-stays x gone = by (each x)
    where
      by : Moves s made t x → IsGone t x
      by (Stays same brings) = same ∙ gone
      by (Makes p a b is one was to brings) = let no : place.Unmade ≡ place.Destroyed = sym was ∙ gone in absurd cc
      by (Leaves p e n bytes xs is within on was to brings) = let no : place.Owned p ≡ place.Destroyed = sym was ∙ gone in absurd cc
      by (Lands p e n was to brings gives) = let no : place.InMessage e n ≡ place.Destroyed = sym was ∙ gone in absurd cc
      by (Ends now why brings) = now

  pub issued-step : AreIssued s past deeds → AreIssued t past deeds
  issued-step all x = by (all x)
    where
      moved : (i : ℕ) → (s.ends x).place ≡ place.Owned (process i) → AllByRecursion (λ (p : Pid). p ≡ process i) (drop (accepted_there deeds x) (issuers x past)) → Moves s made t x → IsIssued t past deeds x
      moved i own later (Stays same brings) = Open i (same ∙ own) later
      moved i own later (Makes p a b is one was to brings) = let no : place.Unmade ≡ place.Owned (process i) = sym was ∙ own in absurd cc
      moved i own later (Leaves p e n bytes xs is within on was to brings) = leaves x e n i own to bytes xs is
      moved i own later (Lands p e n was to brings gives) = let no : place.InMessage e n ≡ place.Owned (process i) = sym was ∙ own in absurd cc
      moved i own later (Ends now why brings) = Dead (inl now)

      by : IsIssued s past deeds x → IsIssued t past deeds x
      by (Closed few) = Closed few
      by (Dead (inl gone)) = Dead (inl (gone-stays x gone))
      by (Dead (inr gone)) = Dead (inr (gone-stays (opposite x) gone))
      by (Open i own later) = moved i own later (each x)

-- an end that leaves has none
pub left-closed : (version count : ℕ) (s t : Service) (n : ℕ) (os : Owners) (since : ℕ → List DeedOn) (past : List Done) (deeds : EndId → List Deed) → AreWoven s since past deeds → Stands version count t n os deeds
    → (x e : EndId) (m i : ℕ) → (s.ends x).place ≡ place.Owned (process i) → (t.ends x).place ≡ place.InMessage e m → IsIssued t past deeds x
left-closed version count s t n os since past deeds woven is x e m i own inside = by (t.ends (opposite x)).place refl
  where
    free : (is.links x).pair.near.standing ≡ Free
    free = (subst (IsSideAt version t os x (is.links x).pair.near) inside (is.links x).near).0

    closed : ((t.ends (opposite x)).place ≡ place.Destroyed → ⊥) → IsIssued t past deeds x
    closed stays =
        let count_is = issued-count x past in
        let all : length (issued (deeds x)) ≡ accepted_there deeds x = ap length (free-accepted version count t n os deeds is x free stays) in
        let both : length (issued (deeds x)) ≡ length (issued (deeds_on x past) ++ issued (deeds_at x (since i))) =
        ap length (ap issued (woven.own x i own) ∙ flat_map-append issued_by (deeds_on x past) (deeds_at x (since i))) in
        let sum = length-append (issued (deeds_on x past)) (issued (deeds_at x (since i))) in
        Closed (omega (arith, count_is, all, both, sum))

    by : (at : Place) → (t.ends (opposite x)).place ≡ at → IsIssued t past deeds x
    by place.Destroyed gone = Dead (inr gone)
    by place.Unmade at = closed (λ gone. let no : place.Unmade ≡ place.Destroyed = sym at ∙ gone in cc)
    by (place.Owned p) at = closed (λ gone. let no : place.Owned p ≡ place.Destroyed = sym at ∙ gone in cc)
    by (place.InMessage f k) at = closed (λ gone. let no : place.InMessage f k ≡ place.Destroyed = sym at ∙ gone in cc)

-- steps that are no process's call let no end leave
module _ (each_moves : (s : Service) (made : ServiceStep) (t : Service) (x : EndId) → IsConsistent s → ((e : EndId) → cancels_send e made ≡ false) → IsServiceStep s made t → Moves s made t x)
    (consistent : (s : Service) (made : ServiceStep) (t : Service) → IsConsistent s → IsServiceStep s made t → IsConsistent t) (past : List Done) (deeds : EndId → List Deed) where
  pub issued-uncalled : (part : List (ServiceStep × Service)) (s : Service) → IsConsistent s → IsRunFrom s part → AllByRecursion IsUncalled (steps_in part) → AreIssued s past deeds → AreIssued (state_after s part) past deeds
  issued-uncalled [] s is run un all = all
  issued-uncalled (made ∷ part) s is run un all =
      issued-uncalled part made.1 (consistent s made.0 made.1 is run.0) run.1 un.1
      (issued-step s made.1 made.0 past deeds (λ x. each_moves s made.0 made.1 x is (uncalled-cancels made.0 un.0) run.0)
      (λ x e n i own to bytes xs sends. absurd (subst IsUncalled sends un.0)) all)
