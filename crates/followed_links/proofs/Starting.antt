-- At the start the invariant stands: each process holds the ends with which it begins, and nothing was sent.
use Rattle.std.proofs.Common.{arith, ◌≡◌, ◌⊎◌, inl, inr, ⊎_elim, ℕ, zero, suc, ◌+◌, ◌<◌, nat_lt, Bool, true, false, if◌then◌else◌, List, [], ◌∷◌, ◌++◌, length, map, Option, Some, None, slice_get, slice_index, refl, sym, ap, subst, ◌∙◌}
use Rattle.std.specs.Prelude.{option_map, ⊤}
use Rattle.std.specs.List.{AllByRecursion, IsDistinct, fold}
use Rattle.std.proofs.lemmas.Bool.Decides.{Decides-ltb}
use Rattle.std.proofs.lemmas.List.{length-map}
use Rattle.std.proofs.lemmas.Map.Keys.{IsDistinct-head, IsDistinct-tail}
use Rattle.std.proofs.lemmas.Option.{slice_get-map}
use Rattle.charlotte_calls.specs.EndEq.{end_eq}
use Rattle.charlotte_calls.specs.Names.{opposite}
use Rattle.charlotte_calls.specs.Setting.{IsValid}
use Rattle.charlotte_calls.specs.declared.calls.Report.{Report}
use Rattle.charlotte_calls.specs.declared.names.EndId.{EndId}
use Rattle.charlotte_calls.specs.declared.names.Pid.{Pid}
use Rattle.charlotte_calls.specs.declared.setting.Setting.{Setting}
use Rattle.service_step.specs.Ends.{fresh as new_end, unmade}
use Rattle.service_step.specs.Run.{Wired, first_end, new_process, new_processes, nothing_wired, start_state, wires_one}
use Rattle.service_step.specs.State.{State as Service, no_process}
use Rattle.service_step.specs.declared.state.End.{End}
use Rattle.service_step.specs.declared.state.Inward.TheVariants as inward
use Rattle.service_step.specs.declared.state.Message.{Message as Told}
use Rattle.service_step.specs.declared.state.Phase.TheVariants as phase
use Rattle.service_step.specs.declared.state.Place.{Place as At}
use Rattle.service_step.specs.declared.state.Place.TheVariants as place
use Rattle.service_streams.specs.Streams.{messages, outstanding, told_in}
use Rattle.service_consistent.proofs.Starts.{consistent_start}
use Rattle.run_process_steps.specs.Coming.{coming, on_way, reported_to}
use Rattle.run_process_steps.specs.Moves.{brings, enclosed_in, how_often}
use Rattle.run_process_steps.proofs.Matching.{start-matched}
use Rattle.end_protocol.specs.Kept.{fresh}
use Rattle.run_process_steps.specs.States.{Gone, Holding, Keeps, Place}
use Rattle.run_process_steps.specs.States as process
use Rattle.run_process_steps.specs.Ends.{number_from, number_of, or_number, place_at}
use Rattle.run_process_steps.specs.Reports.{holding_of}
use Rattle.run_process_steps.specs.AtEnd.{AreSingle, Seen, holding_at, known_from, seen, total}
use Rattle.run_process_steps.specs.Ledgers.{carried_at, how_often as times}
use Rattle.run_process_steps.specs.Telling.{Turn}
use Rattle.run_process_steps.proofs.Numbers.{Found, end_eq_self, found, none_at, same_end, same_place}
use Rattle.run_process_steps.specs.Acting.{Program, at_start}
use Rattle.run_process_steps.specs.Acted.{process as pid}
use Rattle.run_process_steps.specs.Claimed.{AreWired}
use Rattle.run_process_steps.specs.Sides.{Courses, Flipped, Free, Goes, Held, Holds, Pair, Rests, Side, flipped, new_pair, new_side}
use Rattle.run_process_steps.specs.Hearing.{owners}
use Rattle.run_process_steps.specs.Invariant.{AreOwners, AreSpelled, IsFollowedTo, IsInOnePlace, IsOwned, IsOwner, IsSide, IsSideAt, IsStandingIn, Owners, Stands}
use Rattle.run_process_steps.specs.Owners.{seen_of}
use Rattle.followed_links.proofs.Following.{IsFollowing}

-- ---- the places of a process that holds these ends

abbrev held_fresh : EndId → Place
held_fresh x = record { end = x; holding = Keeps fresh }

abbrev places_of : List EndId → List Place
places_of xs = map held_fresh xs

abbrev nothing_told : Turn
nothing_told = record { asked = process.Nothing; given = None }

nothing-known : (n : ℕ) (xs : List EndId) → known_from nothing_told n (places_of xs) ≡ places_of xs
nothing-known n [] = refl
nothing-known n (x ∷ xs) = ap (λ (ps : List Place). held_fresh x ∷ ps) (nothing-known (n + 1) xs)

nothing-carried : (xs : List EndId) → carried_at (places_of xs) ≡ []
nothing-carried [] = refl
nothing-carried (x ∷ xs) = nothing-carried xs

-- an end that is not there has no number
no-number : (n : ℕ) (y : EndId) (xs : List EndId) → AllByRecursion (λ x. end_eq y x ≡ false) xs → number_from n y (places_of xs) ≡ 0
no-number n y [] apart = refl
no-number n y (x ∷ xs) apart = by (end_eq x y) refl ∙ ap (λ (m : ℕ). or_number m 0) (no-number (n + 1) y xs apart.1)
  where
    by : (b : Bool) → end_eq x y ≡ b → or_number (number_from (n + 1) y (places_of xs)) (if b then n else 0) ≡ or_number (number_from (n + 1) y (places_of xs)) 0
    by true same =
        let e : x ≡ y = same_end x y same in
        let no : true ≡ false = sym (end_eq_self y) ∙ ap (end_eq y) (sym e) ∙ apart.0 in cc
    by false other = refl

-- an end that is there once has the number of its place
its-number : (m i : ℕ) (y : EndId) (xs : List EndId) → IsDistinct end_eq xs → slice_get xs i ≡ Some y → number_from (suc m) y (places_of xs) ≡ suc (m + i)
its-number m i y [] apart at = let no : None ≡ Some y = at in absurd cc
its-number m zero y (x ∷ xs) apart at =
    let same : x ≡ y = cc in
    ap (λ (k : ℕ). or_number k (if end_eq x y then suc m else 0)) (no-number (suc m + 1) y xs (subst (λ (z : EndId). AllByRecursion (λ w. end_eq z w ≡ false) xs) same (IsDistinct-head end_eq x xs apart)))
    ∙ ap (λ (b : Bool). if b then suc m else 0) (ap (end_eq x) (sym same) ∙ end_eq_self x) ∙ omega arith
its-number m (suc i) y (x ∷ xs) apart at =
    let rest : number_from (suc (suc m)) y (places_of xs) ≡ suc (suc m + i) = its-number (suc m) i y xs (IsDistinct-tail end_eq x xs apart) at in
    let next : suc m + 1 ≡ suc (suc m) = omega arith in
    ap (λ (k : ℕ). or_number k (if end_eq x y then suc m else 0)) (ap (λ (k : ℕ). number_from k y (places_of xs)) next ∙ rest) ∙ omega arith

starts-single : (xs : List EndId) → IsDistinct end_eq xs → AreSingle (places_of xs)
starts-single xs apart zero y k held = absurd (none_at (record { end = y; holding = Keeps k }) held)
starts-single xs apart (suc i) y k held = by (slice_get xs i) refl (sym (slice_get-map held_fresh xs i) ∙ held)
  where
    by : (o : Option EndId) → slice_get xs i ≡ o → option_map held_fresh o ≡ Some (record { end = y; holding = Keeps k }) → suc i ≡ number_of y (places_of xs)
    by None none is = absurd (none_at (record { end = y; holding = Keeps k }) is)
    by (Some x) at is =
        let same : x ≡ y = ap (λ (p : Place). p.end) (same_place (held_fresh x) (record { end = y; holding = Keeps k }) is) in
        let its : number_of y (places_of xs) ≡ suc (0 + i) = its-number 0 i y xs apart (at ∙ ap (λ (z : EndId). Some z) same) in
        omega (arith, its)

one-of : (P : EndId → Type 0) (xs : List EndId) (i : ℕ) (x : EndId) → AllByRecursion P xs → slice_get xs i ≡ Some x → P x
one-of P [] i x all at = let no : None ≡ Some x = at in absurd cc
one-of P (y ∷ xs) zero x all at = let same : y ≡ x = cc in subst P same all.0
one-of P (y ∷ xs) (suc i) x all at = one-of P xs i x all.1 at

-- it holds an end that is one of these, and no other
holds-or-not : (P : EndId → Type 0) (xs : List EndId) (x : EndId) → (holding_at x (places_of xs) ≡ Gone false) ⊎ ((holding_at x (places_of xs) ≡ Keeps fresh) × (AllByRecursion P xs → P x))
holds-or-not P xs x =
    ⊎_elim
    (λ (none : number_from 1 x (places_of xs) ≡ 0). inl (ap (λ (n : ℕ). holding_of (place_at n (places_of xs))) none))
    (λ (f : Found 0 (number_from 1 x (places_of xs)) x (places_of xs)).
    by f (slice_get xs f.at) refl (sym (slice_get-map held_fresh xs f.at) ∙ f.there))
    (found 0 x (places_of xs))
  where
    by : (f : Found 0 (number_from 1 x (places_of xs)) x (places_of xs)) → (o : Option EndId) → slice_get xs f.at ≡ o → option_map held_fresh o ≡ Some f.place
        → (holding_at x (places_of xs) ≡ Gone false) ⊎ ((holding_at x (places_of xs) ≡ Keeps fresh) × (AllByRecursion P xs → P x))
    by f None none is = absurd (none_at f.place is)
    by f (Some y) at is =
        let same : held_fresh y ≡ f.place = same_place (held_fresh y) f.place is in
        let number : number_from 1 x (places_of xs) ≡ suc f.at = (let e : number_from 1 x (places_of xs) ≡ suc (0 + f.at) = f.is in omega (arith, e)) in
        inr (
          ap (λ (n : ℕ). holding_of (place_at n (places_of xs))) number ∙ ap holding_of (f.there ∙ ap (λ (p : Place). Some p) (sym same)),
          λ all. subst P (ap (λ (p : Place). p.end) same ∙ f.same) (one-of P xs f.at y all at),
        )

-- ---- ends

-- an end is of no link, or a process owns it and did nothing there
abbrev IsNew : End → Type 0
IsNew x = (x ≡ unmade) ⊎ ((p : Pid) × (x ≡ new_end (place.Owned p)))

wires-new : (homes : List ℕ) (wires : List (Pid × Pid)) (w : Wired) → ((x : EndId) → IsNew (w.ends x)) → (x : EndId) → IsNew ((fold (wires_one homes) w wires).ends x)
unfolding wires_one
wires-new homes [] w all x = all x
wires-new homes (wire ∷ wires) w all x = wires-new homes wires (wires_one homes w wire) each x
  where
    first : EndId
    first = first_end (slice_index homes wire.0.0) (slice_index w.made (slice_index homes wire.0.0))

    each : (y : EndId) → IsNew ((wires_one homes w wire).ends y)
    each y = by (end_eq (opposite first) y) (end_eq first y)
      where
        by : (b c : Bool) → IsNew (if b then new_end (place.Owned wire.1) else (if c then new_end (place.Owned wire.0) else w.ends y))
        by true c = inr (wire.1, refl)
        by false true = inr (wire.0, refl)
        by false false = all y

starts-new : (g : Setting) (x : EndId) → IsNew ((start_state g).ends x)
starts-new g x = wires-new g.homes g.wires (nothing_wired g.kernels) (λ y. inl refl) x

-- ---- links

-- an end that is held, or is not
abbrev pub side_of : Bool → Side
side_of true = record { standing = Held fresh; coming = [] }
side_of false = new_side

abbrev pub pair_of : Bool → Bool → Pair
pair_of a b = record { near = side_of a; far = side_of b; near_deeds = []; far_deeds = [] }

near-course : (version : ℕ) (a : Bool) → Courses version new_pair (pair_of a false)
near-course version false = Rests new_pair
near-course version true = Goes new_pair new_pair (pair_of true false) (Rests new_pair) (Holds new_pair refl)

pub both-course : (version : ℕ) (a b : Bool) → Courses version new_pair (pair_of a b)
both-course version a false = near-course version a
both-course version a true =
    Goes new_pair (pair_of a false) (pair_of a true) (near-course version a)
    (Flipped (pair_of a false) (pair_of a true) (Holds (flipped (pair_of a false)) refl))

-- ---- a process at its start

module _ (g : Setting) (programs : ℕ → Program) where
  abbrev s : Service
  s = start_state g

  abbrev os : Owners
  os = owners (at_start g.version programs)

  abbrev holding : ℕ → EndId → Holding
  holding i x = holding_at x (places_of (programs i).ends)

  abbrev IsMine : ℕ → EndId → Type 0
  IsMine i x = (s.ends x).place ≡ place.Owned (pid i)

  seen-starts : (i : ℕ) (x : EndId) → seen_of (os i) x ≡ record { holding = holding i x; out = 0; doomed = 0 }
  seen-starts i x =
      ap (λ (ps : List Place). seen x (record { places = ps; doomed = []; hand = [] })) (nothing-known 1 (programs i).ends)
      ∙ ap (λ (l : List EndId). record { holding = holding i x; out = times x l + 0; doomed = 0 }) (nothing-carried (programs i).ends)

  no-reports : (i : ℕ) → (s.process i).reports ≡ []
  unfolding new_processes
  no-reports i = by (nat_lt i (length g.homes))
    where
      by : (b : Bool) → (if b then new_process else no_process).reports ≡ []
      by true = refl
      by false = refl

  brings-none : (i : ℕ) (x : EndId) → brings s (pid i) x ≡ 0
  brings-none i x = ap (λ (l : List Report). how_often x (enclosed_in l)) (no-reports i)

  module _ (valid : IsValid g) (wired : AreWired g programs) where
    abbrev count : ℕ
    count = length g.homes

    -- a process holds its own ends
    in-one-place : (i : ℕ) → i < count → (x : EndId) → IsInOnePlace s (os i) i x
    in-one-place i below x = by (holding i x) (seen-starts i x) (holds-or-not (IsMine i) (programs i).ends x)
      where
        by : (h : Holding) → seen_of (os i) x ≡ record { holding = h; out = 0; doomed = 0 } → (h ≡ Gone false) ⊎ ((h ≡ Keeps fresh) × (AllByRecursion (IsMine i) (programs i).ends → IsMine i x)) → IsInOnePlace s (os i) i x
        by (Gone own) is at =
            let none : total (seen_of (os i) x) ≡ 0 = ap total is in
            let no = brings-none i x in
            record { one = omega (arith, none, no); own = λ some. absurd (omega (arith, none, no, some)) }
        by (Keeps k) is (inl gone) = let no : Keeps k ≡ Gone false = gone in absurd cc
        by (Keeps k) is (inr mine) =
            let one : total (seen_of (os i) x) ≡ 1 = ap total is in
            let no = brings-none i x in
            record { one = omega (arith, one, no); own = λ some. mine.1 (wired.own i below) }

    runs : (i : ℕ) → i < count → (s.process i).phase ≡ phase.Running
    unfolding new_processes
    runs i below = ap (λ (b : Bool). (if b then new_process else no_process).phase) ((Decides-ltb i count).1 below)

    each-owner : (i : ℕ) → i < count → IsOwner g.version s 0 i (os i)
    each-owner i below = record {
      phase = runs i below;
      version_is = refl;
      running = wired.sound i below;
      asked = refl;
      single = starts-single (programs i).ends (wired.apart i below);
      few = (let all : length (places_of (programs i).ends) ≡ length (programs i).ends = length-map (programs i).ends held_fresh in let few = wired.few i below in omega (arith, all, few));
      told = tt;
      custody = λ alive x. in-one-place i below x;
    }

    start-owners : AreOwners g.version count s 0 os
    start-owners = record { consistent = consistent_start g valid; matched = start-matched g valid; version_is = refl; count_is = refl; each = each-owner }

  -- ---- the links

  idle-new : (x : EndId) → ((s.ends x).inward ≡ inward.Idle) × (messages (outstanding (s.ends x)) ≡ [])
  idle-new x = by (starts-new g x)
    where
      by : IsNew (s.ends x) → ((s.ends x).inward ≡ inward.Idle) × (messages (outstanding (s.ends x)) ≡ [])
      by (inl is) = (ap (λ (e : End). e.inward) is, ap (λ (e : End). messages (outstanding e)) is)
      by (inr is) = (ap (λ (e : End). e.inward) is.1, ap (λ (e : End). messages (outstanding e)) is.1)

  none-coming : (x : EndId) (p : Pid) → (s.ends x).place ≡ place.Owned p → coming s x ≡ []
  none-coming x p is =
      ap (λ (at : At). reported_to s x at ++ on_way s x) is ∙ ap (λ (l : List Report). told_in x l ++ on_way s x) (no-reports p.0)
      ∙ by (s.ends x).noticed (messages (outstanding (s.ends (opposite x)))) (idle-new (opposite x)).1
    where
      by : (b : Bool) (l : List Told) → l ≡ [] → (if b then [] else l) ≡ []
      by true l none = refl
      by false l none = none

  abbrev pub HasSide : EndId → Type 0
  HasSide x = (b : Bool) × IsSide g.version s os x (side_of b)

  abbrev StandsSo : ℕ → EndId → Bool → Type 0
  StandsSo i x b = IsStandingIn (brings s (pid i) x) (seen_of (os i) x) (seen_of (os i) x).holding (side_of b).standing

  -- an end is held where its owner begins with it
  stands-so : (i : ℕ) (x : EndId) → (b : Bool) × StandsSo i x b
  stands-so i x = by (holds-or-not (λ y. ⊤) (programs i).ends x)
    where
      by : (holding i x ≡ Gone false) ⊎ ((holding i x ≡ Keeps fresh) × (AllByRecursion (λ y. ⊤) (programs i).ends → ⊤)) → (b : Bool) × StandsSo i x b
      by (inl gone) = (false, subst (λ (h : Holding). IsStandingIn (brings s (pid i) x) (seen_of (os i) x) h Free) (sym (ap (λ (a : Seen). a.holding) (seen-starts i x) ∙ gone)) (inl refl, λ out. refl))
      by (inr keeps) = (true, subst (λ (h : Holding). IsStandingIn (brings s (pid i) x) (seen_of (os i) x) h (Held fresh)) (sym (ap (λ (a : Seen). a.holding) (seen-starts i x) ∙ keeps.0)) refl)

  owned-side : (x : EndId) (p : Pid) → (s.ends x).place ≡ place.Owned p → (b : Bool) → StandsSo p.0 x b → IsOwned g.version s (os p.0) p.0 x (side_of b)
  owned-side x p is b standing = record {
    standing = standing;
    receive = λ received. absurd (⊎_elim (λ (busy : (s.ends x).inward ≡ inward.Idle → ⊥). busy (idle-new x).0) (λ (told : ◌≡◌ {A = List Told} [] [] → ⊥). told refl) received);
    coming_is = inl (subst (AreSpelled g.version (side_of b).coming) (sym (none-coming x p is)) (none-spelled b));
  }
    where
      none-spelled : (b : Bool) → AreSpelled g.version (side_of b).coming []
      none-spelled true = tt
      none-spelled false = tt

  pub has-side : (x : EndId) → HasSide x
  has-side x = by (starts-new g x)
    where
      by : IsNew (s.ends x) → HasSide x
      by (inl is) = (false, subst (IsSideAt g.version s os x new_side) (sym (ap (λ (e : End). e.place) is)) refl)
      by (inr is) =
          let at : (s.ends x).place ≡ place.Owned is.0 = ap (λ (e : End). e.place) is.1 in
          let so = stands-so is.0.0 x in
          (so.0, subst (IsSideAt g.version s os x (side_of so.0)) (sym at) (owned-side x is.0 at so.0 so.1))

  start-link : (x : EndId) → IsFollowedTo g.version s os (λ y. []) x
  start-link x =
      let near = has-side x in
      let far = has-side (opposite x) in
      record { pair = pair_of near.0 far.0; course = both-course g.version near.0 far.0; near = near.1; far = far.1; near_deeds = refl; far_deeds = refl }

-- ---- the start

pub start-stands : (g : Setting) (programs : ℕ → Program) → IsValid g → AreWired g programs → Stands g.version (length g.homes) (start_state g) 0 (owners (at_start g.version programs)) (λ x. [])
start-stands g programs valid wired = record { owners = start-owners g programs valid wired; links = start-link g programs }

pub start-follows : (g : Setting) (programs : ℕ → Program) → IsValid g → AreWired g programs → IsFollowing g.version (length g.homes) (start_state g) 0 (at_start g.version programs) []
start-follows g programs valid wired = record {
  deeds = λ x. [];
  stands = start-stands g programs valid wired;
  idle = λ i above. refl;
  silent = λ i above. refl;
  told = λ i. tt;
  woven = record { own = λ x i is. refl; rest = λ x unowned. refl; none = λ x i away. refl };
}

-- nothing was done
pub start-deeds : (g : Setting) (programs : ℕ → Program) (valid : IsValid g) (wired : AreWired g programs) → (start-follows g programs valid wired).deeds ≡ (λ x. [])
unfolding start-follows
start-deeds g programs valid wired = refl
