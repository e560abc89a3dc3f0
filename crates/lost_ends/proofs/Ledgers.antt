-- An end that a process holds no longer is to be destroyed, unless it was at rest; and what a step does at an end, one change after the other.
use Rattle.std.proofs.Common.{arith, ◌≡◌, ◌⊎◌, inl, inr, ℕ, ◌+◌, ◌≤◌, ◌<◌, Bool, true, false, List, [], ◌∷◌, ◌++◌, length, Option, Some, None, refl, sym, ap, subst, ◌∙◌, eqb-true, eq-eqb}
use Rattle.std.specs.Prelude.{◌==◌}
use Rattle.charlotte_calls.specs.EndEq.{end_eq}
use Rattle.charlotte_calls.specs.declared.names.EndId.{EndId}
use Rattle.service_step.specs.declared.state.Message.{Message as Told}
use Rattle.end_protocol.specs.declared.kept.Kept.{Kept}
use Rattle.end_protocol.specs.Deeds.{Deed}
use Rattle.end_protocol.specs.Falling.{dies}
use Rattle.end_protocol.specs.Going.{receive_over, returns, settled}
use Rattle.end_protocol.specs.Happenings.{after}
use Rattle.end_protocol.specs.Hearing.{hears}
use Rattle.end_protocol.specs.Kept.{fresh}
use Rattle.end_protocol.specs.Wanting.{is_busy}
use Rattle.process_run.specs.States.{DeedOn, Gone, Holding, Keeps, Place}
use Rattle.process_run.specs.Ends.{gets_one, number_of, place_at, with_holding}
use Rattle.process_run.specs.Reports.{holding_of}
use Rattle.process_run.specs.Runs.{settled_in}
use Rattle.followed_links.proofs.Numbering.{got_as}
use Rattle.followed_links.specs.AtEnd.{AreSingle, deeds_at, holding_at, seen, total}
use Rattle.followed_links.specs.Changes.{Change, Changes, IsHeld, IsWhole}
use Rattle.followed_links.specs.Changes as changes
use Rattle.followed_links.specs.Ledgers.{Ledger, carried, carried_at, how_often}
use Rattle.followed_links.specs.Telling.{Telling, Turn}
use Rattle.followed_links.specs.Telling as tells
use Rattle.followed_links.proofs.AtEnd.{One, deeds_both, doomed_too, less_at, once, once_self, one_at}
use Rattle.followed_links.proofs.Held.{at_none, here_was, holding_elsewhere, holding_here, holding_settled, kept_at, many_got, many_settled, many_with, number_with}
use Rattle.followed_links.proofs.Numbers.{end_eq_self, numbered, other_place, same_end}
use Rattle.followed_links.specs.Sides.{Destroyed, Pair, Side}
use Rattle.lost_ends.proofs.Counting.{place-out}
use Rattle.lost_ends.specs.Stopped.{ends_of}
use Rattle.lost_ends.proofs.AtEnds.{LeadsSo, LeavesSo, StandsAt, change-leads, goes-on, stays}

-- ---- places

-- the end has this kept for it
abbrev pub IsKeeping : Holding → Type 0
IsKeeping h = (k : Kept) × (h ≡ Keeps k)

pub keeps-not-gone : (h : Holding) (own : Bool) → IsKeeping h → h ≡ Gone own → ⊥
keeps-not-gone h own keeps gone = let no : Keeps keeps.0 ≡ Gone own = sym keeps.1 ∙ gone in cc

same-kept : (k l : Kept) → Keeps k ≡ Keeps l → k ≡ l
same-kept k l e = cc

module _ (x : EndId) where
  -- a place under another number
  other-held : (n : ℕ) (g : Holding) (ps : List Place) → (n ≡ number_of x ps → ⊥) → holding_at x (with_holding n g ps) ≡ holding_at x ps
  other-held n g ps apart = ap (λ (m : ℕ). holding_of (place_at m (with_holding n g ps))) (number_with x n g ps) ∙ ap holding_of (other_place n (number_of x ps) g ps apart)

  apart-number : (n : ℕ) (y : EndId) (k : Kept) (ps : List Place) → IsHeld n y k ps → end_eq y x ≡ false → n ≡ number_of x ps → ⊥
  apart-number n y k ps there other e =
      let same : y ≡ x = numbered x ps (record { end = y; holding = Keeps k }) (sym (ap (λ (m : ℕ). place_at m ps) e) ∙ there) in
      let no : true ≡ false = sym (end_eq_self y) ∙ ap (end_eq y) same ∙ other in cc

  -- an end that is held is so where some place is
  still-held : (n : ℕ) (k : Kept) (ps : List Place) → IsKeeping (holding_at x ps) → IsKeeping (holding_at x (with_holding n (Keeps k) ps))
  still-held n k ps keeps = by (n == number_of x ps) refl
    where
      by_place : (o : Option Place) → place_at n ps ≡ o → n ≡ number_of x ps → IsKeeping (holding_at x (with_holding n (Keeps k) ps))
      by_place None at same = subst (λ (qs : List Place). IsKeeping (holding_at x qs)) (sym (at_none n (Keeps k) ps at)) keeps
      by_place (Some p) at same =
          (k, ap (λ (m : ℕ). holding_of (place_at m (with_holding n (Keeps k) ps))) (number_with x n (Keeps k) ps ∙ sym same) ∙ ap holding_of (kept_at n p (Keeps k) ps at))

      by : (b : Bool) → (n == number_of x ps) ≡ b → IsKeeping (holding_at x (with_holding n (Keeps k) ps))
      by true e = by_place (place_at n ps) refl (eqb-true n (number_of x ps) e)
      by false e =
          subst (λ (h : Holding). IsKeeping h) (sym (other-held n (Keeps k) ps (λ same. let no : true ≡ false = sym (eq-eqb n (number_of x ps) same) ∙ e in cc))) keeps

  -- who is held under a number
  its-kept : (n : ℕ) (y : EndId) (l : Kept) (ps : List Place) → AreSingle ps → IsHeld n y l ps → end_eq y x ≡ true → (k : Kept) → holding_at x ps ≡ Keeps k → l ≡ k
  its-kept n y l ps single there same k was =
      let at : holding_at y ps ≡ Keeps l = here_was n (record { end = y; holding = Keeps l }) ps there (single n y l there) in
      same-kept l k (sym at ∙ ap (λ (z : EndId). holding_at z ps) (same_end y x same) ∙ was)

  its-doom : (y : EndId) (l : List EndId) → end_eq y x ≡ true → 1 ≤ how_often x (l ++ y ∷ [])
  its-doom y l same =
      let dooms : how_often x (l ++ y ∷ []) ≡ how_often x l + once y x = doomed_too y x l in
      let one : once y x ≡ 1 = ap (λ (z : EndId). once z x) (same_end y x same) ∙ once_self x in
      omega (arith, dooms, one)

  more-doomed : (y : EndId) (l : List EndId) → how_often x l ≤ how_often x (l ++ y ∷ [])
  more-doomed y l = let dooms : how_often x (l ++ y ∷ []) ≡ how_often x l + once y x = doomed_too y x l in omega (arith, dooms)

  -- ---- changes

  module _ (version : ℕ) where
    grows-change : (b : Ledger) (ds : List DeedOn) (c : Ledger) → Change version b ds c → how_often x b.doomed ≤ how_often x c.doomed
    grows-change b ds c (changes.Does n y k h l rest there may hand) = omega arith
    grows-change b ds c (changes.Settle room l) = omega arith
    grows-change b ds c (changes.LetsGo n y k l there rests whole) = omega arith
    grows-change b ds c (changes.Destroys n y k l there) = more-doomed y b.doomed
    grows-change b ds c (changes.Holds y rest l hand) = omega arith
    grows-change b ds c (changes.Gets y rest l hand) = omega arith
    grows-change b ds c (changes.Dooms y rest l hand) = more-doomed y b.doomed
    grows-change b ds c (changes.Sorts hand l less) = omega arith

    had-room : (b : Ledger) (ds : List DeedOn) (c : Ledger) → Change version b ds c → length c.places < 4294967295 → length b.places < 4294967295
    had-room b ds c (changes.Does n y k h l rest there may hand) few = subst (λ (m : ℕ). m < 4294967295) (many_with n (Keeps (after version h k)) b.places) few
    had-room b ds c (changes.Settle room l) few = subst (λ (m : ℕ). m < 4294967295) (many_settled room b.places) few
    had-room b ds c (changes.LetsGo n y k l there rests whole) few = subst (λ (m : ℕ). m < 4294967295) (many_with n (Gone false) b.places) few
    had-room b ds c (changes.Destroys n y k l there) few = subst (λ (m : ℕ). m < 4294967295) (many_with n (Gone (returns k.sending)) b.places) few
    had-room b ds c (changes.Holds y rest l hand) few = subst (λ (m : ℕ). m < 4294967295) (many_with (number_of y b.places) (Keeps fresh) b.places) few
    had-room b ds c (changes.Gets y rest l hand) few = many_got y b.places few
    had-room b ds c (changes.Dooms y rest l hand) few = few
    had-room b ds c (changes.Sorts hand l less) few = few

    all-had-room : (b : Ledger) (ds : List DeedOn) (c : Ledger) → Changes version b ds c → length c.places < 4294967295 → length b.places < 4294967295
    all-had-room b ds c (changes.None l) few = few
    all-had-room b ds c (changes.Then l es d fs m one others) few = had-room b es d one (all-had-room d fs c others few)

    -- an end that is got is held
    got-held : (y : EndId) (ps : List Place) → length ps < 4294967295 → IsKeeping (holding_at x ps) → IsKeeping (holding_at x (gets_one y ps))
    got-held y ps few keeps = subst (λ (qs : List Place). IsKeeping (holding_at x qs)) (got_as y ps (length ps) refl few) (by (end_eq y x) refl)
      where
        by : (b : Bool) → end_eq y x ≡ b → IsKeeping (holding_at x (ps ++ record { end = y; holding = Keeps fresh } ∷ []))
        by true same = (fresh, ap (λ (z : EndId). holding_at x (ps ++ record { end = z; holding = Keeps fresh } ∷ [])) (same_end y x same) ∙ holding_here x ps)
        by false apart = subst (λ (h : Holding). IsKeeping h) (sym (holding_elsewhere y ps x apart)) keeps

    leaves-change : (b : Ledger) (ds : List DeedOn) (c : Ledger) → Change version b ds c → AreSingle b.places → length b.places < 4294967295 → LeavesSo (seen x b) (seen x c)
    leaves-change b ds c (changes.Does n y l h m rest there may hand) single few k own was is = absurd (keeps-not-gone (holding_at x c.places) own (still-held n (after version h l) b.places (k, was)) is)
    leaves-change b ds c (changes.Settle room m) single few k own was is =
        absurd (keeps-not-gone (holding_at x c.places) own (settled room k, holding_settled room b.places x ∙ ap (settled_in room) was) is)
    leaves-change b ds c (changes.LetsGo n y l m there rests whole) single few k own was is = by (end_eq y x) refl
      where
        by : (t : Bool) → end_eq y x ≡ t → (1 ≤ how_often x c.doomed) ⊎ ((is_busy k ≡ false) × IsWhole k)
        by true same = inr (subst (λ (j : Kept). (is_busy j ≡ false) × IsWhole j) (its-kept n y l b.places single there same k was) (rests, whole))
        by false apart = absurd (keeps-not-gone (holding_at x c.places) own (k, other-held n (Gone false) b.places (apart-number n y l b.places there apart) ∙ was) is)
    leaves-change b ds c (changes.Destroys n y l m there) single few k own was is = by (end_eq y x) refl
      where
        by : (t : Bool) → end_eq y x ≡ t → (1 ≤ how_often x c.doomed) ⊎ ((is_busy k ≡ false) × IsWhole k)
        by true same = inl (its-doom y b.doomed same)
        by false apart = absurd (keeps-not-gone (holding_at x c.places) own (k, other-held n (Gone (returns l.sending)) b.places (apart-number n y l b.places there apart) ∙ was) is)
    leaves-change b ds c (changes.Holds y rest m hand) single few k own was is = absurd (keeps-not-gone (holding_at x c.places) own (still-held (number_of y b.places) fresh b.places (k, was)) is)
    leaves-change b ds c (changes.Gets y rest m hand) single few k own was is = absurd (keeps-not-gone (holding_at x c.places) own (got-held y b.places few (k, was)) is)
    leaves-change b ds c (changes.Dooms y rest m hand) single few k own was is = absurd (keeps-not-gone (holding_at x b.places) own (k, was) is)
    leaves-change b ds c (changes.Sorts hand m less) single few k own was is = absurd (keeps-not-gone (holding_at x b.places) own (k, was) is)

    -- ---- what is told

    pub grows-told : (t : Turn) (b : Ledger) (ds : List DeedOn) (c : Ledger) → Telling version t b ds c → how_often x b.doomed ≤ how_often x c.doomed
    grows-told t b ds c (tells.Silent l silent) = omega arith
    grows-told t b ds c (tells.Answers n y k h l there is) = omega arith
    grows-told t b ds c (tells.Hears n y k room bytes packet xs l there brings spelled hand readable) = omega arith
    grows-told t b ds c (tells.Ignores n y k bytes left xs l there brings e) = omega arith
    grows-told t b ds c (tells.Breaks n y k bytes xs l there brings) = more-doomed y b.doomed
    grows-told t b ds c (tells.Dies n y k l there death) = omega arith
    grows-told t b ds c (tells.DiesWith n y k h l there death) = omega arith

    pub broken-told : (t : Turn) (b : Ledger) (ds : List DeedOn) (c : Ledger) → Telling version t b ds c → (k : Kept) (own : Bool) → holding_at x b.places ≡ Keeps k → holding_at x c.places ≡ Gone own → 1 ≤ how_often x c.doomed
    broken-told t b ds c (tells.Silent l silent) k own was is = absurd (keeps-not-gone (holding_at x b.places) own (k, was) is)
    broken-told t b ds c (tells.Answers n y l h m there so) k own was is = absurd (keeps-not-gone (holding_at x c.places) own (still-held n (after version h l) b.places (k, was)) is)
    broken-told t b ds c (tells.Hears n y l room bytes packet xs m there brings spelled hand readable) k own was is =
        absurd (keeps-not-gone (holding_at x c.places) own (still-held n (hears version room packet xs (receive_over l)).0 b.places (k, was)) is)
    broken-told t b ds c (tells.Ignores n y l bytes left xs m there brings e) k own was is = absurd (keeps-not-gone (holding_at x c.places) own (still-held n (receive_over l) b.places (k, was)) is)
    broken-told t b ds c (tells.Dies n y l m there death) k own was is = absurd (keeps-not-gone (holding_at x c.places) own (still-held n (dies l) b.places (k, was)) is)
    broken-told t b ds c (tells.DiesWith n y l h m there death) k own was is = absurd (keeps-not-gone (holding_at x c.places) own (still-held n (dies (after version h l)) b.places (k, was)) is)
    broken-told t b ds c (tells.Breaks n y l bytes xs m there brings) k own was is = by (end_eq y x) refl
      where
        qs : List Place
        qs = with_holding n (Keeps (receive_over l)) b.places

        apart-then : end_eq y x ≡ false → n ≡ number_of x qs → ⊥
        apart-then apart e = apart-number n y l b.places there apart (e ∙ number_with x n (Keeps (receive_over l)) b.places)

        by : (d : Bool) → end_eq y x ≡ d → 1 ≤ how_often x c.doomed
        by true same = its-doom y b.doomed same
        by false apart =
            absurd (keeps-not-gone (holding_at x c.places) own
            (k, other-held n (Gone (returns l.sending)) qs (apart-then apart) ∙ other-held n (Keeps (receive_over l)) b.places (apart-number n y l b.places there apart) ∙ was) is)

    -- ---- all changes

    pub grows-all : (b : Ledger) (ds : List DeedOn) (c : Ledger) → Changes version b ds c → how_often x b.doomed ≤ how_often x c.doomed
    grows-all b ds c (changes.None l) = omega arith
    grows-all b ds c (changes.Then l es d fs m one others) = let first = grows-change b es d one in let rest = grows-all d fs c others in omega (arith, first, rest)

    module _ (n : ℕ) (Busy : Type 0) (gs : List Told) (P : EndId → Type 0) (comes : (y : EndId) → 1 ≤ how_often y (ends_of gs) → P y) where
      -- what is kept for an end is carried
      carries-so : (b : Ledger) → ((y : EndId) → 1 ≤ total (seen y b) → P y) → (k : Kept) → holding_at x b.places ≡ Keeps k → (y : EndId) → 1 ≤ how_often y (carried k) → P y
      carries-so b mine k held y there =
          let out : how_often y (carried k) ≤ how_often y (carried_at b.places) = place-out b.places (number_of x b.places) k held y in
          mine y (omega (arith, there, out))

      pub all-lead : (b : Ledger) (ds : List DeedOn) (c : Ledger) → Changes version b ds c → AreSingle b.places → ((y : EndId) → total (seen y b) ≤ 1) → total (seen x b) + n ≤ 1 → length c.places < 4294967295
          → ((y : EndId) → 1 ≤ total (seen y b) → P y) → (p : Pair) → (p.far.standing ≡ Destroyed → ⊥) → StandsAt version n Busy gs P (seen x b) p → LeadsSo version n Busy gs P p (deeds_at x ds) (seen x c)
      all-lead b ds c (changes.None l) single one few room mine p uncut at = stays version n Busy gs P comes p uncut (seen x b) at
      all-lead b ds c (changes.Then l es d fs m change others) single one few room mine p uncut at =
          let d_room : length d.places < 4294967295 = all-had-room d fs c others room in
          let b_room : length b.places < 4294967295 = had-room b es d change d_room in
          let step : One version b es d = one_at version b es d change single one b_room in
          let first : LeadsSo version n Busy gs P p (deeds_at x es) (seen x d) =
          change-leads version n Busy gs P comes p uncut (seen x b) (deeds_at x es) (seen x d) (step.at x) few (grows-change b es d change) (leaves-change b es d change single b_room) (carries-so b mine) at in
          let less : (y : EndId) → total (seen y d) ≤ total (seen y b) = λ y. less_at version y b es d step in
          let rest : LeadsSo version n Busy gs P first.to (deeds_at x fs) (seen x c) =
          all-lead d fs c others step.single (λ y. let few_y = less y in let was = one y in omega (arith, few_y, was)) (let few_x = less x in omega (arith, few_x, few)) room
          (λ y there. mine y (let few_y = less y in omega (arith, few_y, there))) first.to (λ gone. uncut (sym (ap (λ (z : Side). z.standing) first.far) ∙ gone)) first.stands in
          subst (λ (all : List Deed). LeadsSo version n Busy gs P p all (seen x c)) (sym (deeds_both x es fs)) (goes-on version n Busy gs P p (deeds_at x es) (deeds_at x fs) (seen x d) (seen x c) first rest)
