-- Places of ends are changed, and ends are got.
use Rattle.std.proofs.Common.{arith, ◌≡◌, ℕ, zero, suc, ◌+◌, ◌-◌, ◌≤◌, List, [], ◌∷◌, ◌++◌, length, take, false, Option, Some, None, slice_get, slice_set, refl, sym, ap, subst}
use Rattle.std.specs.List.{AllByRecursion}
use Rattle.charlotte_calls.specs.declared.names.EndId.{EndId}
use Rattle.machine_sound.specs.Sound.{times}
use Rattle.machine_turns.specs.Turns.{Turns}
use Rattle.end_protocol.specs.Asking.{later}
use Rattle.end_protocol.specs.Kept.{fresh}
use Rattle.process_run.specs.States.{Holding, Keeps, Gone, Module, Place, State}
use Rattle.process_run.specs.Ends.{dooms, get_all, gets, gets_one, hold_all, holds_again, let_go, lets_go, number_of, place_at, puts, set_holding, with_holding}
use Rattle.process_sound.specs.Ends.{AreEnds, IsHolding, waiting_in, waits}
use Rattle.process_sound.specs.Processes.{IsGoing}
use Rattle.process_sound.proofs.Every.{every_append, every_set, some_is}

-- ---- one place

set_waits : (k i : ℕ) (h : Holding) (p : Place) (ps : List Place) → slice_get ps i ≡ Some p → waits k (slice_set ps i (record p { holding = h })) + times k (waiting_in p.holding) ≡ waits k ps + times k (waiting_in h)
set_waits k i h p [] there = let no : None ≡ Some p = there in absurd cc
set_waits k zero h p (q ∷ ps) there =
    let same : times k (waiting_in q.holding) ≡ times k (waiting_in p.holding) = ap (λ (r : Place). times k (waiting_in r.holding)) (some_is q p there) in omega arith
set_waits k (suc i) h p (q ∷ ps) there = let rest = set_waits k i h p ps there in omega arith

module _ (version : ℕ) (m : Module) (t : Turns) where
  abbrev Each : List Place → Type 0
  Each ps = AllByRecursion (λ p. IsHolding version m t p.holding) ps

  set_ends : (owed after : List ℕ) (i : ℕ) (h : Holding) (p : Place) (ps : List Place) → slice_get ps i ≡ Some p → IsHolding version m t h →
      ((k : ℕ) → times k (waiting_in h) + times k after ≤ times k (waiting_in p.holding) + times k owed) → AreEnds version m t owed ps → AreEnds version m t after (slice_set ps i (record p { holding = h }))
  set_ends owed after i h p ps there holds fewer are = record {
    each = every_set (λ (q : Place). IsHolding version m t q.holding) ps i (record p { holding = h }) holds are.each;
    once = λ k. let changed = set_waits k i h p ps there in let less = fewer k in let was = are.once k in omega arith;
  }

  -- The end of a number is held in another way. Threads that wait there no longer are still to have their outcome
  pub put_ends : (owed after : List ℕ) (n : ℕ) (h : Holding) (p : Place) (ps : List Place) → place_at n ps ≡ Some p → IsHolding version m t h →
      ((k : ℕ) → times k (waiting_in h) + times k after ≤ times k (waiting_in p.holding) + times k owed) → AreEnds version m t owed ps → AreEnds version m t after (with_holding n h ps)
  put_ends owed after zero h p ps there holds fewer are = let no : None ≡ Some p = there in absurd cc
  put_ends owed after (suc i) h p ps there holds fewer are =
      subst (λ (o : Option Place). AreEnds version m t after (set_holding i h o ps)) (sym there) (set_ends owed after i h p ps there holds fewer are)

  -- no thread waits at it
  put_calm : (owed : List ℕ) (n : ℕ) (h : Holding) (ps : List Place) (o : Option Place) → place_at n ps ≡ o → IsHolding version m t h → waiting_in h ≡ [] → AreEnds version m t owed ps →
      AreEnds version m t owed (with_holding n h ps)
  put_calm owed zero h ps o there holds calm are = are
  put_calm owed (suc i) h ps None there holds calm are = subst (λ (o : Option Place). AreEnds version m t owed (set_holding i h o ps)) (sym there) are
  put_calm owed (suc i) h ps (Some p) there holds calm are =
      put_ends owed owed (suc i) h p ps there holds (λ k. let none : times k (waiting_in h) ≡ 0 = ap (times k) calm in omega arith) are

  pub put_each : (n : ℕ) (h : Holding) (ps : List Place) (o : Option Place) → place_at n ps ≡ o → IsHolding version m t h → Each ps → Each (with_holding n h ps)
  put_each zero h ps o there holds all = all
  put_each (suc i) h ps None there holds all = subst (λ (o : Option Place). Each (set_holding i h o ps)) (sym there) all
  put_each (suc i) h ps (Some p) there holds all =
      subst (λ (o : Option Place). Each (set_holding i h o ps)) (sym there) (every_set (λ (q : Place). IsHolding version m t q.holding) ps i (record p { holding = h }) holds all)

  -- ---- an end that is got

  pub fresh_holds : IsHolding version m t (Keeps fresh)
  fresh_holds = (
    record { queue = tt; last = omega arith; outstanding = tt; behind = tt; owed = tt; forbade = tt; request = tt; reply = tt; bindings = tt },
    record { outstanding = tt; behind = tt; accepts = tt },
  )

  pub held_again_ends : (owed : List ℕ) (xs : List EndId) (ps : List Place) → AreEnds version m t owed ps → AreEnds version m t owed (hold_all xs ps)
  held_again_ends owed [] ps are = are
  held_again_ends owed (x ∷ xs) ps are =
      held_again_ends owed xs (with_holding (number_of x ps) (Keeps fresh) ps)
      (put_calm owed (number_of x ps) (Keeps fresh) ps (place_at (number_of x ps) ps) refl fresh_holds refl are)

  pub let_go_ends : (owed ns : List ℕ) (ps : List Place) → AreEnds version m t owed ps → AreEnds version m t owed (let_go ns ps)
  let_go_ends owed [] ps are = are
  let_go_ends owed (n ∷ ns) ps are = let_go_ends owed ns (with_holding n (Gone false) ps) (put_calm owed n (Gone false) ps (place_at n ps) refl tt refl are)

  taken_each : (n : ℕ) (ps : List Place) → Each ps → Each (take n ps)
  taken_each zero ps all = tt
  taken_each (suc n) [] all = tt
  taken_each (suc n) (p ∷ ps) all = (all.0, taken_each n ps all.1)

  taken_waits : (k n : ℕ) (ps : List Place) → waits k (take n ps) ≤ waits k ps
  taken_waits k zero ps = omega arith
  taken_waits k (suc n) [] = omega arith
  taken_waits k (suc n) (p ∷ ps) = let rest = taken_waits k n ps in omega arith

  more_waits : (k : ℕ) (ps : List Place) (p : Place) → waiting_in p.holding ≡ [] → waits k (ps ++ p ∷ []) ≡ waits k ps
  more_waits k [] p calm = let none : times k (waiting_in p.holding) ≡ 0 = ap (times k) calm in omega arith
  more_waits k (q ∷ ps) p calm = let rest = more_waits k ps p calm in omega arith

  got_one : (owed : List ℕ) (x : EndId) (ps : List Place) → AreEnds version m t owed ps → AreEnds version m t owed (gets_one x ps)
  got_one owed x ps are =
      let size = later (length ps) - 1 in
      let p : Place = record { end = x; holding = Keeps fresh } in
      record {
        each = every_append (λ (q : Place). IsHolding version m t q.holding) (take size ps) (p ∷ []) (taken_each size ps are.each) (fresh_holds, tt);
        once = λ k. let more = more_waits k (take size ps) p refl in let less = taken_waits k size ps in let was = are.once k in omega arith;
      }

  pub got_ends : (owed : List ℕ) (xs : List EndId) (ps : List Place) → AreEnds version m t owed ps → AreEnds version m t owed (get_all xs ps)
  got_ends owed [] ps are = are
  got_ends owed (x ∷ xs) ps are = got_ends owed xs (gets_one x ps) (got_one owed x ps are)

-- ---- the process

pub puts_going : (owed after : List ℕ) (n : ℕ) (h : Holding) (p : Place) (s : State) → place_at n s.places ≡ Some p → IsHolding s.version s.code s.turns h →
    ((k : ℕ) → times k (waiting_in h) + times k after ≤ times k (waiting_in p.holding) + times k owed) → IsGoing owed s → IsGoing after (puts n h s)
puts_going owed after n h p s there holds fewer is = record {
  version = is.version;
  code = is.code;
  process = is.process;
  ends = put_ends s.version s.code s.turns owed after n h p s.places there holds fewer is.ends;
}

pub holds_going : (owed : List ℕ) (xs : List EndId) (s : State) → IsGoing owed s → IsGoing owed (holds_again xs s)
holds_going owed xs s is = record { version = is.version; code = is.code; process = is.process; ends = held_again_ends s.version s.code s.turns owed xs s.places is.ends }

pub lets_go_going : (owed ns : List ℕ) (s : State) → IsGoing owed s → IsGoing owed (lets_go ns s)
lets_go_going owed ns s is = record { version = is.version; code = is.code; process = is.process; ends = let_go_ends s.version s.code s.turns owed ns s.places is.ends }

pub gets_going : (owed : List ℕ) (xs : List EndId) (s : State) → IsGoing owed s → IsGoing owed (gets xs s)
gets_going owed xs s is = record { version = is.version; code = is.code; process = is.process; ends = got_ends s.version s.code s.turns owed xs s.places is.ends }

pub dooms_going : (owed : List ℕ) (xs : List EndId) (s : State) → IsGoing owed s → IsGoing owed (dooms xs s)
dooms_going owed xs s is = record { version = is.version; code = is.code; process = is.process; ends = is.ends }
