-- What holds of an end that is held, and of what is kept for it afterwards.
use Rattle.std.proofs.Common.{arith, ◌≡◌, ℕ, zero, suc, ◌+◌, ◌≤◌, false, List, [], ◌∷◌, length-set, Option, Some, None, slice_get, refl, sym, ap, subst, ◌∙◌}
use Rattle.std.specs.List.{AllByRecursion}
use Rattle.machine_sound.specs.Sound.{times}
use Rattle.end_protocol.specs.declared.kept.Kept.{Kept}
use Rattle.process_run.specs.States.{Gone, Held, Holding, Keeps, Open, Place, State}
use Rattle.process_run.specs.Actions.{with_opened}
use Rattle.process_run.specs.Ends.{held_at, held_in, held_of, keeps, let_go, lets_go, place_at, set_holding, with_holding}
use Rattle.process_sound.specs.Ends.{AreWaiting, IsHolding, IsKept, waiting, waiting_in, waits}
use Rattle.process_sound.specs.Processes.{IsGoing}
use Rattle.process_sound.proofs.Deaths.{IsHeldAs}
use Rattle.process_sound.proofs.Every.{every_at, some_is}
use Rattle.process_sound.proofs.Places.{let_go_ends, put_each, put_ends, puts_going}

-- ---- an end that is held

place_every : (P : Place → Type 0) (n : ℕ) (ps : List Place) (p : Place) → place_at n ps ≡ Some p → AllByRecursion P ps → P p
place_every P zero ps p there all = let no : None ≡ Some p = there in absurd cc
place_every P (suc i) ps p there all = every_at P ps i p there all

index_waits : (k i : ℕ) (ps : List Place) (p : Place) → slice_get ps i ≡ Some p → times k (waiting_in p.holding) ≤ waits k ps
index_waits k i [] p there = let no : None ≡ Some p = there in absurd cc
index_waits k zero (q ∷ ps) p there =
    let same : times k (waiting_in q.holding) ≡ times k (waiting_in p.holding) = ap (λ (r : Place). times k (waiting_in r.holding)) (some_is q p there) in omega arith
index_waits k (suc i) (q ∷ ps) p there = let rest = index_waits k i ps p there in omega arith

-- no more wait at an end than at all
pub place_waits : (k n : ℕ) (ps : List Place) (p : Place) → place_at n ps ≡ Some p → times k (waiting_in p.holding) ≤ waits k ps
place_waits k zero ps p there = let no : None ≡ Some p = there in absurd cc
place_waits k (suc i) ps p there = index_waits k i ps p there

module _ (owed : List ℕ) (s : State) (is : IsGoing owed s) where
  pub held_holding : (n : ℕ) (p : Place) (g : Holding) (h : Held) → p.holding ≡ g → place_at n s.places ≡ Some p → held_in n p.end g ≡ Some h → IsHeldAs h s
  held_holding n p (Gone own) h holds there at = let no : None ≡ Some h = at in absurd cc
  held_holding n p (Keeps k) h holds there at =
      let all : IsHolding s.version s.code s.turns p.holding = place_every (λ (q : Place). IsHolding s.version s.code s.turns q.holding) n s.places p there is.ends.each in
      let both : IsHolding s.version s.code s.turns (Keeps k) = subst (λ (q : Holding). IsHolding s.version s.code s.turns q) holds all in
      let it : Held = record { number = n; end = p.end; kept = k } in
      subst (λ (x : Held). IsHeldAs x s) (some_is it h at)
      (record {
        place = p;
        there = there;
        kept = both.0;
        waits = both.1;
        fewer = λ j. let same : times j (waiting_in p.holding) ≡ times j (waiting k) = ap (λ (q : Holding). times j (waiting_in q)) holds in omega arith;
      })

  held_place : (n : ℕ) (o : Option Place) (h : Held) → place_at n s.places ≡ o → held_of n o ≡ Some h → IsHeldAs h s
  held_place n None h there at = let no : None ≡ Some h = at in absurd cc
  held_place n (Some p) h there at = held_holding n p p.holding h refl there at

  pub held_as : (n : ℕ) (h : Held) → held_at n s ≡ Some h → IsHeldAs h s
  held_as n h at = held_place n (place_at n s.places) h refl at

-- what is kept for it is another
pub held_with : (h : Held) (k : Kept) (s : State) → IsKept s.version s.code k → AreWaiting s.code s.turns k → waiting k ≡ waiting h.kept → IsHeldAs h s → IsHeldAs (record h { kept = k }) s
held_with h k s kept waits same held = record {
  place = held.place;
  there = held.there;
  kept = kept;
  waits = waits;
  fewer = λ n. let fewer = held.fewer n in let all : times n (waiting k) ≡ times n (waiting h.kept) = ap (times n) same in omega arith;
}

-- ---- what is kept for it afterwards

module _ (owed after : List ℕ) (h : Held) (k : Kept) (s : State) (held : IsHeldAs h s) (kept : IsKept s.version s.code k) (are : AreWaiting s.code s.turns k)
    (fewer : (n : ℕ) → times n (waiting k) + times n after ≤ times n (waiting h.kept) + times n owed) (is : IsGoing owed s) where
  less : (n : ℕ) → times n (waiting k) + times n after ≤ times n (waiting_in held.place.holding) + times n owed
  less n = let one = fewer n in let two = held.fewer n in omega arith

  pub keeps_going : IsGoing after (keeps h k s)
  keeps_going = puts_going owed after h.number (Keeps k) held.place s held.there (kept, are) less is

-- ---- ends that are let go meanwhile

-- at each place of the one wait no more than at that of the other
abbrev AtMost : ℕ → List Place → List Place → Type 0
AtMost k [] [] = Unit {0}
AtMost k [] (p ∷ ps) = ⊥
AtMost k (q ∷ qs) [] = ⊥
AtMost k (q ∷ qs) (p ∷ ps) = (times k (waiting_in q.holding) ≤ times k (waiting_in p.holding)) × AtMost k qs ps

most_same : (k : ℕ) (ps : List Place) → AtMost k ps ps
most_same k [] = tt
most_same k (p ∷ ps) = (omega arith, most_same k ps)

most_on : (k : ℕ) (qs rs ps : List Place) → AtMost k qs rs → AtMost k rs ps → AtMost k qs ps
most_on k [] [] [] one two = tt
most_on k [] [] (p ∷ ps) one two = absurd two
most_on k [] (r ∷ rs) ps one two = absurd one
most_on k (q ∷ qs) [] ps one two = absurd one
most_on k (q ∷ qs) (r ∷ rs) [] one two = absurd two
most_on k (q ∷ qs) (r ∷ rs) (p ∷ ps) one two = (let a = one.0 in let b = two.0 in omega arith, most_on k qs rs ps one.1 two.1)

most_waits : (k : ℕ) (qs ps : List Place) → AtMost k qs ps → waits k qs ≤ waits k ps
most_waits k [] [] most = omega arith
most_waits k [] (p ∷ ps) most = absurd most
most_waits k (q ∷ qs) [] most = absurd most
most_waits k (q ∷ qs) (p ∷ ps) most = let one = most.0 in let rest = most_waits k qs ps most.1 in omega arith

set_behind : (i : ℕ) (h : Holding) (p : Place) (ps : List Place) (o : Option Place) → set_holding (suc i) h o (p ∷ ps) ≡ p ∷ set_holding i h o ps
set_behind i h p ps None = refl
set_behind i h p ps (Some q) = refl

most_set : (k i : ℕ) (h : Holding) (qs ps : List Place) → AtMost k qs ps → AtMost k (set_holding i h (slice_get qs i) qs) (set_holding i h (slice_get ps i) ps)
most_set k i h [] [] most = tt
most_set k i h [] (p ∷ ps) most = absurd most
most_set k i h (q ∷ qs) [] most = absurd most
most_set k zero h (q ∷ qs) (p ∷ ps) most = (omega arith, most.1)
most_set k (suc i) h (q ∷ qs) (p ∷ ps) most =
    subst (λ (xs : List Place). AtMost k xs (set_holding (suc i) h (slice_get ps i) (p ∷ ps))) (sym (set_behind i h q qs (slice_get qs i)))
    (subst (λ (xs : List Place). AtMost k (q ∷ set_holding i h (slice_get qs i) qs) xs) (sym (set_behind i h p ps (slice_get ps i))) (most.0, most_set k i h qs ps most.1))

most_with : (k n : ℕ) (h : Holding) (qs ps : List Place) → AtMost k qs ps → AtMost k (with_holding n h qs) (with_holding n h ps)
most_with k zero h qs ps most = most
most_with k (suc i) h qs ps most = most_set k i h qs ps most

gone_index : (k i : ℕ) (ps : List Place) → AtMost k (set_holding i (Gone false) (slice_get ps i) ps) ps
gone_index k i [] = tt
gone_index k zero (p ∷ ps) = (omega arith, most_same k ps)
gone_index k (suc i) (p ∷ ps) =
    subst (λ (xs : List Place). AtMost k xs (p ∷ ps)) (sym (set_behind i (Gone false) p ps (slice_get ps i))) (omega arith, gone_index k i ps)

gone_most : (k n : ℕ) (ps : List Place) → AtMost k (with_holding n (Gone false) ps) ps
gone_most k zero ps = most_same k ps
gone_most k (suc i) ps = gone_index k i ps

let_go_most : (k : ℕ) (ns : List ℕ) (ps : List Place) → AtMost k (let_go ns ps) ps
let_go_most k [] ps = most_same k ps
let_go_most k (n ∷ ns) ps = most_on k (let_go ns (with_holding n (Gone false) ps)) (with_holding n (Gone false) ps) ps (let_go_most k ns (with_holding n (Gone false) ps)) (gone_most k n ps)

module _ (owed after ns : List ℕ) (h : Held) (k : Kept) (s : State) (held : IsHeldAs h s) (kept : IsKept s.version s.code k) (are : AreWaiting s.code s.turns k)
    (fewer : (n : ℕ) → times n (waiting k) + times n after ≤ times n (waiting h.kept) + times n owed) (is : IsGoing owed s) where
  -- this is kept for it after these ends were let go
  pub keeps_let_going : IsGoing after (keeps h k (lets_go ns s))
  keeps_let_going =
      let there = put_ends s.version s.code s.turns owed after h.number (Keeps k) held.place s.places held.there (kept, are)
      (λ n. let one = fewer n in let two = held.fewer n in omega arith) is.ends in
      let left = let_go_ends s.version s.code s.turns owed ns s.places is.ends in
      record {
        version = is.version;
        code = is.code;
        process = is.process;
        ends = record {
          each = put_each s.version s.code s.turns h.number (Keeps k) (let_go ns s.places) (place_at h.number (let_go ns s.places)) refl (kept, are) left.each;
          once = λ n.
              let most = most_waits n (with_holding h.number (Keeps k) (let_go ns s.places)) (with_holding h.number (Keeps k) s.places)
              (most_with n h.number (Keeps k) (let_go ns s.places) s.places (let_go_most n ns s.places)) in
              let once = there.once n in
              omega arith;
        };
      }

-- ---- open requests

pub opened_going : (owed : List ℕ) (n : ℕ) (os : List Open) (s : State) → IsGoing owed s → IsGoing owed (with_opened n os s)
opened_going owed n os s is = record {
  version = is.version;
  code = is.code;
  process = record { sound = is.process.sound; parts = is.process.parts; heard = is.process.heard; lists = length-set s.opened n os ∙ is.process.lists };
  ends = is.ends;
}
