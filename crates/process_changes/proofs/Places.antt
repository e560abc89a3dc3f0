-- The ends of a process after some changes.
use Rattle.std.proofs.Common.{arith, ◌≡◌, ℕ, suc, ◌+◌, ◌≤◌, Bool, true, false, ◌&&◌, ◌||◌, List, [], ◌∷◌, ◌++◌, length, Option, Some, None, if◌then◌else◌, refl, sym, ap, subst, ◌∙◌, append_assoc, append-nil, eq-eqb, eqb-true}
use Rattle.std.specs.Prelude.{◌==◌}
use Rattle.std.specs.List.{list_any}
use Rattle.charlotte_calls.specs.EndEq.{same_link}
use Rattle.charlotte_calls.specs.declared.names.EndId.{EndId}
use Rattle.typing_rules.specs.declared.exception.Exception.{Exception}
use Rattle.typing_rules.specs.declared.exception.Exception.TheVariants as exceptions
use Rattle.end_protocol.specs.declared.falling.Fallen.{Fallen}
use Rattle.end_protocol.specs.Falling.{destroyed, held_again, raised}
use Rattle.end_protocol.specs.Kept.{fresh}
use Rattle.end_protocol.specs.Wanting.{is_busy}
use Rattle.process_run.specs.States.{DeedOn, Gone, Held, Holding, Keeps, Place, State}
use Rattle.process_run.specs.Actions.{fault_among, is_kept_back, link_fault, or_fault}
use Rattle.process_run.specs.Deaths.{falls, raises, raises_in}
use Rattle.process_run.specs.Ends.{end_of, ends_at, get_all, gets_one, held_at, held_in, held_of, hold_all, let_go, number_of, place_at, with_holding}
use Rattle.process_changes.proofs.Numbers.{other_place}
use Rattle.process_changes.specs.Changes.{Change, Changes, Dooms, Gets, Holds, IsHeld, LetsGo, None as NoChange, RestWhole, Sorts, Then}
use Rattle.process_changes.specs.Ledgers.{Ledger, how_often, ledger}

pub true_not_false : true ≡ false → ⊥
true_not_false e = cc

-- ---- one after the other

module _ (version : ℕ) where
  pub chain : (b : Ledger) (ds : List DeedOn) (c : Ledger) (es : List DeedOn) (d : Ledger) → Changes version b ds c → Changes version c es d → Changes version b (ds ++ es) d
  chain b ds c es d (NoChange l) more = more
  chain b ds c es d (Then a as' m bs l one others) more =
      subst (λ (l : List DeedOn). Changes version b l d) (sym (append_assoc as' bs es)) (Then b as' m (bs ++ es) d one (chain m bs c es d others more))

  pub just : (b : Ledger) (ds : List DeedOn) (c : Ledger) → Change version b ds c → Changes version b ds c
  just b ds c one = subst (λ (l : List DeedOn). Changes version b l c) (append-nil ds) (Then b ds c [] c one (NoChange c))

  pub same_ledger : (b c : Ledger) → c ≡ b → Changes version b [] c
  same_ledger b c e = subst (λ (l : Ledger). Changes version b [] l) (sym e) (NoChange b)

  -- ---- the ends in the hand

  abbrev ends_in : List Place → List EndId → List EndId → Ledger
  ends_in ps doomed hand = record { places = ps; doomed = doomed; hand = hand }

  -- they are held again; are got; or are to be destroyed
  pub holds : (xs rest : List EndId) (ps : List Place) (doomed : List EndId) → Changes version (ends_in ps doomed (xs ++ rest)) [] (ends_in (hold_all xs ps) doomed rest)
  holds [] rest ps doomed = NoChange _
  holds (x ∷ xs) rest ps doomed = Then _ [] _ [] _ (Holds x (xs ++ rest) _ refl) (holds xs rest (with_holding (number_of x ps) (Keeps fresh) ps) doomed)

  pub all_got : (xs rest : List EndId) (ps : List Place) (doomed : List EndId) → Changes version (ends_in ps doomed (xs ++ rest)) [] (ends_in (get_all xs ps) doomed rest)
  all_got [] rest ps doomed = NoChange _
  all_got (x ∷ xs) rest ps doomed = Then _ [] _ [] _ (Gets x (xs ++ rest) _ refl) (all_got xs rest (gets_one x ps) doomed)

  pub all_doomed : (xs rest : List EndId) (ps : List Place) (doomed : List EndId) → Changes version (ends_in ps doomed (xs ++ rest)) [] (ends_in ps (doomed ++ xs) rest)
  all_doomed [] rest ps doomed = subst (λ (l : List EndId). Changes version (ends_in ps doomed rest) [] (ends_in ps l rest)) (sym (append-nil doomed)) (NoChange _)
  all_doomed (x ∷ xs) rest ps doomed =
      subst (λ (l : List EndId). Changes version (ends_in ps doomed (x ∷ xs ++ rest)) [] (ends_in ps l rest)) (append_assoc doomed (x ∷ []) xs)
      (Then _ [] _ [] _ (Dooms x (xs ++ rest) _ refl) (all_doomed xs rest ps (doomed ++ x ∷ [])))

  -- they are dropped
  pub drops : (xs : List EndId) (ps : List Place) (doomed : List EndId) → Changes version (ends_in ps doomed xs) [] (ends_in ps doomed [])
  drops xs ps doomed = just (ends_in ps doomed xs) [] (ends_in ps doomed []) (Sorts [] (ends_in ps doomed xs) (λ x. omega arith))

-- ---- what falls with an end

raised_ledger : (ns : List ℕ) (x : Exception) (s : State) (xs : List EndId) → ledger (raises_in ns x s) xs ≡ ledger s xs
raised_ledger [] x s xs = refl
raised_ledger (n ∷ ns) x s xs = raised_ledger ns x (raises n x s) xs

raised_version : (ns : List ℕ) (x : Exception) (s : State) → (raises_in ns x s).version ≡ s.version
raised_version [] x s = refl
raised_version (n ∷ ns) x s = raised_version ns x (raises n x s)

-- what it carried is in the hand, before other ends
pub falls_changes : (version : ℕ) (f : Fallen) (s : State) (rest : List EndId) → Changes version (ledger s ((held_again f ++ destroyed f) ++ rest)) [] (ledger (falls f s) rest)
falls_changes version f s rest =
    let held : List Place = hold_all (held_again f) s.places in
    let fell : State = record s { places = held; doomed = s.doomed ++ destroyed f } in
    subst (λ (l : List EndId). Changes version (ledger s l) [] (ledger (falls f s) rest)) (sym (append_assoc (held_again f) (destroyed f) rest))
    (chain version _ [] (ledger (record s { places = held }) (destroyed f ++ rest)) [] _ (holds version (held_again f) (destroyed f ++ rest) s.places s.doomed)
    (chain version _ [] (ledger fell rest) [] _ (all_doomed version (destroyed f) rest held s.doomed)
    (same_ledger version (ledger fell rest) (ledger (falls f s) rest) (raised_ledger (raised f) exceptions.DeadLink fell rest))))

pub falls_version : (f : Fallen) (s : State) → (falls f s).version ≡ s.version
falls_version f s = raised_version (raised f) exceptions.DeadLink _

-- ---- an end that is held

pub same_some : {X : Type 0} (x y : X) → ◌≡◌ {A = Option X} (Some x) (Some y) → x ≡ y
same_some x y e = cc

pub record IsHeldHere (n : ℕ) (h : Held) (ps : List Place) : Type 0 where
  pub number : h.number ≡ n
  pub there : IsHeld h.number h.end h.kept ps

holding_is : (n : ℕ) (p : Place) (g : Holding) (h : Held) (ps : List Place) → p.holding ≡ g → place_at n ps ≡ Some p → held_in n p.end g ≡ Some h → IsHeldHere n h ps
holding_is n p (Gone own) h ps is there at = let no : ◌≡◌ {A = Option Held} None (Some h) = at in absurd cc
holding_is n p (Keeps k) h ps is there at =
    subst (λ (i : Held). IsHeldHere n i ps) (same_some (record { number = n; end = p.end; kept = k }) h at)
    (record { number = refl; there = there ∙ ap (λ (g : Holding). Some (record p { holding = g })) is })

place_is : (n : ℕ) (o : Option Place) (h : Held) (ps : List Place) → place_at n ps ≡ o → held_of n o ≡ Some h → IsHeldHere n h ps
place_is n None h ps there at = let no : ◌≡◌ {A = Option Held} None (Some h) = at in absurd cc
place_is n (Some p) h ps there at = holding_is n p p.holding h ps refl there at

pub held_here : (n : ℕ) (h : Held) (s : State) → held_at n s ≡ Some h → IsHeldHere n h s.places
held_here n h s at = place_is n (place_at n s.places) h s.places refl at

-- ---- ends that go with a message

pub either_not : (a b : Bool) → (a || b) ≡ false → (a ≡ false) × (b ≡ false)
either_not false b e = (refl, e)
either_not true b e = let no : true ≡ false = e in absurd cc

module _ (on : Held) (s : State) where
  -- these are held, each is another end than the one on which the message goes, and at rest
  pub record MayGo (n : ℕ) (before : List ℕ) : Type 0 where
    pub held : Held
    pub at : held_at n s ≡ Some held
    pub new : list_any (λ i. i == held.number) before ≡ false
    pub elsewhere : same_link held.end on.end ≡ false
    pub rests : is_busy held.kept ≡ false

  may_go : (n : ℕ) (before : List ℕ) (o : Option Held) → held_at n s ≡ o → link_fault on before o ≡ None → MayGo n before
  may_go n before None e fault = let no : ◌≡◌ {A = Option Exception} (Some exceptions.NoLink) None = fault in absurd cc
  may_go n before (Some h) e fault = by_test (is_kept_back on before h) refl fault
    where
      by_test : (b : Bool) → is_kept_back on before h ≡ b → (if b then Some exceptions.BusyLink else None) ≡ None → MayGo n before
      by_test true is none = let wrong : ◌≡◌ {A = Option Exception} (Some exceptions.BusyLink) None = none in absurd cc
      by_test false is none =
          let outer = either_not (list_any (λ i. i == h.number) before || same_link h.end on.end) (is_busy h.kept) is in
          let inner = either_not (list_any (λ i. i == h.number) before) (same_link h.end on.end) outer.0 in
          record { held = h; at = e; new = inner.0; elsewhere = inner.1; rests = outer.1 }

  none_first : (o p : Option Exception) → or_fault o p ≡ None → (o ≡ None) × (p ≡ None)
  none_first None p e = (refl, e)
  none_first (Some x) p e = let no : ◌≡◌ {A = Option Exception} (Some x) None = e in absurd cc

  both_so : (a b : Bool) → a ≡ true → b ≡ true → (a && b) ≡ true
  both_so true b e f = f
  both_so false b e f = let wrong : false ≡ true = e in absurd cc

  same_link_self : (x y : EndId) → x ≡ y → same_link x y ≡ true
  same_link_self x y e =
      subst (λ (z : EndId). same_link x z ≡ true) e
      (both_so (x.link.maker == x.link.maker) (x.link.count == x.link.count) (eq-eqb x.link.maker x.link.maker refl) (eq-eqb x.link.count x.link.count refl))

  -- the others are as they were
  abbrev AreSame : List ℕ → List Place → Type 0
  AreSame before ps = (m : ℕ) → list_any (λ i. i == m) before ≡ false → place_at m ps ≡ place_at m s.places

  -- all of them go into the hand, and where the message goes nothing changes
  pub record Going (version : ℕ) (ns before : List ℕ) (b : Ledger) : Type 0 where
    pub hand : List EndId
    pub changes : Changes version b [] (record b { places = let_go ns b.places; hand = hand })
    pub often : (x : EndId) → how_often x (ends_at ns s) + how_often x b.hand ≤ how_often x hand
    pub same : place_at on.number (let_go ns b.places) ≡ place_at on.number s.places
    pub many : length (ends_at ns s) ≡ length ns

  -- the ledger after one went
  abbrev one_gone : ℕ → EndId → Ledger → Ledger
  one_gone n x b = record b { places = with_holding n (Gone false) b.places; hand = x ∷ b.hand }

  goes_first : RestWhole s.places → (version n : ℕ) (ns before : List ℕ) (b : Ledger) → (may : MayGo n before) → AreSame before b.places → Going version ns (n ∷ before) (one_gone n may.held.end b) → Going version (n ∷ ns) before b
  goes_first whole version n ns before b may same rest =
      let x : EndId = may.held.end in
      let here = held_here n may.held s may.at in
      let number : may.held.number ≡ n = here.number in
      let was : IsHeld n x may.held.kept s.places = subst (λ (k : ℕ). IsHeld k x may.held.kept s.places) number here.there in
      let there : IsHeld n x may.held.kept b.places = same n (ap (λ (k : ℕ). list_any (λ i. i == k) before) (sym number) ∙ may.new) ∙ was in
      let first : ends_at (n ∷ ns) s ≡ x ∷ ends_at ns s = ap (λ (o : Option Held). end_of o ++ ends_at ns s) may.at in
      record {
        hand = rest.hand;
        changes = Then b [] (one_gone n x b) [] _ (LetsGo n x may.held.kept b there may.rests (whole n x may.held.kept was may.rests)) rest.changes;
        often = λ y. (let more = rest.often y in let this : how_often y (ends_at (n ∷ ns) s) ≡ how_often y (x ∷ ends_at ns s) = ap (how_often y) first in omega arith);
        same = rest.same;
        many = ap (λ (l : List EndId). length l) first ∙ ap suc rest.many;
      }

  pub goes_away : RestWhole s.places → (version : ℕ) (ns before : List ℕ) (b : Ledger) → IsHeld on.number on.end on.kept s.places → fault_among on before ns s ≡ None → AreSame before b.places → list_any (λ i. i == on.number) before ≡ false → Going version ns before b
  goes_away whole version [] before b there fault same unnamed = record { hand = b.hand; changes = NoChange b; often = λ x. omega arith; same = same on.number unnamed; many = refl }
  goes_away whole version (n ∷ ns) before b there fault same unnamed =
      let both = none_first (link_fault on before (held_at n s)) (fault_among on (n ∷ before) ns s) fault in
      let may = may_go n before (held_at n s) refl both.0 in
      goes_first whole version n ns before b may same
      (goes_away whole version ns (n ∷ before) (one_gone n may.held.end b) there both.1 (others same) (away may))
    where
      others : AreSame before b.places → AreSame (n ∷ before) (with_holding n (Gone false) b.places)
      others same m unnamed =
          let both = either_not (n == m) (list_any (λ i. i == m) before) unnamed in
          other_place n m (Gone false) b.places (λ e. let no : true ≡ false = sym (eq-eqb n m e) ∙ both.0 in cc) ∙ same m both.1

      away : MayGo n before → list_any (λ i. i == on.number) (n ∷ before) ≡ false
      away may = by_number (n == on.number) refl
        where
          -- it is another end
          not_it : n ≡ on.number → ⊥
          not_it e =
              let here = held_here n may.held s may.at in
              let one : IsHeld n may.held.end may.held.kept s.places = subst (λ (k : ℕ). IsHeld k may.held.end may.held.kept s.places) here.number here.there in
              let two : IsHeld n on.end on.kept s.places = subst (λ (k : ℕ). IsHeld k on.end on.kept s.places) (sym e) there in
              let same_place : record { end = may.held.end; holding = Keeps may.held.kept } ≡ record { end = on.end; holding = Keeps on.kept } = same_some (record { end = may.held.end; holding = Keeps may.held.kept }) (record { end = on.end; holding = Keeps on.kept }) (sym one ∙ two) in
              true_not_false (sym (same_link_self may.held.end on.end (ap (λ (p : Place). p.end) same_place)) ∙ may.elsewhere)

          by_number : (b : Bool) → (n == on.number) ≡ b → (b || list_any (λ i. i == on.number) before) ≡ false
          by_number true e = absurd (not_it (eqb-true n on.number e))
          by_number false e = unnamed
