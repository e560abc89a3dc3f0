-- Programs replay the entries of their node, along its work: what they are doing is what was heard of them.
use Rattle.std.proofs.Common.{◌≡◌, ◌≢◌, ◌⊎◌, inl, inr, ℕ, zero, suc, ◌+◌, ◌≤◌, ◌||◌, Bool, true, false, nat_eq, if◌then◌else◌, is_some, List, [], ◌∷◌, ◌++◌, Option, Some, None, MatchOption, append-nil, length, refl, ap, sym, subst, ◌∙◌, arith}
use Rattle.std.specs.List.{list_any}
use Rattle.std.specs.Prelude.{slice_get}
use Rattle.std.proofs.lemmas.Bool.Decides.{eqb_tells}
use Rattle.charlotte_calls.specs.declared.calls.Answer.{Answer as AnAnswer}
use Rattle.charlotte_calls.specs.declared.calls.Call.{Call}
use Rattle.charlotte_calls.specs.declared.calls.ServiceStep.{ServiceStep}
use Rattle.charlotte_calls.specs.declared.names.Pid.{Pid}
use Rattle.charlotte_calls.specs.declared.program.Next.{Next}
use Rattle.charlotte_calls.specs.declared.program.Next.TheVariants as next
use Rattle.kernel_entries.specs.declared.entry.Entry.{Entry}
use Rattle.program_round.specs.Doings.{all_answered, answered_at, can_go_on, doing_after, doing_at}
use Rattle.program_round.specs.declared.doing.Doing.{Doing}
use Rattle.program_round.specs.declared.doing.Doing.TheVariants.{Begins, Answered, Pending, Paused, Ended}
use Rattle.program_runs.proofs.Replay.{replays-chain, replays-hears}
use Rattle.program_runs.specs.Replay.{Asks, IsGiven, IsNoCall, Passes, Pauses, Replayed, Replays, Rests, replay_start, with_entry, with_step}
use Rattle.program_runs.specs.Told.{Heard, NoCall, answer_of, call_of, heard_of, hears, hears_by, later_told, own_told, tells, tells_by}
use Rattle.program_runs.specs.Told as heard
use Rattle.kernel_turns.specs.Nodes.{IsDoing, Meaning, Plays}

-- ---- an entry in which its process makes no call

-- it asked the call whose answer is awaited
asked : (last : Option Next) (c : Call) (doing : Doing) → IsDoing last (heard.Pending c) doing → last ≡ Some (next.Ask c)
asked last c Begins is = let no : heard.Pending c ≡ NoCall = is.1 in absurd cc
asked last c Answered is = let no : heard.Pending c ≡ heard.Answered is.0 is.1 = is.3 in absurd cc
asked last c Pending is =
    let same : heard.Pending c ≡ heard.Pending is.0 = is.2 in
    let of : is.0 ≡ c = cc in
    is.1 ∙ ap (λ d. Some (next.Ask d)) of
asked last c Paused is = absurd is.1
asked last c Ended is = absurd is.1

-- an answer that is told stands
pub doing-none : (last : Option Next) (h : Heard) (doing : Doing) (p : Pid) (steps : List ServiceStep) → IsDoing last h doing
    → IsDoing last (hears_by p h None steps) (if is_some (tells_by p h None steps) then Answered else doing)
doing-none last NoCall doing p steps is = is
doing-none last (heard.Answered c a) doing p steps is = is
doing-none last (heard.Pending c) doing p steps is = told (later_told p c steps)
  where
    told : (t : Option AnAnswer) → IsDoing last (heard_of c t) (if is_some t then Answered else doing)
    told None = is
    told (Some a) = (c, a, asked last c doing is, refl)

-- ---- whom an event answers

-- no two programs are of one process
abbrev pub AreApart : {P : Type 0} → List (Pid × P) → Type 0
AreApart {P} all = (i j : ℕ) (x y : Pid × P) → slice_get all i ≡ Some x → slice_get all j ≡ Some y → x.0 ≡ y.0 → i ≡ j

module _ {P : Type 0} where
  apart-tail : (y : Pid × P) (ys : List (Pid × P)) → AreApart (y ∷ ys) → AreApart ys
  apart-tail y ys apart i j x z at there same = let e : suc i ≡ suc j = apart (suc i) (suc j) x z at there same in omega (arith, e)

  answered-length : (p : Pid) (all : List (Pid × P)) (ds : List Doing) → length (answered_at p all ds) ≡ length ds
  answered-length p [] ds = refl
  answered-length p (y ∷ ys) [] = refl
  answered-length p (y ∷ ys) (d ∷ ds) =
      let rest : length (answered_at p ys ds) ≡ length ds = answered-length p ys ds in
      elim (nat_eq p.0 y.0.0) as (λ b. length (if b then Answered ∷ ds else d ∷ answered_at p ys ds) ≡ length (d ∷ ds)) [ true ↦ refl | false ↦ ap suc rest ]

  pub all_answered-length : (who : List Pid) (all : List (Pid × P)) (ds : List Doing) → length (all_answered who all ds) ≡ length ds
  all_answered-length [] all ds = refl
  all_answered-length (p ∷ ps) all ds = all_answered-length ps all (answered_at p all ds) ∙ answered-length p all ds

  -- one process
  at-answered : (p : Pid) (all : List (Pid × P)) (ds : List Doing) (i : ℕ) (x : Pid × P) → slice_get all i ≡ Some x → length all ≤ length ds → AreApart all
      → doing_at (answered_at p all ds) i ≡ (if nat_eq x.0.0 p.0 then Answered else doing_at ds i)
  at-answered p [] ds i x at long apart = let no : None ≡ Some x = at in absurd cc
  at-answered p (y ∷ ys) [] i x at long apart = absurd (omega (arith, long))
  at-answered p (y ∷ ys) (d ∷ ds) zero x at long apart =
      let is : y ≡ x = cc in
      subst (λ (z : Pid × P). doing_at (answered_at p (y ∷ ys) (d ∷ ds)) zero ≡ (if nat_eq z.0.0 p.0 then Answered else d)) is (by (eqb_tells p.0 y.0.0))
    where
      by : ((nat_eq p.0 y.0.0 ≡ true) × (p.0 ≡ y.0.0)) ⊎ ((nat_eq p.0 y.0.0 ≡ false) × (p.0 ≢ y.0.0)) → doing_at (answered_at p (y ∷ ys) (d ∷ ds)) zero ≡ (if nat_eq y.0.0 p.0 then Answered else d)
      by (inl e) = let back : nat_eq y.0.0 p.0 ≡ true = grind (arith, e.1) in rw e.0 (rw back refl)
      by (inr e) = let back : nat_eq y.0.0 p.0 ≡ false = grind (arith, e.1) in rw e.0 (rw back refl)
  at-answered p (y ∷ ys) (d ∷ ds) (suc i) x at long apart =
      by (eqb_tells p.0 y.0.0) (at-answered p ys ds i x at (omega (arith, long)) (apart-tail y ys apart))
    where
      by : ((nat_eq p.0 y.0.0 ≡ true) × (p.0 ≡ y.0.0)) ⊎ ((nat_eq p.0 y.0.0 ≡ false) × (p.0 ≢ y.0.0)) → doing_at (answered_at p ys ds) i ≡ (if nat_eq x.0.0 p.0 then Answered else doing_at ds i)
          → doing_at (answered_at p (y ∷ ys) (d ∷ ds)) (suc i) ≡ (if nat_eq x.0.0 p.0 then Answered else doing_at ds i)
      by (inr e) rest = rw e.0 rest
      by (inl e) rest =
          let other : nat_eq x.0.0 p.0 ≡ false = elim (eqb_tells x.0.0 p.0)
          [ inl f ↦ let same : x.0 ≡ y.0 = ap (λ (n : ℕ). record { 0 = n }) (f.1 ∙ e.1) in let no : suc i ≡ zero = apart (suc i) zero x y at refl same in absurd (omega (arith, no)) | inr f ↦ f.0 ] in
          rw e.0 (rw other refl)

  -- several
  pub at-all_answered : (who : List Pid) (all : List (Pid × P)) (ds : List Doing) (i : ℕ) (x : Pid × P) → slice_get all i ≡ Some x → length all ≤ length ds → AreApart all
      → doing_at (all_answered who all ds) i ≡ (if list_any (λ q. nat_eq x.0.0 q.0) who then Answered else doing_at ds i)
  at-all_answered [] all ds i x at long apart = refl
  at-all_answered (p ∷ ps) all ds i x at long apart =
      at-all_answered ps all (answered_at p all ds) i x at (omega (arith, long, answered-length p all ds)) apart
      ∙ ap (λ d. if list_any (λ q. nat_eq x.0.0 q.0) ps then Answered else d) (at-answered p all ds i x at long apart)
      ∙ either (nat_eq x.0.0 p.0) (list_any (λ q. nat_eq x.0.0 q.0) ps) (doing_at ds i)
    where
      either : (a b : Bool) (d : Doing) → (if b then Answered else (if a then Answered else d)) ≡ (if a || b then Answered else d)
      either true true d = refl
      either true false d = refl
      either false true d = refl
      either false false d = refl

-- ---- a program goes on

-- what it is lent is what the entries told
pub lent-given : (last : Option Next) (h : Heard) (doing : Doing) (stands : Option AnAnswer) (given : Option AnAnswer) → IsDoing last h doing → can_go_on doing ≡ true → stands ≡ answer_of h
    → MatchOption given (doing ≢ Answered) (λ a. (doing ≡ Answered) × (stands ≡ Some a)) → IsGiven last h given
lent-given last h Begins stands None is ready at lent = subst (λ l. IsGiven l h None) (sym is.0) refl
lent-given last h Begins stands (Some a) is ready at lent = let no : Begins ≡ Answered = lent.0 in absurd cc
lent-given last h Answered stands None is ready at lent = absurd (lent refl)
lent-given last h Answered stands (Some a) is ready at lent =
    let told : h ≡ heard.Answered is.0 is.1 = is.3 in
    let same : Some is.1 ≡ Some a = sym (at ∙ ap answer_of told) ∙ lent.1 in
    let one : is.1 ≡ a = cc in
    subst (λ l. IsGiven l h (Some a)) (sym is.2) (told ∙ ap (heard.Answered is.0) one)
lent-given last h Pending stands given is ready at lent = let no : false ≡ true = ready in absurd cc
lent-given last h Paused stands None is ready at lent = subst (λ l. IsGiven l h None) (sym is.0) refl
lent-given last h Paused stands (Some a) is ready at lent = let no : Paused ≡ Answered = lent.0 in absurd cc
lent-given last h Ended stands given is ready at lent = let no : false ≡ true = ready in absurd cc

-- after its own call
doing-own : (c : Call) (t : Option AnAnswer) → IsDoing (Some (next.Ask c)) (heard_of c t) (if is_some t then Answered else Pending)
doing-own c None = (c, refl, refl)
doing-own c (Some a) = (c, a, refl, refl)

module _ {P S : Type 0} (m : Meaning P S) (p : Pid) (was : P) where
  pub told-heard : (es : List Entry) (now : P) (doing : Doing) (steps : ℕ) → (plays : Plays m p was es now doing steps) → plays.at.heard ≡ heard.heard p es
  told-heard es now doing steps plays = replays-hears m.step p (replay_start (m.state was)) plays.at es plays.replay

  -- over an entry in which its process makes no call
  pub plays-passes : (es : List Entry) (now : P) (doing : Doing) (steps : ℕ) (e : Entry) → call_of p e.what ≡ None → Plays m p was es now doing steps
      → Plays m p was (es ++ e ∷ []) now (if is_some (tells p (heard.heard p es) e) then Answered else doing) steps
  plays-passes es now doing steps e none plays =
      record {
        at = with_entry p e plays.at;
        replay = replays-chain m.step p (replay_start (m.state was)) (with_entry p e plays.at) es (e ∷ [])
            (record { middle = plays.at; first = plays.replay; second = Passes plays.at e [] (with_entry p e plays.at) none (Rests (with_entry p e plays.at)) });
        state = plays.state;
        last = plays.last;
        steps_are = plays.steps_are;
        is_doing = subst (λ h. IsDoing plays.at.last (hears p plays.at.heard e) (if is_some (tells p h e) then Answered else doing)) (told-heard es now doing steps plays)
            (subst (λ w. IsDoing plays.at.last (hears_by p plays.at.heard w e.steps) (if is_some (tells_by p plays.at.heard w e.steps) then Answered else doing)) (sym none)
            (doing-none plays.at.last plays.at.heard doing p e.steps plays.is_doing));
      }

  -- by a step that asks the call of an entry
  pub plays-asks : (es : List Entry) (now after : P) (doing : Doing) (steps : ℕ) (given : Option AnAnswer) (c : Call) (e : Entry) → (plays : Plays m p was es now doing steps)
      → IsGiven plays.at.last plays.at.heard given → (next.Ask c, m.state after) ≡ m.step (m.state now) given → m.last after ≡ Some (next.Ask c) → call_of p e.what ≡ Some c
      → Plays m p was (es ++ e ∷ []) after (if is_some (tells p (heard.heard p es) e) then Answered else Pending) (steps + 1)
  plays-asks es now after doing steps given c e plays is step last call =
      let from : (next.Ask c, m.state after) ≡ m.step plays.at.state given = step ∙ ap (λ (x : S). m.step x given) (sym plays.state) in
      let asks : (m.step plays.at.state given).0 ≡ next.Ask c = ap (λ (r : Next × S). r.0) (sym from) in
      let y : Replayed S = with_entry p e (with_step m.step given plays.at) in
      record {
        at = with_entry p e (with_step m.step given plays.at);
        replay = replays-chain m.step p (replay_start (m.state was)) y es (e ∷ [])
            (record { middle = plays.at; first = plays.replay; second = Asks plays.at given c e [] y is asks call (Rests y) });
        state = ap (λ (r : Next × S). r.1) (sym from);
        last = ap Some asks ∙ sym last;
        steps_are = ap (λ n. n + 1) plays.steps_are;
        is_doing = subst (λ h. IsDoing (Some (m.step plays.at.state given).0) (hears p plays.at.heard e) (if is_some (tells p h e) then Answered else Pending)) (told-heard es now doing steps plays)
            (subst (λ l. IsDoing (Some l) (hears p plays.at.heard e) (if is_some (tells p plays.at.heard e) then Answered else Pending)) (sym asks)
            (subst (λ w. IsDoing (Some (next.Ask c)) (hears_by p plays.at.heard w e.steps) (if is_some (tells_by p plays.at.heard w e.steps) then Answered else Pending)) (sym call)
            (doing-own c (own_told p c e.steps))));
      }

  -- by a pause, or its end
  pub plays-pauses : (es : List Entry) (now after : P) (doing : Doing) (steps : ℕ) (given : Option AnAnswer) (made : Next) → (plays : Plays m p was es now doing steps)
      → IsGiven plays.at.last plays.at.heard given → (made, m.state after) ≡ m.step (m.state now) given → m.last after ≡ Some made → IsNoCall made
      → IsDoing (Some made) plays.at.heard (doing_after made) → Plays m p was es after (doing_after made) (steps + 1)
  plays-pauses es now after doing steps given made plays is step last none is_doing =
      let from : (made, m.state after) ≡ m.step plays.at.state given = step ∙ ap (λ (x : S). m.step x given) (sym plays.state) in
      let does : (m.step plays.at.state given).0 ≡ made = ap (λ (r : Next × S). r.0) (sym from) in
      let y : Replayed S = with_step m.step given plays.at in
      record {
        at = with_step m.step given plays.at;
        replay = subst (λ l. Replays m.step p (replay_start (m.state was)) l y) (append-nil es)
            (replays-chain m.step p (replay_start (m.state was)) y es []
            (record { middle = plays.at; first = plays.replay; second = Pauses plays.at given [] y is (subst IsNoCall (sym does) none) (Rests y) }));
        state = ap (λ (r : Next × S). r.1) (sym from);
        last = ap Some does ∙ sym last;
        steps_are = ap (λ n. n + 1) plays.steps_are;
        is_doing = subst (λ n. IsDoing (Some n) plays.at.heard (doing_after made)) (sym does) is_doing;
      }
