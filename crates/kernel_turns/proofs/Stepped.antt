-- One program of a node makes a step: the replays go on.
use Rattle.std.proofs.Common.{◌≡◌, ◌≢◌, ◌⊎◌, inl, inr, ℕ, ◌+◌, ◌<◌, ◌≤◌, true, false, nat_eq, if◌then◌else◌, is_some, List, [], ◌∷◌, ◌++◌, Option, Some, None, MatchOption, All, length, refl, ap, sym, subst, ◌∙◌, arith}
use Rattle.std.specs.List.{list_any}
use Rattle.std.specs.Prelude.{slice_get}
use Rattle.std.proofs.lemmas.Bool.Decides.{eqb_tells}
use Rattle.std.proofs.lemmas.List.{get_or-set_other, get_or-set_same, length-set}
use Rattle.std.proofs.lemmas.List.Elements.{All-get_or, All-set}
use Rattle.std.proofs.lemmas.Option.{get_or_from_slice_get, slice_get_within}
use Rattle.charlotte_calls.specs.Program.{EndsAfterExit}
use Rattle.charlotte_calls.specs.declared.calls.Answer.{Answer as AnAnswer}
use Rattle.charlotte_calls.specs.declared.calls.Call.{Call}
use Rattle.charlotte_calls.specs.declared.names.EndId.{EndId}
use Rattle.charlotte_calls.specs.declared.names.Pid.{Pid}
use Rattle.charlotte_calls.specs.declared.program.Next.{Next}
use Rattle.charlotte_calls.specs.declared.program.Next.TheVariants as next
use Rattle.charlotte_calls.specs.declared.setting.Setting.{Setting}
use Rattle.kernel_entries.specs.declared.entry.Entry.{Entry}
use Rattle.kernel_entries.specs.declared.entry.Happened.TheVariants.{Asked}
use Rattle.kernel_step.specs.Start.{home}
use Rattle.program_runs.specs.Local.{LocalEvent, MakesCall}
use Rattle.program_round.specs.Doings.{can_go_on, doing_after, doing_at}
use Rattle.program_round.specs.declared.doing.Doing.{Doing}
use Rattle.program_round.specs.declared.doing.Doing.TheVariants.{Answered, Ended, Pending}
use Rattle.program_round.specs.declared.programs.Programs.{Programs}
use Rattle.program_runs.specs.Replay.{IsGiven, IsNoCall}
use Rattle.program_runs.specs.Told.{answer_of, call_of, tells}
use Rattle.program_runs.specs.Told as heard
use Rattle.kernel_turns.proofs.Going.{goes-free, goes-settled, pause-doing}
use Rattle.kernel_turns.proofs.Playing.{all_answered-length, at-all_answered, lent-given, plays-asks, plays-passes, plays-pauses, told-heard}
use Rattle.kernel_turns.proofs.Programs.{takings-more}
use Rattle.kernel_turns.proofs.Stepping.{got-other, got-same, one_at, sum-one}
use Rattle.kernel_turns.specs.Nodes.{ArePlaying, IsFree, Meaning, Plays}
use Rattle.kernel_turns.specs.Turns.{Hears, StepsAt}

-- what a program that does this is lent, where this answer stands
abbrev pub IsLentOf : Doing → Option AnAnswer → Option AnAnswer → Type 0
IsLentOf doing stands given = MatchOption given (doing ≢ Answered) (λ a. (doing ≡ Answered) × (stands ≡ Some a))

module _ {P : Type 0} where
  pub all-at : (R : Pid × P → Type 0) (xs : List (Pid × P)) (i : ℕ) (x : Pid × P) → slice_get xs i ≡ Some x → All R xs → R x
  all-at R xs i x at all = subst R (get_or_from_slice_get xs i x x at) (All-get_or R xs i x (slice_get_within xs i x at) all)

module _ {P S : Type 0} (m : Meaning P S) where
  -- the program at a place, and the others
  stepped-here : (old mid : Programs P) (place : ℕ) (p : Pid) (given : Option AnAnswer) (made : Next) → (steps : StepsAt m place p given made old mid)
      → slice_get mid.all.items place ≡ Some (p, steps.after)
  stepped-here old mid place p given made steps =
      ap (λ xs. slice_get xs place) steps.all ∙ got-same old.all.items place (p, steps.after) (slice_get_within old.all.items place (p, steps.before) steps.was)

  stepped-other : (old mid : Programs P) (place : ℕ) (p : Pid) (given : Option AnAnswer) (made : Next) (i : ℕ) → StepsAt m place p given made old mid → i ≢ place
      → (slice_get mid.all.items i ≡ slice_get old.all.items i) × (doing_at mid.doing i ≡ doing_at old.doing i)
  stepped-other old mid place p given made i steps other = (
    ap (λ xs. slice_get xs i) steps.all ∙ got-other old.all.items place i (p, steps.after) other,
    ap (λ ds. doing_at ds i) steps.doing ∙ get_or-set_other old.doing place i (doing_after made) Ended other,
  )

  -- each process is where it was
  stepped-pids : (old mid : Programs P) (place : ℕ) (p : Pid) (given : Option AnAnswer) (made : Next) → StepsAt m place p given made old mid → (i : ℕ) (x : Pid × P)
      → slice_get mid.all.items i ≡ Some x → (y : Pid × P) × (slice_get old.all.items i ≡ Some y) × (x.0 ≡ y.0)
  stepped-pids old mid place p given made steps i x at = by (eqb_tells i place)
    where
      by : ((nat_eq i place ≡ true) × (i ≡ place)) ⊎ ((nat_eq i place ≡ false) × (i ≢ place)) → (y : Pid × P) × (slice_get old.all.items i ≡ Some y) × (x.0 ≡ y.0)
      by (inl e) =
          let there : Some (p, steps.after) ≡ Some x = sym (stepped-here old mid place p given made steps) ∙ ap (slice_get mid.all.items) (sym e.1) ∙ at in
          let is : (p, steps.after) ≡ x = cc in
          ((p, steps.before), ap (slice_get old.all.items) e.1 ∙ steps.was, ap (λ (z : Pid × P). z.0) (sym is))
      by (inr e) = (x, sym (stepped-other old mid place p given made i steps e.1).0 ∙ at, refl)

  module _ (s : Setting) (k : ℕ) (first : List (Pid × P)) where
    -- it is of a process of the kernel, and asks no call that the setting's version has not
    abbrev IsHome : Pid × P → Type 0
    IsHome x = (x.0.0 < length s.homes) × (home s x.0 ≡ k) × (m.version x.1 ≤ s.version)

    -- where the programs stand, whatever they replay
    pub record Stand (now : Programs P) : Type 0 where
      pub count : length now.all.items ≡ length first
      pub room : length now.all.items ≤ length now.doing
      pub homes : All (λ x. (x.0.0 < length s.homes) × (home s x.0 ≡ k) × (m.version x.1 ≤ s.version)) now.all.items
      pub pids : (i : ℕ) (was is : Pid × P) → slice_get first i ≡ Some was → slice_get now.all.items i ≡ Some is → is.0 ≡ was.0
      pub apart : (i j : ℕ) (x y : Pid × P) → slice_get now.all.items i ≡ Some x → slice_get now.all.items j ≡ Some y → x.0 ≡ y.0 → i ≡ j

    pub stepped-stand : (made : List LocalEvent) (es : List Entry) (used : ℕ) (old mid : Programs P) (place : ℕ) (p : Pid) (given : Option AnAnswer) (n : Next) → StepsAt m place p given n old mid
        → ArePlaying m s k first made es used old → Stand mid
    stepped-stand made es used old mid place p given n steps are =
        record {
          count = ap length steps.all ∙ length-set old.all.items place (p, steps.after) ∙ are.count;
          room = omega (arith, are.room, ap length steps.all, ap length steps.doing, length-set old.all.items place (p, steps.after), length-set old.doing place (doing_after n));
          homes = subst (All IsHome) (sym steps.all) (All-set IsHome old.all.items place (p, steps.after)
              (let was : IsHome (p, steps.before) = all-at IsHome old.all.items place (p, steps.before) steps.was are.homes in (was.0, was.1, subst (λ v. v ≤ s.version) (sym steps.version) was.2)) are.homes);
          pids = λ i was is at now. let before = stepped-pids old mid place p given n steps i is now in before.2 ∙ are.pids i was before.0 at before.1;
          apart = λ i j x y at now same.
              let one = stepped-pids old mid place p given n steps i x at in
              let two = stepped-pids old mid place p given n steps j y now in
              are.apart i j one.0 two.0 one.1 two.1 (sym one.2 ∙ same ∙ two.2);
        }

    -- ---- the step of the one at a place

    module _ (made : List LocalEvent) (es : List Entry) (used : ℕ) (old mid : Programs P) (place : ℕ) (p : Pid) (given : Option AnAnswer) (n : Next) (stands : Option AnAnswer)
        (steps : StepsAt m place p given n old mid) (are : ArePlaying m s k first made es used old) (ready : can_go_on (doing_at old.doing place) ≡ true)
        (at : stands ≡ answer_of (heard.heard p es)) (lent : IsLentOf (doing_at old.doing place) stands given) where
      -- where it stands before it
      abbrev pub Before : Pid × P → Type 0
      Before was = Plays m was.0 was.1 es steps.before (doing_at old.doing place) (are.steps place)

      pub plays-before : (was : Pid × P) → slice_get first place ≡ Some was → Before was
      plays-before was is = are.each place was (p, steps.before) is steps.was

      process-before : (was : Pid × P) → slice_get first place ≡ Some was → p ≡ was.0
      process-before was is = are.pids place was (p, steps.before) is steps.was

      pub heard-before : (was : Pid × P) → slice_get first place ≡ Some was → (plays : Before was) → plays.at.heard ≡ heard.heard p es
      heard-before was is plays =
          told-heard m was.0 was.1 es steps.before (doing_at old.doing place) (are.steps place) plays ∙ ap (λ (q : Pid). heard.heard q es) (sym (process-before was is))

      given-before : (was : Pid × P) → slice_get first place ≡ Some was → (plays : Before was) → IsGiven plays.at.last plays.at.heard given
      given-before was is plays =
          lent-given plays.at.last plays.at.heard (doing_at old.doing place) stands given plays.is_doing ready (at ∙ ap answer_of (sym (heard-before was is plays))) lent

      pub free-before : (was : Pid × P) → slice_get first place ≡ Some was → (plays : Before was) → n ≢ next.Ended → IsFree plays.at.heard
      free-before was is plays on = goes-free plays.at.last plays.at.heard (doing_at old.doing place) n plays.is_doing ready on (subst (λ l. EndsAfterExit l n) (sym plays.last) steps.exit)

      -- what a program does whom the entry tells an answer
      abbrev told_then : Entry → Pid → Doing → Doing
      told_then e q d = if is_some (tells q (heard.heard q es) e) then Answered else d

      -- a program replays, and does this after what it did
      abbrev NowAt : List Entry → (Pid → Doing → Doing) → ℕ → Type 0
      NowAt es' does i = (was is : Pid × P) → slice_get first i ≡ Some was → slice_get mid.all.items i ≡ Some is
          → Plays m was.0 was.1 es' is.1 (does was.0 (doing_at mid.doing i)) (one_at place are.steps i)

      -- what it is doing then
      doing-here : doing_at mid.doing place ≡ doing_after n
      doing-here =
          ap (λ ds. doing_at ds place) steps.doing
          ∙ get_or-set_same old.doing place (doing_after n) Ended (let there : place < length old.all.items = slice_get_within old.all.items place (p, steps.before) steps.was in omega (arith, there, are.room))

      one-more : one_at place are.steps place ≡ are.steps place + 1
      one-more = let same : nat_eq place place ≡ true = grind arith in ap (λ b. if b then are.steps place + 1 else are.steps place) same

      as-before : (i : ℕ) → nat_eq i place ≡ false → one_at place are.steps i ≡ are.steps i
      as-before i other = ap (λ b. if b then are.steps i + 1 else are.steps i) other

      there : place < length first
      there = let here : place < length old.all.items = slice_get_within old.all.items place (p, steps.before) steps.was in omega (arith, here, are.count)

      -- a pause, or its end
      pub playing-paused : IsNoCall n → ArePlaying m s k first made es (used + 1) mid
      playing-paused none =
          record {
            count = stand.count;
            room = stand.room;
            homes = stand.homes;
            pids = stand.pids;
            apart = stand.apart;
            steps = one_at place are.steps;
            each = λ i. by i (eqb_tells i place);
            turns = omega (arith, are.turns, sum-one (length first) place are.steps there);
          }
        where
          stand : Stand mid
          stand = stepped-stand made es used old mid place p given n steps are

          here : NowAt es (λ q d. d) place
          here was is begins now =
              let same : Some (p, steps.after) ≡ Some is = sym (stepped-here old mid place p given n steps) ∙ now in
              let one : (p, steps.after) ≡ is = cc in
              let plays : Before was = plays-before was begins in
              let paused : Plays m was.0 was.1 es steps.after (doing_after n) (are.steps place + 1)
              = plays-pauses m was.0 was.1 es steps.before steps.after (doing_at old.doing place) (are.steps place) given n plays (given-before was begins plays) steps.step steps.last none
              (pause-doing n plays.at.heard none (free-before was begins plays) (goes-settled plays.at.last plays.at.heard (doing_at old.doing place) plays.is_doing ready)) in
              subst (λ (x : Pid × P). Plays m was.0 was.1 es x.1 (doing_at mid.doing place) (one_at place are.steps place)) one
              (subst (λ c. Plays m was.0 was.1 es steps.after (doing_at mid.doing place) c) (sym one-more)
              (subst (λ d. Plays m was.0 was.1 es steps.after d (are.steps place + 1)) (sym doing-here) paused))

          by : (i : ℕ) → ((nat_eq i place ≡ true) × (i ≡ place)) ⊎ ((nat_eq i place ≡ false) × (i ≢ place)) → NowAt es (λ q d. d) i
          by i (inl e) was is begins now = subst (NowAt es (λ q d. d)) (sym e.1) here was is begins now
          by i (inr e) was is begins now =
              let kept = stepped-other old mid place p given n i steps e.1 in
              subst (λ c. Plays m was.0 was.1 es is.1 (doing_at mid.doing i) c) (sym (as-before i e.0))
              (subst (λ d. Plays m was.0 was.1 es is.1 d (are.steps i)) (sym kept.1) (are.each i was is begins (sym kept.0 ∙ now)))

      -- a call, whose entry is noted and tells of answers
      pub playing-asked : (c : Call) (mine : List EndId) (e : Entry) (who : List Pid) (new : Programs P) → n ≡ next.Ask c → e.what ≡ Asked p c
          → ((q : Pid) → list_any (λ r. nat_eq q.0 r.0) who ≡ is_some (tells q (heard.heard q es) e)) → Hears who mid new
          → ArePlaying m s k first (made ++ MakesCall p c mine ∷ []) (es ++ e ∷ []) (used + 1) new
      playing-asked c mine e who new asks what answers hears =
          record {
            count = ap length hears.all ∙ stand.count;
            room = omega (arith, stand.room, ap length hears.all, ap length hears.doing, all_answered-length who mid.all.items mid.doing);
            homes = subst (All (λ x. (x.0.0 < length s.homes) × (home s x.0 ≡ k) × (m.version x.1 ≤ s.version))) (sym hears.all) stand.homes;
            pids = λ i was is begins now. stand.pids i was is begins (sym (ap (λ xs. slice_get xs i) hears.all) ∙ now);
            apart = λ i j x y one two same. stand.apart i j x y (sym (ap (λ xs. slice_get xs i) hears.all) ∙ one) (sym (ap (λ xs. slice_get xs j) hears.all) ∙ two) same;
            steps = one_at place are.steps;
            each = λ i was is begins now.
                let here : slice_get mid.all.items i ≡ Some is = sym (ap (λ xs. slice_get xs i) hears.all) ∙ now in
                subst (λ d. Plays m was.0 was.1 (es ++ e ∷ []) is.1 d (one_at place are.steps i)) (sym (doing i was is begins here)) (by i (eqb_tells i place) was is begins here);
            turns = omega (arith, are.turns, sum-one (length first) place are.steps there, takings-more made (MakesCall p c mine));
          }
        where
          stand : Stand mid
          stand = stepped-stand made es used old mid place p given n steps are

          doing : (i : ℕ) (was is : Pid × P) → slice_get first i ≡ Some was → slice_get mid.all.items i ≡ Some is → doing_at new.doing i ≡ told_then e was.0 (doing_at mid.doing i)
          doing i was is begins here =
              ap (λ ds. doing_at ds i) hears.doing ∙ at-all_answered who mid.all.items mid.doing i is here stand.room stand.apart
              ∙ ap (λ b. if b then Answered else doing_at mid.doing i) (ap (λ (q : Pid). list_any (λ r. nat_eq q.0 r.0) who) (stand.pids i was is begins here) ∙ answers was.0)

          -- the call in the entry
          called : (q : Pid) → call_of q e.what ≡ (if nat_eq q.0 p.0 then Some c else None)
          called q = ap (call_of q) what

          here : NowAt (es ++ e ∷ []) (told_then e) place
          here was is begins now =
              let same : Some (p, steps.after) ≡ Some is = sym (stepped-here old mid place p given n steps) ∙ now in
              let one : (p, steps.after) ≡ is = cc in
              let plays : Before was = plays-before was begins in
              let self : nat_eq was.0.0 p.0 ≡ true = grind (arith, ap (λ (q : Pid). q.0) (process-before was begins)) in
              let call : call_of was.0 e.what ≡ Some c = called was.0 ∙ ap (λ b. if b then Some c else None) self in
              let asked : Plays m was.0 was.1 (es ++ e ∷ []) steps.after (told_then e was.0 Pending) (are.steps place + 1)
              = plays-asks m was.0 was.1 es steps.before steps.after (doing_at old.doing place) (are.steps place) given c e plays (given-before was begins plays)
              (ap (λ x. (x, m.state steps.after)) (sym asks) ∙ steps.step) (steps.last ∙ ap Some asks) call in
              subst (λ (x : Pid × P). Plays m was.0 was.1 (es ++ e ∷ []) x.1 (told_then e was.0 (doing_at mid.doing place)) (one_at place are.steps place)) one
              (subst (λ h. Plays m was.0 was.1 (es ++ e ∷ []) steps.after (told_then e was.0 (doing_at mid.doing place)) h) (sym one-more)
              (subst (λ d. Plays m was.0 was.1 (es ++ e ∷ []) steps.after (told_then e was.0 d) (are.steps place + 1)) (sym (doing-here ∙ ap doing_after asks)) asked))

          by : (i : ℕ) → ((nat_eq i place ≡ true) × (i ≡ place)) ⊎ ((nat_eq i place ≡ false) × (i ≢ place)) → NowAt (es ++ e ∷ []) (told_then e) i
          by i (inl f) was is begins now = subst (NowAt (es ++ e ∷ []) (told_then e)) (sym f.1) here was is begins now
          by i (inr f) was is begins now =
              let kept = stepped-other old mid place p given n i steps f.1 in
              let before : slice_get old.all.items i ≡ Some is = sym kept.0 ∙ now in
              let off : nat_eq was.0.0 p.0 ≡ false
              = elim (eqb_tells was.0.0 p.0)
              [ inl g ↦ let process : is.0 ≡ p = are.pids i was is begins before ∙ ap (λ (x : ℕ). record { 0 = x }) g.1 in absurd (f.1 (are.apart i place is (p, steps.before) before steps.was process)) | inr g ↦ g.0 ] in
              let none : call_of was.0 e.what ≡ None = called was.0 ∙ ap (λ b. if b then Some c else None) off in
              subst (λ h. Plays m was.0 was.1 (es ++ e ∷ []) is.1 (told_then e was.0 (doing_at mid.doing i)) h) (sym (as-before i f.0))
              (subst (λ d. Plays m was.0 was.1 (es ++ e ∷ []) is.1 (told_then e was.0 d) (are.steps i)) (sym kept.1)
              (plays-passes m was.0 was.1 es is.1 (doing_at old.doing i) (are.steps i) e none (are.each i was is begins before)))
