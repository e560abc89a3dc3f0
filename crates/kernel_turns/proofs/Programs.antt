-- The programs of a node replay its entries, along its work.
use Rattle.std.proofs.Common.{◌≡◌, ℕ, ◌+◌, ◌<◌, ◌≤◌, nat_eq, if◌then◌else◌, is_some, List, [], ◌∷◌, ◌++◌, Some, None, All, length, ap, sym, subst, ◌∙◌, arith}
use Rattle.std.specs.List.{list_any}
use Rattle.std.specs.Prelude.{slice_get}
use Rattle.charlotte_calls.specs.declared.names.Pid.{Pid}
use Rattle.charlotte_calls.specs.declared.setting.Setting.{Setting}
use Rattle.kernel_entries.specs.declared.entry.Entry.{Entry}
use Rattle.kernel_step.specs.Start.{home}
use Rattle.program_runs.specs.Local.{LocalEvent, MakesCall, TakesPacket}
use Rattle.program_round.specs.Doings.{doing_at}
use Rattle.program_round.specs.declared.doing.Doing.TheVariants.{Answered}
use Rattle.program_round.specs.declared.programs.Programs.{Programs}
use Rattle.program_runs.specs.Told.{call_of, tells}
use Rattle.program_runs.specs.Told as heard
use Rattle.kernel_turns.proofs.Playing.{all_answered-length, at-all_answered, plays-passes}
use Rattle.kernel_turns.specs.Nodes.{ArePlaying, Meaning, Plays, takings}
use Rattle.kernel_turns.specs.Turns.{Hears}

pub takings-more : (made : List LocalEvent) (o : LocalEvent) → takings (made ++ o ∷ []) ≡ takings made + takings (o ∷ [])
takings-more [] o = omega arith
takings-more (MakesCall p c mine ∷ es) o = takings-more es o
takings-more (TakesPacket from q ∷ es) o = omega (arith, takings-more es o)

module _ {P S : Type 0} (m : Meaning P S) (s : Setting) (k : ℕ) (first : List (Pid × P)) where
  -- what is so of each program is so of it once some were told of answers
  told-all : (R : List (Pid × P) → Type 0) (who : List Pid) (old new : Programs P) → Hears who old new → R old.all.items → R new.all.items
  told-all R who old new hears is = subst R (sym hears.all) is

  -- an entry in which no process makes a call, and an answer came to stand for just those of whom it tells one
  pub playing-took : (made : List LocalEvent) (es : List Entry) (used used' : ℕ) (old new : Programs P) (o : LocalEvent) (e : Entry) (who : List Pid) → ((q : Pid) → call_of q e.what ≡ None)
      → ((q : Pid) → list_any (λ r. nat_eq q.0 r.0) who ≡ is_some (tells q (heard.heard q es) e)) → Hears who old new → used' ≡ used + takings (o ∷ [])
      → ArePlaying m s k first made es used old → ArePlaying m s k first (made ++ o ∷ []) (es ++ e ∷ []) used' new
  playing-took made es used used' old new o e who none answers hears turns are =
      record {
        count = ap length hears.all ∙ are.count;
        room = omega (arith, are.room, ap length hears.all, ap length hears.doing, all_answered-length who old.all.items old.doing);
        homes = told-all (All (λ x. (x.0.0 < length s.homes) × (home s x.0 ≡ k) × (m.version x.1 ≤ s.version))) who old new hears are.homes;
        pids = λ i was is at now. are.pids i was is at (sym (ap (λ xs. slice_get xs i) hears.all) ∙ now);
        apart = λ i j x y at now same. are.apart i j x y (sym (ap (λ xs. slice_get xs i) hears.all) ∙ at) (sym (ap (λ xs. slice_get xs j) hears.all) ∙ now) same;
        steps = are.steps;
        each = λ i was is at now.
            let here : slice_get old.all.items i ≡ Some is = sym (ap (λ xs. slice_get xs i) hears.all) ∙ now in
            let doing : doing_at new.doing i ≡ (if is_some (tells was.0 (heard.heard was.0 es) e) then Answered else doing_at old.doing i)
            = ap (λ ds. doing_at ds i) hears.doing ∙ at-all_answered who old.all.items old.doing i is here are.room are.apart
            ∙ ap (λ b. if b then Answered else doing_at old.doing i) (ap (λ (q : Pid). list_any (λ r. nat_eq q.0 r.0) who) (are.pids i was is at here) ∙ answers was.0) in
            subst (λ d. Plays m was.0 was.1 (es ++ e ∷ []) is.1 d (are.steps i)) (sym doing)
            (plays-passes m was.0 was.1 es is.1 (doing_at old.doing i) (are.steps i) e (none was.0) (are.each i was is at here));
        turns = omega (arith, turns, are.turns, takings-more made o);
      }
