-- A node before its first turn is one, after no events.
use Rattle.std.proofs.Common.{◌≡◌, ℕ, zero, suc, ◌<◌, ◌≤◌, List, [], ◌++◌, Some, None, IfSome, IsSome, All, length, map, replicate, refl, ap, sym, subst, ◌∙◌, arith}
use Rattle.std.specs.Prelude.{slice_get, slice_index_or}
use Rattle.std.proofs.lemmas.List.Elements.{All-nil}
use Rattle.std.proofs.lemmas.List.{get_or-replicate, length-replicate}
use Rattle.std.proofs.lemmas.Option.{slice_get_within}
use Rattle.charlotte_calls.specs.declared.names.Pid.{Pid}
use Rattle.charlotte_calls.specs.declared.setting.Setting.{Setting}
use Rattle.kernel_core.specs.State.{state_of}
use Rattle.kernel_entries.specs.Ranges.{IsEntryInRange}
use Rattle.kernel_entries.specs.declared.entry.Entry.{Entry}
use Rattle.kernel_net.specs.Ports.{IsFresh, kernels_of, place_of, put_to}
use Rattle.kernel_net.specs.declared.letter.Letter.{Letter}
use Rattle.kernel_outbox.specs.Letters.{letters_for, outbox_to, waiting_to}
use Rattle.kernel_outbox.specs.declared.outbox.Outbox.{Outbox}
use Rattle.kernel_step.specs.Start.{home, start_kernel}
use Rattle.program_round.specs.Doings.{doing_at}
use Rattle.program_round.specs.declared.doing.Doing.TheVariants.{Begins, Ended}
use Rattle.program_runs.specs.Replay.{Rests, replay_start}
use Rattle.kernel_turns.proofs.Beginning.{none-within}
use Rattle.kernel_turns.proofs.Stepped.{all-at}
use Rattle.kernel_turns.specs.Courses.{marked_of}
use Rattle.kernel_turns.specs.Letters.{letters_from, letters_of, told}
use Rattle.kernel_turns.specs.Nodes.{ArePlaying, HasRun, HasSent, HasTaken, IsBy, IsNode, Meaning, Plays, sum_of}
use Rattle.kernel_turns.specs.declared.base.Base.{Base}
use Rattle.kernel_turns.specs.declared.node.Node.{Node}

-- its kernel and its port are at their start
pub record BaseStarts (s : Setting) (k : ℕ) (b : Base) : Type 0 where
  pub kernel : state_of b.kernel ≡ start_kernel s k
  pub processes : length b.kernel.processes ≡ length s.homes
  pub kernels : b.kernel.kernels ≡ s.kernels
  pub entries : b.journal.entries ≡ []
  pub capacity : ℕ
  pub port : IsFresh capacity b.port
  pub number : b.port.kernel ≡ k
  pub net : kernels_of (place_of b.port) ≡ s.kernels
  pub unsent : b.outbox.unsent.items ≡ []
  pub waiting : b.outbox.waiting.items ≡ []
  pub begun : b.course.begun ≡ None
  pub marked : (from : ℕ) → marked_of b.course from ≡ None
  pub marks : length b.course.marked ≡ 8
  pub used : b.used ≡ 0

no-letters : (o : Outbox) (to : ℕ) → o.unsent.items ≡ [] → o.waiting.items ≡ [] → outbox_to o to ≡ []
no-letters o to unsent waiting =
    ap (λ xs. waiting_to o to ++ letters_for to xs) unsent
    ∙ ap (λ (ws : List (List Letter)). slice_index_or ws to [] ++ []) (ap (map (λ list. list.items)) waiting)

base-run : (s : Setting) (k : ℕ) (b : Base) → BaseStarts s k b → HasRun s k [] b
base-run s k b starts =
    record {
      local = tt;
      kernel = starts.kernel;
      processes = starts.processes;
      kernels = starts.kernels;
      noted = starts.entries;
      in_range = subst (All IsEntryInRange) (sym starts.entries) (All-nil IsEntryInRange);
    }

base-sent : (s : Setting) (k : ℕ) (b : Base) → BaseStarts s k b → HasSent s k [] b
base-sent s k b starts =
    record {
      put = λ to. ap told (none to) ∙ ap (λ o. letters_of s.kernels o to (start_kernel s k) []) (sym starts.begun);
      begun = subst (λ o. IfSome o (λ n. n ≤ 0)) (sym starts.begun) tt;
      stamps = λ to. subst (λ ls. All (IsBy b.kernel.stamp) (told ls)) (sym (none to)) (All-nil (IsBy b.kernel.stamp));
      number = starts.number;
      kernels = starts.net;
      fits = record { lists = omega (arith, ap length starts.waiting); within = none-within (kernels_of (place_of b.port)) b.outbox.unsent.items starts.unsent };
    }
  where
    none : (to : ℕ) → put_to b.port to ++ outbox_to b.outbox to ≡ []
    none to = ap (λ ls. ls ++ outbox_to b.outbox to) (starts.port.put to) ∙ no-letters b.outbox to starts.unsent starts.waiting

base-taken : (s : Setting) (k : ℕ) (b : Base) → BaseStarts s k b → HasTaken [] b
base-taken s k b starts =
    record {
      got = λ from. ap told (starts.port.got from) ∙ ap (λ o. letters_from o from []) (sym (starts.marked from));
      marked = λ from. subst (λ o. IfSome o (λ n. (n ≤ 0) × IsSome b.course.begun)) (sym (starts.marked from)) tt;
      marks = starts.marks;
    }

no-sum : (n : ℕ) → sum_of n (λ i. 0) ≡ 0
no-sum zero = refl
no-sum (suc n) = omega (arith, no-sum n)

module _ {P S W : Type 0} (m : Meaning P S) (HasSeen : W → List Entry → Type 0) (s : Setting) (k : ℕ) (first : List (Pid × P)) where
  -- so are its programs, each of a process of its kernel and no two of one
  pub record Starts (n : Node P W) : Type 0 where
    pub base : BaseStarts s k n.base
    pub programs : n.programs.all.items ≡ first
    pub doing : n.programs.doing ≡ replicate 64 Begins
    pub few : length first ≤ 64
    pub homes : All (λ x. (x.0.0 < length s.homes) × (home s x.0 ≡ k) × (m.version x.1 ≤ s.version)) first
    pub apart : (i j : ℕ) (x y : Pid × P) → slice_get first i ≡ Some x → slice_get first j ≡ Some y → x.0 ≡ y.0 → i ≡ j
    pub last : All (λ x. m.last x.1 ≡ None) first
    pub seen : HasSeen n.watch []
    pub most : n.base.orders.limit ≤ 100000

  started-playing : (n : Node P W) → Starts n → ArePlaying m s k first [] n.base.journal.entries n.base.used n.programs
  started-playing n starts =
      record {
        count = ap length starts.programs;
        room = omega (arith, starts.few, ap length starts.programs, ap length starts.doing, length-replicate 64 Begins);
        homes = subst (All (λ x. (x.0.0 < length s.homes) × (home s x.0 ≡ k) × (m.version x.1 ≤ s.version))) (sym starts.programs) starts.homes;
        pids = λ i was is at now. ap (λ (x : Pid × P). x.0) (sym (same i was is at now));
        apart = λ i j x y at now. starts.apart i j x y (sym (ap (λ xs. slice_get xs i) starts.programs) ∙ at) (sym (ap (λ xs. slice_get xs j) starts.programs) ∙ now);
        steps = λ i. 0;
        each = λ i was is at now.
            subst (λ es. Plays m was.0 was.1 es is.1 (doing_at n.programs.doing i) 0) (sym starts.base.entries)
            (subst (λ (x : Pid × P). Plays m was.0 was.1 [] x.1 (doing_at n.programs.doing i) 0) (same i was is at now)
            (subst (λ d. Plays m was.0 was.1 [] was.1 d 0) (sym (begins i was at)) (rests was (all-at (λ x. m.last x.1 ≡ None) first i was at starts.last))));
        turns = omega (arith, starts.base.used, no-sum (length first));
      }
    where
      same : (i : ℕ) (was is : Pid × P) → slice_get first i ≡ Some was → slice_get n.programs.all.items i ≡ Some is → was ≡ is
      same i was is at now = let both : Some was ≡ Some is = sym at ∙ ap (λ xs. slice_get xs i) (sym starts.programs) ∙ now in cc

      begins : (i : ℕ) (was : Pid × P) → slice_get first i ≡ Some was → doing_at n.programs.doing i ≡ Begins
      begins i was at =
          let there : i < length first = slice_get_within first i was at in
          ap (λ ds. doing_at ds i) starts.doing ∙ get_or-replicate 64 i Begins Ended (omega (arith, there, starts.few))

      rests : (was : Pid × P) → m.last was.1 ≡ None → Plays m was.0 was.1 [] was.1 Begins 0
      rests was none = record { at = replay_start (m.state was.1); replay = Rests (replay_start (m.state was.1)); state = refl; last = sym none; steps_are = refl; is_doing = (refl, refl) }

  pub node-started : (n : Node P W) → Starts n → IsNode m HasSeen s k first [] n
  node-started n starts =
      record {
        run = base-run s k n.base starts.base;
        sent = λ e. base-sent s k n.base starts.base;
        taken = λ e. base-taken s k n.base starts.base;
        programs = λ e. started-playing n starts;
        watch = λ e. subst (HasSeen n.watch) (sym starts.base.entries) starts.seen;
        limit = omega (arith, starts.base.used);
        most = starts.most;
      }
