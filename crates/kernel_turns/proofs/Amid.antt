-- What is known of a node amid a turn, for each part of it.
use Rattle.std.proofs.Common.{◌≡◌, ◌≢◌, ◌⊎◌, inl, inr, ℕ, zero, suc, ◌-◌, ◌^◌, ◌<◌, ◌≤◌, true, false, nat_eq, List, [], ◌∷◌, Option, Some, None, length, set, refl, ap, sym, subst, ◌∙◌, arith}
use Rattle.std.specs.Prelude.{slice_get, slice_index_or}
use Rattle.std.proofs.lemmas.Bool.Decides.{eqb_tells}
use Rattle.std.proofs.lemmas.List.{get_or-set_other, get_or-set_same, length-set}
use Rattle.std.proofs.lemmas.Option.{get_or_from_slice_get, slice_get-get_or, slice_get_cases, slice_get_within}
use Rattle.charlotte_calls.specs.Program.{EndsAfterExit, IsOfVersion, MayFollow}
use Rattle.charlotte_calls.specs.Ranges.{IsCallInRange}
use Rattle.charlotte_calls.specs.declared.calls.Answer.{Answer as AnAnswer}
use Rattle.charlotte_calls.specs.declared.calls.Call.{Call}
use Rattle.charlotte_calls.specs.declared.names.EndId.{EndId}
use Rattle.charlotte_calls.specs.declared.names.Pid.{Pid}
use Rattle.charlotte_calls.specs.declared.program.Next.{Next}
use Rattle.charlotte_calls.specs.declared.program.Next.TheVariants as next
use Rattle.charlotte_packets.specs.Packets.{packet_picture}
use Rattle.charlotte_packets.specs.Ranges.{IsPictureInRange}
use Rattle.charlotte_packets.specs.declared.packet.Packet.{Packet}
use Rattle.end_table.specs.Table.{entries}
use Rattle.journal_text.specs.Journal.{IsAfterLast}
use Rattle.kernel_core.specs.State.{KernelView, state_of}
use Rattle.kernel_entries.specs.declared.entry.Entry.{Entry}
use Rattle.kernel_net.specs.Letters.{greatest_stamp}
use Rattle.kernel_net.specs.declared.letter.Letter.TheVariants as letter
use Rattle.kernel_step.specs.Calls.{IsCallWith}
use Rattle.kernel_step.specs.Kernel.{process_of}
use Rattle.kernel_step.specs.Start.{home}
use Rattle.program_runs.specs.Local.{IsLocalEvent, MakesCall, TakesPacket, gives}
use Rattle.program_round.specs.Doings.{behind, can_go_on, doing_after, doing_at}
use Rattle.program_round.specs.declared.doing.Doing.{Doing}
use Rattle.program_round.specs.declared.doing.Doing.TheVariants.{Begins, Answered, Pending, Paused, Ended}
use Rattle.program_round.specs.declared.programs.Programs.{Programs}
use Rattle.program_runs.proofs.Replay.{given-fits}
use Rattle.program_runs.specs.Standing.{HasFitting, StandsAsTold}
use Rattle.program_runs.specs.Told.{Heard, answer_of}
use Rattle.program_runs.specs.Told as heard
use Rattle.kernel_turns.proofs.Calling.{call-local, stands-told}
use Rattle.kernel_turns.proofs.Later.{got-local, later-event}
use Rattle.kernel_turns.proofs.Playing.{lent-given, told-heard}
use Rattle.kernel_turns.proofs.Sending.{sent-got}
use Rattle.kernel_turns.proofs.Stepped.{all-at}
use Rattle.kernel_turns.proofs.Turned.{lent-of}
use Rattle.kernel_turns.proofs.Working.{run-kept}
use Rattle.kernel_turns.specs.Amid.{IsAmidTurn}
use Rattle.kernel_turns.specs.Events.{FitsPort}
use Rattle.kernel_turns.specs.Nodes.{ArePlaying, HasRun, HasSent, IsDoing, Meaning, Plays}
use Rattle.kernel_turns.specs.Turns.{GetsLetter, IsLent, StepsAt}
use Rattle.kernel_turns.specs.declared.base.Base.{Base}
use Rattle.kernel_turns.specs.declared.node.Node.{Node}

-- ---- a step, from what is said of each place

same-items : {X : Type 0} (xs ys : List X) → length xs ≡ length ys → ((i : ℕ) (d : X) → slice_index_or xs i d ≡ slice_index_or ys i d) → xs ≡ ys
same-items [] [] long each = refl
same-items [] (y ∷ ys) long each = absurd (omega (arith, long))
same-items (x ∷ xs) [] long each = absurd (omega (arith, long))
same-items (x ∷ xs) (y ∷ ys) long each = ap (λ z. z ∷ xs) (each zero x) ∙ ap (λ zs. y ∷ zs) (same-items xs ys (omega (arith, long)) (λ i d. each (suc i) d))

set-items : {X : Type 0} (xs ys : List X) (place : ℕ) (y : X) → place < length xs → length ys ≡ length xs → ((d : X) → slice_index_or ys place d ≡ y)
    → ((i : ℕ) (d : X) → i ≢ place → slice_index_or ys i d ≡ slice_index_or xs i d) → ys ≡ set xs place y
set-items {X = X} xs ys place y below long here others = same-items ys (set xs place y) (long ∙ sym (length-set xs place y)) (λ i d. by i d (eqb_tells i place))
  where
    by : (i : ℕ) (d : X) → ((nat_eq i place ≡ true) × (i ≡ place)) ⊎ ((nat_eq i place ≡ false) × (i ≢ place)) → slice_index_or ys i d ≡ slice_index_or (set xs place y) i d
    by i d (inl e) = subst (λ j. slice_index_or ys j d ≡ slice_index_or (set xs place y) j d) (sym e.1) (here d ∙ sym (get_or-set_same xs place y d below))
    by i d (inr e) = others i d e.1 ∙ sym (get_or-set_other xs place i y d e.1)

-- what is doing so has an answer that stands
doing-stands : (last : Option Next) (h : Heard) (doing : Doing) → IsDoing last h doing → doing ≡ Answered → (a : AnAnswer) × (answer_of h ≡ Some a)
doing-stands last h Begins is same = let no : Begins ≡ Answered = same in absurd cc
doing-stands last h Answered is same = (is.1, ap answer_of is.3)
doing-stands last h Pending is same = let no : Pending ≡ Answered = same in absurd cc
doing-stands last h Paused is same = let no : Paused ≡ Answered = same in absurd cc
doing-stands last h Ended is same = let no : Ended ≡ Answered = same in absurd cc

module _ {P S : Type 0} (m : Meaning P S) where
  -- the program of a process is at a place
  pub record IsAt (now : Programs P) (place : ℕ) (p : Pid) : Type 0 where
    pub program : P
    pub is : slice_get now.all.items place ≡ Some (p, program)

  pub is-at : (now : Programs P) (place : ℕ) (p : Pid) → place < length now.all.items → ((d : Pid × P) → p ≡ (slice_index_or now.all.items place d).0) → IsAt now place p
  is-at now place p below process = by (slice_get_cases now.all.items place).1
    where
      by : ((x : Pid × P) × (place < length now.all.items) × (slice_get now.all.items place ≡ Some x) × (slice_index_or now.all.items place x ≡ x))
          ⊎ ((length now.all.items ≤ place) × (slice_get now.all.items place ≡ None)) → IsAt now place p
      by (inl c) = record { program = c.0.1; is = c.2 ∙ ap (λ q. Some (q, c.0.1)) (sym (process c.0 ∙ ap (λ (y : Pid × P). y.0) c.3)) }
      by (inr c) = absurd (omega (arith, below, c.0))

  -- what `Programs::step` says
  pub record Said (old new : Programs P) (place : ℕ) (given : Option AnAnswer) (made : Next) : Type 0 where
    pub step : (d : Pid × P) → (made, m.state (slice_index_or new.all.items place d).1) ≡ m.step (m.state (slice_index_or old.all.items place d).1) given
    pub last : (d : Pid × P) → m.last (slice_index_or new.all.items place d).1 ≡ Some made
    pub exit : (d : Pid × P) → EndsAfterExit (m.last (slice_index_or old.all.items place d).1) made
    pub limit : (d : Pid × P) → IsOfVersion (m.version (slice_index_or old.all.items place d).1) made
    pub version : (d : Pid × P) → m.version (slice_index_or new.all.items place d).1 ≡ m.version (slice_index_or old.all.items place d).1
    pub one_or_two : (d : Pid × P) → (m.version (slice_index_or old.all.items place d).1 ≡ 1) ⊎ (m.version (slice_index_or old.all.items place d).1 ≡ 2)
    pub same : (d : Pid × P) → (slice_index_or new.all.items place d).0 ≡ (slice_index_or old.all.items place d).0
    pub others : (q : ℕ) (d : Pid × P) → q ≢ place → slice_index_or new.all.items q d ≡ slice_index_or old.all.items q d
    pub count : length new.all.items ≡ length old.all.items
    pub doing : new.doing ≡ set old.doing place (doing_after made)
    pub next : new.next ≡ behind (length old.all.items) place

  pub steps-at : (old new : Programs P) (place : ℕ) (p : Pid) (given : Option AnAnswer) (made : Next) → IsAt old place p → Said old new place given made → StepsAt m place p given made old new
  steps-at old new place p given made at said =
      record {
        before = at.program;
        after = (slice_index_or new.all.items place x).1;
        was = at.is;
        step = said.step x ∙ ap (λ (y : Pid × P). m.step (m.state y.1) given) was;
        last = said.last x;
        exit = subst (λ (y : Pid × P). EndsAfterExit (m.last y.1) made) was (said.exit x);
        limit = subst (λ (y : Pid × P). IsOfVersion (m.version y.1) made) was (said.limit x);
        version = said.version x ∙ ap (λ (y : Pid × P). m.version y.1) was;
        one_or_two = subst (λ (y : Pid × P). (m.version y.1 ≡ 1) ⊎ (m.version y.1 ≡ 2)) was (said.one_or_two x);
        all = set-items old.all.items new.all.items place (p, (slice_index_or new.all.items place x).1) below said.count here said.others;
        doing = said.doing;
        next = said.next;
      }
    where
      x : Pid × P
      x = (p, at.program)

      was : slice_index_or old.all.items place (p, at.program) ≡ (p, at.program)
      was = get_or_from_slice_get old.all.items place (p, at.program) (p, at.program) at.is

      below : place < length old.all.items
      below = slice_get_within old.all.items place (p, at.program) at.is

      here : (d : Pid × P) → slice_index_or new.all.items place d ≡ (p, (slice_index_or new.all.items place (p, at.program)).1)
      here d =
          get_or_from_slice_get new.all.items place (slice_index_or new.all.items place (p, at.program)) d
          (slice_get-get_or new.all.items place (p, at.program) (omega (arith, below, said.count)))
          ∙ ap (λ q. (q, (slice_index_or new.all.items place (p, at.program)).1)) (said.same (p, at.program) ∙ ap (λ (y : Pid × P). y.0) was)

  pub steps-as : (old new : Programs P) (place : ℕ) (p : Pid) (given : Option AnAnswer) (made made' : Next) → made ≡ made' → IsAt old place p → Said old new place given made
      → StepsAt m place p given made' old new
  steps-as old new place p given made made' same at said = subst (λ n. StepsAt m place p given n old new) same (steps-at old new place p given made at said)

module _ {P S W : Type 0} (m : Meaning P S) (HasSeen : W → List Entry → Type 0) where
  -- ---- a letter was got

  -- what a kernel has to know to take a packet
  pub record MayTake (from : ℕ) (p : Packet) (b : Base) : Type 0 where
    pub there : from < b.kernel.kernels
    pub later : IsAfterLast b.journal.entries (gives (state_of b.kernel) (TakesPacket from (packet_picture p))).kernel.stamp
    pub unsent : b.outbox.unsent.items ≡ []
    pub used : b.used < 2 ^ 32 - 1

  pub may-take : (n : Node P W) (before : Base) (from : ℕ) (p : Packet) → IsAmidTurn m HasSeen (record n { base = before }) → GetsLetter from (letter.Packet p) before n.base → IsPictureInRange (packet_picture p)
      → MayTake from p n.base
  may-take n before from p am gets range =
      record {
        there = omega (arith, gets.got.kernel, sent.kernels, run.kernels);
        later = later-event am.some.setting am.some.kernel am.some.made n.base (TakesPacket from (packet_picture p)) run is (subst (λ (v : KernelView). v.stamp < greatest_stamp) (sym kernel) am.early);
        unsent = ap (λ (b : Base). b.outbox.unsent.items) gets.rest ∙ am.unsent;
        used = (let limit : before.used < before.orders.limit = am.turns in let most : before.orders.limit ≤ 100000 = am.some.node.most in let same : n.base.used ≡ before.used = ap (λ (b : Base). b.used) gets.rest in omega (arith, limit, most, same));
      }
    where
      kernel : n.base.kernel ≡ before.kernel
      kernel = ap (λ (b : Base). b.kernel) gets.rest

      sent : HasSent am.some.setting am.some.kernel am.some.made before
      sent = am.some.node.sent am.unspoiled

      run : HasRun am.some.setting am.some.kernel am.some.made n.base
      run = run-kept am.some.setting am.some.kernel am.some.made before n.base kernel (ap (λ (b : Base). b.journal.entries) gets.rest) am.some.node.run

      is : IsLocalEvent am.some.setting am.some.kernel (state_of n.base.kernel) (TakesPacket from (packet_picture p))
      is = subst (λ v. IsLocalEvent am.some.setting am.some.kernel (state_of v) (TakesPacket from (packet_picture p))) (sym kernel)
          (got-local am.some.setting am.some.kernel am.some.made before n.base from p am.some.node.run sent gets am.early range)

  -- what a node has to know to keep a marker
  pub may-mark : (n : Node P W) (before : Base) (from : ℕ) → IsAmidTurn m HasSeen (record n { base = before }) → GetsLetter from letter.Marker before n.base → (from < 8) × FitsPort n.base
  may-mark n before from am gets =
      let sent : HasSent am.some.setting am.some.kernel am.some.made before = am.some.node.sent am.unspoiled in
      let few : am.some.setting.kernels ≤ 8 = am.some.valid.limits.kernels in
      (omega (arith, gets.got.kernel, sent.kernels, few), (sent-got am.some.setting am.some.kernel am.some.made before n.base from letter.Marker gets sent).fits)

  -- ---- a program goes on

  module _ (n : Node P W) (place : ℕ) (p : Pid) (am : IsAmidTurn m HasSeen n) (at : IsAt m n.programs place p) where
    playing : ArePlaying m am.some.setting am.some.kernel am.some.first am.some.made n.base.journal.entries n.base.used n.programs
    playing = am.some.node.programs am.unspoiled

    told : StandsAsTold (heard.heard p n.base.journal.entries) (process_of p (state_of n.base.kernel))
    told = stands-told am.some.setting am.some.kernel am.some.made n.base p am.some.valid am.some.node.run

    pub amid-process : p.0 < length n.base.kernel.processes
    amid-process =
        let home : p.0 < length am.some.setting.homes
        = (all-at (λ x. (x.0.0 < length am.some.setting.homes) × (home am.some.setting x.0 ≡ am.some.kernel) × (m.version x.1 ≤ am.some.setting.version)) n.programs.all.items place (p, at.program) at.is playing.homes).0 in
        omega (arith, home, am.some.node.run.processes)

    -- what it was at its start
    abbrev was : Pid × P
    was = slice_index_or am.some.first place (p, at.program)

    begins : slice_get am.some.first place ≡ Some (slice_index_or am.some.first place (p, at.program))
    begins =
        let here : place < length n.programs.all.items = slice_get_within n.programs.all.items place (p, at.program) at.is in
        slice_get-get_or am.some.first place (p, at.program) (omega (arith, here, playing.count))

    plays : Plays m was.0 was.1 n.base.journal.entries at.program (doing_at n.programs.doing place) (playing.steps place)
    plays = playing.each place was (p, at.program) begins at.is

    hears : plays.at.heard ≡ heard.heard p n.base.journal.entries
    hears =
        told-heard m was.0 was.1 n.base.journal.entries at.program (doing_at n.programs.doing place) (playing.steps place) plays
        ∙ ap (λ (q : Pid). heard.heard q n.base.journal.entries) (sym (playing.pids place was (p, at.program) begins at.is))

    pub amid-stands : doing_at n.programs.doing place ≡ Answered → (a : AnAnswer) × ((process_of p (state_of n.base.kernel)).answer ≡ Some a)
    amid-stands is = let stands = doing-stands plays.at.last plays.at.heard (doing_at n.programs.doing place) plays.is_doing is in (stands.0, told.answer ∙ ap answer_of (sym hears) ∙ stands.1)

    pub amid-follows : (given : Option AnAnswer) → can_go_on (doing_at n.programs.doing place) ≡ true → IsLent n place p given → (d : Pid × P) → MayFollow (m.last (slice_index_or n.programs.all.items place d).1) given
    amid-follows given ready lent d =
        subst (λ (y : Pid × P). MayFollow (m.last y.1) given) (sym (get_or_from_slice_get n.programs.all.items place (p, at.program) d at.is))
        (subst (λ l. MayFollow l given) plays.last
        (given-fits plays.at.last plays.at.heard given (subst HasFitting (sym hears) told.fits)
        (lent-given plays.at.last plays.at.heard (doing_at n.programs.doing place) (process_of p (state_of n.base.kernel)).answer given plays.is_doing ready (told.answer ∙ ap answer_of (sym hears))
        (lent-of n place p given lent))))

  pub amid-later : (n : Node P W) (place : ℕ) (p : Pid) (given : Option AnAnswer) (c : Call) (stepped : Programs P) → IsAmidTurn m HasSeen n → can_go_on (doing_at n.programs.doing place) ≡ true
      → IsLent n place p given → StepsAt m place p given (next.Ask c) n.programs stepped → IsCallInRange c
      → (mine : List EndId) → IsCallWith p (entries n.base.kernel.table) mine c → IsAfterLast n.base.journal.entries (gives (state_of n.base.kernel) (MakesCall p c mine)).kernel.stamp
  amid-later n place p given c stepped am ready lent steps range mine call =
      let run : HasRun am.some.setting am.some.kernel am.some.made n.base = am.some.node.run in
      later-event am.some.setting am.some.kernel am.some.made n.base (MakesCall p c mine) run
      (call-local m am.some.setting am.some.kernel am.some.first am.some.made n.base n.base.used n.programs stepped place p given c (process_of p (state_of n.base.kernel)).answer steps
      (am.some.node.programs am.unspoiled) ready (stands-told am.some.setting am.some.kernel am.some.made n.base p am.some.valid run).answer (lent-of n place p given lent) mine am.some.valid run range call)
      am.early
