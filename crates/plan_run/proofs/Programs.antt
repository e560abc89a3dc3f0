-- The programs of nodes that have run replay the entries of their kernels, and their steps are among the turns used.
use Rattle.std.proofs.Common.{◌≡◌, inl, inr, ℕ, ◌+◌, ◌<◌, false, List, length, get_or, Some, None, refl, ap, sym, subst, ◌∙◌, arith}
use Rattle.std.specs.List.{sum_by}
use Rattle.std.specs.Prelude.{slice_get}
use Rattle.std.proofs.lemmas.List.Elements.{All-get_or}
use Rattle.std.proofs.lemmas.Option.{slice_get_within}
use Rattle.charlotte_calls.specs.declared.names.Pid.{Pid}
use Rattle.charlotte_calls.specs.declared.program.Next.TheVariants as next
use Rattle.charlotte_calls.specs.declared.setting.Setting.{Setting}
use Rattle.kernel_entries.specs.Order.{IsMerge}
use Rattle.kernel_entries.specs.declared.entry.Entry.{Entry}
use Rattle.kernel_entries.specs.declared.entry.Placed.{Placed}
use Rattle.kernel_step.specs.Start.{home}
use Rattle.kernel_worker.specs.Nodes.{ArePlaying, IsDoing, Meaning, Plays, sum_of, takings}
use Rattle.kernel_worker.specs.Node.{Node}
use Rattle.kernel_worker.specs.Local.{LocalEvent}
use Rattle.kernel_worker.proofs.Fitting.{At, Here, Past, all-get, at-of}
use Rattle.kernel_worker.specs.Net.{AreNodes, AreUnspoiled, journals_of}
use Rattle.node_start.proofs.Placed.{IsOf, on-apart, on-at}
use Rattle.node_start.specs.Homes.{programs_on}
use Rattle.program_round.specs.Doings.{NoneCanGo, can_go_on, doing_at}
use Rattle.program_round.specs.declared.doing.Doing.{Doing}
use Rattle.program_round.specs.declared.doing.Doing.TheVariants.{Begins, Answered, Pending, Paused, Ended}
use Rattle.kernel_worker.specs.Replay.{Replayed, Replays, replay_start}
use Rattle.plan_run.proofs.Journals.{entries-of}
use Rattle.plan_run.proofs.Places.{on-there, place_in, place-is, sum-places}
use Rattle.plan_run.specs.Run.{AreReplayed, IsOver, process}

-- ---- what a program is doing

pub over-of : {S : Type 0} (x : Replayed S) (d : Doing) → IsDoing x.last x.heard d → can_go_on d ≡ false → IsOver x
over-of x Begins is goes = absurd cc
over-of x Answered is goes = absurd cc
over-of x Pending is goes = inr is
over-of x Paused is goes = absurd cc
over-of x Ended is goes = inl is.0

pub stopped-of : {S : Type 0} (x : Replayed S) (d : Doing) → IsDoing x.last x.heard d → IsOver x → can_go_on d ≡ false
stopped-of x Begins is (inl ended) = absurd (let no : None ≡ Some next.Ended = sym is.0 ∙ ended in cc)
stopped-of x Begins is (inr waits) = absurd (let no : None ≡ Some (next.Ask waits.0) = sym is.0 ∙ waits.1 in cc)
stopped-of x Answered is (inl ended) = absurd (let no : Some (next.Ask is.0) ≡ Some next.Ended = sym is.2 ∙ ended in cc)
stopped-of x Answered is (inr waits) = absurd (let no = sym is.3 ∙ waits.2 in cc)
stopped-of x Pending is over = refl
stopped-of x Paused is (inl ended) = absurd (let no : Some next.Pause ≡ Some next.Ended = sym is.0 ∙ ended in cc)
stopped-of x Paused is (inr waits) = absurd (let no : Some next.Pause ≡ Some (next.Ask waits.0) = sym is.0 ∙ waits.1 in cc)
stopped-of x Ended is over = refl

module _ {P S W : Type 0} (m : Meaning P S) (HasSeen : W → List Entry → Type 0) (s : Setting) (programs : List P) (made : ℕ → List LocalEvent) (ns : List (Node P W))
    (nodes : AreNodes m HasSeen s (programs_on s programs) made ns) (whole : AreUnspoiled ns) where
  abbrev pub playing : (k : ℕ) (n : Node P W) → slice_get ns k ≡ Some n → ArePlaying m s k (programs_on s programs k) (made k) n.base.journal.entries n.base.used n.programs
  playing k n at = (nodes.each k n at).programs (all-get (λ (n : Node P W). n.spoiled ≡ false) ns k n at whole)

  -- the programs of a kernel are those of its processes
  own-home : (k q : ℕ) (x : Pid × P) → slice_get (programs_on s programs k) q ≡ Some x → home s x.0 ≡ k
  own-home k q x at =
      let of : IsOf k 0 s.homes programs x = on-at k 0 s.homes programs q x at in
      ap (λ i. get_or s.homes i 0) (of.number ∙ omega arith) ∙ of.home

  given-at : (k q : ℕ) (x : Pid × P) → slice_get (programs_on s programs k) q ≡ Some x → slice_get programs x.0.0 ≡ Some x.1
  given-at k q x at =
      let of : IsOf k 0 s.homes programs x = on-at k 0 s.homes programs q x at in
      ap (slice_get programs) (of.number ∙ omega arith) ∙ of.program

  -- ---- steps

  -- how many steps the program at a place of a kernel made
  abbrev pub steps_at : (k : ℕ) → At ns k → ℕ → ℕ
  steps_at k (Here n at below) j = (playing k n at).steps j
  steps_at k (Past past) j = 0

  abbrev pub steps_of : ℕ → ℕ
  steps_of i = steps_at (home s (process i)) (at-of ns (home s (process i))) (place_in i (programs_on s programs (home s (process i))))

  own-steps : (k j : ℕ) (x : Pid × P) → slice_get (programs_on s programs k) j ≡ Some x → steps_of x.0.0 ≡ steps_at k (at-of ns k) j
  own-steps k j x at =
      ap (λ h. steps_at h (at-of ns h) (place_in x.0.0 (programs_on s programs h))) (own-home k j x at)
      ∙ ap (steps_at k (at-of ns k)) (place-is k (programs_on s programs k) j x (on-apart k 0 s.homes programs) at)

  -- the turns of a node are the packets that it took, and the steps of its programs
  pub record HasUsed (k : ℕ) : Type 0 where
    pub node : Node P W
    pub at : slice_get ns k ≡ Some node
    pub turns : node.base.used ≡ takings (made k) + sum_by (λ (x : Pid × P). steps_of x.0.0) (programs_on s programs k)

  pub used-at : (k : ℕ) → k < s.kernels → HasUsed k
  used-at k below = by (at-of ns k) (sum-places (λ (x : Pid × P). steps_of x.0.0) (steps_at k (at-of ns k)) (programs_on s programs k) (own-steps k))
    where
      by : (a : At ns k) → sum_by (λ (x : Pid × P). steps_of x.0.0) (programs_on s programs k) ≡ sum_of (length (programs_on s programs k)) (steps_at k a) → HasUsed k
      by (Here n at there) sums = record { node = n; at = at; turns = (playing k n at).turns ∙ ap (λ i. takings (made k) + i) (sym sums) }
      by (Past past) sums = absurd (omega (arith, past, below, nodes.count))

  -- ---- replays

  -- the program at a place of a kernel replays the entries of its node, and is doing what that has it do
  pub record IsPlayed (k : ℕ) (a : At ns k) (j : ℕ) (x : Pid × P) : Type 0 where
    pub node : Node P W
    pub at_node : slice_get ns k ≡ Some node
    pub there : j < length node.programs.all.items
    pub now : P
    pub plays : Plays m x.0 x.1 node.base.journal.entries now (doing_at node.programs.doing j) (steps_at k a j)

  played : (k : ℕ) (a : At ns k) (j : ℕ) (x : Pid × P) → k < s.kernels → slice_get (programs_on s programs k) j ≡ Some x → IsPlayed k a j x
  played k (Past past) j x below at = absurd (omega (arith, past, below, nodes.count))
  played k (Here n at_node within) j x below at =
      let there : j < length n.programs.all.items = omega (arith, (playing k n at_node).count, slice_get_within (programs_on s programs k) j x at) in
      by there (at-of n.programs.all.items j)
    where
      by : j < length n.programs.all.items → At n.programs.all.items j → IsPlayed k (Here n at_node within) j x
      by there (Here is at_is inside) = record { node = n; at_node = at_node; there = there; now = is.1; plays = (playing k n at_node).each j x is at at_is }
      by there (Past past) = absurd (omega (arith, there, past))

  -- the program of a process
  module _ (i : ℕ) (was : P) (at : slice_get programs i ≡ Some was) (count : length programs ≡ length s.homes) where
    abbrev pub at-home : ℕ
    at-home = home s (process i)

    abbrev pub own : List (Pid × P)
    own = programs_on s programs at-home

    within : i < length s.homes
    within = omega (arith, count, slice_get_within programs i was at)

    stands : slice_get own (place_in i own) ≡ Some (process i, was)
    stands =
        let one = on-there at-home 0 s.homes programs i was within refl at in
        let number : 0 + i ≡ i = omega arith in
        let is : slice_get own one.0 ≡ Some (process i, was) = one.1 ∙ ap (λ j. Some (process j, was)) number in
        ap (slice_get own) (place-is at-home own one.0 (process i, was) (on-apart at-home 0 s.homes programs) is) ∙ is

    pub own-played : at-home < s.kernels → IsPlayed at-home (at-of ns at-home) (place_in i own) (process i, was)
    own-played below = played at-home (at-of ns at-home) (place_in i own) (process i, was) below stands

  -- the program at a place of a kernel is the one that its process's place finds
  own-stopped : (k : ℕ) (n : Node P W) (q : ℕ) (x : Pid × P) → slice_get ns k ≡ Some n → slice_get (programs_on s programs k) q ≡ Some x → (h : ℕ) → h ≡ k → (node : Node P W) → slice_get ns h ≡ Some node
      → can_go_on (doing_at node.programs.doing (place_in x.0.0 (programs_on s programs h))) ≡ false → can_go_on (doing_at n.programs.doing q) ≡ false
  own-stopped k n q x at_n at h own node at_node stopped =
      let place : place_in x.0.0 (programs_on s programs h) ≡ q
      = ap (λ i. place_in x.0.0 (programs_on s programs i)) own ∙ place-is k (programs_on s programs k) q x (on-apart k 0 s.homes programs) at in
      let same : Some node ≡ Some n = sym at_node ∙ ap (slice_get ns) own ∙ at_n in
      let is : node ≡ n = cc in
      sym (ap (λ (o : Node P W). can_go_on (doing_at o.programs.doing q)) is) ∙ sym (ap (λ j. can_go_on (doing_at node.programs.doing j)) place) ∙ stopped

  -- ---- in a merge of the journals

  module _ (count : length programs ≡ length s.homes) (merged : List Placed) (merge : IsMerge (journals_of ns) merged) where
    there-home : (i : ℕ) (was : P) → slice_get programs i ≡ Some was → home s (process i) < s.kernels
    there-home i was at = All-get_or (λ h. h < s.kernels) s.homes i 0 (within i was at count) nodes.valid.homes

    pub played-by : (i : ℕ) (was : P) (at : slice_get programs i ≡ Some was) → IsPlayed (home s (process i)) (at-of ns (home s (process i))) (place_in i (programs_on s programs (home s (process i)))) (process i, was)
    played-by i was at = own-played i was at count (there-home i was at)

    abbrev pub replayed : AreReplayed m s programs merged
    replayed =
        record {
          steps = steps_of;
          replays = λ i was at.
              let is = played-by i was at in (
                is.plays.at.state,
                record {
                  at = is.plays.at;
                  replay = subst (λ es. Replays m.step (process i) (replay_start (m.state was)) es is.plays.at) (sym (entries-of m HasSeen s (programs_on s programs) made ns nodes merged merge (home s (process i)) is.node is.at_node)) is.plays.replay;
                  state_is = refl;
                  steps_are = is.plays.steps_are;
                },
              );
        }

    -- where no program of a node can go on, those of its kernel are over
    pub over-at : ((k : ℕ) (n : Node P W) → slice_get ns k ≡ Some n → NoneCanGo (length n.programs.all.items) n.programs.doing)
        → (i : ℕ) (was : P) (at : slice_get programs i ≡ Some was) → IsOver (replayed.replays i was at).1.at
    over-at none i was at =
        let is = played-by i was at in
        let k = home s (process i) in
        let place = place_in i (programs_on s programs k) in
        over-of is.plays.at (doing_at is.node.programs.doing place) is.plays.is_doing (none k is.node is.at_node place is.there)

    stopped-at : (i : ℕ) (was : P) (at : slice_get programs i ≡ Some was) → IsOver (replayed.replays i was at).1.at
        → can_go_on (doing_at (played-by i was at).node.programs.doing (place_in i (programs_on s programs (home s (process i))))) ≡ false
    stopped-at i was at over =
        let is = played-by i was at in
        stopped-of is.plays.at (doing_at is.node.programs.doing (place_in i (programs_on s programs (home s (process i))))) is.plays.is_doing over

    -- and where all programs are over, no program of a node can go on
    pub none-at : ((i : ℕ) (was : P) (at : slice_get programs i ≡ Some was) → IsOver (replayed.replays i was at).1.at)
        → (k : ℕ) (n : Node P W) → slice_get ns k ≡ Some n → NoneCanGo (length n.programs.all.items) n.programs.doing
    none-at over k n at_node q below = by (at-of (programs_on s programs k) q)
      where
        by : At (programs_on s programs k) q → can_go_on (doing_at n.programs.doing q) ≡ false
        by (Past past) = absurd (omega (arith, past, below, (playing k n at_node).count))
        by (Here x at inside) =
            let given = given-at k q x at in
            own-stopped k n q x at_node at (home s (process x.0.0)) (own-home k q x at) (played-by x.0.0 x.1 given).node (played-by x.0.0 x.1 given).at_node (stopped-at x.0.0 x.1 given (over x.0.0 x.1 given))
