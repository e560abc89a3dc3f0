-- The law of a turn: a node stays one, of the events that it had and those of the turn.
use Rattle.std.proofs.Common.{◌≡◌, ℕ, ◌+◌, ◌<◌, ◌≤◌, Bool, true, false, List, [], ◌∷◌, ◌++◌, Option, Some, None, All, refl, ap, sym, subst, ◌∙◌, append-nil, arith}
use Rattle.std.proofs.lemmas.List.Elements.{All-pop}
use Rattle.charlotte_calls.specs.Ranges.{IsCallInRange}
use Rattle.charlotte_calls.specs.Setting.{IsValid}
use Rattle.charlotte_calls.specs.declared.calls.Answer.{Answer as AnAnswer}
use Rattle.charlotte_calls.specs.declared.calls.Call.{Call}
use Rattle.charlotte_calls.specs.declared.names.EndId.{EndId}
use Rattle.charlotte_calls.specs.declared.names.Pid.{Pid}
use Rattle.charlotte_calls.specs.declared.program.Next.{Next}
use Rattle.charlotte_calls.specs.declared.program.Next.TheVariants as next
use Rattle.charlotte_calls.specs.declared.setting.Setting.{Setting}
use Rattle.charlotte_packets.specs.Packets.{packet_picture}
use Rattle.charlotte_packets.specs.Ranges.{IsPictureInRange}
use Rattle.charlotte_packets.specs.declared.packet.Packet.{Packet}
use Rattle.end_table.specs.Table.{entries}
use Rattle.kernel_core.specs.State.{KernelView, state_of}
use Rattle.kernel_entries.specs.Ranges.{IsEntryInRange}
use Rattle.kernel_entries.specs.declared.entry.Entry.{Entry}
use Rattle.kernel_net.specs.Letters.{greatest_stamp}
use Rattle.kernel_net.specs.declared.letter.Letter.{Letter}
use Rattle.kernel_net.specs.declared.letter.Letter.TheVariants as letter
use Rattle.kernel_step.specs.Calls.{IsCallWith}
use Rattle.kernel_step.specs.Kernel.{process_of}
use Rattle.program_runs.specs.Local.{IsLocalEvent, LocalEvent, MakesCall, TakesPacket, entry_of}
use Rattle.program_round.specs.Doings.{can_go_on, doing_at}
use Rattle.program_round.specs.declared.programs.Programs.{Programs}
use Rattle.program_runs.specs.Replay.{IsNoCall}
use Rattle.program_runs.specs.Told.{answer_of}
use Rattle.program_runs.specs.Told as heard
use Rattle.kernel_turns.proofs.Calling.{answers-told, call-local, stands-told}
use Rattle.kernel_turns.proofs.Later.{got-local}
use Rattle.kernel_turns.proofs.Programs.{playing-took}
use Rattle.kernel_turns.proofs.Stepped.{IsLentOf, playing-asked, playing-paused}
use Rattle.kernel_turns.proofs.Working.{Holds, holds-asked, holds-marked, holds-ready, holds-took, run-kept}
use Rattle.kernel_turns.specs.Amid.{SameRun}
use Rattle.kernel_turns.specs.Events.{Happens}
use Rattle.kernel_turns.specs.Nodes.{ArePlaying, HasRun, IsNode, Meaning}
use Rattle.kernel_turns.specs.Turns.{Asks, Began, Begins, BeginsInTime, BeginsOnce, Continues, GetsLetter, GetsMarker, HasTurns, Hears, Idles, InTime, IsLent, IsTurn, KeepsWork, NotNow, Pauses, PutsLetters, SendsOnly, SpendsStamps, SpendsTurns, StepsAt, TakesIt, Works, with_marker}
use Rattle.kernel_turns.specs.declared.base.Base.{Base}
use Rattle.kernel_turns.specs.declared.node.Node.{Node}
use Rattle.kernel_turns.specs.declared.node.Turn.{Turn}

-- ---- what keeps kernel, journal, orders and turns

works-same : (old new : Base) → old ≡ new → KeepsWork old new
works-same old new same = subst (KeepsWork old) same (record { kernel = refl; journal = refl; orders = refl; used = refl })

works-once : (old new : Base) → BeginsOnce old new → KeepsWork old new
works-once old new (Begins h) = h.kept
works-once old new (Began n is same) = works-same old new same

pub works-in_time : (old new : Base) → BeginsInTime old new → KeepsWork old new
works-in_time old new (InTime time once) = works-once old new once
works-in_time old new (NotNow not same) = works-same old new same

pub works-both : (old mid new : Base) → KeepsWork old mid → KeepsWork mid new → KeepsWork old new
works-both old mid new one two = record { kernel = two.kernel ∙ one.kernel; journal = two.journal ∙ one.journal; orders = two.orders ∙ one.orders; used = two.used ∙ one.used }

works-marked : (from : ℕ) (l : Letter) (old got new : Base) → GetsLetter from l old got → BeginsOnce (with_marker from got) new → KeepsWork old new
works-marked from l old got new gets once =
    let kept : KeepsWork (with_marker from got) new = works-once (with_marker from got) new once in
    record {
      kernel = kept.kernel ∙ ap (λ (b : Base). b.kernel) gets.rest;
      journal = kept.journal ∙ ap (λ (b : Base). b.journal.entries) gets.rest;
      orders = kept.orders ∙ ap (λ (b : Base). b.orders) gets.rest;
      used = kept.used ∙ ap (λ (b : Base). b.used) gets.rest;
    }

-- the entry of an event is in the range of its types
last-range : (es : List Entry) (e : Entry) (all : List Entry) → all ≡ es ++ e ∷ [] → All IsEntryInRange all → IsEntryInRange e
last-range es e all is range = (All-pop IsEntryInRange all es (Some e) is range).1

module _ {P W : Type 0} where
  pub lent-of : (n : Node P W) (place : ℕ) (p : Pid) (given : Option AnAnswer) → IsLent n place p given
      → IsLentOf (doing_at n.programs.doing place) (process_of p (state_of n.base.kernel)).answer given
  lent-of n place p None lent = lent
  lent-of n place p (Some a) lent = lent

module _ {P S : Type 0} (m : Meaning P S) (s : Setting) (k : ℕ) (first : List (Pid × P)) where
  -- what holds of a node while memory is there, but for its watch
  record Whole (made : List LocalEvent) (b : Base) (programs : Programs P) : Type 0 where
    base : Holds s k made b
    playing : ArePlaying m s k first made b.journal.entries b.used programs
    limit : b.used ≤ b.orders.limit
    most : b.orders.limit ≤ 100000

  whole-kept : (made : List LocalEvent) (old new : Base) (programs : Programs P) → KeepsWork old new → Holds s k made new → Whole made old programs → Whole made new programs
  whole-kept made old new programs kept holds whole =
      record {
        base = holds;
        playing = subst (λ es. ArePlaying m s k first made es new.used programs) (sym kept.journal) (subst (λ u. ArePlaying m s k first made old.journal.entries u programs) (sym kept.used) whole.playing);
        limit = omega (arith, whole.limit, kept.used, ap (λ o. o.limit) kept.orders);
        most = omega (arith, whole.most, ap (λ o. o.limit) kept.orders);
      }

  -- ---- an event

  -- a packet that was got is taken
  whole-took : (made : List LocalEvent) (from : ℕ) (p : Packet) (old got new : Base) (who : List Pid) (programs told : Programs P) → IsValid s → GetsLetter from (letter.Packet p) old got
      → old.kernel.stamp < greatest_stamp → HasTurns old → Happens (TakesPacket from (packet_picture p)) got new who → Hears who programs told → All IsEntryInRange new.journal.entries
      → Whole made old programs → Whole (made ++ TakesPacket from (packet_picture p) ∷ []) new told
  whole-took made from p old got new who programs told valid gets early turns happens hears range whole =
      record {
        base = holds-took s k made from p old got new who gets picture early happens range whole.base;
        playing = subst (λ es. ArePlaying m s k first (made ++ o ∷ []) es new.used told) (sym happens.noted)
            (playing-took m s k first made got.journal.entries old.used new.used programs told o (entry_of (state_of got.kernel) o) who (λ q. refl)
            (answers-told s k made got o who valid run is happens.answered) hears used
            (subst (λ es. ArePlaying m s k first made es old.used programs) (sym journal) whole.playing));
        limit = omega (arith, turns, used, orders);
        most = omega (arith, whole.most, orders);
      }
    where
      o : LocalEvent
      o = TakesPacket from (packet_picture p)

      kernel : got.kernel ≡ old.kernel
      kernel = ap (λ (b : Base). b.kernel) gets.rest

      journal : got.journal.entries ≡ old.journal.entries
      journal = ap (λ (b : Base). b.journal.entries) gets.rest

      used : new.used ≡ old.used + 1
      used = happens.used ∙ ap (λ (b : Base). b.used + 1) gets.rest

      orders : new.orders.limit ≡ old.orders.limit
      orders = ap (λ o. o.limit) happens.orders ∙ ap (λ (b : Base). b.orders.limit) gets.rest

      picture : IsPictureInRange (packet_picture p)
      picture = (last-range got.journal.entries (entry_of (state_of got.kernel) o) new.journal.entries happens.noted range).what.1

      run : HasRun s k made got
      run = run-kept s k made old got kernel journal whole.base.run

      is : IsLocalEvent s k (state_of got.kernel) o
      is = subst (λ v. IsLocalEvent s k (state_of v) o) (sym kernel) (got-local s k made old got from p whole.base.run whole.base.sent gets early picture)

  -- a turn is used without an event
  holds-more : (made : List LocalEvent) (b : Base) → Holds s k made b → Holds s k made (record b { used = b.used + 1 })
  holds-more made b h =
      record {
        run = run-kept s k made b (record b { used = b.used + 1 }) refl refl h.run;
        sent = record { put = h.sent.put; begun = h.sent.begun; stamps = h.sent.stamps; number = h.sent.number; kernels = h.sent.kernels; fits = record { lists = h.sent.fits.lists; within = h.sent.fits.within } };
        taken = record { got = h.taken.got; marked = h.taken.marked; marks = h.taken.marks };
      }

  module _ {W : Type 0} where
    -- a program asks a call, which is made
    whole-asked : (made : List LocalEvent) (n : Node P W) (place : ℕ) (p : Pid) (given : Option AnAnswer) (c : Call) (mine : List EndId) (stepped told : Programs P) (new : Base) (who : List Pid) → IsValid s
        → n.base.kernel.stamp < greatest_stamp → HasTurns n.base → can_go_on (doing_at n.programs.doing place) ≡ true → IsLent n place p given → StepsAt m place p given (next.Ask c) n.programs stepped
        → IsCallWith p (entries n.base.kernel.table) mine c → Happens (MakesCall p c mine) n.base new who → Hears who stepped told → All IsEntryInRange new.journal.entries
        → Whole made n.base n.programs → Whole (made ++ MakesCall p c mine ∷ []) new told
    whole-asked made n place p given c mine stepped told new who valid early turns ready lent steps call happens hears range whole =
        record {
          base = holds-asked s k made p c mine n.base new who is early happens range whole.base;
          playing = subst (λ es. ArePlaying m s k first (made ++ o ∷ []) es new.used told) (sym happens.noted)
              (subst (λ u. ArePlaying m s k first (made ++ o ∷ []) (n.base.journal.entries ++ entry_of (state_of n.base.kernel) o ∷ []) u told) (sym happens.used)
              (playing-asked m s k first made n.base.journal.entries n.base.used n.programs stepped place p given (next.Ask c) stands steps whole.playing ready at lends
              c mine (entry_of (state_of n.base.kernel) o) who told refl refl (answers-told s k made n.base o who valid whole.base.run is happens.answered) hears));
          limit = omega (arith, turns, happens.used, ap (λ o. o.limit) happens.orders);
          most = omega (arith, whole.most, ap (λ o. o.limit) happens.orders);
        }
      where
        o : LocalEvent
        o = MakesCall p c mine

        stands : Option AnAnswer
        stands = (process_of p (state_of n.base.kernel)).answer

        at : (process_of p (state_of n.base.kernel)).answer ≡ answer_of (heard.heard p n.base.journal.entries)
        at = (stands-told s k made n.base p valid whole.base.run).answer

        lends : IsLentOf (doing_at n.programs.doing place) (process_of p (state_of n.base.kernel)).answer given
        lends = lent-of n place p given lent

        in_range : IsCallInRange c
        in_range = (last-range n.base.journal.entries (entry_of (state_of n.base.kernel) o) new.journal.entries happens.noted range).what.1

        is : IsLocalEvent s k (state_of n.base.kernel) o
        is = call-local m s k first made n.base n.base.used n.programs stepped place p given c stands steps whole.playing ready at lends mine valid whole.base.run in_range call

    -- or it pauses or ends
    whole-paused : (made : List LocalEvent) (n : Node P W) (place : ℕ) (p : Pid) (given : Option AnAnswer) (does : Next) (stepped : Programs P) → IsValid s → HasTurns n.base
        → can_go_on (doing_at n.programs.doing place) ≡ true → IsLent n place p given → IsNoCall does → StepsAt m place p given does n.programs stepped
        → Whole made n.base n.programs → Whole made (record n.base { used = n.base.used + 1 }) stepped
    whole-paused made n place p given does stepped valid turns ready lent none steps whole =
        record {
          base = holds-more made n.base whole.base;
          playing = playing-paused m s k first made n.base.journal.entries n.base.used n.programs stepped place p given does (process_of p (state_of n.base.kernel)).answer steps whole.playing ready
              (stands-told s k made n.base p valid whole.base.run).answer (lent-of n place p given lent) none;
          limit = omega (arith, turns);
          most = whole.most;
        }

    -- ---- a turn

    continued : (made : List LocalEvent) (put : Bool) (t : Turn) (n after : Node P W) → IsValid s → n.base.kernel.stamp < greatest_stamp → Continues m put t n after
        → All IsEntryInRange after.base.journal.entries → Whole made n.base n.programs → (more : List LocalEvent) × Whole (made ++ more) after.base after.programs
    continued made put t n after valid early (SpendsTurns n' spent) range whole = ([], subst (λ es. Whole es n.base n.programs) (sym (append-nil made)) whole)
    continued made put t n after valid early (TakesIt n' from p got base who told watch turns gets happens hears) range whole =
        (TakesPacket from (packet_picture p) ∷ [], whole-took made from p n.base got base who n.programs told valid gets early turns happens hears range whole)
    continued made put t n after valid early (GetsMarker n' from got base turns gets once) range whole =
        let few : s.kernels ≤ 8 = valid.limits.kernels in
        let there : from < s.kernels = subst (λ c. from < c) whole.base.sent.kernels gets.got.kernel in
        let below : from < 8 = omega (arith, few, there) in (
          [],
          subst (λ es. Whole es base n.programs) (sym (append-nil made))
              (whole-kept made n.base base n.programs (works-marked from letter.Marker n.base got base gets once) (holds-marked s k made from n.base got base gets once below whole.base) whole),
        )
    continued made put t n after valid early (Asks n' place p given c mine stepped told base who watch turns silent next lent steps call happens hears) range whole =
        (MakesCall p c mine ∷ [], whole-asked made n place p given c mine stepped told base who valid early turns next.ready lent steps call happens hears range whole)
    continued made put t n after valid early (Pauses n' place p given does stepped turns silent next lent none steps) range whole =
        ([], subst (λ es. Whole es (record n.base { used = n.base.used + 1 }) stepped) (sym (append-nil made)) (whole-paused made n place p given does stepped valid turns next.ready lent none steps whole))
    continued made put t n after valid early (SendsOnly n' turns silent none is) range whole = ([], subst (λ es. Whole es n.base n.programs) (sym (append-nil made)) whole)
    continued made put t n after valid early (Idles n' turns silent none is) range whole = ([], subst (λ es. Whole es n.base n.programs) (sym (append-nil made)) whole)

    whole-turned : (made : List LocalEvent) (t : Turn) (n after : Node P W) → IsValid s → IsTurn m t n after → All IsEntryInRange after.base.journal.entries → Whole made n.base n.programs
        → (more : List LocalEvent) × Whole (made ++ more) after.base after.programs
    whole-turned made t n after valid (SpendsStamps n' spent) range whole = ([], subst (λ es. Whole es n.base n.programs) (sym (append-nil made)) whole)
    whole-turned made t n after valid (Works n' begun ready put t' after' early time puts on) range whole =
        let kept : KeepsWork n.base ready = works-both n.base begun ready (works-in_time n.base begun time) puts.kept in
        continued made put t (record n { base = ready }) after valid (subst (λ (v : KernelView). v.stamp < greatest_stamp) (sym kept.kernel) early) on range
        (whole-kept made n.base ready n.programs kept (holds-ready s k made put n.base begun ready time puts whole.base) whole)

    module _ (HasSeen : W → List Entry → Type 0) where
      pub node-turned : (made : List LocalEvent) (t : Turn) (n after : Node P W) → IsValid s → IsTurn m t n after → n.spoiled ≡ false → HasSeen after.watch after.base.journal.entries
          → All IsEntryInRange after.base.journal.entries → IsNode m HasSeen s k first made n → (more : List LocalEvent) × IsNode m HasSeen s k first (made ++ more) after
      node-turned made t n after valid turned whole_yet seen range node =
          let whole = whole-turned made t n after valid turned range
          (record { base = record { run = node.run; sent = node.sent whole_yet; taken = node.taken whole_yet }; playing = node.programs whole_yet; limit = node.limit; most = node.most }) in (
            whole.0,
            record {
              run = whole.1.base.run;
              sent = λ e. whole.1.base.sent;
              taken = λ e. whole.1.base.taken;
              programs = λ e. whole.1.playing;
              watch = λ e. seen;
              limit = whole.1.limit;
              most = whole.1.most;
            },
          )

      -- after want of memory it is one of the events that it had
      pub node-spoiled : (made : List LocalEvent) (n after : Node P W) → SameRun n.base after.base → after.spoiled ≡ true → IsNode m HasSeen s k first made n → IsNode m HasSeen s k first made after
      node-spoiled made n after same spoiled node =
          record {
            run = record {
              local = node.run.local;
              kernel = same.kernel ∙ node.run.kernel;
              processes = same.processes ∙ node.run.processes;
              kernels = same.kernels ∙ node.run.kernels;
              noted = same.journal ∙ node.run.noted;
              in_range = subst (All IsEntryInRange) (sym same.journal) node.run.in_range;
            };
            sent = λ e. let no : true ≡ false = sym spoiled ∙ e in absurd cc;
            taken = λ e. let no : true ≡ false = sym spoiled ∙ e in absurd cc;
            programs = λ e. let no : true ≡ false = sym spoiled ∙ e in absurd cc;
            watch = λ e. let no : true ≡ false = sym spoiled ∙ e in absurd cc;
            limit = omega (arith, node.limit, same.used, ap (λ o. o.limit) same.orders);
            most = omega (arith, node.most, ap (λ o. o.limit) same.orders);
          }

      -- it begins where it is time, and puts letters
      pub node-ready : (made : List LocalEvent) (n : Node P W) (begun ready : Base) (put : Bool) → BeginsInTime n.base begun → PutsLetters put begun ready → n.spoiled ≡ false
          → IsNode m HasSeen s k first made n → IsNode m HasSeen s k first made (record n { base = ready })
      node-ready made n begun ready put time puts whole_yet node =
          let kept : KeepsWork n.base ready = works-both n.base begun ready (works-in_time n.base begun time) puts.kept in
          let holds : Holds s k made ready = holds-ready s k made put n.base begun ready time puts (record { run = node.run; sent = node.sent whole_yet; taken = node.taken whole_yet }) in
          let whole = whole-kept made n.base ready n.programs kept holds
          (record { base = record { run = node.run; sent = node.sent whole_yet; taken = node.taken whole_yet }; playing = node.programs whole_yet; limit = node.limit; most = node.most }) in
          record {
            run = whole.base.run;
            sent = λ e. whole.base.sent;
            taken = λ e. whole.base.taken;
            programs = λ e. whole.playing;
            watch = λ e. subst (HasSeen n.watch) (sym kept.journal) (node.watch whole_yet);
            limit = whole.limit;
            most = whole.most;
          }
