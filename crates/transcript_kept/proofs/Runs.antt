-- What a run keeps, once an event was noted.
use Rattle.std.proofs.Common.{◌≡◌, ℕ, ◌+◌, suc, ◌<◌, ◌≤◌, Bool, true, false, MatchBool, IfOk, MatchOption, Option, Result, Ok, Err, arith, List, [], ◌∷◌, drop, length, slice_get, cond, lt-ltb, le-ltb, Some, None, option_map, refl, subst, sym, ap, ◌∙◌}
use Rattle.std.specs.Bool.{OnTrue}
use Rattle.std.proofs.lemmas.List.Elements.{All-get_or}
use Rattle.std.proofs.lemmas.Option.{get_or_from_slice_get, slice_get_within}
use Rattle.charlotte_calls.specs.Setting.{IsValid}
use Rattle.charlotte_calls.specs.declared.calls.Call.{Call}
use Rattle.charlotte_calls.specs.declared.calls.ServiceStep.{ServiceStep}
use Rattle.charlotte_packets.specs.Packets.{packet_picture, what_picture}
use Rattle.charlotte_packets.specs.declared.packet.Packet.{Packet}
use Rattle.charlotte_packets.specs.declared.picture.Picture.{Picture}
use Rattle.charlotte_packets.specs.declared.picture.PictureWhat.{PictureWhat}
use Rattle.charlotte_calls.specs.declared.names.EndId.{EndId}
use Rattle.charlotte_calls.specs.declared.names.Pid.{Pid}
use Rattle.charlotte_calls.specs.declared.setting.Setting.{Setting}
use Rattle.end_table.specs.Table.{entries}
use Rattle.end_table.specs.declared.entry.Entry.{Entry}
use Rattle.end_table.specs.declared.entry.Entry.TheVariants.{Nothing}
use Rattle.kernel_core.specs.State.{KernelView}
use Rattle.kernel_core.specs.State.{state_of as kernel_state}
use Rattle.kernel_nodes.specs.Nodes.{AreNodes, Happens, IsKernelAt, world_of}
use Rattle.kernel_nodes.specs.Nodes.{IsFirst as TellsFirst}
use Rattle.kernel_nodes.specs.declared.nodes.Nodes.{Nodes}
use Rattle.kernel_nodes.specs.declared.nodes.Noted.{Noted}
use Rattle.kernel_step.specs.Calls.{IsCallWith}
use Rattle.kernel_step.specs.Kernel.{Kernel, process_of}
use Rattle.kernel_world.specs.World.{Event, Calls, happens, kernel_of, outcome}
use Rattle.kernel_world.specs.World.{Takes as TakesFirst}
use Rattle.link_service.specs.Service.{state_of}
use Rattle.service_step.specs.Steps.{IsAllowed}
use Rattle.transcript_items.specs.Kept.{Asks, Kept, MayCall, Shows, Takes, doing_in, doing_of, entry_at, goes_on, stamp_of}
use Rattle.transcript_items.specs.declared.kernels.Doing.{Doing}
use Rattle.transcript_items.specs.Next.{FollowsNext}
use Rattle.transcript_kept.specs.Run.{AnswersNext, IsRun, ReadsFirst, kept_of}
use Rattle.transcript_kept.specs.declared.run.Run.{Run}
use Rattle.expected_lines.specs.Told.{told_packet}
use Rattle.transcript_reader.specs.Lines.{Unread}
use Rattle.transcript_reader.specs.Next.{Reads, SkipsNote}
use Rattle.leading_lines.specs.declared.guess.CallAhead.{CallAhead}
use Rattle.leading_lines.specs.declared.guess.PacketAhead.{PacketAhead}
use Rattle.transcript_reading.specs.Kinds.{shown_step}
use Rattle.transcript_reading.specs.declared.line.LineKind.TheVariants as line

-- the event with its note, and what stayed
pub record IsNoted (e : Event) (ms : Nodes) (noted : Noted) (old new : Run) : Type 0 where
  pub setting : new.setting ≡ old.setting
  pub nodes : new.nodes ≡ ms
  pub service : new.service ≡ old.service
  pub latest : new.latest ≡ Some (noted.stamp, kernel_of e)
  pub due : new.due.items ≡ noted.steps.items
  pub happened : Happens old.setting e noted old.nodes.nodes.items ms.nodes.items

pub stands : (e : Event) (ms : Nodes) (noted : Noted) (old new : Run) → IsRun old → IsNoted e ms noted old new → IsRun new
stands e ms noted old new run is =
    record {
      valid = subst IsValid (sym is.setting) run.valid;
      nodes = subst (λ (s : Setting). AreNodes s new.nodes.nodes.items) (sym is.setting) (subst (λ (ns : Nodes). AreNodes old.setting ns.nodes.items) (sym is.nodes) is.happened.nodes);
    }

pub kept-on : (e : Event) (ms : Nodes) (noted : Noted) (old new : Run) → IsNoted e ms noted old new → kept_of new ≡ goes_on (kept_of old) e
kept-on e ms noted old new is =
    let o = outcome (world_of old.setting old.nodes.nodes.items) e in
    let world : world_of new.setting new.nodes.nodes.items ≡ happens (world_of old.setting old.nodes.nodes.items) e =
    ap (λ (s : Setting). world_of s new.nodes.nodes.items) is.setting ∙ ap (λ (ns : Nodes). world_of old.setting ns.nodes.items) is.nodes ∙ is.happened.world in
    let latest : new.latest ≡ Some (o.kernel.stamp, kernel_of e) = is.latest ∙ ap (λ (stamp : ℕ). Some (stamp, kernel_of e)) is.happened.noted.stamp in
    let due : new.due.items ≡ o.steps = is.due ∙ is.happened.noted.steps in
    λ i. record { setting = is.setting i; world = world i; latest = latest i; due = due i; service = state_of (is.service i) }

-- the call of a process was made
pub asks-on : (kernel : ℕ) (p : Pid) (call told : Call) (mine : List EndId) (ms : Nodes) (noted : Noted) (old new : Run) → MayCall (kept_of old) kernel p → told ≡ call
    → IsCallWith p ((kept_of old).world.kernel kernel).table mine told → IsNoted (Calls kernel p told mine) ms noted old new → Asks (kept_of old) kernel p call (kept_of new)
asks-on kernel p call told mine ms noted old new may same owned is =
    subst (λ (c : Call). Asks (kept_of old) kernel p c (kept_of new)) same (record { may = may; mine = mine; owned = owned; after = kept-on (Calls kernel p told mine) ms noted old new is })

-- ---- the kernel of a process

-- it is there
pub home-there : (s : Setting) (p home : ℕ) → IsValid s → slice_get s.homes p ≡ Some home → home < s.kernels
home-there s p home valid at =
    subst (λ k. k < s.kernels) (get_or_from_slice_get s.homes p home home at)
    (All-get_or (λ k. k < s.kernels) s.homes p home (slice_get_within s.homes p home at) valid.homes)

-- ---- the first packet

-- it is one of the kept
pub first-kept : (what : PictureWhat) (qs : List Picture) → TellsFirst what qs → (q : Picture) × (slice_get qs 0 ≡ Some q) × (q.what ≡ what)
first-kept what [] is = absurd is
first-kept what (q ∷ qs) is = (q, refl, is)

kept-first : (what : PictureWhat) (qs : List Picture) (q : Picture) → slice_get qs 0 ≡ Some q → q.what ≡ what → TellsFirst what qs
kept-first what [] q at told = absurd (cc)
kept-first what (x ∷ xs) q at told = let same : x ≡ q = cc in ap (λ (y : Picture). y.what) same ∙ told

-- where no first packet tells this, none is taken
pub takes-none : (old : Kept) (from to : ℕ) (what : PictureWhat) → (to < old.setting.kernels → TellsFirst what (old.world.packets from to) → ⊥) → (new : Kept) → Takes old from to what new → ⊥
takes-none old from to what none new takes = none takes.first.there (kept-first what (old.world.packets from to) takes.first.packet takes.first.first takes.first.told)

-- ---- what is told of a kernel

state-stamp : (k : KernelView) → (kernel_state k).stamp ≡ k.stamp
unfolding kernel_state
state-stamp k = refl

state-table : (k : KernelView) → (kernel_state k).table ≡ entries k.table
unfolding kernel_state
state-table k = refl

-- a process that is not there
pub doing-none : (r : Run) (p : Pid) → None ≡ slice_get r.setting.homes p.0 → None ≡ doing_of (kept_of r) p
doing-none r p at = ap (option_map (λ home. (home, doing_in (process_of p ((kept_of r).world.kernel home)).phase))) at

-- one that is
pub doing-some : (r : Run) (p : Pid) (home : ℕ) (k : KernelView) (d : Doing) → Some home ≡ slice_get r.setting.homes p.0 → IsKernelAt r.setting home r.nodes.nodes.items k
    → d ≡ doing_in (process_of p (kernel_state k)).phase → Some (home, d) ≡ doing_of (kept_of r) p
doing-some r p home k d at is told =
    ap (λ (x : Doing). Some (home, x)) (told ∙ ap (λ (x : Kernel). doing_in (process_of p x).phase) (sym is.state))
    ∙ ap (option_map (λ home. (home, doing_in (process_of p ((kept_of r).world.kernel home)).phase))) at

pub stamp-none : (r : Run) (kernel : ℕ) → r.setting.kernels ≤ kernel → None ≡ stamp_of (kept_of r) kernel
stamp-none r kernel over = sym (ap (λ b. cond b (Some ((kept_of r).world.kernel kernel).stamp) None) (le-ltb kernel r.setting.kernels over))

pub stamp-some : (r : Run) (kernel : ℕ) (k : KernelView) (stamp : ℕ) → IsKernelAt r.setting kernel r.nodes.nodes.items k → stamp ≡ k.stamp → Some stamp ≡ stamp_of (kept_of r) kernel
stamp-some r kernel k stamp is told =
    ap (λ n. Some n) (told ∙ sym (state-stamp k) ∙ ap (λ (x : Kernel). x.stamp) (sym is.state))
    ∙ sym (ap (λ b. cond b (Some ((kept_of r).world.kernel kernel).stamp) None) (lt-ltb kernel r.setting.kernels is.below))

pub entry-none : (r : Run) (kernel : ℕ) (end : EndId) → r.setting.kernels ≤ kernel → Nothing ≡ entry_at (kept_of r) kernel end
entry-none r kernel end over = sym (ap (λ b. cond b (((kept_of r).world.kernel kernel).table end) Nothing) (le-ltb kernel r.setting.kernels over))

pub entry-some : (r : Run) (kernel : ℕ) (end : EndId) (k : KernelView) (x : Entry) → IsKernelAt r.setting kernel r.nodes.nodes.items k → x ≡ entries k.table end → x ≡ entry_at (kept_of r) kernel end
entry-some r kernel end k x is told =
    told ∙ ap (λ (t : EndId → Entry). t end) (sym (state-table k)) ∙ ap (λ (x : Kernel). x.table end) (sym is.state)
    ∙ sym (ap (λ b. cond b (((kept_of r).world.kernel kernel).table end) Nothing) (lt-ltb kernel r.setting.kernels is.below))

-- ---- the next line

-- it was not read, and another call is kept at most
pub none-next : (old new : Run) (u v : Unread) → IsRun old → new.setting ≡ old.setting → new.nodes ≡ old.nodes → new.service ≡ old.service → new.latest ≡ old.latest → new.due ≡ old.due → v ≡ u → AnswersNext old u None new v
none-next old new u v run setting nodes service latest due same = (
  record {
    valid = subst IsValid (sym setting) run.valid;
    nodes = subst (λ (ns : Nodes). AreNodes new.setting ns.nodes.items) (sym nodes) (subst (λ (s : Setting). AreNodes s old.nodes.nodes.items) (sym setting) run.nodes);
  },
  λ i. record { setting = setting i; world = world_of (setting i) ((nodes i).nodes.items); latest = latest i; due = (due i).items; service = state_of (service i) },
  same,
)

-- it shows the step that is due
pub shows-next : (went : Bool) (s : ServiceStep) (old new : Run) (u v : Unread) → Reads u (line.Service (shown_step s)) v → OnTrue went (IsRun new)
    → MatchBool went (Shows (kept_of old) (kept_of new)) ((new : Kept) → Shows (kept_of old) new → ⊥) → AnswersNext old u (Some went) new v
shows-next went s old new u v read stand shows = (stand, record { line = record { number = u.lines + 1; what = line.Service (shown_step s) }; read = read.line; follows = shows })

-- it is the entry of the first packet
pub first-reads : (b : Bool) (r : Run) (a : PacketAhead) (p : Packet) (u v : Unread) → Some (packet_picture p) ≡ slice_get ((kept_of r).world.packets a.from a.kernel) 0
    → MatchBool b (Reads u (line.PacketEntry a.stamp a.kernel a.from (told_packet (what_picture p.what))) v) (v ≡ u) → MatchBool b (ReadsFirst (kept_of r) a u v) (v ≡ u)
first-reads true r a p u v first read = record { packet = packet_picture p; first = sym first; read = read }
first-reads false r a p u v first same = same

pub takes-next : (a : PacketAhead) (ms : Nodes) (noted : Noted) (old new : Run) (u v : Unread) → IsRun old → a.kernel < old.setting.kernels → ReadsFirst (kept_of old) a u v
    → IsNoted (TakesFirst a.kernel a.from) ms noted old new → AnswersNext old u (Some true) new v
takes-next a ms noted old new u v run below reads is = (
  stands (TakesFirst a.kernel a.from) ms noted old new run is,
  record {
    line = record { number = u.lines + 1; what = line.PacketEntry a.stamp a.kernel a.from (told_packet reads.packet.what) };
    read = reads.read.line;
    follows = record {
      first = record { there = below; packet = reads.packet; first = reads.first; told = refl };
      after = kept-on (TakesFirst a.kernel a.from) ms noted old new is;
    };
  },
)

-- it is the entry of a call
pub asks-next : (a : CallAhead) (call : Call) (mine : List EndId) (ms : Nodes) (noted : Noted) (old new : Run) (u v : Unread) → IsRun old → MayCall (kept_of old) a.kernel a.p
    → Reads u (line.CallEntry a.stamp a.kernel a.p call) v → IsCallWith a.p ((kept_of old).world.kernel a.kernel).table mine call → IsNoted (Calls a.kernel a.p call mine) ms noted old new → AnswersNext old u (Some true) new v
asks-next a call mine ms noted old new u v run may reads owned is = (
  stands (Calls a.kernel a.p call mine) ms noted old new run is,
  record {
    line = record { number = u.lines + 1; what = line.CallEntry a.stamp a.kernel a.p call };
    read = reads.line;
    follows = asks-on a.kernel a.p call call mine ms noted old new may refl owned is;
  },
)

-- it is a note behind a note
pub note-next : (r : Run) (u v : Unread) → IsRun r → SkipsNote u v → AnswersNext r u (Some true) r v
note-next r u v run is = (run, record { line = record { number = v.lines; what = line.Note is.0 }; read = is.1.line; follows = refl })

-- ---- what is told of it, clause by clause

next-stand : (went : Option Bool) (old new : Run) (u v : Unread) → AnswersNext old u went new v → MatchOption went (IsRun new) (λ w. OnTrue w (IsRun new))
next-stand None old new u v is = is.0
next-stand (Some went) old new u v is = is.0

next-follows : (went : Option Bool) (old new : Run) (u v : Unread) → AnswersNext old u went new v
    → MatchOption went ((kept_of new ≡ kept_of old) × (v ≡ u)) (λ w. FollowsNext (kept_of old) u w (kept_of new) v)
next-follows None old new u v is = (is.1, is.2)
next-follows (Some went) old new u v is = is.1

pub answers-stand : {E : Type 0} (r : Result (Option Bool) E) (old new : Run) (u v : Unread) → IfOk r (λ went. AnswersNext old u went new v) → IfOk r (λ went. MatchOption went (IsRun new) (λ w. OnTrue w (IsRun new)))
answers-stand (Ok went) old new u v is = next-stand went old new u v is
answers-stand (Err e) old new u v is = tt

pub answers-follow : {E : Type 0} (r : Result (Option Bool) E) (old new : Run) (u v : Unread) → IfOk r (λ went. AnswersNext old u went new v)
    → IfOk r (λ went. MatchOption went ((kept_of new ≡ kept_of old) × (v ≡ u)) (λ w. FollowsNext (kept_of old) u w (kept_of new) v))
answers-follow (Ok went) old new u v is = next-follows went old new u v is
answers-follow (Err e) old new u v is = tt
