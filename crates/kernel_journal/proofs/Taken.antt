-- The next line of a text is taken, where it is just what the kernels expect there.
use Rattle.std.proofs.Common.{◌≡◌, ℕ, ◌+◌, ◌≤◌, ◌^◌, Bool, true, false, IsTrue, MatchBool, List, [], ◌∷◌, ◌++◌, Some, slice_get, refl, sym, ap, subst, ◌∙◌}
use Rattle.charlotte_packets.specs.Packets.{packet_picture, what_picture}
use Rattle.charlotte_calls.specs.Setting.{IsValid}
use Rattle.charlotte_packets.specs.declared.packet.Packet.{Packet}
use Rattle.charlotte_packets.specs.declared.picture.Picture.{Picture}
use Rattle.charlotte_packets.specs.declared.picture.PictureWhat.{PictureWhat}
use Rattle.charlotte_calls.specs.declared.setting.Setting.{Setting}
use Rattle.kernel_nodes.specs.Nodes.{AreNodes, Happens, IsFirst, world_of}
use Rattle.kernel_nodes.specs.declared.nodes.Nodes.{Nodes}
use Rattle.kernel_nodes.specs.declared.nodes.Noted.{Noted}
use Rattle.kernel_world.specs.World.{Takes}
use Rattle.transcript_lines.specs.declared.last.ScriptNote.{ScriptNote}
use Rattle.transcript_replay.specs.Course.{Course, IsRest, IsRestOfNotes, Leads, Refutes, comes_after}
use Rattle.transcript_replay.proofs.Rest.{leads-notes, leads-step}
use Rattle.transcript_reader.specs.Lines.{Unread}
use Rattle.transcript_reader.specs.Next.{Reads, ReadsNote, SkipsNote}
use Rattle.leading_lines.specs.declared.guess.PacketAhead.{PacketAhead}
use Rattle.transcript_reading.specs.Kinds.{shown_step}
use Rattle.transcript_reading.specs.Order.{Place, Entry}
use Rattle.transcript_reading.specs.declared.line.LineKind.{LineKind}
use Rattle.transcript_reading.specs.declared.line.LineKind.TheVariants as line
use Rattle.kernel_journal.specs.At.{AreLeft, IsAmongEntries, IsAmongNotes, IsAt}
use Rattle.kernel_journal.specs.Body.{Goes, IsNoted, IsReady, StopsAt, course_of}
use Rattle.kernel_journal.specs.Expected.{HasDiffered, HasTaken as HasTakenLine, MayNotFollow, ReadsDue, ReadsFirst, Stands, TookNext, Waits}
use Rattle.expected_lines.specs.Told.{told_packet}
use Rattle.kernel_journal.specs.declared.body.Body.{Body}
use Rattle.kernel_journal.specs.declared.fault.Stop.{Stop}
use Rattle.kernel_journal.specs.declared.fault.Stop.TheVariants as stop
use Rattle.kernel_journal.specs.declared.lines.Replay.{Replay}
use Rattle.kernel_journal.proofs.At.{among-difference, kept-same, left-more}
use Rattle.kernel_journal.proofs.Bodies.{HasTaken, MayGoOn, take-goes, take-ready, take-stops, with_nodes}

-- ---- a step

ready-as : (old new : Body) → IsReady old → new.setting ≡ old.setting → new.nodes ≡ old.nodes → new.events ≡ old.events → IsReady new
ready-as old new ready setting nodes events = record {
  valid = subst IsValid (sym setting) ready.valid;
  nodes = subst (λ (n : Nodes). AreNodes new.setting n.nodes.items) (sym nodes) (subst (λ (s : Setting). AreNodes s old.nodes.nodes.items) (sym setting) ready.nodes);
  few = subst (λ (n : ℕ). n ≤ 2 ^ 31) (sym events) ready.few;
}

-- the step that was due is shown
pub due-took : (old new : Body) (u v : Unread) (r : ReadsDue old.due u v) → IsReady old → new.setting ≡ old.setting → new.nodes ≡ old.nodes → new.events ≡ old.events → new.latest ≡ old.latest → new.due ≡ r.others → TookNext old u new v
due-took old new u v r ready setting nodes events latest due = record {
  kind = line.Service (shown_step r.first);
  read = r.read;
  ready = ready-as old new ready setting nodes events;
  goes = subst (λ (c : Course). Leads (course_of old) (line.Service (shown_step r.first)) c)
      (λ i. record { setting = sym setting i; world = world_of (sym setting i) ((sym nodes i).nodes.items); events = sym events i; latest = sym latest i; due = sym due i })
      (leads-step (course_of old) r.first r.others r.there);
}

-- ---- a packet

-- what waits first
pub first-there : (what : PictureWhat) (qs : List Picture) → IsFirst what qs → (q : Picture) × (slice_get qs 0 ≡ Some q)
first-there what [] first = absurd first
first-there what (q ∷ qs) first = (q, refl)

pub first-is : (p : Packet) (qs : List Picture) → Some (packet_picture p) ≡ slice_get qs 0 → IsFirst (what_picture p.what) qs
first-is p [] e = absurd cc
first-is p (q ∷ qs) e = let same : packet_picture p ≡ q = cc in ap (λ (x : Picture). x.what) (sym same)

-- the first packet that waits is read
pub first-read : (b : Bool) (nodes : Nodes) (ahead : PacketAhead) (p : Packet) (u v : Unread) → ((s : Setting) → Some (packet_picture p) ≡ slice_get ((world_of s nodes.nodes.items).packets ahead.from ahead.kernel) 0)
    → MatchBool b (Reads u (line.PacketEntry ahead.stamp ahead.kernel ahead.from (told_packet (what_picture p.what))) v) (v ≡ u)
    → MatchBool b ((s : Setting) → AreNodes s nodes.nodes.items → ReadsFirst s nodes ahead u v) (v ≡ u)
first-read true nodes ahead p u v first read = λ s are. record { what = what_picture p.what; first = first-is p ((world_of s nodes.nodes.items).packets ahead.from ahead.kernel) (first s); read = read }
first-read false nodes ahead p u v first same = same

taken-of : (b : Body) (n : Nodes) (k from : ℕ) (what : PictureWhat) (noted : Noted) → Waits b from k what → Happens b.setting (Takes k from) noted b.nodes.nodes.items n.nodes.items → HasTaken b k from (told_packet what) (Some noted) n
taken-of b n k from what noted w h = (w.0, w.1, h)

pub first-ready : (old new : Body) (n : Nodes) (stamp k from : ℕ) (what : PictureWhat) (noted : Noted) → IsReady old → MayGoOn old → Waits old from k what → Happens old.setting (Takes k from) noted old.nodes.nodes.items n.nodes.items → IsNoted stamp k noted (with_nodes old n) new → IsReady new
first-ready old new n stamp k from what noted ready go w h is = take-ready old new n stamp k from (told_packet what) noted ready go (taken-of old n k from what noted w h) is

pub first-goes : (old new : Body) (n : Nodes) (stamp k from : ℕ) (what : PictureWhat) (noted : Noted) → IsReady old → MayGoOn old → Waits old from k what
    → Happens old.setting (Takes k from) noted old.nodes.nodes.items n.nodes.items → IsNoted stamp k noted (with_nodes old n) new → Goes old (line.PacketEntry stamp k from (told_packet what)) new
first-goes old new n stamp k from what noted ready go w h is = take-goes old new n stamp k from (told_packet what) noted ready go refl (taken-of old n k from what noted w h) is

pub first-stops : (old : Body) (n : Nodes) (stamp k from : ℕ) (what : PictureWhat) (noted : Noted) (s : Stop) → MayGoOn old → Waits old from k what
    → Happens old.setting (Takes k from) noted old.nodes.nodes.items n.nodes.items → (s ≡ stop.Differs) × (noted.stamp ≡ stamp → IsTrue (comes_after old.latest stamp k) → ⊥)
    → StopsAt old (line.PacketEntry stamp k from (told_packet what)) s
first-stops old n stamp k from what noted s go w h d = take-stops old n stamp k from (told_packet what) noted s go refl (taken-of old n k from what noted w h) d

-- the line that was read may not follow
pub stands : (old : Body) (u v : Unread) (k : LineKind) (s : Stop) → Reads u k v → StopsAt old k s → Stands old u v s
stands old u v k stop.Differs read d = record { kind = k; read = read; refutes = d }
stands old u v k stop.NoMemory read d = tt

-- ---- a replay among entries

pub among : (taken : List LineKind) (p : Place) (r : Replay) → p ≡ Entry → IsAt taken p r → IsAmongEntries taken r
among taken p r e at = subst (λ (q : Place). IsAt taken q r) e at

pub ready-of : (taken : List LineKind) (r : Replay) (b : Body) → IsAmongEntries taken r → r.body ≡ Some b → IsReady b
ready-of taken r b at kept = subst IsReady (kept-same r.body at.body b at.kept kept) at.ready

took-line : (taken : List LineKind) (r s : Replay) (old new : Body) (u v : Unread) → IsAmongEntries taken r → r.body ≡ Some old → s.body ≡ Some new → TookNext old u new v → HasTakenLine taken u v s
took-line taken r s old new u v at kept kept_new t =
    let left : AreLeft taken (IsRest (course_of old)) = subst (λ (b : Body). AreLeft taken (IsRest (course_of b))) (kept-same r.body at.body old at.kept kept) at.left in
    let is : IsAmongEntries (taken ++ t.kind ∷ []) s = record { body = new; kept = kept_new; ready = t.ready; left = left-more taken t.kind (IsRest (course_of old)) (IsRest (course_of new)) (λ more last. left (t.kind ∷ more) last) t.goes } in
    record { line = record { number = u.lines + 1; what = t.kind }; read = t.read.line; at = subst (λ (p : Place). IsAt (taken ++ t.kind ∷ []) p s) (sym t.read.behind) is }

took-none : (taken : List LineKind) (p : Place) (r s : Replay) (old new : Body) → p ≡ Entry → IsAmongEntries taken r → r.body ≡ Some old → s.body ≡ Some new → new ≡ old → IsAt taken p s
took-none taken p r s old new e at kept kept_new same =
    let is : IsAmongEntries taken s = record { body = at.body; kept = kept_new ∙ ap (λ (b : Body). Some b) (same ∙ sym (kept-same r.body at.body old at.kept kept)); ready = at.ready; left = at.left } in
    subst (λ (q : Place). IsAt taken q s) (sym e) is

-- the line was taken, or none was read
pub expected : (took : Bool) (taken : List LineKind) (r s : Replay) (old new : Body) (u v : Unread) → u.place ≡ Entry → r.body ≡ Some old → s.body ≡ Some new → MatchBool took (TookNext old u new v) ((new ≡ old) × (v ≡ u))
    → IsAt taken u.place r → MatchBool took (HasTakenLine taken u v s) (IsAt taken u.place s × (v ≡ u))
expected true taken r s old new u v e kept kept_new t at = took-line taken r s old new u v (among taken u.place r e at) kept kept_new t
expected false taken r s old new u v e kept kept_new same at = (took-none taken u.place r s old new e (among taken u.place r e at) kept kept_new same.0, same.1)

-- the line that was read differs
pub differs : (taken : List LineKind) (r : Replay) (old : Body) (u v : Unread) (number : ℕ) → u.place ≡ Entry → r.body ≡ Some old → number ≡ v.lines → MayNotFollow old u v → IsAt taken u.place r → HasDiffered taken u v number
differs taken r old u v number e kept numbered m place =
    let at : IsAmongEntries taken r = among taken u.place r e place in
    record {
      line = record { number = u.lines + 1; what = m.kind };
      read = m.read.line;
      differs = (numbered ∙ m.read.counted, among-difference taken m.kind r at (subst (λ (b : Body). Refutes (course_of b) m.kind) (sym (kept-same r.body at.body old at.kept kept)) m.refutes));
    }

-- ---- a replay among notes

-- a note behind a note is taken
note-taken : (taken : List LineKind) (r : Replay) (u v : Unread) (n : ScriptNote) → ReadsNote u n v → IsAt taken u.place r → HasTakenLine taken u v r
note-taken taken r u v n is at =
    let notes : IsAmongNotes taken r = subst (λ (p : Place). IsAt taken p r) is.was at in
    let behind : IsAmongNotes (taken ++ line.Note n ∷ []) r = record {
      body = notes.body;
      kept = notes.kept;
      ready = notes.ready;
      none = notes.none;
      left = left-more taken (line.Note n) (IsRestOfNotes (course_of notes.body)) (IsRestOfNotes (course_of notes.body)) (λ more last. notes.left (line.Note n ∷ more) last) (λ more last. leads-notes (course_of notes.body) n more last);
    } in
    record { line = record { number = v.lines; what = line.Note n }; read = is.line; at = subst (λ (p : Place). IsAt (taken ++ line.Note n ∷ []) p r) (sym is.is) behind }

-- it was taken, or nothing was read
pub noted : (b : Bool) (taken : List LineKind) (r : Replay) (u v : Unread) → MatchBool b (SkipsNote u v) (v ≡ u) → IsAt taken u.place r → MatchBool b (HasTakenLine taken u v r) (IsAt taken u.place r × (v ≡ u))
noted true taken r u v is at = note-taken taken r u v is.0 is.1 at
noted false taken r u v same at = (at, same)
