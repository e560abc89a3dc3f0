-- How far an audit has come in a text.
use Rattle.std.proofs.Common.{◌≡◌, ℕ, ◌<◌, List, [], ◌∷◌, ◌++◌, length, Bool, true, false, IfOk, IfErr, MatchBool, Some, None, Result, Ok, Err, refl, sym, ap, subst, ◌∙◌, append_assoc}
use Rattle.std.proofs.lemmas.List.{map-append}
use Rattle.kernel_journal.specs.At.{HasEnded, IsAt}
use Rattle.kernel_journal.specs.Expected.{HasDiffered, HasStopped, HasTaken}
use Rattle.kernel_journal.specs.Faults.{IsFaultAt, kinds_in}
use Rattle.kernel_journal.specs.declared.fault.ReplayFault.{ReplayFault}
use Rattle.kernel_journal.specs.declared.fault.ReplayFault.TheVariants as replay
use Rattle.kernel_journal.specs.declared.lines.Replay.{Replay}
use Rattle.kernel_journal.proofs.Replays.{ended-replay}
use Rattle.transcript_audit.specs.Audit.{AreRest, DiffersBehind, HasHalted, HasReadAll, IsAudited, IsBadRest, IsDifferent, IsFaultOf, IsHaltBehind, IsRejected, Bad, Different, fault_of_lines, halt_of_lines, halt_of_replay}
use Rattle.transcript_audit.specs.declared.halt.Halt.{Halt}
use Rattle.transcript_audit.specs.declared.halt.Halt.TheVariants as halt
use Rattle.kernel_journal.proofs.Lawful.{replay-is-lawful}
use Rattle.transcript_reader.specs.Lines.{GivesNext, Unread, lines_left, lines_read, next_line, unread, with_all, with_first}
use Rattle.transcript_reader.specs.Text.{AreLines}
use Rattle.transcript_reader.specs.declared.fault.LineFault.{LineFault}
use Rattle.transcript_reader.specs.declared.fault.LineFault.TheVariants as reading
use Rattle.transcript_reader.specs.declared.line.Line.{Line}
use Rattle.transcript_reader.proofs.Clauses.{line_goes_on, lines_end, lines_fail, next_follows, next_over, next_some}
use Rattle.transcript_reader.proofs.Texts.{all_err, bad_found, lines_found}
use Rattle.transcript_reading.specs.Order.{Place, Start, Over, next}
use Rattle.transcript_reading.specs.declared.line.LineKind.{LineKind}

-- ---- one line

-- the line that was read was taken
pub line-taken : (taken : List LineKind) (old new : Unread) (l : Line) (r s : Replay) → next_line old ≡ Ok (Some (l, new)) → IsAt taken old.place r
    → ((ks : List LineKind) (place behind : Place) → IsAt ks place r → next place l.what ≡ Ok behind → IsAt (ks ++ l.what ∷ []) behind s) → HasTaken taken old new s
line-taken taken old new l r s e at takes = record { line = l; read = e; at = takes taken old.place new.place at (next_follows old new l e) }

-- it differs
pub line-differs : (taken : List LineKind) (old new : Unread) (l : Line) (r : Replay) (f : ReplayFault) → next_line old ≡ Ok (Some (l, new)) → IsAt taken old.place r
    → ((ks : List LineKind) (place behind : Place) → IsAt ks place r → next place l.what ≡ Ok behind → IsFaultAt ks l f) → HasHalted taken old new (halt_of_replay f)
line-differs taken old new l r (replay.Differs n) e at fails = record { line = l; read = e; differs = fails taken old.place new.place at (next_follows old new l e) }
line-differs taken old new l r replay.NoMemory e at fails = tt

-- none was read, and no line is left
pub line-none : (taken : List LineKind) (old new : Unread) (r : Replay) → GivesNext old (Ok None) new → IsAt taken old.place r → HasReadAll taken old r
line-none taken old new r g at = record { none = g.0; at = at }

-- it cannot stand
pub line-bad : (taken : List LineKind) (old new : Unread) (f : LineFault) → GivesNext old (Err f) new → HasHalted taken old new (halt_of_lines f)
line-bad taken old new (reading.BadLine n) g = g.0
line-bad taken old new reading.NoMemory g = tt

-- a replay stopped at it
pub line-stops : (taken : List LineKind) (old new : Unread) (f : ReplayFault) → HasStopped taken old new f → HasHalted taken old new (halt_of_replay f)
line-stops taken old new (replay.Differs n) d = d
line-stops taken old new replay.NoMemory d = tt

-- ---- a line that is read where it was not what was expected

pub on-true : (b : Bool) (P Q : Type 0) → b ≡ true → MatchBool b P Q → P
on-true true P Q is m = m
on-true false P Q is m = absurd cc

pub on-false : (b : Bool) (P Q : Type 0) → b ≡ false → MatchBool b P Q → Q
on-false true P Q is m = absurd cc
on-false false P Q is m = m

-- nothing was read
abbrev pub IsUnread : Unread → Unread → Replay → Replay → Type 0
IsUnread old mid r s = (taken : List LineKind) → IsAt taken old.place r → IsAt taken old.place s × (mid ≡ old)

pub unread-of : (b : Bool) (old mid : Unread) (r s : Replay) → b ≡ false → ((taken : List LineKind) → IsAt taken old.place r → MatchBool b (HasTaken taken old mid s) (IsAt taken old.place s × (mid ≡ old))) → IsUnread old mid r s
unread-of true old mid r s is m = absurd cc
unread-of false old mid r s is m = m

pub unread-at : (old mid : Unread) (r s : Replay) → IsUnread old mid r s → (taken : List LineKind) → IsAt taken old.place r → IsAt taken mid.place s
unread-at old mid r s un taken at = let is = un taken at in subst (λ (u : Unread). IsAt taken u.place s) (sym is.1) is.0

pub unread-ok : (x : Result Bool Halt) (old mid new : Unread) (r s t : Replay) → IsUnread old mid r s
    → IfOk x (λ more. (taken : List LineKind) → IsAt taken mid.place s → MatchBool more (HasTaken taken mid new t) (HasReadAll taken mid t))
    → IfOk x (λ more. (taken : List LineKind) → IsAt taken old.place r → MatchBool more (HasTaken taken old new t) (HasReadAll taken old t))
unread-ok (Ok more) old mid new r s t un takes = λ taken at. subst (λ (u : Unread). MatchBool more (HasTaken taken u new t) (HasReadAll taken u t)) (un taken at).1 (takes taken (unread-at old mid r s un taken at))
unread-ok (Err h) old mid new r s t un takes = tt

pub unread-err : (x : Result Bool Halt) (old mid new : Unread) (r s : Replay) → IsUnread old mid r s
    → IfErr x (λ h. (taken : List LineKind) → IsAt taken mid.place s → HasHalted taken mid new h)
    → IfErr x (λ h. (taken : List LineKind) → IsAt taken old.place r → HasHalted taken old new h)
unread-err (Ok more) old mid new r s un halts = tt
unread-err (Err h) old mid new r s un halts = λ taken at. subst (λ (u : Unread). HasHalted taken u new h) (un taken at).1 (halts taken (unread-at old mid r s un taken at))

-- ---- the lines of a text

-- some lines were read and taken, and this is left
pub record IsGoing (bytes : List ℕ) (u : Unread) (r : Replay) : Type 0 where
  pub lines : List Line
  pub rest : with_all lines (lines_left u) ≡ lines_read bytes
  pub at : IsAt (kinds_in lines) u.place r

pub going-start : (bytes : List ℕ) (u : Unread) (r : Replay) → u ≡ unread bytes → IsAt [] Start r → IsGoing bytes u r
going-start bytes u r e at = record { lines = []; rest = ap lines_left e; at = subst (λ (x : Unread). IsAt [] x.place r) (sym e) at }

pub going-more : (bytes : List ℕ) (old new : Unread) (r s : Replay) (is : IsGoing bytes old r) → HasTaken (kinds_in is.lines) old new s → IsGoing bytes new s
going-more bytes old new r s is took = record {
  lines = is.lines ++ took.line ∷ [];
  rest = line_goes_on is.lines took.line old new (lines_read bytes) took.read is.rest;
  at = subst (λ (ks : List LineKind). IsAt ks new.place s) (sym (map-append (λ (x : Line). x.what) is.lines (took.line ∷ []))) took.at;
}

-- fewer texts are left
pub going-on : (taken : List LineKind) (old new : Unread) (r : Replay) → HasTaken taken old new r → length new.texts < length old.texts
going-on taken old new r took = (next_some old new took.line took.read).1

pub going-halt : (bytes : List ℕ) (old new : Unread) (r : Replay) (h : Halt) (is : IsGoing bytes old r) → HasHalted (kinds_in is.lines) old new h → IsHaltBehind bytes new h
going-halt bytes old new r (halt.Bad n) is bad = bad_found bytes n (lines_fail is.lines old n (lines_read bytes) bad is.rest)
going-halt bytes old new r (halt.Differs n) is d =
    record { before = is.lines; line = d.line; rest = line_goes_on is.lines d.line old new (lines_read bytes) d.read is.rest; differs = d.differs }
going-halt bytes old new r halt.NoMemory is d = tt

-- ---- the end

-- all lines were taken
pub record HasAudited (bytes : List ℕ) (r : Replay) : Type 0 where
  pub lines : List Line
  pub are : AreLines bytes lines
  pub ended : HasEnded (kinds_in lines) r

pub going-ends : (bytes : List ℕ) (old : Unread) (r s : Replay) (is : IsGoing bytes old r) → HasReadAll (kinds_in is.lines) old s → HasAudited bytes s
going-ends bytes old r s is all = record {
  lines = is.lines;
  are = lines_found bytes is.lines (lines_end is.lines old (lines_read bytes) all.none is.rest);
  ended = subst (λ (p : Place). IsAt (kinds_in is.lines) p s) (next_over old all.none) all.at;
}

pub audited-of : (bytes : List ℕ) (r : Replay) (is : HasAudited bytes r) → IsAudited bytes is.ended.last
audited-of bytes r is =
    record { lines = is.lines; are = is.are; run = replay-is-lawful (kinds_in is.lines) is.ended.last (ended-replay is.lines r is.ended) }

-- ---- a line that differs

-- lines before others
all-before : (ls ms : List Line) → with_all ls (Ok ms) ≡ Ok (ls ++ ms)
all-before [] ms = refl
all-before (l ∷ ls) ms = ap (with_first l) (all-before ls ms)

-- those behind it can stand
pub differing : (bytes : List ℕ) (u : Unread) (n : ℕ) → DiffersBehind bytes u n → AreRest u → IsRejected bytes n
differing bytes u n d rest =
    let lines : List Line = d.before ++ d.line ∷ [] in
    let read : lines_read bytes ≡ Ok (lines ++ rest.0) = sym d.rest ∙ ap (with_all lines) rest.1 ∙ all-before lines rest.0 in
    Different (record {
      lines = lines ++ rest.0;
      are = lines_found bytes (lines ++ rest.0) read;
      first = record { before = d.before; line = d.line; behind = rest.0; there = append_assoc d.before (d.line ∷ []) rest.0; numbered = d.differs.0; differs = d.differs.1 };
    })

-- one of them cannot
pub differing-bad : (bytes : List ℕ) (u : Unread) (n : ℕ) (f : LineFault) → DiffersBehind bytes u n → IsBadRest u f → IsFaultOf bytes (fault_of_lines f)
differing-bad bytes u n (reading.BadLine m) d bad =
    let lines : List Line = d.before ++ d.line ∷ [] in
    Bad (bad_found bytes m (sym d.rest ∙ ap (with_all lines) bad ∙ all_err lines m))
differing-bad bytes u n reading.NoMemory d bad = tt

-- ---- reading what is left

-- some lines were read, and these are left
pub record IsReading (start u : Unread) : Type 0 where
  pub lines : List Line
  pub rest : with_all lines (lines_left u) ≡ lines_left start

pub reading-start : (u : Unread) → IsReading u u
reading-start u = record { lines = []; rest = refl }

pub reading-more : (start old new : Unread) (l : Line) → IsReading start old → next_line old ≡ Ok (Some (l, new)) → IsReading start new
reading-more start old new l is e = record { lines = is.lines ++ l ∷ []; rest = line_goes_on is.lines l old new (lines_left start) e is.rest }

pub reading-ends : (start old : Unread) → IsReading start old → next_line old ≡ Ok None → AreRest start
reading-ends start old is e = (is.lines, lines_end is.lines old (lines_left start) e is.rest)

pub reading-fails : (start old new : Unread) (f : LineFault) → IsReading start old → GivesNext old (Err f) new → IsBadRest start f
reading-fails start old new (reading.BadLine n) is g = lines_fail is.lines old n (lines_left start) g.0 is.rest
reading-fails start old new reading.NoMemory is g = tt
