-- All lines, one after the other.
use Rattle.std.proofs.Common.{◌≡◌, ℕ, ◌+◌, ◌<◌, ◌≤◌, List, [], ◌∷◌, ◌++◌, append-nil, length, get_or, take, drop, Result, Ok, Err, ap, sym, subst, ◌∙◌, refl}
use Rattle.std.proofs.Math.ListN.{drop_of_length-le}
use Rattle.std.proofs.lemmas.List.{drop_more, map-append, take-append-drop, take_more}
use Rattle.charlotte_text.specs.declared.fault.Fault.{Fault}
use Rattle.charlotte_text.specs.Reading.{◌>>=◌}
use Rattle.transcript_lines.specs.declared.last.Last.{Last}
use Rattle.transcript_reading.specs.Order.{Place, Start, Over, follows, next}
use Rattle.transcript_reading.specs.declared.line.LineKind.{LineKind}
use Rattle.transcript_reader.specs.Text.{AreLines, numbered}
use Rattle.transcript_reader.specs.declared.line.Line.{Line}
use Rattle.kernel_journal.specs.At.{HasEnded, IsAt}
use Rattle.kernel_journal.specs.Faults.{GivesLast, IsFaultAt, IsFirstDifference, IsReplayFault, IsReplayOf, kinds_in}
use Rattle.kernel_journal.specs.declared.fault.ReplayFault.{ReplayFault}
use Rattle.kernel_journal.specs.declared.fault.ReplayFault.TheVariants as fault
use Rattle.kernel_journal.specs.declared.lines.Replay.{Replay}
use Rattle.transcript_replay.specs.Replay.{IsReplay}

numbered-kinds : (n : ℕ) (ks : List LineKind) → kinds_in (numbered n ks) ≡ ks
numbered-kinds n [] = refl
numbered-kinds n (k ∷ ks) = ap (λ l. k ∷ l) (numbered-kinds (n + 1) ks)

-- lines are left that lead to the end
abbrev pub LeadOn : Place → List Line → Type 0
LeadOn place lines = follows (kinds_in lines) place ≡ Ok Over

pub lines-lead : (bytes : List ℕ) (lines : List Line) → AreLines bytes lines → LeadOn Start lines
lines-lead bytes lines are = ap (λ ks. follows ks Start) (ap kinds_in are.counted ∙ numbered-kinds 1 are.kinds) ∙ are.whole.in_order

-- a place behind the first of them
pub record LeadsOn (place : Place) (l : Line) (ls : List Line) : Type 0 where
  pub behind : Place
  pub step : next place l.what ≡ Ok behind
  pub on : LeadOn behind ls

pub first-leads : (place : Place) (l : Line) (ls : List Line) → LeadOn place (l ∷ ls) → LeadsOn place l ls
unfolding follows
first-leads place l ls e = by (next place l.what) refl e
  where
    by : (r : Result Place Fault) → next place l.what ≡ r → (r >>= follows (kinds_in ls)) ≡ Ok Over → LeadsOn place l ls
    by (Ok p) is e = record { behind = p; step = is; on = e }
    by (Err f) is e = absurd (cc)

none-left : (place : Place) → LeadOn place [] → place ≡ Over
unfolding follows
none-left place e = cc

-- some lines were taken, and these are left
pub record IsReplaying (taken left : List Line) (r : Replay) : Type 0 where
  pub place : Place
  pub at : IsAt (kinds_in taken) place r
  pub on : LeadOn place left

pub replaying-start : (bytes : List ℕ) (lines : List Line) (r : Replay) → AreLines bytes lines → IsAt [] Start r → IsReplaying [] lines r
replaying-start bytes lines r are at = record { place = Start; at = at; on = lines-lead bytes lines are }

pub replaying-more : (taken left : List Line) (l : Line) (old new : Replay) → IsReplaying taken (l ∷ left) old → ((ks : List LineKind) (place behind : Place) → IsAt ks place old → next place l.what ≡ Ok behind → IsAt (ks ++ l.what ∷ []) behind new) → IsReplaying (taken ++ l ∷ []) left new
replaying-more taken left l old new is takes =
    let on : LeadsOn is.place l left = first-leads is.place l left is.on in
    record { place = on.behind; at = subst (λ ks. IsAt ks on.behind new) (sym (map-append (λ (x : Line). x.what) taken (l ∷ []))) (takes (kinds_in taken) is.place on.behind is.at on.step); on = on.on }

pub replaying-fault : (all taken left : List Line) (l : Line) (old : Replay) (f : ReplayFault) → all ≡ taken ++ l ∷ left → IsReplaying taken (l ∷ left) old → ((ks : List LineKind) (place behind : Place) → IsAt ks place old → next place l.what ≡ Ok behind → IsFaultAt ks l f) → IsReplayFault all f
replaying-fault all taken left l old f is_all is fails = by f (fails (kinds_in taken) is.place on.behind is.at on.step)
  where
    on : LeadsOn is.place l left
    on = first-leads is.place l left is.on

    by : (f : ReplayFault) → IsFaultAt (kinds_in taken) l f → IsReplayFault all f
    by (fault.Differs number) h = record { before = taken; line = l; behind = left; there = is_all; numbered = h.0; differs = h.1 }
    by fault.NoMemory h = tt

-- all lines were taken
pub replaying-ended : (taken : List Line) (r : Replay) → IsReplaying taken [] r → HasEnded (kinds_in taken) r
replaying-ended taken r is = subst (λ p. IsAt (kinds_in taken) p r) (none-left is.place is.on) is.at

append-none : (ks : List LineKind) → ks ++ [] ≡ ks
append-none [] = refl
append-none (k ∷ ks) = ap (λ l. k ∷ l) (append-none ks)

pub ended-replay : (lines : List Line) (r : Replay) (is : HasEnded (kinds_in lines) r) → IsReplayOf lines is.last
ended-replay lines r is = subst (λ ks. IsReplay ks is.last) (append-none (kinds_in lines)) ((is.left [] is.last).1 (refl, refl))

pub ended-only : (lines : List Line) (r : Replay) (is : HasEnded (kinds_in lines) r) (last : Last) → IsReplayOf lines last → last ≡ is.last
ended-only lines r is last replay = ((is.left [] last).0 (subst (λ ks. IsReplay ks last) (sym (append-none (kinds_in lines))) replay)).1

-- what differs at a line is no transcript of a run
pub differing-none : (lines : List Line) (number : ℕ) (last : Last) → IsFirstDifference lines number → IsReplayOf lines last → ⊥
differing-none lines number last is replay =
    is.differs.differs (kinds_in is.behind) last (subst (λ ks. IsReplay ks last) (ap kinds_in is.there ∙ map-append (λ (x : Line). x.what) is.before (is.line ∷ is.behind)) replay)

-- ---- by the place in the list

left-is : (lines : List Line) (i : ℕ) (l : Line) → i < length lines → l ≡ get_or lines i l → drop i lines ≡ l ∷ drop (i + 1) lines
left-is lines i l below at = drop_more lines i l below ∙ ap (λ x. x ∷ drop (i + 1) lines) (sym at)

taken-is : (lines : List Line) (i : ℕ) (l : Line) → i < length lines → l ≡ get_or lines i l → take (i + 1) lines ≡ take i lines ++ l ∷ []
taken-is lines i l below at = take_more lines i l below ∙ ap (λ x. take i lines ++ x ∷ []) (sym at)

-- so many lines were taken
abbrev pub IsReplayingTo : List Line → ℕ → Replay → Type 0
IsReplayingTo lines i r = IsReplaying (take i lines) (drop i lines) r

pub step-may : (lines : List Line) (i : ℕ) (l : Line) (r : Replay) → i < length lines → l ≡ get_or lines i l → IsReplayingTo lines i r → (taken : List LineKind) × (place : Place) × (behind : Place) × IsAt taken place r × (next place l.what ≡ Ok behind)
step-may lines i l r below at is =
    let on : LeadsOn is.place l (drop (i + 1) lines) = first-leads is.place l (drop (i + 1) lines) (subst (LeadOn is.place) (left-is lines i l below at) is.on) in (kinds_in (take i lines), is.place, on.behind, is.at, on.step)

pub step-more : (lines : List Line) (i : ℕ) (l : Line) (old new : Replay) → i < length lines → l ≡ get_or lines i l → IsReplayingTo lines i old
    → ((ks : List LineKind) (place behind : Place) → IsAt ks place old → next place l.what ≡ Ok behind → IsAt (ks ++ l.what ∷ []) behind new) → IsReplayingTo lines (i + 1) new
step-more lines i l old new below at is takes =
    subst (λ t. IsReplaying t (drop (i + 1) lines) new) (sym (taken-is lines i l below at))
    (replaying-more (take i lines) (drop (i + 1) lines) l old new (subst (λ d. IsReplaying (take i lines) d old) (left-is lines i l below at) is) takes)

pub step-fault : (lines : List Line) (i : ℕ) (l : Line) (old : Replay) (f : ReplayFault) → i < length lines → l ≡ get_or lines i l → IsReplayingTo lines i old
    → ((ks : List LineKind) (place behind : Place) → IsAt ks place old → next place l.what ≡ Ok behind → IsFaultAt ks l f) → IsReplayFault lines f
step-fault lines i l old f below at is fails =
    replaying-fault lines (take i lines) (drop (i + 1) lines) l old f (sym (take-append-drop i lines) ∙ ap (λ d. take i lines ++ d) (left-is lines i l below at))
    (subst (λ d. IsReplaying (take i lines) d old) (left-is lines i l below at) is) fails

-- no answer is given where a line differs, but want of memory
pub fault-only : (lines : List Line) (f : ReplayFault) → IsReplayFault lines f → (last : Last) → IsReplayOf lines last → GivesLast last (Err f)
fault-only lines (fault.Differs number) is last replay = differing-none lines number last is replay
fault-only lines fault.NoMemory is last replay = tt

pub all-taken : (lines : List Line) (i : ℕ) (r : Replay) → length lines ≤ i → IsReplayingTo lines i r → HasEnded (kinds_in lines) r
all-taken lines i r all is =
    let nothing : drop i lines ≡ [] = drop_of_length-le lines all in
    let whole : take i lines ≡ lines = sym (append-nil (take i lines)) ∙ ap (λ d. take i lines ++ d) (sym nothing) ∙ take-append-drop i lines in
    replaying-ended lines r (subst (λ t. IsReplaying t [] r) whole (subst (λ d. IsReplaying (take i lines) d r) nothing is))
