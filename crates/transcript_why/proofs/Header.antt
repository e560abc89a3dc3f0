-- Behind the header no line tells of it.
use Rattle.std.proofs.Common.{◌≡◌, ℕ, zero, suc, ◌≤◌, Bool, true, false, List, [], ◌∷◌, Option, Some, None, Result, Ok, Err, ap, refl, subst, sym, ◌∙◌, arith}
use Rattle.charlotte_calls.specs.declared.setting.Setting.{Setting}
use Rattle.transcript_reader.specs.Lines.{Unread, next_line}
use Rattle.transcript_reader.specs.declared.line.Line.{Line}
use Rattle.transcript_reader.proofs.Clauses.{next_follows}
use Rattle.transcript_reading.specs.Order.{Place, Entry, Noted, Over, next}
use Rattle.transcript_reading.specs.declared.line.LineKind.{LineKind}
use Rattle.transcript_reading.specs.declared.line.LineKind.TheVariants as line
use Rattle.transcript_replay.specs.Header.{is_body, tell_all, tells}
use Rattle.transcript_replay.proofs.Places.{IsNoteOrEnd, behind-entry, behind-is, behind-note, behind-over}
use Rattle.transcript_why.specs.Before.{IsBehindHeader, first_lines, with_next}

note-body : (k : LineKind) → IsNoteOrEnd k → is_body k ≡ true
note-body (line.Note n) is = refl
note-body (line.End l) is = refl
note-body _ is = absurd is

-- among entries stands no line of the header
entry-body : (behind : Place) (k : LineKind) → next Entry k ≡ Ok behind → is_body k ≡ true
entry-body behind k e = go (is_body k) refl
  where
    go : (b : Bool) → is_body k ≡ b → b ≡ true
    go true same = refl
    go false other = behind-entry behind k other e

-- a line that stands behind one of the body is of the body
body-next : (place behind : Place) (k : LineKind) → IsBehindHeader place → next place k ≡ Ok behind → is_body k ≡ true
body-next Entry behind k is e = entry-body behind k e
body-next (Noted m) behind k is e = note-body k (behind-note m behind k e)
body-next Over behind k is e = behind-over behind k e
body-next _ behind k is e = absurd is

-- it tells nothing
body-tells : (place behind : Place) (k : LineKind) (s : Setting) → is_body k ≡ true → next place k ≡ Ok behind → IsBehindHeader behind × (tells k s ≡ s)
body-tells place behind (line.CallEntry i k p c) s is e = (subst IsBehindHeader (sym (behind-is place behind (line.CallEntry i k p c) e)) tt, refl)
body-tells place behind (line.PacketEntry i k from q) s is e = (subst IsBehindHeader (sym (behind-is place behind (line.PacketEntry i k from q) e)) tt, refl)
body-tells place behind (line.Service x) s is e = (subst IsBehindHeader (sym (behind-is place behind (line.Service x) e)) tt, refl)
body-tells place behind (line.Note n) s is e = (subst IsBehindHeader (sym (behind-is place behind (line.Note n) e)) tt, refl)
body-tells place behind (line.End l) s is e = (subst IsBehindHeader (sym (behind-is place behind (line.End l) e)) tt, refl)
body-tells place behind _ s is e = absurd cc

nothing-told : (m : ℕ) (u : Unread) (s : Setting) → IsBehindHeader u.place → tell_all (first_lines m u).0 s ≡ s
unfolding first_lines
nothing-told zero u s is = refl
nothing-told (suc m) u s is = go (next_line u) (nothing-told m) refl
  where
    go : (r : Result (Option (Line × Unread)) ℕ) → ((w : Unread) (t : Setting) → IsBehindHeader w.place → tell_all (first_lines m w).0 t ≡ t) → next_line u ≡ r → tell_all (with_next (first_lines m) u r).0 s ≡ s
    go (Ok (Some x)) others e =
        let follows : next u.place x.0.what ≡ Ok x.1.place = next_follows u x.1 x.0 e in
        let body = body-tells u.place x.1.place x.0.what s (body-next u.place x.1.place x.0.what is follows) follows in
        others x.1 (tells x.0.what s) body.0 ∙ body.1
    go (Ok None) others e = refl
    go (Err number) others e = refl

-- behind the header the lines before tell all
pub told-all : (n m : ℕ) (u : Unread) (s : Setting) → n ≤ m → IsBehindHeader (first_lines n u).1.place → tell_all (first_lines m u).0 s ≡ tell_all (first_lines n u).0 s
unfolding first_lines
told-all zero m u s le is = nothing-told m u s is
told-all (suc n) zero u s le is = absurd (omega arith)
told-all (suc n) (suc m) u s le is = go (next_line u) (λ w t. told-all n m w t (omega arith)) is
  where
    go : (r : Result (Option (Line × Unread)) ℕ) → ((w : Unread) (t : Setting) → IsBehindHeader (first_lines n w).1.place → tell_all (first_lines m w).0 t ≡ tell_all (first_lines n w).0 t)
        → IsBehindHeader (with_next (first_lines n) u r).1.place → tell_all (with_next (first_lines m) u r).0 s ≡ tell_all (with_next (first_lines n) u r).0 s
    go (Ok (Some x)) others is = others x.1 (tells x.0.what s) is
    go (Ok None) others is = refl
    go (Err number) others is = refl
