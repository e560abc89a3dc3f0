-- Where a node begins, and how its letters go out.
use Rattle.std.proofs.Common.{◌≡◌, ℕ, ◌<◌, ◌≤◌, Bool, Option, Some, None, is_some, true, false, List, [], ◌++◌, length, map, refl, ap, sym, subst, ◌∙◌, arith}
use Rattle.std.specs.Prelude.{slice_index_or}
use Rattle.std.proofs.lemmas.List.Elements.{All-nil}
use Rattle.charlotte_packets.specs.Packets.{what_picture}
use Rattle.charlotte_packets.specs.declared.packet.Packet.{Packet}
use Rattle.kernel_named.specs.Named.{GoWithin, IsSentWithin}
use Rattle.kernel_net.specs.Ports.{kernels_of, place_of, put_to}
use Rattle.kernel_outbox.proofs.Emptying.{nothing-unsent}
use Rattle.kernel_outbox.proofs.Putting.{may-front}
use Rattle.kernel_outbox.specs.Letters.{Flushes, MayAllBePut, letters_for, outbox_to, waiting_to}
use Rattle.kernel_outbox.specs.declared.outbox.Outbox.{Outbox}
use Rattle.kernel_turns.specs.Events.{FitsPort}
use Rattle.kernel_turns.specs.Turns.{Began, Begins, BeginsInTime, BeginsOnce, InTime, KeepsWork, NotNow, PutsLetters, markers_where, unbegun_markers}
use Rattle.kernel_turns.specs.declared.base.Base.{Base}

pub begun-stays : (b : Base) (o : Option ℕ) → b.course.begun ≡ o → is_some o ≡ true → BeginsOnce b b
begun-stays b (Some n) is some = Began n is refl
begun-stays b None is some = let never : false ≡ true = some in cc

-- ---- its letters may be put, with the markers where it begins

abbrev MayPut : Base → ℕ → Type 0
MayPut b to = MayAllBePut (put_to b.port to) (outbox_to b.outbox to)

same-may : (old begun : Base) (to : ℕ) → old ≡ begun → MayAllBePut (put_to old.port to) (outbox_to old.outbox to ++ unbegun_markers old to) → MayPut begun to
same-may old begun to same may = subst (λ b. MayPut b to) same (may-front (put_to old.port to) (outbox_to old.outbox to) (unbegun_markers old to) may)

once-may : (old begun : Base) (to : ℕ) → BeginsOnce old begun → MayAllBePut (put_to old.port to) (outbox_to old.outbox to ++ unbegun_markers old to) → MayPut begun to
once-may old begun to (Begins h) may =
    let markers : outbox_to begun.outbox to ≡ outbox_to old.outbox to ++ unbegun_markers old to
    = h.letters to ∙ ap (λ o. outbox_to old.outbox to ++ markers_where o (kernels_of (place_of old.port)) to) (sym h.before) in
    subst (λ p. MayAllBePut (put_to p to) (outbox_to begun.outbox to)) (sym h.port) (subst (MayAllBePut (put_to old.port to)) (sym markers) may)
once-may old begun to (Began n is same) may = same-may old begun to same may

pub begun-may : (old begun : Base) → BeginsInTime old begun → ((to : ℕ) → MayAllBePut (put_to old.port to) (outbox_to old.outbox to ++ unbegun_markers old to))
    → (to : ℕ) → MayAllBePut (put_to begun.port to) (outbox_to begun.outbox to)
begun-may old begun (InTime time once) may to = once-may old begun to once (may to)
begun-may old begun (NotNow not same) may to = same-may old begun to same (may to)

-- ---- the empty list of unsent packets is taken out of the outbox

pub emptied-letters : (o o' : Outbox) → o.unsent.items ≡ [] → o'.unsent.items ≡ [] → o'.waiting ≡ o.waiting → (to : ℕ) → outbox_to o' to ≡ outbox_to o to
emptied-letters o o' none none' same to =
    ap (λ xs. waiting_to o' to ++ letters_for to xs) (none' ∙ sym none)
    ∙ ap (λ ws. slice_index_or (map (λ list. list.items) ws.items) to [] ++ letters_for to o.unsent.items) same

pub puts-emptied : (put : Bool) (old new : Base) (o : Outbox) → ((to : ℕ) → outbox_to new.outbox to ≡ outbox_to o to) → Flushes (outbox_to old.outbox) (outbox_to o) old.port new.port
    → (put ≡ true → (to : ℕ) × (length (outbox_to o to) < length (outbox_to old.outbox to))) → (put ≡ false → (to : ℕ) → outbox_to o to ≡ outbox_to old.outbox to) → (put ≡ false → new.port ≡ old.port)
    → new.outbox.unsent.items ≡ [] → FitsPort new → KeepsWork old new → new.course ≡ old.course → PutsLetters put old new
puts-emptied put old new o is flushed some unput port unsent fits kept course =
    record {
      kept = kept;
      course = course;
      unsent = unsent;
      fits = fits;
      flushed = record {
        letters = λ to. ap (λ ls. put_to new.port to ++ ls) (is to) ∙ flushed.letters to;
        fewer = λ to. subst (λ ls. length ls ≤ length (outbox_to old.outbox to)) (sym (is to)) (flushed.fewer to);
        full = λ to more. flushed.full to (subst (λ ls. 0 < length ls) (is to) more);
        into = flushed.into;
        place = flushed.place;
      };
      some = λ e. let less = some e in (less.0, subst (λ ls. length ls < length (outbox_to old.outbox less.0)) (sym (is less.0)) less.1);
      none = λ e to. is to ∙ unput e to;
      port = port;
    }

pub none-within : (kernels : ℕ) (sent : List (ℕ × Packet)) → sent ≡ [] → GoWithin kernels sent
none-within kernels sent none = subst (GoWithin kernels) (sym none) (All-nil (λ (x : ℕ × Packet). IsSentWithin kernels x.0 (what_picture x.1.what)))

-- where no letter is left, none is put
pub puts-none : (b : Base) → FitsPort b → ((to : ℕ) → outbox_to b.outbox to ≡ []) → PutsLetters false b b
puts-none b fits none =
    record {
      kept = record { kernel = refl; journal = refl; orders = refl; used = refl };
      course = refl;
      flushed = record {
        letters = λ to. refl;
        fewer = λ to. omega arith;
        full = λ to more. absurd (let empty : length (outbox_to b.outbox to) ≡ 0 = ap length (none to) in omega (arith, more, empty));
        into = refl;
        place = refl;
      };
      unsent = nothing-unsent b.outbox none;
      fits = fits;
      some = λ is. absurd (let no : false ≡ true = is in cc);
      none = λ is to. refl;
      port = λ is. refl;
    }
