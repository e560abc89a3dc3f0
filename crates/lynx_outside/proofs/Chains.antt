-- Several calls in order: reads after reads, and puts after puts.
use Rattle.std.proofs.Common.{◌≡◌, ℕ, ◌+◌, List, [], ◌∷◌, ◌++◌, length, map, take, Option, Some, None, All, ap, subst, append_assoc, refl, sym, ◌∙◌}
use Rattle.std.specs.Prelude.{IfSome}
use Rattle.std.specs.List.{concat}
use Rattle.std.proofs.lemmas.List.{append-nil}
use Rattle.std.proofs.lemmas.List.Elements.{All-append}
use Rattle.std.proofs.Math.Seq.{take-append-add}
use Rattle.std.specs.Io.KnownBytes.{append_known}
use Rattle.lynx_outside.specs.Files.{Source, Listing, Reads, IsWithin, counted_read, counted_reads, WereRead}
use Rattle.lynx_outside.specs.Logged.{Read, Put}
use Rattle.lynx_outside.specs.Sink.{Stream, taken, failed, PutsPart, Holds, Hold, counted_put, counted_puts, WerePut}

-- ---- reads

counted_reads-append : (n : ℕ) (xs ys : List Read) → counted_reads n (xs ++ ys) ≡ counted_reads (counted_reads n xs) ys
counted_reads-append n [] ys = refl
counted_reads-append n (x ∷ xs) ys = counted_reads-append (counted_read n x.answer) xs ys

told_both : (contents later : Option Listing) (xs ys : List Read) → later ≡ contents → IfSome contents (λ files. All (Reads files) xs) → IfSome later (λ files. All (Reads files) ys) → IfSome contents (λ files. All (Reads files) (xs ++ ys))
told_both None later xs ys same a b = tt
told_both (Some files) later xs ys same a b = All-append (Reads files) xs ys a (subst (λ (c : Option Listing). IfSome c (λ files. All (Reads files) ys)) same b)

-- reads, and then more reads
pub WereRead-append : (old mid new : Source) (xs ys : List Read) → WereRead old mid xs → WereRead mid new ys → WereRead old new (xs ++ ys)
WereRead-append old mid new xs ys a b = record {
  same = b.same ∙ a.same;
  told = told_both old.contents mid.contents xs ys a.same a.told b.told;
  within = All-append IsWithin xs ys a.within b.within;
  counted = b.counted ∙ (ap (λ n. counted_reads n ys) a.counted ∙ sym (counted_reads-append old.faults xs ys));
  logged = b.logged ∙ (ap (λ l. l ++ ys) a.logged ∙ append_assoc old.log xs ys);
}

-- ---- puts

counted_puts-append : (n : ℕ) (xs ys : List Put) → counted_puts n (xs ++ ys) ≡ counted_puts (counted_puts n xs) ys
counted_puts-append n [] ys = refl
counted_puts-append n (x ∷ xs) ys = counted_puts-append (counted_put n x) xs ys

Hold-append : (old mid new : Option (List ℕ)) (xs ys : List Put) → Hold old mid xs → Hold mid new ys → Hold old new (xs ++ ys)
Hold-append old mid new [] ys a b = subst (λ (h : Option (List ℕ)). Hold h new ys) a b
Hold-append old mid new (x ∷ xs) ys a b = (a.0, a.1, Hold-append a.0 mid new xs ys a.2 b)

-- puts, and then more puts
pub WerePut-append : (old mid new : Stream) (xs ys : List Put) → WerePut old mid xs → WerePut mid new ys → WerePut old new (xs ++ ys)
WerePut-append old mid new xs ys a b = record {
  held = Hold-append old.held mid.held new.held xs ys a.held b.held;
  counted = b.counted ∙ (ap (λ n. counted_puts n ys) a.counted ∙ sym (counted_puts-append old.faults xs ys));
  logged = b.logged ∙ (ap (λ l. l ++ ys) a.logged ∙ append_assoc old.log xs ys);
}

-- one put
pub WerePut-one : (old new : Stream) (put : Put) → Holds old.held new.held put → new.faults ≡ counted_put old.faults put → new.log ≡ old.log ++ put ∷ [] → WerePut old new (put ∷ [])
WerePut-one old new put held counted logged = record { held = (new.held, held, refl); counted = counted; logged = logged }

-- ---- what a sink holds that tells its bytes

-- bytes, and then more bytes
append_known-append : (held : Option (List ℕ)) (a b : List ℕ) → append_known (append_known held a) b ≡ append_known held (a ++ b)
append_known-append None a b = refl
append_known-append (Some xs) a b = ap (λ ys. Some ys) (append_assoc xs a b)

append_known-nil : (held : Option (List ℕ)) → append_known held [] ≡ held
append_known-nil None = refl
append_known-nil (Some xs) = ap (λ ys. Some ys) (append-nil xs)

-- lines that were all taken are held whole
pub whole_held : (old new : Option (List ℕ)) (lines : List (List ℕ)) → Hold old new (map taken lines) → new ≡ append_known old (concat lines)
whole_held old new [] h = h ∙ sym (append_known-nil old)
whole_held old new (l ∷ ls) h = whole_held h.0 new ls h.2 ∙ (ap (λ held. append_known held (concat ls)) h.1 ∙ append_known-append old l (concat ls))

-- and no fault is counted
pub whole_counted : (n : ℕ) (lines : List (List ℕ)) → counted_puts n (map taken lines) ≡ n
whole_counted n [] = refl
whole_counted n (l ∷ ls) = whole_counted n ls

-- the first lines were taken, and of one more a part: then a prefix of them all is held
pub part_held : (old new : Option (List ℕ)) (lines : List (List ℕ)) (last : List ℕ) → Hold old new (map taken lines ++ failed last ∷ []) → PutsPart old new (concat lines ++ last)
part_held old new [] last h = (h.1.0, h.2 ∙ h.1.1)
part_held old new (l ∷ ls) last h =
    let part = part_held h.0 new ls last h.2 in (
      length l + part.0,
      part.1 ∙ (ap (λ held. append_known held (take part.0 (concat ls ++ last))) h.1 ∙ (append_known-append old l (take part.0 (concat ls ++ last))
          ∙ ap (append_known old) (sym (take-append-add l (concat ls ++ last) part.0) ∙ ap (take (length l + part.0)) (sym (append_assoc l (concat ls) last))))),
    )
