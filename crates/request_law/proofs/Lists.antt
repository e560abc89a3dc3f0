-- Fronts of lists, and the messages of each side among others.
use Rattle.std.proofs.Common.{◌≡◌, Bool, true, false, List, [], ◌∷◌, ◌++◌, filter, cond, refl, sym, ap, ◌∙◌, append_assoc, append-nil}
use Rattle.std.specs.Prelude.{not}
use Rattle.std.proofs.lemmas.List.Elements.{filter-append}
use mathlib.Core.List.{IsPrefix}
use Rattle.end_protocol.specs.declared.messages.Message.{Message}
use Rattle.request_meaning.specs.Views.{asks, back_in, forth_in}

module _ {X : Type 0} where
  pub front_more : (xs ys zs : List X) → IsPrefix xs ys → IsPrefix xs (ys ++ zs)
  front_more xs ys zs h = (h.0 ++ zs, sym (append_assoc xs h.0 zs) ∙ ap (λ (l : List X). l ++ zs) h.1)

  pub front_less : (xs ys zs : List X) → IsPrefix (xs ++ ys) zs → IsPrefix xs zs
  front_less xs ys zs h = (ys ++ h.0, sym (append_assoc xs ys h.0) ∙ h.1)

  pub front_in : (xs ys zs : List X) → zs ≡ xs ++ ys → IsPrefix xs zs
  front_in xs ys zs e = (ys, sym e)

  pub front_self : (xs ys : List X) → xs ≡ ys → IsPrefix xs ys
  front_self xs ys e = ([], append-nil xs ∙ e)

  pub front_chain : (xs ys zs : List X) → IsPrefix xs ys → IsPrefix ys zs → IsPrefix xs zs
  front_chain xs ys zs h k = (h.0 ++ k.0, sym (append_assoc xs h.0 k.0) ∙ ap (λ (l : List X). l ++ k.0) h.1 ∙ k.1)

  pub none_before : (xs : List X) → IsPrefix xs [] → xs ≡ []
  none_before [] h = refl
  none_before (x ∷ xs) h = let e : x ∷ (xs ++ h.0) ≡ [] = h.1 in absurd cc

  pub front_head : (x y : X) (xs ys : List X) → IsPrefix (x ∷ xs) (y ∷ ys) → x ≡ y
  front_head x y xs ys h = let e : x ∷ (xs ++ h.0) ≡ y ∷ ys = h.1 in cc

  pub front_tail : (x y : X) (xs ys : List X) → IsPrefix (x ∷ xs) (y ∷ ys) → IsPrefix xs ys
  front_tail x y xs ys h = let e : x ∷ (xs ++ h.0) ≡ y ∷ ys = h.1 in (h.0, cc)

  pub front_filter : (p : X → Bool) (xs ys : List X) → IsPrefix xs ys → IsPrefix (filter p xs) (filter p ys)
  front_filter p xs ys h = (filter p h.0, sym (filter-append p xs h.0) ∙ ap (filter p) h.1)

pub forth_append : (ms ns : List Message) → forth_in (ms ++ ns) ≡ forth_in ms ++ forth_in ns
forth_append ms ns = filter-append (λ (m : Message). asks m.packet) ms ns

pub back_append : (ms ns : List Message) → back_in (ms ++ ns) ≡ back_in ms ++ back_in ns
back_append ms ns = filter-append (λ (m : Message). not (asks m.packet)) ms ns

-- the first message is of who asks, or of who serves

pub forth_first : (m : Message) (ms : List Message) → asks m.packet ≡ true → forth_in (m ∷ ms) ≡ m ∷ forth_in ms
forth_first m ms e = ap (λ (b : Bool). cond b (m ∷ forth_in ms) (forth_in ms)) e

pub forth_other : (m : Message) (ms : List Message) → asks m.packet ≡ false → forth_in (m ∷ ms) ≡ forth_in ms
forth_other m ms e = ap (λ (b : Bool). cond b (m ∷ forth_in ms) (forth_in ms)) e

pub back_first : (m : Message) (ms : List Message) → asks m.packet ≡ false → back_in (m ∷ ms) ≡ m ∷ back_in ms
back_first m ms e = ap (λ (b : Bool). cond (not b) (m ∷ back_in ms) (back_in ms)) e

pub back_other : (m : Message) (ms : List Message) → asks m.packet ≡ true → back_in (m ∷ ms) ≡ back_in ms
back_other m ms e = ap (λ (b : Bool). cond (not b) (m ∷ back_in ms) (back_in ms)) e
