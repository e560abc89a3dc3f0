-- Calls: what is read is spelled so, and what is spelled so is read.
use Rattle.std.proofs.Common.{◌≡◌, ℕ, true, false, cond, not, eqb, List, [], ◌∷◌, ◌++◌, map, Ok, Err, refl, sym, ap, subst, ◌∙◌, append_assoc, inl, inr}
use Rattle.std.specs.Prelude.{codes}
use Rattle.std.specs.Bool.{Decides}
use Rattle.std.specs.List.{AllByRecursion, list_all, join_with_byte}
use Rattle.std.specs.Str.{bytes_eq}
use Rattle.std.proofs.lemmas.Bool.{and_parts, not-true}
use Rattle.std.proofs.lemmas.List.{append-nil}
use Rattle.std.proofs.lemmas.List.Concat.{flat_map-cons}
use Rattle.std.proofs.lemmas.List.Elements.{All-cons, All-nil}
use Rattle.std.proofs.lemmas.List.Splits.{slice_split_at, slice_split_none}
use Rattle.std.proofs.lemmas.Slice.Eq.{bytes_eq-Decides}
use Rattle.charlotte_calls.specs.declared.names.EndId.{EndId}
use Rattle.charlotte_calls.specs.declared.names.Way.{Way}
use Rattle.charlotte_calls.specs.declared.names.Way.TheVariants.{Inward, Outward}
use Rattle.charlotte_calls.specs.declared.calls.Call.{Call}
use Rattle.charlotte_calls.specs.declared.calls.Call.TheVariants as call
use Rattle.charlotte_text.specs.declared.fault.Fault.TheVariants.{Form}
use Rattle.charlotte_text.specs.declared.call.Keyword.{Keyword}
use Rattle.charlotte_text.specs.declared.call.Keyword.TheVariants.{Make, Destroy, Send, Receive, Cancel, Wait, Print, Exit}
use Rattle.charlotte_text.specs.Spelling.{end_text, plus_text, ends_text, bytes_text, way_text, call_text, most_ends, IsEnd, IsCall}
use Rattle.charlotte_text.specs.Reading.{◌>>=◌, words, part_at, ended, end_of, ends_of, bytes_of, way_of, keyword_of, only_end_of, send_of, cancel_of, print_of, operands_of, call_of}
use Rattle.charlotte_text.proofs.Steps.{bind_ok, done, ok_is, not_ok, chosen, held, part_ok, ended_ok}
use Rattle.charlotte_text.proofs.Names.{end_takes, end_again, end_free, ends_take, ends_again}
use Rattle.charlotte_text.proofs.Texts.{IsWord, bytes_takes, bytes_again, bytes_free, short_text}

-- ---- keywords

abbrev keyword_text : Keyword → List ℕ
keyword_text Make = codes "make"
keyword_text Destroy = codes "destroy"
keyword_text Send = codes "send"
keyword_text Receive = codes "receive"
keyword_text Cancel = codes "cancel"
keyword_text Wait = codes "wait"
keyword_text Print = codes "print"
keyword_text Exit = codes "exit"

named : (w : List ℕ) (k l : Keyword) → Decides (bytes_eq w (keyword_text l)) (w ≡ keyword_text l) → (bytes_eq w (keyword_text l) ≡ true) × (Ok l ≡ done k) → w ≡ keyword_text k
named w k l d h = d.0 h.0 ∙ ap keyword_text (ok_is l k h.1)

keyword_takes : (w : List ℕ) (k : Keyword) → keyword_of w ≡ Ok k → w ≡ keyword_text k
unfolding keyword_of
keyword_takes w k e =
    elim (chosen (bytes_eq w (codes "make")) (Ok Make)
    (cond (bytes_eq w (codes "destroy")) (Ok Destroy)
    (cond (bytes_eq w (codes "send")) (Ok Send)
    (cond (bytes_eq w (codes "receive")) (Ok Receive)
    (cond (bytes_eq w (codes "cancel")) (Ok Cancel) (cond (bytes_eq w (codes "wait")) (Ok Wait) (cond (bytes_eq w (codes "print")) (Ok Print) (cond (bytes_eq w (codes "exit")) (Ok Exit) (Err Form))))))))
    (Ok k) e) [
      | inl h ↦ named w k Make (bytes_eq-Decides w (codes "make")) h
      | inr h0 ↦
          elim (chosen (bytes_eq w (codes "destroy")) (Ok Destroy)
          (cond (bytes_eq w (codes "send")) (Ok Send)
          (cond (bytes_eq w (codes "receive")) (Ok Receive)
          (cond (bytes_eq w (codes "cancel")) (Ok Cancel) (cond (bytes_eq w (codes "wait")) (Ok Wait) (cond (bytes_eq w (codes "print")) (Ok Print) (cond (bytes_eq w (codes "exit")) (Ok Exit) (Err Form)))))))
          (Ok k) h0.1) [
            | inl h ↦ named w k Destroy (bytes_eq-Decides w (codes "destroy")) h
            | inr h1 ↦
                elim (chosen (bytes_eq w (codes "send")) (Ok Send)
                (cond (bytes_eq w (codes "receive")) (Ok Receive)
                (cond (bytes_eq w (codes "cancel")) (Ok Cancel) (cond (bytes_eq w (codes "wait")) (Ok Wait) (cond (bytes_eq w (codes "print")) (Ok Print) (cond (bytes_eq w (codes "exit")) (Ok Exit) (Err Form))))))
                (Ok k) h1.1) [
                  | inl h ↦ named w k Send (bytes_eq-Decides w (codes "send")) h
                  | inr h2 ↦
                      elim (chosen (bytes_eq w (codes "receive")) (Ok Receive)
                      (cond (bytes_eq w (codes "cancel")) (Ok Cancel) (cond (bytes_eq w (codes "wait")) (Ok Wait) (cond (bytes_eq w (codes "print")) (Ok Print) (cond (bytes_eq w (codes "exit")) (Ok Exit) (Err Form)))))
                      (Ok k) h2.1) [
                        | inl h ↦ named w k Receive (bytes_eq-Decides w (codes "receive")) h
                        | inr h3 ↦
                            elim (chosen (bytes_eq w (codes "cancel")) (Ok Cancel)
                            (cond (bytes_eq w (codes "wait")) (Ok Wait) (cond (bytes_eq w (codes "print")) (Ok Print) (cond (bytes_eq w (codes "exit")) (Ok Exit) (Err Form)))) (Ok k) h3.1) [
                              | inl h ↦ named w k Cancel (bytes_eq-Decides w (codes "cancel")) h
                              | inr h4 ↦ elim (chosen (bytes_eq w (codes "wait")) (Ok Wait) (cond (bytes_eq w (codes "print")) (Ok Print) (cond (bytes_eq w (codes "exit")) (Ok Exit) (Err Form))) (Ok k) h4.1) [
                                | inl h ↦ named w k Wait (bytes_eq-Decides w (codes "wait")) h
                                | inr h5 ↦ elim (chosen (bytes_eq w (codes "print")) (Ok Print) (cond (bytes_eq w (codes "exit")) (Ok Exit) (Err Form)) (Ok k) h5.1) [
                                  | inl h ↦ named w k Print (bytes_eq-Decides w (codes "print")) h
                                  | inr h6 ↦ elim (chosen (bytes_eq w (codes "exit")) (Ok Exit) (Err Form) (Ok k) h6.1)
                                      [ inl h ↦ named w k Exit (bytes_eq-Decides w (codes "exit")) h | inr h7 ↦ absurd (not_ok k Form h7.1) ]
                                ]
                              ]
                            ]
                      ]
                ]
          ]
    ]

keyword_again : (k : Keyword) → keyword_of (keyword_text k) ≡ Ok k
unfolding keyword_of
keyword_again Make = refl
keyword_again Destroy = refl
keyword_again Send = refl
keyword_again Receive = refl
keyword_again Cancel = refl
keyword_again Wait = refl
keyword_again Print = refl
keyword_again Exit = refl

-- ---- the words of a call

abbrev pub call_words : Call → List (List ℕ)
call_words call.Make = codes "make" ∷ []
call_words (call.Destroy on) = codes "destroy" ∷ end_text on ∷ []
call_words (call.Send on bytes enclose) = codes "send" ∷ end_text on ∷ bytes_text bytes ∷ map plus_text enclose
call_words (call.Receive on) = codes "receive" ∷ end_text on ∷ []
call_words (call.Cancel on way) = codes "cancel" ∷ end_text on ∷ way_text way ∷ []
call_words call.Wait = codes "wait" ∷ []
call_words (call.Print bytes) = codes "print" ∷ bytes_text bytes ∷ []
call_words call.Exit = codes "exit" ∷ []

pub way_takes : (w : List ℕ) (way : Way) → way_of w ≡ Ok way → w ≡ way_text way
unfolding way_of
way_takes w way e = elim (chosen (bytes_eq w (codes "in")) (Ok Inward) (cond (bytes_eq w (codes "out")) (Ok Outward) (Err Form)) (Ok way) e) [
  | inl h ↦ (bytes_eq-Decides w (codes "in")).0 h.0 ∙ ap way_text (ok_is Inward way h.1)
  | inr h ↦ let k = held (bytes_eq w (codes "out")) (Ok Outward) Form way h.1 in (bytes_eq-Decides w (codes "out")).0 k.0 ∙ ap way_text (ok_is Outward way k.1)
]

pub way_again : (way : Way) → way_of (way_text way) ≡ Ok way
unfolding way_of
way_again Inward = refl
way_again Outward = refl

one_word : (ws : List (List ℕ)) (x : List ℕ × List (List ℕ)) (u : Unit {0}) → part_at ws ≡ Ok x → ended x.1 ≡ Ok u → ws ≡ x.0 ∷ []
one_word ws x u p e = part_ok ws x p ∙ ap (λ (ps : List (List ℕ)). x.0 ∷ ps) (ended_ok x.1 u e)

only_end_takes : (ws : List (List ℕ)) (e : EndId) → only_end_of ws ≡ Ok e → (ws ≡ end_text e ∷ []) × IsEnd e
unfolding only_end_of
only_end_takes ws e h =
    let a = bind_ok (part_at ws) (λ x. end_of x.0 >>= λ on. ended x.1 >>= λ last. Ok on) e h in
    let b = bind_ok (end_of a.0.0) (λ on. ended a.0.1 >>= λ last. Ok on) e a.2 in
    let c = bind_ok (ended a.0.1) (λ last. Ok b.0) e b.2 in
    let t = end_takes a.0.0 b.0 b.1 in
    let shape : ws ≡ end_text b.0 ∷ [] = one_word ws a.0 c.0 a.1 c.1 ∙ ap (λ (w : List ℕ). w ∷ []) t.0 in
    subst (λ (x : EndId). (ws ≡ end_text x ∷ []) × IsEnd x) (ok_is b.0 e c.2) (shape, t.1)

only_end_again : (e : EndId) → IsEnd e → only_end_of (end_text e ∷ []) ≡ Ok e
unfolding only_end_of
only_end_again e fits = rw (end_again e fits) refl

-- what operands are read
record Reads (version : ℕ) (keyword : List ℕ) (ws : List (List ℕ)) (c : Call) : Type 0 where
  words : keyword ∷ ws ≡ call_words c
  fits : IsCall version c

send_made : (v : ℕ) (ws : List (List ℕ)) (a t : List ℕ × List (List ℕ)) (on : EndId) (bytes : List ℕ) (enclose : List EndId) (c : Call)
    → part_at ws ≡ Ok a → part_at a.1 ≡ Ok t → end_of a.0 ≡ Ok on → bytes_of t.0 ≡ Ok bytes → ends_of (most_ends v) t.1 ≡ Ok enclose → done (call.Send on bytes enclose) ≡ done c → Reads v (codes "send") ws c
send_made v ws a t on bytes enclose c pa pt eo bo es e =
    let end = end_takes a.0 on eo in
    let text = bytes_takes t.0 bytes bo in
    let ends = ends_take (most_ends v) t.1 enclose es in
    let tail : a.1 ≡ bytes_text bytes ∷ map plus_text enclose = part_ok a.1 t pt ∙ ap (λ (w : List ℕ). w ∷ t.1) text.0.text ∙ ap (λ (ps : List (List ℕ)). bytes_text bytes ∷ ps) ends.0 in
    let shape : ws ≡ end_text on ∷ bytes_text bytes ∷ map plus_text enclose = part_ok ws a pa ∙ ap (λ (w : List ℕ). w ∷ a.1) end.0 ∙ ap (λ (ps : List (List ℕ)). end_text on ∷ ps) tail in
    subst (λ (x : Call). Reads v (codes "send") ws x) (ok_is (call.Send on bytes enclose) c e) (record { words = ap (λ (ps : List (List ℕ)). codes "send" ∷ ps) shape; fits = (end.1, text.0.bytes, text.1, ends.1.0, ends.1.1) })

cancel_made : (v : ℕ) (ws : List (List ℕ)) (a w : List ℕ × List (List ℕ)) (on : EndId) (way : Way) (u : Unit {0}) (c : Call)
    → part_at ws ≡ Ok a → part_at a.1 ≡ Ok w → end_of a.0 ≡ Ok on → way_of w.0 ≡ Ok way → ended w.1 ≡ Ok u → done (call.Cancel on way) ≡ done c → Reads v (codes "cancel") ws c
cancel_made v ws a w on way u c pa pw eo wo l e =
    let end = end_takes a.0 on eo in
    let tail : a.1 ≡ way_text way ∷ [] = one_word a.1 w u pw l ∙ ap (λ (x : List ℕ). x ∷ []) (way_takes w.0 way wo) in
    let shape : ws ≡ end_text on ∷ way_text way ∷ [] = part_ok ws a pa ∙ ap (λ (x : List ℕ). x ∷ a.1) end.0 ∙ ap (λ (ps : List (List ℕ)). end_text on ∷ ps) tail in
    subst (λ (x : Call). Reads v (codes "cancel") ws x) (ok_is (call.Cancel on way) c e) (record { words = ap (λ (ps : List (List ℕ)). codes "cancel" ∷ ps) shape; fits = end.1 })

send_takes : (v : ℕ) (ws : List (List ℕ)) (c : Call) → send_of v ws ≡ Ok c → Reads v (codes "send") ws c
unfolding send_of
send_takes v ws c h =
    let a = bind_ok (part_at ws) (λ x. end_of x.0 >>= λ on. part_at x.1 >>= λ text. ends_of (most_ends v) text.1 >>= λ enclose. bytes_of text.0 >>= λ bytes. Ok (call.Send on bytes enclose)) c h in
    let b = bind_ok (end_of a.0.0) (λ on. part_at a.0.1 >>= λ text. ends_of (most_ends v) text.1 >>= λ enclose. bytes_of text.0 >>= λ bytes. Ok (call.Send on bytes enclose)) c a.2 in
    let t = bind_ok (part_at a.0.1) (λ text. ends_of (most_ends v) text.1 >>= λ enclose. bytes_of text.0 >>= λ bytes. Ok (call.Send b.0 bytes enclose)) c b.2 in
    let es = bind_ok (ends_of (most_ends v) t.0.1) (λ enclose. bytes_of t.0.0 >>= λ bytes. Ok (call.Send b.0 bytes enclose)) c t.2 in
    let bs = bind_ok (bytes_of t.0.0) (λ bytes. Ok (call.Send b.0 bytes es.0)) c es.2 in
    send_made v ws a.0 t.0 b.0 bs.0 es.0 c a.1 t.1 b.1 bs.1 es.1 bs.2

cancel_takes : (v : ℕ) (ws : List (List ℕ)) (c : Call) → cancel_of ws ≡ Ok c → Reads v (codes "cancel") ws c
unfolding cancel_of
cancel_takes v ws c h =
    let a = bind_ok (part_at ws) (λ x. end_of x.0 >>= λ on. part_at x.1 >>= λ w. way_of w.0 >>= λ way. ended w.1 >>= λ last. Ok (call.Cancel on way)) c h in
    let b = bind_ok (end_of a.0.0) (λ on. part_at a.0.1 >>= λ w. way_of w.0 >>= λ way. ended w.1 >>= λ last. Ok (call.Cancel on way)) c a.2 in
    let w = bind_ok (part_at a.0.1) (λ w. way_of w.0 >>= λ way. ended w.1 >>= λ last. Ok (call.Cancel b.0 way)) c b.2 in
    let y = bind_ok (way_of w.0.0) (λ way. ended w.0.1 >>= λ last. Ok (call.Cancel b.0 way)) c w.2 in
    let l = bind_ok (ended w.0.1) (λ last. Ok (call.Cancel b.0 y.0)) c y.2 in
    cancel_made v ws a.0 w.0 b.0 y.0 l.0 c a.1 w.1 b.1 y.1 l.1 l.2

print_takes : (v : ℕ) (ws : List (List ℕ)) (c : Call) → print_of ws ≡ Ok c → Reads v (codes "print") ws c
unfolding print_of
print_takes v ws c h =
    let a = bind_ok (part_at ws) (λ x. ended x.1 >>= λ last. bytes_of x.0 >>= λ bytes. Ok (call.Print bytes)) c h in
    let l = bind_ok (ended a.0.1) (λ last. bytes_of a.0.0 >>= λ bytes. Ok (call.Print bytes)) c a.2 in
    let b = bind_ok (bytes_of a.0.0) (λ bytes. Ok (call.Print bytes)) c l.2 in
    let t = bytes_takes a.0.0 b.0 b.1 in
    let shape : ws ≡ bytes_text b.0 ∷ [] = one_word ws a.0 l.0 a.1 l.1 ∙ ap (λ (w : List ℕ). w ∷ []) t.0.text in
    subst (λ (x : Call). Reads v (codes "print") ws x) (ok_is (call.Print b.0) c b.2) (record { words = ap (λ (ps : List (List ℕ)). codes "print" ∷ ps) shape; fits = (t.0.bytes, t.1) })

bare_takes : (v : ℕ) (k : List ℕ) (ws : List (List ℕ)) (made c : Call) → (ended ws >>= λ u. Ok made) ≡ Ok c → k ∷ [] ≡ call_words made → IsCall v made → Reads v k ws c
bare_takes v k ws made c h e fits =
    let l = bind_ok (ended ws) (λ u. Ok made) c h in
    subst (λ (x : Call). Reads v k ws x) (ok_is made c l.2) (record { words = ap (λ (ps : List (List ℕ)). k ∷ ps) (ended_ok ws l.0 l.1) ∙ e; fits = fits })

operands_take : (v : ℕ) (k : Keyword) (ws : List (List ℕ)) (c : Call) → operands_of v k ws ≡ Ok c → Reads v (keyword_text k) ws c
unfolding operands_of
operands_take v Make ws c h = bare_takes v (codes "make") ws call.Make c h refl tt
operands_take v Destroy ws c h =
    let a = bind_ok (only_end_of ws) (λ on. Ok (call.Destroy on)) c h in
    let t = only_end_takes ws a.0 a.1 in
    subst (λ (x : Call). Reads v (codes "destroy") ws x) (ok_is (call.Destroy a.0) c a.2) (record { words = ap (λ (ps : List (List ℕ)). codes "destroy" ∷ ps) t.0; fits = t.1 })
operands_take v Send ws c h = send_takes v ws c h
operands_take v Receive ws c h =
    let a = bind_ok (only_end_of ws) (λ on. Ok (call.Receive on)) c h in
    let t = only_end_takes ws a.0 a.1 in
    subst (λ (x : Call). Reads v (codes "receive") ws x) (ok_is (call.Receive a.0) c a.2) (record { words = ap (λ (ps : List (List ℕ)). codes "receive" ∷ ps) t.0; fits = t.1 })
operands_take v Cancel ws c h = cancel_takes v ws c h
operands_take v Wait ws c h = bare_takes v (codes "wait") ws call.Wait c h refl tt
operands_take v Print ws c h = print_takes v ws c h
operands_take v Exit ws c h = bare_takes v (codes "exit") ws call.Exit c h refl tt

pub call_takes : (v : ℕ) (ws : List (List ℕ)) (c : Call) → call_of v ws ≡ Ok c → (ws ≡ call_words c) × IsCall v c
unfolding call_of
call_takes v ws c h =
    let a = bind_ok (part_at ws) (λ first. keyword_of first.0 >>= λ keyword. operands_of v keyword first.1) c h in
    let k = bind_ok (keyword_of a.0.0) (λ keyword. operands_of v keyword a.0.1) c a.2 in
    let t = operands_take v k.0 a.0.1 c k.2 in
    (part_ok ws a.0 a.1 ∙ ap (λ (w : List ℕ). w ∷ a.0.1) (keyword_takes a.0.0 k.0 k.1) ∙ t.words, t.fits)

operands_again : (v : ℕ) (c : Call) → IsCall v c → call_of v (call_words c) ≡ Ok c
unfolding call_of keyword_of operands_of send_of cancel_of print_of only_end_of
operands_again v call.Make fits = refl
operands_again v (call.Destroy on) fits = rw (end_again on fits) refl
operands_again v (call.Send on bytes enclose) fits = rw (end_again on fits.0, ends_again (most_ends v) enclose fits.3 fits.4, bytes_again bytes fits.1, short_text bytes fits.2) refl
operands_again v (call.Receive on) fits = rw (end_again on fits) refl
operands_again v (call.Cancel on way) fits = rw (end_again on fits, way_again way) refl
operands_again v call.Wait fits = refl
operands_again v (call.Print bytes) fits = rw (bytes_again bytes fits.0, short_text bytes fits.1) refl
operands_again v call.Exit fits = refl

pub call_again : (v : ℕ) (c : Call) → IsCall v c → call_of v (call_words c) ≡ Ok c
call_again v c fits = operands_again v c fits

-- ---- words and the line

joined_ends : (w : List ℕ) (es : List EndId) → join_with_byte 32 (w ∷ map plus_text es) ≡ w ++ ends_text es
joined_ends w [] = sym (append-nil w)
joined_ends w (e ∷ es) = ap (λ (x : List ℕ). w ++ 32 ∷ x) (joined_ends (plus_text e) es) ∙ ap (λ (x : List ℕ). w ++ x) (sym (flat_map-cons (λ (x : EndId). codes " " ++ plus_text x) e es))

send_shape : (a b c : List ℕ) → codes "send " ++ (a ++ 32 ∷ (b ++ c)) ≡ (((codes "send " ++ a) ++ codes " ") ++ b) ++ c
send_shape a b c = simp append_assoc

cancel_shape : (a b : List ℕ) → codes "cancel " ++ (a ++ 32 ∷ b) ≡ ((codes "cancel " ++ a) ++ codes " ") ++ b
cancel_shape a b = simp append_assoc

pub joined : (c : Call) → join_with_byte 32 (call_words c) ≡ call_text c
joined call.Make = refl
joined (call.Destroy on) = refl
joined (call.Send on bytes enclose) = ap (λ (x : List ℕ). codes "send " ++ (end_text on ++ 32 ∷ x)) (joined_ends (bytes_text bytes) enclose) ∙ send_shape (end_text on) (bytes_text bytes) (ends_text enclose)
joined (call.Receive on) = refl
joined (call.Cancel on way) = cancel_shape (end_text on) (way_text way)
joined call.Wait = refl
joined (call.Print bytes) = refl
joined call.Exit = refl

pub free_codes : (w : List ℕ) → list_all (λ b. not (eqb b 32)) w ≡ true → IsWord w
free_codes [] e = All-nil (λ b. eqb b 32 ≡ false)
free_codes (b ∷ bs) e = let k = and_parts (not (eqb b 32)) (list_all (λ c. not (eqb c 32)) bs) e in All-cons (λ c. eqb c 32 ≡ false) b bs (not-true _ k.0) (free_codes bs k.1)

plus_free : (es : List EndId) → AllByRecursion IsEnd es → AllByRecursion IsWord (map plus_text es)
plus_free [] fits = tt
plus_free (e ∷ es) fits = (All-cons (λ b. eqb b 32 ≡ false) 43 (end_text e) refl (end_free e fits.0), plus_free es fits.1)

way_free : (way : Way) → IsWord (way_text way)
way_free Inward = free_codes (codes "in") refl
way_free Outward = free_codes (codes "out") refl

pub call_free : (v : ℕ) (c : Call) → IsCall v c → AllByRecursion IsWord (call_words c)
call_free v call.Make fits = (free_codes (codes "make") refl, tt)
call_free v (call.Destroy on) fits = (free_codes (codes "destroy") refl, (end_free on fits, tt))
call_free v (call.Send on bytes enclose) fits = (free_codes (codes "send") refl, (end_free on fits.0, (bytes_free bytes, plus_free enclose fits.3)))
call_free v (call.Receive on) fits = (free_codes (codes "receive") refl, (end_free on fits, tt))
call_free v (call.Cancel on way) fits = (free_codes (codes "cancel") refl, (end_free on fits, (way_free way, tt)))
call_free v call.Wait fits = (free_codes (codes "wait") refl, tt)
call_free v (call.Print bytes) fits = (free_codes (codes "print") refl, (bytes_free bytes, tt))
call_free v call.Exit fits = (free_codes (codes "exit") refl, tt)

-- words that were joined are split again
pub words_joined : (w : List ℕ) (ws : List (List ℕ)) → IsWord w → AllByRecursion IsWord ws → words (join_with_byte 32 (w ∷ ws)) ≡ w ∷ ws
words_joined w [] free rest = slice_split_none (λ b. eqb b 32) w free
words_joined w (v ∷ vs) free rest = slice_split_at (λ b. eqb b 32) w 32 (join_with_byte 32 (v ∷ vs)) free refl ∙ ap (λ (xs : List (List ℕ)). w ∷ xs) (words_joined v vs rest.0 rest.1)

pub call_nonempty : (c : Call) → call_words c ≡ [] → ⊥
call_nonempty call.Make e = cc
call_nonempty (call.Destroy on) e = cc
call_nonempty (call.Send on bytes enclose) e = cc
call_nonempty (call.Receive on) e = cc
call_nonempty (call.Cancel on way) e = cc
call_nonempty call.Wait e = cc
call_nonempty (call.Print bytes) e = cc
call_nonempty call.Exit e = cc

split_call : (c : Call) → AllByRecursion IsWord (call_words c) → words (join_with_byte 32 (call_words c)) ≡ call_words c
split_call call.Make free = words_joined _ _ free.0 free.1
split_call (call.Destroy on) free = words_joined _ _ free.0 free.1
split_call (call.Send on bytes enclose) free = words_joined _ _ free.0 free.1
split_call (call.Receive on) free = words_joined _ _ free.0 free.1
split_call (call.Cancel on way) free = words_joined _ _ free.0 free.1
split_call call.Wait free = words_joined _ _ free.0 free.1
split_call (call.Print bytes) free = words_joined _ _ free.0 free.1
split_call call.Exit free = words_joined _ _ free.0 free.1

pub call_split : (v : ℕ) (c : Call) → IsCall v c → words (call_text c) ≡ call_words c
call_split v c fits = ap words (sym (joined c)) ∙ split_call c (call_free v c fits)

-- a word before those of a call
pub join_call : (w : List ℕ) (c : Call) → join_with_byte 32 (w ∷ call_words c) ≡ w ++ 32 ∷ call_text c
join_call w call.Make = ap (λ (x : List ℕ). w ++ 32 ∷ x) (joined call.Make)
join_call w (call.Destroy on) = ap (λ (x : List ℕ). w ++ 32 ∷ x) (joined (call.Destroy on))
join_call w (call.Send on bytes enclose) = ap (λ (x : List ℕ). w ++ 32 ∷ x) (joined (call.Send on bytes enclose))
join_call w (call.Receive on) = ap (λ (x : List ℕ). w ++ 32 ∷ x) (joined (call.Receive on))
join_call w (call.Cancel on way) = ap (λ (x : List ℕ). w ++ 32 ∷ x) (joined (call.Cancel on way))
join_call w call.Wait = ap (λ (x : List ℕ). w ++ 32 ∷ x) (joined call.Wait)
join_call w (call.Print bytes) = ap (λ (x : List ℕ). w ++ 32 ∷ x) (joined (call.Print bytes))
join_call w call.Exit = ap (λ (x : List ℕ). w ++ 32 ∷ x) (joined call.Exit)
