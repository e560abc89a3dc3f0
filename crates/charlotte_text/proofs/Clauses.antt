-- The readers' clauses: what is found is spelled so, and only that.
use Rattle.std.proofs.Common.{◌≡◌, ℕ, ◌^◌, ◌<◌, List, map, Option, Some, None, Result, Ok, Err, sym, ap, ◌∙◌, arith}
use Rattle.std.specs.Prelude.{IfOk}
use Rattle.std.specs.List.{join_with_byte}
use Rattle.std.proofs.lemmas.List.Splits.{join_with_byte-slice_split}
use Rattle.charlotte_calls.specs.declared.names.EndId.{EndId}
use Rattle.charlotte_calls.specs.declared.names.Way.{Way}
use Rattle.charlotte_calls.specs.declared.calls.Call.{Call}
use Rattle.charlotte_text.specs.declared.fault.Fault.{Fault}
use Rattle.charlotte_text.specs.Spelling.{number_text, end_text, plus_text, bytes_text, way_text, call_text, IsEnd, IsCall}
use Rattle.charlotte_text.specs.Reading.{words, rest_parts, number_below, end_of, ends_of, bytes_of, way_of, call_of}
use Rattle.charlotte_text.proofs.Steps.{ok_is}
use Rattle.charlotte_text.proofs.Numbers.{below_takes, below_again}
use Rattle.charlotte_text.proofs.Names.{end_takes, end_again, ends_take}
use Rattle.charlotte_text.proofs.Texts.{bytes_takes}
use Rattle.charlotte_text.proofs.Calls.{way_takes, call_words, call_takes, call_again, call_nonempty, joined, call_split}

pub below_found : (limit : ℕ) (w : List ℕ) (r : Result ℕ Fault) → r ≡ number_below limit w → IfOk r (λ n. w ≡ number_text n)
below_found limit w (Ok n) e = (below_takes limit w n (sym e)).0
below_found limit w (Err f) e = tt

pub below_only : (limit : ℕ) (w : List ℕ) (r : Result ℕ Fault) (n : ℕ) → r ≡ number_below limit w → limit < 2 ^ 64 → n < limit → w ≡ number_text n → r ≡ Ok n
below_only limit w r n e small lt s = e ∙ ap (number_below limit) s ∙ below_again limit n lt (omega arith)

pub end_found : (w : List ℕ) (r : Result EndId Fault) → r ≡ end_of w → IfOk r (λ e. w ≡ end_text e)
end_found w (Ok x) e = (end_takes w x (sym e)).0
end_found w (Err f) e = tt

pub ends_found : (most : ℕ) (ws : List (List ℕ)) (r : Result (List EndId) Fault) → r ≡ ends_of most ws → IfOk r (λ es. ws ≡ map plus_text es)
ends_found most ws (Ok x) e = (ends_take most ws x (sym e)).0
ends_found most ws (Err f) e = tt

pub bytes_found : (w : List ℕ) (r : Result (List ℕ) Fault) → r ≡ bytes_of w → IfOk r (λ bs. w ≡ bytes_text bs)
bytes_found w (Ok x) e = (bytes_takes w x (sym e)).0.text
bytes_found w (Err f) e = tt

pub way_found : (w : List ℕ) (r : Result Way Fault) → r ≡ way_of w → IfOk r (λ way. w ≡ way_text way)
way_found w (Ok x) e = way_takes w x (sym e)
way_found w (Err f) e = tt

spelled_call : (o : Option (List ℕ)) (c : Call) → rest_parts 32 o ≡ call_words c → o ≡ Some (call_text c)
spelled_call None c e = absurd (call_nonempty c (sym e))
spelled_call (Some line) c e = ap Some (sym (join_with_byte-slice_split 32 line) ∙ ap (join_with_byte 32) e ∙ joined c)

pub call_found : (v : ℕ) (o : Option (List ℕ)) (r : Result Call Fault) → r ≡ call_of v (rest_parts 32 o) → IfOk r (λ c. o ≡ Some (call_text c))
call_found v o (Ok c) e = spelled_call o c ((call_takes v (rest_parts 32 o) c (sym e)).0)
call_found v o (Err f) e = tt

pub call_fits : (v : ℕ) (o : Option (List ℕ)) (r : Result Call Fault) → r ≡ call_of v (rest_parts 32 o) → IfOk r (IsCall v)
call_fits v o (Ok c) e = (call_takes v (rest_parts 32 o) c (sym e)).1
call_fits v o (Err f) e = tt

pub call_only : (v : ℕ) (o : Option (List ℕ)) (r : Result Call Fault) (c : Call) → r ≡ call_of v (rest_parts 32 o) → IsCall v c → o ≡ Some (call_text c) → r ≡ Ok c
call_only v o r c e fits s = e ∙ ap (λ (x : Option (List ℕ)). call_of v (rest_parts 32 x)) s ∙ ap (call_of v) (call_split v c fits) ∙ call_again v c fits

pub same_call : (v : ℕ) (a b : Call) → IsCall v a → IsCall v b → call_text a ≡ call_text b → a ≡ b
same_call v a b fa fb e =
    ok_is a b (sym (call_again v a fa) ∙ ap (call_of v) (sym (call_split v a fa)) ∙ ap (λ (x : List ℕ). call_of v (words x)) e ∙ ap (call_of v) (call_split v b fb) ∙ call_again v b fb)

pub same_end : (a b : EndId) → IsEnd a → IsEnd b → end_text a ≡ end_text b → a ≡ b
same_end a b fa fb e = ok_is a b (sym (end_again a fa) ∙ ap end_of e ∙ end_again b fb)
