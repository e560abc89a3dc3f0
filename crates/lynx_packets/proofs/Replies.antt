-- The reader of the values of a reply is exact.
use Rattle.std.proofs.Common.{◌≡◌, ℕ, zero, suc, ◌+◌, ◌-◌, ◌<◌, ◌≤◌, List, [], ◌∷◌, ◌++◌, length, Result, Ok, Err, refl, sym, ap, subst, ◌∙◌, arith, append_assoc}
use Rattle.std.specs.Prelude.{IsErr}
use Rattle.std.specs.List.{AllByRecursion}
use Rattle.std.proofs.lemmas.List.{length-append, append-nil}
use Rattle.std.proofs.lemmas.List.Concat.{flat_map-cons}
use Rattle.lynx_packets.specs.declared.value.RtValue.{RtValue}
use Rattle.lynx_packets.specs.declared.value.RtValue.TheVariants as values
use Rattle.lynx_packets.specs.Spelling.{value_text, values_text, IsValue}
use Rattle.lynx_packets.specs.Reading.{◌>>=◌, value_at, values_at, link_count}
use Rattle.lynx_packets.proofs.Sizes.{bind_ok, ok_is, value_less}
use Rattle.lynx_packets.proofs.Steps.{values_next}
use Rattle.lynx_packets.proofs.Exact.{IsBytes, Broken}
use Rattle.lynx_packets.proofs.Untyped.{IsValueText, value_reads}

-- how many of the values are links, by recursion
abbrev pub link_sum : List RtValue → ℕ
link_sum [] = 0
link_sum (v ∷ vs) = link_count v + link_sum vs

pub record AreResults (links : ℕ) (vs : List RtValue) (text : List ℕ) : Type 0 where
  pub obey : AllByRecursion IsValue vs
  pub few : link_sum vs ≤ links
  pub is : text ≡ values_text vs

abbrev pub Rest : Type 0
Rest = List RtValue × List ℕ

results_cons : (links : ℕ) (v : RtValue) (vs : List RtValue) (a text b : List ℕ) → IsValueText links v a → AreResults (links - link_count v) vs b → text ≡ a ++ b → AreResults links (v ∷ vs) text
results_cons links v vs a text b one others parts = record {
  obey = (one.obeys, others.obey);
  few = omega (arith, one.few, others.few);
  is = parts ∙ ap (λ (t : List ℕ). t ++ b) one.is ∙ ap (λ (t : List ℕ). value_text v ++ t) others.is ∙ sym (flat_map-cons value_text v vs);
}

pub results_found : (fuel links : ℕ) (bytes : List ℕ) (x : Rest) → IsBytes bytes → values_at fuel links bytes ≡ Ok x → AreResults links x.0 bytes
unfolding values_at
results_found fuel links [] x fits e = subst (λ (y : Rest). AreResults links y.0 []) (ok_is ([], []) x e) (record { obey = tt; few = omega arith; is = refl })
results_found zero links (b ∷ bs) x fits e = absurd cc
results_found (suc fuel) links (b ∷ bs) x fits e =
    let a = bind_ok (value_at links (b ∷ bs)) (λ first. values_at fuel (links - link_count first.0) first.1 >>= λ others. Ok (first.0 ∷ others.0, others.1)) x e in
    let o = bind_ok (values_at fuel (links - link_count a.0.0) a.0.1) (λ others. Ok (a.0.0 ∷ others.0, others.1)) x a.2 in
    let f = (value_reads links).found (b ∷ bs) a.0.0 a.0.1 fits a.1 in
    let others = results_found fuel (links - link_count a.0.0) a.0.1 o.0 f.rest_fits o.1 in
    subst (λ (y : Rest). AreResults links y.0 (b ∷ bs)) (ok_is (a.0.0 ∷ o.0.0, o.0.1) x o.2) (results_cons links a.0.0 o.0.0 f.text (b ∷ bs) a.0.1 f.is others f.parts)

some_bytes : (v : RtValue) → 0 < length (value_text v)
unfolding value_text
some_bytes (values.Int n) = omega arith
some_bytes (values.Bool b) = omega arith
some_bytes (values.Text t) = omega arith
some_bytes (values.Row ns) = omega arith
some_bytes values.Link = omega arith

pub results_again : (vs : List RtValue) (links fuel : ℕ) (text : List ℕ) → AreResults links vs text → length text ≤ fuel → values_at fuel links text ≡ Ok (vs, [])
unfolding values_at
results_again [] links fuel text is le = ap (values_at fuel links) is.is
results_again (v ∷ vs) links zero text is le =
    let parts : text ≡ value_text v ++ values_text vs = is.is ∙ flat_map-cons value_text v vs in
    let size : length text ≡ length (value_text v) + length (values_text vs) = ap (λ (t : List ℕ). length t) parts ∙ length-append (value_text v) (values_text vs) in
    absurd (omega (arith, some_bytes v, size, le))
results_again (v ∷ vs) links (suc fuel) text is le =
    let parts : text ≡ value_text v ++ values_text vs = is.is ∙ flat_map-cons value_text v vs in
    let size : length text ≡ length (value_text v) + length (values_text vs) = ap (λ (t : List ℕ). length t) parts ∙ length-append (value_text v) (values_text vs) in
    let read : value_at links text ≡ Ok (v, values_text vs) = ap (value_at links) parts ∙ (value_reads links).again v (value_text v) (values_text vs) (record { obeys = is.obey.0; is = refl; few = omega (arith, is.few) }) in
    let others : values_at fuel (links - link_count v) (values_text vs) ≡ Ok (vs, []) = results_again vs (links - link_count v) fuel (values_text vs) (record { obey = is.obey.1; few = omega (arith, is.few); is = refl }) (omega (arith, le, some_bytes v, size)) in
    values_next fuel links text v (values_text vs) (omega (arith, some_bytes v, size)) read ∙ ap (λ (r : Result Rest ℕ). r >>= λ o. Ok (v ∷ o.0, o.1)) others

-- nothing is read behind the front and one more byte, whatever follows
abbrev pub BrokenResults : ℕ → List ℕ → List ℕ → Type 0
BrokenResults links front [] = Unit {0}
BrokenResults links front (b ∷ bs) = (more : List ℕ) (fuel : ℕ) → IsErr (values_at fuel links (front ++ b ∷ more))

pub record WrongResults (links : ℕ) (bytes : List ℕ) (left : ℕ) : Type 0 where
  pub front : List ℕ
  pub tail : List ℕ
  pub parts : bytes ≡ front ++ tail
  pub size : length tail ≡ left
  pub value : List RtValue
  pub more : List ℕ
  pub goes_on : AreResults links value (front ++ more)
  pub broken : BrokenResults links front tail

abbrev one_more : RtValue → Rest → Result Rest ℕ
one_more v o = Ok (v ∷ o.0, o.1)

err_bind : {A B : Type 0} (r : Result A ℕ) (f : A → Result B ℕ) → IsErr r → IsErr (r >>= f)
err_bind (Ok x) f e = absurd cc
err_bind (Err n) f e = e

bind_err : (v : RtValue) (r : Result Rest ℕ) (n : ℕ) → (r >>= λ o. one_more v o) ≡ Err n → r ≡ Err n
bind_err v (Ok x) n e = absurd cc
bind_err v (Err m) n e = cc

is_err : {A : Type 0} (r s : Result A ℕ) → r ≡ s → IsErr s → IsErr r
is_err r s e h = subst (λ t. IsErr t) (sym e) h

stuck : (fuel links : ℕ) (bytes : List ℕ) → 0 < length bytes → IsErr (value_at links bytes) → IsErr (values_at fuel links bytes)
unfolding values_at
stuck fuel links [] some e = absurd (omega (arith, some))
stuck zero links (b ∷ bs) some e = refl
stuck (suc fuel) links (b ∷ bs) some e = err_bind (value_at links (b ∷ bs)) (λ first. values_at fuel (links - link_count first.0) first.1 >>= λ others. Ok (first.0 ∷ others.0, others.1)) e

step_stuck : (fuel links : ℕ) (bytes : List ℕ) (v : RtValue) (after : List ℕ) → 0 < length bytes → value_at links bytes ≡ Ok (v, after) → ((f : ℕ) → IsErr (values_at f (links - link_count v) after)) → IsErr (values_at fuel links bytes)
unfolding values_at
step_stuck zero links [] v after some read e = absurd (omega (arith, some))
step_stuck zero links (b ∷ bs) v after some read e = refl
step_stuck (suc fuel) links bytes v after some read e =
    is_err (values_at (suc fuel) links bytes) (values_at fuel (links - link_count v) after >>= λ o. Ok (v ∷ o.0, o.1)) (values_next fuel links bytes v after some read) (err_bind (values_at fuel (links - link_count v) after) (λ o. Ok (v ∷ o.0, o.1)) (e fuel))

some_more : (front more : List ℕ) (b : ℕ) → 0 < length (front ++ b ∷ more)
some_more front more b = omega (arith, length-append front (b ∷ more))

broken_value : (links : ℕ) (front tail : List ℕ) → Broken (value_at links) front tail → BrokenResults links front tail
broken_value links front [] broken = tt
broken_value links front (b ∷ bs) broken = λ more fuel. stuck fuel links (front ++ b ∷ more) (some_more front more b) (broken more)

broken_later : (links : ℕ) (v : RtValue) (a front tail : List ℕ) → IsValueText links v a → BrokenResults (links - link_count v) front tail → BrokenResults links (a ++ front) tail
broken_later links v a front [] is broken = tt
broken_later links v a front (b ∷ bs) is broken = λ more fuel.
    let read : value_at links ((a ++ front) ++ b ∷ more) ≡ Ok (v, front ++ b ∷ more) = ap (value_at links) (append_assoc a front (b ∷ more)) ∙ (value_reads links).again v a (front ++ b ∷ more) is in
    step_stuck fuel links ((a ++ front) ++ b ∷ more) v (front ++ b ∷ more) (some_more (a ++ front) more b) read (broken more)

pub no_results : (links : ℕ) → AreResults links [] []
no_results links = record { obey = tt; few = omega arith; is = refl }

abbrev next_value : ℕ → ℕ → RtValue × List ℕ → Result Rest ℕ
next_value fuel links first = values_at fuel (links - link_count first.0) first.1 >>= λ others. Ok (first.0 ∷ others.0, others.1)

step_wrong : (fuel : ℕ) → ((links : ℕ) (bytes : List ℕ) (left : ℕ) → IsBytes bytes → length bytes ≤ fuel → values_at fuel links bytes ≡ Err left → WrongResults links bytes left)
    → (links : ℕ) (bytes : List ℕ) (left : ℕ) → IsBytes bytes → length bytes ≤ suc fuel → (r : Result (RtValue × List ℕ) ℕ) → value_at links bytes ≡ r → (r >>= next_value fuel links) ≡ Err left → WrongResults links bytes left
step_wrong fuel later links bytes left fits le (Ok (v, rest)) read e =
    let f = (value_reads links).found bytes v rest fits read in
    let failed = bind_err v (values_at fuel (links - link_count v) rest) left e in
    let w = later (links - link_count v) rest left f.rest_fits (omega (arith, le, value_less links bytes (v, rest) read)) failed in
    record {
      front = f.text ++ w.front;
      tail = w.tail;
      parts = f.parts ∙ ap (λ (t : List ℕ). f.text ++ t) w.parts ∙ sym (append_assoc f.text w.front w.tail);
      size = w.size;
      value = v ∷ w.value;
      more = w.more;
      goes_on = results_cons links v w.value f.text ((f.text ++ w.front) ++ w.more) (w.front ++ w.more) f.is w.goes_on (append_assoc f.text w.front w.more);
      broken = broken_later links v f.text w.front w.tail f.is w.broken;
    }
step_wrong fuel later links bytes left fits le (Err n) read e =
    let same : n ≡ left = cc in
    let w = (value_reads links).wrong bytes n fits read in
    record {
      front = w.front;
      tail = w.tail;
      parts = w.parts;
      size = w.size ∙ same;
      value = w.value ∷ [];
      more = w.more;
      goes_on = results_cons links w.value [] (w.front ++ w.more) (w.front ++ w.more) [] w.goes_on (no_results (links - link_count w.value)) (sym (append-nil (w.front ++ w.more)));
      broken = broken_value links w.front w.tail w.broken;
    }

pub results_wrong : (fuel links : ℕ) (bytes : List ℕ) (left : ℕ) → IsBytes bytes → length bytes ≤ fuel → values_at fuel links bytes ≡ Err left → WrongResults links bytes left
unfolding values_at
results_wrong fuel links [] left fits le e = absurd cc
results_wrong zero links (b ∷ bs) left fits le e = absurd (omega (arith, le))
results_wrong (suc fuel) links (b ∷ bs) left fits le e = step_wrong fuel (results_wrong fuel) links (b ∷ bs) left fits le (value_at links (b ∷ bs)) refl e
