-- The reader of values of given types is exact.
use Rattle.std.proofs.Common.{◌≡◌, ℕ, true, List, [], ◌∷◌, ◌++◌, refl, sym, ap, subst, ◌∙◌}
use Rattle.std.specs.List.{AllByRecursion}
use Rattle.std.proofs.lemmas.List.Concat.{flat_map-cons}
use Rattle.lynx_tree.specs.declared.declaration.TypeName.{TypeName}
use Rattle.typing_rules.specs.Types.{has_length}
use Rattle.lynx_packets.specs.declared.value.RtValue.{RtValue}
use Rattle.lynx_packets.specs.Spelling.{value_text, values_text, IsValue, HaveTypes}
use Rattle.lynx_packets.specs.Reading.{typed_at, arguments_at}
use Rattle.lynx_packets.proofs.Exact.{Reads, Then, Implies, IsMade, Image, and_then, both, mapped, made, made_reads, image_reads, seen_as}
use Rattle.lynx_packets.proofs.Bodies.{IsTyped, typed_reads, typed_lives}

-- types of which each may be a row's
abbrev pub Lengths : List TypeName → Type 0
Lengths ts = AllByRecursion (λ t. has_length t ≡ true) ts

pub record AreArguments (ts : List TypeName) (vs : List RtValue) (text : List ℕ) : Type 0 where
  pub typed : HaveTypes vs ts
  pub obey : AllByRecursion IsValue vs
  pub is : text ≡ values_text vs

abbrev no_values : List RtValue
no_values = []

none_to : Implies (IsMade no_values) (AreArguments [])
none_to vs text (is, none) = rw (is, none) (record { typed = tt; obey = tt; is = refl })

none_back : Implies (AreArguments []) (IsMade no_values)
none_back [] text is = (refl, is.is)
none_back (v ∷ vs) text is = absurd is.typed

-- the values behind a first one
abbrev Behind : List TypeName → RtValue → List RtValue → List ℕ → Type 0
Behind ts first = Image (λ vs. first ∷ vs) (AreArguments ts)

cons_to : (t : TypeName) (ts : List TypeName) → Implies (Then (IsTyped t) (Behind ts)) (AreArguments (t ∷ ts))
cons_to t ts all text (first, a, b, one, (vs, others, is), parts) =
    let whole : text ≡ values_text (first ∷ vs) = parts ∙ ap (λ (x : List ℕ). x ++ b) one.is ∙ ap (λ (x : List ℕ). value_text first ++ x) others.is ∙ sym (flat_map-cons value_text first vs) in
    subst (λ (x : List RtValue). AreArguments (t ∷ ts) x text) is (record { typed = (one.typed, others.typed); obey = (one.obeys, others.obey); is = whole })

cons_back : (t : TypeName) (ts : List TypeName) → Implies (AreArguments (t ∷ ts)) (Then (IsTyped t) (Behind ts))
cons_back t ts [] text is = absurd is.typed
cons_back t ts (v ∷ vs) text is =
    (v, value_text v, values_text vs, record { typed = is.typed.0; obeys = is.obey.0; is = refl }, (vs, record { typed = is.typed.1; obey = is.obey.1; is = refl }, refl), is.is ∙ flat_map-cons value_text v vs)

pub some_arguments : (ts : List TypeName) → Lengths ts → (vs : List RtValue) × (text : List ℕ) × AreArguments ts vs text
some_arguments [] fits = ([], [], record { typed = tt; obey = tt; is = refl })
some_arguments (t ∷ ts) fits =
    let v = typed_lives t fits.0 in
    let s = some_arguments ts fits.1 in
    (v.0 ∷ s.0, v.1 ++ s.1, cons_to t ts (v.0 ∷ s.0) (v.1 ++ s.1) (v.0, v.1, s.1, v.2, (s.0, s.2, refl), refl))

pub arguments_read : (ts : List TypeName) → Lengths ts → Reads (arguments_at ts) (AreArguments ts)
unfolding arguments_at
arguments_read [] fits = seen_as (λ b. made no_values b) (IsMade no_values) (AreArguments []) (made_reads no_values) none_to none_back
arguments_read (t ∷ ts) fits =
    seen_as (and_then (typed_at t) (λ first bytes. mapped (λ vs. first ∷ vs) (arguments_at ts) bytes)) (Then (IsTyped t) (Behind ts)) (AreArguments (t ∷ ts))
    (both (typed_at t) (λ first bytes. mapped (λ vs. first ∷ vs) (arguments_at ts) bytes) (IsTyped t) (Behind ts) (typed_reads t fits.0)
    (λ first. image_reads (λ vs. first ∷ vs) (arguments_at ts) (AreArguments ts) (arguments_read ts fits.1))
    (λ first a is. let s = some_arguments ts fits.1 in (first ∷ s.0, s.1, (s.0, s.2, refl))))
    (cons_to t ts) (cons_back t ts)
