-- How the machine for the types of a signature runs, whatever its steps are: what it reads it reads again, whatever follows, and where it
-- stops, nothing goes on.
use Rattle.std.proofs.Common.{◌≡◌, ℕ, suc, ◌-◌, Bool, true, false, List, [], ◌∷◌, ◌++◌, length, Option, Some, None, Result, Ok, Err, refl, sym, ap, subst, ◌∙◌}
use Rattle.std.specs.Prelude.{IsErr}
use Rattle.lynx_tree.specs.declared.declaration.TypeName.{TypeName}
use Rattle.lynx_packets.specs.declared.spot.Spot.{Spot}
use Rattle.lynx_packets.specs.declared.spot.Spot.TheVariants as spots
use Rattle.lynx_packets.specs.Reading.{◌>>=◌}
use Rattle.lynx_packets.specs.Spots.{next_spot, onward, type_told, link_told, with_told, listed, is_done, types_at}
use Rattle.lynx_packets.proofs.Sizes.{bind_ok, ok_is, number_is, not_both}
use Rattle.lynx_packets.proofs.Types.{types_done, types_more}
use Rattle.lynx_packets.proofs.Exact.{Wrong, Broken}

-- types, and the bytes behind
abbrev pub Read : Type 0
Read = List TypeName × List ℕ

-- what is read behind a byte
abbrev pub later : ℕ → ℕ → Spot → ℕ → List ℕ → Spot → Result Read ℕ
later links left spot b bs next = types_at (links - link_told (type_told spot b)) (left - 1) next bs

abbrev pub with_types : List TypeName → Read → Read
with_types ts y = (ts ++ y.0, y.1)

-- a run that ends well begins with a step
pub record Step (links left : ℕ) (spot : Spot) (b : ℕ) (bs : List ℕ) (x : Read) : Type 0 where
  pub next : Spot
  pub y : Read
  pub goes : next_spot links left spot b ≡ Some next
  pub runs : later links left spot b bs next ≡ Ok y
  pub value : x ≡ with_types (listed (type_told spot b)) y

with_ok : (o : Option TypeName) (read : Result Read ℕ) (x : Read) → with_told o read ≡ Ok x → (y : Read) × (read ≡ Ok y) × (x ≡ with_types (listed o) y)
with_ok None read x e = (x, e, refl)
with_ok (Some t) read x e = let a = bind_ok read (λ o. Ok (t ∷ o.0, o.1)) x e in (a.0, a.1, sym (ok_is (t ∷ a.0.0, a.0.1) x a.2))

ok_with : (o : Option TypeName) (read : Result Read ℕ) (y : Read) → read ≡ Ok y → with_told o read ≡ Ok (with_types (listed o) y)
ok_with None read y e = e
ok_with (Some t) read y e = ap (λ (r : Result Read ℕ). r >>= λ o. Ok (t ∷ o.0, o.1)) e

step_on : (o : Option Spot) (n : ℕ) (f : Spot → Result Read ℕ) (x : Read) → onward o n f ≡ Ok x → (next : Spot) × (o ≡ Some next) × (f next ≡ Ok x)
step_on None n f x e = absurd cc
step_on (Some next) n f x e = (next, refl, e)

pub step_of : (links left : ℕ) (spot : Spot) (b : ℕ) (bs : List ℕ) (x : Read) → is_done spot ≡ false → types_at links left spot (b ∷ bs) ≡ Ok x → Step links left spot b bs x
step_of links left spot b bs x going e =
    let s = step_on (next_spot links left spot b) (suc (length bs)) (λ next. with_told (type_told spot b) (later links left spot b bs next)) x (sym (types_more links left spot b bs going) ∙ e) in
    let w = with_ok (type_told spot b) (later links left spot b bs s.0) x s.2 in
    record { next = s.0; y = w.0; goes = s.1; runs = w.1; value = w.2 }

pub goes_live : (links left : ℕ) (spot : Spot) (b : ℕ) (next : Spot) → next_spot links left spot b ≡ Some next → is_done spot ≡ false
unfolding next_spot
goes_live links left spots.Done b next e = absurd cc
goes_live links left _ b next e = refl

pub step_to : (links left : ℕ) (spot : Spot) (b : ℕ) (bs : List ℕ) (next : Spot) (y : Read) → next_spot links left spot b ≡ Some next → later links left spot b bs next ≡ Ok y → types_at links left spot (b ∷ bs) ≡ Ok (with_types (listed (type_told spot b)) y)
step_to links left spot b bs next y goes runs =
    types_more links left spot b bs (goes_live links left spot b next goes)
    ∙ ap (λ (o : Option Spot). onward o (suc (length bs)) (λ n. with_told (type_told spot b) (later links left spot b bs n))) goes
    ∙ ok_with (type_told spot b) (later links left spot b bs next) y runs

pub ends_early : {P : Type 0} (links left : ℕ) (spot : Spot) (x : Read) → is_done spot ≡ false → types_at links left spot [] ≡ Ok x → P
unfolding types_at
ends_early links left spots.Done x going e = absurd cc
ends_early links left _ x going e = absurd cc

none_left : (links left : ℕ) (spot : Spot) → is_done spot ≡ false → types_at links left spot [] ≡ Err 0
unfolding types_at
none_left links left spots.Done going = absurd cc
none_left links left _ going = refl

-- ---- texts that the machine reads to their end

abbrev pub Rest : ℕ → ℕ → Spot → List TypeName → List ℕ → Type 0
Rest links left spot ts text = types_at links left spot text ≡ Ok (ts, [])

pub run_found : (bytes : List ℕ) (links left : ℕ) (spot : Spot) (over : Bool) (x : Read) → is_done spot ≡ over → types_at links left spot bytes ≡ Ok x → (text : List ℕ) × (bytes ≡ text ++ x.1) × Rest links left spot x.0 text
run_found bytes links left spot true x is e =
    let same : ([], bytes) ≡ x = ok_is ([], bytes) x (sym (types_done links left spot bytes is) ∙ e) in
    ([], ap (λ (y : Read). y.1) same, types_done links left spot [] is ∙ ap (λ (y : Read). Ok (y.0, [])) same)
run_found [] links left spot false x is e = ends_early links left spot x is e
run_found (b ∷ bs) links left spot false x is e =
    let s = step_of links left spot b bs x is e in
    let f = run_found bs (links - link_told (type_told spot b)) (left - 1) s.next (is_done s.next) s.y refl s.runs in
    (b ∷ f.0, ap (λ (t : List ℕ). b ∷ t) f.1 ∙ ap (λ (y : Read). b ∷ f.0 ++ y.1) (sym s.value), step_to links left spot b f.0 s.next (s.y.0, []) s.goes f.2 ∙ ap (λ (y : Read). Ok (y.0, [])) (sym s.value))

pub run_again : (text : List ℕ) (links left : ℕ) (spot : Spot) (over : Bool) (x : Read) (rest : List ℕ) → is_done spot ≡ over → types_at links left spot text ≡ Ok x → types_at links left spot (text ++ rest) ≡ Ok (x.0, x.1 ++ rest)
run_again text links left spot true x rest is e =
    let same : ([], text) ≡ x = ok_is ([], text) x (sym (types_done links left spot text is) ∙ e) in
    types_done links left spot (text ++ rest) is ∙ ap (λ (y : Read). Ok (y.0, y.1 ++ rest)) same
run_again [] links left spot false x rest is e = ends_early links left spot x is e
run_again (b ∷ bs) links left spot false x rest is e =
    let s = step_of links left spot b bs x is e in
    let more = run_again bs (links - link_told (type_told spot b)) (left - 1) s.next (is_done s.next) s.y rest refl s.runs in
    step_to links left spot b (bs ++ rest) s.next (s.y.0, s.y.1 ++ rest) s.goes more ∙ ap (λ (y : Read). Ok (y.0, y.1 ++ rest)) (sym s.value)

-- ---- where it stops

-- the machine can come to an end from here
pub record Live (links left : ℕ) (spot : Spot) : Type 0 where
  pub text : List ℕ
  pub ts : List TypeName
  pub runs : Rest links left spot ts text

-- a step from where it can come to an end leads to where it can
abbrev pub Keeps : Type 0
Keeps = (links left : ℕ) (spot : Spot) (b : ℕ) (next : Spot) → Live links left spot → next_spot links left spot b ≡ Some next → Live (links - link_told (type_told spot b)) (left - 1) next

err_with : (o : Option TypeName) (read : Result Read ℕ) → IsErr read → IsErr (with_told o read)
err_with None read e = e
err_with (Some t) (Ok x) e = absurd cc
err_with (Some t) (Err n) e = e

with_err : (o : Option TypeName) (read : Result Read ℕ) (n : ℕ) → with_told o read ≡ Err n → read ≡ Err n
with_err None read n e = e
with_err (Some t) (Ok x) n e = absurd cc
with_err (Some t) (Err m) n e = e

step_err : (links left : ℕ) (spot : Spot) (b : ℕ) (bs : List ℕ) (next : Spot) → next_spot links left spot b ≡ Some next → IsErr (later links left spot b bs next) → IsErr (types_at links left spot (b ∷ bs))
step_err links left spot b bs next goes e =
    subst (λ r. IsErr r) (sym (types_more links left spot b bs (goes_live links left spot b next goes) ∙ ap (λ (o : Option Spot). onward o (suc (length bs)) (λ n. with_told (type_told spot b) (later links left spot b bs n))) goes))
    (err_with (type_told spot b) (later links left spot b bs next) e)

stop_err : (links left : ℕ) (spot : Spot) (b : ℕ) (bs : List ℕ) → is_done spot ≡ false → next_spot links left spot b ≡ None → types_at links left spot (b ∷ bs) ≡ Err (suc (length bs))
stop_err links left spot b bs going none =
    types_more links left spot b bs going ∙ ap (λ (o : Option Spot). onward o (suc (length bs)) (λ n. with_told (type_told spot b) (later links left spot b bs n))) none

step_broken : (links left : ℕ) (spot : Spot) (b : ℕ) (next : Spot) (front tail : List ℕ) → next_spot links left spot b ≡ Some next → Broken (types_at (links - link_told (type_told spot b)) (left - 1) next) front tail → Broken (types_at links left spot) (b ∷ front) tail
step_broken links left spot b next front [] goes broken = tt
step_broken links left spot b next front (c ∷ cs) goes broken = λ more. step_err links left spot b (front ++ c ∷ more) next goes (broken more)

abbrev WrongRest : ℕ → ℕ → Spot → List ℕ → ℕ → Type 0
WrongRest links left spot bytes n = Wrong (types_at links left spot) (Rest links left spot) bytes n

wrong_here : (links left : ℕ) (spot : Spot) (b : ℕ) (bs : List ℕ) (n : ℕ) → Live links left spot → is_done spot ≡ false → next_spot links left spot b ≡ None → types_at links left spot (b ∷ bs) ≡ Err n → WrongRest links left spot (b ∷ bs) n
wrong_here links left spot b bs n live going none e =
    record { front = []; tail = b ∷ bs; parts = refl; size = number_is (suc (length bs)) n (types_at links left spot (b ∷ bs)) (stop_err links left spot b bs going none) e; value = live.ts; more = live.text; goes_on = live.runs; broken = λ more. subst (λ r. IsErr r) (sym (stop_err links left spot b more going none)) refl }

wrong_later : (links left : ℕ) (spot : Spot) (b : ℕ) (bs : List ℕ) (n : ℕ) (next : Spot) → next_spot links left spot b ≡ Some next → WrongRest (links - link_told (type_told spot b)) (left - 1) next bs n → WrongRest links left spot (b ∷ bs) n
wrong_later links left spot b bs n next goes w =
    record { front = b ∷ w.front; tail = w.tail; parts = ap (λ (t : List ℕ). b ∷ t) w.parts; size = w.size; value = listed (type_told spot b) ++ w.value; more = w.more; goes_on = step_to links left spot b (w.front ++ w.more) next (w.value, []) goes w.goes_on; broken = step_broken links left spot b next w.front w.tail goes w.broken }

later_err : (links left : ℕ) (spot : Spot) (b : ℕ) (bs : List ℕ) (n : ℕ) (next : Spot) → next_spot links left spot b ≡ Some next → types_at links left spot (b ∷ bs) ≡ Err n → later links left spot b bs next ≡ Err n
later_err links left spot b bs n next goes e =
    with_err (type_told spot b) (later links left spot b bs next) n
    (sym (types_more links left spot b bs (goes_live links left spot b next goes) ∙ ap (λ (o : Option Spot). onward o (suc (length bs)) (λ m. with_told (type_told spot b) (later links left spot b bs m))) goes) ∙ e)

step_wrong : (b : ℕ) (bs : List ℕ) (links left : ℕ) (spot : Spot) (n : ℕ) (o : Option Spot) → next_spot links left spot b ≡ o → is_done spot ≡ false → Live links left spot → types_at links left spot (b ∷ bs) ≡ Err n → ((next : Spot) → next_spot links left spot b ≡ Some next → WrongRest (links - link_told (type_told spot b)) (left - 1) next bs n) → WrongRest links left spot (b ∷ bs) n
step_wrong b bs links left spot n None goes going live e deep = wrong_here links left spot b bs n live going goes e
step_wrong b bs links left spot n (Some next) goes going live e deep = wrong_later links left spot b bs n next goes (deep next goes)

pub run_wrong : Keeps → (bytes : List ℕ) (links left : ℕ) (spot : Spot) (over : Bool) (n : ℕ) → is_done spot ≡ over → Live links left spot → types_at links left spot bytes ≡ Err n → WrongRest links left spot bytes n
run_wrong keeps bytes links left spot true n over live e = not_both ([], bytes) n (types_at links left spot bytes) (types_done links left spot bytes over) e
run_wrong keeps [] links left spot false n over live e = record { front = []; tail = []; parts = refl; size = number_is 0 n (types_at links left spot []) (none_left links left spot over) e; value = live.ts; more = live.text; goes_on = live.runs; broken = tt }
run_wrong keeps (b ∷ bs) links left spot false n over live e =
    step_wrong b bs links left spot n (next_spot links left spot b) refl over live e
    (λ next goes. run_wrong keeps bs (links - link_told (type_told spot b)) (left - 1) next (is_done next) n refl (keeps links left spot b next live goes) (later_err links left spot b bs n next goes e))
