-- What the machine reads behind a name's bracket is what stands there in a signature: it reads each one that has the size.
use Rattle.std.proofs.Common.{◌≡◌, ℕ, suc, ◌-◌, ◌+◌, ◌≤◌, Bool, true, false, List, [], ◌∷◌, ◌++◌, length, Some, Ok, refl, sym, ap, ◌∙◌, arith, inl, inr, append_assoc, pos, negsuc}
use Rattle.std.specs.Prelude.{◌⊎◌, nat_le}
use Rattle.std.proofs.lemmas.Bool.{and_parts, leb-true, cases_lt}
use Rattle.std.proofs.lemmas.List.{length-append}
use Rattle.lynx_tree.specs.declared.declaration.TypeName.{TypeName}
use Rattle.lynx_tree.specs.declared.declaration.TypeName.TheVariants as types
use Rattle.typing_rules.specs.Types.{has_length}
use Rattle.typing_rules.specs.Signatures.{type_text, more_types_text, types_text}
use Rattle.lynx_packets.specs.declared.spot.Part.{Part}
use Rattle.lynx_packets.specs.declared.spot.Part.TheVariants.{Arguments, Results}
use Rattle.lynx_packets.specs.declared.spot.Spot.TheVariants as spots
use Rattle.lynx_packets.specs.Spots.{closes, goes_on, ends, closed, next_spot, type_told, link_told, listed, types_at}
use Rattle.lynx_packets.proofs.Sizes.{or_left, or_right}
use Rattle.lynx_packets.proofs.Types.{types_done}
use Rattle.lynx_packets.proofs.Runs.{Rest}
use Rattle.lynx_packets.proofs.Items.{in_part, start, MayStand, quiet, item_runs, one_digit, two_digits}
use Rattle.lynx_packets.proofs.Lives.{opens_with}
use Rattle.lynx_packets.proofs.Arguments.{Lengths}

-- what stands behind the types of a part: of the arguments, also the results
abbrev pub behind_close : Part → List TypeName → List ℕ
behind_close Arguments rs = 58 ∷ 40 ∷ (types_text rs ++ 41 ∷ [])
behind_close Results rs = []

abbrev pub close_text : Part → List TypeName → List ℕ
close_text part rs = 41 ∷ behind_close part rs

abbrev pub told_of : Part → List TypeName → List TypeName
told_of Arguments ts = ts
told_of Results ts = []

-- each link among the arguments may stand
abbrev pub Few : ℕ → Part → List TypeName → Type 0
Few links part [] = Unit {0}
Few links part (t ∷ ts) = MayStand links part t × Few (links - link_told (in_part part (Some t))) part ts

-- ---- lengths

pub type_size : (t : TypeName) → has_length t ≡ true → (3 ≤ length (type_text t)) × (length (type_text t) ≤ 5)
type_size types.Int has = (omega arith, omega arith)
type_size types.Bool has = (omega arith, omega arith)
type_size types.Text has = (omega arith, omega arith)
type_size types.Link has = (omega arith, omega arith)
type_size (types.Row (pos n)) has =
    let p = and_parts (nat_le 1 n) (nat_le n 16) has in
    elim (cases_lt n 10) [
      | inl short ↦ let size = ap (λ (ds : List ℕ). length (114 ∷ 111 ∷ 119 ∷ ds)) (one_digit n (omega (arith, short))) in (omega (arith, size), omega (arith, size))
      | inr long ↦ let size = ap (λ (ds : List ℕ). length (114 ∷ 111 ∷ 119 ∷ ds)) (two_digits n long (leb-true n 16 p.1)) in (omega (arith, size), omega (arith, size))
    ]
type_size (types.Row (negsuc n)) has = absurd cc

-- how long types joined by commas can be
abbrev pub IsSize : ℕ → Type 0
IsSize n = (n ≡ 0) ⊎ ((3 ≤ n) × (n ≤ 5)) ⊎ (7 ≤ n)

more_size : (ts : List TypeName) → Lengths ts → (length (more_types_text ts) ≡ 0) ⊎ (4 ≤ length (more_types_text ts))
more_size [] fits = inl refl
more_size (t ∷ ts) fits =
    let size = length-append (44 ∷ type_text t) (more_types_text ts) in
    inr (omega (arith, size, (type_size t fits.0).0))

pub types_size : (ts : List TypeName) → Lengths ts → IsSize (length (types_text ts))
types_size [] fits = inl refl
types_size (t ∷ ts) fits =
    let one = type_size t fits.0 in
    let size = length-append (type_text t) (more_types_text ts) in
    elim (more_size ts fits.1) [
      | inl none ↦ inr (inl (omega (arith, size, none, one.0), omega (arith, size, none, one.1)))
      | inr some ↦ inr (inr (omega (arith, size, some, one.0)))
    ]

-- ---- the tests hold where the text has the size

arguments_close : (n : ℕ) → IsSize n → closes Arguments (4 + n) ≡ true
arguments_close n (inl e) = grind (arith, e)
arguments_close n (inr (inl p)) = grind (arith, p.0, p.1)
arguments_close n (inr (inr e)) = grind (arith, e)

pub close_fits : (part : Part) (rs : List TypeName) → Lengths rs → closes part (length (close_text part rs)) ≡ true
close_fits Arguments rs fits =
    let size : length (close_text Arguments rs) ≡ 4 + length (types_text rs) = omega (arith, length-append (types_text rs) (41 ∷ [])) in
    rw size (arguments_close (length (types_text rs)) (types_size rs fits))
close_fits Results rs fits = refl

results_go : (n : ℕ) → IsSize n → 3 ≤ n → goes_on Results (2 + n) ≡ true
results_go n (inl e) some = absurd (omega (arith, e, some))
results_go n (inr (inl p)) some = grind (arith, p.0, p.1)
results_go n (inr (inr e)) some = grind (arith, e)

some_types : (t : TypeName) (ts : List TypeName) → Lengths (t ∷ ts) → 3 ≤ length (types_text (t ∷ ts))
some_types t ts fits = omega (arith, length-append (type_text t) (more_types_text ts), (type_size t fits.0).0)

-- a part that goes on behind a type
abbrev pub ends_text : Part → List TypeName → List TypeName → List ℕ
ends_text part ts rs = more_types_text ts ++ close_text part rs

pub go_fits : (part : Part) (t : TypeName) (ts rs : List TypeName) → Lengths (t ∷ ts) → goes_on part (suc (length (types_text (t ∷ ts) ++ close_text part rs))) ≡ true
go_fits Arguments t ts rs fits =
    let some = some_types t ts fits in
    let size = length-append (types_text (t ∷ ts)) (close_text Arguments rs) in
    let close : 4 ≤ length (close_text Arguments rs) = omega (arith, length-append (types_text rs) (41 ∷ [])) in
    let long : 8 ≤ suc (length (types_text (t ∷ ts) ++ close_text Arguments rs)) = omega (arith, size, some, close) in
    grind (arith, long)
go_fits Results t ts rs fits =
    let size : suc (length (types_text (t ∷ ts) ++ 41 ∷ [])) ≡ 2 + length (types_text (t ∷ ts)) = omega (arith, length-append (types_text (t ∷ ts)) (41 ∷ [])) in
    rw size (results_go (length (types_text (t ∷ ts))) (types_size (t ∷ ts) fits) (some_types t ts fits))

pub ends_fit : (part : Part) (ts rs : List TypeName) → Lengths ts → Lengths rs → ends part (length (ends_text part ts rs)) ≡ true
ends_fit part [] rs ts_fit rs_fit = or_left (closes part (length (close_text part rs))) (goes_on part (length (close_text part rs))) (close_fits part rs rs_fit)
ends_fit part (t ∷ ts) rs ts_fit rs_fit =
    let n = suc (length (types_text (t ∷ ts) ++ close_text part rs)) in
    or_right (closes part n) (goes_on part n) (go_fits part t ts rs ts_fit)

-- ---- the machine reads it

abbrev Closing : Part → List TypeName → Type 0
Closing part rs = (links : ℕ) → types_at links (length (behind_close part rs)) (closed part) (behind_close part rs) ≡ Ok ([], [])

close_runs : (part : Part) (rs : List TypeName) → Lengths rs → Closing part rs → (links : ℕ) → types_at links (length (close_text part rs)) (spots.Ended part) (close_text part rs) ≡ Ok ([], [])
unfolding next_spot type_told
close_runs part rs fits close links =
    quiet links (length (behind_close part rs)) (spots.Ended part) 41 (behind_close part rs) (closed part) ([], []) (rw (close_fits part rs fits) refl) refl (close links)

pub join_told : (part : Part) (t : TypeName) (ts : List TypeName) → listed (in_part part (Some t)) ++ told_of part ts ≡ told_of part (t ∷ ts)
join_told Arguments t ts = refl
join_told Results t ts = refl

pub nothing_told : (part : Part) → [] ≡ told_of part []
nothing_told Arguments = refl
nothing_told Results = refl

-- types behind the first
abbrev EndsRun : Part → List TypeName → List TypeName → Type 0
EndsRun part rs ts = (links : ℕ) → Few links part ts → types_at links (length (ends_text part ts rs)) (spots.Ended part) (ends_text part ts rs) ≡ Ok (told_of part ts, [])

first_runs : (opened : Bool) (part : Part) (t : TypeName) (ts rs : List TypeName) → Lengths (t ∷ ts) → Lengths rs → EndsRun part rs ts → (links : ℕ) → Few links part (t ∷ ts)
    → types_at links (length (types_text (t ∷ ts) ++ close_text part rs)) (start opened part) (types_text (t ∷ ts) ++ close_text part rs) ≡ Ok (told_of part (t ∷ ts), [])
first_runs opened part t ts rs fits rs_fit others links few =
    let fewer = links - link_told (in_part part (Some t)) in
    let m = length (ends_text part ts rs) in
    let on = others fewer few.1 in
    let o = opens_with fewer m part (ends_text part ts rs) (told_of part ts, []) on in
    let runs = ap (λ (x : List ℕ). types_at fewer m (spots.Ended part) x) (sym o.parts) ∙ on in
    let text : types_text (t ∷ ts) ++ close_text part rs ≡ type_text t ++ ends_text part ts rs = append_assoc (type_text t) (more_types_text ts) (close_text part rs) in
    let size : length (types_text (t ∷ ts) ++ close_text part rs) ≡ length (type_text t) + m = ap (λ (x : List ℕ). length x) text ∙ length-append (type_text t) (ends_text part ts rs) in
    ap (λ (x : List ℕ). types_at links (length (types_text (t ∷ ts) ++ close_text part rs)) (start opened part) x) (text ∙ ap (λ (x : List ℕ). type_text t ++ x) o.parts)
    ∙ item_runs opened part t fits.0 links (length (types_text (t ∷ ts) ++ close_text part rs)) m o.e o.bs (told_of part ts, []) few.0 size (ends_fit part ts rs fits.1 rs_fit) o.mark runs
    ∙ ap (λ (us : List TypeName). Ok (us, [])) (join_told part t ts)

ends_run : (part : Part) (rs : List TypeName) → Lengths rs → Closing part rs → (ts : List TypeName) → Lengths ts → EndsRun part rs ts
unfolding next_spot type_told
ends_run part rs rs_fit close [] fits links few = close_runs part rs rs_fit close links ∙ ap (λ (us : List TypeName). Ok (us, [])) (nothing_told part)
ends_run part rs rs_fit close (t ∷ ts) fits links few =
    let on = first_runs false part t ts rs fits rs_fit (ends_run part rs rs_fit close ts fits.1) links few in
    quiet links (length (types_text (t ∷ ts) ++ close_text part rs)) (spots.Ended part) 44 (types_text (t ∷ ts) ++ close_text part rs) (spots.Comma part) (told_of part (t ∷ ts), []) (rw (go_fits part t ts rs fits) refl) refl on

opened_closes : (part : Part) (rs : List TypeName) → Lengths rs → Closing part rs → (links : ℕ) → types_at links (length (close_text part rs)) (spots.Opened part) (close_text part rs) ≡ Ok ([], [])
unfolding next_spot type_told
opened_closes part rs fits close links =
    quiet links (length (behind_close part rs)) (spots.Opened part) 41 (behind_close part rs) (closed part) ([], []) (rw (close_fits part rs fits) refl) refl (close links)

opened_runs : (part : Part) (rs : List TypeName) → Lengths rs → Closing part rs → (ts : List TypeName) → Lengths ts → (links : ℕ) → Few links part ts
    → types_at links (length (types_text ts ++ close_text part rs)) (spots.Opened part) (types_text ts ++ close_text part rs) ≡ Ok (told_of part ts, [])
opened_runs part rs rs_fit close [] fits links few = opened_closes part rs rs_fit close links ∙ ap (λ (us : List TypeName). Ok (us, [])) (nothing_told part)
opened_runs part rs rs_fit close (t ∷ ts) fits links few = first_runs true part t ts rs fits rs_fit (ends_run part rs rs_fit close ts fits.1) links few

results_close : (rs : List TypeName) → Closing Results rs
results_close rs links = types_done links 0 spots.Done [] refl

any_few : (links : ℕ) (ts : List TypeName) → Few links Results ts
any_few links [] = tt
any_few links (types.Int ∷ ts) = (tt, any_few (links - 0) ts)
any_few links (types.Bool ∷ ts) = (tt, any_few (links - 0) ts)
any_few links (types.Text ∷ ts) = (tt, any_few (links - 0) ts)
any_few links (types.Link ∷ ts) = (refl, any_few (links - 0) ts)
any_few links (types.Row n ∷ ts) = (tt, any_few (links - 0) ts)

arguments_close_runs : (rs : List TypeName) → Lengths rs → Closing Arguments rs
unfolding next_spot type_told
arguments_close_runs rs fits links =
    let text = types_text rs ++ 41 ∷ [] in
    let on = opened_runs Results [] tt (results_close []) rs fits links (any_few links rs) in
    quiet links (suc (length text)) spots.Colon 58 (40 ∷ text) spots.Open ([], []) refl refl
    (quiet links (length text) spots.Open 40 text (spots.Opened Results) ([], []) refl refl on)

-- what stands behind the name's bracket is read to its end, and its arguments are told
pub signature_runs : (ts rs : List TypeName) → Lengths ts → Lengths rs → (links : ℕ) → Few links Arguments ts
    → Rest links (length (types_text ts ++ close_text Arguments rs)) (spots.Opened Arguments) ts (types_text ts ++ close_text Arguments rs)
signature_runs ts rs fits rs_fit links few = opened_runs Arguments rs rs_fit (arguments_close_runs rs rs_fit) ts fits links few
