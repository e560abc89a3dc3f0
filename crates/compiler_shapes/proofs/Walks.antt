-- Code with the shapes before its first instruction and behind its last one.
use Rattle.std.proofs.Common.{◌≡◌, ℕ, ◌+◌, List, [], ◌∷◌, ◌++◌, length, Some, refl, sym, subst, length-append, arith}
use Rattle.std.specs.List.{AllByRecursion}
use Rattle.lynx_code.specs.declared.instruction.Instruction.{Instruction}
use Rattle.lynx_code.specs.declared.instruction.Instruction.TheVariants as code
use Rattle.lynx_meaning.specs.Code.{value_of_literal}
use Rattle.lynx_meaning.specs.Values.{HasType}
use Rattle.code_shapes.specs.Shapes.{ModuleTypes, Shape, Shapes, AllObey, IsWithin, Leads, Obeys, literal_type}

-- a literal is in the range of its type
abbrev pub LiteralFits : Instruction → Type 0
LiteralFits (code.Push l) = HasType (literal_type l) (value_of_literal l)
LiteralFits _ = Unit {0}

-- these shapes stand in the table from this address on
abbrev pub Stand : Shapes → ℕ → List Shape → Type 0
Stand shapes at [] = Unit {0}
Stand shapes at (s ∷ ss) = (shapes at ≡ Some s) × Stand shapes (at + 1) ss

-- The code from this address on leads from a shape to another: where the shapes of its instructions stand in a table, with the last shape
-- behind them and with what it needs of other addresses, the code obeys.
pub record Walks (m : ModuleTypes) (Needs : Shapes → Type 0) (at : ℕ) (is : List Instruction) (s x : Shape) : Type 0 where
  pub each : List Shape
  pub long : length each ≡ length is
  pub enters : (shapes : Shapes) → Stand shapes at each → Leads shapes (at + length is) x → Leads shapes at s
  pub obeys : (shapes : Shapes) → Stand shapes at each → Leads shapes (at + length is) x → Needs shapes → AllByRecursion LiteralFits is → AllObey m shapes at is

pub front_stands : (shapes : Shapes) (at : ℕ) (a b : List Shape) → Stand shapes at (a ++ b) → Stand shapes at a
front_stands shapes at [] b h = tt
front_stands shapes at (s ∷ a) b h = (h.0, front_stands shapes (at + 1) a b h.1)

pub back_stands : (shapes : Shapes) (at : ℕ) (a b : List Shape) → Stand shapes at (a ++ b) → Stand shapes (at + length a) b
back_stands shapes at [] b h =
    let same : at ≡ at + 0 = omega arith in
    subst (λ (n : ℕ). Stand shapes n b) same h
back_stands shapes at (s ∷ a) b h =
    let same : at + 1 + length a ≡ at + length (s ∷ a) = omega arith in
    subst (λ (n : ℕ). Stand shapes n b) same (back_stands shapes (at + 1) a b h.1)

pub all_front : {X : Type 0} (P : X → Type 0) (a b : List X) → AllByRecursion P (a ++ b) → AllByRecursion P a
all_front P [] b h = tt
all_front P (x ∷ a) b h = (h.0, all_front P a b h.1)

pub all_back : {X : Type 0} (P : X → Type 0) (a b : List X) → AllByRecursion P (a ++ b) → AllByRecursion P b
all_back P [] b h = h
all_back P (x ∷ a) b h = all_back P a b h.1

pub both_obey : (m : ModuleTypes) (shapes : Shapes) (at : ℕ) (a b : List Instruction) → AllObey m shapes at a → AllObey m shapes (at + length a) b → AllObey m shapes at (a ++ b)
both_obey m shapes at [] b h k =
    let same : at + 0 ≡ at = omega arith in
    subst (λ (n : ℕ). AllObey m shapes n b) same k
both_obey m shapes at (i ∷ a) b h k =
    let same : at + length (i ∷ a) ≡ at + 1 + length a = omega arith in
    (h.0, both_obey m shapes (at + 1) a b h.1 (subst (λ (n : ℕ). AllObey m shapes n b) same k))

pub same_shape : (s : Shape) → IsWithin s s
same_shape s = record { locals = refl; stack = refl; tries = refl; requests = refl; pending = λ h. h }

module _ (m : ModuleTypes) where
  pub nothing : (N : Shapes → Type 0) (at : ℕ) (s : Shape) → Walks m N at [] s s
  nothing N at s =
      let same : at + 0 ≡ at = omega arith in
      record {
        each = [];
        long = refl;
        enters = λ shapes stand leads. subst (λ (n : ℕ). Leads shapes n s) same leads;
        obeys = λ shapes stand leads needs fits. tt;
      }

  pub one : (N : Shapes → Type 0) (at : ℕ) (i : Instruction) (s x : Shape) → ((shapes : Shapes) → Leads shapes (at + 1) x → N shapes → LiteralFits i → Obeys m shapes at s i) → Walks m N at (i ∷ []) s x
  one N at i s x obeys = record {
    each = s ∷ [];
    long = refl;
    enters = λ shapes stand leads. (s, stand.0, same_shape s);
    obeys = λ shapes stand leads needs fits. ((s, stand.0, obeys shapes leads needs fits.0), tt);
  }

  -- the same where more is known
  pub where_more : (N M : Shapes → Type 0) (at : ℕ) (is : List Instruction) (s x : Shape) → ((shapes : Shapes) → M shapes → N shapes) → Walks m N at is s x → Walks m M at is s x
  where_more N M at is s x less w =
      record { each = w.each; long = w.long; enters = w.enters; obeys = λ shapes stand leads needs fits. w.obeys shapes stand leads (less shapes needs) fits }

  -- the same at an address that is told otherwise
  pub moved : (N : Shapes → Type 0) (at to : ℕ) (is : List Instruction) (s x : Shape) → at ≡ to → Walks m N at is s x → Walks m N to is s x
  moved N at to is s x same w = subst (λ (n : ℕ). Walks m N n is s x) same w

  -- one code behind another, of which the first needs what stands in the second
  pub followed_by : (N Q : Shapes → Type 0) (at middle : ℕ) (a b : List Instruction) (s y x : Shape) → at + length a ≡ middle → Walks m (λ shapes. N shapes × Q shapes) at a s y →
      (second : Walks m N middle b y x) → ((shapes : Shapes) → Stand shapes middle second.each → Leads shapes (middle + length b) x → Q shapes) → Walks m N at (a ++ b) s x
  followed_by N Q at middle a b s y x here first second gives =
      let size : at + length first.each ≡ middle = omega (arith, first.long, here) in
      let end : at + length (a ++ b) ≡ middle + length b = omega (arith, length-append a b, here) in
      let long : length (first.each ++ second.each) ≡ length (a ++ b) = omega (arith, length-append first.each second.each, length-append a b, first.long, second.long) in
      let behind = λ (shapes : Shapes) (stand : Stand shapes at (first.each ++ second.each)). subst (λ (n : ℕ). Stand shapes n second.each) size (back_stands shapes at first.each second.each stand) in
      let last = λ (shapes : Shapes) (leads : Leads shapes (at + length (a ++ b)) x). subst (λ (n : ℕ). Leads shapes n x) end leads in
      let between = λ (shapes : Shapes) (stand : Stand shapes at (first.each ++ second.each)) (leads : Leads shapes (at + length (a ++ b)) x).
      subst (λ (n : ℕ). Leads shapes n y) (sym here) (second.enters shapes (behind shapes stand) (last shapes leads)) in
      record {
        each = first.each ++ second.each;
        long = long;
        enters = λ shapes stand leads. first.enters shapes (front_stands shapes at first.each second.each stand) (between shapes stand leads);
        obeys = λ shapes stand leads needs fits.
            both_obey m shapes at a b
            (first.obeys shapes (front_stands shapes at first.each second.each stand) (between shapes stand leads) (needs, gives shapes (behind shapes stand) (last shapes leads)) (all_front LiteralFits a b fits))
            (subst (λ (n : ℕ). AllObey m shapes n b) (sym here) (second.obeys shapes (behind shapes stand) (last shapes leads) needs (all_back LiteralFits a b fits)));
      }

  pub followed : (N : Shapes → Type 0) (at middle : ℕ) (a b : List Instruction) (s y x : Shape) → at + length a ≡ middle → Walks m N at a s y → Walks m N middle b y x → Walks m N at (a ++ b) s x
  followed N at middle a b s y x here first second =
      followed_by N (λ shapes. Unit {0}) at middle a b s y x here (where_more N (λ shapes. N shapes × Unit {0}) at a s y (λ shapes needs. needs.0) first) second (λ shapes stand leads. tt)

  -- where code behind other code stands, its shape is that at its address
  enters_past : (N : Shapes → Type 0) (at middle : ℕ) (a b : List Instruction) (s y x : Shape) (here : at + length a ≡ middle) (first : Walks m N at a s y) (second : Walks m N middle b y x) (shapes : Shapes) →
      Stand shapes at (followed N at middle a b s y x here first second).each → Leads shapes (at + length (a ++ b)) x → Leads shapes middle y
  unfolding followed followed_by where_more
  enters_past N at middle a b s y x here first second shapes stand leads =
      let size : at + length first.each ≡ middle = omega (arith, first.long, here) in
      let end : at + length (a ++ b) ≡ middle + length b = omega (arith, length-append a b, here) in
      second.enters shapes (subst (λ (n : ℕ). Stand shapes n second.each) size (back_stands shapes at first.each second.each stand)) (subst (λ (n : ℕ). Leads shapes n x) end leads)

  -- code that jumps past what is behind it, to the last of three
  pub followed_past : (N : Shapes → Type 0) (at middle next : ℕ) (a i b : List Instruction) (s y z x : Shape) → at + length a ≡ middle → middle + length i ≡ next →
      Walks m (λ shapes. N shapes × Leads shapes next z) at a s y → Walks m N middle i y z → Walks m N next b z x → Walks m N at (a ++ (i ++ b)) s x
  followed_past N at middle next a i b s y z x here there first between last =
      followed_by N (λ shapes. Leads shapes next z) at middle a (i ++ b) s y x here first (followed N middle next i b y z x there between last)
      (λ shapes stand leads. enters_past N middle next i b y z x there between last shapes stand leads)

  -- code that goes back to its first instruction, or to what is behind its last one
  pub around : (N : Shapes → Type 0) (at : ℕ) (is : List Instruction) (s x : Shape) → Walks m (λ shapes. N shapes × Leads shapes at s × Leads shapes (at + length is) x) at is s x → Walks m N at is s x
  around N at is s x w = record {
    each = w.each;
    long = w.long;
    enters = w.enters;
    obeys = λ shapes stand leads needs fits. w.obeys shapes stand leads (needs, w.enters shapes stand leads, leads) fits;
  }
