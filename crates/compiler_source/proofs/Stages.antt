-- The stage behind those of a check.
use Rattle.std.proofs.Common.{◌≡◌, ℕ, ◌<◌, ◌≤◌, List, length, arith, inl, inr, Result, Ok, Err, refl, sym, ◌∙◌}
use Rattle.std.specs.Prelude.{◌≢◌}
use Rattle.lynx_code.specs.Modules.{module_code}
use Rattle.lynx_source.proofs.Readings.{one_then, one_checking}
use Rattle.lynx_source.specs.Sources.{Checks, IsCheckedAs}
use Rattle.lynx_source.specs.Stages.{HasOne}
use Rattle.lynx_source.specs.declared.fault.SourceFault.{SourceFault}
use Rattle.lynx_source.specs.declared.fault.SourceFault.TheVariants.{NoMemory}
use Rattle.compiler_emission.specs.declared.fault.CompileFault.{CompileFault}
use Rattle.compiler_emission.specs.declared.fault.CompileFault.TheVariants as compile
use Rattle.lynx_tree.specs.Trees.{ModuleTree}
use Rattle.compiler_source.specs.Compiled.{IsMeasuredAs, Compiles, IsCompiledAs, source_fault}

-- ---- what a source is compiled as, by what it is checked as

-- a fault of a check is the fault of both
pub fault_stays : (source : List ℕ) (fault : SourceFault) → IsCheckedAs source (Err fault) → IsCompiledAs source (Err fault)
fault_stays source fault (inl h) = inl (inr (fault, h, refl))
fault_stays source fault (inr h) = inr h

no_tree : (m : ModuleTree) (x : Result ModuleTree SourceFault) → x ≡ Ok m → x ≡ Err NoMemory → ⊥
no_tree m x is none = cc

-- a tree that was checked, and whose code is not too long
pub short_stays : (source : List ℕ) (m : ModuleTree) → IsCheckedAs source (Ok m) → length (module_code m) ≤ 65535 → IsCompiledAs source (Ok m)
short_stays source m (inl h) fits = inl (inl (m, h, inl (fits, refl)))
short_stays source m (inr h) fits = absurd (no_tree m (Ok m) refl h)

-- one that has no code
pub fault_behind : (source : List ℕ) (m : ModuleTree) (fault : CompileFault) → IsCheckedAs source (Ok m) → (fault ≡ compile.CodeTooLong → 65535 < length (module_code m)) → IsCompiledAs source (Err (source_fault fault))
fault_behind source m compile.CodeTooLong (inl h) long = inl (inl (m, h, inr (long refl, refl)))
fault_behind source m compile.CodeTooLong (inr h) long = absurd (no_tree m (Ok m) refl h)
fault_behind source m compile.NoMemory h long = inr refl

-- ---- one outcome

one_measuring : (m : ModuleTree) → HasOne (IsMeasuredAs m)
one_measuring m x y (inl h) (inl g) = h.1 ∙ sym g.1
one_measuring m x y (inl h) (inr g) = absurd (omega (arith, h.0, g.0))
one_measuring m x y (inr h) (inl g) = absurd (omega (arith, h.0, g.0))
one_measuring m x y (inr h) (inr g) = h.1 ∙ sym g.1

pub one_compilation : (source : List ℕ) (a b : Result ModuleTree SourceFault) → IsCompiledAs source a → a ≢ Err NoMemory → IsCompiledAs source b → b ≢ Err NoMemory → a ≡ b
one_compilation source a b (inl h) _ (inl g) _ = one_then (Checks source) IsMeasuredAs (one_checking source) one_measuring a b h g
one_compilation source a b (inr h) some g _ = absurd (some h)
one_compilation source a b (inl h) _ (inr g) some = absurd (some g)
