-- What a pointer of a service and its memory show.
use Rattle.std.proofs.GlobalToken.{dealloc_token-Testable}
use base.Logic.{guard, guard_i, id⊢, emp, mono_r, snd∗, via}
use contract.Monad.{fact_use}
use mir.Raw.{raw as bare}
use mir.Syntax.{Ty}
use types.SemTy.{cells}
use Rattle.lynx_service_c.proofs.Steps.{ℕ, ◌+◌, List, [], ◌∷◌, u8, mem, bytes, Ura, ent, Val, Logic, sem, lone, block_ptr, Testable, Global, Checker, Row, ghosts, part_at, full_share}
use Rattle.lynx_service_c.specs.Memory.{service_at}
use Rattle.std.proofs.alloc.Global.TheLaws as heap_laws

-- how an allocator lies in a local
abbrev pub word : Global → Val
word a = heap_laws.lowers.lowered a

abbrev τ : Ty
τ = bare (lone Row.mir)

module _ {M : Type 1} {𝓤 : Ura M} (𝓛 : Logic 𝓤) where
  pub tested : (a : Global) (b o : ℕ) (c : Checker) → ent 𝓤 (sem 𝓛 (service_at a (block_ptr b o) c)) (guard 𝓤 (Testable (block_ptr b o)) (sem 𝓛 (service_at a (block_ptr b o) c)))
  tested a b o c =
      fact_use 𝓤 (Testable (block_ptr b o)) (via 𝓤 _ (snd∗ 𝓤 (sem 𝓛 (part_at Row full_share c b o)) (sem 𝓛 (ghosts.dealloc_token a τ (block_ptr b o)))) (dealloc_token-Testable 𝓛 a τ (block_ptr b o)))
      (guard_i 𝓤 (Testable (block_ptr b o)) (sem 𝓛 (service_at a (block_ptr b o) c)))

  -- bytes that are owned whole are the cells of a slice
  pub cells_in : (xs : List ℕ) (b o : ℕ) → ent 𝓤 (sem 𝓛 (bytes full_share xs b o)) (sem 𝓛 (cells (mem u8) xs b o))
  cells_in [] b o = id⊢ 𝓤 (emp 𝓤)
  cells_in (x ∷ xs) b o = mono_r 𝓤 (sem 𝓛 (part_at u8 full_share x b o)) (cells_in xs b (o + 1))

  pub cells_out : (xs : List ℕ) (b o : ℕ) → ent 𝓤 (sem 𝓛 (cells (mem u8) xs b o)) (sem 𝓛 (bytes full_share xs b o))
  cells_out [] b o = id⊢ 𝓤 (emp 𝓤)
  cells_out (x ∷ xs) b o = mono_r 𝓤 (sem 𝓛 (part_at u8 full_share x b o)) (cells_out xs b (o + 1))
