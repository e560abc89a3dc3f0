-- What lies at the pointers that C gives, and what a call leaves there.
use Rattle.std.specs.Prelude.{◌≡◌, ℕ, ℤ, ◌<◌, ◌^◌, List, pos}
use base.Fraction.{full_share}
use base.Fml.{Share, Fml, ftrue, fsep, fex}
use denote.Array.{Array}
use denote.Builtin.{u8}
use denote.RawPtr.{Ptr, RawPtr, null_ptr, block_ptr, lies_at}
use denote.RawPtr as pointer
use Rattle.std.specs.Box.Ownership.{box_owns}
use Rattle.std.specs.contracts.impls.GlobalAllocator.TheImpl.{ghosts}
use Rattle.std.specs.declared.alloc.Global.{Global}
use Rattle.lynx_service_c.specs.Holder.{IsHolder, IsNobody}
use Rattle.lynx_service_c.specs.Service.{IsFresh, IsLength, IsTold, IsWhy}
use Rattle.lynx_service_c.specs.declared.holder.Holder.{Holder}
use Rattle.lynx_service_c.specs.contracts.holder.Holder.{the_row as Held}
use Rattle.history_checker.specs.declared.checker.Checker.{Checker}
use Rattle.history_checker.specs.contracts.checker.Checker.{the_row}

-- a fact
abbrev pub known : Type 0 → Fml
known A = fex A (λ _. ftrue)

-- what a service pointer stands for: a checker in a block of its own, and the right to free it; nothing at null
abbrev pub service_at : Global → Ptr → Checker → Fml
service_at a null_ptr c = ftrue
service_at a (block_ptr b o) c = box_owns (ghosts.dealloc_token a) the_row (block_ptr b o) c

-- so many bytes at a pointer, below 2 ^ 63 in their block; nothing at null
abbrev pub bytes_at : Share → Ptr → ℕ → List ℕ → Fml
bytes_at q null_ptr n xs = ftrue
bytes_at q (block_ptr b o) n xs = fsep (known ((o < 2 ^ 63) × (n < 2 ^ 63))) (lies_at (Array u8 n) q (block_ptr b o) xs)

-- the same, where they may be written
abbrev pub room_at : Ptr → ℕ → List ℕ → Fml
room_at p n xs = bytes_at full_share p n xs

-- room for a pointer; nothing at null
abbrev pub out_at : Ptr → Fml
out_at null_ptr = ftrue
out_at (block_ptr b o) = fsep (known (o < 2 ^ 63)) (pointer.room_at RawPtr (block_ptr b o))

-- room for a holder; nothing at null
abbrev pub holder_at : Ptr → Fml
holder_at null_ptr = ftrue
holder_at (block_ptr b o) = fsep (known (o < 2 ^ 63)) (pointer.room_at Held (block_ptr b o))

-- what is made, by its pointer: a service that was told nothing, or nothing where memory is out
abbrev pub made_of : Global → Ptr → ℤ → Fml
made_of a null_ptr r = known (r ≡ pos 7)
made_of a (block_ptr b o) r = fex Checker (λ c. fsep (known ((r ≡ pos 0) × IsFresh c)) (service_at a (block_ptr b o) c))

-- the pointer of what is made lies there; at null nothing was done
abbrev pub made_at : Global → Ptr → ℤ → Fml
made_at a null_ptr r = known (r ≡ pos 1)
made_at a (block_ptr b o) r = fex Ptr (λ p. fsep (lies_at RawPtr full_share (block_ptr b o) p) (made_of a p r))

-- the status of a line and the checker after it: a null pointer changes nothing
abbrev pub IsLine : Ptr → Ptr → Checker → List ℕ → Checker → ℤ → Type 0
IsLine null_ptr l old xs new r = (r ≡ pos 1) × (new ≡ old)
IsLine (block_ptr b o) null_ptr old xs new r = (r ≡ pos 1) × (new ≡ old)
IsLine (block_ptr b o) (block_ptr b' o') old xs new r = IsTold old xs new r

-- the service after a line, and its bytes as they were
abbrev pub left_by_line : Global → Ptr → Ptr → ℕ → Checker → Share → List ℕ → ℤ → Fml
left_by_line a p l n old q xs r = fex Checker (λ new. fsep (known (IsLine p l old xs new r)) (fsep (service_at a p new) (bytes_at q l n xs)))

-- who holds an end, unless a pointer is null
abbrev pub IsPlace : Ptr → Ptr → Checker → List ℕ → Holder → ℤ → Type 0
IsPlace null_ptr l c xs h r = IsNobody h r
IsPlace (block_ptr b o) null_ptr c xs h r = IsNobody h r
IsPlace (block_ptr b o) (block_ptr b' o') c xs h r = IsHolder c xs h r

-- who holds the end lies there; at null nothing was done
abbrev pub told_at : Ptr → Ptr → Ptr → Checker → List ℕ → ℤ → Fml
told_at null_ptr p l c xs r = known (r ≡ pos 1)
told_at (block_ptr b o) p l c xs r = fex Holder (λ h. fsep (known (IsPlace p l c xs h r)) (lies_at Held full_share (block_ptr b o) h))

-- who holds the end, and the service and the name as they were
abbrev pub left_by_place : Global → Ptr → Ptr → ℕ → Ptr → Checker → Share → List ℕ → ℤ → Fml
left_by_place a p l n t c q xs r = fsep (told_at t p l c xs r) (fsep (service_at a p c) (bytes_at q l n xs))

-- the length of the words, and the room with as much of them as it takes
abbrev pub IsWords : Ptr → Ptr → Checker → List ℕ → List ℕ → ℕ → Type 0
IsWords null_ptr room c old new r = (r ≡ 0) × (new ≡ old)
IsWords (block_ptr b o) null_ptr c old new r = IsLength c r × (new ≡ old)
IsWords (block_ptr b o) (block_ptr b' o') c old new r = IsWhy c old new r

-- the service as it was, and the room
abbrev pub left_by_why : Global → Ptr → Ptr → ℕ → Checker → List ℕ → ℕ → Fml
left_by_why a p room n c old r = fex (List ℕ) (λ new. fsep (known (IsWords p room c old new r)) (fsep (service_at a p c) (room_at room n new)))
