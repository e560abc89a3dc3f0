-- What the walks cite.
pub use Rattle.std.proofs.Common.{◌≡◌, ◌∙◌, ℕ, ℤ, ◌+◌, ◌<◌, ◌^◌, ◌*◌, List, [], ◌∷◌, ◌++◌, length, refl, sym, ap, subst, arith, lit<, pos, w8, w32, w64, Bor, MutBor}
pub use Rattle.std.proofs.raw_atomic.Walks.{proved, leaves}
pub use seplogic.Ra.Ura.{Ura}
pub use base.Fraction.{full_share}
pub use base.Logic.{SProp, ent, sep, id⊢}
pub use base.Fml.{Share, Fml, ftrue, fsep, fex, feq, flft, flent, fdead, fres, Incl-refl}
pub use mir.Syntax.{named}
pub use mir.Val.{Val, vint, vptr, vnull, vunit}
pub use prog.Memory.{Memory}
pub use prog.Routine.{Routine}
pub use prog.Wp.{Calls, Loops, WpFn}
pub use types.Logic.{Logic, sem}
pub use contract.Monad.{Fun, fact}
pub use contract.Running.{tables}
pub use sound.WpLaws.{FmC}
pub use types.Kit.{‵, raw, ◌⊛◌, some, later, given, at_ret, ◌$◌, ◌∵◌, !, qed, by, done, move, keep, drop, use0, use1, use2, use3, split, split3, join, fsplit, fsplit3, fjoin, fpick, fpack, feq_i, feq_l, pick, await, learn, suffices, frame, rewrite}
pub use types.Tokens.{lft_new, lft_end, lent_back}
pub use types.Run.{enter, of_opd, lit, unit_lit, bin, addr, stop, no_more, and_then, first, blocks, branches, skips, exec, returns, returns_within}
pub use types.Part.{agg}
pub use types.ByLocal.{alloc_all, pass_all, free_all, look_at, get, through, sets, sets_last, lands_as, lands_last, env}
pub use types.SemTy.{Body}
pub use denote.Builtin.{u8, i32, usize, unit}
pub use denote.Exit.{yes, no}
pub use denote.Laws.{Is, shows}
pub use denote.Memory.{part_at, mem, lone}
pub use denote.Plain.{uint_vals, uint_Tells, uint_Lawful, uint_Makes}
pub use denote.Signed.{sint_Lawful, sint_Makes}
pub use denote.Slice.{ShrSlice, slice_val}
pub use denote.Array.{Array}
pub use denote.Lend.{lends_ref, ref_back, lends_shr, lends_shr_slice, lends_slice, slice_back}
pub use denote.Copied.{uint_Copied}
pub use denote.Ref.{MutRef, ShrRef}
pub use denote.RawPtr.{Ptr, RawPtr, block_ptr, null_ptr, ptr_val, lies_at, Testable, tests_null, rawptr_vals, rawptr_Tells, rawptr_Lawful}
pub use denote.RawPtr.Bytes.{bytes, bytes_apart, bytes_whole}
pub use denote.Signature.{plain}
pub use denote.Steps.{nothing, owned, peeks, heard, only}
pub use denote.Triple.Statement.{Contract, Triple}
pub use denote.Triple.Call.{calls_at, calls_at_last}
pub use denote.Triple.Clauses.{lasts}
pub use denote.Triple.Spec.{triple_of}
pub use denote.Triple.Table.{framed}
pub use denote.Triple.Walked.{Stays, stay_dropped, Goes-dropped, walk_of}
pub use Rattle.std.specs.declared.alloc.Global.{Global}
pub use Rattle.std.specs.contracts.alloc.Global.{the_row as Heap}
pub use Rattle.std.specs.contracts.impls.GlobalAllocator.TheImpl.{ghosts}
pub use Rattle.history_checker.specs.declared.checker.Checker.{Checker}
pub use Rattle.history_checker.specs.contracts.checker.Checker.{the_row as Row}
