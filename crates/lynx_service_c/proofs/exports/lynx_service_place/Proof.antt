-- Who holds an end is told through the pointers, where none is null.
use Rattle.lynx_service_c.proofs.Steps.{◌≡◌, ℕ, ℤ, ◌<◌, ◌^◌, ◌*◌, List, [], ◌∷◌, length, refl, subst, arith, lit<, pos, w8, w32, w64, proved, leaves, Ura, full_share, SProp, ent, sep, id⊢, Share, Fml, ftrue, fsep, flft, flent, feq, Incl-refl, named, Val, vint, vptr, vnull, Memory, Routine, Calls, Loops, WpFn, Logic, sem, Fun, fact, tables, FmC}
use Rattle.lynx_service_c.proofs.Steps.{‵, raw, ◌⊛◌, some, later, given, at_ret, ◌$◌, ◌∵◌, !, qed, by, move, keep, drop, use1, use2, use3, split, join, fsplit, fjoin, fpick, fpack, feq_i, feq_l, pick, await, learn, lft_new, lft_end, lent_back, enter, of_opd, lit, bin, addr, stop, no_more, and_then, first, branches, skips, exec, returns, returns_within, agg, alloc_all, pass_all, free_all, look_at, get, through, sets, lands_as, env, Body}
use Rattle.lynx_service_c.proofs.Steps.{u8, i32, usize, yes, Is, shows, part_at, mem, uint_vals, uint_Tells, sint_Lawful, sint_Makes, ShrSlice, slice_val, Array, lends_ref, ref_back, lends_shr, lends_shr_slice, uint_Copied, MutRef, ShrRef, Ptr, RawPtr, block_ptr, null_ptr, ptr_val, Testable, tests_null, rawptr_vals, rawptr_Tells, rawptr_Lawful, bytes, bytes_apart, bytes_whole, plain, nothing, owned, peeks, heard, Contract, Triple, calls_at, lasts, triple_of, framed, Stays, stay_dropped, Goes-dropped, walk_of}
use Rattle.lynx_service_c.proofs.Steps.{Global, Heap, ghosts, Checker, Row}
use base.Fml.{froom}
use borrow.Table.OneValue.{part_in}
use denote.Memory.{lone}
use mir.Raw.{raw as bare}
use denote.RattleType.{owns}
use denote.Signature.{types_at}
use denote.Triple.Entry.{on_entry}
use types.Run.{assigns, init}
use Rattle.std.proofs.alloc.Global.TheLaws as heap_laws
use Rattle.lynx_service_c.proofs.Given.{word, tested}
use Rattle.lynx_service_c.specs.Memory.{known as fact_of, IsPlace, bytes_at, holder_at, left_by_place, service_at}
use Rattle.lynx_service_c.specs.Holder.{IsHolder, IsNobody}
use Rattle.lynx_service_c.specs.contracts.holder.found as of
use Rattle.lynx_service_c.proofs.holder.found.Symbol.{name as #found}
use Rattle.lynx_service_c.proofs.holder.found.Met as of_thm
use Rattle.lynx_service_c.specs.contracts.holder.nobody as no
use Rattle.lynx_service_c.proofs.holder.nobody.Symbol.{name as #nobody}
use Rattle.lynx_service_c.proofs.holder.nobody.Met as no_thm
use Rattle.lynx_service_c.specs.declared.holder.Holder.{Holder}
use Rattle.lynx_service_c.specs.contracts.holder.Holder.{the_row as Held}
use Rattle.lynx_service_c.proofs.holder.Holder.TheLaws as holder_laws
use Rattle.history_checker.proofs.checker.Checker.TheLaws as checker_laws
use contract.BorrowLft.{⊑_static}
use Rattle.lynx_service_c.specs.contracts.exports.lynx_service_place as f
use Rattle.lynx_service_c.proofs.exports.lynx_service_place.Statement.{statement}
use Rattle.lynx_service_c.proofs.exports.lynx_service_place.Code as code

abbrev stayed : Stays f.ended.signature.params f.ended.kept
stayed = (stay_dropped _ yes, (stay_dropped _ yes, (stay_dropped _ yes, (stay_dropped _ yes, (stay_dropped _ yes, tt)))))

module _ {M : Type 1} {𝓤 : Ura M} (𝓛 : Logic 𝓤) (at_mem : Memory → SProp 𝓤) (run : Routine → Fun 𝓤) where
  abbrev Of : Contract 𝓤
  Of = triple_of 𝓛 of.signature (of.spec 𝓛 at_mem run)

  abbrev No : Contract 𝓤
  No = triple_of 𝓛 no.signature (no.spec 𝓛 at_mem run)

module _ {M : Type 1} {𝓤 : Ura M} (𝓛 : Logic 𝓤) (at_mem : Memory → SProp 𝓤) (run : Routine → Fun 𝓤) (C : Calls 𝓤 𝓛.H) (Λ : Loops 𝓤 𝓛.H) (fm : FmC 𝓤 𝓛.H 𝓛.laws C)
    (known : Triple 𝓤 (C #found) (Of 𝓛 at_mem run)) (known_no : Triple 𝓤 (C #nobody) (No 𝓛 at_mem run)) (a : Global) (c : Checker) (q : Share) (xs : List ℕ) where
  abbrev bound : Ptr → Ptr → ℕ → Ptr → (walk_of 𝓛 f.ended stayed (f.clauses 𝓛 at_mem run)).Ghost
  bound p l n t = ((tt, tt, tt, (a, (p, (l, (n, (t, tt))))), (word a ∷ [], (rawptr_vals p, (rawptr_vals l, (vint w64 n ∷ [], (rawptr_vals t, tt)))))), (c, q, xs))

  abbrev Post : Ptr → Ptr → ℕ → Ptr → Val → SProp 𝓤
  Post p l n t = (walk_of 𝓛 f.ended stayed (f.clauses 𝓛 at_mem run)).post (bound p l n t)

  abbrev Runs : Ptr → Ptr → ℕ → Ptr → SProp 𝓤
  Runs p l n t = WpFn 𝓤 𝓛.H C Λ code.function (word a ∷ ptr_val p ∷ ptr_val l ∷ vint w64 n ∷ ptr_val t ∷ []) (Post p l n t)

  -- what is left at the return
  exits : (p l : Ptr) (n : ℕ) (t : Ptr) (r : ℤ) (v : Val) → ent 𝓤 (sep 𝓤 (sem 𝓛 (left_by_place a p l n t c q xs r)) (sem 𝓛 (i32.own_val r (v ∷ [])))) (Post p l n t v)
  exits p l n t r v =
      qed 𝓛 (‵ (left_by_place a p l n t c q xs r) ∷ ‵ (i32.own_val r (v ∷ [])) ∷ []) ∵
      nothing ! $ nothing ! $ fjoin ! $ nothing ! $ fjoin ! $ nothing ! $ fjoin ! $ nothing ! $ fjoin ! $ nothing ! $ fjoin ! $ nothing ! $ move ! (0 ∷ 1 ∷ 3 ∷ []) $
      by ! (leaves 𝓛 f.ended stayed (f.clauses 𝓛 at_mem run) (bound p l n t) v r (tt, (tt, (tt, (tt, (tt, tt))))) (tt, (tt, (tt, (tt, (tt, tt))))))

  -- there is no holder
  unheld : (p l : Ptr) (n : ℕ) → ent 𝓤 (sep 𝓤 (sem 𝓛 (service_at a p c)) (sem 𝓛 (bytes_at q l n xs))) (Post p l n null_ptr (vint w32 1))
  unheld p l n =
      qed 𝓛 (‵ (service_at a p c) ∷ ‵ (bytes_at q l n xs) ∷ []) ∵ fjoin ! $ nothing ! $ fpack ! (pos 1 ≡ pos 1) (λ _. ftrue) refl $ fjoin ! $
      owned ! i32 (Is i32) (sint_Makes 𝓛 w32) (pos 1) (vint w32 1 ∷ []) (refl, lit< tt) $ move ! (1 ∷ []) $ by ! (exits p l n null_ptr (pos 1) (vint w32 1))

  -- what lies at the holder
  put : (p l : Ptr) (n d u : ℕ) (h : Holder) (r : ℤ) (v : Val) → IsPlace p l c xs h r
      → ent 𝓤 (sep 𝓤 (sem 𝓛 (part_at Held full_share h d u)) (sep 𝓤 (sem 𝓛 (service_at a p c)) (sep 𝓤 (sem 𝓛 (bytes_at q l n xs)) (sem 𝓛 (i32.own_val r (v ∷ [])))))) (Post p l n (block_ptr d u) v)
  put p l n d u h r v is =
      qed 𝓛 (‵ (part_at Held full_share h d u) ∷ ‵ (service_at a p c) ∷ ‵ (bytes_at q l n xs) ∷ ‵ (i32.own_val r (v ∷ [])) ∷ []) ∵ move ! (1 ∷ 2 ∷ []) $ fjoin ! $ move ! (1 ∷ []) $
      nothing ! $ fpack ! (IsPlace p l c xs h r) (λ _. ftrue) is $ fjoin ! $
      fpack ! Holder (λ h'. fsep (fact_of (IsPlace p l c xs h' r)) (part_at Held full_share h' d u)) h $ fjoin ! $ by ! (exits p l n (block_ptr d u) r v)

  -- another pointer is null
  refused : (p l : Ptr) (n d u : ℕ) (h : Holder) → IsPlace p l c xs h (pos 1)
      → ent 𝓤 (sep 𝓤 (sem 𝓛 (part_at Held full_share h d u)) (sep 𝓤 (sem 𝓛 (service_at a p c)) (sem 𝓛 (bytes_at q l n xs)))) (Post p l n (block_ptr d u) (vint w32 1))
  refused p l n d u h is =
      qed 𝓛 (‵ (part_at Held full_share h d u) ∷ ‵ (service_at a p c) ∷ ‵ (bytes_at q l n xs) ∷ []) ∵
      owned ! i32 (Is i32) (sint_Makes 𝓛 w32) (pos 1) (vint w32 1 ∷ []) (refl, lit< tt) $ move ! (1 ∷ 2 ∷ 3 ∷ []) $ by ! (put p l n d u h (pos 1) (vint w32 1) is)

  abbrev z₀ : (No 𝓛 at_mem run).Ghost
  z₀ = ((tt, tt, tt, tt, tt), tt)

  module _ (is_a : Is Heap a (word a ∷ [])) (n : ℕ) (fits : n < 2 ^ 64) where
    no_holder : (p l : Ptr) → ent 𝓤 (sep 𝓤 (sem 𝓛 (service_at a p c)) (sem 𝓛 (bytes_at q l n xs))) (Runs p l n null_ptr)
    no_holder p l =
        qed 𝓛 (‵ (service_at a p c) ∷ ‵ (bytes_at q l n xs) ∷ []) ∵ enter ! C Λ code.function (word a ∷ ptr_val p ∷ ptr_val l ∷ vint w64 n ∷ vnull ∷ []) _ $
        alloc_all ! (λ ls. pass_all ! refl (((heap_laws.the_row_laws.lawful 𝓛).typed a (word a ∷ []) is_a).0, (((rawptr_Lawful 𝓛).typed p (ptr_val p ∷ []) refl).0, (((rawptr_Lawful 𝓛).typed l (ptr_val l ∷ []) refl).0, ((tt, record { fits = fits }), ((tt, record { fits = lit< tt }), tt))))) $
        sets ! (bin ! (get ! refl) (lit ! tt) (tests_null null_ptr (lit< tt))) refl (tt, tt) $
        first ! $ branches ! (get ! refl)
        (λ s. sets ! (of_opd ! (lit ! tt)) refl (tt, record { fits = lit< tt }) $ returns_within ! (Post p l n null_ptr) refl (look_at ! 0 refl) $ free_all ! refl $ by ! (unheld p l n))
        (λ s. absurd s))

    module _ (d u : ℕ) (low : u < 2 ^ 63) where
      no_service : (l : Ptr) → ent 𝓤 (sep 𝓤 (sem 𝓛 (service_at a null_ptr c)) (sep 𝓤 (sem 𝓛 (bytes_at q l n xs)) (sem 𝓛 (froom (lone Held.mir) d u)))) (Runs null_ptr l n (block_ptr d u))
      no_service l =
          qed 𝓛 (‵ (service_at a null_ptr c) ∷ ‵ (bytes_at q l n xs) ∷ ‵ (froom (lone Held.mir) d u) ∷ []) ∵ enter ! C Λ code.function (word a ∷ vnull ∷ ptr_val l ∷ vint w64 n ∷ vptr d u ∷ []) _ $
          alloc_all ! (λ ls. pass_all ! refl (((heap_laws.the_row_laws.lawful 𝓛).typed a (word a ∷ []) is_a).0, ((tt, record { fits = lit< tt }), (((rawptr_Lawful 𝓛).typed l (ptr_val l ∷ []) refl).0, ((tt, record { fits = fits }), ((tt, tt), tt))))) $
          let En = env code.Mir.locals ls in let At = at_ret En (Post null_ptr l n (block_ptr d u)) in
          sets ! (bin ! (get ! refl) (lit ! tt) (tests_null (block_ptr d u) low)) refl (tt, tt) $
          first ! $ branches ! (get ! refl) (λ s. absurd s) (λ s. skips ! $ exec ! C Λ En code.Mir.t-3 At $
          nothing ! $ nothing ! $ join ! $ nothing ! $ move ! (1 ∷ 0 ∷ []) $ use2 𝓛 (raw ((No 𝓛 at_mem run).pre z₀)) (id⊢ 𝓤 _) $
          calls_at ! fm (No 𝓛 at_mem run) known_no z₀ (no_more !) (λ v.
          use1 𝓛 (later (some (λ (h : Holder). (‵ ftrue ⊛ ‵ (Held.own_val h (v ∷ []))) ⊛ some (λ (ws : Unit {0}). ‵ (lasts no.ended tt tt ws) ⊛ raw (fact 𝓤 (IsNobody h (pos 1))))))) (id⊢ 𝓤 _) $
          await ! tt $ pick ! (λ h. split ! $ split ! $ drop ! $ move ! (1 ∷ []) $ pick ! (λ ws. split ! $ drop ! $ heard ! (IsNobody h (pos 1)) (λ is.
          peeks ! Held (Is Held) (shows 𝓛 Held) h (v ∷ []) (λ typed. let good = ((holder_laws.the_row_laws.lawful 𝓛).typed h (v ∷ []) typed).0 in lands_as ! refl refl good $
          assigns ! (of_opd ! (get ! refl)) (through ! refl (stop !)) (init ! 3 refl good) $
          -- [what was made; the service; the bytes; the holder]
          move ! (3 ∷ 0 ∷ []) $ use2 𝓛 (‵ (part_at Held full_share h d u)) (part_in 𝓛 Held refl full_share h d u v) $
          sets ! (bin ! (get ! refl) (lit ! tt) (tests_null null_ptr (lit< tt))) refl (tt, tt) $
          first ! $ branches ! (get ! refl)
          (λ s. sets ! (of_opd ! (lit ! tt)) refl (tt, record { fits = lit< tt }) $ returns_within ! (Post null_ptr l n (block_ptr d u)) refl (look_at ! 0 refl) $ free_all ! refl $ by ! (refused null_ptr l n d u h is))
          (λ s. absurd s))))))))

      no_end : (b o : ℕ) → ent 𝓤 (sep 𝓤 (sem 𝓛 (service_at a (block_ptr b o) c)) (sep 𝓤 (sem 𝓛 (bytes_at q null_ptr n xs)) (sem 𝓛 (froom (lone Held.mir) d u)))) (Runs (block_ptr b o) null_ptr n (block_ptr d u))
      no_end b o =
          qed 𝓛 (‵ (service_at a (block_ptr b o) c) ∷ ‵ (bytes_at q null_ptr n xs) ∷ ‵ (froom (lone Held.mir) d u) ∷ []) ∵
          use1 𝓛 (given (Testable (block_ptr b o)) (‵ (service_at a (block_ptr b o) c))) (tested 𝓛 a b o c) $ learn ! (λ may.
          enter ! C Λ code.function (word a ∷ vptr b o ∷ vnull ∷ vint w64 n ∷ vptr d u ∷ []) _ $
          alloc_all ! (λ ls. pass_all ! refl (((heap_laws.the_row_laws.lawful 𝓛).typed a (word a ∷ []) is_a).0, ((tt, tt), ((tt, record { fits = lit< tt }), ((tt, record { fits = fits }), ((tt, tt), tt))))) $
          let En = env code.Mir.locals ls in let At = at_ret En (Post (block_ptr b o) null_ptr n (block_ptr d u)) in
          sets ! (bin ! (get ! refl) (lit ! tt) (tests_null (block_ptr d u) low)) refl (tt, tt) $
          first ! $ branches ! (get ! refl) (λ s. absurd s) (λ s. skips ! $ exec ! C Λ En code.Mir.t-3 At $
          nothing ! $ nothing ! $ join ! $ nothing ! $ move ! (1 ∷ 0 ∷ []) $ use2 𝓛 (raw ((No 𝓛 at_mem run).pre z₀)) (id⊢ 𝓤 _) $
          calls_at ! fm (No 𝓛 at_mem run) known_no z₀ (no_more !) (λ v.
          use1 𝓛 (later (some (λ (h : Holder). (‵ ftrue ⊛ ‵ (Held.own_val h (v ∷ []))) ⊛ some (λ (ws : Unit {0}). ‵ (lasts no.ended tt tt ws) ⊛ raw (fact 𝓤 (IsNobody h (pos 1))))))) (id⊢ 𝓤 _) $
          await ! tt $ pick ! (λ h. split ! $ split ! $ drop ! $ move ! (1 ∷ []) $ pick ! (λ ws. split ! $ drop ! $ heard ! (IsNobody h (pos 1)) (λ is.
          peeks ! Held (Is Held) (shows 𝓛 Held) h (v ∷ []) (λ typed. let good = ((holder_laws.the_row_laws.lawful 𝓛).typed h (v ∷ []) typed).0 in lands_as ! refl refl good $
          assigns ! (of_opd ! (get ! refl)) (through ! refl (stop !)) (init ! 3 refl good) $
          -- [what was made; the service; the bytes; the holder]
          move ! (3 ∷ 0 ∷ []) $ use2 𝓛 (‵ (part_at Held full_share h d u)) (part_in 𝓛 Held refl full_share h d u v) $
          sets ! (bin ! (get ! refl) (lit ! tt) (tests_null (block_ptr b o) may)) refl (tt, tt) $
          first ! $ branches ! (get ! refl) (λ s'. absurd s') (λ s'. skips ! $ exec ! C Λ En code.Mir.t-7 At $
          sets ! (bin ! (get ! refl) (lit ! tt) (tests_null null_ptr (lit< tt))) refl (tt, tt) $
          first ! $ branches ! (get ! refl)
          (λ e. sets ! (of_opd ! (lit ! tt)) refl (tt, record { fits = lit< tt }) $ returns_within ! (Post (block_ptr b o) null_ptr n (block_ptr d u)) refl (look_at ! 0 refl) $ free_all ! refl $ by ! (refused (block_ptr b o) null_ptr n d u h is))
          (λ e. absurd e))))))))))

  -- none is null
  module _ (is_a : Is Heap a (word a ∷ [])) (b o b' o' d u : ℕ) where
    abbrev n : ℕ
    n = length xs

    abbrev p : Ptr
    p = block_ptr b o

    abbrev l : Ptr
    l = block_ptr b' o'

    abbrev t : Ptr
    t = block_ptr d u

    abbrev Counted : Fml
    Counted = fsep (feq ℕ n n) (bytes q xs b' o')

    abbrev Token : Fml
    Token = ghosts.dealloc_token a (bare (lone Row.mir)) (block_ptr b o)

    abbrev Small : Type 0
    Small = (o' < 2 ^ 63) × (n < 2 ^ 63)

    abbrev Room : Fml
    Room = froom (lone Held.mir) d u

    told : Small → (h : Holder) (r : ℤ) (v : Val) → IsHolder c xs h r
        → ent 𝓤 (sep 𝓤 (sem 𝓛 (part_at Row full_share c b o)) (sep 𝓤 (sem 𝓛 Token) (sep 𝓤 (sem 𝓛 Counted) (sep 𝓤 (sem 𝓛 (part_at Held full_share h d u)) (sem 𝓛 (i32.own_val r (v ∷ []))))))) (Post p l n t v)
    told small h r v is =
        qed 𝓛 (‵ (part_at Row full_share c b o) ∷ ‵ Token ∷ ‵ Counted ∷ ‵ (part_at Held full_share h d u) ∷ ‵ (i32.own_val r (v ∷ [])) ∷ []) ∵
        fjoin ! $ move ! (1 ∷ []) $ use1 𝓛 (‵ (part_at (Array u8 n) q xs b' o')) (bytes_whole 𝓛 q n xs b' o') $
        nothing ! $ fpack ! Small (λ _. ftrue) small $ fjoin ! $ move ! (2 ∷ 1 ∷ 0 ∷ []) $ by ! (put p l n d u h r v is)

    walk : Testable p → Small → u < 2 ^ 63 → ent 𝓤 (sep 𝓤 (sem 𝓛 Counted) (sep 𝓤 (sem 𝓛 (part_at Row full_share c b o)) (sep 𝓤 (sem 𝓛 Token) (sep 𝓤 (sem 𝓛 (Heap.own_val a (word a ∷ []))) (sem 𝓛 Room))))) (Runs p l n t)
    walk may small low =
        let fits : n < 2 ^ 64 = omega (arith, small.1) in
        let room : n * 1 < 2 ^ 63 = omega (arith, small.1) in
        qed 𝓛 (‵ Counted ∷ ‵ (part_at Row full_share c b o) ∷ ‵ Token ∷ ‵ (Heap.own_val a (word a ∷ [])) ∷ ‵ Room ∷ []) ∵
        enter ! C Λ code.function (word a ∷ vptr b o ∷ vptr b' o' ∷ vint w64 n ∷ vptr d u ∷ []) _ $
        alloc_all ! (λ ls. pass_all ! refl (((heap_laws.the_row_laws.lawful 𝓛).typed a (word a ∷ []) is_a).0, ((tt, tt), ((tt, tt), ((tt, record { fits = fits }), ((tt, tt), tt))))) $
        let En = env code.Mir.locals ls in let At = at_ret En (Post p l n t) in
        sets ! (bin ! (get ! refl) (lit ! tt) (tests_null t low)) refl (tt, tt) $
        first ! $ branches ! (get ! refl) (λ s. absurd s) (λ s. skips ! $ exec ! C Λ En code.Mir.t-3 At $
        nothing ! $ nothing ! $ join ! $ nothing ! $ move ! (1 ∷ 0 ∷ []) $ use2 𝓛 (raw ((No 𝓛 at_mem run).pre z₀)) (id⊢ 𝓤 _) $
        calls_at ! fm (No 𝓛 at_mem run) known_no z₀ (no_more !) (λ v₀.
        use1 𝓛 (later (some (λ (h₀ : Holder). (‵ ftrue ⊛ ‵ (Held.own_val h₀ (v₀ ∷ []))) ⊛ some (λ (ws : Unit {0}). ‵ (lasts no.ended tt tt ws) ⊛ raw (fact 𝓤 (IsNobody h₀ (pos 1))))))) (id⊢ 𝓤 _) $
        await ! tt $ pick ! (λ h₀. split ! $ split ! $ drop ! $ move ! (1 ∷ []) $ pick ! (λ ws. split ! $ drop ! $ heard ! (IsNobody h₀ (pos 1)) (λ is.
        peeks ! Held (Is Held) (shows 𝓛 Held) h₀ (v₀ ∷ []) (λ typed. let good = ((holder_laws.the_row_laws.lawful 𝓛).typed h₀ (v₀ ∷ []) typed).0 in lands_as ! refl refl good $
        assigns ! (of_opd ! (get ! refl)) (through ! refl (stop !)) (init ! 5 refl good) $
        -- [what was made; the bytes; the checker; the token; the allocator; the holder]
        move ! (5 ∷ 0 ∷ []) $ use2 𝓛 (‵ (part_at Held full_share h₀ d u)) (part_in 𝓛 Held refl full_share h₀ d u v₀) $ move ! (1 ∷ 2 ∷ 3 ∷ 4 ∷ []) $
        sets ! (bin ! (get ! refl) (lit ! tt) (tests_null p may)) refl (tt, tt) $
        first ! $ branches ! (get ! refl) (λ s'. absurd s') (λ s'. skips ! $ exec ! C Λ En code.Mir.t-7 At $
        sets ! (bin ! (get ! refl) (lit ! tt) (tests_null l small.0)) refl (tt, tt) $
        first ! $ branches ! (get ! refl) (λ e. absurd e) (λ e. skips ! $ exec ! C Λ En code.Mir.t-9 At $
        sets ! (of_opd ! (get ! refl)) refl (tt, tt) $
        sets ! (addr ! (through ! refl (stop !))) refl (tt, tt) $
        sets ! (agg ! (and_then ! (get ! refl) (and_then ! (get ! refl) (no_more !)))) refl (tt, (tt, (record { fits = fits }, tt))) $
        sets ! (addr ! (through ! refl (stop !))) refl (tt, tt) $
        -- [the bytes; the checker; the token; the allocator; the holder]
        lft_new ! tt (λ α. move ! (2 ∷ []) $
        use2 𝓛 (later ((‵ ((ShrRef (named 0) (α ∷ []) Row).own_val (record { ref_ptr = (b, o); now = c }) (vptr b o ∷ [])) ⊛ ‵ (flent (α ∷ []) (part_at Row full_share c b o))) ⊛ ‵ (flft (α ∷ []) full_share)))
        (lends_shr 𝓛 Row (named 0) (α ∷ []) full_share c b o [] (checker_laws.the_row_laws.shares 𝓛 c) ((α ∷ [], full_share) ∷ []) (⊑_static (α ∷ [])) (Incl-refl (α ∷ []))) $ await ! tt $ split ! $ split ! $
        -- [the loan; its way back; the token of α; the bytes; the token; the allocator; the holder]
        lft_new ! tt (λ β. move ! (4 ∷ 0 ∷ []) $
        use2 𝓛 (later ((‵ ((ShrSlice (named 0) (β ∷ []) u8).own_val (record { ref_ptr = (b', o'); now = xs }) (slice_val (b', o') n ∷ [])) ⊛ ‵ (flent (β ∷ []) Counted)) ⊛ ‵ (flft (β ∷ []) full_share)))
        (lends_shr_slice 𝓛 u8 (named 0) (β ∷ []) q xs b' o' (fits, room) (β ∷ []) ((uint_Copied 𝓛 w8).shares q (β ∷ [])) ((β ∷ [], full_share) ∷ []) (Incl-refl (β ∷ [])) (Incl-refl (β ∷ []))) $ await ! tt $ split ! $ split ! $
        -- [the slice; its way back; the token of β; the loan; its way back; the token of α; the token; the allocator; the holder]
        lft_new ! tt (λ δ. move ! (9 ∷ []) $
        use1 𝓛 (later (some (λ (γ : ℕ). ‵ ((MutRef (named 0) (δ ∷ []) Held).own_val (record { ref_ptr = (d, u); ghost_name = γ; now = h₀ }) (vptr d u ∷ [])) ⊛ ‵ (flent (δ ∷ []) (Body (mem Held) d u γ)))))
        (lends_ref 𝓛 Held (named 0) (δ ∷ []) h₀ d u) $ await ! tt $ pick ! (λ γ. split ! $
        -- [the holder's loan; its way back; the token of δ; the slice; its way back; the token of β; the loan; its way back; the token of α; the token; the allocator]
        let z : (Of 𝓛 at_mem run).Ghost = (
          (
            (α ∷ [], (β ∷ [], (δ ∷ [], tt))),
            (full_share, (full_share, (full_share, tt))),
            tt,
            (a, (record { ref_ptr = (b, o); now = c }, (record { ref_ptr = (b', o'); now = xs }, (record { ref_ptr = (d, u); ghost_name = γ; now = h₀ }, tt)))),
            (word a ∷ [], (vptr b o ∷ [], (slice_val (b', o') n ∷ [], (vptr d u ∷ [], tt)))),
          ),
          tt,
        ) in
        nothing ! $ move ! (1 ∷ 0 ∷ []) $ fjoin ! $ move ! (3 ∷ 0 ∷ []) $ fjoin ! $ move ! (5 ∷ 0 ∷ []) $ fjoin ! $ move ! (8 ∷ 0 ∷ []) $ fjoin ! $
        -- [what is passed; the holder's way back; the token of δ; the slice's way back; the token of β; the loan's way back; the token of α; the token]
        nothing ! $ move ! (3 ∷ 0 ∷ []) $ join ! $ move ! (4 ∷ 0 ∷ []) $ join ! $ move ! (5 ∷ 0 ∷ []) $ join ! $ join ! $
        nothing ! $ move ! (1 ∷ 0 ∷ []) $ use2 𝓛 (raw ((Of 𝓛 at_mem run).pre z)) (id⊢ 𝓤 _) $
        -- [the call; the holder's way back; the slice's way back; the loan's way back; the token]
        calls_at ! fm (Of 𝓛 at_mem run) known z (and_then ! (get ! refl) (and_then ! (get ! refl) (and_then ! (get ! refl) (and_then ! (get ! refl) (no_more !))))) (λ v.
        use1 𝓛 (later (some (λ (r : ℤ). ((‵ (flft (α ∷ []) full_share) ⊛ ‵ (flft (β ∷ []) full_share) ⊛ ‵ (flft (δ ∷ []) full_share) ⊛ ‵ ftrue) ⊛ ‵ (i32.own_val r (v ∷ []))) ⊛
        some (λ (ws : Unit {0} × (Unit {0} × (Unit {0} × (Holder × Unit {0})))). ‵ (lasts of.ended z.0.0 z.0.3 ws) ⊛ raw (fact 𝓤 (IsHolder c xs ws.1.1.1.0 r)))))) (id⊢ 𝓤 _) $ await ! tt $ pick ! (λ r.
        split ! $ split ! $ split ! $ lft_end ! tt $ move ! (1 ∷ []) $ split ! $ lft_end ! tt $ move ! (1 ∷ []) $ split ! $ lft_end ! tt $
        -- [δ is over; nothing; β is over; α is over; the result; the rest; the holder's way back; the slice's way back; the loan's way back; the token]
        move ! (2 ∷ 7 ∷ []) $ lent_back ! tt $ move ! (3 ∷ 7 ∷ []) $ lent_back ! tt $
        -- [the checker; the bytes; δ is over; nothing; the result; the rest; the holder's way back; the token]
        move ! (5 ∷ []) $ pick ! (λ ws. split ! $ move ! (1 ∷ []) $ heard ! (IsHolder c xs ws.1.1.1.0 r) (λ is'.
        fsplit ! $ move ! (1 ∷ []) $ fsplit ! $ move ! (1 ∷ []) $ fsplit ! $ move ! (1 ∷ []) $ fsplit ! $ fsplit ! $
        -- [the last value; its borrow; nothing, four times; the checker; the bytes; δ is over; nothing; the result; the holder's way back; the token]
        move ! (8 ∷ 11 ∷ 0 ∷ []) $ use3 𝓛 (later (‵ (part_at Held full_share ws.1.1.1.0 d u))) (ref_back 𝓛 Held (δ ∷ []) γ ws.1.1.1.0 d u) $ await ! tt $
        -- [the holder; its borrow; nothing, four times; the checker; the bytes; nothing; the result; the token]
        move ! (9 ∷ []) $ peeks ! i32 (Is i32) (shows 𝓛 i32) r (v ∷ []) (λ number.
        lands_as ! refl refl ((sint_Lawful 𝓛 w32).typed r (v ∷ []) number).0 $ returns ! (look_at ! 0 refl) $ free_all ! refl $ keep ! (7 ∷ 10 ∷ 8 ∷ 1 ∷ 0 ∷ []) $ by ! (told small ws.1.1.1.0 r v is')))))))))))))))))))

  abbrev Entry : Ptr → Ptr → ℕ → Ptr → SProp 𝓤
  Entry p l n t = on_entry 𝓛 f.signature tt tt (a, (p, (l, (n, (t, tt))))) (word a ∷ [], (rawptr_vals p, (rawptr_vals l, (vint w64 n ∷ [], (rawptr_vals t, tt)))))

  abbrev Given : Ptr → Ptr → ℕ → Ptr → SProp 𝓤
  Given p l n t = sep 𝓤 (sem 𝓛 (service_at a p c)) (sep 𝓤 (sem 𝓛 (bytes_at q l n xs)) (sem 𝓛 (holder_at t)))

  -- by the pointers' forms
  at_each : Is Heap a (word a ∷ []) → (p l : Ptr) (n : ℕ) (t : Ptr) → n < 2 ^ 64 → ent 𝓤 (sep 𝓤 (Entry p l n t) (Given p l n t)) (Runs p l n t)
  at_each is_a p l n null_ptr fits =
      qed 𝓛 (raw (Entry p l n null_ptr) ∷ (‵ (service_at a p c) ⊛ ‵ (bytes_at q l n xs) ⊛ ‵ ftrue) ∷ []) ∵ drop ! $ split ! $ move ! (1 ∷ []) $ split ! $ move ! (2 ∷ 0 ∷ []) $ keep ! (0 ∷ 1 ∷ []) $ by ! (no_holder is_a n fits p l)
  at_each is_a null_ptr l n (block_ptr d u) fits =
      qed 𝓛 (raw (Entry null_ptr l n (block_ptr d u)) ∷ (‵ (service_at a null_ptr c) ⊛ ‵ (bytes_at q l n xs) ⊛ ‵ (holder_at (block_ptr d u))) ∷ []) ∵ drop ! $ split ! $ move ! (1 ∷ []) $ split ! $ move ! (1 ∷ []) $
      fsplit ! $ fpick ! (λ low. drop ! $ move ! (2 ∷ 1 ∷ []) $ by ! (no_service is_a n fits d u low l))
  at_each is_a (block_ptr b o) null_ptr n (block_ptr d u) fits =
      qed 𝓛 (raw (Entry (block_ptr b o) null_ptr n (block_ptr d u)) ∷ (‵ (service_at a (block_ptr b o) c) ⊛ ‵ (bytes_at q null_ptr n xs) ⊛ ‵ (holder_at (block_ptr d u))) ∷ []) ∵ drop ! $ split ! $ move ! (1 ∷ []) $ split ! $ move ! (1 ∷ []) $
      fsplit ! $ fpick ! (λ low. drop ! $ move ! (2 ∷ 1 ∷ []) $ by ! (no_end is_a n fits d u low b o))
  at_each is_a (block_ptr b o) (block_ptr b' o') n (block_ptr d u) fits =
      qed 𝓛 ((‵ ftrue ⊛ ‵ (owns (types_at f.signature.params tt) (a, (block_ptr b o, (block_ptr b' o', (n, (block_ptr d u, tt))))) (word a ∷ [], (vptr b o ∷ [], (vptr b' o' ∷ [], (vint w64 n ∷ [], (vptr d u ∷ [], tt)))))))
      ∷ (‵ (service_at a (block_ptr b o) c) ⊛ ‵ (bytes_at q (block_ptr b' o') n xs) ⊛ ‵ (holder_at (block_ptr d u))) ∷ []) ∵
      split ! $ drop ! $ fsplit ! $ move ! (2 ∷ []) $ split ! $
      use1 𝓛 (given (Testable (block_ptr b o)) (‵ (service_at a (block_ptr b o) c))) (tested 𝓛 a b o c) $ learn ! (λ may. fsplit ! $ move ! (2 ∷ []) $ split ! $ fsplit ! $ fpick ! (λ small. drop ! $
      -- [the bytes; the holder; the checker; the token; the allocator; the other parameters]
      use1 𝓛 (‵ (fsep (feq ℕ (length xs) n) (bytes q xs b' o'))) (bytes_apart 𝓛 q n xs b' o') $ fsplit ! $ feq_l ! (λ e. feq_i ! ℕ (length xs) (length xs) refl $ fjoin ! $
      move ! (1 ∷ []) $ fsplit ! $ fpick ! (λ low. drop ! $ keep ! (1 ∷ 2 ∷ 3 ∷ 4 ∷ 0 ∷ []) $
      by ! (subst (λ (m : ℕ). (o' < 2 ^ 63) × (m < 2 ^ 63) → ent 𝓤 (sep 𝓤 (sem 𝓛 (Counted is_a b o b' o' d u)) (sep 𝓤 (sem 𝓛 (part_at Row full_share c b o)) (sep 𝓤 (sem 𝓛 (Token is_a b o b' o' d u)) (sep 𝓤 (sem 𝓛 (Heap.own_val a (word a ∷ []))) (sem 𝓛 (Room is_a b o b' o' d u))))))
      (Runs (block_ptr b o) (block_ptr b' o') m (block_ptr d u))) e (λ small. walk is_a b o b' o' d u may small low) small)))))

pub lynx_service_place_spec : {M : Type 1} → statement M
lynx_service_place_spec 𝓤 𝓛 𝓜 𝓡 wired =
    let goes = Goes-dropped 𝓛 0 (plain (λ _. RawPtr)) yes (λ κs x w. refl) in let c = f.clauses 𝓛 𝓜.mem 𝓡.returns in
    proved 𝓛 f.ended stayed c 𝓜 𝓡 (Goes-dropped 𝓛 0 (plain (λ _. Heap)) yes (λ κs x w. refl), (goes, (goes, (Goes-dropped 𝓛 0 (plain (λ _. usize)) yes (λ κs x w. refl), (goes, tt)))))
    f.Key.name code.function (code.unfolded 𝓤 𝓛.H 𝓜 𝓡 wired)
    (λ κs. ((λ a. word a ∷ []), (rawptr_vals, (rawptr_vals, (uint_vals w64, (rawptr_vals, tt)))))) (λ κs. (heap_laws.lowers.val_is, (rawptr_Tells, (rawptr_Tells, (uint_Tells w64, (rawptr_Tells, tt))))))
    (λ κs qs bounds a g are. at_each 𝓛 𝓜.mem 𝓡.returns (tables 𝓤 𝓛.H 𝓜 𝓡 𝓡.env).C (tables 𝓤 𝓛.H 𝓜 𝓡 𝓡.env).Λ (framed 𝓤 𝓛.H 𝓜 (tables 𝓤 𝓛.H 𝓜 𝓡 𝓡.env))
    (of_thm.met 𝓤 𝓛 𝓜 𝓡 (code.calls-lynx_service_c::holder::found 𝓡.env wired)) (no_thm.met 𝓤 𝓛 𝓜 𝓡 (code.calls-lynx_service_c::holder::nobody 𝓡.env wired)) a.0 g.0 g.1 g.2 are.0 a.1.0 a.1.1.0 a.1.1.1.0 a.1.1.1.1.0 are.1.1.1.0.1)
