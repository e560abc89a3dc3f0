-- The words are put through the pointers, where neither is null.
use Rattle.lynx_service_c.proofs.Steps.{◌≡◌, ℕ, ◌<◌, ◌^◌, ◌*◌, List, [], ◌∷◌, length, refl, subst, arith, lit<, w64, proved, leaves, Ura, full_share, SProp, ent, sep, id⊢, Fml, ftrue, fsep, flft, flent, feq, Incl-refl, named, Val, vint, vptr, vnull, Memory, Routine, Calls, Loops, WpFn, Logic, sem, Fun, fact, tables, FmC}
use Rattle.lynx_service_c.proofs.Steps.{‵, raw, ◌⊛◌, some, later, given, at_ret, ◌$◌, ◌∵◌, !, qed, by, move, keep, drop, use1, use2, use3, split, join, fsplit, fjoin, fpick, fpack, feq_i, feq_l, pick, await, learn, lft_new, lft_end, lent_back, enter, of_opd, lit, bin, addr, stop, no_more, and_then, first, branches, skips, exec, returns, returns_within, agg, alloc_all, pass_all, free_all, look_at, get, through, sets, lands_as, env}
use Rattle.lynx_service_c.proofs.Steps.{u8, usize, yes, Is, shows, part_at, mem, lone, uint_vals, uint_Tells, uint_Lawful, uint_Makes, slice_val, Array, lends_shr, lends_slice, slice_back, ShrRef, Ptr, RawPtr, block_ptr, null_ptr, ptr_val, Testable, tests_null, rawptr_vals, rawptr_Tells, rawptr_Lawful, bytes, bytes_apart, bytes_whole, plain, nothing, owned, peeks, heard, Contract, Triple, calls_at, lasts, triple_of, framed, Stays, stay_dropped, Goes-dropped, walk_of}
use Rattle.lynx_service_c.proofs.Steps.{Global, Heap, ghosts, Checker, Row}
use contract.BorrowLft.{⊑_static}
use denote.Lend.{Held}
use denote.Slice.{MutSlice}
use denote.Triple.Entry.{on_entry}
use mir.Raw.{raw as bare}
use types.SemTy.{cells}
use Rattle.std.proofs.alloc.Global.TheLaws as heap_laws
use Rattle.history_checker.proofs.checker.Checker.TheLaws as checker_laws
use Rattle.lynx_service_c.proofs.Given.{cells_in, cells_out, word, tested}
use Rattle.lynx_service_c.specs.Memory.{known as fact_of, IsWords, room_at, service_at}
use Rattle.lynx_service_c.specs.Service.{IsLength, IsWhy}
use Rattle.lynx_service_c.specs.contracts.service.words as of
use Rattle.lynx_service_c.proofs.service.words.Symbol.{name as #words}
use Rattle.lynx_service_c.proofs.service.words.Met as of_thm
use Rattle.lynx_service_c.specs.contracts.service.length_of_words as len
use Rattle.lynx_service_c.proofs.service.length_of_words.Symbol.{name as #length}
use Rattle.lynx_service_c.proofs.service.length_of_words.Met as len_thm
use Rattle.lynx_service_c.specs.contracts.exports.lynx_service_why as f
use Rattle.lynx_service_c.proofs.exports.lynx_service_why.Statement.{statement}
use Rattle.lynx_service_c.proofs.exports.lynx_service_why.Code as code

abbrev stayed : Stays f.ended.signature.params f.ended.kept
stayed = (stay_dropped _ yes, (stay_dropped _ yes, (stay_dropped _ yes, (stay_dropped _ yes, tt))))

module _ {M : Type 1} {𝓤 : Ura M} (𝓛 : Logic 𝓤) (at_mem : Memory → SProp 𝓤) (run : Routine → Fun 𝓤) where
  abbrev Of : Contract 𝓤
  Of = triple_of 𝓛 of.signature (of.spec 𝓛 at_mem run)

  abbrev Len : Contract 𝓤
  Len = triple_of 𝓛 len.signature (len.spec 𝓛 at_mem run)

module _ {M : Type 1} {𝓤 : Ura M} (𝓛 : Logic 𝓤) (at_mem : Memory → SProp 𝓤) (run : Routine → Fun 𝓤) (C : Calls 𝓤 𝓛.H) (Λ : Loops 𝓤 𝓛.H) (fm : FmC 𝓤 𝓛.H 𝓛.laws C)
    (known : Triple 𝓤 (C #words) (Of 𝓛 at_mem run)) (known_len : Triple 𝓤 (C #length) (Len 𝓛 at_mem run)) (a : Global) (c : Checker) (xs : List ℕ) where
  abbrev bound : Ptr → Ptr → ℕ → (walk_of 𝓛 f.ended stayed (f.clauses 𝓛 at_mem run)).Ghost
  bound p l n = ((tt, tt, tt, (a, (p, (l, (n, tt)))), (word a ∷ [], (rawptr_vals p, (rawptr_vals l, (vint w64 n ∷ [], tt))))), (c, xs))

  abbrev Post : Ptr → Ptr → ℕ → Val → SProp 𝓤
  Post p l n = (walk_of 𝓛 f.ended stayed (f.clauses 𝓛 at_mem run)).post (bound p l n)

  abbrev Runs : Ptr → Ptr → ℕ → SProp 𝓤
  Runs p l n = WpFn 𝓤 𝓛.H C Λ code.function (word a ∷ ptr_val p ∷ ptr_val l ∷ vint w64 n ∷ []) (Post p l n)

  -- what is left at the return
  exits : (p l : Ptr) (n : ℕ) (r : ℕ) (v : Val) (new : List ℕ) → IsWords p l c xs new r
      → ent 𝓤 (sep 𝓤 (sem 𝓛 (usize.own_val r (v ∷ []))) (sep 𝓤 (sem 𝓛 (service_at a p c)) (sem 𝓛 (room_at l n new)))) (Post p l n v)
  exits p l n r v new is =
      qed 𝓛 (‵ (usize.own_val r (v ∷ [])) ∷ ‵ (service_at a p c) ∷ ‵ (room_at l n new) ∷ []) ∵ move ! (1 ∷ 2 ∷ []) $
      fjoin ! $ nothing ! $ fpack ! (IsWords p l c xs new r) (λ _. ftrue) is $ fjoin ! $
      fpack ! (List ℕ) (λ ys. fsep (fact_of (IsWords p l c xs ys r)) (fsep (service_at a p c) (room_at l n ys))) new $
      nothing ! $ nothing ! $ fjoin ! $ nothing ! $ fjoin ! $ nothing ! $ fjoin ! $ nothing ! $ fjoin ! $ nothing ! $ move ! (0 ∷ 1 ∷ 3 ∷ []) $
      by ! (leaves 𝓛 f.ended stayed (f.clauses 𝓛 at_mem run) (bound p l n) v r (tt, (tt, (tt, (tt, tt)))) (tt, (tt, (tt, (tt, tt)))))

  module _ (is_a : Is Heap a (word a ∷ [])) (n : ℕ) (fits : n < 2 ^ 64) where
    no_service : (l : Ptr) → ent 𝓤 (sep 𝓤 (sem 𝓛 (service_at a null_ptr c)) (sem 𝓛 (room_at l n xs))) (Runs null_ptr l n)
    no_service l =
        qed 𝓛 (‵ (service_at a null_ptr c) ∷ ‵ (room_at l n xs) ∷ []) ∵ enter ! C Λ code.function (word a ∷ vnull ∷ ptr_val l ∷ vint w64 n ∷ []) _ $
        alloc_all ! (λ ls. pass_all ! refl (((heap_laws.the_row_laws.lawful 𝓛).typed a (word a ∷ []) is_a).0, ((tt, record { fits = lit< tt }), (((rawptr_Lawful 𝓛).typed l (ptr_val l ∷ []) refl).0, ((tt, record { fits = fits }), tt)))) $
        sets ! (bin ! (get ! refl) (lit ! tt) (tests_null null_ptr (lit< tt))) refl (tt, tt) $
        first ! $ branches ! (get ! refl)
        (λ t. sets ! (of_opd ! (lit ! tt)) refl (tt, record { fits = lit< tt }) $ returns_within ! (Post null_ptr l n) refl (look_at ! 0 refl) $ free_all ! refl $
        owned ! usize (Is usize) (uint_Makes 𝓛 w64) 0 (vint w64 0 ∷ []) (refl, lit< tt) $ by ! (exits null_ptr l n 0 (vint w64 0) xs (refl, refl)))
        (λ t. absurd t))

    -- the length alone, where there is no room
    no_room : (b o : ℕ) → Testable (block_ptr b o)
        → ent 𝓤 (sep 𝓤 (sem 𝓛 (part_at Row full_share c b o)) (sep 𝓤 (sem 𝓛 (ghosts.dealloc_token a (bare (lone Row.mir)) (block_ptr b o))) (sem 𝓛 (room_at null_ptr n xs)))) (Runs (block_ptr b o) null_ptr n)
    no_room b o may =
        let p = block_ptr b o in
        qed 𝓛 (‵ (part_at Row full_share c b o) ∷ ‵ (ghosts.dealloc_token a (bare (lone Row.mir)) (block_ptr b o)) ∷ ‵ (room_at null_ptr n xs) ∷ []) ∵
        enter ! C Λ code.function (word a ∷ vptr b o ∷ vnull ∷ vint w64 n ∷ []) _ $
        alloc_all ! (λ ls. pass_all ! refl (((heap_laws.the_row_laws.lawful 𝓛).typed a (word a ∷ []) is_a).0, ((tt, tt), ((tt, record { fits = lit< tt }), ((tt, record { fits = fits }), tt)))) $
        let En = env code.Mir.locals ls in
        sets ! (bin ! (get ! refl) (lit ! tt) (tests_null p may)) refl (tt, tt) $
        first ! $ branches ! (get ! refl) (λ t. absurd t) (λ t. skips ! $ exec ! C Λ En code.Mir.t-3 (at_ret En (Post p null_ptr n)) $
        sets ! (of_opd ! (get ! refl)) refl (tt, tt) $
        sets ! (bin ! (get ! refl) (lit ! tt) (tests_null null_ptr (lit< tt))) refl (tt, tt) $
        first ! $ branches ! (get ! refl) (λ s.
        sets ! (addr ! (through ! refl (stop !))) refl (tt, tt) $
        lft_new ! tt (λ α. move ! (1 ∷ 0 ∷ []) $
        use2 𝓛 (later ((‵ ((ShrRef (named 0) (α ∷ []) Row).own_val (record { ref_ptr = (b, o); now = c }) (vptr b o ∷ [])) ⊛ ‵ (flent (α ∷ []) (part_at Row full_share c b o))) ⊛ ‵ (flft (α ∷ []) full_share)))
        (lends_shr 𝓛 Row (named 0) (α ∷ []) full_share c b o [] (checker_laws.the_row_laws.shares 𝓛 c) ((α ∷ [], full_share) ∷ []) (⊑_static (α ∷ [])) (Incl-refl (α ∷ []))) $ await ! tt $ split ! $ split ! $
        let z : (Len 𝓛 at_mem run).Ghost = (((α ∷ [], tt), (full_share, tt), tt, (record { ref_ptr = (b, o); now = c }, tt), (vptr b o ∷ [], tt)), tt) in
        -- [the loan; its way back; the token of α; the token; the room]
        nothing ! $ move ! (1 ∷ 0 ∷ []) $ fjoin ! $ nothing ! $ move ! (3 ∷ 0 ∷ []) $ join ! $ join ! $
        nothing ! $ move ! (1 ∷ 0 ∷ []) $ use2 𝓛 (raw ((Len 𝓛 at_mem run).pre z)) (id⊢ 𝓤 _) $
        calls_at ! fm (Len 𝓛 at_mem run) known_len z (and_then ! (get ! refl) (no_more !)) (λ v.
        use1 𝓛 (later (some (λ (r : ℕ). ((‵ (flft (α ∷ []) full_share) ⊛ ‵ ftrue) ⊛ ‵ (usize.own_val r (v ∷ []))) ⊛
        some (λ (ws : Unit {0} × Unit {0}). ‵ (lasts len.ended z.0.0 z.0.3 ws) ⊛ raw (fact 𝓤 (IsLength c r)))))) (id⊢ 𝓤 _) $ await ! tt $ pick ! (λ r.
        split ! $ split ! $ split ! $ lft_end ! tt $
        -- [α is over; nothing; the result; the rest; the way back; the token; the room]
        move ! (0 ∷ 4 ∷ []) $ lent_back ! tt $ move ! (3 ∷ []) $ pick ! (λ ws. split ! $ drop ! $ heard ! (IsLength c r) (λ is.
        -- [the checker; nothing; the result; the token; the room]
        move ! (2 ∷ []) $ peeks ! usize (Is usize) (shows 𝓛 usize) r (v ∷ []) (λ number.
        lands_as ! refl refl ((uint_Lawful 𝓛 w64).typed r (v ∷ []) number).0 $ returns_within ! (Post p null_ptr n) refl (look_at ! 0 refl) $ free_all ! refl $
        keep ! (1 ∷ 3 ∷ 0 ∷ 4 ∷ []) $ fjoin ! $ move ! (1 ∷ 0 ∷ []) $ by ! (exits p null_ptr n r v xs (is, refl))))))))) (λ s. absurd s)))

  -- neither is null
  module _ (is_a : Is Heap a (word a ∷ [])) (b o b' o' : ℕ) where
    abbrev n : ℕ
    n = length xs

    abbrev p : Ptr
    p = block_ptr b o

    abbrev l : Ptr
    l = block_ptr b' o'

    abbrev Token : Fml
    Token = ghosts.dealloc_token a (bare (lone Row.mir)) (block_ptr b o)

    abbrev Small : Type 0
    Small = (o' < 2 ^ 63) × (n < 2 ^ 63)

    put : Small → (r : ℕ) (v : Val) (new : List ℕ) → IsWhy c xs new r → length new ≡ n
        → ent 𝓤 (sep 𝓤 (sem 𝓛 (part_at Row full_share c b o)) (sep 𝓤 (sem 𝓛 Token) (sep 𝓤 (sem 𝓛 (cells (mem u8) new b' o')) (sem 𝓛 (usize.own_val r (v ∷ [])))))) (Post p l n v)
    put small r v new is same =
        qed 𝓛 (‵ (part_at Row full_share c b o) ∷ ‵ Token ∷ ‵ (cells (mem u8) new b' o') ∷ ‵ (usize.own_val r (v ∷ [])) ∷ []) ∵
        fjoin ! $ move ! (1 ∷ []) $ use1 𝓛 (‵ (bytes full_share new b' o')) (cells_out 𝓛 new b' o') $
        feq_i ! ℕ (length new) n same $ fjoin ! $ use1 𝓛 (‵ (part_at (Array u8 n) full_share new b' o')) (bytes_whole 𝓛 full_share n new b' o') $
        nothing ! $ fpack ! Small (λ _. ftrue) small $ fjoin ! $ move ! (2 ∷ 1 ∷ 0 ∷ []) $ by ! (exits p l n r v new is)

    walk : Testable p → Small → ent 𝓤 (sep 𝓤 (sem 𝓛 (bytes full_share xs b' o')) (sep 𝓤 (sem 𝓛 (part_at Row full_share c b o)) (sem 𝓛 Token))) (Runs p l n)
    walk may small =
        let fits : n < 2 ^ 64 = omega (arith, small.1) in
        let room : n * 1 < 2 ^ 63 = omega (arith, small.1) in
        qed 𝓛 (‵ (bytes full_share xs b' o') ∷ ‵ (part_at Row full_share c b o) ∷ ‵ Token ∷ []) ∵
        use1 𝓛 (‵ (cells (mem u8) xs b' o')) (cells_in 𝓛 xs b' o') $
        enter ! C Λ code.function (word a ∷ vptr b o ∷ vptr b' o' ∷ vint w64 n ∷ []) _ $
        alloc_all ! (λ ls. pass_all ! refl (((heap_laws.the_row_laws.lawful 𝓛).typed a (word a ∷ []) is_a).0, ((tt, tt), ((tt, tt), ((tt, record { fits = fits }), tt)))) $
        let En = env code.Mir.locals ls in
        sets ! (bin ! (get ! refl) (lit ! tt) (tests_null p may)) refl (tt, tt) $
        first ! $ branches ! (get ! refl) (λ t. absurd t) (λ t. skips ! $ exec ! C Λ En code.Mir.t-3 (at_ret En (Post p l n)) $
        sets ! (of_opd ! (get ! refl)) refl (tt, tt) $
        sets ! (bin ! (get ! refl) (lit ! tt) (tests_null l small.0)) refl (tt, tt) $
        first ! $ branches ! (get ! refl) (λ s. absurd s) (λ s. skips ! $ exec ! C Λ En code.Mir.t-6 (at_ret En (Post p l n)) $
        sets ! (addr ! (through ! refl (stop !))) refl (tt, tt) $
        sets ! (agg ! (and_then ! (get ! refl) (and_then ! (get ! refl) (no_more !)))) refl (tt, (tt, (record { fits = fits }, tt))) $
        -- [the cells; the checker; the token]
        lft_new ! tt (λ α. move ! (2 ∷ 0 ∷ []) $
        use2 𝓛 (later ((‵ ((ShrRef (named 0) (α ∷ []) Row).own_val (record { ref_ptr = (b, o); now = c }) (vptr b o ∷ [])) ⊛ ‵ (flent (α ∷ []) (part_at Row full_share c b o))) ⊛ ‵ (flft (α ∷ []) full_share)))
        (lends_shr 𝓛 Row (named 0) (α ∷ []) full_share c b o [] (checker_laws.the_row_laws.shares 𝓛 c) ((α ∷ [], full_share) ∷ []) (⊑_static (α ∷ [])) (Incl-refl (α ∷ []))) $ await ! tt $ split ! $ split ! $
        -- [the loan; its way back; the token of α; the cells; the token]
        lft_new ! tt (λ β. move ! (4 ∷ []) $
        use1 𝓛 (later (some (λ (γ : ℕ). ‵ ((MutSlice (named 0) (β ∷ []) u8).own_val (record { ref_ptr = (b', o'); ghost_name = γ; now = xs }) (slice_val (b', o') n ∷ [])) ⊛ ‵ (flent (β ∷ []) (Held u8 n b' o' γ)))))
        (lends_slice 𝓛 u8 (named 0) (β ∷ []) xs b' o' (fits, room)) $ await ! tt $ pick ! (λ γ. split ! $
        -- [the slice; its way back; the token of β; the loan; its way back; the token of α; the token]
        let z : (Of 𝓛 at_mem run).Ghost =
        ((((α ∷ []), ((β ∷ []), tt)), (full_share, (full_share, tt)), tt, (record { ref_ptr = (b, o); now = c }, (record { ref_ptr = (b', o'); ghost_name = γ; now = xs }, tt)), (vptr b o ∷ [], (slice_val (b', o') n ∷ [], tt))), tt) in
        nothing ! $ move ! (1 ∷ 0 ∷ []) $ fjoin ! $ move ! (3 ∷ 0 ∷ []) $ fjoin ! $
        -- [what is passed; the slice's way back; the token of β; the loan's way back; the token of α; the token]
        nothing ! $ move ! (3 ∷ 0 ∷ []) $ join ! $ move ! (4 ∷ 0 ∷ []) $ join ! $ join ! $
        nothing ! $ move ! (1 ∷ 0 ∷ []) $ use2 𝓛 (raw ((Of 𝓛 at_mem run).pre z)) (id⊢ 𝓤 _) $
        -- [the call; the slice's way back; the loan's way back; the token]
        calls_at ! fm (Of 𝓛 at_mem run) known z (and_then ! (get ! refl) (and_then ! (get ! refl) (no_more !))) (λ v.
        use1 𝓛 (later (some (λ (r : ℕ). ((‵ (flft (α ∷ []) full_share) ⊛ ‵ (flft (β ∷ []) full_share) ⊛ ‵ ftrue) ⊛ ‵ (usize.own_val r (v ∷ []))) ⊛
        some (λ (ws : Unit {0} × (List ℕ × Unit {0})). ‵ (lasts of.ended z.0.0 z.0.3 ws) ⊛ raw (fact 𝓤 (IsWhy c xs ws.1.0 r)))))) (id⊢ 𝓤 _) $ await ! tt $ pick ! (λ r.
        split ! $ split ! $ split ! $ lft_end ! tt $ move ! (1 ∷ []) $ split ! $ lft_end ! tt $
        -- [β is over; nothing; α is over; the result; the rest; the slice's way back; the loan's way back; the token]
        move ! (2 ∷ 6 ∷ []) $ lent_back ! tt $
        -- [the checker; β is over; nothing; the result; the rest; the slice's way back; the token]
        move ! (4 ∷ []) $ pick ! (λ ws. split ! $ move ! (1 ∷ []) $ heard ! (IsWhy c xs ws.1.0 r) (λ is. fsplit ! $ move ! (1 ∷ []) $ fsplit ! $ fsplit ! $ fsplit ! $
        -- [the last value; its length; the borrow; nothing; nothing; the checker; β is over; nothing; the result; the slice's way back; the token]
        move ! (6 ∷ 9 ∷ 0 ∷ []) $ use3 𝓛 (later (‵ (fsep (feq ℕ (length ws.1.0) n) (cells (mem u8) ws.1.0 b' o')))) (slice_back 𝓛 u8 (β ∷ []) γ ws.1.0 n b' o') $ await ! tt $ fsplit ! $ feq_l ! (λ same.
        -- [the cells; its length; the borrow; nothing; nothing; the checker; nothing; the result; the token]
        move ! (7 ∷ []) $ peeks ! usize (Is usize) (shows 𝓛 usize) r (v ∷ []) (λ number.
        lands_as ! refl refl ((uint_Lawful 𝓛 w64).typed r (v ∷ []) number).0 $ returns ! (look_at ! 0 refl) $ free_all ! refl $ keep ! (6 ∷ 8 ∷ 1 ∷ 0 ∷ []) $ by ! (put small r v ws.1.0 is same)))))))))))))

  abbrev Entry : Ptr → Ptr → ℕ → SProp 𝓤
  Entry p l n = on_entry 𝓛 f.signature tt tt (a, (p, (l, (n, tt)))) (word a ∷ [], (rawptr_vals p, (rawptr_vals l, (vint w64 n ∷ [], tt))))

  -- by the pointers' forms
  at_each : Is Heap a (word a ∷ []) → (p l : Ptr) (n : ℕ) → n < 2 ^ 64 → ent 𝓤 (sep 𝓤 (Entry p l n) (sep 𝓤 (sem 𝓛 (service_at a p c)) (sem 𝓛 (room_at l n xs)))) (Runs p l n)
  at_each is_a null_ptr l n fits =
      qed 𝓛 (raw (Entry null_ptr l n) ∷ (‵ (service_at a null_ptr c) ⊛ ‵ (room_at l n xs)) ∷ []) ∵ drop ! $ split ! $ by ! (no_service is_a n fits l)
  at_each is_a (block_ptr b o) null_ptr n fits =
      qed 𝓛 (raw (Entry (block_ptr b o) null_ptr n) ∷ (‵ (service_at a (block_ptr b o) c) ⊛ ‵ (room_at null_ptr n xs)) ∷ []) ∵ drop ! $ split ! $
      use1 𝓛 (given (Testable (block_ptr b o)) (‵ (service_at a (block_ptr b o) c))) (tested 𝓛 a b o c) $ learn ! (λ may. fsplit ! $ by ! (no_room is_a n fits b o may))
  at_each is_a (block_ptr b o) (block_ptr b' o') n fits =
      qed 𝓛 (raw (Entry (block_ptr b o) (block_ptr b' o') n) ∷ (‵ (service_at a (block_ptr b o) c) ⊛ ‵ (room_at (block_ptr b' o') n xs)) ∷ []) ∵ drop ! $ split ! $
      use1 𝓛 (given (Testable (block_ptr b o)) (‵ (service_at a (block_ptr b o) c))) (tested 𝓛 a b o c) $ learn ! (λ may. fsplit ! $ move ! (2 ∷ []) $ fsplit ! $ fpick ! (λ small. drop ! $
      -- [the room; the checker; the token]
      use1 𝓛 (‵ (fsep (feq ℕ (length xs) n) (bytes full_share xs b' o'))) (bytes_apart 𝓛 full_share n xs b' o') $ fsplit ! $ feq_l ! (λ e.
      by ! (subst (λ (m : ℕ). (o' < 2 ^ 63) × (m < 2 ^ 63) → ent 𝓤 (sep 𝓤 (sem 𝓛 (bytes full_share xs b' o')) (sep 𝓤 (sem 𝓛 (part_at Row full_share c b o)) (sem 𝓛 (Token is_a b o b' o')))) (Runs (block_ptr b o) (block_ptr b' o') m)) e (walk is_a b o b' o' may) small))))

pub lynx_service_why_spec : {M : Type 1} → statement M
lynx_service_why_spec 𝓤 𝓛 𝓜 𝓡 wired =
    let goes = Goes-dropped 𝓛 0 (plain (λ _. RawPtr)) yes (λ κs x w. refl) in let c = f.clauses 𝓛 𝓜.mem 𝓡.returns in
    proved 𝓛 f.ended stayed c 𝓜 𝓡 (Goes-dropped 𝓛 0 (plain (λ _. Heap)) yes (λ κs x w. refl), (goes, (goes, (Goes-dropped 𝓛 0 (plain (λ _. usize)) yes (λ κs x w. refl), tt))))
    f.Key.name code.function (code.unfolded 𝓤 𝓛.H 𝓜 𝓡 wired)
    (λ κs. ((λ a. word a ∷ []), (rawptr_vals, (rawptr_vals, (uint_vals w64, tt))))) (λ κs. (heap_laws.lowers.val_is, (rawptr_Tells, (rawptr_Tells, (uint_Tells w64, tt)))))
    (λ κs qs bounds a g are. at_each 𝓛 𝓜.mem 𝓡.returns (tables 𝓤 𝓛.H 𝓜 𝓡 𝓡.env).C (tables 𝓤 𝓛.H 𝓜 𝓡 𝓡.env).Λ (framed 𝓤 𝓛.H 𝓜 (tables 𝓤 𝓛.H 𝓜 𝓡 𝓡.env))
    (of_thm.met 𝓤 𝓛 𝓜 𝓡 (code.calls-lynx_service_c::service::words 𝓡.env wired)) (len_thm.met 𝓤 𝓛 𝓜 𝓡 (code.calls-lynx_service_c::service::length_of_words 𝓡.env wired)) a.0 g.0 g.1 are.0 a.1.0 a.1.1.0 a.1.1.1.0 are.1.1.1.0.1)
