-- A line is told through the pointers, where neither is null.
use Rattle.lynx_service_c.proofs.Steps.{ℕ, ℤ, ◌<◌, ◌^◌, ◌*◌, List, [], ◌∷◌, length, refl, subst, arith, lit<, pos, w8, w32, w64, proved, leaves, Ura, full_share, SProp, ent, sep, id⊢, Share, Fml, ftrue, fsep, flft, flent, feq, Incl-refl, named, Val, vint, vptr, vnull, Memory, Routine, Calls, Loops, WpFn, Logic, sem, Fun, fact, tables, FmC}
use Rattle.lynx_service_c.proofs.Steps.{‵, raw, ◌⊛◌, some, later, given, at_ret, ◌$◌, ◌∵◌, !, qed, by, move, keep, drop, use1, use2, use3, split, join, fsplit, fjoin, fpick, fpack, feq_i, feq_l, pick, await, learn, lft_new, lft_end, lent_back, enter, of_opd, lit, bin, addr, stop, no_more, and_then, first, branches, skips, exec, returns, returns_within, agg, alloc_all, pass_all, free_all, look_at, get, through, sets, lands_as, env, Body}
use Rattle.lynx_service_c.proofs.Steps.{u8, i32, usize, yes, Is, shows, part_at, mem, uint_vals, uint_Tells, sint_Lawful, sint_Makes, ShrSlice, slice_val, Array, lends_ref, ref_back, lends_shr_slice, uint_Copied, MutRef, Ptr, RawPtr, block_ptr, null_ptr, ptr_val, Testable, tests_null, rawptr_vals, rawptr_Tells, rawptr_Lawful, bytes, bytes_apart, bytes_whole, plain, nothing, owned, peeks, heard, Contract, Triple, calls_at, lasts, triple_of, framed, Stays, stay_dropped, Goes-dropped, walk_of}
use Rattle.lynx_service_c.proofs.Steps.{Global, Heap, ghosts, Checker, Row}
use denote.Memory.{lone}
use mir.Raw.{raw as bare}
use denote.RattleType.{owns}
use denote.Signature.{types_at}
use denote.Triple.Entry.{on_entry}
use Rattle.std.proofs.alloc.Global.TheLaws as heap_laws
use Rattle.lynx_service_c.proofs.Given.{word, tested}
use Rattle.lynx_service_c.specs.Memory.{known as fact_of, IsLine, bytes_at, left_by_line, service_at}
use Rattle.lynx_service_c.specs.Service.{IsTold}
use Rattle.lynx_service_c.specs.contracts.service.told as of
use Rattle.lynx_service_c.proofs.service.told.Symbol.{name as #told}
use Rattle.lynx_service_c.proofs.service.told.Met as of_thm
use Rattle.lynx_service_c.specs.contracts.exports.lynx_service_line as f
use Rattle.lynx_service_c.proofs.exports.lynx_service_line.Statement.{statement}
use Rattle.lynx_service_c.proofs.exports.lynx_service_line.Code as code

abbrev stayed : Stays f.ended.signature.params f.ended.kept
stayed = (stay_dropped _ yes, (stay_dropped _ yes, (stay_dropped _ yes, (stay_dropped _ yes, tt))))

module _ {M : Type 1} {𝓤 : Ura M} (𝓛 : Logic 𝓤) (at_mem : Memory → SProp 𝓤) (run : Routine → Fun 𝓤) where
  abbrev Of : Contract 𝓤
  Of = triple_of 𝓛 of.signature (of.spec 𝓛 at_mem run)

module _ {M : Type 1} {𝓤 : Ura M} (𝓛 : Logic 𝓤) (at_mem : Memory → SProp 𝓤) (run : Routine → Fun 𝓤) (C : Calls 𝓤 𝓛.H) (Λ : Loops 𝓤 𝓛.H) (fm : FmC 𝓤 𝓛.H 𝓛.laws C)
    (known : Triple 𝓤 (C #told) (Of 𝓛 at_mem run)) (a : Global) (c : Checker) (q : Share) (xs : List ℕ) where
  abbrev bound : Ptr → Ptr → ℕ → (walk_of 𝓛 f.ended stayed (f.clauses 𝓛 at_mem run)).Ghost
  bound p l n = ((tt, tt, tt, (a, (p, (l, (n, tt)))), (word a ∷ [], (rawptr_vals p, (rawptr_vals l, (vint w64 n ∷ [], tt))))), (c, q, xs))

  abbrev Post : Ptr → Ptr → ℕ → Val → SProp 𝓤
  Post p l n = (walk_of 𝓛 f.ended stayed (f.clauses 𝓛 at_mem run)).post (bound p l n)

  abbrev Runs : Ptr → Ptr → ℕ → SProp 𝓤
  Runs p l n = WpFn 𝓤 𝓛.H C Λ code.function (word a ∷ ptr_val p ∷ ptr_val l ∷ vint w64 n ∷ []) (Post p l n)

  -- what is left at the return
  exits : (p l : Ptr) (n : ℕ) (r : ℤ) (v : Val) → ent 𝓤 (sep 𝓤 (sem 𝓛 (left_by_line a p l n c q xs r)) (sem 𝓛 (i32.own_val r (v ∷ [])))) (Post p l n v)
  exits p l n r v =
      qed 𝓛 (‵ (left_by_line a p l n c q xs r) ∷ ‵ (i32.own_val r (v ∷ [])) ∷ []) ∵
      nothing ! $ nothing ! $ fjoin ! $ nothing ! $ fjoin ! $ nothing ! $ fjoin ! $ nothing ! $ fjoin ! $ nothing ! $ move ! (0 ∷ 1 ∷ 3 ∷ []) $
      by ! (leaves 𝓛 f.ended stayed (f.clauses 𝓛 at_mem run) (bound p l n) v r (tt, (tt, (tt, (tt, tt)))) (tt, (tt, (tt, (tt, tt)))))

  -- a pointer is null
  refused : (p l : Ptr) (n : ℕ) → IsLine p l c xs c (pos 1) → ent 𝓤 (sep 𝓤 (sem 𝓛 (service_at a p c)) (sem 𝓛 (bytes_at q l n xs))) (Post p l n (vint w32 1))
  refused p l n is =
      qed 𝓛 (‵ (service_at a p c) ∷ ‵ (bytes_at q l n xs) ∷ []) ∵
      fjoin ! $ nothing ! $ fpack ! (IsLine p l c xs c (pos 1)) (λ _. ftrue) is $ fjoin ! $
      fpack ! Checker (λ new. fsep (fact_of (IsLine p l c xs new (pos 1))) (fsep (service_at a p new) (bytes_at q l n xs))) c $
      owned ! i32 (Is i32) (sint_Makes 𝓛 w32) (pos 1) (vint w32 1 ∷ []) (refl, lit< tt) $ move ! (1 ∷ []) $ by ! (exits p l n (pos 1) (vint w32 1))

  module _ (is_a : Is Heap a (word a ∷ [])) (n : ℕ) (fits : n < 2 ^ 64) where
    no_service : (l : Ptr) → ent 𝓤 (sep 𝓤 (sem 𝓛 (service_at a null_ptr c)) (sem 𝓛 (bytes_at q l n xs))) (Runs null_ptr l n)
    no_service l =
        qed 𝓛 (‵ (service_at a null_ptr c) ∷ ‵ (bytes_at q l n xs) ∷ []) ∵ enter ! C Λ code.function (word a ∷ vnull ∷ ptr_val l ∷ vint w64 n ∷ []) _ $
        alloc_all ! (λ ls. pass_all ! refl (((heap_laws.the_row_laws.lawful 𝓛).typed a (word a ∷ []) is_a).0, ((tt, record { fits = lit< tt }), (((rawptr_Lawful 𝓛).typed l (ptr_val l ∷ []) refl).0, ((tt, record { fits = fits }), tt)))) $
        sets ! (bin ! (get ! refl) (lit ! tt) (tests_null null_ptr (lit< tt))) refl (tt, tt) $
        first ! $ branches ! (get ! refl)
        (λ t. sets ! (of_opd ! (lit ! tt)) refl (tt, record { fits = lit< tt }) $ returns_within ! (Post null_ptr l n) refl (look_at ! 0 refl) $ free_all ! refl $ by ! (refused null_ptr l n (refl, refl)))
        (λ t. absurd t))

    no_line : (b o : ℕ) → ent 𝓤 (sep 𝓤 (sem 𝓛 (service_at a (block_ptr b o) c)) (sem 𝓛 (bytes_at q null_ptr n xs))) (Runs (block_ptr b o) null_ptr n)
    no_line b o =
        qed 𝓛 (‵ (service_at a (block_ptr b o) c) ∷ ‵ (bytes_at q null_ptr n xs) ∷ []) ∵
        use1 𝓛 (given (Testable (block_ptr b o)) (‵ (service_at a (block_ptr b o) c))) (tested 𝓛 a b o c) $ learn ! (λ may.
        enter ! C Λ code.function (word a ∷ vptr b o ∷ vnull ∷ vint w64 n ∷ []) _ $
        alloc_all ! (λ ls. pass_all ! refl (((heap_laws.the_row_laws.lawful 𝓛).typed a (word a ∷ []) is_a).0, ((tt, tt), ((tt, record { fits = lit< tt }), ((tt, record { fits = fits }), tt)))) $
        sets ! (bin ! (get ! refl) (lit ! tt) (tests_null (block_ptr b o) may)) refl (tt, tt) $
        first ! $ branches ! (get ! refl) (λ t. absurd t) (λ t. skips ! $ exec ! C Λ (env code.Mir.locals ls) code.Mir.t-3 (at_ret (env code.Mir.locals ls) (Post (block_ptr b o) null_ptr n)) $
        sets ! (bin ! (get ! refl) (lit ! tt) (tests_null null_ptr (lit< tt))) refl (tt, tt) $
        first ! $ branches ! (get ! refl)
        (λ s. sets ! (of_opd ! (lit ! tt)) refl (tt, record { fits = lit< tt }) $ returns_within ! (Post (block_ptr b o) null_ptr n) refl (look_at ! 0 refl) $ free_all ! refl $ by ! (refused (block_ptr b o) null_ptr n (refl, refl)))
        (λ s. absurd s))))

  -- neither is null
  module _ (is_a : Is Heap a (word a ∷ [])) (b o b' o' : ℕ) where
    abbrev n : ℕ
    n = length xs

    abbrev p : Ptr
    p = block_ptr b o

    abbrev l : Ptr
    l = block_ptr b' o'

    abbrev Counted : Fml
    Counted = fsep (feq ℕ n n) (bytes q xs b' o')

    abbrev Token : Fml
    Token = ghosts.dealloc_token a (bare (lone Row.mir)) (block_ptr b o)

    abbrev Small : Type 0
    Small = (o' < 2 ^ 63) × (n < 2 ^ 63)

    told : Small → (new : Checker) (r : ℤ) (v : Val) → IsTold c xs new r → ent 𝓤 (sep 𝓤 (sem 𝓛 (part_at Row full_share new b o)) (sep 𝓤 (sem 𝓛 Token) (sep 𝓤 (sem 𝓛 Counted) (sem 𝓛 (i32.own_val r (v ∷ [])))))) (Post p l n v)
    told small new r v is =
        qed 𝓛 (‵ (part_at Row full_share new b o) ∷ ‵ Token ∷ ‵ Counted ∷ ‵ (i32.own_val r (v ∷ [])) ∷ []) ∵
        fjoin ! $ move ! (1 ∷ []) $ use1 𝓛 (‵ (part_at (Array u8 n) q xs b' o')) (bytes_whole 𝓛 q n xs b' o') $
        nothing ! $ fpack ! Small (λ _. ftrue) small $ fjoin ! $ move ! (1 ∷ 0 ∷ []) $ fjoin ! $
        nothing ! $ fpack ! (IsLine p l c xs new r) (λ _. ftrue) is $ fjoin ! $
        fpack ! Checker (λ new'. fsep (fact_of (IsLine p l c xs new' r)) (fsep (service_at a p new') (bytes_at q l n xs))) new $ by ! (exits p l n r v)

    walk : Testable p → Small → ent 𝓤 (sep 𝓤 (sem 𝓛 Counted) (sep 𝓤 (sem 𝓛 (part_at Row full_share c b o)) (sep 𝓤 (sem 𝓛 Token) (sem 𝓛 (Heap.own_val a (word a ∷ [])))))) (Runs p l n)
    walk may small =
        let fits : n < 2 ^ 64 = omega (arith, small.1) in
        let room : n * 1 < 2 ^ 63 = omega (arith, small.1) in
        qed 𝓛 (‵ Counted ∷ ‵ (part_at Row full_share c b o) ∷ ‵ Token ∷ ‵ (Heap.own_val a (word a ∷ [])) ∷ []) ∵
        enter ! C Λ code.function (word a ∷ vptr b o ∷ vptr b' o' ∷ vint w64 n ∷ []) _ $
        alloc_all ! (λ ls. pass_all ! refl (((heap_laws.the_row_laws.lawful 𝓛).typed a (word a ∷ []) is_a).0, ((tt, tt), ((tt, tt), ((tt, record { fits = fits }), tt)))) $
        let En = env code.Mir.locals ls in
        sets ! (bin ! (get ! refl) (lit ! tt) (tests_null p may)) refl (tt, tt) $
        first ! $ branches ! (get ! refl) (λ t. absurd t) (λ t. skips ! $ exec ! C Λ En code.Mir.t-3 (at_ret En (Post p l n)) $
        sets ! (bin ! (get ! refl) (lit ! tt) (tests_null l small.0)) refl (tt, tt) $
        first ! $ branches ! (get ! refl) (λ s. absurd s) (λ s. skips ! $ exec ! C Λ En code.Mir.t-5 (at_ret En (Post p l n)) $
        sets ! (of_opd ! (get ! refl)) refl (tt, tt) $
        sets ! (addr ! (through ! refl (stop !))) refl (tt, tt) $
        sets ! (agg ! (and_then ! (get ! refl) (and_then ! (get ! refl) (no_more !)))) refl (tt, (tt, (record { fits = fits }, tt))) $
        -- [the bytes; the checker; the token; the allocator]
        lft_new ! tt (λ α. move ! (2 ∷ []) $
        use1 𝓛 (later (some (λ (γ : ℕ). ‵ ((MutRef (named 0) (α ∷ []) Row).own_val (record { ref_ptr = (b, o); ghost_name = γ; now = c }) (vptr b o ∷ [])) ⊛ ‵ (flent (α ∷ []) (Body (mem Row) b o γ)))))
        (lends_ref 𝓛 Row (named 0) (α ∷ []) c b o) $ await ! tt $ pick ! (λ γ. split ! $
        -- [the loan; its way back; the token of α; the bytes; the token; the allocator]
        lft_new ! tt (λ β. move ! (4 ∷ 0 ∷ []) $
        use2 𝓛 (later ((‵ ((ShrSlice (named 0) (β ∷ []) u8).own_val (record { ref_ptr = (b', o'); now = xs }) (slice_val (b', o') n ∷ [])) ⊛ ‵ (flent (β ∷ []) Counted)) ⊛ ‵ (flft (β ∷ []) full_share)))
        (lends_shr_slice 𝓛 u8 (named 0) (β ∷ []) q xs b' o' (fits, room) (β ∷ []) ((uint_Copied 𝓛 w8).shares q (β ∷ [])) ((β ∷ [], full_share) ∷ []) (Incl-refl (β ∷ [])) (Incl-refl (β ∷ []))) $ await ! tt $ split ! $ split ! $
        -- [the slice; its way back; the token of β; the loan; its way back; the token of α; the token; the allocator]
        let z : (Of 𝓛 at_mem run).Ghost = (
          (
            (α ∷ [], (β ∷ [], tt)),
            (full_share, (full_share, tt)),
            tt,
            (a, (record { ref_ptr = (b, o); ghost_name = γ; now = c }, (record { ref_ptr = (b', o'); now = xs }, tt))),
            (word a ∷ [], (vptr b o ∷ [], (slice_val (b', o') n ∷ [], tt))),
          ),
          tt,
        ) in
        nothing ! $ move ! (1 ∷ 0 ∷ []) $ fjoin ! $ move ! (3 ∷ 0 ∷ []) $ fjoin ! $ move ! (6 ∷ 0 ∷ []) $ fjoin ! $
        -- [what is passed; the slice's way back; the token of β; the loan's way back; the token of α; the token]
        nothing ! $ move ! (3 ∷ 0 ∷ []) $ join ! $ move ! (4 ∷ 0 ∷ []) $ join ! $ join ! $
        nothing ! $ move ! (1 ∷ 0 ∷ []) $ use2 𝓛 (raw ((Of 𝓛 at_mem run).pre z)) (id⊢ 𝓤 _) $
        -- [the call; the slice's way back; the loan's way back; the token]
        calls_at ! fm (Of 𝓛 at_mem run) known z (and_then ! (get ! refl) (and_then ! (get ! refl) (and_then ! (get ! refl) (no_more !)))) (λ v.
        use1 𝓛 (later (some (λ (r : ℤ). ((‵ (flft (α ∷ []) full_share) ⊛ ‵ (flft (β ∷ []) full_share) ⊛ ‵ ftrue) ⊛ ‵ (i32.own_val r (v ∷ []))) ⊛
        some (λ (ws : Unit {0} × (Checker × (Unit {0} × Unit {0}))). ‵ (lasts of.ended z.0.0 z.0.3 ws) ⊛ raw (fact 𝓤 (IsTold c xs ws.1.0 r)))))) (id⊢ 𝓤 _) $ await ! tt $ pick ! (λ r.
        split ! $ split ! $ split ! $ lft_end ! tt $ move ! (1 ∷ []) $ split ! $ lft_end ! tt $
        -- [β is over; nothing; α is over; the result; the rest; the slice's way back; the loan's way back; the token]
        move ! (0 ∷ 5 ∷ []) $ lent_back ! tt $ move ! (4 ∷ []) $ pick ! (λ ws. split ! $ move ! (1 ∷ []) $ heard ! (IsTold c xs ws.1.0 r) (λ is.
        fsplit ! $ move ! (1 ∷ []) $ fsplit ! $ fsplit ! $
        -- [the last value; its borrow; nothing; nothing; the bytes; nothing; α is over; the result; the loan's way back; the token]
        move ! (6 ∷ 8 ∷ 0 ∷ []) $ use3 𝓛 (later (‵ (part_at Row full_share ws.1.0 b o))) (ref_back 𝓛 Row (α ∷ []) γ ws.1.0 b o) $ await ! tt $
        -- [the checker; its borrow; nothing; nothing; the bytes; nothing; the result; the token]
        move ! (6 ∷ []) $ peeks ! i32 (Is i32) (shows 𝓛 i32) r (v ∷ []) (λ number.
        let good = ((sint_Lawful 𝓛 w32).typed r (v ∷ []) number).0 in
        lands_as ! refl refl good $ returns ! (look_at ! 0 refl) $ free_all ! refl $ keep ! (1 ∷ 7 ∷ 5 ∷ 0 ∷ []) $ by ! (told small ws.1.0 r v is))))))))))))

  abbrev Entry : Ptr → Ptr → ℕ → SProp 𝓤
  Entry p l n = on_entry 𝓛 f.signature tt tt (a, (p, (l, (n, tt)))) (word a ∷ [], (rawptr_vals p, (rawptr_vals l, (vint w64 n ∷ [], tt))))

  -- by the pointers' forms
  at_each : Is Heap a (word a ∷ []) → (p l : Ptr) (n : ℕ) → n < 2 ^ 64 → ent 𝓤 (sep 𝓤 (Entry p l n) (sep 𝓤 (sem 𝓛 (service_at a p c)) (sem 𝓛 (bytes_at q l n xs)))) (Runs p l n)
  at_each is_a null_ptr l n fits =
      qed 𝓛 (raw (Entry null_ptr l n) ∷ (‵ (service_at a null_ptr c) ⊛ ‵ (bytes_at q l n xs)) ∷ []) ∵ drop ! $ split ! $ by ! (no_service is_a n fits l)
  at_each is_a (block_ptr b o) null_ptr n fits =
      qed 𝓛 (raw (Entry (block_ptr b o) null_ptr n) ∷ (‵ (service_at a (block_ptr b o) c) ⊛ ‵ (bytes_at q null_ptr n xs)) ∷ []) ∵ drop ! $ split ! $ by ! (no_line is_a n fits b o)
  at_each is_a (block_ptr b o) (block_ptr b' o') n fits =
      qed 𝓛 ((‵ ftrue ⊛ ‵ (owns (types_at f.signature.params tt) (a, (block_ptr b o, (block_ptr b' o', (n, tt)))) (word a ∷ [], (vptr b o ∷ [], (vptr b' o' ∷ [], (vint w64 n ∷ [], tt))))))
      ∷ (‵ (service_at a (block_ptr b o) c) ⊛ ‵ (bytes_at q (block_ptr b' o') n xs)) ∷ []) ∵
      split ! $ drop ! $ fsplit ! $ move ! (2 ∷ []) $ split ! $
      use1 𝓛 (given (Testable (block_ptr b o)) (‵ (service_at a (block_ptr b o) c))) (tested 𝓛 a b o c) $ learn ! (λ may. fsplit ! $ move ! (2 ∷ []) $ fsplit ! $ fpick ! (λ small. drop ! $
      -- [the bytes; the checker; the token; the allocator; the other parameters]
      use1 𝓛 (‵ (fsep (feq ℕ (length xs) n) (bytes q xs b' o'))) (bytes_apart 𝓛 q n xs b' o') $ fsplit ! $ feq_l ! (λ e. feq_i ! ℕ (length xs) (length xs) refl $ fjoin ! $ keep ! (0 ∷ 1 ∷ 2 ∷ 3 ∷ []) $
      by ! (subst (λ (m : ℕ). (o' < 2 ^ 63) × (m < 2 ^ 63) → ent 𝓤 (sep 𝓤 (sem 𝓛 (Counted is_a b o b' o')) (sep 𝓤 (sem 𝓛 (part_at Row full_share c b o)) (sep 𝓤 (sem 𝓛 (Token is_a b o b' o')) (sem 𝓛 (Heap.own_val a (word a ∷ [])))))) (Runs (block_ptr b o) (block_ptr b' o') m)) e (walk is_a b o b' o' may) small))))

pub lynx_service_line_spec : {M : Type 1} → statement M
lynx_service_line_spec 𝓤 𝓛 𝓜 𝓡 wired =
    let goes = Goes-dropped 𝓛 0 (plain (λ _. RawPtr)) yes (λ κs x w. refl) in let c = f.clauses 𝓛 𝓜.mem 𝓡.returns in
    proved 𝓛 f.ended stayed c 𝓜 𝓡 (Goes-dropped 𝓛 0 (plain (λ _. Heap)) yes (λ κs x w. refl), (goes, (goes, (Goes-dropped 𝓛 0 (plain (λ _. usize)) yes (λ κs x w. refl), tt))))
    f.Key.name code.function (code.unfolded 𝓤 𝓛.H 𝓜 𝓡 wired)
    (λ κs. ((λ a. word a ∷ []), (rawptr_vals, (rawptr_vals, (uint_vals w64, tt))))) (λ κs. (heap_laws.lowers.val_is, (rawptr_Tells, (rawptr_Tells, (uint_Tells w64, tt)))))
    (λ κs qs bounds a g are. at_each 𝓛 𝓜.mem 𝓡.returns (tables 𝓤 𝓛.H 𝓜 𝓡 𝓡.env).C (tables 𝓤 𝓛.H 𝓜 𝓡 𝓡.env).Λ (framed 𝓤 𝓛.H 𝓜 (tables 𝓤 𝓛.H 𝓜 𝓡 𝓡.env))
    (of_thm.met 𝓤 𝓛 𝓜 𝓡 (code.calls-lynx_service_c::service::told 𝓡.env wired)) a.0 g.0 g.1 g.2 are.0 a.1.0 a.1.1.0 a.1.1.1.0 are.1.1.1.0.1)
