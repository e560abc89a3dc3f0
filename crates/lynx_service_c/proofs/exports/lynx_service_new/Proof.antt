-- A service is made, and its pointer put where it is wanted.
use Rattle.lynx_service_c.proofs.Steps.{◌≡◌, ◌∙◌, ℕ, ℤ, ◌<◌, ◌^◌, List, [], ◌∷◌, ◌++◌, refl, ap, subst, lit<, pos, w32, proved, leaves, Ura, full_share, SProp, ent, sep, id⊢, ftrue, fsep, Val, vint, vptr, vnull, Memory, Routine, Calls, Loops, WpFn, Logic, sem, Fun, fact, tables, FmC}
use Rattle.lynx_service_c.proofs.Steps.{‵, raw, ◌⊛◌, some, later, at_ret, ◌$◌, ◌∵◌, !, qed, by, move, keep, drop, use1, use2, split, join, fsplit, fjoin, fpick, fpack, feq_i, pick, await, enter, of_opd, lit, bin, stop, no_more, and_then, first, branches, skips, exec, returns, returns_within, alloc_all, pass_all, free_all, look_at, get, through, sets, sets_last, lands_as, env}
use Rattle.lynx_service_c.proofs.Steps.{i32, yes, Is, part_at, sint_Makes, Ptr, RawPtr, block_ptr, null_ptr, ptr_val, tests_null, rawptr_vals, rawptr_Tells, plain, nothing, owned, only, heard, Contract, Triple, calls_at, lasts, triple_of, framed, Stays, stay_dropped, Goes-dropped, walk_of}
use Rattle.lynx_service_c.proofs.Steps.{Global, Heap, ghosts, Checker, Row}
use base.Fml.{fat, froom}
use borrow.Table.OneValue.{part_in}
use denote.RattleType.{RattleType, owns}
use denote.Signature.{types_at}
use denote.Triple.Entry.{on_entry}
use mir.Syntax.{Body, ty_ptr}
use mir.Val.{of_list}
use prog.Wp.{Wp, after_seq, at_return}
use types.ByLocal.{get_in, get_tag}
use types.Kit.{Post as Ends, any_q}
use types.Match.{live, vrt, in_variant}
use types.Part.{sub, whole}
use types.Run.{assigns, fld, init, switches_on}
use Rattle.core.proofs.alloc.Shapes.{after, head, arm_body}
use Rattle.core.specs.contracts.option.Option as option
use Rattle.core.specs.declared.option.Option.{Option}
use Rattle.std.specs.Prelude.{IfSome}
use Rattle.std_alloc.proofs.ResultValues.{and_tt}
use Rattle.std.proofs.alloc.Global.TheLaws as heap_laws
use Rattle.lynx_service_c.proofs.Given.{word}
use Rattle.lynx_service_c.proofs.Values.{Loose, both, loose_good, loose_out, option_out}
use Rattle.lynx_service_c.specs.Memory.{known as fact_of, made_at, made_of, out_at, service_at}
use Rattle.lynx_service_c.specs.Service.{IsFresh}
use Rattle.lynx_service_c.specs.contracts.service.made as of
use Rattle.lynx_service_c.proofs.service.made.Symbol.{name as #made}
use Rattle.lynx_service_c.proofs.service.made.Met as of_thm
use Rattle.lynx_service_c.specs.contracts.exports.lynx_service_new as f
use Rattle.lynx_service_c.proofs.exports.lynx_service_new.Statement.{statement}
use Rattle.lynx_service_c.proofs.exports.lynx_service_new.Code as code

abbrev stayed : Stays f.ended.signature.params f.ended.kept
stayed = (stay_dropped _ yes, (stay_dropped _ yes, tt))

-- a service as its pointer, and one that may be missing
abbrev Lr : RattleType
Lr = Loose Row Heap heap_laws.the_row_laws ghosts

abbrev Maybe : RattleType
Maybe = option.the_row Lr

abbrev arms : Body
arms = head (after 3 code.function.body)

module _ {M : Type 1} {𝓤 : Ura M} (𝓛 : Logic 𝓤) (at_mem : Memory → SProp 𝓤) (run : Routine → Fun 𝓤) where
  abbrev Of : Contract 𝓤
  Of = triple_of 𝓛 of.signature (of.spec 𝓛 at_mem run)

module _ {M : Type 1} {𝓤 : Ura M} (𝓛 : Logic 𝓤) (at_mem : Memory → SProp 𝓤) (run : Routine → Fun 𝓤) (C : Calls 𝓤 𝓛.H) (Λ : Loops 𝓤 𝓛.H) (fm : FmC 𝓤 𝓛.H 𝓛.laws C)
    (known : Triple 𝓤 (C #made) (Of 𝓛 at_mem run)) (a : Global) where
  open 𝓛 use {H}

  abbrev bound : Ptr → (walk_of 𝓛 f.ended stayed (f.clauses 𝓛 at_mem run)).Ghost
  bound p = ((tt, tt, tt, (a, (p, tt)), (word a ∷ [], (rawptr_vals p, tt))), tt)

  abbrev Post : Ptr → Val → SProp 𝓤
  Post p = (walk_of 𝓛 f.ended stayed (f.clauses 𝓛 at_mem run)).post (bound p)

  abbrev Runs : Ptr → SProp 𝓤
  Runs p = WpFn 𝓤 𝓛.H C Λ code.function (word a ∷ ptr_val p ∷ []) (Post p)

  -- what is left at the return
  exits : (p : Ptr) (n : ℕ) (r : ℤ) → Is i32 r (vint w32 n ∷ []) → ent 𝓤 (sem 𝓛 (made_at a p r)) (Post p (vint w32 n))
  exits p n r is =
      qed 𝓛 (‵ (made_at a p r) ∷ []) ∵ owned ! i32 (Is i32) (sint_Makes 𝓛 w32) r (vint w32 n ∷ []) is $
      nothing ! $ nothing ! $ fjoin ! $ nothing ! $ fjoin ! $ nothing ! $ by ! (leaves 𝓛 f.ended stayed (f.clauses 𝓛 at_mem run) (bound p) (vint w32 n) r (tt, (tt, tt)) (tt, (tt, tt)))

  module _ (is_a : Is Heap a (word a ∷ [])) where
    nowhere : ent 𝓤 (sem 𝓛 ftrue) (Runs null_ptr)
    nowhere =
        qed 𝓛 (‵ ftrue ∷ []) ∵ enter ! C Λ code.function (word a ∷ vnull ∷ []) _ $
        alloc_all ! (λ ls. pass_all ! refl (((heap_laws.the_row_laws.lawful 𝓛).typed a (word a ∷ []) is_a).0, ((tt, record { fits = lit< tt }), tt)) $
        sets ! (bin ! (get ! refl) (lit ! tt) (tests_null null_ptr (lit< tt))) refl (tt, tt) $
        first ! $ branches ! (get ! refl)
        (λ t. sets ! (of_opd ! (lit ! tt)) refl (tt, record { fits = lit< tt }) $ returns_within ! (Post null_ptr) refl (look_at ! 0 refl) $ free_all ! refl $
        fpack ! (pos 1 ≡ pos 1) (λ _. ftrue) refl $ by ! (exits null_ptr 1 (pos 1) (refl, lit< tt)))
        (λ t. absurd t))

    -- the pointer that was put
    put : (b o : ℕ) (p : Ptr) (r : ℤ) (n : ℕ) → Is i32 r (vint w32 n ∷ []) → ent 𝓤 (sep 𝓤 (H.at full_share ty_ptr b o (ptr_val p)) (sem 𝓛 (made_of a p r))) (Post (block_ptr b o) (vint w32 n))
    put b o p r n is =
        qed 𝓛 (‵ (fat full_share ty_ptr b o (ptr_val p)) ∷ ‵ (made_of a p r) ∷ []) ∵ feq_i ! (List Val) (ptr_val p ∷ []) (ptr_val p ∷ []) refl $ move ! (1 ∷ 0 ∷ []) $
        use2 𝓛 (‵ (part_at RawPtr full_share p b o)) (part_in 𝓛 RawPtr refl full_share p b o (ptr_val p)) $ fjoin ! $
        fpack ! Ptr (λ p. fsep (part_at RawPtr full_share p b o) (made_of a p r)) p $ by ! (exits (block_ptr b o) n r is)

    walk : (b o : ℕ) → o < 2 ^ 63 → ent 𝓤 (sep 𝓤 (sem 𝓛 (froom ty_ptr b o)) (sem 𝓛 (Heap.own_val a (word a ∷ [])))) (Runs (block_ptr b o))
    walk b o may =
        let p = block_ptr b o in
        let z : (Of 𝓛 at_mem run).Ghost = ((tt, tt, tt, (a, tt), (word a ∷ [], tt)), tt) in
        qed 𝓛 (‵ (froom ty_ptr b o) ∷ ‵ (Heap.own_val a (word a ∷ [])) ∷ []) ∵ enter ! C Λ code.function (word a ∷ vptr b o ∷ []) _ $
        alloc_all ! (λ ls. pass_all ! refl (((heap_laws.the_row_laws.lawful 𝓛).typed a (word a ∷ []) is_a).0, ((tt, tt), tt)) $ let En = env code.Mir.locals ls in
        let Then : Ends 𝓤 H = any_q (after_seq 𝓤 H (Wp 𝓤 H C Λ En code.Mir.t-5 (at_return 𝓤 H En (Post p))) (at_return 𝓤 H En (Post p))) in
        sets ! (bin ! (get ! refl) (lit ! tt) (tests_null p may)) refl (tt, tt) $
        first ! $ branches ! (get ! refl) (λ t. absurd t) (λ t. skips ! $ exec ! C Λ En code.Mir.t-3 (at_ret En (Post p)) $
        -- [the room; the allocator]
        move ! (1 ∷ []) $ nothing ! $ move ! (1 ∷ 0 ∷ []) $ fjoin ! $ nothing ! $ join ! $ nothing ! $ move ! (1 ∷ 0 ∷ []) $ use2 𝓛 (raw ((Of 𝓛 at_mem run).pre z)) (id⊢ 𝓤 _) $
        calls_at ! fm (Of 𝓛 at_mem run) known z (and_then ! (get ! refl) (no_more !)) (λ v.
        use1 𝓛 (later (some (λ (r : Option Lr.Denot). (‵ ftrue ⊛ ‵ (Maybe.own_val r (v ∷ []))) ⊛ some (λ (ws : Unit {0} × Unit {0}). ‵ (lasts of.ended tt z.0.3 ws) ⊛ raw (fact 𝓤 (IfSome r (λ l. IsFresh l.value))))))) (id⊢ 𝓤 _) $ await ! tt $ pick ! (λ r.
        split ! $ split ! $ drop ! $ move ! (1 ∷ []) $ pick ! (λ ws. split ! $ drop ! $ heard ! (IfSome r (λ l. IsFresh l.value)) (λ fresh.
        -- [what was made; the room]
        option_out Lr ! r (v ∷ [])
        (λ none is. lands_as ! (ap only is) refl (tt, (record { fits = lit< tt }, tt)) $
        first ! $ switches_on ! (get_tag ! (vrt ! refl (fld ! refl (stop !))) (whole !)) $ exec ! C Λ En (arm_body 1 arms) Then $
        assigns ! (of_opd ! (lit ! tt)) (through ! refl (stop !)) (init ! 0 refl (tt, record { fits = lit< tt })) $
        sets_last ! (of_opd ! (lit ! tt)) refl (tt, record { fits = lit< tt }) $ exec ! C Λ En code.Mir.t-5 (at_ret En (Post p)) $
        sets ! (of_opd ! (get ! refl)) refl (tt, record { fits = lit< tt }) $ returns ! (look_at ! 0 refl) $ free_all ! refl $
        nothing ! $ fpack ! (pos 7 ≡ pos 7) (λ _. ftrue) refl $ move ! (1 ∷ []) $ by ! (put b o null_ptr (pos 7) 7 (refl, lit< tt)))
        (λ l vs one is. loose_out Row Heap heap_laws.the_row_laws ghosts ! l vs (λ b' o' h e ws fits.
        let made = both (vptr b' o') h in let typed = loose_good Row Heap heap_laws.the_row_laws ghosts b' o' h fits in
        lands_as ! (ap only (is ∙ (λ i. live 1 (of_list (ws i ++ [])) ∷ []))) refl (and_tt _ typed.0, (record { fits = lit< tt }, (typed.1, tt))) $
        first ! $ switches_on ! (get_tag ! (vrt ! refl (fld ! refl (stop !))) (whole !)) $ exec ! C Λ En (arm_body 0 arms) Then $
        sets ! (of_opd ! (get_in ! (vrt ! refl (fld ! refl (stop !))) (in_variant ! 1 0 refl refl (whole !)))) refl typed $
        sets ! (of_opd ! (get_in ! (fld ! refl (stop !)) (sub ! 0 refl (whole !)))) refl (tt, tt) $ sets ! (of_opd ! (get ! refl)) refl (tt, tt) $
        -- [the service; the allocator; the room]
        assigns ! (of_opd ! (get ! refl)) (through ! refl (stop !)) (init ! 2 refl (tt, tt)) $
        sets_last ! (of_opd ! (lit ! tt)) refl (tt, record { fits = lit< tt }) $ exec ! C Λ En code.Mir.t-5 (at_ret En (Post p)) $
        sets ! (of_opd ! (get ! refl)) refl (tt, record { fits = lit< tt }) $ returns ! (look_at ! 0 refl) $ free_all ! refl $ keep ! (0 ∷ 2 ∷ []) $
        use1 𝓛 (‵ (service_at a (block_ptr b' o') l.value)) (id⊢ 𝓤 _) $ nothing ! $
        fpack ! ((pos 0 ≡ pos 0) × IsFresh l.value) (λ _. ftrue) (refl, subst (λ (m : Option Lr.Denot). IfSome m (λ k. IsFresh k.value)) one fresh) $ fjoin ! $
        fpack ! Checker (λ c. fsep (fact_of ((pos 0 ≡ pos 0) × IsFresh c)) (service_at a (block_ptr b' o') c)) l.value $ move ! (1 ∷ []) $ by ! (put b o (block_ptr b' o') (pos 0) 0 (refl, lit< tt))))))))))

  abbrev Entry : Ptr → SProp 𝓤
  Entry p = on_entry 𝓛 f.signature tt tt (a, (p, tt)) (word a ∷ [], (rawptr_vals p, tt))

  -- by the pointer's form
  at_each : Is Heap a (word a ∷ []) → (p : Ptr) → ent 𝓤 (sep 𝓤 (Entry p) (sem 𝓛 (out_at p))) (Runs p)
  at_each is_a null_ptr = qed 𝓛 (raw (Entry null_ptr) ∷ ‵ (out_at null_ptr) ∷ []) ∵ drop ! $ by ! (nowhere is_a)
  at_each is_a (block_ptr b o) =
      qed 𝓛 ((‵ ftrue ⊛ ‵ (owns (types_at f.signature.params tt) (a, (block_ptr b o, tt)) (word a ∷ [], (vptr b o ∷ [], tt)))) ∷ ‵ (out_at (block_ptr b o)) ∷ []) ∵
      split ! $ drop ! $ fsplit ! $ move ! (2 ∷ []) $ fsplit ! $ fpick ! (λ may. drop ! $ keep ! (0 ∷ 1 ∷ []) $ by ! (walk is_a b o may))

pub lynx_service_new_spec : {M : Type 1} → statement M
lynx_service_new_spec 𝓤 𝓛 𝓜 𝓡 wired =
    let c = f.clauses 𝓛 𝓜.mem 𝓡.returns in
    proved 𝓛 f.ended stayed c 𝓜 𝓡 (Goes-dropped 𝓛 0 (plain (λ _. Heap)) yes (λ κs x w. refl), (Goes-dropped 𝓛 0 (plain (λ _. RawPtr)) yes (λ κs x w. refl), tt))
    f.Key.name code.function (code.unfolded 𝓤 𝓛.H 𝓜 𝓡 wired)
    (λ κs. ((λ a. word a ∷ []), (rawptr_vals, tt))) (λ κs. (heap_laws.lowers.val_is, (rawptr_Tells, tt)))
    (λ κs qs bounds a g are. at_each 𝓛 𝓜.mem 𝓡.returns (tables 𝓤 𝓛.H 𝓜 𝓡 𝓡.env).C (tables 𝓤 𝓛.H 𝓜 𝓡 𝓡.env).Λ (framed 𝓤 𝓛.H 𝓜 (tables 𝓤 𝓛.H 𝓜 𝓡 𝓡.env))
    (of_thm.met 𝓤 𝓛 𝓜 𝓡 (code.calls-lynx_service_c::service::made 𝓡.env wired)) a.0 are.0 a.1.0)
