-- A service is made a box again and let go, where its pointer is not null.
use Rattle.lynx_service_c.proofs.Steps.{ℕ, List, [], ◌∷◌, refl, ap, lit<, proved, leaves, Ura, SProp, ent, sep, id⊢, ftrue, Val, vptr, vnull, vunit, Memory, Routine, Calls, Loops, WpFn, Logic, sem, Fun, tables, FmC}
use Rattle.lynx_service_c.proofs.Steps.{‵, raw, ◌⊛◌, some, later, given, at_ret, ◌$◌, ◌∵◌, !, qed, by, move, keep, drop, use1, use2, split, join, fsplit, fjoin, feq_i, feq_l, pick, await, learn, enter, of_opd, lit, unit_lit, bin, no_more, and_then, first, branches, skips, exec, returns, returns_within, agg, alloc_all, pass_all, free_all, look_at, get, sets, lands_as, env}
use Rattle.lynx_service_c.proofs.Steps.{unit, yes, Is, Ptr, RawPtr, block_ptr, null_ptr, ptr_val, Testable, tests_null, rawptr_vals, rawptr_Tells, plain, nothing, only, Contract, Triple, calls_at, lasts, triple_of, framed, Stays, stay_dropped, Goes-dropped, walk_of}
use Rattle.lynx_service_c.proofs.Steps.{Global, Heap, ghosts, Checker, Row}
use denote.RattleType.{owns}
use denote.Signature.{types_at}
use denote.Triple.Entry.{on_entry}
use Rattle.std.proofs.alloc.Global.TheLaws as heap_laws
use Rattle.lynx_service_c.proofs.Given.{word, tested}
use Rattle.lynx_service_c.proofs.Values.{both, loose_good, loose_in}
use Rattle.lynx_service_c.specs.Memory.{service_at}
use Rattle.lynx_service_c.specs.contracts.service.end as of
use Rattle.lynx_service_c.proofs.service.end.Symbol.{name as #end}
use Rattle.lynx_service_c.proofs.service.end.Met as of_thm
use Rattle.lynx_service_c.specs.contracts.exports.lynx_service_free as f
use Rattle.lynx_service_c.proofs.exports.lynx_service_free.Statement.{statement}
use Rattle.lynx_service_c.proofs.exports.lynx_service_free.Code as code

abbrev stayed : Stays f.ended.signature.params f.ended.kept
stayed = (stay_dropped _ yes, (stay_dropped _ yes, tt))

module _ {M : Type 1} {𝓤 : Ura M} (𝓛 : Logic 𝓤) (at_mem : Memory → SProp 𝓤) (run : Routine → Fun 𝓤) where
  abbrev Of : Contract 𝓤
  Of = triple_of 𝓛 of.signature (of.spec 𝓛 at_mem run)

module _ {M : Type 1} {𝓤 : Ura M} (𝓛 : Logic 𝓤) (at_mem : Memory → SProp 𝓤) (run : Routine → Fun 𝓤) (C : Calls 𝓤 𝓛.H) (Λ : Loops 𝓤 𝓛.H) (fm : FmC 𝓤 𝓛.H 𝓛.laws C)
    (known : Triple 𝓤 (C #end) (Of 𝓛 at_mem run)) (a : Global) (c : Checker) where
  abbrev bound : Ptr → (walk_of 𝓛 f.ended stayed (f.clauses 𝓛 at_mem run)).Ghost
  bound p = ((tt, tt, tt, (a, (p, tt)), (word a ∷ [], (rawptr_vals p, tt))), c)

  abbrev Post : Ptr → Val → SProp 𝓤
  Post p = (walk_of 𝓛 f.ended stayed (f.clauses 𝓛 at_mem run)).post (bound p)

  abbrev Runs : Ptr → SProp 𝓤
  Runs p = WpFn 𝓤 𝓛.H C Λ code.function (word a ∷ ptr_val p ∷ []) (Post p)

  -- what is left at the return: nothing
  exits : (p : Ptr) → ent 𝓤 (sem 𝓛 ftrue) (Post p vunit)
  exits p =
      qed 𝓛 (‵ ftrue ∷ []) ∵ feq_i ! (List Val) (vunit ∷ []) (vunit ∷ []) refl $
      nothing ! $ nothing ! $ fjoin ! $ nothing ! $ fjoin ! $ nothing ! $ by ! (leaves 𝓛 f.ended stayed (f.clauses 𝓛 at_mem run) (bound p) vunit tt (tt, (tt, tt)) (tt, (tt, tt)))

  module _ (is_a : Is Heap a (word a ∷ [])) where
    no_service : ent 𝓤 (sem 𝓛 (service_at a null_ptr c)) (Runs null_ptr)
    no_service =
        qed 𝓛 (‵ (service_at a null_ptr c) ∷ []) ∵ enter ! C Λ code.function (word a ∷ vnull ∷ []) _ $
        alloc_all ! (λ ls. pass_all ! refl (((heap_laws.the_row_laws.lawful 𝓛).typed a (word a ∷ []) is_a).0, ((tt, record { fits = lit< tt }), tt)) $
        sets ! (bin ! (get ! refl) (lit ! tt) (tests_null null_ptr (lit< tt))) refl (tt, tt) $
        first ! $ branches ! (get ! refl)
        (λ t. sets ! (of_opd ! (unit_lit !)) refl (tt, tt) $ returns_within ! (Post null_ptr) refl (look_at ! 0 refl) $ free_all ! refl $ by ! (exits null_ptr))
        (λ t. absurd t))

    walk : (b o : ℕ) → Testable (block_ptr b o) → ent 𝓤 (sep 𝓤 (sem 𝓛 (service_at a (block_ptr b o) c)) (sem 𝓛 (Heap.own_val a (word a ∷ [])))) (Runs (block_ptr b o))
    walk b o may =
        let p = block_ptr b o in let good_a = ((heap_laws.the_row_laws.lawful 𝓛).typed a (word a ∷ []) is_a).0 in
        let w = both (vptr b o) (word a) in
        let z : (Of 𝓛 at_mem run).Ghost = ((tt, tt, tt, (record { at = p; alloc = a; value = c }, tt), (w ∷ [], tt)), tt) in
        qed 𝓛 (‵ (service_at a p c) ∷ ‵ (Heap.own_val a (word a ∷ [])) ∷ []) ∵ enter ! C Λ code.function (word a ∷ vptr b o ∷ []) _ $
        alloc_all ! (λ ls. pass_all ! refl (good_a, ((tt, tt), tt)) $ let En = env code.Mir.locals ls in
        sets ! (bin ! (get ! refl) (lit ! tt) (tests_null p may)) refl (tt, tt) $
        first ! $ branches ! (get ! refl) (λ t. absurd t) (λ t. skips ! $ exec ! C Λ En code.Mir.t-3 (at_ret En (Post p)) $
        sets ! (of_opd ! (get ! refl)) refl (tt, tt) $
        sets ! (agg ! (and_then ! (get ! refl) (and_then ! (get ! refl) (no_more !)))) refl (loose_good Row Heap heap_laws.the_row_laws ghosts b o (word a) good_a) $
        loose_in Row Heap heap_laws.the_row_laws ghosts ! b o (word a) a c $
        nothing ! $ move ! (1 ∷ 0 ∷ []) $ fjoin ! $ nothing ! $ join ! $ nothing ! $ move ! (1 ∷ 0 ∷ []) $ use2 𝓛 (raw ((Of 𝓛 at_mem run).pre z)) (id⊢ 𝓤 _) $
        calls_at ! fm (Of 𝓛 at_mem run) known z (and_then ! (get ! refl) (no_more !)) (λ v.
        use1 𝓛 (later (some (λ (u : Unit {0}). (‵ ftrue ⊛ ‵ (unit.own_val u (v ∷ []))) ⊛ some (λ (ws : Unit {0} × Unit {0}). ‵ (lasts of.ended tt z.0.3 ws) ⊛ ‵ ftrue)))) (id⊢ 𝓤 _) $ await ! tt $ pick ! (λ u.
        split ! $ split ! $ drop ! $ feq_l ! (λ is_unit. pick ! (λ ws. split ! $ drop ! $
        lands_as ! (ap only is_unit) refl (tt, tt) $ sets ! (of_opd ! (unit_lit !)) refl (tt, tt) $ returns ! (look_at ! 0 refl) $ free_all ! refl $ by ! (exits p)))))))

  abbrev Entry : Ptr → SProp 𝓤
  Entry p = on_entry 𝓛 f.signature tt tt (a, (p, tt)) (word a ∷ [], (rawptr_vals p, tt))

  -- by the pointer's form
  at_each : Is Heap a (word a ∷ []) → (p : Ptr) → ent 𝓤 (sep 𝓤 (Entry p) (sem 𝓛 (service_at a p c))) (Runs p)
  at_each is_a null_ptr = qed 𝓛 (raw (Entry null_ptr) ∷ ‵ (service_at a null_ptr c) ∷ []) ∵ drop ! $ by ! (no_service is_a)
  at_each is_a (block_ptr b o) =
      qed 𝓛 ((‵ ftrue ⊛ ‵ (owns (types_at f.signature.params tt) (a, (block_ptr b o, tt)) (word a ∷ [], (vptr b o ∷ [], tt)))) ∷ ‵ (service_at a (block_ptr b o) c) ∷ []) ∵
      split ! $ drop ! $ fsplit ! $ keep ! (2 ∷ 0 ∷ []) $
      use1 𝓛 (given (Testable (block_ptr b o)) (‵ (service_at a (block_ptr b o) c))) (tested 𝓛 a b o c) $ learn ! (λ may. by ! (walk is_a b o may))

pub lynx_service_free_spec : {M : Type 1} → statement M
lynx_service_free_spec 𝓤 𝓛 𝓜 𝓡 wired =
    let c = f.clauses 𝓛 𝓜.mem 𝓡.returns in
    proved 𝓛 f.ended stayed c 𝓜 𝓡 (Goes-dropped 𝓛 0 (plain (λ _. Heap)) yes (λ κs x w. refl), (Goes-dropped 𝓛 0 (plain (λ _. RawPtr)) yes (λ κs x w. refl), tt))
    f.Key.name code.function (code.unfolded 𝓤 𝓛.H 𝓜 𝓡 wired)
    (λ κs. ((λ a. word a ∷ []), (rawptr_vals, tt))) (λ κs. (heap_laws.lowers.val_is, (rawptr_Tells, tt)))
    (λ κs qs bounds a g are. at_each 𝓛 𝓜.mem 𝓡.returns (tables 𝓤 𝓛.H 𝓜 𝓡 𝓡.env).C (tables 𝓤 𝓛.H 𝓜 𝓡 𝓡.env).Λ (framed 𝓤 𝓛.H 𝓜 (tables 𝓤 𝓛.H 𝓜 𝓡 𝓡.env))
    (of_thm.met 𝓤 𝓛 𝓜 𝓡 (code.calls-lynx_service_c::service::end 𝓡.env wired)) a.0 g are.0 a.1.0)
