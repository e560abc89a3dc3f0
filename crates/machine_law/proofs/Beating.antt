-- A beat: the thread that has the turn lives on, and the lives of the others stay as they are.
use Rattle.std.proofs.Common.{◌≡◌, ℕ, zero, suc, ◌+◌, ◌<◌, List, [], ◌∷◌, ◌++◌, Bool, true, false, if◌then◌else◌, Option, Some, None, Ok, length, slice_get, slice_set, refl, sym, ap, subst, ◌∙◌, ◌⊎◌, inl, inr, ⊎_elim, append-nil}
use Rattle.lynx_code.specs.declared.instruction.Instruction.{Instruction}
use Rattle.lynx_code.specs.declared.instruction.Instruction.TheVariants as code
use Rattle.lynx_meaning.specs.Agree.{actions_of}
use Rattle.lynx_meaning.specs.Code.{Next, Goes, Over, Comes, Program, Thread, exec, fetched, go_on}
use Rattle.lynx_meaning.specs.Courses.{Action, Answer, Behaviour, Outcome, Store, Connect, Accept, Await, Stop, Ended, Waits, Out}
use Rattle.lynx_meaning.specs.Needs.{Wanted, wanted_by}
use Rattle.lynx_meaning.specs.Values.{Value}
use Rattle.code_shapes.specs.Shapes.{ModuleTypes}
use Rattle.machine_turns.specs.Threads.{Standing, Made, Acts, acted, answers, goes_on, in_turn, is_await, is_fresh, last_action, made, stands_at}
use Rattle.machine_turns.specs.Threads as threads
use Rattle.machine_turns.specs.Turns.{Beat, RunsOn, Stops, Turns, asks_for, awaits, comes, wakes, with_thread}
use Rattle.machine_turns.specs.Turns as turns
use Rattle.machine_sound.proofs.Keeping.{last_of}
use Rattle.machine_sound.proofs.Placing.{get_set}
use Rattle.machine_sound.proofs.Rounds.{acts_threads}
use Rattle.machine_sound.proofs.Trying.{waits_with}
use Rattle.machine_requests.proofs.Amid.{of_acted}
use Rattle.machine_requests.proofs.Beats.{asks_globals}
use Rattle.machine_law.specs.Fitting.{FitAll}
use Rattle.machine_law.specs.Lives.{Life, latest, lived, new_answer, one_more}
use Rattle.machine_law.proofs.Trees.{Tree, Leads, Closed, Asks, Halts, Broken, IsBlocking, IsOf, OnlyCloses, WaitsHere, at, run, same_then}
use Rattle.machine_law.proofs.Living.{Came, FitsOutcome, Holds, IsAmid, IsBetween, IsOver, IsTurn, Lives, Between, Amid, Stopped, answer, begin, fits_front, latest_last, turned}

-- a thread that asks for an action blocks or has the turn
keeps_or_blocks : (n : ℕ) (a : Action) (t : Turns) → IsBlocking a ⊎ ((asks_for n a t).running ≡ Some n)
keeps_or_blocks n (Connect link op values) t = inl tt
keeps_or_blocks n (Accept link op) t = inl tt
keeps_or_blocks n Await t = inl tt
keeps_or_blocks n _ t = inr refl

-- no code of a module comes to this
abbrev pub IsWhole : Beat → Type 0
IsWhole turns.Broken = ⊥
IsWhole _ = Unit {0}

-- the thread of this number has this life behind a beat
abbrev pub HoldsBehind : ModuleTypes → Program → ℕ → Option Life → Beat → Type 0
HoldsBehind m p n life (RunsOn left u) = Holds m p n u (slice_get u.threads n) life
HoldsBehind m p n life (Stops stop left u) = Holds m p n u (slice_get u.threads n) life
HoldsBehind m p n life turns.Broken = ⊥

module _ (m : ModuleTypes) (p : Program) (t : Turns) (n : ℕ) (s : Standing) (life : Life) (there : n < length t.threads) (free : s.wanted ≡ None) (turn : IsTurn m p t s life) (left : ℕ) (awaiting : Bool) where
  abbrev i : Option Instruction
  i = slice_get p.instructions s.address

  -- the life behind an instruction that comes to this
  abbrev after : Next → Life
  after next = lived t.globals s next life

  abbrev Onward : (List Answer → Next) → Type 0
  Onward next = (M : List Answer) (k : ℕ) → exec p (one_more (is_fresh s) life.made + k) (begin life turn.first ((life.answers ++ new_answer t.globals s.given) ++ M)) ≡ go_on (next M) (exec p k)

  set_there : (u : Turns) (v : Option Standing) (l : Life) → u.threads ≡ slice_set t.threads n v → Holds m p n u (Some v) (Some l) → Holds m p n u (slice_get u.threads n) (Some l)
  set_there u v l changed is = subst (λ (o : Option (Option Standing)). Holds m p n u o (Some l)) (sym (ap (λ (ts : List (Option Standing)). slice_get ts n) changed ∙ get_set t.threads n v there)) is

  first_there : ◌≡◌ {A = Option (List Value)} (after (goes_on p t.globals s)).first (Some turn.first)
  first_there = ap (λ (g : List Value). Some g) turn.is_first

  -- it goes on
  leads : (th : Thread) → Onward (λ M. run (Leads th) M turn.actions) → HoldsBehind m p n (Some (after (Goes (at th [] turn.own)))) (comes left n t (made awaiting s (Goes (at th [] turn.own))))
  leads th came =
      let v = stands_at (at th [] turn.own) (threads.tries_again awaiting s (at th [] turn.own)) s in
      let u : Turns = with_thread n (Some v) (record t { globals = th.moment.store.globals; running = Some n }) in
      set_there u (Some v) (after (Goes (at th [] turn.own))) refl
      (Between (record {
        first = turn.first;
        is_first = first_there;
        typed = turn.typed;
        given = refl;
        wanted = refl;
        runs = refl;
        actions = turn.actions;
        did = ap Out turn.did;
        fits = turn.fits;
        many = turn.many;
        came = came;
      }))

  -- it ends
  ends : (store : Store) → Onward (λ M. run (Closed store) M turn.actions) → HoldsBehind m p n (Some (after (Over (Comes (Ended turn.own store))))) (comes left n t (threads.Ends store.globals))
  ends store came =
      set_there (with_thread n None (wakes (record t { globals = store.globals }))) None (after (Over (Comes (Ended turn.own store)))) refl
      (record {
        over = record {
          first = turn.first;
          is_first = first_there;
          typed = turn.typed;
          came = λ M k. came M k ∙ ap (λ (X : List Action). Comes (Ended X store)) (sym turn.did);
          fits = subst (λ (X : List Action). FitAll m X (life.answers ++ new_answer t.globals s.given)) (sym turn.did) turn.fits;
        };
        actions = turn.actions;
        store = store;
        did = ap (λ (X : List Action). Ended X store) turn.did;
      })

  waits_did : (a : Action) (store : Store) → Waits (actions_of life.did ++ latest (turn.own ++ a ∷ [])) store ≡ Waits (turn.actions ++ a ∷ []) store
  waits_did a store = ap (λ (X : List Action). Waits (X ++ latest (turn.own ++ a ∷ [])) store) turn.did ∙ ap (λ (X : List Action). Waits (turn.actions ++ X) store) (latest_last turn.own a)

  -- it asks for a stop
  halts : (store : Store) → i ≡ Some code.Stop → Onward (λ M. run (Halts store) M turn.actions) → HoldsBehind m p n (Some (after (Over (Comes (Waits (turn.own ++ Stop ∷ []) store))))) (comes left n t (Acts Stop store.globals (record s { wanted = Some (wanted_by Stop) })))
  halts store is came =
      let v : Standing = record s { wanted = Some (wanted_by Stop) } in
      set_there (with_thread n (Some v) (record t { globals = store.globals; running = Some n })) (Some v) (after (Over (Comes (Waits (turn.own ++ Stop ∷ []) store)))) refl
      (Stopped (record {
        over = record {
          first = turn.first;
          is_first = first_there;
          typed = turn.typed;
          came = λ M k. came M k ∙ ap Comes (sym (waits_did Stop store));
          fits = subst (λ (d : Behaviour). FitAll m (actions_of d) (life.answers ++ new_answer t.globals s.given)) (sym (waits_did Stop store)) (fits_front m turn.actions Stop (life.answers ++ new_answer t.globals s.given) turn.fits);
        };
        actions = turn.actions;
        store = store;
        did = waits_did Stop store;
        wanted = refl;
        stop = is;
      }))

  -- ---- it asks for an action

  module _ (a : Action) (store : Store) (onward : Answer → Tree) (of : IsOf i (Asks a store onward)) (came : Onward (λ M. run (Asks a store onward) M turn.actions))
      (goes : (M : List Answer) → fetched p (turned t.globals s s.given M) i ≡ run (Asks a store onward) M turn.own) (begins_or_closes : (s.given ≡ []) ⊎ OnlyCloses (Asks a store onward)) (same : store.globals ≡ t.globals) where
    begins : IsBlocking a → (s.given ≡ []) ⊎ OnlyCloses (Asks a store onward) → s.given ≡ []
    begins blocking (inl none) = none
    begins blocking (inr closes) = absurd (subst IsBlocking closes.0 blocking)

    waits_here : s.given ≡ [] → WaitsHere (fetched p (at (in_turn t.globals s) [] []) i)
    waits_here none = subst WaitsHere (sym (goes []) ∙ ap (λ (os : List Outcome). fetched p (turned t.globals s os []) i) none) tt

    -- an action that blocks is the first one, and is given its outcome with the variables as they stand then
    blocks_goes : IsBlocking a → (globals : List Value) (o : Outcome) (M : List Answer) → fetched p (turned globals s s.given (answer globals o ∷ M)) i ≡ run (onward (answer globals o)) M (turn.own ++ a ∷ [])
    blocks_goes blocking globals o M =
        let none = begins blocking begins_or_closes in
        ap (λ (os : List Outcome). fetched p (turned globals s os (answer globals o ∷ M)) i) none
        ∙ sym (same_then p (in_turn t.globals s) globals (answer globals o) M [] i (of.0 blocking) (waits_here none))
        ∙ ap (λ (os : List Outcome). fetched p (turned t.globals s os (answer globals o ∷ M)) i) (sym none)
        ∙ goes (answer globals o ∷ M)

    -- any other keeps the turn, and so they stay
    keeps_goes : (globals : List Value) (o : Outcome) (M : List Answer) → globals ≡ t.globals → fetched p (turned globals s s.given (answer globals o ∷ M)) i ≡ run (onward (answer globals o)) M (turn.own ++ a ∷ [])
    keeps_goes globals o M same_globals =
        subst (λ (g : List Value). fetched p (turned g s s.given (answer g o ∷ M)) i ≡ run (onward (answer g o)) M (turn.own ++ a ∷ [])) (sym same_globals) (goes (answer t.globals o ∷ M))

    goes_then : (u : Turns) → u.globals ≡ store.globals → IsBlocking a ⊎ (u.running ≡ Some n) → (globals : List Value) (o : Outcome) (M : List Answer) → (u.running ≡ Some n → globals ≡ u.globals) →
        fetched p (turned globals s s.given (answer globals o ∷ M)) i ≡ run (onward (answer globals o)) M (turn.own ++ a ∷ [])
    goes_then u kept (inl blocking) globals o M stands = blocks_goes blocking globals o M
    goes_then u kept (inr runs) globals o M stands = keeps_goes globals o M (stands runs ∙ kept ∙ same)

    abbrev now : Life
    now = after (Over (Comes (Waits (turn.own ++ a ∷ []) store)))

    amid : (u : Turns) (given : List Outcome) (wanted : Option Wanted) → u.globals ≡ store.globals → IsBlocking a ⊎ (u.running ≡ Some n) →
        ((given ≡ s.given) × (wanted ≡ Some (wanted_by a))) ⊎ ((o : Outcome) × (given ≡ s.given ++ o ∷ []) × (wanted ≡ None) × FitsOutcome m a o) → IsAmid m p n u (record s { given = given; wanted = wanted }) now
    amid u given wanted kept turn_kept hears = record {
      first = turn.first;
      is_first = first_there;
      typed = turn.typed;
      action = a;
      store = store;
      onward = onward;
      closes = of.1;
      actions = turn.actions;
      did = waits_did a store;
      fits = turn.fits;
      many = turn.many;
      came = came;
      own = turn.own ++ a ∷ [];
      heard = s.given;
      goes = goes_then u kept turn_kept;
      hears = hears;
    }

    asks_action : HoldsBehind m p n (Some now) (comes left n t (Acts a store.globals (record s { wanted = Some (wanted_by a) })))
    asks_action =
        let mid : Turns = record t { globals = store.globals } in
        let v : Standing = record s { wanted = Some (wanted_by a) } in
        let u : Turns = with_thread n (Some v) (asks_for n a mid) in
        set_there u (Some v) now (ap (λ (ts : List (Option Standing)). slice_set ts n (Some v)) (acts_threads n a mid))
        (Amid (amid u s.given (Some (wanted_by a)) (asks_globals n a mid) (keeps_or_blocks n a mid) (inl (refl, refl))))

    finds_false : IsBlocking a → FitsOutcome m a (Ok []) → (again : Bool) → HoldsBehind m p n (Some now) (RunsOn left (with_thread n (Some (record s { given = s.given ++ Ok [] ∷ [] })) (awaits n again (record t { globals = store.globals }))))
    finds_false blocking fits true =
        let v : Standing = record s { given = s.given ++ Ok [] ∷ [] } in
        let u : Turns = with_thread n (Some v) (awaits n true (record t { globals = store.globals })) in
        set_there u (Some v) now refl (Amid (amid u (s.given ++ Ok [] ∷ []) s.wanted refl (inl blocking) (inr (Ok [], refl, free, fits))))
    finds_false blocking fits false =
        let v : Standing = record s { given = s.given ++ Ok [] ∷ [] } in
        let u : Turns = with_thread n (Some v) (awaits n false (record t { globals = store.globals })) in
        set_there u (Some v) now refl (Amid (amid u (s.given ++ Ok [] ∷ []) s.wanted refl (inl blocking) (inr (Ok [], refl, free, fits))))

    asks : HoldsBehind m p n (Some now) (comes left n t (acted (last_action (turn.own ++ a ∷ [])) store.globals s))
    asks =
        subst (λ (o : Option Action). HoldsBehind m p n (Some now) (comes left n t (acted o store.globals s))) (sym (last_of turn.own a))
        (of_acted (λ (last : Made). HoldsBehind m p n (Some now) (comes left n t last)) a store.globals s (λ e. finds_false (subst IsBlocking (sym e) tt) (subst (λ (q : Action). FitsOutcome m q (Ok [])) (sym e) tt) s.again) (λ other. asks_action))

  -- ---- whatever it comes to

  abbrev Behind : Next → Type 0
  Behind next = HoldsBehind m p n (Some (after next)) (comes left n t (made awaiting s next))

  next_is : goes_on p t.globals s ≡ run turn.tree [] turn.own
  next_is = ap (λ (L : List Answer). fetched p (at (in_turn t.globals s) L []) i) (sym (append-nil (answers t.globals s.given))) ∙ turn.goes []

  settles : (tree : Tree) → goes_on p t.globals s ≡ run tree [] turn.own → IsOf i tree → Onward (λ M. run tree M turn.actions) → ((M : List Answer) → fetched p (turned t.globals s s.given M) i ≡ run tree M turn.own) → (s.given ≡ []) ⊎ OnlyCloses tree →
      IsWhole (comes left n t (made awaiting s (run tree [] turn.own))) → Behind (run tree [] turn.own)
  settles (Leads th) is of came goes first whole = leads th came
  settles (Closed store) is of came goes first whole = ends store came
  settles (Asks a store onward) is of came goes first whole = asks a store onward of came goes first (waits_with p t.globals s (turn.own ++ a ∷ []) store is)
  settles (Halts store) is of came goes first whole =
      subst (λ (o : Option Action). HoldsBehind m p n (Some (after (Over (Comes (Waits (turn.own ++ Stop ∷ []) store))))) (comes left n t (acted o store.globals s))) (sym (last_of turn.own Stop)) (halts store of came)
  settles Broken is of came goes first whole = absurd whole

  pub lives_behind : IsWhole (comes left n t (made awaiting s (goes_on p t.globals s))) → Behind (goes_on p t.globals s)
  lives_behind whole =
      subst Behind (sym next_is)
      (settles turn.tree next_is turn.of turn.came turn.goes turn.begins_or_closes (subst (λ (next : Next). IsWhole (comes left n t (made awaiting s next))) next_is whole))
