-- One thread: its code comes to what it did, and at its turn it goes on as its code does.
use Rattle.std.proofs.Common.{arith, ◌≡◌, ℕ, zero, suc, ◌+◌, ◌<◌, List, [], ◌∷◌, ◌++◌, map, Bool, true, false, Option, Some, None, Result, Ok, length, slice_get, slice_set, unwrap_or, refl, sym, ap, subst, ◌∙◌, ◌⊎◌, inl, inr, ⊎_elim, append-nil, append_assoc, length-append, IfOk}
use Rattle.std.proofs.lemmas.List.{map-append}
use Rattle.std.proofs.lemmas.Option.{same_Some}
use Rattle.lynx_code.specs.declared.instruction.Instruction.{Instruction}
use Rattle.lynx_code.specs.declared.instruction.Instruction.TheVariants as code
use Rattle.lynx_meaning.specs.Agree.{actions_of}
use Rattle.lynx_meaning.specs.Code.{Next, Goes, Over, Comes, Stuck, Program, Thread, begins, exec, fetched, go_on, next_of}
use Rattle.lynx_meaning.specs.Courses.{Action, Answer, Behaviour, Outcome, Store, New, Destroy, Bind, Unbind, Connect, Accept, Close, Reply, Write, Await, Stop, Ended, Waits, Out}
use Rattle.lynx_meaning.specs.Needs.{Wanted, wanted_by, wanted_types}
use Rattle.lynx_meaning.specs.Values.{Value, HaveTypes}
use Rattle.code_shapes.specs.Shapes.{ModuleTypes, PartTypes, opened_by}
use Rattle.machine_turns.specs.Threads.{Standing, answers, begun, goes_on, in_turn, is_empty, is_fresh, last_action}
use Rattle.machine_turns.specs.Turns.{Turns}
use Rattle.machine_sound.proofs.Keeping.{last_of}
use Rattle.compiler_runnable.specs.Runnable.{start_locals}
use Rattle.machine_law.specs.Fitting.{FitAll, FitsTo}
use Rattle.machine_law.specs.Lives.{Life, born, does, latest, lived, new_answer, one_more}
use Rattle.machine_law.specs.Histories.{DidByCode, IsStop}
use Rattle.machine_law.proofs.Trees.{Tree, Leads, Closed, Asks, Broken, Blocks, IsBlocking, IsOf, IsTree, OnlyCloses, at, closes_of, run, same_then, tree_of, WaitsHere}

-- ---- a life

-- a thread of this life before its first instruction
abbrev pub begin : Life → List Value → List Answer → Thread
begin life globals L = begins (opened_by life.part.op) life.part.start (record { globals = globals; locals = start_locals life.part.locals life.arguments }) L

-- with as many instructions as it has begun, and however many more and whatever answers more, its code comes first to this
abbrev pub Came : Program → Life → List Value → (List Answer → Next) → Type 0
Came p life globals next = (M : List Answer) (k : ℕ) → exec p (life.made + k) (begin life globals (life.answers ++ M)) ≡ go_on (next M) (exec p k)

-- amid its instruction, which was given these outcomes, with these answers more
abbrev pub turned : List Value → Standing → List Outcome → List Answer → Thread
turned globals s heard M = at (in_turn globals s) (answers globals heard ++ M) []

abbrev pub answer : List Value → Outcome → Answer
answer globals o = record { given = o; globals = globals }

abbrev pub FitsOutcome : ModuleTypes → Action → Outcome → Type 0
FitsOutcome m action o = IfOk o (HaveTypes (wanted_types m.ops (wanted_by action)))

-- it has not begun its first instruction
pub record IsNew (s : Standing) (life : Life) : Type 0 where
  pub stands : s ≡ begun (opened_by life.part.op) life.part.start (start_locals life.part.locals life.arguments)
  pub born_so : life ≡ born life.part life.arguments

-- one action more
pub fits_front : (m : ModuleTypes) (xs : List Action) (a : Action) (answers : List Answer) → FitAll m xs answers → FitAll m (xs ++ a ∷ []) answers
fits_front m xs a [] fits = tt
fits_front m [] a (b ∷ answers) fits = absurd fits
fits_front m (x ∷ xs) a (b ∷ answers) fits = (fits.0, fits_front m xs a answers fits.1)

pub some_wanted : (o : Option Wanted) (w : Wanted) → o ≡ None → o ≡ Some w → ⊥
some_wanted o w none some = let e : None ≡ Some w = sym none ∙ some in cc

module _ (m : ModuleTypes) (p : Program) where
  -- it stands before an instruction, and has the turn
  pub record IsBetween (n : ℕ) (t : Turns) (s : Standing) (life : Life) : Type 0 where
    pub first : List Value
    pub is_first : life.first ≡ Some first
    pub typed : HaveTypes m.globals first
    pub given : s.given ≡ []
    pub wanted : s.wanted ≡ None
    pub runs : t.running ≡ Some n
    pub actions : List Action
    pub did : life.did ≡ Out actions
    pub fits : FitAll m actions life.answers
    pub many : length life.answers ≡ length actions
    pub came : Came p life first (λ M. Goes (at (in_turn t.globals s) M actions))

  -- It asked for an action, and goes on as a tree says. Where it has the turn the variables of the module stay as they are.
  pub record IsAmid (n : ℕ) (t : Turns) (s : Standing) (life : Life) : Type 0 where
    pub first : List Value
    pub is_first : life.first ≡ Some first
    pub typed : HaveTypes m.globals first
    pub action : Action
    pub store : Store
    pub onward : Answer → Tree
    pub closes : (b : Answer) → OnlyCloses (onward b)
    pub actions : List Action
    pub did : life.did ≡ Waits (actions ++ action ∷ []) store
    pub fits : FitAll m actions life.answers
    pub many : length life.answers ≡ length actions
    pub came : Came p life first (λ M. run (Asks action store onward) M actions)
    pub own : List Action
    pub heard : List Outcome
    pub goes : (globals : List Value) (o : Outcome) (M : List Answer) → (t.running ≡ Some n → globals ≡ t.globals)
        → fetched p (turned globals s heard (answer globals o ∷ M)) (slice_get p.instructions s.address) ≡ run (onward (answer globals o)) M own
    pub hears : ((s.given ≡ heard) × (s.wanted ≡ Some (wanted_by action))) ⊎ ((o : Outcome) × (s.given ≡ heard ++ o ∷ []) × (s.wanted ≡ None) × FitsOutcome m action o)

  -- nothing comes behind what it did
  pub record IsOver (life : Life) : Type 0 where
    pub first : List Value
    pub is_first : life.first ≡ Some first
    pub typed : HaveTypes m.globals first
    pub came : Came p life first (λ M. Over (Comes life.did))
    pub fits : FitAll m (actions_of life.did) life.answers

  -- it ended
  pub record IsGone (life : Life) : Type 0 where
    pub over : IsOver life
    pub actions : List Action
    pub store : Store
    pub did : life.did ≡ Ended actions store

  -- it asked for a stop
  pub record IsStopped (s : Standing) (life : Life) : Type 0 where
    pub over : IsOver life
    pub actions : List Action
    pub store : Store
    pub did : life.did ≡ Waits (actions ++ Stop ∷ []) store
    pub wanted : s.wanted ≡ Some (wanted_by Stop)
    pub stop : IsStop p.instructions s

  -- a thread of this life stands so
  pub data Lives (n : ℕ) (t : Turns) (s : Standing) (life : Life) : Type 0 where
    Fresh : IsNew s life → Lives n t s life
    Between : IsBetween n t s life → Lives n t s life
    Amid : IsAmid n t s life → Lives n t s life
    Stopped : IsStopped s life → Lives n t s life

  -- one that stands has a life, and that of any other is over
  abbrev pub Holds : ℕ → Turns → Option (Option Standing) → Option Life → Type 0
  Holds n t (Some (Some s)) (Some life) = Lives n t s life
  Holds n t (Some (Some s)) None = ⊥
  Holds n t _ (Some life) = IsGone life
  Holds n t _ None = Unit {0}

  -- ---- what is so of its code

  first_typed : (life : Life) (now first : List Value) → life.first ≡ Some first → HaveTypes m.globals first → HaveTypes m.globals (unwrap_or life.first now)
  first_typed life now first is typed = subst (HaveTypes m.globals) (sym (ap (λ (o : Option (List Value)). unwrap_or o now) is)) typed

  came_there : (life : Life) (now first : List Value) (next : List Answer → Next) → life.first ≡ Some first → Came p life first next → go_on (next []) (exec p 0) ≡ Comes life.did → DidByCode p now life
  came_there life now first next is_first came is =
      ap (λ (g : List Value). exec p life.made (begin life g life.answers)) (ap (λ (o : Option (List Value)). unwrap_or o now) is_first)
      ∙ ap (λ (L : List Answer). exec p life.made (begin life first L)) (sym (append-nil life.answers))
      ∙ ap (λ (k : ℕ). exec p k (begin life first (life.answers ++ []))) none
      ∙ came [] 0
      ∙ is
    where
      none : life.made ≡ life.made + 0
      none = omega arith

  new_did : (now : List Value) (life : Life) → life ≡ born life.part life.arguments → DidByCode p now life
  new_did now life is = subst (DidByCode p now) (sym is) refl

  over_did : (now : List Value) (life : Life) → IsOver life → DidByCode p now life
  over_did now life is = came_there life now is.first (λ M. Over (Comes life.did)) is.is_first is.came refl

  lives_did : (now : List Value) (n : ℕ) (t : Turns) (s : Standing) (life : Life) → Lives n t s life → DidByCode p now life
  lives_did now n t s life (Fresh is) = new_did now life is.born_so
  lives_did now n t s life (Between is) = came_there life now is.first (λ M. Goes (at (in_turn t.globals s) M is.actions)) is.is_first is.came (ap Comes (sym is.did))
  lives_did now n t s life (Amid is) = came_there life now is.first (λ M. run (Asks is.action is.store is.onward) M is.actions) is.is_first is.came (ap Comes (sym is.did))
  lives_did now n t s life (Stopped is) = over_did now life is.over

  pub did_by_code : (now : List Value) (n : ℕ) (t : Turns) (o : Option (Option Standing)) (life : Life) → Holds n t o (Some life) → DidByCode p now life
  did_by_code now n t (Some (Some s)) life is = lives_did now n t s life is
  did_by_code now n t (Some None) life is = over_did now life is.over
  did_by_code now n t None life is = over_did now life is.over

  -- ---- what fits

  lives_fits : (n : ℕ) (t : Turns) (s : Standing) (life : Life) (now : List Value) → HaveTypes m.globals now → Lives n t s life → HaveTypes m.globals (unwrap_or life.first now) × FitAll m (actions_of life.did) life.answers
  lives_fits n t s life now known (Fresh is) = subst (λ (l : Life). HaveTypes m.globals (unwrap_or l.first now) × FitAll m (actions_of l.did) l.answers) (sym is.born_so) (known, tt)
  lives_fits n t s life now known (Between is) = (first_typed life now is.first is.is_first is.typed, subst (λ (d : Behaviour). FitAll m (actions_of d) life.answers) (sym is.did) is.fits)
  lives_fits n t s life now known (Amid is) =
      (first_typed life now is.first is.is_first is.typed, subst (λ (d : Behaviour). FitAll m (actions_of d) life.answers) (sym is.did) (fits_front m is.actions is.action life.answers is.fits))
  lives_fits n t s life now known (Stopped is) = (first_typed life now is.over.first is.over.is_first is.over.typed, is.over.fits)

  pub fits_of : (n : ℕ) (t : Turns) (o : Option (Option Standing)) (life : Life) (now : List Value) → HaveTypes m.globals now → Holds n t o (Some life) → HaveTypes m.globals (unwrap_or life.first now) × FitAll m (actions_of life.did) life.answers
  fits_of n t (Some (Some s)) life now known is = lives_fits n t s life now known is
  fits_of n t (Some None) life now known is = (first_typed life now is.over.first is.over.is_first is.over.typed, is.over.fits)
  fits_of n t None life now known is = (first_typed life now is.over.first is.over.is_first is.over.typed, is.over.fits)

  -- ---- what others do

  -- the turn is another thread's, or the turn and the variables of the module stay as they were
  abbrev pub StaysWith : ℕ → Turns → Turns → Type 0
  StaysWith n t u = (t.running ≡ Some n → ⊥) ⊎ ((u.running ≡ t.running) × (u.globals ≡ t.globals))

  between_stays : (n : ℕ) (t u : Turns) (s : Standing) (life : Life) → StaysWith n t u → IsBetween n t s life → IsBetween n u s life
  between_stays n t u s life (inl other) is = absurd (other is.runs)
  between_stays n t u s life (inr same) is = record {
    first = is.first;
    is_first = is.is_first;
    typed = is.typed;
    given = is.given;
    wanted = is.wanted;
    runs = same.0 ∙ is.runs;
    actions = is.actions;
    did = is.did;
    fits = is.fits;
    many = is.many;
    came = subst (λ (g : List Value). Came p life is.first (λ M. Goes (at (in_turn g s) M is.actions))) (sym same.1) is.came;
  }

  same_variables : (n : ℕ) (t u : Turns) (globals : List Value) → StaysWith n t u → (u.running ≡ Some n → globals ≡ u.globals) → t.running ≡ Some n → globals ≡ t.globals
  same_variables n t u globals (inl other) is runs = absurd (other runs)
  same_variables n t u globals (inr same) is runs = is (same.0 ∙ runs) ∙ same.1

  amid_stays : (n : ℕ) (t u : Turns) (s : Standing) (life : Life) → StaysWith n t u → IsAmid n t s life → IsAmid n u s life
  amid_stays n t u s life stays is = record {
    first = is.first;
    is_first = is.is_first;
    typed = is.typed;
    action = is.action;
    store = is.store;
    onward = is.onward;
    closes = is.closes;
    actions = is.actions;
    did = is.did;
    fits = is.fits;
    many = is.many;
    came = is.came;
    own = is.own;
    heard = is.heard;
    goes = λ globals o M same. is.goes globals o M (same_variables n t u globals stays same);
    hears = is.hears;
  }

  lives_stays : (n : ℕ) (t u : Turns) (s : Standing) (life : Life) → StaysWith n t u → Lives n t s life → Lives n u s life
  lives_stays n t u s life stays (Fresh is) = Fresh is
  lives_stays n t u s life stays (Between is) = Between (between_stays n t u s life stays is)
  lives_stays n t u s life stays (Amid is) = Amid (amid_stays n t u s life stays is)
  lives_stays n t u s life stays (Stopped is) = Stopped is

  -- a thread that others leave as it was
  pub holds_stays : (n : ℕ) (t u : Turns) (o : Option (Option Standing)) (life : Option Life) → StaysWith n t u → Holds n t o life → Holds n u o life
  holds_stays n t u (Some (Some s)) (Some life) stays is = lives_stays n t u s life stays is
  holds_stays n t u (Some (Some s)) None stays is = is
  holds_stays n t u (Some None) (Some life) stays is = is
  holds_stays n t u None (Some life) stays is = is
  holds_stays n t u (Some None) None stays is = tt
  holds_stays n t u None None stays is = tt

  -- ---- an outcome

  hears_one : (heard : List Outcome) (a : Action) (s : Standing) (o : Outcome) (w : Wanted) → s.wanted ≡ Some w →
      ((s.given ≡ heard) × (s.wanted ≡ Some (wanted_by a))) ⊎ ((q : Outcome) × (s.given ≡ heard ++ q ∷ []) × (s.wanted ≡ None) × FitsOutcome m a q) → IfOk o (HaveTypes (wanted_types m.ops w)) → (s.given ++ o ∷ [] ≡ heard ++ o ∷ []) × FitsOutcome m a o
  hears_one heard a s o w wants (inl same) fits =
      let wanted : Some w ≡ Some (wanted_by a) = sym wants ∙ same.1 in
      (ap (λ (os : List Outcome). os ++ o ∷ []) same.0, subst (λ (v : Wanted). IfOk o (HaveTypes (wanted_types m.ops v))) (same_Some w (wanted_by a) wanted) fits)
  hears_one heard a s o w wants (inr has) fits = absurd (some_wanted s.wanted w has.2 wants)

  given_amid : (n : ℕ) (t u : Turns) (s : Standing) (life : Life) (o : Outcome) (w : Wanted) → u.running ≡ t.running → u.globals ≡ t.globals → s.wanted ≡ Some w → IfOk o (HaveTypes (wanted_types m.ops w)) → IsAmid n t s life → IsAmid n u (record s { given = s.given ++ o ∷ []; wanted = None }) life
  given_amid n t u s life o w runs globals wants fits is = record {
    first = is.first;
    is_first = is.is_first;
    typed = is.typed;
    action = is.action;
    store = is.store;
    onward = is.onward;
    closes = is.closes;
    actions = is.actions;
    did = is.did;
    fits = is.fits;
    many = is.many;
    came = is.came;
    own = is.own;
    heard = is.heard;
    goes = λ them q M same. is.goes them q M (same_variables n t u them (inr (runs, globals)) same);
    hears = let one = hears_one is.heard is.action s o w wants is.hears fits in inr (o, one.0, refl, one.1);
  }

  -- only a thread that asked for an action wants what it needs
  pub given_lives : (n : ℕ) (t u : Turns) (s : Standing) (life : Life) (o : Outcome) (w : Wanted) → u.running ≡ t.running → u.globals ≡ t.globals → s.wanted ≡ Some w → IfOk o (HaveTypes (wanted_types m.ops w)) → (IsStop p.instructions s → ⊥) →
      Lives n t s life → Lives n u (record s { given = s.given ++ o ∷ []; wanted = None }) life
  given_lives n t u s life o w runs globals wants fits other (Fresh is) = absurd (some_wanted s.wanted w (ap (λ (r : Standing). r.wanted) is.stands) wants)
  given_lives n t u s life o w runs globals wants fits other (Between is) = absurd (some_wanted s.wanted w is.wanted wants)
  given_lives n t u s life o w runs globals wants fits other (Amid is) = Amid (given_amid n t u s life o w runs globals wants fits is)
  given_lives n t u s life o w runs globals wants fits other (Stopped is) = absurd (other is.stop)

-- ---- small facts

empty_more : (os : List Outcome) (o : Outcome) → is_empty (os ++ o ∷ []) ≡ false
empty_more [] o = refl
empty_more (q ∷ os) o = refl

new_last : (globals : List Value) (os : List Outcome) (o : Outcome) → new_answer globals (os ++ o ∷ []) ≡ answer globals o ∷ []
new_last globals [] o = refl
new_last globals (q ∷ []) o = refl
new_last globals (q ∷ r ∷ os) o = new_last globals (r ∷ os) o

pub latest_last : (actions : List Action) (a : Action) → latest (actions ++ a ∷ []) ≡ a ∷ []
latest_last [] a = refl
latest_last (b ∷ []) a = refl
latest_last (b ∷ c ∷ actions) a = latest_last (c ∷ actions) a

-- one answer more
fits_more : (m : ModuleTypes) (xs : List Action) (a : Action) (answers : List Answer) (b : Answer) → length answers ≡ length xs → FitAll m xs answers → FitsTo m a b → FitAll m (xs ++ a ∷ []) (answers ++ b ∷ [])
fits_more m [] a [] b same fits one = (one, tt)
fits_more m [] a (c ∷ answers) b same fits one = absurd fits
fits_more m (x ∷ xs) a [] b same fits one = absurd (omega (arith, same))
fits_more m (x ∷ xs) a (c ∷ answers) b same fits one = (fits.0, fits_more m xs a answers b (omega (arith, same)) fits.1 one)

one_longer : (answers : List Answer) (b : Answer) (xs : List Action) (a : Action) → length answers ≡ length xs → length (answers ++ b ∷ []) ≡ length (xs ++ a ∷ [])
one_longer answers b xs a same = omega (arith, same, length-append answers (b ∷ []), length-append xs (a ∷ []))

-- ---- its turn

module _ (m : ModuleTypes) (p : Program) (t : Turns) (s : Standing) (life : Life) where
  abbrev i : Option Instruction
  i = slice_get p.instructions s.address

  abbrev fresh : List Answer
  fresh = new_answer t.globals s.given

  -- At its turn a thread does what a tree says, as its code does behind what the thread did before.
  pub record IsTurn : Type 0 where
    pub first : List Value
    pub is_first : unwrap_or life.first t.globals ≡ first
    pub typed : HaveTypes m.globals first
    pub actions : List Action
    pub did : actions_of life.did ≡ actions
    pub fits : FitAll m actions (life.answers ++ fresh)
    pub many : length (life.answers ++ fresh) ≡ length actions
    pub tree : Tree
    pub of : IsOf i tree
    pub came : (M : List Answer) (k : ℕ) → exec p (one_more (is_fresh s) life.made + k) (begin life first ((life.answers ++ fresh) ++ M)) ≡ go_on (run tree M actions) (exec p k)
    pub own : List Action
    pub goes : (M : List Answer) → fetched p (turned t.globals s s.given M) i ≡ run tree M own
    pub begins_or_closes : (s.given ≡ []) ⊎ OnlyCloses tree

  -- its tree at an instruction that begins
  abbrev the_tree : IsTree (IsOf i) (λ L X. fetched p (at (in_turn t.globals s) L X) i)
  the_tree = tree_of p (in_turn t.globals s) i

  begins_goes : s.given ≡ [] → (M : List Answer) → fetched p (turned t.globals s s.given M) i ≡ run the_tree.tree M []
  begins_goes none M = ap (λ (os : List Outcome). fetched p (turned t.globals s os M) i) none ∙ the_tree.same M []

  -- an instruction that begins has no answer yet
  no_more : s.given ≡ [] → life.answers ++ fresh ≡ life.answers
  no_more none = ap (λ (os : List Outcome). life.answers ++ new_answer t.globals os) none ∙ append-nil life.answers

  one_more_answer : (heard : List Outcome) (o : Outcome) → s.given ≡ heard ++ o ∷ [] → life.answers ++ fresh ≡ life.answers ++ answer t.globals o ∷ []
  one_more_answer heard o has = ap (λ (os : List Outcome). life.answers ++ new_answer t.globals os) has ∙ ap (λ (L : List Answer). life.answers ++ L) (new_last t.globals heard o)

  -- behind the instructions that it made before
  begins_came : (first : List Value) (actions : List Action) → s.given ≡ [] → Came p life first (λ M. Goes (at (in_turn t.globals s) M actions)) →
      (M : List Answer) (k : ℕ) → exec p (one_more (is_fresh s) life.made + k) (begin life first ((life.answers ++ fresh) ++ M)) ≡ go_on (run the_tree.tree M actions) (exec p k)
  begins_came first actions none came M k =
      ap (λ (os : List Outcome). exec p (one_more (is_empty os) life.made + k) (begin life first ((life.answers ++ new_answer t.globals os) ++ M))) none
      ∙ ap (λ (L : List Answer). exec p (life.made + 1 + k) (begin life first (L ++ M))) (append-nil life.answers)
      ∙ ap (λ (j : ℕ). exec p j (begin life first (life.answers ++ M))) more
      ∙ came M (suc k)
      ∙ ap (λ (next : Next). go_on next (exec p k)) (the_tree.same M actions)
    where
      more : life.made + 1 + k ≡ life.made + suc k
      more = omega arith

  pub turn_between : (n : ℕ) → IsBetween m p n t s life → IsTurn
  turn_between n is = record {
    first = is.first;
    is_first = ap (λ (o : Option (List Value)). unwrap_or o t.globals) is.is_first;
    typed = is.typed;
    actions = is.actions;
    did = ap actions_of is.did;
    fits = subst (FitAll m is.actions) (sym (no_more is.given)) is.fits;
    many = ap length (no_more is.given) ∙ is.many;
    tree = the_tree.tree;
    of = the_tree.holds;
    came = begins_came is.first is.actions is.given is.came;
    own = [];
    goes = begins_goes is.given;
    begins_or_closes = inl is.given;
  }

  -- behind what it was given before
  amid_goes : (heard : List Outcome) (o : Outcome) (own : List Action) (tree : Tree) → s.given ≡ heard ++ o ∷ [] → ((M : List Answer) → fetched p (turned t.globals s heard (answer t.globals o ∷ M)) i ≡ run tree M own) →
      (M : List Answer) → fetched p (turned t.globals s s.given M) i ≡ run tree M own
  amid_goes heard o own tree has goes M =
      ap (λ (os : List Outcome). fetched p (turned t.globals s os M) i) has
      ∙ ap (λ (L : List Answer). fetched p (at (in_turn t.globals s) (L ++ M) []) i) (map-append (answer t.globals) heard (o ∷ []))
      ∙ ap (λ (L : List Answer). fetched p (at (in_turn t.globals s) L []) i) (append_assoc (answers t.globals heard) (answer t.globals o ∷ []) M)
      ∙ goes M

  amid_came : (first : List Value) (heard : List Outcome) (o : Outcome) (action : Action) (store : Store) (onward : Answer → Tree) (actions : List Action) → s.given ≡ heard ++ o ∷ [] → Came p life first (λ M. run (Asks action store onward) M actions) →
      (M : List Answer) (k : ℕ) → exec p (one_more (is_fresh s) life.made + k) (begin life first ((life.answers ++ fresh) ++ M)) ≡ go_on (run (onward (answer t.globals o)) M (actions ++ action ∷ [])) (exec p k)
  amid_came first heard o action store onward actions has came M k =
      ap (λ (os : List Outcome). exec p (one_more (is_empty os) life.made + k) (begin life first ((life.answers ++ new_answer t.globals os) ++ M))) has
      ∙ ap (λ (b : Bool). exec p (one_more b life.made + k) (begin life first ((life.answers ++ new_answer t.globals (heard ++ o ∷ [])) ++ M))) (empty_more heard o)
      ∙ ap (λ (L : List Answer). exec p (life.made + k) (begin life first ((life.answers ++ L) ++ M))) (new_last t.globals heard o)
      ∙ ap (λ (L : List Answer). exec p (life.made + k) (begin life first L)) (append_assoc life.answers (answer t.globals o ∷ []) M)
      ∙ came (answer t.globals o ∷ M) k

  has_one : (heard : List Outcome) (a : Action) → s.wanted ≡ None → ((s.given ≡ heard) × (s.wanted ≡ Some (wanted_by a))) ⊎ ((o : Outcome) × (s.given ≡ heard ++ o ∷ []) × (s.wanted ≡ None) × FitsOutcome m a o) →
      (o : Outcome) × (s.given ≡ heard ++ o ∷ []) × FitsOutcome m a o
  has_one heard a free (inl same) = absurd (some_wanted s.wanted (wanted_by a) free same.1)
  has_one heard a free (inr has) = (has.0, has.1, has.3)

  pub turn_amid : (n : ℕ) → s.wanted ≡ None → HaveTypes m.globals t.globals → IsAmid m p n t s life → IsTurn
  turn_amid n free known is =
      let has = has_one is.heard is.action free is.hears in
      let tree = is.onward (answer t.globals has.0) in
      record {
        first = is.first;
        is_first = ap (λ (o : Option (List Value)). unwrap_or o t.globals) is.is_first;
        typed = is.typed;
        actions = is.actions ++ is.action ∷ [];
        did = ap actions_of is.did;
        fits = subst (FitAll m (is.actions ++ is.action ∷ [])) (sym (one_more_answer is.heard has.0 has.1))
            (fits_more m is.actions is.action life.answers (answer t.globals has.0) is.many is.fits (record { given = has.2; globals = known }));
        many = ap length (one_more_answer is.heard has.0 has.1) ∙ one_longer life.answers (answer t.globals has.0) is.actions is.action is.many;
        tree = tree;
        of = closes_of i tree (is.closes (answer t.globals has.0));
        came = amid_came is.first is.heard has.0 is.action is.store is.onward is.actions has.1 is.came;
        own = is.own;
        goes = amid_goes is.heard has.0 is.own tree has.1 (λ M. is.goes t.globals has.0 M (λ e. refl));
        begins_or_closes = inr (is.closes (answer t.globals has.0));
      }

-- a thread that begins
new_turn : (m : ModuleTypes) (p : Program) (t : Turns) (part : PartTypes) (arguments : List Value) → HaveTypes m.globals t.globals → IsTurn m p t (begun (opened_by part.op) part.start (start_locals part.locals arguments)) (born part arguments)
new_turn m p t part arguments known =
    let s = begun (opened_by part.op) part.start (start_locals part.locals arguments) in
    record {
      first = t.globals;
      is_first = refl;
      typed = known;
      actions = [];
      did = refl;
      fits = tt;
      many = refl;
      tree = (the_tree m p t s (born part arguments)).tree;
      of = (the_tree m p t s (born part arguments)).holds;
      came = begins_came m p t s (born part arguments) t.globals [] refl (λ M k. ap (λ (j : ℕ). exec p j (at (in_turn t.globals s) M [])) (none k));
      own = [];
      goes = begins_goes m p t s (born part arguments) refl;
      begins_or_closes = inl refl;
    }
  where
    none : (k : ℕ) → 0 + k ≡ k
    none k = omega arith

pub turn_new : (m : ModuleTypes) (p : Program) (t : Turns) (s : Standing) (life : Life) → HaveTypes m.globals t.globals → IsNew s life → IsTurn m p t s life
turn_new m p t s life known is =
    subst (λ (r : Standing). IsTurn m p t r life) (sym is.stands)
    (subst (λ (l : Life). IsTurn m p t (begun (opened_by life.part.op) life.part.start (start_locals life.part.locals life.arguments)) l) (sym is.born_so) (new_turn m p t life.part life.arguments known))
