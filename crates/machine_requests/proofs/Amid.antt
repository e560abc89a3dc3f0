-- What is open amid an instruction is what the meaning of code says.
use Rattle.std.proofs.Common.{arith, ◌≡◌, ℕ, zero, suc, ◌≤◌, List, [], ◌∷◌, ◌++◌, Bool, Option, Some, Ok, Err, length, map, slice_get, refl, sym, ap, subst, ◌∙◌, ◌⊎◌, ⊎_elim, inl, inr, append-nil, length-append, not-suc-le-zero, le_of_suc-le-suc}
use Rattle.std.proofs.lemmas.List.{map-append, length-map}
use Rattle.lynx_code.specs.declared.instruction.Instruction.{Instruction}
use Rattle.lynx_meaning.specs.Code.{Next, Goes, Over, Comes, Stuck, open_after, open_behind}
use Rattle.lynx_meaning.specs.Courses.{Action, Answer, Outcome, Store, New, Destroy, Bind, Unbind, Connect, Accept, Close, Reply, Write, Await, Stop, Ended, Waits, Out}
use Rattle.lynx_meaning.specs.Needs.{Wanted, Closing, wanted_by}
use Rattle.lynx_meaning.specs.Values.{Value}
use Rattle.code_shapes.specs.Shapes.{ModuleTypes, Shapes, AreShapes, PartTypes, program}
use Rattle.machine_turns.specs.Threads.{Standing, Made, Went, Acts, Awaits, Ends, Broken, acted, answers, comes_of, goes_on, in_turn, is_await, last_action, made}
use Rattle.machine_turns.specs.Turns.{Turns}
use Rattle.machine_never_stuck.specs.Sound.{EndInAction, HasOpen, IsAction, IsSound, needs}
use Rattle.machine_never_stuck.proofs.Whole.{all_fit, never_stuck}
use Rattle.machine_sound.specs.Sound.{AreSound, IsSoundThread}
use Rattle.machine_sound.proofs.Keeping.{last_of}
use Rattle.machine_requests.specs.Open.{first_wanted, later_wanted, open_amid, open_given, open_in, open_of, opens}
use Rattle.machine_requests.specs.Heard.{Asks, HearsAll}
use Rattle.machine_requests.proofs.Steps.{AreInOrder, Closes, IsFirst, IsLater, Tells, Told, fetching}

-- ---- outcomes

-- what the next action needs, behind so many outcomes: the one or the other
abbrev next_of : Wanted → Wanted → ℕ → Wanted
next_of first later zero = first
next_of first later (suc k) = later

abbrev pub next_wanted : Option Instruction → ℕ → Wanted
next_wanted i k = next_of (first_wanted i) (later_wanted i) k

next_same : (later : Wanted) (k : ℕ) → next_of later later k ≡ later
next_same later zero = refl
next_same later (suc k) = refl

given_more : (first later : Wanted) (os ps : List Outcome) (requests : List ℕ) →
    open_given first later (os ++ ps) requests ≡ open_given (next_of first later (length os)) later ps (open_given first later os requests)
given_more first later [] ps requests = refl
given_more first later (o ∷ os) ps requests =
    given_more later later os ps (opens first o requests) ∙ ap (λ (w : Wanted). open_given w later ps (open_given later later os (opens first o requests))) (next_same later (length os))

-- one outcome more
pub amid_more : (i : Option Instruction) (os : List Outcome) (o : Outcome) (requests : List ℕ) → open_amid i (os ++ o ∷ []) requests ≡ opens (next_wanted i (length os)) o (open_amid i os requests)
amid_more i os o requests = given_more (first_wanted i) (later_wanted i) os (o ∷ []) requests

-- where none is open, closes close none
none_closes : (os : List Outcome) → open_given Closing Closing os [] ≡ []
none_closes [] = refl
none_closes (o ∷ os) = none_closes os

-- ---- actions

opens_after : (a : Action) (o : Outcome) (requests : List ℕ) → open_after a o requests ≡ opens (wanted_by a) o requests
opens_after (Accept link op) (Ok vs) requests = refl
opens_after (Accept link op) (Err x) requests = refl
opens_after New o requests = refl
opens_after (Destroy link) o requests = refl
opens_after (Bind link entry) o requests = refl
opens_after (Unbind link entry) o requests = refl
opens_after (Connect link op values) o requests = refl
opens_after Close o requests = refl
opens_after (Reply values) o requests = refl
opens_after (Write text) o requests = refl
opens_after Await o requests = refl
opens_after Stop o requests = refl

behind_given : (First Later : Action → Type 0) (first later : Wanted) → ((a : Action) → First a → wanted_by a ≡ first) → ((a : Action) → Later a → wanted_by a ≡ later) →
    (done : List Action) (os : List Outcome) (requests : List ℕ) → AreInOrder First Later done → length os ≤ length done → open_behind done os requests ≡ open_given first later os requests
behind_given First Later first later is_first is_later [] [] requests order le = refl
behind_given First Later first later is_first is_later [] (o ∷ os) requests order le = absurd (not-suc-le-zero le)
behind_given First Later first later is_first is_later (a ∷ done) [] requests order le = refl
behind_given First Later first later is_first is_later (a ∷ done) (o ∷ os) requests order le =
    behind_given Later Later later later is_later is_later done os (open_after a o requests) order.1 (le_of_suc-le-suc le)
    ∙ ap (open_given later later os) (opens_after a o requests ∙ ap (λ (w : Wanted). opens w o requests) (is_first a order.0))

-- the open requests are those that the actions leave
pub behind_amid : (i : Option Instruction) (done : List Action) (os : List Outcome) (requests : List ℕ) → AreInOrder (IsFirst i) (IsLater i) done → length os ≤ length done → open_behind done os requests ≡ open_amid i os requests
behind_amid i done os requests order le = behind_given (IsFirst i) (IsLater i) (first_wanted i) (later_wanted i) (λ a is. is.0) (λ a is. is.0) done os requests order le

last_later : (Later : Action → Type 0) (actions : List Action) (a : Action) → AreInOrder Later Later (actions ++ a ∷ []) → Later a
last_later Later [] a order = order.0
last_later Later (b ∷ actions) a order = last_later Later actions a order.1

last_in_order : (i : Option Instruction) (actions : List Action) (a : Action) → AreInOrder (IsFirst i) (IsLater i) (actions ++ a ∷ []) → (wanted_by a ≡ next_wanted i (length actions)) × Tells i a
last_in_order i [] a order = order.0
last_in_order i (b ∷ actions) a order = last_later (IsLater i) actions a order.1

front_in_order : (First Later : Action → Type 0) (actions : List Action) (a : Action) → AreInOrder First Later (actions ++ a ∷ []) → AreInOrder First Later actions
front_in_order First Later [] a order = tt
front_in_order First Later (b ∷ actions) a order = (order.0, front_in_order Later Later actions a order.1)

closes_next : (i : Option Instruction) (actions : List Action) → Closes (IsFirst i) (IsLater i) actions → next_wanted i (length actions) ≡ Closing
closes_next i [] c = sym (c.first refl).0
closes_next i (a ∷ actions) c = sym c.later.0

stop_or_not : (a : Action) → (a ≡ Stop) ⊎ (a ≡ Stop → ⊥)
stop_or_not Stop = inl refl
stop_or_not _ = inr (λ e. cc)

-- an await is given no value, and any other action has no outcome yet
pub of_acted : (P : Made → Type 0) (a : Action) (globals : List Value) (s : Standing) → (a ≡ Await → P (Awaits globals (record s { given = s.given ++ Ok [] ∷ [] }))) →
    ((a ≡ Await → ⊥) → P (Acts a globals (record s { wanted = Some (wanted_by a) }))) → P (acted (Some a) globals s)
of_acted P Await globals s awaits acts = awaits refl
of_acted P New globals s awaits acts = acts (λ e. cc)
of_acted P (Destroy link) globals s awaits acts = acts (λ e. cc)
of_acted P (Bind link entry) globals s awaits acts = acts (λ e. cc)
of_acted P (Unbind link entry) globals s awaits acts = acts (λ e. cc)
of_acted P (Connect link op values) globals s awaits acts = acts (λ e. cc)
of_acted P (Accept link op) globals s awaits acts = acts (λ e. cc)
of_acted P Close globals s awaits acts = acts (λ e. cc)
of_acted P (Reply values) globals s awaits acts = acts (λ e. cc)
of_acted P (Write text) globals s awaits acts = acts (λ e. cc)
of_acted P Stop globals s awaits acts = acts (λ e. cc)

-- ---- what a thread was given

abbrev given_of : Answer → Outcome
given_of a = a.given

outcomes : (globals : List Value) (os : List Outcome) → map given_of (answers globals os) ≡ os
outcomes globals [] = refl
outcomes globals (o ∷ os) = ap (λ (ps : List Outcome). o ∷ ps) (outcomes globals os)

module _ (m : ModuleTypes) (instructions : List Instruction) (globals : List Value) (s : Standing) where
  abbrev i : Option Instruction
  i = slice_get instructions s.address

  abbrev here : List ℕ
  here = open_in instructions (Some (Some s))

  abbrev InOrder : List Action → Type 0
  InOrder actions = AreInOrder (IsFirst i) (IsLater i) actions

  module _ (actions : List Action) (left : List Answer) (requests : List ℕ) (has : HasOpen (in_turn globals s) actions left requests) where
    in_done : InOrder actions → InOrder has.done
    in_done order = subst InOrder has.acted order

    -- what was heard, and what is left of it
    heard_outcomes : s.given ≡ map given_of has.heard ++ map given_of left
    heard_outcomes = sym (outcomes globals s.given) ∙ ap (map given_of) has.used ∙ map-append given_of has.heard left

    many_heard : length has.done ≡ length (map given_of has.heard)
    many_heard = has.many ∙ sym (length-map has.heard given_of)

    unclosed_given : InOrder actions → requests ≡ open_amid i (map given_of has.heard) s.requests
    unclosed_given order = has.unclosed ∙ behind_amid i has.done (map given_of has.heard) s.requests (in_done order) (omega (arith, many_heard))

    all_heard : left ≡ [] → map given_of has.heard ≡ s.given
    all_heard none = sym (append-nil (map given_of has.heard)) ∙ ap (λ (l : List Answer). map given_of has.heard ++ map given_of l) (sym none) ∙ sym heard_outcomes

    -- where all was heard
    now_open : left ≡ [] → InOrder actions → requests ≡ here
    now_open none order = unclosed_given order ∙ ap (λ (os : List Outcome). open_amid i os s.requests) (all_heard none)

    many_acted : left ≡ [] → length actions ≡ length s.given
    many_acted none = ap length has.acted ∙ many_heard ∙ ap length (all_heard none)

  -- where it ended
  none_open : (actions : List Action) (left : List Answer) → HasOpen (in_turn globals s) actions left [] → Closes (IsFirst i) (IsLater i) actions → here ≡ []
  none_open actions left has c =
      let os = map given_of has.heard in
      let ps = map given_of left in
      let behind : next_wanted i (length os) ≡ Closing = ap (next_wanted i) (sym (ap length has.acted ∙ many_heard actions left [] has)) ∙ closes_next i actions c in
      ap (λ (qs : List Outcome). open_amid i qs s.requests) (heard_outcomes actions left [] has)
      ∙ given_more (first_wanted i) (later_wanted i) os ps s.requests
      ∙ ap (λ (rs : List ℕ). open_given (next_wanted i (length os)) (later_wanted i) ps rs) (sym (unclosed_given actions left [] has c.order))
      ∙ ap (λ (w : Wanted). open_given w (later_wanted i) ps []) behind
      ∙ ap (λ (w : Wanted). open_given Closing w ps []) (sym c.later.0)
      ∙ none_closes ps

  -- ---- where it waits

  module _ (actions : List Action) (order : InOrder actions) (end : EndInAction m (needs m i) (in_turn globals s) actions) where
    all_in_order : InOrder (end.before ++ end.action ∷ [])
    all_in_order = subst InOrder end.last order

    stop_wants : (k : ℕ) → Tells i Stop → wanted_by Stop ≡ next_wanted i k
    stop_wants zero tells = sym tells.0
    stop_wants (suc k) tells = sym tells.1

    -- what it asks for comes behind what it was given
    pub asked_next : (wanted_by end.action ≡ next_wanted i (length s.given)) × Tells i end.action
    asked_next =
        let last = last_in_order i end.before end.action all_in_order in
        ⊎_elim
        (λ (e : end.action ≡ Stop). (subst (λ (a : Action). wanted_by a ≡ next_wanted i (length s.given)) (sym e) (stop_wants (length s.given) (subst (Tells i) e last.1)), last.1))
        (λ (e : end.action ≡ Stop → ⊥). (last.0 ∙ ap (next_wanted i) (many_acted end.before end.left end.requests end.here (end.all e)), last.1))
        (stop_or_not end.action)

    -- and is asked where these requests are open
    pub asked_here : IsAction m here end.action
    asked_here =
        ⊎_elim
        (λ (e : end.action ≡ Stop). subst (λ (a : Action). IsAction m here a) (sym e) tt)
        (λ (e : end.action ≡ Stop → ⊥).
        subst (λ (rs : List ℕ). IsAction m rs end.action) (now_open end.before end.left end.requests end.here (end.all e) (front_in_order (IsFirst i) (IsLater i) end.before end.action all_in_order)) end.of_module)
        (stop_or_not end.action)

  -- what it wants is that
  pub wants_next : (shapes : Shapes) (w : Wanted) (next : Next) → IsSound m shapes (needs m i) (in_turn globals s) next → Told (IsFirst i) (IsLater i) next → Asks w next → w ≡ next_wanted i (length s.given)
  wants_next shapes w (Over (Comes (Waits actions store))) sound order asks =
      let next = asked_next actions order sound.0 in
      let it : Some asks.0 ≡ Some sound.0.action = sym asks.1 ∙ ap last_action sound.0.last ∙ last_of sound.0.before sound.0.action in
      let same : asks.0 ≡ sound.0.action = cc in
      sym asks.2 ∙ ap wanted_by same ∙ next.0
  wants_next shapes w _ sound order asks = absurd asks

  -- the last action has no outcome yet
  pub waits_behind : (actions : List Action) → EndInAction m (needs m i) (in_turn globals s) actions → InOrder actions → (last_action actions ≡ Some Stop → ⊥) → here ≡ open_behind actions s.given s.requests
  waits_behind actions end order other =
      let some : end.action ≡ Stop → ⊥ = λ e. other (ap last_action end.last ∙ last_of end.before end.action ∙ ap (λ (a : Action). Some a) e) in
      let many = many_acted end.before end.left end.requests end.here (end.all some) in
      let more = ap length end.last ∙ length-append end.before (end.action ∷ []) in
      sym (behind_amid i actions s.given s.requests order (omega (arith, many, more)))

  -- ---- what comes of it

  -- the same requests are open, or none where the thread ended
  abbrev pub OpenMade : Made → Type 0
  OpenMade (Went now u) = open_in instructions (Some (Some u)) ≡ here
  OpenMade (Acts a now u) = (open_in instructions (Some (Some u)) ≡ here) × IsAction m here a
  OpenMade (Awaits now u) = open_in instructions (Some (Some u)) ≡ here
  OpenMade (Ends now) = here ≡ []
  OpenMade Broken = ⊥

  waits : (actions : List Action) (now : List Value) → InOrder actions → EndInAction m (needs m i) (in_turn globals s) actions → OpenMade (acted (last_action actions) now s)
  waits actions now order end =
      let next = asked_next actions order end in
      subst (λ (o : Option Action). OpenMade (acted o now s)) (sym (ap last_action end.last ∙ last_of end.before end.action))
      (of_acted OpenMade end.action now s
      (λ e. amid_more i s.given (Ok []) s.requests ∙ ap (λ (w : Wanted). opens w (Ok []) here) (sym next.0 ∙ ap wanted_by e))
      (λ e. (refl, asked_here actions order end)))

  of_next : (shapes : Shapes) (b : Bool) (next : Next) → IsSound m shapes (needs m i) (in_turn globals s) next → Told (IsFirst i) (IsLater i) next → HearsAll next → OpenMade (made b s next)
  of_next shapes b (Goes now) sound order hears = now_open now.moment.actions now.moment.answers now.requests sound.1 hears order
  of_next shapes b (Over (Comes (Waits actions store))) sound order hears = waits actions store.globals order sound.0
  of_next shapes b (Over (Comes (Ended actions store))) sound c hears = none_open actions sound.0.0 sound.0.1 c
  of_next shapes b (Over (Comes (Out actions))) sound order hears = absurd sound
  of_next shapes b (Over Stuck) sound order hears = absurd sound

  module _ (parts : List PartTypes) (shapes : Shapes) (are : AreShapes m parts instructions shapes) (is : IsSoundThread m instructions shapes globals s) where
    pub sound : IsSound m shapes (needs m i) (in_turn globals s) (goes_on (program m instructions) globals s)
    sound = never_stuck m parts instructions shapes are (in_turn globals s) is.thread (record { first = is.given; globals = all_fit m.globals globals s.given is.thread.globals })

    pub told : Told (IsFirst i) (IsLater i) (goes_on (program m instructions) globals s)
    told = (fetching (program m instructions) (in_turn globals s) i).told (answers globals s.given)

    pub made_open : HearsAll (goes_on (program m instructions) globals s) → OpenMade (comes_of (program m instructions) globals s)
    made_open hears = of_next shapes (is_await i) (goes_on (program m instructions) globals s) sound told hears

-- where an instruction waits, the open requests are those of the meaning of code
pub open_by_meaning : (m : ModuleTypes) (parts : List PartTypes) (instructions : List Instruction) (t : Turns) (n : ℕ) (s : Standing) (actions : List Action) (store : Store) → AreSound m parts instructions t → slice_get t.threads n ≡ Some (Some s) →
    goes_on (program m instructions) t.globals s ≡ Over (Comes (Waits actions store)) → (last_action actions ≡ Some Stop → ⊥) → open_of instructions n t ≡ open_behind actions s.given s.requests
open_by_meaning m parts instructions t n s actions store are here waits other =
    let i = slice_get instructions s.address in
    let is = are.threads n s here in
    let end = subst (λ (next : Next). IsSound m are.shapes (needs m i) (in_turn t.globals s) next) waits (sound m instructions t.globals s parts are.shapes are.are is) in
    let order = subst (λ (next : Next). Told (IsFirst i) (IsLater i) next) waits (told m instructions t.globals s parts are.shapes are.are is) in
    ap (open_in instructions) here ∙ waits_behind m instructions t.globals s actions end.0 order other
