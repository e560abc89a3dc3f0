-- A thread of the shapes is one of the shapes behind its instruction.
use Rattle.std.proofs.Common.{◌≡◌, List, [], ◌∷◌, ◌++◌, Bool, Option, Some, None, Ok, slice_get, refl, sym, ap, subst, ◌∙◌}
use Rattle.lynx_tree.specs.declared.declaration.TypeName.{TypeName}
use Rattle.lynx_code.specs.declared.instruction.Instruction.{Instruction}
use Rattle.lynx_meaning.specs.Code.{Next, Thread, Goes, Over, Comes, Stuck}
use Rattle.lynx_meaning.specs.Courses.{Action, Store, New, Destroy, Bind, Unbind, Connect, Accept, Close, Reply, Write, Await, Stop, Ended, Waits, Out, Outcome}
use Rattle.lynx_meaning.specs.Values.{Value, HaveTypes}
use Rattle.code_shapes.specs.Shapes.{ModuleTypes, Shapes, AreShapes, IsThread, program, PartTypes}
use Rattle.machine_turns.specs.Threads.{Standing, Made, Went, Acts, Awaits, Ends, Broken, acted, answers, comes_of, goes_on, in_turn, is_await, last_action, made}
use Rattle.lynx_meaning.specs.Needs.{Wanted, wanted_by, wanted_types}
use Rattle.machine_never_stuck.specs.Sound.{EndInAction, FirstFits, IsSound, needs}
use Rattle.machine_never_stuck.proofs.Whole.{all_fit, never_stuck}
use Rattle.machine_sound.specs.Sound.{IsSoundThread}

-- ---- other variables of the module

-- where other threads changed the variables of the module
pub with_globals : (m : ModuleTypes) (shapes : Shapes) (globals now : List Value) (s : Standing) → HaveTypes m.globals now → IsThread m shapes (in_turn globals s) → IsThread m shapes (in_turn now s)
with_globals m shapes globals now s typed is = record {
  shape = is.shape;
  there = is.there;
  has = record { locals = is.has.locals; stack = is.has.stack; tries = is.has.tries; requests = is.has.requests; pending = is.has.pending };
  globals = typed;
}

-- the first outcome fits as before
first_fits : (ts : List TypeName) (globals now : List Value) (os : List Outcome) → FirstFits ts (answers globals os) → FirstFits ts (answers now os)
first_fits ts globals now [] fits = tt
first_fits ts globals now (o ∷ os) fits = fits

pub thread_with_globals : (m : ModuleTypes) (instructions : List Instruction) (shapes : Shapes) (globals now : List Value) (s : Standing) → HaveTypes m.globals now →
    IsSoundThread m instructions shapes globals s → IsSoundThread m instructions shapes now s
thread_with_globals m instructions shapes globals now s typed is = record {
  thread = with_globals m shapes globals now s typed is.thread;
  given = first_fits (needs m (slice_get instructions s.address)) globals now s.given is.given;
  wanted = is.wanted;
}

-- ---- what comes of an instruction

-- what comes of an instruction of a thread is sound
abbrev pub SoundMade : ModuleTypes → List Instruction → Shapes → Standing → Made → Type 0
SoundMade m instructions shapes s (Went globals t) = IsSoundThread m instructions shapes globals t × HaveTypes m.globals globals × (t.wanted ≡ None)
SoundMade m instructions shapes s (Acts a globals t) = IsSoundThread m instructions shapes globals t × HaveTypes m.globals globals × (t.wanted ≡ Some (wanted_by a))
SoundMade m instructions shapes s (Awaits globals t) = IsSoundThread m instructions shapes globals t × HaveTypes m.globals globals × (t.wanted ≡ s.wanted)
SoundMade m instructions shapes s (Ends globals) = HaveTypes m.globals globals
SoundMade m instructions shapes s Broken = ⊥

pub some_wanted : (w : Wanted) → None ≡ Some w → ⊥
some_wanted w e = cc

pub last_of : (actions : List Action) (a : Action) → last_action (actions ++ a ∷ []) ≡ Some a
last_of [] a = refl
last_of (b ∷ []) a = refl
last_of (b ∷ c ∷ rest) a = last_of (c ∷ rest) a

module _ (m : ModuleTypes) (instructions : List Instruction) (shapes : Shapes) (globals : List Value) (s : Standing) (is : IsSoundThread m instructions shapes globals s) where
  abbrev needed : List TypeName
  needed = needs m (slice_get instructions s.address)

  -- it is given no value more
  given_none : (now : List Value) (os : List Outcome) → (answers globals os ≡ [] → [] ≡ needed) → FirstFits needed (answers globals os) → FirstFits needed (answers now (os ++ Ok [] ∷ []))
  given_none now [] first fits = subst (λ (ts : List TypeName). HaveTypes ts []) (first refl) tt
  given_none now (o ∷ os) first fits = fits

  some_more : (os : List Outcome) (o : Outcome) → os ++ o ∷ [] ≡ [] → ⊥
  some_more [] o e = cc
  some_more (p ∷ os) o e = cc

  awaits : (now : List Value) → HaveTypes m.globals now → (answers globals s.given ≡ [] → [] ≡ needed) → SoundMade m instructions shapes s (Awaits now (record s { given = s.given ++ Ok [] ∷ [] }))
  awaits now typed first = (
    record {
      thread =
          let there = with_globals m shapes globals now s typed is.thread in record { shape = there.shape; there = there.there; has = record { locals = there.has.locals; stack = there.has.stack; tries = there.has.tries; requests = there.has.requests; pending = there.has.pending }; globals = typed };
      given = given_none now s.given first is.given;
      wanted = λ w e none. absurd (some_more s.given (Ok []) none);
    },
    typed,
    refl,
  )

  acts : (a : Action) (now : List Value) → HaveTypes m.globals now → (answers globals s.given ≡ [] → wanted_types m.ops (wanted_by a) ≡ needed) → SoundMade m instructions shapes s (Acts a now (record s { wanted = Some (wanted_by a) }))
  acts a now typed first = (
    record {
      thread =
          let there = with_globals m shapes globals now s typed is.thread in record { shape = there.shape; there = there.there; has = record { locals = there.has.locals; stack = there.has.stack; tries = there.has.tries; requests = there.has.requests; pending = there.has.pending }; globals = typed };
      given = first_fits needed globals now s.given is.given;
      wanted = λ w e none.
          let same : wanted_by a ≡ w = cc in
          ap (wanted_types m.ops) (sym same) ∙ first (ap (answers globals) none);
    },
    typed,
    refl,
  )

  acted_sound : (a : Action) (now : List Value) → HaveTypes m.globals now → (answers globals s.given ≡ [] → wanted_types m.ops (wanted_by a) ≡ needed) → SoundMade m instructions shapes s (acted (Some a) now s)
  acted_sound New now typed first = acts New now typed first
  acted_sound (Destroy link) now typed first = acts (Destroy link) now typed first
  acted_sound (Bind link entry) now typed first = acts (Bind link entry) now typed first
  acted_sound (Unbind link entry) now typed first = acts (Unbind link entry) now typed first
  acted_sound (Connect link op values) now typed first = acts (Connect link op values) now typed first
  acted_sound (Accept link op) now typed first = acts (Accept link op) now typed first
  acted_sound Close now typed first = acts Close now typed first
  acted_sound (Reply values) now typed first = acts (Reply values) now typed first
  acted_sound (Write text) now typed first = acts (Write text) now typed first
  acted_sound Await now typed first = awaits now typed first
  acted_sound Stop now typed first = acts Stop now typed first

  goes : (b : Bool) (now : Thread) → IsThread m shapes now → SoundMade m instructions shapes s (made b s (Goes now))
  goes b now sound = (
    record {
      thread = record {
        shape = sound.shape;
        there = sound.there;
        has = record { locals = sound.has.locals; stack = sound.has.stack; tries = sound.has.tries; requests = sound.has.requests; pending = sound.has.pending };
        globals = sound.globals;
      };
      given = tt;
      wanted = λ w e none. absurd (some_wanted w e);
    },
    sound.globals,
    refl,
  )

  waits : (b : Bool) (actions : List Action) (store : Store) → EndInAction m needed (in_turn globals s) actions → HaveTypes m.globals store.globals →
      SoundMade m instructions shapes s (made b s (Over (Comes (Waits actions store))))
  waits b actions store end typed =
      subst (λ (o : Option Action). SoundMade m instructions shapes s (acted o store.globals s)) (sym (ap last_action end.last ∙ last_of end.before end.action))
      (acted_sound end.action store.globals typed end.first)

  next_sound : (b : Bool) (next : Next) → IsSound m shapes needed (in_turn globals s) next → SoundMade m instructions shapes s (made b s next)
  next_sound b (Goes now) sound = goes b now sound.0
  next_sound b (Over (Comes (Waits actions store))) sound = waits b actions store sound.0 sound.1
  next_sound b (Over (Comes (Ended actions store))) sound = sound.1
  next_sound b (Over (Comes (Out actions))) sound = absurd sound
  next_sound b (Over Stuck) sound = absurd sound

  pub made_sound : (parts : List PartTypes) → AreShapes m parts instructions shapes → SoundMade m instructions shapes s (comes_of (program m instructions) globals s)
  made_sound parts are =
      next_sound (is_await (slice_get instructions s.address)) (goes_on (program m instructions) globals s)
      (never_stuck m parts instructions shapes are (in_turn globals s) is.thread (record { first = is.given; globals = all_fit m.globals globals s.given is.thread.globals }))
