-- What comes of the actions of threads, by what is raised.
use Rattle.std.proofs.Common.{◌≡◌, ℕ, true, false, Bool, List, [], ◌∷◌, Option, Some, None, IsSome, option_map, slice_get, if◌then◌else◌, refl, sym, ap, ◌∙◌}
use Rattle.charlotte_calls.specs.declared.names.EndId.{EndId}
use Rattle.typing_rules.specs.declared.exception.Exception.{Exception}
use Rattle.typing_rules.specs.declared.exception.Exception.TheVariants.{DeadLink, NoLink}
use Rattle.lynx_meaning.specs.Courses.{Bind, Destroy, Unbind}
use Rattle.lynx_meaning.specs.Courses as actions
use Rattle.lynx_meaning.specs.Values.{Link, Value}
use Rattle.end_protocol.specs.declared.kept.Kept.{Kept}
use Rattle.end_protocol.specs.declared.messages.Connect.{Connect}
use Rattle.end_protocol.specs.Asking.{accepts_too, binds, connected, unbinds}
use Rattle.process_run.specs.States.{Held, State, Done, quietly}
use Rattle.process_run.specs.Actions.{acts, asking, fault_among, issues, on_held, on_live, served, tested, unless, with_signature}
use Rattle.process_run.specs.Deaths.{destroys, does, raises}
use Rattle.process_run.specs.Ends.{held_at, keeps, lets_go, links_in}
use Rattle.process_run.specs.Reports.{on_end}
use Rattle.process_ends.proofs.Lists.{some_is}
use Rattle.process_sound.specs.May.{at_end}
use Rattle.lynx_rt.specs.Changes.{changes, dead_fault, fault_on}
use Rattle.lynx_rt.proofs.Holding.{still_held}

-- ---- on an end that is held, and on one that is not dead

raised_by : (b : Bool) (thread : ℕ) (s : State) (d : Done) (x : Exception) → Some x ≡ (if b then Some DeadLink else None) → raises thread x s ≡ (on_live b thread s d).state
raised_by true thread s d x is = ap (λ (y : Exception). raises thread y s) (some_is x DeadLink is)
raised_by false thread s d x is = let no : Some x ≡ None = is in absurd cc

dead_raised : (o : Option Held) (thread : ℕ) (s : State) (next : Held → Done) (x : Exception) → Some x ≡ dead_fault o
    → raises thread x s ≡ (on_held thread o s (λ h. on_live h.kept.dead thread s (next h))).state
dead_raised None thread s next x is = ap (λ (y : Exception). raises thread y s) (some_is x NoLink is)
dead_raised (Some h) thread s next x is = raised_by h.kept.dead thread s (next h) x is

live_by : (b : Bool) (thread : ℕ) (s : State) (d : Done) → None ≡ (if b then Some DeadLink else None) → d.state ≡ (on_live b thread s d).state
live_by true thread s d is = let no : None ≡ Some DeadLink = is in absurd cc
live_by false thread s d is = refl

lives : (o : Option Held) (thread : ℕ) (f : Kept → Kept) (last : State → State) (s : State) → None ≡ dead_fault o
    → last (on_end o (λ h t. keeps h (f h.kept) t) s).state ≡ (on_held thread o s (λ h. on_live h.kept.dead thread s (quietly (last (keeps h (f h.kept) s))))).state
lives None thread f last s is = let no : None ≡ Some NoLink = is in absurd cc
lives (Some h) thread f last s is = live_by h.kept.dead thread s (quietly (last (keeps h (f h.kept) s))) is

none_raised : (o : Option Held) (thread : ℕ) (s : State) (next : Held → Done) → None ≡ option_map (λ h. h.end) o → raises thread NoLink s ≡ (on_held thread o s next).state
none_raised None thread s next at = refl
none_raised (Some h) thread s next at = let no : None ≡ Some h.end = at in absurd cc

held_done : (o : Option Held) (e : EndId) (thread : ℕ) (f : Held → State → State) (last : State → State) (s : State) → Some e ≡ option_map (λ h. h.end) o
    → last (on_end o f s).state ≡ (on_held thread o s (λ h. quietly (last (f h s)))).state
held_done None e thread f last s at = let no : Some e ≡ None = at in absurd cc
held_done (Some h) e thread f last s at = refl

with_one : (o : Option (List ℕ)) (x : List ℕ) (thread : ℕ) (s : State) (next : List ℕ → Done) → Some x ≡ o → (next x).state ≡ (with_signature thread o s next).state
with_one o x thread s next is = ap (λ (o : Option (List ℕ)). (with_signature thread o s next).state) is

with_none : (o : Option (List ℕ)) (thread : ℕ) (s : State) (next : List ℕ → Done) → None ≡ o → does thread s ≡ (with_signature thread o s next).state
with_none o thread s next is = ap (λ (o : Option (List ℕ)). (with_signature thread o s next).state) is

-- ---- destroy

pub destroy_raised : (thread n : ℕ) (s u : State) → None ≡ option_map (λ h. h.end) (held_at n s) → u ≡ raises thread NoLink s → u ≡ (acts thread (Destroy (Link n)) s).state
destroy_raised thread n s u at is = is ∙ none_raised (held_at n s) thread s (λ h. quietly (does thread (destroys h s))) at

pub destroy_done : (thread n : ℕ) (e : EndId) (s t u : State) → Some e ≡ option_map (λ h. h.end) (held_at n s) → t ≡ at_end n destroys s → u ≡ does thread t
    → u ≡ (acts thread (Destroy (Link n)) s).state
destroy_done thread n e s t u at gone is = is ∙ ap (does thread) gone ∙ held_done (held_at n s) e thread destroys (does thread) s at

-- ---- bind

abbrev bind_next : ℕ → ℕ → ℕ → State → List ℕ → Done
bind_next thread n entry s x =
    on_held thread (held_at n s) s
    (λ h. on_live h.kept.dead thread s (quietly (does thread (keeps h (binds (record { entry = entry; signature = x }) h.kept) s))))

pub bind_none : (thread n entry : ℕ) (s u : State) → None ≡ served s.code entry → u ≡ does thread s → u ≡ (acts thread (Bind (Link n) entry) s).state
bind_none thread n entry s u none is = is ∙ with_none (served s.code entry) thread s (bind_next thread n entry s) none

pub bind_raised : (thread n entry : ℕ) (x : List ℕ) (e : Exception) (s u : State) → Some x ≡ served s.code entry → Some e ≡ dead_fault (held_at n s) → u ≡ raises thread e s
    → u ≡ (acts thread (Bind (Link n) entry) s).state
bind_raised thread n entry x e s u there dead is =
    is ∙ dead_raised (held_at n s) thread s (λ h. quietly (does thread (keeps h (binds (record { entry = entry; signature = x }) h.kept) s))) e dead
    ∙ with_one (served s.code entry) x thread s (bind_next thread n entry s) there

pub bind_done : (thread n entry : ℕ) (x : List ℕ) (s t u : State) → Some x ≡ served s.code entry → None ≡ dead_fault (held_at n s)
    → t ≡ changes n (binds (record { entry = entry; signature = x })) s → u ≡ does thread t → u ≡ (acts thread (Bind (Link n) entry) s).state
bind_done thread n entry x s t u there live changed is =
    is ∙ ap (does thread) changed ∙ lives (held_at n s) thread (binds (record { entry = entry; signature = x })) (does thread) s live
    ∙ with_one (served s.code entry) x thread s (bind_next thread n entry s) there

-- ---- unbind

abbrev unbind_next : ℕ → ℕ → ℕ → State → List ℕ → Done
unbind_next thread n entry s x = on_held thread (held_at n s) s (λ h. quietly (does thread (keeps h (unbinds entry h.kept) s)))

pub unbind_none : (thread n entry : ℕ) (s u : State) → None ≡ served s.code entry → u ≡ does thread s → u ≡ (acts thread (Unbind (Link n) entry) s).state
unbind_none thread n entry s u none is = is ∙ with_none (served s.code entry) thread s (unbind_next thread n entry s) none

pub unbind_raised : (thread n entry : ℕ) (x : List ℕ) (s u : State) → Some x ≡ served s.code entry → None ≡ option_map (λ h. h.end) (held_at n s) → u ≡ raises thread NoLink s
    → u ≡ (acts thread (Unbind (Link n) entry) s).state
unbind_raised thread n entry x s u there at is =
    is ∙ none_raised (held_at n s) thread s (λ h. quietly (does thread (keeps h (unbinds entry h.kept) s))) at
    ∙ with_one (served s.code entry) x thread s (unbind_next thread n entry s) there

pub unbind_done : (thread n entry : ℕ) (x : List ℕ) (e : EndId) (s t u : State) → Some x ≡ served s.code entry → Some e ≡ option_map (λ h. h.end) (held_at n s)
    → t ≡ changes n (unbinds entry) s → u ≡ does thread t → u ≡ (acts thread (Unbind (Link n) entry) s).state
unbind_done thread n entry x e s t u there at changed is =
    is ∙ ap (does thread) changed ∙ held_done (held_at n s) e thread (λ h t. keeps h (unbinds entry h.kept) t) (does thread) s at
    ∙ with_one (served s.code entry) x thread s (unbind_next thread n entry s) there

-- ---- accept

abbrev accept_next : ℕ → ℕ → State → List ℕ → Done
accept_next thread n s x =
    on_held thread (held_at n s) s (λ h. on_live h.kept.dead thread s (quietly (keeps h (accepts_too (record { thread = thread; signature = x }) h.kept) s)))

pub accept_raised : (thread n op : ℕ) (x : List ℕ) (e : Exception) (s u : State) → Some x ≡ slice_get s.code.signatures op → Some e ≡ dead_fault (held_at n s) → u ≡ raises thread e s
    → u ≡ (acts thread (actions.Accept (Link n) op) s).state
accept_raised thread n op x e s u there dead is =
    is ∙ dead_raised (held_at n s) thread s (λ h. quietly (keeps h (accepts_too (record { thread = thread; signature = x }) h.kept) s)) e dead
    ∙ with_one (slice_get s.code.signatures op) x thread s (accept_next thread n s) there

pub accept_done : (thread n op : ℕ) (x : List ℕ) (s u : State) → Some x ≡ slice_get s.code.signatures op → None ≡ dead_fault (held_at n s)
    → u ≡ changes n (accepts_too (record { thread = thread; signature = x })) s → u ≡ (acts thread (actions.Accept (Link n) op) s).state
accept_done thread n op x s u there live changed =
    changed ∙ lives (held_at n s) thread (accepts_too (record { thread = thread; signature = x })) (λ t. t) s live
    ∙ with_one (slice_get s.code.signatures op) x thread s (accept_next thread n s) there

-- ---- connect

abbrev connect_next : ℕ → ℕ → ℕ → List Value → State → List ℕ → Done
connect_next thread n op vs s x =
    on_held thread (held_at n s) s (λ h. on_live h.kept.dead thread s (tested thread h vs s (issues (asking thread op x vs s) h vs s)))

pub connect_dead : (thread n op : ℕ) (vs : List Value) (x : List ℕ) (e : Exception) (s u : State) → Some x ≡ slice_get s.code.signatures op → Some e ≡ dead_fault (held_at n s) → u ≡ raises thread e s
    → u ≡ (acts thread (actions.Connect (Link n) op vs) s).state
connect_dead thread n op vs x e s u there dead is =
    is ∙ dead_raised (held_at n s) thread s (λ h. tested thread h vs s (issues (asking thread op x vs s) h vs s)) e dead
    ∙ with_one (slice_get s.code.signatures op) x thread s (connect_next thread n op vs s) there

test_raised : (f : Option Exception) (thread : ℕ) (s : State) (d : Done) (e : Exception) → Some e ≡ f → raises thread e s ≡ (unless thread f s d).state
test_raised f thread s d e is = ap (λ (o : Option Exception). (unless thread o s d).state) is

fault_raised : (o : Option Held) (thread : ℕ) (vs : List Value) (s : State) (next : Held → Done) (e : Exception) → None ≡ dead_fault o → Some e ≡ fault_on o (links_in vs) s
    → raises thread e s ≡ (on_held thread o s (λ h. on_live h.kept.dead thread s (tested thread h vs s (next h)))).state
fault_raised None thread vs s next e live is = let no : None ≡ Some NoLink = live in absurd cc
fault_raised (Some h) thread vs s next e live is =
    test_raised (fault_among h [] (links_in vs) s) thread s (next h) e is ∙ live_by h.kept.dead thread s (tested thread h vs s (next h)) live

pub connect_raised : (thread n op : ℕ) (vs : List Value) (x : List ℕ) (e : Exception) (s u : State) → Some x ≡ slice_get s.code.signatures op → None ≡ dead_fault (held_at n s)
    → Some e ≡ fault_on (held_at n s) (links_in vs) s → u ≡ raises thread e s → u ≡ (acts thread (actions.Connect (Link n) op vs) s).state
connect_raised thread n op vs x e s u there live fault is =
    is ∙ fault_raised (held_at n s) thread vs s (λ h. issues (asking thread op x vs s) h vs s) e live fault
    ∙ with_one (slice_get s.code.signatures op) x thread s (connect_next thread n op vs s) there

test_passed : (f : Option Exception) (thread : ℕ) (s : State) (d : Done) → None ≡ f → d.state ≡ (unless thread f s d).state
test_passed f thread s d is = ap (λ (o : Option Exception). (unless thread o s d).state) is

issued : (o : Option Held) (thread n : ℕ) (c : Connect) (vs : List Value) (s : State) → held_at n s ≡ o → None ≡ dead_fault o → None ≡ fault_on o (links_in vs) s
    → changes n (connected s.version c) (lets_go (links_in vs) s) ≡ (on_held thread o s (λ h. on_live h.kept.dead thread s (tested thread h vs s (issues c h vs s)))).state
issued None thread n c vs s at live passed = let no : None ≡ Some NoLink = live in absurd cc
issued (Some h) thread n c vs s at live passed =
    ap (λ (x : Option Held). (on_end x (λ h t. keeps h (connected s.version c h.kept) t) (lets_go (links_in vs) s)).state) (still_held n h (links_in vs) s at (sym passed))
    ∙ test_passed (fault_among h [] (links_in vs) s) thread s (issues c h vs s) passed
    ∙ live_by h.kept.dead thread s (tested thread h vs s (issues c h vs s)) live

pub connect_done : (thread n op : ℕ) (vs : List Value) (x : List ℕ) (c : Connect) (s t u : State) → Some x ≡ slice_get s.code.signatures op → None ≡ dead_fault (held_at n s)
    → None ≡ fault_on (held_at n s) (links_in vs) s → c ≡ asking thread op x vs s → t ≡ lets_go (links_in vs) s → u ≡ changes n (connected t.version c) t
    → u ≡ (acts thread (actions.Connect (Link n) op vs) s).state
connect_done thread n op vs x c s t u there live passed made gone is =
    is ∙ ap (λ (z : State). changes n (connected z.version c) z) gone
    ∙ ap (λ (d : Connect). changes n (connected s.version d) (lets_go (links_in vs) s)) made
    ∙ issued (held_at n s) thread n (asking thread op x vs s) vs s refl live passed
    ∙ with_one (slice_get s.code.signatures op) x thread s (connect_next thread n op vs s) there
