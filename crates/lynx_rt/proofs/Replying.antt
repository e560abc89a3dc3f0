-- What comes of replies and closes, by what is raised.
use Rattle.std.proofs.Common.{◌≡◌, ◌<◌, ℕ, true, false, Bool, List, [], ◌∷◌, length, Option, Some, None, slice_get, slice_set, if◌then◌else◌, refl, sym, ap, ◌∙◌}
use Rattle.std.specs.Prelude.{is_some}
use Rattle.std.proofs.lemmas.Option.{slice_get_within}
use Rattle.typing_rules.specs.declared.exception.Exception.{Exception}
use Rattle.typing_rules.specs.declared.exception.Exception.TheVariants.{DeadLink, Replied}
use Rattle.lynx_meaning.specs.Values.{Value}
use Rattle.end_protocol.specs.declared.kept.Response.{Response}
use Rattle.end_protocol.specs.Asking.{replied}
use Rattle.end_protocol.specs.Lists.{head, tail}
use Rattle.process_run.specs.States.{Held, Open, State, Done, quietly}
use Rattle.process_run.specs.Actions.{and_then, answers_on, closes, done_with, failed, fails, fault_among, listed, on_live, opened_in, replies, replies_on, tested, unless, with_opened}
use Rattle.process_run.specs.Deaths.{does, raises}
use Rattle.process_run.specs.Ends.{held_at, keeps, lets_go, links_in}
use Rattle.process_run.specs.Reports.{on_end}
use Rattle.process_ends.specs.Opened.{answered}
use Rattle.process_ends.proofs.Lists.{some_is}
use Rattle.lynx_rt.specs.Changes.{changes, dead_fault, fault_on, held_fault, live_fault, reply_fault}
use Rattle.lynx_rt.proofs.Holding.{still_held}

below_so : (os : List (List Open)) (n : ℕ) (l : Option (List Open)) (o : Open) → slice_get os n ≡ l → Some o ≡ head (listed l) → n < length os
below_so os n None o at is = let no : Some o ≡ None = is in absurd cc
below_so os n (Some l) o at is = slice_get_within os n l at

-- a thread in which a request is open has a list of them
pub opened_below : (os : List (List Open)) (n : ℕ) (o : Open) → Some o ≡ head (listed (slice_get os n)) → n < length os
opened_below os n o is = below_so os n (slice_get os n) o refl is

-- ---- exceptions

live_raised : (b : Bool) (f : Option Exception) (thread : ℕ) (s : State) (d : Done) (x : Exception) → Some x ≡ (if b then Some DeadLink else f)
    → raises thread x s ≡ (on_live b thread s (unless thread f s d)).state
live_raised true f thread s d x is = ap (λ (y : Exception). raises thread y s) (some_is x DeadLink is)
live_raised false f thread s d x is = ap (λ (o : Option Exception). (unless thread o s d).state) is

held_raised : (held : Option Held) (thread : ℕ) (vs : List Value) (o : Open) (os : List Open) (s : State) (x : Exception) → Some x ≡ held_fault held (links_in vs) s
    → raises thread x s ≡ (replies_on thread vs o os held s).state
held_raised None thread vs o os s x is = ap (λ (y : Exception). raises thread y s) (some_is x DeadLink is)
held_raised (Some h) thread vs o os s x is =
    live_raised h.kept.dead (fault_among h [] (links_in vs) s) thread s
    (and_then (answers_on h (done_with o vs s) (lets_go (links_in vs) s)) (λ t. does thread (with_opened thread (record o { answered = true } ∷ os) t))) x is

answer_raised : (b : Bool) (f : Option Exception) (thread : ℕ) (s : State) (d : Done) (x : Exception) → Some x ≡ (if b then Some Replied else f)
    → (Some x ≡ f → raises thread x s ≡ d.state) → raises thread x s ≡ (if b then quietly (raises thread Replied s) else d).state
answer_raised true f thread s d x is each = ap (λ (y : Exception). raises thread y s) (some_is x Replied is)
answer_raised false f thread s d x is each = each is

replies_raise : (os : List Open) (o : Open) (thread : ℕ) (vs : List Value) (s : State) (x : Exception) → Some o ≡ head os → Some x ≡ reply_fault o (links_in vs) s
    → raises thread x s ≡ (replies thread vs os s).state
replies_raise [] o thread vs s x at is = let no : Some o ≡ None = at in absurd cc
replies_raise (p ∷ ps) o thread vs s x at is =
    answer_raised p.answered (held_fault (held_at p.on s) (links_in vs) s) thread s (replies_on thread vs p ps (held_at p.on s) s) x
    (is ∙ ap (λ (q : Open). reply_fault q (links_in vs) s) (some_is o p at)) (λ fault. held_raised (held_at p.on s) thread vs p ps s x fault)

pub reply_raised : (o : Open) (thread : ℕ) (vs : List Value) (s u : State) (x : Exception) → Some o ≡ head (listed (slice_get s.opened thread))
    → Some x ≡ reply_fault o (links_in vs) s → u ≡ raises thread x s → u ≡ (replies thread vs (opened_in thread s) s).state
reply_raised o thread vs s u x at fault is = is ∙ replies_raise (listed (slice_get s.opened thread)) o thread vs s x at fault

none_replied : (os : List Open) (thread : ℕ) (vs : List Value) (s : State) → None ≡ head os → does thread s ≡ (replies thread vs os s).state
none_replied [] thread vs s at = refl
none_replied (p ∷ ps) thread vs s at = let no : None ≡ Some p = at in absurd cc

pub reply_none : (thread : ℕ) (vs : List Value) (s u : State) → None ≡ head (listed (slice_get s.opened thread)) → u ≡ does thread s
    → u ≡ (replies thread vs (opened_in thread s) s).state
reply_none thread vs s u at is = is ∙ none_replied (listed (slice_get s.opened thread)) thread vs s at

-- ---- a reply

live_done : (b : Bool) (f : Option Exception) (thread : ℕ) (s : State) (d : Done) → None ≡ (if b then Some DeadLink else f)
    → d.state ≡ (on_live b thread s (unless thread f s d)).state
live_done true f thread s d is = let no : None ≡ Some DeadLink = is in absurd cc
live_done false f thread s d is = ap (λ (o : Option Exception). (unless thread o s d).state) is

live_clear : (b : Bool) (f : Option Exception) → None ≡ (if b then Some DeadLink else f) → f ≡ None
live_clear true f is = let no : None ≡ Some DeadLink = is in absurd cc
live_clear false f is = sym is

held_done : (held : Option Held) (thread : ℕ) (vs : List Value) (o : Open) (os : List Open) (s : State) → held_at o.on s ≡ held → None ≡ held_fault held (links_in vs) s
    → does thread (with_opened thread (record o { answered = true } ∷ os) (changes o.on (replied s.version (done_with o vs s)) (lets_go (links_in vs) s)))
    ≡ (replies_on thread vs o os held s).state
held_done None thread vs o os s at is = let no : None ≡ Some DeadLink = is in absurd cc
held_done (Some h) thread vs o os s at is =
    ap (λ (x : Option Held). does thread (with_opened thread (record o { answered = true } ∷ os) (on_end x (λ h t. keeps h (replied s.version (done_with o vs s) h.kept) t) (lets_go (links_in vs) s)).state))
    (still_held o.on h (links_in vs) s at (live_clear h.kept.dead (fault_among h [] (links_in vs) s) is))
    ∙ live_done h.kept.dead (fault_among h [] (links_in vs) s) thread s
    (and_then (answers_on h (done_with o vs s) (lets_go (links_in vs) s)) (λ t. does thread (with_opened thread (record o { answered = true } ∷ os) t))) is

answer_done : (b : Bool) (f : Option Exception) (thread : ℕ) (s u : State) (d : Done) → None ≡ (if b then Some Replied else f)
    → (None ≡ f → u ≡ d.state) → u ≡ (if b then quietly (raises thread Replied s) else d).state
answer_done true f thread s u d is each = let no : None ≡ Some Replied = is in absurd cc
answer_done false f thread s u d is each = each is

replies_done : (os : List Open) (o : Open) (thread : ℕ) (vs : List Value) (s : State) → Some o ≡ head os → None ≡ reply_fault o (links_in vs) s
    → does thread (with_opened thread (answered os) (changes o.on (replied s.version (done_with o vs s)) (lets_go (links_in vs) s))) ≡ (replies thread vs os s).state
replies_done [] o thread vs s at is = let no : Some o ≡ None = at in absurd cc
replies_done (p ∷ ps) o thread vs s at is =
    ap (λ (q : Open). does thread (with_opened thread (record p { answered = true } ∷ ps) (changes q.on (replied s.version (done_with q vs s)) (lets_go (links_in vs) s)))) (some_is o p at)
    ∙ answer_done p.answered (held_fault (held_at p.on s) (links_in vs) s) thread s
    (does thread (with_opened thread (record p { answered = true } ∷ ps) (changes p.on (replied s.version (done_with p vs s)) (lets_go (links_in vs) s))))
    (replies_on thread vs p ps (held_at p.on s) s)
    (is ∙ ap (λ (q : Open). reply_fault q (links_in vs) s) (some_is o p at)) (λ clear. held_done (held_at p.on s) thread vs p ps s refl clear)

-- what is kept for an end has nothing to do with the requests that are open
changed_opened : (o : Option Held) (f : Held → State → State) (s : State) → ((h : Held) → (f h s).opened ≡ s.opened) → (on_end o f s).state.opened ≡ s.opened
changed_opened None f s each = refl
changed_opened (Some h) f s each = each h

pub reply_done : (o : Open) (thread : ℕ) (vs : List Value) (r : Response) (s t u v w : State) → Some o ≡ head (listed (slice_get s.opened thread))
    → None ≡ reply_fault o (links_in vs) s → t ≡ lets_go (links_in vs) s → r ≡ done_with o vs s → u ≡ changes o.on (replied t.version r) t
    → v ≡ record u { opened = slice_set u.opened thread (answered (listed (slice_get u.opened thread))) } → w ≡ does thread v
    → w ≡ (replies thread vs (opened_in thread s) s).state
reply_done o thread vs r s t u v w at clear gone made changed noted is =
    let f = lets_go (links_in vs) s in
    let now : u ≡ changes o.on (replied s.version (done_with o vs s)) f =
    changed ∙ ap (λ (z : State). changes o.on (replied z.version r) z) gone ∙ ap (λ (x : Response). changes o.on (replied s.version x) f) made in
    let same : u.opened ≡ s.opened =
    ap (λ (z : State). z.opened) now ∙ changed_opened (held_at o.on f) (λ h t. keeps h (replied s.version (done_with o vs s) h.kept) t) f (λ h. refl) in
    let here = listed (slice_get s.opened thread) in
    is ∙ ap (does thread)
    (noted ∙ ap (λ (os : List (List Open)). record u { opened = slice_set u.opened thread (answered (listed (slice_get os thread))) }) same
    ∙ ap (with_opened thread (answered here)) now)
    ∙ replies_done here o thread vs s at clear

-- ---- what a reply raises

fault_by : (b : Bool) (f : Option Exception) → b ≡ true → Some Replied ≡ (if b then Some Replied else f)
fault_by true f is = refl
fault_by false f is = let no : false ≡ true = is in absurd cc

pub fault_answered : (o : Open) (links : List ℕ) (s : State) → o.answered ≡ true → Some Replied ≡ reply_fault o links s
fault_answered o links s is = fault_by o.answered (held_fault (held_at o.on s) links s) is

not_answered : (b : Bool) (f : Option Exception) → b ≡ false → f ≡ (if b then Some Replied else f)
not_answered true f is = let no : true ≡ false = is in absurd cc
not_answered false f is = refl

dead_by : (b : Bool) (f : Option Exception) → is_some (if b then Some DeadLink else None) ≡ true → Some DeadLink ≡ (if b then Some DeadLink else f)
dead_by true f is = refl
dead_by false f is = let no : false ≡ true = is in absurd cc

dead_in : (o : Option Held) (links : List ℕ) (s : State) → is_some (dead_fault o) ≡ true → Some DeadLink ≡ held_fault o links s
dead_in None links s is = refl
dead_in (Some h) links s is = dead_by h.kept.dead (fault_among h [] links s) is

pub fault_dead : (o : Open) (links : List ℕ) (s : State) (x : Option Exception) → o.answered ≡ false → x ≡ dead_fault (held_at o.on s) → is_some x ≡ true
    → Some DeadLink ≡ reply_fault o links s
fault_dead o links s x unanswered dead is =
    dead_in (held_at o.on s) links s (sym (ap is_some dead) ∙ is) ∙ not_answered o.answered (held_fault (held_at o.on s) links s) unanswered

links_by : (b : Bool) (f : Option Exception) → is_some (if b then Some DeadLink else None) ≡ false → f ≡ (if b then Some DeadLink else f)
links_by true f is = let no : true ≡ false = is in absurd cc
links_by false f is = refl

links_of : (o : Option Held) (links : List ℕ) (s : State) → is_some (dead_fault o) ≡ false → fault_on o links s ≡ held_fault o links s
links_of None links s is = let no : true ≡ false = is in absurd cc
links_of (Some h) links s is = links_by h.kept.dead (fault_among h [] links s) is

pub fault_links : (o : Open) (links : List ℕ) (s : State) (x : Option Exception) → o.answered ≡ false → x ≡ dead_fault (held_at o.on s) → is_some x ≡ false
    → fault_on (held_at o.on s) links s ≡ reply_fault o links s
fault_links o links s x unanswered dead is =
    links_of (held_at o.on s) links s (sym (ap is_some dead) ∙ is) ∙ not_answered o.answered (held_fault (held_at o.on s) links s) unanswered

-- ---- a close

pub fail_answered : (o : Open) (held : Option Held) (s : State) → o.answered ≡ true → s ≡ (fails o held s).state
fail_answered o None s is = refl
fail_answered o (Some h) s is = ap (λ (b : Bool). (if b then quietly s else answers_on h (failed o) s).state) (sym is)

fail_so : (o : Open) (held : Option Held) (s : State) → o.answered ≡ false
    → (on_end held (λ h t. keeps h (replied s.version (failed o) h.kept) t) s).state ≡ (fails o held s).state
fail_so o None s is = refl
fail_so o (Some h) s is = ap (λ (b : Bool). (if b then quietly s else answers_on h (failed o) s).state) (sym is)

pub fail_open : (o : Open) (r : Response) (s u : State) → o.answered ≡ false → r ≡ failed o → u ≡ changes o.on (replied s.version r) s → u ≡ (fails o (held_at o.on s) s).state
fail_open o r s u is made changed = changed ∙ ap (λ (x : Response). changes o.on (replied s.version x) s) made ∙ fail_so o (held_at o.on s) s is

none_closed : (os : List Open) (thread : ℕ) (s : State) → None ≡ head os → does thread s ≡ (closes thread os s).state
none_closed [] thread s at = refl
none_closed (p ∷ ps) thread s at = let no : None ≡ Some p = at in absurd cc

pub close_none : (thread : ℕ) (s u : State) → None ≡ head (listed (slice_get s.opened thread)) → u ≡ does thread s → u ≡ (closes thread (opened_in thread s) s).state
close_none thread s u at is = is ∙ none_closed (listed (slice_get s.opened thread)) thread s at

closes_done : (os : List Open) (o : Open) (thread : ℕ) (s : State) → Some o ≡ head os
    → does thread (with_opened thread (tail os) (fails o (held_at o.on s) s).state) ≡ (closes thread os s).state
closes_done [] o thread s at = let no : Some o ≡ None = at in absurd cc
closes_done (p ∷ ps) o thread s at = ap (λ (q : Open). does thread (with_opened thread ps (fails q (held_at q.on s) s).state)) (some_is o p at)

opened_by : (b : Bool) (c d : Done) (os : List (List Open)) → c.state.opened ≡ os → d.state.opened ≡ os → (if b then c else d).state.opened ≡ os
opened_by true c d os first second = first
opened_by false c d os first second = second

fails_opened : (o : Open) (held : Option Held) (s : State) → (fails o held s).state.opened ≡ s.opened
fails_opened o None s = refl
fails_opened o (Some h) s = opened_by o.answered (quietly s) (answers_on h (failed o) s) s.opened refl refl

pub close_done : (o : Open) (thread : ℕ) (s t u v : State) → Some o ≡ head (listed (slice_get s.opened thread)) → t ≡ (fails o (held_at o.on s) s).state
    → u ≡ record t { opened = slice_set t.opened thread (tail (listed (slice_get t.opened thread))) } → v ≡ does thread u
    → v ≡ (closes thread (opened_in thread s) s).state
close_done o thread s t u v at failed_so popped is =
    let here = listed (slice_get s.opened thread) in
    let same : t.opened ≡ s.opened = ap (λ (z : State). z.opened) failed_so ∙ fails_opened o (held_at o.on s) s in
    is ∙ ap (does thread)
    (popped ∙ ap (λ (os : List (List Open)). record t { opened = slice_set t.opened thread (tail (listed (slice_get os thread))) }) same
    ∙ ap (with_opened thread (tail here)) failed_so)
    ∙ closes_done here o thread s at
