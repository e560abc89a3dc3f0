-- What falls with an end, part by part.
use Rattle.std.proofs.Common.{◌≡◌, ℕ, List, [], ◌∷◌, ◌++◌, map, Option, Some, None, refl, sym, ap, subst, append_assoc, ◌∙◌}
use Rattle.std.specs.List.{flat_map}
use Rattle.charlotte_calls.specs.declared.names.EndId.{EndId}
use Rattle.typing_rules.specs.declared.exception.Exception.{Exception}
use Rattle.typing_rules.specs.declared.exception.Exception.TheVariants.{DeadLink}
use Rattle.end_protocol.specs.declared.falling.Fallen.{Fallen}
use Rattle.end_protocol.specs.Falling.{destroyed, held_again, outstanding_ends, outstanding_thread, own_ends, reply_ends, request_ends}
use Rattle.end_protocol.specs.Lists.{head, tail}
use Rattle.end_protocol.specs.declared.messages.Connect.{Connect}
use Rattle.end_protocol.specs.declared.messages.Message.{Message}
use Rattle.process_run.specs.States.{Place, State}
use Rattle.process_run.specs.Ends.{hold_all, holds_again, dooms}
use Rattle.process_run.specs.Deaths.{falls, raises, raises_in}
use Rattle.process_ends.proofs.Lists.{some_is}
use Rattle.process_sound.specs.Machine.{MayRaise}
use Rattle.lynx_rt.specs.Kept.{IsProcess}

hold_both : (xs ys : List EndId) (ps : List Place) → hold_all (xs ++ ys) ps ≡ hold_all ys (hold_all xs ps)
hold_both [] ys ps = refl
hold_both (x ∷ xs) ys ps = hold_both xs ys _

pub holds_both : (xs ys : List EndId) (s : State) → holds_again (xs ++ ys) s ≡ holds_again ys (holds_again xs s)
holds_both xs ys s = ap (λ ps. record s { places = ps }) (hold_both xs ys s.places)

pub raises_both : (ms ns : List ℕ) (x : Exception) (s : State) → raises_in (ms ++ ns) x s ≡ raises_in ns x (raises_in ms x s)
raises_both [] ns x s = refl
raises_both (m ∷ ms) ns x s = raises_both ms ns x (raises m x s)

-- what is raised has nothing to do with what is held
pub holds_raised : (ns : List ℕ) (x : Exception) (ys : List EndId) (s : State) → holds_again ys (raises_in ns x s) ≡ raises_in ns x (holds_again ys s)
holds_raised [] x ys s = refl
holds_raised (n ∷ ns) x ys s = holds_raised ns x ys (raises n x s)

dooms_both : (xs ys : List EndId) (s : State) → dooms ys (dooms xs s) ≡ dooms (xs ++ ys) s
dooms_both xs ys s = ap (λ zs. record s { doomed = zs }) (append_assoc s.doomed xs ys)

-- ---- what may be raised

pub may_first : (ms ns : List ℕ) (x : Exception) (s : State) → MayRaise (ms ++ ns) x s → MayRaise ms x s
may_first [] ns x s may = tt
may_first (m ∷ ms) ns x s may = (may.0, may_first ms ns x (raises m x s) may.1)

pub may_rest : (ms ns : List ℕ) (x : Exception) (s : State) → MayRaise (ms ++ ns) x s → MayRaise ns x (raises_in ms x s)
may_rest [] ns x s may = may
may_rest (m ∷ ms) ns x s may = may_rest ms ns x (raises m x s) may.1

pub may_so : (ns : List ℕ) (x : Exception) (s t : State) → t ≡ s → MayRaise ns x s → MayRaise ns x t
may_so ns x s t is may = subst (MayRaise ns x) (sym is) may

pub process_so : (s t : State) → t ≡ s → IsProcess s → IsProcess t
process_so s t is so = subst IsProcess (sym is) so

-- ---- all that falls

-- what is held again and what is destroyed
pub moved : (f : Fallen) (s s1 s2 s3 s4 : State)
    → s1 ≡ holds_again (flat_map own_ends f.queue) s → s2 ≡ holds_again (outstanding_ends f.outstanding) s1
    → s3 ≡ dooms (request_ends f.request) s2 → s4 ≡ dooms (reply_ends f.reply) s3
    → s4 ≡ dooms (destroyed f) (holds_again (flat_map own_ends f.queue ++ outstanding_ends f.outstanding) s)
moved f s s1 s2 s3 s4 queue outstanding request reply =
    reply ∙ ap (dooms (reply_ends f.reply)) request ∙ dooms_both (request_ends f.request) (reply_ends f.reply) s2
    ∙ ap (dooms (destroyed f))
    (outstanding ∙ ap (holds_again (outstanding_ends f.outstanding)) queue ∙ sym (holds_both (flat_map own_ends f.queue) (outstanding_ends f.outstanding) s))

pub all_falls : (f : Fallen) (s s4 s5 s6 s7 : State)
    → s4 ≡ dooms (destroyed f) (holds_again (flat_map own_ends f.queue ++ outstanding_ends f.outstanding) s)
    → s5 ≡ raises_in (outstanding_thread f.outstanding) DeadLink s4
    → s6 ≡ raises_in (map (λ c. c.thread) f.behind) DeadLink (holds_again (flat_map (λ c. c.ends) f.behind) s5)
    → s7 ≡ raises_in (map (λ a. a.thread) f.accepts) DeadLink s6
    → s7 ≡ falls f s
all_falls f s s4 s5 s6 s7 fell outstanding behind accepts =
    let qs = flat_map own_ends f.queue in
    let os = outstanding_ends f.outstanding in
    let bs = flat_map (λ c. c.ends) f.behind in
    let to = outstanding_thread f.outstanding in
    let tb = map (λ c. c.thread) f.behind in
    let ta = map (λ a. a.thread) f.accepts in
    let five : holds_again bs s5 ≡ raises_in to DeadLink (dooms (destroyed f) (holds_again (held_again f) s)) =
    ap (holds_again bs) outstanding ∙ holds_raised to DeadLink bs s4
    ∙ ap (λ t. raises_in to DeadLink (holds_again bs t)) fell
    ∙ ap (λ t. raises_in to DeadLink (dooms (destroyed f) t)) (sym (holds_both (qs ++ os) bs s)) in
    accepts ∙ ap (raises_in ta DeadLink) (behind ∙ ap (raises_in tb DeadLink) five)
    ∙ ap (raises_in ta DeadLink) (sym (raises_both to tb DeadLink (dooms (destroyed f) (holds_again (held_again f) s))))
    ∙ sym (raises_both (to ++ tb) ta DeadLink (dooms (destroyed f) (holds_again (held_again f) s)))

-- ---- connects that wait behind others

pub behind_failed : (cs ds : List Connect) (c : Connect) (s t u : State) → Some c ≡ head cs → ds ≡ tail cs → t ≡ holds_again c.ends s → u ≡ raises c.thread DeadLink t
    → raises_in (map (λ c. c.thread) ds) DeadLink (holds_again (flat_map (λ c. c.ends) ds) u)
    ≡ raises_in (map (λ c. c.thread) cs) DeadLink (holds_again (flat_map (λ c. c.ends) cs) s)
behind_failed [] ds c s t u at left held raised = let no : Some c ≡ None = at in absurd cc
behind_failed (x ∷ xs) ds c s t u at left held raised =
    let so : u ≡ raises x.thread DeadLink (holds_again x.ends s) =
    raised ∙ ap (raises c.thread DeadLink) held ∙ ap (λ (y : Connect). raises y.thread DeadLink (holds_again y.ends s)) (some_is c x at) in
    ap (λ (ys : List Connect). raises_in (map (λ c. c.thread) ys) DeadLink (holds_again (flat_map (λ c. c.ends) ys) u)) left
    ∙ ap (λ (v : State). raises_in (map (λ c. c.thread) xs) DeadLink (holds_again (flat_map (λ c. c.ends) xs) v)) so
    ∙ ap (λ (v : State). raises_in (map (λ c. c.thread) xs) DeadLink (raises x.thread DeadLink v)) (sym (holds_both x.ends (flat_map (λ c. c.ends) xs) s))

pub behind_may : (cs ds : List Connect) (c : Connect) (s t u : State) → Some c ≡ head cs → ds ≡ tail cs → t ≡ holds_again c.ends s → u ≡ raises c.thread DeadLink t
    → MayRaise (map (λ c. c.thread) cs) DeadLink s → MayRaise (map (λ c. c.thread) ds) DeadLink u
behind_may [] ds c s t u at left held raised may = let no : Some c ≡ None = at in absurd cc
behind_may (x ∷ xs) ds c s t u at left held raised may =
    let so : u ≡ raises x.thread DeadLink (holds_again x.ends s) =
    raised ∙ ap (raises c.thread DeadLink) held ∙ ap (λ (y : Connect). raises y.thread DeadLink (holds_again y.ends s)) (some_is c x at) in
    subst (λ (ys : List Connect). MayRaise (map (λ c. c.thread) ys) DeadLink u) (sym left)
    (may_so (map (λ c. c.thread) xs) DeadLink (raises x.thread DeadLink (holds_again x.ends s)) u so may.1)

-- ---- a queue

pub queue_held : (ms ns : List Message) (m : Message) (s t : State) → Some m ≡ head ms → ns ≡ tail ms → t ≡ holds_again (own_ends m) s
    → holds_again (flat_map own_ends ns) t ≡ holds_again (flat_map own_ends ms) s
queue_held [] ns m s t at left held = let no : Some m ≡ None = at in absurd cc
queue_held (x ∷ xs) ns m s t at left held =
    ap (λ (ys : List Message). holds_again (flat_map own_ends ys) t) left
    ∙ ap (holds_again (flat_map own_ends xs)) (held ∙ ap (λ (y : Message). holds_again (own_ends y) s) (some_is m x at))
    ∙ sym (holds_both (own_ends x) (flat_map own_ends xs) s)
