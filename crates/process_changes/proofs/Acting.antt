-- An action of a thread changes the ends of its process one after the other.
use Rattle.std.proofs.Common.{arith, ◌≡◌, ℕ, ◌≤◌, Bool, true, false, List, [], ◌∷◌, ◌++◌, length, Option, Some, None, slice_get, if◌then◌else◌, refl, sym, subst, ◌∙◌, append-nil}
use Rattle.charlotte_calls.specs.declared.names.EndId.{EndId}
use Rattle.typing_rules.specs.declared.exception.Exception.{Exception}
use Rattle.typing_rules.specs.declared.exception.Exception.TheVariants as exceptions
use Rattle.lynx_packets.specs.Spelling.{links_of}
use Rattle.lynx_meaning.specs.Courses.{Action}
use Rattle.lynx_meaning.specs.Courses as actions
use Rattle.lynx_meaning.specs.Needs.{OpTypes}
use Rattle.lynx_meaning.specs.Values.{HaveTypes, Value}
use Rattle.machine_never_stuck.specs.Sound.{AreResults, IsAction}
use Rattle.end_protocol.specs.declared.messages.Connect.{Connect}
use Rattle.end_protocol.specs.Falling.{fallen}
use Rattle.end_protocol.specs.Going.{returns}
use Rattle.end_protocol.specs.Happenings.{Accepts, Binds, Connects, Happening, Replies, Unbinds, after, deeds_of}
use Rattle.process_run.specs.States.{Done, Gone, Held, Keeps, Module, Open, State, deeds_on, quietly}
use Rattle.process_run.specs.Actions.{acts, and_then, answers_on, asking, closes, done_with, failed, fails, fault_among, issues, on_held, on_live, opened_in, replies, replies_on, served, tested, unless, with_opened, with_signature}
use Rattle.process_run.specs.Deaths.{destroys, does, raises}
use Rattle.process_run.specs.Ends.{ends_at, held_at, let_go, lets_go, link_of, links_in, values_of, with_holding}
use Rattle.process_sound.specs.Modules.{IsModule}
use Rattle.process_sound.proofs.Ops.{op_typed}
use Rattle.process_sound.proofs.Values.{all_go, links_counted}
use Rattle.process_changes.specs.Changes.{Changes, Destroys, Does, IsHeld, MayDo, RestWhole, Sorts, Then, taken_along}
use Rattle.process_changes.specs.Ledgers.{Ledger, ledger}
use Rattle.process_changes.proofs.Places.{Going, chain, falls_changes, falls_version, goes_away, held_here, just, same_ledger}

-- what is done changes the ends so, with none in the hand before and after, and the version not at all
pub record ChangesBy (s : State) (d : Done) : Type 0 where
  pub changes : Changes s.version (ledger s []) d.deeds (ledger d.state [])
  pub version : d.state.version ≡ s.version

-- nothing changes
quiet : (s t : State) → ledger t [] ≡ ledger s [] → t.version ≡ s.version → ChangesBy s (quietly t)
quiet s t same version = record { changes = same_ledger s.version (ledger s []) (ledger t []) same; version = version }

-- ---- how many links are among the values

few_asked : (m : Module) → IsModule m → (op : ℕ) (o : OpTypes) (vs : List Value) → slice_get m.types.ops op ≡ Some o → HaveTypes o.arguments vs → length (links_in vs) ≤ 8
few_asked m is op o vs at have =
    let found = op_typed m is op o at in
    let all = all_go found.0.arguments vs (subst (λ (x : OpTypes). HaveTypes x.arguments vs) (sym found.2) have) in
    let few = found.1.facts.few_arguments in
    let same = all.links in
    let links = links_counted vs in
    omega arith

few_replied : (m : Module) → IsModule m → (requests : List ℕ) (vs : List Value) → AreResults m.types requests vs → length (links_in vs) ≤ 8
few_replied m is [] vs results = absurd results
few_replied m is (op ∷ requests) vs results =
    let found = op_typed m is op results.0 results.1 in
    let all = all_go found.0.results vs (subst (λ (x : OpTypes). HaveTypes x.results vs) (sym found.2) results.2) in
    let few = found.1.facts.few_results in
    let same = all.links in
    let links = links_counted vs in
    omega arith

module _ (thread : ℕ) (s : State) (whole : RestWhole s.places) where
  -- ---- tests

  held_by : (n : ℕ) (next : Held → Done) → ((h : Held) → IsHeld h.number h.end h.kept s.places → ChangesBy s (next h)) → ChangesBy s (on_held thread (held_at n s) s next)
  held_by n next each = by_held (held_at n s) refl
    where
      by_held : (o : Option Held) → held_at n s ≡ o → ChangesBy s (on_held thread o s next)
      by_held None e = quiet s (raises thread exceptions.NoLink s) refl refl
      by_held (Some h) e = each h (held_here n h s e).there

  live_by : (h : Held) (d : Done) → (h.kept.dead ≡ false → ChangesBy s d) → ChangesBy s (on_live h.kept.dead thread s d)
  live_by h d so = by_dead h.kept.dead refl
    where
      by_dead : (b : Bool) → h.kept.dead ≡ b → ChangesBy s (on_live b thread s d)
      by_dead true e = quiet s (raises thread exceptions.DeadLink s) refl refl
      by_dead false e = so e

  tested_by : (h : Held) (vs : List Value) (d : Done) → (fault_among h [] (links_in vs) s ≡ None → ChangesBy s d) → ChangesBy s (tested thread h vs s d)
  tested_by h vs d so = by_fault (fault_among h [] (links_in vs) s) refl
    where
      by_fault : (o : Option Exception) → fault_among h [] (links_in vs) s ≡ o → ChangesBy s (unless thread o s d)
      by_fault None e = so e
      by_fault (Some x) e = quiet s (raises thread x s) refl refl

  signed_by : (o : Option (List ℕ)) (next : List ℕ → Done) → ((signature : List ℕ) → ChangesBy s (next signature)) → ChangesBy s (with_signature thread o s next)
  signed_by None next each = quiet s (does thread s) refl refl
  signed_by (Some signature) next each = each signature

  -- ---- one end

  -- this is done at an end that is held, with no ends
  one_does : (h : Held) (w : Happening) (t : State) → IsHeld h.number h.end h.kept s.places → MayDo w h.kept → taken_along w ≡ [] →
      ledger t [] ≡ record { places = with_holding h.number (Keeps (after s.version w h.kept)) s.places; doomed = s.doomed; hand = [] } → t.version ≡ s.version →
      ChangesBy s (record { state = t; deeds = deeds_on h.end (deeds_of s.version w h.kept) })
  one_does h w t there may none same version = record {
    changes = subst (λ (l : Ledger). Changes s.version (ledger s []) (deeds_on h.end (deeds_of s.version w h.kept)) l) (sym same)
        (just s.version (ledger s []) _ _ (Does h.number h.end h.kept w (ledger s []) [] there may (sym (append-nil (taken_along w) ∙ none))));
    version = version;
  }

  one_destroyed : (h : Held) → IsHeld h.number h.end h.kept s.places → ChangesBy s (quietly (does thread (destroys h s)))
  unfolding destroys
  one_destroyed h there =
      let gone : State = record s { places = with_holding h.number (Gone (returns h.kept.sending)) s.places; doomed = s.doomed ++ h.end ∷ [] } in
      record {
        changes = Then (ledger s []) [] _ [] _ (Destroys h.number h.end h.kept (ledger s []) there) (falls_changes s.version (fallen h.kept) gone []);
        version = falls_version (fallen h.kept) gone;
      }

  -- ---- messages

  -- the ends of these values go
  going : (h : Held) (vs : List Value) → IsHeld h.number h.end h.kept s.places → fault_among h [] (links_in vs) s ≡ None → Going h s s.version (links_in vs) [] (ledger s [])
  going h vs there none = goes_away h s whole s.version (links_in vs) [] (ledger s []) there none (λ m e. refl) refl

  -- after they went, this is done with them at the end on which the message goes
  sends_with : (h : Held) (vs : List Value) (w : Happening) (t : State) → IsHeld h.number h.end h.kept s.places → fault_among h [] (links_in vs) s ≡ None → MayDo w h.kept → taken_along w ≡ ends_at (links_in vs) s →
      ledger t [] ≡ record { places = with_holding h.number (Keeps (after s.version w h.kept)) (let_go (links_in vs) s.places); doomed = s.doomed; hand = [] } → t.version ≡ s.version →
      ChangesBy s (record { state = t; deeds = deeds_on h.end (deeds_of s.version w h.kept) })
  sends_with h vs w t there none may along same version =
      let xs : List EndId = ends_at (links_in vs) s in
      let went = going h vs there none in
      let gone : List EndId → Ledger = λ hand. record { places = let_go (links_in vs) s.places; doomed = s.doomed; hand = hand } in
      let sorts : Changes s.version (gone went.hand) [] (gone xs) = just s.version _ [] _ (Sorts xs (gone went.hand) (λ x. let often = went.often x in omega arith)) in
      let sends = just s.version (gone xs) _ _ (Does h.number h.end h.kept w (gone xs) [] (went.same ∙ there) may (sym (append-nil (taken_along w) ∙ along))) in
      record {
        changes = subst (λ (l : Ledger). Changes s.version (ledger s []) (deeds_on h.end (deeds_of s.version w h.kept)) l) (sym same)
            (chain s.version (ledger s []) [] (gone went.hand) _ _ went.changes (chain s.version (gone went.hand) [] (gone xs) _ _ sorts sends));
        version = version;
      }

  -- as many ends as links, and eight at most
  ends_many : (h : Held) (vs : List Value) → IsHeld h.number h.end h.kept s.places → fault_among h [] (links_in vs) s ≡ None → length (links_in vs) ≤ 8 →
      (length (ends_at (links_in vs) s) ≡ links_of (values_of vs)) × (length (ends_at (links_in vs) s) ≤ 8)
  ends_many h vs there none few = let many = (going h vs there none).many in (many ∙ links_counted vs, omega arith)

  issues_by : (h : Held) (op : ℕ) (signature : List ℕ) (vs : List Value) → IsHeld h.number h.end h.kept s.places → h.kept.dead ≡ false → fault_among h [] (links_in vs) s ≡ None → length (links_in vs) ≤ 8 → ChangesBy s (issues (asking thread op signature vs s) h vs s)
  issues_by h op signature vs there lives none few =
      let c : Connect = asking thread op signature vs s in
      let many = ends_many h vs there none few in
      sends_with h vs (Connects c) (issues c h vs s).state there none (lives, many.0, many.1) refl refl refl

  replies_by : (h : Held) (vs : List Value) (o : Open) (os : List Open) → IsHeld h.number h.end h.kept s.places → fault_among h [] (links_in vs) s ≡ None → length (links_in vs) ≤ 8 →
      ChangesBy s (and_then (answers_on h (done_with o vs s) (lets_go (links_in vs) s)) (λ t. does thread (with_opened thread os t)))
  replies_by h vs o os there none few =
      sends_with h vs (Replies (done_with o vs s)) (does thread (with_opened thread os (answers_on h (done_with o vs s) (lets_go (links_in vs) s)).state)) there none (ends_many h vs there none few) refl refl refl

  -- ---- replies and closes

  reply_on : (vs : List Value) → length (links_in vs) ≤ 8 → (o : Open) (os : List Open) (n : ℕ) → ChangesBy s (replies_on thread vs o os (held_at n s) s)
  reply_on vs few o os n = by_held (held_at n s) refl
    where
      by_held : (l : Option Held) → held_at n s ≡ l → ChangesBy s (replies_on thread vs o os l s)
      by_held None e = quiet s (raises thread exceptions.DeadLink s) refl refl
      by_held (Some h) e = live_by h _ (λ lives. tested_by h vs _ (λ none. replies_by h vs o (record o { answered = true } ∷ os) (held_here n h s e).there none few))

  reply : (vs : List Value) → length (links_in vs) ≤ 8 → (os : List Open) → ChangesBy s (replies thread vs os s)
  reply vs few [] = quiet s (does thread s) refl refl
  reply vs few (o ∷ os) = by_answered o.answered
    where
      by_answered : (b : Bool) → ChangesBy s (if b then quietly (raises thread exceptions.Replied s) else replies_on thread vs o os (held_at o.on s) s)
      by_answered true = quiet s (raises thread exceptions.Replied s) refl refl
      by_answered false = reply_on vs few o os o.on

  close : (os : List Open) → ChangesBy s (closes thread os s)
  close [] = quiet s (does thread s) refl refl
  close (o ∷ os) = by_held (held_at o.on s) refl
    where
      by_answered : (h : Held) (b : Bool) → IsHeld h.number h.end h.kept s.places → ChangesBy s (and_then (if b then quietly s else answers_on h (failed o) s) (λ t. does thread (with_opened thread os t)))
      by_answered h true there = quiet s (does thread (with_opened thread os s)) refl refl
      by_answered h false there = one_does h (Replies (failed o)) (does thread (with_opened thread os (answers_on h (failed o) s).state)) there (refl, omega arith) refl refl refl

      by_held : (l : Option Held) → held_at o.on s ≡ l → ChangesBy s (and_then (fails o l s) (λ t. does thread (with_opened thread os t)))
      by_held None e = quiet s (does thread (with_opened thread os s)) refl refl
      by_held (Some h) e = by_answered h o.answered (held_here o.on h s e).there

  -- ---- all actions

  pub action_changes : IsModule s.code → (requests : List ℕ) (a : Action) → IsAction s.code.types requests a → ChangesBy s (acts thread a s)
  action_changes m requests (actions.Destroy link) is = held_by (link_of link) _ (λ h there. one_destroyed h there)
  action_changes m requests (actions.Bind link entry) is =
      signed_by (served s.code entry) _
      (λ signature. held_by (link_of link) _
      (λ h there. live_by h _
      (λ lives. one_does h (Binds (record { entry = entry; signature = signature })) _ there tt refl refl refl)))
  action_changes m requests (actions.Unbind link entry) is =
      signed_by (served s.code entry) _ (λ signature. held_by (link_of link) _ (λ h there. one_does h (Unbinds entry) _ there tt refl refl refl))
  action_changes m requests (actions.Connect link op vs) is =
      signed_by (slice_get s.code.signatures op) _
      (λ signature. held_by (link_of link) _
      (λ h there. live_by h _ (λ lives. tested_by h vs _ (λ none. issues_by h op signature vs there lives none (few_asked s.code m op is.0 vs is.1 is.2)))))
  action_changes m requests (actions.Accept link op) is =
      signed_by (slice_get s.code.signatures op) _
      (λ signature. held_by (link_of link) _
      (λ h there. live_by h _
      (λ lives. one_does h (Accepts (record { thread = thread; signature = signature })) _ there tt refl refl refl)))
  action_changes m requests (actions.Reply vs) is = reply vs (few_replied s.code m requests vs is) (opened_in thread s)
  action_changes m requests actions.Close is = close (opened_in thread s)
  action_changes m requests actions.Stop is = quiet s (record s { over = true }) refl refl
  action_changes m requests actions.New is = quiet s (does thread s) refl refl
  action_changes m requests actions.Await is = quiet s (does thread s) refl refl
  action_changes m requests (actions.Write bytes) is = quiet s (does thread s) refl refl
