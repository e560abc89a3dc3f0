-- What the parts of an event require follows from what is true of the table.
use Rattle.std.proofs.Common.{◌≡◌, ℕ, Bool, true, false, true≢false, not, ◌&&◌, ◌||◌, List, [], ◌∷◌, Option, Some, None, IsSome, refl, sym, ap, subst, ◌∙◌, if◌then◌else◌, rules}
use Rattle.std.specs.List.{list_any}
use Rattle.charlotte_calls.proofs.Causes.{AllFail, first_of-none}
use Rattle.charlotte_calls.specs.Causes.{first_of, is_busy, is_idle, send_causes}
use Rattle.charlotte_calls.specs.EndEq.{names_twice, same_link}
use Rattle.charlotte_calls.specs.declared.names.EndId.{EndId}
use Rattle.charlotte_calls.specs.declared.names.Pid.{Pid}
use Rattle.charlotte_packets.specs.declared.work.Work.{Work}
use Rattle.end_table.proofs.EndEq.{end_eq-same, end_eq-sym, put-other}
use Rattle.end_table.specs.Owned.{is_owner, owned}
use Rattle.end_table.specs.Place.{end_eq, put}
use Rattle.end_table.specs.Table.{IsHereAnd, IfHere, IsIdle, IsOfEnd}
use Rattle.end_table.specs.declared.entry.Entry.{Entry}
use Rattle.end_table.specs.declared.entry.Entry.TheVariants as entry
use Rattle.end_table.specs.declared.entry.HereView.{HereView}
use Rattle.end_table.specs.declared.entry.Holder.{Holder}
use Rattle.end_table.specs.declared.entry.Holder.TheVariants as holder
use Rattle.end_table.specs.declared.entry.Inward.{Inward}
use Rattle.end_table.specs.declared.entry.Inward.TheVariants as inward
use Rattle.end_table.specs.declared.entry.Outward.{Outward}
use Rattle.end_table.specs.declared.entry.Outward.TheVariants as outward
use Rattle.kernel_sound.proofs.Put.{put-each}
use Rattle.kernel_sound.specs.Sound.{AreHeldBy, IsSound}
use Rattle.kernel_step.proofs.EnclosedEnds.{first_false, second_false}
use Rattle.kernel_step.proofs.Steps.{IfHere-map}
use Rattle.kernel_step.specs.Actions.{enclosed_of, here, held, hold_each}
use Rattle.kernel_step.specs.Calls.{encloses, inward_activity, outward_activity, seen, seen_of, sees}
use Rattle.kernel_step.specs.Enclosed.{AreEnclosed, IsReady}
use Rattle.kernel_step.specs.Progress.{Progress, keeps, progress}

-- what follows from a fact of a view that is here follows of the entry
pub IsHereAnd-map : (x : Entry) (p q : HereView → Type 0) → ((v : HereView) → p v → q v) → IsHereAnd x p → IsHereAnd x q
IsHereAnd-map entry.Nothing p q f h = absurd h
IsHereAnd-map (entry.Here v) p q f h = f v h
IsHereAnd-map (entry.Left to hops) p q f h = absurd h
IsHereAnd-map (entry.Destroyed m) p q f h = absurd h

-- what is true where the entry is here is true of the view that is here
pub IfHere-at : (x : Entry) (v : HereView) (p : HereView → Type 0) → x ≡ entry.Here v → IfHere x p → p v
IfHere-at x v p is h = subst (λ y. IfHere y p) is h

-- ends that a send holds are enclosed
pub AreEnclosed-held : (e : EndId) (t : EndId → Entry) (xs : List EndId) → AreHeldBy e t xs → AreEnclosed t xs
AreEnclosed-held e t [] held = tt
AreEnclosed-held e t (x ∷ xs) held =
    (IsHereAnd-map (t x) (λ u. IsIdle u × (u.holder ≡ holder.EnclosedIn e)) IsIdle (λ v h. h.0) held.0, held.1, AreEnclosed-held e t xs held.2)

-- an end that is not idle is none of some that are enclosed
pub apart-busy : (e : EndId) (t : EndId → Entry) (xs : List EndId) → (IsHereAnd (t e) IsIdle → ⊥) → AreEnclosed t xs → list_any (end_eq e) xs ≡ false
apart-busy e t [] busy are = refl
apart-busy e t (x ∷ xs) busy are = by (end_eq e x) refl (apart-busy e t xs busy are.2)
  where
    by : (b : Bool) → end_eq e x ≡ b → list_any (end_eq e) xs ≡ false → (b || list_any (end_eq e) xs) ≡ false
    by true same others = absurd (busy (subst (λ z. IsHereAnd (t z) IsIdle) (sym (end_eq-same e x same)) are.0))
    by false apart others = others

-- an end whose message waits is none of those that the message encloses
pub apart-enclosed : (e : EndId) (t : EndId → Entry) (v : HereView) → t e ≡ entry.Here v → AreEnclosed t (enclosed_of v.outward) → list_any (end_eq e) (enclosed_of v.outward) ≡ false
apart-enclosed e t v is are = by v.outward refl are
  where
    busy : (n : ℕ) (bytes : List ℕ) (xs : List EndId) → v.outward ≡ outward.Waiting n bytes xs → IsHereAnd (t e) IsIdle → ⊥
    busy n bytes xs waits idle = let idle_at : IsIdle v = subst (λ z. IsHereAnd z IsIdle) is idle in let h = sym idle_at.outward ∙ waits in cc

    by : (o : Outward) → v.outward ≡ o → AreEnclosed t (enclosed_of o) → list_any (end_eq e) (enclosed_of o) ≡ false
    by outward.Idle same are = refl
    by (outward.Waiting n bytes xs) same are = apart-busy e t xs (busy n bytes xs same) are
    by (outward.Matched n) same are = refl
    by outward.Unreported same are = refl

module _ (k made n : ℕ) (t : EndId → Entry) (sound : IsSound k made n t) (e : EndId) where
  -- the ends that a waiting message encloses are idle
  pub enclosed-sound : IfHere (t e) (λ v. AreEnclosed t (enclosed_of v.outward))
  enclosed-sound =
      IfHere-map (λ v. AreHeldBy e t (enclosed_of v.outward)) (λ v. AreEnclosed t (enclosed_of v.outward)) (t e)
      (λ v is held. AreEnclosed-held e t (enclosed_of v.outward) held) (sound.enclosed e)

  -- and the end is none of them
  pub apart-sound : IfHere (t e) (λ v. list_any (end_eq e) (enclosed_of v.outward) ≡ false)
  apart-sound =
      IfHere-map (λ v. AreEnclosed t (enclosed_of v.outward)) (λ v. list_any (end_eq e) (enclosed_of v.outward) ≡ false) (t e)
      (λ v is are. apart-enclosed e t v is are) enclosed-sound

  -- the same of a view that is here
  module _ (v : HereView) (is : t e ≡ entry.Here v) where
    pub enclosed_at-sound : AreEnclosed t (enclosed_of v.outward)
    enclosed_at-sound = IfHere-at (t e) v (λ v. AreEnclosed t (enclosed_of v.outward)) is enclosed-sound

    pub apart_at-sound : list_any (end_eq e) (enclosed_of v.outward) ≡ false
    apart_at-sound = apart-enclosed e t v is enclosed_at-sound

-- each of these ends is here and idle, and owned by p; no two are the same
abbrev pub AreFree : Pid → (EndId → Entry) → List EndId → Type 0
AreFree p t [] = Unit {0}
AreFree p t (x ∷ xs) = IsHereAnd (t x) (λ u. IsIdle u × (u.holder ≡ holder.Owner p)) × (list_any (end_eq x) xs ≡ false) × AreFree p t xs

-- free ends may be enclosed
pub AreEnclosed-free : (p : Pid) (t : EndId → Entry) (xs : List EndId) → AreFree p t xs → AreEnclosed t xs
AreEnclosed-free p t [] free = tt
AreEnclosed-free p t (x ∷ xs) free =
    (IsHereAnd-map (t x) (λ u. IsIdle u × (u.holder ≡ holder.Owner p)) IsIdle (λ v h. h.0) free.0, free.1, AreEnclosed-free p t xs free.2)

-- the ends behind the first stay free where the entry of the first alone changes
pub AreFree-others : (p : Pid) (old new : EndId → Entry) (x : EndId) (xs : List EndId) → ((q : EndId) → end_eq x q ≡ false → new q ≡ old q) → AreFree p old (x ∷ xs) → AreFree p new xs
AreFree-others p old new x xs same free = go xs free.1 free.2
  where
    go : (ys : List EndId) → list_any (end_eq x) ys ≡ false → AreFree p old ys → AreFree p new ys
    go [] none are = tt
    go (y ∷ ys) none are =
        (subst (λ z. IsHereAnd z (λ u. IsIdle u × (u.holder ≡ holder.Owner p))) (sym (same y (first_false _ _ none))) are.0, are.1, go ys (second_false _ _ none) are.2)

-- an owner is who `is_owner` tells
pub owner-is_owner : (p : Pid) (h : Holder) → is_owner p h ≡ true → h ≡ holder.Owner p
owner-is_owner p (holder.Owner q) is = search rules
owner-is_owner p (holder.EnclosedIn on) is = cc

-- an end that is not busy is idle
pub IsIdle-is_busy : (v : HereView) → is_busy (seen_of v) ≡ false → IsIdle v
IsIdle-is_busy v h = let both = by v.outward v.inward h in record { outward = both.0; inward = both.1 }
  where
    by : (o : Outward) (i : Inward) → not (is_idle (outward_activity o) && is_idle (inward_activity i)) ≡ false → (o ≡ outward.Idle) × (i ≡ inward.Idle)
    by outward.Idle inward.Idle h = (refl, refl)
    by outward.Idle (inward.Posted w) h = cc
    by outward.Idle (inward.Withdrawing w) h = cc
    by outward.Idle inward.Unreported h = cc
    by (outward.Waiting n bytes xs) i h = cc
    by (outward.Matched n) i h = cc
    by outward.Unreported i h = cc

-- an end that p owns and that is not busy is free
free-owned : (p : Pid) (x : Entry) → not (seen (owned p x)).owned ≡ false → is_busy (seen (owned p x)) ≡ false → IsHereAnd x (λ u. IsIdle u × (u.holder ≡ holder.Owner p))
free-owned p entry.Nothing some calm = absurd (true≢false some)
free-owned p (entry.Here v) some calm = by (is_owner p v.holder) refl some calm
  where
    by : (b : Bool) → is_owner p v.holder ≡ b → not (seen (if b then Some v else None)).owned ≡ false → is_busy (seen (if b then Some v else None)) ≡ false → IsIdle v × (v.holder ≡ holder.Owner p)
    by true is some calm = (IsIdle-is_busy v calm, owner-is_owner p v.holder is)
    by false is some calm = absurd (true≢false some)
free-owned p (entry.Left to hops) some calm = absurd (true≢false some)
free-owned p (entry.Destroyed m) some calm = absurd (true≢false some)

-- ends that pass the tests of a Send are free
free-tests : (p : Pid) (t : EndId → Entry) (xs : List EndId) → list_any (λ x. not (sees p t x).owned) xs ≡ false → list_any (λ x. is_busy (sees p t x)) xs ≡ false → names_twice xs ≡ false → AreFree p t xs
free-tests p t [] some calm once = tt
free-tests p t (x ∷ xs) some calm once =
    (free-owned p (t x) (first_false _ _ some) (first_false _ _ calm), first_false _ _ once, free-tests p t xs (second_false _ _ some) (second_false _ _ calm) (second_false _ _ once))

-- an end is of its own link
same_link-refl : (e : EndId) → same_link e e ≡ true
same_link-refl e = search rules

-- an end of another link is another end
apart-same_link : (e : EndId) (xs : List EndId) → list_any (same_link e) xs ≡ false → list_any (end_eq e) xs ≡ false
apart-same_link e [] none = refl
apart-same_link e (x ∷ xs) none = by (end_eq e x) refl (apart-same_link e xs (second_false _ _ none))
  where
    by : (b : Bool) → end_eq e x ≡ b → list_any (end_eq e) xs ≡ false → (b || list_any (end_eq e) xs) ≡ false
    by true same others = absurd (true≢false (sym (same_link-refl e) ∙ ap (same_link e) (end_eq-same e x same) ∙ first_false _ _ none))
    by false apart others = others

-- a send that is not refused encloses free ends of other links
module _ (p : Pid) (t : EndId → Entry) (on : EndId) (xs : List EndId) (granted : first_of (send_causes (sees p t) on xs) ≡ None) where
  fail : AllFail (send_causes (sees p t) on xs)
  fail = first_of-none (send_causes (sees p t) on xs) granted

  -- the ends that it encloses are free
  pub send-free : AreFree p t xs
  send-free = free-tests p t xs fail.1.1.1.0 fail.1.1.1.1.0 fail.1.1.1.1.1.1.0

  -- and may be enclosed
  pub send-enclosed : AreEnclosed t xs
  send-enclosed = AreEnclosed-free p t xs send-free

  -- the end itself is none of them
  pub send-apart : list_any (end_eq on) xs ≡ false
  send-apart = apart-same_link on xs fail.1.1.1.1.1.0

-- ends stay enclosed where an entry that is here and idle is put
pub AreEnclosed-put : (t : EndId → Entry) (e : EndId) (x : Entry) (xs : List EndId) → IsHereAnd x IsIdle → AreEnclosed t xs → AreEnclosed (put t e x) xs
AreEnclosed-put t e x [] idle are = tt
AreEnclosed-put t e x (y ∷ ys) idle are = (put-each (λ q z. IsHereAnd z IsIdle) t e x idle y (λ apart. are.0), are.1, AreEnclosed-put t e x ys idle are.2)

-- ends stay idle where one that is idle is held otherwise
held-idle : (h : Holder) (z : Entry) (d : Progress) (ys : List EndId) → IsHereAnd z IsIdle → AreEnclosed d.table ys → AreEnclosed (held h (here z) d).table ys
unfolding keeps
held-idle h entry.Nothing d ys idle are = are
held-idle h (entry.Here v) d ys idle are =
    AreEnclosed-put d.table v.value.end (entry.Here (record v { holder = h })) ys (record { outward = idle.outward; inward = idle.inward }) are
held-idle h (entry.Left to hops) d ys idle are = are
held-idle h (entry.Destroyed m) d ys idle are = are

-- each entry stays of its end
pub held-own : (h : Holder) (z : Entry) (d : Progress) → ((q : EndId) → IsOfEnd q (d.table q)) → (q : EndId) → IsOfEnd q ((held h (here z) d).table q)
unfolding keeps
held-own h entry.Nothing d own q = own q
held-own h (entry.Here v) d own q = put-each IsOfEnd d.table v.value.end (entry.Here (record v { holder = h })) refl q (λ apart. own q)
held-own h (entry.Left to hops) d own q = own q
held-own h (entry.Destroyed m) d own q = own q

-- and no other entry changes
pub held-other : (h : Holder) (z : Entry) (d : Progress) (x q : EndId) → IsOfEnd x z → end_eq x q ≡ false → (held h (here z) d).table q ≡ d.table q
unfolding keeps
held-other h entry.Nothing d x q own apart = refl
held-other h (entry.Here v) d x q own apart =
    put-other d.table v.value.end (entry.Here (record v { holder = h })) q (ap (λ e. end_eq e q) own ∙ apart)
held-other h (entry.Left to hops) d x q own apart = refl
held-other h (entry.Destroyed m) d x q own apart = refl

-- enclosed ends that are held otherwise, one after the other, leave all of them enclosed
pub AreEnclosed-hold_each : (h : Holder) (xs ys : List EndId) (d : Progress) → AreEnclosed d.table xs → AreEnclosed d.table ys → AreEnclosed (hold_each h xs d).table ys
unfolding hold_each
AreEnclosed-hold_each h [] ys d xs_are ys_are = ys_are
AreEnclosed-hold_each h (x ∷ xs) ys d xs_are ys_are =
    AreEnclosed-hold_each h xs ys (held h (here (d.table x)) d) (held-idle h (d.table x) d xs xs_are.0 xs_are.2) (held-idle h (d.table x) d ys xs_are.0 ys_are)

-- and no other entry changed
pub hold_each-other : (h : Holder) (xs : List EndId) (d : Progress) (q : EndId) → ((e : EndId) → IsOfEnd e (d.table e)) → list_any (end_eq q) xs ≡ false → (hold_each h xs d).table q ≡ d.table q
unfolding hold_each
hold_each-other h [] d q own none = refl
hold_each-other h (x ∷ xs) d q own none =
    hold_each-other h xs (held h (here (d.table x)) d) q (held-own h (d.table x) d own) (second_false _ _ none)
    ∙ held-other h (d.table x) d x q (own x) (end_eq-sym x q ∙ first_false _ _ none)

-- so it is once a send encloses its ends
module _ (on : EndId) (xs : List EndId) (old new : EndId → Entry) (out : Work) (after : progress new out ≡ encloses on xs (progress old out)) where
  tables : new ≡ (hold_each (holder.EnclosedIn on) xs (progress old out)).table
  unfolding progress encloses
  tables = ap (λ d. d.table) after

  -- its ends are idle, as they were
  pub encloses-enclosed : AreEnclosed old xs → AreEnclosed new xs
  unfolding progress
  encloses-enclosed are = subst (λ t. AreEnclosed t xs) (sym tables) (AreEnclosed-hold_each (holder.EnclosedIn on) xs xs (progress old out) are are)

  -- and the end that it is on has not changed
  pub encloses-on : ((e : EndId) → IsOfEnd e (old e)) → list_any (end_eq on) xs ≡ false → new on ≡ old on
  unfolding progress
  encloses-on own apart = ap (λ t. t on) tables ∙ hold_each-other (holder.EnclosedIn on) xs (progress old out) on own apart

-- all that the parts require of a table that is sound
pub IsReady-sound : (k made n : ℕ) (t : EndId → Entry) → IsSound k made n t → (e : EndId) → IsReady t e
IsReady-sound k made n t sound e =
    record { enclosed = enclosed-sound k made n t sound e; apart = apart-sound k made n t sound e }

-- an end that p owns is here, and p holds it
pub owned-here : (p : Pid) (x : Entry) (v : HereView) → owned p x ≡ Some v → (x ≡ entry.Here v) × (v.holder ≡ holder.Owner p)
owned-here p entry.Nothing v is = cc
owned-here p (entry.Here u) v is = by (is_owner p u.holder) refl is
  where
    by : (b : Bool) → is_owner p u.holder ≡ b → (if b then Some u else None) ≡ Some v → (entry.Here u ≡ entry.Here v) × (v.holder ≡ holder.Owner p)
    by true owner is = let same : u ≡ v = cc in (ap entry.Here same, ap (λ w. w.holder) (sym same) ∙ owner-is_owner p u.holder owner)
    by false owner is = cc
owned-here p (entry.Left to hops) v is = cc
owned-here p (entry.Destroyed m) v is = cc

-- an end that p sees as its own is one that it owns
pub seen-owned : (o : Option HereView) → not (seen o).owned ≡ false → IsSome o
seen-owned None some = absurd (true≢false some)
seen-owned (Some v) some = refl
