-- What `put` leaves true of a table that is sound.
use Rattle.std.proofs.Common.{◌≡◌, ℕ, ◌<◌, ◌≤◌, Bool, true, false, ◌⊎◌, inl, inr, List, [], ◌∷◌, refl, sym, ap, subst, ◌∙◌, true≢false}
use Rattle.std.specs.List.{list_any}
use Rattle.charlotte_calls.specs.declared.names.EndId.{EndId}
use Rattle.charlotte_calls.specs.declared.names.Pid.{Pid}
use Rattle.end_table.proofs.EndEq.{end_eq-same, end_eq-refl, put-at, put-other}
use Rattle.end_table.specs.Place.{end_eq, put}
use Rattle.end_table.specs.Table.{IsHere, IsHereAnd, IfHere, IsIdle, IsOfEnd}
use Rattle.end_table.specs.declared.entry.Entry.{Entry}
use Rattle.end_table.specs.declared.entry.Entry.TheVariants as entry
use Rattle.end_table.specs.declared.entry.HereView.{HereView}
use Rattle.end_table.specs.declared.entry.Holder.{Holder}
use Rattle.end_table.specs.declared.entry.Holder.TheVariants as holder
use Rattle.kernel_step.specs.Actions.{enclosed_of}
use Rattle.kernel_step.proofs.EnclosedEnds.{first_false, second_false}
use Rattle.kernel_sound.specs.Sound.{AreHeldBy, IsHeldWell, IsSound}

-- the entry is Here and idle, and held by the send of q
abbrev pub IsHeldBy : EndId → Entry → Type 0
IsHeldBy q x = IsHereAnd x (λ u. IsIdle u × (u.holder ≡ holder.EnclosedIn q))

-- no message that waits at the entry encloses an end
abbrev pub HasNoMessage : Entry → Type 0
HasNoMessage x = IfHere x (λ v. enclosed_of v.outward ≡ [])

-- no activity is at the entry
abbrev pub IsQuiet : Entry → Type 0
IsQuiet x = IfHere x IsIdle

-- a holder is an end, or one of the first n processes
abbrev pub IsHolder : ℕ → Holder → Type 0
IsHolder n (holder.Owner p) = p.0 < n
IsHolder n (holder.EnclosedIn on) = Unit {0}

-- the entry at e becomes x, and no message that waits loses an end by that
abbrev pub IsFreeFor : (EndId → Entry) → EndId → Entry → Type 0
IsFreeFor t e x = (q : EndId) → HasNoMessage (t q) ⊎ (IsHeldBy q (t e) → IsHeldBy q x)

-- u is another view of the end that v is of: with the same holder and the same message, or none
pub record IsViewAfter (v u : HereView) : Type 0 where
  pub end : u.value.end ≡ v.value.end
  pub holder : u.holder ≡ v.holder
  pub idle : IsIdle v → IsIdle u
  pub message : (enclosed_of u.outward ≡ enclosed_of v.outward) ⊎ (enclosed_of u.outward ≡ [])

-- what is true of the entry that is put, and of the entry at q where that is another, is true of the entry at q after the put
pub put-each : (P : EndId → Entry → Type 0) (t : EndId → Entry) (e : EndId) (x : Entry) → P e x → (q : EndId) → (end_eq e q ≡ false → P q (t q)) → P q (put t e x q)
put-each P t e x at q other = by (end_eq e q) refl
  where
    by : (b : Bool) → end_eq e q ≡ b → P q (put t e x q)
    by true same = subst (λ z. P z (put t e x z)) (end_eq-same e q same) (subst (P e) (sym (put-at t e x)) at)
    by false apart = subst (P q) (sym (put-other t e x q apart)) (other apart)

-- ends that q holds are held by it after an entry changes that it holds as before
pub AreHeldBy-put : (t : EndId → Entry) (e : EndId) (x : Entry) (q : EndId) (xs : List EndId) → (IsHeldBy q (t e) → IsHeldBy q x) → AreHeldBy q t xs → AreHeldBy q (put t e x) xs
AreHeldBy-put t e x q [] stays are = tt
AreHeldBy-put t e x q (y ∷ ys) stays are = (by (end_eq e y) refl, are.1, AreHeldBy-put t e x q ys stays are.2)
  where
    by : (b : Bool) → end_eq e y ≡ b → IsHeldBy q (put t e x y)
    by true same =
        let e≡y : e ≡ y = end_eq-same e y same in
        subst (λ z. IsHeldBy q (put t e x z)) e≡y (subst (IsHeldBy q) (sym (put-at t e x)) (stays (subst (λ z. IsHeldBy q (t z)) (sym e≡y) are.0)))
    by false apart = subst (IsHeldBy q) (sym (put-other t e x y apart)) are.0

-- and where the entry that changes is of none of them
pub AreHeldBy-others : (t : EndId → Entry) (e : EndId) (x : Entry) (q : EndId) (xs : List EndId) → list_any (end_eq e) xs ≡ false → AreHeldBy q t xs → AreHeldBy q (put t e x) xs
AreHeldBy-others t e x q [] none are = tt
AreHeldBy-others t e x q (y ∷ ys) none are =
    (subst (IsHeldBy q) (sym (put-other t e x y (first_false _ _ none))) are.0, are.1, AreHeldBy-others t e x q ys (second_false _ _ none) are.2)

-- an idle end may have any holder
pub IsHeldWell-idle : (n : ℕ) (v : HereView) (h : Holder) → IsIdle v → IsHolder n h → IsHeldWell n v h
IsHeldWell-idle n v (holder.Owner p) idle is = is
IsHeldWell-idle n v (holder.EnclosedIn on) idle is = idle

-- what is true of the holder stays so while an idle end stays idle
pub IsHeldWell-after : (n : ℕ) (v u : HereView) (h : Holder) → (IsIdle v → IsIdle u) → IsHeldWell n v h → IsHeldWell n u h
IsHeldWell-after n v u (holder.Owner p) idle is = is
IsHeldWell-after n v u (holder.EnclosedIn on) idle is = idle is

-- the holder of an end is a process or an end
pub IsHolder-held : (n : ℕ) (v : HereView) (h : Holder) → IsHeldWell n v h → IsHolder n h
IsHolder-held n v (holder.Owner p) is = is
IsHolder-held n v (holder.EnclosedIn on) is = tt

-- without an activity no message waits
pub HasNoMessage-quiet : (x : Entry) → IsQuiet x → HasNoMessage x
HasNoMessage-quiet (entry.Here v) quiet = ap enclosed_of quiet.outward
HasNoMessage-quiet entry.Nothing quiet = tt
HasNoMessage-quiet (entry.Left to hops) quiet = tt
HasNoMessage-quiet (entry.Destroyed m) quiet = tt

-- where the entry is not Here, nothing is to be shown
pub IfHere-away : (x : Entry) (P : HereView → Type 0) → (IsHere x → ⊥) → IfHere x P
IfHere-away (entry.Here v) P away = absurd (away tt)
IfHere-away entry.Nothing P away = tt
IfHere-away (entry.Left to hops) P away = tt
IfHere-away (entry.Destroyed m) P away = tt

-- an entry of which something is true that is Here is Here
pub IsHere-held : (x : Entry) (P : HereView → Type 0) → IsHereAnd x P → IsHere x
IsHere-held (entry.Here v) P is = tt
IsHere-held entry.Nothing P is = is
IsHere-held (entry.Left to hops) P is = is
IsHere-held (entry.Destroyed m) P is = is

-- an entry may become one that each end holds as before
pub IsFreeFor-kept : (t : EndId → Entry) (e : EndId) (x : Entry) → ((q : EndId) → IsHeldBy q (t e) → IsHeldBy q x) → IsFreeFor t e x
IsFreeFor-kept t e x stays q = inr (stays q)

-- so may one that is not Here
pub IsFreeFor-away : (t : EndId → Entry) (e : EndId) (x : Entry) → (IsHere (t e) → ⊥) → IsFreeFor t e x
IsFreeFor-away t e x away q = inr (λ is. absurd (away (IsHere-held (t e) _ is)))

-- and one that a process owns
pub IsFreeFor-owned : (t : EndId → Entry) (e : EndId) (x : Entry) (v : HereView) (p : Pid) → t e ≡ entry.Here v → v.holder ≡ holder.Owner p → IsFreeFor t e x
IsFreeFor-owned t e x v p here own q = inr (λ is. absurd (differ q (subst (IsHeldBy q) here is).1))
  where
    differ : (q : EndId) → v.holder ≡ holder.EnclosedIn q → ⊥
    differ q same = cc

-- nor does it matter what becomes of an end whose holder has no message
pub IsFreeFor-released : (t : EndId → Entry) (e : EndId) (x : Entry) (s : EndId) → IsHeldBy s (t e) → HasNoMessage (t s) → IsFreeFor t e x
IsFreeFor-released t e x s held none q = by (end_eq s q) refl
  where
    differ : (y : Entry) → end_eq s q ≡ false → IsHeldBy s y → IsHeldBy q y → ⊥
    differ (entry.Here v) apart a b =
        let same : s ≡ q = cc (a.1, b.1) in
        true≢false (sym (subst (λ z. end_eq s z ≡ true) same (end_eq-refl s)) ∙ apart)
    differ entry.Nothing apart a b = a
    differ (entry.Left to hops) apart a b = a
    differ (entry.Destroyed m) apart a b = a

    by : (b : Bool) → end_eq s q ≡ b → HasNoMessage (t q) ⊎ (IsHeldBy q (t e) → IsHeldBy q x)
    by true same = inl (subst (λ z. HasNoMessage (t z)) (end_eq-same s q same) none)
    by false apart = inr (λ is. absurd (differ (t e) apart held is))

-- one entry changes in a table that is sound
pub put-sound : {k made n : ℕ} {t : EndId → Entry} (e : EndId) (x : Entry) → IsSound k made n t → IsFreeFor t e x → IsOfEnd e x
    → IfHere x (λ v. IsHeldWell n v v.holder) → IfHere x (λ v. AreHeldBy e (put t e x) (enclosed_of v.outward))
    → (e.link.maker ≡ k → made ≤ e.link.count → IsHere x → ⊥) → IsSound k made n (put t e x)
put-sound {k} {made} {n} {t} e x s free own held enclosed unmade =
    record {
      own = λ q. put-each IsOfEnd t e x own q (λ apart. s.own q);
      held = λ q. put-each (λ q y. IfHere y (λ v. IsHeldWell n v v.holder)) t e x held q (λ apart. s.held q);
      enclosed = λ q. put-each (λ q y. IfHere y (λ v. AreHeldBy q (put t e x) (enclosed_of v.outward))) t e x enclosed q (λ apart. stay q (t q) (s.enclosed q) (free q));
      unmade = λ q. put-each (λ q y. q.link.maker ≡ k → made ≤ q.link.count → IsHere y → ⊥) t e x unmade q (λ apart. s.unmade q);
    }
  where
    none : (q : EndId) (xs : List EndId) → xs ≡ [] → AreHeldBy q (put t e x) xs
    none q xs empty = subst (AreHeldBy q (put t e x)) (sym empty) tt

    stay : (q : EndId) (y : Entry) → IfHere y (λ v. AreHeldBy q t (enclosed_of v.outward)) → HasNoMessage y ⊎ (IsHeldBy q (t e) → IsHeldBy q x) → IfHere y (λ v. AreHeldBy q (put t e x) (enclosed_of v.outward))
    stay q (entry.Here v) are (inl empty) = none q (enclosed_of v.outward) empty
    stay q (entry.Here v) are (inr stays) = AreHeldBy-put t e x q (enclosed_of v.outward) stays are
    stay q entry.Nothing are either = tt
    stay q (entry.Left to hops) are either = tt
    stay q (entry.Destroyed m) are either = tt

-- an entry without an activity is put
pub put-sound-quiet : {k made n : ℕ} {t : EndId → Entry} (e : EndId) (x : Entry) → IsSound k made n t → IsFreeFor t e x → IsOfEnd e x
    → IsQuiet x → IfHere x (λ v. IsHolder n v.holder) → (e.link.maker ≡ k → made ≤ e.link.count → IsHere x → ⊥) → IsSound k made n (put t e x)
put-sound-quiet {k} {made} {n} {t} e x s free own quiet holds unmade =
    put-sound e x s free own (held x quiet holds) (none x (HasNoMessage-quiet x quiet)) unmade
  where
    held : (y : Entry) → IsQuiet y → IfHere y (λ v. IsHolder n v.holder) → IfHere y (λ v. IsHeldWell n v v.holder)
    held (entry.Here v) quiet holds = IsHeldWell-idle n v v.holder quiet holds
    held entry.Nothing quiet holds = tt
    held (entry.Left to hops) quiet holds = tt
    held (entry.Destroyed m) quiet holds = tt

    none : (y : Entry) → HasNoMessage y → IfHere y (λ v. AreHeldBy e (put t e x) (enclosed_of v.outward))
    none (entry.Here v) empty = subst (AreHeldBy e (put t e x)) (sym empty) tt
    none entry.Nothing empty = tt
    none (entry.Left to hops) empty = tt
    none (entry.Destroyed m) empty = tt

-- an entry that is not Here is put where none was
pub put-sound-away : {k made n : ℕ} {t : EndId → Entry} (e : EndId) (x : Entry) → IsSound k made n t → (IsHere (t e) → ⊥) → (IsHere x → ⊥) → IsOfEnd e x → IsSound k made n (put t e x)
put-sound-away {k} {made} {n} {t} e x s was away own =
    put-sound-quiet e x s (IsFreeFor-away t e x was) own (IfHere-away x _ away) (IfHere-away x _ away) (λ maker count here. away here)

-- an end that is here is of a link that was made
pub made-here : {k made n : ℕ} {t : EndId → Entry} (e : EndId) → IsSound k made n t → IsHere (t e) → (x : Entry) → e.link.maker ≡ k → made ≤ e.link.count → IsHere x → ⊥
made-here e s here x maker count there = s.unmade e maker count here

-- the view of an end changes
pub put-sound-view : {k made n : ℕ} {t : EndId → Entry} (e : EndId) (v u : HereView) → IsSound k made n t → t e ≡ entry.Here v → IsViewAfter v u → IsSound k made n (put t e (entry.Here u))
put-sound-view {k} {made} {n} {t} e v u s here after =
    put-sound e (entry.Here u) s (IsFreeFor-kept t e (entry.Here u) stays) (after.end ∙ subst (IsOfEnd e) here (s.own e))
    (subst (IsHeldWell n u) (sym after.holder) (IsHeldWell-after n v u v.holder after.idle (subst (λ y. IfHere y (λ w. IsHeldWell n w w.holder)) here (s.held e))))
    (enclosed after.message)
    (made-here e s (subst IsHere (sym here) tt) (entry.Here u))
  where
    stays : (q : EndId) → IsHeldBy q (t e) → IsHeldBy q (entry.Here u)
    stays q is = let was = subst (IsHeldBy q) here is in (after.idle was.0, after.holder ∙ was.1)

    enclosed : (enclosed_of u.outward ≡ enclosed_of v.outward) ⊎ (enclosed_of u.outward ≡ []) → AreHeldBy e (put t e (entry.Here u)) (enclosed_of u.outward)
    enclosed (inl same) =
        subst (AreHeldBy e (put t e (entry.Here u))) (sym same)
        (AreHeldBy-put t e (entry.Here u) e (enclosed_of v.outward) (stays e) (subst (λ y. IfHere y (λ w. AreHeldBy e t (enclosed_of w.outward))) here (s.enclosed e)))
    enclosed (inr empty) = subst (AreHeldBy e (put t e (entry.Here u))) (sym empty) tt
