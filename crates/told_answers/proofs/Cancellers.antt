-- Whose Cancel of a receive waits at an entry, and which changes of a table leave that as it was.
use Rattle.std.proofs.Common.{◌≡◌, ℕ, Bool, true, false, ◌&&◌, ◌||◌, List, [], ◌∷◌, Option, Some, None, refl, sym, ap, subst, ◌∙◌, if◌then◌else◌}
use Rattle.std.specs.List.{list_any}
use Rattle.charlotte_calls.specs.Names.{opposite, other_side}
use Rattle.charlotte_calls.specs.declared.names.EndId.{EndId}
use Rattle.charlotte_calls.specs.declared.names.Pid.{Pid}
use Rattle.charlotte_calls.specs.declared.names.Side.{Side}
use Rattle.charlotte_calls.specs.declared.names.Side.TheVariants.{A, B}
use Rattle.charlotte_calls.specs.declared.names.Way.{Way}
use Rattle.charlotte_calls.specs.declared.names.Way.TheVariants as way
use Rattle.charlotte_packets.specs.declared.picture.MovingPicture.{MovingPicture}
use Rattle.charlotte_calls.specs.declared.calls.Report.{Report}
use Rattle.end_table.proofs.EndEq.{end_eq-refl, end_eq-same, end_eq-sym}
use Rattle.end_table.specs.Entries.{ended_entry, left_entry}
use Rattle.end_table.specs.Place.{end_eq}
use Rattle.end_table.specs.Table.{IsHere, IsHereAnd, IsIdle}
use Rattle.end_table.specs.declared.entry.Entry.{Entry}
use Rattle.end_table.specs.declared.entry.Entry.TheVariants as entry
use Rattle.end_table.specs.declared.entry.HereView.{HereView}
use Rattle.end_table.specs.declared.entry.Holder.{Holder}
use Rattle.end_table.specs.declared.entry.Holder.TheVariants as holder
use Rattle.end_table.specs.declared.entry.Inward.{Inward}
use Rattle.end_table.specs.declared.entry.Inward.TheVariants as inward
use Rattle.kernel_effects.specs.Actions.{ended_of, held_entry, left_of}
use Rattle.kernel_effects.specs.Effect.{brings, puts, stays, turns}
use Rattle.kernel_outcomes.specs.Closing.{told_entry}
use Rattle.kernel_sound.proofs.Values.{AreGone}
use Rattle.kernel_step.specs.Actions.{is_withdrawing}
use Rattle.kernel_step.specs.Enclosed.{AreEnclosed}
use Rattle.kernel_step.specs.Kernel.{inward_reported, reported_entry}

-- the owner of an end whose receive is being withdrawn
abbrev pub canceller_in : Holder → Inward → Option Pid
canceller_in (holder.Owner p) i = if is_withdrawing i then Some p else None
canceller_in (holder.EnclosedIn on) i = None

abbrev pub canceller : Entry → Option Pid
canceller entry.Nothing = None
canceller (entry.Here v) = canceller_in v.holder v.inward
canceller (entry.Left to hops) = None
canceller (entry.Destroyed m) = None

-- ---- entries at which nobody's Cancel waits

pub canceller-calm : (h : Holder) (i : Inward) → is_withdrawing i ≡ false → canceller_in h i ≡ None
canceller-calm (holder.Owner p) i calm = ap (λ b. if b then Some p else None) calm
canceller-calm (holder.EnclosedIn on) i calm = refl

pub canceller-idle : (v : HereView) → IsIdle v → canceller (entry.Here v) ≡ None
canceller-idle v idle = canceller-calm v.holder v.inward (ap is_withdrawing idle.inward)

pub canceller-away : (x : Entry) → (IsHere x → ⊥) → canceller x ≡ None
canceller-away entry.Nothing away = refl
canceller-away (entry.Here v) away = absurd (away tt)
canceller-away (entry.Left to hops) away = refl
canceller-away (entry.Destroyed m) away = refl

pub canceller-here_idle : (x : Entry) → IsHereAnd x IsIdle → canceller x ≡ None
canceller-here_idle entry.Nothing idle = refl
canceller-here_idle (entry.Here v) idle = canceller-idle v idle
canceller-here_idle (entry.Left to hops) idle = refl
canceller-here_idle (entry.Destroyed m) idle = refl

pub canceller-left : (to : ℕ) (m : MovingPicture) → canceller (left_entry to m) ≡ None
canceller-left to m = by m.dead
  where
    by : (b : Bool) → canceller (if b then entry.Nothing else left_entry to (record m { dead = false })) ≡ None
    by true = refl
    by false = refl

pub canceller-ended : (m : MovingPicture) → canceller (ended_entry m) ≡ None
canceller-ended m = by m.dead
  where
    by : (b : Bool) → canceller (if b then entry.Nothing else entry.Destroyed m) ≡ None
    by true = refl
    by false = refl

-- ---- words on an entry

pub left_of-none : (to : ℕ) (x : Entry) → IsHereAnd x IsIdle → canceller (left_of to x) ≡ None
left_of-none to entry.Nothing idle = refl
left_of-none to (entry.Here v) idle = canceller-left to v.value
left_of-none to (entry.Left there hops) idle = refl
left_of-none to (entry.Destroyed m) idle = refl

pub ended_of-none : (x : Entry) → canceller (ended_of x) ≡ None
ended_of-none entry.Nothing = refl
ended_of-none (entry.Here v) = canceller-ended v.value
ended_of-none (entry.Left there hops) = refl
ended_of-none (entry.Destroyed m) = refl

pub held_entry-none : (h : Holder) (x : Entry) → IsHereAnd x IsIdle → canceller (held_entry h x) ≡ None
held_entry-none h entry.Nothing idle = refl
held_entry-none h (entry.Here v) idle = canceller-calm h v.inward (ap is_withdrawing idle.inward)
held_entry-none h (entry.Left there hops) idle = refl
held_entry-none h (entry.Destroyed m) idle = refl

-- a report that is told ends no Cancel
canceller-reported : (w : Way) (x : Entry) → canceller (reported_entry w x) ≡ canceller x
canceller-reported w entry.Nothing = refl
canceller-reported way.Outward (entry.Here v) = refl
canceller-reported way.Inward (entry.Here v) = by v.holder v.inward
  where
    by : (h : Holder) (i : Inward) → canceller_in h (inward_reported i) ≡ canceller_in h i
    by (holder.Owner p) inward.Idle = refl
    by (holder.Owner p) (inward.Posted r) = refl
    by (holder.Owner p) (inward.Withdrawing r) = refl
    by (holder.Owner p) inward.Unreported = refl
    by (holder.EnclosedIn on) i = refl
canceller-reported w (entry.Left to hops) = refl
canceller-reported w (entry.Destroyed m) = refl

pub canceller-told : (rs : List Report) (q : EndId) (x : Entry) → canceller (told_entry rs q x) ≡ canceller x
canceller-told [] q x = refl
canceller-told (r ∷ rs) q x = by (end_eq r.on q)
  where
    by : (b : Bool) → canceller (if b then reported_entry r.way x else x) ≡ canceller x
    by true = canceller-reported r.way x
    by false = refl

-- ---- ends among others

-- each of some enclosed ends is here and idle
pub enclosed-idle : (t : EndId → Entry) (xs : List EndId) (q : EndId) → AreEnclosed t xs → list_any (end_eq q) xs ≡ true → IsHereAnd (t q) IsIdle
enclosed-idle t [] q are among = cc
enclosed-idle t (x ∷ xs) q are among = by (end_eq q x) refl among (enclosed-idle t xs q are.2)
  where
    by : (b : Bool) → end_eq q x ≡ b → (b || list_any (end_eq q) xs) ≡ true → (list_any (end_eq q) xs ≡ true → IsHereAnd (t q) IsIdle) → IsHereAnd (t q) IsIdle
    by true same h others = subst (λ z. IsHereAnd (t z) IsIdle) (sym (end_eq-same q x same)) are.0
    by false apart h others = others h

opposite-opposite : (e : EndId) → opposite (opposite e) ≡ e
opposite-opposite e = ap (λ side. record { link = e.link; side = side }) (by e.side)
  where
    by : (side : Side) → other_side (other_side side) ≡ side
    by A = refl
    by B = refl

-- different ends have different opposite ends
pub opposite-differs : (a b : EndId) → end_eq a b ≡ false → end_eq (opposite a) (opposite b) ≡ false
opposite-differs a b apart = by (end_eq (opposite a) (opposite b)) refl
  where
    by : (c : Bool) → end_eq (opposite a) (opposite b) ≡ c → c ≡ false
    by true same =
        let opposites : opposite a ≡ opposite b = end_eq-same _ _ same in
        let e : a ≡ b = sym (opposite-opposite a) ∙ ap opposite opposites ∙ opposite-opposite b in
        sym (end_eq-refl a) ∙ ap (end_eq a) e ∙ apart
    by false differ = refl

-- ---- what a part does with the entry of each end, one change at a time

module _ (t : EndId → Entry) where
  -- where an entry is put at which the same Cancel waits
  pub puts-same : (e : EndId) (x : Entry) (others : EndId → Entry → Entry) (q : EndId) → canceller x ≡ canceller (t e) → canceller (others q (t q)) ≡ canceller (t q) → canceller (puts e x others q (t q)) ≡ canceller (t q)
  puts-same e x others q same stay = by (end_eq e q) refl
    where
      by : (b : Bool) → end_eq e q ≡ b → canceller (if b then x else others q (t q)) ≡ canceller (t q)
      by true is = same ∙ ap (λ z. canceller (t z)) (end_eq-same e q is)
      by false apart = stay

  pub puts-other : (e : EndId) (x : Entry) (others : EndId → Entry → Entry) (q : EndId) → end_eq e q ≡ false → canceller (others q (t q)) ≡ canceller (t q) → canceller (puts e x others q (t q)) ≡ canceller (t q)
  puts-other e x others q apart stay = ap (λ b. canceller (if b then x else others q (t q))) apart ∙ stay

  pub puts-at : (e : EndId) (x : Entry) (others : EndId → Entry → Entry) → canceller (puts e x others e (t e)) ≡ canceller x
  puts-at e x others = ap (λ b. canceller (if b then x else others e (t e))) (end_eq-refl e)

  -- where ends change at which no Cancel waits
  pub turns-same : (xs : List EndId) (word : Entry → Entry) (q : EndId) → (list_any (end_eq q) xs ≡ true → canceller (word (t q)) ≡ canceller (t q)) → canceller (turns xs word stays q (t q)) ≡ canceller (t q)
  turns-same xs word q same = by (list_any (end_eq q) xs) refl
    where
      by : (b : Bool) → list_any (end_eq q) xs ≡ b → canceller (if b then word (t q) else t q) ≡ canceller (t q)
      by true among = same among
      by false none = refl

  pub turns-idle : (xs : List EndId) (word : Entry → Entry) (q : EndId) → AreEnclosed t xs → ((x : Entry) → IsHereAnd x IsIdle → canceller (word x) ≡ None) → canceller (turns xs word stays q (t q)) ≡ canceller (t q)
  turns-idle xs word q are none =
      turns-same xs word q (λ among. let idle = enclosed-idle t xs q are among in none (t q) idle ∙ sym (canceller-here_idle (t q) idle))

  -- where ends that were not here come
  pub brings-same : (ms : List MovingPicture) (word : MovingPicture → Entry) (q : EndId) → AreGone t ms → ((m : MovingPicture) → canceller (word m) ≡ None) → canceller (brings ms word stays q (t q)) ≡ canceller (t q)
  brings-same [] word q gone none = refl
  brings-same (m ∷ ms) word q gone none = by (end_eq m.end q) refl (brings-same ms word q gone.1 none)
    where
      by : (b : Bool) → end_eq m.end q ≡ b → canceller (brings ms word stays q (t q)) ≡ canceller (t q) → canceller (if b then word m else brings ms word stays q (t q)) ≡ canceller (t q)
      by true is others = none m ∙ sym (canceller-away (t m.end) gone.0) ∙ ap (λ z. canceller (t z)) (end_eq-same m.end q is)
      by false apart others = others
