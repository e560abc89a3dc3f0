-- What the parts of a call leave true of the table for the parts after them.
use Rattle.std.proofs.Common.{◌≡◌, ℕ, ◌+◌, length, Bool, true, false, nat_eq, List, [], ◌∷◌, Contains, zero, suc, Option, Some, None, IsSome, true≢false, refl, sym, ap, subst, ◌∙◌, arith}
use Rattle.charlotte_calls.specs.Causes.{first_of, send_causes}
use Rattle.charlotte_calls.specs.Names.{opposite, other_side}
use Rattle.charlotte_calls.specs.declared.calls.Call.TheVariants as call
use Rattle.charlotte_calls.specs.declared.names.EndId.{EndId}
use Rattle.charlotte_calls.specs.declared.names.Pid.{Pid}
use Rattle.charlotte_calls.specs.declared.names.Side.{Side}
use Rattle.charlotte_calls.specs.declared.names.Side.TheVariants.{A, B}
use Rattle.charlotte_calls.specs.declared.names.Way.{Way}
use Rattle.charlotte_calls.specs.declared.names.Way.TheVariants as way
use Rattle.charlotte_packets.specs.declared.picture.MovingPicture.{MovingPicture}
use Rattle.charlotte_packets.specs.declared.work.Work.{Work}
use Rattle.end_table.proofs.EndEq.{end_eq-same}
use Rattle.end_table.specs.Entries.{ended_entry}
use Rattle.end_table.specs.Owned.{AreEndsOf, owned}
use Rattle.end_table.specs.Place.{end_eq, put}
use Rattle.end_table.specs.Table.{IsHere, IfHere, IsOfEnd, TableView, entries}
use Rattle.end_table.specs.declared.entry.Entry.{Entry}
use Rattle.end_table.specs.declared.entry.Entry.TheVariants as entry
use Rattle.end_table.specs.declared.entry.HereView.{HereView}
use Rattle.end_table.specs.declared.entry.Holder.TheVariants as holder
use Rattle.kernel_sound.proofs.Goes.{GoesWell}
use Rattle.kernel_sound.proofs.Needs.{IfHere-at, encloses-enclosed, encloses-on, owned-here, send-apart, send-enclosed}
use Rattle.kernel_sound.proofs.Calls.{IfHere-ends, ends_each-well}
use Rattle.kernel_sound.proofs.Sends.{only-same, tells_gone-only}
use Rattle.kernel_sound.specs.Acts.{AreOfOne, acts, acts_on, withdraws}
use Rattle.kernel_sound.specs.Sound.{IsSound}
use Rattle.kernel_step.specs.Actions.{enclosed_of, end_each, ends, ends_idle, ends_idle_here, held, here, hold_each, tells_gone}
use Rattle.kernel_step.specs.Calls.{encloses, ends_each, ends_here, starts_send, sees}
use Rattle.kernel_step.specs.Enclosed.{AreEnclosed}
use Rattle.kernel_step.specs.Progress.{Progress, AddsAtMost, HasRoom, StaysWithin, keeps, progress}
use Rattle.kernel_step.specs.Room.{and_ends, no_room, room_of_end}

-- both ends of a link are two
pub opposite-apart : (e : EndId) → end_eq e (opposite e) ≡ false
opposite-apart e = by (end_eq e (opposite e)) refl
  where
    differ : (s : Side) → s ≡ other_side s → ⊥
    differ A same = cc
    differ B same = cc

    by : (b : Bool) → end_eq e (opposite e) ≡ b → b ≡ false
    by true same = absurd (differ e.side (ap (λ x. x.side) (end_eq-same _ _ same)))
    by false apart = refl

-- the opposite of an end stays away where the entry of the end alone changes
pub opposite-away : (old new : EndId → Entry) (e q : EndId) → q ≡ opposite e → ((q : EndId) → end_eq e q ≡ false → new q ≡ old q) → (IsHere (old (opposite e)) → ⊥) → IsHere (new q) → ⊥
opposite-away old new e q is same away here =
    away (subst IsHere (same (opposite e) (opposite-apart e)) (subst (λ z. IsHere (new z)) is here))

-- an end that is enclosed, and then the others, are all enclosed
pub encloses-more : (on x : EndId) (xs all : List EndId) (t0 t1 : EndId → Entry) (out0 out1 : Work) → all ≡ x ∷ xs → progress t1 out1 ≡ held (holder.EnclosedIn on) (here (t0 x)) (progress t0 out0)
    → encloses on xs (progress t1 out1) ≡ encloses on all (progress t0 out0)
unfolding encloses hold_each progress
encloses-more on x xs all t0 t1 out0 out1 e same =
    ap (λ d. hold_each (holder.EnclosedIn on) xs d) same ∙ ap (λ ys. hold_each (holder.EnclosedIn on) ys (progress t0 out0)) (sym e)

-- without an end nothing is enclosed
pub encloses-none : (on : EndId) (all : List EndId) (d : Progress) → all ≡ [] → encloses on all d ≡ d
unfolding encloses hold_each
encloses-none on all d e = ap (λ ys. hold_each (holder.EnclosedIn on) ys d) e

-- END of an end, and then of the others, is one of all
pub ends_each-more : (k : ℕ) (x : EndId) (xs all : List EndId) (t0 t1 : EndId → Entry) (out0 out1 : Work) → all ≡ x ∷ xs → progress t1 out1 ≡ ends_here k (here (t0 x)) (progress t0 out0)
    → ends_each k xs (progress t1 out1) ≡ ends_each k all (progress t0 out0)
unfolding ends_each progress
ends_each-more k x xs all t0 t1 out0 out1 e same =
    ap (λ d. ends_each k xs d) same ∙ ap (λ ys. ends_each k ys (progress t0 out0)) (sym e)

-- without an end nothing ends
pub ends_each-none : (k : ℕ) (all : List EndId) (d : Progress) → all ≡ [] → ends_each k all d ≡ d
unfolding ends_each
ends_each-none k all d e = ap (λ ys. ends_each k ys d) e

-- what END makes of the table is by the table alone
module _ (k : ℕ) where
  keeps-table : (e : EndId) (x : Entry) (d f : Progress) → d.table ≡ f.table → (keeps e x d).table ≡ (keeps e x f).table
  unfolding keeps
  keeps-table e x d f same = ap (λ t. put t e x) same

  tells_gone-table : (m : MovingPicture) (d : Progress) → (tells_gone k m d).table ≡ d.table
  tells_gone-table m d = (tells_gone-only k m d (only-same d)).table

  -- an opposite end is told after either
  told-table : (m : MovingPicture) (d f : Progress) → d.table ≡ f.table → (tells_gone k m d).table ≡ (tells_gone k m f).table
  told-table m d f same = tells_gone-table m d ∙ same ∙ sym (tells_gone-table m f)

  idle-table : (v : Option HereView) (d f : Progress) → d.table ≡ f.table → (ends_idle_here k v d).table ≡ (ends_idle_here k v f).table
  unfolding ends_idle
  idle-table None d f same = same
  idle-table (Some v) d f same = told-table v.value _ _ (keeps-table v.value.end (ended_entry v.value) d f same)

  end_each-table : (xs : List EndId) (d f : Progress) → d.table ≡ f.table → (end_each k xs d).table ≡ (end_each k xs f).table
  unfolding end_each
  end_each-table [] d f same = same
  end_each-table (x ∷ xs) d f same =
      end_each-table xs (ends_idle_here k (here (d.table x)) d) (ends_idle_here k (here (f.table x)) f)
      (ap (λ t. (ends_idle_here k (here (t x)) d).table) same ∙ idle-table (here (f.table x)) d f same)

  pub ends_here-table : (v : Option HereView) (d f : Progress) → d.table ≡ f.table → (ends_here k v d).table ≡ (ends_here k v f).table
  unfolding ends
  ends_here-table None d f same = same
  ends_here-table (Some v) d f same =
      told-table v.value _ _ (end_each-table (enclosed_of v.outward) _ _ (keeps-table v.value.end (ended_entry v.value) d f same))

-- a table stays sound where an end is destroyed that a process owns
ends_here-sound : (k made n : ℕ) (p : Pid) (x : EndId) (t : EndId → Entry) (out : Work) → IsSound k made n t → IfHere (t x) (λ v. v.holder ≡ holder.Owner p)
    → IsSound k made n (ends_here k (here (t x)) (progress t out)).table
unfolding ends_each progress
ends_here-sound k made n p x t out sound owned =
    subst (IsSound k made n) (ends_here-table k (here (t x)) start (progress t out) refl) after.sound
  where
    start : Progress
    start = record { table = t; stamp = 0; packets = []; reports = []; answers = []; steps = [] }

    well : GoesWell k made n (λ q e. nat_eq p.0 q.0) t start
    well = record { sound = sound; reports = tt; answers = tt; calm = λ q e not. refl }

    after : GoesWell k made n (λ q e. nat_eq p.0 q.0) t (ends_here k (here (t x)) start)
    after = ends_each-well p (λ q e. refl) (x ∷ []) start (owned, tt) well

-- of each end that is still here what was true stays true
ends_here-stays : (P : HereView → Type 0) (k : ℕ) (v : Option HereView) (d : Progress) (q : EndId) → IfHere (d.table q) P → IfHere ((ends_here k v d).table q) P
ends_here-stays P k None d q h = h
ends_here-stays P k (Some v) d q h = IfHere-ends P k v d q h

-- the ends of one process are still its own after the first of them was destroyed
module _ (k : ℕ) (x : EndId) (xs all : List EndId) (t0 t1 : EndId → Entry) (out0 out1 : Work) (e : all ≡ x ∷ xs) (are : AreOfOne k t0 all) where
  -- each is one of them
  among : (q : EndId) → Contains (x ∷ xs) q → IfHere (t0 q) (λ v. v.holder ≡ holder.Owner are.p)
  among q some = are.owned q (subst (λ ys. Contains ys q) (sym e) some)

  -- the first
  pub first-owned : IfHere (t0 x) (λ v. v.holder ≡ holder.Owner are.p)
  first-owned = among x (zero, omega arith, refl)

  pub AreOfOne-others : progress t1 out1 ≡ ends_here k (here (t0 x)) (progress t0 out0) → AreOfOne k t1 xs
  unfolding progress
  AreOfOne-others after =
      record {
        made = are.made;
        n = are.n;
        p = are.p;
        sound = subst (IsSound k are.made are.n) (sym tables) (ends_here-sound k are.made are.n are.p x t0 out0 are.sound first-owned);
        owned = λ q some. subst (λ t. IfHere (t q) owner) (sym tables)
            (ends_here-stays owner k (here (t0 x)) (progress t0 out0) q (among q (suc some.0, omega arith, some.2)));
      }
    where
      owner : HereView → Type 0
      owner v = v.holder ≡ holder.Owner are.p

      tables : t1 ≡ (ends_here k (here (t0 x)) (progress t0 out0)).table
      tables = ap (λ d. d.table) after

-- room for the packets of an END for each end, as far as it is needed
pub HasRoom-ends : (all xs : ℕ) (old new : Work) → all ≡ xs + 1 → HasRoom (and_ends all no_room) old → AddsAtMost room_of_end old new → HasRoom (and_ends xs no_room) new
HasRoom-ends all xs old new more room adds =
    record { packets = omega arith; reports = omega arith; answers = omega arith; steps = omega arith }

-- and once it ended, one more of them has
pub within-more : (n : ℕ) (before amid after : TableView) (old mid new : Work) → StaysWithin (and_ends n no_room) before amid old mid → StaysWithin room_of_end amid after mid new
    → StaysWithin (and_ends (n + 1) no_room) before after old new
within-more n before amid after old mid new first next =
    record {
      kernel = next.kernel ∙ first.kernel;
      added =
          record {
            packets = omega (arith, first.added.packets, next.added.packets);
            reports = omega (arith, first.added.reports, next.added.reports);
            answers = omega (arith, first.added.answers, next.added.answers);
            steps = omega (arith, first.added.steps, next.added.steps);
            packets_in_place = next.added.packets_in_place ∙ first.added.packets_in_place;
            reports_in_place = next.added.reports_in_place ∙ first.added.reports_in_place;
            answers_in_place = next.added.answers_in_place ∙ first.added.answers_in_place;
            steps_in_place = next.added.steps_in_place ∙ first.added.steps_in_place;
          };
    }

-- of the ends that a process owns these are left, and there is room to end each; the others ended
pub record AreLeft (all left : List EndId) (before after : TableView) (old new : Work) : Type 0 where
  pub over : ℕ
  pub count : over + length left ≡ length all
  pub ends : AreOfOne after.kernel (entries after) left
  pub room : HasRoom (and_ends (length left) no_room) new
  pub part : ends_each before.kernel left (progress (entries after) new) ≡ ends_each before.kernel all (progress (entries before) old)
  pub within : StaysWithin (and_ends over no_room) before after old new

-- none ended yet
pub all-left : (all : List EndId) (table : TableView) (out : Work) → AreOfOne table.kernel (entries table) all → HasRoom (and_ends (length all) no_room) out → AreLeft all all table table out out
all-left all table out ends room =
    record {
      over = 0;
      count = omega arith;
      ends = ends;
      room = room;
      part = refl;
      within =
          record {
            kernel = refl;
            added =
                record {
                  packets = omega arith;
                  reports = omega arith;
                  answers = omega arith;
                  steps = omega arith;
                  packets_in_place = refl;
                  reports_in_place = refl;
                  answers_in_place = refl;
                  steps_in_place = refl;
                };
          };
    }

-- the first that is left ends
pub one-fewer : (all left : List EndId) (x : EndId) (xs : List EndId) (before amid after : TableView) (old mid new : Work) → left ≡ x ∷ xs → AreLeft all left before amid old mid
    → progress (entries after) new ≡ ends_here amid.kernel (here (entries amid x)) (progress (entries amid) mid) → StaysWithin room_of_end amid after mid new → AreLeft all xs before after old new
one-fewer all left x xs before amid after old mid new first are ended within =
    record {
      over = are.over + 1;
      count = omega (arith, are.count, one);
      ends = subst (λ k. AreOfOne k (entries after) xs) (sym within.kernel) (AreOfOne-others _ _ _ _ _ _ _ _ first are.ends ended);
      room = HasRoom-ends _ _ _ _ one are.room within.added;
      part = ends_each-more before.kernel x xs left _ _ _ _ first (ended ∙ ap (λ k. ends_here k (here (entries amid x)) (progress (entries amid) mid)) are.within.kernel) ∙ are.part;
      within = within-more are.over before amid after old mid new are.within within;
    }
  where
    one : length left ≡ length xs + 1
    one = let long : length left ≡ length (x ∷ xs) = ap length first in omega (arith, long)

-- there is room to end the first that is left
pub first-room : (left : List EndId) (x : EndId) (xs : List EndId) (out : Work) → left ≡ x ∷ xs → HasRoom (and_ends (length left) no_room) out → HasRoom room_of_end out
first-room left x xs out first room =
    let long : length left ≡ length (x ∷ xs) = ap length first in
    record { packets = omega (arith, long, room.packets); reports = room.reports; answers = room.answers; steps = room.steps }

-- where none is left, all ended
module _ (all left : List EndId) (before after : TableView) (old new : Work) (none : left ≡ []) (are : AreLeft all left before after old new) where
  pub none-left : progress (entries after) new ≡ ends_each before.kernel all (progress (entries before) old)
  none-left = sym (ends_each-none before.kernel left _ none) ∙ are.part

  pub all-within : StaysWithin (and_ends (length all) no_room) before after old new
  all-within = let empty : length left ≡ 0 = ap length none in subst (λ n. StaysWithin (and_ends n no_room) before after old new) (omega (arith, are.count, empty)) are.within

-- once the ends that it encloses are held by it
module _ (p : Pid) (on : EndId) (xs slice : List EndId) (v : HereView) (old new : EndId → Entry) (out0 out1 : Work) (at : old on ≡ entry.Here v) (mine : Some v ≡ owned p (old on))
    (granted : first_of (send_causes (sees p old) on xs) ≡ None) (own : (e : EndId) → IsOfEnd e (old e)) (is : slice ≡ xs) (same : out1 ≡ out0)
    (after : progress new out1 ≡ encloses on slice (progress old out0)) where
  -- they are these
  enclosed-these : progress new out1 ≡ encloses on xs (progress old out0)
  enclosed-these = after ∙ ap (λ ys. encloses on ys (progress old out0)) is

  enclosed-now : progress new out0 ≡ encloses on xs (progress old out0)
  enclosed-now = ap (progress new) (sym same) ∙ enclosed-these

  -- they are idle
  pub enclosed-after : AreEnclosed new xs
  enclosed-after = encloses-enclosed on xs old new out0 enclosed-now (send-enclosed p old on xs granted)

  -- the end itself is as it was
  pub on-after : new on ≡ entry.Here v
  on-after = encloses-on on xs old new out0 enclosed-now own (send-apart p old on xs granted) ∙ at

  -- and the send that starts then is that of the call
  pub sent-after : (k k1 : ℕ) (bytes : List ℕ) (d : Progress) → k1 ≡ k → IfHere (new on) (λ u. d ≡ starts_send k1 bytes xs u (progress new out1))
      → d ≡ acts_on (owned p (old on)) (λ u so_far. starts_send k bytes xs u (encloses on xs so_far)) (progress old out0)
  sent-after k k1 bytes d kernel started =
      IfHere-at (new on) v (λ u. d ≡ starts_send k1 bytes xs u (progress new out1)) on-after started
      ∙ ap (λ j. starts_send j bytes xs v (progress new out1)) kernel
      ∙ ap (λ f. starts_send k bytes xs v f) enclosed-these
      ∙ ap (λ o. acts_on o (λ u so_far. starts_send k bytes xs u (encloses on xs so_far)) (progress old out0)) mine

-- the ends of a process that exits are its own
pub AreOfOne-all : (k made n : ℕ) (p : Pid) (t : EndId → Entry) (mine : List EndId) → IsSound k made n t → AreEndsOf p t mine → AreOfOne k t mine
AreOfOne-all k made n p t mine sound are = record { made = made; n = n; p = p; sound = sound; owned = λ e some. held (t e) ((are.all e).0 some) }
  where
    held : (x : Entry) → IsSome (owned p x) → IfHere x (λ v. v.holder ≡ holder.Owner p)
    held x some = by (owned p x) refl some
      where
        by : (o : Option HereView) → owned p x ≡ o → IsSome o → IfHere x (λ v. v.holder ≡ holder.Owner p)
        by None is some = absurd (true≢false (sym some))
        by (Some v) is some = let both = owned-here p x v is in subst (λ y. IfHere y (λ u. u.holder ≡ holder.Owner p)) (sym both.0) both.1

-- a Cancel of either way
pub acts-cancel : (p : Pid) (k made : ℕ) (mine : List EndId) (on : EndId) (w : Way) (t : EndId → Entry) (out : Work)
    → acts p k made mine (call.Cancel on w) (progress t out) ≡ acts_on (owned p (t on)) (withdraws k w) (progress t out)
unfolding acts progress
acts-cancel p k made mine on way.Outward t out = refl
acts-cancel p k made mine on way.Inward t out = refl
