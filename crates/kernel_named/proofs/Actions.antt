-- The actions of an event keep to the first n kernels, of which this one is kernel k.
use Rattle.std.proofs.Common.{◌≡◌, ◌⊎◌, inl, inr, ℕ, ◌<◌, ◌≤◌, Bool, true, false, nat_eq, nat_le, not, ◌&&◌, if◌then◌else◌, List, [], ◌∷◌, Option, Some, None, refl, arith, lt-ltb}
use Rattle.std.proofs.lemmas.Bool.{and_parts, eqb-true}
use Rattle.std.proofs.lemmas.Bool.Decides.{leb_tells}
use Rattle.std.proofs.lemmas.List.Elements.{All-push}
use Rattle.std.proofs.lemmas.Nat.Bits.{bit_at_above}
use Rattle.std.specs.Int.{bit_at}
use Rattle.std.specs.List.{AllByRecursion, fold}
use Rattle.charlotte_calls.specs.Names.{opposite}
use Rattle.charlotte_packets.specs.Packets.{is_addressed}
use Rattle.charlotte_calls.specs.declared.calls.Answer.{Answer}
use Rattle.charlotte_calls.specs.declared.calls.Answer.TheVariants as answer
use Rattle.charlotte_calls.specs.declared.calls.Cause.TheVariants as cause
use Rattle.charlotte_calls.specs.declared.calls.Report.{Report}
use Rattle.charlotte_calls.specs.declared.calls.ServiceStep.{ServiceStep}
use Rattle.charlotte_calls.specs.declared.calls.ServiceStep.TheVariants as step
use Rattle.charlotte_calls.specs.declared.names.EndId.{EndId}
use Rattle.charlotte_calls.specs.declared.names.Outcome.TheVariants as outcome
use Rattle.charlotte_calls.specs.declared.names.Pid.{Pid}
use Rattle.charlotte_packets.specs.declared.picture.MovingPicture.{MovingPicture}
use Rattle.charlotte_packets.specs.declared.picture.PictureWhat.{PictureWhat}
use Rattle.charlotte_packets.specs.declared.picture.PictureWhat.TheVariants as packet
use Rattle.end_table.specs.Entries.{ended_entry, is_news, left_entry, settled}
use Rattle.end_table.specs.Owned.{is_owner, owned}
use Rattle.end_table.specs.declared.entry.Entry.{Entry}
use Rattle.end_table.specs.declared.entry.Entry.TheVariants as entry
use Rattle.end_table.specs.declared.entry.HereView.{HereView}
use Rattle.end_table.specs.declared.entry.Holder.{Holder}
use Rattle.end_table.specs.declared.entry.Holder.TheVariants as holder
use Rattle.end_table.specs.declared.entry.Inward.{Inward}
use Rattle.end_table.specs.declared.entry.Inward.TheVariants as inward
use Rattle.end_table.specs.declared.entry.Outward.{Outward}
use Rattle.end_table.specs.declared.entry.Outward.TheVariants as outward
use Rattle.kernel_step.specs.Actions.{here, hint_kernel, enclosed_of, reports, answers, send_report, dead_receive_report, kernel_numbers, forget_at, forgets, leaves, leaves_here}
use Rattle.kernel_step.specs.Actions.{leave_each, values_leaving, matches, match_waiting, tells_gone, ends_idle, ends_idle_here, end_each, ends, held, hold_each, notice_send}
use Rattle.kernel_step.specs.Actions.{notice_receive, notices, learned_view, resends_receive, tells_moved, resends, resends_on_news, learns, settle_each, tells_arrival, tell_arrivals}
use Rattle.kernel_step.specs.Progress.{Progress, sends, reports_to, answers_to, means, keeps}
use Rattle.kernel_named.specs.Named.{AreSentWithin, IsSentWithin, NamesBelow, TableNamesBelow}
use Rattle.kernel_named.proofs.Values.{IsNamed, both, cleared-named, ended_entry-names, hint-below, learned-named, leaving-named, left_entry-names, put-names, trail-below}

-- how far an event has come keeps to the first n kernels
pub record Within (n : ℕ) (d : Progress) : Type 0 where
  pub table : TableNamesBelow n d.table
  pub packets : AreSentWithin n d.packets

-- what an entry shows of an end that is here
abbrev pub IsNamedView : ℕ → Option HereView → Type 0
IsNamedView n None = Unit {0}
IsNamedView n (Some v) = IsNamed n v.value

pub here-named : (n : ℕ) (y : Entry) → NamesBelow n y → IsNamedView n (here y)
here-named n entry.Nothing is = tt
here-named n (entry.Here v) is = is
here-named n (entry.Left to hops) is = tt
here-named n (entry.Destroyed m) is = tt

pub owned-named : (n : ℕ) (p : Pid) (y : Entry) → NamesBelow n y → IsNamedView n (owned p y)
owned-named n p entry.Nothing is = tt
owned-named n p (entry.Here v) is = by (is_owner p v.holder)
  where
    by : (b : Bool) → IsNamedView n (if b then Some v else None)
    by true = is
    by false = tt
owned-named n p (entry.Left to hops) is = tt
owned-named n p (entry.Destroyed m) is = tt

module _ {n : ℕ} where
  -- ---- one writer

  pub sends-within : {d : Progress} (to : ℕ) (what : PictureWhat) → to < n → is_addressed what n ≡ true → Within n d → Within n (sends to what d)
  unfolding sends
  sends-within {d} to what there addressed w =
      record { table = w.table; packets = All-push (λ s. IsSentWithin n s.0 s.1.what) d.packets (to, record { stamp = d.stamp; what = what }) w.packets (there, addressed) }

  pub reports_to-within : {d : Progress} (p : Pid) (r : Report) → Within n d → Within n (reports_to p r d)
  unfolding reports_to
  reports_to-within p r w = record { table = w.table; packets = w.packets }

  pub answers_to-within : {d : Progress} (p : Pid) (a : Answer) → Within n d → Within n (answers_to p a d)
  unfolding answers_to
  answers_to-within p a w = record { table = w.table; packets = w.packets }

  pub means-within : {d : Progress} (s : ServiceStep) → Within n d → Within n (means s d)
  unfolding means
  means-within s w = record { table = w.table; packets = w.packets }

  pub keeps-within : {d : Progress} (e : EndId) (x : Entry) → NamesBelow n x → Within n d → Within n (keeps e x d)
  unfolding keeps
  keeps-within {d} e x is w = record { table = put-names n d.table e x w.table is; packets = w.packets }

  pub either-within : {c d : Progress} (b : Bool) → Within n c → Within n d → Within n (if b then c else d)
  either-within true first second = first
  either-within false first second = second

  -- ---- actions without this kernel's number

  pub reports-within : {d : Progress} (h : Holder) (r : Report) → Within n d → Within n (reports h r d)
  reports-within (holder.Owner p) r w = reports_to-within p r w
  reports-within (holder.EnclosedIn on) r w = w

  pub answers-within : {d : Progress} (h : Holder) (a : Answer) → Within n d → Within n (answers h a d)
  answers-within (holder.Owner p) a w = answers_to-within p a w
  answers-within (holder.EnclosedIn on) a w = w

  pub leaves-within : {d : Progress} (to : ℕ) (m : MovingPicture) → to < n → Within n d → Within n (leaves to m d)
  leaves-within to m there w = keeps-within m.end (left_entry to m) (left_entry-names n to m there) w

  leaves_here-within : {d : Progress} (to : ℕ) (v : Option HereView) → to < n → Within n d → Within n (leaves_here to v d)
  leaves_here-within to None there w = w
  leaves_here-within to (Some v) there w = leaves-within to v.value there w

  leave_each-within : (to : ℕ) (xs : List EndId) {d : Progress} → to < n → Within n d → Within n (leave_each to xs d)
  unfolding leave_each
  leave_each-within to [] there w = w
  leave_each-within to (x ∷ xs) {d} there w = leave_each-within to xs there (leaves_here-within to (here (d.table x)) there w)

  held-within : {d : Progress} (h : Holder) (v : Option HereView) → IsNamedView n v → Within n d → Within n (held h v d)
  held-within h None is w = w
  held-within h (Some v) is w = keeps-within v.value.end (entry.Here (record v { holder = h })) is w

  pub hold_each-within : (h : Holder) (xs : List EndId) {d : Progress} → Within n d → Within n (hold_each h xs d)
  unfolding hold_each
  hold_each-within h [] w = w
  hold_each-within h (x ∷ xs) {d} w = hold_each-within h xs (held-within h (here (d.table x)) (here-named n (d.table x) (w.table x)) w)

  notice_send-within : {d : Progress} (e : EndId) (h : Holder) (o : Outward) → Within n d → Within n (notice_send e h o d)
  unfolding notice_send
  notice_send-within e h outward.Idle w = w
  notice_send-within e h (outward.Waiting m bytes xs) w = hold_each-within h xs (reports-within h (send_report e outcome.Destroyed xs) w)
  notice_send-within e h (outward.Matched m) w = w
  notice_send-within e h outward.Unreported w = w

  notice_receive-within : {d : Progress} (e : EndId) (h : Holder) (i : Inward) → Within n d → Within n (notice_receive e h i d)
  unfolding notice_receive
  notice_receive-within e h inward.Idle w = w
  notice_receive-within e h (inward.Posted x) w = reports-within h (dead_receive_report e) w
  notice_receive-within e h (inward.Withdrawing x) w = answers-within h (answer.Refused cause.Dead) (reports-within h (dead_receive_report e) w)
  notice_receive-within e h inward.Unreported w = w

  pub settle_each-within : (h : Holder) (ms : List MovingPicture) {d : Progress} → AllByRecursion (IsNamed n) ms → Within n d → Within n (settle_each h ms d)
  unfolding settle_each
  settle_each-within h [] are w = w
  settle_each-within h (m ∷ ms) are w = settle_each-within h ms are.1 (keeps-within m.end (entry.Here (settled h m)) are.0 w)

  -- ---- the kernels of a trail

  forget_at-within : {d : Progress} (k : ℕ) (m : MovingPicture) (j : ℕ) → IsNamed n m → Within n d → Within n (forget_at k m j d)
  forget_at-within {d} k m j is w = by (nat_eq (bit_at m.trail j) 1 && not (nat_eq j k)) refl
    where
      there : nat_eq (bit_at m.trail j) 1 ≡ true → ((nat_le n j ≡ true) × (n ≤ j)) ⊎ ((nat_le n j ≡ false) × (j < n)) → j < n
      there told (inl far) =
          let none : bit_at m.trail j ≡ 0 = bit_at_above m.trail n j (trail-below n m is) far.1 in
          let one : bit_at m.trail j ≡ 1 = eqb-true (bit_at m.trail j) 1 told in
          absurd (omega (arith, one, none))
      there told (inr near) = near.1

      by : (b : Bool) → (nat_eq (bit_at m.trail j) 1 && not (nat_eq j k)) ≡ b → Within n (if b then sends j (packet.Forget m.end m.hops) d else d)
      by true told = sends-within j (packet.Forget m.end m.hops) (there (and_parts _ _ told).0 (leb_tells n j)) refl w
      by false told = w

  forget_each-within : (k : ℕ) (m : MovingPicture) (js : List ℕ) {d : Progress} → IsNamed n m → Within n d → Within n (fold (λ so_far j. forget_at k m j so_far) d js)
  forget_each-within k m [] is w = w
  forget_each-within k m (j ∷ js) is w = forget_each-within k m js is (forget_at-within k m j is w)

  pub forgets-within : {d : Progress} (k : ℕ) (m : MovingPicture) → IsNamed n m → Within n d → Within n (forgets k m d)
  unfolding forgets
  forgets-within k m is w = forget_each-within k m kernel_numbers is w

  pub notices-within : {d : Progress} (k : ℕ) (v : HereView) → IsNamed n v.value → Within n d → Within n (notices k v d)
  unfolding notices
  notices-within k v is w =
      forgets-within k v.value is (notice_receive-within v.value.end v.holder v.inward (notice_send-within v.value.end v.holder v.outward
      (keeps-within v.value.end (entry.Here _) (cleared-named n v.value is) w)))

  -- ---- actions that name this kernel

  module _ (k : ℕ) (below : k < n) where
    pub matches-within : {d : Progress} (v : HereView) (m : ℕ) (bytes : List ℕ) (xs : List EndId) → IsNamed n v.value → Within n d → Within n (matches k v m bytes xs d)
    unfolding matches
    matches-within {d} v m bytes xs is w =
        let there : hint_kernel v < n = hint-below n v.value is in
        let served : HereView = record v { value = record v.value { served = v.value.want; want = 0 }; outward = outward.Matched m } in
        let kept : Within n (keeps v.value.end (entry.Here served) d) = keeps-within v.value.end (entry.Here served) is w in
        sends-within (hint_kernel v) (packet.Parcel (opposite v.value.end) m v.value.want k v.value.hops bytes (values_leaving k (keeps v.value.end (entry.Here served) d).table xs)) there
        (both _ _ (lt-ltb k n below) (leaving-named n k (keeps v.value.end (entry.Here served) d).table xs below kept.table))
        (means-within (step.Match v.value.end m) (leave_each-within (hint_kernel v) xs there kept))

    pub match_waiting-within : {d : Progress} (v : HereView) (o : Outward) → IsNamed n v.value → Within n d → Within n (match_waiting k v o d)
    match_waiting-within v outward.Idle is w = keeps-within v.value.end (entry.Here v) is w
    match_waiting-within v (outward.Waiting m bytes xs) is w = matches-within v m bytes xs is w
    match_waiting-within v (outward.Matched m) is w = keeps-within v.value.end (entry.Here v) is w
    match_waiting-within v outward.Unreported is w = keeps-within v.value.end (entry.Here v) is w

    tells_gone-within : {d : Progress} (m : MovingPicture) → IsNamed n m → Within n d → Within n (tells_gone k m d)
    unfolding tells_gone
    tells_gone-within m is w = either-within m.dead w (sends-within m.hint.0 (packet.Gone (opposite m.end) k) (hint-below n m is) (lt-ltb k n below) w)

    pub ends_idle-within : {d : Progress} (m : MovingPicture) → IsNamed n m → Within n d → Within n (ends_idle k m d)
    unfolding ends_idle
    ends_idle-within m is w = tells_gone-within m is (keeps-within m.end (ended_entry m) (ended_entry-names n m is) w)

    ends_idle_here-within : {d : Progress} (v : Option HereView) → IsNamedView n v → Within n d → Within n (ends_idle_here k v d)
    ends_idle_here-within None is w = w
    ends_idle_here-within (Some v) is w = ends_idle-within v.value is w

    end_each-within : (xs : List EndId) {d : Progress} → Within n d → Within n (end_each k xs d)
    unfolding end_each
    end_each-within [] w = w
    end_each-within (x ∷ xs) {d} w = end_each-within xs (ends_idle_here-within (here (d.table x)) (here-named n (d.table x) (w.table x)) w)

    pub ends-within : {d : Progress} (v : HereView) → IsNamed n v.value → Within n d → Within n (ends k v d)
    unfolding ends
    ends-within v is w = tells_gone-within v.value is (end_each-within (enclosed_of v.outward) (keeps-within v.value.end (ended_entry v.value) (ended_entry-names n v.value is) w))

    resends_receive-within : {d : Progress} (m : MovingPicture) (i : Inward) → IsNamed n m → Within n d → Within n (resends_receive k m i d)
    resends_receive-within m inward.Idle is w = w
    resends_receive-within m (inward.Posted x) is w = sends-within m.hint.0 (packet.Want (opposite m.end) x k m.hops) (hint-below n m is) (lt-ltb k n below) w
    resends_receive-within m (inward.Withdrawing x) is w = sends-within m.hint.0 (packet.Unwant (opposite m.end) x k m.hops) (hint-below n m is) (lt-ltb k n below) w
    resends_receive-within m inward.Unreported is w = w

    tells_moved-within : {d : Progress} (m : MovingPicture) → IsNamed n m → Within n d → Within n (tells_moved k m d)
    unfolding tells_moved
    tells_moved-within m is w = sends-within m.hint.0 (packet.Moved (opposite m.end) k m.hops) (hint-below n m is) (lt-ltb k n below) w

    resends-within : {d : Progress} (m : MovingPicture) (i : Inward) → IsNamed n m → Within n d → Within n (resends k m i d)
    unfolding resends
    resends-within {d} m i is w =
        let asked : Within n (resends_receive k m i d) = resends_receive-within m i is w in
        either-within (nat_eq m.trail 0) asked (tells_moved-within m is asked)

    pub resends_on_news-within : {d : Progress} (before : MovingPicture) (hops : ℕ) (m : MovingPicture) (i : Inward) → IsNamed n m → Within n d → Within n (resends_on_news k before hops m i d)
    unfolding resends_on_news
    resends_on_news-within before hops m i is w = either-within (is_news before hops) (resends-within m i is w) w

    pub learns-within : {d : Progress} (at hops : ℕ) (v : HereView) → at < n → IsNamed n v.value → Within n d → Within n (learns k at hops v d)
    unfolding learns
    learns-within at hops v there is w =
        let now : IsNamed n (learned_view v at hops).value = learned-named n at hops v.value there is in
        resends_on_news-within v.value hops (learned_view v at hops).value v.inward now (keeps-within v.value.end (entry.Here (learned_view v at hops)) now w)

    tells_arrival-within : {d : Progress} (m : MovingPicture) → IsNamed n m → Within n d → Within n (tells_arrival k m d)
    tells_arrival-within m is w = either-within m.dead w (tells_moved-within m is w)

    pub tell_arrivals-within : (ms : List MovingPicture) {d : Progress} → AllByRecursion (IsNamed n) ms → Within n d → Within n (tell_arrivals k ms d)
    unfolding tell_arrivals
    tell_arrivals-within [] are w = w
    tell_arrivals-within (m ∷ ms) are w = tell_arrivals-within ms are.1 (tells_arrival-within m are.0 w)
