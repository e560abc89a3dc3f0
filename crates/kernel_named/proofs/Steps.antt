-- A kernel whose table names the first n kernels alone still does so after any call and any packet from one of them, and so do the packets
-- that it sends.
use Rattle.std.proofs.Common.{◌≡◌, ℕ, ◌+◌, ◌<◌, max, Bool, true, false, nat_eq, if◌then◌else◌, List, [], ◌∷◌, ◌++◌, length, map, All, Option, Some, None, refl, ap, lt-ltb, pow_pos}
use Rattle.std.proofs.lemmas.List.Elements.{All-nil}
use Rattle.charlotte_packets.specs.Moving.{new_end}
use Rattle.charlotte_calls.specs.Names.{opposite}
use Rattle.charlotte_packets.specs.Packets.{is_addressed}
use Rattle.charlotte_calls.specs.declared.calls.Answer.{Answer}
use Rattle.charlotte_calls.specs.declared.calls.Answer.TheVariants as answer
use Rattle.charlotte_calls.specs.declared.calls.Call.{Call}
use Rattle.charlotte_calls.specs.declared.calls.Call.TheVariants as call
use Rattle.charlotte_calls.specs.declared.calls.Cause.{Cause}
use Rattle.charlotte_calls.specs.declared.calls.Report.{Report}
use Rattle.charlotte_calls.specs.declared.calls.ServiceStep.TheVariants as step
use Rattle.charlotte_calls.specs.declared.names.EndId.{EndId}
use Rattle.charlotte_calls.specs.declared.names.Pid.{Pid}
use Rattle.charlotte_calls.specs.declared.names.Way.{Way}
use Rattle.charlotte_calls.specs.declared.names.Way.TheVariants as way
use Rattle.charlotte_packets.specs.declared.picture.Picture.{Picture}
use Rattle.charlotte_packets.specs.declared.picture.PictureWhat.TheVariants as packet
use Rattle.end_table.specs.Entries.{gains_one, settled}
use Rattle.end_table.specs.Owned.{owned}
use Rattle.end_table.specs.declared.entry.Entry.{Entry}
use Rattle.end_table.specs.declared.entry.Entry.TheVariants as entry
use Rattle.end_table.specs.declared.entry.HereView.{HereView}
use Rattle.end_table.specs.declared.entry.Holder.TheVariants as holder
use Rattle.end_table.specs.declared.entry.Inward.{Inward}
use Rattle.end_table.specs.declared.entry.Inward.TheVariants as inward
use Rattle.end_table.specs.declared.entry.Outward.TheVariants as outward
use Rattle.kernel_step.specs.Actions.{here, hint_kernel, enclosed_of}
use Rattle.kernel_step.specs.Calls.{encloses, ends_each, ends_here, made_end, makes, posts, refusal, starts_send, withdraws_receive, withdraws_send}
use Rattle.kernel_step.specs.Kernel.{Kernel, Outcome, answers_wait, begins, call_step, cancels, cancels_receive, closes, decides, exits, granted, granted_on, has_report}
use Rattle.kernel_step.specs.Kernel.{is_waiting, join_answers, join_reports, joins, next_stamp, performs, process_of, reported_entry, stands, take_step, turns, waits, with_process}
use Rattle.kernel_step.specs.Progress.{Progress, means}
use Rattle.kernel_step.specs.Rows.{row}
use Rattle.kernel_step.specs.declared.phase.Phase.{Phase}
use Rattle.kernel_step.specs.declared.phase.Phase.TheVariants.{Cancelling}
use Rattle.kernel_named.specs.Named.{AreSentWithin, IsSentWithin, NamesBelow, TableNamesBelow}
use Rattle.kernel_named.proofs.Actions.{IsNamedView, Within, either-within, ends-within, here-named, hold_each-within, keeps-within, matches-within, means-within, owned-named, sends-within}
use Rattle.kernel_named.proofs.Rows.{row-within}
use Rattle.kernel_named.proofs.Values.{IsNamed, hint-below, named, put-names, reported-names}

-- what an event gave at kernel k of n keeps to these
pub record GivesWithin (n k : ℕ) (o : Outcome) : Type 0 where
  pub number : o.kernel.number ≡ k
  pub kernels : o.kernel.kernels ≡ n
  pub table : TableNamesBelow n o.kernel.table
  pub packets : AreSentWithin n o.packets

module _ {n k : ℕ} where
  -- ---- an event closes

  stands-gives : {o : Outcome} (p : Pid) (a : Answer) → GivesWithin n k o → GivesWithin n k (stands p a o)
  stands-gives p a g = record { number = g.number; kernels = g.kernels; table = g.table; packets = g.packets }

  answers_wait-gives : {o : Outcome} (p : Pid) (r : Report) (others : List Report) → GivesWithin n k o → GivesWithin n k (answers_wait p r others o)
  unfolding answers_wait
  answers_wait-gives {o} p r others g =
      record {
        number = g.number;
        kernels = g.kernels;
        table = put-names n o.kernel.table r.on (reported_entry r.way (o.kernel.table r.on)) g.table (reported-names n r.way (o.kernel.table r.on) (g.table r.on));
        packets = g.packets;
      }

  waits-gives : {o : Outcome} (p : Pid) (rs : List Report) → GivesWithin n k o → GivesWithin n k (waits p rs o)
  waits-gives p [] g = record { number = g.number; kernels = g.kernels; table = g.table; packets = g.packets }
  waits-gives p (r ∷ rs) g = answers_wait-gives p r rs g

  joins-gives : {o : Outcome} (p : Pid) (r : Report) (phase : Phase) → GivesWithin n k o → GivesWithin n k (joins p r phase o)
  joins-gives {o} p r phase g = by (is_waiting phase)
    where
      reports : List Report
      reports = (process_of p o.kernel).reports ++ r ∷ []

      by : (b : Bool) → GivesWithin n k (if b then waits p reports o else record o { kernel = with_process p (record (process_of p o.kernel) { reports = reports }) o.kernel })
      by true = waits-gives p reports g
      by false = record { number = g.number; kernels = g.kernels; table = g.table; packets = g.packets }

  join_reports-gives : (rs : List (Pid × Report)) {o : Outcome} → GivesWithin n k o → GivesWithin n k (join_reports rs o)
  unfolding join_reports
  join_reports-gives [] g = g
  join_reports-gives (r ∷ rs) {o} g = join_reports-gives rs (joins-gives r.0 r.1 (process_of r.0 o.kernel).phase g)

  join_answers-gives : (given : List (Pid × Answer)) {o : Outcome} → GivesWithin n k o → GivesWithin n k (join_answers given o)
  unfolding join_answers
  join_answers-gives [] g = g
  join_answers-gives (a ∷ given) g = join_answers-gives given (stands-gives a.0 a.1 g)

  closes-gives : {d : Progress} (s : Kernel) → s.number ≡ k → s.kernels ≡ n → Within n d → GivesWithin n k (closes s d)
  unfolding closes
  closes-gives {d} s number kernels w = join_reports-gives d.reports (join_answers-gives d.answers (record { number = number; kernels = kernels; table = w.table; packets = w.packets }))

module _ {n : ℕ} where
  begins-within : (s : Kernel) (stamp : ℕ) → TableNamesBelow n s.table → Within n (begins s stamp)
  begins-within s stamp names = record { table = names; packets = All-nil (λ (s : ℕ × Picture). IsSentWithin n s.0 s.1.what) }

  -- ---- calls

  module _ (k : ℕ) (below : k < n) where
    -- an end that is made knows its opposite at this kernel
    new-named : (e : EndId) → IsNamed n (new_end e k)
    new-named e = named n (new_end e k) below (pow_pos n)

    makes-within : {d : Progress} (made : ℕ) (p : Pid) → Within n d → Within n (makes k made p d)
    unfolding makes
    makes-within made p w =
        let a : EndId = made_end k made in
        keeps-within (opposite a) (entry.Here (settled (holder.Owner p) (new_end (opposite a) k))) (new-named (opposite a))
        (keeps-within a (entry.Here (settled (holder.Owner p) (new_end a k))) (new-named a) (means-within (step.Make p a (opposite a)) w))

    starts_send-within : {d : Progress} (bytes : List ℕ) (xs : List EndId) (v : HereView) → IsNamed n v.value → Within n d → Within n (starts_send k bytes xs v d)
    unfolding starts_send
    starts_send-within bytes xs v is w =
        let m : ℕ = gains_one v.value.sent in
        let started : HereView = record v { value = record v.value { sent = m }; outward = outward.Waiting m bytes xs } in
        let said = means-within (step.Send v.value.end m bytes xs) w in
        either-within (nat_eq v.value.want 0) (keeps-within v.value.end (entry.Here started) is said) (matches-within k below started m bytes xs is said)

    posts-within : {d : Progress} (v : HereView) → IsNamed n v.value → Within n d → Within n (posts k v d)
    unfolding posts
    posts-within v is w =
        let x : ℕ = gains_one v.value.asked in
        sends-within (hint_kernel v) (packet.Want (opposite v.value.end) x k v.value.hops) (hint-below n v.value is) (lt-ltb k n below)
        (means-within (step.Receive v.value.end)
        (keeps-within v.value.end (entry.Here (record v { value = record v.value { asked = x }; inward = inward.Posted x })) is w))

    withdraws_receive-within : {d : Progress} (x : ℕ) (v : HereView) → IsNamed n v.value → Within n d → Within n (withdraws_receive k x v d)
    unfolding withdraws_receive
    withdraws_receive-within x v is w =
        sends-within (hint_kernel v) (packet.Unwant (opposite v.value.end) x k v.value.hops) (hint-below n v.value is) (lt-ltb k n below)
        (means-within (step.Cancel v.value.end way.Inward) (keeps-within v.value.end (entry.Here (record v { inward = inward.Withdrawing x })) is w))

    ends_here-within : {d : Progress} (v : Option HereView) → IsNamedView n v → Within n d → Within n (ends_here k v d)
    ends_here-within None is w = w
    ends_here-within (Some v) is w = ends-within k below v is w

    ends_each-within : (xs : List EndId) {d : Progress} → Within n d → Within n (ends_each k xs d)
    unfolding ends_each
    ends_each-within [] w = w
    ends_each-within (x ∷ xs) {d} w = ends_each-within xs (ends_here-within (here (d.table x)) (here-named n (d.table x) (w.table x)) w)

  withdraws_send-within : {d : Progress} (v : HereView) → IsNamed n v.value → Within n d → Within n (withdraws_send v d)
  unfolding withdraws_send
  withdraws_send-within v is w =
      hold_each-within v.holder (enclosed_of v.outward)
      (means-within (step.Cancel v.value.end way.Outward) (keeps-within v.value.end (entry.Here (record v { outward = outward.Idle })) is w))

  encloses-within : {d : Progress} (on : EndId) (xs : List EndId) → Within n d → Within n (encloses on xs d)
  unfolding encloses
  encloses-within on xs w = hold_each-within (holder.EnclosedIn on) xs w

module _ (s : Kernel) (below : s.number < s.kernels) (names : TableNamesBelow s.kernels s.table) (p : Pid) (mine : List EndId) where
  abbrev Gives : Outcome → Type 0
  Gives o = GivesWithin s.kernels s.number o

  closed : {d : Progress} → Within s.kernels d → Gives (closes s d)
  closed w = closes-gives s refl refl w

  granted_on-gives : {d : Progress} (o : Option HereView) (part : HereView → Progress → Progress) → IsNamedView s.kernels o → ((v : HereView) → IsNamed s.kernels v.value → Within s.kernels (part v d)) → Within s.kernels d
      → Gives (granted_on p s o part d)
  granted_on-gives None part is parts w = closed w
  granted_on-gives (Some v) part is parts w = stands-gives p answer.Ok (closed (parts v is))

  cancels_receive-gives : {d : Progress} (v : HereView) (i : Inward) → IsNamed s.kernels v.value → Within s.kernels d → Gives (cancels_receive p s v i d)
  cancels_receive-gives v inward.Idle is w = closed w
  cancels_receive-gives v (inward.Posted x) is w = closes-gives (turns p (Cancelling v.value.end) s) refl refl (withdraws_receive-within s.number below x v is w)
  cancels_receive-gives v (inward.Withdrawing x) is w = closed w
  cancels_receive-gives v inward.Unreported is w = closed w

  cancels-gives : {d : Progress} (y : Way) (o : Option HereView) → IsNamedView s.kernels o → Within s.kernels d → Gives (cancels p s y o d)
  cancels-gives y None is w = closed w
  cancels-gives way.Outward (Some v) is w = stands-gives p answer.Ok (closed (withdraws_send-within v is w))
  cancels-gives way.Inward (Some v) is w = cancels_receive-gives v v.inward is w

  performs-gives : {d : Progress} (c : Call) → Within s.kernels d → Gives (performs p s mine c d)
  unfolding performs
  performs-gives call.Make w =
      stands-gives p (answer.Made (made_end s.number s.made) (opposite (made_end s.number s.made))) (closes-gives (record s { made = s.made + 1 }) refl refl (makes-within s.number below s.made p w))
  performs-gives (call.Destroy on) w =
      granted_on-gives (owned p (s.table on)) _ (owned-named s.kernels p (s.table on) (names on)) (λ v is. ends-within s.number below v is (means-within (step.Destroy on) w)) w
  performs-gives (call.Send on bytes xs) w =
      granted_on-gives (owned p (s.table on)) _ (owned-named s.kernels p (s.table on) (names on)) (λ v is. starts_send-within s.number below bytes xs v is (encloses-within on xs w)) w
  performs-gives (call.Receive on) w =
      granted_on-gives (owned p (s.table on)) _ (owned-named s.kernels p (s.table on) (names on)) (λ v is. posts-within s.number below v is w) w
  performs-gives (call.Cancel on y) w = cancels-gives y (owned p (s.table on)) (owned-named s.kernels p (s.table on) (names on)) w
  performs-gives call.Wait w = waits-gives p (process_of p s).reports (closed (means-within (step.Wait p) w))
  performs-gives (call.Print bytes) w = stands-gives p answer.Ok (closed w)
  performs-gives call.Exit w =
      let g = closed (ends_each-within s.number below mine (means-within (step.Exit p) w)) in
      record { number = g.number; kernels = g.kernels; table = g.table; packets = g.packets }

  decides-gives : {d : Progress} (c : Call) (o : Option Cause) → Within s.kernels d → Gives (decides p s mine c o d)
  decides-gives c None w = performs-gives c w
  decides-gives c (Some cause) w = stands-gives p (answer.Refused cause) (closed (means-within (step.Refuse p c cause) w))

  pub call_step-within : (c : Call) → Gives (call_step s p mine c)
  unfolding call_step
  call_step-within c =
      decides-gives c (refusal p s.table s.made mine (has_report (process_of p s)) c) (begins-within s (next_stamp s.stamp) names)

-- ---- taking a packet

pub take_step-within : (s : Kernel) (from : ℕ) (q : Picture) → s.number < s.kernels → from < s.kernels → TableNamesBelow s.kernels s.table → GivesWithin s.kernels s.number (take_step s from q)
unfolding take_step
take_step-within s from q below sender names = by (is_addressed q.what s.kernels) refl
  where
    d : Progress
    d = begins s (next_stamp (max s.stamp q.stamp))

    start : Within s.kernels d
    start = begins-within s (next_stamp (max s.stamp q.stamp)) names

    by : (b : Bool) → is_addressed q.what s.kernels ≡ b → GivesWithin s.kernels s.number (closes s (if b then row s.number s.made from q.what d else d))
    by true addressed = closes-gives s refl refl (row-within s.number below s.made from q.what sender addressed start)
    by false dropped = closes-gives s refl refl start
