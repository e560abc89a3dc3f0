-- The steps of a packet that is taken are no process's call.
use Rattle.std.proofs.Common.{ℕ, Bool, true, false, nat_eq, nat_le, nat_lt, ◌&&◌, not, List, [], ◌∷◌, ◌++◌, Option, Some, None, sym, subst, max, if◌then◌else◌}
use Rattle.std.specs.List.{AllByRecursion}
use Rattle.charlotte_calls.specs.declared.calls.Answer.{Answer}
use Rattle.charlotte_calls.specs.declared.calls.Report.{Report}
use Rattle.charlotte_calls.specs.declared.calls.ServiceStep.{ServiceStep}
use Rattle.charlotte_calls.specs.declared.calls.ServiceStep.TheVariants as step
use Rattle.charlotte_calls.specs.declared.names.EndId.{EndId}
use Rattle.charlotte_calls.specs.declared.names.Pid.{Pid}
use Rattle.charlotte_packets.specs.Packets.{is_addressed}
use Rattle.charlotte_packets.specs.declared.picture.MovingPicture.{MovingPicture}
use Rattle.charlotte_packets.specs.declared.picture.Picture.{Picture}
use Rattle.charlotte_packets.specs.declared.picture.PictureWhat.{PictureWhat}
use Rattle.charlotte_packets.specs.declared.picture.PictureWhat.TheVariants as packet
use Rattle.end_table.specs.declared.entry.Entry.{Entry}
use Rattle.end_table.specs.declared.entry.Entry.TheVariants as entry
use Rattle.end_table.specs.declared.entry.HereView.{HereView}
use Rattle.end_table.specs.declared.entry.Holder.{Holder}
use Rattle.end_table.specs.declared.entry.Holder.TheVariants as holder
use Rattle.end_table.specs.declared.entry.Inward.{Inward}
use Rattle.end_table.specs.declared.entry.Inward.TheVariants as inward
use Rattle.end_table.specs.declared.entry.Outward.{Outward}
use Rattle.end_table.specs.declared.entry.Outward.TheVariants as outward
use Rattle.kernel_effects.specs.Actions.{learn_effect, match_waiting_effect}
use Rattle.kernel_effects.specs.Effect.{Effect, nothing}
use Rattle.kernel_effects.specs.Rows.{back_effect, back_steps, forget_effect, gone_effect, goneseen_effect, known_effect, moved_effect, parcel_effect, row_effect, take_steps, taken_effect, unserved, unwant_effect, unwanted_effect, unwanted_here_effect, want_effect}
use Rattle.kernel_sound.specs.Sound.{IsSound}
use Rattle.kernel_step.specs.Kernel.{Kernel, Outcome, answers_wait, begins, closes, is_waiting, join_answers, join_reports, joins, next_stamp, process_of, stands, take_step, waits}
use Rattle.kernel_step.specs.Progress.{Progress}
use Rattle.kernel_step.specs.Rows.{asks, awaits, is_here, passing, row}
use Rattle.kernel_step.specs.declared.phase.Phase.{Phase}
use Rattle.kernel_step.specs.declared.phase.Phase.TheVariants.{Running}
use Rattle.told_answers.proofs.Alike.{row-alike}
use Rattle.entry_steps.specs.Entries.{IsUncalled}

abbrev pub AreUncalled : List ServiceStep → Type 0
AreUncalled steps = AllByRecursion IsUncalled steps

uncalled-append : (xs ys : List ServiceStep) → AreUncalled xs → AreUncalled ys → AreUncalled (xs ++ ys)
uncalled-append [] ys first second = second
uncalled-append (x ∷ xs) ys first second = (first.0, uncalled-append xs ys first.1 second)

-- ---- what each packet does

either-uncalled : (b : Bool) (f g : Effect) → AreUncalled f.steps → AreUncalled g.steps → AreUncalled (if b then f else g).steps
either-uncalled true f g first second = first
either-uncalled false f g first second = second

module _ (k made from : ℕ) (t : EndId → Entry) where
  match-uncalled : (v : HereView) (o : Outward) → AreUncalled (match_waiting_effect k t v o).steps
  match-uncalled v (outward.Waiting n bytes xs) = (tt, tt)
  match-uncalled v o = tt

  unserved-uncalled : (w at hops : ℕ) (v : HereView) (f : Effect) → AreUncalled f.steps → AreUncalled (unserved k w at hops v f).steps
  unserved-uncalled w at hops v f are =
      either-uncalled v.value.dead nothing (if nat_lt v.value.served w then f else learn_effect k at hops v) tt (either-uncalled (nat_lt v.value.served w) f (learn_effect k at hops v) are tt)

  want-uncalled : (to : EndId) (w at hops : ℕ) (x : Entry) → AreUncalled (want_effect k t to w at hops x).steps
  want-uncalled to w at hops (entry.Here v) = unserved-uncalled w at hops v _ (match-uncalled _ v.outward)
  want-uncalled to w at hops x = tt

  unwant-uncalled : (to : EndId) (w at hops : ℕ) (x : Entry) → AreUncalled (unwant_effect k to w at hops x).steps
  unwant-uncalled to w at hops (entry.Here v) = unserved-uncalled w at hops v _ (tt, tt)
  unwant-uncalled to w at hops x = tt

  unwanted_here-uncalled : (w at hops : ℕ) (v : HereView) (i : Inward) → AreUncalled (unwanted_here_effect k w at hops v i).steps
  unwanted_here-uncalled w at hops v (inward.Withdrawing x) = either-uncalled (nat_eq x w) _ _ (tt, tt) tt
  unwanted_here-uncalled w at hops v i = tt

  unwanted-uncalled : (w at hops : ℕ) (x : Entry) → AreUncalled (unwanted_effect k w at hops x).steps
  unwanted-uncalled w at hops (entry.Here v) = unwanted_here-uncalled w at hops v v.inward
  unwanted-uncalled w at hops x = tt

  take-uncalled : (e : EndId) (n : ℕ) (late : Bool) (h : Holder) → AreUncalled (take_steps e n late h)
  take-uncalled e n late (holder.Owner p) = (tt, tt)
  take-uncalled e n late (holder.EnclosedIn on) = tt

  parcel-uncalled : (to : EndId) (n at hops : ℕ) (bytes : List ℕ) (ms : List MovingPicture) (o : Option HereView) → AreUncalled (parcel_effect k made t to n at hops bytes ms o).steps
  parcel-uncalled to n at hops bytes ms None = tt
  parcel-uncalled to n at hops bytes ms (Some v) = take-uncalled v.value.end n _ v.holder

  taken-uncalled : (n at hops : ℕ) (o : Option HereView) → AreUncalled (taken_effect k n at hops o).steps
  taken-uncalled n at hops None = tt
  taken-uncalled n at hops (Some v) = (tt, tt)

  unmet-uncalled : (to : EndId) (n : ℕ) (b : Bool) (ms : List MovingPicture) → AreUncalled (back_steps to n b ms)
  unmet-uncalled to n true [] = tt
  unmet-uncalled to n true (m ∷ ms) = (tt, tt)
  unmet-uncalled to n false ms = (tt, tt)

  back-uncalled : (to : EndId) (n : ℕ) (ms : List MovingPicture) (o : Option HereView) → AreUncalled (back_effect k made t from to n ms o).steps
  back-uncalled to n ms None = unmet-uncalled to n (is_here (t to)) (passing k made t ms)
  back-uncalled to n ms (Some v) = either-uncalled v.value.dead _ _ (tt, tt) (tt, tt)

  gone-uncalled : (to : EndId) (at : ℕ) (x : Entry) → AreUncalled (gone_effect k to at x).steps
  gone-uncalled to at (entry.Here v) = either-uncalled v.value.dead _ _ tt (tt, tt)
  gone-uncalled to at x = tt

  moved-uncalled : (to : EndId) (at hops : ℕ) (x : Entry) → AreUncalled (moved_effect k to at hops x).steps
  moved-uncalled to at hops (entry.Here v) = either-uncalled v.value.dead _ _ tt tt
  moved-uncalled to at hops x = tt

  known-uncalled : (hops : ℕ) (x : Entry) → AreUncalled (known_effect k hops x).steps
  known-uncalled hops (entry.Here v) = either-uncalled (not v.value.dead && nat_eq v.value.hops hops) _ _ tt tt
  known-uncalled hops x = tt

  forget-uncalled : (to : EndId) (hops : ℕ) (x : Entry) → AreUncalled (forget_effect to hops x).steps
  forget-uncalled to hops (entry.Left there h) = either-uncalled (nat_le h hops) _ _ tt tt
  forget-uncalled to hops x = tt

  goneseen-uncalled : (x : Entry) → AreUncalled (goneseen_effect k x).steps
  goneseen-uncalled (entry.Destroyed m) = tt
  goneseen-uncalled x = tt

  row-uncalled : (what : PictureWhat) → AreUncalled (row_effect k made from t what).steps
  row-uncalled (packet.Want to w at hops) = want-uncalled to w at hops (t to)
  row-uncalled (packet.Unwant to w at hops) = unwant-uncalled to w at hops (t to)
  row-uncalled (packet.Unwanted to w at hops) = unwanted-uncalled w at hops (t to)
  row-uncalled (packet.Parcel to n w at hops bytes ms) = parcel-uncalled to n at hops bytes ms (asks w (t to))
  row-uncalled (packet.Taken to n at hops) = taken-uncalled n at hops (awaits n (t to))
  row-uncalled (packet.Back to n ms) = back-uncalled to n ms (awaits n (t to))
  row-uncalled (packet.Gone to at) = gone-uncalled to at (t to)
  row-uncalled (packet.Moved to at hops) = moved-uncalled to at hops (t to)
  row-uncalled (packet.Known to hops) = known-uncalled hops (t to)
  row-uncalled (packet.Forget to hops) = forget-uncalled to hops (t to)
  row-uncalled (packet.GoneSeen to) = goneseen-uncalled (t to)

-- ---- the event closes

answers-uncalled : (given : List (Pid × Answer)) (o : Outcome) → AreUncalled o.steps → AreUncalled (join_answers given o).steps
unfolding join_answers
answers-uncalled [] o are = are
answers-uncalled (a ∷ given) o are = answers-uncalled given (stands a.0 a.1 o) are

waits-uncalled : (p : Pid) (rs : List Report) (o : Outcome) → AreUncalled o.steps → AreUncalled (waits p rs o).steps
unfolding answers_wait
waits-uncalled p [] o are = are
waits-uncalled p (r ∷ rs) o are = uncalled-append o.steps (step.Report p r ∷ []) are (tt, tt)

joins-uncalled : (p : Pid) (r : Report) (phase : Phase) (o : Outcome) → AreUncalled o.steps → AreUncalled (joins p r phase o).steps
joins-uncalled p r phase o are = by (is_waiting phase)
  where
    by : (b : Bool) → AreUncalled (if b then waits p ((process_of p o.kernel).reports ++ r ∷ []) o else joins p r Running o).steps
    by true = waits-uncalled p ((process_of p o.kernel).reports ++ r ∷ []) o are
    by false = are

reports-uncalled : (rs : List (Pid × Report)) (o : Outcome) → AreUncalled o.steps → AreUncalled (join_reports rs o).steps
unfolding join_reports
reports-uncalled [] o are = are
reports-uncalled (r ∷ rs) o are =
    let phase : Phase = (process_of r.0 o.kernel).phase in
    reports-uncalled rs (joins r.0 r.1 phase o) (joins-uncalled r.0 r.1 phase o are)

closes-uncalled : (x : Kernel) (d : Progress) → AreUncalled d.steps → AreUncalled (closes x d).steps
unfolding closes
closes-uncalled x d are = reports-uncalled d.reports _ (answers-uncalled d.answers _ are)

module _ (n : ℕ) (x : Kernel) (sound : IsSound x.number x.made n x.table) (from : ℕ) (q : Picture) where
  abbrev begun : Progress
  begun = begins x (next_stamp (max x.stamp q.stamp))

  abbrev d : Progress
  d = row x.number x.made from q.what begun

  pub take_step-uncalled : AreUncalled (take_step x from q).steps
  unfolding take_step
  take_step-uncalled = by (is_addressed q.what x.kernels)
    where
      by : (b : Bool) → AreUncalled (closes x (if b then d else begun)).steps
      by true = closes-uncalled x d (subst AreUncalled (sym (row-alike x.number x.made n begun sound from q.what).steps) (row-uncalled x.number x.made from x.table q.what))
      by false = closes-uncalled x begun tt
