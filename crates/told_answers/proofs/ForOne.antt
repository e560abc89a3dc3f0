-- All reports and answers of a packet are for one process: the owner of the end that it is addressed to.
use Rattle.std.proofs.Common.{◌≡◌, ℕ, Bool, true, false, not, nat_eq, nat_le, nat_lt, ◌&&◌, List, [], ◌∷◌, ◌++◌, Option, Some, None, refl, sym, ◌∙◌, if◌then◌else◌}
use Rattle.charlotte_calls.specs.declared.calls.Answer.{Answer}
use Rattle.charlotte_calls.specs.declared.calls.Answer.TheVariants as answer
use Rattle.charlotte_calls.specs.declared.calls.Cause.TheVariants as cause
use Rattle.charlotte_calls.specs.declared.calls.Report.{Report}
use Rattle.charlotte_calls.specs.declared.names.EndId.{EndId}
use Rattle.charlotte_calls.specs.declared.names.Outcome.TheVariants as outcome
use Rattle.charlotte_packets.specs.declared.picture.MovingPicture.{MovingPicture}
use Rattle.charlotte_packets.specs.declared.picture.PictureWhat.{PictureWhat}
use Rattle.charlotte_packets.specs.declared.picture.PictureWhat.TheVariants as packet
use Rattle.end_table.specs.declared.entry.Entry.{Entry}
use Rattle.end_table.specs.declared.entry.Entry.TheVariants as entry
use Rattle.end_table.specs.declared.entry.HereView.{HereView}
use Rattle.end_table.specs.declared.entry.Holder.{Holder}
use Rattle.end_table.specs.declared.entry.Holder.TheVariants as holder
use Rattle.end_table.specs.declared.entry.Inward.{Inward}
use Rattle.end_table.specs.declared.entry.Inward.TheVariants as inward
use Rattle.end_table.specs.declared.entry.Outward.{Outward}
use Rattle.end_table.specs.declared.entry.Outward.TheVariants as outward
use Rattle.kernel_effects.proofs.Actions.{for_holder-none}
use Rattle.kernel_effects.specs.Actions.{cancel_notice, learn_effect, match_waiting_effect, receive_notice, send_notice}
use Rattle.kernel_effects.specs.Effect.{Effect, changed, for_holder, nothing, puts, stays}
use Rattle.kernel_effects.specs.Rows.{back_effect, forget_effect, frees_effect, gone_effect, goneseen_effect, known_effect, moved_effect, parcel_effect, returns_effect}
use Rattle.kernel_effects.specs.Rows.{returns_first_effect, row_effect, taken_effect, unwant_effect, unwanted_effect, unwanted_here_effect, voids_effect, want_effect, wants_effect}
use Rattle.kernel_outcomes.specs.Closing.{AtMostOne}
use Rattle.kernel_step.specs.Actions.{is_withdrawing, receive_report, send_report}
use Rattle.kernel_step.specs.Rows.{arriving, asks, awaits, ends_in}

-- all reports of an effect are for one holder, and so is an answer, if there is one
pub record IsForOne (f : Effect) : Type 0 where
  pub holder : Holder
  pub given : List Answer
  pub told : List Report
  pub one : AtMostOne given
  pub answers : f.answers ≡ for_holder holder given
  pub reports : f.reports ≡ for_holder holder told

-- an effect without reports and answers
for_none : (e : EndId) (f : Effect) → f.answers ≡ [] → f.reports ≡ [] → IsForOne f
for_none e f answers reports = record { holder = holder.EnclosedIn e; given = []; told = []; one = tt; answers = answers; reports = reports }

-- one of two
for_either : (b : Bool) (f g : Effect) → IsForOne f → IsForOne g → IsForOne (if b then f else g)
for_either true f g first second = first
for_either false f g first second = second

-- an effect with reports alone
for_reports : (h : Holder) (f : Effect) (rs : List Report) → f.answers ≡ [] → f.reports ≡ for_holder h rs → IsForOne f
for_reports h f rs answers reports = record { holder = h; given = []; told = rs; one = tt; answers = answers ∙ sym (for_holder-none h); reports = reports }

-- a Cancel is answered once
one-cancel : (i : Inward) → AtMostOne (cancel_notice i)
one-cancel inward.Idle = tt
one-cancel (inward.Posted w) = tt
one-cancel (inward.Withdrawing w) = tt
one-cancel inward.Unreported = tt

one-late : (b : Bool) → AtMostOne (if b then answer.Refused cause.Late ∷ [] else [])
one-late true = tt
one-late false = tt

module _ (k made from : ℕ) (t : EndId → Entry) where
  matched-for : (e : EndId) (v : HereView) (o : Outward) → ((match_waiting_effect k t v o).answers ≡ []) × ((match_waiting_effect k t v o).reports ≡ [])
  matched-for e v outward.Idle = (refl, refl)
  matched-for e v (outward.Waiting n bytes xs) = (refl, refl)
  matched-for e v (outward.Matched n) = (refl, refl)
  matched-for e v outward.Unreported = (refl, refl)

  unserved-for : (e : EndId) (w at hops : ℕ) (v : HereView) (effect : Effect) → IsForOne effect → IsForOne (if v.value.dead then nothing else if nat_lt v.value.served w then effect else learn_effect k at hops v)
  unserved-for e w at hops v effect is =
      for_either v.value.dead nothing (if nat_lt v.value.served w then effect else learn_effect k at hops v) (for_none e nothing refl refl)
      (for_either (nat_lt v.value.served w) effect (learn_effect k at hops v) is (for_none e (learn_effect k at hops v) refl refl))

  want-for : (to : EndId) (w at hops : ℕ) (x : Entry) → IsForOne (want_effect k t to w at hops x)
  want-for to w at hops entry.Nothing = for_none to nothing refl refl
  want-for to w at hops (entry.Here v) = let quiet = matched-for to _ v.outward in unserved-for to w at hops v (wants_effect k t w at hops v) (for_none to (wants_effect k t w at hops v) quiet.0 quiet.1)
  want-for to w at hops (entry.Left there h) = for_none to _ refl refl
  want-for to w at hops (entry.Destroyed m) = for_none to nothing refl refl

  unwant-for : (to : EndId) (w at hops : ℕ) (x : Entry) → IsForOne (unwant_effect k to w at hops x)
  unwant-for to w at hops entry.Nothing = for_none to nothing refl refl
  unwant-for to w at hops (entry.Here v) = unserved-for to w at hops v (voids_effect k w at hops v) (for_none to (voids_effect k w at hops v) refl refl)
  unwant-for to w at hops (entry.Left there h) = for_none to _ refl refl
  unwant-for to w at hops (entry.Destroyed m) = for_none to nothing refl refl

  freed-for : (to : EndId) (at hops : ℕ) (v : HereView) → IsForOne (frees_effect k at hops v)
  freed-for to at hops v = record { holder = v.holder; given = answer.Ok ∷ []; told = []; one = tt; answers = refl; reports = sym (for_holder-none v.holder) }

  unwanted_here-for : (to : EndId) (w at hops : ℕ) (v : HereView) (i : Inward) → IsForOne (unwanted_here_effect k w at hops v i)
  unwanted_here-for to w at hops v inward.Idle = for_none to nothing refl refl
  unwanted_here-for to w at hops v (inward.Posted x) = for_none to nothing refl refl
  unwanted_here-for to w at hops v (inward.Withdrawing x) = for_either (nat_eq x w) (frees_effect k at hops v) nothing (freed-for to at hops v) (for_none to nothing refl refl)
  unwanted_here-for to w at hops v inward.Unreported = for_none to nothing refl refl

  unwanted-for : (to : EndId) (w at hops : ℕ) (x : Entry) → IsForOne (unwanted_effect k w at hops x)
  unwanted-for to w at hops entry.Nothing = for_none to nothing refl refl
  unwanted-for to w at hops (entry.Here v) = unwanted_here-for to w at hops v v.inward
  unwanted-for to w at hops (entry.Left there h) = for_none to nothing refl refl
  unwanted-for to w at hops (entry.Destroyed m) = for_none to nothing refl refl

  parcel-for : (to : EndId) (n at hops : ℕ) (bytes : List ℕ) (ms : List MovingPicture) (o : Option HereView) → IsForOne (parcel_effect k made t to n at hops bytes ms o)
  parcel-for to n at hops bytes ms None = for_none to _ refl refl
  parcel-for to n at hops bytes ms (Some v) =
      record {
        holder = v.holder;
        given = if is_withdrawing v.inward then answer.Refused cause.Late ∷ [] else [];
        told = receive_report v.value.end bytes (ends_in (arriving k made v.holder t ms)) ∷ [];
        one = one-late (is_withdrawing v.inward);
        answers = refl;
        reports = refl;
      }

  taken-for : (to : EndId) (n at hops : ℕ) (o : Option HereView) → IsForOne (taken_effect k n at hops o)
  taken-for to n at hops None = for_none to nothing refl refl
  taken-for to n at hops (Some v) = for_reports v.holder _ (send_report v.value.end outcome.Done [] ∷ []) refl refl

  back-for : (to : EndId) (n : ℕ) (ms : List MovingPicture) (o : Option HereView) → IsForOne (back_effect k made t from to n ms o)
  back-for to n ms None = for_none to _ refl refl
  back-for to n ms (Some v) =
      let came = arriving k made v.holder t ms in
      let report = send_report v.value.end outcome.Destroyed (ends_in came) in
      for_either v.value.dead (returns_effect k to n came v) (returns_first_effect k from to n came v)
      (for_reports v.holder (returns_effect k to n came v) (report ∷ []) refl refl)
      (record {
        holder = v.holder;
        given = cancel_notice v.inward;
        told = report ∷ receive_notice v.value.end v.inward;
        one = one-cancel v.inward;
        answers = refl;
        reports = refl;
      })

  gone-for : (to : EndId) (at : ℕ) (x : Entry) → IsForOne (gone_effect k to at x)
  gone-for to at entry.Nothing = for_none to nothing refl refl
  gone-for to at (entry.Here v) =
      for_either v.value.dead _ _ (for_none to _ refl refl)
      (record {
        holder = v.holder;
        given = cancel_notice v.inward;
        told = send_notice v.value.end v.outward ++ receive_notice v.value.end v.inward;
        one = one-cancel v.inward;
        answers = refl;
        reports = refl;
      })
  gone-for to at (entry.Left there h) = for_none to _ refl refl
  gone-for to at (entry.Destroyed m) = for_none to _ refl refl

  moved-for : (to : EndId) (at hops : ℕ) (x : Entry) → IsForOne (moved_effect k to at hops x)
  moved-for to at hops entry.Nothing = for_none to nothing refl refl
  moved-for to at hops (entry.Here v) = for_either v.value.dead nothing _ (for_none to nothing refl refl) (for_none to _ refl refl)
  moved-for to at hops (entry.Left there h) = for_none to _ refl refl
  moved-for to at hops (entry.Destroyed m) = for_none to _ refl refl

  known-for : (to : EndId) (hops : ℕ) (x : Entry) → IsForOne (known_effect k hops x)
  known-for to hops entry.Nothing = for_none to nothing refl refl
  known-for to hops (entry.Here v) = for_either (not v.value.dead && nat_eq v.value.hops hops) _ nothing (for_none to _ refl refl) (for_none to nothing refl refl)
  known-for to hops (entry.Left there h) = for_none to nothing refl refl
  known-for to hops (entry.Destroyed m) = for_none to nothing refl refl

  forget-for : (to : EndId) (hops : ℕ) (x : Entry) → IsForOne (forget_effect to hops x)
  forget-for to hops entry.Nothing = for_none to nothing refl refl
  forget-for to hops (entry.Here v) = for_none to nothing refl refl
  forget-for to hops (entry.Left there h) = for_either (nat_le h hops) (changed (puts to entry.Nothing stays)) nothing (for_none to _ refl refl) (for_none to nothing refl refl)
  forget-for to hops (entry.Destroyed m) = for_none to nothing refl refl

  goneseen-for : (to : EndId) (x : Entry) → IsForOne (goneseen_effect k x)
  goneseen-for to entry.Nothing = for_none to nothing refl refl
  goneseen-for to (entry.Here v) = for_none to nothing refl refl
  goneseen-for to (entry.Left there h) = for_none to nothing refl refl
  goneseen-for to (entry.Destroyed m) = for_none to _ refl refl

  pub row-for_one : (what : PictureWhat) → IsForOne (row_effect k made from t what)
  row-for_one (packet.Want to w at hops) = want-for to w at hops (t to)
  row-for_one (packet.Unwant to w at hops) = unwant-for to w at hops (t to)
  row-for_one (packet.Unwanted to w at hops) = unwanted-for to w at hops (t to)
  row-for_one (packet.Parcel to n w at hops bytes ms) = parcel-for to n at hops bytes ms (asks w (t to))
  row-for_one (packet.Taken to n at hops) = taken-for to n at hops (awaits n (t to))
  row-for_one (packet.Back to n ms) = back-for to n ms (awaits n (t to))
  row-for_one (packet.Gone to at) = gone-for to at (t to)
  row-for_one (packet.Moved to at hops) = moved-for to at hops (t to)
  row-for_one (packet.Known to hops) = known-for to hops (t to)
  row-for_one (packet.Forget to hops) = forget-for to hops (t to)
  row-for_one (packet.GoneSeen to) = goneseen-for to (t to)
