-- A packet that comes from one of the first n kernels and names no other makes kernel k keep to them.
use Rattle.std.proofs.Common.{◌≡◌, ℕ, ◌<◌, Bool, true, false, nat_eq, nat_le, nat_lt, not, ◌&&◌, if◌then◌else◌, List, [], ◌∷◌, map, Option, Some, None, refl, lt-ltb, ltb-true}
use Rattle.std.proofs.lemmas.Bool.{and_parts}
use Rattle.std.specs.List.{AllByRecursion}
use Rattle.charlotte_calls.specs.Names.{opposite}
use Rattle.charlotte_packets.specs.Packets.{is_addressed}
use Rattle.charlotte_calls.specs.declared.calls.Answer.TheVariants as answer
use Rattle.charlotte_calls.specs.declared.calls.Cause.TheVariants as cause
use Rattle.charlotte_calls.specs.declared.calls.ServiceStep.TheVariants as step
use Rattle.charlotte_calls.specs.declared.names.EndId.{EndId}
use Rattle.charlotte_calls.specs.declared.names.Outcome.TheVariants as outcome
use Rattle.charlotte_packets.specs.declared.picture.MovingPicture.{MovingPicture}
use Rattle.charlotte_packets.specs.declared.picture.PictureWhat.{PictureWhat}
use Rattle.charlotte_packets.specs.declared.picture.PictureWhat.TheVariants as packet
use Rattle.end_table.specs.Entries.{left_value, is_news, learned}
use Rattle.end_table.specs.declared.entry.Entry.{Entry}
use Rattle.end_table.specs.declared.entry.Entry.TheVariants as entry
use Rattle.end_table.specs.declared.entry.HereView.{HereView}
use Rattle.end_table.specs.declared.entry.Holder.{Holder}
use Rattle.end_table.specs.declared.entry.Holder.TheVariants as holder
use Rattle.end_table.specs.declared.entry.Inward.{Inward}
use Rattle.end_table.specs.declared.entry.Inward.TheVariants as inward
use Rattle.end_table.specs.declared.entry.Outward.TheVariants as outward
use Rattle.kernel_step.specs.Actions.{send_report, receive_report, answers, is_withdrawing, learned_view}
use Rattle.kernel_step.specs.Progress.{Progress}
use Rattle.kernel_step.specs.Rows.{wants, want_here, want_row, voids, unwant_here, unwant_row, frees, unwanted_here, unwanted_row, passing, arriving, ends_in, takes, receives}
use Rattle.kernel_step.specs.Rows.{pass_each, sends_back, is_asked, asks, parcel_row, completes, is_matched, awaits, taken_row, gives_back, notices_first, end_arrivals, means_back}
use Rattle.kernel_step.specs.Rows.{is_here, back_row, erases, gone_here, gone_row, moved_here, mark_learns, moved_mark, moved_row, known_here, known_row, forget_row, goneseen_row, row}
use Rattle.kernel_named.specs.Named.{NamesBelow}
use Rattle.kernel_named.proofs.Actions.{IsNamedView, Within, answers-within, either-within, ends_idle-within, forgets-within, keeps-within, learns-within, leaves-within}
use Rattle.kernel_named.proofs.Actions.{match_waiting-within, means-within, notices-within, reports-within, resends_on_news-within, sends-within, settle_each-within, tell_arrivals-within}
use Rattle.kernel_named.proofs.Values.{IsNamed, arriving-named, cleared-named, learned-named, left-values, passing-named, values-named}

asks-named : (n : ℕ) (x : ℕ) (y : Entry) → NamesBelow n y → IsNamedView n (asks x y)
asks-named n x entry.Nothing is = tt
asks-named n x (entry.Here v) is = by (is_asked x v.inward)
  where
    by : (b : Bool) → IsNamedView n (if b then Some v else None)
    by true = is
    by false = tt
asks-named n x (entry.Left to hops) is = tt
asks-named n x (entry.Destroyed m) is = tt

awaits-named : (n : ℕ) (x : ℕ) (y : Entry) → NamesBelow n y → IsNamedView n (awaits x y)
awaits-named n x entry.Nothing is = tt
awaits-named n x (entry.Here v) is = by (is_matched x v.outward)
  where
    by : (b : Bool) → IsNamedView n (if b then Some v else None)
    by true = is
    by false = tt
awaits-named n x (entry.Left to hops) is = tt
awaits-named n x (entry.Destroyed m) is = tt

module _ {n : ℕ} (k : ℕ) (below : k < n) where
  -- ---- packets with the place of an end

  module _ (at hops : ℕ) (there : at < n) where
    news : (v : HereView) → IsNamed n v.value → IsNamed n (learned at hops v.value)
    news v is = learned-named n at hops v.value there is

    wants-within : {d : Progress} (x : ℕ) (v : HereView) → IsNamed n v.value → Within n d → Within n (wants k x at hops v d)
    unfolding wants
    wants-within x v is w =
        let informed : HereView = learned_view v at hops in
        resends_on_news-within k below v.value hops informed.value v.inward (news v is)
        (match_waiting-within k below (record informed { value = record informed.value { want = x } }) v.outward (news v is) w)

    want_here-within : {d : Progress} (x : ℕ) (v : HereView) → IsNamed n v.value → Within n d → Within n (want_here k x at hops v d)
    unfolding want_here
    want_here-within x v is w = either-within v.value.dead w (either-within (nat_lt v.value.served x) (wants-within x v is w) (learns-within k below at hops v there is w))

    want_row-within : {d : Progress} (to : EndId) (x : ℕ) (y : Entry) → NamesBelow n y → Within n d → Within n (want_row k to x at hops y d)
    want_row-within to x entry.Nothing is w = w
    want_row-within to x (entry.Here v) is w = want_here-within x v is w
    want_row-within to x (entry.Left on h) is w = sends-within on (packet.Want to x at hops) is (lt-ltb at n there) w
    want_row-within to x (entry.Destroyed m) is w = w

    voids-within : {d : Progress} (x : ℕ) (v : HereView) → IsNamed n v.value → Within n d → Within n (voids k x at hops v d)
    unfolding voids
    voids-within x v is w =
        let informed : HereView = learned_view v at hops in
        resends_on_news-within k below v.value hops informed.value v.inward (news v is)
        (sends-within at (packet.Unwanted (opposite v.value.end) x k v.value.hops) there (lt-ltb k n below)
        (means-within (step.Withdraw (opposite v.value.end))
        (keeps-within v.value.end (entry.Here (record informed { value = record informed.value { served = x; want = 0 } })) (news v is) w)))

    unwant_here-within : {d : Progress} (x : ℕ) (v : HereView) → IsNamed n v.value → Within n d → Within n (unwant_here k x at hops v d)
    unfolding unwant_here
    unwant_here-within x v is w = either-within v.value.dead w (either-within (nat_lt v.value.served x) (voids-within x v is w) (learns-within k below at hops v there is w))

    unwant_row-within : {d : Progress} (to : EndId) (x : ℕ) (y : Entry) → NamesBelow n y → Within n d → Within n (unwant_row k to x at hops y d)
    unwant_row-within to x entry.Nothing is w = w
    unwant_row-within to x (entry.Here v) is w = unwant_here-within x v is w
    unwant_row-within to x (entry.Left on h) is w = sends-within on (packet.Unwant to x at hops) is (lt-ltb at n there) w
    unwant_row-within to x (entry.Destroyed m) is w = w

    frees-within : {d : Progress} (v : HereView) → IsNamed n v.value → Within n d → Within n (frees k at hops v d)
    unfolding frees
    frees-within v is w =
        resends_on_news-within k below v.value hops (learned_view v at hops).value inward.Idle (news v is)
        (answers-within v.holder answer.Ok (means-within (step.Free v.value.end)
        (keeps-within v.value.end (entry.Here (record (learned_view v at hops) { inward = inward.Idle })) (news v is) w)))

    unwanted_here-within : {d : Progress} (x : ℕ) (v : HereView) (i : Inward) → IsNamed n v.value → Within n d → Within n (unwanted_here k x at hops v i d)
    unwanted_here-within x v inward.Idle is w = w
    unwanted_here-within x v (inward.Posted y) is w = w
    unwanted_here-within x v (inward.Withdrawing y) is w = either-within (nat_eq y x) (frees-within v is w) w
    unwanted_here-within x v inward.Unreported is w = w

    unwanted_row-within : {d : Progress} (x : ℕ) (y : Entry) → NamesBelow n y → Within n d → Within n (unwanted_row k x at hops y d)
    unwanted_row-within x entry.Nothing is w = w
    unwanted_row-within x (entry.Here v) is w = unwanted_here-within x v v.inward is w
    unwanted_row-within x (entry.Left on h) is w = w
    unwanted_row-within x (entry.Destroyed m) is w = w

    takes-within : {d : Progress} (e : EndId) (m : ℕ) (late : Bool) (h : Holder) → Within n d → Within n (takes e m late h d)
    takes-within e m late (holder.Owner p) w = means-within (step.Take (opposite e) m p late) w
    takes-within e m late (holder.EnclosedIn on) w = w

    receives-within : {d : Progress} (m : ℕ) (bytes : List ℕ) (xs : List EndId) (v : HereView) → IsNamed n v.value → Within n d → Within n (receives k m at hops bytes xs v d)
    unfolding receives
    receives-within {d} m bytes xs v is w =
        let e : EndId = v.value.end in
        let late : Bool = is_withdrawing v.inward in
        let reported = reports-within v.holder (receive_report e bytes xs)
        (takes-within e m late v.holder (keeps-within e (entry.Here (record (learned_view v at hops) { inward = inward.Unreported })) (news v is) w)) in
        sends-within at (packet.Taken (opposite e) m k v.value.hops) there (lt-ltb k n below)
        (either-within late (answers-within v.holder (answer.Refused cause.Late) reported) reported)

    pass_each-within : (ms : List MovingPicture) {d : Progress} → Within n d → Within n (pass_each at ms d)
    unfolding pass_each
    pass_each-within [] w = w
    pass_each-within (m ∷ ms) w = pass_each-within ms (leaves-within at m there w)

    sends_back-within : {d : Progress} (to : EndId) (m : ℕ) (ms : List MovingPicture) → AllByRecursion (IsNamed n) ms → Within n d → Within n (sends_back k to m at ms d)
    unfolding sends_back
    sends_back-within to m ms are w = sends-within at (packet.Back (opposite to) m (map (left_value k) ms)) there (left-values n k below ms are) (pass_each-within ms w)

    parcel_row-within : {d : Progress} (made : ℕ) (to : EndId) (m : ℕ) (bytes : List ℕ) (ms : List MovingPicture) (o : Option HereView) → AllByRecursion (IsNamed n) ms → IsNamedView n o → Within n d
        → Within n (parcel_row k made to m at hops bytes ms o d)
    parcel_row-within {d} made to m bytes ms None are is w = sends_back-within to m (passing k made d.table ms) (passing-named n k made d.table ms are) w
    parcel_row-within {d} made to m bytes ms (Some v) are is w =
        let came : List MovingPicture = arriving k made v.holder d.table ms in
        let named : AllByRecursion (IsNamed n) came = arriving-named n k made v.holder d.table ms are in
        resends_on_news-within k below v.value hops (learned at hops v.value) inward.Unreported (news v is)
        (tell_arrivals-within k below came named (receives-within m bytes (ends_in came) v is (settle_each-within v.holder came named w)))

    completes-within : {d : Progress} (m : ℕ) (v : HereView) → IsNamed n v.value → Within n d → Within n (completes k m at hops v d)
    unfolding completes
    completes-within m v is w =
        let e : EndId = v.value.end in
        let done : HereView = record (learned_view v at hops) { outward = outward.Unreported } in
        resends_on_news-within k below v.value hops done.value v.inward (news v is)
        (reports-within v.holder (send_report e outcome.Done []) (means-within (step.Complete e m) (keeps-within e (entry.Here done) (news v is) w)))

    taken_row-within : {d : Progress} (m : ℕ) (o : Option HereView) → IsNamedView n o → Within n d → Within n (taken_row k m at hops o d)
    taken_row-within m None is w = w
    taken_row-within m (Some v) is w = completes-within m v is w

    moved_here-within : {d : Progress} (v : HereView) → IsNamed n v.value → Within n d → Within n (moved_here k at hops v d)
    unfolding moved_here
    moved_here-within v is w = either-within v.value.dead w (sends-within at (packet.Known (opposite v.value.end) hops) there refl (learns-within k below at hops v there is w))

    mark_learns-within : {d : Progress} (to : EndId) (m : MovingPicture) → IsNamed n m → Within n d → Within n (mark_learns to at hops m d)
    mark_learns-within to m is w = either-within (is_news m hops) (keeps-within to (entry.Destroyed (learned at hops m)) (learned-named n at hops m there is) w) w

    moved_mark-within : {d : Progress} (to : EndId) (m : MovingPicture) → IsNamed n m → Within n d → Within n (moved_mark k to at hops m d)
    unfolding moved_mark
    moved_mark-within to m is w = sends-within at (packet.Gone (opposite to) k) there (lt-ltb k n below) (mark_learns-within to m is w)

    moved_row-within : {d : Progress} (to : EndId) (y : Entry) → NamesBelow n y → Within n d → Within n (moved_row k to at hops y d)
    moved_row-within to entry.Nothing is w = w
    moved_row-within to (entry.Here v) is w = moved_here-within v is w
    moved_row-within to (entry.Left on h) is w = sends-within on (packet.Moved to at hops) is (lt-ltb at n there) w
    moved_row-within to (entry.Destroyed m) is w = moved_mark-within to m is w

  -- ---- packets without one

  notices_first-within : {d : Progress} (from : ℕ) (v : HereView) → from < n → IsNamed n v.value → Within n d → Within n (notices_first k from v d)
  unfolding notices_first
  notices_first-within from v sender is w = either-within v.value.dead w (sends-within from (packet.GoneSeen (opposite v.value.end)) sender refl (notices-within k v is w))

  gives_back-within : {d : Progress} (came : List MovingPicture) (v : HereView) → AllByRecursion (IsNamed n) came → IsNamed n v.value → Within n d → Within n (gives_back came v d)
  unfolding gives_back
  gives_back-within came v are is w =
      settle_each-within v.holder came are
      (reports-within v.holder (send_report v.value.end outcome.Destroyed (ends_in came)) (keeps-within v.value.end (entry.Here (record v { outward = outward.Unreported })) is w))

  end_arrivals-within : (ms : List MovingPicture) {d : Progress} → AllByRecursion (IsNamed n) ms → Within n d → Within n (end_arrivals k ms d)
  unfolding end_arrivals
  end_arrivals-within [] are w = w
  end_arrivals-within (m ∷ ms) are w = end_arrivals-within ms are.1 (ends_idle-within k below m are.0 w)

  means_back-within : {d : Progress} (to : EndId) (m : ℕ) (b : Bool) (ms : List MovingPicture) → Within n d → Within n (means_back to m b ms d)
  means_back-within to m true [] w = w
  means_back-within to m true (x ∷ ms) w = means-within (step.Back to m false) w
  means_back-within to m false ms w = means-within (step.Back to m false) w

  back_row-within : {d : Progress} (made from : ℕ) (to : EndId) (m : ℕ) (ms : List MovingPicture) (o : Option HereView) → from < n → AllByRecursion (IsNamed n) ms → IsNamedView n o → Within n d
      → Within n (back_row k made from to m ms o d)
  back_row-within {d} made from to m ms None sender are is w =
      end_arrivals-within (passing k made d.table ms) (passing-named n k made d.table ms are) (means_back-within to m (is_here (d.table to)) (passing k made d.table ms) w)
  back_row-within {d} made from to m ms (Some v) sender are is w =
      let came : List MovingPicture = arriving k made v.holder d.table ms in
      let named : AllByRecursion (IsNamed n) came = arriving-named n k made v.holder d.table ms are in
      tell_arrivals-within k below came named
      (notices_first-within from (record v { outward = outward.Unreported }) sender is
      (gives_back-within came v named is (means-within (step.Back to m (not v.value.dead && is_withdrawing v.inward)) w)))

  erases-within : {d : Progress} (m : MovingPicture) → IsNamed n m → Within n d → Within n (erases k m d)
  unfolding erases
  erases-within m is w = keeps-within m.end entry.Nothing tt (forgets-within k m is w)

  gone_here-within : {d : Progress} (at : ℕ) (v : HereView) → at < n → IsNamed n v.value → Within n d → Within n (gone_here k at v d)
  unfolding gone_here
  gone_here-within at v there is w =
      either-within v.value.dead (sends-within at (packet.GoneSeen (opposite v.value.end)) there refl w)
      (notices_first-within at v there is (means-within (step.Notice v.value.end (is_withdrawing v.inward)) w))

  gone_row-within : {d : Progress} (to : EndId) (at : ℕ) (y : Entry) → at < n → NamesBelow n y → Within n d → Within n (gone_row k to at y d)
  gone_row-within to at entry.Nothing there is w = w
  gone_row-within to at (entry.Here v) there is w = gone_here-within at v there is w
  gone_row-within to at (entry.Left on h) there is w = sends-within on (packet.Gone to at) is (lt-ltb at n there) w
  gone_row-within to at (entry.Destroyed m) there is w = erases-within m is (sends-within at (packet.GoneSeen (opposite to)) there refl w)

  known_here-within : {d : Progress} (hops : ℕ) (v : HereView) → IsNamed n v.value → Within n d → Within n (known_here k hops v d)
  unfolding known_here
  known_here-within hops v is w =
      either-within (not v.value.dead && nat_eq v.value.hops hops)
      (keeps-within v.value.end (entry.Here (record v { value = record v.value { trail = 0 } })) (cleared-named n v.value is) (forgets-within k v.value is w)) w

  known_row-within : {d : Progress} (hops : ℕ) (y : Entry) → NamesBelow n y → Within n d → Within n (known_row k hops y d)
  known_row-within hops entry.Nothing is w = w
  known_row-within hops (entry.Here v) is w = known_here-within hops v is w
  known_row-within hops (entry.Left on h) is w = w
  known_row-within hops (entry.Destroyed m) is w = w

  forget_row-within : {d : Progress} (to : EndId) (hops : ℕ) (y : Entry) → Within n d → Within n (forget_row to hops y d)
  forget_row-within to hops entry.Nothing w = w
  forget_row-within to hops (entry.Here v) w = w
  forget_row-within to hops (entry.Left on h) w = either-within (nat_le h hops) (keeps-within to entry.Nothing tt w) w
  forget_row-within to hops (entry.Destroyed m) w = w

  goneseen_row-within : {d : Progress} (y : Entry) → NamesBelow n y → Within n d → Within n (goneseen_row k y d)
  goneseen_row-within entry.Nothing is w = w
  goneseen_row-within (entry.Here v) is w = w
  goneseen_row-within (entry.Left on h) is w = w
  goneseen_row-within (entry.Destroyed m) is w = erases-within m is w

  -- ---- any packet

  pub row-within : {d : Progress} (made from : ℕ) (what : PictureWhat) → from < n → is_addressed what n ≡ true → Within n d → Within n (row k made from what d)
  row-within {d} made from (packet.Want to x at hops) sender is w = want_row-within at hops (ltb-true at n is) to x (d.table to) (w.table to) w
  row-within {d} made from (packet.Unwant to x at hops) sender is w = unwant_row-within at hops (ltb-true at n is) to x (d.table to) (w.table to) w
  row-within {d} made from (packet.Unwanted to x at hops) sender is w = unwanted_row-within at hops (ltb-true at n is) x (d.table to) (w.table to) w
  row-within {d} made from (packet.Parcel to m x at hops bytes ms) sender is w =
      let parts = and_parts _ _ is in
      parcel_row-within at hops (ltb-true at n parts.0) made to m bytes ms (asks x (d.table to)) (values-named n ms parts.1) (asks-named n x (d.table to) (w.table to)) w
  row-within {d} made from (packet.Taken to m at hops) sender is w = taken_row-within at hops (ltb-true at n is) m (awaits m (d.table to)) (awaits-named n m (d.table to) (w.table to)) w
  row-within {d} made from (packet.Back to m ms) sender is w = back_row-within made from to m ms (awaits m (d.table to)) sender (values-named n ms is) (awaits-named n m (d.table to) (w.table to)) w
  row-within {d} made from (packet.Gone to at) sender is w = gone_row-within to at (d.table to) (ltb-true at n is) (w.table to) w
  row-within {d} made from (packet.Moved to at hops) sender is w = moved_row-within at hops (ltb-true at n is) to (d.table to) (w.table to) w
  row-within {d} made from (packet.Known to hops) sender is w = known_row-within hops (d.table to) (w.table to) w
  row-within {d} made from (packet.Forget to hops) sender is w = forget_row-within to hops (d.table to) w
  row-within {d} made from (packet.GoneSeen to) sender is w = goneseen_row-within (d.table to) (w.table to) w
