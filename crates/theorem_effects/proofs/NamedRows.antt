-- A packet that names the first kernels alone makes a kernel name no others.
use Rattle.std.proofs.Common.{◌≡◌, ℕ, ◌<◌, true, nat_eq, nat_le, nat_lt, not, ◌&&◌, if◌then◌else◌, List, map, Option, Some, None, refl, ap, subst, ◌∙◌, lt-ltb, ltb-true}
use Rattle.std.proofs.lemmas.Bool.{and_parts}
use Rattle.std.specs.List.{AllByRecursion, list_all}
use Rattle.charlotte_packets.specs.Packets.{is_addressed, names_kernels_below}
use Rattle.charlotte_calls.specs.declared.names.EndId.{EndId}
use Rattle.charlotte_packets.specs.declared.picture.MovingPicture.{MovingPicture}
use Rattle.charlotte_packets.specs.declared.picture.PictureWhat.{PictureWhat}
use Rattle.charlotte_packets.specs.declared.picture.PictureWhat.TheVariants as packet
use Rattle.end_table.specs.Entries.{ended_entry, learned, left_entry, left_value, settled}
use Rattle.end_table.specs.declared.entry.Entry.{Entry}
use Rattle.end_table.specs.declared.entry.Entry.TheVariants as entry
use Rattle.end_table.specs.declared.entry.HereView.{HereView}
use Rattle.end_table.specs.declared.entry.Inward.{Inward}
use Rattle.end_table.specs.declared.entry.Inward.TheVariants as inward
use Rattle.end_table.specs.declared.entry.Outward.{Outward}
use Rattle.end_table.specs.declared.entry.Outward.TheVariants as outward
use Rattle.kernel_effects.proofs.Uses.{all-append}
use Rattle.kernel_effects.specs.Actions.{arrival_packets, forget_packets, gone_packets, held_entry, learn_effect, left_of, match_effect, match_waiting_effect, matched_view, notice_effect, noticed_view}
use Rattle.kernel_effects.specs.Effect.{Effect, brings, nothing, stays, turns}
use Rattle.kernel_effects.specs.Rows.{asked_view, back_effect, erase_effect, forget_effect, frees_effect, gone_effect, goneseen_effect, known_effect, moved_effect, parcel_effect, returned_view}
use Rattle.kernel_effects.specs.Rows.{returns_effect, returns_first_effect, row_effect, taken_effect, unwant_effect, unwanted_effect, unwanted_here_effect, view_news, voids_effect, want_effect, wants_effect}
use Rattle.kernel_sound.proofs.Parcels.{asks-here, awaits-here}
use Rattle.kernel_step.specs.Actions.{enclosed_of, hint_kernel, values_leaving}
use Rattle.kernel_step.specs.Rows.{arriving, asks, awaits, passing}
use Rattle.theorem_meaning.specs.Invariant.{NamesBelow}
use Rattle.theorem_effects.specs.Named.{NamesWithin}
use Rattle.theorem_effects.proofs.NamedParts.{IsNamed, IsWithin, arrival-within, brings-names, cleared-named, either-names, ended_entry-names, forgets-within, gone-within, held_entry-names, hint-below}
use Rattle.theorem_effects.proofs.NamedParts.{learned-named, left-named, left_entry-names, left_of-names, leaving-named, named-values, news-within, puts-names, stays-names, turns-names, values-named}
use Rattle.theorem_effects.proofs.Values.{arriving-each, each-weaker, left-each, packets-each, passing-each}

module _ (n k made from : ℕ) (t : EndId → Entry) (below : k < n) (sender : from < n) (names : (e : EndId) → NamesBelow n (t e)) where
  nothing-names : NamesWithin n nothing
  nothing-names = record { entries = stays-names n; sent = tt }

  -- ---- actions

  pub match-names : (v : HereView) (m : ℕ) (bytes : List ℕ) (xs : List EndId) → IsNamed n v.value → NamesWithin n (match_effect k t v m bytes xs)
  match-names v m bytes xs is =
      let leaving = named-values n (values_leaving k t xs) (leaving-named n k t xs below names) in
      record {
        entries =
            puts-names n v.value.end (entry.Here (matched_view v m)) (turns xs (left_of (hint_kernel v)) stays) is
            (turns-names n xs (left_of (hint_kernel v)) stays (λ y y_is. left_of-names n (hint_kernel v) y (hint-below n v.value is) y_is) (stays-names n));
        sent = ((hint-below n v.value is, ap (λ b. b && list_all (names_kernels_below n) (values_leaving k t xs)) (lt-ltb k n below) ∙ leaving), tt);
      }

  match_waiting-names : (v : HereView) (o : Outward) → IsNamed n v.value → NamesWithin n (match_waiting_effect k t v o)
  match_waiting-names v outward.Idle is = record { entries = puts-names n v.value.end (entry.Here v) stays is (stays-names n); sent = tt }
  match_waiting-names v (outward.Waiting m bytes xs) is = match-names v m bytes xs is
  match_waiting-names v (outward.Matched m) is = record { entries = puts-names n v.value.end (entry.Here v) stays is (stays-names n); sent = tt }
  match_waiting-names v outward.Unreported is = record { entries = puts-names n v.value.end (entry.Here v) stays is (stays-names n); sent = tt }

  notice-names : (v : HereView) → IsNamed n v.value → NamesWithin n (notice_effect k v)
  notice-names v is =
      record {
        entries =
            puts-names n v.value.end (entry.Here (noticed_view v)) (turns (enclosed_of v.outward) (held_entry v.holder) stays) (cleared-named n v.value is)
            (turns-names n (enclosed_of v.outward) (held_entry v.holder) stays (held_entry-names n v.holder) (stays-names n));
        sent = forgets-within n k v.value is;
      }

  -- a mark is erased
  erase-names : (m : MovingPicture) → IsNamed n m → NamesWithin n (erase_effect k m)
  erase-names m is = record { entries = puts-names n m.end entry.Nothing stays tt (stays-names n); sent = forgets-within n k m is }

  -- ---- packets with the place of an end

  module _ (at hops : ℕ) (there : at < n) where
    news-sent : (v : HereView) (i : Inward) → IsNamed n v.value → AllByRecursion (IsWithin n) (view_news k at hops v i)
    news-sent v i is = news-within n k below v.value hops (learned at hops v.value) i (learned-named n at hops v.value there is)

    learn-names : (v : HereView) → IsNamed n v.value → NamesWithin n (learn_effect k at hops v)
    learn-names v is = record { entries = puts-names n v.value.end _ stays (learned-named n at hops v.value there is) (stays-names n); sent = news-sent v v.inward is }

    -- an end that served the receive only learns, and a dead one does nothing
    unserved-names : (w : ℕ) (v : HereView) (f : Effect) → IsNamed n v.value → NamesWithin n f → NamesWithin n (if v.value.dead then nothing else if nat_lt v.value.served w then f else learn_effect k at hops v)
    unserved-names w v f is effect =
        either-names n v.value.dead nothing (if nat_lt v.value.served w then f else learn_effect k at hops v) nothing-names
        (either-names n (nat_lt v.value.served w) f (learn_effect k at hops v) effect (learn-names v is))

    want-names : (to : EndId) (w : ℕ) (y : Entry) → NamesBelow n y → NamesWithin n (want_effect k t to w at hops y)
    want-names to w entry.Nothing is = nothing-names
    want-names to w (entry.Here v) is = unserved-names w v (wants_effect k t w at hops v) is wanted
      where
        asked : NamesWithin n (match_waiting_effect k t (asked_view w at hops v) v.outward)
        asked = match_waiting-names (asked_view w at hops v) v.outward (learned-named n at hops v.value there is)

        wanted : NamesWithin n (wants_effect k t w at hops v)
        wanted = record { entries = asked.entries; sent = all-append (IsWithin n) _ (view_news k at hops v v.inward) asked.sent (news-sent v v.inward is) }
    want-names to w (entry.Left on h) is = record { entries = stays-names n; sent = ((is, lt-ltb at n there), tt) }
    want-names to w (entry.Destroyed m) is = nothing-names

    unwant-names : (to : EndId) (w : ℕ) (y : Entry) → NamesBelow n y → NamesWithin n (unwant_effect k to w at hops y)
    unwant-names to w entry.Nothing is = nothing-names
    unwant-names to w (entry.Here v) is =
        unserved-names w v (voids_effect k w at hops v) is
        (record { entries = puts-names n v.value.end _ stays (learned-named n at hops v.value there is) (stays-names n); sent = ((there, lt-ltb k n below), news-sent v v.inward is) })
    unwant-names to w (entry.Left on h) is = record { entries = stays-names n; sent = ((is, lt-ltb at n there), tt) }
    unwant-names to w (entry.Destroyed m) is = nothing-names

    unwanted_here-names : (w : ℕ) (v : HereView) (i : Inward) → IsNamed n v.value → NamesWithin n (unwanted_here_effect k w at hops v i)
    unwanted_here-names w v inward.Idle is = nothing-names
    unwanted_here-names w v (inward.Posted x) is = nothing-names
    unwanted_here-names w v (inward.Withdrawing x) is =
        either-names n (nat_eq x w) (frees_effect k at hops v) nothing
        (record { entries = puts-names n v.value.end _ stays (learned-named n at hops v.value there is) (stays-names n); sent = news-sent v inward.Idle is }) nothing-names
    unwanted_here-names w v inward.Unreported is = nothing-names

    unwanted-names : (w : ℕ) (y : Entry) → NamesBelow n y → NamesWithin n (unwanted_effect k w at hops y)
    unwanted-names w entry.Nothing is = nothing-names
    unwanted-names w (entry.Here v) is = unwanted_here-names w v v.inward is
    unwanted-names w (entry.Left on h) is = nothing-names
    unwanted-names w (entry.Destroyed m) is = nothing-names

    parcel-names : (to : EndId) (m : ℕ) (bytes : List ℕ) (ms : List MovingPicture) (o : Option HereView) → AllByRecursion (IsNamed n) ms → ((v : HereView) → o ≡ Some v → IsNamed n v.value) → NamesWithin n (parcel_effect k made t to m at hops bytes ms o)
    parcel-names to m bytes ms None are is =
        let passed = passing-each (IsNamed n) k made t ms are in
        record {
          entries = brings-names n (passing k made t ms) (left_entry at) stays (each-weaker (IsNamed n) (λ m. NamesBelow n (left_entry at m)) (λ m m_is. left_entry-names n at m there) (passing k made t ms) passed) (stays-names n);
          sent = ((there, named-values n (map (left_value k) (passing k made t ms)) (left-each (IsNamed n) k (λ m m_is. left-named n k m below m_is) (passing k made t ms) passed)), tt);
        }
    parcel-names to m bytes ms (Some v) are is =
        let came = arriving k made v.holder t ms in
        let named = arriving-each (IsNamed n) k made v.holder t ms are in
        record {
          entries =
              puts-names n v.value.end _ (brings came (λ m. entry.Here (settled v.holder m)) stays) (learned-named n at hops v.value there (is v refl))
              (brings-names n came (λ m. entry.Here (settled v.holder m)) stays (each-weaker (IsNamed n) (IsNamed n) (λ m m_is. m_is) came named) (stays-names n));
          sent = ((there, lt-ltb k n below), all-append (IsWithin n) _ (view_news k at hops v inward.Unreported) (packets-each (IsNamed n) (IsWithin n) (arrival_packets k) (arrival-within n k below) came named) (news-sent v inward.Unreported (is v refl)));
        }

    taken-names : (m : ℕ) (o : Option HereView) → ((v : HereView) → o ≡ Some v → IsNamed n v.value) → NamesWithin n (taken_effect k m at hops o)
    taken-names m None is = nothing-names
    taken-names m (Some v) is = record { entries = puts-names n v.value.end _ stays (learned-named n at hops v.value there (is v refl)) (stays-names n); sent = news-sent v v.inward (is v refl) }

    moved-names : (to : EndId) (y : Entry) → NamesBelow n y → NamesWithin n (moved_effect k to at hops y)
    moved-names to entry.Nothing is = nothing-names
    moved-names to (entry.Here v) is =
        either-names n v.value.dead nothing _ nothing-names
        (record { entries = (learn-names v is).entries; sent = all-append (IsWithin n) (view_news k at hops v v.inward) _ (news-sent v v.inward is) ((there, refl), tt) })
    moved-names to (entry.Left on h) is = record { entries = stays-names n; sent = ((is, lt-ltb at n there), tt) }
    moved-names to (entry.Destroyed m) is = record { entries = puts-names n to _ stays (learned-named n at hops m there is) (stays-names n); sent = ((there, lt-ltb k n below), tt) }

  gone-names : (to : EndId) (at : ℕ) (y : Entry) → at < n → NamesBelow n y → NamesWithin n (gone_effect k to at y)
  gone-names to at entry.Nothing there is = nothing-names
  gone-names to at (entry.Here v) there is =
      either-names n v.value.dead _ _ (record { entries = stays-names n; sent = ((there, refl), tt) })
      (record { entries = (notice-names v is).entries; sent = all-append (IsWithin n) (forget_packets k v.value) _ (forgets-within n k v.value is) ((there, refl), tt) })
  gone-names to at (entry.Left on h) there is = record { entries = stays-names n; sent = ((is, lt-ltb at n there), tt) }
  gone-names to at (entry.Destroyed m) there is = record { entries = (erase-names m is).entries; sent = ((there, refl), forgets-within n k m is) }

  -- ---- packets without one

  back-names : (to : EndId) (m : ℕ) (ms : List MovingPicture) (o : Option HereView) → AllByRecursion (IsNamed n) ms → ((v : HereView) → o ≡ Some v → IsNamed n v.value) → NamesWithin n (back_effect k made t from to m ms o)
  back-names to m ms None are is =
      let passed = passing-each (IsNamed n) k made t ms are in
      record {
        entries = brings-names n (passing k made t ms) ended_entry stays (each-weaker (IsNamed n) (λ m. NamesBelow n (ended_entry m)) (λ m m_is. ended_entry-names n m m_is) (passing k made t ms) passed) (stays-names n);
        sent = packets-each (IsNamed n) (IsWithin n) (gone_packets k) (gone-within n k below) (passing k made t ms) passed;
      }
  back-names to m ms (Some v) are is =
      let came = arriving k made v.holder t ms in
      let named = arriving-each (IsNamed n) k made v.holder t ms are in
      let here = brings-names n came (λ m. entry.Here (settled v.holder m)) stays (each-weaker (IsNamed n) (IsNamed n) (λ m m_is. m_is) came named) (stays-names n) in
      let told = packets-each (IsNamed n) (IsWithin n) (arrival_packets k) (arrival-within n k below) came named in
      either-names n v.value.dead (returns_effect k to m came v) (returns_first_effect k from to m came v)
      (record { entries = puts-names n v.value.end (entry.Here (returned_view v)) (brings came (λ m. entry.Here (settled v.holder m)) stays) (is v refl) here; sent = told })
      (record {
        entries = puts-names n v.value.end (entry.Here (noticed_view (returned_view v))) (brings came (λ m. entry.Here (settled v.holder m)) stays) (cleared-named n v.value (is v refl)) here;
        sent = all-append (IsWithin n) (forget_packets k v.value) _ (forgets-within n k v.value (is v refl)) ((sender, refl), told);
      })

  known-names : (hops : ℕ) (y : Entry) → NamesBelow n y → NamesWithin n (known_effect k hops y)
  known-names hops entry.Nothing is = nothing-names
  known-names hops (entry.Here v) is =
      either-names n (not v.value.dead && nat_eq v.value.hops hops) _ nothing
      (record { entries = puts-names n v.value.end _ stays (cleared-named n v.value is) (stays-names n); sent = forgets-within n k v.value is }) nothing-names
  known-names hops (entry.Left on h) is = nothing-names
  known-names hops (entry.Destroyed m) is = nothing-names

  forget-names : (to : EndId) (hops : ℕ) (y : Entry) → NamesWithin n (forget_effect to hops y)
  forget-names to hops entry.Nothing = nothing-names
  forget-names to hops (entry.Here v) = nothing-names
  forget-names to hops (entry.Left on h) = either-names n (nat_le h hops) _ nothing (record { entries = puts-names n to entry.Nothing stays tt (stays-names n); sent = tt }) nothing-names
  forget-names to hops (entry.Destroyed m) = nothing-names

  goneseen-names : (y : Entry) → NamesBelow n y → NamesWithin n (goneseen_effect k y)
  goneseen-names entry.Nothing is = nothing-names
  goneseen-names (entry.Here v) is = nothing-names
  goneseen-names (entry.Left on h) is = nothing-names
  goneseen-names (entry.Destroyed m) is = erase-names m is

  -- ---- any packet

  pub row-names : (what : PictureWhat) → is_addressed what n ≡ true → NamesWithin n (row_effect k made from t what)
  row-names (packet.Want to w at hops) is = want-names at hops (ltb-true at n is) to w (t to) (names to)
  row-names (packet.Unwant to w at hops) is = unwant-names at hops (ltb-true at n is) to w (t to) (names to)
  row-names (packet.Unwanted to w at hops) is = unwanted-names at hops (ltb-true at n is) w (t to) (names to)
  row-names (packet.Parcel to m w at hops bytes ms) is =
      let parts = and_parts _ _ is in
      parcel-names at hops (ltb-true at n parts.0) to m bytes ms (asks w (t to)) (values-named n ms parts.1) (λ v there. subst (NamesBelow n) (asks-here w (t to) v there).0 (names to))
  row-names (packet.Taken to m at hops) is = taken-names at hops (ltb-true at n is) m (awaits m (t to)) (λ v there. subst (NamesBelow n) (awaits-here m (t to) v there).0 (names to))
  row-names (packet.Back to m ms) is = back-names to m ms (awaits m (t to)) (values-named n ms is) (λ v there. subst (NamesBelow n) (awaits-here m (t to) v there).0 (names to))
  row-names (packet.Gone to at) is = gone-names to at (t to) (ltb-true at n is) (names to)
  row-names (packet.Moved to at hops) is = moved-names at hops (ltb-true at n is) to (t to) (names to)
  row-names (packet.Known to hops) is = known-names hops (t to) (names to)
  row-names (packet.Forget to hops) is = forget-names to hops (t to)
  row-names (packet.GoneSeen to) is = goneseen-names (t to) (names to)
