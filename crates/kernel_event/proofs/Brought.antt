-- Packets that bring values: their parts, in the order of their rule.
use Rattle.std.proofs.Common.{arith, length-append, ◌≤◌, ◌≡◌, ℕ, ◌+◌, Bool, true, false, not, ◌&&◌, ◌||◌, List, [], ◌∷◌, Option, Some, None, IsSome, true≢false, length, map, refl, sym, ap, subst, ◌∙◌}
use Rattle.std.proofs.lemmas.List.{append-nil, length-map}
use Rattle.std.specs.List.{list_any}
use Rattle.charlotte_calls.specs.declared.calls.ServiceStep.TheVariants as step
use Rattle.charlotte_calls.specs.declared.names.EndId.{EndId}
use Rattle.charlotte_packets.specs.declared.picture.MovingPicture.{MovingPicture}
use Rattle.charlotte_packets.specs.declared.work.Work.{Work}
use Rattle.end_table.proofs.EndEq.{end_eq-same}
use Rattle.end_table.specs.Entries.{learned}
use Rattle.end_table.specs.Place.{end_eq}
use Rattle.end_table.specs.Table.{TableView, entries, IsHere, IfHere}
use Rattle.end_table.specs.declared.entry.Entry.{Entry}
use Rattle.end_table.specs.declared.entry.Entry.TheVariants as entry
use Rattle.end_table.specs.declared.entry.HereView.{HereView}
use Rattle.end_table.specs.declared.entry.Holder.{Holder}
use Rattle.end_table.specs.declared.entry.Inward.TheVariants as inward
use Rattle.end_table.specs.declared.entry.Outward.TheVariants as outward
use Rattle.kernel_event.specs.Places.{ArePlaced}
use Rattle.kernel_step.specs.Enclosed.{IsReady}
use Rattle.kernel_event.specs.Order.{put_behind}
use Rattle.kernel_event.proofs.Away.{AreAway-passing, AreAway-arriving, AreApart-arriving, HavePlaces-placed}
use Rattle.kernel_event.proofs.Prefixed.{Adds, Stays, receives-adds, receives-stays, receives-one, resends_on_news-adds, notices_first-adds, notices_first-stays, settle_each-sends, gives_back-sends, order, order-length}
use Rattle.kernel_sound.proofs.Sends.{tell_arrivals-only, only-same}
use Rattle.kernel_sound.proofs.Parcels.{asks-here, gives_back-table}
use Rattle.kernel_sound.proofs.Values.{settle_each-others}
use Rattle.kernel_step.specs.Actions.{enclosed_of, is_withdrawing, resends_on_news, settle_each, tell_arrivals}
use Rattle.kernel_step.specs.Enclosed.{AreEnclosed}
use Rattle.kernel_step.specs.Progress.{Progress, progress, sent_picture, means}
use Rattle.kernel_step.specs.Rows.{asks, awaits, arriving, passing, ends_in, receives, arrive_row, arrived_row, parcel_row, gives_back, give_back_row, notices_first, back_row}
use Rattle.move_core.specs.Arriving.{AreAway, AreApart}

-- values that have places, and pass or become Here, are away
module _ (t : TableView) (made : ℕ) (ms : List MovingPicture) (placed : ArePlaced t ms) where
  pub passed-away : (passed : List MovingPicture) → passed ≡ passing t.kernel made (entries t) ms → AreAway t passed
  passed-away passed is = subst (AreAway t) (sym is) (AreAway-passing t.kernel made t ms (HavePlaces-placed t.kernel made t ms placed))

  pub came-away : (h : Holder) (came : List MovingPicture) → came ≡ arriving t.kernel made h (entries t) ms → AreAway t came
  came-away h came is = subst (AreAway t) (sym is) (AreAway-arriving t.kernel made h t ms (HavePlaces-placed t.kernel made t ms placed))

pub came-apart : (k made : ℕ) (t : EndId → Entry) (ms : List MovingPicture) (h : Holder) (came : List MovingPicture) → came ≡ arriving k made h t ms → AreApart came
came-apart k made t ms h came is = subst AreApart (sym is) (AreApart-arriving k made h t ms)

-- an end that is here is none of those of values that are away
pub apart-away : (t : TableView) (e : EndId) (ms : List MovingPicture) → IsHere (entries t e) → AreAway t ms → list_any (end_eq e) (ends_in ms) ≡ false
apart-away t e [] here away = refl
apart-away t e (m ∷ ms) here away = by (end_eq e m.end) refl (apart-away t e ms here away.2)
  where
    by : (b : Bool) → end_eq e m.end ≡ b → list_any (end_eq e) (ends_in ms) ≡ false → (b || list_any (end_eq e) (ends_in ms)) ≡ false
    by true same none = absurd (away.1 (subst (λ q. IsHere (entries t q)) (end_eq-same e m.end same) here))
    by false apart none = none

-- ---- a parcel

-- the table after arrivals were told
told-table : (k : ℕ) (ms : List MovingPicture) (d : Progress) → (tell_arrivals k ms d).table ≡ d.table
told-table k ms d = (tell_arrivals-only k ms d (only-same d)).table

-- how many packets a `Work` has, as its pictures
pictures-length : (t : EndId → Entry) (out : Work) → length (progress t out).packets ≡ length out.packets.items
unfolding progress
pictures-length t out = length-map out.packets.items sent_picture

-- no packets, as pictures
no_pictures : (t : EndId → Entry) (out : Work) → out.packets.items ≡ [] → (progress t out).packets ≡ []
unfolding progress
no_pictures t out none = ap (map sent_picture) none

module _ (k : ℕ) (t new : EndId → Entry) (before out : Work) where
  -- an end that is not theirs stays as it was while values become Here
  pub settled-others : (h : Holder) (ms : List MovingPicture) (e : EndId) → progress new out ≡ tell_arrivals k ms (settle_each h ms (progress t before)) → list_any (end_eq e) (ends_in ms) ≡ false → new e ≡ t e
  unfolding progress
  settled-others h ms e after none =
      ap (λ d. d.table e) after ∙ ap (λ u. u e) (told-table k ms (settle_each h ms (progress t before))) ∙ settle_each-others h e ms (progress t before) none

  -- and the end whose message came back is as it is left
  pub given_back-at : (came : List MovingPicture) (v : HereView) → progress new out ≡ tell_arrivals k came (gives_back came v (progress t before)) → list_any (end_eq v.value.end) (ends_in came) ≡ false
      → new v.value.end ≡ entry.Here (record v { outward = outward.Unreported })
  unfolding progress
  given_back-at came v after none =
      ap (λ d. d.table v.value.end) after ∙ ap (λ u. u v.value.end) (told-table k came (gives_back came v (progress t before)))
      ∙ gives_back-table v.value.end v came (progress t before) refl none

-- an end without a message of its own is ready
pub IsReady-empty : (t : EndId → Entry) (e : EndId) (v : HereView) → t e ≡ entry.Here v → enclosed_of v.outward ≡ [] → IsReady t e
IsReady-empty t e v is none =
    record {
      enclosed = subst (λ x. IfHere x (λ u. AreEnclosed t (enclosed_of u.outward))) (sym is) (subst (AreEnclosed t) (sym none) tt);
      apart = subst (λ x. IfHere x (λ u. list_any (end_eq e) (enclosed_of u.outward) ≡ false)) (sym is) (ap (list_any (end_eq e)) none);
    }

-- a word that adds sends no fewer packets than were there
adds-length : (word : Progress → Progress) → Adds word → (d : Progress) → length d.packets ≤ length (word d).packets
adds-length word adds d = omega (arith, lengths)
  where
    bare : Progress
    bare = record d { packets = [] }

    lengths : length (word d).packets ≡ length d.packets + length (word bare).packets
    lengths =
        ap (λ l. length (word (record d { packets = l })).packets) (sym (append-nil d.packets))
        ∙ ap (λ u. length u.packets) (adds d.packets bare) ∙ length-append d.packets (word bare).packets

-- a parcel without values is its message alone
pub parcel-plain : (k made : ℕ) (to : EndId) (n at hops : ℕ) (bytes : List ℕ) (o : Option HereView) (d : Progress) → IsSome o → arrived_row k n at hops bytes [] o d ≡ parcel_row k made to n at hops bytes [] o d
unfolding settle_each tell_arrivals
parcel-plain k made to n at hops bytes None d some = absurd (true≢false (sym some))
parcel-plain k made to n at hops bytes (Some v) d some = refl

-- a parcel that is taken: its parts, before they are put in order
module _ (k n at hops : ℕ) (bytes : List ℕ) (came : List MovingPicture) (xs : List EndId) (v : HereView) (t t1 t2 : EndId → Entry) (out0 out1 out2 : Work) (none : out0.packets.items ≡ [])
    (arrived : progress t1 out1 ≡ tell_arrivals k came (settle_each v.holder came (progress t out0)))
    (took : progress t2 out2 ≡ arrived_row k n at hops bytes xs (Some v) (progress t1 out1)) where
  abbrev settled_first : Progress
  settled_first = settle_each v.holder came (progress t out0)

  abbrev take_message : Progress → Progress
  take_message = receives k n at hops bytes xs v

  abbrev tell_news : Progress → Progress
  tell_news = resends_on_news k v.value hops (learned at hops v.value) inward.Unreported

  tell_news-adds : Adds tell_news
  tell_news-adds = resends_on_news-adds k v.value hops (learned at hops v.value) inward.Unreported

  silent : settled_first.packets ≡ []
  silent = settle_each-sends v.holder came (progress t out0) ∙ no_pictures t out0 none

  -- they are the rule
  pub parcel-taken : (made : ℕ) (to : EndId) (ms : List MovingPicture) (out3 : Work) (m : ℕ) → came ≡ arriving k made v.holder t ms → xs ≡ ends_in came → m ≡ length out1.packets.items
      → progress t2 out3 ≡ put_behind m (m + 1) (progress t2 out2) → progress t2 out3 ≡ parcel_row k made to n at hops bytes ms (Some v) (progress t out0)
  unfolding progress
  parcel-taken made to ms out3 m came_is xs_is count behind =
      behind
      ∙ ap (put_behind m (m + 1)) (took ∙ ap (λ u. tell_news (take_message u)) arrived)
      ∙ ap (λ j. put_behind j (j + 1) (tell_news (take_message (tell_arrivals k came settled_first)))) moves
      ∙ ap (λ j. put_behind (length (tell_arrivals k came settled_first).packets) (length (tell_arrivals k came settled_first).packets + j) (tell_news (take_message (tell_arrivals k came settled_first)))) (sym (receives-one k n at hops bytes xs v settled_first silent))
      ∙ order k came take_message tell_news (receives-adds k n at hops bytes xs v) tell_news-adds (receives-stays k n at hops bytes xs v) settled_first silent
      ∙ ap (λ ys. tell_news (tell_arrivals k came (receives k n at hops bytes ys v settled_first))) xs_is
      ∙ ap (λ l. tell_news (tell_arrivals k l (receives k n at hops bytes (ends_in l) v (settle_each v.holder l (progress t out0))))) came_is
    where
      moves : m ≡ length (tell_arrivals k came settled_first).packets
      moves = count ∙ sym (pictures-length t1 out1) ∙ ap (λ d. length d.packets) arrived

  -- and the packets that go behind are there
  pub parcel-behind : length out1.packets.items + 1 ≤ length out2.packets.items
  unfolding progress
  parcel-behind = omega (arith, more, count, after)
    where
      more : length (take_message (tell_arrivals k came settled_first)).packets ≤ length (tell_news (take_message (tell_arrivals k came settled_first))).packets
      more = adds-length tell_news tell_news-adds (take_message (tell_arrivals k came settled_first))

      count : length (take_message (tell_arrivals k came settled_first)).packets ≡ length out1.packets.items + 1
      count =
          order-length k came take_message (λ d. d) (receives-adds k n at hops bytes xs v) (λ ps d. refl) (receives-stays k n at hops bytes xs v) settled_first silent
          ∙ ap (λ j. length (tell_arrivals k came settled_first).packets + j) (receives-one k n at hops bytes xs v settled_first silent)
          ∙ ap (λ d. length d.packets + 1) (sym arrived) ∙ ap (λ j. j + 1) (pictures-length t1 out1)

      after : length (tell_news (take_message (tell_arrivals k came settled_first))).packets ≡ length out2.packets.items
      after = ap (λ d. length d.packets) (ap (λ u. tell_news (take_message u)) (sym arrived) ∙ sym took) ∙ pictures-length t2 out2

-- The parts of a message that comes back to its matched send are its rule.
pub back-taken : (k made from : ℕ) (to : EndId) (n : ℕ) (ms came : List MovingPicture) (v : HereView) (dead : Bool) (t t2 t3 : EndId → Entry) (out0 out1 out2 out3 out4 : Work) (m sent : ℕ)
    → out0.packets.items ≡ [] → dead ≡ (not v.value.dead && is_withdrawing v.inward) → ((u : EndId → Entry) → progress u out1 ≡ means (step.Back to n dead) (progress u out0))
    → came ≡ arriving k made v.holder t ms → progress t2 out2 ≡ tell_arrivals k came (gives_back came v (progress t out1))
    → progress t3 out3 ≡ notices_first k from (record v { outward = outward.Unreported }) (progress t2 out2) → m ≡ length out2.packets.items → sent ≡ length out3.packets.items
    → progress t3 out4 ≡ put_behind m sent (progress t3 out3) → progress t3 out4 ≡ back_row k made from to n ms (Some v) (progress t out0)
unfolding progress means
back-taken k made from to n ms came v dead t t2 t3 out0 out1 out2 out3 out4 m sent none dead_is meant came_is given noticed count all behind =
    behind
    ∙ ap (put_behind m sent) noticed_is
    ∙ ap (λ j. put_behind j sent (word (tell_arrivals k came back))) moves
    ∙ ap (λ j. put_behind (length (tell_arrivals k came back).packets) j (word (tell_arrivals k came back))) (sent_is ∙ order-length k came word (λ d. d) adds (λ ps d. refl) stays back silent)
    ∙ order k came word (λ d. d) adds (λ ps d. refl) stays back silent
    ∙ ap (λ b. tell_arrivals k came (word (gives_back came v (means (step.Back to n b) (progress t out0))))) dead_is
    ∙ ap (λ l. tell_arrivals k l (word (gives_back l v (means (step.Back to n (not v.value.dead && is_withdrawing v.inward)) (progress t out0))))) came_is
  where
    word : Progress → Progress
    word = notices_first k from (record v { outward = outward.Unreported })

    adds : Adds word
    adds = notices_first-adds k from (record v { outward = outward.Unreported })

    stays : Stays word
    stays = notices_first-stays k from (record v { outward = outward.Unreported })

    back : Progress
    back = gives_back came v (means (step.Back to n dead) (progress t out0))

    silent : back.packets ≡ []
    silent = gives_back-sends came v (means (step.Back to n dead) (progress t out0)) ∙ no_pictures t out0 none

    given_is : progress t2 out2 ≡ tell_arrivals k came back
    given_is = given ∙ ap (λ u. tell_arrivals k came (gives_back came v u)) (meant t)

    noticed_is : progress t3 out3 ≡ word (tell_arrivals k came back)
    noticed_is = noticed ∙ ap word given_is

    moves : m ≡ length (tell_arrivals k came back).packets
    moves = count ∙ sym (pictures-length t2 out2) ∙ ap (λ d. length d.packets) given_is

    sent_is : sent ≡ length (word (tell_arrivals k came back)).packets
    sent_is = all ∙ sym (pictures-length t3 out3) ∙ ap (λ d. length d.packets) noticed_is

pub back-behind : (k from : ℕ) (v : HereView) (t2 t3 : EndId → Entry) (out2 out3 : Work) → progress t3 out3 ≡ notices_first k from v (progress t2 out2) → length out2.packets.items ≤ length out3.packets.items
back-behind k from v t2 t3 out2 out3 noticed =
    omega (arith, adds-length (notices_first k from v) (notices_first-adds k from v) (progress t2 out2), ap (λ d. length d.packets) noticed, pictures-length t2 out2, pictures-length t3 out3)

-- what the parts of a parcel do at the receive that it was sent for
module _ (table t1 t2 : TableView) (made : ℕ) (to : EndId) (n w at hops : ℕ) (bytes : List ℕ) (ms came : List MovingPicture) (xs : List EndId) (out0 out1 out2 : Work) (v : HereView)
    (asked : asks w (entries table to) ≡ Some v) (placed : ArePlaced table ms) (came_is : (h : Holder) → came ≡ arriving table.kernel made h (entries table) ms)
    (arrived : progress (entries t1) out1 ≡ arrive_row table.kernel to n at came (asks w (entries table to)) (progress (entries table) out0)) (kernel : t1.kernel ≡ table.kernel)
    (took : progress (entries t2) out2 ≡ arrived_row t1.kernel n at hops bytes xs (asks w (entries t1 to)) (progress (entries t1) out1)) where
  pub parcel-arrives : progress (entries t1) out1 ≡ tell_arrivals table.kernel came (settle_each v.holder came (progress (entries table) out0))
  parcel-arrives = arrived ∙ ap (λ o. arrive_row table.kernel to n at came o (progress (entries table) out0)) asked

  to_here : IsHere (entries table to)
  to_here = subst IsHere (sym (asks-here w (entries table to) v asked).0) tt

  to_stays : entries t1 to ≡ entries table to
  to_stays = settled-others table.kernel (entries table) (entries t1) out0 out1 v.holder came to parcel-arrives (apart-away table to came to_here (came-away table made ms placed v.holder came (came_is v.holder)))

  pub parcel-takes : progress (entries t2) out2 ≡ arrived_row table.kernel n at hops bytes xs (Some v) (progress (entries t1) out1)
  parcel-takes =
      took ∙ ap (λ k. arrived_row k n at hops bytes xs (asks w (entries t1 to)) (progress (entries t1) out1)) kernel
      ∙ ap (λ o. arrived_row table.kernel n at hops bytes xs o (progress (entries t1) out1)) (ap (asks w) to_stays ∙ asked)

-- what the parts of a message that comes back do at its matched send
module _ (table t2 : TableView) (made : ℕ) (to : EndId) (n : ℕ) (ms came : List MovingPicture) (out1 out2 : Work) (v : HereView)
    (here : entries table v.value.end ≡ entry.Here v) (matched : awaits n (entries table to) ≡ Some v) (placed : ArePlaced table ms)
    (came_is : (h : Holder) → came ≡ arriving table.kernel made h (entries table) ms)
    (given : progress (entries t2) out2 ≡ give_back_row table.kernel came (awaits n (entries table to)) (progress (entries table) out1)) where
  pub back-gives : progress (entries t2) out2 ≡ tell_arrivals table.kernel came (gives_back came v (progress (entries table) out1))
  back-gives = given ∙ ap (λ o. give_back_row table.kernel came o (progress (entries table) out1)) matched

  pub back-at : entries t2 v.value.end ≡ entry.Here (record v { outward = outward.Unreported })
  back-at =
      given_back-at table.kernel (entries table) (entries t2) out1 out2 came v back-gives
      (apart-away table v.value.end came (subst IsHere (sym here) tt) (came-away table made ms placed v.holder came (came_is v.holder)))

  pub back-ready : IsReady (entries t2) v.value.end
  back-ready = IsReady-empty (entries t2) v.value.end (record v { outward = outward.Unreported }) back-at refl
