-- The rules of a kernel's table of packets that mean nothing to the service.
use Rattle.std.proofs.Common.{◌≡◌, ◌⊎◌, inl, inr, ℕ, ◌<◌, ◌^◌, Bool, true, false, nat_eq, nat_lt, nat_le, ◌&&◌, not, if◌then◌else◌, List, [], ◌∷◌, ◌++◌, Some, refl, sym, ap, subst, ◌∙◌, arith, true≢false, ltb-true, ltb-false, lt-ltb, pow_pos}
use Rattle.std.proofs.lemmas.Bool.{and_parts}
use Rattle.std.proofs.lemmas.Nat.Bits.{bit_at_above}
use Rattle.std.specs.Int.{bit_at}
use Rattle.charlotte_calls.specs.Names.{opposite}
use Rattle.charlotte_packets.specs.Packets.{names_kernels_below}
use Rattle.charlotte_calls.specs.declared.names.EndId.{EndId}
use Rattle.charlotte_packets.specs.declared.picture.MovingPicture.{MovingPicture}
use Rattle.charlotte_packets.specs.declared.picture.PictureWhat.{PictureWhat}
use Rattle.charlotte_packets.specs.declared.picture.PictureWhat.TheVariants as packet
use Rattle.end_table.proofs.EndEq.{end_eq-same}
use Rattle.end_table.specs.Entries.{is_news, learned}
use Rattle.end_table.specs.Place.{end_eq}
use Rattle.end_table.specs.Table.{IsOfEnd}
use Rattle.end_table.specs.declared.entry.Entry.{Entry}
use Rattle.end_table.specs.declared.entry.Entry.TheVariants as entry
use Rattle.end_table.specs.declared.entry.HereView.{HereView}
use Rattle.theorem_effects.proofs.Uses.{forget-each}
use Rattle.charlotte_calls.specs.declared.calls.ServiceStep.TheVariants as step
use Rattle.theorem_effects.specs.Actions.{forget_packets, learn_effect, notice_effect}
use Rattle.theorem_effects.specs.Effect.{Effect, nothing, puts, sent, stays}
use Rattle.theorem_effects.specs.Rows.{forget_effect, gone_effect, goneseen_effect, known_effect, moved_effect, row_effect, unwant_effect, view_news, voids_effect, want_effect, wants_effect}
use Rattle.kernel_step.specs.Actions.{is_withdrawing}
use Rattle.kernel_sound.specs.Sound.{addressee}
use Rattle.service_lawful.specs.Consistent.{is_open}
use Rattle.service_step.specs.Ends.{is_living, is_made}
use Rattle.service_step.specs.declared.state.End.{End}
use Rattle.service_step.specs.declared.state.Place.{Place}
use Rattle.service_step.specs.declared.state.Place.TheVariants as place
use Rattle.theorem_effects.specs.Sums.{AllSent}
use Rattle.theorem_effects.proofs.TheoremMeaningEnds.{opposite-twice}
use Rattle.theorem_effects.specs.Fields.{IsNews, value_of}
use Rattle.theorem_effects.specs.Invariant.{NamesBelow}
use Rattle.theorem_take_silent.specs.Quiet.{IsAlike, IsQuietly, IsSentWell, tells_place}
use Rattle.theorem_take_silent.specs.Silent.{IsRepeated, IsSilentAt, IsStill}
use Rattle.theorem_take_silent.proofs.Alike.{IsQuietly-same, some-same}

-- what is true of the table of kernel k
pub record IsTable (n : ℕ) (t : EndId → End) (k : ℕ) (y : EndId → Entry) : Type 0 where
  pub below : k < n
  pub own : (e : EndId) → IsOfEnd e (y e)
  pub names : (e : EndId) → NamesBelow n (y e)
  pub marks : (e : EndId) (m : MovingPicture) → y e ≡ entry.Destroyed m → (t e).place ≡ place.Destroyed
  pub both : (e : EndId) → is_made (t e).place ≡ true → is_made (t (opposite e)).place ≡ true

closed : (x : End) → x.place ≡ place.Destroyed → is_open x ≡ false
closed x is = ap (λ (p : Place). is_living p && (if x.noticed then false else true)) is

pub alike-learned : (at hops : ℕ) (m : MovingPicture) → IsAlike m (learned at hops m)
alike-learned at hops m = by (is_news m hops)
  where
    by : (b : Bool) → IsAlike m (if b then record m { hint = (at, hops) } else m)
    by true = refl
    by false = refl

module _ (n : ℕ) (t : EndId → End) (k : ℕ) (y : EndId → Entry) (is : IsTable n t k y) where
  -- ---- the kinds of effects

  module _ (q : PictureWhat) where
    abbrev pub IsSilent : Effect → Type 0
    IsSilent f = IsStill n t y f × IsRepeated t y q f

    sends : (ps : List (ℕ × PictureWhat)) → AllSent (IsSentWell n t) ps → AllSent (λ to what. (tells_place what ≡ false) ⊎ (q ≡ what)) ps → IsSilent (sent ps)
    sends ps well repeated = (
      record { entry = λ e. IsQuietly-same (y e); names = is.names; sent = well; answers = refl; reports = refl; steps = refl },
      record { hints = λ e m l had has. inl (ap (λ (z : MovingPicture). z.hint) (some-same l m (sym has ∙ had))); sent = repeated },
    )

    drops : IsSilent nothing
    drops = sends [] tt tt

    passes : IsSentWell n t k q → (there : ℕ) → there < n → IsSilent (sent ((there, q) ∷ []))
    passes well there below = sends ((there, q) ∷ []) (record { quiet = well.quiet; below = below; addressed = well.addressed; made = well.made; gone = well.gone }, tt) (inr refl, tt)

    -- an end gets an entry
    pub put-each : (P : EndId → Entry → Type 0) (to : EndId) (x : Entry) → P to x → ((e : EndId) → P e (y e)) → (e : EndId) → P e (puts to x stays e (y e))
    put-each P to x here others e = by (end_eq to e) refl
      where
        by : (b : Bool) → end_eq to e ≡ b → P e (if b then x else y e)
        by true same = subst (λ z. P z x) (end_eq-same to e same) here
        by false same = others e

    put-silent : (to : EndId) (x : Entry) (ps : List (ℕ × PictureWhat)) → IsQuietly (y to) x → NamesBelow n x
        → ((m l : MovingPicture) → value_of (y to) ≡ Some m → value_of x ≡ Some l → (l.hint ≡ m.hint) ⊎ (IsNews to l.hint.0 l.hint.1 q × (is_open (t to) ≡ false)))
        → AllSent (IsSentWell n t) ps → AllSent (λ to what. (tells_place what ≡ false) ⊎ (q ≡ what)) ps → IsSilent (record (sent ps) { entry = puts to x stays })
    put-silent to x ps quietly names hint well repeated = (
      record {
        entry = put-each (λ e z. IsQuietly (y e) z) to x quietly (λ e. IsQuietly-same (y e));
        names = put-each (λ e z. NamesBelow n z) to x names is.names;
        sent = well;
        answers = refl;
        reports = refl;
        steps = refl;
      },
      record {
        hints = put-each
            (λ e z. (m l : MovingPicture) → value_of (y e) ≡ Some m → value_of z ≡ Some l → (l.hint ≡ m.hint) ⊎ (IsNews e l.hint.0 l.hint.1 q × (is_open (t e) ≡ false))) to x hint
            (λ e m l had has. inl (ap (λ (z : MovingPicture). z.hint) (some-same l m (sym has ∙ had))));
        sent = repeated;
      },
    )

    forgets-repeat : (m : MovingPicture) → AllSent (λ to what. (tells_place what ≡ false) ⊎ (q ≡ what)) (forget_packets k m)
    forgets-repeat m = forget-each (λ s. (tells_place s.1 ≡ false) ⊎ (q ≡ s.1)) k m (λ j told other. inl refl)

    chosen : (b : Bool) (f g : Effect) → b ≡ true → IsSilent f → IsSilent (if b then f else g)
    chosen true f g is silent = silent
    chosen false f g is silent = absurd (true≢false (sym is))

  -- ---- packets that are sent

  forgets-well : (m : MovingPicture) → names_kernels_below n m ≡ true → is_made (t m.end).place ≡ true → AllSent (IsSentWell n t) (forget_packets k m)
  forgets-well m names made =
      forget-each (λ s. IsSentWell n t s.0 s.1) k m (λ j told other. record { quiet = refl; below = in_trail j told (nat_lt j n) refl; addressed = refl; made = made; gone = tt })
    where
      in_trail : (j : ℕ) → bit_at m.trail j ≡ 1 → (b : Bool) → nat_lt j n ≡ b → j < n
      in_trail j told true below = ltb-true j n below
      in_trail j told false above =
          let trail : m.trail < 2 ^ n = ltb-true m.trail (2 ^ n) (and_parts (nat_lt m.hint.0 n) (nat_lt m.trail (2 ^ n)) names).1 in
          let none : bit_at m.trail j ≡ 0 = bit_at_above m.trail n j trail (ltb-false j n above) in
          absurd (omega (arith, told, none))

  mark-end : (to : EndId) (m : MovingPicture) → y to ≡ entry.Destroyed m → m.end ≡ to
  mark-end to m at = subst (IsOfEnd to) at (is.own to)

  pub view-end : (to : EndId) (v : HereView) → y to ≡ entry.Here v → v.value.end ≡ to
  view-end to v at = subst (IsOfEnd to) at (is.own to)

  left-below : (to : EndId) (there h : ℕ) → y to ≡ entry.Left there h → there < n
  left-below to there h at = subst (NamesBelow n) at (is.names to)

  mark-forgets : (to : EndId) (m : MovingPicture) → y to ≡ entry.Destroyed m → is_made (t to).place ≡ true → AllSent (IsSentWell n t) (forget_packets k m)
  mark-forgets to m at made = forgets-well m (subst (NamesBelow n) at (is.names to)) (subst (λ z. is_made (t z).place ≡ true) (sym (mark-end to m at)) made)

  -- ---- rules

  -- a mark is erased
  erases : (q : PictureWhat) (to : EndId) (m : MovingPicture) (ps : List (ℕ × PictureWhat)) → y to ≡ entry.Destroyed m → AllSent (IsSentWell n t) ps → AllSent (λ to what. (tells_place what ≡ false) ⊎ (q ≡ what)) ps
      → IsSilent q (record (sent ps) { entry = puts m.end entry.Nothing stays })
  erases q to m ps at well repeated =
      subst (λ z. IsSilent q (record (sent ps) { entry = puts z entry.Nothing stays })) (sym (mark-end to m at))
      (put-silent q to entry.Nothing ps (subst (λ z. IsQuietly z entry.Nothing) (sym at) tt) tt (λ m l had has. absurd cc) well repeated)

  goneseen-silent : (to : EndId) (x : Entry) → y to ≡ x → IsSentWell n t k (packet.GoneSeen to) → IsSilent (packet.GoneSeen to) (goneseen_effect k x)
  goneseen-silent to entry.Nothing at well = drops (packet.GoneSeen to)
  goneseen-silent to (entry.Here v) at well = drops (packet.GoneSeen to)
  goneseen-silent to (entry.Left there h) at well = drops (packet.GoneSeen to)
  goneseen-silent to (entry.Destroyed m) at well = erases (packet.GoneSeen to) to m (forget_packets k m) at (mark-forgets to m at well.made) (forgets-repeat (packet.GoneSeen to) m)

  forget-silent : (to : EndId) (hops : ℕ) (x : Entry) → y to ≡ x → IsSilent (packet.Forget to hops) (forget_effect to hops x)
  forget-silent to hops entry.Nothing at = drops (packet.Forget to hops)
  forget-silent to hops (entry.Here v) at = drops (packet.Forget to hops)
  forget-silent to hops (entry.Left there h) at = by (nat_le h hops)
    where
      by : (b : Bool) → IsSilent (packet.Forget to hops) (if b then record (sent []) { entry = puts to entry.Nothing stays } else nothing)
      by true = put-silent (packet.Forget to hops) to entry.Nothing [] (subst (λ z. IsQuietly z entry.Nothing) (sym at) tt) tt (λ m l had has. absurd cc) tt tt
      by false = drops (packet.Forget to hops)
  forget-silent to hops (entry.Destroyed m) at = drops (packet.Forget to hops)

  known-silent : (to : EndId) (hops : ℕ) (x : Entry) → y to ≡ x → IsSentWell n t k (packet.Known to hops) → IsSilent (packet.Known to hops) (known_effect k hops x)
  known-silent to hops entry.Nothing at well = drops (packet.Known to hops)
  known-silent to hops (entry.Here v) at well = by (not v.value.dead && nat_eq v.value.hops hops)
    where
      q : PictureWhat
      q = packet.Known to hops

      new : Entry
      new = entry.Here (record v { value = record v.value { trail = 0 } })

      named : names_kernels_below n v.value ≡ true
      named = subst (NamesBelow n) at (is.names to)

      hint : (m l : MovingPicture) → value_of (y to) ≡ Some m → value_of new ≡ Some l → (l.hint ≡ m.hint) ⊎ (IsNews to l.hint.0 l.hint.1 q × (is_open (t to) ≡ false))
      hint m l had has =
          let old : m ≡ v.value = some-same m v.value (sym had ∙ ap value_of at) in
          let now : l ≡ record v.value { trail = 0 } = some-same l (record v.value { trail = 0 }) (sym has) in
          inl (ap (λ (z : MovingPicture). z.hint) now ∙ sym (ap (λ (z : MovingPicture). z.hint) old))

      by : (b : Bool) → IsSilent q (if b then record (sent (forget_packets k v.value)) { entry = puts v.value.end new stays } else nothing)
      by true =
          subst (λ z. IsSilent q (record (sent (forget_packets k v.value)) { entry = puts z new stays })) (sym (view-end to v at))
          (put-silent q to new (forget_packets k v.value) (subst (λ z. IsQuietly z new) (sym at) (refl, refl))
          (ap (λ z. z && nat_lt 0 (2 ^ n)) (and_parts _ _ named).0 ∙ lt-ltb 0 (2 ^ n) (pow_pos n)) hint
          (forgets-well v.value named (subst (λ z. is_made (t z).place ≡ true) (sym (view-end to v at)) well.made)) (forgets-repeat q v.value))
      by false = drops q
  known-silent to hops (entry.Left there h) at well = drops (packet.Known to hops)
  known-silent to hops (entry.Destroyed m) at well = drops (packet.Known to hops)

  want-silent : (to : EndId) (w at hops : ℕ) (x : Entry) → y to ≡ x → IsSentWell n t k (packet.Want to w at hops) → IsSilentAt (packet.Want to w at hops) x → IsSilent (packet.Want to w at hops) (want_effect k y to w at hops x)
  want-silent to w at hops entry.Nothing stands well silent = drops (packet.Want to w at hops)
  want-silent to w at hops (entry.Here v) stands well silent = chosen (packet.Want to w at hops) v.value.dead nothing (if nat_lt v.value.served w then wants_effect k y w at hops v else learn_effect k at hops v) silent (drops (packet.Want to w at hops))
  want-silent to w at hops (entry.Left there h) stands well silent = passes (packet.Want to w at hops) well there (left-below to there h stands)
  want-silent to w at hops (entry.Destroyed m) stands well silent = drops (packet.Want to w at hops)

  unwant-silent : (to : EndId) (w at hops : ℕ) (x : Entry) → y to ≡ x → IsSentWell n t k (packet.Unwant to w at hops) → IsSilentAt (packet.Unwant to w at hops) x → IsSilent (packet.Unwant to w at hops) (unwant_effect k to w at hops x)
  unwant-silent to w at hops entry.Nothing stands well silent = drops (packet.Unwant to w at hops)
  unwant-silent to w at hops (entry.Here v) stands well silent = chosen (packet.Unwant to w at hops) v.value.dead nothing (if nat_lt v.value.served w then voids_effect k w at hops v else learn_effect k at hops v) silent (drops (packet.Unwant to w at hops))
  unwant-silent to w at hops (entry.Left there h) stands well silent = passes (packet.Unwant to w at hops) well there (left-below to there h stands)
  unwant-silent to w at hops (entry.Destroyed m) stands well silent = drops (packet.Unwant to w at hops)

  -- a goneseen in answer to a gone
  seen-well : (to : EndId) (at : ℕ) → IsSentWell n t k (packet.Gone to at) → IsSentWell n t at (packet.GoneSeen (opposite to))
  seen-well to at well = record { quiet = refl; below = ltb-true at n well.addressed; addressed = refl; made = is.both to well.made; gone = tt }

  gone-silent : (to : EndId) (at : ℕ) (x : Entry) → y to ≡ x → IsSentWell n t k (packet.Gone to at) → IsSilentAt (packet.Gone to at) x → IsSilent (packet.Gone to at) (gone_effect k to at x)
  gone-silent to at entry.Nothing stands well silent = drops (packet.Gone to at)
  gone-silent to at (entry.Here v) stands well silent =
      chosen (packet.Gone to at) v.value.dead (sent ((at, packet.GoneSeen (opposite v.value.end)) ∷ []))
      (record (notice_effect k v) { packets = forget_packets k v.value ++ (at, packet.GoneSeen (opposite v.value.end)) ∷ []; steps = step.Notice v.value.end (is_withdrawing v.inward) ∷ [] }) silent
      (subst (λ z. IsSilent (packet.Gone to at) (sent ((at, packet.GoneSeen (opposite z)) ∷ []))) (sym (view-end to v stands))
      (sends (packet.Gone to at) ((at, packet.GoneSeen (opposite to)) ∷ []) (seen-well to at well, tt) (inl refl, tt)))
  gone-silent to at (entry.Left there h) stands well silent = passes (packet.Gone to at) well there (left-below to there h stands)
  gone-silent to at (entry.Destroyed m) stands well silent =
      erases (packet.Gone to at) to m ((at, packet.GoneSeen (opposite to)) ∷ forget_packets k m) stands (seen-well to at well, mark-forgets to m stands well.made) (inl refl, forgets-repeat (packet.Gone to at) m)

  moved-silent : (to : EndId) (at hops : ℕ) (x : Entry) → y to ≡ x → IsSentWell n t k (packet.Moved to at hops) → IsSilentAt (packet.Moved to at hops) x → IsSilent (packet.Moved to at hops) (moved_effect k to at hops x)
  moved-silent to at hops entry.Nothing stands well silent = drops (packet.Moved to at hops)
  moved-silent to at hops (entry.Here v) stands well silent = chosen (packet.Moved to at hops) v.value.dead nothing (record (learn_effect k at hops v) { packets = view_news k at hops v v.inward ++ (at, packet.Known (opposite v.value.end) hops) ∷ [] }) silent (drops (packet.Moved to at hops))
  moved-silent to at hops (entry.Left there h) stands well silent = passes (packet.Moved to at hops) well there (left-below to there h stands)
  moved-silent to at hops (entry.Destroyed m) stands well silent =
      put-silent q to (entry.Destroyed (learned at hops m)) ((at, packet.Gone (opposite to) k) ∷ []) (subst (λ z. IsQuietly z (entry.Destroyed (learned at hops m))) (sym stands) (alike-learned at hops m))
      (names (is_news m hops)) hint
      (record { quiet = refl; below = ltb-true at n well.addressed; addressed = lt-ltb k n is.below; made = is.both to well.made; gone = subst (λ z. (t z).place ≡ place.Destroyed) (sym (opposite-twice to)) destroyed }, tt) (inl refl, tt)
    where
      q : PictureWhat
      q = packet.Moved to at hops

      destroyed : (t to).place ≡ place.Destroyed
      destroyed = is.marks to m stands

      named : names_kernels_below n m ≡ true
      named = subst (NamesBelow n) stands (is.names to)

      names : (b : Bool) → names_kernels_below n (if b then record m { hint = (at, hops) } else m) ≡ true
      names true = ap (λ z. z && nat_lt m.trail (2 ^ n)) well.addressed ∙ (and_parts _ _ named).1
      names false = named

      hint : (o l : MovingPicture) → value_of (y to) ≡ Some o → value_of (entry.Destroyed (learned at hops m)) ≡ Some l → (l.hint ≡ o.hint) ⊎ (IsNews to l.hint.0 l.hint.1 q × (is_open (t to) ≡ false))
      hint o l had has =
          let old : o ≡ m = some-same o m (sym had ∙ ap value_of stands) in
          let now : l ≡ learned at hops m = some-same l (learned at hops m) (sym has) in
          subst (λ (z : MovingPicture). (l.hint ≡ z.hint) ⊎ (IsNews to l.hint.0 l.hint.1 q × (is_open (t to) ≡ false))) (sym old)
          (subst (λ (z : MovingPicture). (z.hint ≡ m.hint) ⊎ (IsNews to z.hint.0 z.hint.1 q × (is_open (t to) ≡ false))) (sym now) (by (is_news m hops)))
        where
          by : (b : Bool) → ((if b then record m { hint = (at, hops) } else m).hint ≡ m.hint) ⊎ (IsNews to (if b then record m { hint = (at, hops) } else m).hint.0 (if b then record m { hint = (at, hops) } else m).hint.1 q × (is_open (t to) ≡ false))
          by true = inr ((refl, refl, refl), closed (t to) destroyed)
          by false = inl refl

  -- each packet that is silent where it comes
  pub row-silent : (made from : ℕ) (q : PictureWhat) → IsSentWell n t k q → IsSilentAt q (y (addressee q)) → IsSilent q (row_effect k made from y q)
  row-silent made from (packet.Want to w at hops) well silent = want-silent to w at hops (y to) refl well silent
  row-silent made from (packet.Unwant to w at hops) well silent = unwant-silent to w at hops (y to) refl well silent
  row-silent made from (packet.Gone to at) well silent = gone-silent to at (y to) refl well silent
  row-silent made from (packet.Moved to at hops) well silent = moved-silent to at hops (y to) refl well silent
  row-silent made from (packet.Known to hops) well silent = known-silent to hops (y to) refl well
  row-silent made from (packet.Forget to hops) well silent = forget-silent to hops (y to) refl
  row-silent made from (packet.GoneSeen to) well silent = goneseen-silent to (y to) refl well
  row-silent made from _ well silent = absurd silent
