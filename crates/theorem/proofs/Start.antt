-- The world with which a run starts stands for the state with which the service starts, and what is true of every world is true of it.
use Rattle.std.proofs.Common.{◌≡◌, ◌≢◌, ◌⊎◌, ◌↔◌, inl, inr, ℕ, ◌+◌, ◌<◌, ◌≤◌, ◌^◌, Bool, true, false, nat_eq, nat_lt, ◌&&◌, [], length, All, Contains, Some, None, is_some, slice_index, refl, sym, ap, subst, ◌∙◌, arith, lt-ltb, le-ltb, pow_pos}
use Rattle.std.proofs.lemmas.Bool.Decides.{eqb_tells}
use Rattle.std.proofs.lemmas.List.Elements.{All-nil, All-get_or}
use Rattle.charlotte_calls.specs.Names.{opposite}
use Rattle.charlotte_packets.specs.Moving.{new_end}
use Rattle.charlotte_calls.specs.Setting.{IsValid}
use Rattle.charlotte_calls.specs.declared.names.EndId.{EndId}
use Rattle.charlotte_calls.specs.declared.names.Pid.{Pid}
use Rattle.charlotte_packets.specs.declared.picture.MovingPicture.{MovingPicture}
use Rattle.charlotte_packets.specs.declared.picture.Picture.{Picture}
use Rattle.charlotte_packets.specs.declared.picture.PictureWhat.{PictureWhat}
use Rattle.charlotte_calls.specs.declared.setting.Setting.{Setting}
use Rattle.end_table.specs.Entries.{settled}
use Rattle.end_table.specs.Table.{IsHere, IsHereAnd, IfHere, IsOfEnd}
use Rattle.end_table.specs.declared.entry.Entry.{Entry}
use Rattle.end_table.specs.declared.entry.Entry.TheVariants as entry
use Rattle.end_table.specs.declared.entry.HereView.{HereView}
use Rattle.end_table.specs.declared.entry.Holder.TheVariants as holder
use Rattle.end_table.specs.declared.entry.Inward.TheVariants as inward
use Rattle.kernel_sound.specs.Sound.{IsSound, IsHeldWell, AreHeldBy}
use Rattle.kernel_step.specs.Actions.{enclosed_of}
use Rattle.kernel_step.specs.Rows.{is_here}
use Rattle.kernel_step.specs.Start.{home, owned_from_start, wired}
use Rattle.kernel_world.specs.World.{World, start}
use Rattle.service_lawful.proofs.Fresh.{IsFresh, IsFreshEnd, fresh-consistent, fresh-outward, fresh-noticed, fresh-sent, fresh-nowhere, fresh-phase, fresh-running, fresh-reports}
use Rattle.service_step.specs.Ends.{unmade, fresh, is_made, is_living, is_taken, matched_message}
use Rattle.service_step.specs.Run.{start_state, wired as served}
use Rattle.service_step.specs.State.{State}
use Rattle.service_step.specs.declared.state.End.{End}
use Rattle.service_step.specs.declared.state.Phase.TheVariants as phase
use Rattle.service_step.specs.declared.state.Place.TheVariants as place
use Rattle.theorem_meaning.specs.Fields.{Stand, At, Flying, HasFields, IsNoMore, IsUnserved, IsAskedAs, value_of}
use Rattle.theorem_meaning.specs.Invariant.{IsOfSetting, NamesBelow, IsFew, IsHonest, AreRight, Invariant, is_unwanted_to, is_message_of, is_taken_of}
use Rattle.theorem_meaning.specs.Packets.{Links, links_of, IsUnderWay, over_kernels, sum_over, one_if, how_many, values_for, values_of}
use Rattle.theorem_meaning.specs.StandsFor.{StandsFor, IsEndOf, IsOwnedHere, IsInMessage, IsProcessOf, entry_at, standing}
use Rattle.theorem_meaning.proofs.Sums.{over-none, over-one, sum_over-none}
use Rattle.theorem.proofs.Wired.{IsLoose, IsTied, IsLinked, AreWired, are-wired}

-- the hint of an end that never moved
hint-of : (m : MovingPicture) (e : EndId) (k j h : ℕ) → m ≡ new_end e k → m.hint ≡ (j, h) → (j ≡ k) × (h ≡ 0)
hint-of m e k j h is hint =
    let both : (j, h) ≡ (k, 0) = sym hint ∙ ap (λ (z : MovingPicture). z.hint) is in
    (ap (λ (z : ℕ × ℕ). z.0) both, ap (λ (z : ℕ × ℕ). z.1) both)

module _ (g : Setting) (valid : IsValid g) where
  abbrev world : World
  world = start g

  abbrev w : Links
  w = links_of world

  abbrev s : State
  s = start_state g

  aw : AreWired g (wired g) (served g)
  aw = are-wired g valid

  home-below : (p : Pid) → p.0 < length g.homes → home g p < g.kernels
  home-below p below = All-get_or (λ h. h < g.kernels) g.homes p.0 0 below valid.homes

  -- ---- the service

  pub starts-fresh : IsFresh s
  starts-fresh = record { each = λ e. each e (aw.each e); made = λ e. made e (aw.each e); processes = refl }
    where
      each : (e : EndId) → IsLoose (wired g) (served g) e ⊎ IsLinked g (wired g) (served g) e → (s.ends e ≡ unmade) ⊎ IsFreshEnd s e
      each e (inl l) = inl l.end
      each e (inr l) = inr (record { p = l.p; end = l.own.end; process = l.own.owner })

      made : (e : EndId) → IsLoose (wired g) (served g) e ⊎ IsLinked g (wired g) (served g) e → is_made (s.ends e).place ≡ nat_lt e.link.count (slice_index s.made e.link.maker)
      made e (inl l) = ap (λ (x : End). is_made x.place) l.end ∙ sym (le-ltb _ _ l.count)
      made e (inr l) = ap (λ (x : End). is_made x.place) l.own.end ∙ sym (lt-ltb _ _ l.own.count)

  -- ---- the kernels

  -- what a kernel has of an end at the start
  record IsThere (k : ℕ) (e : EndId) : Type 0 where
    p : Pid
    q : Pid
    entry_is : entry_at w k e ≡ owned_from_start p e (home g q)
    at : k ≡ home g p
    own : IsTied g (wired g) (served g) p q e
    other : IsTied g (wired g) (served g) q p (opposite e)

  there : (k : ℕ) (e : EndId) → (entry_at w k e ≡ entry.Nothing) ⊎ IsThere k e
  there k e = by (aw.each e)
    where
      tied : (l : IsLinked g (wired g) (served g) e) → ((nat_eq k (home g l.p) ≡ true) × (k ≡ home g l.p)) ⊎ ((nat_eq k (home g l.p) ≡ false) × (k ≢ home g l.p)) → (entry_at w k e ≡ entry.Nothing) ⊎ IsThere k e
      tied l (inl is) = inr (record { p = l.p; q = l.q; entry_is = ap (λ z. entry_at w z e) is.1 ∙ l.own.here; at = is.1; own = l.own; other = l.other })
      tied l (inr is) = inl (l.own.away k is.1)

      by : IsLoose (wired g) (served g) e ⊎ IsLinked g (wired g) (served g) e → (entry_at w k e ≡ entry.Nothing) ⊎ IsThere k e
      by (inl l) = inl (l.away k)
      by (inr l) = tied l (eqb_tells k (home g l.p))

  -- what is true of no entry and of an end that a process owns from the start is true of each entry
  each-entry : (P : Entry → Type 0) (k : ℕ) (e : EndId) → P entry.Nothing → ((x : IsThere k e) → P (owned_from_start x.p e (home g x.q))) → P (entry_at w k e)
  each-entry P k e none own = by (there k e)
    where
      by : (entry_at w k e ≡ entry.Nothing) ⊎ IsThere k e → P (entry_at w k e)
      by (inl is) = subst P (sym is) none
      by (inr x) = subst P (sym x.entry_is) (own x)

  -- no packet is under way
  no_packets : (P : PictureWhat → Type 0) → IsUnderWay w P → ⊥
  no_packets P u = let has : Contains {X = Picture} [] u.packet = u.there in omega (arith, has.1)

  -- the fields of an end
  record AreNew (e : EndId) (at : Stand) (m : MovingPicture) : Type 0 where
    k : ℕ
    stand : at ≡ At k
    x : IsThere k e
    is : m ≡ new_end e (home g x.q)

  fields : (e : EndId) (at : Stand) (m : MovingPicture) → HasFields w e at m → AreNew e at m
  fields e Flying m has = absurd (no_packets (λ q. Contains (values_of q) m) has.0)
  fields e (At k) m has = by (there k e)
    where
      by : (entry_at w k e ≡ entry.Nothing) ⊎ IsThere k e → AreNew e (At k) m
      by (inl is) = absurd (let none : value_of (entry_at w k e) ≡ None = ap value_of is in cc)
      by (inr x) = record { k = k; stand = refl; x = x; is = let some : value_of (entry_at w k e) ≡ Some (new_end e (home g x.q)) = ap value_of x.entry_is in cc }

  view : (k : ℕ) (e : EndId) (v : HereView) → entry_at w k e ≡ entry.Here v → (x : IsThere k e) × (v ≡ settled (holder.Owner x.p) (new_end e (home g x.q)))
  view k e v is = by (there k e)
    where
      by : (entry_at w k e ≡ entry.Nothing) ⊎ IsThere k e → (x : IsThere k e) × (v ≡ settled (holder.Owner x.p) (new_end e (home g x.q)))
      by (inl none) = absurd cc
      by (inr x) = (x, let here : entry_at w k e ≡ owned_from_start x.p e (home g x.q) = x.entry_is in cc)

  -- ---- standing for

  starts-once : (e : EndId) → standing w e ≡ one_if (is_living (s.ends e).place)
  unfolding standing
  starts-once e = by (aw.each e)
    where
      here : ℕ → ℕ
      here k = one_if (is_here (entry_at w k e))

      nothing : sum_over (λ q. values_for e (values_of q)) w ≡ 0
      nothing = sum_over-none (λ q. values_for e (values_of q)) w (λ from to. refl)

      by : IsLoose (wired g) (served g) e ⊎ IsLinked g (wired g) (served g) e → over_kernels (λ k. one_if (is_here (entry_at w k e))) + sum_over (λ q. values_for e (values_of q)) w ≡ one_if (is_living (s.ends e).place)
      by (inl l) =
          let none : over_kernels (λ k. one_if (is_here (entry_at w k e))) ≡ 0 = over-none (λ k. one_if (is_here (entry_at w k e))) (λ k. ap (λ x. one_if (is_here x)) (l.away k)) in
          let dead : one_if (is_living (s.ends e).place) ≡ 0 = ap (λ (x : End). one_if (is_living x.place)) l.end in
          omega (arith, nothing)
      by (inr l) =
          let below : home g l.p < 8 = omega (arith, home-below l.p l.own.owner, valid.limits.kernels) in
          let one : over_kernels (λ k. one_if (is_here (entry_at w k e))) ≡ one_if (is_here (entry_at w (home g l.p) e)) = over-one (λ k. one_if (is_here (entry_at w k e))) (home g l.p) below (λ k off. ap (λ x. one_if (is_here x)) (l.own.away k off)) in
          let is : one_if (is_here (entry_at w (home g l.p) e)) ≡ 1 = ap (λ x. one_if (is_here x)) l.own.here in
          let alive : one_if (is_living (s.ends e).place) ≡ 1 = ap (λ (x : End). one_if (is_living x.place)) l.own.end in
          omega (arith, nothing)

  starts-owned : (e : EndId) (p : Pid) → ((s.ends e).place ≡ place.Owned p) ↔ IsOwnedHere p (entry_at w (home g p) e)
  starts-owned e p = (to (aw.each e), from (there (home g p) e))
    where
      to : IsLoose (wired g) (served g) e ⊎ IsLinked g (wired g) (served g) e → (s.ends e).place ≡ place.Owned p → IsOwnedHere p (entry_at w (home g p) e)
      to (inl l) at = absurd (let is : (s.ends e).place ≡ place.Unmade = ap (λ (x : End). x.place) l.end in cc)
      to (inr l) at =
          let is : (s.ends e).place ≡ place.Owned l.p = ap (λ (x : End). x.place) l.own.end in
          let same : l.p ≡ p = cc in
          subst (λ z. IsOwnedHere z (entry_at w (home g z) e)) same (subst (IsOwnedHere l.p) (sym l.own.here) refl)

      from : (entry_at w (home g p) e ≡ entry.Nothing) ⊎ IsThere (home g p) e → IsOwnedHere p (entry_at w (home g p) e) → (s.ends e).place ≡ place.Owned p
      from (inl is) has = absurd (subst (IsOwnedHere p) is has)
      from (inr x) has =
          let same : holder.Owner x.p ≡ holder.Owner p = subst (IsOwnedHere p) x.entry_is has in
          let is : (s.ends e).place ≡ place.Owned x.p = ap (λ (y : End). y.place) x.own.end in
          cc

  starts-free : (e f : EndId) (n : ℕ) → IsInMessage w e f n → ⊥
  starts-free e f n (inl is) = each-entry (λ x. IsHereAnd x (λ v. v.holder ≡ holder.EnclosedIn f) → ⊥) is.at e (λ has. has) (λ x has. differ x.p has) is.enclosed
    where
      differ : (p : Pid) → holder.Owner p ≡ holder.EnclosedIn f → ⊥
      differ p is = cc
  starts-free e f n (inr (inl u)) = no_packets _ u
  starts-free e f n (inr (inr u)) = no_packets _ u

  starts-agree : (e : EndId) (p : Pid) (v : HereView) → (s.ends e).place ≡ place.Owned p → entry_at w (home g p) e ≡ entry.Here v → IsEndOf w e v (s.ends e)
  starts-agree e p v at is =
      let x = view (home g p) e v is in
      subst (IsEndOf w e v) (sym x.0.own.end) (subst (λ u. IsEndOf w e u (fresh (place.Owned x.0.p))) (sym x.1) (record { sent = refl; noticed = refl; outward = tt; inward = tt }))

  starts-process : (p : Pid) → p.0 < length s.homes → IsProcessOf ((world.kernel (home g p)).process p.0) (s.process p.0)
  starts-process p below = record { phase = fresh-running s starts-fresh p below; unanswered = λ is. refl; reports = fresh-reports s starts-fresh p }

  -- the world of the start stands for the state of the start
  pub starts-standing : StandsFor world s
  starts-standing =
      record {
        processes = starts-process;
        links =
            record {
              once = starts-once;
              owned = starts-owned;
              in_message = λ e f n. (λ at. absurd (fresh-nowhere s starts-fresh e f n at), λ is. absurd (starts-free e f n is));
              agree = starts-agree;
            };
      }

  -- ---- what is true of every world

  abbrev n : ℕ
  n = g.kernels

  made-length : length s.made ≡ n
  made-length = aw.length

  starts-names : (k : ℕ) (e : EndId) → NamesBelow (length s.made) (entry_at w k e)
  starts-names k e = subst (λ z. NamesBelow z (entry_at w k e)) (sym made-length) (each-entry (NamesBelow n) k e tt (λ x. both x.q x.other.owner))
    where
      both : (q : Pid) → q.0 < length g.homes → (nat_lt (home g q) n && nat_lt 0 (2 ^ n)) ≡ true
      both q owner = ap (λ z. z && nat_lt 0 (2 ^ n)) (lt-ltb _ _ (home-below q owner)) ∙ lt-ltb _ _ (pow_pos n)

  starts-away : (k : ℕ) (e : EndId) → length s.made ≤ k → entry_at w k e ≡ entry.Nothing
  starts-away k e above = by (there k e)
    where
      by : (entry_at w k e ≡ entry.Nothing) ⊎ IsThere k e → entry_at w k e ≡ entry.Nothing
      by (inl is) = is
      by (inr x) = absurd (let at : k ≡ home g x.p = x.at in omega (arith, home-below x.p x.own.owner, made-length))

  starts-sound : (k : ℕ) → IsSound k (world.kernel k).made (length s.homes) (world.kernel k).table
  starts-sound k =
      record {
        own = λ e. each-entry (IsOfEnd e) k e tt (λ x. refl);
        held = λ e. each-entry (λ x. IfHere x (λ v. IsHeldWell (length s.homes) v v.holder)) k e tt (λ x. x.own.owner);
        enclosed = λ e. each-entry (λ x. IfHere x (λ v. AreHeldBy e (world.kernel k).table (enclosed_of v.outward))) k e tt (λ x. tt);
        unmade = λ e maker above. each-entry (λ x. IsHere x → ⊥) k e (λ is. is) (λ x is. counted e x maker above);
      }
    where
      counted : (e : EndId) → IsThere k e → e.link.maker ≡ k → (world.kernel k).made ≤ e.link.count → ⊥
      counted e x maker above =
          let low : e.link.count < slice_index s.made e.link.maker = x.own.count in
          let at : slice_index s.made e.link.maker ≡ slice_index s.made k = ap (slice_index s.made) maker in
          omega (arith, aw.made k)

  starts-setting : IsOfSetting world s
  starts-setting =
      record {
        few = omega (arith, made-length, valid.limits.kernels);
        numbers = λ k. refl;
        kernels = λ k. sym made-length;
        version = λ k. refl;
        made = aw.made;
        homes = subst (λ z. All (λ h. h < z) s.homes) (sym made-length) valid.homes;
        sound = starts-sound;
      }

  new-value : (e : EndId) (at : Stand) (m : MovingPicture) → HasFields w e at m → (k : ℕ) × (q : Pid) × (m ≡ new_end e (home g q))
  new-value e at m has = let f = fields e at m has in (f.k, f.x.q, f.is)

  starts-honest : (e : EndId) → IsHonest w e
  starts-honest e at m j h has (inr u) = absurd (no_packets _ u)
  starts-honest e at m j h has (inl hinted) =
      let f = fields e at m has in
      subst (λ z. IsNoMore z m.hops j h) (sym f.stand) (subst (λ (z : MovingPicture). IsNoMore (At f.k) z.hops j h) (sym f.is) (near f.k f.x (fields (opposite e) hinted.stand hinted.fields hinted.are) hinted.hint))
    where
      near : (k : ℕ) (x : IsThere k e) → AreNew (opposite e) hinted.stand hinted.fields → hinted.fields.hint ≡ (j, h) → (h ≤ 0) × (h ≡ 0 → j ≡ k)
      near k x o hint = by (eqb_tells o.k (home g x.q))
        where
          by : ((nat_eq o.k (home g x.q) ≡ true) × (o.k ≡ home g x.q)) ⊎ ((nat_eq o.k (home g x.q) ≡ false) × (o.k ≢ home g x.q)) → (h ≤ 0) × (h ≡ 0 → j ≡ k)
          by (inl is) =
              let mine : entry_at w (home g x.q) (opposite e) ≡ owned_from_start x.q (opposite e) (home g x.p) = x.other.here in
              let its : entry_at w o.k (opposite e) ≡ owned_from_start o.x.p (opposite e) (home g o.x.q) = o.x.entry_is in
              let one : entry_at w o.k (opposite e) ≡ entry_at w (home g x.q) (opposite e) = ap (λ z. entry_at w z (opposite e)) is.1 in
              let some : Some (new_end (opposite e) (home g o.x.q)) ≡ Some (new_end (opposite e) (home g x.p)) = ap value_of (sym its ∙ one ∙ mine) in
              let same : new_end (opposite e) (home g o.x.q) ≡ new_end (opposite e) (home g x.p) = cc in
              let told = hint-of hinted.fields (opposite e) (home g x.p) j h (o.is ∙ same) hint in
              let hops : h ≡ 0 = told.1 in
              (omega arith, λ z. told.0 ∙ sym x.at)
          by (inr off) =
              absurd (let none : entry_at w o.k (opposite e) ≡ entry.Nothing = x.other.away o.k off.1 in
              let its : entry_at w o.k (opposite e) ≡ owned_from_start o.x.p (opposite e) (home g o.x.q) = o.x.entry_is in cc)

  not-asked : (k : ℕ) (e : EndId) (v : HereView) (i : ℕ) → entry_at w k e ≡ entry.Here v → IsAskedAs i v.inward → ⊥
  not-asked k e v i is asked = let x = view k e v is in subst (λ (u : HereView). IsAskedAs i u.inward) x.1 asked

  no-mark : (k : ℕ) (e : EndId) (m : MovingPicture) → entry_at w k e ≡ entry.Destroyed m → ⊥
  no-mark k e m = each-entry (λ x. x ≡ entry.Destroyed m → ⊥) k e (λ is. cc) (λ x is. cc)

  no-want : (e : EndId) (at : Stand) (m : MovingPicture) (i j h : ℕ) → HasFields w e at m → IsUnserved w e m i j h → ⊥
  no-want e at m i j h has (inl is) =
      let f = new-value e at m has in
      let zero_is : m.want ≡ 0 = ap (λ (z : MovingPicture). z.want) f.2 in
      let wanted : m.want ≡ i = is.0 in
      let some : 0 < i = is.1 in
      omega arith
  no-want e at m i j h has (inr is) = no_packets _ is.1

  none-count : (f : PictureWhat → Bool) → how_many f w ≡ 0
  none-count f = sum_over-none (λ q. one_if (f q)) w (λ from to. refl)

  not-waiting : (p : Pid) → (s.process p.0).phase ≡ phase.Waiting → (s.process p.0).reports ≡ []
  not-waiting p is = fresh-reports s starts-fresh p

  not-cancelling : (p : Pid) (e : EndId) → (s.process p.0).phase ≡ phase.Cancelling e → ⊥
  not-cancelling p e is = by (fresh-phase s starts-fresh p)
    where
      by : ((s.process p.0).phase ≡ phase.Running) ⊎ ((s.process p.0).phase ≡ phase.Ended) → ⊥
      by (inl h) = cc
      by (inr h) = cc

  starts-links : AreRight 0 w s
  starts-links =
      record {
        named = record { entries = starts-names; away = starts-away; lists = λ from to above. refl; addressed = λ from to. All-nil _; addressees = λ from to. All-nil _ };
        few = λ e at m has. let f = new-value e at m has in subst (IsFew 0) (sym f.2) (record { hops = omega arith; sent = omega arith; asked = omega arith });
        marked = λ e. record { destroyed = λ k m is. absurd (no-mark k e m is); once = λ j k m l is. absurd (no-mark j e m is) };
        counted = λ e.
            record {
              sent = λ at m lives has. ap (λ (z : MovingPicture). z.sent) (new-value e at m has).2 ∙ sym (fresh-sent s starts-fresh e);
              dead = λ at m lives has. ap (λ (z : MovingPicture). z.dead) (new-value e at m has).2 ∙ sym (fresh-noticed s starts-fresh e);
              unwanted = λ at m lives is has. ap (λ (z : MovingPicture). z.want) (new-value e at m has).2;
            };
        honest = starts-honest;
        asked = λ e. record { last = λ k v i is asked. absurd (not-asked k e v i is asked); cancelled = λ k v i p is withdrawing held. absurd (idle k e v i is withdrawing) };
        cancelling = λ p e is. absurd (not-cancelling p e is);
        served = λ e k v i at m is asked. absurd (not-asked k e v i is asked);
        wanted = λ e.
            record {
              kept = λ at m open' has. inl (ap (λ (z : MovingPicture). z.want) (new-value e at m has).2);
              same = λ at m i j h o p q open' has is. absurd (no-want e at m i j h has is);
              posted = λ at m i j h open' has is. absurd (no-want e at m i j h has is);
              site = λ at m i j h open' has is. absurd (no-want e at m i j h has is);
              unwanted = λ at m i open' has low u. absurd (no_packets _ u);
            };
        unwanted = λ e is. omega (arith, none-count (is_unwanted_to e));
        packets = λ from to. All-nil _;
        once = λ f.
            record {
              message = none-count (is_message_of f) ∙ sym (ap (λ o. one_if (is_some (matched_message o))) (fresh-outward s starts-fresh f));
              taken = omega (arith, none-count (is_taken_of f));
              told = λ lives. none-count (is_taken_of f) ∙ sym (ap (λ o. one_if (is_taken o)) (fresh-outward s starts-fresh f));
            };
      }
    where
      idle : (k : ℕ) (e : EndId) (v : HereView) (i : ℕ) → entry_at w k e ≡ entry.Here v → v.inward ≡ inward.Withdrawing i → ⊥
      idle k e v i is withdrawing = let x = view k e v is in let quiet : v.inward ≡ inward.Idle = ap (λ (u : HereView). u.inward) x.1 in cc

  -- what is true of every world that a run reaches is true of the start
  pub starts-well : Invariant 0 world s
  starts-well =
      record {
        stands = starts-standing;
        service = fresh-consistent s starts-fresh;
        setting = starts-setting;
        links = starts-links;
        waiting = not-waiting;
      }
