-- The world with which a run starts is traced: no packet is under way, and each end is where it was made.
use Rattle.std.proofs.Common.{◌≡◌, ◌≢◌, ◌⊎◌, inl, inr, ℕ, ◌≤◌, Bool, true, false, true≢false, nat_eq, Some, None, [], Contains, refl, sym, ap, subst, ◌∙◌, arith}
use Rattle.std.proofs.lemmas.Bool.Decides.{eqb_tells}
use Rattle.charlotte_calls.specs.Names.{opposite}
use Rattle.charlotte_calls.specs.Setting.{IsValid}
use Rattle.charlotte_calls.specs.declared.names.EndId.{EndId}
use Rattle.charlotte_calls.specs.declared.names.Pid.{Pid}
use Rattle.charlotte_calls.specs.declared.setting.Setting.{Setting}
use Rattle.charlotte_packets.specs.Moving.{new_end}
use Rattle.charlotte_packets.specs.declared.picture.MovingPicture.{MovingPicture}
use Rattle.charlotte_packets.specs.declared.picture.Picture.{Picture}
use Rattle.charlotte_packets.specs.declared.picture.PictureWhat.{PictureWhat}
use Rattle.end_table.specs.declared.entry.Entry.{Entry}
use Rattle.end_table.specs.declared.entry.Entry.TheVariants as entry
use Rattle.kernel_step.specs.Start.{home, owned_from_start, wired}
use Rattle.kernel_world.specs.World.{World, start}
use Rattle.service_lawful.specs.Consistent.{is_open}
use Rattle.service_step.specs.Ends.{is_living}
use Rattle.service_step.specs.Run.{start_state, wired as served}
use Rattle.service_step.specs.State.{State}
use Rattle.service_step.specs.declared.state.End.{End}
use Rattle.theorem.proofs.Wired.{AreWired, IsLinked, IsLoose, are-wired}
use Rattle.theorem_meaning.proofs.Ends.{opposite-twice}
use Rattle.theorem_meaning.specs.Fields.{At, Flying, HasFields, IsHeard, Stand, value_of}
use Rattle.theorem_meaning.specs.Packets.{IsUnderWay, Links, links_of, values_of}
use Rattle.theorem_meaning.specs.StandsFor.{entry_at}
use Rattle.trace_meaning.proofs.Chains.{chain-here}
use Rattle.trace_meaning.specs.Traces.{AreTraced, IsAnnounced, IsReached, IsTraceRight}
use Rattle.trace_meaning.specs.Words.{HasChain, HasMark, IsSought}

module _ (g : Setting) (valid : IsValid g) where
  abbrev w : Links
  w = links_of (start g)

  abbrev t : EndId → End
  t = (start_state g).ends

  abbrev IsWired : EndId → Type 0
  IsWired e = IsLinked g (wired g) (served g) e

  no_packets : (P : PictureWhat → Type 0) → IsUnderWay w P → ⊥
  no_packets P u = let has : Contains {X = Picture} [] u.packet = u.there in omega (arith, has.1)

  -- an end is loose, or of a wired link
  each : (e : EndId) → IsLoose (wired g) (served g) e ⊎ IsWired e
  each e = (are-wired g valid).each e

  -- ---- entries

  -- there is none, or it is of an end as a process owns it from the start
  record IsNew (k : ℕ) (e : EndId) : Type 0 where
    p : Pid
    q : Pid
    is : entry_at w k e ≡ owned_from_start p e (home g q)

  entry-new : (k : ℕ) (e : EndId) → (entry_at w k e ≡ entry.Nothing) ⊎ IsNew k e
  entry-new k e = by (each e)
    where
      tied : (l : IsWired e) → ((nat_eq k (home g l.p) ≡ true) × (k ≡ home g l.p)) ⊎ ((nat_eq k (home g l.p) ≡ false) × (k ≢ home g l.p)) → (entry_at w k e ≡ entry.Nothing) ⊎ IsNew k e
      tied l (inl at) = inr (record { p = l.p; q = l.q; is = ap (λ z. entry_at w z e) at.1 ∙ l.own.here })
      tied l (inr off) = inl (l.own.away k off.1)

      by : IsLoose (wired g) (served g) e ⊎ IsWired e → (entry_at w k e ≡ entry.Nothing) ⊎ IsNew k e
      by (inl l) = inl (l.away k)
      by (inr l) = tied l (eqb_tells k (home g l.p))

  no-mark : (e : EndId) → HasMark w e → ⊥
  no-mark e m = by (entry-new m.at e)
    where
      by : (entry_at w m.at e ≡ entry.Nothing) ⊎ IsNew m.at e → ⊥
      by (inl none) = let mark : entry_at w m.at e ≡ entry.Destroyed m.mark = m.there in cc
      by (inr x) =
          let mark : entry_at w m.at e ≡ entry.Destroyed m.mark = m.there in
          let new : entry_at w m.at e ≡ owned_from_start x.p e (home g x.q) = x.is in cc

  -- ---- an end that is sought is of a wired link

  closed : (e : EndId) → IsLoose (wired g) (served g) e → is_open (t e) ≡ false
  closed e l = ap is_open l.end

  linked : (e : EndId) → IsSought w t e → IsWired e
  linked e sought = by (each e) sought
    where
      by : IsLoose (wired g) (served g) e ⊎ IsWired e → IsSought w t e → IsWired e
      by (inr l) any = l
      by (inl l) (inl open_is) = absurd (true≢false (sym open_is ∙ closed e l))
      by (inl l) (inr mark) = absurd (no-mark e mark)

  -- the fields of its opposite tell where it is
  opposite-fields : (e : EndId) (l : IsWired e) (at : Stand) (m : MovingPicture) → HasFields w (opposite e) at m → m ≡ new_end (opposite e) (home g l.p)
  opposite-fields e l Flying m has = absurd (no_packets (λ q. Contains (values_of q) m) has.0)
  opposite-fields e l (At k) m has = by (eqb_tells k (home g l.q))
    where
      its : value_of (entry_at w k (opposite e)) ≡ Some m
      its = has

      by : ((nat_eq k (home g l.q) ≡ true) × (k ≡ home g l.q)) ⊎ ((nat_eq k (home g l.q) ≡ false) × (k ≢ home g l.q)) → m ≡ new_end (opposite e) (home g l.p)
      by (inl at) =
          let new : value_of (entry_at w k (opposite e)) ≡ Some (new_end (opposite e) (home g l.p)) = ap (λ z. value_of (entry_at w z (opposite e))) at.1 ∙ ap value_of l.other.here in
          cc
      by (inr off) = absurd (let none : value_of (entry_at w k (opposite e)) ≡ None = ap value_of (l.other.away k off.1) in cc)

  -- ---- each clause

  starts-reached : (e : EndId) → IsReached w t e
  starts-reached e at m j h sought opposite_sought has (inr news) le = absurd (no_packets _ news)
  starts-reached e at m j h sought opposite_sought has (inl hinted) le =
      let l = linked e sought in
      let told : (home g l.p, 0) ≡ (j, h) = sym (ap (λ (z : MovingPicture). z.hint) (opposite-fields e l hinted.stand hinted.fields hinted.are)) ∙ hinted.hint in
      subst (λ (z : ℕ × ℕ). HasChain w e z.0 z.1) told (chain-here w e (home g l.p) 0 _ l.own.here (omega arith))

  starts-right : (e : EndId) (k : ℕ) → IsTraceRight w t e k (entry_at w k e)
  starts-right e k = by (entry-new k e)
    where
      by : (entry_at w k e ≡ entry.Nothing) ⊎ IsNew k e → IsTraceRight w t e k (entry_at w k e)
      by (inl none) = subst (IsTraceRight w t e k) (sym none) tt
      by (inr x) = subst (IsTraceRight w t e k) (sym x.is) (λ unnoticed some lives. absurd (some refl))

  pub starts-traced : AreTraced w t
  starts-traced e =
      record {
        met = λ open_is. inl (ap (λ (x : End). is_living x.place) (linked e (inl open_is)).other.end);
        reached = starts-reached e;
        seen = record { destroyed = λ under. absurd (no_packets _ under); unsought = λ under sought. absurd (no_packets _ under) };
        known = λ at m h sought opposite_sought has either. absurd (none either);
        entries = starts-right e;
      }
    where
      none : {P Q : PictureWhat → Type 0} → IsUnderWay w P ⊎ IsUnderWay w Q → ⊥
      none {P} {Q} (inl under) = no_packets P under
      none {P} {Q} (inr under) = no_packets Q under
