-- After any steps a link is as it should be, and so the claims hold.
use Rattle.std.proofs.Common.{◌≡◌, inl, inr, ⊎_elim, ℕ, Bool, true, false, List, ◌∷◌, refl, sym, subst, ◌∙◌, ◌++◌}
use Rattle.end_protocol.specs.declared.hearing.Heard.{Heard as Outcome}
use Rattle.end_protocol.specs.declared.kept.Kept.{Kept}
use Rattle.end_protocol.specs.declared.messages.Message.{Message}
use Rattle.end_protocol.specs.Hearing.{hears}
use Rattle.request_meaning.specs.Requests.{AreExchanged}
use Rattle.request_meaning.specs.Views.{back_in, forth_in, serving}
use Rattle.request_meaning.specs.Phases.{Quiet}
use Rattle.request_meaning.specs.Links.{Cut, Died, Goes, Happened, Heard, Link, Moved, Rests, Runs, Sent, Steps, Turned, comes_of, heard_on, start, turned}
use Rattle.request_meaning.specs.Invariant.{IsAsked, IsLink, Lives, WasCut, exchange}
use Rattle.request_law.proofs.Lists.{front_self}
use Rattle.request_law.proofs.Cutting.{lives_cut}
use Rattle.request_law.proofs.CutLinks.{cuts_again, dies_cut, happens_cut, hears_cut, moves_cut, sends_cut, unreadable_cut}
use Rattle.request_law.proofs.CutWays.{numbers_front}
use Rattle.request_law.proofs.HearsBack.{IsMistyped}
use Rattle.request_law.proofs.Living.{happens_lives, hears_lives, moves_lives, sends_lives}

module _ (version : ℕ) where
  abbrev Is : Link → Type 0
  Is l = IsLink version l

  turn : (l : Link) → Is l → Is (turned l)
  turn l is =
      ⊎_elim (λ (lives : Lives version l). inl (record { uncut = lives.uncut; near = lives.far; far = lives.near }))
      (λ (was : WasCut version l). inr (record { is_cut = was.is_cut; near = was.far; far = was.near })) is

  -- a link that lives may be cut at any time
  cut_now : (l : Link) → Lives version l → WasCut version (record l { cut = true })
  cut_now l lives = lives_cut version l l.there l.here (front_self l.there l.there refl) (front_self l.here l.here refl) lives

  hears_so : (room : Bool) (m : Message) (rest : List Message) (l : Link) → l.here ≡ m ∷ rest → Lives version l → Is (heard_on version room m rest l)
  hears_so room m rest l comes lives =
      ⊎_elim (λ (on : Lives version (heard_on version room m rest l)). inl on)
      (λ (u : IsMistyped version (serving l.far) (exchange l) (forth_in l.there) (back_in rest ++ back_in l.far.queue) m l.near (hears version room m.packet m.ends l.near)).
      inr (subst (λ (y : Kept × Outcome). WasCut version (comes_of y rest l)) (sym u.unread) (unreadable_cut version l rest u.came (cut_now l lives))))
      (hears_lives version l m rest comes lives room)

  not_cut : (l : Link) → Lives version l → l.cut ≡ true → ⊥
  not_cut l lives e = let no : true ≡ false = sym e ∙ lives.uncut in cc

  pub step_keeps : (l m : Link) → Steps version l m → Is l → Is m
  step_keeps l m (Happened h k may) is = ⊎_elim (λ (lives : Lives version l). inl (happens_lives version l h may lives)) (λ (was : WasCut version l). inr (happens_cut version l h may was)) is
  step_keeps l m (Sent n rest k queue) is = ⊎_elim (λ (lives : Lives version l). inl (sends_lives version l n rest queue lives)) (λ (was : WasCut version l). inr (sends_cut version l n was)) is
  step_keeps l m (Heard room n rest k comes) is = ⊎_elim (λ (lives : Lives version l). hears_so room n rest l comes lives) (λ (was : WasCut version l). inr (hears_cut version l n rest comes was room)) is
  step_keeps l m (Moved k may) is = ⊎_elim (λ (lives : Lives version l). inl (moves_lives version l may lives)) (λ (was : WasCut version l). inr (moves_cut version l may was)) is
  step_keeps l m (Cut there here k is_there is_here) is =
      ⊎_elim (λ (lives : Lives version l). inr (lives_cut version l there here is_there is_here lives)) (λ (was : WasCut version l). inr (cuts_again version l there here is_there is_here was)) is
  step_keeps l m (Died k is_cut) is = ⊎_elim (λ (lives : Lives version l). absurd (not_cut l lives is_cut)) (λ (was : WasCut version l). inr (dies_cut version l was)) is
  step_keeps l m (Turned k n step) is = turn (turned m) (step_keeps (turned l) (turned m) step (turn l is))

  quiet_start : IsAsked version start
  quiet_start = record {
    phase = Quiet;
    at = record {
      so = tt;
      outstanding = refl;
      barred = refl;
      reply = refl;
      owed = refl;
      forbade = refl;
      request = refl;
      forth_is = refl;
      back_is = refl;
      behind = tt;
      none_behind = λ e. refl;
      issued = refl;
      replied = refl;
      numbers = refl;
      asker_lives = refl;
      server_lives = refl;
    };
  }

  pub start_is : Is start
  start_is = inl (record { uncut = refl; near = quiet_start; far = quiet_start })

  pub run_keeps : (l m : Link) → Runs version l m → Is l → Is m
  run_keeps l m (Rests k) is = is
  run_keeps l m (Goes a b c run step) is = step_keeps b m step (run_keeps l b run is)

  -- ---- the claims

  was_exchanged : (l : Link) → WasCut version l → AreExchanged l.near_deeds l.far_deeds
  was_exchanged l was = record {
    requests = was.near.requests;
    answers = numbers_front version (serving l.far) (forth_in l.there) (exchange l) was.near.serves;
    replies = was.near.replies;
  }

  pub is_exchanged : (l : Link) → Is l → AreExchanged l.near_deeds l.far_deeds
  is_exchanged l is = ⊎_elim (λ (lives : Lives version l). was_exchanged (record l { cut = true }) (cut_now l lives)) (λ (was : WasCut version l). was_exchanged l was) is

  -- seen from either end
  pub run_is_exchanged : (l : Link) → Runs version start l → AreExchanged l.near_deeds l.far_deeds × AreExchanged l.far_deeds l.near_deeds
  run_is_exchanged l run =
      let is : Is l = run_keeps start l run start_is in
      (is_exchanged l is, is_exchanged (turned l) (turn l is))

  -- a link that was not cut lives
  pub run_lives : (l : Link) → Runs version start l → l.cut ≡ false → Lives version l
  run_lives l run uncut =
      ⊎_elim (λ (lives : Lives version l). lives) (λ (was : WasCut version l). absurd (let no : true ≡ false = sym was.is_cut ∙ uncut in cc)) (run_keeps start l run start_is)
