-- Where a link lives, whatever message comes to an end, its requests are in some phase.
use Rattle.std.proofs.Common.{◌≡◌, inl, ℕ, Bool, true, false, List, [], ◌∷◌, ◌++◌}
use Rattle.end_protocol.specs.declared.kept.Kept.{Kept}
use Rattle.end_protocol.specs.declared.messages.Message.{Message}
use Rattle.end_protocol.specs.Hearing.{hears}
use Rattle.request_meaning.specs.Views.{Asking, Serving, asking, back_in, forth_in, serving}
use Rattle.request_meaning.specs.Phases.{Asked, Barred, Coming, Exchange, Forbidden, IsAt, LetCome, Owed, Phase, Quiet, Replied, Retried, Returning}
use Rattle.request_law.proofs.HearsBack.{HearsIt, hears_allow, hears_forbid, hears_goahead, hears_retry}
use Rattle.request_law.proofs.HearsReply.{hears_reply, hears_reply_enc}
use Rattle.request_law.proofs.HearsForth.{HearsForth, hears_request, hears_request_enc}

none_comes : (m : Message) (ms : List Message) → m ∷ ms ≡ [] → ⊥
none_comes m ms e = cc

-- at who asks
pub hears_back : (version : ℕ) (room : Bool) (k : Kept) (s : Serving) (x : Exchange) (F B : List Message) (m : Message) (p : Phase) → IsAt version p (asking k) s (F ++ forth_in k.queue) (m ∷ B) x →
    HearsIt version s x F B m k (hears version room m.packet m.ends k)
hears_back version room k s x F B m Quiet at = absurd (none_comes m B at.back_is)
hears_back version room k s x F B m (Asked c) at = absurd (none_comes m B at.back_is)
hears_back version room k s x F B m (Retried c) at = inl (hears_retry version room k s x F B c m at)
hears_back version room k s x F B m (Forbidden c b) at = inl (hears_forbid version room k s x F B c b m at)
hears_back version room k s x F B m (Barred c true) at = inl (hears_allow version room k s x F B c m at)
hears_back version room k s x F B m (Barred c false) at = absurd (none_comes m B at.back_is)
hears_back version room k s x F B m (LetCome c by) at = inl (hears_goahead version room k s x F B c by m at)
hears_back version room k s x F B m (Coming c by came e es) at = absurd (none_comes m B at.back_is)
hears_back version room k s x F B m (Owed c) at = absurd (none_comes m B at.back_is)
hears_back version room k s x F B m (Replied c r) at = hears_reply version room k s x F B c r m at
hears_back version room k s x F B m (Returning c r came e es) at = inl (hears_reply_enc version room k s x F B c r came e es m at)

-- at who serves
pub hears_forth : (version : ℕ) (room : Bool) (k : Kept) (a : Asking) (x : Exchange) (F B : List Message) (m : Message) (p : Phase) → IsAt version p a (serving k) (m ∷ F) (B ++ back_in k.queue) x →
    HearsForth version a x F B k (hears version room m.packet m.ends k)
hears_forth version room k a x F B m (Asked c) at = hears_request version room k a x F B c m at
hears_forth version room k a x F B m (Coming c by came e es) at = hears_request_enc version room k a x F B c by came e es m at
hears_forth version room k a x F B m Quiet at = absurd (none_comes m F at.forth_is)
hears_forth version room k a x F B m (Retried c) at = absurd (none_comes m F at.forth_is)
hears_forth version room k a x F B m (Forbidden c b) at = absurd (none_comes m F at.forth_is)
hears_forth version room k a x F B m (Barred c b) at = absurd (none_comes m F at.forth_is)
hears_forth version room k a x F B m (LetCome c by) at = absurd (none_comes m F at.forth_is)
hears_forth version room k a x F B m (Owed c) at = absurd (none_comes m F at.forth_is)
hears_forth version room k a x F B m (Replied c r) at = absurd (none_comes m F at.forth_is)
hears_forth version room k a x F B m (Returning c r came e es) at = absurd (none_comes m F at.forth_is)
