-- Events, and then more of them.
use Rattle.std.proofs.Common.{◌≡◌, List, [], ◌∷◌, ◌++◌, refl, ap}
use Rattle.kernel_world.specs.World.{World, Event, happens, after, noted, noted_as}

-- the world after events, and then more of them
pub after-append : (w : World) (es fs : List Event) → after w (es ++ fs) ≡ after (after w es) fs
after-append w [] fs = refl
after-append w (e ∷ es) fs = after-append (happens w e) es fs

-- their entries
pub noted-append : (w : World) (es fs : List Event) → noted w (es ++ fs) ≡ noted w es ++ noted (after w es) fs
noted-append w [] fs = refl
noted-append w (e ∷ es) fs = ap (λ ns. noted_as w e ∷ ns) (noted-append (happens w e) es fs)
