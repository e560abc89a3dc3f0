-- Letters, and which of them a ring takes.
use Rattle.std.specs.Prelude.{◌≢◌, ◌-◌, ◌<◌, ◌^◌, ℕ, List, All}
use Rattle.kernel_net.specs.declared.letter.Letter.{Letter}
use Rattle.kernel_net.specs.declared.letter.Letter.TheVariants.{Packet, Marker}

-- the greatest stamp: a kernel's stamp stays there, so none of its packets is put
abbrev pub greatest_stamp : ℕ
greatest_stamp = 2 ^ 64 - 1

-- behind these letters of a ring this one may be put: a packet whose stamp is below the greatest, or the first marker
abbrev pub MayBePut : List Letter → Letter → Type 0
MayBePut before (Packet p) = p.stamp < greatest_stamp
MayBePut before Marker = All (λ l. l ≢ Marker) before
