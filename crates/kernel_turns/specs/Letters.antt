-- The letters that the events of a node mean.
use Rattle.std.specs.Prelude.{ℕ, List, ◌∷◌, ◌++◌, map, take, drop, Option, Some, None}
use Rattle.charlotte_packets.specs.Packets.{packet_picture}
use Rattle.charlotte_packets.specs.declared.picture.Picture.{Picture}
use Rattle.kernel_net.specs.declared.letter.Letter.{Letter}
use Rattle.kernel_net.specs.declared.letter.Letter.TheVariants as letter
use Rattle.kernel_outbox.specs.Letters.{markers_to}
use Rattle.kernel_step.specs.Kernel.{Kernel}
use Rattle.program_runs.specs.Local.{LocalEvent, left_by, sends_to, takes_from}

-- ---- as plain data

-- a letter: a packet, or a marker
pub data Told : Type 0 where
  APacket : Picture → Told
  AMarker : Told

abbrev pub told_of : Letter → Told
told_of (letter.Packet p) = APacket (packet_picture p)
told_of letter.Marker = AMarker

abbrev pub told : List Letter → List Told
told ls = map told_of ls

abbrev pub packets : List Picture → List Told
packets qs = map APacket qs

-- ---- what events mean

-- with a marker to a kernel, if there are so many
abbrev pub marker_told : ℕ → ℕ → List Told
marker_told kernels to = told (markers_to kernels to)

-- what a local run sends to a kernel, with the marker behind the packets of the events before it began, if it did
abbrev pub letters_of : ℕ → Option ℕ → ℕ → Kernel → List LocalEvent → List Told
letters_of kernels None to x made = packets (sends_to to x made)
letters_of kernels (Some begun) to x made =
    packets (sends_to to x (take begun made)) ++ marker_told kernels to ++ packets (sends_to to (left_by x (take begun made)) (drop begun made))

-- what a local run takes of a kernel, with the marker of that kernel behind what it had taken where it got it, if it did
abbrev pub letters_from : Option ℕ → ℕ → List LocalEvent → List Told
letters_from None from made = packets (takes_from from made)
letters_from (Some marked) from made =
    packets (takes_from from (take marked made)) ++ AMarker ∷ packets (takes_from from (drop marked made))
