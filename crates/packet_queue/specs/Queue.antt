-- Packets that wait, as plain data.
use Rattle.std.specs.Prelude.{ℕ, List, [], ◌++◌, map}
use Rattle.charlotte_packets.specs.Packets.{packet_picture, what_picture}
use Rattle.charlotte_packets.specs.declared.packet.Packet.{Packet}
use Rattle.charlotte_packets.specs.declared.picture.Picture.{Picture}
use Rattle.charlotte_packets.specs.declared.picture.PictureWhat.{PictureWhat}
use Rattle.charlotte_packets.specs.declared.picture.PictureWhat.TheVariants as picture
use Rattle.packet_queue.specs.declared.packed.Letter.{Letter}
use Rattle.packet_queue.specs.declared.packed.Packed.{Packed}
use Rattle.packet_queue.specs.declared.packed.Told.{Told}
use Rattle.packet_queue.specs.declared.packed.Told.TheVariants as kept
use Rattle.packet_queue.specs.declared.queue.OpenQueue.{OpenQueue}

-- the parcel of a message that carries no ends
abbrev pub letter_told : Letter → PictureWhat
letter_told l = picture.Parcel l.to l.n l.w l.at l.hops l.bytes []

-- what a packed packet tells
abbrev pub what_told : Told → PictureWhat
what_told (kept.Want to w at hops) = picture.Want to w at hops
what_told (kept.Unwant to w at hops) = picture.Unwant to w at hops
what_told (kept.Unwanted to w at hops) = picture.Unwanted to w at hops
what_told (kept.Taken to n at hops) = picture.Taken to n at hops
what_told (kept.Gone to at) = picture.Gone to at
what_told (kept.Moved to at hops) = picture.Moved to at hops
what_told (kept.Known to hops) = picture.Known to hops
what_told (kept.Forget to hops) = picture.Forget to hops
what_told (kept.GoneSeen to) = picture.GoneSeen to
what_told (kept.Letter letter) = letter_told letter.value
what_told (kept.Laden packet) = what_picture packet.value.what

abbrev pub packed_picture : Packed → Picture
packed_picture p = record { stamp = p.stamp; what = what_told p.told }

-- a packet that an event gave, with the kernel that it goes to
abbrev pub picture_in : ℕ × Packet → Picture
picture_in sent = packet_picture sent.1

-- the packets that lie as they were sent, and those that are packed, behind them
abbrev pub pictures : List (ℕ × Packet) → List Packed → List Picture
pictures front behind = map picture_in front ++ map packed_picture behind

-- the packets of a queue that is open
abbrev pub waiting : OpenQueue → List Picture
waiting queue = pictures queue.front.items queue.behind.items
