-- Packets and their plain copies.
use Rattle.std.specs.Prelude.{ℕ, ◌^◌, Bool, true, nat_lt, ◌&&◌}
use Rattle.std.specs.List.{list_all}
use Rattle.charlotte_packets.specs.declared.picture.MovingPicture.{MovingPicture}
use Rattle.charlotte_packets.specs.declared.picture.Picture.{Picture}
use Rattle.charlotte_packets.specs.declared.picture.PictureWhat.{PictureWhat}
use Rattle.charlotte_packets.specs.declared.picture.PictureWhat.TheVariants as picture
use Rattle.charlotte_packets.specs.declared.packet.Packet.{Packet}
use Rattle.charlotte_packets.specs.declared.packet.What.{What}
use Rattle.charlotte_packets.specs.declared.packet.What.TheVariants as packet

-- what a packet tells, as plain data
abbrev pub what_picture : What → PictureWhat
what_picture (packet.Want to w at hops) = picture.Want to w at hops
what_picture (packet.Unwant to w at hops) = picture.Unwant to w at hops
what_picture (packet.Unwanted to w at hops) = picture.Unwanted to w at hops
what_picture (packet.Parcel to n w at hops bytes moving) = picture.Parcel to n w at hops bytes moving
what_picture (packet.Taken to n at hops) = picture.Taken to n at hops
what_picture (packet.Back to n moving) = picture.Back to n moving
what_picture (packet.Gone to at) = picture.Gone to at
what_picture (packet.Moved to at hops) = picture.Moved to at hops
what_picture (packet.Known to hops) = picture.Known to hops
what_picture (packet.Forget to hops) = picture.Forget to hops
what_picture (packet.GoneSeen to) = picture.GoneSeen to

-- a packet as plain data
abbrev pub packet_picture : Packet → Picture
packet_picture p = record { stamp = p.stamp; what = what_picture p.what }

-- the kernel of the hint and each kernel of the trail, whose bit is 2 to its number, is below this number
abbrev pub names_kernels_below : ℕ → MovingPicture → Bool
names_kernels_below kernels m = nat_lt m.hint.0 kernels && nat_lt m.trail (2 ^ kernels)

-- each kernel that the packet names is below this number
abbrev pub is_addressed : PictureWhat → ℕ → Bool
is_addressed (picture.Want to w at hops) kernels = nat_lt at kernels
is_addressed (picture.Unwant to w at hops) kernels = nat_lt at kernels
is_addressed (picture.Unwanted to w at hops) kernels = nat_lt at kernels
is_addressed (picture.Parcel to n w at hops bytes moving) kernels = nat_lt at kernels && list_all (names_kernels_below kernels) moving
is_addressed (picture.Taken to n at hops) kernels = nat_lt at kernels
is_addressed (picture.Back to n moving) kernels = list_all (names_kernels_below kernels) moving
is_addressed (picture.Gone to at) kernels = nat_lt at kernels
is_addressed (picture.Moved to at hops) kernels = nat_lt at kernels
is_addressed (picture.Known to hops) kernels = true
is_addressed (picture.Forget to hops) kernels = true
is_addressed (picture.GoneSeen to) kernels = true
