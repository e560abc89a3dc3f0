-- What the values of ends, and packets, are: a number is below the bound of its type, and a list is no longer than its type allows.
use Rattle.std.specs.Prelude.{◌≤◌, List, length}
use Rattle.std.specs.List.{AllByRecursion}
use Rattle.charlotte_calls.specs.Ranges.{AreBytesInRange, IsEnd, IsU32, IsU64, IsU8}
use Rattle.charlotte_packets.specs.declared.picture.MovingPicture.{MovingPicture}
use Rattle.charlotte_packets.specs.declared.picture.Picture.{Picture}
use Rattle.charlotte_packets.specs.declared.picture.PictureWhat.{PictureWhat}
use Rattle.charlotte_packets.specs.declared.picture.PictureWhat.TheVariants as packet

-- the value of an end
pub record IsValueInRange (v : MovingPicture) : Type 0 where
  pub end : IsEnd v.end
  pub hops : IsU32 v.hops
  pub hint_kernel : IsU8 v.hint.0
  pub hint_hops : IsU32 v.hint.1
  pub sent : IsU32 v.sent
  pub asked : IsU32 v.asked
  pub served : IsU32 v.served
  pub want : IsU32 v.want
  pub trail : IsU8 v.trail

-- the values that a packet carries
pub record AreValuesInRange (values : List MovingPicture) : Type 0 where
  pub each : AllByRecursion IsValueInRange values
  pub few : length values ≤ 8

-- a packet
abbrev pub IsPacketInRange : PictureWhat → Type 0
IsPacketInRange (packet.Want to w at hops) = IsEnd to × IsU32 w × IsU8 at × IsU32 hops
IsPacketInRange (packet.Unwant to w at hops) = IsEnd to × IsU32 w × IsU8 at × IsU32 hops
IsPacketInRange (packet.Unwanted to w at hops) = IsEnd to × IsU32 w × IsU8 at × IsU32 hops
IsPacketInRange (packet.Parcel to n w at hops bytes moving) =
    IsEnd to × IsU32 n × IsU32 w × IsU8 at × IsU32 hops × AreBytesInRange bytes × AreValuesInRange moving
IsPacketInRange (packet.Taken to n at hops) = IsEnd to × IsU32 n × IsU8 at × IsU32 hops
IsPacketInRange (packet.Back to n moving) = IsEnd to × IsU32 n × AreValuesInRange moving
IsPacketInRange (packet.Gone to at) = IsEnd to × IsU8 at
IsPacketInRange (packet.Moved to at hops) = IsEnd to × IsU8 at × IsU32 hops
IsPacketInRange (packet.Known to hops) = IsEnd to × IsU32 hops
IsPacketInRange (packet.Forget to hops) = IsEnd to × IsU32 hops
IsPacketInRange (packet.GoneSeen to) = IsEnd to

-- a packet with its stamp
pub record IsPictureInRange (p : Picture) : Type 0 where
  pub stamp : IsU64 p.stamp
  pub what : IsPacketInRange p.what
