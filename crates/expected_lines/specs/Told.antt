-- What the line of a packet tells of it.
use Rattle.charlotte_packets.specs.declared.picture.Picture.{Picture}
use Rattle.charlotte_packets.specs.declared.picture.PictureWhat.{PictureWhat}

-- a packet as its line tells it, which shows no stamp
abbrev pub told_packet : PictureWhat → Picture
told_packet what = record { stamp = 0; what = what }
