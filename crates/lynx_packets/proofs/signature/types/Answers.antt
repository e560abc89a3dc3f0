use Rattle.std.proofs.Common.{◌≡◌, ◌-◌, ◌++◌, length, rules, true, false, Some, None}
use Rattle.std.proofs.lemmas.Result.{err_from_is_err_and}
use Rattle.lynx_packets.specs.declared.fault.Unread.TheVariants as unread
use Rattle.lynx_packets.specs.declared.spot.Part.TheVariants.{Arguments}
use Rattle.lynx_packets.specs.declared.spot.Spot.TheVariants as spots
use Rattle.lynx_packets.specs.Spots.{types_at, is_done, type_told, link_told, listed, next_spot}
use Rattle.lynx_packets.proofs.Loop as loops
use Rattle.lynx_packets.proofs.Types.{types_done, types_fail, types_stop, types_next, goes_told}
use Rattle.lynx_packets.proofs.signature.types.Goals as goal

pub returns-in_err-byte : goal.returns-in_err-byte
returns-in_err-byte c =
    let p = err_from_is_err_and c.from_residual-in_err-byte.result c.from_residual-in_err-byte.ensures.1 in
    let s = c.loop-spot in
    let going : is_done s.spot ≡ false = search rules in
    let total = types_at 8 c.args.left (spots.Opened Arguments) c.args.bytes.now in
    rw (p.1, p.2) (loops.ends c.in_err-byte.field-0.0 s.types.items (types_at s.links s.left s.spot s.rest.now) total (types_fail c.in_err-byte.field-0.0 s.links s.left s.spot s.rest.now going c.in_err-byte.ensures) s.invariant)

pub returns-in_default : goal.returns-in_default
returns-in_default c =
    let s = c.loop-spot in
    let going : is_done s.spot ≡ false = search rules in
    let none : next_spot s.links s.left s.spot c.in_ok-byte.byte ≡ None = search rules in
    let total = types_at 8 c.args.left (spots.Opened Arguments) c.args.bytes.now in
    loops.ends (unread.Wrong (length s.rest.now)) s.types.items (types_at s.links s.left s.spot s.rest.now) total (types_stop s.links s.left s.spot s.rest.now c.in_ok-byte.byte c.in_ok-byte.after.now going c.in_ok-byte.ensures none) s.invariant

pub loop-spot-preserved : goal.loop-spot-preserved
loop-spot-preserved c =
    let s = c.loop-spot in
    let b = c.in_ok-byte.byte in
    let after = c.in_ok-byte.after.now in
    let next = c.in-Some.next in
    let going : is_done s.spot ≡ false = search rules in
    let some : next_spot s.links s.left s.spot b ≡ Some next = search rules in
    let told : c.told-told.result ≡ type_told s.spot b = c.told-told.ensures in
    let kept : c.keep.new.types.items ≡ s.types.items ++ listed (type_told s.spot b) = search rules in
    let links : c.saturating_sub-links.result ≡ s.links - link_told (type_told s.spot b) = search rules in
    let left : c.saturating_sub-left.result ≡ s.left - 1 = search rules in
    let total = types_at 8 c.args.left (spots.Opened Arguments) c.args.bytes.now in
    rw (kept, links, left) (goes_told s.types.items (type_told s.spot b) (types_at s.links s.left s.spot s.rest.now) (types_at (s.links - link_told (type_told s.spot b)) (s.left - 1) next after) total (types_next s.links s.left s.spot s.rest.now b after next going c.in_ok-byte.ensures some) s.invariant)

pub returns : goal.returns
returns c =
    let s = c.loop-spot in
    let over : is_done s.spot ≡ true = search rules in
    loops.is_done s.types.items s.rest.now (types_at s.links s.left s.spot s.rest.now) (types_at 8 c.args.left (spots.Opened Arguments) c.args.bytes.now) (types_done s.links s.left s.spot s.rest.now over) s.invariant
