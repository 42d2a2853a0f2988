use Rattle.std.proofs.Common.{arith}
use Rattle.siglist.proofs.ChainLemmas.{lack_at-none}
use Rattle.siglist.proofs.list.front.Goals as goal

pub u32_at-size-requires : goal.u32_at-size-requires
u32_at-size-requires c = let h = lack_at-none c.args.bytes.now c.requires in let long = h.long in omega (arith, long)

pub u32_at-header_size-requires : goal.u32_at-header_size-requires
u32_at-header_size-requires c = let h = lack_at-none c.args.bytes.now c.requires in let long = h.long in omega (arith, long)

pub u32_at-entry_size-requires : goal.u32_at-entry_size-requires
u32_at-entry_size-requires c = let h = lack_at-none c.args.bytes.now c.requires in h.long

pub cut-requires-clause-room : goal.cut-requires-clause-room
cut-requires-clause-room c =
    let h = lack_at-none c.args.bytes.now c.requires in
    let room = h.room in
    let list = c.u32_at-size.ensures in
    let header = c.u32_at-header_size.ensures in
    omega (arith, room, list, header)

pub cut-requires-clause-fits : goal.cut-requires-clause-fits
cut-requires-clause-fits c =
    let h = lack_at-none c.args.bytes.now c.requires in
    let fits = h.fits in
    let list = c.u32_at-size.ensures in
    omega (arith, fits, list)

pub cut-requires-clause-least : goal.cut-requires-clause-least
cut-requires-clause-least c =
    let h = lack_at-none c.args.bytes.now c.requires in
    let least = h.least in
    let entry = c.u32_at-entry_size.ensures in
    omega (arith, least, entry)
