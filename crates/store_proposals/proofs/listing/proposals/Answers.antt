use Rattle.std.proofs.Common.{true, map, subst, arith}
use Rattle.sqlite.specs.Held.{state}
use Rattle.sqlite.specs.State.{HasCleanDisk}
use Rattle.store_schema.specs.Tables as tables
use Rattle.store_reads.specs.ProposalColumns.{head_columns, head_of}
use Rattle.store_reads.specs.Reads.{AreFound, ReadsTables}
use Rattle.store_reads.proofs.TellsLemmas.{tells_so, tells_then}
use Rattle.store_proposals.specs.Listing.{AreListed, AreTold}
use Rattle.store_proposals.proofs.HeadLemmas.{all_shown}
use Rattle.store_proposals.proofs.listing.proposals.Goals as goal

pub returns-clause-value : goal.returns-clause-value
returns-clause-value g c clean inside =
    let s0 = state g.S.Store c.args.tx.now.conn.now in
    let s1 = state g.S.Store c.heads_all.new.tx.conn.now in
    let s2 = state g.S.Store c.all_of.new.tx.conn.now in
    let c1 : HasCleanDisk s1 = omega (arith, c.in_ok-shown.ensures.survives.clean, clean) in
    let heads = c.in_ok-heads.heads.items in
    let shown = c.in_ok-shown.shown.items in
    let a = c.in_ok-heads.ensures.value c1 inside in
    let b : ReadsTables (AreTold heads shown) s1 s2 = c.in_ok-shown.ensures.value clean a.kept.inside in
    tells_so s0 s2 (λ t. AreFound head_columns tables.proposals 1 (λ h. true) (map head_of t.proposals) heads × AreTold heads shown t) (AreListed shown)
    (λ t both. (heads, both.0, λ can. all_shown t heads shown both.0 can (both.1 can.stamped)))
    (tells_then s0 s1 s2 (λ t. AreFound head_columns tables.proposals 1 (λ h. true) (map head_of t.proposals) heads) (AreTold heads shown) a b)
