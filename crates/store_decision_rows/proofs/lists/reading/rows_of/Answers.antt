use Rattle.std.proofs.Common.{arith}
use Rattle.sqlite.specs.Held.{state}
use Rattle.sqlite.specs.State.{HasCleanDisk}
use Rattle.desk_types.specs.declared.kind.ListedKind.TheVariants as kinds
use Rattle.store_schema.specs.rows.Contents.{contents}
use Rattle.store_schema.specs.Tables.{desk_layout}
use Rattle.store_sql.proofs.StopLemmas.{changes_then}
use Rattle.store_decision_rows.specs.lists.Gathering.{keys_of}
use Rattle.store_decision_rows.proofs.ShownLemmas.{gathered_components, gathered_revoked, shows_lists}
use Rattle.store_decision_rows.proofs.lists.reading.rows_of.Goals as goal

pub returns-clause-value : goal.returns-clause-value
returns-clause-value g c clean inside =
    let at0 = state g.S.Store c.args.tx.now.conn.now in
    let at1 = state g.S.Store c.listings.new.tx.conn.now in
    let at2 = state g.S.Store c.gather_revoked.new.tx.conn.now in
    let at3 = state g.S.Store c.gather_revoked-2.new.tx.conn.now in
    let at4 = state g.S.Store c.gather_components.new.tx.conn.now in
    let listed = c.in_ok-listed.ensures in
    let images = c.in_ok-gather_revoked.ensures in
    let certificates = c.in_ok-gather_revoked-2.ensures in
    let components = c.in_ok-gather_components.ensures in
    let clean3 : HasCleanDisk at3 = omega (arith, components.survives.clean, clean) in
    let clean2 : HasCleanDisk at2 = omega (arith, certificates.survives.clean, clean3) in
    let clean1 : HasCleanDisk at1 = omega (arith, images.survives.clean, clean2) in
    let b = listed.value clean1 inside in
    let d = images.value clean2 b.kept.inside in
    let e = certificates.value clean3 d.kept.inside in
    let f = components.value clean e.kept.inside in
    record {
      kept = changes_then desk_layout contents at0 at1 at4 (λ t. t) (λ t. t) b.kept
          (changes_then desk_layout contents at1 at2 at4 (λ t. t) (λ t. t) d.kept
          (changes_then desk_layout contents at2 at3 at4 (λ t. t) (λ t. t) e.kept f.kept));
      tells = λ t sees.
          let sees1 = b.kept.value t sees in
          let sees2 = d.kept.value t sees1 in
          let sees3 = e.kept.value t sees2 in
          shows_lists _ (keys_of c.args.listed c.args.revoked c.args.named.now) t (b.tells t sees)
          (gathered_revoked kinds.Digest c.args.revoked.images.now c.new-images.result.items c.gather_revoked.new.rows.items c.new-images.ensures.items t (d.tells t sees1))
          (gathered_revoked kinds.Certificate c.args.revoked.certificates.now c.new-certificates.result.items c.gather_revoked-2.new.rows.items c.new-certificates.ensures.items t (e.tells t sees2))
          (gathered_components c.args.named.now c.new-components.result.items c.gather_components.new.rows.items c.new-components.ensures.items t (f.tells t sees3));
    }

pub returns-clause-inside : goal.returns-clause-inside
returns-clause-inside g c some clean inside =
    let at1 = state g.S.Store c.listings.new.tx.conn.now in
    let at2 = state g.S.Store c.gather_revoked.new.tx.conn.now in
    let at3 = state g.S.Store c.gather_revoked-2.new.tx.conn.now in
    let images = c.in_ok-gather_revoked.ensures in
    let certificates = c.in_ok-gather_revoked-2.ensures in
    let components = c.in_ok-gather_components.ensures in
    let clean3 : HasCleanDisk at3 = omega (arith, components.survives.clean, clean) in
    let clean2 : HasCleanDisk at2 = omega (arith, certificates.survives.clean, clean3) in
    let clean1 : HasCleanDisk at1 = omega (arith, images.survives.clean, clean2) in
    let a = c.in_ok-listed.ensures.inside some clean1 inside in
    let d = images.value clean2 a.1 in
    let e = certificates.value clean3 d.kept.inside in
    let f = components.value clean e.kept.inside in
    (f.kept.is_open (e.kept.is_open (d.kept.is_open a.0)), f.kept.inside)
