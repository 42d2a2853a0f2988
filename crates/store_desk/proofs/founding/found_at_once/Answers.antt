use Rattle.std.proofs.Common.{◌≡◌, ◌∙◌, [], rules, ap, subst, arith, IsTrue}
use Rattle.sqlite.specs.Held.{Held, state}
use Rattle.sqlite.specs.State.{HasCleanDisk, Survives}
use Rattle.store_schema.specs.Tables.{no_schema}
use Rattle.store_sql.proofs.CommitLemmas.{failed_leaves, failed_shows, failed_spares, leaves_made, worked}
use Rattle.store_sql.specs.Faults.{refusal_of}
use Rattle.store_schema.specs.rows.Histories.{ShowsHistory}
use Rattle.store_desk.specs.Founding.{Founded, HasFoundedBeside}
use Rattle.store_desk.specs.Steps.{MakesDesk}
use Rattle.store_desk.proofs.FoundingLemmas.{founded_beside, founded_shown, founded_trees}
use Rattle.store_desk.proofs.founding.found_at_once.Goals as goal

-- the commit was made
pub returns-in-Ok-commit-clause-ok : goal.returns-in-Ok-commit-clause-ok
returns-in-Ok-commit-clause-ok g c =
    let old = c.args.conn.now in
    let owner = c.args.owner.now in
    let last = c.found.new.tx.conn.now in
    let e = c.in-Ok.ensures in
    let did = worked g.S.Store old _ last (λ before after. MakesDesk before after owner) c.transaction-tx.ensures.begun e.value e.inside e.kept e.survives in
    let same : c.commit.new.self.0 ≡ c.conn-1.given.0 = search rules in
    subst (λ (x : Held _). HasCleanDisk (state g.S.Store x) → IsTrue (state g.S.Store x).is_open × ((state g.S.Store old).now.schema ≡ no_schema → ShowsHistory (state g.S.Store x) owner []))
    same
    (λ clean. founded_shown g.S.Store old last owner (λ live. (c.schema-sound.ensures.live live).0) did c.commit.new.self.0
    (omega (arith, c.in-Ok-commit.ensures.survives.clean, clean)) (c.in-Ok-commit.ensures.ok clean).1)

pub returns-in-Ok-commit-clause-beside : goal.returns-in-Ok-commit-clause-beside
returns-in-Ok-commit-clause-beside g c =
    let old = c.args.conn.now in
    let owner = c.args.owner.now in
    let last = c.found.new.tx.conn.now in
    let e = c.in-Ok.ensures in
    let did = worked g.S.Store old _ last (λ before after. MakesDesk before after owner) c.transaction-tx.ensures.begun e.value e.inside e.kept e.survives in
    let same : c.commit.new.self.0 ≡ c.conn-1.given.0 = search rules in
    subst (λ (x : Held _). HasCleanDisk (state g.S.Store x) → HasFoundedBeside (state g.S.Store old) (state g.S.Store x) owner) same
    (λ clean. founded_beside g.S.Store old last owner (λ live. (c.schema-sound.ensures.live live).0) did c.commit.new.self.0
    (omega (arith, c.in-Ok-commit.ensures.survives.clean, clean)) (c.in-Ok-commit.ensures.ok clean).1)

pub returns-in-Ok-commit-clause-survives : goal.returns-in-Ok-commit-clause-survives
returns-in-Ok-commit-clause-survives g c =
    let old = c.args.conn.now in
    let owner = c.args.owner.now in
    let last = c.found.new.tx.conn.now in
    let e = c.in-Ok.ensures in
    let did = worked g.S.Store old _ last (λ before after. MakesDesk before after owner) c.transaction-tx.ensures.begun e.value e.inside e.kept e.survives in
    let same : c.commit.new.self.0 ≡ c.conn-1.given.0 = search rules in
    subst (λ (x : Held _). Survives (state g.S.Store old) (state g.S.Store x) (Founded (state g.S.Store old) owner))
    same
    (leaves_made g.S.Store old last c.commit.new.self.0 (λ before after. MakesDesk before after owner) (Founded (state g.S.Store old) owner) did
    c.in-Ok-commit.ensures.survives (founded_trees g.S.Store old last owner (λ live. (c.schema-sound.ensures.live live).0) did))

-- the commit failed

pub returns-in-Err-commit-clause-kept : goal.returns-in-Err-commit-clause-kept
returns-in-Err-commit-clause-kept g c clean other =
    let old = c.args.conn.now in
    let owner = c.args.owner.now in
    let last = c.found.new.tx.conn.now in
    let e = c.in-Ok.ensures in
    let did = worked g.S.Store old _ last (λ before after. MakesDesk before after owner) c.transaction-tx.ensures.begun e.value e.inside e.kept e.survives in
    λ schema contents shows. failed_shows g.S.Store old last c.commit.new.self.0 c.conn-1.given.0 c.failed_commit.new.conn (λ before after. MakesDesk before after owner) c.in-Err-commit.error did
    (search rules) c.in-Err-commit.ensures.survives c.in-Err-commit.ensures.err c.failed_commit.ensures.survives
    (λ late. c.failed_commit.ensures.open late (λ is. other (c.refusal.ensures ∙ ap refusal_of is))) schema contents clean shows

pub returns-in-Err-commit-clause-unwritten : goal.returns-in-Err-commit-clause-unwritten
returns-in-Err-commit-clause-unwritten g c other =
    let old = c.args.conn.now in
    let last = c.found.new.tx.conn.now in
    let owner = c.args.owner.now in
    let e = c.in-Ok.ensures in
    let did = worked g.S.Store old _ last (λ before after. MakesDesk before after owner) c.transaction-tx.ensures.begun e.value e.inside e.kept e.survives in
    failed_spares g.S.Store old last c.commit.new.self.0 c.conn-1.given.0 c.failed_commit.new.conn (λ before after. MakesDesk before after owner) c.in-Err-commit.error did
    (search rules) c.in-Err-commit.ensures.survives c.in-Err-commit.ensures.err c.failed_commit.ensures.survives
    (λ late. c.failed_commit.ensures.open late (λ is. other (c.refusal.ensures ∙ ap refusal_of is)))
    (λ db live may. g.met.S.Store.settled c.conn-1.given.0.store db live may) (λ live. g.met.S.Store.stays old.store live)

pub returns-in-Err-commit-clause-survives : goal.returns-in-Err-commit-clause-survives
returns-in-Err-commit-clause-survives g c =
    let old = c.args.conn.now in
    let owner = c.args.owner.now in
    let last = c.found.new.tx.conn.now in
    let e = c.in-Ok.ensures in
    let did = worked g.S.Store old _ last (λ before after. MakesDesk before after owner) c.transaction-tx.ensures.begun e.value e.inside e.kept e.survives in
    failed_leaves g.S.Store old last c.commit.new.self.0 c.conn-1.given.0 c.failed_commit.new.conn (λ before after. MakesDesk before after owner) c.in-Err-commit.error did
    (search rules) c.in-Err-commit.ensures.survives c.in-Err-commit.ensures.err c.failed_commit.ensures.survives
    (Founded (state g.S.Store old) owner) (founded_trees g.S.Store old last owner (λ live. (c.schema-sound.ensures.live live).0) did)
