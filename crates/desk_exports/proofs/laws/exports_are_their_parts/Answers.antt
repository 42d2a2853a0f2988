use Rattle.std.proofs.Common.{◌++◌, ap, map}
use Rattle.sbat.specs.Writing.{head_text}
use Rattle.desk_types.specs.declared.kind.ListedKind.TheVariants as kinds
use Rattle.desk_history.specs.Level.{stamp}
use Rattle.desk_exports.specs.Exports.{entries_of, level_components, revoked, revoked_bodies, revoked_bodiless}
use Rattle.desk_exports.proofs.PartLemmas.{db-parts, dbx-parts, rows-parts, shim-parts}
use Rattle.desk_exports.proofs.laws.exports_are_their_parts.Goals as goal

pub returns-clause-dbx : goal.returns-clause-dbx
returns-clause-dbx c owner cs = dbx-parts owner (revoked kinds.Digest cs) (revoked kinds.Certificate cs)

pub returns-clause-shim : goal.returns-clause-shim
returns-clause-shim c owner cs = shim-parts owner (revoked kinds.Digest cs) (revoked_bodies cs) (revoked_bodiless cs)

pub returns-clause-db : goal.returns-clause-db
returns-clause-db c owner cs = db-parts owner (map (λ e. e.digest) (entries_of kinds.Digest cs)) (entries_of kinds.Certificate cs)

pub returns-clause-level : goal.returns-clause-level
returns-clause-level c cs = ap (λ lines. head_text (stamp cs) ++ lines) (rows-parts (level_components cs))
