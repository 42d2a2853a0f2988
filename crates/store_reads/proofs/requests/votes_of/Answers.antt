use Rattle.std.proofs.Common.{refl, [], ◌∷◌, ◌==◌, pos, codes}
use Rattle.sqlite.specs.Held.{state}
use Rattle.sqlite.specs.declared.types.Value.TheVariants.{Int}
use Rattle.store_schema.specs.Columns.{columns_after, names_of}
use Rattle.store_schema.specs.Named.{equals}
use Rattle.store_schema.specs.Tables as tables
use Rattle.store_schema.specs.declared.selecting.TheConstants.{SELECT_VOTES}
use Rattle.store_schema.proofs.SelectFacts as facts
use Rattle.desk_history.specs.Tables.{Tables}
use Rattle.store_schema.specs.rows.Values as values
use Rattle.store_reads.proofs.FindLemmas.{tells_rows}
use Rattle.store_reads.proofs.KeyLemmas.{is_vote}
use Rattle.store_reads.proofs.requests.votes_of.Goals as goal

pub returns-clause-value : goal.returns-clause-value
returns-clause-value g c clean inside =
    tells_rows 6 tables.votes SELECT_VOTES.now (equals tables.votes (codes "request") 0 ∷ []) 2 (columns_after 2 tables.votes) (names_of tables.votes) facts.select_votes values.vote_values values.vote_values (λ (t : Tables). t.votes) (λ t. refl)
    (Int (pos c.args.request) ∷ []) (λ x. refl) (λ r. c.args.request == r.request) (is_vote c.args.request)
    (state g.S.Store c.args.tx.now.conn.now) (state g.S.Store c.rows_of.new.tx.conn.now) c.in_ok-rows.rows.items
    (rw (c.params-to_sql.ensures, c.key_of-key.ensures) at (c.in_ok-rows.ensures.value clean inside))
