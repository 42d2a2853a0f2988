use Rattle.std.proofs.Common.{◌∙◌, sym}
use Rattle.store_desk.proofs.ClosingLemmas.{copied_rows, fails_for, found_rows, rows_left}
use Rattle.store_desk.proofs.closing.Desk+FileStore+D.close.Goals as goal

pub returns-in-Ok-clause-copied : goal.returns-in-Ok-clause-copied
returns-in-Ok-clause-copied g c clean = copied_rows c.args.self c.in-Ok.files (c.in-Ok.ensures.copied clean)

pub returns-in-Ok-clause-found : goal.returns-in-Ok-clause-found
returns-in-Ok-clause-found g c = found_rows c.args.self c.in-Ok.files c.in-Ok.ensures.copied

pub returns-then-needs_reopening-clause-stopped : goal.returns-then-needs_reopening-clause-stopped
returns-then-needs_reopening-clause-stopped g c = rows_left c.args.self c.into_store.result c.into_store.ensures.quiet

pub returns-clause-stopped : goal.returns-clause-stopped
returns-clause-stopped g c = rows_left c.args.self c.in-Err.store c.in-Err.ensures.err.0.quiet

pub returns-clause-device : goal.returns-clause-device
returns-clause-device g c clean store = fails_for c.args.self c.in-Err.store c.in-Err.error (c.in-Err.ensures.err.1 clean) (sym c.refusal_of_error.ensures ∙ store)
