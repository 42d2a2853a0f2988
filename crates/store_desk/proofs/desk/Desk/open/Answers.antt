use Rattle.store_desk.proofs.OwnedLemmas.{plainly_refused}
use Rattle.store_desk.proofs.desk.Desk.open.Goals as goal

-- the desk was opened

pub returns-in-Ok-clause-ok : goal.returns-in-Ok-clause-ok
returns-in-Ok-clause-ok g c = c.in-Ok.ensures.opened.ok

pub returns-in-Ok-clause-migrated : goal.returns-in-Ok-clause-migrated
returns-in-Ok-clause-migrated g c = c.in-Ok.ensures.opened.migrated

pub returns-in-Ok-clause-read : goal.returns-in-Ok-clause-read
returns-in-Ok-clause-read g c = c.in-Ok.ensures.opened.read

pub returns-in-Ok-clause-lives : goal.returns-in-Ok-clause-lives
returns-in-Ok-clause-lives g c = c.in-Ok.ensures.opened.lives

pub returns-in-Ok-clause-stopped : goal.returns-in-Ok-clause-stopped
returns-in-Ok-clause-stopped g c = c.in-Ok.ensures.opened.stopped

pub returns-in-Ok-clause-spares : goal.returns-in-Ok-clause-spares
returns-in-Ok-clause-spares g c = c.in-Ok.ensures.opened.spares

-- it wasn't

pub returns-in-Err-clause-other : goal.returns-in-Err-clause-other
returns-in-Err-clause-other g c = (plainly_refused g.S.Store c.args.conn c.in-Err.refused c.in-Err.refusal c.in-Err.ensures.refused).other

pub returns-in-Err-clause-unread : goal.returns-in-Err-clause-unread
returns-in-Err-clause-unread g c = (plainly_refused g.S.Store c.args.conn c.in-Err.refused c.in-Err.refusal c.in-Err.ensures.refused).unread

pub returns-in-Err-clause-known : goal.returns-in-Err-clause-known
returns-in-Err-clause-known g c = (plainly_refused g.S.Store c.args.conn c.in-Err.refused c.in-Err.refusal c.in-Err.ensures.refused).known

pub returns-in-Err-clause-known_first : goal.returns-in-Err-clause-known_first
returns-in-Err-clause-known_first g c = (plainly_refused g.S.Store c.args.conn c.in-Err.refused c.in-Err.refusal c.in-Err.ensures.refused).known_first

pub returns-in-Err-clause-found : goal.returns-in-Err-clause-found
returns-in-Err-clause-found g c = (plainly_refused g.S.Store c.args.conn c.in-Err.refused c.in-Err.refusal c.in-Err.ensures.refused).found

pub returns-in-Err-clause-failed : goal.returns-in-Err-clause-failed
returns-in-Err-clause-failed g c = (plainly_refused g.S.Store c.args.conn c.in-Err.refused c.in-Err.refusal c.in-Err.ensures.refused).failed

pub returns-in-Err-clause-refused : goal.returns-in-Err-clause-refused
returns-in-Err-clause-refused g c = (plainly_refused g.S.Store c.args.conn c.in-Err.refused c.in-Err.refusal c.in-Err.ensures.refused).refused

pub returns-in-Err-clause-spared : goal.returns-in-Err-clause-spared
returns-in-Err-clause-spared g c = (plainly_refused g.S.Store c.args.conn c.in-Err.refused c.in-Err.refusal c.in-Err.ensures.refused).spared

pub returns-in-Err-clause-named : goal.returns-in-Err-clause-named
returns-in-Err-clause-named g c = (plainly_refused g.S.Store c.args.conn c.in-Err.refused c.in-Err.refusal c.in-Err.ensures.refused).named
