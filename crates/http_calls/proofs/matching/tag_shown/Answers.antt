use Rattle.http_calls.proofs.MatchLemmas.{store_told, tells_given, tells_shut, told_reopen, told_store}
use Rattle.http_calls.proofs.matching.tag_shown.Goals as goal

pub returns-clause-given : goal.returns-clause-given
returns-clause-given g c = λ clean.
    tells_given c.args.person.now c.in-Ok.reader c.args.subject c.reading_of.result c.in-Ok.ensures.cases c.reading_of.ensures c.read.result c.tag_told.result c.tag_told.ensures.tells
    (g.D.AnswersCalls.shows c.args.desk.now) (c.read.ensures.given clean) (c.read.ensures.refused clean)

pub returns-clause-same : goal.returns-clause-same
returns-clause-same g c = λ clean no. c.read.ensures.same clean (λ e. no (store_told c.read.result c.tag_told.result c.tag_told.ensures.tells e))

pub returns-clause-usable : goal.returns-clause-usable
returns-clause-usable g c = λ owner cs was e.
    c.read.ensures.fails.usable owner cs was (told_reopen c.read.result c.tag_told.result c.tag_told.ensures.tells e)

pub returns-clause-poisons : goal.returns-clause-poisons
returns-clause-poisons g c = λ e. c.read.ensures.fails.poisons (told_store c.read.result c.tag_told.result c.tag_told.ensures.tells e)

pub returns-clause-closed : goal.returns-clause-closed
returns-clause-closed g c was =
    let shut = c.read.ensures.fails.closed was in
    (shut.1, tells_shut c.args.person.now c.in-Ok.reader c.args.subject c.reading_of.result c.in-Ok.ensures.cases c.reading_of.ensures c.read.result c.tag_told.result c.tag_told.ensures.tells shut.0)
