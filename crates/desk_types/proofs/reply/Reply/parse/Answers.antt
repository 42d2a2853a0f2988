use Rattle.std.proofs.Common.{sym, ◌∙◌}
use Rattle.desk_types.proofs.ReplyLemmas.{reply_text_of-same}
use Rattle.desk_types.proofs.reply.Reply.parse.Goals as goal

pub returns-in-Some-clause-found : goal.returns-in-Some-clause-found
returns-in-Some-clause-found c = λ reply form same.
    let read = c.in-Some.ensures.found in
    reply_text_of-same c.in-Some.reply reply read.0 form (sym read.1 ∙ same)
