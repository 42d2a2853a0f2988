use Rattle.desk_types.proofs.ReplyLemmas.{reply_text_of-same}
use Rattle.desk_types.proofs.laws.reply_texts_differ.Goals as goal

pub returns : goal.returns
returns c = reply_text_of-same
