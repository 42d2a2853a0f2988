use Rattle.httparse.proofs.GrammarLemmas.{request_unique}
use Rattle.http_requests.proofs.heads.laws.head_is_one.Goals as goal

pub returns : goal.returns
returns c = λ b h k rest others first second. request_unique b h k rest others first.reads second.reads
