use Rattle.std.proofs.Common.{sym}
use Rattle.http_requests.proofs.TagLemmas.{short_tag}
use Rattle.http_requests.proofs.tags.digest_in_tag.Goals as goal

pub returns-then-text-lt65 : goal.returns-then-text-lt65
returns-then-text-lt65 c = sym (short_tag c.args.text.now c.if-text-lt65.true)
