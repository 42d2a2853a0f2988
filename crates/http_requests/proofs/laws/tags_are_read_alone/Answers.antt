use Rattle.http_requests.proofs.TagLemmas.{tag_found, tag_only}
use Rattle.http_requests.proofs.laws.tags_are_read_alone.Goals as goal

pub returns : goal.returns
returns c = record { found = tag_found; only = tag_only }
