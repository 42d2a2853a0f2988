use Rattle.std.proofs.Common.{refl}
use Rattle.matchit.proofs.OnLiterals.{matchit_on_literals}
use Rattle.http_requests.specs.Paths.{added, with_requests, with_images, with_proposals, with_lists, with_rest, with_records, with_parts, table, listed_at}
use Rattle.http_requests.proofs.laws.paths_of_proposals_are_found.Goals as goal

pub returns : goal.returns
unfolding matchit_on_literals added with_requests with_images with_proposals with_lists with_rest with_records with_parts table listed_at
returns c = record { proposals = refl; proposal = refl; impact = refl; confirm = refl; drop = refl; explain = refl; no_number = refl }
