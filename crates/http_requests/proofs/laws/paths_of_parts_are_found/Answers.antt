use Rattle.std.proofs.Common.{refl}
use Rattle.hex.specs.Hex.{decode_pairs}
use Rattle.matchit.proofs.OnLiterals.{matchit_on_literals}
use Rattle.http_requests.specs.Paths.{added, with_requests, with_images, with_proposals, with_lists, with_rest, with_records, with_parts, table, listed_at}
use Rattle.http_requests.proofs.laws.paths_of_parts_are_found.Goals as goal

pub returns-clause-requests : goal.returns-clause-requests
unfolding matchit_on_literals added with_requests with_images with_proposals with_lists with_rest with_records with_parts table listed_at
returns-clause-requests c = refl

pub returns-clause-digest : goal.returns-clause-digest
unfolding decode_pairs matchit_on_literals added with_requests with_images with_proposals with_lists with_rest with_records with_parts table listed_at
returns-clause-digest c = refl

pub returns-clause-upper_case : goal.returns-clause-upper_case
unfolding decode_pairs matchit_on_literals added with_requests with_images with_proposals with_lists with_rest with_records with_parts table listed_at
returns-clause-upper_case c = refl

pub returns-clause-proposals : goal.returns-clause-proposals
unfolding matchit_on_literals added with_requests with_images with_proposals with_lists with_rest with_records with_parts table listed_at
returns-clause-proposals c = refl

pub returns-clause-waiting : goal.returns-clause-waiting
unfolding matchit_on_literals added with_requests with_images with_proposals with_lists with_rest with_records with_parts table listed_at
returns-clause-waiting c = refl

pub returns-clause-changes : goal.returns-clause-changes
unfolding matchit_on_literals added with_requests with_images with_proposals with_lists with_rest with_records with_parts table listed_at
returns-clause-changes c = refl

pub returns-clause-no_number : goal.returns-clause-no_number
unfolding matchit_on_literals added with_requests with_images with_proposals with_lists with_rest with_records with_parts table listed_at
returns-clause-no_number c = refl

pub returns-clause-no_digest : goal.returns-clause-no_digest
unfolding matchit_on_literals added with_requests with_images with_proposals with_lists with_rest with_records with_parts table listed_at
returns-clause-no_digest c = refl
