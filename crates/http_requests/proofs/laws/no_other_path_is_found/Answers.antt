use Rattle.std.proofs.Common.{refl}
use Rattle.matchit.proofs.OnLiterals.{matchit_on_literals}
use Rattle.http_requests.specs.Paths.{added, with_requests, with_images, with_proposals, with_lists, with_rest, with_records, with_parts, table, listed_at}
use Rattle.http_requests.proofs.laws.no_other_path_is_found.Goals as goal

pub returns-clause-query : goal.returns-clause-query
unfolding matchit_on_literals added with_requests with_images with_proposals with_lists with_rest with_records with_parts table listed_at
returns-clause-query c = refl

pub returns-clause-end : goal.returns-clause-end
unfolding matchit_on_literals added with_requests with_images with_proposals with_lists with_rest with_records with_parts table listed_at
returns-clause-end c = refl

pub returns-clause-no_part : goal.returns-clause-no_part
unfolding matchit_on_literals added with_requests with_images with_proposals with_lists with_rest with_records with_parts table listed_at
returns-clause-no_part c = refl

pub returns-clause-no_digit : goal.returns-clause-no_digit
unfolding matchit_on_literals added with_requests with_images with_proposals with_lists with_rest with_records with_parts table listed_at
returns-clause-no_digit c = refl

pub returns-clause-leading_zero : goal.returns-clause-leading_zero
unfolding matchit_on_literals added with_requests with_images with_proposals with_lists with_rest with_records with_parts table listed_at
returns-clause-leading_zero c = refl

pub returns-clause-eight_digits : goal.returns-clause-eight_digits
unfolding matchit_on_literals added with_requests with_images with_proposals with_lists with_rest with_records with_parts table listed_at
returns-clause-eight_digits c = refl

pub returns-clause-from_no_digit : goal.returns-clause-from_no_digit
unfolding matchit_on_literals added with_requests with_images with_proposals with_lists with_rest with_records with_parts table listed_at
returns-clause-from_no_digit c = refl

pub returns-clause-from_zero : goal.returns-clause-from_zero
unfolding matchit_on_literals added with_requests with_images with_proposals with_lists with_rest with_records with_parts table listed_at
returns-clause-from_zero c = refl

pub returns-clause-with_63_digits : goal.returns-clause-with_63_digits
unfolding matchit_on_literals added with_requests with_images with_proposals with_lists with_rest with_records with_parts table listed_at
returns-clause-with_63_digits c = refl
