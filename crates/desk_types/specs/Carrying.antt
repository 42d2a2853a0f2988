-- The count of certificates that an image carries.
use Rattle.std.specs.Prelude.{◌<◌, ℕ, List, length}
use Rattle.base.specs.Digests.{IsArranged}
use Rattle.base.specs.Limits.{most_certificates}

-- own: there are more different digests than an image may carry
pub record HasMore (digests : List (List ℕ)) : Type 0 where
  pub arranged : List (List ℕ)
  pub is : IsArranged digests arranged
  pub many : most_certificates < length arranged
