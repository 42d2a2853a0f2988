-- Revocations: the entries of dbx (UEFI 2.10, 32.4.1), image digests and certificates by their TBS
-- digests.
use Rattle.std.specs.Prelude.{ℕ, Bool, List, [], ◌∷◌, ◌++◌}
use Rattle.desk_types.specs.declared.kind.ListedKind.{ListedKind}
use Rattle.desk_history.specs.Calls.{History, is_among}
use Rattle.desk_history.specs.Forces.{into_force, revoked_in}

-- the digests that some call revokes, with repeats. own: no call takes a revocation back
abbrev pub revocations : ListedKind → History → List (List ℕ)
revocations kind [] = []
revocations kind (i ∷ cs) = revoked_in kind (into_force cs i) ++ revocations kind cs

-- some call revokes the digest
abbrev pub is_revoked : ListedKind → History → List ℕ → Bool
is_revoked kind cs digest = is_among (revocations kind cs) digest
