-- Worked histories between which exports grow, and don't.
use Rattle.std.specs.Prelude.{◌≡◌, ◌≤◌, ℕ, true, false, List, [], ◌∷◌, codes}
use Rattle.siglist.specs.Kinds.{x509_kind, x509_sha256_kind}
use Rattle.siglist.specs.SignatureLists.{Entry}
use Rattle.siglist.specs.Writing.{digest_entry, entry_of, no_time}
use Rattle.desk_types.specs.declared.command.Command.TheVariants as command
use Rattle.desk_history.specs.Calls.{History, item}
use Rattle.desk_history.specs.Level.{stamp}
use Rattle.desk_history.specs.Worked.{by, digest, officers_added, raise}
use Rattle.desk_history.specs.Worked.Levels as levels
use Rattle.desk_history.specs.Worked.Proposals as proposals
use Rattle.desk_exports.specs.Exports.{dbx_lists, level_components, shim_lists}
use Rattle.desk_exports.specs.Worked.{owner}
use Rattle.desk_minutes.specs.Growth.{HaveAll, RequireAll, has_entry}

-- the level requires generation 2 of grub, where `levels.history` has 3 and a later stamp
abbrev lower : History
lower =
    item (by (codes "otto") (codes "otto-1") (command.Confirm 1))
    ∷ item (by (codes "olga") (codes "olga-1") (raise (codes "grub") 2 2024010099))
    ∷ officers_added

-- exports don't grow where a generation falls, a stamp falls, or an entry of dbx goes
abbrev pub FallsAreNoGrowth : Type 0
FallsAreNoGrowth =
    (RequireAll (level_components levels.history) (level_components lower) → ⊥)
    × (stamp levels.history ≤ stamp lower → ⊥)
    × (HaveAll (dbx_lists owner proposals.after_confirmation) (dbx_lists owner proposals.after_proposal) → ⊥)

-- a certificate is revoked of which no call gave a body
abbrev revoked_alone : History
revoked_alone =
    item (by (codes "otto") (codes "otto-1") (command.Confirm 1))
    ∷ item (by (codes "olga") (codes "olga-1") (command.RevokeCertificate (digest 12)))
    ∷ officers_added

-- its body
abbrev body : List ℕ
body = 0x30 ∷ 0x03 ∷ 0x02 ∷ 0x01 ∷ 0x01 ∷ []

-- a call gives it
abbrev body_given : History
body_given =
    item (by (codes "olga") (codes "olga-2") (command.ListCertificate (record { tbs = digest 12; body = body })))
    ∷ revoked_alone

-- the certificate's entry by its digest
abbrev by_digest : Entry
by_digest = digest_entry owner no_time (digest 12)

-- shim's form has the certificate by its digest, and then its body in the digest's place; dbx keeps
-- the digest
abbrev pub BodiesReplaceDigests : Type 0
BodiesReplaceDigests =
    (has_entry x509_sha256_kind by_digest (shim_lists owner revoked_alone) ≡ true)
    × (has_entry x509_sha256_kind by_digest (shim_lists owner body_given) ≡ false)
    × (has_entry x509_kind (entry_of owner body) (shim_lists owner body_given) ≡ true)
    × (has_entry x509_sha256_kind by_digest (dbx_lists owner body_given) ≡ true)
