-- The desk's verdict on an image.
use Rattle.std.specs.Prelude.{ℕ, ◌+◌, Bool, false, not, ◌||◌, nat_lt, if◌then◌else◌, List, [], ◌∷◌, Option, Some, None}
use Rattle.std.specs.List.{list_any}
use Rattle.std.specs.Option.{option_map_or, option_or}
use Rattle.sbat.specs.declared.component.Component.{Component}
use Rattle.desk_types.specs.declared.facts.Facts.{Facts}
use Rattle.desk_types.specs.declared.kind.ListedKind.{ListedKind}
use Rattle.desk_types.specs.declared.kind.ListedKind.TheVariants as kinds
use Rattle.desk_history.specs.Calls.{History}
use Rattle.desk_history.specs.Level.{level}
use Rattle.desk_history.specs.Listing.{is_listed}
use Rattle.desk_history.specs.Revocations.{is_revoked}
use Rattle.desk_history.specs.declared.finding.Below.{Below}
use Rattle.desk_history.specs.declared.finding.Verdict.{Verdict}
use Rattle.desk_history.specs.declared.finding.Verdict.TheVariants.{Allowed, DbxCertificate, DbxDigest, NotListed, Sbat}

-- the revoked and the listed images and certificates, and the generation that the level requires
-- under a name
pub record Standing : Type 0 where
  pub revoked : ListedKind → List ℕ → Bool
  pub listed : ListedKind → List ℕ → Bool
  pub required : List ℕ → Option ℕ

-- the revoked and the listed entries and the required generations after calls
abbrev pub standing : History → Standing
standing cs = record {
  revoked = λ kind digest. is_revoked kind cs digest;
  listed = λ kind digest. is_listed kind cs digest;
  required = λ name. level cs name;
}

-- the image's digest is revoked (UEFI 2.10, 32.5.3.3). own: or the digest that a signature of it
-- would hold
abbrev pub has_revoked_digest : Standing → Facts → Bool
has_revoked_digest s x = s.revoked kinds.Digest x.digest || s.revoked kinds.Digest x.signing

-- a certificate that the image carries is revoked (UEFI 2.10, 32.5.3.3). own: whatever its time
abbrev pub has_revoked_certificate : Standing → Facts → Bool
has_revoked_certificate s x = list_any (s.revoked kinds.Certificate) x.carried

-- the generation is below the one that is required, if one is
abbrev pub is_less : ℕ → Option ℕ → Bool
is_less generation required = option_map_or (λ needed. nat_lt generation needed) required false

-- the component's generation is below the level's (SBAT.md, "Version Check"); never, if the level
-- doesn't name it
abbrev pub is_below : Standing → Component → Bool
is_below s x = is_less x.generation (s.required x.name)

-- the image is barred: its digest, a certificate or a component's generation is revoked
abbrev pub bars : Standing → Facts → Bool
bars s x = has_revoked_digest s x || has_revoked_certificate s x || list_any (is_below s) x.components

-- the image is in db (UEFI 2.10, 32.5.3.3): by its digest, or by a certificate that it carries
abbrev pub lists_image : Standing → Facts → Bool
lists_image s x = s.listed kinds.Digest x.digest || list_any (s.listed kinds.Certificate) x.carried

-- the image is barred after these calls
abbrev pub is_barred : History → Facts → Bool
is_barred cs x = bars (standing cs) x

-- the image is in db after these calls
abbrev pub stands_in_db : History → Facts → Bool
stands_in_db cs x = lists_image (standing cs) x

-- the component at this place, if its generation is below the required one; none is below if none
-- is required
abbrev pub lack_at : ℕ → ℕ → Option ℕ → Option Below
lack_at place generation None = None
lack_at place generation (Some needed) =
    if nat_lt generation needed then Some (record { place = place; needs = needed }) else None

-- the first component below the level, of components from this place on
abbrev pub first_below : Standing → ℕ → List Component → Option Below
first_below s place [] = None
first_below s place (x ∷ xs) =
    option_or (lack_at place x.generation (s.required x.name)) (first_below s (place + 1) xs)

-- own: the verdict is the first that holds
abbrev pub verdict_by : Bool → Bool → Bool → Option Below → Verdict
verdict_by digest certificate listed below =
    if digest then DbxDigest
    else (if certificate then DbxCertificate
    else (if not listed then NotListed
    else option_map_or Sbat below Allowed))

-- the verdict on an image by these lists and this level
abbrev pub verdict_on : Standing → Facts → Verdict
verdict_on s x =
    verdict_by (has_revoked_digest s x) (has_revoked_certificate s x) (lists_image s x) (first_below s 0 x.components)

-- the verdict on an image after these calls
abbrev pub verdict : History → Facts → Verdict
verdict cs x = verdict_on (standing cs) x
