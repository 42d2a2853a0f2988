-- Conditions on the entries of a list of each kind (UEFI 2.10, section 32.4.1).
use Rattle.std.specs.Prelude.{◌≡◌, ◌≤◌, length}
use Rattle.siglist.specs.SignatureLists.{Entry}
use Rattle.siglist.specs.declared.kind.Kind.{Kind}
use Rattle.siglist.specs.declared.kind.Kind.TheVariants as kind

-- the body of an entry has the bytes of its kind's digest
abbrev pub Suits : Kind → Entry → Type 0
Suits kind.Sha256 entry = length entry.body ≡ 32
Suits kind.X509 entry = Unit {0}
Suits kind.X509Sha256 entry = 32 ≤ length entry.body
Suits (kind.Other guid) entry = Unit {0}
