-- Entries of a certificate table (PE/COFF, "The Attribute Certificate Table"). Numbers are
-- little-endian, and offsets count from the front.
use Rattle.std.specs.Prelude.{ℕ, ◌+◌, ◌*◌, ◌/◌, ◌==◌, ◌||◌, min, nat_lt, length, take, drop, List, Bool}
use Rattle.std.specs.List.{list_all}
use Rattle.base.specs.Numbers.{u16_at, u32_at}

-- dwLength of the entry at the front: how many bytes it has, its header included
abbrev pub length_at : List ℕ → ℕ
length_at t = u32_at t 0

-- wCertificateType, after wRevision. own: wRevision isn't looked at
abbrev pub type_at : List ℕ → ℕ
type_at t = u16_at t 6

-- WIN_CERT_TYPE_PKCS_SIGNED_DATA
abbrev pub signed_data : ℕ
signed_data = 2

-- bCertificate, after the header of 8 bytes
abbrev pub body_at : List ℕ → List ℕ
body_at t = drop 8 (take (length_at t) t)

-- where the next entry begins: dwLength rounded up to a multiple of 8. own: at most the table's end
abbrev pub next_at : List ℕ → ℕ
next_at t = min (length t) ((length_at t + 7) / 8 * 8)

-- own: the entries end where no byte is left, or zeros alone
abbrev pub is_end : List ℕ → Bool
is_end t = list_all (λ b. b == 0) t

-- there is no entry at the front: its header isn't there, or dwLength is less than the header or
-- passes the end
abbrev pub has_no_entry : List ℕ → Bool
has_no_entry t = nat_lt (length t) 8 || nat_lt (length_at t) 8 || nat_lt (length t) (length_at t)
