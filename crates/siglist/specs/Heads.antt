-- The numbers in the head of a list (UEFI 2.10, section 32.4.1, EFI_SIGNATURE_LIST), which has 28
-- bytes.
use Rattle.std.specs.Prelude.{ℕ, List}
use Rattle.base.specs.Numbers.{u32_at}

-- SignatureListSize
abbrev pub size_at : List ℕ → ℕ
size_at b = u32_at b 16

-- SignatureHeaderSize
abbrev pub header_size_at : List ℕ → ℕ
header_size_at b = u32_at b 20

-- SignatureSize
abbrev pub entry_size_at : List ℕ → ℕ
entry_size_at b = u32_at b 24
