-- Certificates that are listed whole.
use Rattle.std.specs.Prelude.{ℕ, Bool, List}
use Rattle.desk_types.specs.Forms.{is_between}

-- a certificate's bytes, and the SHA-256 of its TBSCertificate
pub record WholeCertificate : Type 0 where
  pub body : List ℕ
  pub tbs : List ℕ

-- own: a listed certificate has 1 to 65,536 bytes
abbrev pub is_certificate_size : ℕ → Bool
is_certificate_size size = is_between 1 65536 size
