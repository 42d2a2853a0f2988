-- Limits that several crates hold to.
use Rattle.std.specs.Prelude.{ℕ}

-- own: the most bytes of an image's file, 128 MiB
abbrev pub longest_image : ℕ
longest_image = 134_217_728

-- own: the most different certificates that an image carries
abbrev pub most_certificates : ℕ
most_certificates = 64

-- own: the most components of an image
abbrev pub most_components : ℕ
most_components = 256
