-- Lists of digests in their parts: a head that counts them, and the entries.
use Rattle.std.proofs.Common.{◌≡◌, ◌≤◌, ℕ, List, [], ◌∷◌, ◌++◌, flat_map, length, refl, ap, arith}
use Rattle.siglist.specs.Writing.{sha256_entry_bytes, sha256_head_bytes, sha256_parts, x509_sha256_entry_bytes, x509_sha256_head_bytes, x509_sha256_parts}

-- no head where there is nothing
pub sha256-none : (owner : List ℕ) (ds : List (List ℕ)) → 0 ≡ length ds → sha256_parts owner ds ≡ []
sha256-none owner [] h = refl
sha256-none owner (d ∷ ds) h = absurd (omega (arith, h))

pub sha256-some : (owner : List ℕ) (ds : List (List ℕ)) (n : ℕ) → 1 ≤ n → n ≡ length ds → sha256_head_bytes n ++ flat_map (sha256_entry_bytes owner) ds ≡ sha256_parts owner ds
sha256-some owner [] n some h = absurd (omega (arith, h))
sha256-some owner (d ∷ ds) n some h = ap (λ k. sha256_head_bytes k ++ flat_map (sha256_entry_bytes owner) (d ∷ ds)) h

pub x509-none : (owner : List ℕ) (ds : List (List ℕ)) → 0 ≡ length ds → x509_sha256_parts owner ds ≡ []
x509-none owner [] h = refl
x509-none owner (d ∷ ds) h = absurd (omega (arith, h))

pub x509-some : (owner : List ℕ) (ds : List (List ℕ)) (n : ℕ) → 1 ≤ n → n ≡ length ds → x509_sha256_head_bytes n ++ flat_map (x509_sha256_entry_bytes owner) ds ≡ x509_sha256_parts owner ds
x509-some owner [] n some h = absurd (omega (arith, h))
x509-some owner (d ∷ ds) n some h = ap (λ k. x509_sha256_head_bytes k ++ flat_map (x509_sha256_entry_bytes owner) (d ∷ ds)) h
