-- The bodies of certificates, as calls gave them: ListCertificate gives one, and no other call does.
use Rattle.std.specs.Prelude.{ℕ, Bool, not, List, filter, filter_map, map, reverse, bytes_eq}
use Rattle.std.specs.List.{list_any}
use Rattle.desk_types.specs.Certificates.{WholeCertificate}
use Rattle.desk_types.specs.Naming.{certificate_listed}
use Rattle.desk_history.specs.Calls.{History, distinct}

-- the certificates that calls gave, the newest first
abbrev pub certificates_given : History → List WholeCertificate
certificates_given cs = filter_map (λ i. certificate_listed i.call.command) cs

-- own: the bodies that calls gave for the certificate of this digest, listed still or not: each
-- once, in the order of the calls that gave them first
abbrev pub bodies_of : List ℕ → History → List (List ℕ)
bodies_of tbs cs = reverse (distinct (map (λ c. c.body) (filter (λ c. bytes_eq tbs c.tbs) (certificates_given cs))))

-- no call gave one
abbrev pub is_bodiless : History → List ℕ → Bool
is_bodiless cs tbs = not (list_any (λ c. bytes_eq tbs c.tbs) (certificates_given cs))
