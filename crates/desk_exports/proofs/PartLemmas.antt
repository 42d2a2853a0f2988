-- Exports as the parts that are written one after another.
use Rattle.std.proofs.Common.{◌≡◌, ℕ, List, [], ◌∷◌, ◌++◌, map, refl, ap, ap₂, ◌∙◌}
use Rattle.std.proofs.lemmas.List.Concat.{flat_map-append}
use Rattle.std.specs.List.{flat_map}
use Rattle.sbat.specs.declared.component.Component.{Component}
use Rattle.sbat.specs.Writing.{row_text, rows_text}
use Rattle.siglist.specs.SignatureLists.{list_bytes, spelling}
use Rattle.siglist.specs.Writing.{sha256_parts, sha256_row, x509_row, x509_sha256_parts, x509_sha256_row}
use Rattle.siglist.proofs.WritingLemmas.{sha256_row-parts, x509_sha256_row-parts}
use Rattle.desk_history.specs.declared.rows.Entry.{Entry}

pub dbx-parts : (owner : List ℕ) (ds cs : List (List ℕ)) → spelling (sha256_row owner ds ++ x509_sha256_row owner cs) ≡ sha256_parts owner ds ++ x509_sha256_parts owner cs
dbx-parts owner ds cs =
    flat_map-append list_bytes (sha256_row owner ds) (x509_sha256_row owner cs)
    ∙ ap₂ ◌++◌ (sha256_row-parts owner ds) (x509_sha256_row-parts owner cs)

-- lists of one body each
bodies-parts : (owner : List ℕ) (bodies : List (List ℕ)) → spelling (flat_map (x509_row owner) bodies) ≡ flat_map (λ body. spelling (x509_row owner body)) bodies
bodies-parts owner [] = refl
bodies-parts owner (body ∷ bodies) =
    flat_map-append list_bytes (x509_row owner body) (flat_map (x509_row owner) bodies)
    ∙ ap (λ l. spelling (x509_row owner body) ++ l) (bodies-parts owner bodies)

pub shim-parts : (owner : List ℕ) (ds bodies cs : List (List ℕ)) → spelling (sha256_row owner ds ++ flat_map (x509_row owner) bodies ++ x509_sha256_row owner cs)
    ≡ sha256_parts owner ds ++ flat_map (λ body. spelling (x509_row owner body)) bodies ++ x509_sha256_parts owner cs
shim-parts owner ds bodies cs =
    flat_map-append list_bytes (sha256_row owner ds ++ flat_map (x509_row owner) bodies) (x509_sha256_row owner cs)
    ∙ ap₂ ◌++◌ (flat_map-append list_bytes (sha256_row owner ds) (flat_map (x509_row owner) bodies) ∙ ap₂ ◌++◌ (sha256_row-parts owner ds) (bodies-parts owner bodies))
    (x509_sha256_row-parts owner cs)

-- lists of one certificate each
certificates-parts : (owner : List ℕ) (es : List Entry) → spelling (flat_map (λ e. x509_row owner e.body) es) ≡ flat_map (λ e. spelling (x509_row owner e.body)) es
certificates-parts owner [] = refl
certificates-parts owner (e ∷ es) =
    flat_map-append list_bytes (x509_row owner e.body) (flat_map (λ e. x509_row owner e.body) es)
    ∙ ap (λ l. spelling (x509_row owner e.body) ++ l) (certificates-parts owner es)

pub db-parts : (owner : List ℕ) (ds : List (List ℕ)) (es : List Entry) → spelling (sha256_row owner ds ++ flat_map (λ e. x509_row owner e.body) es)
    ≡ sha256_parts owner ds ++ flat_map (λ e. spelling (x509_row owner e.body)) es
db-parts owner ds es =
    flat_map-append list_bytes (sha256_row owner ds) (flat_map (λ e. x509_row owner e.body) es)
    ∙ ap₂ ◌++◌ (sha256_row-parts owner ds) (certificates-parts owner es)

-- the lines of components
pub rows-parts : (xs : List Component) → rows_text (map (λ x. (x.name, x.generation)) xs) ≡ flat_map (λ x. row_text x.name x.generation) xs
rows-parts [] = refl
rows-parts (x ∷ xs) = ap (λ l. row_text x.name x.generation ++ l) (rows-parts xs)
