-- The numbers of the requests that have a digest in one column, and the SQL texts that find them.
use Rattle.std.specs.Prelude.{ℕ, pos, List, [], ◌∷◌, bytes_eq, filter, map}
use Rattle.sqlite.specs.declared.types.Value.TheVariants.{Int}
use Rattle.sqlite.specs.Order.{Row}
use Rattle.desk_history.specs.Tables.{Tables}
use Rattle.store_schema.specs.declared.selecting.TheConstants as texts
use Rattle.store_reads.specs.declared.digest_numbers.DigestColumn.{DigestColumn}
use Rattle.store_reads.specs.declared.digest_numbers.DigestColumn.TheVariants as columns

-- the only column of an answer of numbers
abbrev pub number_values : ℕ → Row
number_values n = Int (pos n) ∷ []

-- a number for each row of the column's table that has the digest there
abbrev pub numbers_in : DigestColumn → List ℕ → Tables → List ℕ
numbers_in columns.File d t = map (λ r. r.number) (filter (λ r. bytes_eq d r.file) t.requests)
numbers_in columns.Digest d t = map (λ r. r.number) (filter (λ r. bytes_eq d r.digest) t.requests)
numbers_in columns.Signing d t = map (λ r. r.number) (filter (λ r. bytes_eq d r.signing) t.requests)
numbers_in columns.ReturnedFile d t = map (λ r. r.request) (filter (λ r. bytes_eq d r.file) t.returns)
numbers_in columns.ReturnedDigest d t = map (λ r. r.request) (filter (λ r. bytes_eq d r.digest) t.returns)
numbers_in columns.Certificate d t =
    map (λ r. r.request) (filter (λ r. bytes_eq d r.digest) t.request_certificates)

-- the text that finds them
abbrev pub numbers_text : DigestColumn → List ℕ
numbers_text columns.File = texts.SELECT_NUMBERS_OF_FILE.now
numbers_text columns.Digest = texts.SELECT_NUMBERS_OF_DIGEST.now
numbers_text columns.Signing = texts.SELECT_NUMBERS_OF_SIGNING.now
numbers_text columns.ReturnedFile = texts.SELECT_NUMBERS_OF_RETURNED_FILE.now
numbers_text columns.ReturnedDigest = texts.SELECT_NUMBERS_OF_RETURNED_DIGEST.now
numbers_text columns.Certificate = texts.SELECT_NUMBERS_OF_CERTIFICATE.now
