-- Rows as a SELECT of whole rows shows them, and the texts that find those of a kind.
use Rattle.std.specs.Prelude.{ℕ, pos, List, [], ◌∷◌}
use Rattle.sqlite.specs.declared.types.Value.TheVariants.{Int, Text, Blob}
use Rattle.sqlite.specs.Order.{Row}
use Rattle.store_schema.specs.declared.selecting.TheConstants as texts
use Rattle.desk_types.specs.Words.{state_text}
use Rattle.desk_types.specs.declared.kind.ListedKind.{ListedKind}
use Rattle.desk_types.specs.declared.kind.ListedKind.TheVariants as kinds
use Rattle.desk_history.specs.declared.rows.RequestRow.{RequestRow}
use Rattle.desk_history.specs.declared.rows.ReturnRow.{ReturnRow}

-- own: the columns of a request: number, submitter, title, length, gap, file, digest, signing,
-- state
abbrev pub request_columns : RequestRow → Row
request_columns r =
    Int (pos r.number) ∷ Text r.submitter ∷ Text r.title ∷ Int (pos r.length) ∷ Int (pos r.gap) ∷ Blob r.file ∷ Blob r.digest
    ∷ Blob r.signing ∷ Text (state_text r.state) ∷ []

-- own: the columns of a returned file: request, signer, length, file, digest
abbrev pub return_columns : ReturnRow → Row
return_columns r = Int (pos r.request) ∷ Text r.signer ∷ Int (pos r.length) ∷ Blob r.file ∷ Blob r.digest ∷ []

-- the text that finds a revoked digest of a kind
abbrev pub select_revoked : ListedKind → List ℕ
select_revoked kinds.Digest = texts.SELECT_REVOKED_DIGEST.now
select_revoked kinds.Certificate = texts.SELECT_REVOKED_CERTIFICATE.now
