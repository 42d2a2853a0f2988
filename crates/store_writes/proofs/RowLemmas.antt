-- The rows that INSERT puts in, of its parameters.
use Rattle.std.proofs.Common.{ℕ, pos, List, [], ◌∷◌, codes, refl}
use Rattle.std.specs.Prelude.{unwrap_or}
use Rattle.sqlite.specs.declared.types.Value.TheVariants.{Int, Text, Blob}
use Rattle.sqlite.specs.Order.{Row}
use Rattle.store_sql.specs.Effects.{IsInserted}
use Rattle.store_sql.proofs.ValueLemmas.{cast_null, cast_int}
use Rattle.store_schema.specs.Columns.{values_of}
use Rattle.store_schema.specs.Tables as tables
use Rattle.sbat.specs.declared.component.Component.{Component}
use Rattle.desk_types.specs.declared.command.Person.{Person}
use Rattle.desk_types.specs.Callers.{caller_name}
use Rattle.desk_types.specs.ReplyTexts.{reply_text_of}
use Rattle.desk_types.specs.Words.{proposal_kind_text, proposal_state_text, state_text}
use Rattle.desk_types.specs.declared.proposal.ItemKind.{ItemKind}
use Rattle.desk_history.specs.declared.rows.Entry.{Entry}
use Rattle.desk_history.specs.declared.rows.Minute.{Minute}
use Rattle.desk_history.specs.declared.rows.ProposalRow.{ProposalRow}
use Rattle.desk_history.specs.declared.rows.RequestCertificateRow.{RequestCertificateRow}
use Rattle.desk_history.specs.declared.rows.RequestComponentRow.{RequestComponentRow}
use Rattle.desk_history.specs.declared.rows.RequestRow.{RequestRow}
use Rattle.desk_history.specs.declared.rows.ReturnRow.{ReturnRow}
use Rattle.desk_history.specs.declared.rows.VoteRow.{VoteRow}
use Rattle.desk_history.specs.Tables.{tables as new_desk}
use Rattle.store_schema.specs.rows.Values as values
use Rattle.store_writes.specs.Steps.{item_columns}

-- ---- the parameters, where the row has NULL for its key besides

abbrev pub call_params : Minute → Row
call_params m = Int (pos m.number) ∷ Text (caller_name m.caller) ∷ Text m.key ∷ Text m.text ∷ Text (reply_text_of m.reply) ∷ []

abbrev pub request_params : RequestRow → Row
request_params r =
    Int (pos r.number) ∷ Text r.submitter ∷ Text r.title ∷ Int (pos r.length) ∷ Int (pos r.gap) ∷ Blob r.file ∷ Blob r.digest ∷ Blob r.signing
    ∷ Text (state_text r.state) ∷ []

abbrev pub return_params : ReturnRow → Row
return_params r = Int (pos r.request) ∷ Text r.signer ∷ Int (pos r.length) ∷ Blob r.file ∷ Blob r.digest ∷ []

abbrev pub proposal_params : ProposalRow → Row
proposal_params p =
    Int (pos p.number) ∷ Text p.officer ∷ Text (proposal_kind_text p.kind) ∷ Int (pos (unwrap_or p.named.stamp 0)) ∷ Int (pos p.named.passed)
    ∷ Text (proposal_state_text p.state) ∷ []

-- ---- the rows

-- of a desk without calls
pub desk_in : (owner : List ℕ) → IsInserted tables.desk (values_of tables.desk) (Int (pos 1) ∷ Text (codes "boot-desk") ∷ Int (pos 2) ∷ Blob owner ∷ Int (pos 2021030218) ∷ []) (values.desk_values (new_desk owner []).desk)
desk_in owner rows = rw (cast_null, cast_int (pos 1), cast_int (pos 2), cast_int (pos 2021030218)) refl

pub person_in : (p : Person) → IsInserted tables.people (values_of tables.people) (values.person_values p) (values.person_values p)
person_in p rows = rw cast_null refl

pub call_in : (m : Minute) → IsInserted tables.calls (values_of tables.calls) (call_params m) (values.call_values m)
call_in m rows = rw (cast_null, cast_int (pos m.number)) refl

pub component_in : (x : Component) → IsInserted tables.components (values_of tables.components) (values.component_values x) (values.component_values x)
component_in x rows = rw (cast_null, cast_int (pos x.generation)) refl

pub request_in : (r : RequestRow) → IsInserted tables.requests (values_of tables.requests) (request_params r) (values.request_values r)
request_in r rows = rw (cast_null, cast_int (pos r.number), cast_int (pos r.length), cast_int (pos r.gap)) refl

pub request_certificate_in : (r : RequestCertificateRow)
    → IsInserted tables.request_certificates (values_of tables.request_certificates) (values.request_certificate_values r) (values.request_certificate_values r)
request_certificate_in r rows = rw (cast_null, cast_int (pos r.request)) refl

pub request_component_in : (r : RequestComponentRow)
    → IsInserted tables.request_components (values_of tables.request_components) (values.request_component_values r) (values.request_component_values r)
request_component_in r rows = rw (cast_null, cast_int (pos r.request), cast_int (pos r.place), cast_int (pos r.generation)) refl

pub vote_in : (v : VoteRow) → IsInserted tables.votes (values_of tables.votes) (values.vote_values v) (values.vote_values v)
vote_in v rows = rw (cast_null, cast_int (pos v.request)) refl

pub return_in : (r : ReturnRow) → IsInserted tables.returns (values_of tables.returns) (return_params r) (values.return_values r)
return_in r rows = rw (cast_null, cast_int (pos r.request), cast_int (pos r.length)) refl

pub entry_in : (e : Entry) → IsInserted tables.listed (values_of tables.listed) (values.entry_values e) (values.entry_values e)
entry_in e rows = rw cast_null refl

pub revoked_digest_in : (d : List ℕ) → IsInserted tables.revoked_digests (values_of tables.revoked_digests) (values.digest_values d) (values.digest_values d)
revoked_digest_in d rows = rw cast_null refl

pub revoked_certificate_in : (d : List ℕ) → IsInserted tables.revoked_certificates (values_of tables.revoked_certificates) (values.digest_values d) (values.digest_values d)
revoked_certificate_in d rows = rw cast_null refl

pub proposal_in : (p : ProposalRow) → IsInserted tables.proposals (values_of tables.proposals) (proposal_params p) (values.proposal_values p)
proposal_in p rows = rw (cast_null, cast_int (pos p.number), cast_int (pos (unwrap_or p.named.stamp 0)), cast_int (pos p.named.passed)) refl

pub item_in : (proposal place : ℕ) (kind : ItemKind) (digest name : List ℕ) (generation : ℕ)
    → IsInserted tables.proposal_items (values_of tables.proposal_items) (item_columns proposal place kind digest name generation) (item_columns proposal place kind digest name generation)
item_in proposal place kind digest name generation rows = rw (cast_null, cast_int (pos proposal), cast_int (pos place), cast_int (pos generation)) refl

pub migrated_in : (calls : ℕ) → IsInserted tables.migrated (values_of tables.migrated) (Int (pos 1) ∷ Int (pos calls) ∷ []) (values.migrated_values (record { id = 1; calls = calls }))
migrated_in calls rows = rw (cast_null, cast_int (pos 1), cast_int (pos calls)) refl
