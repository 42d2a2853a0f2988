-- A row of each table as SQL holds it. If the first column is the row id, the row begins with it,
-- and NULL is in the column's own place (SQLite, "Rowid Tables").
use Rattle.std.specs.Prelude.{ℕ, pos, List, [], ◌∷◌, unwrap_or}
use Rattle.sqlite.specs.declared.types.Value.TheVariants.{Null, Int, Text, Blob}
use Rattle.sqlite.specs.Order.{Row}
use Rattle.sbat.specs.declared.component.Component.{Component}
use Rattle.desk_types.specs.declared.command.Person.{Person}
use Rattle.desk_types.specs.Callers.{caller_name}
use Rattle.desk_types.specs.ReplyTexts.{reply_text_of}
use Rattle.desk_types.specs.declared.proposal.ItemKind.{ItemKind}
use Rattle.desk_types.specs.declared.proposal.ItemKind.TheVariants as kinds
use Rattle.desk_types.specs.Words.{item_kind_text, kind_text, proposal_kind_text, proposal_state_text, role_text, state_text, vote_text}
use Rattle.desk_history.specs.declared.rows.Entry.{Entry}
use Rattle.desk_history.specs.declared.rows.Minute.{Minute}
use Rattle.desk_history.specs.declared.rows.ProposalItem.{ProposalItem}
use Rattle.desk_history.specs.declared.rows.ProposalItem.TheVariants as items
use Rattle.desk_history.specs.declared.rows.ProposalItemRow.{ProposalItemRow}
use Rattle.desk_history.specs.declared.rows.ProposalRow.{ProposalRow}
use Rattle.desk_history.specs.declared.rows.RequestCertificateRow.{RequestCertificateRow}
use Rattle.desk_history.specs.declared.rows.RequestComponentRow.{RequestComponentRow}
use Rattle.desk_history.specs.declared.rows.RequestRow.{RequestRow}
use Rattle.desk_history.specs.declared.rows.ReturnRow.{ReturnRow}
use Rattle.desk_history.specs.declared.rows.VoteRow.{VoteRow}
use Rattle.desk_history.specs.Tables.{DeskRow, MigratedRow}

-- own: the desk: id, mark, version, owner, stamp
abbrev pub desk_values : DeskRow → Row
desk_values d = Int (pos d.id) ∷ Null ∷ Text d.mark ∷ Int (pos d.version) ∷ Blob d.owner ∷ Int (pos d.stamp) ∷ []

-- own: a person: name, role, token
abbrev pub person_values : Person → Row
person_values p = Text p.name ∷ Text (role_text p.role) ∷ Blob p.token ∷ []

-- own: a minute: number, the caller's name, key, text, the reply's text
abbrev pub call_values : Minute → Row
call_values m =
    Int (pos m.number) ∷ Null ∷ Text (caller_name m.caller) ∷ Text m.key ∷ Text m.text ∷ Text (reply_text_of m.reply) ∷ []

-- own: a request: number, submitter, title, length, gap, file, digest, signing, state
abbrev pub request_values : RequestRow → Row
request_values r =
    Int (pos r.number) ∷ Null ∷ Text r.submitter ∷ Text r.title ∷ Int (pos r.length) ∷ Int (pos r.gap) ∷ Blob r.file
    ∷ Blob r.digest ∷ Blob r.signing ∷ Text (state_text r.state) ∷ []

-- own: a certificate of a request's image: request, digest
abbrev pub request_certificate_values : RequestCertificateRow → Row
request_certificate_values r = Int (pos r.request) ∷ Blob r.digest ∷ []

-- own: a component of a request's image: request, place, name, generation
abbrev pub request_component_values : RequestComponentRow → Row
request_component_values r = Int (pos r.request) ∷ Int (pos r.place) ∷ Text r.name ∷ Int (pos r.generation) ∷ []

-- own: a vote: request, reviewer, vote, note
abbrev pub vote_values : VoteRow → Row
vote_values v = Int (pos v.request) ∷ Text v.reviewer ∷ Text (vote_text v.vote) ∷ Text v.note ∷ []

-- own: a returned file: request, signer, length, file, digest
abbrev pub return_values : ReturnRow → Row
return_values r = Int (pos r.request) ∷ Null ∷ Text r.signer ∷ Int (pos r.length) ∷ Blob r.file ∷ Blob r.digest ∷ []

-- own: a listed entry: kind, digest, body
abbrev pub entry_values : Entry → Row
entry_values e = Text (kind_text e.kind) ∷ Blob e.digest ∷ Blob e.body ∷ []

-- own: a revoked digest
abbrev pub digest_values : List ℕ → Row
digest_values d = Blob d ∷ []

-- own: a component of the level: name, generation
abbrev pub component_values : Component → Row
component_values x = Text x.name ∷ Int (pos x.generation) ∷ []

-- own: a proposal: number, officer, kind, the stamp or 0, how many entries an import skipped, state
abbrev pub proposal_values : ProposalRow → Row
proposal_values p =
    Int (pos p.number) ∷ Null ∷ Text p.officer ∷ Text (proposal_kind_text p.kind) ∷ Int (pos (unwrap_or p.named.stamp 0))
    ∷ Int (pos p.named.passed) ∷ Text (proposal_state_text p.state) ∷ []

-- ---- own: the columns of an item: its kind, its digest, and its component's name and generation

-- which of the three an item is
abbrev pub item_kind : ProposalItem → ItemKind
item_kind (items.Digest d) = kinds.Digest
item_kind (items.Certificate d) = kinds.Certificate
item_kind (items.Component x) = kinds.Component

-- its digest, and no byte for a component
abbrev pub item_digest : ProposalItem → List ℕ
item_digest (items.Digest d) = d
item_digest (items.Certificate d) = d
item_digest (items.Component x) = []

-- the component's name, and no byte for a digest or a certificate
abbrev pub item_name : ProposalItem → List ℕ
item_name (items.Component x) = x.name
item_name item = []

-- the component's generation, and 0 for a digest or a certificate
abbrev pub item_generation : ProposalItem → ℕ
item_generation (items.Component x) = x.generation
item_generation item = 0

-- own: an item of a proposal: proposal, place, kind, digest, name, generation
abbrev pub item_values : ProposalItemRow → Row
item_values r =
    Int (pos r.proposal) ∷ Int (pos r.place) ∷ Text (item_kind_text (item_kind r.item)) ∷ Blob (item_digest r.item)
    ∷ Text (item_name r.item) ∷ Int (pos (item_generation r.item)) ∷ []

-- own: the number of calls accepted by the first rules: id, calls
abbrev pub migrated_values : MigratedRow → Row
migrated_values m = Int (pos m.id) ∷ Null ∷ Int (pos m.calls) ∷ []
