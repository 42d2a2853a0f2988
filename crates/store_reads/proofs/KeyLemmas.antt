-- Rows that have a key, and a SELECT of them.
use Rattle.std.proofs.Common.{◌≡◌, ℕ, pos, List, [], ◌∷◌, ◌==◌, ◌&&◌, bytes_eq, refl, ◌∙◌, codes}
use Rattle.sqlite.specs.declared.types.Value.TheVariants.{Null, Int, Text, Blob}
use Rattle.sqlite.specs.Order.{Row}
use Rattle.store_sql.specs.Effects.{passes}
use Rattle.store_sql.proofs.ValueLemmas.{text_is, blob_is, int_is, only, both}
use Rattle.store_schema.specs.Named.{equals}
use Rattle.store_schema.specs.Tables as tables
use Rattle.sbat.specs.declared.component.Component.{Component}
use Rattle.desk_types.specs.declared.command.Person.{Person}
use Rattle.desk_types.specs.declared.kind.ListedKind.{ListedKind}
use Rattle.desk_types.specs.declared.kind.ListedKind.TheVariants.{Digest, Certificate}
use Rattle.desk_types.specs.declared.state.State.{State}
use Rattle.desk_types.specs.declared.state.State.TheVariants as states
use Rattle.desk_types.specs.Words.{kind_text, state_text}
use Rattle.desk_history.specs.declared.rows.Entry.{Entry}
use Rattle.desk_history.specs.declared.rows.RequestCertificateRow.{RequestCertificateRow}
use Rattle.desk_history.specs.declared.rows.RequestComponentRow.{RequestComponentRow}
use Rattle.desk_history.specs.declared.rows.RequestRow.{RequestRow}
use Rattle.desk_history.specs.declared.rows.ReturnRow.{ReturnRow}
use Rattle.desk_history.specs.declared.rows.VoteRow.{VoteRow}
use Rattle.desk_history.specs.Calls.{is_same_kind}
use Rattle.desk_history.specs.Listing.{is_entry}
use Rattle.desk_history.specs.Requests.{is_state}
use Rattle.desk_history.specs.People.{has_name, has_token}
use Rattle.desk_history.specs.Writes.{is_named}
use Rattle.store_schema.specs.rows.Values as values
use Rattle.store_reads.specs.declared.call_texts.CallTexts.{CallTexts}

-- a call's row, by its texts
abbrev pub call_row : CallTexts → Row
call_row c = Int (pos c.number) ∷ Null ∷ Text c.caller ∷ Text c.key ∷ Text c.text ∷ Text c.reply ∷ []

-- ---- people

pub person_has_name : (name : List ℕ) (x : Person) → passes tables.people (equals tables.people (codes "name") 0 ∷ []) (Text name ∷ []) (values.person_values x) ≡ has_name name x
person_has_name name x = only _ _ (text_is x.name name)

pub person_has_token : (token : List ℕ) (x : Person) → passes tables.people (equals tables.people (codes "token") 0 ∷ []) (Blob token ∷ []) (values.person_values x) ≡ has_token token x
person_has_token token x = only _ _ (blob_is x.token token)

-- ---- requests, and what belongs to them

pub is_request : (k : ℕ) (x : RequestRow) → passes tables.requests (equals tables.requests (codes "no") 0 ∷ []) (Int (pos k) ∷ []) (values.request_values x) ≡ (k == x.number)
is_request k x = only _ _ (int_is x.number k)

pub is_certificate : (k : ℕ) (x : RequestCertificateRow)
    → passes tables.request_certificates (equals tables.request_certificates (codes "request") 0 ∷ []) (Int (pos k) ∷ []) (values.request_certificate_values x) ≡ (k == x.request)
is_certificate k x = only _ _ (int_is x.request k)

pub is_component : (k : ℕ) (x : RequestComponentRow)
    → passes tables.request_components (equals tables.request_components (codes "request") 0 ∷ []) (Int (pos k) ∷ []) (values.request_component_values x) ≡ (k == x.request)
is_component k x = only _ _ (int_is x.request k)

pub is_vote : (k : ℕ) (x : VoteRow) → passes tables.votes (equals tables.votes (codes "request") 0 ∷ []) (Int (pos k) ∷ []) (values.vote_values x) ≡ (k == x.request)
is_vote k x = only _ _ (int_is x.request k)

pub is_return : (k : ℕ) (x : ReturnRow) → passes tables.returns (equals tables.returns (codes "request") 0 ∷ []) (Int (pos k) ∷ []) (values.return_values x) ≡ (k == x.request)
is_return k x = only _ _ (int_is x.request k)

-- those that have a digest

pub has_file : (digest : List ℕ) (x : RequestRow) → passes tables.requests (equals tables.requests (codes "file") 0 ∷ []) (Blob digest ∷ []) (values.request_values x) ≡ bytes_eq digest x.file
has_file digest x = only _ _ (blob_is x.file digest)

pub has_digest : (digest : List ℕ) (x : RequestRow) → passes tables.requests (equals tables.requests (codes "digest") 0 ∷ []) (Blob digest ∷ []) (values.request_values x) ≡ bytes_eq digest x.digest
has_digest digest x = only _ _ (blob_is x.digest digest)

pub has_signing : (digest : List ℕ) (x : RequestRow) → passes tables.requests (equals tables.requests (codes "signing") 0 ∷ []) (Blob digest ∷ []) (values.request_values x) ≡ bytes_eq digest x.signing
has_signing digest x = only _ _ (blob_is x.signing digest)

pub has_returned_file : (digest : List ℕ) (x : ReturnRow) → passes tables.returns (equals tables.returns (codes "file") 0 ∷ []) (Blob digest ∷ []) (values.return_values x) ≡ bytes_eq digest x.file
has_returned_file digest x = only _ _ (blob_is x.file digest)

pub has_returned_digest : (digest : List ℕ) (x : ReturnRow) → passes tables.returns (equals tables.returns (codes "digest") 0 ∷ []) (Blob digest ∷ []) (values.return_values x) ≡ bytes_eq digest x.digest
has_returned_digest digest x = only _ _ (blob_is x.digest digest)

pub has_certificate : (digest : List ℕ) (x : RequestCertificateRow) → passes tables.request_certificates (equals tables.request_certificates (codes "digest") 0 ∷ []) (Blob digest ∷ []) (values.request_certificate_values x) ≡ bytes_eq digest x.digest
has_certificate digest x = only _ _ (blob_is x.digest digest)

-- those in a state

states_differ : (s t : State) → bytes_eq (state_text s) (state_text t) ≡ is_state s t
states_differ states.Open states.Open = refl
states_differ states.Open states.Approved = refl
states_differ states.Open states.Rejected = refl
states_differ states.Open states.Withdrawn = refl
states_differ states.Open states.Signed = refl
states_differ states.Approved states.Open = refl
states_differ states.Approved states.Approved = refl
states_differ states.Approved states.Rejected = refl
states_differ states.Approved states.Withdrawn = refl
states_differ states.Approved states.Signed = refl
states_differ states.Rejected states.Open = refl
states_differ states.Rejected states.Approved = refl
states_differ states.Rejected states.Rejected = refl
states_differ states.Rejected states.Withdrawn = refl
states_differ states.Rejected states.Signed = refl
states_differ states.Withdrawn states.Open = refl
states_differ states.Withdrawn states.Approved = refl
states_differ states.Withdrawn states.Rejected = refl
states_differ states.Withdrawn states.Withdrawn = refl
states_differ states.Withdrawn states.Signed = refl
states_differ states.Signed states.Open = refl
states_differ states.Signed states.Approved = refl
states_differ states.Signed states.Rejected = refl
states_differ states.Signed states.Withdrawn = refl
states_differ states.Signed states.Signed = refl

pub is_in : (s : State) (x : RequestRow) → passes tables.requests (equals tables.requests (codes "state") 0 ∷ []) (Text (state_text s) ∷ []) (values.request_values x) ≡ is_state s x.state
is_in s x = only _ _ (text_is (state_text x.state) (state_text s) ∙ states_differ s x.state)

-- ---- lists

kinds_differ : (k l : ListedKind) → bytes_eq (kind_text k) (kind_text l) ≡ is_same_kind k l
kinds_differ Digest Digest = refl
kinds_differ Digest Certificate = refl
kinds_differ Certificate Digest = refl
kinds_differ Certificate Certificate = refl

pub is_it : (kind : ListedKind) (digest : List ℕ) (x : Entry)
    → passes tables.listed (equals tables.listed (codes "kind") 0 ∷ equals tables.listed (codes "digest") 1 ∷ []) (Text (kind_text kind) ∷ Blob digest ∷ []) (values.entry_values x) ≡ is_entry kind digest x
is_it kind digest x = both _ _ _ _ (text_is (kind_text x.kind) (kind_text kind) ∙ kinds_differ kind x.kind) (blob_is x.digest digest)

pub is_of_kind : (kind : ListedKind) (x : Entry) → passes tables.listed (equals tables.listed (codes "kind") 0 ∷ []) (Text (kind_text kind) ∷ []) (values.entry_values x) ≡ is_same_kind kind x.kind
is_of_kind kind x = only _ _ (text_is (kind_text x.kind) (kind_text kind) ∙ kinds_differ kind x.kind)

pub is_digest : (digest x : List ℕ) → passes tables.revoked_digests (equals tables.revoked_digests (codes "digest") 0 ∷ []) (Blob digest ∷ []) (values.digest_values x) ≡ bytes_eq digest x
is_digest digest x = only _ _ (blob_is x digest)

pub is_revoked_certificate : (digest x : List ℕ)
    → passes tables.revoked_certificates (equals tables.revoked_certificates (codes "digest") 0 ∷ []) (Blob digest ∷ []) (values.digest_values x) ≡ bytes_eq digest x
is_revoked_certificate digest x = only _ _ (blob_is x digest)

pub is_of_name : (name : List ℕ) (x : Component) → passes tables.components (equals tables.components (codes "name") 0 ∷ []) (Text name ∷ []) (values.component_values x) ≡ is_named name x
is_of_name name x = only _ _ (text_is x.name name)

-- ---- calls

pub is_call : (caller key : List ℕ) (x : CallTexts)
    → passes tables.calls (equals tables.calls (codes "caller") 0 ∷ equals tables.calls (codes "key") 1 ∷ []) (Text caller ∷ Text key ∷ []) (call_row x) ≡ (bytes_eq caller x.caller && bytes_eq key x.key)
is_call caller key x = both _ _ _ _ (text_is x.caller caller) (text_is x.key key)

pub is_call_numbered : (k : ℕ) (x : CallTexts) → passes tables.calls (equals tables.calls (codes "no") 0 ∷ []) (Int (pos k) ∷ []) (call_row x) ≡ (k == x.number)
is_call_numbered k x = only _ _ (int_is x.number k)
