-- The tables of a history: lists of rows, whose order means nothing.
use Rattle.std.specs.Prelude.{ℕ, ◌+◌, List, [], ◌∷◌, map, flat_map, count_by, unwrap_or, codes}
use Rattle.sbat.specs.declared.component.Component.{Component}
use Rattle.desk_types.specs.declared.kind.ListedKind.TheVariants as kinds
use Rattle.desk_types.specs.declared.command.Person.{Person}
use Rattle.desk_history.specs.declared.rows.Entry.{Entry}
use Rattle.desk_history.specs.declared.rows.Minute.{Minute}
use Rattle.desk_history.specs.declared.rows.ProposalRow.{ProposalRow}
use Rattle.desk_history.specs.declared.rows.RequestCertificateRow.{RequestCertificateRow}
use Rattle.desk_history.specs.declared.rows.RequestComponentRow.{RequestComponentRow}
use Rattle.desk_history.specs.declared.rows.RequestRow.{RequestRow}
use Rattle.desk_history.specs.declared.rows.ReturnRow.{ReturnRow}
use Rattle.desk_history.specs.declared.rows.VoteRow.{VoteRow}
use Rattle.desk_types.specs.declared.proposal.ProposalState.{ProposalState}
use Rattle.desk_types.specs.declared.state.State.{State}
use Rattle.desk_history.specs.Calls.{History, distinct, is_first}
use Rattle.desk_history.specs.Level.{generations, greatest, names, stamp}
use Rattle.desk_history.specs.Listing.{listed}
use Rattle.desk_history.specs.People.{people}
use Rattle.desk_history.specs.Proposals.{Proposal, proposal_state, proposals}
use Rattle.desk_history.specs.Replies.{minutes}
use Rattle.desk_history.specs.Requests.{Request, Returned, requests, returns, state, votes}
use Rattle.desk_history.specs.Revocations.{revocations}

-- own: the one row of a desk: its mark, the version of its tables, the owner of each entry that it
-- exports, and the level's stamp
pub record DeskRow : Type 0 where
  pub id : ℕ
  pub mark : List ℕ
  pub version : ℕ
  pub owner : List ℕ
  pub stamp : ℕ

-- a request as a row, with its state
abbrev pub request_row : State → Request → RequestRow
request_row state r = record {
  number = r.number;
  submitter = r.submitter;
  title = r.title;
  length = r.facts.extent.length;
  gap = r.facts.extent.gap;
  file = r.facts.file;
  digest = r.facts.digest;
  signing = r.facts.signing;
  state = state;
}

-- the certificates that a request's image carries
abbrev pub certificate_rows : Request → List RequestCertificateRow
certificate_rows r = map (λ d. record { request = r.number; digest = d }) r.facts.carried

-- components of the request k from this place on
abbrev pub placed_from : ℕ → ℕ → List Component → List RequestComponentRow
placed_from k place [] = []
placed_from k place (x ∷ xs) =
    record { request = k; place = place; name = x.name; generation = x.generation } ∷ placed_from k (place + 1) xs

-- the components of a request's image, with their places from 0
abbrev pub component_rows : Request → List RequestComponentRow
component_rows r = placed_from r.number 0 r.facts.components

-- a returned file as a row
abbrev pub return_row : Returned → ReturnRow
return_row r =
    record { request = r.request; signer = r.signer; length = r.facts.extent.length; file = r.facts.file; digest = r.facts.digest }

-- the name with the greatest generation that these components give it
abbrev pub level_row : List Component → List ℕ → Component
level_row named name = record { name = name; generation = unwrap_or (greatest named name) 0 }

-- the level's rows; in a desk's history `sbat` has none (`level_has_no_sbat`)
abbrev pub level_rows : List Component → List Component
level_rows named = map (level_row named) (names named)

-- a proposal as a row, with its state
abbrev pub proposal_row : ProposalState → Proposal → ProposalRow
proposal_row state p =
    record { number = p.number; officer = p.officer; kind = p.named.kind; named = p.named.entries; state = state }

-- own: the one row of `migrated`: how many of the calls were accepted by the first rules
pub record MigratedRow : Type 0 where
  pub id : ℕ
  pub calls : ℕ

-- the fifteen tables; a proposal's row includes the entries that it names, which a file keeps in a
-- table of its own
pub record Tables : Type 0 where
  pub desk : DeskRow
  pub people : List Person
  pub calls : List Minute
  pub requests : List RequestRow
  pub request_certificates : List RequestCertificateRow
  pub request_components : List RequestComponentRow
  pub votes : List VoteRow
  pub returns : List ReturnRow
  pub listed : List Entry
  pub revoked_digests : List (List ℕ)
  pub revoked_certificates : List (List ℕ)
  pub components : List Component
  pub proposals : List ProposalRow
  pub migrated : List MigratedRow

-- the tables of a desk with this owner and history
abbrev pub tables : List ℕ → History → Tables
tables owner cs = record {
  desk = record { id = 1; mark = codes "boot-desk"; version = 2; owner = owner; stamp = stamp cs };
  people = people cs;
  calls = minutes cs;
  requests = map (λ r. request_row (state cs r.number) r) (requests cs);
  request_certificates = flat_map certificate_rows (requests cs);
  request_components = flat_map component_rows (requests cs);
  votes = votes cs;
  returns = map return_row (returns cs);
  listed = listed cs;
  revoked_digests = distinct (revocations kinds.Digest cs);
  revoked_certificates = distinct (revocations kinds.Certificate cs);
  components = level_rows (generations cs);
  proposals = map (λ p. proposal_row (proposal_state cs p.number) p) (proposals cs);
  migrated = record { id = 1; calls = count_by is_first cs } ∷ [];
}
