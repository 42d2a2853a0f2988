-- Tables after writes.
use Rattle.std.specs.Prelude.{ℕ, ◌==◌, Bool, if◌then◌else◌, List, [], ◌∷◌, map, bytes_eq}
use Rattle.sbat.specs.declared.component.Component.{Component}
use Rattle.desk_history.specs.declared.rows.ProposalRow.{ProposalRow}
use Rattle.desk_history.specs.declared.rows.RequestRow.{RequestRow}
use Rattle.desk_types.specs.declared.kind.ListedKind.{ListedKind}
use Rattle.desk_types.specs.declared.kind.ListedKind.TheVariants as kinds
use Rattle.desk_types.specs.declared.proposal.ProposalState.{ProposalState}
use Rattle.desk_types.specs.declared.state.State.{State}
use Rattle.desk_history.specs.declared.write.Write.{Write}
use Rattle.desk_history.specs.declared.write.Write.TheVariants as writes
use Rattle.desk_history.specs.Listing.{without}
use Rattle.desk_history.specs.Tables.{Tables}

-- the row, with this state if it is that of the request k
abbrev pub set_state : ℕ → State → RequestRow → RequestRow
set_state k state row = if k == row.number then record row { state = state } else row

-- the row, with this state if it is that of the proposal k
abbrev pub set_proposal_state : ℕ → ProposalState → ProposalRow → ProposalRow
set_proposal_state k state row = if k == row.number then record row { state = state } else row

-- the component has this name
abbrev pub is_named : List ℕ → Component → Bool
is_named name row = bytes_eq name row.name

-- the row, with the component's generation if it has its name
abbrev pub set_generation : Component → Component → Component
set_generation x row = if is_named x.name row then record row { generation = x.generation } else row

-- the tables with one more revoked digest, of an image or of a certificate
abbrev pub with_revoked : ListedKind → List ℕ → Tables → Tables
with_revoked kinds.Digest digest t = record t { revoked_digests = digest ∷ t.revoked_digests }
with_revoked kinds.Certificate digest t = record t { revoked_certificates = digest ∷ t.revoked_certificates }

-- the tables after a write
abbrev pub written : Write → Tables → Tables
written (writes.Person p) t = record t { people = p ∷ t.people }
written (writes.Call m) t = record t { calls = m ∷ t.calls }
written (writes.Request r) t = record t { requests = r ∷ t.requests }
written (writes.RequestCertificate r) t = record t { request_certificates = r ∷ t.request_certificates }
written (writes.RequestComponent r) t = record t { request_components = r ∷ t.request_components }
written (writes.Vote v) t = record t { votes = v ∷ t.votes }
written (writes.State o) t = record t { requests = map (set_state o.request o.state) t.requests }
written (writes.Return r) t = record t { returns = r ∷ t.returns }
written (writes.List e) t = record t { listed = e ∷ t.listed }
written (writes.Unlist l) t = record t { listed = without l.kind l.digest t.listed }
written (writes.Revoke l) t = with_revoked l.kind l.digest t
written (writes.Component x) t = record t { components = x ∷ t.components }
written (writes.Generation x) t = record t { components = map (set_generation x) t.components }
written (writes.Stamp s) t = record t { desk = record t.desk { stamp = s } }
written (writes.Propose p) t = record t { proposals = p ∷ t.proposals }
written (writes.ProposalState o) t = record t { proposals = map (set_proposal_state o.proposal o.state) t.proposals }

-- the tables after writes, one after another
abbrev pub all_written : List Write → Tables → Tables
all_written [] t = t
all_written (w ∷ ws) t = all_written ws (written w t)
