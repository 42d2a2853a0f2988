-- What UPDATE and DELETE find in the desk's rows, and what UPDATE makes of them.
use Rattle.std.proofs.Common.{◌≡◌, ℕ, pos, [], ◌∷◌, codes, ◌==◌, bytes_eq, refl, ◌∙◌}
use Rattle.std.specs.Prelude.{unwrap_or}
use Rattle.sqlite.specs.declared.types.Value.TheVariants.{Int, Text, Blob}
use Rattle.sqlite.specs.Order.{Row}
use Rattle.store_sql.specs.Contents.{seen, whole}
use Rattle.store_sql.specs.Effects.{passes}
use Rattle.store_sql.specs.Queries.{rewritten}
use Rattle.store_sql.proofs.ValueLemmas.{cast_null, cast_int, text_is, blob_is, int_is, only, both}
use Rattle.store_schema.specs.Named.{equals, set_to}
use Rattle.store_schema.specs.Tables.{desk, requests, listed, components, proposals}
use Rattle.sbat.specs.declared.component.Component.{Component}
use Rattle.desk_types.specs.declared.kind.ListedKind.{ListedKind}
use Rattle.desk_types.specs.declared.kind.ListedKind.TheVariants.{Digest, Certificate}
use Rattle.desk_types.specs.declared.command.Listing.{Listing}
use Rattle.desk_types.specs.declared.reply.Outcome.{Outcome}
use Rattle.desk_types.specs.declared.proposal.ProposalOutcome.{ProposalOutcome}
use Rattle.desk_types.specs.Words.{kind_text, proposal_state_text, state_text}
use Rattle.desk_history.specs.declared.rows.Entry.{Entry}
use Rattle.desk_history.specs.declared.rows.ProposalRow.{ProposalRow}
use Rattle.desk_history.specs.declared.rows.RequestRow.{RequestRow}
use Rattle.desk_history.specs.Calls.{is_same_kind}
use Rattle.desk_history.specs.Listing.{is_entry}
use Rattle.desk_history.specs.Tables.{DeskRow}
use Rattle.desk_history.specs.Writes.{is_named}
use Rattle.store_schema.specs.rows.Values.{desk_values, request_values, entry_values, component_values, proposal_values}

-- ---- the state of a request

abbrev pub state_params : Outcome → Row
state_params o = Int (pos o.request) ∷ Text (state_text o.state) ∷ []

pub has_number : (o : Outcome) (x : RequestRow) → passes requests (equals requests (codes "no") 0 ∷ []) (state_params o) (request_values x) ≡ (o.request == x.number)
has_number o x = only _ _ (int_is x.number o.request)

pub gets_state : (o : Outcome) (x : RequestRow)
    → seen requests (rewritten requests (set_to requests (codes "state") 1) (state_params o) (whole requests (request_values x))) ≡ request_values (record x { state = o.state })
gets_state o x = rw (cast_null, cast_int (pos x.number), cast_int (pos x.length), cast_int (pos x.gap)) refl

-- ---- the state of a proposal

abbrev pub proposal_state_params : ProposalOutcome → Row
proposal_state_params o = Int (pos o.proposal) ∷ Text (proposal_state_text o.state) ∷ []

pub has_proposal_number : (o : ProposalOutcome) (x : ProposalRow) → passes proposals (equals proposals (codes "no") 0 ∷ []) (proposal_state_params o) (proposal_values x) ≡ (o.proposal == x.number)
has_proposal_number o x = only _ _ (int_is x.number o.proposal)

pub gets_proposal_state : (o : ProposalOutcome) (x : ProposalRow)
    → seen proposals (rewritten proposals (set_to proposals (codes "state") 1) (proposal_state_params o) (whole proposals (proposal_values x))) ≡ proposal_values (record x { state = o.state })
gets_proposal_state o x = rw (cast_null, cast_int (pos x.number), cast_int (pos (unwrap_or x.named.stamp 0)), cast_int (pos x.named.passed)) refl

-- ---- the generation of a name

pub has_name : (y x : Component) → passes components (equals components (codes "name") 0 ∷ []) (component_values y) (component_values x) ≡ is_named y.name x
has_name y x = only _ _ (text_is x.name y.name)

pub gets_generation : (y x : Component)
    → seen components (rewritten components (set_to components (codes "generation") 1) (component_values y) (whole components (component_values x))) ≡ component_values (record x { generation = y.generation })
gets_generation y x = rw (cast_int (pos y.generation)) refl

-- ---- the stamp

pub gets_stamp : (stamp : ℕ) (x : DeskRow)
    → seen desk (rewritten desk (set_to desk (codes "stamp") 0) (Int (pos stamp) ∷ []) (whole desk (desk_values x))) ≡ desk_values (record x { stamp = stamp })
gets_stamp stamp x = rw (cast_null, cast_int (pos x.id), cast_int (pos x.version), cast_int (pos stamp)) refl

-- ---- the version

pub gets_version : (version : ℕ) (x : DeskRow)
    → seen desk (rewritten desk (set_to desk (codes "version") 0) (Int (pos version) ∷ []) (whole desk (desk_values x))) ≡ desk_values (record x { version = version })
gets_version version x = rw (cast_null, cast_int (pos x.id), cast_int (pos version), cast_int (pos x.stamp)) refl

-- ---- listed entries

abbrev pub listing_params : Listing → Row
listing_params l = Text (kind_text l.kind) ∷ Blob l.digest ∷ []

kinds_differ : (k l : ListedKind) → bytes_eq (kind_text k) (kind_text l) ≡ is_same_kind k l
kinds_differ Digest Digest = refl
kinds_differ Digest Certificate = refl
kinds_differ Certificate Digest = refl
kinds_differ Certificate Certificate = refl

pub is_it : (l : Listing) (x : Entry) → passes listed (equals listed (codes "kind") 0 ∷ equals listed (codes "digest") 1 ∷ []) (listing_params l) (entry_values x) ≡ is_entry l.kind l.digest x
is_it l x = both _ _ _ _ (text_is (kind_text x.kind) (kind_text l.kind) ∙ kinds_differ l.kind x.kind) (blob_is x.digest l.digest)
