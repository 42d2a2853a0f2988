-- The numbers of the desk's JSON, none of which is a float.
use Rattle.std.proofs.Common.{◌≡◌, ℕ, List, [], ◌∷◌, Option, Some, None, false, map, refl, sym, subst}
use Rattle.std.specs.Prelude.{⊤, option_map, slice_get}
use Rattle.serde_json.specs.Data.{Data}
use Rattle.serde_json.specs.View.{items_of, view}
use Rattle.serde_json.specs.declared.value.Value.{Value}
use Rattle.serde_json.specs.Written.{has_float, items_have_float}
use Rattle.sbat.specs.declared.component.Component.{Component}
use Rattle.desk_history.specs.declared.finding.Verdict.{Verdict}
use Rattle.desk_history.specs.declared.impact.BarredImage.{BarredImage}
use Rattle.desk_history.specs.declared.impact.Rule.{Rule}
use Rattle.desk_history.specs.declared.impact.Rule.TheVariants as rules
use Rattle.desk_history.specs.declared.rows.ProposalRow.{ProposalRow}
use Rattle.desk_history.specs.declared.finding.Verdict.TheVariants.{Allowed, DbxCertificate, DbxDigest, NotListed, Sbat}
use Rattle.desk_history.specs.declared.shown_person.ShownPerson.{ShownPerson}
use Rattle.desk_types.specs.declared.facts.Facts.{Facts}
use Rattle.desk_types.specs.declared.proposal.Proposal.{Proposal}
use Rattle.desk_types.specs.declared.reply.Counts.{Counts}
use Rattle.desk_types.specs.declared.reply.Reply.{Reply}
use Rattle.desk_types.specs.declared.reply.Reply.TheVariants.{Added, Submitted, Reviewed, Withdrawn, Returned, Listed, Unlisted, Revoked, Raised, Imported, Proposed, Confirmed, Dropped, Explained}
use Rattle.desk_types.specs.declared.shown.ShownRequest.{ShownRequest}
use Rattle.desk_types.specs.declared.shown.ShownReturn.{ShownReturn}
use Rattle.http_responses.specs.json.Values.{digest_data, component_data}
use Rattle.http_responses.specs.json.Changes.{changes_data}
use Rattle.http_responses.specs.json.Facts.{facts_data}
use Rattle.http_responses.specs.json.Impacts.{adds_data, barred_data, rule_data}
use Rattle.http_responses.specs.json.People.{person_data}
use Rattle.http_responses.specs.json.Proposals.{proposal_data}
use Rattle.http_responses.specs.json.Replies.{reply_data}
use Rattle.http_responses.specs.json.Requests.{request_data, returned_data, vote_data}
use Rattle.http_responses.specs.json.Verdicts.{below_data, verdict_data}
use Rattle.http_responses.specs.json.WholeProposals.{stamp_data, whole_proposal_data}

-- no item has a float, so the items have none
no_item_has_float : {X : Type 0} (as_data : X → Data) → ((x : X) → has_float (as_data x) ≡ false)
    → (xs : List X) → items_have_float (items_of (map as_data xs)) ≡ false
no_item_has_float as_data none [] = refl
no_item_has_float as_data none (x ∷ xs) = rw (none x, no_item_has_float as_data none xs) refl

-- a returned file has none
returned_has_no_float : (returned : Option ShownReturn) → has_float (returned_data returned) ≡ false
returned_has_no_float None = refl
returned_has_no_float (Some returned) = refl

-- facts have none
pub facts_have_no_float : (x : Facts) → has_float (facts_data x) ≡ false
facts_have_no_float x =
    rw (
      no_item_has_float digest_data (λ digest. refl) x.carried,
      no_item_has_float component_data (λ component. refl) x.components,
    ) refl

-- a request has none
pub request_has_no_float : (r : ShownRequest) → has_float (request_data r) ≡ false
request_has_no_float r =
    rw (
      no_item_has_float digest_data (λ digest. refl) r.facts.carried,
      no_item_has_float component_data (λ component. refl) r.facts.components,
      returned_has_no_float r.returned,
      no_item_has_float vote_data (λ vote. refl) r.votes,
    ) refl

-- a stamp has none
stamp_has_no_float : (stamp : Option ℕ) → has_float (stamp_data stamp) ≡ false
stamp_has_no_float None = refl
stamp_has_no_float (Some stamp) = refl

-- a proposal with all that it names has none
pub whole_proposal_has_no_float : (p : ProposalRow) → has_float (whole_proposal_data p) ≡ false
whole_proposal_has_no_float p =
    rw (
      no_item_has_float digest_data (λ digest. refl) p.named.certificates,
      no_item_has_float component_data (λ component. refl) p.named.components,
      no_item_has_float digest_data (λ digest. refl) p.named.digests,
      stamp_has_no_float p.named.stamp,
    ) refl

-- a rule has none
rule_has_no_float : (rule : Rule) → has_float (rule_data rule) ≡ false
rule_has_no_float rules.Digest = refl
rule_has_no_float rules.Certificate = refl
rule_has_no_float (rules.Component component needed) = refl

-- an image that would be barred has none
pub barred_has_no_float : (b : BarredImage) → has_float (barred_data b) ≡ false
barred_has_no_float b = rw (rule_has_no_float b.rule) refl

-- counts have none
pub adds_have_no_float : (counts : Counts) → has_float (adds_data counts) ≡ false
adds_have_no_float counts = refl

-- a number of changes has none
pub changes_have_no_float : (changes : ℕ) → has_float (changes_data changes) ≡ false
changes_have_no_float changes = refl

-- a person has none
pub person_has_no_float : (p : ShownPerson) → has_float (person_data p) ≡ false
person_has_no_float p = refl

-- a proposal has none
pub proposal_has_no_float : (p : Proposal) → has_float (proposal_data p) ≡ false
proposal_has_no_float p = refl

-- if there is a value, it has none
abbrev HasNoFloat : Option Data → Type 0
HasNoFloat None = ⊤
HasNoFloat (Some d) = has_float d ≡ false

-- a reply has none
reply_cases : (reply : Reply) → HasNoFloat (reply_data reply)
reply_cases (Added name) = tt
reply_cases (Submitted request) = refl
reply_cases (Reviewed outcome) = refl
reply_cases (Withdrawn request) = refl
reply_cases (Returned request) = refl
reply_cases Listed = refl
reply_cases Unlisted = refl
reply_cases Revoked = refl
reply_cases Raised = refl
reply_cases (Imported counts) = refl
reply_cases (Proposed proposal) = refl
reply_cases (Confirmed confirmation) = refl
reply_cases (Dropped proposal) = refl
reply_cases (Explained proposal) = refl

-- the value that is made of a reply has none
pub reply_has_no_float : (reply : Reply) (v : Value) → Some (view v) ≡ reply_data reply → has_float (view v) ≡ false
reply_has_no_float reply v is = subst HasNoFloat (sym is) (reply_cases reply)

-- a component below the level has none
below_has_no_float : (needs : ℕ) (found : Option Component) → HasNoFloat (option_map (below_data needs) found)
below_has_no_float needs None = tt
below_has_no_float needs (Some c) = refl

-- a verdict has none
verdict_cases : (components : List Component) (verdict : Verdict) → HasNoFloat (verdict_data components verdict)
verdict_cases components DbxDigest = refl
verdict_cases components DbxCertificate = refl
verdict_cases components NotListed = refl
verdict_cases components (Sbat below) = below_has_no_float below.needs (slice_get components below.place)
verdict_cases components Allowed = refl

-- the value that is made of a verdict has none
pub verdict_has_no_float : (components : List Component) (verdict : Verdict) (v : Value)
    → Some (view v) ≡ verdict_data components verdict → has_float (view v) ≡ false
verdict_has_no_float components verdict v is = subst HasNoFloat (sym is) (verdict_cases components verdict)
