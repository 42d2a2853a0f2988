use Rattle.store_shown.proofs.readings.shown_to.Goals as goal

pub returns-in-Requests-clause-value : goal.returns-in-Requests-clause-value
returns-in-Requests-clause-value g c = rw c.in-Requests.is c.requests_of.ensures.value

pub returns-in-Requests-clause-named : goal.returns-in-Requests-clause-named
returns-in-Requests-clause-named g c = rw c.in-Requests.is c.requests_of.ensures.named

pub returns-in-RequestsFrom-clause-value : goal.returns-in-RequestsFrom-clause-value
returns-in-RequestsFrom-clause-value g c = rw c.in-RequestsFrom.is c.requests_from.ensures.value

pub returns-in-RequestsFrom-clause-named : goal.returns-in-RequestsFrom-clause-named
returns-in-RequestsFrom-clause-named g c = rw c.in-RequestsFrom.is c.requests_from.ensures.named

pub returns-in-RequestsWith-clause-value : goal.returns-in-RequestsWith-clause-value
returns-in-RequestsWith-clause-value g c = rw c.in-RequestsWith.is c.requests_with.ensures.value

pub returns-in-RequestsWith-clause-named : goal.returns-in-RequestsWith-clause-named
returns-in-RequestsWith-clause-named g c = rw c.in-RequestsWith.is c.requests_with.ensures.named

pub returns-in-Request-clause-value : goal.returns-in-Request-clause-value
returns-in-Request-clause-value g c = rw c.in-Request.is c.request.ensures.value

pub returns-in-Request-clause-named : goal.returns-in-Request-clause-named
returns-in-Request-clause-named g c = rw c.in-Request.is c.request.ensures.named

pub returns-in-Proposals-clause-value : goal.returns-in-Proposals-clause-value
returns-in-Proposals-clause-value g c = rw c.in-Proposals.is c.proposals_of.ensures.value

pub returns-in-Proposals-clause-named : goal.returns-in-Proposals-clause-named
returns-in-Proposals-clause-named g c = rw c.in-Proposals.is c.proposals_of.ensures.named

pub returns-in-ProposalsFrom-clause-value : goal.returns-in-ProposalsFrom-clause-value
returns-in-ProposalsFrom-clause-value g c = rw c.in-ProposalsFrom.is c.proposals_from.ensures.value

pub returns-in-ProposalsFrom-clause-named : goal.returns-in-ProposalsFrom-clause-named
returns-in-ProposalsFrom-clause-named g c = rw c.in-ProposalsFrom.is c.proposals_from.ensures.named

pub returns-in-Proposal-clause-value : goal.returns-in-Proposal-clause-value
returns-in-Proposal-clause-value g c = rw c.in-Proposal.is c.proposal_for_officer.ensures.value

pub returns-in-Proposal-clause-named : goal.returns-in-Proposal-clause-named
returns-in-Proposal-clause-named g c = rw c.in-Proposal.is c.proposal_for_officer.ensures.named

pub returns-in-Waiting-clause-value : goal.returns-in-Waiting-clause-value
returns-in-Waiting-clause-value g c = rw c.in-Waiting.is c.waiting_of.ensures.value

pub returns-in-Waiting-clause-named : goal.returns-in-Waiting-clause-named
returns-in-Waiting-clause-named g c = rw c.in-Waiting.is c.waiting_of.ensures.named

pub returns-in-Changes-clause-value : goal.returns-in-Changes-clause-value
returns-in-Changes-clause-value g c = rw c.in-Changes.is c.changes_of.ensures.value

pub returns-in-Changes-clause-named : goal.returns-in-Changes-clause-named
returns-in-Changes-clause-named g c = rw c.in-Changes.is c.changes_of.ensures.named

pub returns-in-Minutes-clause-value : goal.returns-in-Minutes-clause-value
returns-in-Minutes-clause-value g c = rw c.in-Minutes.is c.minutes_from.ensures.value

pub returns-in-Minutes-clause-named : goal.returns-in-Minutes-clause-named
returns-in-Minutes-clause-named g c = rw c.in-Minutes.is c.minutes_from.ensures.named

pub returns-in-People-clause-value : goal.returns-in-People-clause-value
returns-in-People-clause-value g c = rw c.in-People.is c.people_for_officer.ensures.value

pub returns-in-People-clause-named : goal.returns-in-People-clause-named
returns-in-People-clause-named g c = rw c.in-People.is c.people_for_officer.ensures.named
