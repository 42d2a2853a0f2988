-- own: a reply in JSON, the keys of each object ascending.
use Rattle.std.specs.Prelude.{ℕ, List, [], ◌∷◌, Option, Some, None, codes}
use Rattle.serde_json.specs.Data.{Data, string}
use Rattle.desk_types.specs.Words.{state_text}
use Rattle.desk_types.specs.declared.reply.Confirmation.{Confirmation}
use Rattle.desk_types.specs.declared.reply.Counts.{Counts}
use Rattle.desk_types.specs.declared.reply.Outcome.{Outcome}
use Rattle.desk_types.specs.declared.reply.Reply.{Reply}
use Rattle.desk_types.specs.declared.reply.Reply.TheVariants.{Added, Submitted, Reviewed, Withdrawn, Returned, Listed, Unlisted, Revoked, Raised, Imported, Proposed, Confirmed, Dropped, Explained}
use Rattle.http_responses.specs.json.Values.{object_from, whole}

-- a reply of one word
abbrev pub word_data : List ℕ → Data
word_data word = object_from ((codes "reply", string word) ∷ [])

-- a word, and the request that it is about
abbrev pub numbered_data : List ℕ → ℕ → Data
numbered_data word request = object_from (
    (codes "reply", string word)
    ∷ (codes "request", whole request)
    ∷ [])

-- the state of a request after a review
abbrev pub reviewed_data : Outcome → Data
reviewed_data outcome = object_from (
    (codes "reply", string (codes "reviewed"))
    ∷ (codes "request", whole outcome.request)
    ∷ (codes "state", string (state_text outcome.state))
    ∷ [])

-- the changes of an import, and how many entries it skipped
abbrev pub imported_data : Counts → Data
imported_data counts = object_from (
    (codes "certificates", whole counts.certificates)
    ∷ (codes "components", whole counts.components)
    ∷ (codes "digests", whole counts.digests)
    ∷ (codes "passed", whole counts.passed)
    ∷ (codes "reply", string (codes "imported"))
    ∷ [])

-- a word, and the proposal that it is about
abbrev pub about_proposal : List ℕ → ℕ → Data
about_proposal word proposal = object_from (
    (codes "proposal", whole proposal)
    ∷ (codes "reply", string word)
    ∷ [])

-- the changes of a confirmed proposal, and how many entries of its import were skipped
abbrev pub confirmed_data : Confirmation → Data
confirmed_data confirmation = object_from (
    (codes "certificates", whole confirmation.counts.certificates)
    ∷ (codes "components", whole confirmation.counts.components)
    ∷ (codes "digests", whole confirmation.counts.digests)
    ∷ (codes "passed", whole confirmation.counts.passed)
    ∷ (codes "proposal", whole confirmation.proposal)
    ∷ (codes "reply", string (codes "confirmed"))
    ∷ [])

-- a reply; only the console adds people, so that reply has no JSON
abbrev pub reply_data : Reply → Option Data
reply_data (Added name) = None
reply_data (Submitted request) = Some (numbered_data (codes "submitted") request)
reply_data (Reviewed outcome) = Some (reviewed_data outcome)
reply_data (Withdrawn request) = Some (numbered_data (codes "withdrawn") request)
reply_data (Returned request) = Some (numbered_data (codes "returned") request)
reply_data Listed = Some (word_data (codes "listed"))
reply_data Unlisted = Some (word_data (codes "unlisted"))
reply_data Revoked = Some (word_data (codes "revoked"))
reply_data Raised = Some (word_data (codes "raised"))
reply_data (Imported counts) = Some (imported_data counts)
reply_data (Proposed proposal) = Some (about_proposal (codes "proposed") proposal)
reply_data (Confirmed confirmation) = Some (confirmed_data confirmation)
reply_data (Dropped proposal) = Some (about_proposal (codes "dropped") proposal)
reply_data (Explained proposal) = Some (about_proposal (codes "explained") proposal)
