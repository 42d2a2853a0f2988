-- own: the canonical text of a reply: its word and its parts, joined by one space.
use Rattle.std.specs.Prelude.{ℕ, List, [], ◌∷◌, codes, decimal}
use Rattle.desk_types.specs.Words.{state_text}
use Rattle.desk_types.specs.Items.{spaced}
use Rattle.desk_types.specs.declared.reply.Reply.{Reply}
use Rattle.desk_types.specs.declared.reply.Reply.TheVariants.{Added, Submitted, Reviewed, Withdrawn, Returned, Listed, Unlisted, Revoked, Raised, Imported, Proposed, Confirmed, Dropped, Explained}

-- the word and the parts of a reply
abbrev pub reply_parts : Reply → List (List ℕ)
reply_parts (Added name) = codes "added" ∷ name ∷ []
reply_parts (Submitted request) = codes "submitted" ∷ decimal request ∷ []
reply_parts (Reviewed o) = codes "reviewed" ∷ decimal o.request ∷ state_text o.state ∷ []
reply_parts (Withdrawn request) = codes "withdrawn" ∷ decimal request ∷ []
reply_parts (Returned request) = codes "returned" ∷ decimal request ∷ []
reply_parts Listed = codes "listed" ∷ []
reply_parts Unlisted = codes "unlisted" ∷ []
reply_parts Revoked = codes "revoked" ∷ []
reply_parts Raised = codes "raised" ∷ []
reply_parts (Imported c) =
    codes "imported" ∷ decimal c.digests ∷ decimal c.certificates ∷ decimal c.components ∷ decimal c.passed ∷ []
reply_parts (Proposed proposal) = codes "proposed" ∷ decimal proposal ∷ []
reply_parts (Confirmed c) =
    codes "confirmed" ∷ decimal c.proposal ∷ decimal c.counts.digests ∷ decimal c.counts.certificates
    ∷ decimal c.counts.components ∷ decimal c.counts.passed ∷ []
reply_parts (Dropped proposal) = codes "dropped" ∷ decimal proposal ∷ []
reply_parts (Explained proposal) = codes "explained" ∷ decimal proposal ∷ []

-- the text of a reply
abbrev pub reply_text_of : Reply → List ℕ
reply_text_of reply = spaced (reply_parts reply)
