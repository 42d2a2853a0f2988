-- Replies read back from their texts.
use Rattle.std.proofs.Common.{◌≡◌, ℕ, cond, List, [], ◌∷◌, ◌++◌, decimal, refl, sym, ap, ap₂, ◌∙◌}
use Rattle.std.specs.Prelude.{codes}
use Rattle.std.specs.Str.{bytes_eq}
use Rattle.sbat.specs.Fields.{decimal_of}
use Rattle.desk_types.specs.Commands.{AreCounts, IsCount, IsReply}
use Rattle.desk_types.specs.Items.{spaced}
use Rattle.desk_types.specs.ReplyTexts.{reply_text_of}
use Rattle.desk_types.specs.Words.{state_text}
use Rattle.desk_types.specs.declared.reply.Confirmation.{Confirmation}
use Rattle.desk_types.specs.declared.reply.Counts.{Counts}
use Rattle.desk_types.specs.declared.reply.Outcome.{Outcome}
use Rattle.desk_types.specs.declared.reply.Reply.{Reply}
use Rattle.desk_types.specs.declared.reply.Reply.TheVariants.{Added, Submitted, Reviewed, Withdrawn, Returned, Listed, Unlisted, Revoked, Raised, Imported, Proposed, Confirmed, Dropped, Explained}
use Rattle.desk_types.specs.declared.state.State.{State}
use Rattle.desk_types.proofs.FieldLemmas.{after, after-is, before, before-is, field, fields, fields-more}
use Rattle.desk_types.proofs.PartLemmas.{request_small}
use Rattle.desk_types.proofs.WordLemmas.{state_in, state_read}
use Rattle.desk_types.proofs.ValueLemmas.{decimal_free, decimal_read}

abbrev outcome : ℕ → State → Outcome
outcome request state = record { request = request; state = state }

abbrev outcome_of : List (List ℕ) → Outcome
outcome_of parts = outcome (decimal_of (field parts 0)) (state_in (field parts 1))

outcome_read : (o : Outcome) → IsCount o.request → outcome_of (fields 1 (spaced (decimal o.request ∷ state_text o.state ∷ []))) ≡ o
outcome_read o small =
    let parts = fields-more 0 (decimal o.request) (state_text o.state) _ (decimal_free o.request small) refl in
    ap outcome_of parts ∙ ap₂ outcome (decimal_read o.request small) (state_read o.state)

abbrev counts : ℕ → ℕ → ℕ → ℕ → Counts
counts digests certificates components passed = record {
  digests = digests;
  certificates = certificates;
  components = components;
  passed = passed;
}

counts_same : (a b c d e f g h : ℕ) → a ≡ e → b ≡ f → c ≡ g → d ≡ h → counts a b c d ≡ counts e f g h
counts_same a b c d e f g h i j k l = cc

abbrev counts_of : List (List ℕ) → Counts
counts_of parts = counts (decimal_of (field parts 0)) (decimal_of (field parts 1)) (decimal_of (field parts 2)) (decimal_of (field parts 3))

counts_read : (c : Counts) → AreCounts c
    → counts_of (fields 3 (spaced (decimal c.digests ∷ decimal c.certificates ∷ decimal c.components ∷ decimal c.passed ∷ []))) ≡ c
counts_read c h =
    let third = fields-more 0 (decimal c.components) (decimal c.passed) _ (decimal_free c.components h.2) refl in
    let second = fields-more 1 (decimal c.certificates) (spaced (decimal c.components ∷ decimal c.passed ∷ [])) _ (decimal_free c.certificates h.1) third in
    let parts = fields-more 2 (decimal c.digests) (spaced (decimal c.certificates ∷ decimal c.components ∷ decimal c.passed ∷ [])) _
    (decimal_free c.digests h.0) second in
    ap counts_of parts
    ∙ counts_same _ _ _ _ c.digests c.certificates c.components c.passed (decimal_read c.digests h.0) (decimal_read c.certificates h.1)
    (decimal_read c.components h.2) (decimal_read c.passed h.3)

abbrev confirmation : ℕ → Counts → Confirmation
confirmation proposal counted = record { proposal = proposal; counts = counted }

abbrev confirmation_of : List ℕ → Confirmation
confirmation_of text = confirmation (decimal_of (before 32 text)) (counts_of (fields 3 (after 32 text)))

abbrev pub four : Counts → List ℕ
four c = spaced (decimal c.digests ∷ decimal c.certificates ∷ decimal c.components ∷ decimal c.passed ∷ [])

confirmation_read : (c : Confirmation) → IsReply (Confirmed c) → confirmation_of (decimal c.proposal ++ (32 ∷ four c.counts)) ≡ c
confirmation_read c h =
    let small = request_small c.proposal h.0 in
    let free = decimal_free c.proposal small in
    ap₂ (λ n t. confirmation (decimal_of n) (counts_of (fields 3 t))) (before-is 32 (decimal c.proposal) (four c.counts) free) (after-is 32 (decimal c.proposal) (four c.counts) free)
    ∙ ap₂ confirmation (decimal_read c.proposal small) (counts_read c.counts h.1)

abbrev chosen : List ℕ → List ℕ → Reply
chosen word rest =
    cond (bytes_eq word (codes "added")) (Added rest)
    (cond (bytes_eq word (codes "submitted")) (Submitted (decimal_of rest))
    (cond (bytes_eq word (codes "reviewed")) (Reviewed (outcome_of (fields 1 rest)))
    (cond (bytes_eq word (codes "withdrawn")) (Withdrawn (decimal_of rest))
    (cond (bytes_eq word (codes "returned")) (Returned (decimal_of rest))
    (cond (bytes_eq word (codes "listed")) Listed
    (cond (bytes_eq word (codes "unlisted")) Unlisted
    (cond (bytes_eq word (codes "revoked")) Revoked
    (cond (bytes_eq word (codes "raised")) Raised
    (cond (bytes_eq word (codes "proposed")) (Proposed (decimal_of rest))
    (cond (bytes_eq word (codes "confirmed")) (Confirmed (confirmation_of rest))
    (cond (bytes_eq word (codes "dropped")) (Dropped (decimal_of rest))
    (cond (bytes_eq word (codes "explained")) (Explained (decimal_of rest))
    (Imported (counts_of (fields 3 rest)))))))))))))))

-- the reply of a text
abbrev reply_in : List ℕ → Reply
reply_in text = chosen (before 32 text) (after 32 text)

reply_read : (r : Reply) → IsReply r → reply_in (reply_text_of r) ≡ r
reply_read (Added name) h = refl
reply_read (Submitted request) h = ap Submitted (decimal_read request (request_small request h))
reply_read (Reviewed o) h = ap Reviewed (outcome_read o (request_small o.request h))
reply_read (Withdrawn request) h = ap Withdrawn (decimal_read request (request_small request h))
reply_read (Returned request) h = ap Returned (decimal_read request (request_small request h))
reply_read Listed h = refl
reply_read Unlisted h = refl
reply_read Revoked h = refl
reply_read Raised h = refl
reply_read (Imported c) h = ap Imported (counts_read c h)
reply_read (Proposed proposal) h = ap Proposed (decimal_read proposal (request_small proposal h))
reply_read (Confirmed c) h = ap Confirmed (confirmation_read c h)
reply_read (Dropped proposal) h = ap Dropped (decimal_read proposal (request_small proposal h))
reply_read (Explained proposal) h = ap Explained (decimal_read proposal (request_small proposal h))

-- replies of one text are one reply
pub reply_text_of-same : (a b : Reply) → IsReply a → IsReply b → reply_text_of a ≡ reply_text_of b → a ≡ b
reply_text_of-same a b h k same = sym (reply_read a h) ∙ ap reply_in same ∙ reply_read b k
