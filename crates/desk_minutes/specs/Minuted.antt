-- The rules of each call, by the minutes.
use Rattle.std.specs.Prelude.{Bool, true, false, if◌then◌else◌, [], ◌∷◌}
use Rattle.std.specs.List.{list_any}
use Rattle.desk_types.specs.declared.reply.Reply.{Reply}
use Rattle.desk_types.specs.declared.reply.Reply.TheVariants as replies
use Rattle.desk_history.specs.Calls.{First, History, Rules, Second, under}
use Rattle.desk_history.specs.Replies.{minutes}

-- only the second rules give the reply; an Explained needs no test, since a Proposed came before it
abbrev pub is_of_second : Reply → Bool
is_of_second (replies.Added _) = false
is_of_second (replies.Submitted _) = false
is_of_second (replies.Reviewed _) = false
is_of_second (replies.Withdrawn _) = false
is_of_second (replies.Returned _) = false
is_of_second replies.Listed = false
is_of_second replies.Unlisted = false
is_of_second replies.Revoked = false
is_of_second replies.Raised = false
is_of_second (replies.Imported _) = false
is_of_second (replies.Proposed _) = true
is_of_second (replies.Confirmed _) = true
is_of_second (replies.Dropped _) = true
is_of_second (replies.Explained _) = false

-- the minutes have a reply that only the second rules give
abbrev pub shows_second : History → Bool
shows_second cs = list_any (λ m. is_of_second m.reply) (minutes cs)

-- the rules by which the newest of these calls was accepted, by the minutes
abbrev pub minuted_rules : History → Rules
minuted_rules cs = if shows_second cs then Second else First

-- own: the history as its minutes tell it, which don't name the rules: each call is by the first
-- rules until a reply that only the second give, and by the second from that call on. A call before
-- it that the second rules accepted is accepted by the first with the same reply.
abbrev pub as_minuted : History → History
as_minuted [] = []
as_minuted (i ∷ cs) = under (minuted_rules (i ∷ cs)) i.call ∷ as_minuted cs
