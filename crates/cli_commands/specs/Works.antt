-- The lines of a subcommand over a desk's file, and the outcomes of its work.
use Rattle.std.specs.Prelude.{◌≡◌, ◌⊎◌, ℕ, List, [], ◌++◌, Option, None, Some, Result, Ok, Err, codes, if◌then◌else◌, map}
use Rattle.std.specs.List.{flat_map, list_any}
use Rattle.base.specs.declared.refusal.Refusal.{Refusal}
use Rattle.desk_types.specs.declared.caller.Caller.TheVariants as callers
use Rattle.desk_history.specs.Impact.{Impact}
use Rattle.desk_history.specs.ImpactShown.{impact_for, shown_barred}
use Rattle.desk_history.specs.declared.impact.ShownImpact.{ShownImpact}
use Rattle.cli_output.specs.ImpactLines.{barred_line, dbx_line}
use Rattle.desk_history.specs.Calls.{History}
use Rattle.desk_history.specs.Runs.{answer, next, reply_in}
use Rattle.desk_history.specs.declared.finding.Verdict.{Verdict}
use Rattle.desk_history.specs.declared.finding.Verdict.TheVariants.{Allowed, DbxCertificate, DbxDigest, NotListed, Sbat}
use Rattle.desk_types.specs.ReplyTexts.{reply_text_of}
use Rattle.desk_types.specs.declared.command.Call.{Call}
use Rattle.desk_types.specs.declared.reply.Reply.{Reply}
use Rattle.sqlite.specs.Store.{Ghosts}
use Rattle.store_desk.specs.Desks.{ForEachShown, ShowsDesk}
use Rattle.store_desk.specs.declared.desk.Desk.{Desk}
use Rattle.cli_output.specs.declared.ending.WorkOutcome.{WorkOutcome}
use Rattle.cli_output.specs.declared.ending.WorkOutcome.TheVariants.{Done, Refused}

-- a text and LF
abbrev pub line_of : List ℕ → List ℕ
line_of text = text ++ codes "\n"

-- own: the reply's text and LF
abbrev pub reply_line : Reply → List ℕ
reply_line reply = line_of (reply_text_of reply)

-- the line of a reply, if there is one
abbrev pub line_in : Option Reply → List ℕ
line_in None = []
line_in (Some reply) = reply_line reply

-- own: the line that a desk of this history writes for a call: that of its reply, or none for a
-- refusal
abbrev pub answer_line : Call → List ℕ → History → List ℕ
answer_line c owner cs = line_in (reply_in (answer cs c))

-- after a call the desk shows the same history or the one after the call
abbrev pub MayHaveAnswered : {S : Type 0} → Ghosts S → Desk S → Desk S → Call → Type 0
MayHaveAnswered g old new c = ForEachShown g old (λ owner cs. ShowsDesk g new owner cs ⊎ ShowsDesk g new owner (next cs c))

-- own: every verdict except `allowed` refuses the image
abbrev pub outcome_of : Verdict → WorkOutcome
outcome_of Allowed = Done
outcome_of DbxDigest = Refused
outcome_of DbxCertificate = Refused
outcome_of NotListed = Refused
outcome_of (Sbat below) = Refused

-- own: the impact refuses the Confirm if it would bar an image that is allowed now
abbrev pub impact_outcome : Impact → WorkOutcome
impact_outcome w = if list_any (λ b. b.allowed) w.bars then Refused else Done

-- the same of an impact as it is shown
abbrev pub shown_outcome : ShownImpact → WorkOutcome
shown_outcome shown = if list_any (λ b. b.is_allowed) shown.bars.items then Refused else Done

-- the lines of an impact, or none if it is refused
abbrev pub lines_of_impact : Result Impact Refusal → List ℕ
lines_of_impact (Ok w) = flat_map barred_line (map shown_barred w.bars) ++ dbx_line w.dbx
lines_of_impact (Err refusal) = []

-- own: the lines that a desk of this history writes for the impact of a proposal
abbrev pub foretold_lines : ℕ → List ℕ → History → List ℕ
foretold_lines k owner cs = lines_of_impact (impact_for cs callers.Console k)

-- the impact of the proposal has this outcome
abbrev pub Foretells : ℕ → WorkOutcome → List ℕ → History → Type 0
Foretells k outcome owner cs = (w : Impact) × (impact_for cs callers.Console k ≡ Ok w) × (outcome ≡ impact_outcome w)

-- it is refused so
abbrev pub RefusesImpact : ℕ → Refusal → List ℕ → History → Type 0
RefusesImpact k refusal owner cs = impact_for cs callers.Console k ≡ Err refusal
