-- The lines of an impact.
use Rattle.std.specs.Prelude.{ℕ, Bool, true, false, List, ◌++◌, codes, decimal}
use Rattle.std.specs.List.{flat_map}
use Rattle.desk_types.specs.Words.{state_text}
use Rattle.desk_history.specs.Files.{file_text}
use Rattle.desk_history.specs.declared.impact.BarredImage.{BarredImage}
use Rattle.desk_history.specs.declared.impact.Rule.{Rule}
use Rattle.desk_history.specs.declared.impact.Rule.TheVariants as rules
use Rattle.desk_history.specs.declared.impact.ShownImpact.{ShownImpact}

-- own: the verdict now, `refused` for whatever reason
abbrev pub now_word : Bool → List ℕ
now_word true = codes "allowed"
now_word false = codes "refused"

-- own: the rule that would bar it, as the line of a verdict has it
abbrev pub rule_words : Rule → List ℕ
rule_words rules.Digest = codes "dbx-digest"
rule_words rules.Certificate = codes "dbx-certificate"
rule_words (rules.Component x needs) =
    codes "sbat " ++ x.name ++ codes " " ++ decimal x.generation ++ codes " " ++ decimal needs

-- own: the request, its file, its state, the submitter and the verdict now, each with a tab after it
unfoldable pub barred_front : BarredImage → List ℕ
barred_front b =
    decimal b.request ++ codes "\t" ++ file_text b.file ++ codes "\t" ++ state_text b.state ++ codes "\t"
    ++ b.submitter ++ codes "\t" ++ now_word b.is_allowed ++ codes "\t"

-- own: a tab, the title and LF
unfoldable pub title_end : List ℕ → List ℕ
title_end title = codes "\t" ++ title ++ codes "\n"

-- the line of an image that would be barred
abbrev pub barred_line : BarredImage → List ℕ
barred_line b = barred_front b ++ rule_words b.rule ++ title_end b.title

-- own: `dbx N`, the length of dbx in bytes
unfoldable pub dbx_line : ℕ → List ℕ
dbx_line length = codes "dbx " ++ decimal length ++ codes "\n"

-- a line for each image that would be barred, and that of dbx
abbrev pub impact_lines : ShownImpact → List ℕ
impact_lines shown = flat_map barred_line shown.bars.items ++ dbx_line shown.dbx
