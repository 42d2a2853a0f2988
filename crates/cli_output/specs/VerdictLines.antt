-- The line of a verdict.
use Rattle.std.specs.Prelude.{ℕ, List, ◌++◌, Option, None, Some, codes, decimal, slice_get}
use Rattle.sbat.specs.declared.component.Component.{Component}
use Rattle.desk_types.specs.declared.facts.Facts.{Facts}
use Rattle.desk_history.specs.declared.finding.Verdict.{Verdict}
use Rattle.desk_history.specs.declared.finding.Verdict.TheVariants.{Allowed, DbxCertificate, DbxDigest, NotListed, Sbat}

-- the name and the generation of the component below the level, if there is one, and the generation
-- that the level requires of it
abbrev pub below_words : Option Component → ℕ → List ℕ
below_words None needs = codes "refused sbat " ++ decimal needs
below_words (Some component) needs =
    codes "refused sbat " ++ component.name ++ codes " " ++ decimal component.generation ++ codes " " ++ decimal needs

-- own: the words of a verdict: `allowed`, or `refused` and why
abbrev pub verdict_words : Verdict → List Component → List ℕ
verdict_words Allowed components = codes "allowed"
verdict_words DbxDigest components = codes "refused dbx-digest"
verdict_words DbxCertificate components = codes "refused dbx-certificate"
verdict_words NotListed components = codes "refused not-listed"
verdict_words (Sbat below) components = below_words (slice_get components below.place) below.needs

-- the words and LF
abbrev pub verdict_line : Verdict → Facts → List ℕ
verdict_line verdict facts = verdict_words verdict facts.components ++ codes "\n"
