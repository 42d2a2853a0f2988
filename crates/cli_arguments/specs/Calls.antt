-- What a run of the program does, by what its calls do.
use Rattle.std.specs.Prelude.{◌≡◌, ◌⊎◌, ℕ, List, Option, Result, Ok, Err}
use Rattle.std.specs.Io.KnownBytes.{Keeps}
use Rattle.cli_output.specs.declared.ending.Ending.{Ending}
use Rattle.cli_arguments.specs.Lines.{Line}
use Rattle.cli_arguments.specs.Meanings.{Meaning, Means, StopsWords}
use Rattle.cli_arguments.specs.declared.values.stop.Stop.{Stop}

-- the bytes of a run: those that its input has to give, and those that its output holds before and
-- after it
pub record Streams : Type 0 where
  pub given : Option (List ℕ)
  pub before : Option (List ℕ)
  pub after : Option (List ℕ)

-- these bytes
abbrev pub streams : Option (List ℕ) → Option (List ℕ) → Option (List ℕ) → Streams
streams given before after = record { given = given; before = before; after = after }

-- a run's bytes and its end: of its work, or why it stopped before that
abbrev pub Run : Type 1
Run = Streams → Result Ending Stop → Type 0

-- it is done whatever the input has, and nothing is written
abbrev pub InSilence : Run → Ending → Type 0
InSilence did ending = (given held : Option (List ℕ)) → did (streams given held held) (Ok ending)

-- it is done whatever the input has, and so is written
abbrev pub WithoutInput : Run → Option (List ℕ) → Option (List ℕ) → Ending → Type 0
WithoutInput did before after ending = (given : Option (List ℕ)) → did (streams given before after) (Ok ending)

-- own: A word that isn't in its form stops the run, and nothing is written. Otherwise the subcommand
-- is done with the values that its words mean.
abbrev pub DoesLine : (Meaning → Run) → Line → Run
DoesLine does line bytes result =
    ((why : Stop) × StopsWords line why × (result ≡ Err why) × Keeps bytes.before bytes.after)
    ⊎ ((meaning : Meaning) × Means line meaning × does meaning bytes result)
