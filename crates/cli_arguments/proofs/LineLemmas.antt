-- The line that `words` finds in the program's words.
use Rattle.std.proofs.Common.{◌≡◌, ◌∙◌, true, List, [], Option, Some, None, codes, length, refl, sym, subst, ap, ap₂, inl, inr}
use Rattle.std.specs.Prelude.{option_and_then, option_map, unwrap_or, Result}
use Rattle.std.specs.List.{All}
use Rattle.std.specs.Option.{ok_or}
use Rattle.clap.specs.Walk.{Row, Text}
use Rattle.clap.specs.Takes.{takes}
use Rattle.clap.specs.Simple.{App, HasMatchesOf, Shape, is_simple, subcommand_of, subcommand_rows_of}
use Rattle.clap.specs.Words.{HasKind, IsAmong, fault_of, is_simple_and_free, kind_of}
use Rattle.clap.specs.declared.error.Error.{Error}
use Rattle.clap.specs.declared.error.kind.ErrorKind.TheVariants.{OutOfMemory}
use Rattle.clap.specs.declared.parser.matches.ArgMatches.{ArgMatches}
use Rattle.clap.proofs.OnLiterals.{clap_on_literals}
use Rattle.cli_grammar.specs.Commands.{desk_app}
use Rattle.cli_arguments.specs.Lines.{ReadsWords, IsPlainWord, Line, Spells, Takes, answer, audit, db, dbx, enrol, facts, follow, impact, init, level, line_found, line_in, line_of, list, minutes, pack, person, ranges, serve, shim, subcommand_name, verdict, words_after}
use Rattle.cli_arguments.specs.declared.line.Words.{Words}
use Rattle.cli_arguments.specs.declared.line.WordsFault.{WordsFault}
use Rattle.cli_arguments.specs.declared.line.WordsFault.TheVariants.{Missing}
use Rattle.cli_arguments.proofs.AuditLemmas.{audit_leaf, takes_with, takes_without}
use Rattle.cli_arguments.proofs.WordLemmas.{Begins, TakesWords, leaf, rows_after_name, rows_from, takes_after, takes_four, takes_one, takes_three, takes_two}

-- ---- the lines of the program, a clause for each subcommand

-- the line's subcommand as building leaves it
abbrev leaf_of : Line → Shape
leaf_of (audit owner file export) = audit_leaf
leaf_of line = leaf (subcommand_name line) (length (words_after line))

begins : (line : Line) → Begins (subcommand_name line) (leaf_of line)
unfolding clap_on_literals
begins (init path owner) = record { walks = refl; passes = refl; found = refl; named = refl }
begins (person path name role key) = record { walks = refl; passes = refl; found = refl; named = refl }
begins (enrol path name role key) = record { walks = refl; passes = refl; found = refl; named = refl }
begins (follow path owner file) = record { walks = refl; passes = refl; found = refl; named = refl }
begins (serve path port count) = record { walks = refl; passes = refl; found = refl; named = refl }
begins (answer path) = record { walks = refl; passes = refl; found = refl; named = refl }
begins (facts file) = record { walks = refl; passes = refl; found = refl; named = refl }
begins (ranges file) = record { walks = refl; passes = refl; found = refl; named = refl }
begins (verdict path file) = record { walks = refl; passes = refl; found = refl; named = refl }
begins (impact path number) = record { walks = refl; passes = refl; found = refl; named = refl }
begins (db path) = record { walks = refl; passes = refl; found = refl; named = refl }
begins (dbx path) = record { walks = refl; passes = refl; found = refl; named = refl }
begins (shim path) = record { walks = refl; passes = refl; found = refl; named = refl }
begins (level path) = record { walks = refl; passes = refl; found = refl; named = refl }
begins (audit owner file export) = record { walks = refl; passes = refl; found = refl; named = refl }
begins (list file) = record { walks = refl; passes = refl; found = refl; named = refl }
begins (pack owner) = record { walks = refl; passes = refl; found = refl; named = refl }
begins (minutes path) = record { walks = refl; passes = refl; found = refl; named = refl }

takes_words : (line : Line) → All IsPlainWord (words_after line) → TakesWords (leaf_of line) (words_after line)
takes_words (init path owner) plain = takes_two (codes "init") path owner plain
takes_words (person path name role key) plain = takes_four (codes "person") path name role key plain
takes_words (enrol path name role key) plain = takes_four (codes "enrol") path name role key plain
takes_words (follow path owner file) plain = takes_three (codes "follow") path owner file plain
takes_words (serve path port count) plain = takes_three (codes "serve") path port count plain
takes_words (answer path) plain = takes_one (codes "answer") path plain
takes_words (facts file) plain = takes_one (codes "facts") file plain
takes_words (ranges file) plain = takes_one (codes "ranges") file plain
takes_words (verdict path file) plain = takes_two (codes "verdict") path file plain
takes_words (impact path number) plain = takes_two (codes "impact") path number plain
takes_words (db path) plain = takes_one (codes "db") path plain
takes_words (dbx path) plain = takes_one (codes "dbx") path plain
takes_words (shim path) plain = takes_one (codes "shim") path plain
takes_words (level path) plain = takes_one (codes "level") path plain
takes_words (audit owner file None) plain = takes_without owner file plain
takes_words (audit owner file (Some export)) plain = takes_with owner file export plain
takes_words (list file) plain = takes_one (codes "list") file plain
takes_words (pack owner) plain = takes_one (codes "pack") owner plain
takes_words (minutes path) plain = takes_one (codes "minutes") path plain

reads_back : (line : Line) → line_in (subcommand_name line, rows_from 0 (words_after line)) ≡ Some line
reads_back (init path owner) = refl
reads_back (person path name role key) = refl
reads_back (enrol path name role key) = refl
reads_back (follow path owner file) = refl
reads_back (serve path port count) = refl
reads_back (answer path) = refl
reads_back (facts file) = refl
reads_back (ranges file) = refl
reads_back (verdict path file) = refl
reads_back (impact path number) = refl
reads_back (db path) = refl
reads_back (dbx path) = refl
reads_back (shim path) = refl
reads_back (level path) = refl
reads_back (audit owner file None) = refl
reads_back (audit owner file (Some export)) = refl
reads_back (list file) = refl
reads_back (pack owner) = refl
reads_back (minutes path) = refl

-- ---- the lemmas that `words` cites

-- the command takes the line
pub line_taken : (line : Line) (app : App) (words : List Text) → app ≡ desk_app → Spells words line → takes app words ≡ true
line_taken line app words is spells =
    ap₂ takes is spells.same
    ∙ takes_after (subcommand_name line) _ (words_after line) (begins line) (takes_words line spells.plain).passes

-- and finds it in the words
pub line_read : (line : Line) (words : List Text) → Spells words line → line_found words ≡ Some line
line_read line words spells =
    ap (option_and_then line_in)
    (ap (subcommand_of desk_app) spells.same
    ∙ rows_after_name (subcommand_name line) _ (words_after line) (begins line)
    ∙ ap₂ (λ (name : Text) (rows : List Row). Some (name, rows)) (begins line).named (takes_words line spells.plain).rows)
    ∙ reads_back line

-- the line that is found is the one in the matches
pub line_met : (app : App) (words : List Text) (m : ArgMatches) → app ≡ desk_app → HasMatchesOf app words m
    → option_and_then line_in (subcommand_rows_of m) ≡ line_found words
line_met app words m is matches =
    ap (option_and_then line_in) ((matches (ap is_simple is)).1 ∙ ap (λ (a : App). subcommand_of a words) is)

-- a parse that succeeds has no fault
pub no_fault : (app : App) (words : List Text) → app ≡ desk_app → (is_simple_and_free app ≡ true → fault_of app words ≡ [])
    → fault_of desk_app words ≡ []
no_fault app words is known = ap (λ (a : App). fault_of a words) (sym is) ∙ known (ap is_simple_and_free is)

-- so that is what `words` answers
pub line_given : (words : List Text) (o : Option Words) (r : Result Words WordsFault) → r ≡ ok_or o Missing
    → fault_of desk_app words ≡ [] → option_map line_of o ≡ line_found words → ReadsWords words r
line_given words None r is whole said = rw is (whole, sym said)
line_given words (Some w) r is whole said = rw is (whole, sym said)

pub line_kept : (line : Line) (o : Option Words) (r : Result Words WordsFault) → r ≡ ok_or o Missing
    → option_map line_of o ≡ Some line → Takes line r
line_kept line None r is said = cc
line_kept line (Some w) r is said = rw is (ap (λ (o : Option Line). unwrap_or o line) said)

-- a fault other than refused memory is among those that are found
pub fault_among : (app : App) (words : List Text) (e : Error) → app ≡ desk_app → (kind_of e ≡ OutOfMemory → ⊥)
    → (is_simple_and_free app ≡ true → HasKind (fault_of app words) e) → IsAmong (kind_of e) (fault_of desk_app words)
fault_among app words e is enough known = elim (known (ap is_simple_and_free is)) [
  | inl memory ↦ absurd (enough memory)
  | inr among ↦ subst (λ (a : App). IsAmong (kind_of e) (fault_of a words)) is among
]
