-- The words of `audit`, the last of which may be left out.
use Rattle.std.proofs.Common.{◌≡◌, ℕ, ◌+◌, List, [], ◌∷◌, codes, Some, refl, arith}
use Rattle.std.specs.List.{All}
use Rattle.clap.specs.Walk.{Held, Rule, Text, nothing_held, to_positional}
use Rattle.clap.specs.Takes.{walk_passes}
use Rattle.clap.specs.Simple.{Shape, built, built_leaf, filled, inherited, with_index}
use Rattle.cli_grammar.specs.Commands.{desk_app, id_of, optional_rule, subcommand_shape, with_optional}
use Rattle.cli_arguments.specs.Lines.{IsPlainWord}
use Rattle.cli_arguments.proofs.WordLemmas.{TakesWords, at_position, positional, turn_plain, walked_plain}

-- the subcommand as building leaves it
abbrev pub audit_leaf : Shape
audit_leaf = built_leaf (inherited (built desk_app).top (with_optional (subcommand_shape (codes "audit") 2)))

-- its last positional, as building leaves it
abbrev last_positional : Rule
last_positional = with_index 3 (filled (optional_rule (id_of 2)))

-- the words held before the word at a place, and this one
abbrev held_with : ℕ → Held → Text → Held
held_with place h word =
    (to_positional audit_leaf.rules (Some (positional place)) word (at_position (place + 1) h) h).held

abbrev held_two : Text → Text → Held
held_two first second = held_with 1 (held_with 0 nothing_held first) second

pub takes_without : (first second : Text) → All IsPlainWord (first ∷ second ∷ []) → TakesWords audit_leaf (first ∷ second ∷ [])
unfolding walk_passes
takes_without first second plain =
    let p0 : IsPlainWord first = plain 0 [] (omega arith) in
    let p1 : IsPlainWord second = plain 1 [] (omega arith) in
    record {
      passes = rw (
        turn_plain audit_leaf (positional 0) nothing_held 1 first p0 refl,
        walked_plain audit_leaf.rules (positional 0) nothing_held 1 first p0 refl,
        turn_plain audit_leaf (positional 1) (held_with 0 nothing_held first) 2 second p1 refl,
        walked_plain audit_leaf.rules (positional 1) (held_with 0 nothing_held first) 2 second p1 refl,
      ) refl;
      rows = rw (
        walked_plain audit_leaf.rules (positional 0) nothing_held 1 first p0 refl,
        walked_plain audit_leaf.rules (positional 1) (held_with 0 nothing_held first) 2 second p1 refl,
      ) refl;
    }

pub takes_with : (first second third : Text) → All IsPlainWord (first ∷ second ∷ third ∷ []) → TakesWords audit_leaf (first ∷ second ∷ third ∷ [])
unfolding walk_passes
takes_with first second third plain =
    let p0 : IsPlainWord first = plain 0 [] (omega arith) in
    let p1 : IsPlainWord second = plain 1 [] (omega arith) in
    let p2 : IsPlainWord third = plain 2 [] (omega arith) in
    record {
      passes = rw (
        turn_plain audit_leaf (positional 0) nothing_held 1 first p0 refl,
        walked_plain audit_leaf.rules (positional 0) nothing_held 1 first p0 refl,
        turn_plain audit_leaf (positional 1) (held_with 0 nothing_held first) 2 second p1 refl,
        walked_plain audit_leaf.rules (positional 1) (held_with 0 nothing_held first) 2 second p1 refl,
        turn_plain audit_leaf last_positional (held_two first second) 3 third p2 refl,
        walked_plain audit_leaf.rules last_positional (held_two first second) 3 third p2 refl,
      ) refl;
      rows = rw (
        walked_plain audit_leaf.rules (positional 0) nothing_held 1 first p0 refl,
        walked_plain audit_leaf.rules (positional 1) (held_with 0 nothing_held first) 2 second p1 refl,
        walked_plain audit_leaf.rules last_positional (held_two first second) 3 third p2 refl,
      ) refl;
    }
