-- The matches that `clap` gives for the name of a subcommand and plain words after it.
use Rattle.std.proofs.Common.{◌≡◌, ◌≢◌, ◌⊎◌, ◌∙◌, ℕ, Bool, true, false, ◌+◌, List, [], ◌∷◌, ◌++◌, Option, Some, None, length, fold, refl, sym, ap, ap₂, subst, inl, inr, arith}
use Rattle.std.specs.Prelude.{◌&&◌, ◌==◌, is_some, find, option_map}
use Rattle.std.specs.List.{All, list_all}
use Rattle.std.specs.Option.{option_map_or}
use Rattle.std.proofs.lemmas.Bool.Decides.{nat_tests}
use Rattle.clap.specs.Walk.{Held, Names, Row, Rule, Text, Walk, answers_to, arg_by_index, finished, idle, nothing_held, reading_by, rows_after, to_positional, value, walk, walk_from, walked, word_met}
use Rattle.clap.specs.Takes.{default_passes, entered_passes, is_valid, level_passes, positional_passes, settle_passes, takes, turn_passes, walk_passes, word_passes}
use Rattle.clap.specs.Simple.{Shape, built, built_leaf, entered, filled, inherited, label_of, names_of, rows_at, subcommand_of, with_index}
use Rattle.clap.specs.declared.parser.matches.ValueSource.TheVariants.{CommandLine}
use Rattle.clap.proofs.WalkLemmas.{walk_stopped}
use Rattle.cli_grammar.specs.Commands.{desk_app, id_of, subcommand_shape, word_rule}
use Rattle.cli_arguments.specs.Lines.{IsPlainWord}

-- ---- one plain word, in a command that has no subcommand

no_hyphen : (b : ℕ) → b ≢ 45 → (b == 45) ≡ false
no_hyphen b other = grind (arith, nat_tests)

-- it doesn't begin with a hyphen, or is one
hyphen_alone : (b : ℕ) (bs : Text) → (b ≢ 45) ⊎ (bs ≡ []) → (b ≢ 45) ⊎ (b ∷ bs ≡ 45 ∷ [])
hyphen_alone b bs (inl other) = inl other
hyphen_alone b bs (inr none) = by (b == 45) refl
  where
    by : (v : Bool) → (b == 45) ≡ v → (b ≢ 45) ⊎ (b ∷ bs ≡ 45 ∷ [])
    by true e = inr (ap₂ (λ (x : ℕ) (xs : Text). x ∷ xs) (let same : b ≡ 45 = grind (arith, nat_tests, e) in same) none)
    by false e = inl (λ same. let bad : false ≡ true = sym e ∙ ap (λ n. n == 45) same in absurd (cc))

-- it is a value
plain_met : (rules : List Rule) (position : ℕ) (word : Text) (h : Held) → IsPlainWord word
    → word_met rules [] false idle position word h ≡ (h, value)
plain_met rules position [] h plain = absurd plain
plain_met rules position (b ∷ bs) h plain = elim (hyphen_alone b bs plain) [
  | inl other ↦ let differs : (b == 45) ≡ false = no_hyphen b other in rw (differs, differs) refl
  | inr same ↦ subst (λ (w : Text). word_met rules [] false idle position w h ≡ (h, value)) (sym same) refl
]

-- it is no flag that could be refused
plain_passes : (s : Shape) (word : Text) (h : Held) → IsPlainWord word → word_passes s [] false idle word h ≡ true
plain_passes s [] h plain = absurd plain
plain_passes s (b ∷ bs) h plain = elim (hyphen_alone b bs plain) [
  | inl other ↦ let differs : (b == 45) ≡ false = no_hyphen b other in rw (differs, differs) refl
  | inr same ↦ subst (λ (w : Text). word_passes s [] false idle w h ≡ true) (sym same) refl
]

-- the walk where nothing waits for a value
abbrev pub at_position : ℕ → Held → Walk
at_position position h = record { held = h; waiting = idle; position = position; is_trailing = false; stopped = None }

-- it goes to the positional whose turn it is
pub walked_plain : (rules : List Rule) (a : Rule) (h : Held) (position : ℕ) (word : Text) → IsPlainWord word
    → arg_by_index rules position ≡ Some a
    → walked rules [] (at_position position h) word ≡ to_positional rules (Some a) word (at_position position h) h
unfolding walked
walked_plain rules a h position word plain found = rw (plain_met rules position word h plain, found) refl

pub turn_plain : (s : Shape) (a : Rule) (h : Held) (position : ℕ) (word : Text) → IsPlainWord word
    → arg_by_index s.rules position ≡ Some a
    → turn_passes s [] (at_position position h) word ≡ positional_passes s.rules s.args_override_self a h
turn_plain s a h position word plain found =
    rw (plain_met s.rules position word h plain, plain_passes s word h plain, found) refl

-- ---- the words of a subcommand, by their number

-- the subcommand as building leaves it
abbrev pub leaf : Text → ℕ → Shape
leaf name count = built_leaf (inherited (built desk_app).top (subcommand_shape name count))

-- the positional of a place, as building leaves it
abbrev pub positional : ℕ → Rule
positional place = with_index (place + 1) (filled (word_rule (id_of place)))

abbrev pub row_at : ℕ → Text → Row
row_at place word = record {
  id = id_of place;
  values = word ∷ [];
  count = None;
  source = Some CommandLine;
  reading = reading_by (positional place);
}

-- the rows for the words from this place on
abbrev pub rows_from : ℕ → List Text → List Row
rows_from place [] = []
rows_from place (word ∷ words) = row_at place word ∷ rows_from (place + 1) words

-- the subcommand takes the words, each at its place
pub record TakesWords (s : Shape) (words : List Text) : Type 0 where
  pub passes : level_passes s [] nothing_held words false ≡ true
  pub rows : rows_after s.rules [] words ≡ rows_from 0 words

pub takes_one : (name first : Text) → All IsPlainWord (first ∷ []) → TakesWords (leaf name 1) (first ∷ [])
unfolding walk_passes
takes_one name first plain = record {
  passes = rw (
    turn_plain (leaf name 1) (positional 0) nothing_held 1 first (plain 0 [] (omega arith)) refl,
    walked_plain (leaf name 1).rules (positional 0) nothing_held 1 first (plain 0 [] (omega arith)) refl,
  ) refl;
  rows = rw (walked_plain (leaf name 1).rules (positional 0) nothing_held 1 first (plain 0 [] (omega arith)) refl) refl;
}

-- the words held before the word at a place of a subcommand of `count` words, and this one
abbrev held_with : ℕ → ℕ → Held → Text → Held
held_with count place h word =
    (to_positional (leaf [] count).rules (Some (positional place)) word (at_position (place + 1) h) h).held

abbrev held_two : ℕ → Text → Text → Held
held_two count first second = held_with count 1 (held_with count 0 nothing_held first) second

abbrev held_three : ℕ → Text → Text → Text → Held
held_three count first second third = held_with count 2 (held_two count first second) third

pub takes_two : (name first second : Text) → All IsPlainWord (first ∷ second ∷ []) → TakesWords (leaf name 2) (first ∷ second ∷ [])
unfolding walk_passes
takes_two name first second plain =
    let p0 : IsPlainWord first = plain 0 [] (omega arith) in
    let p1 : IsPlainWord second = plain 1 [] (omega arith) in
    record {
      passes = rw (
        turn_plain (leaf name 2) (positional 0) nothing_held 1 first p0 refl,
        walked_plain (leaf name 2).rules (positional 0) nothing_held 1 first p0 refl,
        turn_plain (leaf name 2) (positional 1) (held_with 2 0 nothing_held first) 2 second p1 refl,
        walked_plain (leaf name 2).rules (positional 1) (held_with 2 0 nothing_held first) 2 second p1 refl,
      ) refl;
      rows = rw (
        walked_plain (leaf name 2).rules (positional 0) nothing_held 1 first p0 refl,
        walked_plain (leaf name 2).rules (positional 1) (held_with 2 0 nothing_held first) 2 second p1 refl,
      ) refl;
    }

pub takes_three : (name first second third : Text) → All IsPlainWord (first ∷ second ∷ third ∷ []) → TakesWords (leaf name 3) (first ∷ second ∷ third ∷ [])
unfolding walk_passes
takes_three name first second third plain =
    let p0 : IsPlainWord first = plain 0 [] (omega arith) in
    let p1 : IsPlainWord second = plain 1 [] (omega arith) in
    let p2 : IsPlainWord third = plain 2 [] (omega arith) in
    record {
      passes = rw (
        turn_plain (leaf name 3) (positional 0) nothing_held 1 first p0 refl,
        walked_plain (leaf name 3).rules (positional 0) nothing_held 1 first p0 refl,
        turn_plain (leaf name 3) (positional 1) (held_with 3 0 nothing_held first) 2 second p1 refl,
        walked_plain (leaf name 3).rules (positional 1) (held_with 3 0 nothing_held first) 2 second p1 refl,
        turn_plain (leaf name 3) (positional 2) (held_two 3 first second) 3 third p2 refl,
        walked_plain (leaf name 3).rules (positional 2) (held_two 3 first second) 3 third p2 refl,
      ) refl;
      rows = rw (
        walked_plain (leaf name 3).rules (positional 0) nothing_held 1 first p0 refl,
        walked_plain (leaf name 3).rules (positional 1) (held_with 3 0 nothing_held first) 2 second p1 refl,
        walked_plain (leaf name 3).rules (positional 2) (held_two 3 first second) 3 third p2 refl,
      ) refl;
    }

pub takes_four : (name first second third fourth : Text) → All IsPlainWord (first ∷ second ∷ third ∷ fourth ∷ [])
    → TakesWords (leaf name 4) (first ∷ second ∷ third ∷ fourth ∷ [])
unfolding walk_passes
takes_four name first second third fourth plain =
    let p0 : IsPlainWord first = plain 0 [] (omega arith) in
    let p1 : IsPlainWord second = plain 1 [] (omega arith) in
    let p2 : IsPlainWord third = plain 2 [] (omega arith) in
    let p3 : IsPlainWord fourth = plain 3 [] (omega arith) in
    record {
      passes = rw (
        turn_plain (leaf name 4) (positional 0) nothing_held 1 first p0 refl,
        walked_plain (leaf name 4).rules (positional 0) nothing_held 1 first p0 refl,
        turn_plain (leaf name 4) (positional 1) (held_with 4 0 nothing_held first) 2 second p1 refl,
        walked_plain (leaf name 4).rules (positional 1) (held_with 4 0 nothing_held first) 2 second p1 refl,
        turn_plain (leaf name 4) (positional 2) (held_two 4 first second) 3 third p2 refl,
        walked_plain (leaf name 4).rules (positional 2) (held_two 4 first second) 3 third p2 refl,
        turn_plain (leaf name 4) (positional 3) (held_three 4 first second third) 4 fourth p3 refl,
        walked_plain (leaf name 4).rules (positional 3) (held_three 4 first second third) 4 fourth p3 refl,
      ) refl;
      rows = rw (
        walked_plain (leaf name 4).rules (positional 0) nothing_held 1 first p0 refl,
        walked_plain (leaf name 4).rules (positional 1) (held_with 4 0 nothing_held first) 2 second p1 refl,
        walked_plain (leaf name 4).rules (positional 2) (held_two 4 first second) 3 third p2 refl,
        walked_plain (leaf name 4).rules (positional 3) (held_three 4 first second third) 4 fourth p3 refl,
      ) refl;
    }

-- ---- the subcommand's name, whatever follows it

-- the name is met as that of this subcommand
pub record Begins (name : Text) (subcommand : Shape) : Type 0 where
  pub walks : walked (built desk_app).top.rules (names_of (built desk_app)) (walk_from nothing_held) name
      ≡ record (walk_from nothing_held) { stopped = Some (name, []) }
  pub passes : turn_passes (built desk_app).top (names_of (built desk_app)) (walk_from nothing_held) name ≡ true
  pub found : find (λ s. answers_to name (label_of s)) (built desk_app).subs ≡ Some subcommand
  pub named : subcommand.name ≡ name

walk_is : (name : Text) (subcommand : Shape) (words : List Text) → Begins name subcommand
    → walk (built desk_app).top.rules (names_of (built desk_app)) nothing_held (name ∷ words)
    ≡ record (walk_from nothing_held) { stopped = Some (name, words) }
walk_is name subcommand words begins =
    ap (λ (w : Walk). fold (walked (built desk_app).top.rules (names_of (built desk_app))) w words) begins.walks
    ∙ sym (walk_stopped (built desk_app).top.rules (names_of (built desk_app)) (walk_from nothing_held) name [] words)

-- the words after it are none of the command's own
stopped_passes : (s : Shape) (names : Names) (w : Walk) (stop : Text × List Text) (words : List Text)
    → walk_passes s names (record w { stopped = Some stop }) words ≡ true
unfolding walk_passes walked
stopped_passes s names w stop [] = refl
stopped_passes s names w stop (x ∷ xs) = stopped_passes s names w (stop.0, stop.1 ++ x ∷ []) xs

both_true : (a b : Bool) → a ≡ true → b ≡ true → (a && b) ≡ true
both_true a b first second = rw (first, second) refl

passes_above : (name : Text) (subcommand : Shape) (words : List Text) → Begins name subcommand
    → walk_passes (built desk_app).top (names_of (built desk_app)) (walk_from nothing_held) (name ∷ words) ≡ true
unfolding walk_passes
passes_above name subcommand words begins =
    both_true _ _ begins.passes
    (ap (λ (w : Walk). walk_passes (built desk_app).top (names_of (built desk_app)) w words) begins.walks
    ∙ stopped_passes (built desk_app).top (names_of (built desk_app)) (walk_from nothing_held) (name, []) words)

pub takes_after : (name : Text) (subcommand : Shape) (words : List Text) → Begins name subcommand
    → level_passes subcommand [] nothing_held words false ≡ true → takes desk_app (name ∷ words) ≡ true
takes_after name subcommand words begins below =
    ap (λ (w : Walk). entered_passes (built desk_app) w.stopped
    && level_passes (built desk_app).top (names_of (built desk_app)) nothing_held (name ∷ words) (is_some (entered (built desk_app) w.stopped)))
    (walk_is name subcommand words begins)
    ∙ both_true _ _
    (ap (λ (s : Option Shape). option_map_or (λ s. level_passes s [] nothing_held words false) s true) begins.found ∙ below)
    (ap (λ (s : Option Shape). level_passes (built desk_app).top (names_of (built desk_app)) nothing_held (name ∷ words) (is_some (option_map (λ s. rows_at s words) s))) begins.found
    ∙ above)
  where
    above : level_passes (built desk_app).top (names_of (built desk_app)) nothing_held (name ∷ words) true ≡ true
    above =
        both_true _ _ (passes_above name subcommand words begins)
        (ap (λ (w : Walk). settle_passes (built desk_app).top.rules (built desk_app).top.args_override_self w.held
        && (list_all default_passes (built desk_app).top.rules && is_valid (built desk_app).top (finished (built desk_app).top.rules w.held) true))
        (walk_is name subcommand words begins))

pub rows_after_name : (name : Text) (subcommand : Shape) (words : List Text) → Begins name subcommand
    → subcommand_of desk_app (name ∷ words) ≡ Some (rows_at subcommand words)
rows_after_name name subcommand words begins =
    ap (λ (w : Walk). entered (built desk_app) w.stopped) (walk_is name subcommand words begins)
    ∙ ap (option_map (λ s. rows_at s words)) begins.found
