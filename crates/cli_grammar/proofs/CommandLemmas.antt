-- The shape of a subcommand with one word more.
use Rattle.std.proofs.Common.{◌≡◌, ◌∙◌, ℕ, ◌+◌, ◌<◌, zero, suc, List, [], ◌∷◌, ◌++◌, map, take, ap, arith}
use Rattle.clap.specs.Words.{App, Rule, Shape, Text, with_rule}
use Rattle.cli_grammar.specs.Commands.{id_of, ids, subcommand_shape, word_rule}

-- the rules of the words so far, with that of the word at this place
rules_more : (place : ℕ) (id : Text) → place < 4 → id ≡ id_of place
    → map word_rule (take place ids) ++ word_rule id ∷ [] ≡ map word_rule (take (place + 1) ids)
rules_more zero id lt is = ap (λ i. word_rule i ∷ []) is
rules_more (suc zero) id lt is = ap (λ i. map word_rule (take 1 ids) ++ word_rule i ∷ []) is
rules_more (suc (suc zero)) id lt is = ap (λ i. map word_rule (take 2 ids) ++ word_rule i ∷ []) is
rules_more (suc (suc (suc zero))) id lt is = ap (λ i. map word_rule (take 3 ids) ++ word_rule i ∷ []) is
rules_more (suc (suc (suc (suc k)))) id lt is = absurd (omega arith)

-- a subcommand with `place` words, and with one word more
pub shape_more : (old new : App) (name : Text) (place : ℕ) (id : Text) (rule : Rule) → place < 4
    → old.top ≡ subcommand_shape name place → id ≡ id_of place → rule ≡ word_rule id
    → new ≡ with_rule old rule → new.top ≡ subcommand_shape name (place + 1)
shape_more old new name place id rule lt so_far is by more =
    ap (λ (a : App). a.top) more
    ∙ ap (λ (s : Shape). record s { rules = s.rules ++ rule ∷ [] }) so_far
    ∙ ap (λ (r : Rule). record (subcommand_shape name place) { rules = map word_rule (take place ids) ++ r ∷ [] }) by
    ∙ ap (λ (rules : List Rule). record (subcommand_shape name place) { rules = rules }) (rules_more place id lt is)
