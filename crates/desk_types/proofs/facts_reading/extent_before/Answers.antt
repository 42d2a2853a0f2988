use Rattle.std.proofs.Common.{◌≢◌, ℕ, List}
use Rattle.pe_image.specs.Extents.{Lengths}
use Rattle.desk_types.specs.Reading.{IsExtent, extent_then}
use Rattle.desk_types.proofs.FactsReadingLemmas.{extent_refused, file_small, gap_small, number_same}
use Rattle.desk_types.proofs.SpaceLemmas.{none_fact}
use Rattle.desk_types.proofs.facts_reading.extent_before.Goals as goal

pub returns-in_err-gap-clause-only : goal.returns-in_err-gap-clause-only
returns-in_err-gap-clause-only c =
    let first = c.in_ok-length.ensures.found in
    let none : (e : Lengths) (rest : List ℕ) → IsExtent e → c.args.text.now ≢ extent_then e rest =
    λ e rest h same.
    c.in_err-gap.ensures.only e.gap rest (gap_small e h)
    (number_same c.args.text.now c.in_ok-length.text.now _ c.in_ok-length.length e.length first.0 (file_small e h) first.1 same).1 in
    none_fact _ none

pub returns-in_err-extent-clause-only : goal.returns-in_err-extent-clause-only
returns-in_err-extent-clause-only c =
    let first = c.in_ok-length.ensures.found in
    let second = c.in_ok-gap.ensures.found in
    let none : (e : Lengths) (rest : List ℕ) → IsExtent e → c.args.text.now ≢ extent_then e rest =
    λ e rest h same.
    let one = number_same c.args.text.now c.in_ok-length.text.now _ c.in_ok-length.length e.length first.0 (file_small e h) first.1 same in
    let two = number_same c.in_ok-length.text.now c.in_ok-gap.text.now rest c.in_ok-gap.gap e.gap second.0 (gap_small e h) second.1 one.1 in
    extent_refused c.in_ok-length.length c.in_ok-gap.gap e c.in_err-extent.ensures one.0 two.0 h in
    none_fact _ none
