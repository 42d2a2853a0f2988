use Rattle.std.proofs.Common.{◌≡◌, subst, true}
use Rattle.std.specs.List.Sorted.{IsPermutation}
use Rattle.std.proofs.lemmas.List.Sorted.{All-permutation, IsPermutation-sym}
use Rattle.sqlite.specs.Held.{state}
use Rattle.store_reads.specs.Numbers.{numbers_in}
use Rattle.store_reads.proofs.TellsLemmas.{tells_so}
use Rattle.store_shown.specs.Searching.{AreMarked, MarksColumn, is_marked}
use Rattle.store_shown.proofs.searching.mark_column.Goals as goal

pub returns-clause-value : goal.returns-clause-value
returns-clause-value g c clean inside =
    let d = c.args.digest.now in
    let column = c.args.column.now in
    let numbers = c.in_ok-numbers.numbers.items in
    let marks = c.mark.new.marks.items in
    let marked : AreMarked marks numbers = subst (AreMarked marks) c.as_slice.ensures.value c.in_ok-mark.ensures.marked in
    tells_so (state g.S.Store c.args.tx.now.conn.now) (state g.S.Store c.numbers_with.new.tx.conn.now)
    (λ t. IsPermutation (numbers_in column d t) numbers) (λ t. MarksColumn d marks t column)
    (λ t same. All-permutation (λ k. is_marked marks k ≡ true) numbers (numbers_in column d t) (IsPermutation-sym (numbers_in column d t) numbers same) marked)
    (c.in_ok-numbers.ensures.value clean inside)
