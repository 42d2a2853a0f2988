use Rattle.std.proofs.Common.{◌≡◌, Some, None, sym, ap, ◌∙◌}
use Rattle.std.proofs.lemmas.Option.{same_Some}
use Rattle.hex.specs.Hex.{encode_lower}
use Rattle.base.specs.Digests.{digest_of}
use Rattle.base.proofs.DigestLemmas.{digest_of-text}
use Rattle.desk_types.proofs.ItemReadingLemmas.{differ_not}
use Rattle.desk_types.proofs.items_reading.digest_of.Goals as goal

pub returns-in_default-clause-only : goal.returns-in_default-clause-only
returns-in_default-clause-only c = λ digest form same.
    let none : None ≡ Some digest = c.in_default.ensures ∙ ap digest_of same ∙ digest_of-text digest form.size form.bytes in
    absurd (cc)

pub returns-then-ne-clause-only : goal.returns-then-ne-clause-only
returns-then-ne-clause-only c = λ digest form same.
    let read : Some c.in-Ok.digest ≡ Some digest = c.in-Ok.ensures ∙ ap digest_of same ∙ digest_of-text digest form.size form.bytes in
    let is = same_Some c.in-Ok.digest digest read in
    differ_not c.args.text.now c.as_slice.result.now c.ne.result c.ne.ensures c.if-ne.true
    (same ∙ ap encode_lower (sym is) ∙ sym c.text.ensures ∙ sym c.as_slice.ensures)
