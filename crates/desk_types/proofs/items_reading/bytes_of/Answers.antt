use Rattle.std.proofs.Common.{◌≡◌, inl, inr, sym, ap, ◌∙◌}
use Rattle.hex.specs.Hex.{decode_of, encode_lower}
use Rattle.hex.proofs.HexLemmas.{decode_of-encode_lower}
use Rattle.desk_types.proofs.ItemReadingLemmas.{differ_not}
use Rattle.desk_types.proofs.ValueLemmas.{bytes_from}
use Rattle.desk_types.proofs.items_reading.bytes_of.Goals as goal

pub returns-then-ne-clause-only : goal.returns-then-ne-clause-only
returns-then-ne-clause-only c = λ fault bytes form same.
    let read = sym c.in-Ok.ensures.ok ∙ ap decode_of same ∙ decode_of-encode_lower bytes form in
    let is : c.in-Ok.bytes.items ≡ bytes = ap bytes_from read in
    differ_not c.args.text.now c.as_bytes.result.now c.ne.result c.ne.ensures c.if-ne.true
    (same ∙ ap encode_lower (sym is ∙ sym c.as_slice.ensures.value) ∙ sym c.in-Ok-encode.ensures ∙ sym c.as_bytes.ensures.value)

pub returns-in-Err-clause-only : goal.returns-in-Err-clause-only
returns-in-Err-clause-only c = λ fault bytes form same.
    let read = ap decode_of same ∙ decode_of-encode_lower bytes form in
    elim c.in-Err.ensures.err [
      | inl none ↦ let f = c.fault_of.ensures none in absurd (cc)
      | inr r ↦ let e = sym r ∙ read in absurd (cc)
    ]
