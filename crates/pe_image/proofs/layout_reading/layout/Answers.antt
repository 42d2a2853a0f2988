use Rattle.std.proofs.Common.{◌≡◌, ◌+◌, ◌≤◌, ◌∙◌, sym, ap, length, arith}
use Rattle.std.proofs.lemmas.Result.{err_from_is_err_and}
use Rattle.pe_image.specs.Checks.{first_of, table_checks, sbat_checks}
use Rattle.pe_image.specs.Extents.{Lengths}
use Rattle.pe_image.specs.Image.{headers, sections_end}
use Rattle.pe_image.specs.Spans.{in_order, span}
use Rattle.pe_image.specs.Sbat.{text_at, sbat_section}
use Rattle.pe_image.specs.Places.{end_by, table_of}
use Rattle.pe_image.proofs.CheckLemmas.{sections-small, sections-reach, sections-size}
use Rattle.pe_image.proofs.PlacesLemmas.{places-read}
use Rattle.pe_image.proofs.RawLemmas.{raw-read}
use Rattle.pe_image.proofs.RefusalLemmas.{refused-first, refused-sections, refused-table, refused-text, sections_of-read, hold-three, laid-from-parts}
use Rattle.pe_image.proofs.WithinLemmas.{gap-within, layout-of}
use Rattle.pe_image.proofs.layout_reading.layout.Goals as goal

pub returns-in_err-front-clause-first : goal.returns-in_err-front-clause-first
returns-in_err-front-clause-first g c =
    let f = g.S.Source.content c.args.source.now in
    let p = err_from_is_err_and c.from_residual.result c.from_residual.ensures.1 in
    rw (p.1, p.2) (refused-first f _ _ c.in_err-front.field-0.0 c.in_err-front.ensures.err)

pub returns-in_err-sections-clause-first : goal.returns-in_err-sections-clause-first
returns-in_err-sections-clause-first g c =
    let f = g.S.Source.content c.args.source.now in
    let table = c.in_ok-read_headers.ensures.ok ∙ ap headers c.in_ok-front.ensures.reads.same in
    let size : c.len-length.result ≡ length f = c.len-length.ensures ∙ ap length (c.in_ok-read_headers.ensures.reads.same ∙ c.in_ok-front.ensures.reads.same) in
    let p = err_from_is_err_and c.from_residual-in_err-sections.result c.from_residual-in_err-sections.ensures.1 in
    rw (p.1, p.2) (refused-sections f _ _ _ c.in_err-sections.field-0.0 c.in_ok-front.ensures.ok
    (sections_of-read f _ c.in_ok-front.front.extent.headers_end c.len-length.result table c.in_ok-front.ensures.exact.extent.end size) c.in_err-sections.ensures.err)

pub measure-measured-requires : goal.measure-measured-requires
measure-measured-requires g c =
    let f = g.S.Source.content c.args.source.now in
    let z = c.in_ok-front.front.extent.headers_end in
    let table = c.in_ok-read_headers.ensures.ok ∙ ap headers c.in_ok-front.ensures.reads.same in
    let size : c.len-length.result ≡ length f = c.len-length.ensures ∙ ap length (c.in_ok-read_headers.ensures.reads.same ∙ c.in_ok-front.ensures.reads.same) in
    let sections = c.as_slice.ensures.value ∙ c.in_ok-sections.ensures.exact ∙ ap in_order (raw-read f _ table) in
    let checks = sections_of-read f _ z c.len-length.result table c.in_ok-front.ensures.exact.extent.end size in
    sections-small f _ z sections c.in_ok-front.ensures.exact.extent.end (sym (ap first_of checks) ∙ c.in_ok-sections.ensures.ok) c.in_ok-front.ensures.exact.extent.fits c.in_ok-front.ensures.exact.start.short

pub read_table-requires-clause-end : goal.read_table-requires-clause-end
read_table-requires-clause-end g c =
    let f = g.S.Source.content c.args.source.now in
    let z = c.in_ok-front.front.extent.headers_end in
    let table = c.in_ok-read_headers.ensures.ok ∙ ap headers c.in_ok-front.ensures.reads.same in
    let sections = c.as_slice.ensures.value ∙ c.in_ok-sections.ensures.exact ∙ ap in_order (raw-read f _ table) in
    let same = c.in_ok-read_headers.ensures.reads.same ∙ c.in_ok-front.ensures.reads.same in
    c.measure-measured.ensures.end ∙ sections-reach f _ z sections c.in_ok-front.ensures.exact.extent.end ∙ ap sections_end (sym same)

pub returns-in_err-table-clause-first : goal.returns-in_err-table-clause-first
returns-in_err-table-clause-first g c =
    let f = g.S.Source.content c.args.source.now in
    let same = c.in_ok-read_headers.ensures.reads.same ∙ c.in_ok-front.ensures.reads.same in
    let table = c.in_ok-read_headers.ensures.ok ∙ ap headers c.in_ok-front.ensures.reads.same in
    let size : c.len-length.result ≡ length f = c.len-length.ensures ∙ ap length same in
    let checks = sections_of-read f _ c.in_ok-front.front.extent.headers_end c.len-length.result table c.in_ok-front.ensures.exact.extent.end size in
    let front : g.S.Source.failures c.args.source.now ≤ g.S.Source.failures c.read_front.new.source = c.in_ok-front.ensures.reads.kept in
    let rest : g.S.Source.failures c.read_front.new.source ≤ g.S.Source.failures c.read_headers.new.source = c.in_ok-read_headers.ensures.reads.kept in
    let p = err_from_is_err_and c.from_residual-in_err-table.result c.from_residual-in_err-table.ensures.1 in
    rw (p.1, p.2) (refused-table f _ _ (g.S.Source.failures c.args.source.now) (g.S.Source.failures c.read_headers.new.source) (g.S.Source.failures c.read_table.new.source) c.in_err-table.field-0.0
    c.in_ok-front.ensures.ok checks c.in_ok-sections.ensures.ok (ap table_checks same) (omega arith) c.in_err-table.ensures.reads.kept c.in_err-table.ensures.err)

pub returns-in_err-sbat-clause-first : goal.returns-in_err-sbat-clause-first
returns-in_err-sbat-clause-first g c =
    let f = g.S.Source.content c.args.source.now in
    let same = c.in_ok-read_headers.ensures.reads.same ∙ c.in_ok-front.ensures.reads.same in
    let table = c.in_ok-read_headers.ensures.ok ∙ ap headers c.in_ok-front.ensures.reads.same in
    let size : c.len-length.result ≡ length f = c.len-length.ensures ∙ ap length same in
    let checks = sections_of-read f _ c.in_ok-front.front.extent.headers_end c.len-length.result table c.in_ok-front.ensures.exact.extent.end size in
    let three = hold-three f _ _ c.in_ok-front.ensures.ok checks c.in_ok-sections.ensures.ok (ap table_checks same) c.in_ok-table.ensures.ok in
    let p = err_from_is_err_and c.from_residual-in_err-sbat.result c.from_residual-in_err-sbat.ensures.1 in
    rw (p.1, p.2) (refused-text f _ _ _ c.in_err-sbat.field-0.0 three (ap sbat_checks table) c.in_err-sbat.ensures.err)

pub of-requires-clause-inside : goal.of-requires-clause-inside
of-requires-clause-inside g c =
    let f = g.S.Source.content c.args.source.now in
    let z = c.in_ok-front.front.extent.headers_end in
    let same = c.in_ok-read_headers.ensures.reads.same ∙ c.in_ok-front.ensures.reads.same in
    let table = c.in_ok-read_headers.ensures.ok ∙ ap headers c.in_ok-front.ensures.reads.same in
    let size : c.len-length.result ≡ length f = c.len-length.ensures ∙ ap length same in
    let checks = sections_of-read f _ z c.len-length.result table c.in_ok-front.ensures.exact.extent.end size in
    let three = hold-three f _ _ c.in_ok-front.ensures.ok checks c.in_ok-sections.ensures.ok (ap table_checks same) c.in_ok-table.ensures.ok in
    let laid = laid-from-parts f _ three (ap sbat_checks table) c.in_ok-sbat.ensures.ok in
    let sections = c.as_slice.ensures.value ∙ c.in_ok-sections.ensures.exact ∙ ap in_order (raw-read f _ table) in
    let within = gap-within f _ _ _ laid
    (c.measure-measured.ensures.size ∙ sections-size f _ z sections c.in_ok-front.ensures.exact.extent.end)
    (c.measure-measured.ensures.end ∙ sections-reach f _ z sections c.in_ok-front.ensures.exact.extent.end)
    c.saturating_sub-gap.ensures in
    omega (arith, within, size)

pub of-requires-clause-few : goal.of-requires-clause-few
of-requires-clause-few g c =
    let same = c.in_ok-read_headers.ensures.reads.same ∙ c.in_ok-front.ensures.reads.same in
    let size : c.len-length.result ≡ length (g.S.Source.content c.args.source.now) = c.len-length.ensures ∙ ap length same in
    omega (arith, size, c.in_ok-front.ensures.exact.start.short)

pub returns-clause-exact : goal.returns-clause-exact
returns-clause-exact g c =
    let f = g.S.Source.content c.args.source.now in
    let z = c.in_ok-front.front.extent.headers_end in
    let same = c.in_ok-read_headers.ensures.reads.same ∙ c.in_ok-front.ensures.reads.same in
    let table = c.in_ok-read_headers.ensures.ok ∙ ap headers c.in_ok-front.ensures.reads.same in
    let size : c.len-length.result ≡ length f = c.len-length.ensures ∙ ap length same in
    let checks = sections_of-read f _ z c.len-length.result table c.in_ok-front.ensures.exact.extent.end size in
    let three = hold-three f _ _ c.in_ok-front.ensures.ok checks c.in_ok-sections.ensures.ok (ap table_checks same) c.in_ok-table.ensures.ok in
    let laid = laid-from-parts f _ three (ap sbat_checks table) c.in_ok-sbat.ensures.ok in
    let stored = c.in_ok-sections.ensures.exact ∙ ap in_order (raw-read f _ table) in
    let sections = c.as_slice.ensures.value ∙ stored in
    layout-of f _ laid
    (places-read f c.new.result z c.measure-measured.result.size c.measure-measured.result.end c.of.result.gap c.end_of.result c.of.result.length c.in_ok-front.front.directories.certificate_directory c.in_ok-table.table c.in_ok-sbat.sbat _
    (c.new.ensures ∙ ap (λ n. span (n + 88) (n + 88 + 4)) c.in_ok-front.ensures.exact.start.exact)
    c.in_ok-front.ensures.exact.directories.certificate_directory
    c.in_ok-front.ensures.exact.extent.end
    stored
    (c.measure-measured.ensures.size ∙ sections-size f _ z sections c.in_ok-front.ensures.exact.extent.end)
    (c.measure-measured.ensures.end ∙ sections-reach f _ z sections c.in_ok-front.ensures.exact.extent.end)
    (c.in_ok-table.ensures.exact ∙ ap table_of same)
    (c.end_of.ensures ∙ ap (end_by c.in_ok-table.table) size)
    (ap (λ (e : Lengths). e.length) c.of.ensures ∙ size)
    (ap (λ (e : Lengths). e.gap) c.of.ensures ∙ c.saturating_sub-gap.ensures)
    (c.in_ok-sbat.ensures.exact ∙ ap (λ hs. text_at (sbat_section hs)) table))
