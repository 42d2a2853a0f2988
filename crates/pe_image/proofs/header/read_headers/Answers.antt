use Rattle.std.proofs.Common.{◌≡◌, ◌+◌, ◌*◌, arith, rules, sym, refl, ◌∙◌, ap, subst, take}
use Rattle.pe_image.specs.Headers.{header_at, headers_from}
use Rattle.pe_image.proofs.HeaderLemmas.{headers-none, headers-written}
use Rattle.pe_image.proofs.RawLemmas.{headers-read}
use Rattle.pe_image.proofs.header.read_headers.Goals as goal

pub loop-i-init : goal.loop-i-init
loop-i-init g c = record { same = refl; kept = omega arith; read = sym (headers-none _ _) }

pub loop-i-preserved : goal.loop-i-preserved
loop-i-preserved g c = record {
  same = c.read_header.ensures.reads.same ∙ c.loop-i.invariant.same;
  kept = search rules;
  read = headers-written _ c.args.begin c.loop-i.i c.loop-i.table c.in_ok-table.field-0 (search rules) c.loop-i.invariant.read (c.in_ok-table.ensures.ok ∙ ap (λ f. header_at f (c.args.begin + 40 * c.loop-i.i)) c.loop-i.invariant.same);
}

pub returns-clause-ok : goal.returns-clause-ok
returns-clause-ok g c =
    let f = g.S.Source.content c.args.source.now in
    let done : c.loop-i.i ≡ c.args.count = omega arith in
    let all = subst (λ n. take n c.loop-i.table ≡ headers_from f c.args.begin n) done c.loop-i.invariant.read in
    headers-read f c.args.begin c.args.count _ c.requires.begin c.requires.count all
