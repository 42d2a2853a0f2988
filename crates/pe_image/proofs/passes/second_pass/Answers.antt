use Rattle.std.proofs.Common.{◌≡◌, ◌++◌, ◌∙◌, ap, rules}
use Rattle.pe_image.specs.Passes.{first_pass_of, second_pass_of}
use Rattle.pe_image.specs.Spans.{bytes_at}
use Rattle.pe_image.proofs.PassesLemmas.{passes-joined}
use Rattle.pe_image.proofs.passes.second_pass.Goals as goal

pub returns-else-gap-eq0-clause-joined : goal.returns-else-gap-eq0-clause-joined
returns-else-gap-eq0-clause-joined c = λ f same.
    let exact : c.last_only.result ≡ second_pass_of c.args.layout.now = search rules in
    ap (λ ss. bytes_at f (first_pass_of c.args.layout.now) ++ bytes_at f ss) exact ∙ passes-joined f c.args.layout.now same
