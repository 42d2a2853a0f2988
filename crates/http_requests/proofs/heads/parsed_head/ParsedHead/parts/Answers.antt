use Rattle.std.proofs.Common.{◌∙◌, ℕ, List, drop, ap, sym, subst}
use Rattle.httparse.specs.Grammar.{ReadsRequest}
use Rattle.httparse.proofs.GrammarLemmas.{request_unique}
use Rattle.http_requests.specs.heads.Fields.{parts_of}
use Rattle.http_requests.proofs.heads.parsed_head.ParsedHead.parts.Goals as goal

pub returns-clause-found : goal.returns-clause-found
returns-clause-found c = λ h rest reads.
    let bytes = c.self.inside.bytes.items in
    let head = c.self.invariant.head in
    let read : ReadsRequest bytes h rest = subst (λ (b : List ℕ). ReadsRequest b h rest) (sym c.self.view_is) reads in
    let same = request_unique bytes head.0 h (drop c.self.inside.spans.request.len bytes) rest head.1.reads read in
    c.parts_at.ensures head.0 (rw c.as_slice.ensures.value head.1) ∙ ap parts_of same.0
