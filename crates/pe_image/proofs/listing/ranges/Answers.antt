use Rattle.std.proofs.Common.{◌≡◌, ◌<◌, ◌∙◌, ap, sym, subst, rules, take, ◌++◌, ◌∷◌, []}
use Rattle.std.specs.Prelude.{All}
use Rattle.pe_image.specs.Places.{spans_of}
use Rattle.pe_image.specs.Spans.{bytes_at, nonempty}
use Rattle.pe_image.proofs.PlacesLemmas.{spans-pushed, spans-full}
use Rattle.pe_image.proofs.listing.ranges.Goals as goal

pub returns : goal.returns
returns c =
    let p = c.args.layout.now in
    let slice = ap (λ ss. take c.push_headers-headers.result c.push_headers-headers.new.spans ++ nonempty ss) c.as_slice.ensures.value in
    let sections = c.push_sections-sections.ensures.spans ∙ slice in
    let rest = c.push-end.ensures.spans ∙ ap (λ s. take c.push_sections-sections.result c.push_sections-sections.new.spans ++ nonempty (s ∷ [])) c.new-rest.ensures in
    let exact : c.of.result ≡ spans_of p =
    c.of.ensures ∙ spans-pushed _ p _ _ _ c.layout.view_is c.push_headers-headers.ensures.spans sections rest in
    record {
      exact = exact;
      few = search rules;
      full = subst (λ ss. All (λ s. s.from < s.to) ss) (sym exact) (spans-full p);
      joined = λ f same. ap (bytes_at f) (exact ∙ ap spans_of same);
    }
