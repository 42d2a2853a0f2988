use Rattle.std.proofs.Common.{sym, ap, ◌∙◌}
use Rattle.std.specs.Prelude.{bytes_eq}
use Rattle.std.specs.List.{list_any}
use Rattle.desk_types.specs.Certificates.{WholeCertificate}
use Rattle.desk_history.specs.Calls.{is_among}
use Rattle.desk_exports.proofs.ShimLemmas.{any_map}
use Rattle.store_exports.specs.Gathering.{Bodies}
use Rattle.store_exports.proofs.gathered.Gathered.has.Goals as goal

-- its bodies are those of its certificates
pub returns : goal.returns
returns c =
    let body = c.args.body.now in
    c.gives.ensures ∙ ap (list_any (λ (x : WholeCertificate). bytes_eq body x.body)) c.deref.ensures.value
    ∙ sym (any_map (bytes_eq body) (λ (x : WholeCertificate). x.body) c.self.inside.given.items) ∙ ap (λ (b : Bodies). is_among b.bodies body) c.self.view_is
