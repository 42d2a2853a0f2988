-- Histories of the same minutes have the same exports.
use Rattle.std.proofs.Common.{◌≡◌, ℕ, not, List, ◌++◌, bytes_eq, filter, map, reverse, sym, ap, ap₂, ◌∙◌}
use Rattle.std.specs.List.{flat_map, list_any}
use Rattle.sbat.specs.declared.component.Component.{Component}
use Rattle.sbat.specs.Writing.{level_lines}
use Rattle.siglist.specs.SignatureLists.{spelling}
use Rattle.siglist.specs.Writing.{sha256_row, x509_row, x509_sha256_row}
use Rattle.desk_types.specs.Certificates.{WholeCertificate}
use Rattle.desk_types.specs.Naming.{certificate_listed}
use Rattle.desk_types.specs.declared.kind.ListedKind.TheVariants as kinds
use Rattle.desk_history.specs.Calls.{History, distinct, is_same_kind}
use Rattle.desk_history.specs.Revocations.{revocations}
use Rattle.desk_history.specs.Tables.{level_rows}
use Rattle.desk_exports.specs.Bodies.{certificates_given}
use Rattle.desk_exports.specs.Exports.{exported, minutes_text}
use Rattle.desk_exports.specs.Orders.{ascending, ascending_by}
use Rattle.desk_exports.specs.declared.export.Export.{Export}
use Rattle.desk_exports.specs.declared.export.Export.TheVariants as exports
use Rattle.desk_minutes.specs.Follows.{MinutesTellExports}
use Rattle.desk_minutes.specs.Minuted.{as_minuted}
use Rattle.desk_minutes.proofs.MinutedLemmas.{as_same, keeps_minutes, minutes_tell}
use Rattle.desk_minutes.proofs.SameLemmas.{AreSame, found}

-- shim's form of dbx, by the revocations and by the certificates that calls gave
abbrev shim_by : List ℕ → List (List ℕ) → List (List ℕ) → List WholeCertificate → List ℕ
shim_by owner ds cs given = spelling (
    sha256_row owner (ascending (distinct ds))
    ++ flat_map (x509_row owner) (flat_map (λ tbs. reverse (distinct (map (λ (c : WholeCertificate). c.body) (filter (λ (c : WholeCertificate). bytes_eq tbs c.tbs) given)))) (ascending (distinct cs)))
    ++ x509_sha256_row owner (filter (λ tbs. not (list_any (λ (c : WholeCertificate). bytes_eq tbs c.tbs) given)) (ascending (distinct cs))))

exports_same : (a b : History) → AreSame a b → minutes_text a ≡ minutes_text b → (what : Export) (owner : List ℕ) → exported what owner a ≡ exported what owner b
exports_same a b h same exports.Db owner =
    ap (λ entries. spelling (sha256_row owner (map (λ e. e.digest) (ascending_by (λ e. e.digest) (filter (λ e. is_same_kind kinds.Digest e.kind) entries)))
    ++ flat_map (λ e. x509_row owner e.body) (ascending_by (λ e. e.digest) (filter (λ e. is_same_kind kinds.Certificate e.kind) entries)))) h.same_listed
exports_same a b h same exports.Dbx owner =
    ap₂ (λ ds cs. spelling (sha256_row owner (ascending (distinct ds)) ++ x509_sha256_row owner (ascending (distinct cs))))
    (h.same_revocations kinds.Digest) (h.same_revocations kinds.Certificate)
exports_same a b h same exports.Shim owner =
    ap₂ (λ ds cs. shim_by owner ds cs (certificates_given a)) (h.same_revocations kinds.Digest) (h.same_revocations kinds.Certificate)
    ∙ ap (shim_by owner (revocations kinds.Digest b) (revocations kinds.Certificate b)) (found a b h.same_calls (λ c. certificate_listed c.command))
exports_same a b h same exports.Level owner =
    ap₂ (λ s gs. level_lines s (map (λ (x : Component). (x.name, x.generation)) (ascending_by (λ (x : Component). x.name) (level_rows gs)))) h.same_stamp h.same_generations
exports_same a b h same exports.Minutes owner = same

-- all histories whose minutes some bytes are have the exports of the one that these tell
pub tell_exports : MinutesTellExports
tell_exports bytes a b f g what owner =
    let one : as_minuted a ≡ as_minuted b = minutes_tell a b f.history g.history (f.minutes ∙ sym g.minutes) in
    sym (exports_same (as_minuted a) a (as_same a f.history.legal) (keeps_minutes a f.history) what owner)
    ∙ ap (exported what owner) one ∙ exports_same (as_minuted b) b (as_same b g.history.legal) (keeps_minutes b g.history) what owner
