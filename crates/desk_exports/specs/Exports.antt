-- The exports of a desk with this owner after these calls: dbx, also in shim's form, and db as
-- signature lists (UEFI 2.10, section 32.4.1), the level (shim's SBAT.md), and the minutes.
use Rattle.std.specs.Prelude.{ℕ, List, ◌++◌, codes, decimal, filter, flat_map, map, reverse}
use Rattle.sbat.specs.declared.component.Component.{Component}
use Rattle.sbat.specs.Writing.{level_lines}
use Rattle.siglist.specs.SignatureLists.{SignatureList, spelling}
use Rattle.siglist.specs.Writing.{sha256_row, x509_row, x509_sha256_row}
use Rattle.desk_types.specs.declared.kind.ListedKind.{ListedKind}
use Rattle.desk_types.specs.declared.kind.ListedKind.TheVariants as kinds
use Rattle.desk_types.specs.Callers.{caller_name}
use Rattle.desk_types.specs.ReplyTexts.{reply_text_of}
use Rattle.desk_history.specs.declared.rows.Entry.{Entry}
use Rattle.desk_history.specs.declared.rows.Minute.{Minute}
use Rattle.desk_history.specs.Calls.{History, distinct, is_same_kind}
use Rattle.desk_history.specs.Level.{generations, stamp}
use Rattle.desk_history.specs.Listing.{listed}
use Rattle.desk_history.specs.Replies.{minutes}
use Rattle.desk_history.specs.Revocations.{revocations}
use Rattle.desk_history.specs.Tables.{level_rows}
use Rattle.desk_exports.specs.Bodies.{bodies_of, is_bodiless}
use Rattle.desk_exports.specs.Orders.{ascending, ascending_by}
use Rattle.desk_exports.specs.declared.export.Export.{Export}
use Rattle.desk_exports.specs.declared.export.Export.TheVariants as exports

-- the revoked digests of this kind, each once, ascending
abbrev pub revoked : ListedKind → History → List (List ℕ)
revoked kind cs = ascending (distinct (revocations kind cs))

-- own: one SHA256 list of the revoked digests of images, then one X509_SHA256 list of the revoked
-- certificates
abbrev pub dbx_lists : List ℕ → History → List SignatureList
dbx_lists owner cs = sha256_row owner (revoked kinds.Digest cs) ++ x509_sha256_row owner (revoked kinds.Certificate cs)

-- the bytes of dbx
abbrev pub dbx : List ℕ → History → List ℕ
dbx owner cs = spelling (dbx_lists owner cs)

-- the bodies that calls gave for revoked certificates, by the certificates in ascending order
abbrev pub revoked_bodies : History → List (List ℕ)
revoked_bodies cs = flat_map (λ tbs. bodies_of tbs cs) (revoked kinds.Certificate cs)

-- the revoked certificates of which no call gave a body
abbrev pub revoked_bodiless : History → List (List ℕ)
revoked_bodiless cs = filter (is_bodiless cs) (revoked kinds.Certificate cs)

-- own: what dbx revokes, as shim reads it, which passes over X509_SHA256 lists: the SHA256 list of
-- dbx; an X509 list for each body of a revoked certificate; one X509_SHA256 list of those without
abbrev pub shim_lists : List ℕ → History → List SignatureList
shim_lists owner cs =
    sha256_row owner (revoked kinds.Digest cs) ++ flat_map (x509_row owner) (revoked_bodies cs)
    ++ x509_sha256_row owner (revoked_bodiless cs)

-- the bytes of dbx in this form
abbrev pub shim : List ℕ → History → List ℕ
shim owner cs = spelling (shim_lists owner cs)

-- the listed entries of this kind, ascending by their digests
abbrev pub entries_of : ListedKind → History → List Entry
entries_of kind cs = ascending_by (λ e. e.digest) (filter (λ e. is_same_kind kind e.kind) (listed cs))

-- own: one SHA256 list of the listed digests of images, then an X509 list for each listed
-- certificate
abbrev pub db_lists : List ℕ → History → List SignatureList
db_lists owner cs =
    sha256_row owner (map (λ e. e.digest) (entries_of kinds.Digest cs))
    ++ flat_map (λ e. x509_row owner e.body) (entries_of kinds.Certificate cs)

-- the bytes of db
abbrev pub db : List ℕ → History → List ℕ
db owner cs = spelling (db_lists owner cs)

-- the level's components, ascending by name. In a desk's history (`IsHistory`) none is `sbat`
abbrev pub level_components : History → List Component
level_components cs = ascending_by (λ (x : Component). x.name) (level_rows (generations cs))

-- the text of the level: its stamp, and a line for each of these components
abbrev pub level : History → List ℕ
level cs = level_lines (stamp cs) (map (λ x. (x.name, x.generation)) (level_components cs))

-- own: a line of the minutes: number, caller, key, text and reply, separated by tabs
abbrev pub minute_line : Minute → List ℕ
minute_line m =
    decimal m.number ++ codes "\t" ++ caller_name m.caller ++ codes "\t" ++ m.key ++ codes "\t" ++ m.text ++ codes "\t"
    ++ reply_text_of m.reply ++ codes "\n"

-- the minutes, the first call first
abbrev pub minutes_text : History → List ℕ
minutes_text cs = flat_map minute_line (reverse (minutes cs))

-- the bytes of an export, by the desk's owner and history
abbrev pub exported : Export → List ℕ → History → List ℕ
exported exports.Db owner cs = db owner cs
exported exports.Dbx owner cs = dbx owner cs
exported exports.Shim owner cs = shim owner cs
exported exports.Level owner cs = level cs
exported exports.Minutes owner cs = minutes_text cs
