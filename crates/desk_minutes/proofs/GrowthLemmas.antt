-- Exports of histories and of minutes that go on.
use Rattle.std.proofs.Common.{◌≡◌, ◌≤◌, ℕ, not, List, ◌++◌, bytes_eq, filter, map, reverse, sym, ap, ap₂, subst, ◌∙◌}
use Rattle.std.specs.Prelude.{IsTrue}
use Rattle.std.specs.List.{flat_map, list_any}
use Rattle.std.proofs.lemmas.List.{reverse-append, reverse-reverse}
use Rattle.sbat.specs.declared.component.Component.{Component}
use Rattle.siglist.specs.SignatureLists.{SignatureList}
use Rattle.siglist.specs.Writing.{sha256_row, x509_row, x509_sha256_row}
use Rattle.siglist.proofs.RowLemmas.{row_is_one}
use Rattle.desk_types.specs.Certificates.{WholeCertificate}
use Rattle.desk_types.specs.Naming.{certificate_listed}
use Rattle.desk_types.specs.declared.kind.ListedKind.TheVariants as kinds
use Rattle.desk_history.specs.Calls.{History, Item, distinct}
use Rattle.desk_history.specs.Formed.{IsHistory}
use Rattle.desk_history.specs.Level.{stamp}
use Rattle.desk_history.specs.Replies.{minutes}
use Rattle.desk_history.specs.Revocations.{revocations}
use Rattle.desk_history.specs.Runs.{is_legal}
use Rattle.desk_history.specs.Tables.{level_rows}
use Rattle.desk_exports.specs.Bodies.{certificates_given}
use Rattle.desk_exports.specs.Exports.{dbx, dbx_lists, level_components, minutes_text, shim_lists}
use Rattle.desk_exports.specs.Orders.{ascending, ascending_by}
use Rattle.desk_exports.proofs.SpellingLemmas.{dbx_spells}
use Rattle.desk_minutes.specs.Growth.{DbxReadGrows, ExportsGrow, HaveAll, HistoriesGrow, MinutesGrow, RequireAll, has_entry}
use Rattle.desk_minutes.specs.Minuted.{as_minuted}
use Rattle.desk_minutes.proofs.BeginningLemmas.{goes_on}
use Rattle.desk_minutes.proofs.EntryGrowthLemmas.{dbx_grows, shim_grows}
use Rattle.desk_minutes.proofs.LevelGrowthLemmas.{level_grows, stamp_grows}
use Rattle.desk_minutes.proofs.MinutedLemmas.{as_same, once}
use Rattle.desk_minutes.proofs.SameLemmas.{AreSame, found}
use Rattle.desk_minutes.proofs.TextLemmas.{All-reverse, IsOfCall, begins, of_calls}

-- ---- histories

pub histories_grow : HistoriesGrow
histories_grow earlier later legal more owner = subst (ExportsGrow owner earlier) (sym more.1) (grown more.0 (subst (λ l. IsTrue (is_legal l)) more.1 legal))
  where
    grown : (new : List Item) → IsTrue (is_legal (new ++ earlier)) → ExportsGrow owner earlier (new ++ earlier)
    grown new h = record {
      dbx = dbx_grows owner earlier new;
      shim = shim_grows owner earlier new;
      level = level_grows earlier new;
      stamp = stamp_grows earlier new h;
    }

-- ---- histories of the same minutes

-- two that are the same as a third are the same
same_both : (a b c : History) → AreSame a b → AreSame a c → AreSame b c
same_both a b c f g = record {
  same_calls = sym f.same_calls ∙ g.same_calls;
  same_minutes = sym f.same_minutes ∙ g.same_minutes;
  same_proposals = sym f.same_proposals ∙ g.same_proposals;
  same_revocations = λ kind. sym (f.same_revocations kind) ∙ g.same_revocations kind;
  same_generations = sym f.same_generations ∙ g.same_generations;
  same_listed = sym f.same_listed ∙ g.same_listed;
  same_stamp = sym f.same_stamp ∙ g.same_stamp;
}

same_of_minutes : (a b : History) → IsHistory a → IsHistory b → minutes a ≡ minutes b → AreSame a b
same_of_minutes a b h k same =
    same_both (as_minuted a) a b (as_same a h.legal) (subst (λ l. AreSame l b) (sym (once a b h k same)) (as_same b k.legal))

-- the lists of shim's form, by the revocations and by the certificates that calls gave
abbrev shim_lists_by : List ℕ → List (List ℕ) → List (List ℕ) → List WholeCertificate → List SignatureList
shim_lists_by owner ds cs given =
    sha256_row owner (ascending (distinct ds))
    ++ flat_map (x509_row owner) (flat_map (λ tbs. reverse (distinct (map (λ (c : WholeCertificate). c.body) (filter (λ (c : WholeCertificate). bytes_eq tbs c.tbs) given)))) (ascending (distinct cs)))
    ++ x509_sha256_row owner (filter (λ tbs. not (list_any (λ (c : WholeCertificate). bytes_eq tbs c.tbs) given)) (ascending (distinct cs)))

module _ (owner : List ℕ) (a b : History) (same : AreSame a b) where
  dbx_same : dbx_lists owner a ≡ dbx_lists owner b
  dbx_same =
      ap₂ (λ ds cs. sha256_row owner (ascending (distinct ds)) ++ x509_sha256_row owner (ascending (distinct cs)))
      (same.same_revocations kinds.Digest) (same.same_revocations kinds.Certificate)

  shim_same : shim_lists owner a ≡ shim_lists owner b
  shim_same =
      ap₂ (λ ds cs. shim_lists_by owner ds cs (certificates_given a)) (same.same_revocations kinds.Digest) (same.same_revocations kinds.Certificate)
      ∙ ap (shim_lists_by owner (revocations kinds.Digest b) (revocations kinds.Certificate b)) (found a b same.same_calls (λ c. certificate_listed c.command))

  level_same : level_components a ≡ level_components b
  level_same = ap (λ gs. ascending_by (λ (x : Component). x.name) (level_rows gs)) same.same_generations

  -- what grows from one grows from the other
  grows_from : (later : History) → ExportsGrow owner a later → ExportsGrow owner b later
  grows_from later h = record {
    dbx = subst (λ ls. HaveAll ls (dbx_lists owner later)) dbx_same h.dbx;
    shim = λ kind entry there. h.shim kind entry (subst (λ ls. IsTrue (has_entry kind entry ls)) (sym shim_same) there);
    level = subst (λ xs. RequireAll xs (level_components later)) level_same h.level;
    stamp = subst (λ n. n ≤ stamp later) same.same_stamp h.stamp;
  }

-- ---- minutes

pub minutes_grow : MinutesGrow
minutes_grow bytes more earlier later f g owner =
    let text : minutes_text later ≡ minutes_text earlier ++ more = g.minutes ∙ ap (λ b. b ++ more) (sym f.minutes) in
    let first = begins (reverse (minutes earlier)) (reverse (minutes later)) more (All-reverse IsOfCall (minutes earlier) (of_calls earlier f.history)) (All-reverse IsOfCall (minutes later) (of_calls later g.history)) text in
    let whole : minutes later ≡ reverse first.others ++ minutes earlier =
    sym (reverse-reverse (minutes later)) ∙ ap reverse first.is ∙ reverse-append (reverse (minutes earlier)) first.others ∙ ap (λ l. reverse first.others ++ l) (reverse-reverse (minutes earlier)) in
    let from = goes_on (reverse first.others) (minutes earlier) later g.history whole in
    grows_from owner from.rest earlier (same_of_minutes from.rest earlier from.history f.history from.same) later
    (histories_grow from.rest later g.history.legal (from.new, from.is) owner)

pub dbx_read_grows : DbxReadGrows
dbx_read_grows bytes more earlier later f g owner size firsts others first_spelt other_spelt =
    let grown : HaveAll (dbx_lists owner earlier) (dbx_lists owner later) = (minutes_grow bytes more earlier later f g owner).dbx in
    let first : dbx_lists owner earlier ≡ firsts = row_is_one (dbx_lists owner earlier) firsts (dbx owner earlier) (dbx_spells owner earlier size f.history) first_spelt in
    let other : dbx_lists owner later ≡ others = row_is_one (dbx_lists owner later) others (dbx owner later) (dbx_spells owner later size g.history) other_spelt in
    subst (λ ls. HaveAll ls others) first (subst (λ ls. HaveAll (dbx_lists owner earlier) ls) other grown)
