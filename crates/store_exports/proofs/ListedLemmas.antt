-- The bytes that the queries for the level, for entries and for calls write, by the lists of the
-- histories that the connection shows.
use Rattle.std.proofs.Common.{◌≡◌, ℕ, pos, List, [], ◌∷◌, map, reverse, true, Some, refl, sym, ap, ap₂, codes}
use Rattle.sqlite.specs.Order.{Row}
use Rattle.sqlite.specs.State.{State, HasCleanDisk}
use Rattle.sqlite.specs.declared.types.Value.TheVariants.{Null, Int, Text}
use Rattle.sbat.specs.declared.component.Component.{Component}
use Rattle.sbat.specs.Writing.{row_text}
use Rattle.siglist.specs.SignatureLists.{spelling}
use Rattle.siglist.specs.Writing.{sha256_entry_bytes, x509_row}
use Rattle.desk_types.specs.Words.{kind_text}
use Rattle.desk_types.specs.declared.kind.ListedKind.{ListedKind}
use Rattle.desk_types.specs.declared.kind.ListedKind.TheVariants as kinds
use Rattle.desk_history.specs.declared.rows.Entry.{Entry}
use Rattle.desk_history.specs.Calls.{History, is_same_kind}
use Rattle.desk_history.specs.Level.{generations}
use Rattle.desk_history.specs.Tables.{Tables}
use Rattle.store_schema.specs.rows.Histories.{ShowsHistory}
use Rattle.store_schema.specs.rows.Values.{component_values, entry_values}
use Rattle.desk_exports.specs.Exports.{entries_of, level_components}
use Rattle.store_schema.specs.Columns.{columns_after, names_of}
use Rattle.store_schema.specs.Named.{equals}
use Rattle.store_schema.specs.Tables as tables
use Rattle.store_schema.specs.declared.selecting.TheConstants.{SELECT_CALLS, SELECT_COMPONENTS, SELECT_LISTED_OF}
use Rattle.store_schema.proofs.SelectFacts as facts
use Rattle.sqlite_trees.proofs.ListLemmas.{map-map}
use Rattle.store_exports.specs.Lines.{Columns, columns_of, columns_row, line, line_of}
use Rattle.store_exports.proofs.AnswerLemmas.{told}
use Rattle.store_exports.proofs.ExportLemmas.{Told}
use Rattle.store_reads.proofs.KeyLemmas.{is_of_kind}
use Rattle.store_exports.proofs.ListLemmas.{called, calls_in_order, components_in_order, entries_in_order}

one_line : (x y : Component) → component_values x ≡ component_values y → row_text x.name x.generation ≡ row_text y.name y.generation
one_line x y h =
    let name : x.name ≡ y.name = cc in
    let generation : x.generation ≡ y.generation = cc in
    ap₂ row_text name generation

one_digest : (x y : Entry) → entry_values x ≡ entry_values y → x.digest ≡ y.digest
one_digest x y h = cc

one_body : (x y : Entry) → entry_values x ≡ entry_values y → x.body ≡ y.body
one_body x y h = cc

abbrev stored : Columns → Row
stored c = Int (pos c.number) ∷ Null ∷ Text c.caller ∷ Text c.key ∷ Text c.text ∷ Text c.reply ∷ []

line_is : (a e : ℕ) (b c d f g h i j : List ℕ) → a ≡ e → b ≡ g → c ≡ h → d ≡ i → f ≡ j → line_of a b c d f ≡ line_of e g h i j
line_is a e b c d f g h i j p q r s t = cc

one_call : (x y : Columns) → columns_row x ≡ columns_row y → line x ≡ line y
one_call x y h =
    let number : x.number ≡ y.number = cc in
    let caller : x.caller ≡ y.caller = cc in
    let key : x.key ≡ y.key = cc in
    let text : x.text ≡ y.text = cc in
    let reply : x.reply ≡ y.reply = cc in
    line_is x.number y.number x.caller x.key x.text x.reply y.caller y.key y.text y.reply number caller key text reply

module _ (s : State) (clean : (owner : List ℕ) (cs : History) → ShowsHistory s owner cs → HasCleanDisk s) where
  pub tells_components : Told component_values (λ x. row_text x.name x.generation) SELECT_COMPONENTS.now [] s level_components
  tells_components =
      told 11 tables.components SELECT_COMPONENTS.now [] 1 (columns_after 1 tables.components) (names_of tables.components) facts.select_components component_values component_values
      (λ (t : Tables). t.components) (λ t. refl) [] (λ x. refl) (λ _. true) (λ x. refl) (λ x. row_text x.name x.generation) one_line level_components
      (λ owner cs ys moved sorted. components_in_order (generations cs) ys moved sorted)
      s clean

  module _ (kind : ListedKind) (bytes : Entry → List ℕ) (own : (x y : Entry) → entry_values x ≡ entry_values y → bytes x ≡ bytes y) where
    tells_entries : Told entry_values bytes SELECT_LISTED_OF.now (Text (kind_text kind) ∷ []) s (entries_of kind)
    tells_entries =
        told 8 tables.listed SELECT_LISTED_OF.now (equals tables.listed (codes "kind") 0 ∷ []) 2 (columns_after 2 tables.listed) (names_of tables.listed) facts.select_listed_of entry_values entry_values
        (λ (t : Tables). t.listed) (λ t. refl) (Text (kind_text kind) ∷ []) (λ x. refl) (λ e. is_same_kind kind e.kind) (is_of_kind kind) bytes own (entries_of kind)
        (λ owner cs ys moved sorted. entries_in_order kind cs ys moved sorted)
        s clean

  pub tells_listed_digests : (by : List ℕ) → Told entry_values (λ e. sha256_entry_bytes by e.digest) SELECT_LISTED_OF.now (Text (kind_text kinds.Digest) ∷ []) s (entries_of kinds.Digest)
  tells_listed_digests by = tells_entries kinds.Digest (λ e. sha256_entry_bytes by e.digest) (λ x y h. ap (sha256_entry_bytes by) (one_digest x y h))

  pub tells_listed_certificates : (by : List ℕ) → Told entry_values (λ e. spelling (x509_row by e.body)) SELECT_LISTED_OF.now (Text (kind_text kinds.Certificate) ∷ []) s (entries_of kinds.Certificate)
  tells_listed_certificates by = tells_entries kinds.Certificate (λ e. spelling (x509_row by e.body)) (λ x y h. ap (λ b. spelling (x509_row by b)) (one_body x y h))

  pub tells_calls : Told columns_row line SELECT_CALLS.now [] s (λ cs. reverse (called cs))
  tells_calls =
      told 2 tables.calls SELECT_CALLS.now [] 1 (columns_after 1 tables.calls) (names_of tables.calls) facts.select_calls stored columns_row
      (λ (t : Tables). map columns_of t.calls) (λ t. ap Some (sym (map-map stored columns_of t.calls))) [] (λ x. refl) (λ _. true) (λ x. refl) line one_call (λ cs. reverse (called cs))
      (λ owner cs ys moved sorted. calls_in_order cs ys moved sorted)
      s clean
