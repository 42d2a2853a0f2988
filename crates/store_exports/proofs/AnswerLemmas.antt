-- The step from the bytes of an answer's rows to those of the rows in the desk's tables.
use Rattle.std.proofs.Common.{◌≡◌, inl, inr, ℕ, List, [], ◌∷◌, ◌++◌, map, filter, flat_map, slice_get, Bool, Option, Some, refl, sym, ap, ap₂, subst, ◌∙◌, append_assoc}
use Rattle.std.specs.Io.KnownBytes.{Appends}
use Rattle.std.specs.List.Sorted.{IsPermutation, IsSorted}
use Rattle.std.proofs.KnownBytes.{Appends-nil}
use Rattle.std.proofs.lemmas.List.Concat.{flat_map-append}
use Rattle.sqlite.specs.Order.{Row}
use Rattle.sqlite.specs.State.{State, HasCleanDisk}
use Rattle.sqlite.specs.Table.{Table}
use Rattle.sqlite.specs.Term.{Term}
use Rattle.base.specs.Output.{AppendsBeginning}
use Rattle.base.proofs.OutputLemmas.{AppendsBeginning-after, AppendsBeginning-before, AppendsBeginning-none}
use Rattle.desk_history.specs.Calls.{History}
use Rattle.desk_history.specs.Tables.{Tables, tables}
use Rattle.store_schema.specs.rows.Contents.{contents}
use Rattle.store_schema.specs.rows.Histories.{ShowsHistory}
use Rattle.store_sql.specs.Contents.{Holds}
use Rattle.store_sql.specs.Effects.{IsSelected, passes, shown_of}
use Rattle.store_sql.specs.Meanings.{SelectsRows}
use Rattle.store_sql.specs.Queries.{by_keys, keys_of}
use Rattle.store_sql.specs.Streaming.{BeginsAnswer}
use Rattle.store_sql.proofs.ItemLemmas.{lists}
use Rattle.store_schema.specs.Columns.{by_first}
use Rattle.store_schema.specs.Tables.{desk_layout}
use Rattle.store_exports.specs.Exporting.{BeginsOf, WritesOf}
use Rattle.store_exports.specs.Rows.{AreSpelt, IsPart, WritesAnswer, WritesFirst}

-- the front of an answer shows the front of what the answer shows
parted : {X : Type 0} (shown : X → Row) (us rest : List Row) (ys : List X) → us ++ rest ≡ map shown ys
    → (ahead : List X) × (behind : List X) × (us ≡ map shown ahead) × (rest ≡ map shown behind) × (ys ≡ ahead ++ behind)
parted shown [] rest ys h = ([], ys, refl, h, refl)
parted shown (u ∷ us) rest [] h = absurd cc
parted shown (u ∷ us) rest (y ∷ ys) h =
    let one : u ≡ shown y = cc in
    let more : us ++ rest ≡ map shown ys = cc in
    let it = parted shown us rest ys more in
    (y ∷ it.0, it.1, ap₂ (λ a b. a ∷ b) one it.2, it.3, ap (λ l. y ∷ l) it.4)

first_of : {X : Type 0} (shown : X → Row) (row : Row) (more : List Row) (behind : List X) → row ∷ more ≡ map shown behind → (x : X) × (xs : List X) × (row ≡ shown x) × (behind ≡ x ∷ xs)
first_of shown row more [] h = absurd cc
first_of shown row more (x ∷ xs) h = let one : row ≡ shown x = cc in (x, xs, one, refl)

module _ {X : Type 0} (shown : X → Row) (bytes : X → List ℕ) where
  spelt : (ys : List X) (b : List ℕ) → AreSpelt (IsPart shown bytes) (map shown ys) b → b ≡ flat_map bytes ys
  spelt [] b h = h
  spelt (y ∷ ys) b (one, others, is, more, joined) = joined ∙ ap₂ (λ u v. u ++ v) (is y refl) (spelt ys others more)

  spelt_rows : (rows : List Row) (ys : List X) (b : List ℕ) → rows ≡ map shown ys → AreSpelt (IsPart shown bytes) rows b → b ≡ flat_map bytes ys
  spelt_rows rows ys b is h = spelt ys b (subst (λ l. AreSpelt (IsPart shown bytes) l b) is h)

module _ {X : Type 0} (at : ℕ) (table : Table) (text : List ℕ) (terms : List Term) (ordered : ℕ) (rest : List Term) (names : List (List ℕ))
    (means : SelectsRows desk_layout at table text terms (by_first ordered table) rest names) (item shown : X → Row) (part : Tables → List X)
    (has : (t : Tables) → slice_get (contents t) at ≡ Some (map item (part t))) (params : Row)
    (shows : (x : X) → shown_of table (keys_of (by_first ordered table) ++ rest) params (item x) ≡ shown x)
    (p : X → Bool) (tested : (x : X) → passes table terms params (item x) ≡ p x)
    (bytes : X → List ℕ) (own : (x y : X) → shown x ≡ shown y → bytes x ≡ bytes y)
    (wanted : History → List X)
    (order : (owner : List ℕ) (cs : History) (ys : List X) → IsPermutation (filter p (part (tables owner cs))) ys
    → IsSorted (λ x y. by_keys (by_first ordered table) (shown x) (shown y)) ys → ys ≡ wanted cs)
    (s : State) (clean : (owner : List ℕ) (cs : History) → ShowsHistory s owner cs → HasCleanDisk s) where
  -- the rows of an answer are those of the list that is wanted
  listed : (owner : List ℕ) (cs : History) (answer : List Row) → IsSelected table terms (by_first ordered table) rest params (map item (part (tables owner cs))) answer → answer ≡ map shown (wanted cs)
  listed owner cs answer it =
      let ys = lists table terms params item p tested (by_first ordered table) rest shown shows (part (tables owner cs)) answer it in
      ys.2 ∙ ap (map shown) (order owner cs ys.0 ys.1 ys.3)

  pub writes : (new : State) (before after : Option (List ℕ)) → WritesAnswer (IsPart shown bytes) text params s new before after → WritesOf s before after (λ cs. flat_map bytes (wanted cs))
  writes new before after w owner cs was =
      let held : Holds desk_layout s.now (contents (tables owner cs)) = (was.holds (clean owner cs was) w.live).0 in
      let it = (w.exact desk_layout at table terms (by_first ordered table) rest names means held.fits).1 (contents (tables owner cs)) (map item (part (tables owner cs))) held (has (tables owner cs)) in
      subst (Appends before after) (spelt_rows shown bytes w.answer (wanted cs) w.bytes (listed owner cs w.answer it) w.spelt) w.written

  -- rows that begin the answer begin the list
  begun : (owner : List ℕ) (cs : History) → ShowsHistory s owner cs → (given : List Row) → BeginsAnswer text params s given
      → (ahead : List X) × (behind : List X) × (given ≡ map shown ahead) × (wanted cs ≡ ahead ++ behind)
  begun owner cs was given h =
      let held : Holds desk_layout s.now (contents (tables owner cs)) = (was.holds (clean owner cs was) h.0).0 in
      let it = h.1 desk_layout at table terms (by_first ordered table) rest names means held.fits in
      let all = listed owner cs (given ++ it.0) (it.1 (contents (tables owner cs)) (map item (part (tables owner cs))) held (has (tables owner cs))) in
      let parts = parted shown given it.0 (wanted cs) all in
      (parts.0, parts.1, parts.2, parts.4)

  joined : (ahead behind : List X) (cs : History) → wanted cs ≡ ahead ++ behind → flat_map bytes ahead ++ flat_map bytes behind ≡ flat_map bytes (wanted cs)
  joined ahead behind cs is = sym (flat_map-append bytes ahead behind) ∙ ap (flat_map bytes) (sym is)

  pub begins : (before after : Option (List ℕ)) → WritesFirst (IsPart shown bytes) text params s before after → BeginsOf s before after (λ cs. flat_map bytes (wanted cs))
  begins before after w owner cs was = elim w.ends [
    | inl same ↦ elim w.begins [
      | inl none ↦
          let empty : w.bytes ≡ [] = subst (λ l. AreSpelt (IsPart shown bytes) l w.bytes) none w.spelt in
          AppendsBeginning-none before after (flat_map bytes (wanted cs)) (subst (λ m. Appends before m []) same (subst (Appends before w.mid) empty w.written))
      | inr some ↦
          let it = begun owner cs was w.taken some in
          let front : w.bytes ≡ flat_map bytes it.0 = spelt_rows shown bytes w.taken it.0 w.bytes it.2 w.spelt in
          let nothing : Appends w.mid after [] = subst (λ m. Appends w.mid m []) same (Appends-nil w.mid) in
          subst (AppendsBeginning before after) (joined it.0 it.1 cs it.3)
          (AppendsBeginning-after before w.mid after (flat_map bytes it.0) (flat_map bytes it.1) (subst (Appends before w.mid) front w.written)
          (AppendsBeginning-none w.mid after (flat_map bytes it.1) nothing))
    ]
    | inr (row, begin, some) ↦
        let it = begun owner cs was (w.taken ++ row ∷ []) some in
        let parts = parted shown w.taken (row ∷ []) it.0 it.2 in
        let one = first_of shown row [] parts.1 parts.3 in
        let front : w.bytes ≡ flat_map bytes parts.0 = spelt_rows shown bytes w.taken parts.0 w.bytes parts.2 w.spelt in
        let whole : wanted cs ≡ parts.0 ++ (one.0 ∷ (one.1 ++ it.1)) =
        it.3 ∙ ap (λ l. l ++ it.1) (parts.4 ∙ ap (λ l. parts.0 ++ l) one.3) ∙ append_assoc parts.0 (one.0 ∷ one.1) it.1 in
        let mine : AppendsBeginning w.mid after (bytes one.0) = begin (bytes one.0) (λ y is. own one.0 y (sym one.2 ∙ is)) in
        subst (AppendsBeginning before after) (joined parts.0 (one.0 ∷ (one.1 ++ it.1)) cs whole)
        (AppendsBeginning-after before w.mid after (flat_map bytes parts.0) (bytes one.0 ++ flat_map bytes (one.1 ++ it.1)) (subst (Appends before w.mid) front w.written)
        (AppendsBeginning-before w.mid after (bytes one.0) (flat_map bytes (one.1 ++ it.1)) mine))
  ]

  pub told : ((new : State) (before after : Option (List ℕ)) → WritesAnswer (IsPart shown bytes) text params s new before after → WritesOf s before after (λ cs. flat_map bytes (wanted cs)))
      × ((before after : Option (List ℕ)) → WritesFirst (IsPart shown bytes) text params s before after → BeginsOf s before after (λ cs. flat_map bytes (wanted cs)))
  told = (writes, begins)
