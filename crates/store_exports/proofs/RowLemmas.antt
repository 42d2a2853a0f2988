-- Rows that are taken one after another, as the bytes that they leave in a writer.
use Rattle.std.proofs.Common.{◌≡◌, inl, inr, ℕ, List, [], ◌∷◌, ◌++◌, Option, refl, sym, ap, subst, ◌∙◌}
use Rattle.std.specs.Io.KnownBytes.{Appends}
use Rattle.std.proofs.KnownBytes.{Appends-nil, Appends-trans}
use Rattle.sqlite.specs.Order.{Row}
use Rattle.sqlite.specs.State.{State}
use Rattle.store_sql.specs.Effects.{TakesAll}
use Rattle.store_sql.specs.Streaming.{HandsFirst}
use Rattle.store_exports.specs.Rows.{AreSpelt, BeginsRow, WritesFirst, WritesRow}

module _ {T F N : Type 0} (name : T → N) (form : T → F) (contents : T → Option (List ℕ)) (spells : F → Row → List ℕ → Type 0) where
  abbrev pub Takes : T → Row → T → Type 0
  Takes old row new = (name new ≡ name old) × (form new ≡ form old) × WritesRow (spells (form old) row) (contents old) (contents new)

  abbrev pub GivesUp : T → Row → T → Type 0
  GivesUp old row new = (name new ≡ name old) × BeginsRow (spells (form old) row) (contents old) (contents new)

  pub taken : (rows : List Row) (a b : T) → TakesAll Takes a rows b
      → (name b ≡ name a) × (form b ≡ form a) × ((bytes : List ℕ) × AreSpelt (spells (form a)) rows bytes × Appends (contents a) (contents b) bytes)
  taken [] a b h = (ap name (sym h), ap form (sym h), ([], refl, subst (λ t. Appends (contents a) (contents t) []) h (Appends-nil (contents a))))
  taken (row ∷ rows) a b (mid, one, more) =
      let it = taken rows mid b more in (
        it.0 ∙ one.0,
        it.1 ∙ one.1,
        (
          one.2.bytes ++ it.2.0,
          (one.2.bytes, it.2.0, one.2.spelt, subst (λ f. AreSpelt (spells f) rows it.2.0) one.1 it.2.1, refl),
          Appends-trans (contents a) (contents mid) (contents b) one.2.bytes it.2.0 one.2.written it.2.2,
        ),
      )

  module _ (text : List ℕ) (params : Row) (s : State) (a b : T) (h : HandsFirst Takes GivesUp text params s a b) where
    pub halted : WritesFirst (spells (form a)) text params s (contents a) (contents b)
    halted =
        let it = taken h.taken a h.last h.handed in
        record {
          taken = h.taken;
          bytes = it.2.0;
          mid = contents h.last;
          spelt = it.2.1;
          written = it.2.2;
          begins = h.begins;
          ends = elim h.ends [
            | inl same ↦ inl (ap contents same)
            | inr up ↦ inr (up.row, subst (λ f. BeginsRow (spells f up.row) (contents h.last) (contents b)) it.1 up.refused.1, up.begins)
          ];
        }

    pub halted_name : name b ≡ name a
    halted_name =
        let it = taken h.taken a h.last h.handed in
        elim h.ends [
          | inl same ↦ ap name (sym same) ∙ it.0
          | inr up ↦ up.refused.0 ∙ it.0
        ]
