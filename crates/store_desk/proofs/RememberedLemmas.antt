-- What a desk remembers: at first, and for nobody.
use Rattle.std.proofs.Common.{◌≡◌, ℕ, None, sym, ◌∙◌}
use Rattle.desk_history.specs.Tables.{Tables}
use Rattle.store_decision_rows.specs.declared.remembered.Remembered.{Remembered}
use Rattle.store_decision_rows.specs.declared.sizes.known.KnownSizes.{KnownSizes}
use Rattle.store_decision_rows.specs.remembered.Current.{IsCurrent}
use Rattle.store_decision_rows.specs.sizes.Sizes.{AreRight, IsUnknown}

unknown_are_right : (k : KnownSizes) (t : Tables) → IsUnknown k → AreRight k t
unknown_are_right k t unknown = record {
  calls = λ n is. absurd (let none = sym unknown.calls ∙ is in cc);
  sizes = λ table n is. absurd (let none = sym (unknown.sizes table) ∙ is in cc);
}

-- the right stamp alone is current
pub stamp_is_current : (r : Remembered) (t : Tables) (stamp : ℕ) → r.stamp ≡ stamp → IsUnknown r.sizes → r.person ≡ None → stamp ≡ t.desk.stamp → IsCurrent r t
stamp_is_current r t stamp told unknown nobody is = record { stamp = told ∙ is; sizes = unknown_are_right r.sizes t unknown; person = rw nobody tt }

-- what is current is so without its person
pub forgets : (r : Remembered) (t : Tables) → IsCurrent r t → IsCurrent (record r { person = None }) t
forgets r t was = record { stamp = was.stamp; sizes = was.sizes; person = tt }
