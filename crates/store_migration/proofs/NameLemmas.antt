-- The names of the tables of version 1, none of which is one of the three.
use Rattle.std.proofs.Common.{◌≡◌, ℕ, List, true, false, refl, subst, IsTrue}
use Rattle.sqlite.specs.Schema.{Schema}
use Rattle.sqlite.specs.State.{State, HasCleanDisk}
use Rattle.sqlite_schema.specs.Names.{same_name}
use Rattle.desk_history.specs.Calls.{History}
use Rattle.store_sql.proofs.LayoutLemmas.{is_alone}
use Rattle.store_schema.specs.Tables.{first_schema}
use Rattle.store_schema.specs.rows.Histories.{ShowsFirst}
use Rattle.store_schema.specs.Names.{takes_an_added_name}

pub none_taken : takes_an_added_name first_schema ≡ false
unfolding same_name
none_taken = refl

pub not_taken : (s : State) → HasCleanDisk s → IsTrue s.is_open → IsTrue (takes_an_added_name s.now.schema) → (owner : List ℕ) (cs : History) → ShowsFirst s owner cs → ⊥
not_taken s clean live takes owner cs shows =
    let there : takes_an_added_name first_schema ≡ true = subst (λ (x : Schema). takes_an_added_name x ≡ true) (is_alone first_schema s.now.schema (shows.1.holds clean live).0.fits) takes in
    let none = none_taken in
    cc
