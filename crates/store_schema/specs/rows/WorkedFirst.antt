-- A worked day of a desk with one officer, with its rows of version 1 and of version 2 written by
-- hand.
use Rattle.std.specs.Prelude.{◌≡◌, ℕ, pos, true, List, [], ◌∷◌, ◌++◌, codes}
use Rattle.sqlite.specs.declared.types.Value.TheVariants.{Null, Int, Text, Blob}
use Rattle.sqlite.specs.Order.{Row}
use Rattle.desk_types.specs.declared.command.Command.TheVariants as command
use Rattle.desk_types.specs.declared.role.Role.TheVariants.{Officer}
use Rattle.store_sql.specs.Contents.{Contents}
use Rattle.desk_history.specs.Calls.{First, History, under}
use Rattle.desk_history.specs.Runs.{is_legal}
use Rattle.desk_history.specs.Tables.{tables}
use Rattle.desk_history.specs.Worked.{by, digest, person, raise}
use Rattle.store_schema.specs.rows.Contents.{contents}
use Rattle.store_schema.specs.rows.Histories.{AreFirst, first_contents}
use Rattle.store_schema.specs.rows.Worked.{call, hex, owner}

-- an officer is added, revokes a digest and raises the level: the newest call first
abbrev pub history : History
history =
    under First (by (codes "olga") (codes "olga-2") (raise (codes "grub") 4 2024010100))
    ∷ under First (by (codes "olga") (codes "olga-1") (command.RevokeDigest (digest 0x1f)))
    ∷ under First (person (codes "olga") Officer 6)
    ∷ []

-- the desk's row in tables of this version
abbrev desk : ℕ → List Row
desk version = (Int (pos 1) ∷ Null ∷ Text (codes "boot-desk") ∷ Int (pos version) ∷ Blob owner ∷ Int (pos 2024010100) ∷ []) ∷ []

-- the other eleven tables of version 1: people, calls, revoked entries, and the level
abbrev others : Contents
others =
    ((Text (codes "olga") ∷ Text (codes "officer") ∷ Blob (digest 6) ∷ []) ∷ [])
    ∷ (call 3 (codes "olga") (codes "olga-2") (codes "raise grub 4 2024010100") (codes "raised")
    ∷ call 2 (codes "olga") (codes "olga-1") (codes "revoke-digest " ++ hex (codes "1f")) (codes "revoked")
    ∷ call 1 (codes "console") (codes "olga") (codes "add-person olga officer " ++ hex (codes "06")) (codes "added olga")
    ∷ [])
    ∷ [] ∷ [] ∷ [] ∷ [] ∷ [] ∷ []
    ∷ ((Blob (digest 0x1f) ∷ []) ∷ [])
    ∷ []
    ∷ ((Text (codes "grub") ∷ Int (pos 4) ∷ []) ∷ [])
    ∷ []

-- the twelve tables of version 1
abbrev pub first_rows : Contents
first_rows = desk 1 ∷ others

-- the fifteen of version 2: nothing is proposed, and three calls were accepted by the first rules
abbrev pub rows : Contents
rows = desk 2 ∷ (others ++ [] ∷ [] ∷ ((Int (pos 1) ∷ Null ∷ Int (pos 3) ∷ []) ∷ []) ∷ [])

-- the tables of the day hold these rows, in each version
abbrev pub HoldsFirstDay : Type 0
HoldsFirstDay =
    (is_legal history ≡ true) × AreFirst history × (first_contents (tables owner history) ≡ first_rows) × (contents (tables owner history) ≡ rows)
