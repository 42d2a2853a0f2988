-- A worked day of a desk, with the rows of its fifteen tables written by hand.
use Rattle.std.specs.Prelude.{◌≡◌, ℕ, zero, suc, pos, List, [], ◌∷◌, ◌++◌, codes}
use Rattle.sqlite.specs.declared.types.Value.TheVariants.{Null, Int, Text, Blob}
use Rattle.sqlite.specs.Order.{Row}
use Rattle.desk_types.specs.declared.command.Command.TheVariants as command
use Rattle.desk_types.specs.declared.vote.Vote.TheVariants.{Yes}
use Rattle.store_sql.specs.Contents.{Contents}
use Rattle.desk_history.specs.Calls.{History, item}
use Rattle.desk_history.specs.Tables.{tables}
use Rattle.desk_history.specs.Worked.{by, digest, give_back, grub, image, officers_added, raise, submit, vote}
use Rattle.store_schema.specs.rows.Contents.{contents}

-- the owner's GUID, as it is stored
abbrev pub owner : List ℕ
owner = 0x33 ∷ 0x22 ∷ 0x11 ∷ 0x00 ∷ 0x55 ∷ 0x44 ∷ 0x77 ∷ 0x66 ∷ 0x88 ∷ 0x99 ∷ 0xaa ∷ 0xbb ∷ 0xcc ∷ 0xdd ∷ 0xee ∷ 0xff ∷ []

-- the bytes of a certificate
abbrev pub certificate : List ℕ
certificate = 0x30 ∷ 0x03 ∷ 0x02 ∷ 0x01 ∷ 0x01 ∷ []

-- after the people were added an image is submitted, approved and signed; an image and a
-- certificate are listed; the first officer proposes to revoke others and to raise the level, and
-- the second confirms two proposals and drops one, which the first explains: the newest call first
abbrev pub history : History
history =
    item (by (codes "olga") (codes "olga-6") (command.Explain (record { proposal = 2; reason = codes "CVE-2026-1234" })))
    ∷ item (by (codes "otto") (codes "otto-3") (command.Confirm 3))
    ∷ item (by (codes "otto") (codes "otto-2") (command.Drop 2))
    ∷ item (by (codes "otto") (codes "otto-1") (command.Confirm 1))
    ∷ item (by (codes "olga") (codes "olga-5") (raise (codes "grub") 4 2024010100))
    ∷ item (by (codes "olga") (codes "olga-4") (command.RevokeCertificate (digest 0x20)))
    ∷ item (by (codes "olga") (codes "olga-3") (command.RevokeDigest (digest 0x1f)))
    ∷ item (by (codes "olga") (codes "olga-2") (command.ListDigest (digest 0x16)))
    ∷ item (by (codes "sid") (codes "sid-1") (give_back 1 (image 0x0d 0x0c 0x0c (digest 0x14 ∷ []) [])))
    ∷ item (by (codes "olga") (codes "olga-1") (command.ListCertificate (record { tbs = digest 0x14; body = certificate })))
    ∷ item (by (codes "raul") (codes "raul-1") (vote 1 Yes))
    ∷ item (by (codes "rita") (codes "rita-1") (vote 1 Yes))
    ∷ item (by (codes "ann") (codes "ann-1") (submit (image 0x0a 0x0b 0x0c (digest 0x14 ∷ []) (grub 3 ∷ []))))
    ∷ officers_added

-- the text repeated this many times
abbrev repeated : ℕ → List ℕ → List ℕ
repeated zero text = []
repeated (suc n) text = text ++ repeated n text

-- the 64 digits of a digest of one byte
abbrev pub hex : List ℕ → List ℕ
hex byte = repeated 32 byte

-- a row of the table calls
abbrev pub call : ℕ → List ℕ → List ℕ → List ℕ → List ℕ → Row
call number caller key text reply = Int (pos number) ∷ Null ∷ Text caller ∷ Text key ∷ Text text ∷ Text reply ∷ []

-- the minutes, the newest first
abbrev calls : List Row
calls =
    call 20 (codes "olga") (codes "olga-6") (codes "explain 2 CVE-2026-1234") (codes "explained 2")
    ∷ call 19 (codes "otto") (codes "otto-3") (codes "confirm 3") (codes "confirmed 3 0 0 1 0")
    ∷ call 18 (codes "otto") (codes "otto-2") (codes "drop 2") (codes "dropped 2")
    ∷ call 17 (codes "otto") (codes "otto-1") (codes "confirm 1") (codes "confirmed 1 1 0 0 0")
    ∷ call 16 (codes "olga") (codes "olga-5") (codes "raise grub 4 2024010100") (codes "proposed 3")
    ∷ call 15 (codes "olga") (codes "olga-4") (codes "revoke-certificate " ++ hex (codes "20")) (codes "proposed 2")
    ∷ call 14 (codes "olga") (codes "olga-3") (codes "revoke-digest " ++ hex (codes "1f")) (codes "proposed 1")
    ∷ call 13 (codes "olga") (codes "olga-2") (codes "list-digest " ++ hex (codes "16")) (codes "listed")
    ∷ call 12 (codes "sid") (codes "sid-1")
    (codes "return 1 1024 0 " ++ hex (codes "0d") ++ codes " " ++ hex (codes "0c") ++ codes " " ++ hex (codes "0c") ++ codes " " ++ hex (codes "14") ++ codes " -")
    (codes "returned 1")
    ∷ call 11 (codes "olga") (codes "olga-1") (codes "list-certificate " ++ hex (codes "14") ++ codes " 3003020101") (codes "listed")
    ∷ call 10 (codes "raul") (codes "raul-1") (codes "review 1 yes looked") (codes "reviewed 1 approved")
    ∷ call 9 (codes "rita") (codes "rita-1") (codes "review 1 yes looked") (codes "reviewed 1 open")
    ∷ call 8 (codes "ann") (codes "ann-1")
    (codes "submit 1024 0 " ++ hex (codes "0a") ++ codes " " ++ hex (codes "0b") ++ codes " " ++ hex (codes "0c") ++ codes " " ++ hex (codes "14") ++ codes " 3:grub shim 15.8")
    (codes "submitted 1")
    ∷ call 7 (codes "console") (codes "otto") (codes "add-person otto officer " ++ hex (codes "07")) (codes "added otto")
    ∷ call 6 (codes "console") (codes "olga") (codes "add-person olga officer " ++ hex (codes "06")) (codes "added olga")
    ∷ call 5 (codes "console") (codes "sid") (codes "add-person sid signer " ++ hex (codes "05")) (codes "added sid")
    ∷ call 4 (codes "console") (codes "rosa") (codes "add-person rosa reviewer " ++ hex (codes "04")) (codes "added rosa")
    ∷ call 3 (codes "console") (codes "raul") (codes "add-person raul reviewer " ++ hex (codes "03")) (codes "added raul")
    ∷ call 2 (codes "console") (codes "rita") (codes "add-person rita reviewer " ++ hex (codes "02")) (codes "added rita")
    ∷ call 1 (codes "console") (codes "ann") (codes "add-person ann submitter " ++ hex (codes "01")) (codes "added ann")
    ∷ []

-- the row of the desk
abbrev desk : List Row
desk = (Int (pos 1) ∷ Null ∷ Text (codes "boot-desk") ∷ Int (pos 2) ∷ Blob owner ∷ Int (pos 2024010100) ∷ []) ∷ []

-- the people
abbrev people : List Row
people =
    (Text (codes "otto") ∷ Text (codes "officer") ∷ Blob (digest 7) ∷ [])
    ∷ (Text (codes "olga") ∷ Text (codes "officer") ∷ Blob (digest 6) ∷ [])
    ∷ (Text (codes "sid") ∷ Text (codes "signer") ∷ Blob (digest 5) ∷ [])
    ∷ (Text (codes "rosa") ∷ Text (codes "reviewer") ∷ Blob (digest 4) ∷ [])
    ∷ (Text (codes "raul") ∷ Text (codes "reviewer") ∷ Blob (digest 3) ∷ [])
    ∷ (Text (codes "rita") ∷ Text (codes "reviewer") ∷ Blob (digest 2) ∷ [])
    ∷ (Text (codes "ann") ∷ Text (codes "submitter") ∷ Blob (digest 1) ∷ [])
    ∷ []

-- the request
abbrev requests : List Row
requests =
    (Int (pos 1) ∷ Null ∷ Text (codes "ann") ∷ Text (codes "shim 15.8") ∷ Int (pos 1024) ∷ Int (pos 0) ∷ Blob (digest 0x0a)
    ∷ Blob (digest 0x0b) ∷ Blob (digest 0x0c) ∷ Text (codes "signed") ∷ [])
    ∷ []

-- the votes
abbrev votes : List Row
votes =
    (Int (pos 1) ∷ Text (codes "raul") ∷ Text (codes "yes") ∷ Text (codes "looked") ∷ [])
    ∷ (Int (pos 1) ∷ Text (codes "rita") ∷ Text (codes "yes") ∷ Text (codes "looked") ∷ [])
    ∷ []

-- the signed file
abbrev returns : List Row
returns = (Int (pos 1) ∷ Null ∷ Text (codes "sid") ∷ Int (pos 1024) ∷ Blob (digest 0x0d) ∷ Blob (digest 0x0c) ∷ []) ∷ []

-- the entries
abbrev listed : List Row
listed =
    (Text (codes "digest") ∷ Blob (digest 0x16) ∷ Blob [] ∷ [])
    ∷ (Text (codes "certificate") ∷ Blob (digest 0x14) ∷ Blob certificate ∷ [])
    ∷ []

-- the proposals
abbrev proposals : List Row
proposals =
    (Int (pos 3) ∷ Null ∷ Text (codes "olga") ∷ Text (codes "level") ∷ Int (pos 2024010100) ∷ Int (pos 0) ∷ Text (codes "confirmed") ∷ [])
    ∷ (Int (pos 2) ∷ Null ∷ Text (codes "olga") ∷ Text (codes "certificate") ∷ Int (pos 0) ∷ Int (pos 0) ∷ Text (codes "dropped") ∷ [])
    ∷ (Int (pos 1) ∷ Null ∷ Text (codes "olga") ∷ Text (codes "digest") ∷ Int (pos 0) ∷ Int (pos 0) ∷ Text (codes "confirmed") ∷ [])
    ∷ []

-- the items of the proposals
abbrev proposal_items : List Row
proposal_items =
    (Int (pos 3) ∷ Int (pos 0) ∷ Text (codes "component") ∷ Blob [] ∷ Text (codes "grub") ∷ Int (pos 4) ∷ [])
    ∷ (Int (pos 2) ∷ Int (pos 0) ∷ Text (codes "certificate") ∷ Blob (digest 0x20) ∷ Text [] ∷ Int (pos 0) ∷ [])
    ∷ (Int (pos 1) ∷ Int (pos 0) ∷ Text (codes "digest") ∷ Blob (digest 0x1f) ∷ Text [] ∷ Int (pos 0) ∷ [])
    ∷ []

-- the fifteen tables
abbrev pub rows : Contents
rows =
    desk ∷ people ∷ calls ∷ requests
    ∷ ((Int (pos 1) ∷ Blob (digest 0x14) ∷ []) ∷ [])
    ∷ ((Int (pos 1) ∷ Int (pos 0) ∷ Text (codes "grub") ∷ Int (pos 3) ∷ []) ∷ [])
    ∷ votes ∷ returns ∷ listed
    ∷ ((Blob (digest 0x1f) ∷ []) ∷ [])
    ∷ []
    ∷ ((Text (codes "grub") ∷ Int (pos 4) ∷ []) ∷ [])
    ∷ proposals ∷ proposal_items
    ∷ ((Int (pos 1) ∷ Null ∷ Int (pos 0) ∷ []) ∷ [])
    ∷ []

-- the tables of the day hold these rows
abbrev pub HoldsDay : Type 0
HoldsDay = contents (tables owner history) ≡ rows
