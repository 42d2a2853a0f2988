-- Laws of exports: the length of dbx, what shim's form of it revokes, and minutes that go on.
use Rattle.std.specs.Prelude.{◌≡◌, ℕ, ◌==◌, ◌&&◌, IsTrue, List, ◌++◌, bytes_eq, length, Ok}
use Rattle.std.specs.List.{list_any}
use Rattle.desk_types.specs.declared.command.Call.{Call}
use Rattle.desk_types.specs.declared.command.Command.TheVariants as command
use Rattle.desk_types.specs.declared.kind.ListedKind.TheVariants as kinds
use Rattle.desk_history.specs.Calls.{GoesOnFrom, History, is_among}
use Rattle.desk_history.specs.Formed.{IsHistory}
use Rattle.desk_history.specs.Impact.{Impact, dbx_length, impact}
use Rattle.desk_history.specs.Revocations.{is_revoked}
use Rattle.desk_history.specs.Runs.{answer, is_accepted, next}
use Rattle.desk_exports.specs.Bodies.{bodies_of, certificates_given, is_bodiless}
use Rattle.desk_exports.specs.Exports.{dbx, minutes_text, revoked_bodies, revoked_bodiless}

-- dbx has the length that a desk's history gives it
abbrev pub DbxHasLength : Type 0
DbxHasLength = (owner : List ℕ) (cs : History) → length owner ≡ 16 → IsHistory cs → length (dbx owner cs) ≡ dbx_length cs

-- after an accepted Confirm dbx has the length that the impact of its proposal said
abbrev pub LengthComesTrue : Type 0
LengthComesTrue =
    (owner : List ℕ) (cs : History) (c : Call) (k : ℕ) (foretold : Impact) → length owner ≡ 16 → IsHistory (next cs c)
    → c.command ≡ command.Confirm k → IsTrue (is_accepted (answer cs c)) → impact cs k ≡ Ok foretold
    → length (dbx owner (next cs c)) ≡ foretold.dbx

-- in shim's form the X509 lists have the bodies that calls gave for revoked certificates, and no
-- others
abbrev pub ShimHasBodies : Type 0
ShimHasBodies =
    (cs : History) (body : List ℕ) → is_among (revoked_bodies cs) body
    ≡ list_any (λ c. is_revoked kinds.Certificate cs c.tbs && bytes_eq body c.body) (certificates_given cs)

-- its X509_SHA256 list has the other revoked certificates, and no others
abbrev pub ShimHasOthers : Type 0
ShimHasOthers =
    (cs : History) (tbs : List ℕ) → is_among (revoked_bodiless cs) tbs
    ≡ (is_revoked kinds.Certificate cs tbs && is_bodiless cs tbs)

-- a certificate without a body has no X509 list, and each other one has some
abbrev pub ShimHasOne : Type 0
ShimHasOne = (cs : History) (tbs : List ℕ) → is_bodiless cs tbs ≡ (length (bodies_of tbs cs) == 0)

-- the minutes of a later history begin with those of an earlier one
abbrev pub MinutesGoOn : Type 0
MinutesGoOn =
    (earlier later : History) → GoesOnFrom earlier later
    → (more : List ℕ) × (minutes_text later ≡ minutes_text earlier ++ more)
