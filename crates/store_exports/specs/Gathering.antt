-- Bodies of revoked certificates, gathered from the calls one after another. Auditors needn't
-- believe these words.
use Rattle.std.specs.Prelude.{◌≡◌, ℕ, ◌==◌, List, [], ◌∷◌, ◌++◌, filter, flat_map, length, map, if◌then◌else◌, bytes_eq, Option, Some, None, Result, IfOk, All}
use Rattle.sqlite.specs.Held.{Held, state}
use Rattle.sqlite.specs.Order.{Row}
use Rattle.sqlite.specs.State.{HasCleanDisk}
use Rattle.sqlite.specs.Store.{Ghosts}
use Rattle.siglist.specs.SignatureLists.{spelling}
use Rattle.siglist.specs.Writing.{x509_row, x509_sha256_row}
use Rattle.desk_types.specs.Certificates.{WholeCertificate}
use Rattle.desk_types.specs.Commands.{IsCommand}
use Rattle.desk_types.specs.CommandTexts.{text_of}
use Rattle.desk_types.specs.Formed.{IsWithin}
use Rattle.desk_types.specs.Naming.{certificate_listed}
use Rattle.desk_types.specs.declared.command.Command.{Command}
use Rattle.desk_history.specs.Calls.{History, is_among}
use Rattle.desk_history.specs.Formed.{IsItem}
use Rattle.store_schema.specs.rows.Histories.{ShowsHistory}
use Rattle.desk_exports.specs.Bodies.{bodies_of}
use Rattle.store_exports.specs.Exporting.{SparesOf, StaysOf}
use Rattle.store_exports.specs.Lines.{Columns, columns_row}

-- a revoked certificate, and the bodies that some calls gave for it
pub record Bodies : Type 0 where
  pub tbs : List ℕ
  pub bodies : List (List ℕ)

-- it without a body
abbrev pub unfound : List ℕ → Bodies
unfound tbs = record { tbs = tbs; bodies = [] }

-- it with a body more, unless it has that one
abbrev pub with_body : List ℕ → Bodies → Bodies
with_body body b = record b { bodies = if is_among b.bodies body then b.bodies else b.bodies ++ body ∷ [] }

-- it with the body of this certificate, if it is that one
abbrev pub with_certificate : WholeCertificate → Bodies → Bodies
with_certificate c b = if bytes_eq b.tbs c.tbs then with_body c.body b else b

-- these with the body of a certificate, if there is one
abbrev pub with_listed : Option WholeCertificate → List Bodies → List Bodies
with_listed None bs = bs
with_listed (Some c) bs = map (with_certificate c) bs

-- these certificates with the bodies that the calls of a history gave for them
abbrev pub gathered : History → List (List ℕ) → List Bodies
gathered cs ones = map (λ tbs. record { tbs = tbs; bodies = bodies_of tbs cs }) ones

-- the row is taken: of each call that it may show, its body is added
abbrev pub TakesBody : Row → List Bodies → List Bodies → Type 0
TakesBody row old new =
    (x : Columns) (c : Command) → IsCommand c → IsWithin c → row ≡ columns_row x → x.text ≡ text_of c
    → new ≡ with_listed (certificate_listed c) old

-- ---- their bytes

-- a list for each body of one
abbrev pub bodies_text : List ℕ → Bodies → List ℕ
bodies_text owner b = flat_map (λ body. spelling (x509_row owner body)) b.bodies

-- those without a body
abbrev pub bodiless : List Bodies → List (List ℕ)
bodiless bs = map (λ b. b.tbs) (filter (λ b. length b.bodies == 0) bs)

-- the lists of all bodies, and then the list of those without
abbrev pub gathered_text : List ℕ → List Bodies → List ℕ
gathered_text owner bs = flat_map (bodies_text owner) bs ++ spelling (x509_sha256_row owner (bodiless bs))

-- ---- reads

-- A read of the desk's rows: its result tells this of each history that the connection showed and
-- whose calls are in their forms; and its effect on the connection
pub record Gathers {S X E : Type 0} (g : Ghosts S) (old new : Held S) (result : Result X E) (tells : X → History → Type 0) : Type 0 where
  pub told : HasCleanDisk (state g new) → IfOk result (λ x. (owner : List ℕ) (cs : History) → All IsItem cs → ShowsHistory (state g old) owner cs → tells x cs)
  pub same : StaysOf (state g old) (state g new)
  pub spares : SparesOf g old new
  pub clean : HasCleanDisk (state g new) → HasCleanDisk (state g old)
