-- Numbers of refusals, no two the same.
use Rattle.std.proofs.Common.{◌≡◌, ℕ, ◌==◌, if◌then◌else◌, refl, sym, ap, ◌∙◌}
use Rattle.base.specs.Refusals.{number_of}
use Rattle.base.specs.declared.refusal.Refusal.{Refusal}
use Rattle.base.specs.declared.refusal.Refusal.TheVariants as refusal

-- the refusal with this number
abbrev refusal_at : ℕ → Refusal
refusal_at n =
    if n == 1 then refusal.Short
    else if n == 2 then refusal.NoMz
    else if n == 3 then refusal.NoPe
    else if n == 4 then refusal.Magic
    else if n == 5 then refusal.NotEfi
    else if n == 6 then refusal.Headers
    else if n == 7 then refusal.Sections
    else if n == 8 then refusal.Overlap
    else if n == 9 then refusal.Table
    else if n == 10 then refusal.Der
    else if n == 11 then refusal.TwoSbat
    else if n == 12 then refusal.SbatRow
    else if n == 13 then refusal.TooLong
    else if n == 14 then refusal.Read
    else if n == 15 then refusal.List
    else if n == 16 then refusal.EntrySize
    else if n == 17 then refusal.Write
    else if n == 18 then refusal.Line
    else if n == 19 then refusal.CsvRow
    else if n == 20 then refusal.UnknownCaller
    else if n == 21 then refusal.NotYourRole
    else if n == 22 then refusal.KeyReused
    else if n == 23 then refusal.NoSuchRequest
    else if n == 24 then refusal.WrongState
    else if n == 25 then refusal.OwnRequest
    else if n == 26 then refusal.AlreadyReviewed
    else if n == 27 then refusal.DigestDiffers
    else if n == 28 then refusal.Revoked
    else if n == 29 then refusal.NotListed
    else if n == 30 then refusal.AlreadyRevoked
    else if n == 31 then refusal.NotHigher
    else if n == 32 then refusal.StampNotLater
    else if n == 33 then refusal.AlreadyListed
    else if n == 34 then refusal.NotThere
    else if n == 35 then refusal.NameTaken
    else if n == 36 then refusal.Full
    else if n == 37 then refusal.NoSuchProposal
    else if n == 38 then refusal.OwnProposal
    else if n == 39 then refusal.ProposalClosed
    else if n == 40 then refusal.NoMemory
    else if n == 41 then refusal.Store
    else if n == 42 then refusal.Reopen
    else if n == 43 then refusal.NotADesk
    else if n == 44 then refusal.Version
    else if n == 45 then refusal.File
    else if n == 46 then refusal.Exists
    else if n == 47 then refusal.Minute
    else if n == 48 then refusal.Owner
    else if n == 49 then refusal.Mismatch
    else if n == 50 then refusal.BadHead
    else if n == 51 then refusal.BadField
    else if n == 52 then refusal.BadBody
    else if n == 53 then refusal.NoRoute
    else if n == 54 then refusal.BadMethod
    else if n == 55 then refusal.LengthNeeded
    else if n == 56 then refusal.TooLarge
    else refusal.NotSupported

refusal_at-number_of : (r : Refusal) → refusal_at (number_of r) ≡ r
refusal_at-number_of refusal.Short = refl
refusal_at-number_of refusal.NoMz = refl
refusal_at-number_of refusal.NoPe = refl
refusal_at-number_of refusal.Magic = refl
refusal_at-number_of refusal.NotEfi = refl
refusal_at-number_of refusal.Headers = refl
refusal_at-number_of refusal.Sections = refl
refusal_at-number_of refusal.Overlap = refl
refusal_at-number_of refusal.Table = refl
refusal_at-number_of refusal.Der = refl
refusal_at-number_of refusal.TwoSbat = refl
refusal_at-number_of refusal.SbatRow = refl
refusal_at-number_of refusal.TooLong = refl
refusal_at-number_of refusal.Read = refl
refusal_at-number_of refusal.List = refl
refusal_at-number_of refusal.EntrySize = refl
refusal_at-number_of refusal.Write = refl
refusal_at-number_of refusal.Line = refl
refusal_at-number_of refusal.CsvRow = refl
refusal_at-number_of refusal.UnknownCaller = refl
refusal_at-number_of refusal.NotYourRole = refl
refusal_at-number_of refusal.KeyReused = refl
refusal_at-number_of refusal.NoSuchRequest = refl
refusal_at-number_of refusal.WrongState = refl
refusal_at-number_of refusal.OwnRequest = refl
refusal_at-number_of refusal.AlreadyReviewed = refl
refusal_at-number_of refusal.DigestDiffers = refl
refusal_at-number_of refusal.Revoked = refl
refusal_at-number_of refusal.NotListed = refl
refusal_at-number_of refusal.AlreadyRevoked = refl
refusal_at-number_of refusal.NotHigher = refl
refusal_at-number_of refusal.StampNotLater = refl
refusal_at-number_of refusal.AlreadyListed = refl
refusal_at-number_of refusal.NotThere = refl
refusal_at-number_of refusal.NameTaken = refl
refusal_at-number_of refusal.Full = refl
refusal_at-number_of refusal.NoSuchProposal = refl
refusal_at-number_of refusal.OwnProposal = refl
refusal_at-number_of refusal.ProposalClosed = refl
refusal_at-number_of refusal.NoMemory = refl
refusal_at-number_of refusal.Store = refl
refusal_at-number_of refusal.Reopen = refl
refusal_at-number_of refusal.NotADesk = refl
refusal_at-number_of refusal.Version = refl
refusal_at-number_of refusal.File = refl
refusal_at-number_of refusal.Exists = refl
refusal_at-number_of refusal.Minute = refl
refusal_at-number_of refusal.Owner = refl
refusal_at-number_of refusal.Mismatch = refl
refusal_at-number_of refusal.BadHead = refl
refusal_at-number_of refusal.BadField = refl
refusal_at-number_of refusal.BadBody = refl
refusal_at-number_of refusal.NoRoute = refl
refusal_at-number_of refusal.BadMethod = refl
refusal_at-number_of refusal.LengthNeeded = refl
refusal_at-number_of refusal.TooLarge = refl
refusal_at-number_of refusal.NotSupported = refl

pub number_of-differ : (r s : Refusal) → number_of r ≡ number_of s → r ≡ s
number_of-differ r s same = sym (refusal_at-number_of r) ∙ ap refusal_at same ∙ refusal_at-number_of s
