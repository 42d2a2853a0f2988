-- The commands that each role gives.
use Rattle.std.specs.Prelude.{Bool, true, false}
use Rattle.desk_types.specs.declared.command.Command.{Command}
use Rattle.desk_types.specs.declared.command.Command.TheVariants as command
use Rattle.desk_types.specs.declared.role.Role.{Role}
use Rattle.desk_types.specs.declared.role.Role.TheVariants as role

-- own: the roles that submit requests
abbrev pub asks : Role → Bool
asks role.Submitter = true
asks role.Reviewer = true
asks role.Officer = false
asks role.Signer = false

-- the role that reviews
abbrev pub is_reviewer : Role → Bool
is_reviewer role.Submitter = false
is_reviewer role.Reviewer = true
is_reviewer role.Officer = false
is_reviewer role.Signer = false

-- the role that keeps the lists and the level
abbrev pub is_officer : Role → Bool
is_officer role.Submitter = false
is_officer role.Reviewer = false
is_officer role.Officer = true
is_officer role.Signer = false

-- the role that returns signed files
abbrev pub is_signer : Role → Bool
is_signer role.Submitter = false
is_signer role.Reviewer = false
is_signer role.Officer = false
is_signer role.Signer = true

-- own: the role that gives each command; none gives AddPerson, which is the console's
abbrev pub is_for : Role → Command → Bool
is_for r (command.AddPerson _) = false
is_for r (command.Submit _) = asks r
is_for r (command.Review _) = is_reviewer r
is_for r (command.Withdraw _) = asks r
is_for r (command.Return _) = is_signer r
is_for r (command.ListCertificate _) = is_officer r
is_for r (command.ListDigest _) = is_officer r
is_for r (command.Unlist _) = is_officer r
is_for r (command.RevokeDigest _) = is_officer r
is_for r (command.RevokeCertificate _) = is_officer r
is_for r (command.RaiseLevel _) = is_officer r
is_for r (command.ImportRevocations _) = is_officer r
is_for r (command.Confirm _) = is_officer r
is_for r (command.Drop _) = is_officer r
is_for r (command.Explain _) = is_officer r

-- own: the console gives AddPerson and no other command
abbrev pub is_for_console : Command → Bool
is_for_console (command.AddPerson _) = true
is_for_console (command.Submit _) = false
is_for_console (command.Review _) = false
is_for_console (command.Withdraw _) = false
is_for_console (command.Return _) = false
is_for_console (command.ListCertificate _) = false
is_for_console (command.ListDigest _) = false
is_for_console (command.Unlist _) = false
is_for_console (command.RevokeDigest _) = false
is_for_console (command.RevokeCertificate _) = false
is_for_console (command.RaiseLevel _) = false
is_for_console (command.ImportRevocations _) = false
is_for_console (command.Confirm _) = false
is_for_console (command.Drop _) = false
is_for_console (command.Explain _) = false
