-- The ten digits of the stamp of a desk's history.
use Rattle.std.proofs.Common.{◌≡◌, ℕ, [], ◌∷◌, Option, Some, None, Bool, true, false, refl}
use Rattle.std.proofs.lemmas.List.Elements.{All-head, All-tail}
use Rattle.std.specs.Prelude.{All, IfSome, if◌then◌else◌, unwrap_or}
use Rattle.std.specs.Option.{option_map_or}
use Rattle.sbat.specs.Fields.{is_stamp}
use Rattle.desk_types.specs.Commands.{IsCommand, IsStamp}
use Rattle.desk_types.specs.Formed.{IsWithin}
use Rattle.desk_types.specs.Imports.{Imported}
use Rattle.desk_types.specs.declared.command.Command.{Command}
use Rattle.desk_types.specs.declared.command.Command.TheVariants as command
use Rattle.desk_history.specs.Calls.{History}
use Rattle.desk_history.specs.Forces.{enforced_by, forced, into_force, nothing}
use Rattle.desk_history.specs.Formed.{IsItem}
use Rattle.desk_history.specs.Level.{raises_some, stamp}
use Rattle.desk_history.specs.Proposals.{named_by}
use Rattle.desk_history.proofs.ProposalLemmas.{enforced_so, entries_of}

-- ---- entries that are named have a stamp in its form, or none

abbrev HasForm : Imported → Type 0
HasForm i = IsStamp i.stamp

named_formed : (c : Command) → IsCommand c → IsWithin c → IfSome (entries_of (named_by c)) HasForm
named_formed (command.RaiseLevel r) f w = f.1
named_formed (command.ImportRevocations i) f w = f.stamp
named_formed (command.RevokeDigest _) f w = tt
named_formed (command.RevokeCertificate _) f w = tt
named_formed _ f w = tt

-- ---- the stamp after it

chosen : (b : Bool) (x y : ℕ) → is_stamp x ≡ true → is_stamp y ≡ true → is_stamp (if b then x else y) ≡ true
chosen true x y one other = one
chosen false x y one other = other

given_stamp : (given : Option ℕ) (now : ℕ) → IsStamp given → is_stamp now ≡ true → is_stamp (unwrap_or given now) ≡ true
given_stamp None now formed stands = stands
given_stamp (Some n) now formed stands = formed

after : (enforced : Option Imported) (now : ℕ) → IfSome enforced HasForm → is_stamp now ≡ true → is_stamp (unwrap_or (option_map_or forced enforced nothing).stamp now) ≡ true
after None now formed stands = stands
after (Some i) now formed stands = given_stamp i.stamp now formed stands

pub stamp_is_formed : (cs : History) → All IsItem cs → is_stamp (stamp cs) ≡ true
stamp_is_formed [] formed = refl
stamp_is_formed (i ∷ cs) formed =
    let rest = All-tail IsItem i cs formed in
    let before = stamp_is_formed cs rest in
    chosen (raises_some cs (into_force cs i)) (unwrap_or (into_force cs i).stamp (stamp cs)) (stamp cs)
    (after (enforced_by cs i) (stamp cs) (enforced_so HasForm named_formed cs i.call i.rules rest (All-head IsItem i cs formed)) before) before
