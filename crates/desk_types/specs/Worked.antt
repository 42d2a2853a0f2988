-- Canonical texts, written down by hand and computed by the definitions. Digests have two bytes
-- here, for short lines.
use Rattle.std.specs.Prelude.{◌≡◌, ℕ, List, [], ◌∷◌, codes, Some, None}
use Rattle.sbat.specs.declared.component.Component.{Component}
use Rattle.desk_types.specs.declared.command.Command.TheVariants as command
use Rattle.desk_types.specs.declared.facts.Facts.{Facts}
use Rattle.desk_types.specs.declared.kind.ListedKind.TheVariants as kinds
use Rattle.desk_types.specs.declared.reply.Reply.TheVariants as replies
use Rattle.desk_types.specs.declared.role.Role.TheVariants as roles
use Rattle.desk_types.specs.declared.state.State.TheVariants as states
use Rattle.desk_types.specs.declared.vote.Vote.TheVariants as votes
use Rattle.desk_types.specs.CommandTexts.{text_of}
use Rattle.desk_types.specs.ReplyTexts.{reply_text_of}

-- three digests
abbrev aa : List ℕ
aa = 170 ∷ 170 ∷ []

-- the second
abbrev bb : List ℕ
bb = 187 ∷ 187 ∷ []

-- the third
abbrev cc1 : List ℕ
cc1 = 12 ∷ 193 ∷ []

-- two components
abbrev grub : Component
grub = record { name = codes "grub"; generation = 3 }

-- that of SBAT itself
abbrev sbat : Component
sbat = record { name = codes "sbat"; generation = 1 }

-- an image that carries nothing and names nothing
abbrev bare : Facts
bare = record {
  extent = record { length = 1024; gap = 0 };
  file = aa;
  digest = bb;
  signing = cc1;
  carried = [];
  components = [];
}

-- an image that carries two certificates and names two components
abbrev full : Facts
full = record bare { extent = record { length = 134217728; gap = 512 }; carried = aa ∷ bb ∷ []; components = sbat ∷ grub ∷ [] }

-- the text of each command
abbrev pub WritesCommands : Type 0
WritesCommands =
    (text_of (command.AddPerson (record { name = codes "olga"; role = roles.Officer; token = aa })) ≡ codes "add-person olga officer aaaa")
    × (text_of (command.Submit (record { title = codes "shim 15.8"; facts = bare })) ≡ codes "submit 1024 0 aaaa bbbb 0cc1 - - shim 15.8")
    × (text_of (command.Submit (record { title = codes "s"; facts = full }))
    ≡ codes "submit 134217728 512 aaaa bbbb 0cc1 aaaa,bbbb 1:sbat,3:grub s")
    × (text_of (command.Review (record { request = 7; vote = votes.Yes; note = codes "built it" })) ≡ codes "review 7 yes built it")
    × (text_of (command.Review (record { request = 999999; vote = votes.No; note = [] })) ≡ codes "review 999999 no ")
    × (text_of (command.Withdraw 12) ≡ codes "withdraw 12")
    × (text_of (command.Return (record { request = 3; facts = full }))
    ≡ codes "return 3 134217728 512 aaaa bbbb 0cc1 aaaa,bbbb 1:sbat,3:grub")
    × (text_of (command.ListCertificate (record { tbs = aa; body = 48 ∷ 5 ∷ 255 ∷ [] })) ≡ codes "list-certificate aaaa 3005ff")
    × (text_of (command.ListDigest bb) ≡ codes "list-digest bbbb")
    × (text_of (command.Unlist (record { kind = kinds.Digest; digest = aa })) ≡ codes "unlist digest aaaa")
    × (text_of (command.Unlist (record { kind = kinds.Certificate; digest = aa })) ≡ codes "unlist certificate aaaa")
    × (text_of (command.RevokeDigest cc1) ≡ codes "revoke-digest 0cc1")
    × (text_of (command.RevokeCertificate cc1) ≡ codes "revoke-certificate 0cc1")
    × (text_of (command.RaiseLevel (record { component = grub; stamp = 2024010100 })) ≡ codes "raise grub 3 2024010100")
    × (text_of (command.ImportRevocations (record { stamp = None; passed = 2; digests = bb ∷ aa ∷ []; certificates = []; components = [] }))
    ≡ codes "import 0 2 bbbb,aaaa - -")
    × (text_of (command.ImportRevocations (record { stamp = Some 2024010100; passed = 0; digests = []; certificates = cc1 ∷ []; components = grub ∷ [] }))
    ≡ codes "import 2024010100 0 - 0cc1 3:grub")
    × (text_of (command.Confirm 1) ≡ codes "confirm 1")
    × (text_of (command.Drop 999999) ≡ codes "drop 999999")
    × (text_of (command.Explain (record { proposal = 7; reason = codes "CVE-2026-1234, by the vendor" }))
    ≡ codes "explain 7 CVE-2026-1234, by the vendor")

-- the text of each reply
abbrev pub WritesReplies : Type 0
WritesReplies =
    (reply_text_of (replies.Added (codes "ann")) ≡ codes "added ann")
    × (reply_text_of (replies.Submitted 1) ≡ codes "submitted 1")
    × (reply_text_of (replies.Reviewed (record { request = 1; state = states.Open })) ≡ codes "reviewed 1 open")
    × (reply_text_of (replies.Reviewed (record { request = 2; state = states.Rejected })) ≡ codes "reviewed 2 rejected")
    × (reply_text_of (replies.Reviewed (record { request = 10; state = states.Approved })) ≡ codes "reviewed 10 approved")
    × (reply_text_of (replies.Withdrawn 3) ≡ codes "withdrawn 3")
    × (reply_text_of (replies.Returned 100000) ≡ codes "returned 100000")
    × (reply_text_of replies.Listed ≡ codes "listed")
    × (reply_text_of replies.Unlisted ≡ codes "unlisted")
    × (reply_text_of replies.Revoked ≡ codes "revoked")
    × (reply_text_of replies.Raised ≡ codes "raised")
    × (reply_text_of (replies.Imported (record { digests = 10; certificates = 2; components = 0; passed = 1 })) ≡ codes "imported 10 2 0 1")
    × (reply_text_of (replies.Proposed 1) ≡ codes "proposed 1")
    × (reply_text_of (replies.Confirmed (record { proposal = 1; counts = record { digests = 1; certificates = 1; components = 0; passed = 1 } }))
    ≡ codes "confirmed 1 1 1 0 1")
    × (reply_text_of (replies.Dropped 2) ≡ codes "dropped 2")
    × (reply_text_of (replies.Explained 12) ≡ codes "explained 12")
