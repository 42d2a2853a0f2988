-- own: the values of JSON members, in their forms.
use Rattle.std.specs.Prelude.{ℕ, List, bytes_eq, if◌then◌else◌, Option, Some, None, option_and_then}
use Rattle.serde_json.specs.Data.{Data}
use Rattle.serde_json.specs.Find.{as_number, as_str, as_u64}
use Rattle.sbat.specs.Fields.{is_name, is_generation, is_stamp}
use Rattle.base.specs.Digests.{digest_of}
use Rattle.desk_types.specs.Forms.{is_note, is_reason}
use Rattle.desk_types.specs.Words.{vote_text, kind_text}
use Rattle.desk_types.specs.declared.vote.Vote.{Vote}
use Rattle.desk_types.specs.declared.vote.Vote.TheVariants as vote
use Rattle.desk_types.specs.declared.kind.ListedKind.{ListedKind}
use Rattle.desk_types.specs.declared.kind.ListedKind.TheVariants as kind

-- the digest that a text of 64 hexadecimal digits of either case spells
abbrev pub digest_in : Data → Option (List ℕ)
digest_in d = option_and_then digest_of (as_str d)

-- the vote of a word
abbrev pub vote_of : List ℕ → Option Vote
vote_of text =
    if bytes_eq text (vote_text vote.Yes) then Some vote.Yes
    else (if bytes_eq text (vote_text vote.No) then Some vote.No else None)

-- the vote in a value
abbrev pub vote_in : Data → Option Vote
vote_in d = option_and_then vote_of (as_str d)

-- the kind of a word
abbrev pub kind_of : List ℕ → Option ListedKind
kind_of text =
    if bytes_eq text (kind_text kind.Digest) then Some kind.Digest
    else (if bytes_eq text (kind_text kind.Certificate) then Some kind.Certificate else None)

-- the kind in a value
abbrev pub kind_in : Data → Option ListedKind
kind_in d = option_and_then kind_of (as_str d)

-- a text in the form of a note
abbrev pub note_of : List ℕ → Option (List ℕ)
note_of text = if is_note text then Some text else None

-- the note in a value
abbrev pub note_in : Data → Option (List ℕ)
note_in d = option_and_then note_of (as_str d)

-- a text in the form of a reason
abbrev pub reason_of : List ℕ → Option (List ℕ)
reason_of text = if is_reason text then Some text else None

-- the reason in a value
abbrev pub reason_in : Data → Option (List ℕ)
reason_in d = option_and_then reason_of (as_str d)

-- a text in the form of a component's name
abbrev pub name_of : List ℕ → Option (List ℕ)
name_of text = if is_name text then Some text else None

-- the name in a value
abbrev pub name_in : Data → Option (List ℕ)
name_in d = option_and_then name_of (as_str d)

-- a whole number, written only as an integer: no fraction, no exponent, no sign
abbrev pub whole_in : Data → Option ℕ
whole_in d = option_and_then as_u64 (as_number d)

-- the generation in a value
abbrev pub generation_in : Data → Option ℕ
generation_in d = option_and_then (λ n. if is_generation n then Some n else None) (whole_in d)

-- the stamp in a value
abbrev pub stamp_in : Data → Option ℕ
stamp_in d = option_and_then (λ n. if is_stamp n then Some n else None) (whole_in d)
