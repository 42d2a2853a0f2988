-- Tokens, which identify people over HTTP.
use Rattle.std.specs.Prelude.{◌≡◌, ◌⊎◌, ℕ, ◌+◌, ◌<◌, ◌==◌, ◌&&◌, Bool, false, nat_le, length, if◌then◌else◌}
use Rattle.std.specs.Prelude.{List, [], ◌∷◌, ◌++◌, Option, Some, None, slice_index}
use Rattle.std.specs.List.{list_all}
use Rattle.sha2.specs.Sha256.{sha256}
use Rattle.base.specs.Digests.{digest_of}
use Rattle.base.specs.Lines.{lines_of}
use Rattle.desk_types.specs.Forms.{is_between}

-- own: the fewest bytes of a token
abbrev pub shortest_token : ℕ
shortest_token = 16

-- own: the most bytes of a token
abbrev pub longest_token : ℕ
longest_token = 128

-- own: a token is 16 to 128 visible characters of ASCII
abbrev pub is_token : List ℕ → Bool
is_token text =
    nat_le shortest_token (length text) && nat_le (length text) longest_token && list_all (is_between 33 126) text

-- the last byte isn't a CR (13)
abbrev pub HasNoCrAtEnd : List ℕ → Type 0
HasNoCrAtEnd text = (last : ℕ) → last + 1 ≡ length text → (slice_index text last == 13) ≡ false

-- the text of a line without its LF: one CR at its end isn't part of the text
abbrev pub IsTextOf : List ℕ → List ℕ → Type 0
IsTextOf line text = (line ≡ text ++ 13 ∷ []) ⊎ ((line ≡ text) × HasNoCrAtEnd text)

-- the first of lines
abbrev pub first_of : List (List ℕ) → List ℕ
first_of [] = []
first_of (line ∷ lines) = line

-- the first line of a text, empty or not
abbrev pub first_line : List ℕ → List ℕ
first_line text = first_of (lines_of text)

-- the first line of a text isn't a token
abbrev pub HasNoToken : List ℕ → Type 0
HasNoToken text = is_token (first_line text) ≡ false

-- it has more bytes than any token
abbrev pub PassesTokens : List ℕ → Type 0
PassesTokens text = longest_token < length (first_line text)

-- own: the SHA-256 (FIPS 180-4) of a line that is a token, which the desk keeps
abbrev pub kept_of : List ℕ → Option (List ℕ)
kept_of line = if is_token line then Some (sha256 line) else None

-- the SHA-256 of the token in a text, which is its first line, if that is a token
abbrev pub token_in : List ℕ → Option (List ℕ)
token_in text = kept_of (first_line text)

-- the byte is a space (32)
abbrev pub is_space : ℕ → Bool
is_space b = b == 32

-- the bytes before the first space, or all of them
abbrev pub before_space : List ℕ → List ℕ
before_space [] = []
before_space (b ∷ bs) = if is_space b then [] else b ∷ before_space bs

-- the first line of a text, up to its first space
abbrev pub first_word : List ℕ → List ℕ
first_word text = before_space (first_line text)

-- it has more bytes than the digits of a SHA-256
abbrev pub PassesDigits : List ℕ → Type 0
PassesDigits text = 64 < length (first_word text)

-- own: the SHA-256 of a token that a text gives: its first line up to a space, 64 hexadecimal digits
-- of either case, as sha256sum writes it
abbrev pub given_digest : List ℕ → Option (List ℕ)
given_digest text = digest_of (first_word text)
