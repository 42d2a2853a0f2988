-- Texts whose first line is no token.
use Rattle.std.proofs.Common.{◌≡◌, ℕ, ◌<◌, ◌&&◌, Bool, true, false, cond, leb, List, length, Option, None, Some, IfSome, refl}
use Rattle.std.proofs.lemmas.Bool.{and_left, and_right, lt-leb}
use Rattle.std.specs.List.{list_all}
use Rattle.sha2.specs.Sha256.{sha256}
use Rattle.desk_types.specs.Forms.{is_between}
use Rattle.desk_inputs.specs.Tokens.{HasNoToken, PassesTokens, first_line, is_token, token_in}

-- no token is so long
is_token-long : (line : List ℕ) → 128 < length line → is_token line ≡ false
is_token-long line long =
    let n = length line in
    let size : leb n 128 ≡ false = lt-leb n 128 long in
    and_left (leb 16 n && leb n 128) (list_all (is_between 33 126) line) (and_right (leb 16 n) (leb n 128) size)

-- a line that passes tokens is none
pub HasNoToken-long : (given : Option (List ℕ)) → IfSome given PassesTokens → IfSome given HasNoToken
HasNoToken-long None long = tt
HasNoToken-long (Some text) long = is_token-long (first_line text) long

-- a test that keeps nothing has failed
kept-none : (is : Bool) (kept : List ℕ) → None ≡ cond is (Some kept) None → is ≡ false
kept-none true kept none = cc
kept-none false kept none = refl

-- a line of which nothing is kept is no token
pub HasNoToken-none : (given : Option (List ℕ)) → IfSome given (λ text. None ≡ token_in text) → IfSome given HasNoToken
HasNoToken-none None none = tt
HasNoToken-none (Some text) none = kept-none (is_token (first_line text)) (sha256 (first_line text)) none
