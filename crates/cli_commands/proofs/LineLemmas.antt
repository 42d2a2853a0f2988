-- A line that was written whole and then written out.
use Rattle.std.proofs.Common.{◌≡◌, ℕ, List, length, Option, Result, Ok, Err, OnErr, sym, subst, arith}
use Rattle.std.specs.Io.KnownBytes.{Appends, Keeps}
use Rattle.std.proofs.KnownBytes.{Appends-kept, Appends-nil}
use Rattle.std.proofs.lemmas.List.{take_all}
use Rattle.base.proofs.OutputLemmas.{AppendsBeginning-none}
use Rattle.base.specs.Output.{AppendsBeginning}
use Rattle.desk_history.specs.Calls.{History}
use Rattle.cli_output.proofs.LineLemmas.{AppendsBeginning-same}

-- all of it is a beginning
pub whole_kept : (a b c : Option (List ℕ)) (xs : List ℕ) → Appends a b xs → Keeps b c → AppendsBeginning a c xs
whole_kept a b c xs written kept =
    record {
      count = length xs;
      written = subst (Appends a c) (sym (take_all (length xs) xs (omega arith))) (Appends-kept a b c xs written kept);
    }

-- nothing of it is a beginning too
pub none_written : (a : Option (List ℕ)) (xs : List ℕ) → AppendsBeginning a a xs
none_written a xs = AppendsBeginning-none a a xs (Appends-nil a)

-- after a fault a beginning of a line was written: it is the line of each history that the desk
-- shows
pub OnErr-of_each : {T E : Type 0} (r : Result T E) (a b : Option (List ℕ)) (xs : List ℕ) (shown : List ℕ → History → Type 0) (line : List ℕ → History → List ℕ)
    → ((owner : List ℕ) (cs : History) → shown owner cs → xs ≡ line owner cs) → OnErr r (AppendsBeginning a b xs)
    → OnErr r ((owner : List ℕ) (cs : History) → shown owner cs → AppendsBeginning a b (line owner cs))
OnErr-of_each (Ok x) a b xs shown line is h = tt
OnErr-of_each (Err e) a b xs shown line is h = λ owner cs was. AppendsBeginning-same a b xs (line owner cs) (is owner cs was) h
