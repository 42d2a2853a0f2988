-- What the subcommands without a desk write.
use Rattle.std.proofs.Common.{ℕ, List, length, Option, None, Some, IfSome, sym, subst, arith}
use Rattle.std.specs.Io.KnownBytes.{Appends, Keeps}
use Rattle.std.proofs.KnownBytes.{Appends-kept}
use Rattle.std.proofs.lemmas.List.{take_all}
use Rattle.base.specs.Output.{AppendsBeginning}
use Rattle.siglist.specs.Packing.{IsPacked}
use Rattle.cli_arguments.specs.Alone.{PacksKnown}

-- bytes that were written whole, and then perhaps not written out, are a beginning
pub whole_kept : (a b c : Option (List ℕ)) (xs : List ℕ) → Appends a b xs → Keeps b c → AppendsBeginning a c xs
whole_kept a b c xs written kept =
    record {
      count = length xs;
      written = subst (Appends a c) (sym (take_all (length xs) xs (omega arith))) (Appends-kept a b c xs written kept);
    }

-- the same of a list that was packed
pub packed_kept : (owner : List ℕ) (given : Option (List ℕ)) (count : ℕ) (a b c : Option (List ℕ)) → IfSome given (λ text. IsPacked owner text count a b)
    → Keeps b c → PacksKnown owner given (AppendsBeginning a c)
packed_kept owner None count a b c packs kept = tt
packed_kept owner (Some text) count a b c packs kept =
    record { digests = packs.digests; packs = packs.packs; written = whole_kept a b c _ packs.out kept }
