-- SQL's equality of texts, blobs and integers, and the values that a cast to INTEGER leaves alone.
use Rattle.std.proofs.Common.{◌≡◌, ℕ, ℤ, pos, List, Bool, true, false, ◌&&◌, ◌==◌, Some, refl, sym, ap, ◌∙◌, bytes_eq, cond}
use Rattle.std.specs.Ordering.{is_eq, int_cmp}
use Rattle.std.proofs.lemmas.Map.Text.{is_eq-slice_cmp}
use Rattle.std.proofs.lemmas.Slice.Eq.{bytes_eq-Decides}
use Rattle.sqlite_value.specs.Order.{value_cmp}
use Rattle.sqlite_value.proofs.OrderLemmas.{value_cmp-Blob, value_cmp-Text, value_cmp-Int}
use Rattle.sqlite_sql.specs.declared.ops.BinaryOp.TheVariants.{Compare}
use Rattle.sqlite_sql.specs.declared.ops.CompareOp.TheVariants.{Eq}
use Rattle.sqlite.specs.Collation.TheVariants.{Binary}
use Rattle.sqlite.specs.Cast.{cast}
use Rattle.sqlite.specs.Kind.TheVariants.{Integer}
use Rattle.sqlite.specs.declared.types.Value.{Value}
use Rattle.sqlite.specs.declared.types.Value.TheVariants.{Null, Text, Blob, Int}
use Rattle.sqlite.specs.Ops.{binary, is_true, from_truth, unary}
use Rattle.std.proofs.Common.{arith}
use Rattle.std.proofs.lemmas.Bool.Decides.{nat_tests}

bare : (b : Bool) → is_true (from_truth (Some b)) ≡ b
bare true = refl
bare false = refl

and_true : (b : Bool) → (b && true) ≡ b
and_true true = refl
and_true false = refl

pub bytes_eq-comm : (a b : List ℕ) → bytes_eq a b ≡ bytes_eq b a
bytes_eq-comm a b =
    elim (bytes_eq a b) as (λ t. bytes_eq a b ≡ t → t ≡ bytes_eq b a) [
      | true ↦ λ e. sym ((bytes_eq-Decides b a).1 (sym ((bytes_eq-Decides a b).0 e)))
      | false ↦ λ e. elim (bytes_eq b a) as (λ t. bytes_eq b a ≡ t → false ≡ t) [
        | true ↦ λ f. sym e ∙ (bytes_eq-Decides a b).1 (sym ((bytes_eq-Decides b a).0 f))
        | false ↦ λ f. refl
      ] refl
    ] refl

pos_eq : (a b : ℕ) → is_eq (int_cmp (pos a) (pos b)) ≡ (b == a)
pos_eq a b = grind (arith, nat_tests)

-- of a column and a parameter
pub text_is : (x d : List ℕ) → is_true (binary (Compare Eq Binary) (Text x) (Text d)) ≡ bytes_eq d x
unfolding binary
text_is x d = bare (is_eq (value_cmp (Text x) (Text d))) ∙ ap is_eq (value_cmp-Text x d) ∙ is_eq-slice_cmp x d ∙ bytes_eq-comm x d

pub blob_is : (x d : List ℕ) → is_true (binary (Compare Eq Binary) (Blob x) (Blob d)) ≡ bytes_eq d x
unfolding binary
blob_is x d = bare (is_eq (value_cmp (Blob x) (Blob d))) ∙ ap is_eq (value_cmp-Blob x d) ∙ is_eq-slice_cmp x d ∙ bytes_eq-comm x d

pub int_is : (x d : ℕ) → is_true (binary (Compare Eq Binary) (Int (pos x)) (Int (pos d))) ≡ (d == x)
unfolding binary
int_is x d = bare (is_eq (value_cmp (Int (pos x)) (Int (pos d)))) ∙ ap is_eq (value_cmp-Int (pos x) (pos d)) ∙ pos_eq x d

-- the only condition, and the last of two
pub only : (a b : Bool) → a ≡ b → (a && true) ≡ b
only a b e = and_true a ∙ e

pub both : (a b c d : Bool) → a ≡ c → b ≡ d → (a && (b && true)) ≡ (c && d)
both a b c d e f = ap (λ x. x && (b && true)) e ∙ ap (λ x. c && x) (and_true b ∙ f)

-- ---- casts

either : (b : Bool) (x : Value) → cond b x x ≡ x
either true x = refl
either false x = refl

pub cast_null : cast Integer Null ≡ Null
unfolding unary
cast_null = either _ Null

pub cast_int : (n : ℤ) → cast Integer (Int n) ≡ Int n
unfolding unary
cast_int n = either _ (Int n)
