-- Ranges of a source that are hashed one after another.
use Rattle.std.proofs.Common.{◌≡◌, ℕ, ◌+◌, ◌<◌, ◌≤◌, Bool, true, false, cond, List, ◌∷◌, ◌++◌, slice_range, length, take, drop, Option, Some, None, refl, sym, ap, ◌∙◌, subst, append_assoc, arith}
use Rattle.std.specs.Prelude.{not, replicate}
use Rattle.std.specs.Option.{is_some}
use Rattle.std.proofs.Math.Seq.{take-append_seam}
use Rattle.std.proofs.lemmas.List.{length-take-le, take-replicate}
use Rattle.sha2.specs.Hashers.{Holds256}
use Rattle.sha2.specs.declared.Sha256.{Sha256}
use Rattle.pe_image.specs.Hashed.{hashed_bytes}
use Rattle.pe_image.specs.Image.{has_table, table_offset, table_size}
use Rattle.pe_image.specs.Places.{Places, places_of}
use Rattle.pe_image.specs.Spans.{bytes_at, span}
use Rattle.pe_image.specs.declared.span.Span.{Span}
use Rattle.pe_image.proofs.SpanLemmas.{slice_range-join}
use Rattle.authenticode.specs.Hashing.{padding_of, signed_bytes}

-- ---- blocks of a range

-- the bytes that a read put into the front of a block
pub block_read : (content file out block : List ℕ) (at size : ℕ) → content ≡ file → size ≤ length block
    → out ≡ slice_range content at (at + length (take size block)) → out ≡ slice_range file at (at + size)
block_read content file out block at size same fits is =
    is ∙ ap (λ k. slice_range content at (at + k)) (length-take-le size block fits) ∙ ap (λ f. slice_range f at (at + size)) same

-- the front of a block after a read
pub block_front : (out block : List ℕ) (size : ℕ) → length out ≡ size → take size (out ++ drop size block) ≡ out
block_front out block size wide = ap (λ k. take k (out ++ drop size block)) (sym wide) ∙ take-append_seam out (drop size block)

-- the block after what was fed already
pub block_fed : (file out block : List ℕ) (from at size : ℕ) → out ≡ slice_range file at (at + size) → length out ≡ size
    → from ≤ at → at + size ≤ length file → slice_range file from at ++ take size (out ++ drop size block) ≡ slice_range file from (at + size)
block_fed file out block from at size read wide after fits =
    ap (λ l. slice_range file from at ++ l) (block_front out block size wide ∙ read) ∙ slice_range-join file from at (at + size) after (omega arith) (omega arith)

-- ---- ranges

-- the hasher holds the bytes before the ranges that are left, of a message that ends with these
pub record Feeds (hasher : Sha256) (f : List ℕ) (left : List Span) (message : List ℕ) : Type 0 where
  pub fed : List ℕ
  pub held : Holds256 hasher fed
  pub whole : fed ++ bytes_at f left ≡ message

pub Feeds-next : (hasher next : Sha256) (f : List ℕ) (s : Span) (rest : List Span) (message : List ℕ) → Feeds hasher f (s ∷ rest) message
    → ((m : List ℕ) → Holds256 hasher m → Holds256 next (m ++ slice_range f s.from s.to)) → Feeds next f rest message
Feeds-next hasher next f s rest message h more = record {
  fed = h.fed ++ slice_range f s.from s.to;
  held = more h.fed h.held;
  whole = append_assoc h.fed (slice_range f s.from s.to) (bytes_at f rest) ∙ h.whole;
}

-- ---- the bytes to be signed

told : {X : Type 0} (b : Bool) (x : X) → is_some (cond b (Some x) None) ≡ b
told true x = refl
told false x = refl

-- a layout has a table exactly if its file has one
pub has_table-told : (f : List ℕ) (p : Places) (table : Option Span) (none : Bool) → p ≡ places_of f → table ≡ p.table
    → is_some table ≡ not none → has_table f ≡ not none
unfolding places_of
has_table-told f p table none places is test =
    sym (told (has_table f) (span (table_offset f) (table_offset f + table_size f))) ∙ ap (λ (q : Places). is_some q.table) (sym places) ∙ ap is_some (sym is) ∙ test

pub Holds-signed : (hasher : Sha256) (f : List ℕ) → has_table f ≡ true → Holds256 hasher (hashed_bytes f) → Holds256 hasher (signed_bytes f)
Holds-signed hasher f table held =
    let is : signed_bytes f ≡ hashed_bytes f = rw table refl in
    subst (Holds256 hasher) (sym is) held

pub Holds-padded : (hasher : Sha256) (f : List ℕ) (count : ℕ) → has_table f ≡ false → count ≡ padding_of (length f) → count < 8
    → Holds256 hasher (hashed_bytes f ++ take count (replicate 8 0)) → Holds256 hasher (signed_bytes f)
Holds-padded hasher f count table is few held =
    let zeros : take count (replicate 8 0) ≡ replicate (padding_of (length f)) 0 = take-replicate count 8 0 (omega arith) ∙ ap (λ n. replicate n 0) is in
    let whole : signed_bytes f ≡ hashed_bytes f ++ replicate (padding_of (length f)) 0 = rw table refl in
    subst (Holds256 hasher) (ap (λ z. hashed_bytes f ++ z) zeros ∙ sym whole) held
