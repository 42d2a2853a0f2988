-- The hashed ranges, in passes over the file.
use Rattle.std.specs.Prelude.{ℕ, ◌-◌, ◌==◌, if◌then◌else◌, List, length, take, drop}
use Rattle.pe_image.specs.Places.{Places, spans_of}
use Rattle.pe_image.specs.declared.span.Span.{Span}

-- own: the number of ranges that one pass reads in order: all, or, if there is a gap, all but the
-- last, which begins before the sections end
abbrev pub in_first_pass : Places → ℕ
in_first_pass p = if p.gap == 0 then length (spans_of p) else length (spans_of p) - 1

-- those ranges
abbrev pub first_pass_of : Places → List Span
first_pass_of p = take (in_first_pass p) (spans_of p)

-- the ranges that are left for a second pass
abbrev pub second_pass_of : Places → List Span
second_pass_of p = drop (in_first_pass p) (spans_of p)
