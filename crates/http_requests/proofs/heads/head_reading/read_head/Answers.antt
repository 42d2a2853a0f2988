use Rattle.std.proofs.Common.{rules, ◌≡◌, ◌∙◌, [], ◌∷◌, ◌++◌, arith, length-append, refl, sym, false, Some}
use Rattle.std.specs.List.{list_all}
use Rattle.http_requests.specs.heads.Heads.{TakesByte, is_line_break, may_end_head}
use Rattle.http_requests.proofs.HeadLemmas.{consumed_none, consumed_more, finds_head, finds_never, finds_long, no_request_in_nothing}
use Rattle.http_requests.proofs.EmptyLineLemmas.{blank_more, may_not_end, no_request_at}
use Rattle.http_requests.proofs.heads.head_reading.read_head.Goals as goal

pub loop-reader-init : goal.loop-reader-init
loop-reader-init g c =
    let nil : c.new-taken.result.items ≡ [] = search rules in
    record {
      short = search rules;
      consumed = rw nil (consumed_none (g.R.Read.remaining c.args.reader.now));
      none = rw nil no_request_in_nothing;
      blank = rw nil refl;
    }

pub returns-in-Whole-clause-found : goal.returns-in-Whole-clause-found
returns-in-Whole-clause-found g c =
    let kept = c.loop-reader.invariant in
    let pushed : c.push.new.self.items ≡ c.loop-reader.taken.items ++ c.in-Some.byte ∷ [] = search rules in
    let more = length-append c.loop-reader.taken.items (c.in-Some.byte ∷ []) in
    let took : TakesByte (g.R.Read.remaining c.loop-reader.reader) (g.R.Read.remaining c.read_byte.new.reader) (Some c.in-Some.byte) = rw c.in-Some.is at c.in_ok-byte.ensures.taken in
    let parsed = rw (c.as_slice-then-may_end_head.ensures.value, pushed) at c.in-Whole.ensures in
    finds_head _ _ _ _ _ c.in-Whole.spans (c.new.ensures ∙ pushed) kept.none (omega arith) (consumed_more _ _ _ _ _ kept.consumed took) parsed

pub loop-reader-preserved : goal.loop-reader-preserved
loop-reader-preserved g c =
    let kept = c.loop-reader.invariant in
    let pushed : c.push.new.self.items ≡ c.loop-reader.taken.items ++ c.in-Some.byte ∷ [] = search rules in
    let more = length-append c.loop-reader.taken.items (c.in-Some.byte ∷ []) in
    let took : TakesByte (g.R.Read.remaining c.loop-reader.reader) (g.R.Read.remaining c.read_byte.new.reader) (Some c.in-Some.byte) = rw c.in-Some.is at c.in_ok-byte.ensures.taken in
    let blank : c.is_blank-blank.result ≡ list_all is_line_break (c.loop-reader.taken.items ++ c.in-Some.byte ∷ []) =
    c.is_blank-blank.ensures ∙ blank_more c.loop-reader.blank c.loop-reader.taken.items c.in-Some.byte kept.blank in
    let looked : may_end_head c.is_blank-blank.result c.loop-reader.begun (c.loop-reader.taken.items ++ c.in-Some.byte ∷ []) ≡ false =
    rw (c.as_slice.ensures.value, pushed) at (sym c.may_end_head.ensures ∙ c.if-may_end_head.false) in
    record {
      short = rw pushed (omega arith);
      consumed = rw pushed (consumed_more _ _ _ _ _ kept.consumed took);
      none = rw pushed (no_request_at _ _ kept.none (may_not_end c.is_blank-blank.result c.loop-reader.begun _ blank looked));
      blank = rw pushed blank;
    }

pub returns-in-Never-clause-found : goal.returns-in-Never-clause-found
returns-in-Never-clause-found g c =
    let kept = c.loop-reader.invariant in
    let pushed : c.push.new.self.items ≡ c.loop-reader.taken.items ++ c.in-Some.byte ∷ [] = search rules in
    let more = length-append c.loop-reader.taken.items (c.in-Some.byte ∷ []) in
    let took : TakesByte (g.R.Read.remaining c.loop-reader.reader) (g.R.Read.remaining c.read_byte.new.reader) (Some c.in-Some.byte) = rw c.in-Some.is at c.in_ok-byte.ensures.taken in
    let over = rw (c.as_slice-then-may_end_head.ensures.value, pushed) at c.in-Never.ensures in
    finds_never _ _ _ (consumed_more _ _ _ _ _ kept.consumed took) (omega arith) over

pub returns-clause-found : goal.returns-clause-found
returns-clause-found g c = finds_long _ _ _ c.loop-reader.invariant.consumed c.loop-reader.invariant.none (omega arith)
