use Rattle.std.proofs.Common.{◌≡◌, ◌≢◌, ◌-◌, All, take, sym, ap, subst, ◌∙◌, inl, inr, rules, arith, eq-eqb, eqb-true, get_or-take, length-take-le, true≢false}
use Rattle.std.proofs.lemmas.List.Elements.{All-more}
use Rattle.std.specs.Io.BufRead.{FillKeeps, DropsConsumable}
use Rattle.std.proofs.BufReadLemmas.{Consumes_shown, zero_unless_positive}
use Rattle.std.proofs.Transfers.{StopsAt-take}
use Rattle.store_minutes.proofs.LineLemmas.{ends_line}
use Rattle.store_minutes.proofs.lines.LineWatch.append.Goals.{then-size-eq0, else-size-eq0}
use Rattle.store_minutes.proofs.lines.LineWatch.append.Goals as goal

pub returns-clause-taken : goal.returns-clause-taken
returns-clause-taken g c =
    let held = c.in-Ok.held.now in
    let size = c.size_of_line-size in
    let long = length-take-le size.result held size.ensures.bound in
    let rested = c.fill_buf.follows.lender-at-none in
    let filled = subst (FillKeeps _ (g.R.Read.remaining rested) (g.R.BufRead.consumable_len rested)) c.in-Ok.is c.fill_buf.follows.holds-at-none in
    let same : c.if-size-eq0.reader ≡ rested = search rules in
    let drops = subst (λ r. DropsConsumable (g.R.Read.remaining r) (g.R.Read.remaining c.consume.new.self) (g.R.BufRead.consumable_len r) size.result) same c.consume.ensures.bytes in
    let moved = Consumes_shown _ _ _ _ held size.result size.ensures.bound c.in-Ok.ensures.front c.in-Ok.ensures.end filled.0 filled.1 drops in
    record {
      piece = take size.result held;
      is = c.in-Ok-extend_from_slice.ensures.items;
      taken = moved.0;
      stops = StopsAt-take held 10 size.result size.ensures.bound size.ensures.before;
      goes_on = λ more. elim c.if-size-eq0.branch [
        | then-size-eq0 w ↦ absurd (true≢false (sym (w.is_done-is ∙ eq-eqb _ _ w.if-size-eq0.true) ∙ more))
        | else-size-eq0 w ↦ (
          omega (arith, long, w.if-size-eq0.false),
          subst (λ k. All (λ x. x ≢ 10) (take k held)) (omega (arith, w.if-size-eq0.false))
              (All-more (λ x. x ≢ 10) held (size.result - 1) 0 (omega (arith, w.if-size-eq0.false, size.ensures.bound)) size.ensures.before
              (λ e. true≢false (sym (w.is_done-is ∙ eq-eqb _ _ e) ∙ more))),
        )
      ];
      ends = λ done. elim c.if-size-eq0.branch [
        | then-size-eq0 w ↦ inr (
          (let none = w.if-size-eq0.true in ap (λ n. take n held) none),
          moved.1 (zero_unless_positive _ _ size.ensures.some w.if-size-eq0.true),
        )
        | else-size-eq0 w ↦ inl (ends_line (take size.result held) size.result (sym long) (omega (arith, w.if-size-eq0.false))
            (get_or-take size.result held (size.result - 1) 0 (omega (arith, w.if-size-eq0.false)) ∙ eqb-true _ _ (sym w.is_done-is ∙ done)))
      ];
    }
