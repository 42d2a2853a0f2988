use Rattle.std.proofs.Common.{◌≡◌, ◌++◌, [], ◌∷◌, Some, None, sym, ap, subst, ◌∙◌}
use Rattle.desk_history.specs.Tables.{tables}
use Rattle.store_reads.specs.Reads.{listed}
use Rattle.store_shown.specs.Lines.{calls_at, line_of}
use Rattle.store_shown.proofs.MinuteLemmas.{none_after, one_after}
use Rattle.store_shown.proofs.minute_lines.line_numbered.Goals as goal

pub returns-in_default-clause-value : goal.returns-in_default-clause-value
returns-in_default-clause-value g c clean inside =
    let did = c.in_ok-call.ensures.value clean inside in
    let none : c.in_ok-call.field-0 ≡ None = c.in_default.is in
    record {
      kept = did.kept;
      tells = λ owner cs history sees calls is.
          c.new-text.ensures.items
          ∙ sym (none_after owner cs calls (subst (λ n. calls_at (tables owner cs) n ≡ []) is (did.tells (tables owner cs) sees ∙ ap listed none)));
    }

pub returns-clause-value : goal.returns-clause-value
returns-clause-value g c clean inside =
    let did = c.in_ok-call.ensures.value clean inside in
    let call = c.in-Some.call in
    let some : c.in_ok-call.field-0 ≡ Some call = c.in-Some.is in
    record {
      kept = did.kept;
      tells = λ owner cs history sees calls is.
          c.in_ok-push_line.ensures ∙ ap (λ l. l ++ line_of call) c.new-text.ensures.items
          ∙ sym (one_after owner cs calls call (subst (λ n. calls_at (tables owner cs) n ≡ call ∷ []) is (did.tells (tables owner cs) sees ∙ ap listed some)));
    }
