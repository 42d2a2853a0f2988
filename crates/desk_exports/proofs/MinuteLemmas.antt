-- The minutes of histories that go on.
use Rattle.std.proofs.Common.{◌≡◌, ℕ, List, [], ◌∷◌, ◌++◌, sym, ◌∙◌, ap, subst, append_assoc, append-nil}
use Rattle.std.specs.Prelude.{reverse}
use Rattle.std.specs.List.{flat_map}
use Rattle.std.proofs.lemmas.List.{reverse-append}
use Rattle.std.proofs.lemmas.List.Concat.{flat_map-append}
use Rattle.desk_history.specs.Calls.{History, Item}
use Rattle.desk_history.specs.Replies.{minute_of, minutes}
use Rattle.desk_exports.specs.Exports.{minute_line, minutes_text}
use Rattle.desk_exports.specs.Laws.{MinutesGoOn}

-- one call more is one line more
one_line : (cs : History) (i : Item) → minutes_text (i ∷ cs) ≡ minutes_text cs ++ flat_map minute_line (minute_of cs i ∷ [])
one_line cs i =
    ap (flat_map minute_line) (reverse-append (minute_of cs i ∷ []) (minutes cs))
    ∙ flat_map-append minute_line (reverse (minutes cs)) (minute_of cs i ∷ [])

begin : (cs new : History) → (more : List ℕ) × (minutes_text (new ++ cs) ≡ minutes_text cs ++ more)
begin cs [] = ([], sym (append-nil (minutes_text cs)))
begin cs (i ∷ new) =
    let before = begin cs new in
    let line = flat_map minute_line (minute_of (new ++ cs) i ∷ []) in (
      before.0 ++ line,
      one_line (new ++ cs) i ∙ ap (λ t. t ++ line) before.1 ∙ append_assoc (minutes_text cs) before.0 line,
    )

pub minutes_go_on : MinutesGoOn
minutes_go_on earlier later more = subst (λ (l : History). (m : List ℕ) × (minutes_text l ≡ minutes_text earlier ++ m)) (sym more.1) (begin earlier more.0)
