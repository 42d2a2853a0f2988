-- Lines of minutes, compared one after another.
use Rattle.std.proofs.Common.{◌≡◌, ◌≢◌, ℕ, zero, suc, ◌+◌, ◌≤◌, List, [], ◌∷◌, ◌++◌, codes, decimal, length, take, drop, Option, Some, None, refl, sym, ap, subst, ◌∙◌, append-nil, append_assoc, length-append, take_all, arith}
use Rattle.std.specs.Prelude.{flat_map, reverse}
use Rattle.std.specs.Io.KnownBytes.{Consumes, IsAtEnd}
use Rattle.std.proofs.KnownBytes.{Consumes-nil, Consumes-trans}
use Rattle.std.proofs.lemmas.List.{length-reverse}
use Rattle.std.proofs.lemmas.List.Concat.{flat_map-append}
use Rattle.desk_types.specs.Callers.{caller_name}
use Rattle.desk_types.specs.ReplyTexts.{reply_text_of}
use Rattle.desk_history.specs.Calls.{History}
use Rattle.desk_history.specs.Replies.{minutes}
use Rattle.desk_history.specs.declared.rows.Minute.{Minute}
use Rattle.desk_exports.specs.Exports.{minute_line, minutes_text}
use Rattle.desk_exports.specs.MinutesShown.{first_lines}
use Rattle.store_shown.specs.Lines.{line_after}
use Rattle.store_minutes.specs.Lines.{TakesLine}
use Rattle.store_minutes.specs.Starts.{Start}
use Rattle.store_minutes.specs.declared.auditing.AuditFault.{AuditFault}
use Rattle.store_minutes.specs.declared.auditing.AuditFault.TheVariants as audits
use Rattle.store_minutes.specs.declared.comparing.Compared.{Compared}
use Rattle.store_minutes.specs.declared.comparing.Compared.TheVariants as compared
use Rattle.store_minutes.specs.Comparing.{DiffersAt, HasAll, IsBeginning}

-- ---- the lines after so many

take_none : {X : Type 0} (n : ℕ) → ◌≡◌ {A = List X} (take n []) []
take_none zero = refl
take_none (suc n) = refl

take_zero : {X : Type 0} (xs : List X) → ◌≡◌ {A = List X} (take 0 xs) []
take_zero [] = refl
take_zero (x ∷ xs) = refl

take_next : {X : Type 0} (k : ℕ) (xs : List X) → take k xs ++ take 1 (drop k xs) ≡ take (k + 1) xs
take_next zero [] = refl
take_next zero (x ∷ xs) = refl
take_next (suc k) [] = sym (take_none (suc k + 1))
take_next (suc k) (x ∷ xs) = ap (λ l. x ∷ l) (take_next k xs) ∙ (let same : suc (k + 1) ≡ suc k + 1 = omega arith in ap (λ n. take n (x ∷ xs)) same)

-- a line has a line break
some_line : (m : Minute) (rest : List ℕ) → minute_line m ++ rest ≡ [] → ⊥
some_line m rest e =
    let text = decimal m.number ++ codes "\t" ++ caller_name m.caller ++ codes "\t" ++ m.key ++ codes "\t" ++ m.text ++ codes "\t" ++ reply_text_of m.reply in
    let long : length (minute_line m ++ rest) ≡ length (minute_line m) + length rest = length-append (minute_line m) rest in
    let broken : length (minute_line m) ≡ length text + 1 = length-append text (codes "\n") in
    let none : length (minute_line m ++ rest) ≡ 0 = ap length e in
    absurd (omega (arith, long, broken, none))

no_line : (k : ℕ) (ms : List Minute) → flat_map minute_line (take 1 (drop k ms)) ≡ [] → length ms ≤ k
no_line zero [] e = omega arith
no_line zero (m ∷ ms) e = absurd (some_line m _ e)
no_line (suc k) [] e = omega arith
no_line (suc k) (m ∷ ms) e = let rest = no_line k ms e in omega (arith, rest)

a_line : (k : ℕ) (ms : List Minute) → flat_map minute_line (take 1 (drop k ms)) ≢ [] → k + 1 ≤ length ms
a_line zero [] e = absurd (e refl)
a_line zero (m ∷ ms) e = omega arith
a_line (suc k) [] e = absurd (e refl)
a_line (suc k) (m ∷ ms) e = let rest = a_line k ms e in omega (arith, rest)

minutes_length : (cs : History) → length (minutes cs) ≡ length cs
minutes_length [] = refl
minutes_length (i ∷ cs) = ap suc (minutes_length cs)

long : (cs : History) → length (reverse (minutes cs)) ≡ length cs
long cs = length-reverse (minutes cs) ∙ minutes_length cs

first_none : (cs : History) → first_lines cs 0 ≡ []
first_none cs = ap (flat_map minute_line) (take_zero (reverse (minutes cs)))

first_more : (cs : History) (k : ℕ) → first_lines cs k ++ line_after cs k ≡ first_lines cs (k + 1)
first_more cs k = sym (flat_map-append minute_line (take k (reverse (minutes cs))) (take 1 (drop k (reverse (minutes cs))))) ∙ ap (flat_map minute_line) (take_next k (reverse (minutes cs)))

first_all : (cs : History) (k : ℕ) → length cs ≤ k → first_lines cs k ≡ minutes_text cs
first_all cs k few = let same = long cs in let most : length (reverse (minutes cs)) ≤ k = omega (arith, few, same) in ap (flat_map minute_line) (take_all k (reverse (minutes cs)) most)

pub one_more : (cs : History) (k : ℕ) → line_after cs k ≢ [] → k + 1 ≤ length cs
one_more cs k some = let same = long cs in let most = a_line k (reverse (minutes cs)) some in omega (arith, same, most)

-- ---- the lines that were compared

-- none yet
pub none_given : (s : Start) (left : Option (List ℕ)) → left ≡ Some s.bytes → Consumes (Some s.bytes) left (first_lines s.earlier 0)
none_given s left is = subst (Consumes (Some s.bytes) left) (sym (first_none s.earlier)) (subst (λ o. Consumes (Some s.bytes) o []) (sym is) (Consumes-nil (Some s.bytes)))

-- one more, which is the desk's
pub more_given : (s : Start) (calls : ℕ) (mid now : Option (List ℕ)) (line own : List ℕ) → Consumes (Some s.bytes) mid (first_lines s.earlier calls) → TakesLine mid now line
    → line ≡ own → own ≡ line_after s.earlier calls → Consumes (Some s.bytes) now (first_lines s.earlier (calls + 1))
more_given s calls mid now line own given t same is =
    subst (Consumes (Some s.bytes) now) (ap (λ l. first_lines s.earlier calls ++ l) (same ∙ is) ∙ first_more s.earlier calls)
    (Consumes-trans (Some s.bytes) mid now (first_lines s.earlier calls) line given t.taken)

-- one that isn't
pub differs_at : (s : Start) (calls : ℕ) (mid now : Option (List ℕ)) (line own : List ℕ) → Consumes (Some s.bytes) mid (first_lines s.earlier calls) → TakesLine mid now line
    → own ≡ line_after s.earlier calls → own ≢ [] → line ≢ own → DiffersAt s (calls + 1)
differs_at s calls None now line own given t is some differs = absurd given
differs_at s calls (Some left) None line own given t is some differs = absurd t.taken
differs_at s calls (Some left) (Some rest) line own given t is some differs = record {
  calls = calls;
  count = refl;
  line = line;
  after = rest;
  parts = given ∙ ap (λ l. first_lines s.earlier calls ++ l) t.taken ∙ sym (append_assoc (first_lines s.earlier calls) line rest);
  one = t.one;
  ends = t.ends;
  more = λ none. some (is ∙ none);
  differs = λ same. differs (same ∙ sym is);
}

-- all of the desk's
pub all_given : (s : Start) (calls : ℕ) (left : Option (List ℕ)) (own : List ℕ) → Consumes (Some s.bytes) left (first_lines s.earlier calls) → calls ≤ length s.earlier
    → own ≡ line_after s.earlier calls → own ≡ [] → HasAll s calls left
all_given s calls left own given most is none =
    let same = long s.earlier in
    let few = no_line calls (reverse (minutes s.earlier)) (sym is ∙ none) in
    record {
      count = omega (arith, same, few, most);
      given = subst (Consumes (Some s.bytes) left) (first_all s.earlier calls (omega (arith, same, few))) given;
    }

-- all of the reader's
pub beginning_given : (s : Start) (calls : ℕ) (left : Option (List ℕ)) → Consumes (Some s.bytes) left (first_lines s.earlier calls) → IsAtEnd left → IsBeginning s
beginning_given s calls None given end = absurd given
beginning_given s calls (Some left) given end = (calls, given ∙ ap (λ l. first_lines s.earlier calls ++ l) end ∙ append-nil (first_lines s.earlier calls))

pub same_calls : (a b : ℕ) → ◌≡◌ {A = Compared} (compared.All a) (compared.All b) → a ≡ b
same_calls a b e = cc

pub same_line : (a b : ℕ) → ◌≡◌ {A = AuditFault} (audits.Line a) (audits.Line b) → a ≡ b
same_line a b e = cc

pub no_items : {X : Type 0} (xs : List X) → length xs ≡ 0 → xs ≡ []
no_items [] h = refl
no_items (x ∷ xs) h = absurd (omega (arith, h))

pub some_items : {X : Type 0} (xs : List X) → length xs ≢ 0 → xs ≢ []
some_items xs some e = some (ap length e)
