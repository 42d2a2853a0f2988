-- Lines of minutes, told apart.
use Rattle.std.proofs.Common.{◌≡◌, ℕ, ◌∙◌, true, false, List, [], ◌∷◌, ◌++◌, Err, length, decimal, refl, sym, ap, append_assoc, arith}
use Rattle.std.specs.Prelude.{IsErrOf, bytes_eq, codes}
use Rattle.sbat.specs.Fields.{decimal_of}
use Rattle.desk_types.specs.Callers.{caller_name}
use Rattle.desk_types.specs.Commands.{IsCount}
use Rattle.desk_types.specs.CommandTexts.{text_of}
use Rattle.desk_types.specs.Forms.{is_between}
use Rattle.desk_types.specs.ReplyTexts.{reply_text_of}
use Rattle.desk_types.specs.declared.caller.Caller.{Caller}
use Rattle.desk_types.specs.declared.command.Call.{Call}
use Rattle.desk_types.specs.declared.command.Command.{Command}
use Rattle.desk_types.specs.declared.reply.Reply.{Reply}
use Rattle.desk_types.proofs.FieldLemmas.{free-append, free-by}
use Rattle.desk_types.proofs.FormLemmas.{printable-key}
use Rattle.desk_types.proofs.ReadingLemmas.{text_of-same}
use Rattle.desk_types.proofs.ReplyLemmas.{reply_text_of-same}
use Rattle.desk_types.proofs.SpaceLemmas.{cut_once, cut_whole}
use Rattle.desk_types.proofs.ValueLemmas.{decimal_read}
use Rattle.desk_history.specs.Called.{called}
use Rattle.desk_history.proofs.CallerLemmas.{same_caller}
use Rattle.desk_history.proofs.ListLemmas.{bytes_eq-refl}
use Rattle.desk_minutes.specs.Fields.{AreFields, IsCallOf, is_without, spelt}
use Rattle.desk_minutes.specs.Lines.{IsTold, LinesDiffer, line_with}
use Rattle.desk_minutes.proofs.PrintableLemmas.{is_printable, printable-caller, printable-command, printable-decimal, printable-reply}

-- ---- a text that is split at a byte

abbrev pub IsCut : ℕ → List ℕ → List ℕ → List ℕ → Type 0
IsCut byte text first rest = (text ≡ first ++ (byte ∷ rest)) × (is_without byte first ≡ true)

-- there is no other way to split it
pub cut_same : (byte : ℕ) (text first rest a b : List ℕ) → IsCut byte text first rest → is_without byte a ≡ true → text ≡ a ++ (byte ∷ b) → (first ≡ a) × (rest ≡ b)
cut_same byte text first rest a b cut free same = cut_once byte first rest a b cut.1 free (sym cut.0 ∙ same)

-- and a text without the byte isn't split
pub uncut : (byte : ℕ) (text a b : List ℕ) → is_without byte text ≡ true → text ≡ a ++ (byte ∷ b) → ⊥
uncut byte text a b free same = cut_whole byte a b (ap (is_without byte) (sym same) ∙ free)

-- ---- the fields of a line

pub record SameFields (n c k t r m d l u s more rest : List ℕ) : Type 0 where
  pub number : n ≡ m
  pub caller : c ≡ d
  pub key : k ≡ l
  pub text : t ≡ u
  pub reply : r ≡ s
  pub behind : more ≡ rest

-- a line, and what follows, one field in the other
abbrev grouped : List ℕ → List ℕ → List ℕ → List ℕ → List ℕ → List ℕ → List ℕ
grouped n c k t r more = n ++ (9 ∷ (c ++ (9 ∷ (k ++ (9 ∷ (t ++ (9 ∷ (r ++ (10 ∷ more)))))))))

pub spelt-before : (n c k t r more : List ℕ) → spelt n c k t r ++ more ≡ n ++ (9 ∷ (c ++ (9 ∷ (k ++ (9 ∷ (t ++ (9 ∷ (r ++ (10 ∷ more)))))))))
spelt-before n c k t r more = simp append_assoc

pub spelt-alone : (n c k t r : List ℕ) → spelt n c k t r ≡ n ++ (9 ∷ (c ++ (9 ∷ (k ++ (9 ∷ (t ++ (9 ∷ (r ++ (10 ∷ [])))))))))
spelt-alone n c k t r = simp append_assoc

grouped_same : (n c k t r m d l u s more rest : List ℕ) → AreFields n c k t r → AreFields m d l u s → grouped n c k t r more ≡ grouped m d l u s rest
    → SameFields n c k t r m d l u s more rest
grouped_same n c k t r m d l u s more rest f g same =
    let one = cut_once 9 n (c ++ (9 ∷ (k ++ (9 ∷ (t ++ (9 ∷ (r ++ (10 ∷ more)))))))) m (d ++ (9 ∷ (l ++ (9 ∷ (u ++ (9 ∷ (s ++ (10 ∷ rest)))))))) f.number_ends g.number_ends same in
    let two = cut_once 9 c (k ++ (9 ∷ (t ++ (9 ∷ (r ++ (10 ∷ more)))))) d (l ++ (9 ∷ (u ++ (9 ∷ (s ++ (10 ∷ rest)))))) f.caller_ends g.caller_ends one.1 in
    let three = cut_once 9 k (t ++ (9 ∷ (r ++ (10 ∷ more)))) l (u ++ (9 ∷ (s ++ (10 ∷ rest)))) f.key_ends g.key_ends two.1 in
    let four = cut_once 9 t (r ++ (10 ∷ more)) u (s ++ (10 ∷ rest)) f.text_ends g.text_ends three.1 in
    let five = cut_once 10 r more s rest f.reply_ends g.reply_ends four.1 in
    record { number = one.0; caller = two.0; key = three.0; text = four.0; reply = five.0; behind = five.1 }

pub fields_same : (n c k t r m d l u s more rest : List ℕ) → AreFields n c k t r → AreFields m d l u s → spelt n c k t r ++ more ≡ spelt m d l u s ++ rest
    → SameFields n c k t r m d l u s more rest
fields_same n c k t r m d l u s more rest f g same =
    grouped_same n c k t r m d l u s more rest f g (sym (spelt-before n c k t r more) ∙ same ∙ spelt-before m d l u s rest)

nothing : (xs : List ℕ) → length xs ≡ 0 → xs ≡ []
nothing [] h = refl
nothing (x ∷ xs) h = absurd (omega arith)

-- a line that was split field by field
pub fields_join : (line n line1 c line2 k line3 t line4 r line5 : List ℕ) → line ≡ n ++ (9 ∷ line1) → line1 ≡ c ++ (9 ∷ line2) → line2 ≡ k ++ (9 ∷ line3)
    → line3 ≡ t ++ (9 ∷ line4) → line4 ≡ r ++ (10 ∷ line5) → length line5 ≡ 0 → line ≡ spelt n c k t r
fields_join line n line1 c line2 k line3 t line4 r line5 a b d e f g =
    a
    ∙ ap (λ l. n ++ (9 ∷ l)) (b ∙ ap (λ l. c ++ (9 ∷ l)) (d ∙ ap (λ l. k ++ (9 ∷ l)) (e ∙ ap (λ l. t ++ (9 ∷ l)) (f ∙ ap (λ l. r ++ (10 ∷ l)) (nothing line5 g)))))
    ∙ sym (spelt-alone n c k t r)

-- ---- the line of a call

without : (byte : ℕ) → is_between 32 126 byte ≡ false → (text : List ℕ) → is_printable text ≡ true → is_without byte text ≡ true
without byte outside text h = free-by (is_between 32 126) byte outside text h

pub told_fields : (n : ℕ) (c : Call) (given : Reply) → IsCount n → IsTold c given → AreFields (decimal n) (caller_name c.caller) c.key (text_of c.command) (reply_text_of given)
told_fields n c given small h = record {
  number_ends = without 9 refl (decimal n) (printable-decimal n small).bytes;
  caller_ends = without 9 refl (caller_name c.caller) (printable-caller c.caller h.call.caller).bytes;
  key_ends = without 9 refl c.key (printable-key c.key h.call.key);
  text_ends = without 9 refl (text_of c.command) (printable-command c.command h.call.forms).bytes;
  reply_ends = without 10 refl (reply_text_of given) (printable-reply given h.reply).bytes;
}

-- and no line break before its end
pub told_body : (n : ℕ) (c : Call) (given : Reply) → IsCount n → IsTold c given
    → is_without 10 (decimal n ++ codes "\t" ++ caller_name c.caller ++ codes "\t" ++ c.key ++ codes "\t" ++ text_of c.command ++ codes "\t" ++ reply_text_of given) ≡ true
told_body n c given small h =
    let number = decimal n in
    let caller = number ++ codes "\t" ++ caller_name c.caller in
    let key = caller ++ codes "\t" ++ c.key in
    let text = key ++ codes "\t" ++ text_of c.command in
    let one = field number (caller_name c.caller) (without 10 refl number (printable-decimal n small).bytes) (without 10 refl (caller_name c.caller) (printable-caller c.caller h.call.caller).bytes) in
    let two = field caller c.key one (without 10 refl c.key (printable-key c.key h.call.key)) in
    let three = field key (text_of c.command) two (without 10 refl (text_of c.command) (printable-command c.command h.call.forms).bytes) in
    field text (reply_text_of given) three (without 10 refl (reply_text_of given) (printable-reply given h.reply).bytes)
  where
    field : (before next : List ℕ) → is_without 10 before ≡ true → is_without 10 next ≡ true → is_without 10 (before ++ codes "\t" ++ next) ≡ true
    field before next h k = free-append 10 (before ++ codes "\t") next (free-append 10 before (codes "\t") h refl) k

pub call_same : (a d : Caller) (b e : List ℕ) (c f : Command) → a ≡ d → b ≡ e → c ≡ f → called a b c ≡ called d e f
call_same a d b e c f h k l = cc

pub lines_differ : LinesDiffer
lines_differ m n c d r s more rest small few h k same =
    let one = fields_same _ _ _ _ _ _ _ _ _ _ more rest (told_fields m c r small h) (told_fields n d s few k) same in
    record {
      same_number = sym (decimal_read m small) ∙ ap decimal_of one.number ∙ decimal_read n few;
      same_call = call_same c.caller d.caller c.key d.key c.command d.command (same_caller c.caller d.caller h.own k.own one.caller) one.key (text_of-same c.command d.command h.call.forms k.call.forms one.text);
      same_reply = reply_text_of-same r s h.reply k.reply one.reply;
      same_rest = one.behind;
    }

-- the same of lines alone
pub line_same : (n : ℕ) (c d : Call) (r s : Reply) → IsCount n → IsTold c r → IsTold d s → line_with n c r ≡ line_with n d s → (c ≡ d) × (r ≡ s)
line_same n c d r s small h k same =
    let one = lines_differ n n c d r s [] [] small small h k (ap (λ l. l ++ []) same) in
    (one.same_call, one.same_reply)

-- the fields that were read of a line are those of the call
pub read_same : (n : ℕ) (c : Call) (given : Reply) (number caller key text reply : List ℕ) → IsCount n → IsTold c given → AreFields number caller key text reply
    → spelt number caller key text reply ≡ line_with n c given
    → SameFields number caller key text reply (decimal n) (caller_name c.caller) c.key (text_of c.command) (reply_text_of given) [] []
read_same n c given number caller key text reply small h fields same =
    fields_same number caller key text reply (decimal n) (caller_name c.caller) c.key (text_of c.command) (reply_text_of given) [] [] fields (told_fields n c given small h) (ap (λ l. l ++ []) same)

pub call_is : (c : Call) (number caller key text reply m s : List ℕ) → SameFields number caller key text reply m (caller_name c.caller) c.key (text_of c.command) s [] [] → IsCallOf c caller key text
call_is c number caller key text reply m s h = record { same_caller = h.caller; same_key = h.key; same_text = h.text }

-- the line of a call, by its fields
pub line_spelt : (n : ℕ) (c : Call) (given : Reply) → line_with n c given ≡ spelt (decimal n) (caller_name c.caller) c.key (text_of c.command) (reply_text_of given)
line_spelt n c given = refl

-- the decimal text of a number is equal to itself
pub number_is : (n : ℕ) (text : List ℕ) → false ≡ bytes_eq (decimal n) text → text ≡ decimal n → ⊥
number_is n text h same = let equal : bytes_eq (decimal n) text ≡ true = ap (bytes_eq (decimal n)) same ∙ bytes_eq-refl (decimal n) in absurd (cc)

-- a result of another type with the same fault
pub fault_is : {A E : Type 0} (x y : E) → IsErrOf {T = A} {E = E} (Err x) y → x ≡ y
fault_is x y h = cc
