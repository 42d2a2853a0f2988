use Rattle.std.proofs.Common.{◌≡◌, ◌≢◌, ℕ, List, [], ◌∷◌, ◌++◌, length, rules, ap, ◌∙◌}
use Rattle.desk_types.proofs.SpaceLemmas.{none_fact}
use Rattle.desk_minutes.specs.Fields.{AreFields, spelt}
use Rattle.desk_minutes.proofs.LineLemmas.{cut_same, fields_join, spelt-alone, uncut}
use Rattle.desk_minutes.proofs.fields.fields_of.Goals as goal

pub returns-in_err-caller-clause-only : goal.returns-in_err-caller-clause-only
returns-in_err-caller-clause-only c = none_fact _ none
  where
    none : (number caller key text reply : List ℕ) → AreFields number caller key text reply → c.args.line.now ≢ spelt number caller key text reply
    none number caller key text reply f same =
        let line_is = same ∙ spelt-alone number caller key text reply in
        let at_number = cut_same 9 c.args.line.now c.in_ok-number.number.now c.in_ok-number.rest.now number (caller ++ (9 ∷ (key ++ (9 ∷ (text ++ (9 ∷ (reply ++ (10 ∷ [])))))))) c.in_ok-number.ensures.found f.number_ends line_is in
        uncut 9 c.in_ok-number.rest.now caller (key ++ (9 ∷ (text ++ (9 ∷ (reply ++ (10 ∷ [])))))) c.in_err-caller.ensures.only at_number.1

pub returns-in_err-key-clause-only : goal.returns-in_err-key-clause-only
returns-in_err-key-clause-only c = none_fact _ none
  where
    none : (number caller key text reply : List ℕ) → AreFields number caller key text reply → c.args.line.now ≢ spelt number caller key text reply
    none number caller key text reply f same =
        let line_is = same ∙ spelt-alone number caller key text reply in
        let at_number = cut_same 9 c.args.line.now c.in_ok-number.number.now c.in_ok-number.rest.now number (caller ++ (9 ∷ (key ++ (9 ∷ (text ++ (9 ∷ (reply ++ (10 ∷ [])))))))) c.in_ok-number.ensures.found f.number_ends line_is in
        let at_caller = cut_same 9 c.in_ok-number.rest.now c.in_ok-caller.caller.now c.in_ok-caller.rest.now caller (key ++ (9 ∷ (text ++ (9 ∷ (reply ++ (10 ∷ [])))))) c.in_ok-caller.ensures.found f.caller_ends at_number.1 in
        uncut 9 c.in_ok-caller.rest.now key (text ++ (9 ∷ (reply ++ (10 ∷ [])))) c.in_err-key.ensures.only at_caller.1

pub returns-in_err-text-clause-only : goal.returns-in_err-text-clause-only
returns-in_err-text-clause-only c = none_fact _ none
  where
    none : (number caller key text reply : List ℕ) → AreFields number caller key text reply → c.args.line.now ≢ spelt number caller key text reply
    none number caller key text reply f same =
        let line_is = same ∙ spelt-alone number caller key text reply in
        let at_number = cut_same 9 c.args.line.now c.in_ok-number.number.now c.in_ok-number.rest.now number (caller ++ (9 ∷ (key ++ (9 ∷ (text ++ (9 ∷ (reply ++ (10 ∷ [])))))))) c.in_ok-number.ensures.found f.number_ends line_is in
        let at_caller = cut_same 9 c.in_ok-number.rest.now c.in_ok-caller.caller.now c.in_ok-caller.rest.now caller (key ++ (9 ∷ (text ++ (9 ∷ (reply ++ (10 ∷ [])))))) c.in_ok-caller.ensures.found f.caller_ends at_number.1 in
        let at_key = cut_same 9 c.in_ok-caller.rest.now c.in_ok-key.key.now c.in_ok-key.rest.now key (text ++ (9 ∷ (reply ++ (10 ∷ [])))) c.in_ok-key.ensures.found f.key_ends at_caller.1 in
        uncut 9 c.in_ok-key.rest.now text (reply ++ (10 ∷ [])) c.in_err-text.ensures.only at_key.1

pub returns-in_err-reply-clause-only : goal.returns-in_err-reply-clause-only
returns-in_err-reply-clause-only c = none_fact _ none
  where
    none : (number caller key text reply : List ℕ) → AreFields number caller key text reply → c.args.line.now ≢ spelt number caller key text reply
    none number caller key text reply f same =
        let line_is = same ∙ spelt-alone number caller key text reply in
        let at_number = cut_same 9 c.args.line.now c.in_ok-number.number.now c.in_ok-number.rest.now number (caller ++ (9 ∷ (key ++ (9 ∷ (text ++ (9 ∷ (reply ++ (10 ∷ [])))))))) c.in_ok-number.ensures.found f.number_ends line_is in
        let at_caller = cut_same 9 c.in_ok-number.rest.now c.in_ok-caller.caller.now c.in_ok-caller.rest.now caller (key ++ (9 ∷ (text ++ (9 ∷ (reply ++ (10 ∷ [])))))) c.in_ok-caller.ensures.found f.caller_ends at_number.1 in
        let at_key = cut_same 9 c.in_ok-caller.rest.now c.in_ok-key.key.now c.in_ok-key.rest.now key (text ++ (9 ∷ (reply ++ (10 ∷ [])))) c.in_ok-key.ensures.found f.key_ends at_caller.1 in
        let at_text = cut_same 9 c.in_ok-key.rest.now c.in_ok-text.text.now c.in_ok-text.rest.now text (reply ++ (10 ∷ [])) c.in_ok-text.ensures.found f.text_ends at_key.1 in
        uncut 10 c.in_ok-text.rest.now reply [] c.in_err-reply.ensures.only at_text.1

pub returns-then-not-is_empty-clause-only : goal.returns-then-not-is_empty-clause-only
returns-then-not-is_empty-clause-only c = λ number caller key text reply f same.
    let line_is = same ∙ spelt-alone number caller key text reply in
    let at_number = cut_same 9 c.args.line.now c.in_ok-number.number.now c.in_ok-number.rest.now number (caller ++ (9 ∷ (key ++ (9 ∷ (text ++ (9 ∷ (reply ++ (10 ∷ [])))))))) c.in_ok-number.ensures.found f.number_ends line_is in
    let at_caller = cut_same 9 c.in_ok-number.rest.now c.in_ok-caller.caller.now c.in_ok-caller.rest.now caller (key ++ (9 ∷ (text ++ (9 ∷ (reply ++ (10 ∷ [])))))) c.in_ok-caller.ensures.found f.caller_ends at_number.1 in
    let at_key = cut_same 9 c.in_ok-caller.rest.now c.in_ok-key.key.now c.in_ok-key.rest.now key (text ++ (9 ∷ (reply ++ (10 ∷ [])))) c.in_ok-key.ensures.found f.key_ends at_caller.1 in
    let at_text = cut_same 9 c.in_ok-key.rest.now c.in_ok-text.text.now c.in_ok-text.rest.now text (reply ++ (10 ∷ [])) c.in_ok-text.ensures.found f.text_ends at_key.1 in
    let at_reply = cut_same 10 c.in_ok-text.rest.now c.in_ok-reply.reply.now c.in_ok-reply.rest.now reply [] c.in_ok-reply.ensures.found f.reply_ends at_text.1 in
    let gone : length c.in_ok-reply.rest.now ≡ 0 = ap length at_reply.1 in
    search (rules, gone)

pub returns-clause-found : goal.returns-clause-found
returns-clause-found c =
    let number = c.in_ok-number.number.now in
    let caller = c.in_ok-caller.caller.now in
    let key = c.in_ok-key.key.now in
    let text = c.in_ok-text.text.now in
    let reply = c.in_ok-reply.reply.now in
    let gone : length c.in_ok-reply.rest.now ≡ 0 = search rules in (
      fields_join c.args.line.now number c.in_ok-number.rest.now caller c.in_ok-caller.rest.now key c.in_ok-key.rest.now text c.in_ok-text.rest.now reply c.in_ok-reply.rest.now
          c.in_ok-number.ensures.found.0 c.in_ok-caller.ensures.found.0 c.in_ok-key.ensures.found.0 c.in_ok-text.ensures.found.0 c.in_ok-reply.ensures.found.0 gone,
      record {
        number_ends = c.in_ok-number.ensures.found.1;
        caller_ends = c.in_ok-caller.ensures.found.1;
        key_ends = c.in_ok-key.ensures.found.1;
        text_ends = c.in_ok-text.ensures.found.1;
        reply_ends = c.in_ok-reply.ensures.found.1;
      },
    )
