use Rattle.std.proofs.Common.{rules, ◌≡◌, ◌++◌, ◌∙◌, ap, string_bytes, codes, refl}
use Rattle.std.specs.Prelude.{decimal}
use Rattle.http.specs.StatusCode.{code_digits}
use Rattle.http_responses.specs.Responses.{code_of, content_text, field_line, head_text, own_line, phrase_text, status_line}
use Rattle.http_responses.proofs.heads.head.Goals as goal

-- each push adds its line
pub returns : goal.returns
unfolding head_text
returns c =
    let empty_line : string_bytes c.push_str.new.self ≡ string_bytes c.push_field-3.new.text ++ codes "\r\n" =
    search rules in
    let connection : string_bytes c.push_field-3.new.text
    ≡ string_bytes c.push_own.new.text ++ field_line (codes "Connection") (codes "close") =
    c.in_ok-push_field-3.ensures in
    let own : string_bytes c.push_own.new.text ≡ string_bytes c.push_field-2.new.text ++ own_line c.args.status =
    c.in_ok-push_own.ensures in
    let size : string_bytes c.push_field-2.new.text
    ≡ string_bytes c.push_field.new.text ++ field_line (codes "Content-Length") (decimal c.args.length) =
    search rules in
    let kind : string_bytes c.push_field.new.text
    ≡ string_bytes c.push_status.new.text ++ field_line (codes "Content-Type") (content_text c.args.content) =
    c.in_ok-push_field.ensures
    ∙ ap (λ text. string_bytes c.push_status.new.text ++ field_line (codes "Content-Type") text) c.text.ensures in
    let first : string_bytes c.push_status.new.text
    ≡ status_line (code_digits (code_of c.args.status)) (phrase_text (code_of c.args.status)) =
    search rules in
    rw (empty_line, connection, own, size, kind, first) refl
