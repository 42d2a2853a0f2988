-- The bytes that went out, and the answer that they carry.
use Rattle.std.proofs.Common.{◌≡◌, ◌∙◌, ℕ, List, sym, Option, Result, Ok, Err, MatchResult}
use Rattle.std.specs.Io.KnownBytes.{Appends}
use Rattle.base.specs.Output.{AppendsBeginning}
use Rattle.desk_history.specs.Calls.{History}
use Rattle.http_calls.specs.Answers.{Serves}
use Rattle.desk_exports.specs.Desks.{ForEachShown}
use Rattle.http_calls.specs.declared.answers.TaskAnswer.{TaskAnswer}
use Rattle.http_exchange.specs.Responses.{answered_of, response_of}
use Rattle.http_exchange.specs.Sending.{Replaces, Sends}
use Rattle.http_exchange.specs.Serving.{AnswersInput, Responds, AnswersDueOrOutage, WhenAnswered, WhenUnwritten}
use Rattle.http_exchange.specs.declared.served.Answered as said
use Rattle.http_exchange.specs.declared.served.HttpFault.{HttpFault}
use Rattle.http_exchange.specs.declared.served.HttpFault.TheVariants.{Read, Write, NoMemory}
use Rattle.http_exchange.specs.declared.served.Served.{Served}
use Rattle.http_exchange.specs.declared.served.Served.TheVariants.{Answered, Nothing}
use Rattle.http_exchange.proofs.TellLemmas.{told_is_served}

-- ---- what is sent for an answer

-- the bytes of a response were sent, or a beginning of them
pub sends_response : (old new : Option (List ℕ)) (a : TaskAnswer) (bytes : List ℕ) (says : said.Answered) (r : Result Served HttpFault)
    → says ≡ answered_of a → bytes ≡ response_of a
    → MatchResult r (λ served. (served ≡ Answered says) × Appends old new bytes) (λ fault. (fault ≡ Write) × AppendsBeginning old new bytes)
    → Sends old new a r
sends_response old new a bytes says (Ok (Answered answered)) is e sent =
    let same : Answered answered ≡ Answered says = sent.0 in
    let inner : answered ≡ says = cc in
    record { written = rw (sym e) sent.1; says = inner ∙ is }
sends_response old new a bytes says (Ok Nothing) is e sent = let same : Nothing ≡ Answered says = sent.0 in cc
sends_response old new a bytes says (Err Read) is e sent = let same : Read ≡ Write = sent.0 in cc
sends_response old new a bytes says (Err Write) is e sent = rw (sym e) sent.1
sends_response old new a bytes says (Err NoMemory) is e sent = let same : NoMemory ≡ Write = sent.0 in cc

-- the response to this answer, or to the one that replaces it, went out, or a prefix of it
abbrev pub SendsFor : (before after : Option (List ℕ)) → TaskAnswer → Result Served HttpFault → Type 0
SendsFor before after a r = (told : TaskAnswer) × Replaces a told × Sends before after told r

-- the desk answers the input so
abbrev pub ServesInput : Option (List ℕ) → (old new : List ℕ → History → Type 0) → (failed : Type 0) → TaskAnswer → Type 0
ServesInput input old new failed a =
    ForEachShown old (λ owner cs. Serves (new owner) failed cs (AnswersInput owner cs input) a)

pub answered_is_told : (input before after : Option (List ℕ)) (old new : List ℕ → History → Type 0) (failed : Type 0) (a : TaskAnswer) (r : Result Served HttpFault)
    → ServesInput input old new failed a → SendsFor before after a r
    → WhenAnswered r (λ answered. ForEachShown old (λ owner cs. (told : TaskAnswer)
    × Responds before after told answered × AnswersDueOrOutage (new owner) failed cs (AnswersInput owner cs input) told))
answered_is_told input before after old new failed a (Err fault) served sent = tt
answered_is_told input before after old new failed a (Ok Nothing) served sent = tt
answered_is_told input before after old new failed a (Ok (Answered answered)) served sent = λ owner cs shown.
    (sent.0, sent.2, told_is_served (new owner) failed cs (AnswersInput owner cs input) a sent.0 (served owner cs shown) sent.1)

pub unwritten_is_told : (input before after : Option (List ℕ)) (old new : List ℕ → History → Type 0) (failed : Type 0) (a : TaskAnswer) (r : Result Served HttpFault)
    → ServesInput input old new failed a → SendsFor before after a r
    → WhenUnwritten r (ForEachShown old (λ owner cs. (told : TaskAnswer)
    × AppendsBeginning before after (response_of told) × AnswersDueOrOutage (new owner) failed cs (AnswersInput owner cs input) told))
unwritten_is_told input before after old new failed a (Ok s) served sent = tt
unwritten_is_told input before after old new failed a (Err Read) served sent = tt
unwritten_is_told input before after old new failed a (Err NoMemory) served sent = tt
unwritten_is_told input before after old new failed a (Err Write) served sent = λ owner cs shown.
    (sent.0, sent.2, told_is_served (new owner) failed cs (AnswersInput owner cs input) a sent.0 (served owner cs shown) sent.1)

pub response_is_told : (before after : Option (List ℕ)) (a : TaskAnswer) (r : Result Served HttpFault) → SendsFor before after a r
    → WhenAnswered r (λ answered. (told : TaskAnswer) × Responds before after told answered)
response_is_told before after a (Err fault) sent = tt
response_is_told before after a (Ok Nothing) sent = tt
response_is_told before after a (Ok (Answered answered)) sent = (sent.0, sent.2)
