-- Answers that say that the store failed.
use Rattle.std.proofs.Common.{◌≡◌, ◌∙◌, inl, inr, sym, ap, Option, List, ℕ, Result, Ok, Err}
use Rattle.http_responses.specs.declared.outage.Outage.TheVariants as outage
use Rattle.http_calls.specs.Answers.{no_memory, store_failed}
use Rattle.http_calls.specs.declared.answers.TaskAnswer.{TaskAnswer}
use Rattle.http_calls.specs.declared.answers.TaskAnswer.TheVariants as answer
use Rattle.http_exchange.specs.Responses.{said_of}
use Rattle.http_exchange.specs.Serving.{FailsFirst}
use Rattle.http_exchange.specs.declared.served.Answered as answering
use Rattle.http_exchange.specs.declared.served.HttpFault.{HttpFault}
use Rattle.http_exchange.specs.declared.served.Said.TheVariants as said
use Rattle.http_exchange.specs.declared.served.Served.{Served}
use Rattle.http_exchange.specs.declared.served.Served.TheVariants.{Answered, Nothing}
use Rattle.http_exchange.proofs.SendLemmas.{SendsFor}

-- only an outage says so
answer_of_store : (a : TaskAnswer) → said_of a ≡ said.Unavailable outage.Store → a ≡ store_failed
answer_of_store (answer.Reply reply) is = let bad : said.Given ≡ said.Unavailable outage.Store = is in cc
answer_of_store (answer.Shown given) is = let bad : said.Given ≡ said.Unavailable outage.Store = is in cc
answer_of_store (answer.Verdict verdict facts) is = let bad : said.Given ≡ said.Unavailable outage.Store = is in cc
answer_of_store (answer.Facts facts) is = let bad : said.Given ≡ said.Unavailable outage.Store = is in cc
answer_of_store (answer.Refused x) is = let bad : said.Refused x ≡ said.Unavailable outage.Store = is in cc
answer_of_store (answer.Unavailable x) is = let same : said.Unavailable x ≡ said.Unavailable outage.Store = is in cc

memory_apart : no_memory ≡ store_failed → ⊥
memory_apart e = cc

-- a response which says that the store failed is to an answer that does
pub fails_first : (before after : Option (List ℕ)) (a : TaskAnswer) (r : Result Served HttpFault) (failed : Type 0)
    → (a ≡ store_failed → failed) → SendsFor before after a r → FailsFirst failed r
fails_first before after a (Ok Nothing) failed fails sent = tt
fails_first before after a (Err fault) failed fails sent = tt
fails_first before after a (Ok (Answered answered)) failed fails sent = λ is.
    let store : sent.0 ≡ store_failed = answer_of_store sent.0 (sym (ap (λ (x : answering.Answered). x.said) sent.2.says) ∙ is) in
    elim sent.1 [
      | inl same ↦ fails (sym same ∙ store)
      | inr memory ↦ absurd (memory_apart (sym memory.0 ∙ store))
    ]
