-- The answer that is due if the fields have a fault, and the bytes that a head begins with.
use Rattle.std.proofs.Common.{◌≡◌, ◌≢◌, ℕ, List, [], sym, subst, Result, Ok, Err, IfOk, MatchResult}
use Rattle.std.proofs.lemmas.List.{append-nil}
use Rattle.httparse.specs.Grammar.{RequestHead, print_request, ReadsRequest}
use Rattle.http_requests.specs.heads.Heads.{HasHead}
use Rattle.http_requests.specs.declared.fault.AskedFault.{AskedFault}
use Rattle.http_requests.specs.declared.fault.AskedFault.TheVariants.{NoMemory}
use Rattle.http_responses.specs.declared.outage.Outage.TheVariants as outage
use Rattle.http_exchange.specs.Asked.{CallOrRefusal}
use Rattle.http_exchange.specs.Refused.{refused_by_fields}
use Rattle.http_exchange.specs.declared.served.Unread.{Unread}
use Rattle.http_exchange.specs.declared.served.Unread.TheVariants.{Outage}

-- the answer that is due if the fields have a fault is the refusal for it
pub fault_is_due : {A : Type 0} → (given : Result A AskedFault) (f : AskedFault) (r : Result CallOrRefusal Unread) (holds : CallOrRefusal → Type 0)
    → (f ≢ NoMemory → given ≡ Err f)
    → MatchResult r (λ due. (f ≢ NoMemory) × (due ≡ Err (refused_by_fields f))) (λ u. u ≡ Outage outage.NoMemory)
    → (given ≡ Err f → holds (Err (refused_by_fields f))) → IfOk r holds
fault_is_due given f (Err u) holds found told due = tt
fault_is_due given f (Ok d) holds found told due = subst holds (sym told.1) (due (found told.0))

-- the bytes of a head begin with it
pub head_reads_itself : (b : List ℕ) (h : RequestHead) (rest : List ℕ) → HasHead b h rest → ReadsRequest (print_request h) h []
head_reads_itself b h rest has = (has.reads.0, sym (append-nil (print_request h)))
