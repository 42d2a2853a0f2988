-- The rest of an input whose head is nobody's.
use Rattle.std.proofs.Common.{◌≡◌, ◌≢◌, ◌∙◌, ℕ, List, [], refl, sym, ap, subst, Option, Some, None, Result, Ok, Err, IfOk}
use Rattle.httparse.specs.Grammar.{ReadsRequest, RequestHead}
use Rattle.httparse.proofs.GrammarLemmas.{request_unique}
use Rattle.desk_history.specs.Calls.{History}
use Rattle.http_requests.specs.heads.Fields.{parts_of}
use Rattle.http_requests.specs.heads.Heads.{FindsOf}
use Rattle.http_requests.specs.declared.heads.begun.HeadRead.TheVariants.{Head, NoHead}
use Rattle.http_requests.proofs.HeadLemmas.{no_request_in_nothing}
use Rattle.http_requests.specs.CheckedHead.{Want, wanted_of}
use Rattle.http_requests.specs.declared.fault.WantedFault.{WantedFault}
use Rattle.desk_exports.specs.Desks.{ForEachShown}
use Rattle.http_exchange.specs.Asked.{HasByte, IsOfNobody, LeavesBody, caller_of}
use Rattle.http_exchange.specs.Serving.{IsOfBytes, LeavesStrangers}
use Rattle.http_exchange.specs.Unread.{IsOfInput, WhenAsked}
use Rattle.http_exchange.specs.declared.served.HttpFault.{HttpFault}
use Rattle.http_exchange.specs.declared.served.HttpFault.TheVariants as http
use Rattle.http_exchange.specs.declared.served.Served.{Served}
use Rattle.http_exchange.specs.declared.served.Served.TheVariants.{Answered, Nothing}
use Rattle.http_exchange.specs.declared.served.Unread.{Unread}
use Rattle.http_exchange.specs.declared.served.Unread.TheVariants as unread
use Rattle.http_exchange.proofs.AskLemmas.{head_reads_itself}

-- a head that wants this is nobody's where nobody has its token
pub nobody_wants : (cs : History) (h : RequestHead) (v : Want) → wanted_of (parts_of h) ≡ Ok v → IsOfNobody cs h → caller_of cs v.token ≡ None
nobody_wants cs h v is nobody =
    let P : Result Want WantedFault → Type 0 = λ r. IfOk r (λ w. caller_of cs w.token ≡ None) in subst P is nobody

-- a head was read, and nothing after it
pub leaves_head : (old mid new : Option (List ℕ)) (taken : List ℕ) (shows : List ℕ → History → Type 0)
    → FindsOf old mid (Head taken)
    → ((h : RequestHead) (q : List ℕ) → ReadsRequest taken h q → ForEachShown shows (λ _ cs. IsOfNobody cs h → new ≡ mid))
    → LeavesBody shows old new
leaves_head None mid new taken shows found stays = tt
leaves_head (Some b) mid new taken shows found stays = λ owner cs shown h rest has nobody.
    let reads : ReadsRequest taken found.0 [] = rw found.3 (head_reads_itself b found.0 found.1 found.2) in
    let same = request_unique b h found.0 rest found.1 has.reads found.2.reads in
    let left : new ≡ mid = stays found.0 [] reads owner cs shown (subst (IsOfNobody cs) same.0 nobody) in
    left ∙ (found.4 ∙ ap (λ (x : List ℕ). Some x) (sym same.1))

-- there was no head
pub leaves_none : (old mid new : Option (List ℕ)) (shows : List ℕ → History → Type 0) → FindsOf old mid NoHead → LeavesBody shows old new
leaves_none None mid new shows found = tt
leaves_none (Some b) mid new shows found = λ owner cs shown h rest has nobody. absurd (found.1 h rest has)

-- an input that begins with a head has a byte
pub head_has_byte : (old mid : Option (List ℕ)) (taken : List ℕ) → FindsOf old mid (Head taken) → HasByte old
head_has_byte None mid taken found = tt
head_has_byte (Some b) mid taken found = λ nil.
    let P : List ℕ → Type 0 = λ l. ReadsRequest l found.0 found.1 in no_request_in_nothing found.0 found.1 (subst P nil found.2.reads)

-- so has one that begins with none
pub none_has_byte : (old mid : Option (List ℕ)) → FindsOf old mid NoHead → HasByte old
none_has_byte None mid found = tt
none_has_byte (Some b) mid found = found.0

-- nothing is known of the request
pub unread_leaves : (u : Unread) (holds : Type 0) → holds → WhenAsked (Err u) holds
unread_leaves unread.Read holds h = tt
unread_leaves unread.NoMemory holds h = tt
unread_leaves (unread.Outage o) holds h = h

-- the input itself wasn't read
pub input_leaves : (u : Unread) (holds : Type 0) → IsOfInput u → WhenAsked (Err u) holds
input_leaves unread.Read holds h = tt
input_leaves unread.NoMemory holds h = tt
input_leaves (unread.Outage o) holds h = absurd h

-- the rest of an input stays the same, whatever became of its response
pub leaves_strangers : (old : List ℕ → History → Type 0) (input left : Option (List ℕ)) (r : Result Served HttpFault)
    → LeavesBody old input left → LeavesStrangers old input left r
leaves_strangers old input left (Ok (Answered answered)) h = (h, tt)
leaves_strangers old input left (Ok Nothing) h = (tt, tt)
leaves_strangers old input left (Err http.Read) h = (tt, tt)
leaves_strangers old input left (Err http.Write) h = (tt, h)
leaves_strangers old input left (Err http.NoMemory) h = (tt, tt)

-- an input that has a byte has it whatever became of its response
pub is_of_bytes : (input : Option (List ℕ)) (r : Result Served HttpFault) → HasByte input → IsOfBytes input r
is_of_bytes input (Ok (Answered answered)) h = (h, tt)
is_of_bytes input (Ok Nothing) h = (tt, tt)
is_of_bytes input (Err http.Read) h = (tt, tt)
is_of_bytes input (Err http.Write) h = (tt, h)
is_of_bytes input (Err http.NoMemory) h = (tt, tt)

-- no response went out, so there is none to an input without a byte
pub nothing_of_bytes : (input : Option (List ℕ)) (f : HttpFault) → f ≢ http.Write → IsOfBytes input (Err f)
nothing_of_bytes input http.Read differs = (tt, tt)
nothing_of_bytes input http.Write differs = absurd (differs refl)
nothing_of_bytes input http.NoMemory differs = (tt, tt)

-- no response went out
pub nothing_left : (old : List ℕ → History → Type 0) (input left : Option (List ℕ)) (f : HttpFault) → f ≢ http.Write → LeavesStrangers old input left (Err f)
nothing_left old input left http.Read differs = (tt, tt)
nothing_left old input left http.Write differs = absurd (differs refl)
nothing_left old input left http.NoMemory differs = (tt, tt)
