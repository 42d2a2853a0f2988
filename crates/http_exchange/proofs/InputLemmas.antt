-- The request of an input, and of an input with more bytes after it.
use Rattle.std.proofs.Common.{◌≡◌, ◌∙◌, ℕ, ◌≤◌, List, [], ◌++◌, length, refl, sym, ap, inl, inr, Option, Some, None, Result, Ok, Err, IfOk, IfSome}
use Rattle.httparse.specs.Grammar.{ReadsRequest, RequestHead}
use Rattle.httparse.proofs.GrammarLemmas.{ReadsRequest-append, request_unique}
use Rattle.desk_history.specs.Calls.{History}
use Rattle.http_requests.specs.heads.Fields.{parts_of}
use Rattle.http_requests.specs.heads.Heads.{FindsOf, HasHead}
use Rattle.http_requests.specs.declared.heads.begun.HeadRead.TheVariants.{Head}
use Rattle.http_requests.specs.Asked.{image_at, keyed_at}
use Rattle.http_requests.specs.Tags.{tag_at}
use Rattle.http_requests.specs.CheckedHead.{Want, wanted_of}
use Rattle.http_requests.specs.declared.route.PostRoute.TheVariants.{Image, Command}
use Rattle.http_requests.specs.declared.route.Route.{Route}
use Rattle.http_requests.specs.declared.route.Route.TheVariants.{Get, Post}
use Rattle.http_requests.specs.declared.fault.WantedFault.{WantedFault}
use Rattle.http_responses.specs.declared.refused.Refused.{Refused}
use Rattle.desk_exports.specs.Desks.{ForEachShown}
use Rattle.desk_types.specs.declared.command.Person.{Person}
use Rattle.http_exchange.specs.Asked.{Asks, CallOrRefusal, HasRequest, caller_of, due_of, of_caller, of_head, of_route, with_body, with_image}
use Rattle.http_exchange.specs.Refused.{refused_by_head}
use Rattle.http_exchange.specs.declared.served.Unread.{Unread}
use Rattle.http_exchange.proofs.AskLemmas.{head_reads_itself}
use Rattle.http_exchange.proofs.BodyLemmas.{body_followed}

-- two heads of one input make the same request
pub heads_ask_alike : (cs : History) (b : List ℕ) (h k : RequestHead) (r q : List ℕ) → HasHead b h r → HasHead b k q
    → due_of cs h r ≡ due_of cs k q
heads_ask_alike cs b h k r q x y =
    let same = request_unique b h k r q x.reads y.reads in
    ap (λ (g : RequestHead). due_of cs g r) same.0 ∙ ap (λ (s : List ℕ). due_of cs k s) same.1

pub asks_once : (cs : History) (b : List ℕ) (due other : CallOrRefusal) → Asks cs b due → Asks cs b other → due ≡ other
asks_once cs b due other (inl x) (inl y) = x.3 ∙ (heads_ask_alike cs b x.0 y.0 x.1 y.1 x.2 y.2 ∙ sym y.3)
asks_once cs b due other (inl x) (inr y) = absurd (y.1 x.0 x.1 x.2)
asks_once cs b due other (inr x) (inl y) = absurd (x.1 y.0 y.1 y.2)
asks_once cs b due other (inr x) (inr y) = x.2 ∙ sym y.2

route_followed : (p : Person) (w : Want) (rest more : List ℕ) (r : Route) → w.size ≤ length rest
    → of_route p w (rest ++ more) r ≡ of_route p w rest r
route_followed p w rest more (Get r) le = refl
route_followed p w rest more (Post (Image r)) le =
    ap (λ (image : Option (List ℕ)). with_image p (image_at r w) (tag_at (Image r) w) image) (body_followed w.size rest more le)
route_followed p w rest more (Post (Command r)) le =
    ap (λ (body : Option (List ℕ)). with_body p (keyed_at r w) (tag_at (Command r) w) body) (body_followed w.size rest more le)

caller_followed : (w : Want) (rest more : List ℕ) (p : Option Person) → w.size ≤ length rest
    → of_caller w (rest ++ more) p ≡ of_caller w rest p
caller_followed w rest more None le = refl
caller_followed w rest more (Some p) le = route_followed p w rest more w.route le

head_followed : (cs : History) (rest more : List ℕ) (w : Result Want WantedFault) → IfOk w (λ v. v.size ≤ length rest)
    → of_head cs (rest ++ more) w ≡ of_head cs rest w
head_followed cs rest more (Err fault) le = refl
head_followed cs rest more (Ok w) le = caller_followed w rest more (caller_of cs w.token) le

-- a head is read although more follows
followed : (b more : List ℕ) (h : RequestHead) (rest : List ℕ) → HasHead b h rest → HasHead (b ++ more) h (rest ++ more)
followed b more h rest has = record {
  reads = ReadsRequest-append b h rest more has.reads;
  short = has.short;
  few = has.few;
}

pub asks_the_same : (cs : History) (b : List ℕ) (h : RequestHead) (rest more : List ℕ) (due : CallOrRefusal) → HasRequest b h rest
    → Asks cs b due → Asks cs (b ++ more) due
asks_the_same cs b h rest more due has (inl x) =
    let same = head_followed cs rest more (wanted_of (parts_of h)) has.body in
    let alike = heads_ask_alike cs b x.0 h x.1 rest x.2 has.head in
    inl (h, rest ++ more, followed b more h rest has.head, x.3 ∙ (alike ∙ sym same))
asks_the_same cs b h rest more due has (inr x) = absurd (x.1 h rest has.head)

-- ---- heads that are read

-- the head wants this
pub wanted_is_due : (w : Result Want WantedFault) (v : Want) (r : Result CallOrRefusal Unread) (known : Option (List ℕ)) (shows : List ℕ → History → Type 0)
    → w ≡ Ok v → IfOk r (λ due. IfSome known (λ rest. ForEachShown shows (λ _ cs. due ≡ of_caller v rest (caller_of cs v.token))))
    → IfOk r (λ due. IfSome known (λ rest. ForEachShown shows (λ _ cs. due ≡ of_head cs rest w)))
wanted_is_due w v r known shows e found = rw e found

-- the head has a fault
pub refused_is_due : (w : Result Want WantedFault) (f : WantedFault) (x : Refused) (known : Option (List ℕ)) (shows : List ℕ → History → Type 0)
    → w ≡ Err f → x ≡ refused_by_head f
    → IfSome known (λ rest. ForEachShown shows (λ _ cs. Err x ≡ of_head cs rest w))
refused_is_due w f x None shows given is = tt
refused_is_due w f x (Some rest) shows given is = λ owner cs shown. rw (given, is) refl

-- a head was read
pub head_is_asked : (old mid : Option (List ℕ)) (taken : List ℕ) (due : CallOrRefusal) (shows : List ℕ → History → Type 0)
    → FindsOf old mid (Head taken)
    → ((h : RequestHead) (q : List ℕ) → ReadsRequest taken h q
    → IfSome mid (λ rest. ForEachShown shows (λ _ cs. due ≡ due_of cs h rest)))
    → IfSome old (λ b. ForEachShown shows (λ _ cs. Asks cs b due))
head_is_asked None mid taken due shows found asked = tt
head_is_asked (Some b) mid taken due shows found asked =
    let reads : ReadsRequest taken found.0 [] = rw found.3 (head_reads_itself b found.0 found.1 found.2) in
    let given : IfSome (Some found.1) (λ rest. ForEachShown shows (λ _ cs. due ≡ due_of cs found.0 rest)) =
    rw found.4 at (asked found.0 [] reads) in
    λ owner cs shown. inl (found.0, found.1, found.2, given owner cs shown)
