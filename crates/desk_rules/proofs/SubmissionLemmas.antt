-- Tables after the writes of a submission.
use Rattle.std.proofs.Common.{◌≡◌, ℕ, ◌+◌, ◌<◌, ◌≤◌, Bool, true, false, ◌||◌, cond, List, [], ◌∷◌, ◌++◌, length, map, Option, Some, None, Result, refl, sym, ◌∙◌, ap, inl, arith, append_assoc}
use Rattle.std.specs.Prelude.{◌==◌, if◌then◌else◌, find, reverse}
use Rattle.std.specs.List.{list_any}
use Rattle.std.proofs.lemmas.List.Folds.{list_any-append}
use Rattle.std.proofs.lemmas.List.{length-map, reverse-append, reverse-reverse}
use Rattle.base.specs.declared.refusal.Refusal.{Refusal}
use Rattle.base.specs.declared.refusal.Refusal.TheVariants as refusals
use Rattle.desk_types.specs.declared.caller.Caller.{Caller}
use Rattle.desk_types.specs.declared.command.Command.{Command}
use Rattle.desk_types.specs.declared.command.Command.TheVariants as command
use Rattle.desk_types.specs.declared.command.Submission.{Submission}
use Rattle.desk_types.specs.declared.facts.Facts.{Facts}
use Rattle.desk_types.specs.declared.reply.Reply.TheVariants as replies
use Rattle.desk_history.specs.declared.rows.RequestCertificateRow.{RequestCertificateRow}
use Rattle.desk_history.specs.declared.rows.RequestComponentRow.{RequestComponentRow}
use Rattle.desk_history.specs.declared.rows.VoteRow.{VoteRow}
use Rattle.desk_types.specs.declared.state.State.{State}
use Rattle.desk_types.specs.declared.state.State.TheVariants as states
use Rattle.desk_history.specs.declared.write.Write.{Write}
use Rattle.desk_history.specs.declared.write.Write.TheVariants as writes
use Rattle.desk_types.specs.Callers.{caller_name}
use Rattle.desk_types.specs.Forms.{greatest_number}
use Rattle.desk_history.specs.Calls.{History, Item, item}
use Rattle.desk_history.specs.Requests.{Request, Submitted, has_number, is_returned, is_withdrawn, numbered, request, requests, state, state_by, submitted, votes, votes_on}
use Rattle.desk_history.specs.Tables.{Tables, certificate_rows, component_rows, request_row, tables}
use Rattle.desk_history.specs.Writes.{all_written}
use Rattle.desk_rules.specs.declared.view.Changes.{Changes}
use Rattle.desk_rules.specs.declared.view.View.{View}
use Rattle.desk_rules.specs.DecisionSteps.{Decided, MatchesOwn, submission_writes}
use Rattle.desk_history.specs.Called.{called}
use Rattle.desk_rules.specs.Keys.{keys_named}
use Rattle.desk_rules.specs.Shown.{Shows}
use Rattle.desk_rules.specs.declared.view.LimitedTable.TheVariants as counted
use Rattle.desk_rules.specs.Room.{takes_off}
use Rattle.desk_history.specs.Refusals.{own_refusal, refuse_if, return_refusal, review_refusal, withdraw_refusal}
use Rattle.desk_history.specs.Runs.{is_legal}
use Rattle.desk_history.specs.Requests.{request_of}
use Rattle.desk_history.specs.Verdicts.{bars, lists_image, standing}
use Rattle.desk_rules.specs.Views.{seen_standing}
use Rattle.desk_rules.proofs.DecisionLemmas.{decided}
use Rattle.desk_history.proofs.ListLemmas.{number_above, number_is}
use Rattle.desk_history.proofs.RefusalLemmas.{no_refusal}
use Rattle.desk_history.proofs.WriteLemmas.{written-append}
use Rattle.desk_history.proofs.RequestLemmas.{length_numbered}
use Rattle.desk_history.proofs.RunLemmas.{IsNewest, giving, legal_room, newest}
use Rattle.desk_rules.proofs.StandingLemmas.{bars_alike, bars_so}

-- one row more in front of others turned round
pub turned : {X : Type 0} (x : X) (xs rest : List X) → reverse xs ++ x ∷ rest ≡ reverse (x ∷ xs) ++ rest
turned x xs rest = sym (append_assoc (reverse xs) (x ∷ []) rest) ∙ ap (λ r. r ++ rest) (sym (reverse-append (x ∷ []) xs))

-- writes of one shape take no entry off
pub none_taken : {X : Type 0} (put : X → Write) → ((x : X) → takes_off (put x) ≡ false) → (xs : List X) → list_any takes_off (map put xs) ≡ false
none_taken put each [] = refl
none_taken put each (x ∷ xs) = ap (λ b. b || list_any takes_off (map put xs)) (each x) ∙ none_taken put each xs

certificates_put : (rows : List RequestCertificateRow) (t : Tables) → all_written (map (λ row. writes.RequestCertificate row) rows) t ≡ record t { request_certificates = reverse rows ++ t.request_certificates }
certificates_put [] t = refl
certificates_put (x ∷ rows) t =
    certificates_put rows (record t { request_certificates = x ∷ t.request_certificates })
    ∙ ap (λ rs. record t { request_certificates = rs }) (turned x rows t.request_certificates)

components_put : (rows : List RequestComponentRow) (t : Tables) → all_written (map (λ row. writes.RequestComponent row) rows) t ≡ record t { request_components = reverse rows ++ t.request_components }
components_put [] t = refl
components_put (x ∷ rows) t =
    components_put rows (record t { request_components = x ∷ t.request_components })
    ∙ ap (λ rs. record t { request_components = rs }) (turned x rows t.request_components)

-- a number above all has no request
none_above : (k : ℕ) (ss : List Submitted) → length ss < k → find (has_number k) (numbered ss) ≡ None
none_above k [] h = refl
none_above k (s ∷ ss) h =
    let other : (k == length ss + 1) ≡ false = number_above k (length ss + 1) (omega arith) in
    ap (λ b. if b then Some (record { number = length ss + 1; submitter = s.submitter; title = s.submission.title; facts = s.submission.facts }) else find (has_number k) (numbered ss)) other
    ∙ none_above k ss (omega arith)

-- nothing became of a request that isn't there
record Untouched (cs : History) (k : ℕ) : Type 0 where
  unsigned : is_returned cs k ≡ false
  kept : is_withdrawn cs k ≡ false
  unvoted : votes_on (votes cs) k ≡ []

missing_review : (o : Option Request) (s : State) (vs : List VoteRow) (name : List ℕ) → o ≡ None → review_refusal o s vs name ≡ None → {A : Type 0} → A
missing_review None s vs name e h = no_refusal h
missing_review (Some r) s vs name e h = cc

missing_withdraw : (o : Option Request) (s : State) (name : List ℕ) → o ≡ None → withdraw_refusal o s name ≡ None → {A : Type 0} → A
missing_withdraw None s name e h = no_refusal h
missing_withdraw (Some r) s name e h = cc

missing_return : (o : Option Request) (s : State) (x : Facts) (barred listed : Bool) → o ≡ None → return_refusal o s x barred listed ≡ None → {A : Type 0} → A
missing_return None s x barred listed e h = no_refusal h
missing_return (Some r) s x barred listed e h = cc

untouched_more : (cs : History) (k : ℕ) → length (submitted cs) < k → Untouched cs k → (i : Item) (given : Command) → own_refusal cs (caller_name i.call.caller) given ≡ None →
    Untouched (giving i given ∷ cs) k
untouched_more cs k lt h i (command.Review b) own = record {
  unsigned = h.unsigned;
  kept = h.kept;
  unvoted =
      let w : VoteRow = record { request = b.request; reviewer = caller_name i.call.caller; vote = b.vote; note = b.note } in
      elim (k == b.request) as (λ t. (k == b.request) ≡ t → cond t (w ∷ votes_on (votes cs) k) (votes_on (votes cs) k) ≡ []) [
        | true ↦ λ e. missing_review (request cs b.request) (state cs b.request) (votes_on (votes cs) b.request) (caller_name i.call.caller) (ap (λ n. request cs n) (sym (number_is k b.request e)) ∙ none_above k (submitted cs) lt) own
        | false ↦ λ e. h.unvoted
      ] refl;
}
untouched_more cs k lt h i (command.Withdraw n) own = record {
  unsigned = h.unsigned;
  kept = elim (k == n) as (λ t. (k == n) ≡ t → (t || is_withdrawn cs k) ≡ false) [
    | true ↦ λ e. missing_withdraw (request cs n) (state cs n) (caller_name i.call.caller) (ap (λ m. request cs m) (sym (number_is k n e)) ∙ none_above k (submitted cs) lt) own
    | false ↦ λ e. h.kept
  ] refl;
  unvoted = h.unvoted;
}
untouched_more cs k lt h i (command.Return g) own = record {
  unsigned = elim (k == g.request) as (λ t. (k == g.request) ≡ t → (t || is_returned cs k) ≡ false) [
    | true ↦ λ e. missing_return (request cs g.request) (state cs g.request) g.facts (bars (standing cs) g.facts) (lists_image (standing cs) g.facts) (ap (λ m. request cs m) (sym (number_is k g.request e)) ∙ none_above k (submitted cs) lt) own
    | false ↦ λ e. h.unsigned
  ] refl;
  kept = h.kept;
  unvoted = h.unvoted;
}
untouched_more cs k lt h i _ own = record { unsigned = h.unsigned; kept = h.kept; unvoted = h.unvoted }

fewer : (cs : History) (k : ℕ) (i : Item) (given : Command) → length (submitted (giving i given ∷ cs)) < k → length (submitted cs) < k
fewer cs k i (command.Submit s) h = omega arith
fewer cs k i _ h = h

untouched : (cs : History) (k : ℕ) → is_legal cs ≡ true → length (submitted cs) < k → Untouched cs k
untouched [] k legal lt = record { unsigned = refl; kept = refl; unvoted = refl }
untouched (i ∷ cs) k legal lt =
    let at : IsNewest cs i = newest cs i legal in
    let less : length (submitted cs) < k = fewer cs k i i.call.command lt in
    untouched_more cs k less (untouched cs k at.before less) i i.call.command at.new.own

-- a request that isn't there yet will be open
fresh_state : (cs : History) (k : ℕ) → is_legal cs ≡ true → length (submitted cs) < k → state cs k ≡ states.Open
fresh_state cs k legal lt =
    let h : Untouched cs k = untouched cs k legal lt in
    ap (λ t. state_by t (is_withdrawn cs k) (votes_on (votes cs) k)) h.unsigned
    ∙ (ap (λ t. state_by false t (votes_on (votes cs) k)) h.kept ∙ ap (λ vs. state_by false false vs) h.unvoted)

module _ (v : View) (caller : Caller) (s : Submission) (owner : List ℕ) (cs : History) (key : List ℕ) (legal : is_legal cs ≡ true) (shown : Shows v (tables owner cs) (called caller key (command.Submit s))) where
  made_at : all_written (submission_writes (length (submitted cs) + 1) caller s) (tables owner cs) ≡ record (tables owner (item (called caller key (command.Submit s)) ∷ cs)) { calls = (tables owner cs).calls }
  made_at =
      let r : Request = request_of (length (submitted cs) + 1) caller s in
      let t : Tables = record (tables owner cs) { requests = request_row states.Open r ∷ (tables owner cs).requests } in
      let certificates : List Write = map (λ row. writes.RequestCertificate row) (reverse (certificate_rows r)) in
      let components : List Write = map (λ row. writes.RequestComponent row) (reverse (component_rows r)) in
      written-append certificates components t
      ∙ (ap (λ u. all_written components u) (certificates_put (reverse (certificate_rows r)) t)
      ∙ (components_put (reverse (component_rows r)) (record t { request_certificates = reverse (reverse (certificate_rows r)) ++ (tables owner cs).request_certificates })
      ∙ (ap (λ rows. record t { request_certificates = rows ++ (tables owner cs).request_certificates; request_components = reverse (reverse (component_rows r)) ++ (tables owner cs).request_components }) (reverse-reverse (certificate_rows r))
      ∙ (ap (λ rows. record t { request_certificates = certificate_rows r ++ (tables owner cs).request_certificates; request_components = rows ++ (tables owner cs).request_components }) (reverse-reverse (component_rows r))
      ∙ ap (λ q. record t {
        requests = request_row q r ∷ (tables owner cs).requests;
        request_certificates = certificate_rows r ++ (tables owner cs).request_certificates;
        request_components = component_rows r ++ (tables owner cs).request_components;
      }) (sym (fresh_state cs (length (submitted cs) + 1) legal (omega arith)))))))

  pub submits : (k : ℕ) → k ≡ length (requests cs) + 1 → (result : Result Changes Refusal) →
      Decided result (refuse_if (bars (seen_standing v.lists) s.facts) refusals.Revoked) (replies.Submitted k) (submission_writes k caller s) →
      MatchesOwn owner cs (called caller key (command.Submit s)) result
  submits k is result told =
      let r : Request = request_of k caller s in
      let certificates : List Write = map (λ row. writes.RequestCertificate row) (reverse (certificate_rows r)) in
      let components : List Write = map (λ row. writes.RequestComponent row) (reverse (component_rows r)) in
      let at : k ≡ length (submitted cs) + 1 = is ∙ ap (λ n. n + 1) (length_numbered (submitted cs)) in
      decided owner cs (called caller key (command.Submit s)) result (refuse_if (bars (seen_standing v.lists) s.facts) refusals.Revoked) (replies.Submitted k) (submission_writes k caller s) told
      (ap (λ b. refuse_if b refusals.Revoked) (bars_alike (seen_standing v.lists) (standing cs) s.facts (bars_so v.lists owner cs (keys_named (command.Submit s)) shown.lists)))
      (λ none. ap (λ n. replies.Submitted n) is)
      (λ none. ap (λ n. all_written (submission_writes n caller s) (tables owner cs)) at ∙ made_at)
      (inl (list_any-append takes_off certificates components
      ∙ (ap (λ b. b || list_any takes_off components) (none_taken (λ row. writes.RequestCertificate row) (λ row. refl) (reverse (certificate_rows r)))
      ∙ none_taken (λ row. writes.RequestComponent row) (λ row. refl) (reverse (component_rows r)))))

-- a desk that shows a legal history has numbers left
pub has_numbers : (v : View) (caller : Caller) (s : Submission) (owner : List ℕ) (cs : History) (key : List ℕ) → is_legal cs ≡ true → Shows v (tables owner cs) (called caller key (command.Submit s)) → (greatest_number ≤ v.sizes.requests) → {A : Type 0} → A
has_numbers v caller s owner cs key legal shown full =
    let number : v.sizes.requests ≡ length (requests cs) = shown.sizes counted.Requests refl ∙ length-map (requests cs) (λ r. request_row (state cs r.number) r) in
    absurd (no_more v.sizes.requests (length (requests cs)) number full (legal_room cs legal))
  where
    no_more : (n m : ℕ) → n ≡ m → greatest_number ≤ n → m ≤ 100000 → ⊥
    no_more n m is h k = omega arith

pub count_seen : (v : View) (caller : Caller) (s : Submission) (owner : List ℕ) (cs : History) (key : List ℕ) → Shows v (tables owner cs) (called caller key (command.Submit s)) → v.sizes.requests ≡ length (requests cs)
count_seen v caller s owner cs key shown = shown.sizes counted.Requests refl ∙ length-map (requests cs) (λ r. request_row (state cs r.number) r)
