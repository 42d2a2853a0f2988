-- Histories of the same calls that show the same: what is read of them is the same.
use Rattle.std.proofs.Common.{◌≡◌, ℕ, suc, Bool, not, ◌&&◌, ◌||◌, List, [], ◌∷◌, Option, Some, None, find, map, length, refl, sym, ap, ap₂, ◌∙◌}
use Rattle.std.specs.Prelude.{◌==◌, if◌then◌else◌, bytes_eq, filter_map, nat_le, option_map}
use Rattle.std.specs.List.{cons_option, list_any}
use Rattle.std.specs.Option.{option_map_or}
use Rattle.std.proofs.Math.Path.{fun_ext}
use Rattle.sbat.specs.declared.component.Component.{Component}
use Rattle.base.specs.declared.refusal.Refusal.TheVariants as refusals
use Rattle.desk_types.specs.Callers.{caller_name}
use Rattle.desk_types.specs.Naming.{person_added}
use Rattle.desk_types.specs.declared.caller.Caller.{Caller}
use Rattle.desk_types.specs.declared.command.Call.{Call}
use Rattle.desk_types.specs.declared.command.Command.{Command}
use Rattle.desk_types.specs.declared.command.Command.TheVariants as command
use Rattle.desk_types.specs.declared.facts.Facts.{Facts}
use Rattle.desk_types.specs.declared.kind.ListedKind.{ListedKind}
use Rattle.desk_types.specs.declared.kind.ListedKind.TheVariants as kinds
use Rattle.desk_types.specs.declared.proposal.ProposalState.{ProposalState}
use Rattle.desk_types.specs.declared.proposal.ProposalState.TheVariants as states
use Rattle.desk_history.specs.Calls.{History, Item, distinct, is_among}
use Rattle.desk_history.specs.Forces.{InForce, forced}
use Rattle.desk_history.specs.Level.{generations, greatest, is_above, is_sbat, level, names, raises_some, stamp}
use Rattle.desk_history.specs.Limits.{is_within, most_calls, most_level_components, most_listed, most_people, most_proposals, most_requests, most_revoked_certificates, most_revoked_digests}
use Rattle.desk_history.specs.Listing.{has_entry, is_listed, listed}
use Rattle.desk_history.specs.People.{people}
use Rattle.desk_history.specs.Proposals.{Proposal, is_proposal, outcome_by, outcomes, proposal_state, proposals}
use Rattle.desk_history.specs.Refusals.{add_refusal, confirm_by, confirm_refusal, drop_refusal, explain_refusal, force_refusal, import_refusal, is_known, is_one_of, is_theirs, may_give, own_refusal, raise_refusal, refuse_if, return_refusal, review_refusal, withdraw_refusal}
use Rattle.desk_history.specs.Replies.{minutes}
use Rattle.desk_history.specs.Requests.{Returned, has_number, is_withdrawn, numbered, request, requests, return_of, returns, state, state_by, submission_of, vote_of, votes, votes_on, withdraws}
use Rattle.desk_history.specs.Revocations.{is_revoked, revocations}
use Rattle.desk_history.specs.Verdicts.{Standing, bars, is_barred, lists_image, standing, stands_in_db}
use Rattle.desk_history.proofs.ListingLemmas.{listed_rows_are_listed}

-- the calls, without the rules by which they were accepted
abbrev pub calls_of : History → List Call
calls_of cs = map (λ (i : Item). i.call) cs

-- The histories have the same calls, and these did the same.
pub record AreSame (a b : History) : Type 0 where
  pub same_calls : calls_of a ≡ calls_of b
  pub same_minutes : minutes a ≡ minutes b
  pub same_proposals : proposals a ≡ proposals b
  pub same_revocations : (kind : ListedKind) → revocations kind a ≡ revocations kind b
  pub same_generations : generations a ≡ generations b
  pub same_listed : listed a ≡ listed b
  pub same_stamp : stamp a ≡ stamp b

pub itself : (cs : History) → AreSame cs cs
itself cs = record {
  same_calls = refl;
  same_minutes = refl;
  same_proposals = refl;
  same_revocations = λ kind. refl;
  same_generations = refl;
  same_listed = refl;
  same_stamp = refl;
}

-- ---- what is read of the calls alone

filter_calls : {X : Type 0} (f : Call → Option X) (cs : History) → filter_map (λ (i : Item). f i.call) cs ≡ filter_map f (calls_of cs)
filter_calls f [] = refl
filter_calls f (i ∷ cs) = ap (cons_option (f i.call)) (filter_calls f cs)

any_calls : (p : Call → Bool) (cs : History) → list_any (λ (i : Item). p i.call) cs ≡ list_any p (calls_of cs)
any_calls p [] = refl
any_calls p (i ∷ cs) = ap (λ b. p i.call || b) (any_calls p cs)

length_calls : (cs : History) → length cs ≡ length (calls_of cs)
length_calls [] = refl
length_calls (i ∷ cs) = ap (λ n. suc n) (length_calls cs)

module _ (a b : History) (h : calls_of a ≡ calls_of b) where
  pub found : {X : Type 0} (f : Call → Option X) → filter_map (λ (i : Item). f i.call) a ≡ filter_map (λ (i : Item). f i.call) b
  found f = filter_calls f a ∙ ap (filter_map f) h ∙ sym (filter_calls f b)

  pub length_same : length a ≡ length b
  length_same = length_calls a ∙ ap length h ∙ sym (length_calls b)

  pub people_same : people a ≡ people b
  people_same = found (λ c. person_added c.command)

  pub requests_same : requests a ≡ requests b
  requests_same =
      ap numbered (found (λ c. option_map (λ s. record { submitter = caller_name c.caller; submission = s }) (submission_of c.command)))

  votes_same : votes a ≡ votes b
  votes_same = found (λ c. vote_of (caller_name c.caller) c.command)

  returns_same : returns a ≡ returns b
  returns_same = found (λ c. return_of (caller_name c.caller) c.command)

  outcomes_same : outcomes a ≡ outcomes b
  outcomes_same = found (λ c. outcome_by c.command)

  withdrawn_same : (k : ℕ) → is_withdrawn a k ≡ is_withdrawn b k
  withdrawn_same k =
      any_calls (λ c. withdraws k c.command) a ∙ ap (list_any (λ c. withdraws k c.command)) h ∙ sym (any_calls (λ c. withdraws k c.command) b)

  request_same : (k : ℕ) → request a k ≡ request b k
  request_same k = ap (find (has_number k)) requests_same

  votes_on_same : (k : ℕ) → votes_on (votes a) k ≡ votes_on (votes b) k
  votes_on_same k = ap (λ vs. votes_on vs k) votes_same

  pub state_same : (k : ℕ) → state a k ≡ state b k
  state_same k =
      ap₂ (λ rs vs. state_by (list_any (λ (r : Returned). k == r.request) rs) (is_withdrawn a k) (votes_on vs k)) returns_same votes_same
      ∙ ap (λ t. state_by (list_any (λ (r : Returned). k == r.request) (returns b)) t (votes_on (votes b) k)) (withdrawn_same k)

  proposal_state_same : (k : ℕ) → proposal_state a k ≡ proposal_state b k
  proposal_state_same k = ap (λ os. option_map_or (λ o. o.state) (find (λ o. k == o.proposal) os) states.Open) outcomes_same

-- ---- what is read of all

-- whether components raise the level of these generations
abbrev pub raising : List Component → List Component → Bool
raising gs xs = list_any (λ (x : Component). is_above x.generation (if is_sbat x.name then Some 1 else greatest gs x.name)) xs

alike : (r s l m : ListedKind → List ℕ → Bool) (p q : List ℕ → Option ℕ) → r ≡ s → l ≡ m → p ≡ q
    → ◌≡◌ {A = Standing} (record { revoked = r; listed = l; required = p }) (record { revoked = s; listed = m; required = q })
alike r s l m p q e f g = cc

module _ (a b : History) (h : AreSame a b) where
  listed_same : (kind : ListedKind) (digest : List ℕ) → is_listed kind a digest ≡ is_listed kind b digest
  listed_same kind digest =
      sym (listed_rows_are_listed a kind digest) ∙ ap (has_entry kind digest) h.same_listed ∙ listed_rows_are_listed b kind digest

  revoked_same : (kind : ListedKind) (digest : List ℕ) → is_revoked kind a digest ≡ is_revoked kind b digest
  revoked_same kind digest = ap (λ ds. is_among ds digest) (h.same_revocations kind)

  level_same : (name : List ℕ) → level a name ≡ level b name
  level_same name = ap (λ gs. if is_sbat name then Some 1 else greatest gs name) h.same_generations

  standing_same : standing a ≡ standing b
  standing_same =
      alike (λ kind digest. is_revoked kind a digest) (λ kind digest. is_revoked kind b digest) (λ kind digest. is_listed kind a digest) (λ kind digest. is_listed kind b digest)
      (λ name. level a name) (λ name. level b name) (fun_ext (λ kind. fun_ext (λ digest. revoked_same kind digest)))
      (fun_ext (λ kind. fun_ext (λ digest. listed_same kind digest))) (fun_ext (λ name. level_same name))

  barred_same : (x : Facts) → is_barred a x ≡ is_barred b x
  barred_same x = ap (λ s. bars s x) standing_same

  in_db_same : (x : Facts) → stands_in_db a x ≡ stands_in_db b x
  in_db_same x = ap (λ s. lists_image s x) standing_same

  raises_same : (f : InForce) → raises_some a f ≡ raises_some b f
  raises_same f = ap (λ gs. raising gs f.components) h.same_generations

  -- ---- refusals

  force_refusal_same : (c : Command) → force_refusal a c ≡ force_refusal b c
  force_refusal_same (command.RevokeDigest d) = ap (λ t. refuse_if t refusals.AlreadyRevoked) (revoked_same kinds.Digest d)
  force_refusal_same (command.RevokeCertificate d) = ap (λ t. refuse_if t refusals.AlreadyRevoked) (revoked_same kinds.Certificate d)
  force_refusal_same (command.RaiseLevel r) = ap₂ (λ l s. raise_refusal l s r) (level_same r.component.name) h.same_stamp
  force_refusal_same (command.ImportRevocations i) = ap₂ (λ t s. import_refusal t s i.stamp) (raises_same (forced i)) h.same_stamp
  force_refusal_same (command.AddPerson _) = refl
  force_refusal_same (command.Submit _) = refl
  force_refusal_same (command.Review _) = refl
  force_refusal_same (command.Withdraw _) = refl
  force_refusal_same (command.Return _) = refl
  force_refusal_same (command.ListCertificate _) = refl
  force_refusal_same (command.ListDigest _) = refl
  force_refusal_same (command.Unlist _) = refl
  force_refusal_same (command.Confirm _) = refl
  force_refusal_same (command.Drop _) = refl
  force_refusal_same (command.Explain _) = refl

  confirm_refusal_same : (o : Option Proposal) (s : ProposalState) (name : List ℕ) → confirm_refusal a o s name ≡ confirm_refusal b o s name
  confirm_refusal_same None s name = refl
  confirm_refusal_same (Some p) s name = ap (confirm_by s (bytes_eq p.officer name)) (force_refusal_same p.command)

  pub own_refusal_same : (name : List ℕ) (c : Command) → own_refusal a name c ≡ own_refusal b name c
  own_refusal_same name (command.AddPerson p) = ap (λ ps. add_refusal ps p) (people_same a b h.same_calls)
  own_refusal_same name (command.Submit s) = ap (λ t. refuse_if t refusals.Revoked) (barred_same s.facts)
  own_refusal_same name (command.Review r) =
      ap₂ (λ o s. review_refusal o s (votes_on (votes a) r.request) name) (request_same a b h.same_calls r.request) (state_same a b h.same_calls r.request)
      ∙ ap (λ vs. review_refusal (request b r.request) (state b r.request) vs name) (votes_on_same a b h.same_calls r.request)
  own_refusal_same name (command.Withdraw k) =
      ap₂ (λ o s. withdraw_refusal o s name) (request_same a b h.same_calls k) (state_same a b h.same_calls k)
  own_refusal_same name (command.Return r) =
      ap₂ (λ o s. return_refusal o s r.facts (is_barred a r.facts) (stands_in_db a r.facts)) (request_same a b h.same_calls r.request) (state_same a b h.same_calls r.request)
      ∙ ap₂ (λ t u. return_refusal (request b r.request) (state b r.request) r.facts t u) (barred_same r.facts) (in_db_same r.facts)
  own_refusal_same name (command.ListCertificate c) = ap (λ t. refuse_if t refusals.AlreadyListed) (listed_same kinds.Certificate c.tbs)
  own_refusal_same name (command.ListDigest d) = ap (λ t. refuse_if t refusals.AlreadyListed) (listed_same kinds.Digest d)
  own_refusal_same name (command.Unlist l) = ap (λ t. refuse_if (not t) refusals.NotThere) (listed_same l.kind l.digest)
  own_refusal_same name (command.RevokeDigest d) = force_refusal_same (command.RevokeDigest d)
  own_refusal_same name (command.RevokeCertificate d) = force_refusal_same (command.RevokeCertificate d)
  own_refusal_same name (command.RaiseLevel r) = force_refusal_same (command.RaiseLevel r)
  own_refusal_same name (command.ImportRevocations i) = force_refusal_same (command.ImportRevocations i)
  own_refusal_same name (command.Confirm k) =
      ap₂ (λ ps s. confirm_refusal a (find (is_proposal k) ps) s name) h.same_proposals (proposal_state_same a b h.same_calls k)
      ∙ confirm_refusal_same (find (is_proposal k) (proposals b)) (proposal_state b k) name
  own_refusal_same name (command.Drop k) =
      ap₂ (λ ps s. drop_refusal (find (is_proposal k) ps) s) h.same_proposals (proposal_state_same a b h.same_calls k)
  own_refusal_same name (command.Explain x) = ap (λ ps. explain_refusal (find (is_proposal x.proposal) ps)) h.same_proposals

  pub known_same : (c : Caller) → is_known a c ≡ is_known b c
  known_same c = ap (λ ps. is_one_of ps c) (people_same a b h.same_calls)

  pub theirs_same : (c : Caller) (given : Command) → may_give a c given ≡ may_give b c given
  theirs_same c given = ap (λ ps. is_theirs ps c given) (people_same a b h.same_calls)

  pub within_same : is_within a ≡ is_within b
  within_same =
      ap₂ ◌&&◌ (ap₂ ◌&&◌ (ap₂ ◌&&◌ (ap₂ ◌&&◌ (ap₂ ◌&&◌ (ap₂ ◌&&◌ (ap₂ ◌&&◌
      (ap (λ ps. nat_le (length ps) most_people) (people_same a b h.same_calls))
      (ap (λ rs. nat_le (length rs) most_requests) (requests_same a b h.same_calls)))
      (ap (λ ps. nat_le (length ps) most_proposals) h.same_proposals))
      (ap (λ es. nat_le (length es) most_listed) h.same_listed))
      (ap (λ ds. nat_le (length (distinct ds)) most_revoked_digests) (h.same_revocations kinds.Digest)))
      (ap (λ ds. nat_le (length (distinct ds)) most_revoked_certificates) (h.same_revocations kinds.Certificate)))
      (ap (λ gs. nat_le (length (names gs)) most_level_components) h.same_generations))
      (ap (λ n. nat_le n most_calls) (length_same a b h.same_calls))
