-- Calls that do the same by other rules, and their answers.
use Rattle.std.proofs.Common.{◌≡◌, ◌⊎◌, inl, inr, ℕ, ◌+◌, ◌-◌, false, not, ◌∷◌, ◌++◌, Option, Some, None, filter, find, length, refl, sym, ap, ap₂, subst, ◌∙◌}
use Rattle.std.specs.Prelude.{if◌then◌else◌, option_map, unwrap_or}
use Rattle.std.specs.Option.{option_map_or, option_or}
use Rattle.sbat.specs.declared.component.Component.{Component}
use Rattle.base.specs.declared.refusal.Refusal.TheVariants as refusals
use Rattle.desk_types.specs.Callers.{caller_name}
use Rattle.desk_types.specs.CommandTexts.{text_of}
use Rattle.desk_types.specs.declared.command.Call.{Call}
use Rattle.desk_types.specs.declared.command.Command.{Command}
use Rattle.desk_types.specs.declared.command.Command.TheVariants as command
use Rattle.desk_types.specs.declared.kind.ListedKind.{ListedKind}
use Rattle.desk_types.specs.declared.kind.ListedKind.TheVariants as kinds
use Rattle.desk_types.specs.declared.reply.Counts.{Counts}
use Rattle.desk_types.specs.declared.reply.Reply.{Reply}
use Rattle.desk_types.specs.declared.reply.Reply.TheVariants as replies
use Rattle.desk_history.specs.Calls.{First, History, Rules, Second, distinct, under}
use Rattle.desk_history.specs.Forces.{confirmed_by, enforced_by, forced, into_force, nothing, revoked_in}
use Rattle.desk_history.specs.Level.{generations, greatest, is_above, is_sbat, names, stamp}
use Rattle.desk_history.specs.Limits.{is_within}
use Rattle.desk_history.specs.Listing.{relisted}
use Rattle.desk_history.specs.Proposals.{Named, is_proposal, named_by, outcome_by, proposals, proposed_by, with_next}
use Rattle.desk_history.specs.Refusals.{is_known, may_give, own_refusal, refusal_of, refuse_if}
use Rattle.desk_history.specs.Replies.{counted, gained, minute_of, or_proposed, raised_count, reply_by, reply_to}
use Rattle.desk_history.specs.Revocations.{revocations}
use Rattle.desk_history.specs.Runs.{answer_known, earlier, has_key, ruling}
use Rattle.desk_history.specs.declared.answer.Answer.TheVariants.{Refused}
use Rattle.desk_history.specs.declared.rows.Minute.{Minute}
use Rattle.desk_minutes.specs.Minuted.{is_of_second}
use Rattle.desk_minutes.proofs.SameLemmas.{AreSame, calls_of, known_same, length_same, own_refusal_same, raising, requests_same, state_same, theirs_same, within_same}

-- ---- calls that put nothing into force and propose nothing, by either rules

pub record IsNeutral (c : Command) : Type 0 where
  pub names : named_by c ≡ None
  pub closes : outcome_by c ≡ None

neutral : {c : Command} → named_by c ≡ None → outcome_by c ≡ None → IsNeutral c
neutral h k = record { names = h; closes = k }

-- so is each to which the second rules give a reply that the first give too
pub second_neutral : (cs : History) (c : Call) (given : Command) → is_of_second (reply_by cs (under Second c) given) ≡ false → IsNeutral given
second_neutral cs c (command.AddPerson p) h = neutral refl refl
second_neutral cs c (command.Submit s) h = neutral refl refl
second_neutral cs c (command.Review r) h = neutral refl refl
second_neutral cs c (command.Withdraw k) h = neutral refl refl
second_neutral cs c (command.Return r) h = neutral refl refl
second_neutral cs c (command.ListCertificate l) h = neutral refl refl
second_neutral cs c (command.ListDigest d) h = neutral refl refl
second_neutral cs c (command.Unlist l) h = neutral refl refl
second_neutral cs c (command.RevokeDigest d) h = absurd (cc)
second_neutral cs c (command.RevokeCertificate d) h = absurd (cc)
second_neutral cs c (command.RaiseLevel r) h = absurd (cc)
second_neutral cs c (command.ImportRevocations i) h = absurd (cc)
second_neutral cs c (command.Confirm k) h = absurd (cc)
second_neutral cs c (command.Drop k) h = absurd (cc)
second_neutral cs c (command.Explain x) h = neutral refl refl

-- a call that closes no proposal gets no reply of the second rules by the first
pub first_reply : (cs : History) (c : Call) (given : Command) → outcome_by given ≡ None → is_of_second (reply_by cs (under First c) given) ≡ false
first_reply cs c (command.AddPerson p) h = refl
first_reply cs c (command.Submit s) h = refl
first_reply cs c (command.Review r) h = refl
first_reply cs c (command.Withdraw k) h = refl
first_reply cs c (command.Return r) h = refl
first_reply cs c (command.ListCertificate l) h = refl
first_reply cs c (command.ListDigest d) h = refl
first_reply cs c (command.Unlist l) h = refl
first_reply cs c (command.RevokeDigest d) h = refl
first_reply cs c (command.RevokeCertificate d) h = refl
first_reply cs c (command.RaiseLevel r) h = refl
first_reply cs c (command.ImportRevocations i) h = refl
first_reply cs c (command.Confirm k) h = absurd (cc)
first_reply cs c (command.Drop k) h = absurd (cc)
first_reply cs c (command.Explain x) h = refl

confirmed_none : (cs : History) (c : Command) → outcome_by c ≡ None → confirmed_by cs c ≡ None
confirmed_none cs (command.AddPerson p) h = refl
confirmed_none cs (command.Submit s) h = refl
confirmed_none cs (command.Review r) h = refl
confirmed_none cs (command.Withdraw k) h = refl
confirmed_none cs (command.Return r) h = refl
confirmed_none cs (command.ListCertificate l) h = refl
confirmed_none cs (command.ListDigest d) h = refl
confirmed_none cs (command.Unlist l) h = refl
confirmed_none cs (command.RevokeDigest d) h = refl
confirmed_none cs (command.RevokeCertificate d) h = refl
confirmed_none cs (command.RaiseLevel r) h = refl
confirmed_none cs (command.ImportRevocations i) h = refl
confirmed_none cs (command.Confirm k) h = absurd (cc)
confirmed_none cs (command.Drop k) h = absurd (cc)
confirmed_none cs (command.Explain x) h = refl

confirmed_same : (a b : History) (c : Command) → proposals a ≡ proposals b → confirmed_by a c ≡ confirmed_by b c
confirmed_same a b (command.Confirm k) e = ap (λ ps. option_map (λ p. p.named.entries) (find (is_proposal k) ps)) e
confirmed_same a b (command.AddPerson p) e = refl
confirmed_same a b (command.Submit s) e = refl
confirmed_same a b (command.Review r) e = refl
confirmed_same a b (command.Withdraw k) e = refl
confirmed_same a b (command.Return r) e = refl
confirmed_same a b (command.ListCertificate c) e = refl
confirmed_same a b (command.ListDigest d) e = refl
confirmed_same a b (command.Unlist l) e = refl
confirmed_same a b (command.RevokeDigest d) e = refl
confirmed_same a b (command.RevokeCertificate d) e = refl
confirmed_same a b (command.RaiseLevel r) e = refl
confirmed_same a b (command.ImportRevocations i) e = refl
confirmed_same a b (command.Drop k) e = refl
confirmed_same a b (command.Explain x) e = refl

-- ---- calls that do the same

pub record IsAlike (a b : History) (c : Call) (r s : Rules) : Type 0 where
  pub enforced : enforced_by a (under r c) ≡ enforced_by b (under s c)
  pub proposed : proposed_by (under r c) ≡ proposed_by (under s c)

none_enforced : (cs : History) (c : Call) (r : Rules) → IsNeutral c.command → enforced_by cs (under r c) ≡ None
none_enforced cs c First h = ap (option_map (λ n. n.entries)) h.names
none_enforced cs c Second h = confirmed_none cs c.command h.closes

none_proposed : (c : Call) (r : Rules) → IsNeutral c.command → proposed_by (under r c) ≡ None
none_proposed c First h = refl
none_proposed c Second h = h.names

by_one : (a b : History) (c : Call) (r : Rules) → proposals a ≡ proposals b → IsAlike a b c r r
by_one a b c First e = record { enforced = refl; proposed = refl }
by_one a b c Second e = record { enforced = confirmed_same a b c.command e; proposed = refl }

-- by the same rules, or neutral
pub alike : (a b : History) (c : Call) (r s : Rules) → proposals a ≡ proposals b → (r ≡ s) ⊎ IsNeutral c.command → IsAlike a b c r s
alike a b c r s e (inl same) = subst (IsAlike a b c r) same (by_one a b c r e)
alike a b c r s e (inr h) = record {
  enforced = none_enforced a c r h ∙ sym (none_enforced b c s h);
  proposed = none_proposed c r h ∙ sym (none_proposed c s h);
}

-- ---- their replies, their answers and what they leave

counts_are : (d e c f x y p q : ℕ) → d ≡ e → c ≡ f → x ≡ y → p ≡ q
    → ◌≡◌ {A = Counts} (record { digests = d; certificates = c; components = x; passed = p }) (record { digests = e; certificates = f; components = y; passed = q })
counts_are d e c f x y p q h i j k = cc

-- the rules of a call that names something are told by whether it proposes
named_rules : (cs : History) (r s : Rules) (n : Named) (given : Reply) → ◌≡◌ {A = Option Named} (elim r [ First ↦ None | Second ↦ Some n ]) (elim s [ First ↦ None | Second ↦ Some n ])
    → or_proposed cs r given ≡ or_proposed cs s given
named_rules cs First First n given e = refl
named_rules cs Second Second n given e = refl
named_rules cs First Second n given e = absurd (cc)
named_rules cs Second First n given e = absurd (cc)

proposed_over : (a b : History) (s : Rules) (given : Reply) → proposals a ≡ proposals b → or_proposed a s given ≡ or_proposed b s given
proposed_over a b First given e = refl
proposed_over a b Second given e = ap (λ ps. replies.Proposed (length ps + 1)) e

minute_is : (m n : ℕ) (c : Call) (given other : Reply) → m ≡ n → given ≡ other
    → ◌≡◌ {A = Minute} (record { number = m; caller = c.caller; key = c.key; text = text_of c.command; reply = given }) (record { number = n; caller = c.caller; key = c.key; text = text_of c.command; reply = other })
minute_is m n c given other e f = cc

module _ (a b : History) (c : Call) (r s : Rules) (h : AreSame a b) (k : IsAlike a b c r s) where
  force_same : into_force a (under r c) ≡ into_force b (under s c)
  force_same = ap (λ o. option_map_or forced o nothing) k.enforced

  calls_more : calls_of (under r c ∷ a) ≡ calls_of (under s c ∷ b)
  calls_more = ap (λ cs. c ∷ cs) h.same_calls

  revocations_more : (kind : ListedKind) → revocations kind (under r c ∷ a) ≡ revocations kind (under s c ∷ b)
  revocations_more kind = ap₂ ◌++◌ (ap (revoked_in kind) force_same) (h.same_revocations kind)

  gained_same : (kind : ListedKind) → gained kind a (under r c) ≡ gained kind b (under s c)
  gained_same kind = ap₂ (λ ds es. length (distinct ds) - length (distinct es)) (revocations_more kind) (h.same_revocations kind)

  counted_same : counted a (under r c) ≡ counted b (under s c)
  counted_same =
      counts_are (gained kinds.Digest a (under r c)) (gained kinds.Digest b (under s c)) (gained kinds.Certificate a (under r c)) (gained kinds.Certificate b (under s c))
      (raised_count a (into_force a (under r c))) (raised_count b (into_force b (under s c)))
      (option_map_or (λ n. n.passed) (enforced_by a (under r c)) 0) (option_map_or (λ n. n.passed) (enforced_by b (under s c)) 0)
      (gained_same kinds.Digest) (gained_same kinds.Certificate)
      (ap₂ (λ gs f. length (names (filter (λ (x : Component). is_above x.generation (if is_sbat x.name then Some 1 else greatest gs x.name)) f.components))) h.same_generations force_same)
      (ap (λ o. option_map_or (λ n. n.passed) o 0) k.enforced)

  -- to each command in such a call, if it is neutral or the rules are the same for it
  reply_by_same : (given : Command) → ◌≡◌ {A = Option Named} (elim r [ First ↦ None | Second ↦ named_by given ]) (elim s [ First ↦ None | Second ↦ named_by given ])
      → reply_by a (under r c) given ≡ reply_by b (under s c) given
  reply_by_same (command.AddPerson p) e = refl
  reply_by_same (command.Submit m) e = ap (λ rs. replies.Submitted (length rs + 1)) (requests_same a b h.same_calls)
  reply_by_same (command.Review v) e =
      ap (λ t. replies.Reviewed (record { request = v.request; state = t })) (state_same (under r c ∷ a) (under s c ∷ b) calls_more v.request)
  reply_by_same (command.Withdraw n) e = refl
  reply_by_same (command.Return n) e = refl
  reply_by_same (command.ListCertificate l) e = refl
  reply_by_same (command.ListDigest d) e = refl
  reply_by_same (command.Unlist l) e = refl
  reply_by_same (command.RevokeDigest d) e = named_rules a r s _ replies.Revoked e ∙ proposed_over a b s replies.Revoked h.same_proposals
  reply_by_same (command.RevokeCertificate d) e = named_rules a r s _ replies.Revoked e ∙ proposed_over a b s replies.Revoked h.same_proposals
  reply_by_same (command.RaiseLevel x) e = named_rules a r s _ replies.Raised e ∙ proposed_over a b s replies.Raised h.same_proposals
  reply_by_same (command.ImportRevocations i) e =
      ap (λ n. or_proposed a r (replies.Imported n)) counted_same
      ∙ named_rules a r s _ (replies.Imported (counted b (under s c))) e ∙ proposed_over a b s (replies.Imported (counted b (under s c))) h.same_proposals
  reply_by_same (command.Confirm n) e = ap (λ t. replies.Confirmed (record { proposal = n; counts = t })) counted_same
  reply_by_same (command.Drop n) e = refl
  reply_by_same (command.Explain x) e = refl

  pub reply_same : reply_to a (under r c) ≡ reply_to b (under s c)
  reply_same = reply_by_same c.command k.proposed

  pub minute_same : minute_of a (under r c) ≡ minute_of b (under s c)
  minute_same = minute_is (length a + 1) (length b + 1) c (reply_to a (under r c)) (reply_to b (under s c)) (ap (λ n. n + 1) (length_same a b h.same_calls)) reply_same

  -- and the histories that they leave
  pub same_more : AreSame (under r c ∷ a) (under s c ∷ b)
  same_more = record {
    same_calls = calls_more;
    same_minutes = ap₂ ◌∷◌ minute_same h.same_minutes;
    same_proposals = ap₂ (λ ps o. with_next ps c o) h.same_proposals k.proposed;
    same_revocations = revocations_more;
    same_generations = ap₂ ◌++◌ (ap (λ f. f.components) force_same) h.same_generations;
    same_listed = ap (relisted c.command) h.same_listed;
    same_stamp =
        ap (λ f. if raising (generations a) f.components then unwrap_or f.stamp (stamp a) else stamp a) force_same
        ∙ ap₂ (λ gs n. if raising gs (into_force b (under s c)).components then unwrap_or (into_force b (under s c)).stamp n else n) h.same_generations h.same_stamp;
  }

  refusal_same : refusal_of a (under r c) ≡ refusal_of b (under s c)
  refusal_same =
      ap₂ (λ t o. if not t then Some refusals.NotYourRole else option_or o (refuse_if (not (is_within (under r c ∷ a))) refusals.Full))
      (theirs_same a b h c.caller c.command) (own_refusal_same a b h (caller_name c.caller) c.command)
      ∙ ap (λ t. if not (may_give b c.caller c.command) then Some refusals.NotYourRole else option_or (own_refusal b (caller_name c.caller) c.command) (refuse_if (not t) refusals.Full))
      (within_same (under r c ∷ a) (under s c ∷ b) same_more)

  pub ruling_same : ruling a (under r c) ≡ ruling b (under s c)
  ruling_same =
      ap₂ (λ t ms. if not t then Refused refusals.UnknownCaller else answer_known (find (has_key (caller_name c.caller) c.key) ms) (text_of c.command) (refusal_of a (under r c)) (reply_to a (under r c)))
      (known_same a b h c.caller) h.same_minutes
      ∙ ap₂ (λ o given. if not (is_known b c.caller) then Refused refusals.UnknownCaller else answer_known (earlier b c) (text_of c.command) o given) refusal_same reply_same
