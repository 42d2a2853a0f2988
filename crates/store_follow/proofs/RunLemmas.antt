-- A run over minutes on a desk that has a history.
use Rattle.std.proofs.Common.{◌≡◌, inl, inr, ℕ, Bool, true, false, ◌||◌, List, [], ◌∷◌, Option, Some, Result, Ok, Err, refl, ap, subst}
use Rattle.std.specs.Prelude.{if◌then◌else◌, IfErr, IfOk}
use Rattle.std.specs.List.{list_all}
use Rattle.sqlite.specs.State.{State}
use Rattle.sqlite.specs.Store.{Ghosts}
use Rattle.desk_types.proofs.FormLemmas.{joined}
use Rattle.desk_history.specs.Calls.{First, History, Second, is_first, under}
use Rattle.desk_history.specs.Replies.{reply_to}
use Rattle.desk_minutes.specs.Minuted.{as_minuted, is_of_second, minuted_rules, shows_second}
use Rattle.store_desk.specs.Desks.{ShowsDesk}
use Rattle.store_desk.specs.declared.desk.Desk.{Desk}
use Rattle.store_first_rules.specs.Desks.{ShowsFirstDesk}
use Rattle.store_first_rules.specs.declared.desk.FirstDesk.{FirstDesk}
use Rattle.store_audit.specs.Rules.{HasFollowedFirst}
use Rattle.store_minutes.specs.Starts.{HasFollowedSecond}
use Rattle.store_minutes.specs.Starts.{HasFollowedAfter, IsWrongAfter, LeavesFollowed, Start}
use Rattle.store_minutes.specs.declared.auditing.AuditFault.{AuditFault}
use Rattle.store_minutes.specs.declared.auditing.AuditFault.TheVariants as audits
use Rattle.base.specs.declared.refusal.Refusal.{Refusal}
use Rattle.store_minutes.specs.Comparing.{HasAll}
use Rattle.store_follow.specs.Runs.{HasRun, IsWrongLine, LeavesRun}

none_right : (a b : Bool) → (a || b) ≡ false → b ≡ false
none_right true b e = absurd (cc)
none_right false b e = e

-- without a reply of the second rules a history is by the first alone, as its minutes tell it
none_second : (cs : History) → shows_second cs ≡ false → list_all is_first (as_minuted cs) ≡ true
none_second [] h = refl
none_second (i ∷ cs) h =
    joined (is_first (under (minuted_rules (i ∷ cs)) i.call)) (list_all is_first (as_minuted cs)) (ap (λ b. is_first (under (if b then Second else First) i.call)) h)
    (none_second cs (none_right (is_of_second (reply_to cs i)) (shows_second cs) h))

-- so one that isn't, and is as its minutes tell it, has such a reply
pub past_second : (cs : History) → list_all is_first cs ≡ false → as_minuted cs ≡ cs → shows_second cs ≡ true
past_second cs past minuted = by (shows_second cs) refl
  where
    by : (b : Bool) → shows_second cs ≡ b → shows_second cs ≡ true
    by true e = e
    by false e = absurd (let first : list_all is_first cs ≡ true = subst (λ l. list_all is_first l ≡ true) minuted (none_second cs e) in cc)

module _ {S : Type 0} (g : Ghosts S) where
  -- a desk that goes on by the first rules
  pub goes_first : (desk : FirstDesk S) (s : Start) (calls : ℕ) (left : Option (List ℕ)) → ShowsFirstDesk g desk s.owner s.earlier → HasAll s calls left → HasFollowedFirst g desk s calls left
  goes_first desk s calls left shows all = record { history = s.earlier; shows = shows; goes_on = ([], refl); count = all.count; given = all.given }

  -- and by the second
  pub goes_second : (desk : Desk S) (s : Start) (calls : ℕ) (left : Option (List ℕ)) → ShowsDesk g desk s.owner s.earlier → list_all is_first s.earlier ≡ false → HasAll s calls left
      → HasFollowedSecond g desk s calls left
  goes_second desk s calls left shows past all = record {
    followed = record { history = s.earlier; shows = shows; goes_on = ([], refl); minuted = λ m. m; count = all.count; given = all.given };
    past = past;
    second = λ m. past_second s.earlier past m;
  }

pub leaves_run : (at : State) (s : Start) → LeavesFollowed at s → LeavesRun at s
leaves_run at s left clean db may = inr (left clean db may)

-- ---- results

pub ok_map : {A E : Type 0} (r : Result A E) (P Q : A → Type 0) → ((a : A) → P a → Q a) → IfOk r P → IfOk r Q
ok_map (Ok a) P Q f p = f a p
ok_map (Err e) P Q f p = tt

pub err_map : {A E : Type 0} (r : Result A E) (P Q : E → Type 0) → ((e : E) → P e → Q e) → IfErr r P → IfErr r Q
err_map (Ok a) P Q f p = tt
err_map (Err e) P Q f p = f e p

module _ {S E : Type 0} (g : Ghosts S) (desk : Desk S) (s : Start) where
  -- a run that followed lines
  pub runs_on : (r : Result ℕ E) → IfOk r (λ n. HasFollowedAfter g desk s n (Some [])) → IfOk r (HasRun g desk s)
  runs_on r h = ok_map r (λ n. HasFollowedAfter g desk s n (Some [])) (HasRun g desk s) (λ n f. inl f) h

-- or met a wrong one
pub wrong_on : {S A : Type 0} (g : Ghosts S) (old desk : Desk S) (s : Start) (r : Result A AuditFault) → IfErr r (λ fault. (n : ℕ) → fault ≡ audits.Line n → IsWrongAfter (ShowsDesk g desk s.owner) s n)
    → IfErr r (λ fault. (n : ℕ) → fault ≡ audits.Line n → IsWrongLine g old desk s n)
wrong_on g old desk s r h = err_map r (λ fault. (n : ℕ) → fault ≡ audits.Line n → IsWrongAfter (ShowsDesk g desk s.owner) s n)
    (λ fault. (n : ℕ) → fault ≡ audits.Line n → IsWrongLine g old desk s n) (λ fault w n is. inr (w n is)) h

pub no_line : (r : Refusal) (n : ℕ) → ◌≡◌ {A = AuditFault} (audits.Device r) (audits.Line n) → ⊥
no_line r n e = cc
