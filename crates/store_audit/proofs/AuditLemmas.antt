-- Minutes followed line by line.
use Rattle.std.proofs.Common.{◌≡◌, ◌⊎◌, ℕ, ◌+◌, ◌<◌, ◌^◌, ◌∙◌, true, false, ◌||◌, List, [], ◌∷◌, ◌++◌, length, Option, None, Some, IfSome, refl, sym, ap, subst, append_assoc, arith, IsTrue, Result, Err, true≢false}
use Rattle.std.specs.Io.KnownBytes.{Consumes}
use Rattle.std.proofs.KnownBytes.{Consumes-nil}
use Rattle.sqlite.specs.Held.{state}
use Rattle.sqlite.specs.State.{State}
use Rattle.sqlite.specs.Store.{Ghosts}
use Rattle.store_schema.specs.rows.Histories.{HoldsHistory, LeavesHistory}
use Rattle.store_sql.specs.States.{Leaves}
use Rattle.desk_history.specs.Calls.{First, History, Item, Second, under}
use Rattle.desk_history.specs.Formed.{IsHistory}
use Rattle.desk_history.specs.Replies.{reply_to}
use Rattle.desk_exports.specs.Exports.{minutes_text}
use Rattle.desk_minutes.specs.Follows.{HasNoNext}
use Rattle.desk_minutes.specs.Minuted.{as_minuted, is_of_second, shows_second}
use Rattle.desk_minutes.proofs.FollowLemmas.{none_goes_through}
use Rattle.desk_minutes.proofs.MinutedLemmas.{first_minuted, second_minuted}
use Rattle.store_desk.specs.Desks.{ForEachShown, KeepsDesk, ShowsDesk}
use Rattle.store_desk.specs.declared.desk.Desk.{Desk}
use Rattle.store_first_rules.specs.Desks.{ShowsFirstDesk}
use Rattle.store_first_rules.specs.declared.desk.FirstDesk.{FirstDesk}
use Rattle.store_minutes.specs.Following.{EndsBefore, GoesOn, GoesOnWith}
use Rattle.store_minutes.specs.Lines.{TakesLine}
use Rattle.store_minutes.specs.Starts.{HasFollowedAfter, HasFollowedSecond, IsWrongAfter, LeavesFollowed, Start}
use Rattle.store_minutes.proofs.StartLemmas.{given_more, goes_more, leaves_followed, leaves_next, second_wrong, wrong_after}
use Rattle.store_audit.specs.Audits.{HasFollowed, IsWrongAt}
use Rattle.store_audit.specs.Rules.{HasBegun, HasFollowedFirst, HasTurned}
use Rattle.sqlite.specs.Schema.{Schema}
use Rattle.store_schema.specs.Names.{takes_a_desk_name}
use Rattle.store_schema.specs.Tables.{no_schema}
use Rattle.store_minutes.specs.declared.auditing.AuditFault.{AuditFault}
use Rattle.store_minutes.specs.declared.auditing.AuditFault.TheVariants.{Line}
use Rattle.store_audit.specs.declared.auditing.FirstEnd.{FirstEnd}
use Rattle.store_audit.specs.declared.auditing.FirstEnd.TheVariants.{All, Before}
use Rattle.store_audit.proofs.BeginningLemmas.{none_told, small_number, told_reply}

-- ---- a wrong line

-- no history's minutes go on with it, from a history as its minutes tell it
pub wrong_at : (shown : History → Type 0) (s : Start) (n : ℕ) → as_minuted s.earlier ≡ s.earlier → IsWrongAfter shown s n → IsWrongAt s.bytes n
wrong_at shown s n minuted w = record {
  history = w.history;
  before = minutes_text w.history;
  line = w.line;
  after = w.after;
  parts = w.parts;
  follows = record { history = w.legal; minutes = refl };
  count = w.count;
  one = w.one;
  ends = w.ends;
  none = none_goes_through w.history w.line w.legal w.one (subst (λ l. HasNoNext l w.line) (sym (w.minuted minuted)) w.none);
}

-- it is wrong after what a desk shows otherwise
pub shown_so : (before after : History → Type 0) (s : Start) (n : ℕ) → ((cs : History) → before cs → after cs) → IsWrongAfter before s n → IsWrongAfter after s n
shown_so before after s n f w = record {
  history = w.history;
  shows = f w.history w.shows;
  legal = w.legal;
  goes_on = w.goes_on;
  minuted = w.minuted;
  line = w.line;
  after = w.after;
  parts = w.parts;
  count = w.count;
  one = w.one;
  ends = w.ends;
  none = w.none;
}

-- a stop leaves the lines before it
pub wrong_left : (s : Start) (at : State) (shown : History → Type 0) (n : ℕ) → ((cs : History) → shown cs → LeavesHistory at s.owner cs) → IsWrongAfter shown s n → LeavesFollowed at s
wrong_left s at shown n left w clean db may = record {
  history = w.history;
  legal = w.legal;
  goes_on = w.goes_on;
  begins = (w.line ++ w.after, w.parts ∙ append_assoc (minutes_text w.history) w.line w.after);
  holds = left w.history w.shows clean db may;
}

-- ---- replies that only the second rules give

pub now_second : (cs : History) (i : Item) → is_of_second (reply_to cs i) ≡ true → shows_second (i ∷ cs) ≡ true
now_second cs i h = ap (λ b. b || shows_second cs) h

-- ---- the desk that follows them

module _ {S : Type 0} (g : Ghosts S) where
  -- a desk without calls
  pub begins : (desk : FirstDesk S) (owner bytes : List ℕ) → ShowsFirstDesk g desk owner [] → HasFollowedFirst g desk (record { owner = owner; earlier = []; bytes = bytes }) 0 (Some bytes)
  begins desk owner bytes h = record { history = []; shows = h; goes_on = ([], refl); count = refl; given = Consumes-nil (Some bytes) }

  pub first_goes_on : (old new : FirstDesk S) (s : Start) (calls : ℕ) (mid now : Option (List ℕ)) (line : List ℕ) (f : HasFollowedFirst g old s calls mid)
      → TakesLine mid now line → GoesOn First (ShowsFirstDesk g new s.owner) f.history line → HasFollowedFirst g new s (calls + 1) now
  first_goes_on old new s calls mid now line f t next = record {
    history = under First next.call ∷ f.history;
    shows = next.shows;
    goes_on = goes_more s.earlier f.history (under First next.call) f.goes_on;
    count = let longer : length (under First next.call ∷ f.history) ≡ calls + 1 = omega (arith, f.count) in longer;
    given = given_more f.history (under First next.call) (Some s.bytes) mid now line f.given t next.is;
  }

  pub first_wrong : (old new : FirstDesk S) (s : Start) (calls : ℕ) (mid now : Option (List ℕ)) (line : List ℕ) (f : HasFollowedFirst g old s calls mid)
      → TakesLine mid now line → HasNoNext f.history line → ShowsFirstDesk g new s.owner f.history → IsWrongAfter (ShowsFirstDesk g new s.owner) s (calls + 1)
  first_wrong old new s calls mid now line f t none shows =
      wrong_after (ShowsFirstDesk g new s.owner) s f.history calls mid now line f.shows.history shows f.goes_on
      (λ _. first_minuted f.history f.shows.history.legal f.shows.first) f.count f.given t none

  pub first_left : (desk : FirstDesk S) (s : Start) (calls : ℕ) (left : Option (List ℕ)) → HasFollowedFirst g desk s calls left → LeavesFollowed (state g desk.conn) s
  first_left desk s calls left f = leaves_followed s (state g desk.conn) f.history left f.shows.history f.goes_on f.given f.shows.left

  -- the desk goes on by the second rules
  handed : (old : FirstDesk S) (new : Desk S) (s : Start) (calls : ℕ) (mid : Option (List ℕ)) → ((cs : History) → ShowsFirstDesk g old s.owner cs → ShowsDesk g new s.owner cs)
      → HasFollowedFirst g old s calls mid → HasFollowedAfter g new s calls mid
  handed old new s calls mid shows f = record {
    history = f.history;
    shows = shows f.history f.shows;
    goes_on = f.goes_on;
    minuted = λ _. first_minuted f.history f.shows.history.legal f.shows.first;
    count = f.count;
    given = f.given;
  }

  pub handed_over : (old : FirstDesk S) (new : Desk S) (s : Start) (end : FirstEnd) (now : Option (List ℕ)) (line : List ℕ)
      → ((cs : History) → ShowsFirstDesk g old s.owner cs → ShowsDesk g new s.owner cs) → HasBegun g old s end now line → HasTurned g new s end now line
  handed_over old new s (All calls) now line shows h = (h.0, handed old new s calls h.0 shows h.1, h.2)
  handed_over old new s (Before number) now line shows h = (h.0, h.1, handed old new s h.0 h.1 shows h.2, h.3)

  -- what a stop leaves of a desk that has followed the lines by the first rules
  pub begun_left : (desk : FirstDesk S) (s : Start) (end : FirstEnd) (now : Option (List ℕ)) (line : List ℕ) → HasBegun g desk s end now line → LeavesFollowed (state g desk.conn) s
  begun_left desk s (All calls) now line h = first_left desk s calls h.0 h.1
  begun_left desk s (Before number) now line h = first_left desk s h.0 h.1 h.2

  -- the history that it shows
  pub begun_shown : (desk : FirstDesk S) (s : Start) (end : FirstEnd) (now : Option (List ℕ)) (line : List ℕ) → HasBegun g desk s end now line → (cs : History) × ShowsFirstDesk g desk s.owner cs
  begun_shown desk s (All calls) now line h = (h.1.history, h.1.shows)
  begun_shown desk s (Before number) now line h = (h.2.history, h.2.shows)

  -- from the line on that only the second rules give
  pub turns : (old new : Desk S) (s : Start) (number : ℕ) (now : Option (List ℕ)) (line : List ℕ) → HasTurned g old s (Before number) now line
      → GoesOnWith g old new number line → HasFollowedSecond g new s number now
  turns old new s number now line was goes =
      let f = was.2 in
      let t = was.3 in
      let is : number ≡ length f.history + 1 = t.is_next ∙ ap (λ n. n + 1) (sym f.count) in
      let next = goes s.owner f.history f.shows is in
      let i = under Second next.call in
      let small = subst (λ n. n < 2 ^ 64) (sym is) (small_number f.history f.shows.history) in
      let reply = told_reply f.history line number i next.shows.history small is next.is t.tells in
      let second : shows_second (i ∷ f.history) ≡ true = now_second f.history i reply in
      subst (λ n. HasFollowedSecond g new s n now) (sym t.is_next) (record {
        followed = record {
          history = i ∷ f.history;
          shows = next.shows;
          goes_on = goes_more s.earlier f.history i f.goes_on;
          minuted = λ m. second_minuted f.history next.call second (f.minuted m);
          count = let longer : length (i ∷ f.history) ≡ was.0 + 1 = omega (arith, f.count) in longer;
          given = given_more f.history i (Some s.bytes) was.1 now line f.given t.takes next.is;
        };
        past = refl;
        second = λ _. second;
      })

  pub turn_wrong : (old new : Desk S) (s : Start) (number : ℕ) (now : Option (List ℕ)) (line : List ℕ) → HasTurned g old s (Before number) now line
      → EndsBefore g old number line → KeepsDesk g old new → IsWrongAfter (ShowsDesk g new s.owner) s number
  turn_wrong old new s number now line was ends kept =
      let f = was.2 in
      let t = was.3 in
      let h = f.shows.history in
      let is : number ≡ length f.history + 1 = t.is_next ∙ ap (λ n. n + 1) (sym f.count) in
      let small : number < 2 ^ 64 = subst (λ n. n < 2 ^ 64) (sym is) (small_number f.history h) in
      let none = none_told f.history line number t.tells.call t.tells.reply h small is t.tells.told t.tells.is t.tells.second (ends s.owner f.history f.shows is) in
      subst (λ n. IsWrongAfter (ShowsDesk g new s.owner) s n) (sym t.is_next) (second_wrong g old new s was.0 was.1 now line f t.takes none (kept s.owner f.history f.shows))

  pub turn_left : (old : Desk S) (at : State) (s : Start) (number : ℕ) (now : Option (List ℕ)) (line given_line : List ℕ) → HasTurned g old s (Before number) now line → given_line ≡ line
      → ForEachShown g old (λ owner cs. number ≡ length cs + 1 → Leaves at (λ db. HoldsHistory db owner cs ⊎ GoesOn Second (HoldsHistory db owner) cs given_line)) → LeavesFollowed at s
  turn_left old at s number now line given_line was same stopped =
      let f = was.2 in
      let t = was.3 in
      let is : number ≡ length f.history + 1 = t.is_next ∙ ap (λ n. n + 1) (sym f.count) in
      leaves_next Second s at f.history was.1 now line given_line f.shows.history f.goes_on f.given t.takes same (stopped s.owner f.history f.shows is)

  -- what a desk without calls has followed is audited
  pub audited : (desk : Desk S) (owner bytes : List ℕ) (calls : ℕ) → HasFollowedAfter g desk (record { owner = owner; earlier = []; bytes = bytes }) calls (Some [])
      → HasFollowed g desk owner calls (Some bytes) (Some [])
  audited desk owner bytes calls f = record { history = f.history; shows = f.shows; minuted = f.minuted refl; count = f.count; given = f.given }

-- what holds of the bytes, if they are known
pub known_so : (known : Option (List ℕ)) (P : List ℕ → Type 0) → ((bytes : List ℕ) → known ≡ Some bytes → P bytes) → IfSome known P
known_so None P f = tt
known_so (Some bytes) P f = f bytes refl

-- minutes of a history have no wrong line
pub none_wrong : (known : Option (List ℕ)) (n : ℕ) (cs : History) → IfSome known (λ given. IsWrongAt given n) → IsHistory cs → known ≡ Some (minutes_text cs) → ⊥
none_wrong None n cs w h same = absurd (cc)
none_wrong (Some given) n cs w h same =
    let is : given ≡ minutes_text cs = cc in
    w.none cs h (w.after, sym is ∙ w.parts, w.ends)

-- ---- why an audit stops

-- no name is taken in an empty store
pub none_taken : (schema : Schema) → schema ≡ no_schema → IsTrue (takes_a_desk_name schema) → ⊥
none_taken schema empty taken = true≢false (sym (subst (λ s. IsTrue (takes_a_desk_name s)) empty taken))

pub same_fault : {A : Type 0} (a b : AuditFault) → ◌≡◌ {A = Result A AuditFault} (Err a) (Err b) → a ≡ b
same_fault a b e = cc

pub same_number : (a b : ℕ) → Line a ≡ Line b → a ≡ b
same_number a b e = cc
