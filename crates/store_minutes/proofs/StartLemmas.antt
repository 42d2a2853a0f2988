-- A desk that goes on with minutes, line by line.
use Rattle.std.proofs.Common.{◌≡◌, ◌⊎◌, inl, inr, ℕ, ◌+◌, ◌∙◌, Bool, true, false, ◌||◌, List, [], ◌∷◌, ◌++◌, length, Option, None, Some, refl, sym, ap, subst, append_assoc, arith}
use Rattle.std.specs.Io.KnownBytes.{Consumes, IsAtEnd}
use Rattle.std.proofs.KnownBytes.{Consumes-trans}
use Rattle.sqlite.specs.Held.{state}
use Rattle.sqlite.specs.State.{State}
use Rattle.sqlite.specs.Store.{Ghosts}
use Rattle.store_schema.specs.rows.Histories.{HoldsHistory, LeavesHistory}
use Rattle.store_sql.specs.States.{Leaves}
use Rattle.desk_history.specs.Calls.{GoesOnFrom, History, Item, Rules, Second, under}
use Rattle.desk_history.specs.Formed.{IsHistory}
use Rattle.desk_history.specs.Replies.{minute_of, reply_to}
use Rattle.desk_exports.specs.Exports.{minute_line, minutes_text}
use Rattle.desk_minutes.specs.Follows.{HasNoNext}
use Rattle.desk_minutes.specs.Minuted.{as_minuted, is_of_second, shows_second}
use Rattle.desk_minutes.proofs.MinutedLemmas.{second_minuted}
use Rattle.desk_minutes.proofs.TextLemmas.{one_more}
use Rattle.store_desk.specs.Desks.{ShowsDesk}
use Rattle.store_desk.specs.declared.desk.Desk.{Desk}
use Rattle.store_minutes.specs.Following.{GoesOn}
use Rattle.store_minutes.specs.Lines.{TakesLine}
use Rattle.store_minutes.specs.Starts.{BeginsWith, HasFollowedAfter, HasFollowedSecond, IsWrongAfter, LeavesFollowed, Start}
use Rattle.store_minutes.proofs.FollowingLemmas.{history_more}

-- ---- the lines that were followed

-- one more of them
pub given_more : (cs : History) (i : Item) (first mid now : Option (List ℕ)) (line : List ℕ) → Consumes first mid (minutes_text cs) → TakesLine mid now line
    → line ≡ minute_line (minute_of cs i) → Consumes first now (minutes_text (i ∷ cs))
given_more cs i first mid now line given t is =
    subst (Consumes first now) (ap (λ l. minutes_text cs ++ l) is ∙ sym (one_more cs i)) (Consumes-trans first mid now (minutes_text cs) line given t.taken)

-- the history with one more
pub goes_more : (earlier cs : History) (i : Item) → GoesOnFrom earlier cs → GoesOnFrom earlier (i ∷ cs)
goes_more earlier cs i (new, is) = (i ∷ new, ap (λ l. i ∷ l) is)

-- none more
pub wrong_after : (shown : History → Type 0) (s : Start) (cs : History) (calls : ℕ) (mid now : Option (List ℕ)) (line : List ℕ) → IsHistory cs → shown cs → GoesOnFrom s.earlier cs
    → (as_minuted s.earlier ≡ s.earlier → as_minuted cs ≡ cs) → length cs ≡ calls → Consumes (Some s.bytes) mid (minutes_text cs) → TakesLine mid now line → HasNoNext cs line
    → IsWrongAfter shown s (calls + 1)
wrong_after shown s cs calls None now line h shows goes m count given t none = absurd given
wrong_after shown s cs calls (Some left) None line h shows goes m count given t none = absurd t.taken
wrong_after shown s cs calls (Some left) (Some rest) line h shows goes m count given t none = record {
  history = cs;
  shows = shows;
  legal = h;
  goes_on = goes;
  minuted = m;
  line = line;
  after = rest;
  parts = given ∙ ap (λ l. minutes_text cs ++ l) t.taken ∙ sym (append_assoc (minutes_text cs) line rest);
  count = ap (λ n. n + 1) (sym count);
  one = t.one;
  ends = t.ends;
  none = none;
}

-- ---- what a stop leaves

begins_with : (s : Start) (cs : History) (left : Option (List ℕ)) → Consumes (Some s.bytes) left (minutes_text cs) → BeginsWith s.bytes cs
begins_with s cs None given = absurd given
begins_with s cs (Some rest) given = (rest, given)

-- the lines that were followed
pub leaves_followed : (s : Start) (at : State) (cs : History) (left : Option (List ℕ)) → IsHistory cs → GoesOnFrom s.earlier cs → Consumes (Some s.bytes) left (minutes_text cs)
    → LeavesHistory at s.owner cs → LeavesFollowed at s
leaves_followed s at cs left h goes given leaves clean db may = record { history = cs; legal = h; goes_on = goes; begins = begins_with s cs left given; holds = leaves clean db may }

-- and maybe one more
pub leaves_next : (rules : Rules) (s : Start) (at : State) (cs : History) (mid now : Option (List ℕ)) (line given_line : List ℕ) → IsHistory cs → GoesOnFrom s.earlier cs
    → Consumes (Some s.bytes) mid (minutes_text cs) → TakesLine mid now line → given_line ≡ line
    → Leaves at (λ db. HoldsHistory db s.owner cs ⊎ GoesOn rules (HoldsHistory db s.owner) cs given_line) → LeavesFollowed at s
leaves_next rules s at cs mid now line given_line h goes given t same leaves clean db may = elim (leaves clean db may) [
  | inl holds ↦ record { history = cs; legal = h; goes_on = goes; begins = begins_with s cs mid given; holds = holds }
  | inr next ↦ record {
    history = under rules next.call ∷ cs;
    legal = history_more cs (under rules next.call) h next.formed next.accepted;
    goes_on = goes_more s.earlier cs (under rules next.call) goes;
    begins = begins_with s (under rules next.call ∷ cs) now (given_more cs (under rules next.call) (Some s.bytes) mid now line given t (sym same ∙ next.is));
    holds = next.shows;
  }
]

-- ---- replies that only the second rules give

-- a later call keeps the reply that only the second rules give
pub still_second : (cs : History) (i : Item) → shows_second cs ≡ true → shows_second (i ∷ cs) ≡ true
still_second cs i h = by (is_of_second (reply_to cs i)) (shows_second cs) h
  where
    by : (a b : Bool) → b ≡ true → (a || b) ≡ true
    by true b e = refl
    by false b e = e

-- ---- the desk that follows them

module _ {S : Type 0} (g : Ghosts S) where
  pub second_left : (desk : Desk S) (s : Start) (calls : ℕ) (left : Option (List ℕ)) → HasFollowedAfter g desk s calls left → LeavesFollowed (state g desk.conn) s
  second_left desk s calls left f = leaves_followed s (state g desk.conn) f.history left f.shows.history f.goes_on f.given f.shows.left

  pub goes_on : (old new : Desk S) (s : Start) (calls : ℕ) (mid now : Option (List ℕ)) (line : List ℕ) (kept : HasFollowedSecond g old s calls mid)
      → TakesLine mid now line → GoesOn Second (ShowsDesk g new s.owner) kept.followed.history line → HasFollowedSecond g new s (calls + 1) now
  goes_on old new s calls mid now line kept t next =
      let f = kept.followed in
      let i = under Second next.call in
      record {
        followed = record {
          history = i ∷ f.history;
          shows = next.shows;
          goes_on = goes_more s.earlier f.history i f.goes_on;
          minuted = λ m. second_minuted f.history next.call (still_second f.history i (kept.second m)) (f.minuted m);
          count = let longer : length (i ∷ f.history) ≡ calls + 1 = omega (arith, f.count) in longer;
          given = given_more f.history i (Some s.bytes) mid now line f.given t next.is;
        };
        past = refl;
        second = λ m. still_second f.history i (kept.second m);
      }

  pub second_wrong : (old new : Desk S) (s : Start) (calls : ℕ) (mid now : Option (List ℕ)) (line : List ℕ) (f : HasFollowedAfter g old s calls mid)
      → TakesLine mid now line → HasNoNext f.history line → ShowsDesk g new s.owner f.history → IsWrongAfter (ShowsDesk g new s.owner) s (calls + 1)
  second_wrong old new s calls mid now line f t none shows =
      wrong_after (ShowsDesk g new s.owner) s f.history calls mid now line f.shows.history shows f.goes_on f.minuted f.count f.given t none

  -- all was read
  pub ended : (desk : Desk S) (s : Start) (calls : ℕ) (now : Option (List ℕ)) → HasFollowedAfter g desk s calls now → IsAtEnd now → HasFollowedAfter g desk s calls (Some [])
  ended desk s calls None f end = absurd f.given
  ended desk s calls (Some left) f end = record {
    history = f.history;
    shows = f.shows;
    goes_on = f.goes_on;
    minuted = f.minuted;
    count = f.count;
    given = f.given ∙ ap (λ l. minutes_text f.history ++ l) end;
  }
