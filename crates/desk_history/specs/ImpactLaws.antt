-- Laws of impacts.
use Rattle.std.specs.Prelude.{◌≡◌, ◌↔◌, ◌⊎◌, ℕ, Bool, true, false, not, ◌&&◌, ◌||◌, if◌then◌else◌, IsTrue, List, map, filter, filter_map, reverse, option_map, None, is_some, Result, Ok, Err, bytes_eq}
use Rattle.std.specs.List.{Contains}
use Rattle.std.specs.Option.{option_map_or}
use Rattle.base.specs.declared.refusal.Refusal.{Refusal}
use Rattle.desk_types.specs.Callers.{caller_name}
use Rattle.desk_types.specs.declared.command.Call.{Call}
use Rattle.desk_types.specs.declared.command.Command.TheVariants as command
use Rattle.desk_types.specs.declared.facts.Facts.{Facts}
use Rattle.desk_types.specs.declared.reply.Reply.TheVariants as replies
use Rattle.desk_history.specs.Calls.{GoesOnFrom, History}
use Rattle.desk_history.specs.Images.{Image, images}
use Rattle.desk_history.specs.declared.impact.WhichFile.{WhichFile}
use Rattle.desk_history.specs.declared.impact.WhichFile.TheVariants as files
use Rattle.desk_history.specs.Impact.{Impact, after, allows, first_rule, impact, impact_of, newly_barred, newly_barred_by, standing_of, would_force}
use Rattle.desk_history.specs.Proposals.{proposal}
use Rattle.desk_history.specs.Refusals.{may_give}
use Rattle.desk_history.specs.Requests.{Request, Returned, request, requests, returns}
use Rattle.desk_history.specs.Runs.{answer, earlier, is_accepted, is_legal, next}
use Rattle.desk_history.specs.Verdicts.{Standing, bars, is_barred, standing, stands_in_db, verdict}
use Rattle.desk_history.specs.declared.answer.Answer.{Answer}
use Rattle.desk_history.specs.declared.answer.Answer.TheVariants.{Accepted, Refused}

-- ---- the answer that an impact foretells

-- an officer proposed the proposal k under this name
abbrev pub is_proposer : History → ℕ → List ℕ → Bool
is_proposer cs k name = option_map_or (λ p. bytes_eq p.officer name) (proposal cs k) false

-- The call is a Confirm of the proposal k, under a new key, by an officer who didn't propose it.
pub record ConfirmsAnothers (cs : History) (c : Call) (k : ℕ) : Type 0 where
  pub confirms : c.command ≡ command.Confirm k
  pub fresh : earlier cs c ≡ None
  pub officer : IsTrue (may_give cs c.caller c.command)
  pub other : is_proposer cs k (caller_name c.caller) ≡ false

-- the answer to a Confirm of the proposal k with this impact: its counts, or its refusal
abbrev pub answer_by : ℕ → Result Impact Refusal → Answer
answer_by k (Ok foretold) = Accepted (replies.Confirmed (record { proposal = k; counts = foretold.adds }))
answer_by k (Err refusal) = Refused refusal

-- another officer's Confirm is answered as the impact says: accepted with its counts, or refused
-- with its refusal
abbrev pub AnswersAsForetold : Type 0
AnswersAsForetold =
    (cs : History) (c : Call) (k : ℕ) → ConfirmsAnothers cs c k → answer cs c ≡ answer_by k (impact cs k)

-- ---- what comes true

-- The impact of the proposal k comes true with the call c, a Confirm of it. `exact`: its images are,
-- in the order of their calls, those that weren't barred and are then. `barred`: an image of the
-- history is barred then exactly where it was barred or is in the impact.
pub record ComesTrue (cs : History) (c : Call) (k : ℕ) : Type 0 where
  pub foretold : Impact
  pub shown : impact cs k ≡ Ok foretold
  pub counts : answer cs c ≡ Accepted (replies.Confirmed (record { proposal = k; counts = foretold.adds }))
  pub exact :
      map (λ b. b.image) foretold.bars
      ≡ filter (λ m. not (is_barred cs m.facts) && is_barred (next cs c) m.facts) (reverse (images cs))
  pub barred :
      (m : Image) → Contains (images cs) m
      → IsTrue (is_barred (next cs c) m.facts) ↔ (IsTrue (is_barred cs m.facts) ⊎ Contains (map (λ b. b.image) foretold.bars) m)

-- each accepted Confirm does what the impact of its proposal said, whoever gave it
abbrev pub ImpactsComeTrue : Type 0
ImpactsComeTrue =
    (cs : History) (c : Call) (k : ℕ) → c.command ≡ command.Confirm k → IsTrue (is_accepted (answer cs c)) → ComesTrue cs c k

-- An impact lasts: whatever the desk accepts between the look and the Confirm, an image that it knew
-- at the look is barred after the Confirm exactly where it is barred before the Confirm or was in
-- the impact.
abbrev pub ImpactsLast : Type 0
ImpactsLast =
    (cs later : History) (c : Call) (k : ℕ) (foretold : Impact) → impact cs k ≡ Ok foretold → GoesOnFrom cs later
    → c.command ≡ command.Confirm k → IsTrue (is_accepted (answer later c)) → (m : Image) → Contains (images cs) m
    → IsTrue (is_barred (next later c) m.facts) ↔ (IsTrue (is_barred later m.facts) ⊎ Contains (map (λ b. b.image) foretold.bars) m)

-- ---- the entries of a proposal alone

-- an image would be barred exactly where it is barred, or the proposal's entries bar it by
-- themselves
abbrev pub EntriesBar : Type 0
EntriesBar = (cs : History) (k : ℕ) (x : Facts) → is_barred (after cs k) x ≡ (is_barred cs x || bars (standing_of (would_force cs k)) x)

-- the rule that would bar an image that isn't barred is the first one of those entries
abbrev pub EntriesRule : Type 0
EntriesRule =
    (cs : History) (k : ℕ) (x : Facts) → is_barred cs x ≡ false
    → first_rule (standing (after cs k)) x ≡ first_rule (standing_of (would_force cs k)) x

-- so the images of an impact can be told from the proposal's entries and from what is barred
abbrev pub EntriesTell : Type 0
EntriesTell =
    (cs : History) (k : ℕ)
    → (impact_of cs k).bars
    ≡ filter_map (λ m. option_map (newly_barred_by cs m) (if is_barred cs m.facts then None else first_rule (standing_of (would_force cs k)) m.facts))
    (reverse (images cs))

-- of those that no entry of the proposal bars, none is in the impact
abbrev pub EntriesMiss : Type 0
EntriesMiss =
    (cs : History) (k : ℕ) (m : Image) → bars (standing_of (would_force cs k)) m.facts ≡ false → newly_barred cs k m ≡ None

-- an image that isn't barred is allowed exactly where it is in db
abbrev pub ListedIsAllowed : Type 0
ListedIsAllowed = (cs : History) (x : Facts) → is_barred cs x ≡ false → allows (verdict cs x) ≡ stands_in_db cs x

-- ---- the images and the rules

-- some rule bars an image exactly where it is barred
abbrev pub RulesBar : Type 0
RulesBar = (s : Standing) (x : Facts) → is_some (first_rule s x) ≡ bars s x

-- the image is that of this file of its request
abbrev pub is_file : WhichFile → Image → Bool
is_file files.Submitted m = elim m.file [ files.Submitted ↦ true | files.Returned ↦ false ]
is_file files.Returned m = elim m.file [ files.Submitted ↦ false | files.Returned ↦ true ]

-- the image of a request, as it was submitted
abbrev pub submitted_image : Request → Image
submitted_image r = record { request = r.number; file = files.Submitted; facts = r.facts }

-- the image of a returned file
abbrev pub returned_image : Returned → Image
returned_image r = record { request = r.request; file = files.Returned; facts = r.facts }

-- the images are those of all requests and of all returned files
abbrev pub ImagesAreAll : Type 0
ImagesAreAll =
    (cs : History)
    → (filter (is_file files.Submitted) (images cs) ≡ map submitted_image (requests cs))
    × (filter (is_file files.Returned) (images cs) ≡ map returned_image (returns cs))

-- each image of a legal history has its request
abbrev pub ImagesHaveRequests : Type 0
ImagesHaveRequests =
    (cs : History) (m : Image) → IsTrue (is_legal cs) → Contains (images cs) m → IsTrue (is_some (request cs m.request))
