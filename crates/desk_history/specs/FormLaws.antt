-- Laws of histories whose calls are in their forms.
use Rattle.std.specs.Prelude.{◌≡◌, ◌≢◌, ℕ, ◌==◌, Bool, ◌&&◌, IsTrue, All, List, ◌++◌, ◌∷◌, bytes_eq}
use Rattle.std.specs.List.{Contains, list_all}
use Rattle.desk_types.specs.Callers.{caller_name, is_told_by_name}
use Rattle.desk_types.specs.Raising.{names_no_sbat}
use Rattle.desk_types.specs.ReplyTexts.{reply_text_of}
use Rattle.desk_types.specs.declared.command.Call.{Call}
use Rattle.desk_types.specs.declared.facts.Facts.{Facts}
use Rattle.desk_types.specs.declared.reply.Reply.{Reply}
use Rattle.desk_history.specs.Calls.{GoesOnFrom, History, Item, Rules, are_apart, under}
use Rattle.desk_history.specs.Formed.{IsHistory, IsItem, IsReadable}
use Rattle.desk_history.specs.Laws.{StandOnce}
use Rattle.desk_history.specs.Lives.{Answered, Ends, Event, Life, WasAnswered, events_of}
use Rattle.desk_history.specs.Replies.{minutes, reply_to}
use Rattle.desk_history.specs.Runs.{is_legal}
use Rattle.desk_history.specs.Tables.{Tables, tables}
use Rattle.desk_history.specs.Verdicts.{is_barred, verdict}
use Rattle.desk_history.specs.declared.finding.Verdict.TheVariants.{Allowed}
use Rattle.desk_history.specs.declared.rows.Minute.{Minute}
use Rattle.desk_history.specs.declared.rows.RequestCertificateRow.{RequestCertificateRow}
use Rattle.desk_history.specs.declared.rows.RequestComponentRow.{RequestComponentRow}

-- two rows of one certificate of one request
abbrev pub is_certificate_key : RequestCertificateRow → RequestCertificateRow → Bool
is_certificate_key a b = (a.request == b.request) && bytes_eq a.digest b.digest

-- two rows of one place among the components of one request
abbrev pub is_place_key : RequestComponentRow → RequestComponentRow → Bool
is_place_key a b = (a.request == b.request) && (a.place == b.place)

-- No two rows of any table have the same key.
pub record AllStandOnce (t : Tables) : Type 0 where
  pub others : StandOnce t
  pub certificates : IsTrue (are_apart is_certificate_key t.request_certificates)
  pub components : IsTrue (are_apart is_place_key t.request_components)

-- in the tables of a desk's history no two rows have the same key
abbrev pub AllRowsStandOnce : Type 0
AllRowsStandOnce = (owner : List ℕ) (cs : History) → IsHistory cs → AllStandOnce (tables owner cs)

-- the level's table never holds `sbat`
abbrev pub LevelHasNoSbat : Type 0
LevelHasNoSbat = (owner : List ℕ) (cs : History) → IsHistory cs → IsTrue (names_no_sbat (tables owner cs).components)

-- only the console calls by the name `console`
abbrev pub CallersAreTold : Type 0
CallersAreTold = (cs : History) → IsTrue (is_legal cs) → IsTrue (list_all (λ i. is_told_by_name i.call.caller) cs)

-- each minute of a desk's history can be read back
abbrev pub MinutesAreReadable : Type 0
MinutesAreReadable = (cs : History) → IsHistory cs → All IsReadable (minutes cs)

-- minutes with the same caller's name have the same caller, and those with the same reply's text
-- the same reply
pub record AreAlike (a b : Minute) : Type 0 where
  pub callers : caller_name a.caller ≡ caller_name b.caller → a.caller ≡ b.caller
  pub replies : reply_text_of a.reply ≡ reply_text_of b.reply → a.reply ≡ b.reply

-- different callers of a desk's history have different names, and different replies different texts
abbrev pub MinutesDiffer : Type 0
MinutesDiffer =
    (cs : History) → IsHistory cs → (a b : Minute) → Contains (minutes cs) a → Contains (minutes cs) b → AreAlike a b

-- the call is in the history, and was given this reply when it was accepted, by either rules
pub record Stands (cs : History) (c : Call) (given : Reply) : Type 0 where
  pub rules : Rules
  pub later : History
  pub before : History
  pub is : cs ≡ later ++ under rules c ∷ before
  pub same : reply_to before (under rules c) ≡ given

-- each history that a series of lives may leave is a desk's, if each of its calls was in its forms
abbrev pub EndsAreHistories : Type 0
EndsAreHistories =
    (lives : List Life) (cs : History) → Ends lives cs → All (λ e. IsItem e.item) (events_of lives) → IsHistory cs

-- and each call that was answered Ok is in it with its reply
abbrev pub AnsweredCallsStand : Type 0
AnsweredCallsStand =
    (lives : List Life) (cs : History) → Ends lives cs → All (λ e. IsItem e.item) (events_of lives)
    → (i : Item) (reply : Reply) (at : History) → WasAnswered (events_of lives) cs i reply at → Stands cs i.call reply

-- Each history that a series of lives left keeps all that was answered Ok. `each`: every call that
-- was answered Ok was answered at some history. For each such history, the call is in the history
-- that is left, with its reply; the history that is left extends it; and each image that was barred
-- then is barred, and so isn't allowed.
pub record KeepsAnswered (events : List Event) (cs : History) : Type 0 where
  pub each : (i : Item) (reply : Reply) (earlier later : List Event)
      → events ≡ earlier ++ record { item = i; fate = Answered reply } ∷ later → (at : History) × WasAnswered events cs i reply at
  pub stands : (i : Item) (reply : Reply) (at : History) → WasAnswered events cs i reply at → Stands cs i.call reply
  pub goes_on : (i : Item) (reply : Reply) (at : History) → WasAnswered events cs i reply at → GoesOnFrom at cs
  pub barred : (i : Item) (reply : Reply) (at : History) → WasAnswered events cs i reply at
      → (x : Facts) → IsTrue (is_barred at x) → IsTrue (is_barred cs x)
  pub refused : (i : Item) (reply : Reply) (at : History) → WasAnswered events cs i reply at
      → (x : Facts) → IsTrue (is_barred at x) → verdict cs x ≢ Allowed

-- any number of lives leave a desk's history that keeps all that was answered in them, if each call
-- was in its forms
abbrev pub LivesKeepAnswered : Type 0
LivesKeepAnswered =
    (lives : List Life) (cs : History) → Ends lives cs → All (λ e. IsItem e.item) (events_of lives)
    → IsHistory cs × KeepsAnswered (events_of lives) cs
