-- The answer that is sent: the one that was served, or NoMemory instead.
use Rattle.std.proofs.Common.{◌≡◌, ◌⊎◌, ℕ, List, inl, inr, sym, subst, false, Option, Some, None, IfSome}
use Rattle.desk_history.specs.Calls.{History}
use Rattle.http_calls.specs.Answers.{Serves, store_failed}
use Rattle.desk_exports.specs.Desks.{ForEachShown, StillShows}
use Rattle.http_calls.specs.declared.answers.TaskAnswer.{TaskAnswer}
use Rattle.http_exchange.specs.Asked.{Asks, CallOrRefusal}
use Rattle.http_exchange.specs.Sending.{Replaces, is_outage}
use Rattle.http_exchange.specs.Serving.{AnswersDue, AnswersInput, IsServed, AnswersDueOrOutage}

module _ (owner : List ℕ) (cs : History) (input : Option (List ℕ)) (due : CallOrRefusal) (asked : IfSome input (λ b. Asks cs b due)) where
  -- an answer to the request of an input is one to the input
  serves_input : (shows : History → Type 0) (failed : Type 0) (a : TaskAnswer)
      → Serves shows failed cs (AnswersDue owner cs due) a → Serves shows failed cs (AnswersInput owner cs input) a
  serves_input shows failed a (inl s) = inl (s.0, record { due = due; asked = asked; answered = s.1 }, s.2)
  serves_input shows failed a (inr others) = inr others

-- the request that an input asks for
pub input_asks : (known : Option (List ℕ)) (old : List ℕ → History → Type 0) (due : CallOrRefusal)
    → IfSome known (λ b. ForEachShown old (λ _ cs. Asks cs b due)) → ForEachShown old (λ _ cs. IfSome known (λ b. Asks cs b due))
input_asks None old due asked = λ owner cs shown. tt
input_asks (Some b) old due asked = asked

-- the desk keeps what it shows while the request is read, and then answers it
pub input_is_served : (known : Option (List ℕ)) (old mid new : List ℕ → History → Type 0) (failed : Type 0) (due : CallOrRefusal) (a : TaskAnswer)
    → IfSome known (λ b. ForEachShown old (λ _ cs. Asks cs b due)) → StillShows old mid
    → ForEachShown mid (λ owner cs. Serves (new owner) failed cs (AnswersDue owner cs due) a)
    → ForEachShown old (λ owner cs. Serves (new owner) failed cs (AnswersInput owner cs known) a)
input_is_served known old mid new failed due a asked kept served = λ owner cs shown.
    serves_input owner cs known due (input_asks known old due asked owner cs shown) (new owner) failed a (served owner cs (kept owner cs shown))

-- an answer is sent unchanged
same_told : (shows : History → Type 0) (failed : Type 0) (cs : History) (due : TaskAnswer → History → Type 0) (a : TaskAnswer)
    → Serves shows failed cs due a → AnswersDueOrOutage shows failed cs due a
same_told shows failed cs due a (inl s) = inl (record { later = s.0; answered = s.1; shown = s.2 })
same_told shows failed cs due a (inr (inl x)) = inr (inl (x.0, inl x.1))
same_told shows failed cs due a (inr (inr e)) = inr (inr e)

store_is_outage : (a : TaskAnswer) → a ≡ store_failed → is_outage a ≡ false → ⊥
store_is_outage a e own = let known : is_outage store_failed ≡ false = rw e at own in cc

-- an answer whose text finds no memory
untold : (shows : History → Type 0) (failed : Type 0) (cs : History) (due : TaskAnswer → History → Type 0) (a : TaskAnswer)
    → Serves shows failed cs due a → is_outage a ≡ false → shows cs ⊎ ((x : TaskAnswer) × IsServed shows due x)
untold shows failed cs due a (inl s) own = inr (a, record { later = s.0; answered = s.1; shown = s.2 })
untold shows failed cs due a (inr (inl x)) own = inl x.1
untold shows failed cs due a (inr (inr e)) own = absurd (store_is_outage a e.0 own)

pub told_is_served : (shows : History → Type 0) (failed : Type 0) (cs : History) (due : TaskAnswer → History → Type 0) (a told : TaskAnswer)
    → Serves shows failed cs due a → Replaces a told → AnswersDueOrOutage shows failed cs due told
told_is_served shows failed cs due a told served (inl e) =
    let P : TaskAnswer → Type 0 = λ x. AnswersDueOrOutage shows failed cs due x in subst P (sym e) (same_told shows failed cs due a served)
told_is_served shows failed cs due a told served (inr x) = inr (inl (x.0, untold shows failed cs due a served x.1))
