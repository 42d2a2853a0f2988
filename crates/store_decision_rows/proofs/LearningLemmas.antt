-- Sizes, learnt one after another.
use Rattle.std.proofs.Common.{◌≡◌, ◌⊎◌, inl, inr, ℕ, ◌+◌, ◌<◌, Bool, true, false, not, ◌&&◌, List, [], ◌∷◌, length, take, get_or, Option, Some, None, is_some, IsTrue, refl, sym, subst, ◌∙◌, arith}
use Rattle.std.proofs.lemmas.List.Elements.{All-cons, All-head, All-more, All-nil, All-weaker}
use Rattle.desk_types.specs.declared.command.Command.{Command}
use Rattle.desk_history.specs.Tables.{Tables}
use Rattle.desk_rules.specs.declared.view.LimitedTable.{LimitedTable}
use Rattle.desk_rules.specs.declared.view.LimitedTable.TheVariants as counted
use Rattle.desk_rules.specs.Shown.{is_table, may_put, rows_in}
use Rattle.store_decision_rows.specs.sizes.Sizes.{AreRight, HaveSameOthers, HaveSameRows, known}
use Rattle.store_decision_rows.specs.declared.sizes.known.KnownSizes.{KnownSizes}
use Rattle.store_decision_rows.specs.Learning.{Learns}
use Rattle.store_decision_rows.specs.Steps.{LearnsCalls, LearnsOf}

-- two tables are the same or not
alike : (a b : LimitedTable) → (a ≡ b) ⊎ IsTrue (not (is_table a b))
alike counted.People counted.People = inl refl
alike counted.People counted.Requests = inr refl
alike counted.People counted.Listed = inr refl
alike counted.People counted.RevokedDigests = inr refl
alike counted.People counted.RevokedCertificates = inr refl
alike counted.People counted.Components = inr refl
alike counted.People counted.Proposals = inr refl
alike counted.Requests counted.People = inr refl
alike counted.Requests counted.Requests = inl refl
alike counted.Requests counted.Listed = inr refl
alike counted.Requests counted.RevokedDigests = inr refl
alike counted.Requests counted.RevokedCertificates = inr refl
alike counted.Requests counted.Components = inr refl
alike counted.Requests counted.Proposals = inr refl
alike counted.Listed counted.People = inr refl
alike counted.Listed counted.Requests = inr refl
alike counted.Listed counted.Listed = inl refl
alike counted.Listed counted.RevokedDigests = inr refl
alike counted.Listed counted.RevokedCertificates = inr refl
alike counted.Listed counted.Components = inr refl
alike counted.Listed counted.Proposals = inr refl
alike counted.RevokedDigests counted.People = inr refl
alike counted.RevokedDigests counted.Requests = inr refl
alike counted.RevokedDigests counted.Listed = inr refl
alike counted.RevokedDigests counted.RevokedDigests = inl refl
alike counted.RevokedDigests counted.RevokedCertificates = inr refl
alike counted.RevokedDigests counted.Components = inr refl
alike counted.RevokedDigests counted.Proposals = inr refl
alike counted.RevokedCertificates counted.People = inr refl
alike counted.RevokedCertificates counted.Requests = inr refl
alike counted.RevokedCertificates counted.Listed = inr refl
alike counted.RevokedCertificates counted.RevokedDigests = inr refl
alike counted.RevokedCertificates counted.RevokedCertificates = inl refl
alike counted.RevokedCertificates counted.Components = inr refl
alike counted.RevokedCertificates counted.Proposals = inr refl
alike counted.Components counted.People = inr refl
alike counted.Components counted.Requests = inr refl
alike counted.Components counted.Listed = inr refl
alike counted.Components counted.RevokedDigests = inr refl
alike counted.Components counted.RevokedCertificates = inr refl
alike counted.Components counted.Components = inl refl
alike counted.Components counted.Proposals = inr refl
alike counted.Proposals counted.People = inr refl
alike counted.Proposals counted.Requests = inr refl
alike counted.Proposals counted.Listed = inr refl
alike counted.Proposals counted.RevokedDigests = inr refl
alike counted.Proposals counted.RevokedCertificates = inr refl
alike counted.Proposals counted.Components = inr refl
alike counted.Proposals counted.Proposals = inl refl

some_same : (n m : ℕ) → Some n ≡ Some m → n ≡ m
some_same n m e = cc

stays : (before after : Option ℕ) → ((n : ℕ) → before ≡ Some n → after ≡ Some n) → IsTrue (is_some before) → IsTrue (is_some after)
stays None after f h = absurd (let k = h in cc)
stays (Some n) after f h = rw (f n refl) refl

module _ (before after : KnownSizes) (t : Tables) (n : ℕ) where
  pub right_calls : n ≡ length t.calls → after.calls ≡ Some n → HaveSameRows before after → AreRight before t → AreRight after t
  right_calls counted is same right = record {
    calls = λ m e. some_same m n (sym e ∙ is) ∙ counted;
    sizes = λ table m e. right.sizes table m (same table ∙ e);
  }

  pub right_size : (table : LimitedTable) → n ≡ rows_in t table → known after table ≡ Some n → HaveSameOthers table before after → AreRight before t → AreRight after t
  right_size table counted is same right = record {
    calls = λ m e. right.calls m (same.calls ∙ e);
    sizes = λ other m e. elim (alike table other) [
      | inl one ↦ subst (λ x. m ≡ rows_in t x) one (some_same m n (sym (subst (λ x. known after x ≡ Some m) (sym one) e) ∙ is) ∙ counted)
      | inr differs ↦ right.sizes other m (same.others other differs ∙ e)
    ];
  }

both_hold : (a b : Bool) → (a && not b) ≡ true → (a ≡ true) × (b ≡ false)
both_hold true false e = (refl, refl)
both_hold true true e = absurd cc
both_hold false b e = absurd cc

other_holds : (a b : Bool) → (a && not b) ≡ false → IsTrue a → IsTrue b
other_holds true true e h = refl
other_holds true false e h = absurd cc
other_holds false b e h = absurd (let k = h in cc)

module _ (command : Command) (table : LimitedTable) (before : KnownSizes) where
  abbrev pub is_lacking : Bool
  is_lacking = may_put command table && not (is_some (known before table))

  pub learns_nothing : is_lacking ≡ false → LearnsOf (table ∷ []) command before before
  learns_nothing fine = record {
    calls = refl;
    enough = All-cons (λ (x : LimitedTable). IsTrue (may_put command x) → IsTrue (is_some (known before x))) table [] (other_holds (may_put command table) (is_some (known before table)) fine) (All-nil (λ (x : LimitedTable). IsTrue (may_put command x) → IsTrue (is_some (known before x))));
    sizes = λ other n e. e;
    others = λ other h. refl;
  }

  pub learns_size : (after : KnownSizes) (n : ℕ) → is_lacking ≡ true → known after table ≡ Some n → HaveSameOthers table before after → LearnsOf (table ∷ []) command before after
  learns_size after n lacking is same =
      let asked = both_hold (may_put command table) (is_some (known before table)) lacking in
      record {
        calls = same.calls;
        enough = All-cons (λ (x : LimitedTable). IsTrue (may_put command x) → IsTrue (is_some (known after x))) table [] (λ h. rw is refl) (All-nil (λ (x : LimitedTable). IsTrue (may_put command x) → IsTrue (is_some (known after x))));
        sizes = λ other m e. elim (alike table other) [
          | inl one ↦ absurd (let had = subst (λ x. known before x ≡ Some m) (sym one) e in let none = rw had at asked.1 in cc)
          | inr differs ↦ sym (same.others other differs) ∙ e
        ];
        others = λ other h. elim (alike table other) [
          | inl one ↦ absurd (let unasked = subst (λ x. IsTrue (not (may_put command x))) (sym one) h in let k = rw asked.0 at unasked in cc)
          | inr differs ↦ sym (same.others other differs)
        ];
      }

module _ (command : Command) where
  pub learns_none : (sizes : KnownSizes) → LearnsOf [] command sizes sizes
  learns_none sizes = record {
    calls = refl;
    enough = All-nil (λ (x : LimitedTable). IsTrue (may_put command x) → IsTrue (is_some (known sizes x)));
    sizes = λ other n e. e;
    others = λ other h. refl;
  }

  pub learns_next : (tables : List LimitedTable) (i : ℕ) (table : LimitedTable) (a b c : KnownSizes) → i < length tables → table ≡ get_or tables i table
      → LearnsOf (take i tables) command a b → LearnsOf (table ∷ []) command b c → LearnsOf (take (i + 1) tables) command a c
  learns_next tables i table a b c low is x y = record {
    calls = x.calls ∙ y.calls;
    enough =
        let P = λ (k : LimitedTable). IsTrue (may_put command k) → IsTrue (is_some (known c k)) in
        All-more P tables i table low
        (All-weaker (λ (k : LimitedTable). IsTrue (may_put command k) → IsTrue (is_some (known b k))) P (λ k f h. stays (known b k) (known c k) (y.sizes k) (f h)) (take i tables) x.enough)
        (subst P is (All-head P table [] y.enough));
    sizes = λ k n e. y.sizes k n (x.sizes k n e);
    others = λ k h. y.others k h ∙ x.others k h;
  }

  -- the tables that a limit of the desk counts
  abbrev pub all_tables : List LimitedTable
  all_tables = counted.People ∷ counted.Requests ∷ counted.Listed ∷ counted.RevokedDigests ∷ counted.RevokedCertificates ∷ counted.Components ∷ counted.Proposals ∷ []

  pub learns_all : (a b c : KnownSizes) → LearnsCalls a b → LearnsOf all_tables command b c → Learns command a c
  learns_all a b c x y = record {
    enough = record { calls = subst (λ o. IsTrue (is_some o)) y.calls x.enough; sizes = each };
    calls = λ n e. sym y.calls ∙ x.kept n e;
    sizes = λ table n e. y.sizes table n (sym (x.sizes table) ∙ e);
    others = λ table h. y.others table h ∙ sym (x.sizes table);
  }
    where
      each : (table : LimitedTable) → IsTrue (may_put command table) → IsTrue (is_some (known c table))
      each counted.People = y.enough 0 counted.People (omega arith)
      each counted.Requests = y.enough 1 counted.People (omega arith)
      each counted.Listed = y.enough 2 counted.People (omega arith)
      each counted.RevokedDigests = y.enough 3 counted.People (omega arith)
      each counted.RevokedCertificates = y.enough 4 counted.People (omega arith)
      each counted.Components = y.enough 5 counted.People (omega arith)
      each counted.Proposals = y.enough 6 counted.People (omega arith)
