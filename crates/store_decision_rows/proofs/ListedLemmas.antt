-- The number of listed entries after an accepted call.
use Rattle.std.proofs.Common.{◌≡◌, ℕ, ◌+◌, Bool, true, false, not, cond, ◌||◌, List, [], ◌∷◌, length, None, refl, ◌∙◌, ap, arith}
use Rattle.std.proofs.lemmas.Bool.{and_parts, not-true, or_parts}
use Rattle.base.specs.declared.refusal.Refusal.{Refusal}
use Rattle.base.specs.declared.refusal.Refusal.TheVariants as refusals
use Rattle.desk_types.specs.declared.command.Command.{Command}
use Rattle.desk_types.specs.declared.command.Command.TheVariants as command
use Rattle.desk_types.specs.declared.kind.ListedKind.{ListedKind}
use Rattle.desk_types.specs.declared.kind.ListedKind.TheVariants as kinds
use Rattle.desk_history.specs.declared.rows.Entry.{Entry}
use Rattle.desk_history.specs.Calls.{History, are_apart}
use Rattle.desk_history.specs.Listing.{has_entry, is_entry, is_listed, listed, relisted, without}
use Rattle.desk_history.specs.Refusals.{own_refusal, refuse_if}
use Rattle.desk_history.specs.Runs.{is_legal}
use Rattle.desk_history.proofs.ListingLemmas.{listed_rows_are_listed, same_entry}
use Rattle.desk_history.proofs.RefusalLemmas.{unrefused}
use Rattle.desk_history.proofs.RowLemmas.{rows_stand_once}

-- own: one more entry after a listing, one less after an unlisting, as many after every other
-- command
abbrev pub Changed : Command → ℕ → ℕ → Type 0
Changed (command.ListCertificate _) before after = after ≡ before + 1
Changed (command.ListDigest _) before after = after ≡ before + 1
Changed (command.Unlist _) before after = before ≡ after + 1
Changed (command.AddPerson _) before after = after ≡ before
Changed (command.Submit _) before after = after ≡ before
Changed (command.Review _) before after = after ≡ before
Changed (command.Withdraw _) before after = after ≡ before
Changed (command.Return _) before after = after ≡ before
Changed (command.RevokeDigest _) before after = after ≡ before
Changed (command.RevokeCertificate _) before after = after ≡ before
Changed (command.RaiseLevel _) before after = after ≡ before
Changed (command.ImportRevocations _) before after = after ≡ before
Changed (command.Confirm _) before after = after ≡ before
Changed (command.Drop _) before after = after ≡ before
Changed (command.Explain _) before after = after ≡ before

-- an entry that isn't there leaves all of them
without_none : (kind : ListedKind) (digest : List ℕ) (rows : List Entry) → has_entry kind digest rows ≡ false → length (without kind digest rows) ≡ length rows
without_none kind digest [] h = refl
without_none kind digest (x ∷ rows) h =
    let both : (is_entry kind digest x ≡ false) × (has_entry kind digest rows ≡ false) = or_parts (is_entry kind digest x) (has_entry kind digest rows) h in
    let rest : length (without kind digest rows) ≡ length rows = without_none kind digest rows both.1 in
    rw both.0 (omega (arith, rest))

-- no entry after one of this key has it, where no two have one key
alone : (kind : ListedKind) (digest : List ℕ) (x : Entry) (rows : List Entry) → is_entry kind digest x ≡ true → has_entry x.kind x.digest rows ≡ false → has_entry kind digest rows ≡ false
alone kind digest x [] is h = refl
alone kind digest x (y ∷ rows) is h =
    let both : (is_entry x.kind x.digest y ≡ false) × (has_entry x.kind x.digest rows ≡ false) = or_parts (is_entry x.kind x.digest y) (has_entry x.kind x.digest rows) h in
    rw (same_entry kind x.kind digest x.digest y is, both.0) (alone kind digest x rows is both.1)

-- an entry that is there once leaves one less
without_there : (kind : ListedKind) (digest : List ℕ) (rows : List Entry) → are_apart (λ (a b : Entry). is_entry a.kind a.digest b) rows ≡ true → has_entry kind digest rows ≡ true → length rows ≡ length (without kind digest rows) + 1
without_there kind digest [] apart h = cc
without_there kind digest (x ∷ rows) apart h =
    let both : (not (has_entry x.kind x.digest rows) ≡ true) × (are_apart (λ (a b : Entry). is_entry a.kind a.digest b) rows ≡ true) = and_parts (not (has_entry x.kind x.digest rows)) (are_apart (λ (a b : Entry). is_entry a.kind a.digest b) rows) apart in
    elim (is_entry kind digest x) as (λ b. is_entry kind digest x ≡ b → (b || has_entry kind digest rows) ≡ true → length (x ∷ rows) ≡ length (cond (not b) (x ∷ without kind digest rows) (without kind digest rows)) + 1) [
      | true ↦ λ e _. let rest : length (without kind digest rows) ≡ length rows = without_none kind digest rows (alone kind digest x rows e (not-true (has_entry x.kind x.digest rows) both.0)) in omega (arith, rest)
      | false ↦ λ e there. let rest : length rows ≡ length (without kind digest rows) + 1 = without_there kind digest rows both.1 there in omega (arith, rest)
    ] refl h

-- a call that isn't refused unless something holds
unrefused_not : (b : Bool) (refusal : Refusal) → refuse_if (not b) refusal ≡ None → b ≡ true
unrefused_not true refusal h = refl
unrefused_not false refusal h = cc

module _ (owner : List ℕ) (cs : History) (legal : is_legal cs ≡ true) (name : List ℕ) where
  put : (kind : ListedKind) (digest : List ℕ) → is_listed kind cs digest ≡ false → length (without kind digest (listed cs)) + 1 ≡ length (listed cs) + 1
  put kind digest h = ap (λ n. n + 1) (without_none kind digest (listed cs) (listed_rows_are_listed cs kind digest ∙ h))

  taken : (kind : ListedKind) (digest : List ℕ) → is_listed kind cs digest ≡ true → length (listed cs) ≡ length (without kind digest (listed cs)) + 1
  taken kind digest h = without_there kind digest (listed cs) (rows_stand_once owner cs legal).listed (listed_rows_are_listed cs kind digest ∙ h)

  pub listed_changes : (given : Command) → own_refusal cs name given ≡ None → Changed given (length (listed cs)) (length (relisted given (listed cs)))
  listed_changes (command.ListCertificate c) h = omega (arith, put kinds.Certificate c.tbs (unrefused (is_listed kinds.Certificate cs c.tbs) refusals.AlreadyListed h))
  listed_changes (command.ListDigest d) h = omega (arith, put kinds.Digest d (unrefused (is_listed kinds.Digest cs d) refusals.AlreadyListed h))
  listed_changes (command.Unlist l) h = taken l.kind l.digest (unrefused_not (is_listed l.kind cs l.digest) refusals.NotThere h)
  listed_changes (command.AddPerson _) h = refl
  listed_changes (command.Submit _) h = refl
  listed_changes (command.Review _) h = refl
  listed_changes (command.Withdraw _) h = refl
  listed_changes (command.Return _) h = refl
  listed_changes (command.RevokeDigest _) h = refl
  listed_changes (command.RevokeCertificate _) h = refl
  listed_changes (command.RaiseLevel _) h = refl
  listed_changes (command.ImportRevocations _) h = refl
  listed_changes (command.Confirm _) h = refl
  listed_changes (command.Drop _) h = refl
  listed_changes (command.Explain _) h = refl
