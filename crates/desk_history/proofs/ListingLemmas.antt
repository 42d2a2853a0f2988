-- Listed entries, as rows.
use Rattle.std.proofs.Common.{◌≡◌, ℕ, Bool, true, false, not, ◌&&◌, ◌||◌, cond, List, [], ◌∷◌, Some, refl, sym, ◌∙◌, ap}
use Rattle.std.specs.Prelude.{if◌then◌else◌, bytes_eq, find}
use Rattle.std.specs.Option.{option_map_or}
use Rattle.std.proofs.lemmas.Bool.{and_parts}
use Rattle.desk_types.specs.declared.command.Command.{Command}
use Rattle.desk_types.specs.declared.command.Command.TheVariants as command
use Rattle.desk_types.specs.declared.kind.ListedKind.{ListedKind}
use Rattle.desk_types.specs.declared.kind.ListedKind.TheVariants as kinds
use Rattle.desk_history.specs.Calls.{History, Item, are_apart, is_same_kind}
use Rattle.desk_history.specs.declared.rows.Entry.{Entry}
use Rattle.desk_history.specs.Listing.{has_entry, is_about, is_entry, is_listed, listed, lists, relisted, without}
use Rattle.desk_history.specs.Laws.{ListsListed}
use Rattle.desk_history.proofs.ListLemmas.{apart-more, bytes_eq-refl, same_text}
use Rattle.desk_history.proofs.RunLemmas.{giving}

-- the kind and the digest of one entry are those of the other
abbrev is_one : ListedKind → List ℕ → ListedKind → List ℕ → Bool
is_one kind digest other d = is_same_kind kind other && bytes_eq digest d

pub same_kind : (a b : ListedKind) → is_same_kind a b ≡ true → a ≡ b
same_kind kinds.Digest kinds.Digest h = refl
same_kind kinds.Certificate kinds.Certificate h = refl
same_kind kinds.Digest kinds.Certificate h = cc
same_kind kinds.Certificate kinds.Digest h = cc

is_one-self : (kind : ListedKind) (digest : List ℕ) → is_one kind digest kind digest ≡ true
is_one-self kinds.Digest digest = bytes_eq-refl digest
is_one-self kinds.Certificate digest = bytes_eq-refl digest

pub same_entry : (a b : ListedKind) (d e : List ℕ) (x : Entry) → is_one a d b e ≡ true → is_entry a d x ≡ is_entry b e x
same_entry a b d e x h =
    let both : (is_same_kind a b ≡ true) × (bytes_eq d e ≡ true) = and_parts (is_same_kind a b) (bytes_eq d e) h in
    let kind : a ≡ b = same_kind a b both.0 in
    let digest : d ≡ e = same_text d e both.1 in
    ap (λ k. is_entry k d x) kind ∙ ap (λ t. is_entry b t x) digest

-- the entry that is left out isn't there
pub without_one : (kind : ListedKind) (digest : List ℕ) (rows : List Entry) → has_entry kind digest (without kind digest rows) ≡ false
without_one kind digest [] = refl
without_one kind digest (x ∷ rows) =
    elim (is_entry kind digest x) as (λ b. is_entry kind digest x ≡ b → has_entry kind digest (cond (not b) (x ∷ without kind digest rows) (without kind digest rows)) ≡ false) [
      | true ↦ λ e. without_one kind digest rows
      | false ↦ λ e. rw e (without_one kind digest rows)
    ] refl

-- another entry stays
without_other : (kind other : ListedKind) (digest d : List ℕ) (rows : List Entry) → is_one kind digest other d ≡ false →
    has_entry kind digest (without other d rows) ≡ has_entry kind digest rows
without_other kind other digest d [] h = refl
without_other kind other digest d (x ∷ rows) h =
    elim (is_entry other d x) as (λ b. is_entry other d x ≡ b → has_entry kind digest (cond (not b) (x ∷ without other d rows) (without other d rows)) ≡ (is_entry kind digest x || has_entry kind digest rows)) [
      | true ↦ λ e. without_other kind other digest d rows h ∙ sym (ap (λ b. b || has_entry kind digest rows) (unlike kind other digest d x.kind x.digest h e))
      | false ↦ λ e. ap (λ b. is_entry kind digest x || b) (without_other kind other digest d rows h)
    ] refl
  where
    unlike : (kind other : ListedKind) (digest d : List ℕ) (k : ListedKind) (t : List ℕ) → is_one kind digest other d ≡ false → is_one other d k t ≡ true → is_one kind digest k t ≡ false
    unlike kind other digest d k t h e =
        let both : (is_same_kind other k ≡ true) × (bytes_eq d t ≡ true) = and_parts (is_same_kind other k) (bytes_eq d t) e in
        ap (λ v. is_one kind digest v t) (sym (same_kind other k both.0)) ∙ (ap (λ v. is_one kind digest other v) (sym (same_text d t both.1)) ∙ h)

-- the entries after a call about this entry or another
taken_off : (kind other : ListedKind) (digest d : List ℕ) (rows : List Entry) (c : Item) (rest : Bool) → lists c.call.command ≡ false → has_entry kind digest rows ≡ rest →
    has_entry kind digest (without other d rows) ≡ (if is_one kind digest other d then lists c.call.command else rest)
taken_off kind other digest d rows c rest off h =
    elim (is_one kind digest other d) as (λ b. is_one kind digest other d ≡ b → has_entry kind digest (without other d rows) ≡ (if b then lists c.call.command else rest)) [
      | true ↦ λ e. same_without kind other digest d rows e ∙ sym off
      | false ↦ λ e. without_other kind other digest d rows e ∙ h
    ] refl
  where
    same_without : (kind other : ListedKind) (digest d : List ℕ) (rows : List Entry) → is_one kind digest other d ≡ true → has_entry kind digest (without other d rows) ≡ false
    same_without kind other digest d rows e =
        let both : (is_same_kind kind other ≡ true) × (bytes_eq digest d ≡ true) = and_parts (is_same_kind kind other) (bytes_eq digest d) e in
        ap (λ v. has_entry kind digest (without v d rows)) (sym (same_kind kind other both.0))
        ∙ (ap (λ v. has_entry kind digest (without kind v rows)) (sym (same_text digest d both.1)) ∙ without_one kind digest rows)

put_on : (kind other : ListedKind) (digest d : List ℕ) (body : List ℕ) (rows : List Entry) (c : Item) (rest : Bool) → lists c.call.command ≡ true → has_entry kind digest rows ≡ rest →
    has_entry kind digest (record { kind = other; digest = d; body = body } ∷ without other d rows) ≡ (if is_one kind digest other d then lists c.call.command else rest)
put_on kind other digest d body rows c rest on h =
    elim (is_one kind digest other d) as (λ b. is_one kind digest other d ≡ b → (b || has_entry kind digest (without other d rows)) ≡ (if b then lists c.call.command else rest)) [
      | true ↦ λ e. sym on
      | false ↦ λ e. without_other kind other digest d rows e ∙ h
    ] refl

-- the test of the last call about an entry, by whether this is one
chosen : (b : Bool) (c : Item) (found : History) (p : Item → Bool) → option_map_or (λ (x : Item). lists x.call.command) (if b then Some c else find p found) false ≡ (if b then lists c.call.command else option_map_or (λ (x : Item). lists x.call.command) (find p found) false)
chosen true c found p = refl
chosen false c found p = refl

one_call : (kind : ListedKind) (cs : History) (digest : List ℕ) → has_entry kind digest (listed cs) ≡ is_listed kind cs digest → (old : Item) (given : Command) →
    has_entry kind digest (relisted given (listed cs)) ≡ is_listed kind (giving old given ∷ cs) digest
one_call kind cs digest h old (command.ListDigest d) =
    put_on kind kinds.Digest digest d [] (listed cs) (giving old (command.ListDigest d)) (is_listed kind cs digest) refl h
    ∙ sym (chosen (is_one kind digest kinds.Digest d) (giving old (command.ListDigest d)) cs (λ (x : Item). is_about kind digest x.call.command))
one_call kind cs digest h old (command.ListCertificate c) =
    put_on kind kinds.Certificate digest c.tbs c.body (listed cs) (giving old (command.ListCertificate c)) (is_listed kind cs digest) refl h
    ∙ sym (chosen (is_one kind digest kinds.Certificate c.tbs) (giving old (command.ListCertificate c)) cs (λ (x : Item). is_about kind digest x.call.command))
one_call kind cs digest h old (command.Unlist l) =
    taken_off kind l.kind digest l.digest (listed cs) (giving old (command.Unlist l)) (is_listed kind cs digest) refl h
    ∙ sym (chosen (is_one kind digest l.kind l.digest) (giving old (command.Unlist l)) cs (λ (x : Item). is_about kind digest x.call.command))
one_call kind cs digest h old (command.AddPerson _) = h
one_call kind cs digest h old (command.Submit _) = h
one_call kind cs digest h old (command.Review _) = h
one_call kind cs digest h old (command.Withdraw _) = h
one_call kind cs digest h old (command.Return _) = h
one_call kind cs digest h old (command.RevokeDigest _) = h
one_call kind cs digest h old (command.RevokeCertificate _) = h
one_call kind cs digest h old (command.RaiseLevel _) = h
one_call kind cs digest h old (command.ImportRevocations _) = h
one_call kind cs digest h old (command.Confirm _) = h
one_call kind cs digest h old (command.Drop _) = h
one_call kind cs digest h old (command.Explain _) = h

pub listed_rows_are_listed : ListsListed
listed_rows_are_listed [] kind digest = refl
listed_rows_are_listed (i ∷ cs) kind digest = one_call kind cs digest (listed_rows_are_listed cs kind digest) i i.call.command

-- no entry is listed twice

abbrev pub apart : List Entry → Bool
apart rows = are_apart (λ (a b : Entry). is_entry a.kind a.digest b) rows

kept_apart : (kind : ListedKind) (digest : List ℕ) (x : Entry) (rows : List Entry) → has_entry x.kind x.digest rows ≡ false → has_entry x.kind x.digest (without kind digest rows) ≡ false
kept_apart kind digest x [] h = refl
kept_apart kind digest x (r ∷ rows) h =
    elim (is_entry kind digest r) as (λ b. has_entry x.kind x.digest (cond (not b) (r ∷ without kind digest rows) (without kind digest rows)) ≡ false) [
      | true ↦ kept_apart kind digest x rows (right (is_entry x.kind x.digest r) (has_entry x.kind x.digest rows) h)
      | false ↦ join (is_entry x.kind x.digest r) (has_entry x.kind x.digest rows) (has_entry x.kind x.digest (without kind digest rows)) h (kept_apart kind digest x rows)
    ]
  where
    right : (a b : Bool) → (a || b) ≡ false → b ≡ false
    right false b h = h
    right true b h = cc

    join : (a b d : Bool) → (a || b) ≡ false → (b ≡ false → d ≡ false) → (a || d) ≡ false
    join false b d h f = f h
    join true b d h f = cc

pub without_apart : (kind : ListedKind) (digest : List ℕ) (rows : List Entry) → apart rows ≡ true → apart (without kind digest rows) ≡ true
without_apart kind digest [] h = refl
without_apart kind digest (x ∷ rows) h =
    let both : (not (has_entry x.kind x.digest rows) ≡ true) × (apart rows ≡ true) = and_parts (not (has_entry x.kind x.digest rows)) (apart rows) h in
    elim (is_entry kind digest x) as (λ b. apart (cond (not b) (x ∷ without kind digest rows) (without kind digest rows)) ≡ true) [
      | true ↦ without_apart kind digest rows both.1
      | false ↦ apart-more (λ (a b : Entry). is_entry a.kind a.digest b) x (without kind digest rows) (kept_apart kind digest x rows (denied (has_entry x.kind x.digest rows) both.0)) (without_apart kind digest rows both.1)
    ]
  where
    denied : (b : Bool) → not b ≡ true → b ≡ false
    denied false h = refl
    denied true h = cc

one_apart : (rows : List Entry) → apart rows ≡ true → (given : Command) → apart (relisted given rows) ≡ true
one_apart rows h (command.ListDigest d) = apart-more (λ (a b : Entry). is_entry a.kind a.digest b) (record { kind = kinds.Digest; digest = d; body = [] }) (without kinds.Digest d rows) (without_one kinds.Digest d rows) (without_apart kinds.Digest d rows h)
one_apart rows h (command.ListCertificate c) = apart-more (λ (a b : Entry). is_entry a.kind a.digest b) (record { kind = kinds.Certificate; digest = c.tbs; body = c.body }) (without kinds.Certificate c.tbs rows) (without_one kinds.Certificate c.tbs rows) (without_apart kinds.Certificate c.tbs rows h)
one_apart rows h (command.Unlist l) = without_apart l.kind l.digest rows h
one_apart rows h (command.AddPerson _) = h
one_apart rows h (command.Submit _) = h
one_apart rows h (command.Review _) = h
one_apart rows h (command.Withdraw _) = h
one_apart rows h (command.Return _) = h
one_apart rows h (command.RevokeDigest _) = h
one_apart rows h (command.RevokeCertificate _) = h
one_apart rows h (command.RaiseLevel _) = h
one_apart rows h (command.ImportRevocations _) = h
one_apart rows h (command.Confirm _) = h
one_apart rows h (command.Drop _) = h
one_apart rows h (command.Explain _) = h

pub listed_apart : (cs : History) → apart (listed cs) ≡ true
listed_apart [] = refl
listed_apart (i ∷ cs) = one_apart (listed cs) (listed_apart cs) i.call.command
