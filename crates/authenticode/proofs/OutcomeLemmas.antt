-- The one outcome of a table.
use Rattle.std.proofs.Common.{◌≡◌, ◌≢◌, ℕ, true, false, Bool, List, length, refl, ap, ◌∙◌, subst, inl, inr, arith}
use Rattle.std.specs.Prelude.{map}
use Rattle.base.specs.Digests.{IsArranged}
use Rattle.base.proofs.OrderLemmas.{IsArranged-one}
use Rattle.sha2.specs.Sha256.{sha256}
use Rattle.authenticode.specs.Carried.{Carries, GivesEntry, IsCarried, IsFirstFault, IsUnreadable, IsWalked, PassesLimit}
use Rattle.authenticode.specs.Walks.{Walks}
use Rattle.authenticode.specs.Table.{has_no_entry, is_end}
use Rattle.authenticode.specs.declared.fault.CarriedFault.{CarriedFault}
use Rattle.authenticode.specs.declared.fault.CarriedFault.TheVariants as fault
use Rattle.authenticode.proofs.StepLemmas.{Stops, Walks-end, Walks-same}
use Rattle.authenticode.proofs.CarriedLemmas.{entries_are_determined}

both : (b : Bool) → b ≡ true → b ≡ false → ⊥
both b h k = cc

-- ---- where a walk stops

end_stops : (left : List ℕ) → is_end left ≡ true → Stops GivesEntry left
end_stops left ended own next h = both (is_end left) ended h.goes_on

no_entry_stops : (left : List ℕ) → has_no_entry left ≡ true → Stops GivesEntry left
no_entry_stops left none own next h = both (has_no_entry left) none h.stands

unreadable_stops : (left : List ℕ) → IsUnreadable left → Stops GivesEntry left
unreadable_stops left bad own next h = elim h.gives [
  | inl g ↦ bad.none own g.1
  | inr g ↦ g.0 bad.signed
]

-- ---- the result of a walk to the end

walked_same : (table : List ℕ) (xs ys : List (List ℕ)) → IsWalked table xs → IsWalked table ys → xs ≡ ys
walked_same table xs ys h k =
    Walks-same GivesEntry entries_are_determined table h.left k.left xs ys h.walk k.walk (end_stops h.left h.ended) (end_stops k.left k.ended)

carries_one : (table : List ℕ) (ds es : List (List ℕ)) → Carries table ds → Carries table es → ds ≡ es
carries_one table ds es h k =
    let same = ap (map sha256) (walked_same table h.tbs k.tbs h.walked k.walked) in
    IsArranged-one (map sha256 k.tbs) ds es (subst (λ named. IsArranged named ds) same h.arranged) k.arranged

pub IsCarried-one : (table : List ℕ) (ds es : List (List ℕ)) → IsCarried table ds → IsCarried table es → ds ≡ es
IsCarried-one table ds es h k = carries_one table ds es h.0 k.0

-- ---- results that exclude one another

stuck : (table left : List ℕ) (xs ys : List (List ℕ)) → Walks GivesEntry table xs left → is_end left ≡ false → Stops GivesEntry left
    → IsWalked table ys → ⊥
stuck table left xs ys walk on stop is =
    let end = Walks-end GivesEntry entries_are_determined table left is.left xs ys walk is.walk stop (end_stops is.left is.ended) in
    both (is_end left) (ap is_end end ∙ is.ended) on

apart : (table b c : List ℕ) (xs ys : List (List ℕ)) → Walks GivesEntry table xs b → Walks GivesEntry table ys c → has_no_entry b ≡ true
    → IsUnreadable c → ⊥
apart table b c xs ys walk other none bad =
    let end = Walks-end GivesEntry entries_are_determined table b c xs ys walk other (no_entry_stops b none) (unreadable_stops c bad) in
    both (has_no_entry b) none (ap has_no_entry end ∙ bad.stands)

within : (table : List ℕ) (ds : List (List ℕ)) → IsCarried table ds → PassesLimit table → ⊥
within table ds h p = let size = ap length (carries_one table ds p.digests h.0 p.carries) in omega (arith, size, h.1, p.many)

pub IsCarried-no_fault : (table : List ℕ) (ds : List (List ℕ)) (f : CarriedFault) → IsCarried table ds → IsFirstFault table f → f ≡ fault.NoMemory
IsCarried-no_fault table ds fault.Table h k =
    absurd (stuck table k.left k.tbs h.0.tbs k.walk k.goes_on (no_entry_stops k.left k.refused) h.0.walked)
IsCarried-no_fault table ds fault.Der h k =
    absurd (stuck table k.left k.tbs h.0.tbs k.walk k.goes_on (unreadable_stops k.left k.refused) h.0.walked)
IsCarried-no_fault table ds fault.TooLong h k = absurd (within table ds h k)
IsCarried-no_fault table ds fault.NoMemory h k = refl

pub IsFirstFault-one : (table : List ℕ) (f g : CarriedFault) → f ≢ fault.NoMemory → g ≢ fault.NoMemory → IsFirstFault table f → IsFirstFault table g
    → f ≡ g
IsFirstFault-one table fault.Table fault.Table m n h k = refl
IsFirstFault-one table fault.Table fault.Der m n h k = absurd (apart table h.left k.left h.tbs k.tbs h.walk k.walk h.refused k.refused)
IsFirstFault-one table fault.Table fault.TooLong m n h k =
    absurd (stuck table h.left h.tbs k.carries.tbs h.walk h.goes_on (no_entry_stops h.left h.refused) k.carries.walked)
IsFirstFault-one table fault.Der fault.Table m n h k = absurd (apart table k.left h.left k.tbs h.tbs k.walk h.walk k.refused h.refused)
IsFirstFault-one table fault.Der fault.Der m n h k = refl
IsFirstFault-one table fault.Der fault.TooLong m n h k =
    absurd (stuck table h.left h.tbs k.carries.tbs h.walk h.goes_on (unreadable_stops h.left h.refused) k.carries.walked)
IsFirstFault-one table fault.TooLong fault.Table m n h k =
    absurd (stuck table k.left k.tbs h.carries.tbs k.walk k.goes_on (no_entry_stops k.left k.refused) h.carries.walked)
IsFirstFault-one table fault.TooLong fault.Der m n h k =
    absurd (stuck table k.left k.tbs h.carries.tbs k.walk k.goes_on (unreadable_stops k.left k.refused) h.carries.walked)
IsFirstFault-one table fault.TooLong fault.TooLong m n h k = refl
IsFirstFault-one table fault.NoMemory g m n h k = absurd (m refl)
IsFirstFault-one table f fault.NoMemory m n h k = absurd (n refl)
