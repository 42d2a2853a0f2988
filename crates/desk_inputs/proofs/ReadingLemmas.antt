-- Entries read one after another, and gathered.
use Rattle.std.proofs.Common.{◌≡◌, ℕ, ◌+◌, List, [], ◌∷◌, ◌++◌, map, refl, sym, ap, subst, ◌∙◌, append_assoc, append-nil, arith}
use Rattle.std.specs.List.{AllByRecursion, flat_map}
use Rattle.siglist.specs.Kinds.{kind_of}
use Rattle.siglist.specs.SignatureLists.{Entry, IsEntryOf, IsList, Placed, SignatureList, Spells, SpellsPlaced, list_size, placed_from}
use Rattle.siglist.specs.declared.kind.Kind.{Kind}
use Rattle.siglist.specs.declared.kind.Kind.TheVariants as kind
use Rattle.siglist.proofs.ChainLemmas.{WhichKind, which_kind}
use Rattle.desk_inputs.specs.imports.Entries.{Suits}
use Rattle.desk_inputs.specs.imports.FromLists.{item_of, list_items, row_items}
use Rattle.desk_inputs.specs.imports.Gathering.{Gathering, Gathers}
use Rattle.desk_inputs.specs.declared.imports.item.Item.{Item}

-- the entries of a list suit the kind that its type names
suits_kind : (l : SignatureList) (which : Kind) (e : Entry) → WhichKind l.kind which → IsList l → IsEntryOf l.entry_size e → Suits which e
unfolding WhichKind
suits_kind l kind.Sha256 e is h entry = let size = (h.keeps.sha256 is).1 in let whole = entry.size in omega (arith, size, whole)
suits_kind l kind.X509 e is h entry = tt
suits_kind l kind.X509Sha256 e is h entry = let size = (h.keeps.x509_sha256 is).1 in let whole = entry.size in omega (arith, size, whole)
suits_kind l (kind.Other guid) e is h entry = tt

all_suit : (l : SignatureList) (es : List Entry) → IsList l → AllByRecursion (IsEntryOf l.entry_size) es → AllByRecursion (Suits (kind_of l.kind)) es
all_suit l [] h entries = tt
all_suit l (e ∷ es) h entries = (suits_kind l (kind_of l.kind) e (which_kind l.kind) h entries.0, all_suit l es h entries.1)

-- the entries of a list so far, and those that are left
pub record Keeping (which : Kind) (all : List Item) (left : List Entry) (old new : Gathering) : Type 0 where
  pub done : List Item
  pub whole : done ++ map (item_of which) left ≡ all
  pub suit : AllByRecursion (Suits which) left
  pub kept : (items : List Item) → Gathers items old → Gathers (items ++ done) new

pub Keeping-begins : (l : SignatureList) (which : Kind) (left : List Entry) (old : Gathering) → which ≡ kind_of l.kind → left ≡ l.entries → IsList l → Keeping which (list_items l) left old old
Keeping-begins l which left old is goes h = rw (is, goes) (record {
  done = [];
  whole = refl;
  suit = all_suit l l.entries h h.entries;
  kept = λ items gathers. subst (λ xs. Gathers xs old) (sym (append-nil items)) gathers;
})

pub Keeping-next : (which : Kind) (all : List Item) (left es : List Entry) (e : Entry) (i : Item) (old now new : Gathering) → Keeping which all left old now → left ≡ e ∷ es → i ≡ item_of which e
    → ((items : List Item) → Gathers items now → Gathers (items ++ i ∷ []) new) → Keeping which all es old new
Keeping-next which all left es e i old now new h is item more = record {
  done = h.done ++ i ∷ [];
  whole = append_assoc h.done (i ∷ []) (map (item_of which) es) ∙ ap (λ x. h.done ++ x ∷ map (item_of which) es) item ∙ sym (ap (λ xs. h.done ++ map (item_of which) xs) is) ∙ h.whole;
  suit = (subst (AllByRecursion (Suits which)) is h.suit).1;
  kept = λ items gathers. subst (λ xs. Gathers xs new) (append_assoc items h.done (i ∷ [])) (more (items ++ h.done) (h.kept items gathers));
}

pub Keeping-ends : (which : Kind) (all : List Item) (left : List Entry) (old now : Gathering) → Keeping which all left old now → left ≡ [] → (items : List Item) → Gathers items old → Gathers (items ++ all) now
Keeping-ends which all left old now h is = λ items gathers.
    let whole = sym (append-nil h.done) ∙ sym (ap (λ xs. h.done ++ map (item_of which) xs) is) ∙ h.whole in
    subst (λ xs. Gathers (items ++ xs) now) whole (h.kept items gathers)

-- the entries of lists with their places
abbrev pub placed_items : List Placed → List Item
placed_items placed = flat_map (λ p. list_items p.list) placed

-- the bytes spell a row of lists: the entries of those so far, and the lists that are left
pub record Reading (bytes : List ℕ) (left : List Placed) (now : Gathering) : Type 0 where
  pub row : List SignatureList
  pub spelt : Spells row bytes
  pub done : List Item
  pub whole : done ++ placed_items left ≡ row_items row
  pub lists : AllByRecursion (λ p. IsList p.list) left
  pub gathers : Gathers done now

placed_all : (at : ℕ) (row : List SignatureList) (b : List ℕ) → Spells row b → (placed_items (placed_from at row) ≡ row_items row) × AllByRecursion (λ p. IsList p.list) (placed_from at row)
placed_all at [] b h = (refl, tt)
placed_all at (l ∷ ls) b h =
    let rest = placed_all (at + list_size l) ls h.0 h.3 in
    (ap (λ xs. list_items l ++ xs) rest.0, (h.1, rest.1))

pub Reading-begins : (bytes : List ℕ) (placed left : List Placed) (now : Gathering) → SpellsPlaced placed bytes → left ≡ placed → Gathers [] now → Reading bytes left now
Reading-begins bytes placed left now h is gathers =
    let all = placed_all 0 h.row bytes h.spelt in
    subst (λ ps. Reading bytes ps now) (sym (is ∙ h.places)) (record { row = h.row; spelt = h.spelt; done = []; whole = all.0; lists = all.1; gathers = gathers })

pub Reading-list : (bytes : List ℕ) (left ls : List Placed) (l : Placed) (now : Gathering) → Reading bytes left now → left ≡ l ∷ ls → IsList l.list
Reading-list bytes left ls l now h is = (subst (AllByRecursion (λ p. IsList p.list)) is h.lists).0

pub Reading-next : (bytes : List ℕ) (left ls : List Placed) (l : Placed) (now new : Gathering) → Reading bytes left now → left ≡ l ∷ ls
    → ((items : List Item) → Gathers items now → Gathers (items ++ list_items l.list) new) → Reading bytes ls new
Reading-next bytes left ls l now new h is more = record {
  row = h.row;
  spelt = h.spelt;
  done = h.done ++ list_items l.list;
  whole = append_assoc h.done (list_items l.list) (placed_items ls) ∙ sym (ap (λ xs. h.done ++ placed_items xs) is) ∙ h.whole;
  lists = (subst (AllByRecursion (λ p. IsList p.list)) is h.lists).1;
  gathers = more h.done h.gathers;
}

-- no list is left
pub Reading-ends : (bytes : List ℕ) (left : List Placed) (now : Gathering) (h : Reading bytes left now) → left ≡ [] → Gathers (row_items h.row) now
Reading-ends bytes left now h is =
    let whole = sym (append-nil h.done) ∙ sym (ap (λ xs. h.done ++ placed_items xs) is) ∙ h.whole in
    subst (λ xs. Gathers xs now) whole h.gathers
