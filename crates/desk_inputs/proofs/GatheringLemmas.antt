-- Entries gathered one by one.
use Rattle.std.proofs.Common.{◌≡◌, ℕ, ◌<◌, ◌≤◌, List, [], ◌∷◌, length, None, refl, sym, subst, arith}
use Rattle.std.specs.Prelude.{count_by}
use Rattle.std.specs.List.{flat_map}
use Rattle.std.proofs.lemmas.Grind.{common_steps}
use Rattle.sbat.specs.declared.component.Component.{Component}
use Rattle.desk_types.specs.Forms.{most_imported}
use Rattle.desk_types.specs.Imports.{named_count}
use Rattle.desk_inputs.specs.imports.Gathering.{Gathering, Gathers}
use Rattle.desk_inputs.specs.imports.Items.{certificate_in, component_in, digest_in, is_passed}
use Rattle.desk_inputs.specs.declared.imports.item.Item.{Item}
use Rattle.desk_inputs.specs.declared.imports.item.Item.TheVariants as item

-- each entry is named, or passed over, once
pub named_items : (items : List Item) → named_count (count_by is_passed items) (flat_map digest_in items) (flat_map certificate_in items) (flat_map component_in items) ≡ length items
named_items [] = refl
named_items (item.Digest d ∷ items) = let rest = named_items items in omega (arith, rest)
named_items (item.Certificate d ∷ items) = let rest = named_items items in omega (arith, rest)
named_items (item.Component c ∷ items) = let rest = named_items items in omega (arith, rest)
named_items (item.Passed ∷ items) = let rest = named_items items in grind (arith, common_steps, rest)

-- a gathering of these parts
abbrev pub gathering : ℕ → ℕ → List (List ℕ) → List (List ℕ) → List Component → Gathering
gathering count passed digests certificates components = record {
  count = count;
  names = record { stamp = None; passed = passed; digests = digests; certificates = certificates; components = components };
}

-- within the limit, all entries are named
pub gathered_count : (items : List Item) (g : Gathering) → Gathers items g → g.count ≤ most_imported
    → named_count g.names.passed g.names.digests g.names.certificates g.names.components ≡ length items
gathered_count items g h few = rw (h.named few) (named_items items)

-- so there are more entries than the limit where more are named
pub gathered_many : (items : List Item) (g : Gathering) (n p : ℕ) (ds cs : List (List ℕ)) (ks : List Component) → Gathers items g → gathering n p ds cs ks ≡ g
    → n ≤ most_imported → most_imported < named_count p ds cs ks → most_imported < length items
gathered_many items g n p ds cs ks h is few many =
    let count = gathered_count items (gathering n p ds cs ks) (subst (Gathers items) (sym is) h) few in
    omega (arith, count, many)
