-- Views of the lists without rows of other keys.
use Rattle.std.specs.Prelude.{IsTrue, All}
use Rattle.desk_history.specs.Calls.{is_among}
use Rattle.desk_types.specs.declared.kind.ListedKind.{ListedKind}
use Rattle.desk_rules.specs.declared.list_view.ListView.{ListView}
use Rattle.desk_rules.specs.Views.{Keys, keys_for, seen_revoked}

-- The view has no row beyond those of the keys: the digest of each listed row is a key of its kind
-- among the listed ones, each revoked digest is a key of its kind among the revoked ones, and the
-- name of each component is one of the names.
pub record HoldsNoOther (v : ListView) (k : Keys) : Type 0 where
  pub listed : All (λ row. IsTrue (is_among (keys_for k.listed row.kind) row.digest)) v.listed.items
  pub revoked : (kind : ListedKind) → All (λ digest. IsTrue (is_among (keys_for k.revoked kind) digest)) (seen_revoked v kind)
  pub components : All (λ row. IsTrue (is_among k.names row.name)) v.components.items
