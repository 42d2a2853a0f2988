-- The level's stamp after an accepted call.
use Rattle.std.proofs.Common.{◌≡◌, ℕ, List, [], ◌∷◌, refl, ◌∙◌, ap}
use Rattle.std.specs.Prelude.{fold}
use Rattle.desk_types.specs.declared.kind.ListedKind.{ListedKind}
use Rattle.desk_types.specs.declared.kind.ListedKind.TheVariants as kinds
use Rattle.desk_history.specs.declared.write.Write.{Write}
use Rattle.desk_history.specs.declared.write.Write.TheVariants as writes
use Rattle.desk_history.specs.Tables.{Tables}
use Rattle.desk_history.specs.Writes.{all_written, with_revoked, written}
use Rattle.store_decision_rows.specs.remembered.Steps.{last_stamp, stamp_after}

revoked_same : (kind : ListedKind) (digest : List ℕ) (t : Tables) → (with_revoked kind digest t).desk.stamp ≡ t.desk.stamp
revoked_same kinds.Digest digest t = refl
revoked_same kinds.Certificate digest t = refl

-- a write
written_stamp : (w : Write) (t : Tables) → (written w t).desk.stamp ≡ stamp_after t.desk.stamp w
written_stamp (writes.Stamp s) t = refl
written_stamp (writes.Person _) t = refl
written_stamp (writes.Call _) t = refl
written_stamp (writes.Request _) t = refl
written_stamp (writes.RequestCertificate _) t = refl
written_stamp (writes.RequestComponent _) t = refl
written_stamp (writes.Vote _) t = refl
written_stamp (writes.State _) t = refl
written_stamp (writes.Return _) t = refl
written_stamp (writes.List _) t = refl
written_stamp (writes.Unlist _) t = refl
written_stamp (writes.Revoke l) t = revoked_same l.kind l.digest t
written_stamp (writes.Component _) t = refl
written_stamp (writes.Generation _) t = refl
written_stamp (writes.Propose _) t = refl
written_stamp (writes.ProposalState _) t = refl

-- writes, one after another
pub all_stamped : (ws : List Write) (t : Tables) → (all_written ws t).desk.stamp ≡ last_stamp t.desk.stamp ws
all_stamped [] t = refl
all_stamped (w ∷ ws) t = all_stamped ws (written w t) ∙ ap (λ now. fold stamp_after now ws) (written_stamp w t)
