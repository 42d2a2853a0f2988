-- What each text means, told by computing: UPDATE and DELETE. Other tables and indexes may come after the desk's.
use Rattle.std.proofs.Common.{[], ◌∷◌, codes, refl}
use Rattle.sqlite.specs.Listing.{understood}
use Rattle.sqlite_tied.specs.Compute.{everything}
use Rattle.store_sql.specs.Meanings.{DeletesRows, UpdatesRows}
use Rattle.store_sql.proofs.BesideLemmas.{beside_any}
use Rattle.store_schema.proofs.StandingFacts.{stands}
use Rattle.store_schema.specs.Named.{equals, set_to}
use Rattle.store_schema.specs.Tables.{desk_layout, desk, requests, listed, components, proposals}
use Rattle.store_schema.specs.declared.changing.TheConstants.{UPDATE_STAMP, UPDATE_STATE, UPDATE_GENERATION, UPDATE_PROPOSAL_STATE, UPDATE_VERSION, DELETE_LISTED}

pub update_stamp : UpdatesRows desk_layout 0 desk UPDATE_STAMP.now [] (set_to desk (codes "stamp") 0)
unfolding understood everything
update_stamp = beside_any desk_layout _ (λ others refer. record { stands = stands others refer 0 desk refl refl; means = refl; plain = (refl, refl); overlooks = λ _. tt; passes_over = λ _. tt })

pub update_state : UpdatesRows desk_layout 3 requests UPDATE_STATE.now (equals requests (codes "no") 0 ∷ []) (set_to requests (codes "state") 1)
unfolding understood everything
update_state = beside_any desk_layout _ (λ others refer. record { stands = stands others refer 3 requests refl refl; means = refl; plain = (refl, refl); overlooks = λ _. tt; passes_over = λ _. tt })

pub update_generation : UpdatesRows desk_layout 11 components UPDATE_GENERATION.now (equals components (codes "name") 0 ∷ []) (set_to components (codes "generation") 1)
unfolding understood everything
update_generation = beside_any desk_layout _ (λ others refer. record { stands = stands others refer 11 components refl refl; means = refl; plain = (refl, refl); overlooks = λ _ _ _. refl; passes_over = λ _ _ _. refl })

pub delete_listed : DeletesRows desk_layout 8 listed DELETE_LISTED.now (equals listed (codes "kind") 0 ∷ equals listed (codes "digest") 1 ∷ [])
unfolding understood everything
delete_listed = beside_any desk_layout _ (λ others refer. record { stands = stands others refer 8 listed refl refl; means = refl; plain = (refl, refl); overlooks = λ _ _ _. refl })

pub update_proposal_state : UpdatesRows desk_layout 12 proposals UPDATE_PROPOSAL_STATE.now (equals proposals (codes "no") 0 ∷ []) (set_to proposals (codes "state") 1)
unfolding understood everything
update_proposal_state = beside_any desk_layout _ (λ others refer. record { stands = stands others refer 12 proposals refl refl; means = refl; plain = (refl, refl); overlooks = λ _. tt; passes_over = λ _. tt })

pub update_version : UpdatesRows desk_layout 0 desk UPDATE_VERSION.now [] (set_to desk (codes "version") 0)
unfolding understood everything
update_version = beside_any desk_layout _ (λ others refer. record { stands = stands others refer 0 desk refl refl; means = refl; plain = (refl, refl); overlooks = λ _. tt; passes_over = λ _. tt })
